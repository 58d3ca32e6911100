use Rattle.std.proofs.Common.{◌++◌, ◌∷◌, [], codes}
use Rattle.std.specs.Prelude.{decimal}
use Rattle.budget_core.specs.Answers.{counts_of}
use Rattle.budget_core.specs.Cost.{cost_of, budget_of}
use Rattle.owner_catalog.specs.Entries.{owner_entry_at}
use Rattle.query_server.specs.Audit.{counted_line}
use Rattle.query_server.proofs.Counted.{last_piece, one_line}
use Rattle.query_server.proofs.audit.put_counted.Goals as goal

pub returns : goal.returns
returns g c =
    let entry = c.args.book.now.ledger.entry in
    let records = c.args.book.now.ledger.records in
    let owner = owner_entry_at c.args.catalog.now c.args.owner in
    last_piece c.extend_from_slice-2.result c.extend_from_slice-2.new.self.items c.put_field-6.new.lines.items (10 ∷ [])
    (c.args.lines.now.items ++ counted_line entry owner records) c.extend_from_slice-2.ensures.items
    (rw (
      c.in_ok-put_field-6.ensures,
      c.in_ok-put_field-5.ensures,
      c.in_ok-put_field-4.ensures,
      c.in_ok-put_field-3.ensures,
      c.in_ok-put_field-2.ensures,
      c.in_ok-put_field.ensures,
      c.in_ok-extend_from_slice.ensures.items,
      c.as_bytes.ensures.value,
      c.owner_name.ensures,
      c.from.ensures,
      c.from-2.ensures,
      c.from-3.ensures,
      c.from-4.ensures,
      c.counts-counts.ensures,
      c.left-left.ensures,
    )
    (one_line c.args.lines.now.items owner.name (codes " reservations ") (decimal (counts_of records).reservations) (codes " answered ") (decimal (counts_of records).answered)
    (codes " exhausted ") (decimal (counts_of records).exhausted) (codes " lost ") (decimal (counts_of records).lost) (codes " spent ") (decimal (cost_of entry records))
    (codes " budget ") (decimal (budget_of entry records)) (10 ∷ [])))
