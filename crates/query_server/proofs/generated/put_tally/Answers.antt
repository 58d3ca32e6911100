use Rattle.std.proofs.Common.{◌++◌, ◌∷◌, [], codes}
use Rattle.std.specs.Prelude.{decimal}
use Rattle.std.specs.Fmt.{signed_decimal}
use Rattle.query_server.specs.Gen.{tally_text}
use Rattle.query_server.proofs.Counted.{last_piece, one_tally}
use Rattle.query_server.proofs.generated.put_tally.Goals as goal

pub returns : goal.returns
returns c =
    let t = c.args.tally.now in
    last_piece c.extend_from_slice-2.result c.extend_from_slice-2.new.self.items c.put_sum.new.lines.items (10 ∷ []) (c.args.lines.now.items ++ tally_text t) c.extend_from_slice-2.ensures.items
    (rw (
      c.in_ok-put_sum.ensures,
      c.in_ok-extend_from_slice.ensures.items,
      c.in_ok-put_field-5.ensures,
      c.in_ok-put_field-4.ensures,
      c.in_ok-put_field-3.ensures,
      c.in_ok-put_field-2.ensures,
      c.in_ok-put_field.ensures,
      c.from.ensures,
      c.from-2.ensures,
      c.from-3.ensures,
      c.from-4.ensures,
    )
    (one_tally c.args.lines.now.items (codes "asks ") (decimal t.asks) (codes " answered ") (decimal t.answered) (codes " exhausted ") (decimal t.exhausted) (codes " over ") (decimal t.over)
    (codes " spent ") (decimal t.spent) (codes " sum ") (signed_decimal t.sum) (10 ∷ [])))
