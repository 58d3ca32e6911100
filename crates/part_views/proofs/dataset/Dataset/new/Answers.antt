-- What is held keeps the rules, and its parts are made.
use Rattle.std.proofs.Common.{sym, subst}
use Rattle.fz_ast.specs.Signature.{Signature}
use Rattle.metric_values.specs.Tables.{IsDataset}
use Rattle.owner_catalog.specs.Entries.{owner_entry_at}
use Rattle.part_views.proofs.Lawful.{owner_partitions}
use Rattle.part_views.proofs.dataset.Dataset.new.Goals as goal

pub invariant_of-result : goal.invariant_of-result
invariant_of-result c =
    let owner = owner_entry_at c.args.catalog.now c.args.owner in
    let lawful = owner_partitions owner (c.owners.ensures.legal.owners c.args.owner _ c.requires.owner) in
    record {
      holding = record {
        signature = c.table.ensures.signature;
        dataset = subst (λ (tables : Signature). IsDataset tables c.args.tables) (sym c.in_ok-sig.ensures) c.requires.rows;
        partitions = rw (c.in_ok-sig.ensures, c.in_ok-divisions.ensures.partitions) lawful;
      };
      divided = c.in_ok-divisions.ensures.parts;
    }
