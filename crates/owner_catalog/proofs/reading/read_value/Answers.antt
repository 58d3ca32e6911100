-- A catalog that was read keeps the rules.
use Rattle.serde_json.specs.View.{view}
use Rattle.owner_catalog.proofs.Laws.{parts_ok}
use Rattle.owner_catalog.proofs.reading.read_value.Goals as goal

pub invariant_of-result : goal.invariant_of-result
invariant_of-result c =
    parts_ok c.in_ok-analysts.analysts.items c.in_ok-owners.owners.items _ (view c.args.value.now)
    c.in_ok-analysts.ensures.list (rw c.deref.ensures.value at c.in_ok-owners.ensures.list)
