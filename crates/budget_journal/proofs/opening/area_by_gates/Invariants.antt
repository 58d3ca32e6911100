use Rattle.std.proofs.Common.{◌≡◌}
use Rattle.budget_journal.specs.declared.form.Form.TheVariants.{Many}
use Rattle.budget_journal.proofs.Gates.{GatesRead}
use Rattle.budget_journal.proofs.opening.area_by_gates.Given as goal

abbrev pub invariant-loop-number : goal.invariant-loop-number
invariant-loop-number l =
    record {
      read : GatesRead l.kept l.number l.live.number l.shut;
      form : l.live.form ≡ Many;
      capacity : l.live.capacity ≡ l.capacity;
    }
