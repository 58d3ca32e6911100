use Rattle.std.proofs.Common.{◌≡◌, ℕ, ◌-◌, [], ◌∷◌, ◌++◌, sym, subst, arith}
use Rattle.partition_charge.specs.declared.view.View.{View}
use Rattle.partition_charge.specs.declared.view.View.TheVariants.{Part}
use Rattle.partition_charge.specs.Views.{IsView}
use Rattle.partition_charge.specs.Totals.{HasPlaces}
use Rattle.partition_charge.proofs.Charges.{cost-nil}
use Rattle.partition_charge.proofs.Rooms.{place-free}
use Rattle.budget_core.proofs.Charging.{rises}
use Rattle.data_tests.proofs.charges.cost_of_a_thousand.Goals as goal

is-view : (view : View) (turn : ℕ) → view ≡ Part 1 (999 - turn) → IsView view
is-view view turn is = subst IsView (sym is) (omega arith, omega arith)

pub loop-turn-init : goal.loop-turn-init
loop-turn-init c = record {
  totals = ([], c.in_ok-costs.ensures.totals, omega (arith, cost-nil));
  places = subst (HasPlaces c.in_ok-costs.costs) (omega (arith, c.from.ensures)) c.in_ok-costs.ensures.places;
}

pub add-requires-clause-view : goal.add-requires-clause-view
add-requires-clause-view c = is-view c.part_from_the_last.result c.loop-turn.turn c.part_from_the_last.ensures

pub add-requires-clause-room : goal.add-requires-clause-room
add-requires-clause-room c =
    let so_far = c.loop-turn.invariant.totals in
    let view = c.part_from_the_last.result in
    (so_far.0, so_far.1, omega (arith, so_far.2, c.from-in-loop-turn.ensures, rises so_far.0 view c.from-in-loop-turn.result (is-view view c.loop-turn.turn c.part_from_the_last.ensures)))

pub add-requires-clause-place : goal.add-requires-clause-place
add-requires-clause-place c =
    place-free c.loop-turn.costs c.part_from_the_last.result (999 - c.loop-turn.turn)
    (subst (HasPlaces c.loop-turn.costs) (omega arith) c.loop-turn.invariant.places)

pub loop-turn-preserved : goal.loop-turn-preserved
loop-turn-preserved c =
    let so_far = c.loop-turn.invariant.totals in
    let view = c.part_from_the_last.result in
    record {
      totals = (
        so_far.0 ++ record { view = view; amount = c.from-in-loop-turn.result } ∷ [],
        c.add.ensures.totals so_far.0 so_far.1,
        omega (arith, so_far.2, c.from-in-loop-turn.ensures, rises so_far.0 view c.from-in-loop-turn.result (is-view view c.loop-turn.turn c.part_from_the_last.ensures)),
      );
      places = subst (HasPlaces c.add.new.self) (omega arith)
          (c.add.ensures.places (999 - c.loop-turn.turn) (subst (HasPlaces c.loop-turn.costs) (omega arith) c.loop-turn.invariant.places));
    }
