-- What a visit answers, by the definition's outcome.
use Rattle.std.specs.Prelude.{ℕ, false, ◌≡◌, List, MatchResult, Result, ⊤}
use Rattle.fz_ast.specs.Terms.{Term}
use Rattle.shape_law.specs.Shapes.{Shape}
use Rattle.shape_law.specs.Walk.{Shaped, Stops, Tally, TooDeep, TooLong, TooManyWalks, TooWide, WalkOutcome}
use Rattle.shape_run.specs.Cells.{IsShape}
use Rattle.shape_run.specs.declared.store.Cell.{Cell}
use Rattle.shape_run.specs.declared.plan.Count.{Count}
use Rattle.shape_run.specs.declared.plan.Plan.{Plan}
use Rattle.shape_run.specs.declared.plan.ShapeFault.{ShapeFault}
use Rattle.shape_run.specs.declared.plan.ShapeFault.TheVariants.{NoMemory, TooDeep as Deep, TooLong as Long, TooManyWalks as Walks, TooWide as Broad}

abbrev pub tally_of : Count → Tally
tally_of count = record {
  turns = count.plan.turns;
  depth = count.plan.depth;
  width = count.plan.width;
  walks = count.plan.walks;
  reach = count.plan.reach;
  too_many = count.too_many;
}

-- a plan is of a run whose walks aren't too many
abbrev pub planned : Plan → Tally
planned plan = tally_of (record { plan = plan; too_many = false })

-- the outcome is just this limit, with its span and width, or it is too many walks; want of memory may come at any time
abbrev pub StopsAt : ShapeFault → WalkOutcome → Type 0
StopsAt (Deep s) o = o ≡ Stops (TooDeep s)
StopsAt (Long s) o = o ≡ Stops (TooLong s)
StopsAt (Broad s w) o = o ≡ Stops (TooWide s w)
StopsAt Walks o = o ≡ TooManyWalks
StopsAt NoMemory o = ⊤

-- the answer is that outcome, of the shape in a cell, with this count
abbrev pub Tells : List Term → List Cell → Count → Result ℕ ShapeFault → WalkOutcome → Type 0
Tells N cs k r o = MatchResult r (λ n. (p : Shape) × IsShape N cs n p × (o ≡ Shaped p (tally_of k))) (λ e. StopsAt e o)
