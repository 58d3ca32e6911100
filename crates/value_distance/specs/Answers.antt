-- The distance that an answer stands for.
use Rattle.std.specs.Prelude.{◌≡◌, ◌⊎◌, Err, Ok, Result, false, true, ⊤}
use Rattle.fz_ast.specs.Types.{Ty}
use Rattle.fz_frac.specs.Distance.{Distance, Fin, Inf}
use Rattle.fz_frac.specs.Lowest.{lowest}
use Rattle.metric_values.specs.Distances.{distance_between}
use Rattle.metric_values.specs.Values.{Value}
use Rattle.run_values.specs.Parts.{first_in, second_in}
use Rattle.value_distance.specs.Widths.{some_wide}
use Rattle.value_distance.specs.declared.dist.Dist.{Dist}
use Rattle.value_distance.specs.declared.dist.Dist.TheVariants.{Finite, Inf as Endless}
use Rattle.value_distance.specs.declared.dist.DistFault.{DistFault}
use Rattle.value_distance.specs.declared.dist.DistFault.TheVariants.{Range, NoMemory as OutOfMemory}

abbrev pub answered : Dist → Distance
answered (Finite r) = Fin r.p r.q
answered Endless = Inf

-- what is answered for two values of a type: their distance in lowest terms; `Range` where some part's is wide, and only there
abbrev pub IsDistanceAnswer : Result Dist DistFault → Ty → Value → Value → Type 0
IsDistanceAnswer (Ok d) A v w = (answered d ≡ lowest (distance_between A v w)) × (some_wide A v w ≡ false)
IsDistanceAnswer (Err Range) A v w = some_wide A v w ≡ true
IsDistanceAnswer (Err OutOfMemory) A v w = ⊤

-- what is answered for the two halves of pairs: both, or one's fault
abbrev pub AreHalves : Result (Dist × Dist) DistFault → Ty → Ty → Value → Value → Type 0
AreHalves (Ok d) A B v w = IsDistanceAnswer (Ok d.0) A (first_in v) (first_in w) × IsDistanceAnswer (Ok d.1) B (second_in v) (second_in w)
AreHalves (Err e) A B v w = IsDistanceAnswer (Err e) A (first_in v) (first_in w) ⊎ IsDistanceAnswer (Err e) B (second_in v) (second_in w)
