-- The distance that a sensitivity stands for.
use Rattle.std.specs.Prelude.{◌<◌}
use Rattle.fz_frac.specs.Distance.{Distance, Fin, Inf}
use Rattle.fz_frac.specs.declared.sens.Sens.{Sens}
use Rattle.fz_frac.specs.declared.sens.Sens.TheVariants.{Finite, Inf as Endless}

abbrev pub distance_of : Sens → Distance
distance_of (Finite f) = Fin f.p f.q
distance_of Endless = Inf

-- what may divide: finite and above 0
abbrev pub IsDivisor : Sens → Type 0
IsDivisor (Finite f) = 0 < f.p
IsDivisor Endless = ⊥
