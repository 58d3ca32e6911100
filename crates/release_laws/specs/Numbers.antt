-- What a number's value and a term's place change: nothing of its type, its sensitivities, and its run without data.
use Rattle.std.specs.Prelude.{◌≡◌}
use Rattle.fz_frac.specs.Distance.{Distance}
use Rattle.fz_ast.specs.Limits.{TermLimits}
use Rattle.fz_ast.specs.Signature.{Signature}
use Rattle.fz_ast.specs.Terms.{Term}
use Rattle.linear_types.specs.Program.{Accepted, sensitivity_of}
use Rattle.linear_types.specs.Sensitivities.{Sensitivities}
use Rattle.shape_law.specs.Walk.{Stops, ShapeFault, TooManyWalks, Shaped, Tally, shape}
use Rattle.shape_law.specs.Shapes.{Shape}
use Rattle.release_laws.specs.Outline.{outline}

-- two terms that differ in spans and in the values of numbers alone
abbrev pub AreAlike : Term → Term → Type 0
AreAlike t u = outline t ≡ outline u

-- such terms are accepted with the same sensitivities, or both aren't
abbrev pub NumbersChangeNoSensitivity : Type 0
NumbersChangeNoSensitivity =
    (ts : Signature) (t u : Term) (D : Sensitivities) (r : Distance) → TermLimits t → TermLimits u → AreAlike t u
    → sensitivity_of ts t ≡ Accepted D r → sensitivity_of ts u ≡ Accepted D r

-- and have the same plan, or neither has one; both take too many walks, or neither does
abbrev pub NumbersChangeNoPlan : Type 0
NumbersChangeNoPlan =
    (ts : Signature) (t u : Term) (s : Shape) (k : Tally) → AreAlike t u → shape ts t ≡ Shaped s k → (r : Shape) × (shape ts u ≡ Shaped r k)

abbrev pub NumbersChangeNoWalks : Type 0
NumbersChangeNoWalks = (ts : Signature) (t u : Term) → AreAlike t u → shape ts t ≡ TooManyWalks → shape ts u ≡ TooManyWalks

-- whichever limit the one passes, the other passes
abbrev pub NumbersChangeNoLimit : Type 0
NumbersChangeNoLimit =
    (ts : Signature) (t u : Term) (f : ShapeFault) → AreAlike t u → shape ts t ≡ Stops f → (g : ShapeFault) × (shape ts u ≡ Stops g)
