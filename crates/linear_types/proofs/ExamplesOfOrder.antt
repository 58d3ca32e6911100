-- Parts are checked in the order in which they are written: where several are at fault, the first of them is told.
use Rattle.std.proofs.Common.{refl}
use Rattle.std.specs.Prelude.{ℕ, ◌≡◌}
use Rattle.fz_ast.specs.Terms.{AppE, CaseE, EqE, FilterE, IfE, LeE, LetBangE, LetE, LetPairE, MapE, MinusE, PairE, PlusE, SplitE, TermForm, UnionE, WithE}
use Rattle.fz_ast.specs.Types.{BoolT, NumT, Ty}
use Rattle.linear_types.proofs.ExampleTerms.{given, missing, n, span, var, whole, x, y}
use Rattle.linear_types.specs.Inferred.{Unbound, Untyped}
use Rattle.linear_types.specs.Rule.{rule}

-- of two parts with names in no scope, that at span k is told
abbrev Told : Ty → ℕ → TermForm → Type 0
Told A k form = rule (given A) (whole form) ≡ Untyped (Unbound (span k))

two_parts :
    Told NumT 1 (AppE (missing 1) (missing 2))
    × Told NumT 1 (PairE (missing 1) (missing 2))
    × Told NumT 1 (WithE (missing 1) (missing 2))
    × Told NumT 1 (PlusE (missing 1) (missing 2))
    × Told NumT 1 (MinusE (missing 1) (missing 2))
    × Told NumT 1 (LeE (missing 1) (missing 2))
    × Told NumT 1 (EqE (missing 1) (missing 2))
    × Told NumT 1 (UnionE (missing 1) (missing 2))
    × Told NumT 1 (MapE (missing 1) (missing 2))
    × Told NumT 1 (FilterE (missing 1) (missing 2))
    × Told NumT 1 (SplitE (missing 1) (missing 2))
two_parts = (refl, refl, refl, refl, refl, refl, refl, refl, refl, refl, refl)

-- the condition, the first branch, the second branch
three_parts :
    Told BoolT 1 (IfE (missing 1) (missing 2) (missing 3))
    × Told BoolT 2 (IfE (var 1 x) (missing 2) (missing 3))
    × Told BoolT 3 (IfE (var 1 x) (var 2 x) (missing 3))
three_parts = (refl, refl, refl)

-- what a name is bound to comes before where the name stands
bound_parts :
    Told NumT 1 (LetE y (missing 1) (missing 2))
    × Told NumT 1 (LetBangE y (missing 1) (missing 2))
    × Told NumT 1 (LetPairE y n (missing 1) (missing 2))
    × Told NumT 1 (CaseE (missing 1) y (missing 2) n (missing 3))
    × Told BoolT 2 (CaseE (var 1 x) y (missing 2) n (missing 3))
    × Told BoolT 3 (CaseE (var 1 x) y (var 2 x) n (missing 3))
bound_parts = (refl, refl, refl, refl, refl, refl)
