-- The numbers of the typing rules, which go by the places of names, and those of the least derivation, which go by names.
use Rattle.std.specs.Prelude.{◌≡◌, Some, ⊤}
use Rattle.fz_frac.specs.Distance.{◌≈◌}
use Rattle.fz_ast.specs.Limits.{TermLimits}
use Rattle.fz_ast.specs.Terms.{Term}
use Rattle.fz_ast.specs.Types.{Ty}
use Rattle.fz_derive.specs.Least.{Derived, least}
use Rattle.derivation_rows.specs.Numbers.{Amounts, says_at, without}
use Rattle.linear_types.specs.Inferred.{Has}
use Rattle.linear_types.specs.Rule.{rule}
use Rattle.linear_types.specs.Sensitivities.{Sensitivities, first, rest}
use Rattle.linear_types.specs.Typing.{AllTypes, Closed, Context, Under}

-- the list has at each name's place what is said of the name; a hidden name's place has 0
abbrev pub SaySame : Context → Sensitivities → Amounts → Type 0
SaySame Closed D E = ⊤
SaySame (Under x A Γ) D E = (first D ≈ E x) × SaySame Γ (rest D) (without x E)

-- the least derivation of a term that has this type and these sensitivities by the typing rules
pub record IsLeastOf (Γ : Context) (e : Term) (A : Ty) (D : Sensitivities) : Type 0 where
  pub derived : Derived
  pub is : least Γ e ≡ Some derived
  pub type : derived.own.ty ≡ A
  pub numbers : SaySame Γ D (says_at derived.own)

-- A term that the typing rules accept has a least derivation, whose first line has its type and its sensitivities. So has each of its
-- parts, in its own context.
abbrev pub RulesAreLeast : Type 0
RulesAreLeast = (Γ : Context) (e : Term) (A : Ty) (D : Sensitivities) → AllTypes Γ → TermLimits e → rule Γ e ≡ Has A D → IsLeastOf Γ e A D
