-- Which names stand in a term, at worked examples.
use Rattle.std.proofs.Common.{ap, arith, get_or, inl, inr, refl}
use Rattle.std.specs.Prelude.{[], ◌∷◌, ◌≡◌, pos}
use Rattle.fz_ast.specs.Bare.{nowhere}
use Rattle.fz_ast.specs.Terms.{CaseE, FnE, FunE, LetBangE, LetE, LetPairE, Name, NumE, TextE}
use Rattle.fz_ast.specs.Types.{NumT}
use Rattle.fz_lexer.specs.declared.token.Kind.{Kind}
use Rattle.fz_lexer.specs.declared.token.Kind.TheVariants.{Name as NameKind, Reserved, Text}
use Rattle.fz_lexer.specs.declared.token.Token.{Token}
use Rattle.fz_lexer.specs.declared.token.Word.TheVariants.{Let}
use Rattle.fz_derive.specs.Names.{EveryName, HasName}
use Rattle.fz_derive.proofs.ExampleLines.{term, var, x, y}

-- the property of being x
abbrev IsX : Name → Type 0
IsX z = z ≡ x

y_is_not_x : y ≡ x → ⊥
y_is_not_x h = absurd (omega (arith, ap (λ z. get_or z 0 0) h))

-- numbers and texts have no name
without_names : EveryName IsX (term (NumE (pos 7))) × EveryName IsX (term (TextE y))
without_names = (tt, tt)

-- each variable counts, and each name that is bound, though nothing has it
variables : EveryName IsX (var x) × (EveryName IsX (var y) → ⊥)
variables = (refl, y_is_not_x)

let_names :
    EveryName IsX (term (LetE x (var x) (var x)))
    × (EveryName IsX (term (LetE y (var x) (var x))) → ⊥)
    × (EveryName IsX (term (LetE x (var y) (var x))) → ⊥)
    × (EveryName IsX (term (LetE x (var x) (var y))) → ⊥)
    × (EveryName IsX (term (LetBangE y (var x) (var x))) → ⊥)
let_names = ((refl, refl, refl), λ h. y_is_not_x h.0, λ h. y_is_not_x h.1, λ h. y_is_not_x h.2, λ h. y_is_not_x h.0)

pair_names :
    EveryName IsX (term (LetPairE x x (var x) (var x)))
    × (EveryName IsX (term (LetPairE y x (var x) (var x))) → ⊥)
    × (EveryName IsX (term (LetPairE x y (var x) (var x))) → ⊥)
pair_names = ((refl, refl, refl, refl), λ h. y_is_not_x h.0, λ h. y_is_not_x h.1)

case_names :
    EveryName IsX (term (CaseE (var x) x (var x) x (var x)))
    × (EveryName IsX (term (CaseE (var x) y (var x) x (var x))) → ⊥)
    × (EveryName IsX (term (CaseE (var x) x (var x) y (var x))) → ⊥)
case_names = ((refl, refl, refl, refl, refl), λ h. y_is_not_x h.1, λ h. y_is_not_x h.3)

function_names :
    EveryName IsX (term (FunE x nowhere NumT (var x)))
    × (EveryName IsX (term (FunE y nowhere NumT (var x))) → ⊥)
    × (EveryName IsX (term (FnE y nowhere NumT (var x))) → ⊥)
function_names = ((refl, refl), λ h. y_is_not_x h.0, λ h. y_is_not_x h.0)

abbrev token : Kind → Token
token kind = record { kind = kind; span = nowhere }

-- a name's token, wherever it stands; no word of the language and no text is one
names_of_tokens :
    HasName (token (NameKind y) ∷ token (NameKind x) ∷ []) x
    × (HasName (token (NameKind y) ∷ []) x → ⊥)
    × (HasName (token (Reserved Let) ∷ token (Text x) ∷ []) x → ⊥)
    × (HasName [] x → ⊥)
names_of_tokens = (inr (inl refl), one_other, none, λ h. h)
  where
    one_other : HasName (token (NameKind y) ∷ []) x → ⊥
    one_other (inl h) = y_is_not_x (cc h)
    one_other (inr h) = h

    none : HasName (token (Reserved Let) ∷ token (Text x) ∷ []) x → ⊥
    none (inl h) = absurd (cc h)
    none (inr (inl h)) = absurd (cc h)
    none (inr (inr h)) = h
