-- What a derivation promises.
use Rattle.std.specs.Prelude.{◌≡◌, ◌↔◌, ◌⊎◌, ℕ, List, ◌∷◌, length, Some, None}
use Rattle.fz_frac.specs.Distance.{Distance}
use Rattle.fz_ast.specs.Limits.{TermLimits}
use Rattle.fz_ast.specs.Signature.{IsSignature, Signature}
use Rattle.fz_ast.specs.Terms.{Term}
use Rattle.fz_ast.specs.Types.{Ty}
use Rattle.metric_values.specs.Values.{Env, Value}
use Rattle.term_meanings.specs.Environments.{NearEnv, TypedEnv, dot}
use Rattle.term_meanings.specs.Means.{Means}
use Rattle.term_meanings.specs.Near.{Near, Typed}
use Rattle.term_meanings.specs.Scopes.{AllTypes, Context}
use Rattle.term_meanings.specs.Sensitivities.{Sensitivities}
use Rattle.fz_derive.specs.Bound.{HasBound}
use Rattle.fz_derive.specs.ByPlace.{Derivable, by_place}
use Rattle.fz_derive.specs.Derivable.{Derives, IsDerivable}
use Rattle.fz_derive.specs.Judged.{fault_of, greatest_said, names_of, IsJudged, IsMisjudged}
use Rattle.fz_derive.specs.Least.{Derived, least, lines_of}
use Rattle.derivation_lines.specs.Lines.{Line, line_at, amount_in}
use Rattle.derivation_rows.specs.Nodes.{nodes_of}

-- what is derived by names is derived by places
abbrev pub DerivedByPlace : Type 0
DerivedByPlace = (Γ : Context) (e : Term) (l : Line) (below : List Line) → TermLimits e → Derives Γ e (l ∷ below) → Derivable Γ e l.ty (by_place Γ (amount_in l.says))

-- what is derived of a term bounds how far its values on near environments are apart
abbrev pub DerivedIsBounded : Type 0
DerivedIsBounded =
    (Γ : Context) (e : Term) (A : Ty) (D : Sensitivities) → AllTypes Γ → Derivable Γ e A D
    → (γ γ' : Env) (δ : List Distance) → TypedEnv Γ γ → TypedEnv Γ γ' → NearEnv Γ γ γ' δ
    → (v w : Value) → Means γ e v → Means γ' e w → Near A v w (dot D δ)

-- and a term of which something is derived has a value, which is of the type
abbrev pub DerivedHasValue : Type 0
DerivedHasValue =
    (Γ : Context) (e : Term) (A : Ty) (D : Sensitivities) → AllTypes Γ → Derivable Γ e A D
    → (γ : Env) → TypedEnv Γ γ → (v : Value) × Means γ e v × Typed A v

-- a program that is derivable is bounded by the greatest of what its first line says
abbrev pub DerivableIsBounded : Type 0
DerivableIsBounded =
    (ts : Signature) (e : Term) (lines : List Line) → IsSignature ts → TermLimits e → IsDerivable ts e lines → HasBound ts e (greatest_said (line_at lines 0).says)

-- for all bytes, where they are judged to be a number, that number bounds the program
abbrev pub JudgedIsBounded : Type 0
JudgedIsBounded = (ts : Signature) (e : Term) (bytes : List ℕ) (r : Distance) → IsSignature ts → TermLimits e → IsJudged ts e bytes r → HasBound ts e r

-- of lines that are as many as the nodes, none is at fault exactly where they are a derivation
abbrev pub DerivableExactly : Type 0
DerivableExactly =
    (ts : Signature) (e : Term) (lines : List Line) → length lines ≡ nodes_of e → (fault_of ts e lines ≡ None) ↔ IsDerivable ts e lines

-- a derivation has a line for each node
abbrev pub LinesAreNodes : Type 0
LinesAreNodes = (Γ : Context) (e : Term) (lines : List Line) → Derives Γ e lines → length lines ≡ nodes_of e

-- the least derivation of a term, where there is one, is a derivation
abbrev pub LeastIsDerived : Type 0
LeastIsDerived = (Γ : Context) (e : Term) (d : Derived) → least Γ e ≡ Some d → Derives Γ e (lines_of d)

-- all bytes are judged, in one way: a number, and one alone, or a least line at fault, and one alone
abbrev pub OneNumber : Type 0
OneNumber = (ts : Signature) (e : Term) (bytes : List ℕ) (r s : Distance) → IsJudged ts e bytes r → IsJudged ts e bytes s → r ≡ s

abbrev pub NumberOrLine : Type 0
NumberOrLine = (ts : Signature) (e : Term) (bytes : List ℕ) (r : Distance) (k : ℕ) → IsJudged ts e bytes r → IsMisjudged ts e bytes k → ⊥

abbrev pub OneLine : Type 0
OneLine = (ts : Signature) (e : Term) (bytes : List ℕ) (j k : ℕ) → IsMisjudged ts e bytes j → IsMisjudged ts e bytes k → j ≡ k

abbrev pub EitherForAllBytes : Type 0
EitherForAllBytes = (ts : Signature) (e : Term) (bytes : List ℕ) → ((r : Distance) × IsJudged ts e bytes r) ⊎ ((k : ℕ) × IsMisjudged ts e bytes k)
