-- What is proved of the typing rules.
use Rattle.std.specs.Prelude.{Some, false, get_or, length, slice_get, suc, true, ℕ, ◌<◌, ◌↔◌, ◌≡◌, ◌≢◌, ◌≤◌}
use Rattle.fz_frac.specs.Distance.{Distance, Fin, Inf, mul, none, quotient, ◌⊑◌}
use Rattle.fz_ast.specs.Bare.{bare}
use Rattle.fz_ast.specs.Limits.{IsBang, TermLimits}
use Rattle.fz_ast.specs.Signature.{Signature, TableType}
use Rattle.fz_ast.specs.Terms.{Name, Term}
use Rattle.fz_ast.specs.Types.{NumT, Ty}
use Rattle.fz_ast.specs.declared.span.Span.{Span}
use Rattle.linear_types.specs.Fractions.{is_out_of_range}
use Rattle.linear_types.specs.Program.{Accepted, Faulty, context_of, greatest_of, is_endless, sensitivity_of, sensitivity_to}
use Rattle.linear_types.specs.Rule.{rule}
use Rattle.linear_types.specs.Sensitivities.{Sensitivities}
use Rattle.linear_types.specs.Typing.{AllTypes, Closed, Context, IsType, Typing, Under}
use Rattle.linear_types.specs.Inferred.{Fault, Has, NotNum, Range, Untyped, Unbounded}

-- what the function gives a type and sensitivities has them by the rules
abbrev pub RuleIsSound : Type 0
RuleIsSound = (Γ : Context) (t : Term) (A : Ty) (D : Sensitivities) → TermLimits t → rule Γ t ≡ Has A D → Typing Γ t A D

-- a term that has a type by the rules has that type and those sensitivities by the function,
-- exactly where no product, quotient or sum of its derivation is out of range
abbrev pub RuleIsComplete : Type 0
RuleIsComplete = (Γ : Context) (t : Term) (A : Ty) (D : Sensitivities) (p : Typing Γ t A D) → (rule Γ t ≡ Has A D) ↔ (is_out_of_range p ≡ false)

-- and it is refused by the function, always for its range, exactly where one is
abbrev pub RuleKeepsRange : Type 0
RuleKeepsRange = (Γ : Context) (t : Term) (A : Ty) (D : Sensitivities) (p : Typing Γ t A D) → ((s : Span) × (rule Γ t ≡ Untyped (Range s)))
    ↔ (is_out_of_range p ≡ true)

-- a term has at most one type, with one list of sensitivities
abbrev pub TypesAreUnique : Type 0
TypesAreUnique = (Γ : Context) (e : Term) (A B : Ty) (D E : Sensitivities) → Typing Γ e A D → Typing Γ e B E → (A ≡ B) × (D ≡ E)

-- blanks change no typing: a term and its bare term have the same type and sensitivities
abbrev pub SpansChangeNoTyping : Type 0
SpansChangeNoTyping = (Γ : Context) (t : Term) (A : Ty) (D : Sensitivities) → Typing Γ t A D ↔ Typing Γ (bare t) A D

-- where each name in scope has a type that can be written, so has each term that has one
abbrev pub TypesCanBeWritten : Type 0
TypesCanBeWritten = (Γ : Context) (e : Term) (A : Ty) (D : Sensitivities) → AllTypes Γ → Typing Γ e A D → IsType A

-- the scalar of `let !x` suffices
abbrev pub QuotientSuffices : Type 0
QuotientSuffices = (t s : Distance) → IsBang s → t ⊑ mul (quotient t s) s

-- and over a finite number no smaller one does
abbrev pub QuotientIsLeast : Type 0
QuotientIsLeast = (t k : Distance) (p q : ℕ) → IsBang (Fin p q) → t ⊑ mul k (Fin p q) → quotient t (Fin p q) ⊑ k

-- how many names are in scope
abbrev pub names_in : Context → ℕ
names_in Closed = 0
names_in (Under x A Γ) = suc (names_in Γ)

-- a term has sensitivities to names in scope alone
abbrev pub OnlyNamesInScope : Type 0
OnlyNamesInScope = (Γ : Context) (e : Term) (A : Ty) (D : Sensitivities) → Typing Γ e A D → length D ≤ names_in Γ

-- an accepted program is a number by the rules, its sensitivity is the greatest over the tables, and it isn't inf
abbrev pub AcceptedIsBounded : Type 0
AcceptedIsBounded =
    (ts : Signature) (t : Term) (D : Sensitivities) (r : Distance) → TermLimits t → sensitivity_of ts t ≡ Accepted D r
    → Typing (context_of ts) t NumT D × (r ≡ greatest_of D) × (is_endless r ≡ false) × ((x : Name) → sensitivity_to ts D x ⊑ r)

-- the sensitivity to the table at place i
abbrev pub sensitivity_at : Sensitivities → ℕ → Distance
sensitivity_at D i = get_or D i none

-- the first n tables aren't at inf
abbrev pub FiniteBelow : Sensitivities → ℕ → Type 0
FiniteBelow D n = (i : ℕ) → i < n → sensitivity_at D i ≢ Inf

-- x names a table at inf, and no table before it is at inf
abbrev pub IsFirstUnbounded : Signature → Sensitivities → Name → Type 0
IsFirstUnbounded ts D x = (i : ℕ) × (t : TableType) × (slice_get ts i ≡ Some t) × (t.name ≡ x) × (sensitivity_at D i ≡ Inf) × FiniteBelow D i

-- a program is accepted exactly where it is a number and no table is at inf
abbrev pub AcceptedExactly : Type 0
AcceptedExactly =
    (ts : Signature) (t : Term) (D : Sensitivities) (r : Distance)
    → (sensitivity_of ts t ≡ Accepted D r) ↔ ((rule (context_of ts) t ≡ Has NumT D) × FiniteBelow D (length ts) × (r ≡ greatest_of D))

-- a table is named exactly where it is the first at inf, whatever the program's type
abbrev pub UnboundedExactly : Type 0
UnboundedExactly =
    (ts : Signature) (t : Term) (x : Name)
    → (sensitivity_of ts t ≡ Faulty (Unbounded x)) ↔ ((A : Ty) × (D : Sensitivities) × (rule (context_of ts) t ≡ Has A D) × IsFirstUnbounded ts D x)

-- a program is said to be no number exactly where no table is at inf and its type is another
abbrev pub NotNumExactly : Type 0
NotNumExactly =
    (ts : Signature) (t : Term) (A : Ty)
    → (sensitivity_of ts t ≡ Faulty (NotNum A)) ↔ ((D : Sensitivities) × (rule (context_of ts) t ≡ Has A D) × FiniteBelow D (length ts) × (A ≢ NumT))

-- a term's own fault is the program's
abbrev pub FaultsAreKept : Type 0
FaultsAreKept = (ts : Signature) (t : Term) (f : Fault) → rule (context_of ts) t ≡ Untyped f → sensitivity_of ts t ≡ Faulty f
