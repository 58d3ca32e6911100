-- A phrase that may be read by itself is a term, a type or a sensitivity, and what is said of the phrase is said of these.
use Rattle.std.proofs.Common.{◌≡◌, ℕ, List, ◌++◌, refl, arith, sym, ap, ◌∙◌, subst, Result, Ok, Err}
use Rattle.std.specs.Result.{IfErr, IsErrAnd}
use Rattle.fz_frac.specs.Distance.{Distance}
use Rattle.fz_ast.specs.declared.span.Span.{Span}
use Rattle.fz_ast.specs.Types.{Ty}
use Rattle.fz_ast.specs.Terms.{Term}
use Rattle.fz_lexer.specs.declared.token.Token.{Token}
use Rattle.fz_parser.specs.declared.fault.ParseFault.{ParseFault}
use Rattle.fz_parser.specs.declared.fault.ParseFault.TheVariants.{Stuck, TooNested, NoMemory}
use Rattle.fz_parser.specs.declared.grammar.Phrase.{Phrase}
use Rattle.fz_parser.specs.declared.grammar.Phrase.TheVariants.{Expression, Sensitivity, AnyType}
use Rattle.fz_parser.specs.Parts.{What, BegunPart, NamePart, NumberPart, PositivePart, TextPart, IntegerPart, FactorPart, TypePart, TermPart, sort_of, part, in_factor, in_type, in_term}
use Rattle.fz_parser.specs.Grammar.{IsPhrase, IsTerm, IsTypeOf, IsSensitivityOf}
use Rattle.fz_parser.specs.Reading.{Begins, IsStuckAs, ExplainsAs, IsStuck, ExplainsParse, IsStuckType, ExplainsType, IsStuckSensitivity, ExplainsSensitivity}
use Rattle.fz_parser.specs.declared.reader.Reader.{Reader}
use Rattle.fz_parser.specs.Kept.{state_of, sort_at, IsReadAs}
use Rattle.fz_parser.specs.Classes.{phrase_number}
use Rattle.fz_parser.specs.Rows.{gift_rows}
use Rattle.fz_parser.specs.Tests.{phrase_gives}
use Rattle.fz_parser.proofs.Machine.{sort_is, term_goal, type_goal, sensitivity_goal}

pub gives_term : phrase_gives Expression ≡ 8
unfolding phrase_gives gift_rows phrase_number
gives_term = refl

pub gives_type : phrase_gives AnyType ≡ 7
unfolding phrase_gives gift_rows phrase_number
gives_type = refl

pub gives_factor : phrase_gives Sensitivity ≡ 6
unfolding phrase_gives gift_rows phrase_number
gives_factor = refl

-- a part of the sort that is wanted
pub term_what : (x : What) → sort_of x ≡ 8 → (e : Term) × (x ≡ TermPart e)
term_what BegunPart h = absurd (omega (arith, h))
term_what (NamePart x) h = absurd (omega (arith, h))
term_what (NumberPart n) h = absurd (omega (arith, h))
term_what (PositivePart n) h = absurd (omega (arith, h))
term_what (TextPart s) h = absurd (omega (arith, h))
term_what (IntegerPart z) h = absurd (omega (arith, h))
term_what (FactorPart r) h = absurd (omega (arith, h))
term_what (TypePart u t) h = absurd (omega (arith, h))
term_what (TermPart e) h = (e, refl)

pub type_what : (x : What) → sort_of x ≡ 7 → (T : Ty) × (u : Span) × (x ≡ TypePart u T)
type_what BegunPart h = absurd (omega (arith, h))
type_what (NamePart x) h = absurd (omega (arith, h))
type_what (NumberPart n) h = absurd (omega (arith, h))
type_what (PositivePart n) h = absurd (omega (arith, h))
type_what (TextPart s) h = absurd (omega (arith, h))
type_what (IntegerPart z) h = absurd (omega (arith, h))
type_what (FactorPart r) h = absurd (omega (arith, h))
type_what (TypePart u t) h = (t, u, refl)
type_what (TermPart e) h = absurd (omega (arith, h))

pub factor_what : (x : What) → sort_of x ≡ 6 → (d : Distance) × (x ≡ FactorPart d)
factor_what BegunPart h = absurd (omega (arith, h))
factor_what (NamePart x) h = absurd (omega (arith, h))
factor_what (NumberPart n) h = absurd (omega (arith, h))
factor_what (PositivePart n) h = absurd (omega (arith, h))
factor_what (TextPart s) h = absurd (omega (arith, h))
factor_what (IntegerPart z) h = absurd (omega (arith, h))
factor_what (FactorPart r) h = (r, refl)
factor_what (TypePart u t) h = absurd (omega (arith, h))
factor_what (TermPart e) h = absurd (omega (arith, h))

pub term_of : (ts : List Token) (x : What) → IsPhrase Expression ts x → (e : Term) × IsTerm ts e
unfolding IsTerm
term_of ts x h = let q = term_what x (sort_is term_goal ts x h ∙ gives_term) in (q.0, subst (IsPhrase Expression ts) q.1 h)

of_term : (ts : List Token) (e : Term) → IsTerm ts e → (x : What) × IsPhrase Expression ts x
unfolding IsTerm
of_term ts e h = (TermPart e, h)

pub type_of : (ts : List Token) (x : What) → IsPhrase AnyType ts x → (T : Ty) × IsTypeOf ts T
unfolding IsTypeOf
type_of ts x h = let q = type_what x (sort_is type_goal ts x h ∙ gives_type) in (q.0, (q.1, subst (IsPhrase AnyType ts) q.2 h))

of_type : (ts : List Token) (T : Ty) → IsTypeOf ts T → (x : What) × IsPhrase AnyType ts x
unfolding IsTypeOf
of_type ts T h = (TypePart h.0 T, h.1)

pub sensitivity_of : (ts : List Token) (x : What) → IsPhrase Sensitivity ts x → (d : Distance) × IsSensitivityOf ts d
unfolding IsSensitivityOf
sensitivity_of ts x h = let q = factor_what x (sort_is sensitivity_goal ts x h ∙ gives_factor) in (q.0, subst (IsPhrase Sensitivity ts) q.1 h)

of_sensitivity : (ts : List Token) (d : Distance) → IsSensitivityOf ts d → (x : What) × IsPhrase Sensitivity ts x
unfolding IsSensitivityOf
of_sensitivity ts d h = (FactorPart d, h)

-- where the one is said the other is
module _ (goal : Phrase) (A : Type 0) (Is : List Token → A → Type 0)
    (from : (ts : List Token) (x : What) → IsPhrase goal ts x → (e : A) × Is ts e) (back : (ts : List Token) (e : A) → Is ts e → (x : What) × IsPhrase goal ts x) where
  begins_from : (ts : List Token) → Begins What (IsPhrase goal) ts → Begins A Is ts
  begins_from ts b = let q = from (ts ++ b.0) b.1 b.2 in (b.0, q.0, q.1)

  begins_back : (ts : List Token) → Begins A Is ts → Begins What (IsPhrase goal) ts
  begins_back ts b = let q = back (ts ++ b.0) b.1 b.2 in (b.0, q.0, q.1)

  stuck_from : (ts : List Token) (k : ℕ) → IsStuckAs What (IsPhrase goal) ts k → IsStuckAs A Is ts k
  stuck_from ts k h = record {
    within = h.within;
    before = begins_from _ h.before;
    not_with = λ l b. h.not_with l (begins_back _ b);
    none = λ e i. let q = back ts e i in h.none q.0 q.1;
  }

pub term_stuck : (ts : List Token) (k : ℕ) → IsStuckAs What (IsPhrase Expression) ts k → IsStuck ts k
term_stuck = stuck_from Expression Term IsTerm term_of of_term

pub type_stuck : (ts : List Token) (k : ℕ) → IsStuckAs What (IsPhrase AnyType) ts k → IsStuckType ts k
type_stuck = stuck_from AnyType Ty IsTypeOf type_of of_type

pub sensitivity_stuck : (ts : List Token) (k : ℕ) → IsStuckAs What (IsPhrase Sensitivity) ts k → IsStuckSensitivity ts k
sensitivity_stuck = stuck_from Sensitivity Distance IsSensitivityOf sensitivity_of of_sensitivity

pub term_fault : (ts : List Token) (fault : ParseFault) → ExplainsAs What (IsPhrase Expression) ts fault → ExplainsParse ts fault
term_fault ts (Stuck k) h = term_stuck ts k h
term_fault ts (TooNested d) h = absurd h
term_fault ts NoMemory h = tt

pub type_fault : (ts : List Token) (fault : ParseFault) → ExplainsAs What (IsPhrase AnyType) ts fault → ExplainsType ts fault
type_fault ts (Stuck k) h = type_stuck ts k h
type_fault ts (TooNested d) h = absurd h
type_fault ts NoMemory h = tt

pub sensitivity_fault : (ts : List Token) (fault : ParseFault) → ExplainsAs What (IsPhrase Sensitivity) ts fault → ExplainsSensitivity ts fault
sensitivity_fault ts (Stuck k) h = sensitivity_stuck ts k h
sensitivity_fault ts (TooNested d) h = absurd h
sensitivity_fault ts NoMemory h = tt

-- a fault that is passed on
pub passed : {T E : Type 0} (P : E → Type 0) (fault : E) (result : Result T E) → IsErrAnd result (λ other. other ≡ fault) → P fault → IfErr result P
passed P fault (Ok value) wrong holds = tt
passed P fault (Err other) is holds = subst P (sym is) holds

-- the one part that was read
pub read_term : (ts : List Token) (r : Reader) → IsReadAs Expression ts r → (sort_at 0 (state_of r) ≡ 8) × IsTerm ts (in_term (part 0 (state_of r)).what)
unfolding IsTerm
read_term ts r h =
    let q = term_what h.1 (h.5 ∙ gives_term) in
    let e : in_term (part 0 (state_of r)).what ≡ q.0 = ap (λ s. in_term (part 0 s).what) h.2 ∙ ap in_term q.1 in
    (ap (λ s. sort_at 0 s) h.2 ∙ h.5 ∙ gives_term, subst (λ d. IsPhrase Expression ts (TermPart d)) (sym e) (subst (IsPhrase Expression ts) q.1 h.4))

pub read_type : (ts : List Token) (r : Reader) → IsReadAs AnyType ts r → (sort_at 0 (state_of r) ≡ 7) × IsTypeOf ts (in_type (part 0 (state_of r)).what)
unfolding IsTypeOf
read_type ts r h =
    let q = type_what h.1 (h.5 ∙ gives_type) in
    let e : in_type (part 0 (state_of r)).what ≡ q.0 = ap (λ s. in_type (part 0 s).what) h.2 ∙ ap in_type q.2 in
    (ap (λ s. sort_at 0 s) h.2 ∙ h.5 ∙ gives_type, (q.1, subst (λ T. IsPhrase AnyType ts (TypePart q.1 T)) (sym e) (subst (IsPhrase AnyType ts) q.2 h.4)))

pub read_sensitivity : (ts : List Token) (r : Reader) → IsReadAs Sensitivity ts r → IsSensitivityOf ts (in_factor (part 0 (state_of r)).what)
unfolding IsSensitivityOf
read_sensitivity ts r h =
    let q = factor_what h.1 (h.5 ∙ gives_factor) in
    let e : in_factor (part 0 (state_of r)).what ≡ q.0 = ap (λ s. in_factor (part 0 s).what) h.2 ∙ ap in_factor q.1 in
    subst (λ d. IsPhrase Sensitivity ts (FactorPart d)) (sym e) (subst (IsPhrase Sensitivity ts) q.1 h.4)
