-- Worked types and sensitivities from the written grammar, and where tokens are stuck.
use Rattle.std.proofs.Common.{◌≡◌, ℕ, List, [], ◌∷◌, refl, sym, ap, ◌∙◌, subst, length}
use Rattle.std.specs.Prelude.{codes, Option, Some, None, ⊤}
use Rattle.fz_frac.specs.Distance.{Distance, Fin, Inf}
use Rattle.fz_frac.specs.Lowest.{gcd, gcd_in}
use Rattle.fz_ast.specs.declared.span.Span.{Span}
use Rattle.fz_ast.specs.Types.{Ty, NumT, TextT, UnitT, TensorT, WithT, SumT, ArrowT, BangT, BagT}
use Rattle.fz_lexer.specs.declared.token.Token.{Token}
use Rattle.fz_lexer.specs.declared.token.Kind.{Kind}
use Rattle.fz_lexer.specs.Bytes.{is_blank, is_digit, is_letter, is_name_byte, is_text_byte}
use Rattle.fz_lexer.specs.Words.{spelling}
use Rattle.fz_lexer.specs.Signs.{mark, may_follow}
use Rattle.fz_lexer.specs.Tokens.{AreTokens}
use Rattle.fz_lexer.proofs.Spellings.{same, find_word, word_with}
use Rattle.fz_lexer.proofs.Lexing.{word_kind, spells, prefix_of, tokens_from, line_answer, cut_holds, Answer as Lexed, Tokens, Refused, CutHolds}
use Rattle.fz_parser.specs.declared.grammar.Phrase.{Phrase}
use Rattle.fz_parser.specs.declared.grammar.Phrase.TheVariants.{Sensitivity, AnyType}
use Rattle.fz_parser.specs.Table.{rules}
use Rattle.fz_parser.specs.Parts.{StackPart, What, BegunPart, NamePart, NumberPart, PositivePart, TextPart, IntegerPart, FactorPart, TypePart, TermPart, takes, arity, shift, build, in_lowest_terms}
use Rattle.fz_parser.specs.Grammar.{body, IsPhrase, IsTypeOf, IsSensitivityOf}
use Rattle.fz_parser.specs.Classes.{phrase_number, class_of, word_number, sign_number, terminal_number, may_stand}
use Rattle.fz_parser.specs.Tests.{choice, weight, may_be_empty}
use Rattle.fz_parser.specs.Rows.{choice_rows, weight_rows, empty_rows}
use Rattle.fz_parser.specs.Reading.{IsStuckAs, IsStuckType, IsStuckSensitivity}
use Rattle.fz_parser.specs.Steps.{IsGoal}
use Rattle.fz_parser.specs.Printer.{kinds_of, type_kinds, factor_kinds}
use Rattle.fz_parser.proofs.Parsing.{settled, ends, goes_on, parse_from, parse_as, parse_holds, Answer, Whole, StuckAt, AnswerHolds}
use Rattle.fz_parser.proofs.Machine.{type_goal, sensitivity_goal}
use Rattle.fz_parser.proofs.Phrases.{type_stuck, sensitivity_stuck}

-- what a part holds
abbrev type_held : What → Option Ty
type_held BegunPart = None
type_held (NamePart x) = None
type_held (NumberPart n) = None
type_held (PositivePart n) = None
type_held (TextPart s) = None
type_held (IntegerPart z) = None
type_held (FactorPart r) = None
type_held (TypePart u t) = Some t
type_held (TermPart e) = None

abbrev factor_held : What → Option Distance
factor_held BegunPart = None
factor_held (NamePart x) = None
factor_held (NumberPart n) = None
factor_held (PositivePart n) = None
factor_held (TextPart s) = None
factor_held (IntegerPart z) = None
factor_held (FactorPart r) = Some r
factor_held (TypePart u t) = None
factor_held (TermPart e) = None

-- what a text is read as: this, or stuck at a token
data Found (A : Type 0) : Type 0 where
  Is : (x : A) → Found A
  Stops : (k : ℕ) → Found A
  No : Found A

abbrev by_part : {A : Type 0} → Option A → Found A
by_part None = No
by_part (Some x) = Is x

abbrev in_parts : {A : Type 0} → (What → Option A) → List StackPart → Found A
in_parts held [] = No
in_parts held (p ∷ ps) = by_part (held p.what)

abbrev by_answer : {A : Type 0} → (What → Option A) → Answer → Found A
by_answer held (Whole s) = in_parts held s.parts
by_answer held (StuckAt k) = Stops k

abbrev by_tokens : {A : Type 0} → (What → Option A) → Phrase → Lexed → Found A
by_tokens held goal (Tokens ts) = by_answer held (parse_as goal ts)
by_tokens held goal (Refused fault) = No

abbrev type_found : List ℕ → Found Ty
type_found w = by_tokens type_held AnyType (line_answer w)

abbrev factor_found : List ℕ → Found Distance
factor_found w = by_tokens factor_held Sensitivity (line_answer w)

abbrev each : {A B : Type 0} → (A → B) → List A → List B
each f [] = []
each f (x ∷ xs) = f x ∷ each f xs

types_read : each type_found (codes "num" ∷ codes "(num)" ∷ codes "bag bag text" ∷ codes "bool" ∷ codes "![2/4] num" ∷ codes "![4294967295] ![inf] unit" ∷ codes "![9/6] bag num" ∷ []) ≡
    Is NumT ∷ Is NumT ∷ Is (BagT (BagT TextT)) ∷ Is (SumT UnitT UnitT) ∷ Is (BangT (Fin 1 2) NumT) ∷ Is (BangT (Fin 4294967295 1) (BangT Inf UnitT)) ∷ Is (BangT (Fin 3 2) (BagT NumT)) ∷ []
unfolding line_answer tokens_from prefix_of word_kind spells same find_word word_with is_blank is_digit is_letter is_name_byte is_text_byte mark may_follow spelling parse_from ends goes_on settled rules body choice choice_rows phrase_number class_of word_number sign_number terminal_number may_stand shift build takes arity in_lowest_terms gcd gcd_in weight weight_rows may_be_empty empty_rows
types_read = refl

-- grouping and precedence
types_grouped : each type_found (codes "num * text & unit" ∷ codes "num + text + unit" ∷ codes "num * text + unit" ∷ codes "num -o text -> unit" ∷ codes "(num -o text) -o unit" ∷ codes "![2] num * num" ∷ codes "bag num -o num" ∷ codes "num + num -o num" ∷ []) ≡
    Is (TensorT NumT (WithT TextT UnitT)) ∷ Is (SumT NumT (SumT TextT UnitT)) ∷ Is (SumT (TensorT NumT TextT) UnitT) ∷ Is (ArrowT NumT (ArrowT (BangT Inf TextT) UnitT)) ∷ Is (ArrowT (ArrowT NumT TextT) UnitT) ∷
    Is (TensorT (BangT (Fin 2 1) NumT) NumT) ∷ Is (ArrowT (BagT NumT) NumT) ∷ Is (ArrowT (SumT NumT NumT) NumT) ∷ []
unfolding line_answer tokens_from prefix_of word_kind spells same find_word word_with is_blank is_digit is_letter is_name_byte is_text_byte mark may_follow spelling parse_from ends goes_on settled rules body choice choice_rows phrase_number class_of word_number sign_number terminal_number may_stand shift build takes arity in_lowest_terms gcd gcd_in weight weight_rows may_be_empty empty_rows
types_grouped = refl

types_stuck : each type_found (codes "" ∷ codes "num num" ∷ codes "num *" ∷ codes "(num" ∷ codes "(num))" ∷ codes "num ]" ∷ codes "x" ∷ codes "1" ∷ codes "bag" ∷ codes "![0] num" ∷ codes "![4294967296] num" ∷ codes "![1/0] num" ∷ codes "![2/3/4] num" ∷ codes "num | people 1" ∷ codes "()" ∷ []) ≡
    Stops 0 ∷ Stops 1 ∷ Stops 2 ∷ Stops 2 ∷ Stops 3 ∷ Stops 1 ∷ Stops 0 ∷ Stops 0 ∷ Stops 1 ∷ Stops 2 ∷ Stops 2 ∷ Stops 4 ∷ Stops 5 ∷ Stops 1 ∷ Stops 1 ∷ []
unfolding line_answer tokens_from prefix_of word_kind spells same find_word word_with is_blank is_digit is_letter is_name_byte is_text_byte mark may_follow spelling parse_from ends goes_on settled rules body choice choice_rows phrase_number class_of word_number sign_number terminal_number may_stand shift build takes arity in_lowest_terms gcd gcd_in weight weight_rows may_be_empty empty_rows
types_stuck = refl

factors_read : each factor_found (codes "1" ∷ codes "007" ∷ codes "2/3" ∷ codes "2 / 4" ∷ codes "inf" ∷ codes "4294967295" ∷ codes "9/6" ∷ codes "3/3" ∷ []) ≡
    Is (Fin 1 1) ∷ Is (Fin 7 1) ∷ Is (Fin 2 3) ∷ Is (Fin 1 2) ∷ Is Inf ∷ Is (Fin 4294967295 1) ∷ Is (Fin 3 2) ∷ Is (Fin 1 1) ∷ []
unfolding line_answer tokens_from prefix_of word_kind spells same find_word word_with is_blank is_digit is_letter is_name_byte is_text_byte mark may_follow spelling parse_from ends goes_on settled rules body choice choice_rows phrase_number class_of word_number sign_number terminal_number may_stand shift build takes arity in_lowest_terms gcd gcd_in weight weight_rows may_be_empty empty_rows
factors_read = refl

factors_stuck : each factor_found (codes "" ∷ codes "0" ∷ codes "4294967296" ∷ codes "1/" ∷ codes "1/0" ∷ codes "1/4294967296" ∷ codes "1/2/3" ∷ codes "1 2" ∷ codes "inf inf" ∷ codes "inf/2" ∷ codes "-1" ∷ codes "x" ∷ codes "1]" ∷ codes "num" ∷ []) ≡
    Stops 0 ∷ Stops 0 ∷ Stops 0 ∷ Stops 2 ∷ Stops 2 ∷ Stops 2 ∷ Stops 3 ∷ Stops 1 ∷ Stops 1 ∷ Stops 1 ∷ Stops 0 ∷ Stops 0 ∷ Stops 1 ∷ Stops 0 ∷ []
unfolding line_answer tokens_from prefix_of word_kind spells same find_word word_with is_blank is_digit is_letter is_name_byte is_text_byte mark may_follow spelling parse_from ends goes_on settled rules body choice choice_rows phrase_number class_of word_number sign_number terminal_number may_stand shift build takes arity in_lowest_terms gcd gcd_in weight weight_rows may_be_empty empty_rows
factors_stuck = refl

-- what is computed holds
part_is : {A : Type 0} (held : Option A) (x : A) → by_part held ≡ Is x → held ≡ Some x
part_is None x h = absurd (cc h)
part_is (Some y) x h = cc h

type_is : (x : What) (T : Ty) → type_held x ≡ Some T → (u : Span) × (x ≡ TypePart u T)
type_is BegunPart T h = absurd (cc h)
type_is (NamePart x) T h = absurd (cc h)
type_is (NumberPart n) T h = absurd (cc h)
type_is (PositivePart n) T h = absurd (cc h)
type_is (TextPart s) T h = absurd (cc h)
type_is (IntegerPart z) T h = absurd (cc h)
type_is (FactorPart r) T h = absurd (cc h)
type_is (TypePart u t) T h = let e : t ≡ T = cc h in (u, ap (TypePart u) e)
type_is (TermPart e) T h = absurd (cc h)

factor_is : (x : What) (d : Distance) → factor_held x ≡ Some d → x ≡ FactorPart d
factor_is BegunPart d h = absurd (cc h)
factor_is (NamePart x) d h = absurd (cc h)
factor_is (NumberPart n) d h = absurd (cc h)
factor_is (PositivePart n) d h = absurd (cc h)
factor_is (TextPart s) d h = absurd (cc h)
factor_is (IntegerPart z) d h = absurd (cc h)
factor_is (FactorPart r) d h = cc h
factor_is (TypePart u t) d h = absurd (cc h)
factor_is (TermPart e) d h = absurd (cc h)

no_stop : {A : Type 0} (held : Option A) (k : ℕ) → by_part held ≡ Stops k → ⊥
no_stop None k h = cc h
no_stop (Some x) k h = cc h

-- of a text: its tokens, and what is said of them
abbrev Of : List ℕ → (List Token → Type 0) → Type 0
Of w P = (ts : List Token) × AreTokens w ts × P ts

module _ {A : Type 0} (goal : Phrase) (g : IsGoal goal) (Reads : List Token → A → Type 0) (held : What → Option A)
    (part : (ts : List Token) (what : What) (x : A) → held what ≡ Some x → IsPhrase goal ts what → Reads ts x)
    (stuck : (ts : List Token) (k : ℕ) → IsStuckAs What (IsPhrase goal) ts k → IsStuckAs A Reads ts k) where
  read_in : (ts : List Token) (x : A) (a : Answer) → AnswerHolds goal ts a → by_answer held a ≡ Is x → Reads ts x
  read_in ts x (Whole s) h q = part ts h.1 x (part_is (held h.1) x (sym (ap (λ s. in_parts held s.parts) h.2) ∙ q)) h.3
  read_in ts x (StuckAt k) h q = absurd (cc q)

  stuck_in : (ts : List Token) (k : ℕ) (a : Answer) → AnswerHolds goal ts a → by_answer held a ≡ Stops k → IsStuckAs A Reads ts k
  stuck_in ts k (Whole s) h q = absurd (no_stop (held h.1) k (sym (ap (λ s. in_parts held s.parts) h.2) ∙ q))
  stuck_in ts k (StuckAt j) h q = let e : j ≡ k = cc q in subst (IsStuckAs A Reads ts) e (stuck ts j h)

  read_by : (w : List ℕ) (x : A) (a : Lexed) → CutHolds (length w) w a → by_tokens held goal a ≡ Is x → Of w (λ ts. Reads ts x)
  read_by w x (Tokens ts) h q = (ts, h.0, read_in ts x (parse_as goal ts) (parse_holds goal g ts) q)
  read_by w x (Refused fault) h q = absurd (cc q)

  stuck_by : (w : List ℕ) (k : ℕ) (a : Lexed) → CutHolds (length w) w a → by_tokens held goal a ≡ Stops k → Of w (λ ts. IsStuckAs A Reads ts k)
  stuck_by w k (Tokens ts) h q = (ts, h.0, stuck_in ts k (parse_as goal ts) (parse_holds goal g ts) q)
  stuck_by w k (Refused fault) h q = absurd (cc q)

type_part : (ts : List Token) (what : What) (T : Ty) → type_held what ≡ Some T → IsPhrase AnyType ts what → IsTypeOf ts T
unfolding IsTypeOf
type_part ts what T h d = let e = type_is what T h in (e.0, subst (IsPhrase AnyType ts) e.1 d)

factor_part : (ts : List Token) (what : What) (d : Distance) → factor_held what ≡ Some d → IsPhrase Sensitivity ts what → IsSensitivityOf ts d
unfolding IsSensitivityOf
factor_part ts what d h p = subst (IsPhrase Sensitivity ts) (factor_is what d h) p

type_so : (w : List ℕ) (T : Ty) → type_found w ≡ Is T → Of w (λ ts. IsTypeOf ts T)
unfolding line_answer
type_so w T q = read_by AnyType type_goal IsTypeOf type_held type_part type_stuck w T (line_answer w) (cut_holds (length w) w) q

type_stuck_so : (w : List ℕ) (k : ℕ) → type_found w ≡ Stops k → Of w (λ ts. IsStuckType ts k)
unfolding line_answer
type_stuck_so w k q = stuck_by AnyType type_goal IsTypeOf type_held type_part type_stuck w k (line_answer w) (cut_holds (length w) w) q

factor_so : (w : List ℕ) (d : Distance) → factor_found w ≡ Is d → Of w (λ ts. IsSensitivityOf ts d)
unfolding line_answer
factor_so w d q = read_by Sensitivity sensitivity_goal IsSensitivityOf factor_held factor_part sensitivity_stuck w d (line_answer w) (cut_holds (length w) w) q

factor_stuck_so : (w : List ℕ) (k : ℕ) → factor_found w ≡ Stops k → Of w (λ ts. IsStuckSensitivity ts k)
unfolding line_answer
factor_stuck_so w k q = stuck_by Sensitivity sensitivity_goal IsSensitivityOf factor_held factor_part sensitivity_stuck w k (line_answer w) (cut_holds (length w) w) q

-- what is written is these tokens: one pair of parentheses round an infix type, and none round a prefix
abbrev kinds : Lexed → List Kind
kinds (Tokens ts) = kinds_of ts
kinds (Refused fault) = []

abbrev text_kinds : List ℕ → List Kind
text_kinds w = kinds (line_answer w)

types_written : each type_kinds (NumT ∷ TensorT TextT UnitT ∷ WithT (BagT NumT) (BangT (Fin 2 3) NumT) ∷ SumT UnitT UnitT ∷ ArrowT (BangT Inf NumT) (BangT (Fin 2 1) TextT) ∷ BagT (SumT NumT (TensorT NumT NumT)) ∷ []) ≡
    each text_kinds (codes "num" ∷ codes "(text * unit)" ∷ codes "(bag num & ![2/3] num)" ∷ codes "(unit + unit)" ∷ codes "(![inf] num -o ![2] text)" ∷ codes "bag (num + (num * num))" ∷ [])
unfolding line_answer tokens_from prefix_of word_kind spells same find_word word_with is_blank is_digit is_letter is_name_byte is_text_byte mark may_follow spelling
types_written = refl

factors_written : each factor_kinds (Fin 1 1 ∷ Fin 4294967295 1 ∷ Fin 1 2 ∷ Fin 3 4294967295 ∷ Inf ∷ []) ≡ each text_kinds (codes "1" ∷ codes "4294967295" ∷ codes "1/2" ∷ codes "3/4294967295" ∷ codes "inf" ∷ [])
unfolding line_answer tokens_from prefix_of word_kind spells same find_word word_with is_blank is_digit is_letter is_name_byte is_text_byte mark may_follow spelling
factors_written = refl
