-- Worked terms from the written grammar: each form with its spans, grouping and precedence, and where tokens are stuck.
use Rattle.std.proofs.Common.{◌≡◌, ℕ, ◌+◌, ◌<◌, List, [], ◌∷◌, ◌++◌, refl, arith, sym, ap, ◌∙◌, subst, length}
use Rattle.std.specs.Prelude.{codes, Option, Some, None, pos, negsuc, ⊤}
use Rattle.fz_frac.specs.Distance.{Fin, Inf}
use Rattle.fz_frac.specs.Lowest.{gcd, gcd_in}
use Rattle.fz_ast.specs.declared.span.Span.{Span}
use Rattle.fz_ast.specs.Types.{NumT, TextT, UnitT, TensorT, WithT, SumT, ArrowT, BangT, BagT}
use Rattle.fz_ast.specs.Terms.{Term, at, VarE, NumE, TextE, UnitE, PairE, WithE, FstE, SndE, LetPairE, InlE, InrE, CaseE, IfE, FunE, FnE, AppE, BangE, LetBangE, LetE, PlusE, MinusE, TimesE, LeE, EqE, ClipE, LeastE, GreatestE, SizeE, SumE, UnionE, MapE, FilterE, SplitE}
use Rattle.fz_ast.specs.Depth.{depth}
use Rattle.fz_lexer.specs.declared.token.Token.{Token}
use Rattle.fz_lexer.specs.declared.token.Kind.TheVariants.{Name, Number, Text}
use Rattle.fz_lexer.specs.Bytes.{is_blank, is_digit, is_letter, is_name_byte, is_text_byte}
use Rattle.fz_lexer.specs.Words.{spelling}
use Rattle.fz_lexer.specs.Signs.{mark, may_follow}
use Rattle.fz_lexer.specs.Tokens.{AreTokens}
use Rattle.fz_lexer.proofs.Spellings.{same, find_word, word_with}
use Rattle.fz_lexer.proofs.Lexing.{word_kind, spells, prefix_of, tokens_from, answer, answer_holds, Answer as Lexed, Tokens, Refused, Holds as HoldsLexed}
use Rattle.fz_parser.specs.declared.grammar.Terminal.TheVariants.{Named, Numeral, Positive, Quoted}
use Rattle.fz_parser.specs.declared.fault.ParseFault.TheVariants.{TooNested}
use Rattle.fz_parser.specs.Table.{rules}
use Rattle.fz_parser.specs.Parts.{StackPart, What, BegunPart, NamePart, NumberPart, PositivePart, TextPart, IntegerPart, FactorPart, TypePart, TermPart, takes, arity, shift, build, in_lowest_terms}
use Rattle.fz_parser.specs.declared.grammar.Phrase.TheVariants.{Expression}
use Rattle.fz_parser.specs.Grammar.{Fits, body, IsPhrase, IsTerm}
use Rattle.fz_parser.specs.Classes.{phrase_number, class_of, word_number, sign_number, terminal_number, may_stand}
use Rattle.fz_parser.specs.Tests.{choice, weight, may_be_empty}
use Rattle.fz_parser.specs.Rows.{choice_rows, weight_rows, empty_rows}
use Rattle.fz_parser.specs.Reading.{IsParsed, IsStuck, ExplainsParse}
use Rattle.fz_parser.proofs.Parsing.{settled, ends, goes_on, parse_from, parse, parse_holds, Answer, Whole, StuckAt, AnswerHolds}
use Rattle.fz_parser.proofs.Machine.{term_goal}
use Rattle.fz_parser.proofs.Phrases.{term_stuck}

-- these bytes are this term
abbrev IsReading : List ℕ → Term → Type 0
IsReading w e = (ts : List Token) × AreTokens w ts × IsTerm ts e

-- and these are stuck at token k
abbrev IsStuckText : List ℕ → ℕ → Type 0
IsStuckText w k = (ts : List Token) × AreTokens w ts × IsStuck ts k

abbrev in_what : What → Option Term
in_what BegunPart = None
in_what (NamePart x) = None
in_what (NumberPart n) = None
in_what (PositivePart n) = None
in_what (TextPart s) = None
in_what (IntegerPart z) = None
in_what (FactorPart r) = None
in_what (TypePart u t) = None
in_what (TermPart e) = Some e

abbrev in_parts : List StackPart → Option Term
in_parts [] = None
in_parts (p ∷ ps) = in_what p.what

abbrev term_in : Answer → Option Term
term_in (Whole s) = in_parts s.parts
term_in (StuckAt k) = None

abbrev place_in : Answer → Option ℕ
place_in (Whole s) = None
place_in (StuckAt k) = Some k

abbrev term_of : Lexed → Option Term
term_of (Tokens ts) = term_in (parse ts)
term_of (Refused fault) = None

abbrev place_of : Lexed → Option ℕ
place_of (Tokens ts) = place_in (parse ts)
place_of (Refused fault) = None

-- the term, and the place, as computed
reading : List ℕ → Option Term
reading w = term_of (answer w)

stuck_at : List ℕ → Option ℕ
stuck_at w = place_of (answer w)

what_is : (x : What) (e : Term) → in_what x ≡ Some e → x ≡ TermPart e
what_is BegunPart e h = absurd (cc h)
what_is (NamePart x) e h = absurd (cc h)
what_is (NumberPart n) e h = absurd (cc h)
what_is (PositivePart n) e h = absurd (cc h)
what_is (TextPart s) e h = absurd (cc h)
what_is (IntegerPart z) e h = absurd (cc h)
what_is (FactorPart r) e h = absurd (cc h)
what_is (TypePart u t) e h = absurd (cc h)
what_is (TermPart d) e h = cc h

module _ (w : List ℕ) (ts : List Token) (h : AreTokens w ts) where
  parsed_is : (e : Term) (a : Answer) → AnswerHolds Expression ts a → term_in a ≡ Some e → IsReading w e
  unfolding IsTerm
  parsed_is e (Whole s) g q = (ts, h, subst (IsPhrase Expression ts) (what_is g.1 e (sym (ap (λ s. in_parts s.parts) g.2) ∙ q)) g.3)
  parsed_is e (StuckAt k) g q = absurd (cc q)

  place_is : (k : ℕ) (a : Answer) → AnswerHolds Expression ts a → place_in a ≡ Some k → IsStuckText w k
  place_is k (Whole s) g q = absurd (cc q)
  place_is k (StuckAt i) g q = let same : i ≡ k = cc q in (ts, h, subst (IsStuck ts) same (term_stuck ts i g))

lexed_is : (w : List ℕ) (e : Term) (a : Lexed) → HoldsLexed w a → term_of a ≡ Some e → IsReading w e
unfolding parse
lexed_is w e (Tokens ts) h q = parsed_is w ts h.tokens e (parse ts) (parse_holds Expression term_goal ts) q
lexed_is w e (Refused fault) h q = absurd (cc q)

stuck_is : (w : List ℕ) (k : ℕ) (a : Lexed) → HoldsLexed w a → place_of a ≡ Some k → IsStuckText w k
unfolding parse
stuck_is w k (Tokens ts) h q = place_is w ts h.tokens k (parse ts) (parse_holds Expression term_goal ts) q
stuck_is w k (Refused fault) h q = absurd (cc q)

reads_so : (w : List ℕ) (e : Term) → reading w ≡ Some e → IsReading w e
unfolding reading
reads_so w e q = lexed_is w e (answer w) (answer_holds w) q

stops_so : (w : List ℕ) (k : ℕ) → stuck_at w ≡ Some k → IsStuckText w k
unfolding stuck_at
stops_so w k q = stuck_is w k (answer w) (answer_holds w) q

-- a text and its term, and a text with the token at which it is stuck
record Worked : Type 0 where
  pub text : List ℕ
  pub term : Term

record StuckText : Type 0 where
  pub text : List ℕ
  pub token : ℕ

abbrev reads : List ℕ → Term → Worked
reads w e = record { text = w; term = e }

abbrev stops : List ℕ → ℕ → StuckText
stops w k = record { text = w; token = k }

readings : List Worked → List (Option Term)
readings [] = []
readings (x ∷ xs) = reading x.text ∷ readings xs

terms : List Worked → List (Option Term)
terms [] = []
terms (x ∷ xs) = Some x.term ∷ terms xs

places : List StuckText → List (Option ℕ)
places [] = []
places (x ∷ xs) = stuck_at x.text ∷ places xs

wanted : List StuckText → List (Option ℕ)
wanted [] = []
wanted (x ∷ xs) = Some x.token ∷ wanted xs

-- each text is its term, and each of the others is stuck there
abbrev AreRead : List Worked → Type 0
AreRead [] = ⊤
AreRead (x ∷ xs) = IsReading x.text x.term × AreRead xs

abbrev AreStuck : List StuckText → Type 0
AreStuck [] = ⊤
AreStuck (x ∷ xs) = IsStuckText x.text x.token × AreStuck xs

-- what is computed holds
all_read : (xs : List Worked) → readings xs ≡ terms xs → AreRead xs
unfolding readings terms
all_read [] h = tt
all_read (x ∷ xs) h = let p : reading x.text ≡ Some x.term = cc h in let q : readings xs ≡ terms xs = cc h in (reads_so x.text x.term p, all_read xs q)

all_stuck : (xs : List StuckText) → places xs ≡ wanted xs → AreStuck xs
unfolding places wanted
all_stuck [] h = tt
all_stuck (x ∷ xs) h = let p : stuck_at x.text ≡ Some x.token = cc h in let q : places xs ≡ wanted xs = cc h in (stops_so x.text x.token p, all_stuck xs q)

abbrev span : ℕ → ℕ → Span
span from to = record { from = from; to = to }

-- each form, with its spans
unfoldable forms : List Worked
forms =
    reads (codes "x") (at (span 0 1) (VarE (codes "x"))) ∷
    reads ((34 ∷ []) ++ codes "ab" ++ (34 ∷ [])) (at (span 0 4) (TextE (codes "ab"))) ∷
    reads (codes "()") (at (span 0 2) UnitE) ∷
    reads (codes "12") (at (span 0 2) (NumE (pos 12))) ∷
    reads (codes "-3") (at (span 0 2) (NumE (negsuc 2))) ∷
    reads (codes "(x, 1)") (at (span 0 6) (PairE (at (span 1 2) (VarE (codes "x"))) (at (span 4 5) (NumE (pos 1))))) ∷
    reads (codes "<x, 1>") (at (span 0 6) (WithE (at (span 1 2) (VarE (codes "x"))) (at (span 4 5) (NumE (pos 1))))) ∷
    reads (codes "true") (at (span 0 4) (InlE (span 0 4) UnitT (at (span 0 4) UnitE))) ∷
    reads (codes "false") (at (span 0 5) (InrE (span 0 5) UnitT (at (span 0 5) UnitE))) ∷
    reads (codes "f x") (at (span 0 3) (AppE (at (span 0 1) (VarE (codes "f"))) (at (span 2 3) (VarE (codes "x"))))) ∷
    reads (codes "fst p") (at (span 0 5) (FstE (at (span 4 5) (VarE (codes "p"))))) ∷
    reads (codes "snd p") (at (span 0 5) (SndE (at (span 4 5) (VarE (codes "p"))))) ∷
    reads (codes "size people") (at (span 0 11) (SizeE (at (span 5 11) (VarE (codes "people"))))) ∷
    reads (codes "least <1, 2>") (at (span 0 12) (LeastE (at (span 6 12) (WithE (at (span 7 8) (NumE (pos 1))) (at (span 10 11) (NumE (pos 2))))))) ∷
    reads (codes "greatest p") (at (span 0 10) (GreatestE (at (span 9 10) (VarE (codes "p"))))) ∷
    reads (codes "sum[-1,2] b") (at (span 0 11) (SumE (negsuc 0) (pos 2) (at (span 10 11) (VarE (codes "b"))))) ∷
    reads (codes "clip[0,-7] x") (at (span 0 12) (ClipE (pos 0) (negsuc 6) (at (span 11 12) (VarE (codes "x"))))) ∷
    reads (codes "inl[num] x") (at (span 0 10) (InlE (span 4 7) NumT (at (span 9 10) (VarE (codes "x"))))) ∷
    reads (codes "inr[text] ()") (at (span 0 12) (InrE (span 4 8) TextT (at (span 10 12) UnitE))) ∷
    reads (codes "![3] x") (at (span 0 6) (BangE (Fin 3 1) (at (span 5 6) (VarE (codes "x"))))) ∷
    reads (codes "![2/4] x") (at (span 0 8) (BangE (Fin 1 2) (at (span 7 8) (VarE (codes "x"))))) ∷
    reads (codes "![inf] x") (at (span 0 8) (BangE Inf (at (span 7 8) (VarE (codes "x"))))) ∷
    reads (codes "map f b") (at (span 0 7) (MapE (at (span 4 5) (VarE (codes "f"))) (at (span 6 7) (VarE (codes "b"))))) ∷
    reads (codes "filter f b") (at (span 0 10) (FilterE (at (span 7 8) (VarE (codes "f"))) (at (span 9 10) (VarE (codes "b"))))) ∷
    reads (codes "split f b") (at (span 0 9) (SplitE (at (span 6 7) (VarE (codes "f"))) (at (span 8 9) (VarE (codes "b"))))) ∷
    reads (codes "union a b") (at (span 0 9) (UnionE (at (span 6 7) (VarE (codes "a"))) (at (span 8 9) (VarE (codes "b"))))) ∷
    reads (codes "2 * x") (at (span 0 5) (TimesE (pos 2) (at (span 4 5) (VarE (codes "x"))))) ∷
    reads (codes "-2 * x") (at (span 0 6) (TimesE (negsuc 1) (at (span 5 6) (VarE (codes "x"))))) ∷
    reads (codes "a + b") (at (span 0 5) (PlusE (at (span 0 1) (VarE (codes "a"))) (at (span 4 5) (VarE (codes "b"))))) ∷
    reads (codes "a - b") (at (span 0 5) (MinusE (at (span 0 1) (VarE (codes "a"))) (at (span 4 5) (VarE (codes "b"))))) ∷
    reads (codes "a <= b") (at (span 0 6) (LeE (at (span 0 1) (VarE (codes "a"))) (at (span 5 6) (VarE (codes "b"))))) ∷
    reads (codes "a == " ++ (34 ∷ []) ++ codes "b" ++ (34 ∷ [])) (at (span 0 8) (EqE (at (span 0 1) (VarE (codes "a"))) (at (span 5 8) (TextE (codes "b"))))) ∷
    reads (codes "if a then b else c") (at (span 0 18) (IfE (at (span 3 4) (VarE (codes "a"))) (at (span 10 11) (VarE (codes "b"))) (at (span 17 18) (VarE (codes "c"))))) ∷
    reads (codes "case s of inl x => a | inr y => b") (at (span 0 33) (CaseE (at (span 5 6) (VarE (codes "s"))) (codes "x") (at (span 19 20) (VarE (codes "a"))) (codes "y") (at (span 32 33) (VarE (codes "b"))))) ∷
    reads (codes "let x = 1 in y") (at (span 0 14) (LetE (codes "x") (at (span 8 9) (NumE (pos 1))) (at (span 13 14) (VarE (codes "y"))))) ∷
    reads (codes "let !x = e in y") (at (span 0 15) (LetBangE (codes "x") (at (span 9 10) (VarE (codes "e"))) (at (span 14 15) (VarE (codes "y"))))) ∷
    reads (codes "let (a, b) = p in c") (at (span 0 19) (LetPairE (codes "a") (codes "b") (at (span 13 14) (VarE (codes "p"))) (at (span 18 19) (VarE (codes "c"))))) ∷
    reads (codes "fun (x : num) => y") (at (span 0 18) (FunE (codes "x") (span 9 12) NumT (at (span 17 18) (VarE (codes "y"))))) ∷
    reads (codes "fn (x : text) => y") (at (span 0 18) (FnE (codes "x") (span 8 12) TextT (at (span 17 18) (VarE (codes "y"))))) ∷
    []

forms_compute : readings forms ≡ terms forms
unfolding forms readings terms reading stuck_at answer tokens_from prefix_of word_kind spells same find_word word_with is_blank is_digit is_letter is_name_byte is_text_byte mark may_follow spelling parse parse_from ends goes_on settled rules body choice choice_rows phrase_number class_of word_number sign_number terminal_number may_stand shift build takes arity in_lowest_terms gcd gcd_in weight weight_rows may_be_empty empty_rows
forms_compute = refl

forms_are_read : AreRead forms
forms_are_read = all_read forms forms_compute

-- grouping and precedence
unfoldable groupings : List Worked
groupings =
    reads (codes "(x)") (at (span 1 2) (VarE (codes "x"))) ∷
    reads (codes "(1) + (2)") (at (span 0 9) (PlusE (at (span 1 2) (NumE (pos 1))) (at (span 7 8) (NumE (pos 2))))) ∷
    reads (codes "f x y") (at (span 0 5) (AppE (at (span 0 3) (AppE (at (span 0 1) (VarE (codes "f"))) (at (span 2 3) (VarE (codes "x"))))) (at (span 4 5) (VarE (codes "y"))))) ∷
    reads (codes "f (g x)") (at (span 0 7) (AppE (at (span 0 1) (VarE (codes "f"))) (at (span 3 6) (AppE (at (span 3 4) (VarE (codes "g"))) (at (span 5 6) (VarE (codes "x"))))))) ∷
    reads (codes "1 + 2 - 3") (at (span 0 9) (MinusE (at (span 0 5) (PlusE (at (span 0 1) (NumE (pos 1))) (at (span 4 5) (NumE (pos 2))))) (at (span 8 9) (NumE (pos 3))))) ∷
    reads (codes "a - b + c") (at (span 0 9) (PlusE (at (span 0 5) (MinusE (at (span 0 1) (VarE (codes "a"))) (at (span 4 5) (VarE (codes "b"))))) (at (span 8 9) (VarE (codes "c"))))) ∷
    reads (codes "-2 * 3 * x") (at (span 0 10) (TimesE (negsuc 1) (at (span 5 10) (TimesE (pos 3) (at (span 9 10) (VarE (codes "x"))))))) ∷
    []

groupings_compute : readings groupings ≡ terms groupings
unfolding groupings readings terms reading stuck_at answer tokens_from prefix_of word_kind spells same find_word word_with is_blank is_digit is_letter is_name_byte is_text_byte mark may_follow spelling parse parse_from ends goes_on settled rules body choice choice_rows phrase_number class_of word_number sign_number terminal_number may_stand shift build takes arity in_lowest_terms gcd gcd_in weight weight_rows may_be_empty empty_rows
groupings_compute = refl

groupings_are_read : AreRead groupings
groupings_are_read = all_read groupings groupings_compute

-- what goes before what
unfoldable orders : List Worked
orders =
    reads (codes "2 * x + 1") (at (span 0 9) (PlusE (at (span 0 5) (TimesE (pos 2) (at (span 4 5) (VarE (codes "x"))))) (at (span 8 9) (NumE (pos 1))))) ∷
    reads (codes "1 + 2 * x") (at (span 0 9) (PlusE (at (span 0 1) (NumE (pos 1))) (at (span 4 9) (TimesE (pos 2) (at (span 8 9) (VarE (codes "x"))))))) ∷
    reads (codes "2 * f x") (at (span 0 7) (TimesE (pos 2) (at (span 4 7) (AppE (at (span 4 5) (VarE (codes "f"))) (at (span 6 7) (VarE (codes "x"))))))) ∷
    reads (codes "f x + g y") (at (span 0 9) (PlusE (at (span 0 3) (AppE (at (span 0 1) (VarE (codes "f"))) (at (span 2 3) (VarE (codes "x"))))) (at (span 6 9) (AppE (at (span 6 7) (VarE (codes "g"))) (at (span 8 9) (VarE (codes "y"))))))) ∷
    reads (codes "a <= b + 1") (at (span 0 10) (LeE (at (span 0 1) (VarE (codes "a"))) (at (span 5 10) (PlusE (at (span 5 6) (VarE (codes "b"))) (at (span 9 10) (NumE (pos 1))))))) ∷
    reads (codes "1 x") (at (span 0 3) (AppE (at (span 0 1) (NumE (pos 1))) (at (span 2 3) (VarE (codes "x"))))) ∷
    reads (codes "-3 + x") (at (span 0 6) (PlusE (at (span 0 2) (NumE (negsuc 2))) (at (span 5 6) (VarE (codes "x"))))) ∷
    []

orders_compute : readings orders ≡ terms orders
unfolding orders readings terms reading stuck_at answer tokens_from prefix_of word_kind spells same find_word word_with is_blank is_digit is_letter is_name_byte is_text_byte mark may_follow spelling parse parse_from ends goes_on settled rules body choice choice_rows phrase_number class_of word_number sign_number terminal_number may_stand shift build takes arity in_lowest_terms gcd gcd_in weight weight_rows may_be_empty empty_rows
orders_compute = refl

orders_are_read : AreRead orders
orders_are_read = all_read orders orders_compute

-- how far a body, an operator and a function reach
unfoldable reaches : List Worked
reaches =
    reads (codes "a - -3") (at (span 0 6) (MinusE (at (span 0 1) (VarE (codes "a"))) (at (span 4 6) (NumE (negsuc 2))))) ∷
    reads (codes "f 1 -2") (at (span 0 6) (MinusE (at (span 0 3) (AppE (at (span 0 1) (VarE (codes "f"))) (at (span 2 3) (NumE (pos 1))))) (at (span 5 6) (NumE (pos 2))))) ∷
    reads (codes "let x = 1 in x + 2") (at (span 0 18) (LetE (codes "x") (at (span 8 9) (NumE (pos 1))) (at (span 13 18) (PlusE (at (span 13 14) (VarE (codes "x"))) (at (span 17 18) (NumE (pos 2))))))) ∷
    reads (codes "if a then b else c + d") (at (span 0 22) (IfE (at (span 3 4) (VarE (codes "a"))) (at (span 10 11) (VarE (codes "b"))) (at (span 17 22) (PlusE (at (span 17 18) (VarE (codes "c"))) (at (span 21 22) (VarE (codes "d"))))))) ∷
    reads (codes "size (union a b)") (at (span 0 16) (SizeE (at (span 6 15) (UnionE (at (span 12 13) (VarE (codes "a"))) (at (span 14 15) (VarE (codes "b"))))))) ∷
    reads (codes "fun (x : num) => fun (y : num) => x") (at (span 0 35) (FunE (codes "x") (span 9 12) NumT (at (span 17 35) (FunE (codes "y") (span 26 29) NumT (at (span 34 35) (VarE (codes "x"))))))) ∷
    []

reaches_compute : readings reaches ≡ terms reaches
unfolding reaches readings terms reading stuck_at answer tokens_from prefix_of word_kind spells same find_word word_with is_blank is_digit is_letter is_name_byte is_text_byte mark may_follow spelling parse parse_from ends goes_on settled rules body choice choice_rows phrase_number class_of word_number sign_number terminal_number may_stand shift build takes arity in_lowest_terms gcd gcd_in weight weight_rows may_be_empty empty_rows
reaches_compute = refl

reaches_are_read : AreRead reaches
reaches_are_read = all_read reaches reaches_compute

-- grouping and precedence of types
unfoldable type_orders : List Worked
type_orders =
    reads (codes "fun (x : num -o text -o unit) => x") (at (span 0 34) (FunE (codes "x") (span 9 28) (ArrowT NumT (ArrowT TextT UnitT)) (at (span 33 34) (VarE (codes "x"))))) ∷
    reads (codes "fn (x : num -> text -> unit) => x") (at (span 0 33) (FnE (codes "x") (span 8 27) (ArrowT (BangT Inf NumT) (ArrowT (BangT Inf TextT) UnitT)) (at (span 32 33) (VarE (codes "x"))))) ∷
    reads (codes "fun (x : num * text & unit + num + unit) => x") (at (span 0 45) (FunE (codes "x") (span 9 39) (SumT (TensorT NumT (WithT TextT UnitT)) (SumT NumT UnitT)) (at (span 44 45) (VarE (codes "x"))))) ∷
    reads (codes "fn (x : bool) => x") (at (span 0 18) (FnE (codes "x") (span 8 12) (SumT UnitT UnitT) (at (span 17 18) (VarE (codes "x"))))) ∷
    reads (codes "fun (x : ![2] num * num) => x") (at (span 0 29) (FunE (codes "x") (span 9 23) (TensorT (BangT (Fin 2 1) NumT) NumT) (at (span 28 29) (VarE (codes "x"))))) ∷
    []

type_orders_compute : readings type_orders ≡ terms type_orders
unfolding type_orders readings terms reading stuck_at answer tokens_from prefix_of word_kind spells same find_word word_with is_blank is_digit is_letter is_name_byte is_text_byte mark may_follow spelling parse parse_from ends goes_on settled rules body choice choice_rows phrase_number class_of word_number sign_number terminal_number may_stand shift build takes arity in_lowest_terms gcd gcd_in weight weight_rows may_be_empty empty_rows
type_orders_compute = refl

type_orders_are_read : AreRead type_orders
type_orders_are_read = all_read type_orders type_orders_compute

-- prefixes of types, and bang numbers
unfoldable type_prefixes : List Worked
type_prefixes =
    reads (codes "fun (x : bag num -o num) => x") (at (span 0 29) (FunE (codes "x") (span 9 23) (ArrowT (BagT NumT) NumT) (at (span 28 29) (VarE (codes "x"))))) ∷
    reads (codes "fun (x : bag ![2/3] num) => (x)") (at (span 0 31) (FunE (codes "x") (span 9 23) (BagT (BangT (Fin 2 3) NumT)) (at (span 29 30) (VarE (codes "x"))))) ∷
    reads (codes "fun (x : (num + unit) * (bool)) => x") (at (span 0 36) (FunE (codes "x") (span 9 30) (TensorT (SumT NumT UnitT) (SumT UnitT UnitT)) (at (span 35 36) (VarE (codes "x"))))) ∷
    reads (codes "![4294967295] x") (at (span 0 15) (BangE (Fin 4294967295 1) (at (span 14 15) (VarE (codes "x"))))) ∷
    []

type_prefixes_compute : readings type_prefixes ≡ terms type_prefixes
unfolding type_prefixes readings terms reading stuck_at answer tokens_from prefix_of word_kind spells same find_word word_with is_blank is_digit is_letter is_name_byte is_text_byte mark may_follow spelling parse parse_from ends goes_on settled rules body choice choice_rows phrase_number class_of word_number sign_number terminal_number may_stand shift build takes arity in_lowest_terms gcd gcd_in weight weight_rows may_be_empty empty_rows
type_prefixes_compute = refl

type_prefixes_are_read : AreRead type_prefixes
type_prefixes_are_read = all_read type_prefixes type_prefixes_compute

-- no terms, and the token that is stuck
unfoldable no_terms : List StuckText
no_terms =
    stops [] 0 ∷
    stops (codes "size") 1 ∷
    stops (codes "size people people") 2 ∷
    stops (codes "(fn (x : num) => x") 9 ∷
    stops (codes "x y z )") 3 ∷
    stops (codes "a <= b == c") 3 ∷
    stops (codes "fst p q") 2 ∷
    stops (codes "map f") 2 ∷
    stops (codes "![0] x") 2 ∷
    stops (codes "![4294967296] x") 2 ∷
    stops (codes "![1/0] x") 4 ∷
    stops (codes "-x") 1 ∷
    stops (codes "(1,2,3)") 4 ∷
    stops (codes "case s of inl x => a") 7 ∷
    stops (codes "let let = 1 in 2") 1 ∷
    stops (codes "do") 0 ∷
    stops (codes "sum[1] b") 3 ∷
    stops (codes "inl x") 1 ∷
    stops (codes "x -> y") 1 ∷
    stops (codes "x * y") 1 ∷
    stops (codes "fun (x : num +) => x") 6 ∷
    []

no_terms_compute : places no_terms ≡ wanted no_terms
unfolding no_terms places wanted reading stuck_at answer tokens_from prefix_of word_kind spells same find_word word_with is_blank is_digit is_letter is_name_byte is_text_byte mark may_follow spelling parse parse_from ends goes_on settled rules body choice choice_rows phrase_number class_of word_number sign_number terminal_number may_stand shift build takes arity in_lowest_terms gcd gcd_in weight weight_rows may_be_empty empty_rows
no_terms_compute = refl

no_terms_are_stuck : AreStuck no_terms
no_terms_are_stuck = all_stuck no_terms no_terms_compute

-- the limits: names of 32 bytes, numbers up to 2^50, texts of 64 bytes, numerators and denominators of bang numbers from 1 to 2^32 - 1, and terms 64 deep
name_of_33_bytes : (x : List ℕ) → length x ≡ 33 → Fits Named (Name x) → ⊥
name_of_33_bytes x e h = omega (arith, e, h)

name_of_32_bytes : (x : List ℕ) → length x ≡ 32 → Fits Named (Name x)
name_of_32_bytes x e = omega (arith, e)

greatest_number : Fits Numeral (Number 1125899906842624)
greatest_number = omega arith

number_over_it : Fits Numeral (Number 1125899906842625) → ⊥
number_over_it h = omega (arith, h)

text_of_65_bytes : (x : List ℕ) → length x ≡ 65 → Fits Quoted (Text x) → ⊥
text_of_65_bytes x e h = omega (arith, e, h)

text_of_64_bytes : (x : List ℕ) → length x ≡ 64 → Fits Quoted (Text x)
text_of_64_bytes x e = omega (arith, e)

bang_numbers_from_1 : Fits Positive (Number 0) → ⊥
bang_numbers_from_1 h = omega (arith, h.0)

term_64_deep : (ts : List Token) (e : Term) → IsTerm ts e → depth e ≡ 64 → IsParsed ts e
term_64_deep ts e h d = record { term = h; nesting = omega (arith, d) }

term_65_deep : (ts : List Token) (e : Term) → IsTerm ts e → depth e ≡ 65 → ExplainsParse ts (TooNested 65)
term_65_deep ts e h d = (omega arith, e, h, d)

-- what is told is the depth, however far over the limit it is
term_66_deep : (ts : List Token) (e : Term) → IsTerm ts e → depth e ≡ 66 → ExplainsParse ts (TooNested 66)
term_66_deep ts e h d = (omega arith, e, h, d)

term_100_deep : (ts : List Token) (e : Term) → IsTerm ts e → depth e ≡ 100 → ExplainsParse ts (TooNested 100)
term_100_deep ts e h d = (omega arith, e, h, d)

term_66_deep_is_not_told_65 : (ts : List Token) (e : Term) → ((other : Term) → IsTerm ts other → other ≡ e) → depth e ≡ 66 → ExplainsParse ts (TooNested 65) → ⊥
term_66_deep_is_not_told_65 ts e one d h = omega (arith, d, h.3, ap depth (one h.1 h.2))
