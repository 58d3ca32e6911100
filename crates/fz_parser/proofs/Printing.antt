-- What is written reads as the term, but for its spans: a derivation for each form, put together of its parts'.
use Rattle.std.proofs.Common.{inl, inr, ◌≡◌, ℕ, suc, ◌/◌, ◌^◌, ◌<◌, ◌≤◌, List, [], ◌∷◌, ◌++◌, refl, arith, sym, subst, length}
use Rattle.std.specs.Prelude.{ℤ, pos, negsuc, nat_eq}
use Rattle.std.proofs.lemmas.Bool.{cases_Bool, eqb-true}
use Rattle.std.proofs.lemmas.Int.{ints}
use Rattle.fz_frac.specs.Distance.{Distance, Fin, Inf}
use Rattle.fz_frac.specs.Lowest.{gcd}
use Rattle.fz_ast.specs.declared.span.Span.{Span}
use Rattle.fz_ast.specs.Types.{Ty, NumT, TextT, UnitT, TensorT, WithT, SumT, ArrowT, BangT, BagT}
use Rattle.fz_ast.specs.Terms.{Term, TermForm, at, VarE, NumE, TextE, UnitE, PairE, WithE, FstE, SndE, LetPairE, InlE, InrE, CaseE, IfE, FunE, FnE, AppE, BangE, LetBangE, LetE, PlusE, MinusE, TimesE, LeE, EqE, ClipE, LeastE, GreatestE, SizeE, SumE, UnionE, MapE, FilterE, SplitE}
use Rattle.fz_ast.specs.Bare.{bare, nowhere}
use Rattle.fz_ast.specs.Limits.{IsNumber, IsBang, TypeLimits, TermLimits}
use Rattle.fz_lexer.specs.declared.token.Token.{Token}
use Rattle.fz_lexer.specs.declared.token.Word.TheVariants.{Fun, Fn, Let, In, Case, Of, Inl, Inr, If, Then, Else, Fst, Snd, Num, Text as TextWord, Unit as UnitWord, Bag, Size, Sum, Clip, Least, Greatest, Map, Filter, Split, Union}
use Rattle.fz_lexer.specs.declared.token.Sign.TheVariants.{LeftParenthesis, RightParenthesis, LeftAngle, RightAngle, Comma, Colon, Is, Bang, Bar, Plus, Minus, Star, Ampersand, Yields, Lollipop, AtMost, EqualTo}
use Rattle.fz_parser.specs.declared.grammar.Item.{Item}
use Rattle.fz_parser.specs.declared.grammar.Item.TheVariants.{Take, Read, Make}
use Rattle.fz_parser.specs.declared.grammar.Terminal.{Terminal}
use Rattle.fz_parser.specs.declared.grammar.Action.{Action}
use Rattle.fz_parser.specs.declared.grammar.Phrase.{Phrase}
use Rattle.fz_parser.specs.declared.grammar.Phrase.TheVariants.{Expression, Addition, Multiplication, Application, Atom, Simple, Integer, Sensitivity, AnyType, PrefixType}
use Rattle.fz_parser.specs.Table.{rules, rule_count}
use Rattle.fz_parser.specs.Parts.{StackPart, State, IntegerPart, FactorPart, TypePart, TermPart, takes, arity, shift, build, in_lowest_terms}
use Rattle.fz_parser.specs.Grammar.{Fits, head, body, empty, only, IsTerm, IsTypeOf, IsSensitivityOf}
use Rattle.fz_parser.specs.Reads.{Reads}
use Rattle.fz_parser.specs.Steps.{START}
use Rattle.fz_parser.specs.Printer.{Tokens, word, sign, name_token, number_token, text_token, in_parentheses, in_brackets, written_integer, written_factor, written_type, written}
use Rattle.fz_parser.proofs.Cutting.{one}

-- the items stand for the tokens, and lead from the one state to the other
record Goes (σ : List Item) (w : List Token) (s r : State) : Type 0 where
  pub reads : Reads σ w s r

take_ : {k : Terminal} {σ : List Item} {t : Token} {w : List Token} {s r : State} → Fits k t.kind → Goes σ w (shift k t s) r → Goes (Take k ∷ σ) (t ∷ w) s r
take_ f h = record { reads = (suc h.reads.0, (f, h.reads.1)) }

make_ : {a : Action} {σ : List Item} {w : List Token} {s r : State} → Goes σ w (build a s) r → Goes (Make a ∷ σ) w s r
make_ h = record { reads = (suc h.reads.0, h.reads.1) }

rule_ : {a : Phrase} {σ : List Item} {w : List Token} {s r : State} → (p : ℕ) → p < rule_count → head p ≡ a → Goes (body p ++ σ) w s r → Goes (Read a ∷ σ) w s r
rule_ p l e h = record { reads = (suc h.reads.0, (p, l, e, h.reads.1)) }

-- parts that stand nowhere
abbrev on : List StackPart → State
on ps = record { last = nowhere; parts = ps }

abbrev term_part : Term → StackPart
term_part e = record { from = 0; what = TermPart e }

abbrev here : TermForm → StackPart
here f = term_part (at nowhere f)

abbrev type_part : Ty → StackPart
type_part t = record { from = 0; what = TypePart nowhere t }

abbrev integer_part : ℤ → StackPart
integer_part z = record { from = 0; what = IntegerPart z }

abbrev factor_part : Distance → StackPart
factor_part r = record { from = 0; what = FactorPart r }

-- before any tokens and on any parts, these tokens are the phrase, and leave the part
record Gives (a : Phrase) (w : Tokens) (p : StackPart) : Type 0 where
  pub reads : (σ : List Item) (k : List Token) (l : Span) (ps : List StackPart) (r : State) → Goes σ k (on (p ∷ ps)) r → Goes (Read a ∷ σ) (w k) (record { last = l; parts = ps }) r

within : (n : ℕ) → IsNumber (pos n) → n ≤ 2 ^ 50
within n h = omega (arith, ints, h.1)

below_zero : (n : ℕ) → IsNumber (negsuc n) → suc n ≤ 2 ^ 50
below_zero n h = omega (arith, ints, h.0)

same_fraction : (p q : ℕ) → gcd p q ≡ 1 → in_lowest_terms p q ≡ Fin p q
unfolding in_lowest_terms
same_fraction p q e = let f : p / 1 ≡ p = omega arith in let g : q / 1 ≡ q = omega arith in rw (e, f, g) refl

atom : {w : Tokens} {p : StackPart} → Gives Simple w p → Gives Atom w p
unfolding rules head body takes arity shift build
atom g = record { reads = λ σ k l ps r h. rule_ 42 (omega arith) refl (g.reads _ _ _ _ _ (h)) }

product : {w : Tokens} {p : StackPart} → Gives Simple w p → Gives Multiplication w p
unfolding rules head body takes arity shift build
product g = record { reads = λ σ k l ps r h. rule_ 23 (omega arith) refl (rule_ 38 (omega arith) refl (g.reads _ _ _ _ _ (rule_ 40 (omega arith) refl (h)))) }

addend : {w : Tokens} {p : StackPart} → Gives Simple w p → Gives Addition w p
unfolding rules head body takes arity shift build
addend g = record { reads = λ σ k l ps r h. rule_ 13 (omega arith) refl (rule_ 23 (omega arith) refl (rule_ 38 (omega arith) refl (g.reads _ _ _ _ _ (rule_ 40 (omega arith) refl (rule_ 16 (omega arith) refl (h)))))) }

expression : {w : Tokens} {p : StackPart} → Gives Simple w p → Gives Expression w p
unfolding rules head body takes arity shift build
expression g = record { reads = λ σ k l ps r h. rule_ 8 (omega arith) refl (rule_ 9 (omega arith) refl (rule_ 13 (omega arith) refl (rule_ 23 (omega arith) refl (rule_ 38 (omega arith) refl (g.reads _ _ _ _ _ (rule_ 40 (omega arith) refl (rule_ 16 (omega arith) refl (rule_ 12 (omega arith) refl (h))))))))) }

of_product : {w : Tokens} {p : StackPart} → Gives Multiplication w p → Gives Expression w p
unfolding rules head body takes arity shift build
of_product g = record { reads = λ σ k l ps r h. rule_ 8 (omega arith) refl (rule_ 9 (omega arith) refl (rule_ 13 (omega arith) refl (g.reads _ _ _ _ _ (rule_ 16 (omega arith) refl (rule_ 12 (omega arith) refl (h)))))) }

of_application : {w : Tokens} {p : StackPart} → Gives Application w p → Gives Expression w p
unfolding rules head body takes arity shift build
of_application g = record { reads = λ σ k l ps r h. rule_ 8 (omega arith) refl (rule_ 9 (omega arith) refl (rule_ 13 (omega arith) refl (rule_ 23 (omega arith) refl (g.reads _ _ _ _ _ (rule_ 16 (omega arith) refl (rule_ 12 (omega arith) refl (h))))))) }

group : {w : Tokens} {e : Term} → Gives Expression w (term_part e) → Gives Simple (in_parentheses w) (term_part e)
unfolding rules head body takes arity shift build
group g = record { reads = λ σ k l ps r h. rule_ 47 (omega arith) refl (take_ refl (make_ (rule_ 50 (omega arith) refl (g.reads _ _ _ _ _ (rule_ 51 (omega arith) refl (take_ refl (make_ (h)))))))) }

pair : {v w : Tokens} {a b : Term} → Gives Simple v (term_part a) → Gives Simple w (term_part b) → Gives Simple (in_parentheses (λ k. v (sign Comma ∷ w k))) (here (PairE a b))
unfolding rules head body takes arity shift build
pair f g = record { reads = λ σ k l ps r h. rule_ 47 (omega arith) refl (take_ refl (make_ (rule_ 50 (omega arith) refl ((expression f).reads _ _ _ _ _ (rule_ 52 (omega arith) refl (take_ refl ((expression g).reads _ _ _ _ _ (take_ refl (make_ (h)))))))))) }

with_ : {v w : Tokens} {a b : Term} → Gives Simple v (term_part a) → Gives Simple w (term_part b) → Gives Simple (λ k. sign LeftAngle ∷ v (sign Comma ∷ w (sign RightAngle ∷ k))) (here (WithE a b))
unfolding rules head body takes arity shift build
with_ f g = record { reads = λ σ k l ps r h. rule_ 48 (omega arith) refl (take_ refl (make_ ((expression f).reads _ _ _ _ _ (take_ refl ((expression g).reads _ _ _ _ _ (take_ refl (make_ (h)))))))) }

unit : Gives Simple (λ k. sign LeftParenthesis ∷ sign RightParenthesis ∷ k) (here UnitE)
unfolding rules head body takes arity shift build
unit = record { reads = λ σ k l ps r h. rule_ 47 (omega arith) refl (take_ refl (make_ (rule_ 49 (omega arith) refl (take_ refl (make_ (h)))))) }

name : {x : List ℕ} → length x ≤ 32 → Gives Simple (λ k. name_token x ∷ k) (here (VarE x))
unfolding rules head body takes arity shift build
name b = record { reads = λ σ k l ps r h. rule_ 43 (omega arith) refl (take_ b (make_ (h))) }

text : {x : List ℕ} → length x ≤ 64 → Gives Simple (λ k. text_token x ∷ k) (here (TextE x))
unfolding rules head body takes arity shift build
text b = record { reads = λ σ k l ps r h. rule_ 44 (omega arith) refl (take_ b (make_ (h))) }

plus : {v w : Tokens} {a b : Term} → Gives Simple v (term_part a) → Gives Simple w (term_part b) → Gives Expression (λ k. v (sign Plus ∷ w k)) (here (PlusE a b))
unfolding rules head body takes arity shift build
plus f g = record { reads = λ σ k l ps r h. rule_ 8 (omega arith) refl (rule_ 9 (omega arith) refl (rule_ 13 (omega arith) refl ((product f).reads _ _ _ _ _ (rule_ 14 (omega arith) refl (take_ refl ((product g).reads _ _ _ _ _ (make_ (rule_ 16 (omega arith) refl (rule_ 12 (omega arith) refl (h)))))))))) }

minus : {v w : Tokens} {a b : Term} → Gives Simple v (term_part a) → Gives Simple w (term_part b) → Gives Expression (λ k. v (sign Minus ∷ w k)) (here (MinusE a b))
unfolding rules head body takes arity shift build
minus f g = record { reads = λ σ k l ps r h. rule_ 8 (omega arith) refl (rule_ 9 (omega arith) refl (rule_ 13 (omega arith) refl ((product f).reads _ _ _ _ _ (rule_ 15 (omega arith) refl (take_ refl ((product g).reads _ _ _ _ _ (make_ (rule_ 16 (omega arith) refl (rule_ 12 (omega arith) refl (h)))))))))) }

at_most : {v w : Tokens} {a b : Term} → Gives Simple v (term_part a) → Gives Simple w (term_part b) → Gives Expression (λ k. v (sign AtMost ∷ w k)) (here (LeE a b))
unfolding rules head body takes arity shift build
at_most f g = record { reads = λ σ k l ps r h. rule_ 8 (omega arith) refl (rule_ 9 (omega arith) refl ((addend f).reads _ _ _ _ _ (rule_ 10 (omega arith) refl (take_ refl ((addend g).reads _ _ _ _ _ (make_ (h))))))) }

equal : {v w : Tokens} {a b : Term} → Gives Simple v (term_part a) → Gives Simple w (term_part b) → Gives Expression (λ k. v (sign EqualTo ∷ w k)) (here (EqE a b))
unfolding rules head body takes arity shift build
equal f g = record { reads = λ σ k l ps r h. rule_ 8 (omega arith) refl (rule_ 9 (omega arith) refl ((addend f).reads _ _ _ _ _ (rule_ 11 (omega arith) refl (take_ refl ((addend g).reads _ _ _ _ _ (make_ (h))))))) }

apply : {v w : Tokens} {a b : Term} → Gives Simple v (term_part a) → Gives Simple w (term_part b) → Gives Application (λ k. v (w k)) (here (AppE a b))
unfolding rules head body takes arity shift build
apply f g = record { reads = λ σ k l ps r h. rule_ 38 (omega arith) refl (f.reads _ _ _ _ _ (rule_ 39 (omega arith) refl ((atom g).reads _ _ _ _ _ (make_ (rule_ 40 (omega arith) refl (h)))))) }

fst : {w : Tokens} {e : Term} → Gives Simple w (term_part e) → Gives Application (λ k. word Fst ∷ w k) (here (FstE e))
unfolding rules head body takes arity shift build
fst g = record { reads = λ σ k l ps r h. rule_ 24 (omega arith) refl (take_ refl (make_ ((atom g).reads _ _ _ _ _ (make_ (h))))) }

snd : {w : Tokens} {e : Term} → Gives Simple w (term_part e) → Gives Application (λ k. word Snd ∷ w k) (here (SndE e))
unfolding rules head body takes arity shift build
snd g = record { reads = λ σ k l ps r h. rule_ 25 (omega arith) refl (take_ refl (make_ ((atom g).reads _ _ _ _ _ (make_ (h))))) }

size : {w : Tokens} {e : Term} → Gives Simple w (term_part e) → Gives Application (λ k. word Size ∷ w k) (here (SizeE e))
unfolding rules head body takes arity shift build
size g = record { reads = λ σ k l ps r h. rule_ 26 (omega arith) refl (take_ refl (make_ ((atom g).reads _ _ _ _ _ (make_ (h))))) }

least : {w : Tokens} {e : Term} → Gives Simple w (term_part e) → Gives Application (λ k. word Least ∷ w k) (here (LeastE e))
unfolding rules head body takes arity shift build
least g = record { reads = λ σ k l ps r h. rule_ 27 (omega arith) refl (take_ refl (make_ ((atom g).reads _ _ _ _ _ (make_ (h))))) }

greatest : {w : Tokens} {e : Term} → Gives Simple w (term_part e) → Gives Application (λ k. word Greatest ∷ w k) (here (GreatestE e))
unfolding rules head body takes arity shift build
greatest g = record { reads = λ σ k l ps r h. rule_ 28 (omega arith) refl (take_ refl (make_ ((atom g).reads _ _ _ _ _ (make_ (h))))) }

map_ : {v w : Tokens} {a b : Term} → Gives Simple v (term_part a) → Gives Simple w (term_part b) → Gives Application (λ k. word Map ∷ v (w k)) (here (MapE a b))
unfolding rules head body takes arity shift build
map_ f g = record { reads = λ σ k l ps r h. rule_ 34 (omega arith) refl (take_ refl (make_ ((atom f).reads _ _ _ _ _ ((atom g).reads _ _ _ _ _ (make_ (h)))))) }

filter : {v w : Tokens} {a b : Term} → Gives Simple v (term_part a) → Gives Simple w (term_part b) → Gives Application (λ k. word Filter ∷ v (w k)) (here (FilterE a b))
unfolding rules head body takes arity shift build
filter f g = record { reads = λ σ k l ps r h. rule_ 35 (omega arith) refl (take_ refl (make_ ((atom f).reads _ _ _ _ _ ((atom g).reads _ _ _ _ _ (make_ (h)))))) }

split : {v w : Tokens} {a b : Term} → Gives Simple v (term_part a) → Gives Simple w (term_part b) → Gives Application (λ k. word Split ∷ v (w k)) (here (SplitE a b))
unfolding rules head body takes arity shift build
split f g = record { reads = λ σ k l ps r h. rule_ 36 (omega arith) refl (take_ refl (make_ ((atom f).reads _ _ _ _ _ ((atom g).reads _ _ _ _ _ (make_ (h)))))) }

union : {v w : Tokens} {a b : Term} → Gives Simple v (term_part a) → Gives Simple w (term_part b) → Gives Application (λ k. word Union ∷ v (w k)) (here (UnionE a b))
unfolding rules head body takes arity shift build
union f g = record { reads = λ σ k l ps r h. rule_ 37 (omega arith) refl (take_ refl (make_ ((atom f).reads _ _ _ _ _ ((atom g).reads _ _ _ _ _ (make_ (h)))))) }

whole_number : {n : ℕ} → n ≤ 2 ^ 50 → Gives Integer (λ k. number_token n ∷ k) (integer_part (pos n))
unfolding rules head body takes arity shift build
whole_number b = record { reads = λ σ k l ps r h. rule_ 54 (omega arith) refl (take_ b (make_ (h))) }

negative_number : {n : ℕ} → suc n ≤ 2 ^ 50 → Gives Integer (λ k. sign Minus ∷ number_token (suc n) ∷ k) (integer_part (negsuc n))
unfolding rules head body takes arity shift build
negative_number b = record { reads = λ σ k l ps r h. rule_ 53 (omega arith) refl (take_ refl (take_ b (make_ (h)))) }

integer : (z : ℤ) → IsNumber z → Gives Integer (written_integer z) (integer_part z)
integer (pos n) h = whole_number (within n h)
integer (negsuc n) h = negative_number (below_zero n h)

number : {n : ℕ} → n ≤ 2 ^ 50 → Gives Multiplication (λ k. number_token n ∷ k) (here (NumE (pos n)))
unfolding rules head body takes arity shift build
number b = record { reads = λ σ k l ps r h. rule_ 20 (omega arith) refl (take_ b (rule_ 22 (omega arith) refl (make_ (rule_ 40 (omega arith) refl (h))))) }

below : {n : ℕ} → suc n ≤ 2 ^ 50 → Gives Multiplication (λ k. sign Minus ∷ number_token (suc n) ∷ k) (here (NumE (negsuc n)))
unfolding rules head body takes arity shift build
below b = record { reads = λ σ k l ps r h. rule_ 17 (omega arith) refl (take_ refl (make_ (take_ b (rule_ 19 (omega arith) refl (make_ (h)))))) }

numeral : (z : ℤ) → IsNumber z → Gives Multiplication (written_integer z) (here (NumE z))
numeral (pos n) h = number (within n h)
numeral (negsuc n) h = below (below_zero n h)

times_whole : {n : ℕ} {w : Tokens} {e : Term} → n ≤ 2 ^ 50 → Gives Simple w (term_part e) → Gives Multiplication (λ k. number_token n ∷ sign Star ∷ w k) (here (TimesE (pos n) e))
unfolding rules head body takes arity shift build
times_whole b g = record { reads = λ σ k l ps r h. rule_ 20 (omega arith) refl (take_ b (rule_ 21 (omega arith) refl (take_ refl ((product g).reads _ _ _ _ _ (make_ (h)))))) }

times_negative : {n : ℕ} {w : Tokens} {e : Term} → suc n ≤ 2 ^ 50 → Gives Simple w (term_part e) → Gives Multiplication (λ k. sign Minus ∷ number_token (suc n) ∷ sign Star ∷ w k) (here (TimesE (negsuc n) e))
unfolding rules head body takes arity shift build
times_negative b g = record { reads = λ σ k l ps r h. rule_ 17 (omega arith) refl (take_ refl (make_ (take_ b (rule_ 18 (omega arith) refl (take_ refl ((product g).reads _ _ _ _ _ (make_ (h)))))))) }

times : (z : ℤ) {w : Tokens} {e : Term} → IsNumber z → Gives Simple w (term_part e) → Gives Multiplication (λ k. written_integer z (sign Star ∷ w k)) (here (TimesE z e))
times (pos n) h g = times_whole (within n h) g
times (negsuc n) h g = times_negative (below_zero n h) g

sum : {u v w : Tokens} {lo hi : ℤ} {e : Term} → Gives Integer u (integer_part lo) → Gives Integer v (integer_part hi) → Gives Simple w (term_part e) → Gives Application (λ k. word Sum ∷ in_brackets (λ k. u (sign Comma ∷ v k)) (w k)) (here (SumE lo hi e))
unfolding rules head body takes arity shift build
sum i j g = record { reads = λ σ k l ps r h. rule_ 29 (omega arith) refl (take_ refl (make_ (take_ refl (i.reads _ _ _ _ _ (take_ refl (j.reads _ _ _ _ _ (take_ refl ((atom g).reads _ _ _ _ _ (make_ (h)))))))))) }

clip : {u v w : Tokens} {lo hi : ℤ} {e : Term} → Gives Integer u (integer_part lo) → Gives Integer v (integer_part hi) → Gives Simple w (term_part e) → Gives Application (λ k. word Clip ∷ in_brackets (λ k. u (sign Comma ∷ v k)) (w k)) (here (ClipE lo hi e))
unfolding rules head body takes arity shift build
clip i j g = record { reads = λ σ k l ps r h. rule_ 30 (omega arith) refl (take_ refl (make_ (take_ refl (i.reads _ _ _ _ _ (take_ refl (j.reads _ _ _ _ _ (take_ refl ((atom g).reads _ _ _ _ _ (make_ (h)))))))))) }

infinite : Gives Sensitivity (written_factor Inf) (factor_part Inf)
unfolding rules head body takes arity shift build
infinite = record { reads = λ σ k l ps r h. rule_ 58 (omega arith) refl (take_ refl (make_ (h))) }

fraction : (p q : ℕ) → (0 < p) × (p < 2 ^ 32) → (0 < q) × (q < 2 ^ 32) → gcd p q ≡ 1 → Gives Sensitivity (written_factor (Fin p q)) (factor_part (Fin p q))
unfolding rules head body takes arity shift build
fraction p q f g e = record {
  reads = λ σ k l ps r h. elim (cases_Bool (nat_eq q 1)) [
    | inl z ↦ rw z (rule_ 55 (omega arith) refl (take_ f (rule_ 57 (omega arith) refl (make_ (subst (λ n. Goes σ k (on (factor_part (Fin p n) ∷ ps)) r) (eqb-true q 1 z) h)))))
    | inr z ↦ rw z (rule_ 55 (omega arith) refl (take_ f (rule_ 56 (omega arith) refl (take_ refl (take_ g (make_ (subst (λ d. Goes σ k (on (factor_part d ∷ ps)) r) (sym (same_fraction p q e)) h)))))))
  ];
}

factor : (r : Distance) → IsBang r → Gives Sensitivity (written_factor r) (factor_part r)
factor (Fin p q) h = fraction p q (omega (arith, h.0), omega (arith, h.1)) (omega (arith, h.2), omega (arith, h.3)) h.4
factor Inf h = infinite

bang : {v w : Tokens} {r : Distance} {e : Term} → Gives Sensitivity v (factor_part r) → Gives Simple w (term_part e) → Gives Application (λ k. sign Bang ∷ in_brackets v (w k)) (here (BangE r e))
unfolding rules head body takes arity shift build
bang f g = record { reads = λ σ k l ps r h. rule_ 33 (omega arith) refl (take_ refl (make_ (take_ refl (f.reads _ _ _ _ _ (take_ refl ((atom g).reads _ _ _ _ _ (make_ (h)))))))) }

num_type : Gives PrefixType (λ k. word Num ∷ k) (type_part NumT)
unfolding rules head body takes arity shift build
num_type = record { reads = λ σ k l ps r h. rule_ 72 (omega arith) refl (take_ refl (make_ (h))) }

text_type : Gives PrefixType (λ k. word TextWord ∷ k) (type_part TextT)
unfolding rules head body takes arity shift build
text_type = record { reads = λ σ k l ps r h. rule_ 73 (omega arith) refl (take_ refl (make_ (h))) }

unit_type : Gives PrefixType (λ k. word UnitWord ∷ k) (type_part UnitT)
unfolding rules head body takes arity shift build
unit_type = record { reads = λ σ k l ps r h. rule_ 74 (omega arith) refl (take_ refl (make_ (h))) }

any_type : {w : Tokens} {p : StackPart} → Gives PrefixType w p → Gives AnyType w p
unfolding rules head body takes arity shift build
any_type g = record { reads = λ σ k l ps r h. rule_ 59 (omega arith) refl (rule_ 63 (omega arith) refl (rule_ 66 (omega arith) refl (g.reads _ _ _ _ _ (rule_ 69 (omega arith) refl (rule_ 65 (omega arith) refl (rule_ 62 (omega arith) refl (h))))))) }

tensor : {v w : Tokens} {A B : Ty} → Gives PrefixType v (type_part A) → Gives PrefixType w (type_part B) → Gives PrefixType (in_parentheses (λ k. v (sign Star ∷ w k))) (type_part (TensorT A B))
unfolding rules head body takes arity shift build
tensor f g = record { reads = λ σ k l ps r h. rule_ 76 (omega arith) refl (take_ refl (make_ (rule_ 59 (omega arith) refl (rule_ 63 (omega arith) refl (rule_ 66 (omega arith) refl (f.reads _ _ _ _ _ (rule_ 67 (omega arith) refl (take_ refl (rule_ 66 (omega arith) refl (g.reads _ _ _ _ _ (rule_ 69 (omega arith) refl (make_ (rule_ 65 (omega arith) refl (rule_ 62 (omega arith) refl (take_ refl (make_ (h))))))))))))))))) }

with_type : {v w : Tokens} {A B : Ty} → Gives PrefixType v (type_part A) → Gives PrefixType w (type_part B) → Gives PrefixType (in_parentheses (λ k. v (sign Ampersand ∷ w k))) (type_part (WithT A B))
unfolding rules head body takes arity shift build
with_type f g = record { reads = λ σ k l ps r h. rule_ 76 (omega arith) refl (take_ refl (make_ (rule_ 59 (omega arith) refl (rule_ 63 (omega arith) refl (rule_ 66 (omega arith) refl (f.reads _ _ _ _ _ (rule_ 68 (omega arith) refl (take_ refl (rule_ 66 (omega arith) refl (g.reads _ _ _ _ _ (rule_ 69 (omega arith) refl (make_ (rule_ 65 (omega arith) refl (rule_ 62 (omega arith) refl (take_ refl (make_ (h))))))))))))))))) }

sum_type : {v w : Tokens} {A B : Ty} → Gives PrefixType v (type_part A) → Gives PrefixType w (type_part B) → Gives PrefixType (in_parentheses (λ k. v (sign Plus ∷ w k))) (type_part (SumT A B))
unfolding rules head body takes arity shift build
sum_type f g = record { reads = λ σ k l ps r h. rule_ 76 (omega arith) refl (take_ refl (make_ (rule_ 59 (omega arith) refl (rule_ 63 (omega arith) refl (rule_ 66 (omega arith) refl (f.reads _ _ _ _ _ (rule_ 69 (omega arith) refl (rule_ 64 (omega arith) refl (take_ refl (rule_ 63 (omega arith) refl (rule_ 66 (omega arith) refl (g.reads _ _ _ _ _ (rule_ 69 (omega arith) refl (rule_ 65 (omega arith) refl (make_ (rule_ 62 (omega arith) refl (take_ refl (make_ (h))))))))))))))))))) }

arrow_type : {v w : Tokens} {A B : Ty} → Gives PrefixType v (type_part A) → Gives PrefixType w (type_part B) → Gives PrefixType (in_parentheses (λ k. v (sign Lollipop ∷ w k))) (type_part (ArrowT A B))
unfolding rules head body takes arity shift build
arrow_type f g = record { reads = λ σ k l ps r h. rule_ 76 (omega arith) refl (take_ refl (make_ (rule_ 59 (omega arith) refl (rule_ 63 (omega arith) refl (rule_ 66 (omega arith) refl (f.reads _ _ _ _ _ (rule_ 69 (omega arith) refl (rule_ 65 (omega arith) refl (rule_ 60 (omega arith) refl (take_ refl (rule_ 59 (omega arith) refl (rule_ 63 (omega arith) refl (rule_ 66 (omega arith) refl (g.reads _ _ _ _ _ (rule_ 69 (omega arith) refl (rule_ 65 (omega arith) refl (rule_ 62 (omega arith) refl (make_ (take_ refl (make_ (h))))))))))))))))))))) }

bang_type : {v w : Tokens} {r : Distance} {A : Ty} → Gives Sensitivity v (factor_part r) → Gives PrefixType w (type_part A) → Gives PrefixType (λ k. sign Bang ∷ in_brackets v (w k)) (type_part (BangT r A))
unfolding rules head body takes arity shift build
bang_type f g = record { reads = λ σ k l ps r h. rule_ 70 (omega arith) refl (take_ refl (make_ (take_ refl (f.reads _ _ _ _ _ (take_ refl (g.reads _ _ _ _ _ (make_ (h)))))))) }

bag_type : {w : Tokens} {A : Ty} → Gives PrefixType w (type_part A) → Gives PrefixType (λ k. word Bag ∷ w k) (type_part (BagT A))
unfolding rules head body takes arity shift build
bag_type g = record { reads = λ σ k l ps r h. rule_ 71 (omega arith) refl (take_ refl (make_ (g.reads _ _ _ _ _ (make_ (h))))) }

type_back : (t : Ty) → TypeLimits t → Gives PrefixType (written_type t) (type_part t)
type_back NumT h = num_type
type_back TextT h = text_type
type_back UnitT h = unit_type
type_back (TensorT A B) h = tensor (type_back A h.0) (type_back B h.1)
type_back (WithT A B) h = with_type (type_back A h.0) (type_back B h.1)
type_back (SumT A B) h = sum_type (type_back A h.0) (type_back B h.1)
type_back (ArrowT A B) h = arrow_type (type_back A h.0) (type_back B h.1)
type_back (BangT r A) h = bang_type (factor r h.0) (type_back A h.1)
type_back (BagT A) h = bag_type (type_back A h)

left : {v w : Tokens} {t : Ty} {e : Term} → Gives PrefixType v (type_part t) → Gives Simple w (term_part e) → Gives Application (λ k. word Inl ∷ in_brackets v (w k)) (here (InlE nowhere t e))
unfolding rules head body takes arity shift build
left f g = record { reads = λ σ k l ps r h. rule_ 31 (omega arith) refl (take_ refl (make_ (take_ refl ((any_type f).reads _ _ _ _ _ (take_ refl ((atom g).reads _ _ _ _ _ (make_ (h)))))))) }

right : {v w : Tokens} {t : Ty} {e : Term} → Gives PrefixType v (type_part t) → Gives Simple w (term_part e) → Gives Application (λ k. word Inr ∷ in_brackets v (w k)) (here (InrE nowhere t e))
unfolding rules head body takes arity shift build
right f g = record { reads = λ σ k l ps r h. rule_ 32 (omega arith) refl (take_ refl (make_ (take_ refl ((any_type f).reads _ _ _ _ _ (take_ refl ((atom g).reads _ _ _ _ _ (make_ (h)))))))) }

fun_ : {x : List ℕ} {v w : Tokens} {t : Ty} {e : Term} → length x ≤ 32 → Gives PrefixType v (type_part t) → Gives Simple w (term_part e) → Gives Expression (λ k. word Fun ∷ in_parentheses (λ k. name_token x ∷ sign Colon ∷ v k) (sign Yields ∷ w k)) (here (FunE x nowhere t e))
unfolding rules head body takes arity shift build
fun_ b f g = record { reads = λ σ k l ps r h. rule_ 0 (omega arith) refl (take_ refl (make_ (take_ refl (take_ b (take_ refl ((any_type f).reads _ _ _ _ _ (take_ refl (take_ refl ((expression g).reads _ _ _ _ _ (make_ (h))))))))))) }

fn_ : {x : List ℕ} {v w : Tokens} {t : Ty} {e : Term} → length x ≤ 32 → Gives PrefixType v (type_part t) → Gives Simple w (term_part e) → Gives Expression (λ k. word Fn ∷ in_parentheses (λ k. name_token x ∷ sign Colon ∷ v k) (sign Yields ∷ w k)) (here (FnE x nowhere t e))
unfolding rules head body takes arity shift build
fn_ b f g = record { reads = λ σ k l ps r h. rule_ 1 (omega arith) refl (take_ refl (make_ (take_ refl (take_ b (take_ refl ((any_type f).reads _ _ _ _ _ (take_ refl (take_ refl ((expression g).reads _ _ _ _ _ (make_ (h))))))))))) }

let_pair : {x y : List ℕ} {v w : Tokens} {a b : Term} → length x ≤ 32 → length y ≤ 32 → Gives Simple v (term_part a) → Gives Simple w (term_part b) → Gives Expression (λ k. word Let ∷ in_parentheses (λ k. name_token x ∷ sign Comma ∷ name_token y ∷ k) (sign Is ∷ v (word In ∷ w k))) (here (LetPairE x y a b))
unfolding rules head body takes arity shift build
let_pair b c f g = record { reads = λ σ k l ps r h. rule_ 2 (omega arith) refl (take_ refl (make_ (rule_ 4 (omega arith) refl (take_ refl (take_ b (take_ refl (take_ c (take_ refl (take_ refl ((expression f).reads _ _ _ _ _ (take_ refl ((expression g).reads _ _ _ _ _ (make_ (h)))))))))))))) }

let_bang : {x : List ℕ} {v w : Tokens} {a b : Term} → length x ≤ 32 → Gives Simple v (term_part a) → Gives Simple w (term_part b) → Gives Expression (λ k. word Let ∷ sign Bang ∷ name_token x ∷ sign Is ∷ v (word In ∷ w k)) (here (LetBangE x a b))
unfolding rules head body takes arity shift build
let_bang b f g = record { reads = λ σ k l ps r h. rule_ 2 (omega arith) refl (take_ refl (make_ (rule_ 3 (omega arith) refl (take_ refl (take_ b (take_ refl ((expression f).reads _ _ _ _ _ (take_ refl ((expression g).reads _ _ _ _ _ (make_ (h))))))))))) }

let_ : {x : List ℕ} {v w : Tokens} {a b : Term} → length x ≤ 32 → Gives Simple v (term_part a) → Gives Simple w (term_part b) → Gives Expression (λ k. word Let ∷ name_token x ∷ sign Is ∷ v (word In ∷ w k)) (here (LetE x a b))
unfolding rules head body takes arity shift build
let_ b f g = record { reads = λ σ k l ps r h. rule_ 2 (omega arith) refl (take_ refl (make_ (rule_ 5 (omega arith) refl (take_ b (take_ refl ((expression f).reads _ _ _ _ _ (take_ refl ((expression g).reads _ _ _ _ _ (make_ (h)))))))))) }

if_ : {u v w : Tokens} {e a b : Term} → Gives Simple u (term_part e) → Gives Simple v (term_part a) → Gives Simple w (term_part b) → Gives Expression (λ k. word If ∷ u (word Then ∷ v (word Else ∷ w k))) (here (IfE e a b))
unfolding rules head body takes arity shift build
if_ d f g = record { reads = λ σ k l ps r h. rule_ 7 (omega arith) refl (take_ refl (make_ ((expression d).reads _ _ _ _ _ (take_ refl ((expression f).reads _ _ _ _ _ (take_ refl ((expression g).reads _ _ _ _ _ (make_ (h))))))))) }

case_ : {x y : List ℕ} {u v w : Tokens} {e a b : Term} → length x ≤ 32 → length y ≤ 32 → Gives Simple u (term_part e) → Gives Simple v (term_part a) → Gives Simple w (term_part b) → Gives Expression (λ k. word Case ∷ u (word Of ∷ word Inl ∷ name_token x ∷ sign Yields ∷ v (sign Bar ∷ word Inr ∷ name_token y ∷ sign Yields ∷ w k))) (here (CaseE e x a y b))
unfolding rules head body takes arity shift build
case_ b c d f g = record { reads = λ σ k l ps r h. rule_ 6 (omega arith) refl (take_ refl (make_ ((expression d).reads _ _ _ _ _ (take_ refl (take_ refl (take_ b (take_ refl ((expression f).reads _ _ _ _ _ (take_ refl (take_ refl (take_ c (take_ refl ((expression g).reads _ _ _ _ _ (make_ (h))))))))))))))) }

-- each form
back : (e : Term) → TermLimits e → Gives Simple (written e) (term_part (bare e))
back (at s (VarE x)) h = name h
back (at s (NumE z)) h = group (of_product (numeral z h))
back (at s (TextE t)) h = text h
back (at s UnitE) h = unit
back (at s (PairE a b)) h = pair (back a h.0) (back b h.1)
back (at s (WithE a b)) h = with_ (back a h.0) (back b h.1)
back (at s (FstE e)) h = group (of_application (fst (back e h)))
back (at s (SndE e)) h = group (of_application (snd (back e h)))
back (at s (LetPairE x y a b)) h = group (let_pair h.0 h.1 (back a h.2) (back b h.3))
back (at s (InlE u t e)) h = group (of_application (left (type_back t h.0) (back e h.1)))
back (at s (InrE u t e)) h = group (of_application (right (type_back t h.0) (back e h.1)))
back (at s (CaseE e x a y b)) h = group (case_ h.1 h.3 (back e h.0) (back a h.2) (back b h.4))
back (at s (IfE e a b)) h = group (if_ (back e h.0) (back a h.1) (back b h.2))
back (at s (FunE x u t e)) h = group (fun_ h.0 (type_back t h.1) (back e h.2))
back (at s (FnE x u t e)) h = group (fn_ h.0 (type_back t h.1) (back e h.2))
back (at s (AppE a b)) h = group (of_application (apply (back a h.0) (back b h.1)))
back (at s (BangE r e)) h = group (of_application (bang (factor r h.0) (back e h.1)))
back (at s (LetBangE x a b)) h = group (let_bang h.0 (back a h.1) (back b h.2))
back (at s (LetE x a b)) h = group (let_ h.0 (back a h.1) (back b h.2))
back (at s (PlusE a b)) h = group (plus (back a h.0) (back b h.1))
back (at s (MinusE a b)) h = group (minus (back a h.0) (back b h.1))
back (at s (TimesE z e)) h = group (of_product (times z h.0 (back e h.1)))
back (at s (LeE a b)) h = group (at_most (back a h.0) (back b h.1))
back (at s (EqE a b)) h = group (equal (back a h.0) (back b h.1))
back (at s (ClipE lo hi e)) h = group (of_application (clip (integer lo h.0) (integer hi h.1) (back e h.2)))
back (at s (LeastE e)) h = group (of_application (least (back e h)))
back (at s (GreatestE e)) h = group (of_application (greatest (back e h)))
back (at s (SizeE e)) h = group (of_application (size (back e h)))
back (at s (SumE lo hi e)) h = group (of_application (sum (integer lo h.0) (integer hi h.1) (back e h.2)))
back (at s (UnionE a b)) h = group (of_application (union (back a h.0) (back b h.1)))
back (at s (MapE a b)) h = group (of_application (map_ (back a h.0) (back b h.1)))
back (at s (FilterE a b)) h = group (of_application (filter (back a h.0) (back b h.1)))
back (at s (SplitE a b)) h = group (of_application (split (back a h.0) (back b h.1)))

pub reads_back : (e : Term) → TermLimits e → IsTerm (written e []) (bare e)
unfolding IsTerm
reads_back e h =
    let start : Goes [] [] (on (term_part (bare e) ∷ [])) (only nowhere 0 (bare e)) = record { reads = (0, refl) } in
    let g : Goes (START Expression) (written e []) empty (only nowhere 0 (bare e)) = (expression (back e h)).reads [] [] nowhere [] (only nowhere 0 (bare e)) start in
    (nowhere, 0, (one (START Expression) (written e []) empty (only nowhere 0 (bare e))).0 g.reads)

-- a type and a sensitivity by themselves
pub type_reads_back : (T : Ty) → TypeLimits T → IsTypeOf (written_type T []) T
unfolding IsTypeOf
type_reads_back T h =
    let start : Goes [] [] (on (type_part T ∷ [])) (on (type_part T ∷ [])) = record { reads = (0, refl) } in
    let g : Goes (START AnyType) (written_type T []) empty (on (type_part T ∷ [])) = (any_type (type_back T h)).reads [] [] nowhere [] (on (type_part T ∷ [])) start in
    (nowhere, (nowhere, 0, (one (START AnyType) (written_type T []) empty (on (type_part T ∷ []))).0 g.reads))

pub sensitivity_reads_back : (d : Distance) → IsBang d → IsSensitivityOf (written_factor d []) d
unfolding IsSensitivityOf
sensitivity_reads_back d h =
    let start : Goes [] [] (on (factor_part d ∷ [])) (on (factor_part d ∷ [])) = record { reads = (0, refl) } in
    let g : Goes (START Sensitivity) (written_factor d []) empty (on (factor_part d ∷ [])) = (factor d h).reads [] [] nowhere [] (on (factor_part d ∷ [])) start in
    (nowhere, 0, (one (START Sensitivity) (written_factor d []) empty (on (factor_part d ∷ []))).0 g.reads)
