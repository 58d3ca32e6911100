-- The factored rules for products say what they are usually written as.
use Rattle.std.proofs.Common.{◌≡◌, ℕ, zero, suc, ◌<◌, List, [], ◌∷◌, ◌++◌, Bool, true, cond, refl, arith, sym, ap, subst, inl, inr}
use Rattle.std.specs.Prelude.{◌||◌, nat_eq, ◌⊎◌, ◌↔◌}
use Rattle.std.proofs.lemmas.Bool.{or_cases, eqb-true, eq-eqb}
use Rattle.fz_lexer.specs.declared.token.Token.{Token}
use Rattle.fz_lexer.specs.declared.token.Sign.TheVariants.{Star}
use Rattle.fz_parser.specs.declared.grammar.Item.{Item}
use Rattle.fz_parser.specs.declared.grammar.Item.TheVariants.{Take, Read, Make}
use Rattle.fz_parser.specs.declared.grammar.Terminal.TheVariants.{Numeral, Symbol}
use Rattle.fz_parser.specs.declared.grammar.Phrase.{Phrase}
use Rattle.fz_parser.specs.declared.grammar.Phrase.TheVariants.{Multiplication, NumeralTail, Atom, Application, ApplicationTail}
use Rattle.fz_parser.specs.declared.grammar.Action.TheVariants.{TimesTerm, NumberTerm}
use Rattle.fz_parser.specs.Table.{rules, rule_count}
use Rattle.fz_parser.specs.Parts.{State, shift}
use Rattle.fz_parser.specs.Grammar.{head, body, Derives}
use Rattle.fz_parser.specs.Reads.{ReadsIn, Reads}
use Rattle.fz_parser.specs.Classes.{phrase_number}
use Rattle.fz_parser.specs.Tests.{below}
use Rattle.fz_parser.specs.Written.{NEGATIVE, SCALED, ATOMS, IsProduct}
use Rattle.fz_parser.proofs.Cutting.{one}
use Rattle.fz_parser.proofs.Theory.{below_each, then_true}

unfoldable is_of : Phrase → ℕ → ℕ → ℕ → ℕ → Bool
is_of a x y z p = cond (nat_eq (phrase_number (head p)) (phrase_number a)) (nat_eq p x || (nat_eq p y || nat_eq p z)) true

product_tested : below rule_count (λ p. is_of Multiplication 17 20 23 p) ≡ true
unfolding rules head phrase_number is_of below
product_tested = refl

tail_tested : below rule_count (λ p. is_of NumeralTail 21 22 22 p) ≡ true
unfolding rules head phrase_number is_of below
tail_tested = refl

atom_tested : below rule_count (λ p. is_of Atom 41 42 42 p) ≡ true
unfolding rules head phrase_number is_of below
atom_tested = refl

of_at : (a : Phrase) (x y z p : ℕ) → below rule_count (λ p. is_of a x y z p) ≡ true → p < rule_count → head p ≡ a → (p ≡ x) ⊎ ((p ≡ y) ⊎ (p ≡ z))
unfolding is_of
of_at a x y z p t l e =
    let h = then_true (nat_eq (phrase_number (head p)) (phrase_number a)) _ (below_each rule_count (λ p. is_of a x y z p) t p l) (eq-eqb (phrase_number (head p)) (phrase_number a) (ap phrase_number e)) in
    elim (or_cases (nat_eq p x) (nat_eq p y || nat_eq p z) h) [
      | inl k ↦ inl (eqb-true p x k)
      | inr k ↦ elim (or_cases (nat_eq p y) (nat_eq p z) k) [ inl k ↦ inr (inl (eqb-true p y k)) | inr k ↦ inr (inr (eqb-true p z k)) ]
    ]

abbrev Product : List Token → State → State → Type 0
Product w s r = Reads NEGATIVE w s r ⊎ (Reads SCALED w s r ⊎ (Reads ATOMS w s r ⊎ Reads (Read Application ∷ []) w s r))

body17 : body 17 ++ [] ≡ NEGATIVE
unfolding rules body
body17 = refl

body20 : body 20 ++ [] ≡ Take Numeral ∷ Read NumeralTail ∷ []
unfolding rules body
body20 = refl

body21 : body 21 ++ [] ≡ Take (Symbol Star) ∷ Read Multiplication ∷ Make TimesTerm ∷ []
unfolding rules body
body21 = refl

body22 : body 22 ++ [] ≡ Make NumberTerm ∷ Read ApplicationTail ∷ []
unfolding rules body
body22 = refl

body23 : body 23 ++ [] ≡ Read Application ∷ []
unfolding rules body
body23 = refl

body41 : body 41 ++ (Read ApplicationTail ∷ []) ≡ Take Numeral ∷ Make NumberTerm ∷ Read ApplicationTail ∷ []
unfolding rules body
body41 = refl

body42 : body 42 ++ (Read ApplicationTail ∷ []) ≡ body 38 ++ []
unfolding rules body
body42 = refl

head_of : (head 17 ≡ Multiplication) × (head 20 ≡ Multiplication) × (head 21 ≡ NumeralTail) × (head 22 ≡ NumeralTail) × (head 23 ≡ Multiplication) × (head 38 ≡ Application) × (head 41 ≡ Atom)
unfolding rules head
head_of = (refl, refl, refl, refl, refl, refl, refl)

by_rule : (a : Phrase) (p n : ℕ) (β : List Item) (w : List Token) (s r : State) → p < rule_count → head p ≡ a → body p ++ [] ≡ β → ReadsIn n β w s r → Reads (Read a ∷ []) w s r
by_rule a p n β w s r l e b h = (suc n, (p, l, e, subst (λ σ. ReadsIn n σ w s r) (sym b) h))

atom_rule : (w : List Token) (s r : State) (n : ℕ) → ReadsIn n (Take Numeral ∷ Make NumberTerm ∷ Read ApplicationTail ∷ []) w s r → Reads ATOMS w s r
atom_rule w s r n h = (suc n, (41, omega arith, head_of.6, subst (λ σ. ReadsIn n σ w s r) (sym body41) h))

number_down : (n : ℕ) (w : List Token) (s r : State) → ReadsIn n (Take Numeral ∷ Read NumeralTail ∷ []) w s r → Product w s r
number_down zero [] s r h = absurd h
number_down zero (t ∷ w) s r h = absurd h
number_down (suc n) [] s r h = absurd h
number_down (suc zero) (t ∷ []) s r h = absurd h.1
number_down (suc zero) (t ∷ u ∷ w) s r h = absurd h.1
number_down (suc (suc n)) (t ∷ w) s r (f, (p, l, e, h)) =
    let m : State = shift Numeral t s in
    elim (of_at NumeralTail 21 22 22 p tail_tested l e) [
      | inl k ↦
          let g : ReadsIn n (Take (Symbol Star) ∷ Read Multiplication ∷ Make TimesTerm ∷ []) w (shift Numeral t s) r = subst (λ σ. ReadsIn n σ w (shift Numeral t s) r) body21 (subst (λ p. ReadsIn n (body p ++ []) w (shift Numeral t s) r) k h) in
          inr (inl (suc n, (f, g)))
      | inr k ↦
          let q : p ≡ 22 = elim k [ inl k ↦ k | inr k ↦ k ] in
          let g : ReadsIn n (Make NumberTerm ∷ Read ApplicationTail ∷ []) w (shift Numeral t s) r = subst (λ σ. ReadsIn n σ w (shift Numeral t s) r) body22 (subst (λ p. ReadsIn n (body p ++ []) w (shift Numeral t s) r) q h) in
          inr (inr (inl (atom_rule (t ∷ w) s r (suc n) (f, g))))
    ]

product_down : (n : ℕ) (w : List Token) (s r : State) → ReadsIn n (Read Multiplication ∷ []) w s r → Product w s r
product_down zero [] s r h = absurd h
product_down zero (t ∷ w) s r h = absurd h
product_down (suc n) w s r (p, l, e, h) =
    elim (of_at Multiplication 17 20 23 p product_tested l e) [
      | inl k ↦ inl (n, subst (λ σ. ReadsIn n σ w s r) body17 (subst (λ p. ReadsIn n (body p ++ []) w s r) k h))
      | inr k ↦ elim k [
        | inl k ↦ number_down n w s r (subst (λ σ. ReadsIn n σ w s r) body20 (subst (λ p. ReadsIn n (body p ++ []) w s r) k h))
        | inr k ↦ inr (inr (inr (n, subst (λ σ. ReadsIn n σ w s r) body23 (subst (λ p. ReadsIn n (body p ++ []) w s r) k h))))
      ]
    ]

-- after the number
number_up : (β : List Item) (n : ℕ) (w : List Token) (s r : State) → ((m : ℕ) (w : List Token) (s : State) → ReadsIn m β w s r → Reads (Read NumeralTail ∷ []) w s r) →
    ReadsIn n (Take Numeral ∷ β) w s r → Reads (Read Multiplication ∷ []) w s r
number_up β zero [] s r f h = absurd h
number_up β zero (t ∷ w) s r f h = absurd h
number_up β (suc n) [] s r f h = absurd h
number_up β (suc n) (t ∷ w) s r f h =
    let g = f n w (shift Numeral t s) h.1 in
    by_rule Multiplication 20 (suc g.0) (Take Numeral ∷ Read NumeralTail ∷ []) (t ∷ w) s r (omega arith) head_of.1 body20 (h.0, g.1)

atoms_up : (n : ℕ) (w : List Token) (s r : State) → ReadsIn n ATOMS w s r → Reads (Read Multiplication ∷ []) w s r
atoms_up zero [] s r h = absurd h
atoms_up zero (t ∷ w) s r h = absurd h
atoms_up (suc n) w s r (p, l, e, h) =
    elim (of_at Atom 41 42 42 p atom_tested l e) [
      | inl k ↦ number_up (Make NumberTerm ∷ Read ApplicationTail ∷ []) n w s r (λ m w s g. by_rule NumeralTail 22 m (Make NumberTerm ∷ Read ApplicationTail ∷ []) w s r (omega arith) head_of.3 body22 g)
          (subst (λ σ. ReadsIn n σ w s r) body41 (subst (λ p. ReadsIn n (body p ++ (Read ApplicationTail ∷ [])) w s r) k h))
      | inr k ↦ let q : p ≡ 42 = elim k [ inl k ↦ k | inr k ↦ k ] in
          let g = by_rule Application 38 n (body 38 ++ []) w s r (omega arith) head_of.5 refl (subst (λ σ. ReadsIn n σ w s r) body42 (subst (λ p. ReadsIn n (body p ++ (Read ApplicationTail ∷ [])) w s r) q h)) in
          by_rule Multiplication 23 g.0 (Read Application ∷ []) w s r (omega arith) head_of.4 body23 g.1
    ]

product_up : (w : List Token) (s r : State) → Product w s r → Reads (Read Multiplication ∷ []) w s r
product_up w s r (inl h) = by_rule Multiplication 17 h.0 NEGATIVE w s r (omega arith) head_of.0 body17 h.1
product_up w s r (inr (inl h)) = number_up (Take (Symbol Star) ∷ Read Multiplication ∷ Make TimesTerm ∷ []) h.0 w s r (λ m w s g. by_rule NumeralTail 21 m (Take (Symbol Star) ∷ Read Multiplication ∷ Make TimesTerm ∷ []) w s r (omega arith) head_of.2 body21 g) h.1
product_up w s r (inr (inr (inl h))) = atoms_up h.0 w s r h.1
product_up w s r (inr (inr (inr h))) = by_rule Multiplication 23 h.0 (Read Application ∷ []) w s r (omega arith) head_of.4 body23 h.1

down_each : (w : List Token) (s r : State) → Product w s r → IsProduct w s r
down_each w s r (inl h) = inl ((one NEGATIVE w s r).0 h)
down_each w s r (inr (inl h)) = inr (inl ((one SCALED w s r).0 h))
down_each w s r (inr (inr (inl h))) = inr (inr (inl ((one ATOMS w s r).0 h)))
down_each w s r (inr (inr (inr h))) = inr (inr (inr ((one (Read Application ∷ []) w s r).0 h)))

up_each : (w : List Token) (s r : State) → IsProduct w s r → Product w s r
up_each w s r (inl h) = inl ((one NEGATIVE w s r).1 h)
up_each w s r (inr (inl h)) = inr (inl ((one SCALED w s r).1 h))
up_each w s r (inr (inr (inl h))) = inr (inr (inl ((one ATOMS w s r).1 h)))
up_each w s r (inr (inr (inr h))) = inr (inr (inr ((one (Read Application ∷ []) w s r).1 h)))

pub as_written : (w : List Token) (s r : State) → Derives (Read Multiplication ∷ []) w s r ↔ IsProduct w s r
as_written w s r = (
  λ h. let g = (one (Read Multiplication ∷ []) w s r).1 h in down_each w s r (product_down g.0 w s r g.1),
  λ h. (one (Read Multiplication ∷ []) w s r).0 (product_up w s r (up_each w s r h)),
)
