-- One rule fits: what the tables' tests mean.
use Rattle.std.proofs.Common.{◌≡◌, ℕ, zero, suc, ◌<◌, List, [], ◌∷◌, ◌++◌, Bool, true, false, cond, refl, arith, sym, ◌∙◌, subst, inl, inr}
use Rattle.std.proofs.lemmas.Bool.{and_parts, cases_eq, eqb-true, lt-ltb}
use Rattle.fz_lexer.specs.declared.token.Token.{Token}
use Rattle.fz_parser.specs.declared.grammar.Item.{Item}
use Rattle.fz_parser.specs.declared.grammar.Item.TheVariants.{Take, Read, Make}
use Rattle.fz_parser.specs.declared.grammar.Phrase.{Phrase}
use Rattle.fz_parser.specs.Table.{rule_count}
use Rattle.fz_parser.specs.Parts.{State, shift, build}
use Rattle.fz_parser.specs.Grammar.{head, body}
use Rattle.fz_parser.specs.Reads.{ReadsIn}
use Rattle.fz_parser.specs.Tests.{follows, choice, starts, coming, passes, is_chosen, is_followed, below}
use Rattle.fz_parser.specs.Steps.{Follows, Good, front}
use Rattle.fz_parser.proofs.Checks.{chosen, followed}
use Rattle.fz_parser.proofs.Numbers.{class_positive, class_bound, may_from}

cond_true : (a b : Bool) → cond a b false ≡ true → (a ≡ true) × (b ≡ true)
cond_true true b h = (refl, h)
cond_true false b h = absurd (cc h)

pub then_true : (x y : Bool) → cond x y true ≡ true → x ≡ true → y ≡ true
then_true true y h e = h
then_true false y h e = absurd (cc e)

pub below_each : (n : ℕ) (f : ℕ → Bool) → below n f ≡ true → (k : ℕ) → k < n → f k ≡ true
unfolding below
below_each zero f h k l = absurd (omega arith)
below_each (suc n) f h k l =
    let both : (f n ≡ true) × (below n f ≡ true) = cond_true (f n) (below n f) h in
    elim (cases_eq k n) [ inl e ↦ subst (λ x. f x ≡ true) (sym e) both.0 | inr e ↦ below_each n f both.1 k (omega arith) ]

pub chosen_at : (p c : ℕ) → p < rule_count → c < 64 → coming (head p) (body p) c ≡ true → choice (head p) c ≡ suc p
unfolding is_chosen
chosen_at p c l b h =
    let e : is_chosen p c ≡ true = below_each 64 (λ c. is_chosen p c) (below_each rule_count (λ p. below 64 (λ c. is_chosen p c)) chosen p l) c b in
    eqb-true _ _ (then_true (coming (head p) (body p) c) _ e h)

pub followed_at : (p : ℕ) → p < rule_count → (c : ℕ) → c < 64 → passes (head p) (body p) c ≡ true
unfolding is_followed
followed_at p l c b = below_each 64 (λ c. is_followed p c) (below_each rule_count (λ p. below 64 (λ c. is_followed p c)) followed p l) c b

coming_from : (a : Phrase) (β σ : List Item) (c : ℕ) → c < 64 → Follows a σ → starts (β ++ σ) c ≡ true → coming a β c ≡ true
coming_from a [] σ c b f h = f c b h
coming_from a (Take k ∷ β) σ c b f h = h
coming_from a (Make x ∷ β) σ c b f h = coming_from a β σ c b f h
coming_from a (Read x ∷ β) σ c b f h = h

good_body : (a : Phrase) (β σ : List Item) → ((c : ℕ) → c < 64 → passes a β c ≡ true) → Follows a σ → Good σ → Good (β ++ σ)
good_body a [] σ p f g = g
good_body a (Take k ∷ β) σ p f g = good_body a β σ p f g
good_body a (Make x ∷ β) σ p f g = good_body a β σ p f g
good_body a (Read x ∷ β) σ p f g = (
  λ c b h. then_true (coming a β c) (follows x c) (and_parts (cond (coming a β c) (follows x c) true) (passes a β c) (p c b)).0 (coming_from a β σ c b f h),
  good_body a β σ (λ c b. (and_parts (cond (coming a β c) (follows x c) true) (passes a β c) (p c b)).1) f g,
)

pub pick : (p : ℕ) (a : Phrase) (σ : List Item) (c : ℕ) → p < rule_count → head p ≡ a → c < 64 → Follows a σ → starts (body p ++ σ) c ≡ true → choice a c ≡ suc p
pick p a σ c l e b f h =
    subst (λ x. choice x c ≡ suc p) e (chosen_at p c l b (coming_from (head p) (body p) σ c b (subst (λ x. Follows x σ) (sym e) f) h))

pub good_rule : (p : ℕ) (a : Phrase) (σ : List Item) → p < rule_count → head p ≡ a → Follows a σ → Good σ → Good (body p ++ σ)
good_rule p a σ l e f g = good_body (head p) (body p) σ (followed_at p l) (subst (λ x. Follows x σ) (sym e) f) g

pub front_bound : (w : List Token) → front w < 64
front_bound [] = omega arith
front_bound (t ∷ w) = class_bound t

pub front_end : (w : List Token) → front w ≡ 0 → w ≡ []
front_end [] h = refl
front_end (t ∷ w) h = absurd (omega (arith, class_positive t))

pub begins : (n : ℕ) (σ : List Item) (w : List Token) (s r : State) → ReadsIn n σ w s r → Good σ → starts σ (front w) ≡ true
begins zero [] [] s r h g = refl
begins zero [] (t ∷ w) s r h g = absurd h
begins zero (i ∷ σ) w s r h g = absurd h
begins (suc n) [] w s r h g = absurd h
begins (suc n) (Take k ∷ σ) [] s r h g = absurd h
begins (suc n) (Take k ∷ σ) (t ∷ w) s r h g = may_from k t.kind h.0
begins (suc n) (Make a ∷ σ) w s r h g = begins n σ w (build a s) r h g
begins (suc n) (Read a ∷ σ) w s r h g =
    let q = pick h.0 a σ (front w) h.1 h.2 (front_bound w) g.0 (begins n (body h.0 ++ σ) w s r h.3 (good_rule h.0 a σ h.1 h.2 g.0 g.1)) in
    rw q (lt-ltb 0 (suc h.0) (omega arith))

-- the rule that is used is the one that is chosen
pub picked : (n : ℕ) (a : Phrase) (σ : List Item) (w : List Token) (s r : State) → (h : ReadsIn (suc n) (Read a ∷ σ) w s r) → Good (Read a ∷ σ) → choice a (front w) ≡ suc h.0
picked n a σ w s r h g = pick h.0 a σ (front w) h.1 h.2 (front_bound w) g.0 (begins n (body h.0 ++ σ) w s r h.3 (good_rule h.0 a σ h.1 h.2 g.0 g.1))

pub unique : (n m : ℕ) (σ : List Item) (w : List Token) (s r q : State) → ReadsIn n σ w s r → ReadsIn m σ w s q → Good σ → r ≡ q
unique zero zero [] [] s r q h k g = sym h ∙ k
unique zero (suc m) [] [] s r q h k g = absurd k
unique zero m [] (t ∷ w) s r q h k g = absurd h
unique zero m (i ∷ σ) w s r q h k g = absurd h
unique (suc n) m [] w s r q h k g = absurd h
unique (suc n) m (Take x ∷ σ) [] s r q h k g = absurd h
unique (suc n) zero (Take x ∷ σ) (t ∷ w) s r q h k g = absurd k
unique (suc n) (suc m) (Take x ∷ σ) (t ∷ w) s r q h k g = unique n m σ w (shift x t s) r q h.1 k.1 g
unique (suc n) zero (Make a ∷ σ) w s r q h k g = absurd k
unique (suc n) (suc m) (Make a ∷ σ) w s r q h k g = unique n m σ w (build a s) r q h k g
unique (suc n) zero (Read a ∷ σ) w s r q h k g = absurd k
unique (suc n) (suc m) (Read a ∷ σ) w s r q h k g =
    let same : h.0 ≡ k.0 = cc (picked n a σ w s r h g, picked m a σ w s q k g) in
    unique n m (body h.0 ++ σ) w s r q h.3 (subst (λ p. ReadsIn m (body p ++ σ) w s q) (sym same) k.3) (good_rule h.0 a σ h.1 h.2 g.0 g.1)
