-- What the code's steps do to the stacks.
use Rattle.std.proofs.Common.{◌≡◌, ℕ, suc, ◌+◌, ◌-◌, ◌<◌, ◌≤◌, List, [], ◌∷◌, ◌++◌, Bool, true, false, cond, get_or, refl, arith, sym, ap, ◌∙◌, subst, take, drop, length, reverse, drop-cons}
use Rattle.std.proofs.Math.Seq.{take-suc}
use Rattle.std.specs.Prelude.{◌&&◌, nat_eq, nat_lt}
use Rattle.std.proofs.lemmas.List.{reverse-append, take-append-drop, take_all, drop_all}
use Rattle.std.proofs.lemmas.Bool.{and_parts, ltb-true, eqb-true, lt-ltb}
use Rattle.fz_lexer.specs.declared.token.Token.{Token}
use Rattle.fz_parser.specs.declared.grammar.Item.{Item}
use Rattle.fz_parser.specs.declared.grammar.Item.TheVariants.{Take, Read, Make}
use Rattle.fz_parser.specs.declared.grammar.Terminal.{Terminal}
use Rattle.fz_parser.specs.declared.grammar.Phrase.{Phrase}
use Rattle.fz_parser.specs.declared.grammar.Action.{Action}
use Rattle.fz_parser.specs.declared.grammar.Top.{Top}
use Rattle.fz_parser.specs.declared.grammar.Top.TheVariants.{Empty, Wants, DeadEnd}
use Rattle.fz_parser.specs.declared.reader.Reader.{Reader}
use Rattle.fz_parser.specs.declared.tables.TheConstants.{CHOICES}
use Rattle.fz_parser.specs.Table.{rule_count}
use Rattle.fz_parser.specs.Parts.{What, State, takes, shift, build}
use Rattle.fz_parser.specs.Grammar.{Fits, head, body, empty, IsPhrase}
use Rattle.fz_parser.specs.Reading.{Begins, IsStuckAs}
use Rattle.fz_parser.specs.Classes.{class, phrase_number, terminal_number, may_stand}
use Rattle.fz_parser.specs.Tests.{phrase_at, choice, lead, is_rule, below, begins_with}
use Rattle.fz_parser.specs.Steps.{front, sorts, IsGoal, Sound, At, IsDeadEnd, ComesTo, AreInOrder, START}
use Rattle.fz_parser.specs.Kept.{state_of, IsInOrder, IsReadAs}
use Rattle.fz_parser.proofs.Checks.{ruled, tabled}
use Rattle.fz_parser.proofs.Numbers.{class_bound, may_means, phrase_below, phrase_same, phrase_is}
use Rattle.fz_parser.proofs.Theory.{below_each, then_true}
use Rattle.fz_parser.proofs.Words.{lead_rule}
use Rattle.fz_parser.proofs.Machine.{at_start, at_act, at_rule, refused_name, at_token, stuck_here, stuck_end, refused_token, refused_more, refused_end, done, sound_start, sound_act, sound_rule, sound_token}

-- the item on top of the stack
pub top_of : (old new : List Item) (i j : Item) → old ≡ new ++ i ∷ [] → i ≡ j → reverse old ≡ j ∷ reverse new
top_of old new i j h e = rw h (reverse-append new (i ∷ []) ∙ ap (λ x. x ∷ reverse new) e)

pub act_lead : (old new : List Item) (i : Item) (a : Action) → old ≡ new ++ i ∷ [] → i ≡ Make a → lead (reverse new) < lead (reverse old)
act_lead old new i a h e = rw (top_of old new i (Make a) h e) (omega arith)

-- a phrase
pub rule_found : (a : Phrase) (c x : ℕ) → c < 64 → x ≡ choice a c → 0 < x → (x - 1 < rule_count) × (head (x - 1) ≡ a) × (choice a c ≡ suc (x - 1))
unfolding is_rule
rule_found a c x b e p =
    let t : is_rule (phrase_number a) c ≡ true = below_each 64 (λ c. is_rule (phrase_number a) c) (below_each 25 (λ a. below 64 (λ c. is_rule a c)) ruled (phrase_number a) (phrase_below a)) c b in
    let t' : cond (nat_lt 0 (choice (phrase_at (phrase_number a)) c)) (nat_eq (phrase_number (head (choice (phrase_at (phrase_number a)) c - 1))) (phrase_number a) && nat_lt (choice (phrase_at (phrase_number a)) c - 1) rule_count) true ≡ true = t in
    let u : cond (nat_lt 0 (choice a c)) (nat_eq (phrase_number (head (choice a c - 1))) (phrase_number a) && nat_lt (choice a c - 1) rule_count) true ≡ true =
    subst (λ x. cond (nat_lt 0 (choice x c)) (nat_eq (phrase_number (head (choice x c - 1))) (phrase_number a) && nat_lt (choice x c - 1) rule_count) true ≡ true) (phrase_is a) t' in
    let y = then_true (nat_lt 0 (choice a c)) _ u (lt-ltb 0 (choice a c) (omega arith)) in
    let z = and_parts (nat_eq (phrase_number (head (choice a c - 1))) (phrase_number a)) (nat_lt (choice a c - 1) rule_count) y in
    rw e (ltb-true _ _ z.1, phrase_same (head (choice a c - 1)) a (eqb-true _ _ z.0), omega arith)

-- the code's table has the choices
pub tabled_is : (a : Phrase) (c : ℕ) → c < 64 → get_or (get_or CHOICES (phrase_number a) []) c 0 ≡ choice a c
tabled_is a c b =
    let e = below_each 64 (λ c. nat_eq (get_or (get_or CHOICES (phrase_number a) []) c 0) (choice (phrase_at (phrase_number a)) c))
    (below_each 25 (λ a. below 64 (λ c. nat_eq (get_or (get_or CHOICES a []) c 0) (choice (phrase_at a) c))) tabled (phrase_number a) (phrase_below a)) c b in
    eqb-true _ _ e ∙ ap (λ x. choice x c) (phrase_is a)

pub non_lead : (old new newer : List Item) (i : Item) (a : Phrase) (p : ℕ) →
    old ≡ new ++ i ∷ [] → i ≡ Read a → reverse newer ≡ body p ++ reverse new → p < rule_count → head p ≡ a → lead (reverse newer) < lead (reverse old)
non_lead old new newer i a p h e n l d = rw (n, top_of old new i (Read a) h e) (lead_rule p a (reverse new) l d)

nil_of : (xs : List Item) → length xs ≡ 0 → xs ≡ []
nil_of [] h = refl
nil_of (x ∷ xs) h = absurd (omega arith)

pub rest_at : (ts : List Token) (i : ℕ) (t : Token) → i < length ts → t ≡ get_or ts i t → drop i ts ≡ t ∷ drop (i + 1) ts
rest_at ts i t l e = let s : i + 1 ≡ suc i = omega arith in rw s (drop-cons ts i t l ∙ ap (λ x. x ∷ drop (suc i) ts) (sym e))

pub read_more : (ts : List Token) (i : ℕ) (t : Token) → i < length ts → t ≡ get_or ts i t → take (i + 1) ts ≡ take i ts ++ t ∷ []
read_more ts i t l e = let s : i + 1 ≡ suc i = omega arith in rw s (take-suc ts i t l ∙ ap (λ x. take i ts ++ x ∷ []) (sym e))

pub front_at : (ts : List Token) (i : ℕ) (t : Token) → i < length ts → t ≡ get_or ts i t → front (drop i ts) ≡ class t
front_at ts i t l e = ap front (rest_at ts i t l e)

-- the outcomes before a token
pub class_at : (ts : List Token) (i x : ℕ) (t : Token) → i < length ts → t ≡ get_or ts i t → x ≡ class t → front (drop i ts) ≡ x
class_at ts i x t l o e = front_at ts i t l o ∙ sym e

pub class_end : (ts : List Token) (n : ℕ) → length ts ≤ n → front (drop n ts) ≡ 0
class_end ts n l = rw (drop_all n ts l) refl

pub class_below : (t : Token) (x : ℕ) → x ≡ class t → x < 64
class_below t x e = omega (arith, class_bound t)

pub wanted_fits : (t : Token) (k : Terminal) (x : ℕ) (b : Bool) → x ≡ class t → b ≡ may_stand (terminal_number k) x → b ≡ true → Fits k t.kind
wanted_fits t k x b d f n = may_means k t.kind (cc (f, n, d))

module _ {goal : Phrase} where
  pub sound_top : (old new : List Item) (i j : Item) (s : State) → old ≡ new ++ i ∷ [] → i ≡ j → Sound goal (reverse old) s → Sound goal (j ∷ reverse new) s
  sound_top old new i j s h e x = subst (λ σ. Sound goal σ s) (top_of old new i j h e) x

  -- a token is wanted
  pub tok_top : (read rest : List Token) (old new : List Item) (i : Item) (k : Terminal) (s : State) → old ≡ new ++ i ∷ [] → i ≡ Take k → At goal read rest (reverse old) s → At goal read rest (Take k ∷ reverse new) s
  tok_top read rest old new i k s h e a = subst (λ σ. At goal read rest σ s) (top_of old new i (Take k) h e) a

  -- an action
  pub ready_of : (a : Action) (σ : List Item) (s : State) → Sound goal (Make a ∷ σ) s → begins_with (takes a) (sorts s) ≡ true
  ready_of a σ s h = (and_parts (begins_with (takes a) (sorts s)) _ h.level.enough).0

  pub act_sound : (old new : List Item) (i : Item) (a : Action) (s t : State) → old ≡ new ++ i ∷ [] → i ≡ Make a → t ≡ build a s → Sound goal (reverse old) s → Sound goal (reverse new) t
  act_sound old new i a s t h e b x = subst (λ u. Sound goal (reverse new) u) (sym b) (sound_act a (reverse new) s (sound_top old new i (Make a) s h e x))

  pub act_top : (read rest : List Token) (old new : List Item) (i : Item) (a : Action) (s t : State) → old ≡ new ++ i ∷ [] → i ≡ Make a → t ≡ build a s → At goal read rest (reverse old) s → At goal read rest (reverse new) t
  act_top read rest old new i a s t h e b x =
      subst (λ u. At goal read rest (reverse new) u) (sym b) (at_act read rest a (reverse new) s (subst (λ σ. At goal read rest σ s) (top_of old new i (Make a) h e) x))

  pub non_sound : (old new newer : List Item) (i : Item) (a : Phrase) (p : ℕ) (s : State) → old ≡ new ++ i ∷ [] → i ≡ Read a → reverse newer ≡ body p ++ reverse new → p < rule_count → head p ≡ a → Sound goal (reverse old) s → Sound goal (reverse newer) s
  non_sound old new newer i a p s h e n l d x = subst (λ σ. Sound goal σ s) (sym n) (sound_rule p a (reverse new) s l d (sound_top old new i (Read a) s h e x))

  pub non_top : (read rest : List Token) (old new newer : List Item) (i : Item) (a : Phrase) (p : ℕ) (s : State) → Sound goal (reverse old) s →
      old ≡ new ++ i ∷ [] → i ≡ Read a → reverse newer ≡ body p ++ reverse new → p < rule_count → head p ≡ a → choice a (front rest) ≡ suc p →
      At goal read rest (reverse old) s → At goal read rest (reverse newer) s
  non_top read rest old new newer i a p s x h e n l d c t =
      subst (λ σ. At goal read rest σ s) (sym n) (at_rule read rest a p (reverse new) s (sound_top old new i (Read a) s h e x).good l d c (subst (λ σ. At goal read rest σ s) (top_of old new i (Read a) h e) t))

  pub non_refused : (read rest : List Token) (old new : List Item) (i : Item) (a : Phrase) (c x : ℕ) (s : State) → Sound goal (reverse old) s → old ≡ new ++ i ∷ [] → i ≡ Read a → front rest ≡ c → x ≡ choice a c → x ≡ 0 → At goal read rest (reverse old) s → IsDeadEnd goal read rest
  non_refused read rest old new i a c x s q h e f g z t =
      refused_name read rest a (reverse new) s (sound_top old new i (Read a) s h e q).good (ap (choice a) f ∙ sym g ∙ z) (subst (λ σ. At goal read rest σ s) (top_of old new i (Read a) h e) t)

  pub end_top : (read rest : List Token) (old : List Item) (s : State) → length old ≡ 0 → At goal read rest (reverse old) s → At goal read rest [] s
  end_top read rest old s l t = subst (λ σ. At goal read rest (reverse σ) s) (nil_of old l) t

  pub end_sound : (old : List Item) (s : State) → length old ≡ 0 → Sound goal (reverse old) s → Sound goal [] s
  end_sound old s l t = subst (λ σ. Sound goal (reverse σ) s) (nil_of old l) t

  -- the token is what is wanted
  goes_on : (ts : List Token) (i : ℕ) (t : Token) (k : Terminal) (σ : List Item) (s : State) → i < length ts → t ≡ get_or ts i t → Fits k t.kind →
      At goal (take i ts) (drop i ts) (Take k ∷ σ) s → At goal (take (i + 1) ts) (drop (i + 1) ts) σ (shift k t s)
  goes_on ts i t k σ s l e f a =
      let a' : At goal (take i ts) (t ∷ drop (i + 1) ts) (Take k ∷ σ) s = subst (λ w. At goal (take i ts) w (Take k ∷ σ) s) (rest_at ts i t l e) a in
      rw (read_more ts i t l e) (at_token (take i ts) t (drop (i + 1) ts) k σ s f a')

  -- at the end
  pub at_end : (ts : List Token) (n : ℕ) (σ : List Item) (s : State) → length ts ≤ n → At goal (take n ts) (drop n ts) σ s → At goal ts [] σ s
  at_end ts n σ s l a = rw (take_all n ts l, drop_all n ts l) at a

  pub wanted_on : (ts : List Token) (i : ℕ) (t : Token) (k : Terminal) (top : Top) (σ : List Item) (s u : State) → i < length ts → t ≡ get_or ts i t → Fits k t.kind → top ≡ Wants k → u ≡ shift k t s →
      ComesTo goal top (take i ts) (drop i ts) σ s → At goal (take (i + 1) ts) (drop (i + 1) ts) σ u
  wanted_on ts i t k top σ s u l w f e g o = subst (λ x. At goal (take (i + 1) ts) (drop (i + 1) ts) σ x) (sym g) (goes_on ts i t k σ s l w f (subst (λ x. ComesTo goal x (take i ts) (drop i ts) σ s) e o))

  pub wanted_sound : (t : Token) (k : Terminal) (top : Top) (σ : List Item) (s u : State) → top ≡ Wants k → u ≡ shift k t s → AreInOrder goal top σ s → Sound goal σ u
  wanted_sound t k top σ s u e g o = subst (λ x. Sound goal σ x) (sym g) (sound_token k σ s t (subst (λ x. AreInOrder goal x σ s) e o))

-- what is told, where the goal may be read by itself
module _ {goal : Phrase} (g : IsGoal goal) where
  -- the start
  pub starting : (ts : List Token) (xs : List Item) (s : State) → xs ≡ START goal → s ≡ empty → At goal (take 0 ts) (drop 0 ts) (reverse xs) s × Sound goal (reverse xs) s
  starting ts xs s h e =
      let a : At goal [] ts (START goal) empty = at_start ts in
      (subst (λ σ. At goal [] ts (reverse σ) s) (sym h) (subst (λ u. At goal [] ts (START goal) u) (sym e) a), subst (λ σ. Sound goal (reverse σ) s) (sym h) (subst (λ u. Sound goal (START goal) u) (sym e) (sound_start g)))

  -- a refusal is where the tokens are stuck
  stuck_before : (ts : List Token) (i : ℕ) (t : Token) → i < length ts → t ≡ get_or ts i t → IsDeadEnd goal (take i ts) (drop i ts) → IsStuckAs What (IsPhrase goal) ts i
  stuck_before ts i t l e r =
      let r' : IsDeadEnd goal (take i ts) (t ∷ drop (i + 1) ts) = subst (λ w. IsDeadEnd goal (take i ts) w) (rest_at ts i t l e) r in
      let s = stuck_here g (take i ts) t (drop (i + 1) ts) r' in
      let never : Begins What (IsPhrase goal) (take (i + 1) ts) → ⊥ = subst (λ w. Begins What (IsPhrase goal) w → ⊥) (sym (read_more ts i t l e)) s.1 in
      record { within = omega arith; before = s.0; not_with = λ _. never; none = λ x h. never (drop (i + 1) ts, x, subst (λ w. IsPhrase goal w x) (sym (take-append-drop (i + 1) ts)) h) }

  stuck_wanted : (ts : List Token) (i : ℕ) (t : Token) (k : Terminal) (σ : List Item) (s : State) → i < length ts → t ≡ get_or ts i t → may_stand (terminal_number k) (class t) ≡ false →
      At goal (take i ts) (drop i ts) (Take k ∷ σ) s → IsStuckAs What (IsPhrase goal) ts i
  stuck_wanted ts i t k σ s l e f a =
      let a' : At goal (take i ts) (t ∷ drop (i + 1) ts) (Take k ∷ σ) s = subst (λ w. At goal (take i ts) w (Take k ∷ σ) s) (rest_at ts i t l e) a in
      stuck_before ts i t l e (subst (λ w. IsDeadEnd goal (take i ts) w) (sym (rest_at ts i t l e)) (refused_token (take i ts) (drop (i + 1) ts) t k σ s f a'))

  stuck_more : (ts : List Token) (i : ℕ) (t : Token) (s : State) → i < length ts → t ≡ get_or ts i t → At goal (take i ts) (drop i ts) [] s → IsStuckAs What (IsPhrase goal) ts i
  stuck_more ts i t s l e a =
      let a' : At goal (take i ts) (t ∷ drop (i + 1) ts) [] s = subst (λ w. At goal (take i ts) w [] s) (rest_at ts i t l e) a in
      stuck_before ts i t l e (subst (λ w. IsDeadEnd goal (take i ts) w) (sym (rest_at ts i t l e)) (refused_more (take i ts) t (drop (i + 1) ts) s a'))

  stuck_after : (ts : List Token) → IsDeadEnd goal ts [] → IsStuckAs What (IsPhrase goal) ts (length ts)
  stuck_after ts r =
      let s = stuck_end g ts r in
      record { within = omega arith; before = rw (take_all (length ts) ts (omega arith)) s.0; not_with = λ h. absurd (omega arith); none = s.1 }

  pub end_refused : (ts : List Token) (n : ℕ) → n ≡ length ts → IsDeadEnd goal (take n ts) (drop n ts) → IsStuckAs What (IsPhrase goal) ts n
  end_refused ts n e r =
      let l : length ts ≤ n = omega arith in
      rw e (stuck_after ts (rw (take_all n ts l, drop_all n ts l) at r))

  pub end_wanted : (ts : List Token) (n : ℕ) (k : Terminal) (σ : List Item) (s : State) → n ≡ length ts → At goal (take n ts) (drop n ts) (Take k ∷ σ) s → IsStuckAs What (IsPhrase goal) ts n
  end_wanted ts n k σ s e a = rw e (stuck_after ts (refused_end ts k σ s (at_end ts n (Take k ∷ σ) s (omega arith) a)))

  pub empty_before : (ts : List Token) (i : ℕ) (t : Token) (top : Top) (σ : List Item) (s : State) → i < length ts → t ≡ get_or ts i t → top ≡ Empty → ComesTo goal top (take i ts) (drop i ts) σ s → IsStuckAs What (IsPhrase goal) ts i
  empty_before ts i t top σ s l w e o = stuck_more ts i t s l w (subst (λ x. ComesTo goal x (take i ts) (drop i ts) σ s) e o)

  pub dead_end_before : (ts : List Token) (i : ℕ) (t : Token) (top : Top) (σ : List Item) (s : State) → i < length ts → t ≡ get_or ts i t → top ≡ DeadEnd → ComesTo goal top (take i ts) (drop i ts) σ s → IsStuckAs What (IsPhrase goal) ts i
  dead_end_before ts i t top σ s l w e o = stuck_before ts i t l w (subst (λ x. ComesTo goal x (take i ts) (drop i ts) σ s) e o)

  pub wanted_before : (ts : List Token) (i : ℕ) (t : Token) (k : Terminal) (x : ℕ) (b : Bool) (top : Top) (σ : List Item) (s : State) → i < length ts → t ≡ get_or ts i t → x ≡ class t → b ≡ may_stand (terminal_number k) x → b ≡ false → top ≡ Wants k →
      ComesTo goal top (take i ts) (drop i ts) σ s → IsStuckAs What (IsPhrase goal) ts i
  wanted_before ts i t k x b top σ s l w d f n e o =
      let f' : may_stand (terminal_number k) (class t) ≡ false = cc (f, n, d) in
      stuck_wanted ts i t k σ s l w f' (subst (λ x. ComesTo goal x (take i ts) (drop i ts) σ s) e o)

  pub empty_end : (ts : List Token) (n : ℕ) (top : Top) (σ : List Item) (r : Reader) → n ≡ length ts → top ≡ Empty → IsInOrder r → ComesTo goal top (take n ts) (drop n ts) σ (state_of r) → IsReadAs goal ts r
  unfolding state_of
  empty_end ts n top σ r l e k o =
      let d = done g ts (state_of r) (at_end ts n [] (state_of r) (omega arith) (subst (λ x. ComesTo goal x (take n ts) (drop n ts) σ (state_of r)) e o)) in
      (d.0, d.1, d.2, k, d.3, d.4)

  pub dead_end_last : (ts : List Token) (n : ℕ) (top : Top) (σ : List Item) (s : State) → n ≡ length ts → top ≡ DeadEnd → ComesTo goal top (take n ts) (drop n ts) σ s → IsStuckAs What (IsPhrase goal) ts (length ts)
  dead_end_last ts n top σ s l e o = let r = end_refused ts n l (subst (λ x. ComesTo goal x (take n ts) (drop n ts) σ s) e o) in subst (λ n. IsStuckAs What (IsPhrase goal) ts n) l r

  pub wants_end : (ts : List Token) (n : ℕ) (k : Terminal) (top : Top) (σ : List Item) (s : State) → n ≡ length ts → top ≡ Wants k → ComesTo goal top (take n ts) (drop n ts) σ s → IsStuckAs What (IsPhrase goal) ts (length ts)
  wants_end ts n k top σ s l e o = let r = end_wanted ts n k σ s l (subst (λ x. ComesTo goal x (take n ts) (drop n ts) σ s) e o) in subst (λ n. IsStuckAs What (IsPhrase goal) ts n) l r
