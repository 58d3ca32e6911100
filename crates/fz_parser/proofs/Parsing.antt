-- A parser that computes, in the definitions: what it answers holds, so that any tokens are a term, a type or a sensitivity, or are stuck somewhere, and examples can be computed.
use Rattle.std.proofs.Common.{◌≡◌, ℕ, zero, suc, ◌+◌, ◌-◌, ◌<◌, ◌≤◌, List, [], ◌∷◌, ◌++◌, Bool, true, false, cond, get_or, refl, arith, sym, ap, ◌∙◌, subst, inl, inr, take, drop, length, length-drop, drop-cons}
use Rattle.std.proofs.lemmas.Bool.{cases_Bool, cases_lt}
use Rattle.std.proofs.lemmas.List.{get_or-drop}
use Rattle.fz_ast.specs.Depth.{depth}
use Rattle.fz_lexer.specs.declared.token.Token.{Token}
use Rattle.fz_parser.specs.declared.grammar.Item.{Item}
use Rattle.fz_parser.specs.declared.grammar.Item.TheVariants.{Take, Read, Make}
use Rattle.fz_parser.specs.declared.grammar.Phrase.{Phrase}
use Rattle.fz_parser.specs.declared.grammar.Phrase.TheVariants.{Expression, Sensitivity, AnyType}
use Rattle.fz_parser.specs.declared.grammar.Top.{Top}
use Rattle.fz_parser.specs.declared.grammar.Top.TheVariants.{Empty, Wants, DeadEnd}
use Rattle.fz_parser.specs.declared.fault.ParseFault.{ParseFault}
use Rattle.fz_parser.specs.declared.fault.ParseFault.TheVariants.{Stuck, TooNested, NoMemory}
use Rattle.fz_parser.specs.Table.{rule_count}
use Rattle.fz_parser.specs.Parts.{What, State, sort_of, shift, build}
use Rattle.fz_parser.specs.Grammar.{head, body, empty, alone, IsPhrase}
use Rattle.fz_parser.specs.Reading.{deepest, IsStuckAs, IsParsedOrFaulty, IsTypeOrStuck, IsSensitivityOrStuck}
use Rattle.fz_parser.specs.Classes.{class, terminal_number, may_stand}
use Rattle.fz_parser.specs.Tests.{choice, lead, phrase_gives}
use Rattle.fz_parser.specs.Steps.{front, IsGoal, Sound, At, ComesTo, AreInOrder, START}
use Rattle.fz_parser.proofs.Numbers.{class_bound, may_means}
use Rattle.fz_parser.proofs.Words.{lead_rule}
use Rattle.fz_parser.proofs.Machine.{at_start, at_act, at_rule, refused_name, done, sound_start, sound_act, sound_rule, term_goal, type_goal, sensitivity_goal}
use Rattle.fz_parser.proofs.Phrases.{term_of, type_of, sensitivity_of, term_stuck, type_stuck, sensitivity_stuck}
use Rattle.fz_parser.proofs.Stacks.{rule_found, at_end, end_refused, end_wanted, class_end, empty_before, dead_end_before, wanted_before, wanted_on, wanted_sound}

-- what is wanted next, what is still to come then, and the parts
pub record Settled : Type 0 where
  pub top : Top
  pub items : List Item
  pub state : State

abbrev pub by_choice : ℕ → (ℕ → Settled) → List Item → State → Settled
by_choice zero go σ s = record { top = DeadEnd; items = σ; state = s }
by_choice (suc p) go σ s = go p

-- on until a token is wanted, before a token of class c
unfoldable pub settled : ℕ → ℕ → List Item → State → Settled
settled zero c σ s = record { top = DeadEnd; items = σ; state = s }
settled (suc n) c [] s = record { top = Empty; items = []; state = s }
settled (suc n) c (Take k ∷ σ) s = record { top = Wants k; items = σ; state = s }
settled (suc n) c (Make a ∷ σ) s = settled n c σ (build a s)
settled (suc n) c (Read a ∷ σ) s = by_choice (choice a c) (λ p. settled n c (body p ++ σ) s) σ s

abbrev Holds : Phrase → ℕ → List Item → State → Settled → Type 0
Holds goal c σ s r = AreInOrder goal r.top r.items r.state × ((read rest : List Token) → front rest ≡ c → At goal read rest σ s → ComesTo goal r.top read rest r.items r.state)

module _ {goal : Phrase} (n c : ℕ) (b : c < 64) (ih : (σ : List Item) (s : State) → lead σ < n → Sound goal σ s → Holds goal c σ s (settled n c σ s)) where
  rule_holds : (a : Phrase) (σ : List Item) (s : State) (x : ℕ) → choice a c ≡ x → lead (Read a ∷ σ) < suc n → Sound goal (Read a ∷ σ) s → Holds goal c (Read a ∷ σ) s (by_choice x (λ p. settled n c (body p ++ σ) s) σ s)
  rule_holds a σ s zero e l h = (tt, λ read rest f y. refused_name read rest a σ s h.good (ap (choice a) f ∙ e) y)
  rule_holds a σ s (suc p) e l h =
      let z : suc p - 1 ≡ p = omega arith in
      let r = rule_found a c (suc p) b (sym e) (omega arith) in
      let m : p < rule_count = subst (λ q. q < rule_count) z r.0 in
      let g : head p ≡ a = subst (λ q. head q ≡ a) z r.1 in
      let k = ih (body p ++ σ) s (omega (arith, l, lead_rule p a σ m g)) (sound_rule p a σ s m g h) in
      (k.0, λ read rest f y. k.1 read rest f (at_rule read rest a p σ s h.good m g (ap (choice a) f ∙ e) y))

settled_holds : {goal : Phrase} (n c : ℕ) (σ : List Item) (s : State) → c < 64 → lead σ < n → Sound goal σ s → Holds goal c σ s (settled n c σ s)
unfolding settled
settled_holds zero c σ s b l h = absurd (omega arith)
settled_holds (suc n) c [] s b l h = (h, λ read rest f y. y)
settled_holds (suc n) c (Take k ∷ σ) s b l h = (h, λ read rest f y. y)
settled_holds (suc n) c (Make a ∷ σ) s b l h =
    let k = settled_holds n c σ (build a s) b (omega (arith, l)) (sound_act a σ s h) in
    (k.0, λ read rest f y. k.1 read rest f (at_act read rest a σ s y))
settled_holds (suc n) c (Read a ∷ σ) s b l h = rule_holds n c b (λ σ s m g. settled_holds n c σ s b m g) a σ s (choice a c) refl l h

-- the answer: the parts at the end, or the place of the token that doesn't fit
pub data Answer : Type 0 where
  Whole : (s : State) → Answer
  StuckAt : (k : ℕ) → Answer

abbrev pub at_last : Top → State → ℕ → Answer
at_last Empty s i = Whole s
at_last (Wants k) s i = StuckAt i
at_last DeadEnd s i = StuckAt i

abbrev pub at_token : Top → State → ℕ → Token → (State → Answer) → Answer
at_token Empty s i t go = StuckAt i
at_token (Wants k) s i t go = cond (may_stand (terminal_number k) (class t)) (go (shift k t s)) (StuckAt i)
at_token DeadEnd s i t go = StuckAt i

-- (functions of what is settled, so that it is computed once)
unfoldable pub ends : Settled → ℕ → Answer
ends r i = at_last r.top r.state i

unfoldable pub goes_on : Settled → ℕ → Token → (List Item → State → Answer) → Answer
goes_on r i t go = at_token r.top r.state i t (go r.items)

unfoldable pub parse_from : List Token → ℕ → List Item → State → Answer
parse_from [] i σ s = ends (settled (suc (lead σ)) 0 σ s) i
parse_from (t ∷ w) i σ s = goes_on (settled (suc (lead σ)) (class t) σ s) i t (parse_from w (i + 1))

-- what is read by itself
abbrev pub parse_as : Phrase → List Token → Answer
parse_as goal ts = parse_from ts 0 (START goal) empty

unfoldable pub parse : List Token → Answer
parse ts = parse_as Expression ts

abbrev pub AnswerHolds : Phrase → List Token → Answer → Type 0
AnswerHolds goal ts (Whole s) = (from : ℕ) × (x : What) × (s ≡ alone s.last from x) × IsPhrase goal ts x × (sort_of x ≡ phrase_gives goal)
AnswerHolds goal ts (StuckAt k) = IsStuckAs What (IsPhrase goal) ts k

module _ {goal : Phrase} (g : IsGoal goal) (ts : List Token) (i : ℕ) (σ : List Item) (s : State) where
  last_holds : (top : Top) → i ≡ length ts → ComesTo goal top (take i ts) (drop i ts) σ s → AnswerHolds goal ts (at_last top s i)
  last_holds Empty e o = done g ts s (at_end ts i [] s (omega arith) o)
  last_holds (Wants k) e o = end_wanted g ts i k σ s e o
  last_holds DeadEnd e o = end_refused g ts i e o

  token_holds : (top : Top) (t : Token) (go : State → Answer) → i < length ts → t ≡ get_or ts i t → AreInOrder goal top σ s → ComesTo goal top (take i ts) (drop i ts) σ s →
      ((u : State) → Sound goal σ u → At goal (take (i + 1) ts) (drop (i + 1) ts) σ u → AnswerHolds goal ts (go u)) → AnswerHolds goal ts (at_token top s i t go)
  token_holds Empty t go l w d o ih = empty_before g ts i t Empty σ s l w refl o
  token_holds DeadEnd t go l w d o ih = dead_end_before g ts i t DeadEnd σ s l w refl o
  token_holds (Wants k) t go l w d o ih = elim (cases_Bool (may_stand (terminal_number k) (class t))) [
    | inl m ↦ rw m (ih (shift k t s) (wanted_sound t k (Wants k) σ s (shift k t s) refl refl d) (wanted_on ts i t k (Wants k) σ s (shift k t s) l w (may_means k t.kind m) refl refl o))
    | inr m ↦ rw m (wanted_before g ts i t k (class t) (may_stand (terminal_number k) (class t)) (Wants k) σ s l w refl refl m refl o)
  ]

parse_is : {goal : Phrase} → IsGoal goal → (rest ts : List Token) (i : ℕ) (σ : List Item) (s : State) → rest ≡ drop i ts → i ≤ length ts → Sound goal σ s → At goal (take i ts) (drop i ts) σ s → AnswerHolds goal ts (parse_from rest i σ s)
unfolding parse_from ends goes_on
parse_is g [] ts i σ s e l h a =
    let m : i ≡ length ts = omega (arith, ap length e, length-drop i ts) in
    let r = settled_holds (suc (lead σ)) 0 σ s (omega arith) (omega arith) h in
    let q = settled (suc (lead σ)) 0 σ s in
    last_holds g ts i q.items q.state q.top m (r.1 (take i ts) (drop i ts) (class_end ts i (omega (arith, m))) a)
parse_is g (t ∷ w) ts i σ s e l h a =
    let m : i < length ts = omega (arith, ap length e, length-drop i ts) in
    let z : i + 0 ≡ i = omega arith in
    let here : t ≡ get_or ts i t = ap (λ x. get_or x 0 t) e ∙ get_or-drop i ts 0 t ∙ ap (λ j. get_or ts j t) z in
    let n : i + 1 ≡ suc i = omega arith in
    let next : w ≡ drop (i + 1) ts = ap (drop 1) (e ∙ drop-cons ts i t m) ∙ ap (λ j. drop j ts) (sym n) in
    let r = settled_holds (suc (lead σ)) (class t) σ s (class_bound t) (omega arith) h in
    let q = settled (suc (lead σ)) (class t) σ s in
    token_holds g ts i q.items q.state q.top t (parse_from w (i + 1) q.items) m here r.0 (r.1 (take i ts) (drop i ts) (ap front (sym e)) a)
    (λ u x y. parse_is g w ts (i + 1) q.items u next (omega (arith, m)) x y)

pub parse_holds : (goal : Phrase) → IsGoal goal → (ts : List Token) → AnswerHolds goal ts (parse_as goal ts)
parse_holds goal g ts = parse_is g ts ts 0 (START goal) empty refl (omega arith) (sound_start g) (at_start ts)

is_memory : ParseFault → Bool
is_memory (Stuck k) = false
is_memory (TooNested d) = false
is_memory NoMemory = true

nested_apart : (d : ℕ) → TooNested d ≡ NoMemory → ⊥
unfolding is_memory
nested_apart d x = let e : false ≡ true = ap is_memory x in absurd (cc e)

stuck_apart : (k : ℕ) → Stuck k ≡ NoMemory → ⊥
unfolding is_memory
stuck_apart k x = let e : false ≡ true = ap is_memory x in absurd (cc e)

either : (ts : List Token) (a : Answer) → AnswerHolds Expression ts a → IsParsedOrFaulty ts
either ts (Whole s) h =
    let e = term_of ts h.1 h.3 in
    elim (cases_lt deepest (depth e.0)) [
      | inl l ↦ inr (TooNested (depth e.0), nested_apart (depth e.0), (l, e.0, e.1, refl))
      | inr l ↦ inl (e.0, record { term = e.1; nesting = l })
    ]
either ts (StuckAt k) h = inr (Stuck k, stuck_apart k, term_stuck ts k h)

pub parsed_or_faulty : (ts : List Token) → IsParsedOrFaulty ts
unfolding parse
parsed_or_faulty ts = either ts (parse ts) (parse_holds Expression term_goal ts)

either_type : (ts : List Token) (a : Answer) → AnswerHolds AnyType ts a → IsTypeOrStuck ts
either_type ts (Whole s) h = inl (type_of ts h.1 h.3)
either_type ts (StuckAt k) h = inr (k, type_stuck ts k h)

pub type_or_stuck : (ts : List Token) → IsTypeOrStuck ts
type_or_stuck ts = either_type ts (parse_as AnyType ts) (parse_holds AnyType type_goal ts)

either_sensitivity : (ts : List Token) (a : Answer) → AnswerHolds Sensitivity ts a → IsSensitivityOrStuck ts
either_sensitivity ts (Whole s) h = inl (sensitivity_of ts h.1 h.3)
either_sensitivity ts (StuckAt k) h = inr (k, sensitivity_stuck ts k h)

pub sensitivity_or_stuck : (ts : List Token) → IsSensitivityOrStuck ts
sensitivity_or_stuck ts = either_sensitivity ts (parse_as Sensitivity ts) (parse_holds Sensitivity sensitivity_goal ts)
