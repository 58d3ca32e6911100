-- What holds at each step of the reading, and what its end says.
use Rattle.std.proofs.Common.{◌≡◌, ℕ, zero, suc, ◌<◌, List, [], ◌∷◌, ◌++◌, true, false, refl, arith, sym, ap, subst, append_assoc, append-nil}
use Rattle.std.specs.Prelude.{nat_eq}
use Rattle.std.proofs.lemmas.Bool.{eqb-true}
use Rattle.fz_ast.specs.declared.span.Span.{Span}
use Rattle.fz_ast.specs.Terms.{Term}
use Rattle.fz_lexer.specs.declared.token.Token.{Token}
use Rattle.fz_parser.specs.declared.grammar.Item.{Item}
use Rattle.fz_parser.specs.declared.grammar.Item.TheVariants.{Take, Read, Make}
use Rattle.fz_parser.specs.declared.grammar.Terminal.{Terminal}
use Rattle.fz_parser.specs.declared.grammar.Phrase.{Phrase}
use Rattle.fz_parser.specs.declared.grammar.Phrase.TheVariants.{Expression, Sensitivity, AnyType}
use Rattle.fz_parser.specs.declared.grammar.Action.{Action}
use Rattle.fz_parser.specs.Table.{rule_count}
use Rattle.fz_parser.specs.Parts.{StackPart, What, TermPart, State, sort_of, shift, build, part, in_term}
use Rattle.fz_parser.specs.Grammar.{Fits, head, body, empty, alone, IsPhrase, IsTerm}
use Rattle.fz_parser.specs.Reading.{Begins}
use Rattle.fz_parser.specs.Reads.{Reads}
use Rattle.fz_parser.specs.Classes.{class, phrase_number, terminal_number, may_stand}
use Rattle.fz_parser.specs.Rows.{follow_rows, need_rows}
use Rattle.fz_parser.specs.Tests.{choice, follows, phrase_takes, phrase_gives}
use Rattle.fz_parser.specs.Steps.{Good, front, sorts_of, sorts, Level, START, IsGoal, Sound, At, IsDeadEnd}
use Rattle.fz_parser.proofs.Cutting.{one}
use Rattle.fz_parser.proofs.Numbers.{class_positive, may_from}
use Rattle.fz_parser.proofs.Theory.{front_end, picked, good_rule, unique}
use Rattle.fz_parser.proofs.Words.{some_word, level_rule, level_act, level_token, one_left}

token_down : (k : Terminal) (σ : List Item) (t : Token) (v : List Token) (s r : State) → Reads (Take k ∷ σ) (t ∷ v) s r → Fits k t.kind × Reads σ v (shift k t s) r
token_down k σ t v s r (zero, h) = absurd h
token_down k σ t v s r (suc n, h) = (h.0, (n, h.1))

act_down : (a : Action) (σ : List Item) (v : List Token) (s r : State) → Reads (Make a ∷ σ) v s r → Reads σ v (build a s) r
act_down a σ v s r (zero, h) = elim v [ [] ↦ absurd h | t ∷ w ↦ absurd h ]
act_down a σ v s r (suc n, h) = (n, h)

end_down : (v : List Token) (s r : State) → Reads [] v s r → (v ≡ []) × (s ≡ r)
end_down [] s r (zero, h) = (refl, h)
end_down (t ∷ v) s r (zero, h) = absurd h
end_down v s r (suc n, h) = absurd h

rule_down : (a : Phrase) (σ : List Item) (v : List Token) (s r : State) → Good (Read a ∷ σ) → Reads (Read a ∷ σ) v s r → (p : ℕ) × (choice a (front v) ≡ suc p) × Reads (body p ++ σ) v s r
rule_down a σ v s r g (zero, h) = elim v [ [] ↦ absurd h | t ∷ w ↦ absurd h ]
rule_down a σ v s r g (suc n, h) = (h.0, picked n a σ v s r h g, (n, h.3))

never_token : (t : Token) (k : Terminal) (σ : List Item) (s r : State) (v : List Token) → may_stand (terminal_number k) (class t) ≡ false → front v ≡ class t → Reads (Take k ∷ σ) v s r → ⊥
never_token t k σ s r [] f e (zero, g) = g
never_token t k σ s r [] f e (suc n, g) = g
never_token t k σ s r (u ∷ v) f e (zero, g) = g
never_token t k σ s r (u ∷ v) f e (suc n, g) = cc (may_from k u.kind g.0, f, ap (may_stand (terminal_number k)) e)

end_token : (k : Terminal) (σ : List Item) (s r : State) (v : List Token) → Reads (Take k ∷ σ) v s r → (v ≡ []) → ⊥
end_token k σ s r [] (zero, g) e = g
end_token k σ s r [] (suc n, g) e = g
end_token k σ s r (u ∷ v) g e = cc e

-- one step, whatever is read
module _ {goal : Phrase} where
  pub sound_token : (k : Terminal) (σ : List Item) (s : State) (t : Token) → Sound goal (Take k ∷ σ) s → Sound goal σ (shift k t s)
  sound_token k σ s t h = record { good = h.good; level = level_token k σ t s h.level }

  pub sound_act : (a : Action) (σ : List Item) (s : State) → Sound goal (Make a ∷ σ) s → Sound goal σ (build a s)
  sound_act a σ s h = record { good = h.good; level = level_act a σ s h.level }

  pub sound_rule : (p : ℕ) (a : Phrase) (σ : List Item) (s : State) → p < rule_count → head p ≡ a → Sound goal (Read a ∷ σ) s → Sound goal (body p ++ σ) s
  sound_rule p a σ s l e h = record { good = good_rule p a σ l e h.good.0 h.good.1; level = level_rule p a σ (sorts s) l e h.level }

  pub at_start : (rest : List Token) → At goal [] rest (START goal) empty
  at_start rest = record { down = λ v r e h. h; up = λ v r e h. h; viable = some_word (START goal) empty }

  pub at_token : (read : List Token) (t : Token) (rest : List Token) (k : Terminal) (σ : List Item) (s : State) → Fits k t.kind → At goal read (t ∷ rest) (Take k ∷ σ) s → At goal (read ++ t ∷ []) rest σ (shift k t s)
  at_token read t rest k σ s f a =
      let up' = λ (v : List Token) (r : State) (h : Reads σ v (shift k t s) r). a.up (t ∷ v) r refl (suc h.0, (f, h.1)) in
      let w = some_word σ (shift k t s) in
      record {
        down = λ v r e h. (token_down k σ t v s r (a.down (t ∷ v) r refl (rw append_assoc at h))).1;
        up = λ v r e h. rw append_assoc (up' v r h);
        viable = (w.0, w.1, rw append_assoc (up' w.0 w.1 w.2));
      }

  pub at_act : (read rest : List Token) (a : Action) (σ : List Item) (s : State) → At goal read rest (Make a ∷ σ) s → At goal read rest σ (build a s)
  at_act read rest a σ s h = record {
    down = λ v r e g. act_down a σ v s r (h.down v r e g);
    up = λ v r e g. h.up v r e (suc g.0, g.1);
    viable = h.viable;
  }

  pub at_rule : (read rest : List Token) (a : Phrase) (p : ℕ) (σ : List Item) (s : State) → Good (Read a ∷ σ) → p < rule_count → head p ≡ a → choice a (front rest) ≡ suc p → At goal read rest (Read a ∷ σ) s → At goal read rest (body p ++ σ) s
  at_rule read rest a p σ s good l e c h = record {
    down = λ v r d g.
        let q = rule_down a σ v s r good (h.down v r d g) in
        let same : q.0 ≡ p = cc (q.1, c, ap (choice a) d) in
        subst (λ x. Reads (body x ++ σ) v s r) same q.2;
    up = λ v r d g. h.up v r d (suc g.0, (p, l, e, g.1));
    viable = h.viable;
  }

  pub refused_token : (read rest : List Token) (t : Token) (k : Terminal) (σ : List Item) (s : State) → may_stand (terminal_number k) (class t) ≡ false → At goal read (t ∷ rest) (Take k ∷ σ) s → IsDeadEnd goal read (t ∷ rest)
  refused_token read rest t k σ s f h = record {
    viable = h.viable;
    never = λ v r e g. never_token t k σ s r v f e (h.down v r e g);
  }

  pub refused_name : (read rest : List Token) (a : Phrase) (σ : List Item) (s : State) → Good (Read a ∷ σ) → choice a (front rest) ≡ 0 → At goal read rest (Read a ∷ σ) s → IsDeadEnd goal read rest
  refused_name read rest a σ s good c h = record {
    viable = h.viable;
    never = λ v r e g.
        let q = rule_down a σ v s r good (h.down v r e g) in
        absurd (omega (arith, q.1, c, ap (choice a) e));
  }

  pub refused_more : (read : List Token) (t : Token) (rest : List Token) (s : State) → At goal read (t ∷ rest) [] s → IsDeadEnd goal read (t ∷ rest)
  refused_more read t rest s h = record {
    viable = h.viable;
    never = λ v r e g.
        let d : v ≡ [] = (end_down v s r (h.down v r e g)).0 in
        absurd (omega (arith, class_positive t, e, ap front d));
  }

  pub refused_end : (read : List Token) (k : Terminal) (σ : List Item) (s : State) → At goal read [] (Take k ∷ σ) s → IsDeadEnd goal read []
  refused_end read k σ s h = record {
    viable = h.viable;
    never = λ v r e g. end_token k σ s r v (h.down v r e g) (front_end v e);
  }

-- the sort of what a goal gives
sorts_alone : (ps : List StackPart) (k : ℕ) → sorts_of ps ≡ k ∷ [] → (from : ℕ) × (x : What) × (ps ≡ (record { from = from; what = x }) ∷ []) × (sort_of x ≡ k)
sorts_alone [] k h = absurd (cc h)
sorts_alone (p ∷ []) k h = (p.from, p.what, refl, cc h)
sorts_alone (p ∷ q ∷ ps) k h = absurd (cc h)

one_state : (s : State) (k : ℕ) → sorts s ≡ k ∷ [] → (from : ℕ) × (x : What) × (s ≡ alone s.last from x) × (sort_of x ≡ k)
one_state s k h = let q = sorts_alone s.parts k h in (q.0, q.1, ap (λ ps. let r : State = record { last = s.last; parts = ps } in r) q.2, q.3)

what_same : (l m : Span) (f g : ℕ) (x y : What) → alone l f x ≡ alone m g y → x ≡ y
what_same l m f g x y h = ap (λ s. (part 0 s).what) h

pub reads_of : {goal : Phrase} (ts : List Token) (x : What) → IsPhrase goal ts x → (last : Span) × (from : ℕ) × Reads (START goal) ts empty (alone last from x)
reads_of {goal} ts x h = (h.0, h.1, (one (START goal) ts empty _).1 h.2)

-- what a goal that may be read by itself comes to
module _ {goal : Phrase} (g : IsGoal goal) where
  follow_end : (c : ℕ) → nat_eq c 0 ≡ true → follows goal c ≡ true
  follow_end c h = rw (eqb-true c 0 h) g.ends

  level_start : Level goal (START goal) (sorts empty)
  level_start =
      let e : phrase_takes goal ≡ [] = g.takes in
      record { enough = rw e refl; one = rw e refl }

  pub sound_start : Sound goal (START goal) empty
  sound_start = record { good = (λ c b h. follow_end c h, tt); level = level_start }

  -- what the start reads is the goal
  phrase_of : (ts : List Token) (r : State) → Reads (START goal) ts empty r → (from : ℕ) × (x : What) × (r ≡ alone r.last from x) × IsPhrase goal ts x × (sort_of x ≡ phrase_gives goal)
  phrase_of ts r h =
      let q = one_state r (phrase_gives goal) (one_left h.0 (START goal) ts empty r h.1 level_start) in
      let d : Reads (START goal) ts empty (alone r.last q.0 q.1) = subst (λ x. Reads (START goal) ts empty x) q.2 h in
      (q.0, q.1, q.2, (r.last, q.0, (one (START goal) ts empty _).0 d), q.3)

  -- it has the sort that the goal gives
  pub sort_is : (ts : List Token) (x : What) → IsPhrase goal ts x → sort_of x ≡ phrase_gives goal
  sort_is ts x h =
      let d = reads_of ts x h in
      cc (one_left d.2.0 (START goal) ts empty (alone d.0 d.1 x) d.2.1 level_start)

  -- a text has at most one
  pub one_what : (ts : List Token) (x y : What) → IsPhrase goal ts x → IsPhrase goal ts y → x ≡ y
  one_what ts x y h k =
      let a = reads_of ts x h in let b = reads_of ts y k in
      what_same a.0 b.0 a.1 b.1 x y (unique a.2.0 b.2.0 (START goal) ts empty (alone a.0 a.1 x) (alone b.0 b.1 y) a.2.1 b.2.1 sound_start.good)

  pub done : (read : List Token) (s : State) → At goal read [] [] s → (from : ℕ) × (x : What) × (s ≡ alone s.last from x) × IsPhrase goal read x × (sort_of x ≡ phrase_gives goal)
  done read s h =
      let d : Reads (START goal) (read ++ []) empty s = h.up [] s refl (0, refl) in
      phrase_of read s (subst (λ w. Reads (START goal) w empty s) (append-nil read) d)

  viable_from : (read : List Token) → ((v : List Token) × (r : State) × Reads (START goal) (read ++ v) empty r) → Begins What (IsPhrase goal) read
  viable_from read h = let q = phrase_of (read ++ h.0) h.1 h.2 in (h.0, q.1, q.3)

  pub stuck_here : (read : List Token) (t : Token) (rest : List Token) → IsDeadEnd goal read (t ∷ rest) → Begins What (IsPhrase goal) read × (Begins What (IsPhrase goal) (read ++ t ∷ []) → ⊥)
  stuck_here read t rest h = (
    viable_from read h.viable,
    λ b.
        let x = reads_of _ _ b.2 in
        h.never (t ∷ b.0) (alone x.0 x.1 b.1) refl (subst (λ w. Reads (START goal) w empty (alone x.0 x.1 b.1)) (append_assoc read (t ∷ []) b.0) x.2),
  )

  pub stuck_end : (read : List Token) → IsDeadEnd goal read [] → Begins What (IsPhrase goal) read × ((x : What) → IsPhrase goal read x → ⊥)
  stuck_end read h = (
    viable_from read h.viable,
    λ e b.
        let x = reads_of _ _ b in
        h.never [] (alone x.0 x.1 e) refl (subst (λ w. Reads (START goal) w empty (alone x.0 x.1 e)) (sym (append-nil read)) x.2),
  )

-- terms, types and sensitivities may be read by themselves
pub term_goal : IsGoal Expression
unfolding phrase_takes need_rows follows follow_rows phrase_number
term_goal = record { takes = refl; ends = refl }

pub type_goal : IsGoal AnyType
unfolding phrase_takes need_rows follows follow_rows phrase_number
type_goal = record { takes = refl; ends = refl }

pub sensitivity_goal : IsGoal Sensitivity
unfolding phrase_takes need_rows follows follow_rows phrase_number
sensitivity_goal = record { takes = refl; ends = refl }

-- a text has at most one term
pub one_only : (ts : List Token) (e e' : Term) → IsTerm ts e → IsTerm ts e' → e ≡ e'
unfolding IsTerm
one_only ts e e' h k = ap in_term (one_what term_goal ts (TermPart e) (TermPart e') h k)
