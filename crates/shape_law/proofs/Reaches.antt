-- No program whose run without data stops nowhere is evaluated deeper than the limit.
use Rattle.std.proofs.Common.{arith, refl}
use Rattle.std.proofs.lemmas.Bool.{leb-true}
use Rattle.std.specs.Prelude.{Bool, cond, false, max, nat_le, suc, true, zero, ℕ, ◌+◌, ◌-◌, ◌*◌, ◌≡◌, ◌≤◌}
use Rattle.fz_ast.specs.Terms.{AppE, BangE, CaseE, ClipE, EqE, FilterE, FnE, FstE, FunE, GreatestE, IfE, InlE, InrE, LeE, LeastE, LetBangE, LetE, LetPairE, MapE, MinusE, NumE, PairE, PlusE, SizeE, SndE, SplitE, SumE, Term, TextE, TimesE, UnionE, UnitE, VarE, WithE, at}
use Rattle.fz_ast.specs.declared.span.Span.{Span}
use Rattle.shape_law.specs.Shapes.{Also, BangS, FnS, FunS, PairS, Shape, Shapes, Wide, bang_shape, first_half, height_of, in_bang, pair_shape, second_half, shape_of, side_shape, walks_of, width_of, wider}
use Rattle.shape_law.specs.Walk.{Shaped, Stops, Tally, TooWide, Walk, WalkOutcome, after_part, after_parts, counted_from, as_before, bag, enters, next, noted, over, over_bag, reach_limit, turn, turn_limit, union, walk, walk_limit, walk_rules, walked, walks_at, weighed, width_limit, yields}
use Rattle.shape_law.proofs.Kept.{next_is, turn_is}

-- nothing so far is evaluated deeper than the limit
abbrev pub Low : Tally → Type 0
Low k = k.reach ≤ reach_limit

abbrev pub LowWalk : Walk → Type 0
LowWalk W = (σ : Shapes) (t : Term) (s : Shape) (k k' : Tally) → k.reach ≤ reach_limit → W σ t k ≡ Shaped s k' → k'.reach ≤ reach_limit

yielded : (r s : Shape) (k k' : Tally) → Low k → yields r k ≡ Shaped s k' → Low k'
yielded r s k k' l h = let e : k'.reach ≡ k.reach = cc h in omega (arith, e, l)

weighs : (w i v : ℕ) (s : Shape) (k k' : Tally) → Low k → weighed w i v k ≡ Shaped s k' → Low k'
weighs w i v s k k' l h = go (nat_le walk_limit i) h
  where
    go : (b : Bool) → cond b (yields (Wide w 0 0) (noted k)) (yields (Wide w i v) k) ≡ Shaped s k' → Low k'
    go true h = yielded (Wide w 0 0) s (noted k) k' l h
    go false h = yielded (Wide w i v) s k k' l h

united : (u : Span) (p q s : Shape) (k k' : Tally) → Low k → union u p q k ≡ Shaped s k' → Low k'
united u p q s k k' l h = go (nat_le (width_of p + width_of q) width_limit) h
  where
    go : (b : Bool) → cond b (weighed (width_of p + width_of q) (walks_of p + walks_of q) (max (height_of p) (height_of q)) k) (Stops (TooWide u (width_of p + width_of q))) ≡ Shaped s k' → Low k'
    go true h = weighs (width_of p + width_of q) (walks_of p + walks_of q) (max (height_of p) (height_of q)) s k k' l h
    go false h = cc

-- a bag is as deep as what came before it
bagged : (d : ℕ) (q s : Shape) (before k k' : Tally) → Low before → bag d q before k ≡ Shaped s k' → Low k'
bagged d q s before k k' l h = weighs (width_of q) (width_of q * k.walks + walks_of q) (max (height_of q) (k.reach - d)) s (as_before before k) k' l h

measured : (d : ℕ) (p s : Shape) (k k' : Tally) → Low k → walks_at d p k ≡ Shaped s k' → Low k'
measured d p s k k' l h = go (nat_le (d + height_of p) reach_limit) refl h
  where
    go : (b : Bool) → nat_le (d + height_of p) reach_limit ≡ b → yields (Wide 0 0 0) (cond b (walked d p k) (noted k)) ≡ Shaped s k' → Low k'
    go true e h = yielded (Wide 0 0 0) s (walked d p k) k' (let g = leb-true (d + height_of p) reach_limit e in omega (arith, g, l)) h
    go false e h = yielded (Wide 0 0 0) s (noted k) k' l h

module _ (W : Walk) (low : LowWalk W) where
  part : (σ : Shapes) (e : Term) (f : Shape → Tally → WalkOutcome) (s : Shape) (k k' : Tally) → Low k
      → ((p : Shape) (j : Tally) → Low j → f p j ≡ Shaped s k' → Low k') → next (W σ e k) f ≡ Shaped s k' → Low k'
  part σ e f s k k' l then h =
      let i = next_is (W σ e k) f s k' h in
      then i.0 i.1 (low σ e i.0 k i.1 l i.2) i.3

  parts : (σ τ : Shapes) (a b : Term) (f : Shape → Shape → Tally → WalkOutcome) (s : Shape) (k k' : Tally) → Low k
      → ((p q : Shape) (j : Tally) → Low j → f p q j ≡ Shaped s k' → Low k') → next (W σ a k) (λ p k. next (W τ b k) (f p)) ≡ Shaped s k' → Low k'
  parts σ τ a b f s k k' l then h =
      part σ a (λ p k. next (W τ b k) (f p)) s k k' l (λ p j y g. part τ b (f p) s j k' y (λ q i w. then p q i w) g) h

  alone : (σ : Shapes) (e : Term) (f : Shape → Shape) (s : Shape) (k k' : Tally) → Low k → after_part W σ e k (λ p. yields (f p)) ≡ Shaped s k' → Low k'
  alone σ e f s k k' l h = part σ e (λ p. yields (f p)) s k k' l (λ p j y. yielded (f p) s j k' y) h

  pair : (σ : Shapes) (a b : Term) (f : Shape → Shape → Shape) (s : Shape) (k k' : Tally) → Low k → after_parts W σ a b k (λ p q. yields (f p q)) ≡ Shaped s k' → Low k'
  pair σ a b f s k k' l h = parts σ σ a b (λ p q. yields (f p q)) s k k' l (λ p q j z. yielded (f p q) s j k' z) h

  bound : (σ : Shapes) (e b : Term) (τ : Shape → Shapes) (s : Shape) (k k' : Tally) → Low k → after_part W σ e k (λ p. W (τ p) b) ≡ Shaped s k' → Low k'
  bound σ e b τ s k k' l h = part σ e (λ p. W (τ p) b) s k k' l (λ p j y. low (τ p) b s j k' y) h

  -- a condition, and two branches in which its shape may be bound
  branches : (σ : Shapes) (e a b : Term) (τ υ : Shape → Shapes) (s : Shape) (k k' : Tally) → Low k
      → after_part W σ e k (λ c k. next (W (τ c) a k) (λ p k. next (W (υ c) b k) (λ q. yields (wider p q)))) ≡ Shaped s k' → Low k'
  branches σ e a b τ υ s k k' l h =
      part σ e (λ c k. next (W (τ c) a k) (λ p k. next (W (υ c) b k) (λ q. yields (wider p q)))) s k k' l
      (λ c j m i. parts (τ c) (υ c) a b (λ p q. yields (wider p q)) s j k' m (λ p q j z. yielded (wider p q) s j k' z) i) h

  pub entered : (c u s : Shape) (k k' : Tally) → Low k → enters W c u k ≡ Shaped s k' → Low k'
  entered (FunS x e σ) u s k k' l h = low (Also x u σ) e s k k' l h
  entered (FnS x e σ) u s k k' l h = low (Also x (in_bang u) σ) e s k k' l h
  entered (Wide w i d) u s k k' l h = yielded (Wide 0 0 0) s k k' l h
  entered (PairS a b) u s k k' l h = yielded (Wide 0 0 0) s k k' l h
  entered (BangS a) u s k k' l h = yielded (Wide 0 0 0) s k k' l h

  counted : (d : ℕ) (σ : Shapes) (e : Term) (s : Shape) (k k' : Tally) → Low k → after_part W σ e k (walks_at d) ≡ Shaped s k' → Low k'
  counted d σ e s k k' l h = part σ e (walks_at d) s k k' l (λ p j y. measured d p s j k' y) h

  over_low : (d : ℕ) (σ : Shapes) (f b : Term) (s : Shape) (k k' : Tally) → Low k → over_bag d W σ f b k ≡ Shaped s k' → Low k'
  over_low d σ f b s k k' l h = parts σ σ f b (over d W) s k k' l inside h
    where
      inside : (c q : Shape) (j : Tally) → Low j → over d W c q j ≡ Shaped s k' → Low k'
      inside c q j z h =
          let i = next_is (enters W c (Wide 0 0 0) (counted_from d j)) (λ r. bag d q j) s k' h in
          bagged d q s j i.1 k' z i.3

  low_rules : (d : ℕ) (σ : Shapes) (t : Term) (s : Shape) (k k' : Tally) → Low k → walk_rules d W σ t k ≡ Shaped s k' → Low k'
  low_rules d σ (at _ (VarE x)) s k k' l h = yielded (shape_of σ x) s k k' l h
  low_rules d σ (at _ (NumE z)) s k k' l h = yielded (Wide 0 0 0) s k k' l h
  low_rules d σ (at _ (TextE t)) s k k' l h = yielded (Wide 0 0 0) s k k' l h
  low_rules d σ (at _ UnitE) s k k' l h = yielded (Wide 0 0 0) s k k' l h
  low_rules d σ (at _ (PairE a b)) s k k' l h = pair σ a b pair_shape s k k' l h
  low_rules d σ (at _ (WithE a b)) s k k' l h = pair σ a b pair_shape s k k' l h
  low_rules d σ (at _ (FstE e)) s k k' l h = alone σ e first_half s k k' l h
  low_rules d σ (at _ (SndE e)) s k k' l h = alone σ e second_half s k k' l h
  low_rules d σ (at _ (LetPairE x y e b)) s k k' l h = bound σ e b (λ p. Also y (second_half p) (Also x (first_half p) σ)) s k k' l h
  low_rules d σ (at _ (InlE _ T e)) s k k' l h = alone σ e side_shape s k k' l h
  low_rules d σ (at _ (InrE _ T e)) s k k' l h = alone σ e side_shape s k k' l h
  low_rules d σ (at _ (CaseE e x a y b)) s k k' l h = branches σ e a b (λ c. Also x (side_shape c) σ) (λ c. Also y (side_shape c) σ) s k k' l h
  low_rules d σ (at _ (IfE e a b)) s k k' l h = branches σ e a b (λ c. σ) (λ c. σ) s k k' l h
  low_rules d σ (at _ (FunE x _ T e)) s k k' l h = yielded (FunS x e σ) s k k' l h
  low_rules d σ (at _ (FnE x _ T e)) s k k' l h = yielded (FnS x e σ) s k k' l h
  low_rules d σ (at _ (AppE f a)) s k k' l h = parts σ σ f a (enters W) s k k' l (λ c u j. entered c u s j k') h
  low_rules d σ (at _ (BangE r e)) s k k' l h = alone σ e bang_shape s k k' l h
  low_rules d σ (at _ (LetBangE x e b)) s k k' l h = bound σ e b (λ p. Also x (in_bang p) σ) s k k' l h
  low_rules d σ (at _ (LetE x e b)) s k k' l h = bound σ e b (λ p. Also x p σ) s k k' l h
  low_rules d σ (at _ (PlusE a b)) s k k' l h = pair σ a b (λ p q. Wide 0 0 0) s k k' l h
  low_rules d σ (at _ (MinusE a b)) s k k' l h = pair σ a b (λ p q. Wide 0 0 0) s k k' l h
  low_rules d σ (at _ (TimesE n e)) s k k' l h = alone σ e (λ p. Wide 0 0 0) s k k' l h
  low_rules d σ (at _ (LeE a b)) s k k' l h = pair σ a b (λ p q. Wide 0 0 0) s k k' l h
  low_rules d σ (at _ (EqE a b)) s k k' l h = pair σ a b (λ p q. Wide 0 0 0) s k k' l h
  low_rules d σ (at _ (ClipE lo hi e)) s k k' l h = alone σ e (λ p. Wide 0 0 0) s k k' l h
  low_rules d σ (at _ (LeastE e)) s k k' l h = alone σ e (λ p. Wide 0 0 0) s k k' l h
  low_rules d σ (at _ (GreatestE e)) s k k' l h = alone σ e (λ p. Wide 0 0 0) s k k' l h
  low_rules d σ (at _ (SizeE e)) s k k' l h = counted d σ e s k k' l h
  low_rules d σ (at _ (SumE lo hi e)) s k k' l h = counted d σ e s k k' l h
  low_rules d σ (at u (UnionE a b)) s k k' l h = parts σ σ a b (union u) s k k' l (λ p q j y. united u p q s j k' y) h
  low_rules d σ (at _ (MapE f b)) s k k' l h = over_low d σ f b s k k' l h
  low_rules d σ (at _ (FilterE f b)) s k k' l h = over_low d σ f b s k k' l h
  low_rules d σ (at _ (SplitE f b)) s k k' l h = over_low d σ f b s k k' l h

pub low_walk : (left here : ℕ) → here + left ≤ suc reach_limit → LowWalk (walk left here)
low_walk zero here e σ t s k k' l h = cc
low_walk (suc left) here e σ t s k k' l h =
    low_rules (walk left (suc here)) (low_walk left (suc here) (omega (arith, e))) (suc here) σ t s (turn here k) k' (omega (arith, e, l)) (turn_is (nat_le turn_limit k.turns) _ _ s k' h).1
