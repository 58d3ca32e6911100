-- No width that a walk meets is over the limit, where its names' widths aren't.
use Rattle.std.proofs.Common.{arith, refl, subst}
use Rattle.std.proofs.lemmas.Bool.{leb-true}
use Rattle.std.specs.Prelude.{Bool, [], bytes_eq, cond, false, max, nat_le, suc, true, zero, ℕ, ◌+◌, ◌-◌, ◌*◌, ◌∷◌, ◌≡◌, ◌≤◌}
use Rattle.fz_ast.specs.Signature.{Signature}
use Rattle.fz_ast.specs.Terms.{AppE, BangE, CaseE, ClipE, EqE, FilterE, FnE, FstE, FunE, GreatestE, IfE, InlE, InrE, LeE, LeastE, LetBangE, LetE, LetPairE, MapE, MinusE, Name, NumE, PairE, PlusE, SizeE, SndE, SplitE, SumE, Term, TextE, TimesE, UnionE, UnitE, VarE, WithE, at}
use Rattle.fz_ast.specs.declared.span.Span.{Span}
use Rattle.shape_law.specs.Shapes.{Also, BangS, FnS, FunS, Nothing, PairS, Shape, Shapes, Wide, bang_shape, first_half, height_of, in_bang, pair_shape, second_half, shape_of, side_shape, table_shapes, walks_of, width_of, wider}
use Rattle.shape_law.specs.Walk.{Shaped, Stops, Tally, TooWide, Walk, WalkOutcome, after_part, after_parts, counted_from, as_before, bag, enters, next, noted, over, over_bag, reach_limit, turn, turn_limit, union, walk, walk_limit, walk_rules, walked, walks_at, weighed, width_limit, yields}
use Rattle.shape_law.proofs.Kept.{next_is, turn_is}

mutual
  -- no bag in it is wider than the limit
  pub data Narrow : Shape → Type 0 where
    narrow_ground : {w i d : ℕ} → w ≤ width_limit → Narrow (Wide w i d)
    narrow_pair : {a b : Shape} → Narrow a → Narrow b → Narrow (PairS a b)
    narrow_bang : {a : Shape} → Narrow a → Narrow (BangS a)
    narrow_fun : {x : Name} {e : Term} {σ : Shapes} → NarrowNames σ → Narrow (FunS x e σ)
    narrow_fn : {x : Name} {e : Term} {σ : Shapes} → NarrowNames σ → Narrow (FnS x e σ)

  pub data NarrowNames : Shapes → Type 0 where
    narrow_nothing : NarrowNames Nothing
    narrow_also : {x : Name} {s : Shape} {σ : Shapes} → Narrow s → NarrowNames σ → NarrowNames (Also x s σ)

-- words of shapes

pub none : Narrow (Wide 0 0 0)
none = narrow_ground (omega arith)

width_narrow : (s : Shape) → Narrow s → width_of s ≤ width_limit
width_narrow (Wide w i d) (narrow_ground h) = h
width_narrow (PairS a b) h = omega arith
width_narrow (BangS a) h = omega arith
width_narrow (FunS x e σ) h = omega arith
width_narrow (FnS x e σ) h = omega arith

side_narrow : (s : Shape) → Narrow s → Narrow (side_shape s)
side_narrow s h = narrow_ground (width_narrow s h)

wider_narrow : (p q : Shape) → Narrow p → Narrow q → Narrow (wider p q)
wider_narrow p q h g = narrow_ground (omega (arith, width_narrow p h, width_narrow q g))

pair_narrow : (p q : Shape) → Narrow p → Narrow q → Narrow (pair_shape p q)
pair_narrow (Wide a i v) (Wide b j w) h g = wider_narrow (Wide a i v) (Wide b j w) h g
pair_narrow (Wide a i v) (PairS c d) h g = narrow_pair h g
pair_narrow (Wide a i v) (BangS c) h g = narrow_pair h g
pair_narrow (Wide a i v) (FunS x e σ) h g = narrow_pair h g
pair_narrow (Wide a i v) (FnS x e σ) h g = narrow_pair h g
pair_narrow (PairS a b) q h g = narrow_pair h g
pair_narrow (BangS a) q h g = narrow_pair h g
pair_narrow (FunS x e σ) q h g = narrow_pair h g
pair_narrow (FnS x e σ) q h g = narrow_pair h g

first_narrow : (p : Shape) → Narrow p → Narrow (first_half p)
first_narrow (Wide w i d) h = h
first_narrow (PairS a b) (narrow_pair h g) = h
first_narrow (BangS a) h = none
first_narrow (FunS x e σ) h = none
first_narrow (FnS x e σ) h = none

second_narrow : (p : Shape) → Narrow p → Narrow (second_half p)
second_narrow (Wide w i d) h = h
second_narrow (PairS a b) (narrow_pair h g) = g
second_narrow (BangS a) h = none
second_narrow (FunS x e σ) h = none
second_narrow (FnS x e σ) h = none

bang_narrow : (p : Shape) → Narrow p → Narrow (bang_shape p)
bang_narrow (Wide w i d) h = h
bang_narrow (PairS a b) h = narrow_bang h
bang_narrow (BangS a) h = narrow_bang h
bang_narrow (FunS x e σ) h = narrow_bang h
bang_narrow (FnS x e σ) h = narrow_bang h

held_narrow : (p : Shape) → Narrow p → Narrow (in_bang p)
held_narrow (Wide w i d) h = h
held_narrow (BangS a) (narrow_bang h) = h
held_narrow (PairS a b) h = none
held_narrow (FunS x e σ) h = none
held_narrow (FnS x e σ) h = none

name_narrow : (σ : Shapes) (x : Name) → NarrowNames σ → Narrow (shape_of σ x)
name_narrow Nothing x h = none
name_narrow (Also y s σ) x (narrow_also h hs) = go (bytes_eq y x) (name_narrow σ x hs)
  where
    go : (b : Bool) → Narrow (shape_of σ x) → Narrow (cond b s (shape_of σ x))
    go true outer = h
    go false outer = outer

pub tables_narrow : (ts : Signature) → NarrowNames (table_shapes ts)
tables_narrow [] = narrow_nothing
tables_narrow (t ∷ ts) = narrow_also (narrow_ground (omega arith)) (tables_narrow ts)

-- walks

-- neither the shape nor any so far is wider than the limit
abbrev pub Stays : Shape → Tally → Type 0
Stays s k = Narrow s × (k.width ≤ width_limit)

-- where the names' shapes stay within the limit, so do W's
abbrev pub NarrowWalk : Walk → Type 0
NarrowWalk W = (σ : Shapes) (t : Term) (s : Shape) (k k' : Tally) → NarrowNames σ → k.width ≤ width_limit → W σ t k ≡ Shaped s k' → Narrow s × (k'.width ≤ width_limit)

yielded : (r s : Shape) (k k' : Tally) → Narrow r → k.width ≤ width_limit → yields r k ≡ Shaped s k' → Stays s k'
yielded r s k k' n l h =
    let e : r ≡ s = cc h in
    let w : k'.width ≡ max k.width (width_of r) = cc h in
    (subst Narrow e n, omega (arith, w, width_narrow r n))

weighs : (w i v : ℕ) (s : Shape) (k k' : Tally) → w ≤ width_limit → k.width ≤ width_limit → weighed w i v k ≡ Shaped s k' → Stays s k'
weighs w i v s k k' n l h = go (nat_le walk_limit i) h
  where
    go : (b : Bool) → cond b (yields (Wide w 0 0) (noted k)) (yields (Wide w i v) k) ≡ Shaped s k' → Stays s k'
    go true h = yielded (Wide w 0 0) s (noted k) k' (narrow_ground n) l h
    go false h = yielded (Wide w i v) s k k' (narrow_ground n) l h

united : (u : Span) (p q s : Shape) (k k' : Tally) → k.width ≤ width_limit → union u p q k ≡ Shaped s k' → Stays s k'
united u p q s k k' l h = go (nat_le (width_of p + width_of q) width_limit) refl h
  where
    go : (b : Bool) → nat_le (width_of p + width_of q) width_limit ≡ b
        → cond b (weighed (width_of p + width_of q) (walks_of p + walks_of q) (max (height_of p) (height_of q)) k) (Stops (TooWide u (width_of p + width_of q))) ≡ Shaped s k' → Stays s k'
    go true e h = weighs (width_of p + width_of q) (walks_of p + walks_of q) (max (height_of p) (height_of q)) s k k' (leb-true (width_of p + width_of q) width_limit e) l h
    go false e h = cc

bagged : (d : ℕ) (q s : Shape) (before k k' : Tally) → Narrow q → k.width ≤ width_limit → bag d q before k ≡ Shaped s k' → Stays s k'
bagged d q s before k k' n l h =
    weighs (width_of q) (width_of q * k.walks + walks_of q) (max (height_of q) (k.reach - d)) s (as_before before k) k' (width_narrow q n) l h

measured : (d : ℕ) (p s : Shape) (k k' : Tally) → k.width ≤ width_limit → walks_at d p k ≡ Shaped s k' → Stays s k'
measured d p s k k' l h = go (nat_le (d + height_of p) reach_limit) h
  where
    go : (b : Bool) → yields (Wide 0 0 0) (cond b (walked d p k) (noted k)) ≡ Shaped s k' → Stays s k'
    go true h = yielded (Wide 0 0 0) s (walked d p k) k' none l h
    go false h = yielded (Wide 0 0 0) s (noted k) k' none l h

module _ (W : Walk) (narrow : NarrowWalk W) where
  -- what follows a part whose shape stays within the limit
  part : (σ : Shapes) (e : Term) (f : Shape → Tally → WalkOutcome) (s : Shape) (k k' : Tally) → NarrowNames σ → k.width ≤ width_limit
      → ((p : Shape) (j : Tally) → Narrow p → j.width ≤ width_limit → f p j ≡ Shaped s k' → Stays s k') → next (W σ e k) f ≡ Shaped s k' → Stays s k'
  part σ e f s k k' n l then h =
      let i = next_is (W σ e k) f s k' h in
      let x = narrow σ e i.0 k i.1 n l i.2 in
      then i.0 i.1 x.0 x.1 i.3

  parts : (σ τ : Shapes) (a b : Term) (f : Shape → Shape → Tally → WalkOutcome) (s : Shape) (k k' : Tally) → NarrowNames σ → NarrowNames τ → k.width ≤ width_limit
      → ((p q : Shape) (j : Tally) → Narrow p → Narrow q → j.width ≤ width_limit → f p q j ≡ Shaped s k' → Stays s k') → next (W σ a k) (λ p k. next (W τ b k) (f p)) ≡ Shaped s k' → Stays s k'
  parts σ τ a b f s k k' n m l then h =
      part σ a (λ p k. next (W τ b k) (f p)) s k k' n l (λ p j x y g. part τ b (f p) s j k' m y (λ q i z w. then p q i x z w) g) h

  alone : (σ : Shapes) (e : Term) (f : Shape → Shape) (s : Shape) (k k' : Tally) → NarrowNames σ → k.width ≤ width_limit → ((p : Shape) → Narrow p → Narrow (f p))
      → after_part W σ e k (λ p. yields (f p)) ≡ Shaped s k' → Stays s k'
  alone σ e f s k k' n l g h = part σ e (λ p. yields (f p)) s k k' n l (λ p j x y. yielded (f p) s j k' (g p x) y) h

  pair : (σ : Shapes) (a b : Term) (f : Shape → Shape → Shape) (s : Shape) (k k' : Tally) → NarrowNames σ → k.width ≤ width_limit → ((p q : Shape) → Narrow p → Narrow q → Narrow (f p q))
      → after_parts W σ a b k (λ p q. yields (f p q)) ≡ Shaped s k' → Stays s k'
  pair σ a b f s k k' n l g h = parts σ σ a b (λ p q. yields (f p q)) s k k' n n l (λ p q j x y z. yielded (f p q) s j k' (g p q x y) z) h

  bound : (σ : Shapes) (e b : Term) (τ : Shape → Shapes) (s : Shape) (k k' : Tally) → NarrowNames σ → k.width ≤ width_limit → ((p : Shape) → Narrow p → NarrowNames (τ p))
      → after_part W σ e k (λ p. W (τ p) b) ≡ Shaped s k' → Stays s k'
  bound σ e b τ s k k' n l g h = part σ e (λ p. W (τ p) b) s k k' n l (λ p j x y. narrow (τ p) b s j k' (g p x) y) h

  -- two branches, each under its names
  branches : (σ τ : Shapes) (a b : Term) (s : Shape) (k k' : Tally) → NarrowNames σ → NarrowNames τ → k.width ≤ width_limit
      → next (W σ a k) (λ p k. next (W τ b k) (λ q. yields (wider p q))) ≡ Shaped s k' → Stays s k'
  branches σ τ a b s k k' n m l h = parts σ τ a b (λ p q. yields (wider p q)) s k k' n m l (λ p q j x y z. yielded (wider p q) s j k' (wider_narrow p q x y) z) h

  pub entered : (c u s : Shape) (k k' : Tally) → Narrow c → Narrow u → k.width ≤ width_limit → enters W c u k ≡ Shaped s k' → Stays s k'
  entered (FunS x e σ) u s k k' (narrow_fun c) n l h = narrow (Also x u σ) e s k k' (narrow_also n c) l h
  entered (FnS x e σ) u s k k' (narrow_fn c) n l h = narrow (Also x (in_bang u) σ) e s k k' (narrow_also (held_narrow u n) c) l h
  entered (Wide w i d) u s k k' c n l h = yielded (Wide 0 0 0) s k k' none l h
  entered (PairS a b) u s k k' c n l h = yielded (Wide 0 0 0) s k k' none l h
  entered (BangS a) u s k k' c n l h = yielded (Wide 0 0 0) s k k' none l h

  counted : (d : ℕ) (σ : Shapes) (e : Term) (s : Shape) (k k' : Tally) → NarrowNames σ → k.width ≤ width_limit → after_part W σ e k (walks_at d) ≡ Shaped s k' → Stays s k'
  counted d σ e s k k' n l h = part σ e (walks_at d) s k k' n l (λ p j x y. measured d p s j k' y) h

  over_stays : (d : ℕ) (σ : Shapes) (f b : Term) (s : Shape) (k k' : Tally) → NarrowNames σ → k.width ≤ width_limit → over_bag d W σ f b k ≡ Shaped s k' → Stays s k'
  over_stays d σ f b s k k' n l h = parts σ σ f b (over d W) s k k' n n l inside h
    where
      inside : (c q : Shape) (j : Tally) → Narrow c → Narrow q → j.width ≤ width_limit → over d W c q j ≡ Shaped s k' → Stays s k'
      inside c q j x y z h =
          let i = next_is (enters W c (Wide 0 0 0) (counted_from d j)) (λ r. bag d q j) s k' h in
          bagged d q s j i.1 k' y (entered c (Wide 0 0 0) i.0 (counted_from d j) i.1 x none z i.2).1 i.3

  narrow_rules : (d : ℕ) (σ : Shapes) (t : Term) (s : Shape) (k k' : Tally) → NarrowNames σ → k.width ≤ width_limit → walk_rules d W σ t k ≡ Shaped s k' → Stays s k'
  narrow_rules d σ (at _ (VarE x)) s k k' n l h = yielded (shape_of σ x) s k k' (name_narrow σ x n) l h
  narrow_rules d σ (at _ (NumE z)) s k k' n l h = yielded (Wide 0 0 0) s k k' none l h
  narrow_rules d σ (at _ (TextE t)) s k k' n l h = yielded (Wide 0 0 0) s k k' none l h
  narrow_rules d σ (at _ UnitE) s k k' n l h = yielded (Wide 0 0 0) s k k' none l h
  narrow_rules d σ (at _ (PairE a b)) s k k' n l h = pair σ a b pair_shape s k k' n l pair_narrow h
  narrow_rules d σ (at _ (WithE a b)) s k k' n l h = pair σ a b pair_shape s k k' n l pair_narrow h
  narrow_rules d σ (at _ (FstE e)) s k k' n l h = alone σ e first_half s k k' n l first_narrow h
  narrow_rules d σ (at _ (SndE e)) s k k' n l h = alone σ e second_half s k k' n l second_narrow h
  narrow_rules d σ (at _ (LetPairE x y e b)) s k k' n l h =
      bound σ e b (λ p. Also y (second_half p) (Also x (first_half p) σ)) s k k' n l (λ p m. narrow_also (second_narrow p m) (narrow_also (first_narrow p m) n)) h
  narrow_rules d σ (at _ (InlE _ T e)) s k k' n l h = alone σ e side_shape s k k' n l side_narrow h
  narrow_rules d σ (at _ (InrE _ T e)) s k k' n l h = alone σ e side_shape s k k' n l side_narrow h
  narrow_rules d σ (at _ (CaseE e x a y b)) s k k' n l h =
      part σ e (λ c k. next (W (Also x (side_shape c) σ) a k) (λ p k. next (W (Also y (side_shape c) σ) b k) (λ q. yields (wider p q)))) s k k' n l
      (λ c j m i. branches (Also x (side_shape c) σ) (Also y (side_shape c) σ) a b s j k' (narrow_also (side_narrow c m) n) (narrow_also (side_narrow c m) n) i) h
  narrow_rules d σ (at _ (IfE e a b)) s k k' n l h =
      part σ e (λ c k. next (W σ a k) (λ p k. next (W σ b k) (λ q. yields (wider p q)))) s k k' n l (λ c j m i. branches σ σ a b s j k' n n i) h
  narrow_rules d σ (at _ (FunE x _ T e)) s k k' n l h = yielded (FunS x e σ) s k k' (narrow_fun n) l h
  narrow_rules d σ (at _ (FnE x _ T e)) s k k' n l h = yielded (FnS x e σ) s k k' (narrow_fn n) l h
  narrow_rules d σ (at _ (AppE f a)) s k k' n l h = parts σ σ f a (enters W) s k k' n n l (λ c u j. entered c u s j k') h
  narrow_rules d σ (at _ (BangE r e)) s k k' n l h = alone σ e bang_shape s k k' n l bang_narrow h
  narrow_rules d σ (at _ (LetBangE x e b)) s k k' n l h = bound σ e b (λ p. Also x (in_bang p) σ) s k k' n l (λ p m. narrow_also (held_narrow p m) n) h
  narrow_rules d σ (at _ (LetE x e b)) s k k' n l h = bound σ e b (λ p. Also x p σ) s k k' n l (λ p m. narrow_also m n) h
  narrow_rules d σ (at _ (PlusE a b)) s k k' n l h = pair σ a b (λ p q. Wide 0 0 0) s k k' n l (λ p q x y. none) h
  narrow_rules d σ (at _ (MinusE a b)) s k k' n l h = pair σ a b (λ p q. Wide 0 0 0) s k k' n l (λ p q x y. none) h
  narrow_rules d σ (at _ (TimesE m e)) s k k' n l h = alone σ e (λ p. Wide 0 0 0) s k k' n l (λ p x. none) h
  narrow_rules d σ (at _ (LeE a b)) s k k' n l h = pair σ a b (λ p q. Wide 0 0 0) s k k' n l (λ p q x y. none) h
  narrow_rules d σ (at _ (EqE a b)) s k k' n l h = pair σ a b (λ p q. Wide 0 0 0) s k k' n l (λ p q x y. none) h
  narrow_rules d σ (at _ (ClipE lo hi e)) s k k' n l h = alone σ e (λ p. Wide 0 0 0) s k k' n l (λ p x. none) h
  narrow_rules d σ (at _ (LeastE e)) s k k' n l h = alone σ e (λ p. Wide 0 0 0) s k k' n l (λ p x. none) h
  narrow_rules d σ (at _ (GreatestE e)) s k k' n l h = alone σ e (λ p. Wide 0 0 0) s k k' n l (λ p x. none) h
  narrow_rules d σ (at _ (SizeE e)) s k k' n l h = counted d σ e s k k' n l h
  narrow_rules d σ (at _ (SumE lo hi e)) s k k' n l h = counted d σ e s k k' n l h
  narrow_rules d σ (at u (UnionE a b)) s k k' n l h = parts σ σ a b (union u) s k k' n n l (λ p q j x y. united u p q s j k') h
  narrow_rules d σ (at _ (MapE f b)) s k k' n l h = over_stays d σ f b s k k' n l h
  narrow_rules d σ (at _ (FilterE f b)) s k k' n l h = over_stays d σ f b s k k' n l h
  narrow_rules d σ (at _ (SplitE f b)) s k k' n l h = over_stays d σ f b s k k' n l h

pub narrow_walk : (left here : ℕ) → NarrowWalk (walk left here)
narrow_walk zero here σ t s k k' n l h = cc
narrow_walk (suc left) here σ t s k k' n l h =
    narrow_rules (walk left (suc here)) (narrow_walk left (suc here)) (suc here) σ t s (turn here k) k' n l (turn_is (nat_le turn_limit k.turns) _ _ s k' h).1
