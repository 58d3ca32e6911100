-- A walk that stops nowhere gives a shape by a walk as high as the deepest visit that it tells.
use Rattle.std.proofs.Common.{arith, refl, subst}
use Rattle.std.proofs.lemmas.Bool.{leb-false}
use Rattle.std.specs.Prelude.{Bool, cond, false, max, nat_le, suc, true, zero, ℕ, ◌+◌, ◌*◌, ◌-◌, ◌≡◌, ◌≤◌}
use Rattle.fz_ast.specs.Terms.{AppE, BangE, CaseE, ClipE, EqE, FilterE, FnE, FstE, FunE, GreatestE, IfE, InlE, InrE, LeE, LeastE, LetBangE, LetE, LetPairE, MapE, MinusE, NumE, PairE, PlusE, SizeE, SndE, SplitE, SumE, Term, TextE, TimesE, UnionE, UnitE, VarE, WithE, at}
use Rattle.fz_ast.specs.declared.span.Span.{Span}
use Rattle.shape_law.specs.ShapeIn.{Enters, One, OverBag, OverBoth, ShapeIn, ShapeRules, Shaping, Two}
use Rattle.shape_law.specs.Shapes.{Also, BangS, FnS, FunS, PairS, Shape, Shapes, Wide, bang_shape, first_half, in_bang, height_of, pair_shape, second_half, shape_of, side_shape, walks_of, width_of, wider}
use Rattle.shape_law.specs.Walk.{WalkOutcome, ShapeFault, Shaped, Stops, Tally, TooManyWalks, TooWide, Walk, counted_from, as_before, bag, enters, yields, next, noted, after_part, over, over_bag, reach_limit, turn, turn_limit, after_parts, union, walk, walk_limit, walk_rules, walked, walks_at, weighed, width_limit}

-- one tally after another, where no visit is deeper than D
pub record Later (D : ℕ) (k k' : Tally) : Type 0 where
  pub deeper : k.depth ≤ k'.depth
  pub shallow : k'.depth ≤ max k.depth D
  pub short : k'.turns ≤ max k.turns turn_limit

-- P holds at each m that no visit is deeper than
pub record Kept (D : ℕ) (P : ℕ → Type 0) (k k' : Tally) : Type 0 where
  pub later : Later D k k'
  pub holds : (m : ℕ) → k'.depth ≤ m → P m

pub follows : {D : ℕ} {j k l : Tally} → Later D j k → Later D k l → Later D j l
follows a b = record { deeper = omega (arith, a.deeper, b.deeper); shallow = omega (arith, a.shallow, b.shallow); short = omega (arith, a.short, b.short) }

up_to : {a b c : ℕ} → a ≤ b → b ≤ c → a ≤ c
up_to h k = omega arith

-- what an outcome that is a shape tells of its parts

yields_is : (D : ℕ) (r s : Shape) (k k' : Tally) → yields r k ≡ Shaped s k' → (s ≡ r) × Later D k k'
yields_is D r s k k' h =
    let e : s ≡ r = cc h in
    let t : k'.turns ≡ k.turns = cc h in
    let d : k'.depth ≡ k.depth = cc h in
    (e, record { deeper = omega (arith, d); shallow = omega (arith, d); short = omega (arith, t) })

pub next_is : (o : WalkOutcome) (f : Shape → Tally → WalkOutcome) (s : Shape) (k' : Tally) → next o f ≡ Shaped s k' → (p : Shape) × (j : Tally) × (o ≡ Shaped p j) × (f p j ≡ Shaped s k')
next_is (Shaped p j) f s k' h = (p, j, refl, h)
next_is (Stops x) f s k' h = cc
next_is TooManyWalks f s k' h = cc

-- how many walks a tally has, and how deep they are, is no matter
walks_before : {D : ℕ} {k' : Tally} (j k : Tally) → j.depth ≡ k.depth → j.turns ≡ k.turns → Later D j k' → Later D k k'
walks_before j k d t l =
    let a = l.deeper in let b = l.shallow in let c = l.short in
    record { deeper = omega (arith, a, d); shallow = omega (arith, b, d); short = omega (arith, c, t) }

walks_is : (D d : ℕ) (p s : Shape) (k k' : Tally) → walks_at d p k ≡ Shaped s k' → (s ≡ Wide 0 0 0) × Later D k k'
walks_is D d p s k k' h = go (nat_le (d + height_of p) reach_limit) h
  where
    go : (b : Bool) → yields (Wide 0 0 0) (cond b (walked d p k) (noted k)) ≡ Shaped s k' → (s ≡ Wide 0 0 0) × Later D k k'
    go true h = let g = yields_is D (Wide 0 0 0) s (walked d p k) k' h in (g.0, walks_before (walked d p k) k refl refl g.1)
    go false h = let g = yields_is D (Wide 0 0 0) s (noted k) k' h in (g.0, walks_before (noted k) k refl refl g.1)

-- a bag of this width, whatever its functions walk
abbrev IsBag : ℕ → Shape → Type 0
IsBag w s = (i h : ℕ) × (s ≡ Wide w i h)

weighed_is : (D w i v : ℕ) (s : Shape) (k k' : Tally) → weighed w i v k ≡ Shaped s k' → IsBag w s × Later D k k'
weighed_is D w i v s k k' h = go (nat_le walk_limit i) h
  where
    go : (b : Bool) → cond b (yields (Wide w 0 0) (noted k)) (yields (Wide w i v) k) ≡ Shaped s k' → IsBag w s × Later D k k'
    go true h = let g = yields_is D (Wide w 0 0) s (noted k) k' h in ((0, 0, g.0), walks_before (noted k) k refl refl g.1)
    go false h = let g = yields_is D (Wide w i v) s k k' h in ((i, v, g.0), g.1)

union_is : (D : ℕ) (u : Span) (p q s : Shape) (k k' : Tally) → union u p q k ≡ Shaped s k' → IsBag (width_of p + width_of q) s × Later D k k'
union_is D u p q s k k' h = go (nat_le (width_of p + width_of q) width_limit) h
  where
    go : (b : Bool) → cond b (weighed (width_of p + width_of q) (walks_of p + walks_of q) (max (height_of p) (height_of q)) k) (Stops (TooWide u (width_of p + width_of q))) ≡ Shaped s k'
        → IsBag (width_of p + width_of q) s × Later D k k'
    go true h = weighed_is D (width_of p + width_of q) (walks_of p + walks_of q) (max (height_of p) (height_of q)) s k k' h
    go false h = cc

bag_is : (D d : ℕ) (q s : Shape) (before k k' : Tally) → bag d q before k ≡ Shaped s k' → IsBag (width_of q) s × Later D k k'
bag_is D d q s before k k' h =
    let g = weighed_is D (width_of q) (width_of q * k.walks + walks_of q) (max (height_of q) (k.reach - d)) s (as_before before k) k' h in
    (g.0, walks_before (as_before before k) k refl refl g.1)

-- W gives shapes by R
abbrev pub Keeps : ℕ → Walk → (ℕ → Shaping) → Type 0
Keeps D W R = (σ : Shapes) (t : Term) (s : Shape) (k k' : Tally) → W σ t k ≡ Shaped s k' → Kept D (λ m. R m σ t s) k k'

module _ (D : ℕ) (W : Walk) (R : ℕ → Shaping) (keeps : Keeps D W R) where
  leaf : (r s : Shape) (k k' : Tally) → yields r k ≡ Shaped s k' → Kept D (λ m. s ≡ r) k k'
  leaf r s k k' h = let g = yields_is D r s k k' h in record { later = g.1; holds = λ m l. g.0 }

  alone : (σ : Shapes) (e : Term) (f : Shape → Shape) (s : Shape) (k k' : Tally) → after_part W σ e k (λ p. yields (f p)) ≡ Shaped s k' → Kept D (λ m. One (R m) σ e f s) k k'
  alone σ e f s k k' h =
      let i = next_is (W σ e k) (λ p. yields (f p)) s k' h in
      let a = keeps σ e i.0 k i.1 i.2 in
      let g = yields_is D (f i.0) s i.1 k' i.3 in
      record { later = follows a.later g.1; holds = λ m l. (i.0, a.holds m (up_to g.1.deeper l), g.0) }

  -- two parts, and then what f makes of them
  both : (σ : Shapes) (a b : Term) (f : Shape → Shape → Tally → WalkOutcome) (P : Shape → Shape → ℕ → Type 0) (s : Shape) (k k' : Tally)
      → ((p q : Shape) (j : Tally) → f p q j ≡ Shaped s k' → Kept D (P p q) j k') → after_parts W σ a b k f ≡ Shaped s k' → Kept D (λ m. (p q : Shape) × R m σ a p × R m σ b q × P p q m) k k'
  both σ a b f P s k k' then h =
      let i = next_is (W σ a k) (λ p k. next (W σ b k) (f p)) s k' h in
      let x = keeps σ a i.0 k i.1 i.2 in
      let j = next_is (W σ b i.1) (f i.0) s k' i.3 in
      let y = keeps σ b j.0 i.1 j.1 j.2 in
      let z = then i.0 j.0 j.1 j.3 in
      let l = follows y.later z.later in
      record { later = follows x.later l; holds = λ m n. (i.0, j.0, x.holds m (up_to l.deeper n), y.holds m (up_to z.later.deeper n), z.holds m n) }

  pair : (σ : Shapes) (a b : Term) (f : Shape → Shape → Shape) (s : Shape) (k k' : Tally) → after_parts W σ a b k (λ p q. yields (f p q)) ≡ Shaped s k' → Kept D (λ m. Two (R m) σ a b f s) k k'
  pair σ a b f s k k' h = both σ a b (λ p q. yields (f p q)) (λ p q m. s ≡ f p q) s k k' (λ p q j. leaf (f p q) s j k') h

  -- a part, and a body in which its shape is bound
  bound : (σ : Shapes) (e b : Term) (τ : Shape → Shapes) (s : Shape) (k k' : Tally) → after_part W σ e k (λ p. W (τ p) b) ≡ Shaped s k' → Kept D (λ m. (p : Shape) × R m σ e p × R m (τ p) b s) k k'
  bound σ e b τ s k k' h =
      let i = next_is (W σ e k) (λ p. W (τ p) b) s k' h in
      let x = keeps σ e i.0 k i.1 i.2 in
      let y = keeps (τ i.0) b s i.1 k' i.3 in
      record { later = follows x.later y.later; holds = λ m n. (i.0, x.holds m (up_to y.later.deeper n), y.holds m n) }

  -- a condition, and two branches in which its shape may be bound
  branches : (σ : Shapes) (e a b : Term) (τ υ : Shape → Shapes) (s : Shape) (k k' : Tally)
      → after_part W σ e k (λ c k. next (W (τ c) a k) (λ p k. next (W (υ c) b k) (λ q. yields (wider p q)))) ≡ Shaped s k'
      → Kept D (λ m. (c p q : Shape) × R m σ e c × R m (τ c) a p × R m (υ c) b q × (s ≡ wider p q)) k k'
  branches σ e a b τ υ s k k' h =
      let i = next_is (W σ e k) (λ c k. next (W (τ c) a k) (λ p k. next (W (υ c) b k) (λ q. yields (wider p q)))) s k' h in
      let x = keeps σ e i.0 k i.1 i.2 in
      let j = next_is (W (τ i.0) a i.1) (λ p k. next (W (υ i.0) b k) (λ q. yields (wider p q))) s k' i.3 in
      let y = keeps (τ i.0) a j.0 i.1 j.1 j.2 in
      let l = next_is (W (υ i.0) b j.1) (λ q. yields (wider j.0 q)) s k' j.3 in
      let z = keeps (υ i.0) b l.0 j.1 l.1 l.2 in
      let g = yields_is D (wider j.0 l.0) s l.1 k' l.3 in
      let zg = follows z.later g.1 in
      let yzg = follows y.later zg in
      record { later = follows x.later yzg; holds = λ m n. (i.0, j.0, l.0, x.holds m (up_to yzg.deeper n), y.holds m (up_to zg.deeper n), z.holds m (up_to g.1.deeper n), g.0) }

  pub entered : (c u s : Shape) (k k' : Tally) → enters W c u k ≡ Shaped s k' → Kept D (λ m. Enters (R m) c u s) k k'
  entered (FunS x e σ) u s k k' h = keeps (Also x u σ) e s k k' h
  entered (FnS x e σ) u s k k' h = keeps (Also x (in_bang u) σ) e s k k' h
  entered (Wide w i d) u s k k' h = leaf (Wide 0 0 0) s k k' h
  entered (PairS a b) u s k k' h = leaf (Wide 0 0 0) s k k' h
  entered (BangS a) u s k k' h = leaf (Wide 0 0 0) s k k' h

  -- a bag's size or sum
  counted : (d : ℕ) (σ : Shapes) (e : Term) (s : Shape) (k k' : Tally) → after_part W σ e k (walks_at d) ≡ Shaped s k' → Kept D (λ m. One (R m) σ e (λ p. Wide 0 0 0) s) k k'
  counted d σ e s k k' h =
      let i = next_is (W σ e k) (walks_at d) s k' h in
      let a = keeps σ e i.0 k i.1 i.2 in
      let g = walks_is D d i.0 s i.1 k' i.3 in
      record { later = follows a.later g.1; holds = λ m n. (i.0, a.holds m (up_to g.1.deeper n), g.0) }

  over_is : (d : ℕ) (σ : Shapes) (f b : Term) (s : Shape) (k k' : Tally) → over_bag d W σ f b k ≡ Shaped s k' → Kept D (λ m. OverBag (R m) σ f b s) k k'
  over_is d σ f b s k k' h =
      let r = both σ f b (over d W) Over s k k' inside h in
      record { later = r.later; holds = λ m n. let o = r.holds m n in (o.0, o.1, o.2, o.3, (o.4.0, o.4.1), o.4.2, o.4.3, o.4.4) }
    where
      Over : Shape → Shape → ℕ → Type 0
      Over = λ c q m. (r : Shape) × Enters (R m) c (Wide 0 0 0) r × (i h : ℕ) × (s ≡ Wide (width_of q) i h)

      inside : (c q : Shape) (j : Tally) → over d W c q j ≡ Shaped s k' → Kept D (Over c q) j k'
      inside c q j h =
          let i = next_is (enters W c (Wide 0 0 0) (counted_from d j)) (λ r. bag d q j) s k' h in
          let x = entered c (Wide 0 0 0) i.0 (counted_from d j) i.1 i.2 in
          let g = bag_is D d q s j i.1 k' i.3 in
          record { later = follows (walks_before (counted_from d j) j refl refl x.later) g.1; holds = λ m n. (i.0, x.holds m (up_to g.1.deeper n), g.0.0, g.0.1, g.0.2) }

  over_both : (u : Span) (σ : Shapes) (a b : Term) (s : Shape) (k k' : Tally) → after_parts W σ a b k (union u) ≡ Shaped s k' → Kept D (λ m. OverBoth (R m) σ a b s) k k'
  over_both u σ a b s k k' h =
      let r = both σ a b (union u) Joined s k k' (λ p q j h. let g = union_is D u p q s j k' h in record { later = g.1; holds = λ m l. g.0 }) h in
      record { later = r.later; holds = λ m n. let o = r.holds m n in (o.0, o.1, o.2, o.3, o.4.0, o.4.1, o.4.2) }
    where
      Joined : Shape → Shape → ℕ → Type 0
      Joined = λ p q m. (i h : ℕ) × (s ≡ Wide (width_of p + width_of q) i h)

  rules_keep : (d : ℕ) (σ : Shapes) (t : Term) (s : Shape) (k k' : Tally) → walk_rules d W σ t k ≡ Shaped s k' → Kept D (λ m. ShapeRules (R m) σ t s) k k'
  rules_keep d σ (at _ (VarE x)) s k k' h = leaf (shape_of σ x) s k k' h
  rules_keep d σ (at _ (NumE z)) s k k' h = leaf (Wide 0 0 0) s k k' h
  rules_keep d σ (at _ (TextE t)) s k k' h = leaf (Wide 0 0 0) s k k' h
  rules_keep d σ (at _ UnitE) s k k' h = leaf (Wide 0 0 0) s k k' h
  rules_keep d σ (at _ (PairE a b)) s k k' h = pair σ a b pair_shape s k k' h
  rules_keep d σ (at _ (WithE a b)) s k k' h = pair σ a b pair_shape s k k' h
  rules_keep d σ (at _ (FstE e)) s k k' h = alone σ e first_half s k k' h
  rules_keep d σ (at _ (SndE e)) s k k' h = alone σ e second_half s k k' h
  rules_keep d σ (at _ (LetPairE x y e b)) s k k' h = bound σ e b (λ p. Also y (second_half p) (Also x (first_half p) σ)) s k k' h
  rules_keep d σ (at _ (InlE _ T e)) s k k' h = alone σ e side_shape s k k' h
  rules_keep d σ (at _ (InrE _ T e)) s k k' h = alone σ e side_shape s k k' h
  rules_keep d σ (at _ (CaseE e x a y b)) s k k' h = branches σ e a b (λ c. Also x (side_shape c) σ) (λ c. Also y (side_shape c) σ) s k k' h
  rules_keep d σ (at _ (IfE e a b)) s k k' h = branches σ e a b (λ c. σ) (λ c. σ) s k k' h
  rules_keep d σ (at _ (FunE x _ T e)) s k k' h = leaf (FunS x e σ) s k k' h
  rules_keep d σ (at _ (FnE x _ T e)) s k k' h = leaf (FnS x e σ) s k k' h
  rules_keep d σ (at _ (AppE f a)) s k k' h = both σ f a (enters W) (λ c u m. Enters (R m) c u s) s k k' (λ c u j. entered c u s j k') h
  rules_keep d σ (at _ (BangE r e)) s k k' h = alone σ e bang_shape s k k' h
  rules_keep d σ (at _ (LetBangE x e b)) s k k' h = bound σ e b (λ p. Also x (in_bang p) σ) s k k' h
  rules_keep d σ (at _ (LetE x e b)) s k k' h = bound σ e b (λ p. Also x p σ) s k k' h
  rules_keep d σ (at _ (PlusE a b)) s k k' h = pair σ a b (λ p q. Wide 0 0 0) s k k' h
  rules_keep d σ (at _ (MinusE a b)) s k k' h = pair σ a b (λ p q. Wide 0 0 0) s k k' h
  rules_keep d σ (at _ (TimesE n e)) s k k' h = alone σ e (λ p. Wide 0 0 0) s k k' h
  rules_keep d σ (at _ (LeE a b)) s k k' h = pair σ a b (λ p q. Wide 0 0 0) s k k' h
  rules_keep d σ (at _ (EqE a b)) s k k' h = pair σ a b (λ p q. Wide 0 0 0) s k k' h
  rules_keep d σ (at _ (ClipE lo hi e)) s k k' h = alone σ e (λ p. Wide 0 0 0) s k k' h
  rules_keep d σ (at _ (LeastE e)) s k k' h = alone σ e (λ p. Wide 0 0 0) s k k' h
  rules_keep d σ (at _ (GreatestE e)) s k k' h = alone σ e (λ p. Wide 0 0 0) s k k' h
  rules_keep d σ (at _ (SizeE e)) s k k' h = counted d σ e s k k' h
  rules_keep d σ (at _ (SumE lo hi e)) s k k' h = counted d σ e s k k' h
  rules_keep d σ (at u (UnionE a b)) s k k' h = over_both u σ a b s k k' h
  rules_keep d σ (at _ (MapE f b)) s k k' h = over_is d σ f b s k k' h
  rules_keep d σ (at _ (FilterE f b)) s k k' h = over_is d σ f b s k k' h
  rules_keep d σ (at _ (SplitE f b)) s k k' h = over_is d σ f b s k k' h

-- a turn that isn't past the limit
pub turn_is : (b : Bool) (f : ShapeFault) (o : WalkOutcome) (s : Shape) (k' : Tally) → cond b (Stops f) o ≡ Shaped s k' → (b ≡ false) × (o ≡ Shaped s k')
turn_is true f o s k' h = cc
turn_is false f o s k' h = (refl, h)

turn_later : (D here : ℕ) (k : Tally) → here ≤ D → nat_le turn_limit k.turns ≡ false → Later D k (turn here k)
turn_later D here k l h = record { deeper = omega arith; shallow = omega arith; short = let t = leb-false turn_limit k.turns h in omega (arith, t) }

-- the height of a part, and of the term that visits it
one_more : (here m : ℕ) → here ≤ m → suc (suc m - suc here) ≡ suc m - here
one_more here m h = omega arith

seen : (a here b m : ℕ) → max a here ≤ b → b ≤ m → here ≤ m
seen a here b m h k = omega arith

pub walk_keeps : (D left here : ℕ) → here + left ≡ suc D → Keeps D (walk left here) (λ m. ShapeIn (suc m - here))
walk_keeps D zero here e σ t s k k' h = cc
walk_keeps D (suc left) here e σ t s k k' h =
    let i = turn_is (nat_le turn_limit k.turns) _ _ s k' h in
    let a = turn_later D here k (omega arith) i.0 in
    let r = rules_keep D (walk left (suc here)) (λ m. ShapeIn (suc m - suc here)) (walk_keeps D left (suc here) (omega arith)) (suc here) σ t s (turn here k) k' i.1 in
    record {
      later = follows a r.later;
      holds = λ m n. subst (λ c. ShapeIn c σ t s) (one_more here m (seen k.depth here k'.depth m r.later.deeper n)) (r.holds m n);
    }
