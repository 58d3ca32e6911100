-- A term's walk is its outline's, but for spans.
use Rattle.std.proofs.Common.{ap, refl, ◌∙◌}
use Rattle.std.specs.Prelude.{Bool, [], ◌∷◌, cond, false, max, nat_le, suc, true, zero, ℕ, ◌+◌, ◌-◌, ◌*◌, bytes_eq, ◌≡◌}
use Rattle.fz_ast.specs.Bare.{nowhere}
use Rattle.fz_ast.specs.Signature.{Signature}
use Rattle.fz_ast.specs.Terms.{AppE, BangE, CaseE, ClipE, EqE, FilterE, FnE, FstE, FunE, GreatestE, IfE, InlE, InrE, LeE, LeastE, LetBangE, LetE, LetPairE, MapE, MinusE, Name, NumE, PairE, PlusE, SizeE, SndE, SplitE, SumE, Term, TextE, TimesE, UnionE, UnitE, VarE, WithE, at, span_of}
use Rattle.fz_ast.specs.declared.span.Span.{Span}
use Rattle.shape_law.specs.Shapes.{Also, BangS, FnS, FunS, Nothing, PairS, Shape, Shapes, Wide, bang_shape, first_half, in_bang, height_of, pair_shape, second_half, shape_of, side_shape, walks_of, width_of, wider, table_shapes}
use Rattle.shape_law.specs.Walk.{WalkOutcome, Shaped, Stops, Tally, TooLong, TooManyWalks, TooWide, Walk, after_part, after_parts, as_before, bag, counted_from, enters, next, over, over_bag, noted, turn, turn_limit, union, walk, walk_limit, walk_rules, walks_at, weighed, width_limit, yields}
use Rattle.release_laws.specs.Outline.{outline}
use Rattle.release_laws.specs.Outcomes.{outline_outcome, outline_shape, outline_shapes}

-- of shapes

width_kept : (r : Shape) → width_of (outline_shape r) ≡ width_of r
width_kept (Wide w i h) = refl
width_kept (PairS a b) = refl
width_kept (BangS a) = refl
width_kept (FunS x e σ) = refl
width_kept (FnS x e σ) = refl

walks_kept : (r : Shape) → walks_of (outline_shape r) ≡ walks_of r
walks_kept (Wide w i h) = refl
walks_kept (PairS a b) = refl
walks_kept (BangS a) = refl
walks_kept (FunS x e σ) = refl
walks_kept (FnS x e σ) = refl

height_kept : (r : Shape) → height_of (outline_shape r) ≡ height_of r
height_kept (Wide w i h) = refl
height_kept (PairS a b) = refl
height_kept (BangS a) = refl
height_kept (FunS x e σ) = refl
height_kept (FnS x e σ) = refl

pair_kept : (p q : Shape) → outline_shape (pair_shape p q) ≡ pair_shape (outline_shape p) (outline_shape q)
pair_kept (Wide w i h) (Wide v j g) = refl
pair_kept (Wide w i h) (PairS a b) = refl
pair_kept (Wide w i h) (BangS a) = refl
pair_kept (Wide w i h) (FunS x e σ) = refl
pair_kept (Wide w i h) (FnS x e σ) = refl
pair_kept (PairS a b) q = refl
pair_kept (BangS a) q = refl
pair_kept (FunS x e σ) q = refl
pair_kept (FnS x e σ) q = refl

first_kept : (p : Shape) → outline_shape (first_half p) ≡ first_half (outline_shape p)
first_kept (Wide w i h) = refl
first_kept (PairS a b) = refl
first_kept (BangS a) = refl
first_kept (FunS x e σ) = refl
first_kept (FnS x e σ) = refl

second_kept : (p : Shape) → outline_shape (second_half p) ≡ second_half (outline_shape p)
second_kept (Wide w i h) = refl
second_kept (PairS a b) = refl
second_kept (BangS a) = refl
second_kept (FunS x e σ) = refl
second_kept (FnS x e σ) = refl

bang_kept : (p : Shape) → outline_shape (bang_shape p) ≡ bang_shape (outline_shape p)
bang_kept (Wide w i h) = refl
bang_kept (PairS a b) = refl
bang_kept (BangS a) = refl
bang_kept (FunS x e σ) = refl
bang_kept (FnS x e σ) = refl

in_bang_kept : (p : Shape) → outline_shape (in_bang p) ≡ in_bang (outline_shape p)
in_bang_kept (Wide w i h) = refl
in_bang_kept (PairS a b) = refl
in_bang_kept (BangS a) = refl
in_bang_kept (FunS x e σ) = refl
in_bang_kept (FnS x e σ) = refl

side_kept : (p : Shape) → outline_shape (side_shape p) ≡ side_shape (outline_shape p)
side_kept p = rw (width_kept p, walks_kept p, height_kept p) refl

wider_kept : (p q : Shape) → outline_shape (wider p q) ≡ wider (outline_shape p) (outline_shape q)
wider_kept p q = rw (width_kept p, walks_kept p, height_kept p, width_kept q, walks_kept q, height_kept q) refl

found_kept : (σ : Shapes) (x : Name) → outline_shape (shape_of σ x) ≡ shape_of (outline_shapes σ) x
found_kept Nothing x = refl
found_kept (Also y s σ) x = go (found_kept σ x) (bytes_eq y x)
  where
    go : outline_shape (shape_of σ x) ≡ shape_of (outline_shapes σ) x → (b : Bool) → outline_shape (cond b s (shape_of σ x)) ≡ cond b (outline_shape s) (shape_of (outline_shapes σ) x)
    go h true = refl
    go h false = h

-- of outcomes

yields_kept : (r s : Shape) (k : Tally) → outline_shape r ≡ s → outline_outcome (yields r k) ≡ yields s k
yields_kept r s k e = rw (← e, width_kept r) refl

next_kept : (o p : WalkOutcome) (f g : Shape → Tally → WalkOutcome) → outline_outcome o ≡ p → ((r : Shape) (k : Tally) → outline_outcome (f r k) ≡ g (outline_shape r) k)
    → outline_outcome (next o f) ≡ next p g
next_kept (Shaped r k) p f g e h = h r k ∙ ap (λ o. next o g) e
next_kept (Stops x) p f g e h = ap (λ o. next o g) e
next_kept TooManyWalks p f g e h = ap (λ o. next o g) e

walks_at_kept : (d : ℕ) (p : Shape) (k : Tally) → outline_outcome (walks_at d p k) ≡ walks_at d (outline_shape p) k
walks_at_kept d p k = rw (height_kept p, walks_kept p) refl

weighed_kept : (w i h : ℕ) (k : Tally) → outline_outcome (weighed w i h k) ≡ weighed w i h k
weighed_kept w i h k = go (nat_le walk_limit i)
  where
    go : (b : Bool) → outline_outcome (cond b (yields (Wide w 0 0) (noted k)) (yields (Wide w i h) k)) ≡ cond b (yields (Wide w 0 0) (noted k)) (yields (Wide w i h) k)
    go true = refl
    go false = refl

bag_kept : (d : ℕ) (q : Shape) (before k : Tally) → outline_outcome (bag d q before k) ≡ bag d (outline_shape q) before k
bag_kept d q before k =
    rw (width_kept q, walks_kept q, height_kept q) (weighed_kept (width_of q) (width_of q * k.walks + walks_of q) (max (height_of q) (k.reach - d)) (as_before before k))

unions_kept : (s : Span) (p q : Shape) (k : Tally) → outline_outcome (union s p q k) ≡ union nowhere (outline_shape p) (outline_shape q) k
unions_kept s p q k =
    rw (width_kept p, walks_kept p, height_kept p, width_kept q, walks_kept q, height_kept q) (go (nat_le (width_of p + width_of q) width_limit))
  where
    w : ℕ
    w = width_of p + width_of q

    i : ℕ
    i = walks_of p + walks_of q

    h : ℕ
    h = max (height_of p) (height_of q)

    go : (b : Bool) → outline_outcome (cond b (weighed w i h k) (Stops (TooWide s w))) ≡ cond b (weighed w i h k) (Stops (TooWide nowhere w))
    go true = weighed_kept w i h k
    go false = refl

-- a way to visit terms is that of their outlines
pub record Visits (W V : Walk) : Type 0 where
  pub does : (σ : Shapes) (t : Term) (k : Tally) → outline_outcome (W σ t k) ≡ V (outline_shapes σ) (outline t) k

module _ (W V : Walk) (visits : Visits W V) where
  one : (σ : Shapes) (e : Term) (k : Tally) (f g : Shape → Tally → WalkOutcome) → ((r : Shape) (k : Tally) → outline_outcome (f r k) ≡ g (outline_shape r) k)
      → outline_outcome (after_part W σ e k f) ≡ after_part V (outline_shapes σ) (outline e) k g
  one σ e k f g h = next_kept (W σ e k) (V (outline_shapes σ) (outline e) k) f g (visits.does σ e k) h

  two : (σ : Shapes) (a b : Term) (k : Tally) (f g : Shape → Shape → Tally → WalkOutcome) → ((p q : Shape) (k : Tally) → outline_outcome (f p q k) ≡ g (outline_shape p) (outline_shape q) k)
      → outline_outcome (after_parts W σ a b k f) ≡ after_parts V (outline_shapes σ) (outline a) (outline b) k g
  two σ a b k f g h = one σ a k _ _ (λ p k. one σ b k (f p) (g (outline_shape p)) (h p))

  makes : (σ : Shapes) (e : Term) (k : Tally) (f : Shape → Shape) → ((p : Shape) → outline_shape (f p) ≡ f (outline_shape p))
      → outline_outcome (after_part W σ e k (λ p. yields (f p))) ≡ after_part V (outline_shapes σ) (outline e) k (λ p. yields (f p))
  makes σ e k f h = one σ e k _ _ (λ p k. yields_kept (f p) (f (outline_shape p)) k (h p))

  joins : (σ : Shapes) (a b : Term) (k : Tally) (f : Shape → Shape → Shape) → ((p q : Shape) → outline_shape (f p q) ≡ f (outline_shape p) (outline_shape q))
      → outline_outcome (after_parts W σ a b k (λ p q. yields (f p q))) ≡ after_parts V (outline_shapes σ) (outline a) (outline b) k (λ p q. yields (f p q))
  joins σ a b k f h = two σ a b k _ _ (λ p q k. yields_kept (f p q) _ k (h p q))

  enters_kept : (c u : Shape) (k : Tally) → outline_outcome (enters W c u k) ≡ enters V (outline_shape c) (outline_shape u) k
  enters_kept (Wide w i h) u k = refl
  enters_kept (PairS a b) u k = refl
  enters_kept (BangS a) u k = refl
  enters_kept (FunS x e σ) u k = visits.does (Also x u σ) e k
  enters_kept (FnS x e σ) u k = visits.does (Also x (in_bang u) σ) e k ∙ ap (λ p. V (Also x p (outline_shapes σ)) (outline e) k) (in_bang_kept u)

  over_kept : (d : ℕ) (c q : Shape) (k : Tally) → outline_outcome (over d W c q k) ≡ over d V (outline_shape c) (outline_shape q) k
  over_kept d c q k = next_kept _ _ _ _ (enters_kept c (Wide 0 0 0) (counted_from d k)) (λ r j. bag_kept d q k j)

  bags : (d : ℕ) (σ : Shapes) (f b : Term) (k : Tally) → outline_outcome (over_bag d W σ f b k) ≡ over_bag d V (outline_shapes σ) (outline f) (outline b) k
  bags d σ f b k = two σ f b k _ _ (λ c q j. over_kept d c q j)

  rules_kept : (d : ℕ) (σ : Shapes) (t : Term) (k : Tally) → outline_outcome (walk_rules d W σ t k) ≡ walk_rules d V (outline_shapes σ) (outline t) k
  rules_kept d σ (at s (VarE x)) k = yields_kept (shape_of σ x) _ k (found_kept σ x)
  rules_kept d σ (at s (NumE z)) k = refl
  rules_kept d σ (at s (TextE t)) k = refl
  rules_kept d σ (at s UnitE) k = refl
  rules_kept d σ (at s (PairE a b)) k = joins σ a b k pair_shape pair_kept
  rules_kept d σ (at s (WithE a b)) k = joins σ a b k pair_shape pair_kept
  rules_kept d σ (at s (FstE e)) k = makes σ e k first_half first_kept
  rules_kept d σ (at s (SndE e)) k = makes σ e k second_half second_kept
  rules_kept d σ (at s (LetPairE x y e b)) k =
      one σ e k _ _ (λ p j. visits.does (Also y (second_half p) (Also x (first_half p) σ)) b j
      ∙ ap (λ z. V (Also y z (Also x (outline_shape (first_half p)) (outline_shapes σ))) (outline b) j) (second_kept p)
      ∙ ap (λ z. V (Also y (second_half (outline_shape p)) (Also x z (outline_shapes σ))) (outline b) j) (first_kept p))
  rules_kept d σ (at s (InlE u t e)) k = makes σ e k side_shape side_kept
  rules_kept d σ (at s (InrE u t e)) k = makes σ e k side_shape side_kept
  rules_kept d σ (at s (CaseE e x a y b)) k =
      one σ e k _ _ (λ c j.
      next_kept _ _ _ _ (visits.does (Also x (side_shape c) σ) a j ∙ ap (λ z. V (Also x z (outline_shapes σ)) (outline a) j) (side_kept c)) (λ p i.
      next_kept _ _ _ _ (visits.does (Also y (side_shape c) σ) b i ∙ ap (λ z. V (Also y z (outline_shapes σ)) (outline b) i) (side_kept c)) (λ q h.
      yields_kept (wider p q) _ h (wider_kept p q))))
  rules_kept d σ (at s (IfE e a b)) k = one σ e k _ _ (λ c j. joins σ a b j wider wider_kept)
  rules_kept d σ (at s (FunE x u t e)) k = refl
  rules_kept d σ (at s (FnE x u t e)) k = refl
  rules_kept d σ (at s (AppE f a)) k = two σ f a k _ _ enters_kept
  rules_kept d σ (at s (BangE r e)) k = makes σ e k bang_shape bang_kept
  rules_kept d σ (at s (LetBangE x e b)) k = one σ e k _ _ (λ p j. visits.does (Also x (in_bang p) σ) b j ∙ ap (λ z. V (Also x z (outline_shapes σ)) (outline b) j) (in_bang_kept p))
  rules_kept d σ (at s (LetE x e b)) k = one σ e k _ _ (λ p j. visits.does (Also x p σ) b j)
  rules_kept d σ (at s (PlusE a b)) k = joins σ a b k (λ p q. Wide 0 0 0) (λ p q. refl)
  rules_kept d σ (at s (MinusE a b)) k = joins σ a b k (λ p q. Wide 0 0 0) (λ p q. refl)
  rules_kept d σ (at s (TimesE n e)) k = makes σ e k (λ p. Wide 0 0 0) (λ p. refl)
  rules_kept d σ (at s (LeE a b)) k = joins σ a b k (λ p q. Wide 0 0 0) (λ p q. refl)
  rules_kept d σ (at s (EqE a b)) k = joins σ a b k (λ p q. Wide 0 0 0) (λ p q. refl)
  rules_kept d σ (at s (ClipE lo hi e)) k = makes σ e k (λ p. Wide 0 0 0) (λ p. refl)
  rules_kept d σ (at s (LeastE e)) k = makes σ e k (λ p. Wide 0 0 0) (λ p. refl)
  rules_kept d σ (at s (GreatestE e)) k = makes σ e k (λ p. Wide 0 0 0) (λ p. refl)
  rules_kept d σ (at s (SizeE e)) k = one σ e k _ _ (walks_at_kept d)
  rules_kept d σ (at s (SumE lo hi e)) k = one σ e k _ _ (walks_at_kept d)
  rules_kept d σ (at s (UnionE a b)) k = two σ a b k _ _ (unions_kept s)
  rules_kept d σ (at s (MapE f b)) k = bags d σ f b k
  rules_kept d σ (at s (FilterE f b)) k = bags d σ f b k
  rules_kept d σ (at s (SplitE f b)) k = bags d σ f b k

span_gone : (t : Term) → span_of (outline t) ≡ nowhere
span_gone (at s (VarE x)) = refl
span_gone (at s (NumE z)) = refl
span_gone (at s (TextE t)) = refl
span_gone (at s UnitE) = refl
span_gone (at s (PairE a b)) = refl
span_gone (at s (WithE a b)) = refl
span_gone (at s (FstE e)) = refl
span_gone (at s (SndE e)) = refl
span_gone (at s (LetPairE x y e b)) = refl
span_gone (at s (InlE u t e)) = refl
span_gone (at s (InrE u t e)) = refl
span_gone (at s (CaseE e x a y b)) = refl
span_gone (at s (IfE e a b)) = refl
span_gone (at s (FunE x u t e)) = refl
span_gone (at s (FnE x u t e)) = refl
span_gone (at s (AppE f a)) = refl
span_gone (at s (BangE r e)) = refl
span_gone (at s (LetBangE x e b)) = refl
span_gone (at s (LetE x e b)) = refl
span_gone (at s (PlusE a b)) = refl
span_gone (at s (MinusE a b)) = refl
span_gone (at s (TimesE k e)) = refl
span_gone (at s (LeE a b)) = refl
span_gone (at s (EqE a b)) = refl
span_gone (at s (ClipE lo hi e)) = refl
span_gone (at s (LeastE e)) = refl
span_gone (at s (GreatestE e)) = refl
span_gone (at s (SizeE e)) = refl
span_gone (at s (SumE lo hi e)) = refl
span_gone (at s (UnionE a b)) = refl
span_gone (at s (MapE f b)) = refl
span_gone (at s (FilterE f b)) = refl
span_gone (at s (SplitE f b)) = refl

one_turn : (left here : ℕ) → Visits (walk left (suc here)) (walk left (suc here)) → (σ : Shapes) (t : Term) (k : Tally) → outline_outcome (walk (suc left) here σ t k) ≡ walk (suc left) here (outline_shapes σ) (outline t) k
one_turn left here deeper σ t k = go (nat_le turn_limit k.turns)
  where
    go : (b : Bool) → outline_outcome (cond b (Stops (TooLong (span_of t))) (walk_rules (suc here) (walk left (suc here)) σ t (turn here k)))
        ≡ cond b (Stops (TooLong (span_of (outline t)))) (walk_rules (suc here) (walk left (suc here)) (outline_shapes σ) (outline t) (turn here k))
    go true = rw (span_gone t) refl
    go false = rules_kept (walk left (suc here)) (walk left (suc here)) deeper (suc here) σ t (turn here k)

pub walk_kept : (left here : ℕ) → Visits (walk left here) (walk left here)
walk_kept zero here = record { does = λ σ t k. rw (span_gone t) refl }
walk_kept (suc left) here = record { does = one_turn left here (walk_kept left (suc here)) }

pub tables_kept : (ts : Signature) → outline_shapes (table_shapes ts) ≡ table_shapes ts
tables_kept [] = refl
tables_kept (t ∷ ts) = ap (Also t.name (Wide 1 0 0)) (tables_kept ts)
