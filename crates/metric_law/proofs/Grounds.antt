-- On ground types, near at d is a distance of at most d.
use Rattle.std.proofs.Common.{refl}
use Rattle.std.specs.Prelude.{Bool, List, bytes_eq, cond, false, true, ℕ, ◌≡◌}
use Rattle.fz_frac.proofs.Laws.{greater-least, greater-left, greater-right, none-least, ⊑-refl, ◌⊕◌, ◌⊗◌, ◌⨾◌}
use Rattle.fz_frac.specs.Distance.{Distance, Inf, none, ◌⊑◌}
use Rattle.fz_ast.specs.Types.{ArrowT, BagT, BangT, NumT, SumT, TensorT, TextT, Ty, UnitT, WithT}
use Rattle.metric_values.proofs.Elements.{text_is, text_refl}
use Rattle.metric_values.proofs.Metric.{whole}
use Rattle.metric_values.proofs.Removal.{differ_by, removal_least}
use Rattle.metric_values.specs.Distances.{bag_distance, distance_between}
use Rattle.metric_values.specs.Values.{TextV, Value}
use Rattle.metric_law.proofs.Flatness.{Ground}
use Rattle.metric_law.proofs.Nearness.{near_more}
use Rattle.metric_law.specs.Near.{Near, Typed, far_text, near_bag, near_bang, near_inl, near_inr, near_lr, near_num, near_pair, near_rl, near_text, near_unit, near_with, typed_bag, typed_bang, typed_inl, typed_inr, typed_num, typed_pair, typed_text, typed_unit}

text_le : (s t : List ℕ) (d : Distance) → Inf ⊑ d → cond (bytes_eq s t) none Inf ⊑ d
text_le s t d h = go (bytes_eq s t)
  where
    go : (b : Bool) → cond b none Inf ⊑ d
    go true = none-least d
    go false = h

pub dist_le : (A : Ty) (v w : Value) (d : Distance) → Ground A → Near A v w d → distance_between A v w ⊑ d
dist_le NumT _ _ d g (near_num h) = h
dist_le TextT _ _ d g (near_text {s = s}) = rw (text_refl s) (none-least d)
dist_le TextT _ _ d g (far_text {s = s} {t = t} h) = text_le s t d h
dist_le UnitT _ _ d g near_unit = none-least d
dist_le (TensorT A B) _ _ d g (near_pair c1 c2 p q h) = (dist_le A _ _ c1 g.0 p ⊕ dist_le B _ _ c2 g.1 q) ⨾ h
dist_le (WithT A B) _ _ d g (near_with p q) = greater-least _ _ d (dist_le A _ _ d g.0 p) (dist_le B _ _ d g.1 q)
dist_le (SumT A B) _ _ d g (near_inl p) = dist_le A _ _ d g.0 p
dist_le (SumT A B) _ _ d g (near_inr p) = dist_le B _ _ d g.1 p
dist_le (SumT A B) _ _ d g (near_lr h) = h
dist_le (SumT A B) _ _ d g (near_rl h) = h
dist_le (ArrowT A B) v w d g p = absurd g
dist_le (BangT r A) _ _ d g (near_bang c p h) = (⊑-refl r ⊗ dist_le A _ _ c g p) ⨾ h
dist_le (BagT A) _ _ d g (near_bag {xs = xs} {ys = ys} n p h) = whole (bag_distance xs ys) n (removal_least xs ys n p) ⨾ h

pub near_dist : (A : Ty) (v w : Value) → Ground A → Typed A v → Typed A w → Near A v w (distance_between A v w)
near_dist NumT _ _ g (typed_num _) (typed_num _) = near_num (⊑-refl _)
near_dist TextT _ _ g (typed_text {s = s} _) (typed_text {s = t} _) = go (bytes_eq s t) refl
  where
    go : (b : Bool) → bytes_eq s t ≡ b → Near TextT (TextV s) (TextV t) (cond b none Inf)
    go true e = let f : s ≡ t = text_is s t e in rw f near_text
    go false e = far_text (⊑-refl Inf)
near_dist UnitT _ _ g typed_unit typed_unit = near_unit
near_dist (TensorT A B) _ _ g (typed_pair a b) (typed_pair a' b') = near_pair _ _ (near_dist A _ _ g.0 a a') (near_dist B _ _ g.1 b b') (⊑-refl _)
near_dist (WithT A B) _ _ g (typed_pair {a = u} {b = w} a b) (typed_pair {a = u'} {b = w'} a' b') =
    near_with (near_more A u u' (near_dist A u u' g.0 a a') (greater-left (distance_between A u u') (distance_between B w w'))) (near_more B w w' (near_dist B w w' g.1 b b') (greater-right (distance_between A u u') (distance_between B w w')))
near_dist (SumT A B) _ _ g (typed_inl a) (typed_inl b) = near_inl (near_dist A _ _ g.0 a b)
near_dist (SumT A B) _ _ g (typed_inl a) (typed_inr b) = near_lr (⊑-refl Inf)
near_dist (SumT A B) _ _ g (typed_inr a) (typed_inl b) = near_rl (⊑-refl Inf)
near_dist (SumT A B) _ _ g (typed_inr a) (typed_inr b) = near_inr (near_dist B _ _ g.1 a b)
near_dist (ArrowT A B) v w g a b = absurd g
near_dist (BangT r A) _ _ g (typed_bang a) (typed_bang b) = near_bang _ (near_dist A _ _ g a b) (⊑-refl _)
near_dist (BagT A) _ _ g (typed_bag {xs = xs} a) (typed_bag {xs = ys} b) = near_bag (bag_distance xs ys) (differ_by xs ys) (⊑-refl _)
