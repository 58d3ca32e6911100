-- the passes of another worker, which are taken in from the last owner's on
use Rattle.std.proofs.Common.{◌≡◌, ◌≢◌, ℕ, ◌+◌, ◌<◌, ◌≤◌, ◌==◌, Bool, true, false, List, [], ◌∷◌, ◌++◌, length, get_or, set, refl, sym, ◌∙◌, ap, subst, arith, append_assoc, length-append}
use Rattle.std.proofs.Common.{eqb-true, get_or-set_same, get_or-set_other}
use Rattle.std.proofs.lemmas.Bool.{eqb-false}
use Rattle.std.proofs.lemmas.List.{get_or_past, length-map}
use Rattle.std.proofs.Math.Seq.{get_or-append_seam}
use Rattle.owner_history.specs.OwnerDesk.Passes.{Pass}
use Rattle.owner_history.specs.OwnerDesk.Shared.{Shared}
use Rattle.session_core.specs.Bundles.{Bundle, HasTakenIn, bundle_of}
use Rattle.session_core.specs.Code.{no_pass, pass_at}
use Rattle.session_core.proofs.Bundles.{bundle_put, knows_at, share_at}

-- the passes of the owners from this one on took those of another worker in
pub record HaveTakenFrom (m : ℕ) (before other now : Bundle) : Type 0 where
  pub locks : now.locks ≡ before.locks
  pub shares : (o : ℕ) → m ≤ o → get_or now.shares o 0 ≡ get_or before.shares o 0 + get_or other.shares o 0
  pub passes : (o : ℕ) → m ≤ o → o < length before.locks → HasTakenIn (pass_at before.knows o) (pass_at other.knows o) (pass_at now.knows o)
  pub rest : (o : ℕ) → o < m → (get_or now.shares o 0 ≡ get_or before.shares o 0) × (pass_at now.knows o ≡ pass_at before.knows o)

pub taken_none : (before other : List Shared) → length other ≡ length before → HaveTakenFrom (length other) (bundle_of before) (bundle_of other) (bundle_of before)
taken_none before other same = record {
  locks = refl;
  shares = λ o le.
      let mine = get_or_past (bundle_of before).shares o 0 (simp length-map (omega (arith, same, le))) in
      let theirs = get_or_past (bundle_of other).shares o 0 (simp length-map le) in
      omega (arith, mine, theirs);
  passes = λ o le lt. absurd (omega (arith, same, le, lt, length-map before (λ (s : Shared). s.lock)));
  rest = λ o lt. (refl, refl);
}

-- what holds of one element that is set, and of each other one
set_holds : {A : Type 0} (P : ℕ → A → Type 0) (xs : List A) (m : ℕ) (y d : A) → m < length xs → P m y → ((o : ℕ) → o ≢ m → P o (get_or xs o d)) → (o : ℕ) → P o (get_or (set xs m y) o d)
set_holds {A} P xs m y d within here others o = by (o == m) refl
  where
    by : (b : Bool) → (o == m) ≡ b → P o (get_or (set xs m y) o d)
    by true is =
        let same = eqb-true o m is in
        subst (λ (k : ℕ). P k (get_or (set xs m y) k d)) (sym same) (subst (P m) (sym (get_or-set_same xs m y d within)) here)
    by false is =
        let other = eqb-false o m is in
        subst (P o) (sym (get_or-set_other xs m o y d other)) (others o other)

pub taken_next : (m : ℕ) (before : Bundle) (others items : List Shared) (p q r : Shared) → HaveTakenFrom (m + 1) before (bundle_of others) (bundle_of items)
    → m < length items → m < length others → p ≡ get_or items m p → r ≡ get_or others m r → q.lock ≡ p.lock → q.share ≡ p.share + r.share → HasTakenIn p.knows r.knows q.knows
    → HaveTakenFrom m before (bundle_of others) (bundle_of (set items m q))
taken_next m before others items p q r h within there is of lock share took = subst (λ (b : Bundle). HaveTakenFrom m before other b) (sym (bundle_put items m p is q lock)) (record {
  locks = h.locks;
  shares = set_holds (λ o s. m ≤ o → s ≡ get_or before.shares o 0 + get_or other.shares o 0) now.shares m q.share 0 (simp length-map within)
      (λ le. omega (arith, share, share_at items m p is within, share_at others m r of there, (h.rest m (omega arith)).0))
      (λ o ne le. h.shares o (omega (arith, ne, le)));
  passes = set_holds (λ o k. m ≤ o → o < length before.locks → HasTakenIn (pass_at before.knows o) (pass_at other.knows o) k) now.knows m q.knows no_pass (simp length-map within)
      (λ le lt. subst (λ (k : Pass). HasTakenIn (pass_at before.knows m) k q.knows) (knows_at others m r of there)
      (subst (λ (k : Pass). HasTakenIn k r.knows q.knows) (knows_at items m p is within ∙ (h.rest m (omega arith)).1) took))
      (λ o ne le lt. h.passes o (omega (arith, ne, le)) lt);
  rest = λ o lt.
      let ne : o ≢ m = λ same. omega (arith, same, lt) in
      let before_it = h.rest o (omega (arith, lt)) in
      (get_or-set_other now.shares m o q.share 0 ne ∙ before_it.0, get_or-set_other now.knows m o q.knows no_pass ne ∙ before_it.1);
})
  where
    other : Bundle
    other = bundle_of others

    now : Bundle
    now = bundle_of items

-- the last one is taken off what is left
pub popped_at : {A : Type 0} (all now rest gone : List A) (y : A) (m : ℕ) → now ++ gone ≡ all → now ≡ rest ++ y ∷ [] → m ≡ length rest
    → (rest ++ y ∷ gone ≡ all) × (m < length all) × (y ≡ get_or all m y)
popped_at all now rest gone y m whole cut at =
    let is : rest ++ y ∷ gone ≡ all = sym (append_assoc rest (y ∷ []) gone) ∙ ap (λ xs. xs ++ gone) (sym cut) ∙ whole in (
      is,
      omega (arith, ap length is, length-append rest (y ∷ gone), at),
      sym (ap (λ xs. get_or xs m y) (sym is) ∙ ap (λ k. get_or (rest ++ y ∷ gone) k y) at ∙ get_or-append_seam rest y gone y),
    )
