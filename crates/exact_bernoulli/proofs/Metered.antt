-- What follows from calls of a meter, one after another.
use Rattle.std.proofs.Common.{◌≡◌, ◌∙◌, sym, ap, subst, refl, ℕ, ◌+◌, ◌-◌, ◌%◌, ◌^◌, ◌<◌, ◌≤◌, List, [], ◌∷◌, ◌++◌, Option, Some, None, inl, inr, arith}
use Rattle.std.specs.Prelude.{Result, Ok, Err, IsErr}
use Rattle.std.proofs.Math.Nat.{mod-add-mod}
use Rattle.fz_outside.specs.Draws.{HasDrawn}
use Rattle.fz_outside.proofs.Drawn.{HasDrawn-+}
use Rattle.exact_bernoulli.specs.ExactBernoulli.{uniform_limit}
use Rattle.exact_bernoulli.specs.Readers.{DrawReader, read_uniform}
use Rattle.exact_bernoulli.specs.Meter.{Took, Takes}
use Rattle.exact_bernoulli.proofs.Exact.{IsReader, uniform_kept, uniform_again}

-- what was taken in two calls
pub Took-more : {W : Type 0} {draws : W → ℕ → ℕ} {place : W → ℕ} (a b c : ℕ) (x y z : W) → Took draws place a x b y → Took draws place b y c z → Took draws place a x c z
Took-more {draws = draws} {place = place} a b c x y z (inl h) k = subst (λ v. Took draws place a v c z) h.1 (subst (λ n. Took draws place n y c z) h.0 k)
Took-more {draws = draws} {place = place} a b c x y z (inr h) (inl k) = inr (omega (arith, h.0, k.0), subst (λ v. HasDrawn draws place (a - c) x v) (sym k.1) (subst (λ n. HasDrawn draws place (a - n) x y) (sym k.0) h.1))
Took-more {draws = draws} {place = place} a b c x y z (inr h) (inr k) =
    inr (omega (arith, h.0, k.0), (let l = h.0 in let m = k.0 in let e : (a - b) + (b - c) ≡ a - c = omega arith in subst (λ n. HasDrawn draws place n x z) e (HasDrawn-+ (a - b) (b - c) h.1 k.1)))

-- 2 ^ 64 by m, as it is computed in 64 bits
incomplete_round : (m : ℕ) → (18446744073709551615 % m + 1) % m ≡ 18446744073709551616 % m
incomplete_round m = mod-add-mod 18446744073709551615 m 1

pub kept_below : (m w : ℕ) → 0 < m → m < 2 ^ 64 → w ≤ 18446744073709551615 - (18446744073709551615 % m + 1) % m → w < uniform_limit m
kept_below m w some fits h = let e = incomplete_round m in let l : 18446744073709551616 % m < m = omega arith in omega (arith, e)

pub above_kept : (m w : ℕ) → 18446744073709551615 - (18446744073709551615 % m + 1) % m < w → uniform_limit m ≤ w
above_kept m w h = let e = incomplete_round m in omega (arith, e)

pub uniform_stands : (m w : ℕ) (before behind : List ℕ) → before ≡ w ∷ behind → w < uniform_limit m → read_uniform m before ≡ Some (w % m, behind)
uniform_stands m w before behind e h = ap (read_uniform m) e ∙ uniform_kept m w behind h

pub uniform_goes_on : (m w : ℕ) (before behind : List ℕ) → before ≡ w ∷ behind → uniform_limit m ≤ w → read_uniform m before ≡ read_uniform m behind
uniform_goes_on m w before behind e h = ap (read_uniform m) e ∙ uniform_again m w behind h

pub uniform_none : (m : ℕ) (draws : List ℕ) → draws ≡ [] → read_uniform m draws ≡ None
unfolding read_uniform
uniform_none m draws e = ap (read_uniform m) e

-- what a call says of its segment, and what its reader finds
pub Takes-err : {A E : Type 0} {read : DrawReader A} {Segment : List ℕ → A → Type 0} → IsReader read Segment → (r : Result A E) (before behind : List ℕ) → IsErr r → read before ≡ None → behind ≡ [] → Takes Segment r before behind
Takes-err reads (Ok a) before behind i e f = absurd (cc i)
Takes-err {A = A} {read = read} reads (Err x) before behind i e f = (f, λ one rest a cut segment. let found = ap read cut ∙ reads.complete one rest a segment in cc (e, found))

pub found_from_segment : {A : Type 0} {read : DrawReader A} {Segment : List ℕ → A → Type 0} → IsReader read Segment → (a : A) (before behind : List ℕ) → (one : List ℕ) × (before ≡ one ++ behind) × Segment one a → read before ≡ Some (a, behind)
found_from_segment {read = read} reads a before behind h = ap read h.1 ∙ reads.complete h.0 behind a h.2

pub none_from_segments : {A : Type 0} {read : DrawReader A} {Segment : List ℕ → A → Type 0} → IsReader read Segment → (before : List ℕ) → ((one rest : List ℕ) (a : A) → before ≡ one ++ rest → ¬ Segment one a) → read before ≡ None
none_from_segments {A} {read} {Segment} reads before none = go (read before) refl
  where
    go : (o : Option (A × List ℕ)) → read before ≡ o → read before ≡ None
    go None e = e
    go (Some found) e = let r = reads.sound before found e in absurd (none r.0 found.1 found.0 r.1 r.2)
