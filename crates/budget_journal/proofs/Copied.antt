-- An area that is written behind another: what a stop leaves meanwhile, and what is read afterwards.
use Rattle.std.proofs.Common.{◌≡◌, ℕ, ◌+◌, ◌-◌, ◌*◌, ◌<◌, ◌≤◌, List, length, slice_index, refl, sym, ◌∙◌, ap, subst, arith, inl, inr, ⊎_elim, Option, None, Some}
use Rattle.std.proofs.lemmas.Bool.{cases_lt}
use Rattle.outside_disks.specs.Disks.{Trace, after, moment, seen_of, overlaid, IsImageOf, Torn, Only, Leaves, Passes, WhereTold, MayHaveWritten}
use Rattle.outside_disks.specs.Disks.Step.{Wrote, Synced}
use Rattle.outside_disks.proofs.Told.{told-is, told-both}
use Rattle.outside_disks.proofs.Overlaid.{length-overlaid, overlaid-before, overlaid-at}
use Rattle.outside_disks.proofs.Images.{seen-image, now-was, passes-none, passes-step}
use Rattle.budget_journal.specs.Growth.{HasFront, HasCopy, IsChunk, ChunkCopied, AreaCopied, AreaCopyFailed}

-- ---- told or not

pub told-weaker : (R Q : Trace → Trace → Type 0) → ((t u : Trace) → R t u → Q t u) → (old new : Option Trace) → WhereTold R old new → WhereTold Q old new
told-weaker R Q weaker None None told = tt
told-weaker R Q weaker None (Some u) told = told
told-weaker R Q weaker (Some t) None told = told
told-weaker R Q weaker (Some t) (Some u) told = weaker t u told

-- where the last call failed, and may have written
pub told-then-tried : (R Q : Trace → Trace → Type 0) (place size : ℕ) → ((t u : Trace) → R t u → Q t u)
    → ((t u : Trace) (bytes : List ℕ) → length bytes ≤ size → R t u → Q t (after (Wrote place bytes) u)) → (old mid new : Option Trace) → WhereTold R old mid
    → MayHaveWritten place size mid new → WhereTold Q old new
told-then-tried R Q place size kept tried old mid new told (inl same) =
    subst (λ (o : Option Trace). WhereTold Q old o) (sym same) (told-weaker R Q kept old mid told)
told-then-tried R Q place size kept tried old mid new told (inr wrote) =
    told-both R (λ u v. v ≡ after (Wrote place wrote.0) u) Q
    (λ t u v r same. subst (λ (w : Trace). Q t w) (sym same) (tried t u wrote.0 wrote.1 r)) old mid new told
    (told-is (λ u v. v ≡ after (Wrote place wrote.0) u) (after (Wrote place wrote.0)) mid new wrote.2 (λ t. refl))

-- ---- the first bytes

pub front-self : (size : ℕ) (d : List ℕ) → size ≤ length d → HasFront size d d
front-self size d le = record { long = le; same = λ i lt. refl }

-- at first there is what is stable
pub front-none : (size : ℕ) (t : Trace) → size ≤ length (seen_of t) → Only (seen_of t) t → Passes (HasFront size (seen_of t)) t t
front-none size t le stable = passes-none (HasFront size (seen_of t)) t
    (λ c image. subst (λ (e : List ℕ). HasFront size (seen_of t) e) (sym (stable c image)) (front-self size (seen_of t) le))

module _ (size : ℕ) (t u : Trace) (p : Passes (HasFront size (seen_of t)) t u) where
  -- a stop now leaves them
  front-now : (c : List ℕ) → IsImageOf u c → HasFront size (seen_of t) c
  front-now c image = p.each c (now-was (moment t) u.start u.steps c image)

  -- and reads give them
  pub front-seen : HasFront size (seen_of t) (seen_of u)
  front-seen = front-now (seen_of u) (seen-image u.start u.steps)

  -- They stay so, whatever is written behind them.
  front-torn : (place : ℕ) (bytes : List ℕ) → size ≤ place → Leaves (HasFront size (seen_of t)) (after (Wrote place bytes) u)
  front-torn place bytes le c image =
      let before = front-now image.0 image.1 in
      let torn : Torn place (length bytes) image.0 c = image.2 in
      record {
        long = omega (arith, before.long, torn.no_shorter);
        same = λ i lt. torn.before i (omega (arith, before.long)) (omega arith) ∙ before.same i lt;
      }

  pub front-wrote : (place : ℕ) (bytes : List ℕ) → size ≤ place → Passes (HasFront size (seen_of t)) t (after (Wrote place bytes) u)
  front-wrote place bytes le = passes-step (HasFront size (seen_of t)) t u (Wrote place bytes) p (front-torn place bytes le)

  pub front-synced : Passes (HasFront size (seen_of t)) t (after Synced u)
  front-synced = passes-step (HasFront size (seen_of t)) t u Synced p
      (λ c image. subst (λ (e : List ℕ). HasFront size (seen_of t) e) (sym image) front-seen)

-- ---- chunk by chunk

module _ (begin slots : ℕ) where
  abbrev end : ℕ
  end = begin + 64 * slots

  pub copied-none : (t : Trace) → AreaCopied begin slots 0 t t
  copied-none t le stable = (
    front-none end t le stable,
    record { long = omega arith; copied = λ k i in_slots lt within. absurd (omega arith); zeros = λ k i past lt within. absurd (omega arith) },
  )

  -- what reads give after so many slots more
  module _ (k count : ℕ) (old mid bytes : List ℕ) (front : HasFront end old mid) (copy : HasCopy begin slots k old mid) (long : length bytes ≡ 64 * count)
      (chunk : IsChunk begin slots k mid bytes) where
    abbrev place : ℕ
    place = end + 64 * k

    abbrev now : List ℕ
    now = overlaid mid place bytes

    before : (j i : ℕ) → j < k → i < 64 → slice_index now (end + 64 * j + i) ≡ slice_index mid (end + 64 * j + i)
    before j i lt within = overlaid-before mid place bytes (end + 64 * j + i) (omega arith)

    -- the byte of the chunk that stands for byte i of slot j
    abbrev in-chunk : (j i : ℕ) → ℕ
    in-chunk j i = 64 * (j - k) + i

    here : (j i : ℕ) → k ≤ j → j < k + count → i < 64 → slice_index now (end + 64 * j + i) ≡ slice_index bytes (in-chunk j i)
    here j i le lt within = let there : end + 64 * j + i ≡ place + in-chunk j i = omega arith in
        ap (slice_index now) there ∙ overlaid-at mid place bytes (in-chunk j i) (omega arith)

    from-old : (j i : ℕ) → k ≤ j → j < k + count → j < slots → i < 64 → slice_index bytes (in-chunk j i) ≡ slice_index old (begin + 64 * j + i)
    from-old j i le lt in_slots within = let there : begin + 64 * k + in-chunk j i ≡ begin + 64 * j + i = omega arith in
        chunk.copied (in-chunk j i) (omega arith) (omega arith) ∙ ap (slice_index mid) there ∙ front.same (begin + 64 * j + i) (omega arith)

    copy-more : HasCopy begin slots (k + count) old now
    copy-more = record {
      long = omega (arith, length-overlaid mid place bytes, copy.long);
      copied = λ j i in_slots lt within. ⊎_elim
          (λ earlier. before j i earlier within ∙ copy.copied j i in_slots earlier within)
          (λ le. here j i le lt within ∙ from-old j i le lt in_slots within)
          (cases_lt j k);
      zeros = λ j i past lt within. ⊎_elim
          (λ earlier. before j i earlier within ∙ copy.zeros j i past earlier within)
          (λ le. here j i le lt within ∙ chunk.zeros (in-chunk j i) (omega arith) (omega arith))
          (cases_lt j k);
    }

  pub copied-more : (k count : ℕ) (t u v : Trace) → AreaCopied begin slots k t u → ChunkCopied begin slots k (64 * count) u v → AreaCopied begin slots (k + count) t v
  copied-more k count t u v area chunk le stable =
      let so_far = area le stable in
      let bytes : List ℕ = chunk.0 in
      let wrote : Trace = after (Wrote (end + 64 * k) bytes) u in
      subst (λ (w : Trace). Passes (HasFront end (seen_of t)) t w × HasCopy begin slots (k + count) (seen_of t) (seen_of w)) (sym chunk.3) (
        front-wrote end t u so_far.0 (end + 64 * k) bytes (omega arith),
        copy-more k count (seen_of t) (seen_of u) bytes (front-seen end t u so_far.0) so_far.1 chunk.1 chunk.2,
      )

  pub copied-tried : (k : ℕ) (t u : Trace) (bytes : List ℕ) → AreaCopied begin slots k t u → AreaCopyFailed begin slots t (after (Wrote (end + 64 * k) bytes) u)
  copied-tried k t u bytes area le stable = front-wrote end t u (area le stable).0 (end + 64 * k) bytes (omega arith)

pub copied-kept : (begin slots k : ℕ) (t u : Trace) → AreaCopied begin slots k t u → AreaCopyFailed begin slots t u
copied-kept begin slots k t u copied le stable = (copied le stable).0
