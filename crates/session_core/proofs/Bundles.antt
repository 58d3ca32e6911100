-- the passes of a bundle
use Rattle.std.proofs.Common.{◌≡◌, ℕ, zero, suc, ◌-◌, ◌/◌, ◌<◌, List, [], ◌∷◌, length, get_or, map, set, refl, sym, ◌∙◌, ap, arith}
use Rattle.std.proofs.lemmas.List.{get_or-map, length-map, map-set}
use Rattle.std.proofs.lemmas.Option.{slice_get-get_or}
use Rattle.std.proofs.lemmas.Simd.{map-map}
use Rattle.std.proofs.Math.Seq.{map-set_same}
use Rattle.atomic_table.specs.Seated.{TableId}
use Rattle.owner_history.specs.OwnerHouse.House.{House, owner_at}
use Rattle.owner_history.specs.OwnerDesk.Passes.{Pass}
use Rattle.owner_history.specs.OwnerDesk.Shared.{IsKept, Shared}
use Rattle.session_core.specs.Bundles.{Bundle, bundle_of, given_halves, handed_on, kept_halves}
use Rattle.session_core.specs.Code.{ArePasses, no_pass, pass_at}

pub bundle_length : (items : List Shared) (bundle : Bundle) (locks : List TableId) → bundle_of items ≡ bundle → bundle.locks ≡ locks → length items ≡ length locks
bundle_length items bundle locks is here = sym (length-map items (λ (s : Shared). s.lock)) ∙ ap (λ (b : Bundle). length b.locks) is ∙ ap length here

-- one of them, and what is known by it
module _ (items : List Shared) (n : ℕ) (p : Shared) (is : p ≡ get_or items n p) where
  pub knows_at : n < length items → p.knows ≡ pass_at (bundle_of items).knows n
  knows_at within = ap (λ (s : Shared). s.knows) is ∙ sym (get_or-map (λ (s : Shared). s.knows) items n p no_pass within)

  pub share_at : n < length items → p.share ≡ get_or (bundle_of items).shares n 0
  share_at within = ap (λ (s : Shared). s.share) is ∙ sym (get_or-map (λ (s : Shared). s.share) items n p 0 within)

  pub lock_at : (lock : TableId) (locks : List TableId) → n < length items → (bundle_of items).locks ≡ locks → lock ≡ get_or locks n lock → p.lock ≡ lock
  lock_at lock locks within here at =
      ap (λ (s : Shared). s.lock) is ∙ sym (get_or-map (λ (s : Shared). s.lock) items n p lock within) ∙ ap (λ (ls : List TableId). get_or ls n lock) here ∙ sym at

  -- another one of the same lock in its place
  pub bundle_put : (q : Shared) → q.lock ≡ p.lock
      → bundle_of (set items n q) ≡ record (bundle_of items) { shares = set (bundle_of items).shares n q.share; knows = set (bundle_of items).knows n q.knows }
  bundle_put q same = λ i. record {
    locks = map-set_same (λ (s : Shared). s.lock) items n q p (same ∙ ap (λ (s : Shared). s.lock) is) i;
    shares = map-set (λ (s : Shared). s.share) items n q i;
    knows = map-set (λ (s : Shared). s.knows) items n q i;
  }

  -- it is put back after a call on its owner's desk
  pub bundle_set : (q : Shared) → IsKept p q → bundle_of (set items n q) ≡ record (bundle_of items) { knows = set (bundle_of items).knows n q.knows }
  bundle_set q kept = λ i. record {
    locks = map-set_same (λ (s : Shared). s.lock) items n q p (kept.lock ∙ ap (λ (s : Shared). s.lock) is) i;
    shares = map-set_same (λ (s : Shared). s.share) items n q p (kept.share ∙ ap (λ (s : Shared). s.share) is) i;
    knows = map-set (λ (s : Shared). s.knows) items n q i;
  }

-- the passes of a house's owners
module _ (house : House) (items : List Shared) (passes : ArePasses house (bundle_of items).knows) (n : ℕ) (within : n < length house.owners) where
  pub pass_within : n < length items
  pass_within = omega (arith, within, passes.each_has, length-map items (λ (s : Shared). s.knows))

  pub entry_at : (p : Shared) → p ≡ get_or items n p → p.knows.opened.ledger.entry ≡ (owner_at house n).entry
  entry_at p is = ap (λ (k : Pass). k.opened.ledger.entry) (knows_at items n p is pass_within) ∙ passes.entries n (owner_at house n) (slice_get-get_or house.owners n _ within)

-- ---- what is split

-- a pass of which half was given away, and the half
abbrev pub kept_half : Shared → Shared
kept_half s = record s { share = s.share - s.share / 2 }

abbrev pub given_half : Shared → Shared
given_half s = record s { share = s.share / 2; knows = handed_on s.knows }

pub bundle_kept : (items : List Shared) → bundle_of (map kept_half items) ≡ kept_halves (bundle_of items)
bundle_kept items = λ i. record {
  locks = map-map (λ (s : Shared). s.lock) kept_half items i;
  shares = (map-map (λ (s : Shared). s.share) kept_half items ∙ sym (map-map (λ (n : ℕ). n - n / 2) (λ (s : Shared). s.share) items)) i;
  knows = map-map (λ (s : Shared). s.knows) kept_half items i;
}

pub bundle_given : (items : List Shared) → bundle_of (map given_half items) ≡ given_halves (bundle_of items)
bundle_given items = λ i. record {
  locks = map-map (λ (s : Shared). s.lock) given_half items i;
  shares = (map-map (λ (s : Shared). s.share) given_half items ∙ sym (map-map (λ (n : ℕ). n / 2) (λ (s : Shared). s.share) items)) i;
  knows = (map-map (λ (s : Shared). s.knows) given_half items ∙ sym (map-map handed_on (λ (s : Shared). s.knows) items)) i;
}

-- the first ones are split
abbrev pub split_below : ℕ → List Shared → List Shared
split_below zero items = items
split_below (suc n) [] = []
split_below (suc n) (s ∷ items) = kept_half s ∷ split_below n items

pub split_at : (n : ℕ) (items : List Shared) (d : Shared) → get_or (split_below n items) n d ≡ get_or items n d
split_at zero items d = refl
split_at (suc n) [] d = refl
split_at (suc n) (s ∷ items) d = split_at n items d

pub split_set : (n : ℕ) (items : List Shared) (d : Shared) → set (split_below n items) n (kept_half (get_or items n d)) ≡ split_below (suc n) items
split_set zero [] d = refl
split_set zero (s ∷ items) d = refl
split_set (suc n) [] d = refl
split_set (suc n) (s ∷ items) d = ap (λ rest. kept_half s ∷ rest) (split_set n items d)

pub split_locks : (n : ℕ) (items : List Shared) → (bundle_of (split_below n items)).locks ≡ (bundle_of items).locks
split_locks zero items = refl
split_locks (suc n) [] = refl
split_locks (suc n) (s ∷ items) = ap (λ rest. s.lock ∷ rest) (split_locks n items)

pub split_all : (items : List Shared) → split_below (length items) items ≡ map kept_half items
split_all [] = refl
split_all (s ∷ items) = ap (λ rest. kept_half s ∷ rest) (split_all items)
