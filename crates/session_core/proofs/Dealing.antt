-- Blocks dealt to workers.
use Rattle.std.proofs.Common.{◌≡◌, ℕ, zero, suc, ◌+◌, ◌-◌, ◌%◌, ◌<◌, ◌==◌, Bool, true, false, List, [], ◌∷◌, ◌++◌, length, Option, refl, sym, ◌∙◌, ap, arith, nat_lt, mod-lt, lt-ltb, le-ltb}
use Rattle.std.specs.Prelude.{if◌then◌else◌}
use Rattle.std.specs.List.{flat_map}
use Rattle.owner_history.specs.OwnerHouse.House.{House}
use Rattle.session_core.specs.Meant.{meant_by, next_who}
use Rattle.session_core.specs.Turns.{session_turns}
use Rattle.session_core.specs.Blocks.{own_blocks, crew_of}
use Rattle.session_core.specs.Gathered.{part_of}

module _ {X : Type 0} (crew : ℕ → ℕ) (i : ℕ) where
  part_append : (at : ℕ) (xs ys : List X) → part_of crew i at (xs ++ ys) ≡ part_of crew i at xs ++ part_of crew i (at + length xs) ys
  part_append at [] ys = let same : at ≡ at + 0 = omega arith in ap (λ (n : ℕ). part_of crew i n ys) same
  part_append at (x ∷ xs) ys =
      let next : at + 1 + length xs ≡ at + length (x ∷ xs) = omega arith in
      let rest : part_of crew i (at + 1) (xs ++ ys) ≡ part_of crew i (at + 1) xs ++ part_of crew i (at + length (x ∷ xs)) ys
      = part_append (at + 1) xs ys ∙ ap (λ (n : ℕ). part_of crew i (at + 1) xs ++ part_of crew i n ys) next in
      here (part_of crew i (at + length (x ∷ xs)) ys) rest (crew at == i)
    where
      here : (more : List X) → part_of crew i (at + 1) (xs ++ ys) ≡ part_of crew i (at + 1) xs ++ more → (b : Bool)
          → (if b then x ∷ part_of crew i (at + 1) (xs ++ ys) else part_of crew i (at + 1) (xs ++ ys)) ≡ (if b then x ∷ part_of crew i (at + 1) xs else part_of crew i (at + 1) xs) ++ more
      here more rest true = ap (λ (w : List X). x ∷ w) rest
      here more rest false = rest

  -- where all places are one worker's
  part_alone : (c at : ℕ) (xs : List X) → ((p : ℕ) → p < length xs → crew (at + p) ≡ c) → part_of crew i at xs ≡ (if c == i then xs else [])
  part_alone c at [] each = none (c == i)
    where
      none : (b : Bool) → ◌≡◌ {A = List X} [] (if b then [] else [])
      none true = refl
      none false = refl
  part_alone c at (x ∷ xs) each =
      let same : at + 0 ≡ at = omega arith in
      let first : crew at ≡ c = ap crew (sym same) ∙ each 0 (omega arith) in
      let rest = part_alone c (at + 1) xs (λ p lt. let next : at + 1 + p ≡ at + suc p = omega arith in ap crew next ∙ each (suc p) (omega (arith, lt))) in
      ap (λ (n : ℕ). if n == i then x ∷ part_of crew i (at + 1) xs else part_of crew i (at + 1) xs) first ∙ here (c == i) rest
    where
      here : (b : Bool) → part_of crew i (at + 1) xs ≡ (if b then xs else []) → (if b then x ∷ part_of crew i (at + 1) xs else part_of crew i (at + 1) xs) ≡ (if b then x ∷ xs else [])
      here true rest = ap (λ (w : List X). x ∷ w) rest
      here false rest = rest

chosen : {A B : Type 0} (g : List A → List B) (b : Bool) (block : List A) (own : List (List A)) → (if b then g block else []) ++ flat_map g own ≡ flat_map g (if b then block ∷ own else own)
chosen g true block own = refl
chosen g false block own = refl

crew_here : {A : Type 0} (count k : ℕ) (block : List A) (blocks : List (List A)) (p : ℕ) → p < length block → crew_of count k (block ∷ blocks) p ≡ k % count
crew_here count k block blocks p lt = rw (lt-ltb p (length block) lt) refl

crew_later : {A : Type 0} (count k : ℕ) (block : List A) (blocks : List (List A)) (p : ℕ) → crew_of count k (block ∷ blocks) (length block + p) ≡ crew_of count (k + 1) blocks p
crew_later count k block blocks p =
    let less : length block + p - length block ≡ p = omega arith in
    rw (le-ltb (length block + p) (length block) (omega arith)) (ap (λ (n : ℕ). crew_of count (k + 1) blocks n) less)

pub dealt : {A B : Type 0} (count i k : ℕ) (g : List A → List B) → ((block : List A) → length (g block) ≡ length block) → (crew : ℕ → ℕ) (at : ℕ) (blocks : List (List A)) → ((p : ℕ) → crew (at + p) ≡ crew_of count k blocks p)
    → part_of crew i at (flat_map g blocks) ≡ flat_map g (own_blocks count i k blocks)
dealt count i k g long crew at [] each = refl
dealt count i k g long crew at (block ∷ blocks) each =
    let size = long block in
    let first = part_alone crew i (k % count) at (g block) (λ p lt. each p ∙ crew_here count k block blocks p (omega (arith, lt, size))) in
    let rest = dealt count i (k + 1) g long crew (at + length (g block)) blocks
    (λ p. let next : at + length (g block) + p ≡ at + (length block + p) = omega (arith, size) in ap crew next ∙ each (length block + p) ∙ crew_later count k block blocks p) in
    part_append crew i at (g block) (flat_map g blocks) ∙ ap (λ (w : List _). w ++ part_of crew i (at + length (g block)) (flat_map g blocks)) first
    ∙ ap (λ (w : List _). (if k % count == i then g block else []) ++ w) rest ∙ chosen g (k % count == i) block (own_blocks count i (k + 1) blocks)

pub crew_below : {A : Type 0} (count k : ℕ) (blocks : List (List A)) (at : ℕ) → 0 < count → crew_of count k blocks at < count
crew_below count k [] at some = some
crew_below count k (block ∷ blocks) at some = here (crew_below count (k + 1) blocks (at - length block) some) (nat_lt at (length block))
  where
    here : crew_of count (k + 1) blocks (at - length block) < count → (b : Bool) → (if b then k % count else crew_of count (k + 1) blocks (at - length block)) < count
    here rest true = mod-lt k some
    here rest false = rest

pub session_length : (house : House) (who : Option ℕ) (lines : List (List ℕ)) → length (session_turns house who lines) ≡ length lines
session_length house who [] = refl
session_length house who (line ∷ lines) = omega (arith, session_length house (next_who who (meant_by house who line)) lines)
