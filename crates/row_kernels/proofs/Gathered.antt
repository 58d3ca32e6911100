-- What is made of rows, put together.
use Rattle.std.proofs.Common.{◌≡◌, ℕ, zero, suc, ◌<◌, ◌≤◌, ◌+◌, ℤ, pos, List, [], ◌∷◌, ◌++◌, Option, Some, None, length, refl, ap, subst, ◌∙◌, arith, append-nil}
use Rattle.std.specs.Prelude.{map, take, ◌+ℤ◌}
use Rattle.std.proofs.lemmas.Int.{ints}
use Rattle.std.proofs.lemmas.List.{take_more}
use Rattle.metric_values.specs.Cells.{row_at}
use Rattle.metric_values.specs.Numbers.{clip, clipped_sum}
use Rattle.metric_values.specs.Values.{Flat, NumF, UnitF}
use Rattle.flow_values.specs.Steps.{AllGo, Goes, Step, all_through, listed, through}
use Rattle.flow_values.proofs.Gone.{through_both}
use Rattle.row_kernels.specs.declared.gather.Gather.{Gather}
use Rattle.row_kernels.specs.declared.gather.Gather.TheVariants.{Size, Sum}
use Rattle.row_kernels.specs.Flows.{IsChunkTotal, IsFlatTotal, added_up}
use Rattle.row_kernels.specs.Gathers.{AllWeighed, gathered, held, weigh_some}

pub gathered_both : (g : Gather) (xs ys : List Flat) → gathered g (xs ++ ys) ≡ gathered g xs +ℤ gathered g ys
gathered_both g [] ys = omega (arith, ints)
gathered_both g (x ∷ xs) ys = omega (arith, ints, gathered_both g xs ys)

pub gathered_listed : (g : Gather) (o : Option Flat) → gathered g (listed o) ≡ weigh_some g o
gathered_listed g None = refl
gathered_listed g (Some x) = omega (arith, ints)

pub counted : (xs : List Flat) → gathered Size xs ≡ pos (length xs)
counted [] = refl
counted (x ∷ xs) = omega (arith, ints, counted xs)

pub summed : (lo hi : ℤ) (zs : List ℤ) → gathered (Sum lo hi) (map NumF zs) ≡ clipped_sum (held lo) (held hi) zs
summed lo hi [] = refl
summed lo hi (z ∷ zs) = ap (λ s. clip (held lo) (held hi) z +ℤ s) (summed lo hi zs)

pub all_sized : (xs : List Flat) → AllWeighed Size xs
all_sized [] = tt
all_sized (x ∷ xs) = (tt, all_sized xs)

pub all_summed : (lo hi : ℤ) (zs : List ℤ) → AllWeighed (Sum lo hi) (map NumF zs)
all_summed lo hi [] = tt
all_summed lo hi (z ∷ zs) = (refl, all_summed lo hi zs)

pub weighed_left : (g : Gather) (xs ys : List Flat) → AllWeighed g (xs ++ ys) → AllWeighed g xs
weighed_left g [] ys h = tt
weighed_left g (x ∷ xs) ys h = (h.0, weighed_left g xs ys h.1)

pub weighed_right : (g : Gather) (xs ys : List Flat) → AllWeighed g (xs ++ ys) → AllWeighed g ys
weighed_right g [] ys h = h
weighed_right g (x ∷ xs) ys h = weighed_right g xs ys h.1

-- one row more
pub row_more : (g : Gather) (ss : List Step) (rows : List Flat) (i : ℕ) → i < length rows
    → gathered g (all_through ss (take (i + 1) rows)) ≡ gathered g (all_through ss (take i rows)) +ℤ weigh_some g (through ss (Some (row_at rows i)))
row_more g ss rows i h =
    ap (λ xs. gathered g (all_through ss xs)) (take_more rows i UnitF h)
    ∙ ap (gathered g) (through_both ss (take i rows) (row_at rows i ∷ []))
    ∙ gathered_both g (all_through ss (take i rows)) (all_through ss (row_at rows i ∷ []))
    ∙ ap (λ s. gathered g (all_through ss (take i rows)) +ℤ s)
    (ap (gathered g) (append-nil (listed (through ss (Some (row_at rows i))))) ∙ gathered_listed g (through ss (Some (row_at rows i))))

-- rows of a chunk, by their places
pub chunk_more : (g : Gather) (ss : List Step) (rows : List Flat) (first n : ℕ) → first + n ≤ length rows
    → gathered g (all_through ss (take first rows)) +ℤ added_up g (λ j. through ss (Some (row_at rows (first + j)))) n ≡ gathered g (all_through ss (take (first + n) rows))
chunk_more g ss rows first zero h = let e : first + zero ≡ first = omega arith in rw e (omega (arith, ints))
chunk_more g ss rows first (suc n) h =
    let k = chunk_more g ss rows first n (omega (arith, h)) in
    let e : first + suc n ≡ first + n + 1 = omega arith in
    let m = row_more g ss rows (first + n) (omega (arith, h)) in
    rw e (omega (arith, ints, k, m))

-- the first rows of a table, chunk by chunk
pub flat_none : (g : Gather) (ss : List Step) (rows : List Flat) → IsFlatTotal g ss rows 0 (pos 0)
flat_none g ss rows = record { within = omega arith; total = refl }

pub flat_at : (g : Gather) (ss : List Step) (rows : List Flat) (k n : ℕ) → k ≡ n → {total : ℤ} → IsFlatTotal g ss rows k total → IsFlatTotal g ss rows n total
flat_at g ss rows k n e {total} t = subst (λ (n : ℕ). IsFlatTotal g ss rows n total) e t

pub flat_more : (g : Gather) (ss : List Step) (rows : List Flat) (first n all : ℕ) → first + n ≡ all → all ≤ length rows
    → (more : ℤ) {total after : ℤ} → IsFlatTotal g ss rows first total → IsChunkTotal g ss rows first n more → after ≡ total +ℤ more → IsFlatTotal g ss rows all after
flat_more g ss rows first n all e w more {total} {after} t h a = record {
  within = w;
  total = a ∙ ap (λ s. s +ℤ more) t.total ∙ h ∙ ap (λ k. gathered g (all_through ss (take k rows))) e;
}

pub go_at : (ss : List Step) (rows : List Flat) (i : ℕ) → i < length rows → AllGo ss rows → Goes ss (Some (row_at rows i))
go_at ss [] i h a = absurd (omega (arith, h))
go_at ss (x ∷ rows) zero h a = a.0
go_at ss (x ∷ rows) (suc i) h a = go_at ss rows i (omega (arith, h)) a.1

pub chunk_total : (g : Gather) (ss : List Step) (rows : List Flat) (first n : ℕ) (z : ℤ) → first + n ≤ length rows
    → z ≡ added_up g (λ j. through ss (Some (row_at rows (first + j)))) n → IsChunkTotal g ss rows first n z
chunk_total g ss rows first n z h e = ap (λ s. gathered g (all_through ss (take first rows)) +ℤ s) e ∙ chunk_more g ss rows first n h
