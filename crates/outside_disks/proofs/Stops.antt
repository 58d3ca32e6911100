-- What one stop leaves is one of the files that a stop may leave; and a replay of the steps of a disk in memory.
use Rattle.std.specs.Prelude.{Result, Ok, Err, IfOk, Option, None, Some, slice_index_or}
use Rattle.std.proofs.Common.{◌≡◌, ℕ, suc, ◌+◌, ◌-◌, ◌<◌, ◌≤◌, ◌^◌, drop-cons, List, [], ◌∷◌, ◌++◌, length, take, drop, replicate, reverse, refl, sym, ◌∙◌, ap, subst, arith, append_assoc, length-append, length-drop}
use Rattle.std.proofs.lemmas.List.{append-nil, length-replicate, get_or_append_left, reverse-append}
use Rattle.outside_disks.specs.Disks.{Step, Trace, Torn as IsTorn, overlaid, seen, seen_of, IsImage}
use Rattle.outside_disks.specs.Disks.Step.{Wrote as Written, Synced as Flushed}
use Rattle.outside_disks.specs.Memory.{steps_in, steps_of, sizes, first_in, rest_in}
use Rattle.outside_disks.specs.Shown.{bytes_in, told}
use Rattle.outside_disks.specs.Stops.{filled, left_in, left_next, left_by}
use Rattle.outside_disks.specs.declared.memory.Torn.{Torn}
use Rattle.outside_disks.specs.declared.memory.Torn.TheVariants.{Old, New, Ones, Gates}
use Rattle.outside_disks.specs.declared.memory.MemDisk.{MemDisk}
use Rattle.outside_disks.specs.declared.memory.Kept.{Kept}
use Rattle.outside_disks.specs.declared.memory.Kept.TheVariants.{Wrote, Synced}
use Rattle.outside_disks.proofs.Overlaid.{length-overlaid, overlaid-before, overlaid-behind, overlaid-torn, torn-same}

module _ (file : List ℕ) (place size byte : ℕ) where
  abbrev gap : List ℕ
  gap = replicate (place - length file) byte

  abbrev piece : List ℕ
  piece = replicate size byte

  filled-torn : IsTorn place size file (filled file place size byte)
  filled-torn = record {
    no_shorter = omega (arith, length-overlaid (file ++ gap) place piece, length-append file gap);
    no_longer = omega (
      arith,
      length-overlaid (file ++ gap) place piece,
      length-append file gap,
      length-replicate {A = ℕ} (place - length file) byte,
      length-replicate {A = ℕ} size byte,
    );
    before = λ i within lt. overlaid-before (file ++ gap) place piece i lt ∙ get_or_append_left file gap 0 i within;
    behind = λ i within le. overlaid-behind (file ++ gap) place piece i (omega (arith, le, length-replicate {A = ℕ} size byte))
        ∙ get_or_append_left file gap 0 i within;
  }

torn-in : (torn : Torn) (file : List ℕ) (place : ℕ) (bytes : List ℕ) → IsTorn place (length bytes) file (left_in torn file place bytes)
torn-in Old file place bytes = torn-same place (length bytes) file
torn-in New file place bytes = overlaid-torn file place bytes
torn-in Ones file place bytes = filled-torn file place (length bytes) 0xFF
torn-in Gates file place bytes = filled-torn file place (length bytes) 0xA5

pub left-image : (torn : Torn) (start : List ℕ) (steps : List Step) → IsImage start steps (left_by torn start steps)
left-image torn start [] = refl
left-image torn start (Written place bytes ∷ earlier) =
    (left_by torn start earlier, left-image torn start earlier, torn-in torn (left_by torn start earlier) place bytes)
left-image torn start (Flushed ∷ earlier) = refl

-- what is read gets no shorter
seen-longer : (start : List ℕ) (more steps : List Step) → length (seen start steps) ≤ length (seen start (more ++ steps))
seen-longer start [] steps = omega arith
seen-longer start (Written place bytes ∷ more) steps = omega (arith, seen-longer start more steps, length-overlaid (seen start (more ++ steps)) place bytes)
seen-longer start (Flushed ∷ more) steps = seen-longer start more steps

-- Between two steps of a replay: what was done, what is still to be done with the bytes of its writes, what is read and
-- what a stop leaves.
pub record Replayed (torn : Torn) (start : List ℕ) (all : List Step) (rest : List Kept) (pool read left : List ℕ) : Type 0 where
  pub done : List Step
  pub joined : all ≡ reverse (steps_in rest pool) ++ done
  pub pooled : length pool ≡ sizes rest
  pub read_is : read ≡ seen start done
  pub left_is : left ≡ left_by torn start done

pub replay-begin : (torn : Torn) (start : List ℕ) (kept : List Kept) (pool : List ℕ) → length pool ≡ sizes kept
    → Replayed torn start (steps_of kept pool) kept pool start start
replay-begin torn start kept pool pooled = record {
  done = [];
  joined = sym (append-nil (steps_of kept pool));
  pooled = pooled;
  read_is = refl;
  left_is = refl;
}

-- the step that comes next goes to those done
moved : (step : Step) (later done : List Step) → reverse (step ∷ later) ++ done ≡ reverse later ++ step ∷ done
moved step later done =
    ap (λ (l : List Step). l ++ done) (reverse-append (step ∷ []) later) ∙ append_assoc (reverse later) (step ∷ []) done

module _ (torn : Torn) (start : List ℕ) (all : List Step) (rest : List Kept) (pool read left : List ℕ) where
  pub replay-step : (step : Kept) → Replayed torn start all (step ∷ rest) pool read left
      → Replayed torn start all rest (rest_in step pool) (seen read (first_in step pool ∷ [])) (left_next torn (first_in step pool) read left)
  replay-step (Wrote place size) r = record {
    done = Written place (take size pool) ∷ r.done;
    joined = r.joined ∙ moved (Written place (take size pool)) (steps_in rest (drop size pool)) r.done;
    pooled = let h = r.pooled in omega (arith, h, length-drop size pool);
    read_is = ap (λ (file : List ℕ). overlaid file place (take size pool)) r.read_is;
    left_is = ap (λ (file : List ℕ). left_in torn file place (take size pool)) r.left_is;
  }
  replay-step Synced r = record {
    done = Flushed ∷ r.done;
    joined = r.joined ∙ moved Flushed (steps_in rest pool) r.done;
    pooled = r.pooled;
    read_is = r.read_is;
    left_is = r.read_is;
  }

  pub replay-fits : (step : Kept) → Replayed torn start all (step ∷ rest) pool read left
      → length (seen read (first_in step pool ∷ [])) ≤ length (seen start all)
  replay-fits step r =
      let next : Replayed torn start all rest (rest_in step pool) (seen read (first_in step pool ∷ [])) (left_next torn (first_in step pool) read left)
      = replay-step step r in
      let later : List Step = reverse (steps_in rest (rest_in step pool)) in
      omega (
        arith,
        ap (λ (l : List ℕ). length l) next.read_is,
        seen-longer start later next.done,
        ap (λ (l : List Step). length (seen start l)) next.joined,
      )

pub replay-end : (torn : Torn) (start : List ℕ) (all : List Step) (pool read left : List ℕ) → Replayed torn start all [] pool read left
    → left ≡ left_by torn start all
replay-end torn start all pool read left r = r.left_is ∙ ap (λ (l : List Step). left_by torn start l) (sym r.joined)

-- the step that comes next, of those still to be done
pub replay-next : (torn : Torn) (start : List ℕ) (all : List Step) (kept : List Kept) (i : ℕ) (pool read left : List ℕ) → i < length kept
    → Replayed torn start all (drop i kept) pool read left
    → Replayed torn start all (slice_index_or kept i (Wrote 0 0) ∷ drop (i + 1) kept) pool read left
replay-next torn start all kept i pool read left lt r =
    let s : i + 1 ≡ suc i = omega arith in
    let e : drop i kept ≡ slice_index_or kept i (Wrote 0 0) ∷ drop (i + 1) kept = rw s (drop-cons kept i (Wrote 0 0) lt) in
    subst (λ (rest : List Kept). Replayed torn start all rest pool read left) e r

pub replay-same : (torn : Torn) (start : List ℕ) (all : List Step) (rest : List Kept) (p q read read' left left' : List ℕ) → q ≡ p → read' ≡ read
    → left' ≡ left → Replayed torn start all rest p read left → Replayed torn start all rest q read' left'
replay-same torn start all rest p q read read' left left' pool_is read_is left_is r = record {
  done = r.done;
  joined = r.joined ∙ ap (λ (l : List ℕ). reverse (steps_in rest l) ++ r.done) (sym pool_is);
  pooled = ap (λ (l : List ℕ). length l) pool_is ∙ r.pooled;
  read_is = read_is ∙ r.read_is;
  left_is = left_is ∙ r.left_is;
}

-- a write that fits ends where its piece does, or before
pub fits-piece : (file pool : List ℕ) (step : Kept) (place size : ℕ) → step ≡ Wrote place size → length (seen file (first_in step pool ∷ [])) < 2 ^ 63
    → place + length (take size pool) < 2 ^ 63
fits-piece file pool step place size is fits =
    let h : length (seen file (first_in (Wrote place size) pool ∷ [])) < 2 ^ 63
    = subst (λ (s : Kept). length (seen file (first_in s pool ∷ [])) < 2 ^ 63) is fits in
    omega (arith, h, length-overlaid file place (take size pool))

-- ---- a disk that was made with some bytes

seen_in : Option Trace → List ℕ
seen_in None = []
seen_in (Some t) = seen_of t

made-bytes : (disk : MemDisk) (left : List ℕ) → told disk ≡ Some (record { start = left; steps = [] }) → bytes_in disk ≡ left
unfolding seen_in
made-bytes disk left is = disk.current ∙ ap seen_in is

pub made-image : {E : Type 0} (torn : Torn) (start : List ℕ) (steps : List Step) (left : List ℕ) (made : Result MemDisk E)
    → IfOk made (λ disk. told disk ≡ Some (record { start = left; steps = [] })) → left ≡ left_by torn start steps
    → IfOk made (λ disk. IsImage start steps (bytes_in disk))
made-image torn start steps left (Ok disk) is same =
    subst (λ (c : List ℕ). IsImage start steps c) (sym (made-bytes disk left is ∙ same)) (left-image torn start steps)
made-image torn start steps left (Err e) is same = tt
