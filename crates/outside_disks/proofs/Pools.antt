-- One step more in memory.
use Rattle.std.proofs.Common.{◌≡◌, ℕ, ◌+◌, ◌-◌, ◌<◌, ◌≤◌, List, [], ◌∷◌, ◌++◌, length, take, drop, replicate, reverse, refl, sym, ◌∙◌, ap, arith, length-append, length-drop, ⊎_elim}
use Rattle.std.proofs.lemmas.Bool.{cases_lt}
use Rattle.std.proofs.lemmas.List.{take_all, drop_all, append-nil, take-append-le, drop-append-le, length-take, reverse-append, ext_get_or, get_or-take, length-replicate}
use Rattle.outside_disks.specs.Disks.{Step, overlaid}
use Rattle.outside_disks.specs.Disks.Step.{Wrote as Written, Synced as Flushed}
use Rattle.outside_disks.specs.Memory.{steps_in, steps_of, sizes}
use Rattle.outside_disks.specs.declared.memory.Kept.{Kept}
use Rattle.outside_disks.specs.declared.memory.Kept.TheVariants.{Wrote, Synced}
use Rattle.outside_disks.proofs.Overlaid.{zeros-index}

pub sizes-push : (kept : List Kept) (place size : ℕ) → sizes (kept ++ Wrote place size ∷ []) ≡ sizes kept + size
sizes-push [] place size = omega arith
sizes-push (Wrote p n ∷ kept) place size = omega (arith, sizes-push kept place size)
sizes-push (Synced ∷ kept) place size = sizes-push kept place size

pub sizes-sync : (kept : List Kept) → sizes (kept ++ Synced ∷ []) ≡ sizes kept
sizes-sync [] = refl
sizes-sync (Wrote p n ∷ kept) = omega (arith, sizes-sync kept)
sizes-sync (Synced ∷ kept) = sizes-sync kept

in-push : (kept : List Kept) (pool : List ℕ) (place : ℕ) (piece : List ℕ) → length pool ≡ sizes kept
    → steps_in (kept ++ Wrote place (length piece) ∷ []) (pool ++ piece) ≡ steps_in kept pool ++ Written place piece ∷ []
in-push [] [] place piece pooled = ap (λ (b : List ℕ). Written place b ∷ []) (take_all (length piece) piece (omega arith))
in-push [] (x ∷ pool) place piece pooled = absurd (omega arith)
in-push (Wrote p n ∷ kept) pool place piece pooled =
    let front : take n (pool ++ piece) ≡ take n pool = take-append-le n pool piece (omega arith) in
    let back : drop n (pool ++ piece) ≡ drop n pool ++ piece = drop-append-le n pool piece (omega arith) in
    ap (λ (b : List ℕ). Written p b ∷ steps_in (kept ++ Wrote place (length piece) ∷ []) (drop n (pool ++ piece))) front
    ∙ ap (λ (b : List ℕ). Written p (take n pool) ∷ steps_in (kept ++ Wrote place (length piece) ∷ []) b) back
    ∙ ap (λ (l : List Step). Written p (take n pool) ∷ l) (in-push kept (drop n pool) place piece (omega (arith, length-drop n pool)))
in-push (Synced ∷ kept) pool place piece pooled = ap (λ (l : List Step). Flushed ∷ l) (in-push kept pool place piece pooled)

in-sync : (kept : List Kept) (pool : List ℕ) → steps_in (kept ++ Synced ∷ []) pool ≡ steps_in kept pool ++ Flushed ∷ []
in-sync [] pool = refl
in-sync (Wrote p n ∷ kept) pool = ap (λ (l : List Step). Written p (take n pool) ∷ l) (in-sync kept (drop n pool))
in-sync (Synced ∷ kept) pool = ap (λ (l : List Step). Flushed ∷ l) (in-sync kept pool)

pub steps-push : (kept : List Kept) (pool : List ℕ) (place : ℕ) (piece : List ℕ) → length pool ≡ sizes kept
    → steps_of (kept ++ Wrote place (length piece) ∷ []) (pool ++ piece) ≡ Written place piece ∷ steps_of kept pool
steps-push kept pool place piece pooled = ap reverse (in-push kept pool place piece pooled) ∙ reverse-append (steps_in kept pool) (Written place piece ∷ [])

pub steps-sync : (kept : List Kept) (pool : List ℕ) → steps_of (kept ++ Synced ∷ []) pool ≡ Flushed ∷ steps_of kept pool
steps-sync kept pool = ap reverse (in-sync kept pool) ∙ reverse-append (steps_in kept pool) (Flushed ∷ [])

-- zeros up to the end of a piece, and then the piece
front-same : (file : List ℕ) (place end : ℕ) → place ≤ end → take place (file ++ replicate (end - length file) 0) ≡ take place
    (file ++ replicate (place - length file) 0)
front-same file place end le = ext_get_or 0 (take place (file ++ replicate (end - length file) 0)) (take place (file ++ replicate (place - length file) 0))
    (omega (
      arith,
      length-take place (file ++ replicate (end - length file) 0),
      length-take place (file ++ replicate (place - length file) 0),
      length-append file (replicate (end - length file) 0),
      length-append file (replicate (place - length file) 0),
      length-replicate {A = ℕ}
          (end - length file) 0,
      length-replicate {A = ℕ} (place - length file) 0,
    ))
    (λ i lt.
    let within : i < place = omega (arith, lt, length-take place (file ++ replicate (end - length file) 0)) in
    get_or-take place (file ++ replicate (end - length file) 0) i 0 within ∙ zeros-index file end i ∙ sym (zeros-index file place i)
    ∙ sym (get_or-take place (file ++ replicate (place - length file) 0) i 0 within))

back-same : (file : List ℕ) (end : ℕ) → drop end (file ++ replicate (end - length file) 0) ≡ drop end file
back-same file end = ⊎_elim
    (λ short. let none : end - length file ≡ 0 = omega arith in ap (λ n. drop end (file ++ replicate n 0)) none ∙ ap (drop end) (append-nil file))
    (λ long. drop_all end (file ++ replicate (end - length file) 0)
    (omega (arith, length-append file (replicate (end - length file) 0), length-replicate {A = ℕ} (end - length file) 0)) ∙ sym (drop_all end file long))
    (cases_lt end (length file))

pub pasted : (file : List ℕ) (place : ℕ) (piece : List ℕ)
    → take place (file ++ replicate (place + length piece - length file) 0) ++ piece ++ drop (place + length piece)
    (file ++ replicate (place + length piece - length file) 0) ≡ overlaid file place piece
unfolding overlaid
pasted file place piece =
    ap (λ (l : List ℕ). l ++ piece ++ drop (place + length piece) (file ++ replicate (place + length piece - length file) 0))
    (front-same file place (place + length piece) (omega arith))
    ∙ ap (λ (l : List ℕ). take place (file ++ replicate (place - length file) 0) ++ piece ++ l) (back-same file (place + length piece))
