-- Steps of which none leaves elements out.
use Rattle.std.proofs.Common.{◌≡◌, ℤ, pos, List, [], ◌∷◌, ◌++◌, Option, Some, None, length, refl, ap, sym, ◌∙◌, arith}
use Rattle.std.proofs.lemmas.Int.{ints}
use Rattle.metric_values.specs.Values.{Flat}
use Rattle.flow_values.specs.Computed.{computed, given}
use Rattle.flow_values.specs.Steps.{AreAllMaps, Step, all_through, listed, outcome, stepped, through}
use Rattle.row_kernels.specs.declared.gather.Gather.{Gather}
use Rattle.row_kernels.specs.declared.gather.Gather.TheVariants.{Size}
use Rattle.row_kernels.specs.Gathers.{gathered}
use Rattle.row_kernels.proofs.Gathered.{gathered_both}

-- such steps leave an element
stays : (ss : List Step) → AreAllMaps ss → (o : Option Flat) → {x : Flat} → o ≡ Some x → (y : Flat) × (through ss o ≡ Some y)
stays [] m None e = absurd (cc e)
stays [] m (Some x) e = (x, refl)
stays (s ∷ ss) m None e = absurd (cc e)
stays (s ∷ ss) m (Some x) e = stays ss m.1 (stepped s x) (ap (λ o. outcome o (given (computed s.left) s.function x) x) m.0)

pub maps_count : (ss : List Step) → AreAllMaps ss → (rows : List Flat) → gathered Size (all_through ss rows) ≡ pos (length rows)
maps_count ss m [] = refl
maps_count ss m (x ∷ rows) =
    let r = stays ss m (Some x) refl in
    let one : gathered Size (listed (through ss (Some x))) ≡ pos 1 = ap (λ o. gathered Size (listed o)) r.1 in
    let both = gathered_both Size (listed (through ss (Some x))) (all_through ss rows) in
    omega (arith, ints, one, both, maps_count ss m rows)

pub maps_count_is : (g : Gather) (ss : List Step) (rows : List Flat) (z : ℤ) → g ≡ Size → AreAllMaps ss → z ≡ pos (length rows) → z ≡ gathered g (all_through ss rows)
maps_count_is g ss rows z e m h = h ∙ sym (maps_count ss m rows) ∙ ap (λ g. gathered g (all_through ss rows)) (sym e)
