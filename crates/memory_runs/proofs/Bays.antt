-- Disks that are all at home.
use Rattle.std.proofs.Common.{◌≡◌, ℕ, zero, suc, ◌<◌, List, [], ◌∷◌, ◌++◌, length, refl, arith, Option, None, Some}
use Rattle.std.specs.Prelude.{IsSome}
use Rattle.std.specs.List.{AllByRecursion}
use Rattle.outside_disks.specs.Stored.{Stored}
use Rattle.outside_bays.specs.Bays.{shelf_of}
use Rattle.query_server.specs.Shelves.{AreAtHome}

-- each disk is there
abbrev pub AreThere : {D : Type 0} → List (Option D) → Type 0
AreThere disks = AllByRecursion (λ disk. IsSome disk) disks

pub one_more : {D : Type 0} (disks : List (Option D)) (disk : D) → AreThere disks → AreThere (disks ++ Some disk ∷ [])
one_more [] disk there = (refl, tt)
one_more (d ∷ disks) disk (one, others) = (one, one_more disks disk others)

shown : {D : Type 0} (show : D → Stored) (disks : List (Option D)) → AreThere disks → (o : ℕ) → o < length disks → IsSome (shelf_of show disks o)
shown show [] there o within = absurd (omega arith)
shown show (None ∷ disks) (one, others) zero within = absurd cc
shown show (Some disk ∷ disks) there zero within = refl
shown show (d ∷ disks) (one, others) (suc o) within = shown show disks others o (omega arith)

pub at_home : {D : Type 0} (show : D → Stored) (disks : List (Option D)) → AreThere disks → length disks ≡ 64 → AreAtHome (length disks) (shelf_of show disks)
at_home show disks there all o within = (omega arith, shown show disks there o (omega arith))
