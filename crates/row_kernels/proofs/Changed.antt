-- A column that is changed from its beginning on.
use Rattle.std.proofs.Common.{◌≡◌, ℕ, ◌<◌, ◌≤◌, ◌+◌, ℤ, pos, List, arith, length, get_or}
use Rattle.std.specs.Prelude.{slice_set}
use Rattle.std.proofs.lemmas.Bool.{cases_eq}
use Rattle.std.proofs.lemmas.List.{get_or-set_same, get_or-set_other}

module _ (F : ℤ → ℤ → ℤ) (a b c : List ℤ) (i : ℕ) (z : ℤ) (l : i < length a) where
  pub placed :
      z ≡ F (get_or c i (pos 0)) (get_or b i (pos 0))
      → ((j : ℕ) → j < i → get_or a j (pos 0) ≡ F (get_or c j (pos 0)) (get_or b j (pos 0)))
      → (j : ℕ) → j < i + 1 → get_or (slice_set a i z) j (pos 0) ≡ F (get_or c j (pos 0)) (get_or b j (pos 0))
  placed e h j m = grind (arith, get_or-set_same, get_or-set_other, cases_eq j i, h j)

  pub kept : ((j : ℕ) → i ≤ j → get_or a j (pos 0) ≡ get_or c j (pos 0)) → (j : ℕ) → i + 1 ≤ j → get_or (slice_set a i z) j (pos 0) ≡ get_or c j (pos 0)
  kept h j m = grind (arith, get_or-set_other, h j)

-- a place is put, and those before it stay
pub put : (F : ℕ → ℤ) (out : List ℤ) (i : ℕ) (z : ℤ) → i < length out → z ≡ F i → ((j : ℕ) → j < i → get_or out j (pos 0) ≡ F j) → (j : ℕ) → j < i + 1 → get_or (slice_set out i z) j (pos 0) ≡ F j
put F out i z l e h j m = grind (arith, get_or-set_same, get_or-set_other, cases_eq j i, h j)
