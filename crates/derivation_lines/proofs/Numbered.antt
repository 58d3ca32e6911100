-- Arenas that grow keep their numbers.
use Rattle.std.proofs.Common.{◌≡◌, ℕ, ◌<◌, refl, ◌∙◌, arith, List, [], ◌∷◌, ◌++◌, length, ◌⊎◌, inl, inr}
use Rattle.std.specs.Prelude.{slice_index}
use Rattle.std.proofs.lemmas.List.{get_or_append_left, get_or_push, length_push}
use Rattle.fz_ast.specs.Types.{Ty}
use Rattle.fz_ast.specs.TypeNodes.{type_at}
use Rattle.fz_ast.specs.Arena.{Grows}
use Rattle.fz_ast.proofs.Arenas.{grows_known, grows_at}
use Rattle.fz_ast.proofs.TypeNodes.{split_last}
use Rattle.derivation_lines.specs.Interned.{IsNumberOf, AreNumbers, AreWritten}

pub number_grows : (T U : List Ty) (n : ℕ) (A : Ty) → Grows T U → IsNumberOf T n A → IsNumberOf U n A
number_grows T U n A g h = record { known = grows_known T U n h.known g; is = grows_at T U n h.known g ∙ h.is }

pub numbers_grow : (T U V : List Ty) (m : List ℕ) → Grows U V → AreNumbers T U m → AreNumbers T V m
numbers_grow T U V m g h = record { each = λ i l. number_grows U V (slice_index m i) (type_at T i) g (h.each i l) }

pub written_grows : (T U V : List Ty) (m : List ℕ) → Grows U V → AreWritten T U m → AreWritten T V m
written_grows T U V m g h = record { all = h.all; numbers = numbers_grow T U V m g h.numbers }

pub written_at : (T U : List Ty) (m : List ℕ) (i : ℕ) → AreWritten T U m → i < length T → type_at U (slice_index m i) ≡ type_at T i
written_at T U m i h l = let e = h.all in (h.numbers.each i (omega arith)).is

pub no_numbers : (T U : List Ty) → AreNumbers T U []
no_numbers T U = record { each = λ i l. absurd (omega (arith, l)) }

pub one_number_more : (T U : List Ty) (m : List ℕ) (n : ℕ) → AreNumbers T U m → IsNumberOf U n (type_at T (length m)) → AreNumbers T U (m ++ n ∷ [])
one_number_more T U m n h k = record { each = λ i l. go i (split_last (length m) i (let e = length_push m n in omega arith)) }
  where
    go : (i : ℕ) → ((i < length m) ⊎ (i ≡ length m)) → IsNumberOf U (slice_index (m ++ n ∷ []) i) (type_at T i)
    go i (inl l) = let e = get_or_append_left m (n ∷ []) 0 i l in rw e (h.each i l)
    go i (inr e) = let f = get_or_push m n 0 (length m) refl in rw (e, f) k
