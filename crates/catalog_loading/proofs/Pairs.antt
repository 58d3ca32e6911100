-- what the steps for each of a list gave
use Rattle.std.proofs.Common.{◌≡◌, ℕ, zero, suc, List, [], ◌∷◌, length, Some, slice_get, refl, ap, subst}
use Rattle.std.specs.Prelude.{Result, Ok, Err, All, ⊤}
use Rattle.std.proofs.lemmas.List.Elements.{All-head, All-tail}
use Rattle.catalog_loading.specs.Files.{ReadsToCome}
use Rattle.catalog_loading.specs.Steps.{FileStep, ◌>>=◌, continued, done, one_by_one}

-- what two steps gave
pub inverted : {A B : Type 0} (step : FileStep A) (next : A → FileStep B) (reads : ReadsToCome) (b : B) → ((step >>= next) reads).given ≡ Ok b
    → (a : A) × ((step reads).given ≡ Ok a) × ((next a (step reads).rest).given ≡ Ok b)
unfolding ◌>>=◌
inverted {A} {B} step next reads b is = here (step reads).given refl is
  where
    here : (given : Result A (List ℕ)) → (step reads).given ≡ given → (continued given (step reads).names (step reads).rest next).given ≡ Ok b
        → (a : A) × ((step reads).given ≡ Ok a) × ((next a (step reads).rest).given ≡ Ok b)
    here (Ok a) was is = (a, was, is)
    here (Err name) was is = cc

-- each of a list with what it gave
abbrev pub Pairs : {A B : Type 0} → (A → B → Type 0) → List A → List B → Type 0
Pairs P [] [] = ⊤
Pairs P (x ∷ xs) (y ∷ ys) = P x y × Pairs P xs ys
Pairs P xs ys = ⊥

pub each_pairs : {A B : Type 0} (Q : A → Type 0) (P : A → B → Type 0) (step : A → FileStep B) → ((x : A) (reads : ReadsToCome) (y : B) → Q x → (step x reads).given ≡ Ok y → P x y)
    → (xs : List A) (ys : List B) (reads : ReadsToCome) → All Q xs → (one_by_one step xs reads).given ≡ Ok ys → Pairs P xs ys
unfolding one_by_one
each_pairs Q P step f [] [] reads q is = tt
each_pairs Q P step f [] (y ∷ ys) reads q is = cc
each_pairs {A} {B} Q P step f (x ∷ xs) ys reads q is =
    let one = inverted (step x) (λ y. one_by_one step xs >>= (λ ys. done (y ∷ ys))) reads ys is in
    let others = inverted (one_by_one step xs) (λ zs. done (one.0 ∷ zs)) (step x reads).rest ys one.2 in
    subst (λ (zs : List B). Pairs P (x ∷ xs) zs) (same (one.0 ∷ others.0) ys others.2)
    (f x reads one.0 (All-head Q x xs q) one.1, each_pairs Q P step f xs others.0 (step x reads).rest (All-tail Q x xs q) others.1)
  where
    same : (xs ys : List B) → (done xs reads).given ≡ Ok ys → xs ≡ ys
    same xs ys is = cc

pub pairs_length : {A B : Type 0} (P : A → B → Type 0) (xs : List A) (ys : List B) → Pairs P xs ys → length ys ≡ length xs
pairs_length P [] [] p = refl
pairs_length P [] (y ∷ ys) p = absurd p
pairs_length P (x ∷ xs) [] p = absurd p
pairs_length P (x ∷ xs) (y ∷ ys) p = ap suc (pairs_length P xs ys p.1)

pub pairs_at : {A B : Type 0} (P : A → B → Type 0) (xs : List A) (ys : List B) (o : ℕ) (x : A) (y : B) → Pairs P xs ys → slice_get xs o ≡ Some x → slice_get ys o ≡ Some y → P x y
pairs_at P [] [] o x y p at also = cc
pairs_at P [] (z ∷ ys) o x y p at also = absurd p
pairs_at P (w ∷ xs) [] o x y p at also = absurd p
pairs_at P (w ∷ xs) (z ∷ ys) zero x y p at also =
    let first : w ≡ x = cc in
    let second : z ≡ y = cc in
    subst (λ (v : _). P v y) first (subst (λ (v : _). P w v) second p.0)
pairs_at P (w ∷ xs) (z ∷ ys) (suc o) x y p at also = pairs_at P xs ys o x y p.1 at also
