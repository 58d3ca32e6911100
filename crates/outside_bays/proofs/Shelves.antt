-- What a list of disks shows where one was put or taken.
use Rattle.std.proofs.Common.{◌≡◌, ℕ, zero, suc, ◌+◌, ◌<◌, Bool, true, false, List, [], ◌∷◌, ◌++◌, length, get_or, set, refl, sym, ◌∙◌, ap, arith, ⊎_elim, Option, None, Some, if◌then◌else◌}
use Rattle.std.specs.Prelude.{IsSome, ◌==◌}
use Rattle.std.proofs.lemmas.Bool.{cases_eq, cases_lt, eq-eqb, eqb-true}
use Rattle.std.proofs.lemmas.List.{get_or-set_same, get_or-set_other, length-set}
use Rattle.std.proofs.lemmas.Option.{slice_get-get_or, slice_get_past}
use Rattle.outside_disks.specs.Stored.{Stored}
use Rattle.outside_bays.specs.Bays.{shown_at, shelf_of, Changes}

pub not-equal : (a b : ℕ) → (a ≡ b → ⊥) → (a == b) ≡ false
not-equal a b isnt = by_cases (a == b) (λ is. isnt (eqb-true a b is))
  where
    by_cases : (x : Bool) → (x ≡ true → ⊥) → x ≡ false
    by_cases true isnt = absurd (isnt refl)
    by_cases false isnt = refl

none-some : (o : Option Stored) → o ≡ None → IsSome o → ⊥
none-some None is home = absurd cc
none-some (Some x) is home = absurd cc

module _ {A : Type 0} (show : A → Stored) (disks : List (Option A)) (n : ℕ) (lt : n < length disks) where
  pub shelf-at : (d place : Option A) → place ≡ get_or disks n d → shelf_of show disks n ≡ shown_at show (Some place)
  shelf-at d place is = ap (shown_at show) (slice_get-get_or disks n d lt ∙ ap Some (sym is))

  -- what is at home is there
  pub not-away : (d place : Option A) → place ≡ get_or disks n d → place ≡ None → IsSome (shelf_of show disks n) → ⊥
  not-away d place is away home = none-some (shelf_of show disks n) (shelf-at d place is ∙ ap (λ (o : Option A). shown_at show (Some o)) away) home

  -- one was put or taken
  pub shelf-set : (x : Option A) → Changes n (shown_at show (Some x)) (shelf_of show disks) (shelf_of show (set disks n x))
  shelf-set x k = ⊎_elim
      (λ is. ap (shelf_of show (set disks n x)) is
      ∙ ap (shown_at show) (slice_get-get_or (set disks n x) n x (omega (arith, length-set disks n x)) ∙ ap Some (get_or-set_same disks n x x lt))
      ∙ ap (λ (b : Bool). if b then shown_at show (Some x) else shelf_of show disks k) (sym (eq-eqb k n is)))
      (λ isnt. ⊎_elim
      (λ there. ap (shown_at show) (slice_get-get_or (set disks n x) k x (omega (arith, length-set disks n x))
      ∙ ap Some (get_or-set_other disks n k x x isnt) ∙ sym (slice_get-get_or disks k x there)))
      (λ past. ap (shown_at show) (slice_get_past (set disks n x) k (omega (arith, length-set disks n x)) ∙ sym (slice_get_past disks k past)))
      (cases_lt k (length disks))
      ∙ ap (λ (b : Bool). if b then shown_at show (Some x) else shelf_of show disks k) (sym (not-equal k n isnt)))
      (cases_eq k n)

-- one was added
pub shelf-push : {A : Type 0} (show : A → Stored) (disks : List (Option A)) (x : A) (want : Option Stored) → ((n : ℕ) → n < length disks → shelf_of show disks n ≡ want)
    → Some (show x) ≡ want → (n : ℕ) → n < length disks + 1 → shelf_of show (disks ++ Some x ∷ []) n ≡ want
shelf-push show [] x want all is zero lt = is
shelf-push show [] x want all is (suc n) lt = absurd (omega (arith, lt))
shelf-push show (y ∷ ys) x want all is zero lt = all 0 (omega arith)
shelf-push show (y ∷ ys) x want all is (suc n) lt = shelf-push show ys x want (λ k le. all (suc k) (omega (arith, le))) is n (omega (arith, lt))
