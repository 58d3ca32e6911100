-- A bay as it was made: two disks for each owner, or one.
use Rattle.std.proofs.Common.{◌≡◌, ◌∙◌, ℕ, ◌<◌, Bool, true, false, refl, ap, Option, Some}
use Rattle.outside_disks.specs.Stored.{Stored, is_two}
use Rattle.outside_bays.specs.Places.{fresh_home}

two_as_said : (mirrored : Bool) → is_two (fresh_home mirrored).twins ≡ mirrored
two_as_said true = refl
two_as_said false = refl

pub homes_as_said : (shelf : ℕ → Option Stored) (owners : ℕ) (made said : Bool) → made ≡ said → ((n : ℕ) → n < owners → shelf n ≡ Some (fresh_home made))
    → (n : ℕ) → n < owners → shelf n ≡ Some (fresh_home said)
homes_as_said shelf owners made said is home n within = home n within ∙ ap (λ b. Some (fresh_home b)) is

pub twins_as_said : (shelf : ℕ → Option Stored) (owners : ℕ) (made said : Bool) → made ≡ said → ((n : ℕ) → n < owners → shelf n ≡ Some (fresh_home made))
    → (n : ℕ) → n < owners → (stored : Stored) × (shelf n ≡ Some stored) × (is_two stored.twins ≡ said)
twins_as_said shelf owners made said is home n within = (fresh_home made, home n within, two_as_said made ∙ is)
