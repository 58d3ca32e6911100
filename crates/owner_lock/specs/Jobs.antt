-- What a job under the lock may rely on and owes, and what its pass knows afterwards.
use Rattle.std.specs.Prelude.{◌≡◌, ℕ, ◌<◌, ◌≤◌, true, ◌⊎◌, List, [], ◌∷◌, ◌++◌, map, length, Some, slice_get}
use mathlib.Core.List.{IsPrefix}
use Rattle.owner_lock.specs.declared.stands.StandsFor.{Ghosts}
use Rattle.owner_lock.specs.Entries.{Has}
use Rattle.owner_lock.specs.Known.{Known}

module _ {T E F : Type 0} (k : Ghosts T E F) where
  -- Each of these entries stands in the list at its position, behind the first n.
  abbrev pub StandBehind : (n : ℕ) → List (ℕ × E) → List E → Type 0
  StandBehind n own xs = (p : ℕ) (e : E) → Has (p, e) own → (n ≤ p) × (slice_get xs p ≡ Some e)

  -- Of an entry behind the first n and one that closes it, both are among the pass's own, or neither.
  abbrev pub HasBothOrNeither : (n : ℕ) → List (ℕ × E) → List E → Type 0
  HasBothOrNeither n own xs = (p q : ℕ) (d e : E) → n ≤ p → p < q → slice_get xs p ≡ Some d → slice_get xs q ≡ Some e → k.closes e d
      → (Has (p, d) own → Has (q, e) own) × (Has (q, e) own → Has (p, d) own)

  -- A pass that knows v meets the state x: this a job may rely on.
  pub record Meets (v : Known E F) (x : T) : Type 0 where
    pub fixed : Some (k.fixed x) ≡ v.fixed
    pub legal : k.legal (k.fixed x) (k.history x)
    pub begins : IsPrefix v.base (k.history x)
    pub later : IsPrefix v.seen (k.history x)
    pub shut : v.shut ≡ true → k.shut x ≡ true
    pub own : StandBehind (length v.base) v.own (k.history x)
    pub pairs : HasBothOrNeither (length v.base) v.own (k.history x)

  -- What the entry closes of those that were added under the lock is the pass's own.
  abbrev pub ClosesOwn : Known E F → List E → E → Type 0
  ClosesOwn v history e = (p : ℕ) (d : E) → length v.base ≤ p → slice_get history p ≡ Some d → k.closes e d → Has (p, d) v.own

  -- A job owes this, which goes from the state x to y: it adds at most one entry, and opens nothing that is shut.
  pub record Owes (v : Known E F) (x y : T) : Type 0 where
    pub fixed : k.fixed y ≡ k.fixed x
    pub legal : k.legal (k.fixed y) (k.history y)
    pub shut : k.shut x ≡ true → k.shut y ≡ true
    pub adds : (k.history y ≡ k.history x) ⊎ ((e : E) × (k.history y ≡ k.history x ++ e ∷ []) × ClosesOwn v (k.history x) e)

  -- What the pass knows after such a job: all that the state stood for, and what was added as its own.
  pub record Knows (v : Known E F) (x y : T) (w : Known E F) : Type 0 where
    pub fixed : w.fixed ≡ v.fixed
    pub base : w.base ≡ v.base
    pub share : w.share ≡ v.share
    pub seen : w.seen ≡ k.history y
    pub shut : w.shut ≡ k.shut y
    pub own : ((k.history y ≡ k.history x) × (w.own ≡ v.own))
        ⊎ ((e : E) × (k.history y ≡ k.history x ++ e ∷ []) × (w.own ≡ v.own ++ (length (k.history x), e) ∷ []))

  -- The state as it comes back: its history is what was there at first, and then the last pass's own entries.
  pub record ComesBack (v : Known E F) (x : T) : Type 0 where
    pub meets : Meets v x
    pub all : k.history x ≡ v.base ++ map (λ z. z.1) v.own
