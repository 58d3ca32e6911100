-- One history for all passes: the rule of the lock's table, and what each kind of step tells.
-- Word 0 counts the history. Word 1 is, modulo 4, 1 while a seat has the turn, else 2 where the state is shut, else 0. What it says above
-- that, of those who wait, is nothing to the rule. Slot 0 has the state.
use Rattle.std.specs.Prelude.{◌≡◌, ◌≢◌, ℕ, ◌+◌, ◌%◌, ◌<◌, Bool, true, false, if◌then◌else◌, ◌==◌, List, [], ◌∷◌, ◌++◌, map, length, Some}
use mathlib.Core.List.{IsPrefix}
use mathlib.Core.Option.{Option, some, none}
use lib.ListN.{get_elem?}
use Rattle.atomic_table.specs.Table.{State, Me, Step, rest}
use Rattle.owner_lock.specs.declared.stands.StandsFor.{Ghosts}
use Rattle.owner_lock.specs.declared.view.View.{View}
use Rattle.owner_lock.specs.Entries.{Ascends}
use Rattle.owner_lock.specs.Known.{whole_share}
use Rattle.owner_lock.specs.Jobs.{Meets}
use Rattle.owner_lock.specs.Views.{known_by, taking, freeing, adding, settled}

-- The state is at home, or a seat has the turn, which found the state shut or not.
pub data Phase (T : Type 0) : Type 0 where
  home : T → Phase T
  held : ℕ → Bool → Phase T

abbrev pub total : {A : Type 0} → (A → ℕ) → List A → ℕ
total f [] = 0
total f (x ∷ xs) = f x + total f xs

-- a log has the seat that added each entry behind the base
abbrev pub entries_of : {E : Type 0} → List (ℕ × E) → List E
entries_of log = map (λ x. x.1) log

-- what the seat j added, by positions from p on
abbrev pub own_of : {E : Type 0} → (j p : ℕ) → List (ℕ × E) → List (ℕ × E)
own_of j p [] = []
own_of j p (x ∷ xs) = if x.0 == j then (p, x.1) ∷ own_of j (p + 1) xs else own_of j (p + 1) xs

-- Each seat in the log is one of the first n.
abbrev pub Below : {E : Type 0} → ℕ → List (ℕ × E) → Type 0
Below n [] = Unit {0}
Below n (x ∷ xs) = (x.0 < n) × Below n xs

module _ {T E F : Type 0} (k : Ghosts T E F) where
  abbrev pub lock_word : Phase T → ℕ
  lock_word (home x) = if k.shut x then 2 else 0
  lock_word (held j b) = 1

  abbrev pub homes_in : Phase T → List (Option T)
  homes_in (home x) = some x ∷ []
  homes_in (held j b) = none ∷ []

  abbrev pub shut_in : Phase T → Bool
  shut_in (home x) = k.shut x
  shut_in (held j b) = b

  abbrev pub InPhase : F → List E → List (View E F) → Phase T → Type 0
  InPhase f history views (home x) = (k.history x ≡ history) × (k.fixed x ≡ f)
  InPhase f history views (held j b) = (v : View E F) × (get_elem? views j ≡ some v) × (v.turn ≡ true)

  -- An entry that closes an earlier one was added by the same seat.
  abbrev pub OneHand : List (ℕ × E) → Type 0
  OneHand log = (p q : ℕ) (a b : ℕ × E) → p < q → get_elem? log p ≡ some a → get_elem? log q ≡ some b → k.closes b.1 a.1 → b.0 ≡ a.0

  -- What the seat j knows is so.
  pub record Fits (f : F) (base history : List E) (log : List (ℕ × E)) (phase : Phase T) (j : ℕ) (v : View E F) : Type 0 where
    pub alive : 0 < v.share → (v.fixed ≡ Some f) × (v.base ≡ base)
    pub seen : IsPrefix v.seen history
    pub told : IsPrefix v.told history
    pub own : v.own ≡ own_of j (length base) log
    pub idle : v.share ≡ 0 → (v.own ≡ []) × (v.turn ≡ false)
    pub turn : v.turn ≡ true → (phase ≡ held j v.shut) × (v.seen ≡ history)
    pub shut : v.shut ≡ true → shut_in phase ≡ true

  -- There is one legal history, of which every seat knows a beginning; each entry behind the base is one seat's own.
  pub record OneHistory (s : State T (View E F)) : Type 0 where
    pub fixed : F
    pub base : List E
    pub history : List E
    pub log : List (ℕ × E)
    pub phase : Phase T
    pub word : ℕ
    pub made : history ≡ base ++ entries_of log
    pub words : s.words ≡ length history ∷ word ∷ []
    pub says : word % 4 ≡ lock_word phase
    pub homes : s.homes ≡ homes_in phase
    pub legal : k.legal fixed history
    pub placed : InPhase fixed history s.views phase
    pub shares : total (λ v. v.share) s.views ≡ whole_share
    pub seats : Below (length s.views) log
    pub one_hand : OneHand log
    pub each : (j : ℕ) (v : View E F) → get_elem? s.views j ≡ some v → Fits fixed base history log phase j v

  abbrev pub Mine : Type 0
  Mine = Me T (View E F)

  -- The turn came, with the state.
  abbrev pub Took : View E F → Mine → Type 0
  Took v m = (x : T) × (m.0 ≡ taking k v x) × (m.1 ≡ (0, x) ∷ []) × Meets k (known_by v) x

  abbrev pub turned : Step T → Mine → ℕ → Mine → Type 0
  turned st m found n = (found ≡ st.first → Took m.0 n) × (found ≢ st.first → n ≡ m)

  -- Who waits is counted, or woken. It tells the seat nothing.
  abbrev pub warned : Step T → Mine → ℕ → Mine → Type 0
  warned st m found n = n ≡ m

  -- The state in the seat's slot has one entry more.
  abbrev pub marked : Step T → Mine → ℕ → Mine → Type 0
  marked st m found n = (n.1 ≡ m.1) × ((y : T) → m.1 ≡ (0, y) ∷ [] → (e : E) × (k.history y ≡ m.0.seen ++ e ∷ []) × (n.0 ≡ adding m.0 e))

  abbrev pub freed : Step T → Mine → ℕ → Mine → Type 0
  freed st m found n = (n.1 ≡ rest m.1) × ((y : T) → m.1 ≡ (0, y) ∷ [] → n.0 ≡ freeing k m.0 y)

  abbrev pub looked : Step T → Mine → ℕ → Mine → Type 0
  looked st m found n = (n.1 ≡ m.1) × (n.0 ≡ settled m.0) × IsPrefix m.0.seen n.0.seen × IsPrefix m.0.told n.0.seen × Ascends 0 n.0.own
