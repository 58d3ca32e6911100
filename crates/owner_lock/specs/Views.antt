-- What a seat of the lock's table knows, from step to step. Between two calls it is what a pass knows.
use Rattle.std.specs.Prelude.{◌≡◌, ℕ, ◌+◌, ◌-◌, ◌/◌, ◌<◌, ◌≤◌, true, false, ◌||◌, ◌⊎◌, [], ◌∷◌, ◌++◌, length, Some, None, slice_get}
use Rattle.owner_lock.specs.declared.stands.StandsFor.{Ghosts}
use Rattle.owner_lock.specs.declared.view.View.{View}
use Rattle.owner_lock.specs.Entries.{Has, merged, longer}
use Rattle.owner_lock.specs.Known.{Known, whole_share}

module _ {E F : Type 0} where
  abbrev pub known_by : View E F → Known E F
  known_by v = record { fixed = v.fixed; base = v.base; seen = v.seen; own = v.own; share = v.share; shut = v.shut }

  -- what a seat knows that was joined to another: nothing
  abbrev pub spent : View E F
  spent = record { fixed = None; base = []; seen = []; told = []; own = []; share = 0; shut = false; turn = false }

  abbrev pub left_half : View E F → View E F
  left_half v = record v { share = v.share - v.share / 2 }

  abbrev pub right_half : View E F → View E F
  right_half v = record v { told = []; own = []; share = v.share / 2; turn = false }

  -- What the other had seen is kept beside, until a look at the count shows which has seen more.
  abbrev pub both : View E F → View E F → View E F
  both v w = record v { told = w.seen; own = merged v.own w.own; share = v.share + w.share; shut = v.shut || w.shut }

  abbrev pub settled : View E F → View E F
  settled v = record v { seen = longer v.seen v.told; told = [] }

  abbrev pub adding : View E F → E → View E F
  adding v e = record v { seen = v.seen ++ e ∷ []; own = v.own ++ (length v.seen, e) ∷ [] }

  -- between two calls
  abbrev pub Rests : View E F → Type 0
  Rests v = (0 < v.share) × (v.turn ≡ false) × (v.told ≡ [])

module _ {T E F : Type 0} (k : Ghosts T E F) where
  abbrev pub first_view : T → View E F
  first_view x = record {
    fixed = Some (k.fixed x);
    base = k.history x;
    seen = k.history x;
    told = [];
    own = [];
    share = whole_share;
    shut = k.shut x;
    turn = false;
  }

  abbrev pub taking : View E F → T → View E F
  taking v x = record v { seen = k.history x; shut = k.shut x; turn = true }

  abbrev pub freeing : View E F → T → View E F
  freeing v x = record v { shut = k.shut x; turn = false }

  abbrev pub ClosesIn : View E F → E → Type 0
  ClosesIn v e = (p : ℕ) (d : E) → length v.base ≤ p → slice_get v.seen p ≡ Some d → k.closes e d → Has (p, d) v.own

  -- The state y may go back, where the seat has seen what stood at the beginning of its turn.
  pub record MayEnd (v : View E F) (y : T) : Type 0 where
    pub fixed : Some (k.fixed y) ≡ v.fixed
    pub legal : k.legal (k.fixed y) (k.history y)
    pub shut : v.shut ≡ true → k.shut y ≡ true
    pub adds : (k.history y ≡ v.seen) ⊎ ((e : E) × (k.history y ≡ v.seen ++ e ∷ []) × ClosesIn v e)

  -- The entry that the state has more, if it has one, is counted.
  abbrev pub IsMarked : View E F → T → View E F → Type 0
  IsMarked v y w = ((k.history y ≡ v.seen) × (w ≡ v)) ⊎ ((e : E) × (k.history y ≡ v.seen ++ e ∷ []) × (w ≡ adding v e))

  -- And the turn has ended.
  abbrev pub IsFreed : View E F → T → View E F → Type 0
  IsFreed v y w = ((k.history y ≡ v.seen) × (w ≡ freeing v y)) ⊎ ((e : E) × (k.history y ≡ v.seen ++ e ∷ []) × (w ≡ freeing (adding v e) y))
