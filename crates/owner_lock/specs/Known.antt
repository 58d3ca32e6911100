-- What a pass knows.
use Rattle.std.specs.Prelude.{ℕ, ◌+◌, ◌-◌, ◌/◌, Bool, ◌||◌, List, [], Option, Some}
use Rattle.owner_lock.specs.declared.stands.StandsFor.{Ghosts}
use Rattle.owner_lock.specs.Entries.{merged, longer}

-- Of the state that was put under the lock its fixed part and its entries (`base`); a beginning of the history, as far as this pass has
-- seen; its own entries, with their positions; its share of all passes; and whether it has met the state shut, or left it so.
pub record Known (E F : Type 0) : Type 0 where
  pub fixed : Option F
  pub base : List E
  pub seen : List E
  pub own : List (ℕ × E)
  pub share : ℕ
  pub shut : Bool

-- the shares of all passes of a lock, 2^32
abbrev pub whole_share : ℕ
whole_share = 4294967296

-- what the first pass of a lock round the state x knows
abbrev pub known_first : {T E F : Type 0} → Ghosts T E F → T → Known E F
known_first k x = record { fixed = Some (k.fixed x); base = k.history x; seen = k.history x; own = []; share = whole_share; shut = k.shut x }

module _ {E F : Type 0} where
  -- what a pass knows that gave half of its share away
  abbrev pub kept_half : Known E F → Known E F
  kept_half v = record v { share = v.share - v.share / 2 }

  -- what the pass knows that it went to: it has seen the same, and added nothing
  abbrev pub given_half : Known E F → Known E F
  given_half v = record v { own = []; share = v.share / 2 }

  -- what a pass knows that took in another
  abbrev pub joined : Known E F → Known E F → Known E F
  joined v w = record v { seen = longer v.seen w.seen; own = merged v.own w.own; share = v.share + w.share; shut = v.shut || w.shut }
