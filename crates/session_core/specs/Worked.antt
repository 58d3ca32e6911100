-- What a crew of workers makes of a script, each with passes of its own, which are joined to the first ones in the end.
use Rattle.std.specs.Prelude.{◌≡◌, ℕ, ◌+◌, ◌<◌, List, [], length, map, sum_by, slice_get, Some}
use Rattle.std.specs.List.{flat_map}
use mathlib.Core.List.{IsPrefix}
use Rattle.budget_ledger.specs.declared.failure.Failure.{Failure}
use Rattle.owner_lock.specs.Entries.{Ascends}
use Rattle.wire_lines.specs.Reply.{reply_text}
use Rattle.owner_history.specs.OwnerHouse.Owner.{Owner}
use Rattle.owner_history.specs.OwnerHouse.House.{House}
use Rattle.owner_history.specs.OwnerDesk.Passes.{Pass, Told}
use Rattle.session_core.specs.Exchanges.{Exchange, AreOfScript, ArePlain}
use Rattle.session_core.specs.Gathered.{StillShut, added_below, part_of}
use Rattle.session_core.specs.Blocks.{crew_of, script_blocks}
use Rattle.session_core.specs.Bundles.{handed_on}
use Rattle.session_core.specs.Code.{GoesOn, pass_at}

-- One owner's pass, of which each worker got a half, and which took all of them in again. Each worker's went on by the worker's own lines,
-- from what was seen and from nothing of its own; what they added, and their appends that failed, are the pass's own then, each once; and
-- what each of them saw is so.
pub record IsBroughtIn (house : House) (draws : ℕ → ℕ → ℕ → ℕ) (count : ℕ) (crew : ℕ → ℕ) (o : ℕ) (xs : List Exchange) (before after : Pass) :
    Type 0 where
  pub opened : after.opened ≡ before.opened
  pub ends : ℕ → Pass
  pub workers : (i : ℕ) → i < count → GoesOn house draws o (part_of crew i 0 xs) (handed_on before) (ends i)
  pub seen : (i : ℕ) → i < count → IsPrefix (ends i).seen after.seen × StillShut (ends i).failure after.failure
  pub own : (weight : Told → ℕ) → sum_by weight after.own ≡ sum_by weight before.own + added_below (λ i. sum_by weight (ends i).own) count
  pub faults : (weight : Failure → ℕ) → sum_by weight after.faults ≡ sum_by weight before.faults + added_below (λ i. sum_by weight (ends i).faults) count
  pub apart : Ascends 0 after.own

-- A script was answered by so many workers, of whom each had its blocks, and the text is its replies in the script's order.
pub record HasWorked (house : House) (draws : ℕ → ℕ → ℕ → ℕ) (count : ℕ) (script text : List ℕ) (before after : List Pass) : Type 0 where
  pub exchanges : List Exchange
  pub turns_are : AreOfScript house script exchanges
  pub plain : ArePlain house exchanges
  pub written : text ≡ flat_map reply_text (map (λ x. x.reply) exchanges)
  pub each_has : length after ≡ length before
  pub owners : (o : ℕ) (owner : Owner) → slice_get house.owners o ≡ Some owner
      → IsBroughtIn house draws count (crew_of count 0 (script_blocks script)) o exchanges (pass_at before o) (pass_at after o)

-- Nothing was added by these passes, and none of their appends failed.
abbrev pub HaveAddedNone : House → (before after : List Pass) → Type 0
HaveAddedNone house before after = (o : ℕ) (owner : Owner) → slice_get house.owners o ≡ Some owner
    → ((pass_at after o).opened ≡ (pass_at before o).opened) × ((pass_at after o).own ≡ []) × ((pass_at after o).faults ≡ [])
