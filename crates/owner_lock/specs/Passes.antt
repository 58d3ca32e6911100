-- What a clause says of a lock and of its passes.
use Rattle.std.specs.Prelude.{◌≡◌}
use Rattle.atomic_table.specs.Seated.{TableId}
use Rattle.owner_lock.specs.declared.pass.Ticket.{Ticket}
use Rattle.owner_lock.specs.declared.lock.Owned.{Owned}
use Rattle.owner_lock.specs.Known.{Known}
use Rattle.owner_lock.specs.Views.{known_by}

-- which lock it is
abbrev pub lock_id : {T E F : Type 0} → Owned T E F → TableId
lock_id o = o.table.shared.table_id

module _ {T E F : Type 0} where
  -- what the pass knows
  abbrev pub known : Ticket T E F → Known E F
  known p = known_by p.seat.me.0

  -- the lock that it is of
  abbrev pub pass_lock : Ticket T E F → TableId
  pass_lock p = p.seat.table_id

  abbrev pub IsPassOf : Owned T E F → Ticket T E F → Type 0
  IsPassOf o p = pass_lock p ≡ lock_id o

  abbrev pub IsSameLock : Ticket T E F → Ticket T E F → Type 0
  IsSameLock p q = pass_lock q ≡ pass_lock p
