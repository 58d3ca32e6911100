use Rattle.std.proofs.Common.{◌≡◌, ℕ, ◌<◌, length, Some}
use Rattle.std.specs.Prelude.{is_some}
use Rattle.outside_bays.specs.Bays.{shelf_of}
use Rattle.outside_bays.specs.Places.{fresh_home, home_shown}
use Rattle.outside_bays.proofs.real.RealBay.new.Given as goal

abbrev pub invariant-loop-owner : goal.invariant-loop-owner
invariant-loop-owner g l =
    record {
      counted : length l.homes.items ≡ l.owner-counter;
      home : (n : ℕ) → n < length l.homes.items → shelf_of home_shown l.homes.items n ≡ Some (fresh_home (is_some l.mirrors));
    }
