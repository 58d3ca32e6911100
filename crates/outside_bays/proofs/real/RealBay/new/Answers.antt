use Rattle.std.proofs.Common.{◌≡◌, ◌++◌, [], ◌∷◌, length-append, ap, Some, arith}
use Rattle.std.specs.Prelude.{is_some}
use Rattle.outside_bays.specs.Places.{fresh_home, home_shown}
use Rattle.outside_bays.proofs.Shelves.{shelf-push}
use Rattle.outside_bays.proofs.real.RealBay.new.Goals as goal

pub loop-owner-preserved : goal.loop-owner-preserved
loop-owner-preserved g c =
    let more : c.push.new.self.items ≡ c.loop-owner.homes.items ++ Some c.in_ok-home_of.field-0 ∷ [] = c.in_ok-push.ensures.items in
    let longer = length-append c.loop-owner.homes.items (Some c.in_ok-home_of.field-0 ∷ []) in
    record {
      counted = rw more (omega (arith, longer, c.loop-owner.invariant.counted));
      home = rw more (λ n lt. shelf-push home_shown c.loop-owner.homes.items c.in_ok-home_of.field-0 (Some (fresh_home (is_some c.args.mirrors)))
          c.loop-owner.invariant.home (ap Some c.in_ok-home_of.ensures) n (omega (arith, lt, longer)));
    }

pub returns-clause-owners : goal.returns-clause-owners
returns-clause-owners g c = omega (arith, c.loop-owner.invariant.counted)

pub returns-clause-home : goal.returns-clause-home
returns-clause-home g c n lt = c.loop-owner.invariant.home n (omega (arith, lt, c.loop-owner.invariant.counted))
