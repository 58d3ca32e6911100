use Rattle.std.proofs.Common.{ℕ, ◌∷◌, ◌++◌, [], None, ◌∙◌, ap, arith}
use Rattle.budget_core.specs.Cost.{charges_in}
use Rattle.partition_charge.proofs.Rooms.{place-below}
use Rattle.budget_core.proofs.Charging.{view-below}
use Rattle.budget_core.proofs.KeptLemmas.{kept-charging, kept-Reserve}
use Rattle.budget_core.proofs.MineKept.{share-at, share-place, share-charging, share-added, shares-Reserve}
use Rattle.budget_core.proofs.Standings.{reservations-within}
use Rattle.budget_core.proofs.totals.Totals.count_reservation.Goals as goal

pub add-requires-clause-room : goal.add-requires-clause-room
add-requires-clause-room c =
    let may = c.requires.follows in
    kept-charging c.args.entry.now may.0 c.args.self.now c.args.reservation.now.view c.charge_for-charge.result may.1 may.2.looks_at c.charge_for-charge.ensures.bounded

pub add-requires-clause-place : goal.add-requires-clause-place
add-requires-clause-place c =
    let may = c.requires.follows in
    let room = may.1.part_room in
    place-below c.args.self.now.costs (charges_in c.args.entry.now may.0) c.args.reservation.now.view room.0 may.1.costs room.1
    (view-below c.args.entry.now c.args.reservation.now.view room.0 room.2 may.2.looks_at)

pub add-requires-2-clause-room : goal.add-requires-2-clause-room
add-requires-2-clause-room c =
    let may = c.requires.follows in
    share-charging c.args.entry.now may.0 c.args.reservation.now.analyst c.index_mut.result.now c.args.reservation.now.view c.charge_for-charge.result may.1.valid
    (share-at c.args.entry.now may.0 c.args.self.now.shares.items c.args.reservation.now.analyst c.index_mut.result.now may.1.shares may.2.asked_by c.index_mut.ensures.value)
    may.1.within may.1.limited may.2.looks_at c.charge_for-charge.ensures.bounded

pub add-requires-2-clause-place : goal.add-requires-2-clause-place
add-requires-2-clause-place c =
    let may = c.requires.follows in
    share-place c.args.entry.now may.0 c.args.reservation.now.analyst c.index_mut.result.now c.args.reservation.now.view
    (share-at c.args.entry.now may.0 c.args.self.now.shares.items c.args.reservation.now.analyst c.index_mut.result.now may.1.shares may.2.asked_by c.index_mut.ensures.value)
    may.2.looks_at may.3

pub push_reserved-requires : goal.push_reserved-requires
push_reserved-requires c =
    let may = c.requires.follows in
    omega (arith, may.1.rows.count, may.1.row_room, reservations-within may.0, may.3)

pub returns : goal.returns
returns c records told may short =
    let entry = c.args.entry.now in
    let r = c.args.reservation.now in
    let share = share-at entry records c.args.self.now.shares.items r.analyst c.index_mut.result.now told.shares may.asked_by c.index_mut.ensures.value in
    let own = share-added entry records r c.charge_for-charge.result c.index_mut.result.now c.add-2.new.self told.history may.numbered may.looks_at c.charge_for-charge.ensures.charge short share
    c.add-2.ensures.totals c.add-2.ensures.places c.add-2.ensures.below in
    kept-Reserve entry records c.args.self.now r c.charge_for-charge.result c.add.new.self _ c.push_reserved.new.self told may
    c.charge_for-charge.ensures.charge short (c.add.ensures.totals (charges_in entry records) told.costs)
    (shares-Reserve entry records c.args.self.now.shares.items r c.add-2.new.self told.shares own)
    (c.push_reserved.ensures.items
    ∙ ap (λ (n : ℕ). c.args.self.now.rows.items ++ record { analyst = r.analyst; view = r.view; charge = n; outcome = None } ∷ []) c.charge_for-charge.ensures.charge)
    c.push_reserved.ensures.capacity (
      told.part_room.0,
      c.add.ensures.below told.part_room.0 (view-below entry r.view told.part_room.0 told.part_room.2 may.looks_at) told.part_room.1,
      told.part_room.2,
    )
