use Rattle.std.proofs.Common.{◌+◌, List, take, None, refl, arith, ◌∙◌, subst}
use Rattle.std.proofs.lemmas.List.{take_all}
use Rattle.journal_records.specs.declared.records.Record.{Record}
use Rattle.budget_journal.specs.Journals.{disk_of}
use Rattle.budget_ledger.specs.Account.{HeldWent}
use Rattle.budget_ledger.specs.Kept.{shown_on, held_on, HoldsSide}
use Rattle.budget_ledger.proofs.Wents.{held_self}
use Rattle.budget_ledger.proofs.Levelling.{take_next, level_ready, level_step}
use Rattle.budget_ledger.proofs.halves.level.Goals as goal

pub loop-slot-init : goal.loop-slot-init
loop-slot-init g c = record {
  holds = c.requires.holds;
  went = held_self (shown_on g.D.Disk.trace g.D.Disk.faults (disk_of c.args.side.now.journal))
      (held_on g.D.Disk.trace g.D.Disk.faults (take c.args.side.now.has c.args.records.now) c.args.side.now);
  room = refl;
}

pub append_to_side-told-requires-clause-ready : goal.append_to_side-told-requires-clause-ready
append_to_side-told-requires-clause-ready g c =
    level_ready g.D.Disk.trace g.D.Disk.faults c.args.side.now.header c.args.records.now c.loop-slot.slot c.loop-slot.side c.loop-slot.invariant.holds c.loop-slot-test.true
    (omega (arith, c.loop-slot.invariant.room, c.requires.room))

pub loop-slot-preserved : goal.loop-slot-preserved
loop-slot-preserved g c =
    let ready = level_ready g.D.Disk.trace g.D.Disk.faults c.args.side.now.header c.args.records.now c.loop-slot.slot c.loop-slot.side c.loop-slot.invariant.holds
    c.loop-slot-test.true (omega (arith, c.loop-slot.invariant.room, c.requires.room)) in
    let next = level_step g.D.Disk.trace g.D.Disk.faults c.args.side.now.header (take c.args.side.now.has c.args.records.now) (take c.loop-slot.slot c.args.records.now)
    (take (c.loop-slot.slot + 1) c.args.records.now) _ c.args.side.now c.loop-slot.side c.append_to_side-told.new.side c.append_to_side-told.result
    (take_next c.args.records.now c.loop-slot.slot _ c.loop-slot-test.true) c.loop-slot.invariant.holds ready
    c.loop-slot.invariant.went c.append_to_side-told.ensures.written c.append_to_side-told.ensures.stopped in
    record { holds = next.0; went = next.1; room = c.append_to_side-told.ensures.room ∙ c.loop-slot.invariant.room }

pub returns : goal.returns
returns g c =
    let all = take_all c.loop-slot.slot c.args.records.now c.loop-slot-test.false in record {
      holds = subst (λ (rs : List Record). HoldsSide g.D.Disk.trace g.D.Disk.faults c.args.side.now.header rs None c.loop-slot.side) all c.loop-slot.invariant.holds;
      went = subst (λ (rs : List Record). HeldWent (shown_on g.D.Disk.trace g.D.Disk.faults (disk_of c.args.side.now.journal))
          (shown_on g.D.Disk.trace g.D.Disk.faults (disk_of c.loop-slot.side.journal))
          (held_on g.D.Disk.trace g.D.Disk.faults (take c.args.side.now.has c.args.records.now) c.args.side.now) (held_on g.D.Disk.trace g.D.Disk.faults rs c.loop-slot.side))
          all c.loop-slot.invariant.went;
    }
