use Rattle.std.proofs.Common.{arith}
use Rattle.std.proofs.lemmas.Result.{on_err_weaker}
use Rattle.budget_journal.specs.Journals.{mark_at}
use Rattle.budget_journal.proofs.Room.{if_ok_both, told-room-here, told-room-added, told-room-not-added}
use Rattle.budget_journal.proofs.growing.make_room.Goals as goal

pub returns-then-used-live-clause-made : goal.returns-then-used-live-clause-made
returns-then-used-live-clause-made g c =
    let live = c.args.live.now in
    told-room-here (mark_at live c.args.used) (omega (arith, live.counted)) (g.D.Disk.trace c.args.disk.now)

pub returns-else-used-live-clause-made : goal.returns-else-used-live-clause-made
returns-else-used-live-clause-made g c =
    let live = c.args.live.now in
    if_ok_both c.add_area.result c.add_area.ensures.added c.add_area.ensures.next
    (λ area told is. told-room-added (mark_at live c.args.used) (omega (arith, live.counted)) c.requires area.number is.2 (g.D.Disk.trace c.args.disk.now)
    (g.D.Disk.trace c.add_area.new.disk) told)

pub returns-else-used-live-clause-refused : goal.returns-else-used-live-clause-refused
returns-else-used-live-clause-refused g c =
    let live = c.args.live.now in
    on_err_weaker c.add_area.result
    (told-room-not-added (mark_at live c.args.used) (omega (arith, live.counted)) c.requires (g.D.Disk.trace c.args.disk.now) (g.D.Disk.trace c.add_area.new.disk))
    c.add_area.ensures.refused
