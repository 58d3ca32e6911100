use mir.Syntax.{named}
use denote.Exit.{no}
use denote.RattleType.{RattleType}
use denote.Param.{param}
use denote.Param.Send.{IsSend, IsSync, arg_send, arg_sync, param_send, param_sync, plain_sync, recorded_sync, sendable, shr_slice_sync, shr_sync, struct_sync}
use denote.Struct.Declared.{shape}
use denote.Struct.Field.{u64-field}
use denote.Struct.Tuple.{TupleAt, field_at, type_at}
use Rattle.std.proofs.Crossing.{crosses}
use Rattle.std.proofs.alloc.Global.TheSendSync.{the_sync as global_sync}
use Rattle.outside_disks.specs.declared.disk.Disk
use Rattle.budget_ledger.specs.contracts.book.Book.{the_row as book_row}
use Rattle.owner_desk.specs.contracts.guarded.Guarded.{the_row as guarded_row}
use Rattle.owner_desk.specs.contracts.guarded.GuardedStandsFor.TheImpl.{ghosts as stands_ghosts, no_dict as no_stands_dict}
use Rattle.owner_desk.specs.contracts.held.Locked.{the_row as locked_row}
use Rattle.owner_desk.specs.contracts.held.OwnedGuardedLocks.TheImpl.{ghosts as locks_ghosts, no_dict as no_locks_dict}
use Rattle.owner_house.specs.contracts.house.House.{the_row as house_row}
use Rattle.owner_lock.specs.contracts.lock.Owned.{the_row as owned_row}
use Rattle.std.specs.contracts.alloc.Global.{the_row as global_row}
use Rattle.word_streams.specs.contracts.KeyStreams.{the_row as streams_row}
use Rattle.service_workers.specs.contracts.posting.Posting.{the_row as posting_row}
use Rattle.owner_desk.specs.contracts.noted.Noted.{the_row as noted_row}
use Rattle.owner_lock.specs.contracts.pass.Ticket.{the_row as ticket_row}
use Rattle.owner_desk.proofs.held.Locked.TheSendSync.{the_sync as locked_sync}
use Rattle.owner_house.proofs.house.House.TheSendSync.{the_sync as house_sync}
use Rattle.owner_lock.proofs.lock.Owned.TheSendSync.{the_sync as owned_sync}
use Rattle.owner_lock.proofs.pass.Ticket.TheSendSync.{the_send as ticket_send}
use Rattle.word_streams.proofs.KeyStreams.TheSendSync.{the_sync as streams_sync}
use Rattle.service_workers.proofs.posting.Posting.TheSendSync.{the_sync as posting_sync}
use Rattle.service_workers.proofs.worker.Worker.TheSendSync.{the_send as worker_send}
use Rattle.service_workers.proofs.crew.work.Lts as lts
use Rattle.service_workers.proofs.crew.work.Goals as goal

-- A book is what takes long to go through, with all that it holds: so it is gone through by itself.
guarded : (D : RattleType) (disk : Disk.Ghosts D.Denot) → IsSend D → IsSend (guarded_row D disk)
guarded D disk sent = search (crosses, sendable) depth 60 fits 20000

pub work_together-requires-send-T : goal.work_together-requires-send-T
work_together-requires-send-T g c κs within =
    let D = param 1 g.row.D in
    let passes = ticket_send (guarded_row D g.D.Disk) noted_row (book_row D g.D.Disk) (guarded D g.D.Disk c.type_bounds.send-D) in
    param_send 1 _ (arg_send _ no _ (worker_send (ticket_row (guarded_row D g.D.Disk) noted_row (book_row D g.D.Disk)) (param 3 g.row.O) _ passes c.type_bounds.send-O))

pub work_together-requires-sync-F : goal.work_together-requires-sync-F
work_together-requires-sync-F g c κs within =
    let D = param 1 g.row.D in
    let books : IsSend (guarded_row D g.D.Disk) = guarded D g.D.Disk c.type_bounds.send-D in
    let stands = stands_ghosts D g.D.Disk no_stands_dict in
    let locks = locks_ghosts D g.D.Disk no_locks_dict in
    let lock = owned_row (guarded_row D g.D.Disk) noted_row (book_row D g.D.Disk) stands in
    let name = lts.name-38 g.row.R g.row.D g.row.G g.row.O g.row.O-L g.R.laws g.D.laws g.G.laws g.O.laws g.O.L.laws g.R.Threads g.R.Threads-dict g.R.Wait g.R.Wait-dict g.D.Disk g.D.Disk-dict g.G.Gate g.G.Gate-dict g.O.Doors g.O.Doors-dict g.O.L.Link g.O.L.Link-dict g.O.Destruct-dict g.O.L.Destruct-dict in
    let fields = lts.of-18 g.row.R g.row.D g.row.G g.row.O g.row.O-L g.R.laws g.D.laws g.G.laws g.O.laws g.O.L.laws g.R.Threads g.R.Threads-dict g.R.Wait g.R.Wait-dict g.D.Disk g.D.Disk-dict g.G.Gate g.G.Gate-dict g.O.Doors g.O.Doors-dict g.O.L.Link g.O.L.Link-dict g.O.Destruct-dict g.O.L.Destruct-dict
    (record { mir = named 5; lft = κs.1.1.1.1.1.0 }) (record { mir = named 6; lft = κs.1.1.1.1.1.1.0 }) (record { mir = named 7; lft = κs.1.1.1.1.1.1.1.0 }) (record { mir = named 8; lft = κs.1.1.1.1.1.1.1.1.0 }) (record { mir = named 9; lft = κs.1.1.1.1.1.1.1.1.1.0 }) (record { mir = named 10; lft = κs.1.1.1.1.1.1.1.1.1.1.0 }) (record { mir = named 11; lft = κs.1.1.1.1.1.1.1.1.1.1.1.0 }) (record { mir = named 12; lft = κs.1.1.1.1.1.1.1.1.1.1.1.1.0 }) (record { mir = named 13; lft = κs.1.1.1.1.1.1.1.1.1.1.1.1.1.0 }) in
    let job = type_at name fields in
    param_sync 2 _ (arg_sync _ no (TupleAt name fields)
    (recorded_sync (field_at name fields).row _ _ job.to_one
    (struct_sync (shape job)
    (shr_sync _ _ (param 0 g.row.R) c.type_bounds.sync-R, (shr_sync _ _ global_row global_sync, (shr_sync _ _ house_row house_sync, (shr_slice_sync _ _ (locked_row lock locks) (locked_sync lock locks (owned_sync (guarded_row D g.D.Disk) noted_row (book_row D g.D.Disk) stands books)), (shr_sync _ _ streams_row streams_sync, (shr_sync _ _ (param 2 g.row.G) c.type_bounds.sync-G, (shr_sync _ _ (posting_row (record { mir = named 12; lft = κs.1.1.1.1.1.1.1.1.1.1.1.1.0 })) (posting_sync (record { mir = named 12; lft = κs.1.1.1.1.1.1.1.1.1.1.1.1.0 })), (shr_sync _ _ u64-field.row (plain_sync _ _ _ _ _), tt)))))))))))
