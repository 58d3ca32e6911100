use Rattle.std.proofs.Common.{map, string_bytes}
use Rattle.command_words.specs.Command.{command_of}
use Rattle.query_server.proofs.Diskless.{disk_status}
use Rattle.query_server.proofs.Home.{at_home_again, home_again}
use Rattle.query_server.proofs.Outcomes.{all_written, failed_by, finished_due, finished_map, held_written, runs_left, silent_by, taken_with, told_written}
use Rattle.query_server.specs.Outside.{doors_in}
use Rattle.query_server.proofs.Doors.{listens_or_same, stays_or_same}
use Rattle.query_server.proofs.Services.{services_left}
use Rattle.query_server.proofs.Valid.{complete_by, no_cause, no_disk_cause}
use Rattle.query_server.proofs.server.run_server.Goals as goal

pub returns-clause-line : goal.returns-clause-line
returns-clause-line g c =
    let done = c.finish.ensures.written in
    let written = all_written _ _ _ _ _ _ _ _ _ _ done.2 c.run_command-end.ensures.end in
    (done.0, done.1, written)

pub returns-clause-headline : goal.returns-clause-headline
returns-clause-headline g c = λ takes.
    let done = c.finish.ensures.written in
    (done.0, done.1, runs_left _ _ _ _ _ _ _ _ _ _ takes done.2 c.run_command-end.ensures.end)

pub returns-clause-service : goal.returns-clause-service
returns-clause-service g c = λ listens.
    let done = c.finish.ensures.written in
    services_left (map string_bytes c.args.words.now) _ _ _ _ _ _ c.run_command-end.result c.finish.result done.0 _ _ done.2 c.finish.ensures.fault (c.run_command-end.ensures.service listens)

pub returns-clause-status : goal.returns-clause-status
returns-clause-status g c = λ told script files source.
    let done = c.finish.ensures.written in
    let w = told_written _ told script _ _ _ _ _ _ _ _ _ done.2 c.run_command-end.ensures.end files source in
    finished_map _ _ _ (λ due. (done.0, due)) (finished_due _ _ _ script _ done.0 w.0)

pub returns-clause-complete : goal.returns-clause-complete
returns-clause-complete g c = λ told files valid no_file no_source no_sink no_bay no_disk no_door.
    let done = c.finish.ensures.written in
    let status = c.finish.result in
    let w = held_written _ told _ _ _ _ _ _ _ _ _ done.2 c.run_command-end.ensures.end files in
    complete_by _ _ _ w.0 status done.0 valid
    (λ fault. no_cause c.run_command-end.result no_file no_source no_door no_sink (c.finish.ensures.fault fault) c.run_command-end.ensures.cause)
    (λ fault. (let end = disk_status c.run_command-end.result status done.0 done.2 fault in no_disk_cause no_bay no_disk (c.run_command-end.ensures.disk end.0 end.1).1)) w.1.0

pub returns-clause-taken : goal.returns-clause-taken
returns-clause-taken g c =
    let done = c.finish.ensures.written in (
      taken_with (command_of (map string_bytes c.args.words.now)) _ _ c.run_command-end.result c.finish.result done.0 done.2 c.run_command-end.ensures.taken,
      c.run_command-end.ensures.unread,
      c.run_command-end.ensures.untaken,
    )

pub returns-clause-kept : goal.returns-clause-kept
returns-clause-kept g c =
    let end = c.run_command-end.ensures.end in
    let back = home_again g.B.Bay.shelf (map string_bytes c.args.words.now) c.args.bay.now c.run_command-end.new.bay end.0 end.1 c.run_command-end.result c.run_command-end.ensures.still end.4.0 in (
      c.run_command-end.ensures.files.0,
      c.run_command-end.ensures.bay.0,
      at_home_again _ _ _ _ c.run_command-end.ensures.bay.0 c.requires.home back,
      back,
    )

pub returns-clause-untouched : goal.returns-clause-untouched
returns-clause-untouched g c = (
  c.run_command-end.ensures.still,
  c.run_command-end.ensures.unmoved,
  listens_or_same c.run_command-end.ensures.doors,
  c.run_command-end.ensures.unposted,
  λ none. (c.run_command-end.ensures.idle none).0,
)

pub returns-clause-counts : goal.returns-clause-counts
returns-clause-counts g c = (
  c.run_command-end.ensures.files.1,
  c.run_command-end.ensures.bay.1,
  c.run_command-end.ensures.source,
  c.finish.ensures.sink,
  stays_or_same (λ (doors : _). doors_in g.O.Doors.coming g.O.Doors.served g.O.Doors.faults doors.items) _ _ c.run_command-end.ensures.doors,
)

pub returns-clause-fault : goal.returns-clause-fault
returns-clause-fault g c = λ fault.
    let done = c.finish.ensures.written in
    let end = c.run_command-end.result in (
      failed_by (command_of (map string_bytes c.args.words.now)) end (c.finish.ensures.fault fault) c.run_command-end.ensures.cause (λ none. (c.run_command-end.ensures.idle none).1),
      silent_by end done.0 c.finish.result _ _ _ done.2 done.1 (c.finish.ensures.fault fault),
    )

pub returns-clause-disk : goal.returns-clause-disk
returns-clause-disk g c = λ is.
    let done = c.finish.ensures.written in
    let end = disk_status c.run_command-end.result c.finish.result done.0 done.2 is in
    c.run_command-end.ensures.disk end.0 end.1

pub returns-clause-lost : goal.returns-clause-lost
returns-clause-lost g c = λ is.
    let done = c.finish.ensures.written in
    let end = disk_status c.run_command-end.result c.finish.result done.0 done.2 is in
    c.run_command-end.ensures.lost end.0 end.1
