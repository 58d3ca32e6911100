use Rattle.std.proofs.Common.{◌<◌, ◌≤◌, arith, length}
use Rattle.word_streams.specs.Draws.{draws_of}
use Rattle.owner_house.specs.House.{house_of}
use Rattle.query_server.specs.Run.{script_limit}
use Rattle.query_server.proofs.Contents.{any_left}
use Rattle.query_server.proofs.Ends.{left_at_end, left_too_long}
use Rattle.query_server.proofs.Ran.{none_yet, unread_passed, worked_as}
use Rattle.query_server.proofs.run.answer_over.Goals as goal

pub returns-in_err-script-clause-end : goal.returns-in_err-script-clause-end
returns-in_err-script-clause-end g c =
    let some = any_left (g.S.Source.left c.args.source.now) in
    (some.0, some.1, unread_passed (house_of c.args.house.now) (draws_of c.args.key) c.args.workers some.0 c.args.passes.now.knows c.in_err-script.field-0.0 c.from_residual.result c.requires.fresh c.from_residual.ensures.1)

pub returns-then-len-gt-SCRIPT_LIMIT-clause-end : goal.returns-then-len-gt-SCRIPT_LIMIT-clause-end
returns-then-len-gt-SCRIPT_LIMIT-clause-end g c =
    let long : script_limit < length c.in_ok-script.script.items = omega (arith, c.if-len-gt-SCRIPT_LIMIT.true, c.len.ensures) in
    let some = left_too_long _ _ c.in_ok-script.script.items c.in_ok-script.ensures.bytes long in (some.0, some.1, (some.2, none_yet (house_of c.args.house.now) c.args.passes.now.knows c.requires.fresh))

pub returns-clause-end : goal.returns-clause-end
returns-clause-end g c =
    let script = c.in_ok-script.script.items in
    let short : length script ≤ script_limit = omega (arith, c.if-len-gt-SCRIPT_LIMIT.false, c.len.ensures) in
    let at_end = c.in_ok-script.ensures.end (omega (arith, short, c.len.ensures)) in
    let house = house_of c.args.house.now in
    let text = c.in_ok-replies.replies.items in
    let old = c.args.passes.now.knows in
    let new = c.answer_script.new.passes.knows in (
      script,
      left_at_end _ _ script c.in_ok-script.ensures.bytes at_end,
      (short, worked_as house _ (draws_of c.args.key) c.args.workers _ script text old new c.new-streams.ensures.given c.deref.ensures.value c.in_ok-replies.ensures.worked),
    )
