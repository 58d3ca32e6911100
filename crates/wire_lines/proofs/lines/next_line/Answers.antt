use Rattle.std.proofs.Common.{◌<◌, length, arith}
use Rattle.std.proofs.lemmas.Bool.Decides.{nat_tests}
use Rattle.wire_lines.proofs.Cuts.{first_line, last_line}
use Rattle.wire_lines.proofs.lines.next_line.Goals as goal

pub returns-in-Some-clause-lines : goal.returns-in-Some-clause-lines
returns-in-Some-clause-lines c = first_line c.args.script.now c.in-Some.line.now c.in-Some.after.now c.trim_cr.result.now c.in-Some.ensures.cut c.in-Some.ensures.first c.trim_cr.ensures

pub returns-in-None-clause-lines : goal.returns-in-None-clause-lines
returns-in-None-clause-lines c =
    let some : 0 < length c.args.script.now = grind (arith, nat_tests, c.if-is_empty.ensures) in
    last_line c.args.script.now c.trim_cr-in-None.result.now some c.in-None.ensures.none c.trim_cr-in-None.ensures
