use Rattle.std.proofs.Common.{List}
use Rattle.fz_ast.specs.Names.{name_of}
use Rattle.fz_ast.specs.Types.{Ty}
use Rattle.derivation_lines.specs.Held.{lines_in}
use Rattle.derivation_rows.specs.Placed.{number_of}
use Rattle.derivation_lines.specs.Said.{says_of}
use Rattle.fz_derive.proofs.Putting.{said_all, said_further, said_nothing}
use Rattle.fz_derive.proofs.least_line.said_of_each.Goals as goal

pub returns-in_default : goal.returns-in_default
returns-in_default c = λ T n h e.
    said_nothing c.args.names.now c.loop-name.name-index c.name-item.result n (says_of c.loop-name.says.items) c.in_default.field-0 (number_of (lines_in T c.args.lines.now) c.args.numbers.now (name_of c.name-item.result))
    c.loop-name-test.true c.name-item.is (c.in_default.ensures T) (h (name_of c.name-item.result)) (c.loop-name.invariant T n h)

pub loop-name-preserved : goal.loop-name-preserved
loop-name-preserved c = λ T n h.
    said_further c.args.names.now c.loop-name.name-index c.name-item.result n (says_of c.loop-name.says.items) (says_of c.put_said.new.says.items) c.in-Ok.amount (number_of (lines_in T c.args.lines.now) c.args.numbers.now (name_of c.name-item.result))
    c.loop-name-test.true c.name-item.is (c.in-Ok.ensures T) (h (name_of c.name-item.result)) c.in_ok-put_said.ensures (c.loop-name.invariant T n h)

pub returns : goal.returns
returns c = λ T n h. said_all c.args.names.now c.loop-name.name-index n (says_of c.loop-name.says.items) c.loop-name-test.false (c.loop-name.invariant T n h)
