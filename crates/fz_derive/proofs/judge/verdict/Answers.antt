use Rattle.std.proofs.Common.{refl, sym, ◌∙◌}
use Rattle.derivation_rows.proofs.Amounts.{line_of}
use Rattle.fz_derive.proofs.judge.verdict.Goals as goal

pub returns-in-Some-2-clause-fault : goal.returns-in-Some-2-clause-fault
returns-in-Some-2-clause-fault c =
    let v = c.args.walk.now.view in
    rw (line_of v.arena.now v.lines.now 0 c.index-walk-0.result c.requires.some, c.in-Some.ensures.0) (sym c.in_ok-at-in-Some.ensures ∙ c.in-Some-2.is)

pub returns-in-None-2-clause-ok : goal.returns-in-None-2-clause-ok
returns-in-None-2-clause-ok c =
    let v = c.args.walk.now.view in
    rw (line_of v.arena.now v.lines.now 0 c.index-walk-0.result c.requires.some, c.in-Some.ensures.0) (sym c.in_ok-at-in-Some.ensures ∙ c.in-None-2.is, c.in-Some.ensures.1)

pub returns-in-None-clause-fault : goal.returns-in-None-clause-fault
returns-in-None-clause-fault c =
    let v = c.args.walk.now.view in
    rw (line_of v.arena.now v.lines.now 0 c.index-walk-0.result c.requires.some, c.in-None.ensures) refl
