use Rattle.std.proofs.Common.{◌≡◌, ◌+◌, sym, ap, ◌∙◌, subst, ⊎_elim}
use mathlib.Core.List.{IsPrefix}
use Rattle.owner_lock.specs.Passes.{known}
use Rattle.owner_desk.specs.Noted.{records_in, failure_in}
use Rattle.owner_desk.proofs.Lists.{records_prefix, failure_prefix, told_ascends}
use Rattle.owner_desk.proofs.Calls.{joined_own, joined_faults}
use Rattle.owner_desk.proofs.desk.Desk+D.join.Goals as goal

pub returns-clause-seen : goal.returns-clause-seen
returns-clause-seen g c =
    let v = known c.pass.inside.ticket in
    let w = known c.other.inside.ticket in
    let u = known c.join.new.pass in
    let longer = c.join.ensures.longer in
    rw (← c.pass.view_is, ← c.other.view_is) (records_prefix v.seen u.seen longer.0, records_prefix w.seen u.seen longer.1)

pub returns-clause-own : goal.returns-clause-own
returns-clause-own g c =
    let v = known c.pass.inside.ticket in
    let w = known c.other.inside.ticket in
    let u = known c.join.new.pass in
    rw (← c.pass.view_is, ← c.other.view_is) (joined_own v w u c.join.ensures.joined)

pub returns-clause-apart : goal.returns-clause-apart
returns-clause-apart g c = told_ascends 0 (known c.join.new.pass).own c.join.ensures.apart

pub returns-clause-faults : goal.returns-clause-faults
returns-clause-faults g c =
    let v = known c.pass.inside.ticket in
    let w = known c.other.inside.ticket in
    let u = known c.join.new.pass in
    rw (← c.pass.view_is, ← c.other.view_is) (joined_faults v w u c.join.ensures.joined)

pub returns-clause-failure : goal.returns-clause-failure
returns-clause-failure g c =
    let v = known c.pass.inside.ticket in
    let w = known c.other.inside.ticket in
    let u = known c.join.new.pass in
    let longer = c.join.ensures.longer in
    rw (← c.pass.view_is, ← c.other.view_is) (λ failure seen. ⊎_elim (λ mine. failure_prefix v.seen u.seen failure longer.0 mine) (λ others. failure_prefix w.seen u.seen failure longer.1 others) seen)
