use Rattle.std.proofs.Common.{arith, ◌++◌, take, length, ◌≤◌, ◌≡◌, Ok, Err, OnErr, Result}
use Rattle.std.proofs.lemmas.Grind.{common_steps}
use Rattle.std.specs.Io.KnownBytes.{prepend_known}
use Rattle.fz_outside.proofs.Known.{taken-further}
use Rattle.fz_outside.proofs.source.read_up_to.Goals as goal

-- what holds anyway holds on an error
on_err : {T E P : Type 0} (r : Result T E) → P → OnErr r P
on_err (Ok value) holds = tt
on_err (Err error) holds = holds

pub returns-in_err-extend_from_slice-clause-err : goal.returns-in_err-extend_from_slice-clause-err
returns-in_err-extend_from_slice-clause-err g c =
    let taken = c.loop-buffer.bytes.items ++ take c.in_ok-n.n c.read.new.buf in
    let within : length taken ≤ c.args.limit = grind (arith, common_steps) in
    let in_front : g.S.Source.left c.args.source.now ≡ prepend_known taken (g.S.Source.left c.read.new.self)
    = taken-further _ _ _ _ _ c.loop-buffer.invariant.taken c.in_ok-n.ensures.bytes in
    on_err c.from_residual-in_err-extend_from_slice.result (taken, within, in_front)
