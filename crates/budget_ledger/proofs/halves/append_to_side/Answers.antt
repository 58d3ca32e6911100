use Rattle.std.proofs.Common.{arith}
use Rattle.budget_ledger.proofs.halves.append_to_side.Goals as goal

pub overflow_add-side : goal.overflow_add-side
overflow_add-side g c =
    let none = c.in_ok-write_down.ensures.written.open_before in
    omega (arith, c.requires.ready.counted none, c.requires.ready.journal.room none, c.requires.ready.room)
