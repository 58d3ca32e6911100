use Rattle.std.proofs.Common.{ℕ, ◌+◌, sym, ◌∙◌, ap, arith}
use Rattle.partition_charge.proofs.Charges.{cost-with-whole, cost-with-part, part-within, view-within}
use Rattle.partition_charge.proofs.Standing.{sums-at}
use Rattle.partition_charge.proofs.costs.Costs.after.Goals as goal

pub overflow_add-result : goal.overflow_add-result
overflow_add-result c =
    let room = c.requires.room in
    omega (arith, room.1.spent, room.2, cost-with-whole room.0 c.args.view c.args.amount c.in-Whole.is)

pub index-requires : goal.index-requires
index-requires c =
    let room = c.requires.room in
    let within = view-within room.0 c.args.view c.args.amount c.in-Part.partition c.in-Part.part c.requires.view c.in-Part.is in
    omega (arith, room.1.count, within.0)

pub rise-requires-clause-ordered : goal.rise-requires-clause-ordered
rise-requires-clause-ordered c =
    let room = c.requires.room in
    let within = view-within room.0 c.args.view c.args.amount c.in-Part.partition c.in-Part.part c.requires.view c.in-Part.is in
    let at = sums-at c.args.self.now room.0 c.in-Part.partition c.index.result.now room.1 within.0 c.index.ensures in
    at.ordered

pub rise-requires-clause-fits : goal.rise-requires-clause-fits
rise-requires-clause-fits c =
    let room = c.requires.room in
    let within = view-within room.0 c.args.view c.args.amount c.in-Part.partition c.in-Part.part c.requires.view c.in-Part.is in
    let at = sums-at c.args.self.now room.0 c.in-Part.partition c.index.result.now room.1 within.0 c.index.ensures in
    omega (
      arith,
      at.sums c.in-Part.part,
      room.2,
      part-within room.0 c.args.view c.args.amount c.in-Part.partition c.in-Part.part c.requires.view c.in-Part.is,
    )

pub overflow_add-result-in-Part : goal.overflow_add-result-in-Part
overflow_add-result-in-Part c =
    let room = c.requires.room in
    let within = view-within room.0 c.args.view c.args.amount c.in-Part.partition c.in-Part.part c.requires.view c.in-Part.is in
    let at = sums-at c.args.self.now room.0 c.in-Part.partition c.index.result.now room.1 within.0 c.index.ensures in
    omega (
      arith,
      c.rise.ensures,
      at.sums c.in-Part.part,
      at.greatest,
      room.1.spent,
      room.2,
      cost-with-part room.0 c.args.view c.args.amount c.in-Part.partition c.in-Part.part c.requires.view c.in-Part.is,
    )

pub returns-in-Whole : goal.returns-in-Whole
returns-in-Whole c charges stands = ap (λ (n : ℕ). n + c.args.amount) stands.spent ∙ sym (cost-with-whole charges c.args.view c.args.amount c.in-Whole.is)

pub returns-in-Part : goal.returns-in-Part
returns-in-Part c charges stands =
    let within = view-within charges c.args.view c.args.amount c.in-Part.partition c.in-Part.part c.requires.view c.in-Part.is in
    let at = sums-at c.args.self.now charges c.in-Part.partition c.index.result.now stands within.0 c.index.ensures in
    omega (
      arith,
      c.rise.ensures,
      at.sums c.in-Part.part,
      at.greatest,
      stands.spent,
      cost-with-part charges c.args.view c.args.amount c.in-Part.partition c.in-Part.part c.requires.view c.in-Part.is,
    )
