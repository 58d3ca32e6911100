use Rattle.std.proofs.Common.{◌≤◌, subst, arith}
use Rattle.partition_charge.specs.declared.view.View.{View}
use Rattle.partition_charge.specs.Cost.{charges_of}
use Rattle.partition_charge.proofs.Charges.{view-within, whole-within, partition-within, dearest-at}
use Rattle.partition_charge.proofs.Standing.{sums-at}
use Rattle.partition_charge.proofs.Rests.{cost-back-whole, cost-back-part, greatest-back-part}
use Rattle.partition_charge.proofs.costs.Costs.back.Goals as goal

pub overflow_sub-result : goal.overflow_sub-result
overflow_sub-result c =
    let enough = c.requires.enough in
    omega (
      arith,
      enough.1.spent,
      subst (λ (v : View). c.args.amount ≤ charges_of v enough.0) c.in-Whole.is enough.2,
      whole-within enough.0,
    )

pub index-parts-requires : goal.index-parts-requires
index-parts-requires c =
    let enough = c.requires.enough in
    let within = view-within enough.0 c.args.view c.args.amount c.in-Part.partition c.in-Part.part c.requires.view c.in-Part.is in
    omega (arith, enough.1.count, within.0)

pub greatest_without-requires-clause-ordered : goal.greatest_without-requires-clause-ordered
greatest_without-requires-clause-ordered c =
    let enough = c.requires.enough in
    let within = view-within enough.0 c.args.view c.args.amount c.in-Part.partition c.in-Part.part c.requires.view c.in-Part.is in
    let at = sums-at c.args.self.now enough.0 c.in-Part.partition c.index-parts.result.now enough.1 within.0 c.index-parts.ensures in
    at.ordered

pub greatest_without-requires-clause-enough : goal.greatest_without-requires-clause-enough
greatest_without-requires-clause-enough c =
    let enough = c.requires.enough in
    let within = view-within enough.0 c.args.view c.args.amount c.in-Part.partition c.in-Part.part c.requires.view c.in-Part.is in
    let at = sums-at c.args.self.now enough.0 c.in-Part.partition c.index-parts.result.now enough.1 within.0 c.index-parts.ensures in
    omega (
      arith,
      at.sums c.in-Part.part,
      subst (λ (v : View). c.args.amount ≤ charges_of v enough.0) c.in-Part.is enough.2,
    )

pub overflow_sub-result-in-Part : goal.overflow_sub-result-in-Part
overflow_sub-result-in-Part c =
    let enough = c.requires.enough in
    let within = view-within enough.0 c.args.view c.args.amount c.in-Part.partition c.in-Part.part c.requires.view c.in-Part.is in
    let at = sums-at c.args.self.now enough.0 c.in-Part.partition c.index-parts.result.now enough.1 within.0 c.index-parts.ensures in
    c.greatest_without.ensures.least c.index-parts.result.now.greatest (λ k. omega (arith, at.sums k, at.greatest, dearest-at enough.0 c.in-Part.partition k))

pub overflow_sub-result-in-Part-2 : goal.overflow_sub-result-in-Part-2
overflow_sub-result-in-Part-2 c =
    let enough = c.requires.enough in
    let within = view-within enough.0 c.args.view c.args.amount c.in-Part.partition c.in-Part.part c.requires.view c.in-Part.is in
    let at = sums-at c.args.self.now enough.0 c.in-Part.partition c.index-parts.result.now enough.1 within.0 c.index-parts.ensures in
    omega (arith, at.greatest, enough.1.spent, partition-within enough.0 c.in-Part.partition within.0)

pub returns-in-Whole : goal.returns-in-Whole
returns-in-Whole c charges rest stands is = omega (arith, stands.spent, cost-back-whole charges rest c.args.view c.args.amount is c.in-Whole.is)

pub returns-in-Part : goal.returns-in-Part
returns-in-Part c charges rest stands is =
    let within = view-within charges c.args.view c.args.amount c.in-Part.partition c.in-Part.part c.requires.view c.in-Part.is in
    let at = sums-at c.args.self.now charges c.in-Part.partition c.index-parts.result.now stands within.0 c.index-parts.ensures in
    let greatest = greatest-back-part charges rest c.args.view c.args.amount is c.in-Part.partition c.in-Part.part c.requires.view c.in-Part.is
    c.index-parts.result.now.sums.items c.greatest_without.result at.sums c.greatest_without.ensures.most c.greatest_without.ensures.least in
    omega (
      arith,
      stands.spent,
      at.greatest,
      greatest,
      cost-back-part charges rest c.args.view c.args.amount is c.in-Part.partition c.in-Part.part c.requires.view c.in-Part.is,
    )
