use Rattle.std.proofs.Common.{◌≡◌, ◌∷◌, ◌++◌, [], Some, true, sym, ◌∙◌, arith}
use Rattle.journal_records.specs.Records.{settling_back}
use Rattle.budget_core.specs.Cost.{comes_back, charges_in}
use Rattle.budget_core.proofs.Backs.{back-rest, back-charged, charge-view}
use Rattle.budget_core.proofs.Costs.{cost_of-charges, cost_of-le-Settle, returned-nothing}
use Rattle.budget_core.proofs.KeptLemmas.{open-row, row-of}
use Rattle.budget_core.proofs.totals.Totals.returned.Goals as goal

pub returns-then-not-comes_back : goal.returns-then-not-comes_back
returns-then-not-comes_back c records told open_before =
    sym (returned-nothing c.args.entry.now records c.args.number c.args.outcome (sym c.comes_back.ensures ∙ c.if-not-comes_back.true))

pub index-row-requires : goal.index-row-requires
index-row-requires c = omega (arith, open-row c.args.entry.now c.requires.0 c.args.self.now c.args.number c.requires.1 c.requires.2)

pub back-requires-clause-view : goal.back-requires-clause-view
back-requires-clause-view c =
    let row = c.index-row.result.now in
    let is = row-of c.args.entry.now c.requires.0 c.args.self.now c.args.number row c.requires.1 c.requires.2 c.index-row.ensures in
    charge-view c.args.entry.now c.requires.0 c.requires.1.valid c.requires.1.history c.args.number (record { view = row.view; amount = row.charge }) is.charge

pub back-requires-clause-enough : goal.back-requires-clause-enough
back-requires-clause-enough c =
    let row = c.index-row.result.now in
    let is = row-of c.args.entry.now c.requires.0 c.args.self.now c.args.number row c.requires.1 c.requires.2 c.index-row.ensures in
    let back : comes_back c.args.entry.now (Some c.args.outcome) ≡ true = sym c.comes_back.ensures ∙ c.if-not-comes_back.false in
    back-charged c.args.entry.now c.requires.0 c.args.number 0 c.args.outcome back c.requires.1.history c.requires.2 (record { view = row.view; amount = row.charge })
    c.args.self.now.costs is.charge c.requires.1.costs

pub overflow_sub-result : goal.overflow_sub-result
overflow_sub-result c =
    let row = c.index-row.result.now in
    let records = c.requires.0 in
    let after = records ++ settling_back c.args.number c.args.outcome 0 ∷ [] in
    let is = row-of c.args.entry.now records c.args.self.now c.args.number row c.requires.1 c.requires.2 c.index-row.ensures in
    let back : comes_back c.args.entry.now (Some c.args.outcome) ≡ true = sym c.comes_back.ensures ∙ c.if-not-comes_back.false in
    let rest = back-rest c.args.entry.now records c.args.number 0 c.args.outcome back c.requires.1.history c.requires.2 (record { view = row.view; amount = row.charge }) is.charge in
    omega (
      arith,
      c.spent.ensures (charges_in c.args.entry.now records) c.requires.1.costs,
      c.back.ensures (charges_in c.args.entry.now records) (charges_in c.args.entry.now after) c.requires.1.costs rest,
      cost_of-charges c.args.entry.now records,
      cost_of-charges c.args.entry.now after,
      cost_of-le-Settle c.args.entry.now records c.args.number c.args.outcome 0,
    )

pub returns : goal.returns
returns c records told open_before =
    let row = c.index-row.result.now in
    let after = records ++ settling_back c.args.number c.args.outcome 0 ∷ [] in
    let is = row-of c.args.entry.now records c.args.self.now c.args.number row told open_before c.index-row.ensures in
    let back : comes_back c.args.entry.now (Some c.args.outcome) ≡ true = sym c.comes_back.ensures ∙ c.if-not-comes_back.false in
    let rest = back-rest c.args.entry.now records c.args.number 0 c.args.outcome back told.history open_before (record { view = row.view; amount = row.charge }) is.charge in
    omega (
      arith,
      c.spent.ensures (charges_in c.args.entry.now records) told.costs,
      c.back.ensures (charges_in c.args.entry.now records) (charges_in c.args.entry.now after) told.costs rest,
      cost_of-charges c.args.entry.now records,
      cost_of-charges c.args.entry.now after,
    )
