use Rattle.std.proofs.Common.{rules, sym, subst, arith}
use Rattle.journal_records.specs.Encoding.{MayReturn}
use Rattle.budget_core.proofs.Costs.{returned-may}
use Rattle.budget_core.proofs.ledger.Ledger.settlement.Goals as goal

pub returns-clause-valid : goal.returns-clause-valid
returns-clause-valid c = record {
  numbered = c.ranges.number.fits;
  settled = search rules;
  bounded = omega (arith, c.returned-returned.type_inv);
  gives_back = subst (MayReturn c.args.outcome) (sym c.returned-returned.ensures) (returned-may _ _ c.args.number c.args.outcome);
}
