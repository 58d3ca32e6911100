use Rattle.std.proofs.Common.{sym, subst}
use Rattle.budget_core.specs.Granting.{MayGrant}
use Rattle.budget_core.specs.Ledger.{Ledger}
use Rattle.budget_core.proofs.RunLemmas.{run-Grant}
use Rattle.budget_core.proofs.ledger.Ledger.grant.Goals as goal

pub invariant_of-self : goal.invariant_of-self
invariant_of-self c =
    let may = subst (λ (b : Ledger). MayGrant b c.args.grant.now) (sym c.self.view_is) c.requires in
    run-Grant c.self.inside c.add.new.self c.args.grant.now c.self.invariant may c.add.ensures

pub returns-clause-sound : goal.returns-clause-sound
returns-clause-sound c = (invariant_of-self c).sound
