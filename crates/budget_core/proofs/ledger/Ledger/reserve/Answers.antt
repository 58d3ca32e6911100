use Rattle.std.proofs.Common.{◌+◌, sym, subst}
use Rattle.budget_core.specs.Ledger.{Ledger, MayReserve}
use Rattle.budget_core.proofs.RunLemmas.{run-Reserve, run-unsettled}
use Rattle.budget_core.proofs.ledger.Ledger.reserve.Goals as goal

pub invariant_of-self : goal.invariant_of-self
invariant_of-self c =
    let may = subst (λ (b : Ledger). MayReserve b c.args.reservation.now) (sym c.self.view_is) c.requires in
    run-Reserve c.self.inside c.add.new.self c.args.reservation.now c.self.invariant may c.add.ensures

pub returns-clause-sound : goal.returns-clause-sound
returns-clause-sound c = (invariant_of-self c).sound

pub returns-clause-unsettled : goal.returns-clause-unsettled
returns-clause-unsettled c =
    let may = subst (λ (b : Ledger). MayReserve b c.args.reservation.now) (sym c.self.view_is) c.requires in
    run-unsettled c.self.inside c.add.new.self c.args.reservation.now (c.self.inside.unsettled + 1) c.self.invariant may c.add.ensures
