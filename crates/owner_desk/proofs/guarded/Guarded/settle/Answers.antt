use Rattle.budget_ledger.specs.Account.{Account}
use Rattle.budget_ledger.specs.Booked.{IsSettlementOf}
use Rattle.owner_desk.proofs.Steps.{sole_settled}
use Rattle.owner_desk.proofs.Watching.{said_of}
use Rattle.owner_desk.proofs.guarded.Guarded.settle.Goals as goal

pub invariant_of-self : goal.invariant_of-self
invariant_of-self g c =
    sole_settled c.self.inside.opened.value c.self.inside.book c.settle.new.self c.args.number c.args.outcome c.settle.result c.self.invariant c.settle.ensures.answer c.settle.ensures.went c.settle.ensures.kept

pub returns-clause-settled : goal.returns-clause-settled
returns-clause-settled g c =
    let sole = sole_settled c.self.inside.opened.value c.self.inside.book c.settle.new.self c.args.number c.args.outcome c.settle.result c.self.invariant c.settle.ensures.answer c.settle.ensures.went c.settle.ensures.kept in
    rw (← c.self.view_is) (said_of c.self.inside.opened.value c.self.inside.book c.settle.new.self c.self.invariant.gone sole.gone
    (λ (a b : Account). IsSettlementOf a c.args.number c.args.outcome c.settle.result b) c.settle.ensures.answer)
