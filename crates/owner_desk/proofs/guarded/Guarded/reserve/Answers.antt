use Rattle.budget_ledger.specs.Account.{Account}
use Rattle.budget_ledger.specs.Booked.{IsReserved}
use Rattle.owner_desk.proofs.Steps.{sole_reserved}
use Rattle.owner_desk.proofs.Watching.{said_of}
use Rattle.owner_desk.proofs.guarded.Guarded.reserve.Goals as goal

pub invariant_of-self : goal.invariant_of-self
invariant_of-self g c =
    sole_reserved c.self.inside.opened.value c.self.inside.book c.reserve.new.self c.args.asking.now c.reserve.result c.self.invariant c.reserve.ensures.answer c.reserve.ensures.went c.reserve.ensures.kept

pub returns-clause-reserved : goal.returns-clause-reserved
returns-clause-reserved g c =
    let sole = sole_reserved c.self.inside.opened.value c.self.inside.book c.reserve.new.self c.args.asking.now c.reserve.result c.self.invariant c.reserve.ensures.answer c.reserve.ensures.went c.reserve.ensures.kept in
    rw (← c.self.view_is) (said_of c.self.inside.opened.value c.self.inside.book c.reserve.new.self c.self.invariant.gone sole.gone
    (λ (a b : Account). IsReserved a c.args.asking.now c.reserve.result b) c.reserve.ensures.answer)
