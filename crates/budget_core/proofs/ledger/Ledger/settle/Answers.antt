use Rattle.std.proofs.Common.{sym, subst, arith}
use Rattle.budget_core.specs.Ledger.{Ledger, MaySettle}
use Rattle.budget_core.specs.Run.{ledger_in}
use Rattle.budget_core.proofs.LegalLemmas.{may-settle}
use Rattle.budget_core.proofs.RunLemmas.{run-open, run-Settle}
use Rattle.budget_core.proofs.SoundLemmas.{some-open}
use Rattle.budget_core.proofs.ledger.Ledger.settle.Goals as goal

pub add-requires-clause-follows : goal.add-requires-clause-follows
add-requires-clause-follows c =
    let may = subst (λ (b : Ledger). MaySettle b c.args.settlement.now) (sym c.self.view_is) c.requires in
    may-settle (ledger_in c.self.inside) c.args.settlement.now may

pub add-requires-clause-room : goal.add-requires-clause-room
add-requires-clause-room c =
    let may = subst (λ (b : Ledger). MaySettle b c.args.settlement.now) (sym c.self.view_is) c.requires in
    let k = c.self.invariant in
    omega (arith, k.sound.room, some-open (ledger_in c.self.inside) c.args.settlement.now.number k.sound may.unsettled)

pub overflow_sub-self : goal.overflow_sub-self
overflow_sub-self c =
    let may = subst (λ (b : Ledger). MaySettle b c.args.settlement.now) (sym c.self.view_is) c.requires in
    let k = c.self.invariant in
    omega (arith, run-open c.self.inside k, some-open (ledger_in c.self.inside) c.args.settlement.now.number k.sound may.unsettled)

pub invariant_of-self : goal.invariant_of-self
invariant_of-self c =
    let may = subst (λ (b : Ledger). MaySettle b c.args.settlement.now) (sym c.self.view_is) c.requires in
    run-Settle c.self.inside c.add.new.self c.args.settlement.now c.self.invariant may c.add.ensures

pub returns-clause-sound : goal.returns-clause-sound
returns-clause-sound c = (invariant_of-self c).sound
