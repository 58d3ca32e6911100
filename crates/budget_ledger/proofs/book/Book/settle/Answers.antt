use Rattle.std.proofs.Common.{subst, sym}
use Rattle.journal_records.specs.declared.records.Record.TheVariants.{Settle}
use Rattle.budget_core.proofs.LegalLemmas.{may-settle}
use Rattle.budget_core.specs.Ledger.{IsUnsettled}
use Rattle.budget_ledger.specs.Account.{Account}
use Rattle.budget_ledger.specs.Booked.{IsSettlementOf}
use Rattle.budget_ledger.specs.Kept.{account_in}
use Rattle.budget_ledger.proofs.Verdicts.{is-unsettled}
use Rattle.budget_ledger.proofs.Writes.{settlement_fits, may_append, written_holds, written_went, stopped_holds, stopped_went, stopped_unwritten}
use Rattle.budget_ledger.proofs.book.Book.settle.Goals as goal

pub append-requires-clause-ready : goal.append-requires-clause-ready
append-requires-clause-ready g c =
    let unsettled : IsUnsettled c.self.inside.ledger c.args.number = subst (λ (a : Account). IsUnsettled a.ledger c.args.number) (sym c.self.view_is) c.requires in
    may_append g.D.Disk.trace g.D.Disk.faults c.self.inside.ledger c.self.inside.header (Settle c.settlement-settlement.result) c.self.inside.store c.self.inside.failure c.self.invariant
    (λ none. settlement_fits c.self.inside.ledger c.args.number c.args.outcome c.self.invariant.book.sound unsettled)

pub invariant_of-self-2 : goal.invariant_of-self-2
invariant_of-self-2 g c =
    let unsettled : IsUnsettled c.self.inside.ledger c.args.number = subst (λ (a : Account). IsUnsettled a.ledger c.args.number) (sym c.self.view_is) c.requires in
    written_holds g.D.Disk.trace g.D.Disk.faults c.self.inside.ledger c.self.inside.header (Settle c.settlement-settlement.result) c.self.inside.store c.append.new.store
    c.self.inside.failure c.append.new.failure c.self.invariant
    (λ none. settlement_fits c.self.inside.ledger c.args.number c.args.outcome c.self.invariant.book.sound unsettled)
    c.in_ok-append.ensures.written c.settle.new.self c.settle.ensures.after c.settle.ensures.sound

pub returns-clause-went : goal.returns-clause-went
returns-clause-went g c =
    let unsettled : IsUnsettled c.self.inside.ledger c.args.number = subst (λ (a : Account). IsUnsettled a.ledger c.args.number) (sym c.self.view_is) c.requires in
    let went = written_went g.D.Disk.trace g.D.Disk.faults c.self.inside.ledger c.self.inside.header (Settle c.settlement-settlement.result) c.self.inside.store c.append.new.store
    c.self.inside.failure c.append.new.failure c.self.invariant
    (λ none. settlement_fits c.self.inside.ledger c.args.number c.args.outcome c.self.invariant.book.sound unsettled)
    c.in_ok-append.ensures.written c.settle.new.self c.settle.ensures.after c.settle.ensures.sound in
    rw (← c.self.view_is) went

pub returns-clause-kept : goal.returns-clause-kept
returns-clause-kept g c = (invariant_of-self-2 g c).book

pub invariant_of-self : goal.invariant_of-self
invariant_of-self g c =
    let unsettled : IsUnsettled c.self.inside.ledger c.args.number = subst (λ (a : Account). IsUnsettled a.ledger c.args.number) (sym c.self.view_is) c.requires in
    stopped_holds g.D.Disk.trace g.D.Disk.faults c.self.inside.ledger c.self.inside.header (Settle c.settlement-settlement.result) c.self.inside.store c.append.new.store
    c.self.inside.failure c.append.new.failure c.self.invariant
    (λ none. settlement_fits c.self.inside.ledger c.args.number c.args.outcome c.self.invariant.book.sound unsettled)
    (may-settle c.self.inside.ledger c.settlement-settlement.result c.settlement-settlement.ensures.may) _ c.in_err-append.ensures.stopped

pub returns-in_err-append-clause-answer : goal.returns-in_err-append-clause-answer
returns-in_err-append-clause-answer g c =
    let unsettled : IsUnsettled c.self.inside.ledger c.args.number = subst (λ (a : Account). IsUnsettled a.ledger c.args.number) (sym c.self.view_is) c.requires in
    let old = account_in g.D.Disk.trace g.D.Disk.faults c.self.inside.ledger c.self.inside.header c.self.inside.store c.self.inside.failure in
    let new = account_in g.D.Disk.trace g.D.Disk.faults c.self.inside.ledger c.self.inside.header c.append.new.store c.append.new.failure in
    let unwritten = stopped_unwritten g.D.Disk.trace g.D.Disk.faults c.self.inside.ledger c.self.inside.header (Settle c.settlement-settlement.result) c.self.inside.store c.append.new.store
    c.self.inside.failure c.append.new.failure c.self.invariant
    (λ none. settlement_fits c.self.inside.ledger c.args.number c.args.outcome c.self.invariant.book.sound unsettled)
    (may-settle c.self.inside.ledger c.settlement-settlement.result c.settlement-settlement.ensures.may) _ c.in_err-append.ensures.stopped in
    let said = is-unsettled old new c.args.number c.args.outcome c.settlement-settlement.result _ c.from_residual.result c.settlement-settlement.ensures.settlement unwritten
    c.from_residual.ensures.1 in
    subst (λ (a : Account). IsSettlementOf a c.args.number c.args.outcome c.from_residual.result new) c.self.view_is said

pub returns-in_err-append-clause-went : goal.returns-in_err-append-clause-went
returns-in_err-append-clause-went g c =
    let unsettled : IsUnsettled c.self.inside.ledger c.args.number = subst (λ (a : Account). IsUnsettled a.ledger c.args.number) (sym c.self.view_is) c.requires in
    let went = stopped_went g.D.Disk.trace g.D.Disk.faults c.self.inside.ledger c.self.inside.header (Settle c.settlement-settlement.result) c.self.inside.store c.append.new.store
    c.self.inside.failure c.append.new.failure c.self.invariant
    (λ none. settlement_fits c.self.inside.ledger c.args.number c.args.outcome c.self.invariant.book.sound unsettled)
    (may-settle c.self.inside.ledger c.settlement-settlement.result c.settlement-settlement.ensures.may) _ c.in_err-append.ensures.stopped in
    rw (← c.self.view_is) went

pub returns-in_err-append-clause-kept : goal.returns-in_err-append-clause-kept
returns-in_err-append-clause-kept g c = (invariant_of-self g c).book
