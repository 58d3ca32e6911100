use Rattle.std.proofs.Common.{Err, sym, ◌∙◌, ap, subst, arith}
use Rattle.journal_records.specs.declared.records.Reservation.{Reservation}
use Rattle.journal_records.specs.declared.records.Record.TheVariants.{Reserve}
use Rattle.budget_core.specs.declared.entry.Grant.{Grant}
use Rattle.budget_core.specs.Ledger.{IsUnsettled}
use Rattle.budget_core.proofs.LegalLemmas.{granted}
use Rattle.budget_ledger.specs.Account.{Account}
use Rattle.budget_ledger.specs.Booked.{HasGained, IsUnwritten, IsReserved}
use Rattle.budget_ledger.specs.Kept.{account_in}
use Rattle.budget_ledger.specs.declared.book.BookFault.{BookFault}
use Rattle.budget_ledger.specs.declared.book.BookFault.TheVariants.{Unwritten}
use Rattle.budget_ledger.proofs.Verdicts.{is-refused, is-written, is-unwritten}
use Rattle.budget_ledger.proofs.Wents.{went_self}
use Rattle.budget_ledger.proofs.Writes.{may_append, written_holds, written_went, written_added, stopped_holds, stopped_went, stopped_unwritten}
use Rattle.budget_ledger.proofs.book.Book.reserve.Goals as goal

pub returns-in-Err-clause-answer : goal.returns-in-Err-clause-answer
returns-in-Err-clause-answer g c =
    let old = account_in g.D.Disk.trace g.D.Disk.faults c.self.inside.ledger c.self.inside.header c.self.inside.store c.self.inside.failure in
    let said = is-refused old c.args.ask.now c.in-Err.fault (sym c.verdict.ensures.verdict ∙ c.in-Err.is) in
    subst (λ (a : Account). IsReserved a c.args.ask.now (Err c.refused_by.result) a) c.self.view_is
    (subst (λ (fault : BookFault). IsReserved old c.args.ask.now (Err fault) old) (sym c.refused_by.ensures) said)

pub returns-in-Err-clause-went : goal.returns-in-Err-clause-went
returns-in-Err-clause-went g c = went_self c.args.self.now.ledger.records c.args.self.now.storage

pub append-requires-clause-ready : goal.append-requires-clause-ready
append-requires-clause-ready g c =
    let fits = (granted c.self.inside.ledger c.args.ask.now c.in-Ok.grant (sym c.verdict.ensures.verdict ∙ c.in-Ok.is)).fits in
    may_append g.D.Disk.trace g.D.Disk.faults c.self.inside.ledger c.self.inside.header (Reserve c.reservation-reservation.result) c.self.inside.store c.self.inside.failure c.self.invariant
    (λ none. omega (arith, fits))

pub invariant_of-self : goal.invariant_of-self
invariant_of-self g c =
    let fits = (granted c.self.inside.ledger c.args.ask.now c.in-Ok.grant (sym c.verdict.ensures.verdict ∙ c.in-Ok.is)).fits in
    written_holds g.D.Disk.trace g.D.Disk.faults c.self.inside.ledger c.self.inside.header (Reserve c.reservation-reservation.result) c.self.inside.store c.append.new.store
    c.self.inside.failure c.append.new.failure c.self.invariant (λ none. omega (arith, fits)) c.in-Ok-append.ensures.written
    c.reserve.new.self c.reserve.ensures.after c.reserve.ensures.sound

pub returns-in-Ok-append-clause-went : goal.returns-in-Ok-append-clause-went
returns-in-Ok-append-clause-went g c =
    let fits = (granted c.self.inside.ledger c.args.ask.now c.in-Ok.grant (sym c.verdict.ensures.verdict ∙ c.in-Ok.is)).fits in
    let went = written_went g.D.Disk.trace g.D.Disk.faults c.self.inside.ledger c.self.inside.header (Reserve c.reservation-reservation.result) c.self.inside.store c.append.new.store
    c.self.inside.failure c.append.new.failure c.self.invariant (λ none. omega (arith, fits)) c.in-Ok-append.ensures.written
    c.reserve.new.self c.reserve.ensures.after c.reserve.ensures.sound in
    rw (← c.self.view_is) went

pub returns-in-Err-append-clause-answer : goal.returns-in-Err-append-clause-answer
returns-in-Err-append-clause-answer g c =
    let grant = c.in-Ok.grant in
    let old = account_in g.D.Disk.trace g.D.Disk.faults c.self.inside.ledger c.self.inside.header c.self.inside.store c.self.inside.failure in
    let new = account_in g.D.Disk.trace g.D.Disk.faults c.self.inside.ledger c.self.inside.header c.append.new.store c.append.new.failure in
    let fits = (granted c.self.inside.ledger c.args.ask.now grant (sym c.verdict.ensures.verdict ∙ c.in-Ok.is)).fits in
    let unwritten = stopped_unwritten g.D.Disk.trace g.D.Disk.faults c.self.inside.ledger c.self.inside.header (Reserve c.reservation-reservation.result) c.self.inside.store c.append.new.store
    c.self.inside.failure c.append.new.failure c.self.invariant (λ none. omega (arith, fits))
    c.reservation-reservation.ensures.may.follows c.in-Err-append.fault c.in-Err-append.ensures.stopped in
    let said = is-unwritten old c.args.ask.now grant c.in-Err-append.fault new (sym c.verdict.ensures.verdict ∙ c.in-Ok.is)
    (subst (λ (r : Reservation). IsUnwritten old (Reserve r) c.in-Err-append.fault new) c.reservation-reservation.ensures.reservation unwritten) in
    subst (λ (a : Account). IsReserved a c.args.ask.now (Err (Unwritten c.in-Err-append.fault)) new) c.self.view_is said

pub returns-in-Ok-append-clause-answer : goal.returns-in-Ok-append-clause-answer
returns-in-Ok-append-clause-answer g c =
    let grant = c.in-Ok.grant in
    let old = account_in g.D.Disk.trace g.D.Disk.faults c.self.inside.ledger c.self.inside.header c.self.inside.store c.self.inside.failure in
    let new = account_in g.D.Disk.trace g.D.Disk.faults c.reserve.new.self c.self.inside.header c.append.new.store c.append.new.failure in
    let is = (granted c.self.inside.ledger c.args.ask.now grant (sym c.verdict.ensures.verdict ∙ c.in-Ok.is)).is in
    let number = ap (λ (r : Reservation). r.number) c.reservation-reservation.ensures.reservation ∙ sym (ap (λ (x : Grant). x.number) is) in
    let fits = (granted c.self.inside.ledger c.args.ask.now grant (sym c.verdict.ensures.verdict ∙ c.in-Ok.is)).fits in
    let gained = written_added g.D.Disk.trace g.D.Disk.faults c.self.inside.ledger c.self.inside.header (Reserve c.reservation-reservation.result) c.self.inside.store c.append.new.store
    c.self.inside.failure c.append.new.failure c.self.invariant (λ none. omega (arith, fits)) c.in-Ok-append.ensures.written c.reserve.new.self c.reserve.ensures.after in
    let said = is-written old c.args.ask.now grant new (sym c.verdict.ensures.verdict ∙ c.in-Ok.is)
    (subst (λ (r : Reservation). HasGained old (Reserve r) new) c.reservation-reservation.ensures.reservation gained)
    (subst (IsUnsettled c.reserve.new.self) number c.reserve.ensures.unsettled) in
    rw (← c.self.view_is) said

pub returns-in-Ok-append-clause-kept : goal.returns-in-Ok-append-clause-kept
returns-in-Ok-append-clause-kept g c = (invariant_of-self g c).book

pub invariant_of-self-in-Err-append : goal.invariant_of-self-in-Err-append
invariant_of-self-in-Err-append g c =
    let fits = (granted c.self.inside.ledger c.args.ask.now c.in-Ok.grant (sym c.verdict.ensures.verdict ∙ c.in-Ok.is)).fits in
    stopped_holds g.D.Disk.trace g.D.Disk.faults c.self.inside.ledger c.self.inside.header (Reserve c.reservation-reservation.result) c.self.inside.store c.append.new.store
    c.self.inside.failure c.append.new.failure c.self.invariant (λ none. omega (arith, fits))
    c.reservation-reservation.ensures.may.follows c.in-Err-append.fault c.in-Err-append.ensures.stopped

pub returns-in-Err-append-clause-went : goal.returns-in-Err-append-clause-went
returns-in-Err-append-clause-went g c =
    let fits = (granted c.self.inside.ledger c.args.ask.now c.in-Ok.grant (sym c.verdict.ensures.verdict ∙ c.in-Ok.is)).fits in
    let went = stopped_went g.D.Disk.trace g.D.Disk.faults c.self.inside.ledger c.self.inside.header (Reserve c.reservation-reservation.result) c.self.inside.store c.append.new.store
    c.self.inside.failure c.append.new.failure c.self.invariant (λ none. omega (arith, fits))
    c.reservation-reservation.ensures.may.follows c.in-Err-append.fault c.in-Err-append.ensures.stopped in
    rw (← c.self.view_is) went

pub returns-in-Err-append-clause-kept : goal.returns-in-Err-append-clause-kept
returns-in-Err-append-clause-kept g c = (invariant_of-self-in-Err-append g c).book
