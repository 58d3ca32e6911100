use Rattle.std.proofs.Common.{arith}
use Rattle.journal_records.specs.declared.records.Record.TheVariants.{Grant}
use Rattle.budget_ledger.proofs.Wents.{went_self}
use Rattle.budget_ledger.proofs.Writes.{may_append, written_holds, written_went, stopped_holds, stopped_went}
use Rattle.budget_ledger.proofs.book.Book.grant.Goals as goal

pub returns-in-Err-clause-went : goal.returns-in-Err-clause-went
returns-in-Err-clause-went g c = went_self c.args.self.now.ledger.records c.args.self.now.storage

pub append-requires-clause-ready : goal.append-requires-clause-ready
append-requires-clause-ready g c =
    may_append g.D.Disk.trace g.D.Disk.faults c.self.inside.ledger c.self.inside.header (Grant c.grant_of-grant.result) c.self.inside.store c.self.inside.failure c.self.invariant
    (λ none. omega (arith, c.grant_of-grant.ensures.may.room))

pub invariant_of-self : goal.invariant_of-self
invariant_of-self g c =
    written_holds g.D.Disk.trace g.D.Disk.faults c.self.inside.ledger c.self.inside.header (Grant c.grant_of-grant.result) c.self.inside.store c.append.new.store
    c.self.inside.failure c.append.new.failure c.self.invariant (λ none. omega (arith, c.grant_of-grant.ensures.may.room)) c.in-Ok-append.ensures.written
    c.grant.new.self c.grant.ensures.after c.grant.ensures.sound

pub returns-in-Ok-append-clause-went : goal.returns-in-Ok-append-clause-went
returns-in-Ok-append-clause-went g c =
    let went = written_went g.D.Disk.trace g.D.Disk.faults c.self.inside.ledger c.self.inside.header (Grant c.grant_of-grant.result) c.self.inside.store c.append.new.store
    c.self.inside.failure c.append.new.failure c.self.invariant (λ none. omega (arith, c.grant_of-grant.ensures.may.room)) c.in-Ok-append.ensures.written
    c.grant.new.self c.grant.ensures.after c.grant.ensures.sound in
    rw (← c.self.view_is) went

pub returns-in-Ok-append-clause-kept : goal.returns-in-Ok-append-clause-kept
returns-in-Ok-append-clause-kept g c = (invariant_of-self g c).book

pub invariant_of-self-in-Err-append : goal.invariant_of-self-in-Err-append
invariant_of-self-in-Err-append g c =
    stopped_holds g.D.Disk.trace g.D.Disk.faults c.self.inside.ledger c.self.inside.header (Grant c.grant_of-grant.result) c.self.inside.store c.append.new.store
    c.self.inside.failure c.append.new.failure c.self.invariant (λ none. omega (arith, c.grant_of-grant.ensures.may.room))
    c.grant_of-grant.ensures.may.follows c.in-Err-append.fault c.in-Err-append.ensures.stopped

pub returns-in-Err-append-clause-went : goal.returns-in-Err-append-clause-went
returns-in-Err-append-clause-went g c =
    let went = stopped_went g.D.Disk.trace g.D.Disk.faults c.self.inside.ledger c.self.inside.header (Grant c.grant_of-grant.result) c.self.inside.store c.append.new.store
    c.self.inside.failure c.append.new.failure c.self.invariant (λ none. omega (arith, c.grant_of-grant.ensures.may.room))
    c.grant_of-grant.ensures.may.follows c.in-Err-append.fault c.in-Err-append.ensures.stopped in
    rw (← c.self.view_is) went

pub returns-in-Err-append-clause-kept : goal.returns-in-Err-append-clause-kept
returns-in-Err-append-clause-kept g c = (invariant_of-self-in-Err-append g c).book
