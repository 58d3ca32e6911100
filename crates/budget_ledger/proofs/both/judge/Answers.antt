use Rattle.std.proofs.Common.{◌≡◌, List, None, subst}
use Rattle.journal_records.specs.declared.records.Record.{Record}
use Rattle.budget_ledger.specs.Joined.{IsWholeHalf, HalfLevelled}
use Rattle.budget_ledger.specs.Kept.{HoldsHalf}
use Rattle.budget_ledger.proofs.BothJoins.{found_as, judged_by, book_by}
use Rattle.budget_ledger.proofs.both.judge.Goals as goal

pub invariant_of-result : goal.invariant_of-result
invariant_of-result g c =
    let trace = g.D.Disk.trace in
    let faults = g.D.Disk.faults in
    let joined = c.args.joined in
    let is = found_as trace faults c.args.header.now c.args.entry c.with_version.result joined c.in-Ok.ledger c.in-Ok.ensures.found c.with_version.ensures in
    book_by trace faults c.args.header.now c.args.entry joined c.in-Ok.ledger c.level_half.new.half c.level_half-in-Ok.new.half is
    c.requires.fresh c.requires.budget c.requires.capacity c.in-Ok.ensures.sound
    (λ common of. subst (λ (rs : List Record). HoldsHalf trace faults common rs None c.level_half.new.half) c.records.ensures (c.level_half.ensures.holds common of))
    (λ common of. subst (λ (rs : List Record). HoldsHalf trace faults common rs None c.level_half-in-Ok.new.half) c.records-in-Ok.ensures
    (c.level_half-in-Ok.ensures.holds common of))
    (subst (λ (rs : List Record). IsWholeHalf rs joined.first → c.level_half.new.half ≡ joined.first) c.records.ensures c.level_half.ensures.whole)
    (subst (λ (rs : List Record). IsWholeHalf rs joined.second → c.level_half-in-Ok.new.half ≡ joined.second) c.records-in-Ok.ensures c.level_half-in-Ok.ensures.whole)

pub returns-in-Ok-clause-judged : goal.returns-in-Ok-clause-judged
returns-in-Ok-clause-judged g c =
    let trace = g.D.Disk.trace in
    let faults = g.D.Disk.faults in
    let joined = c.args.joined in
    let is = found_as trace faults c.args.header.now c.args.entry c.with_version.result joined c.in-Ok.ledger c.in-Ok.ensures.found c.with_version.ensures in
    judged_by trace faults c.args.header.now c.args.entry joined c.in-Ok.ledger c.level_half.new.half c.level_half-in-Ok.new.half is
    (subst (λ (rs : List Record). HalfLevelled trace faults rs joined.first c.level_half.new.half) c.records.ensures c.level_half.ensures.levelled)
    (subst (λ (rs : List Record). HalfLevelled trace faults rs joined.second c.level_half-in-Ok.new.half) c.records-in-Ok.ensures c.level_half-in-Ok.ensures.levelled)

pub returns-in-Ok-clause-book : goal.returns-in-Ok-clause-book
returns-in-Ok-clause-book g c = (invariant_of-result g c).book
