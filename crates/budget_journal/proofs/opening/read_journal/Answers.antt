use Rattle.std.proofs.Common.{◌≡◌, Some, ◌∙◌, ap, subst, sym}
use Rattle.std.proofs.lemmas.Result.{err_from_is_err_and}
use Rattle.outside_disks.specs.Disks.{seen_of, after, noted}
use Rattle.outside_disks.specs.Disks.Step.{Synced}
use Rattle.budget_journal.specs.Journals.{IsOpenFault}
use Rattle.budget_journal.specs.Opening.{JournalRead}
use Rattle.budget_journal.proofs.Scans.{read-fault, read-records}
use Rattle.budget_journal.proofs.opening.read_journal.Goals as goal

pub returns-in_err-records-clause-judged : goal.returns-in_err-records-clause-judged
returns-in_err-records-clause-judged g c t told =
    let header = c.args.header.now in
    let synced : g.D.Disk.trace c.read_header.new.disk ≡ Some (after Synced t) = c.in_ok-size.ensures.synced ∙ ap (noted Synced) told in
    let read = c.in_ok-size.ensures.judged t told in
    let fault = read-fault header (seen_of t) c.in_ok-size.size c.in_ok-size.live c.in_ok-size.version read c.in_err-records.field-0.0
    (c.in_err-records.ensures.judged (after Synced t) synced read.0) in
    let back = err_from_is_err_and c.from_residual-in_err-records.result c.from_residual-in_err-records.ensures.1 in
    subst (JournalRead header (seen_of t)) (sym back.1) (subst (IsOpenFault header (seen_of t)) (sym back.2) fault)

pub returns-clause-judged : goal.returns-clause-judged
returns-clause-judged g c t told =
    let header = c.args.header.now in
    let synced : g.D.Disk.trace c.read_header.new.disk ≡ Some (after Synced t) = c.in_ok-size.ensures.synced ∙ ap (noted Synced) told in
    let read = c.in_ok-size.ensures.judged t told in
    read-records header (seen_of t) c.in_ok-size.size c.in_ok-size.live c.in_ok-size.version read c.in_ok-records.records
    (c.in_ok-records.ensures.judged (after Synced t) synced read.0)
