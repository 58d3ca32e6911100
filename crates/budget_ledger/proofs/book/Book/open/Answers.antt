use Rattle.std.proofs.Common.{ℕ, ◌∙◌, ap, subst}
use Rattle.budget_core.specs.declared.answers.FoundFault.TheVariants.{Astray}
use Rattle.budget_core.specs.Answers.{IsFoundFault}
use Rattle.budget_core.specs.Entries.{Entry}
use Rattle.budget_core.specs.Legal.{IsFirstAstray}
use Rattle.budget_ledger.proofs.Opens.{told_astray}
use Rattle.budget_ledger.proofs.book.Book.open.Goals as goal

pub returns-in-Err-Astray-clause-refused : goal.returns-in-Err-Astray-clause-refused
returns-in-Err-Astray-clause-refused g c =
    let entry = c.args.entry in
    let records = c.in_ok-journal.records.items in
    let refused : IsFoundFault c.with_version.result records (Astray c.in-Err-Astray.slot)
    = subst (IsFoundFault c.with_version.result records) c.in-Err-Astray.field-0-is c.in-Err-Astray.ensures.refused in
    told_astray entry c.args.header.now c.in_ok-journal.journal.version records c.in-Err-Astray.slot (g.D.Disk.trace c.args.disk)
    (g.D.Disk.trace c.in_ok-journal.journal.disk) c.in_ok-journal.ensures.found
    (subst (λ (e : Entry). IsFirstAstray e records c.in-Err-Astray.slot)
    (c.with_version.ensures ∙ ap (λ (v : ℕ). record entry { version = v }) c.version-version.ensures) refused)
