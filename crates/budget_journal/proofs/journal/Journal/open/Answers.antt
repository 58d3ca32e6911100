use Rattle.std.proofs.Common.{◌≡◌, length, rules, sym}
use Rattle.budget_journal.specs.Journals.{mark_at}
use Rattle.budget_journal.proofs.Scans.{told-found, told-marked}
use Rattle.budget_journal.proofs.journal.Journal.open.Goals as goal

pub returns-in-Ok-clause-found : goal.returns-in-Ok-clause-found
returns-in-Ok-clause-found g c =
    told-found (record c.args.header.now { version = c.in-Ok.version }) c.in-Ok.records.items (g.D.Disk.trace c.args.disk) (g.D.Disk.trace c.read_journal.new.disk) c.in-Ok.ensures.synced
    (λ t told. (c.in-Ok.ensures.judged t told).0)

pub returns-in-Ok-clause-marked : goal.returns-in-Ok-clause-marked
returns-in-Ok-clause-marked g c =
    let records = c.in-Ok.records.items in
    let count : length records ≡ c.len.result = search rules in
    told-marked (record c.args.header.now { version = c.in-Ok.version }) records (mark_at c.in-Ok.area c.len.result) (g.D.Disk.trace c.args.disk) (g.D.Disk.trace c.read_journal.new.disk)
    (sym c.in-Ok.ensures.capacity) count c.in-Ok.ensures.synced (λ t told. let all = c.in-Ok.ensures.judged t told in (all.1, all.2))
