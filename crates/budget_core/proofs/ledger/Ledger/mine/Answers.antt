use Rattle.std.proofs.Common.{◌∙◌, ap}
use Rattle.budget_core.specs.Entries.{Entry, limit_of}
use Rattle.budget_core.specs.Run.{ledger_in}
use Rattle.budget_core.proofs.SoundLemmas.{mine-limited}
use Rattle.budget_core.proofs.ledger.Ledger.mine.Goals as goal

pub returns-clause-limited : goal.returns-clause-limited
returns-clause-limited c =
    mine-limited (ledger_in c.self.inside) c.args.analyst c.limit.result c.spent_by.result c.self.invariant.sound
    (c.limit.ensures ∙ ap (λ (e : Entry). limit_of e c.args.analyst) c.entry.ensures) c.spent_by.ensures
