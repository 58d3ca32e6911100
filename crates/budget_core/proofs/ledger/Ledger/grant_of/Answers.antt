use Rattle.std.proofs.Common.{◌≡◌, ◌∙◌, length, sym, ap, subst}
use Rattle.budget_core.specs.Counts.{grants_of}
use Rattle.budget_core.specs.Granting.{MayGrant}
use Rattle.budget_core.specs.Ledger.{Ledger}
use Rattle.budget_core.proofs.SoundLemmas.{may-raise}
use Rattle.budget_core.proofs.ledger.Ledger.grant_of.Goals as goal

pub returns-clause-may : goal.returns-clause-may
returns-clause-may c =
    let number : c.grants.result ≡ length (grants_of c.args.self.now.records) = c.grants.ensures ∙ ap (λ (l : Ledger). length (grants_of l.records)) c.self.view_is in
    subst (λ n. MayGrant c.args.self.now (record { number = n; amount = c.args.amount })) (sym number)
    (may-raise c.args.self.now c.args.amount c.requires.amount c.requires.granted)
