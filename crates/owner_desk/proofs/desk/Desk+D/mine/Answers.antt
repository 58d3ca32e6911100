use Rattle.std.proofs.Common.{sym, ◌≡◌, ◌∙◌, subst}
use Rattle.owner_lock.specs.Passes.{known}
use Rattle.budget_core.specs.Answers.{mine_of}
use Rattle.budget_core.specs.Ledger.{Ledger}
use Rattle.owner_desk.specs.Passes.{ledger_on}
use Rattle.owner_desk.specs.Answers.{HasLooked}
use Rattle.owner_desk.specs.Watched.{Watched}
use Rattle.owner_desk.specs.Shared.{Shared, opened_in, pass_with}
use Rattle.owner_desk.proofs.Calls.{has_looked}
use Rattle.owner_desk.proofs.desk.Desk+D.mine.Goals as goal

pub returns-clause-told : goal.returns-clause-told
returns-clause-told g c =
    let (x, y, meets, called, after) = c.with.ensures.ran in
    let v = known c.pass.inside.ticket in
    let w = known c.with.new.pass in
    let still : x ≡ y = sym called.shows ∙ (sym called.met.1.1 ∙ called.leaves) in
    let told : c.with.result ≡ mine_of (ledger_on x.opened x.records) c.args.analyst =
    subst (λ (z : Watched). c.with.result ≡ mine_of (ledger_on z.opened z.records) c.args.analyst) called.shows called.met.0 in
    subst (λ (p : Shared). HasLooked p.knows (λ (ledger : Ledger). c.with.result ≡ mine_of ledger c.args.analyst) (pass_with (opened_in w.fixed) w)) c.pass.view_is
    (has_looked (opened_in v.fixed) v w x y meets after c.pass.invariant (λ (ledger : Ledger). c.with.result ≡ mine_of ledger c.args.analyst) told still)

pub returns-clause-limited : goal.returns-clause-limited
returns-clause-limited g c = c.with.ensures.ran.3.met.1.0
