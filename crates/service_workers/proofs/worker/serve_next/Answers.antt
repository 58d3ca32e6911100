use Rattle.std.proofs.Common.{ap}
use Rattle.held_sessions.specs.SessionCore.Bundles.{Bundle}
use Rattle.service_workers.proofs.Attending.{held_one}
use Rattle.service_workers.proofs.worker.serve_next.Goals as goal

pub returns-clause-held : goal.returns-clause-held
returns-clause-held g c =
    held_one _ _ _ _ _ _ _ _ _ _ _ _ _ _ _ _ c.serve-end.ensures.session (λ is. ap (λ (b : Bundle). b.knows) (c.serve-end.ensures.memory is))
    c.in_ok-link.ensures.come c.done.ensures.coming c.in_ok-link.ensures.served c.done.ensures.served c.in_ok-link.ensures.passed c.done.ensures.passed
