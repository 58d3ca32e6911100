use Rattle.std.proofs.Common.{refl}
use mathlib.Core.Logic.{inl, inr}
use Rattle.service_workers.proofs.Attending.{attended_from, unattended}
use Rattle.service_workers.proofs.worker.attend.Goals as goal

pub returns-in-Ok-clause-attended : goal.returns-in-Ok-clause-attended
returns-in-Ok-clause-attended g c =
    attended_from _ _ _ _ _ _ _ _ _ _ _ _ _ c.in-Ok.ensures.coming c.in-Ok.ensures.served c.in-Ok.ensures.passed c.serve_each.ensures.attended

pub returns-in-Err-clause-attended : goal.returns-in-Err-clause-attended
returns-in-Err-clause-attended g c =
    unattended _ _ _ _ _ _ _ _ _ _ c.requires.some c.in-Err.ensures.coming c.in-Err.ensures.served c.in-Err.ensures.cause.later (c.in-Err.ensures.cause.failed refl)

pub returns-in-Ok-clause-posted : goal.returns-in-Ok-clause-posted
returns-in-Ok-clause-posted g c = inl (c.serve_each.ensures.there _ _ c.in-Ok.ensures.there)

pub returns-in-Err-clause-posted : goal.returns-in-Err-clause-posted
returns-in-Err-clause-posted g c = inr (c.in-Err.ensures.cause.failed refl)
