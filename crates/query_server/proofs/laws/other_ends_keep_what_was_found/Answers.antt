use Rattle.query_server.proofs.Found.{audits_keep, grants_keep, runs_keep, services_keep}
use Rattle.query_server.proofs.laws.other_ends_keep_what_was_found.Goals as goal

pub returns-clause-runs : goal.returns-clause-runs
returns-clause-runs c = runs_keep

pub returns-clause-audits : goal.returns-clause-audits
returns-clause-audits c = audits_keep

pub returns-clause-services : goal.returns-clause-services
returns-clause-services c = services_keep

pub returns-clause-grants : goal.returns-clause-grants
returns-clause-grants c = grants_keep
