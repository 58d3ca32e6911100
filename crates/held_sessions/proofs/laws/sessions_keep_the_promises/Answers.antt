use Rattle.held_sessions.proofs.Promises.{row_keeps, crew_keeps, stretch_kept}
use Rattle.held_sessions.proofs.laws.sessions_keep_the_promises.Goals as goal

pub returns-clause-one : goal.returns-clause-one
returns-clause-one c = row_keeps

pub returns-clause-several : goal.returns-clause-several
returns-clause-several c house draws o found count crew sittings xs records owner earlier here inside begun all shifts =
    crew_keeps house draws o found count crew sittings xs records all.crews shifts owner here inside all earlier begun

pub returns-clause-stretch : goal.returns-clause-stretch
returns-clause-stretch c = stretch_kept
