use Rattle.held_sessions.proofs.Promises.{row_owed, crew_owed}
use Rattle.held_sessions.proofs.laws.sessions_are_owed.Goals as goal

pub returns-clause-one : goal.returns-clause-one
returns-clause-one c = row_owed

pub returns-clause-several : goal.returns-clause-several
returns-clause-several c house draws o found count crew sittings xs records owner here inside may all shifts =
    crew_owed house draws o found count crew sittings xs records all.crews shifts owner here inside all may
