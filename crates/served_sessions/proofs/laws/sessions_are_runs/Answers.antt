use Rattle.served_sessions.proofs.Runs.{ended_run, stopped_run, crew_run, crew_ended}
use Rattle.served_sessions.proofs.laws.sessions_are_runs.Goals as goal

pub returns-clause-ended : goal.returns-clause-ended
returns-clause-ended c = ended_run

pub returns-clause-stopped : goal.returns-clause-stopped
returns-clause-stopped c house draws sittings before after records closed held may o owner here n sent left early stop =
    stopped_run house draws sittings before after records closed held may o owner here n sent left early stop

pub returns-clause-several : goal.returns-clause-several
returns-clause-several c = crew_run

pub returns-clause-all_kept : goal.returns-clause-all_kept
returns-clause-all_kept c = crew_ended
