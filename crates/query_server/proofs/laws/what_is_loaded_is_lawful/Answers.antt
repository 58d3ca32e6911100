use Rattle.query_server.proofs.Endings.{granted_lawful}
use Rattle.query_server.proofs.Lines.{loaded_lawful}
use Rattle.query_server.proofs.laws.what_is_loaded_is_lawful.Goals as goal

pub returns-clause-loaded : goal.returns-clause-loaded
returns-clause-loaded c = loaded_lawful

pub returns-clause-granted : goal.returns-clause-granted
returns-clause-granted c = granted_lawful
