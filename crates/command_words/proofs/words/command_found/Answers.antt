use Rattle.std.proofs.Common.{rules}
use Rattle.command_words.proofs.words.command_found.Goals as goal

pub returns-in-Some-audit-default : goal.returns-in-Some-audit-default
returns-in-Some-audit-default c = search rules
