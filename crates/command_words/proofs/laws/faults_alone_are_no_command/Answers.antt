use Rattle.command_words.proofs.Accepted.{accepted}
use Rattle.command_words.proofs.Parses.{command_refused}
use Rattle.command_words.proofs.laws.faults_alone_are_no_command.Goals as goal

pub returns : goal.returns
returns c words = (λ none well. let met = accepted words well in cc (none, met.1), command_refused words)
