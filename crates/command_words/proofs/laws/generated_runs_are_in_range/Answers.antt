use Rattle.command_words.specs.Command.{gen}
use Rattle.command_words.proofs.Accepted.{in_range}
use Rattle.command_words.proofs.laws.generated_runs_are_in_range.Goals as goal

pub returns : goal.returns
returns c words seed asks workers is = let within = in_range words (gen seed asks workers) is in (within.0.1, within.1, within.2)
