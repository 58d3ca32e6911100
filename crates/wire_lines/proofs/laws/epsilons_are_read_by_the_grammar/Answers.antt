use Rattle.wire_lines.proofs.Epsilons.{epsilon_from, epsilon_to}
use Rattle.wire_lines.proofs.laws.epsilons_are_read_by_the_grammar.Goals as goal

pub returns : goal.returns
returns c text n = (epsilon_from text n, epsilon_to text n)
