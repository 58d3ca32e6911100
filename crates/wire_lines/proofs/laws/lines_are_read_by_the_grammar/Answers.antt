use Rattle.wire_lines.proofs.Requests.{grammar_from, grammar_to, one_request, malformed_from, malformed_to, long_from, long_to}
use Rattle.wire_lines.proofs.laws.lines_are_read_by_the_grammar.Goals as goal

pub returns-clause-grammar : goal.returns-clause-grammar
returns-clause-grammar c line request = (grammar_from line request, grammar_to line request)

pub returns-clause-one : goal.returns-clause-one
returns-clause-one c = one_request

pub returns-clause-malformed : goal.returns-clause-malformed
returns-clause-malformed c line word = (malformed_from line word, malformed_to line word)

pub returns-clause-long : goal.returns-clause-long
returns-clause-long c line = (long_from line, long_to line)
