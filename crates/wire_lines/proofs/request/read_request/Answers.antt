use Rattle.std.proofs.Common.{◌∙◌}
use Rattle.wire_lines.proofs.Requests.{result_found, result_epsilon, result_malformed, result_form, result_long, grammar_to}
use Rattle.wire_lines.proofs.request.read_request.Goals as goal

pub returns-clause-epsilon : goal.returns-clause-epsilon
returns-clause-epsilon c = result_epsilon c.args.line.now c.read_line.result c.read_line.ensures

pub returns-clause-found : goal.returns-clause-found
returns-clause-found c = result_found c.args.line.now c.read_line.result c.read_line.ensures

pub returns-clause-only : goal.returns-clause-only
returns-clause-only c request short spelled = c.read_line.ensures ∙ grammar_to c.args.line.now request (short, spelled)

pub returns-clause-malformed : goal.returns-clause-malformed
returns-clause-malformed c = result_malformed c.args.line.now c.read_line.result c.read_line.ensures

pub returns-clause-long : goal.returns-clause-long
returns-clause-long c = result_long c.args.line.now c.read_line.result c.read_line.ensures

pub returns-clause-form : goal.returns-clause-form
returns-clause-form c = result_form c.args.line.now c.read_line.result c.read_line.ensures
