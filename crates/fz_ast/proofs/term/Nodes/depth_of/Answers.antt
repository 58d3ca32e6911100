-- What is left to prove of term::Nodes::depth_of.
use Rattle.std.proofs.Common.{◌∙◌, sym}
use Rattle.fz_ast.specs.TypeNodes.{type_at}
use Rattle.fz_ast.specs.TermNodes.{term_at}
use Rattle.fz_ast.proofs.TermNodes.{depth_one, depth_two, depth_three, depth_typed}
use Rattle.fz_ast.proofs.term.Nodes.depth_of.Goals as goal

pub returns-in-Unary-clause-is : goal.returns-in-Unary-clause-is
returns-in-Unary-clause-is c s = c.depth_above.ensures.is ∙ sym (depth_one (type_at c.args.self.now.types) (term_at c.args.self.now.terms) c.args.form.now s c.in-Unary.e c.in-Unary.is)

pub returns-in-Binary-clause-is : goal.returns-in-Binary-clause-is
returns-in-Binary-clause-is c s = c.depth_above_two.ensures.is ∙ sym (depth_two (type_at c.args.self.now.types) (term_at c.args.self.now.terms) c.args.form.now s c.in-Binary.a c.in-Binary.b c.in-Binary.is)

pub returns-in-If-clause-is : goal.returns-in-If-clause-is
returns-in-If-clause-is c s = c.depth_above_three.ensures.is ∙ sym (depth_three (type_at c.args.self.now.types) (term_at c.args.self.now.terms) c.args.form.now s c.in-If.e c.in-If.a c.in-If.b c.in-If.is)

pub returns-in-Inject-clause-is : goal.returns-in-Inject-clause-is
returns-in-Inject-clause-is c s = c.depth_above_type.ensures.is ∙ sym (depth_typed (type_at c.args.self.now.types) (term_at c.args.self.now.terms) c.args.form.now s c.in-Inject.t c.in-Inject.e c.in-Inject.is)
