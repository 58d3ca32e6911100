use Rattle.std.proofs.Common.{◌∙◌, arith, sym, ap, subst}
use Rattle.fz_ast.specs.Depth.{depth}
use Rattle.fz_parser.specs.Grammar.{IsTerm}
use Rattle.fz_parser.proofs.Machine.{term_goal}
use Rattle.fz_parser.proofs.Phrases.{passed, term_fault, read_term}
use Rattle.fz_parser.proofs.parser.parse.Goals as goal

pub read-requires : goal.read-requires
read-requires c = term_goal

pub returns-in_err-reader-clause-fault : goal.returns-in_err-reader-clause-fault
returns-in_err-reader-clause-fault c = passed _ _ c.from_residual.result c.from_residual.ensures.1 (term_fault c.args.tokens.now _ c.in_err-reader.ensures.fault)

pub term-root-requires-clause-sort : goal.term-root-requires-clause-sort
term-root-requires-clause-sort c = (read_term c.args.tokens.now _ c.in_ok-reader.ensures.read).0

pub returns-then-depth-gt-DEEPEST-clause-fault : goal.returns-then-depth-gt-DEEPEST-clause-fault
returns-then-depth-gt-DEEPEST-clause-fault c =
    (omega arith, _, (read_term c.args.tokens.now _ c.in_ok-reader.ensures.read).1, ap depth (sym c.term-root.ensures.is) ∙ sym c.depth-depth.ensures.is)

pub returns-clause-term : goal.returns-clause-term
returns-clause-term c =
    let e = subst (IsTerm c.args.tokens.now) (sym c.term-root.ensures.is ∙ sym c.new.ensures) (read_term c.args.tokens.now _ c.in_ok-reader.ensures.read).1 in
    record { term = e; nesting = omega (arith, c.depth-depth.ensures.is, ap depth c.new.ensures) }
