use Rattle.std.proofs.Common.{◌∙◌, sym, ap, subst}
use Rattle.fz_ast.specs.TypeNodes.{type_at}
use Rattle.fz_parser.specs.Grammar.{IsTypeOf}
use Rattle.fz_parser.proofs.Machine.{type_goal}
use Rattle.fz_parser.proofs.Phrases.{passed, type_fault, read_type}
use Rattle.fz_parser.proofs.parser.parse_type.Goals as goal

pub read-requires : goal.read-requires
read-requires c = type_goal

pub returns-in_err-reader-clause-fault : goal.returns-in_err-reader-clause-fault
returns-in_err-reader-clause-fault c = passed _ _ c.from_residual.result c.from_residual.ensures.1 (type_fault c.args.tokens.now _ c.in_err-reader.ensures.fault)

pub written-root-requires-clause-sort : goal.written-root-requires-clause-sort
written-root-requires-clause-sort c = (read_type c.args.tokens.now _ c.in_ok-reader.ensures.read).0

pub returns-clause-is : goal.returns-clause-is
returns-clause-is c =
    let same = ap (λ ts. type_at ts c.written-root.result.1) (c.in_ok-types.ensures ∙ c.types.ensures) in
    subst (IsTypeOf c.args.tokens.now) (sym c.written-root.ensures.is ∙ sym same ∙ sym c.new.ensures) (read_type c.args.tokens.now _ c.in_ok-reader.ensures.read).1
