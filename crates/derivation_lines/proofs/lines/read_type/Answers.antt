use Rattle.std.proofs.Common.{sym, subst}
use Rattle.fz_lexer.specs.Tokens.{AreTokens}
use Rattle.derivation_lines.proofs.Pieces.{passed, no_type_tokens, no_type}
use Rattle.derivation_lines.proofs.lines.read_type.Goals as goal

pub returns-in_err-tokens-clause-fault : goal.returns-in_err-tokens-clause-fault
returns-in_err-tokens-clause-fault c = passed _ c.from_residual.result _ c.from_residual.ensures.1 (no_type_tokens _ _ c.in_err-tokens.ensures.fault)

pub returns-in_err-ty-clause-fault : goal.returns-in_err-ty-clause-fault
returns-in_err-ty-clause-fault c =
    let are = subst (AreTokens c.args.text.now) (sym c.deref.ensures.value) c.in_ok-tokens.ensures.tokens in
    passed _ c.from_residual-in_err-ty.result _ c.from_residual-in_err-ty.ensures.1 (no_type c.args.text.now c.deref.result.now _ are c.in_err-ty.ensures.fault)
