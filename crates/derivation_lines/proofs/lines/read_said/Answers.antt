use Rattle.std.proofs.Common.{◌∷◌, ap, sym, subst, ◌∙◌}
use Rattle.std.proofs.lemmas.List.{nil_from_length}
use Rattle.fz_lexer.specs.Tokens.{AreTokens}
use Rattle.fz_lexer.specs.declared.token.Kind.TheVariants.{Name}
use Rattle.derivation_lines.proofs.Pieces.{passed, no_said_tokens, no_sensitivity, nothing_said, no_name, short_name}
use Rattle.derivation_lines.proofs.lines.read_said.Goals as goal
use Rattle.derivation_lines.proofs.lines.read_said.Goals.{In-Some}

-- the tokens, by the first
are : (c : In-Some) → AreTokens c.args.text.now (c.in-Some.first.now ∷ c.in-Some.rest.now)
are c = subst (AreTokens c.args.text.now) (sym c.deref.ensures.value ∙ c.in-Some.ensures.cases.0) c.in_ok-tokens.ensures.tokens

pub returns-in_err-tokens-clause-fault : goal.returns-in_err-tokens-clause-fault
returns-in_err-tokens-clause-fault c = passed _ c.from_residual.result _ c.from_residual.ensures.1 (no_said_tokens _ _ c.in_err-tokens.ensures.fault)

pub returns-in_default-clause-fault : goal.returns-in_default-clause-fault
returns-in_default-clause-fault c =
    let none = nil_from_length c.deref.result.now c.in_default.ensures.cases in
    nothing_said c.args.text.now (subst (AreTokens c.args.text.now) (sym c.deref.ensures.value ∙ none) c.in_ok-tokens.ensures.tokens)

pub returns-in_default-kind : goal.returns-in_default-kind
returns-in_default-kind c = record { is = tt; fault = no_name c.args.text.now _ _ (are (goal.at.returns-in_default-kind c).In-Some) c.in_default-kind.not-Name }

pub returns-in_err-amount-clause-fault : goal.returns-in_err-amount-clause-fault
returns-in_err-amount-clause-fault c =
    passed _ c.from_residual-in_err-amount.result _ c.from_residual-in_err-amount.ensures.1
    (no_sensitivity c.args.text.now _ _ _ (are (goal.at.returns-in_err-amount-clause-fault c).In-Some) c.in_err-amount.ensures.fault)

pub new-requires : goal.new-requires
new-requires c = rw c.as_bytes.ensures (short_name c.args.text.now _ _ _ (are (goal.at.new-requires c).In-Some) c.in-Name.is)

pub returns-clause-is : goal.returns-clause-is
returns-clause-is c = (
  c.in-Some.first.now,
  c.in-Some.rest.now,
  are (goal.at.returns-clause-is c).In-Some,
  c.in-Name.is ∙ ap Name (sym c.as_bytes.ensures) ∙ ap Name (sym c.new.ensures),
  c.in_ok-amount.ensures.is,
)
