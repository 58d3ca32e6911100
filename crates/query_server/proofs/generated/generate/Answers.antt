use Rattle.std.proofs.Common.{◌∙◌, ap, refl}
use mathlib.Core.Logic.{inl, inr}
use Rattle.catalog_loading.specs.declared.stops.Stop.TheVariants.{NoMemory}
use Rattle.query_server.specs.Gen.{tally_text}
use Rattle.query_server.proofs.Ends.{end_passed}
use Rattle.query_server.proofs.generated.generate.Goals as goal

pub returns-in_err-tally-clause-end : goal.returns-in_err-tally-clause-end
returns-in_err-tally-clause-end g c = λ shelf script. inr (inr (inl (end_passed NoMemory c.from_residual.result c.from_residual.ensures.1)), λ n. refl)

pub returns-in_err-line-clause-end : goal.returns-in_err-line-clause-end
returns-in_err-line-clause-end g c = λ shelf script. inr (inr (inl (end_passed NoMemory c.from_residual-in_err-line.result c.from_residual-in_err-line.ensures.1)), λ n. refl)

pub returns-clause-end : goal.returns-clause-end
returns-clause-end g c = λ shelf script. inl (refl, c.in_ok-line.ensures ∙ ap tally_text c.in_ok-tally.ensures.tally, λ n. refl)
