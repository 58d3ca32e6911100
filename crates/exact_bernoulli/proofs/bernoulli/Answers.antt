use Rattle.exact_bernoulli.proofs.Exact.{uniform_reads, bernoulli_reads}
use Rattle.exact_bernoulli.proofs.Metered.{Takes-err, found_from_segment, none_from_segments}
use Rattle.exact_bernoulli.proofs.Trials.{bernoulli_found, bernoulli_none}
use Rattle.exact_bernoulli.proofs.bernoulli.Goals as goal

pub returns-in_err-uniform-clause-segment : goal.returns-in_err-uniform-clause-segment
returns-in_err-uniform-clause-segment g c =
    let none = c.in_err-uniform.ensures.segment in
    Takes-err (bernoulli_reads c.args.n c.args.d) c.from_residual.result _ _ c.from_residual.ensures.0 (bernoulli_none c.args.n c.args.d _ (none_from_segments (uniform_reads c.args.d) _ none.1)) none.0

pub returns-clause-segment : goal.returns-clause-segment
returns-clause-segment g c =
    (bernoulli_reads c.args.n c.args.d).sound _ _ (bernoulli_found c.args.n c.args.d c.in_ok-uniform.field-0 _ _ (found_from_segment (uniform_reads c.args.d) _ _ _ c.in_ok-uniform.ensures.segment))
