use Rattle.std.proofs.Common.{◌≡◌, ◌∙◌, refl, sym, ap, subst, Option, Some, None, arith, w64, to_z, of_z}
use Rattle.std.proofs.lemmas.Int.{to_z-of_z, fits_signed_from_abs}
use Rattle.std.specs.Prelude.{ℤ}
use Rattle.std.specs.Result.{result_ok}
use Rattle.journal_records.specs.declared.records.Outcome.TheVariants.{Exhausted}
use Rattle.answer_path.specs.Answered.{IsSettledAt}
use Rattle.answer_path.specs.Code.{IsWorth}
use Rattle.answer_path.specs.Noise.{noise_at}
use Rattle.answer_path.proofs.Answering.{noise_is}
use Rattle.answer_path.proofs.answer.outcome_at.Goals as goal

pub returns-in-Ok-clause-settled : goal.returns-in-Ok-clause-settled
returns-in-Ok-clause-settled g c =
    let dataset = c.args.dataset.now in
    let draws = g.S.Streams.given c.args.streams.now c.args.owner c.args.number in
    let drawn = noise_is c.args.query.now.epsilon c.scale_of-scale.result.p c.scale_of-scale.result.q draws _ c.scale_of-scale.ensures.numerator c.scale_of-scale.ensures.denominator c.stream-words.ensures.draws in
    let noise : noise_at c.args.query.now.epsilon draws ≡ Some c.in-Ok.noise = drawn ∙ sym c.sample.ensures.noise ∙ ap result_ok c.in-Ok.is in
    let same : to_z w64 (of_z w64 c.in-Ok.noise) ≡ c.in-Ok.noise = to_z-of_z w64 c.in-Ok.noise (fits_signed_from_abs w64 c.in-Ok.noise (omega (arith, c.in-Ok.ensures.small))) in
    subst (λ (k : Option ℤ). IsSettledAt (IsWorth dataset c.args.query.now.view (c.args.admitted.now.checked.term.now)) k c.outcome_with.result)
    (ap (λ (z : ℤ). Some z) same ∙ sym noise) c.outcome_with.ensures.settled

pub returns-clause-settled : goal.returns-clause-settled
returns-clause-settled g c =
    let dataset = c.args.dataset.now in
    let draws = g.S.Streams.given c.args.streams.now c.args.owner c.args.number in
    let drawn = noise_is c.args.query.now.epsilon c.scale_of-scale.result.p c.scale_of-scale.result.q draws _ c.scale_of-scale.ensures.numerator c.scale_of-scale.ensures.denominator c.stream-words.ensures.draws in
    let none : noise_at c.args.query.now.epsilon draws ≡ None = drawn ∙ sym c.sample.ensures.noise ∙ ap result_ok c.in-Err.is in
    subst (λ (k : Option ℤ). IsSettledAt (IsWorth dataset c.args.query.now.view (c.args.admitted.now.checked.term.now)) k Exhausted) (sym none) refl
