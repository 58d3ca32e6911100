-- A number's stream begins at its first word.
use Rattle.std.proofs.Common.{◌≡◌, ◌*◌, ◌%◌, ◌^◌, ◌∙◌, ℕ, List, refl, ap, arith}
use Rattle.word_streams.specs.Draws.{draws_of}
use Rattle.word_streams.proofs.DrawLemmas.{draw_at-start}
use Rattle.word_streams.proofs.KeyStreamsStreams.stream.Goals as goal

pub returns-clause-draws : goal.returns-clause-draws
returns-clause-draws c =
    let high : c.args.owner * 2 ^ 32 % 2 ^ 64 ≡ c.args.owner * 2 ^ 32 = omega arith in
    draw_at-start _ c.self.inside.key c.args.owner c.args.n
    (c.set_stream.ensures ∙ rw (c.from_seed-rng.ensures, c.from.ensures, c.from-2.ensures, high) refl)
    ∙ ap (λ (key : List ℕ). draws_of key c.args.owner c.args.n) c.self.view_is
