-- One draw is two words of the generator.
use Rattle.std.proofs.Common.{◌+◌, ◌∙◌, min, ap}
use Rattle.fz_outside.specs.Draws.{draws_after}
use Rattle.word_streams.specs.Draws.{Placed, draw_at}
use Rattle.word_streams.proofs.DrawLemmas.{draw_at-after, draw_at-value}
use Rattle.word_streams.proofs.ChaChaWordsWords.draw.Goals as goal

pub returns-clause-value : goal.returns-clause-value
returns-clause-value c =
    draw_at-value _ _ _ c.next_u64_via_u32.ensures c.self.invariant ∙ ap (λ (words : Placed). draw_at words.rng 0) c.self.view_is

pub returns-clause-drawn : goal.returns-clause-drawn
returns-clause-drawn c = record {
  rest = draw_at-after _ _ _ c.next_u64_via_u32.ensures ∙ ap (λ (words : Placed). draws_after 1 (draw_at words.rng)) c.self.view_is;
  counted = c.saturating_add-self-inside.ensures ∙ ap (λ (words : Placed). min (words.taken + 1) 18446744073709551615) c.self.view_is;
}
