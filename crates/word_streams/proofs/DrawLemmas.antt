-- A generator's draws are those of its key and stream, from its place on.
use Rattle.std.proofs.Common.{◌≡◌, ◌+◌, ◌*◌, ◌%◌, ◌^◌, ◌<◌, ◌∙◌, ℕ, List, refl, sym, ap, arith, zero-add}
use Rattle.std.proofs.Math.Path.{fun_ext}
use Rattle.rand_core.specs.Steps.{u64_via_u32}
use Rattle.rand_chacha.specs.ChaCha.{ChaCha, next_word, of_seed, word_at}
use Rattle.fz_outside.specs.Draws.{draws_after}
use Rattle.word_streams.specs.Draws.{draw_at, draws_of, stream_of}

-- the words at two places, as a draw
halves : ChaCha → ℕ → ℕ → ℕ
halves rng low high = word_at 10 rng.key rng.stream low + word_at 10 rng.key rng.stream high * 2 ^ 32

-- a generator at the start of a stream
pub draw_at-start : (rng : ChaCha) (key : List ℕ) (owner n : ℕ) → rng ≡ record (of_seed key) { stream = stream_of owner n } → draw_at rng ≡ draws_of key owner n
unfolding draw_at draws_of
draw_at-start rng key owner n e = fun_ext (λ i. rw (e, zero-add) refl)

-- a generator that gave a draw
pub draw_at-value : (old new : ChaCha) (draw : ℕ) → (draw, new) ≡ u64_via_u32 (next_word 10) old → old.word_pos < 2 ^ 68 → draw ≡ draw_at old 0
unfolding draw_at
draw_at-value old new draw e h =
    let low : (old.word_pos + 2 * 0) % 2 ^ 68 ≡ old.word_pos = omega arith in
    let high : (old.word_pos + 2 * 0 + 1) % 2 ^ 68 ≡ (old.word_pos + 1) % 2 ^ 68 = omega arith in
    ap (λ (p : ℕ × ChaCha). p.0) e ∙ sym (rw (low, high) refl)

pub draw_at-after : (old new : ChaCha) (draw : ℕ) → (draw, new) ≡ u64_via_u32 (next_word 10) old → draw_at new ≡ draws_after 1 (draw_at old)
unfolding draw_at
draw_at-after old new draw e =
    let place : new ≡ record old { word_pos = ((old.word_pos + 1) % 2 ^ 68 + 1) % 2 ^ 68 } = ap (λ (p : ℕ × ChaCha). p.1) e in
    fun_ext (λ i.
    let low : (((old.word_pos + 1) % 2 ^ 68 + 1) % 2 ^ 68 + 2 * i) % 2 ^ 68 ≡ (old.word_pos + 2 * (i + 1)) % 2 ^ 68 = omega arith in
    let high : (((old.word_pos + 1) % 2 ^ 68 + 1) % 2 ^ 68 + 2 * i + 1) % 2 ^ 68 ≡ (old.word_pos + 2 * (i + 1) + 1) % 2 ^ 68 = omega arith in
    rw (place, low, high) refl)
