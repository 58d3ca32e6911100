-- The draws of an owner's numbers under a key: words of ChaCha20, two a draw, the low half first.
use Rattle.std.specs.Prelude.{ℕ, List, ◌+◌, ◌*◌, ◌%◌, ◌^◌}
use Rattle.rand_chacha.specs.ChaCha.{ChaCha, key_of, word_at}

-- the number of the stream that an owner's number has to itself
abbrev pub stream_of : ℕ → ℕ → ℕ
stream_of owner n = owner * 2 ^ 32 + n

-- the word at a place of a stream of ChaCha20, which has ten double rounds, and repeats after 2 ^ 68 words
abbrev pub chacha20_word : List ℕ → ℕ → ℕ → ℕ
chacha20_word key stream place = word_at 10 (key_of key) stream (place % 2 ^ 68)

-- draw i of number n of an owner, under a key of 32 bytes
unfoldable pub draws_of : List ℕ → ℕ → ℕ → ℕ → ℕ
draws_of key owner n i =
    chacha20_word key (stream_of owner n) (2 * i) + chacha20_word key (stream_of owner n) (2 * i + 1) * 2 ^ 32

-- draw i of a generator, from its place on
unfoldable pub draw_at : ChaCha → ℕ → ℕ
draw_at rng i =
    word_at 10 rng.key rng.stream ((rng.word_pos + 2 * i) % 2 ^ 68)
    + word_at 10 rng.key rng.stream ((rng.word_pos + 2 * i + 1) % 2 ^ 68) * 2 ^ 32

-- a generator, and how many draws it gave
pub record Placed : Type 0 where
  pub rng : ChaCha
  pub taken : ℕ
