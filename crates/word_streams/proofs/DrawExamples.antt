-- Draws under a key of zeros, from the test vectors of RFC 8439, appendix A.1.
use Rattle.std.proofs.Common.{◌≡◌, ℕ, List, [], ◌∷◌, ◌++◌, replicate, refl}
use Rattle.rand_core.specs.Steps.{u32_at}
use Rattle.rand_chacha.specs.Block.{block_word, column_round, diagonal_round, double_rounds, quarter_round}
use Rattle.fz_outside.specs.Draws.{first_draws}
use Rattle.word_streams.specs.Draws.{stream_of, draws_of}

abbrev zeros : List ℕ
zeros = replicate 32 0

-- vectors 1 and 2: the first two blocks of stream 0
thirteen : first_draws 13 (draws_of zeros 0 0)
    ≡ 0x903df1a0ade0b876 ∷ 0x28bd8653e56a5d40 ∷ 0x1aed8da0b819d2bd ∷ 0xc70d778bccef36a8 ∷ 0x8d4857517c5941da ∷ 0x374ad8b83fe02477 ∷ 0x1ca11815f4b8436a
    ∷ 0x8665eeb269b687c3 ∷ 0x7a385155bee7079f ∷ 0x0d082d737c97ba98 ∷ 0x6965e348a0290fcb ∷ 0xed7aee323e53c612 ∷ 0x434ee69c7621b729 ∷ []
unfolding draws_of block_word double_rounds column_round diagonal_round quarter_round u32_at
thirteen = refl

-- vector 5: the nonce whose last byte is 2 is an owner's number 0
an_owner : first_draws 2 (draws_of zeros 0x02000000 0) ≡ 0x3736d58c374dc6c2 ∷ 0xcd3f93efb904e24a ∷ []
unfolding draws_of block_word double_rounds column_round diagonal_round quarter_round u32_at
an_owner = refl

-- vector 3: the second block of a key whose last byte is 1
another_key : draws_of (replicate 31 0 ++ 1 ∷ []) 0 0 8 ≡ 0x9249f8ec2452eb3a
unfolding draws_of block_word double_rounds column_round diagonal_round quarter_round u32_at
another_key = refl

-- The owner stands in the high half of a stream's number, its own number in the low half.
first_stream : stream_of 0 0 ≡ 0
first_stream = refl

last_of_an_owner : stream_of 2 4294967295 ≡ 12884901887
last_of_an_owner = refl

second_owner : stream_of 1 0 ≡ 4294967296
second_owner = refl

next_owner : stream_of 3 0 ≡ 12884901888
next_owner = refl
