-- which worker answers which place: worked out by hand
use Rattle.std.proofs.Common.{◌≡◌, ℕ, List, [], ◌∷◌, map, codes, refl}
use Rattle.wire_lines.specs.Lines.{lines_of}
use Rattle.wire_lines.specs.Request.{request_of}
use Rattle.session_core.specs.Blocks.{crew_of, own_blocks, script_blocks}

-- blocks of two lines, of one and of three
blocks : List (List ℕ)
blocks = (1 ∷ 2 ∷ []) ∷ (3 ∷ []) ∷ (4 ∷ 5 ∷ 6 ∷ []) ∷ []

abbrev places : List ℕ
places = 0 ∷ 1 ∷ 2 ∷ 3 ∷ 4 ∷ 5 ∷ 6 ∷ []

-- One worker has all places; of two the first has the third block, too; a third worker has it, and further ones have none. What is behind the
-- last block is said to be the first worker's.
by_one : map (crew_of 1 0 blocks) places ≡ 0 ∷ 0 ∷ 0 ∷ 0 ∷ 0 ∷ 0 ∷ 0 ∷ []
unfolding blocks
by_one = refl

by_two : map (crew_of 2 0 blocks) places ≡ 0 ∷ 0 ∷ 1 ∷ 0 ∷ 0 ∷ 0 ∷ 0 ∷ []
unfolding blocks
by_two = refl

by_three : map (crew_of 3 0 blocks) places ≡ 0 ∷ 0 ∷ 1 ∷ 2 ∷ 2 ∷ 2 ∷ 0 ∷ []
unfolding blocks
by_three = refl

by_sixteen : map (crew_of 16 0 blocks) places ≡ 0 ∷ 0 ∷ 1 ∷ 2 ∷ 2 ∷ 2 ∷ 0 ∷ []
unfolding blocks
by_sixteen = refl

first_worker_of_two : own_blocks 2 0 0 blocks ≡ (1 ∷ 2 ∷ []) ∷ (4 ∷ 5 ∷ 6 ∷ []) ∷ []
unfolding blocks
first_worker_of_two = refl

second_worker_of_two : own_blocks 2 1 0 blocks ≡ (3 ∷ []) ∷ []
unfolding blocks
second_worker_of_two = refl

fourth_worker_of_many : own_blocks 16 3 0 blocks ≡ []
unfolding blocks
fourth_worker_of_many = refl

-- a block ends behind its `bye`: what is behind it is the next worker's
of_a_script : map (crew_of 2 0 (script_blocks (codes "hello ann\nbye\nhello bob\nleft clinic\n"))) (0 ∷ 1 ∷ 2 ∷ 3 ∷ []) ≡ 0 ∷ 0 ∷ 1 ∷ 1 ∷ []
unfolding lines_of request_of
of_a_script = refl

-- without a `bye` all of a script is one block
of_one_block : map (crew_of 2 0 (script_blocks (codes "hello ann\nhello bob\n"))) (0 ∷ 1 ∷ []) ≡ 0 ∷ 0 ∷ []
unfolding lines_of request_of
of_one_block = refl
