-- where the blocks of scripts begin: worked out by hand
use Rattle.std.proofs.Common.{◌≡◌, ℕ, List, [], ◌∷◌, length, codes, refl, ap, arith}
use Rattle.std.specs.Borrow.{Bor}
use Rattle.wire_lines.specs.Lines.{lines_of}
use Rattle.wire_lines.specs.Request.{request_of}
use Rattle.session_core.specs.Blocks.{script_blocks}
use Rattle.script_workers.specs.Starts.{blocks_at}

abbrev text : List ℕ → Bor (List ℕ)
text bytes = record { ref_ptr = (0, 0); now = bytes }

abbrev two : List ℕ
two = codes "hello ann\nbye\nhello bob\n"

-- A block ends behind its `bye`, and the second one begins there.
two_blocks : script_blocks two ≡ (codes "hello ann" ∷ codes "bye" ∷ []) ∷ (codes "hello bob" ∷ []) ∷ []
unfolding lines_of request_of
two_blocks = refl

two_starts : blocks_at (text two ∷ text (codes "hello bob\n") ∷ []) ≡ script_blocks two
unfolding lines_of request_of
two_starts = refl

-- of a text without `bye` all is one block
one_start : blocks_at (text (codes "hello ann\nhello bob\n") ∷ []) ≡ script_blocks (codes "hello ann\nhello bob\n")
unfolding lines_of request_of
one_start = refl

-- nothing has no block
no_start_in_nothing : blocks_at [] ≡ script_blocks []
unfolding lines_of request_of
no_start_in_nothing = refl

-- where a start is left out, so is its block
one_too_few : blocks_at (text two ∷ []) ≡ script_blocks two → ⊥
unfolding lines_of request_of
one_too_few same = absurd (omega (arith, ap length same))
