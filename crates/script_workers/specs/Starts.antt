-- Where the blocks of a script begin.
use Rattle.std.specs.Prelude.{ℕ, List, map}
use Rattle.std.specs.Borrow.{Bor}
use Rattle.wire_lines.specs.Lines.{lines_of}
use Rattle.session_core.specs.Blocks.{first_block}

-- of each of these texts the block that it begins with
abbrev pub blocks_at : (starts : List (Bor (List ℕ))) → List (List (List ℕ))
blocks_at starts = map (λ (start : Bor (List ℕ)). first_block (lines_of start.now)) starts
