-- A script's blocks, dealt to workers.
use Rattle.std.proofs.Common.{◌≡◌, ◌≢◌, ℕ, ◌+◌, ◌%◌, ◌<◌, ◌≤◌, Bool, true, false, cond, List, [], ◌∷◌, length, map, drop, get_or, refl, ap, sym, ◌∙◌, arith, ◌==◌, eqb, eqb-true, eq-eqb}
use Rattle.std.proofs.lemmas.Bool.{ne_eqb}
use Rattle.std.proofs.lemmas.List.{drop_all, drop_more, get_or-map, length-map}
use Rattle.std.specs.Borrow.{Bor}
use Rattle.std.specs.List.{onto_first}
use Rattle.wire_lines.specs.Lines.{lf, lines_of, pieces_of, without_cr}
use Rattle.wire_lines.proofs.Cuts.{no_lines}
use Rattle.session_core.specs.Turns.{blocks_of}
use Rattle.session_core.specs.Blocks.{behind_block, first_block, own_blocks, script_blocks}
use Rattle.session_core.proofs.FirstBlocks.{blocks_cut}
use Rattle.script_workers.specs.Starts.{blocks_at}

-- where a script has a byte, it has a line
some_lines : (script : List ℕ) → 0 < length script → 0 < length (lines_of script)
unfolding lines_of
some_lines [] some = absurd (omega arith)
some_lines (b ∷ bytes) some = either (eqb b lf) (pieces_of bytes)
  where
    either : (t : Bool) (pieces : List (List ℕ)) → 0 < length (map without_cr (cond t ([] ∷ pieces) (onto_first b pieces)))
    either true pieces = omega arith
    either false [] = omega arith
    either false (piece ∷ pieces) = omega arith

pub has_bytes : (script : List ℕ) → (length script == 0) ≡ false → 0 < length script
has_bytes [] some = absurd (cc some)
has_bytes (b ∷ bytes) some = omega arith

pub no_blocks : (script : List ℕ) → (length script == 0) ≡ true → script_blocks script ≡ []
no_blocks script none = ap blocks_of (no_lines script (eqb-true (length script) 0 none))

-- A script's blocks are its first one and those of what is behind it.
pub first_next : (script : List ℕ) → 0 < length script → script_blocks script ≡ first_block (lines_of script) ∷ blocks_of (behind_block (lines_of script))
first_next script some = cut (lines_of script) (some_lines script some)
  where
    cut : (lines : List (List ℕ)) → 0 < length lines → blocks_of lines ≡ first_block lines ∷ blocks_of (behind_block lines)
    cut [] none = absurd (omega arith)
    cut (line ∷ lines) some = blocks_cut line lines

pub next_block : (script behind : List ℕ) → 0 < length script → lines_of behind ≡ behind_block (lines_of script) → script_blocks script ≡ first_block (lines_of script) ∷ script_blocks behind
next_block script behind some is = first_next script some ∙ ap (λ lines. first_block (lines_of script) ∷ blocks_of lines) (sym is)

-- There is a block for each start, and those left from the k-th on begin with its own.
pub starts_many : (starts : List (Bor (List ℕ))) → length (blocks_at starts) ≡ length starts
starts_many starts = length-map starts (λ (start : Bor (List ℕ)). first_block (lines_of start.now))

pub next_start : (starts : List (Bor (List ℕ))) (k : ℕ) (d : Bor (List ℕ)) → k < length starts
    → drop k (blocks_at starts) ≡ first_block (lines_of (get_or starts k d).now) ∷ drop (k + 1) (blocks_at starts)
next_start starts k d lt =
    drop_more (blocks_at starts) k [] (omega (arith, lt, starts_many starts))
    ∙ ap (λ b. b ∷ drop (k + 1) (blocks_at starts)) (get_or-map (λ (start : Bor (List ℕ)). first_block (lines_of start.now)) starts k d [] lt)

pub no_start : (starts : List (Bor (List ℕ))) (k : ℕ) → length starts ≤ k → drop k (blocks_at starts) ≡ []
no_start starts k most = drop_all k (blocks_at starts) (omega (arith, most, starts_many starts))

-- A block of this number is the worker's, or it is another's.
module _ {A : Type 0} (count i k : ℕ) (all : List (List A)) (block : List A) (blocks : List (List A)) (next : all ≡ block ∷ blocks) where
  either_next : (b : Bool) → (k % count == i) ≡ b → own_blocks count i k all ≡ cond b (block ∷ own_blocks count i (k + 1) blocks) (own_blocks count i (k + 1) blocks)
  either_next b is = ap (own_blocks count i k) next ∙ ap (λ t. cond t (block ∷ own_blocks count i (k + 1) blocks) (own_blocks count i (k + 1) blocks)) is

  pub own_next : k % count ≡ i → own_blocks count i k all ≡ block ∷ own_blocks count i (k + 1) blocks
  own_next mine = either_next true (eq-eqb (k % count) i mine)

  pub others_next : k % count ≢ i → own_blocks count i k all ≡ own_blocks count i (k + 1) blocks
  others_next other = either_next false (ne_eqb (k % count) i other)
