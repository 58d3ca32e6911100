-- the first block of some lines, and those behind it
use Rattle.std.proofs.Common.{◌≡◌, ℕ, ◌<◌, ◌==◌, Bool, true, false, cond, List, [], ◌∷◌, length, map, codes, bytes_eq, Result, Ok, Err, inl, inr, refl, sym, ◌∙◌, ap, arith}
use Rattle.std.specs.List.{onto_first}
use Rattle.std.proofs.lemmas.Bool.{cases_Bool}
use Rattle.std.proofs.lemmas.Slice.Eq.{bytes_eq-Decides}
use Rattle.wire_lines.specs.Lines.{lf, lines_of, pieces_of, without_cr}
use Rattle.wire_lines.specs.Request.{Asked, hello, ask, askpart, recall, left, mine, bye, request_of}
use Rattle.wire_lines.specs.declared.refusal.LineRefusal.{LineRefusal}
use Rattle.wire_lines.proofs.Cuts.{no_lines}
use Rattle.wire_lines.proofs.Requests.{grammar_from, grammar_to}
use Rattle.session_core.specs.Turns.{is_bye, is_bye_request, blocks_of}
use Rattle.session_core.specs.Blocks.{behind_block, first_block, script_blocks}

-- A line is `bye` just where its bytes are.
pub bye_bytes : (line : List ℕ) → bytes_eq line (codes "bye") ≡ is_bye line
bye_bytes line = here (request_of line) refl
  where
    -- those bytes are read as that request, so another one was read of others
    other : is_bye line ≡ false → bytes_eq line (codes "bye") ≡ is_bye line
    other none = elim (cases_Bool (bytes_eq line (codes "bye"))) [
      | inl same ↦
          let spelled : line ≡ codes "bye" = (bytes_eq-Decides line (codes "bye")).0 same in
          let reads : request_of line ≡ Ok bye = grammar_to line bye (omega (arith, ap length spelled), spelled) in
          let both : true ≡ false = sym (ap is_bye_request reads) ∙ none in
          absurd cc
      | inr apart ↦ apart ∙ sym none
    ]

    here : (request : Result Asked LineRefusal) → request_of line ≡ request → bytes_eq line (codes "bye") ≡ is_bye line
    here (Ok bye) reads = ap (λ bytes. bytes_eq bytes (codes "bye")) (grammar_from line bye reads).1 ∙ sym (ap is_bye_request reads)
    here (Ok (hello name)) reads = other (ap is_bye_request reads)
    here (Ok (ask name epsilon program)) reads = other (ap is_bye_request reads)
    here (Ok (askpart name partition key epsilon program)) reads = other (ap is_bye_request reads)
    here (Ok (recall name number)) reads = other (ap is_bye_request reads)
    here (Ok (left name)) reads = other (ap is_bye_request reads)
    here (Ok (mine name)) reads = other (ap is_bye_request reads)
    here (Err refusal) reads = other (ap is_bye_request reads)

-- Lines are their first block, and the blocks behind it.
cut_off : (line : List ℕ) (lines : List (List ℕ)) → onto_first line (blocks_of lines) ≡ (line ∷ first_block lines) ∷ blocks_of (behind_block lines)
    → blocks_of (line ∷ lines) ≡ first_block (line ∷ lines) ∷ blocks_of (behind_block (line ∷ lines))
cut_off line lines goes = either (is_bye line)
  where
    either : (b : Bool) → cond b ((line ∷ []) ∷ blocks_of lines) (onto_first line (blocks_of lines))
        ≡ cond b (line ∷ []) (line ∷ first_block lines) ∷ blocks_of (cond b lines (behind_block lines))
    either true = refl
    either false = goes

pub blocks_cut : (line : List ℕ) (lines : List (List ℕ)) → blocks_of (line ∷ lines) ≡ first_block (line ∷ lines) ∷ blocks_of (behind_block (line ∷ lines))
blocks_cut line [] = cut_off line [] refl
blocks_cut line (next ∷ lines) = cut_off line (next ∷ lines) (ap (onto_first line) (blocks_cut next lines))

-- a script with a byte has a line
some_lines : (script : List ℕ) → 0 < length script → 0 < length (lines_of script)
unfolding lines_of
some_lines [] none = absurd (omega arith)
some_lines (b ∷ bytes) some = either (b == lf) (pieces_of bytes)
  where
    either : (ends : Bool) (pieces : List (List ℕ)) → 0 < length (map without_cr (cond ends ([] ∷ pieces) (onto_first b pieces)))
    either true pieces = omega arith
    either false [] = omega arith
    either false (piece ∷ pieces) = omega arith

-- A script with no bytes has no blocks, and any other is its first block, and the blocks of what is behind it.
pub script_end : (script : List ℕ) → length script ≡ 0 → script_blocks script ≡ []
script_end script none = ap blocks_of (no_lines script none)

pub script_cut : (script behind : List ℕ) → 0 < length script → lines_of behind ≡ behind_block (lines_of script) → script_blocks script ≡ first_block (lines_of script) ∷ script_blocks behind
script_cut script behind some is = here (lines_of script) (some_lines script some) ∙ ap (λ ls. first_block (lines_of script) ∷ blocks_of ls) (sym is)
  where
    here : (lines : List (List ℕ)) → 0 < length lines → blocks_of lines ≡ first_block lines ∷ blocks_of (behind_block lines)
    here [] none = absurd (omega arith)
    here (line ∷ lines) more = blocks_cut line lines

module _ (line : List ℕ) (lines : List (List ℕ)) where
  -- a line that ends its block
  pub block_ends : is_bye line ≡ true → (first_block (line ∷ lines) ≡ line ∷ []) × (behind_block (line ∷ lines) ≡ lines)
  block_ends ends = (ap (λ (b : Bool). cond b (line ∷ []) (line ∷ first_block lines)) ends, ap (λ (b : Bool). cond b lines (behind_block lines)) ends)

  -- and one that doesn't
  pub block_goes : is_bye line ≡ false → (first_block (line ∷ lines) ≡ line ∷ first_block lines) × (behind_block (line ∷ lines) ≡ behind_block lines)
  block_goes goes = (ap (λ (b : Bool). cond b (line ∷ []) (line ∷ first_block lines)) goes, ap (λ (b : Bool). cond b lines (behind_block lines)) goes)
