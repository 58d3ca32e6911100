-- the turns of a script: whose lines they are, and who may speak
use Rattle.std.proofs.Common.{◌≡◌, ℕ, Bool, true, false, cond, List, [], ◌∷◌, ◌++◌, map, Option, None, refl, ◌∙◌, ap}
use Rattle.std.specs.List.{flat_map, onto_first, AllByRecursion}
use Rattle.std.proofs.lemmas.List.{map-append}
use Rattle.wire_lines.specs.Lines.{lines_of}
use Rattle.owner_history.specs.OwnerHouse.House.{House}
use Rattle.session_core.specs.Meant.{meant_by, next_who}
use Rattle.session_core.specs.Turns.{Turn, session_turns, blocks_of, turns_of, is_bye}
use Rattle.session_core.specs.Code.{IsAnalyst}
use Rattle.session_core.proofs.Exchanges.{all_append}
use Rattle.session_core.proofs.Wants.{line_cases}

-- the lines of a session's turns
session_lines : (house : House) (who : Option ℕ) (lines : List (List ℕ)) → map (λ (t : Turn). t.line) (session_turns house who lines) ≡ lines
session_lines house who [] = refl
session_lines house who (line ∷ lines) = ap (λ (rest : List (List ℕ)). line ∷ rest) (session_lines house (next_who who (meant_by house who line)) lines)

-- the lines of all blocks
abbrev pub all_lines : List (List (List ℕ)) → List (List ℕ)
all_lines [] = []
all_lines (block ∷ blocks) = block ++ all_lines blocks

onto_lines : (line : List ℕ) (blocks : List (List (List ℕ))) → all_lines (onto_first line blocks) ≡ line ∷ all_lines blocks
onto_lines line [] = refl
onto_lines line (block ∷ blocks) = refl

block_lines : (lines : List (List ℕ)) → all_lines (blocks_of lines) ≡ lines
block_lines [] = refl
block_lines (line ∷ lines) = either (block_lines lines) (is_bye line)
  where
    either : all_lines (blocks_of lines) ≡ lines → (b : Bool) → all_lines (cond b ((line ∷ []) ∷ blocks_of lines) (onto_first line (blocks_of lines))) ≡ line ∷ lines
    either h true = ap (λ (rest : List (List ℕ)). line ∷ rest) h
    either h false = onto_lines line (blocks_of lines) ∙ ap (λ (rest : List (List ℕ)). line ∷ rest) h

blocks_lines : (house : House) (blocks : List (List (List ℕ))) → map (λ (t : Turn). t.line) (flat_map (session_turns house None) blocks) ≡ all_lines blocks
blocks_lines house [] = refl
blocks_lines house (block ∷ blocks) =
    map-append (λ (t : Turn). t.line) (session_turns house None block) (flat_map (session_turns house None) blocks)
    ∙ cc (session_lines house None block, blocks_lines house blocks)

-- The turns are the script's lines.
pub turns_lines : (house : House) (script : List ℕ) → map (λ (t : Turn). t.line) (turns_of house script) ≡ lines_of script
turns_lines house script = blocks_lines house (blocks_of (lines_of script)) ∙ block_lines (lines_of script)

next_known : (house : House) (who : Option ℕ) (line : List ℕ) → IsAnalyst house who → IsAnalyst house (next_who who (meant_by house who line))
next_known house who line known = line_cases house line (λ m. IsAnalyst house (next_who who m)) who (record {
  refuses = λ refusal other. known;
  ends = λ end. known;
  greets = λ name analyst within other. within;
  demands = λ n owner demand of other. known;
})

abbrev pub AreKnown : House → List Turn → Type 0
AreKnown house turns = AllByRecursion (λ (t : Turn). IsAnalyst house t.who) turns

session_known : (house : House) (who : Option ℕ) (lines : List (List ℕ)) → IsAnalyst house who → AreKnown house (session_turns house who lines)
session_known house who [] known = tt
session_known house who (line ∷ lines) known = (known, session_known house (next_who who (meant_by house who line)) lines (next_known house who line known))

blocks_known : (house : House) (blocks : List (List (List ℕ))) → AreKnown house (flat_map (session_turns house None) blocks)
blocks_known house [] = tt
blocks_known house (block ∷ blocks) = all_append (λ (t : Turn). IsAnalyst house t.who) (session_turns house None block) (flat_map (session_turns house None) blocks) (session_known house None block tt) (blocks_known house blocks)

-- Who speaks is an analyst of the house, at each turn.
pub turns_known : (house : House) (script : List ℕ) → AreKnown house (turns_of house script)
turns_known house script = blocks_known house (blocks_of (lines_of script))
