-- the turns that are left in a script, and who speaks behind a line
use Rattle.std.proofs.Common.{◌≡◌, ℕ, Bool, true, false, cond, List, [], ◌∷◌, Option, None, refl, sym, ◌∙◌, ap}
use Rattle.std.specs.List.{flat_map, onto_first}
use Rattle.wire_lines.specs.Lines.{lines_of}
use Rattle.owner_history.specs.OwnerHouse.House.{House}
use Rattle.session_core.specs.Meant.{Meant, says, wants, meant_by, next_who}
use Rattle.session_core.specs.Turns.{Turn, session_turns, blocks_of, turns_of, is_bye}
use Rattle.session_core.specs.Code.{turns_behind, turns_left, who_behind, is_ended}
use Rattle.session_core.proofs.Wants.{line_cases}

abbrev says_bye : Meant → Bool
says_bye (says reply next) = is_ended reply
says_bye (wants n owner demand) = false

bye_says : (house : House) (who : Option ℕ) (line : List ℕ) → says_bye (meant_by house who line) ≡ is_bye line
bye_says house who line = line_cases house line (λ m. says_bye m ≡ is_bye line) who (record {
  refuses = λ refusal other. sym other;
  ends = sym;
  greets = λ name analyst within other. sym other;
  demands = λ n owner demand of other. sym other;
})

-- a line is `bye` just where it comes to that reply
pub bye_means : (house : House) (who : Option ℕ) (line : List ℕ) (m : Meant) → meant_by house who line ≡ m → says_bye m ≡ is_bye line
bye_means house who line m is = ap says_bye (sym is) ∙ bye_says house who line

-- behind a line that asks, the same analyst speaks
pub who_asks : (house : House) (who : Option ℕ) (line : List ℕ) (m : Meant) → meant_by house who line ≡ m → cond (says_bye m) None (next_who who m) ≡ who_behind house who line
who_asks house who line m is =
    ap (λ (m' : Meant). cond (says_bye m') None (next_who who m')) (sym is)
    ∙ ap (λ b. cond b None (next_who who (meant_by house who line))) (bye_says house who line)

-- a script's turns, from nobody
pub turns_first : (house : House) (script : List ℕ) → turns_left house None (lines_of script) ≡ turns_of house script
turns_first house script = here (blocks_of (lines_of script))
  where
    here : (blocks : List (List (List ℕ))) → turns_behind house None blocks ≡ flat_map (session_turns house None) blocks
    here [] = refl
    here (block ∷ blocks) = refl

-- the turn of a line, and the turns behind it
pub turns_next : (house : House) (who : Option ℕ) (line : List ℕ) (lines : List (List ℕ))
    → turns_left house who (line ∷ lines) ≡ record { who = who; line = line } ∷ turns_left house (who_behind house who line) lines
turns_next house who line lines = here (is_bye line) (blocks_of lines)
  where
    nobody : (blocks : List (List (List ℕ))) → flat_map (session_turns house None) blocks ≡ turns_behind house None blocks
    nobody [] = refl
    nobody (block ∷ blocks) = refl

    here : (b : Bool) (blocks : List (List (List ℕ))) → turns_behind house who (cond b ((line ∷ []) ∷ blocks) (onto_first line blocks))
        ≡ record { who = who; line = line } ∷ turns_behind house (cond b None (next_who who (meant_by house who line))) blocks
    here true blocks = ap (λ (ts : List Turn). record { who = who; line = line } ∷ ts) (nobody blocks)
    here false [] = refl
    here false (block ∷ blocks) = refl
