-- one line more is answered
use Rattle.std.proofs.Common.{◌≡◌, ℕ, List, [], ◌∷◌, ◌++◌, map, Option, Some, None, refl, sym, ◌∙◌, ap, append-nil}
use Rattle.std.specs.List.{flat_map}
use Rattle.std.proofs.lemmas.List.{map-append}
use Rattle.std.proofs.lemmas.List.Concat.{flat_map-append}
use Rattle.wire_lines.specs.Lines.{lines_of}
use Rattle.wire_lines.specs.Reply.{Replied, reply_text}
use Rattle.session_core.specs.OwnerDesk.Passes.{Pass}
use Rattle.session_core.specs.OwnerHouse.House.{House}
use Rattle.session_core.specs.Turns.{Turn, turns_of}
use Rattle.session_core.specs.Exchanges.{Exchange}
use Rattle.session_core.specs.Code.{turns_left, who_behind, AreServed}
use Rattle.session_core.proofs.Turning.{turns_first, turns_next}
use Rattle.session_core.proofs.Serving.{served_append, none_served}
use Rattle.session_serve.specs.Session.{AreWhole, HasAnswered, reply_texts}
use Rattle.session_serve.specs.Code.{speaker}
use Rattle.session_serve.proofs.Whole.{lines_whole}

pub texts_push : (replies : List Replied) (reply : Replied) → reply_texts (replies ++ reply ∷ []) ≡ reply_texts replies ++ reply_text reply
texts_push replies reply = flat_map-append reply_text replies (reply ∷ []) ∙ ap (λ (ts : List ℕ). reply_texts replies ++ ts) (append-nil (reply_text reply))

module _ (house : House) where
  pub speaker_push : (who : Option ℕ) (lines : List (List ℕ)) (line : List ℕ) → speaker house who (lines ++ line ∷ []) ≡ who_behind house (speaker house who lines) line
  speaker_push who [] line = refl
  speaker_push who (l ∷ lines) line = speaker_push (who_behind house who l) lines line

  left_push : (who : Option ℕ) (lines : List (List ℕ)) (line : List ℕ) → turns_left house who (lines ++ line ∷ []) ≡ turns_left house who lines ++ record { who = speaker house who lines; line = line } ∷ []
  left_push who [] line = turns_next house who line []
  left_push who (l ∷ lines) line =
      turns_next house who l (lines ++ line ∷ [])
      ∙ ap (λ (ts : List Turn). record { who = who; line = l } ∷ ts) (left_push (who_behind house who l) lines line)
      ∙ sym (ap (λ (ts : List Turn). ts ++ record { who = speaker house (who_behind house who l) lines; line = line } ∷ []) (turns_next house who l lines))

  -- The turns of whole lines and one line behind them.
  turns_push : (bytes more line : List ℕ) → AreWhole bytes → lines_of more ≡ line ∷ [] → turns_of house (bytes ++ more) ≡ turns_of house bytes ++ record { who = speaker house None (lines_of bytes); line = line } ∷ []
  turns_push bytes more line whole one =
      sym (turns_first house (bytes ++ more))
      ∙ ap (λ (ls : List (List ℕ)). turns_left house None ls) (lines_whole bytes more whole ∙ ap (λ (ls : List (List ℕ)). lines_of bytes ++ ls) one)
      ∙ left_push None (lines_of bytes) line
      ∙ ap (λ (ts : List Turn). ts ++ record { who = speaker house None (lines_of bytes); line = line } ∷ []) (turns_first house bytes)

module _ (house : House) (draws : ℕ → ℕ → ℕ → ℕ) where
  pub answered_none : (passes : List Pass) → HasAnswered house draws [] [] passes passes
  unfolding lines_of
  answered_none passes = record { exchanges = []; turns = refl; replied = refl; served = none_served house draws passes }

  pub answered_next : (bytes more line : List ℕ) (replies : List Replied) (start now after : List Pass) (x : Exchange) → HasAnswered house draws bytes replies start now → AreWhole bytes → lines_of more ≡ line ∷ []
      → x.turn ≡ record { who = speaker house None (lines_of bytes); line = line } → AreServed house draws (x ∷ []) now after
      → HasAnswered house draws (bytes ++ more) (replies ++ x.reply ∷ []) start after
  answered_next bytes more line replies start now after x h whole one turn served = record {
    exchanges = h.exchanges ++ x ∷ [];
    turns = map-append (λ (y : Exchange). y.turn) h.exchanges (x ∷ [])
        ∙ ap (λ (ts : List Turn). ts ++ x.turn ∷ []) h.turns
        ∙ ap (λ (t : Turn). turns_of house bytes ++ t ∷ []) turn
        ∙ sym (turns_push house bytes more line whole one);
    replied = map-append (λ (y : Exchange). y.reply) h.exchanges (x ∷ []) ∙ ap (λ (rs : List Replied). rs ++ x.reply ∷ []) h.replied;
    served = served_append house draws h.exchanges (x ∷ []) start now after h.served served;
  }
