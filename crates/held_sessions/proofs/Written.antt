-- which replies were written to their end
use Rattle.std.proofs.Common.{◌≡◌, ℕ, ◌+◌, ◌-◌, ◌<◌, ◌≤◌, nat_lt, Bool, true, false, List, [], ◌∷◌, ◌++◌, length, take, drop, refl, sym, ◌∙◌, ap, subst, arith, length-append}
use Rattle.std.specs.Prelude.{MatchBool, if◌then◌else◌}
use Rattle.std.proofs.lemmas.Bool.{lt-ltb, ltb-true, ltb-false}
use Rattle.std.proofs.lemmas.List.{length-map, take-append-drop, take-append-le, take_all, length-take-le}
use Rattle.std.proofs.lemmas.List.Concat.{flat_map-append}
use mathlib.Core.Logic.{◌⊎◌, inl, inr}
use mathlib.Core.List.{IsPrefix}
use Rattle.wire_lines.specs.Reply.{Replied, reply_text}
use Rattle.session_laws.specs.OwnerHouse.House.{House}
use Rattle.session_laws.proofs.OwnerHistory.Prefixes.{prefix_trans, prefix_length}
use Rattle.session_laws.specs.SessionCore.Exchanges.{Exchange}
use Rattle.session_serve.specs.Session.{IsCutShort, EndsBy, reply_texts}
use Rattle.session_serve.specs.declared.serve.SessionEnd.{SessionEnd}
use Rattle.session_serve.specs.declared.serve.SessionEnd.TheVariants.{Bye, EndOfInput, ReadFault, WriteFault, TooLong, NoMemory}
use Rattle.session_serve.proofs.Answered.{texts_push}
use Rattle.outside_links.specs.Links.{Connection}
use Rattle.held_sessions.specs.Sittings.{Sitting, whole_count, exchanges_in, all_exchanges, is_whole, is_sent, IsWritten, IsWrittenOut}

-- What was written is all, or it is cut short where a write failed.
text_by : (end : SessionEnd) (answered behind : List ℕ) (replies : List Replied) (text : List ℕ) (old new : Connection) → EndsBy end answered behind replies text old new
    → (text ≡ reply_texts replies) ⊎ ((end ≡ WriteFault) × IsCutShort replies text)
text_by Bye answered behind replies text old new h = inl h.2.0
text_by EndOfInput answered behind replies text old new h = inl h.3.0
text_by ReadFault answered behind replies text old new h = inl h.4
text_by WriteFault answered behind replies text old new h = inr (refl, h.2)
text_by (TooLong taken) answered behind replies text old new h = inl h.5.0
text_by NoMemory answered behind replies text old new h = inl h.2.0

pub written_out : (house : House) (draws : ℕ → ℕ → ℕ → ℕ) (s : Sitting house draws) → IsWrittenOut house draws s
written_out house draws s = text_by s.end s.session.answered s.session.behind s.session.replies s.session.text s.old s.new s.session.ends

abbrev HasFront : (replies : List Replied) (text : List ℕ) (place : ℕ) → Type 0
HasFront replies text place = IsPrefix (reply_texts (take (place + 1) replies)) text

front_written : (n : ℕ) (replies : List Replied) → IsPrefix (reply_texts (take n replies)) (reply_texts replies)
front_written n replies = (reply_texts (drop n replies), sym (flat_map-append reply_text (take n replies) (drop n replies)) ∙ ap reply_texts (take-append-drop n replies))

-- all were written
whole_front : (replies : List Replied) (text : List ℕ) (place : ℕ) → text ≡ reply_texts replies → HasFront replies text place
whole_front replies text place is = subst (λ (w : List ℕ). HasFront replies w place) (sym is) (front_written (place + 1) replies)

module _ (replies : List Replied) (text : List ℕ) (h : IsCutShort replies text) where
  one_more : length replies ≡ length h.earlier + 1
  one_more = ap length h.all ∙ length-append h.earlier (h.last ∷ [])

  -- those before the last one
  cut_front : (place : ℕ) → place < length replies - 1 → HasFront replies text place
  cut_front place lt =
      let same : take (place + 1) replies ≡ take (place + 1) h.earlier = ap (take (place + 1)) h.all ∙ take-append-le (place + 1) h.earlier (h.last ∷ []) (omega (arith, lt, one_more)) in
      subst (λ (rs : List Replied). IsPrefix (reply_texts rs) text) (sym same)
      (prefix_trans (reply_texts (take (place + 1) h.earlier)) (reply_texts h.earlier) text (front_written (place + 1) h.earlier)
      (take h.part (reply_text h.last), sym h.written))

  -- and not that one
  cut_last : (place : ℕ) → place < length replies → length replies - 1 ≤ place → HasFront replies text place → ⊥
  cut_last place lt ge front =
      let all : take (place + 1) replies ≡ replies = take_all (place + 1) replies (omega (arith, ge, one_more)) in
      let texts : reply_texts replies ≡ reply_texts h.earlier ++ reply_text h.last = ap reply_texts h.all ∙ texts_push h.earlier h.last in
      let more = prefix_length (reply_texts (take (place + 1) replies)) text front in
      let whole : length (reply_texts (take (place + 1) replies)) ≡ length (reply_texts h.earlier) + length (reply_text h.last)
      = ap (λ (rs : List Replied). length (reply_texts rs)) all ∙ ap length texts ∙ length-append (reply_texts h.earlier) (reply_text h.last) in
      let few : length text ≡ length (reply_texts h.earlier) + length (take h.part (reply_text h.last)) = ap length h.written ∙ length-append (reply_texts h.earlier) (take h.part (reply_text h.last)) in
      let part : length (take h.part (reply_text h.last)) ≡ h.part = length-take-le h.part (reply_text h.last) (omega (arith, h.short)) in
      absurd (omega (arith, more, whole, few, part, h.short))

abbrev Tells : (replies : List Replied) (text : List ℕ) (place : ℕ) → Bool → Type 0
Tells replies text place b = MatchBool b (HasFront replies text place) (HasFront replies text place → ⊥)

tells_all : (replies : List Replied) (text : List ℕ) (place n : ℕ) → text ≡ reply_texts replies → place < n → Tells replies text place (nat_lt place n)
tells_all replies text place n is lt = subst (λ (b : Bool). Tells replies text place b) (sym (lt-ltb place n lt)) (whole_front replies text place is)

tells_cut : (replies : List Replied) (text : List ℕ) (place n : ℕ) → IsCutShort replies text → place < n → length replies ≡ n → Tells replies text place (nat_lt place (n - 1))
tells_cut replies text place n h lt long = here (nat_lt place (n - 1)) refl
  where
    here : (b : Bool) → nat_lt place (n - 1) ≡ b → Tells replies text place b
    here true is = cut_front replies text h place (omega (arith, ltb-true place (n - 1) is, long))
    here false is = cut_last replies text h place (omega (arith, lt, long)) (omega (arith, ltb-false place (n - 1) is, long))

tells_by : (end : SessionEnd) (answered behind : List ℕ) (replies : List Replied) (text : List ℕ) (old new : Connection) → EndsBy end answered behind replies text old new
    → (place n : ℕ) → place < n → length replies ≡ n → Tells replies text place (nat_lt place (whole_count end n))
tells_by Bye answered behind replies text old new h place n lt long = tells_all replies text place n h.2.0 lt
tells_by EndOfInput answered behind replies text old new h place n lt long = tells_all replies text place n h.3.0 lt
tells_by ReadFault answered behind replies text old new h place n lt long = tells_all replies text place n h.4 lt
tells_by WriteFault answered behind replies text old new h place n lt long = tells_cut replies text place n h.2 lt long
tells_by (TooLong taken) answered behind replies text old new h place n lt long = tells_all replies text place n h.5.0 lt
tells_by NoMemory answered behind replies text old new h place n lt long = tells_all replies text place n h.2.0 lt

module _ (house : House) (draws : ℕ → ℕ → ℕ → ℕ) where
  -- just those that are said to be whole
  pub whole_written : (s : Sitting house draws) (place : ℕ) → place < length (exchanges_in house draws s) → MatchBool (is_whole house draws s place) (IsWritten house draws s place) (IsWritten house draws s place → ⊥)
  whole_written s place lt =
      tells_by s.end s.session.answered s.session.behind s.session.replies s.session.text s.old s.new s.session.ends place (length (exchanges_in house draws s)) lt
      (ap length (sym s.session.told.replied) ∙ length-map (exchanges_in house draws s) (λ (x : Exchange). x.reply))

  -- what was sent is a reply to one of the lines
  pub sent_within : (sittings : List (Sitting house draws)) (place : ℕ) → is_sent house draws sittings place ≡ true → place < length (all_exchanges house draws sittings)
  sent_within [] place is = absurd (cc (is))
  sent_within (s ∷ sittings) place is = here (λ said. sent_within sittings (place - length (exchanges_in house draws s)) said) (nat_lt place (length (exchanges_in house draws s))) refl is
    where
      all : length (all_exchanges house draws (s ∷ sittings)) ≡ length (exchanges_in house draws s) + length (all_exchanges house draws sittings)
      all = length-append (exchanges_in house draws s) (all_exchanges house draws sittings)

      here : (is_sent house draws sittings (place - length (exchanges_in house draws s)) ≡ true → place - length (exchanges_in house draws s) < length (all_exchanges house draws sittings))
          → (b : Bool) → nat_lt place (length (exchanges_in house draws s)) ≡ b
          → (if b then is_whole house draws s place else is_sent house draws sittings (place - length (exchanges_in house draws s))) ≡ true → place < length (all_exchanges house draws (s ∷ sittings))
      here later true hit said = omega (arith, all, ltb-true place (length (exchanges_in house draws s)) hit)
      here later false miss said = omega (arith, all, later said, ltb-false place (length (exchanges_in house draws s)) miss)
