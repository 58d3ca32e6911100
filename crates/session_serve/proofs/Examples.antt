-- How sessions end, worked out on small connections and at the limits.
use Rattle.std.proofs.Common.{◌≡◌, ℕ, ◌+◌, ◌-◌, List, [], ◌∷◌, ◌++◌, length, take, codes, Some, true, false, refl, sym, ◌∙◌, ap, subst, inl, inr, arith, length-append}
use Rattle.fz_outside.specs.Faults.{HasRisen}
use Rattle.wire_lines.specs.Lines.{lines_of}
use Rattle.wire_lines.specs.Request.{request_of}
use Rattle.wire_lines.specs.Reply.{Replied, ended, refused, reply_text}
use Rattle.wire_lines.specs.Refusal.{by_line}
use Rattle.wire_lines.specs.declared.refusal.LineRefusal.TheVariants.{Malformed}
use Rattle.outside_links.specs.Links.{Connection, shown}
use Rattle.session_core.specs.OwnerDesk.Passes.{Pass}
use Rattle.session_core.specs.OwnerHouse.House.{House}
use Rattle.session_core.specs.Turns.{is_bye}
use Rattle.session_serve.specs.Session.{AreWhole, HasNoEnd, AreNoBye, EndsWithBye, IsCutShort, EndsBy, IsSession, session_limit, reply_texts}
use Rattle.session_serve.specs.declared.serve.SessionEnd.{SessionEnd}
use Rattle.session_serve.specs.declared.serve.SessionEnd.TheVariants.{Bye, EndOfInput, ReadFault, WriteFault, TooLong}

-- what a connection shows that has these bytes left and these written
abbrev told : (left written : List ℕ) → (faults : ℕ) → Connection
told left written faults = shown (Some left) (Some written) faults

abbrev malformed : Replied
malformed = refused (by_line (Malformed 0))

-- Lines.
none_is_whole : AreWhole []
none_is_whole = inl refl

one_is_whole : AreWhole (codes "x\n")
one_is_whole = inr (codes "x", refl)

no_end : HasNoEnd (codes "x\r")
no_end = ((λ h. omega (arith, h)), ((λ h. omega (arith, h)), tt))

-- `bye` behind another line, with CR and LF, and at the end of the input without either
bye_behind : EndsWithBye (codes "x\nbye\n")
unfolding lines_of request_of
bye_behind = record { earlier = codes "x" ∷ []; last = codes "bye"; lines = refl; before = (refl, tt); bye = refl }

bye_with_cr : EndsWithBye (codes "bye\r\n")
unfolding lines_of request_of
bye_with_cr = record { earlier = []; last = codes "bye"; lines = refl; before = tt; bye = refl }

bye_alone : EndsWithBye (codes "bye")
unfolding lines_of request_of
bye_alone = record { earlier = []; last = codes "bye"; lines = refl; before = tt; bye = refl }

-- a space behind it makes another line of it
no_bye : AreNoBye (lines_of (codes "bye \n"))
unfolding lines_of request_of
no_bye = (refl, tt)

-- A reply was written in part, or not at all.
cut_in_the_middle : IsCutShort (ended ∷ []) (codes "by")
unfolding reply_text
cut_in_the_middle = record { earlier = []; last = ended; part = 2; all = refl; short = omega arith; written = refl }

cut_at_once : IsCutShort (ended ∷ ended ∷ []) (codes "bye\n")
unfolding reply_text
cut_at_once = record { earlier = ended ∷ []; last = ended; part = 0; all = refl; short = omega arith; written = refl }

-- Bye.
-- with its LF, and bytes behind it; and at the end of the input without one
ends_with_bye : EndsBy Bye (codes "bye\n") (codes "left") (ended ∷ []) (reply_texts (ended ∷ [])) (told (codes "bye\nleft") [] 0) (told [] (codes "bye\n") 0)
unfolding lines_of request_of
ends_with_bye = (record { earlier = []; last = codes "bye"; lines = refl; before = tt; bye = refl }, inl (inr (codes "bye", refl)), (refl, refl))

ends_with_last_bye : EndsBy Bye (codes "bye") [] (ended ∷ []) (reply_texts (ended ∷ [])) (told (codes "bye") [] 0) (told [] (codes "bye\n") 0)
unfolding lines_of request_of
ends_with_last_bye = (record { earlier = []; last = codes "bye"; lines = refl; before = tt; bye = refl }, inr (refl, refl), (refl, refl))

-- No line stands behind a `bye`: whether the session ends with a `bye` ..
one_alone : (earlier : List (List ℕ)) (last : List ℕ) → codes "bye" ∷ codes "x" ∷ [] ≡ earlier ++ last ∷ [] → AreNoBye earlier → ⊥
unfolding request_of
one_alone [] last is before = cc (is)
one_alone (line ∷ earlier) last is (none, others) =
    let first : codes "bye" ≡ line = cc (is) in
    let said : true ≡ false = subst (λ (l : List ℕ). is_bye l ≡ false) (sym first) none in
    cc (said)

no_line_behind : (replies : List Replied) (text : List ℕ) (old new : Connection) → EndsBy Bye (codes "bye\nx\n") [] replies text old new → ⊥
unfolding lines_of
no_line_behind replies text old new h = one_alone h.0.earlier h.0.last h.0.lines h.0.before

-- .. or with a write that fails
no_write_behind : (replies : List Replied) (text : List ℕ) (old new : Connection) → EndsBy WriteFault (codes "bye\nx\n") [] replies text old new → ⊥
unfolding lines_of
no_write_behind replies text old new h = one_alone h.0.earlier h.0.last h.0.lines h.0.before

-- The end of the input.
ends_empty : EndsBy EndOfInput [] [] [] [] (told [] [] 3) (told [] [] 3)
unfolding lines_of
ends_empty = (tt, refl, refl, (refl, refl))

-- no byte is left, and no line was `bye`
bytes_left : (text : List ℕ) (old : Connection) → EndsBy EndOfInput [] [] [] text old (told (codes "x") [] 0) → ⊥
bytes_left text old h = let none : codes "x" ≡ [] = h.2 in cc (none)

bye_goes_on : (replies : List Replied) (text : List ℕ) (old new : Connection) → EndsBy EndOfInput (codes "bye\n") [] replies text old new → ⊥
unfolding lines_of request_of
bye_goes_on replies text old new h = let said : true ≡ false = h.0.0 in cc (said)

-- Faults.
-- a write fails in the middle of a reply
ends_unsent : EndsBy WriteFault (codes "bye\n") [] (ended ∷ []) (codes "by") (told (codes "bye\n") [] 0) (told [] (codes "by") 1)
unfolding lines_of reply_text
ends_unsent = (
  record { earlier = []; last = codes "bye"; lines = refl; before = tt },
  inl (inr (codes "bye", refl)),
  record { earlier = []; last = ended; part = 2; all = refl; short = omega arith; written = refl },
  λ few. omega arith,
)

-- a read fails in the middle of a line, and as the next byte behind the limit is asked for
ends_unheard : EndsBy ReadFault (codes "x\n") (codes "hel") (malformed ∷ []) (reply_texts (malformed ∷ [])) (told (codes "x\nhello") [] 0) (told (codes "lo") (reply_texts (malformed ∷ [])) 1)
unfolding lines_of request_of
ends_unheard = ((refl, tt), inr (codes "x", refl), ((λ h. omega (arith, h)), ((λ h. omega (arith, h)), ((λ h. omega (arith, h)), tt))), omega arith, refl, λ few. omega arith)

ends_at_the_limit : (bytes : List ℕ) (old new : Connection) → length bytes ≡ session_limit → HasNoEnd bytes → HasRisen old.faults new.faults → EndsBy ReadFault [] bytes [] [] old new
unfolding lines_of
ends_at_the_limit bytes old new full unended risen = (tt, inl refl, unended, omega (arith, full), refl, risen)

-- .. but not behind that byte
no_read_fault_behind : (bytes : List ℕ) (replies : List Replied) (text : List ℕ) (old new : Connection) → length bytes ≡ session_limit + 1 → EndsBy ReadFault [] bytes replies text old new → ⊥
no_read_fault_behind bytes replies text old new full h = omega (arith, full, h.3)

-- The limit.
take_front : (xs ys : List ℕ) → take (length xs) (xs ++ ys) ≡ xs
take_front [] ys = refl
take_front (x ∷ xs) ys = ap (λ (zs : List ℕ). x ∷ zs) (take_front xs ys)

-- a line that is not ended within the limit isn't answered, whatever the byte behind it is: its LF too
ends_too_long : (bytes : List ℕ) (last : ℕ) (old : Connection) → length bytes ≡ session_limit → HasNoEnd bytes → EndsBy (TooLong 16777217) [] (bytes ++ last ∷ []) [] [] old old
unfolding lines_of
ends_too_long bytes last old full unended =
    (tt, inl refl, subst HasNoEnd (sym front) unended, omega (arith, full, length-append bytes (last ∷ [])), omega arith, (refl, refl))
  where
    size : session_limit - 0 ≡ length bytes
    size = omega (arith, full)

    front : take (session_limit - 0) (bytes ++ last ∷ []) ≡ bytes
    front = ap (λ (n : ℕ). take n (bytes ++ last ∷ [])) size ∙ take_front bytes (last ∷ [])

-- a session of 2^24 bytes isn't too long
not_too_long : (bytes : List ℕ) (taken : ℕ) (replies : List Replied) (text : List ℕ) (old new : Connection) → length bytes ≡ session_limit → EndsBy (TooLong taken) [] bytes replies text old new → ⊥
not_too_long bytes taken replies text old new full h = omega (arith, full, h.3)

-- however it ends, no more bytes are answered, and one more is taken
no_more_answered : (house : House) (draws : ℕ → ℕ → ℕ → ℕ) (end : SessionEnd) (old new : Connection) (before after : List Pass) (session : IsSession house draws end old new before after) → length session.answered ≡ session_limit + 1 → ⊥
no_more_answered house draws end old new before after session more = omega (arith, session.within, more)

no_more_taken : (house : House) (draws : ℕ → ℕ → ℕ → ℕ) (end : SessionEnd) (old new : Connection) (before after : List Pass) (session : IsSession house draws end old new before after) → length session.answered + length session.behind ≡ session_limit + 2 → ⊥
no_more_taken house draws end old new before after session more = omega (arith, session.taken, more)
