-- How long a peer may be waited for, in microseconds: the limits, and what of them is left after what was waited.
use Rattle.std.specs.Prelude.{◌≡◌, ℕ, ◌+◌, ◌-◌, ◌*◌, min, Bool, true, false, List, [], ◌∷◌}
use Rattle.outside_doors.specs.declared.waits.Limits.{Limits}
use Rattle.outside_doors.specs.declared.waits.Waits.{Waits}

-- A time that the peer was waited for: until it sent something, or until it took something, which was the rest of a reply or not.
pub data Wait : Type 0 where
  Read : ℕ → Wait
  Wrote : ℕ → (whole : Bool) → Wait

-- All of it. (Here and below what was waited last stands first.)
abbrev pub waited : List Wait → ℕ
waited [] = 0
waited (Read took ∷ before) = took + waited before
waited (Wrote took whole ∷ before) = took + waited before

-- How long it was waited for the line that the peer sends now: since its last whole reply.
abbrev pub waited_for_line : List Wait → ℕ
waited_for_line [] = 0
waited_for_line (Read took ∷ before) = took + waited_for_line before
waited_for_line (Wrote took true ∷ before) = 0
waited_for_line (Wrote took false ∷ before) = waited_for_line before

-- How long it was waited until the peer took the reply that it takes now.
abbrev pub waited_for_reply : List Wait → ℕ
waited_for_reply [] = 0
waited_for_reply (Read took ∷ before) = waited_for_reply before
waited_for_reply (Wrote took true ∷ before) = 0
waited_for_reply (Wrote took false ∷ before) = took + waited_for_reply before

-- How long it may be waited for a line: for the first one, which no reply has answered yet, and for a later one.
abbrev pub limit_of_line : Limits → List Wait → ℕ
limit_of_line limits [] = limits.first_line
limit_of_line limits (Read took ∷ before) = limit_of_line limits before
limit_of_line limits (Wrote took true ∷ before) = limits.next_line
limit_of_line limits (Wrote took false ∷ before) = limit_of_line limits before

-- How long it may still be waited until the peer sends something.
abbrev pub left_to_read : Limits → List Wait → ℕ
left_to_read limits before = min (limit_of_line limits before - waited_for_line before) (limits.in_all - waited before)

-- How long it may still be waited until the peer takes something.
abbrev pub left_to_write : Limits → List Wait → ℕ
left_to_write limits before = min (limits.reply - waited_for_reply before) (limits.in_all - waited before)

-- The limits that it keeps.
abbrev pub limits_of : Waits → Limits
limits_of waits = waits.limits

-- It stands for what was waited so far.
pub record StandsFor (waits : Waits) (before : List Wait) : Type 0 where
  pub line : waits.line ≡ limit_of_line waits.limits before - waited_for_line before
  pub reply : waits.reply ≡ waits.limits.reply - waited_for_reply before
  pub in_all : waits.in_all ≡ waits.limits.in_all - waited before

-- The limits of the service: 30 seconds until the first line is whole, 10 minutes from a reply to the end of the next line, 30 seconds to
-- take a reply, and an hour of such waiting in all.
abbrev pub second : ℕ
second = 1_000_000

abbrev pub AreOfService : Limits → Type 0
AreOfService limits = (limits.first_line ≡ 30 * second) × (limits.next_line ≡ 600 * second) × (limits.reply ≡ 30 * second) × (limits.in_all ≡ 3600 * second)
