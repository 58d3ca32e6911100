-- How long a peer may still be waited for, worked out on short limits: 3 until the first line is whole, 6 for a later one, 4 to take a
-- reply, 10 in all.
use Rattle.std.proofs.Common.{◌≡◌, ℕ, true, false, List, [], ◌∷◌, refl}
use Rattle.outside_doors.specs.Waits.{Wait, waited, left_to_read, left_to_write}
use Rattle.outside_doors.specs.Waits.Wait.{Read, Wrote}
use Rattle.outside_doors.specs.declared.waits.Limits.{Limits}

abbrev limits : Limits
limits = record { first_line = 3; next_line = 6; reply = 4; in_all = 10 }

at_first : left_to_read limits [] ≡ 3
at_first = refl

-- two pieces of a line: the second begins nothing anew
in_two_pieces : left_to_read limits (Read 1 ∷ Read 1 ∷ []) ≡ 1
in_two_pieces = refl

used_up : left_to_read limits (Read 2 ∷ Read 1 ∷ []) ≡ 0
used_up = refl

over : left_to_read limits (Read 2 ∷ Read 2 ∷ []) ≡ 0
over = refl

-- a reply begins the next line's time, when the peer has taken all of it
after_a_reply : left_to_read limits (Wrote 1 true ∷ Read 1 ∷ []) ≡ 6
after_a_reply = refl

after_a_part : left_to_read limits (Wrote 1 false ∷ Read 1 ∷ []) ≡ 2
after_a_part = refl

after_the_rest : left_to_read limits (Read 1 ∷ Wrote 1 true ∷ Wrote 1 false ∷ Read 1 ∷ []) ≡ 5
after_the_rest = refl

-- what is left in all ends it before
in_all_to_read : left_to_read limits (Read 2 ∷ Wrote 3 true ∷ Read 3 ∷ []) ≡ 2
in_all_to_read = refl

-- a reply that is taken in pieces has one limit
reply_at_first : left_to_write limits (Read 3 ∷ []) ≡ 4
reply_at_first = refl

reply_in_pieces : left_to_write limits (Wrote 1 false ∷ Wrote 2 false ∷ []) ≡ 1
reply_in_pieces = refl

reply_used_up : left_to_write limits (Wrote 2 false ∷ Wrote 2 false ∷ []) ≡ 0
reply_used_up = refl

next_reply : left_to_write limits (Wrote 1 true ∷ Wrote 2 false ∷ []) ≡ 4
next_reply = refl

in_all_to_write : left_to_write limits (Read 5 ∷ Wrote 1 true ∷ Read 2 ∷ []) ≡ 2
in_all_to_write = refl

all_together : waited (Read 2 ∷ Wrote 3 true ∷ Read 3 ∷ []) ≡ 8
all_together = refl
