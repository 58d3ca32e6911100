-- Histories of a book under the lock, and what passes show of them, on both sides of each choice.
use Rattle.std.proofs.Common.{◌≡◌, ℕ, true, false, List, [], ◌∷◌, ◌++◌, length, map, refl, sym, ap, ◌∙◌, arith, Option, Some, None}
use Rattle.journal_records.specs.declared.records.Outcome.TheVariants.{Lost}
use Rattle.journal_records.specs.declared.records.Record.{Record}
use Rattle.journal_records.specs.declared.records.Record.TheVariants.{Reserve}
use Rattle.journal_records.specs.Records.{settling}
use Rattle.partition_charge.specs.declared.view.View.TheVariants.{Whole}
use Rattle.budget_ledger.specs.Account.{Account}
use Rattle.budget_ledger.specs.declared.failure.Failure.{Failure}
use Rattle.owner_desk.specs.Passes.{Told}
use Rattle.owner_lock.specs.Known.{Known, given_half, joined, kept_half, known_first, whole_share}
use Rattle.owner_desk.specs.declared.noted.Noted.{Noted}
use Rattle.owner_desk.specs.declared.noted.Noted.TheVariants.{Added, Failed}
use Rattle.owner_desk.specs.Noted.{ClosesEntry, failure_in, faults_in, history_with, records_in, told_in}
use Rattle.owner_desk.specs.Watched.{Watched, account_at, history_of, is_shut}
use Rattle.owner_desk.specs.Lawful.{IsLawful, stands}
use Rattle.owner_desk.specs.Shared.{IsPassKnown, Shared, opened_in, pass_with, shared_by}

-- reservations by their numbers, and appends that failed
abbrev reserved : ℕ → Record
reserved number = Reserve (record { number = number; view = Whole; e = 6; p = 1; q = 1; taken = 6; analyst = 0; digest = [] })

abbrev failed : Record → Failure
failed next = record { failed_at = 3; pending = next }

-- a book with a budget of 20 that was found with a reservation and its settlement
abbrev found : List Record
found = reserved 0 ∷ settling 0 Lost ∷ []

abbrev book : List Record → Option Failure → Account
book records closed = record {
  ledger = record { entry = record { budget = 20; capacity = 10; analysts = 1; keys = []; version = 2; limits = [] }; found = found; records = records };
  storage = record { header = record { owner = 2; budget = 20; capacity = 10; digest = []; version = 2 }; trace = None; faults = 3; closed = closed; copies = None };
}

-- ---- the lock's history of a book

open_history : history_with found None ≡ Added (reserved 0) ∷ Added (settling 0 Lost) ∷ []
open_history = refl

-- The failure stands last.
shut_history : history_with found (Some (failed (reserved 1))) ≡ Added (reserved 0) ∷ Added (settling 0 Lost) ∷ Failed (failed (reserved 1)) ∷ []
shut_history = refl

records_of : records_in (history_with found (Some (failed (reserved 1)))) ≡ found
records_of = refl

failure_of : failure_in (history_with found (Some (failed (reserved 1)))) ≡ Some (failed (reserved 1))
failure_of = refl

no_failure : failure_in (history_with found None) ≡ None
no_failure = refl

-- of a pass's own entries the records and the failures, each with what it has of a position
abbrev own : List (ℕ × Noted)
own = (2, Added (reserved 1)) ∷ (5, Failed (failed (settling 1 Lost))) ∷ []

own_records : told_in own ≡ (2, reserved 1) ∷ []
own_records = refl

own_faults : faults_in own ≡ failed (settling 1 Lost) ∷ []
own_faults = refl

-- ---- what closes what

closes_its_own : ClosesEntry (Added (settling 1 Lost)) (Added (reserved 1))
closes_its_own = refl

not_another_number : ClosesEntry (Added (settling 1 Lost)) (Added (reserved 2)) → ⊥
not_another_number same = let one : 1 ≡ 2 = same in omega (arith, one)

not_a_reservation : ClosesEntry (Added (reserved 1)) (Added (reserved 1)) → ⊥
not_a_reservation none = none

not_a_failure : ClosesEntry (Failed (failed (settling 1 Lost))) (Added (reserved 1)) → ⊥
not_a_failure none = none

-- ---- a book beside what it was, and which histories are legal

abbrev at : List Record → Option Failure → Watched
at records closed = record { opened = book found None; records = records; storage = (book records closed).storage }

is_the_book : account_at (at (found ++ reserved 1 ∷ []) None) ≡ book (found ++ reserved 1 ∷ []) None
is_the_book = refl

not_shut : is_shut (at found None) ≡ false
not_shut = refl

shut : is_shut (at found (Some (failed (reserved 1)))) ≡ true
shut = refl

-- Nothing stands behind a failure.
not_behind_a_failure : IsLawful (book found None) (Failed (failed (reserved 1)) ∷ Added (reserved 1) ∷ []) → ⊥
not_behind_a_failure h = by h.records h.closed h.is
  where
    by : (records : List Record) (closed : Option Failure) → Failed (failed (reserved 1)) ∷ Added (reserved 1) ∷ [] ≡ history_with records closed → ⊥
    by [] None is = cc
    by [] (Some failure) is = cc
    by (next ∷ records) closed is = cc

-- ---- what a pass shows

-- the first pass has seen what was found, and added nothing
first_shows : pass_with (book found None) (known_first stands (at found None))
    ≡ record { opened = book found None; seen = found; failure = None; own = []; faults = [] }
first_shows = refl

-- a pass that added a reservation, and whose settlement failed, behind one that another pass added
abbrev later : Known Noted Account
later = record {
  fixed = Some (book found None);
  base = history_with found None;
  seen = history_with (found ++ reserved 1 ∷ reserved 2 ∷ []) (Some (failed (settling 2 Lost)));
  own = (3, Added (reserved 2)) ∷ (4, Failed (failed (settling 2 Lost))) ∷ [];
  share = 8;
  shut = true;
}

later_shows : pass_with (opened_in later.fixed) later ≡ record {
  opened = book found None;
  seen = found ++ reserved 1 ∷ reserved 2 ∷ [];
  failure = Some (failed (settling 2 Lost));
  own = (3, reserved 2) ∷ [];
  faults = failed (settling 2 Lost) ∷ [];
}
later_shows = refl

-- Half of it has seen the same, and nothing of it is its own.
half_shows : pass_with (opened_in later.fixed) (given_half later) ≡ record {
  opened = book found None;
  seen = found ++ reserved 1 ∷ reserved 2 ∷ [];
  failure = Some (failed (settling 2 Lost));
  own = [];
  faults = [];
}
half_shows = refl

-- joined with the pass that added the other, which had seen less
abbrev other : Known Noted Account
other = record { fixed = later.fixed; base = later.base; seen = history_with (found ++ reserved 1 ∷ []) None; own = (2, Added (reserved 1)) ∷ []; share = 8; shut = false }

joined_shows : pass_with (opened_in later.fixed) (joined other later) ≡ record {
  opened = book found None;
  seen = found ++ reserved 1 ∷ reserved 2 ∷ [];
  failure = Some (failed (settling 2 Lost));
  own = (2, reserved 1) ∷ (3, reserved 2) ∷ [];
  faults = failed (settling 2 Lost) ∷ [];
}
joined_shows = refl

-- The book was just opened when it was put under the lock.
not_known_of_a_shut_book : IsPassKnown (book found (Some (failed (reserved 1)))) later → ⊥
not_known_of_a_shut_book h = let no : Some (failed (reserved 1)) ≡ None = h.fresh.unclosed in cc
