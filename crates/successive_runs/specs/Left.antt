-- What a run leaves of an owner's records.
use Rattle.std.specs.Prelude.{◌≡◌, ◌⊎◌, List, [], ◌∷◌, ◌++◌, Option, Some}
use mathlib.Core.List.{IsPrefix}
use Rattle.journal_records.specs.declared.records.Record.{Record}
use Rattle.budget_ledger.specs.declared.failure.Failure.{Failure}

-- A run that found some records and has these now leaves the found ones with some first ones of its own, whether it ends or is
-- stopped; where an append has failed, perhaps all of them with that append's record.
abbrev pub IsLeft : (found records : List Record) → Option Failure → (left : List Record) → Type 0
IsLeft found records closed left =
    (IsPrefix found left × IsPrefix left records)
    ⊎ ((failure : Failure) × (closed ≡ Some failure) × (left ≡ records ++ failure.pending ∷ []))
