-- Grants over many runs.
use Rattle.std.proofs.Common.{List, [], ◌∷◌, ◌++◌, ℕ, subst, inl, inr, Option}
use mathlib.Core.List.{IsPrefix}
use Rattle.journal_records.specs.declared.records.Record.{Record}
use Rattle.journal_records.specs.declared.records.Header.{Header}
use Rattle.budget_journal.specs.Journals.{Stands}
use Rattle.budget_journal.proofs.One.{stands-one}
use Rattle.budget_core.proofs.Grants.{numbers-grow}
use Rattle.budget_ledger.specs.Account.{Failure, IsMoment}
use Rattle.budget_ledger.specs.Laws.{Interrupted, LeadTo, GrantsNeverShare}
use Rattle.budget_ledger.proofs.Wents.{prefix_by, prefix_then}

-- A file that a stop left stands for records that begin with the acknowledged ones.
moment_begins : (header : Header) (old new : List Record) (closed : Option Failure) (bytes : List ℕ) (found : List Record) → IsPrefix old new
    → IsMoment header old new closed bytes → Stands header found bytes → IsPrefix old found
moment_begins header old new closed bytes found begins (inl (g, first, second, stands)) reads =
    subst (IsPrefix old) (stands-one header g found bytes stands reads) first
moment_begins header old new closed bytes found begins (inr (failure, is, stands)) reads =
    subst (IsPrefix old) (stands-one header (new ++ failure.pending ∷ []) found bytes stands reads)
    (prefix_then old new (new ++ failure.pending ∷ []) begins (prefix_by new (failure.pending ∷ [])))

pub runs_begin : (header : Header) (records : List Record) (runs : List Interrupted) (later : List Record) → LeadTo header records runs later → IsPrefix records later
runs_begin header records [] later begins = begins
runs_begin header records (run ∷ runs) later (head, went, moment, (found, stands, lead)) =
    prefix_then records found later (moment_begins header records run.new run.after.closed run.left found went.begins moment stands)
    (runs_begin header found runs later lead)

pub grants_apart : GrantsNeverShare
grants_apart entry header start later_start records later runs ask other grant next granted lead then =
    numbers-grow entry start later_start records later ask other grant next granted (runs_begin header _ runs later lead) then
