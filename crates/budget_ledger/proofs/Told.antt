-- What a disk's steps in an append make of a journal.
use Rattle.std.proofs.Common.{◌⊎◌, ℕ, ◌<◌, List, [], ◌∷◌, ◌++◌, refl, inl, inr, Option, Some, None}
use Rattle.std.specs.Prelude.{IfSome}
use Rattle.outside_disks.specs.Disks.{Trace, IsImageOf, moment, WhereTold}
use Rattle.outside_disks.proofs.Images.{now-was, passes-weaker}
use Rattle.journal_records.specs.declared.records.Record.{Record}
use Rattle.journal_records.specs.declared.records.Header.{Header}
use Rattle.budget_journal.specs.Journals.{IsAtRest, IsBeforeOrAfter, Mark, IsMarked, Appended, AppendFailed}
use Rattle.budget_ledger.specs.Account.{IsKeptNow, IsMoment, HasPassed}
use Rattle.budget_ledger.proofs.Wents.{prefix_self, prefix_by}

module _ (header : Header) (records : List Record) (next : Record) where
  added_moment : (bytes : List ℕ) → IsBeforeOrAfter header records next bytes → IsMoment header records (records ++ next ∷ []) None bytes
  added_moment bytes (inl before) = inl (records, prefix_self records, prefix_by records (next ∷ []), before)
  added_moment bytes (inr after) = inl (records ++ next ∷ [], prefix_by records (next ∷ []), prefix_self (records ++ next ∷ []), after)

  failed_moment : (failed_at : ℕ) (bytes : List ℕ) → IsBeforeOrAfter header records next bytes
      → IsMoment header records records (Some (record { failed_at = failed_at; pending = next })) bytes
  failed_moment failed_at bytes (inl before) = inl (records, prefix_self records, prefix_self records, before)
  failed_moment failed_at bytes (inr after) = inr (record { failed_at = failed_at; pending = next }, refl, after)

  -- an append that answered Ok
  pub told_added : (mark now : Mark) (before after : Option Trace) → mark.used < mark.capacity → IfSome before (IsAtRest header records)
      → IfSome before (IsMarked mark header records) → WhereTold (Appended mark next now) before after
      → IfSome after (IsAtRest header (records ++ next ∷ [])) × WhereTold (HasPassed header records (records ++ next ∷ []) None) before after
      × IfSome after (IsMarked now header (records ++ next ∷ []))
  told_added mark now None None room rest at appended = (tt, tt, tt)
  told_added mark now None (Some u) room rest at appended = absurd appended
  told_added mark now (Some t) None room rest at appended = absurd appended
  told_added mark now (Some t) (Some u) room rest at appended =
      let all = appended header records rest at room in (
        all.0,
        passes-weaker (IsBeforeOrAfter header records next) (λ bytes. IsImageOf t bytes ⊎ IsMoment header records (records ++ next ∷ []) None bytes) t u
            (λ bytes some. inr (added_moment bytes some)) all.2,
        all.1,
      )

  -- an append that failed
  pub told_failed : (failed_at : ℕ) (mark : Mark) (before after : Option Trace) → mark.used < mark.capacity → IfSome before (IsAtRest header records)
      → IfSome before (IsMarked mark header records) → WhereTold (AppendFailed mark next) before after
      → IfSome after (IsKeptNow header records (Some (record { failed_at = failed_at; pending = next })))
      × WhereTold (HasPassed header records records (Some (record { failed_at = failed_at; pending = next }))) before after
  told_failed failed_at mark None None room rest at refused = (tt, tt)
  told_failed failed_at mark None (Some u) room rest at refused = absurd refused
  told_failed failed_at mark (Some t) None room rest at refused = absurd refused
  told_failed failed_at mark (Some t) (Some u) room rest at refused =
      let passes = refused header records rest at room in (
        λ bytes image. passes.each bytes (now-was (moment t) u.start u.steps bytes image),
        passes-weaker (IsBeforeOrAfter header records next)
            (λ bytes. IsImageOf t bytes ⊎ IsMoment header records records (Some (record { failed_at = failed_at; pending = next })) bytes) t u
            (λ bytes some. inr (failed_moment failed_at bytes some)) passes,
      )
