-- what a shared budget leaves to each analyst
use Rattle.std.proofs.Common.{◌≡◌, ℕ, ◌≤◌, ◌<◌, nat_lt, false, List, slice_get, Option, Some, None, unwrap_or, refl, ap, arith}
use Rattle.std.specs.Prelude.{IsSome}
use Rattle.std.proofs.lemmas.Bool.{ltb-false}
use Rattle.std.proofs.lemmas.Option.{slice_get_within}
use Rattle.journal_records.specs.declared.records.Record.{Record}
use Rattle.journal_records.specs.Records.{is_some_and}
use Rattle.budget_core.specs.declared.entry.Ask.{Ask}
use Rattle.budget_core.specs.Cost.{budget_of}
use Rattle.budget_core.specs.Entries.{Entry, limit_of}
use Rattle.budget_core.specs.Ledger.{cost_with, spent_with, is_over_share}
use Rattle.budget_core.specs.Legal.{IsHistory}
use Rattle.budget_core.proofs.MineLemmas.{spent_goes_by_own}
use Rattle.budget_core.proofs.MineShares.{shares-kept}
use Rattle.budget_core.specs.Mine.{asked_by}
use Rattle.owner_history.specs.Limits.{IsShared}

-- who has a limit is an analyst of the entry
pub limited_known : (entry : Entry) (analyst limit : ℕ) → IsShared entry → limit_of entry analyst ≡ Some limit → analyst < entry.analysts
limited_known entry analyst limit shared is = by (slice_get entry.limits analyst) refl is
  where
    by : (o : Option (Option ℕ)) → slice_get entry.limits analyst ≡ o → unwrap_or o None ≡ Some limit → analyst < entry.analysts
    by None at said = absurd (cc (said))
    by (Some its) at said = omega (arith, slice_get_within entry.limits analyst its at, shared.only)

budget_grows : (entry : Entry) (records : List Record) → entry.budget ≤ budget_of entry records
unfolding budget_of
budget_grows entry records = omega arith

some_limit : (o : Option ℕ) → IsSome o → o ≡ Some (unwrap_or o 0)
some_limit None is = absurd (cc (is))
some_limit (Some limit) is = refl

-- what isn't over a limit is at most the limit
within_limit : (o : Option ℕ) (spent : ℕ) → IsSome o → is_some_and (λ limit. nat_lt limit spent) o ≡ false → spent ≤ unwrap_or o 0
within_limit None spent is within = absurd (cc (is))
within_limit (Some limit) spent is within = ltb-false limit spent within

-- In a shared budget an ask within its analyst's limit is within the budget.
pub shares_are_kept : (entry : Entry) (records : List Record) (ask : Ask) → IsShared entry → IsHistory entry records → ask.analyst < entry.analysts → is_over_share entry records ask ≡ false
    → cost_with entry records ask ≤ budget_of entry records
shares_are_kept entry records ask shared h known within =
    let fits = budget_grows entry records in
    let own : spent_with entry records ask ≤ unwrap_or (limit_of entry ask.analyst) 0 = within_limit (limit_of entry ask.analyst) (spent_with entry records ask) (shared.each ask.analyst known) within in
    shares-kept entry records ask (λ a. unwrap_or (limit_of entry a) 0) h known (λ a low. some_limit (limit_of entry a) (shared.each a low)) (omega (arith, shared.within, fits)) own

-- Whether an ask exceeds its analyst's limit goes by what this analyst asked.
pub limits_go_by_own : (entry : Entry) (records other : List Record) (ask : Ask) → IsHistory entry records → IsHistory entry other → asked_by records ask.analyst ≡ asked_by other ask.analyst
    → is_over_share entry records ask ≡ is_over_share entry other ask
limits_go_by_own entry records other ask h k same =
    ap (λ (spent : ℕ). is_some_and (λ limit. nat_lt limit spent) (limit_of entry ask.analyst)) (spent_goes_by_own entry records other ask h k same)
