-- A journal that was just made has no records and is of the version that it was made in, so the book has the entry and nothing else.
use Rattle.std.proofs.Common.{◌≡◌, ℕ, zero, suc, ◌^◌, ◌<◌, ◌≤◌, List, [], ◌∷◌, slice_index, Option, Some, None, refl, sym, ◌∙◌, ap, subst, arith}
use Rattle.std.specs.Prelude.{replicate}
use Rattle.outside_disks.specs.Disks.{Trace, WhereTold, seen_of}
use Rattle.journal_records.specs.Encoding.{IsHeader, IsVersion}
use Rattle.journal_records.specs.declared.records.Header.{Header}
use Rattle.journal_records.specs.declared.records.Record.{Record}
use Rattle.budget_core.specs.Entries.{Entry, IsEntry}
use Rattle.budget_core.specs.Ledger.{Ledger}
use Rattle.budget_journal.specs.Areas.{version_in}
use Rattle.budget_journal.specs.Journals.{Found, IsAtRest, Stands, TellsSome}
use Rattle.budget_journal.proofs.Gates.{head-version}
use Rattle.budget_journal.proofs.One.{stands-one}
use Rattle.generated_house.specs.Sizes.{budget_for, capacity_for, journal_version, most_asks}
use Rattle.generated_house.specs.House.{entry_for}
use Rattle.generated_house.proofs.Houses.{entry_lawful}

-- What is found under a header that differs at most in its version is of the version that was made, and has no records.
module _ (header other : Header) (is : other ≡ record header { version = other.version }) (found : List Record) where
  module _ (t u : Trace) (rest : IsAtRest header [] t) (synced : seen_of u ≡ seen_of t) (stands : Stands other found (seen_of u)) where
    made_version : other.version ≡ header.version
    made_version = sym (head-version other (seen_of u) stands.head) ∙ ap version_in synced ∙ head-version header (seen_of t) rest.stands.head

    none_stand : found ≡ []
    none_stand =
        let same : other ≡ header = is ∙ ap (λ (v : ℕ). record header { version = v }) made_version in
        let here : Stands header found (seen_of u) = subst (λ (h : Header). Stands h found (seen_of u)) same stands in
        stands-one header found [] (seen_of u) here (subst (Stands header []) (sym synced) rest.stands)

  version_found : (t u : Option Trace) → TellsSome (IsAtRest header []) t → WhereTold (Found other found) t u → other.version ≡ header.version
  version_found None u rest told = absurd rest
  version_found (Some t) None rest told = absurd told
  version_found (Some t) (Some u) rest (synced, at) = made_version t u rest (ap seen_of synced) at.stands

  none_found : (t u : Option Trace) → TellsSome (IsAtRest header []) t → WhereTold (Found other found) t u → found ≡ []
  none_found None u rest told = absurd rest
  none_found (Some t) None rest told = absurd told
  none_found (Some t) (Some u) rest (synced, at) = none_stand t u rest (ap seen_of synced) at.stands

all_zero : (n i : ℕ) → slice_index (replicate n 0) i < 256
all_zero zero i = omega arith
all_zero (suc n) zero = omega arith
all_zero (suc n) (suc i) = all_zero n i

-- a header of owner 0, without a digest
abbrev pub header_with : (budget capacity version : ℕ) → Header
header_with budget capacity version = record { owner = 0; budget = budget; capacity = capacity; digest = replicate 32 0; version = version }

pub header_lawful : (budget capacity version : ℕ) → budget < 2 ^ 64 → capacity < 2 ^ 32 → IsVersion version → IsHeader (header_with budget capacity version)
header_lawful budget capacity version budget_fits capacity_fits known = record {
  owner = omega arith;
  budget = budget_fits;
  capacity = capacity_fits;
  digest = (refl, all_zero 32);
  version = known;
}

-- the entry in some version, by whatever names its parts have
abbrev pub entry_with : (budget capacity : ℕ) (keys : List ℕ) (limits : List (Option ℕ)) (version : ℕ) → Entry
entry_with budget capacity keys limits version =
    record { budget = budget; capacity = capacity; analysts = 1; keys = keys; version = version; limits = limits }

pub entry_is : (asks budget capacity : ℕ) (keys : List ℕ) (limits : List (Option ℕ)) (version : ℕ) → budget ≡ budget_for asks
    → capacity ≡ capacity_for asks → keys ≡ [] → limits ≡ None ∷ [] → entry_with budget capacity keys limits version ≡ record (entry_for asks) { version = version }
entry_is asks budget capacity keys limits version budget_is capacity_is none no_limit =
    λ i. entry_with (budget_is i) (capacity_is i) (none i) (no_limit i) version

pub entry_lawful_with : (asks budget capacity : ℕ) (keys : List ℕ) (limits : List (Option ℕ)) (version : ℕ) → 1 ≤ asks → asks ≤ most_asks
    → budget ≡ budget_for asks → capacity ≡ capacity_for asks → keys ≡ [] → limits ≡ None ∷ []
    → IsEntry (entry_with budget capacity keys limits version)
entry_lawful_with asks budget capacity keys limits version some few budget_is capacity_is none no_limit =
    subst IsEntry (sym (entry_is asks budget capacity keys limits version budget_is capacity_is none no_limit)) (entry_lawful asks version some few)

abbrev ledger_with : Entry → List Record → Ledger
ledger_with entry records = record { entry = entry; found = records; records = records }

-- what was made on an empty disk is opened
pub opened : (asks : ℕ) (entry : Entry) (header other : Header) (ledger : Ledger) (old made new : Option Trace) (first : Trace) → entry ≡ entry_for asks → header.version ≡ journal_version
    → other ≡ record header { version = other.version } → old ≡ Some first
    → ((t : Trace) → old ≡ Some t → (seen_of t ≡ []) × TellsSome (IsAtRest header []) made) → WhereTold (Found other ledger.found) made new
    → ledger ≡ record { entry = record entry { version = other.version }; found = ledger.found; records = ledger.found } → ledger ≡ record { entry = entry_for asks; found = []; records = [] }
opened asks entry header other ledger old made new first same second alike told rest found is =
    let tells = (rest first told).1 in
    let none : ledger.found ≡ [] = none_found header other alike ledger.found made new tells found in
    let version : other.version ≡ journal_version = version_found header other alike ledger.found made new tells found ∙ second in
    is ∙ (λ i. ledger_with (record (same i) { version = version i }) (none i))
