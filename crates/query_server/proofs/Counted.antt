-- The lines of owners and their records, one after another.
use Rattle.std.proofs.Common.{◌≡◌, ◌<◌, ◌≤◌, ◌+◌, ◌∙◌, ◌++◌, ℕ, zero, suc, Bool, List, [], ◌∷◌, length, get_or, take, cond, Option, Some, None, Result, Ok, Err, refl, sym, ap, ap₂, subst, append_assoc, append-nil, arith}
use Rattle.std.specs.Prelude.{◌⊎◌, if◌then◌else◌, nat_eq, IfErr, IfOk, IfSome, IsErrAnd, IsSome}
use Rattle.std.specs.Result.{is_ok}
use Rattle.std.specs.List.{enumerate_from, flat_map}
use mathlib.Core.Logic.{inl, inr}
use Rattle.std.proofs.lemmas.Bool.{cases_eq, cases_lt, eq-eqb}
use Rattle.std.proofs.lemmas.List.{length-take-le, take_more}
use Rattle.std.proofs.lemmas.Grind.{flat_map-append}
use Rattle.fz_outside.specs.Faults.{HasRisen}
use mathlib.Core.List.{IsPrefix}
use Rattle.outside_disks.specs.Disks.{Passes, Shown, Trace, WhereTold, noted, seen_of}
use Rattle.outside_disks.specs.Disks.Step.{Synced}
use Rattle.outside_disks.specs.Stored.{ATwinRose, HasCountRisen, Stored, Twins}
use Rattle.outside_bays.proofs.Shelves.{not-equal}
use Rattle.journal_records.specs.declared.records.Header.{Header}
use Rattle.journal_records.specs.declared.records.Record.{Record}
use Rattle.budget_journal.specs.Journals.{IsAtRest, MayHaveSynced, Stands}
use Rattle.budget_journal.proofs.Fills.{journal-long}
use Rattle.budget_core.specs.Entries.{Entry}
use Rattle.budget_ledger.specs.Both.{HaveFailed, HoldsBytes}
use Rattle.owner_catalog.specs.Entries.{OwnerEntry}
use Rattle.generated_run.specs.SessionCore.Transcript.{Journals}
use Rattle.owner_books.specs.Shelves.{Shelf, AreGone, AreLost, AreSynced, BothGo, EachDisk, IsOnlySynced, IsTwinSynced, NoOtherRose, SomeLost, SomeRose, StandsStill}
use Rattle.owner_books.specs.Opened.{AreOpened, IsOpened}
use Rattle.query_server.specs.Audit.{counted_line, counted_text}
use Rattle.owner_catalog.specs.Limits.{owner_limit}
use Rattle.journal_records.specs.Encoding.{newest_version}
use Rattle.catalog_loading.specs.Loaded.{Loading, entry_at, entry_in, header_in, in_versions, owners_in}
use Rattle.std.proofs.Math.Seq.{take-length}
use Rattle.owner_books.specs.Books.{LeftDisk}
use Rattle.catalog_loading.specs.declared.stops.Stop.{Stop}
use Rattle.owner_books.proofs.Disks.{before_last, risen_from, synced_same}
use Rattle.query_server.proofs.Home.{some_of}

-- what is so of a stop is so where it is passed on
pub stop_passed : {T : Type 0} (P : Stop → Type 0) (stop : Stop) (result : Result T Stop) → IsErrAnd result (λ e. e ≡ stop) → P stop → IfErr result P
stop_passed P stop (Ok x) wrong is = tt
stop_passed P stop (Err other) same is = subst P (sym same) is

-- the pieces of a line, put one after another
pub one_line : (old name a n b m c k d l e s f t end : List ℕ)
    → (((((((old ++ name) ++ (a ++ n)) ++ (b ++ m)) ++ (c ++ k)) ++ (d ++ l)) ++ (e ++ s)) ++ (f ++ t)) ++ end
    ≡ old ++ (name ++ a ++ n ++ b ++ m ++ c ++ k ++ d ++ l ++ e ++ s ++ f ++ t ++ end)
one_line old name a n b m c k d l e s f t end = simp append_assoc refl

pub one_tally : (old a n b m c k d l e s f t end : List ℕ)
    → (((((((old ++ (a ++ n)) ++ (b ++ m)) ++ (c ++ k)) ++ (d ++ l)) ++ (e ++ s)) ++ f) ++ t) ++ end ≡ old ++ (a ++ n ++ b ++ m ++ c ++ k ++ d ++ l ++ e ++ s ++ f ++ t ++ end)
one_tally old a n b m c k d l e s f t end = simp append_assoc refl

-- what the last piece comes to
pub last_piece : {T E : Type 0} (r : Result T E) (new before piece text : List ℕ) → new ≡ (if is_ok r then before ++ piece else before) → before ++ piece ≡ text
    → IfOk r (λ _. new ≡ text)
last_piece (Ok x) new before piece text is whole = is ∙ whole
last_piece (Err x) new before piece text is whole = tt

-- an owner's line, by whatever names its parts have
pub counted_as : (old new : List ℕ) (entry e : Entry) (owner one : OwnerEntry) (found records : List Record) → e ≡ entry → one ≡ owner → records ≡ found → new ≡ old ++ counted_line e one records
    → new ≡ old ++ counted_line entry owner found
counted_as old new entry e owner one found records entry_is owner_is records_are is =
    is ∙ ap (λ (x : Entry). old ++ counted_line x one records) entry_is ∙ ap (λ (x : OwnerEntry). old ++ counted_line entry x records) owner_is
    ∙ ap (λ (x : List Record). old ++ counted_line entry owner x) records_are

-- the version and the records of each owner's journal
abbrev pub Told : Type 0
Told = ℕ → ℕ × List Record

abbrev pub line_by : (entries : ℕ → ℕ → Entry) → Told → ℕ × OwnerEntry → List ℕ
line_by entries told numbered = counted_line (entries numbered.0 (told numbered.0).0) numbered.1 (told numbered.0).1

abbrev pub lines_from : (entries : ℕ → ℕ → Entry) → ℕ → List OwnerEntry → Told → List ℕ
lines_from entries k owners told = flat_map (line_by entries told) (enumerate_from k owners)

same_lines : (entries : ℕ → ℕ → Entry) (k : ℕ) (owners : List OwnerEntry) (f g : Told) → ((p : ℕ) → k ≤ p → p < k + length owners → f p ≡ g p)
    → lines_from entries k owners f ≡ lines_from entries k owners g
same_lines entries k [] f g agree = refl
same_lines entries k (x ∷ xs) f g agree =
    ap₂ (λ (a b : List ℕ). a ++ b) (ap (λ (t : ℕ × List Record). counted_line (entries k t.0) x t.1) (agree k (omega arith) (omega arith)))
    (same_lines entries (k + 1) xs f g (λ p low high. agree p (omega (arith, low)) (omega (arith, high))))

numbered_more : (k : ℕ) (xs ys : List OwnerEntry) → enumerate_from k (xs ++ ys) ≡ enumerate_from k xs ++ enumerate_from (k + length xs) ys
numbered_more k [] ys = let same : k ≡ k + 0 = omega arith in ap (λ (j : ℕ). enumerate_from j ys) same
numbered_more k (x ∷ xs) ys =
    let same : (k + 1) + length xs ≡ k + length (x ∷ xs) = omega arith in
    ap (λ (rest : List (ℕ × OwnerEntry)). (k, x) ∷ rest) (numbered_more (k + 1) xs ys ∙ ap (λ (j : ℕ). enumerate_from (k + 1) xs ++ enumerate_from j ys) same)

line_more : (entries : ℕ → ℕ → Entry) (owners : List OwnerEntry) (f : Told) (n : ℕ) (d : OwnerEntry) → n < length owners
    → lines_from entries 0 (take (n + 1) owners) f ≡ lines_from entries 0 (take n owners) f ++ line_by entries f (n, get_or owners n d)
line_more entries owners f n d less =
    let some : length (take n owners) ≡ n = length-take-le n owners (omega (arith, less)) in
    ap (λ (xs : List OwnerEntry). lines_from entries 0 xs f) (take_more owners n d less)
    ∙ ap (flat_map (line_by entries f)) (numbered_more 0 (take n owners) (get_or owners n d ∷ []))
    ∙ flat_map-append (line_by entries f) (enumerate_from 0 (take n owners)) (enumerate_from (0 + length (take n owners)) (get_or owners n d ∷ []))
    ∙ ap (λ (text : List ℕ). lines_from entries 0 (take n owners) f ++ text) (append-nil (line_by entries f (0 + length (take n owners), get_or owners n d)))
    ∙ ap (λ (j : ℕ). lines_from entries 0 (take n owners) f ++ line_by entries f (j, get_or owners n d)) (omega (arith, some))

-- one owner more
abbrev with_next : Told → ℕ → ℕ × List Record → Told
with_next told o journal p = cond (nat_eq p o) journal (told p)

next_here : (told : Told) (o : ℕ) (journal : ℕ × List Record) → with_next told o journal o ≡ journal
next_here told o journal = ap (λ (b : Bool). cond b journal (told o)) (eq-eqb o o refl)

next_elsewhere : (told : Told) (o : ℕ) (journal : ℕ × List Record) (p : ℕ) → (p ≡ o → ⊥) → with_next told o journal p ≡ told p
next_elsewhere told o journal p isnt = ap (λ (b : Bool). cond b journal (told p)) (not-equal p o isnt)

-- the first owners' journals, which are known to be so, and their lines
abbrev pub AreCounted : (entries : ℕ → ℕ → Entry) → (Known : ℕ → ℕ × List Record → Type 0) → List OwnerEntry → (n : ℕ) → (lines : List ℕ) → Type 0
AreCounted entries Known owners n lines = (told : Told) × ((o : ℕ) → o < n → Known o (told o)) × (lines ≡ lines_from entries 0 (take n owners) told)

pub none_counted : (entries : ℕ → ℕ → Entry) (Known : ℕ → ℕ × List Record → Type 0) (owners : List OwnerEntry) (lines : List ℕ) → lines ≡ [] → AreCounted entries Known owners 0 lines
none_counted entries Known owners lines is = (λ o. (0, []), λ o less. absurd (omega (arith, less)), is)

pub one_counted : (entries : ℕ → ℕ → Entry) (Known : ℕ → ℕ × List Record → Type 0) (owners : List OwnerEntry) (o : ℕ) (d : OwnerEntry) (journal : ℕ × List Record) (lines more : List ℕ) → o < length owners
    → AreCounted entries Known owners o lines → Known o journal → more ≡ lines ++ counted_line (entries o journal.0) (get_or owners o d) journal.1 → AreCounted entries Known owners (o + 1) more
one_counted entries Known owners o d journal lines more within (told, known, text) last is = (
  with_next told o journal,
  λ p less. here p less (cases_eq p o),
  is ∙ ap (λ (t : List ℕ). t ++ counted_line (entries o journal.0) (get_or owners o d) journal.1) (text ∙ same_lines entries 0 (take o owners) told (with_next told o journal) (λ p low high. sym (elsewhere p (few high))))
      ∙ ap (λ (j : ℕ × List Record). lines_from entries 0 (take o owners) (with_next told o journal) ++ counted_line (entries o j.0) (get_or owners o d) j.1) (sym (next_here told o journal))
      ∙ sym (line_more entries owners (with_next told o journal) o d within),
)
  where
    few : {p : ℕ} → p < 0 + length (take o owners) → p < o
    few high = let some : length (take o owners) ≡ o = length-take-le o owners (omega (arith, within)) in omega (arith, high, some)

    elsewhere : (p : ℕ) → p < o → with_next told o journal p ≡ told p
    elsewhere p less = next_elsewhere told o journal p (λ same. omega (arith, less, same))

    here : (p : ℕ) → p < o + 1 → (p ≡ o) ⊎ (p ≡ o → ⊥) → Known p (with_next told o journal p)
    here p less (inl same) = subst (λ (q : ℕ). Known q (with_next told o journal q)) (sym same) (subst (Known o) (sym (next_here told o journal)) last)
    here p less (inr isnt) = subst (Known p) (sym (next_elsewhere told o journal p isnt)) (known p (before_last p o less isnt))

-- the first versions, in order
pub first_of : (ℕ → ℕ) → (n : ℕ) → List ℕ
first_of f zero = []
first_of f (suc n) = f 0 ∷ first_of (λ k. f (k + 1)) n

first_length : (f : ℕ → ℕ) (n : ℕ) → length (first_of f n) ≡ n
unfolding first_of
first_length f zero = refl
first_length f (suc n) = let rest = first_length (λ k. f (k + 1)) n in omega (arith, rest)

first_at : (f : ℕ → ℕ) (n o d : ℕ) → o < n → get_or (first_of f n) o d ≡ f o
unfolding first_of
first_at f zero o d less = absurd (omega (arith, less))
first_at f (suc n) zero d less = refl
first_at f (suc n) (suc o) d less = let same : o + 1 ≡ suc o = omega arith in first_at (λ k. f (k + 1)) n o d (omega (arith, less)) ∙ ap f same

-- what is known of the first owners' journals stays so
pub counted_on : (entries : ℕ → ℕ → Entry) (Known Later : ℕ → ℕ × List Record → Type 0) (owners : List OwnerEntry) (n : ℕ) (lines : List ℕ)
    → ((o : ℕ) → o < n → (journal : ℕ × List Record) → Known o journal → Later o journal) → AreCounted entries Known owners n lines → AreCounted entries Later owners n lines
counted_on entries Known Later owners n lines stays (told, known, text) = (told, λ o less. stays o less (told o) (known o less), text)

-- all owners' journals were opened, each in its version, and these are their lines
pub all_counted : (loading : Loading) (key : List ℕ) (old new : Shelf) (n : ℕ) (lines : List ℕ) → n ≡ owners_in loading → owners_in loading ≤ owner_limit
    → AreCounted (entry_in loading) (λ o journal. IsOpened (entry_in loading o journal.0) (header_in loading key o journal.0) (old o) (new o) journal.1) loading.register.catalog.owners n lines
    → (versions : List ℕ) × (found : Journals) × AreOpened loading key old new versions found × (lines ≡ counted_text (in_versions loading versions) found)
all_counted loading key old new n lines all few (told, known, text) = (
  versions,
  found,
  record {
    counted = first_length of_journals owner_limit;
    each = λ o within.
        subst (λ (v : ℕ). IsOpened (entry_in loading o v) (header_in loading key o v) (old o) (new o) (found o)) (sym (version o (omega (arith, within, few)))) (known o (omega (arith, within, all)));
  },
  text ∙ ap (λ (k : ℕ). lines_from (entry_in loading) 0 (take k owners) told) all ∙ ap (λ (xs : List OwnerEntry). lines_from (entry_in loading) 0 xs told) (take-length owners)
      ∙ by_version 0 owners (λ p less. version p (omega (arith, less, few))),
)
  where
    owners : List OwnerEntry
    owners = loading.register.catalog.owners

    found : Journals
    found o = (told o).1

    of_journals : ℕ → ℕ
    of_journals o = (told o).0

    versions : List ℕ
    versions = first_of of_journals owner_limit

    version : (o : ℕ) → o < owner_limit → get_or versions o newest_version ≡ (told o).0
    version o less = first_at of_journals owner_limit o newest_version less

    by_version : (k : ℕ) (xs : List OwnerEntry) → ((p : ℕ) → p < k + length xs → get_or versions p newest_version ≡ (told p).0)
        → lines_from (entry_in loading) k xs told ≡ flat_map (λ numbered. counted_line (entry_at (in_versions loading versions) numbered.0) numbered.1 (found numbered.0)) (enumerate_from k xs)
    by_version k [] agree = refl
    by_version k (x ∷ xs) agree =
        ap₂ (λ (a b : List ℕ). a ++ b) (ap (λ (v : ℕ). counted_line (entry_in loading k v) x (found k)) (sym (agree k (omega arith))))
        (by_version (k + 1) xs (λ p less. agree p (omega (arith, less))))

-- one disk more was synced at most
pub one_left : (o : ℕ) (old mid new : Shelf) → EachDisk o (λ _. IsOnlySynced) old mid → LeftDisk o mid new → EachDisk (o + 1) (λ _. IsOnlySynced) old new
one_left o old mid new before left = record {
  owned = λ p shown less at. here p shown less at (cases_eq p o);
  others = λ p past. left.elsewhere p (λ same. omega (arith, past, same)) ∙ before.others p (omega (arith, past));
}
  where
    here : (p : ℕ) (shown : Stored) → p < o + 1 → old p ≡ Some shown → (p ≡ o) ⊎ (p ≡ o → ⊥) → (after : Stored) × (new p ≡ Some after) × IsOnlySynced shown after
    here p shown less at (inl same) =
        let after = left.here shown (before.others o (omega arith) ∙ ap old (sym same) ∙ at) in
        (after.0, ap new same ∙ after.1, after.2)
    here p shown less at (inr isnt) =
        let after = before.owned p shown (before_last p o less isnt) at in
        (after.0, left.elsewhere p isnt ∙ after.1, after.2)

-- more disks, which are as they were
pub more_left : (n m : ℕ) (old new : Shelf) → n ≤ m → EachDisk n (λ _. IsOnlySynced) old new → EachDisk m (λ _. IsOnlySynced) old new
more_left n m old new few each = record {
  owned = λ p shown less at. here p shown at (cases_lt p n);
  others = λ p past. each.others p (omega (arith, past, few));
}
  where
    here : (p : ℕ) (shown : Stored) → old p ≡ Some shown → (p < n) ⊎ (n ≤ p) → (after : Stored) × (new p ≡ Some after) × IsOnlySynced shown after
    here p shown at (inl less) = each.owned p shown less at
    here p shown at (inr past) = (shown, each.others p past ∙ at, synced_same shown)

-- one disk more whose count stands still
pub still_elsewhere : (o : ℕ) (old mid new : Shelf) → ((p : ℕ) → StandsStill p old mid) → LeftDisk o mid new → NoOtherRose o old new
still_elsewhere o old mid new before left p isnt earlier later was shows = before p earlier later was (sym (left.elsewhere p isnt) ∙ shows)

pub one_still : (o : ℕ) (old mid new : Shelf) → ((p : ℕ) → StandsStill p old mid) → mid o ≡ old o → StandsStill o mid new → LeftDisk o mid new → (p : ℕ) → StandsStill p old new
one_still o old mid new before same last left p = here (cases_eq p o)
  where
    here : (p ≡ o) ⊎ (p ≡ o → ⊥) → StandsStill p old new
    here (inl is) = subst (λ (q : ℕ). StandsStill q old new) (sym is) (λ earlier later was shows. last earlier later (same ∙ was) shows)
    here (inr isnt) = still_elsewhere o old mid new before left p isnt

-- a count that stands at its last value may rise always
none_before : (before : Option Twins) → BothGo AreSynced before None → before ≡ None
none_before None went = refl
none_before (Some t) went = absurd went

synced_counts : (other before after : Shown) → IsTwinSynced other before after → before.faults ≤ after.faults
synced_counts other before after (inl left) = left.counts
synced_counts other before after (inr levelled) = levelled.counts

twin_rose : (before after : Option Twins) → BothGo AreSynced before after → ATwinRose after after → ATwinRose before after
twin_rose None None went rose = rose
twin_rose None (Some u) went rose = absurd went
twin_rose (Some t) None went rose = rose
twin_rose (Some t) (Some u) went (inl rose) =
    inl (risen_from t.first.faults u.first.faults u.first.faults u.first.faults (synced_counts t.second t.first u.first went.0) (omega arith) (omega arith) rose)
twin_rose (Some t) (Some u) went (inr rose) =
    inr (risen_from t.second.faults u.second.faults u.second.faults u.second.faults (synced_counts t.first t.second u.second went.1) (omega arith) (omega arith) rose)

still_rose : (before after : Stored) → IsOnlySynced before after → HasCountRisen after after → HasCountRisen before after
still_rose before after synced (inl (one, rose)) = inl (
  none_before before.twins (subst (λ (t : Option Twins). BothGo AreSynced before.twins t) one synced.twins),
  risen_from before.faults after.faults after.faults after.faults synced.counts (omega arith) (omega arith) rose,
)
still_rose before after synced (inr rose) = inr (twin_rose before.twins after.twins synced.twins rose)

pub rose_since : (o : ℕ) (old mid new : Shelf) (a b c : ℕ) → a ≤ b → b ≤ c → ((p : ℕ) → p < o → IsSome (old p)) → EachDisk o (λ _. IsOnlySynced) old mid → LeftDisk o mid new
    → HasRisen b c ⊎ SomeRose mid new → HasRisen a c ⊎ SomeRose old new
rose_since o old mid new a b c first second home before left (inl rose) = inl (risen_from a b c c first second (omega arith) rose)
rose_since o old mid new a b c first second home before left (inr (p, was, is, at, now, rose)) = inr (here (cases_lt p o))
  where
    here : (p < o) ⊎ (o ≤ p) → SomeRose old new
    here (inl less) =
        let begun = some_of (old p) (home p less) in
        let step = before.owned p begun.0 less begun.1 in
        let same : step.0 ≡ was = let e : Some step.0 ≡ Some was = sym step.1 ∙ at in cc e in
        let still : is ≡ was = let e : Some is ≡ Some was = sym now ∙ left.elsewhere p (λ q. omega (arith, less, q)) ∙ at in cc e in
        let synced : IsOnlySynced begun.0 was = subst (IsOnlySynced begun.0) same step.2 in
        (p, begun.0, is, begun.1, now, subst (HasCountRisen begun.0) (sym still) (still_rose begun.0 was synced (subst (HasCountRisen was) still rose)))
    here (inr past) = (p, was, is, sym (before.others p past) ∙ at, now, rose)

-- an empty disk was empty before it was synced
empty_before : (other before after : Shown) → IsTwinSynced other before after → HoldsBytes (λ bytes. bytes ≡ []) after → HasRisen before.faults after.faults ⊎ HoldsBytes (λ bytes. bytes ≡ []) before
empty_before other before after (inl left) empty = inr (here before.trace after.trace left.synced empty)
  where
    here : (t u : Option Trace) → MayHaveSynced t u → IfSome u (λ w. seen_of w ≡ []) → IfSome t (λ w. seen_of w ≡ [])
    here None u synced is = tt
    here (Some t) u (inl same) is = subst (λ (o : Option Trace). IfSome o (λ w. seen_of w ≡ [])) same is
    here (Some t) u (inr synced) is = subst (λ (o : Option Trace). IfSome o (λ w. seen_of w ≡ [])) synced is
empty_before other before after (inr levelled) empty = here levelled.kept
  where
    told : (t u : Option Trace) → WhereTold (Passes (λ bytes. (g : List Record) × IsPrefix levelled.has g × IsPrefix g levelled.all × Stands levelled.header g bytes)) (noted Synced t) u
        → IfSome u (IsAtRest levelled.header levelled.all) → IfSome u (λ w. seen_of w ≡ []) → IfSome t (λ w. seen_of w ≡ [])
    told None u passed rest is = tt
    told (Some t) None passed rest is = absurd passed
    told (Some t) (Some u) passed rest is =
        let long : 128 ≤ length (seen_of u) = journal-long levelled.header levelled.all (seen_of u) rest.stands in
        let none : length (seen_of u) ≡ 0 = ap length is in
        absurd (omega (arith, long, none))

    here : IfSome after.trace (IsAtRest levelled.header levelled.all) ⊎ HasRisen before.faults after.faults → HasRisen before.faults after.faults ⊎ HoldsBytes (λ bytes. bytes ≡ []) before
    here (inl rest) = inr (told before.trace after.trace levelled.moments rest empty)
    here (inr rose) = inl rose

-- both were lost, and are so since before they were synced
first_rose : (before after : Twins) → AreSynced before after → HasRisen after.first.faults after.first.faults → HasRisen before.first.faults after.first.faults
first_rose before after synced rose =
    risen_from before.first.faults after.first.faults after.first.faults after.first.faults (synced_counts before.second before.first after.first synced.0) (omega arith) (omega arith) rose

second_rose : (before after : Twins) → AreSynced before after → HasRisen after.second.faults after.second.faults → HasRisen before.second.faults after.second.faults
second_rose before after synced rose =
    risen_from before.second.faults after.second.faults after.second.faults after.second.faults (synced_counts before.first before.second after.second synced.1) (omega arith) (omega arith) rose

both_gone : (before after : Twins) → AreSynced before after → HaveFailed after after → HaveFailed before after
both_gone before after synced (inl (first, second)) = inl (first_rose before after synced first, second_rose before after synced second)
both_gone before after synced (inr (inl (first, empty))) = here (empty_before before.first before.second after.second synced.1 empty)
  where
    here : HasRisen before.second.faults after.second.faults ⊎ HoldsBytes (λ bytes. bytes ≡ []) before.second → HaveFailed before after
    here (inl rose) = inl (first_rose before after synced first, rose)
    here (inr is) = inr (inl (first_rose before after synced first, is))
both_gone before after synced (inr (inr (empty, second))) = here (empty_before before.second before.first after.first synced.0 empty)
  where
    here : HasRisen before.first.faults after.first.faults ⊎ HoldsBytes (λ bytes. bytes ≡ []) before.first → HaveFailed before after
    here (inl rose) = inl (rose, second_rose before after synced second)
    here (inr is) = inr (inr (is, second_rose before after synced second))

twins_gone : (before after : Option Twins) → BothGo AreSynced before after → AreGone after after → AreGone before after
twins_gone None None went gone = gone
twins_gone None (Some u) went gone = absurd went
twins_gone (Some t) None went gone = absurd went
twins_gone (Some t) (Some u) went gone = both_gone t u went gone

still_lost : (before after : Stored) → IsOnlySynced before after → AreLost after after → AreLost before after
still_lost before after synced (inl (one, rose)) = inl (
  none_before before.twins (subst (λ (t : Option Twins). BothGo AreSynced before.twins t) one synced.twins),
  risen_from before.faults after.faults after.faults after.faults synced.counts (omega arith) (omega arith) rose,
)
still_lost before after synced (inr gone) = inr (twins_gone before.twins after.twins synced.twins gone)

pub lost_since : (o : ℕ) (old mid new : Shelf) (a b c : ℕ) → a ≤ b → b ≤ c → ((p : ℕ) → p < o → IsSome (old p)) → EachDisk o (λ _. IsOnlySynced) old mid → LeftDisk o mid new
    → HasRisen b c ⊎ SomeLost mid new → HasRisen a c ⊎ SomeLost old new
lost_since o old mid new a b c first second home before left (inl rose) = inl (risen_from a b c c first second (omega arith) rose)
lost_since o old mid new a b c first second home before left (inr (p, was, is, at, now, rose)) = inr (here (cases_lt p o))
  where
    here : (p < o) ⊎ (o ≤ p) → SomeLost old new
    here (inl less) =
        let begun = some_of (old p) (home p less) in
        let step = before.owned p begun.0 less begun.1 in
        let same : step.0 ≡ was = let e : Some step.0 ≡ Some was = sym step.1 ∙ at in cc e in
        let still : is ≡ was = let e : Some is ≡ Some was = sym now ∙ left.elsewhere p (λ q. omega (arith, less, q)) ∙ at in cc e in
        let synced : IsOnlySynced begun.0 was = subst (IsOnlySynced begun.0) same step.2 in
        (p, begun.0, is, begun.1, now, subst (AreLost begun.0) (sym still) (still_lost begun.0 was synced (subst (AreLost was) still rose)))
    here (inr past) = (p, was, is, sym (before.others p past) ∙ at, now, rose)

pub opened_as : (entry : Entry) (header : Header) (before old now new : Option Stored) (found : List Record) → before ≡ old → now ≡ new → IsOpened entry header before now found → IsOpened entry header old new found
opened_as entry header before old now new found at is opened =
    subst (λ (s : Option Stored). IsOpened entry header s new found) at (subst (λ (s : Option Stored). IsOpened entry header before s found) is opened)
