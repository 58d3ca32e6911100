-- a house with the versions of its journals, and desks that are opened one after another
use Rattle.std.proofs.Common.{◌≡◌, ◌∙◌, ◌<◌, ◌+◌, ℕ, List, [], ◌∷◌, ◌++◌, length, get_or, refl, sym, ap, subst, arith}
use Rattle.std.specs.Prelude.{slice_set}
use Rattle.std.proofs.lemmas.List.{get_or-set_other, get_or-set_same, length-set}
use Rattle.journal_records.specs.declared.records.Header.{Header}
use Rattle.journal_records.specs.Encoding.{newest_version}
use Rattle.budget_core.specs.Entries.{Entry}
use Rattle.owner_desk.specs.Passes.{Pass}
use Rattle.owner_catalog.specs.Limits.{owner_limit}
use Rattle.session_core.specs.Code.{ArePasses, pass_at}
use Rattle.owner_house.specs.House.{House, house_of}
use Rattle.owner_house.proofs.Owners.{entry_said, in_catalog, owners_length}
use Rattle.std.proofs.lemmas.Option.{slice_get_within}
use Rattle.catalog_loading.specs.Loaded.{IsKeyedHouse, IsLoading, KeyedHouse, Loading, entry_at, entry_in, header_in, header_of, in_versions, keyed, new_header, owners_in}
use Rattle.owner_books.specs.Shelves.{NoOtherRose, Shelf}
use Rattle.budget_ledger.specs.Account.{Account}
use Rattle.owner_books.specs.Books.{ArePassesOn, ArePutBack, IsBookStop, IsNewPass, IsOpenStop, TookDisk}
use Rattle.catalog_loading.specs.declared.stops.Stop.{Stop}
use Rattle.catalog_loading.specs.declared.stops.Stop.TheVariants.{Journal, Disk, NoMemory}
use Rattle.owner_books.proofs.Passes.{one_opened}
use Rattle.owner_books.proofs.Stops.{book_stopped, opened_before}

pub lawful_in : (loading : Loading) (versions : List ℕ) → IsLoading loading → length versions ≡ owner_limit → IsLoading (in_versions loading versions)
lawful_in loading versions lawful counted = record {
  register = record { catalog = lawful.register.catalog; each_has = lawful.register.each_has; versioned = counted; holds = lawful.register.holds };
  hashed = lawful.hashed;
}

module _ (loading : Loading) (key : List ℕ) (lawful : IsLoading loading) where
  abbrev house : House
  house = house_of loading.register

  -- The passes that were opened are of the house's owners.
  pub opened_passes : (old mid : Shelf) (passes : List Pass) → ArePassesOn (entry_at loading) (header_of loading key) (owners_in loading) old mid passes → ArePasses (house_of loading.register) passes
  opened_passes old mid passes on = record {
    each_has = on.count ∙ sym (owners_length loading.register lawful.register);
    entries = λ o owner at.
        (let within = in_catalog loading.register lawful.register o (slice_get_within house.owners o owner at) in (on.each o within).book.of_entry ∙ entry_said loading.register o owner newest_version at);
  }

-- passes on books of entries and headers that are the same
agreed : (E F : ℕ → Entry) (H K : ℕ → Header) (n : ℕ) (old mid : Shelf) (passes : List Pass) → ((o : ℕ) → o < n → (E o ≡ F o) × (H o ≡ K o)) → ArePassesOn E H n old mid passes
    → ArePassesOn F K n old mid passes
agreed E F H K n old mid passes same on = record {
  count = on.count;
  each = λ o less.
      subst (λ (e : Entry). IsNewPass e (K o) (old o) (pass_at passes o)) (same o less).0
      (subst (λ (h : Header). IsNewPass (E o) h (old o) (pass_at passes o)) (same o less).1 (on.each o less));
  taken = on.taken;
  others = on.others;
}

-- The first owners' desks are opened, and the house has the versions of their journals.
pub record AreDesks (loading : Loading) (key : List ℕ) (n : ℕ) (old mid : Shelf) (opened : KeyedHouse) (passes : List Pass) : Type 0 where
  pub versions : List ℕ
  pub counted : length versions ≡ owner_limit
  pub is : opened ≡ keyed (in_versions loading versions) key
  pub on : ArePassesOn (entry_at (in_versions loading versions)) (header_of (in_versions loading versions) key) n old mid passes

pub no_desks : (opened : KeyedHouse) (shelf : Shelf) (passes : List Pass) → IsKeyedHouse opened → passes ≡ [] → AreDesks opened.loading opened.key 0 shelf shelf opened passes
no_desks opened shelf passes lawful none = record {
  versions = opened.loading.register.versions;
  counted = lawful.lawful.register.versioned;
  is = refl;
  on = record { count = ap length none; each = λ o less. absurd (omega (arith, less)); taken = λ o less. absurd (omega (arith, less)); others = λ o past. refl };
}

module _ (loading : Loading) (key : List ℕ) (n : ℕ) (old mid : Shelf) (opened : KeyedHouse) (passes : List Pass) (desks : AreDesks loading key n old mid opened passes) where
  -- what is asked of the next owner's
  pub next_within : n < owners_in loading → n < owners_in opened.loading
  next_within within = subst (λ (h : KeyedHouse). n < owners_in h.loading) (sym desks.is) within

  pub next_header : (header : Header) → header ≡ new_header loading key n → header ≡ new_header opened.loading opened.key n
  next_header header is = subst (λ (h : KeyedHouse). header ≡ new_header h.loading h.key n) (sym desks.is) is

  -- one more
  pub one_more : (version : ℕ) (new : Shelf) (later : KeyedHouse) (pass : Pass) → n < owner_limit
      → later ≡ keyed (in_versions opened.loading (slice_set opened.loading.register.versions n version)) opened.key → TookDisk n mid new
      → IsNewPass (entry_in opened.loading n version) (header_in opened.loading opened.key n version) (mid n) pass → AreDesks loading key (n + 1) old new later (passes ++ pass ∷ [])
  one_more version new later pass few now took is = record {
    versions = versions;
    counted = length-set desks.versions n version ∙ desks.counted;
    is = now ∙ ap (λ (h : KeyedHouse). keyed (in_versions h.loading (slice_set h.loading.register.versions n version)) h.key) desks.is;
    on = one_opened (entry_at (in_versions loading versions)) (header_of (in_versions loading versions) key) n old mid new passes pass
        (agreed (entry_at (in_versions loading desks.versions)) _ (header_of (in_versions loading desks.versions) key) _ n old mid passes elsewhere desks.on) took
        (subst (λ (v : ℕ). IsNewPass (entry_in loading n v) (header_in loading key n v) (old n) pass) (sym here)
        (subst (λ (shown : _). IsNewPass (entry_in loading n version) (header_in loading key n version) shown pass) (desks.on.others n (omega arith))
        (subst (λ (h : KeyedHouse). IsNewPass (entry_in h.loading n version) (header_in h.loading h.key n version) (mid n) pass) desks.is is)));
  }
    where
      versions : List ℕ
      versions = slice_set desks.versions n version

      here : get_or versions n newest_version ≡ version
      here = get_or-set_same desks.versions n version newest_version (omega (arith, few, desks.counted))

      other : (o : ℕ) → o < n → get_or desks.versions o newest_version ≡ get_or versions o newest_version
      other o less = sym (get_or-set_other desks.versions n o version newest_version (λ same. omega (arith, less, same)))

      elsewhere : (o : ℕ) → o < n → (entry_at (in_versions loading desks.versions) o ≡ entry_at (in_versions loading versions) o) × (header_of (in_versions loading desks.versions) key o ≡ header_of (in_versions loading versions) key o)
      elsewhere o less = (ap (entry_in loading o) (other o less), ap (header_in loading key o) (other o less))

  -- all
  pub all_desks : n ≡ owners_in loading → ArePassesOn (entry_at opened.loading) (header_of opened.loading opened.key) (owners_in opened.loading) old mid passes
  all_desks all =
      subst (λ (h : KeyedHouse). ArePassesOn (entry_at h.loading) (header_of h.loading h.key) (owners_in h.loading) old mid passes) (sym desks.is)
      (subst (λ (k : ℕ). ArePassesOn (entry_at (in_versions loading desks.versions)) (header_of (in_versions loading desks.versions) key) k old mid passes) all desks.on)

  pub desks_lawful : IsLoading loading → IsLoading opened.loading
  desks_lawful lawful = subst (λ (h : KeyedHouse). IsLoading h.loading) (sym desks.is) (lawful_in loading desks.versions lawful desks.counted)

  pub desks_house : IsLoading loading → n ≡ owners_in loading → ArePasses (house_of opened.loading.register) passes
  desks_house lawful all = opened_passes opened.loading opened.key (desks_lawful lawful) old mid passes (all_desks all)

-- What stops the opening is said of the house, whatever the versions of its journals.
as_loaded : (loading : Loading) (versions : List ℕ) (key : List ℕ) (old new : Shelf) (stop : Stop) → IsOpenStop (in_versions loading versions) key old new stop → IsOpenStop loading key old new stop
as_loaded loading versions key old new (Journal line) (o, refusal, at, is) = (o, refusal, record { known = at.known; before = at.before; refused = at.refused; unwritten = at.unwritten }, is)
as_loaded loading versions key old new (Disk line) is = is
as_loaded loading versions key old new NoMemory is = is
as_loaded loading versions key old new stop is = absurd is

pub desk_stopped : (loading : Loading) (key : List ℕ) (n : ℕ) (old mid left new : Shelf) (opened : KeyedHouse) (passes : List Pass) (books : ℕ → Account) (stop : Stop)
    → AreDesks loading key n old mid opened passes → ArePutBack n passes books left new → n < owners_in loading
    → NoOtherRose n old new → IsBookStop opened.loading opened.key mid left n stop → IsOpenStop loading key old new stop
desk_stopped loading key n old mid left new opened passes books stop desks back within others is =
    as_loaded loading desks.versions key old new stop
    (book_stopped (in_versions loading desks.versions) key n old mid left new stop within (desks.on.others n (omega arith)) (back.others n (omega arith))
    (opened_before (in_versions loading desks.versions) key n old mid left new passes books desks.on back) others
    (subst (λ (h : KeyedHouse). IsBookStop h.loading h.key mid left n stop) desks.is is))
