-- Running totals of what each analyst is charged.
use Rattle.std.proofs.Common.{◌≡◌, ℕ, zero, suc, ◌+◌, ◌-◌, ◌≤◌, ◌<◌, ◌^◌, Bool, true, false, not, min, set, get_or, List, [], ◌∷◌, ◌++◌, length, length-append, length-set, map, All, slice_get, Option, Some, None, option_map, refl, sym, ◌∙◌, ap, subst, arith, ⊎_elim, inl, inr, ◌⊎◌}
use Rattle.std.specs.List.{filter}
use Rattle.std.proofs.lemmas.Bool.{cases_eq, cases_lt, ne_eqb}
use Rattle.std.proofs.lemmas.List.{get_or-set_same, get_or-set_other}
use Rattle.std.proofs.lemmas.Option.{slice_get-get_or, slice_get_within, get_or_from_slice_get}
use Rattle.partition_charge.specs.declared.costs.Costs.{Costs}
use Rattle.partition_charge.specs.declared.view.View.{View}
use Rattle.partition_charge.specs.Views.{IsPartBelow, part_limit}
use Rattle.partition_charge.specs.Cost.{Charge}
use Rattle.partition_charge.specs.Totals.{AreTotalsOf, HasCharged, HasRoom, HasPlace, HasPlaces, HasRoomBelow, IsRest}
use Rattle.partition_charge.proofs.Rests.{rest-charged}
use Rattle.partition_charge.proofs.Rooms.{place-below, place-free}
use Rattle.journal_records.specs.declared.records.Outcome.{Outcome}
use Rattle.journal_records.specs.declared.records.Reservation.{Reservation}
use Rattle.journal_records.specs.declared.records.BudgetGrant.{BudgetGrant}
use Rattle.journal_records.specs.declared.records.Record.{Record}
use Rattle.journal_records.specs.declared.records.Record.TheVariants.{Reserve, Grant}
use Rattle.journal_records.specs.Records.{settling_back}
use Rattle.budget_core.specs.declared.totals.Row.{Row}
use Rattle.budget_core.specs.Cost.{charge_by, charge_of, comes_back, cost_of, budget_of}
use Rattle.budget_core.specs.Counts.{reservations_of, reservation_of}
use Rattle.budget_core.specs.Entries.{Entry, IsEntry, HasView, budget_limit}
use Rattle.budget_core.specs.Kept.{IsRowOf, HasShareRoom, IsShareOf, HasShares}
use Rattle.budget_core.specs.Legal.{IsOpen, IsHistory}
use Rattle.budget_core.specs.Mine.{is_by, charges_by}
use Rattle.budget_core.proofs.Backs.{reserved-all}
use Rattle.budget_core.proofs.Charging.{rises, view-valid, view-below}
use Rattle.budget_core.proofs.Costs.{counts-unsettled, ended-alike}
use Rattle.budget_core.proofs.MineLemmas.{charges-granted, charges-mine, charges-others, spent_by-charges, spent_is_within}
use Rattle.budget_core.proofs.MineTotals.{charges-others-settled, mine-rest}
use Rattle.budget_core.proofs.Numbers.{outcome_past, reservations-settled}

-- ---- one analyst's

-- A new record takes no place of those whose charges stay.
share-later : (entry : Entry) (records : List Record) (next : Record) (analyst : ℕ) (costs : Costs)
    → charges_by entry (records ++ next ∷ []) analyst ≡ charges_by entry records analyst → IsShareOf entry records analyst costs → IsShareOf entry (records ++ next ∷ []) analyst costs
share-later entry records next analyst costs same is = record { totals = subst (AreTotalsOf costs) (sym same) is.totals; room = by is.room }
  where
    by : HasShareRoom entry records costs → HasShareRoom entry (records ++ next ∷ []) costs
    by (inl room) = inl room
    by (inr places) = inr (λ p parts found. omega (arith, places p parts found, length-append records (next ∷ [])))

-- There is a place for a charge, as long as there is one for a record.
pub share-place : (entry : Entry) (records : List Record) (analyst : ℕ) (costs : Costs) (view : View) → IsShareOf entry records analyst costs → HasView entry view
    → length records < entry.capacity → HasPlace costs view
share-place entry records analyst costs view is has short = by is.room
  where
    by : HasShareRoom entry records costs → HasPlace costs view
    by (inl room) = place-below costs (charges_by entry records analyst) view room.0 is.totals room.1 (view-below entry view room.0 room.2 has)
    by (inr places) = place-free costs view (entry.capacity - (length records + 1)) (λ p parts found. omega (arith, places p parts found, short))

pub share-charging : (entry : Entry) (records : List Record) (analyst : ℕ) (costs : Costs) (view : View) (amount : ℕ) → IsEntry entry → IsShareOf entry records analyst costs
    → cost_of entry records ≤ budget_of entry records → budget_of entry records ≤ budget_limit → HasView entry view → amount ≤ 2 ^ 62 → HasRoom costs view amount
share-charging entry records analyst costs view amount valid is within limited has bounded =
    let charges : List Charge = charges_by entry records analyst in (
      charges,
      is.totals,
      omega (arith, rises charges view amount (view-valid entry view valid has), spent_by-charges entry records analyst, spent_is_within entry records analyst, within, limited),
    )

-- with a charge more
pub share-added : (entry : Entry) (records : List Record) (r : Reservation) (charge : ℕ) (costs new : Costs) → IsHistory entry records → r.number ≡ length (reservations_of records) → HasView entry r.view
    → charge ≡ charge_of r.e r.p r.q → length records < entry.capacity → IsShareOf entry records r.analyst costs
    → ((charges : List Charge) → AreTotalsOf costs charges → AreTotalsOf new (charges ++ record { view = r.view; amount = charge } ∷ []))
    → ((n : ℕ) → HasPlaces costs (n + 1) → HasPlaces new n) → ((n : ℕ) → IsPartBelow n r.view → HasRoomBelow costs n → HasRoomBelow new n)
    → IsShareOf entry (records ++ Reserve r ∷ []) r.analyst new
share-added entry records r charge costs new h numbered has is short share totals places below = record {
  totals = subst (AreTotalsOf new)
      (ap (λ (n : ℕ). charges_by entry records r.analyst ++ record { view = r.view; amount = n } ∷ []) is
      ∙ sym (charges-mine entry records r (counts-unsettled entry records r (outcome_past entry records h r.number (omega (arith, numbered))))))
      (totals (charges_by entry records r.analyst) share.totals);
  room = by share.room;
}
  where
    by : HasShareRoom entry records costs → HasShareRoom entry (records ++ Reserve r ∷ []) new
    by (inl room) = inl (room.0, below room.0 (view-below entry r.view room.0 room.2 has) room.1, room.2)
    by (inr free) =
        let left : HasPlaces new (entry.capacity - (length records + 1)) = places (entry.capacity - (length records + 1)) (λ p parts found. omega (arith, free p parts found, short)) in
        inr (λ p parts found. omega (arith, left p parts found, length-append records (Reserve r ∷ [])))

-- Where a charge doesn't come back, every analyst's stay.
charges-kept : (entry : Entry) (records : List Record) (analyst number returned : ℕ) (outcome : Outcome) → comes_back entry (Some outcome) ≡ false
    → charges_by entry (records ++ settling_back number outcome returned ∷ []) analyst ≡ charges_by entry records analyst
charges-kept entry records analyst number returned outcome kept =
    λ i. map charge_by (filter (λ (r : Reservation). not (ended-alike entry records number outcome returned kept r.number i))
    (filter (is_by analyst) (reservations-settled records (record { number = number; outcome = outcome; returned = returned }) i)))

-- Where a number's charge comes back, its analyst is charged that much less.
share-rest : (entry : Entry) (records : List Record) (number returned : ℕ) (outcome : Outcome) (row : Row) → IsHistory entry records → IsOpen records number → IsRowOf records number row
    → comes_back entry (Some outcome) ≡ true
    → IsRest (charges_by entry records row.analyst) row.view row.charge (charges_by entry (records ++ settling_back number outcome returned ∷ []) row.analyst)
share-rest entry records number returned outcome row h open_before is back = by (reservation_of records number) refl is.analyst is.charge
  where
    by : (found : Option Reservation) → reservation_of records number ≡ found
        → option_map (λ (r : Reservation). r.analyst) found ≡ Some row.analyst → option_map charge_by found ≡ Some (record { view = row.view; amount = row.charge })
        → IsRest (charges_by entry records row.analyst) row.view row.charge (charges_by entry (records ++ settling_back number outcome returned ∷ []) row.analyst)
    by None at who what = absurd cc
    by (Some asked) at who what =
        let whose : asked.analyst ≡ row.analyst = cc who in
        let charge : charge_by asked ≡ record { view = row.view; amount = row.charge } = cc what in
        subst (λ (a : ℕ). IsRest (charges_by entry records a) row.view row.charge (charges_by entry (records ++ settling_back number outcome returned ∷ []) a)) whose
        (subst (λ (c : Charge). IsRest (charges_by entry records asked.analyst) c.view c.amount (charges_by entry (records ++ settling_back number outcome returned ∷ []) asked.analyst)) charge
        (mine-rest entry records number returned outcome asked back h open_before at))

pub share-charged : (entry : Entry) (records : List Record) (number : ℕ) (outcome : Outcome) (row : Row) (costs : Costs) → IsHistory entry records → IsOpen records number → IsRowOf records number row
    → comes_back entry (Some outcome) ≡ true → IsShareOf entry records row.analyst costs → HasCharged costs row.view row.charge
share-charged entry records number outcome row costs h open_before is back share = (
  charges_by entry records row.analyst,
  share.totals,
  rest-charged (charges_by entry records row.analyst) (charges_by entry (records ++ settling_back number outcome 0 ∷ []) row.analyst) row.view row.charge
      (share-rest entry records number 0 outcome row h open_before is back),
)

-- A number's row names an analyst of the entry.
pub row-known : (entry : Entry) (records : List Record) (number : ℕ) (row : Row) → IsHistory entry records → IsRowOf records number row → row.analyst < entry.analysts
row-known entry records number row h is = by (reservation_of records number) refl is.analyst
  where
    by : (found : Option Reservation) → reservation_of records number ≡ found → option_map (λ (r : Reservation). r.analyst) found ≡ Some row.analyst → row.analyst < entry.analysts
    by None at who = absurd cc
    by (Some asked) at who =
        let whose : asked.analyst ≡ row.analyst = cc who in
        omega (arith, whose, reserved-all entry (λ (r : Reservation). r.analyst < entry.analysts) (λ xs r may. may.asked_by) records h number asked at)

-- with a number settled that this analyst reserved
pub share-settled : (entry : Entry) (records : List Record) (number returned : ℕ) (outcome : Outcome) (row : Row) (costs new : Costs) → IsHistory entry records → IsOpen records number
    → IsRowOf records number row → IsShareOf entry records row.analyst costs
    → ((charges rest : List Charge) → AreTotalsOf costs charges → comes_back entry (Some outcome) ≡ true → IsRest charges row.view row.charge rest → AreTotalsOf new rest)
    → ((charges : List Charge) → AreTotalsOf costs charges → comes_back entry (Some outcome) ≡ false → AreTotalsOf new charges)
    → ((n : ℕ) → HasPlaces costs n → HasPlaces new n) → ((n : ℕ) → HasRoomBelow costs n → HasRoomBelow new n)
    → IsShareOf entry (records ++ settling_back number outcome returned ∷ []) row.analyst new
share-settled entry records number returned outcome row costs new h open_before is share given kept places below =
    record { totals = by (comes_back entry (Some outcome)) refl; room = roomy share.room }
  where
    settled : List Record
    settled = records ++ settling_back number outcome returned ∷ []

    by : (b : Bool) → comes_back entry (Some outcome) ≡ b → AreTotalsOf new (charges_by entry settled row.analyst)
    by true back = given (charges_by entry records row.analyst) (charges_by entry settled row.analyst) share.totals back
        (share-rest entry records number returned outcome row h open_before is back)
    by false none = subst (AreTotalsOf new) (sym (charges-kept entry records row.analyst number returned outcome none))
        (kept (charges_by entry records row.analyst) share.totals none)

    roomy : HasShareRoom entry records costs → HasShareRoom entry settled new
    roomy (inl room) = inl (room.0, below room.0 room.1, room.2)
    roomy (inr free) =
        let left : HasPlaces new (entry.capacity - length records) = places (entry.capacity - length records) free in
        inr (λ p parts found. omega (arith, left p parts found, length-append records (settling_back number outcome returned ∷ [])))

-- an analyst's of no records
pub share-new : (entry : Entry) (costs : Costs) (room most : ℕ) → room ≡ min entry.capacity most → most ≤ part_limit → All (λ (keys : ℕ). keys ≤ most) entry.keys
    → AreTotalsOf costs [] → HasPlaces costs (min room part_limit) → HasRoomBelow costs (min room part_limit) → IsShareOf entry [] 0 costs
share-new entry costs room most is limited keys totals places below = record {
  totals = totals;
  room = ⊎_elim
      (λ small. inr (subst (HasPlaces costs) (omega (arith, is, small, limited)) places))
      (λ large. inl (most, subst (HasRoomBelow costs) (omega (arith, is, large, limited)) below, keys))
      (cases_lt entry.capacity most);
}

-- ---- all analysts'

-- one was put in
set-get : (xs : List Costs) (p k : ℕ) (x y : Costs) → slice_get (set xs p x) k ≡ Some y → ((k ≡ p) × (x ≡ y)) ⊎ ((k ≡ p → ⊥) × (slice_get xs k ≡ Some y))
set-get xs p k x y is =
    let lt : k < length (set xs p x) = slice_get_within (set xs p x) k y is in
    let short : k < length xs = omega (arith, lt, length-set xs p x) in
    ⊎_elim
    (λ same. inl (
      same,
      sym (get_or-set_same xs p x x (omega arith)) ∙ ap (λ (n : ℕ). get_or (set xs p x) n x) (sym same)
          ∙ get_or_from_slice_get (set xs p x) k y x is,
    ))
    (λ other. inr (other, slice_get-get_or xs k x short ∙ ap Some (sym (get_or-set_other xs p k x x other) ∙ get_or_from_slice_get (set xs p x) k y x is)))
    (cases_eq k p)

pub share-at : (entry : Entry) (records : List Record) (shares : List Costs) (analyst : ℕ) (costs : Costs) → HasShares entry records shares → analyst < entry.analysts
    → costs ≡ get_or shares analyst costs → IsShareOf entry records analyst costs
share-at entry records shares analyst costs all within is =
    all.each analyst costs (slice_get-get_or shares analyst costs (omega (arith, within, all.count)) ∙ ap Some (sym is))

shares-set : (entry : Entry) (records later : List Record) (shares : List Costs) (analyst : ℕ) (new : Costs) → HasShares entry records shares → IsShareOf entry later analyst new
    → ((other : ℕ) (costs : Costs) → (other ≡ analyst → ⊥) → IsShareOf entry records other costs → IsShareOf entry later other costs)
    → HasShares entry later (set shares analyst new)
shares-set entry records later shares analyst new all mine others = record {
  count = length-set shares analyst new ∙ all.count;
  each = λ k costs at. ⊎_elim
      (λ here. subst (λ (x : Costs). IsShareOf entry later k x) here.1 (subst (λ (a : ℕ). IsShareOf entry later a new) (sym here.0) mine))
      (λ there. others k costs there.0 (all.each k costs there.1))
      (set-get shares analyst k new costs at);
}

pub shares-Reserve : (entry : Entry) (records : List Record) (shares : List Costs) (r : Reservation) (new : Costs) → HasShares entry records shares
    → IsShareOf entry (records ++ Reserve r ∷ []) r.analyst new → HasShares entry (records ++ Reserve r ∷ []) (set shares r.analyst new)
shares-Reserve entry records shares r new all mine =
    shares-set entry records (records ++ Reserve r ∷ []) shares r.analyst new all mine
    (λ other costs isnt is. share-later entry records (Reserve r) other costs (charges-others entry records other r (ne_eqb r.analyst other (λ same. isnt (sym same)))) is)

pub shares-Settle : (entry : Entry) (records : List Record) (shares : List Costs) (number returned : ℕ) (outcome : Outcome) (row : Row) (new : Costs) → IsHistory entry records
    → IsRowOf records number row → HasShares entry records shares → IsShareOf entry (records ++ settling_back number outcome returned ∷ []) row.analyst new
    → HasShares entry (records ++ settling_back number outcome returned ∷ []) (set shares row.analyst new)
shares-Settle entry records shares number returned outcome row new h is all mine =
    shares-set entry records (records ++ settling_back number outcome returned ∷ []) shares row.analyst new all mine
    (λ other costs isnt share. share-later entry records (settling_back number outcome returned) other costs (same other isnt (reservation_of records number) refl is.analyst) share)
  where
    same : (other : ℕ) → (other ≡ row.analyst → ⊥) → (found : Option Reservation) → reservation_of records number ≡ found → option_map (λ (r : Reservation). r.analyst) found ≡ Some row.analyst
        → charges_by entry (records ++ settling_back number outcome returned ∷ []) other ≡ charges_by entry records other
    same other isnt None at who = absurd cc
    same other isnt (Some asked) at who =
        let whose : asked.analyst ≡ row.analyst = cc who in
        charges-others-settled entry records other number returned outcome asked h at (ne_eqb asked.analyst other (λ hit. isnt (sym hit ∙ whose)))

pub shares-Grant : (entry : Entry) (records : List Record) (shares : List Costs) (grant : BudgetGrant) → HasShares entry records shares → HasShares entry (records ++ Grant grant ∷ []) shares
shares-Grant entry records shares grant all = record {
  count = all.count;
  each = λ k costs at. share-later entry records (Grant grant) k costs (charges-granted entry records k grant) (all.each k costs at);
}

-- one more that has P
pub all-push : (P : Costs → Type 0) (xs : List Costs) (x : Costs) → All P xs → P x → All P (xs ++ x ∷ [])
all-push P [] x all one zero d within = one
all-push P [] x all one (suc k) d within = absurd (omega (arith, within))
all-push P (y ∷ xs) x all one zero d within = all 0 d (omega arith)
all-push P (y ∷ xs) x all one (suc k) d within = all-push P xs x (λ j e low. all (suc j) e (omega (arith, low))) one k d (omega (arith, within))

pub shares-new : (entry : Entry) (shares : List Costs) → length shares ≡ entry.analysts → All (IsShareOf entry [] 0) shares → HasShares entry [] shares
shares-new entry shares count all = record {
  count = count;
  each = λ k costs at. of k costs (subst (IsShareOf entry [] 0) (get_or_from_slice_get shares k costs costs at) (all k costs (slice_get_within shares k costs at)));
}
  where
    of : (k : ℕ) (costs : Costs) → IsShareOf entry [] 0 costs → IsShareOf entry [] k costs
    of k costs is = record { totals = is.totals; room = is.room }
