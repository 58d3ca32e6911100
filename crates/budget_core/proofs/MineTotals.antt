-- what a settlement changes of what each analyst is charged
use Rattle.std.proofs.Common.{◌≡◌, ℕ, ◌+◌, ◌==◌, Bool, true, false, not, cond, List, [], ◌∷◌, ◌++◌, sum_by, Option, Some, None, refl, sym, ◌∙◌, ap, arith}
use Rattle.std.specs.List.{filter}
use Rattle.std.specs.Option.{option_or}
use Rattle.std.proofs.lemmas.Bool.{eqb-true, eq-eqb}
use Rattle.std.proofs.lemmas.List.Sums.{sum_by-cons}
use Rattle.partition_charge.specs.Cost.{Charge, charged_to, charges_of}
use Rattle.partition_charge.specs.Totals.{IsRest}
use Rattle.journal_records.specs.declared.records.Outcome.{Outcome}
use Rattle.journal_records.specs.declared.records.Reservation.{Reservation}
use Rattle.journal_records.specs.declared.records.Record.{Record}
use Rattle.journal_records.specs.Records.{settling_back, number_or_zero}
use Rattle.budget_core.specs.Cost.{charge_by, comes_back, counts_in}
use Rattle.budget_core.specs.Counts.{reservations_of, reservation_of, outcome_of}
use Rattle.budget_core.specs.Entries.{Entry}
use Rattle.budget_core.specs.Legal.{IsOpen, IsHistory}
use Rattle.budget_core.specs.Mine.{is_by, charges_by}
use Rattle.budget_core.proofs.Backs.{only-one, at}
use Rattle.budget_core.proofs.MineLemmas.{Each, each-filter, each-reserved, filter-same, view-by}
use Rattle.budget_core.proofs.Numbers.{sum_by-parts, sum_by-same, option_or-None, reservations-settled, outcome_of-append-Settle}

-- what is added up over those that pass a test
sum-passing : {X : Type 0} → (g : X → ℕ) (t : X → Bool) (xs : List X) → sum_by g (filter t xs) ≡ sum_by (λ x. cond (t x) (g x) 0) xs
sum-passing g t [] = refl
sum-passing g t (x ∷ xs) = by (t x) refl (sum-passing g t xs)
  where
    by : (b : Bool) → t x ≡ b → sum_by g (filter t xs) ≡ sum_by (λ x. cond (t x) (g x) 0) xs
        → sum_by g (cond b (x ∷ filter t xs) (filter t xs)) ≡ sum_by (λ x. cond (t x) (g x) 0) (x ∷ xs)
    by true is rest = omega (arith, rest, sum_by-cons g x (filter t xs), sum_by-cons (λ x. cond (t x) (g x) 0) x xs, ap (λ (b : Bool). cond b (g x) 0) is)
    by false is rest = omega (arith, rest, sum_by-cons (λ x. cond (t x) (g x) 0) x xs, ap (λ (b : Bool). cond b (g x) 0) is)

-- A settlement changes nothing of what another analyst is charged.
pub charges-others-settled : (entry : Entry) (records : List Record) (analyst number returned : ℕ) (outcome : Outcome) (asked : Reservation) → IsHistory entry records
    → reservation_of records number ≡ Some asked → (asked.analyst == analyst) ≡ false
    → charges_by entry (records ++ settling_back number outcome returned ∷ []) analyst ≡ charges_by entry records analyst
charges-others-settled entry records analyst number returned outcome asked h is others =
    ap (λ (rs : List Reservation). map' (filter (counts_in entry (records ++ settling_back number outcome returned ∷ [])) (filter (is_by analyst) rs)))
    (reservations-settled records (record { number = number; outcome = outcome; returned = returned }))
    ∙ ap map' (filter-same (counts_in entry (records ++ settling_back number outcome returned ∷ [])) (counts_in entry records) (filter (is_by analyst) (reservations_of records)) same)
  where
    map' : List Reservation → List Charge
    map' [] = []
    map' (r ∷ rs) = charge_by r ∷ map' rs

    missed : (r : Reservation) → is_by analyst r ≡ true → reservation_of records r.number ≡ Some r → (hit : Bool) → (r.number == number) ≡ hit → (r.number == number) ≡ false
    missed r ours found false hit = hit
    missed r ours found true hit =
        let same : r.number ≡ number = eqb-true r.number number hit in
        let both : Some r ≡ Some asked = sym found ∙ ap (reservation_of records) same ∙ is in
        let one : r ≡ asked = cc both in
        let no : is_by analyst r ≡ false = ap (is_by analyst) one ∙ others in
        absurd cc

    same : Each (λ (r : Reservation). counts_in entry (records ++ settling_back number outcome returned ∷ []) r ≡ counts_in entry records r) (filter (is_by analyst) (reservations_of records))
    same = each-filter (is_by analyst) (λ (r : Reservation). reservation_of records r.number ≡ Some r)
        (λ (r : Reservation). counts_in entry (records ++ settling_back number outcome returned ∷ []) r ≡ counts_in entry records r)
        (λ r ours found. ap (λ (o : Option Outcome). not (comes_back entry o)) (outcome_of-append-Settle records number outcome returned r.number
        ∙ ap (λ (b : Bool). option_or (outcome_of records r.number) (cond b (Some outcome) None)) (missed r ours found (r.number == number) refl)
        ∙ option_or-None (outcome_of records r.number)))
        (reservations_of records) (each-reserved entry records h)

-- Where a number's charge comes back, what its analyst is charged is that much less.
pub mine-rest : (entry : Entry) (records : List Record) (number returned : ℕ) (outcome : Outcome) (asked : Reservation) → comes_back entry (Some outcome) ≡ true → IsHistory entry records
    → IsOpen records number → reservation_of records number ≡ Some asked
    → IsRest (charges_by entry records asked.analyst) asked.view (charge_by asked).amount (charges_by entry (records ++ settling_back number outcome returned ∷ []) asked.analyst)
mine-rest entry records number returned outcome asked back h open_before is view =
    (λ i. left i + found i) ∙ sum_by-parts (λ (r : Reservation). cond (counts_in entry settled r) (charged_to view (charge_by r)) 0)
    (λ (r : Reservation). cond (number == r.number) (charged_to view (charge_by r)) 0)
    (λ (r : Reservation). cond (counts_in entry records r) (charged_to view (charge_by r)) 0)
    (at entry records number returned outcome back h open_before view) mine
    ∙ sym (view-by entry records asked.analyst view)
  where
    settled : List Record
    settled = records ++ settling_back number outcome returned ∷ []

    mine : List Reservation
    mine = filter (is_by asked.analyst) (reservations_of records)

    left : charges_of view (charges_by entry (records ++ settling_back number outcome returned ∷ []) asked.analyst)
        ≡ sum_by (λ (r : Reservation). cond (counts_in entry settled r) (charged_to view (charge_by r)) 0) mine
    left = view-by entry (records ++ settling_back number outcome returned ∷ []) asked.analyst view
        ∙ ap (λ (rs : List Reservation). sum_by (λ (r : Reservation). cond (counts_in entry settled r) (charged_to view (charge_by r)) 0) (filter (is_by asked.analyst) rs))
        (reservations-settled records (record { number = number; outcome = outcome; returned = returned }))

    turned : (b c : Bool) (a : ℕ) → cond b (cond c a 0) 0 ≡ cond c (cond b a 0) 0
    turned true c a = refl
    turned false true a = refl
    turned false false a = refl

    found : charged_to view (record { view = asked.view; amount = (charge_by asked).amount })
        ≡ sum_by (λ (r : Reservation). cond (number == r.number) (charged_to view (charge_by r)) 0) mine
    found = sym (ap (λ (b : Bool). cond b (charged_to view (charge_by asked)) 0) (eq-eqb asked.analyst asked.analyst refl))
        ∙ sym (ap (number_or_zero (λ (r : Reservation). cond (is_by asked.analyst r) (charged_to view (charge_by r)) 0)) is)
        ∙ sym (only-one entry (λ (r : Reservation). cond (is_by asked.analyst r) (charged_to view (charge_by r)) 0) records h number)
        ∙ sum_by-same (λ (r : Reservation). cond (number == r.number) (cond (is_by asked.analyst r) (charged_to view (charge_by r)) 0) 0)
        (λ (r : Reservation). cond (is_by asked.analyst r) (cond (number == r.number) (charged_to view (charge_by r)) 0) 0)
        (λ r. turned (number == r.number) (is_by asked.analyst r) (charged_to view (charge_by r))) (reservations_of records)
        ∙ sym (sum-passing (λ (r : Reservation). cond (number == r.number) (charged_to view (charge_by r)) 0) (is_by asked.analyst) (reservations_of records))
