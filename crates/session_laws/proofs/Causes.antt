-- why lines are refused for their owner's disk
use Rattle.std.proofs.Common.{◌≡◌, ℕ, zero, suc, ◌+◌, ◌<◌, ◌≤◌, ◌==◌, Bool, true, false, List, [], ◌∷◌, length, slice_get, Option, Some, None, refl, sym, ◌∙◌, ap, subst, arith, eq-eqb, eqb-true, length-append}
use Rattle.std.specs.Prelude.{MatchBool, if◌then◌else◌, sum_by}
use Rattle.std.specs.List.{flat_map}
use Rattle.std.proofs.lemmas.Bool.{cases_lt}
use Rattle.std.proofs.lemmas.List.Sums.{sum_by-append}
use mathlib.Core.Logic.{inl, inr}
use Rattle.journal_records.specs.declared.records.Outcome.TheVariants.{Lost}
use Rattle.journal_records.specs.Records.{settling}
use Rattle.budget_ledger.specs.declared.failure.Failure.{Failure}
use Rattle.session_core.specs.OwnerHouse.Owner.{Owner}
use Rattle.session_core.specs.AnswerPath.Query.{Query}
use Rattle.session_core.specs.OwnerHouse.House.{House}
use Rattle.session_core.specs.AnswerPath.Demand.{Demand, asks}
use Rattle.session_core.specs.Meant.{Meant, says, wants}
use Rattle.session_core.specs.Turns.{meant_at}
use Rattle.session_core.specs.Exchanges.{Exchange, TurnLeads}
use Rattle.session_laws.proofs.Counting.{found_in, two_in}
use Rattle.session_laws.proofs.Locals.{part_has}
use Rattle.session_laws.proofs.Assembles.{added_same, parts_weigh}
use Rattle.session_core.specs.OwnerDesk.Passes.{Told, closing}
use Rattle.session_core.specs.AnswerPath.Shut.{Shut, unshut, StaysShut, disk_word, FailsBy, ShutsBy}
use Rattle.session_core.specs.Served.{ShutsFor, ShutsOn}
use Rattle.session_core.proofs.Demands.{tells_fault, FailsNow, demand_shuts, fault_told}
use Rattle.session_core.specs.Gathered.{part_of, StillShut, AreShut}
use Rattle.session_laws.specs.Causes.{IsShutAt, AreCaused}

-- a mark for each line that is told 52
abbrev mark : Told
mark = (0, settling 0 Lost)

abbrev marked_by : Bool → List Told
marked_by true = mark ∷ []
marked_by false = []

abbrev by_meant : ℕ → Meant → Exchange → List Told
by_meant o (says reply next) x = []
by_meant o (wants n owner demand) x = if n == o then marked_by (tells_fault demand x.reply) else []

abbrev marks : House → ℕ → Exchange → List Told
marks house o x = by_meant o (meant_at house x.turn) x

abbrev one : Told → ℕ
one z = 1

demand_counts : (draws : ℕ → ℕ → ℕ) (owner : Owner) (demand : Demand) (before : Shut) (x : Exchange) (after : Shut) → ShutsFor draws owner demand before x after
    → StillShut before.failure after.failure × (length after.own ≡ length before.own + sum_by one (marked_by (tells_fault demand x.reply)))
demand_counts draws owner demand before x after by = here (tells_fault demand x.reply) (demand_shuts owner draws demand x.reply x.told before after by)
  where
    here : (b : Bool) → MatchBool b (FailsNow owner draws demand x.told before after) (StaysShut x.told before.failure after.failure × (after.own ≡ before.own))
        → StillShut before.failure after.failure × (length after.own ≡ length before.own + sum_by one (marked_by b))
    here true f = ((λ other is. absurd (let both : None ≡ Some other = sym f.was ∙ is in cc (both))), omega (arith, ap length f.own, length-append before.own (f.failure ∷ [])))
    here false (stays, own) = (stays.still, omega (arith, ap length own))

module _ (house : House) (draws : ℕ → ℕ → ℕ → ℕ) (o : ℕ) where
  turn_counts : (m : Meant) (before : Shut) (x : Exchange) (Rest : Shut → Type 0) → TurnLeads house o (ShutsFor (draws o)) m before x Rest
      → (after : Shut) × StillShut before.failure after.failure × (length after.own ≡ length before.own + sum_by one (by_meant o m x)) × Rest after
  turn_counts (says reply next) before x Rest h = (before, (λ failure is. is), omega arith, h)
  turn_counts (wants n owner demand) before x Rest h = here (n == o) h
    where
      here : (b : Bool) → MatchBool b ((after : Shut) × ShutsFor (draws o) owner demand before x after × Rest after) (Rest before)
          → (after : Shut) × StillShut before.failure after.failure × (length after.own ≡ length before.own + sum_by one (if b then marked_by (tells_fault demand x.reply) else [])) × Rest after
      here true h = let c = demand_counts (draws o) owner demand before x h.0 h.1 in (h.0, c.0, c.1, h.2)
      here false h = (before, (λ failure is. is), omega arith, h)

  counts : (before : Shut) (xs : List Exchange) (last : Shut) → ShutsOn house draws o before xs last → StillShut before.failure last.failure × (length last.own ≡ length before.own + sum_by one (flat_map (marks house o) xs))
  counts before [] last h = ((λ failure is. ap (λ (s : Shut). s.failure) h ∙ is), omega (arith, ap (λ (s : Shut). length s.own) h))
  counts before (x ∷ xs) last h =
      let t = turn_counts (meant_at house x.turn) before x (λ after. ShutsOn house draws o after xs last) h in
      let rest = counts t.0 xs last t.3 in
      ((λ failure is. rest.0 failure (t.1 failure is)), omega (arith, t.2, rest.1, sum_by-append one (marks house o x) (flat_map (marks house o) xs)))

  -- what the line at a place did
  turn_hit : (m : Meant) (before : Shut) (x : Exchange) (Rest : Shut → Type 0) (owner : Owner) (demand : Demand) → m ≡ wants o owner demand → TurnLeads house o (ShutsFor (draws o)) m before x Rest
      → (after : Shut) × ShutsFor (draws o) owner demand before x after × Rest after
  turn_hit m before x Rest owner demand is h = here (o == o) (eq-eqb o o refl) (subst (λ (k : Meant). TurnLeads house o (ShutsFor (draws o)) k before x Rest) is h)
    where
      here : (b : Bool) → b ≡ true → MatchBool b ((after : Shut) × ShutsFor (draws o) owner demand before x after × Rest after) (Rest before) → (after : Shut) × ShutsFor (draws o) owner demand before x after × Rest after
      here true is h = h
      here false is h = absurd (cc (is))

  shut_at : (before : Shut) (xs : List Exchange) (last : Shut) → ShutsOn house draws o before xs last → (k : ℕ) (x : Exchange) (owner : Owner) (demand : Demand) → slice_get xs k ≡ Some x → meant_at house x.turn ≡ wants o owner demand
      → (seen after : Shut) × ShutsFor (draws o) owner demand seen x after × StillShut after.failure last.failure
  shut_at before [] last h k x owner demand at is = absurd (cc (at))
  shut_at before (y ∷ xs) last h zero x owner demand at is =
      let same : y ≡ x = cc in
      let t = turn_hit (meant_at house y.turn) before y (λ after. ShutsOn house draws o after xs last) owner demand (ap (λ (z : Exchange). meant_at house z.turn) same ∙ is) h in
      (before, t.0, subst (λ (z : Exchange). ShutsFor (draws o) owner demand before z t.0) same t.1, (counts t.0 xs last t.2).0)
  shut_at before (y ∷ xs) last h (suc k) x owner demand at is =
      let t = turn_counts (meant_at house y.turn) before y (λ after. ShutsOn house draws o after xs last) h in
      shut_at t.0 xs last t.3 k x owner demand at is

  -- a mark is of a line that is told 52
  faulted : (b : Bool) → 1 ≤ sum_by one (marked_by b) → b ≡ true
  faulted true le = refl
  faulted false le = absurd (omega (arith, le))

  marked : (xs : List Exchange) (place : ℕ) (x : Exchange) → slice_get xs place ≡ Some x → (m : Meant) → meant_at house x.turn ≡ m → 1 ≤ sum_by one (by_meant o m x) → (owner : Owner) × (query : Query) × IsShutAt house o xs place owner query None
  marked xs place x at (says reply next) is le = absurd (omega (arith, le))
  marked xs place x at (wants n owner demand) is le = here (n == o) refl le
    where
      here : (b : Bool) → (n == o) ≡ b → 1 ≤ sum_by one (if b then marked_by (tells_fault demand x.reply) else []) → (w : Owner) × (query : Query) × IsShutAt house o xs place w query None
      here true hit le =
          let f = fault_told demand x.reply (faulted (tells_fault demand x.reply) le) in
          (owner, f.0, record { x = x; stands = at; meant = is ∙ ap (λ (k : ℕ). wants k owner demand) (eqb-true n o hit) ∙ ap (λ (d : Demand). wants o owner d) f.1; word_is = f.2 })
      here false miss le = absurd (omega (arith, le))

  has_mark : (xs : List Exchange) (place : ℕ) (owner : Owner) (query : Query) (r : IsShutAt house o xs place owner query None) → sum_by one (marks house o r.x) ≡ 1
  has_mark xs place owner query r = rw (r.meant, eq-eqb o o refl, r.word_is) refl

  module _ (count : ℕ) (crew : ℕ → ℕ) (xs : List Exchange) (closed : Option Failure) (all : AreShut house draws count crew o xs closed) where
    total : sum_by one (flat_map (marks house o) xs) ≡ length (closing closed)
    total =
        sym (parts_weigh (marks house o) one crew count all.crews 0 xs)
        ∙ added_same (λ i. sum_by one (flat_map (marks house o) (part_of crew i 0 xs))) (λ i. length (all.ends i).own) count (λ i lt. let c = (counts unshut (part_of crew i 0 xs) (all.ends i) (all.workers i lt).0).1 in omega (arith, c))
        ∙ all.counted

    at_most : (c : Option Failure) → length (closing c) ≤ 1
    at_most None = omega arith
    at_most (Some failure) = omega arith

    shut_here : (place : ℕ) (owner : Owner) (query : Query) (x : Exchange) → slice_get xs place ≡ Some x → meant_at house x.turn ≡ wants o owner (asks query)
        → (seen after : Shut) × FailsBy owner (draws o) query (disk_word x.reply) x.told seen after × StillShut after.failure closed
    unfolding ShutsBy
    shut_here place owner query x at meant =
        let w = all.workers (crew place) (all.crews place) in
        let same : 0 + place ≡ place = omega arith in
        let p = part_has crew (crew place) 0 xs place x at (ap crew same) in
        let s = shut_at unshut (part_of crew (crew place) 0 xs) (all.ends (crew place)) w.0 p.0 x owner (asks query) p.1 meant in
        (s.0, s.1, s.2.0, λ failure is. w.1 failure (s.3 failure is))

    not_before : (j k : ℕ) (owner other : Owner) (query and : Query) → IsShutAt house o xs j owner query None → IsShutAt house o xs k other and None → j < k → ⊥
    not_before j k owner other query and r s lt =
        let two = two_in (marks house o) one xs j k r.x s.x lt r.stands s.stands in
        absurd (omega (arith, two, has_mark xs j owner query r, has_mark xs k other and s, total, at_most closed))

    pub caused : AreCaused house draws o xs closed
    caused = record {
      seen = λ place owner query failed_at r.
          let s = shut_here place owner query r.x r.stands r.meant in
          let f : FailsBy owner (draws o) query (Some (Some failed_at)) r.x.told s.0 s.1 = subst (λ (w : Option (Option ℕ)). FailsBy owner (draws o) query w r.x.told s.0 s.1) r.word_is s.2 in
          (f.0, s.3 f.0 f.1, f.2);
      failed = λ place owner query r.
          let s = shut_here place owner query r.x r.stands r.meant in
          let f : FailsBy owner (draws o) query (Some None) r.x.told s.0 s.1 = subst (λ (w : Option (Option ℕ)). FailsBy owner (draws o) query w r.x.told s.0 s.1) r.word_is s.2 in
          (f.0, s.3 f.0 f.2, f.3);
      once = λ j k owner other query and r s. elim (cases_lt j k) [
        | inl lt ↦ absurd (not_before j k owner other query and r s lt)
        | inr le ↦ elim (cases_lt k j) [
          | inl lt ↦ absurd (not_before k j other owner and query s r lt)
          | inr ge ↦ omega (arith, le, ge)
        ]
      ];
      due = λ failure is.
          let some : length (closing closed) ≡ 1 = ap (λ (c : Option Failure). length (closing c)) is in
          let f = found_in (marks house o) one xs (omega (arith, total, some)) in
          let m = marked xs f.0 f.1 f.2 (meant_at house f.1.turn) refl f.3 in
          (f.0, m.0, m.1, m.2);
    }
