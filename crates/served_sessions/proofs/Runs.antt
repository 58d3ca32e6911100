-- sessions as runs
use Rattle.std.proofs.Common.{◌≡◌, ℕ, ◌+◌, ◌<◌, ◌≤◌, Bool, true, List, [], ◌∷◌, ◌++◌, length, take, drop, slice_get, Option, Some, refl, sym, ◌∙◌, ap, subst, arith}
use Rattle.std.specs.Prelude.{if◌then◌else◌}
use Rattle.std.proofs.lemmas.Bool.{cases_lt}
use Rattle.std.proofs.lemmas.List.{take-append-drop}
use Rattle.std.proofs.lemmas.List.Concat.{flat_map-append}
use Rattle.std.proofs.Math.Seq.{take-length}
use mathlib.Core.Logic.{◌⊎◌, inl, inr}
use mathlib.Core.List.{IsPrefix}
use Rattle.journal_records.specs.declared.records.Header.{Header}
use Rattle.journal_records.specs.declared.records.Record.{Record}
use Rattle.budget_journal.specs.Journals.{Stands}
use Rattle.budget_ledger.specs.Account.{IsMoment}
use Rattle.budget_core.specs.Legal.{MayFollow}
use Rattle.budget_ledger.specs.declared.failure.Failure.{Failure}
use Rattle.owner_house.specs.Owner.{Owner}
use Rattle.owner_house.specs.House.{House}
use Rattle.owner_desk.specs.Passes.{Pass, Told, records_told}
use Rattle.owner_desk.proofs.Own.{records_numbered}
use Rattle.successive_runs.proofs.OwnerHistory.Prefixes.{prefix_self, prefix_by, prefix_trans}
use Rattle.successive_runs.specs.AnswerPath.Demand.{Demand}
use Rattle.successive_runs.specs.SessionCore.Meant.{wants}
use Rattle.successive_runs.specs.SessionCore.Turns.{meant_at}
use Rattle.successive_runs.specs.SessionCore.Exchanges.{Exchange, is_of, told_of}
use Rattle.successive_runs.specs.SessionCore.Served.{AnswersOn}
use Rattle.successive_runs.specs.SessionCore.Transcript.{Journals, first_new, MeetsExactly, LeadExactly}
use Rattle.successive_runs.specs.SessionCore.Gathered.{one_worker, part_of, AreGathered, AreShut}
use Rattle.successive_runs.specs.SessionCore.Code.{found_by}
use Rattle.successive_runs.proofs.SessionCore.Exactly.{answers_on, adds_in_order}
use Rattle.successive_runs.specs.HeldSessions.Growing.{IsMetOn}
use Rattle.successive_runs.proofs.HeldSessions.Comes.{slice_take}
use Rattle.successive_runs.proofs.HeldSessions.Exact.{exact}
use Rattle.successive_runs.proofs.HeldSessions.Growing.{growing_from}
use Rattle.successive_runs.proofs.HeldSessions.Locals.{part_has}
use Rattle.successive_runs.specs.Left.{IsLeft}
use Rattle.successive_runs.specs.Life.{Run, IsRun, AreRuns}
use Rattle.successive_runs.proofs.Files.{moment_stands}
use Rattle.successive_runs.proofs.Fronts.{prefix_front}
use Rattle.successive_runs.specs.HeldSessions.Sittings.{Sitting, all_exchanges, is_sent}
use Rattle.successive_runs.specs.HeldSessions.Kept.{AreHeld, AreShifts}
use Rattle.served_sessions.specs.Runs.{MayAllFollow, records_upto, IsStoppedBehind, AreStopped, run_of, IsServiceRun, AreServiceRuns}
use Rattle.successive_runs.proofs.HeldSessions.Lists.{prefix_map, prefix_behind}
use Rattle.served_sessions.proofs.Splits.{lead_split}
use Rattle.successive_runs.proofs.HeldSessions.Written.{sent_within}
use Rattle.successive_runs.proofs.HeldSessions.Promises.{row_speaker, crew_speaker, row_gathered}

module _ (house : House) (draws : ℕ → ℕ → ℕ → ℕ) (o : ℕ) (found : List Record) (xs : List Exchange) (records : List Record) (all : AreGathered house draws 1 one_worker o found xs records) where
  abbrev start : ℕ
  start = first_new found

  abbrev upto : ℕ → List Record
  upto n = records_upto house o found xs n

  leads : LeadExactly house draws o start found xs records
  leads = exact house draws one_worker o found xs records all

  told_parts : (n : ℕ) → told_of house o xs ≡ told_of house o (take n xs) ++ told_of house o (drop n xs)
  told_parts n =
      ap (λ (ys : List Exchange). told_of house o ys) (sym (take-append-drop n xs))
      ∙ flat_map-append (λ (x : Exchange). if is_of o (meant_at house x.turn) then x.told else []) (take n xs) (drop n xs)

  -- what exchanges lead to is what they found with what they were told
  told_leads : (ys : List Exchange) (last : List Record) → LeadExactly house draws o start found ys last → found ++ records_told (told_of house o ys) ≡ last
  told_leads ys last h =
      let a = adds_in_order house draws o start found ys last h in
      ap (λ (rs : List Record). found ++ rs) (ap records_told a.told_is ∙ records_numbered (length found) a.added) ∙ sym a.last_is

  -- The first exchanges lead to the records up to there.
  front : (n : ℕ) → LeadExactly house draws o start found (take n xs) (upto n)
  front n =
      let s = lead_split house o (MeetsExactly (draws o) start) found (take n xs) (drop n xs) records
      (subst (λ (ys : List Exchange). LeadExactly house draws o start found ys records) (sym (take-append-drop n xs)) leads) in
      subst (λ (rs : List Record). LeadExactly house draws o start found (take n xs) rs) (sym (told_leads (take n xs) s.0 s.1)) s.1

  pub upto_all : upto (length xs) ≡ records
  upto_all = ap (λ (ys : List Exchange). found ++ records_told (told_of house o ys)) (take-length xs) ∙ told_leads xs records leads

  -- Their replies were made on these.
  pub met_upto : (n : ℕ) (left : List Record) → IsPrefix (upto n) left → (place : ℕ) (x : Exchange) (asked : Owner) (demand : Demand) → place < n → slice_get xs place ≡ Some x → meant_at house x.turn ≡ wants o asked demand
      → IsMetOn (draws o) start asked demand found x left
  met_upto n left ends place x asked demand lt at meant =
      (growing_from house draws o start found (take n xs) left (upto n) ends (answers_on house draws o start found (take n xs) (upto n) (front n))).each
      place x asked demand (slice_take xs n place x lt at) meant

  -- Records up to there, with some of those that are told next, are such a stop's.
  pub stopped_at : (closed : Option Failure) (n m : ℕ) → length (told_of house o (take n xs)) ≤ m → IsStoppedBehind house o found xs records closed n (found ++ records_told (take m (told_of house o xs)))
  stopped_at closed n m le =
      let told : List Told = told_of house o (take n xs) in
      let on : IsPrefix told (told_of house o xs) = (told_of house o (drop n xs), sym (told_parts n)) in
      let some_told : List Record = records_told (take m (told_of house o xs)) in
      let some_stand : IsPrefix (found ++ some_told) (found ++ records_told (told_of house o xs))
      = prefix_behind found some_told (records_told (told_of house o xs)) (prefix_map (λ (z : Told). z.1) (take m (told_of house o xs)) (told_of house o xs) (drop m (told_of house o xs), take-append-drop m (told_of house o xs))) in
      record {
        upto = prefix_behind found (records_told told) some_told (prefix_map (λ (z : Told). z.1) told (take m (told_of house o xs)) (prefix_front told (told_of house o xs) m on le));
        leaves = inl (prefix_by found some_told, subst (λ (rs : List Record). IsPrefix (found ++ some_told) rs) (told_leads xs records leads) some_stand);
      }

  upto_stands : (n : ℕ) → IsPrefix (upto n) records
  upto_stands n =
      subst (λ (rs : List Record). IsPrefix (upto n) rs) (told_leads xs records leads)
      (prefix_behind found (records_told (told_of house o (take n xs))) (records_told (told_of house o xs))
      (prefix_map (λ (z : Told). z.1) (told_of house o (take n xs)) (told_of house o xs) (told_of house o (drop n xs), sym (told_parts n))))

  -- A record whose append failed may stand behind all of them.
  pub stopped_pending : (closed : Option Failure) (n : ℕ) (failure : Failure) → closed ≡ Some failure → IsStoppedBehind house o found xs records closed n (records ++ failure.pending ∷ [])
  stopped_pending closed n failure is = record {
    upto = prefix_trans (upto n) records (records ++ failure.pending ∷ []) (upto_stands n) (prefix_by records (failure.pending ∷ []));
    leaves = inr (failure, is, refl);
  }

  -- A file that has gone on since then stands for what such a stop leaves.
  pub file_stands : (header : Header) (closed : Option Failure) (n : ℕ) (bytes : List ℕ) → IsMoment header (upto n) records closed bytes → (left : List Record) × Stands header left bytes × IsStoppedBehind house o found xs records closed n left
  file_stands header closed n bytes moment =
      let m = moment_stands header (upto n) records closed bytes moment in
      (m.0, m.1, stopped_so m.0 m.2)
    where
      stopped_so : (left : List Record) → IsLeft (upto n) records closed left → IsStoppedBehind house o found xs records closed n left
      stopped_so left (inl (begins, ends)) =
          record { upto = begins; leaves = inl (prefix_trans found (upto n) left (prefix_by found (records_told (told_of house o (take n xs)))) begins, ends) }
      stopped_so left (inr (failure, is, left_is)) =
          subst (λ (rs : List Record). IsStoppedBehind house o found xs records closed n rs) (sym left_is) (stopped_pending closed n failure is)

module _ (house : House) (draws : ℕ → ℕ → ℕ → ℕ) (sittings : List (Sitting house draws)) (before after : List Pass) (records : Journals) (closed : ℕ → Option Failure)
    (held : AreHeld house draws sittings before after records closed) (may : MayAllFollow house records closed)
    (o : ℕ) (owner : Owner) (here : slice_get house.owners o ≡ Some owner) where
  abbrev begun : List Record
  begun = found_by before o

  abbrev exchanges : List Exchange
  exchanges = all_exchanges house draws sittings

  both : AreGathered house draws 1 one_worker o begun exchanges (records o) × AreShut house draws 1 one_worker o exchanges (closed o)
  both = row_gathered house draws sittings before after records closed held o owner here

  pub stopped_run : (n : ℕ) (sent : ℕ → Bool) (left : List Record) → ((place : ℕ) → sent place ≡ true → place < n) → IsStoppedBehind house o begun exchanges (records o) (closed o) n left
      → IsRun house draws o owner begun (run_of house draws sittings (records o) (closed o) sent left)
  stopped_run n sent left early stop = record {
    speakers = row_speaker house draws o begun sittings;
    gathered = both.0;
    shut = both.1;
    follows = λ failure is. may o owner failure here is;
    leaves = stop.leaves;
    kept = λ place x asked demand sends at meant. met_upto house draws o begun exchanges (records o) both.0 n left stop.upto place x asked demand (early place sends) at meant;
  }

  pub ended_run : (left : List Record) → IsLeft begun (records o) (closed o) left → IsPrefix (records o) left
      → IsRun house draws o owner begun (run_of house draws sittings (records o) (closed o) (is_sent house draws sittings) left)
  ended_run left leaves kept = stopped_run (length exchanges) (is_sent house draws sittings) left (sent_within house draws sittings) (record {
    upto = subst (λ (rs : List Record). IsPrefix rs left) (sym (upto_all house draws o begun exchanges (records o) both.0)) kept;
    leaves = leaves;
  })

-- Several workers' sessions are a run wherever they are stopped ..
pub crew_run : (house : House) (draws : ℕ → ℕ → ℕ → ℕ) (o : ℕ) (owner : Owner) (found : List Record) (sittings : ℕ → List (Sitting house draws)) (run : Run)
    → AreGathered house draws run.count run.crew o found run.exchanges run.records → AreShut house draws run.count run.crew o run.exchanges run.closed
    → ((failure : Failure) → run.closed ≡ Some failure → MayFollow owner.entry run.records failure.pending)
    → AreShifts house draws o found run.count run.crew sittings run.exchanges run.records → IsLeft found run.records run.closed run.left
    → AreStopped house draws run.count run.crew o found run.exchanges run.sent run.left → IsRun house draws o owner found run
crew_run house draws o owner found sittings run all shut follows shifts leaves stop = record {
  speakers = crew_speaker house draws o found run.count run.crew sittings run.exchanges run.records all.crews shifts;
  gathered = all;
  shut = shut;
  follows = follows;
  leaves = leaves;
  kept = λ place x asked demand sends at meant.
      let i : ℕ = run.crew place in
      let here = stop.among place x sends at in
      (growing_from house draws o (first_new found) found (stop.fronts i) run.left (stop.seen i) (stop.stand i (all.crews place)) (stop.answers i (all.crews place))).each here.0 x asked demand here.1 meant;
}

-- .. and so at their end, whichever replies were sent, once all records are kept.
pub crew_ended : (house : House) (draws : ℕ → ℕ → ℕ → ℕ) (count : ℕ) (crew : ℕ → ℕ) (o : ℕ) (found : List Record) (xs : List Exchange) (records left : List Record) (sent : ℕ → Bool)
    → AreGathered house draws count crew o found xs records → IsPrefix records left → AreStopped house draws count crew o found xs sent left
crew_ended house draws count crew o found xs records left sent all kept = record {
  fronts = λ i. part_of crew i 0 xs;
  seen = λ i. last i (cases_lt i count);
  begin = λ i lt. prefix_self (part_of crew i 0 xs);
  answers = λ i lt. answered i lt (cases_lt i count);
  stand = λ i lt. stands i lt (cases_lt i count);
  among = λ place x sends at.
      let same : 0 + place ≡ place = omega arith in
      part_has crew (crew place) 0 xs place x at (ap crew same);
}
  where
    -- of a number that is no worker's nothing is said
    last : (i : ℕ) → (i < count) ⊎ (count ≤ i) → List Record
    last i (inl lt) = (all.workers i lt).0
    last i (inr past) = []

    answered : (i : ℕ) → i < count → (by : (i < count) ⊎ (count ≤ i)) → AnswersOn house draws o (first_new found) found (part_of crew i 0 xs) (last i by)
    answered i within (inl lt) = (all.workers i lt).2
    answered i within (inr past) = absurd (omega (arith, within, past))

    stands : (i : ℕ) → i < count → (by : (i < count) ⊎ (count ≤ i)) → IsPrefix (last i by) left
    stands i within (inl lt) = prefix_trans (all.workers i lt).0 records left (all.workers i lt).1 kept
    stands i within (inr past) = absurd (omega (arith, within, past))

-- ---- run after run

service_run : (house : House) (draws : ℕ → ℕ → ℕ → ℕ) (o : ℕ) (owner : Owner) → slice_get house.owners o ≡ Some owner → (found : List Record) (run : Run) → IsServiceRun house draws o found run → IsRun house draws o owner found run
service_run house draws o owner here found run r =
    let xs : List Exchange = all_exchanges house draws r.sittings in
    let is_run : IsRun house draws o owner (found_by r.before o) (run_of house draws r.sittings (r.records o) (r.closed o) run.sent run.left)
    = stopped_run house draws r.sittings r.before r.after r.records r.closed r.held r.may o owner here r.n run.sent run.left r.early
    (subst (λ (rs : List Record). IsStoppedBehind house o rs xs (r.records o) (r.closed o) r.n run.left) (sym r.begins) r.stop) in
    subst (λ (rs : List Record). IsRun house draws o owner rs run) r.begins (subst (λ (v : Run). IsRun house draws o owner (found_by r.before o) v) (sym r.is) is_run)

pub service_runs : (house : House) (draws : ℕ → ℕ → ℕ → ℕ) (o : ℕ) (owner : Owner) → slice_get house.owners o ≡ Some owner → (runs : List Run) (found last : List Record) → AreServiceRuns house draws o owner found runs last
    → AreRuns house draws o owner found runs last
service_runs house draws o owner here [] found last granted = granted
service_runs house draws o owner here (run ∷ runs) found last (start, granted, r, rest) =
    (start, granted, service_run house draws o owner here start run r, service_runs house draws o owner here runs run.left last rest)
