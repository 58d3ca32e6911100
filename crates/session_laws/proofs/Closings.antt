-- with one worker a book is shut line by line, as the replies say
use Rattle.std.proofs.Common.{◌≡◌, ℕ, ◌==◌, Bool, true, false, List, [], ◌∷◌, ◌++◌, length, Option, Some, None, refl, sym, ◌∙◌, ap, subst, arith}
use Rattle.std.specs.Prelude.{MatchBool}
use Rattle.journal_records.specs.declared.records.Record.{Record}
use Rattle.budget_ledger.specs.declared.failure.Failure.{Failure}
use Rattle.session_core.specs.OwnerHouse.Owner.{Owner}
use Rattle.session_core.specs.OwnerHouse.House.{House}
use Rattle.session_core.specs.OwnerDesk.Passes.{closing}
use Rattle.session_core.specs.AnswerPath.Demand.{Demand}
use Rattle.session_core.specs.AnswerPath.Shut.{Shut, unshut, StaysShut}
use Rattle.session_core.specs.AnswerPath.Laws.{OnePassCloses}
use Rattle.session_core.specs.Meant.{Meant, says, wants}
use Rattle.session_core.specs.Turns.{meant_at}
use Rattle.session_core.specs.Exchanges.{Exchange, TurnLeads}
use Rattle.session_core.specs.Transcript.{first_new, ClosesBy, ClosesOn}
use Rattle.session_core.specs.Served.{MeetsOnSome, AnswersOn, ShutsFor, ShutsOn}
use Rattle.session_core.specs.Gathered.{part_of, StillShut, AreGathered, AreShut}
use Rattle.session_core.proofs.Demands.{tells_fault, FailsNow, demand_shuts, demand_closes}
use Rattle.session_laws.proofs.Exact.{one_part}

some_none : {A X : Type 0} (x : X) → None ≡ Some x → A
some_none x is = absurd (cc (is))

module _ (one : OnePassCloses) (house : House) (draws : ℕ → ℕ → ℕ → ℕ) (o start : ℕ) (closed : Option Failure) where
  -- what is known of a book that was seen shut, and the worker's own failures, stay as they are
  abbrev Stays : Shut → Shut → Type 0
  Stays s last = (last.failure ≡ s.failure) × (length last.own ≡ length s.own)

  demand_stays : (owner : Owner) (demand : Demand) (s : Shut) (x : Exchange) (after : Shut) (failure : Failure) → s.failure ≡ Some failure → ShutsFor (draws o) owner demand s x after → Stays s after
  demand_stays owner demand s x after failure is by = here (tells_fault demand x.reply) (demand_shuts owner (draws o) demand x.reply x.told s after by)
    where
      here : (b : Bool) → MatchBool b (FailsNow owner (draws o) demand x.told s after) (StaysShut x.told s.failure after.failure × (after.own ≡ s.own)) → Stays s after
      here true f = some_none failure (sym f.was ∙ is)
      here false (stays, own) = (stays.still failure is ∙ sym is, ap length own)

  abbrev Later : Failure → List Exchange → Shut → Type 0
  Later failure xs last = (after : Shut) → ShutsOn house draws o after xs last → after.failure ≡ Some failure → Stays after last

  shut_stays : (s : Shut) (xs : List Exchange) (last : Shut) → ShutsOn house draws o s xs last → (failure : Failure) → s.failure ≡ Some failure → Stays s last
  shut_stays s [] last h failure is = (ap (λ (u : Shut). u.failure) h, ap (λ (u : Shut). length u.own) h)
  shut_stays s (x ∷ xs) last h failure is = turn (λ after rest. shut_stays after xs last rest failure) (meant_at house x.turn) h
    where
      then : Later failure xs last → (after : Shut) → Stays s after → ShutsOn house draws o after xs last → Stays s last
      then later after f rest = let g = later after rest (f.0 ∙ is) in (g.0 ∙ f.0, g.1 ∙ f.1)

      turn : Later failure xs last → (m : Meant) → TurnLeads house o (ShutsFor (draws o)) m s x (λ after. ShutsOn house draws o after xs last) → Stays s last
      turn later (says reply next) h = then later s (refl, refl) h
      turn later (wants n owner demand) h = here later (n == o) h
        where
          here : Later failure xs last → (b : Bool) → MatchBool b ((after : Shut) × ShutsFor (draws o) owner demand s x after × ShutsOn house draws o after xs last) (ShutsOn house draws o s xs last) → Stays s last
          here later true (after, by, rest) = then later after (demand_stays owner demand s x after failure is by) rest
          here later false rest = then later s (refl, refl) rest

  -- the end: what the worker knows is so, and its failures are all that there are
  abbrev Ends : Shut → Type 0
  Ends last = StillShut last.failure closed × (length last.own ≡ length (closing closed))

  -- so a book isn't seen shut by a failure that is nobody's
  nobodys : (after : Shut) (xs : List Exchange) (last : Shut) → ShutsOn house draws o after xs last → Ends last → after.own ≡ [] → after.failure ≡ None
  nobodys after xs last rest (still, counted) none = here after.failure refl
    where
      here : (f : Option Failure) → after.failure ≡ f → after.failure ≡ None
      here None is = is
      here (Some failure) is =
          let stays = shut_stays after xs last rest failure is in
          let shut : closed ≡ Some failure = still failure (stays.0 ∙ is) in
          let long : length (closing closed) ≡ 1 = ap (λ (c : Option Failure). length (closing c)) shut in
          absurd (omega (arith, stays.1, counted, long, ap length none))

  -- and what the worker's own failures are, shuts the book, after each line
  whole_after : (owner : Owner) (demand : Demand) (s : Shut) (x : Exchange) (after : Shut) (xs : List Exchange) (last : Shut) → s.own ≡ closing s.failure → ShutsFor (draws o) owner demand s x after
      → ShutsOn house draws o after xs last → Ends last → after.own ≡ closing after.failure
  whole_after owner demand s x after xs last own by rest ends = here (tells_fault demand x.reply) (demand_shuts owner (draws o) demand x.reply x.told s after by)
    where
      by_failure : (f : Option Failure) → s.failure ≡ f → StaysShut x.told s.failure after.failure → after.own ≡ s.own → after.own ≡ closing after.failure
      by_failure None is stays same =
          let none : after.own ≡ [] = same ∙ own ∙ ap closing is in
          none ∙ sym (ap closing (nobodys after xs last rest ends none))
      by_failure (Some failure) is stays same = same ∙ own ∙ ap closing (is ∙ sym (stays.still failure is))

      here : (b : Bool) → MatchBool b (FailsNow owner (draws o) demand x.told s after) (StaysShut x.told s.failure after.failure × (after.own ≡ s.own)) → after.own ≡ closing after.failure
      here true f = f.own ∙ ap (λ (fs : List Failure). fs ++ f.failure ∷ []) (own ∙ ap closing f.was) ∙ sym (ap closing f.shut)
      here false (stays, same) = by_failure s.failure refl stays same

  shut_at_last : (s last : Shut) → last ≡ s → s.own ≡ closing s.failure → Ends last → closed ≡ s.failure
  shut_at_last s last is own (still, counted) = here s.failure refl closed refl
    where
      here : (f : Option Failure) → s.failure ≡ f → (c : Option Failure) → closed ≡ c → closed ≡ s.failure
      here (Some failure) was c so = still failure (ap (λ (u : Shut). u.failure) is ∙ was) ∙ sym was
      here None was None so = so ∙ sym was
      here None was (Some failure) so =
          absurd (omega (arith, counted, ap (λ (u : Shut). length u.own) is, ap length own, ap (λ (c : Option Failure). length (closing c)) was, ap (λ (c : Option Failure). length (closing c)) so))

  abbrev LaterCloses : List Exchange → List Record → Shut → Type 0
  LaterCloses xs end last = (known : List Record) (after : Shut) → AnswersOn house draws o start known xs end → ShutsOn house draws o after xs last → after.own ≡ closing after.failure → ClosesOn house draws o after.failure xs closed

  pub closes_on : (seen : List Record) (s : Shut) (xs : List Exchange) (end : List Record) (last : Shut) → AnswersOn house draws o start seen xs end → ShutsOn house draws o s xs last → Ends last → s.own ≡ closing s.failure
      → ClosesOn house draws o s.failure xs closed
  closes_on seen s [] end last answers shuts ends own = shut_at_last s last shuts own ends
  closes_on seen s (x ∷ xs) end last answers shuts ends own = turn (λ known after more rest whole. closes_on known after xs end last more rest ends whole) (meant_at house x.turn) answers shuts
    where
      turn : LaterCloses xs end last → (m : Meant) → TurnLeads house o (MeetsOnSome (draws o) start) m seen x (λ after. AnswersOn house draws o start after xs end) → TurnLeads house o (ShutsFor (draws o)) m s x (λ after. ShutsOn house draws o after xs last)
          → TurnLeads house o (ClosesBy (draws o)) m s.failure x (λ after. ClosesOn house draws o after xs closed)
      turn later (says reply next) f g = later seen s f g own
      turn later (wants n owner demand) f g = here later (n == o) f g
        where
          here : LaterCloses xs end last → (b : Bool) → MatchBool b ((after : List Record) × MeetsOnSome (draws o) start owner demand seen x after × AnswersOn house draws o start after xs end) (AnswersOn house draws o start seen xs end)
              → MatchBool b ((after : Shut) × ShutsFor (draws o) owner demand s x after × ShutsOn house draws o after xs last) (ShutsOn house draws o s xs last)
              → MatchBool b ((after : Option Failure) × ClosesBy (draws o) owner demand s.failure x after × ClosesOn house draws o after xs closed) (ClosesOn house draws o s.failure xs closed)
          here later true (known, met, more) (after, by, rest) =
              let now = whole_after owner demand s x after xs last own by rest ends in
              (after.failure, demand_closes one owner (draws o) start demand seen known x s after met by own now, later known after more rest now)
          here later false more rest = later seen s more rest own

pub one_worker_closes : OnePassCloses → (house : House) (draws : ℕ → ℕ → ℕ → ℕ) (crew : ℕ → ℕ) (o : ℕ) (found : List Record) (xs : List Exchange) (records : List Record) (closed : Option Failure)
    → AreGathered house draws 1 crew o found xs records → AreShut house draws 1 crew o xs closed → ClosesOn house draws o None xs closed
one_worker_closes one house draws crew o found xs records closed all shut =
    let w = all.workers 0 (omega arith) in
    let s = shut.workers 0 (omega arith) in
    let whole : part_of crew 0 0 xs ≡ xs = one_part crew all.crews 0 xs in
    closes_on one house draws o (first_new found) closed found unshut xs w.0 (shut.ends 0)
    (subst (λ (ys : List Exchange). AnswersOn house draws o (first_new found) found ys w.0) whole w.2)
    (subst (λ (ys : List Exchange). ShutsOn house draws o unshut ys (shut.ends 0)) whole s.0)
    (s.1, omega (arith, shut.counted)) refl
