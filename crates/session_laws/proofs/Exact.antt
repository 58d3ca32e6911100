-- with one worker no record comes in between
use Rattle.std.proofs.Common.{◌≡◌, ℕ, ◌+◌, ◌<◌, ◌≤◌, ◌==◌, Bool, true, false, List, [], ◌∷◌, ◌++◌, length, drop, refl, sym, ◌∙◌, ap, subst, arith, eq-eqb, length-append}
use Rattle.std.specs.Prelude.{MatchBool, if◌then◌else◌, sum_by}
use Rattle.std.specs.List.{enumerate_from}
use Rattle.std.proofs.lemmas.List.{length-drop}
use Rattle.std.proofs.lemmas.List.FromFn.{length-enumerate_from}
use Rattle.std.proofs.lemmas.List.Sums.{sum_by-cons}
use Rattle.journal_records.specs.declared.records.Record.{Record}
use Rattle.session_core.proofs.OwnerHistory.Prefixes.{prefix_length}
use Rattle.session_core.specs.OwnerHouse.House.{House}
use Rattle.session_core.specs.Meant.{Meant, says, wants}
use Rattle.session_core.specs.Turns.{meant_at}
use Rattle.session_core.specs.Exchanges.{Exchange, TurnLeads, is_of, told_of}
use Rattle.session_core.specs.Transcript.{first_new, MeetsExactly, LeadExactly}
use Rattle.session_core.proofs.Demands.{prefix_whole, met_least, met_exact}
use Rattle.session_core.specs.OwnerDesk.Passes.{Told}
use Rattle.session_core.specs.Served.{MeetsOnSome, AnswersOn}
use Rattle.session_core.specs.Gathered.{part_of, AreGathered}

module _ (house : House) (draws : ℕ → ℕ → ℕ → ℕ) (o start : ℕ) where
  turn_least : (m : Meant) (seen : List Record) (x : Exchange) (rest : List Told) (Rest : List Record → Type 0) (last : List Record) → TurnLeads house o (MeetsOnSome (draws o) start) m seen x Rest
      → ((after : List Record) → Rest after → length after + length rest ≤ length last) → length seen + length ((if is_of o m then x.told else []) ++ rest) ≤ length last
  turn_least (says reply next) seen x rest Rest last h more = more seen h
  turn_least (wants n owner demand) seen x rest Rest last h more = here (n == o) h
    where
      here : (b : Bool) → MatchBool b ((after : List Record) × MeetsOnSome (draws o) start owner demand seen x after × Rest after) (Rest seen) → length seen + length ((if b then x.told else []) ++ rest) ≤ length last
      here true h = omega (arith, met_least owner (draws o) start seen x.reply x.told h.0 demand h.1, more h.0 h.2, length-append x.told rest)
      here false h = more seen h

  pub least : (seen : List Record) (xs : List Exchange) (last : List Record) → AnswersOn house draws o start seen xs last → length seen + length (told_of house o xs) ≤ length last
  least seen [] last h = omega (arith, ap length h)
  least seen (x ∷ xs) last h = turn_least (meant_at house x.turn) seen x (told_of house o xs) (λ after. AnswersOn house draws o start after xs last) last h (λ after more. least after xs last more)

  turn_exact : (m : Meant) (seen : List Record) (x : Exchange) (rest : List Told) (Rest Exactly : List Record → Type 0) (last : List Record) → TurnLeads house o (MeetsOnSome (draws o) start) m seen x Rest
      → ((after : List Record) → Rest after → length after + length rest ≤ length last) → ((after : List Record) → Rest after → length last ≤ length after + length rest → Exactly after)
      → length last ≤ length seen + length ((if is_of o m then x.told else []) ++ rest) → TurnLeads house o (MeetsExactly (draws o) start) m seen x Exactly
  turn_exact (says reply next) seen x rest Rest Exactly last h low more le = more seen h le
  turn_exact (wants n owner demand) seen x rest Rest Exactly last h low more le = here (n == o) h le
    where
      here : (b : Bool) → MatchBool b ((after : List Record) × MeetsOnSome (draws o) start owner demand seen x after × Rest after) (Rest seen) → length last ≤ length seen + length ((if b then x.told else []) ++ rest)
          → MatchBool b ((after : List Record) × MeetsExactly (draws o) start owner demand seen x after × Exactly after) (Exactly seen)
      here true h le =
          let grown = met_least owner (draws o) start seen x.reply x.told h.0 demand h.1 in
          let below = low h.0 h.2 in
          let split = length-append x.told rest in (
            h.0,
            met_exact owner (draws o) start seen x.reply x.told h.0 demand h.1 (omega (arith, below, split, le)),
            more h.0 h.2 (omega (arith, grown, split, le)),
          )
      here false h le = more seen h le

  -- Where what is known grows by just what is told, each line is answered on just what was known.
  pub tight : (seen : List Record) (xs : List Exchange) (last : List Record) → AnswersOn house draws o start seen xs last → length last ≤ length seen + length (told_of house o xs) → LeadExactly house draws o start seen xs last
  tight seen [] last h le = h
  tight seen (x ∷ xs) last h le = turn_exact (meant_at house x.turn) seen x (told_of house o xs) (λ after. AnswersOn house draws o start after xs last) (λ after. LeadExactly house draws o start after xs last) last h
      (λ after more. least after xs last more) (λ after more few. tight after xs last more few) le

-- all places are the one worker's
pub one_part : {X : Type 0} (crew : ℕ → ℕ) → ((at : ℕ) → crew at < 1) → (at : ℕ) (xs : List X) → part_of crew 0 at xs ≡ xs
one_part crew one at [] = refl
one_part {X = X} crew one at (x ∷ xs) = here (one_part crew one (at + 1) xs) (crew at == 0) (eq-eqb (crew at) 0 (omega (arith, one at)))
  where
    here : part_of crew 0 (at + 1) xs ≡ xs → (b : Bool) → b ≡ true → (if b then x ∷ part_of crew 0 (at + 1) xs else part_of crew 0 (at + 1) xs) ≡ x ∷ xs
    here rest true hit = ap (λ (w : List X). x ∷ w) rest
    here rest false miss = absurd (cc (miss))

pub counted : {X : Type 0} (zs : List X) → sum_by (λ z. 1) zs ≡ length zs
counted [] = refl
counted {X} (z ∷ zs) = omega (arith, sum_by-cons (λ (y : X). 1) z zs, counted zs)

pub exact : (house : House) (draws : ℕ → ℕ → ℕ → ℕ) (crew : ℕ → ℕ) (o : ℕ) (found : List Record) (xs : List Exchange) (records : List Record) → AreGathered house draws 1 crew o found xs records
    → LeadExactly house draws o (first_new found) found xs records
exact house draws crew o found xs records all =
    let w = all.workers 0 (omega arith) in
    let answers : AnswersOn house draws o (first_new found) found xs w.0 = subst (λ (ys : List Exchange). AnswersOn house draws o (first_new found) found ys w.0) (one_part crew all.crews 0 xs) w.2 in
    let low = least house draws o (first_new found) found xs w.0 answers in
    let told : length (told_of house o xs) ≡ length (enumerate_from (length found) (drop (length found) records))
    = sym (counted (told_of house o xs)) ∙ all.once (λ z. 1) ∙ counted (enumerate_from (length found) (drop (length found) records)) in
    let long : length (told_of house o xs) ≡ length (drop (length found) records) = told ∙ length-enumerate_from (length found) (drop (length found) records) in
    let behind = length-drop (length found) records in
    let first = prefix_length found records all.begins in
    let same : w.0 ≡ records = prefix_whole w.0 records w.1 (omega (arith, low, long, behind, first)) in
    subst (λ (last : List Record). LeadExactly house draws o (first_new found) found xs last) same
    (tight house draws o (first_new found) found xs w.0 answers (omega (arith, long, behind, first, ap length same)))
