-- two lines of two workers, where the second one's records stand between the first one's
use Rattle.std.proofs.Common.{◌≡◌, ℕ, zero, suc, ◌+◌, ◌<◌, ◌==◌, Bool, true, false, List, [], ◌∷◌, refl, sym, ◌∙◌, ap, subst, arith, eq-eqb}
use Rattle.std.specs.Prelude.{MatchBool, sum_by}
use Rattle.std.proofs.lemmas.List.Sums.{sum_by-cons}
use mathlib.Core.Logic.{inl}
use Rattle.journal_records.specs.declared.records.Outcome.{Outcome}
use Rattle.journal_records.specs.declared.records.Record.{Record}
use Rattle.budget_core.specs.declared.entry.Ask.{Ask}
use Rattle.budget_core.specs.declared.entry.Grant.{Grant}
use Rattle.budget_core.specs.Ledger.{settlement_for}
use Rattle.session_core.specs.OwnerHouse.Owner.{Owner}
use Rattle.session_core.specs.AnswerPath.Query.{Query}
use Rattle.session_core.specs.AnswerPath.Verdict.{granted}
use Rattle.session_core.specs.OwnerHouse.House.{House}
use Rattle.session_core.specs.AnswerPath.Demand.{Demand, asks}
use Rattle.session_core.specs.Meant.{Meant, wants}
use Rattle.session_core.specs.Turns.{meant_at}
use Rattle.session_core.specs.Exchanges.{Exchange, TurnLeads, is_of, told_of}
use Rattle.session_laws.specs.Between.{two_workers, IsSettledLater, three_records, four_records}
use Rattle.session_core.specs.OwnerDesk.Passes.{Told}
use Rattle.session_core.specs.AnswerPath.Answered.{granted_record, IsAsked}
use Rattle.session_core.specs.AnswerPath.Met.{IsMet}
use Rattle.session_core.specs.Served.{MeetsOnSome}
use Rattle.session_core.specs.Gathered.{part_of, IsAnsweredOn, AreGathered}

-- a turn that asks the owner, and is met
hit : (house : House) (o : ℕ) (M : Owner → Demand → List Record → Exchange → List Record → Type 0) (m : Meant) (seen after : List Record) (x : Exchange) (owner : Owner) (demand : Demand) (Rest : List Record → Type 0)
    → m ≡ wants o owner demand → M owner demand seen x after → Rest after → TurnLeads house o M m seen x Rest
hit house o M m seen after x owner demand Rest is meets rest = subst (λ (k : Meant). TurnLeads house o M k seen x Rest) (sym is) (here (o == o) (eq-eqb o o refl))
  where
    here : (b : Bool) → b ≡ true → MatchBool b ((u : List Record) × M owner demand seen x u × Rest u) (Rest seen)
    here true sure = (after, meets, rest)
    here false never = absurd (cc (never))

four : (w : Told → ℕ) (a b c d : Told) → sum_by w (a ∷ b ∷ c ∷ d ∷ []) ≡ w a + w b + w c + w d
four w a b c d = omega (arith, sum_by-cons w a (b ∷ c ∷ d ∷ []), sum_by-cons w b (c ∷ d ∷ []), sum_by-cons w c (d ∷ []), sum_by-cons w d [])

module _ (house : House) (draws : ℕ → ℕ → ℕ → ℕ) (o : ℕ) (owner : Owner) (x y : Exchange) (q r : Query) (a b : Ask) (c d : Grant) (s t : Outcome)
    (f : IsSettledLater house draws o owner [] x q a c s 0 (three_records owner.entry a b c d t))
    (g : IsSettledLater house draws o owner (granted_record a c ∷ []) y r b d t 1 (granted_record a c ∷ granted_record b d ∷ [])) where
  abbrev records : List Record
  records = four_records owner.entry a b c d s t

  abbrev three : List Record
  three = three_records owner.entry a b c d t

  -- the settlements, the second worker's first
  abbrev second_end : Record
  second_end = settlement_for owner.entry (granted_record a c ∷ granted_record b d ∷ []) d.number t

  abbrev first_end : Record
  first_end = settlement_for owner.entry three c.number s

  first_met : MeetsOnSome (draws o) 0 owner (asks q) [] x records
  unfolding IsMet IsAsked
  first_met = (
    [],
    ([], refl),
    inl (
      granted a c,
      f.verdict,
      inl (record {
        outcome = s;
        u = three;
        settled = f.settles;
        reserved = (granted_record b d ∷ second_end ∷ [], refl);
        reply_is = f.said;
        told_is = f.told;
        after_is = refl;
      }),
    ),
  )

  second_met : MeetsOnSome (draws o) 0 owner (asks r) [] y three
  unfolding IsMet IsAsked
  second_met = (
    granted_record a c ∷ [],
    (granted_record a c ∷ [], refl),
    inl (
      granted b d,
      g.verdict,
      inl (record {
        outcome = t;
        u = granted_record a c ∷ granted_record b d ∷ [];
        settled = g.settles;
        reserved = ([], refl);
        reply_is = g.said;
        told_is = g.told;
        after_is = refl;
      }),
    ),
  )

  workers : (i : ℕ) → i < 2 → IsAnsweredOn house draws o [] (part_of two_workers i 0 (x ∷ y ∷ [])) records
  workers zero lt = (records, ([], refl), hit house o (MeetsOnSome (draws o) 0) (meant_at house x.turn) [] records x owner (asks q) (λ after. records ≡ after) f.meant first_met refl)
  workers (suc zero) lt =
      let last : List Record = three in
      (last, (first_end ∷ [], refl), hit house o (MeetsOnSome (draws o) 0) (meant_at house y.turn) [] last y owner (asks r) (λ after. last ≡ after) g.meant second_met refl)
  workers (suc (suc i)) lt = absurd (omega (arith, lt))

  told : told_of house o (x ∷ y ∷ []) ≡ (0, granted_record a c) ∷ (3, first_end) ∷ (1, granted_record b d) ∷ (2, second_end) ∷ []
  told = rw (ap (is_of o) f.meant ∙ eq-eqb o o refl, ap (is_of o) g.meant ∙ eq-eqb o o refl, f.told, g.told) refl

  pub between : AreGathered house draws 2 two_workers o [] (x ∷ y ∷ []) records
  between = record {
    begins = (records, refl);
    crews = crews;
    workers = workers;
    once = λ w. ap (sum_by w) told ∙ four w (0, granted_record a c) (3, first_end) (1, granted_record b d) (2, second_end)
        ∙ (let same : w (0, granted_record a c) + w (3, first_end) + w (1, granted_record b d) + w (2, second_end) ≡ w (0, granted_record a c) + w (1, granted_record b d) + w (2, second_end) + w (3, first_end) = omega arith in same)
        ∙ sym (four w (0, granted_record a c) (1, granted_record b d) (2, second_end) (3, first_end));
  }
    where
      crews : (at : ℕ) → two_workers at < 2
      crews zero = omega arith
      crews (suc at) = omega arith
