-- what one line makes of a pass, by what comes of its program and of the budget
use Rattle.std.proofs.Common.{◌≡◌, ℕ, List, [], ◌∷◌, ◌++◌, length, refl, sym, ap, subst, ◌∙◌, append-nil, append_assoc, inl, inr, Option, Some, None}
use Rattle.std.specs.Prelude.{Result, Ok, Err}
use Rattle.std.proofs.lemmas.List.{append_cancel_left}
use mathlib.Core.List.{IsPrefix}
use Rattle.journal_records.specs.declared.records.Outcome.{Outcome}
use Rattle.journal_records.specs.declared.records.Outcome.TheVariants.{Answered, Exhausted, Lost}
use Rattle.journal_records.specs.declared.records.Record.{Record}
use Rattle.budget_core.specs.declared.entry.Ask.{Ask}
use Rattle.budget_core.specs.declared.entry.Grant.{Grant}
use Rattle.budget_core.specs.Ledger.{reservation_for, settlement_for}
use Rattle.budget_ledger.specs.Account.{Account}
use Rattle.budget_ledger.specs.declared.failure.Failure.{Failure}
use Rattle.budget_ledger.specs.declared.book.AppendFault.{AppendFault}
use Rattle.budget_ledger.specs.declared.book.AppendFault.TheVariants.{Closed, DiskFault}
use Rattle.budget_ledger.specs.declared.book.BookFault.{BookFault}
use Rattle.budget_ledger.specs.declared.book.BookFault.TheVariants.{Refused, Unwritten}
use Rattle.wire_lines.specs.Reply.{Replied, refused}
use Rattle.wire_lines.specs.Refusal.{Refusal, by_line, by_program, by_money, by_disk, by_number, no_memory}
use Rattle.wire_lines.specs.declared.refusal.DiskRefusal.TheVariants.{Closed as IsClosed, Fault}
use Rattle.part_views.specs.Holding.{Holding}
use Rattle.part_views.specs.Views.{signature_in}
use Rattle.owner_house.specs.Owner.{Owner, IsOwnerOf, signature_of_view}
use Rattle.owner_desk.specs.Passes.{Pass, Told, first_of_run}
use Rattle.owner_desk.specs.Answers.{AddsRecord, HasReserved, HasSettled, IsSettledOn, verdict_on}
use Rattle.answer_path.specs.Query.{Query}
use Rattle.answer_path.specs.Program.{IsCharged}
use Rattle.answer_path.specs.Verdict.{program_refused, money_refused, granted, ask_for, money_refusal, IsVerdict}
use Rattle.answer_path.specs.Answered.{HasSmallAnswer, IsAsked, IsSettledBy, IsUnasked, granted_record, outcome_reply}
use Rattle.answer_path.specs.Shut.{FailsBy, IsGrantPending, IsSaidOpen, StaysShut, disk_word, shut_of}
use Rattle.answer_path.specs.Turn.{IsTurn, book_refusal, settled_reply}
use Rattle.answer_path.specs.Code.{IsProgramRefusal}
use Rattle.answer_path.proofs.Answering.{granted_is, money_says, owner_is, owner_with, program_says, self}
use Rattle.answer_path.proofs.Bars.{money-granted, money-refused, money-shut}

-- where nothing was added
still : (before after : Option Failure) → ((failure : Failure) → before ≡ Some failure → after ≡ Some failure) → StaysShut [] before after
still before after goes = record { still = goes; adds_nothing = λ failure was. refl }

-- where the book was open
opened : (told : List Told) (before after : Option Failure) → before ≡ None → StaysShut told before after
opened told before after none = record {
  still = λ failure was. absurd (let both : None ≡ Some failure = sym none ∙ was in cc);
  adds_nothing = λ failure was. absurd (let both : None ≡ Some failure = sym none ∙ was in cc);
}

kept : (before after : Pass) → after.own ≡ before.own → after.own ≡ before.own ++ []
kept before after is = is ∙ sym (append-nil before.own)

-- a refusal before the budget is asked adds nothing
pub refused_turn : (owner : Owner) (draws : ℕ → ℕ → ℕ) (query : Query) (pass : Pass) (refusal : Refusal) → IsProgramRefusal (signature_of_view owner query.view) query.program refusal
    → IsTurn owner draws query pass (refused refusal) pass
unfolding IsAsked
refused_turn owner draws query pass (by_program refusal) h = record {
  told = [];
  asked = (pass.seen, self pass.seen, inl (program_refused refusal, program_says owner (first_of_run pass) pass.seen query refusal h, (refl, refl, refl)));
  own = kept pass pass refl;
  shuts = (still pass.failure pass.failure (λ failure was. was), refl);
  said_open = tt;
  due = tt;
}
refused_turn owner draws query pass no_memory h = record {
  told = [];
  asked = (pass.seen, self pass.seen, inr (refl, refl, refl));
  own = kept pass pass refl;
  shuts = (still pass.failure pass.failure (λ failure was. was), refl);
  said_open = tt;
  due = tt;
}
refused_turn owner draws query pass (by_line refusal) h = absurd h
refused_turn owner draws query pass (by_money refusal) h = absurd h
refused_turn owner draws query pass (by_disk refusal) h = absurd h
refused_turn owner draws query pass (by_number refusal) h = absurd h

-- the record of a grant
record_of : (before : Pass) (g : List Record) (asking : Ask) (grant : Grant) → verdict_on before g None asking ≡ Ok grant → reservation_for g asking grant.taken ≡ granted_record asking grant
record_of before g asking grant is = sym (granted_is before.opened.ledger.entry (first_of_run before) g asking grant (money-granted before.opened.ledger.entry (first_of_run before) g asking None grant is))

-- no reservation is made
pub unreserved_turn : (name : List ℕ) (holding : Holding) (draws : ℕ → ℕ → ℕ) (query : Query) (before after : Pass) (p q : ℕ) (fault : BookFault)
    → IsCharged (signature_in holding.tables holding.partitions query.view) query.program p q → HasReserved before (ask_for query p q) (Err fault) after
    → IsTurn (owner_with name before.opened.ledger.entry holding) draws query before (refused (book_refusal fault)) after
unfolding IsAsked
unreserved_turn name holding draws query before after p q (Refused fault) c (g, begins, (verdict, stays)) = record {
  told = [];
  asked = (
    g,
    begins,
    inl (
      money_refused (money_refusal fault),
      money_says (owner_with name before.opened.ledger.entry holding) (first_of_run before) g query p q (Err fault) c
          (money-refused before.opened.ledger.entry (first_of_run before) g (ask_for query p q) after.failure fault verdict).0,
      (by_money (money_refusal fault), inl refl, (refl, refl, stays.seen)),
    ),
  );
  own = kept before after stays.own;
  shuts = (still before.failure after.failure stays.closed, stays.faults);
  said_open = (money-refused before.opened.ledger.entry (first_of_run before) g (ask_for query p q) after.failure fault verdict).1;
  due = tt;
}
unreserved_turn name holding draws query before after p q (Unwritten (Closed failed_at)) c (g, begins, (verdict, stays)) =
    let asking : Ask = ask_for query p q in
    let owner : Owner = owner_with name before.opened.ledger.entry holding in
    let shut = money-shut before.opened.ledger.entry (first_of_run before) g asking after.failure failed_at verdict in
    record {
      told = [];
      asked = (
        g,
        begins,
        inl (elim shut.3 [
          | inl (grant, is) ↦
              (granted asking grant, money_says owner (first_of_run before) g query p q (Ok grant) c is, inr (IsClosed failed_at, refl, inl (refl, stays.seen)))
          | inr (fault, is, low) ↦ (
            money_refused (money_refusal fault),
            money_says owner (first_of_run before) g query p q (Err fault) c is,
            (by_disk (IsClosed failed_at), inr (failed_at, low, refl), (refl, refl, stays.seen)),
          )
        ]),
      );
      own = kept before after stays.own;
      shuts = (shut.0, shut.1, shut.2, still before.failure after.failure stays.closed, stays.faults);
      said_open = tt;
      due = tt;
    }
unreserved_turn name holding draws query before after p q (Unwritten DiskFault) c (g, begins, (grant, verdict, fails)) =
    let owner : Owner = owner_with name before.opened.ledger.entry holding in
    let asking : Ask = ask_for query p q in
    let pending = fails.pending ∙ record_of before g asking grant verdict in
    let says = money_says owner (first_of_run before) g query p q (Ok grant) c (money-granted before.opened.ledger.entry (first_of_run before) g asking None grant verdict) in
    record {
      told = [];
      asked = (g, begins, inl (granted asking grant, says, inr (Fault, refl, inl (refl, fails.seen))));
      own = kept before after fails.own;
      shuts = (fails.failure, fails.open_before, fails.closed, (p, q, c, grant, pending), fails.faults);
      said_open = tt;
      due = (
        fails.failure,
        fails.closed,
        (
          asking,
          grant,
          subst (λ (records : List Record). IsVerdict owner.entry (signature_of_view owner query.view) (first_of_run before) records query (granted asking grant)) (sym fails.seen) says,
          pending,
        ),
      );
    }

-- a settled grant's reply isn't for the disk, nor of an open book alone, and nothing is pending after it
unsaid : (grant : Grant) (outcome : Outcome) → disk_word (outcome_reply grant outcome) ≡ None
unsaid grant (Answered value) = refl
unsaid grant Exhausted = refl
unsaid grant Lost = refl

unheld : (grant : Grant) (outcome : Outcome) (failure : Option Failure) → IsSaidOpen (outcome_reply grant outcome) failure
unheld grant (Answered value) failure = tt
unheld grant Exhausted failure = tt
unheld grant Lost failure = tt

nothing_due : (owner : Owner) (start : ℕ) (query : Query) (grant : Grant) (outcome : Outcome) (told : List Told) (after : List Record) (failure : Option Failure)
    → IsGrantPending owner start query (outcome_reply grant outcome) told after failure
nothing_due owner start query grant (Answered value) told after failure = tt
nothing_due owner start query grant Exhausted told after failure = tt
nothing_due owner start query grant Lost told after failure = tt

-- a reservation is made on some records g, and settled or not on some later ones u
module _ (name : List ℕ) (holding : Holding) (draws : ℕ → ℕ → ℕ) (query : Query) (before mid after : Pass) (p q : ℕ) (grant : Grant) (outcome : Outcome) (g u : List Record)
    (c : IsCharged (signature_in holding.tables holding.partitions query.view) query.program p q) (begins : IsPrefix before.seen g)
    (verdict : verdict_on before g None (ask_for query p q) ≡ Ok grant) (adds : AddsRecord before g (reservation_for g (ask_for query p q) grant.taken) mid)
    (settles : IsSettledBy (owner_with name before.opened.ledger.entry holding) draws query grant.number outcome) (between : IsPrefix mid.seen u)
    (stays_opened : mid.opened ≡ before.opened) where
  abbrev owner : Owner
  owner = owner_with name before.opened.ledger.entry holding

  abbrev asking : Ask
  asking = ask_for query p q

  abbrev next : Record
  next = granted_record asking grant

  abbrev last : Record
  last = settlement_for before.opened.ledger.entry u grant.number outcome

  last_is : settlement_for mid.opened.ledger.entry u grant.number outcome ≡ last
  last_is = ap (λ (o : Account). settlement_for o.ledger.entry u grant.number outcome) stays_opened

  is : reservation_for g asking grant.taken ≡ next
  is = record_of before g asking grant verdict

  says : IsVerdict owner.entry (signature_of_view owner query.view) (first_of_run before) g query (granted asking grant)
  says = money_says owner (first_of_run before) g query p q (Ok grant) c (money-granted before.opened.ledger.entry (first_of_run before) g asking None grant verdict)

  reserved : IsPrefix (g ++ next ∷ []) u
  reserved = subst (λ (records : List Record). IsPrefix records u) (adds.seen ∙ ap (λ (r : Record). g ++ r ∷ []) is) between

  own : mid.own ≡ before.own ++ (length g, next) ∷ []
  own = adds.own ∙ ap (λ (r : Record). before.own ++ (length g, r) ∷ []) is

  two_holds : (written : Result ℕ AppendFault) → IsSettledOn mid u grant.number outcome written after → IsTurn owner draws query before (settled_reply grant outcome written) after
  unfolding IsAsked
  two_holds (Ok seen) (added, counted) = record {
    told = (length g, next) ∷ (length u, last) ∷ [];
    asked = (
      g,
      begins,
      inl (
        granted asking grant,
        says,
        inl (record { outcome = outcome; u = u; settled = settles; reserved = reserved; reply_is = refl; told_is = refl; after_is = added.seen ∙ ap (λ (r : Record). u ++ r ∷ []) last_is }),
      ),
    );
    own = added.own ∙ ap (λ (r : Record). mid.own ++ (length u, r) ∷ []) last_is ∙ ap (λ (told : List Told). told ++ (length u, last) ∷ []) own ∙ append_assoc before.own ((length g, next) ∷ []) ((length u, last) ∷ []);
    shuts = subst (λ (word : Option (Option ℕ)). FailsBy owner draws query word ((length g, next) ∷ (length u, last) ∷ []) (shut_of before) (shut_of after)) (sym (unsaid grant outcome))
        (opened ((length g, next) ∷ (length u, last) ∷ []) before.failure after.failure adds.open_before, added.faults ∙ adds.faults);
    said_open = unheld grant outcome after.failure;
    due = nothing_due owner (first_of_run before) query grant outcome ((length g, next) ∷ (length u, last) ∷ []) after.seen after.failure;
  }
  two_holds (Err (Closed failed_at)) (failure, closed, said, stays) = record {
    told = (length g, next) ∷ [];
    asked = (
      g,
      begins,
      inl (granted asking grant, says, inr (IsClosed failed_at, refl, inr (refl, subst (λ (records : List Record). IsPrefix (g ++ next ∷ []) records) (sym stays.seen) reserved))),
    );
    own = stays.own ∙ own;
    shuts = (failure, closed, said, opened ((length g, next) ∷ []) before.failure after.failure adds.open_before, stays.faults ∙ adds.faults);
    said_open = tt;
    due = tt;
  }
  two_holds (Err DiskFault) fails = record {
    told = (length g, next) ∷ [];
    asked = (
      g,
      begins,
      inl (granted asking grant, says, inr (Fault, refl, inr (refl, subst (λ (records : List Record). IsPrefix (g ++ next ∷ []) records) (sym fails.seen) reserved))),
    );
    own = fails.own ∙ own;
    shuts = (
      fails.failure,
      adds.open_before,
      fails.closed,
      (outcome, u, settles, fails.pending ∙ last_is),
      fails.faults ∙ ap (λ (faults : List Failure). faults ++ fails.failure ∷ []) adds.faults,
    );
    said_open = tt;
    due = tt;
  }

pub settled_turn : (name : List ℕ) (holding : Holding) (draws : ℕ → ℕ → ℕ) (query : Query) (before mid after : Pass) (p q : ℕ) (grant : Grant) (outcome : Outcome) (written : Result ℕ AppendFault)
    → IsCharged (signature_in holding.tables holding.partitions query.view) query.program p q → HasReserved before (ask_for query p q) (Ok grant) mid
    → IsSettledBy (owner_with name before.opened.ledger.entry holding) draws query grant.number outcome → HasSettled mid grant.number outcome written after
    → mid.opened ≡ before.opened → IsTurn (owner_with name before.opened.ledger.entry holding) draws query before (settled_reply grant outcome written) after
settled_turn name holding draws query before mid after p q grant outcome written c (g, begins, (verdict, adds)) settles (u, between, second) stays_opened =
    two_holds name holding draws query before mid after p q grant outcome g u c begins verdict adds settles between stays_opened written second

pub settled_small : (grant : Grant) (outcome : Outcome) (written : Result ℕ AppendFault) → ((grant : Grant) → HasSmallAnswer (outcome_reply grant outcome)) → HasSmallAnswer (settled_reply grant outcome written)
settled_small grant outcome (Ok seen) small = small grant
settled_small grant outcome (Err fault) small = tt

-- what the budget was asked for isn't told as if it hadn't been
pub fault_asked : (fault : BookFault) → IsUnasked (refused (book_refusal fault)) → ⊥
fault_asked (Refused fault) h = h
fault_asked (Unwritten fault) h = h

pub settled_asked : (grant : Grant) (outcome : Outcome) (written : Result ℕ AppendFault) → IsUnasked (settled_reply grant outcome written) → ⊥
settled_asked grant (Answered value) (Ok seen) h = h
settled_asked grant Exhausted (Ok seen) h = h
settled_asked grant Lost (Ok seen) h = h
settled_asked grant outcome (Err fault) h = h

-- what is so of each owner of an entry and a holding by its name
pub of_owner : (P : Owner → Type 0) (pass : Pass) (holding : Holding) → ((name : List ℕ) → P (owner_with name pass.opened.ledger.entry holding)) → (owner : Owner) → IsOwnerOf pass.opened.ledger.entry holding owner → P owner
of_owner P pass holding all owner is = subst P (owner_is pass.opened.ledger.entry holding owner is) (all owner.name)

-- what a pass added is all that was added
same_told : (before after : Pass) (told other : List Told) → after.own ≡ before.own ++ told → after.own ≡ before.own ++ other → told ≡ other
same_told before after told other first second = append_cancel_left before.own told other (sym first ∙ second)

pub shuts_by : (owner : Owner) (draws : ℕ → ℕ → ℕ) (query : Query) (before after : Pass) (reply : Replied) (turn : IsTurn owner draws query before reply after) (other : List Told) → after.own ≡ before.own ++ other
    → FailsBy owner draws query (disk_word reply) other (shut_of before) (shut_of after)
shuts_by owner draws query before after reply turn other is =
    subst (λ told. FailsBy owner draws query (disk_word reply) told (shut_of before) (shut_of after)) (same_told before after turn.told other turn.own is) turn.shuts

pub due_by : (owner : Owner) (draws : ℕ → ℕ → ℕ) (query : Query) (before after : Pass) (reply : Replied) (turn : IsTurn owner draws query before reply after) (other : List Told) → after.own ≡ before.own ++ other
    → IsGrantPending owner (first_of_run before) query reply other after.seen after.failure
due_by owner draws query before after reply turn other is =
    subst (λ told. IsGrantPending owner (first_of_run before) query reply told after.seen after.failure) (same_told before after turn.told other turn.own is) turn.due
