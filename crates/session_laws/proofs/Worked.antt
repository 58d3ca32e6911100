-- a script that workers answered by halves of passes just opened, which were joined again
use Rattle.std.proofs.Common.{◌≡◌, ℕ, ◌<◌, List, ◌++◌, slice_get, length, Option, Some, refl, ◌∙◌, ap, subst, arith}
use Rattle.std.specs.Prelude.{sum_by}
use Rattle.journal_records.specs.declared.records.Record.{Record}
use Rattle.budget_ledger.specs.declared.failure.Failure.{Failure}
use Rattle.session_core.specs.OwnerHouse.Owner.{Owner}
use Rattle.session_core.specs.OwnerHouse.House.{House}
use Rattle.session_core.specs.OwnerDesk.Passes.{Pass, records_told}
use Rattle.session_core.specs.AnswerPath.Shut.{Shut, shut_of}
use Rattle.session_core.proofs.OwnerHistory.Prefixes.{prefix_trans}
use Rattle.session_core.specs.Exchanges.{Exchange, told_of}
use Rattle.session_core.specs.Transcript.{Journals, first_new}
use Rattle.session_core.specs.Served.{AnswersOn, ShutsOn}
use Rattle.session_core.specs.Gathered.{part_of, AreGathered, AreShut, IsGatheredScript}
use Rattle.session_core.specs.Blocks.{AreDealt, crew_of, script_blocks}
use Rattle.session_core.specs.Bundles.{handed_on}
use Rattle.session_core.specs.Code.{pass_at, found_by, fresh_pass, AreFresh, IsClosedWith, AreClosed}
use Rattle.session_core.specs.Worked.{IsBroughtIn, HasWorked}
use Rattle.session_laws.specs.Crew.{AreJoined}
use Rattle.session_laws.proofs.Exact.{counted}
use Rattle.session_laws.proofs.Assembles.{added_same}
use Rattle.session_laws.proofs.Crew.{joined_gathered}
use Rattle.session_laws.proofs.Dealing.{are_dealt}

-- One owner's pass, from its opening by way of the workers to the closing of the book.
module _ (house : House) (draws : ℕ → ℕ → ℕ → ℕ) (count : ℕ) (crew : ℕ → ℕ) (o : ℕ) (xs : List Exchange) (before after : Pass) (records : List Record) (closed : Option Failure)
    (crews : (at : ℕ) → crew at < count) (fresh : before ≡ fresh_pass before.opened) (b : IsBroughtIn house draws count crew o xs before after) (shut : IsClosedWith after records closed) where
  abbrev found : List Record
  found = before.opened.ledger.found

  abbrev parts : ℕ → List Exchange
  parts i = part_of crew i 0 xs

  pub worked_joined : AreJoined house draws count parts o found records
  worked_joined = record {
    own = after.own;
    workers = λ i lt. (
      (b.ends i).seen,
      prefix_trans (b.ends i).seen after.seen records (b.seen i lt).0 shut.later,
      subst (λ (rs : List Record). AnswersOn house draws o (first_new found) rs (parts i) (b.ends i).seen) (ap (λ (p : Pass). p.seen) fresh) (b.workers i lt).answers,
    );
    owns = λ weight. omega (
      arith,
      b.own weight,
      ap (λ (p : Pass). sum_by weight p.own) fresh,
      added_same (λ i. sum_by weight (b.ends i).own) (λ i. sum_by weight (told_of house o (parts i))) count (λ i lt. ap (sum_by weight) (b.workers i lt).own),
    );
    apart = b.apart;
    all = shut.all ∙ ap (λ a. a.ledger.found ++ records_told after.own) b.opened;
  }

  pub worked_shut : AreShut house draws count crew o xs closed
  worked_shut = record {
    crews = crews;
    ends = λ i. shut_of (b.ends i);
    workers = λ i lt. (
      subst (λ (s : Shut). ShutsOn house draws o s (parts i) (shut_of (b.ends i))) (ap (λ (p : Pass). shut_of (handed_on p)) fresh) (b.workers i lt).shuts,
      λ failure is. shut.failure failure ((b.seen i lt).1 failure is),
    );
    counted = omega (
      arith,
      b.faults (λ f. 1),
      ap (λ (p : Pass). sum_by (λ f. 1) p.faults) fresh,
      counted after.faults,
      ap length shut.faults,
      added_same (λ i. sum_by (λ f. 1) (b.ends i).faults) (λ i. length (b.ends i).faults) count (λ i lt. counted (b.ends i).faults),
    );
  }

-- What workers made of any lines, each at its own places.
pub crew_gathered : (house : House) (draws : ℕ → ℕ → ℕ → ℕ) (count : ℕ) (crew : ℕ → ℕ) (xs : List Exchange) (before after : List Pass) (records : Journals) (closed : ℕ → Option Failure) → ((at : ℕ) → crew at < count)
    → AreFresh house before → ((o : ℕ) (owner : Owner) → slice_get house.owners o ≡ Some owner → IsBroughtIn house draws count crew o xs (pass_at before o) (pass_at after o)) → AreClosed house after records closed
    → (o : ℕ) (owner : Owner) → slice_get house.owners o ≡ Some owner → AreGathered house draws count crew o (found_by before o) xs (records o) × AreShut house draws count crew o xs (closed o)
crew_gathered house draws count crew xs before after records closed crews fresh each shut o owner here =
    let b = each o owner here in (
      joined_gathered house draws count crew (λ i. part_of crew i 0 xs) xs o owner (found_by before o) (records o) here crews (λ i lt. refl)
          (worked_joined house draws count crew o xs (pass_at before o) (pass_at after o) (records o) (closed o) crews (fresh o owner here) b (shut o owner here)),
      worked_shut house draws count crew o xs (pass_at before o) (pass_at after o) (records o) (closed o) crews (fresh o owner here) b (shut o owner here),
    )

-- What the workers of a script's blocks made of it.
pub script_gathered : (house : House) (draws : ℕ → ℕ → ℕ → ℕ) (count : ℕ) (script text : List ℕ) (before after : List Pass) (records : Journals) (closed : ℕ → Option Failure) → 0 < count
    → AreFresh house before → (h : HasWorked house draws count script text before after) → AreClosed house after records closed
    → IsGatheredScript house draws count (crew_of count 0 (script_blocks script)) (found_by before) script h.exchanges records
    × ((o : ℕ) (owner : Owner) → slice_get house.owners o ≡ Some owner → AreShut house draws count (crew_of count 0 (script_blocks script)) o h.exchanges (closed o))
script_gathered house draws count script text before after records closed some fresh h shut =
    let dealt : AreDealt house script count = are_dealt house script count some in
    let all = crew_gathered house draws count (crew_of count 0 (script_blocks script)) h.exchanges before after records closed dealt.crews fresh h.owners shut in (
      record { crews = dealt.crews; turns = h.turns_are; plain = h.plain; owners = λ o owner here. (all o owner here).0 },
      λ o owner here. (all o owner here).1,
    )
