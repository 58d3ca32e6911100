-- a line with a program that takes too many walks is told so by each worker
use Rattle.std.proofs.Common.{◌≡◌, ℕ, ◌+◌, List, [], ap, arith}
use Rattle.journal_records.specs.declared.records.Record.{Record}
use Rattle.wire_lines.specs.Refusal.{no_memory}
use Rattle.wire_lines.specs.Reply.{refused}
use Rattle.session_core.specs.OwnerHouse.Owner.{Owner}
use Rattle.session_core.specs.OwnerHouse.House.{House}
use Rattle.session_core.specs.AnswerPath.Demand.{Demand, asks, balances, recalls, spends}
use Rattle.session_core.specs.Meant.{wants}
use Rattle.session_core.specs.Exchanges.{Exchange}
use Rattle.session_core.specs.Served.{AnswersOn, MeetsOnSome}
use Rattle.session_core.specs.Gathered.{AreGathered}
use Rattle.session_core.specs.Transcript.{first_new}
use Rattle.session_core.specs.Code.{WantsTooManyWalks}
use Rattle.session_core.proofs.AnswerPath.Walking.{told_of_walks}
use Rattle.session_core.proofs.OwnerHistory.Prefixes.{prefix_self}
use Rattle.session_laws.specs.Walks.{AreWalksTold}
use Rattle.session_laws.proofs.Growing.{growing_from}
use Rattle.session_laws.proofs.Locals.{part_has}

demanded : (draws : ℕ → ℕ → ℕ) (o start : ℕ) (owner : Owner) (demand : Demand) (seen : List Record) (x : Exchange) (after : List Record) → WantsTooManyWalks (wants o owner demand)
    → MeetsOnSome draws start owner demand seen x after → (x.reply ≡ refused no_memory) × (x.told ≡ [])
demanded draws o start owner (asks query) seen x after walks meets = let t = told_of_walks owner draws start query seen x.reply x.told after walks meets in (t.0, t.1)
demanded draws o start owner (recalls analyst number) seen x after walks meets = absurd walks
demanded draws o start owner balances seen x after walks meets = absurd walks
demanded draws o start owner (spends analyst) seen x after walks meets = absurd walks

pub walks_served : (house : House) (draws : ℕ → ℕ → ℕ → ℕ) (o start : ℕ) (seen : List Record) (xs : List Exchange) (last : List Record) → AnswersOn house draws o start seen xs last → AreWalksTold house o xs
walks_served house draws o start seen xs last answers k x owner demand at is walks =
    let m = (growing_from house draws o start seen xs last last (prefix_self last) answers).each k x owner demand at is in
    demanded (draws o) o start owner demand m.seen x m.after walks m.meets

pub walks_gathered : (house : House) (draws : ℕ → ℕ → ℕ → ℕ) (count : ℕ) (crew : ℕ → ℕ) (o : ℕ) (found : List Record) (xs : List Exchange) (records : List Record)
    → AreGathered house draws count crew o found xs records → AreWalksTold house o xs
walks_gathered house draws count crew o found xs records gathered k x owner demand at is walks =
    let same : 0 + k ≡ k = omega arith in
    let part = part_has crew (crew k) 0 xs k x at (ap crew same) in
    let answered = gathered.workers (crew k) (gathered.crews k) in
    walks_served house draws o (first_new found) found _ answered.0 answered.2 part.0 x owner demand part.1 is walks
