-- each worker's replies are on records that grow
use Rattle.std.proofs.Common.{ℕ, List}
use mathlib.Core.List.{IsPrefix}
use Rattle.journal_records.specs.declared.records.Record.{Record}
use Rattle.session_core.specs.OwnerHouse.Owner.{Owner}
use Rattle.session_core.specs.OwnerHouse.House.{House}
use Rattle.session_core.proofs.OwnerHistory.Prefixes.{prefix_trans}
use Rattle.session_core.specs.AnswerPath.Demand.{Demand}
use Rattle.session_core.specs.Exchanges.{Exchange}
use Rattle.session_core.specs.Transcript.{first_new}
use Rattle.session_core.specs.Served.{MeetsOnSome, AnswersOn}
use Rattle.session_core.specs.Gathered.{IsAnsweredOn}
use Rattle.session_laws.specs.Growing.{IsMetOn, AreGrowingFrom, AreGrowing}
use Rattle.session_laws.proofs.Locals.{IsMetAt, lead_at, lead_two, meets_grow}

module _ (house : House) (draws : ℕ → ℕ → ℕ → ℕ) (o start : ℕ) (least : List Record) (ys : List Exchange) (records : List Record) where
  abbrev M : Owner → Demand → List Record → Exchange → List Record → Type 0
  M owner demand seen x after = MeetsOnSome (draws o) start owner demand seen x after

  abbrev met_on : (owner : Owner) (demand : Demand) (known last : List Record) (x : Exchange) → IsPrefix last records → IsMetAt house o M (λ owner demand s x after. meets_grow (draws o) start owner demand s x after) owner demand known last x
      → IsMetOn (draws o) start owner demand known x records
  met_on owner demand known last x ends m = record { seen = m.known; after = m.after; begins = m.begins; meets = m.meets; stands = prefix_trans m.after last records m.ends ends }

  -- .. that begin with those that its lines had seen
  pub growing_from : (last : List Record) → IsPrefix last records → AnswersOn house draws o start least ys last → AreGrowingFrom house draws o start least ys records
  growing_from last ends answers = record {
    each = λ k y owner demand at is. met_on owner demand least last y ends
        (lead_at house o M (λ owner demand s x after. meets_grow (draws o) start owner demand s x after) least ys last answers k y owner demand at is);
    grow = λ j k x y owner demand other lt at there is also.
        let m = lead_two house o M (λ owner demand s x after. meets_grow (draws o) start owner demand s x after) least ys last answers j k x y owner demand other lt at there is also in
        (met_on owner demand least last x ends m.first, met_on owner other m.first.after last y ends m.second);
  }

pub growing : (house : House) (draws : ℕ → ℕ → ℕ → ℕ) (o : ℕ) (found : List Record) (ys : List Exchange) (records : List Record) → IsAnsweredOn house draws o found ys records → AreGrowing house draws o found ys records
growing house draws o found ys records (last, ends, answers) = growing_from house draws o (first_new found) found ys records last ends answers
