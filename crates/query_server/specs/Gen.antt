-- `gen`: asks that follow from a seed are answered in memory.
use Rattle.std.specs.Prelude.{◌≡◌, false, ℕ, List, ◌++◌, None, codes, decimal}
use Rattle.std.specs.Fmt.{signed_decimal}
use Rattle.outside_bays.specs.Bays.{Same}
use Rattle.generated_run.specs.Tally.{tally_of}
use Rattle.generated_run.specs.declared.counting.Tally.{Tally}
use Rattle.catalog_loading.specs.Steps.{done}
use Rattle.query_server.specs.Work.{to_generate}
use Rattle.query_server.specs.Duty.{Duty, Kind}
use Rattle.query_server.specs.declared.end.Status.TheVariants.{Done}

-- no file is read
abbrev pub gen_kind : (seed asks : ℕ) → Kind
gen_kind seed asks = record { steps = done (to_generate seed asks); source = false; disks = false; doors = false; program = false }

-- the line of what it came to
abbrev pub tally_text : Tally → List ℕ
tally_text tally =
    codes "asks " ++ decimal tally.asks ++ codes " answered " ++ decimal tally.answered ++ codes " exhausted " ++ decimal tally.exhausted
    ++ codes " over " ++ decimal tally.over ++ codes " spent " ++ decimal tally.spent ++ codes " sum " ++ signed_decimal tally.sum ++ codes "\n"

-- it follows from the seed and from how many asks there are
abbrev pub gen_duty : (seed asks : ℕ) → Duty
gen_duty seed asks = record {
  due = λ old new script status text. (status ≡ Done) × (text ≡ tally_text (tally_of seed asks)) × Same old new;
  may_stop = Same;
  names_disk = λ old new text. ⊥;
  statuses = λ status. status ≡ Done;
  admits = None;
}
