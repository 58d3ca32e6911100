use Rattle.std.proofs.Common.{suc, arith}
use Rattle.budget_journal.specs.declared.form.Form.TheVariants.{Many}
use Rattle.budget_journal.specs.Areas.{area_begin, live_area}
use Rattle.budget_journal.proofs.Fills.{in-two, stands-front}
use Rattle.budget_journal.proofs.laws.the_front_counts.Goals as goal

pub returns : goal.returns
returns c = λ header records bytes others stands two front.
    (stands-front header records bytes others (area_begin Many header.capacity (suc (live_area bytes))) stands two (omega arith)
    (in-two header records bytes stands two) front).0
