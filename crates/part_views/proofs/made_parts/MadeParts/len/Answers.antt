-- A part for each chain.
use Rattle.std.proofs.Common.{List, [], ◌∷◌, ap, arith, length}
use Rattle.std.proofs.lemmas.List.{length-map}
use Rattle.metric_values.specs.Cells.{chosen_of}
use Rattle.metric_values.specs.Tables.{Dataset}
use Rattle.part_views.specs.MadeParts.{chain_from}
use Rattle.part_views.proofs.made_parts.MadeParts.len.Goals as goal

pub returns : goal.returns
returns c =
    let inside = c.self.inside in
    omega (
      arith,
      c.len.ensures,
      inside.first.ok.0,
      length-map inside.first.items (λ place. chosen_of inside.table (chain_from inside.next.items place) ∷ []),
      ap (λ (parts : List Dataset). length parts) c.self.view_is,
    )
