use Rattle.std.proofs.Common.{length, map, ap, ◌∙◌, sym, arith, ◌≡◌, subst}
use Rattle.std.proofs.lemmas.List.{length-map}
use Rattle.std.specs.Arc.{arc_value}
use Rattle.std.specs.List.{All}
use Rattle.metric_values.specs.Cells.{AreRows, chosen_of}
use Rattle.metric_values.specs.Columns.{rows_of_columns}
use Rattle.metric_values.specs.Rows.{IsColumnTable, place_in, rows_of_table}
use Rattle.metric_values.specs.declared.table.Rows.TheVariants.{Chosen}
use Rattle.metric_values.proofs.SideBySide.{all_numbered, chosen_length, places_rows, places_there}
use Rattle.metric_values.proofs.table.Table.with_rows.Goals as goal

pub places-requires : goal.places-requires
places-requires c = all_numbered (arc_value c.self.inside.columns).items c.self.inside.rows c.args.numbers.now (subst (λ rows. AreRows rows c.args.numbers.now) (sym c.self.view_is) c.requires)

module _ (c : goal.In_ok-shared) where
  chosen : AreRows (rows_of_table (arc_value c.self.inside.columns).items c.self.inside.rows) c.args.numbers.now
  chosen = subst (λ rows. AreRows rows c.args.numbers.now) (sym c.self.view_is) c.requires

  same_columns : arc_value c.in_ok-columns.columns ≡ arc_value c.self.inside.columns
  same_columns = c.in_ok-columns.ensures.cases

  places_are : (arc_value c.in_ok-shared.field-0).items ≡ map (place_in c.self.inside.rows) c.args.numbers.now
  places_are = ap (λ v. v.items) c.in_ok-shared.ensures ∙ c.in_ok-places.ensures

pub invariant_of-result : goal.invariant_of-result
invariant_of-result c =
    let cs = (arc_value c.self.inside.columns).items in
    let new = (arc_value c.in_ok-shared.field-0).items in
    let few = ap length (places_are c) in
    subst (λ v. IsColumnTable v.items (Chosen c.in_ok-shared.field-0)) (sym (same_columns c)) record {
      equal = c.self.invariant.equal;
      narrow = c.self.invariant.narrow;
      chosen = subst (AreRows (rows_of_columns cs)) (sym (places_are c)) (places_there cs c.self.inside.rows c.self.invariant.chosen c.args.numbers.now (chosen c));
      short = omega (arith, c.if-numbers.false, few, length-map c.args.numbers.now (place_in c.self.inside.rows), chosen_length (rows_of_columns cs) new);
    }

pub returns : goal.returns
returns c =
    let cs = (arc_value c.self.inside.columns).items in
    ap (λ v. chosen_of (rows_of_columns v.items) (arc_value c.in_ok-shared.field-0).items) (same_columns c)
    ∙ ap (chosen_of (rows_of_columns cs)) (places_are c)
    ∙ places_rows cs c.self.inside.rows c.args.numbers.now (all_numbered cs c.self.inside.rows c.args.numbers.now (chosen c))
    ∙ ap (λ rows. chosen_of rows c.args.numbers.now) c.self.view_is
