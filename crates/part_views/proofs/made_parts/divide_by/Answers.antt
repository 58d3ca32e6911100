-- One more row.
use Rattle.std.proofs.Common.{◌≡◌, ◌<◌, ◌-◌, ◌+◌, ◌∙◌, ℕ, List, [], get_or, length, take, ap, sym, subst, arith}
use Rattle.std.specs.Prelude.{Option}
use Rattle.std.proofs.lemmas.List.{length-set}
use Rattle.metric_values.specs.Cells.{row_at}
use Rattle.metric_values.specs.Values.{Flat, TextF}
use Rattle.part_views.specs.Cuts.{class_of}
use Rattle.part_views.specs.MadeParts.{AreChains, IsNumberOf, parts_chained}
use Rattle.part_views.proofs.Chains.{HasChained, are_chains, parts_are, row_found}
use Rattle.part_views.proofs.made_parts.divide_by.Goals as goal

pub loop-row-preserved-in-Some : goal.loop-row-preserved-in-Some
loop-row-preserved-in-Some g c =
    let class = g.C.RowClasses.class c.args.classes.now in
    let table = c.args.table.now in
    let inv = c.loop-row.invariant in
    let keys = c.args.keys.now in
    let text = take c.in_ok-n.n c.write.new.out in
    let is : class_of class (row_at table (c.loop-row.row - 1)) ≡ TextF text =
    subst (λ (rows : List Flat). class_of class (row_at rows (c.loop-row.row - 1)) ≡ TextF text) c.requires.rows c.in_ok-n.ensures.class in
    let found : (c.in-Some.part < length keys) × (get_or keys c.in-Some.part [] ≡ text) =
    subst (λ (number : Option ℕ). IsNumberOf keys text number) c.in-Some.is c.number.ensures.number in
    record {
      few = omega (arith, inv.few);
      parts = length-set c.loop-row.first.items c.in-Some.part (c.loop-row.row - 1 + 1) ∙ inv.parts;
      room = omega (arith, length-set c.loop-row.next.items (c.loop-row.row - 1) c.index.result.now, inv.room);
      text = c.in_ok-n.ensures.room;
      chained = row_found class table c.args.keys.now c.loop-row.row c.loop-row.first.items c.loop-row.next.items c.loop-row-test.true inv.few inv.parts inv.room
          inv.chained text is c.in-Some.part c.index.result.now found c.number.ensures.distinct c.index.ensures;
    }

pub invariant_of-result : goal.invariant_of-result
invariant_of-result g c =
    let class = g.C.RowClasses.class c.args.classes.now in
    let first = c.loop-row.first.items in
    let next = c.loop-row.next.items in
    let inv = c.loop-row.invariant in
    let over : c.loop-row.row ≡ 0 = omega (arith, c.loop-row-test.false) in
    let chained = subst (λ (row : ℕ). HasChained class c.args.table.now c.args.keys.now row first next) over inv.chained in
    subst (λ (rows : List Flat). AreChains rows first next) (sym c.in_ok-copy.ensures)
    (are_chains class c.args.table.now c.args.keys.now first next inv.parts inv.room chained)

pub returns : goal.returns
returns g c =
    let class = g.C.RowClasses.class c.args.classes.now in
    let first = c.loop-row.first.items in
    let next = c.loop-row.next.items in
    let inv = c.loop-row.invariant in
    let over : c.loop-row.row ≡ 0 = omega (arith, c.loop-row-test.false) in
    let chained = subst (λ (row : ℕ). HasChained class c.args.table.now c.args.keys.now row first next) over inv.chained in
    ap (λ (rows : List Flat). parts_chained rows first next) c.in_ok-copy.ensures ∙ parts_are class c.args.table.now c.args.keys.now first next inv.parts inv.room chained
