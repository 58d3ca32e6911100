-- One more column.
use Rattle.std.proofs.Common.{◌≡◌, ◌∙◌, length, map, true, ap, rules}
use Rattle.std.specs.Result.{is_ok}
use Rattle.std.proofs.lemmas.List.{map-append}
use Rattle.metric_values.specs.Columns.{cells_of}
use Rattle.table_store.specs.Growth.{kind_of}
use Rattle.table_store.specs.Schema.{NamedColumn}
use Rattle.table_store.proofs.GrowthLemmas.{kinds_more, long_more}
use Rattle.table_store.proofs.columns.empty_columns.Goals as goal

pub loop-i-preserved : goal.loop-i-preserved
loop-i-preserved c =
    let inv = c.loop-i.invariant in
    let good : is_ok c.push.result ≡ true = search rules in
    let items = rw good at c.push.ensures.items in
    let kind = c.empty_column.ensures.kind ∙ c.kind.ensures ∙ ap (λ (x : NamedColumn). x.kind) c.index-schema-i.is in
    record {
      kinds = ap (map kind_of) items ∙ kinds_more c.loop-i.columns.items c.args.schema.now c.loop-i.i c.index-schema-i.result c.empty_column.result
          c.loop-i-test.true inv.kinds kind;
      long = rw (items, map-append) (long_more 0 (map cells_of c.loop-i.columns.items) (cells_of c.empty_column.result) inv.long
          (ap length c.empty_column.ensures.empty));
    }
