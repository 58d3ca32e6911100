-- One more field against its name.
use Rattle.std.proofs.Common.{◌<◌, ◌∙◌, length, ap, sym, arith}
use Rattle.csv.specs.Records.{fields_of}
use Rattle.table_store.specs.Schema.{NamedColumn}
use Rattle.table_store.proofs.HeaderLemmas.{names_agree, names_differ}
use Rattle.table_store.proofs.rows.has_names.Goals as goal

pub returns-then-ne : goal.returns-then-ne
returns-then-ne c =
    let there : c.loop-i.i < length (fields_of c.args.fields.now) = grind arith in
    let under : c.loop-i.i < length c.args.schema.now = grind arith in
    sym (c.loop-i.invariant.so_far ∙ names_differ (fields_of c.args.fields.now) c.args.schema.now c.loop-i.i c.index-schema-i.result there under c.get.result
    c.as_bytes.result
    c.get.ensures.value (c.as_bytes.ensures.value ∙ c.name.ensures
    ∙ ap (λ (x : NamedColumn). x.name) c.index-schema-i.is) c.ne.result c.ne.ensures c.if-ne.true)

pub loop-i-preserved : goal.loop-i-preserved
loop-i-preserved c =
    let there : c.loop-i.i < length (fields_of c.args.fields.now) = grind arith in
    let under : c.loop-i.i < length c.args.schema.now = grind arith in
    record {
      so_far = c.loop-i.invariant.so_far ∙ names_agree (fields_of c.args.fields.now) c.args.schema.now c.loop-i.i c.index-schema-i.result there under
          c.get.result c.as_bytes.result
          c.get.ensures.value (c.as_bytes.ensures.value ∙ c.name.ensures
          ∙ ap (λ (x : NamedColumn). x.name) c.index-schema-i.is) c.ne.result c.ne.ensures c.if-ne.false;
    }
