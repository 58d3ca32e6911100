use Rattle.std.proofs.Common.{◌<◌, ◌-◌, ◌∙◌, length, take, drop, sym, ap, arith}
use Rattle.std.specs.Prelude.{Some}
use Rattle.script_workers.proofs.Kept.{ends_count, kept_at}
use Rattle.script_workers.proofs.texts.Texts.text.Goals as goal

pub start_of-requires : goal.start_of-requires
start_of-requires c = omega (arith, ap length c.requires.there.1.ends, ends_count 0 c.requires.there.0, c.requires.there.2)

pub index-requires : goal.index-requires
index-requires c = omega (arith, ap length c.requires.there.1.ends, ends_count 0 c.requires.there.0, c.requires.there.2, c.args.self.now.ends.ok.0)

pub slice_bounds-result-count : goal.slice_bounds-result-count
slice_bounds-result-count c =
    let at = kept_at c.args.self.now c.requires.there.0 c.args.place c.start_of.result c.index.result.now c.requires.there.1 c.requires.there.2 c.start_of.ensures c.index.ensures in at.ordered

pub slice_bounds-result-start : goal.slice_bounds-result-start
slice_bounds-result-start c =
    let at = kept_at c.args.self.now c.requires.there.0 c.args.place c.start_of.result c.index.result.now c.requires.there.1 c.requires.there.2 c.start_of.ensures c.index.ensures in
    omega (arith, at.ordered, at.within, ap length c.deref.ensures.value)

pub slice_bounds-result-end : goal.slice_bounds-result-end
slice_bounds-result-end c =
    let at = kept_at c.args.self.now c.requires.there.0 c.args.place c.start_of.result c.index.result.now c.requires.there.1 c.requires.there.2 c.start_of.ensures c.index.ensures in
    omega (arith, at.within, ap length c.deref.ensures.value)

pub returns : goal.returns
returns c = record {
  text = λ texts holds.
      let within : c.args.place < length texts = omega (arith, ap length holds.ends, ap length c.requires.there.1.ends, ends_count 0 texts, ends_count 0 c.requires.there.0, c.requires.there.2) in
      (kept_at c.args.self.now texts c.args.place c.start_of.result c.index.result.now holds within c.start_of.ensures c.index.ensures).is
      ∙ ap (λ bytes. Some (take (c.index.result.now - c.start_of.result) (drop c.start_of.result bytes))) (sym c.deref.ensures.value);
}
