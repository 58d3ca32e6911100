use Rattle.std.proofs.Common.{length, ap, ◌∙◌, sym, arith, ◌≡◌, get_or, take, drop, ◌-◌, []}
use Rattle.metric_values.specs.Cells.{text_start}
use Rattle.metric_values.proofs.TextPlaces.{end_read, rise_at, seen_text, text_is}
use Rattle.metric_values.proofs.texts.Texts.text.Goals as goal

pub start-requires : goal.start-requires
start-requires c = omega (arith, seen_text c.self.inside.bytes.items c.self.inside.ends.items c.args.self.now c.self.view_is c.args.i c.requires, c.deref-2.ensures.len, c.self.inside.ends.ok.0)

pub index-requires : goal.index-requires
index-requires c = omega (arith, seen_text c.self.inside.bytes.items c.self.inside.ends.items c.args.self.now c.self.view_is c.args.i c.requires, c.self.inside.ends.ok.0)

pub slice_bounds-result-count : goal.slice_bounds-result-count
slice_bounds-result-count c =
    let there = seen_text c.self.inside.bytes.items c.self.inside.ends.items c.args.self.now c.self.view_is c.args.i c.requires in
    let begins = c.start.ensures ∙ ap (λ xs. text_start 0 xs c.args.i) c.deref-2.ensures.value in
    let ends = end_read c.self.inside.ends.items c.args.i c.index.result.now c.index.ensures there in
    omega (arith, begins, ends, rise_at 0 (length c.self.inside.bytes.items) c.self.inside.ends.items c.args.i c.self.invariant there)

pub slice_bounds-result-start : goal.slice_bounds-result-start
slice_bounds-result-start c =
    let there = seen_text c.self.inside.bytes.items c.self.inside.ends.items c.args.self.now c.self.view_is c.args.i c.requires in
    let begins = c.start.ensures ∙ ap (λ xs. text_start 0 xs c.args.i) c.deref-2.ensures.value in
    let ends = end_read c.self.inside.ends.items c.args.i c.index.result.now c.index.ensures there in
    omega (arith, begins, ends, ap length c.deref.ensures.value, rise_at 0 (length c.self.inside.bytes.items) c.self.inside.ends.items c.args.i c.self.invariant there)

pub slice_bounds-result-end : goal.slice_bounds-result-end
slice_bounds-result-end c =
    let there = seen_text c.self.inside.bytes.items c.self.inside.ends.items c.args.self.now c.self.view_is c.args.i c.requires in
    let begins = c.start.ensures ∙ ap (λ xs. text_start 0 xs c.args.i) c.deref-2.ensures.value in
    let ends = end_read c.self.inside.ends.items c.args.i c.index.result.now c.index.ensures there in
    omega (arith, begins, ends, ap length c.deref.ensures.value, rise_at 0 (length c.self.inside.bytes.items) c.self.inside.ends.items c.args.i c.self.invariant there)

pub returns : goal.returns
returns c =
    let bytes = c.self.inside.bytes.items in
    let places = c.self.inside.ends.items in
    let there = seen_text bytes places c.args.self.now c.self.view_is c.args.i c.requires in
    let begins : c.start.result ≡ text_start 0 places c.args.i = c.start.ensures ∙ ap (λ xs. text_start 0 xs c.args.i) c.deref-2.ensures.value in
    let ends : c.index.result.now ≡ get_or places c.args.i 0 = end_read places c.args.i c.index.result.now c.index.ensures there in
    let moved : take (c.index.result.now - c.start.result) (drop c.start.result c.deref.result.now) ≡ take (get_or places c.args.i 0 - text_start 0 places c.args.i) (drop (text_start 0 places c.args.i) bytes) = λ j. take (ends j - begins j) (drop (begins j) (c.deref.ensures.value j)) in
    moved ∙ sym (text_is 0 bytes places c.args.i there) ∙ ap (λ xs. get_or xs c.args.i []) c.self.view_is
