use Rattle.std.proofs.Common.{◌≡◌, ◌≤◌, ◌+◌, ◌*◌, ◌++◌, ◌∷◌, take, map}
use Rattle.std.specs.List.{flat_map, AllByRecursion}
use Rattle.wire_lines.specs.Lines.{space}
use Rattle.wire_lines.specs.Reply.{HasSize, datum_text, datum_of}
use Rattle.wire_lines.proofs.reply.put_line.Given as goal

abbrev pub invariant-loop-field : goal.invariant-loop-field
invariant-loop-field l = record {
  room : l.at ≤ 6 + 33 * l.field-index;
  sized : AllByRecursion HasSize (map datum_of (take l.field-index l.fields));
  text : take l.at l.out ≡ l.kind ++ flat_map (λ word. space ∷ datum_text word) (map datum_of (take l.field-index l.fields));
}
