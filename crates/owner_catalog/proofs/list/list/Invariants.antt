use Rattle.std.proofs.Common.{◌≡◌, bytes_eq, drop, length, map}
use Rattle.std.specs.List.{AllByRecursion, IsDistinct}
use Rattle.serde_json.specs.View.{view}
use Rattle.owner_catalog.specs.Fault.{here, items_from, list_in, the}
use Rattle.owner_catalog.specs.Plain.{HasNoFloat}
use Rattle.owner_catalog.proofs.list.list.Given as goal

abbrev pub invariant-loop-item : goal.invariant-loop-item
invariant-loop-item g l = record {
  same : list_in l.fn.least l.fn.most (here l.fn.at l.fn.member) g.T.Named.name_of (g.T.Item.place_of l.fn.context) (g.T.Item.read_of l.fn.context)
      (the l.fn.member (view l.fn.value))
      ≡ items_from g.T.Named.name_of (g.T.Item.place_of l.fn.context) (g.T.Item.read_of l.fn.context) l.found.items (map view (drop l.item-index l.items));
  count : length l.found.items ≡ l.item-index;
  names : l.names ≡ map g.T.Named.name_of l.found.items;
  distinct : IsDistinct bytes_eq (map g.T.Named.name_of l.found.items);
  plain : AllByRecursion HasNoFloat (drop l.item-index l.items) → AllByRecursion HasNoFloat l.items;
}
