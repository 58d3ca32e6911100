use Rattle.std.proofs.Common.{List}
use Rattle.std.specs.Fn.{FnReturnsAt}
use Rattle.std.specs.List.{AllZip}
use Rattle.std.specs.Prelude.{Ok}
use Rattle.metric_values.specs.Values.{Value}
use Rattle.bag_ops.specs.Bags.{AreElements}
use Rattle.bag_ops.proofs.by_place.map_by.Given as goal

abbrev pub invariant-loop-i : goal.invariant-loop-i
invariant-loop-i g l = (xs : List Value) × AreElements (λ i x. g.E.Fn.post l.element (i, tt) (Ok x)) l.i xs × AllZip (λ x y. FnReturnsAt g.F.Fn l.f x (Ok y)) xs l.images.items
