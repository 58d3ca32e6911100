use Rattle.std.proofs.Common.{List}
use Rattle.std.specs.Fn.{FnReturnsAt}
use Rattle.std.specs.Prelude.{Ok}
use Rattle.metric_values.specs.Values.{Value}
use Rattle.bag_ops.specs.Bags.{AreElements, IsSplit}
use Rattle.bag_ops.proofs.by_place.split_by.Given as goal

abbrev pub invariant-loop-i : goal.invariant-loop-i
invariant-loop-i g l = (xs : List Value) × AreElements (λ i x. g.E.Fn.post l.element (i, tt) (Ok x)) l.i xs × IsSplit (λ x b. FnReturnsAt g.P.Fn l.keep x (Ok b)) xs l.yes.items l.no.items
