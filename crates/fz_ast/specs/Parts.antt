-- What contracts see of numbered nodes: the types written in the terms, and the terms, each in order.
use Rattle.std.specs.Prelude.{List}
use Rattle.fz_ast.specs.Types.{Ty}
use Rattle.fz_ast.specs.Terms.{Term}

pub record Parts : Type 0 where
  pub types : List Ty
  pub terms : List Term
