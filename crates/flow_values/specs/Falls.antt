-- Nothing that a form holds is as deep as what it stands for.
use Rattle.std.specs.Prelude.{◌+◌, ◌≤◌, max, List, [], ◌∷◌}
use Rattle.std.proofs.Common.{arith}
use denote.Param.Weighed.{most}
use Rattle.flow_values.specs.Views.{form_view, strands_deep}
use Rattle.flow_values.specs.declared.value.Form.{Form}
use Rattle.flow_values.specs.declared.value.Form.TheVariants.{Num, Text, Unit as One, Truth, Pair, Inl, Inr, Bang, Row, Cell, Bag, Fun}
use Rattle.flow_values.specs.declared.value.Chain.TheDeep.{deep-Form, deep-Strand}
use Rattle.flow_values.specs.declared.value.Strand.{Strand}

pub strands_fall : (ss : List Strand) → most deep-Strand ss ≤ strands_deep ss + 1
strands_fall [] = omega arith
strands_fall (s ∷ ss) = omega (arith, strands_fall ss)

pub form_falls : (f : Form) → max (deep-Form f) 0 ≤ (form_view f).deep
form_falls (Num z) = omega arith
form_falls (Text s) = omega arith
form_falls One = omega arith
form_falls (Truth b) = omega arith
form_falls (Pair p) = omega arith
form_falls (Inl p) = omega arith
form_falls (Inr p) = omega arith
form_falls (Bang p) = omega arith
form_falls (Row k i t) = omega arith
form_falls (Cell k i t) = omega arith
form_falls (Bag p) = omega (arith, strands_fall p.value.strands.items)
form_falls (Fun p) = omega arith
