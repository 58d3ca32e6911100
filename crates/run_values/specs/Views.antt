-- What the code's values stand for.
use Rattle.std.specs.Prelude.{⊤}
use Rattle.fz_ast.specs.Names.{text_of}
use Rattle.metric_values.specs.Values.{Value, NumV, TextV, UnitV, PairV, InlV, InrV, BangV, BagV, truth}
use Rattle.run_values.specs.Flats.{flats_of, AllFlat}
use Rattle.run_values.specs.declared.value.Form.{Form}
use Rattle.run_values.specs.declared.value.Form.TheVariants.{Num, Text, Unit as One, Truth, Pair, Inl, Inr, Bang, List as Items}

abbrev pub form_view : Form → Value
form_view (Num z) = NumV z
form_view (Text s) = TextV (text_of s.value)
form_view One = UnitV
form_view (Truth b) = truth b
form_view (Pair p) = PairV p.value.first p.value.second
form_view (Inl p) = InlV p.value
form_view (Inr p) = InrV p.value
form_view (Bang p) = BangV p.value
form_view (Items p) = BagV (flats_of p.value.items)

-- a bag holds neither functions nor bags
abbrev pub IsValueForm : Form → Type 0
IsValueForm (Items p) = AllFlat p.value.items
IsValueForm form = ⊤
