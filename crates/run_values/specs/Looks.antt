-- What the code's looks and parts of elements stand for.
use Rattle.metric_values.specs.Values.{BangF, Flat, InlF, InrF, NumF, PairF, TextF, UnitF}
use Rattle.run_values.specs.Flats.{flat_of}
use Rattle.run_values.specs.declared.look.Look.{Look}
use Rattle.run_values.specs.declared.look.Look.TheVariants.{Num, Text, Unit as One, Pair, Inl, Inr, Bang}
use Rattle.run_values.specs.declared.look.Part.{Part}
use Rattle.run_values.specs.declared.look.Part.TheVariants.{Whole, Unit as Nothing}

abbrev pub part_of : Part → Flat
part_of (Whole v) = flat_of v.now
part_of Nothing = UnitF

abbrev pub look_of : Look → Flat
look_of (Num z) = NumF z
look_of (Text s) = TextF s.now
look_of One = UnitF
look_of (Pair a b) = PairF (part_of a) (part_of b)
look_of (Inl a) = InlF (part_of a)
look_of (Inr a) = InrF (part_of a)
look_of (Bang a) = BangF (part_of a)
