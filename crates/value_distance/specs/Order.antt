-- An order of elements by which lists are sorted. No distance depends on which one it is.
use Rattle.std.specs.Prelude.{ℕ}
use Rattle.std.specs.declared.cmp.Ordering.{Ordering}
use Rattle.std.specs.declared.cmp.Ordering.TheVariants.{Equal}
use Rattle.std.specs.Ordering.{int_cmp, nat_cmp, ordering_then}
use Rattle.std.specs.Cmp.Lexicographic.{slice_cmp}
use Rattle.metric_values.specs.Values.{Flat, NumF, TextF, UnitF, PairF, InlF, InrF, BangF}

-- the place of an element's form among the forms
abbrev pub form_place : Flat → ℕ
form_place (NumF z) = 0
form_place (TextF s) = 1
form_place UnitF = 2
form_place (InlF a) = 3
form_place (InrF a) = 4
form_place (BangF a) = 5
form_place (PairF a b) = 6

-- by the form's place
abbrev pub form_cmp : Flat → Flat → Ordering
form_cmp x y = nat_cmp (form_place x) (form_place y)

-- numbers by size, texts by their bytes, pairs by the first half and then the second; nothing between two forms
abbrev pub inside_cmp : Flat → Flat → Ordering
inside_cmp (NumF y) (NumF z) = int_cmp y z
inside_cmp (TextF s) (TextF t) = slice_cmp nat_cmp s t
inside_cmp (PairF a b) (PairF c d) = ordering_then (ordering_then (form_cmp a c) (inside_cmp a c)) (ordering_then (form_cmp b d) (inside_cmp b d))
inside_cmp (InlF a) (InlF b) = ordering_then (form_cmp a b) (inside_cmp a b)
inside_cmp (InrF a) (InrF b) = ordering_then (form_cmp a b) (inside_cmp a b)
inside_cmp (BangF a) (BangF b) = ordering_then (form_cmp a b) (inside_cmp a b)
inside_cmp x y = Equal

-- by the form, and then by what is inside
abbrev pub element_cmp : Flat → Flat → Ordering
element_cmp x y = ordering_then (form_cmp x y) (inside_cmp x y)
