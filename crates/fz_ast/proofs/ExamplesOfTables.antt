-- Tables, rows, numbered nodes and types that are stored once, at worked examples.
use Rattle.std.proofs.Common.{List, [], arith, refl, ℕ, ◌++◌, ◌∷◌, ◌≡◌}
use Rattle.std.specs.Prelude.{codes, pos}
use Rattle.fz_ast.specs.Arena.{AreDistinct, Grows, IsFormOf, with_type}
use Rattle.fz_ast.specs.Bare.{nowhere}
use Rattle.fz_ast.specs.Kept.{IsPadded, kept}
use Rattle.fz_ast.specs.Rows.{row_type}
use Rattle.fz_ast.specs.Signature.{IsFresh, IsSignature, Signature, row_of, table_type}
use Rattle.fz_ast.specs.TermNodes.{IsKnown, binary, form_of, term_at, unary}
use Rattle.fz_ast.specs.Terms.{AppE, ClipE, EqE, FilterE, FstE, GreatestE, IfE, InlE, InrE, LeE, LeastE, MapE, MinusE, NumE, PairE, PlusE, SizeE, SndE, SplitE, SumE, Term, TermForm, TimesE, UnionE, WithE, at}
use Rattle.fz_ast.specs.TypeNodes.{IsKnownType, type_at, type_of}
use Rattle.fz_ast.specs.Types.{ArrowT, BagT, NumT, SumT, TensorT, TextT, Ty, UnitT, WithT}
use Rattle.fz_ast.specs.declared.row.Column.TheVariants.{Num as NumColumn, Text as TextColumn}
use Rattle.fz_ast.specs.declared.term.Binary.TheVariants.{App, AtMost, Equal, Filter, Map, Minus, Pair, Plus, Split, Union, With}
use Rattle.fz_ast.specs.declared.term.Form.{Form}
use Rattle.fz_ast.specs.declared.term.Form.TheVariants.{Binary, If, Inject, Ranged, Times, Unary}
use Rattle.fz_ast.specs.declared.term.Ranged.TheVariants.{Clip, Sum}
use Rattle.fz_ast.specs.declared.term.Side.TheVariants.{Inl, Inr}
use Rattle.fz_ast.specs.declared.term.Unary.TheVariants.{Fst, Greatest, Least, Size, Snd}
use Rattle.fz_ast.specs.declared.types.TypeForm.TheVariants.{Arrow, Bag, Sum as SumForm, Tensor, With as WithForm}

abbrev people : List ℕ
people = codes "people"

rows :
    (row_of NumT [] ≡ NumT)
    × (row_of NumT (TextT ∷ NumT ∷ []) ≡ TensorT NumT (TensorT TextT NumT))
    × (table_type (record { name = people; row = NumT }) ≡ BagT NumT)
rows = (refl, refl, refl)

columns :
    (row_type (TextColumn ∷ []) ≡ TextT)
    × (row_type (NumColumn ∷ TextColumn ∷ NumColumn ∷ []) ≡ TensorT NumT (TensorT TextT NumT))
unfolding row_type
columns = (refl, refl)

abbrev tables : Signature
tables = record { name = people; row = NumT } ∷ record { name = codes "places"; row = TextT } ∷ []

a_signature : IsSignature tables
a_signature = (omega arith, (refl, tt), refl, refl, tt, (omega arith, tt, refl, refl, tt, tt))

taken : IsFresh (codes "places") tables → ⊥
taken h = cc h.1.0

no_table_twice : IsSignature (record { name = people; row = NumT } ∷ record { name = people; row = TextT } ∷ []) → ⊥
no_table_twice h = cc h.1.0

no_bags_in_rows : IsSignature (record { name = people; row = BagT NumT } ∷ []) → ⊥
no_bags_in_rows h = cc h.2

-- what is kept of four bytes, two of them used
padded : (kept 2 (7 ∷ 8 ∷ 0 ∷ 0 ∷ []) ≡ 7 ∷ 8 ∷ []) × IsPadded 2 (7 ∷ 8 ∷ 0 ∷ 0 ∷ [])
padded = (refl, refl)

not_padded : IsPadded 2 (7 ∷ 8 ∷ 9 ∷ 0 ∷ []) → ⊥
not_padded h = cc h

-- types number 0 and 1, and what stands for another number
abbrev types : List Ty
types = NumT ∷ TextT ∷ []

type_forms :
    (type_of (type_at types) (Tensor 0 1) ≡ TensorT NumT TextT)
    × (type_of (type_at types) (WithForm 1 0) ≡ WithT TextT NumT)
    × (type_of (type_at types) (SumForm 0 1) ≡ SumT NumT TextT)
    × (type_of (type_at types) (Arrow 0 1) ≡ ArrowT NumT TextT)
    × (type_of (type_at types) (Bag 1) ≡ BagT TextT)
unfolding type_at
type_forms = (refl, refl, refl, refl, refl)

-- parts stand before
known_types : IsKnownType 2 (Tensor 0 1) × (IsKnownType 2 (Tensor 0 2) → ⊥) × (IsKnownType 2 (Tensor 2 0) → ⊥)
known_types = ((omega arith, omega arith), λ h. let l = h.1 in absurd (omega (arith, l)), λ h. let l = h.0 in absurd (omega (arith, l)))

-- a type that is there is not added again
stored : (with_type types TextT ≡ types) × (with_type types UnitT ≡ types ++ UnitT ∷ []) × Grows types (with_type types UnitT)
stored = (refl, refl, (UnitT ∷ [], refl))

stored_twice : AreDistinct (NumT ∷ TextT ∷ NumT ∷ []) → ⊥
unfolding type_at
stored_twice h = let e = h 0 2 (omega arith) (omega arith) refl in absurd (omega (arith, e))

a_form : IsFormOf (NumT ∷ BagT NumT ∷ []) 1 (Bag 0)
unfolding type_at
a_form = record { known = omega arith; is = refl }

-- terms 7 and 8 are parts 0 and 1
abbrev seven : Term
seven = at nowhere (NumE (pos 7))

abbrev eight : Term
eight = at nowhere (NumE (pos 8))

abbrev terms : List Term
terms = seven ∷ eight ∷ []

abbrev form : Form → TermForm
form f = form_of (type_at types) (term_at terms) f

words_with_one_part :
    (unary Fst seven ≡ FstE seven) × (unary Snd seven ≡ SndE seven) × (unary Least seven ≡ LeastE seven) × (unary Greatest seven ≡ GreatestE seven) × (unary Size seven ≡ SizeE seven)
words_with_one_part = (refl, refl, refl, refl, refl)

words_with_two_parts :
    (binary Pair seven eight ≡ PairE seven eight) × (binary With seven eight ≡ WithE seven eight) × (binary App seven eight ≡ AppE seven eight)
    × (binary Plus seven eight ≡ PlusE seven eight) × (binary Minus seven eight ≡ MinusE seven eight) × (binary AtMost seven eight ≡ LeE seven eight) × (binary Equal seven eight ≡ EqE seven eight)
    × (binary Union seven eight ≡ UnionE seven eight) × (binary Map seven eight ≡ MapE seven eight) × (binary Filter seven eight ≡ FilterE seven eight) × (binary Split seven eight ≡ SplitE seven eight)
words_with_two_parts = (refl, refl, refl, refl, refl, refl, refl, refl, refl, refl, refl)

term_forms :
    (form (Unary Snd 1) ≡ SndE eight)
    × (form (Binary Minus 1 0) ≡ MinusE eight seven)
    × (form (Times (pos 3) 1) ≡ TimesE (pos 3) eight)
    × (form (Ranged Sum (pos 2) (pos 5) 1) ≡ SumE (pos 2) (pos 5) eight)
    × (form (Ranged Clip (pos 2) (pos 5) 1) ≡ ClipE (pos 2) (pos 5) eight)
    × (form (Inject Inl nowhere 1 0) ≡ InlE nowhere TextT seven)
    × (form (Inject Inr nowhere 1 0) ≡ InrE nowhere TextT seven)
    × (form (If 0 1 0) ≡ IfE seven eight seven)
unfolding type_at term_at
term_forms = (refl, refl, refl, refl, refl, refl, refl, refl)

known_parts : IsKnown 1 2 (If 0 1 1) × (IsKnown 1 2 (If 0 1 2) → ⊥) × (IsKnown 1 2 (Inject Inl nowhere 1 0) → ⊥)
known_parts = ((omega arith, omega arith, omega arith), λ h. let l = h.2 in absurd (omega (arith, l)), λ h. let l = h.0 in absurd (omega (arith, l)))
