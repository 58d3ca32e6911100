-- Rows and texts of tables in their places, at worked tables.
use Rattle.std.proofs.Common.{ap, arith, refl, subst, sym, ◌∙◌}
use Rattle.std.specs.Prelude.{List, [], codes, length, pos, ◌∷◌, ◌≡◌}
use Rattle.std.specs.Rc.{rc_value}
use Rattle.metric_values.specs.Cells.{cell_at, from_column, row_at}
use Rattle.metric_values.specs.Values.{Flat, NumF, NumV, PairF, PairV, TextF, TextV, value_of}
use Rattle.run_values.specs.Parts.{text_in}
use Rattle.flow_values.specs.Views.{IsRowPart, IsTextCell, IsValueForm, form_view, text_bytes}
use Rattle.flow_values.specs.declared.value.Form.{Form}
use Rattle.flow_values.specs.declared.value.Form.TheVariants.{Cell, Row}

-- a row of three columns from the second on, and a text
abbrev rows : List Flat
rows = PairF (NumF (pos 1)) (PairF (TextF (codes "a")) (NumF (pos 2))) ∷ []

text_there : IsTextCell rows 0 1
text_there = record { row = omega arith; column = omega arith; text = refl }

number_no_text : IsTextCell rows 0 2 → ⊥
number_no_text h = absurd (cc h.text)

row_part_there : IsRowPart rows 0 1
row_part_there = record { row = omega arith; column = omega arith }

last_column_no_part : IsRowPart rows 0 2 → ⊥
last_column_no_part h = absurd (omega (arith, h.column))

past_the_rows : IsRowPart rows 1 0 → ⊥
past_the_rows h = absurd (omega (arith, h.row))

-- and in a table of two rows: a number, a town and a number

abbrev towns : List Flat
towns = PairF (NumF (pos 1)) (PairF (TextF (codes "a")) (NumF (pos 2))) ∷ PairF (NumF (pos 3)) (PairF (TextF (codes "bc")) (NumF (pos 4))) ∷ []

-- P holds of the form made of each reference to that table
abbrev OnTowns : {T : Type 0} → (T → Form) → (T → List Flat) → (Form → Type 0) → Type 0
OnTowns {T} form rows P = (t : T) → rows t ≡ towns → P (form t)

row_from_the_first : OnTowns (λ t. Row 0 0 t) rc_value (λ form. (form_view form).means ≡ PairV (NumV (pos 1)) (PairV (TextV (codes "a")) (NumV (pos 2))))
row_from_the_first t is = ap (λ rows. PairV (value_of (cell_at 0 (row_at rows 0))) (value_of (from_column 1 (row_at rows 0)))) is

-- the rest of the second row, from its second column on
row_from_the_second : OnTowns (λ t. Row 1 1 t) rc_value (λ form. (form_view form).means ≡ PairV (TextV (codes "bc")) (NumV (pos 4)))
row_from_the_second t is = ap (λ rows. PairV (value_of (cell_at 1 (row_at rows 1))) (value_of (from_column 2 (row_at rows 1)))) is

not_the_row_before : OnTowns (λ t. Row 1 1 t) rc_value (λ form. (form_view form).means ≡ PairV (TextV (codes "a")) (NumV (pos 2)) → ⊥)
not_the_row_before t is h =
    let both : PairV (TextV (codes "bc")) (NumV (pos 4)) ≡ PairV (TextV (codes "a")) (NumV (pos 2)) = sym (row_from_the_second t is) ∙ h in absurd (cc (both))

rest_of_the_first : OnTowns (λ t. Row 1 0 t) rc_value (λ form. (form_view form).means ≡ PairV (TextV (codes "a")) (NumV (pos 2)))
rest_of_the_first t is = ap (λ rows. PairV (value_of (cell_at 1 (row_at rows 0))) (value_of (from_column 2 (row_at rows 0)))) is

not_the_whole_row : OnTowns (λ t. Row 1 0 t) rc_value (λ form. (form_view form).means ≡ PairV (NumV (pos 1)) (PairV (TextV (codes "a")) (NumV (pos 2))) → ⊥)
not_the_whole_row t is h =
    let both : PairV (TextV (codes "a")) (NumV (pos 2)) ≡ PairV (NumV (pos 1)) (PairV (TextV (codes "a")) (NumV (pos 2))) = sym (rest_of_the_first t is) ∙ h in absurd (cc (both))

cell_form : OnTowns (λ t. Cell 1 1 t) rc_value (λ form. (form_view form).means ≡ TextV (codes "bc"))
cell_form t is = ap (λ rows. TextV (text_bytes (cell_at 1 (row_at rows 1)))) is

not_the_cell_above : OnTowns (λ t. Cell 1 1 t) rc_value (λ form. (form_view form).means ≡ TextV (codes "a") → ⊥)
not_the_cell_above t is h =
    let both : TextV (codes "bc") ≡ TextV (codes "a") = sym (cell_form t is) ∙ h in
    let long : 2 ≡ 1 = ap (λ v. length (text_in v)) both in absurd (omega (arith, long))

-- a row from a column on isn't its last, and a cell is a text
row_is_there : OnTowns (λ t. Row 1 1 t) rc_value (λ form. IsValueForm form)
row_is_there t is = subst (λ rows. IsRowPart rows 1 1) (sym is) (record { row = omega arith; column = omega arith })

last_column_is_no_row : OnTowns (λ t. Row 2 1 t) rc_value (λ form. IsValueForm form → ⊥)
last_column_is_no_row t is h = let there : IsRowPart towns 1 2 = subst (λ rows. IsRowPart rows 1 2) is h in absurd (omega (arith, there.column))

cell_is_there : OnTowns (λ t. Cell 1 1 t) rc_value (λ form. IsValueForm form)
cell_is_there t is = subst (λ rows. IsTextCell rows 1 1) (sym is) (record { row = omega arith; column = omega arith; text = refl })

number_is_no_cell : OnTowns (λ t. Cell 0 1 t) rc_value (λ form. IsValueForm form → ⊥)
number_is_no_cell t is h = let there : IsTextCell towns 1 0 = subst (λ rows. IsTextCell rows 1 0) is h in absurd (cc (there.text))
