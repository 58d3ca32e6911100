-- What `parse` gives decides the number of a cell, but for a text that begins with a plus.
use Rattle.std.proofs.Common.{◌≡◌, ◌≢◌, ℕ, true, false, nat_eq, List, [], ◌∷◌, get_or, Some, Ok, ℤ, pos, negsuc, to_z, of_z, w64, ◌∙◌, sym, ap, arith}
use Rattle.std.specs.Prelude.{int_le, slice_get}
use Rattle.std.specs.Option.{option_eq}
use Rattle.std.specs.Str.Parse.{ParsesSigned}
use Rattle.std.proofs.lemmas.Int.{ints, to_z-of_z}
use Rattle.fz_ast.specs.Limits.{IsNumber}
use Rattle.table_store.specs.Cell.{cell_number}
use Rattle.table_store.proofs.CellLemmas.{cell_number-not_utf8, cell_number-parsed, cell_number-plus, cell_number-too_great, cell_number-unparsed}
use Rattle.table_store.proofs.cell.number.Goals as goal

-- whether a cell begins with a plus
begins_with_plus : (cell : List ℕ) → option_eq nat_eq (slice_get cell 0) (Some 43) ≡ true → get_or cell 0 0 ≡ 43
begins_with_plus [] e = cc e
begins_with_plus (byte ∷ rest) e = grind arith

begins_otherwise : (cell : List ℕ) → option_eq nat_eq (slice_get cell 0) (Some 43) ≡ false → get_or cell 0 0 ≢ 43
begins_otherwise [] e = λ h. cc h
begins_otherwise (byte ∷ rest) e = grind arith

-- a parsed number, as the code holds it
whole : (cell : List ℕ) (z : ℤ) → ParsesSigned {E = ℕ} w64 10 cell (Ok z) → to_z w64 (of_z w64 z) ≡ z
whole cell z h = to_z-of_z w64 z (rw h.1 h.0.1)

in_range : (z : ℤ) → int_le (negsuc 1125899906842623) z ≡ true → int_le z (pos 1125899906842624) ≡ true → IsNumber z
in_range z low high = (grind (arith, ints), grind (arith, ints))

above : (z : ℤ) → int_le z (pos 1125899906842624) ≡ false → ¬ (IsNumber z)
above z high = λ h. grind (arith, ints, h.1)

below : (z : ℤ) → int_le (negsuc 1125899906842623) z ≡ false → ¬ (IsNumber z)
below z low = λ h. grind (arith, ints, h.0)

pub returns-then-eq : goal.returns-then-eq
returns-then-eq c =
    sym (cell_number-plus c.args.cell.now (begins_with_plus c.args.cell.now
    (rw (c.copied.ensures, c.first.ensures.value) at (sym c.eq.ensures ∙ c.if-eq.true))))

pub returns-in_default : goal.returns-in_default
returns-in_default c = sym (cell_number-not_utf8 c.args.cell.now (rw c.in_default.is at c.from_utf8.ensures.cases).0)

pub returns-in-Ok-parse : goal.returns-in-Ok-parse
returns-in-Ok-parse c =
    let h = (rw c.in-Ok-parse.is at c.parse.ensures.value).0 in
    let z = c.in-Ok-parse.number in
    let same = (rw c.in-Ok.is at c.from_utf8.ensures.cases).0 in
    let plus = begins_otherwise c.args.cell.now (rw (c.copied.ensures, c.first.ensures.value) at (sym c.eq.ensures ∙ c.if-eq.false)) in
    let held = whole c.in-Ok.text.now z h in
    let range = in_range z (rw held at c.if-number.true) (rw held at c.if-number-le-MAX_NUMBER.true) in
    ap Some held ∙ sym (ap cell_number (sym same) ∙ cell_number-parsed c.in-Ok.text.now z (rw same plus) h range)

pub returns-in_default-parse : goal.returns-in_default-parse
returns-in_default-parse c =
    let h = (rw c.in-Ok-parse.is at c.parse.ensures.value).0 in
    let z = c.in-Ok-parse.number in
    let same = (rw c.in-Ok.is at c.from_utf8.ensures.cases).0 in
    let plus = begins_otherwise c.args.cell.now (rw (c.copied.ensures, c.first.ensures.value) at (sym c.eq.ensures ∙ c.if-eq.false)) in
    let far = above z (rw (whole c.in-Ok.text.now z h) at c.if-number-le-MAX_NUMBER.false) in
    sym (ap cell_number (sym same) ∙ cell_number-too_great c.in-Ok.text.now z (rw same plus) h far)

pub returns-in_default-parse-2 : goal.returns-in_default-parse-2
returns-in_default-parse-2 c =
    let h = (rw c.in-Ok-parse.is at c.parse.ensures.value).0 in
    let z = c.in-Ok-parse.number in
    let same = (rw c.in-Ok.is at c.from_utf8.ensures.cases).0 in
    let plus = begins_otherwise c.args.cell.now (rw (c.copied.ensures, c.first.ensures.value) at (sym c.eq.ensures ∙ c.if-eq.false)) in
    let far = below z (rw (whole c.in-Ok.text.now z h) at c.if-number.false) in
    sym (ap cell_number (sym same) ∙ cell_number-too_great c.in-Ok.text.now z (rw same plus) h far)

pub returns-in_default-parse-3 : goal.returns-in_default-parse-3
returns-in_default-parse-3 c =
    let h = (rw c.in_default-parse.is at c.parse.ensures.value).0 in
    let same = (rw c.in-Ok.is at c.from_utf8.ensures.cases).0 in
    let plus = begins_otherwise c.args.cell.now (rw (c.copied.ensures, c.first.ensures.value) at (sym c.eq.ensures ∙ c.if-eq.false)) in
    sym (ap cell_number (sym same) ∙ cell_number-unparsed c.in-Ok.text.now (rw same plus) h)
