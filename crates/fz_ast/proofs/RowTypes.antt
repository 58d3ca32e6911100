-- Row types column by column.
use Rattle.std.proofs.Common.{◌≡◌, ℕ, zero, suc, ◌+◌, ◌<◌, refl, arith, true, List, [], ◌∷◌, ◌++◌, length, length-append, get_or, drop, ◌∙◌}
use Rattle.fz_ast.specs.Types.{Ty, TensorT, is_flat, formed, WellFormed}
use Rattle.fz_ast.specs.TypeNodes.{type_at}
use Rattle.fz_ast.specs.Rows.{column_type, row_type}
use Rattle.fz_ast.specs.declared.row.Column.{Column}
use Rattle.fz_ast.specs.declared.row.Column.TheVariants.{Num, Text}
use Rattle.fz_ast.proofs.SameTypes.{and_true}
use Rattle.fz_ast.proofs.TypeNodes.{type_at_old, type_at_new}

pub row_one : (c : Column) → row_type (c ∷ []) ≡ column_type c
unfolding row_type
row_one c = refl

pub row_more : (c d : Column) (ds : List Column) → row_type (c ∷ (d ∷ ds)) ≡ TensorT (column_type c) (row_type (d ∷ ds))
unfolding row_type
row_more c d ds = refl

column_flat : (c : Column) → is_flat (column_type c) ≡ true
column_flat Num = refl
column_flat Text = refl

column_formed : (c : Column) → formed (column_type c) ≡ WellFormed
column_formed Num = refl
column_formed Text = refl

pub row_flat : (cs : List Column) → is_flat (row_type cs) ≡ true
unfolding row_type
row_flat [] = refl
row_flat (c ∷ []) = column_flat c
row_flat (c ∷ (d ∷ ds)) = and_true (is_flat (column_type c)) (is_flat (row_type (d ∷ ds))) (column_flat c) (row_flat (d ∷ ds))

pub row_formed : (cs : List Column) → formed (row_type cs) ≡ WellFormed
unfolding row_type
row_formed [] = refl
row_formed (c ∷ []) = column_formed c
row_formed (c ∷ (d ∷ ds)) = rw (column_formed c, row_formed (d ∷ ds)) refl

pub row_last : (cs : List Column) (i : ℕ) (c : Column) → i + 1 ≡ length cs → row_type (drop i cs) ≡ column_type (get_or cs i c)
row_last [] i c h = absurd (omega arith)
row_last (d ∷ []) zero c h = row_one d
row_last (d ∷ (e ∷ es)) zero c h = absurd (omega arith)
row_last (d ∷ ds) (suc i) c h = row_last ds i c (omega arith)

pub row_step : (cs : List Column) (i : ℕ) (c : Column) → i + 1 < length cs → row_type (drop i cs) ≡ TensorT (column_type (get_or cs i c)) (row_type (drop (i + 1) cs))
row_step [] i c h = absurd (omega arith)
row_step (d ∷ []) zero c h = absurd (omega arith)
row_step (d ∷ (e ∷ es)) zero c h = row_more d e es
row_step (d ∷ ds) (suc i) c h = let e : suc i + 1 ≡ suc (i + 1) = omega arith in rw e (row_step ds i c (omega arith))

pub last_known : (T U : List Ty) (A : Ty) (r : ℕ) → U ≡ T ++ A ∷ [] → r ≡ length T → r < length U
last_known T U A r e f = let h = length-append T (A ∷ []) in rw (e, f) (omega arith)

-- what the loop keeps: U the types after one or two pushes on T

pub row_begun : (cs : List Column) (T U : List Ty) (r i : ℕ) → i + 1 ≡ length cs → r ≡ length T → U ≡ T ++ column_type (get_or cs i Num) ∷ [] → type_at U r ≡ row_type (drop i cs)
row_begun cs T U r i h e f = rw (f, e, type_at_new T (column_type (get_or cs i Num)), row_last cs i Num h) refl

pub row_grown : (cs : List Column) (T U V : List Ty) (a r s i : ℕ) → i + 1 < length cs → a ≡ length T → r < length T → type_at T r ≡ row_type (drop (i + 1) cs)
    → U ≡ T ++ column_type (get_or cs i Num) ∷ [] → V ≡ U ++ TensorT (type_at U a) (type_at U r) ∷ [] → s ≡ length U → type_at V s ≡ row_type (drop i cs)
row_grown cs T U V a r s i h ea k er eu ev es =
    let A = column_type (get_or cs i Num) in
    let p : type_at U a ≡ A = rw (eu, ea) (type_at_new T A) in
    let q : type_at U r ≡ row_type (drop (i + 1) cs) = rw eu (type_at_old T (A ∷ []) r k) ∙ er in
    rw (ev, es) (type_at_new U (TensorT (type_at U a) (type_at U r)) ∙ rw (p, q, row_step cs i Num h) refl)
