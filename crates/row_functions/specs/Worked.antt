-- Functions of rows with the columns town and age, each as it is parsed.
use Rattle.std.specs.Prelude.{List, [], codes, pos, ℕ, ℤ, ◌∷◌, ◌≡◌}
use Rattle.fz_ast.specs.Terms.{EqE, FnE, FunE, IfE, LeE, LetPairE, NumE, SizeE, Term, TextE, at}
use Rattle.fz_ast.specs.Types.{NumT, TensorT, TextT, Ty, UnlimitedT}
use Rattle.linear_types.specs.Inferred.{Exactly, Fault, Mismatch, Untyped}
use Rattle.metric_law.specs.Worked.{name_at, span}
use Rattle.metric_values.specs.Values.{Flat, NumF, PairF, TextF}
use Rattle.row_functions.specs.RowFunctions.{function_rule}

abbrev pub quoted_at : ℕ → ℕ → List ℕ → Term
quoted_at f t s = at (span f t) (TextE s)

-- text * num
abbrev pub town_and_age : Ty
town_and_age = TensorT TextT NumT

abbrev pub in_town : List ℕ → ℤ → Flat
in_town town age = PairF (TextF town) (NumF age)

-- fn (r : text * num) => let (t, a) = r in if a <= 30 then "young" else "old"
abbrev pub young_or_old : Term
young_or_old =
    at (span 0 75) (FnE (codes "r") (span 8 18) town_and_age
    (at (span 23 75) (LetPairE (codes "t") (codes "a") (name_at 36 37 (codes "r"))
    (at (span 41 75) (IfE (at (span 44 51) (LeE (name_at 44 45 (codes "a")) (at (span 49 51) (NumE (pos 30)))))
    (quoted_at 57 64 (codes "young")) (quoted_at 70 75 (codes "old")))))))

-- fn (r : text * num) => size people
abbrev pub counts_people : Term
counts_people = at (span 0 34) (FnE (codes "r") (span 8 18) town_and_age (at (span 23 34) (SizeE (name_at 28 34 (codes "people")))))

-- fun (r : text * num) => let (t, a) = r in t
abbrev pub town_once : Term
town_once =
    at (span 0 43) (FunE (codes "r") (span 9 19) town_and_age
    (at (span 24 43) (LetPairE (codes "t") (codes "a") (name_at 37 38 (codes "r")) (name_at 42 43 (codes "t")))))

-- fun (t : text) => if t == t then t else t
abbrev pub text_used : Term
text_used =
    at (span 0 41) (FunE (codes "t") (span 9 13) TextT
    (at (span 18 41) (IfE (at (span 21 27) (EqE (name_at 21 22 (codes "t")) (name_at 26 27 (codes "t")))) (name_at 33 34 (codes "t")) (name_at 40 41 (codes "t")))))

-- fn (r : text * num) => 30
abbrev pub thirty : Term
thirty = at (span 0 25) (FnE (codes "r") (span 8 18) town_and_age (at (span 23 25) (NumE (pos 30))))

-- fn (t : text) => t
abbrev pub same_text : Term
same_text = at (span 0 18) (FnE (codes "t") (span 8 12) TextT (name_at 17 18 (codes "t")))

-- this is the first fault of the term as a function of people's rows
abbrev pub HasFault : Term → Fault → Type 0
HasFault t f = function_rule town_and_age t ≡ Untyped f

-- the whole term at (0, n) has this type and not the wanted one
abbrev pub HasType : Term → ℕ → Ty → Type 0
HasType t n A = HasFault t (Mismatch (span 0 n) A (Exactly (UnlimitedT town_and_age TextT)))
