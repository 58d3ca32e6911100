-- Programs and their lines at worked examples.
use Rattle.std.proofs.Common.{refl}
use Rattle.std.specs.Fmt.{digits}
use Rattle.std.specs.Prelude.{List, [], ◌∷◌, ◌≡◌, None, Some, codes, pos}
use Rattle.fz_frac.specs.Distance.{Fin, Inf, none, one}
use Rattle.fz_frac.specs.Lowest.{gcd, gcd_in, is_out}
use Rattle.fz_ast.specs.Bare.{nowhere}
use Rattle.fz_ast.specs.Signature.{Signature, TableType}
use Rattle.fz_ast.specs.Terms.{CaseE, InlE, LetE, Name, PlusE, SizeE, Term, VarE}
use Rattle.fz_ast.specs.Types.{BagT, NumT, SumT, TensorT, TextT, Ty, UnitT}
use Rattle.fz_derive.proofs.ExampleLines.{line, line_two, number, quiet, says, term, var, x, y}
use Rattle.fz_derive.specs.Judged.{fault_of, greatest_said, names_of}
use Rattle.fz_derive.specs.Least.{least, lines_of}
use Rattle.derivation_lines.specs.Lines.{Line, line_at}
use Rattle.derivation_lines.specs.Written.{derivation_text}

abbrev pub people : Name
people = codes "people"

abbrev pub orders : Name
orders = codes "orders"

abbrev table : Name → Ty → TableType
table v A = record { name = v; row = A }

-- a table of numbers
abbrev pub one_table : Signature
one_table = table people NumT ∷ []

-- and one of a number and a text after it
abbrev two_tables : Signature
two_tables = table people NumT ∷ table orders (TensorT NumT TextT) ∷ []

-- size people
abbrev pub size_of_people : Term
size_of_people = term (SizeE (var people))

abbrev pub bag_line : Line
bag_line = line (BagT NumT) people one

-- the two lines of `size people`: whole, with more at first, with nothing at first, and the first one at inf
size_people :
    (derivation_text (line NumT people one ∷ bag_line ∷ []) ≡ codes "num | people 1\nbag num | people 1\n")
    × (fault_of one_table size_of_people (line NumT people one ∷ bag_line ∷ []) ≡ None)
    × (greatest_said (line NumT people one).says ≡ Fin 1 1)
    × (fault_of one_table size_of_people (line NumT people (Fin 2 1) ∷ bag_line ∷ []) ≡ None)
    × (greatest_said (line NumT people (Fin 2 1)).says ≡ Fin 2 1)
    × (fault_of one_table size_of_people (quiet NumT ∷ bag_line ∷ []) ≡ Some 0)
    × (fault_of one_table size_of_people (line NumT people one ∷ quiet (BagT NumT) ∷ []) ≡ Some 1)
    × (fault_of one_table size_of_people (line NumT people Inf ∷ bag_line ∷ []) ≡ Some 0)
    × (fault_of one_table size_of_people (line NumT people (Fin 4294967295 1) ∷ line (BagT NumT) people Inf ∷ []) ≡ Some 0)
    × (fault_of one_table size_of_people (line_two NumT orders one people one ∷ bag_line ∷ []) ≡ Some 0)
unfolding digits line_at is_out gcd gcd_in
size_people = (refl, refl, refl, refl, refl, refl, refl, refl, refl, refl)

-- a program is a number, though its line be right
no_number :
    (fault_of one_table (var people) (bag_line ∷ []) ≡ Some 0)
    × (fault_of one_table number (quiet NumT ∷ []) ≡ None)
    × (greatest_said (quiet NumT).says ≡ none)
    × (fault_of [] number (line NumT people one ∷ []) ≡ Some 0)
unfolding line_at is_out gcd gcd_in
no_number = (refl, refl, refl, refl)

-- the greatest of two tables' numbers, whichever stands first
greatest_of_two :
    (fault_of two_tables (term (PlusE size_of_people (term (SizeE (var orders)))))
    (line_two NumT orders (Fin 3 1) people one ∷ line NumT people one ∷ bag_line ∷ line NumT orders (Fin 3 1) ∷ line (BagT (TensorT NumT TextT)) orders (Fin 3 2) ∷ []) ≡ None)
    × (greatest_said (line_two NumT orders (Fin 3 1) people one).says ≡ Fin 3 1)
    × (greatest_said (line_two NumT orders (Fin 3 2) people (Fin 8 5)).says ≡ Fin 8 5)
    × (fault_of two_tables (term (PlusE size_of_people (term (SizeE (var orders)))))
    (line_two NumT orders (Fin 3 1) people Inf ∷ line NumT people one ∷ bag_line ∷ line NumT orders one ∷ line (BagT (TensorT NumT TextT)) orders one ∷ []) ≡ Some 0)
unfolding line_at is_out gcd gcd_in
greatest_of_two = (refl, refl, refl, refl)

-- case inl[unit] (size people) of inl x => 5 | inr y => 7
abbrev unused : Term
unused = term (CaseE (term (InlE nowhere UnitT size_of_people)) x number y number)

-- its lines behind the first two, the left branch's being this one
abbrev others : Line → List Line
others left = line (SumT NumT UnitT) people one ∷ line NumT people one ∷ bag_line ∷ left ∷ quiet NumT ∷ []

-- a case whose names are unused is as sensitive as what it tells apart; a branch that says a little of its name lowers the whole
unused_names :
    (fault_of one_table unused (line NumT people one ∷ others (quiet NumT)) ≡ None)
    × (fault_of one_table unused (quiet NumT ∷ others (quiet NumT)) ≡ Some 0)
    × (fault_of one_table unused (line NumT people (Fin 1 2) ∷ others (quiet NumT)) ≡ Some 0)
    × (fault_of one_table unused (line NumT people (Fin 1 2) ∷ others (line NumT x (Fin 1 2))) ≡ None)
    × (fault_of one_table unused (line NumT people one ∷ others (line NumT y (Fin 1 2))) ≡ Some 4)
    × (fault_of one_table unused (line NumT people (Fin 1 3) ∷ others (line NumT x (Fin 1 2))) ≡ Some 0)
unfolding line_at is_out gcd gcd_in
unused_names = (refl, refl, refl, refl, refl, refl)

-- let people = size people in people: the inner name hides the table
hidden_table :
    (fault_of one_table (term (LetE people size_of_people (var people))) (line NumT people (Fin 3 1) ∷ line NumT people one ∷ bag_line ∷ line NumT people (Fin 3 1) ∷ []) ≡ None)
    × (fault_of one_table (term (LetE people size_of_people (var people))) (line NumT people (Fin 2 1) ∷ line NumT people one ∷ bag_line ∷ line NumT people (Fin 3 1) ∷ []) ≡ Some 0)
    × (fault_of one_table (term (LetE people size_of_people (var people))) (line NumT people one ∷ line NumT people one ∷ bag_line ∷ line (BagT NumT) people one ∷ []) ≡ Some 0)
unfolding line_at is_out gcd gcd_in
hidden_table = (refl, refl, refl)
