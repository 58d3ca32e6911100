-- Programs over one table, with what the rules and the meaning answer for them.
use Rattle.std.specs.Prelude.{List, [], codes, neg_ℤ, pos, ℕ, ℤ, ◌∷◌, ◌≡◌}
use Rattle.fz_frac.specs.Distance.{Distance, Fin, mul, one, quotient, ◌≈◌, ◌⊑◌}
use Rattle.fz_ast.specs.Bare.{nowhere}
use Rattle.fz_ast.specs.Limits.{TermLimits}
use Rattle.fz_ast.specs.Signature.{IsSignature, Signature}
use Rattle.fz_ast.specs.Terms.{Name, AppE, BangE, CaseE, FilterE, FnE, FunE, InlE, LeE, LetBangE}
use Rattle.fz_ast.specs.Terms.{LetPairE, MapE, NumE, PlusE, SizeE, SplitE, SumE, Term, VarE, at}
use Rattle.fz_ast.specs.Types.{BangT, NumT, Ty, UnitT}
use Rattle.fz_ast.specs.declared.span.Span.{Span}
use Rattle.linear_types.specs.Program.{Accepted, sensitivity_of}
use Rattle.linear_types.specs.Sensitivities.{Sensitivities}
use Rattle.linear_types.specs.Typing.{AllTypes, Context, Typing}
use Rattle.metric_values.specs.Tables.{Dataset, IsDataset, apart, rows_of}
use Rattle.metric_values.specs.Values.{Env, NumF, NumV, Value}
use Rattle.metric_law.specs.Law.{NearEnv, TypedEnv}
use Rattle.metric_law.specs.Means.{Means}

abbrev pub span : ℕ → ℕ → Span
span f t = record { from = f; to = t }

abbrev pub name_at : ℕ → ℕ → Name → Term
name_at f t x = at (span f t) (VarE x)

abbrev pub numeral_at : ℕ → ℕ → ℕ → Term
numeral_at f t k = at (span f t) (NumE (pos k))

-- the table's name
abbrev pub people_at : ℕ → ℕ → Term
people_at f t = name_at f t (codes "people")

-- one table of ages
abbrev pub worked_tables : Signature
worked_tables = record { name = codes "people"; row = NumT } ∷ []

abbrev pub three_ages : Dataset
three_ages = (NumF (pos 20) ∷ NumF (pos 30) ∷ NumF (pos 40) ∷ []) ∷ []

-- the program is accepted with sensitivity q, and its value on the dataset is z
abbrev pub Answers : Term → Distance → Dataset → ℤ → Type 0
Answers t q X z =
    ((D : Sensitivities) × (r : Distance) × (sensitivity_of worked_tables t ≡ Accepted D r) × (r ≈ q)) × Means (rows_of worked_tables X) t (NumV z)

-- what the law asks of a term, two environments and its values in them
pub record Premises (Γ : Context) (e : Term) (A : Ty) (D : Sensitivities) : Type 0 where
  pub types : AllTypes Γ
  pub typing : Typing Γ e A D
  pub left : Env
  pub right : Env
  pub distances : List Distance
  pub left_typed : TypedEnv Γ left
  pub right_typed : TypedEnv Γ right
  pub near : NearEnv Γ left right distances
  pub left_value : Value
  pub right_value : Value
  pub left_means : Means left e left_value
  pub right_means : Means right e right_value

-- what the bound on programs asks of two datasets, n apart, with values y and z
pub record Datasets (t : Term) (n : ℕ) (y z : ℤ) : Type 0 where
  pub signature : IsSignature worked_tables
  pub limits : TermLimits t
  pub accepted : (D : Sensitivities) × (r : Distance) × (sensitivity_of worked_tables t ≡ Accepted D r)
  pub left : Dataset
  pub right : Dataset
  pub left_typed : IsDataset worked_tables left
  pub right_typed : IsDataset worked_tables right
  pub are_apart : apart left right ≡ n
  pub left_means : Means (rows_of worked_tables left) t (NumV y)
  pub right_means : Means (rows_of worked_tables right) t (NumV z)

-- let !y = ![2] (size people) in y
abbrev pub bang_undone : Term
bang_undone = at (span 0 32) (LetBangE (codes "y") (at (span 9 27) (BangE (Fin 2 1) (at (span 15 26) (SizeE (people_at 20 26))))) (name_at 31 32 (codes "y")))

-- (fun (x : ![3/2] num) => let !y = x in y) (![3/2] (size people))
abbrev pub scaled_argument : Term
scaled_argument =
    at (span 0 64) (AppE
    (at (span 1 40) (FunE (codes "x") (span 10 20) (BangT (Fin 3 2) NumT)
    (at (span 25 40) (LetBangE (codes "y") (name_at 34 35 (codes "x")) (name_at 39 40 (codes "y"))))))
    (at (span 43 63) (BangE (Fin 3 2) (at (span 51 62) (SizeE (people_at 56 62))))))

-- case inl[unit] (size people) of inl x => 5 | inr y => 7
abbrev pub unused_names : Term
unused_names =
    at (span 0 55) (CaseE (at (span 5 28) (InlE (span 9 13) UnitT (at (span 16 27) (SizeE (people_at 21 27)))))
    (codes "x") (numeral_at 41 42 5) (codes "y") (numeral_at 54 55 7))

-- let (a, b) = split (fn (x : num) => x <= 30) people in size a + size b
abbrev pub split_in_halves : Term
split_in_halves =
    at (span 0 70) (LetPairE (codes "a") (codes "b")
    (at (span 13 51) (SplitE (at (span 20 43) (FnE (codes "x") (span 28 31) NumT (at (span 36 43) (LeE (name_at 36 37 (codes "x")) (numeral_at 41 43 30)))))
    (people_at 45 51)))
    (at (span 55 70) (PlusE (at (span 55 61) (SizeE (name_at 60 61 (codes "a")))) (at (span 64 70) (SizeE (name_at 69 70 (codes "b")))))))

-- size people + size people
abbrev pub counted_twice : Term
counted_twice = at (span 0 25) (PlusE (at (span 0 11) (SizeE (people_at 5 11))) (at (span 14 25) (SizeE (people_at 19 25))))

-- size (filter (fn (x : num) => x <= 30) (map (fn (y : num) => y + 1) people))
abbrev pub filtered_and_mapped : Term
filtered_and_mapped =
    at (span 0 76) (SizeE (at (span 6 75) (FilterE
    (at (span 14 37) (FnE (codes "x") (span 22 25) NumT (at (span 30 37) (LeE (name_at 30 31 (codes "x")) (numeral_at 35 37 30)))))
    (at (span 40 74) (MapE (at (span 45 66) (FnE (codes "y") (span 53 56) NumT (at (span 61 66) (PlusE (name_at 61 62 (codes "y")) (numeral_at 65 66 1)))))
    (people_at 68 74))))))

-- sum[0,100] people
abbrev pub clipped : Term
clipped = at (span 0 17) (SumE (pos 0) (pos 100) (people_at 11 17))

-- 3 suffices as the scalar of `let !x` at a bang of 1/2, where the rule's own is 2
abbrev pub LooserScalar : Type 0
LooserScalar = (quotient one (Fin 1 2) ≈ Fin 2 1) × (one ⊑ mul (Fin 3 1) (Fin 1 2))

-- size people
abbrev pub counted : Term
counted = at (span 0 11) (SizeE (people_at 5 11))

abbrev pub some_ages : Dataset
some_ages = (NumF (neg_ℤ (pos 5)) ∷ NumF (pos 40) ∷ NumF (pos 1000) ∷ []) ∷ []

-- fun (x : num) => x + n
abbrev pub adds_n : Term
adds_n = at nowhere (FunE (codes "x") nowhere NumT (at nowhere (PlusE (at nowhere (VarE (codes "x"))) (at nowhere (VarE (codes "n"))))))
