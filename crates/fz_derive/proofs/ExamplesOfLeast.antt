-- Least derivations at worked examples.
use Rattle.std.proofs.Common.{refl}
use Rattle.std.specs.Fmt.{digits}
use Rattle.std.specs.Prelude.{List, [], ◌∷◌, ◌≡◌, None, Option, Some, codes, negsuc, option_map, pos}
use Rattle.fz_frac.specs.Distance.{Fin, Inf, none, one}
use Rattle.fz_frac.specs.Lowest.{gcd, gcd_in, is_out}
use Rattle.fz_ast.specs.Bare.{nowhere}
use Rattle.fz_ast.specs.Terms.{AppE, BangE, CaseE, FnE, FstE, FunE, InlE, LetBangE, LetE, LetPairE, MapE, Name, NumE, PairE, PlusE, SizeE, Term, TermForm, TimesE, VarE}
use Rattle.fz_ast.specs.Types.{ArrowT, BagT, BangT, BoolT, NumT, SumT, TensorT, TextT, Ty, UnitT, UnlimitedT, WithT}
use Rattle.term_meanings.specs.Scopes.{Closed, Context, Under}
use Rattle.fz_derive.proofs.ExampleLines.{given, given_two, line, line_two, n, number, quiet, says, term, var, x, y}
use Rattle.fz_derive.specs.Least.{least, lines_of, put, said_of_each, sorted_names}
use Rattle.derivation_lines.specs.Lines.{Line, Said}
use Rattle.derivation_rows.specs.Numbers.{nothing, named}
use Rattle.derivation_lines.specs.Written.{derivation_text, type_text}

-- its lines, or none
abbrev lines : Context → TermForm → Option (List Line)
lines Γ f = option_map lines_of (least Γ (term f))

-- names by their bytes, a shorter one before what goes on from it, each once
in_byte_order :
    (put (codes "b") (codes "a" ∷ codes "c" ∷ []) ≡ codes "a" ∷ codes "b" ∷ codes "c" ∷ [])
    × (put (codes "b") (codes "b" ∷ codes "c" ∷ []) ≡ codes "b" ∷ codes "c" ∷ [])
    × (put (codes "ab") (codes "a" ∷ codes "abc" ∷ codes "b" ∷ []) ≡ codes "a" ∷ codes "ab" ∷ codes "abc" ∷ codes "b" ∷ [])
    × (sorted_names (Under (codes "a") NumT (Under (codes "_") NumT (Under (codes "B") NumT (Under (codes "a") TextT Closed)))) ≡ codes "B" ∷ codes "_" ∷ codes "a" ∷ [])
    × (sorted_names Closed ≡ [])
in_byte_order = (refl, refl, refl, refl, refl)

-- numbers above 0, in lowest terms
what_is_said :
    (said_of_each (n ∷ x ∷ y ∷ []) (named x) ≡ Some (says x one ∷ []))
    × (said_of_each (n ∷ x ∷ []) nothing ≡ Some [])
    × (said_of_each (n ∷ x ∷ []) (λ v. Some (Fin 6 4)) ≡ Some (says n (Fin 3 2) ∷ says x (Fin 3 2) ∷ []))
    × (said_of_each (n ∷ x ∷ []) (λ v. Some (Fin 0 7)) ≡ Some [])
    × (said_of_each (n ∷ x ∷ []) (λ v. Some Inf) ≡ Some (says n Inf ∷ says x Inf ∷ []))
    × (said_of_each (n ∷ x ∷ []) (λ v. None) ≡ None)
    × (said_of_each [] (λ v. None) ≡ Some [])
unfolding gcd gcd_in
what_is_said = (refl, refl, refl, refl, refl, refl, refl)

-- a line for each node, the whole before its parts; none where a rule fails or a number is out of range
whole_derivations :
    (lines (given NumT) (PlusE (var x) (var n)) ≡ Some (line_two NumT n one x one ∷ line NumT x one ∷ line NumT n one ∷ []))
    × (lines (given NumT) (PlusE (term (TimesE (negsuc 1) (var x))) number) ≡ Some (line NumT x (Fin 2 1) ∷ line NumT x (Fin 2 1) ∷ line NumT x one ∷ quiet NumT ∷ []))
    × (lines (given NumT) (TimesE (pos 0) (var x)) ≡ Some (quiet NumT ∷ line NumT x one ∷ []))
    × (lines (given NumT) (VarE y) ≡ None)
    × (lines (given TextT) (PlusE (var x) (var n)) ≡ None)
    × (lines (given NumT) (TimesE (pos 4294967295) (term (TimesE (pos 2) (var x)))) ≡ None)
    × (lines (given NumT) (TimesE (pos 4294967296) number) ≡ None)
unfolding is_out gcd gcd_in
whole_derivations = (refl, refl, refl, refl, refl, refl, refl)

-- under bound names
bound_names :
    (lines (given NumT) (LetE x (term (TimesE (pos 2) (var x))) (term (TimesE (pos 3) (var x)))) ≡ Some (line NumT x (Fin 6 1) ∷ line NumT x (Fin 2 1) ∷ line NumT x one ∷ line NumT x (Fin 3 1) ∷ line NumT x one ∷ []))
    × (lines (given (BangT (Fin 4 1) NumT)) (LetBangE y (var x) (term (TimesE (pos 2) (var y)))) ≡ Some (line NumT x (Fin 1 2) ∷ line (BangT (Fin 4 1) NumT) x one ∷ line NumT y (Fin 2 1) ∷ line NumT y one ∷ []))
    × (lines (given (SumT NumT UnitT)) (CaseE (var x) x number y number) ≡ Some (line NumT x one ∷ line (SumT NumT UnitT) x one ∷ quiet NumT ∷ quiet NumT ∷ []))
    × (lines (given NumT) (FunE y nowhere TextT (var x)) ≡ Some (line (ArrowT TextT NumT) x one ∷ line NumT x one ∷ []))
    × (lines (given NumT) (FunE y nowhere NumT (term (TimesE (pos 2) (var y)))) ≡ None)
unfolding is_out gcd gcd_in
bound_names = (refl, refl, refl, refl, refl)

-- how types and numbers are written
as_text :
    (type_text (SumT UnitT UnitT) ≡ codes "(unit + unit)")
    × (type_text (BagT (TensorT NumT (TensorT TextT NumT))) ≡ codes "bag (num * (text * num))")
    × (type_text (WithT (BangT (Fin 3 2) NumT) (BagT UnitT)) ≡ codes "(![3/2] num & bag unit)")
    × (type_text (UnlimitedT NumT (ArrowT (BangT (Fin 2 1) TextT) NumT)) ≡ codes "(![inf] num -o (![2] text -o num))")
    × (type_text (BangT Inf (BangT (Fin 1 1) (ArrowT NumT NumT))) ≡ codes "![inf] ![1] (num -o num)")
    × (derivation_text [] ≡ [])
    × (derivation_text (quiet NumT ∷ (record { ty = BagT TextT; says = says n (Fin 7 2) ∷ says x Inf ∷ says y (Fin 12 1) ∷ [] }) ∷ []) ≡ codes "num\nbag text | n 7/2 | x inf | y 12\n")
unfolding digits
as_text = (refl, refl, refl, refl, refl, refl, refl)
