-- Terms at worked examples: how deep each form is, its limits at their borders, and what blanks leave.
use Rattle.std.proofs.Common.{List, arith, refl, ℕ, ◌≡◌}
use Rattle.std.specs.Prelude.{codes, negsuc, pos}
use Rattle.fz_ast.specs.Bare.{nowhere}
use Rattle.fz_ast.specs.Depth.{depth}
use Rattle.fz_ast.specs.Limits.{IsBang, IsName, IsNumber, IsText}
use Rattle.fz_ast.specs.Terms.{AppE, BangE, CaseE, ClipE, EqE, FalseE, FilterE, FnE, FstE, FunE, GreatestE, IfE, InlE, InrE, LeE, LeastE, LetBangE, LetE, LetPairE, MapE, MinusE, NumE, PairE, PlusE, SizeE, SndE, SplitE, SumE, Term, TermForm, TextE, TimesE, TrueE, UnionE, UnitE, VarE, WithE, at, span_of}
use Rattle.fz_ast.specs.Types.{BagT, NumT, Ty, UnitT}
use Rattle.fz_ast.specs.declared.span.Span.{Span}
use Rattle.fz_frac.specs.Distance.{Fin, Inf}
use Rattle.fz_frac.specs.Lowest.{gcd, gcd_in}

abbrev x : List ℕ
x = codes "x"

abbrev it : TermForm → Term
it f = at nowhere f

-- terms 1, 2 and 3 deep, and a type 5 deep
abbrev leaf : Term
leaf = it (VarE x)

abbrev two : Term
two = it (FstE leaf)

abbrev three : Term
three = it (SndE two)

abbrev five : Ty
five = BagT (BagT (BagT (BagT NumT)))

leaves : (depth leaf ≡ 1) × (depth (it (NumE (negsuc 6))) ≡ 1) × (depth (it (TextE x)) ≡ 1) × (depth (it UnitE) ≡ 1)
leaves = (refl, refl, refl, refl)

one_part :
    (depth two ≡ 2) × (depth three ≡ 3)
    × (depth (it (BangE (Fin 1 2) three)) ≡ 4)
    × (depth (it (TimesE (pos 2) three)) ≡ 4)
    × (depth (it (ClipE (pos 0) (pos 9) three)) ≡ 4)
    × (depth (it (SumE (pos 0) (pos 9) three)) ≡ 4)
    × (depth (it (LeastE three)) ≡ 4) × (depth (it (GreatestE three)) ≡ 4) × (depth (it (SizeE three)) ≡ 4)
one_part = (refl, refl, refl, refl, refl, refl, refl, refl, refl)

-- the deeper of both parts, on either side
abbrev EitherSide : (Term → Term → TermForm) → Type 0
EitherSide f = (depth (it (f three leaf)) ≡ 4) × (depth (it (f leaf three)) ≡ 4)

two_parts :
    EitherSide PairE × EitherSide WithE × EitherSide (λ e b. LetPairE x x e b) × EitherSide AppE × EitherSide (λ e b. LetBangE x e b) × EitherSide (λ e b. LetE x e b)
    × EitherSide PlusE × EitherSide MinusE × EitherSide LeE × EitherSide EqE × EitherSide UnionE × EitherSide MapE × EitherSide FilterE × EitherSide SplitE
two_parts = ((refl, refl), (refl, refl), (refl, refl), (refl, refl), (refl, refl), (refl, refl), (refl, refl), (refl, refl), (refl, refl), (refl, refl), (refl, refl), (refl, refl), (refl, refl), (refl, refl))

three_parts :
    (depth (it (CaseE three x leaf x two)) ≡ 4) × (depth (it (CaseE leaf x three x two)) ≡ 4) × (depth (it (CaseE leaf x two x three)) ≡ 4)
    × (depth (it (IfE three leaf two)) ≡ 4) × (depth (it (IfE leaf three two)) ≡ 4) × (depth (it (IfE leaf two three)) ≡ 4)
three_parts = (refl, refl, refl, refl, refl, refl)

-- a written type is part of the tree
typed :
    (depth (it (InlE nowhere five leaf)) ≡ 6) × (depth (it (InlE nowhere NumT three)) ≡ 4)
    × (depth (it (InrE nowhere five leaf)) ≡ 6) × (depth (it (InrE nowhere NumT three)) ≡ 4)
    × (depth (it (FunE x nowhere five leaf)) ≡ 6) × (depth (it (FunE x nowhere NumT three)) ≡ 4)
    × (depth (it (FnE x nowhere five leaf)) ≡ 6) × (depth (it (FnE x nowhere NumT three)) ≡ 4)
typed = (refl, refl, refl, refl, refl, refl, refl, refl)

-- true is inl[unit] (), false is inr[unit] (), of one span
abbrev token : Span
token = record { from = 3; to = 7 }

bools :
    (TrueE token ≡ at token (InlE token UnitT (at token UnitE)))
    × (FalseE token ≡ at token (InrE token UnitT (at token UnitE)))
    × (depth (TrueE token) ≡ 2)
    × (span_of (TrueE token) ≡ token)
bools = (refl, refl, refl, refl)

-- numbers are within 2^50 on both sides
numbers : IsNumber (pos 1125899906842624) × IsNumber (negsuc 1125899906842623)
numbers = ((omega arith, omega arith), (omega arith, omega arith))

too_large : IsNumber (pos 1125899906842625) → ⊥
too_large h = let l = h.1 in absurd (omega (arith, l))

too_small : IsNumber (negsuc 1125899906842624) → ⊥
too_small h = let l = h.0 in absurd (omega (arith, l))

longest_name : IsName (codes "abcdefghijklmnopqrstuvwxyzabcdef")
longest_name = omega arith

name_too_long : IsName (codes "abcdefghijklmnopqrstuvwxyzabcdefg") → ⊥
name_too_long h = absurd (omega (arith, h))

longest_text : IsText (codes "abcdefghijklmnopqrstuvwxyzabcdefabcdefghijklmnopqrstuvwxyzabcdef")
longest_text = omega arith

text_too_long : IsText (codes "abcdefghijklmnopqrstuvwxyzabcdefabcdefghijklmnopqrstuvwxyzabcdefg") → ⊥
text_too_long h = absurd (omega (arith, h))

-- bang numbers are above 0, in lowest terms, their numerators and denominators of 32 bits
bangs : IsBang (Fin 1 2) × IsBang (Fin 1 1) × IsBang (Fin 4294967295 1) × IsBang Inf
unfolding gcd gcd_in
bangs = ((omega arith, omega arith, omega arith, omega arith, refl), (omega arith, omega arith, omega arith, omega arith, refl), (omega arith, omega arith, omega arith, omega arith, refl), tt)

bang_at_none : IsBang (Fin 0 1) → ⊥
bang_at_none h = let l = h.0 in absurd (omega (arith, l))

bang_too_wide : IsBang (Fin 4294967296 1) → ⊥
bang_too_wide h = let l = h.1 in absurd (omega (arith, l))

bang_over_none : IsBang (Fin 1 0) → ⊥
bang_over_none h = let l = h.2 in absurd (omega (arith, l))

bang_too_fine : IsBang (Fin 1 4294967296) → ⊥
bang_too_fine h = let l = h.3 in absurd (omega (arith, l))

bang_not_lowest : IsBang (Fin 2 4) → ⊥
unfolding gcd gcd_in
bang_not_lowest h = cc h.4
