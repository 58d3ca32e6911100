-- Outlines of worked terms.
use Rattle.std.proofs.Common.{◌≡◌, ◌+◌, ℕ, pos, negsuc, codes, refl}
use Rattle.fz_ast.specs.Bare.{nowhere}
use Rattle.fz_ast.specs.Terms.{ClipE, FunE, LetE, NumE, PlusE, SumE, Term, TextE, TimesE, VarE, at}
use Rattle.fz_ast.specs.Types.{NumT}
use Rattle.fz_ast.specs.declared.span.Span.{Span}
use Rattle.release_laws.specs.Outcomes.{outline_outcome, outline_shape}
use Rattle.release_laws.specs.Outline.{outline}
use Rattle.shape_law.specs.Shapes.{Also, BangS, FunS, Nothing, PairS, Wide}
use Rattle.shape_law.specs.Walk.{Shaped, Stops, TooManyWalks, TooWide, start}

abbrev span : ℕ → ℕ → Span
span from to = record { from = from; to = to }

abbrev x_at : ℕ → Term
x_at n = at (span n (n + 1)) (VarE (codes "x"))

-- the numbers of two texts, and where they stand
one_outline : outline (at (span 0 14) (LetE (codes "x") (at (span 8 9) (NumE (pos 5))) (x_at 13))) ≡ outline (at (span 0 15) (LetE (codes "x") (at (span 8 10) (NumE (negsuc 2))) (x_at 14)))
one_outline = refl

no_number : outline (at (span 3 4) (NumE (negsuc 6))) ≡ at nowhere (NumE (pos 0))
no_number = refl

sums : outline (at (span 0 5) (PlusE (x_at 0) (at (span 4 5) (NumE (pos 1))))) ≡ at nowhere (PlusE (at nowhere (VarE (codes "x"))) (at nowhere (NumE (pos 0))))
sums = refl

-- factors, bounds, texts, names and types stay
factor : outline (at (span 0 5) (TimesE (pos 3) (x_at 4))) ≡ at nowhere (TimesE (pos 3) (at nowhere (VarE (codes "x"))))
factor = refl

bounds : outline (at (span 0 9) (ClipE (negsuc 0) (pos 4) (x_at 8))) ≡ at nowhere (ClipE (negsuc 0) (pos 4) (at nowhere (VarE (codes "x"))))
bounds = refl

bounds_of_sum : outline (at (span 0 9) (SumE (pos 0) (pos 9) (x_at 8))) ≡ at nowhere (SumE (pos 0) (pos 9) (at nowhere (VarE (codes "x"))))
bounds_of_sum = refl

texts : outline (at (span 0 3) (TextE (codes "a"))) ≡ at nowhere (TextE (codes "a"))
texts = refl

other_texts : outline (at (span 0 3) (TextE (codes "b"))) ≡ at nowhere (TextE (codes "b"))
other_texts = refl

type : outline (at (span 0 20) (FunE (codes "x") (span 5 8) NumT (x_at 12))) ≡ at nowhere (FunE (codes "x") nowhere NumT (at nowhere (VarE (codes "x"))))
type = refl

-- shapes and outcomes
of_function : outline_shape (FunS (codes "x") (x_at 4) (Also (codes "y") (BangS (PairS (Wide 1 2 3) (Wide 0 0 0))) Nothing)) ≡ FunS (codes "x") (at nowhere (VarE (codes "x"))) (Also (codes "y") (BangS (PairS (Wide 1 2 3) (Wide 0 0 0))) Nothing)
of_function = refl

of_plan : outline_outcome (Shaped (Wide 1 2 3) start) ≡ Shaped (Wide 1 2 3) start
of_plan = refl

of_limit : outline_outcome (Stops (TooWide (span 3 9) 65)) ≡ Stops (TooWide nowhere 65)
of_limit = refl

of_walks : outline_outcome TooManyWalks ≡ TooManyWalks
of_walks = refl
