-- Trees as trees of numbers, from which they are read back: what proofs tell trees apart by.
use Rattle.std.specs.Prelude.{◌≡◌, ℕ, ℤ, pos, negsuc, List, [], ◌∷◌, refl}
use Rattle.std.specs.Coded.{Coded, code_by, coded_list, coded×, coded_ℕ}
use Rattle.std.proofs.Common.{get_or}
use denote.Struct.Codes.{itself}
use base.Stored.{Gv, gnil, gnum, gcons}
use Rattle.fz_frac.specs.Distance.{Distance, Fin, Inf}
use Rattle.fz_ast.specs.declared.span.Span.{Span}
use Rattle.fz_ast.specs.Types.{Ty, NumT, TextT, UnitT, TensorT, WithT, SumT, ArrowT, BangT, BagT}
use Rattle.fz_ast.specs.Terms.{Name, Term, at, VarE, NumE, TextE, UnitE, PairE, WithE, FstE, SndE, LetPairE}
use Rattle.fz_ast.specs.Terms.{InlE, InrE, CaseE, IfE, FunE, FnE, AppE, BangE, LetBangE, LetE, PlusE, MinusE}
use Rattle.fz_ast.specs.Terms.{TimesE, LeE, EqE, ClipE, LeastE, GreatestE, SizeE, SumE, UnionE, MapE, FilterE, SplitE}
use Rattle.fz_ast.specs.Parts.{Parts}
use Rattle.fz_ast.specs.Signature.{Signature}

abbrev pub number_from : Gv → ℕ
number_from (gnum n) = n
number_from g = 0

abbrev pub bytes_to : List ℕ → Gv
bytes_to [] = gnil
bytes_to (x ∷ xs) = gcons (gnum x) (bytes_to xs)

abbrev pub bytes_from : Gv → List ℕ
bytes_from (gcons x g) = number_from x ∷ bytes_from g
bytes_from g = []

pub bytes_back : (xs : List ℕ) → bytes_from (bytes_to xs) ≡ xs
bytes_back [] = refl
bytes_back (x ∷ xs) = λ i. x ∷ bytes_back xs i

abbrev pub int_to : ℤ → Gv
int_to (pos n) = gnum n
int_to (negsuc n) = gcons (gnum n) gnil

abbrev pub int_from : Gv → ℤ
int_from (gcons n g) = negsuc (number_from n)
int_from g = pos (number_from g)

pub int_back : (z : ℤ) → int_from (int_to z) ≡ z
int_back (pos n) = refl
int_back (negsuc n) = refl

abbrev pub distance_to : Distance → Gv
distance_to (Fin p q) = gcons (gnum p) (gnum q)
distance_to Inf = gnil

abbrev pub distance_from : Gv → Distance
distance_from (gcons p q) = Fin (number_from p) (number_from q)
distance_from g = Inf

pub distance_back : (r : Distance) → distance_from (distance_to r) ≡ r
distance_back (Fin p q) = refl
distance_back Inf = refl

abbrev pub span_to : Span → Gv
span_to s = gcons (gnum s.from) (gnum s.to)

abbrev pub span_from : Gv → Span
span_from (gcons a b) = record { from = number_from a; to = number_from b }
span_from g = record { from = 0; to = 0 }

pub span_back : (s : Span) → span_from (span_to s) ≡ s
span_back s = refl

abbrev pub type_to : Ty → Gv
type_to NumT = gcons (gnum 0) (gcons gnil (gnil))
type_to TextT = gcons (gnum 1) (gcons gnil (gnil))
type_to UnitT = gcons (gnum 2) (gcons gnil (gnil))
type_to (TensorT a b) = gcons (gnum 3) (gcons (type_to a) (type_to b))
type_to (WithT a b) = gcons (gnum 4) (gcons (type_to a) (type_to b))
type_to (SumT a b) = gcons (gnum 5) (gcons (type_to a) (type_to b))
type_to (ArrowT a b) = gcons (gnum 6) (gcons (type_to a) (type_to b))
type_to (BangT a b) = gcons (gnum 7) (gcons (distance_to a) (type_to b))
type_to (BagT a) = gcons (gnum 8) (gcons (type_to a) (gnil))

abbrev pub type_from : Gv → Ty
type_from (gcons (gnum k) (gcons a b)) =
    get_or (
    NumT ∷
    TextT ∷
    UnitT ∷
    TensorT (type_from a) (type_from b) ∷
    WithT (type_from a) (type_from b) ∷
    SumT (type_from a) (type_from b) ∷
    ArrowT (type_from a) (type_from b) ∷
    BangT (distance_from a) (type_from b) ∷
    BagT (type_from a) ∷ []) k (UnitT)
type_from g = UnitT

pub type_back : (x : Ty) → type_from (type_to x) ≡ x
type_back NumT = refl
type_back TextT = refl
type_back UnitT = refl
type_back (TensorT a b) = λ i. TensorT (type_back a i) (type_back b i)
type_back (WithT a b) = λ i. WithT (type_back a i) (type_back b i)
type_back (SumT a b) = λ i. SumT (type_back a i) (type_back b i)
type_back (ArrowT a b) = λ i. ArrowT (type_back a i) (type_back b i)
type_back (BangT a b) = λ i. BangT (distance_back a i) (type_back b i)
type_back (BagT a) = λ i. BagT (type_back a i)

abbrev pub type_code : Coded Ty
type_code = code_by Gv itself type_to type_from type_back

abbrev pub types_code : Coded (List Ty)
types_code = coded_list type_code

abbrev pub term_to : Term → Gv
term_to (at a (VarE b)) = gcons (gnum 0) (gcons (span_to a) (gcons (bytes_to b) (gcons gnil (gcons gnil (gcons gnil (gnil))))))
term_to (at a (NumE b)) = gcons (gnum 1) (gcons (span_to a) (gcons (int_to b) (gcons gnil (gcons gnil (gcons gnil (gnil))))))
term_to (at a (TextE b)) = gcons (gnum 2) (gcons (span_to a) (gcons (bytes_to b) (gcons gnil (gcons gnil (gcons gnil (gnil))))))
term_to (at a UnitE) = gcons (gnum 3) (gcons (span_to a) (gcons gnil (gcons gnil (gcons gnil (gcons gnil (gnil))))))
term_to (at a (PairE b c)) = gcons (gnum 4) (gcons (span_to a) (gcons (term_to b) (gcons (term_to c) (gcons gnil (gcons gnil (gnil))))))
term_to (at a (WithE b c)) = gcons (gnum 5) (gcons (span_to a) (gcons (term_to b) (gcons (term_to c) (gcons gnil (gcons gnil (gnil))))))
term_to (at a (FstE b)) = gcons (gnum 6) (gcons (span_to a) (gcons (term_to b) (gcons gnil (gcons gnil (gcons gnil (gnil))))))
term_to (at a (SndE b)) = gcons (gnum 7) (gcons (span_to a) (gcons (term_to b) (gcons gnil (gcons gnil (gcons gnil (gnil))))))
term_to (at a (LetPairE b c d e)) = gcons (gnum 8) (gcons (span_to a) (gcons (bytes_to b) (gcons (bytes_to c) (gcons (term_to d) (gcons (term_to e) (gnil))))))
term_to (at a (InlE b c d)) = gcons (gnum 9) (gcons (span_to a) (gcons (span_to b) (gcons (type_to c) (gcons (term_to d) (gcons gnil (gnil))))))
term_to (at a (InrE b c d)) = gcons (gnum 10) (gcons (span_to a) (gcons (span_to b) (gcons (type_to c) (gcons (term_to d) (gcons gnil (gnil))))))
term_to (at a (CaseE b c d e f)) = gcons (gnum 11) (gcons (span_to a)
    (gcons (term_to b) (gcons (bytes_to c) (gcons (term_to d) (gcons (bytes_to e) (term_to f))))))
term_to (at a (IfE b c d)) = gcons (gnum 12) (gcons (span_to a) (gcons (term_to b) (gcons (term_to c) (gcons (term_to d) (gcons gnil (gnil))))))
term_to (at a (FunE b c d e)) = gcons (gnum 13) (gcons (span_to a) (gcons (bytes_to b) (gcons (span_to c) (gcons (type_to d) (gcons (term_to e) (gnil))))))
term_to (at a (FnE b c d e)) = gcons (gnum 14) (gcons (span_to a) (gcons (bytes_to b) (gcons (span_to c) (gcons (type_to d) (gcons (term_to e) (gnil))))))
term_to (at a (AppE b c)) = gcons (gnum 15) (gcons (span_to a) (gcons (term_to b) (gcons (term_to c) (gcons gnil (gcons gnil (gnil))))))
term_to (at a (BangE b c)) = gcons (gnum 16) (gcons (span_to a) (gcons (distance_to b) (gcons (term_to c) (gcons gnil (gcons gnil (gnil))))))
term_to (at a (LetBangE b c d)) = gcons (gnum 17) (gcons (span_to a) (gcons (bytes_to b) (gcons (term_to c) (gcons (term_to d) (gcons gnil (gnil))))))
term_to (at a (LetE b c d)) = gcons (gnum 18) (gcons (span_to a) (gcons (bytes_to b) (gcons (term_to c) (gcons (term_to d) (gcons gnil (gnil))))))
term_to (at a (PlusE b c)) = gcons (gnum 19) (gcons (span_to a) (gcons (term_to b) (gcons (term_to c) (gcons gnil (gcons gnil (gnil))))))
term_to (at a (MinusE b c)) = gcons (gnum 20) (gcons (span_to a) (gcons (term_to b) (gcons (term_to c) (gcons gnil (gcons gnil (gnil))))))
term_to (at a (TimesE b c)) = gcons (gnum 21) (gcons (span_to a) (gcons (int_to b) (gcons (term_to c) (gcons gnil (gcons gnil (gnil))))))
term_to (at a (LeE b c)) = gcons (gnum 22) (gcons (span_to a) (gcons (term_to b) (gcons (term_to c) (gcons gnil (gcons gnil (gnil))))))
term_to (at a (EqE b c)) = gcons (gnum 23) (gcons (span_to a) (gcons (term_to b) (gcons (term_to c) (gcons gnil (gcons gnil (gnil))))))
term_to (at a (ClipE b c d)) = gcons (gnum 24) (gcons (span_to a) (gcons (int_to b) (gcons (int_to c) (gcons (term_to d) (gcons gnil (gnil))))))
term_to (at a (LeastE b)) = gcons (gnum 25) (gcons (span_to a) (gcons (term_to b) (gcons gnil (gcons gnil (gcons gnil (gnil))))))
term_to (at a (GreatestE b)) = gcons (gnum 26) (gcons (span_to a) (gcons (term_to b) (gcons gnil (gcons gnil (gcons gnil (gnil))))))
term_to (at a (SizeE b)) = gcons (gnum 27) (gcons (span_to a) (gcons (term_to b) (gcons gnil (gcons gnil (gcons gnil (gnil))))))
term_to (at a (SumE b c d)) = gcons (gnum 28) (gcons (span_to a) (gcons (int_to b) (gcons (int_to c) (gcons (term_to d) (gcons gnil (gnil))))))
term_to (at a (UnionE b c)) = gcons (gnum 29) (gcons (span_to a) (gcons (term_to b) (gcons (term_to c) (gcons gnil (gcons gnil (gnil))))))
term_to (at a (MapE b c)) = gcons (gnum 30) (gcons (span_to a) (gcons (term_to b) (gcons (term_to c) (gcons gnil (gcons gnil (gnil))))))
term_to (at a (FilterE b c)) = gcons (gnum 31) (gcons (span_to a) (gcons (term_to b) (gcons (term_to c) (gcons gnil (gcons gnil (gnil))))))
term_to (at a (SplitE b c)) = gcons (gnum 32) (gcons (span_to a) (gcons (term_to b) (gcons (term_to c) (gcons gnil (gcons gnil (gnil))))))

abbrev pub term_from : Gv → Term
term_from (gcons (gnum k) (gcons a (gcons b (gcons c (gcons d (gcons e f)))))) =
    get_or (
    at (span_from a) (VarE (bytes_from b)) ∷
    at (span_from a) (NumE (int_from b)) ∷
    at (span_from a) (TextE (bytes_from b)) ∷
    at (span_from a) UnitE ∷
    at (span_from a) (PairE (term_from b) (term_from c)) ∷
    at (span_from a) (WithE (term_from b) (term_from c)) ∷
    at (span_from a) (FstE (term_from b)) ∷
    at (span_from a) (SndE (term_from b)) ∷
    at (span_from a) (LetPairE (bytes_from b) (bytes_from c) (term_from d) (term_from e)) ∷
    at (span_from a) (InlE (span_from b) (type_from c) (term_from d)) ∷
    at (span_from a) (InrE (span_from b) (type_from c) (term_from d)) ∷
    at (span_from a) (CaseE (term_from b) (bytes_from c) (term_from d) (bytes_from e) (term_from f)) ∷
    at (span_from a) (IfE (term_from b) (term_from c) (term_from d)) ∷
    at (span_from a) (FunE (bytes_from b) (span_from c) (type_from d) (term_from e)) ∷
    at (span_from a) (FnE (bytes_from b) (span_from c) (type_from d) (term_from e)) ∷
    at (span_from a) (AppE (term_from b) (term_from c)) ∷
    at (span_from a) (BangE (distance_from b) (term_from c)) ∷
    at (span_from a) (LetBangE (bytes_from b) (term_from c) (term_from d)) ∷
    at (span_from a) (LetE (bytes_from b) (term_from c) (term_from d)) ∷
    at (span_from a) (PlusE (term_from b) (term_from c)) ∷
    at (span_from a) (MinusE (term_from b) (term_from c)) ∷
    at (span_from a) (TimesE (int_from b) (term_from c)) ∷
    at (span_from a) (LeE (term_from b) (term_from c)) ∷
    at (span_from a) (EqE (term_from b) (term_from c)) ∷
    at (span_from a) (ClipE (int_from b) (int_from c) (term_from d)) ∷
    at (span_from a) (LeastE (term_from b)) ∷
    at (span_from a) (GreatestE (term_from b)) ∷
    at (span_from a) (SizeE (term_from b)) ∷
    at (span_from a) (SumE (int_from b) (int_from c) (term_from d)) ∷
    at (span_from a) (UnionE (term_from b) (term_from c)) ∷
    at (span_from a) (MapE (term_from b) (term_from c)) ∷
    at (span_from a) (FilterE (term_from b) (term_from c)) ∷
    at (span_from a) (SplitE (term_from b) (term_from c)) ∷ []) k (at (span_from gnil) UnitE)
term_from g = at (span_from gnil) UnitE

pub term_back : (x : Term) → term_from (term_to x) ≡ x
term_back (at a (VarE b)) = λ i. at (span_back a i) (VarE (bytes_back b i))
term_back (at a (NumE b)) = λ i. at (span_back a i) (NumE (int_back b i))
term_back (at a (TextE b)) = λ i. at (span_back a i) (TextE (bytes_back b i))
term_back (at a UnitE) = λ i. at (span_back a i) UnitE
term_back (at a (PairE b c)) = λ i. at (span_back a i) (PairE (term_back b i) (term_back c i))
term_back (at a (WithE b c)) = λ i. at (span_back a i) (WithE (term_back b i) (term_back c i))
term_back (at a (FstE b)) = λ i. at (span_back a i) (FstE (term_back b i))
term_back (at a (SndE b)) = λ i. at (span_back a i) (SndE (term_back b i))
term_back (at a (LetPairE b c d e)) = λ i. at (span_back a i) (LetPairE (bytes_back b i) (bytes_back c i) (term_back d i) (term_back e i))
term_back (at a (InlE b c d)) = λ i. at (span_back a i) (InlE (span_back b i) (type_back c i) (term_back d i))
term_back (at a (InrE b c d)) = λ i. at (span_back a i) (InrE (span_back b i) (type_back c i) (term_back d i))
term_back (at a (CaseE b c d e f)) = λ i. at (span_back a i) (CaseE (term_back b i) (bytes_back c i) (term_back d i) (bytes_back e i) (term_back f i))
term_back (at a (IfE b c d)) = λ i. at (span_back a i) (IfE (term_back b i) (term_back c i) (term_back d i))
term_back (at a (FunE b c d e)) = λ i. at (span_back a i) (FunE (bytes_back b i) (span_back c i) (type_back d i) (term_back e i))
term_back (at a (FnE b c d e)) = λ i. at (span_back a i) (FnE (bytes_back b i) (span_back c i) (type_back d i) (term_back e i))
term_back (at a (AppE b c)) = λ i. at (span_back a i) (AppE (term_back b i) (term_back c i))
term_back (at a (BangE b c)) = λ i. at (span_back a i) (BangE (distance_back b i) (term_back c i))
term_back (at a (LetBangE b c d)) = λ i. at (span_back a i) (LetBangE (bytes_back b i) (term_back c i) (term_back d i))
term_back (at a (LetE b c d)) = λ i. at (span_back a i) (LetE (bytes_back b i) (term_back c i) (term_back d i))
term_back (at a (PlusE b c)) = λ i. at (span_back a i) (PlusE (term_back b i) (term_back c i))
term_back (at a (MinusE b c)) = λ i. at (span_back a i) (MinusE (term_back b i) (term_back c i))
term_back (at a (TimesE b c)) = λ i. at (span_back a i) (TimesE (int_back b i) (term_back c i))
term_back (at a (LeE b c)) = λ i. at (span_back a i) (LeE (term_back b i) (term_back c i))
term_back (at a (EqE b c)) = λ i. at (span_back a i) (EqE (term_back b i) (term_back c i))
term_back (at a (ClipE b c d)) = λ i. at (span_back a i) (ClipE (int_back b i) (int_back c i) (term_back d i))
term_back (at a (LeastE b)) = λ i. at (span_back a i) (LeastE (term_back b i))
term_back (at a (GreatestE b)) = λ i. at (span_back a i) (GreatestE (term_back b i))
term_back (at a (SizeE b)) = λ i. at (span_back a i) (SizeE (term_back b i))
term_back (at a (SumE b c d)) = λ i. at (span_back a i) (SumE (int_back b i) (int_back c i) (term_back d i))
term_back (at a (UnionE b c)) = λ i. at (span_back a i) (UnionE (term_back b i) (term_back c i))
term_back (at a (MapE b c)) = λ i. at (span_back a i) (MapE (term_back b i) (term_back c i))
term_back (at a (FilterE b c)) = λ i. at (span_back a i) (FilterE (term_back b i) (term_back c i))
term_back (at a (SplitE b c)) = λ i. at (span_back a i) (SplitE (term_back b i) (term_back c i))

abbrev pub term_code : Coded Term
term_code = code_by Gv itself term_to term_from term_back

abbrev pub parts_code : Coded Parts
parts_code = code_by (List Ty × List Term) (coded× types_code (coded_list term_code)) (λ p. (p.types, p.terms))
    (λ p. record { types = p.0; terms = p.1 }) (λ _. refl)

abbrev pub signature_code : Coded Signature
signature_code = coded_list (code_by (Name × Ty) (coded× (coded_list coded_ℕ) type_code) (λ t. (t.name, t.row)) (λ p. record { name = p.0; row = p.1 })
    (λ _. refl))
