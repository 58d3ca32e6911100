-- Elements as trees of numbers, from which they are read back: what proofs tell them apart by.
use Rattle.std.specs.Prelude.{◌≡◌, List, [], ◌∷◌, refl}
use Rattle.std.specs.Coded.{Coded, code_by, coded_list}
use Rattle.std.proofs.Common.{get_or}
use denote.Struct.Codes.{itself}
use base.Stored.{Gv, gnil, gnum, gcons}
use Rattle.fz_ast.specs.Codes.{bytes_to, bytes_from, bytes_back, int_to, int_from, int_back}
use Rattle.metric_values.specs.Values.{Flat, NumF, TextF, UnitF, PairF, InlF, InrF, BangF}

abbrev pub flat_to : Flat → Gv
flat_to (NumF a) = gcons (gnum 0) (gcons (int_to a) (gcons gnil (gcons gnil (gcons gnil (gcons gnil gnil)))))
flat_to (TextF a) = gcons (gnum 1) (gcons (bytes_to a) (gcons gnil (gcons gnil (gcons gnil (gcons gnil gnil)))))
flat_to UnitF = gcons (gnum 2) (gcons gnil (gcons gnil (gcons gnil (gcons gnil (gcons gnil gnil)))))
flat_to (PairF a b) = gcons (gnum 3) (gcons (flat_to a) (gcons (flat_to b) (gcons gnil (gcons gnil (gcons gnil gnil)))))
flat_to (InlF a) = gcons (gnum 4) (gcons (flat_to a) (gcons gnil (gcons gnil (gcons gnil (gcons gnil gnil)))))
flat_to (InrF a) = gcons (gnum 5) (gcons (flat_to a) (gcons gnil (gcons gnil (gcons gnil (gcons gnil gnil)))))
flat_to (BangF a) = gcons (gnum 6) (gcons (flat_to a) (gcons gnil (gcons gnil (gcons gnil (gcons gnil gnil)))))

abbrev pub flat_from : Gv → Flat
flat_from (gcons (gnum k) (gcons a (gcons b (gcons c (gcons d (gcons e f)))))) =
    get_or (
    NumF (int_from a) ∷
    TextF (bytes_from a) ∷
    UnitF ∷
    PairF (flat_from a) (flat_from b) ∷
    InlF (flat_from a) ∷
    InrF (flat_from a) ∷
    BangF (flat_from a) ∷ []) k UnitF
flat_from g = UnitF

pub flat_back : (x : Flat) → flat_from (flat_to x) ≡ x
flat_back (NumF a) = λ i. NumF (int_back a i)
flat_back (TextF a) = λ i. TextF (bytes_back a i)
flat_back UnitF = refl
flat_back (PairF a b) = λ i. PairF (flat_back a i) (flat_back b i)
flat_back (InlF a) = λ i. InlF (flat_back a i)
flat_back (InrF a) = λ i. InrF (flat_back a i)
flat_back (BangF a) = λ i. BangF (flat_back a i)

abbrev pub flats_to : List Flat → Gv
flats_to [] = gnil
flats_to (x ∷ xs) = gcons (flat_to x) (flats_to xs)

abbrev pub flats_from : Gv → List Flat
flats_from (gcons x g) = flat_from x ∷ flats_from g
flats_from g = []

pub flats_back : (xs : List Flat) → flats_from (flats_to xs) ≡ xs
flats_back [] = refl
flats_back (x ∷ xs) = λ i. flat_back x i ∷ flats_back xs i

abbrev pub flats_code : Coded (List Flat)
flats_code = code_by Gv itself flats_to flats_from flats_back

abbrev pub dataset_code : Coded (List (List Flat))
dataset_code = coded_list flats_code
