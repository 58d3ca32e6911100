-- Values and environments as trees of numbers, from which they are read back: what proofs tell them apart by.
use Rattle.std.specs.Prelude.{◌≡◌, [], ◌∷◌, refl}
use Rattle.std.specs.Coded.{Coded, code_by}
use Rattle.std.proofs.Common.{get_or}
use denote.Struct.Codes.{itself}
use base.Stored.{Gv, gnil, gnum, gcons}
use Rattle.fz_ast.specs.Codes.{bytes_to, bytes_from, bytes_back, int_to, int_from, int_back, term_to, term_from, term_back}
use Rattle.metric_values.specs.Codes.{flats_to, flats_from, flats_back}
use Rattle.metric_values.specs.Values.{Value, NumV, TextV, UnitV, PairV, InlV, InrV, BangV, BagV}
use Rattle.metric_values.specs.Values.{FunV, FnV, Env, Empty, Bind}

abbrev mutual
  pub value_to : Value → Gv
  value_to (NumV a) = gcons (gnum 0) (gcons (int_to a) (gcons gnil (gcons gnil (gcons gnil (gcons gnil gnil)))))
  value_to (TextV a) = gcons (gnum 1) (gcons (bytes_to a) (gcons gnil (gcons gnil (gcons gnil (gcons gnil gnil)))))
  value_to UnitV = gcons (gnum 2) (gcons gnil (gcons gnil (gcons gnil (gcons gnil (gcons gnil gnil)))))
  value_to (PairV a b) = gcons (gnum 3) (gcons (value_to a) (gcons (value_to b) (gcons gnil (gcons gnil (gcons gnil gnil)))))
  value_to (InlV a) = gcons (gnum 4) (gcons (value_to a) (gcons gnil (gcons gnil (gcons gnil (gcons gnil gnil)))))
  value_to (InrV a) = gcons (gnum 5) (gcons (value_to a) (gcons gnil (gcons gnil (gcons gnil (gcons gnil gnil)))))
  value_to (BangV a) = gcons (gnum 6) (gcons (value_to a) (gcons gnil (gcons gnil (gcons gnil (gcons gnil gnil)))))
  value_to (BagV a) = gcons (gnum 7) (gcons (flats_to a) (gcons gnil (gcons gnil (gcons gnil (gcons gnil gnil)))))
  value_to (FunV a b c) = gcons (gnum 8) (gcons (bytes_to a) (gcons (term_to b) (gcons (env_to c) (gcons gnil (gcons gnil gnil)))))
  value_to (FnV a b c) = gcons (gnum 9) (gcons (bytes_to a) (gcons (term_to b) (gcons (env_to c) (gcons gnil (gcons gnil gnil)))))

  pub env_to : Env → Gv
  env_to Empty = gnil
  env_to (Bind x v γ) = gcons (bytes_to x) (gcons (value_to v) (env_to γ))

abbrev mutual
  pub value_from : Gv → Value
  value_from (gcons (gnum k) (gcons a (gcons b (gcons c (gcons d (gcons e f)))))) =
      get_or (
      NumV (int_from a) ∷
      TextV (bytes_from a) ∷
      UnitV ∷
      PairV (value_from a) (value_from b) ∷
      InlV (value_from a) ∷
      InrV (value_from a) ∷
      BangV (value_from a) ∷
      BagV (flats_from a) ∷
      FunV (bytes_from a) (term_from b) (env_from c) ∷
      FnV (bytes_from a) (term_from b) (env_from c) ∷ []) k UnitV
  value_from g = UnitV

  pub env_from : Gv → Env
  env_from (gcons x (gcons v g)) = Bind (bytes_from x) (value_from v) (env_from g)
  env_from g = Empty

mutual
  pub value_back : (x : Value) → value_from (value_to x) ≡ x
  value_back (NumV a) = λ i. NumV (int_back a i)
  value_back (TextV a) = λ i. TextV (bytes_back a i)
  value_back UnitV = refl
  value_back (PairV a b) = λ i. PairV (value_back a i) (value_back b i)
  value_back (InlV a) = λ i. InlV (value_back a i)
  value_back (InrV a) = λ i. InrV (value_back a i)
  value_back (BangV a) = λ i. BangV (value_back a i)
  value_back (BagV a) = λ i. BagV (flats_back a i)
  value_back (FunV a b c) = λ i. FunV (bytes_back a i) (term_back b i) (env_back c i)
  value_back (FnV a b c) = λ i. FnV (bytes_back a i) (term_back b i) (env_back c i)

  pub env_back : (x : Env) → env_from (env_to x) ≡ x
  env_back Empty = refl
  env_back (Bind x v γ) = λ i. Bind (bytes_back x i) (value_back v i) (env_back γ i)

abbrev pub value_code : Coded Value
value_code = code_by Gv itself value_to value_from value_back
