-- The worked programs, computed.
use Rattle.std.proofs.Common.{arith, inl, inr, refl}
use Rattle.std.proofs.lemmas.List.Elements.{All-cons, All-nil}
use Rattle.std.specs.Prelude.{List, [], codes, neg_ℤ, pos, ◌∷◌}
use Rattle.fz_frac.specs.Distance.{Distance, Fin, one, ◌≈◌, ◌⊑◌}
use Rattle.fz_frac.specs.Lowest.{gcd, gcd_in, is_out}
use Rattle.fz_ast.specs.Bare.{nowhere}
use Rattle.fz_ast.specs.Terms.{LeE, LetBangE, NumE, PlusE, VarE, at}
use Rattle.fz_ast.specs.Types.{ArrowT, NumT}
use Rattle.linear_types.specs.Typing.{Typing, here, is_fun, is_plus, is_var, there}
use Rattle.metric_values.specs.Tables.{rows_of}
use Rattle.metric_values.specs.Typed.{TypedFlat}
use Rattle.metric_values.specs.Values.{BagV, BangV, Flat, FnV, FunV, NumF, NumV}
use Rattle.metric_law.proofs.Nearness.{small}
use Rattle.metric_law.proofs.Needed.{at_number, num_type, number, number_near, number_typed}
use Rattle.metric_law.specs.Means.{Means, apply, apply_fn}
use Rattle.metric_law.specs.Worked.{Answers, Datasets, LooserScalar, Premises, adds_n, bang_undone, clipped, counted, counted_twice, filtered_and_mapped, worked_tables, scaled_argument, some_ages, span, split_in_halves, three_ages, unused_names}

same : {a b : Distance} → a ⊑ b → b ⊑ a → a ≈ b
same h k = record { le = h; ge = k }

three : Means (rows_of worked_tables three_ages) counted (NumV (pos 3))
three = (2, (NumF (pos 20) ∷ NumF (pos 30) ∷ NumF (pos 40) ∷ [], refl, refl))

pub bang_undone_answers : Answers bang_undone one three_ages (pos 3)
unfolding is_out gcd gcd_in
bang_undone_answers = (
  (Fin 2 2 ∷ [], Fin 2 2, refl, same (record { le = omega arith }) (record { le = omega arith })),
  (4, (NumV (pos 3), (NumV (pos 3), (NumF (pos 20) ∷ NumF (pos 30) ∷ NumF (pos 40) ∷ [], refl, refl), refl), refl)),
)

pub scaled_argument_answers : Answers scaled_argument (Fin 3 2) three_ages (pos 3)
unfolding is_out gcd gcd_in
scaled_argument_answers = (
  (_, _, refl, same (record { le = omega arith }) (record { le = omega arith })),
  (
    4,
    (
      FunV (codes "x") (at (span 25 40) (LetBangE (codes "y") (at (span 34 35) (VarE (codes "x"))) (at (span 39 40) (VarE (codes "y"))))) (rows_of worked_tables three_ages),
      BangV (NumV (pos 3)),
      refl,
      (NumV (pos 3), (NumF (pos 20) ∷ NumF (pos 30) ∷ NumF (pos 40) ∷ [], refl, refl), refl),
      apply (NumV (pos 3), refl, refl),
    ),
  ),
)

abbrev ages : List Flat
ages = NumF (pos 20) ∷ NumF (pos 30) ∷ NumF (pos 40) ∷ []

pub unused_names_answers : Answers unused_names one three_ages (pos 5)
unfolding is_out gcd gcd_in
unused_names_answers = (
  (_, _, refl, same (record { le = omega arith }) (record { le = omega arith })),
  (4, inl (NumV (pos 3), (NumV (pos 3), (ages, refl, refl), refl), refl)),
)

pub split_in_halves_answers : Answers split_in_halves one three_ages (pos 3)
unfolding is_out gcd gcd_in
split_in_halves_answers = (
  (_, _, refl, same (record { le = omega arith }) (record { le = omega arith })),
  (
    4,
    (
      BagV (NumF (pos 20) ∷ NumF (pos 30) ∷ []),
      BagV (NumF (pos 40) ∷ []),
      (
        FnV (codes "x") (at (span 36 43) (LeE (at (span 36 37) (VarE (codes "x"))) (at (span 41 43) (NumE (pos 30))))) (rows_of worked_tables three_ages),
        ages,
        NumF (pos 20) ∷ NumF (pos 30) ∷ [],
        NumF (pos 40) ∷ [],
        refl,
        refl,
        inl (
          NumF (pos 30) ∷ [],
          apply_fn (pos 20, pos 30, refl, refl, refl),
          inl ([], apply_fn (pos 30, pos 30, refl, refl, refl), inr ([], apply_fn (pos 40, pos 30, refl, refl, refl), (refl, refl), refl), refl),
          refl,
        ),
        refl,
      ),
      (pos 2, pos 1, (NumF (pos 20) ∷ NumF (pos 30) ∷ [], refl, refl), (NumF (pos 40) ∷ [], refl, refl), refl),
    ),
  ),
)

pub counted_twice_answers : Answers counted_twice (Fin 2 1) three_ages (pos 6)
unfolding is_out gcd gcd_in
counted_twice_answers = (
  (_, _, refl, same (record { le = omega arith }) (record { le = omega arith })),
  (3, (pos 3, pos 3, (ages, refl, refl), (ages, refl, refl), refl)),
)

pub filtered_and_mapped_answers : Answers filtered_and_mapped one three_ages (pos 1)
unfolding is_out gcd gcd_in
filtered_and_mapped_answers = (
  (_, _, refl, same (record { le = omega arith }) (record { le = omega arith })),
  (
    6,
    (
      NumF (pos 21) ∷ [],
      (
        FnV (codes "x") (at (span 30 37) (LeE (at (span 30 31) (VarE (codes "x"))) (at (span 35 37) (NumE (pos 30))))) (rows_of worked_tables three_ages),
        NumF (pos 21) ∷ NumF (pos 31) ∷ NumF (pos 41) ∷ [],
        NumF (pos 21) ∷ [],
        NumF (pos 31) ∷ NumF (pos 41) ∷ [],
        refl,
        (
          FnV (codes "y") (at (span 61 66) (PlusE (at (span 61 62) (VarE (codes "y"))) (at (span 65 66) (NumE (pos 1))))) (rows_of worked_tables three_ages),
          ages,
          NumF (pos 21) ∷ NumF (pos 31) ∷ NumF (pos 41) ∷ [],
          refl,
          refl,
          (
            NumF (pos 21),
            NumF (pos 31) ∷ NumF (pos 41) ∷ [],
            apply_fn (pos 20, pos 1, refl, refl, refl),
            (NumF (pos 31), NumF (pos 41) ∷ [], apply_fn (pos 30, pos 1, refl, refl, refl), (NumF (pos 41), [], apply_fn (pos 40, pos 1, refl, refl, refl), refl, refl), refl),
            refl,
          ),
          refl,
        ),
        inl (
          [],
          apply_fn (pos 21, pos 30, refl, refl, refl),
          inr (
            NumF (pos 41) ∷ [],
            apply_fn (pos 31, pos 30, refl, refl, refl),
            inr ([], apply_fn (pos 41, pos 30, refl, refl, refl), (refl, refl), refl),
            refl,
          ),
          refl,
        ),
        refl,
      ),
      refl,
    ),
  ),
)

pub clipped_answers : Answers clipped (Fin 100 1) some_ages (pos 140)
unfolding is_out gcd gcd_in
clipped_answers = (
  (_, _, refl, same (record { le = omega arith }) (record { le = omega arith })),
  (2, (neg_ℤ (pos 5) ∷ pos 40 ∷ pos 1000 ∷ [], refl, refl)),
)

abbrev IsAge : Flat → Type 0
IsAge = TypedFlat NumT

pub two_datasets : Datasets counted 3 (pos 2) (pos 3)
unfolding is_out gcd gcd_in
two_datasets = record {
  signature = (omega arith, tt, refl, refl, tt, tt);
  limits = omega arith;
  accepted = (_, _, refl);
  left = (NumF (pos 2) ∷ NumF (pos 3) ∷ []) ∷ [];
  right = (NumF (pos 1) ∷ NumF (pos 2) ∷ NumF (pos 2) ∷ []) ∷ [];
  left_typed = (All-cons IsAge (NumF (pos 2)) (NumF (pos 3) ∷ []) (small 2 (omega arith)) (All-cons IsAge (NumF (pos 3)) [] (small 3 (omega arith)) (All-nil IsAge)), tt);
  right_typed = (
    All-cons IsAge (NumF (pos 1)) (NumF (pos 2) ∷ NumF (pos 2) ∷ []) (small 1 (omega arith))
        (All-cons IsAge (NumF (pos 2)) (NumF (pos 2) ∷ []) (small 2 (omega arith)) (All-cons IsAge (NumF (pos 2)) [] (small 2 (omega arith)) (All-nil IsAge))),
    tt,
  );
  are_apart = refl;
  left_means = (2, (NumF (pos 2) ∷ NumF (pos 3) ∷ [], refl, refl));
  right_means = (2, (NumF (pos 1) ∷ NumF (pos 2) ∷ NumF (pos 2) ∷ [], refl, refl));
}

-- at the type of a function
pub function_premises : Premises number adds_n (ArrowT NumT NumT) (one ∷ [])
function_premises = record {
  types = (num_type, tt);
  typing = adds_typing;
  left = at_number (pos 0);
  right = at_number (pos 1);
  distances = one ∷ [];
  left_typed = number_typed 0 (omega arith);
  right_typed = number_typed 1 (omega arith);
  near = number_near;
  left_value = FunV (codes "x") (at nowhere (PlusE (at nowhere (VarE (codes "x"))) (at nowhere (VarE (codes "n"))))) (at_number (pos 0));
  right_value = FunV (codes "x") (at nowhere (PlusE (at nowhere (VarE (codes "x"))) (at nowhere (VarE (codes "n"))))) (at_number (pos 1));
  left_means = (1, refl);
  right_means = (1, refl);
}
  where
    adds_typing : Typing number adds_n (ArrowT NumT NumT) (one ∷ [])
    adds_typing = is_fun (is_plus (is_var (here refl)) (is_var (there refl (here refl)))) num_type (record { le = omega arith })

pub looser_scalar : LooserScalar
looser_scalar = (same (record { le = omega arith }) (record { le = omega arith }), record { le = omega arith })
