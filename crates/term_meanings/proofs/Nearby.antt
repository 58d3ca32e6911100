-- Worked functions that are typed and near, and some that aren't; and sums of sensitivity times distance.
use Rattle.std.proofs.Common.{arith, refl, subst}
use Rattle.std.specs.Prelude.{[], codes, pos, suc, zero, ◌∷◌, ◌≡◌}
use Rattle.fz_frac.proofs.Laws.{add-comm, none-add, ◌⨾◌}
use Rattle.fz_frac.specs.Distance.{Fin, Inf, none, one}
use Rattle.fz_ast.specs.Bare.{nowhere}
use Rattle.fz_ast.specs.Terms.{Term, TextE, TimesE, VarE, at}
use Rattle.fz_ast.specs.Types.{ArrowT, NumT}
use Rattle.metric_values.specs.Values.{Empty, FunV, NumV, TextV, Value}
use Rattle.term_meanings.proofs.Nearness.{near_more, no_num, small}
use Rattle.term_meanings.specs.Environments.{dot}
use Rattle.term_meanings.specs.Means.{Applies, Means, apply}
use Rattle.term_meanings.specs.Near.{Near, NearNum, Typed, TypedNum, near_num, typed_num}

abbrev fun : Term → Value
fun e = FunV (codes "x") e Empty

abbrev x : Term
x = at nowhere (VarE (codes "x"))

-- fun (x : num) => x
abbrev identity : Value
identity = fun x

gives_its_argument : (a v : Value) → Applies Means identity a v → a ≡ v
gives_its_argument a v (apply (zero, h)) = absurd h
gives_its_argument a v (apply (suc n, h)) = cc h

identity_is_typed : Typed (ArrowT NumT NumT) identity
identity_is_typed = record { has = λ a t. (a, apply (1, refl)); all = λ a t v h. subst TypedNum (gives_its_argument a v h) t }

identity_is_near_itself : Near (ArrowT NumT NumT) identity identity none
identity_is_near_itself = record {
  by = λ c a b ta tb m v w h k. let e = gives_its_argument a v h in let f = gives_its_argument b w k in
      near_more NumT v w (subst (λ u. NearNum v u c) f (subst (λ u. NearNum u b c) e m)) (none-add c ⨾ add-comm none c);
}

-- fun (x : num) => y
without_a_value : Typed (ArrowT NumT NumT) (fun (at nowhere (VarE (codes "y")))) → ⊥
without_a_value f = no_value (f.has (NumV (pos 0)) (typed_num (small 0 (omega arith))))
  where
    no_value : ((v : Value) × Applies Means (fun (at nowhere (VarE (codes "y")))) (NumV (pos 0)) v) → ⊥
    no_value (v, apply (zero, h)) = h
    no_value (v, apply (suc n, h)) = cc h

-- fun (x : num) => "a"
of_another_type : Typed (ArrowT NumT NumT) (fun (at nowhere (TextE (codes "a")))) → ⊥
of_another_type f = no_number (f.all (NumV (pos 0)) (typed_num (small 0 (omega arith))) (TextV (codes "a")) (apply (1, refl)))
  where
    no_number : TypedNum (TextV (codes "a")) → ⊥
    no_number h = elim h [ ]

-- fun (x : num) => 2 * x moves by 2 where x moves by 1, so at distance 0 it isn't near itself
doubling_is_not_near_itself : Near (ArrowT NumT NumT) (fun (at nowhere (TimesE (pos 2) x))) (fun (at nowhere (TimesE (pos 2) x))) none → ⊥
doubling_is_not_near_itself f =
    no_num (pos 0) (pos 2) 2 1 1 refl (omega arith)
    (f.by one (NumV (pos 0)) (NumV (pos 1)) (typed_num (small 0 (omega arith))) (typed_num (small 1 (omega arith))) (near_num (record { le = omega arith })) (NumV (pos 0)) (NumV (pos 2)) (apply (2, (pos 0, refl, refl))) (apply (2, (pos 1, refl, refl))))

each_times_its_own : dot (Fin 2 1 ∷ Fin 3 1 ∷ []) (Fin 1 1 ∷ Fin 4 1 ∷ []) ≡ Fin 14 1
each_times_its_own = refl

no_distance_no_move : dot (Inf ∷ []) (none ∷ []) ≡ none
no_distance_no_move = refl

no_use_no_move : dot (none ∷ []) (Inf ∷ []) ≡ none
no_use_no_move = refl

nothing_past_the_end : dot (Fin 2 1 ∷ []) (Fin 1 1 ∷ Inf ∷ []) ≡ Fin 2 1
nothing_past_the_end = refl
