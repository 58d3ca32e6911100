-- Forms whose later parts stand under names.
use Rattle.std.proofs.Common.{◌≡◌, ◌<◌, List, [], ◌∷◌, length, subst}
use Rattle.std.specs.Prelude.{Result, Ok, Err}
use Rattle.fz_frac.specs.Distance.{Distance, greater, quotient}
use Rattle.fz_ast.specs.Arena.{Grows}
use Rattle.fz_ast.specs.Terms.{CaseE, LetBangE, LetE, LetPairE, Name, Term, at, span_of}
use Rattle.fz_ast.specs.TypeNodes.{type_at}
use Rattle.fz_ast.specs.Types.{Ty, BangT, SumT, TensorT}
use Rattle.fz_ast.specs.declared.span.Span.{Span}
use Rattle.linear_types.specs.Places.{AreAlike, distances}
use Rattle.linear_types.specs.Rule.{branches_rule, case_rule, has_bound, let_bang_rule, let_pair_rule, let_rule, rule}
use Rattle.linear_types.specs.Sensitivities.{Sensitivities, first, rest}
use Rattle.linear_types.specs.Typing.{Context, Under}
use Rattle.linear_types.specs.Inferred.{in_range, one_part}
use Rattle.typing_rows.specs.Says.{IsFaultOf, Says}
use Rattle.typing_rows.specs.declared.clause.Judged.{Judged}
use Rattle.typing_rows.specs.declared.clause.RowFault.{RowFault}
use Rattle.sensitivity_check.proofs.Judging.{first_fault, one_fault, one_says, says_grows, says_known, second_fault, two_fault, two_say}

-- what the row of a case says
abbrev pub BranchesSay : List Ty → Span → Span → Result Judged RowFault → Judged → Judged → Judged → Type 0
BranchesSay T w s z o p q = (F D E : Sensitivities) → AreAlike (distances o.amounts.items) F → AreAlike (distances p.amounts.items) D → AreAlike (distances q.amounts.items) E → Says T z (branches_rule s w F (type_at T p.ty) D (type_at T q.ty) E)

-- T is the arena after the first part, which is judged o
module _ (T : List Ty) (o : Judged) (Γ : Context) (s : Span) (e : Term) (h : Says T (Ok o) (rule Γ e)) where
  module _ (U : List Ty) (x : Name) (b : Term) where
    pub let_fault : (Δ : Context) (r : RowFault) → Δ ≡ Γ → IsFaultOf U r (rule (Under x (type_at T o.ty) Δ) b) → IsFaultOf U r (rule Γ (at s (LetE x e b)))
    let_fault Δ r i k =
        one_says T U o (Err r) (rule Γ e) (λ A E. one_part (rule (Under x A Γ) b) (let_rule s E)) h
        (λ E a. one_fault U r (rule (Under x (type_at T o.ty) Γ) b) (let_rule s E) (subst (λ (G : Context). IsFaultOf U r (rule (Under x (type_at T o.ty) G) b)) i k))

    pub let_says : (Δ : Context) (p : Judged) (q : Result Judged RowFault) → Δ ≡ Γ → Says U (Ok p) (rule (Under x (type_at T o.ty) Δ) b)
        → ((V : List Ty) (E D : Sensitivities) → p.ty < length V → AreAlike (distances o.amounts.items) E → AreAlike (distances p.amounts.items) D → Says V q (let_rule s E (type_at V p.ty) D))
        → Says U q (rule Γ (at s (LetE x e b)))
    let_says Δ p q i k row =
        let v = rule (Under x (type_at T o.ty) Γ) b in
        let g : Says U (Ok p) v = subst (λ (G : Context). Says U (Ok p) (rule (Under x (type_at T o.ty) G) b)) i k in
        one_says T U o q (rule Γ e) (λ A E. one_part (rule (Under x A Γ) b) (let_rule s E)) h
        (λ E a. one_says U U p q v (let_rule s E) g (λ D d. row U E D (says_known U p v g) a d))

    pub let_bang_fault : (Δ : Context) (r : RowFault) (k : Distance) (A : Ty) → type_at T o.ty ≡ BangT k A → Δ ≡ Γ → IsFaultOf U r (rule (Under x A Δ) b) → IsFaultOf U r (rule Γ (at s (LetBangE x e b)))
    let_bang_fault Δ r k A t i g =
        one_says T U o (Err r) (rule Γ e) (λ T E. let_bang_rule s (span_of e) T E (λ A. rule (Under x A Γ) b)) h
        (λ E a. rw t (one_fault U r (rule (Under x A Γ) b) (λ B D. in_range s (quotient (first D) k ∷ []) (has_bound s B (rest D) (quotient (first D) k) E)) (subst (λ (G : Context). IsFaultOf U r (rule (Under x A G) b)) i g)))

    pub let_bang_says : (Δ : Context) (p : Judged) (q : Result Judged RowFault) (k : Distance) (A : Ty) → type_at T o.ty ≡ BangT k A → Δ ≡ Γ → Says U (Ok p) (rule (Under x A Δ) b)
        → ((V : List Ty) (E D : Sensitivities) → p.ty < length V → AreAlike (distances o.amounts.items) E → AreAlike (distances p.amounts.items) D → Says V q (in_range s (quotient (first D) k ∷ []) (has_bound s (type_at V p.ty) (rest D) (quotient (first D) k) E)))
        → Says U q (rule Γ (at s (LetBangE x e b)))
    let_bang_says Δ p q k A t i g row =
        let v = rule (Under x A Γ) b in
        let j : Says U (Ok p) v = subst (λ (G : Context). Says U (Ok p) (rule (Under x A G) b)) i g in
        one_says T U o q (rule Γ e) (λ T E. let_bang_rule s (span_of e) T E (λ A. rule (Under x A Γ) b)) h
        (λ E a. rw t (one_says U U p q v (λ B D. in_range s (quotient (first D) k ∷ []) (has_bound s B (rest D) (quotient (first D) k) E)) j (λ D d. row U E D (says_known U p v j) a d)))

    pub let_pair_fault : (y : Name) (Δ : Context) (r : RowFault) (A B : Ty) → type_at T o.ty ≡ TensorT A B → Δ ≡ Under x A Γ → IsFaultOf U r (rule (Under y B Δ) b) → IsFaultOf U r (rule Γ (at s (LetPairE x y e b)))
    let_pair_fault y Δ r A B t i g =
        one_says T U o (Err r) (rule Γ e) (λ T E. let_pair_rule s (span_of e) T E (λ A B. rule (Under y B (Under x A Γ)) b)) h
        (λ E a. rw t (one_fault U r (rule (Under y B (Under x A Γ)) b) (λ C D. has_bound s C (rest (rest D)) (greater (first (rest D)) (first D)) E) (subst (λ (G : Context). IsFaultOf U r (rule (Under y B G) b)) i g)))

    pub let_pair_says : (y : Name) (Δ : Context) (p : Judged) (q : Result Judged RowFault) (A B : Ty) → type_at T o.ty ≡ TensorT A B → Δ ≡ Under x A Γ → Says U (Ok p) (rule (Under y B Δ) b)
        → ((V : List Ty) (E D : Sensitivities) → p.ty < length V → AreAlike (distances o.amounts.items) E → AreAlike (distances p.amounts.items) D → Says V q (has_bound s (type_at V p.ty) (rest (rest D)) (greater (first (rest D)) (first D)) E))
        → Says U q (rule Γ (at s (LetPairE x y e b)))
    let_pair_says y Δ p q A B t i g row =
        let v = rule (Under y B (Under x A Γ)) b in
        let j : Says U (Ok p) v = subst (λ (G : Context). Says U (Ok p) (rule (Under y B G) b)) i g in
        one_says T U o q (rule Γ e) (λ T E. let_pair_rule s (span_of e) T E (λ A B. rule (Under y B (Under x A Γ)) b)) h
        (λ E a. rw t (one_says U U p q v (λ C D. has_bound s C (rest (rest D)) (greater (first (rest D)) (first D)) E) j (λ D d. row U E D (says_known U p v j) a d)))

  module _ (x y : Name) (a b : Term) (A B : Ty) (t : type_at T o.ty ≡ SumT A B) where
    pub left_fault : (U : List Ty) (Δ : Context) (r : RowFault) → Δ ≡ Γ → IsFaultOf U r (rule (Under x A Δ) a) → IsFaultOf U r (rule Γ (at s (CaseE e x a y b)))
    left_fault U Δ r i g =
        one_says T U o (Err r) (rule Γ e) (λ C F. case_rule s (span_of e) (span_of b) C F (λ A. rule (Under x A Γ) a) (λ B. rule (Under y B Γ) b)) h
        (λ F f. rw t (two_fault U r (rule (Under x A Γ) a) (rule (Under y B Γ) b) (branches_rule s (span_of b) F) (first_fault U r (rule (Under x A Γ) a) (rule (Under y B Γ) b) (subst (λ (G : Context). IsFaultOf U r (rule (Under x A G) a)) i g))))

    module _ (U V : List Ty) (Δ Λ : Context) (p : Judged) (i : Δ ≡ Γ) (j : Λ ≡ Γ) (g : Says U (Ok p) (rule (Under x A Δ) a)) where
      pub right_fault : (r : RowFault) → IsFaultOf V r (rule (Under y B Λ) b) → IsFaultOf V r (rule Γ (at s (CaseE e x a y b)))
      right_fault r k =
          let v = rule (Under x A Γ) a in let w = rule (Under y B Γ) b in
          let l : Says U (Ok p) v = subst (λ (G : Context). Says U (Ok p) (rule (Under x A G) a)) i g in
          one_says T V o (Err r) (rule Γ e) (λ C F. case_rule s (span_of e) (span_of b) C F (λ A. rule (Under x A Γ) a) (λ B. rule (Under y B Γ) b)) h
          (λ F f. rw t (two_fault V r v w (branches_rule s (span_of b) F) (second_fault U V p r v w l (subst (λ (G : Context). IsFaultOf V r (rule (Under y B G) b)) j k))))

      pub case_says : (q : Judged) (z : Result Judged RowFault) → Grows U V → Says V (Ok q) (rule (Under y B Λ) b)
          → BranchesSay V (span_of b) s z o p q → Says V z (rule Γ (at s (CaseE e x a y b)))
      case_says q z grows k row =
          let v = rule (Under x A Γ) a in let w = rule (Under y B Γ) b in
          let l : Says U (Ok p) v = subst (λ (G : Context). Says U (Ok p) (rule (Under x A G) a)) i g in
          let m : Says V (Ok q) w = subst (λ (G : Context). Says V (Ok q) (rule (Under y B G) b)) j k in
          one_says T V o z (rule Γ e) (λ C F. case_rule s (span_of e) (span_of b) C F (λ A. rule (Under x A Γ) a) (λ B. rule (Under y B Γ) b)) h
          (λ F f. rw t (two_say V V p q z v w (branches_rule s (span_of b) F) (says_grows U V p v grows l) m (λ D E c d. row F D E f c d)))
