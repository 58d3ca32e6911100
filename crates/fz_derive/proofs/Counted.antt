-- A derivation has a line for each node, and no node's rule fails in it.
use Rattle.std.proofs.Common.{◌≡◌, ℕ, suc, ◌+◌, ◌≤◌, List, [], ◌∷◌, ◌++◌, length, refl, ap, sym, subst, ◌∙◌, true, cond}
use Rattle.std.proofs.lemmas.List.{length-append}
use Rattle.std.specs.Prelude.{None, Option, Some, not}
use Rattle.fz_frac.proofs.Laws.{le-is_le}
use Rattle.fz_frac.specs.Distance.{one}
use Rattle.fz_frac.specs.Lowest.{is_out}
use Rattle.fz_ast.specs.Terms.{Name, Term}
use Rattle.fz_ast.specs.Types.{BagT, BoolT, NumT, SumT, TensorT, TextT, Ty, UnitT}
use Rattle.term_meanings.specs.Scopes.{Context, Under}
use Rattle.fz_derive.proofs.Allowed.{Fine, allowed, holding, holding_type, in_named, well_is}
use Rattle.fz_derive.proofs.Segments.{Holds, holds_back, holds_first, holds_front, holds_rest}
use Rattle.fz_derive.specs.Derivable.{Allows, Derives, IsNamed, is_app, is_at_most, is_bang, is_case, is_clip, is_eq_num, is_eq_text, is_filter, is_fn, is_fst, is_fun, is_greatest, is_if, is_inl, is_inr, is_least, is_let, is_let_bang, is_let_pair, is_map, is_minus, is_num, is_pair, is_plus, is_size, is_snd, is_split, is_sum, is_text, is_times, is_union, is_unit, is_var, is_with}
use Rattle.derivation_rows.specs.Faults.{fault_in, first_of, first_type, is_fine, node, second_at, second_type, third_at}
use Rattle.derivation_lines.specs.Lines.{Line, line_at}
use Rattle.derivation_rows.specs.Nodes.{nodes_of}
use Rattle.derivation_rows.specs.Numbers.{Numbers, named}
use Rattle.derivation_rows.specs.Rows.{Row, app_of, app_row, bang_row, case_row, clip_row, eq_of, eq_row, filter_row, fn_row, fst_of, fst_row, fun_row, halves, if_row, inl_row, inr_row, is_bag, is_sum as is_sum_type, is_tensor, le_row, leaf_row, least_row, let_bang_of, let_bang_row, let_pair_row, let_row, map_of, map_row, pair_row, plus_row, size_row, snd_of, snd_row, split_row, sum_row, test_of, times_row, type_in, union_row, var_row, with_row}

-- as many lines as the term has nodes
pub record Counts (L : List Line) (e : Term) : Type 0 where
  pub is : length L ≡ nodes_of e

of_two : {J K : List Line} {a b : Term} → Counts J a → Counts K b → suc (length (J ++ K)) ≡ suc (nodes_of a + nodes_of b)
of_two {J} {K} h i = ap suc (length-append J K ∙ (λ t. h.is t + i.is t))

of_three : {I J K : List Line} {a b c : Term} → Counts I a → Counts J b → Counts K c → suc (length (I ++ (J ++ K))) ≡ suc (nodes_of a + (nodes_of b + nodes_of c))
of_three {I} {J} {K} g h i = ap suc (length-append I (J ++ K) ∙ (λ t. g.is t + (length-append J K ∙ (λ u. h.is u + i.is u)) t))

pub count : {Γ : Context} {e : Term} {L : List Line} → Derives Γ e L → Counts L e
count (is_var h w) = record { is = refl }
count (is_num w) = record { is = refl }
count (is_text w) = record { is = refl }
count (is_unit w) = record { is = refl }
count (is_fst p h w) = record { is = ap suc (count p).is }
count (is_snd p h w) = record { is = ap suc (count p).is }
count (is_inl p f g h w) = record { is = ap suc (count p).is }
count (is_inr p f g h w) = record { is = ap suc (count p).is }
count (is_fun p f h w) = record { is = ap suc (count p).is }
count (is_fn p f w) = record { is = ap suc (count p).is }
count (is_bang p w) = record { is = ap suc (count p).is }
count (is_times p h o w) = record { is = ap suc (count p).is }
count (is_clip p h w) = record { is = ap suc (count p).is }
count (is_least p h w) = record { is = ap suc (count p).is }
count (is_greatest p h w) = record { is = ap suc (count p).is }
count (is_size p h w) = record { is = ap suc (count p).is }
count (is_sum p h o w) = record { is = ap suc (count p).is }
count (is_pair p q w) = record { is = of_two (count p) (count q) }
count (is_with p q w) = record { is = of_two (count p) (count q) }
count (is_let_pair p h q w) = record { is = of_two (count p) (count q) }
count (is_app p h q i w) = record { is = of_two (count p) (count q) }
count (is_let_bang p h q o w) = record { is = of_two (count p) (count q) }
count (is_let p q w) = record { is = of_two (count p) (count q) }
count (is_plus p h q i w) = record { is = of_two (count p) (count q) }
count (is_minus p h q i w) = record { is = of_two (count p) (count q) }
count (is_at_most p h q i w) = record { is = of_two (count p) (count q) }
count (is_eq_num p h q i w) = record { is = of_two (count p) (count q) }
count (is_eq_text p h q i w) = record { is = of_two (count p) (count q) }
count (is_union p h q i w) = record { is = of_two (count p) (count q) }
count (is_map p h f q i w) = record { is = of_two (count p) (count q) }
count (is_filter p h q i w) = record { is = of_two (count p) (count q) }
count (is_split p h q i w) = record { is = of_two (count p) (count q) }
count (is_case p h q v i g w) = record { is = of_three (count p) (count q) (count v) }
count (is_if p h q v i g w) = record { is = of_three (count p) (count q) (count v) }

-- the node's line is fine where the parts' lines and its own are these

module _ {Γ : Context} where
  zero_at : {o : Option Row} {r r' : Line} → r' ≡ r → Fine Γ o r → Fine Γ o r'
  zero_at {o} s h = record { is = (λ i. is_fine Γ o (s i)) ∙ h.is }

  one_at : (f : Line → Option Row) {l l' r r' : Line} → l' ≡ l → r' ≡ r → Fine Γ (f l) r → Fine Γ (f l') r'
  one_at f p s h = record { is = (λ i. is_fine Γ (f (p i)) (s i)) ∙ h.is }

  two_at : (f : Line → Line → Option Row) {l l' m m' r r' : Line} → l' ≡ l → m' ≡ m → r' ≡ r → Fine Γ (f l m) r → Fine Γ (f l' m') r'
  two_at f p q s h = record { is = (λ i. is_fine Γ (f (p i) (q i)) (s i)) ∙ h.is }

  three_at : (f : Line → Line → Line → Option Row) {l l' m m' n n' r r' : Line} → l' ≡ l → m' ≡ m → n' ≡ n → r' ≡ r → Fine Γ (f l m n) r → Fine Γ (f l' m' n') r'
  three_at f p q v s h = record { is = (λ i. is_fine Γ (f (p i) (q i) (v i)) (s i)) ∙ h.is }

  -- where a part's type is of the wanted form
  by_type : {r : Line} (F : Ty → Option Row) {T U : Ty} → T ≡ U → Fine Γ (F U) r → Fine Γ (F T) r
  by_type {r} F e h = subst (λ T. Fine Γ (F T) r) (sym e) h

  as_type : {A B : Ty} {n : Numbers} {r : Line} → A ≡ B → Allows Γ A n r → Allows Γ B n r
  as_type {n = n} {r = r} h w = subst (λ T. Allows Γ T n r) h w

  none_below : (L : List Line) (k : ℕ) {o : Option Row} {below : Option ℕ} → Fine Γ o (line_at L k) → below ≡ None → node L Γ k o below ≡ None
  none_below L k {o} {below} f h = ap (λ b. cond b below (Some k)) f.is ∙ h

none_both : {a b : Option ℕ} → a ≡ None → b ≡ None → first_of a b ≡ None
none_both {b = b} h i = ap (λ o. first_of o b) h ∙ i

type_of : {l m : Line} → l ≡ m → l.ty ≡ m.ty
type_of h = ap (λ (l : Line). l.ty) h

-- a term's lines stand among others from k on, and none of them is at fault
pub record Faultless (Γ : Context) (e : Term) (K : List Line) : Type 0 where
  pub none : (L : List Line) (k : ℕ) → Holds L k K → fault_in L Γ e k ≡ None

module _ {L : List Line} {Γ : Context} {k : ℕ} {r l : Line} {A : List Line} where
  over_one : (f : Line → Option Row) {Δ : Context} {a : Term} → Holds L k (r ∷ (l ∷ A)) → Fine Γ (f l) r → Faultless Δ a (l ∷ A)
      → node L Γ k (f (line_at L (k + 1))) (fault_in L Δ a (k + 1)) ≡ None
  over_one f h w p = let t = holds_rest h in none_below L k (one_at f (holds_first t) (holds_first h) w) (p.none L (k + 1) t)

  over_two : (f : Line → Line → Option Row) {Δ : Context} (Θ : Ty → Context) {a b : Term} {m : Line} {B : List Line} → Counts (l ∷ A) a
      → Holds L k (r ∷ ((l ∷ A) ++ (m ∷ B))) → Fine Γ (f l m) r → Faultless Δ a (l ∷ A) → Faultless (Θ l.ty) b (m ∷ B)
      → node L Γ k (f (line_at L (k + 1)) (line_at L (second_at k a))) (first_of (fault_in L Δ a (k + 1)) (fault_in L (Θ (line_at L (k + 1)).ty) b (second_at k a))) ≡ None
  over_two f Θ {a} {b} {m} {B} n h w p q =
      let t = holds_rest h in let x = holds_front (l ∷ A) (m ∷ B) t in let y = holds_back (l ∷ A) (m ∷ B) n.is t in
      none_below L k (two_at f (holds_first x) (holds_first y) (holds_first h) w)
      (none_both (p.none L (k + 1) x) (ap (λ T. fault_in L (Θ T) b (second_at k a)) (type_of (holds_first x)) ∙ q.none L (second_at k a) y))

  over_three : (f : Line → Line → Line → Option Row) {Δ : Context} (Θ Ξ : Ty → Context) {a b c : Term} {m n : Line} {B C : List Line} → Counts (l ∷ A) a → Counts (m ∷ B) b
      → Holds L k (r ∷ ((l ∷ A) ++ ((m ∷ B) ++ (n ∷ C)))) → Fine Γ (f l m n) r → Faultless Δ a (l ∷ A) → Faultless (Θ l.ty) b (m ∷ B) → Faultless (Ξ l.ty) c (n ∷ C)
      → node L Γ k (f (line_at L (k + 1)) (line_at L (second_at k a)) (line_at L (third_at k a b)))
      (first_of (fault_in L Δ a (k + 1)) (first_of (fault_in L (Θ (line_at L (k + 1)).ty) b (second_at k a)) (fault_in L (Ξ (line_at L (k + 1)).ty) c (third_at k a b)))) ≡ None
  over_three f Θ Ξ {a} {b} {c} {m} {n} {B} {C} i j h w p q v =
      let t = holds_rest h in let x = holds_front (l ∷ A) ((m ∷ B) ++ (n ∷ C)) t in let u = holds_back (l ∷ A) ((m ∷ B) ++ (n ∷ C)) i.is t in
      let y = holds_front (m ∷ B) (n ∷ C) u in let z = holds_back (m ∷ B) (n ∷ C) j.is u in
      none_below L k (three_at f (holds_first x) (holds_first y) (holds_first z) (holds_first h) w)
      (none_both (p.none L (k + 1) x) (none_both (ap (λ T. fault_in L (Θ T) b (second_at k a)) (type_of (holds_first x)) ∙ q.none L (second_at k a) y)
      (ap (λ T. fault_in L (Ξ T) c (third_at k a b)) (type_of (holds_first x)) ∙ v.none L (third_at k a b) z)))

by_name : {Γ : Context} {x : Name} {A : Ty} {r : Line} → IsNamed Γ x A → Allows Γ A (named x) r → Fine Γ (var_row x (type_in Γ x)) r
by_name {Γ} {x} {r = r} h w = subst (λ o. Fine Γ (var_row x o) r) (sym (in_named h)) (allowed w)

-- under another context, which is the same
under : {Γ Δ : Context} {e : Term} {K : List Line} → Γ ≡ Δ → Faultless Δ e K → Faultless Γ e K
under {e = e} {K = K} h p = subst (λ D. Faultless D e K) (sym h) p

pub faultless : {Γ : Context} {e : Term} {K : List Line} → Derives Γ e K → Faultless Γ e K
faultless {Γ} (is_var {x = x} h w) = record { none = λ L k t. none_below L k (zero_at (holds_first t) (by_name h w)) refl }
faultless (is_num w) = record { none = λ L k t. none_below L k {o = leaf_row NumT} (zero_at (holds_first t) (allowed w)) refl }
faultless (is_text w) = record { none = λ L k t. none_below L k {o = leaf_row TextT} (zero_at (holds_first t) (allowed w)) refl }
faultless (is_unit w) = record { none = λ L k t. none_below L k {o = leaf_row UnitT} (zero_at (holds_first t) (allowed w)) refl }
faultless (is_fst {l = l} p h w) = record { none = λ L k t. over_one fst_row t (by_type (λ T. fst_of T l) h (allowed w)) (faultless p) }
faultless (is_snd {l = l} p h w) = record { none = λ L k t. over_one snd_row t (by_type (λ T. snd_of T l) h (allowed w)) (faultless p) }
faultless (is_inl {T = T} p f g h w) = record { none = λ L k t. over_one (inl_row T) t (holding (well_is f) (holding g (holding h (allowed w)))) (faultless p) }
faultless (is_inr {T = T} p f g h w) = record { none = λ L k t. over_one (inr_row T) t (holding (well_is f) (holding g (holding h (allowed w)))) (faultless p) }
faultless (is_fun {x = x} {T = T} {l = l} p f h w) = record { none = λ L k t. over_one (fun_row x T) t (holding (well_is f) (holding (le-is_le _ _ h) (allowed w))) (faultless p) }
faultless (is_fn {x = x} {T = T} p f w) = record { none = λ L k t. over_one (fn_row x T) t (holding (well_is f) (allowed w)) (faultless p) }
faultless (is_bang {q = q} p w) = record { none = λ L k t. over_one (bang_row q) t (allowed w) (faultless p) }
faultless (is_times {k = z} p h o w) = record { none = λ L k t. over_one (times_row z) t (holding_type h (holding (ap not o) (allowed w))) (faultless p) }
faultless (is_clip p h w) = record { none = λ L k t. over_one clip_row t (holding_type h (allowed w)) (faultless p) }
faultless (is_least p h w) = record { none = λ L k t. over_one least_row t (holding_type h (allowed w)) (faultless p) }
faultless (is_greatest p h w) = record { none = λ L k t. over_one least_row t (holding_type h (allowed w)) (faultless p) }
faultless (is_size p h w) = record { none = λ L k t. over_one size_row t (holding (ap is_bag h) (allowed w)) (faultless p) }
faultless (is_sum {lo = lo} {hi = hi} p h o w) = record { none = λ L k t. over_one (sum_row lo hi) t (holding_type h (holding (ap not o) (allowed w))) (faultless p) }
faultless {Γ} (is_pair p q w) = record { none = λ L k t. over_two pair_row (λ T. Γ) (count p) t (allowed w) (faultless p) (faultless q) }
faultless {Γ} (is_with p q w) = record { none = λ L k t. over_two with_row (λ T. Γ) (count p) t (allowed w) (faultless p) (faultless q) }
faultless {Γ} (is_let_pair {x = x} {y = y} p h q w) = record { none = λ L k t. over_two (let_pair_row x y) (λ T. Under y (second_type T) (Under x (first_type T) Γ)) (count p) t (holding (ap is_tensor h) (allowed w)) (faultless p) (under (ap (λ (T : Ty). Under y (second_type T) (Under x (first_type T) Γ)) h) (faultless q)) }
faultless {Γ} (is_app {l = l} {m = m} p h q i w) = record { none = λ L k t. over_two app_row (λ T. Γ) (count p) t (by_type (λ T. app_of T l m) h (holding_type i (allowed w))) (faultless p) (faultless q) }
faultless {Γ} (is_let_bang {x = x} {l = l} {m = m} p h q o w) = record { none = λ L k t. over_two (let_bang_row x) (λ T. Under x (first_type T) Γ) (count p) t (by_type (λ T. let_bang_of T x l m) h (holding (ap not o) (allowed w))) (faultless p) (under (ap (λ (T : Ty). Under x (first_type T) Γ) h) (faultless q)) }
faultless {Γ} (is_let {x = x} p q w) = record { none = λ L k t. over_two (let_row x) (λ T. Under x T Γ) (count p) t (allowed w) (faultless p) (faultless q) }
faultless {Γ} (is_plus p h q i w) = record { none = λ L k t. over_two plus_row (λ T. Γ) (count p) t (holding_type h (holding_type i (allowed w))) (faultless p) (faultless q) }
faultless {Γ} (is_minus p h q i w) = record { none = λ L k t. over_two plus_row (λ T. Γ) (count p) t (holding_type h (holding_type i (allowed w))) (faultless p) (faultless q) }
faultless {Γ} (is_at_most p h q i w) = record { none = λ L k t. over_two le_row (λ T. Γ) (count p) t (holding_type h (holding_type i (allowed w))) (faultless p) (faultless q) }
faultless {Γ} (is_eq_num {l = l} {m = m} p h q i w) = record { none = λ L k t. over_two eq_row (λ T. Γ) (count p) t (by_type (λ T. eq_of T l m) h (holding_type i (allowed w))) (faultless p) (faultless q) }
faultless {Γ} (is_eq_text {l = l} {m = m} p h q i w) = record { none = λ L k t. over_two eq_row (λ T. Γ) (count p) t (by_type (λ T. eq_of T l m) h (holding_type i (allowed w))) (faultless p) (faultless q) }
faultless {Γ} (is_union p h q i w) = record { none = λ L k t. over_two union_row (λ T. Γ) (count p) t (holding (ap is_bag h) (holding_type (i ∙ sym h) (allowed (as_type (sym h) w)))) (faultless p) (faultless q) }
faultless {Γ} (is_map {l = l} {m = m} p h f q i w) = record { none = λ L k t. over_two map_row (λ T. Γ) (count p) t (by_type (λ T. map_of T l m) h (holding f (holding_type i (allowed w)))) (faultless p) (faultless q) }
faultless {Γ} (is_filter {l = l} {m = m} p h q i w) = record { none = λ L k t. over_two filter_row (λ T. Γ) (count p) t (by_type (λ T. test_of BagT T l m) h (holding_type {A = BoolT} refl (holding_type i (allowed w)))) (faultless p) (faultless q) }
faultless {Γ} (is_split {l = l} {m = m} p h q i w) = record { none = λ L k t. over_two split_row (λ T. Γ) (count p) t (by_type (λ T. test_of halves T l m) h (holding_type {A = BoolT} refl (holding_type i (allowed w)))) (faultless p) (faultless q) }
faultless {Γ} (is_case {x = x} {y = y} p h q v i g w) = record {
  none = λ L k t.
      over_three (case_row x y) (λ T. Under x (first_type T) Γ) (λ T. Under y (second_type T) Γ) (count p) (count q) t
      (holding (ap is_sum_type h) (holding_type i (holding g (allowed w)))) (faultless p)
      (under (ap (λ (T : Ty). Under x (first_type T) Γ) h) (faultless q)) (under (ap (λ (T : Ty). Under y (second_type T) Γ) h) (faultless v));
}
faultless {Γ} (is_if p h q v i g w) = record {
  none = λ L k t.
      over_three if_row (λ T. Γ) (λ T. Γ) (count p) (count q) t (holding_type h (holding_type i (holding g (allowed w)))) (faultless p) (faultless q) (faultless v);
}
