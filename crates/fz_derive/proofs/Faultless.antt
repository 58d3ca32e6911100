-- No node's rule fails exactly where a term's lines are derived.
use Rattle.std.proofs.Common.{◌≡◌, ℕ, suc, ◌+◌, ◌≤◌, ◌<◌, List, [], ◌∷◌, ◌++◌, take, drop, length, refl, ap, sym, arith, subst, ◌∙◌, Bool, true, false, cond, ◌⊎◌, inl, inr, ◌↔◌}
use Rattle.std.proofs.lemmas.List.{length-append, take_all}
use Rattle.std.specs.Prelude.{None, Option, Some, not, bytes_eq, ℤ}
use Rattle.fz_frac.proofs.Laws.{is_le-yes, le-is_le}
use Rattle.fz_frac.specs.Distance.{Distance, greater, is_le, one, quotient}
use Rattle.fz_frac.specs.Lowest.{is_out}
use Rattle.fz_ast.specs.declared.span.Span.{Span}
use Rattle.fz_ast.specs.Terms.{AppE, BangE, CaseE, ClipE, EqE, FilterE, FnE, FstE, FunE, GreatestE, IfE, InlE, InrE, LeE, LeastE, LetBangE, LetE, LetPairE, MapE, MinusE, Name, NumE, PairE, PlusE, SizeE, SndE, SplitE, SumE, Term, TextE, TimesE, UnionE, UnitE, VarE, WithE, at}
use Rattle.fz_ast.specs.Signature.{Signature}
use Rattle.fz_ast.specs.Types.{BagT, BangT, BoolT, NumT, SumT, TensorT, TextT, Ty, UnitT, WithT, formed, is_flat, is_ground, same_type}
use Rattle.term_meanings.specs.Scopes.{Closed, Context, Under, size_of, widest_of}
use Rattle.fz_derive.proofs.Allowed.{Fine, allowed, allows, bag_of, holding, holding_type, in_named, is_well, named_in, needed, needed_app, needed_eq, needed_fst, needed_map, needed_snd, needed_test, needed_type, needed_unbang, not_true, sum_of, tensor_of, well_is}
use Rattle.fz_derive.proofs.Segments.{Holds, holds_back, holds_first, holds_front, holds_rest, part, part_append, part_cons}
use Rattle.fz_derive.specs.Derivable.{Allows, Derives, IsDerivable, IsNamed, is_app, is_at_most, is_bang, is_case, is_clip, is_eq_num, is_eq_text, is_filter, is_fn, is_fst, is_fun, is_greatest, is_if, is_inl, is_inr, is_least, is_let, is_let_bang, is_let_pair, is_map, is_minus, is_num, is_pair, is_plus, is_size, is_snd, is_split, is_sum, is_text, is_times, is_union, is_unit, is_var, is_with}
use Rattle.derivation_rows.specs.Faults.{fault_in, first_of, first_type, is_fine, node, second_at, second_type, third_at}
use Rattle.fz_derive.specs.Judged.{fault_of, is_bounded, names_of}
use Rattle.derivation_lines.specs.Lines.{Line, line_at}
use Rattle.derivation_rows.specs.Nodes.{nodes_of}
use Rattle.derivation_rows.specs.Numbers.{Numbers, endless_both, named, says_at, sums}
use Rattle.derivation_rows.specs.Rows.{Row, app_of, app_row, bang_row, case_row, filter_row, inl_row, inr_row, let_row, pair_row, split_row, with_row, clip_row, eq_of, eq_row, fn_row, fst_of, fst_row, fun_row, halves, if_row, is_bag, is_sum as is_sum_type, is_tensor, leaf_row, le_row, least_row, let_bang_of, let_bang_row, let_pair_row, map_of, map_row, plus_row, row, size_row, snd_of, snd_row, sum_row, test_of, times_row, type_in, union_row, var_row, well}

-- the lines of a term from k on are derived
pub record Stands (L : List Line) (Γ : Context) (e : Term) (k : ℕ) : Type 0 where
  pub below : List Line
  pub are : part L k (nodes_of e) ≡ line_at L k ∷ below
  pub derives : Derives Γ e (line_at L k ∷ below)

-- so it is where there is room for them and no node's rule fails
abbrev IsBuilt : List Line → Context → Term → Type 0
IsBuilt L Γ e = (k : ℕ) → k + nodes_of e ≤ length L → fault_in L Γ e k ≡ None → Stands L Γ e k

-- under another context, which is the same
moved : {L : List Line} {Γ Δ : Context} {e : Term} {k : ℕ} → Γ ≡ Δ → Stands L Γ e k → Stands L Δ e k
moved {L} {e = e} {k = k} h p = subst (λ D. Stands L D e k) h p

both_none : (a b : Option ℕ) → first_of a b ≡ None → (a ≡ None) × (b ≡ None)
both_none None b h = (refl, h)
both_none (Some n) b h = cc

-- the node of line k is fine, and so is what stands below it
record Node (L : List Line) (Γ : Context) (k : ℕ) (o : Option Row) (P : Type 0) : Type 0 where
  fine : Fine Γ o (line_at L k)
  parts : P

node_of : (L : List Line) (Γ : Context) (k : ℕ) (o : Option Row) (below : Option ℕ) → node L Γ k o below ≡ None → Node L Γ k o (below ≡ None)
node_of L Γ k o below h = go (is_fine Γ o (line_at L k)) refl h
  where
    go : (b : Bool) → is_fine Γ o (line_at L k) ≡ b → cond b below (Some k) ≡ None → Node L Γ k o (below ≡ None)
    go true e i = record { fine = record { is = e }; parts = i }
    go false e i = cc

module _ (L : List Line) (Γ : Context) (k : ℕ) (o : Option Row) where
  below_one : (Δ : Context) (a : Term) → k + suc (nodes_of a) ≤ length L → node L Γ k o (fault_in L Δ a (k + 1)) ≡ None → IsBuilt L Δ a → Node L Γ k o (Stands L Δ a (k + 1))
  below_one Δ a room h f = let n = node_of L Γ k o (fault_in L Δ a (k + 1)) h in record { fine = n.fine; parts = f (k + 1) (omega (arith, room)) n.parts }

  below_two : (Δ Θ : Context) (a b : Term) → k + suc (nodes_of a + nodes_of b) ≤ length L
      → node L Γ k o (first_of (fault_in L Δ a (k + 1)) (fault_in L Θ b (second_at k a))) ≡ None → IsBuilt L Δ a → IsBuilt L Θ b
      → Node L Γ k o (Stands L Δ a (k + 1) × Stands L Θ b (second_at k a))
  below_two Δ Θ a b room h f g =
      let x = fault_in L Δ a (k + 1) in let y = fault_in L Θ b (second_at k a) in
      let n = node_of L Γ k o (first_of x y) h in let c = both_none x y n.parts in
      record { fine = n.fine; parts = (f (k + 1) (omega (arith, room)) c.0, g (second_at k a) (omega (arith, room)) c.1) }

  below_three : (Δ Θ Ξ : Context) (a b c : Term) → k + suc (nodes_of a + (nodes_of b + nodes_of c)) ≤ length L
      → node L Γ k o (first_of (fault_in L Δ a (k + 1)) (first_of (fault_in L Θ b (second_at k a)) (fault_in L Ξ c (third_at k a b)))) ≡ None
      → IsBuilt L Δ a → IsBuilt L Θ b → IsBuilt L Ξ c
      → Node L Γ k o (Stands L Δ a (k + 1) × Stands L Θ b (second_at k a) × Stands L Ξ c (third_at k a b))
  below_three Δ Θ Ξ a b c room h f g i =
      let x = fault_in L Δ a (k + 1) in let y = fault_in L Θ b (second_at k a) in let z = fault_in L Ξ c (third_at k a b) in
      let n = node_of L Γ k o (first_of x (first_of y z)) h in let d = both_none x (first_of y z) n.parts in let e = both_none y z d.1 in
      record { fine = n.fine; parts = (f (k + 1) (omega (arith, room)) d.0, g (second_at k a) (omega (arith, room)) e.0, i (third_at k a b) (omega (arith, room)) e.1) }

module _ (L : List Line) {Γ : Context} {e : Term} (k : ℕ) where
  over_none : k + 1 ≤ length L → nodes_of e ≡ 1 → Derives Γ e (line_at L k ∷ []) → Stands L Γ e k
  over_none room n d = record { below = []; are = ap (part L k) n ∙ part_cons L k 0 (omega (arith, room)); derives = d }

  over_one : {Δ : Context} {a : Term} → k + suc (nodes_of a) ≤ length L → nodes_of e ≡ suc (nodes_of a) → (p : Stands L Δ a (k + 1))
      → Derives Γ e (line_at L k ∷ (line_at L (k + 1) ∷ p.below)) → Stands L Γ e k
  over_one {a = a} room n p d = record {
    below = line_at L (k + 1) ∷ p.below;
    are = ap (part L k) n ∙ part_cons L k (nodes_of a) (omega (arith, room)) ∙ ap (λ M. line_at L k ∷ M) p.are;
    derives = d;
  }

  over_two : {Δ Θ : Context} {a b : Term} → k + suc (nodes_of a + nodes_of b) ≤ length L → nodes_of e ≡ suc (nodes_of a + nodes_of b)
      → (p : Stands L Δ a (k + 1)) (q : Stands L Θ b (second_at k a))
      → Derives Γ e (line_at L k ∷ ((line_at L (k + 1) ∷ p.below) ++ (line_at L (second_at k a) ∷ q.below))) → Stands L Γ e k
  over_two {a = a} {b = b} room n p q d = record {
    below = (line_at L (k + 1) ∷ p.below) ++ (line_at L (second_at k a) ∷ q.below);
    are =
        ap (part L k) n ∙ part_cons L k (nodes_of a + nodes_of b) (omega (arith, room))
        ∙ ap (λ M. line_at L k ∷ M) (part_append L (k + 1) (nodes_of a) (nodes_of b) ∙ (λ i. p.are i ++ q.are i));
    derives = d;
  }

  over_three : {Δ Θ Ξ : Context} {a b c : Term} → k + suc (nodes_of a + (nodes_of b + nodes_of c)) ≤ length L → nodes_of e ≡ suc (nodes_of a + (nodes_of b + nodes_of c))
      → (p : Stands L Δ a (k + 1)) (q : Stands L Θ b (second_at k a)) (s : Stands L Ξ c (third_at k a b))
      → Derives Γ e (line_at L k ∷ ((line_at L (k + 1) ∷ p.below) ++ ((line_at L (second_at k a) ∷ q.below) ++ (line_at L (third_at k a b) ∷ s.below)))) → Stands L Γ e k
  over_three {a = a} {b = b} {c = c} room n p q s d = record {
    below = (line_at L (k + 1) ∷ p.below) ++ ((line_at L (second_at k a) ∷ q.below) ++ (line_at L (third_at k a b) ∷ s.below));
    are =
        ap (part L k) n ∙ part_cons L k (nodes_of a + (nodes_of b + nodes_of c)) (omega (arith, room))
        ∙ ap (λ M. line_at L k ∷ M) (part_append L (k + 1) (nodes_of a) (nodes_of b + nodes_of c)
        ∙ (λ i. p.are i ++ (part_append L (second_at k a) (nodes_of b) (nodes_of c) ∙ (λ j. q.are j ++ s.are j)) i));
    derives = d;
  }

var_of : (Γ : Context) (x : Name) (o : Option Ty) {r : Line} → type_in Γ x ≡ o → Fine Γ (var_row x o) r → (A : Ty) × IsNamed Γ x A × Allows Γ A (named x) r
var_of Γ x None e f = let i = f.is in absurd (cc i)
var_of Γ x (Some A) e f = (A, named_in Γ x A e, allows f)

as_type : {Γ : Context} {A B : Ty} {n : Numbers} {r : Line} → A ≡ B → Allows Γ A n r → Allows Γ B n r
as_type {Γ} {n = n} {r = r} h w = subst (λ T. Allows Γ T n r) h w

of_equation : {L : List Line} {Γ : Context} {a b : Term} {k : ℕ} (s : Span) → k + suc (nodes_of a + nodes_of b) ≤ length L
    → (p : Stands L Γ a (k + 1)) (q : Stands L Γ b (second_at k a)) → Fine Γ (eq_row (line_at L (k + 1)) (line_at L (second_at k a))) (line_at L k) → Stands L Γ (at s (EqE a b)) k
of_equation {L} {Γ} {a} {b} {k} s room p q f = go (needed_eq l.ty l m f)
  where
    l : Line
    l = line_at L (k + 1)

    m : Line
    m = line_at L (second_at k a)

    go : ((l.ty ≡ NumT) × (m.ty ≡ NumT) × Allows Γ BoolT (endless_both (says_at l) (says_at m)) (line_at L k)) ⊎ ((l.ty ≡ TextT) × (m.ty ≡ TextT) × Allows Γ BoolT (sums (says_at l) (says_at m)) (line_at L k))
        → Stands L Γ (at s (EqE a b)) k
    go (inl i) = over_two L k room refl p q (is_eq_num p.derives i.0 q.derives i.1 i.2)
    go (inr i) = over_two L k room refl p q (is_eq_text p.derives i.0 q.derives i.1 i.2)

pub built : (e : Term) (L : List Line) (Γ : Context) (k : ℕ) → k + nodes_of e ≤ length L → fault_in L Γ e k ≡ None → Stands L Γ e k
built (at s (VarE x)) L Γ k room h = let n = node_of L Γ k (var_row x (type_in Γ x)) None h in let v = var_of Γ x (type_in Γ x) refl n.fine in over_none L k room refl (is_var v.1 v.2)
built (at s (NumE z)) L Γ k room h = over_none L k room refl (is_num (allows (node_of L Γ k (leaf_row NumT) None h).fine))
built (at s (TextE t)) L Γ k room h = over_none L k room refl (is_text (allows (node_of L Γ k (leaf_row TextT) None h).fine))
built (at s UnitE) L Γ k room h = over_none L k room refl (is_unit (allows (node_of L Γ k (leaf_row UnitT) None h).fine))
built (at s (PairE a b)) L Γ k room h =
    let n = below_two L Γ k (pair_row (line_at L (k + 1)) (line_at L (second_at k a))) Γ Γ a b room h (λ j r i. built a L Γ j r i) (λ j r i. built b L Γ j r i) in
    let p = n.parts.0 in let q = n.parts.1 in
    over_two L k room refl p q (is_pair p.derives q.derives (allows n.fine))
built (at s (WithE a b)) L Γ k room h =
    let n = below_two L Γ k (with_row (line_at L (k + 1)) (line_at L (second_at k a))) Γ Γ a b room h (λ j r i. built a L Γ j r i) (λ j r i. built b L Γ j r i) in
    let p = n.parts.0 in let q = n.parts.1 in
    over_two L k room refl p q (is_with p.derives q.derives (allows n.fine))
built (at s (FstE e)) L Γ k room h =
    let n = below_one L Γ k (fst_row (line_at L (k + 1))) Γ e room h (λ j r i. built e L Γ j r i) in let p = n.parts in
    let f = needed_fst (line_at L (k + 1)).ty (line_at L (k + 1)) n.fine in over_one L k room refl p (is_fst p.derives f.2 f.3)
built (at s (SndE e)) L Γ k room h =
    let n = below_one L Γ k (snd_row (line_at L (k + 1))) Γ e room h (λ j r i. built e L Γ j r i) in let p = n.parts in
    let f = needed_snd (line_at L (k + 1)).ty (line_at L (k + 1)) n.fine in over_one L k room refl p (is_snd p.derives f.2 f.3)
built (at s (LetPairE x y e b)) L Γ k room h =
    let n = below_two L Γ k (let_pair_row x y (line_at L (k + 1)) (line_at L (second_at k e))) Γ (Under y (second_type (line_at L (k + 1)).ty) (Under x (first_type (line_at L (k + 1)).ty) Γ)) e b room h (λ j r i. built e L Γ j r i) (λ j r i. built b L (Under y (second_type (line_at L (k + 1)).ty) (Under x (first_type (line_at L (k + 1)).ty) Γ)) j r i) in
    let p = n.parts.0 in let f = needed (is_tensor (line_at L (k + 1)).ty) n.fine in let t = tensor_of (line_at L (k + 1)).ty f.0 in
    let q = moved (ap (λ (T : Ty). Under y (second_type T) (Under x (first_type T) Γ)) t.2) n.parts.1 in
    over_two L k room refl p q (is_let_pair p.derives t.2 q.derives (allows f.1))
built (at s (InlE u T e)) L Γ k room h =
    let n = below_one L Γ k (inl_row T (line_at L (k + 1))) Γ e room h (λ j r i. built e L Γ j r i) in let p = n.parts in
    let f = needed (well (formed T)) n.fine in let g = needed (is_ground T) f.1 in let i = needed (is_ground (line_at L (k + 1)).ty) g.1 in
    over_one L k room refl p (is_inl p.derives (is_well (formed T) f.0) g.0 i.0 (allows i.1))
built (at s (InrE u T e)) L Γ k room h =
    let n = below_one L Γ k (inr_row T (line_at L (k + 1))) Γ e room h (λ j r i. built e L Γ j r i) in let p = n.parts in
    let f = needed (well (formed T)) n.fine in let g = needed (is_ground T) f.1 in let i = needed (is_ground (line_at L (k + 1)).ty) g.1 in
    over_one L k room refl p (is_inr p.derives (is_well (formed T) f.0) g.0 i.0 (allows i.1))
built (at s (CaseE e x a y b)) L Γ k room h =
    let n = below_three L Γ k (case_row x y (line_at L (k + 1)) (line_at L (second_at k e)) (line_at L (third_at k e a))) Γ (Under x (first_type (line_at L (k + 1)).ty) Γ) (Under y (second_type (line_at L (k + 1)).ty) Γ) e a b room h
    (λ j r i. built e L Γ j r i) (λ j r i. built a L (Under x (first_type (line_at L (k + 1)).ty) Γ) j r i) (λ j r i. built b L (Under y (second_type (line_at L (k + 1)).ty) Γ) j r i) in
    let p = n.parts.0 in let f = needed (is_sum_type (line_at L (k + 1)).ty) n.fine in let t = sum_of (line_at L (k + 1)).ty f.0 in
    let g = needed_type (line_at L (third_at k e a)).ty (line_at L (second_at k e)).ty f.1 in let i = needed (is_ground (line_at L (second_at k e)).ty) g.1 in
    let q = moved (ap (λ (T : Ty). Under x (first_type T) Γ) t.2) n.parts.1 in
    let v = moved (ap (λ (T : Ty). Under y (second_type T) Γ) t.2) n.parts.2 in
    over_three L k room refl p q v (is_case p.derives t.2 q.derives v.derives g.0 i.0 (allows i.1))
built (at s (IfE e a b)) L Γ k room h =
    let n = below_three L Γ k (if_row (line_at L (k + 1)) (line_at L (second_at k e)) (line_at L (third_at k e a))) Γ Γ Γ e a b room h (λ j r i. built e L Γ j r i) (λ j r i. built a L Γ j r i) (λ j r i. built b L Γ j r i) in
    let f = needed_type (line_at L (k + 1)).ty BoolT n.fine in let g = needed_type (line_at L (third_at k e a)).ty (line_at L (second_at k e)).ty f.1 in let i = needed (is_ground (line_at L (second_at k e)).ty) g.1 in
    let p = n.parts.0 in let q = n.parts.1 in let v = n.parts.2 in
    over_three L k room refl p q v (is_if p.derives f.0 q.derives v.derives g.0 i.0 (allows i.1))
built (at s (FunE x u T e)) L Γ k room h =
    let n = below_one L Γ k (fun_row x T (line_at L (k + 1))) (Under x T Γ) e room h (λ j r i. built e L (Under x T Γ) j r i) in let p = n.parts in
    let f = needed (well (formed T)) n.fine in let g = needed (is_le (says_at (line_at L (k + 1)) x) one) f.1 in
    over_one L k room refl p (is_fun p.derives (is_well (formed T) f.0) (is_le-yes (says_at (line_at L (k + 1)) x) one g.0) (allows g.1))
built (at s (FnE x u T e)) L Γ k room h =
    let n = below_one L Γ k (fn_row x T (line_at L (k + 1))) (Under x T Γ) e room h (λ j r i. built e L (Under x T Γ) j r i) in let p = n.parts in
    let f = needed (well (formed T)) n.fine in over_one L k room refl p (is_fn p.derives (is_well (formed T) f.0) (allows f.1))
built (at s (AppE f a)) L Γ k room h =
    let n = below_two L Γ k (app_row (line_at L (k + 1)) (line_at L (second_at k f))) Γ Γ f a room h (λ j r i. built f L Γ j r i) (λ j r i. built a L Γ j r i) in
    let p = n.parts.0 in let g = needed_app (line_at L (k + 1)).ty (line_at L (k + 1)) (line_at L (second_at k f)) n.fine in let q = n.parts.1 in
    over_two L k room refl p q (is_app p.derives g.2 q.derives g.3 g.4)
built (at s (BangE r e)) L Γ k room h =
    let n = below_one L Γ k (bang_row r (line_at L (k + 1))) Γ e room h (λ j r i. built e L Γ j r i) in let p = n.parts in
    over_one L k room refl p (is_bang p.derives (allows n.fine))
built (at s (LetBangE x e b)) L Γ k room h =
    let n = below_two L Γ k (let_bang_row x (line_at L (k + 1)) (line_at L (second_at k e))) Γ (Under x (first_type (line_at L (k + 1)).ty) Γ) e b room h (λ j r i. built e L Γ j r i) (λ j r i. built b L (Under x (first_type (line_at L (k + 1)).ty) Γ) j r i) in
    let p = n.parts.0 in let f = needed_unbang (line_at L (k + 1)).ty x (line_at L (k + 1)) (line_at L (second_at k e)) n.fine in
    let q = moved (ap (λ (T : Ty). Under x (first_type T) Γ) f.2) n.parts.1 in
    over_two L k room refl p q (is_let_bang p.derives f.2 q.derives f.3 f.4)
built (at s (LetE x e b)) L Γ k room h =
    let n = below_two L Γ k (let_row x (line_at L (k + 1)) (line_at L (second_at k e))) Γ (Under x (line_at L (k + 1)).ty Γ) e b room h (λ j r i. built e L Γ j r i) (λ j r i. built b L (Under x (line_at L (k + 1)).ty Γ) j r i) in
    let p = n.parts.0 in let q = n.parts.1 in
    over_two L k room refl p q (is_let p.derives q.derives (allows n.fine))
built (at s (PlusE a b)) L Γ k room h =
    let n = below_two L Γ k (plus_row (line_at L (k + 1)) (line_at L (second_at k a))) Γ Γ a b room h (λ j r i. built a L Γ j r i) (λ j r i. built b L Γ j r i) in
    let p = n.parts.0 in let f = needed_type (line_at L (k + 1)).ty NumT n.fine in let g = needed_type (line_at L (second_at k a)).ty NumT f.1 in
    let q = n.parts.1 in
    over_two L k room refl p q (is_plus p.derives f.0 q.derives g.0 (allows g.1))
built (at s (MinusE a b)) L Γ k room h =
    let n = below_two L Γ k (plus_row (line_at L (k + 1)) (line_at L (second_at k a))) Γ Γ a b room h (λ j r i. built a L Γ j r i) (λ j r i. built b L Γ j r i) in
    let p = n.parts.0 in let f = needed_type (line_at L (k + 1)).ty NumT n.fine in let g = needed_type (line_at L (second_at k a)).ty NumT f.1 in
    let q = n.parts.1 in
    over_two L k room refl p q (is_minus p.derives f.0 q.derives g.0 (allows g.1))
built (at s (LeE a b)) L Γ k room h =
    let n = below_two L Γ k (le_row (line_at L (k + 1)) (line_at L (second_at k a))) Γ Γ a b room h (λ j r i. built a L Γ j r i) (λ j r i. built b L Γ j r i) in
    let p = n.parts.0 in let f = needed_type (line_at L (k + 1)).ty NumT n.fine in let g = needed_type (line_at L (second_at k a)).ty NumT f.1 in
    let q = n.parts.1 in
    over_two L k room refl p q (is_at_most p.derives f.0 q.derives g.0 (allows g.1))
built (at s (TimesE z e)) L Γ k room h =
    let n = below_one L Γ k (times_row z (line_at L (k + 1))) Γ e room h (λ j r i. built e L Γ j r i) in let p = n.parts in
    let f = needed_type (line_at L (k + 1)).ty NumT n.fine in let g = needed (not (is_out (size_of z))) f.1 in
    over_one L k room refl p (is_times p.derives f.0 (not_true _ g.0) (allows g.1))
built (at s (EqE a b)) L Γ k room h =
    let n = below_two L Γ k (eq_row (line_at L (k + 1)) (line_at L (second_at k a))) Γ Γ a b room h (λ j r i. built a L Γ j r i) (λ j r i. built b L Γ j r i) in of_equation s room n.parts.0 n.parts.1 n.fine
built (at s (ClipE lo hi e)) L Γ k room h =
    let n = below_one L Γ k (clip_row (line_at L (k + 1))) Γ e room h (λ j r i. built e L Γ j r i) in let p = n.parts in
    let f = needed_type (line_at L (k + 1)).ty NumT n.fine in over_one L k room refl p (is_clip p.derives f.0 (allows f.1))
built (at s (LeastE e)) L Γ k room h =
    let n = below_one L Γ k (least_row (line_at L (k + 1))) Γ e room h (λ j r i. built e L Γ j r i) in let p = n.parts in
    let f = needed_type (line_at L (k + 1)).ty (WithT NumT NumT) n.fine in over_one L k room refl p (is_least p.derives f.0 (allows f.1))
built (at s (GreatestE e)) L Γ k room h =
    let n = below_one L Γ k (least_row (line_at L (k + 1))) Γ e room h (λ j r i. built e L Γ j r i) in let p = n.parts in
    let f = needed_type (line_at L (k + 1)).ty (WithT NumT NumT) n.fine in over_one L k room refl p (is_greatest p.derives f.0 (allows f.1))
built (at s (SizeE e)) L Γ k room h =
    let n = below_one L Γ k (size_row (line_at L (k + 1))) Γ e room h (λ j r i. built e L Γ j r i) in let p = n.parts in
    let f = needed (is_bag (line_at L (k + 1)).ty) n.fine in let t = bag_of (line_at L (k + 1)).ty f.0 in over_one L k room refl p (is_size p.derives t.1 (allows f.1))
built (at s (SumE lo hi e)) L Γ k room h =
    let n = below_one L Γ k (sum_row lo hi (line_at L (k + 1))) Γ e room h (λ j r i. built e L Γ j r i) in let p = n.parts in
    let f = needed_type (line_at L (k + 1)).ty (BagT NumT) n.fine in let g = needed (not (is_out (widest_of lo hi))) f.1 in
    over_one L k room refl p (is_sum p.derives f.0 (not_true _ g.0) (allows g.1))
built (at s (UnionE a b)) L Γ k room h =
    let n = below_two L Γ k (union_row (line_at L (k + 1)) (line_at L (second_at k a))) Γ Γ a b room h (λ j r i. built a L Γ j r i) (λ j r i. built b L Γ j r i) in
    let p = n.parts.0 in let f = needed (is_bag (line_at L (k + 1)).ty) n.fine in let t = bag_of (line_at L (k + 1)).ty f.0 in let g = needed_type (line_at L (second_at k a)).ty (line_at L (k + 1)).ty f.1 in
    let q = n.parts.1 in
    over_two L k room refl p q (is_union p.derives t.1 q.derives (g.0 ∙ t.1) (as_type t.1 (allows g.1)))
built (at s (MapE f b)) L Γ k room h =
    let n = below_two L Γ k (map_row (line_at L (k + 1)) (line_at L (second_at k f))) Γ Γ f b room h (λ j r i. built f L Γ j r i) (λ j r i. built b L Γ j r i) in
    let p = n.parts.0 in let g = needed_map (line_at L (k + 1)).ty (line_at L (k + 1)) (line_at L (second_at k f)) n.fine in let q = n.parts.1 in
    over_two L k room refl p q (is_map p.derives g.2 g.3 q.derives g.4 g.5)
built (at s (FilterE f b)) L Γ k room h =
    let n = below_two L Γ k (filter_row (line_at L (k + 1)) (line_at L (second_at k f))) Γ Γ f b room h (λ j r i. built f L Γ j r i) (λ j r i. built b L Γ j r i) in
    let p = n.parts.0 in let g = needed_test BagT (line_at L (k + 1)).ty (line_at L (k + 1)) (line_at L (second_at k f)) n.fine in let q = n.parts.1 in
    over_two L k room refl p q (is_filter p.derives g.1 q.derives g.2 g.3)
built (at s (SplitE f b)) L Γ k room h =
    let n = below_two L Γ k (split_row (line_at L (k + 1)) (line_at L (second_at k f))) Γ Γ f b room h (λ j r i. built f L Γ j r i) (λ j r i. built b L Γ j r i) in
    let p = n.parts.0 in let g = needed_test halves (line_at L (k + 1)).ty (line_at L (k + 1)) (line_at L (second_at k f)) n.fine in let q = n.parts.1 in
    over_two L k room refl p q (is_split p.derives g.1 q.derives g.2 g.3)
