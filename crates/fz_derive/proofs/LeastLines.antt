-- What every line of a least derivation has.
use Rattle.std.proofs.Common.{◌≡◌, Bool, true, false, List, [], ◌∷◌, ◌++◌, refl, sym, ap, ◌∙◌, subst}
use Rattle.std.specs.Prelude.{bytes_eq, Option, Some, None, ⊤}
use Rattle.std.specs.List.{AllByRecursion}
use Rattle.fz_frac.proofs.Laws.{≈-trans, ≈-sym, is_le-yes, le-is_le, ⊑-trans}
use Rattle.fz_frac.specs.Distance.{Distance, is_le, none, ◌≈◌}
use Rattle.fz_frac.specs.Lowest.{lowest}
use Rattle.fz_ast.specs.Types.{NumT, TextT, UnitT}
use Rattle.fz_ast.specs.Terms.{Name, Term, at, VarE, NumE, TextE, UnitE, PairE, WithE, FstE, SndE, LetPairE, InlE, InrE, CaseE, IfE, FunE, FnE, AppE}
use Rattle.fz_ast.specs.Terms.{BangE, LetBangE, LetE, PlusE, MinusE, TimesE, LeE, EqE, ClipE, LeastE, GreatestE, SizeE, SumE, UnionE, MapE, FilterE, SplitE}
use Rattle.term_meanings.specs.Scopes.{Context, Closed, Under}
use Rattle.derivation_rows.specs.Faults.{first_type, second_type}
use Rattle.fz_derive.specs.Least.{Derived, above, derived_with, least, lines_of, over_one, over_two, over_three, said_of_each, sorted_names, with_part}
use Rattle.derivation_lines.specs.Lines.{AreInOrder, Line, Said}
use Rattle.fz_derive.specs.Names.{EveryName}
use Rattle.derivation_rows.specs.Rows.{Row, var_row, type_in, leaf_row, pair_row, with_row, fst_row, snd_row, let_pair_row, inl_row, inr_row, case_row, if_row}
use Rattle.derivation_rows.specs.Rows.{fun_row, fn_row, app_row, bang_row, let_bang_row, let_row, plus_row, times_row, le_row, eq_row, clip_row, least_row}
use Rattle.derivation_rows.specs.Rows.{size_row, sum_row, union_row, map_row, filter_row, split_row}
use Rattle.fz_derive.proofs.LeastNames.{all_put, all_said, lowest_same, names_sorted, said_order}

-- what is said of a name: above 0, and in lowest terms
pub record IsKept (P : Name → Type 0) (s : Said) : Type 0 where
  pub name : P s.name
  pub above : is_le s.amount none ≡ false
  pub low : (d : Distance) × (s.amount ≡ lowest d)

pub record IsLeastLine (P : Name → Type 0) (l : Line) : Type 0 where
  pub order : AreInOrder l.says
  pub each : AllByRecursion (IsKept P) l.says

-- P of each name in scope
abbrev pub AllNamed : (Name → Type 0) → Context → Type 0
AllNamed P Closed = ⊤
AllNamed P (Under x A Γ) = P x × AllNamed P Γ

sorted_all : (P : Name → Type 0) (Γ : Context) → AllNamed P Γ → AllByRecursion P (sorted_names Γ)
sorted_all P Closed h = tt
sorted_all P (Under x A Γ) h = all_put P x (sorted_names Γ) h.0 (sorted_all P Γ h.1)

above_low : (d : Distance) → is_le d none ≡ false → is_le (lowest d) none ≡ false
above_low d h = go (is_le (lowest d) none) refl
  where
    go : (b : Bool) → is_le (lowest d) none ≡ b → b ≡ false
    go false e = refl
    go true e = absurd (cc (h, le-is_le d none (⊑-trans d (lowest d) none (lowest_same d).ge (is_le-yes (lowest d) none e))))

-- and each line of a list
module _ (P : Name → Type 0) where
  record Fine (o : Option Derived) : Type 0 where
    pub fine : (d : Derived) → o ≡ Some d → AllByRecursion (IsLeastLine P) (lines_of d)

  all_both : (xs ys : List Line) → AllByRecursion (IsLeastLine P) xs → AllByRecursion (IsLeastLine P) ys → AllByRecursion (IsLeastLine P) (xs ++ ys)
  all_both [] ys h k = k
  all_both (x ∷ xs) ys h k = (h.0, all_both xs ys h.1 k)

  fine_none : Fine None
  fine_none = record { fine = λ d h. absurd (cc h) }

  fine_above : (Γ : Context) (o : Option Row) (below : List Line) → AllNamed P Γ → AllByRecursion (IsLeastLine P) below → Fine (above Γ o below)
  fine_above Γ None below g h = fine_none
  fine_above Γ (Some r) below g h = go (said_of_each (sorted_names Γ) r.number) refl
    where
      go : (o : Option (List Said)) → said_of_each (sorted_names Γ) r.number ≡ o → Fine (derived_with r.ty below o)
      go None e = fine_none
      go (Some ss) e = record {
        fine = λ d i.
            let j : record { own = record { ty = r.ty; says = ss }; below = below } ≡ d = cc i in
            let l : IsLeastLine P (record { ty = r.ty; says = ss }) = record {
              order = said_order (sorted_names Γ) r.number ss e (names_sorted Γ);
              each = all_said (IsKept P) P (λ x d p a. record { name = p; above = above_low d a; low = (d, refl) }) (sorted_names Γ) r.number ss e (sorted_all P Γ g);
            } in
            subst (λ z. AllByRecursion (IsLeastLine P) (lines_of z)) j (l, h);
      }

  fine_part : {o : Option Derived} {f : Derived → Option Derived} → Fine o → ((c : Derived) → AllByRecursion (IsLeastLine P) (lines_of c) → Fine (f c)) → Fine (with_part o f)
  fine_part {o = None} h k = fine_none
  fine_part {o = Some c} h k = k c (h.fine c refl)

  fine_one : (Γ : Context) {o : Option Derived} (f : Line → Option Row) → AllNamed P Γ → Fine o → Fine (with_part o (over_one Γ f))
  fine_one Γ f g h = fine_part h (λ c i. fine_above Γ (f c.own) (lines_of c) g i)

  fine_two : (Γ : Context) {o : Option Derived} {p : Derived → Option Derived} (f : Line → Line → Option Row) → AllNamed P Γ → Fine o → ((c : Derived) → Fine (p c)) → Fine (with_part o (λ c. with_part (p c) (over_two Γ f c)))
  fine_two Γ f g h k = fine_part h (λ c i. fine_part (k c) (λ d j. fine_above Γ (f c.own d.own) (lines_of c ++ lines_of d) g (all_both (lines_of c) (lines_of d) i j)))

  fine_three : (Γ : Context) {o : Option Derived} {p q : Derived → Option Derived} (f : Line → Line → Line → Option Row) → AllNamed P Γ → Fine o → ((c : Derived) → Fine (p c)) → ((c : Derived) → Fine (q c))
      → Fine (with_part o (λ c. with_part (p c) (λ d. with_part (q c) (over_three Γ f c d))))
  fine_three Γ f g h k m = fine_part h (λ c i. fine_part (k c) (λ d j. fine_part (m c) (λ e l.
      fine_above Γ (f c.own d.own e.own) (lines_of c ++ (lines_of d ++ lines_of e)) g (all_both (lines_of c) (lines_of d ++ lines_of e) i (all_both (lines_of d) (lines_of e) j l)))))

  fines : (e : Term) (Γ : Context) → AllNamed P Γ → EveryName P e → Fine (least Γ e)
  fines (at s (VarE x)) Γ g h = fine_above Γ (var_row x (type_in Γ x)) [] g tt
  fines (at s (NumE z)) Γ g h = fine_above Γ (leaf_row NumT) [] g tt
  fines (at s (TextE t)) Γ g h = fine_above Γ (leaf_row TextT) [] g tt
  fines (at s UnitE) Γ g h = fine_above Γ (leaf_row UnitT) [] g tt
  fines (at s (PairE a b)) Γ g h = fine_two Γ pair_row g (fines a Γ g h.0) (λ c. fines b Γ g h.1)
  fines (at s (WithE a b)) Γ g h = fine_two Γ with_row g (fines a Γ g h.0) (λ c. fines b Γ g h.1)
  fines (at s (AppE a b)) Γ g h = fine_two Γ app_row g (fines a Γ g h.0) (λ c. fines b Γ g h.1)
  fines (at s (PlusE a b)) Γ g h = fine_two Γ plus_row g (fines a Γ g h.0) (λ c. fines b Γ g h.1)
  fines (at s (MinusE a b)) Γ g h = fine_two Γ plus_row g (fines a Γ g h.0) (λ c. fines b Γ g h.1)
  fines (at s (LeE a b)) Γ g h = fine_two Γ le_row g (fines a Γ g h.0) (λ c. fines b Γ g h.1)
  fines (at s (EqE a b)) Γ g h = fine_two Γ eq_row g (fines a Γ g h.0) (λ c. fines b Γ g h.1)
  fines (at s (UnionE a b)) Γ g h = fine_two Γ union_row g (fines a Γ g h.0) (λ c. fines b Γ g h.1)
  fines (at s (MapE a b)) Γ g h = fine_two Γ map_row g (fines a Γ g h.0) (λ c. fines b Γ g h.1)
  fines (at s (FilterE a b)) Γ g h = fine_two Γ filter_row g (fines a Γ g h.0) (λ c. fines b Γ g h.1)
  fines (at s (SplitE a b)) Γ g h = fine_two Γ split_row g (fines a Γ g h.0) (λ c. fines b Γ g h.1)
  fines (at s (FstE e)) Γ g h = fine_one Γ fst_row g (fines e Γ g h)
  fines (at s (SndE e)) Γ g h = fine_one Γ snd_row g (fines e Γ g h)
  fines (at s (LeastE e)) Γ g h = fine_one Γ least_row g (fines e Γ g h)
  fines (at s (GreatestE e)) Γ g h = fine_one Γ least_row g (fines e Γ g h)
  fines (at s (SizeE e)) Γ g h = fine_one Γ size_row g (fines e Γ g h)
  fines (at s (LetPairE x y e b)) Γ g h = fine_two Γ (let_pair_row x y) g (fines e Γ g h.2) (λ c. fines b (Under y (second_type c.own.ty) (Under x (first_type c.own.ty) Γ)) (h.1, (h.0, g)) h.3)
  fines (at s (InlE u T e)) Γ g h = fine_one Γ (inl_row T) g (fines e Γ g h)
  fines (at s (InrE u T e)) Γ g h = fine_one Γ (inr_row T) g (fines e Γ g h)
  fines (at s (CaseE e x a y b)) Γ g h = fine_three Γ (case_row x y) g (fines e Γ g h.0) (λ c. fines a (Under x (first_type c.own.ty) Γ) (h.1, g) h.2) (λ c. fines b (Under y (second_type c.own.ty) Γ) (h.3, g) h.4)
  fines (at s (IfE e a b)) Γ g h = fine_three Γ if_row g (fines e Γ g h.0) (λ c. fines a Γ g h.1) (λ c. fines b Γ g h.2)
  fines (at s (FunE x u T e)) Γ g h = fine_one Γ (fun_row x T) g (fines e (Under x T Γ) (h.0, g) h.1)
  fines (at s (FnE x u T e)) Γ g h = fine_one Γ (fn_row x T) g (fines e (Under x T Γ) (h.0, g) h.1)
  fines (at s (BangE r e)) Γ g h = fine_one Γ (bang_row r) g (fines e Γ g h)
  fines (at s (LetBangE x e b)) Γ g h = fine_two Γ (let_bang_row x) g (fines e Γ g h.1) (λ c. fines b (Under x (first_type c.own.ty) Γ) (h.0, g) h.2)
  fines (at s (LetE x e b)) Γ g h = fine_two Γ (let_row x) g (fines e Γ g h.1) (λ c. fines b (Under x c.own.ty Γ) (h.0, g) h.2)
  fines (at s (TimesE k e)) Γ g h = fine_one Γ (times_row k) g (fines e Γ g h)
  fines (at s (ClipE lo hi e)) Γ g h = fine_one Γ clip_row g (fines e Γ g h)
  fines (at s (SumE lo hi e)) Γ g h = fine_one Γ (sum_row lo hi) g (fines e Γ g h)

  pub least_lines : (Γ : Context) (e : Term) (d : Derived) → AllNamed P Γ → EveryName P e → least Γ e ≡ Some d → AllByRecursion (IsLeastLine P) (lines_of d)
  least_lines Γ e d g h i = (fines e Γ g h).fine d i
