-- The lines of a least derivation have types whose limits hold, and amounts in range.
use Rattle.std.proofs.Common.{◌≡◌, Bool, true, false, cond, List, [], ◌∷◌, ◌++◌, arith, refl, subst}
use Rattle.std.specs.Prelude.{bytes_eq, not, Option, Some, None, ⊤}
use Rattle.std.specs.List.{AllByRecursion}
use Rattle.fz_frac.proofs.Laws.{≈-sym}
use Rattle.fz_frac.proofs.Lowest.{endless_fits, narrow, out_same}
use Rattle.fz_frac.specs.Distance.{Distance, Fin, Inf, is_le, none, one}
use Rattle.fz_frac.specs.Lowest.{is_out, lowest}
use Rattle.fz_ast.specs.Limits.{TermLimits, TypeLimits}
use Rattle.fz_ast.specs.Types.{Ty, NumT, TextT, UnitT, TensorT, WithT, SumT, ArrowT, BangT, BagT, BoolT, UnlimitedT, is_ground, formed, same_type}
use Rattle.fz_ast.specs.Terms.{Name, Term, at, VarE, NumE, TextE, UnitE, PairE, WithE, FstE, SndE, LetPairE, InlE, InrE, CaseE, IfE, FunE, FnE, AppE}
use Rattle.fz_ast.specs.Terms.{BangE, LetBangE, LetE, PlusE, MinusE, TimesE, LeE, EqE, ClipE, LeastE, GreatestE, SizeE, SumE, UnionE, MapE, FilterE, SplitE}
use Rattle.term_meanings.specs.Scopes.{AllTypes, Context, Closed, Under, size_of, widest_of}
use Rattle.derivation_rows.specs.Faults.{first_type, second_type}
use Rattle.fz_derive.specs.Least.{Derived, above, derived_with, least, lines_of, over_one, over_two, over_three, said_first, said_of_each, sorted_names, with_part}
use Rattle.derivation_lines.specs.Lines.{Line, Said, amount_in}
use Rattle.derivation_rows.specs.Numbers.{Amounts, Numbers, bound_sums, endless_both, endless_sums, greater_at, named, nothing, products, product_of, ranged, same_as, says_at, sum_of, sums, with_number, without}
use Rattle.derivation_rows.specs.Rows.{Row, row, need, well, var_row, type_in, pair_row, with_row, fst_of, fst_row, snd_of, snd_row, let_pair_row, is_tensor, side_row, inl_row, inr_row, case_row, is_sum, if_row}
use Rattle.derivation_rows.specs.Rows.{fun_row, fn_row, app_of, app_row, bang_row, let_bang_of, let_bang_row, let_row, plus_row, times_row, le_row, eq_of, eq_row, clip_row, least_row}
use Rattle.derivation_rows.specs.Rows.{size_row, is_bag, sum_row, union_row, map_of, map_row, test_of, halves, filter_row, split_row}
use Rattle.fz_derive.proofs.LeastNames.{lowest_same}

-- numbers in range

record InRange (o : Option Distance) : Type 0 where
  pub fits : (d : Distance) → o ≡ Some d → is_out d ≡ false

fits_ranged : (d : Distance) → InRange (ranged d)
fits_ranged d = go (is_out d) refl
  where
    go : (b : Bool) → is_out d ≡ b → InRange (cond b None (Some d))
    go true e = record { fits = λ f h. absurd (cc h) }
    go false e = record { fits = λ f h. let i : d ≡ f = cc h in subst (λ z. is_out z ≡ false) i e }

fits_some : (d : Distance) → is_out d ≡ false → InRange (Some d)
fits_some d e = record { fits = λ f h. let i : d ≡ f = cc h in subst (λ z. is_out z ≡ false) i e }

fits_with : (o : Option Distance) (f : Distance → Option Distance) → ((p : Distance) → InRange (f p)) → InRange (with_number o f)
fits_with None f k = record { fits = λ d h. absurd (cc h) }
fits_with (Some p) f k = k p

none_fits : is_out none ≡ false
none_fits = endless_fits 0

one_fits : is_out one ≡ false
one_fits = narrow 1 1 1 1 (omega arith) refl (omega arith) (omega arith)

AreInRange : Numbers → Type 0
AreInRange n = (x : Name) → InRange (n x)

AllFit : Amounts → Type 0
AllFit D = (x : Name) → is_out (D x) ≡ false

nothing_fits : AreInRange nothing
unfolding AreInRange
nothing_fits x = fits_some none none_fits

named_fits : (y : Name) → AreInRange (named y)
unfolding AreInRange
named_fits y x = fits_some _ (go (bytes_eq y x))
  where
    go : (b : Bool) → is_out (cond b one none) ≡ false
    go true = one_fits
    go false = none_fits

same_fits : (D : Amounts) → AllFit D → AreInRange (same_as D)
unfolding AreInRange AllFit
same_fits D h x = fits_some (D x) (h x)

sums_fit : (D E : Amounts) → AreInRange (sums D E)
unfolding AreInRange
sums_fit D E x = fits_ranged _

products_fit : (r : Distance) (E : Amounts) → AreInRange (products r E)
unfolding AreInRange
products_fit r E x = fits_ranged _

bounds_fit : (D : Amounts) (r : Distance) (E : Amounts) → AreInRange (bound_sums D r E)
unfolding AreInRange
bounds_fit D r E x = fits_with (product_of r (E x)) (λ p. sum_of (D x) p) (λ p. fits_ranged _)

endless_fit : (D E : Amounts) → AreInRange (endless_sums D E)
unfolding AreInRange
endless_fit D E x = fits_with (product_of Inf (D x)) (λ p. sum_of p (E x)) (λ p. fits_ranged _)

both_fit : (D E : Amounts) → AreInRange (endless_both D E)
unfolding AreInRange
both_fit D E x = fits_with (product_of Inf (D x)) (λ p. with_number (product_of Inf (E x)) (λ q. sum_of p q)) (λ p. fits_with (product_of Inf (E x)) (λ q. sum_of p q) (λ q. fits_ranged _))

without_fits : (y : Name) (D : Amounts) → AllFit D → AllFit (without y D)
unfolding AllFit
without_fits y D h x = go (bytes_eq y x)
  where
    go : (b : Bool) → is_out (cond b none (D x)) ≡ false
    go true = none_fits
    go false = h x

greater_fits : (D E : Amounts) → AllFit D → AllFit E → AllFit (greater_at D E)
unfolding AllFit
greater_fits D E h k x = go (is_le (D x) (E x))
  where
    go : (b : Bool) → is_out (cond b (E x) (D x)) ≡ false
    go true = k x
    go false = h x

-- what each line has

abbrev pub Fits : Said → Type 0
Fits s = is_out s.amount ≡ false

pub record IsLimited (l : Line) : Type 0 where
  pub limits : TypeLimits l.ty
  pub each : AllByRecursion Fits l.says

says_fit : (l : Line) → IsLimited l → AllFit (says_at l)
unfolding AllFit
says_fit l h x = go l.says h.each
  where
    go : (ss : List Said) → AllByRecursion Fits ss → is_out (amount_in ss x) ≡ false
    go [] k = none_fits
    go (s ∷ ss) k = one_more (bytes_eq s.name x) (go ss k.1)
      where
        one_more : (b : Bool) → is_out (amount_in ss x) ≡ false → is_out (cond b s.amount (amount_in ss x)) ≡ false
        one_more true r = k.0
        one_more false r = r

abbrev All : List Line → Type 0
All = AllByRecursion IsLimited

record IsLimitedRow (o : Option Row) : Type 0 where
  pub limits : (r : Row) → o ≡ Some r → TypeLimits r.ty
  pub numbers : (r : Row) → o ≡ Some r → AreInRange r.number

no_row : IsLimitedRow None
no_row = record { limits = λ r h. absurd (cc h); numbers = λ r h. absurd (cc h) }

a_row : (A : Ty) (n : Numbers) → TypeLimits A → AreInRange n → IsLimitedRow (row A n)
a_row A n t h = record {
  limits = λ r k. let i : record { ty = A; number = n } ≡ r = cc k in subst (λ (z : Row). TypeLimits z.ty) i t;
  numbers = λ r k. let i : record { ty = A; number = n } ≡ r = cc k in subst (λ (z : Row). AreInRange z.number) i h;
}

needed : (b : Bool) (o : Option Row) → IsLimitedRow o → IsLimitedRow (need b o)
needed true o h = h
needed false o h = no_row

record Limited (o : Option Derived) : Type 0 where
  pub all : (d : Derived) → o ≡ Some d → All (lines_of d)

no_lines : Limited None
no_lines = record { all = λ d h. absurd (cc h) }

said_fit : (xs : List Name) (n : Numbers) → AreInRange n → (ss : List Said) → said_of_each xs n ≡ Some ss → AllByRecursion Fits ss
unfolding AreInRange
said_fit [] n k ss h = let e : [] ≡ ss = cc h in subst (AllByRecursion Fits) e tt
said_fit (x ∷ xs) n k ss h = go (n x) (k x) (said_of_each xs n) (said_fit xs n k) ss h
  where
    go : (o : Option Distance) → InRange o → (r : Option (List Said)) → ((ss : List Said) → r ≡ Some ss → AllByRecursion Fits ss) → (ss : List Said) → said_first x o r ≡ Some ss → AllByRecursion Fits ss
    go None i r f ss h = absurd (cc h)
    go (Some d) i None f ss h = absurd (cc h)
    go (Some d) i (Some later) f ss h =
        let e : cond (is_le d none) later ((record { name = x; amount = lowest d }) ∷ later) ≡ ss = cc h in
        subst (AllByRecursion Fits) e (one_more (is_le d none))
      where
        one_more : (b : Bool) → AllByRecursion Fits (cond b later ((record { name = x; amount = lowest d }) ∷ later))
        one_more true = f later refl
        one_more false = (out_same d (lowest d) (≈-sym (lowest_same d)) (i.fits d refl), f later refl)

over : (Γ : Context) (o : Option Row) (below : List Line) → IsLimitedRow o → All below → Limited (above Γ o below)
over Γ None below h k = no_lines
over Γ (Some r) below h k = go (said_of_each (sorted_names Γ) r.number) refl
  where
    go : (o : Option (List Said)) → said_of_each (sorted_names Γ) r.number ≡ o → Limited (derived_with r.ty below o)
    go None e = no_lines
    go (Some ss) e = record {
      all = λ d i.
          let j : record { own = record { ty = r.ty; says = ss }; below = below } ≡ d = cc i in
          let l : IsLimited (record { ty = r.ty; says = ss }) = record { limits = h.limits r refl; each = said_fit (sorted_names Γ) r.number (h.numbers r refl) ss e } in
          subst (λ z. All (lines_of z)) j (l, k);
    }

all_both : (xs ys : List Line) → All xs → All ys → All (xs ++ ys)
all_both [] ys h k = k
all_both (x ∷ xs) ys h k = (h.0, all_both xs ys h.1 k)

by_part : {o : Option Derived} {f : Derived → Option Derived} → Limited o → ((c : Derived) → All (lines_of c) → Limited (f c)) → Limited (with_part o f)
by_part {o = None} h k = no_lines
by_part {o = Some c} h k = k c (h.all c refl)

by_one : (Γ : Context) {o : Option Derived} (f : Line → Option Row) → Limited o → ((l : Line) → IsLimited l → IsLimitedRow (f l)) → Limited (with_part o (over_one Γ f))
by_one Γ f h k = by_part h (λ c i. over Γ (f c.own) (lines_of c) (k c.own i.0) i)

by_two : (Γ : Context) {o : Option Derived} {p : Derived → Option Derived} (f : Line → Line → Option Row) → Limited o → ((c : Derived) → IsLimited c.own → Limited (p c))
    → ((l m : Line) → IsLimited l → IsLimited m → IsLimitedRow (f l m)) → Limited (with_part o (λ c. with_part (p c) (over_two Γ f c)))
by_two Γ f h k r = by_part h (λ c i. by_part (k c i.0) (λ d j. over Γ (f c.own d.own) (lines_of c ++ lines_of d) (r c.own d.own i.0 j.0) (all_both (lines_of c) (lines_of d) i j)))

by_three : (Γ : Context) {o : Option Derived} {p q : Derived → Option Derived} (f : Line → Line → Line → Option Row) → Limited o → ((c : Derived) → IsLimited c.own → Limited (p c)) → ((c : Derived) → IsLimited c.own → Limited (q c))
    → ((l m n : Line) → IsLimited l → IsLimited m → IsLimited n → IsLimitedRow (f l m n)) → Limited (with_part o (λ c. with_part (p c) (λ d. with_part (q c) (over_three Γ f c d))))
by_three Γ f h k m r = by_part h (λ c i. by_part (k c i.0) (λ d j. by_part (m c i.0) (λ e l.
    over Γ (f c.own d.own e.own) (lines_of c ++ (lines_of d ++ lines_of e)) (r c.own d.own e.own i.0 j.0 l.0) (all_both (lines_of c) (lines_of d ++ lines_of e) i (all_both (lines_of d) (lines_of e) j l)))))

-- types

abbrev pub AllLimited : Context → Type 0
AllLimited Closed = ⊤
AllLimited (Under x A Γ) = TypeLimits A × AllLimited Γ

pub types_limited : (Γ : Context) → AllTypes Γ → AllLimited Γ
types_limited Closed h = tt
types_limited (Under x A Γ) h = (h.0.limits, types_limited Γ h.1)

named_type : (x : Name) (Γ : Context) → AllLimited Γ → (A : Ty) → type_in Γ x ≡ Some A → TypeLimits A
named_type x Closed g A h = absurd (cc h)
named_type x (Under y B Γ) g A h = one_more (bytes_eq y x) h (λ C k. named_type x Γ g.1 C k)
  where
    one_more : (b : Bool) → cond b (Some B) (type_in Γ x) ≡ Some A → ((C : Ty) → type_in Γ x ≡ Some C → TypeLimits C) → TypeLimits A
    one_more true k f = let i : B ≡ A = cc k in subst TypeLimits i g.0
    one_more false k f = f A k

variable : (Γ : Context) (x : Name) → AllLimited Γ → IsLimitedRow (var_row x (type_in Γ x))
variable Γ x g = go (type_in Γ x) (named_type x Γ g)
  where
    go : (o : Option Ty) → ((A : Ty) → o ≡ Some A → TypeLimits A) → IsLimitedRow (var_row x o)
    go None h = no_row
    go (Some A) h = a_row A (named x) (h A refl) (named_fits x)

first_limits : (T : Ty) → TypeLimits T → TypeLimits (first_type T)
first_limits NumT h = tt
first_limits TextT h = tt
first_limits UnitT h = tt
first_limits (TensorT A B) h = h.0
first_limits (WithT A B) h = tt
first_limits (SumT A B) h = h.0
first_limits (ArrowT A B) h = tt
first_limits (BangT r A) h = h.1
first_limits (BagT A) h = tt

second_limits : (T : Ty) → TypeLimits T → TypeLimits (second_type T)
second_limits NumT h = tt
second_limits TextT h = tt
second_limits UnitT h = tt
second_limits (TensorT A B) h = h.1
second_limits (WithT A B) h = tt
second_limits (SumT A B) h = h.1
second_limits (ArrowT A B) h = tt
second_limits (BangT r A) h = tt
second_limits (BagT A) h = tt

-- rows that go by the type of a part
fst_limited : (T : Ty) (l : Line) → TypeLimits T → IsLimited l → IsLimitedRow (fst_of T l)
fst_limited NumT l t h = no_row
fst_limited TextT l t h = no_row
fst_limited UnitT l t h = no_row
fst_limited (TensorT A B) l t h = no_row
fst_limited (WithT A B) l t h = a_row A _ t.0 (same_fits _ (says_fit l h))
fst_limited (SumT A B) l t h = no_row
fst_limited (ArrowT A B) l t h = no_row
fst_limited (BangT r A) l t h = no_row
fst_limited (BagT A) l t h = no_row

snd_limited : (T : Ty) (l : Line) → TypeLimits T → IsLimited l → IsLimitedRow (snd_of T l)
snd_limited NumT l t h = no_row
snd_limited TextT l t h = no_row
snd_limited UnitT l t h = no_row
snd_limited (TensorT A B) l t h = no_row
snd_limited (WithT A B) l t h = a_row B _ t.1 (same_fits _ (says_fit l h))
snd_limited (SumT A B) l t h = no_row
snd_limited (ArrowT A B) l t h = no_row
snd_limited (BangT r A) l t h = no_row
snd_limited (BagT A) l t h = no_row

app_limited : (T : Ty) (l m : Line) → TypeLimits T → IsLimitedRow (app_of T l m)
app_limited NumT l m t = no_row
app_limited TextT l m t = no_row
app_limited UnitT l m t = no_row
app_limited (TensorT A B) l m t = no_row
app_limited (WithT A B) l m t = no_row
app_limited (SumT A B) l m t = no_row
app_limited (ArrowT A B) l m t = needed _ _ (a_row B _ t.1 (sums_fit _ _))
app_limited (BangT r A) l m t = no_row
app_limited (BagT A) l m t = no_row

let_bang_limited : (T : Ty) (x : Name) (l m : Line) → IsLimited m → IsLimitedRow (let_bang_of T x l m)
let_bang_limited NumT x l m k = no_row
let_bang_limited TextT x l m k = no_row
let_bang_limited UnitT x l m k = no_row
let_bang_limited (TensorT A B) x l m k = no_row
let_bang_limited (WithT A B) x l m k = no_row
let_bang_limited (SumT A B) x l m k = no_row
let_bang_limited (ArrowT A B) x l m k = no_row
let_bang_limited (BangT r A) x l m k = needed _ _ (a_row m.ty _ k.limits (bounds_fit _ _ _))
let_bang_limited (BagT A) x l m k = no_row

eq_limited : (T : Ty) (l m : Line) → IsLimitedRow (eq_of T l m)
eq_limited NumT l m = needed _ _ (a_row BoolT _ (tt, tt) (both_fit _ _))
eq_limited TextT l m = needed _ _ (a_row BoolT _ (tt, tt) (sums_fit _ _))
eq_limited UnitT l m = no_row
eq_limited (TensorT A B) l m = no_row
eq_limited (WithT A B) l m = no_row
eq_limited (SumT A B) l m = no_row
eq_limited (ArrowT A B) l m = no_row
eq_limited (BangT r A) l m = no_row
eq_limited (BagT A) l m = no_row

map_limited : (T : Ty) (l m : Line) → TypeLimits T → IsLimitedRow (map_of T l m)
map_limited NumT l m t = no_row
map_limited TextT l m t = no_row
map_limited UnitT l m t = no_row
map_limited (TensorT A B) l m t = no_row
map_limited (WithT A B) l m t = no_row
map_limited (SumT A B) l m t = no_row
map_limited (ArrowT NumT B) l m t = no_row
map_limited (ArrowT TextT B) l m t = no_row
map_limited (ArrowT UnitT B) l m t = no_row
map_limited (ArrowT (TensorT A' B') B) l m t = no_row
map_limited (ArrowT (WithT A' B') B) l m t = no_row
map_limited (ArrowT (SumT A' B') B) l m t = no_row
map_limited (ArrowT (ArrowT A' B') B) l m t = no_row
map_limited (ArrowT (BangT (Fin p q) A) B) l m t = no_row
map_limited (ArrowT (BangT Inf A) B) l m t = needed _ _ (needed _ _ (a_row (BagT B) _ t.1 (endless_fit _ _)))
map_limited (ArrowT (BagT A') B) l m t = no_row
map_limited (BangT r A) l m t = no_row
map_limited (BagT A) l m t = no_row

test_limited : (U : Ty → Ty) → ((A : Ty) → TypeLimits A → TypeLimits (U A)) → (T : Ty) (l m : Line) → TypeLimits T → IsLimitedRow (test_of U T l m)
test_limited U u NumT l m t = no_row
test_limited U u TextT l m t = no_row
test_limited U u UnitT l m t = no_row
test_limited U u (TensorT A B) l m t = no_row
test_limited U u (WithT A B) l m t = no_row
test_limited U u (SumT A B) l m t = no_row
test_limited U u (ArrowT NumT B) l m t = no_row
test_limited U u (ArrowT TextT B) l m t = no_row
test_limited U u (ArrowT UnitT B) l m t = no_row
test_limited U u (ArrowT (TensorT A' B') B) l m t = no_row
test_limited U u (ArrowT (WithT A' B') B) l m t = no_row
test_limited U u (ArrowT (SumT A' B') B) l m t = no_row
test_limited U u (ArrowT (ArrowT A' B') B) l m t = no_row
test_limited U u (ArrowT (BangT (Fin p q) A) B) l m t = no_row
test_limited U u (ArrowT (BangT Inf A) B) l m t = needed _ _ (needed _ _ (a_row (U A) _ (u A t.0.1) (endless_fit _ _)))
test_limited U u (ArrowT (BagT A') B) l m t = no_row
test_limited U u (BangT r A) l m t = no_row
test_limited U u (BagT A) l m t = no_row

plain : (A : Ty) → TypeLimits A → (l : Line) → IsLimited l → IsLimitedRow (row A (same_as (says_at l)))
plain A t l h = a_row A (same_as (says_at l)) t (same_fits (says_at l) (says_fit l h))

numbers : (A : Ty) (n : Numbers) → TypeLimits A → AreInRange n → (b c : Bool) → IsLimitedRow (need b (need c (row A n)))
numbers A n t h b c = needed b _ (needed c _ (a_row A n t h))

side : (T U : Ty) → TypeLimits U → (l : Line) → IsLimited l → IsLimitedRow (side_row T U l)
side T U u l h = needed (well (formed T)) _ (needed (is_ground T) _ (needed (is_ground l.ty) _ (plain U u l h)))

limited : (e : Term) (Γ : Context) → AllLimited Γ → TermLimits e → Limited (least Γ e)
limited (at s (VarE x)) Γ g t = over Γ _ [] (variable Γ x g) tt
limited (at s (NumE z)) Γ g t = over Γ _ [] (a_row NumT nothing tt nothing_fits) tt
limited (at s (TextE z)) Γ g t = over Γ _ [] (a_row TextT nothing tt nothing_fits) tt
limited (at s UnitE) Γ g t = over Γ _ [] (a_row UnitT nothing tt nothing_fits) tt
limited (at s (PairE a b)) Γ g t = by_two Γ pair_row (limited a Γ g t.0) (λ c i. limited b Γ g t.1) (λ l m h k. a_row (TensorT l.ty m.ty) _ (h.limits, k.limits) (sums_fit _ _))
limited (at s (WithE a b)) Γ g t = by_two Γ with_row (limited a Γ g t.0) (λ c i. limited b Γ g t.1) (λ l m h k. a_row (WithT l.ty m.ty) _ (h.limits, k.limits) (same_fits _ (greater_fits _ _ (says_fit l h) (says_fit m k))))
limited (at s (FstE e)) Γ g t = by_one Γ fst_row (limited e Γ g t) (λ l h. fst_limited l.ty l h.limits h)
limited (at s (SndE e)) Γ g t = by_one Γ snd_row (limited e Γ g t) (λ l h. snd_limited l.ty l h.limits h)
limited (at s (LetPairE x y e b)) Γ g t = by_two Γ (let_pair_row x y) (limited e Γ g t.2)
    (λ c i. limited b (Under y (second_type c.own.ty) (Under x (first_type c.own.ty) Γ)) (second_limits c.own.ty i.limits, (first_limits c.own.ty i.limits, g)) t.3)
    (λ l m h k. needed (is_tensor l.ty) _ (a_row m.ty _ k.limits (bounds_fit _ _ _)))
limited (at s (InlE u T e)) Γ g t = by_one Γ (inl_row T) (limited e Γ g t.1) (λ l h. side T (SumT l.ty T) (h.limits, t.0) l h)
limited (at s (InrE u T e)) Γ g t = by_one Γ (inr_row T) (limited e Γ g t.1) (λ l h. side T (SumT T l.ty) (t.0, h.limits) l h)
limited (at s (CaseE e x a y b)) Γ g t = by_three Γ (case_row x y) (limited e Γ g t.0)
    (λ c i. limited a (Under x (first_type c.own.ty) Γ) (first_limits c.own.ty i.limits, g) t.2) (λ c i. limited b (Under y (second_type c.own.ty) Γ) (second_limits c.own.ty i.limits, g) t.4)
    (λ l m n h k j. needed (is_sum l.ty) _ (needed (same_type n.ty m.ty) _ (needed (is_ground m.ty) _ (a_row m.ty _ k.limits (bounds_fit _ _ _)))))
limited (at s (IfE e a b)) Γ g t = by_three Γ if_row (limited e Γ g t.0) (λ c i. limited a Γ g t.1) (λ c i. limited b Γ g t.2) (λ l m n h k j. needed (same_type l.ty BoolT) _ (needed (same_type n.ty m.ty) _ (needed (is_ground m.ty) _ (a_row m.ty _ k.limits (sums_fit _ _)))))
limited (at s (FunE x u T e)) Γ g t = by_one Γ (fun_row x T) (limited e (Under x T Γ) (t.1, g) t.2) (λ l h. needed (well (formed T)) _ (needed (is_le (says_at l x) one) _ (a_row (ArrowT T l.ty) _ (t.1, h.limits) (same_fits (without x (says_at l)) (without_fits x (says_at l) (says_fit l h))))))
limited (at s (FnE x u T e)) Γ g t = by_one Γ (fn_row x T) (limited e (Under x T Γ) (t.1, g) t.2) (λ l h. needed (well (formed T)) _ (a_row (UnlimitedT T l.ty) _ ((tt, t.1), h.limits) (same_fits (without x (says_at l)) (without_fits x (says_at l) (says_fit l h)))))
limited (at s (AppE f a)) Γ g t = by_two Γ app_row (limited f Γ g t.0) (λ c i. limited a Γ g t.1) (λ l m h k. app_limited l.ty l m h.limits)
limited (at s (BangE r e)) Γ g t = by_one Γ (bang_row r) (limited e Γ g t.1) (λ l h. a_row (BangT r l.ty) _ (t.0, h.limits) (products_fit _ _))
limited (at s (LetBangE x e b)) Γ g t = by_two Γ (let_bang_row x) (limited e Γ g t.1) (λ c i. limited b (Under x (first_type c.own.ty) Γ) (first_limits c.own.ty i.limits, g) t.2) (λ l m h k. let_bang_limited l.ty x l m k)
limited (at s (LetE x e b)) Γ g t = by_two Γ (let_row x) (limited e Γ g t.1) (λ c i. limited b (Under x c.own.ty Γ) (i.limits, g) t.2) (λ l m h k. a_row m.ty _ k.limits (bounds_fit _ _ _))
limited (at s (PlusE a b)) Γ g t = by_two Γ plus_row (limited a Γ g t.0) (λ c i. limited b Γ g t.1) (λ l m h k. numbers NumT _ tt (sums_fit _ _) (same_type l.ty NumT) (same_type m.ty NumT))
limited (at s (MinusE a b)) Γ g t = by_two Γ plus_row (limited a Γ g t.0) (λ c i. limited b Γ g t.1) (λ l m h k. numbers NumT _ tt (sums_fit _ _) (same_type l.ty NumT) (same_type m.ty NumT))
limited (at s (TimesE z e)) Γ g t = by_one Γ (times_row z) (limited e Γ g t.1) (λ l h. numbers NumT _ tt (products_fit (size_of z) (says_at l)) (same_type l.ty NumT) (not (is_out (size_of z))))
limited (at s (LeE a b)) Γ g t = by_two Γ le_row (limited a Γ g t.0) (λ c i. limited b Γ g t.1) (λ l m h k. numbers BoolT _ (tt, tt) (both_fit _ _) (same_type l.ty NumT) (same_type m.ty NumT))
limited (at s (EqE a b)) Γ g t = by_two Γ eq_row (limited a Γ g t.0) (λ c i. limited b Γ g t.1) (λ l m h k. eq_limited l.ty l m)
limited (at s (ClipE lo hi e)) Γ g t = by_one Γ clip_row (limited e Γ g t.2) (λ l h. needed (same_type l.ty NumT) _ (plain NumT tt l h))
limited (at s (LeastE e)) Γ g t = by_one Γ least_row (limited e Γ g t) (λ l h. needed (same_type l.ty (WithT NumT NumT)) _ (plain NumT tt l h))
limited (at s (GreatestE e)) Γ g t = by_one Γ least_row (limited e Γ g t) (λ l h. needed (same_type l.ty (WithT NumT NumT)) _ (plain NumT tt l h))
limited (at s (SizeE e)) Γ g t = by_one Γ size_row (limited e Γ g t) (λ l h. needed (is_bag l.ty) _ (plain NumT tt l h))
limited (at s (SumE lo hi e)) Γ g t = by_one Γ (sum_row lo hi) (limited e Γ g t.2) (λ l h. numbers NumT _ tt (products_fit (widest_of lo hi) (says_at l)) (same_type l.ty (BagT NumT)) (not (is_out (widest_of lo hi))))
limited (at s (UnionE a b)) Γ g t = by_two Γ union_row (limited a Γ g t.0) (λ c i. limited b Γ g t.1) (λ l m h k. numbers l.ty _ h.limits (sums_fit _ _) (is_bag l.ty) (same_type m.ty l.ty))
limited (at s (MapE f b)) Γ g t = by_two Γ map_row (limited f Γ g t.0) (λ c i. limited b Γ g t.1) (λ l m h k. map_limited l.ty l m h.limits)
limited (at s (FilterE f b)) Γ g t = by_two Γ filter_row (limited f Γ g t.0) (λ c i. limited b Γ g t.1) (λ l m h k. test_limited BagT (λ A z. z) l.ty l m h.limits)
limited (at s (SplitE f b)) Γ g t = by_two Γ split_row (limited f Γ g t.0) (λ c i. limited b Γ g t.1) (λ l m h k. test_limited halves (λ A z. (z, z)) l.ty l m h.limits)

pub least_limited : (Γ : Context) (e : Term) (d : Derived) → AllTypes Γ → TermLimits e → least Γ e ≡ Some d → AllByRecursion IsLimited (lines_of d)
least_limited Γ e d g t h = (limited e Γ (types_limited Γ g) t).all d h
