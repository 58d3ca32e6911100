-- The log: who added each entry, and what each seat's own entries are.
use Rattle.std.proofs.Common.{◌≡◌, ℕ, zero, suc, ◌+◌, ◌<◌, ◌≤◌, eqb, ◌≢◌, List, [], ◌∷◌, ◌++◌, map, length, sym, refl, ap, ◌∙◌, subst, inl, inr, ⊎_elim, arith, Some, slice_get, eq-eqb, ne_eqb}
use mathlib.Core.Option.{some, some-injective, some-ne-none}
use mathlib.Core.Logic.{dite}
use native.Mathlib.Decide.{ℕ_discrete}
use lib.ListN.{get_elem?}
use Rattle.std.specs.Bool.{if◌then◌else◌}
use Rattle.std.proofs.lemmas.Bool.{le-leb, lt-leb}
use Rattle.owner_lock.specs.Entries.{Ascends, Has, merged, put_in}
use Rattle.owner_lock.specs.History.{entries_of, own_of, Below}

pub append_nil : {A : Type 0} (xs : List A) → xs ++ [] ≡ xs
append_nil [] = refl
append_nil (x ∷ xs) = ap (λ w. x ∷ w) (append_nil xs)

module _ {E : Type 0} where
  own_hit : (j p : ℕ) (x : ℕ × E) (xs : List (ℕ × E)) → x.0 ≡ j → own_of j p (x ∷ xs) ≡ (p, x.1) ∷ own_of j (p + 1) xs
  own_hit j p x xs e = rw (eq-eqb x.0 j e) refl

  own_miss : (j p : ℕ) (x : ℕ × E) (xs : List (ℕ × E)) → x.0 ≢ j → own_of j p (x ∷ xs) ≡ own_of j (p + 1) xs
  own_miss j p x xs n = rw (ne_eqb x.0 j n) refl

  -- an entry at the end
  pub own_snoc : (j p : ℕ) (log : List (ℕ × E)) (x : ℕ × E) → own_of j p (log ++ x ∷ []) ≡ own_of j p log ++ own_of j (p + length log) (x ∷ [])
  own_snoc j p [] x = ap (λ (q : ℕ). own_of j q (x ∷ [])) (omega arith)
  own_snoc j p (y ∷ ys) x =
      let far : p + 1 + length ys ≡ p + length (y ∷ ys) = omega arith in
      let step : own_of j (p + 1) (ys ++ x ∷ []) ≡ own_of j (p + 1) ys ++ own_of j (p + length (y ∷ ys)) (x ∷ []) =
      own_snoc j (p + 1) ys x ∙ ap (λ (q : ℕ). own_of j (p + 1) ys ++ own_of j q (x ∷ [])) far in
      dite (ℕ_discrete y.0 j)
      (λ e. own_hit j p y (ys ++ x ∷ []) e ∙ (ap (λ w. (p, y.1) ∷ w) step ∙ sym (ap (λ w. w ++ own_of j (p + length (y ∷ ys)) (x ∷ [])) (own_hit j p y ys e))))
      (λ n. own_miss j p y (ys ++ x ∷ []) n ∙ (step ∙ sym (ap (λ w. w ++ own_of j (p + length (y ∷ ys)) (x ∷ [])) (own_miss j p y ys n))))

  pub own_added : (j p : ℕ) (log : List (ℕ × E)) (e : E) → own_of j p (log ++ (j, e) ∷ []) ≡ own_of j p log ++ (p + length log, e) ∷ []
  own_added j p log e = own_snoc j p log (j, e) ∙ ap (λ w. own_of j p log ++ w) (own_hit j (p + length log) (j, e) [] refl)

  pub own_other : (j i p : ℕ) (log : List (ℕ × E)) (e : E) → i ≢ j → own_of j p (log ++ (i, e) ∷ []) ≡ own_of j p log
  own_other j i p log e n = own_snoc j p log (i, e) ∙ (ap (λ w. own_of j p log ++ w) (own_miss j (p + length log) (i, e) [] n) ∙ append_nil (own_of j p log))

  -- a seat that is no part of the log has nothing
  pub own_new : (j p n : ℕ) (log : List (ℕ × E)) → Below n log → n ≤ j → own_of j p log ≡ []
  own_new j p n [] b le = refl
  own_new j p n (x ∷ xs) b le = let here = b.0 in own_miss j p x xs (λ e. omega arith) ∙ own_new j (p + 1) n xs b.1 le

  pub below_more : (n m : ℕ) (log : List (ℕ × E)) → n ≤ m → Below n log → Below m log
  below_more n m [] le b = tt
  below_more n m (x ∷ xs) le b = let here = b.0 in (omega arith, below_more n m xs le b.1)

  pub below_snoc : (n : ℕ) (log : List (ℕ × E)) (x : ℕ × E) → x.0 < n → Below n log → Below n (log ++ x ∷ [])
  below_snoc n [] x l b = (l, tt)
  below_snoc n (y ∷ ys) x l b = (b.0, below_snoc n ys x l b.1)

  -- what a seat has stands in the log
  pub own_there : (j p q : ℕ) (d : E) (log : List (ℕ × E)) → Has (q, d) (own_of j p log) → (i : ℕ) × (q ≡ p + i) × (get_elem? log i ≡ some (j, d))
  own_there j p q d [] h = absurd h
  own_there j p q d (x ∷ xs) h = dite (ℕ_discrete x.0 j)
      (λ e. ⊎_elim
      (λ (t : (q, d) ≡ (p, x.1)). (0, (let z = ap (λ (y : ℕ × E). y.0) t in omega arith), ap (λ (y : ℕ × E). some y) (λ i. (e i, sym (ap (λ (y : ℕ × E). y.1) t) i))))
      (λ t. let r = own_there j (p + 1) q d xs t in let at = r.1 in (suc r.0, omega arith, r.2))
      (subst (λ w. Has (q, d) w) (own_hit j p x xs e) h))
      (λ n. let r = own_there j (p + 1) q d xs (subst (λ w. Has (q, d) w) (own_miss j p x xs n) h) in let at = r.1 in (suc r.0, omega arith, r.2))

  -- and what stands there is its own
  pub own_back : (j p i : ℕ) (d : E) (log : List (ℕ × E)) → get_elem? log i ≡ some (j, d) → Has (p + i, d) (own_of j p log)
  own_back j p i d [] e = absurd (some-ne-none (j, d) (sym e))
  own_back j p zero d (x ∷ xs) e = let is = some-injective x (j, d) e in
      subst (λ w. Has (p + 0, d) w) (sym (own_hit j p x xs (ap (λ (y : ℕ × E). y.0) is))) (inl (λ i. ((let z : p + 0 ≡ p = omega arith in z) i, sym (ap (λ (y : ℕ × E). y.1) is) i)))
  own_back j p (suc i) d (x ∷ xs) e =
      let rec = own_back j (p + 1) i d xs e in let far : p + 1 + i ≡ p + suc i = omega arith in
      let there : Has (p + suc i, d) (own_of j (p + 1) xs) = subst (λ (q : ℕ). Has (q, d) (own_of j (p + 1) xs)) far rec in
      dite (ℕ_discrete x.0 j)
      (λ h. subst (λ w. Has (p + suc i, d) w) (sym (own_hit j p x xs h)) (inr there))
      (λ n. subst (λ w. Has (p + suc i, d) w) (sym (own_miss j p x xs n)) there)

  -- the entries, behind a base, by place
  pub later_at : (base : List E) (log : List (ℕ × E)) (p i : ℕ) (a : ℕ × E) → p ≡ length base + i → get_elem? log i ≡ some a
      → slice_get (base ++ entries_of log) p ≡ Some a.1
  later_at [] [] p i a s e = absurd (some-ne-none a (sym e))
  later_at [] (x ∷ xs) zero zero a s e = ap (λ (y : ℕ × E). Some y.1) (some-injective x a e)
  later_at [] (x ∷ xs) zero (suc i) a s e = absurd (omega arith)
  later_at [] (x ∷ xs) (suc p) zero a s e = absurd (omega arith)
  later_at [] (x ∷ xs) (suc p) (suc i) a s e = later_at [] xs p i a (omega arith) e
  later_at (b ∷ bs) log zero i a s e = absurd (omega arith)
  later_at (b ∷ bs) log (suc p) i a s e = later_at bs log p i a (omega arith) e

  pub later_back : (base : List E) (log : List (ℕ × E)) (p : ℕ) (d : E) → length base ≤ p → slice_get (base ++ entries_of log) p ≡ Some d
      → (i j : ℕ) × (p ≡ length base + i) × (get_elem? log i ≡ some (j, d))
  later_back [] [] p d le e = absurd cc
  later_back [] (x ∷ xs) zero d le e = (0, x.0, refl, (let h : x.1 ≡ d = cc in ap (λ (y : E). some (x.0, y)) h))
  later_back [] (x ∷ xs) (suc p) d le e = let r = later_back [] xs p d (omega arith) e in let at = r.2 in (suc r.0, r.1, omega arith, r.3)
  later_back (b ∷ bs) log zero d le e = absurd (omega arith)
  later_back (b ∷ bs) log (suc p) d le e = let r = later_back bs log p d (omega arith) e in let at = r.2 in (r.0, r.1, omega arith, r.3)

  pub entries_snoc : (base : List E) (log : List (ℕ × E)) (i : ℕ) (e : E) → base ++ entries_of (log ++ (i, e) ∷ []) ≡ (base ++ entries_of log) ++ e ∷ []
  entries_snoc [] [] i e = refl
  entries_snoc [] (x ∷ xs) i e = ap (λ w. x.1 ∷ w) (entries_snoc [] xs i e)
  entries_snoc (b ∷ bs) log i e = ap (λ w. b ∷ w) (entries_snoc bs log i e)

  pub length_entries : (base : List E) (log : List (ℕ × E)) → length (base ++ entries_of log) ≡ length base + length log
  length_entries [] [] = refl
  length_entries [] (x ∷ xs) = omega (arith, length_entries [] xs)
  length_entries (b ∷ bs) log = omega (arith, length_entries bs log)

-- what the seat `other` added counts as added by `id`
abbrev pub hand_over : ℕ → ℕ → ℕ → ℕ
hand_over id other i = if eqb i other then id else i

abbrev pub moved : {E : Type 0} → ℕ → ℕ → List (ℕ × E) → List (ℕ × E)
moved id other log = map (λ x. (hand_over id other x.0, x.1)) log

pub hand_hit : (id other i : ℕ) → i ≡ other → hand_over id other i ≡ id
hand_hit id other i e = rw (eq-eqb i other e) refl

pub hand_miss : (id other i : ℕ) → i ≢ other → hand_over id other i ≡ i
hand_miss id other i n = rw (ne_eqb i other n) refl

-- every position is at least p
abbrev pub From : {E : Type 0} → ℕ → List (ℕ × E) → Type 0
From p [] = Unit {0}
From p (x ∷ xs) = (p ≤ x.0) × From p xs

put_first : {E : Type 0} (x : ℕ × E) (l : List (ℕ × E)) → From x.0 l → put_in x l ≡ x ∷ l
put_first x [] f = refl
put_first x (y ∷ ys) f = rw (le-leb x.0 y.0 f.0) refl

put_past : {E : Type 0} (x y : ℕ × E) (l : List (ℕ × E)) → y.0 < x.0 → put_in x (y ∷ l) ≡ y ∷ put_in x l
put_past x y l lt = rw (lt-leb x.0 y.0 lt) refl

merged_first : {E : Type 0} (p : ℕ) (y : ℕ × E) (l m : List (ℕ × E)) → From p l → y.0 < p → merged l (y ∷ m) ≡ y ∷ merged l m
merged_first p y [] m f lt = refl
merged_first p y (x ∷ xs) m f lt = let here = f.0 in ap (put_in x) (merged_first p y xs m f.1 lt) ∙ put_past x y (merged xs m) (omega arith)

module _ {E : Type 0} where
  own_from : (j p q : ℕ) (log : List (ℕ × E)) → q ≤ p → From q (own_of j p log)
  own_from j p q [] le = tt
  own_from j p q (x ∷ xs) le = dite (ℕ_discrete x.0 j)
      (λ e. subst (From q) (sym (own_hit j p x xs e)) (le, own_from j (p + 1) q xs (omega arith)))
      (λ n. subst (From q) (sym (own_miss j p x xs n)) (own_from j (p + 1) q xs (omega arith)))

  pub entries_moved : (id other : ℕ) (log : List (ℕ × E)) → entries_of (moved id other log) ≡ entries_of log
  entries_moved id other [] = refl
  entries_moved id other (x ∷ xs) = ap (λ w. x.1 ∷ w) (entries_moved id other xs)

  pub below_moved : (id other n : ℕ) (log : List (ℕ × E)) → id < n → Below n log → Below n (moved id other log)
  below_moved id other n [] lt b = tt
  below_moved id other n (x ∷ xs) lt b = (
    dite (ℕ_discrete x.0 other) (λ e. subst (λ (z : ℕ). z < n) (sym (hand_hit id other x.0 e)) lt)
        (λ m. subst (λ (z : ℕ). z < n) (sym (hand_miss id other x.0 m)) b.0),
    below_moved id other n xs lt b.1,
  )

  pub own_left : (id other p : ℕ) (log : List (ℕ × E)) → id ≢ other → own_of other p (moved id other log) ≡ []
  own_left id other p [] n = refl
  own_left id other p (x ∷ xs) n =
      own_miss other p (hand_over id other x.0, x.1) (moved id other xs)
      (dite (ℕ_discrete x.0 other) (λ e h. n (sym (hand_hit id other x.0 e) ∙ h)) (λ m h. m (sym (hand_miss id other x.0 m) ∙ h)))
      ∙ own_left id other (p + 1) xs n

  pub own_else : (id other j p : ℕ) (log : List (ℕ × E)) → j ≢ id → j ≢ other → own_of j p (moved id other log) ≡ own_of j p log
  own_else id other j p [] n m = refl
  own_else id other j p (x ∷ xs) n m =
      let y : ℕ × E = (hand_over id other x.0, x.1) in let rec = own_else id other j (p + 1) xs n m in dite (ℕ_discrete x.0 other)
      (λ e. own_miss j p y (moved id other xs) (λ h. n (sym h ∙ hand_hit id other x.0 e)) ∙ (rec ∙ sym (own_miss j p x xs (λ h. m (sym h ∙ e)))))
      (λ o. let same = hand_miss id other x.0 o in dite (ℕ_discrete x.0 j)
      (λ e. own_hit j p y (moved id other xs) (same ∙ e) ∙ (ap (λ w. (p, x.1) ∷ w) rec ∙ sym (own_hit j p x xs e)))
      (λ e. own_miss j p y (moved id other xs) (λ h. e (sym same ∙ h)) ∙ (rec ∙ sym (own_miss j p x xs e))))

  pub own_merged : (id other p : ℕ) (log : List (ℕ × E)) → id ≢ other → own_of id p (moved id other log) ≡ merged (own_of id p log) (own_of other p log)
  own_merged id other p [] n = refl
  own_merged id other p (x ∷ xs) n =
      let y : ℕ × E = (hand_over id other x.0, x.1) in
      let rec = own_merged id other (p + 1) xs n in
      let a : List (ℕ × E) = own_of id (p + 1) xs in
      let b : List (ℕ × E) = own_of other (p + 1) xs in
      dite (ℕ_discrete x.0 other)
      (λ e. let not_id : x.0 ≢ id = λ h. n (sym h ∙ e) in
      own_hit id p y (moved id other xs) (hand_hit id other x.0 e) ∙ (ap (λ w. (p, x.1) ∷ w) rec ∙ sym (
      ap (λ w. merged w (own_of other p (x ∷ xs))) (own_miss id p x xs not_id)
      ∙ (ap (merged a) (own_hit other p x xs e) ∙ merged_first (p + 1) (p, x.1) a b (own_from id (p + 1) (p + 1) xs (omega arith)) (omega arith)))))
      (λ o. let same = hand_miss id other x.0 o in dite (ℕ_discrete x.0 id)
      (λ e. own_hit id p y (moved id other xs) (same ∙ e) ∙ sym (
      ap (λ w. merged w (own_of other p (x ∷ xs))) (own_hit id p x xs e)
      ∙ (ap (λ w. put_in (p, x.1) (merged a w)) (own_miss other p x xs o) ∙ (ap (put_in (p, x.1)) (sym rec) ∙ (
      put_first (p, x.1) (own_of id (p + 1) (moved id other xs)) (own_from id (p + 1) p (moved id other xs) (omega arith)))))))
      (λ e. own_miss id p y (moved id other xs) (λ h. e (sym same ∙ h)) ∙ (rec ∙ sym (
      ap (λ w. merged w (own_of other p (x ∷ xs))) (own_miss id p x xs e) ∙ ap (merged a) (own_miss other p x xs o)))))

  pub below_at : (n i : ℕ) (a : ℕ × E) (log : List (ℕ × E)) → Below n log → get_elem? log i ≡ some a → a.0 < n
  below_at n i a [] b e = absurd (some-ne-none a (sym e))
  below_at n zero a (x ∷ xs) b e = subst (λ (z : ℕ × E). z.0 < n) (some-injective x a e) b.0
  below_at n (suc i) a (x ∷ xs) b e = below_at n i a xs b.1 e

  -- where one seat added all, its own entries are all
  pub own_all : (id p : ℕ) (log : List (ℕ × E)) → ((i : ℕ) (a : ℕ × E) → get_elem? log i ≡ some a → a.0 ≡ id)
      → map (λ z. z.1) (own_of id p log) ≡ entries_of log
  own_all id p [] one = refl
  own_all id p (x ∷ xs) one = ap (map (λ z. z.1)) (own_hit id p x xs (one 0 x refl)) ∙ ap (λ w. x.1 ∷ w) (own_all id (p + 1) xs (λ i a e. one (suc i) a e))

  pub own_ascends : (j p q : ℕ) (log : List (ℕ × E)) → q ≤ p → Ascends q (own_of j p log)
  own_ascends j p q [] le = tt
  own_ascends j p q (x ∷ xs) le = dite (ℕ_discrete x.0 j)
      (λ e. subst (Ascends q) (sym (own_hit j p x xs e)) (le, own_ascends j (p + 1) (p + 1) xs (omega arith)))
      (λ n. subst (Ascends q) (sym (own_miss j p x xs n)) (own_ascends j (p + 1) q xs (omega arith)))
