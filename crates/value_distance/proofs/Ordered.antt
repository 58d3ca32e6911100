-- The order of elements is total, and its ties are equal elements.
use Rattle.std.proofs.Common.{◌≡◌, refl, ap, sym, arith, List, ℕ, ℤ}
use Rattle.std.specs.declared.cmp.Ordering.{Ordering}
use Rattle.std.specs.declared.cmp.Ordering.TheVariants.{Less, Equal, Greater}
use Rattle.std.specs.Ordering.{is_lt, int_cmp, nat_cmp, ordering_reverse, ordering_then}
use Rattle.std.specs.Cmp.{IsTotalOrder, int_cmp_total, int_ranked, nat_cmp_total, ranked, then_flip, tied_itself}
use Rattle.std.specs.Cmp.Lexicographic.{nat_list_cmp_total, slice_cmp}
use Rattle.std.specs.Prelude.{⊤, [], ◌∷◌, false}
use Rattle.metric_values.specs.Values.{Flat, NumF, TextF, UnitF, PairF, InlF, InrF, BangF}
use Rattle.value_distance.specs.Order.{element_cmp, form_cmp, form_place, inside_cmp}

-- how three comparisons, of a with b, b with c and a with c, go together
abbrev pub Chain : Ordering → Ordering → Ordering → Type 0
Chain Less Less o = o ≡ Less
Chain Less Equal o = o ≡ Less
Chain Less Greater o = ⊤
Chain Equal p o = o ≡ p
Chain Greater Less o = ⊤
Chain Greater Equal o = o ≡ Greater
Chain Greater Greater o = o ≡ Greater

flip_less : (o : Ordering) → ordering_reverse o ≡ Less → o ≡ Greater
flip_less Less h = cc
flip_less Equal h = cc
flip_less Greater h = refl

chain_total : {K : Type 0} (R : K → K → Ordering) → IsTotalOrder R → (x y z : K) → Chain (R x y) (R y z) (R x z)
chain_total {K} R t x y z = go (R x y) (R y z) refl refl
  where
    back : (a b : K) (o : Ordering) → R a b ≡ o → R b a ≡ ordering_reverse o
    back a b o e = let f = t.antisymm b a in rw (f, e) refl

    go : (o p : Ordering) → R x y ≡ o → R y z ≡ p → Chain o p (R x z)
    go Less Less e f = t.trans x y z e f
    go Less Equal e f = let a = back y z Equal f in let b = t.congr z y x a in let c = back x y Less e in let d : R z x ≡ Greater = cc in back z x Greater d
    go Less Greater e f = tt
    go Equal p e f = let a = t.congr x y z e in cc
    go Greater Less e f = tt
    go Greater Equal e f = let a = back y z Equal f in let b = t.congr z y x a in let c = back x y Greater e in let d : R z x ≡ Less = cc in back z x Less d
    go Greater Greater e f = let a = back x y Greater e in let b = back y z Greater f in back z x Less (t.trans z y x b a)

-- the second comparisons matter where the first are ties
chain_then : (o p q o' p' q' : Ordering) → Chain o p q → (o ≡ Equal → p ≡ Equal → Chain o' p' q') → Chain (ordering_then o o') (ordering_then p p') (ordering_then q q')
chain_then Less Less q o' p' q' h k = rw h refl
chain_then Less Equal q Less p' q' h k = rw h (less_first p')
  where
    less_first : (p : Ordering) → Chain Less p Less
    less_first Less = refl
    less_first Equal = refl
    less_first Greater = tt
chain_then Less Equal q o' p' q' h k = rw h (less_first p')
  where
    less_first : (p : Ordering) → Chain Less p Less
    less_first Less = refl
    less_first Equal = refl
    less_first Greater = tt
chain_then Less Greater q o' p' q' h k = tt
chain_then Equal Less q o' p' q' h k = rw h (less_second o')
  where
    less_second : (o : Ordering) → Chain o Less Less
    less_second Less = refl
    less_second Equal = refl
    less_second Greater = tt
chain_then Equal Equal q o' p' q' h k = rw h (k refl refl)
chain_then Equal Greater q o' p' q' h k = rw h (greater_second o')
  where
    greater_second : (o : Ordering) → Chain o Greater Greater
    greater_second Less = tt
    greater_second Equal = refl
    greater_second Greater = refl
chain_then Greater Less q o' p' q' h k = tt
chain_then Greater Equal q o' p' q' h k = rw h (greater_first p')
  where
    greater_first : (p : Ordering) → Chain Greater p Greater
    greater_first Less = tt
    greater_first Equal = refl
    greater_first Greater = refl
chain_then Greater Greater q o' p' q' h k = rw h refl

-- elements whose forms tie have one form
one_form : (x y : Flat) → form_cmp x y ≡ Equal → form_place x ≡ form_place y
one_form x y h = rw h at (ranked (form_place x) (form_place y) (form_cmp x y) refl)

chain_whole : (x y z : Flat) → (form_place x ≡ form_place y → form_place y ≡ form_place z → Chain (inside_cmp x y) (inside_cmp y z) (inside_cmp x z)) → Chain (element_cmp x y) (element_cmp y z) (element_cmp x z)
chain_whole x y z h =
    chain_then (form_cmp x y) (form_cmp y z) (form_cmp x z) (inside_cmp x y) (inside_cmp y z) (inside_cmp x z)
    (chain_total nat_cmp nat_cmp_total (form_place x) (form_place y) (form_place z))
    (λ e f. h (one_form x y e) (one_form y z f))

chain_inside : (x y z : Flat) → form_place x ≡ form_place y → form_place y ≡ form_place z → Chain (inside_cmp x y) (inside_cmp y z) (inside_cmp x z)
chain_inside (NumF x) (NumF y) (NumF z) e f = chain_total int_cmp int_cmp_total x y z
chain_inside (TextF x) (TextF y) (TextF z) e f = chain_total (slice_cmp nat_cmp) nat_list_cmp_total x y z
chain_inside UnitF UnitF UnitF e f = refl
chain_inside (PairF a b) (PairF c d) (PairF g h) e f =
    chain_then (element_cmp a c) (element_cmp c g) (element_cmp a g) (element_cmp b d) (element_cmp d h) (element_cmp b h) (chain_whole a c g (chain_inside a c g)) (λ _ _. chain_whole b d h (chain_inside b d h))
chain_inside (InlF a) (InlF b) (InlF c) e f = chain_whole a b c (chain_inside a b c)
chain_inside (InrF a) (InrF b) (InrF c) e f = chain_whole a b c (chain_inside a b c)
chain_inside (BangF a) (BangF b) (BangF c) e f = chain_whole a b c (chain_inside a b c)
chain_inside x y z e f = absurd (omega (arith, e, f))

chain : (x y z : Flat) → Chain (element_cmp x y) (element_cmp y z) (element_cmp x z)
chain x y z = chain_whole x y z (chain_inside x y z)

turned_whole : (x y : Flat) → inside_cmp x y ≡ ordering_reverse (inside_cmp y x) → element_cmp x y ≡ ordering_reverse (element_cmp y x)
turned_whole x y h = let f : form_cmp x y ≡ ordering_reverse (form_cmp y x) = nat_cmp_total.antisymm (form_place x) (form_place y) in rw (f, h) (then_flip (form_cmp y x) (inside_cmp y x))

beside_unit : (x : Flat) → inside_cmp x UnitF ≡ Equal
beside_unit (NumF z) = refl
beside_unit (TextF s) = refl
beside_unit UnitF = refl
beside_unit (PairF a b) = refl
beside_unit (InlF a) = refl
beside_unit (InrF a) = refl
beside_unit (BangF a) = refl

turned : (x y : Flat) → inside_cmp x y ≡ ordering_reverse (inside_cmp y x)
turned (NumF x) (NumF y) = int_cmp_total.antisymm x y
turned (TextF x) (TextF y) = nat_list_cmp_total.antisymm x y
turned (PairF a b) (PairF c d) = let f = turned_whole a c (turned a c) in let g = turned_whole b d (turned b d) in rw (f, g) (then_flip (element_cmp c a) (element_cmp d b))
turned (InlF a) (InlF b) = turned_whole a b (turned a b)
turned (InrF a) (InrF b) = turned_whole a b (turned a b)
turned (BangF a) (BangF b) = turned_whole a b (turned a b)
turned UnitF y = rw (beside_unit y) refl
turned x y = refl

trans_of : (x y z : Flat) → element_cmp x y ≡ Less → element_cmp y z ≡ Less → element_cmp x z ≡ Less
trans_of x y z e f = rw (e, f) at (chain x y z)

congr_of : (x y z : Flat) → element_cmp x y ≡ Equal → element_cmp x z ≡ element_cmp y z
congr_of x y z e = rw e at (chain x y z)

pub element_cmp_total : IsTotalOrder element_cmp
element_cmp_total = record { antisymm = λ x y. turned_whole x y (turned x y); trans = trans_of; congr = congr_of }

number_tie : (y z : ℤ) → int_cmp y z ≡ Equal → y ≡ z
number_tie y z h = rw h at (int_ranked y z (int_cmp y z) refl)

byte_tie : (y z : ℕ) → nat_cmp y z ≡ Equal → y ≡ z
byte_tie y z h = rw h at (ranked y z (nat_cmp y z) refl)

both_tie : (o p : Ordering) → ordering_then o p ≡ Equal → (o ≡ Equal) × (p ≡ Equal)
both_tie Less p h = cc
both_tie Equal p h = (refl, h)
both_tie Greater p h = cc

text_tie : (s t : List ℕ) → slice_cmp nat_cmp s t ≡ Equal → s ≡ t
text_tie [] [] h = refl
text_tie [] (y ∷ t) h = cc
text_tie (x ∷ s) [] h = cc
text_tie (x ∷ s) (y ∷ t) h = let k = both_tie (nat_cmp x y) (slice_cmp nat_cmp s t) h in let a = byte_tie x y k.0 in let b = text_tie s t k.1 in cc

-- elements that tie are equal
pub element_tie : (x y : Flat) → element_cmp x y ≡ Equal → x ≡ y
element_tie (NumF y) (NumF z) h = ap NumF (number_tie y z h)
element_tie (TextF s) (TextF t) h = ap TextF (text_tie s t h)
element_tie UnitF UnitF h = refl
element_tie (PairF a b) (PairF c d) h = let k = both_tie (element_cmp a c) (element_cmp b d) h in let e = element_tie a c k.0 in let f = element_tie b d k.1 in cc
element_tie (InlF a) (InlF b) h = ap InlF (element_tie a b h)
element_tie (InrF a) (InrF b) h = ap InrF (element_tie a b h)
element_tie (BangF a) (BangF b) h = ap BangF (element_tie a b h)
element_tie x y h = cc

-- and equal elements tie
pub element_tied : (x y : Flat) → x ≡ y → element_cmp x y ≡ Equal
element_tied x y e = rw e (tied_itself element_cmp_total y)

-- what isn't below y is above all that is
pub less_then : (x y z : Flat) → element_cmp x y ≡ Less → is_lt (element_cmp z y) ≡ false → element_cmp x z ≡ Less
less_then x y z h k = go (element_cmp y z) refl
  where
    go : (o : Ordering) → element_cmp y z ≡ o → element_cmp x z ≡ Less
    go Less e = trans_of x y z h e
    go Equal e = rw (h, e) at (chain x y z)
    go Greater e = let a = element_cmp_total.antisymm z y in let b : element_cmp z y ≡ Less = rw (a, e) refl in let c = rw b at k in cc

-- elements of two forms are ordered by the forms alone
pub by_form : (x y : Flat) (m n : ℕ) (r : Ordering) → m ≡ form_place x → n ≡ form_place y → r ≡ nat_cmp m n → (m ≡ n → ⊥) → r ≡ element_cmp x y
by_form x y m n r e f g d = go r (rw (e, f) at g)
  where
    go : (s : Ordering) → s ≡ nat_cmp (form_place x) (form_place y) → s ≡ element_cmp x y
    go Less p = rw (← p) refl
    go Equal p = absurd (d (rw (← e, ← f) at (one_form x y (sym p))))
    go Greater p = rw (← p) refl
