-- What cells stand for, read and kept.
use Rattle.std.proofs.Common.{[], arith, refl, subst, sym, ◌∙◌}
use Rattle.std.proofs.lemmas.List.{append-nil, append_assoc}
use Rattle.std.proofs.Common.{length-append}
use Rattle.std.proofs.Math.ListN.{get_or-append}
use Rattle.std.proofs.lemmas.Option.{get_or_from_slice_get, slice_get-get_or, slice_get_within}
use Rattle.std.specs.Prelude.{⊤, bytes_eq, true, false, ◌&&◌, IfOk, List, Ok, Err, Result, Some, length, slice_get, suc, ℕ, ◌++◌, ◌+◌, ◌-◌, ◌<◌, ◌≡◌, ◌≤◌}
use Rattle.fz_ast.specs.Names.{name_of}
use Rattle.fz_ast.specs.Terms.{Term}
use Rattle.fz_ast.specs.TermNodes.{term_at}
use Rattle.fz_ast.specs.declared.name.Name.{Name}
use Rattle.shape_law.specs.Shapes.{Also, BangS, FnS, FunS, PairS, Shape, Shapes, Wide, bang_shape, first_half, in_bang, pair_shape, second_half, shape_of, wider}
use Rattle.shape_run.specs.Cells.{Adds, Grown, IsScope, IsShape, is_bang, is_fn, is_fun, is_ground, is_pair, more_names, no_names, is_wide}
use Rattle.shape_run.specs.declared.store.Cell.{Cell}
use Rattle.shape_run.specs.declared.store.Cell.TheVariants.{Bang, Fn, Frame, Fun, Ground, Pair}
use Rattle.fz_ast.specs.declared.memory.NoMemory.{NoMemory}

-- more cells

get_more : (cs more : List Cell) (k : ℕ) (c : Cell) → slice_get cs k ≡ Some c → slice_get (cs ++ more) k ≡ Some c
get_more cs more k c h =
    let l = slice_get_within cs k c h in
    let g = get_or_from_slice_get cs k c c h in
    let w : k < length (cs ++ more) = omega (arith, length-append cs more) in
    rw (slice_get-get_or (cs ++ more) k c w, get_or-append cs more c k l, g) refl

get_below : (cs : List Cell) (k : ℕ) (c : Cell) → slice_get cs k ≡ Some c → k < length cs
get_below cs k c h = slice_get_within cs k c h

module _ (N : List Term) (cs more : List Cell) where
  mutual
    shape_more : {k : ℕ} {p : Shape} → IsShape N cs k p → IsShape N (cs ++ more) k p
    shape_more (is_ground h) = is_ground (get_more cs more _ _ h)
    shape_more (is_pair h a b) = is_pair (get_more cs more _ _ h) (shape_more a) (shape_more b)
    shape_more (is_bang h a) = is_bang (get_more cs more _ _ h) (shape_more a)
    shape_more (is_fun h l r) = is_fun (get_more cs more _ _ h) l (scope_more r)
    shape_more (is_fn h l r) = is_fn (get_more cs more _ _ h) l (scope_more r)

    scope_more : {k : ℕ} {σ : Shapes} → IsScope N cs k σ → IsScope N (cs ++ more) k σ
    scope_more no_names = no_names
    scope_more (more_names h l p r) = more_names (get_more cs more _ _ h) l (shape_more p) (scope_more r)

pub shape_kept : (N : List Term) (cs ds : List Cell) (k : ℕ) (p : Shape) → Grown cs ds → IsShape N cs k p → IsShape N ds k p
shape_kept N cs ds k p g h = rw g.1 (shape_more N cs g.0 h)

pub scope_kept : (N : List Term) (cs ds : List Cell) (k : ℕ) (σ : Shapes) → Grown cs ds → IsScope N cs k σ → IsScope N ds k σ
scope_kept N cs ds k σ g h = rw g.1 (scope_more N cs g.0 h)

-- a cell that is read

abbrev pub Reads : List Term → List Cell → Cell → Shape → Type 0
Reads N cs (Ground w j v) s = s ≡ Wide w j v
Reads N cs (Pair a b) s = (p q : Shape) × IsShape N cs a p × IsShape N cs b q × (s ≡ PairS p q)
Reads N cs (Bang a) s = (p : Shape) × IsShape N cs a p × (s ≡ BangS p)
Reads N cs (Fun x e r) s = (σ : Shapes) × IsScope N cs r σ × (e < length N) × (s ≡ FunS (name_of x) (term_at N e) σ)
Reads N cs (Fn x e r) s = (σ : Shapes) × IsScope N cs r σ × (e < length N) × (s ≡ FnS (name_of x) (term_at N e) σ)
Reads N cs (Frame x s r) t = ⊥

pub read : (N : List Term) (cs : List Cell) (k : ℕ) (s : Shape) (c : Cell) → slice_get cs k ≡ Some c → IsShape N cs k s → Reads N cs c s
read N cs k _ c h (is_ground {w = w} {i = j} {h = v} g) = let i : Ground w j v ≡ c = cc (h, g) in subst (λ c. Reads N cs c (Wide w j v)) i refl
read N cs k _ c h (is_pair {a = m} {b = n} {p = p} {q = q} g a b) = let i : Pair m n ≡ c = cc (h, g) in subst (λ c. Reads N cs c (PairS p q)) i (p, q, a, b, refl)
read N cs k _ c h (is_bang {a = m} {p = p} g a) = let i : Bang m ≡ c = cc (h, g) in subst (λ c. Reads N cs c (BangS p)) i (p, a, refl)
read N cs k _ c h (is_fun {e = e} {r = r} {x = x} {σ = σ} g l t) = let i : Fun x e r ≡ c = cc (h, g) in subst (λ c. Reads N cs c (FunS (name_of x) (term_at N e) σ)) i (σ, t, l, refl)
read N cs k _ c h (is_fn {e = e} {r = r} {x = x} {σ = σ} g l t) = let i : Fn x e r ≡ c = cc (h, g) in subst (λ c. Reads N cs c (FnS (name_of x) (term_at N e) σ)) i (σ, t, l, refl)

pub in_cells : (N : List Term) (cs : List Cell) (k : ℕ) (s : Shape) → IsShape N cs k s → k < length cs
in_cells N cs k _ (is_ground g) = get_below cs k _ g
in_cells N cs k _ (is_pair g a b) = get_below cs k _ g
in_cells N cs k _ (is_bang g a) = get_below cs k _ g
in_cells N cs k _ (is_fun g l r) = get_below cs k _ g
in_cells N cs k _ (is_fn g l r) = get_below cs k _ g

pub scope_in : (N : List Term) (cs : List Cell) (k : ℕ) (σ : Shapes) → IsScope N cs k σ → k ≤ length cs
scope_in N cs _ _ no_names = omega arith
scope_in N cs _ _ (more_names {k = k} g l p r) = let h = get_below cs k _ g in omega arith

-- results

pub on_ok : {A E : Type 0} {P Q : A → Type 0} (r : Result A E) → IfOk r P → ((a : A) → P a → Q a) → IfOk r Q
on_ok (Ok a) h k = k a h
on_ok (Err e) h k = tt

pub ground_added : (cs ds : List Cell) (w j v : ℕ) (r : Result ℕ NoMemory) (P : List Term → Shape → Type 0) → IfOk r (λ n. (slice_get ds n ≡ Some (Ground w j v)) × (n ≡ length cs) × (n < 4294967295))
    → ((N : List Term) (p : Shape) → P N p → p ≡ Wide w j v) → Adds ds r P
ground_added cs ds w j v r P h k = on_ok r h (λ n g N p a. rw (k N p a) (is_ground g.0))

pub fun_added : (cs ds : List Cell) (x : Name) (e s : ℕ) (r : Result ℕ NoMemory) → IfOk r (λ n. (slice_get ds n ≡ Some (Fun x e s)) × (n ≡ length cs) × (n < 4294967295)) → Grown cs ds
    → Adds ds r (λ N p. (σ : Shapes) × IsScope N cs s σ × (e < length N) × (p ≡ FunS (name_of x) (term_at N e) σ))
fun_added cs ds x e s r h g = on_ok r h (λ n k N p a. rw a.3 (is_fun k.0 a.2 (scope_kept N cs ds s a.0 g a.1)))

pub fn_added : (cs ds : List Cell) (x : Name) (e s : ℕ) (r : Result ℕ NoMemory) → IfOk r (λ n. (slice_get ds n ≡ Some (Fn x e s)) × (n ≡ length cs) × (n < 4294967295)) → Grown cs ds
    → Adds ds r (λ N p. (σ : Shapes) × IsScope N cs s σ × (e < length N) × (p ≡ FnS (name_of x) (term_at N e) σ))
fn_added cs ds x e s r h g = on_ok r h (λ n k N p a. rw a.3 (is_fn k.0 a.2 (scope_kept N cs ds s a.0 g a.1)))

plus_one : (n : ℕ) → suc n ≡ n + 1
plus_one n = omega arith

pub bound : (cs ds : List Cell) (n : ℕ) (x : Name) (s r : ℕ) → slice_get ds n ≡ Some (Frame x s r) → n ≡ length cs → Grown cs ds
    → (N : List Term) (p : Shape) (σ : Shapes) → IsShape N cs s p → IsScope N cs r σ → IsScope N ds (n + 1) (Also (name_of x) p σ)
bound cs ds n x s r h l g N p σ a b =
    let k = scope_in N cs r σ b in
    let t : IsScope N ds (suc n) (Also (name_of x) p σ) = more_names h (omega (arith, k)) (shape_kept N cs ds s p g a) (scope_kept N cs ds r σ g b) in
    subst (λ m. IsScope N ds m (Also (name_of x) p σ)) (plus_one n) t

-- pairs and their halves

pair_wide : (p q : Shape) → (is_wide p && is_wide q) ≡ true → pair_shape p q ≡ wider p q
pair_wide (Wide v i g) (Wide w j d) h = refl
pair_wide (Wide v i g) (PairS a b) h = cc
pair_wide (Wide v i g) (BangS a) h = cc
pair_wide (Wide v i g) (FunS x e σ) h = cc
pair_wide (Wide v i g) (FnS x e σ) h = cc
pair_wide (PairS a b) q h = cc
pair_wide (BangS a) q h = cc
pair_wide (FunS x e σ) q h = cc
pair_wide (FnS x e σ) q h = cc

pair_apart : (p q : Shape) → (is_wide p && is_wide q) ≡ false → pair_shape p q ≡ PairS p q
pair_apart (Wide v i g) (Wide w j d) h = cc
pair_apart (Wide v i g) (PairS a b) h = refl
pair_apart (Wide v i g) (BangS a) h = refl
pair_apart (Wide v i g) (FunS x e σ) h = refl
pair_apart (Wide v i g) (FnS x e σ) h = refl
pair_apart (PairS a b) q h = refl
pair_apart (BangS a) q h = refl
pair_apart (FunS x e σ) q h = refl
pair_apart (FnS x e σ) q h = refl

pub pair_added : (cs ds : List Cell) (a b : ℕ) (r : Result ℕ NoMemory) → ((N : List Term) (p q : Shape) → IsShape N cs a p → IsShape N cs b q → (is_wide p && is_wide q) ≡ false)
    → IfOk r (λ n. (slice_get ds n ≡ Some (Pair a b)) × (n ≡ length cs) × (n < 4294967295)) → Grown cs ds
    → Adds ds r (λ N s. (p q : Shape) × IsShape N cs a p × IsShape N cs b q × (s ≡ pair_shape p q))
pair_added cs ds a b r n i g =
    on_ok r i (λ m j N s t. rw (t.4, pair_apart t.0 t.1 (n N t.0 t.1 t.2 t.3)) (is_pair j.0 (shape_kept N cs ds a t.0 g t.2) (shape_kept N cs ds b t.1 g t.3)))

pub pair_ground : (cs ds : List Cell) (a b w i d : ℕ) (r : Result ℕ NoMemory) → ((N : List Term) (p q : Shape) → IsShape N cs a p → IsShape N cs b q → (is_wide p && is_wide q) ≡ true)
    → ((N : List Term) (p q : Shape) → IsShape N cs a p → IsShape N cs b q → wider p q ≡ Wide w i d)
    → Adds ds r (λ N p. p ≡ Wide w i d) → Adds ds r (λ N s. (p q : Shape) × IsShape N cs a p × IsShape N cs b q × (s ≡ pair_shape p q))
pair_ground cs ds a b w i d r g both added = on_ok r added (λ l f N s t. f N s (t.4 ∙ pair_wide t.0 t.1 (g N t.0 t.1 t.2 t.3) ∙ both N t.0 t.1 t.2 t.3))

-- neither a ground value's shape nor a pair's
abbrev pub NotHalved : Cell → Type 0
NotHalved (Ground w j v) = ⊥
NotHalved (Pair a b) = ⊥
NotHalved c = ⊤

pub unhalved : (cs : List Cell) (k : ℕ) (c : Cell) → slice_get cs k ≡ Some c → NotHalved c → (N : List Term) (r : Shape) → (p : Shape) × IsShape N cs k p × (r ≡ first_half p) → r ≡ Wide 0 0 0
unhalved cs k c h n N r t = go c n (read N cs k t.0 c h t.1)
  where
    go : (c : Cell) → NotHalved c → Reads N cs c t.0 → r ≡ Wide 0 0 0
    go (Ground w j v) n i = absurd n
    go (Pair a b) n i = absurd n
    go (Bang a) n i = rw (t.2, i.2) refl
    go (Fun x e s) n i = rw (t.2, i.3) refl
    go (Fn x e s) n i = rw (t.2, i.3) refl
    go (Frame x s q) n i = absurd i

pub unhalved2 : (cs : List Cell) (k : ℕ) (c : Cell) → slice_get cs k ≡ Some c → NotHalved c → (N : List Term) (r : Shape) → (p : Shape) × IsShape N cs k p × (r ≡ second_half p) → r ≡ Wide 0 0 0
unhalved2 cs k c h n N r t = go c n (read N cs k t.0 c h t.1)
  where
    go : (c : Cell) → NotHalved c → Reads N cs c t.0 → r ≡ Wide 0 0 0
    go (Ground w j v) n i = absurd n
    go (Pair a b) n i = absurd n
    go (Bang a) n i = rw (t.2, i.2) refl
    go (Fun x e s) n i = rw (t.2, i.3) refl
    go (Fn x e s) n i = rw (t.2, i.3) refl
    go (Frame x s q) n i = absurd i

pub not_halved : (c : Cell) → ((w j v : ℕ) → c ≡ Ground w j v → ⊥) → ((a b : ℕ) → c ≡ Pair a b → ⊥) → NotHalved c
not_halved (Ground w j v) h k = h w j v refl
not_halved (Pair a b) h k = k a b refl
not_halved (Bang a) h k = tt
not_halved (Fun x e s) h k = tt
not_halved (Fn x e s) h k = tt
not_halved (Frame x s r) h k = tt

-- names

pub scope_read : (N : List Term) (cs : List Cell) (k : ℕ) (σ : Shapes) (c : Cell) → (k ≡ 0 → ⊥) → slice_get cs (k - 1) ≡ Some c → IsScope N cs k σ
    → (x : Name) × (s r : ℕ) × (p : Shape) × (τ : Shapes) × (c ≡ Frame x s r) × (r < k) × IsShape N cs s p × IsScope N cs r τ × (σ ≡ Also (name_of x) p τ)
scope_read N cs _ _ c z h no_names = absurd (z refl)
scope_read N cs _ _ c z h (more_names {k = k} {s = s} {r = r} {x = x} {p = p} {σ = σ} g l a b) =
    let e : suc k - 1 ≡ k = omega arith in
    let h' : slice_get cs k ≡ Some c = subst (λ j. slice_get cs j ≡ Some c) e h in
    (x, s, r, p, σ, cc (h', g), omega (arith, l), a, b, refl)

pub no_name : (N : List Term) (cs : List Cell) (k : ℕ) (σ : Shapes) (x : List ℕ) → k ≡ 0 → IsScope N cs k σ → shape_of σ x ≡ Wide 0 0 0
no_name N cs _ _ x e no_names = refl
no_name N cs _ _ x e (more_names g l a b) = absurd (omega (arith, e))

pub below_length : (N : List Term) (cs : List Cell) (k : ℕ) (σ : Shapes) → (k ≡ 0 → ⊥) → IsScope N cs k σ → k - 1 < length cs
below_length N cs _ _ z no_names = absurd (z refl)
below_length N cs _ _ z (more_names {k = k} g l a b) = let h = get_below cs k _ g in omega arith

pub frame_only : (N : List Term) (cs : List Cell) (k : ℕ) (σ : Shapes) (c : Cell) → (k ≡ 0 → ⊥) → slice_get cs (k - 1) ≡ Some c → ((x : Name) (s r : ℕ) → c ≡ Frame x s r → ⊥) → IsScope N cs k σ → ⊥
frame_only N cs k σ c z h n i = let t = scope_read N cs k σ c z h i in n t.0 t.1 t.2 t.5

-- the frame that is read
pub frame_read : (N : List Term) (cs : List Cell) (k : ℕ) (σ : Shapes) (x : Name) (s r : ℕ) → (k ≡ 0 → ⊥) → slice_get cs (k - 1) ≡ Some (Frame x s r) → IsScope N cs k σ
    → (p : Shape) × (τ : Shapes) × (r < k) × IsShape N cs s p × IsScope N cs r τ × (σ ≡ Also (name_of x) p τ)
frame_read N cs k σ x s r z h i =
    let t = scope_read N cs k σ (Frame x s r) z h i in
    let ex : t.0 ≡ x = cc t.5 in
    let es : t.1 ≡ s = cc t.5 in
    let er : t.2 ≡ r = cc t.5 in
    (t.3, t.4, subst (λ r. r < k) er t.6, subst (λ s. IsShape N cs s t.3) es t.7, subst (λ r. IsScope N cs r t.4) er t.8, subst (λ x. σ ≡ Also (name_of x) t.3 t.4) ex t.9)

shape_there : (x : Name) (y : List ℕ) (p : Shape) (τ σ : Shapes) → σ ≡ Also (name_of x) p τ → bytes_eq (name_of x) y ≡ true → p ≡ shape_of σ y
shape_there x y p τ σ h e = rw (h, e) refl

shape_past : (x : Name) (y : List ℕ) (p : Shape) (τ σ : Shapes) → σ ≡ Also (name_of x) p τ → bytes_eq (name_of x) y ≡ false → shape_of σ y ≡ shape_of τ y
shape_past x y p τ σ h e = rw (h, e) refl

pub found : (N : List Term) (cs : List Cell) (k : ℕ) (σ : Shapes) (x : Name) (s r : ℕ) (y : List ℕ) → (k ≡ 0 → ⊥) → slice_get cs (k - 1) ≡ Some (Frame x s r) → bytes_eq (name_of x) y ≡ true → IsScope N cs k σ
    → IsShape N cs s (shape_of σ y)
found N cs k σ x s r y z h e i = let t = frame_read N cs k σ x s r z h i in subst (IsShape N cs s) (shape_there x y t.0 t.1 σ t.5 e) t.3

pub further : (N : List Term) (cs : List Cell) (k : ℕ) (σ : Shapes) (x : Name) (s r : ℕ) (y : List ℕ) → (k ≡ 0 → ⊥) → slice_get cs (k - 1) ≡ Some (Frame x s r) → bytes_eq (name_of x) y ≡ false → IsScope N cs k σ
    → (τ : Shapes) × (r < k) × IsScope N cs r τ × (shape_of σ y ≡ shape_of τ y)
further N cs k σ x s r y z h e i = let t = frame_read N cs k σ x s r z h i in (t.1, t.2, t.4, shape_past x y t.0 t.1 σ t.5 e)

-- neither a ground value's shape nor a bang's
abbrev pub NotHolding : Cell → Type 0
NotHolding (Ground w j v) = ⊥
NotHolding (Bang a) = ⊥
NotHolding c = ⊤

pub not_holding : (c : Cell) → ((w j v : ℕ) → c ≡ Ground w j v → ⊥) → ((a : ℕ) → c ≡ Bang a → ⊥) → NotHolding c
not_holding (Ground w j v) h k = h w j v refl
not_holding (Pair a b) h k = tt
not_holding (Bang a) h k = k a refl
not_holding (Fun x e s) h k = tt
not_holding (Fn x e s) h k = tt
not_holding (Frame x s r) h k = tt

pub unheld : (cs : List Cell) (k : ℕ) (c : Cell) → slice_get cs k ≡ Some c → NotHolding c → (N : List Term) (r : Shape) → (p : Shape) × IsShape N cs k p × (r ≡ in_bang p) → r ≡ Wide 0 0 0
unheld cs k c h n N r t = go c n (read N cs k t.0 c h t.1)
  where
    go : (c : Cell) → NotHolding c → Reads N cs c t.0 → r ≡ Wide 0 0 0
    go (Ground w j v) n i = absurd n
    go (Pair a b) n i = rw (t.2, i.4) refl
    go (Bang a) n i = absurd n
    go (Fun x e s) n i = rw (t.2, i.3) refl
    go (Fn x e s) n i = rw (t.2, i.3) refl
    go (Frame x s q) n i = absurd i

pub grown_same : (cs ds : List Cell) → ds ≡ cs → Grown cs ds
grown_same cs ds h = ([], rw h (sym (append-nil cs)))

pub grown_on : (cs ds es : List Cell) → Grown cs ds → Grown ds es → Grown cs es
grown_on cs ds es g h = (g.0 ++ h.0, rw (h.1, g.1) (append_assoc cs g.0 h.0))

bang_kept : (p : Shape) → is_wide p ≡ true → bang_shape p ≡ p
bang_kept (Wide w i d) h = refl
bang_kept (PairS a b) h = cc
bang_kept (BangS a) h = cc
bang_kept (FunS x e σ) h = cc
bang_kept (FnS x e σ) h = cc

bang_made : (p : Shape) → is_wide p ≡ false → bang_shape p ≡ BangS p
bang_made (Wide w i d) h = cc
bang_made (PairS a b) h = refl
bang_made (BangS a) h = refl
bang_made (FunS x e σ) h = refl
bang_made (FnS x e σ) h = refl

pub bang_same : (cs : List Cell) (k : ℕ) → ((N : List Term) (p : Shape) → IsShape N cs k p → is_wide p ≡ true) → (N : List Term) (r : Shape) → (p : Shape) × IsShape N cs k p × (r ≡ bang_shape p) → IsShape N cs k r
bang_same cs k g N r t = subst (IsShape N cs k) (sym (t.2 ∙ bang_kept t.0 (g N t.0 t.1))) t.1

pub bang_added : (cs ds : List Cell) (a : ℕ) (r : Result ℕ NoMemory) → ((N : List Term) (p : Shape) → IsShape N cs a p → is_wide p ≡ false)
    → IfOk r (λ n. (slice_get ds n ≡ Some (Bang a)) × (n ≡ length cs) × (n < 4294967295)) → Grown cs ds → Adds ds r (λ N s. (p : Shape) × IsShape N cs a p × (s ≡ bang_shape p))
bang_added cs ds a r n i g = on_ok r i (λ m j N s t. rw (t.2, bang_made t.0 (n N t.0 t.1)) (is_bang j.0 (shape_kept N cs ds a t.0 g t.1)))
