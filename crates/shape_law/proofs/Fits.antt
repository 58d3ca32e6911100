-- When a value is of a shape, at a type.
use Rattle.std.proofs.Common.{refl}
use Rattle.std.specs.Prelude.{Some, ◌≡◌, ℕ}
use Rattle.fz_frac.specs.Distance.{Distance, Inf}
use Rattle.fz_ast.specs.Terms.{Name, Term}
use Rattle.fz_ast.specs.Types.{ArrowT, BangT, TensorT, Ty, WithT}
use Rattle.linear_types.specs.Sensitivities.{Sensitivities}
use Rattle.linear_types.specs.Typing.{AllTypes, Closed, Context, IsBound, Typing, Under, here, there}
use Rattle.metric_values.specs.Values.{BangV, Bind, Empty, Env, FnV, FunV, PairV, Value}
use Rattle.metric_law.proofs.Flatness.{Ground}
use Rattle.metric_law.specs.Means.{find}
use Rattle.metric_law.specs.Near.{Typed, typed_bang, typed_pair}
use Rattle.shape_law.specs.Shapes.{Also, BangS, FnS, FunS, Nothing, PairS, Shape, Shapes, Wide, bang_shape, first_half, in_bang, pair_shape, second_half, shape_of}

mutual
  pub data Fits : Shape → Ty → Value → Type 0 where
    fits_ground : {w i d : ℕ} {A : Ty} {v : Value} → Ground A → Typed A v → Fits (Wide w i d) A v
    fits_pair : {s t : Shape} {A B : Ty} {u v : Value} → Fits s A u → Fits t B v → Fits (PairS s t) (TensorT A B) (PairV u v)
    fits_with : {s t : Shape} {A B : Ty} {u v : Value} → Fits s A u → Fits t B v → Fits (PairS s t) (WithT A B) (PairV u v)
    fits_bang : {s : Shape} {r : Distance} {A : Ty} {v : Value} → Fits s A v → Fits (BangS s) (BangT r A) (BangV v)
    -- a closure's body has its type, and its names fit
    fits_fun : {x : Name} {e : Term} {σ : Shapes} {Γ : Context} {γ : Env} {A B : Ty} {D : Sensitivities}
        → AllTypes (Under x A Γ) → Typing (Under x A Γ) e B D → FitsEnv σ Γ γ → Fits (FunS x e σ) (ArrowT A B) (FunV x e γ)
    fits_fn : {x : Name} {e : Term} {σ : Shapes} {Γ : Context} {γ : Env} {A B : Ty} {D : Sensitivities}
        → AllTypes (Under x A Γ) → Typing (Under x A Γ) e B D → FitsEnv σ Γ γ → Fits (FnS x e σ) (ArrowT (BangT Inf A) B) (FnV x e γ)

  pub data FitsEnv : Shapes → Context → Env → Type 0 where
    fits_nothing : FitsEnv Nothing Closed Empty
    fits_also : {x : Name} {s : Shape} {σ : Shapes} {A : Ty} {Γ : Context} {v : Value} {γ : Env} → Fits s A v → FitsEnv σ Γ γ → FitsEnv (Also x s σ) (Under x A Γ) (Bind x v γ)

-- at ground types a shape says no more than the type
pub ground_typed : (A : Ty) (s : Shape) (v : Value) → Ground A → Fits s A v → Typed A v
ground_typed A _ v g (fits_ground _ t) = t
ground_typed (TensorT A B) _ _ g (fits_pair p q) = typed_pair (ground_typed A _ _ g.0 p) (ground_typed B _ _ g.1 q)
ground_typed (WithT A B) _ _ g (fits_with p q) = typed_pair (ground_typed A _ _ g.0 p) (ground_typed B _ _ g.1 q)
ground_typed (BangT r A) _ _ g (fits_bang p) = typed_bang (ground_typed A _ _ g p)
ground_typed (ArrowT A B) _ _ g (fits_fun w p f) = absurd g
ground_typed (ArrowT A B) _ _ g (fits_fn w p f) = absurd g

-- so at a ground type each shape of its width does
pub as_wide : (w i d : ℕ) (A : Ty) (s : Shape) (v : Value) → Ground A → Fits s A v → Fits (Wide w i d) A v
as_wide w i d A s v g f = fits_ground g (ground_typed A s v g f)

-- a name's value fits its shape
pub find_fits : {Γ : Context} {x : Name} {A : Ty} {D : Sensitivities} {γ : Env} {σ : Shapes} → IsBound Γ x A D → FitsEnv σ Γ γ → (v : Value) × (find γ x ≡ Some v) × Fits (shape_of σ x) A v
find_fits (here e) (fits_also {v = v} f fs) = (v, rw e refl, rw e f)
find_fits (there n b) (fits_also f fs) = let r = find_fits b fs in (r.0, rw n r.1, rw n r.2)

-- products

pub pair_fits : (s t : Shape) (A B : Ty) (u v : Value) → Fits s A u → Fits t B v → Fits (pair_shape s t) (TensorT A B) (PairV u v)
pair_fits _ _ A B u v (fits_ground g p) (fits_ground h q) = fits_ground (g, h) (typed_pair p q)
pair_fits s t A B u v p q = fits_pair p q

pub with_fits : (s t : Shape) (A B : Ty) (u v : Value) → Fits s A u → Fits t B v → Fits (pair_shape s t) (WithT A B) (PairV u v)
with_fits _ _ A B u v (fits_ground g p) (fits_ground h q) = fits_ground (g, h) (typed_pair p q)
with_fits s t A B u v p q = fits_with p q

-- a value that is a pair, with what its halves fit
pub record Halved (s : Shape) (A B : Ty) (v : Value) : Type 0 where
  pub first : Value
  pub second : Value
  pub is : v ≡ PairV first second
  pub left : Fits (first_half s) A first
  pub right : Fits (second_half s) B second

pub halves_fit : {s : Shape} {A B : Ty} {v : Value} → Fits s (TensorT A B) v → Halved s A B v
halves_fit (fits_ground g (typed_pair {a = u} {b = w} p q)) = record { first = u; second = w; is = refl; left = fits_ground g.0 p; right = fits_ground g.1 q }
halves_fit (fits_pair {u = u} {v = w} p q) = record { first = u; second = w; is = refl; left = p; right = q }

pub sides_fit : {s : Shape} {A B : Ty} {v : Value} → Fits s (WithT A B) v → Halved s A B v
sides_fit (fits_ground g (typed_pair {a = u} {b = w} p q)) = record { first = u; second = w; is = refl; left = fits_ground g.0 p; right = fits_ground g.1 q }
sides_fit (fits_with {u = u} {v = w} p q) = record { first = u; second = w; is = refl; left = p; right = q }

-- bangs

pub bang_fits : (s : Shape) (r : Distance) (A : Ty) (v : Value) → Fits s A v → Fits (bang_shape s) (BangT r A) (BangV v)
bang_fits _ r A v (fits_ground g p) = fits_ground g (typed_bang p)
bang_fits s r A v p = fits_bang p

pub held_fits : {s : Shape} {r : Distance} {A : Ty} {v : Value} → Fits s (BangT r A) v → (u : Value) × (v ≡ BangV u) × Fits (in_bang s) A u
held_fits (fits_ground g (typed_bang {a = u} p)) = (u, refl, fits_ground g p)
held_fits (fits_bang {v = u} p) = (u, refl, p)
