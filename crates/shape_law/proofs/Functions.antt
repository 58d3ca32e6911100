-- What the run of a function of rows without data says of its runs.
use Rattle.std.proofs.Common.{arith, refl, subst}
use Rattle.std.specs.Prelude.{List, suc, true, ℕ, ◌-◌, ◌≡◌, ◌≤◌}
use Rattle.fz_ast.specs.Limits.{IsText, TermLimits}
use Rattle.fz_ast.specs.Terms.{Term}
use Rattle.fz_ast.specs.Types.{ArrowT, BangT, TextT, Ty, UnlimitedT, is_flat}
use Rattle.fz_frac.specs.Distance.{Inf}
use Rattle.linear_types.proofs.Sound.{sound}
use Rattle.linear_types.proofs.Written.{arrow_parts, bang_parts, written}
use Rattle.linear_types.specs.Typing.{Closed, Typing}
use Rattle.metric_law.proofs.FlatTyping.{typed_flat}
use Rattle.metric_law.proofs.Flatness.{Ground, flat_of}
use Rattle.metric_law.proofs.Heights.{applies_up, raise}
use Rattle.metric_law.specs.Means.{Applies, MeansIn}
use Rattle.metric_law.specs.Near.{TypedText, typed_bang, typed_text}
use Rattle.metric_values.specs.Typed.{TypedFlat}
use Rattle.metric_values.specs.Values.{BangV, Empty, Flat, TextV, Value, value_of}
use Rattle.row_functions.proofs.Texts.{text_computed}
use Rattle.row_functions.specs.RowFunctions.{IsRowFunction, RunsOnRows, depth_limit, row_text}
use Rattle.shape_law.proofs.Fits.{Fits, fits_ground, fits_nothing, ground_typed}
use Rattle.shape_law.proofs.Kept.{entered, next_is, walk_keeps}
use Rattle.shape_law.proofs.Programs.{depth_limit_is, told_is}
use Rattle.shape_law.proofs.Reaches as reaches
use Rattle.shape_law.proofs.Runs.{Runs, enters_run, flat_ground, run}
use Rattle.shape_law.proofs.Widths as widths
use Rattle.shape_law.specs.Law.{FunctionPlansAreWithinLimits}
use Rattle.shape_law.specs.ShapeIn.{Enters, ShapeIn}
use Rattle.shape_law.specs.Shapes.{Nothing, Shape, Wide}
use Rattle.shape_law.specs.Walk.{Shaped, Tally, WalkOutcome, applied_shape, enters, next, start, turn_limit, walk}

-- the function's shape, what came with it, and then the body's
parts : (t : Term) (s : Shape) (k : Tally) → applied_shape t ≡ Shaped s k
    → (c : Shape) × (j : Tally) × (walk depth_limit 1 Nothing t start ≡ Shaped c j) × (enters (walk (depth_limit - 1) 2) c (Wide 0 0 0) j ≡ Shaped s k)
parts t s k h =
    let body : Shape → Tally → WalkOutcome = λ c. enters (walk (depth_limit - 1) 2) c (Wide 0 0 0) in
    let o = walk depth_limit 1 Nothing t start in
    next_is o body s k (told_is (next o body) s k h).0

-- The function has its shape by a walk as high as the deepest visit, and its body by one that is one less high.
pub record HasShapes (t : Term) (s : Shape) (k : Tally) : Type 0 where
  pub function : Shape
  pub term : ShapeIn k.depth Nothing t function
  pub body : Enters (ShapeIn (k.depth - 1)) function (Wide 0 0 0) s
  pub deep : k.depth ≤ depth_limit
  pub long : k.turns ≤ turn_limit

pub shapes : (t : Term) (s : Shape) (k : Tally) → applied_shape t ≡ Shaped s k → HasShapes t s k
shapes t s k h =
    let p = parts t s k h in
    let D = depth_limit in
    let a = walk_keeps D D 1 (omega arith) Nothing t p.0 start p.1 p.2 in
    let b = entered D (walk (D - 1) 2) (λ m. ShapeIn (suc m - 2)) (walk_keeps D (D - 1) 2 (omega (arith, depth_limit_is))) p.0 (Wide 0 0 0) s p.1 k p.3 in
    let e : suc k.depth - 1 ≡ k.depth = omega arith in
    let f : suc k.depth - 2 ≡ k.depth - 1 = omega arith in
    record {
      function = p.0;
      term = subst (λ n. ShapeIn n Nothing t p.0) e (a.holds k.depth (omega (arith, b.later.deeper)));
      body = subst (λ n. Enters (ShapeIn n) p.0 (Wide 0 0 0) s) f (b.holds k.depth (omega arith));
      deep = omega (arith, a.later.shallow, b.later.shallow);
      long = omega (arith, a.later.short, b.later.short);
    }

pub function_limits : FunctionPlansAreWithinLimits
function_limits t s k h =
    let p = parts t s k h in
    let D = depth_limit in
    let w = shapes t s k h in
    let narrow = widths.narrow_walk D 1 Nothing t p.0 start p.1 widths.narrow_nothing (omega arith) p.2 in
    let low = reaches.low_walk D 1 (omega (arith, depth_limit_is)) Nothing t p.0 start p.1 (omega arith) p.2 in
    record {
      deep = w.deep;
      long = w.long;
      wide = (widths.entered (walk (D - 1) 2) (widths.narrow_walk (D - 1) 2) p.0 (Wide 0 0 0) s p.1 k narrow.0 widths.none narrow.1 p.3).1;
      shallow = reaches.entered (walk (D - 1) 2) (reaches.low_walk (D - 1) 2 (omega (arith, depth_limit_is))) p.0 (Wide 0 0 0) s p.1 k low p.3;
    }

text_value : (v : Value) → TypedText v → (s : List ℕ) × (v ≡ TextV s) × IsText s
text_value _ (typed_text {s = s} l) = (s, refl, l)

-- rows of a function's type are ground
ground_row : (row : Ty) (t : Term) → is_flat row ≡ true → TermLimits t → IsRowFunction row t → Ground row
ground_row row t g l f =
    let p = sound t Closed l (UnlimitedT row TextT) f.0 f.1 in
    flat_ground row (flat_of row g (bang_parts Inf row (arrow_parts (BangT Inf row) TextT (written tt p)).0).1.limits)

module _ (row : Ty) (t : Term) (g : is_flat row ≡ true) (l : TermLimits t) (f : IsRowFunction row t) (s : Shape) (k : Tally) (h : applied_shape t ≡ Shaped s k) where
  as_shaped : HasShapes t s k
  as_shaped = shapes t s k h

  function : Runs k.depth Empty t as_shaped.function (UnlimitedT row TextT)
  function = run k.depth Closed tt t (UnlimitedT row TextT) f.0 (sound t Closed l (UnlimitedT row TextT) f.0 f.1) Nothing Empty as_shaped.function fits_nothing as_shaped.term

  -- the text for a row
  text : (x : Flat) → TypedFlat row x → (u : List ℕ) × Applies (MeansIn k.depth) function.value (BangV (value_of x)) (TextV u) × IsText u
  text x typed =
      let a : Fits (Wide 0 0 0) (BangT Inf row) (BangV (value_of x)) = fits_ground (ground_row row t g l f) (typed_bang (typed_flat row x typed)) in
      let r = enters_run as_shaped.function (Wide 0 0 0) s (BangT Inf row) TextT function.value (BangV (value_of x)) (run (k.depth - 1)) as_shaped.body function.fits a in
      let u = text_value r.0 (ground_typed TextT s r.0 tt r.2) in
      let i = subst (λ v. Applies (MeansIn (k.depth - 1)) function.value (BangV (value_of x)) v) u.1 r.1 in
      (u.0, applies_up (MeansIn (k.depth - 1)) (MeansIn k.depth) (raise (k.depth - 1) k.depth (omega arith)) i, u.2)

  -- it is the one that is computed
  text_is : (x : Flat) (typed : TypedFlat row x) → row_text t x ≡ (text x typed).0
  text_is x typed = let u = text x typed in text_computed k.depth t x u.0 as_shaped.deep (function.value, function.does, u.1)

  pub function_runs : RunsOnRows k.depth row t
  function_runs = record {
    function = function.value;
    does = function.does;
    gives = λ x typed. rw (text_is x typed) (text x typed).1;
    texts = λ x typed. rw (text_is x typed) (text x typed).2;
  }
