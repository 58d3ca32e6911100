-- What the rows answer.
use Rattle.std.proofs.Common.{◌≡◌, refl, sym, ap, true, false, List, ◌∙◌}
use Rattle.std.specs.Prelude.{Result}
use Rattle.fz_frac.specs.Distance.{Distance, Inf, ◌≈◌, is_le, one, greater}
use Rattle.fz_frac.specs.Sens.{distance_of}
use Rattle.fz_frac.specs.declared.sens.Sens.{Sens}
use Rattle.fz_frac.proofs.Laws.{≈-refl}
use Rattle.fz_frac.proofs.Lowest.{sens_lowest}
use Rattle.fz_ast.specs.declared.span.Span.{Span}
use Rattle.fz_ast.specs.declared.name.Name.{Name}
use Rattle.fz_ast.specs.Names.{name_of}
use Rattle.fz_ast.specs.Types.{Ty, UnlimitedT, BoolT, BagT, WellFormed, formed, is_ground, same_type}
use Rattle.fz_ast.specs.Arena.{Grows}
use Rattle.fz_ast.proofs.Arenas.{grows_at, grows_known}
use Rattle.fz_ast.proofs.SameTypes.{same_type_refl}
use Rattle.linear_types.specs.Sensitivities.{Sensitivities, first, rest, plus, join, scale, above_zero}
use Rattle.linear_types.specs.Places.{AreAlike, distances}
use Rattle.linear_types.specs.Rule.{exactly, has_sum, has_bound, fun_rule, branches_rule, test_rule}
use Rattle.linear_types.proofs.Alike.{first_alike, rest_alike, is_le_alike, greater_alike, above_zero_alike}
use Rattle.typing_rows.specs.Says.{IsFine, Says, IsFaultOf}
use Rattle.typing_rows.specs.declared.clause.Judged.{Judged}
use Rattle.typing_rows.specs.declared.clause.RowFault.{RowFault}
use Rattle.typing_rows.specs.declared.clause.RowFault.TheVariants.{TooSensitive}

-- what calls of `first_of` and `rest_of` answer

pub first_by : (items now : List Sens) (D : Sensitivities) (a : Sens) → now ≡ items → distance_of a ≡ first (distances now) → AreAlike (distances items) D → distance_of a ≈ first D
first_by items now D a e f h = rw (f, e) (first_alike h)

pub rest_by : (items now left : List Sens) (D : Sensitivities) → now ≡ items → distances left ≡ rest (distances now) → AreAlike (distances items) D → AreAlike (distances left) (rest D)
rest_by items now left D e f h = rw (f, e) (rest_alike h)

-- the greater of two, a and b being equal to d and e as numbers
pub greater_by : (a b m : Sens) (d e : Distance) → distance_of m ≡ greater (distance_of a) (distance_of b) → distance_of a ≈ d → distance_of b ≈ e → distance_of m ≈ greater d e
greater_by a b m d e is h k = rw is (greater_alike h k)

pub above_by : (m k : Sens) (d : Distance) → distance_of k ≡ above_zero (distance_of m) → distance_of m ≈ d → distance_of k ≈ above_zero d
above_by m k d is h = rw is (above_zero_alike h)

pub unlimited_is : {A B C D : Ty} → A ≡ C → B ≡ D → UnlimitedT A B ≡ UnlimitedT C D
unlimited_is e f = rw (e, f) refl

pub too_sensitive : (T : List Ty) (s u : Span) (x : Name) (r k : Sens) (A B : Ty) (D : Sensitivities) → formed A ≡ WellFormed → false ≡ is_le (distance_of r) (distance_of k) → distance_of k ≡ one → distance_of r ≈ first D
    → IsFaultOf T (TooSensitive s x r) (fun_rule s (name_of x) u A B D)
too_sensitive T s u x r k A B D f e o h =
    let i : is_le (first D) one ≡ false = sym (e ∙ (ap (is_le (distance_of r)) o ∙ is_le_alike h (≈-refl one))) in
    rw (f, i) (first D, sens_lowest r (first D) h, refl)

pub branches_says : (T : List Ty) (q : Result Judged RowFault) (s w : Span) (F : Sensitivities) (A : Ty) (D : Sensitivities) (B : Ty) (E : Sensitivities) → true ≡ same_type B A → true ≡ is_ground A
    → Says T q (has_bound s A (join (rest D) (rest E)) (above_zero (greater (first D) (first E))) F) → Says T q (branches_rule s w F A D B E)
branches_says T q s w F A D B E i g h = rw (← i, ← g) h

pub test_says : (T : List Ty) (q : Result Judged RowFault) (K : Ty → Ty) (s u v : Span) (F A C B : Ty) (D E : Sensitivities) → F ≡ UnlimitedT A C → true ≡ same_type C BoolT
    → Says T q (exactly v B (BagT A) (has_sum s (K A) (plus (scale Inf D) E))) → Says T q (test_rule K s u v F D B E)
test_says T q K s u v F A C B D E f i h = rw (f, same_type_refl A, ← i) h

-- a type and sensitivities stay as they are when the arena grows
pub fine_grows : (T U : List Ty) (j : Judged) (A : Ty) (D : Sensitivities) → Grows T U → IsFine T j A D → IsFine U j A D
fine_grows T U j A D g f = record { known = grows_known T U j.ty f.known g; is = grows_at T U j.ty f.known g ∙ f.is; alike = f.alike }
