-- Of whole programs.
use Rattle.std.proofs.Common.{ap, refl, sym, ◌∙◌}
use Rattle.std.specs.Prelude.{◌≡◌, Bool, true, false, cond}
use Rattle.fz_ast.specs.Signature.{Signature}
use Rattle.fz_ast.specs.Terms.{Term}
use Rattle.fz_ast.specs.Types.{NumT}
use Rattle.linear_types.specs.Inferred.{Has}
use Rattle.linear_types.proofs.Programs.{accepted}
use Rattle.linear_types.specs.Program.{context_of, program_rule}
use Rattle.linear_types.specs.Rule.{rule}
use Rattle.shape_law.specs.Shapes.{Shape, table_shapes}
use Rattle.shape_law.specs.Walk.{ShapeFault, Shaped, Stops, Tally, TooManyWalks, WalkOutcome, depth_limit, shape, start, told, walk}
use Rattle.release_laws.proofs.Shapes.{tables_kept, walk_kept}
use Rattle.release_laws.proofs.Typings.{same_rule}
use Rattle.release_laws.specs.Numbers.{AreAlike, NumbersChangeNoLimit, NumbersChangeNoPlan, NumbersChangeNoSensitivity, NumbersChangeNoWalks}
use Rattle.release_laws.specs.Outcomes.{outline_outcome, outline_shape}
use Rattle.release_laws.specs.Outline.{outline}

pub sensitivities : NumbersChangeNoSensitivity
sensitivities ts t u D r l m a h =
    let k = accepted ts t D r h in
    let i : rule (context_of ts) (outline u) ≡ Has NumT D = ap (rule (context_of ts)) (sym a) ∙ (same_rule (context_of ts) t NumT D l).0 k.0 in
    let j : rule (context_of ts) u ≡ Has NumT D = (same_rule (context_of ts) u NumT D m).1 i in
    ap (program_rule ts) (j ∙ sym k.0) ∙ h

told_kept : (o : WalkOutcome) → outline_outcome (told o) ≡ told (outline_outcome o)
told_kept (Shaped r k) = go k.too_many
  where
    go : (b : Bool) → outline_outcome (cond b TooManyWalks (Shaped r k)) ≡ cond b TooManyWalks (Shaped (outline_shape r) k)
    go true = refl
    go false = refl
told_kept (Stops f) = refl
told_kept TooManyWalks = refl

-- two outcomes that are the same but for spans
same_outcome : (ts : Signature) (t u : Term) → AreAlike t u → outline_outcome (shape ts t) ≡ outline_outcome (shape ts u)
same_outcome ts t u a = of t ∙ ap (λ e. told (walk depth_limit 1 (table_shapes ts) e start)) a ∙ sym (of u)
  where
    of : (e : Term) → outline_outcome (shape ts e) ≡ told (walk depth_limit 1 (table_shapes ts) (outline e) start)
    of e =
        told_kept (walk depth_limit 1 (table_shapes ts) e start) ∙ ap told ((walk_kept depth_limit 1).does (table_shapes ts) e start)
        ∙ ap (λ σ. told (walk depth_limit 1 σ (outline e) start)) (tables_kept ts)

plan_of : (o p : WalkOutcome) (s : Shape) (k : Tally) → outline_outcome o ≡ outline_outcome p → o ≡ Shaped s k → (r : Shape) × (p ≡ Shaped r k)
plan_of o (Shaped r j) s k e h =
    let f : outline_outcome (Shaped s k) ≡ outline_outcome (Shaped r j) = ap outline_outcome (sym h) ∙ e in
    let g : j ≡ k = cc f in
    (r, ap (Shaped r) g)
plan_of o (Stops f) s k e h = let f : outline_outcome (Shaped s k) ≡ outline_outcome (Stops f) = ap outline_outcome (sym h) ∙ e in cc f
plan_of o TooManyWalks s k e h = let f : outline_outcome (Shaped s k) ≡ outline_outcome TooManyWalks = ap outline_outcome (sym h) ∙ e in cc f

walks_of_both : (o p : WalkOutcome) → outline_outcome o ≡ outline_outcome p → o ≡ TooManyWalks → p ≡ TooManyWalks
walks_of_both o TooManyWalks e h = refl
walks_of_both o (Shaped r j) e h = let f : outline_outcome TooManyWalks ≡ outline_outcome (Shaped r j) = ap outline_outcome (sym h) ∙ e in cc f
walks_of_both o (Stops x) e h = let f : outline_outcome TooManyWalks ≡ outline_outcome (Stops x) = ap outline_outcome (sym h) ∙ e in cc f

limit_of : (o p : WalkOutcome) (x : ShapeFault) → outline_outcome o ≡ outline_outcome p → o ≡ Stops x → (g : ShapeFault) × (p ≡ Stops g)
limit_of o (Stops y) x e h = (y, refl)
limit_of o (Shaped r j) x e h = let f : outline_outcome (Stops x) ≡ outline_outcome (Shaped r j) = ap outline_outcome (sym h) ∙ e in cc f
limit_of o TooManyWalks x e h = let f : outline_outcome (Stops x) ≡ outline_outcome TooManyWalks = ap outline_outcome (sym h) ∙ e in cc f

pub plans : NumbersChangeNoPlan
plans ts t u s k a h = plan_of (shape ts t) (shape ts u) s k (same_outcome ts t u a) h

pub walks : NumbersChangeNoWalks
walks ts t u a h = walks_of_both (shape ts t) (shape ts u) (same_outcome ts t u a) h

pub limits : NumbersChangeNoLimit
limits ts t u x a h = limit_of (shape ts t) (shape ts u) x (same_outcome ts t u a) h
