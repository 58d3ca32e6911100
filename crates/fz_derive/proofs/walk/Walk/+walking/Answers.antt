use Rattle.std.proofs.Common.{ap, false, sym, true≢false, ◌∙◌, ℕ, ◌<◌, ◌≡◌, ◌+◌, ◌*◌, ◌≤◌, arith, length, refl, subst}
use Rattle.std.specs.Prelude.{IfOk, max, true, None, Ok}
use Rattle.fz_ast.specs.TermNodes.{IsKnown, term_at}
use Rattle.fz_ast.specs.Names.{name_of}
use Rattle.fz_ast.specs.Terms.{Term}
use Rattle.fz_ast.specs.TypeNodes.{type_at}
use Rattle.fz_ast.specs.Types.{BangT, SumT, TensorT, Ty}
use Rattle.term_meanings.specs.Scopes.{Context, Under}
use Rattle.derivation_rows.specs.Faults.{first_of, first_type, second_type}
use Rattle.derivation_rows.specs.Nodes.{nodes_of}
use Rattle.derivation_rows.specs.Rows.{is_sum, is_tensor}
use Rattle.derivation_rows.specs.Shapes.{is_bang}
use Rattle.derivation_rows.proofs.Scopes.{scope_under}
use Rattle.fz_derive.specs.Walking.{fault_seen, names_seen}
use Rattle.fz_ast.specs.declared.term.Form.TheVariants.{Unary as Op, Binary as Op2, Times, Ranged as Bounded, Inject, Bang, Let, LetBang, LetPair, If, Case, Lambda}
use Rattle.derivation_lines.specs.Lines.{line_at}
use Rattle.derivation_rows.specs.Scoped.{context_in}
use Rattle.derivation_rows.specs.Viewed.{lines_seen}
use Rattle.fz_derive.proofs.WalkSteps.{bang_form, found_first, found_later, none_below, pair_form, sum_form}
use Rattle.fz_derive.proofs.Walked.{failed, fit, passed, placed}
use Rattle.fz_derive.proofs.walk.Walk.+walking.Goals as goal

pub fault_at-is_fine-requires-clause-placed : goal.fault_at-is_fine-requires-clause-placed
fault_at-is_fine-requires-clause-placed t c =
    let v = c.args.self.now.view in
    let n = length v.lines.now in
    let f = c.node.result.now.form in
    let p = c.places-at.result in
    placed n v.nodes.now p f (fit v.nodes.now c.node.result.now.span c.args.k n (term_at v.nodes.now.terms c.args.i) f f p c.node.ensures.form c.places-at.ensures refl c.requires.fits)

pub fault_at-returns-then-not-is_fine : goal.fault_at-returns-then-not-is_fine
fault_at-returns-then-not-is_fine t c =
    let v = c.args.self.now.view in
    failed (lines_seen v) v.nodes.now (context_in v.arena.now c.args.scope.now) c.node.result.now.span c.args.k (term_at v.nodes.now.terms c.args.i) c.node.result.now.form c.places-at.result c.node.ensures.form c.places-at.ensures c.if-not-is_fine.ensures

pub fault_at-returns-in-Binary : goal.fault_at-returns-in-Binary
fault_at-returns-in-Binary t c =
    let v = c.args.self.now.view in
    passed (lines_seen v) v.nodes.now (context_in v.arena.now c.args.scope.now) c.node.result.now.span c.args.k (term_at v.nodes.now.terms c.args.i) c.node.result.now.form c.places-at.result c.node.ensures.form c.places-at.ensures c.two.result (Op2 c.in-Binary.field-0 c.in-Binary.a c.in-Binary.b) c.in-Binary.is c.if-not-is_fine.ensures c.two.ensures

pub fault_at-returns-in-Let : goal.fault_at-returns-in-Let
fault_at-returns-in-Let t c =
    let v = c.args.self.now.view in
    passed (lines_seen v) v.nodes.now (context_in v.arena.now c.args.scope.now) c.node.result.now.span c.args.k (term_at v.nodes.now.terms c.args.i) c.node.result.now.form c.places-at.result c.node.ensures.form c.places-at.ensures c.bound.result (Let c.in-Let.x c.in-Let.e c.in-Let.b) c.in-Let.is c.if-not-is_fine.ensures (rw c.line_type.ensures.is at c.bound.ensures)

pub fault_at-returns-in-LetBang : goal.fault_at-returns-in-LetBang
fault_at-returns-in-LetBang t c =
    let v = c.args.self.now.view in
    passed (lines_seen v) v.nodes.now (context_in v.arena.now c.args.scope.now) c.node.result.now.span c.args.k (term_at v.nodes.now.terms c.args.i) c.node.result.now.form c.places-at.result c.node.ensures.form c.places-at.ensures c.unbanged.result (LetBang c.in-LetBang.x c.in-LetBang.e c.in-LetBang.b) c.in-LetBang.is c.if-not-is_fine.ensures c.unbanged.ensures

pub fault_at-returns-in-LetPair : goal.fault_at-returns-in-LetPair
fault_at-returns-in-LetPair t c =
    let v = c.args.self.now.view in
    passed (lines_seen v) v.nodes.now (context_in v.arena.now c.args.scope.now) c.node.result.now.span c.args.k (term_at v.nodes.now.terms c.args.i) c.node.result.now.form c.places-at.result c.node.ensures.form c.places-at.ensures c.paired.result (LetPair c.in-LetPair.x c.in-LetPair.y c.in-LetPair.e c.in-LetPair.b) c.in-LetPair.is c.if-not-is_fine.ensures c.paired.ensures

pub fault_at-returns-in-If : goal.fault_at-returns-in-If
fault_at-returns-in-If t c =
    let v = c.args.self.now.view in
    passed (lines_seen v) v.nodes.now (context_in v.arena.now c.args.scope.now) c.node.result.now.span c.args.k (term_at v.nodes.now.terms c.args.i) c.node.result.now.form c.places-at.result c.node.ensures.form c.places-at.ensures c.three.result (If c.in-If.e c.in-If.a c.in-If.b) c.in-If.is c.if-not-is_fine.ensures c.three.ensures

pub fault_at-returns-in-Case : goal.fault_at-returns-in-Case
fault_at-returns-in-Case t c =
    let v = c.args.self.now.view in
    passed (lines_seen v) v.nodes.now (context_in v.arena.now c.args.scope.now) c.node.result.now.span c.args.k (term_at v.nodes.now.terms c.args.i) c.node.result.now.form c.places-at.result c.node.ensures.form c.places-at.ensures c.cases.result (Case c.in-Case.e c.in-Case.x c.in-Case.a c.in-Case.y c.in-Case.b) c.in-Case.is c.if-not-is_fine.ensures c.cases.ensures

pub fault_at-returns-in-Unary : goal.fault_at-returns-in-Unary
fault_at-returns-in-Unary t c =
    let v = c.args.self.now.view in
    passed (lines_seen v) v.nodes.now (context_in v.arena.now c.args.scope.now) c.node.result.now.span c.args.k (term_at v.nodes.now.terms c.args.i) c.node.result.now.form c.places-at.result c.node.ensures.form c.places-at.ensures c.fault_at.result (Op c.in-Unary.field-0 c.in-Unary.e) c.in-Unary.is c.if-not-is_fine.ensures c.fault_at.ensures

pub fault_at-returns-in-Times : goal.fault_at-returns-in-Times
fault_at-returns-in-Times t c =
    let v = c.args.self.now.view in
    passed (lines_seen v) v.nodes.now (context_in v.arena.now c.args.scope.now) c.node.result.now.span c.args.k (term_at v.nodes.now.terms c.args.i) c.node.result.now.form c.places-at.result c.node.ensures.form c.places-at.ensures c.fault_at-in-Times.result (Times c.in-Times.field-0 c.in-Times.e) c.in-Times.is c.if-not-is_fine.ensures c.fault_at-in-Times.ensures

pub fault_at-returns-in-Ranged : goal.fault_at-returns-in-Ranged
fault_at-returns-in-Ranged t c =
    let v = c.args.self.now.view in
    passed (lines_seen v) v.nodes.now (context_in v.arena.now c.args.scope.now) c.node.result.now.span c.args.k (term_at v.nodes.now.terms c.args.i) c.node.result.now.form c.places-at.result c.node.ensures.form c.places-at.ensures c.fault_at-in-Ranged.result (Bounded c.in-Ranged.field-0 c.in-Ranged.field-1 c.in-Ranged.field-2 c.in-Ranged.e) c.in-Ranged.is c.if-not-is_fine.ensures c.fault_at-in-Ranged.ensures

pub fault_at-returns-in-Inject : goal.fault_at-returns-in-Inject
fault_at-returns-in-Inject t c =
    let v = c.args.self.now.view in
    passed (lines_seen v) v.nodes.now (context_in v.arena.now c.args.scope.now) c.node.result.now.span c.args.k (term_at v.nodes.now.terms c.args.i) c.node.result.now.form c.places-at.result c.node.ensures.form c.places-at.ensures c.fault_at-in-Inject.result (Inject c.in-Inject.field-0 c.in-Inject.field-1 c.in-Inject.field-2 c.in-Inject.e) c.in-Inject.is c.if-not-is_fine.ensures c.fault_at-in-Inject.ensures

pub fault_at-returns-in-Bang : goal.fault_at-returns-in-Bang
fault_at-returns-in-Bang t c =
    let v = c.args.self.now.view in
    passed (lines_seen v) v.nodes.now (context_in v.arena.now c.args.scope.now) c.node.result.now.span c.args.k (term_at v.nodes.now.terms c.args.i) c.node.result.now.form c.places-at.result c.node.ensures.form c.places-at.ensures c.fault_at-in-Bang.result (Bang c.in-Bang.field-0 c.in-Bang.e) c.in-Bang.is c.if-not-is_fine.ensures c.fault_at-in-Bang.ensures

pub fault_at-returns-in-Lambda : goal.fault_at-returns-in-Lambda
fault_at-returns-in-Lambda t c =
    let v = c.args.self.now.view in
    passed (lines_seen v) v.nodes.now (context_in v.arena.now c.args.scope.now) c.node.result.now.span c.args.k (term_at v.nodes.now.terms c.args.i) c.node.result.now.form c.places-at.result c.node.ensures.form c.places-at.ensures c.body.result (Lambda c.in-Lambda.field-0 c.in-Lambda.x c.in-Lambda.field-2 c.in-Lambda.t c.in-Lambda.e) c.in-Lambda.is c.if-not-is_fine.ensures c.body.ensures

pub fault_at-returns-in-Var : goal.fault_at-returns-in-Var
fault_at-returns-in-Var t c =
    let v = c.args.self.now.view in
    let L = lines_seen v in
    let Γ = context_in v.arena.now c.args.scope.now in
    let f = c.node.result.now.form in
    passed L v.nodes.now Γ c.node.result.now.span c.args.k (term_at v.nodes.now.terms c.args.i) f c.places-at.result c.node.ensures.form c.places-at.ensures (Ok None) f refl c.if-not-is_fine.ensures (none_below L v.nodes.now Γ c.places-at.result f c.in-Var.is)

pub fault_at-fault_at-requires : goal.fault_at-fault_at-requires
fault_at-fault_at-requires t c =
    let v = c.args.self.now.view in
    let k : c.in-Unary.e < c.args.i = subst (IsKnown (length v.nodes.now.types) c.args.i) c.in-Unary.is c.node.ensures.known in
    let h = c.requires.known in
    (omega (arith, k), (c.requires.walk, (c.requires.scope, (omega (arith, k, h), fit v.nodes.now c.node.result.now.span c.args.k (length v.lines.now) (term_at v.nodes.now.terms c.args.i) c.node.result.now.form (Op c.in-Unary.field-0 c.in-Unary.e) c.places-at.result c.node.ensures.form c.places-at.ensures c.in-Unary.is c.requires.fits))))

pub fault_at-fault_at-requires-in-Times : goal.fault_at-fault_at-requires-in-Times
fault_at-fault_at-requires-in-Times t c =
    let v = c.args.self.now.view in
    let k : c.in-Times.e < c.args.i = subst (IsKnown (length v.nodes.now.types) c.args.i) c.in-Times.is c.node.ensures.known in
    let h = c.requires.known in
    (omega (arith, k), (c.requires.walk, (c.requires.scope, (omega (arith, k, h), fit v.nodes.now c.node.result.now.span c.args.k (length v.lines.now) (term_at v.nodes.now.terms c.args.i) c.node.result.now.form (Times c.in-Times.field-0 c.in-Times.e) c.places-at.result c.node.ensures.form c.places-at.ensures c.in-Times.is c.requires.fits))))

pub fault_at-fault_at-requires-in-Ranged : goal.fault_at-fault_at-requires-in-Ranged
fault_at-fault_at-requires-in-Ranged t c =
    let v = c.args.self.now.view in
    let k : c.in-Ranged.e < c.args.i = subst (IsKnown (length v.nodes.now.types) c.args.i) c.in-Ranged.is c.node.ensures.known in
    let h = c.requires.known in
    (omega (arith, k), (c.requires.walk, (c.requires.scope, (omega (arith, k, h), fit v.nodes.now c.node.result.now.span c.args.k (length v.lines.now) (term_at v.nodes.now.terms c.args.i) c.node.result.now.form (Bounded c.in-Ranged.field-0 c.in-Ranged.field-1 c.in-Ranged.field-2 c.in-Ranged.e) c.places-at.result c.node.ensures.form c.places-at.ensures c.in-Ranged.is c.requires.fits))))

pub fault_at-fault_at-requires-in-Bang : goal.fault_at-fault_at-requires-in-Bang
fault_at-fault_at-requires-in-Bang t c =
    let v = c.args.self.now.view in
    let k : c.in-Bang.e < c.args.i = subst (IsKnown (length v.nodes.now.types) c.args.i) c.in-Bang.is c.node.ensures.known in
    let h = c.requires.known in
    (omega (arith, k), (c.requires.walk, (c.requires.scope, (omega (arith, k, h), fit v.nodes.now c.node.result.now.span c.args.k (length v.lines.now) (term_at v.nodes.now.terms c.args.i) c.node.result.now.form (Bang c.in-Bang.field-0 c.in-Bang.e) c.places-at.result c.node.ensures.form c.places-at.ensures c.in-Bang.is c.requires.fits))))

pub fault_at-fault_at-requires-in-Inject : goal.fault_at-fault_at-requires-in-Inject
fault_at-fault_at-requires-in-Inject t c =
    let v = c.args.self.now.view in
    let kk : (c.in-Inject.field-2 < length v.nodes.now.types) × (c.in-Inject.e < c.args.i) = subst (IsKnown (length v.nodes.now.types) c.args.i) c.in-Inject.is c.node.ensures.known in
    let k = kk.1 in
    let h = c.requires.known in
    (omega (arith, k), (c.requires.walk, (c.requires.scope, (omega (arith, k, h), fit v.nodes.now c.node.result.now.span c.args.k (length v.lines.now) (term_at v.nodes.now.terms c.args.i) c.node.result.now.form (Inject c.in-Inject.field-0 c.in-Inject.field-1 c.in-Inject.field-2 c.in-Inject.e) c.places-at.result c.node.ensures.form c.places-at.ensures c.in-Inject.is c.requires.fits))))

pub fault_at-two-requires : goal.fault_at-two-requires
fault_at-two-requires t c =
    let v = c.args.self.now.view in
    let k : (c.in-Binary.a < c.args.i) × (c.in-Binary.b < c.args.i) = subst (IsKnown (length v.nodes.now.types) c.args.i) c.in-Binary.is c.node.ensures.known in
    let h = c.requires.known in
    let p = k.0 in
    let q = k.1 in
    let w = fit v.nodes.now c.node.result.now.span c.args.k (length v.lines.now) (term_at v.nodes.now.terms c.args.i) c.node.result.now.form (Op2 c.in-Binary.field-0 c.in-Binary.a c.in-Binary.b) c.places-at.result c.node.ensures.form c.places-at.ensures c.in-Binary.is c.requires.fits in
    (omega (arith, p, q), (c.requires.walk, (c.requires.scope, (omega (arith, p, h), (omega (arith, q, h), (w.0, w.1))))))

pub fault_at-bound-requires : goal.fault_at-bound-requires
fault_at-bound-requires t c =
    let v = c.args.self.now.view in
    let k : (c.in-Let.e < c.args.i) × (c.in-Let.b < c.args.i) = subst (IsKnown (length v.nodes.now.types) c.args.i) c.in-Let.is c.node.ensures.known in
    let h = c.requires.known in
    let p = k.0 in
    let q = k.1 in
    let w = fit v.nodes.now c.node.result.now.span c.args.k (length v.lines.now) (term_at v.nodes.now.terms c.args.i) c.node.result.now.form (Let c.in-Let.x c.in-Let.e c.in-Let.b) c.places-at.result c.node.ensures.form c.places-at.ensures c.in-Let.is c.requires.fits in
    (omega (arith, p, q), (c.requires.walk, (c.requires.scope, (c.line_type.ensures.known, (omega (arith, p, h), (omega (arith, q, h), (w.0, w.1)))))))

pub fault_at-unbanged-requires : goal.fault_at-unbanged-requires
fault_at-unbanged-requires t c =
    let v = c.args.self.now.view in
    let k : (c.in-LetBang.e < c.args.i) × (c.in-LetBang.b < c.args.i) = subst (IsKnown (length v.nodes.now.types) c.args.i) c.in-LetBang.is c.node.ensures.known in
    let h = c.requires.known in
    let p = k.0 in
    let q = k.1 in
    let w = fit v.nodes.now c.node.result.now.span c.args.k (length v.lines.now) (term_at v.nodes.now.terms c.args.i) c.node.result.now.form (LetBang c.in-LetBang.x c.in-LetBang.e c.in-LetBang.b) c.places-at.result c.node.ensures.form c.places-at.ensures c.in-LetBang.is c.requires.fits in
    (omega (arith, p, q), (c.requires.walk, (c.requires.scope, (omega (arith, p, h), (omega (arith, q, h), (w.0, (w.1, ((placed (length v.lines.now) v.nodes.now c.places-at.result (LetBang c.in-LetBang.x c.in-LetBang.e c.in-LetBang.b) w).0, bang_form v.nodes.now (lines_seen v) (context_in v.arena.now c.args.scope.now) c.places-at.result c.node.result.now.form c.in-LetBang.x c.in-LetBang.e c.in-LetBang.b (line_at (lines_seen v) c.args.k) c.in-LetBang.is c.if-not-is_fine.ensures))))))))

pub fault_at-paired-requires : goal.fault_at-paired-requires
fault_at-paired-requires t c =
    let v = c.args.self.now.view in
    let k : (c.in-LetPair.e < c.args.i) × (c.in-LetPair.b < c.args.i) = subst (IsKnown (length v.nodes.now.types) c.args.i) c.in-LetPair.is c.node.ensures.known in
    let h = c.requires.known in
    let p = k.0 in
    let q = k.1 in
    let w = fit v.nodes.now c.node.result.now.span c.args.k (length v.lines.now) (term_at v.nodes.now.terms c.args.i) c.node.result.now.form (LetPair c.in-LetPair.x c.in-LetPair.y c.in-LetPair.e c.in-LetPair.b) c.places-at.result c.node.ensures.form c.places-at.ensures c.in-LetPair.is c.requires.fits in
    (omega (arith, p, q), (c.requires.walk, (c.requires.scope, (omega (arith, p, h), (omega (arith, q, h), (w.0, (w.1, ((placed (length v.lines.now) v.nodes.now c.places-at.result (LetPair c.in-LetPair.x c.in-LetPair.y c.in-LetPair.e c.in-LetPair.b) w).0, pair_form v.nodes.now (lines_seen v) (context_in v.arena.now c.args.scope.now) c.places-at.result c.node.result.now.form c.in-LetPair.x c.in-LetPair.y c.in-LetPair.e c.in-LetPair.b (line_at (lines_seen v) c.args.k) c.in-LetPair.is c.if-not-is_fine.ensures))))))))

pub fault_at-three-requires : goal.fault_at-three-requires
fault_at-three-requires t c =
    let v = c.args.self.now.view in
    let k : (c.in-If.e < c.args.i) × (c.in-If.a < c.args.i) × (c.in-If.b < c.args.i) = subst (IsKnown (length v.nodes.now.types) c.args.i) c.in-If.is c.node.ensures.known in
    let h = c.requires.known in
    let p = k.0 in
    let q = k.1 in
    let r = k.2 in
    let w = fit v.nodes.now c.node.result.now.span c.args.k (length v.lines.now) (term_at v.nodes.now.terms c.args.i) c.node.result.now.form (If c.in-If.e c.in-If.a c.in-If.b) c.places-at.result c.node.ensures.form c.places-at.ensures c.in-If.is c.requires.fits in
    (omega (arith, p, q, r), (c.requires.walk, (c.requires.scope, (omega (arith, p, h), (omega (arith, q, h), (omega (arith, r, h), (w.0, (w.1, w.2))))))))

pub fault_at-cases-requires : goal.fault_at-cases-requires
fault_at-cases-requires t c =
    let v = c.args.self.now.view in
    let k : (c.in-Case.e < c.args.i) × (c.in-Case.a < c.args.i) × (c.in-Case.b < c.args.i) = subst (IsKnown (length v.nodes.now.types) c.args.i) c.in-Case.is c.node.ensures.known in
    let h = c.requires.known in
    let p = k.0 in
    let q = k.1 in
    let r = k.2 in
    let w = fit v.nodes.now c.node.result.now.span c.args.k (length v.lines.now) (term_at v.nodes.now.terms c.args.i) c.node.result.now.form (Case c.in-Case.e c.in-Case.x c.in-Case.a c.in-Case.y c.in-Case.b) c.places-at.result c.node.ensures.form c.places-at.ensures c.in-Case.is c.requires.fits in
    (omega (arith, p, q, r), (c.requires.walk, (c.requires.scope, (omega (arith, p, h), (omega (arith, q, h), (omega (arith, r, h), (w.0, (w.1, (w.2, ((placed (length v.lines.now) v.nodes.now c.places-at.result (Case c.in-Case.e c.in-Case.x c.in-Case.a c.in-Case.y c.in-Case.b) w).0, sum_form v.nodes.now (lines_seen v) (context_in v.arena.now c.args.scope.now) c.places-at.result c.node.result.now.form c.in-Case.e c.in-Case.x c.in-Case.a c.in-Case.y c.in-Case.b (line_at (lines_seen v) c.args.k) c.in-Case.is c.if-not-is_fine.ensures))))))))))

pub fault_at-body-requires : goal.fault_at-body-requires
fault_at-body-requires t c =
    let v = c.args.self.now.view in
    let k : (c.in-Lambda.t < length v.nodes.now.types) × (c.in-Lambda.e < c.args.i) = subst (IsKnown (length v.nodes.now.types) c.args.i) c.in-Lambda.is c.node.ensures.known in
    let h = c.requires.known in
    let p = k.1 in
    (omega (arith, p), (c.requires.walk, (c.requires.scope, (k.0, (omega (arith, p, h), fit v.nodes.now c.node.result.now.span c.args.k (length v.lines.now) (term_at v.nodes.now.terms c.args.i) c.node.result.now.form (Lambda c.in-Lambda.field-0 c.in-Lambda.x c.in-Lambda.field-2 c.in-Lambda.t c.in-Lambda.e) c.places-at.result c.node.ensures.form c.places-at.ensures c.in-Lambda.is c.requires.fits)))))

pub two-fault_at-requires : goal.two-fault_at-requires
two-fault_at-requires t c = (omega arith, (c.requires.walk, (c.requires.scope, (c.requires.a_known, c.requires.a_fits))))

pub two-fault_at-requires-in-None : goal.two-fault_at-requires-in-None
two-fault_at-requires-in-None t c = (omega arith, (c.requires.walk, (c.requires.scope, (c.requires.b_known, c.requires.b_fits))))

pub two-returns-in-Some : goal.two-returns-in-Some
two-returns-in-Some t c = found_first c.in_ok-at.field-0 _ _ c.in-Some.at c.in_ok-at.ensures c.in-Some.is

pub two-returns-in-None : goal.two-returns-in-None
two-returns-in-None t c = found_later c.fault_at-in-None.result c.in_ok-at.field-0 _ _ c.in_ok-at.ensures c.in-None.is c.fault_at-in-None.ensures

pub bound-fault_at-requires : goal.bound-fault_at-requires
bound-fault_at-requires t c = (omega arith, (c.requires.walk, (c.requires.scope, (c.requires.e_known, c.requires.e_fits))))

pub bound-inside-requires : goal.bound-inside-requires
bound-inside-requires t c = (omega arith, (c.requires.walk, (c.requires.scope, (c.requires.bound, (c.requires.b_known, c.requires.b_fits)))))

pub bound-returns-in-Some : goal.bound-returns-in-Some
bound-returns-in-Some t c = found_first c.in_ok-at.field-0 _ _ c.in-Some.at c.in_ok-at.ensures c.in-Some.is

pub bound-returns-in-None : goal.bound-returns-in-None
bound-returns-in-None t c = found_later c.inside.result c.in_ok-at.field-0 _ _ c.in_ok-at.ensures c.in-None.is c.inside.ensures

pub branches-inside-requires : goal.branches-inside-requires
branches-inside-requires t c = (omega arith, (c.requires.walk, (c.requires.scope, (c.requires.x_type, (c.requires.a_known, c.requires.a_fits)))))

pub branches-inside-requires-in-None : goal.branches-inside-requires-in-None
branches-inside-requires-in-None t c = (omega arith, (c.requires.walk, (c.requires.scope, (c.requires.y_type, (c.requires.b_known, c.requires.b_fits)))))

pub branches-returns-in-Some : goal.branches-returns-in-Some
branches-returns-in-Some t c = found_first c.in_ok-at.field-0 _ _ c.in-Some.at c.in_ok-at.ensures c.in-Some.is

pub branches-returns-in-None : goal.branches-returns-in-None
branches-returns-in-None t c = found_later c.inside-in-None.result c.in_ok-at.field-0 _ _ c.in_ok-at.ensures c.in-None.is c.inside-in-None.ensures

pub three-fault_at-requires : goal.three-fault_at-requires
three-fault_at-requires t c = (omega arith, (c.requires.walk, (c.requires.scope, (c.requires.e_known, c.requires.e_fits))))

pub three-two-requires : goal.three-two-requires
three-two-requires t c = (omega arith, (c.requires.walk, (c.requires.scope, (c.requires.a_known, (c.requires.b_known, (c.requires.a_fits, c.requires.b_fits))))))

pub three-returns-in-Some : goal.three-returns-in-Some
three-returns-in-Some t c = found_first c.in_ok-at.field-0 _ _ c.in-Some.at c.in_ok-at.ensures c.in-Some.is

pub three-returns-in-None : goal.three-returns-in-None
three-returns-in-None t c = found_later c.two.result c.in_ok-at.field-0 _ _ c.in_ok-at.ensures c.in-None.is c.two.ensures

pub body-written_type-requires-clause-view : goal.body-written_type-requires-clause-view
body-written_type-requires-clause-view t c = c.requires.walk.view

pub body-written_type-requires-clause-known : goal.body-written_type-requires-clause-known
body-written_type-requires-clause-known t c = c.requires.written

pub body-inside-requires : goal.body-inside-requires
body-inside-requires t c = (omega arith, (c.requires.walk, (c.requires.scope, (c.written_type.ensures.known, (c.requires.known, c.requires.fits)))))

pub body-returns : goal.body-returns
body-returns t c =
    subst (λ (A : Ty). IfOk c.inside.result (λ r. r ≡ fault_seen c.args.self.now (Under (name_of c.args.x) A (names_seen c.args.self.now c.args.scope.now)) c.args.e c.args.k)) c.written_type.ensures.is c.inside.ensures

pub inside-fault_at-requires : goal.inside-fault_at-requires
inside-fault_at-requires t c =
    let scope = scope_under c.args.self.now.view.arena.now c.args.scope.now c.in_ok-inner.inner.items c.args.bound c.in_ok-inner.ensures c.requires.bound c.requires.scope in
    (omega arith, (c.requires.walk, (rw c.deref.ensures.value scope, (c.requires.known, c.requires.fits))))

pub inside-returns : goal.inside-returns
inside-returns t c =
    subst (λ (Δ : Context). IfOk c.fault_at.result (λ r. r ≡ fault_seen c.args.self.now Δ c.args.i c.args.k)) (ap (context_in c.args.self.now.view.arena.now) (c.deref.ensures.value ∙ c.in_ok-inner.ensures)) c.fault_at.ensures

pub cases-line_type-requires-clause-view : goal.cases-line_type-requires-clause-view
cases-line_type-requires-clause-view t c = c.requires.walk.view

pub cases-line_type-requires-clause-known : goal.cases-line_type-requires-clause-known
cases-line_type-requires-clause-known t c = c.requires.first

pub paired-line_type-requires-clause-view : goal.paired-line_type-requires-clause-view
paired-line_type-requires-clause-view t c = c.requires.walk.view

pub paired-line_type-requires-clause-known : goal.paired-line_type-requires-clause-known
paired-line_type-requires-clause-known t c = c.requires.first

pub unbanged-line_type-requires-clause-view : goal.unbanged-line_type-requires-clause-view
unbanged-line_type-requires-clause-view t c = c.requires.walk.view

pub unbanged-line_type-requires-clause-known : goal.unbanged-line_type-requires-clause-known
unbanged-line_type-requires-clause-known t c = c.requires.first

pub cases-sum_parts-requires : goal.cases-sum_parts-requires
cases-sum_parts-requires t c = c.line_type.ensures.known

pub paired-tensor_parts-requires : goal.paired-tensor_parts-requires
paired-tensor_parts-requires t c = c.line_type.ensures.known

pub unbanged-bang_parts-requires : goal.unbanged-bang_parts-requires
unbanged-bang_parts-requires t c = c.line_type.ensures.known

pub cases-returns-in_default : goal.cases-returns-in_default
cases-returns-in_default t c = absurd (true≢false (sym c.requires.form ∙ subst (λ (A : Ty). is_sum A ≡ false) c.line_type.ensures.is c.in_default.ensures))

pub paired-returns-in_default : goal.paired-returns-in_default
paired-returns-in_default t c = absurd (true≢false (sym c.requires.form ∙ subst (λ (A : Ty). is_tensor A ≡ false) c.line_type.ensures.is c.in_default.ensures))

pub unbanged-returns-in-None : goal.unbanged-returns-in-None
unbanged-returns-in-None t c = absurd (true≢false (sym c.requires.form ∙ subst (λ (A : Ty). is_bang A ≡ false) c.line_type.ensures.is c.in-None.ensures))

pub cases-fault_at-requires : goal.cases-fault_at-requires
cases-fault_at-requires t c = (omega arith, (c.requires.walk, (c.requires.scope, (c.requires.e_known, c.requires.e_fits))))

pub cases-branches-requires : goal.cases-branches-requires
cases-branches-requires t c = (omega arith, (c.requires.walk, (c.requires.scope, (rw c.in-Some.left-is c.in-Some.ensures.0, (rw c.in-Some.right-is c.in-Some.ensures.1, (c.requires.a_known, (c.requires.b_known, (c.requires.a_fits, c.requires.b_fits))))))))

pub cases-returns-in-Some-2 : goal.cases-returns-in-Some-2
cases-returns-in-Some-2 t c = found_first c.in_ok-at.field-0 _ _ c.in-Some-2.at c.in_ok-at.ensures c.in-Some-2.is

pub cases-returns-in-None : goal.cases-returns-in-None
cases-returns-in-None t c =
    let sides : type_at c.args.self.now.view.arena.now c.line_type.result ≡ SumT (type_at c.args.self.now.view.arena.now c.in-Some.left) (type_at c.args.self.now.view.arena.now c.in-Some.right) = rw (c.in-Some.left-is, c.in-Some.right-is) c.in-Some.ensures.2 in
    let below = found_later c.branches.result c.in_ok-at.field-0 _ _ c.in_ok-at.ensures c.in-None.is c.branches.ensures in
    subst (λ (A : Ty). IfOk c.branches.result (λ r. r ≡ first_of (fault_seen c.args.self.now (names_seen c.args.self.now c.args.scope.now) c.args.e c.args.places.first)
    (first_of (fault_seen c.args.self.now (Under (name_of c.args.x) (first_type A) (names_seen c.args.self.now c.args.scope.now)) c.args.a c.args.places.second) (fault_seen c.args.self.now (Under (name_of c.args.y) (second_type A) (names_seen c.args.self.now c.args.scope.now)) c.args.b c.args.places.third))))
    (sym sides ∙ c.line_type.ensures.is) below

pub paired-fault_at-requires : goal.paired-fault_at-requires
paired-fault_at-requires t c = (omega arith, (c.requires.walk, (c.requires.scope, (c.requires.e_known, c.requires.e_fits))))

pub paired-inside-requires : goal.paired-inside-requires
paired-inside-requires t c =
    let scope = scope_under c.args.self.now.view.arena.now c.args.scope.now c.in_ok-outer-in-None.outer.items (record { name = c.args.x; ty = c.in-Some.first }) c.in_ok-outer-in-None.ensures (rw c.in-Some.first-is c.in-Some.ensures.0) c.requires.scope in
    (omega arith, (c.requires.walk, (rw c.deref.ensures.value scope, (rw c.in-Some.second-is c.in-Some.ensures.1, (c.requires.b_known, c.requires.b_fits)))))

pub paired-returns-in-Some-2 : goal.paired-returns-in-Some-2
paired-returns-in-Some-2 t c = found_first c.in_ok-at.field-0 _ _ c.in-Some-2.at c.in_ok-at.ensures c.in-Some-2.is

pub paired-returns-in_ok-outer-in-None : goal.paired-returns-in_ok-outer-in-None
paired-returns-in_ok-outer-in-None t c =
    let sides : type_at c.args.self.now.view.arena.now c.line_type.result ≡ TensorT (type_at c.args.self.now.view.arena.now c.in-Some.first) (type_at c.args.self.now.view.arena.now c.in-Some.second) = rw (c.in-Some.first-is, c.in-Some.second-is) c.in-Some.ensures.2 in
    let inner = subst (λ (Δ : Context). IfOk c.inside.result (λ r. r ≡ fault_seen c.args.self.now (Under (name_of c.args.y) (type_at c.args.self.now.view.arena.now c.in-Some.second) Δ) c.args.b c.args.places.second))
    (ap (context_in c.args.self.now.view.arena.now) (c.deref.ensures.value ∙ c.in_ok-outer-in-None.ensures)) c.inside.ensures in
    let below = found_later c.inside.result c.in_ok-at.field-0 _ _ c.in_ok-at.ensures c.in-None.is inner in
    subst (λ (A : Ty). IfOk c.inside.result (λ r. r ≡ first_of (fault_seen c.args.self.now (names_seen c.args.self.now c.args.scope.now) c.args.e c.args.places.first)
    (fault_seen c.args.self.now (Under (name_of c.args.y) (second_type A) (Under (name_of c.args.x) (first_type A) (names_seen c.args.self.now c.args.scope.now))) c.args.b c.args.places.second)))
    (sym sides ∙ c.line_type.ensures.is) below

pub unbanged-bound-requires : goal.unbanged-bound-requires
unbanged-bound-requires t c = (omega arith, (c.requires.walk, (c.requires.scope, (c.in-Some.ensures.1, (c.requires.e_known, (c.requires.b_known, (c.requires.e_fits, c.requires.b_fits)))))))

pub unbanged-returns-in-Some : goal.unbanged-returns-in-Some
unbanged-returns-in-Some t c =
    subst (λ (A : Ty). IfOk c.bound.result (λ r. r ≡ first_of (fault_seen c.args.self.now (names_seen c.args.self.now c.args.scope.now) c.args.e c.args.places.first)
    (fault_seen c.args.self.now (Under (name_of c.args.x) (first_type A) (names_seen c.args.self.now c.args.scope.now)) c.args.b c.args.places.second)))
    (sym c.in-Some.ensures.2 ∙ c.line_type.ensures.is) c.bound.ensures

pub fault_at-node-requires : goal.fault_at-node-requires
fault_at-node-requires t c = let h = c.requires.known in let w = c.requires.walk.known in omega (arith, h, w)

pub fault_at-places-at-requires-clause-walk : goal.fault_at-places-at-requires-clause-walk
fault_at-places-at-requires-clause-walk t c = c.requires.walk

pub fault_at-places-at-requires-clause-fits : goal.fault_at-places-at-requires-clause-fits
fault_at-places-at-requires-clause-fits t c = (c.node.result.now.span, subst (λ (e : Term). c.args.k + nodes_of e ≤ length c.args.self.now.view.lines.now) c.node.ensures.form c.requires.fits)

pub fault_at-is_fine-requires-clause-walk : goal.fault_at-is_fine-requires-clause-walk
fault_at-is_fine-requires-clause-walk t c = c.requires.walk

pub fault_at-is_fine-requires-clause-scope : goal.fault_at-is_fine-requires-clause-scope
fault_at-is_fine-requires-clause-scope t c = c.requires.scope

pub fault_at-line_type-requires-clause-view : goal.fault_at-line_type-requires-clause-view
fault_at-line_type-requires-clause-view t c = c.requires.walk.view
