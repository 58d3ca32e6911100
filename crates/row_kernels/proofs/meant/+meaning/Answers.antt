use Rattle.std.proofs.Common.{◌<◌, ℤ, List, arith, ap, subst, sym, ◌∙◌, length, rules, to_z, of_z, w64}
use Rattle.fz_ast.specs.Names.{name_of}
use Rattle.fz_ast.specs.Parts.{Parts}
use Rattle.fz_ast.specs.TermNodes.{IsKnown, binary, term_at, unary}
use Rattle.fz_ast.specs.Terms.{AppE, ClipE, IfE, LetE, LetPairE, TimesE}
use Rattle.fz_ast.specs.TypeNodes.{type_at}
use Rattle.fz_ast.specs.declared.term.Form.{Form}
use Rattle.fz_ast.specs.declared.term.Form.TheVariants.{Binary as Op2, If, Let, LetPair, Ranged as Bounded, Times, Unary as Op, Var}
use Rattle.fz_ast.specs.declared.term.Ranged.TheVariants.{Clip}
use Rattle.row_kernels.specs.declared.frames.Frame.{Frame}
use Rattle.row_kernels.specs.Calls.{IsArgument, IsCalled}
use Rattle.row_kernels.specs.Lanes.{AllLong, AreGiven, AreHalves, AreMeant, AreNamed}
use Rattle.row_kernels.proofs.Given.{by_answer, call_given, form_meant, let_given, pair_given, var_given}
use Rattle.row_kernels.proofs.Held.{high_held, low_held, times_held}
use Rattle.row_kernels.proofs.meant.+meaning.Goals as goal

pub lanes_of-returns-in-Var : goal.lanes_of-returns-in-Var
lanes_of-returns-in-Var t c =
    let fs = c.args.frames.now in
    let γ = c.args.outer.now.means in
    let n = c.args.len in
    let N = c.args.nodes.now in
    let here = term_at N.terms c.args.i in
    by_answer c.named.result (AreNamed fs γ (name_of c.in-Var.name) n) (AreMeant fs γ here n) c.named.ensures
    (λ l k. form_meant fs γ n here (type_at N.types) (term_at N.terms) c.node.result.now.span c.node.result.now.form (Var c.in-Var.name) c.node.ensures.form c.in-Var.is l (var_given fs γ n (name_of c.in-Var.name) l k))

pub lanes_of-returns-in-Unary : goal.lanes_of-returns-in-Unary
lanes_of-returns-in-Unary t c =
    let fs = c.args.frames.now in
    let γ = c.args.outer.now.means in
    let n = c.args.len in
    let N = c.args.nodes.now in
    let here = term_at N.terms c.args.i in
    by_answer c.lanes_of_word.result (AreGiven fs γ (unary c.in-Unary.form (term_at N.terms c.in-Unary.e)) n) (AreMeant fs γ here n) c.lanes_of_word.ensures
    (λ l k. form_meant fs γ n here (type_at N.types) (term_at N.terms) c.node.result.now.span c.node.result.now.form (Op c.in-Unary.form c.in-Unary.e) c.node.ensures.form c.in-Unary.is l k)

pub lanes_of-returns-in-Binary : goal.lanes_of-returns-in-Binary
lanes_of-returns-in-Binary t c =
    let fs = c.args.frames.now in
    let γ = c.args.outer.now.means in
    let n = c.args.len in
    let N = c.args.nodes.now in
    let here = term_at N.terms c.args.i in
    by_answer c.lanes_of_two.result (AreGiven fs γ (binary c.in-Binary.form (term_at N.terms c.in-Binary.a) (term_at N.terms c.in-Binary.b)) n) (AreMeant fs γ here n) c.lanes_of_two.ensures
    (λ l k. form_meant fs γ n here (type_at N.types) (term_at N.terms) c.node.result.now.span c.node.result.now.form (Op2 c.in-Binary.form c.in-Binary.a c.in-Binary.b) c.node.ensures.form c.in-Binary.is l k)

pub lanes_of-returns-in-Let : goal.lanes_of-returns-in-Let
lanes_of-returns-in-Let t c =
    let fs = c.args.frames.now in
    let γ = c.args.outer.now.means in
    let n = c.args.len in
    let N = c.args.nodes.now in
    let here = term_at N.terms c.args.i in
    by_answer c.lanes_of_let.result (AreGiven fs γ (LetE (name_of c.in-Let.x) (term_at N.terms c.in-Let.e) (term_at N.terms c.in-Let.b)) n) (AreMeant fs γ here n) c.lanes_of_let.ensures
    (λ l k. form_meant fs γ n here (type_at N.types) (term_at N.terms) c.node.result.now.span c.node.result.now.form (Let c.in-Let.x c.in-Let.e c.in-Let.b) c.node.ensures.form c.in-Let.is l k)

pub lanes_of-returns-in-LetPair : goal.lanes_of-returns-in-LetPair
lanes_of-returns-in-LetPair t c =
    let fs = c.args.frames.now in
    let γ = c.args.outer.now.means in
    let n = c.args.len in
    let N = c.args.nodes.now in
    let here = term_at N.terms c.args.i in
    by_answer c.lanes_of_pair.result (AreGiven fs γ (LetPairE (name_of c.in-LetPair.x) (name_of c.in-LetPair.y) (term_at N.terms c.in-LetPair.e) (term_at N.terms c.in-LetPair.b)) n) (AreMeant fs γ here n) c.lanes_of_pair.ensures
    (λ l k. form_meant fs γ n here (type_at N.types) (term_at N.terms) c.node.result.now.span c.node.result.now.form (LetPair c.in-LetPair.x c.in-LetPair.y c.in-LetPair.e c.in-LetPair.b) c.node.ensures.form c.in-LetPair.is l k)

pub lanes_of-returns-in-If : goal.lanes_of-returns-in-If
lanes_of-returns-in-If t c =
    let fs = c.args.frames.now in
    let γ = c.args.outer.now.means in
    let n = c.args.len in
    let N = c.args.nodes.now in
    let here = term_at N.terms c.args.i in
    by_answer c.lanes_of_if.result (AreGiven fs γ (IfE (term_at N.terms c.in-If.e) (term_at N.terms c.in-If.a) (term_at N.terms c.in-If.b)) n) (AreMeant fs γ here n) c.lanes_of_if.ensures
    (λ l k. form_meant fs γ n here (type_at N.types) (term_at N.terms) c.node.result.now.span c.node.result.now.form (If c.in-If.e c.in-If.a c.in-If.b) c.node.ensures.form c.in-If.is l k)

pub lanes_of-returns-in-Times : goal.lanes_of-returns-in-Times
lanes_of-returns-in-Times t c =
    let fs = c.args.frames.now in
    let γ = c.args.outer.now.means in
    let n = c.args.len in
    let N = c.args.nodes.now in
    let here = term_at N.terms c.args.i in
    by_answer c.lanes_of_multiple.result (AreGiven fs γ (TimesE (to_z w64 (of_z w64 c.in-Times.k)) (term_at N.terms c.in-Times.e)) n) (AreMeant fs γ here n) c.lanes_of_multiple.ensures
    (λ l k. form_meant fs γ n here (type_at N.types) (term_at N.terms) c.node.result.now.span c.node.result.now.form (Times c.in-Times.k c.in-Times.e) c.node.ensures.form c.in-Times.is l (subst (λ (z : ℤ). AreGiven fs γ (TimesE z (term_at N.terms c.in-Times.e)) n l) (times_held here (type_at N.types) (term_at N.terms) c.node.result.now.span c.node.result.now.form c.node.ensures.form c.node.ensures.limits c.in-Times.k c.in-Times.e c.in-Times.is) k))

pub lanes_of-returns-in-Clip : goal.lanes_of-returns-in-Clip
lanes_of-returns-in-Clip t c =
    let fs = c.args.frames.now in
    let γ = c.args.outer.now.means in
    let n = c.args.len in
    let N = c.args.nodes.now in
    let here = term_at N.terms c.args.i in
    by_answer c.lanes_of_clip.result (AreGiven fs γ (ClipE (to_z w64 (of_z w64 c.in-Ranged.lo)) (to_z w64 (of_z w64 c.in-Ranged.hi)) (term_at N.terms c.in-Ranged.e)) n) (AreMeant fs γ here n) c.lanes_of_clip.ensures
    (λ l k. form_meant fs γ n here (type_at N.types) (term_at N.terms) c.node.result.now.span c.node.result.now.form (Bounded Clip c.in-Ranged.lo c.in-Ranged.hi c.in-Ranged.e) c.node.ensures.form (c.in-Ranged.is ∙ ap (λ o. Bounded o c.in-Ranged.lo c.in-Ranged.hi c.in-Ranged.e) c.in-Clip.is) l (subst (λ (z : ℤ). AreGiven fs γ (ClipE z c.in-Ranged.hi (term_at N.terms c.in-Ranged.e)) n l) (low_held here (type_at N.types) (term_at N.terms) c.node.result.now.span c.node.result.now.form c.node.ensures.form c.node.ensures.limits Clip c.in-Ranged.lo c.in-Ranged.hi c.in-Ranged.e (c.in-Ranged.is ∙ ap (λ o. Bounded o c.in-Ranged.lo c.in-Ranged.hi c.in-Ranged.e) c.in-Clip.is)) (subst (λ (z : ℤ). AreGiven fs γ (ClipE (to_z w64 (of_z w64 c.in-Ranged.lo)) z (term_at N.terms c.in-Ranged.e)) n l) (high_held here (type_at N.types) (term_at N.terms) c.node.result.now.span c.node.result.now.form c.node.ensures.form c.node.ensures.limits Clip c.in-Ranged.lo c.in-Ranged.hi c.in-Ranged.e (c.in-Ranged.is ∙ ap (λ o. Bounded o c.in-Ranged.lo c.in-Ranged.hi c.in-Ranged.e) c.in-Clip.is)) k)))

pub lanes_of_let-lanes_of-requires-2 : goal.lanes_of_let-lanes_of-requires-2
lanes_of_let-lanes_of-requires-2 t c =
    let n = c.args.len in
    let bound : AreMeant c.args.frames.now c.args.outer.now.means (term_at c.args.nodes.now.terms c.args.e) n c.in-Some.bound = search rules in
    (omega arith, (c.requires.b_known, subst (λ (fs : List Frame). AllLong n fs) (sym c.in_ok-inner.ensures) (bound.long, c.requires.long)))

pub lanes_of_pair-lanes_of-requires-2 : goal.lanes_of_pair-lanes_of-requires-2
lanes_of_pair-lanes_of-requires-2 t c =
    let n = c.args.len in
    let h : AreHalves n c.in-Some.pair c.in-Some-2.first c.in-Some-2.second = search rules in
    (omega arith, (c.requires.b_known, subst (λ (fs : List Frame). AllLong n fs) (sym c.in_ok-inner.ensures) (h.second, (h.first, c.requires.long))))

pub lanes_of_call-lanes_of-requires-2 : goal.lanes_of_call-lanes_of-requires-2
lanes_of_call-lanes_of-requires-2 t c =
    let n = c.args.len in
    let f = c.in-Some.function.now in
    let x : AreMeant c.args.frames.now c.args.outer.now.means (term_at c.args.nodes.now.terms c.in-Some-argument.e) n c.in-Some-2.x = search rules in
    let called : IsCalled c.args.frames.now c.args.outer.now.means (term_at c.args.nodes.now.terms c.args.f) f = search rules in
    let k = subst (λ (g : Form). IsKnown (length c.deref.result.now.types) f.lambda g) c.in-Lambda.is c.node.ensures.known in
    let below : c.in-Lambda.body < length f.nodes.value.terms = omega (arith, k.1, called.known) in
    (omega arith, (subst (λ (N : Parts). c.in-Lambda.body < length N.terms) (sym c.deref-2.ensures) below, subst (λ (fs : List Frame). AllLong n fs) (sym c.in_ok-inner.ensures) (x.long, tt)))

pub lanes_of_call-returns : goal.lanes_of_call-returns
lanes_of_call-returns t c =
    let fs = c.args.frames.now in
    let γ = c.args.outer.now.means in
    let n = c.args.len in
    let N = c.args.nodes.now in
    let k = c.in-Some.function.now in
    let D = c.deref.result.now in
    let inner = c.in_ok-inner.inner in
    let a = term_at N.terms c.args.a in
    let e = term_at N.terms c.in-Some-argument.e in
    let x : AreMeant fs γ e n c.in-Some-2.x = search rules in
    let called : IsCalled fs γ (term_at N.terms c.args.f) k = search rules in
    let argument : IsArgument c.in-Lambda.arrow a e = search rules in
    let whole = ap (λ (P : Parts). term_at P.terms k.lambda) (sym c.deref.ensures) ∙ c.node.ensures.form in
    by_answer c.lanes_of-2.result (AreMeant inner k.scope.means (term_at c.deref-2.result.now.terms c.in-Lambda.body) n) (AreGiven fs γ (AppE (term_at N.terms c.args.f) a) n) c.lanes_of-2.ensures
    (λ l h. call_given fs γ n (term_at N.terms c.args.f) a k (type_at D.types) (term_at D.terms) c.node.result.now.span c.in-Lambda.arrow c.in-Lambda.name c.in-Lambda.field-2 c.in-Lambda.field-3 c.in-Lambda.body
    (term_at k.nodes.value.terms k.lambda) c.node.result.now.form whole c.in-Lambda.is called.each e argument c.in-Some-2.x x inner c.in_ok-inner.ensures l
    (subst (λ (P : Parts). AreMeant inner k.scope.means (term_at P.terms c.in-Lambda.body) n l) (c.deref-2.ensures ∙ sym c.deref.ensures) h))

pub lanes_of_let-returns : goal.lanes_of_let-returns
lanes_of_let-returns t c =
    let fs = c.args.frames.now in
    let γ = c.args.outer.now.means in
    let n = c.args.len in
    let e = term_at c.args.nodes.now.terms c.args.e in
    let b = term_at c.args.nodes.now.terms c.args.b in
    let inner = c.in_ok-inner.inner in
    let bound : AreMeant fs γ e n c.in-Some.bound = search rules in
    by_answer c.lanes_of-2.result (AreMeant inner γ b n) (AreGiven fs γ (LetE (name_of c.args.x.now) e b) n) c.lanes_of-2.ensures
    (λ l h. let_given fs γ n c.args.x.now e b c.in-Some.bound l bound inner c.in_ok-inner.ensures h)

pub lanes_of_pair-returns : goal.lanes_of_pair-returns
lanes_of_pair-returns t c =
    let fs = c.args.frames.now in
    let γ = c.args.outer.now.means in
    let n = c.args.len in
    let e = term_at c.args.nodes.now.terms c.args.e in
    let b = term_at c.args.nodes.now.terms c.args.b in
    let inner = c.in_ok-inner.inner in
    let pair : AreMeant fs γ e n c.in-Some.pair = search rules in
    let h : AreHalves n c.in-Some.pair c.in-Some-2.first c.in-Some-2.second = search rules in
    by_answer c.lanes_of-2.result (AreMeant inner γ b n) (AreGiven fs γ (LetPairE (name_of c.args.x.now) (name_of c.args.y.now) e b) n) c.lanes_of-2.ensures
    (λ l k. pair_given fs γ n c.args.x.now c.args.y.now e b c.in-Some.pair c.in-Some-2.first c.in-Some-2.second l pair h inner c.in_ok-inner.ensures k)
