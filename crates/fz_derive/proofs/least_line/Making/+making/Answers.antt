-- What is made of each form, from what is made of its parts.
use Rattle.std.proofs.Common.{◌≡◌, ◌∙◌, List, length, ap, sym, subst, arith, refl}
use Rattle.std.specs.Prelude.{false, Ok, Err}
use Rattle.fz_ast.proofs.Arenas.{grows_at, grows_known, grows_refl, grows_trans}
use Rattle.fz_ast.proofs.TermNodes.{is_known_more}
use Rattle.fz_ast.specs.Limits.{TermLimits}
use Rattle.fz_ast.specs.Names.{name_of}
use Rattle.fz_ast.specs.TermNodes.{IsKnown, term_at}
use Rattle.fz_ast.specs.TypeNodes.{type_at}
use Rattle.fz_ast.specs.Types.{Ty}
use Rattle.fz_ast.specs.declared.term.Form.TheVariants.{Binary as Op2, Let, LetBang, LetPair, If, Case, Lambda}
use Rattle.term_meanings.specs.Scopes.{Context, Under}
use Rattle.derivation_rows.specs.Formed.{ArePlaced}
use Rattle.derivation_rows.specs.Faults.{first_type, second_type}
use Rattle.derivation_rows.specs.Groups.{binary_row, lambda_row}
use Rattle.derivation_lines.specs.Held.{line_in}
use Rattle.fz_derive.specs.Least.{Derived, least, lines_of}
use Rattle.derivation_lines.specs.Lines.{AreInOrder}
use Rattle.fz_derive.specs.Making.{Adds, AddsParts, IsMaking}
use Rattle.derivation_rows.specs.Rows.{case_row, if_row, is_sum, is_tensor, let_bang_row, let_pair_row, let_row}
use Rattle.derivation_lines.specs.Said.{says_of}
use Rattle.derivation_rows.specs.Scoped.{context_in}
use Rattle.derivation_rows.specs.Shapes.{is_bang}
use Rattle.derivation_lines.specs.declared.line.Line.{Line as KeptLine}
use Rattle.derivation_lines.specs.declared.line.Said.{Said}
use Rattle.derivation_rows.specs.declared.rows.Places.{Places}
use Rattle.fz_derive.proofs.Making.{case_form, context_none, context_same, failed, form_limits, if_form, kept_type, lambda_form, leaf_adds, leaf_of, let_bang_form, let_form, let_pair_form, making_grows, making_pushed, making_under, more_length, no_bang, no_sum, no_tensor, none_said, one_adds, one_fails, one_form, one_known, one_of, one_row, own_adds, own_failed, own_least, own_same, parts_failed, parts_fault, parts_no_memory, pushed_length, row_at, adds_fault, adds_no_memory, three_adds, three_first, three_row, three_second, three_third, two_adds, two_first_fails, two_form, two_row_fails, two_second_fails, under_same, written_is}
use Rattle.derivation_rows.proofs.Scopes.{context_grows}
use Rattle.fz_derive.proofs.least_line.Making.+making.Goals as goal

pub one-node-requires : goal.one-node-requires
one-node-requires t c = (omega arith, (c.requires.e_known, c.requires.making))

pub one-returns-in_err-node-clause-grows : goal.one-returns-in_err-node-clause-grows
one-returns-in_err-node-clause-grows t c = c.in_err-node.ensures.grows

pub one-returns-in_err-node-clause-adds : goal.one-returns-in_err-node-clause-adds
one-returns-in_err-node-clause-adds t c = λ form h. parts_fault c.args.self.now.nodes.now (context_in c.args.arena.now c.args.scope.now.bounds.items) form c.args.arena.now c.args.lines.now.items c.node.new.arena c.node.new.lines.items c.from_residual.result c.in_err-node.field-0.0 c.from_residual.ensures.1
    (λ e. one_fails c.args.self.now.nodes.now (context_in c.args.arena.now c.args.scope.now.bounds.items) form (context_in c.args.arena.now c.args.scope.now.bounds.items) (term_at c.args.self.now.nodes.now.terms c.args.e) (one_row c.args.self.now.nodes.now form) (one_form c.args.self.now.nodes.now (context_in c.args.arena.now c.args.scope.now.bounds.items) form c.args.e h) (failed (context_in c.args.arena.now c.args.scope.now.bounds.items) (term_at c.args.self.now.nodes.now.terms c.args.e) c.args.arena.now c.args.lines.now.items c.node.new.arena c.node.new.lines.items c.in_err-node.field-0.0 c.in_err-node.ensures.adds e))

pub one-returns-clause-grows : goal.one-returns-clause-grows
one-returns-clause-grows t c = c.in_ok-node.ensures.grows

pub one-returns-clause-adds : goal.one-returns-clause-adds
one-returns-clause-adds t c = λ form h. let a = c.in_ok-node.ensures.adds in
    one_adds c.args.self.now.nodes.now (context_in c.args.arena.now c.args.scope.now.bounds.items) form (context_in c.args.arena.now c.args.scope.now.bounds.items) (term_at c.args.self.now.nodes.now.terms c.args.e) (one_row c.args.self.now.nodes.now form) c.args.arena.now c.node.new.arena c.args.lines.now.items c.node.new.lines.items c.one_place.result a.0 (one_form c.args.self.now.nodes.now (context_in c.args.arena.now c.args.scope.now.bounds.items) form c.args.e h) a.1 a.2 (let k = ap (λ (p : Places). p.first) c.one_place.ensures in let e = c.len-first.ensures in let f = c.args.lines.now.ok in omega (arith, k, e, f))

pub two-node-requires : goal.two-node-requires
two-node-requires t c = (omega arith, (c.requires.a_known, c.requires.making))

pub two-node-requires-2 : goal.two-node-requires-2
two-node-requires-2 t c = (omega arith, (c.requires.b_known, (making_grows c.args.self.now.nodes.now c.args.arena.now c.node.new.arena c.args.self.now.written.now c.args.scope.now.bounds.items c.args.lines.now.items c.node.new.lines.items c.in_ok-node.ensures.grows c.in_ok-node.ensures.adds.2.held c.requires.making)))

pub two-returns-in_err-node-clause-grows : goal.two-returns-in_err-node-clause-grows
two-returns-in_err-node-clause-grows t c = c.in_err-node.ensures.grows

pub two-returns-in_err-node-clause-adds : goal.two-returns-in_err-node-clause-adds
two-returns-in_err-node-clause-adds t c = λ o. parts_fault c.args.self.now.nodes.now (context_in c.args.arena.now c.args.scope.now.bounds.items) (Op2 o c.args.a c.args.b) c.args.arena.now c.args.lines.now.items c.node.new.arena c.node.new.lines.items c.from_residual.result c.in_err-node.field-0.0 c.from_residual.ensures.1
    (λ e. two_first_fails c.args.self.now.nodes.now (context_in c.args.arena.now c.args.scope.now.bounds.items) (Op2 o c.args.a c.args.b) (term_at c.args.self.now.nodes.now.terms c.args.a) (λ d. (context_in c.args.arena.now c.args.scope.now.bounds.items)) (term_at c.args.self.now.nodes.now.terms c.args.b) (binary_row o) (two_form c.args.self.now.nodes.now (context_in c.args.arena.now c.args.scope.now.bounds.items) o c.args.a c.args.b) (failed (context_in c.args.arena.now c.args.scope.now.bounds.items) (term_at c.args.self.now.nodes.now.terms c.args.a) c.args.arena.now c.args.lines.now.items c.node.new.arena c.node.new.lines.items c.in_err-node.field-0.0 c.in_err-node.ensures.adds e))

pub two-returns-in_err-node-2-clause-grows : goal.two-returns-in_err-node-2-clause-grows
two-returns-in_err-node-2-clause-grows t c = (grows_trans c.args.arena.now c.node.new.arena c.node-2.new.arena c.in_ok-node.ensures.grows c.in_err-node-2.ensures.grows)

pub two-returns-in_err-node-2-clause-adds : goal.two-returns-in_err-node-2-clause-adds
two-returns-in_err-node-2-clause-adds t c = λ o. let a = c.in_ok-node.ensures.adds in parts_fault c.args.self.now.nodes.now (context_in c.args.arena.now c.args.scope.now.bounds.items) (Op2 o c.args.a c.args.b) c.args.arena.now c.args.lines.now.items c.node-2.new.arena c.node-2.new.lines.items c.from_residual-in_err-node-2.result c.in_err-node-2.field-0.0 c.from_residual-in_err-node-2.ensures.1
    (λ e. two_second_fails c.args.self.now.nodes.now (context_in c.args.arena.now c.args.scope.now.bounds.items) (Op2 o c.args.a c.args.b) (term_at c.args.self.now.nodes.now.terms c.args.a) (λ d. (context_in c.args.arena.now c.args.scope.now.bounds.items)) (term_at c.args.self.now.nodes.now.terms c.args.b) (binary_row o) a.0 (two_form c.args.self.now.nodes.now (context_in c.args.arena.now c.args.scope.now.bounds.items) o c.args.a c.args.b) a.1 (context_none (context_in c.node.new.arena c.args.scope.now.bounds.items) (context_in c.args.arena.now c.args.scope.now.bounds.items) (term_at c.args.self.now.nodes.now.terms c.args.b) (context_grows c.args.arena.now c.node.new.arena c.args.scope.now.bounds.items c.in_ok-node.ensures.grows c.requires.making.scope) (failed (context_in c.node.new.arena c.args.scope.now.bounds.items) (term_at c.args.self.now.nodes.now.terms c.args.b) c.node.new.arena c.node.new.lines.items c.node-2.new.arena c.node-2.new.lines.items c.in_err-node-2.field-0.0 c.in_err-node-2.ensures.adds e)))

pub two-returns-clause-grows : goal.two-returns-clause-grows
two-returns-clause-grows t c = (grows_trans c.args.arena.now c.node.new.arena c.node-2.new.arena c.in_ok-node.ensures.grows c.in_ok-node-2.ensures.grows)

pub two-returns-clause-adds : goal.two-returns-clause-adds
two-returns-clause-adds t c = λ o. let a = c.in_ok-node.ensures.adds in let b = c.in_ok-node-2.ensures.adds in
    two_adds c.args.self.now.nodes.now (context_in c.args.arena.now c.args.scope.now.bounds.items) (Op2 o c.args.a c.args.b) (term_at c.args.self.now.nodes.now.terms c.args.a) (λ d. (context_in c.args.arena.now c.args.scope.now.bounds.items)) (term_at c.args.self.now.nodes.now.terms c.args.b) (binary_row o) c.args.arena.now c.node.new.arena c.node-2.new.arena c.args.lines.now.items c.node.new.lines.items c.node-2.new.lines.items c.two_places.result a.0 b.0 (two_form c.args.self.now.nodes.now (context_in c.args.arena.now c.args.scope.now.bounds.items) o c.args.a c.args.b) a.1 a.2 (context_same (context_in c.node.new.arena c.args.scope.now.bounds.items) (context_in c.args.arena.now c.args.scope.now.bounds.items) (term_at c.args.self.now.nodes.now.terms c.args.b) b.0 (context_grows c.args.arena.now c.node.new.arena c.args.scope.now.bounds.items c.in_ok-node.ensures.grows c.requires.making.scope) b.1) b.2 (let k = ap (λ (p : Places). p.first) c.two_places.ensures in let e = c.len-first.ensures in let f = c.args.lines.now.ok in omega (arith, k, e, f)) (let k = ap (λ (p : Places). p.second) c.two_places.ensures in let e = c.len-second.ensures in let f = c.node.new.lines.ok in omega (arith, k, e, f))

pub let_name-node-requires : goal.let_name-node-requires
let_name-node-requires t c = (omega arith, (c.requires.e_known, c.requires.making))

pub let_name-returns-in_err-node-clause-grows : goal.let_name-returns-in_err-node-clause-grows
let_name-returns-in_err-node-clause-grows t c = c.in_err-node.ensures.grows

pub let_name-returns-in_err-node-clause-adds : goal.let_name-returns-in_err-node-clause-adds
let_name-returns-in_err-node-clause-adds t c = parts_fault c.args.self.now.nodes.now (context_in c.args.arena.now c.args.scope.now.bounds.items) (Let c.args.x c.args.e c.args.b) c.args.arena.now c.args.lines.now.items c.node.new.arena c.node.new.lines.items c.from_residual.result c.in_err-node.field-0.0 c.from_residual.ensures.1
    (λ e. two_first_fails c.args.self.now.nodes.now (context_in c.args.arena.now c.args.scope.now.bounds.items) (Let c.args.x c.args.e c.args.b) (term_at c.args.self.now.nodes.now.terms c.args.e) (λ d. Under (name_of c.args.x) d.own.ty (context_in c.args.arena.now c.args.scope.now.bounds.items)) (term_at c.args.self.now.nodes.now.terms c.args.b) (let_row (name_of c.args.x)) (let_form c.args.self.now.nodes.now (context_in c.args.arena.now c.args.scope.now.bounds.items) c.args.x c.args.e c.args.b) (failed (context_in c.args.arena.now c.args.scope.now.bounds.items) (term_at c.args.self.now.nodes.now.terms c.args.e) c.args.arena.now c.args.lines.now.items c.node.new.arena c.node.new.lines.items c.in_err-node.field-0.0 c.in_err-node.ensures.adds e))

pub let_name-index-requires : goal.let_name-index-requires
let_name-index-requires t c = let l = more_length c.args.arena.now c.node.new.arena c.args.lines.now.items c.node.new.lines.items (lines_of c.in_ok-node.ensures.adds.0) c.in_ok-node.ensures.adds.2 in let e = c.len-first.ensures in let f = c.args.lines.now.ok in let g = c.node.new.lines.ok in omega (arith, l, e, f, g)

pub let_name-returns-in_err-under-clause-grows : goal.let_name-returns-in_err-under-clause-grows
let_name-returns-in_err-under-clause-grows t c = (grows_trans c.args.arena.now c.node.new.arena c.under.new.arena c.in_ok-node.ensures.grows c.in_err-under.ensures.grows)

pub let_name-returns-clause-grows : goal.let_name-returns-clause-grows
let_name-returns-clause-grows t c = (grows_trans c.args.arena.now c.node.new.arena c.under.new.arena c.in_ok-node.ensures.grows c.in_ok-under.ensures.grows)

pub let_name-under-requires : goal.let_name-under-requires
let_name-under-requires t c = (omega arith, (c.requires.b_known, ((kept_type c.args.arena.now c.node.new.arena c.args.lines.now.items c.node.new.lines.items c.in_ok-node.ensures.adds.0 c.len-first.result c.index.result.now c.in_ok-node.ensures.adds.2 (let e = c.len-first.ensures in let f = c.args.lines.now.ok in omega (arith, e, f)) c.index.ensures).0, (making_grows c.args.self.now.nodes.now c.args.arena.now c.node.new.arena c.args.self.now.written.now c.args.scope.now.bounds.items c.args.lines.now.items c.node.new.lines.items c.in_ok-node.ensures.grows c.in_ok-node.ensures.adds.2.held c.requires.making))))

pub let_name-returns-in_err-under-clause-adds : goal.let_name-returns-in_err-under-clause-adds
let_name-returns-in_err-under-clause-adds t c = let a = c.in_ok-node.ensures.adds in parts_fault c.args.self.now.nodes.now (context_in c.args.arena.now c.args.scope.now.bounds.items) (Let c.args.x c.args.e c.args.b) c.args.arena.now c.args.lines.now.items c.under.new.arena c.under.new.lines.items c.from_residual-in_err-under.result c.in_err-under.field-0.0 c.from_residual-in_err-under.ensures.1
    (λ e. two_second_fails c.args.self.now.nodes.now (context_in c.args.arena.now c.args.scope.now.bounds.items) (Let c.args.x c.args.e c.args.b) (term_at c.args.self.now.nodes.now.terms c.args.e) (λ d. Under (name_of c.args.x) d.own.ty (context_in c.args.arena.now c.args.scope.now.bounds.items)) (term_at c.args.self.now.nodes.now.terms c.args.b) (let_row (name_of c.args.x)) a.0 (let_form c.args.self.now.nodes.now (context_in c.args.arena.now c.args.scope.now.bounds.items) c.args.x c.args.e c.args.b) a.1 (context_none (Under (name_of c.args.x) (type_at c.node.new.arena c.index.result.now.ty) (context_in c.node.new.arena c.args.scope.now.bounds.items)) _ (term_at c.args.self.now.nodes.now.terms c.args.b) (under_same (name_of c.args.x) (type_at c.node.new.arena c.index.result.now.ty) a.0.own.ty (context_in c.node.new.arena c.args.scope.now.bounds.items) (context_in c.args.arena.now c.args.scope.now.bounds.items) (kept_type c.args.arena.now c.node.new.arena c.args.lines.now.items c.node.new.lines.items c.in_ok-node.ensures.adds.0 c.len-first.result c.index.result.now c.in_ok-node.ensures.adds.2 (let e = c.len-first.ensures in let f = c.args.lines.now.ok in omega (arith, e, f)) c.index.ensures).1 (context_grows c.args.arena.now c.node.new.arena c.args.scope.now.bounds.items c.in_ok-node.ensures.grows c.requires.making.scope)) (failed (Under (name_of c.args.x) (type_at c.node.new.arena c.index.result.now.ty) (context_in c.node.new.arena c.args.scope.now.bounds.items)) (term_at c.args.self.now.nodes.now.terms c.args.b) c.node.new.arena c.node.new.lines.items c.under.new.arena c.under.new.lines.items c.in_err-under.field-0.0 c.in_err-under.ensures.adds e)))

pub let_name-returns-clause-adds : goal.let_name-returns-clause-adds
let_name-returns-clause-adds t c = let a = c.in_ok-node.ensures.adds in let b = c.in_ok-under.ensures.adds in
    two_adds c.args.self.now.nodes.now (context_in c.args.arena.now c.args.scope.now.bounds.items) (Let c.args.x c.args.e c.args.b) (term_at c.args.self.now.nodes.now.terms c.args.e) (λ d. Under (name_of c.args.x) d.own.ty (context_in c.args.arena.now c.args.scope.now.bounds.items)) (term_at c.args.self.now.nodes.now.terms c.args.b) (let_row (name_of c.args.x)) c.args.arena.now c.node.new.arena c.under.new.arena c.args.lines.now.items c.node.new.lines.items c.under.new.lines.items c.two_places.result a.0 b.0 (let_form c.args.self.now.nodes.now (context_in c.args.arena.now c.args.scope.now.bounds.items) c.args.x c.args.e c.args.b) a.1 a.2 (context_same (Under (name_of c.args.x) (type_at c.node.new.arena c.index.result.now.ty) (context_in c.node.new.arena c.args.scope.now.bounds.items)) _ (term_at c.args.self.now.nodes.now.terms c.args.b) b.0 (under_same (name_of c.args.x) (type_at c.node.new.arena c.index.result.now.ty) a.0.own.ty (context_in c.node.new.arena c.args.scope.now.bounds.items) (context_in c.args.arena.now c.args.scope.now.bounds.items) (kept_type c.args.arena.now c.node.new.arena c.args.lines.now.items c.node.new.lines.items c.in_ok-node.ensures.adds.0 c.len-first.result c.index.result.now c.in_ok-node.ensures.adds.2 (let e = c.len-first.ensures in let f = c.args.lines.now.ok in omega (arith, e, f)) c.index.ensures).1 (context_grows c.args.arena.now c.node.new.arena c.args.scope.now.bounds.items c.in_ok-node.ensures.grows c.requires.making.scope)) b.1) b.2 (let k = ap (λ (p : Places). p.first) c.two_places.ensures in let e = c.len-first.ensures in let f = c.args.lines.now.ok in omega (arith, k, e, f)) (let k = ap (λ (p : Places). p.second) c.two_places.ensures in let e = c.len-second.ensures in let f = c.node.new.lines.ok in omega (arith, k, e, f))

pub let_bang-node-requires : goal.let_bang-node-requires
let_bang-node-requires t c = (omega arith, (c.requires.e_known, c.requires.making))

pub let_bang-returns-in_err-node-clause-grows : goal.let_bang-returns-in_err-node-clause-grows
let_bang-returns-in_err-node-clause-grows t c = c.in_err-node.ensures.grows

pub let_bang-returns-in_err-node-clause-adds : goal.let_bang-returns-in_err-node-clause-adds
let_bang-returns-in_err-node-clause-adds t c = parts_fault c.args.self.now.nodes.now (context_in c.args.arena.now c.args.scope.now.bounds.items) (LetBang c.args.x c.args.e c.args.b) c.args.arena.now c.args.lines.now.items c.node.new.arena c.node.new.lines.items c.from_residual.result c.in_err-node.field-0.0 c.from_residual.ensures.1
    (λ e. two_first_fails c.args.self.now.nodes.now (context_in c.args.arena.now c.args.scope.now.bounds.items) (LetBang c.args.x c.args.e c.args.b) (term_at c.args.self.now.nodes.now.terms c.args.e) (λ d. Under (name_of c.args.x) (first_type d.own.ty) (context_in c.args.arena.now c.args.scope.now.bounds.items)) (term_at c.args.self.now.nodes.now.terms c.args.b) (let_bang_row (name_of c.args.x)) (let_bang_form c.args.self.now.nodes.now (context_in c.args.arena.now c.args.scope.now.bounds.items) c.args.x c.args.e c.args.b) (failed (context_in c.args.arena.now c.args.scope.now.bounds.items) (term_at c.args.self.now.nodes.now.terms c.args.e) c.args.arena.now c.args.lines.now.items c.node.new.arena c.node.new.lines.items c.in_err-node.field-0.0 c.in_err-node.ensures.adds e))

pub let_bang-index-requires : goal.let_bang-index-requires
let_bang-index-requires t c = let l = more_length c.args.arena.now c.node.new.arena c.args.lines.now.items c.node.new.lines.items (lines_of c.in_ok-node.ensures.adds.0) c.in_ok-node.ensures.adds.2 in let e = c.len-first.ensures in let f = c.args.lines.now.ok in let g = c.node.new.lines.ok in omega (arith, l, e, f, g)

pub let_bang-returns-in_err-under-clause-grows : goal.let_bang-returns-in_err-under-clause-grows
let_bang-returns-in_err-under-clause-grows t c = (grows_trans c.args.arena.now c.node.new.arena c.under.new.arena c.in_ok-node.ensures.grows c.in_err-under.ensures.grows)

pub let_bang-returns-clause-grows : goal.let_bang-returns-clause-grows
let_bang-returns-clause-grows t c = (grows_trans c.args.arena.now c.node.new.arena c.under.new.arena c.in_ok-node.ensures.grows c.in_ok-under.ensures.grows)

pub let_bang-under_bang-requires : goal.let_bang-under_bang-requires
let_bang-under_bang-requires t c = (kept_type c.args.arena.now c.node.new.arena c.args.lines.now.items c.node.new.lines.items c.in_ok-node.ensures.adds.0 c.len-first.result c.index.result.now c.in_ok-node.ensures.adds.2 (let e = c.len-first.ensures in let f = c.args.lines.now.ok in omega (arith, e, f)) c.index.ensures).0

pub let_bang-returns-in_default-clause-grows : goal.let_bang-returns-in_default-clause-grows
let_bang-returns-in_default-clause-grows t c = c.in_ok-node.ensures.grows

pub let_bang-returns-in_default-clause-adds : goal.let_bang-returns-in_default-clause-adds
let_bang-returns-in_default-clause-adds t c = let a = c.in_ok-node.ensures.adds in two_row_fails c.args.self.now.nodes.now (context_in c.args.arena.now c.args.scope.now.bounds.items) (LetBang c.args.x c.args.e c.args.b) (term_at c.args.self.now.nodes.now.terms c.args.e) (λ d. Under (name_of c.args.x) (first_type d.own.ty) (context_in c.args.arena.now c.args.scope.now.bounds.items)) (term_at c.args.self.now.nodes.now.terms c.args.b) (let_bang_row (name_of c.args.x)) a.0 (let_bang_form c.args.self.now.nodes.now (context_in c.args.arena.now c.args.scope.now.bounds.items) c.args.x c.args.e c.args.b) a.1 (λ d. no_bang (name_of c.args.x) a.0.own d.own (subst (λ (A : Ty). is_bang A ≡ false) (kept_type c.args.arena.now c.node.new.arena c.args.lines.now.items c.node.new.lines.items c.in_ok-node.ensures.adds.0 c.len-first.result c.index.result.now c.in_ok-node.ensures.adds.2 (let e = c.len-first.ensures in let f = c.args.lines.now.ok in omega (arith, e, f)) c.index.ensures).1 c.in_default.ensures))

pub let_bang-under-requires : goal.let_bang-under-requires
let_bang-under-requires t c = (omega arith, (c.requires.b_known, (c.in-Some.ensures.0, (making_grows c.args.self.now.nodes.now c.args.arena.now c.node.new.arena c.args.self.now.written.now c.args.scope.now.bounds.items c.args.lines.now.items c.node.new.lines.items c.in_ok-node.ensures.grows c.in_ok-node.ensures.adds.2.held c.requires.making))))

pub let_bang-returns-in_err-under-clause-adds : goal.let_bang-returns-in_err-under-clause-adds
let_bang-returns-in_err-under-clause-adds t c = let a = c.in_ok-node.ensures.adds in parts_fault c.args.self.now.nodes.now (context_in c.args.arena.now c.args.scope.now.bounds.items) (LetBang c.args.x c.args.e c.args.b) c.args.arena.now c.args.lines.now.items c.under.new.arena c.under.new.lines.items c.from_residual-in_err-under.result c.in_err-under.field-0.0 c.from_residual-in_err-under.ensures.1
    (λ e. two_second_fails c.args.self.now.nodes.now (context_in c.args.arena.now c.args.scope.now.bounds.items) (LetBang c.args.x c.args.e c.args.b) (term_at c.args.self.now.nodes.now.terms c.args.e) (λ d. Under (name_of c.args.x) (first_type d.own.ty) (context_in c.args.arena.now c.args.scope.now.bounds.items)) (term_at c.args.self.now.nodes.now.terms c.args.b) (let_bang_row (name_of c.args.x)) a.0 (let_bang_form c.args.self.now.nodes.now (context_in c.args.arena.now c.args.scope.now.bounds.items) c.args.x c.args.e c.args.b) a.1 (context_none (Under (name_of c.args.x) (type_at c.node.new.arena c.in-Some.ty) (context_in c.node.new.arena c.args.scope.now.bounds.items)) _ (term_at c.args.self.now.nodes.now.terms c.args.b) (under_same (name_of c.args.x) (type_at c.node.new.arena c.in-Some.ty) (first_type a.0.own.ty) (context_in c.node.new.arena c.args.scope.now.bounds.items) (context_in c.args.arena.now c.args.scope.now.bounds.items) (sym c.in-Some.ensures.2 ∙ ap first_type (kept_type c.args.arena.now c.node.new.arena c.args.lines.now.items c.node.new.lines.items c.in_ok-node.ensures.adds.0 c.len-first.result c.index.result.now c.in_ok-node.ensures.adds.2 (let e = c.len-first.ensures in let f = c.args.lines.now.ok in omega (arith, e, f)) c.index.ensures).1) (context_grows c.args.arena.now c.node.new.arena c.args.scope.now.bounds.items c.in_ok-node.ensures.grows c.requires.making.scope)) (failed (Under (name_of c.args.x) (type_at c.node.new.arena c.in-Some.ty) (context_in c.node.new.arena c.args.scope.now.bounds.items)) (term_at c.args.self.now.nodes.now.terms c.args.b) c.node.new.arena c.node.new.lines.items c.under.new.arena c.under.new.lines.items c.in_err-under.field-0.0 c.in_err-under.ensures.adds e)))

pub let_bang-returns-clause-adds : goal.let_bang-returns-clause-adds
let_bang-returns-clause-adds t c = let a = c.in_ok-node.ensures.adds in let b = c.in_ok-under.ensures.adds in
    two_adds c.args.self.now.nodes.now (context_in c.args.arena.now c.args.scope.now.bounds.items) (LetBang c.args.x c.args.e c.args.b) (term_at c.args.self.now.nodes.now.terms c.args.e) (λ d. Under (name_of c.args.x) (first_type d.own.ty) (context_in c.args.arena.now c.args.scope.now.bounds.items)) (term_at c.args.self.now.nodes.now.terms c.args.b) (let_bang_row (name_of c.args.x)) c.args.arena.now c.node.new.arena c.under.new.arena c.args.lines.now.items c.node.new.lines.items c.under.new.lines.items c.two_places.result a.0 b.0 (let_bang_form c.args.self.now.nodes.now (context_in c.args.arena.now c.args.scope.now.bounds.items) c.args.x c.args.e c.args.b) a.1 a.2 (context_same (Under (name_of c.args.x) (type_at c.node.new.arena c.in-Some.ty) (context_in c.node.new.arena c.args.scope.now.bounds.items)) _ (term_at c.args.self.now.nodes.now.terms c.args.b) b.0 (under_same (name_of c.args.x) (type_at c.node.new.arena c.in-Some.ty) (first_type a.0.own.ty) (context_in c.node.new.arena c.args.scope.now.bounds.items) (context_in c.args.arena.now c.args.scope.now.bounds.items) (sym c.in-Some.ensures.2 ∙ ap first_type (kept_type c.args.arena.now c.node.new.arena c.args.lines.now.items c.node.new.lines.items c.in_ok-node.ensures.adds.0 c.len-first.result c.index.result.now c.in_ok-node.ensures.adds.2 (let e = c.len-first.ensures in let f = c.args.lines.now.ok in omega (arith, e, f)) c.index.ensures).1) (context_grows c.args.arena.now c.node.new.arena c.args.scope.now.bounds.items c.in_ok-node.ensures.grows c.requires.making.scope)) b.1) b.2 (let k = ap (λ (p : Places). p.first) c.two_places.ensures in let e = c.len-first.ensures in let f = c.args.lines.now.ok in omega (arith, k, e, f)) (let k = ap (λ (p : Places). p.second) c.two_places.ensures in let e = c.len-second.ensures in let f = c.node.new.lines.ok in omega (arith, k, e, f))

pub let_pair-node-requires : goal.let_pair-node-requires
let_pair-node-requires t c = (omega arith, (c.requires.e_known, c.requires.making))

pub let_pair-returns-in_err-node-clause-grows : goal.let_pair-returns-in_err-node-clause-grows
let_pair-returns-in_err-node-clause-grows t c = c.in_err-node.ensures.grows

pub let_pair-returns-in_err-node-clause-adds : goal.let_pair-returns-in_err-node-clause-adds
let_pair-returns-in_err-node-clause-adds t c = parts_fault c.args.self.now.nodes.now (context_in c.args.arena.now c.args.scope.now.bounds.items) (LetPair c.args.x c.args.y c.args.e c.args.b) c.args.arena.now c.args.lines.now.items c.node.new.arena c.node.new.lines.items c.from_residual.result c.in_err-node.field-0.0 c.from_residual.ensures.1
    (λ e. two_first_fails c.args.self.now.nodes.now (context_in c.args.arena.now c.args.scope.now.bounds.items) (LetPair c.args.x c.args.y c.args.e c.args.b) (term_at c.args.self.now.nodes.now.terms c.args.e) (λ d. Under (name_of c.args.y) (second_type d.own.ty) (Under (name_of c.args.x) (first_type d.own.ty) (context_in c.args.arena.now c.args.scope.now.bounds.items))) (term_at c.args.self.now.nodes.now.terms c.args.b) (let_pair_row (name_of c.args.x) (name_of c.args.y)) (let_pair_form c.args.self.now.nodes.now (context_in c.args.arena.now c.args.scope.now.bounds.items) c.args.x c.args.y c.args.e c.args.b) (failed (context_in c.args.arena.now c.args.scope.now.bounds.items) (term_at c.args.self.now.nodes.now.terms c.args.e) c.args.arena.now c.args.lines.now.items c.node.new.arena c.node.new.lines.items c.in_err-node.field-0.0 c.in_err-node.ensures.adds e))

pub let_pair-index-requires : goal.let_pair-index-requires
let_pair-index-requires t c = let l = more_length c.args.arena.now c.node.new.arena c.args.lines.now.items c.node.new.lines.items (lines_of c.in_ok-node.ensures.adds.0) c.in_ok-node.ensures.adds.2 in let e = c.len-first.ensures in let f = c.args.lines.now.ok in let g = c.node.new.lines.ok in omega (arith, l, e, f, g)

pub let_pair-tensor_parts-requires : goal.let_pair-tensor_parts-requires
let_pair-tensor_parts-requires t c = (kept_type c.args.arena.now c.node.new.arena c.args.lines.now.items c.node.new.lines.items c.in_ok-node.ensures.adds.0 c.len-first.result c.index.result.now c.in_ok-node.ensures.adds.2 (let e = c.len-first.ensures in let f = c.args.lines.now.ok in omega (arith, e, f)) c.index.ensures).0

pub let_pair-returns-in_default-clause-grows : goal.let_pair-returns-in_default-clause-grows
let_pair-returns-in_default-clause-grows t c = c.in_ok-node.ensures.grows

pub let_pair-returns-in_default-clause-adds : goal.let_pair-returns-in_default-clause-adds
let_pair-returns-in_default-clause-adds t c = let a = c.in_ok-node.ensures.adds in two_row_fails c.args.self.now.nodes.now (context_in c.args.arena.now c.args.scope.now.bounds.items) (LetPair c.args.x c.args.y c.args.e c.args.b) (term_at c.args.self.now.nodes.now.terms c.args.e) (λ d. Under (name_of c.args.y) (second_type d.own.ty) (Under (name_of c.args.x) (first_type d.own.ty) (context_in c.args.arena.now c.args.scope.now.bounds.items))) (term_at c.args.self.now.nodes.now.terms c.args.b) (let_pair_row (name_of c.args.x) (name_of c.args.y)) a.0 (let_pair_form c.args.self.now.nodes.now (context_in c.args.arena.now c.args.scope.now.bounds.items) c.args.x c.args.y c.args.e c.args.b) a.1 (λ d. no_tensor (name_of c.args.x) (name_of c.args.y) a.0.own d.own (subst (λ (A : Ty). is_tensor A ≡ false) (kept_type c.args.arena.now c.node.new.arena c.args.lines.now.items c.node.new.lines.items c.in_ok-node.ensures.adds.0 c.len-first.result c.index.result.now c.in_ok-node.ensures.adds.2 (let e = c.len-first.ensures in let f = c.args.lines.now.ok in omega (arith, e, f)) c.index.ensures).1 c.in_default.ensures))

pub let_pair-returns-in_err-outer-clause-grows : goal.let_pair-returns-in_err-outer-clause-grows
let_pair-returns-in_err-outer-clause-grows t c = c.in_ok-node.ensures.grows

pub let_pair-returns-in_err-outer-clause-adds : goal.let_pair-returns-in_err-outer-clause-adds
let_pair-returns-in_err-outer-clause-adds t c = parts_no_memory c.args.self.now.nodes.now (context_in c.args.arena.now c.args.scope.now.bounds.items) (LetPair c.args.x c.args.y c.args.e c.args.b) c.args.arena.now c.args.lines.now.items c.node.new.arena c.node.new.lines.items c.from_residual-in_err-outer.result c.from_residual-in_err-outer.ensures.1

pub let_pair-under-requires : goal.let_pair-under-requires
let_pair-under-requires t c = (omega arith, (c.requires.b_known, (c.in-Some.ensures.1, making_under c.args.self.now.nodes.now c.node.new.arena c.args.self.now.written.now c.args.scope.now.bounds.items c.in_ok-outer.outer.bounds.items (record { name = c.args.x; ty = c.in-Some.left }) c.node.new.lines.items c.in_ok-outer.ensures c.in-Some.ensures.0 (making_grows c.args.self.now.nodes.now c.args.arena.now c.node.new.arena c.args.self.now.written.now c.args.scope.now.bounds.items c.args.lines.now.items c.node.new.lines.items c.in_ok-node.ensures.grows c.in_ok-node.ensures.adds.2.held c.requires.making))))

pub let_pair-returns-in_err-under-clause-grows : goal.let_pair-returns-in_err-under-clause-grows
let_pair-returns-in_err-under-clause-grows t c = grows_trans c.args.arena.now c.node.new.arena c.under.new.arena c.in_ok-node.ensures.grows c.in_err-under.ensures.grows

pub let_pair-returns-clause-grows : goal.let_pair-returns-clause-grows
let_pair-returns-clause-grows t c = grows_trans c.args.arena.now c.node.new.arena c.under.new.arena c.in_ok-node.ensures.grows c.in_ok-under.ensures.grows

pub let_pair-returns-in_err-under-clause-adds : goal.let_pair-returns-in_err-under-clause-adds
let_pair-returns-in_err-under-clause-adds t c = let a = c.in_ok-node.ensures.adds in parts_fault c.args.self.now.nodes.now (context_in c.args.arena.now c.args.scope.now.bounds.items) (LetPair c.args.x c.args.y c.args.e c.args.b) c.args.arena.now c.args.lines.now.items c.under.new.arena c.under.new.lines.items c.from_residual-in_err-under.result c.in_err-under.field-0.0 c.from_residual-in_err-under.ensures.1
    (λ e. two_second_fails c.args.self.now.nodes.now (context_in c.args.arena.now c.args.scope.now.bounds.items) (LetPair c.args.x c.args.y c.args.e c.args.b) (term_at c.args.self.now.nodes.now.terms c.args.e) (λ d. Under (name_of c.args.y) (second_type d.own.ty) (Under (name_of c.args.x) (first_type d.own.ty) (context_in c.args.arena.now c.args.scope.now.bounds.items))) (term_at c.args.self.now.nodes.now.terms c.args.b) (let_pair_row (name_of c.args.x) (name_of c.args.y)) a.0 (let_pair_form c.args.self.now.nodes.now (context_in c.args.arena.now c.args.scope.now.bounds.items) c.args.x c.args.y c.args.e c.args.b) a.1 (context_none (Under (name_of c.args.y) (type_at c.node.new.arena c.in-Some.right) (context_in c.node.new.arena c.in_ok-outer.outer.bounds.items)) _ (term_at c.args.self.now.nodes.now.terms c.args.b) (under_same (name_of c.args.y) (type_at c.node.new.arena c.in-Some.right) (second_type a.0.own.ty) (context_in c.node.new.arena c.in_ok-outer.outer.bounds.items) (Under (name_of c.args.x) (first_type a.0.own.ty) (context_in c.args.arena.now c.args.scope.now.bounds.items)) (ap second_type (sym c.in-Some.ensures.2) ∙ ap second_type (kept_type c.args.arena.now c.node.new.arena c.args.lines.now.items c.node.new.lines.items c.in_ok-node.ensures.adds.0 c.len-first.result c.index.result.now c.in_ok-node.ensures.adds.2 (let e = c.len-first.ensures in let f = c.args.lines.now.ok in omega (arith, e, f)) c.index.ensures).1) (ap (context_in c.node.new.arena) c.in_ok-outer.ensures ∙ under_same (name_of c.args.x) (type_at c.node.new.arena c.in-Some.left) (first_type a.0.own.ty) (context_in c.node.new.arena c.args.scope.now.bounds.items) (context_in c.args.arena.now c.args.scope.now.bounds.items) (ap first_type (sym c.in-Some.ensures.2) ∙ ap first_type (kept_type c.args.arena.now c.node.new.arena c.args.lines.now.items c.node.new.lines.items c.in_ok-node.ensures.adds.0 c.len-first.result c.index.result.now c.in_ok-node.ensures.adds.2 (let e = c.len-first.ensures in let f = c.args.lines.now.ok in omega (arith, e, f)) c.index.ensures).1) (context_grows c.args.arena.now c.node.new.arena c.args.scope.now.bounds.items c.in_ok-node.ensures.grows c.requires.making.scope))) (failed (Under (name_of c.args.y) (type_at c.node.new.arena c.in-Some.right) (context_in c.node.new.arena c.in_ok-outer.outer.bounds.items)) (term_at c.args.self.now.nodes.now.terms c.args.b) c.node.new.arena c.node.new.lines.items c.under.new.arena c.under.new.lines.items c.in_err-under.field-0.0 c.in_err-under.ensures.adds e)))

pub let_pair-returns-clause-adds : goal.let_pair-returns-clause-adds
let_pair-returns-clause-adds t c = let a = c.in_ok-node.ensures.adds in let b = c.in_ok-under.ensures.adds in
    two_adds c.args.self.now.nodes.now (context_in c.args.arena.now c.args.scope.now.bounds.items) (LetPair c.args.x c.args.y c.args.e c.args.b) (term_at c.args.self.now.nodes.now.terms c.args.e) (λ d. Under (name_of c.args.y) (second_type d.own.ty) (Under (name_of c.args.x) (first_type d.own.ty) (context_in c.args.arena.now c.args.scope.now.bounds.items))) (term_at c.args.self.now.nodes.now.terms c.args.b) (let_pair_row (name_of c.args.x) (name_of c.args.y)) c.args.arena.now c.node.new.arena c.under.new.arena c.args.lines.now.items c.node.new.lines.items c.under.new.lines.items c.two_places.result a.0 b.0 (let_pair_form c.args.self.now.nodes.now (context_in c.args.arena.now c.args.scope.now.bounds.items) c.args.x c.args.y c.args.e c.args.b) a.1 a.2 (context_same (Under (name_of c.args.y) (type_at c.node.new.arena c.in-Some.right) (context_in c.node.new.arena c.in_ok-outer.outer.bounds.items)) _ (term_at c.args.self.now.nodes.now.terms c.args.b) b.0 (under_same (name_of c.args.y) (type_at c.node.new.arena c.in-Some.right) (second_type a.0.own.ty) (context_in c.node.new.arena c.in_ok-outer.outer.bounds.items) (Under (name_of c.args.x) (first_type a.0.own.ty) (context_in c.args.arena.now c.args.scope.now.bounds.items)) (ap second_type (sym c.in-Some.ensures.2) ∙ ap second_type (kept_type c.args.arena.now c.node.new.arena c.args.lines.now.items c.node.new.lines.items c.in_ok-node.ensures.adds.0 c.len-first.result c.index.result.now c.in_ok-node.ensures.adds.2 (let e = c.len-first.ensures in let f = c.args.lines.now.ok in omega (arith, e, f)) c.index.ensures).1) (ap (context_in c.node.new.arena) c.in_ok-outer.ensures ∙ under_same (name_of c.args.x) (type_at c.node.new.arena c.in-Some.left) (first_type a.0.own.ty) (context_in c.node.new.arena c.args.scope.now.bounds.items) (context_in c.args.arena.now c.args.scope.now.bounds.items) (ap first_type (sym c.in-Some.ensures.2) ∙ ap first_type (kept_type c.args.arena.now c.node.new.arena c.args.lines.now.items c.node.new.lines.items c.in_ok-node.ensures.adds.0 c.len-first.result c.index.result.now c.in_ok-node.ensures.adds.2 (let e = c.len-first.ensures in let f = c.args.lines.now.ok in omega (arith, e, f)) c.index.ensures).1) (context_grows c.args.arena.now c.node.new.arena c.args.scope.now.bounds.items c.in_ok-node.ensures.grows c.requires.making.scope))) b.1) b.2 (let k = ap (λ (p : Places). p.first) c.two_places.ensures in let e = c.len-first.ensures in let f = c.args.lines.now.ok in omega (arith, k, e, f)) (let k = ap (λ (p : Places). p.second) c.two_places.ensures in let e = c.len-second.ensures in let f = c.node.new.lines.ok in omega (arith, k, e, f))

pub choice-node-requires : goal.choice-node-requires
choice-node-requires t c = (omega arith, (c.requires.e_known, c.requires.making))

pub choice-node-requires-2 : goal.choice-node-requires-2
choice-node-requires-2 t c = (omega arith, (c.requires.a_known, (making_grows c.args.self.now.nodes.now c.args.arena.now c.node.new.arena c.args.self.now.written.now c.args.scope.now.bounds.items c.args.lines.now.items c.node.new.lines.items c.in_ok-node.ensures.grows c.in_ok-node.ensures.adds.2.held c.requires.making)))

pub choice-node-requires-3 : goal.choice-node-requires-3
choice-node-requires-3 t c = (omega arith, (c.requires.b_known, (making_grows c.args.self.now.nodes.now c.args.arena.now c.node-2.new.arena c.args.self.now.written.now c.args.scope.now.bounds.items c.args.lines.now.items c.node-2.new.lines.items (grows_trans c.args.arena.now c.node.new.arena c.node-2.new.arena c.in_ok-node.ensures.grows c.in_ok-node-2.ensures.grows) c.in_ok-node-2.ensures.adds.2.held c.requires.making)))

pub choice-returns-in_err-node-clause-grows : goal.choice-returns-in_err-node-clause-grows
choice-returns-in_err-node-clause-grows t c = c.in_err-node.ensures.grows

pub choice-returns-in_err-node-2-clause-grows : goal.choice-returns-in_err-node-2-clause-grows
choice-returns-in_err-node-2-clause-grows t c = grows_trans c.args.arena.now c.node.new.arena c.node-2.new.arena c.in_ok-node.ensures.grows c.in_err-node-2.ensures.grows

pub choice-returns-in_err-node-3-clause-grows : goal.choice-returns-in_err-node-3-clause-grows
choice-returns-in_err-node-3-clause-grows t c = grows_trans c.args.arena.now c.node-2.new.arena c.node-3.new.arena (grows_trans c.args.arena.now c.node.new.arena c.node-2.new.arena c.in_ok-node.ensures.grows c.in_ok-node-2.ensures.grows) c.in_err-node-3.ensures.grows

pub choice-returns-clause-grows : goal.choice-returns-clause-grows
choice-returns-clause-grows t c = grows_trans c.args.arena.now c.node-2.new.arena c.node-3.new.arena (grows_trans c.args.arena.now c.node.new.arena c.node-2.new.arena c.in_ok-node.ensures.grows c.in_ok-node-2.ensures.grows) c.in_ok-node-3.ensures.grows

pub choice-returns-in_err-node-clause-adds : goal.choice-returns-in_err-node-clause-adds
choice-returns-in_err-node-clause-adds t c = parts_fault c.args.self.now.nodes.now (context_in c.args.arena.now c.args.scope.now.bounds.items) (If c.args.e c.args.a c.args.b) c.args.arena.now c.args.lines.now.items c.node.new.arena c.node.new.lines.items c.from_residual.result c.in_err-node.field-0.0 c.from_residual.ensures.1
    (λ e. three_first (if_form c.args.self.now.nodes.now (context_in c.args.arena.now c.args.scope.now.bounds.items) c.args.e c.args.a c.args.b) (failed (context_in c.args.arena.now c.args.scope.now.bounds.items) (term_at c.args.self.now.nodes.now.terms c.args.e) c.args.arena.now c.args.lines.now.items c.node.new.arena c.node.new.lines.items c.in_err-node.field-0.0 c.in_err-node.ensures.adds e))

pub choice-returns-in_err-node-2-clause-adds : goal.choice-returns-in_err-node-2-clause-adds
choice-returns-in_err-node-2-clause-adds t c = let a = c.in_ok-node.ensures.adds in parts_fault c.args.self.now.nodes.now (context_in c.args.arena.now c.args.scope.now.bounds.items) (If c.args.e c.args.a c.args.b) c.args.arena.now c.args.lines.now.items c.node-2.new.arena c.node-2.new.lines.items c.from_residual-in_err-node-2.result c.in_err-node-2.field-0.0 c.from_residual-in_err-node-2.ensures.1
    (λ e. three_second (if_form c.args.self.now.nodes.now (context_in c.args.arena.now c.args.scope.now.bounds.items) c.args.e c.args.a c.args.b) a.0 a.1 (context_none (context_in c.node.new.arena c.args.scope.now.bounds.items) (context_in c.args.arena.now c.args.scope.now.bounds.items) (term_at c.args.self.now.nodes.now.terms c.args.a) (context_grows c.args.arena.now c.node.new.arena c.args.scope.now.bounds.items c.in_ok-node.ensures.grows c.requires.making.scope) (failed (context_in c.node.new.arena c.args.scope.now.bounds.items) (term_at c.args.self.now.nodes.now.terms c.args.a) c.node.new.arena c.node.new.lines.items c.node-2.new.arena c.node-2.new.lines.items c.in_err-node-2.field-0.0 c.in_err-node-2.ensures.adds e)))

pub choice-returns-in_err-node-3-clause-adds : goal.choice-returns-in_err-node-3-clause-adds
choice-returns-in_err-node-3-clause-adds t c = let a = c.in_ok-node.ensures.adds in let b = c.in_ok-node-2.ensures.adds in parts_fault c.args.self.now.nodes.now (context_in c.args.arena.now c.args.scope.now.bounds.items) (If c.args.e c.args.a c.args.b) c.args.arena.now c.args.lines.now.items c.node-3.new.arena c.node-3.new.lines.items c.from_residual-in_err-node-3.result c.in_err-node-3.field-0.0 c.from_residual-in_err-node-3.ensures.1
    (λ e. three_third (if_form c.args.self.now.nodes.now (context_in c.args.arena.now c.args.scope.now.bounds.items) c.args.e c.args.a c.args.b) a.0 b.0 a.1 (context_same (context_in c.node.new.arena c.args.scope.now.bounds.items) (context_in c.args.arena.now c.args.scope.now.bounds.items) (term_at c.args.self.now.nodes.now.terms c.args.a) b.0 (context_grows c.args.arena.now c.node.new.arena c.args.scope.now.bounds.items c.in_ok-node.ensures.grows c.requires.making.scope) b.1) (context_none (context_in c.node-2.new.arena c.args.scope.now.bounds.items) (context_in c.args.arena.now c.args.scope.now.bounds.items) (term_at c.args.self.now.nodes.now.terms c.args.b) (context_grows c.args.arena.now c.node-2.new.arena c.args.scope.now.bounds.items (grows_trans c.args.arena.now c.node.new.arena c.node-2.new.arena c.in_ok-node.ensures.grows c.in_ok-node-2.ensures.grows) c.requires.making.scope) (failed (context_in c.node-2.new.arena c.args.scope.now.bounds.items) (term_at c.args.self.now.nodes.now.terms c.args.b) c.node-2.new.arena c.node-2.new.lines.items c.node-3.new.arena c.node-3.new.lines.items c.in_err-node-3.field-0.0 c.in_err-node-3.ensures.adds e)))

pub choice-returns-clause-adds : goal.choice-returns-clause-adds
choice-returns-clause-adds t c = let a = c.in_ok-node.ensures.adds in let b = c.in_ok-node-2.ensures.adds in let d = c.in_ok-node-3.ensures.adds in
    three_adds c.args.self.now.nodes.now (context_in c.args.arena.now c.args.scope.now.bounds.items) (If c.args.e c.args.a c.args.b) (term_at c.args.self.now.nodes.now.terms c.args.e) (λ d. (context_in c.args.arena.now c.args.scope.now.bounds.items)) (term_at c.args.self.now.nodes.now.terms c.args.a) (λ d. (context_in c.args.arena.now c.args.scope.now.bounds.items)) (term_at c.args.self.now.nodes.now.terms c.args.b) if_row c.args.arena.now c.node.new.arena c.node-2.new.arena c.node-3.new.arena c.args.lines.now.items c.node.new.lines.items c.node-2.new.lines.items c.node-3.new.lines.items _ a.0 b.0 d.0 (if_form c.args.self.now.nodes.now (context_in c.args.arena.now c.args.scope.now.bounds.items) c.args.e c.args.a c.args.b) a.1 a.2 (context_same (context_in c.node.new.arena c.args.scope.now.bounds.items) (context_in c.args.arena.now c.args.scope.now.bounds.items) (term_at c.args.self.now.nodes.now.terms c.args.a) b.0 (context_grows c.args.arena.now c.node.new.arena c.args.scope.now.bounds.items c.in_ok-node.ensures.grows c.requires.making.scope) b.1) b.2 (context_same (context_in c.node-2.new.arena c.args.scope.now.bounds.items) (context_in c.args.arena.now c.args.scope.now.bounds.items) (term_at c.args.self.now.nodes.now.terms c.args.b) d.0 (context_grows c.args.arena.now c.node-2.new.arena c.args.scope.now.bounds.items (grows_trans c.args.arena.now c.node.new.arena c.node-2.new.arena c.in_ok-node.ensures.grows c.in_ok-node-2.ensures.grows) c.requires.making.scope) d.1) d.2 (let e = c.len-first.ensures in let f = c.args.lines.now.ok in omega (arith, e, f)) (let e = c.len-second.ensures in let f = c.node.new.lines.ok in omega (arith, e, f)) (let e = c.len-third.ensures in let f = c.node-2.new.lines.ok in omega (arith, e, f))

pub cases-node-requires : goal.cases-node-requires
cases-node-requires t c = (omega arith, (c.requires.e_known, c.requires.making))

pub cases-returns-in_err-node-clause-grows : goal.cases-returns-in_err-node-clause-grows
cases-returns-in_err-node-clause-grows t c = c.in_err-node.ensures.grows

pub cases-returns-in_err-node-clause-adds : goal.cases-returns-in_err-node-clause-adds
cases-returns-in_err-node-clause-adds t c = parts_fault c.args.self.now.nodes.now (context_in c.args.arena.now c.args.scope.now.bounds.items) (Case c.args.e c.args.x c.args.a c.args.y c.args.b) c.args.arena.now c.args.lines.now.items c.node.new.arena c.node.new.lines.items c.from_residual.result c.in_err-node.field-0.0 c.from_residual.ensures.1
    (λ e. three_first (case_form c.args.self.now.nodes.now (context_in c.args.arena.now c.args.scope.now.bounds.items) c.args.e c.args.x c.args.a c.args.y c.args.b) (failed (context_in c.args.arena.now c.args.scope.now.bounds.items) (term_at c.args.self.now.nodes.now.terms c.args.e) c.args.arena.now c.args.lines.now.items c.node.new.arena c.node.new.lines.items c.in_err-node.field-0.0 c.in_err-node.ensures.adds e))

pub cases-index-requires : goal.cases-index-requires
cases-index-requires t c = let l = more_length c.args.arena.now c.node.new.arena c.args.lines.now.items c.node.new.lines.items (lines_of c.in_ok-node.ensures.adds.0) c.in_ok-node.ensures.adds.2 in let e = c.len-first.ensures in let f = c.args.lines.now.ok in let g = c.node.new.lines.ok in omega (arith, l, e, f, g)

pub cases-sum_parts-requires : goal.cases-sum_parts-requires
cases-sum_parts-requires t c = (kept_type c.args.arena.now c.node.new.arena c.args.lines.now.items c.node.new.lines.items c.in_ok-node.ensures.adds.0 c.len-first.result c.index.result.now c.in_ok-node.ensures.adds.2 (let e = c.len-first.ensures in let f = c.args.lines.now.ok in omega (arith, e, f)) c.index.ensures).0

pub cases-returns-in_default-clause-grows : goal.cases-returns-in_default-clause-grows
cases-returns-in_default-clause-grows t c = c.in_ok-node.ensures.grows

pub cases-returns-in_default-clause-adds : goal.cases-returns-in_default-clause-adds
cases-returns-in_default-clause-adds t c = let a = c.in_ok-node.ensures.adds in three_row (case_form c.args.self.now.nodes.now (context_in c.args.arena.now c.args.scope.now.bounds.items) c.args.e c.args.x c.args.a c.args.y c.args.b) a.0 a.1 (λ d g. no_sum (name_of c.args.x) (name_of c.args.y) a.0.own d.own g.own (subst (λ (A : Ty). is_sum A ≡ false) (kept_type c.args.arena.now c.node.new.arena c.args.lines.now.items c.node.new.lines.items c.in_ok-node.ensures.adds.0 c.len-first.result c.index.result.now c.in_ok-node.ensures.adds.2 (let e = c.len-first.ensures in let f = c.args.lines.now.ok in omega (arith, e, f)) c.index.ensures).1 c.in_default.ensures))

pub cases-under-requires : goal.cases-under-requires
cases-under-requires t c = (omega arith, (c.requires.a_known, (c.in-Some.ensures.0, (making_grows c.args.self.now.nodes.now c.args.arena.now c.node.new.arena c.args.self.now.written.now c.args.scope.now.bounds.items c.args.lines.now.items c.node.new.lines.items c.in_ok-node.ensures.grows c.in_ok-node.ensures.adds.2.held c.requires.making))))

pub cases-under-requires-2 : goal.cases-under-requires-2
cases-under-requires-2 t c = (omega arith, (c.requires.b_known, (grows_known c.node.new.arena c.under.new.arena c.in-Some.right c.in-Some.ensures.1 c.in_ok-under.ensures.grows, (making_grows c.args.self.now.nodes.now c.args.arena.now c.under.new.arena c.args.self.now.written.now c.args.scope.now.bounds.items c.args.lines.now.items c.under.new.lines.items (grows_trans c.args.arena.now c.node.new.arena c.under.new.arena c.in_ok-node.ensures.grows c.in_ok-under.ensures.grows) c.in_ok-under.ensures.adds.2.held c.requires.making))))

pub cases-returns-in_err-under-clause-grows : goal.cases-returns-in_err-under-clause-grows
cases-returns-in_err-under-clause-grows t c = grows_trans c.args.arena.now c.node.new.arena c.under.new.arena c.in_ok-node.ensures.grows c.in_err-under.ensures.grows

pub cases-returns-in_err-under-2-clause-grows : goal.cases-returns-in_err-under-2-clause-grows
cases-returns-in_err-under-2-clause-grows t c = grows_trans c.args.arena.now c.under.new.arena c.under-2.new.arena (grows_trans c.args.arena.now c.node.new.arena c.under.new.arena c.in_ok-node.ensures.grows c.in_ok-under.ensures.grows) c.in_err-under-2.ensures.grows

pub cases-returns-clause-grows : goal.cases-returns-clause-grows
cases-returns-clause-grows t c = grows_trans c.args.arena.now c.under.new.arena c.under-2.new.arena (grows_trans c.args.arena.now c.node.new.arena c.under.new.arena c.in_ok-node.ensures.grows c.in_ok-under.ensures.grows) c.in_ok-under-2.ensures.grows

pub cases-returns-in_err-under-clause-adds : goal.cases-returns-in_err-under-clause-adds
cases-returns-in_err-under-clause-adds t c = let a = c.in_ok-node.ensures.adds in parts_fault c.args.self.now.nodes.now (context_in c.args.arena.now c.args.scope.now.bounds.items) (Case c.args.e c.args.x c.args.a c.args.y c.args.b) c.args.arena.now c.args.lines.now.items c.under.new.arena c.under.new.lines.items c.from_residual-in_err-under.result c.in_err-under.field-0.0 c.from_residual-in_err-under.ensures.1
    (λ e. three_second (case_form c.args.self.now.nodes.now (context_in c.args.arena.now c.args.scope.now.bounds.items) c.args.e c.args.x c.args.a c.args.y c.args.b) a.0 a.1 (context_none (Under (name_of c.args.x) (type_at c.node.new.arena c.in-Some.left) (context_in c.node.new.arena c.args.scope.now.bounds.items)) _ (term_at c.args.self.now.nodes.now.terms c.args.a) (under_same (name_of c.args.x) (type_at c.node.new.arena c.in-Some.left) (first_type a.0.own.ty) (context_in c.node.new.arena c.args.scope.now.bounds.items) (context_in c.args.arena.now c.args.scope.now.bounds.items) (ap first_type (sym c.in-Some.ensures.2) ∙ ap first_type (kept_type c.args.arena.now c.node.new.arena c.args.lines.now.items c.node.new.lines.items c.in_ok-node.ensures.adds.0 c.len-first.result c.index.result.now c.in_ok-node.ensures.adds.2 (let e = c.len-first.ensures in let f = c.args.lines.now.ok in omega (arith, e, f)) c.index.ensures).1) (context_grows c.args.arena.now c.node.new.arena c.args.scope.now.bounds.items c.in_ok-node.ensures.grows c.requires.making.scope)) (failed (Under (name_of c.args.x) (type_at c.node.new.arena c.in-Some.left) (context_in c.node.new.arena c.args.scope.now.bounds.items)) (term_at c.args.self.now.nodes.now.terms c.args.a) c.node.new.arena c.node.new.lines.items c.under.new.arena c.under.new.lines.items c.in_err-under.field-0.0 c.in_err-under.ensures.adds e)))

pub cases-returns-in_err-under-2-clause-adds : goal.cases-returns-in_err-under-2-clause-adds
cases-returns-in_err-under-2-clause-adds t c = let a = c.in_ok-node.ensures.adds in let b = c.in_ok-under.ensures.adds in parts_fault c.args.self.now.nodes.now (context_in c.args.arena.now c.args.scope.now.bounds.items) (Case c.args.e c.args.x c.args.a c.args.y c.args.b) c.args.arena.now c.args.lines.now.items c.under-2.new.arena c.under-2.new.lines.items c.from_residual-in_err-under-2.result c.in_err-under-2.field-0.0 c.from_residual-in_err-under-2.ensures.1
    (λ e. three_third (case_form c.args.self.now.nodes.now (context_in c.args.arena.now c.args.scope.now.bounds.items) c.args.e c.args.x c.args.a c.args.y c.args.b) a.0 b.0 a.1 (context_same (Under (name_of c.args.x) (type_at c.node.new.arena c.in-Some.left) (context_in c.node.new.arena c.args.scope.now.bounds.items)) _ (term_at c.args.self.now.nodes.now.terms c.args.a) b.0 (under_same (name_of c.args.x) (type_at c.node.new.arena c.in-Some.left) (first_type a.0.own.ty) (context_in c.node.new.arena c.args.scope.now.bounds.items) (context_in c.args.arena.now c.args.scope.now.bounds.items) (ap first_type (sym c.in-Some.ensures.2) ∙ ap first_type (kept_type c.args.arena.now c.node.new.arena c.args.lines.now.items c.node.new.lines.items c.in_ok-node.ensures.adds.0 c.len-first.result c.index.result.now c.in_ok-node.ensures.adds.2 (let e = c.len-first.ensures in let f = c.args.lines.now.ok in omega (arith, e, f)) c.index.ensures).1) (context_grows c.args.arena.now c.node.new.arena c.args.scope.now.bounds.items c.in_ok-node.ensures.grows c.requires.making.scope)) b.1) (context_none (Under (name_of c.args.y) (type_at c.under.new.arena c.in-Some.right) (context_in c.under.new.arena c.args.scope.now.bounds.items)) _ (term_at c.args.self.now.nodes.now.terms c.args.b) (under_same (name_of c.args.y) (type_at c.under.new.arena c.in-Some.right) (second_type a.0.own.ty) (context_in c.under.new.arena c.args.scope.now.bounds.items) (context_in c.args.arena.now c.args.scope.now.bounds.items) (grows_at c.node.new.arena c.under.new.arena c.in-Some.right c.in-Some.ensures.1 c.in_ok-under.ensures.grows ∙ (ap second_type (sym c.in-Some.ensures.2) ∙ ap second_type (kept_type c.args.arena.now c.node.new.arena c.args.lines.now.items c.node.new.lines.items c.in_ok-node.ensures.adds.0 c.len-first.result c.index.result.now c.in_ok-node.ensures.adds.2 (let e = c.len-first.ensures in let f = c.args.lines.now.ok in omega (arith, e, f)) c.index.ensures).1)) (context_grows c.args.arena.now c.under.new.arena c.args.scope.now.bounds.items (grows_trans c.args.arena.now c.node.new.arena c.under.new.arena c.in_ok-node.ensures.grows c.in_ok-under.ensures.grows) c.requires.making.scope)) (failed (Under (name_of c.args.y) (type_at c.under.new.arena c.in-Some.right) (context_in c.under.new.arena c.args.scope.now.bounds.items)) (term_at c.args.self.now.nodes.now.terms c.args.b) c.under.new.arena c.under.new.lines.items c.under-2.new.arena c.under-2.new.lines.items c.in_err-under-2.field-0.0 c.in_err-under-2.ensures.adds e)))

pub cases-returns-clause-adds : goal.cases-returns-clause-adds
cases-returns-clause-adds t c = let a = c.in_ok-node.ensures.adds in let b = c.in_ok-under.ensures.adds in let d = c.in_ok-under-2.ensures.adds in
    three_adds c.args.self.now.nodes.now (context_in c.args.arena.now c.args.scope.now.bounds.items) (Case c.args.e c.args.x c.args.a c.args.y c.args.b) (term_at c.args.self.now.nodes.now.terms c.args.e) (λ d. Under (name_of c.args.x) (first_type d.own.ty) (context_in c.args.arena.now c.args.scope.now.bounds.items)) (term_at c.args.self.now.nodes.now.terms c.args.a) (λ d. Under (name_of c.args.y) (second_type d.own.ty) (context_in c.args.arena.now c.args.scope.now.bounds.items)) (term_at c.args.self.now.nodes.now.terms c.args.b) (case_row (name_of c.args.x) (name_of c.args.y)) c.args.arena.now c.node.new.arena c.under.new.arena c.under-2.new.arena c.args.lines.now.items c.node.new.lines.items c.under.new.lines.items c.under-2.new.lines.items _ a.0 b.0 d.0 (case_form c.args.self.now.nodes.now (context_in c.args.arena.now c.args.scope.now.bounds.items) c.args.e c.args.x c.args.a c.args.y c.args.b) a.1 a.2 (context_same (Under (name_of c.args.x) (type_at c.node.new.arena c.in-Some.left) (context_in c.node.new.arena c.args.scope.now.bounds.items)) _ (term_at c.args.self.now.nodes.now.terms c.args.a) b.0 (under_same (name_of c.args.x) (type_at c.node.new.arena c.in-Some.left) (first_type a.0.own.ty) (context_in c.node.new.arena c.args.scope.now.bounds.items) (context_in c.args.arena.now c.args.scope.now.bounds.items) (ap first_type (sym c.in-Some.ensures.2) ∙ ap first_type (kept_type c.args.arena.now c.node.new.arena c.args.lines.now.items c.node.new.lines.items c.in_ok-node.ensures.adds.0 c.len-first.result c.index.result.now c.in_ok-node.ensures.adds.2 (let e = c.len-first.ensures in let f = c.args.lines.now.ok in omega (arith, e, f)) c.index.ensures).1) (context_grows c.args.arena.now c.node.new.arena c.args.scope.now.bounds.items c.in_ok-node.ensures.grows c.requires.making.scope)) b.1) b.2 (context_same (Under (name_of c.args.y) (type_at c.under.new.arena c.in-Some.right) (context_in c.under.new.arena c.args.scope.now.bounds.items)) _ (term_at c.args.self.now.nodes.now.terms c.args.b) d.0 (under_same (name_of c.args.y) (type_at c.under.new.arena c.in-Some.right) (second_type a.0.own.ty) (context_in c.under.new.arena c.args.scope.now.bounds.items) (context_in c.args.arena.now c.args.scope.now.bounds.items) (grows_at c.node.new.arena c.under.new.arena c.in-Some.right c.in-Some.ensures.1 c.in_ok-under.ensures.grows ∙ (ap second_type (sym c.in-Some.ensures.2) ∙ ap second_type (kept_type c.args.arena.now c.node.new.arena c.args.lines.now.items c.node.new.lines.items c.in_ok-node.ensures.adds.0 c.len-first.result c.index.result.now c.in_ok-node.ensures.adds.2 (let e = c.len-first.ensures in let f = c.args.lines.now.ok in omega (arith, e, f)) c.index.ensures).1)) (context_grows c.args.arena.now c.under.new.arena c.args.scope.now.bounds.items (grows_trans c.args.arena.now c.node.new.arena c.under.new.arena c.in_ok-node.ensures.grows c.in_ok-under.ensures.grows) c.requires.making.scope)) d.1) d.2 (let e = c.len-first.ensures in let f = c.args.lines.now.ok in omega (arith, e, f)) (let e = c.len-second.ensures in let f = c.node.new.lines.ok in omega (arith, e, f)) (let e = c.len-third.ensures in let f = c.under.new.lines.ok in omega (arith, e, f))

pub lambda-written_number-ty-requires : goal.lambda-written_number-ty-requires
lambda-written_number-ty-requires t c = let a = c.requires.making.written.all in let b = c.requires.t_known in omega (arith, a, b)

pub lambda-under-requires : goal.lambda-under-requires
lambda-under-requires t c = (omega arith, (c.requires.e_known, ((written_is c.args.self.now.nodes.now c.args.arena.now c.args.self.now.written.now c.args.scope.now.bounds.items c.args.lines.now.items c.args.t c.written_number-ty.result c.requires.making c.requires.t_known c.written_number-ty.ensures).known, c.requires.making)))

pub lambda-returns-in_err-under-clause-grows : goal.lambda-returns-in_err-under-clause-grows
lambda-returns-in_err-under-clause-grows t c = c.in_err-under.ensures.grows

pub lambda-returns-clause-grows : goal.lambda-returns-clause-grows
lambda-returns-clause-grows t c = c.in_ok-under.ensures.grows

pub lambda-returns-in_err-under-clause-adds : goal.lambda-returns-in_err-under-clause-adds
lambda-returns-in_err-under-clause-adds t c = λ o u. parts_fault c.args.self.now.nodes.now (context_in c.args.arena.now c.args.scope.now.bounds.items) (Lambda o c.args.x u c.args.t c.args.e) c.args.arena.now c.args.lines.now.items c.under.new.arena c.under.new.lines.items c.from_residual.result c.in_err-under.field-0.0 c.from_residual.ensures.1
    (λ e. one_fails c.args.self.now.nodes.now (context_in c.args.arena.now c.args.scope.now.bounds.items) (Lambda o c.args.x u c.args.t c.args.e) (Under (name_of c.args.x) (type_at c.args.self.now.nodes.now.types c.args.t) (context_in c.args.arena.now c.args.scope.now.bounds.items)) (term_at c.args.self.now.nodes.now.terms c.args.e) (lambda_row o (name_of c.args.x) (type_at c.args.self.now.nodes.now.types c.args.t)) (lambda_form c.args.self.now.nodes.now (context_in c.args.arena.now c.args.scope.now.bounds.items) o c.args.x u c.args.t c.args.e) (context_none (Under (name_of c.args.x) (type_at c.args.arena.now c.written_number-ty.result) (context_in c.args.arena.now c.args.scope.now.bounds.items)) (Under (name_of c.args.x) (type_at c.args.self.now.nodes.now.types c.args.t) (context_in c.args.arena.now c.args.scope.now.bounds.items)) (term_at c.args.self.now.nodes.now.terms c.args.e) (under_same (name_of c.args.x) (type_at c.args.arena.now c.written_number-ty.result) (type_at c.args.self.now.nodes.now.types c.args.t) (context_in c.args.arena.now c.args.scope.now.bounds.items) (context_in c.args.arena.now c.args.scope.now.bounds.items) (written_is c.args.self.now.nodes.now c.args.arena.now c.args.self.now.written.now c.args.scope.now.bounds.items c.args.lines.now.items c.args.t c.written_number-ty.result c.requires.making c.requires.t_known c.written_number-ty.ensures).is refl) (failed (Under (name_of c.args.x) (type_at c.args.arena.now c.written_number-ty.result) (context_in c.args.arena.now c.args.scope.now.bounds.items)) (term_at c.args.self.now.nodes.now.terms c.args.e) c.args.arena.now c.args.lines.now.items c.under.new.arena c.under.new.lines.items c.in_err-under.field-0.0 c.in_err-under.ensures.adds e)))

pub lambda-returns-clause-adds : goal.lambda-returns-clause-adds
lambda-returns-clause-adds t c = λ o u. let a = c.in_ok-under.ensures.adds in
    one_adds c.args.self.now.nodes.now (context_in c.args.arena.now c.args.scope.now.bounds.items) (Lambda o c.args.x u c.args.t c.args.e) (Under (name_of c.args.x) (type_at c.args.self.now.nodes.now.types c.args.t) (context_in c.args.arena.now c.args.scope.now.bounds.items)) (term_at c.args.self.now.nodes.now.terms c.args.e) (lambda_row o (name_of c.args.x) (type_at c.args.self.now.nodes.now.types c.args.t)) c.args.arena.now c.under.new.arena c.args.lines.now.items c.under.new.lines.items c.one_place.result a.0 (lambda_form c.args.self.now.nodes.now (context_in c.args.arena.now c.args.scope.now.bounds.items) o c.args.x u c.args.t c.args.e) (context_same (Under (name_of c.args.x) (type_at c.args.arena.now c.written_number-ty.result) (context_in c.args.arena.now c.args.scope.now.bounds.items)) (Under (name_of c.args.x) (type_at c.args.self.now.nodes.now.types c.args.t) (context_in c.args.arena.now c.args.scope.now.bounds.items)) (term_at c.args.self.now.nodes.now.terms c.args.e) a.0 (under_same (name_of c.args.x) (type_at c.args.arena.now c.written_number-ty.result) (type_at c.args.self.now.nodes.now.types c.args.t) (context_in c.args.arena.now c.args.scope.now.bounds.items) (context_in c.args.arena.now c.args.scope.now.bounds.items) (written_is c.args.self.now.nodes.now c.args.arena.now c.args.self.now.written.now c.args.scope.now.bounds.items c.args.lines.now.items c.args.t c.written_number-ty.result c.requires.making c.requires.t_known c.written_number-ty.ensures).is refl) a.1) a.2 (let k = ap (λ (p : Places). p.first) c.one_place.ensures in let e = c.len-first.ensures in let f = c.args.lines.now.ok in omega (arith, k, e, f))

pub parts-one-requires : goal.parts-one-requires
parts-one-requires t c = let k = one_known (length c.args.self.now.nodes.now.types) c.args.i c.args.form.now c.in-Unary.e (one_of c.args.form.now c.in-Unary.e c.in-Unary.is) c.requires.known in let w = c.requires.within in (omega (arith, k), (omega (arith, k, w), c.requires.making))

pub parts-returns-in-Unary-clause-grows : goal.parts-returns-in-Unary-clause-grows
parts-returns-in-Unary-clause-grows t c = c.one.ensures.grows

pub parts-returns-in-Unary-clause-adds : goal.parts-returns-in-Unary-clause-adds
parts-returns-in-Unary-clause-adds t c = c.one.ensures.adds c.args.form.now (one_of c.args.form.now c.in-Unary.e c.in-Unary.is)

pub parts-returns-in-Var-clause-grows : goal.parts-returns-in-Var-clause-grows
parts-returns-in-Var-clause-grows t c = grows_refl c.args.arena.now

pub parts-returns-in-Var-clause-adds : goal.parts-returns-in-Var-clause-adds
parts-returns-in-Var-clause-adds t c = leaf_adds c.args.self.now.nodes.now (context_in c.args.arena.now c.args.scope.now.bounds.items) c.args.form.now c.args.arena.now c.args.lines.now.items c.one_place.result (leaf_of c.args.form.now c.in-Var.is) c.requires.making.held

pub parts-two-requires : goal.parts-two-requires
parts-two-requires t c = let k = subst (IsKnown (length c.args.self.now.nodes.now.types) c.args.i) c.in-Binary.is c.requires.known in let w = c.requires.within in let p = k.0 in let q = k.1 in (omega (arith, p, q), (omega (arith, p, w), (omega (arith, q, w), c.requires.making)))

pub parts-returns-in-Binary-clause-grows : goal.parts-returns-in-Binary-clause-grows
parts-returns-in-Binary-clause-grows t c = c.two.ensures.grows

pub parts-returns-in-Binary-clause-adds : goal.parts-returns-in-Binary-clause-adds
parts-returns-in-Binary-clause-adds t c = subst (λ f. AddsParts c.args.self.now.nodes.now (context_in c.args.arena.now c.args.scope.now.bounds.items) f c.args.arena.now c.args.lines.now.items c.two.new.arena c.two.new.lines.items c.two.result) (sym c.in-Binary.is) (c.two.ensures.adds c.in-Binary.field-0)

pub parts-let_name-requires : goal.parts-let_name-requires
parts-let_name-requires t c = let k = subst (IsKnown (length c.args.self.now.nodes.now.types) c.args.i) c.in-Let.is c.requires.known in let w = c.requires.within in let p = k.0 in let q = k.1 in (omega (arith, p, q), (omega (arith, p, w), (omega (arith, q, w), c.requires.making)))

pub parts-returns-in-Let-clause-grows : goal.parts-returns-in-Let-clause-grows
parts-returns-in-Let-clause-grows t c = c.let_name.ensures.grows

pub parts-returns-in-Let-clause-adds : goal.parts-returns-in-Let-clause-adds
parts-returns-in-Let-clause-adds t c = subst (λ f. AddsParts c.args.self.now.nodes.now (context_in c.args.arena.now c.args.scope.now.bounds.items) f c.args.arena.now c.args.lines.now.items c.let_name.new.arena c.let_name.new.lines.items c.let_name.result) (sym c.in-Let.is) c.let_name.ensures.adds

pub parts-let_bang-requires : goal.parts-let_bang-requires
parts-let_bang-requires t c = let k = subst (IsKnown (length c.args.self.now.nodes.now.types) c.args.i) c.in-LetBang.is c.requires.known in let w = c.requires.within in let p = k.0 in let q = k.1 in (omega (arith, p, q), (omega (arith, p, w), (omega (arith, q, w), c.requires.making)))

pub parts-returns-in-LetBang-clause-grows : goal.parts-returns-in-LetBang-clause-grows
parts-returns-in-LetBang-clause-grows t c = c.let_bang.ensures.grows

pub parts-returns-in-LetBang-clause-adds : goal.parts-returns-in-LetBang-clause-adds
parts-returns-in-LetBang-clause-adds t c = subst (λ f. AddsParts c.args.self.now.nodes.now (context_in c.args.arena.now c.args.scope.now.bounds.items) f c.args.arena.now c.args.lines.now.items c.let_bang.new.arena c.let_bang.new.lines.items c.let_bang.result) (sym c.in-LetBang.is) c.let_bang.ensures.adds

pub parts-let_pair-requires : goal.parts-let_pair-requires
parts-let_pair-requires t c = let k = subst (IsKnown (length c.args.self.now.nodes.now.types) c.args.i) c.in-LetPair.is c.requires.known in let w = c.requires.within in let p = k.0 in let q = k.1 in (omega (arith, p, q), (omega (arith, p, w), (omega (arith, q, w), c.requires.making)))

pub parts-returns-in-LetPair-clause-grows : goal.parts-returns-in-LetPair-clause-grows
parts-returns-in-LetPair-clause-grows t c = c.let_pair.ensures.grows

pub parts-returns-in-LetPair-clause-adds : goal.parts-returns-in-LetPair-clause-adds
parts-returns-in-LetPair-clause-adds t c = subst (λ f. AddsParts c.args.self.now.nodes.now (context_in c.args.arena.now c.args.scope.now.bounds.items) f c.args.arena.now c.args.lines.now.items c.let_pair.new.arena c.let_pair.new.lines.items c.let_pair.result) (sym c.in-LetPair.is) c.let_pair.ensures.adds

pub parts-choice-requires : goal.parts-choice-requires
parts-choice-requires t c = let k = subst (IsKnown (length c.args.self.now.nodes.now.types) c.args.i) c.in-If.is c.requires.known in let w = c.requires.within in let p = k.0 in let q = k.1 in let r = k.2 in (omega (arith, p, q, r), (omega (arith, p, w), (omega (arith, q, w), (omega (arith, r, w), c.requires.making))))

pub parts-returns-in-If-clause-grows : goal.parts-returns-in-If-clause-grows
parts-returns-in-If-clause-grows t c = c.choice.ensures.grows

pub parts-returns-in-If-clause-adds : goal.parts-returns-in-If-clause-adds
parts-returns-in-If-clause-adds t c = subst (λ f. AddsParts c.args.self.now.nodes.now (context_in c.args.arena.now c.args.scope.now.bounds.items) f c.args.arena.now c.args.lines.now.items c.choice.new.arena c.choice.new.lines.items c.choice.result) (sym c.in-If.is) c.choice.ensures.adds

pub parts-cases-requires : goal.parts-cases-requires
parts-cases-requires t c = let k = subst (IsKnown (length c.args.self.now.nodes.now.types) c.args.i) c.in-Case.is c.requires.known in let w = c.requires.within in let p = k.0 in let q = k.1 in let r = k.2 in (omega (arith, p, q, r), (omega (arith, p, w), (omega (arith, q, w), (omega (arith, r, w), c.requires.making))))

pub parts-returns-in-Case-clause-grows : goal.parts-returns-in-Case-clause-grows
parts-returns-in-Case-clause-grows t c = c.cases.ensures.grows

pub parts-returns-in-Case-clause-adds : goal.parts-returns-in-Case-clause-adds
parts-returns-in-Case-clause-adds t c = subst (λ f. AddsParts c.args.self.now.nodes.now (context_in c.args.arena.now c.args.scope.now.bounds.items) f c.args.arena.now c.args.lines.now.items c.cases.new.arena c.cases.new.lines.items c.cases.result) (sym c.in-Case.is) c.cases.ensures.adds

pub parts-lambda-requires : goal.parts-lambda-requires
parts-lambda-requires t c = let k = subst (IsKnown (length c.args.self.now.nodes.now.types) c.args.i) c.in-Lambda.is c.requires.known in let w = c.requires.within in let q = k.1 in (omega (arith, q), (omega (arith, q, w), (k.0, c.requires.making)))

pub parts-returns-in-Lambda-clause-grows : goal.parts-returns-in-Lambda-clause-grows
parts-returns-in-Lambda-clause-grows t c = c.lambda.ensures.grows

pub parts-returns-in-Lambda-clause-adds : goal.parts-returns-in-Lambda-clause-adds
parts-returns-in-Lambda-clause-adds t c = subst (λ f. AddsParts c.args.self.now.nodes.now (context_in c.args.arena.now c.args.scope.now.bounds.items) f c.args.arena.now c.args.lines.now.items c.lambda.new.arena c.lambda.new.lines.items c.lambda.result) (sym c.in-Lambda.is) (c.lambda.ensures.adds c.in-Lambda.field-0 c.in-Lambda.field-2)

pub under-returns-in_err-inner-clause-grows : goal.under-returns-in_err-inner-clause-grows
under-returns-in_err-inner-clause-grows t c = grows_refl c.args.arena.now

pub under-returns-in_err-inner-clause-adds : goal.under-returns-in_err-inner-clause-adds
under-returns-in_err-inner-clause-adds t c = adds_no_memory (Under (name_of c.args.bound.name) (type_at c.args.arena.now c.args.bound.ty) (context_in c.args.arena.now c.args.scope.now.bounds.items)) (term_at c.args.self.now.nodes.now.terms c.args.i) c.args.arena.now c.args.lines.now.items c.args.arena.now c.args.lines.now.items c.from_residual.result c.from_residual.ensures.1

pub under-node-requires : goal.under-node-requires
under-node-requires t c = (omega arith, (c.requires.known, making_under c.args.self.now.nodes.now c.args.arena.now c.args.self.now.written.now c.args.scope.now.bounds.items c.in_ok-inner.inner.bounds.items c.args.bound c.args.lines.now.items c.in_ok-inner.ensures c.requires.bound c.requires.making))

pub under-returns-clause-grows : goal.under-returns-clause-grows
under-returns-clause-grows t c = c.node.ensures.grows

pub under-returns-clause-adds : goal.under-returns-clause-adds
under-returns-clause-adds t c = subst (λ g. Adds g (term_at c.args.self.now.nodes.now.terms c.args.i) c.args.arena.now c.args.lines.now.items c.node.new.arena c.node.new.lines.items c.node.result) (ap (context_in c.args.arena.now) c.in_ok-inner.ensures) c.node.ensures.adds

pub node-node-requires : goal.node-node-requires
node-node-requires t c = c.requires.known

pub node-invariant_of-push : goal.node-invariant_of-push
node-invariant_of-push t c = record { order = subst (λ (z : List Said). AreInOrder (says_of z)) (sym c.new-says.ensures.items) none_said }

pub node-returns-in-Err-clause-grows : goal.node-returns-in-Err-clause-grows
node-returns-in-Err-clause-grows t c = grows_refl c.args.arena.now

pub node-parts-requires : goal.node-parts-requires
node-parts-requires t c = (omega arith, (c.requires.known, (c.node.ensures.known, (making_pushed c.args.self.now.nodes.now c.args.arena.now c.args.self.now.written.now c.args.scope.now.bounds.items c.args.lines.now.items _ c.push.new.self.items c.in_default.ensures.items refl c.requires.making))))

pub node-returns-in_err-places-clause-grows : goal.node-returns-in_err-places-clause-grows
node-returns-in_err-places-clause-grows t c = c.in_err-places.ensures.grows

pub node-returns-in_err-places-clause-adds : goal.node-returns-in_err-places-clause-adds
node-returns-in_err-places-clause-adds t c = adds_fault (context_in c.args.arena.now c.args.scope.now.bounds.items) (term_at c.args.self.now.nodes.now.terms c.args.i) c.args.arena.now c.args.lines.now.items c.parts.new.arena c.parts.new.lines.items c.from_residual.result c.in_err-places.field-0.0 c.from_residual.ensures.1
    (λ e. ap (least (context_in c.args.arena.now c.args.scope.now.bounds.items)) c.node.ensures.form ∙ parts_failed c.args.self.now.nodes.now (context_in c.args.arena.now c.args.scope.now.bounds.items) c.node.result.now.form c.args.arena.now c.push.new.self.items c.parts.new.arena c.parts.new.lines.items c.in_err-places.field-0.0 c.in_err-places.ensures.adds e c.node.result.now.span)

pub node-own-requires-clause-making : goal.node-own-requires-clause-making
node-own-requires-clause-making t c = subst (IsMaking c.args.self.now.nodes.now c.parts.new.arena c.args.self.now.written.now c.args.scope.now.bounds.items) (sym c.deref.ensures.value) (making_grows c.args.self.now.nodes.now c.args.arena.now c.parts.new.arena c.args.self.now.written.now c.args.scope.now.bounds.items c.push.new.self.items c.parts.new.lines.items c.in_ok-places.ensures.grows c.in_ok-places.ensures.adds.1.held (making_pushed c.args.self.now.nodes.now c.args.arena.now c.args.self.now.written.now c.args.scope.now.bounds.items c.args.lines.now.items _ c.push.new.self.items c.in_default.ensures.items refl c.requires.making))

pub node-own-requires-clause-known : goal.node-own-requires-clause-known
node-own-requires-clause-known t c = is_known_more (length c.args.self.now.nodes.now.types) (length c.args.self.now.nodes.now.types) c.args.i (length c.args.self.now.nodes.now.terms) c.node.result.now.form (omega arith) (let k = c.requires.known in omega (arith, k)) c.node.ensures.known

pub node-own-requires-clause-limits : goal.node-own-requires-clause-limits
node-own-requires-clause-limits t c = form_limits (type_at c.args.self.now.nodes.now.types) (term_at c.args.self.now.nodes.now.terms) c.node.result.now.span c.node.result.now.form (subst TermLimits c.node.ensures.form c.node.ensures.limits)

pub node-own-requires-clause-placed : goal.node-own-requires-clause-placed
node-own-requires-clause-placed t c = subst (λ (z : List KeptLine). ArePlaced (length z) c.node.result.now.form c.in_ok-places.places) (sym c.deref.ensures.value) c.in_ok-places.ensures.adds.2

pub node-returns-in_err-own-clause-grows : goal.node-returns-in_err-own-clause-grows
node-returns-in_err-own-clause-grows t c = (grows_trans c.args.arena.now c.parts.new.arena c.own.new.arena c.in_ok-places.ensures.grows c.in_err-own.ensures.grows)

pub node-returns-clause-grows : goal.node-returns-clause-grows
node-returns-clause-grows t c = (grows_trans c.args.arena.now c.parts.new.arena c.own.new.arena c.in_ok-places.ensures.grows c.in_ok-own.ensures.grows)

pub node-returns-in_err-own-clause-adds : goal.node-returns-in_err-own-clause-adds
node-returns-in_err-own-clause-adds t c = let a = c.in_ok-places.ensures.adds in adds_fault (context_in c.args.arena.now c.args.scope.now.bounds.items) (term_at c.args.self.now.nodes.now.terms c.args.i) c.args.arena.now c.args.lines.now.items c.own.new.arena c.parts.new.lines.items c.from_residual-in_err-own.result c.in_err-own.field-0.0 c.from_residual-in_err-own.ensures.1
    (λ e. ap (least (context_in c.args.arena.now c.args.scope.now.bounds.items)) c.node.ensures.form ∙ a.3 c.node.result.now.span ∙ own_failed (context_in c.args.arena.now c.args.scope.now.bounds.items) (row_at c.args.self.now.nodes.now (context_in c.args.arena.now c.args.scope.now.bounds.items) c.node.result.now.form c.parts.new.arena c.parts.new.lines.items c.in_ok-places.places) c.own.new.arena c.in_err-own.field-0.0 (own_same c.args.self.now.nodes.now (context_in c.parts.new.arena c.args.scope.now.bounds.items) (context_in c.args.arena.now c.args.scope.now.bounds.items) c.node.result.now.form c.in_ok-places.places c.parts.new.arena c.own.new.arena c.deref.result.now c.parts.new.lines.items (Err c.in_err-own.field-0.0) (context_grows c.args.arena.now c.parts.new.arena c.args.scope.now.bounds.items c.in_ok-places.ensures.grows c.requires.making.scope) c.deref.ensures.value c.in_err-own.ensures.is) e a.0)

pub node-index_mut-requires : goal.node-index_mut-requires
node-index_mut-requires t c = let l = pushed_length c.args.arena.now c.parts.new.arena c.args.lines.now.items _ c.push.new.self.items c.parts.new.lines.items c.in_ok-places.ensures.adds.0 c.in_default.ensures.items c.in_ok-places.ensures.adds.1 in let e = c.len-at.ensures in let f = c.args.lines.now.ok in let g = c.parts.new.lines.ok in omega (arith, l, e, f, g)

pub node-returns-clause-adds : goal.node-returns-clause-adds
node-returns-clause-adds t c = let a = c.in_ok-places.ensures.adds in let h = (own_same c.args.self.now.nodes.now (context_in c.parts.new.arena c.args.scope.now.bounds.items) (context_in c.args.arena.now c.args.scope.now.bounds.items) c.node.result.now.form c.in_ok-places.places c.parts.new.arena c.own.new.arena c.deref.result.now c.parts.new.lines.items (Ok c.in_ok-own.own) (context_grows c.args.arena.now c.parts.new.arena c.args.scope.now.bounds.items c.in_ok-places.ensures.grows c.requires.making.scope) c.deref.ensures.value c.in_ok-own.ensures.is) in (
  record { own = line_in c.own.new.arena c.in_ok-own.own; below = a.0 },
  ap (least (context_in c.args.arena.now c.args.scope.now.bounds.items)) c.node.ensures.form ∙ a.3 c.node.result.now.span ∙ own_least (context_in c.args.arena.now c.args.scope.now.bounds.items) (row_at c.args.self.now.nodes.now (context_in c.args.arena.now c.args.scope.now.bounds.items) c.node.result.now.form c.parts.new.arena c.parts.new.lines.items c.in_ok-places.places) c.own.new.arena c.in_ok-own.own a.0 h,
  own_adds c.args.arena.now c.parts.new.arena c.own.new.arena c.args.lines.now.items _ c.push.new.self.items c.parts.new.lines.items c.in_ok-own.own a.0 c.len-at.result c.in_default.ensures.items a.1 c.in_ok-own.ensures.grows h.2 (let e = c.len-at.ensures in let f = c.args.lines.now.ok in omega (arith, e, f)),
)
