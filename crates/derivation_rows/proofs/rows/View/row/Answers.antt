use Rattle.fz_frac.specs.Sens.{distance_of}
use Rattle.fz_ast.specs.Names.{name_of}
use Rattle.fz_ast.specs.TypeNodes.{type_at}
use Rattle.derivation_rows.specs.Groups.{unary_row, binary_row, ranged_row, inject_row, lambda_row}
use Rattle.derivation_rows.specs.Rows.{times_row, bang_row, let_row, let_bang_row, let_pair_row, if_row, case_row}
use Rattle.derivation_rows.specs.Ruled.{part_line}
use Rattle.derivation_rows.specs.Viewed.{lines_seen}
use Rattle.derivation_rows.proofs.Factors.{held, held_number}
use Rattle.derivation_rows.proofs.ByForm.{as_form, by_one, by_two, by_three, by_type, known_as, limits_as, placed}
use Rattle.derivation_rows.proofs.rows.View.row.Goals as goal

pub at-requires-clause-view : goal.at-requires-clause-view
at-requires-clause-view c = c.requires.view

pub at-requires-clause-known : goal.at-requires-clause-known
at-requires-clause-known c = (placed c.args.self.now.lines.now c.args.places c.in-Unary.is c.requires.placed)

pub at-requires-in-Times-clause-view : goal.at-requires-in-Times-clause-view
at-requires-in-Times-clause-view c = c.requires.view

pub at-requires-in-Times-clause-known : goal.at-requires-in-Times-clause-known
at-requires-in-Times-clause-known c = (placed c.args.self.now.lines.now c.args.places c.in-Times.is c.requires.placed)

pub at-requires-in-Ranged-clause-view : goal.at-requires-in-Ranged-clause-view
at-requires-in-Ranged-clause-view c = c.requires.view

pub at-requires-in-Ranged-clause-known : goal.at-requires-in-Ranged-clause-known
at-requires-in-Ranged-clause-known c = (placed c.args.self.now.lines.now c.args.places c.in-Ranged.is c.requires.placed)

pub at-requires-in-Inject-clause-view : goal.at-requires-in-Inject-clause-view
at-requires-in-Inject-clause-view c = c.requires.view

pub at-requires-in-Inject-clause-known : goal.at-requires-in-Inject-clause-known
at-requires-in-Inject-clause-known c = (placed c.args.self.now.lines.now c.args.places c.in-Inject.is c.requires.placed)

pub at-requires-in-Bang-clause-view : goal.at-requires-in-Bang-clause-view
at-requires-in-Bang-clause-view c = c.requires.view

pub at-requires-in-Bang-clause-known : goal.at-requires-in-Bang-clause-known
at-requires-in-Bang-clause-known c = (placed c.args.self.now.lines.now c.args.places c.in-Bang.is c.requires.placed)

pub at-requires-in-Lambda-clause-view : goal.at-requires-in-Lambda-clause-view
at-requires-in-Lambda-clause-view c = c.requires.view

pub at-requires-in-Lambda-clause-known : goal.at-requires-in-Lambda-clause-known
at-requires-in-Lambda-clause-known c = (placed c.args.self.now.lines.now c.args.places c.in-Lambda.is c.requires.placed)

pub at-requires-in-Binary-clause-view : goal.at-requires-in-Binary-clause-view
at-requires-in-Binary-clause-view c = c.requires.view

pub at-requires-in-Binary-clause-known : goal.at-requires-in-Binary-clause-known
at-requires-in-Binary-clause-known c = (placed c.args.self.now.lines.now c.args.places c.in-Binary.is c.requires.placed).0

pub at-requires-in-Binary-2-clause-view : goal.at-requires-in-Binary-2-clause-view
at-requires-in-Binary-2-clause-view c = c.requires.view

pub at-requires-in-Binary-2-clause-known : goal.at-requires-in-Binary-2-clause-known
at-requires-in-Binary-2-clause-known c = (placed c.args.self.now.lines.now c.args.places c.in-Binary.is c.requires.placed).1

pub at-requires-in-Let-clause-view : goal.at-requires-in-Let-clause-view
at-requires-in-Let-clause-view c = c.requires.view

pub at-requires-in-Let-clause-known : goal.at-requires-in-Let-clause-known
at-requires-in-Let-clause-known c = (placed c.args.self.now.lines.now c.args.places c.in-Let.is c.requires.placed).0

pub at-requires-in-Let-2-clause-view : goal.at-requires-in-Let-2-clause-view
at-requires-in-Let-2-clause-view c = c.requires.view

pub at-requires-in-Let-2-clause-known : goal.at-requires-in-Let-2-clause-known
at-requires-in-Let-2-clause-known c = (placed c.args.self.now.lines.now c.args.places c.in-Let.is c.requires.placed).1

pub at-requires-in-LetBang-clause-view : goal.at-requires-in-LetBang-clause-view
at-requires-in-LetBang-clause-view c = c.requires.view

pub at-requires-in-LetBang-clause-known : goal.at-requires-in-LetBang-clause-known
at-requires-in-LetBang-clause-known c = (placed c.args.self.now.lines.now c.args.places c.in-LetBang.is c.requires.placed).0

pub at-requires-in-LetBang-2-clause-view : goal.at-requires-in-LetBang-2-clause-view
at-requires-in-LetBang-2-clause-view c = c.requires.view

pub at-requires-in-LetBang-2-clause-known : goal.at-requires-in-LetBang-2-clause-known
at-requires-in-LetBang-2-clause-known c = (placed c.args.self.now.lines.now c.args.places c.in-LetBang.is c.requires.placed).1

pub at-requires-in-LetPair-clause-view : goal.at-requires-in-LetPair-clause-view
at-requires-in-LetPair-clause-view c = c.requires.view

pub at-requires-in-LetPair-clause-known : goal.at-requires-in-LetPair-clause-known
at-requires-in-LetPair-clause-known c = (placed c.args.self.now.lines.now c.args.places c.in-LetPair.is c.requires.placed).0

pub at-requires-in-LetPair-2-clause-view : goal.at-requires-in-LetPair-2-clause-view
at-requires-in-LetPair-2-clause-view c = c.requires.view

pub at-requires-in-LetPair-2-clause-known : goal.at-requires-in-LetPair-2-clause-known
at-requires-in-LetPair-2-clause-known c = (placed c.args.self.now.lines.now c.args.places c.in-LetPair.is c.requires.placed).1

pub at-requires-in-If-clause-view : goal.at-requires-in-If-clause-view
at-requires-in-If-clause-view c = c.requires.view

pub at-requires-in-If-clause-known : goal.at-requires-in-If-clause-known
at-requires-in-If-clause-known c = (placed c.args.self.now.lines.now c.args.places c.in-If.is c.requires.placed).0

pub at-requires-in-If-2-clause-view : goal.at-requires-in-If-2-clause-view
at-requires-in-If-2-clause-view c = c.requires.view

pub at-requires-in-If-2-clause-known : goal.at-requires-in-If-2-clause-known
at-requires-in-If-2-clause-known c = (placed c.args.self.now.lines.now c.args.places c.in-If.is c.requires.placed).1

pub at-requires-in-If-3-clause-view : goal.at-requires-in-If-3-clause-view
at-requires-in-If-3-clause-view c = c.requires.view

pub at-requires-in-If-3-clause-known : goal.at-requires-in-If-3-clause-known
at-requires-in-If-3-clause-known c = (placed c.args.self.now.lines.now c.args.places c.in-If.is c.requires.placed).2

pub at-requires-in-Case-clause-view : goal.at-requires-in-Case-clause-view
at-requires-in-Case-clause-view c = c.requires.view

pub at-requires-in-Case-clause-known : goal.at-requires-in-Case-clause-known
at-requires-in-Case-clause-known c = (placed c.args.self.now.lines.now c.args.places c.in-Case.is c.requires.placed).0

pub at-a-requires-clause-view : goal.at-a-requires-clause-view
at-a-requires-clause-view c = c.requires.view

pub at-a-requires-clause-known : goal.at-a-requires-clause-known
at-a-requires-clause-known c = (placed c.args.self.now.lines.now c.args.places c.in-Case.is c.requires.placed).1

pub at-b-requires-clause-view : goal.at-b-requires-clause-view
at-b-requires-clause-view c = c.requires.view

pub at-b-requires-clause-known : goal.at-b-requires-clause-known
at-b-requires-clause-known c = (placed c.args.self.now.lines.now c.args.places c.in-Case.is c.requires.placed).2

pub unary-requires : goal.unary-requires
unary-requires c = c.at.ensures.known

pub binary-requires-clause-a_known : goal.binary-requires-clause-a_known
binary-requires-clause-a_known c = c.at-in-Binary.ensures.known

pub binary-requires-clause-b_known : goal.binary-requires-clause-b_known
binary-requires-clause-b_known c = c.at-in-Binary-2.ensures.known

pub times-requires-clause-known : goal.times-requires-clause-known
times-requires-clause-known c = c.at-in-Times.ensures.known

pub times-requires-clause-number : goal.times-requires-clause-number
times-requires-clause-number c = held_number c.in-Times.k (limits_as c.in-Times.is c.requires.limits)

pub ranged-requires-clause-known : goal.ranged-requires-clause-known
ranged-requires-clause-known c = c.at-in-Ranged.ensures.known

pub ranged-requires-clause-lo_number : goal.ranged-requires-clause-lo_number
ranged-requires-clause-lo_number c = held_number c.in-Ranged.lo (limits_as c.in-Ranged.is c.requires.limits).0

pub ranged-requires-clause-hi_number : goal.ranged-requires-clause-hi_number
ranged-requires-clause-hi_number c = held_number c.in-Ranged.hi (limits_as c.in-Ranged.is c.requires.limits).1

pub written_type-requires-clause-view : goal.written_type-requires-clause-view
written_type-requires-clause-view c = c.requires.view

pub written_type-requires-clause-known : goal.written_type-requires-clause-known
written_type-requires-clause-known c = (known_as c.args.self.now.nodes.now c.in-Inject.is c.requires.known).0

pub inject-requires-clause-known : goal.inject-requires-clause-known
inject-requires-clause-known c = c.at-in-Inject.ensures.known

pub inject-requires-clause-written : goal.inject-requires-clause-written
inject-requires-clause-written c = c.written_type.ensures.known

pub bang-requires-clause-known : goal.bang-requires-clause-known
bang-requires-clause-known c = c.at-in-Bang.ensures.known

pub bang-requires-clause-bang : goal.bang-requires-clause-bang
bang-requires-clause-bang c = (limits_as c.in-Bang.is c.requires.limits)

pub let_name-requires : goal.let_name-requires
let_name-requires c = record { b_known = c.at-in-Let-2.ensures.known }

pub let_bang-requires-clause-e_known : goal.let_bang-requires-clause-e_known
let_bang-requires-clause-e_known c = c.at-in-LetBang.ensures.known

pub let_bang-requires-clause-b_known : goal.let_bang-requires-clause-b_known
let_bang-requires-clause-b_known c = c.at-in-LetBang-2.ensures.known

pub let_pair-requires-clause-e_known : goal.let_pair-requires-clause-e_known
let_pair-requires-clause-e_known c = c.at-in-LetPair.ensures.known

pub let_pair-requires-clause-b_known : goal.let_pair-requires-clause-b_known
let_pair-requires-clause-b_known c = c.at-in-LetPair-2.ensures.known

pub choice-requires-clause-e_known : goal.choice-requires-clause-e_known
choice-requires-clause-e_known c = c.at-in-If.ensures.known

pub choice-requires-clause-a_known : goal.choice-requires-clause-a_known
choice-requires-clause-a_known c = c.at-in-If-2.ensures.known

pub choice-requires-clause-b_known : goal.choice-requires-clause-b_known
choice-requires-clause-b_known c = c.at-in-If-3.ensures.known

pub cases-requires-clause-e_known : goal.cases-requires-clause-e_known
cases-requires-clause-e_known c = c.at-in-Case.ensures.known

pub cases-requires-clause-a_known : goal.cases-requires-clause-a_known
cases-requires-clause-a_known c = c.at-a.ensures.known

pub cases-requires-clause-b_known : goal.cases-requires-clause-b_known
cases-requires-clause-b_known c = c.at-b.ensures.known

pub written_type-w-requires-clause-view : goal.written_type-w-requires-clause-view
written_type-w-requires-clause-view c = c.requires.view

pub written_type-w-requires-clause-known : goal.written_type-w-requires-clause-known
written_type-w-requires-clause-known c = (known_as c.args.self.now.nodes.now c.in-Lambda.is c.requires.known).0

pub lambda-requires-clause-known : goal.lambda-requires-clause-known
lambda-requires-clause-known c = c.at-in-Lambda.ensures.known

pub lambda-requires-clause-written : goal.lambda-requires-clause-written
lambda-requires-clause-written c = c.written_type-w.ensures.known

pub returns-in-Unary : goal.returns-in-Unary
returns-in-Unary c =
    as_form c.args.self.now c.args.scope.now c.args.places c.unary.result c.in-Unary.is
    (by_one c.args.self.now.arena.now (lines_seen c.args.self.now) (unary_row c.in-Unary.form) c.unary.result c.at.ensures.is (c.unary.ensures (lines_seen c.args.self.now)))

pub returns-in-Times : goal.returns-in-Times
returns-in-Times c =
    as_form c.args.self.now c.args.scope.now c.args.places c.times.result c.in-Times.is
    (by_one c.args.self.now.arena.now (lines_seen c.args.self.now) (times_row c.in-Times.k) c.times.result c.at-in-Times.ensures.is (rw (held c.in-Times.k (limits_as c.in-Times.is c.requires.limits)) at (c.times.ensures (lines_seen c.args.self.now))))

pub returns-in-Ranged : goal.returns-in-Ranged
returns-in-Ranged c =
    as_form c.args.self.now c.args.scope.now c.args.places c.ranged.result c.in-Ranged.is
    (by_one c.args.self.now.arena.now (lines_seen c.args.self.now) (ranged_row c.in-Ranged.form c.in-Ranged.lo c.in-Ranged.hi) c.ranged.result c.at-in-Ranged.ensures.is
    (rw (held c.in-Ranged.lo (limits_as c.in-Ranged.is c.requires.limits).0, held c.in-Ranged.hi (limits_as c.in-Ranged.is c.requires.limits).1) at (c.ranged.ensures (lines_seen c.args.self.now))))

pub returns-in-Bang : goal.returns-in-Bang
returns-in-Bang c =
    as_form c.args.self.now c.args.scope.now c.args.places c.bang.result c.in-Bang.is
    (by_one c.args.self.now.arena.now (lines_seen c.args.self.now) (bang_row (distance_of c.in-Bang.r)) c.bang.result c.at-in-Bang.ensures.is (c.bang.ensures (lines_seen c.args.self.now)))

pub returns-in-Inject : goal.returns-in-Inject
returns-in-Inject c =
    as_form c.args.self.now c.args.scope.now c.args.places c.inject.result c.in-Inject.is
    (by_one c.args.self.now.arena.now (lines_seen c.args.self.now) (inject_row c.in-Inject.side (type_at c.args.self.now.nodes.now.types c.in-Inject.t)) c.inject.result c.at-in-Inject.ensures.is
    (by_type c.args.self.now.arena.now (lines_seen c.args.self.now) (λ A. inject_row c.in-Inject.side A (part_line c.args.self.now.arena.now (lines_seen c.args.self.now) c.at-in-Inject.result)) c.inject.result c.written_type.ensures.is (c.inject.ensures (lines_seen c.args.self.now))))

pub returns-in-Lambda : goal.returns-in-Lambda
returns-in-Lambda c =
    as_form c.args.self.now c.args.scope.now c.args.places c.lambda.result c.in-Lambda.is
    (by_one c.args.self.now.arena.now (lines_seen c.args.self.now) (lambda_row c.in-Lambda.form (name_of c.in-Lambda.x) (type_at c.args.self.now.nodes.now.types c.in-Lambda.t)) c.lambda.result c.at-in-Lambda.ensures.is
    (by_type c.args.self.now.arena.now (lines_seen c.args.self.now) (λ A. lambda_row c.in-Lambda.form (name_of c.in-Lambda.x) A (part_line c.args.self.now.arena.now (lines_seen c.args.self.now) c.at-in-Lambda.result)) c.lambda.result c.written_type-w.ensures.is (c.lambda.ensures c.args.self.now.arena.now)))

pub returns-in-Binary : goal.returns-in-Binary
returns-in-Binary c =
    as_form c.args.self.now c.args.scope.now c.args.places c.binary.result c.in-Binary.is
    (by_two c.args.self.now.arena.now (lines_seen c.args.self.now) (binary_row c.in-Binary.form) c.binary.result c.at-in-Binary.ensures.is c.at-in-Binary-2.ensures.is (c.binary.ensures (lines_seen c.args.self.now)))

pub returns-in-Let : goal.returns-in-Let
returns-in-Let c =
    as_form c.args.self.now c.args.scope.now c.args.places c.let_name.result c.in-Let.is
    (by_two c.args.self.now.arena.now (lines_seen c.args.self.now) (let_row (name_of c.in-Let.x)) c.let_name.result c.at-in-Let.ensures.is c.at-in-Let-2.ensures.is (c.let_name.ensures c.args.self.now.arena.now))

pub returns-in-LetBang : goal.returns-in-LetBang
returns-in-LetBang c =
    as_form c.args.self.now c.args.scope.now c.args.places c.let_bang.result c.in-LetBang.is
    (by_two c.args.self.now.arena.now (lines_seen c.args.self.now) (let_bang_row (name_of c.in-LetBang.x)) c.let_bang.result c.at-in-LetBang.ensures.is c.at-in-LetBang-2.ensures.is (c.let_bang.ensures c.args.self.now.arena.now))

pub returns-in-LetPair : goal.returns-in-LetPair
returns-in-LetPair c =
    as_form c.args.self.now c.args.scope.now c.args.places c.let_pair.result c.in-LetPair.is
    (by_two c.args.self.now.arena.now (lines_seen c.args.self.now) (let_pair_row (name_of c.in-LetPair.x) (name_of c.in-LetPair.y)) c.let_pair.result c.at-in-LetPair.ensures.is c.at-in-LetPair-2.ensures.is (c.let_pair.ensures c.args.self.now.arena.now))

pub returns-in-If : goal.returns-in-If
returns-in-If c =
    as_form c.args.self.now c.args.scope.now c.args.places c.choice.result c.in-If.is
    (by_three c.args.self.now.arena.now (lines_seen c.args.self.now) if_row c.choice.result c.at-in-If.ensures.is c.at-in-If-2.ensures.is c.at-in-If-3.ensures.is (c.choice.ensures (lines_seen c.args.self.now)))

pub returns-in-Case : goal.returns-in-Case
returns-in-Case c =
    as_form c.args.self.now c.args.scope.now c.args.places c.cases.result c.in-Case.is
    (by_three c.args.self.now.arena.now (lines_seen c.args.self.now) (case_row (name_of c.in-Case.x) (name_of c.in-Case.y)) c.cases.result c.at-in-Case.ensures.is c.at-a.ensures.is c.at-b.ensures.is (c.cases.ensures c.args.self.now.arena.now))

pub returns-in-Var : goal.returns-in-Var
returns-in-Var c =
    as_form c.args.self.now c.args.scope.now c.args.places c.look.result c.in-Var.is
    (c.look.ensures c.args.self.now.arena.now (lines_seen c.args.self.now) c.requires.scope)
