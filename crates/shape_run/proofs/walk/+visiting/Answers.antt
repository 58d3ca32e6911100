use Rattle.std.proofs.Common.{rules, length}
use Rattle.fz_ast.specs.Names.{name_of}
use Rattle.fz_ast.specs.TermNodes.{term_at}
use Rattle.fz_ast.specs.TypeNodes.{type_at}
use Rattle.shape_law.specs.Walk.{enters, over, walk, walk_rules}
use Rattle.shape_run.specs.Rules.{beside, branches}
use Rattle.shape_run.specs.Tells.{StopsAt, Tells, tally_of}
use Rattle.std.proofs.Common.{ap, refl, sym, ◌∙◌}
use Rattle.std.proofs.lemmas.Result.{err_from_is_err_and}
use Rattle.shape_law.specs.Shapes.{Also, Wide, first_half, in_bang, second_half}
use Rattle.shape_run.specs.declared.store.Cell.TheVariants.{Fn, Fun}
use Rattle.shape_run.proofs.CellFacts.{grown_on, in_cells, read, scope_kept, shape_kept}
use Rattle.shape_run.proofs.Steps.{a_turn, branches_then, case_then, if_then, known_case, known_if, known_let_pair, leaf_known, leaf_then, IsLeft, let_pair_then, node_case, node_if, node_let_pair, second_branch_stops, known_let_bang, let_bang_then, node_let_bang, binary_then, over_stops, over_then, part_known, part_stops, part_then, known_binary, known_let, let_then, no_function, node_binary, node_let, node_span, past_limit, second_stops, to}
use Rattle.shape_run.proofs.walk.+visiting.Goals as goal

pub combine-give_pair-requires : goal.combine-give_pair-requires
combine-give_pair-requires t c = search rules

pub combine-enter-requires : goal.combine-enter-requires
combine-enter-requires t c = search rules

pub combine-give_union-requires : goal.combine-give_union-requires
combine-give_union-requires t c = search rules

pub combine-returns-in-Pair-clause-is : goal.combine-returns-in-Pair-clause-is
combine-returns-in-Pair-clause-is t c = search rules

pub combine-returns-in-Pair-clause-grown : goal.combine-returns-in-Pair-clause-grown
combine-returns-in-Pair-clause-grown t c = search rules

pub combine-returns-in-App-clause-is : goal.combine-returns-in-App-clause-is
combine-returns-in-App-clause-is t c = search rules

pub combine-returns-in-App-clause-grown : goal.combine-returns-in-App-clause-grown
combine-returns-in-App-clause-grown t c = search rules

pub combine-returns-in-Plus-clause-is : goal.combine-returns-in-Plus-clause-is
combine-returns-in-Plus-clause-is t c = search rules

pub combine-returns-in-Plus-clause-grown : goal.combine-returns-in-Plus-clause-grown
combine-returns-in-Plus-clause-grown t c = search rules

pub combine-returns-in-Union-clause-is : goal.combine-returns-in-Union-clause-is
combine-returns-in-Union-clause-is t c = search rules

pub combine-returns-in-Union-clause-grown : goal.combine-returns-in-Union-clause-grown
combine-returns-in-Union-clause-grown t c = search rules

pub enter-cell-requires : goal.enter-cell-requires
enter-cell-requires t c = in_cells c.args.nodes.now.terms c.args.store.now.cells.items c.args.c c.requires.function.0 c.requires.function.1

pub enter-visit_under-requires : goal.enter-visit_under-requires
enter-visit_under-requires t c =
    let r = read c.args.nodes.now.terms c.args.store.now.cells.items c.args.c c.requires.function.0 (Fun c.in-Fun.name c.in-Fun.body c.in-Fun.scope) c.in-Fun.ensures c.requires.function.1 in
    (search rules, (r.2, ((r.0, r.1), (c.requires.argument, c.requires.room))))

pub enter-in_bang-requires : goal.enter-in_bang-requires
enter-in_bang-requires t c = search rules

pub enter-returns-in_default-in_bang-clause-grown :
    goal.enter-returns-in_default-in_bang-clause-grown
enter-returns-in_default-in_bang-clause-grown t c = search rules

pub enter-visit_under-requires-in-Fn : goal.enter-visit_under-requires-in-Fn
enter-visit_under-requires-in-Fn t c =
    let r = read c.args.nodes.now.terms c.args.store.now.cells.items c.args.c c.requires.function.0 (Fn c.in-Fn.name c.in-Fn.body c.in-Fn.scope) c.in-Fn.ensures c.requires.function.1 in
    let a = c.requires.argument in
    (search rules, (r.2, ((r.0, scope_kept c.args.nodes.now.terms c.args.store.now.cells.items c.in_bang.new.self.cells.items c.in-Fn.scope r.0 c.in_bang.ensures.grown r.1), ((in_bang a.0, c.in-Ok.ensures.is c.args.nodes.now.terms (in_bang a.0) (a.0, a.1, refl)), c.requires.room))))

pub enter-returns-in-Fun-clause-is : goal.enter-returns-in-Fun-clause-is
enter-returns-in-Fun-clause-is t c = λ p q h k.
    let r = read c.args.nodes.now.terms c.args.store.now.cells.items c.args.c p (Fun c.in-Fun.name c.in-Fun.body c.in-Fun.scope) c.in-Fun.ensures h in
    to (Tells c.args.nodes.now.terms c.visit_under.new.store.cells.items c.visit_under.new.count c.visit_under.result) _ _ (ap (λ p. enters (walk c.args.left c.args.here) p q (tally_of c.args.count.now)) r.3) (c.visit_under.ensures.is r.0 q r.1 k)

pub enter-returns-in-Fun-clause-grown : goal.enter-returns-in-Fun-clause-grown
enter-returns-in-Fun-clause-grown t c = search rules

pub enter-returns-in-Ok-clause-is : goal.enter-returns-in-Ok-clause-is
enter-returns-in-Ok-clause-is t c = λ p q h k.
    let r = read c.args.nodes.now.terms c.args.store.now.cells.items c.args.c p (Fn c.in-Fn.name c.in-Fn.body c.in-Fn.scope) c.in-Fn.ensures h in
    to (Tells c.args.nodes.now.terms c.visit_under-in-Fn.new.store.cells.items c.visit_under-in-Fn.new.count c.visit_under-in-Fn.result) _ _ (ap (λ p. enters (walk c.args.left c.args.here) p q (tally_of c.args.count.now)) r.3)
    (c.visit_under-in-Fn.ensures.is r.0 (in_bang q) (scope_kept c.args.nodes.now.terms c.args.store.now.cells.items c.in_bang.new.self.cells.items c.in-Fn.scope r.0 c.in_bang.ensures.grown r.1) (c.in-Ok.ensures.is c.args.nodes.now.terms (in_bang q) (q, k, refl)))

pub enter-returns-in-Ok-clause-grown : goal.enter-returns-in-Ok-clause-grown
enter-returns-in-Ok-clause-grown t c = grown_on c.args.store.now.cells.items c.in_bang.new.self.cells.items c.visit_under-in-Fn.new.store.cells.items c.in_bang.ensures.grown c.visit_under-in-Fn.ensures.grown

pub enter-returns-in_default : goal.enter-returns-in_default
enter-returns-in_default t c = record {
  is = λ p q h k. to (Tells c.args.nodes.now.terms c.give_ground.new.store.cells.items c.give_ground.new.count c.give_ground.result) _ _
      (no_function c.args.nodes.now.terms c.args.store.now.cells.items c.cell.result (walk c.args.left c.args.here) p q (tally_of c.args.count.now) c.in_default.not-Fun c.in_default.not-Fn (read c.args.nodes.now.terms c.args.store.now.cells.items c.args.c p c.cell.result c.cell.ensures h)) (c.give_ground.ensures.is c.args.nodes.now.terms);
  grown = c.give_ground.ensures.grown;
}

pub visit-node-requires : goal.visit-node-requires
visit-node-requires t c = search rules

pub visit-returns-then-left-eq0-clause-is : goal.visit-returns-then-left-eq0-clause-is
visit-returns-then-left-eq0-clause-is t c = search rules

pub visit-returns-then-left-eq0-clause-grown : goal.visit-returns-then-left-eq0-clause-grown
visit-returns-then-left-eq0-clause-grown t c = search rules

pub visit-returns-then-count-ge20000-clause-is : goal.visit-returns-then-count-ge20000-clause-is
visit-returns-then-count-ge20000-clause-is t c = λ σ h. past_limit c.args.left c.args.here σ (term_at c.args.nodes.now.terms c.args.i) c.node.result.now.span (tally_of c.args.count.now) c.if-left-eq0.false c.if-count-ge20000.true (node_span (type_at c.args.nodes.now.types) c.args.nodes.now.terms (term_at c.args.nodes.now.terms c.args.i) c.node.result.now.span c.node.result.now.form c.node.ensures.form)

pub visit-returns-then-count-ge20000-clause-grown :
    goal.visit-returns-then-count-ge20000-clause-grown
visit-returns-then-count-ge20000-clause-grown t c = search rules

pub visit-take_turn-requires : goal.visit-take_turn-requires
visit-take_turn-requires t c = search rules

pub visit-overflow_sub-left : goal.visit-overflow_sub-left
visit-overflow_sub-left t c = search rules

pub visit-overflow_add-here : goal.visit-overflow_add-here
visit-overflow_add-here t c = search rules

pub visit-visit_parts-requires : goal.visit-visit_parts-requires
visit-visit_parts-requires t c = search rules

pub visit-returns-clause-is : goal.visit-returns-clause-is
visit-returns-clause-is t c = λ σ h. to (Tells c.args.nodes.now.terms c.visit_parts.new.store.cells.items c.visit_parts.new.count c.visit_parts.result) _ _
    (a_turn c.args.left c.args.here σ (term_at c.args.nodes.now.terms c.args.i) (tally_of c.args.count.now) (tally_of c.take_turn.new.count) c.if-left-eq0.false c.if-count-ge20000.false c.take_turn.ensures) (c.visit_parts.ensures.is σ h)

pub visit-returns-clause-grown : goal.visit-returns-clause-grown
visit-returns-clause-grown t c = search rules

pub visit_parts-node-node-requires : goal.visit_parts-node-node-requires
visit_parts-node-node-requires t c = search rules

pub visit_parts-returns-in_err-first-in-Binary-clause-is :
    goal.visit_parts-returns-in_err-first-in-Binary-clause-is
visit_parts-returns-in_err-first-in-Binary-clause-is t c = search rules

pub visit_parts-returns-in_err-first-in-Binary-clause-grown :
    goal.visit_parts-returns-in_err-first-in-Binary-clause-grown
visit_parts-returns-in_err-first-in-Binary-clause-grown t c = search rules

pub visit_parts-visit-requires-in-Binary-2 : goal.visit_parts-visit-requires-in-Binary-2
visit_parts-visit-requires-in-Binary-2 t c =
    let k = known_binary (length c.args.nodes.now.types) c.args.i (length c.args.nodes.now.terms) c.node-node.result.now.form c.in-Binary.form c.in-Binary.a c.in-Binary.b c.in-Binary.is c.node-node.ensures.known c.requires.known in
    let s = c.requires.scope in
    (search rules, (k.1, ((s.0, scope_kept c.args.nodes.now.terms c.args.store.now.cells.items c.visit-in-Binary.new.store.cells.items c.args.scope s.0 c.visit-in-Binary.ensures.grown s.1), c.requires.room)))

pub visit_parts-returns-in_err-second-in-Binary-clause-is :
    goal.visit_parts-returns-in_err-second-in-Binary-clause-is
visit_parts-returns-in_err-second-in-Binary-clause-is t c = λ σ h.
    let a = c.in_ok-first-in-Binary.ensures.is σ h in
    let b = c.in_err-second-in-Binary.ensures.is σ (scope_kept c.args.nodes.now.terms c.args.store.now.cells.items c.visit-in-Binary.new.store.cells.items c.args.scope σ c.visit-in-Binary.ensures.grown h) in
    let told : StopsAt c.in_err-second-in-Binary.field-0.0 (walk_rules c.args.here (walk c.args.left c.args.here) σ (term_at c.args.nodes.now.terms c.args.i) (tally_of c.args.count.now)) =
    second_stops c.args.here (walk c.args.left c.args.here) σ c.node-node.result.now.span c.in-Binary.form (term_at c.args.nodes.now.terms c.in-Binary.a) (term_at c.args.nodes.now.terms c.in-Binary.b) (term_at c.args.nodes.now.terms c.args.i) (tally_of c.args.count.now) (tally_of c.visit-in-Binary.new.count) a.0 c.in_err-second-in-Binary.field-0.0 (node_binary (type_at c.args.nodes.now.types) c.args.nodes.now.terms (term_at c.args.nodes.now.terms c.args.i) c.node-node.result.now.span c.node-node.result.now.form c.in-Binary.form c.in-Binary.a c.in-Binary.b c.node-node.ensures.form c.in-Binary.is) a.2 b in
    let e = err_from_is_err_and c.from_residual-in_err-second-in-Binary.result c.from_residual-in_err-second-in-Binary.ensures.1 in rw (e.1, e.2) told

pub visit_parts-returns-in_err-second-in-Binary-clause-grown :
    goal.visit_parts-returns-in_err-second-in-Binary-clause-grown
visit_parts-returns-in_err-second-in-Binary-clause-grown t c = grown_on c.args.store.now.cells.items c.visit-in-Binary.new.store.cells.items c.visit-in-Binary-2.new.store.cells.items c.visit-in-Binary.ensures.grown c.visit-in-Binary-2.ensures.grown

pub visit_parts-combine-requires : goal.visit_parts-combine-requires
visit_parts-combine-requires t c =
    let s = c.requires.scope in
    let a = c.in_ok-first-in-Binary.ensures.is s.0 s.1 in
    let b = c.in_ok-second-in-Binary.ensures.is s.0 (scope_kept c.args.nodes.now.terms c.args.store.now.cells.items c.visit-in-Binary.new.store.cells.items c.args.scope s.0 c.visit-in-Binary.ensures.grown s.1) in
    (search rules, ((a.0, shape_kept c.args.nodes.now.terms c.visit-in-Binary.new.store.cells.items c.visit-in-Binary-2.new.store.cells.items c.in_ok-first-in-Binary.first a.0 c.visit-in-Binary-2.ensures.grown a.1), ((b.0, b.1), c.requires.room)))

pub visit_parts-visit-requires-in-Let : goal.visit_parts-visit-requires-in-Let
visit_parts-visit-requires-in-Let t c = search rules

pub visit_parts-returns-in_err-shape-in-Let-clause-is :
    goal.visit_parts-returns-in_err-shape-in-Let-clause-is
visit_parts-returns-in_err-shape-in-Let-clause-is t c = search rules

pub visit_parts-returns-in_err-shape-in-Let-clause-grown :
    goal.visit_parts-returns-in_err-shape-in-Let-clause-grown
visit_parts-returns-in_err-shape-in-Let-clause-grown t c = search rules

pub visit_parts-visit_under-requires : goal.visit_parts-visit_under-requires
visit_parts-visit_under-requires t c =
    let k = known_let (length c.args.nodes.now.types) c.args.i (length c.args.nodes.now.terms) c.node-node.result.now.form c.in-Let.name c.in-Let.e c.in-Let.b c.in-Let.is c.node-node.ensures.known c.requires.known in
    let s = c.requires.scope in
    let a = c.in_ok-shape-in-Let.ensures.is s.0 s.1 in
    (search rules, (k.1, ((s.0, scope_kept c.args.nodes.now.terms c.args.store.now.cells.items c.visit-in-Let.new.store.cells.items c.args.scope s.0 c.visit-in-Let.ensures.grown s.1), ((a.0, a.1), c.requires.room))))

pub visit_parts-returns-in_ok-second-in-Binary-clause-is :
    goal.visit_parts-returns-in_ok-second-in-Binary-clause-is
visit_parts-returns-in_ok-second-in-Binary-clause-is t c = λ σ h.
    let a = c.in_ok-first-in-Binary.ensures.is σ h in
    let b = c.in_ok-second-in-Binary.ensures.is σ (scope_kept c.args.nodes.now.terms c.args.store.now.cells.items c.visit-in-Binary.new.store.cells.items c.args.scope σ c.visit-in-Binary.ensures.grown h) in
    to (Tells c.args.nodes.now.terms c.combine.new.store.cells.items c.combine.new.count c.combine.result) _ _
    (binary_then c.args.here (walk c.args.left c.args.here) σ c.node-node.result.now.span c.in-Binary.form (term_at c.args.nodes.now.terms c.in-Binary.a) (term_at c.args.nodes.now.terms c.in-Binary.b) (term_at c.args.nodes.now.terms c.args.i) (tally_of c.args.count.now) (tally_of c.visit-in-Binary.new.count) (tally_of c.visit-in-Binary-2.new.count) a.0 b.0 (node_binary (type_at c.args.nodes.now.types) c.args.nodes.now.terms (term_at c.args.nodes.now.terms c.args.i) c.node-node.result.now.span c.node-node.result.now.form c.in-Binary.form c.in-Binary.a c.in-Binary.b c.node-node.ensures.form c.in-Binary.is) a.2 b.2)
    (c.combine.ensures.is a.0 b.0 (shape_kept c.args.nodes.now.terms c.visit-in-Binary.new.store.cells.items c.visit-in-Binary-2.new.store.cells.items c.in_ok-first-in-Binary.first a.0 c.visit-in-Binary-2.ensures.grown a.1) b.1)

pub visit_parts-returns-in_ok-second-in-Binary-clause-grown :
    goal.visit_parts-returns-in_ok-second-in-Binary-clause-grown
visit_parts-returns-in_ok-second-in-Binary-clause-grown t c = grown_on c.args.store.now.cells.items c.visit-in-Binary.new.store.cells.items c.combine.new.store.cells.items c.visit-in-Binary.ensures.grown (grown_on c.visit-in-Binary.new.store.cells.items c.visit-in-Binary-2.new.store.cells.items c.combine.new.store.cells.items c.visit-in-Binary-2.ensures.grown c.combine.ensures.grown)

pub visit_parts-returns-in_ok-shape-in-Let-clause-is :
    goal.visit_parts-returns-in_ok-shape-in-Let-clause-is
visit_parts-returns-in_ok-shape-in-Let-clause-is t c = λ σ h.
    let a = c.in_ok-shape-in-Let.ensures.is σ h in
    to (Tells c.args.nodes.now.terms c.visit_under.new.store.cells.items c.visit_under.new.count c.visit_under.result) _ _
    (let_then c.args.here (walk c.args.left c.args.here) σ c.node-node.result.now.span (name_of c.in-Let.name) (term_at c.args.nodes.now.terms c.in-Let.e) (term_at c.args.nodes.now.terms c.in-Let.b) (term_at c.args.nodes.now.terms c.args.i) (tally_of c.args.count.now) (tally_of c.visit-in-Let.new.count) a.0
    (node_let (type_at c.args.nodes.now.types) c.args.nodes.now.terms (term_at c.args.nodes.now.terms c.args.i) c.node-node.result.now.span c.node-node.result.now.form c.in-Let.name c.in-Let.e c.in-Let.b c.node-node.ensures.form c.in-Let.is) a.2)
    (c.visit_under.ensures.is σ a.0 (scope_kept c.args.nodes.now.terms c.args.store.now.cells.items c.visit-in-Let.new.store.cells.items c.args.scope σ c.visit-in-Let.ensures.grown h) a.1)

pub visit_parts-returns-in_ok-shape-in-Let-clause-grown :
    goal.visit_parts-returns-in_ok-shape-in-Let-clause-grown
visit_parts-returns-in_ok-shape-in-Let-clause-grown t c = grown_on c.args.store.now.cells.items c.visit-in-Let.new.store.cells.items c.visit_under.new.store.cells.items c.visit-in-Let.ensures.grown c.visit_under.ensures.grown

pub visit_under-returns-in_default-clause-grown : goal.visit_under-returns-in_default-clause-grown
visit_under-returns-in_default-clause-grown t c = search rules

pub visit_under-visit-requires : goal.visit_under-visit-requires
visit_under-visit-requires t c =
    let s = c.requires.scope in let p = c.requires.shape in
    (search rules, (c.requires.known, ((Also (name_of c.args.name) p.0 s.0, c.in-Ok.ensures.is c.args.nodes.now.terms p.0 s.0 p.1 s.1), c.requires.room)))

pub visit_under-returns-clause-is : goal.visit_under-returns-clause-is
visit_under-returns-clause-is t c = search rules

pub visit_under-returns-clause-grown : goal.visit_under-returns-clause-grown
visit_under-returns-clause-grown t c = grown_on c.args.store.now.cells.items c.bind.new.self.cells.items c.visit.new.store.cells.items c.bind.ensures.grown c.visit.ensures.grown

pub combine-over-requires : goal.combine-over-requires
combine-over-requires t c = search rules

pub combine-returns-in-Map-clause-is : goal.combine-returns-in-Map-clause-is
combine-returns-in-Map-clause-is t c = search rules

pub combine-returns-in-Map-clause-grown : goal.combine-returns-in-Map-clause-grown
combine-returns-in-Map-clause-grown t c = search rules

pub over-returns-in_default-clause-grown : goal.over-returns-in_default-clause-grown
over-returns-in_default-clause-grown t c = search rules

pub visit_parts-visit-requires-in-Binary : goal.visit_parts-visit-requires-in-Binary
visit_parts-visit-requires-in-Binary t c = search rules

pub visit_parts-returns-in_err-a-clause-grown : goal.visit_parts-returns-in_err-a-clause-grown
visit_parts-returns-in_err-a-clause-grown t c = search rules

pub over-give_bag-requires : goal.over-give_bag-requires
over-give_bag-requires t c =
    let q = c.requires.bag in
    (c.args.nodes.now.terms, q.0, shape_kept c.args.nodes.now.terms c.args.store.now.cells.items c.enter.new.store.cells.items c.args.b q.0 (grown_on c.args.store.now.cells.items c.ground.new.self.cells.items c.enter.new.store.cells.items c.ground.ensures.grown c.enter.ensures.grown) q.1)

pub over-enter-requires : goal.over-enter-requires
over-enter-requires t c =
    let f = c.requires.function in
    (search rules, ((f.0, shape_kept c.args.nodes.now.terms c.args.store.now.cells.items c.ground.new.self.cells.items c.args.c f.0 c.ground.ensures.grown f.1), ((Wide 0 0 0, c.in-Ok.ensures.is c.args.nodes.now.terms (Wide 0 0 0) refl), c.requires.room)))

pub over-returns-in_err-enter-clause-is : goal.over-returns-in_err-enter-clause-is
over-returns-in_err-enter-clause-is t c = λ p q h k.
    let told : StopsAt c.in_err-enter.field-0.0 (over c.args.here (walk c.args.left c.args.here) p q (tally_of c.args.count.now)) = over_stops c.args.here (walk c.args.left c.args.here) p q (tally_of c.args.count.now) c.in_err-enter.field-0.0 (c.in_err-enter.ensures.is p (Wide 0 0 0) (shape_kept c.args.nodes.now.terms c.args.store.now.cells.items c.ground.new.self.cells.items c.args.c p c.ground.ensures.grown h) (c.in-Ok.ensures.is c.args.nodes.now.terms (Wide 0 0 0) refl)) in
    let e = err_from_is_err_and c.from_residual.result c.from_residual.ensures.1 in rw (e.1, e.2) told

pub over-returns-in_err-enter-clause-grown : goal.over-returns-in_err-enter-clause-grown
over-returns-in_err-enter-clause-grown t c = grown_on c.args.store.now.cells.items c.ground.new.self.cells.items c.enter.new.store.cells.items c.ground.ensures.grown c.enter.ensures.grown

pub over-returns-clause-is : goal.over-returns-clause-is
over-returns-clause-is t c = λ p q h k.
    let a = c.in_ok-enter.ensures.is p (Wide 0 0 0) (shape_kept c.args.nodes.now.terms c.args.store.now.cells.items c.ground.new.self.cells.items c.args.c p c.ground.ensures.grown h) (c.in-Ok.ensures.is c.args.nodes.now.terms (Wide 0 0 0) refl) in
    to (Tells c.args.nodes.now.terms c.give_bag.new.store.cells.items c.give_bag.new.count c.give_bag.result) _ _
    (over_then c.args.here (walk c.args.left c.args.here) p q a.0 (tally_of c.args.count.now) (tally_of c.enter.new.count) a.2)
    (c.give_bag.ensures.is c.args.nodes.now.terms q (shape_kept c.args.nodes.now.terms c.args.store.now.cells.items c.enter.new.store.cells.items c.args.b q (grown_on c.args.store.now.cells.items c.ground.new.self.cells.items c.enter.new.store.cells.items c.ground.ensures.grown c.enter.ensures.grown) k))

pub over-returns-clause-grown : goal.over-returns-clause-grown
over-returns-clause-grown t c = grown_on c.args.store.now.cells.items c.ground.new.self.cells.items c.give_bag.new.store.cells.items c.ground.ensures.grown (grown_on c.ground.new.self.cells.items c.enter.new.store.cells.items c.give_bag.new.store.cells.items c.enter.ensures.grown c.give_bag.ensures.grown)

pub visit_parts-visit-requires : goal.visit_parts-visit-requires
visit_parts-visit-requires t c =
    (search rules, (part_known (length c.args.nodes.now.types) c.args.i (length c.args.nodes.now.terms) c.node-node.result.now.form c.in-Some.e (sym c.part_of.ensures ∙ c.in-Some.is) c.node-node.ensures.known c.requires.known, (c.requires.scope, c.requires.room)))

pub visit_parts-returns-in_err-a-clause-is : goal.visit_parts-returns-in_err-a-clause-is
visit_parts-returns-in_err-a-clause-is t c = λ σ h.
    let told : StopsAt c.in_err-a.field-0.0 (walk_rules c.args.here (walk c.args.left c.args.here) σ (term_at c.args.nodes.now.terms c.args.i) (tally_of c.args.count.now)) =
    part_stops c.args.here (walk c.args.left c.args.here) σ (type_at c.args.nodes.now.types) c.args.nodes.now.terms (term_at c.args.nodes.now.terms c.args.i) c.node-node.result.now.span c.node-node.result.now.form c.in-Some.e (tally_of c.args.count.now) c.in_err-a.field-0.0 c.node-node.ensures.form (sym c.part_of.ensures ∙ c.in-Some.is) (c.in_err-a.ensures.is σ h) in
    let e = err_from_is_err_and c.from_residual.result c.from_residual.ensures.1 in rw (e.1, e.2) told

pub visit_parts-give_part-requires : goal.visit_parts-give_part-requires
visit_parts-give_part-requires t c = let a = c.in_ok-a.ensures.is c.requires.scope.0 c.requires.scope.1 in (c.args.nodes.now.terms, a.0, a.1)

pub visit_parts-returns-in-Some-clause-is : goal.visit_parts-returns-in-Some-clause-is
visit_parts-returns-in-Some-clause-is t c = λ σ h.
    let a = c.in_ok-a.ensures.is σ h in
    to (Tells c.args.nodes.now.terms c.give_part.new.store.cells.items c.give_part.new.count c.give_part.result) _ _
    (part_then c.args.here (walk c.args.left c.args.here) σ (type_at c.args.nodes.now.types) c.args.nodes.now.terms (term_at c.args.nodes.now.terms c.args.i) c.node-node.result.now.span c.node-node.result.now.form c.in-Some.e (tally_of c.args.count.now) (tally_of c.visit.new.count) a.0 c.node-node.ensures.form (sym c.part_of.ensures ∙ c.in-Some.is) a.2)
    (c.give_part.ensures.is c.args.nodes.now.terms a.0 a.1)

pub visit_parts-returns-in-Some-clause-grown : goal.visit_parts-returns-in-Some-clause-grown
visit_parts-returns-in-Some-clause-grown t c = grown_on c.args.store.now.cells.items c.visit.new.store.cells.items c.give_part.new.store.cells.items c.visit.ensures.grown c.give_part.ensures.grown

pub visit_held-in_bang-requires : goal.visit_held-in_bang-requires
visit_held-in_bang-requires t c = search rules

pub visit_held-returns-in_default-clause-grown : goal.visit_held-returns-in_default-clause-grown
visit_held-returns-in_default-clause-grown t c = search rules

pub visit_parts-visit-requires-in-LetBang : goal.visit_parts-visit-requires-in-LetBang
visit_parts-visit-requires-in-LetBang t c = search rules

pub visit_parts-returns-in_err-bang-in-LetBang-clause-is : goal.visit_parts-returns-in_err-bang-in-LetBang-clause-is
visit_parts-returns-in_err-bang-in-LetBang-clause-is t c = search rules

pub visit_parts-returns-in_err-bang-in-LetBang-clause-grown : goal.visit_parts-returns-in_err-bang-in-LetBang-clause-grown
visit_parts-returns-in_err-bang-in-LetBang-clause-grown t c = search rules

pub visit_held-visit_under-requires : goal.visit_held-visit_under-requires
visit_held-visit_under-requires t c =
    let s = c.requires.scope in let a = c.requires.bang in
    (search rules, (c.requires.known, ((s.0, scope_kept c.args.nodes.now.terms c.args.store.now.cells.items c.in_bang.new.self.cells.items c.args.scope s.0 c.in_bang.ensures.grown s.1), ((in_bang a.0, c.in-Ok.ensures.is c.args.nodes.now.terms (in_bang a.0) (a.0, a.1, refl)), c.requires.room))))

pub visit_held-returns-clause-is : goal.visit_held-returns-clause-is
visit_held-returns-clause-is t c = λ σ p h k. c.visit_under.ensures.is σ (in_bang p) (scope_kept c.args.nodes.now.terms c.args.store.now.cells.items c.in_bang.new.self.cells.items c.args.scope σ c.in_bang.ensures.grown h) (c.in-Ok.ensures.is c.args.nodes.now.terms (in_bang p) (p, k, refl))

pub visit_held-returns-clause-grown : goal.visit_held-returns-clause-grown
visit_held-returns-clause-grown t c = grown_on c.args.store.now.cells.items c.in_bang.new.self.cells.items c.visit_under.new.store.cells.items c.in_bang.ensures.grown c.visit_under.ensures.grown

pub visit_parts-visit_held-requires : goal.visit_parts-visit_held-requires
visit_parts-visit_held-requires t c =
    let k = known_let_bang (length c.args.nodes.now.types) c.args.i (length c.args.nodes.now.terms) c.node-node.result.now.form c.in-LetBang.name c.in-LetBang.e c.in-LetBang.b c.in-LetBang.is c.node-node.ensures.known c.requires.known in
    let s = c.requires.scope in
    let a = c.in_ok-bang-in-LetBang.ensures.is s.0 s.1 in
    (search rules, (k.1, ((s.0, scope_kept c.args.nodes.now.terms c.args.store.now.cells.items c.visit-in-LetBang.new.store.cells.items c.args.scope s.0 c.visit-in-LetBang.ensures.grown s.1), ((a.0, a.1), c.requires.room))))

pub visit_parts-returns-in_ok-bang-in-LetBang-clause-is : goal.visit_parts-returns-in_ok-bang-in-LetBang-clause-is
visit_parts-returns-in_ok-bang-in-LetBang-clause-is t c = λ σ h.
    let a = c.in_ok-bang-in-LetBang.ensures.is σ h in
    to (Tells c.args.nodes.now.terms c.visit_held.new.store.cells.items c.visit_held.new.count c.visit_held.result) _ _
    (let_bang_then c.args.here (walk c.args.left c.args.here) σ c.node-node.result.now.span (name_of c.in-LetBang.name) (term_at c.args.nodes.now.terms c.in-LetBang.e) (term_at c.args.nodes.now.terms c.in-LetBang.b) (term_at c.args.nodes.now.terms c.args.i) (tally_of c.args.count.now) (tally_of c.visit-in-LetBang.new.count) a.0
    (node_let_bang (type_at c.args.nodes.now.types) c.args.nodes.now.terms (term_at c.args.nodes.now.terms c.args.i) c.node-node.result.now.span c.node-node.result.now.form c.in-LetBang.name c.in-LetBang.e c.in-LetBang.b c.node-node.ensures.form c.in-LetBang.is) a.2)
    (c.visit_held.ensures.is σ a.0 (scope_kept c.args.nodes.now.terms c.args.store.now.cells.items c.visit-in-LetBang.new.store.cells.items c.args.scope σ c.visit-in-LetBang.ensures.grown h) a.1)

pub visit_parts-returns-in_ok-bang-in-LetBang-clause-grown : goal.visit_parts-returns-in_ok-bang-in-LetBang-clause-grown
visit_parts-returns-in_ok-bang-in-LetBang-clause-grown t c = grown_on c.args.store.now.cells.items c.visit-in-LetBang.new.store.cells.items c.visit_held.new.store.cells.items c.visit-in-LetBang.ensures.grown c.visit_held.ensures.grown

pub visit_both-visit-requires : goal.visit_both-visit-requires
visit_both-visit-requires t c = search rules

pub visit_both-returns-in_err-first-clause-is : goal.visit_both-returns-in_err-first-clause-is
visit_both-returns-in_err-first-clause-is t c = search rules

pub visit_both-returns-in_err-first-clause-grown : goal.visit_both-returns-in_err-first-clause-grown
visit_both-returns-in_err-first-clause-grown t c = search rules

pub visit_both-visit-requires-2 : goal.visit_both-visit-requires-2
visit_both-visit-requires-2 t c =
    let o = c.requires.other in
    (search rules, (c.requires.second, ((o.0, (scope_kept c.args.nodes.now.terms c.args.store.now.cells.items c.visit.new.store.cells.items c.args.other o.0 c.visit.ensures.grown o.1)), c.requires.room)))

pub visit_both-returns-in_err-second-clause-is : goal.visit_both-returns-in_err-second-clause-is
visit_both-returns-in_err-second-clause-is t c = λ σ τ h k.
    let a = c.in_ok-first.ensures.is σ h in
    let b = c.in_err-second.ensures.is τ (scope_kept c.args.nodes.now.terms c.args.store.now.cells.items c.visit.new.store.cells.items c.args.other τ c.visit.ensures.grown k) in
    let told : StopsAt c.in_err-second.field-0.0 (branches (walk c.args.left c.args.here) σ (term_at c.args.nodes.now.terms c.args.a) τ (term_at c.args.nodes.now.terms c.args.b) (tally_of c.args.count.now)) =
    second_branch_stops (walk c.args.left c.args.here) σ τ (term_at c.args.nodes.now.terms c.args.a) (term_at c.args.nodes.now.terms c.args.b) (tally_of c.args.count.now) (tally_of c.visit.new.count) a.0 c.in_err-second.field-0.0 a.2 b in
    let e = err_from_is_err_and c.from_residual-in_err-second.result c.from_residual-in_err-second.ensures.1 in rw (e.1, e.2) told

pub visit_both-returns-in_err-second-clause-grown : goal.visit_both-returns-in_err-second-clause-grown
visit_both-returns-in_err-second-clause-grown t c = grown_on c.args.store.now.cells.items c.visit.new.store.cells.items c.visit-2.new.store.cells.items c.visit.ensures.grown c.visit-2.ensures.grown

pub visit_both-give_wider-requires : goal.visit_both-give_wider-requires
visit_both-give_wider-requires t c =
    let s = c.requires.scope in let o = c.requires.other in
    let a = c.in_ok-first.ensures.is s.0 s.1 in
    let b = c.in_ok-second.ensures.is o.0 (scope_kept c.args.nodes.now.terms c.args.store.now.cells.items c.visit.new.store.cells.items c.args.other o.0 c.visit.ensures.grown o.1) in
    (c.args.nodes.now.terms, a.0, b.0, (shape_kept c.args.nodes.now.terms c.visit.new.store.cells.items c.visit-2.new.store.cells.items c.in_ok-first.first a.0 c.visit-2.ensures.grown a.1), b.1)

pub visit_both-returns-clause-is : goal.visit_both-returns-clause-is
visit_both-returns-clause-is t c = λ σ τ h k.
    let a = c.in_ok-first.ensures.is σ h in
    let b = c.in_ok-second.ensures.is τ (scope_kept c.args.nodes.now.terms c.args.store.now.cells.items c.visit.new.store.cells.items c.args.other τ c.visit.ensures.grown k) in
    to (Tells c.args.nodes.now.terms c.give_wider.new.store.cells.items c.give_wider.new.count c.give_wider.result) _ _
    (branches_then (walk c.args.left c.args.here) σ τ (term_at c.args.nodes.now.terms c.args.a) (term_at c.args.nodes.now.terms c.args.b) (tally_of c.args.count.now) (tally_of c.visit.new.count) (tally_of c.visit-2.new.count) a.0 b.0 a.2 b.2)
    (c.give_wider.ensures.is c.args.nodes.now.terms a.0 b.0 (shape_kept c.args.nodes.now.terms c.visit.new.store.cells.items c.visit-2.new.store.cells.items c.in_ok-first.first a.0 c.visit-2.ensures.grown a.1) b.1)

pub visit_both-returns-clause-grown : goal.visit_both-returns-clause-grown
visit_both-returns-clause-grown t c = grown_on c.args.store.now.cells.items c.visit.new.store.cells.items c.give_wider.new.store.cells.items c.visit.ensures.grown (grown_on c.visit.new.store.cells.items c.visit-2.new.store.cells.items c.give_wider.new.store.cells.items c.visit-2.ensures.grown c.give_wider.ensures.grown)

pub visit_halves-bind_first-requires : goal.visit_halves-bind_first-requires
visit_halves-bind_first-requires t c = search rules

pub visit_halves-returns-in_default-clause-grown : goal.visit_halves-returns-in_default-clause-grown
visit_halves-returns-in_default-clause-grown t c = search rules

pub visit_halves-second-requires : goal.visit_halves-second-requires
visit_halves-second-requires t c =
    let p = c.requires.pair in
    (c.args.nodes.now.terms, p.0, (shape_kept c.args.nodes.now.terms c.args.store.now.cells.items c.bind_first.new.self.cells.items c.args.pair p.0 c.bind_first.ensures.grown p.1))

pub visit_halves-returns-in_default-second-clause-grown : goal.visit_halves-returns-in_default-second-clause-grown
visit_halves-returns-in_default-second-clause-grown t c = grown_on c.args.store.now.cells.items c.bind_first.new.self.cells.items c.second.new.self.cells.items c.bind_first.ensures.grown c.second.ensures.grown

pub visit_halves-visit_under-requires : goal.visit_halves-visit_under-requires
visit_halves-visit_under-requires t c =
    let s = c.requires.scope in let p = c.requires.pair in
    (search rules, (c.requires.known, ((Also (name_of c.args.names.0) (first_half p.0) s.0, (scope_kept c.args.nodes.now.terms c.bind_first.new.self.cells.items c.second.new.self.cells.items c.in-Ok.inner (Also (name_of c.args.names.0) (first_half p.0) s.0) c.second.ensures.grown (c.in-Ok.ensures.is c.args.nodes.now.terms p.0 s.0 p.1 s.1))), ((second_half p.0, (c.in-Ok-second.ensures.is c.args.nodes.now.terms (second_half p.0) (p.0, (shape_kept c.args.nodes.now.terms c.args.store.now.cells.items c.bind_first.new.self.cells.items c.args.pair p.0 c.bind_first.ensures.grown p.1), refl))), c.requires.room))))

pub visit_halves-returns-clause-is : goal.visit_halves-returns-clause-is
visit_halves-returns-clause-is t c = λ σ p h k.
    c.visit_under.ensures.is (Also (name_of c.args.names.0) (first_half p) σ) (second_half p) (scope_kept c.args.nodes.now.terms c.bind_first.new.self.cells.items c.second.new.self.cells.items c.in-Ok.inner (Also (name_of c.args.names.0) (first_half p) σ) c.second.ensures.grown (c.in-Ok.ensures.is c.args.nodes.now.terms p σ k h)) (c.in-Ok-second.ensures.is c.args.nodes.now.terms (second_half p) (p, (shape_kept c.args.nodes.now.terms c.args.store.now.cells.items c.bind_first.new.self.cells.items c.args.pair p c.bind_first.ensures.grown k), refl))

pub visit_halves-returns-clause-grown : goal.visit_halves-returns-clause-grown
visit_halves-returns-clause-grown t c = grown_on c.args.store.now.cells.items c.bind_first.new.self.cells.items c.visit_under.new.store.cells.items c.bind_first.ensures.grown (grown_on c.bind_first.new.self.cells.items c.second.new.self.cells.items c.visit_under.new.store.cells.items c.second.ensures.grown c.visit_under.ensures.grown)

pub visit_sides-bind_side-requires : goal.visit_sides-bind_side-requires
visit_sides-bind_side-requires t c = search rules

pub visit_sides-returns-in_default-clause-grown : goal.visit_sides-returns-in_default-clause-grown
visit_sides-returns-in_default-clause-grown t c = search rules

pub visit_sides-bind_side-requires-2 : goal.visit_sides-bind_side-requires-2
visit_sides-bind_side-requires-2 t c =
    let p = c.requires.side in
    (c.args.nodes.now.terms, p.0, (shape_kept c.args.nodes.now.terms c.args.store.now.cells.items c.bind_side.new.self.cells.items c.args.side p.0 c.bind_side.ensures.grown p.1))

pub visit_sides-returns-in_default-bind_side-clause-grown : goal.visit_sides-returns-in_default-bind_side-clause-grown
visit_sides-returns-in_default-bind_side-clause-grown t c = grown_on c.args.store.now.cells.items c.bind_side.new.self.cells.items c.bind_side-2.new.self.cells.items c.bind_side.ensures.grown c.bind_side-2.ensures.grown

pub visit_sides-visit_both-requires : goal.visit_sides-visit_both-requires
visit_sides-visit_both-requires t c =
    let s = c.requires.scope in let p = c.requires.side in
    (search rules, (c.requires.first, (c.requires.second, ((beside (name_of c.args.first.0) p.0 s.0, (scope_kept c.args.nodes.now.terms c.bind_side.new.self.cells.items c.bind_side-2.new.self.cells.items c.in-Ok.under_x (beside (name_of c.args.first.0) p.0 s.0) c.bind_side-2.ensures.grown (c.in-Ok.ensures.is c.args.nodes.now.terms p.0 s.0 p.1 s.1))), ((beside (name_of c.args.second.0) p.0 s.0, (c.in-Ok-bind_side.ensures.is c.args.nodes.now.terms p.0 s.0 (shape_kept c.args.nodes.now.terms c.args.store.now.cells.items c.bind_side.new.self.cells.items c.args.side p.0 c.bind_side.ensures.grown p.1) (scope_kept c.args.nodes.now.terms c.args.store.now.cells.items c.bind_side.new.self.cells.items c.args.scope s.0 c.bind_side.ensures.grown s.1))), c.requires.room)))))

pub visit_sides-returns-clause-is : goal.visit_sides-returns-clause-is
visit_sides-returns-clause-is t c = λ σ p h k.
    c.visit_both.ensures.is (beside (name_of c.args.first.0) p σ) (beside (name_of c.args.second.0) p σ) (scope_kept c.args.nodes.now.terms c.bind_side.new.self.cells.items c.bind_side-2.new.self.cells.items c.in-Ok.under_x (beside (name_of c.args.first.0) p σ) c.bind_side-2.ensures.grown (c.in-Ok.ensures.is c.args.nodes.now.terms p σ k h)) (c.in-Ok-bind_side.ensures.is c.args.nodes.now.terms p σ (shape_kept c.args.nodes.now.terms c.args.store.now.cells.items c.bind_side.new.self.cells.items c.args.side p c.bind_side.ensures.grown k) (scope_kept c.args.nodes.now.terms c.args.store.now.cells.items c.bind_side.new.self.cells.items c.args.scope σ c.bind_side.ensures.grown h))

pub visit_sides-returns-clause-grown : goal.visit_sides-returns-clause-grown
visit_sides-returns-clause-grown t c = grown_on c.args.store.now.cells.items c.bind_side.new.self.cells.items c.visit_both.new.store.cells.items c.bind_side.ensures.grown (grown_on c.bind_side.new.self.cells.items c.bind_side-2.new.self.cells.items c.visit_both.new.store.cells.items c.bind_side-2.ensures.grown c.visit_both.ensures.grown)

pub visit_parts-visit-requires-in-LetPair : goal.visit_parts-visit-requires-in-LetPair
visit_parts-visit-requires-in-LetPair t c = search rules

pub visit_parts-returns-in_err-pair-in-LetPair-clause-is : goal.visit_parts-returns-in_err-pair-in-LetPair-clause-is
visit_parts-returns-in_err-pair-in-LetPair-clause-is t c = search rules

pub visit_parts-returns-in_err-pair-in-LetPair-clause-grown : goal.visit_parts-returns-in_err-pair-in-LetPair-clause-grown
visit_parts-returns-in_err-pair-in-LetPair-clause-grown t c = search rules

pub visit_parts-visit_halves-requires : goal.visit_parts-visit_halves-requires
visit_parts-visit_halves-requires t c =
    let k = known_let_pair (length c.args.nodes.now.types) c.args.i (length c.args.nodes.now.terms) c.node-node.result.now.form c.in-LetPair.x c.in-LetPair.y c.in-LetPair.e c.in-LetPair.b c.in-LetPair.is c.node-node.ensures.known c.requires.known in
    let s = c.requires.scope in
    let a = c.in_ok-pair-in-LetPair.ensures.is s.0 s.1 in
    (search rules, (k.1, ((s.0, (scope_kept c.args.nodes.now.terms c.args.store.now.cells.items c.visit-in-LetPair.new.store.cells.items c.args.scope s.0 c.visit-in-LetPair.ensures.grown s.1)), ((a.0, a.1), c.requires.room))))

pub visit_parts-returns-in_ok-pair-in-LetPair-clause-is : goal.visit_parts-returns-in_ok-pair-in-LetPair-clause-is
visit_parts-returns-in_ok-pair-in-LetPair-clause-is t c = λ σ h.
    let a = c.in_ok-pair-in-LetPair.ensures.is σ h in
    to (Tells c.args.nodes.now.terms c.visit_halves.new.store.cells.items c.visit_halves.new.count c.visit_halves.result) _ _
    (let_pair_then c.args.here (walk c.args.left c.args.here) σ c.node-node.result.now.span (name_of c.in-LetPair.x) (name_of c.in-LetPair.y) (term_at c.args.nodes.now.terms c.in-LetPair.e) (term_at c.args.nodes.now.terms c.in-LetPair.b) (term_at c.args.nodes.now.terms c.args.i) (tally_of c.args.count.now) (tally_of c.visit-in-LetPair.new.count) a.0
    (node_let_pair (type_at c.args.nodes.now.types) c.args.nodes.now.terms (term_at c.args.nodes.now.terms c.args.i) c.node-node.result.now.span c.node-node.result.now.form c.in-LetPair.x c.in-LetPair.y c.in-LetPair.e c.in-LetPair.b c.node-node.ensures.form c.in-LetPair.is) a.2)
    (c.visit_halves.ensures.is σ a.0 (scope_kept c.args.nodes.now.terms c.args.store.now.cells.items c.visit-in-LetPair.new.store.cells.items c.args.scope σ c.visit-in-LetPair.ensures.grown h) a.1)

pub visit_parts-returns-in_ok-pair-in-LetPair-clause-grown : goal.visit_parts-returns-in_ok-pair-in-LetPair-clause-grown
visit_parts-returns-in_ok-pair-in-LetPair-clause-grown t c = grown_on c.args.store.now.cells.items c.visit-in-LetPair.new.store.cells.items c.visit_halves.new.store.cells.items c.visit-in-LetPair.ensures.grown c.visit_halves.ensures.grown

pub visit_parts-visit-requires-in-If : goal.visit_parts-visit-requires-in-If
visit_parts-visit-requires-in-If t c = search rules

pub visit_parts-returns-in_err-visit-in-If-clause-is : goal.visit_parts-returns-in_err-visit-in-If-clause-is
visit_parts-returns-in_err-visit-in-If-clause-is t c = search rules

pub visit_parts-returns-in_err-visit-in-If-clause-grown : goal.visit_parts-returns-in_err-visit-in-If-clause-grown
visit_parts-returns-in_err-visit-in-If-clause-grown t c = search rules

pub visit_parts-visit_both-requires : goal.visit_parts-visit_both-requires
visit_parts-visit_both-requires t c =
    let k = known_if (length c.args.nodes.now.types) c.args.i (length c.args.nodes.now.terms) c.node-node.result.now.form c.in-If.e c.in-If.a c.in-If.b c.in-If.is c.node-node.ensures.known c.requires.known in
    let s = c.requires.scope in
    let a = c.in_ok-visit-in-If.ensures.is s.0 s.1 in
    (search rules, (k.1, (k.2, ((s.0, (scope_kept c.args.nodes.now.terms c.args.store.now.cells.items c.visit-in-If.new.store.cells.items c.args.scope s.0 c.visit-in-If.ensures.grown s.1)), ((s.0, (scope_kept c.args.nodes.now.terms c.args.store.now.cells.items c.visit-in-If.new.store.cells.items c.args.scope s.0 c.visit-in-If.ensures.grown s.1)), c.requires.room)))))

pub visit_parts-returns-in_ok-visit-in-If-clause-is : goal.visit_parts-returns-in_ok-visit-in-If-clause-is
visit_parts-returns-in_ok-visit-in-If-clause-is t c = λ σ h.
    let a = c.in_ok-visit-in-If.ensures.is σ h in
    to (Tells c.args.nodes.now.terms c.visit_both.new.store.cells.items c.visit_both.new.count c.visit_both.result) _ _
    (if_then c.args.here (walk c.args.left c.args.here) σ c.node-node.result.now.span (term_at c.args.nodes.now.terms c.in-If.e) (term_at c.args.nodes.now.terms c.in-If.a) (term_at c.args.nodes.now.terms c.in-If.b) (term_at c.args.nodes.now.terms c.args.i) (tally_of c.args.count.now) (tally_of c.visit-in-If.new.count) a.0
    (node_if (type_at c.args.nodes.now.types) c.args.nodes.now.terms (term_at c.args.nodes.now.terms c.args.i) c.node-node.result.now.span c.node-node.result.now.form c.in-If.e c.in-If.a c.in-If.b c.node-node.ensures.form c.in-If.is) a.2)
    (c.visit_both.ensures.is σ σ (scope_kept c.args.nodes.now.terms c.args.store.now.cells.items c.visit-in-If.new.store.cells.items c.args.scope σ c.visit-in-If.ensures.grown h) (scope_kept c.args.nodes.now.terms c.args.store.now.cells.items c.visit-in-If.new.store.cells.items c.args.scope σ c.visit-in-If.ensures.grown h))

pub visit_parts-returns-in_ok-visit-in-If-clause-grown : goal.visit_parts-returns-in_ok-visit-in-If-clause-grown
visit_parts-returns-in_ok-visit-in-If-clause-grown t c = grown_on c.args.store.now.cells.items c.visit-in-If.new.store.cells.items c.visit_both.new.store.cells.items c.visit-in-If.ensures.grown c.visit_both.ensures.grown

pub visit_parts-visit-requires-in-Case : goal.visit_parts-visit-requires-in-Case
visit_parts-visit-requires-in-Case t c = search rules

pub visit_parts-returns-in_err-side-in-Case-clause-is : goal.visit_parts-returns-in_err-side-in-Case-clause-is
visit_parts-returns-in_err-side-in-Case-clause-is t c = search rules

pub visit_parts-returns-in_err-side-in-Case-clause-grown : goal.visit_parts-returns-in_err-side-in-Case-clause-grown
visit_parts-returns-in_err-side-in-Case-clause-grown t c = search rules

pub visit_parts-visit_sides-requires : goal.visit_parts-visit_sides-requires
visit_parts-visit_sides-requires t c =
    let k = known_case (length c.args.nodes.now.types) c.args.i (length c.args.nodes.now.terms) c.node-node.result.now.form c.in-Case.e c.in-Case.x c.in-Case.a c.in-Case.y c.in-Case.b c.in-Case.is c.node-node.ensures.known c.requires.known in
    let s = c.requires.scope in
    let a = c.in_ok-side-in-Case.ensures.is s.0 s.1 in
    (search rules, (k.1, (k.2, ((s.0, (scope_kept c.args.nodes.now.terms c.args.store.now.cells.items c.visit-in-Case.new.store.cells.items c.args.scope s.0 c.visit-in-Case.ensures.grown s.1)), ((a.0, a.1), c.requires.room)))))

pub visit_parts-returns-in_ok-side-in-Case-clause-is : goal.visit_parts-returns-in_ok-side-in-Case-clause-is
visit_parts-returns-in_ok-side-in-Case-clause-is t c = λ σ h.
    let a = c.in_ok-side-in-Case.ensures.is σ h in
    to (Tells c.args.nodes.now.terms c.visit_sides.new.store.cells.items c.visit_sides.new.count c.visit_sides.result) _ _
    (case_then c.args.here (walk c.args.left c.args.here) σ c.node-node.result.now.span (name_of c.in-Case.x) (name_of c.in-Case.y) (term_at c.args.nodes.now.terms c.in-Case.e) (term_at c.args.nodes.now.terms c.in-Case.a) (term_at c.args.nodes.now.terms c.in-Case.b) (term_at c.args.nodes.now.terms c.args.i) (tally_of c.args.count.now) (tally_of c.visit-in-Case.new.count) a.0
    (node_case (type_at c.args.nodes.now.types) c.args.nodes.now.terms (term_at c.args.nodes.now.terms c.args.i) c.node-node.result.now.span c.node-node.result.now.form c.in-Case.e c.in-Case.x c.in-Case.a c.in-Case.y c.in-Case.b c.node-node.ensures.form c.in-Case.is) a.2)
    (c.visit_sides.ensures.is σ a.0 (scope_kept c.args.nodes.now.terms c.args.store.now.cells.items c.visit-in-Case.new.store.cells.items c.args.scope σ c.visit-in-Case.ensures.grown h) a.1)

pub visit_parts-returns-in_ok-side-in-Case-clause-grown : goal.visit_parts-returns-in_ok-side-in-Case-clause-grown
visit_parts-returns-in_ok-side-in-Case-clause-grown t c = grown_on c.args.store.now.cells.items c.visit-in-Case.new.store.cells.items c.visit_sides.new.store.cells.items c.visit-in-Case.ensures.grown c.visit_sides.ensures.grown

pub visit_parts-give_leaf-requires : goal.visit_parts-give_leaf-requires
visit_parts-give_leaf-requires t c =
    let s = c.requires.scope in
    (c.args.nodes.now.terms, s.0, s.1, leaf_known (length c.args.nodes.now.types) c.args.i (length c.args.nodes.now.terms) c.node-node.result.now.form c.node-node.ensures.known c.requires.known)

pub visit_parts-returns-in_default-form : goal.visit_parts-returns-in_default-form
visit_parts-returns-in_default-form t c =
    let o = c.in_default-form in
    let l : IsLeft c.node-node.result.now.form = record {
      no_part = λ e h. c.in_default.not-Some e (c.part_of.ensures ∙ h);
      no_binary = o.not-Binary;
      no_let = o.not-Let;
      no_let_bang = o.not-LetBang;
      no_let_pair = o.not-LetPair;
      no_if = o.not-If;
      no_case = o.not-Case;
    } in
    let k = leaf_known (length c.args.nodes.now.types) c.args.i (length c.args.nodes.now.terms) c.node-node.result.now.form c.node-node.ensures.known c.requires.known in
    record {
      is = λ σ h. to (Tells c.args.nodes.now.terms c.give_leaf.new.store.cells.items c.give_leaf.new.count c.give_leaf.result) _ _
          (leaf_then c.args.here (walk c.args.left c.args.here) σ (type_at c.args.nodes.now.types) c.args.nodes.now.terms (term_at c.args.nodes.now.terms c.args.i) c.node-node.result.now.span c.node-node.result.now.form (tally_of c.args.count.now) c.node-node.ensures.form l)
          (c.give_leaf.ensures.is c.args.nodes.now.terms σ h k);
      grown = c.give_leaf.ensures.grown;
    }
