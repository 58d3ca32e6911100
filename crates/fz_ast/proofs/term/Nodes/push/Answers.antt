-- What is left to prove of term::Nodes::push.
use Rattle.std.proofs.Common.{◌≡◌, [], refl, subst, sym}
use Rattle.fz_ast.specs.declared.span.Span.{Span}
use Rattle.fz_ast.specs.Depth.{depth}
use Rattle.fz_ast.specs.Parts.{Parts}
use Rattle.fz_ast.specs.TypeNodes.{type_at}
use Rattle.fz_ast.specs.TermNodes.{term_at, term_of, terms_after}
use Rattle.fz_ast.proofs.TermNodes.{term_pushed, term_kept, notes_of}
use Rattle.fz_ast.proofs.term.Nodes.push.Goals as goal

pub invariant_of-self-2 : goal.invariant_of-self-2
invariant_of-self-2 c =
    let T = c.self.inside.types in
    let ns = c.self.inside.nodes.items in
    let known = rw (← c.self.view_is) at c.requires.known in
    let depth = subst (λ (p : Parts). (s : Span) → c.depth_of-depth.result ≡ depth (term_of (type_at p.types) (term_at p.terms) s c.args.form)) (sym c.self.view_is) c.depth_of-depth.ensures.is in
    let shallow = rw (← c.self.view_is) at c.depth_of-depth.ensures.shallow in
    term_kept T ns _ (record { span = c.args.span; form = c.args.form; depth = c.depth_of-depth.result }) c.in_default.ensures.items c.self.invariant known
    (notes_of T (terms_after (type_at T) [] ns) ns c.args.span c.args.form c.depth_of-depth.result c.self.invariant known c.requires.limits (depth c.args.span) shallow)

pub returns-clause-grown : goal.returns-clause-grown
returns-clause-grown c = rw (← c.self.view_is, term_pushed c.self.inside.types c.self.inside.nodes.items _ (record { span = c.args.span; form = c.args.form; depth = c.depth_of-depth.result }) c.in_default.ensures.items) refl
