use Rattle.std.proofs.Common.{length, ◌∙◌}
use Rattle.fz_ast.specs.TermNodes.{term_at}
use Rattle.fz_derive.proofs.NodeSizes.{first_below, first_fits, first_places, first_two_below, first_two_fit, first_two_places}
use Rattle.fz_derive.proofs.walk.Walk.places.Goals as goal

pub two_places-requires : goal.two_places-requires
two_places-requires c =
    let v = c.args.self.now.view in
    let fits = c.requires.fits in
    record {
      walk = c.requires.walk;
      known = first_below (length v.nodes.now.types) (length c.args.self.now.sizes.now) c.args.form.now c.in-Binary.a c.in-Binary.is c.requires.known;
      fits = first_fits v.nodes.now fits.0 c.args.form.now c.args.k (length v.lines.now) fits.1 c.in-Binary.a c.in-Binary.is;
    }

pub three_places-requires : goal.three_places-requires
three_places-requires c =
    let v = c.args.self.now.view in
    let fits = c.requires.fits in
    let known = first_two_below (length v.nodes.now.types) (length c.args.self.now.sizes.now) c.args.form.now c.in-If.e c.in-If.a c.in-If.is c.requires.known in
    record {
      walk = c.requires.walk;
      e_known = known.0;
      a_known = known.1;
      fits = first_two_fit v.nodes.now fits.0 c.args.form.now c.args.k (length v.lines.now) fits.1 c.in-If.e c.in-If.a c.in-If.is;
    }

pub returns-in-Binary : goal.returns-in-Binary
returns-in-Binary c = c.two_places.ensures ∙ first_places (term_at c.args.self.now.view.nodes.now.terms) c.args.form.now c.in-Binary.a c.args.k c.in-Binary.is

pub returns-in-If : goal.returns-in-If
returns-in-If c = c.three_places.ensures ∙ first_two_places (term_at c.args.self.now.view.nodes.now.terms) c.args.form.now c.in-If.e c.in-If.a c.args.k c.in-If.is
