-- Each text is the name at its place.
use Rattle.std.proofs.Common.{◌∙◌, sym, ap, bytes_eq}
use Rattle.std.specs.Prelude.{position}
use Rattle.owner_catalog.proofs.NameLemmas.{position-map}
use Rattle.owner_catalog.proofs.names.Names.number.Goals as goal

pub returns : goal.returns
returns c = c.get_index_of.ensures.index ∙ sym (position-map (bytes_eq c.args.name.now) (λ text. text.items) c.self.inside.texts.keys)
    ∙ ap (position (bytes_eq c.args.name.now)) c.self.view_is
