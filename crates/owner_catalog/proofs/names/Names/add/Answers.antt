-- A text is among the texts where its name is among the names.
use Rattle.std.proofs.Common.{◌≡◌, ◌∙◌, sym, ap, bytes_eq, not, rules}
use Rattle.std.specs.List.{list_any}
use Rattle.owner_catalog.proofs.Lists.{list_any-map}
use Rattle.owner_catalog.proofs.names.Names.add.Goals as goal

pub returns-clause-added : goal.returns-clause-added
returns-clause-added c =
    let text = c.in_ok-text.text in
    let name : text.items ≡ c.args.name.now = search rules in
    let there : list_any (λ other. bytes_eq text.items other.items) c.self.inside.texts.keys ≡ list_any (bytes_eq c.args.name.now) c.args.self.now =
    sym (list_any-map (bytes_eq text.items) (λ other. other.items) c.self.inside.texts.keys) ∙ ap (list_any (bytes_eq text.items)) c.self.view_is
    ∙ ap (λ n. list_any (bytes_eq n) c.args.self.now) name in
    c.in_ok-added.ensures.added ∙ ap not there
