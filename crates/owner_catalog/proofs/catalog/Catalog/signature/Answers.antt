-- The tables of an owner are lawful.
use Rattle.std.proofs.Common.{◌∙◌, ap}
use Rattle.owner_catalog.proofs.catalog.Catalog.signature.Goals as goal

pub signature_of-requires : goal.signature_of-requires
signature_of-requires c =
    let tables = c.deref.ensures.value ∙ ap (λ e. e.tables) c.owner.view_is in
    record { tables = rw tables c.owner_at-owner.ensures.lawful.tables; distinct = rw tables c.owner_at-owner.ensures.lawful.distinct_tables }
