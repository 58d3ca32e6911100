use Rattle.std.proofs.Common.{◌∙◌, sym, subst}
use Rattle.budget_core.specs.Entries.{Entry, IsEntry}
use Rattle.owner_house.proofs.Owners.{entry_made, entry_lawful}
use Rattle.owner_house.proofs.entry.new_entry.Goals as goal

pub new-requires : goal.new-requires
new-requires c =
    subst (λ (e : Entry). IsEntry e)
    (sym (entry_made c.args.catalog.now c.args.owner _ _ _ _ _ c.budget.ensures c.capacity.ensures c.analysts-analysts.ensures c.in_ok-keys.ensures c.in_ok-limits.ensures))
    (entry_lawful c.args.catalog.now c.owners-owners.ensures.legal c.args.owner c.requires)

pub returns : goal.returns
returns c =
    c.new.ensures ∙ entry_made c.args.catalog.now c.args.owner _ _ _ _ _ c.budget.ensures c.capacity.ensures c.analysts-analysts.ensures c.in_ok-keys.ensures c.in_ok-limits.ensures
