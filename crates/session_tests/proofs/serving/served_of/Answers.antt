use Rattle.std.proofs.Common.{◌≡◌, ◌∙◌, sym, ap, subst}
use Rattle.std.specs.List.{All}
use Rattle.owner_lock.specs.Known.{whole_share}
use Rattle.owner_house.specs.House.{house_of}
use Rattle.session_core.specs.Bundles.{Bundle}
use Rattle.session_core.specs.Code.{ArePasses}
use Rattle.session_tests.proofs.serving.served_of.Goals as goal

-- The passes that are opened are those of the house's owners, of its desks, and whole.
pub invariant_of-result : goal.invariant_of-result
invariant_of-result c = record {
  here = ap (λ (b : Bundle). b.locks) c.new-in-Ok-open_desks.ensures ∙ c.in-Ok-open_desks.ensures.here;
  of_the_house = subst (λ (b : Bundle). ArePasses (house_of c.open_desks.new.opened.loading.register) b.knows) (sym c.new-in-Ok-open_desks.ensures) c.in-Ok-open_desks.ensures.house;
  whole = subst (λ (b : Bundle). All (λ s. s ≡ whole_share) b.shares) (sym c.new-in-Ok-open_desks.ensures) c.in-Ok-open_desks.ensures.whole;
}
