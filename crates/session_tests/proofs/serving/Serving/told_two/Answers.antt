use Rattle.std.proofs.Common.{◌≡◌, List, ap, subst, sym}
use Rattle.owner_house.specs.House.{Register, house_of}
use Rattle.owner_desk.specs.Passes.{Pass}
use Rattle.session_core.specs.Bundles.{Bundle}
use Rattle.session_core.specs.Code.{ArePasses}
use Rattle.session_tests.proofs.Halves.{passes_handed}
use Rattle.session_tests.proofs.serving.Serving.told_two.Goals as goal

pub told_two-one-requires-clause-passes : goal.told_two-one-requires-clause-passes
told_two-one-requires-clause-passes g c κs within =
    let house = house_of c.house.result.now in
    let knows : List Pass = c.args.self.passes.knows in
    let are : ArePasses house knows = subst (λ (r : Register). ArePasses (house_of r) knows) (sym c.house.ensures.house) c.args.self.of_the_house in (
      subst (λ (ps : List Pass). ArePasses house ps) (sym (ap (λ (b : Bundle). b.knows) c.in_ok-second.ensures.kept)) are,
      subst (λ (ps : List Pass). ArePasses house ps) (sym (ap (λ (b : Bundle). b.knows) c.in_ok-second.ensures.given)) (passes_handed house knows are),
    )
