use Rattle.std.proofs.Common.{sym, ◌∙◌, ap, subst, Some, None, set}
use Rattle.outside_bays.specs.Bays.{Changes, shown_at, shelf_of}
use Rattle.outside_bays.specs.Places.{home_shown}
use Rattle.outside_bays.proofs.Shelves.{shelf-at, shelf-set, not-away}
use Rattle.outside_bays.proofs.real.RealBayBay.take.Goals as goal

pub returns-in-Some-clause-given : goal.returns-in-Some-clause-given
returns-in-Some-clause-given g c =
    shelf-at home_shown c.args.self.now.homes.items c.args.owner c.requires.owner _ _ c.index_mut.ensures.value
    ∙ ap (λ o. shown_at home_shown (Some o)) (sym c.in-Some.ensures.value) ∙ ap Some (sym c.disks_at.ensures)

pub returns-in-Some-clause-taken : goal.returns-in-Some-clause-taken
returns-in-Some-clause-taken g c =
    subst (λ x. Changes c.args.owner None (shelf_of home_shown c.args.self.now.homes.items)
    (shelf_of home_shown (set c.args.self.now.homes.items c.args.owner x)))
    (sym c.in-Some.ensures.after)
    (shelf-set home_shown c.args.self.now.homes.items c.args.owner c.requires.owner None)

pub returns-in-None-clause-cause : goal.returns-in-None-clause-cause
returns-in-None-clause-cause g c =
    absurd (not-away home_shown c.args.self.now.homes.items c.args.owner
    c.requires.owner _ _ c.index_mut.ensures.value (sym c.in-None.ensures.value) c.requires.home)
