use Rattle.std.proofs.Common.{rules, ◌∷◌, refl, ap, sym, ◌∙◌, subst}
use Rattle.atomic_table.specs.Table.{rest}
use Rattle.owner_lock.specs.Views.{MayEnd}
use Rattle.owner_lock.proofs.Keeps.{frees, held_state}
use Rattle.owner_lock.proofs.lock.Owned.finish.Goals as goal

pub fetch_add-word-requires : goal.fetch_add-word-requires
fetch_add-word-requires g c =
    let k = g.T.StandsFor in
    let y = c.slot_mut-state.result.now in
    let w = c.mark.new.seat.me.0 in
    let none_left = ap rest c.requires.held.1 in
    let same = held_state k _ _ (sym c.requires.held.1 ∙ (c.slot_mut-state.ensures.value ∙ ap (λ cs. (0, y) ∷ cs) none_left)) in
    let slot = c.mark.ensures.same ∙ ap (λ cs. (0, y) ∷ cs) none_left in (
      search rules,
      search rules,
      frees k _ _ _ c.args.seat.now.me.0 w y _ (ap (λ cs. (w, cs)) slot) c.requires.turn (c.to_free-added.ensures ∙ rw c.is_shut-shut.ensures refl)
          (subst (MayEnd k c.args.seat.now.me.0) same c.requires.held.2) (c.mark.ensures.marked y (ap (λ cs. (0, y) ∷ cs) none_left)),
    )
