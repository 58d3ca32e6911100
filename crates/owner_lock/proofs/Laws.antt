-- What the rule says of all seats: each entry that was added under the lock is the own one of just one of them.
use Rattle.std.proofs.Common.{◌≡◌, ℕ, ◌≤◌, length, sym, ap, ◌∙◌, subst, arith, Some, slice_get}
use mathlib.Core.Option.{some, some-injective}
use mathlib.Core.List.{IsPrefix}
use lib.ListN.{get_elem?}
use Rattle.atomic_table.specs.Table.{State}
use Rattle.owner_lock.specs.declared.stands.StandsFor.{Ghosts}
use Rattle.owner_lock.specs.declared.view.View.{View}
use Rattle.owner_lock.specs.Entries.{Has}
use Rattle.owner_lock.specs.History.{OneHistory, own_of}
use Rattle.owner_lock.proofs.Lists.{some_at}
use Rattle.owner_lock.proofs.Logs.{below_at, later_at, later_back, own_back, own_there}

module _ {T E F : Type 0} (k : Ghosts T E F) (s : State T (View E F)) (h : OneHistory k s) where
  -- What a seat has seen is a beginning of the history.
  pub seen_begins : (j : ℕ) (v : View E F) → get_elem? s.views j ≡ some v → IsPrefix v.seen h.history
  seen_begins j v at = (h.each j v at).seen

  -- Its own entries stand there at their positions, behind the base.
  pub own_stand : (j : ℕ) (v : View E F) (p : ℕ) (e : E) → get_elem? s.views j ≡ some v → Has (p, e) v.own
      → (length h.base ≤ p) × (slice_get h.history p ≡ Some e)
  own_stand j v p e at has =
      let r = own_there j (length h.base) p e h.log (subst (Has (p, e)) (h.each j v at).own has) in
      let place = r.1 in
      (omega arith, subst (λ xs. slice_get xs p ≡ Some e) (sym h.made) (later_at h.base h.log p r.0 (j, e) place r.2))

  -- Each entry behind the base is some seat's own.
  pub someones : (p : ℕ) (e : E) → length h.base ≤ p → slice_get h.history p ≡ Some e
      → (j : ℕ) × (v : View E F) × (get_elem? s.views j ≡ some v) × Has (p, e) v.own
  someones p e behind at =
      let b = later_back h.base h.log p e behind (subst (λ xs. slice_get xs p ≡ Some e) h.made at) in
      let u = some_at s.views b.1 (below_at (length s.views) b.0 (b.1, e) h.log h.seats b.3) in
      let there : Has (p, e) (own_of b.1 (length h.base) h.log) =
      subst (λ (q : ℕ). Has (q, e) (own_of b.1 (length h.base) h.log)) (sym b.2) (own_back b.1 (length h.base) b.0 e h.log b.3) in
      (b.1, u.0, u.1, subst (Has (p, e)) (sym (h.each b.1 u.0 u.1).own) there)

  -- No position is in two seats' own.
  pub one_seat_s : (i j : ℕ) (v w : View E F) (p : ℕ) (d e : E) → get_elem? s.views i ≡ some v → get_elem? s.views j ≡ some w → Has (p, d) v.own
      → Has (p, e) w.own → i ≡ j
  one_seat_s i j v w p d e at there one other =
      let a = own_there i (length h.base) p d h.log (subst (Has (p, d)) (h.each i v at).own one) in
      let b = own_there j (length h.base) p e h.log (subst (Has (p, e)) (h.each j w there).own other) in
      let place = a.1 in
      let place' = b.1 in
      let same : a.0 ≡ b.0 = omega arith in
      ap (λ (z : ℕ × E). z.0) (some-injective (i, d) (j, e) (sym a.2 ∙ (ap (get_elem? h.log) same ∙ b.2)))
