-- disks that are as they were, where work is stopped
use Rattle.std.proofs.Common.{refl}
use mathlib.Core.Logic.{inl}
use Rattle.owner_books.specs.Shelves.{Shelf}
use Rattle.owner_books.proofs.Disks.{became_same, one_same, synced_same}
use Rattle.query_server.specs.Work.{Work, to_answer, to_make, to_count, to_grant, to_serve}
use Rattle.query_server.specs.Due.{MayStop}

pub may_stop_same : (ending : Work) (shelf : Shelf) → MayStop ending shelf shelf
may_stop_same (to_answer workers loading key) shelf = became_same _ shelf
may_stop_same (to_make loading key) shelf = inl (λ n. refl)
may_stop_same (to_count loading key) shelf = became_same _ shelf
may_stop_same (to_serve workers each loading key) shelf = inl (became_same _ shelf)
may_stop_same (to_grant amount one) shelf = inl (one_same _ _ shelf (λ before. synced_same before))
may_stop_same work shelf = λ n. refl
