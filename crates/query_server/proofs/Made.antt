-- An `init` that stops where a journal isn't made.
use Rattle.std.proofs.Common.{List, ℕ, refl}
use Rattle.std.specs.Prelude.{Err}
use mathlib.Core.Logic.{inl, inr}
use Rattle.catalog_loading.specs.Loaded.{Loading}
use Rattle.catalog_loading.specs.declared.stops.Stop.{Stop}
use Rattle.catalog_loading.specs.declared.stops.Stop.TheVariants.{Journal, Disk, NoMemory}
use Rattle.owner_books.specs.Shelves.{Shelf}
use Rattle.owner_books.specs.Making.{IsMakeStop}
use Rattle.query_server.specs.Work.{to_make}
use Rattle.query_server.specs.Ends.{IsEndOf}

-- what stops the making ends an `init`
pub make_stop_end : (loading : Loading) (key : List ℕ) (old new : Shelf) (stop : Stop) (script : List ℕ) → IsMakeStop loading key old new stop
    → IsEndOf (to_make loading key) old new script (Err stop)
make_stop_end loading key old new (Journal line) script (o, n, within, some, long, text, made) =
    inl (inr (record { o = o; n = n; known = within; some = some; long = long; is_status = refl; is_text = text; disks = made }))
make_stop_end loading key old new (Disk line) script (o, within, text, made) =
    inr (inr (inr (line, refl, (o, within, text, made))), inr (o, within, made))
make_stop_end loading key old new NoMemory script made = inr (inr (inl refl), made)
make_stop_end loading key old new stop script is = absurd is
