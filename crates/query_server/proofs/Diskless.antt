-- commands that take no disk don't end with the line of one
use Rattle.std.proofs.Common.{◌≡◌, ℕ, List, Option, refl, sym, ◌∙◌, subst, arith}
use Rattle.std.specs.Prelude.{Vec, Ok, Err}
use Rattle.std.specs.declared.alloc.Global.{Global}
use mathlib.Core.Logic.{◌⊎◌, inl, inr}
use Rattle.catalog_loading.specs.Files.{Contents}
use Rattle.command_words.specs.Command.{Command}
use Rattle.query_server.specs.Work.{Work, ended}
use Rattle.owner_books.specs.Shelves.{Shelf}
use Rattle.query_server.specs.Due.{ForContents, IsDiskLine, IsOfDisks, command_steps}
use Rattle.query_server.specs.Ends.{Ended, IsCut, IsEndOf, IsEndingWith, IsStepEnd, status_at, text_at}
use Rattle.query_server.specs.declared.end.Status.{Status}
use Rattle.query_server.specs.declared.end.Status.TheVariants as code
use Rattle.query_server.specs.declared.end.End.TheVariants.{Done}
use Rattle.catalog_loading.specs.declared.stops.Stop.TheVariants.{Disk}
use Rattle.query_server.proofs.Endings.{ComesTo, answers, comes_to, counts, grants, makes, serves}
use Rattle.query_server.proofs.Outcomes.{due_status}

-- An end that names no disk: of a `check` and of a `gap`.
no_line : (ending : Work) (b a : Shelf) (line : Vec ℕ Global) → ((text : List ℕ) → IsDiskLine ending b a text → ⊥) → IsCut ending b a (Err (Disk line)) → ⊥
no_line ending b a line none (inl is) = cc
no_line ending b a line none (inr (inl is)) = cc
no_line ending b a line none (inr (inr (other, is, names))) = none other.items names

no_disk : (command : Option Command) (work : Work) (b a : Shelf) (script : List ℕ) (line : Vec ℕ Global) → ComesTo command work → (IsOfDisks command → ⊥) → IsEndOf work b a script (Err (Disk line)) → ⊥
no_disk command work b a script line answers diskless due = diskless refl
no_disk command work b a script line makes diskless due = diskless refl
no_disk command work b a script line counts diskless due = diskless refl
no_disk command work b a script line serves diskless due = diskless refl
no_disk command work b a script line grants diskless due = diskless refl
no_disk command work b a script line other diskless (inr (cut, may)) = no_line work b a line (λ text names. names) cut
no_disk command work b a script line other diskless (inl due) = let is = due_status work b a script code.DiskFault line.items due in absurd (grind (arith, is))

pub command_no_disk : (command : Option Command) (held : Option Contents) (left : Option (List ℕ)) (old new : List (List ℕ)) (b a : Shelf) (end : Ended) (line : Vec ℕ Global)
    → (IsOfDisks command → ⊥) → end ≡ Err (Disk line) → ForContents held left (IsStepEnd old new b a (command_steps command) end) → ⊥
command_no_disk command held left old new b a end line diskless is (reads, script, told, of, (due, read)) =
    no_disk command _ b a script line (comes_to command reads) diskless (subst (IsEndOf (ended (command_steps command reads).given) b a script) is due)

-- The status of a disk's line comes of one.
disk_end : (end : Ended) → status_at end ≡ code.DiskFault → (line : Vec ℕ Global) × (end ≡ Err (Disk line))
disk_end (Err (Disk line)) is = (line, refl)
disk_end (Ok (Done lines)) is = cc
disk_end end is = cc

pub disk_status : (end : Ended) (status : Status) (text : List ℕ) → IsEndingWith end status text → status ≡ code.DiskFault → (line : Vec ℕ Global) × (end ≡ Err (Disk line))
disk_status end status text with is = here with.whole
  where
    here : ((status ≡ status_at end) × (text ≡ text_at end)) ⊎ (status ≡ code.Fault) → (line : Vec ℕ Global) × (end ≡ Err (Disk line))
    here (inl (same, whole)) = disk_end end (sym same ∙ is)
    here (inr fault) = let wrong : code.Fault ≡ code.DiskFault = sym fault ∙ is in cc
