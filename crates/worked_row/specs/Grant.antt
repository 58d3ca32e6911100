-- A grant of 5 epsilon to the row's owner.
use Rattle.std.specs.Prelude.{ℕ, List, [], ◌∷◌, codes, IfSome}
use Rattle.budget_journal.specs.Journals.{Stands}
use Rattle.journal_records.specs.declared.records.Record.{Record}
use Rattle.journal_records.specs.declared.records.Record.TheVariants.{Grant}
use Rattle.catalog_loading.specs.Loaded.{header_of}
use Rattle.query_server.specs.Shelves.{Shelf, bytes_on}
use Rattle.worked_row.specs.Held.{loading, zeros}

abbrev pub grant_words : List (List ℕ)
grant_words = codes "grant" ∷ codes "cat.json" ∷ codes "key" ∷ codes "census" ∷ codes "5000000" ∷ []

-- the budget with it, and how many records there are
abbrev pub granted_text : List ℕ
granted_text = codes "granted census 15000000 1\n"

-- the journal's one record: the first grant, of so much
abbrev pub the_grant : Record
the_grant = Grant (record { number = 0; amount = 5000000 })

-- the journal's bytes stand for it and nothing else, where the disk tells them
abbrev pub IsGranted : Shelf → Type 0
IsGranted shelf = IfSome (bytes_on shelf 0) (Stands (header_of loading zeros 0) (the_grant ∷ []))
