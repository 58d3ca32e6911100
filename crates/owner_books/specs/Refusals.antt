-- The lines of owners whose journal is refused, or whose disk failed.
use Rattle.std.specs.Prelude.{ℕ, List, ◌++◌, codes, decimal}
use Rattle.owner_books.specs.declared.refusals.JournalRefusal.{JournalRefusal}
use Rattle.owner_books.specs.declared.refusals.JournalRefusal.TheVariants.{Uninitialised, Changed, Damaged, Exists, Forked}

-- why an owner's journal is refused
abbrev pub refusal_text : JournalRefusal → List ℕ
refusal_text (Uninitialised n) = codes "uninitialised " ++ decimal n
refusal_text Changed = codes "changed"
refusal_text (Damaged slot) = codes "damaged " ++ decimal slot
refusal_text (Exists n) = codes "exists " ++ decimal n
refusal_text (Forked slot) = codes "forked " ++ decimal slot

abbrev pub journal_text : (owner : List ℕ) → JournalRefusal → List ℕ
journal_text owner refusal = codes "journal " ++ owner ++ codes " " ++ refusal_text refusal ++ codes "\n"

abbrev pub disk_text : (owner : List ℕ) → List ℕ
disk_text owner = codes "disk " ++ owner ++ codes "\n"
