-- Keys to look for texts in.
use Rattle.std.specs.Prelude.{◌≡◌, ◌<◌, ◌^◌, ℕ, List, [], length}
use Rattle.std.specs.Borrow.{Bor}
use Rattle.std.proofs.Common.{get_or}
use Rattle.table_store.specs.Groups.{texts_of}
use Rattle.table_store.specs.declared.grouping.Lookup.{Lookup}

-- how many guesses there are
abbrev pub places : ℕ
places = 2 ^ 15

-- the key of a number is this text
abbrev pub IsKey : (number : ℕ) (text : List ℕ) (keys : List (List ℕ)) → Type 0
IsKey number text keys = (number < length keys) × (get_or keys number [] ≡ text)

-- Keys, their copies, and as many guesses as there are places. What is guessed doesn't matter, since each guess is tried.
pub record IsLookup (keys : List (Bor (List ℕ))) (lookup : Lookup) : Type 0 where
  pub numbered : lookup.numbered.keys ≡ keys
  pub copies : lookup.texts ≡ texts_of keys
  pub places_are : length lookup.guesses.items ≡ places
