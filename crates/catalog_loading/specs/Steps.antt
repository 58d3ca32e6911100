-- Files are read in steps, of which the first that refuses a name ends the work.
use Rattle.std.specs.Prelude.{ℕ, suc, List, [], ◌∷◌, ◌++◌, Result, Ok, Err, ok_or}
use Rattle.catalog_loading.specs.Files.{ReadsToCome, readable}

-- What comes of a step: what it gives, or the name that it refuses; the names of the files that it read, in order; and the reads
-- to come.
pub record StepOutcome (A : Type 0) : Type 0 where
  pub given : Result A (List ℕ)
  pub names : List (List ℕ)
  pub rest : ReadsToCome

-- a step, by what files hold from its first read on
abbrev pub FileStep : Type 0 → Type 0
FileStep A = ReadsToCome → StepOutcome A

-- a step that reads nothing
abbrev pub from : {A : Type 0} → Result A (List ℕ) → FileStep A
from given reads = record { given = given; names = []; rest = reads }

abbrev pub done : {A : Type 0} → A → FileStep A
done a = from (Ok a)

-- a read of the file of this name, which is there and not too long
abbrev pub file_read : (name : List ℕ) → FileStep (List ℕ)
file_read name reads = record { given = ok_or (readable (reads 0 name)) name; names = name ∷ []; rest = λ n. reads (suc n) }

-- one step and then another
abbrev pub behind : {A : Type 0} → List (List ℕ) → StepOutcome A → StepOutcome A
behind names o = record { given = o.given; names = names ++ o.names; rest = o.rest }

abbrev pub continued : {A B : Type 0} → Result A (List ℕ) → (names : List (List ℕ)) → ReadsToCome → (A → FileStep B) → StepOutcome B
continued (Ok a) names rest next = behind names (next a rest)
continued (Err name) names rest next = record { given = Err name; names = names; rest = rest }

infixl 10 ◌>>=◌
unfoldable pub ◌>>=◌ : {A B : Type 0} → FileStep A → (A → FileStep B) → FileStep B
step >>= next = λ reads. continued (step reads).given (step reads).names (step reads).rest next

-- a step for each of a list, in order: what all of them give
unfoldable pub one_by_one : {A B : Type 0} → (A → FileStep B) → List A → FileStep (List B)
one_by_one step [] = done []
one_by_one step (x ∷ xs) = do
  y ← step x
  ys ← one_by_one step xs
  done (y ∷ ys)
