-- what a command comes to by what it read
use Rattle.std.proofs.Common.{◌≡◌, ◌≤◌, ℕ, Bool, cond, true, false, List, length, nat_le, Option, Some, None, refl, sym, subst}
use Rattle.std.specs.Prelude.{◌^◌, Result, Ok, Err, IsErrAnd, ok_or}
use Rattle.std.proofs.lemmas.Bool.{leb-true}
use Rattle.fz_ast.specs.Signature.{Signature}
use Rattle.owner_catalog.specs.Entries.{Catalog, owner_entry_at, owner_signature}
use Rattle.owner_house.specs.Names.{AreNames}
use Rattle.catalog_loading.specs.Files.{Contents, readable}
use Rattle.catalog_loading.specs.Steps.{FileStep, file_read}
use Rattle.catalog_loading.specs.Loaded.{catalog_read}
use Rattle.catalog_loading.specs.Given.{IsOwnerAt, IsStopAt}
use Rattle.catalog_loading.specs.declared.stops.Stop.{Stop}
use Rattle.catalog_loading.proofs.Fits.{opened_lawful}
use Rattle.catalog_loading.proofs.Loaded.{names_of}
use Rattle.catalog_loading.proofs.Reached.{IsDone, IsStopped, any_reads}
use Rattle.derivation_lines.specs.Written.{longest}
use Rattle.derivation_commands.specs.Task.{Subject, Task}
use Rattle.derivation_commands.specs.Outcome.{IsOutcomeOf}
use Rattle.derivation_commands.specs.Held.{outcome_of}
use Rattle.derivation_commands.specs.Ends.{EndsSo}
use Rattle.derivation_commands.specs.declared.ending.Ending.{Ending}

-- What stops the steps ends the command.
pub stopped_so : (held : Option Contents) (old new : List (List ℕ)) (steps : FileStep Task) (stop : Stop) (result : Result Ending Stop)
    → IsStopped held old new steps stop → IsErrAnd result (λ e. e ≡ stop) → EndsSo held old new steps result
stopped_so held old new steps stop (Ok ending) is wrong = absurd wrong
stopped_so held old new steps stop (Err other) is same =
    let some = any_reads held in
    let one = is some.0 some.1 in
    (one.0, one.1, subst (IsStopAt (steps one.0) old new) (sym same) one.2)

-- So does the outcome of the task that they give.
pub done_so : (held : Option Contents) (old new : List (List ℕ)) (steps : FileStep Task) (task : Task) (ending : Ending)
    → IsDone held old new steps task → IsOutcomeOf task (outcome_of ending) → EndsSo held old new steps (Ok ending)
done_so held old new steps task ending is due =
    let some = any_reads held in
    let one = is some.0 some.1 in
    (one.0, one.1, (task, one.2.given, one.2.names, due))

-- what was read, by the tables that the code made
pub with_tables : (held : Option Contents) (old new : List (List ℕ)) (steps : FileStep Subject) (tables made : Signature) (program : List ℕ)
    → IsDone held old new steps (record { tables = tables; program = program }) → made ≡ tables
    → IsDone held old new steps (record { tables = made; program = program })
with_tables held old new steps tables made program is same =
    subst (λ (ts : Signature). IsDone held old new steps (record { tables = ts; program = program })) (sym same) is

-- A file that was read is no longer than a derivation may be.
short_of : (found : Option (List ℕ)) (name bytes : List ℕ) → ok_or (readable found) name ≡ Ok bytes → length bytes ≤ longest
short_of None name bytes is = cc is
short_of (Some text) name bytes is = go (nat_le (length text) (2 ^ 26)) refl is
  where
    go : (b : Bool) → nat_le (length text) (2 ^ 26) ≡ b → ok_or (cond b (Some text) None) name ≡ Ok bytes → length bytes ≤ longest
    go true e given = let same : text ≡ bytes = cc given in subst (λ (w : List ℕ). length w ≤ longest) same (leb-true _ _ e)
    go false e given = cc given

pub file_short : (held : Option Contents) (old new : List (List ℕ)) (name bytes : List ℕ) → IsDone held old new (file_read name) bytes → length bytes ≤ longest
file_short held old new name bytes is =
    let some = any_reads held in
    let one = is some.0 some.1 in
    short_of (one.0 0 name) name bytes one.2.given

-- the names of the tables of an owner of a catalog that was opened can be said in a reply
pub owner_names : (held : Option Contents) (old new : List (List ℕ)) (name owner : List ℕ) (house : Catalog) (o : ℕ)
    → IsDone held old new (catalog_read name) house → IsOwnerAt house owner o → AreNames (owner_signature (owner_entry_at house o))
owner_names held old new name owner house o is at =
    names_of (owner_entry_at house o).tables ((opened_lawful held old new name house is).owners o _ at.within).tables
