-- The command of words, by whether their parse has a fault.
use Rattle.std.proofs.Common.{◌≡◌, ◌∙◌, ap, subst, true, List, [], ◌∷◌, ℕ, None, refl}
use Rattle.std.specs.Prelude.{◌≢◌}
use mathlib.Core.Logic.{inl, inr}
use Rattle.clap.specs.Words.{App, HasMatchesOf, fault_of, is_simple_and_free, kind_of, subcommand_of, subcommand_rows_of}
use Rattle.clap.specs.Kinds.{HasKind, Kinds}
use Rattle.clap.specs.declared.error.Error.{Error}
use Rattle.clap.specs.declared.error.kind.ErrorKind.{ErrorKind}
use Rattle.clap.specs.declared.error.kind.ErrorKind.TheVariants.{OutOfMemory}
use Rattle.clap.specs.declared.parser.matches.ArgMatches.{ArgMatches}
use Rattle.command_words.specs.Program.{program_app}
use Rattle.command_words.specs.Command.{command_met, command_of, unless_fault}

pub command_taken : (words : List (List ℕ)) → fault_of program_app words ≡ [] → command_of words ≡ command_met (subcommand_of program_app words)
unfolding command_of
command_taken words e = ap (λ (k : Kinds). unless_fault k (command_met (subcommand_of program_app words))) e

pub command_refused : (words : List (List ℕ)) → fault_of program_app words ≢ [] → command_of words ≡ None
unfolding command_of
command_refused words h = go (fault_of program_app words) h
  where
    go : (k : Kinds) → k ≢ [] → unless_fault k (command_met (subcommand_of program_app words)) ≡ None
    go [] h = absurd (h refl)
    go (x ∷ xs) h = refl

-- what clap says of a command that is the program's
module _ (app : App) (words : List (List ℕ)) (is : app ≡ program_app) where
  pub taken_by : (is_simple_and_free app ≡ true → fault_of app words ≡ []) → fault_of program_app words ≡ []
  taken_by says = subst (λ (a : App). is_simple_and_free a ≡ true → fault_of a words ≡ []) is says refl

  pub found_by : (m : ArgMatches) → HasMatchesOf app words m → subcommand_rows_of m ≡ subcommand_of program_app words
  found_by m says = (subst (λ (a : App). HasMatchesOf a words m) is says refl).1

  pub refused_by : (e : Error) (k : ErrorKind) → (is_simple_and_free app ≡ true → HasKind (fault_of app words) e) → k ≡ kind_of e → (k ≡ OutOfMemory → ⊥)
      → fault_of program_app words ≡ [] → ⊥
  refused_by e k says same other none =
      here (subst (λ (ks : Kinds). HasKind ks e) none (subst (λ (a : App). is_simple_and_free a ≡ true → HasKind (fault_of a words) e) is says refl))
    where
      here : HasKind [] e → ⊥
      here (inl memory) = other (same ∙ memory)
      here (inr among) = among
