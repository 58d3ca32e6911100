use Rattle.std.proofs.Common.{◌≡◌, ◌∙◌, ℕ, List, Option, Some, None, refl, ap}
use Rattle.std.specs.Prelude.{option_and_then}
use Rattle.clap.specs.Words.{found_of, one_text}
use Rattle.clap.proofs.WalkLemmas.{one_text-rows}
use Rattle.command_words.specs.Command.{number_written}
use Rattle.command_words.proofs.Numbers.{number_read}
use Rattle.command_words.proofs.words.number_found.Goals as goal

pub returns : goal.returns
returns c =
    let go : (o : Option (List ℕ)) → one_text (found_of c.args.found.now) c.args.name.now ≡ o → c.get_one.result ≡ option_and_then number_written o =
    λ o is. elim o as (λ w. one_text (found_of c.args.found.now) c.args.name.now ≡ w → c.get_one.result ≡ option_and_then number_written w) [
      | None ↦ λ is. c.get_one.ensures.none is
      | Some t ↦ λ is. number_read 32 t c.get_one.result (c.get_one.ensures.value t is)
    ] is in
    go _ refl ∙ ap (option_and_then number_written) (one_text-rows (found_of c.args.found.now) c.args.name.now)
