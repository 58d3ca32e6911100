use Rattle.std.proofs.Common.{◌∙◌, codes}
use Rattle.std.specs.Prelude.{bytes_eq, string_bytes}
use Rattle.command_words.proofs.Tests.{any-map}
use Rattle.command_words.proofs.mirror.is_mirrored.Goals as goal

pub returns : goal.returns
returns c = c.has_word.ensures ∙ any-map string_bytes (λ word. bytes_eq word (codes "--mirror")) c.args.words.now
