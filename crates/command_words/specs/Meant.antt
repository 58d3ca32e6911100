-- What the code's command means.
use Rattle.command_words.specs.Command.{Command, check, init, run, audit, grant, gap, serve, gen, derive, judge}
use Rattle.command_words.specs.declared.words.Command.{Command as Words}
use Rattle.command_words.specs.declared.words.Command.TheVariants as words

abbrev pub command_meant : Words → Command
command_meant (words.Check catalog owner file) = check catalog.now owner.now file.now
command_meant (words.Init catalog key) = init catalog.now key.now
command_meant (words.Run catalog key workers) = run catalog.now key.now workers
command_meant (words.Audit catalog key) = audit catalog.now key.now
command_meant (words.Grant catalog key owner amount) = grant catalog.now key.now owner.now amount
command_meant (words.Gap catalog owner second_catalog file) = gap catalog.now owner.now second_catalog.now file.now
command_meant (words.Serve catalog key address port workers each) = serve catalog.now key.now address.now port workers each
command_meant (words.Gen seed asks workers) = gen seed asks workers
command_meant (words.Derive catalog owner file) = derive catalog.now owner.now file.now
command_meant (words.Judge catalog owner file derivation) = judge catalog.now owner.now file.now derivation.now
