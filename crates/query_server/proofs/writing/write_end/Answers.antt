use Rattle.std.proofs.Common.{◌≡◌, ◌∙◌, [], ap, rules, sym}
use Rattle.std.specs.Io.KnownBytes.{append_known}
use Rattle.query_server.specs.Ends.{text_at}
use Rattle.query_server.proofs.Prefixes.{nothing_put}
use Rattle.query_server.proofs.writing.write_end.Goals as goal

pub returns-in-Err-Fault-clause-ok : goal.returns-in-Err-Fault-clause-ok
returns-in-Err-Fault-clause-ok g c =
    let known = g.K.Sink.contents c.args.sink.now in
    let empty : text_at c.args.ended.now ≡ [] = search rules in
    nothing_put known ∙ ap (append_known known) (sym empty)
