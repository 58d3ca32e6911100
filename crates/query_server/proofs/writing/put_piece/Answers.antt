use Rattle.std.proofs.Common.{take}
use Rattle.query_server.proofs.Prefixes.{prefix_take, on_err}
use Rattle.query_server.proofs.writing.put_piece.Goals as goal

pub returns-clause-err : goal.returns-clause-err
returns-clause-err g c =
    on_err c.put.result _ _ (λ (n, within, is). (take n c.args.piece.now, prefix_take n c.args.piece.now, is)) c.put.ensures.err
