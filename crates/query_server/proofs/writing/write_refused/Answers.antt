use Rattle.std.proofs.Common.{◌∙◌, ◌++◌, List, ℕ, ap, subst}
use Rattle.std.specs.Prelude.{codes}
use Rattle.std.specs.Io.KnownBytes.{append_known}
use Rattle.fz_outside.proofs.Known.{append_known-++}
use Rattle.query_server.specs.Due.{IsBeginning}
use Rattle.query_server.proofs.Prefixes.{prefix_first, prefix_second, prefix_third, on_err, on_err_any}
use Rattle.query_server.proofs.writing.write_refused.Goals as goal

pub returns-in_err-put_piece-clause-err : goal.returns-in_err-put_piece-clause-err
returns-in_err-put_piece-clause-err g c =
    let e = c.in_err-put_piece.ensures.err in
    on_err_any c.from_residual.result _ (e.0, prefix_first e.0 (codes "refused ") c.args.name.now (codes "\n") e.1, e.2)

pub returns-in_err-put_piece-2-clause-err : goal.returns-in_err-put_piece-2-clause-err
returns-in_err-put_piece-2-clause-err g c =
    let e = c.in_err-put_piece-2.ensures.err in
    let old = g.K.Sink.contents c.args.sink.now in
    let prefix : IsBeginning e.0 c.args.name.now = subst (λ (line : List ℕ). IsBeginning e.0 line) c.as_bytes.ensures.value e.1 in
    on_err_any c.from_residual-in_err-put_piece-2.result _ (
      codes "refused " ++ e.0,
      prefix_second e.0 (codes "refused ") c.args.name.now (codes "\n") prefix,
      e.2 ∙ ap (λ known. append_known known e.0) c.in_ok-put_piece.ensures.ok ∙ append_known-++ old (codes "refused ") e.0,
    )

pub returns-clause-err : goal.returns-clause-err
returns-clause-err g c =
    let old = g.K.Sink.contents c.args.sink.now in
    let name = c.args.name.now in
    let written = c.in_ok-put_piece-2.ensures.ok ∙ ap (λ known. append_known known c.as_bytes.result.now) c.in_ok-put_piece.ensures.ok
    ∙ ap (λ line. append_known (append_known old (codes "refused ")) line) c.as_bytes.ensures.value ∙ append_known-++ old (codes "refused ") name in
    on_err c.put_piece-3.result _ _
    (λ (text, prefix, is). (
      codes "refused " ++ name ++ text,
      prefix_third text (codes "refused ") name (codes "\n") prefix,
      is ∙ ap (λ known. append_known known text) written ∙ append_known-++ old (codes "refused " ++ name) text,
    ))
    c.put_piece-3.ensures.err
