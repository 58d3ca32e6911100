use Rattle.std.proofs.Common.{get_or}
use Rattle.derivation_lines.specs.Held.{line_in}
use Rattle.derivation_rows.specs.Scoped.{context_in}
use Rattle.derivation_rows.specs.Viewed.{lines_seen}
use Rattle.derivation_rows.proofs.Amounts.{line_of}
use Rattle.fz_derive.proofs.Fine.{named, not_named, not_typed}
use Rattle.fz_derive.proofs.walk.Walk.has.Goals as goal

pub returns-then-not-is : goal.returns-then-not-is
returns-then-not-is c = λ w h.
    let v = c.args.self.now.view in
    let T = v.arena.now in
    let l = c.index-self-k.result in
    rw (line_of T v.lines.now c.args.k l c.requires.fits) (not_typed T (lines_seen v) (context_in T c.args.scope.now) c.args.row.now w (line_in T (get_or v.lines.now c.args.k l)) h c.if-not-is.ensures)

pub returns-then-not-are_in_scope : goal.returns-then-not-are_in_scope
returns-then-not-are_in_scope c = λ w h.
    let v = c.args.self.now.view in
    let T = v.arena.now in
    let l = c.index-self-k.result in
    rw (line_of T v.lines.now c.args.k l c.requires.fits) (not_named T (lines_seen v) (context_in T c.args.scope.now) c.args.row.now w (line_in T (get_or v.lines.now c.args.k l)) h c.if-not-is.ensures (rw c.deref.ensures.value at (c.if-not-are_in_scope.ensures T)))

pub returns : goal.returns
returns c = λ w h.
    let v = c.args.self.now.view in
    let T = v.arena.now in
    let l = c.index-self-k.result in
    rw (line_of T v.lines.now c.args.k l c.requires.fits) (named T (lines_seen v) (context_in T c.args.scope.now) c.args.row.now w (line_in T (get_or v.lines.now c.args.k l)) h c.suffices_at.result c.if-not-is.ensures (rw c.deref.ensures.value at (c.if-not-are_in_scope.ensures T)) (c.suffices_at.ensures T T))
