use Rattle.std.proofs.Common.{subst}
use Rattle.derivation_lines.specs.Pending.{AreHeldPieces}
use Rattle.derivation_lines.proofs.Pending.{held_last, writes_on}
use Rattle.derivation_lines.proofs.write.put_type.Goals as goal

pub put_piece-requires-clause-held : goal.put_piece-requires-clause-held
put_piece-requires-clause-held c = (held_last c.args.types.now c.pop.new.self.items c.in-Some.piece (subst (AreHeldPieces c.args.types.now) c.in-Some.ensures.items c.loop-piece.invariant.held)).1

pub put_piece-requires-clause-left : goal.put_piece-requires-clause-left
put_piece-requires-clause-left c = (held_last c.args.types.now c.pop.new.self.items c.in-Some.piece (subst (AreHeldPieces c.args.types.now) c.in-Some.ensures.items c.loop-piece.invariant.held)).0

pub loop-piece-smaller : goal.loop-piece-smaller
loop-piece-smaller c = (writes_on c.args.types.now c.loop-piece.out.items c.put_piece.new.out.items _ c.pop.new.self.items c.put_piece.new.left.items c.loop-piece.left.items c.in-Some.piece c.in-Some.ensures.items c.loop-piece.invariant.same c.in_ok-put_piece.ensures).1

pub loop-piece-preserved : goal.loop-piece-preserved
loop-piece-preserved c = record {
  same = (writes_on c.args.types.now c.loop-piece.out.items c.put_piece.new.out.items _ c.pop.new.self.items c.put_piece.new.left.items c.loop-piece.left.items c.in-Some.piece c.in-Some.ensures.items c.loop-piece.invariant.same c.in_ok-put_piece.ensures).0;
  held = c.in_ok-put_piece.ensures.held;
}
