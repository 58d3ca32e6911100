use Rattle.std.proofs.Common.{◌≡◌, false, true, sym, add-one, ◌∙◌, get_or}
use Rattle.std.specs.Prelude.{bytes_eq}
use Rattle.fz_ast.specs.Names.{name_of}
use Rattle.sensitivity_check.proofs.Scopes.{unbound_take, innermost_at}
use Rattle.sensitivity_check.proofs.scope.place_of.Goals as goal

pub returns-then-eq-clause-is : goal.returns-then-eq-clause-is
returns-then-eq-clause-is c =
    let h : bytes_eq (name_of (get_or c.args.scope.now c.loop-i.i c.index-scope-i.result).name) (name_of c.args.name.now) ≡ true = rw (← c.as_bytes.ensures, ← c.as_bytes-in-loop-i.ensures) (sym c.eq.ensures ∙ c.if-eq.true) in
    innermost_at (name_of c.args.name.now) c.args.scope.now c.loop-i.i c.index-scope-i.result c.loop-i-test.true h c.loop-i.invariant

pub loop-i-preserved : goal.loop-i-preserved
loop-i-preserved c =
    let h : bytes_eq (name_of (get_or c.args.scope.now c.loop-i.i c.index-scope-i.result).name) (name_of c.args.name.now) ≡ false = rw (← c.as_bytes.ensures, ← c.as_bytes-in-loop-i.ensures) (sym c.eq.ensures ∙ c.if-eq.false) in
    rw add-one (unbound_take (name_of c.args.name.now) c.args.scope.now c.loop-i.i c.index-scope-i.result c.loop-i-test.true h c.loop-i.invariant)
