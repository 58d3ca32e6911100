-- What is left to prove of env::place.
use Rattle.std.proofs.Common.{◌≡◌, false, true, sym, add-one, ◌∙◌, get_or}
use Rattle.std.specs.Prelude.{bytes_eq}
use Rattle.fz_ast.specs.Names.{name_of}
use Rattle.linear_types.proofs.Entries.{absent_take, place_at}
use Rattle.linear_types.proofs.env.place.Goals as goal

pub loop-i-preserved : goal.loop-i-preserved
loop-i-preserved c =
    let h : bytes_eq (name_of (get_or c.args.entries.now c.loop-i.i c.index-entries-i.result).name) c.args.name.now ≡ false = rw (← c.as_bytes.ensures) (sym c.eq.ensures ∙ c.if-eq.false) in
    rw add-one (absent_take c.args.name.now c.args.entries.now c.loop-i.i c.index-entries-i.result c.loop-i-test.true h c.loop-i.invariant)

pub returns-then-eq : goal.returns-then-eq
returns-then-eq c =
    let h : bytes_eq (name_of (get_or c.args.entries.now c.loop-i.i c.index-entries-i.result).name) c.args.name.now ≡ true = rw (← c.as_bytes.ensures) (sym c.eq.ensures ∙ c.if-eq.true) in
    place_at c.args.entries.now c.args.name.now c.loop-i.i c.index-entries-i.result c.loop-i-test.true h
