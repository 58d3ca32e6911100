use Rattle.std.proofs.Common.{sym, subst, arith}
use Rattle.owner_desk.specs.Passes.{Pass}
use Rattle.session_laws.specs.SessionCore.Code.{IsClosedWith}
use Rattle.generated_run.proofs.Closing.{many_passes, only_pass, own_desk, own_knows, own_share}
use Rattle.generated_run.proofs.run.close.Goals as goal

pub unreachable-requires : goal.unreachable-requires
unreachable-requires g c = omega (arith, c.requires.one, c.in_default.ensures.cases)

pub unreachable-requires-in_default-pop : goal.unreachable-requires-in_default-pop
unreachable-requires-in_default-pop g c =
    omega (arith, many_passes c.into_vec-each.result.items c.args.passes c.args.desks.items c.into_vec-each.ensures c.requires.here c.requires.one, c.in_default-pop.ensures.cases)

pub close-requires-clause-here : goal.close-requires-clause-here
close-requires-clause-here g c =
    let only = only_pass _ _ c.in-Some-pop.pass c.args.passes c.args.desks.items c.in-Some-pop.ensures.items c.into_vec-each.ensures c.requires.here c.requires.one in
    own_desk c.args.passes c.in-Some-pop.pass c.args.desks.items _ _ only c.requires.here c.in-Some.ensures.items

pub close-requires-clause-whole : goal.close-requires-clause-whole
close-requires-clause-whole g c =
    own_share c.args.passes c.in-Some-pop.pass (only_pass _ _ c.in-Some-pop.pass c.args.passes c.args.desks.items c.in-Some-pop.ensures.items c.into_vec-each.ensures c.requires.here c.requires.one)
    c.requires.whole

pub returns : goal.returns
returns g c =
    let only = only_pass _ _ c.in-Some-pop.pass c.args.passes c.args.desks.items c.in-Some-pop.ensures.items c.into_vec-each.ensures c.requires.here c.requires.one in
    record {
      closed = subst (λ (p : Pass). IsClosedWith p c.close.result.ledger.records c.close.result.storage.closed) (sym (own_knows c.args.passes c.in-Some-pop.pass only))
          (record { all = c.close.ensures.records; later = c.close.ensures.later; faults = c.close.ensures.closed; failure = c.close.ensures.failure });
    }
