use Rattle.std.proofs.Common.{ℕ, ◌+◌, ◌-◌, ◌<◌, List, arith, length, take, drop, subst, ap, length-drop, length-append}
use Rattle.fz_lexer.specs.declared.token.Token.{Token}
use Rattle.std.specs.Prelude.{None, Some}
use Rattle.fz_lexer.specs.Prefixes.{IsTokenPrefix}
use Rattle.fz_lexer.proofs.Prefixes.{tail_all}
use Rattle.fz_lexer.proofs.Cuts.{cut_start, cut_on, cut_whole}
use Rattle.fz_lexer.proofs.lexer.cut.Goals as goal

pub loop-place-init : goal.loop-place-init
loop-place-init c = rw c.new-tokens.ensures.items (record {
  within = c.run-place.ensures.within;
  count = omega arith;
  cut = cut_start c.args.bytes.now c.run-place.result c.run-place.ensures.within c.run-place.ensures.each c.run-place.ensures.stops;
})

pub returns-in-None-clause-fault : goal.returns-in-None-clause-fault
returns-in-None-clause-fault c =
    let R : List ℕ = drop c.loop-place.place c.args.bytes.now in
    let l : 0 < length (drop c.loop-place.place c.args.bytes.now) = omega (arith, length-drop c.loop-place.place c.args.bytes.now) in
    let n : IsTokenPrefix (drop c.loop-place.place c.args.bytes.now) None =
    subst (λ x. IsTokenPrefix x None) (tail_all c.args.bytes.now c.loop-place.place) (subst (IsTokenPrefix _) c.in-None.is c.in_ok-token_prefix.ensures) in
    (c.loop-place.tokens.items, R, c.loop-place.invariant.cut, c.loop-place.invariant.count, l, n)

pub loop-place-preserved : goal.loop-place-preserved
loop-place-preserved c =
    let f : IsTokenPrefix (take (length c.args.bytes.now - c.loop-place.place) (drop c.loop-place.place c.args.bytes.now)) (Some c.in-Some.found) = subst (IsTokenPrefix _) c.in-Some.is c.in_ok-token_prefix.ensures in
    let x = cut_on c.loop-place.tokens.items c.add.new.tokens.items c.args.bytes.now c.in-Some.found c.loop-place.place c.run.result _ _
    (tail_all c.args.bytes.now c.loop-place.place) (tail_all c.args.bytes.now (c.loop-place.place + c.in-Some.found.len)) c.loop-place.invariant.within c.loop-place.invariant.cut
    f c.run.ensures.within c.run.ensures.each c.run.ensures.stops c.in_ok-add-in-Some.ensures in
    record { within = x.0; count = omega (arith, ap length c.in_ok-add-in-Some.ensures, length-append {A = Token}); cut = x.1 }

pub returns-clause-tokens : goal.returns-clause-tokens
returns-clause-tokens c = cut_whole c.loop-place.tokens.items c.args.bytes.now c.loop-place.place (omega arith) c.loop-place.invariant.cut
