use Rattle.std.proofs.Common.{◌<◌, ◌-◌, arith, length, inl, inr, take, drop}
use Rattle.std.proofs.Common.{subst, sym, ◌+◌}
use Rattle.std.specs.Prelude.{Some}
use Rattle.fz_lexer.specs.declared.token.Kind.TheVariants.{Text}
use Rattle.fz_lexer.specs.Prefixes.{IsTokenPrefix}
use Rattle.fz_lexer.proofs.Prefixes.{text_found, text_over, tail_all}
use Rattle.fz_lexer.proofs.prefix.text.Goals as goal

pub returns-then-len-gt64 : goal.returns-then-len-gt64
returns-then-len-gt64 c = text_over c.args.bytes.now _ c.run-len.result c.requires.some c.requires.quote (tail_all c.args.bytes.now 1) c.run-len.ensures.within c.run-len.ensures.each c.run-len.ensures.stops (inl c.if-len-gt64.true)

pub returns-then-len-rest : goal.returns-then-len-rest
returns-then-len-rest c = text_over c.args.bytes.now _ c.run-len.result c.requires.some c.requires.quote (tail_all c.args.bytes.now 1) c.run-len.ensures.within c.run-len.ensures.each c.run-len.ensures.stops (inr (inl c.if-len-rest.true))

pub returns-then-rest-len-ne34 : goal.returns-then-rest-len-ne34
returns-then-rest-len-ne34 c = text_over c.args.bytes.now _ c.run-len.result c.requires.some c.requires.quote (tail_all c.args.bytes.now 1) c.run-len.ensures.within c.run-len.ensures.each c.run-len.ensures.stops (inr (inr c.if-rest-len-ne34.true))

pub returns : goal.returns
returns c =
    let e = tail_all c.args.bytes.now 1 in
    let l : c.run-len.result < length (take (length c.args.bytes.now - 1) (drop 1 c.args.bytes.now)) = omega arith in
    subst (λ x. IsTokenPrefix c.args.bytes.now (Some (record { kind = Text x; len = c.run-len.result + 2 }))) (sym c.in_ok-text.ensures)
    (text_found c.args.bytes.now _ c.run-len.result c.requires.some c.requires.quote e l c.run-len.ensures.each c.if-rest-len-ne34.false c.if-len-gt64.false)
