use Rattle.std.proofs.Common.{◌≡◌, ◌∙◌, ap, sym, subst, arith}
use Rattle.word_streams.specs.Draws.{draws_of}
use Rattle.std.specs.List.{All}
use Rattle.owner_lock.specs.Known.{whole_share}
use Rattle.owner_house.specs.House.{house_of}
use Rattle.session_laws.specs.SessionCore.Bundles.{Bundle}
use Rattle.generated_run.proofs.Closing.{answered_over, are_fresh, are_passes, is_first, one_whole, worked_as}
use Rattle.generated_run.proofs.run.answer.Goals as goal

pub answer_script-requires-clause-here : goal.answer_script-requires-clause-here
answer_script-requires-clause-here g c κs _ =
    ap (λ (b : Bundle). b.locks) (is_first _ _ _ _ _ c.in_ok-first.ensures.items c.new-passes.ensures c.in-Ok.ensures.pass) ∙ sym c.in_ok-desks.ensures.items ∙ sym c.deref.ensures.value

pub answer_script-requires-clause-passes : goal.answer_script-requires-clause-passes
answer_script-requires-clause-passes g c κs _ =
    are_passes (house_of c.args.house.now) _ c.args.book (ap (λ (b : Bundle). b.knows) (is_first _ _ _ _ _ c.in_ok-first.ensures.items c.new-passes.ensures c.in-Ok.ensures.pass)) c.requires.one c.requires.entry

pub answer_script-requires-clause-fresh : goal.answer_script-requires-clause-fresh
answer_script-requires-clause-fresh g c κs _ =
    are_fresh (house_of c.args.house.now) _ c.args.book (ap (λ (b : Bundle). b.knows) (is_first _ _ _ _ _ c.in_ok-first.ensures.items c.new-passes.ensures c.in-Ok.ensures.pass))

pub answer_script-requires-clause-shares : goal.answer_script-requires-clause-shares
answer_script-requires-clause-shares g c κs _ =
    subst (λ (b : Bundle). All (λ s. s ≡ whole_share) b.shares) (sym (is_first _ _ _ _ _ c.in_ok-first.ensures.items c.new-passes.ensures c.in-Ok.ensures.pass)) one_whole

pub close-requires-clause-here : goal.close-requires-clause-here
close-requires-clause-here g c =
    c.answer_script.ensures.back.0
    ∙ ap (λ (b : Bundle). b.locks) (is_first _ _ _ _ _ c.in_ok-first.ensures.items c.new-passes.ensures c.in-Ok.ensures.pass) ∙ sym c.in_ok-desks.ensures.items

pub returns : goal.returns
returns g c = record {
  answered = λ owner here.
      let house = house_of c.args.house.now in
      let first = ap (λ (b : Bundle). b.knows) (is_first _ _ _ _ _ c.in_ok-first.ensures.items c.new-passes.ensures c.in-Ok.ensures.pass) in
      let worked = worked_as _ _ (draws_of c.args.key) _ _ _ _ _ c.new-streams.ensures.given c.in_ok-_replies.ensures.worked in
      answered_over house (draws_of c.args.key) c.args.workers c.args.script.now _ _ _ c.args.book c.close.result owner (omega (arith, c.requires.workers)) first c.requires.fresh.1
      worked c.close.ensures.closed here;
}
