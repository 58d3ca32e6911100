use Rattle.std.proofs.Common.{◌≡◌, ◌∙◌, length, sym, ap, subst, arith}
use Rattle.word_streams.specs.Draws.{draws_of}
use Rattle.owner_house.specs.House.{Register, house_of}
use Rattle.generated_run.specs.SessionCore.Bundles.{Bundle, bundle_of}
use Rattle.generated_run.specs.SessionCore.Code.{AreFresh, ArePasses}
use Rattle.catalog_loading.specs.Loaded.{owners_in}
use Rattle.query_server.specs.Ends.{IsScriptEnd}
use Rattle.owner_books.proofs.Bundled.{AreWholeIn, many_known}
use Rattle.query_server.proofs.Contents.{any_left}
use Rattle.query_server.proofs.Ends.{took_passed}
use Rattle.owner_books.proofs.Passes.{back_counted}
use Rattle.query_server.proofs.Ran.{answered_in, answered_no_disk, few_owners, open_passed, many_opened, opened_fresh, run_over}
use Rattle.query_server.proofs.run.answer.Goals as goal

pub returns-in_err-desks-clause-taken : goal.returns-in_err-desks-clause-taken
returns-in_err-desks-clause-taken g c = took_passed _ c.in_err-desks.field-0.0 c.from_residual.result c.from_residual.ensures.1

pub returns-in_err-desks-clause-end : goal.returns-in_err-desks-clause-end
returns-in_err-desks-clause-end g c =
    let loading = c.args.opened.now.loading in
    let some = any_left (g.S.Source.left c.args.source.now) in
    (some.0, some.1, open_passed loading c.args.opened.now.key c.args.workers _ _ some.0 c.in_err-desks.field-0.0 c.from_residual.result c.in_err-desks.ensures.stop c.in_err-desks.ensures.left c.from_residual.ensures.1)

pub answer_over-end-requires-clause-here : goal.answer_over-end-requires-clause-here
answer_over-end-requires-clause-here g c κs _ = ap (λ (b : Bundle). b.locks) c.new-passes.ensures ∙ c.in_ok-desks.ensures.here ∙ sym c.deref.ensures.value

pub answer_over-end-requires-clause-passes : goal.answer_over-end-requires-clause-passes
answer_over-end-requires-clause-passes g c κs _ =
    subst (λ (r : Register). ArePasses (house_of r) c.new-passes.result.knows) (sym c.house-house.ensures.house)
    (subst (λ (b : Bundle). ArePasses (house_of c.open_desks.new.opened.loading.register) b.knows) (sym c.new-passes.ensures) c.in_ok-desks.ensures.house)

pub answer_over-end-requires-clause-fresh : goal.answer_over-end-requires-clause-fresh
answer_over-end-requires-clause-fresh g c κs _ =
    let loading = c.open_desks.new.opened.loading in
    subst (λ (r : Register). AreFresh (house_of r) c.new-passes.result.knows) (sym c.house-house.ensures.house)
    (subst (λ (b : Bundle). AreFresh (house_of loading.register) b.knows) (sym c.new-passes.ensures)
    (opened_fresh loading c.open_desks.new.opened.key c.house-house.ensures.lawful.lawful _ _ (bundle_of c.in_ok-desks.field-0.passes.items).knows c.in_ok-desks.ensures.passes))

pub answer_over-end-requires-clause-shares : goal.answer_over-end-requires-clause-shares
answer_over-end-requires-clause-shares g c κs _ = subst AreWholeIn (sym c.new-passes.ensures) c.in_ok-desks.ensures.whole

pub put_back-requires-clause-here : goal.put_back-requires-clause-here
put_back-requires-clause-here g c κs _ =
    ap (λ (b : Bundle). b.locks) c.into_vec.ensures ∙ c.answer_over-end.ensures.back.0 ∙ ap (λ (b : Bundle). b.locks) c.new-passes.ensures ∙ c.in_ok-desks.ensures.here

pub put_back-requires-clause-whole : goal.put_back-requires-clause-whole
put_back-requires-clause-whole g c κs _ = subst AreWholeIn (sym c.into_vec.ensures) c.answer_over-end.ensures.back.1

pub put_back-requires-clause-few : goal.put_back-requires-clause-few
put_back-requires-clause-few g c κs _ =
    let loading = c.open_desks.new.opened.loading in
    let few = few_owners loading c.open_desks.new.opened.key c.house-house.ensures.lawful.lawful in
    let all = many_opened loading c.open_desks.new.opened.key c.house-house.ensures.lawful.lawful c.house-house.result.now c.into_vec.result.items _ c.into_vec.ensures c.house-house.ensures.house c.answer_over-end.ensures.passes in
    omega (arith, few, all)

pub put_back-requires-clause-known : goal.put_back-requires-clause-known
put_back-requires-clause-known g c κs _ =
    let loading = c.open_desks.new.opened.loading in
    let few = few_owners loading c.open_desks.new.opened.key c.house-house.ensures.lawful.lawful in
    let all = many_opened loading c.open_desks.new.opened.key c.house-house.ensures.lawful.lawful c.house-house.result.now c.into_vec.result.items _ c.into_vec.ensures c.house-house.ensures.house c.answer_over-end.ensures.passes in
    omega (arith, few, all, (c.requires.home 63 (omega arith)).0, c.in_ok-desks.ensures.bay.0)

pub put_back-requires-clause-taken : goal.put_back-requires-clause-taken
put_back-requires-clause-taken g c κs _ = λ o less.
    let loading = c.open_desks.new.opened.loading in
    let all = many_opened loading c.open_desks.new.opened.key c.house-house.ensures.lawful.lawful c.house-house.result.now c.into_vec.result.items _ c.into_vec.ensures c.house-house.ensures.house c.answer_over-end.ensures.passes in
    c.in_ok-desks.ensures.passes.taken o (omega (arith, less, all))

pub returns-clause-end : goal.returns-clause-end
returns-clause-end g c =
    let found = c.in_ok-desks.ensures.versions in
    let loading = c.open_desks.new.opened.loading in
    let key = c.open_desks.new.opened.key in
    let lawful = c.house-house.ensures.lawful.lawful in
    let house = house_of loading.register in
    let workers = c.args.workers in
    let passes = (bundle_of c.in_ok-desks.field-0.passes.items).knows in
    let new = c.answer_over-end.new.passes in
    let after = c.into_vec.result.items in
    let same : bundle_of after ≡ new = c.into_vec.ensures in
    let due = c.answer_over-end.ensures.end in
    let all : length (bundle_of after).knows ≡ owners_in loading
    = many_known after ∙ many_opened loading key lawful c.house-house.result.now after new same c.house-house.ensures.house c.answer_over-end.ensures.passes in
    let answered = subst (λ (b : Bundle). IsScriptEnd house (draws_of key) workers due.0 b.knows (bundle_of after).knows c.answer_over-end.result) c.new-passes.ensures
    (subst (λ (b : Bundle). IsScriptEnd house (draws_of key) workers due.0 c.new-passes.result.knows b.knows c.answer_over-end.result) (sym same)
    (answered_in c.house-house.result.now loading.register c.key.result key workers due.0 _ _ c.answer_over-end.result c.house-house.ensures.house c.key.ensures due.2)) in (
      due.0,
      due.1,
      run_over c.args.opened.now.loading c.args.opened.now.key found.0 found.1 c.open_desks.new.opened found.2 lawful workers _ _ _ passes (bundle_of after).knows c.put_back.ensures.back.0 due.0 c.answer_over-end.result (omega (arith, c.requires.workers.0)) c.in_ok-desks.ensures.passes answered
          (back_counted after _ _ _ _ all c.put_back.ensures.back.1),
    )

pub returns-clause-disk : goal.returns-clause-disk
returns-clause-disk g c = λ line is.
    let loading = c.open_desks.new.opened.loading in
    let key = c.open_desks.new.opened.key in
    let workers = c.args.workers in
    let due = c.answer_over-end.ensures.end in
    answered_no_disk loading key c.house-house.ensures.lawful.lawful (draws_of key) workers _ _ due.0 c.answer_over-end.result line (answered_in c.house-house.result.now loading.register c.key.result key workers due.0 _ _ c.answer_over-end.result c.house-house.ensures.house c.key.ensures due.2) is

pub returns-clause-taken : goal.returns-clause-taken
returns-clause-taken g c = c.answer_over-end.ensures.taken

pub returns-clause-bay : goal.returns-clause-bay
returns-clause-bay g c = (
  c.put_back.ensures.owners ∙ c.in_ok-desks.ensures.bay.0,
  omega (arith, c.put_back.ensures.faults, c.in_ok-desks.ensures.bay.1),
)

pub returns-clause-cause : goal.returns-clause-cause
returns-clause-cause g c = c.answer_over-end.ensures.cause

pub returns-clause-lost : goal.returns-clause-lost
returns-clause-lost g c = λ line is.
    let loading = c.open_desks.new.opened.loading in
    let key = c.open_desks.new.opened.key in
    let workers = c.args.workers in
    let due = c.answer_over-end.ensures.end in
    answered_no_disk loading key c.house-house.ensures.lawful.lawful (draws_of key) workers _ _ due.0 c.answer_over-end.result line (answered_in c.house-house.result.now loading.register c.key.result key workers due.0 _ _ c.answer_over-end.result c.house-house.ensures.house c.key.ensures due.2) is
