use Rattle.std.proofs.Common.{length, take, sym, ap, ◌∙◌, subst}
use Rattle.worker_pool.specs.Gates.{WentFrom}
use Rattle.worker_pool.proofs.Backs.{none_went}
use Rattle.worker_pool.proofs.together.go.Goals as goal

pub returns-clause-refused : goal.returns-clause-refused
returns-clause-refused g c =
    let back = c.bring_back-in-Some.ensures in
    let old = c.start_all.new.crew.items in
    let same = ap (λ v. v.items) c.of-before.ensures in
    none_went (g.W.Work.does c.args.work.now) c.of-before.result.value.items old c.bring_back-in-Some.new.crew.items (c.in-Some.ensures.rest ∙ ap (take (length old)) (sym same)) back.len back.kept
    (subst (λ b. WentFrom b (g.W.Work.does c.args.work.now) (length old) c.of-before.result.value.items c.bring_back-in-Some.new.crew.items) c.in-Some.ensures.told.1 back.went)
    ∙ same
