use Rattle.std.proofs.Common.{◌++◌, rules, ap, ◌∙◌}
use Rattle.bag_ops.proofs.Lists.{given_list}
use Rattle.bag_ops.proofs.slices.union.Goals as goal

pub returns : goal.returns
returns c =
    let r = c.in_ok-append_by.ensures in let s = c.in_ok-append_by-2.ensures in
    let p = given_list _ c.args.a.now r.0 (λ i x l e. search rules) r.1 in
    let q = given_list _ c.args.b.now s.0 (λ i x l e. search rules) s.1 in
    s.2 ∙ ap (λ xs. xs ++ s.0) (r.2 ∙ ap (λ xs. c.new-out.result.items ++ xs) p ∙ ap (λ xs. xs ++ c.args.a.now) c.new-out.ensures.items) ∙ ap (λ xs. c.args.a.now ++ xs) q
