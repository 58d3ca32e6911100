use Rattle.std.proofs.Common.{subst, sym}
use Rattle.fz_ast.specs.declared.term.Binary.{Binary}
use Rattle.row_kernels.specs.Lanes.{ArePairs, AreSigned}
use Rattle.row_kernels.proofs.Given.{by_answer}
use Rattle.row_kernels.proofs.lanes.signed.Goals as goal

pub returns-in-Pair : goal.returns-in-Pair
returns-in-Pair c =
    let a = c.args.a in
    let b = c.args.b in
    let n = c.args.len in
    by_answer c.row_like.result (ArePairs a b) (AreSigned c.args.form n a b) c.row_like.ensures
    (λ l h. subst (λ (o : Binary). AreSigned o n a b l) (sym c.in-Pair.is) (record { sign = tt; long = h.long n c.requires.a_long c.requires.b_long; each = λ j lt. h.each j }))

pub returns-in-With : goal.returns-in-With
returns-in-With c =
    let a = c.args.a in
    let b = c.args.b in
    let n = c.args.len in
    by_answer c.row_like-in-With.result (ArePairs a b) (AreSigned c.args.form n a b) c.row_like-in-With.ensures
    (λ l h. subst (λ (o : Binary). AreSigned o n a b l) (sym c.in-With.is) (record { sign = tt; long = h.long n c.requires.a_long c.requires.b_long; each = λ j lt. h.each j }))
