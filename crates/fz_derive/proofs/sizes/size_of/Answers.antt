use Rattle.std.proofs.Common.{length}
use Rattle.fz_derive.proofs.NodeSizes.{none_counted, one_below, one_counted, three_below, three_counted, two_below, two_counted}
use Rattle.fz_derive.proofs.sizes.size_of.Goals as goal

pub over_one-requires : goal.over_one-requires
over_one-requires c = one_below c.requires.0 (length c.args.sizes.now) c.args.form.now c.in-Unary.e c.in-Unary.is c.requires.1

pub over_two-requires : goal.over_two-requires
over_two-requires c = two_below c.requires.0 (length c.args.sizes.now) c.args.form.now c.in-Binary.a c.in-Binary.b c.in-Binary.is c.requires.1

pub over_three-requires : goal.over_three-requires
over_three-requires c = three_below c.requires.0 (length c.args.sizes.now) c.args.form.now c.in-If.e c.in-If.a c.in-If.b c.in-If.is c.requires.1

pub returns-in-Var : goal.returns-in-Var
returns-in-Var c = λ N s are. none_counted N s c.args.form.now c.in-Var.is

pub returns-in-Unary : goal.returns-in-Unary
returns-in-Unary c = λ N s are.
    one_counted N s c.args.sizes.now are c.args.form.now c.over_one.result c.in-Unary.e c.in-Unary.is
    (one_below c.requires.0 (length c.args.sizes.now) c.args.form.now c.in-Unary.e c.in-Unary.is c.requires.1) c.over_one.ensures

pub returns-in-Binary : goal.returns-in-Binary
returns-in-Binary c = λ N s are.
    two_counted N s c.args.sizes.now are c.args.form.now c.over_two.result c.in-Binary.a c.in-Binary.b c.in-Binary.is
    (two_below c.requires.0 (length c.args.sizes.now) c.args.form.now c.in-Binary.a c.in-Binary.b c.in-Binary.is c.requires.1) c.over_two.ensures

pub returns-in-If : goal.returns-in-If
returns-in-If c = λ N s are.
    three_counted N s c.args.sizes.now are c.args.form.now c.over_three.result c.in-If.e c.in-If.a c.in-If.b c.in-If.is
    (three_below c.requires.0 (length c.args.sizes.now) c.args.form.now c.in-If.e c.in-If.a c.in-If.b c.in-If.is c.requires.1) c.over_three.ensures
