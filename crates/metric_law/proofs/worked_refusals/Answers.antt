use Rattle.metric_law.proofs.Refusals as refusals
use Rattle.metric_law.proofs.worked_refusals.Goals as goal

pub returns-clause-compared : goal.returns-clause-compared
returns-clause-compared c = refusals.compared_faulty

pub returns-clause-factor : goal.returns-clause-factor
returns-clause-factor c = refusals.factor_faulty

pub returns-clause-product : goal.returns-clause-product
returns-clause-product c = refusals.product_faulty

pub returns-clause-used_twice : goal.returns-clause-used_twice
returns-clause-used_twice c = refusals.used_twice_faulty

pub returns-clause-unbound : goal.returns-clause-unbound
returns-clause-unbound c = refusals.unbound_faulty

pub returns-clause-mismatch : goal.returns-clause-mismatch
returns-clause-mismatch c = refusals.mismatch_faulty

pub returns-clause-branches : goal.returns-clause-branches
returns-clause-branches c = refusals.branches_faulty

pub returns-clause-side : goal.returns-clause-side
returns-clause-side c = refusals.side_faulty

pub returns-clause-map : goal.returns-clause-map
returns-clause-map c = refusals.map_faulty

pub returns-clause-no_number : goal.returns-clause-no_number
returns-clause-no_number c = refusals.no_number_faulty

pub returns-clause-without_limit : goal.returns-clause-without_limit
returns-clause-without_limit c = refusals.without_limit_accepted
