-- One more row.
use Rattle.std.proofs.Common.{◌≡◌, ◌<◌, ◌∙◌, ◌+◌, ◌++◌, ℕ, List, [], ◌∷◌, Global, Vec, drop, length, ap, sym, subst, arith}
use Rattle.std.specs.Prelude.{position}
use Rattle.std.proofs.lemmas.List.{drop_all, length-set}
use Rattle.metric_values.specs.Columns.{element_of}
use Rattle.metric_values.specs.Values.{Flat}
use Rattle.table_store.specs.Groups.{has_text}
use Rattle.table_store.proofs.GroupLemmas.{HaveBefore, have_all, have_none, row_found, row_missed}
use Rattle.table_store.proofs.grouping.groups.Goals as goal
use Rattle.table_store.proofs.grouping.groups.Goals.{in-Some+else-is_err, in_default}

abbrev numbers : Vec ℕ Global → List ℕ
numbers group = group.items

pub loop-row-init : goal.loop-row-init
loop-row-init c =
    let many = c.in_ok-groups.ensures.count in
    record {
      as_many = many;
      before = have_none numbers c.args.column c.args.table.now c.in_ok-groups.groups.items c.args.keys.now many c.in_ok-groups.ensures.empty;
    }

pub loop-row-preserved : goal.loop-row-preserved
loop-row-preserved c =
    let inv = c.loop-row.invariant in
    let cell = element_of c.cell.result in
    let there : c.loop-row.row < length c.args.table.now = rw c.len-row-end.ensures at c.loop-row-test.true in
    let rest = drop (c.loop-row.row + 1) c.args.table.now in
    let found : position (λ key. has_text key.now cell) c.args.keys.now ≡ c.group_of.result =
    ap (position (λ key. has_text key.now cell)) (sym c.in_ok-lookup.ensures.numbered) ∙ sym c.group_of.ensures.first in
    elim c.match-group_of.branch [
      | in-Some+else-is_err w ↦
          let items = ap (λ (v : Vec (Vec ℕ Global) Global). v.items) w.groups-is in
          let pushed = (rw w.if-is_err.ensures.negation at w.push.ensures.items)
          ∙ ap (λ (v : Vec ℕ Global). v.items ++ c.loop-row.row ∷ []) w.index_mut.ensures.value in
          record {
            as_many = ap length items ∙ length-set c.loop-row.groups.items w.in-Some.group w.push.new.self ∙ inv.as_many;
            before = subst (λ (groups : List (Vec ℕ Global)). HaveBefore numbers c.args.column c.args.table.now (c.loop-row.row + 1) rest groups
                c.args.keys.now) (sym items)
                (row_found numbers c.args.column c.args.table.now c.loop-row.row c.loop-row.groups.items c.args.keys.now cell inv.before there c.cell.ensures
                w.in-Some.group w.push.new.self w.index_mut.result.now (found ∙ w.in-Some.is) c.requires.distinct pushed);
          }
      | in_default w ↦
          let items = ap (λ (v : Vec (Vec ℕ Global) Global). v.items) w.groups-is in
          record {
            as_many = ap length items ∙ inv.as_many;
            before = subst (λ (groups : List (Vec ℕ Global)). HaveBefore numbers c.args.column c.args.table.now (c.loop-row.row + 1) rest groups
                c.args.keys.now) (sym items)
                (row_missed numbers c.args.column c.args.table.now c.loop-row.row c.loop-row.groups.items c.args.keys.now cell inv.before there c.cell.ensures
                (found ∙ w.in_default.is));
          }
    ]

pub returns : goal.returns
returns c =
    let all : drop c.loop-row.row c.args.table.now ≡ [] = drop_all c.loop-row.row c.args.table.now (grind arith) in
    have_all numbers c.args.column c.args.table.now c.loop-row.row c.loop-row.groups.items c.args.keys.now
    (subst (λ (rest : List Flat). HaveBefore numbers c.args.column c.args.table.now c.loop-row.row rest c.loop-row.groups.items c.args.keys.now) all
    c.loop-row.invariant.before)
