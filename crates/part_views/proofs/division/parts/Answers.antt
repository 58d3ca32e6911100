-- The rows of each group stand side by side, and they are the rows with the key.
use Rattle.std.proofs.Common.{◌≡◌, ◌<◌, ◌+◌, ◌≤◌, ◌∙◌, ◌++◌, [], ◌∷◌, ℕ, List, Vec, Global, drop, flat_map, get_or, length, map, take, ap, sym, subst, arith, rules}
use Rattle.std.specs.List.{All}
use Rattle.std.proofs.lemmas.List.{map-append, take_all, take_more}
use Rattle.metric_values.specs.Cells.{AreRows, chosen_of}
use Rattle.metric_values.specs.Values.{Flat}
use Rattle.table_store.specs.Groups.{texts_of}
use Rattle.part_views.proofs.Making.{groups_chosen, groups_there, run_is, run_more, run_within}
use Rattle.part_views.proofs.division.parts.Goals as goal

abbrev numbers : Vec ℕ Global → List ℕ
numbers group = group.items

abbrev chosen : List Flat → Vec ℕ Global → List (List Flat)
chosen table group = chosen_of table group.items ∷ []

-- where the groups before one end there is room for it
within : (groups : List (Vec ℕ Global)) (i : ℕ) (group : Vec ℕ Global) (table sorted : List Flat) (from : ℕ)
    → sorted ≡ chosen_of table (flat_map numbers groups) → from ≡ length (flat_map numbers (take i groups)) → i < length groups
    → group ≡ get_or groups i group → from + length group.items ≤ length sorted
within groups i group table sorted from all before low is =
    omega (
      arith,
      run_within numbers table groups i group low,
      before,
      ap (λ (rows : List Flat). length rows) all,
      ap (λ (g : Vec ℕ Global). length (numbers g)) is,
    )

pub sorted-requires-clause-there : goal.sorted-requires-clause-there
sorted-requires-clause-there c =
    let table = c.args.table.now in
    subst (All (λ (group : Vec ℕ Global). AreRows table group.items)) (sym c.deref.ensures.value)
    (groups_there numbers c.args.column table c.in_ok-groups.groups.items (texts_of c.args.keys.now) c.in_ok-groups.ensures)

pub overflow_cast-count : goal.overflow_cast-count
overflow_cast-count c =
    let table = c.args.table.now in
    let all = c.in_ok-sorted.ensures
    ∙ ap (λ (gs : List (Vec ℕ Global)). chosen_of table (flat_map numbers gs)) (c.deref.ensures.value ∙ sym c.deref-group-items.ensures.value) in
    let room = within c.deref-group-items.result.now c.loop-group.group-index c.group-item.result table c.in_ok-sorted.sorted c.loop-group.from all
    c.loop-group.invariant.before c.loop-group-test.true c.group-item.is in
    omega (arith, room, c.width.ensures.short, c.len-count.ensures, c.group-item.result.ok.0)

pub part-requires : goal.part-requires
part-requires c =
    let table = c.args.table.now in
    let all = c.in_ok-sorted.ensures
    ∙ ap (λ (gs : List (Vec ℕ Global)). chosen_of table (flat_map numbers gs)) (c.deref.ensures.value ∙ sym c.deref-group-items.ensures.value) in
    let room = within c.deref-group-items.result.now c.loop-group.group-index c.group-item.result table c.in_ok-sorted.sorted c.loop-group.from all
    c.loop-group.invariant.before c.loop-group-test.true c.group-item.is in
    omega (arith, room, c.len-count.ensures, c.group-item.result.ok.0)

pub overflow_add-from : goal.overflow_add-from
overflow_add-from c =
    let table = c.args.table.now in
    let all = c.in_ok-sorted.ensures
    ∙ ap (λ (gs : List (Vec ℕ Global)). chosen_of table (flat_map numbers gs)) (c.deref.ensures.value ∙ sym c.deref-group-items.ensures.value) in
    let room = within c.deref-group-items.result.now c.loop-group.group-index c.group-item.result table c.in_ok-sorted.sorted c.loop-group.from all
    c.loop-group.invariant.before c.loop-group-test.true c.group-item.is in
    omega (arith, room, c.width.ensures.short, c.len-count.ensures, c.group-item.result.ok.0)

pub loop-group-preserved : goal.loop-group-preserved
loop-group-preserved c =
    let table = c.args.table.now in
    let groups = c.deref-group-items.result.now in
    let i = c.loop-group.group-index in
    let group = c.group-item.result in
    let inv = c.loop-group.invariant in
    let low = c.loop-group-test.true in
    let all = c.in_ok-sorted.ensures
    ∙ ap (λ (gs : List (Vec ℕ Global)). chosen_of table (flat_map numbers gs)) (c.deref.ensures.value ∙ sym c.deref-group-items.ensures.value) in
    let count : c.len-count.result ≡ length (numbers (get_or groups i group)) =
    c.len-count.ensures ∙ c.group-item.result.ok.0 ∙ ap (λ (g : Vec ℕ Global). length (numbers g)) c.group-item.is in
    let made : c.in_ok-part.part ≡ chosen table group =
    c.in_ok-part.ensures
    ∙ (λ k. take (count k) (drop (inv.before k) (all k)) ∷ []) ∙ (λ k. run_is numbers table groups i group low k ∷ [])
    ∙ ap (chosen table) (sym c.group-item.is) in
    let pushed : c.push.new.self.items ≡ c.loop-group.parts.items ++ c.in_ok-part.part ∷ [] = search rules in
    let more : take (i + 1) groups ≡ take i groups ++ group ∷ [] =
    take_more groups i group low ∙ ap (λ (g : Vec ℕ Global). take i groups ++ g ∷ []) (sym c.group-item.is) in
    record {
      before = omega (arith, inv.before, count, run_more numbers table groups i group low);
      so_far = pushed ∙ (λ k. inv.so_far k ++ made k ∷ []) ∙ sym (map-append (chosen table) (take i groups) (group ∷ []))
          ∙ ap (map (chosen table)) (sym more);
    }

pub returns : goal.returns
returns c =
    let table = c.args.table.now in
    let all = take_all c.loop-group.group-index c.deref-group-items.result.now c.loop-group-test.false ∙ c.deref-group-items.ensures.value in
    c.loop-group.invariant.so_far ∙ ap (map (chosen table)) all
    ∙ groups_chosen numbers c.args.column table c.in_ok-groups.groups.items (texts_of c.args.keys.now) c.in_ok-groups.ensures
