use Rattle.std.proofs.Common.{◌+◌, ◌%◌, ◌<◌, ◌∙◌, ◌++◌, [], ◌∷◌, length, drop, get_or, set, sum_by, refl, sym, ap, subst, arith, mod-lt, inl, inr, length-append, length-set, get_or-set_same, get_or-set_other}
use Rattle.std.proofs.lemmas.Bool.{cases_eq}
use Rattle.std.proofs.lemmas.List.{drop_more, get_or_default}
use Rattle.std.proofs.lemmas.List.Sums.{sum_by-cons}
use Rattle.session_core.specs.Code.{room_for_lines}
use Rattle.script_workers.specs.Starts.{blocks_at}
use Rattle.script_workers.specs.Texts.{KeepsTexts}
use Rattle.script_workers.proofs.Blocks.{no_start, starts_many}
use Rattle.script_workers.proofs.Kept.{ends_count, in_push}
use Rattle.script_workers.proofs.Ordered.{IsDealtOut, none_given, all_given, turn_there, turn_fits, own_turn, others_turn}
use Rattle.script_workers.proofs.order.put_in_order.Goals as goal

pub loop-number-init : goal.loop-number-init
loop-number-init g c = record {
  done = [];
  count = refl;
  items = c.requires.room.0;
  room = omega (arith, c.requires.room.1, ap length c.requires.room.0);
  hands = refl;
  each = λ i d within. record {
    left = (c.requires.texts i d within).0;
    holds = (c.requires.texts i d within).1;
    given_are = none_given 16 i;
    fits = (c.requires.texts i d within).2;
  };
}

pub text-requires : goal.text-requires
text-requires g c =
    let all = blocks_at c.args.starts.now in
    let next = drop_more all c.loop-number.number [] (omega (arith, c.loop-number-test.true, starts_many c.args.starts.now)) in
    let dealt = c.loop-number.invariant.each (c.loop-number.number % length c.args.crew.now) c.index-crew-index.result (mod-lt c.loop-number.number c.requires.few.0) in
    record { there = turn_there _ _ _ _ _ _ next _ c.loop-number.invariant.count _ _ dealt refl }

pub push_all-requires : goal.push_all-requires
push_all-requires g c =
    let all = blocks_at c.args.starts.now in
    let next = drop_more all c.loop-number.number [] (omega (arith, c.loop-number-test.true, starts_many c.args.starts.now)) in
    let dealt = c.loop-number.invariant.each (c.loop-number.number % length c.args.crew.now) c.index-crew-index.result (mod-lt c.loop-number.number c.requires.few.0) in
    let fits = turn_fits _ _ _ _ _ _ next _ c.loop-number.invariant.count _ _ dealt refl c.text.result.now c.text.ensures.text in
    omega (arith, fits, c.loop-number.invariant.room, ap (sum_by room_for_lines) next, sum_by-cons room_for_lines (get_or all c.loop-number.number []) (drop (c.loop-number.number + 1) all))

pub overflow_add-given : goal.overflow_add-given
overflow_add-given g c =
    let j = c.loop-number.number % length c.args.crew.now in
    let all = blocks_at c.args.starts.now in
    let next = drop_more all c.loop-number.number [] (omega (arith, c.loop-number-test.true, starts_many c.args.starts.now)) in
    let dealt = c.loop-number.invariant.each j c.index-crew-index.result (mod-lt c.loop-number.number c.requires.few.0) in
    let there = turn_there _ _ _ _ _ _ next _ c.loop-number.invariant.count _ _ dealt refl in
    let ends = (get_or c.args.crew.now j c.index-crew-index.result).texts.ends in
    omega (arith, there.2, ap length there.1.ends, ends_count 0 there.0, ends.ok.0, ends.small)

pub loop-number-preserved : goal.loop-number-preserved
loop-number-preserved g c =
    let invariant = c.loop-number.invariant in
    let crew = c.args.crew.now in
    let k = c.loop-number.number in
    let j = k % length crew in
    let given = c.loop-number.given in
    let text = c.text.result.now in
    let first = c.index-crew-index.result in
    let within : j < length crew = mod-lt k c.requires.few.0 in
    let all = blocks_at c.args.starts.now in
    let behind = drop (k + 1) all in
    let next = drop_more all k [] (omega (arith, c.loop-number-test.true, starts_many c.args.starts.now)) in
    let fits = turn_fits _ _ _ _ _ _ next _ invariant.count _ _ (invariant.each j first within) refl text c.text.ensures.text in
    record {
      done = invariant.done ++ text ∷ [];
      count = length-append invariant.done (text ∷ []) ∙ omega (arith, invariant.count);
      items = in_push c.loop-number.out.items c.push_all.new.out.items invariant.done text c.push_all.ensures.items invariant.items;
      room = omega (
        arith,
        fits,
        invariant.room,
        ap (sum_by room_for_lines) next,
        sum_by-cons room_for_lines (get_or all k []) behind,
        ap length c.push_all.ensures.items,
        length-append c.loop-number.out.items text,
        c.push_all.ensures.capacity,
      );
      hands = length-set given j _ ∙ invariant.hands;
      each = λ i d less. elim (cases_eq j i) [
        | inl same ↦
            let mine = own_turn _ _ _ _ _ _ next _ invariant.count _ _ (invariant.each j d within) refl text (λ texts holds. c.text.ensures.text texts (subst (λ w. KeepsTexts w.texts texts) (get_or_default crew j d first within) holds)) in
            subst (λ z. IsDealtOut (length crew) z (k + 1) behind (invariant.done ++ text ∷ []) (get_or crew z d).texts (get_or (set given j (get_or given j 0 + 1)) z 0)) same
            (subst (λ n. IsDealtOut (length crew) j (k + 1) behind (invariant.done ++ text ∷ []) (get_or crew j d).texts n) (sym (get_or-set_same given j (get_or given j 0 + 1) 0 (omega (arith, within, invariant.hands, c.requires.few.1)))) mine)
        | inr other ↦
            subst (λ n. IsDealtOut (length crew) i (k + 1) behind (invariant.done ++ text ∷ []) (get_or crew i d).texts n) (sym (get_or-set_other given j i (get_or given j 0 + 1) 0 (λ same. other (sym same))))
            (others_turn _ _ _ _ _ _ next _ invariant.count _ _ (invariant.each i d less) text other)
      ];
    }

pub returns : goal.returns
returns g c =
    let none = no_start c.args.starts.now c.loop-number.number (omega (arith, c.loop-number-test.false)) in
    record {
      order = (
        c.loop-number.invariant.done,
        omega (arith, c.loop-number.invariant.count, c.loop-number-test.false, c.loop-number.auto.number-end, starts_many c.args.starts.now),
        c.loop-number.invariant.items,
        λ i d within. all_given _ _ _ _ _ _ _ none (c.loop-number.invariant.each i d within),
      );
    }
