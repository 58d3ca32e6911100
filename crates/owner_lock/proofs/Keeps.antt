-- Each step keeps the rule.
use Rattle.std.proofs.Common.{◌≡◌, ℕ, suc, ◌+◌, ◌-◌, ◌/◌, ◌%◌, ◌<◌, ◌≤◌, eqb, ◌≢◌, ◌⊎◌, ◌||◌, Bool, true, false, List, [], ◌∷◌, ◌++◌, map, length, get_or, set, sym, refl, ap, ◌∙◌, subst, inl, inr, ⊎_elim, arith, Some, slice_get, eq-eqb, length-set, length-append}
use mathlib.Core.Option.{some, none, some-injective, some-ne-none}
use mathlib.Core.List.{IsPrefix}
use mathlib.Core.Logic.{dite}
use native.Mathlib.Decide.{ℕ_discrete, dec_le}
use Rattle.std.proofs.lemmas.Bool.{lt-ltb, le-ltb}
use lib.ListN.{get_elem?}
use prog.Atomic.{either}
use Rattle.std.specs.Bool.{if◌then◌else◌}
use Rattle.atomic_table.specs.Table.{State, Me, Act, keeps, takes, gives, rest, step, stepped, Valid, Allows, Splits, Joins, opening, Final, Seen, carried_after}
use Rattle.atomic_table.proofs.Lists.{at_set, set_here, set_else, set_again, at_longer, exchanged}
use Rattle.owner_lock.specs.declared.stands.StandsFor.{Ghosts}
use Rattle.owner_lock.specs.declared.view.View.{View}
use Rattle.owner_lock.specs.Entries.{Has, Ascends, longer, merged}
use Rattle.owner_lock.specs.Jobs.{ComesBack, Knows, Meets, Owes}
use Rattle.owner_lock.specs.Views.{ClosesIn, IsFreed, IsMarked, MayEnd, Rests, adding, both, first_view, freeing, known_by, left_half, right_half, settled, spent, taking}
use Rattle.owner_lock.specs.History.{Phase, home, held, total, entries_of, own_of, Below, lock_word, homes_in, shut_in, InPhase, OneHand, Fits, OneHistory, Took, turned, warned, marked, freed, looked}
use Rattle.owner_lock.proofs.Lists.{total_set, total_snoc, total_two, at_within, at_end, at_map_back, prefix_self, prefix_trans, prefix_shorter, prefix_whole, prefix_length, other_than_first, some_at}
use Rattle.owner_lock.proofs.Logs.{own_added, own_other, own_new, below_more, below_snoc, own_there, own_back, own_left, own_else, own_merged, moved, hand_over, entries_moved, below_moved, append_nil, later_at, later_back, below_at, own_all, own_ascends, entries_snoc, length_entries}

half_and_half : (n : ℕ) → 2 ≤ n → (n - n / 2) + n / 2 ≡ n
half_and_half n l = omega arith

half_some : (n : ℕ) → 2 ≤ n → 0 < n / 2
half_some n l = omega arith

half_left : (n : ℕ) → 2 ≤ n → 0 < n - n / 2
half_left n l = omega arith

free_low : (b : Bool) → ◌≡◌ {A = ℕ} ((if b then 2 else 0) % 4) (if b then 2 else 0)
free_low true = refl
free_low false = refl

-- what is added to the word of a turn that ends
abbrev to_free : Bool → ℕ
to_free shut = if shut then 1 else 18446744073709551615

freed_low : (n : ℕ) (b : Bool) → n % 4 ≡ 1 → (n + to_free b) % 18446744073709551616 % 4 ≡ (if b then 2 else 0)
freed_low n true e = omega arith
freed_low n false e = omega arith

false_true : {X : Type 0} → false ≡ true → X
false_true e = absurd cc

module _ {T E F : Type 0} (k : Ghosts T E F) where
  abbrev V : Type 0
  V = View E F

  abbrev St : Type 0
  St = State T V

  abbrev seat_of : Phase T → ℕ
  seat_of (home x) = 0
  seat_of (held j b) = j

  abbrev is_held : Phase T → Bool
  is_held (home x) = false
  is_held (held j b) = true

  each_set : (K : ℕ → V → Type 0) (vs : List V) (me : ℕ) (w : V) → K me w → ((j : ℕ) (d : V) → j ≢ me → get_elem? vs j ≡ some d → K j d)
      → (j : ℕ) (d : V) → get_elem? (set vs me w) j ≡ some d → K j d
  each_set K vs me w mine others j d e = ⊎_elim (λ (t : (j ≡ me) × (w ≡ d)). subst (λ (x : ℕ × V). K x.0 x.1) (λ i. (sym t.0 i, t.1 i)) mine)
      (λ (t : (j ≢ me) × (get_elem? vs j ≡ some d)). others j d t.0 t.1) (at_set vs me j w d e)

  placed_set : (f : F) (h : List E) (vs : List V) (me : ℕ) (v w : V) → get_elem? vs me ≡ some v → (v.turn ≡ true → w.turn ≡ true) → (p : Phase T)
      → InPhase k f h vs p → InPhase k f h (set vs me w) p
  placed_set f h vs me v w at same (home x) i = i
  placed_set f h vs me v w at same (held j b) i = dite (ℕ_discrete j me)
      (λ e. let is : i.0 ≡ v = some-injective i.0 v (sym i.1 ∙ (ap (get_elem? vs) e ∙ at)) in
      (w, ap (get_elem? (set vs me w)) e ∙ set_here vs me w (at_within vs me v at), same (sym (ap (λ (u : V). u.turn) is) ∙ i.2)))
      (λ n. (i.0, set_else vs me j w n ∙ i.1, i.2))

  placed_snoc : (f : F) (h : List E) (vs : List V) (w : V) (p : Phase T) → InPhase k f h vs p → InPhase k f h (vs ++ w ∷ []) p
  placed_snoc f h vs w (home x) i = i
  placed_snoc f h vs w (held j b) i = (i.0, at_longer vs (w ∷ []) j i.0 i.1, i.2)

  pub splits : (id : ℕ) (v : V) → 2 ≤ v.share → Splits (OneHistory k) id v (left_half v) (right_half v)
  splits id v two s r at =
      let vs : List V = set s.views id (left_half v) in
      let fit = r.each id v at in
      let long : length (vs ++ right_half v ∷ []) ≡ suc (length s.views) =
      omega (arith, length-append vs (right_half v ∷ []), length-set s.views id (left_half v)) in
      record {
        fixed = r.fixed;
        base = r.base;
        history = r.history;
        log = r.log;
        phase = r.phase;
        word = r.word;
        made = r.made;
        words = r.words;
        says = r.says;
        homes = r.homes;
        legal = r.legal;
        placed = placed_snoc r.fixed r.history vs (right_half v) r.phase (placed_set r.fixed r.history s.views id v (left_half v) at (λ t. t) r.phase r.placed);
        shares = (let a = total_snoc (λ (u : V). u.share) vs (right_half v) in
            let b = total_set (λ (u : V). u.share) s.views id v (left_half v) at in
            let c = half_and_half v.share two in
            let d = r.shares in omega arith);
        seats = below_more (length s.views) (length (vs ++ right_half v ∷ [])) r.log (omega arith) r.seats;
        one_hand = r.one_hand;
        each = λ j d e. ⊎_elim
            (λ (t : (j < length vs) × (get_elem? vs j ≡ some d)). each_set (Fits k r.fixed r.base r.history r.log r.phase) s.views id (left_half v)
            record {
              alive = λ _. fit.alive (omega arith);
              seen = fit.seen;
              told = fit.told;
              own = fit.own;
              idle = λ z. (let l = half_left v.share two in absurd (omega arith));
              turn = fit.turn;
              shut = fit.shut;
            }
            (λ i u _. r.each i u) j d t.1)
            (λ (t : (j ≡ length vs) × (right_half v ≡ d)).
            let far : length s.views ≤ j = (let l = length-set s.views id (left_half v) in let q = t.0 in omega arith) in
            subst (Fits k r.fixed r.base r.history r.log r.phase j) t.1
            record {
              alive = λ _. fit.alive (omega arith);
              seen = fit.seen;
              told = (r.history, refl);
              own = sym (own_new j (length r.base) (length s.views) r.log r.seats far);
              idle = λ z. (let l = half_some v.share two in absurd (omega arith));
              turn = λ z. false_true z;
              shut = fit.shut;
            })
            (at_end vs (right_half v) d j e);
      }

  -- a load of word 0 changes neither words nor homes
  same_word : (n m : ℕ) (ws : List ℕ) → ws ≡ n ∷ m ∷ [] → set ws 0 (get_or ws 0 0) ≡ n ∷ m ∷ []
  same_word n m ws e = ap (λ (u : List ℕ). set u 0 (get_or u 0 0)) e

  longer_left : (xs ys h : List E) → IsPrefix xs h → IsPrefix ys h → IsPrefix xs (longer xs ys) × IsPrefix ys (longer xs ys) × IsPrefix (longer xs ys) h
  longer_left xs ys h p q = dite (dec_le (length ys) (length xs))
      (λ l. rw (le-ltb (length xs) (length ys) l) (prefix_self xs, prefix_shorter ys xs h q p l, p))
      (λ n. let l : length xs < length ys = omega arith in rw (lt-ltb (length xs) (length ys) l) (prefix_shorter xs ys h p q (omega arith), prefix_self ys, q))

  -- what lies between a list and its whole is the whole
  prefix_all : (b a h : List E) → IsPrefix a b → IsPrefix b h → a ≡ h → b ≡ h
  prefix_all b a h p q e = prefix_whole b h q (let x = prefix_length a b p in let y = ap length e in omega arith)

  pub looks : (slots id : ℕ) (v : V) → Allows (OneHistory k) slots id (v, []) 0 (λ n. n) (looked k (step slots 0 0 0 none) (v, []))
  looks slots id v s r len at small =
      let fit = r.each id v at in
      let two = longer_left v.seen v.told r.history fit.seen fit.told in (
        settled v,
        keeps,
        tt,
        record {
          fixed = r.fixed;
          base = r.base;
          history = r.history;
          log = r.log;
          phase = r.phase;
          word = r.word;
          made = r.made;
          words = same_word (length r.history) r.word s.words r.words;
          says = r.says;
          homes = r.homes;
          legal = r.legal;
          placed = placed_set r.fixed r.history s.views id v (settled v) at (λ t. t) r.phase r.placed;
          shares = (let b = total_set (λ (u : V). u.share) s.views id v (settled v) at in let d = r.shares in omega arith);
          seats = below_more (length s.views) (length (set s.views id (settled v))) r.log (omega (arith, length-set s.views id (settled v))) r.seats;
          one_hand = r.one_hand;
          each = each_set (Fits k r.fixed r.base r.history r.log r.phase) s.views id (settled v)
              record {
                alive = fit.alive;
                seen = two.2;
                told = (r.history, refl);
                own = fit.own;
                idle = fit.idle;
                turn = λ t. let u = fit.turn t in (u.0, prefix_all (longer v.seen v.told) v.seen r.history two.0 two.2 u.1);
                shut = fit.shut;
              }
              (λ i u _. r.each i u);
        },
        (refl, refl, two.0, two.1, subst (Ascends 0) (sym fit.own) (own_ascends id (length r.base) 0 r.log (omega arith))),
      )

  hand_moved : (id other : ℕ) (log : List (ℕ × E)) → OneHand k log → OneHand k (moved id other log)
  hand_moved id other log one p q a b lt ea eb c =
      let x = at_map_back (λ (z : ℕ × E). (hand_over id other z.0, z.1)) log p a ea in
      let y = at_map_back (λ (z : ℕ × E). (hand_over id other z.0, z.1)) log q b eb in
      let same : y.0.0 ≡ x.0.0 =
      one p q x.0 y.0 lt x.1 y.1 (subst (λ (z : E × E). k.closes z.0 z.1)
      (λ i. (ap (λ (z : ℕ × E). z.1) (sym y.2) i, ap (λ (z : ℕ × E). z.1) (sym x.2) i)) c) in
      ap (λ (z : ℕ × E). z.0) (sym y.2) ∙ (ap (hand_over id other) same ∙ ap (λ (z : ℕ × E). z.0) x.2)

  or_left : (a b : Bool) → (a || b) ≡ true → (a ≡ true) ⊎ (b ≡ true)
  or_left true b e = inl refl
  or_left false b e = inr e

  pub joins : (id : ℕ) (v : V) (other : ℕ) (w : V) → Rests v → Rests w → Joins (OneHistory k) id v other w (both v w) spent
  joins id v other w rv rw' s r at apart there =
      let vs : List V = set s.views id (both v w) in
      let was : get_elem? s.views other ≡ some w = sym (set_else s.views id other (both v w) apart) ∙ there in
      let fit = r.each id v at in
      let fat = r.each other w was in
      let log : List (ℕ × E) = moved id other r.log in
      let apart' : id ≢ other = λ e. apart (sym e) in
      record {
        fixed = r.fixed;
        base = r.base;
        history = r.history;
        log = log;
        phase = r.phase;
        word = r.word;
        made = r.made ∙ ap (λ x. r.base ++ x) (sym (entries_moved id other r.log));
        words = r.words;
        says = r.says;
        homes = r.homes;
        legal = r.legal;
        placed = placed_set r.fixed r.history vs other w spent there (λ t. false_true (sym rw'.1 ∙ t)) r.phase
            (placed_set r.fixed r.history s.views id v (both v w) at (λ t. t) r.phase r.placed);
        shares = (let a = total_set (λ (u : V). u.share) vs other w spent there in
            let b = total_set (λ (u : V). u.share) s.views id v (both v w) at in
            let d = r.shares in omega arith);
        seats = below_moved id other (length (set vs other spent)) r.log (let a = at_within s.views id v at in
            let b = length-set s.views id (both v w) in
            let c = length-set vs other spent in omega arith)
            (below_more (length s.views) (length (set vs other spent)) r.log (let b = length-set s.views id (both v w) in let c = length-set vs other spent in omega arith) r.seats);
        one_hand = hand_moved id other r.log r.one_hand;
        each = each_set (Fits k r.fixed r.base r.history log r.phase) vs other spent
            record {
              alive = λ l. absurd (omega arith);
              seen = (r.history, refl);
              told = (r.history, refl);
              own = sym (own_left id other (length r.base) r.log apart');
              idle = λ _. (refl, refl);
              turn = λ e. false_true e;
              shut = λ e. false_true e;
            }
            (λ i u no e. let z = at_set s.views id i (both v w) u e in ⊎_elim
            (λ (t : (i ≡ id) × (both v w ≡ u)). subst (λ (x : ℕ × V). Fits k r.fixed r.base r.history log r.phase x.0 x.1) (λ m. (sym t.0 m, t.1 m))
            record {
              alive = λ _. fit.alive rv.0;
              seen = fit.seen;
              told = fat.seen;
              own = ap (λ (x : List (ℕ × E)). merged x w.own) fit.own
                  ∙ (ap (merged (own_of id (length r.base) r.log)) fat.own ∙ sym (own_merged id other (length r.base) r.log apart'));
              idle = λ l. (let h = rv.0 in absurd (omega arith));
              turn = λ e. false_true (sym rv.1 ∙ e);
              shut = λ e. ⊎_elim fit.shut fat.shut (or_left v.shut w.shut e);
            })
            (λ (t : (i ≢ id) × (get_elem? s.views i ≡ some u)). let f = r.each i u t.1 in
            record {
              alive = f.alive;
              seen = f.seen;
              told = f.told;
              own = f.own ∙ sym (own_else id other i (length r.base) r.log t.0 no);
              idle = f.idle;
              turn = f.turn;
              shut = f.shut;
            })
            z);
      }

  -- a table with the state at home and one seat, whoever is counted
  pub at_home : (x : T) (word : ℕ) → word % 4 ≡ lock_word k (home x) → k.legal (k.fixed x) (k.history x)
      → OneHistory k (opening (length (k.history x) ∷ word ∷ []) (x ∷ []) (first_view k x))
  at_home x word says legal = record {
    fixed = k.fixed x;
    base = k.history x;
    history = k.history x;
    log = [];
    phase = home x;
    word = word;
    made = sym (append_nil (k.history x));
    words = refl;
    says = says;
    homes = refl;
    legal = legal;
    placed = (refl, refl);
    shares = refl;
    seats = tt;
    one_hand = λ p q a b lt ea eb c. absurd (some-ne-none a (sym ea));
    each = λ j v e. each_set (Fits k (k.fixed x) (k.history x) (k.history x) [] (home x)) (first_view k x ∷ []) 0 (first_view k x)
        record {
          alive = λ _. (refl, refl);
          seen = prefix_self (k.history x);
          told = (k.history x, refl);
          own = refl;
          idle = λ z. absurd cc;
          turn = λ z. false_true z;
          shut = λ z. z;
        }
        (λ i u no at. absurd (other_than_first i u (first_view k x) no at)) j v e;
  }

  -- the table at the start
  pub opens : (x : T) → k.legal (k.fixed x) (k.history x)
      → OneHistory k (opening (length (k.history x) ∷ (if k.shut x then 2 else 0) ∷ []) (x ∷ []) (first_view k x))
  opens x legal = at_home x (if k.shut x then 2 else 0) (free_low (k.shut x)) legal

  -- what a job meets, where the state is at home
  met : (f : F) (base h : List E) (log : List (ℕ × E)) (id : ℕ) (v : V) (x : T) → h ≡ base ++ entries_of log → k.legal f h → OneHand k log
      → Fits k f base h log (home x) id v → 0 < v.share → k.history x ≡ h → k.fixed x ≡ f → Meets k (known_by v) x
  met f base h log id v x made legal one fit some_share is fixed =
      let alive = fit.alive some_share in
      let same : k.history x ≡ base ++ entries_of log = is ∙ made in
      let from : length v.base ≡ length base = ap length alive.1 in
      let get : (p : ℕ) (d : E) → slice_get (k.history x) p ≡ Some d → slice_get (base ++ entries_of log) p ≡ Some d =
      λ p d e. subst (λ (z : List E). slice_get z p ≡ Some d) same e in
      let put : (p : ℕ) (d : E) → slice_get (base ++ entries_of log) p ≡ Some d → slice_get (k.history x) p ≡ Some d =
      λ p d e. subst (λ (z : List E). slice_get z p ≡ Some d) (sym same) e in
      let has : (z : ℕ × E) → Has z v.own → Has z (own_of id (length base) log) = λ z h. subst (Has z) fit.own h in
      let had : (z : ℕ × E) → Has z (own_of id (length base) log) → Has z v.own = λ z h. subst (Has z) (sym fit.own) h in
      record {
        fixed = ap (λ (z : F). Some z) fixed ∙ sym alive.0;
        legal = subst (λ (z : F × List E). k.legal z.0 z.1) (λ i. (sym fixed i, sym is i)) legal;
        begins = (entries_of log, ap (λ z. z ++ entries_of log) alive.1 ∙ sym same);
        later = subst (IsPrefix v.seen) (sym is) fit.seen;
        shut = fit.shut;
        own = λ p e h. let r = own_there id (length base) p e log (has (p, e) h) in let at = r.1 in
            (omega arith, put p e (later_at base log p r.0 (id, e) at r.2));
        pairs = λ p q d e lp lt ep eq c.
            let a = later_back base log p d (omega arith) (get p d ep) in
            let b = later_back base log q e (omega arith) (get q e eq) in
            let ap' = a.2 in let bp' = b.2 in
            let hand : b.1 ≡ a.1 = one a.0 b.0 (a.1, d) (b.1, e) (omega arith) a.3 b.3 c in (
              (λ h. let r = own_there id (length base) p d log (has (p, d) h) in let at = r.1 in let same_place : r.0 ≡ a.0 = omega arith in
                  let mine : id ≡ a.1 = ap (λ (z : ℕ × E). z.0) (some-injective (id, d) (a.1, d) (sym r.2 ∙ (ap (get_elem? log) same_place ∙ a.3))) in
                  had (q, e) (subst (λ (z : ℕ). Has (z, e) (own_of id (length base) log)) (sym bp')
                  (own_back id (length base) b.0 e log (b.3 ∙ ap (λ (z : ℕ). some (z, e)) (hand ∙ sym mine))))),
              (λ h. let r = own_there id (length base) q e log (has (q, e) h) in let at = r.1 in let same_place : r.0 ≡ b.0 = omega arith in
                  let mine : id ≡ b.1 = ap (λ (z : ℕ × E). z.0) (some-injective (id, e) (b.1, e) (sym r.2 ∙ (ap (get_elem? log) same_place ∙ b.3))) in
                  had (p, d) (subst (λ (z : ℕ). Has (z, d) (own_of id (length base) log)) (sym ap')
                  (own_back id (length base) a.0 d log (a.3 ∙ ap (λ (z : ℕ). some (z, d)) (sym hand ∙ sym mine))))),
            );
      }

  word_at : (n m : ℕ) (ws : List ℕ) → ws ≡ n ∷ m ∷ [] → get_or ws 1 0 ≡ m
  word_at n m ws e = ap (λ (u : List ℕ). get_or u 1 0) e

  count_at : (n m : ℕ) (ws : List ℕ) → ws ≡ n ∷ m ∷ [] → get_or ws 0 0 ≡ n
  count_at n m ws e = ap (λ (u : List ℕ). get_or u 0 0) e

  -- a step that changes neither the turn nor its seat
  unmoved : (s : St) (r : OneHistory k s) (id : ℕ) (v : V) (cs : List (ℕ × T)) (word : ℕ) → get_elem? s.views id ≡ some v
      → word % 4 ≡ lock_word k r.phase → OneHistory k (stepped s 1 word id cs v keeps)
  unmoved s r id v cs word at says = record {
    fixed = r.fixed;
    base = r.base;
    history = r.history;
    log = r.log;
    phase = r.phase;
    word = word;
    made = r.made;
    words = ap (λ (u : List ℕ). set u 1 word) r.words;
    says = says;
    homes = r.homes;
    legal = r.legal;
    placed = subst (λ (z : List V). InPhase k r.fixed r.history z r.phase) (sym (set_again s.views id v at)) r.placed;
    shares = ap (total (λ (u : V). u.share)) (set_again s.views id v at) ∙ r.shares;
    seats = subst (λ (z : List V). Below (length z) r.log) (sym (set_again s.views id v at)) r.seats;
    one_hand = r.one_hand;
    each = subst (λ (z : List V). (j : ℕ) (u : V) → get_elem? z j ≡ some u → Fits k r.fixed r.base r.history r.log r.phase j u)
        (sym (set_again s.views id v at)) r.each;
  }

  -- what the word that is found says of the turn
  says_found : (s : St) (r : OneHistory k s) → get_or s.words 1 0 % 4 ≡ lock_word k r.phase
  says_found s r = ap (λ (n : ℕ). n % 4) (word_at (length r.history) r.word s.words r.words) ∙ r.says

  -- What is said of those who wait changes nothing else.
  pub warns : (slots id old new : ℕ) (m : Me T V) → new % 4 ≡ old % 4
      → Allows (OneHistory k) slots id m 1 (λ n. either (eqb n old) new n) (warned k (step slots 1 old new none) m)
  warns slots id old new m same s r len at small =
      let n : ℕ = get_or s.words 1 0 in
      let says = says_found s r in
      exchanged n old new (λ (j : ℕ). (w : V) × (a : Act T) × Valid s.homes m.1 a
      × OneHistory k (stepped s 1 j id m.1 w a) × warned k (step slots 1 old new none) m n (w, carried_after m.1 a))
      (λ e. (m.0, keeps, tt, unmoved s r id m.0 m.1 new at (same ∙ (ap (λ (z : ℕ). z % 4) (sym e) ∙ says)), refl))
      (λ d. (m.0, keeps, tt, unmoved s r id m.0 m.1 n at says, refl))

  taken_now : (s : St) (r : OneHistory k s) (id : ℕ) (v : V) (word : ℕ) (p : Phase T) → r.phase ≡ p → get_elem? s.views id ≡ some v → 0 < v.share
      → lock_word k p ≢ 1 → word % 4 ≡ 1
      → (w : V) × (a : Act T) × Valid s.homes [] a × OneHistory k (stepped s 1 word id [] w a) × Took k v (w, carried_after [] a)
  taken_now s r id v word (held j b) is at some_share free taken = absurd (free refl)
  taken_now s r id v word (home x) is at some_share free taken =
      let fit = subst (λ (z : Phase T). Fits k r.fixed r.base r.history r.log z id v) is (r.each id v at) in
      let placed = subst (λ (z : Phase T). InPhase k r.fixed r.history s.views z) is r.placed in
      let homes : s.homes ≡ some x ∷ [] = r.homes ∙ ap (homes_in k) is in
      let w : V = taking k v x in (
        w,
        takes 0 x,
        ap (λ hs. get_elem? hs 0) homes,
        record {
          fixed = r.fixed;
          base = r.base;
          history = r.history;
          log = r.log;
          phase = held id (k.shut x);
          word = word;
          made = r.made;
          words = ap (λ (u : List ℕ). set u 1 word) r.words;
          says = taken;
          homes = ap (λ hs. set hs 0 none) homes;
          legal = r.legal;
          placed = (w, set_here s.views id w (at_within s.views id v at), refl);
          shares = (let b = total_set (λ (u : V). u.share) s.views id v w at in let d = r.shares in omega arith);
          seats = below_more (length s.views) (length (set s.views id w)) r.log (omega (arith, length-set s.views id w)) r.seats;
          one_hand = r.one_hand;
          each = each_set (Fits k r.fixed r.base r.history r.log (held id (k.shut x))) s.views id w
              record {
                alive = fit.alive;
                seen = subst (λ (z : List E). IsPrefix z r.history) (sym placed.0) (prefix_self r.history);
                told = fit.told;
                own = fit.own;
                idle = λ z. absurd (omega arith);
                turn = λ _. (refl, placed.0);
                shut = λ z. z;
              }
              (λ i u no e. let f = subst (λ (z : Phase T). Fits k r.fixed r.base r.history r.log z i u) is (r.each i u e) in
              record {
                alive = f.alive;
                seen = f.seen;
                told = f.told;
                own = f.own;
                idle = f.idle;
                turn = λ t. false_true (ap is_held (f.turn t).0);
                shut = f.shut;
              });
        },
        (x, refl, refl, met r.fixed r.base r.history r.log id v x r.made r.legal r.one_hand fit some_share placed.0 placed.1),
      )

  turns_at : (slots id free word : ℕ) (v : V) → 0 < v.share → free % 4 ≢ 1 → word % 4 ≡ 1
      → Allows (OneHistory k) slots id (v, []) 1 (λ n. either (eqb n free) word n) (turned k (step slots 1 free word none) (v, []))
  turns_at slots id free word v some_share free_one taken s r len at small =
      let n : ℕ = get_or s.words 1 0 in
      let says = says_found s r in
      exchanged n free word (λ (m : ℕ). (w : V) × (a : Act T) × Valid s.homes [] a
      × OneHistory k (stepped s 1 m id [] w a) × turned k (step slots 1 free word none) (v, []) n (w, carried_after [] a))
      (λ e. let t = taken_now s r id v word r.phase refl at some_share (λ h. free_one (ap (λ (z : ℕ). z % 4) (sym e) ∙ (says ∙ h))) taken in
      (t.0, t.1, t.2, t.3, ((λ _. t.4), (λ d. absurd (d e)))))
      (λ d. (v, keeps, tt, unmoved s r id v [] n at says, ((λ e. absurd (d e)), λ _. refl)))

  pub turns : (slots id free word : ℕ) (m : Me T V) → m.1 ≡ [] → 0 < m.0.share → free % 4 ≢ 1 → word % 4 ≡ 1
      → Allows (OneHistory k) slots id m 1 (λ n. either (eqb n free) word n) (turned k (step slots 1 free word none) m)
  turns slots id free word m e some_share free_one taken =
      subst (λ (cs : List (ℕ × T)). Allows (OneHistory k) slots id (m.0, cs) 1 (λ n. either (eqb n free) word n)
      (turned k (step slots 1 free word none) (m.0, cs))) (sym e) (turns_at slots id free word m.0 some_share free_one taken)

  abbrev slot_of : T → List (ℕ × T) → T
  slot_of d [] = d
  slot_of d (x ∷ xs) = x.1

  pub held_state : (y z : T) → ◌≡◌ {A = List (ℕ × T)} ((0, y) ∷ []) ((0, z) ∷ []) → y ≡ z
  held_state y z e = ap (slot_of y) e

  more_placed : (f : F) (h h' : List E) (vs : List V) (p : Phase T) (j : ℕ) (b : Bool) → p ≡ held j b → InPhase k f h vs p → InPhase k f h' vs p
  more_placed f h h' vs (home x) j b e i = false_true (ap is_held e)
  more_placed f h h' vs (held a c) j b e i = i

  prefix_snoc : (xs ys : List E) (e : E) → IsPrefix xs ys → IsPrefix xs (ys ++ e ∷ [])
  prefix_snoc xs ys e p = prefix_trans xs ys (ys ++ e ∷ []) p (e ∷ [], refl)

  hand_snoc : (base : List E) (log : List (ℕ × E)) (id : ℕ) (e : E) → OneHand k log
      → ((i : ℕ) (a : ℕ × E) → get_elem? log i ≡ some a → k.closes e a.1 → id ≡ a.0) → OneHand k (log ++ (id, e) ∷ [])
  hand_snoc base log id e one new p q a b lt ea eb c = ⊎_elim
      (λ (t : (q < length log) × (get_elem? log q ≡ some b)). ⊎_elim
      (λ (u : (p < length log) × (get_elem? log p ≡ some a)). one p q a b lt u.1 t.1 c)
      (λ (u : (p ≡ length log) × ((id, e) ≡ a)). let x = t.0 in let y = u.0 in absurd (omega arith))
      (at_end log (id, e) a p ea))
      (λ (t : (q ≡ length log) × ((id, e) ≡ b)). ⊎_elim
      (λ (u : (p < length log) × (get_elem? log p ≡ some a)). ap (λ (z : ℕ × E). z.0) (sym t.1)
      ∙ new p a u.1 (subst (λ (z : ℕ × E). k.closes z.1 a.1) (sym t.1) c))
      (λ (u : (p ≡ length log) × ((id, e) ≡ a)). let x = t.0 in let y = u.0 in absurd (omega arith))
      (at_end log (id, e) a p ea))
      (at_end log (id, e) b q eb)

  some_fixed : (a b : F) → Some a ≡ Some b → a ≡ b
  some_fixed a b e = cc

  module _ (s : St) (r : OneHistory k s) (id : ℕ) (v : V) (at : get_elem? s.views id ≡ some v) (turn : v.turn ≡ true) where
    mine : Fits k r.fixed r.base r.history r.log r.phase id v
    mine = r.each id v at

    alive_here : 0 < v.share
    alive_here = dite (ℕ_discrete v.share 0) (λ z. false_true (sym (mine.idle z).1 ∙ turn)) (λ n. omega arith)

    -- no other seat has the turn
    alone : (j : ℕ) (b : Bool) → j ≢ id → r.phase ≡ held j b → ⊥
    alone j b ne e = ne (ap seat_of (sym e ∙ (mine.turn turn).0))

    pub marks_at : (cs : List (ℕ × T)) (y : T) (e : E) → Some (k.fixed y) ≡ v.fixed → k.legal (k.fixed y) (k.history y)
        → k.history y ≡ v.seen ++ e ∷ [] → ClosesIn k v e
        → OneHistory k (stepped s 0 (length (k.history y)) id cs (adding v e) keeps)
    marks_at cs y e fixed legal adds closes =
        let log : List (ℕ × E) = r.log ++ (id, e) ∷ [] in
        let h : List E = r.history ++ e ∷ [] in
        let t = mine.turn turn in
        let alive = mine.alive alive_here in
        let grown : k.history y ≡ h = adds ∙ ap (λ (z : List E). z ++ e ∷ []) t.1 in
        let f : k.fixed y ≡ r.fixed = some_fixed (k.fixed y) r.fixed (fixed ∙ alive.0) in
        let from : length v.base ≡ length r.base = ap length alive.1 in
        let long : length v.seen ≡ length r.base + length r.log = ap length (t.1 ∙ r.made) ∙ length_entries r.base r.log in
        record {
          fixed = r.fixed;
          base = r.base;
          history = h;
          log = log;
          phase = r.phase;
          word = r.word;
          made = ap (λ (z : List E). z ++ e ∷ []) r.made ∙ sym (entries_snoc r.base r.log id e);
          words = ap (λ (u : List ℕ). set u 0 (length (k.history y))) r.words ∙ ap (λ (z : List E). length z ∷ r.word ∷ []) grown;
          says = r.says;
          homes = r.homes;
          legal = subst (λ (z : F × List E). k.legal z.0 z.1) (λ i. (f i, grown i)) legal;
          placed = more_placed r.fixed r.history h (set s.views id (adding v e)) r.phase id v.shut t.0
              (placed_set r.fixed r.history s.views id v (adding v e) at (λ u. u) r.phase r.placed);
          shares = (let b = total_set (λ (u : V). u.share) s.views id v (adding v e) at in let d = r.shares in omega arith);
          seats = below_more (length s.views) (length (set s.views id (adding v e))) log (omega (arith, length-set s.views id (adding v e)))
              (below_snoc (length s.views) r.log (id, e) (at_within s.views id v at) r.seats);
          one_hand = hand_snoc r.base r.log id e r.one_hand (λ i a ea c.
              let there = own_there id (length r.base) (length r.base + i) a.1 r.log (subst (Has (length r.base + i, a.1)) mine.own
              (closes (length r.base + i) a.1 (omega arith) (subst (λ (z : List E). slice_get z (length r.base + i) ≡ Some a.1) (sym (t.1 ∙ r.made))
              (later_at r.base r.log (length r.base + i) i a refl ea)) c)) in
              let same_place : i ≡ there.0 = (let z = there.1 in omega arith) in
              ap (λ (z : ℕ × E). z.0) (some-injective (id, a.1) a (sym there.2 ∙ (ap (get_elem? r.log) (sym same_place) ∙ ea))));
          each = each_set (Fits k r.fixed r.base h log r.phase) s.views id (adding v e)
              record {
                alive = mine.alive;
                seen = subst (λ (z : List E). IsPrefix z h) (ap (λ (z : List E). z ++ e ∷ []) (sym t.1)) (prefix_self h);
                told = prefix_snoc v.told r.history e mine.told;
                own = ap (λ (z : List (ℕ × E)). z ++ (length v.seen, e) ∷ []) mine.own
                    ∙ (ap (λ (n : ℕ). own_of id (length r.base) r.log ++ (n, e) ∷ []) long ∙ sym (own_added id (length r.base) r.log e));
                idle = λ z. (let l = alive_here in absurd (omega arith));
                turn = λ _. (t.0, ap (λ (z : List E). z ++ e ∷ []) t.1);
                shut = mine.shut;
              }
              (λ i u ne eu. let g = r.each i u eu in
              record {
                alive = g.alive;
                seen = prefix_snoc u.seen r.history e g.seen;
                told = prefix_snoc u.told r.history e g.told;
                own = g.own ∙ sym (own_other i id (length r.base) r.log e (λ z. ne (sym z)));
                idle = g.idle;
                turn = λ z. absurd (alone i u.shut ne (g.turn z).0);
                shut = g.shut;
              });
        }

    pub frees_at : (y : T) (word : ℕ) → word % 4 ≡ lock_word k (home y) → Some (k.fixed y) ≡ v.fixed → k.history y ≡ v.seen
        → (v.shut ≡ true → k.shut y ≡ true) → OneHistory k (stepped s 1 word id ((0, y) ∷ []) (freeing k v y) gives)
    frees_at y word says fixed same shut =
        let t = mine.turn turn in
        let alive = mine.alive alive_here in
        record {
          fixed = r.fixed;
          base = r.base;
          history = r.history;
          log = r.log;
          phase = home y;
          word = word;
          made = r.made;
          words = ap (λ (u : List ℕ). set u 1 word) r.words;
          says = says;
          homes = ap (λ hs. set hs 0 (some y)) (r.homes ∙ ap (homes_in k) t.0);
          legal = r.legal;
          placed = (same ∙ t.1, some_fixed (k.fixed y) r.fixed (fixed ∙ alive.0));
          shares = (let b = total_set (λ (u : V). u.share) s.views id v (freeing k v y) at in let d = r.shares in omega arith);
          seats = below_more (length s.views) (length (set s.views id (freeing k v y))) r.log (omega (arith, length-set s.views id (freeing k v y))) r.seats;
          one_hand = r.one_hand;
          each = each_set (Fits k r.fixed r.base r.history r.log (home y)) s.views id (freeing k v y)
              record {
                alive = mine.alive;
                seen = mine.seen;
                told = mine.told;
                own = mine.own;
                idle = λ z. (let l = alive_here in absurd (omega arith));
                turn = λ z. false_true z;
                shut = λ z. z;
              }
              (λ i u ne eu. let g = r.each i u eu in
              record {
                alive = g.alive;
                seen = g.seen;
                told = g.told;
                own = g.own;
                idle = g.idle;
                turn = λ z. absurd (alone i u.shut ne (g.turn z).0);
                shut = λ z. shut (sym (ap (shut_in k) t.0) ∙ g.shut z);
              });
        }

  pub marks : (slots id : ℕ) (m : Me T V) (y : T) (old new : ℕ) → m.1 ≡ (0, y) ∷ [] → m.0.turn ≡ true → old ≡ length m.0.seen → new ≡ length (k.history y)
      → old < new → MayEnd k m.0 y → Allows (OneHistory k) slots id m 0 (λ n. either (eqb n old) new n) (marked k (step slots 0 old new none) m)
  marks slots id m y old new slot turn is long lt ends s r len at small =
      let v : V = m.0 in
      let t = (r.each id v at).turn turn in
      let n : ℕ = get_or s.words 0 0 in
      let found : n ≡ old = count_at (length r.history) r.word s.words r.words ∙ (ap length (sym t.1) ∙ sym is) in
      ⊎_elim
      (λ (same : k.history y ≡ v.seen). let a = ap length same in absurd (omega arith))
      (λ (more : (e : E) × (k.history y ≡ v.seen ++ e ∷ []) × ClosesIn k v e). (
        adding v more.0,
        keeps,
        tt,
        subst (λ (b : Bool). OneHistory k (stepped s 0 (either b new n) id m.1 (adding v more.0) keeps)) (sym (eq-eqb n old found))
            (subst (λ (j : ℕ). OneHistory k (stepped s 0 j id m.1 (adding v more.0) keeps)) (sym long)
            (marks_at s r id v at turn m.1 y more.0 ends.fixed ends.legal more.1 more.2)),
        (refl, λ z e. (more.0, subst (λ (x : T). k.history x ≡ v.seen ++ more.0 ∷ []) (held_state y z (sym slot ∙ e)) more.1, refl)),
      ))
      ends.adds

  frees_with : (slots id : ℕ) (v : V) (y : T) (added : ℕ) → v.turn ≡ true → added ≡ to_free (k.shut y) → Some (k.fixed y) ≡ v.fixed
      → k.history y ≡ v.seen → (v.shut ≡ true → k.shut y ≡ true)
      → Allows (OneHistory k) slots id (v, (0, y) ∷ []) 1 (λ n. (n + added) % 18446744073709551616) (freed k (step slots 1 added 0 none) (v, (0, y) ∷ []))
  frees_with slots id v y added turn is fixed same shut s r len at small =
      let n : ℕ = get_or s.words 1 0 in
      let taken : n % 4 ≡ 1 = says_found s r ∙ ap (lock_word k) ((r.each id v at).turn turn).0 in (
        freeing k v y,
        gives,
        tt,
        frees_at s r id v at turn y ((n + added) % 18446744073709551616)
            (ap (λ (a : ℕ). (n + a) % 18446744073709551616 % 4) is ∙ freed_low n (k.shut y) taken) fixed same shut,
        (refl, λ z e. ap (freeing k v) (held_state y z e)),
      )

  -- what holds of the state before it goes back
  pub ready : (v w : V) (y : T) → v.turn ≡ true → MayEnd k v y → IsMarked k v y w
      → (w.turn ≡ true) × (Some (k.fixed y) ≡ w.fixed) × (k.history y ≡ w.seen) × (w.shut ≡ true → k.shut y ≡ true)
  ready v w y turn ends m = ⊎_elim
      (λ (t : (k.history y ≡ v.seen) × (w ≡ v)). let e = t.1 in (
        ap (λ (u : V). u.turn) e ∙ turn,
        ends.fixed ∙ ap (λ (u : V). u.fixed) (sym e),
        t.0 ∙ ap (λ (u : V). u.seen) (sym e),
        λ h. ends.shut (sym (ap (λ (u : V). u.shut) e) ∙ h),
      ))
      (λ (t : (x : E) × (k.history y ≡ v.seen ++ x ∷ []) × (w ≡ adding v x)). let e = t.2 in (
        ap (λ (u : V). u.turn) e ∙ turn,
        ends.fixed ∙ ap (λ (u : V). u.fixed) (sym e),
        t.1 ∙ ap (λ (u : V). u.seen) (sym e),
        λ h. ends.shut (sym (ap (λ (u : V). u.shut) e) ∙ h),
      ))
      m

  pub frees : (slots id : ℕ) (m : Me T V) (v w : V) (y : T) (added : ℕ) → m ≡ (w, (0, y) ∷ []) → v.turn ≡ true
      → added ≡ to_free (k.shut y) → MayEnd k v y → IsMarked k v y w
      → Allows (OneHistory k) slots id m 1 (λ n. (n + added) % 18446744073709551616) (freed k (step slots 1 added 0 none) m)
  frees slots id m v w y added e turn is ends marks =
      let r = ready v w y turn ends marks in
      subst (λ (z : Me T V). Allows (OneHistory k) slots id z 1 (λ n. (n + added) % 18446744073709551616) (freed k (step slots 1 added 0 none) z))
      (sym e) (frees_with slots id w y added r.0 is r.1 r.2 r.3)

  -- what a seat holds that took the turn
  pub holds : (v : V) (m : Me T V) (x : T) → Took k v m → m.1 ≡ (0, x) ∷ rest m.1 → (m.0 ≡ taking k v x) × (rest m.1 ≡ []) × Meets k (known_by v) x
  holds v m x took is =
      let none_left : rest m.1 ≡ [] = ap rest took.2 in
      let same : took.0 ≡ x = held_state took.0 x (sym took.2 ∙ (is ∙ ap (λ (cs : List (ℕ × T)). (0, x) ∷ cs) none_left)) in
      (took.1 ∙ ap (taking k v) same, none_left, subst (Meets k (known_by v)) same took.3)

  -- a state that a job left may end the hold
  pub ends : (v : V) (x y : T) → Meets k (known_by v) x → Owes k (known_by v) x y → MayEnd k (taking k v x) y
  ends v x y meets owes = record { fixed = ap (λ (f : F). Some f) owes.fixed ∙ meets.fixed; legal = owes.legal; shut = owes.shut; adds = owes.adds }

  pub after : (v : V) (x y : T) (w : V) → IsFreed k (taking k v x) y w → Knows k (known_by v) x y (known_by w)
  after v x y w done = ⊎_elim
      (λ (t : (k.history y ≡ k.history x) × (w ≡ freeing k (taking k v x) y)). let e = t.1 in record {
        fixed = ap (λ (u : V). u.fixed) e;
        base = ap (λ (u : V). u.base) e;
        share = ap (λ (u : V). u.share) e;
        seen = ap (λ (u : V). u.seen) e ∙ sym t.0;
        shut = ap (λ (u : V). u.shut) e;
        own = inl (t.0, ap (λ (u : V). u.own) e);
      })
      (λ (t : (z : E) × (k.history y ≡ k.history x ++ z ∷ []) × (w ≡ freeing k (adding (taking k v x) z) y)). let e = t.2 in record {
        fixed = ap (λ (u : V). u.fixed) e;
        base = ap (λ (u : V). u.base) e;
        share = ap (λ (u : V). u.share) e;
        seen = ap (λ (u : V). u.seen) e ∙ sym t.1;
        shut = ap (λ (u : V). u.shut) e;
        own = inr (t.0, t.1, ap (λ (u : V). u.own) e);
      })
      done

  pub rests_again : (v : V) (x y : T) (w : V) → Rests v → IsFreed k (taking k v x) y w → Rests w
  rests_again v x y w rests done = ⊎_elim
      (λ (t : (k.history y ≡ k.history x) × (w ≡ freeing k (taking k v x) y)). subst Rests (sym t.1) (rests.0, refl, rests.2))
      (λ (t : (z : E) × (k.history y ≡ k.history x ++ z ∷ []) × (w ≡ freeing k (adding (taking k v x) z) y)). subst Rests (sym t.2) (rests.0, refl, rests.2))
      done

  module _ (s : St) (r : OneHistory k s) (id : ℕ) (v : V) (at : get_elem? s.views id ≡ some v) (rests : v.turn ≡ false) (whole : v.share ≡ 4294967296) where
    -- another view has no share left
    nothing : (j : ℕ) (u : V) → j ≢ id → get_elem? s.views j ≡ some u → (u.own ≡ []) × (u.turn ≡ false)
    nothing j u ne e = (r.each j u e).idle (let t = total_two (λ (z : V). z.share) s.views j id u v ne e at in let d = r.shares in omega arith)

    one_seat : (i : ℕ) (a : ℕ × E) → get_elem? r.log i ≡ some a → a.0 ≡ id
    one_seat i a e = dite (ℕ_discrete a.0 id) (λ h. h) (λ ne.
        let u = some_at s.views a.0 (below_at (length s.views) i a r.log r.seats e) in
        let none_own : own_of a.0 (length r.base) r.log ≡ [] = sym (r.each a.0 u.0 u.1).own ∙ (nothing a.0 u.0 ne u.1).0 in
        absurd (subst (Has (length r.base + i, a.1)) none_own (own_back a.0 (length r.base) i a.1 r.log e)))

    closed_in : (p : Phase T) → r.phase ≡ p → (x : T) × (s.homes ≡ some x ∷ []) × ComesBack k (known_by v) x
    closed_in (held j b) is =
        let i = subst (λ (z : Phase T). InPhase k r.fixed r.history s.views z) is r.placed in
        dite (ℕ_discrete j id)
        (λ e. false_true (sym rests ∙ (ap (λ (u : V). u.turn) (sym (some-injective i.0 v (sym i.1 ∙ (ap (get_elem? s.views) e ∙ at)))) ∙ i.2)))
        (λ ne. false_true (sym (nothing j i.0 ne i.1).1 ∙ i.2))
    closed_in (home x) is =
        let placed = subst (λ (z : Phase T). InPhase k r.fixed r.history s.views z) is r.placed in
        let fit = r.each id v at in
        let alive = fit.alive (omega arith) in (
          x,
          r.homes ∙ ap (homes_in k) is,
          record {
            meets =
                met r.fixed r.base r.history r.log id v x r.made r.legal r.one_hand
                (subst (λ (z : Phase T). Fits k r.fixed r.base r.history r.log z id v) is fit) (omega arith) placed.0 placed.1;
            all =
                placed.0 ∙ (r.made ∙ (ap (λ (z : List E). z ++ entries_of r.log) (sym alive.1)
                ∙ ap (λ (z : List E). v.base ++ z) (sym (ap (map (λ z. z.1)) fit.own ∙ own_all id (length r.base) r.log one_seat))));
          },
        )

  pub closes : (id : ℕ) (v : V) (ws : List ℕ) (xs : List T) (y : T) → v.turn ≡ false → v.share ≡ 4294967296
      → Final (Seen (OneHistory k) id v) ws xs → get_elem? xs 0 ≡ some y → ComesBack k (known_by v) y
  closes id v ws xs y rests whole final at =
      let s = final.0 in
      let kept = final.1 in
      let c = closed_in s kept.0 id v kept.1 rests whole kept.0.phase refl in
      subst (ComesBack k (known_by v)) (some-injective c.0 y (sym (final.4 0 c.0 (ap (λ hs. get_elem? hs 0) c.1)) ∙ at)) c.2
