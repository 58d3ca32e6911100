-- What a walk over words without a fault keeps of each row, where no argument has a short name.
use Rattle.std.proofs.Common.{◌≡◌, ℕ, Bool, cond, true, false, zero, suc, refl, sym, subst, List, [], ◌∷◌, length, drop, Option, Some, None, is_some}
use Rattle.std.specs.Prelude.{◌&&◌, encode_utf8, slice_get}
use Rattle.std.specs.List.{AllByRecursion, find, fold}
use Rattle.std.specs.Option.{option_map_or}
use Rattle.std.specs.Str.{bytes_eq, chars}
use Rattle.clap.specs.Lexer.{long_of, short_of}
use Rattle.clap.specs.Walk.{Held, Names, Outcome, Row, Rule, Step, Text, Waiting, Walk, after_flag, after_step, arg_by_id, arg_by_index, arg_by_long, arg_by_short, bundle, bundle_met, bundle_step, done, flag_met, idle, is_pending, long_met, long_or_other, next, nothing_held, option, option_met, option_word, plain, plain_word, positional, reacted, refused, rows_after, settled, settled_rows, short_or_plain, subcommand, subcommand_met, subcommand_or_other, takes_several, takes_values, to_positional, trailing, used, used_by_id, value, waits, walk, walk_from, walked, walked_from, with_default, word_met}
use Rattle.clap.specs.Simple.{Shape}
use Rattle.clap.specs.Faults.{flag_word_fault, level_fault, long_fault, option_fault, other_fault, positional_fault, react_fault, settle_fault, step_fault, stray_fault, turn_fault, use_fault, walk_fault, word_fault}
use Rattle.clap.specs.Kinds.{Kinds, or_else}
use Rattle.clap.specs.declared.error.kind.ErrorKind.TheVariants as kind

pub both_empty : (a b : Kinds) → or_else a b ≡ [] → (a ≡ []) × (b ≡ [])
both_empty [] b e = (refl, e)
both_empty (k ∷ ks) b e = cc e

pub holds_of_found : {X : Type 0} (P : X → Type 0) (p : X → Bool) (xs : List X) (x : X) → AllByRecursion P xs → find p xs ≡ Some x → P x
holds_of_found P p [] x all e = cc e
holds_of_found P p (y ∷ ys) x all e = go (p y) (holds_of_found P p ys x all.1) e
  where
    go : (b : Bool) → (find p ys ≡ Some x → P x) → cond b (Some y) (find p ys) ≡ Some x → P x
    go true later e = let same : y ≡ x = cc e in subst P same all.0
    go false later e = later e

-- a bundle of flags changes no row where none has a short name
bundle_rows : (c : List Rule) → ((x : ℕ) → arg_by_short c x ≡ None) → (k : ℕ) (flags : Text) (skip : ℕ) (so_far : Outcome) (h : Held)
    → (bundle_met c k flags skip so_far h).0.rows ≡ h.rows
unfolding bundle_met
bundle_rows c none zero flags skip so_far h = refl
bundle_rows c none (suc k) flags skip so_far h = go (slice_get (chars flags) 0) skip (λ x less. bundle_rows c none k (drop (length (encode_utf8 x)) flags) less so_far h)
  where
    go : (o : Option ℕ) (skip : ℕ) → ((x less : ℕ) → (bundle_met c k (drop (length (encode_utf8 x)) flags) less so_far h).0.rows ≡ h.rows)
        → (bundle_step c o flags skip so_far h (bundle_met c k)).0.rows ≡ h.rows
    go None skip later = refl
    go (Some x) zero later = rw (none x) refl
    go (Some x) (suc less) later = later x less

module _ (Fine : Row → Type 0) where
  abbrev pub AllFine : List Row → Type 0
  AllFine rows = AllByRecursion Fine rows

  -- a use of the argument that has no fault keeps the rows fine, and so does its default
  abbrev pub UseKeeps : Bool → Rule → Type 0
  UseKeeps again a = (values : List Text) (rows : List Row) → AllFine rows → use_fault again a values rows ≡ [] → AllFine (used a values rows)

  abbrev pub DefaultKeeps : Rule → Type 0
  DefaultKeeps a = (rows : List Row) → AllFine rows → AllFine (with_default rows a)

  defaults_keep : (rules : List Rule) → AllByRecursion DefaultKeeps rules → (rows : List Row) → AllFine rows → AllFine (fold with_default rows rules)
  defaults_keep [] keeps rows fine = fine
  defaults_keep (a ∷ rest) keeps rows fine = defaults_keep rest keeps.1 (with_default rows a) (keeps.0 rows fine)

  module _ (s : Shape) (names : Names) (uses : AllByRecursion (UseKeeps s.args_override_self) s.rules) (none : (x : ℕ) → arg_by_short s.rules x ≡ None) where
    pending_keeps : (o : Option (Text × List Text)) (rows : List Row) → AllFine rows
        → option_map_or (λ p. option_map_or (λ a. use_fault s.args_override_self a p.1 rows) (arg_by_id s.rules p.0) []) o [] ≡ []
        → AllFine (settled_rows s.rules o rows)
    pending_keeps None rows fine e = fine
    pending_keeps (Some p) rows fine e = go (arg_by_id s.rules p.0) refl e
      where
        go : (o : Option Rule) → arg_by_id s.rules p.0 ≡ o → option_map_or (λ a. use_fault s.args_override_self a p.1 rows) o [] ≡ []
            → AllFine (used_by_id o p.1 rows)
        go None is e = fine
        go (Some a) is e = holds_of_found (UseKeeps s.args_override_self) _ s.rules a uses is p.1 rows fine e

    settled_keeps : (h : Held) → AllFine h.rows → settle_fault s.rules s.args_override_self h ≡ [] → AllFine (settled s.rules h).rows
    settled_keeps h fine e = pending_keeps h.pending h.rows fine e

    react_keeps : (a : Rule) (values : List Text) (h : Held) → UseKeeps s.args_override_self a → AllFine h.rows
        → react_fault s.rules s.args_override_self a values h ≡ [] → AllFine (reacted s.rules a values h).rows
    react_keeps a values h keeps fine e =
        let both = both_empty (settle_fault s.rules s.args_override_self h) _ e in
        keeps values (settled s.rules h).rows (settled_keeps h fine both.0) both.1

    option_keeps : (a : Rule) (v : Option Text) (h : Held) → UseKeeps s.args_override_self a → AllFine h.rows
        → option_fault s.rules s.args_override_self a v h ≡ [] → AllFine (option_met s.rules a v h).0.rows
    option_keeps a (Some v) h keeps fine e = react_keeps a (v ∷ []) h keeps fine e
    option_keeps a None h keeps fine e = settled_keeps h fine e

    flag_keeps : (a : Rule) (v : Option Text) (h : Held) → UseKeeps s.args_override_self a → AllFine h.rows
        → cond (is_some v) (kind.TooManyValues ∷ []) (react_fault s.rules s.args_override_self a [] h) ≡ [] → AllFine (flag_met s.rules a v h).0.rows
    flag_keeps a (Some v) h keeps fine e = fine
    flag_keeps a None h keeps fine e = react_keeps a [] h keeps fine e

    long_keeps : (o : Option Rule) (v : Option Text) (h : Held) → ((a : Rule) → o ≡ Some a → UseKeeps s.args_override_self a) → AllFine h.rows
        → long_fault s.rules s.args_override_self o v h ≡ [] → AllFine (long_met s.rules o v h).0.rows
    long_keeps None v h keeps fine e = fine
    long_keeps (Some a) v h keeps fine e = go (takes_values a) e
      where
        go : (b : Bool) → cond b (option_fault s.rules s.args_override_self a v h)
            (cond (is_some v) (kind.TooManyValues ∷ []) (react_fault s.rules s.args_override_self a [] h)) ≡ []
            → AllFine (cond b (option_met s.rules a v h) (flag_met s.rules a v h)).0.rows
        go true e = option_keeps a v h (keeps a refl) fine e
        go false e = flag_keeps a v h (keeps a refl) fine e

    word_keeps : (o : Option Rule) (id word : Text) (h : Held) → AllFine h.rows → AllFine (option_word o id word h).0.rows
    word_keeps None id word h fine = fine
    word_keeps (Some a) id word h fine = fine

    plain_keeps : (waiting : Waiting) (word : Text) (h : Held) → AllFine h.rows → AllFine (plain_word s.rules waiting word h).0.rows
    plain_keeps idle word h fine = fine
    plain_keeps (option id) word h fine = word_keeps (arg_by_id s.rules id) id word h fine
    plain_keeps positional word h fine = fine

    flagged_keeps : (waiting : Waiting) (word : Text) (h : Held) (o : Outcome) → AllFine h.rows → AllFine (after_flag s.rules waiting word h o).0.rows
    flagged_keeps waiting word h done fine = fine
    flagged_keeps waiting word h (waits id) fine = fine
    flagged_keeps waiting word h plain fine = plain_keeps waiting word h fine
    flagged_keeps waiting word h refused fine = plain_keeps waiting word h fine

    short_keeps : (waiting : Waiting) (word : Text) (o : Option Text) (h : Held) → AllFine h.rows → AllFine (short_or_plain s.rules waiting word o h).0.rows
    short_keeps waiting word None h fine = plain_keeps waiting word h fine
    short_keeps waiting word (Some flags) h fine = flagged_keeps waiting word (bundle s.rules flags h).0 (bundle s.rules flags h).1
        (subst AllFine (sym (bundle_rows s.rules none (length flags) flags h.skip plain (record h { skip = 0 }))) fine)

    flag_word_keeps : (waiting : Waiting) (word : Text) (o : Option (Text × Option Text)) (h : Held) → AllFine h.rows
        → flag_word_fault s.rules s.args_override_self o word h ≡ [] → AllFine (long_or_other s.rules waiting word o h).0.rows
    flag_word_keeps waiting word (Some p) h fine e = flagged_keeps waiting word (long_met s.rules (arg_by_long s.rules p.0) p.1 h).0 (long_met s.rules (arg_by_long s.rules p.0) p.1 h).1
        (long_keeps (arg_by_long s.rules p.0) p.1 h (λ a is. holds_of_found (UseKeeps s.args_override_self) _ s.rules a uses is) fine e)
    flag_word_keeps waiting word None h fine e = short_keeps waiting word (short_of word) h fine

    other_keeps : (waiting : Waiting) (position : ℕ) (word : Text) (o : Option Text) (h : Held) → AllFine h.rows
        → other_fault s o word h ≡ [] → AllFine (subcommand_or_other s.rules o waiting position word h).0.rows
    other_keeps waiting position word (Some name) h fine e = fine
    other_keeps waiting position word None h fine e = go (bytes_eq word (45 ∷ 45 ∷ [])) e
      where
        go : (b : Bool) → cond b [] (flag_word_fault s.rules s.args_override_self (long_of word) word h) ≡ []
            → AllFine (cond b (h, trailing position) (long_or_other s.rules waiting word (long_of word) h)).0.rows
        go true e = fine
        go false e = flag_word_keeps waiting word (long_of word) h fine e

    met_keeps : (is_trailing : Bool) (waiting : Waiting) (position : ℕ) (word : Text) (h : Held) → AllFine h.rows
        → word_fault s names is_trailing waiting word h ≡ [] → AllFine (word_met s.rules names is_trailing waiting position word h).0.rows
    met_keeps true waiting position word h fine e = fine
    met_keeps false waiting position word h fine e = other_keeps waiting position word (subcommand_met names waiting word) h fine e

    pushed_keeps : (b : Bool) (h : Held) → AllFine h.rows → cond b [] (settle_fault s.rules s.args_override_self h) ≡ [] → AllFine (cond b h (settled s.rules h)).rows
    pushed_keeps true h fine e = fine
    pushed_keeps false h fine e = settled_keeps h fine e

    positional_keeps : (o : Option Rule) (w : Walk) (word : Text) (h : Held) → AllFine h.rows
        → option_map_or (λ a. positional_fault s.rules s.args_override_self a h) o (stray_fault s) ≡ [] → AllFine (to_positional s.rules o word w h).held.rows
    positional_keeps None w word h fine e = fine
    positional_keeps (Some a) w word h fine e = pushed_keeps (is_pending a h.pending && takes_several a) h fine e

    step_keeps : (w : Walk) (word : Text) (h : Held) (step : Step) → AllFine h.rows
        → step_fault s w.position h step ≡ [] → AllFine (after_step s.rules word w h step).held.rows
    step_keeps w word h (next waiting) fine e = fine
    step_keeps w word h (trailing position) fine e = fine
    step_keeps w word h (subcommand name) fine e = fine
    step_keeps w word h value fine e = positional_keeps (arg_by_index s.rules w.position) w word h fine e

    turn_keeps : (w : Walk) (word : Text) → AllFine w.held.rows → turn_fault s names w word ≡ [] → AllFine (walked s.rules names w word).held.rows
    unfolding walked
    turn_keeps w word fine e = go w.stopped e
      where
        go : (o : Option (Text × List Text))
            → cond (is_some o) [] (or_else (word_fault s names w.is_trailing w.waiting word w.held)
            (let met = word_met s.rules names w.is_trailing w.waiting w.position word w.held in step_fault s w.position met.0 met.1)) ≡ []
            → AllFine (walked_from s.rules names o w word).held.rows
        go (Some p) e = fine
        go None e =
            let met = word_met s.rules names w.is_trailing w.waiting w.position word w.held in
            let both = both_empty (word_fault s names w.is_trailing w.waiting word w.held) _ e in
            step_keeps w word met.0 met.1 (met_keeps w.is_trailing w.waiting w.position word w.held fine both.0) both.1

    walk_keeps : (w : Walk) (words : List Text) → AllFine w.held.rows → walk_fault s names w words ≡ [] → AllFine (fold (walked s.rules names) w words).held.rows
    unfolding walk_fault
    walk_keeps w [] fine e = fine
    walk_keeps w (word ∷ rest) fine e =
        let both = both_empty (turn_fault s names w word) _ e in
        walk_keeps (walked s.rules names w word) rest (turn_keeps w word fine both.0) both.1

    -- the rows of one command, at words without a fault
    pub level_keeps : (words : List Text) (has_subcommand : Bool) (below : Kinds) → AllByRecursion DefaultKeeps s.rules
        → level_fault s names nothing_held words has_subcommand below ≡ [] → AllFine (rows_after s.rules names words)
    level_keeps words has_subcommand below defaults e =
        let end = (walk s.rules names nothing_held words).held in
        let walked_well = both_empty (walk_fault s names (walk_from nothing_held) words) _ e in
        let below_well = both_empty below _ walked_well.1 in
        let settled_well = both_empty (settle_fault s.rules s.args_override_self end) _ below_well.1 in
        defaults_keep s.rules defaults (settled s.rules end).rows
        (settled_keeps end (walk_keeps (walk_from nothing_held) words tt walked_well.0) settled_well.0)
