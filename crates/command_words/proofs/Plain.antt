-- Words of which none begins with a hyphen are the commands of the table.
use Rattle.std.proofs.Common.{◌≡◌, ◌<◌, ℕ, Bool, cond, true, false, refl, sym, ap, ap₂, subst, List, [], ◌∷◌, ◌∙◌, ◌++◌, Option, Some, None, is_some, arith, codes}
use Rattle.std.specs.Prelude.{◌^◌, ◌&&◌}
use Rattle.std.specs.List.{AllByRecursion, fold}
use Rattle.std.specs.Option.{option_map_or}
use Rattle.std.specs.Str.{bytes_eq}
use Rattle.std.proofs.lemmas.Slice.Eq.{bytes_eq-Decides}
use Rattle.clap.specs.Lexer.{long_of, short_of, without_minus}
use Rattle.clap.specs.ValueTests.{accepts}
use Rattle.clap.specs.Walk.{Held, Names, Rule, Step, Text, Waiting, Walk, after_step, arg_by_index, finished, idle, is_multiple, long_or_other, nothing_held, plain_word, rows_after, settled, short_or_plain, subcommand_met, subcommand_or_other, to_positional, trailing, value, walk_from, walked, word_met}
use Rattle.clap.specs.Simple.{Shape, built, entered, names_of}
use Rattle.clap.specs.Faults.{bundle_fault, check_fault, defaults_fault, entered_fault, flag_word_fault, level_fault, other_fault, settle_fault, step_fault, turn_fault, walk_fault, word_fault}
use Rattle.clap.specs.Kinds.{Kinds, or_else}
use Rattle.clap.specs.declared.error.kind.ErrorKind.TheVariants as kind
use Rattle.clap.proofs.WalkLemmas.{walk_stopped}
use Rattle.command_words.specs.Program.{from_to, greatest_amount, greatest_asks, greatest_seed, greatest_workers, program_app}
use Rattle.command_words.specs.Command.{Command, command_met, command_named, command_of, gen_of, grant_of, number_of_bits, unless_fault}
use Rattle.command_words.specs.Table.{begins_with_hyphen, plain_command, said_within}
use Rattle.command_words.proofs.Kept.{both_empty, holds_of_found}
use Rattle.command_words.proofs.Parses.{command_refused}
use Rattle.command_words.proofs.Accepted.{amount_parser, asks_parser, audit_shape, check_shape, derive_shape, gap_shape, gen_shape, grant_shape, init_shape, judge_shape, run_shape, seed_parser, serve_shape, workers_parser}
use Rattle.command_words.proofs.Said.{IsPlainWord, accepted_says, refused_says}

abbrev pub ArePlain : List Text → Type 0
ArePlain words = AllByRecursion IsPlainWord words

no_dashes : (word : Text) → IsPlainWord word → bytes_eq word (45 ∷ 45 ∷ []) ≡ false
no_dashes [] e = refl
no_dashes (x ∷ xs) e = rw e refl

no_long : (word : Text) → IsPlainWord word → long_of word ≡ None
no_long [] e = refl
no_long (x ∷ xs) e = rw e refl

no_short : (word : Text) → IsPlainWord word → short_of word ≡ None
no_short [] e = refl
no_short (x ∷ xs) e = rw e refl

-- ---- a plain word goes to the next positional

-- nothing waits, nothing was cut off
abbrev IsIdle : Walk → Type 0
IsIdle w = (w.waiting ≡ idle) × ((w.is_trailing ≡ false) × (w.stopped ≡ None))

abbrev pub next_walk : List Rule → Walk → Text → Walk
next_walk c w word = to_positional c (arg_by_index c w.position) word w w.held

abbrev at : Held → ℕ → Walk
at h p = record {
  held = h;
  waiting = idle;
  position = p;
  is_trailing = false;
  stopped = None;
}

pub word_is : (c : List Rule) (names : Names) (waiting : Waiting) (h : Held) (p : ℕ) (word : Text) → IsPlainWord word → subcommand_met names waiting word ≡ None
    → word_met c names false waiting p word h ≡ plain_word c waiting word h
word_is c names waiting h p word plain unnamed =
    ap (λ (o : Option Text). subcommand_or_other c o waiting p word h) unnamed
    ∙ ap (λ (b : Bool). cond b (h, trailing p) (long_or_other c waiting word (long_of word) h)) (no_dashes word plain)
    ∙ ap (λ (l : Option (Text × Option Text)). long_or_other c waiting word l h) (no_long word plain)
    ∙ ap (λ (s : Option Text). short_or_plain c waiting word s h) (no_short word plain)

pub fault_is : (s : Shape) (names : Names) (waiting : Waiting) (h : Held) (word : Text) → IsPlainWord word → subcommand_met names waiting word ≡ None
    → word_fault s names false waiting word h ≡ []
fault_is s names waiting h word plain unnamed =
    ap (λ (o : Option Text). other_fault s o word h) unnamed
    ∙ ap (λ (b : Bool). cond b [] (flag_word_fault s.rules s.args_override_self (long_of word) word h)) (no_dashes word plain)
    ∙ ap (λ (l : Option (Text × Option Text)). flag_word_fault s.rules s.args_override_self l word h) (no_long word plain)
    ∙ ap (λ (f : Option Text). option_map_or (λ flags. bundle_fault s.rules s.args_override_self flags h) f []) (no_short word plain)

walked_at : (c : List Rule) (names : Names) (h : Held) (p : ℕ) (word : Text) → IsPlainWord word → subcommand_met names idle word ≡ None
    → walked c names (at h p) word ≡ next_walk c (at h p) word
unfolding walked
walked_at c names h p word plain unnamed = ap (λ (m : Held × Step). after_step c word (at h p) m.0 m.1) (word_is c names idle h p word plain unnamed)

turn_at : (s : Shape) (names : Names) (h : Held) (p : ℕ) (word : Text) → IsPlainWord word → subcommand_met names idle word ≡ None
    → turn_fault s names (at h p) word ≡ step_fault s p h value
turn_at s names h p word plain unnamed =
    ap₂ (λ (k : Kinds) (m : Held × Step). or_else k (step_fault s p m.0 m.1)) (fault_is s names idle h word plain unnamed) (word_is s.rules names idle h p word plain unnamed)

idle_is : (w : Walk) → IsIdle w → w ≡ at w.held w.position
idle_is w i = λ j. record {
  held = w.held;
  waiting = i.0 j;
  position = w.position;
  is_trailing = i.1.0 j;
  stopped = i.1.1 j;
}

pub walked_plain : (c : List Rule) (w : Walk) (word : Text) → IsIdle w → IsPlainWord word → walked c [] w word ≡ next_walk c w word
walked_plain c w word i plain =
    let same = idle_is w i in
    ap (λ (v : Walk). walked c [] v word) same ∙ walked_at c [] w.held w.position word plain refl ∙ sym (ap (λ (v : Walk). next_walk c v word) same)

pub turn_plain : (s : Shape) (w : Walk) (word : Text) → IsIdle w → IsPlainWord word → turn_fault s [] w word ≡ step_fault s w.position w.held value
turn_plain s w word i plain =
    ap (λ (v : Walk). turn_fault s [] v word) (idle_is w i) ∙ turn_at s [] w.held w.position word plain refl

-- each argument has one value
abbrev IsSingle : Rule → Type 0
IsSingle a = (is_multiple a ≡ false) × (a.trailing_var_arg ≡ false)

idle_next : (c : List Rule) → AllByRecursion IsSingle c → (w : Walk) (word : Text) → IsIdle w → IsIdle (next_walk c w word)
idle_next c single w word i = go (arg_by_index c w.position) refl
  where
    go : (o : Option Rule) → arg_by_index c w.position ≡ o → IsIdle (to_positional c o word w w.held)
    go None is = i
    go (Some a) is =
        let one = holds_of_found IsSingle _ c a single is in
        (rw one.0 refl, (rw (i.1.0, one.1) refl, refl))

-- ---- plain words alone

abbrev plain_walk : List Rule → Walk → List Text → Walk
plain_walk c w [] = w
plain_walk c w (word ∷ rest) = plain_walk c (next_walk c w word) rest

abbrev plain_fault : Shape → Walk → List Text → Kinds
plain_fault s w [] = []
plain_fault s w (word ∷ rest) = or_else (step_fault s w.position w.held value) (plain_fault s (next_walk s.rules w word) rest)

walk_is : (c : List Rule) → AllByRecursion IsSingle c → (w : Walk) (words : List Text) → IsIdle w → ArePlain words
    → fold (walked c []) w words ≡ plain_walk c w words
walk_is c single w [] i plain = refl
walk_is c single w (word ∷ rest) i plain =
    ap (λ (v : Walk). fold (walked c []) v rest) (walked_plain c w word i plain.0)
    ∙ walk_is c single (next_walk c w word) rest (idle_next c single w word i) plain.1

walk_fault_is : (s : Shape) → AllByRecursion IsSingle s.rules → (w : Walk) (words : List Text) → IsIdle w → ArePlain words
    → walk_fault s [] w words ≡ plain_fault s w words
unfolding walk_fault
walk_fault_is s single w [] i plain = refl
walk_fault_is s single w (word ∷ rest) i plain =
    ap₂ (λ (k : Kinds) (v : Walk). or_else k (walk_fault s [] v rest)) (turn_plain s w word i plain.0) (walked_plain s.rules w word i plain.0)
    ∙ ap (or_else (step_fault s w.position w.held value)) (walk_fault_is s single (next_walk s.rules w word) rest (idle_next s.rules single w word i) plain.1)

-- what is left of a level after its walk
abbrev level_by : Shape → Kinds → Walk → Kinds
level_by s fault end = or_else fault (or_else (settle_fault s.rules s.args_override_self end.held)
    (or_else (defaults_fault (settled s.rules end.held).rows s.rules) (check_fault s (finished s.rules end.held) false)))

abbrev pub command_by : Shape → Kinds → Walk → Option Command
command_by s fault end = unless_fault (level_by s fault end) (command_named s.name (finished s.rules end.held))

-- the command of one name, by its words
abbrev pub leaf : Shape → List Text → Option Command
leaf s words = unless_fault (level_fault s [] nothing_held words false []) (command_named s.name (rows_after s.rules [] words))

abbrev plain_leaf : Shape → List Text → Option Command
plain_leaf s words = command_by s (plain_fault s (walk_from nothing_held) words) (plain_walk s.rules (walk_from nothing_held) words)

leaf_is : (s : Shape) → AllByRecursion IsSingle s.rules → (words : List Text) → ArePlain words → leaf s words ≡ plain_leaf s words
leaf_is s single words plain =
    ap₂ (λ (k : Kinds) (v : Walk). command_by s k v) (walk_fault_is s single (walk_from nothing_held) words (refl, (refl, refl)) plain)
    (walk_is s.rules single (walk_from nothing_held) words (refl, (refl, refl)) plain)

check_leaf : (words : List Text) → plain_leaf check_shape words ≡ plain_command (codes "check" ∷ words)
unfolding defaults_fault
check_leaf [] = refl
check_leaf (catalog ∷ []) = refl
check_leaf (catalog ∷ owner ∷ []) = refl
check_leaf (catalog ∷ owner ∷ file ∷ []) = refl
check_leaf (catalog ∷ owner ∷ file ∷ more ∷ []) = refl
check_leaf (catalog ∷ owner ∷ file ∷ more ∷ word ∷ words) = refl

init_leaf : (words : List Text) → plain_leaf init_shape words ≡ plain_command (codes "init" ∷ words)
unfolding defaults_fault
init_leaf [] = refl
init_leaf (catalog ∷ []) = refl
init_leaf (catalog ∷ key ∷ []) = refl
init_leaf (catalog ∷ key ∷ more ∷ []) = refl
init_leaf (catalog ∷ key ∷ more ∷ word ∷ []) = refl
init_leaf (catalog ∷ key ∷ more ∷ word ∷ next ∷ words) = refl

run_leaf : (words : List Text) → plain_leaf run_shape words ≡ plain_command (codes "run" ∷ words)
unfolding defaults_fault
run_leaf [] = refl
run_leaf (catalog ∷ []) = refl
run_leaf (catalog ∷ key ∷ []) = refl
run_leaf (catalog ∷ key ∷ more ∷ []) = refl
run_leaf (catalog ∷ key ∷ more ∷ word ∷ []) = refl
run_leaf (catalog ∷ key ∷ more ∷ word ∷ next ∷ words) = refl

audit_leaf : (words : List Text) → plain_leaf audit_shape words ≡ plain_command (codes "audit" ∷ words)
unfolding defaults_fault
audit_leaf [] = refl
audit_leaf (catalog ∷ []) = refl
audit_leaf (catalog ∷ key ∷ []) = refl
audit_leaf (catalog ∷ key ∷ more ∷ []) = refl
audit_leaf (catalog ∷ key ∷ more ∷ word ∷ []) = refl
audit_leaf (catalog ∷ key ∷ more ∷ word ∷ next ∷ words) = refl

gap_leaf : (words : List Text) → plain_leaf gap_shape words ≡ plain_command (codes "gap" ∷ words)
unfolding defaults_fault
gap_leaf [] = refl
gap_leaf (catalog ∷ []) = refl
gap_leaf (catalog ∷ owner ∷ []) = refl
gap_leaf (catalog ∷ owner ∷ other ∷ []) = refl
gap_leaf (catalog ∷ owner ∷ other ∷ file ∷ []) = refl
gap_leaf (catalog ∷ owner ∷ other ∷ file ∷ more ∷ words) = refl

derive_leaf : (words : List Text) → plain_leaf derive_shape words ≡ plain_command (codes "derive" ∷ words)
unfolding defaults_fault
derive_leaf [] = refl
derive_leaf (catalog ∷ []) = refl
derive_leaf (catalog ∷ owner ∷ []) = refl
derive_leaf (catalog ∷ owner ∷ file ∷ []) = refl
derive_leaf (catalog ∷ owner ∷ file ∷ more ∷ []) = refl
derive_leaf (catalog ∷ owner ∷ file ∷ more ∷ word ∷ words) = refl

judge_leaf : (words : List Text) → plain_leaf judge_shape words ≡ plain_command (codes "judge" ∷ words)
unfolding defaults_fault
judge_leaf [] = refl
judge_leaf (catalog ∷ []) = refl
judge_leaf (catalog ∷ owner ∷ []) = refl
judge_leaf (catalog ∷ owner ∷ file ∷ []) = refl
judge_leaf (catalog ∷ owner ∷ file ∷ derivation ∷ []) = refl
judge_leaf (catalog ∷ owner ∷ file ∷ derivation ∷ more ∷ words) = refl

serve_leaf : (words : List Text) → plain_leaf serve_shape words ≡ plain_command (codes "serve" ∷ words)
unfolding defaults_fault
serve_leaf [] = refl
serve_leaf (catalog ∷ []) = refl
serve_leaf (catalog ∷ key ∷ []) = refl
serve_leaf (catalog ∷ key ∷ more ∷ []) = refl
serve_leaf (catalog ∷ key ∷ more ∷ word ∷ []) = refl
serve_leaf (catalog ∷ key ∷ more ∷ word ∷ next ∷ words) = refl

-- the number of a word, by whether its text is accepted
abbrev number_by : (bits : ℕ) → Bool → Text → Option ℕ
number_by bits accepted text = cond accepted (number_of_bits bits (without_minus text)) None

said_by : (bits low high : ℕ) → high < 2 ^ bits → high < 2 ^ 63 → (text : Text) → IsPlainWord text → (b : Bool) → accepts false (from_to low high) text ≡ b
    → number_by bits b text ≡ said_within low high (number_of_bits bits text)
said_by bits low high small fits text plain true e = let says = accepted_says bits low high small fits text plain e in says.1 ∙ sym says.2
said_by bits low high small fits text plain false e = sym (refused_says bits low high small fits text plain e)

-- a grant of four words, behind what the settling of its amount answers
abbrev grant_by : (a b c d : Text) → Kinds → Option Command
grant_by a b c d fault =
    let end = plain_walk grant_shape.rules (walk_from nothing_held) (a ∷ b ∷ c ∷ d ∷ []) in
    unless_fault (or_else fault (or_else (defaults_fault (settled grant_shape.rules end.held).rows grant_shape.rules)
    (check_fault grant_shape (finished grant_shape.rules end.held) false))) (command_named grant_shape.name (finished grant_shape.rules end.held))

abbrev amount_fault : Bool → Kinds
amount_fault accepted = or_else (cond accepted [] (kind.ValueValidation ∷ [])) []

grant_end : (a b c d : Text) (x : Bool) → grant_by a b c d (amount_fault x) ≡ grant_of (Some a) (Some b) (Some c) (number_by 64 x d)
unfolding defaults_fault
grant_end a b c d true = refl
grant_end a b c d false = refl

grant_four : (a b c d : Text) (x : Bool) → accepts false amount_parser d ≡ x
    → plain_leaf grant_shape (a ∷ b ∷ c ∷ d ∷ []) ≡ grant_of (Some a) (Some b) (Some c) (number_by 64 x d)
unfolding defaults_fault
grant_four a b c d x e = ap (λ (r : Bool). grant_by a b c d (amount_fault r)) e ∙ grant_end a b c d x

grant_leaf : (words : List Text) → ArePlain words → plain_leaf grant_shape words ≡ plain_command (codes "grant" ∷ words)
unfolding defaults_fault
grant_leaf [] plain = refl
grant_leaf (a ∷ []) plain = refl
grant_leaf (a ∷ b ∷ []) plain = refl
grant_leaf (a ∷ b ∷ c ∷ []) plain = refl
grant_leaf (a ∷ b ∷ c ∷ d ∷ []) plain =
    let x = accepts false amount_parser d in
    let amount = said_by 64 1 greatest_amount (omega arith) (omega arith) d plain.1.1.1.0 x refl in
    grant_four a b c d x refl ∙ (λ j. grant_of (Some a) (Some b) (Some c) (amount j))
grant_leaf (a ∷ b ∷ c ∷ d ∷ more ∷ words) plain = refl

-- the numbers of a `gen`, by whether each text is accepted

unsaid : (b : Bool) (text : Text) → b ≡ false → number_by 32 b text ≡ None
unsaid b text e = rw e refl

gen_one : (a : Text) (x : Bool) → accepts false seed_parser a ≡ x → plain_leaf gen_shape (a ∷ []) ≡ None
unfolding defaults_fault
gen_one a true e = rw e refl
gen_one a false e = rw e refl

-- by whether the three are accepted
abbrev gen_by : (x y z : Bool) (seed asks workers : Option ℕ) → Option Command
gen_by x y z seed asks workers = unless_fault (cond (x && (y && z)) [] (kind.ValueValidation ∷ [])) (gen_of seed asks workers)

gen_two : (a b : Text) (x y : Bool) → accepts false seed_parser a ≡ x → accepts false asks_parser b ≡ y
    → plain_leaf gen_shape (a ∷ b ∷ []) ≡ gen_by x y true (number_by 32 x a) (number_by 32 y b) (Some 1)
unfolding defaults_fault
gen_two a b true true e f = rw (e, f) refl
gen_two a b true false e f = rw (e, f) refl
gen_two a b false y e f = rw e refl

gen_three : (a b c : Text) (x y z : Bool) → accepts false seed_parser a ≡ x → accepts false asks_parser b ≡ y → accepts false workers_parser c ≡ z
    → plain_leaf gen_shape (a ∷ b ∷ c ∷ []) ≡ gen_by x y z (number_by 32 x a) (number_by 32 y b) (number_by 32 z c)
unfolding defaults_fault
gen_three a b c true true true e f g = rw (e, f, g) refl
gen_three a b c true true false e f g = rw (e, f, g) refl
gen_three a b c true false z e f g = rw (e, f) refl
gen_three a b c false y z e f g = rw e refl

-- no number, no command
none_of : (x y z : Bool) (p q r : Option ℕ) → (x ≡ false → p ≡ None) → (y ≡ false → q ≡ None) → (z ≡ false → r ≡ None)
    → gen_by x y z p q r ≡ gen_of p q r
none_of true true true p q r a b c = refl
none_of false y z p q r a b c = rw (a refl) refl
none_of true false z None q r a b c = refl
none_of true false z (Some n) q r a b c = rw (b refl) refl
none_of true true false None q r a b c = refl
none_of true true false (Some n) None r a b c = refl
none_of true true false (Some n) (Some m) r a b c = rw (c refl) refl

gen_four : (a b c more : Text) (words : List Text) (x y : Bool) → accepts false seed_parser a ≡ x → accepts false asks_parser b ≡ y
    → plain_leaf gen_shape (a ∷ b ∷ c ∷ more ∷ words) ≡ None
unfolding defaults_fault
gen_four a b c more words true true e f = rw (e, f) refl
gen_four a b c more words true false e f = rw (e, f) refl
gen_four a b c more words false y e f = rw e refl

gen_leaf : (words : List Text) → ArePlain words → plain_leaf gen_shape words ≡ plain_command (codes "gen" ∷ words)
unfolding defaults_fault
gen_leaf [] plain = refl
gen_leaf (a ∷ []) plain = gen_one a (accepts false seed_parser a) refl
gen_leaf (a ∷ b ∷ []) plain =
    let x = accepts false seed_parser a in
    let y = accepts false asks_parser b in
    let seed = said_by 32 0 greatest_seed (omega arith) (omega arith) a plain.0 x refl in
    let asks = said_by 32 1 greatest_asks (omega arith) (omega arith) b plain.1.0 y refl in
    gen_two a b x y refl refl ∙ none_of x y true (number_by 32 x a) (number_by 32 y b) (Some 1) (unsaid x a) (unsaid y b) (λ e. cc e)
    ∙ (λ j. gen_of (seed j) (asks j) (Some 1))
gen_leaf (a ∷ b ∷ c ∷ []) plain =
    let x = accepts false seed_parser a in
    let y = accepts false asks_parser b in
    let z = accepts false workers_parser c in
    let seed = said_by 32 0 greatest_seed (omega arith) (omega arith) a plain.0 x refl in
    let asks = said_by 32 1 greatest_asks (omega arith) (omega arith) b plain.1.0 y refl in
    let workers = said_by 32 1 greatest_workers (omega arith) (omega arith) c plain.1.1.0 z refl in
    gen_three a b c x y z refl refl refl
    ∙ none_of x y z (number_by 32 x a) (number_by 32 y b) (number_by 32 z c) (unsaid x a) (unsaid y b) (unsaid z c)
    ∙ (λ j. gen_of (seed j) (asks j) (workers j))
gen_leaf (a ∷ b ∷ c ∷ more ∷ []) plain = gen_four a b c more [] (accepts false seed_parser a) (accepts false asks_parser b) refl refl
gen_leaf (a ∷ b ∷ c ∷ more ∷ word ∷ words) plain =
    gen_four a b c more (word ∷ words) (accepts false seed_parser a) (accepts false asks_parser b) refl refl

-- ---- the program

abbrev top : Shape
top = (built program_app).top

abbrev names : Names
names = names_of (built program_app)

abbrev start : Walk
start = walk_from nothing_held

or_none : (k : Kinds) → or_else k [] ≡ k
or_none [] = refl
or_none (x ∷ xs) = refl

-- after a command is named its words are left to it
left_fault : (name : Text) (seen words : List Text) → walk_fault top names (record start { stopped = Some (name, seen) }) words ≡ []
unfolding walk_fault walked
left_fault name seen [] = refl
left_fault name seen (word ∷ rest) = left_fault name (seen ++ word ∷ []) rest

abbrev program_by : Kinds → Walk → Option Command
program_by fault end = unless_fault (or_else fault (or_else (entered_fault (built program_app) end.stopped)
    (or_else (settle_fault top.rules top.args_override_self end.held)
    (or_else (defaults_fault (settled top.rules end.held).rows top.rules)
    (check_fault top (finished top.rules end.held) (is_some (entered (built program_app) end.stopped)))))))
    (command_met (entered (built program_app) end.stopped))

abbrev met_by : Text → List Text → Option Command
met_by name words = program_by [] (record start { stopped = Some (name, words) })

-- the first word names a command
named : (name : Text) (words : List Text) → walked top.rules names start name ≡ record start { stopped = Some (name, []) } → turn_fault top names start name ≡ []
    → command_of (name ∷ words) ≡ met_by name words
unfolding command_of walk_fault
named name words walk_at turn_at =
    ap₂ program_by
    (ap₂ (λ (k : Kinds) (w : Walk). or_else k (walk_fault top names w words)) turn_at walk_at ∙ left_fault name [] words)
    (ap (λ (w : Walk). fold (walked top.rules names) w words) walk_at ∙ sym (walk_stopped top.rules names start name [] words))

left_to : (s : Shape) (k : Kinds) (words : List Text) → unless_fault (or_else k []) (command_named s.name (rows_after s.rules [] words))
    ≡ unless_fault k (command_named s.name (rows_after s.rules [] words))
left_to s k words = ap (λ (x : Kinds). unless_fault x (command_named s.name (rows_after s.rules [] words))) (or_none k)

check_is : (words : List Text) → ArePlain words → command_of (codes "check" ∷ words) ≡ plain_command (codes "check" ∷ words)
unfolding walked defaults_fault
check_is words plain = named (codes "check") words refl refl ∙ left_to check_shape (level_fault check_shape [] nothing_held words false []) words
    ∙ leaf_is check_shape ((refl, refl), ((refl, refl), ((refl, refl), tt))) words plain ∙ check_leaf words

init_is : (words : List Text) → ArePlain words → command_of (codes "init" ∷ words) ≡ plain_command (codes "init" ∷ words)
unfolding walked defaults_fault
init_is words plain = named (codes "init") words refl refl ∙ left_to init_shape (level_fault init_shape [] nothing_held words false []) words
    ∙ leaf_is init_shape ((refl, refl), ((refl, refl), ((refl, refl), tt))) words plain ∙ init_leaf words

-- the words after `run` are its own
pub run_left : (words : List Text) → command_of (codes "run" ∷ words) ≡ leaf run_shape words
unfolding walked defaults_fault
run_left words = named (codes "run") words refl refl ∙ left_to run_shape (level_fault run_shape [] nothing_held words false []) words

run_is : (words : List Text) → ArePlain words → command_of (codes "run" ∷ words) ≡ plain_command (codes "run" ∷ words)
run_is words plain = run_left words
    ∙ leaf_is run_shape ((refl, refl), ((refl, refl), ((refl, refl), ((refl, refl), tt)))) words plain ∙ run_leaf words

audit_is : (words : List Text) → ArePlain words → command_of (codes "audit" ∷ words) ≡ plain_command (codes "audit" ∷ words)
unfolding walked defaults_fault
audit_is words plain = named (codes "audit") words refl refl ∙ left_to audit_shape (level_fault audit_shape [] nothing_held words false []) words
    ∙ leaf_is audit_shape ((refl, refl), ((refl, refl), ((refl, refl), tt))) words plain ∙ audit_leaf words

grant_is : (words : List Text) → ArePlain words → command_of (codes "grant" ∷ words) ≡ plain_command (codes "grant" ∷ words)
unfolding walked defaults_fault
grant_is words plain = named (codes "grant") words refl refl ∙ left_to grant_shape (level_fault grant_shape [] nothing_held words false []) words
    ∙ leaf_is grant_shape ((refl, refl), ((refl, refl), ((refl, refl), ((refl, refl), ((refl, refl), tt))))) words plain ∙ grant_leaf words plain

gap_is : (words : List Text) → ArePlain words → command_of (codes "gap" ∷ words) ≡ plain_command (codes "gap" ∷ words)
unfolding walked defaults_fault
gap_is words plain = named (codes "gap") words refl refl ∙ left_to gap_shape (level_fault gap_shape [] nothing_held words false []) words
    ∙ leaf_is gap_shape ((refl, refl), ((refl, refl), ((refl, refl), ((refl, refl), tt)))) words plain ∙ gap_leaf words

serve_is : (words : List Text) → ArePlain words → command_of (codes "serve" ∷ words) ≡ plain_command (codes "serve" ∷ words)
unfolding walked defaults_fault
serve_is words plain = named (codes "serve") words refl refl ∙ left_to serve_shape (level_fault serve_shape [] nothing_held words false []) words
    ∙ leaf_is serve_shape ((refl, refl), ((refl, refl), ((refl, refl), ((refl, refl), ((refl, refl), ((refl, refl), ((refl, refl), tt))))))) words plain ∙ serve_leaf words

gen_is : (words : List Text) → ArePlain words → command_of (codes "gen" ∷ words) ≡ plain_command (codes "gen" ∷ words)
unfolding walked defaults_fault
gen_is words plain = named (codes "gen") words refl refl ∙ left_to gen_shape (level_fault gen_shape [] nothing_held words false []) words
    ∙ leaf_is gen_shape ((refl, refl), ((refl, refl), ((refl, refl), tt))) words plain ∙ gen_leaf words plain

derive_is : (words : List Text) → ArePlain words → command_of (codes "derive" ∷ words) ≡ plain_command (codes "derive" ∷ words)
unfolding walked defaults_fault
derive_is words plain = named (codes "derive") words refl refl ∙ left_to derive_shape (level_fault derive_shape [] nothing_held words false []) words
    ∙ leaf_is derive_shape ((refl, refl), ((refl, refl), ((refl, refl), tt))) words plain ∙ derive_leaf words

judge_is : (words : List Text) → ArePlain words → command_of (codes "judge" ∷ words) ≡ plain_command (codes "judge" ∷ words)
unfolding walked defaults_fault
judge_is words plain = named (codes "judge") words refl refl ∙ left_to judge_shape (level_fault judge_shape [] nothing_held words false []) words
    ∙ leaf_is judge_shape ((refl, refl), ((refl, refl), ((refl, refl), ((refl, refl), tt)))) words plain ∙ judge_leaf words

-- ---- a first word that names none

stray_is : (name : Text) (words : List Text) → IsPlainWord name → subcommand_met names idle name ≡ None → command_of (name ∷ words) ≡ None
unfolding walk_fault
stray_is name words plain unnamed = command_refused (name ∷ words) (λ well.
    let walked_well = both_empty (walk_fault top names start (name ∷ words)) _ well in
    let stray = both_empty (turn_fault top names start name) _ walked_well.0 in
    cc (stray.0, turn_at top names nothing_held 1 name plain unnamed))

-- the word is no command's name
abbrev IsNone : (name : Text) → Type 0
IsNone name = (bytes_eq (codes "check") name ≡ false) × (bytes_eq (codes "init") name ≡ false) × (bytes_eq (codes "run") name ≡ false) × (bytes_eq (codes "audit") name ≡ false) × (bytes_eq (codes "grant") name ≡ false)
    × (bytes_eq (codes "gap") name ≡ false) × (bytes_eq (codes "serve") name ≡ false) × (bytes_eq (codes "gen") name ≡ false)
    × (bytes_eq (codes "derive") name ≡ false) × (bytes_eq (codes "judge") name ≡ false)

flipped : (a b : Text) → bytes_eq a a ≡ true → bytes_eq a b ≡ false → bytes_eq b a ≡ false
flipped a b same apart = go (bytes_eq b a) refl
  where
    go : (r : Bool) → bytes_eq b a ≡ r → r ≡ false
    go false e = refl
    go true e =
        let equal = (bytes_eq-Decides b a).0 e in
        let both : bytes_eq a a ≡ false = subst (λ (x : Text). bytes_eq a x ≡ false) equal apart in
        cc (same, both)

untabled : (name : Text) (words : List Text) → IsNone name → plain_command (name ∷ words) ≡ None
untabled name [] none = refl
untabled name (x ∷ []) none = refl
untabled name (x ∷ y ∷ []) none =
    rw (
      flipped (codes "init") name refl none.1,
      flipped (codes "run") name refl none.2,
      flipped (codes "audit") name refl none.3,
      flipped (codes "gen") name refl none.7,
    ) refl
untabled name (x ∷ y ∷ z ∷ []) none =
    rw (flipped (codes "check") name refl none.0, flipped (codes "gen") name refl none.7, flipped (codes "derive") name refl none.8) refl
untabled name (x ∷ y ∷ z ∷ w ∷ []) none =
    rw (flipped (codes "grant") name refl none.4, flipped (codes "gap") name refl none.5, flipped (codes "judge") name refl none.9) refl
untabled name (x ∷ y ∷ z ∷ w ∷ v ∷ words) none = refl

unmet : (name : Text) → IsNone name → subcommand_met names idle name ≡ None
unmet name none = rw (none.0, none.1, none.2, none.3, none.4, none.5, none.6, none.7, none.8, none.9) refl

abbrev IsTabled : List Text → Type 0
IsTabled words = command_of words ≡ plain_command words

pub plain_is_tabled : (words : List Text) → ArePlain words → IsTabled words
unfolding command_of walk_fault defaults_fault
plain_is_tabled [] plain = refl
plain_is_tabled (name ∷ words) plain =
    go (bytes_eq (codes "check") name) refl (bytes_eq (codes "init") name) refl (bytes_eq (codes "run") name) refl (bytes_eq (codes "audit") name) refl
    (bytes_eq (codes "grant") name) refl (bytes_eq (codes "gap") name) refl (bytes_eq (codes "serve") name) refl (bytes_eq (codes "gen") name) refl
    (bytes_eq (codes "derive") name) refl (bytes_eq (codes "judge") name) refl
  where
    -- the word is that name
    by : (other : Text) → bytes_eq other name ≡ true → IsTabled (other ∷ words) → IsTabled (name ∷ words)
    by other e tabled = subst (λ (n : Text). IsTabled (n ∷ words)) ((bytes_eq-Decides other name).0 e) tabled

    go : (a : Bool) → bytes_eq (codes "check") name ≡ a → (b : Bool) → bytes_eq (codes "init") name ≡ b → (c : Bool) → bytes_eq (codes "run") name ≡ c
        → (d : Bool) → bytes_eq (codes "audit") name ≡ d → (m : Bool) → bytes_eq (codes "grant") name ≡ m → (g : Bool) → bytes_eq (codes "gap") name ≡ g → (s : Bool) → bytes_eq (codes "serve") name ≡ s
        → (n : Bool) → bytes_eq (codes "gen") name ≡ n → (u : Bool) → bytes_eq (codes "derive") name ≡ u → (v : Bool) → bytes_eq (codes "judge") name ≡ v
        → IsTabled (name ∷ words)
    go true e b f c h d i m o g j s k n l u p v q = by (codes "check") e (check_is words plain.1)
    go false e true f c h d i m o g j s k n l u p v q = by (codes "init") f (init_is words plain.1)
    go false e false f true h d i m o g j s k n l u p v q = by (codes "run") h (run_is words plain.1)
    go false e false f false h true i m o g j s k n l u p v q = by (codes "audit") i (audit_is words plain.1)
    go false e false f false h false i true o g j s k n l u p v q = by (codes "grant") o (grant_is words plain.1)
    go false e false f false h false i false o true j s k n l u p v q = by (codes "gap") j (gap_is words plain.1)
    go false e false f false h false i false o false j true k n l u p v q = by (codes "serve") k (serve_is words plain.1)
    go false e false f false h false i false o false j false k true l u p v q = by (codes "gen") l (gen_is words plain.1)
    go false e false f false h false i false o false j false k false l true p v q = by (codes "derive") p (derive_is words plain.1)
    go false e false f false h false i false o false j false k false l false p true q = by (codes "judge") q (judge_is words plain.1)
    go false e false f false h false i false o false j false k false l false p false q =
        let none : IsNone name = (e, f, h, i, o, j, k, l, p, q) in
        stray_is name words plain.0 (unmet name none) ∙ sym (untabled name words none)
