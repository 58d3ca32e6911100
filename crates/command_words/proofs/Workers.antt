-- The option's text is accepted exactly where it is a number in range.
use Rattle.std.proofs.Common.{◌≡◌, ℕ, Bool, true, false, refl, sym, ap, ap₂, [], ◌∷◌, ◌∙◌, Option, Some, None, arith, codes}
use Rattle.std.specs.Prelude.{option_map, if◌then◌else◌}
use Rattle.std.specs.List.{fold}
use Rattle.clap.specs.Lexer.{without_minus}
use Rattle.clap.specs.ValueTests.{accepts}
use Rattle.clap.specs.Walk.{Held, Step, Text, Walk, after_step, finished, nothing_held, option, plain_word, settled, walk_from, walked}
use Rattle.clap.specs.Faults.{check_fault, defaults_fault, settle_fault, step_fault, turn_fault, walk_fault}
use Rattle.clap.specs.Kinds.{Kinds, or_else}
use Rattle.clap.specs.declared.error.kind.ErrorKind.TheVariants as kind
use Rattle.command_words.specs.Program.{greatest_workers}
use Rattle.command_words.specs.Command.{Command, command_named, command_of, number_written, run, run_of, unless_fault}
use Rattle.command_words.specs.Table.{workers_said}
use Rattle.command_words.proofs.Accepted.{run_shape, workers_parser, WORKERS}
use Rattle.command_words.proofs.Said.{IsPlainWord, accepted_says, refused_says}
use Rattle.command_words.proofs.Plain.{command_by, fault_is, next_walk, run_left, turn_plain, walked_plain, word_is}

-- ---- the walk

abbrev at_start : Walk
at_start = walk_from nothing_held

abbrev after_names : Text → Text → Walk
after_names catalog key = next_walk run_shape.rules (next_walk run_shape.rules at_start catalog) key

-- the option waits for its value
abbrev after_option : Text → Text → Walk
after_option catalog key = walked run_shape.rules [] (after_names catalog key) (codes "--workers")

abbrev after_value : Text → Text → Text → Walk
after_value catalog key text =
    let w = after_option catalog key in
    after_step run_shape.rules text w (plain_word run_shape.rules w.waiting text w.held).0 (plain_word run_shape.rules w.waiting text w.held).1

option_turn : (catalog key : Text) → turn_fault run_shape [] (after_names catalog key) (codes "--workers") ≡ []
unfolding walked
option_turn catalog key = refl

value_walk : (catalog key text : Text) → IsPlainWord text → walked run_shape.rules [] (after_option catalog key) text ≡ after_value catalog key text
unfolding walked
value_walk catalog key text plain =
    let w = after_option catalog key in
    ap (λ (m : Held × Step). after_step run_shape.rules text w m.0 m.1) (word_is run_shape.rules [] (option WORKERS) w.held w.position text plain refl)

value_turn : (catalog key text : Text) → IsPlainWord text → turn_fault run_shape [] (after_option catalog key) text ≡ []
unfolding walked
value_turn catalog key text plain =
    let w = after_option catalog key in
    ap₂ (λ (k : Kinds) (m : Held × Step). or_else k (step_fault run_shape w.position m.0 m.1)) (fault_is run_shape [] (option WORKERS) w.held text plain refl)
    (word_is run_shape.rules [] (option WORKERS) w.held w.position text plain refl)

-- what the words come to, by whether the option's text is accepted
abbrev said_by : Text → Text → Bool → Option ℕ → Option Command
said_by catalog key true count = run_of (Some catalog) (Some key) count
said_by catalog key false count = None

run_fault : (catalog key text : Text) → IsPlainWord catalog → IsPlainWord key → IsPlainWord text
    → walk_fault run_shape [] at_start (catalog ∷ key ∷ codes "--workers" ∷ text ∷ []) ≡ []
unfolding walk_fault
run_fault catalog key text a b c =
    ap₂ (λ (k : Kinds) (w : Walk). or_else k (walk_fault run_shape [] w (key ∷ codes "--workers" ∷ text ∷ [])))
    (turn_plain run_shape at_start catalog (refl, (refl, refl)) a) (walked_plain run_shape.rules at_start catalog (refl, (refl, refl)) a)
    ∙ ap₂ (λ (k : Kinds) (w : Walk). or_else k (walk_fault run_shape [] w (codes "--workers" ∷ text ∷ [])))
    (turn_plain run_shape (next_walk run_shape.rules at_start catalog) key (refl, (refl, refl)) b)
    (walked_plain run_shape.rules (next_walk run_shape.rules at_start catalog) key (refl, (refl, refl)) b)
    ∙ ap (λ (k : Kinds). or_else k (walk_fault run_shape [] (after_option catalog key) (text ∷ []))) (option_turn catalog key)
    ∙ ap (λ (k : Kinds). or_else k []) (value_turn catalog key text c)

run_walk : (catalog key text : Text) → IsPlainWord catalog → IsPlainWord key → IsPlainWord text
    → fold (walked run_shape.rules []) at_start (catalog ∷ key ∷ codes "--workers" ∷ text ∷ []) ≡ after_value catalog key text
run_walk catalog key text a b c =
    ap (λ (w : Walk). fold (walked run_shape.rules []) w (key ∷ codes "--workers" ∷ text ∷ [])) (walked_plain run_shape.rules at_start catalog (refl, (refl, refl)) a)
    ∙ ap (λ (w : Walk). fold (walked run_shape.rules []) w (codes "--workers" ∷ text ∷ []))
    (walked_plain run_shape.rules (next_walk run_shape.rules at_start catalog) key (refl, (refl, refl)) b)
    ∙ value_walk catalog key text c

-- what the settling of the option finds, by whether its text is accepted
abbrev settled_by : Text → Text → Text → Kinds
settled_by catalog key text = settle_fault run_shape.rules run_shape.args_override_self (after_value catalog key text).held

abbrev fault_by : Bool → Kinds
fault_by accepted = or_else (if accepted then [] else kind.ValueValidation ∷ []) []

settled_is : (catalog key text : Text) → settled_by catalog key text ≡ fault_by (accepts false workers_parser text)
unfolding walked
settled_is catalog key text = refl

said_is : (catalog key text : Text) → command_by run_shape [] (after_value catalog key text)
    ≡ said_by catalog key (accepts false workers_parser text) (number_written (without_minus text))
unfolding walked defaults_fault
said_is catalog key text = go (accepts false workers_parser text) refl
  where
    held : Held
    held = (after_value catalog key text).held

    from : Kinds → Option Command
    from fault = unless_fault (or_else fault (or_else (defaults_fault (settled run_shape.rules held).rows run_shape.rules)
        (check_fault run_shape (finished run_shape.rules held) false))) (command_named run_shape.name (finished run_shape.rules held))

    go : (b : Bool) → accepts false workers_parser text ≡ b → from (settled_by catalog key text) ≡ said_by catalog key b (number_written (without_minus text))
    go true e = ap from (settled_is catalog key text ∙ ap fault_by e)
    go false e = ap from (settled_is catalog key text ∙ ap fault_by e)

pub workers_are_said : (catalog key text : Text) → IsPlainWord catalog → IsPlainWord key → IsPlainWord text
    → command_of (codes "run" ∷ catalog ∷ key ∷ codes "--workers" ∷ text ∷ []) ≡ option_map (run catalog key) (workers_said text)
workers_are_said catalog key text a b c =
    run_left (catalog ∷ key ∷ codes "--workers" ∷ text ∷ [])
    ∙ ap₂ (λ (k : Kinds) (w : Walk). command_by run_shape k w) (run_fault catalog key text a b c) (run_walk catalog key text a b c)
    ∙ said_is catalog key text ∙ go (accepts false workers_parser text) refl
  where
    go : (r : Bool) → accepts false workers_parser text ≡ r → said_by catalog key r (number_written (without_minus text)) ≡ option_map (run catalog key) (workers_said text)
    go true e =
        let says = accepted_says 32 1 greatest_workers (omega arith) (omega arith) text c e in
        ap (λ (o : Option ℕ). run_of (Some catalog) (Some key) o) says.1 ∙ sym (ap (λ (o : Option ℕ). option_map (run catalog key) o) says.2)
    go false e = sym (ap (λ (o : Option ℕ). option_map (run catalog key) o) (refused_says 32 1 greatest_workers (omega arith) (omega arith) text c e))
