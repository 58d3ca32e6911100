-- Words without a fault are a command, and its workers are in range.
use Rattle.std.proofs.Common.{◌≡◌, ◌≤◌, ◌<◌, ℕ, suc, Bool, cond, true, false, refl, sym, ap, subst, List, [], ◌∷◌, ◌++◌, ◌∙◌, length, Option, Some, None, is_some, arith, codes}
use Rattle.std.specs.Prelude.{◌||◌, ◌&&◌, ◌==◌, ◌^◌, ⊤, if◌then◌else◌, not, slice_get, option_and_then, option_map}
use Rattle.std.specs.List.{find}
use Rattle.std.specs.Option.{option_map_or}
use Rattle.std.specs.Str.{bytes_eq}
use Rattle.std.specs.Str.Parse.{ParsesUnsigned}
use Rattle.std.proofs.lemmas.Bool.{eqb-true}
use Rattle.std.proofs.lemmas.Slice.Eq.{bytes_eq-Decides}
use Rattle.clap.specs.Lexer.{without_minus}
use Rattle.clap.specs.Values.{reading_of}
use Rattle.clap.specs.ValueTests.{accepts}
use Rattle.clap.specs.Walk.{Row, Rule, Text, answers_to, at_row, default_rows, first_of, has_row, more_values, nothing_held, one_of, reading_by, rows_after, walk, walk_from, with_default, without, finished, settled}
use Rattle.clap.specs.Simple.{Shape, built, entered, filled, inherited, built_leaf, names_of, rows_at, with_index}
use Rattle.clap.specs.Takes.{is_given}
use Rattle.clap.specs.Faults.{check_fault, defaults_fault, entered_fault, fault_of, level_fault, repeat_fault, settle_fault, walk_fault}
use Rattle.clap.specs.Facts.{explicit_source}
use Rattle.clap.specs.Kinds.{Kinds, range_kinds, value_kinds}
use Rattle.clap.specs.declared.builder.value_parser.Reading.{Reading}
use Rattle.clap.specs.declared.builder.value_parser.ValueParser.{ValueParser}
use Rattle.clap.specs.declared.builder.value_parser.ValueParser.TheVariants as parser
use Rattle.clap.specs.declared.parser.matches.ValueSource.TheVariants.{CommandLine, DefaultValue}
use Rattle.clap.specs.declared.error.kind.ErrorKind.{ErrorKind}
use Rattle.clap.specs.declared.error.kind.ErrorKind.TheVariants as kind
use Rattle.clap.proofs.CallerReads.{signed_reads}
use Rattle.clap.proofs.ValueTestLemmas.{accepts-Accepts}
use Rattle.command_words.specs.Program.{address_option, from_to, audit_app, check_app, derive_app, gap_app, gen_app, grant_app, greatest_amount, greatest_asks, greatest_each, greatest_port, greatest_seed, greatest_workers, init_app, judge_app, mirror_option, number_rule, program_app, run_app, required_word, serve_app}
use Rattle.command_words.specs.Command.{Command, check, init, run, audit, grant, gap, serve, gen, derive, judge, audit_found_in, audit_of, check_found_in, check_of, command_met, command_of, derive_found_in, derive_of, gap_found_in, gap_of, gen_found_in, gen_of, grant_found_in, grant_of, init_found_in, init_of, judge_found_in, judge_of, number_of_bits, run_found_in, run_of, serve_found_in, serve_of}
use Rattle.command_words.proofs.Kept.{both_empty, holds_of_found, AllFine, DefaultKeeps, UseKeeps, level_keeps}
use Rattle.command_words.proofs.Numbers.{number_reads}
use Rattle.command_words.proofs.Parses.{command_refused, command_taken}

-- the arguments and the commands as clap builds them

abbrev word_at : ℕ → Text → Rule
word_at i name = with_index i (filled (required_word name))

-- a number as a word, or behind an option
abbrev number_at : ℕ → Text → (long : Option Text) → ValueParser → (required : Bool) → (defaults : List Text) → Rule
number_at i name long range required defaults =
    with_index i (filled (record (number_rule name range) { long = long; required = required; defaults = defaults }))

abbrev address_at : ℕ → Rule
address_at i = with_index i (filled address_option)

abbrev mirror_at : ℕ → Rule
mirror_at i = with_index i (filled mirror_option)

abbrev subs : List Shape
subs = (built program_app).subs

abbrev pub WORKERS : Text
WORKERS = codes "workers"

abbrev MIRROR : Text
MIRROR = codes "mirror"

abbrev pub workers_parser : ValueParser
workers_parser = from_to 1 greatest_workers

abbrev pub port_parser : ValueParser
port_parser = from_to 1 greatest_port

abbrev pub each_parser : ValueParser
each_parser = from_to 1 greatest_each

abbrev pub seed_parser : ValueParser
seed_parser = from_to 0 greatest_seed

abbrev pub asks_parser : ValueParser
asks_parser = from_to 1 greatest_asks

abbrev pub amount_parser : ValueParser
amount_parser = from_to 1 greatest_amount

-- the parser of the number of this name
abbrev parser_named : Text → Option ValueParser
parser_named name =
    if bytes_eq name WORKERS then Some workers_parser
    else if bytes_eq name (codes "port") then Some port_parser
    else if bytes_eq name (codes "each") then Some each_parser
    else if bytes_eq name (codes "seed") then Some seed_parser
    else if bytes_eq name (codes "asks") then Some asks_parser
    else if bytes_eq name (codes "amount") then Some amount_parser
    else None

-- ---- rows with a value

-- the row has a first value, and that of a number was accepted
abbrev Fine : Row → Type 0
Fine r = (text : Text) × (slice_get r.values 0 ≡ Some text)
    × ((p : ValueParser) → parser_named r.id ≡ Some p → (accepts false p text ≡ true) × (r.reading ≡ reading_of p))

or_false : (a b : Bool) → (a || b) ≡ false → (a ≡ false) × (b ≡ false)
or_false true b e = cc e
or_false false b e = (refl, e)

-- there is no row with the id yet
without_is : (id : Text) (rows : List Row) → has_row id rows ≡ false → without id rows ≡ rows
without_is id [] free = refl
without_is id (r ∷ rs) free =
    let parts = or_false (bytes_eq r.id id) (has_row id rs) free in
    go (bytes_eq r.id id) parts.0 (without_is id rs parts.1)
  where
    go : (b : Bool) → b ≡ false → without id rs ≡ rs → cond b ([] ++ rs) (r ∷ without id rs) ≡ r ∷ rs
    go true e same = cc e
    go false e same = ap (λ (xs : List Row). r ∷ xs) same

at_keeps : (id : Text) (change : Row → List Row) (row : Row) (rows : List Row) → has_row id rows ≡ false → AllFine Fine rows → Fine row
    → AllFine Fine (at_row id change (row ∷ []) rows)
at_keeps id change row [] free fine new = (new, tt)
at_keeps id change row (r ∷ rs) free fine new =
    let parts = or_false (bytes_eq r.id id) (has_row id rs) free in
    go (bytes_eq r.id id) parts.0 (at_keeps id change row rs parts.1 fine.1 new)
  where
    go : (b : Bool) → b ≡ false → AllFine Fine (at_row id change (row ∷ []) rs)
        → AllFine Fine (cond b (change r ++ rs) (r ∷ at_row id change (row ∷ []) rs))
    go true e rest = cc e
    go false e rest = (fine.0, rest)

added_keeps : (id : Text) (change : Row → List Row) (row : Row) (rows : List Row) → has_row id rows ≡ false → AllFine Fine rows → Fine row
    → AllFine Fine (at_row id change (row ∷ []) (without id rows))
added_keeps id change row rows free fine new =
    subst (λ (xs : List Row). AllFine Fine (at_row id change (row ∷ []) xs)) (sym (without_is id rows free)) (at_keeps id change row rows free fine new)

unrepeated : (b : Bool) → cond (b && true) (kind.ArgumentConflict ∷ []) [] ≡ [] → b ≡ false
unrepeated true e = cc e
unrepeated false e = refl

passed : (b : Bool) (k : ErrorKind) → cond b [] (k ∷ []) ≡ [] → b ≡ true
passed true k e = refl
passed false k e = cc e

-- a row of another name, and one of a number that was accepted
unnamed : (name : Text) → parser_named name ≡ None → (p : ValueParser) (text : Text) (how : Reading) → parser_named name ≡ Some p
    → (accepts false p text ≡ true) × (how ≡ reading_of p)
unnamed name other p text how is = cc (other, is)

numbered : (name : Text) (range : ValueParser) → parser_named name ≡ Some range → (text : Text) → accepts false range text ≡ true
    → (p : ValueParser) → parser_named name ≡ Some p → (accepts false p text ≡ true) × (reading_of range ≡ reading_of p)
numbered name range named text ok p is =
    let same : range ≡ p = cc (named, is) in
    (subst (λ (q : ValueParser). accepts false q text ≡ true) same ok, ap reading_of same)

word_use : (i : ℕ) (name : Text) → parser_named name ≡ None → UseKeeps Fine false (word_at i name)
word_use i name other [] rows fine e = cc e
word_use i name other (v ∷ vs) rows fine e =
    let counted = both_empty (range_kinds 1 1 (length (v ∷ vs))) _ e in
    let free = both_empty (repeat_fault false name rows) _ counted.1 in
    added_keeps name (more_values CommandLine (v ∷ vs)) _ rows (unrepeated (has_row name rows) free.0) fine (v, refl, λ p is. unnamed name other p v _ is)

address_use : (i : ℕ) → UseKeeps Fine false (address_at i)
address_use i [] rows fine e = cc e
address_use i (v ∷ vs) rows fine e =
    let counted = both_empty (range_kinds 1 1 (length (v ∷ vs))) _ e in
    let free = both_empty (repeat_fault false (codes "addr") rows) _ counted.1 in
    added_keeps (codes "addr") (more_values CommandLine (v ∷ vs)) _ rows (unrepeated (has_row (codes "addr") rows) free.0) fine
    (v, refl, λ p is. unnamed (codes "addr") refl p v _ is)

-- the flag takes no value, and stands for one
mirror_use : (i : ℕ) → UseKeeps Fine false (mirror_at i)
mirror_use i [] rows fine e =
    let free = both_empty (repeat_fault false MIRROR rows) _ e in
    added_keeps MIRROR (more_values CommandLine (codes "true" ∷ [])) _ rows (unrepeated (has_row MIRROR rows) free.0) fine
    (codes "true", refl, λ p is. unnamed MIRROR refl p (codes "true") _ is)
mirror_use i (v ∷ vs) rows fine e =
    let counted = both_empty (range_kinds 0 0 (length (v ∷ vs))) _ e in
    let none : 0 ≡ suc (length vs) = eqb-true 0 (suc (length vs)) (passed (0 == suc (length vs)) kind.WrongNumberOfValues counted.0) in
    absurd (omega (arith, none))

number_use : (i : ℕ) (name : Text) (long : Option Text) (range : ValueParser) (required : Bool) (defaults : List Text)
    → parser_named name ≡ Some range → UseKeeps Fine false (number_at i name long range required defaults)
number_use i name None range required defaults named [] rows fine e = cc e
number_use i name (Some long) range required defaults named [] rows fine e = cc e
number_use i name None range required defaults named (v ∷ vs) rows fine e =
    let counted = both_empty (range_kinds 1 1 (length (v ∷ vs))) _ e in
    let free = both_empty (repeat_fault false name rows) _ counted.1 in
    let fits = both_empty (value_kinds false range v) _ free.1 in
    added_keeps name (more_values CommandLine (v ∷ vs)) _ rows (unrepeated (has_row name rows) free.0) fine
    (v, refl, numbered name range named v (passed (accepts false range v) _ fits.0))
number_use i name (Some long) range required defaults named (v ∷ vs) rows fine e =
    let counted = both_empty (range_kinds 1 1 (length (v ∷ vs))) _ e in
    let free = both_empty (repeat_fault false name rows) _ counted.1 in
    let fits = both_empty (value_kinds false range v) _ free.1 in
    added_keeps name (more_values CommandLine (v ∷ vs)) _ rows (unrepeated (has_row name rows) free.0) fine
    (v, refl, numbered name range named v (passed (accepts false range v) _ fits.0))

same_either : (b : Bool) (rows : List Row) → AllFine Fine rows → AllFine Fine (cond b rows rows)
same_either true rows fine = fine
same_either false rows fine = fine

word_default : (i : ℕ) (name : Text) → DefaultKeeps Fine (word_at i name)
word_default i name rows fine = same_either (has_row name rows) rows fine

number_default : (i : ℕ) (name : Text) (long : Option Text) (range : ValueParser) → DefaultKeeps Fine (number_at i name long range true [])
number_default i name None range rows fine = same_either (has_row name rows) rows fine
number_default i name (Some long) range rows fine = same_either (has_row name rows) rows fine

-- the row of a default
abbrev default_row : (name : Text) → ValueParser → (text : Text) → Row
default_row name parser text = record {
  id = name;
  values = text ∷ [];
  count = None;
  source = Some DefaultValue;
  reading = reading_of parser;
}

abbrev with_row : (name : Text) → ValueParser → (text : Text) → List Row → List Row
with_row name parser text rows =
    cond (has_row name rows) rows (at_row name (more_values DefaultValue (text ∷ [])) (default_row name parser text ∷ []) rows)

with_row_keeps : (name : Text) (parser : ValueParser) (text : Text) (rows : List Row) → AllFine Fine rows → Fine (default_row name parser text)
    → AllFine Fine (with_row name parser text rows)
with_row_keeps name parser text rows fine new = go (has_row name rows) refl
  where
    go : (b : Bool) → has_row name rows ≡ b
        → AllFine Fine (cond b rows (at_row name (more_values DefaultValue (text ∷ [])) (default_row name parser text ∷ []) rows))
    go true is = fine
    go false is = at_keeps name (more_values DefaultValue (text ∷ [])) (default_row name parser text) rows is fine new

workers_fine : Fine (default_row WORKERS workers_parser (codes "1"))
workers_fine = (codes "1", refl, numbered WORKERS workers_parser refl (codes "1") refl)

workers_default : (i : ℕ) (long : Option Text) → DefaultKeeps Fine (number_at i WORKERS long workers_parser false (codes "1" ∷ []))
workers_default i None rows fine = with_row_keeps WORKERS workers_parser (codes "1") rows fine workers_fine
workers_default i (Some long) rows fine = with_row_keeps WORKERS workers_parser (codes "1") rows fine workers_fine

address_default : (i : ℕ) → DefaultKeeps Fine (address_at i)
address_default i rows fine = with_row_keeps (codes "addr") parser.String (codes "127.0.0.1") rows fine
    (codes "127.0.0.1", refl, λ p is. unnamed (codes "addr") refl p (codes "127.0.0.1") _ is)

mirror_default : (i : ℕ) → DefaultKeeps Fine (mirror_at i)
mirror_default i rows fine = with_row_keeps MIRROR parser.Bool (codes "false") rows fine
    (codes "false", refl, λ p is. unnamed MIRROR refl p (codes "false") _ is)

-- ---- what is found

given_first : (given rest : Bool) → (not given || rest) ≡ false → (given ≡ true) × (rest ≡ false)
given_first true rest e = (refl, e)
given_first false rest e = cc e

none_missing : (b : Bool) → cond b (kind.MissingRequiredArgument ∷ []) [] ≡ [] → b ≡ false
none_missing true e = cc e
none_missing false e = refl

given_has : (id : Text) (rows : List Row) → AllFine Fine rows → is_given id rows ≡ true → (text : Text) × (first_of id rows ≡ Some text)
given_has id rows fine given = go (find (λ r. bytes_eq r.id id) rows) refl given
  where
    go : (o : Option Row) → find (λ r. bytes_eq r.id id) rows ≡ o → option_map_or (λ r. explicit_source r.source) o false ≡ true
        → (text : Text) × (first_of id rows ≡ Some text)
    go None is e = cc e
    go (Some r) is e = let f = holds_of_found Fine _ rows r fine is in (f.0, rw is f.1)

given_there : (id : Text) (rows : List Row) → is_given id rows ≡ true → has_row id rows ≡ true
given_there id [] e = cc e
given_there id (r ∷ rs) e = go (bytes_eq r.id id) (given_there id rs) e
  where
    go : (b : Bool) → (is_given id rs ≡ true → has_row id rs ≡ true)
        → option_map_or (λ r. explicit_source r.source) (cond b (Some r) (find (λ r. bytes_eq r.id id) rs)) false ≡ true → (b || has_row id rs) ≡ true
    go true later e = refl
    go false later e = later e

abbrev FoundFine : Text → Option Row → Type 0
FoundFine id o = (x : Row) × (o ≡ Some x) × Fine x × (bytes_eq x.id id ≡ true)

found_row : (id : Text) (rows : List Row) → AllFine Fine rows → has_row id rows ≡ true → FoundFine id (find (λ r. bytes_eq r.id id) rows)
found_row id [] fine e = cc e
found_row id (r ∷ rs) fine e = go (bytes_eq r.id id) refl e (found_row id rs fine.1)
  where
    go : (b : Bool) → bytes_eq r.id id ≡ b → (b || has_row id rs) ≡ true → (has_row id rs ≡ true → FoundFine id (find (λ r. bytes_eq r.id id) rs))
        → FoundFine id (cond b (Some r) (find (λ r. bytes_eq r.id id) rs))
    go true is e later = (r, refl, fine.0, is)
    go false is e later = later e

there_has : (id : Text) (rows : List Row) → AllFine Fine rows → has_row id rows ≡ true → (text : Text) × (first_of id rows ≡ Some text)
there_has id rows fine there =
    let found = found_row id rows fine there in
    (found.2.0, rw found.1 found.2.1)

or_true : (b : Bool) → (b || true) ≡ true
or_true true = refl
or_true false = refl

-- a row that is added is there
added_there : (id : Text) (change : Row → List Row) (row : Row) (rows : List Row) → bytes_eq row.id id ≡ true → has_row id rows ≡ false
    → has_row id (at_row id change (row ∷ []) rows) ≡ true
added_there id change row [] named free = rw named refl
added_there id change row (r ∷ rs) named free =
    let parts = or_false (bytes_eq r.id id) (has_row id rs) free in
    go (bytes_eq r.id id) parts.0 (added_there id change row rs named parts.1)
  where
    go : (b : Bool) → b ≡ false → has_row id (at_row id change (row ∷ []) rs) ≡ true
        → has_row id (cond b (change r ++ rs) (r ∷ at_row id change (row ∷ []) rs)) ≡ true
    go true e later = cc e
    go false e later = rw later (or_true (bytes_eq r.id id))

-- and the others stay
stays_there : (id other : Text) (change : Row → List Row) (row : Row) (rows : List Row) → has_row other rows ≡ false → has_row id rows ≡ true
    → has_row id (at_row other change (row ∷ []) rows) ≡ true
stays_there id other change row [] free there = cc there
stays_there id other change row (r ∷ rs) free there =
    let parts = or_false (bytes_eq r.id other) (has_row other rs) free in
    go (bytes_eq r.id other) parts.0 (kept (bytes_eq r.id id) there (stays_there id other change row rs parts.1))
  where
    kept : (d : Bool) → (d || has_row id rs) ≡ true → (has_row id rs ≡ true → has_row id (at_row other change (row ∷ []) rs) ≡ true)
        → (d || has_row id (at_row other change (row ∷ []) rs)) ≡ true
    kept true there later = refl
    kept false there later = later there

    go : (b : Bool) → b ≡ false → has_row id (r ∷ at_row other change (row ∷ []) rs) ≡ true
        → has_row id (cond b (change r ++ rs) (r ∷ at_row other change (row ∷ []) rs)) ≡ true
    go true e there = cc e
    go false e there = there

with_row_there : (name : Text) (parser : ValueParser) (text : Text) (rows : List Row) → bytes_eq name name ≡ true → has_row name (with_row name parser text rows) ≡ true
with_row_there name parser text rows same = go (has_row name rows) refl
  where
    go : (b : Bool) → has_row name rows ≡ b
        → has_row name (cond b rows (at_row name (more_values DefaultValue (text ∷ [])) (default_row name parser text ∷ []) rows)) ≡ true
    go true is = is
    go false is = added_there name (more_values DefaultValue (text ∷ [])) (default_row name parser text) rows same is

with_row_stays : (id name : Text) (parser : ValueParser) (text : Text) (rows : List Row) → has_row id rows ≡ true → has_row id (with_row name parser text rows) ≡ true
with_row_stays id name parser text rows there = go (has_row name rows) refl
  where
    go : (b : Bool) → has_row name rows ≡ b
        → has_row id (cond b rows (at_row name (more_values DefaultValue (text ∷ [])) (default_row name parser text ∷ []) rows)) ≡ true
    go true is = there
    go false is = stays_there id name (more_values DefaultValue (text ∷ [])) (default_row name parser text) rows is there

either_there : (id : Text) (b : Bool) (rows : List Row) → has_row id rows ≡ true → has_row id (cond b rows rows) ≡ true
either_there id true rows there = there
either_there id false rows there = there

abbrev pub IsBetween : (low high n : ℕ) → Type 0
IsBetween low high n = (low ≤ n) × (n ≤ high)

pub count_read : (bits low high : ℕ) → high < 2 ^ bits → (text : Text) → accepts false (from_to low high) text ≡ true
    → (n : ℕ) × (number_of_bits bits (without_minus text) ≡ Some n) × IsBetween low high n
count_read bits low high small text ok =
    let read = signed_reads ⊤ (ParsesUnsigned bits 10) bits low high text (number_of_bits bits (without_minus text)) (number_reads bits (without_minus text))
    (λ u x given. given) small (accepts-Accepts false (from_to low high) text ok) in
    (read.0, read.1, (read.2, read.3))

number_there : (bits : ℕ) (name : Text) (low high : ℕ) → high < 2 ^ bits → parser_named name ≡ Some (from_to low high)
    → (rows : List Row) → AllFine Fine rows → has_row name rows ≡ true → (n : ℕ) × (option_and_then (number_of_bits bits) (one_of name rows) ≡ Some n) × IsBetween low high n
number_there bits name low high small named rows fine there =
    let found = found_row name rows fine there in
    let same : found.0.id ≡ name = (bytes_eq-Decides found.0.id name).0 found.3 in
    let accepted = found.2.2 (from_to low high) (ap parser_named same ∙ named) in
    let count = count_read bits low high small found.2.0 accepted.0 in
    (count.0, rw (found.1, found.2.1, accepted.1) count.1, count.2)

-- ---- each command

-- a command, with its numbers in range
abbrev pub InRange : Command → Type 0
InRange (run catalog key workers) = IsBetween 1 greatest_workers workers
InRange (grant catalog key owner amount) = IsBetween 1 greatest_amount amount
InRange (serve catalog key address port workers each) =
    IsBetween 1 greatest_port port × IsBetween 1 greatest_workers workers × IsBetween 1 greatest_each each
InRange (gen seed asks workers) = IsBetween 0 greatest_seed seed × IsBetween 1 greatest_asks asks × IsBetween 1 greatest_workers workers
InRange _ = ⊤

abbrev IsMet : Option Command → Type 0
IsMet o = (c : Command) × (o ≡ Some c) × InRange c

check_met : (a b c : Option Text) (x y z : Text) → a ≡ Some x → b ≡ Some y → c ≡ Some z → IsMet (check_of a b c)
check_met a b c x y z e f g = (check x y z, rw (e, f, g) refl, tt)

init_met : (a b : Option Text) (x y : Text) → a ≡ Some x → b ≡ Some y → IsMet (init_of a b)
init_met a b x y e f = (init x y, rw (e, f) refl, tt)

audit_met : (a b : Option Text) (x y : Text) → a ≡ Some x → b ≡ Some y → IsMet (audit_of a b)
audit_met a b x y e f = (audit x y, rw (e, f) refl, tt)

run_met : (a b : Option Text) (c : Option ℕ) (x y : Text) (z : ℕ) → a ≡ Some x → b ≡ Some y → c ≡ Some z → IsBetween 1 greatest_workers z → IsMet (run_of a b c)
run_met a b c x y z e f g count = (run x y z, rw (e, f, g) refl, count)

grant_met : (a b c : Option Text) (d : Option ℕ) (x y z : Text) (n : ℕ) → a ≡ Some x → b ≡ Some y → c ≡ Some z → d ≡ Some n → IsBetween 1 greatest_amount n
    → IsMet (grant_of a b c d)
grant_met a b c d x y z n e f g h within = (grant x y z n, rw (e, f, g, h) refl, within)

gap_met : (a b c d : Option Text) (x y z w : Text) → a ≡ Some x → b ≡ Some y → c ≡ Some z → d ≡ Some w → IsMet (gap_of a b c d)
gap_met a b c d x y z w e f g h = (gap x y z w, rw (e, f, g, h) refl, tt)

serve_met : (a b c : Option Text) (d e f : Option ℕ) (x y z : Text) (u v w : ℕ) → a ≡ Some x → b ≡ Some y → c ≡ Some z → d ≡ Some u → e ≡ Some v → f ≡ Some w
    → IsBetween 1 greatest_port u × IsBetween 1 greatest_workers v × IsBetween 1 greatest_each w → IsMet (serve_of a b c d e f)
serve_met a b c d e f x y z u v w i j k l m n within = (serve x y z u v w, rw (i, j, k, l, m, n) refl, within)

gen_met : (a b c : Option ℕ) (x y z : ℕ) → a ≡ Some x → b ≡ Some y → c ≡ Some z
    → IsBetween 0 greatest_seed x × IsBetween 1 greatest_asks y × IsBetween 1 greatest_workers z → IsMet (gen_of a b c)
gen_met a b c x y z e f g within = (gen x y z, rw (e, f, g) refl, within)

derive_met : (a b c : Option Text) (x y z : Text) → a ≡ Some x → b ≡ Some y → c ≡ Some z → IsMet (derive_of a b c)
derive_met a b c x y z e f g = (derive x y z, rw (e, f, g) refl, tt)

judge_met : (a b c d : Option Text) (x y z w : Text) → a ≡ Some x → b ≡ Some y → c ≡ Some z → d ≡ Some w → IsMet (judge_of a b c d)
judge_met a b c d x y z w e f g h = (judge x y z w, rw (e, f, g, h) refl, tt)

-- the last check of a level has no fault
checked : (s : Shape) (words : List Text) → level_fault s [] nothing_held words false [] ≡ [] → check_fault s (rows_after s.rules [] words) false ≡ []
checked s words e =
    let end = (walk s.rules [] nothing_held words).held in
    let a = both_empty (walk_fault s [] (walk_from nothing_held) words) _ e in
    let b = both_empty (settle_fault s.rules s.args_override_self end) _ a.1 in
    (both_empty (defaults_fault (settled s.rules end).rows s.rules) _ b.1).1

abbrev pub check_shape : Shape
check_shape = built_leaf (inherited program_app.top check_app.top)

abbrev pub init_shape : Shape
init_shape = built_leaf (inherited program_app.top init_app.top)

abbrev pub run_shape : Shape
run_shape = built_leaf (inherited program_app.top run_app.top)

abbrev pub audit_shape : Shape
audit_shape = built_leaf (inherited program_app.top audit_app.top)

abbrev pub grant_shape : Shape
grant_shape = built_leaf (inherited program_app.top grant_app.top)

abbrev pub gap_shape : Shape
gap_shape = built_leaf (inherited program_app.top gap_app.top)

abbrev pub serve_shape : Shape
serve_shape = built_leaf (inherited program_app.top serve_app.top)

abbrev pub gen_shape : Shape
gen_shape = built_leaf (inherited program_app.top gen_app.top)

abbrev pub derive_shape : Shape
derive_shape = built_leaf (inherited program_app.top derive_app.top)

abbrev pub judge_shape : Shape
judge_shape = built_leaf (inherited program_app.top judge_app.top)

check_accepted : (words : List Text) → level_fault check_shape [] nothing_held words false [] ≡ [] → IsMet (check_found_in (rows_after check_shape.rules [] words))
check_accepted words e =
    let rows = rows_after check_shape.rules [] words in
    let fine = level_keeps Fine check_shape [] (word_use 1 (codes "catalog") refl, (word_use 2 (codes "owner") refl, (word_use 3 (codes "file") refl, tt))) (λ x. refl)
    words false [] (word_default 1 (codes "catalog"), (word_default 2 (codes "owner"), (word_default 3 (codes "file"), tt))) e in
    let first = given_first (is_given (codes "catalog") rows) _ (none_missing _ (checked check_shape words e)) in
    let second = given_first (is_given (codes "owner") rows) _ first.1 in
    let third = given_first (is_given (codes "file") rows) _ second.1 in
    let catalog = given_has (codes "catalog") rows fine first.0 in
    let owner = given_has (codes "owner") rows fine second.0 in
    let file = given_has (codes "file") rows fine third.0 in
    check_met _ _ _ catalog.0 owner.0 file.0 catalog.1 owner.1 file.1

init_accepted : (words : List Text) → level_fault init_shape [] nothing_held words false [] ≡ [] → IsMet (init_found_in (rows_after init_shape.rules [] words))
init_accepted words e =
    let rows = rows_after init_shape.rules [] words in
    let fine = level_keeps Fine init_shape [] (word_use 1 (codes "catalog") refl, (word_use 2 (codes "key") refl, (mirror_use 3, tt))) (λ x. refl)
    words false [] (word_default 1 (codes "catalog"), (word_default 2 (codes "key"), (mirror_default 3, tt))) e in
    let first = given_first (is_given (codes "catalog") rows) _ (none_missing _ (checked init_shape words e)) in
    let second = given_first (is_given (codes "key") rows) _ first.1 in
    let catalog = given_has (codes "catalog") rows fine first.0 in
    let key = given_has (codes "key") rows fine second.0 in
    init_met _ _ catalog.0 key.0 catalog.1 key.1

run_accepted : (words : List Text) → level_fault run_shape [] nothing_held words false [] ≡ [] → IsMet (run_found_in (rows_after run_shape.rules [] words))
run_accepted words e =
    let rows = rows_after run_shape.rules [] words in
    let fine = level_keeps Fine run_shape [] (word_use 1 (codes "catalog") refl, (word_use 2 (codes "key") refl, (number_use 3 WORKERS (Some WORKERS) workers_parser false (codes "1" ∷ []) refl, (mirror_use 3, tt)))) (λ x. refl)
    words false [] (word_default 1 (codes "catalog"), (word_default 2 (codes "key"), (workers_default 3 (Some WORKERS), (mirror_default 3, tt)))) e in
    let first = given_first (is_given (codes "catalog") rows) _ (none_missing _ (checked run_shape words e)) in
    let second = given_first (is_given (codes "key") rows) _ first.1 in
    let catalog = given_has (codes "catalog") rows fine first.0 in
    let key = given_has (codes "key") rows fine second.0 in
    let named = with_default (with_default (settled run_shape.rules (walk run_shape.rules [] nothing_held words).held).rows (word_at 1 (codes "catalog"))) (word_at 2 (codes "key")) in
    let worked = with_row WORKERS workers_parser (codes "1") named in
    let workers = number_there 32 WORKERS 1 greatest_workers (omega arith) refl rows fine
    (with_row_stays WORKERS MIRROR parser.Bool (codes "false") worked (with_row_there WORKERS workers_parser (codes "1") named refl)) in
    run_met _ _ _ catalog.0 key.0 workers.0 catalog.1 key.1 workers.1 workers.2

audit_accepted : (words : List Text) → level_fault audit_shape [] nothing_held words false [] ≡ [] → IsMet (audit_found_in (rows_after audit_shape.rules [] words))
audit_accepted words e =
    let rows = rows_after audit_shape.rules [] words in
    let fine = level_keeps Fine audit_shape [] (word_use 1 (codes "catalog") refl, (word_use 2 (codes "key") refl, (mirror_use 3, tt))) (λ x. refl)
    words false [] (word_default 1 (codes "catalog"), (word_default 2 (codes "key"), (mirror_default 3, tt))) e in
    let first = given_first (is_given (codes "catalog") rows) _ (none_missing _ (checked audit_shape words e)) in
    let second = given_first (is_given (codes "key") rows) _ first.1 in
    let catalog = given_has (codes "catalog") rows fine first.0 in
    let key = given_has (codes "key") rows fine second.0 in
    audit_met _ _ catalog.0 key.0 catalog.1 key.1

grant_accepted : (words : List Text) → level_fault grant_shape [] nothing_held words false [] ≡ [] → IsMet (grant_found_in (rows_after grant_shape.rules [] words))
grant_accepted words e =
    let rows = rows_after grant_shape.rules [] words in
    let fine = level_keeps Fine grant_shape [] (
      word_use 1 (codes "catalog") refl,
      (
        word_use 2 (codes "key") refl,
        (word_use 3 (codes "owner") refl, (number_use 4 (codes "amount") None amount_parser true [] refl, (mirror_use 5, tt))),
      ),
    ) (λ x. refl)
    words false [] (
      word_default 1 (codes "catalog"),
      (
        word_default 2 (codes "key"),
        (word_default 3 (codes "owner"), (number_default 4 (codes "amount") None amount_parser, (mirror_default 5, tt))),
      ),
    ) e in
    let first = given_first (is_given (codes "catalog") rows) _ (none_missing _ (checked grant_shape words e)) in
    let second = given_first (is_given (codes "key") rows) _ first.1 in
    let third = given_first (is_given (codes "owner") rows) _ second.1 in
    let fourth = given_first (is_given (codes "amount") rows) _ third.1 in
    let catalog = given_has (codes "catalog") rows fine first.0 in
    let key = given_has (codes "key") rows fine second.0 in
    let owner = given_has (codes "owner") rows fine third.0 in
    let amount = number_there 64 (codes "amount") 1 greatest_amount (omega arith) refl rows fine (given_there (codes "amount") rows fourth.0) in
    grant_met _ _ _ _ catalog.0 key.0 owner.0 amount.0 catalog.1 key.1 owner.1 amount.1 amount.2

gap_accepted : (words : List Text) → level_fault gap_shape [] nothing_held words false [] ≡ [] → IsMet (gap_found_in (rows_after gap_shape.rules [] words))
gap_accepted words e =
    let rows = rows_after gap_shape.rules [] words in
    let fine = level_keeps Fine gap_shape []
    (word_use 1 (codes "catalog") refl, (word_use 2 (codes "owner") refl, (word_use 3 (codes "second_catalog") refl, (word_use 4 (codes "file") refl, tt)))) (λ x. refl)
    words false [] (word_default 1 (codes "catalog"), (word_default 2 (codes "owner"), (word_default 3 (codes "second_catalog"), (word_default 4 (codes "file"), tt)))) e in
    let first = given_first (is_given (codes "catalog") rows) _ (none_missing _ (checked gap_shape words e)) in
    let second = given_first (is_given (codes "owner") rows) _ first.1 in
    let third = given_first (is_given (codes "second_catalog") rows) _ second.1 in
    let fourth = given_first (is_given (codes "file") rows) _ third.1 in
    let catalog = given_has (codes "catalog") rows fine first.0 in
    let owner = given_has (codes "owner") rows fine second.0 in
    let other = given_has (codes "second_catalog") rows fine third.0 in
    let file = given_has (codes "file") rows fine fourth.0 in
    gap_met _ _ _ _ catalog.0 owner.0 other.0 file.0 catalog.1 owner.1 other.1 file.1

serve_accepted : (words : List Text) → level_fault serve_shape [] nothing_held words false [] ≡ [] → IsMet (serve_found_in (rows_after serve_shape.rules [] words))
serve_accepted words e =
    let rows = rows_after serve_shape.rules [] words in
    let fine = level_keeps Fine serve_shape [] (
      word_use 1 (codes "catalog") refl,
      (
        word_use 2 (codes "key") refl,
        (
          address_use 3,
          (
            number_use 3 (codes "port") (Some (codes "port")) port_parser true [] refl,
            (
              number_use 3 WORKERS (Some WORKERS) workers_parser false (codes "1" ∷ []) refl,
              (number_use 3 (codes "each") (Some (codes "each")) each_parser true [] refl, (mirror_use 3, tt)),
            ),
          ),
        ),
      ),
    ) (λ x. refl)
    words false [] (
      word_default 1 (codes "catalog"),
      (
        word_default 2 (codes "key"),
        (
          address_default 3,
          (
            number_default 3 (codes "port") (Some (codes "port")) port_parser,
            (
              workers_default 3 (Some WORKERS),
              (number_default 3 (codes "each") (Some (codes "each")) each_parser, (mirror_default 3, tt)),
            ),
          ),
        ),
      ),
    ) e in
    let first = given_first (is_given (codes "catalog") rows) _ (none_missing _ (checked serve_shape words e)) in
    let second = given_first (is_given (codes "key") rows) _ first.1 in
    let third = given_first (is_given (codes "port") rows) _ second.1 in
    let fourth = given_first (is_given (codes "each") rows) _ third.1 in
    let catalog = given_has (codes "catalog") rows fine first.0 in
    let key = given_has (codes "key") rows fine second.0 in
    let port = number_there 32 (codes "port") 1 greatest_port (omega arith) refl rows fine (given_there (codes "port") rows third.0) in
    let each = number_there 32 (codes "each") 1 greatest_each (omega arith) refl rows fine (given_there (codes "each") rows fourth.0) in
    let named = with_default (with_default (settled serve_shape.rules (walk serve_shape.rules [] nothing_held words).held).rows (word_at 1 (codes "catalog"))) (word_at 2 (codes "key")) in
    let addressed = with_row (codes "addr") parser.String (codes "127.0.0.1") named in
    let ported = cond (has_row (codes "port") addressed) addressed addressed in
    let worked = with_row WORKERS workers_parser (codes "1") ported in
    let eached = cond (has_row (codes "each") worked) worked worked in
    let address = there_has (codes "addr") rows fine
    (with_row_stays (codes "addr") MIRROR parser.Bool (codes "false") eached (either_there (codes "addr") (has_row (codes "each") worked) worked (with_row_stays (codes "addr") WORKERS workers_parser (codes "1") ported
    (either_there (codes "addr") (has_row (codes "port") addressed) addressed (with_row_there (codes "addr") parser.String (codes "127.0.0.1") named refl))))) in
    let workers = number_there 32 WORKERS 1 greatest_workers (omega arith) refl rows fine
    (with_row_stays WORKERS MIRROR parser.Bool (codes "false") eached
    (either_there WORKERS (has_row (codes "each") worked) worked (with_row_there WORKERS workers_parser (codes "1") ported refl))) in
    serve_met _ _ _ _ _ _ catalog.0 key.0 address.0 port.0 workers.0 each.0 catalog.1 key.1 address.1 port.1 workers.1 each.1 (port.2, workers.2, each.2)

gen_accepted : (words : List Text) → level_fault gen_shape [] nothing_held words false [] ≡ [] → IsMet (gen_found_in (rows_after gen_shape.rules [] words))
gen_accepted words e =
    let rows = rows_after gen_shape.rules [] words in
    let fine = level_keeps Fine gen_shape [] (
      number_use 1 (codes "seed") None seed_parser true [] refl,
      (
        number_use 2 (codes "asks") None asks_parser true [] refl,
        (number_use 3 WORKERS None workers_parser false (codes "1" ∷ []) refl, tt),
      ),
    ) (λ x. refl)
    words false [] (
      number_default 1 (codes "seed") None seed_parser,
      (number_default 2 (codes "asks") None asks_parser, (workers_default 3 None, tt)),
    ) e in
    let first = given_first (is_given (codes "seed") rows) _ (none_missing _ (checked gen_shape words e)) in
    let second = given_first (is_given (codes "asks") rows) _ first.1 in
    let seed = number_there 32 (codes "seed") 0 greatest_seed (omega arith) refl rows fine (given_there (codes "seed") rows first.0) in
    let asks = number_there 32 (codes "asks") 1 greatest_asks (omega arith) refl rows fine (given_there (codes "asks") rows second.0) in
    let before = (settled gen_shape.rules (walk gen_shape.rules [] nothing_held words).held).rows in
    let seeded = cond (has_row (codes "seed") before) before before in
    let asked = cond (has_row (codes "asks") seeded) seeded seeded in
    let workers = number_there 32 WORKERS 1 greatest_workers (omega arith) refl rows fine (with_row_there WORKERS workers_parser (codes "1") asked refl) in
    gen_met _ _ _ seed.0 asks.0 workers.0 seed.1 asks.1 workers.1 (seed.2, asks.2, workers.2)

derive_accepted : (words : List Text) → level_fault derive_shape [] nothing_held words false [] ≡ [] → IsMet (derive_found_in (rows_after derive_shape.rules [] words))
derive_accepted words e =
    let rows = rows_after derive_shape.rules [] words in
    let fine = level_keeps Fine derive_shape [] (word_use 1 (codes "catalog") refl, (word_use 2 (codes "owner") refl, (word_use 3 (codes "file") refl, tt))) (λ x. refl)
    words false [] (word_default 1 (codes "catalog"), (word_default 2 (codes "owner"), (word_default 3 (codes "file"), tt))) e in
    let first = given_first (is_given (codes "catalog") rows) _ (none_missing _ (checked derive_shape words e)) in
    let second = given_first (is_given (codes "owner") rows) _ first.1 in
    let third = given_first (is_given (codes "file") rows) _ second.1 in
    let catalog = given_has (codes "catalog") rows fine first.0 in
    let owner = given_has (codes "owner") rows fine second.0 in
    let file = given_has (codes "file") rows fine third.0 in
    derive_met _ _ _ catalog.0 owner.0 file.0 catalog.1 owner.1 file.1

judge_accepted : (words : List Text) → level_fault judge_shape [] nothing_held words false [] ≡ [] → IsMet (judge_found_in (rows_after judge_shape.rules [] words))
judge_accepted words e =
    let rows = rows_after judge_shape.rules [] words in
    let fine = level_keeps Fine judge_shape []
    (word_use 1 (codes "catalog") refl, (word_use 2 (codes "owner") refl, (word_use 3 (codes "file") refl, (word_use 4 (codes "derivation") refl, tt)))) (λ x. refl)
    words false [] (word_default 1 (codes "catalog"), (word_default 2 (codes "owner"), (word_default 3 (codes "file"), (word_default 4 (codes "derivation"), tt)))) e in
    let first = given_first (is_given (codes "catalog") rows) _ (none_missing _ (checked judge_shape words e)) in
    let second = given_first (is_given (codes "owner") rows) _ first.1 in
    let third = given_first (is_given (codes "file") rows) _ second.1 in
    let fourth = given_first (is_given (codes "derivation") rows) _ third.1 in
    let catalog = given_has (codes "catalog") rows fine first.0 in
    let owner = given_has (codes "owner") rows fine second.0 in
    let file = given_has (codes "file") rows fine third.0 in
    let derivation = given_has (codes "derivation") rows fine fourth.0 in
    judge_met _ _ _ _ catalog.0 owner.0 file.0 derivation.0 catalog.1 owner.1 file.1 derivation.1

-- ---- the program

stop_accepted : (rows : List Row) (stop : Option (Text × List Text)) → entered_fault (built program_app) stop ≡ []
    → check_fault (built program_app).top rows (is_some (entered (built program_app) stop)) ≡ [] → IsMet (command_met (entered (built program_app) stop))
stop_accepted rows None below e = cc e
stop_accepted rows (Some (name, words)) below e =
    go (answers_to name (codes "check", [])) (answers_to name (codes "init", [])) (answers_to name (codes "run", [])) (answers_to name (codes "audit", []))
    (answers_to name (codes "grant", [])) (answers_to name (codes "gap", [])) (answers_to name (codes "serve", [])) (answers_to name (codes "gen", []))
    (answers_to name (codes "derive", [])) (answers_to name (codes "judge", [])) below e
  where
    met : (a b c d m g s n u v : Bool) → Option Shape
    met a b c d m g s n u v = cond a (Some check_shape) (cond b (Some init_shape) (cond c (Some run_shape) (cond d (Some audit_shape) (cond m (Some grant_shape)
        (cond g (Some gap_shape) (cond s (Some serve_shape) (cond n (Some gen_shape) (cond u (Some derive_shape) (cond v (Some judge_shape) None)))))))))

    go : (a b c d m g s n u v : Bool)
        → option_map_or (λ s. level_fault s [] nothing_held words false []) (met a b c d m g s n u v) [] ≡ []
        → check_fault (built program_app).top rows (is_some (option_map (λ s. rows_at s words) (met a b c d m g s n u v))) ≡ []
        → IsMet (command_met (option_map (λ s. rows_at s words) (met a b c d m g s n u v)))
    go true b c d m g s n u v below e = check_accepted words below
    go false true c d m g s n u v below e = init_accepted words below
    go false false true d m g s n u v below e = run_accepted words below
    go false false false true m g s n u v below e = audit_accepted words below
    go false false false false true g s n u v below e = grant_accepted words below
    go false false false false false true s n u v below e = gap_accepted words below
    go false false false false false false true n u v below e = serve_accepted words below
    go false false false false false false false true u v below e = gen_accepted words below
    go false false false false false false false false true v below e = derive_accepted words below
    go false false false false false false false false false true below e = judge_accepted words below
    go false false false false false false false false false false below e = cc e

pub accepted : (words : List Text) → fault_of program_app words ≡ [] → IsMet (command_of words)
accepted words e =
    let top = (built program_app).top in
    let names = names_of (built program_app) in
    let end = walk top.rules names nothing_held words in
    let a = both_empty (walk_fault top names (walk_from nothing_held) words) _ e in
    let b = both_empty (entered_fault (built program_app) end.stopped) _ a.1 in
    let c = both_empty (settle_fault top.rules top.args_override_self end.held) _ b.1 in
    let d = both_empty (defaults_fault (settled top.rules end.held).rows top.rules) _ c.1 in
    let met = stop_accepted (finished top.rules end.held) end.stopped b.0 d.1 in
    (met.0, command_taken words e ∙ met.1, met.2)

-- words with no command are refused, so a command's words are accepted
unrefused : (words : List (List ℕ)) (c : Command) → command_of words ≡ Some c → fault_of program_app words ≡ []
unrefused words c is = go (fault_of program_app words) refl
  where
    go : (k : Kinds) → fault_of program_app words ≡ k → k ≡ []
    go [] e = refl
    go (x ∷ xs) e = let none = command_refused words (λ well. cc (e, well)) in cc (is, none)

pub in_range : (words : List (List ℕ)) (c : Command) → command_of words ≡ Some c → InRange c
in_range words c is =
    let met = accepted words (unrefused words c is) in
    let same : met.0 ≡ c = cc (met.1, is) in
    subst InRange same met.2
