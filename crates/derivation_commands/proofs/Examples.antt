-- worked examples of the order of work, of the lines, and of how long a derivation may be
use Rattle.std.proofs.Common.{◌≡◌, ◌∙◌, ℕ, Bool, cond, true, false, List, [], ◌∷◌, ◌++◌, length, nat_le, Option, Some, None, refl, ap, arith}
use Rattle.std.specs.Fmt.{digits}
use Rattle.std.specs.Prelude.{Result, Ok, Err, codes, ok_or}
use Rattle.std.proofs.lemmas.Bool.{le-leb, leb-true}
use Rattle.fz_ast.specs.Signature.{Signature}
use Rattle.fz_ast.specs.declared.row.Column.TheVariants.{Num}
use Rattle.fz_frac.specs.Distance.{Fin}
use Rattle.owner_catalog.specs.Catalog.{Catalog, OwnerEntry, TableEntry, owner_signature}
use Rattle.catalog_loading.specs.Files.{Contents, always, readable}
use Rattle.catalog_loading.specs.Steps.{FileStep, StepOutcome, ◌>>=◌, behind, continued, file_read}
use Rattle.catalog_loading.specs.Loaded.{catalog_read}
use Rattle.wire_lines.specs.Refusal.{no_number, no_term, no_token, too_nested}
use Rattle.wire_lines.specs.Reply.{reply_text}
use Rattle.answer_path.specs.Reading.{nested, stuck, unlexed}
use Rattle.answer_path.specs.Admission.{refused_for, walks_too_much}
use Rattle.derivation_commands.specs.Task.{derive_steps, judge_steps, to_derive, to_judge}
use Rattle.derivation_commands.specs.Outcome.{IsDerivedBy, IsJudgedBy, Outcome, if_short, no_text, refusal_text, refused, too_long, written, yes_text}
use Rattle.derivation_lines.specs.Written.{longest}

-- ---- the order of work: each step is refused where all before it are done

-- over these files a step comes to this, and reads these names
abbrev Comes : {A : Type 0} → FileStep A → Contents → Result A (List ℕ) → (names : List (List ℕ)) → Type 0
Comes step held given names = step (always held) ≡ record { given = given; names = names; rest = always held }

goes_on : {A B : Type 0} → (step : FileStep A) (next : A → FileStep B) (held : Contents) (x : A) (given : Result B (List ℕ)) (names more : List (List ℕ))
    → Comes step held (Ok x) names → Comes (next x) held given more → Comes (step >>= next) held given (names ++ more)
unfolding ◌>>=◌
goes_on {A = A} {B = B} step next held x given names more is comes =
    ap (λ (o : StepOutcome A). continued o.given o.names o.rest next) is ∙ ap (λ (o : StepOutcome B). behind names o) comes

stops : {A B : Type 0} → (step : FileStep A) (next : A → FileStep B) (held : Contents) (name : List ℕ) (names : List (List ℕ))
    → Comes step held (Err name) names → Comes (step >>= next) held (Err name) names
unfolding ◌>>=◌
stops {A = A} step next held name names is = ap (λ (o : StepOutcome A). continued o.given o.names o.rest next) is

abbrev cat : List ℕ
cat = codes "cat.json"

abbrev program : List ℕ
program = codes "program"

abbrev derivation : List ℕ
derivation = codes "derivation"

abbrev nobody : List ℕ
nobody = codes "nobody"

-- a catalog of two owners, of one table each, whose files nothing is said of
abbrev table_of : (file : List ℕ) → TableEntry
table_of file = record { name = codes "people"; file = file; columns = record { name = codes "age"; kind = Num } ∷ [] }

abbrev owner_of : (name : List ℕ) → OwnerEntry
owner_of name = record { name = name; budget = 1; capacity = 2; tables = table_of (codes "none.csv") ∷ []; partitions = []; limits = []; text = [] }

abbrev house : Catalog
house = record { analysts = codes "ann" ∷ []; owners = owner_of (codes "a") ∷ owner_of (codes "b") ∷ []; text = [] }

abbrev tables : Signature
tables = owner_signature (owner_of (codes "b"))

abbrev HasCatalog : Contents → Type 0
HasCatalog held = Comes (catalog_read cat) held (Ok house) (cat ∷ [])

-- a file that is there with these bytes, or isn't
file_there : (held : Contents) (name : List ℕ) (found : Option (List ℕ)) → held name ≡ found
    → Comes (file_read name) held (ok_or (readable found) name) (name ∷ [])
file_there held name found is = ap (λ found. record { given = ok_or (readable found) name; names = name ∷ []; rest = always held }) is

derive_catalog : (held : Contents) → Comes (catalog_read cat) held (Err cat) (cat ∷ []) → Comes (derive_steps cat nobody program) held (Err cat) (cat ∷ [])
derive_catalog held none = stops _ _ held _ _ (stops _ _ held _ _ none)

derive_owner : (held : Contents) → HasCatalog held → Comes (derive_steps cat nobody program) held (Err nobody) (cat ∷ [])
derive_owner held has = stops _ _ held _ _ (goes_on _ _ held _ _ _ _ has (stops _ _ held _ _ refl))

derive_program : (held : Contents) → HasCatalog held → held program ≡ None → Comes (derive_steps cat (codes "b") program) held (Err program) (cat ∷ program ∷ [])
derive_program held has none =
    stops _ _ held _ _ (goes_on _ _ held _ _ _ _ has (goes_on _ _ held _ _ _ _ refl (stops _ _ held _ _ (file_there held program None none))))

-- all that is read, whatever the tables' files hold
derive_whole : (held : Contents) → HasCatalog held → held program ≡ Some (codes "size people")
    → Comes (derive_steps cat (codes "b") program) held (Ok (to_derive (record { tables = tables; program = codes "size people" }))) (cat ∷ program ∷ [])
derive_whole held has is =
    goes_on _ _ held _ _ _ _ (goes_on _ _ held _ _ _ _ has (goes_on _ _ held _ _ _ _ refl (goes_on _ _ held _ _ _ _ (file_there held program (Some (codes "size people")) is) refl))) refl

judge_program : (held : Contents) → HasCatalog held → held program ≡ None
    → Comes (judge_steps cat (codes "b") program derivation) held (Err program) (cat ∷ program ∷ [])
judge_program held has none =
    stops _ _ held _ _ (goes_on _ _ held _ _ _ _ has (goes_on _ _ held _ _ _ _ refl (stops _ _ held _ _ (file_there held program None none))))

-- the derivation is read before the program is looked at
judge_derivation : (held : Contents) → HasCatalog held → held program ≡ Some (codes "size people $") → held derivation ≡ None
    → Comes (judge_steps cat (codes "b") program derivation) held (Err derivation) (cat ∷ program ∷ derivation ∷ [])
judge_derivation held has is none =
    goes_on _ _ held _ _ _ _ (goes_on _ _ held _ _ _ _ has (goes_on _ _ held _ _ _ _ refl (goes_on _ _ held _ _ _ _ (file_there held program (Some (codes "size people $")) is) refl)))
    (stops _ _ held _ _ (file_there held derivation None none))

judge_whole : (held : Contents) → HasCatalog held → held program ≡ Some (codes "1") → held derivation ≡ Some (codes "num\n")
    → Comes (judge_steps cat (codes "a") program derivation) held (Ok (to_judge (record { tables = owner_signature (owner_of (codes "a")); program = codes "1" }) (codes "num\n")))
    (cat ∷ program ∷ derivation ∷ [])
judge_whole held has is also =
    goes_on _ _ held _ _ _ _ (goes_on _ _ held _ _ _ _ has (goes_on _ _ held _ _ _ _ refl (goes_on _ _ held _ _ _ _ (file_there held program (Some (codes "1")) is) refl)))
    (goes_on _ _ held _ _ _ _ (file_there held derivation (Some (codes "num\n")) also) refl)

-- ---- the lines

yes_one : yes_text (Fin 1 1) ≡ codes "yes 1\n"
unfolding digits
yes_one = refl

yes_half : yes_text (Fin 3 2) ≡ codes "yes 3/2\n"
unfolding digits
yes_half = refl

yes_none : yes_text (Fin 0 1) ≡ codes "yes 0\n"
unfolding digits
yes_none = refl

no_first : no_text 0 ≡ codes "no 0\n"
unfolding digits
no_first = refl

no_tenth : no_text 10 ≡ codes "no 10\n"
unfolding digits
no_tenth = refl

token_line : refusal_text (no_token 12) ≡ codes "no 20 12\n"
unfolding digits reply_text
token_line = refl

-- a program that isn't read is refused by both, and nothing else comes of it
unread : IsDerivedBy (refused_for (no_term 1)) tables (refused (refusal_text (no_term 1))) × IsJudgedBy (stuck 1) tables [] (refused (refusal_text (no_term 1)))
unread = (refl, refl)

no_token_judged : IsJudgedBy (unlexed 12) tables [] (refused (refusal_text (no_token 12)))
no_token_judged = refl

too_deep_judged : IsJudgedBy (nested 65) tables [] (refused (refusal_text (too_nested 65)))
too_deep_judged = refl

unread_no_yes : (text : List ℕ) → IsJudgedBy (stuck 1) tables [] (written text) → ⊥
unread_no_yes text is = cc is

refused_no_text : (text : List ℕ) → IsDerivedBy (refused_for no_number) tables (written text) → ⊥
refused_no_text text is = cc is

-- one that takes too many walks has no outcome
no_walks : (outcome : Outcome) → IsDerivedBy walks_too_much tables outcome → ⊥
no_walks outcome is = is

-- ---- how long a derivation may be

by_length : (b : Bool) (text : List ℕ) → nat_le (length text) longest ≡ b → if_short text ≡ cond b (written text) too_long
by_length b text is = ap (λ r. cond r (written text) too_long) is

at_most : (text : List ℕ) → length text ≡ 67108864 → if_short text ≡ written text
at_most text is = by_length true text (le-leb (length text) longest (omega (arith, is)))

one_more : (text : List ℕ) → length text ≡ 67108865 → if_short text ≡ too_long
one_more text is = by_length false text (go (nat_le (length text) longest) refl)
  where
    go : (b : Bool) → nat_le (length text) longest ≡ b → nat_le (length text) longest ≡ false
    go false e = e
    go true e = let few = leb-true (length text) longest e in absurd (omega (arith, is, few))
