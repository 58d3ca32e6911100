-- Partitions that are made, at worked tables.
use Rattle.std.proofs.Common.{◌≡◌, ◌/◌, ◌%◌, ◌++◌, ◌+◌, ℕ, zero, suc, Some, None, List, [], ◌∷◌, get_or, replicate, refl, ap, arith}
use Rattle.std.specs.Prelude.{codes, length, pos}
use Rattle.fz_ast.specs.Signature.{Signature}
use Rattle.fz_ast.specs.Terms.{FnE, Term, at}
use Rattle.fz_ast.specs.Types.{TextT}
use Rattle.metric_values.specs.Distances.{bag_distance}
use Rattle.metric_values.specs.Tables.{Dataset, apart}
use Rattle.metric_values.specs.Values.{Flat, NumF, TextF}
use Rattle.owner_catalog.specs.Entries.{PartitionEntry}
use Rattle.partition_charge.specs.Cost.{total_below}
use Rattle.partition_charge.specs.declared.view.View.TheVariants.{Part, Whole}
use Rattle.row_functions.specs.Computed.{computed}
use Rattle.row_functions.specs.RowFunctions.{depth_limit, row_text}
use Rattle.row_functions.specs.Worked.{in_town, quoted_at, same_text, town_and_age, young_or_old}
use Rattle.part_views.specs.Cuts.{Class, Cut, IsClassOf, by_column, by_function, class_of, cut_at, cut_of}
use Rattle.part_views.specs.MadeParts.{Follows, IsNumberOf, chain_from, parts_by}
use Rattle.part_views.specs.Seen.{IsSeen, rows_seen, signature_seen}
use Rattle.part_views.specs.SeenLaws.{IsOfCatalog}

-- people with a town and an age, and notes, each a text
abbrev tables : Signature
tables = record { name = codes "people"; row = town_and_age } ∷ record { name = codes "notes"; row = TextT } ∷ []

abbrev ann : Flat
ann = in_town (codes "A") (pos 20)

abbrev bob : Flat
bob = in_town (codes "B") (pos 30)

abbrev eve : Flat
eve = in_town (codes "A") (pos 40)

abbrev held : Dataset
held = (ann ∷ bob ∷ eve ∷ []) ∷ (TextF (codes "a") ∷ TextF (codes "b") ∷ []) ∷ []

abbrev cut_by : (table : ℕ) → Class → (keys : List (List ℕ)) → Cut
cut_by table class keys = record { table = table; class = class; keys = keys }

-- fn (r : text * num) => let (t, a) = r in if a <= 30 then "young" else "old"
abbrev by_age : Cut
by_age = cut_by 0 (by_function young_or_old) (codes "young" ∷ codes "old" ∷ [])

abbrev by_town : PartitionEntry
by_town = record { name = codes "town"; table = 0; column = 0; keys = codes "A" ∷ codes "B" ∷ [] }

-- ---- what is shown

young : rows_seen [] (Some by_age) (Part 8 0) held ≡ (ann ∷ bob ∷ []) ∷ []
unfolding rows_seen row_text computed depth_limit
young = refl

old : rows_seen [] (Some by_age) (Part 8 1) held ≡ (eve ∷ []) ∷ []
unfolding rows_seen row_text computed depth_limit
old = refl

one_table : signature_seen tables [] (Some by_age) (Part 8 1) ≡ record { name = codes "people"; row = town_and_age } ∷ []
unfolding signature_seen
one_table = refl

past_the_keys : rows_seen [] (Some by_age) (Part 8 2) held ≡ [] ∷ []
unfolding rows_seen
past_the_keys = refl

-- a row whose class is no key is in no part
only_old : rows_seen [] (Some (cut_by 0 (by_function young_or_old) (codes "old" ∷ []))) (Part 8 0) held ≡ (eve ∷ []) ∷ []
unfolding rows_seen row_text computed depth_limit
only_old = refl

nobody : rows_seen [] (Some (cut_by 0 (by_function young_or_old) (codes "middle" ∷ []))) (Part 8 0) held ≡ [] ∷ []
unfolding rows_seen row_text computed depth_limit
nobody = refl

-- the second table, by its rows themselves
second_table : rows_seen [] (Some (cut_by 1 (by_function same_text) (codes "b" ∷ []))) (Part 8 0) held ≡ (TextF (codes "b") ∷ []) ∷ []
unfolding rows_seen row_text computed depth_limit
second_table = refl

no_third_table : (rows_seen [] (Some (cut_by 2 (by_function same_text) (codes "b" ∷ []))) (Part 8 0) held ≡ [] ∷ [])
    × (signature_seen tables [] (Some (cut_by 2 (by_function same_text) [])) (Part 8 0) ≡ [])
unfolding rows_seen signature_seen
no_third_table = (refl, refl)

-- whatever is made, the whole shows all
whole : (rows_seen [] (Some by_age) Whole held ≡ held) × (signature_seen tables [] (Some by_age) Whole ≡ tables)
unfolding rows_seen signature_seen
whole = (refl, refl)

-- ---- which partition is which

-- partitions 0 to 7 are the catalog's, and 8 is the first that is made
last_of_the_catalog : cut_at (replicate 8 by_town) (Some by_age) 7 ≡ Some (cut_of by_town)
last_of_the_catalog = refl

first_made : cut_at (replicate 8 by_town) (Some by_age) 8 ≡ Some by_age
first_made = refl

last_made : cut_at [] (Some by_age) 254 ≡ Some by_age
last_made = refl

-- what is made stands for no partition that the catalog lacks
none_in_its_place : cut_at (by_town ∷ []) (Some by_age) 1 ≡ None
none_in_its_place = refl

nothing_made : (cut_at (by_town ∷ []) None 8 ≡ None) × (rows_seen (by_town ∷ []) None (Part 8 0) held ≡ [])
unfolding rows_seen
nothing_made = (refl, refl)

-- nor is a ninth partition of a list the catalog's
no_ninth : cut_at (replicate 9 by_town) None 8 ≡ None
no_ninth = refl

town : rows_seen (by_town ∷ []) (Some by_age) (Part 0 0) held ≡ (ann ∷ eve ∷ []) ∷ []
unfolding rows_seen
town = refl

last_key : IsSeen [] (Some by_age) (Part 8 1)
last_key = (by_age, refl, omega arith)

no_third_key : IsSeen [] (Some by_age) (Part 8 2) → ⊥
no_third_key h =
    let same : by_age ≡ h.0 = cc (h.1) in
    let count = ap (λ (c : Cut). length c.keys) same in
    absurd (omega (arith, h.2, count))

catalog_ends : (IsOfCatalog (Part 7 0)) × (IsOfCatalog (Part 8 0) → ⊥)
catalog_ends = (omega arith, λ h. omega (arith, h))

-- ---- classes

-- a text of 64 bytes is a class, and what begins alike is another
abbrev long : List ℕ
long = replicate 64 97

long_class : parts_by (by_function same_text) (long ∷ [])
    (TextF (replicate 63 97) ∷ TextF long ∷ TextF (replicate 63 97 ++ 98 ∷ []) ∷ TextF (replicate 65 97) ∷ TextF [] ∷ []) ≡ ((TextF long ∷ []) ∷ []) ∷ []
unfolding row_text computed depth_limit
long_class = refl

-- a class without bytes is one too
empty_class : parts_by (by_function same_text) ([] ∷ []) (TextF (codes "a") ∷ TextF [] ∷ []) ≡ ((TextF [] ∷ []) ∷ []) ∷ []
unfolding row_text computed depth_limit
empty_class = refl

-- the number in a column is no class, and the same digits as a text are
digits : parts_by (by_column 1) (codes "30" ∷ []) (bob ∷ []) ≡ ([] ∷ []) ∷ []
digits = refl

text_classes : IsClassOf town_and_age (by_column 0)
text_classes = refl

no_number : IsClassOf town_and_age (by_column 1) → ⊥
no_number h = absurd (cc h)

-- a key and its number
second_key : (IsNumberOf (codes "young" ∷ codes "old" ∷ []) (codes "old") (Some 1))
second_key = (omega arith, refl)

-- a text that is as long as a key is another, and what is no key has no number
not_by_length : IsNumberOf (codes "young" ∷ codes "old" ∷ []) (codes "odd") (Some 1) → ⊥
not_by_length h = let second : 108 ≡ 100 = ap (λ (text : List ℕ). get_or text 1 0) (h.1) in omega (arith, second)

no_number_past : IsNumberOf (codes "young" ∷ []) (codes "young") (Some 1) → ⊥
no_number_past h = omega (arith, h.0)

-- a column by its number
second_column : class_of (by_column 1) bob ≡ NumF (pos 30)
second_column = refl

-- as many keys as a made partition may have: texts of two letters
abbrev letters : ℕ → List (List ℕ)
letters zero = []
letters (suc n) = letters n ++ ((97 + n / 16) ∷ (97 + n % 16) ∷ []) ∷ []

last_of_many : rows_seen [] (Some (cut_by 1 (by_function same_text) (letters 250))) (Part 8 249) ([] ∷ (TextF (codes "pj") ∷ TextF (codes "pk") ∷ []) ∷ [])
    ≡ (TextF (codes "pj") ∷ []) ∷ []
unfolding rows_seen row_text computed depth_limit
last_of_many = refl

first_of_many : rows_seen [] (Some (cut_by 1 (by_function same_text) (letters 250))) (Part 8 0) ([] ∷ (TextF (codes "pj") ∷ TextF (codes "aa") ∷ []) ∷ [])
    ≡ (TextF (codes "aa") ∷ []) ∷ []
unfolding rows_seen row_text computed depth_limit
first_of_many = refl

as_many_parts : length (parts_by (by_function same_text) (letters 250) []) ≡ 250
as_many_parts = refl

-- ---- how far parts are apart

-- one person less, and one who is older
abbrev later : Dataset
later = (bob ∷ in_town (codes "A") (pos 31) ∷ []) ∷ (TextF (codes "a") ∷ TextF (codes "b") ∷ []) ∷ []

all_apart : apart held later ≡ 3
all_apart = refl

ages_apart : total_below 2 (λ j. apart (rows_seen [] (Some by_age) (Part 8 j) held) (rows_seen [] (Some by_age) (Part 8 j) later)) ≡ 3
unfolding rows_seen row_text computed depth_limit
ages_apart = refl

-- One function for all parts is needed: where two parts of one partition are by two functions, a row may be in both.
-- fn (t : text) => "b"
abbrev always_b : Term
always_b = at (record { from = 0; to = 20 }) (FnE (codes "t") (record { from = 8; to = 12 }) TextT (quoted_at 17 20 (codes "b")))

abbrev said_by : ℕ → Cut
said_by zero = cut_by 0 (by_function same_text) (codes "a" ∷ codes "b" ∷ [])
said_by (suc n) = cut_by 0 (by_function always_b) (codes "a" ∷ codes "b" ∷ [])

two_functions : total_below 2 (λ j. apart (rows_seen [] (Some (said_by j)) (Part 8 j) ((TextF (codes "a") ∷ []) ∷ []))
    (rows_seen [] (Some (said_by j)) (Part 8 j) ([] ∷ []))) ≡ 2
unfolding rows_seen row_text computed depth_limit
two_functions = refl

one_function : total_below 2 (λ j. apart (rows_seen [] (Some (said_by 0)) (Part 8 j) ((TextF (codes "a") ∷ []) ∷ []))
    (rows_seen [] (Some (said_by 0)) (Part 8 j) ([] ∷ []))) ≡ 1
unfolding rows_seen row_text computed depth_limit
one_function = refl

one_row_apart : bag_distance (TextF (codes "a") ∷ []) [] ≡ 1
one_row_apart = refl

-- ---- chains

-- rows 0 and 2 are one part, and row 1 another; row 3 is in none
abbrev next : List ℕ
next = 3 ∷ 0 ∷ 0 ∷ 7 ∷ []

two_rows : (chain_from next 1 ≡ 0 ∷ 2 ∷ []) × Follows next 1 (0 ∷ 2 ∷ [])
two_rows = (refl, (refl, (refl, refl)))

one_row : chain_from next 2 ≡ 1 ∷ []
one_row = refl

no_rows : (chain_from next 0 ≡ []) × Follows next 0 []
no_rows = (refl, refl)
