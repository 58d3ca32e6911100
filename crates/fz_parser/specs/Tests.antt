-- What the tables must pass, as tests that compute.
use Rattle.std.specs.Prelude.{ℕ, zero, suc, ◌+◌, ◌-◌, List, [], ◌∷◌, ◌++◌, Bool, true, false, cond, get_or, drop, length, ◌&&◌, ◌||◌, nat_eq, nat_lt}
use Rattle.fz_parser.specs.declared.grammar.Item.{Item}
use Rattle.fz_parser.specs.declared.grammar.Item.TheVariants.{Take, Read, Make}
use Rattle.fz_parser.specs.declared.grammar.Terminal.{Terminal}
use Rattle.fz_parser.specs.declared.grammar.Terminal.TheVariants.{Named, Numeral, Positive, Quoted, Keyword, Symbol}
use Rattle.fz_parser.specs.declared.grammar.Phrase.{Phrase}
use Rattle.fz_parser.specs.declared.grammar.Phrase.TheVariants.{Expression}
use Rattle.fz_parser.specs.Table.{rule_count}
use Rattle.fz_parser.specs.Grammar.{head, body}
use Rattle.fz_parser.specs.Parts.{takes, gives}
use Rattle.fz_parser.specs.Classes.{phrase_number, phrases, terminal_number, may_stand}
use Rattle.fz_parser.specs.Rows.{follow_rows, choice_rows, need_rows, gift_rows, cost_rows, least_rows, weight_rows, empty_rows}

-- the phrase of a number
abbrev pub phrase_at : ℕ → Phrase
phrase_at a = get_or phrases a Expression

abbrev pub has : List ℕ → ℕ → Bool
has [] c = false
has (x ∷ xs) c = nat_eq x c || has xs c

unfoldable pub follows : Phrase → ℕ → Bool
follows a c = has (get_or follow_rows (phrase_number a) []) c

-- one more than the rule whose classes c is among; 0 where there is none
abbrev pub chosen_in : List (List ℕ) → ℕ → ℕ
chosen_in [] c = 0
chosen_in ([] ∷ rows) c = chosen_in rows c
chosen_in ((p ∷ cs) ∷ rows) c = cond (has cs c) p (chosen_in rows c)

-- one more than the rule for a before a token of class c; 0 where there is none
unfoldable pub choice : Phrase → ℕ → ℕ
choice a c = chosen_in (get_or choice_rows (phrase_number a) []) c

-- may a stack with these items on top meet a token of class c (0: the end)
abbrev pub starts : List Item → ℕ → Bool
starts [] c = nat_eq c 0
starts (Take k ∷ σ) c = may_stand (terminal_number k) c
starts (Make a ∷ σ) c = starts σ c
starts (Read a ∷ σ) c = nat_lt 0 (choice a c)

-- actions alone
abbrev pub only_actions : List Item → Bool
only_actions [] = true
only_actions (Take k ∷ σ) = false
only_actions (Make a ∷ σ) = only_actions σ
only_actions (Read a ∷ σ) = false

-- what may come where β stands, and behind it what may follow a
abbrev pub coming : Phrase → List Item → ℕ → Bool
coming a β c = cond (only_actions β) (follows a c) (starts β c)

-- what may follow each phrase in β may follow by the rows
abbrev pub passes : Phrase → List Item → ℕ → Bool
passes a [] c = true
passes a (Take k ∷ β) c = passes a β c
passes a (Make x ∷ β) c = passes a β c
passes a (Read b ∷ β) c = cond (coming a β c) (follows b c) true && passes a β c

-- a rule is chosen where it may begin
unfoldable pub is_chosen : ℕ → ℕ → Bool
is_chosen p c = cond (coming (head p) (body p) c) (nat_eq (choice (head p) c) (suc p)) true

unfoldable pub is_followed : ℕ → ℕ → Bool
is_followed p c = passes (head p) (body p) c

-- f holds below n
unfoldable pub below : ℕ → (ℕ → Bool) → Bool
below zero f = true
below (suc n) f = cond (f n) (below n f) false

-- where a rule is chosen it is one for that phrase
unfoldable pub is_rule : ℕ → ℕ → Bool
is_rule a c =
    cond (nat_lt 0 (choice (phrase_at a) c)) (nat_eq (phrase_number (head (choice (phrase_at a) c - 1))) a
    && nat_lt (choice (phrase_at a) c - 1) rule_count) true

unfoldable pub cost : Phrase → ℕ
cost a = get_or cost_rows (phrase_number a) 0

unfoldable pub least : Phrase → ℕ
least a = get_or least_rows (phrase_number a) 0

abbrev pub cost_all : List Item → ℕ
cost_all [] = 0
cost_all (Take k ∷ σ) = suc (cost_all σ)
cost_all (Make a ∷ σ) = suc (cost_all σ)
cost_all (Read a ∷ σ) = cost a + cost_all σ

-- a phrase's least rule is for it and takes fewer steps
unfoldable pub is_least : ℕ → Bool
is_least a = nat_eq (phrase_number (head (least (phrase_at a)))) a &&
    (nat_lt (least (phrase_at a)) rule_count && nat_lt (cost_all (body (least (phrase_at a)))) (cost (phrase_at a)))

-- the sorts of parts: what a phrase takes and gives
unfoldable pub phrase_takes : Phrase → List ℕ
phrase_takes a = get_or need_rows (phrase_number a) []

unfoldable pub phrase_gives : Phrase → ℕ
phrase_gives a = get_or gift_rows (phrase_number a) 0

-- the sorts that a token leaves
abbrev pub kept_sorts : Terminal → List ℕ
kept_sorts Named = 1 ∷ []
kept_sorts Numeral = 2 ∷ []
kept_sorts Positive = 3 ∷ []
kept_sorts Quoted = 4 ∷ []
kept_sorts (Keyword w) = []
kept_sorts (Symbol s) = []

-- these sorts lie on top
abbrev pub begins_with : List ℕ → List ℕ → Bool
begins_with [] h = true
begins_with (x ∷ xs) [] = false
begins_with (x ∷ xs) (y ∷ ys) = nat_eq x y && begins_with xs ys

-- the right parts lie there, and which there are then
abbrev pub fine : List Item → List ℕ → Bool
fine [] h = true
fine (Take k ∷ σ) h = fine σ (kept_sorts k ++ h)
fine (Make a ∷ σ) h = begins_with (takes a) h && fine σ (gives a ∷ drop (length (takes a)) h)
fine (Read a ∷ σ) h = begins_with (phrase_takes a) h && fine σ (phrase_gives a ∷ drop (length (phrase_takes a)) h)

abbrev pub sorts_after : List Item → List ℕ → List ℕ
sorts_after [] h = h
sorts_after (Take k ∷ σ) h = sorts_after σ (kept_sorts k ++ h)
sorts_after (Make a ∷ σ) h = sorts_after σ (gives a ∷ drop (length (takes a)) h)
sorts_after (Read a ∷ σ) h = sorts_after σ (phrase_gives a ∷ drop (length (phrase_takes a)) h)

abbrev pub same_sorts : List ℕ → List ℕ → Bool
same_sorts [] [] = true
same_sorts [] (y ∷ ys) = false
same_sorts (x ∷ xs) [] = false
same_sorts (x ∷ xs) (y ∷ ys) = nat_eq x y && same_sorts xs ys

unfoldable pub is_level : ℕ → Bool
is_level p = fine (body p) (phrase_takes (head p)) && same_sorts (sorts_after (body p) (phrase_takes (head p))) (phrase_gives (head p) ∷ [])

-- how many steps there are before a token is taken
unfoldable pub weight : Phrase → ℕ
weight a = get_or weight_rows (phrase_number a) 0

-- nothing may stand for it
unfoldable pub may_be_empty : Phrase → Bool
may_be_empty a = nat_eq (get_or empty_rows (phrase_number a) 0) 1

abbrev pub lead : List Item → ℕ
lead [] = 0
lead (Take k ∷ σ) = 1
lead (Make a ∷ σ) = suc (lead σ)
lead (Read a ∷ σ) = weight a + cond (may_be_empty a) (lead σ) 0

abbrev pub must : List Item → Bool
must [] = false
must (Take k ∷ σ) = true
must (Make a ∷ σ) = must σ
must (Read a ∷ σ) = cond (may_be_empty a) (must σ) true

unfoldable pub is_quick : ℕ → Bool
is_quick p = nat_lt (lead (body p)) (weight (head p)) && (may_be_empty (head p) || must (body p))
