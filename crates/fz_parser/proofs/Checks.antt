-- The tables pass.
use Rattle.std.proofs.Common.{◌≡◌, ℕ, zero, suc, ◌-◌, Bool, true, get_or, take, drop, refl, List, [], ◌∷◌}
use Rattle.std.specs.Prelude.{◌&&◌, nat_eq, nat_le}
use Rattle.fz_parser.specs.declared.grammar.Item.{Item}
use Rattle.fz_parser.specs.declared.tables.TheConstants.{CHOICES, ITEMS, STARTS}
use Rattle.fz_parser.specs.Table.{rules, rule_count}
use Rattle.fz_parser.specs.Parts.{takes, gives}
use Rattle.fz_parser.specs.Grammar.{head, body}
use Rattle.fz_parser.specs.Classes.{word_number, sign_number, phrase_number, phrases, terminal_number, may_stand}
use Rattle.fz_parser.specs.Rows.{follow_rows, choice_rows, cost_rows, least_rows, need_rows, gift_rows, weight_rows, empty_rows}
use Rattle.fz_parser.specs.Tests.{follows, choice, is_chosen, is_followed, below, is_rule, is_least, cost, least, phrase_takes, phrase_gives, is_level, weight, may_be_empty, is_quick, phrase_at}

pub chosen : below rule_count (λ p. below 64 (λ c. is_chosen p c)) ≡ true
unfolding rules head body word_number sign_number phrase_number terminal_number may_stand follow_rows follows choice choice_rows is_chosen below
chosen = refl

pub followed : below rule_count (λ p. below 64 (λ c. is_followed p c)) ≡ true
unfolding rules head body word_number sign_number phrase_number terminal_number may_stand follow_rows follows choice choice_rows is_followed below
followed = refl

pub ruled : below 25 (λ a. below 64 (λ c. is_rule a c)) ≡ true
unfolding rules head phrase_number phrases choice choice_rows is_rule below
ruled = refl

pub finished : below 25 is_least ≡ true
unfolding rules head body phrase_number phrases cost least cost_rows least_rows is_least below
finished = refl

pub level : below rule_count is_level ≡ true
unfolding rules head body phrase_number phrase_takes need_rows phrase_gives gift_rows takes gives is_level below
level = refl

pub quick : below rule_count is_quick ≡ true
unfolding rules head body phrase_number weight weight_rows may_be_empty empty_rows is_quick below
quick = refl

-- the body of rule p, as the code has it
unfoldable pub part_of : ℕ → List Item
part_of p = take (get_or STARTS (suc p) 0 - get_or STARTS p 0) (drop (get_or STARTS p 0) ITEMS)

unfoldable pub is_part : ℕ → Bool
is_part p = nat_le (get_or STARTS p 0) (get_or STARTS (suc p) 0) && nat_le (get_or STARTS (suc p) 0) 276

-- the code's bodies are the rules'
abbrev pub parts_from : ℕ → ℕ → List (List Item)
parts_from p zero = []
parts_from p (suc n) = part_of p ∷ parts_from (suc p) n

abbrev pub bodies_from : ℕ → ℕ → List (List Item)
bodies_from p zero = []
bodies_from p (suc n) = body p ∷ bodies_from (suc p) n

pub parted : parts_from 0 rule_count ≡ bodies_from 0 rule_count
unfolding rules body part_of
parted = refl

pub placed : below rule_count is_part ≡ true
unfolding is_part below
placed = refl

-- and its choices are those of the rows
pub tabled : below 25 (λ a. below 64 (λ c. nat_eq (get_or (get_or CHOICES a []) c 0) (choice (phrase_at a) c))) ≡ true
unfolding choice choice_rows phrase_number phrases below
tabled = refl
