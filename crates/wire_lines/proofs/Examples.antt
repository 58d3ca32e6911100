-- The definitions, computed on lines as the protocol's rules write them.
use Rattle.std.proofs.Common.{◌≡◌, ℕ, pos, negsuc, true, false, List, [], ◌∷◌, length, Some, None, Ok, Err, codes, refl, arith}
use Rattle.std.specs.Fmt.{digits}
use Rattle.fz_frac.specs.Distance.{Fin, Inf}
use Rattle.wire_lines.specs.Lines.{lines_of, words_of, joined}
use Rattle.wire_lines.specs.Name.{is_name}
use Rattle.wire_lines.specs.Number.{number_of}
use Rattle.wire_lines.specs.Epsilon.{epsilon_of}
use Rattle.wire_lines.specs.Request.{hello, ask, askpart, recall, left, mine, bye, line_limit, request_of, fault_of}
use Rattle.wire_lines.specs.Refusal.{by_line, by_program, by_money, by_disk, by_number, no_memory, no_token, no_term, too_nested, ill_typed, too_sensitive, out_of_range, unbounded, no_number, too_deep, too_long, too_wide}
use Rattle.wire_lines.specs.Reply.{greeted, answered, recalled, remaining, spending, ended, refused, reply_text}
use Rattle.wire_lines.specs.declared.refusal.LineRefusal.TheVariants.{Malformed, TooLong, Unknown, NoEpsilon, NoHello}
use Rattle.wire_lines.specs.declared.refusal.MoneyRefusal.TheVariants.{OverBudget, JournalFull, OverShare}
use Rattle.wire_lines.specs.declared.refusal.DiskRefusal.TheVariants.{Closed, Fault as DiskFault}
use Rattle.wire_lines.specs.declared.refusal.NumberRefusal.TheVariants.{Exhausted as NoNoise, Lost as NoAnswer, Unknown as NoSuchNumber, NotYours}
use Rattle.journal_records.specs.declared.records.Outcome.TheVariants.{Answered, Exhausted, Lost}
use Rattle.wire_lines.specs.declared.refusal.TypeFault.TheVariants.{Unbound, Mismatch, NotGround, NotFlat}
use Rattle.wire_lines.proofs.Requests.{long_from, long_to}

-- Lines.
-- a CR before the end goes, one that stands elsewhere stays, and so does the last of two
two_lines : lines_of (codes "a\r\n\rb\r\r\n") ≡ codes "a" ∷ codes "\rb\r" ∷ []
unfolding lines_of
two_lines = refl

-- an empty line, and a last one without an end
empty_and_last : lines_of (codes "\nbye") ≡ [] ∷ codes "bye" ∷ []
unfolding lines_of
empty_and_last = refl

-- behind the last LF no line begins
ended_once : lines_of (codes "bye\n") ≡ codes "bye" ∷ []
unfolding lines_of
ended_once = refl

two_ends : lines_of (codes "bye\n\n") ≡ codes "bye" ∷ [] ∷ []
unfolding lines_of
two_ends = refl

-- an empty line that ends with CR LF
crlf_alone : lines_of (codes "\r\n") ≡ [] ∷ []
unfolding lines_of
crlf_alone = refl

-- a last line without LF loses its CR too
last_with_cr : lines_of (codes "bye\r") ≡ codes "bye" ∷ []
unfolding lines_of
last_with_cr = refl

-- a last line that is a lone CR is a line, and nothing is none
lone_cr : lines_of (codes "bye\n\r") ≡ codes "bye" ∷ [] ∷ []
unfolding lines_of
lone_cr = refl

no_line : lines_of [] ≡ []
unfolding lines_of
no_line = refl

spaces_kept : lines_of (codes " a  b ") ≡ codes " a  b " ∷ []
unfolding lines_of
spaces_kept = refl

-- Words.
-- two spaces in a row have an empty word between them, and one at the end has one behind it
empty_words : words_of (codes "hello  ann ") ≡ codes "hello" ∷ [] ∷ codes "ann" ∷ [] ∷ []
empty_words = refl

-- the empty line has one empty word
no_words : words_of [] ≡ [] ∷ []
no_words = refl

-- words are parted by a space alone
tab_no_space : words_of (codes "a\tb") ≡ codes "a\tb" ∷ []
tab_no_space = refl

joined_again : joined (codes "a" ∷ [] ∷ codes "b" ∷ []) ≡ codes "a  b"
joined_again = refl

-- Names: at most 32 bytes, without space and LF.
longest_name : is_name (codes "abcdefghijklmnopqrstuvwxyz012345") ≡ true
longest_name = refl

name_too_long : is_name (codes "abcdefghijklmnopqrstuvwxyz0123456") ≡ false
name_too_long = refl

name_with_space : is_name (codes "a b") ≡ false
name_with_space = refl

name_with_lf : is_name (codes "a\n") ≡ false
name_with_lf = refl

name_of_any_bytes : is_name (codes "a-\r.") ≡ true
name_of_any_bytes = refl

-- EPS: 1 to 4 digits, perhaps a point and 1 to 6 digits, from 0.000001 to 1000.
least : epsilon_of (codes "0.000001") ≡ Some 1
least = refl

one_half : epsilon_of (codes "0.5") ≡ Some 500000
one_half = refl

one : epsilon_of (codes "1") ≡ Some 1000000
one = refl

leading_zeros : epsilon_of (codes "0001") ≡ Some 1000000
leading_zeros = refl

leading_zeros_and_fraction : epsilon_of (codes "0001.500000") ≡ Some 1500000
leading_zeros_and_fraction = refl

below_greatest : epsilon_of (codes "999.999999") ≡ Some 999999999
below_greatest = refl

greatest : epsilon_of (codes "1000") ≡ Some 1000000000
greatest = refl

greatest_with_zeros : epsilon_of (codes "1000.000000") ≡ Some 1000000000
greatest_with_zeros = refl

above : epsilon_of (codes "1000.000001") ≡ None
above = refl

far_above : epsilon_of (codes "9999") ≡ None
far_above = refl

zero : epsilon_of (codes "0") ≡ None
zero = refl

zero_with_fraction : epsilon_of (codes "0.000000") ≡ None
zero_with_fraction = refl

seven_digits : epsilon_of (codes "0.0000001") ≡ None
seven_digits = refl

seven_digits_of_more : epsilon_of (codes "1.0000000") ≡ None
seven_digits_of_more = refl

five_digits : epsilon_of (codes "00001") ≡ None
five_digits = refl

five_digits_and_fraction : epsilon_of (codes "10000.0") ≡ None
five_digits_and_fraction = refl

bare_point : epsilon_of (codes "1.") ≡ None
bare_point = refl

no_whole : epsilon_of (codes ".5") ≡ None
no_whole = refl

two_points : epsilon_of (codes "1.2.3") ≡ None
two_points = refl

minus : epsilon_of (codes "-1") ≡ None
minus = refl

plus : epsilon_of (codes "+1") ≡ None
plus = refl

exponent : epsilon_of (codes "1e3") ≡ None
exponent = refl

comma : epsilon_of (codes "1,5") ≡ None
comma = refl

empty_epsilon : epsilon_of [] ≡ None
empty_epsilon = refl

-- Numbers: 1 to 10 digits, leading zeros among them, below 2^32.
number_zero : number_of (codes "0") ≡ Some 0
number_zero = refl

number_seven : number_of (codes "7") ≡ Some 7
number_seven = refl

greatest_number : number_of (codes "4294967295") ≡ Some 4294967295
greatest_number = refl

number_above : number_of (codes "4294967296") ≡ None
number_above = refl

greatest_of_ten_digits : number_of (codes "9999999999") ≡ None
greatest_of_ten_digits = refl

ten_digits : number_of (codes "0000000012") ≡ Some 12
ten_digits = refl

eleven_digits : number_of (codes "00000000012") ≡ None
eleven_digits = refl

ten_zeros : number_of (codes "0000000000") ≡ Some 0
ten_zeros = refl

number_with_sign : number_of (codes "+1") ≡ None
number_with_sign = refl

number_below_zero : number_of (codes "-1") ≡ None
number_below_zero = refl

number_with_point : number_of (codes "1.0") ≡ None
number_with_point = refl

number_of_letters : number_of (codes "1a") ≡ None
number_of_letters = refl

empty_number : number_of [] ≡ None
empty_number = refl

-- Requests.
a_hello : request_of (codes "hello ann") ≡ Ok (hello (codes "ann"))
unfolding request_of
a_hello = refl

-- the program is the whole rest of the line, spaces and all
a_query : request_of (codes "ask census 0.5 size  people ") ≡ Ok (ask (codes "census") (Some 500000) (codes "size  people "))
unfolding request_of
a_query = refl

-- it may be empty
empty_program : request_of (codes "ask census 1 ") ≡ Ok (ask (codes "census") (Some 1000000) [])
unfolding request_of
empty_program = refl

-- a text that is no epsilon is no fault of the line
no_epsilon : request_of (codes "ask census x 1") ≡ Ok (ask (codes "census") None (codes "1"))
unfolding request_of
no_epsilon = refl

-- a query of one part: a partition, one of its keys, and then as for the whole
a_query_of_a_part : request_of (codes "askpart census area A 0.000006 size  people ") ≡ Ok (askpart (codes "census") (codes "area") (codes "A") (Some 6) (codes "size  people "))
unfolding request_of
a_query_of_a_part = refl

-- a key is any word, whatever its bytes
part_of_any_key : request_of (codes "askpart census area \"1,5\" 1 1") ≡ Ok (askpart (codes "census") (codes "area") (codes "\"1,5\"") (Some 1000000) (codes "1"))
unfolding request_of
part_of_any_key = refl

empty_program_of_a_part : request_of (codes "askpart census area A 1 ") ≡ Ok (askpart (codes "census") (codes "area") (codes "A") (Some 1000000) [])
unfolding request_of
empty_program_of_a_part = refl

no_epsilon_of_a_part : request_of (codes "askpart census area A 0 1") ≡ Ok (askpart (codes "census") (codes "area") (codes "A") None (codes "1"))
unfolding request_of
no_epsilon_of_a_part = refl

-- an epsilon where a key is due is a key
epsilon_for_a_key : request_of (codes "askpart census area 1 size people") ≡ Ok (askpart (codes "census") (codes "area") (codes "1") None (codes "people"))
unfolding request_of
epsilon_for_a_key = refl

a_recall : request_of (codes "recall census 0") ≡ Ok (recall (codes "census") 0)
unfolding request_of
a_recall = refl

recall_with_zeros : request_of (codes "recall census 0000000012") ≡ Ok (recall (codes "census") 12)
unfolding request_of
recall_with_zeros = refl

recall_of_the_greatest : request_of (codes "recall census 4294967295") ≡ Ok (recall (codes "census") 4294967295)
unfolding request_of
recall_of_the_greatest = refl

a_left : request_of (codes "left census") ≡ Ok (left (codes "census"))
unfolding request_of
a_left = refl

a_mine : request_of (codes "mine census") ≡ Ok (mine (codes "census"))
unfolding request_of
a_mine = refl

a_bye : request_of (codes "bye") ≡ Ok bye
unfolding request_of
a_bye = refl

-- Malformed: the first word that is missing, empty, too many or not of its kind, counted from 0.
empty_line : request_of [] ≡ Err (Malformed 0)
unfolding request_of
empty_line = refl

space_first : request_of (codes " hello ann") ≡ Err (Malformed 0)
unfolding request_of
space_first = refl

capital : request_of (codes "Hello ann") ≡ Err (Malformed 0)
unfolding request_of
capital = refl

no_such_word : request_of (codes "goodbye") ≡ Err (Malformed 0)
unfolding request_of
no_such_word = refl

word_grown : request_of (codes "hellos ann") ≡ Err (Malformed 0)
unfolding request_of
word_grown = refl

hello_alone : request_of (codes "hello") ≡ Err (Malformed 1)
unfolding request_of
hello_alone = refl

hello_and_space : request_of (codes "hello ") ≡ Err (Malformed 1)
unfolding request_of
hello_and_space = refl

hello_two_spaces : request_of (codes "hello  ann") ≡ Err (Malformed 1)
unfolding request_of
hello_two_spaces = refl

hello_space_behind : request_of (codes "hello ann ") ≡ Err (Malformed 2)
unfolding request_of
hello_space_behind = refl

hello_two_names : request_of (codes "hello ann bob") ≡ Err (Malformed 2)
unfolding request_of
hello_two_names = refl

ask_alone : request_of (codes "ask") ≡ Err (Malformed 1)
unfolding request_of
ask_alone = refl

ask_two_spaces : request_of (codes "ask  1 x") ≡ Err (Malformed 1)
unfolding request_of
ask_two_spaces = refl

ask_owner_alone : request_of (codes "ask census") ≡ Err (Malformed 2)
unfolding request_of
ask_owner_alone = refl

ask_empty_epsilon : request_of (codes "ask census  x") ≡ Err (Malformed 2)
unfolding request_of
ask_empty_epsilon = refl

no_program : request_of (codes "ask census 1") ≡ Err (Malformed 3)
unfolding request_of
no_program = refl

recall_alone : request_of (codes "recall") ≡ Err (Malformed 1)
unfolding request_of
recall_alone = refl

recall_two_spaces : request_of (codes "recall  0") ≡ Err (Malformed 1)
unfolding request_of
recall_two_spaces = refl

recall_no_number : request_of (codes "recall census") ≡ Err (Malformed 2)
unfolding request_of
recall_no_number = refl

recall_and_space : request_of (codes "recall census ") ≡ Err (Malformed 2)
unfolding request_of
recall_and_space = refl

recall_two_spaces_behind : request_of (codes "recall census  0") ≡ Err (Malformed 2)
unfolding request_of
recall_two_spaces_behind = refl

recall_above : request_of (codes "recall census 4294967296") ≡ Err (Malformed 2)
unfolding request_of
recall_above = refl

recall_eleven_digits : request_of (codes "recall census 00000000012") ≡ Err (Malformed 2)
unfolding request_of
recall_eleven_digits = refl

recall_of_no_number : request_of (codes "recall census x") ≡ Err (Malformed 2)
unfolding request_of
recall_of_no_number = refl

-- the first of two faults is said
recall_first_fault : request_of (codes "recall census x 2") ≡ Err (Malformed 2)
unfolding request_of
recall_first_fault = refl

recall_two_numbers : request_of (codes "recall census 1 2") ≡ Err (Malformed 3)
unfolding request_of
recall_two_numbers = refl

recall_space_behind : request_of (codes "recall census 1 ") ≡ Err (Malformed 3)
unfolding request_of
recall_space_behind = refl

left_alone : request_of (codes "left") ≡ Err (Malformed 1)
unfolding request_of
left_alone = refl

left_two_spaces : request_of (codes "left  census") ≡ Err (Malformed 1)
unfolding request_of
left_two_spaces = refl

left_space_behind : request_of (codes "left census ") ≡ Err (Malformed 2)
unfolding request_of
left_space_behind = refl

left_two_words : request_of (codes "left census 0") ≡ Err (Malformed 2)
unfolding request_of
left_two_words = refl

mine_alone : request_of (codes "mine") ≡ Err (Malformed 1)
unfolding request_of
mine_alone = refl

mine_two_spaces : request_of (codes "mine  census") ≡ Err (Malformed 1)
unfolding request_of
mine_two_spaces = refl

mine_space_behind : request_of (codes "mine census ") ≡ Err (Malformed 2)
unfolding request_of
mine_space_behind = refl

mine_two_words : request_of (codes "mine census x") ≡ Err (Malformed 2)
unfolding request_of
mine_two_words = refl

askpart_alone : request_of (codes "askpart") ≡ Err (Malformed 1)
unfolding request_of
askpart_alone = refl

askpart_and_space : request_of (codes "askpart ") ≡ Err (Malformed 1)
unfolding request_of
askpart_and_space = refl

askpart_empty_owner : request_of (codes "askpart  area A 1 1") ≡ Err (Malformed 1)
unfolding request_of
askpart_empty_owner = refl

askpart_owner_alone : request_of (codes "askpart census") ≡ Err (Malformed 2)
unfolding request_of
askpart_owner_alone = refl

askpart_empty_partition : request_of (codes "askpart census  A 1 1") ≡ Err (Malformed 2)
unfolding request_of
askpart_empty_partition = refl

askpart_no_key : request_of (codes "askpart census area") ≡ Err (Malformed 3)
unfolding request_of
askpart_no_key = refl

askpart_empty_key : request_of (codes "askpart census area  1 1") ≡ Err (Malformed 3)
unfolding request_of
askpart_empty_key = refl

-- of two words that are missing the first is said
askpart_no_epsilon : request_of (codes "askpart census area A") ≡ Err (Malformed 4)
unfolding request_of
askpart_no_epsilon = refl

askpart_empty_epsilon : request_of (codes "askpart census area A  1") ≡ Err (Malformed 4)
unfolding request_of
askpart_empty_epsilon = refl

askpart_no_program : request_of (codes "askpart census area A 1") ≡ Err (Malformed 5)
unfolding request_of
askpart_no_program = refl

-- and its kind is told by the whole first word
askpart_grown : request_of (codes "askparts census area A 1 1") ≡ Err (Malformed 0)
unfolding request_of
askpart_grown = refl

bye_and_space : request_of (codes "bye ") ≡ Err (Malformed 1)
unfolding request_of
bye_and_space = refl

bye_and_word : request_of (codes "bye now") ≡ Err (Malformed 1)
unfolding request_of
bye_and_word = refl

no_program_word : fault_of (codes "ask census 1") ≡ Some 3
no_program_word = refl

no_word_of_a_part : fault_of (codes "askpart census area A") ≡ Some 4
no_word_of_a_part = refl

no_program_word_of_a_part : fault_of (codes "askpart census area A 1") ≡ Some 5
no_program_word_of_a_part = refl

no_fault_of_a_part : fault_of (codes "askpart census area A 1 ") ≡ None
no_fault_of_a_part = refl

no_number_word : fault_of (codes "recall census 4294967296") ≡ Some 2
no_number_word = refl

a_number_word : fault_of (codes "recall census 4294967295") ≡ None
a_number_word = refl

a_word_too_many : fault_of (codes "recall census 1 2") ≡ Some 3
a_word_too_many = refl

two_faults : fault_of (codes "recall census x 2") ≡ Some 2
two_faults = refl

no_fault : fault_of (codes "ask census 1 ") ≡ None
no_fault = refl

-- The limit of a line: 16,384 bytes are looked at, and 16,385 are not.
limit_is : line_limit ≡ 16384
limit_is = refl

one_too_many : (line : List ℕ) → length line ≡ 16385 → request_of line ≡ Err TooLong
one_too_many line long = long_to line (omega arith)

just_short : (line : List ℕ) → length line ≡ 16384 → request_of line ≡ Err TooLong → ⊥
just_short line short is = absurd (omega (arith, long_from line is))

-- Replies.
a_greeting : reply_text (greeted (codes "ann")) ≡ codes "hello ann\n"
unfolding reply_text digits
a_greeting = refl

-- number, value, taken
an_answer : reply_text (answered 0 (negsuc 4) 1000000) ≡ codes "answer 0 -5 1000000\n"
unfolding reply_text digits
an_answer = refl

answer_of_zero : reply_text (answered 4294967295 (pos 0) 0) ≡ codes "answer 4294967295 0 0\n"
unfolding reply_text digits
answer_of_zero = refl

least_answer : reply_text (answered 1 (negsuc 9223372036854775807) 2) ≡ codes "answer 1 -9223372036854775808 2\n"
unfolding reply_text digits
least_answer = refl

greatest_answer : reply_text (answered 10 (pos 9223372036854775807) 1000000000000000000) ≡ codes "answer 10 9223372036854775807 1000000000000000000\n"
unfolding reply_text digits
greatest_answer = refl

-- number, what became of it, records seen
recalled_answer : reply_text (recalled 0 (Some (Answered (pos 5))) 2) ≡ codes "recall 0 answer 5 2\n"
unfolding reply_text digits
recalled_answer = refl

recalled_least : reply_text (recalled 4294967295 (Some (Answered (negsuc 9223372036854775807))) 262144) ≡ codes "recall 4294967295 answer -9223372036854775808 262144\n"
unfolding reply_text digits
recalled_least = refl

recalled_open : reply_text (recalled 3 None 7) ≡ codes "recall 3 open 7\n"
unfolding reply_text digits
recalled_open = refl

recalled_lost : reply_text (recalled 0 (Some Lost) 1) ≡ codes "recall 0 lost 1\n"
unfolding reply_text digits
recalled_lost = refl

recalled_exhausted : reply_text (recalled 1 (Some Exhausted) 4) ≡ codes "recall 1 exhausted 4\n"
unfolding reply_text digits
recalled_exhausted = refl

-- spent, budget, records seen
what_is_left : reply_text (remaining 1000000 10000000 1) ≡ codes "left 1000000 10000000 1\n"
unfolding reply_text digits
what_is_left = refl

nothing_spent : reply_text (remaining 0 1000000000000000000 0) ≡ codes "left 0 1000000000000000000 0\n"
unfolding reply_text digits
nothing_spent = refl

-- spent, limit, records seen
what_is_mine : reply_text (spending 1000000 (Some 1000000) 4) ≡ codes "mine 1000000 1000000 4\n"
unfolding reply_text digits
what_is_mine = refl

mine_without_a_limit : reply_text (spending 0 None 0) ≡ codes "mine 0 none 0\n"
unfolding reply_text digits
mine_without_a_limit = refl

a_farewell : reply_text ended ≡ codes "bye\n"
unfolding reply_text digits
a_farewell = refl

code_10 : reply_text (refused (by_line (Malformed 2))) ≡ codes "no 10 2\n"
unfolding reply_text digits
code_10 = refl

code_11 : reply_text (refused (by_line TooLong)) ≡ codes "no 11\n"
unfolding reply_text digits
code_11 = refl

code_12 : reply_text (refused (by_line (Unknown 1))) ≡ codes "no 12 1\n"
unfolding reply_text digits
code_12 = refl

code_13 : reply_text (refused (by_line NoEpsilon)) ≡ codes "no 13\n"
unfolding reply_text digits
code_13 = refl

code_14 : reply_text (refused (by_line NoHello)) ≡ codes "no 14\n"
unfolding reply_text digits
code_14 = refl

code_20 : reply_text (refused (by_program (no_token 12))) ≡ codes "no 20 12\n"
unfolding reply_text digits
code_20 = refl

code_21 : reply_text (refused (by_program (no_term 4096))) ≡ codes "no 21 4096\n"
unfolding reply_text digits
code_21 = refl

code_22 : reply_text (refused (by_program (too_nested 65))) ≡ codes "no 22 65\n"
unfolding reply_text digits
code_22 = refl

code_30_unbound : reply_text (refused (by_program (ill_typed Unbound 0 4))) ≡ codes "no 30 unbound 0 4\n"
unfolding reply_text digits
code_30_unbound = refl

code_30_mismatch : reply_text (refused (by_program (ill_typed Mismatch 5 40))) ≡ codes "no 30 mismatch 5 40\n"
unfolding reply_text digits
code_30_mismatch = refl

code_30_notground : reply_text (refused (by_program (ill_typed NotGround 1 2))) ≡ codes "no 30 notground 1 2\n"
unfolding reply_text digits
code_30_notground = refl

code_30_notflat : reply_text (refused (by_program (ill_typed NotFlat 0 9))) ≡ codes "no 30 notflat 0 9\n"
unfolding reply_text digits
code_30_notflat = refl

-- a whole sensitivity without a denominator
code_31_whole : reply_text (refused (by_program (too_sensitive 7 12 (Fin 2 1)))) ≡ codes "no 31 7 12 2\n"
unfolding reply_text digits
code_31_whole = refl

code_31_halves : reply_text (refused (by_program (too_sensitive 7 12 (Fin 3 2)))) ≡ codes "no 31 7 12 3/2\n"
unfolding reply_text digits
code_31_halves = refl

code_31_endless : reply_text (refused (by_program (too_sensitive 7 12 Inf))) ≡ codes "no 31 7 12 inf\n"
unfolding reply_text digits
code_31_endless = refl

code_32 : reply_text (refused (by_program (out_of_range 0 14))) ≡ codes "no 32 0 14\n"
unfolding reply_text digits
code_32 = refl

code_33 : reply_text (refused (by_program (unbounded (codes "people")))) ≡ codes "no 33 people\n"
unfolding reply_text digits
code_33 = refl

code_34 : reply_text (refused (by_program no_number)) ≡ codes "no 34\n"
unfolding reply_text digits
code_34 = refl

code_35 : reply_text (refused (by_program (too_deep 3 11))) ≡ codes "no 35 3 11\n"
unfolding reply_text digits
code_35 = refl

code_36 : reply_text (refused (by_program (too_long 0 15999))) ≡ codes "no 36 0 15999\n"
unfolding reply_text digits
code_36 = refl

-- the union's span and width
code_37 : reply_text (refused (by_program (too_wide 4 11 65))) ≡ codes "no 37 4 11 65\n"
unfolding reply_text digits
code_37 = refl

-- spent, after, budget, records seen
code_40 : reply_text (refused (by_money (OverBudget 1 2 3 4))) ≡ codes "no 40 1 2 3 4\n"
unfolding reply_text digits
code_40 = refl

-- used, open, capacity
code_41 : reply_text (refused (by_money (JournalFull 100 1 102))) ≡ codes "no 41 100 1 102\n"
unfolding reply_text digits
code_41 = refl

-- spent, after, limit, records seen
code_43 : reply_text (refused (by_money (OverShare 1 2 3 4))) ≡ codes "no 43 1 2 3 4\n"
unfolding reply_text digits
code_43 = refl

-- the count of the disk's faults when the owner was closed
code_42 : reply_text (refused (by_disk (Closed 1))) ≡ codes "no 42 1\n"
unfolding reply_text digits
code_42 = refl

code_50 : reply_text (refused (by_number (NoNoise 7))) ≡ codes "no 50 7\n"
unfolding reply_text digits
code_50 = refl

code_51 : reply_text (refused (by_number (NoAnswer 8))) ≡ codes "no 51 8\n"
unfolding reply_text digits
code_51 = refl

code_52 : reply_text (refused (by_disk DiskFault)) ≡ codes "no 52\n"
unfolding reply_text digits
code_52 = refl

-- number, records seen
code_60 : reply_text (refused (by_number (NoSuchNumber 1 2))) ≡ codes "no 60 1 2\n"
unfolding reply_text digits
code_60 = refl

code_61 : reply_text (refused (by_number (NotYours 0 2))) ≡ codes "no 61 0 2\n"
unfolding reply_text digits
code_61 = refl

code_90 : reply_text (refused no_memory) ≡ codes "no 90\n"
unfolding reply_text digits
code_90 = refl
