-- The definitions at worked examples, from the written rules of tokens.
use Rattle.std.proofs.Common.{◌≡◌, ℕ, zero, suc, ◌+◌, ◌<◌, ◌≤◌, List, [], ◌∷◌, ◌++◌, Bool, true, false, cond, refl, arith, ap, sym, ◌∙◌, inl, length, append_assoc, length-append}
use Rattle.std.specs.Prelude.{codes, not}
use Rattle.fz_lexer.specs.declared.token.Token.{Token}
use Rattle.fz_lexer.specs.declared.token.Kind.{Kind}
use Rattle.fz_lexer.specs.declared.token.Kind.TheVariants.{Name, Number, Text, Reserved, Punctuation}
use Rattle.fz_lexer.specs.declared.token.Word.TheVariants.{Fun, Fn, Let, In, Case, Of, Inl, Inr, If, Then, Else, Fst, Snd, True, False, Num, Text as TextWord, Unit as UnitWord, Bool as BoolWord, Bag, Inf, Size, Sum, Clip, Least, Greatest, Map, Filter, Split, Union, Do, Release, At}
use Rattle.fz_lexer.specs.declared.token.Sign.TheVariants.{LeftParenthesis, RightParenthesis, LeftAngle, RightAngle, LeftBracket, RightBracket, Comma, Colon, Is, Bang, Bar, Plus, Minus, Star, Ampersand, Slash, Yields, Arrow, Lollipop, AtMost, EqualTo}
use Rattle.fz_lexer.specs.declared.token.LexFault.{LexFault}
use Rattle.fz_lexer.specs.declared.token.LexFault.TheVariants.{Bad, TooManyTokens, NoMemory}
use Rattle.fz_lexer.specs.Bytes.{is_blank, is_digit, is_letter, is_name_byte, is_text_byte, stops, value_from}
use Rattle.fz_lexer.specs.Words.{spelling}
use Rattle.fz_lexer.specs.Signs.{mark, may_follow}
use Rattle.fz_lexer.specs.Tokens.{AreTokens, Cut, IsLexed, IsToken, ExplainsLex, ExplainsLine}
use Rattle.fz_lexer.proofs.Spellings.{same, find_word, word_with}
use Rattle.fz_lexer.proofs.Lexing.{word_kind, spells, prefix_of, tokens_from, cut, answer, line_answer, answer_holds, Answer, Tokens, Refused}
use Rattle.fz_lexer.proofs.Cuts.{line_refused}

-- the numbers below n that pass
abbrev passing : ℕ → (ℕ → Bool) → List ℕ
passing zero f = []
passing (suc n) f = passing n f ++ cond (f n) (n ∷ []) []

-- which of all bytes: space, tab, CR and LF; digits; letters and `_`
blanks : passing 256 is_blank ≡ 9 ∷ 10 ∷ 13 ∷ 32 ∷ []
unfolding is_blank
blanks = refl

digits : passing 256 is_digit ≡ codes "0123456789"
unfolding is_digit
digits = refl

letters : passing 256 is_letter ≡ codes "ABCDEFGHIJKLMNOPQRSTUVWXYZ_abcdefghijklmnopqrstuvwxyz"
unfolding is_letter
letters = refl

name_bytes : passing 256 is_name_byte ≡ codes "0123456789ABCDEFGHIJKLMNOPQRSTUVWXYZ_abcdefghijklmnopqrstuvwxyz"
unfolding is_name_byte is_letter is_digit
name_bytes = refl

-- control bytes, the quote and 0x7F alone stand in no text
no_text_bytes : passing 256 (λ b. not (is_text_byte b)) ≡ passing 32 (λ b. true) ++ 34 ∷ 127 ∷ []
unfolding is_text_byte
no_text_bytes = refl

-- each of them, with a space after it
abbrev spaced : List (List ℕ) → List ℕ
spaced [] = []
spaced (w ∷ ws) = w ++ 32 ∷ spaced ws

words : spaced (spelling Fun ∷ spelling Fn ∷ spelling Let ∷ spelling In ∷ spelling Case ∷ spelling Of ∷ spelling Inl ∷ spelling Inr ∷ spelling If ∷ spelling Then ∷ spelling Else ∷ spelling Fst ∷ spelling Snd ∷ spelling True ∷ spelling False ∷ spelling Num ∷ spelling TextWord ∷ spelling UnitWord ∷ spelling BoolWord ∷ spelling Bag ∷ spelling Inf ∷ spelling Size ∷ spelling Sum ∷ spelling Clip ∷ spelling Least ∷ spelling Greatest ∷ spelling Map ∷ spelling Filter ∷ spelling Split ∷ spelling Union ∷ spelling Do ∷ spelling Release ∷ spelling At ∷ []) ≡ codes "fun fn let in case of inl inr if then else fst snd true false num text unit bool bag inf size sum clip least greatest map filter split union do release at "
unfolding spelling
words = refl

signs : spaced (mark LeftParenthesis ∷ mark RightParenthesis ∷ mark LeftAngle ∷ mark RightAngle ∷ mark LeftBracket ∷ mark RightBracket ∷ mark Comma ∷ mark Colon ∷ mark Is ∷ mark Bang ∷ mark Bar ∷ mark Plus ∷ mark Minus ∷ mark Star ∷ mark Ampersand ∷ mark Slash ∷ mark Yields ∷ mark Arrow ∷ mark Lollipop ∷ mark AtMost ∷ mark EqualTo ∷ []) ≡ codes "( ) < > [ ] , : = ! | + - * & / => -> -o <= == "
unfolding mark
signs = refl

digits_after_a_number : value_from 12 (codes "034") ≡ 12034
digits_after_a_number = refl

-- texts and their tokens
abbrev at : ℕ → ℕ → Kind → Token
at from to kind = record { kind = kind; span = record { from = from; to = to } }

abbrev kinds_in : List Token → List Kind
kinds_in [] = []
kinds_in (t ∷ ts) = t.kind ∷ kinds_in ts

abbrev kinds : Answer → List Kind
kinds (Tokens ts) = kinds_in ts
kinds (Refused fault) = []

abbrev is_lexed : Answer → Bool
is_lexed (Tokens ts) = true
is_lexed (Refused fault) = false

abbrev some : ℕ → ℕ → List ℕ
some zero b = []
some (suc n) b = b ∷ some n b

abbrev quoted : List ℕ → List ℕ
quoted w = 34 ∷ w ++ 34 ∷ []

size_people : answer (codes "size people") ≡ Tokens (at 0 4 (Reserved Size) ∷ at 5 11 (Name (codes "people")) ∷ [])
unfolding answer tokens_from prefix_of word_kind spells same find_word word_with is_blank is_digit is_letter is_name_byte is_text_byte mark may_follow spelling
size_people = refl

nothing : answer [] ≡ Tokens []
unfolding answer tokens_from prefix_of word_kind spells same find_word word_with is_blank is_digit is_letter is_name_byte is_text_byte mark may_follow spelling
nothing = refl

blanks_alone : answer (32 ∷ 9 ∷ 13 ∷ 10 ∷ []) ≡ Tokens []
unfolding answer tokens_from prefix_of word_kind spells same find_word word_with is_blank is_digit is_letter is_name_byte is_text_byte mark may_follow spelling
blanks_alone = refl

blanks_before : answer (9 ∷ 13 ∷ 10 ∷ 32 ∷ 49 ∷ 32 ∷ []) ≡ Tokens (at 4 5 (Number 1) ∷ [])
unfolding answer tokens_from prefix_of word_kind spells same find_word word_with is_blank is_digit is_letter is_name_byte is_text_byte mark may_follow spelling
blanks_before = refl

-- vertical tab, form feed and 0xA0 are no blanks
other_blanks : is_lexed (answer (11 ∷ [])) ∷ is_lexed (answer (12 ∷ [])) ∷ is_lexed (answer (160 ∷ [])) ∷ [] ≡ false ∷ false ∷ false ∷ []
unfolding answer tokens_from prefix_of word_kind spells same find_word word_with is_blank is_digit is_letter is_name_byte is_text_byte mark may_follow spelling
other_blanks = refl

-- the programs of one byte
one_byte : passing 256 (λ b. is_lexed (answer (b ∷ []))) ≡ 9 ∷ 10 ∷ 13 ∷ 32 ∷ codes "!&()*+,-/0123456789:<=>ABCDEFGHIJKLMNOPQRSTUVWXYZ[]_abcdefghijklmnopqrstuvwxyz|"
unfolding answer tokens_from prefix_of word_kind spells same find_word word_with is_blank is_digit is_letter is_name_byte is_text_byte mark may_follow spelling
one_byte = refl

reserved_words : kinds (answer (codes "fun fn let in case of inl inr if then else fst snd true false num text unit bool bag inf size sum clip least greatest map filter split union do release at")) ≡ Reserved Fun ∷ Reserved Fn ∷ Reserved Let ∷ Reserved In ∷ Reserved Case ∷ Reserved Of ∷ Reserved Inl ∷ Reserved Inr ∷ Reserved If ∷ Reserved Then ∷ Reserved Else ∷ Reserved Fst ∷ Reserved Snd ∷ Reserved True ∷ Reserved False ∷ Reserved Num ∷ Reserved TextWord ∷ Reserved UnitWord ∷ Reserved BoolWord ∷ Reserved Bag ∷ Reserved Inf ∷ Reserved Size ∷ Reserved Sum ∷ Reserved Clip ∷ Reserved Least ∷ Reserved Greatest ∷ Reserved Map ∷ Reserved Filter ∷ Reserved Split ∷ Reserved Union ∷ Reserved Do ∷ Reserved Release ∷ Reserved At ∷ []
unfolding answer tokens_from prefix_of word_kind spells same find_word word_with is_blank is_digit is_letter is_name_byte is_text_byte mark may_follow spelling
reserved_words = refl

names_that_begin_with_words : kinds (answer (codes "funx fn_ let0 inx case_ of0 inlx inr_ if0 thenx else_ fst0 sndx true_ false0 numx text_ unit0 boolx bag_ inf0 sizex sum_ clip0 leastx greatest_ map0 filterx split_ union0 dox release_ at0")) ≡ Name (codes "funx") ∷ Name (codes "fn_") ∷ Name (codes "let0") ∷ Name (codes "inx") ∷ Name (codes "case_") ∷ Name (codes "of0") ∷ Name (codes "inlx") ∷ Name (codes "inr_") ∷ Name (codes "if0") ∷ Name (codes "thenx") ∷ Name (codes "else_") ∷ Name (codes "fst0") ∷ Name (codes "sndx") ∷ Name (codes "true_") ∷ Name (codes "false0") ∷ Name (codes "numx") ∷ Name (codes "text_") ∷ Name (codes "unit0") ∷ Name (codes "boolx") ∷ Name (codes "bag_") ∷ Name (codes "inf0") ∷ Name (codes "sizex") ∷ Name (codes "sum_") ∷ Name (codes "clip0") ∷ Name (codes "leastx") ∷ Name (codes "greatest_") ∷ Name (codes "map0") ∷ Name (codes "filterx") ∷ Name (codes "split_") ∷ Name (codes "union0") ∷ Name (codes "dox") ∷ Name (codes "release_") ∷ Name (codes "at0") ∷ []
unfolding answer tokens_from prefix_of word_kind spells same find_word word_with is_blank is_digit is_letter is_name_byte is_text_byte mark may_follow spelling
names_that_begin_with_words = refl

capitals : kinds (answer (codes "Fun SIZE inF")) ≡ Name (codes "Fun") ∷ Name (codes "SIZE") ∷ Name (codes "inF") ∷ []
unfolding answer tokens_from prefix_of word_kind spells same find_word word_with is_blank is_digit is_letter is_name_byte is_text_byte mark may_follow spelling
capitals = refl

each_sign : kinds (answer (codes "( ) < > [ ] , : = ! | + - * & / => -> -o <= ==")) ≡ Punctuation LeftParenthesis ∷ Punctuation RightParenthesis ∷ Punctuation LeftAngle ∷ Punctuation RightAngle ∷ Punctuation LeftBracket ∷ Punctuation RightBracket ∷ Punctuation Comma ∷ Punctuation Colon ∷ Punctuation Is ∷ Punctuation Bang ∷ Punctuation Bar ∷ Punctuation Plus ∷ Punctuation Minus ∷ Punctuation Star ∷ Punctuation Ampersand ∷ Punctuation Slash ∷ Punctuation Yields ∷ Punctuation Arrow ∷ Punctuation Lollipop ∷ Punctuation AtMost ∷ Punctuation EqualTo ∷ []
unfolding answer tokens_from prefix_of word_kind spells same find_word word_with is_blank is_digit is_letter is_name_byte is_text_byte mark may_follow spelling
each_sign = refl

longest_first : answer (codes "->-=>===<=<-") ≡ Tokens (at 0 2 (Punctuation Arrow) ∷ at 2 3 (Punctuation Minus) ∷ at 3 5 (Punctuation Yields) ∷ at 5 7 (Punctuation EqualTo) ∷ at 7 8 (Punctuation Is) ∷ at 8 10 (Punctuation AtMost) ∷ at 10 11 (Punctuation LeftAngle) ∷ at 11 12 (Punctuation Minus) ∷ [])
unfolding answer tokens_from prefix_of word_kind spells same find_word word_with is_blank is_digit is_letter is_name_byte is_text_byte mark may_follow spelling
longest_first = refl

-- `-o` is a sign only where no name byte follows
lollipop_at_the_end : answer (codes "-o") ≡ Tokens (at 0 2 (Punctuation Lollipop) ∷ [])
unfolding answer tokens_from prefix_of word_kind spells same find_word word_with is_blank is_digit is_letter is_name_byte is_text_byte mark may_follow spelling
lollipop_at_the_end = refl

lollipop_before_a_sign : answer (codes "-o(-o 1") ≡ Tokens (at 0 2 (Punctuation Lollipop) ∷ at 2 3 (Punctuation LeftParenthesis) ∷ at 3 5 (Punctuation Lollipop) ∷ at 6 7 (Number 1) ∷ [])
unfolding answer tokens_from prefix_of word_kind spells same find_word word_with is_blank is_digit is_letter is_name_byte is_text_byte mark may_follow spelling
lollipop_before_a_sign = refl

minus_before_a_name : kinds (answer (codes "-one -o_ -o1 -oo")) ≡ Punctuation Minus ∷ Name (codes "one") ∷ Punctuation Minus ∷ Name (codes "o_") ∷ Punctuation Minus ∷ Name (codes "o1") ∷ Punctuation Minus ∷ Name (codes "oo") ∷ []
unfolding answer tokens_from prefix_of word_kind spells same find_word word_with is_blank is_digit is_letter is_name_byte is_text_byte mark may_follow spelling
minus_before_a_name = refl

greatest_number : answer (codes "1125899906842624") ≡ Tokens (at 0 16 (Number 1125899906842624) ∷ [])
unfolding answer tokens_from prefix_of word_kind spells same find_word word_with is_blank is_digit is_letter is_name_byte is_text_byte mark may_follow spelling
greatest_number = refl

one_over : answer (codes "1125899906842625") ≡ Refused (Bad 0)
unfolding answer tokens_from prefix_of word_kind spells same find_word word_with is_blank is_digit is_letter is_name_byte is_text_byte mark may_follow spelling
one_over = refl

leading_zeros : answer (codes "7 0000000000000000000000000000000000000007 00") ≡ Tokens (at 0 1 (Number 7) ∷ at 2 42 (Number 7) ∷ at 43 45 (Number 0) ∷ [])
unfolding answer tokens_from prefix_of word_kind spells same find_word word_with is_blank is_digit is_letter is_name_byte is_text_byte mark may_follow spelling
leading_zeros = refl

number_before_a_name : answer (codes "1x") ≡ Tokens (at 0 1 (Number 1) ∷ at 1 2 (Name (codes "x")) ∷ [])
unfolding answer tokens_from prefix_of word_kind spells same find_word word_with is_blank is_digit is_letter is_name_byte is_text_byte mark may_follow spelling
number_before_a_name = refl

name_of_32_bytes : answer (codes "abcdefghijklmnopqrstuvwxyz_01234") ≡ Tokens (at 0 32 (Name (codes "abcdefghijklmnopqrstuvwxyz_01234")) ∷ [])
unfolding answer tokens_from prefix_of word_kind spells same find_word word_with is_blank is_digit is_letter is_name_byte is_text_byte mark may_follow spelling
name_of_32_bytes = refl

name_of_33_bytes : answer (codes "1 abcdefghijklmnopqrstuvwxyz_012345") ≡ Refused (Bad 2)
unfolding answer tokens_from prefix_of word_kind spells same find_word word_with is_blank is_digit is_letter is_name_byte is_text_byte mark may_follow spelling
name_of_33_bytes = refl

text_of_64_bytes : answer (quoted (some 64 120)) ≡ Tokens (at 0 66 (Text (some 64 120)) ∷ [])
unfolding answer tokens_from prefix_of word_kind spells same find_word word_with is_blank is_digit is_letter is_name_byte is_text_byte mark may_follow spelling
text_of_64_bytes = refl

text_of_65_bytes : answer (49 ∷ quoted (some 65 120)) ≡ Refused (Bad 1)
unfolding answer tokens_from prefix_of word_kind spells same find_word word_with is_blank is_digit is_letter is_name_byte is_text_byte mark may_follow spelling
text_of_65_bytes = refl

texts_without_bytes : answer (quoted [] ++ quoted []) ≡ Tokens (at 0 2 (Text []) ∷ at 2 4 (Text []) ∷ [])
unfolding answer tokens_from prefix_of word_kind spells same find_word word_with is_blank is_digit is_letter is_name_byte is_text_byte mark may_follow spelling
texts_without_bytes = refl

text_without_end : is_lexed (answer (34 ∷ [])) ∷ is_lexed (answer (34 ∷ 97 ∷ [])) ∷ [] ≡ false ∷ false ∷ []
unfolding answer tokens_from prefix_of word_kind spells same find_word word_with is_blank is_digit is_letter is_name_byte is_text_byte mark may_follow spelling
text_without_end = refl

bytes_in_a_text : passing 256 (λ b. not (is_lexed (answer (quoted (b ∷ []))))) ≡ passing 32 (λ b. true) ++ 34 ∷ 127 ∷ []
unfolding answer tokens_from prefix_of word_kind spells same find_word word_with is_blank is_digit is_letter is_name_byte is_text_byte mark may_follow spelling
bytes_in_a_text = refl

no_escapes : answer (34 ∷ 92 ∷ 34 ∷ 49 ∷ []) ≡ Tokens (at 0 3 (Text (92 ∷ [])) ∷ at 3 4 (Number 1) ∷ [])
unfolding answer tokens_from prefix_of word_kind spells same find_word word_with is_blank is_digit is_letter is_name_byte is_text_byte mark may_follow spelling
no_escapes = refl

bad_byte_after_tokens : answer (codes "size people $") ≡ Refused (Bad 12)
unfolding answer tokens_from prefix_of word_kind spells same find_word word_with is_blank is_digit is_letter is_name_byte is_text_byte mark may_follow spelling
bad_byte_after_tokens = refl

-- what is computed is what the relation says
size_people_is_lexed : IsLexed (codes "size people") (at 0 4 (Reserved Size) ∷ at 5 11 (Name (codes "people")) ∷ [])
unfolding answer tokens_from prefix_of word_kind spells same find_word word_with is_blank is_digit is_letter is_name_byte is_text_byte mark may_follow spelling
size_people_is_lexed = answer_holds (codes "size people")

-- 4,096 tokens and 16,000 bytes pass, and one more of either does not
most : (w : List ℕ) (ts : List Token) → AreTokens w ts → length w ≡ 16000 → length ts ≡ 4096 → IsLexed w ts
most w ts h b c = record { tokens = h; bytes = omega (arith, b); count = omega (arith, c) }

one_token_too_many : (w : List ℕ) (ts : List Token) → length ts ≡ 4097 → IsLexed w ts → ⊥
one_token_too_many w ts c h = omega (arith, c, h.count)

one_byte_too_many : (w : List ℕ) (ts : List Token) → length w ≡ 16001 → IsLexed w ts → ⊥
one_byte_too_many w ts b h = omega (arith, b, h.bytes)

refused_at_the_limit : (w : List ℕ) → length w ≡ 16001 → ExplainsLex w (Bad 16000)
refused_at_the_limit w b = inl (omega (arith, b), refl)

-- Token 4,097 is told by the byte at which it begins: no blank, and with that many bytes before it. Behind 4,096 brackets and a space that is 4097.
record BeginsAt (w : List ℕ) (place : ℕ) : Type 0 where
  front : List ℕ
  rest : List ℕ
  whole : w ≡ front ++ rest
  far : place ≡ length front
  no_blank : stops is_blank rest ≡ true

begins_at : (ts : List Token) (p : ℕ) (w : List ℕ) (q : ℕ) (end : List ℕ) → Cut p w ts q end
    → (front : List ℕ) × (w ≡ front ++ end) × (q ≡ p + length front) × (stops is_blank end ≡ true)
begins_at [] p w q end h = (h.0, h.1, h.4, h.3)
begins_at (t ∷ ts) p w q end h =
    let on = begins_at ts t.span.to h.2 q end h.8 in (
      h.0 ++ (h.1 ++ on.0),
      h.3 ∙ ap (λ x. h.0 ++ (h.1 ++ x)) on.1 ∙ ap (λ x. h.0 ++ x) (sym (append_assoc h.1 on.0 end)) ∙ sym (append_assoc h.0 (h.1 ++ on.0) end),
      omega (arith, on.2, h.6, h.7, length-append h.0 (h.1 ++ on.0), length-append h.1 on.0),
      on.3,
    )

told_by_its_first_byte : (w : List ℕ) (place : ℕ) → ExplainsLex w (TooManyTokens place) → BeginsAt w place
told_by_its_first_byte w place h =
    let x = h.1 in
    let found = begins_at x.0 0 w place (x.1 ++ x.2) x.4 in
    record { front = found.0; rest = x.1 ++ x.2; whole = found.1; far = omega (arith, found.2); no_blank = found.3 }

behind_a_space : (w : List ℕ) (ts : List Token) (after : List ℕ) → length w ≤ 16000 → length ts ≡ 4096 → Cut 0 w ts 4097 (40 ∷ after)
    → IsToken (40 ∷ []) after (Punctuation LeftParenthesis) → ExplainsLex w (TooManyTokens 4097)
behind_a_space w ts after short many found token = (short, (ts, 40 ∷ [], after, Punctuation LeftParenthesis, found, many, token))

-- a text without limits: the same tokens, and the same bytes that begin none
type_of_a_line : line_answer (codes "bag ![2/3] num ") ≡ Tokens (at 0 3 (Reserved Bag) ∷ at 4 5 (Punctuation Bang) ∷ at 5 6 (Punctuation LeftBracket) ∷ at 6 7 (Number 2) ∷ at 7 8 (Punctuation Slash) ∷ at 8 9 (Number 3) ∷ at 9 10 (Punctuation RightBracket) ∷ at 11 14 (Reserved Num) ∷ [])
unfolding line_answer tokens_from prefix_of word_kind spells same find_word word_with is_blank is_digit is_letter is_name_byte is_text_byte mark may_follow spelling
type_of_a_line = refl

no_bytes_of_a_line : line_answer [] ∷ line_answer (32 ∷ 9 ∷ 13 ∷ 10 ∷ []) ∷ [] ≡ Tokens [] ∷ Tokens [] ∷ []
unfolding line_answer tokens_from prefix_of word_kind spells same find_word word_with is_blank is_digit is_letter is_name_byte is_text_byte mark may_follow spelling
no_bytes_of_a_line = refl

bad_byte_of_a_line : line_answer (codes "num $") ∷ line_answer (codes "$") ∷ line_answer (codes "1125899906842625") ∷ line_answer (codes "a#b") ∷ [] ≡ Refused (Bad 4) ∷ Refused (Bad 0) ∷ Refused (Bad 0) ∷ Refused (Bad 1) ∷ []
unfolding line_answer tokens_from prefix_of word_kind spells same find_word word_with is_blank is_digit is_letter is_name_byte is_text_byte mark may_follow spelling
bad_byte_of_a_line = refl

-- a text is refused at the token past its limit, and one of as many tokens as the limit passes; a bad byte before it comes first
tokens_at_the_limit : cut 3 (codes "( ((") ∷ cut 2 (codes "( ((") ∷ cut 2 (codes "($((") ∷ cut 1 (codes "( $") ∷ cut 0 (codes " ") ∷ cut 0 (codes " (") ∷ [] ≡
    Tokens (at 0 1 (Punctuation LeftParenthesis) ∷ at 2 3 (Punctuation LeftParenthesis) ∷ at 3 4 (Punctuation LeftParenthesis) ∷ []) ∷
    Refused (TooManyTokens 3) ∷ Refused (Bad 1) ∷ Refused (Bad 2) ∷ Tokens [] ∷ Refused (TooManyTokens 1) ∷ []
unfolding tokens_from prefix_of word_kind spells same find_word word_with is_blank is_digit is_letter is_name_byte is_text_byte mark may_follow spelling
tokens_at_the_limit = refl

-- no number of bytes or tokens is too great
tokens_of_a_long_line : (w : List ℕ) (ts : List Token) → length w ≡ 16001 → length ts ≡ 4097 → AreTokens w ts → (fault : LexFault) → ExplainsLine w fault → fault ≡ NoMemory
tokens_of_a_long_line w ts b c h fault x = line_refused w fault ts x h

never_too_many : (w : List ℕ) (place : ℕ) → ExplainsLine w (TooManyTokens place) → ⊥
never_too_many w place x = x
