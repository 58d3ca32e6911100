-- No two reserved words, and no two signs, have the same bytes, and the code's tables hold all of them.
use Rattle.std.proofs.Common.{◌≡◌, ℕ, ◌<◌, ◌≤◌, List, [], ◌∷◌, Bool, true, false, cond, get_or, refl, arith, sym, ap, ◌∙◌, length, zero, suc, inl, inr}
use Rattle.std.proofs.lemmas.Bool.{cases_Bool, cases_eq, and_parts, and_from, eqb-true, eq-eqb, ltb-false, le-ltb}
use Rattle.std.specs.Prelude.{⊤, ◌&&◌, nat_eq, nat_lt}
use Rattle.fz_lexer.specs.declared.token.Word.{Word}
use Rattle.fz_lexer.specs.declared.token.Sign.{Sign}
use Rattle.fz_lexer.specs.declared.token.Word.TheVariants.{Fun, Fn, Let, In, Case, Of, Inl, Inr, If, Then, Else, Fst, Snd, True, False, Num, Text, Unit as UnitWord, Bool as BoolWord, Bag, Inf, Size, Sum, Clip, Least, Greatest, Map, Filter, Split, Union, Do, Release, At}
use Rattle.fz_lexer.specs.declared.token.Sign.TheVariants.{Yields, Arrow, Lollipop, AtMost, EqualTo, LeftParenthesis, RightParenthesis, LeftAngle, RightAngle, LeftBracket, RightBracket, Comma, Colon, Is, Bang, Bar, Plus, Minus, Star, Ampersand, Slash}
use Rattle.fz_lexer.specs.declared.word.TheConstants.{WORDS}
use Rattle.fz_lexer.specs.declared.sign.TheConstants.{SIGNS}
use Rattle.fz_lexer.specs.Words.{spelling}
use Rattle.fz_lexer.specs.Signs.{mark}
use Rattle.fz_lexer.specs.Bytes.{is_letter, is_digit}

unfoldable pub same : List ℕ → List ℕ → Bool
same [] [] = true
same [] (b ∷ w) = false
same (a ∷ v) [] = false
same (a ∷ v) (b ∷ w) = nat_eq a b && same v w

unfoldable pub find_word : List Word → List ℕ → Word
find_word [] w = At
find_word (x ∷ xs) w = cond (same (spelling x) w) x (find_word xs w)

pub same_self : (w : List ℕ) → same w w ≡ true
unfolding same
same_self [] = refl
same_self (b ∷ w) = and_from (nat_eq b b) (same w w) (eq-eqb b b refl) (same_self w)

pub same_is : (v w : List ℕ) → same v w ≡ true → v ≡ w
unfolding same
same_is [] [] h = refl
same_is [] (b ∷ w) h = absurd (cc h)
same_is (a ∷ v) [] h = absurd (cc h)
same_is (a ∷ v) (b ∷ w) h = let p = and_parts (nat_eq a b) (same v w) h in cc (eqb-true a b p.0, same_is v w p.1)

-- the word with these bytes
unfoldable pub word_with : List ℕ → Word
word_with w = find_word WORDS w

pub word_back : (x : Word) → word_with (spelling x) ≡ x
unfolding same find_word word_with spelling
word_back Fun = refl
word_back Fn = refl
word_back Let = refl
word_back In = refl
word_back Case = refl
word_back Of = refl
word_back Inl = refl
word_back Inr = refl
word_back If = refl
word_back Then = refl
word_back Else = refl
word_back Fst = refl
word_back Snd = refl
word_back True = refl
word_back False = refl
word_back Num = refl
word_back Text = refl
word_back UnitWord = refl
word_back BoolWord = refl
word_back Bag = refl
word_back Inf = refl
word_back Size = refl
word_back Sum = refl
word_back Clip = refl
word_back Least = refl
word_back Greatest = refl
word_back Map = refl
word_back Filter = refl
word_back Split = refl
word_back Union = refl
word_back Do = refl
word_back Release = refl
word_back At = refl

pub spelling-same : (x y : Word) → spelling x ≡ spelling y → x ≡ y
spelling-same x y e = sym (word_back x) ∙ ap word_with e ∙ word_back y

-- its place in the code's table
unfoldable pub word_place : Word → ℕ
word_place Fun = 0
word_place Fn = 1
word_place Let = 2
word_place In = 3
word_place Case = 4
word_place Of = 5
word_place Inl = 6
word_place Inr = 7
word_place If = 8
word_place Then = 9
word_place Else = 10
word_place Fst = 11
word_place Snd = 12
word_place True = 13
word_place False = 14
word_place Num = 15
word_place Text = 16
word_place UnitWord = 17
word_place BoolWord = 18
word_place Bag = 19
word_place Inf = 20
word_place Size = 21
word_place Sum = 22
word_place Clip = 23
word_place Least = 24
word_place Greatest = 25
word_place Map = 26
word_place Filter = 27
word_place Split = 28
word_place Union = 29
word_place Do = 30
word_place Release = 31
word_place At = 32

pub word_at : (x : Word) → get_or WORDS (word_place x) Fun ≡ x
unfolding word_place
word_at Fun = refl
word_at Fn = refl
word_at Let = refl
word_at In = refl
word_at Case = refl
word_at Of = refl
word_at Inl = refl
word_at Inr = refl
word_at If = refl
word_at Then = refl
word_at Else = refl
word_at Fst = refl
word_at Snd = refl
word_at True = refl
word_at False = refl
word_at Num = refl
word_at Text = refl
word_at UnitWord = refl
word_at BoolWord = refl
word_at Bag = refl
word_at Inf = refl
word_at Size = refl
word_at Sum = refl
word_at Clip = refl
word_at Least = refl
word_at Greatest = refl
word_at Map = refl
word_at Filter = refl
word_at Split = refl
word_at Union = refl
word_at Do = refl
word_at Release = refl
word_at At = refl

pub word_below : (x : Word) → word_place x < 33
unfolding word_place
word_below Fun = omega arith
word_below Fn = omega arith
word_below Let = omega arith
word_below In = omega arith
word_below Case = omega arith
word_below Of = omega arith
word_below Inl = omega arith
word_below Inr = omega arith
word_below If = omega arith
word_below Then = omega arith
word_below Else = omega arith
word_below Fst = omega arith
word_below Snd = omega arith
word_below True = omega arith
word_below False = omega arith
word_below Num = omega arith
word_below Text = omega arith
word_below UnitWord = omega arith
word_below BoolWord = omega arith
word_below Bag = omega arith
word_below Inf = omega arith
word_below Size = omega arith
word_below Sum = omega arith
word_below Clip = omega arith
word_below Least = omega arith
word_below Greatest = omega arith
word_below Map = omega arith
word_below Filter = omega arith
word_below Split = omega arith
word_below Union = omega arith
word_below Do = omega arith
word_below Release = omega arith
word_below At = omega arith

find_sign : List Sign → List ℕ → Sign
find_sign [] w = Slash
find_sign (x ∷ xs) w = cond (same (mark x) w) x (find_sign xs w)

-- the sign with these bytes
sign_with : List ℕ → Sign
unfolding same find_sign
sign_with w = find_sign SIGNS w

sign_back : (x : Sign) → sign_with (mark x) ≡ x
unfolding same find_sign sign_with mark
sign_back Yields = refl
sign_back Arrow = refl
sign_back Lollipop = refl
sign_back AtMost = refl
sign_back EqualTo = refl
sign_back LeftParenthesis = refl
sign_back RightParenthesis = refl
sign_back LeftAngle = refl
sign_back RightAngle = refl
sign_back LeftBracket = refl
sign_back RightBracket = refl
sign_back Comma = refl
sign_back Colon = refl
sign_back Is = refl
sign_back Bang = refl
sign_back Bar = refl
sign_back Plus = refl
sign_back Minus = refl
sign_back Star = refl
sign_back Ampersand = refl
sign_back Slash = refl

pub mark-same : (x y : Sign) → mark x ≡ mark y → x ≡ y
mark-same x y e = sym (sign_back x) ∙ ap sign_with e ∙ sign_back y

-- its place in the code's table
unfoldable pub sign_place : Sign → ℕ
sign_place Yields = 0
sign_place Arrow = 1
sign_place Lollipop = 2
sign_place AtMost = 3
sign_place EqualTo = 4
sign_place LeftParenthesis = 5
sign_place RightParenthesis = 6
sign_place LeftAngle = 7
sign_place RightAngle = 8
sign_place LeftBracket = 9
sign_place RightBracket = 10
sign_place Comma = 11
sign_place Colon = 12
sign_place Is = 13
sign_place Bang = 14
sign_place Bar = 15
sign_place Plus = 16
sign_place Minus = 17
sign_place Star = 18
sign_place Ampersand = 19
sign_place Slash = 20

pub sign_at : (x : Sign) → get_or SIGNS (sign_place x) LeftParenthesis ≡ x
unfolding sign_place
sign_at Yields = refl
sign_at Arrow = refl
sign_at Lollipop = refl
sign_at AtMost = refl
sign_at EqualTo = refl
sign_at LeftParenthesis = refl
sign_at RightParenthesis = refl
sign_at LeftAngle = refl
sign_at RightAngle = refl
sign_at LeftBracket = refl
sign_at RightBracket = refl
sign_at Comma = refl
sign_at Colon = refl
sign_at Is = refl
sign_at Bang = refl
sign_at Bar = refl
sign_at Plus = refl
sign_at Minus = refl
sign_at Star = refl
sign_at Ampersand = refl
sign_at Slash = refl

pub sign_below : (x : Sign) → sign_place x < 21
unfolding sign_place
sign_below Yields = omega arith
sign_below Arrow = omega arith
sign_below Lollipop = omega arith
sign_below AtMost = omega arith
sign_below EqualTo = omega arith
sign_below LeftParenthesis = omega arith
sign_below RightParenthesis = omega arith
sign_below LeftAngle = omega arith
sign_below RightAngle = omega arith
sign_below LeftBracket = omega arith
sign_below RightBracket = omega arith
sign_below Comma = omega arith
sign_below Colon = omega arith
sign_below Is = omega arith
sign_below Bang = omega arith
sign_below Bar = omega arith
sign_below Plus = omega arith
sign_below Minus = omega arith
sign_below Star = omega arith
sign_below Ampersand = omega arith
sign_below Slash = omega arith

-- the longer signs come first
mark_length : (x : Sign) → length (mark x) ≡ cond (nat_lt (sign_place x) 5) 2 1
unfolding mark sign_place
mark_length Yields = refl
mark_length Arrow = refl
mark_length Lollipop = refl
mark_length AtMost = refl
mark_length EqualTo = refl
mark_length LeftParenthesis = refl
mark_length RightParenthesis = refl
mark_length LeftAngle = refl
mark_length RightAngle = refl
mark_length LeftBracket = refl
mark_length RightBracket = refl
mark_length Comma = refl
mark_length Colon = refl
mark_length Is = refl
mark_length Bang = refl
mark_length Bar = refl
mark_length Plus = refl
mark_length Minus = refl
mark_length Star = refl
mark_length Ampersand = refl
mark_length Slash = refl

pub mark_some : (x : Sign) → 0 < length (mark x)
mark_some x = let e = mark_length x in elim (cases_Bool (nat_lt (sign_place x) 5)) [ inl h ↦ let f = rw h at e in omega (arith, f) | inr h ↦ let f = rw h at e in omega (arith, f) ]

-- a sign's first byte begins nothing else
abbrev pub SortStart : List ℕ → Type 0
SortStart [] = ⊤
SortStart (b ∷ w) = (is_letter b ≡ false) × (is_digit b ≡ false) × (nat_eq b 34 ≡ false) × (32 < b)

pub sign_start : (x : Sign) → SortStart (mark x)
unfolding mark is_letter is_digit
sign_start Yields = (refl, refl, refl, omega arith)
sign_start Arrow = (refl, refl, refl, omega arith)
sign_start Lollipop = (refl, refl, refl, omega arith)
sign_start AtMost = (refl, refl, refl, omega arith)
sign_start EqualTo = (refl, refl, refl, omega arith)
sign_start LeftParenthesis = (refl, refl, refl, omega arith)
sign_start RightParenthesis = (refl, refl, refl, omega arith)
sign_start LeftAngle = (refl, refl, refl, omega arith)
sign_start RightAngle = (refl, refl, refl, omega arith)
sign_start LeftBracket = (refl, refl, refl, omega arith)
sign_start RightBracket = (refl, refl, refl, omega arith)
sign_start Comma = (refl, refl, refl, omega arith)
sign_start Colon = (refl, refl, refl, omega arith)
sign_start Is = (refl, refl, refl, omega arith)
sign_start Bang = (refl, refl, refl, omega arith)
sign_start Bar = (refl, refl, refl, omega arith)
sign_start Plus = (refl, refl, refl, omega arith)
sign_start Minus = (refl, refl, refl, omega arith)
sign_start Star = (refl, refl, refl, omega arith)
sign_start Ampersand = (refl, refl, refl, omega arith)
sign_start Slash = (refl, refl, refl, omega arith)

numbered : ℕ → Bool
unfolding sign_place
numbered zero = true
numbered (suc i) = cond (nat_eq (sign_place (get_or SIGNS i LeftParenthesis)) i) (numbered i) false

all_numbered : numbered 21 ≡ true
unfolding numbered sign_place
all_numbered = refl

cond_parts : (a b : Bool) → cond a b false ≡ true → (a ≡ true) × (b ≡ true)
cond_parts true b h = (refl, h)
cond_parts false b h = absurd (cc h)

place_from : (n i : ℕ) → numbered n ≡ true → i < n → sign_place (get_or SIGNS i LeftParenthesis) ≡ i
unfolding numbered
place_from zero i h l = absurd (omega arith)
place_from (suc n) i h l =
    let p = cond_parts (nat_eq (sign_place (get_or SIGNS n LeftParenthesis)) n) (numbered n) h in
    elim (cases_eq i n) [ inl e ↦ rw e (eqb-true _ _ p.0) | inr d ↦ place_from n i p.1 (omega arith) ]

-- where the code has come to a sign, those after it are no longer
pub mark_order : (i : ℕ) (x y : Sign) → i < 21 → x ≡ get_or SIGNS i LeftParenthesis → i ≤ sign_place y → length (mark y) ≤ length (mark x)
mark_order i x y l e h =
    let p : sign_place x ≡ i = ap sign_place e ∙ place_from 21 i all_numbered l in
    let a = mark_length x in let b = mark_length y in
    elim (cases_Bool (nat_lt (sign_place x) 5)) [
      | inl h ↦ let f = rw h at a in elim (cases_Bool (nat_lt (sign_place y) 5)) [ inl k ↦ let g = rw k at b in omega (arith, f, g) | inr k ↦ let g = rw k at b in omega (arith, f, g) ]
      | inr k ↦
          let f = rw k at a in let low : 5 ≤ sign_place x = ltb-false _ _ k in
          let g = rw (le-ltb (sign_place y) 5 (omega arith)) at b in omega (arith, f, g)
    ]
