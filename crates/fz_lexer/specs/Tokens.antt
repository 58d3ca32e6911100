-- The cut of a program into blanks and longest tokens.
use Rattle.std.specs.Prelude.{◌≡◌, ℕ, ◌+◌, ◌<◌, ◌≤◌, List, [], ◌∷◌, ◌++◌, length, true, ◌⊎◌, ⊤}
use Rattle.fz_ast.specs.Limits.{greatest_number}
use Rattle.fz_lexer.specs.declared.token.Token.{Token}
use Rattle.fz_lexer.specs.declared.token.Kind.{Kind}
use Rattle.fz_lexer.specs.declared.token.Kind.TheVariants.{Name, Number, Text, Reserved, Punctuation}
use Rattle.fz_lexer.specs.declared.token.Word.{Word}
use Rattle.fz_lexer.specs.declared.token.Sign.{Sign}
use Rattle.fz_lexer.specs.declared.token.LexFault.{LexFault}
use Rattle.fz_lexer.specs.declared.token.LexFault.TheVariants.{Bad, TooManyTokens, NoMemory}
use Rattle.fz_lexer.specs.Bytes.{is_blank, is_digit, is_letter, is_name_byte, is_text_byte, every_byte, begins, stops, value_from}
use Rattle.fz_lexer.specs.Words.{spelling}
use Rattle.fz_lexer.specs.Signs.{SpellsSign, IsLongest}

-- a whole run of name bytes is a reserved word, or else a name
abbrev pub IsReservedOrName : List ℕ → Kind → Type 0
IsReservedOrName text kind =
    ((word : Word) × (text ≡ spelling word) × (kind ≡ Reserved word)) ⊎ (((word : Word) → text ≡ spelling word → ⊥) × (kind ≡ Name text))

-- Each of these says that the text is one whole token where `after` follows it.
pub record IsNameToken (text after : List ℕ) (kind : Kind) : Type 0 where
  pub first : begins is_letter text ≡ true
  pub every : every_byte is_name_byte text ≡ true
  pub ends : stops is_name_byte after ≡ true
  pub short : length text ≤ 32
  pub is : IsReservedOrName text kind

pub record IsNumberToken (text after : List ℕ) (kind : Kind) : Type 0 where
  pub some : begins is_digit text ≡ true
  pub every : every_byte is_digit text ≡ true
  pub ends : stops is_digit after ≡ true
  pub small : value_from 0 text ≤ greatest_number
  pub is : kind ≡ Number (value_from 0 text)

pub record IsTextToken (text after : List ℕ) (kind : Kind) : Type 0 where
  pub inner : List ℕ
  pub quoted : text ≡ 34 ∷ (inner ++ 34 ∷ [])
  pub every : every_byte is_text_byte inner ≡ true
  pub short : length inner ≤ 64
  pub is : kind ≡ Text inner

pub record IsSignToken (text after : List ℕ) (kind : Kind) : Type 0 where
  pub sign : Sign
  pub stands : SpellsSign sign text after
  pub longest : IsLongest sign text after
  pub is : kind ≡ Punctuation sign

abbrev pub IsToken : List ℕ → List ℕ → Kind → Type 0
IsToken text after kind = IsNameToken text after kind ⊎ (IsNumberToken text after kind ⊎ (IsTextToken text after kind ⊎ IsSignToken text after kind))

-- no token begins these bytes
abbrev pub NoToken : List ℕ → Type 0
NoToken w = (text after : List ℕ) (kind : Kind) → w ≡ text ++ after → IsToken text after kind → ⊥

-- From place p on, w is these tokens, each after blanks; then blanks to place q, and then `end`, which begins with no blank.
abbrev pub Cut : ℕ → List ℕ → List Token → ℕ → List ℕ → Type 0
Cut p w [] q end = (blanks : List ℕ) × (w ≡ blanks ++ end) × (every_byte is_blank blanks ≡ true) × (stops is_blank end ≡ true) × (q ≡ p + length blanks)
Cut p w (t ∷ ts) q end =
    (blanks : List ℕ) × (text : List ℕ) × (after : List ℕ) × (w ≡ blanks ++ (text ++ after)) × (every_byte is_blank blanks ≡ true) ×
    IsToken text after t.kind × (t.span.from ≡ p + length blanks) × (t.span.to ≡ t.span.from + length text) × Cut t.span.to after ts q end

-- the whole text is these tokens
abbrev pub AreTokens : List ℕ → List Token → Type 0
AreTokens w ts = Cut 0 w ts (length w) []

-- a program has at most so many bytes, and so many tokens
abbrev pub most_bytes : ℕ
most_bytes = 16000

abbrev pub most_tokens : ℕ
most_tokens = 4096

-- the text is these tokens, within the limits
pub record IsLexed (w : List ℕ) (ts : List Token) : Type 0 where
  pub tokens : AreTokens w ts
  pub bytes : length w ≤ most_bytes
  pub count : length ts ≤ most_tokens

-- What the cutting itself comes to, with a limit of tokens: a byte that begins no token, or one token too many.
abbrev pub ExplainsCut : ℕ → List ℕ → LexFault → Type 0
ExplainsCut most w (Bad place) = (ts : List Token) × (end : List ℕ) × Cut 0 w ts place end × (length ts ≤ most) × (0 < length end) × NoToken end
ExplainsCut most w (TooManyTokens place) =
    (ts : List Token) × (text : List ℕ) × (after : List ℕ) × (kind : Kind) × Cut 0 w ts place (text ++ after) × (length ts ≡ most) × IsToken text after kind
ExplainsCut most w NoMemory = ⊤

-- what each fault says of a program's text
abbrev pub ExplainsLex : List ℕ → LexFault → Type 0
ExplainsLex w (Bad place) =
    ((most_bytes < length w) × (place ≡ most_bytes)) ⊎ ((length w ≤ most_bytes) × ExplainsCut most_tokens w (Bad place))
ExplainsLex w (TooManyTokens place) = (length w ≤ most_bytes) × ExplainsCut most_tokens w (TooManyTokens place)
ExplainsLex w NoMemory = ⊤

-- the text is tokens, or has a fault other than want of memory
abbrev pub IsLexedOrFaulty : List ℕ → Type 0
IsLexedOrFaulty w = ((ts : List Token) × IsLexed w ts) ⊎ ((fault : LexFault) × (fault ≡ NoMemory → ⊥) × ExplainsLex w fault)

-- what each fault says of a text without limits: behind tokens and blanks stands a byte that begins no token
abbrev pub ExplainsLine : List ℕ → LexFault → Type 0
ExplainsLine w (Bad place) = (ts : List Token) × (end : List ℕ) × Cut 0 w ts place end × (0 < length end) × NoToken end
ExplainsLine w (TooManyTokens place) = ⊥
ExplainsLine w NoMemory = ⊤

-- a text without limits is tokens, or has a fault other than want of memory
abbrev pub IsLineOrFaulty : List ℕ → Type 0
IsLineOrFaulty w = ((ts : List Token) × AreTokens w ts) ⊎ ((fault : LexFault) × (fault ≡ NoMemory → ⊥) × ExplainsLine w fault)
