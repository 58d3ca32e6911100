-- What the reader of one token answers.
use Rattle.std.specs.Prelude.{◌≡◌, ℕ, ◌+◌, ◌<◌, List, ◌++◌, length, Option, Some, None}
use Rattle.fz_lexer.specs.declared.prefix.TokenPrefix.{TokenPrefix}
use Rattle.fz_lexer.specs.declared.token.Token.{Token}
use Rattle.fz_lexer.specs.Tokens.{IsToken, NoToken}

-- the token that begins these bytes, by its kind and its length
abbrev pub IsTokenPrefix : List ℕ → Option TokenPrefix → Type 0
IsTokenPrefix w None = NoToken w
IsTokenPrefix w (Some found) =
    (text : List ℕ) × (after : List ℕ) × (w ≡ text ++ after) × (found.len ≡ length text) × (0 < length text) × IsToken text after found.kind

-- and with its span, where the bytes begin at a place
abbrev pub token_at : ℕ → TokenPrefix → Token
token_at place found = record { kind = found.kind; span = record { from = place; to = place + found.len } }
