-- A table's name is one token, which programs may write.
use Rattle.std.proofs.Common.{◌≡◌, ℕ, List, [], ◌&&◌, ◌∙◌, not, nat_le, length, true, refl, ap, sym, inr, true≢false}
use Rattle.std.proofs.lemmas.Bool.{leb-true}
use Rattle.fz_lexer.specs.Bytes.{begins, every_byte, is_letter, is_name_byte}
use Rattle.fz_lexer.specs.Words.{spelling}
use Rattle.fz_lexer.specs.Tokens.{IsNameToken}
use Rattle.fz_lexer.specs.declared.token.Kind.TheVariants.{Name}
use Rattle.fz_lexer.specs.declared.token.Word.{Word}
use Rattle.fz_lexer.specs.declared.token.Word.TheVariants.{Fun, Fn, Let, In, Case, Of, Inl, Inr, If, Then, Else, Fst, Snd, True, False, Num, Text as TextWord, Unit as UnitWord, Bool as BoolWord, Bag, Inf, Size, Sum, Clip, Least, Greatest, Map, Filter, Split, Union, Do, Release, At}
use Rattle.owner_catalog.specs.Forms.{is_catalog_name, is_reserved, is_table_name}
use Rattle.owner_catalog.proofs.Laws.{both_true}

each_word_is_reserved : (word : Word) → is_reserved (spelling word) ≡ true
unfolding is_reserved spelling
each_word_is_reserved Fun = refl
each_word_is_reserved Fn = refl
each_word_is_reserved Let = refl
each_word_is_reserved In = refl
each_word_is_reserved Case = refl
each_word_is_reserved Of = refl
each_word_is_reserved Inl = refl
each_word_is_reserved Inr = refl
each_word_is_reserved If = refl
each_word_is_reserved Then = refl
each_word_is_reserved Else = refl
each_word_is_reserved Fst = refl
each_word_is_reserved Snd = refl
each_word_is_reserved True = refl
each_word_is_reserved False = refl
each_word_is_reserved Num = refl
each_word_is_reserved TextWord = refl
each_word_is_reserved UnitWord = refl
each_word_is_reserved BoolWord = refl
each_word_is_reserved Bag = refl
each_word_is_reserved Inf = refl
each_word_is_reserved Size = refl
each_word_is_reserved Sum = refl
each_word_is_reserved Clip = refl
each_word_is_reserved Least = refl
each_word_is_reserved Greatest = refl
each_word_is_reserved Map = refl
each_word_is_reserved Filter = refl
each_word_is_reserved Split = refl
each_word_is_reserved Union = refl
each_word_is_reserved Do = refl
each_word_is_reserved Release = refl
each_word_is_reserved At = refl

-- so a table's name is one name token, which programs may write
reserved_by : (text : List ℕ) (word : Word) → text ≡ spelling word → is_reserved text ≡ true
reserved_by text word is = ap is_reserved is ∙ each_word_is_reserved word

not_reserved : (text : List ℕ) → not (is_reserved text) ≡ true → is_reserved text ≡ true → ⊥
not_reserved text free reserved = true≢false (sym free ∙ ap not reserved)

pub a_table_s_name_is_a_token : (text : List ℕ) → is_table_name text ≡ true → IsNameToken text [] (Name text)
unfolding is_table_name is_catalog_name
a_table_s_name_is_a_token text h =
    let whole = both_true (is_catalog_name text) (not (is_reserved text)) h in
    let short = both_true (begins is_letter text && every_byte is_name_byte text) (nat_le (length text) 32) whole.0 in
    let bytes = both_true (begins is_letter text) (every_byte is_name_byte text) short.0 in
    record {
      first = bytes.0;
      every = bytes.1;
      ends = refl;
      short = leb-true _ _ short.1;
      is = inr (λ word is. not_reserved text whole.1 (reserved_by text word is), refl);
    }
