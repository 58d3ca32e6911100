-- What is written is read back.
use Rattle.std.proofs.Common.{◌≡◌, ℕ, List, [], ◌∷◌, ◌++◌, true, refl, ap, sym, ◌∙◌, append_assoc, append-nil, inl}
use Rattle.std.specs.Prelude.{◌==◌, not}
use Rattle.std.specs.List.{AllByRecursion, flat_map, slice_split}
use Rattle.std.proofs.lemmas.List.Splits.{slice_split_at, slice_split_none}
use Rattle.fz_ast.specs.Limits.{TypeLimits}
use Rattle.fz_ast.specs.Terms.{Name}
use Rattle.fz_lexer.specs.Bytes.{every_byte, is_name_byte, is_letter, is_digit}
use Rattle.fz_lexer.specs.Tokens.{AreTokens}
use Rattle.fz_lexer.specs.declared.token.Kind.TheVariants.{Name as NameKind}
use Rattle.fz_parser.proofs.Types.{written_sensitivities_read_back, written_types_read_back}
use Rattle.fz_parser.specs.Printer.{Tokens, factor_kinds, kinds_of, name_token, written_factor}
use Rattle.fz_lexer.specs.declared.token.Token.{Token}
use Rattle.fz_ast.specs.Types.{Ty}
use Rattle.derivation_lines.specs.Lines.{Said, Line}
use Rattle.derivation_lines.specs.Texts.{AreSaidTexts, IsLineText, IsSaidText, IsTypeText, bar, lacks, line_feed}
use Rattle.derivation_lines.specs.Written.{amount_text, derivation_text, said_text, type_text}
use Rattle.derivation_lines.specs.Readable.{IsReadable, IsSayable, IsWord, WrittenReadsBack}
use Rattle.derivation_lines.proofs.Fronts.{Front, amount, no_name, one, seq, space, looser, type_front, whole}
use Rattle.derivation_lines.proofs.Plain.{amount_plain, every_append, every_of, name_plain, no_bar, plain, type_plain, no_line_feed}

-- a name's token
named : (x : Name) → IsWord x → Front x (λ m. name_token x ∷ m) no_name
named x n = one x (NameKind x) no_name (λ after w. inl (record { first = n.first; every = n.every; ends = w; short = n.short; is = n.is }))

-- what stands behind a bar, up to the next one
abbrev behind : Said → List ℕ
behind s = 32 ∷ (s.name ++ (32 ∷ amount_text s.amount))

behind_front : (s : Said) → IsSayable s → Front (behind s) (λ m. name_token s.name ∷ written_factor s.amount m) no_name
unfolding is_name_byte is_letter is_digit
behind_front s h = seq space (seq (named s.name h.name) (seq space (amount s.amount h.amount) (λ after w. refl)) (λ after w. refl)) (λ after w. refl)

behind_plain : (s : Said) → IsSayable s → every_byte plain (behind s) ≡ true
behind_plain s h = every_append plain s.name (32 ∷ amount_text s.amount) (every_of is_name_byte plain name_plain s.name h.name.every) (amount_plain s.amount h.amount)

-- a piece, perhaps with a space behind it
data Piece : List ℕ → List ℕ → Type 0 where
  last : {text : List ℕ} → Piece text text
  inner : {text : List ℕ} → Piece text (text ++ (32 ∷ []))

-- the bytes up to a bar, and what is said behind it
record Pieces (front : List ℕ) (ss : List Said) : Type 0 where
  pub text : List ℕ
  pub texts : List (List ℕ)
  pub cut : slice_split (λ b. b == bar) (front ++ flat_map said_text ss) ≡ text ∷ texts
  pub piece : Piece front text
  pub said : AreSaidTexts texts ss

spaced : {a : List ℕ} {ks : Tokens} → Front a ks no_name → Front (a ++ (32 ∷ [])) ks no_name
unfolding is_name_byte is_letter is_digit
spaced x = looser (seq x space (λ after w. refl)) (λ after w. refl)

said_of : (s : Said) → IsSayable s → (text : List ℕ) → (ts : List Token) → AreTokens text ts → kinds_of ts ≡ NameKind s.name ∷ factor_kinds s.amount → IsSaidText text s
said_of s h text [] a k = absurd (cc k)
said_of s h text (t ∷ ts) a k = (t, ts, a, cc k, written_sensitivities_read_back ts s.amount h.amount (cc k))

said_piece : (s : Said) → IsSayable s → (text : List ℕ) → Piece (behind s) text → IsSaidText text s
said_piece s h _ last = let w = whole (behind_front s h) in said_of s h (behind s) w.0 w.1 w.2
said_piece s h _ inner = let w = whole (spaced (behind_front s h)) in said_of s h (behind s ++ (32 ∷ [])) w.0 w.1 w.2

pieces : (ss : List Said) → AllByRecursion IsSayable ss → (front : List ℕ) → every_byte plain front ≡ true → Pieces front ss
pieces [] h front n =
    record { text = front; texts = []; cut = rw (append-nil front) (slice_split_none (λ b. b == bar) front (no_bar front n)); piece = last; said = tt }
pieces (s ∷ ss) h front n =
    let more = pieces ss h.1 (behind s) (behind_plain s h.0) in
    record {
      text = front ++ (32 ∷ []);
      texts = more.text ∷ more.texts;
      cut =
          let rest : List ℕ = behind s ++ flat_map said_text ss in
          ap (λ w. slice_split (λ b. b == bar) w) (sym (append_assoc front (32 ∷ []) (124 ∷ rest)))
          ∙ slice_split_at (λ b. b == bar) (front ++ (32 ∷ [])) 124 rest (no_bar (front ++ (32 ∷ [])) (every_append plain front (32 ∷ []) n refl)) refl
          ∙ ap (λ z. (front ++ (32 ∷ [])) ∷ z) more.cut;
      piece = inner;
      said = (said_piece s h.0 more.text more.piece, more.said);
    }

type_piece : (A : Ty) → TypeLimits A → (text : List ℕ) → Piece (type_text A) text → IsTypeText text A
type_piece A l _ last = let w = whole (type_front A l) in (w.0, w.1, written_types_read_back w.0 A l w.2)
type_piece A l _ inner = let w = whole (spaced (type_front A l)) in (w.0, w.1, written_types_read_back w.0 A l w.2)

-- a line, without its LF
abbrev body : Line → List ℕ
body l = type_text l.ty ++ flat_map said_text l.says

line_read : (l : Line) → IsReadable l → IsLineText (body l) l
line_read l h =
    let p = pieces l.says h.each (type_text l.ty) (type_plain l.ty h.limits) in
    record { pieces = rw p.cut (type_piece l.ty h.limits p.text p.piece, p.said); order = h.order }

says_lack : (ss : List Said) → AllByRecursion IsSayable ss → lacks line_feed (flat_map said_text ss) ≡ true
says_lack [] h = refl
says_lack (s ∷ ss) h = every_append (λ b. not (b == line_feed)) (said_text s) (flat_map said_text ss) (no_line_feed (behind s) (behind_plain s h.0)) (says_lack ss h.1)

body_lacks : (l : Line) → IsReadable l → lacks line_feed (body l) ≡ true
body_lacks l h = every_append (λ b. not (b == line_feed)) (type_text l.ty) (flat_map said_text l.says) (no_line_feed (type_text l.ty) (type_plain l.ty h.limits)) (says_lack l.says h.each)

pub read_back : WrittenReadsBack
read_back [] h = refl
read_back (l ∷ lines) h =
    let t = type_text l.ty in let s = flat_map said_text l.says in let more = derivation_text lines in
    let e : (t ++ (s ++ (line_feed ∷ []))) ++ more ≡ (t ++ s) ++ line_feed ∷ more = simp append_assoc in
    (body l, more, e, body_lacks l h.0, line_read l h.0, read_back lines h.1)
