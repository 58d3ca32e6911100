-- Texts cut at bytes, and why a piece is none.
use Rattle.std.proofs.Common.{◌≡◌, ℕ, zero, suc, ◌+◌, ◌<◌, ◌≤◌, Bool, true, false, not, eqb, List, [], ◌∷◌, ◌++◌, length, get_or, take, drop, refl, sym, ap, subst, ◌∙◌, arith, inl, inr}
use Rattle.std.specs.Prelude.{Result, Ok, Err, Option, Some, None, ◌==◌, IfErr, IfNone}
use Rattle.std.specs.Result.{IsErrAnd}
use Rattle.std.proofs.lemmas.Bool.{eqb-true, not-true, and_parts}
use Rattle.std.proofs.lemmas.List.{drop_more, get_or-take, length-take-le, take-append-drop}
use Rattle.memchr.specs.Find.{Nowhere, Passes, is_byte}
use Rattle.fz_frac.specs.Distance.{Distance}
use Rattle.fz_ast.specs.Terms.{Name}
use Rattle.fz_ast.specs.Types.{Ty}
use Rattle.fz_lexer.specs.Tokens.{IsToken, AreTokens, ExplainsLine}
use Rattle.fz_lexer.specs.declared.token.Token.{Token}
use Rattle.fz_lexer.specs.declared.token.Kind.{Kind}
use Rattle.fz_lexer.specs.declared.token.Kind.TheVariants.{Name as NameKind}
use Rattle.fz_lexer.specs.declared.token.LexFault.{LexFault}
use Rattle.fz_lexer.specs.declared.token.LexFault.TheVariants.{Bad, TooManyTokens, NoMemory as NoLexMemory}
use Rattle.fz_lexer.proofs.Cuts.{only, line_refused}
use Rattle.fz_parser.specs.Grammar.{IsTypeOf, IsSensitivityOf}
use Rattle.fz_parser.specs.Reading.{ExplainsType, ExplainsSensitivity}
use Rattle.fz_parser.specs.declared.fault.ParseFault.{ParseFault}
use Rattle.fz_parser.specs.declared.fault.ParseFault.TheVariants.{Stuck, TooNested, NoMemory as NoParseMemory}
use Rattle.derivation_lines.specs.Lines.{Said}
use Rattle.derivation_lines.specs.Texts.{bar, lacks, IsTypeText, ArePieces, IsLineText}
use Rattle.derivation_lines.specs.Pieces.{pieces_of, Explains, NoTypeText, NoSaidText, NoLineText, AreSaid, NoneSaid, of_lexer, of_parser}
use Rattle.derivation_lines.specs.declared.lines.TextFault.{TextFault}
use Rattle.derivation_lines.specs.declared.lines.TextFault.TheVariants.{Form, NoMemory}

-- what `memchr` finds: the text is cut at that place, and the byte stands nowhere before it; or it stands nowhere
lacks_each : (c : ℕ) (xs : List ℕ) → ((k : ℕ) → k < length xs → eqb (get_or xs k 0) c ≡ false) → lacks c xs ≡ true
lacks_each c [] h = refl
lacks_each c (x ∷ xs) h = rw (h zero (omega arith)) (lacks_each c xs (λ k l. h (suc k) (omega arith)))

off : (b : Bool) → (b ≡ true → ⊥) → b ≡ false
off true h = absurd (h refl)
off false h = refl

module _ (c : ℕ) (xs : List ℕ) where
  pub cut_here : (at : ℕ) → at < length xs → Passes (is_byte c) xs at → xs ≡ take at xs ++ c ∷ drop (at + 1) xs
  cut_here at within here =
      sym (take-append-drop at xs) ∙ ap (λ ys. take at xs ++ ys) (drop_more xs at 0 within ∙ ap (λ b. b ∷ drop (at + 1) xs) (eqb-true (get_or xs at 0) c here))

  pub lacks_before : (at : ℕ) → at ≤ length xs → Nowhere (Passes (is_byte c) xs) 0 at → lacks c (take at xs) ≡ true
  lacks_before at within nowhere = lacks_each c (take at xs) (λ k l.
      let low : k < at = omega (arith, l, length-take-le at xs within) in
      rw (get_or-take at xs k 0 low) (off (eqb (get_or xs k 0) c) (nowhere k (omega arith) low)))

  pub lacks_all : Nowhere (Passes (is_byte c) xs) 0 (length xs) → lacks c xs ≡ true
  lacks_all nowhere = lacks_each c xs (λ k l. off (eqb (get_or xs k 0) c) (nowhere k (omega arith) l))

pub passed_over : {X : Type 0} (P : Type 0) (o : Option X) → P → IfNone o P
passed_over P None h = h
passed_over P (Some x) h = tt

-- a text without a bar is one piece
pub pieces_one : (text : List ℕ) → lacks bar text ≡ true → pieces_of text ≡ text ∷ []
pieces_one [] h = refl
pieces_one (b ∷ text) h =
    let (here, there) = and_parts (not (b == bar)) (lacks bar text) h in
    rw (not-true (b == bar) here, pieces_one text there) refl

-- the first piece ends at the first bar
pub pieces_cut : (text piece rest : List ℕ) → lacks bar piece ≡ true → text ≡ piece ++ bar ∷ rest → pieces_of text ≡ piece ∷ pieces_of rest
pieces_cut text piece rest h e = ap pieces_of e ∙ go piece h
  where
    go : (piece : List ℕ) → lacks bar piece ≡ true → pieces_of (piece ++ bar ∷ rest) ≡ piece ∷ pieces_of rest
    go [] h = refl
    go (b ∷ piece) h =
        let (here, there) = and_parts (not (b == bar)) (lacks bar piece) h in
        rw (not-true (b == bar) here, go piece there) refl

-- Why a text is no type and says nothing of a name.
pub explains : (P : Type 0) (e : TextFault) → (e ≡ Form → P) → Explains P e
explains P Form h = h refl
explains P NoMemory h = tt

pub explained : (P : Type 0) (e : TextFault) → Explains P e → e ≡ Form → P
explained P Form h is = h
explained P NoMemory h is = absurd cc

-- what `?` passes on
pub passed : {T : Type 0} (P : Type 0) (r : Result T TextFault) (e : TextFault) → IsErrAnd r (λ f. f ≡ e) → (e ≡ Form → P) → IfErr r (Explains P)
passed P (Ok x) e is h = tt
passed P (Err f) e is h = explains P f (λ form. h (sym is ∙ form))

not_lexed : (text : List ℕ) (fault : LexFault) (ts : List Token) → ExplainsLine text fault → of_lexer fault ≡ Form → AreTokens text ts → ⊥
not_lexed text (Bad place) ts x form are = let e = line_refused text (Bad place) ts x are in absurd cc
not_lexed text (TooManyTokens place) ts x form are = x
not_lexed text NoLexMemory ts x form are = absurd cc

pub no_type_tokens : (text : List ℕ) (fault : LexFault) → ExplainsLine text fault → of_lexer fault ≡ Form → NoTypeText text
no_type_tokens text fault x form A is = not_lexed text fault is.0 x form is.1

pub no_said_tokens : (text : List ℕ) (fault : LexFault) → ExplainsLine text fault → of_lexer fault ≡ Form → NoSaidText text
no_said_tokens text fault x form s is = not_lexed text fault (is.0 ∷ is.1) x form is.2

not_type : (ts : List Token) (fault : ParseFault) (A : Ty) → ExplainsType ts fault → of_parser fault ≡ Form → IsTypeOf ts A → ⊥
not_type ts (Stuck place) A x form is = x.none A is
not_type ts (TooNested depth) A x form is = x
not_type ts NoParseMemory A x form is = absurd cc

pub no_type : (text : List ℕ) (ts : List Token) (fault : ParseFault) → AreTokens text ts → ExplainsType ts fault → of_parser fault ≡ Form → NoTypeText text
no_type text ts fault are x form A is = not_type ts fault A x form (subst (λ us. IsTypeOf us A) (only text ts is.0 are is.1) is.2)

not_sensitivity : (ts : List Token) (fault : ParseFault) (d : Distance) → ExplainsSensitivity ts fault → of_parser fault ≡ Form → IsSensitivityOf ts d → ⊥
not_sensitivity ts (Stuck place) d x form is = x.none d is
not_sensitivity ts (TooNested depth) d x form is = x
not_sensitivity ts NoParseMemory d x form is = absurd cc

pub no_sensitivity : (text : List ℕ) (t : Token) (ts : List Token) (fault : ParseFault) → AreTokens text (t ∷ ts) → ExplainsSensitivity ts fault → of_parser fault ≡ Form → NoSaidText text
no_sensitivity text t ts fault are x form s is =
    let same : is.0 ∷ is.1 ≡ t ∷ ts = only text (t ∷ ts) (is.0 ∷ is.1) are is.2 in
    let rest : is.1 ≡ ts = cc in
    not_sensitivity ts fault s.amount x form (subst (λ us. IsSensitivityOf us s.amount) rest is.4)

pub nothing_said : (text : List ℕ) → AreTokens text [] → NoSaidText text
nothing_said text are s is = let same : is.0 ∷ is.1 ≡ [] = only text [] (is.0 ∷ is.1) are is.2 in absurd cc

-- the first token is no name
pub no_name : (text : List ℕ) (t : Token) (ts : List Token) → AreTokens text (t ∷ ts) → ((x : Name) → t.kind ≡ NameKind x → ⊥) → NoSaidText text
no_name text t ts are other s is =
    let same : is.0 ∷ is.1 ≡ t ∷ ts = only text (t ∷ ts) (is.0 ∷ is.1) are is.2 in
    let first : is.0 ≡ t = cc in
    other s.name (ap (λ (u : Token). u.kind) (sym first) ∙ is.3)

-- a name has at most 32 bytes
short_kind : (text after : List ℕ) (k : Kind) (x : Name) → IsToken text after k → k ≡ NameKind x → length x ≤ 32
short_kind text after k x (inl is) e = elim is.is [
  | inl word ↦ let f = word.2 in absurd cc
  | inr name ↦ let f = name.1 in let same : text ≡ x = cc in let short = is.short in rw (← same) short
]
short_kind text after k x (inr (inl is)) e = let f = is.is in absurd cc
short_kind text after k x (inr (inr (inl is))) e = let f = is.is in absurd cc
short_kind text after k x (inr (inr (inr is))) e = let f = is.is in absurd cc

pub short_name : (text : List ℕ) (t : Token) (ts : List Token) (x : Name) → AreTokens text (t ∷ ts) → t.kind ≡ NameKind x → length x ≤ 32
short_name text t ts x are e = short_kind are.1 are.2 t.kind x are.5 e

-- A line by its first piece.
module _ (text p : List ℕ) (ps : List (List ℕ)) (cut : pieces_of text ≡ p ∷ ps) where
  pub no_line_type : NoTypeText p → NoLineText text
  no_line_type never l is = never l.ty (subst (λ qs. ArePieces qs l) cut is.pieces).0

  pub no_line_said : NoneSaid ps → NoLineText text
  no_line_said never l is = never l.says (record { are = (subst (λ qs. ArePieces qs l) cut is.pieces).1; order = is.order })

  pub is_line : (A : Ty) (says : List Said) → IsTypeText p A → AreSaid ps says → IsLineText text (record { ty = A; says = says })
  is_line A says is said = record { pieces = subst (λ qs. ArePieces qs (record { ty = A; says = says })) (sym cut) (is, said.are); order = said.order }
