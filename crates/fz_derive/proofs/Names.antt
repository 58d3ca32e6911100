-- The names of a term are those of its tokens: each that a part has was a token's, and each action's part has its own parts' names.
use Rattle.std.proofs.Common.{◌≡◌, ℕ, zero, suc, List, [], ◌∷◌, ◌++◌, true, inl, inr, refl, arith, subst, get_or, drop}
use Rattle.std.specs.Prelude.{⊤}
use Rattle.std.specs.List.{AllByRecursion}
use Rattle.std.proofs.lemmas.Bool.{and_parts}
use Rattle.fz_ast.specs.Terms.{Name, Term, at}
use Rattle.fz_ast.specs.declared.span.Span.{Span}
use Rattle.fz_ast.specs.declared.term.Arrow.TheVariants.{Fun, Fn}
use Rattle.fz_ast.specs.declared.term.Ranged.TheVariants.{Sum as SumRanged, Clip as ClipRanged}
use Rattle.fz_ast.specs.declared.term.Side.TheVariants.{Inl, Inr}
use Rattle.fz_ast.specs.declared.term.Unary.{Unary}
use Rattle.fz_ast.specs.declared.term.Unary.TheVariants.{Fst, Snd, Least, Greatest, Size}
use Rattle.fz_ast.specs.declared.term.Binary.{Binary}
use Rattle.fz_ast.specs.declared.term.Binary.TheVariants.{Pair, With, App, Plus, Minus, AtMost, Equal, Union, Map, Filter, Split}
use Rattle.fz_ast.specs.TermNodes.{unary, binary}
use Rattle.fz_lexer.specs.Tokens.{AreTokens, Cut, IsReservedOrName, IsToken}
use Rattle.fz_lexer.specs.declared.token.Token.{Token}
use Rattle.fz_lexer.specs.declared.token.Kind.{Kind}
use Rattle.fz_lexer.specs.declared.token.Kind.TheVariants.{Name as NameKind, Number, Text, Reserved, Punctuation}
use Rattle.fz_parser.specs.declared.grammar.Item.{Item}
use Rattle.fz_parser.specs.declared.grammar.Item.TheVariants.{Take, Read, Make}
use Rattle.fz_parser.specs.declared.grammar.Terminal.{Terminal}
use Rattle.fz_parser.specs.declared.grammar.Terminal.TheVariants.{Named, Numeral, Positive, Quoted, Keyword, Symbol}
use Rattle.fz_parser.specs.declared.grammar.Action.{Action}
use Rattle.fz_parser.specs.declared.grammar.Action.TheVariants.{Begin, LambdaTerm, LetBangTerm, LetPairTerm, LetTerm, CaseTerm, IfTerm, InfixTerm, NegativeTerm, NegativeTimesTerm, TimesTerm, NumberTerm, UnaryTerm, RangedTerm, InjectTerm, BangTerm, PrefixTerm, NameTerm, TextTerm, TruthTerm, UnitTerm, GroupTerm, PlainInteger, NegativeInteger, WholeFactor, FractionFactor, InfFactor, JoinType, ArrowType, BangType, BagType, NumType, TextType, UnitType, BoolType, GroupType}
use Rattle.fz_parser.specs.Parts.{What, BegunPart, NamePart, NumberPart, PositivePart, TextPart, IntegerPart, FactorPart, TypePart, TermPart, StackPart, State, sort_of, takes, made, build, shift, token_parts, nothing, part, in_name, in_term, arity, whole}
use Rattle.fz_parser.specs.declared.grammar.Phrase.{Phrase}
use Rattle.fz_parser.specs.declared.grammar.Phrase.TheVariants.{Expression}
use Rattle.fz_parser.specs.Grammar.{Fits, body, empty, alone, IsTerm}
use Rattle.fz_parser.specs.Reads.{ReadsIn}
use Rattle.fz_parser.specs.Tests.{begins_with}
use Rattle.fz_parser.specs.Steps.{sorts, Level, START}
use Rattle.fz_parser.specs.Kept.{sort_at}
use Rattle.fz_parser.proofs.Making.{ready_at}
use Rattle.fz_parser.proofs.Words.{level_rule, level_act, level_token}
use Rattle.fz_parser.proofs.Machine.{sound_start, reads_of, term_goal}
use Rattle.fz_derive.specs.Names.{EveryName, HasName}
use Rattle.derivation_lines.specs.Readable.{IsWord}

-- if the token is a name, that has the property
abbrev NamesWith : (Name → Type 0) → Token → Type 0
NamesWith P t = (x : Name) → t.kind ≡ NameKind x → P x

-- the names of a part
abbrev NamesIn : (Name → Type 0) → What → Type 0
NamesIn P (NamePart x) = P x
NamesIn P (TermPart e) = EveryName P e
NamesIn P BegunPart = ⊤
NamesIn P (NumberPart n) = ⊤
NamesIn P (PositivePart n) = ⊤
NamesIn P (TextPart x) = ⊤
NamesIn P (IntegerPart z) = ⊤
NamesIn P (FactorPart r) = ⊤
NamesIn P (TypePart u t) = ⊤

abbrev NamesOf : (Name → Type 0) → List StackPart → Type 0
NamesOf P [] = ⊤
NamesOf P (p ∷ ps) = NamesIn P p.what × NamesOf P ps

module _ (P : Name → Type 0) where
  part_names : (ps : List StackPart) (i : ℕ) → NamesOf P ps → NamesIn P (get_or ps i nothing).what
  part_names [] i h = tt
  part_names (p ∷ ps) zero h = h.0
  part_names (p ∷ ps) (suc i) h = part_names ps i h.1

  rest_names : (ps : List StackPart) (n : ℕ) → NamesOf P ps → NamesOf P (drop n ps)
  rest_names ps zero h = h
  rest_names [] (suc n) h = h
  rest_names (p ∷ ps) (suc n) h = rest_names ps n h.1

  name_in : (w : What) → sort_of w ≡ 1 → NamesIn P w → P (in_name w)
  name_in (NamePart x) s h = h
  name_in (TermPart e) s h = absurd (omega (arith, s))
  name_in BegunPart s h = absurd (omega (arith, s))
  name_in (NumberPart n) s h = absurd (omega (arith, s))
  name_in (PositivePart n) s h = absurd (omega (arith, s))
  name_in (TextPart x) s h = absurd (omega (arith, s))
  name_in (IntegerPart z) s h = absurd (omega (arith, s))
  name_in (FactorPart r) s h = absurd (omega (arith, s))
  name_in (TypePart u t) s h = absurd (omega (arith, s))

  term_in : (w : What) → NamesIn P w → EveryName P (in_term w)
  term_in (NamePart x) h = tt
  term_in (TermPart e) h = h
  term_in BegunPart h = tt
  term_in (NumberPart n) h = tt
  term_in (PositivePart n) h = tt
  term_in (TextPart x) h = tt
  term_in (IntegerPart z) h = tt
  term_in (FactorPart r) h = tt
  term_in (TypePart u t) h = tt

  unary_names : (o : Unary) (w : Span) (e : Term) → EveryName P e → EveryName P (at w (unary o e))
  unary_names Fst w e h = h
  unary_names Snd w e h = h
  unary_names Least w e h = h
  unary_names Greatest w e h = h
  unary_names Size w e h = h

  binary_names : (o : Binary) (w : Span) (a b : Term) → EveryName P a → EveryName P b → EveryName P (at w (binary o a b))
  binary_names Pair w a b h k = (h, k)
  binary_names With w a b h k = (h, k)
  binary_names App w a b h k = (h, k)
  binary_names Plus w a b h k = (h, k)
  binary_names Minus w a b h k = (h, k)
  binary_names AtMost w a b h k = (h, k)
  binary_names Equal w a b h k = (h, k)
  binary_names Union w a b h k = (h, k)
  binary_names Map w a b h k = (h, k)
  binary_names Filter w a b h k = (h, k)
  binary_names Split w a b h k = (h, k)

  made_names : (a : Action) (w : Span) (s : State) → begins_with (takes a) (sorts s) ≡ true → NamesOf P s.parts → NamesIn P (made a w s)
  unfolding takes
  made_names a w s b h = go a refl
    where
      x : (i : ℕ) → sort_at i s ≡ 1 → P (in_name (part i s).what)
      x i k = name_in (part i s).what k (part_names s.parts i h)

      e : (i : ℕ) → EveryName P (in_term (part i s).what)
      e i = term_in (part i s).what (part_names s.parts i h)

      go : (c : Action) → a ≡ c → NamesIn P (made c w s)
      go (LambdaTerm Fun) q = (x 2 (ready_at a (LambdaTerm Fun) s 2 1 q b refl (omega arith)), e 0)
      go (LambdaTerm Fn) q = (x 2 (ready_at a (LambdaTerm Fn) s 2 1 q b refl (omega arith)), e 0)
      go LetBangTerm q = (x 2 (ready_at a LetBangTerm s 2 1 q b refl (omega arith)), e 1, e 0)
      go LetPairTerm q =
          (x 3 (ready_at a LetPairTerm s 3 1 q b refl (omega arith)), x 2 (ready_at a LetPairTerm s 2 1 q b refl (omega arith)), e 1, e 0)
      go LetTerm q = (x 2 (ready_at a LetTerm s 2 1 q b refl (omega arith)), e 1, e 0)
      go CaseTerm q =
          (e 4, x 3 (ready_at a CaseTerm s 3 1 q b refl (omega arith)), e 2, x 1 (ready_at a CaseTerm s 1 1 q b refl (omega arith)), e 0)
      go IfTerm q = (e 2, e 1, e 0)
      go (InfixTerm o) q = binary_names o w _ _ (e 1) (e 0)
      go NegativeTimesTerm q = e 0
      go TimesTerm q = e 0
      go (UnaryTerm o) q = unary_names o w _ (e 0)
      go (RangedTerm SumRanged) q = e 0
      go (RangedTerm ClipRanged) q = e 0
      go (InjectTerm Inl) q = e 0
      go (InjectTerm Inr) q = e 0
      go BangTerm q = e 0
      go (PrefixTerm o) q = binary_names o w _ _ (e 1) (e 0)
      go NameTerm q = x 0 (ready_at a NameTerm s 0 1 q b refl (omega arith))
      go GroupTerm q = e 0
      go Begin q = tt
      go NegativeTerm q = tt
      go NumberTerm q = tt
      go TextTerm q = tt
      go (TruthTerm Inl) q = tt
      go (TruthTerm Inr) q = tt
      go UnitTerm q = tt
      go PlainInteger q = tt
      go NegativeInteger q = tt
      go WholeFactor q = tt
      go FractionFactor q = tt
      go InfFactor q = tt
      go (JoinType o) q = tt
      go ArrowType q = tt
      go BangType q = tt
      go BagType q = tt
      go NumType q = tt
      go TextType q = tt
      go UnitType q = tt
      go BoolType q = tt
      go GroupType q = tt

  build_names : (a : Action) (s : State) → begins_with (takes a) (sorts s) ≡ true → NamesOf P s.parts → NamesOf P (build a s).parts
  unfolding build
  build_names a s b h = (made_names a (whole a s) s b h, rest_names s.parts (arity a) h)

  shift_names : (k : Terminal) (t : Token) (s : State) → Fits k t.kind → NamesWith P t → NamesOf P s.parts → NamesOf P (shift k t s).parts
  unfolding shift
  shift_names k t s f n h = go k t.kind refl f
    where
      go : (k : Terminal) (kind : Kind) → t.kind ≡ kind → Fits k kind → NamesOf P (token_parts k (record { kind = kind; span = t.span }) ++ s.parts)
      go Named (NameKind x) e f = (n x e, h)
      go Named (Number m) e f = absurd f
      go Named (Text x) e f = absurd f
      go Named (Reserved v) e f = absurd f
      go Named (Punctuation c) e f = absurd f
      go Numeral kind e f = (tt, h)
      go Positive kind e f = (tt, h)
      go Quoted kind e f = (tt, h)
      go (Keyword v) kind e f = h
      go (Symbol c) kind e f = h

  read_names : {goal : Phrase} (n : ℕ) (σ : List Item) (w : List Token) (s r : State) → ReadsIn n σ w s r → Level goal σ (sorts s)
      → AllByRecursion (NamesWith P) w → NamesOf P s.parts → NamesOf P r.parts
  read_names zero [] [] s r h v a l = subst (λ x. NamesOf P x.parts) h l
  read_names zero [] (t ∷ w) s r h v a l = absurd h
  read_names zero (i ∷ σ) w s r h v a l = absurd h
  read_names (suc n) [] w s r h v a l = absurd h
  read_names (suc n) (Take k ∷ σ) [] s r h v a l = absurd h
  read_names (suc n) (Take k ∷ σ) (t ∷ w) s r h v a l =
      read_names n σ w (shift k t s) r h.1 (level_token k σ t s v) a.1 (shift_names k t s h.0 a.0 l)
  read_names (suc n) (Make c ∷ σ) w s r h v a l =
      read_names n σ w (build c s) r h (level_act c σ s v) a (build_names c s (and_parts (begins_with (takes c) (sorts s)) _ v.enough).0 l)
  read_names (suc n) (Read c ∷ σ) w s r h v a l = read_names n (body h.0 ++ σ) w s r h.3 (level_rule h.0 c σ (sorts s) h.1 h.2 v) a l

  pub term_names : (ts : List Token) (e : Term) → AllByRecursion (NamesWith P) ts → IsTerm ts e → EveryName P e
  unfolding IsTerm
  term_names ts e a h =
      let d = reads_of ts (TermPart e) h in
      (read_names d.2.0 (START Expression) ts empty (alone d.0 d.1 (TermPart e)) d.2.1 (sound_start term_goal).level a tt).0

-- each token's name is one of the tokens
named_more : (u : Token) (ts ws : List Token) → AllByRecursion (NamesWith (HasName ts)) ws → AllByRecursion (NamesWith (HasName (u ∷ ts))) ws
named_more u ts [] h = tt
named_more u ts (t ∷ ws) h = (λ x e. inr (h.0 x e), named_more u ts ws h.1)

all_named : (ts : List Token) → AllByRecursion (NamesWith (HasName ts)) ts
all_named [] = tt
all_named (t ∷ ts) = (λ x e. inl e, named_more t ts ts (all_named ts))

pub names_of_tokens : (ts : List Token) (e : Term) → IsTerm ts e → EveryName (HasName ts) e
names_of_tokens ts e h = term_names (HasName ts) ts e (all_named ts) h

-- a name's token is its bytes, which are a name by themselves too
token_word : (text after : List ℕ) (kind : Kind) → IsToken text after kind → (x : Name) → kind ≡ NameKind x → IsWord x
token_word text after kind (inl h) x e = go h.is
  where
    go : IsReservedOrName text kind → IsWord x
    go (inl r) = absurd (cc (r.2, e))
    go (inr r) =
        let same : text ≡ x = cc (r.1, e) in
        subst IsWord same (record { first = h.first; every = h.every; ends = refl; short = h.short; is = inr (r.0, refl) })
token_word text after kind (inr (inl h)) x e = absurd (cc (h.is, e))
token_word text after kind (inr (inr (inl h))) x e = absurd (cc (h.is, e))
token_word text after kind (inr (inr (inr h))) x e = absurd (cc (h.is, e))

token_words : (p q : ℕ) (w end : List ℕ) (ts : List Token) → Cut p w ts q end → AllByRecursion (NamesWith IsWord) ts
token_words p q w end [] h = tt
token_words p q w end (t ∷ ts) h = (token_word h.1 h.2 t.kind h.5, token_words t.span.to q h.2 end ts h.8)

pub words_are_read : (text : List ℕ) (ts : List Token) (e : Term) → AreTokens text ts → IsTerm ts e → EveryName IsWord e
words_are_read text ts e h k = term_names IsWord ts e (token_words 0 _ text [] ts h) k
