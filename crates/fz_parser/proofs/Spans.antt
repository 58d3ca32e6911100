-- Where tokens stand changes no type and no sensitivity: the same kinds are read as the same.
use Rattle.std.proofs.Common.{◌≡◌, ℕ, zero, suc, List, [], ◌∷◌, ◌++◌, refl, sym, ap, ◌∙◌, subst, get_or, drop}
use Rattle.std.specs.Prelude.{⊤}
use Rattle.fz_frac.specs.Distance.{Distance, Fin}
use Rattle.fz_ast.specs.declared.span.Span.{Span}
use Rattle.fz_ast.specs.Types.{Ty, BagT}
use Rattle.fz_lexer.specs.declared.token.Token.{Token}
use Rattle.fz_lexer.specs.declared.token.Kind.{Kind}
use Rattle.fz_parser.specs.declared.grammar.Item.{Item}
use Rattle.fz_parser.specs.declared.grammar.Item.TheVariants.{Take, Read, Make}
use Rattle.fz_parser.specs.declared.grammar.Terminal.{Terminal}
use Rattle.fz_parser.specs.declared.grammar.Terminal.TheVariants.{Named, Numeral, Positive, Quoted, Keyword, Symbol}
use Rattle.fz_parser.specs.declared.grammar.Phrase.{Phrase}
use Rattle.fz_parser.specs.declared.grammar.Phrase.TheVariants.{Sensitivity, AnyType}
use Rattle.fz_parser.specs.declared.grammar.Joint.TheVariants.{Lollipop, Sum, Tensor, With}
use Rattle.fz_parser.specs.declared.grammar.Action.{Action}
use Rattle.fz_parser.specs.declared.grammar.Action.TheVariants.{Begin, LambdaTerm, LetBangTerm, LetPairTerm, LetTerm, CaseTerm, IfTerm, InfixTerm, NegativeTerm, NegativeTimesTerm, TimesTerm, NumberTerm, UnaryTerm, RangedTerm, InjectTerm, BangTerm, PrefixTerm, NameTerm, TextTerm, TruthTerm, UnitTerm, GroupTerm, PlainInteger, NegativeInteger, WholeFactor, FractionFactor, InfFactor, JoinType, ArrowType, BangType, BagType, NumType, TextType, UnitType, BoolType, GroupType}
use Rattle.fz_parser.specs.Parts.{StackPart, What, FactorPart, TypePart, State, sort_of, in_positive, in_factor, in_type, nothing, token_parts, kind_number, takes, arity, whole, made, shift, build}
use Rattle.fz_parser.specs.Grammar.{Fits, body, empty, alone, IsPhrase, IsTypeOf, IsSensitivityOf}
use Rattle.fz_parser.specs.Reads.{ReadsIn, Reads}
use Rattle.fz_parser.specs.Steps.{START}
use Rattle.fz_parser.specs.Printer.{kinds_of}
use Rattle.fz_parser.proofs.Cutting.{one}
use Rattle.fz_parser.proofs.Machine.{reads_of}
use Rattle.fz_parser.proofs.Phrases.{type_what, factor_what}

-- parts of one sort, that hold the same type, sensitivity and number for one
abbrev Alike : What → What → Type 0
Alike x y = (sort_of x ≡ sort_of y) × (in_positive x ≡ in_positive y) × (in_factor x ≡ in_factor y) × (in_type x ≡ in_type y)

abbrev AllAlike : List StackPart → List StackPart → Type 0
AllAlike [] [] = ⊤
AllAlike [] (q ∷ qs) = ⊥
AllAlike (p ∷ ps) [] = ⊥
AllAlike (p ∷ ps) (q ∷ qs) = Alike p.what q.what × AllAlike ps qs

part_alike : (ps qs : List StackPart) (i : ℕ) → AllAlike ps qs → Alike (get_or ps i nothing).what (get_or qs i nothing).what
part_alike [] [] i h = (refl, refl, refl, refl)
part_alike [] (q ∷ qs) i h = absurd h
part_alike (p ∷ ps) [] i h = absurd h
part_alike (p ∷ ps) (q ∷ qs) zero h = h.0
part_alike (p ∷ ps) (q ∷ qs) (suc i) h = part_alike ps qs i h.1

rest_alike : (n : ℕ) (ps qs : List StackPart) → AllAlike ps qs → AllAlike (drop n ps) (drop n qs)
rest_alike zero ps qs h = h
rest_alike (suc n) [] [] h = h
rest_alike (suc n) [] (q ∷ qs) h = absurd h
rest_alike (suc n) (p ∷ ps) [] h = absurd h
rest_alike (suc n) (p ∷ ps) (q ∷ qs) h = rest_alike n ps qs h.1

made_alike : (a : Action) (w v : Span) (s u : State) → AllAlike s.parts u.parts → Alike (made a w s) (made a v u)
made_alike Begin w v s u h = (refl, refl, refl, refl)
made_alike (LambdaTerm o) w v s u h = (refl, refl, refl, refl)
made_alike LetBangTerm w v s u h = (refl, refl, refl, refl)
made_alike LetPairTerm w v s u h = (refl, refl, refl, refl)
made_alike LetTerm w v s u h = (refl, refl, refl, refl)
made_alike CaseTerm w v s u h = (refl, refl, refl, refl)
made_alike IfTerm w v s u h = (refl, refl, refl, refl)
made_alike (InfixTerm o) w v s u h = (refl, refl, refl, refl)
made_alike NegativeTerm w v s u h = (refl, refl, refl, refl)
made_alike NegativeTimesTerm w v s u h = (refl, refl, refl, refl)
made_alike TimesTerm w v s u h = (refl, refl, refl, refl)
made_alike NumberTerm w v s u h = (refl, refl, refl, refl)
made_alike (UnaryTerm o) w v s u h = (refl, refl, refl, refl)
made_alike (RangedTerm o) w v s u h = (refl, refl, refl, refl)
made_alike (InjectTerm o) w v s u h = (refl, refl, refl, refl)
made_alike BangTerm w v s u h = (refl, refl, refl, refl)
made_alike (PrefixTerm o) w v s u h = (refl, refl, refl, refl)
made_alike NameTerm w v s u h = (refl, refl, refl, refl)
made_alike TextTerm w v s u h = (refl, refl, refl, refl)
made_alike (TruthTerm o) w v s u h = (refl, refl, refl, refl)
made_alike UnitTerm w v s u h = (refl, refl, refl, refl)
made_alike GroupTerm w v s u h = (refl, refl, refl, refl)
made_alike PlainInteger w v s u h = (refl, refl, refl, refl)
made_alike NegativeInteger w v s u h = (refl, refl, refl, refl)
made_alike WholeFactor w v s u h = (refl, refl, ap (λ p. Fin p 1) (part_alike s.parts u.parts 0 h).1, refl)
made_alike FractionFactor w v s u h = (refl, refl, cc ((part_alike s.parts u.parts 1 h).1, (part_alike s.parts u.parts 0 h).1), refl)
made_alike InfFactor w v s u h = (refl, refl, refl, refl)
made_alike (JoinType Lollipop) w v s u h = (refl, refl, refl, cc ((part_alike s.parts u.parts 1 h).3, (part_alike s.parts u.parts 0 h).3))
made_alike (JoinType Sum) w v s u h = (refl, refl, refl, cc ((part_alike s.parts u.parts 1 h).3, (part_alike s.parts u.parts 0 h).3))
made_alike (JoinType Tensor) w v s u h = (refl, refl, refl, cc ((part_alike s.parts u.parts 1 h).3, (part_alike s.parts u.parts 0 h).3))
made_alike (JoinType With) w v s u h = (refl, refl, refl, cc ((part_alike s.parts u.parts 1 h).3, (part_alike s.parts u.parts 0 h).3))
made_alike ArrowType w v s u h = (refl, refl, refl, cc ((part_alike s.parts u.parts 1 h).3, (part_alike s.parts u.parts 0 h).3))
made_alike BangType w v s u h = (refl, refl, refl, cc ((part_alike s.parts u.parts 1 h).2, (part_alike s.parts u.parts 0 h).3))
made_alike BagType w v s u h = (refl, refl, refl, ap BagT (part_alike s.parts u.parts 0 h).3)
made_alike NumType w v s u h = (refl, refl, refl, refl)
made_alike TextType w v s u h = (refl, refl, refl, refl)
made_alike UnitType w v s u h = (refl, refl, refl, refl)
made_alike BoolType w v s u h = (refl, refl, refl, refl)
made_alike GroupType w v s u h = (refl, refl, refl, (part_alike s.parts u.parts 0 h).3)

build_alike : (a : Action) (s u : State) → AllAlike s.parts u.parts → AllAlike (build a s).parts (build a u).parts
unfolding build
build_alike a s u h = (made_alike a (whole a s) (whole a u) s u h, rest_alike (arity a) s.parts u.parts h)

shift_alike : (k : Terminal) (t v : Token) (s u : State) → t.kind ≡ v.kind → AllAlike s.parts u.parts → AllAlike (shift k t s).parts (shift k v u).parts
unfolding shift
shift_alike Named t v s u e h = ((refl, refl, refl, refl), h)
shift_alike Numeral t v s u e h = ((refl, refl, refl, refl), h)
shift_alike Positive t v s u e h = ((refl, ap kind_number e, refl, refl), h)
shift_alike Quoted t v s u e h = ((refl, refl, refl, refl), h)
shift_alike (Keyword w) t v s u e h = h
shift_alike (Symbol c) t v s u e h = h

moved : (n : ℕ) (σ : List Item) (w v : List Token) (s u r : State) → ReadsIn n σ w s r → kinds_of w ≡ kinds_of v → AllAlike s.parts u.parts →
    (q : State) × ReadsIn n σ v u q × AllAlike r.parts q.parts
moved zero [] [] [] s u r h e a = (u, refl, subst (λ x. AllAlike x.parts u.parts) h a)
moved zero [] [] (y ∷ v) s u r h e a = absurd (cc e)
moved zero [] (x ∷ w) v s u r h e a = absurd h
moved zero (i ∷ σ) w v s u r h e a = absurd h
moved (suc n) [] w v s u r h e a = absurd h
moved (suc n) (Take k ∷ σ) [] v s u r h e a = absurd h
moved (suc n) (Take k ∷ σ) (x ∷ w) [] s u r h e a = absurd (cc e)
moved (suc n) (Take k ∷ σ) (x ∷ w) (y ∷ v) s u r h e a =
    let same : x.kind ≡ y.kind = cc e in
    let rest : kinds_of w ≡ kinds_of v = cc e in
    let m = moved n σ w v (shift k x s) (shift k y u) r h.1 rest (shift_alike k x y s u same a) in
    (m.0, (subst (Fits k) same h.0, m.1), m.2)
moved (suc n) (Make c ∷ σ) w v s u r h e a = moved n σ w v (build c s) (build c u) r h e (build_alike c s u a)
moved (suc n) (Read b ∷ σ) w v s u r h e a =
    let m = moved n (body h.0 ++ σ) w v s u r h.3 e a in
    (m.0, (h.0, h.1, h.2, m.1), m.2)

one_alike : (p : StackPart) (qs : List StackPart) → AllAlike (p ∷ []) qs → (q : StackPart) × (qs ≡ q ∷ []) × Alike p.what q.what
one_alike p [] h = absurd h
one_alike p (q ∷ []) h = (q, refl, h.0)
one_alike p (q ∷ r ∷ qs) h = absurd h.1

moved_phrase : (goal : Phrase) (ts us : List Token) (x : What) → kinds_of ts ≡ kinds_of us → IsPhrase goal ts x → (y : What) × IsPhrase goal us y × Alike x y
moved_phrase goal ts us x e h =
    let d = reads_of ts x h in
    let m = moved d.2.0 (START goal) ts us empty empty (alone d.0 d.1 x) d.2.1 e tt in
    let p : StackPart = record { from = d.1; what = x } in
    let o = one_alike p m.0.parts m.2 in
    let z : m.0 ≡ alone m.0.last o.0.from o.0.what = ap (λ ps. let q : State = record { last = m.0.last; parts = ps } in q) o.1 in
    let g : Reads (START goal) us empty (alone m.0.last o.0.from o.0.what) = subst (λ q. Reads (START goal) us empty q) z (d.2.0, m.1) in
    (o.0.what, (m.0.last, o.0.from, (one (START goal) us empty _).0 g), o.2)

pub moved_type : (ts us : List Token) (T : Ty) → kinds_of ts ≡ kinds_of us → IsTypeOf ts T → IsTypeOf us T
unfolding IsTypeOf
moved_type ts us T e h =
    let m = moved_phrase AnyType ts us (TypePart h.0 T) e h.1 in
    let q = type_what m.0 (sym m.2.0) in
    let same : q.0 ≡ T = ap in_type (sym q.2) ∙ sym m.2.3 in
    (q.1, subst (λ A. IsPhrase AnyType us (TypePart q.1 A)) same (subst (IsPhrase AnyType us) q.2 m.1))

pub moved_sensitivity : (ts us : List Token) (d : Distance) → kinds_of ts ≡ kinds_of us → IsSensitivityOf ts d → IsSensitivityOf us d
unfolding IsSensitivityOf
moved_sensitivity ts us d e h =
    let m = moved_phrase Sensitivity ts us (FactorPart d) e h in
    let q = factor_what m.0 (sym m.2.0) in
    let same : q.0 ≡ d = ap in_factor (sym q.1) ∙ sym m.2.2 in
    subst (λ r. IsPhrase Sensitivity us (FactorPart r)) same (subst (IsPhrase Sensitivity us) q.1 m.1)
