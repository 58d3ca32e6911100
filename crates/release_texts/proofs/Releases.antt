-- What the tokens of a release's text are.
use Rattle.std.proofs.Common.{◌≡◌, ℕ, suc, ◌^◌, ◌<◌, ◌≤◌, List, [], ◌∷◌, ◌++◌, refl, arith, sym, ap, ◌∙◌, subst, length, append-nil}
use Rattle.std.specs.Prelude.{ℤ, pos, negsuc}
use Rattle.std.proofs.lemmas.Int.{ints}
use Rattle.fz_ast.specs.Limits.{IsNumber}
use Rattle.fz_ast.specs.Terms.{Term, at, LetE, NumE}
use Rattle.fz_ast.specs.Bare.{bare, nowhere}
use Rattle.fz_lexer.specs.declared.token.Token.{Token}
use Rattle.fz_parser.specs.declared.grammar.Item.{Item}
use Rattle.fz_parser.specs.declared.grammar.Item.TheVariants.{Take, Read, Make}
use Rattle.fz_parser.specs.declared.grammar.Terminal.{Terminal}
use Rattle.fz_parser.specs.declared.grammar.Action.{Action}
use Rattle.fz_parser.specs.declared.grammar.Action.TheVariants.{LetTerm}
use Rattle.fz_parser.specs.declared.grammar.Phrase.{Phrase}
use Rattle.fz_parser.specs.declared.grammar.Phrase.TheVariants.{Expression}
use Rattle.fz_parser.specs.Table.{rules, rule_count}
use Rattle.fz_parser.specs.Parts.{StackPart, What, State, BegunPart, NamePart, NumberPart, PositivePart, TextPart, IntegerPart, FactorPart, TypePart, TermPart, sort_of, term, takes, arity, shift, build, in_term, part}
use Rattle.fz_parser.specs.Grammar.{Fits, head, body, empty, only, IsTerm}
use Rattle.fz_parser.specs.Reads.{Reads}
use Rattle.fz_parser.specs.Printer.{written_integer}
use Rattle.fz_parser.specs.Steps.{START, sorts, sorts_of}
use Rattle.fz_parser.proofs.Cutting.{join, one}
use Rattle.fz_parser.proofs.Machine.{reads_of, sound_start, term_goal}
use Rattle.fz_parser.proofs.Phrases.{gives_term}
use Rattle.fz_parser.proofs.Words.{one_left}
use Rattle.release_texts.proofs.Readings.{onto, reads_back, reads_onto}
use Rattle.release_texts.specs.Bared.{bare_tokens}
use Rattle.release_texts.specs.Releases.{OneAnswerMore, PlacesChangeNoTerm, let_in}

in_what : (w : What) → sort_of w ≡ 8 → (e : Term) × (w ≡ TermPart e)
in_what BegunPart h = absurd (omega (arith, h))
in_what (NamePart x) h = absurd (omega (arith, h))
in_what (NumberPart n) h = absurd (omega (arith, h))
in_what (PositivePart n) h = absurd (omega (arith, h))
in_what (TextPart s) h = absurd (omega (arith, h))
in_what (IntegerPart z) h = absurd (omega (arith, h))
in_what (FactorPart r) h = absurd (omega (arith, h))
in_what (TypePart u t) h = absurd (omega (arith, h))
in_what (TermPart e) h = (e, refl)

one_term : (p : StackPart) → sort_of p.what ≡ 8 → (e : Term) × (p.what ≡ TermPart e)
one_term p h = in_what p.what h

one_part : (ps : List StackPart) → sorts_of ps ≡ term ∷ [] → (from : ℕ) × (e : Term) × (ps ≡ (record { from = from; what = TermPart e }) ∷ [])
one_part [] h = absurd (cc h)
one_part (p ∷ []) h =
    let s : sort_of p.what ≡ 8 = cc h in
    let q = one_term p s in
    (p.from, q.0, ap (λ w. (record { from = p.from; what = w }) ∷ []) q.1)
one_part (p ∷ q ∷ ps) h = absurd (cc h)

one_state : (s : State) → sorts s ≡ term ∷ [] → (from : ℕ) × (e : Term) × (s ≡ only s.last from e)
one_state s h = let q = one_part s.parts h in (q.0, q.1, ap (λ ps. let r : State = record { last = s.last; parts = ps } in r) q.2)

-- what the start reads is a term
is_term : (ts : List Token) (r : State) → Reads (START Expression) ts empty r → (from : ℕ) × (e : Term) × (r ≡ only r.last from e) × IsTerm ts e
unfolding IsTerm
is_term ts r h =
    let q = one_state r (one_left h.0 (START Expression) ts empty r h.1 (sound_start term_goal).level ∙ ap (λ n. n ∷ []) gives_term) in
    let g : Reads (START Expression) ts empty (only r.last q.0 q.1) = subst (λ x. Reads (START Expression) ts empty x) q.2 h in
    (q.0, q.1, q.2, (r.last, q.0, (one (START Expression) ts empty _).0 g))

record Goes (σ : List Item) (w : List Token) (s r : State) : Type 0 where
  pub reads : Reads σ w s r

take_ : {k : Terminal} {σ : List Item} {t : Token} {w : List Token} {s r : State} → Fits k t.kind → Goes σ w (shift k t s) r → Goes (Take k ∷ σ) (t ∷ w) s r
take_ f h = record { reads = (suc h.reads.0, (f, h.reads.1)) }

make_ : {a : Action} {σ : List Item} {w : List Token} {s r : State} → Goes σ w (build a s) r → Goes (Make a ∷ σ) w s r
make_ h = record { reads = (suc h.reads.0, h.reads.1) }

rule_ : {a : Phrase} {σ : List Item} {w : List Token} {s r : State} → (p : ℕ) → p < rule_count → head p ≡ a → Goes (body p ++ σ) w s r → Goes (Read a ∷ σ) w s r
rule_ p l e h = record { reads = (suc h.reads.0, (p, l, e, h.reads.1)) }

abbrev on : List StackPart → State
on ps = record { last = nowhere; parts = ps }

abbrev term_part : Term → StackPart
term_part e = record { from = 0; what = TermPart e }

abbrev let_parts : List ℕ → ℤ → List StackPart
let_parts x v = term_part (at nowhere (NumE v)) ∷ record { from = 0; what = NamePart x } ∷ record { from = 0; what = BegunPart } ∷ []

abbrev whole_let : List ℕ → ℤ → Term → Term
whole_let x v e = at nowhere (LetE x (at nowhere (NumE v)) e)

within : (n : ℕ) → IsNumber (pos n) → n ≤ 2 ^ 50
within n h = omega (arith, ints, h.1)

below_zero : (n : ℕ) → IsNumber (negsuc n) → suc n ≤ 2 ^ 50
below_zero n h = omega (arith, ints, h.0)

-- a number stands for a term before `in`
number : (v : ℤ) → IsNumber v → (σ : List Item) (k : List Token) (ps : List StackPart) (r : State) → Goes σ k (on (term_part (at nowhere (NumE v)) ∷ ps)) r
    → Goes (Read Expression ∷ σ) (written_integer v k) (on ps) r
unfolding rules head body takes arity shift build
number (pos n) b σ k ps r h =
    rule_ 8 (omega arith) refl (rule_ 9 (omega arith) refl (rule_ 13 (omega arith) refl (rule_ 20 (omega arith) refl (take_ (within n b) (rule_ 22 (omega arith) refl (make_ (rule_ 40 (omega arith) refl (rule_ 16 (omega arith) refl (rule_ 12 (omega arith) refl h)))))))))
number (negsuc n) b σ k ps r h =
    rule_ 8 (omega arith) refl (rule_ 9 (omega arith) refl (rule_ 13 (omega arith) refl (rule_ 17 (omega arith) refl (take_ refl (make_ (take_ (below_zero n b) (rule_ 19 (omega arith) refl (make_ (rule_ 16 (omega arith) refl (rule_ 12 (omega arith) refl h))))))))))

-- the body, and the let around it
around : (x : List ℕ) (v : ℤ) (ts : List Token) (e : Term) → IsTerm ts e → Goes (Read Expression ∷ Make LetTerm ∷ []) (bare_tokens ts) (on (let_parts x v)) (on (term_part (whole_let x v (bare e)) ∷ []))
unfolding IsTerm takes arity build
around x v ts e h =
    let y = reads_of ts (TermPart e) h in
    let z = reads_onto y.2.0 (START Expression) ts empty (only y.0 y.1 e) (sound_start term_goal) y.2.1 (let_parts x v) in
    let j = join y.2.0 1 (START Expression) (Make LetTerm ∷ []) (bare_tokens ts) [] (on (let_parts x v)) (on (term_part (bare e) ∷ let_parts x v)) (on (term_part (whole_let x v (bare e)) ∷ [])) z refl in
    record { reads = subst (λ w. Reads (Read Expression ∷ Make LetTerm ∷ []) w (on (let_parts x v)) (on (term_part (whole_let x v (bare e)) ∷ []))) (append-nil (bare_tokens ts)) j }

lets : (x : List ℕ) (v : ℤ) (ts : List Token) (e : Term) → length x ≤ 32 → IsNumber v → IsTerm ts e → Goes (START Expression) (let_in x v (bare_tokens ts)) (on []) (on (term_part (whole_let x v (bare e)) ∷ []))
unfolding rules head body takes arity shift build
lets x v ts e l b h =
    rule_ 2 (omega arith) refl (take_ refl (make_ (rule_ 5 (omega arith) refl (take_ l (take_ refl (number v b _ _ _ _ (take_ refl (around x v ts e h))))))))

-- what is read without spans is a term with them
back : (ws : List Token) (e : Term) → Goes (START Expression) (bare_tokens ws) (on []) (on (term_part e ∷ [])) → (f : Term) × IsTerm ws f × (bare f ≡ e)
back ws e g =
    let y = reads_back g.reads.0 (START Expression) ws empty (on (term_part e ∷ [])) (sound_start term_goal) g.reads.1 in
    let w : Reads (START Expression) ws empty y.0 = (g.reads.0, y.1) in
    let q = is_term ws y.0 w in
    (q.1, q.3, ap (λ s. in_term (part 0 s).what) (ap (onto []) (sym q.2) ∙ y.2))

pub more : OneAnswerMore
more x v ts ws e l b h s = back ws (whole_let x v (bare e)) (subst (λ w. Goes (START Expression) w (on []) (on (term_part (whole_let x v (bare e)) ∷ []))) (sym s) (lets x v ts e l b h))

pub places : PlacesChangeNoTerm
unfolding IsTerm
places ts ws e h s =
    let y = reads_of ts (TermPart e) h in
    let z = reads_onto y.2.0 (START Expression) ts empty (only y.0 y.1 e) (sound_start term_goal) y.2.1 [] in
    back ws (bare e) (subst (λ w. Goes (START Expression) w (on []) (on (term_part (bare e) ∷ []))) (sym s) (record { reads = (y.2.0, z) }))
