-- A release's text is judged as its widest text is.
use Rattle.std.proofs.Common.{◌≡◌, ℕ, List, [], ◌∷◌, refl, ap, arith, sym, ◌∙◌}
use Rattle.std.specs.Prelude.{ℤ, pos, negsuc}
use Rattle.fz_ast.specs.Bare.{bare, nowhere}
use Rattle.fz_ast.specs.Depth.{depth}
use Rattle.fz_ast.specs.Limits.{TermLimits}
use Rattle.fz_ast.specs.Terms.{Term, at, LetE, NumE}
use Rattle.fz_lexer.specs.declared.token.Token.{Token}
use Rattle.fz_parser.specs.Grammar.{IsTerm}
use Rattle.fz_parser.proofs.Limits.{term_limits}
use Rattle.metric_values.specs.Numbers.{clamp}
use Rattle.release_laws.proofs.Outlines.{depth_kept, of_bare}
use Rattle.release_laws.proofs.Programs.{plans, sensitivities, walks}
use Rattle.release_laws.specs.Outline.{outline}
use Rattle.release_laws.specs.Texts.{TextsAreJudgedAsTheWidest}
use Rattle.release_texts.proofs.Releases.{more, places}
use Rattle.release_texts.proofs.Texts.{clamped, least_named, more_tokens, no_longer, texts, widest_tokens}
use Rattle.release_texts.specs.Bared.{bare_tokens}
use Rattle.release_texts.specs.Releases.{let_in}
use Rattle.release_texts.specs.Texts.{AreNamed, Earlier, least_answers, lets}

bare_twice : (ts : List Token) → bare_tokens (bare_tokens ts) ≡ bare_tokens ts
bare_twice [] = refl
bare_twice (t ∷ ts) = ap (λ us. record { kind = t.kind; span = nowhere } ∷ us) (bare_twice ts)

bare_let : (x : List ℕ) (v : ℤ) (k : List Token) → bare_tokens (let_in x v k) ≡ let_in x v (bare_tokens k)
bare_let x (pos n) k = refl
bare_let x (negsuc n) k = refl

bare_lets : (earlier : List Earlier) (k : List Token) → bare_tokens k ≡ k → bare_tokens (lets earlier k) ≡ lets earlier k
bare_lets [] k h = h
bare_lets (a ∷ earlier) k h = bare_let a.name (clamp a.answer) (lets earlier k) ∙ ap (let_in a.name (clamp a.answer)) (bare_lets earlier k h)

abbrev with_lets : List Earlier → Term → Term
with_lets [] e = e
with_lets (a ∷ earlier) e = at nowhere (LetE a.name (at nowhere (NumE (clamp a.answer))) (with_lets earlier e))

reads : (earlier : List Earlier) (release : List Token) (e : Term) (text : List Token) → AreNamed earlier → IsTerm release e
    → bare_tokens text ≡ lets earlier (bare_tokens release) → (f : Term) × IsTerm text f × (bare f ≡ with_lets earlier (bare e))
reads [] release e text n h s = places release text e h s
reads (a ∷ earlier) release e text n h s =
    let k : List Token = lets earlier (bare_tokens release) in
    let b : bare_tokens k ≡ k = bare_lets earlier (bare_tokens release) (bare_twice release) in
    let i = reads earlier release e k n.1 h b in
    let m = more a.name (clamp a.answer) k text i.0 n.0.short (clamped a.answer) i.1 (s ∙ ap (let_in a.name (clamp a.answer)) (sym b)) in
    (m.0, m.1, m.2 ∙ ap (λ t. at nowhere (LetE a.name (at nowhere (NumE (clamp a.answer))) t)) i.2)

same_outline : (earlier : List Earlier) (e : Term) → outline (with_lets earlier e) ≡ outline (with_lets (least_answers earlier) e)
same_outline [] e = refl
same_outline (a ∷ earlier) e = ap (λ t. at nowhere (LetE a.name (at nowhere (NumE (pos 0))) t)) (same_outline earlier e)

pub as_the_widest : TextsAreJudgedAsTheWidest
as_the_widest tables earlier own us ws e n h t l =
    let made = texts earlier own us n h in
    let x = reads earlier us e made.0 n t made.2 in
    let y = reads (least_answers earlier) us e ws (least_named earlier n) t (widest_tokens earlier own us ws n h l.tokens) in
    let o : outline x.0 ≡ outline y.0 = sym (of_bare x.0) ∙ ap outline x.2 ∙ same_outline earlier (bare e) ∙ ap outline (sym y.2) ∙ of_bare y.0 in
    let lx : TermLimits x.0 = term_limits made.0 x.0 x.1 in
    let ly : TermLimits y.0 = term_limits ws y.0 y.1 in
    let bytes = no_longer earlier own in
    let count = more_tokens earlier own us made.0 ws n h made.1 l.tokens in
    let most_b = l.bytes in
    let most_t = l.count in (
      made.0,
      record { tokens = made.1; bytes = omega (arith, bytes, most_b); count = omega (arith, count, most_t) },
      x.0,
      y.0,
      x.1,
      y.1,
      record {
        nesting = sym (depth_kept x.0) ∙ ap depth o ∙ depth_kept y.0;
        accepted = λ D r k. sensitivities tables y.0 x.0 D r ly lx (sym o) k;
        planned = λ q k p. plans tables y.0 x.0 q k (sym o) p;
        walks = walks tables y.0 x.0 (sym o);
      },
    )
