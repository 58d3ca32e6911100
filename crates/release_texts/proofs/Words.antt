-- No rule takes `do`, `release` or `at`.
use Rattle.std.proofs.Common.{◌≡◌, ℕ, zero, suc, ◌<◌, List, [], ◌∷◌, ◌++◌, Bool, true, refl, subst}
use Rattle.std.specs.Prelude.{◌&&◌}
use Rattle.std.proofs.lemmas.Bool.{and_parts, and_from}
use Rattle.fz_lexer.specs.declared.token.Token.{Token}
use Rattle.fz_lexer.specs.declared.token.Kind.{Kind}
use Rattle.fz_lexer.specs.declared.token.Kind.TheVariants.{Name, Number, Text, Reserved, Punctuation}
use Rattle.fz_parser.specs.declared.grammar.Item.{Item}
use Rattle.fz_parser.specs.declared.grammar.Item.TheVariants.{Take, Read, Make}
use Rattle.fz_parser.specs.declared.grammar.Terminal.{Terminal}
use Rattle.fz_parser.specs.declared.grammar.Terminal.TheVariants.{Named, Numeral, Positive, Quoted, Keyword, Symbol}
use Rattle.fz_parser.specs.declared.grammar.Phrase.TheVariants.{Expression}
use Rattle.fz_parser.specs.Table.{rules, rule_count}
use Rattle.fz_parser.specs.Parts.{State, TermPart, shift, build}
use Rattle.fz_parser.specs.Grammar.{Fits, IsTerm, alone, body, empty}
use Rattle.fz_parser.specs.Reads.{ReadsIn}
use Rattle.fz_parser.specs.Steps.{START}
use Rattle.fz_parser.specs.Tests.{below}
use Rattle.fz_parser.proofs.Machine.{reads_of}
use Rattle.fz_parser.proofs.Theory.{below_each}
use Rattle.release_texts.specs.Words.{AreOthers, NoTermHasTheseWords, is_other, kind_is_other}

takes_others : Terminal → Bool
takes_others (Keyword word) = is_other word
takes_others k = true

unfoldable clean : List Item → Bool
clean [] = true
clean (Take k ∷ σ) = takes_others k && clean σ
clean (Make a ∷ σ) = clean σ
clean (Read a ∷ σ) = clean σ

rules_are_clean : below rule_count (λ p. clean (body p)) ≡ true
unfolding below clean takes_others body rules
rules_are_clean = refl

body_clean : (p : ℕ) → p < rule_count → clean (body p) ≡ true
body_clean p l = below_each rule_count (λ p. clean (body p)) rules_are_clean p l

both_clean : (α β : List Item) → clean α ≡ true → clean β ≡ true → clean (α ++ β) ≡ true
unfolding clean
both_clean [] β a b = b
both_clean (Take k ∷ α) β a b = let p = and_parts (takes_others k) (clean α) a in and_from (takes_others k) (clean (α ++ β)) p.0 (both_clean α β p.1 b)
both_clean (Make x ∷ α) β a b = both_clean α β a b
both_clean (Read x ∷ α) β a b = both_clean α β a b

fits_other : (k : Terminal) (kind : Kind) → Fits k kind → takes_others k ≡ true → kind_is_other kind ≡ true
unfolding takes_others
fits_other Named (Name x) f h = refl
fits_other Numeral (Number n) f h = refl
fits_other Positive (Number n) f h = refl
fits_other Quoted (Text x) f h = refl
fits_other (Keyword word) (Reserved v) f h = subst (λ w. is_other w ≡ true) f h
fits_other (Symbol s) (Punctuation t) f h = refl
fits_other k kind f h = absurd f

others : (n : ℕ) (σ : List Item) (w : List Token) (s r : State) → clean σ ≡ true → ReadsIn n σ w s r → AreOthers w ≡ true
unfolding clean
others zero [] [] s r c h = refl
others zero [] (t ∷ w) s r c h = absurd h
others zero (i ∷ σ) w s r c h = absurd h
others (suc n) [] w s r c h = absurd h
others (suc n) (Take k ∷ σ) [] s r c h = absurd h
others (suc n) (Take k ∷ σ) (t ∷ w) s r c h =
    let p = and_parts (takes_others k) (clean σ) c in
    and_from (kind_is_other t.kind) (AreOthers w) (fits_other k t.kind h.0 p.0) (others n σ w (shift k t s) r p.1 h.1)
others (suc n) (Make a ∷ σ) w s r c h = others n σ w (build a s) r c h
others (suc n) (Read a ∷ σ) w s r c h = others n (body h.0 ++ σ) w s r (both_clean (body h.0) σ (body_clean h.0 h.1) c) h.3

start_clean : clean (START Expression) ≡ true
unfolding clean
start_clean = refl

pub no_words : NoTermHasTheseWords
unfolding IsTerm
no_words ts e h = let y = reads_of ts (TermPart e) h in others y.2.0 (START Expression) ts empty (alone y.0 y.1 (TermPart e)) start_clean y.2.1
