-- The same grammar from left to right, one rule after another: a device of the proof.
use Rattle.std.specs.Prelude.{◌≡◌, ℕ, zero, suc, ◌<◌, List, [], ◌∷◌, ◌++◌}
use Rattle.fz_lexer.specs.declared.token.Token.{Token}
use Rattle.fz_parser.specs.declared.grammar.Item.{Item}
use Rattle.fz_parser.specs.declared.grammar.Item.TheVariants.{Take, Read, Make}
use Rattle.fz_parser.specs.Table.{rule_count}
use Rattle.fz_parser.specs.Parts.{State, shift, build}
use Rattle.fz_parser.specs.Grammar.{Fits, head, body}

-- in n steps: a token is what is wanted, an action builds, and a phrase is replaced by the body of a rule for it
abbrev pub ReadsIn : ℕ → List Item → List Token → State → State → Type 0
ReadsIn zero [] [] s r = s ≡ r
ReadsIn zero [] (t ∷ w) s r = ⊥
ReadsIn zero (i ∷ σ) w s r = ⊥
ReadsIn (suc n) [] w s r = ⊥
ReadsIn (suc n) (Take k ∷ σ) [] s r = ⊥
ReadsIn (suc n) (Take k ∷ σ) (t ∷ w) s r = Fits k t.kind × ReadsIn n σ w (shift k t s) r
ReadsIn (suc n) (Make a ∷ σ) w s r = ReadsIn n σ w (build a s) r
ReadsIn (suc n) (Read a ∷ σ) w s r = (p : ℕ) × (p < rule_count) × (head p ≡ a) × ReadsIn n (body p ++ σ) w s r

-- the items stand for the tokens, and lead from the one state to the other
abbrev pub Reads : List Item → List Token → State → State → Type 0
Reads σ w s r = (n : ℕ) × ReadsIn n σ w s r
