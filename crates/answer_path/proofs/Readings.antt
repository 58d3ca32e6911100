-- A program comes to one thing at most.
use Rattle.std.proofs.Common.{◌≡◌, List, ℕ, ap, subst, inl, inr}
use Rattle.std.specs.Prelude.{◌⊎◌}
use Rattle.fz_lexer.specs.declared.token.Token.{Token}
use Rattle.fz_lexer.specs.declared.token.LexFault.TheVariants.{Bad, TooManyTokens}
use Rattle.fz_lexer.specs.Tokens.{IsLexed, ExplainsLex}
use Rattle.fz_lexer.proofs.Cuts as Cuts
use Rattle.fz_parser.specs.declared.fault.ParseFault.{ParseFault}
use Rattle.fz_parser.specs.declared.fault.ParseFault.TheVariants.{Stuck, TooNested, NoMemory}
use Rattle.fz_parser.specs.Reading.{IsParsed, ExplainsParse}
use Rattle.fz_parser.proofs.Laws as Laws
use Rattle.fz_parser.proofs.Machine.{one_only}
use Rattle.answer_path.specs.Reading.{unlexed, stuck, nested, read, IsReading}
use Rattle.answer_path.specs.Laws.{OneReading}

abbrev NoTokens : List ℕ → ℕ → Type 0
NoTokens w place = ExplainsLex w (Bad place) ⊎ ExplainsLex w (TooManyTokens place)

-- a text with a fault of tokens has no tokens
no_tokens : (w : List ℕ) (place : ℕ) (ts : List Token) → NoTokens w place → IsLexed w ts → ⊥
no_tokens w p ts (inl h) k = cc (Cuts.refused w (Bad p) ts h k)
no_tokens w p ts (inr h) k = cc (Cuts.refused w (TooManyTokens p) ts h k)

one_place : (w : List ℕ) (p q : ℕ) → NoTokens w p → NoTokens w q → p ≡ q
one_place w p q (inl h) (inl k) = cc (Cuts.once w (Bad p) (Bad q) h k (λ e. cc e) (λ e. cc e))
one_place w p q (inl h) (inr k) = absurd (cc (Cuts.once w (Bad p) (TooManyTokens q) h k (λ e. cc e) (λ e. cc e)))
one_place w p q (inr h) (inl k) = absurd (cc (Cuts.once w (TooManyTokens p) (Bad q) h k (λ e. cc e) (λ e. cc e)))
one_place w p q (inr h) (inr k) = cc (Cuts.once w (TooManyTokens p) (TooManyTokens q) h k (λ e. cc e) (λ e. cc e))

no_term : (ts us : List Token) (w : List ℕ) (fault : ParseFault) (e : _) → (fault ≡ NoMemory → ⊥) → IsLexed w ts → IsLexed w us → ExplainsParse ts fault → IsParsed us e → ⊥
no_term ts us w fault e some h k f p =
    let same : us ≡ ts = Cuts.only w ts us h.tokens k.tokens in
    some (Laws.refused ts fault e f (subst (λ x. IsParsed x e) same p))

one_fault : (ts us : List Token) (w : List ℕ) (f g : ParseFault) → (f ≡ NoMemory → ⊥) → (g ≡ NoMemory → ⊥) → IsLexed w ts → IsLexed w us → ExplainsParse ts f → ExplainsParse us g → g ≡ f
one_fault ts us w f g first second h k x y =
    let same : us ≡ ts = Cuts.only w ts us h.tokens k.tokens in
    Laws.once ts f g x (subst (λ ts. ExplainsParse ts g) same y) first second

pub one_reading : OneReading
unfolding IsReading
one_reading w (unlexed p) (unlexed q) h k = ap unlexed (one_place w p q h k)
one_reading w (unlexed p) (stuck t) h k = absurd (no_tokens w p k.0 h k.1)
one_reading w (unlexed p) (nested d) h k = absurd (no_tokens w p k.0 h k.1)
one_reading w (unlexed p) (read e) h k = absurd (no_tokens w p k.0 h k.1)
one_reading w (stuck t) (unlexed q) h k = absurd (no_tokens w q h.0 k h.1)
one_reading w (stuck t) (stuck u) h k = let same : t ≡ u = cc (one_fault h.0 k.0 w (Stuck t) (Stuck u) (λ e. cc e) (λ e. cc e) h.1 k.1 h.2 k.2) in ap stuck same
one_reading w (stuck t) (nested d) h k = absurd (cc (one_fault h.0 k.0 w (Stuck t) (TooNested d) (λ e. cc e) (λ e. cc e) h.1 k.1 h.2 k.2))
one_reading w (stuck t) (read e) h k = absurd (no_term h.0 k.0 w (Stuck t) e (λ e. cc e) h.1 k.1 h.2 k.2)
one_reading w (nested d) (unlexed q) h k = absurd (no_tokens w q h.0 k h.1)
one_reading w (nested d) (stuck t) h k = absurd (cc (one_fault h.0 k.0 w (TooNested d) (Stuck t) (λ e. cc e) (λ e. cc e) h.1 k.1 h.2 k.2))
one_reading w (nested d) (nested f) h k = let same : d ≡ f = cc (one_fault h.0 k.0 w (TooNested d) (TooNested f) (λ e. cc e) (λ e. cc e) h.1 k.1 h.2 k.2) in ap nested same
one_reading w (nested d) (read e) h k = absurd (no_term h.0 k.0 w (TooNested d) e (λ e. cc e) h.1 k.1 h.2 k.2)
one_reading w (read e) (unlexed q) h k = absurd (no_tokens w q h.0 k h.1)
one_reading w (read e) (stuck t) h k = absurd (no_term k.0 h.0 w (Stuck t) e (λ e. cc e) k.1 h.1 k.2 h.2)
one_reading w (read e) (nested d) h k = absurd (no_term k.0 h.0 w (TooNested d) e (λ e. cc e) k.1 h.1 k.2 h.2)
one_reading w (read e) (read d) h k =
    let same : k.0 ≡ h.0 = Cuts.only w h.0 k.0 h.1.tokens k.1.tokens in
    let p : IsParsed h.0 d = subst (λ ts. IsParsed ts d) same k.2 in
    ap read (one_only h.0 e d h.2.term p.term)
