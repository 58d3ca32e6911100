-- What takes several nodes, and fractions in lowest terms.
use Rattle.std.proofs.Common.{◌≡◌, ℕ, ◌*◌, ◌/◌, ◌<◌, Bool, false, refl, arith, sym, ap, ◌∙◌, subst, length}
use Rattle.std.specs.Prelude.{◌↔◌, IsTrue, Result, Ok, Err, IsOk, IsErr}
use Rattle.fz_frac.specs.Distance.{Fin, Inf, den, ◌≈◌}
use Rattle.fz_frac.specs.Lowest.{gcd, is_out}
use Rattle.fz_frac.specs.declared.frac.Frac.{Frac}
use Rattle.fz_frac.specs.declared.frac.Range.{Range}
use Rattle.fz_frac.proofs.Laws.{den_of, ≈-trans, ≈-sym}
use Rattle.fz_frac.proofs.Lowest.{narrow, lowest as lowest_parts, coprime, gcd_is, same_form}
use Rattle.fz_ast.specs.declared.span.Span.{Span}
use Rattle.fz_ast.specs.declared.term.Side.{Side}
use Rattle.fz_ast.specs.declared.term.Side.TheVariants.{Inl, Inr}
use Rattle.fz_ast.specs.declared.term.Form.TheVariants.{Inject}
use Rattle.fz_ast.specs.Types.{Ty, UnitT, SumT, ArrowT, BangT, BoolT, UnlimitedT}
use Rattle.fz_ast.specs.Terms.{Term, at, UnitE}
use Rattle.fz_ast.specs.Parts.{Parts}
use Rattle.fz_ast.specs.TypeNodes.{type_at}
use Rattle.fz_ast.specs.TermNodes.{term_at, term_of}
use Rattle.fz_parser.specs.declared.reader.Held.{Held}
use Rattle.fz_parser.specs.declared.reader.Held.TheVariants.{Written, Term as HeldTerm}
use Rattle.fz_parser.specs.declared.reader.Reader.{Reader}
use Rattle.fz_parser.specs.Parts.{What, TypePart, TermPart, in_type, in_term, truth_term, in_lowest_terms}
use Rattle.fz_parser.specs.Kept.{IsInOrder, Makes}
use Rattle.fz_parser.proofs.Entries.{more_terms, more_types, term_makes, type_makes, type_stays}

-- the reader with other nodes
abbrev with_nodes : Reader → Parts → Reader
with_nodes r N = record { last = r.last; entries = r.entries; nodes = N }

then : (a b c : Reader) (h i : Held) (v w : What) → Makes a b h v → Makes b c i w → Makes a c i w
then a b c h i v w x y = record { kept = y.kept; entries = y.entries ∙ x.entries; state = y.state ∙ x.state; known = y.known; is = y.is }

is_then : (a b : Reader) (h : Held) (v w : What) → v ≡ w → Makes a b h v → Makes a b h w
is_then a b h v w e x = subst (Makes a b h) e x

pub bool_makes : (r : Reader) (N1 N2 : Parts) (i n : ℕ) (u : Span) → IsInOrder r → i ≡ length r.nodes.types → N1 ≡ more_types r.nodes UnitT → n ≡ length N1.types →
    N2 ≡ more_types N1 (SumT (type_at N1.types i) (type_at N1.types i)) → Makes r (with_nodes r N2) (Written u n) (TypePart u BoolT)
bool_makes r N1 N2 i n u k l g m h =
    let x = type_makes r (with_nodes r N1) i u UnitT (refl, refl) k l g in
    let y = type_makes (with_nodes r N1) (with_nodes r N2) n u (SumT (type_at N1.types i) (type_at N1.types i)) (refl, refl) x.kept m h in
    let e : type_at N1.types i ≡ UnitT = ap in_type x.is in
    is_then _ _ _ _ _ (ap (λ t. TypePart u (SumT t t)) e) (then _ _ _ _ _ _ _ x y)

pub arrow_makes : (r : Reader) (N1 N2 : Parts) (a b i n : ℕ) (s t : Ty) (u : Span) → IsInOrder r → b < length r.nodes.types → type_at r.nodes.types a ≡ s → type_at r.nodes.types b ≡ t →
    i ≡ length r.nodes.types → N1 ≡ more_types r.nodes (BangT Inf (type_at r.nodes.types a)) → n ≡ length N1.types → N2 ≡ more_types N1 (ArrowT (type_at N1.types i) (type_at N1.types b)) →
    Makes r (with_nodes r N2) (Written u n) (TypePart u (UnlimitedT s t))
arrow_makes r N1 N2 a b i n s t u k bl ea eb l g m h =
    let x = type_makes r (with_nodes r N1) i u (BangT Inf (type_at r.nodes.types a)) (refl, refl) k l g in
    let y = type_makes (with_nodes r N1) (with_nodes r N2) n u (ArrowT (type_at N1.types i) (type_at N1.types b)) (refl, refl) x.kept m h in
    let e : type_at N1.types i ≡ BangT Inf s = ap in_type x.is ∙ ap (BangT Inf) ea in
    let f : type_at N1.types b ≡ t = ap (λ M. type_at M.types b) g ∙ type_stays r.nodes.types _ b bl ∙ eb in
    is_then _ _ _ _ _ (cc (e, f)) (then _ _ _ _ _ _ _ x y)

pub truth_makes : (r : Reader) (N1 N2 N3 : Parts) (i e n : ℕ) (o : Side) (u : Span) → IsInOrder r → i ≡ length r.nodes.types → N1 ≡ more_types r.nodes UnitT →
    e ≡ length N1.terms → N2 ≡ more_terms N1 (at u UnitE) → n ≡ length N2.terms → N3 ≡ more_terms N2 (term_of (type_at N2.types) (term_at N2.terms) u (Inject o u i e)) →
    Makes r (with_nodes r N3) (HeldTerm n) (TermPart (truth_term o u))
truth_makes r N1 N2 N3 i e n o u k l g m h p q =
    let x = type_makes r (with_nodes r N1) i u UnitT (refl, refl) k l g in
    let y = term_makes (with_nodes r N1) (with_nodes r N2) e (at u UnitE) (refl, refl) x.kept m h in
    let z = term_makes (with_nodes r N2) (with_nodes r N3) n (term_of (type_at N2.types) (term_at N2.terms) u (Inject o u i e)) (refl, refl) y.kept p q in
    let t : type_at N2.types i ≡ UnitT = ap (λ M. type_at M.types i) h ∙ ap in_type x.is in
    let f : term_at N2.terms e ≡ at u UnitE = ap in_term y.is in
    is_then _ _ _ _ _ (true_is o u (type_at N2.types) (term_at N2.terms) i e t f) (then _ _ _ _ _ _ _ (then _ _ _ _ _ _ _ x y) z)
  where
    true_is : (o : Side) (u : Span) (ty : ℕ → Ty) (part : ℕ → Term) (i e : ℕ) → ty i ≡ UnitT → part e ≡ at u UnitE → TermPart (term_of ty part u (Inject o u i e)) ≡ TermPart (truth_term o u)
    true_is Inl u ty part i e t f = cc (t, f)
    true_is Inr u ty part i e t f = cc (t, f)

-- fractions
pub fits : (p q : ℕ) → 0 < q → p < 4294967296 → q < 4294967296 → is_out (Fin p q) ≡ false
fits p q z a b = narrow p q p q z (ap (λ d. p * d) (sym (den_of q z))) (omega arith) (omega arith)

pub is_ok : (r : Result Frac Range) (b : Bool) → (IsErr r ↔ IsTrue b) → b ≡ false → IsOk r
is_ok (Ok f) b h e = refl
is_ok (Err x) b h e = absurd (cc (h.0 refl, e))

reduced_same : (p q n d g : ℕ) → p ≡ g * n → q ≡ g * d → 0 < d → 0 < q → Fin n d ≈ Fin p q
reduced_same p q n d g a b h z =
    let e : den d ≡ d = den_of d h in let f : den q ≡ q = den_of q z in
    let i : n * q ≡ p * d = rw (a, b) (omega arith) in
    record { le = record { le = rw (e, f) (omega arith) }; ge = record { le = rw (e, f) (omega arith) } }

pub lowest_is : (f : Frac) (p q : ℕ) → 0 < q → Fin f.p f.q ≈ Fin p q → Fin f.p f.q ≡ in_lowest_terms p q
unfolding in_lowest_terms
lowest_is f p q z e =
    let l = lowest_parts p q z in
    let s = reduced_same p q (p / gcd p q) (q / gcd p q) (gcd p q) l.top l.low l.pos_d z in
    let h = same_form f.p f.q (p / gcd p q) (q / gcd p q) f.above_zero l.pos_d f.lowest (coprime p q (gcd p q) l.pos (gcd_is p q)) (≈-trans e (≈-sym s)) in
    cc (h.0, h.1)
