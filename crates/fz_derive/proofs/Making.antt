-- What is made of a node, from what is made of its parts.
use Rattle.std.proofs.Common.{◌≡◌, ℕ, zero, suc, ◌+◌, ◌<◌, ◌≤◌, List, [], ◌∷◌, ◌++◌, length, map, refl, sym, ap, ◌∙◌, subst, arith, append_assoc, length-append, append-nil, get_or, set, ◌⊎◌, inl, inr}
use Rattle.std.specs.List.Sorted.{IsStrictlySortedBy}
use Rattle.std.proofs.lemmas.List.{length-map, map-append}
use Rattle.std.specs.Prelude.{true, false, ℤ, ⊤, slice_index, Option, Some, None, Result, Ok, Err, IsErrAnd, IfErr}
use Rattle.fz_frac.specs.Sens.{distance_of}
use Rattle.fz_frac.specs.declared.sens.Sens.{Sens}
use Rattle.std.proofs.lemmas.Result.{err_from_is_err_and}
use Rattle.fz_ast.proofs.Arenas.{grows_at, grows_known, grows_length}
use Rattle.fz_ast.specs.Arena.{Grows}
use Rattle.fz_ast.specs.Names.{name_of}
use Rattle.fz_ast.specs.Limits.{TermLimits}
use Rattle.fz_ast.specs.TermNodes.{FormLimits, IsKnown, term_at, term_of}
use Rattle.fz_ast.specs.declared.name.Name.{Name as KeptName}
use Rattle.fz_ast.specs.declared.name.Text.{Text as KeptText}
use Rattle.fz_ast.specs.Parts.{Parts}
use Rattle.fz_ast.specs.TypeNodes.{type_at}
use Rattle.fz_ast.specs.declared.span.Span.{Span}
use Rattle.fz_ast.specs.declared.term.Arrow.{Arrow}
use Rattle.fz_ast.specs.declared.term.Arrow.TheVariants.{Fun, Fn}
use Rattle.fz_ast.specs.declared.term.Binary.{Binary}
use Rattle.fz_ast.specs.declared.term.Binary.TheVariants.{Pair, With, App, Plus, Minus, AtMost, Equal, Union, Map, Filter, Split}
use Rattle.fz_ast.specs.declared.term.Form.{Form}
use Rattle.fz_ast.specs.declared.term.Form.TheVariants.{Var, Num, Text, Unit as One, Unary as Op, Binary as Op2, Times, Ranged as Bounded}
use Rattle.fz_ast.specs.declared.term.Form.TheVariants.{Inject, Bang, Let, LetBang, LetPair, If, Case, Lambda}
use Rattle.fz_ast.specs.declared.term.Ranged.{Ranged}
use Rattle.fz_ast.specs.declared.term.Ranged.TheVariants.{Sum, Clip}
use Rattle.fz_ast.specs.declared.term.Side.{Side}
use Rattle.fz_ast.specs.declared.term.Side.TheVariants.{Inl, Inr}
use Rattle.fz_ast.specs.declared.term.Unary.{Unary}
use Rattle.fz_ast.specs.declared.term.Unary.TheVariants.{Fst, Snd, Least, Greatest, Size}
use Rattle.fz_ast.specs.Terms.{Name, Term}
use Rattle.fz_ast.specs.Types.{Ty, NumT, TextT, UnitT, TensorT, WithT, SumT, ArrowT, BangT, BagT}
use Rattle.term_meanings.specs.Scopes.{Context, Under}
use Rattle.derivation_rows.specs.Faults.{first_type, second_type}
use Rattle.derivation_rows.specs.Groups.{unary_row, binary_row, ranged_row, inject_row, lambda_row}
use Rattle.derivation_rows.specs.Formed.{ArePlaced, form_row}
use Rattle.derivation_lines.specs.Held.{AreHeld, line_in, lines_in}
use Rattle.fz_derive.specs.Least.{Derived, above, derived_with, least, lines_of, over_one, over_three, over_two, put, said_of_each, sorted_names, with_part}
use Rattle.derivation_lines.specs.Interned.{AreWritten, IsNumberOf}
use Rattle.derivation_lines.specs.Lines.{AreInOrder, Line, line_at}
use Rattle.fz_derive.specs.Making.{Adds, AddsParts, AreMore, IsMaking, IsOnePart, IsOwn, IsUnderBang}
use Rattle.derivation_rows.specs.Numbers.{Numbers}
use Rattle.derivation_rows.specs.Placed.{AreOne, number_of}
use Rattle.fz_derive.specs.Putting.{names_in, sorted_in}
use Rattle.derivation_rows.specs.Rows.{Row, bang_row, case_row, if_row, is_sum, is_tensor, let_bang_of, let_bang_row, let_pair_row, let_row, times_row}
use Rattle.derivation_rows.specs.Ruled.{IsRow, IsRuled}
use Rattle.derivation_lines.specs.Said.{says_of}
use Rattle.derivation_rows.specs.Scoped.{HasKnownTypes, context_in}
use Rattle.derivation_rows.specs.Shapes.{is_bang}
use Rattle.fz_derive.specs.Walked.{node_term}
use Rattle.fz_derive.specs.declared.least_line.LeastFault.{LeastFault}
use Rattle.fz_derive.specs.declared.least_line.LeastFault.TheVariants.{Fails, NoMemory}
use Rattle.derivation_lines.specs.declared.line.Line.{Line as KeptLine}
use Rattle.derivation_lines.specs.declared.line.Said.{Said as KeptSaid}
use Rattle.derivation_rows.specs.declared.row.Row.{Row as Ruled}
use Rattle.derivation_rows.specs.declared.rows.Places.{Places}
use Rattle.derivation_rows.specs.declared.scope.Bound.{Bound}
use Rattle.derivation_rows.proofs.Amounts.{line_of}
use Rattle.fz_derive.proofs.LeastNames.{names_sorted, said_order}
use Rattle.derivation_lines.proofs.Numbered.{written_grows}
use Rattle.derivation_rows.proofs.Scopes.{scope_grows, scope_under}

-- the names in scope are those of the context
pub sorted_context : (T : List Ty) (bs : List Bound) → sorted_names (context_in T bs) ≡ sorted_in bs
sorted_context T [] = refl
sorted_context T (b ∷ bs) = ap (put (name_of b.name)) (sorted_context T bs)

-- the row that the code found
pub found_row : (T : List Ty) (L : List Line) (r : Ruled) (o : Option Row) → IsRow T L (Some r) o → (w : Row) × (o ≡ Some w) × IsRuled T L r w
found_row T L r (Some w) h = (w, refl, h)
found_row T L r None h = absurd h

pub no_row : (T : List Ty) (L : List Line) (o : Option Row) → IsRow T L None o → o ≡ None
no_row T L None h = refl
no_row T L (Some w) h = absurd h

pub own_fault : (Γ : Context) (o : Option Row) (U : List Ty) (q : Result KeptLine LeastFault) (f : LeastFault) → IsErrAnd q (λ e. e ≡ f) → (f ≡ Fails → (below : List Line) → above Γ o below ≡ None) → IsOwn Γ o U q
own_fault Γ o U q f h k = let p = err_from_is_err_and q h in rw p.1 (go p.0 p.2)
  where
    go : (y : LeastFault) → y ≡ f → IsOwn Γ o U (Err y)
    go Fails e = k (sym e)
    go NoMemory e = tt

-- no line comes of a row with a number out of range
pub none_above : (Γ : Context) (o : Option Row) (w : Row) → o ≡ Some w → said_of_each (sorted_names Γ) w.number ≡ None → (below : List Line) → above Γ o below ≡ None
none_above Γ o w e h below = rw (e, h) refl

pub none_of_none : (Γ : Context) (o : Option Row) → o ≡ None → (below : List Line) → above Γ o below ≡ None
none_of_none Γ o e below = rw e refl

pub said_in_order : (Γ : Context) (n : Numbers) (says : List KeptSaid) → said_of_each (sorted_names Γ) n ≡ Some (says_of says) → AreInOrder (says_of says)
said_in_order Γ n says h = said_order (sorted_names Γ) n (says_of says) h (names_sorted Γ)

-- lines that are kept while the arena grows

held_one : (T U : List Ty) → Grows T U → (l : KeptLine) → l.ty < length T → line_in U l ≡ line_in T l
held_one T U g l k = ap (λ A. record { ty = A; says = says_of l.says.items }) (grows_at T U l.ty k g)

pub lines_grow : (T U : List Ty) → Grows T U → (L : List KeptLine) → AreHeld T L → lines_in U L ≡ lines_in T L
lines_grow T U g [] h = refl
lines_grow T U g (l ∷ L) h = let a = held_one T U g l h.0 in let b = lines_grow T U g L h.1 in cc (a, b)

pub held_grows : (T U : List Ty) → Grows T U → (L : List KeptLine) → AreHeld T L → AreHeld U L
held_grows T U g [] h = tt
held_grows T U g (l ∷ L) h = (grows_known T U l.ty h.0 g, held_grows T U g L h.1)

pub held_both : (T : List Ty) (L M : List KeptLine) → AreHeld T L → AreHeld T M → AreHeld T (L ++ M)
held_both T [] M h k = k
held_both T (l ∷ L) M h k = (h.0, held_both T L M h.1 k)

-- more lines behind more lines
pub more_both : (T U V : List Ty) (L M N : List KeptLine) (xs ys : List Line) → AreMore T L U M xs → AreMore U M V N ys → AreMore T L V N (xs ++ ys)
more_both T U V L M N xs ys h k = record { lines = k.lines ∙ ap (λ z. z ++ ys) h.lines ∙ append_assoc (lines_in T L) xs ys; held = k.held }

pub more_length : (T U : List Ty) (L M : List KeptLine) (xs : List Line) → AreMore T L U M xs → length M ≡ length L + length xs
more_length T U L M xs h =
    let a = length-map M (line_in U) in let b = length-map L (line_in T) in let c = ap length h.lines in let d = length-append (lines_in T L) xs in omega (arith, a, b, c, d)

line_start : (xs : List Line) (l : Line) (ys : List Line) (n : ℕ) → n ≡ length xs → line_at (xs ++ l ∷ ys) n ≡ l
unfolding line_at
line_start [] l ys zero e = refl
line_start [] l ys (suc n) e = absurd (omega (arith, e))
line_start (x ∷ xs) l ys zero e = absurd (omega (arith, e))
line_start (x ∷ xs) l ys (suc n) e = line_start xs l ys n (omega (arith, e))

-- the first line of those that came
pub first_more : (T U : List Ty) (L M : List KeptLine) (l : Line) (ls : List Line) (n : ℕ) → n ≡ length L → AreMore T L U M (l ∷ ls) → line_at (lines_in U M) n ≡ l
first_more T U L M l ls n e h = rw h.lines (line_start (lines_in T L) l ls n (let a = length-map L (line_in T) in omega (arith, a, e)))

-- and of those that came behind others
pub later_more : (T U : List Ty) (L M : List KeptLine) (xs : List Line) (l : Line) (ls : List Line) (n : ℕ) → n ≡ length L + length xs → AreMore T L U M (xs ++ l ∷ ls) → line_at (lines_in U M) n ≡ l
later_more T U L M xs l ls n e h =
    let a : lines_in U M ≡ (lines_in T L ++ xs) ++ l ∷ ls = h.lines ∙ sym (append_assoc (lines_in T L) xs (l ∷ ls)) in
    rw a (line_start (lines_in T L ++ xs) l ls n (let b = length-map L (line_in T) in let c = length-append (lines_in T L) xs in omega (arith, b, c, e)))

pub making_grows : (N : Parts) (T U : List Ty) (m : List ℕ) (bs : List Bound) (L M : List KeptLine) → Grows T U → AreHeld U M → IsMaking N T m bs L → IsMaking N U m bs M
making_grows N T U m bs L M g k h = record {
  some = let a = grows_length T U g in let b = h.some in omega (arith, a, b);
  written = written_grows N.types T U m g h.written;
  scope = scope_grows T U bs g h.scope;
  held = k;
}

pub making_under : (N : Parts) (T : List Ty) (m : List ℕ) (bs cs : List Bound) (b : Bound) (L : List KeptLine) → cs ≡ b ∷ bs → b.ty < length T → IsMaking N T m bs L → IsMaking N T m cs L
making_under N T m bs cs b L e k h = record { some = h.some; written = h.written; scope = scope_under T bs cs b e k h.scope; held = h.held }

-- forms of one, two and three parts

pub record OneForm (N : Parts) (Γ : Context) (form : Form) (Δ : Context) (a : Term) (f : Line → Option Row) : Type 0 where
  pub whole : (s : Span) → least Γ (node_term N s form) ≡ with_part (least Δ a) (over_one Γ f)
  pub row : (x y z : Line) → form_row (type_at N.types) Γ form x y z ≡ f x
  pub placed : (n : ℕ) (p : Places) → p.first < n → ArePlaced n form p

pub record TwoForm (N : Parts) (Γ : Context) (form : Form) (a : Term) (Δ : Derived → Context) (b : Term) (f : Line → Line → Option Row) : Type 0 where
  pub whole : (s : Span) → least Γ (node_term N s form) ≡ with_part (least Γ a) (λ c. with_part (least (Δ c) b) (over_two Γ f c))
  pub row : (x y z : Line) → form_row (type_at N.types) Γ form x y z ≡ f x y
  pub placed : (n : ℕ) (p : Places) → p.first < n → p.second < n → ArePlaced n form p

pub record ThreeForm (N : Parts) (Γ : Context) (form : Form) (e : Term) (Δ : Derived → Context) (a : Term) (Θ : Derived → Context) (b : Term) (f : Line → Line → Line → Option Row) : Type 0 where
  pub whole : (s : Span) → least Γ (node_term N s form) ≡ with_part (least Γ e) (λ c. with_part (least (Δ c) a) (λ d. with_part (least (Θ c) b) (over_three Γ f c d)))
  pub row : (x y z : Line) → form_row (type_at N.types) Γ form x y z ≡ f x y z
  pub placed : (n : ℕ) (p : Places) → p.first < n → p.second < n → p.third < n → ArePlaced n form p

pub one_adds : (N : Parts) (Γ : Context) (form : Form) (Δ : Context) (a : Term) (f : Line → Option Row) (T U : List Ty) (L M : List KeptLine) (p : Places) (c : Derived)
    → OneForm N Γ form Δ a f → least Δ a ≡ Some c → AreMore T L U M (lines_of c) → p.first ≡ length L → AddsParts N Γ form T L U M (Ok p)
one_adds N Γ form Δ a f T U L M p c w e h i =
    let l = more_length T U L M (lines_of c) h in let k = first_more T U L M c.own c.below p.first i h in (
      lines_of c,
      h,
      w.placed (length M) p (omega (arith, l, i)),
      λ s. w.whole s ∙ ap (λ o. with_part o (over_one Γ f)) e ∙ ap (λ z. above Γ (f z) (lines_of c)) (sym k) ∙ ap (λ o. above Γ o (lines_of c)) (sym (w.row (line_at (lines_in U M) p.first) (line_at (lines_in U M) p.second) (line_at (lines_in U M) p.third))),
    )

pub one_fails : (N : Parts) (Γ : Context) (form : Form) (Δ : Context) (a : Term) (f : Line → Option Row) → OneForm N Γ form Δ a f → least Δ a ≡ None → (s : Span) → least Γ (node_term N s form) ≡ None
one_fails N Γ form Δ a f w e s = w.whole s ∙ ap (λ o. with_part o (over_one Γ f)) e

pub two_adds : (N : Parts) (Γ : Context) (form : Form) (a : Term) (Δ : Derived → Context) (b : Term) (f : Line → Line → Option Row) (T U V : List Ty) (L M K : List KeptLine) (p : Places) (c d : Derived)
    → TwoForm N Γ form a Δ b f → least Γ a ≡ Some c → AreMore T L U M (lines_of c) → least (Δ c) b ≡ Some d → AreMore U M V K (lines_of d) → p.first ≡ length L → p.second ≡ length M → AddsParts N Γ form T L V K (Ok p)
two_adds N Γ form a Δ b f T U V L M K p c d w e h e' h' i i' =
    let m = more_both T U V L M K (lines_of c) (lines_of d) h h' in
    let l = more_length T U L M (lines_of c) h in let l' = more_length U V M K (lines_of d) h' in
    let k = first_more T V L K c.own (c.below ++ lines_of d) p.first i m in let k' = first_more U V M K d.own d.below p.second i' h' in
    let x = line_at (lines_in V K) p.first in let y = line_at (lines_in V K) p.second in (
      lines_of c ++ lines_of d,
      m,
      w.placed (length K) p (omega (arith, l, l', i)) (omega (arith, l, l', i')),
      λ s. w.whole s ∙ ap (λ o. with_part o (λ c. with_part (least (Δ c) b) (over_two Γ f c))) e ∙ ap (λ o. with_part o (over_two Γ f c)) e'
          ∙ ap (λ z. above Γ (f z d.own) (lines_of c ++ lines_of d)) (sym k) ∙ ap (λ z. above Γ (f x z) (lines_of c ++ lines_of d)) (sym k')
          ∙ ap (λ o. above Γ o (lines_of c ++ lines_of d)) (sym (w.row x y (line_at (lines_in V K) p.third))),
    )

pub two_first_fails : (N : Parts) (Γ : Context) (form : Form) (a : Term) (Δ : Derived → Context) (b : Term) (f : Line → Line → Option Row) → TwoForm N Γ form a Δ b f → least Γ a ≡ None → (s : Span) → least Γ (node_term N s form) ≡ None
two_first_fails N Γ form a Δ b f w e s = w.whole s ∙ ap (λ o. with_part o (λ c. with_part (least (Δ c) b) (over_two Γ f c))) e

pub two_second_fails : (N : Parts) (Γ : Context) (form : Form) (a : Term) (Δ : Derived → Context) (b : Term) (f : Line → Line → Option Row) (c : Derived) → TwoForm N Γ form a Δ b f → least Γ a ≡ Some c → least (Δ c) b ≡ None → (s : Span) → least Γ (node_term N s form) ≡ None
two_second_fails N Γ form a Δ b f c w e e' s = w.whole s ∙ ap (λ o. with_part o (λ c. with_part (least (Δ c) b) (over_two Γ f c))) e ∙ ap (λ o. with_part o (over_two Γ f c)) e'

-- where the row fails whatever the second part is
nothing_of : (o : Option Derived) (f : Derived → Option Derived) → ((d : Derived) → f d ≡ None) → with_part o f ≡ None
nothing_of None f h = refl
nothing_of (Some d) f h = h d

pub two_row_fails : (N : Parts) (Γ : Context) (form : Form) (a : Term) (Δ : Derived → Context) (b : Term) (f : Line → Line → Option Row) (c : Derived) → TwoForm N Γ form a Δ b f → least Γ a ≡ Some c → ((d : Derived) → f c.own d.own ≡ None) → (s : Span) → least Γ (node_term N s form) ≡ None
two_row_fails N Γ form a Δ b f c w e h s =
    w.whole s ∙ ap (λ o. with_part o (λ c. with_part (least (Δ c) b) (over_two Γ f c))) e ∙ nothing_of (least (Δ c) b) (over_two Γ f c) (λ d. ap (λ o. above Γ o (lines_of c ++ lines_of d)) (h d))

pub three_adds : (N : Parts) (Γ : Context) (form : Form) (e : Term) (Δ : Derived → Context) (a : Term) (Θ : Derived → Context) (b : Term) (f : Line → Line → Line → Option Row)
    (T U V W : List Ty) (L M K J : List KeptLine) (p : Places) (c d g : Derived) → ThreeForm N Γ form e Δ a Θ b f
    → least Γ e ≡ Some c → AreMore T L U M (lines_of c) → least (Δ c) a ≡ Some d → AreMore U M V K (lines_of d) → least (Θ c) b ≡ Some g → AreMore V K W J (lines_of g)
    → p.first ≡ length L → p.second ≡ length M → p.third ≡ length K → AddsParts N Γ form T L W J (Ok p)
three_adds N Γ form e Δ a Θ b f T U V W L M K J p c d g w q h q' h' q'' h'' i i' i'' =
    let n = more_both U V W M K J (lines_of d) (lines_of g) h' h'' in
    let m = more_both T U W L M J (lines_of c) (lines_of d ++ lines_of g) h n in
    let l = more_length T U L M (lines_of c) h in let l' = more_length U V M K (lines_of d) h' in let l'' = more_length V W K J (lines_of g) h'' in
    let k = first_more T W L J c.own (c.below ++ (lines_of d ++ lines_of g)) p.first i m in
    let k' = first_more U W M J d.own (d.below ++ lines_of g) p.second i' n in let k'' = first_more V W K J g.own g.below p.third i'' h'' in
    let all : List Line = lines_of c ++ (lines_of d ++ lines_of g) in
    let x = line_at (lines_in W J) p.first in let y = line_at (lines_in W J) p.second in let z = line_at (lines_in W J) p.third in (
      all,
      m,
      w.placed (length J) p (omega (arith, l, l', l'', i)) (omega (arith, l, l', l'', i')) (omega (arith, l, l', l'', i'')),
      λ s. w.whole s ∙ ap (λ o. with_part o (λ c. with_part (least (Δ c) a) (λ d. with_part (least (Θ c) b) (over_three Γ f c d)))) q
          ∙ ap (λ o. with_part o (λ d. with_part (least (Θ c) b) (over_three Γ f c d))) q' ∙ ap (λ o. with_part o (over_three Γ f c d)) q''
          ∙ ap (λ u. above Γ (f u d.own g.own) all) (sym k) ∙ ap (λ u. above Γ (f x u g.own) all) (sym k') ∙ ap (λ u. above Γ (f x y u) all) (sym k'')
          ∙ ap (λ o. above Γ o all) (sym (w.row x y z)),
    )

-- the line at a place, as the code has it
held_at : (U : List Ty) (M : List KeptLine) (n : ℕ) (l : KeptLine) → AreHeld U M → n < length M → l ≡ get_or M n l → l.ty < length U
held_at U [] n l h k e = absurd (omega (arith, k))
held_at U (m ∷ M) zero l h k e = let f = ap (λ (z : KeptLine). z.ty) e in let g = h.0 in omega (arith, f, g)
held_at U (m ∷ M) (suc n) l h k e = held_at U M n l h.1 (omega (arith, k)) e

pub kept_type : (T U : List Ty) (L M : List KeptLine) (c : Derived) (n : ℕ) (l : KeptLine) → AreMore T L U M (lines_of c) → n ≡ length L → l ≡ get_or M n l → (l.ty < length U) × (type_at U l.ty ≡ c.own.ty)
kept_type T U L M c n l h i e =
    let q = more_length T U L M (lines_of c) h in let k : n < length M = omega (arith, q, i) in
    let a : line_at (lines_in U M) n ≡ line_in U l = line_of U M n l k ∙ ap (line_in U) (sym e) in
    (held_at U M n l h.held k e, ap (λ (z : Line). z.ty) (sym a ∙ first_more T U L M c.own c.below n i h))

-- the forms

op_form : (N : Parts) (Γ : Context) (o : Unary) (d : ℕ) → OneForm N Γ (Op o d) Γ (term_at N.terms d) (unary_row o)
op_form N Γ Fst d = record { whole = λ s. refl; row = λ x y z. refl; placed = λ n p l. l }
op_form N Γ Snd d = record { whole = λ s. refl; row = λ x y z. refl; placed = λ n p l. l }
op_form N Γ Least d = record { whole = λ s. refl; row = λ x y z. refl; placed = λ n p l. l }
op_form N Γ Greatest d = record { whole = λ s. refl; row = λ x y z. refl; placed = λ n p l. l }
op_form N Γ Size d = record { whole = λ s. refl; row = λ x y z. refl; placed = λ n p l. l }

bounded_form : (N : Parts) (Γ : Context) (o : Ranged) (lo hi : ℤ) (d : ℕ) → OneForm N Γ (Bounded o lo hi d) Γ (term_at N.terms d) (ranged_row o lo hi)
bounded_form N Γ Sum lo hi d = record { whole = λ s. refl; row = λ x y z. refl; placed = λ n p l. l }
bounded_form N Γ Clip lo hi d = record { whole = λ s. refl; row = λ x y z. refl; placed = λ n p l. l }

inject_form : (N : Parts) (Γ : Context) (o : Side) (u : Span) (t d : ℕ) → OneForm N Γ (Inject o u t d) Γ (term_at N.terms d) (inject_row o (type_at N.types t))
inject_form N Γ Inl u t d = record { whole = λ s. refl; row = λ x y z. refl; placed = λ n p l. l }
inject_form N Γ Inr u t d = record { whole = λ s. refl; row = λ x y z. refl; placed = λ n p l. l }

pub lambda_form : (N : Parts) (Γ : Context) (o : Arrow) (x : KeptName) (u : Span) (t d : ℕ) → OneForm N Γ (Lambda o x u t d) (Under (name_of x) (type_at N.types t) Γ) (term_at N.terms d) (lambda_row o (name_of x) (type_at N.types t))
lambda_form N Γ Fun x u t d = record { whole = λ s. refl; row = λ x y z. refl; placed = λ n p l. l }
lambda_form N Γ Fn x u t d = record { whole = λ s. refl; row = λ x y z. refl; placed = λ n p l. l }

-- the row of a form of one part
pub one_row : Parts → Form → Line → Option Row
one_row N (Op o d) = unary_row o
one_row N (Times k d) = times_row k
one_row N (Bounded o lo hi d) = ranged_row o lo hi
one_row N (Inject o u t d) = inject_row o (type_at N.types t)
one_row N (Bang r d) = bang_row (distance_of r)
one_row N form = λ a. None

pub one_form : (N : Parts) (Γ : Context) (form : Form) (e : ℕ) → IsOnePart form e → OneForm N Γ form Γ (term_at N.terms e) (one_row N form)
unfolding one_row
one_form N Γ (Op o d) e h = subst (λ z. OneForm N Γ (Op o d) Γ (term_at N.terms z) (unary_row o)) h (op_form N Γ o d)
one_form N Γ (Times k d) e h = subst (λ z. OneForm N Γ (Times k d) Γ (term_at N.terms z) (times_row k)) h (record { whole = λ s. refl; row = λ x y z. refl; placed = λ n p l. l })
one_form N Γ (Bounded o lo hi d) e h = subst (λ z. OneForm N Γ (Bounded o lo hi d) Γ (term_at N.terms z) (ranged_row o lo hi)) h (bounded_form N Γ o lo hi d)
one_form N Γ (Inject o u t d) e h = subst (λ z. OneForm N Γ (Inject o u t d) Γ (term_at N.terms z) (inject_row o (type_at N.types t))) h (inject_form N Γ o u t d)
one_form N Γ (Bang r d) e h = subst (λ z. OneForm N Γ (Bang r d) Γ (term_at N.terms z) (bang_row (distance_of r))) h (record { whole = λ s. refl; row = λ x y z. refl; placed = λ n p l. l })
one_form N Γ (Var x) e h = absurd h
one_form N Γ (Num z) e h = absurd h
one_form N Γ (Text t) e h = absurd h
one_form N Γ One e h = absurd h
one_form N Γ (Op2 o a b) e h = absurd h
one_form N Γ (Let x a b) e h = absurd h
one_form N Γ (LetBang x a b) e h = absurd h
one_form N Γ (LetPair x y a b) e h = absurd h
one_form N Γ (If a b c) e h = absurd h
one_form N Γ (Case a x b y c) e h = absurd h
one_form N Γ (Lambda o x u t d) e h = absurd h

pub two_form : (N : Parts) (Γ : Context) (o : Binary) (a b : ℕ) → TwoForm N Γ (Op2 o a b) (term_at N.terms a) (λ c. Γ) (term_at N.terms b) (binary_row o)
two_form N Γ Pair a b = record { whole = λ s. refl; row = λ x y z. refl; placed = λ n p l m. (l, m) }
two_form N Γ With a b = record { whole = λ s. refl; row = λ x y z. refl; placed = λ n p l m. (l, m) }
two_form N Γ App a b = record { whole = λ s. refl; row = λ x y z. refl; placed = λ n p l m. (l, m) }
two_form N Γ Plus a b = record { whole = λ s. refl; row = λ x y z. refl; placed = λ n p l m. (l, m) }
two_form N Γ Minus a b = record { whole = λ s. refl; row = λ x y z. refl; placed = λ n p l m. (l, m) }
two_form N Γ AtMost a b = record { whole = λ s. refl; row = λ x y z. refl; placed = λ n p l m. (l, m) }
two_form N Γ Equal a b = record { whole = λ s. refl; row = λ x y z. refl; placed = λ n p l m. (l, m) }
two_form N Γ Union a b = record { whole = λ s. refl; row = λ x y z. refl; placed = λ n p l m. (l, m) }
two_form N Γ Map a b = record { whole = λ s. refl; row = λ x y z. refl; placed = λ n p l m. (l, m) }
two_form N Γ Filter a b = record { whole = λ s. refl; row = λ x y z. refl; placed = λ n p l m. (l, m) }
two_form N Γ Split a b = record { whole = λ s. refl; row = λ x y z. refl; placed = λ n p l m. (l, m) }

pub let_form : (N : Parts) (Γ : Context) (x : KeptName) (e b : ℕ) → TwoForm N Γ (Let x e b) (term_at N.terms e) (λ c. Under (name_of x) c.own.ty Γ) (term_at N.terms b) (let_row (name_of x))
let_form N Γ x e b = record { whole = λ s. refl; row = λ x y z. refl; placed = λ n p l m. (l, m) }

pub let_bang_form : (N : Parts) (Γ : Context) (x : KeptName) (e b : ℕ) → TwoForm N Γ (LetBang x e b) (term_at N.terms e) (λ c. Under (name_of x) (first_type c.own.ty) Γ) (term_at N.terms b) (let_bang_row (name_of x))
let_bang_form N Γ x e b = record { whole = λ s. refl; row = λ x y z. refl; placed = λ n p l m. (l, m) }

pub let_pair_form : (N : Parts) (Γ : Context) (x y : KeptName) (e b : ℕ)
    → TwoForm N Γ (LetPair x y e b) (term_at N.terms e) (λ c. Under (name_of y) (second_type c.own.ty) (Under (name_of x) (first_type c.own.ty) Γ)) (term_at N.terms b) (let_pair_row (name_of x) (name_of y))
let_pair_form N Γ x y e b = record { whole = λ s. refl; row = λ x y z. refl; placed = λ n p l m. (l, m) }

pub if_form : (N : Parts) (Γ : Context) (e a b : ℕ) → ThreeForm N Γ (If e a b) (term_at N.terms e) (λ c. Γ) (term_at N.terms a) (λ c. Γ) (term_at N.terms b) if_row
if_form N Γ e a b = record { whole = λ s. refl; row = λ x y z. refl; placed = λ n p k l m. (k, l, m) }

pub case_form : (N : Parts) (Γ : Context) (e : ℕ) (x : KeptName) (a : ℕ) (y : KeptName) (b : ℕ)
    → ThreeForm N Γ (Case e x a y b) (term_at N.terms e) (λ c. Under (name_of x) (first_type c.own.ty) Γ) (term_at N.terms a) (λ c. Under (name_of y) (second_type c.own.ty) Γ) (term_at N.terms b) (case_row (name_of x) (name_of y))
case_form N Γ e x a y b = record { whole = λ s. refl; row = λ x y z. refl; placed = λ n p k l m. (k, l, m) }

-- a row that fails by the type of the first part

let_bang_none : (x : Name) (e b : Line) (T : Ty) → is_bang T ≡ false → let_bang_of T x e b ≡ None
let_bang_none x e b (BangT r A) h = absurd (cc h)
let_bang_none x e b NumT h = refl
let_bang_none x e b TextT h = refl
let_bang_none x e b UnitT h = refl
let_bang_none x e b (TensorT A B) h = refl
let_bang_none x e b (WithT A B) h = refl
let_bang_none x e b (SumT A B) h = refl
let_bang_none x e b (ArrowT A B) h = refl
let_bang_none x e b (BagT A) h = refl

pub no_bang : (x : Name) (e b : Line) → is_bang e.ty ≡ false → let_bang_row x e b ≡ None
no_bang x e b h = let_bang_none x e b e.ty h

pub no_tensor : (x y : Name) (e b : Line) → is_tensor e.ty ≡ false → let_pair_row x y e b ≡ None
no_tensor x y e b h = rw h refl

pub no_sum : (x y : Name) (e a b : Line) → is_sum e.ty ≡ false → case_row x y e a b ≡ None
no_sum x y e a b h = rw h refl

-- failures of three parts
module _ {N : Parts} {Γ : Context} {form : Form} {e : Term} {Δ : Derived → Context} {a : Term} {Θ : Derived → Context} {b : Term} {f : Line → Line → Line → Option Row} (w : ThreeForm N Γ form e Δ a Θ b f) where
  pub three_first : least Γ e ≡ None → (s : Span) → least Γ (node_term N s form) ≡ None
  three_first q s = w.whole s ∙ ap (λ o. with_part o (λ c. with_part (least (Δ c) a) (λ d. with_part (least (Θ c) b) (over_three Γ f c d)))) q

  pub three_second : (c : Derived) → least Γ e ≡ Some c → least (Δ c) a ≡ None → (s : Span) → least Γ (node_term N s form) ≡ None
  three_second c q q' s = w.whole s ∙ ap (λ o. with_part o (λ c. with_part (least (Δ c) a) (λ d. with_part (least (Θ c) b) (over_three Γ f c d)))) q ∙ ap (λ o. with_part o (λ d. with_part (least (Θ c) b) (over_three Γ f c d))) q'

  pub three_third : (c d : Derived) → least Γ e ≡ Some c → least (Δ c) a ≡ Some d → least (Θ c) b ≡ None → (s : Span) → least Γ (node_term N s form) ≡ None
  three_third c d q q' q'' s =
      w.whole s ∙ ap (λ o. with_part o (λ c. with_part (least (Δ c) a) (λ d. with_part (least (Θ c) b) (over_three Γ f c d)))) q ∙ ap (λ o. with_part o (λ d. with_part (least (Θ c) b) (over_three Γ f c d))) q'
      ∙ ap (λ o. with_part o (over_three Γ f c d)) q''

  pub three_row : (c : Derived) → least Γ e ≡ Some c → ((d g : Derived) → f c.own d.own g.own ≡ None) → (s : Span) → least Γ (node_term N s form) ≡ None
  three_row c q h s =
      w.whole s ∙ ap (λ o. with_part o (λ c. with_part (least (Δ c) a) (λ d. with_part (least (Θ c) b) (over_three Γ f c d)))) q
      ∙ nothing_of (least (Δ c) a) (λ d. with_part (least (Θ c) b) (over_three Γ f c d)) (λ d. nothing_of (least (Θ c) b) (over_three Γ f c d) (λ g. ap (λ o. above Γ o (lines_of c ++ (lines_of d ++ lines_of g))) (h d g)))

-- faults that are handed on

pub parts_fault : (N : Parts) (Γ : Context) (form : Form) (T : List Ty) (L : List KeptLine) (U : List Ty) (M : List KeptLine) (q : Result Places LeastFault) (f : LeastFault) → IsErrAnd q (λ e. e ≡ f)
    → (f ≡ Fails → (s : Span) → least Γ (node_term N s form) ≡ None) → AddsParts N Γ form T L U M q
parts_fault N Γ form T L U M q f h k = let p = err_from_is_err_and q h in rw p.1 (go p.0 p.2)
  where
    go : (y : LeastFault) → y ≡ f → AddsParts N Γ form T L U M (Err y)
    go Fails e = k (sym e)
    go NoMemory e = tt

pub parts_no_memory : (N : Parts) (Γ : Context) (form : Form) (T : List Ty) (L : List KeptLine) (U : List Ty) (M : List KeptLine) (q : Result Places LeastFault) → IsErrAnd q (λ e. e ≡ NoMemory) → AddsParts N Γ form T L U M q
parts_no_memory N Γ form T L U M q h = let p = err_from_is_err_and q h in rw (p.1, p.2) tt

pub adds_fault : (Γ : Context) (e : Term) (T : List Ty) (L : List KeptLine) (U : List Ty) (M : List KeptLine) (q : Result Unit LeastFault) (f : LeastFault) → IsErrAnd q (λ e. e ≡ f) → (f ≡ Fails → least Γ e ≡ None) → Adds Γ e T L U M q
adds_fault Γ e T L U M q f h k = let p = err_from_is_err_and q h in rw p.1 (go p.0 p.2)
  where
    go : (y : LeastFault) → y ≡ f → Adds Γ e T L U M (Err y)
    go Fails e = k (sym e)
    go NoMemory e = tt

pub adds_no_memory : (Γ : Context) (e : Term) (T : List Ty) (L : List KeptLine) (U : List Ty) (M : List KeptLine) (q : Result Unit LeastFault) → IsErrAnd q (λ e. e ≡ NoMemory) → Adds Γ e T L U M q
adds_no_memory Γ e T L U M q h = let p = err_from_is_err_and q h in rw (p.1, p.2) tt

pub failed : (Γ : Context) (e : Term) (T : List Ty) (L : List KeptLine) (U : List Ty) (M : List KeptLine) (f : LeastFault) → Adds Γ e T L U M (Err f) → f ≡ Fails → least Γ e ≡ None
failed Γ e T L U M Fails h i = h
failed Γ e T L U M NoMemory h i = absurd (cc i)

pub parts_failed : (N : Parts) (Γ : Context) (form : Form) (T : List Ty) (L : List KeptLine) (U : List Ty) (M : List KeptLine) (f : LeastFault) → AddsParts N Γ form T L U M (Err f) → f ≡ Fails → (s : Span) → least Γ (node_term N s form) ≡ None
parts_failed N Γ form T L U M Fails h i = h
parts_failed N Γ form T L U M NoMemory h i = absurd (cc i)

-- the same context, by other words for its types
pub context_same : (Γ Δ : Context) (e : Term) (d : Derived) → Γ ≡ Δ → least Γ e ≡ Some d → least Δ e ≡ Some d
context_same Γ Δ e d h k = subst (λ z. least z e ≡ Some d) h k

pub context_none : (Γ Δ : Context) (e : Term) → Γ ≡ Δ → least Γ e ≡ None → least Δ e ≡ None
context_none Γ Δ e h k = subst (λ z. least z e ≡ None) h k

pub under_same : (x : Name) (A B : Ty) (Γ Δ : Context) → A ≡ B → Γ ≡ Δ → Under x A Γ ≡ Under x B Δ
under_same x A B Γ Δ h k = cc

-- forms without parts
pub IsLeaf : Form → Type 0
IsLeaf (Var x) = ⊤
IsLeaf (Num z) = ⊤
IsLeaf (Text t) = ⊤
IsLeaf One = ⊤
IsLeaf form = ⊥

pub leaf_var : (x : KeptName) → IsLeaf (Var x)
unfolding IsLeaf
leaf_var x = tt

pub leaf_num : (z : ℤ) → IsLeaf (Num z)
unfolding IsLeaf
leaf_num z = tt

pub leaf_text : (t : KeptText) → IsLeaf (Text t)
unfolding IsLeaf
leaf_text t = tt

pub leaf_unit : IsLeaf One
unfolding IsLeaf
leaf_unit = tt

no_more : (T : List Ty) (L : List KeptLine) → AreHeld T L → AreMore T L T L []
no_more T L h = record { lines = sym (append-nil (lines_in T L)); held = h }

pub leaf_adds : (N : Parts) (Γ : Context) (form : Form) (T : List Ty) (L : List KeptLine) (p : Places) → IsLeaf form → AreHeld T L → AddsParts N Γ form T L T L (Ok p)
unfolding IsLeaf
leaf_adds N Γ (Var x) T L p h k = ([], no_more T L k, tt, λ s. refl)
leaf_adds N Γ (Num z) T L p h k = ([], no_more T L k, tt, λ s. refl)
leaf_adds N Γ (Text t) T L p h k = ([], no_more T L k, tt, λ s. refl)
leaf_adds N Γ One T L p h k = ([], no_more T L k, tt, λ s. refl)
leaf_adds N Γ (Op o d) T L p h k = absurd h
leaf_adds N Γ (Op2 o a b) T L p h k = absurd h
leaf_adds N Γ (Times r d) T L p h k = absurd h
leaf_adds N Γ (Bounded o lo hi d) T L p h k = absurd h
leaf_adds N Γ (Inject o u t d) T L p h k = absurd h
leaf_adds N Γ (Bang r d) T L p h k = absurd h
leaf_adds N Γ (Let x a b) T L p h k = absurd h
leaf_adds N Γ (LetBang x a b) T L p h k = absurd h
leaf_adds N Γ (LetPair x y a b) T L p h k = absurd h
leaf_adds N Γ (If a b c) T L p h k = absurd h
leaf_adds N Γ (Case a x b y c) T L p h k = absurd h
leaf_adds N Γ (Lambda o x u t d) T L p h k = absurd h

pub leaf_of : (form : Form) → ((x : KeptName) × (form ≡ Var x)) ⊎ (((z : ℤ) × (form ≡ Num z)) ⊎ (((t : KeptText) × (form ≡ Text t)) ⊎ (form ≡ One))) → IsLeaf form
leaf_of form (inl h) = rw h.1 (leaf_var h.0)
leaf_of form (inr (inl h)) = rw h.1 (leaf_num h.0)
leaf_of form (inr (inr (inl h))) = rw h.1 (leaf_text h.0)
leaf_of form (inr (inr (inr h))) = rw h leaf_unit

pub one_of : (form : Form) (e : ℕ)
    → ((o : Unary) × (form ≡ Op o e)) ⊎ (((k : ℤ) × (form ≡ Times k e)) ⊎ (((o : Ranged) × (lo : ℤ) × (hi : ℤ) × (form ≡ Bounded o lo hi e)) ⊎ (((o : Side) × (u : Span) × (t : ℕ) × (form ≡ Inject o u t e)) ⊎ ((r : Sens) × (form ≡ Bang r e)))))
    → IsOnePart form e
one_of form e (inl h) = rw h.1 refl
one_of form e (inr (inl h)) = rw h.1 refl
one_of form e (inr (inr (inl h))) = rw h.3 refl
one_of form e (inr (inr (inr (inl h)))) = rw h.3 refl
one_of form e (inr (inr (inr (inr h)))) = rw h.1 refl

pub one_known : (m n : ℕ) (form : Form) (e : ℕ) → IsOnePart form e → IsKnown m n form → e < n
one_known m n (Op o d) e h k = omega (arith, h, k)
one_known m n (Times z d) e h k = omega (arith, h, k)
one_known m n (Bounded o lo hi d) e h k = omega (arith, h, k)
one_known m n (Inject o u t d) e h k = let l = k.1 in omega (arith, h, l)
one_known m n (Bang r d) e h k = omega (arith, h, k)
one_known m n (Var x) e h k = absurd h
one_known m n (Num z) e h k = absurd h
one_known m n (Text t) e h k = absurd h
one_known m n One e h k = absurd h
one_known m n (Op2 o a b) e h k = absurd h
one_known m n (Let x a b) e h k = absurd h
one_known m n (LetBang x a b) e h k = absurd h
one_known m n (LetPair x y a b) e h k = absurd h
one_known m n (If a b c) e h k = absurd h
one_known m n (Case a x b y c) e h k = absurd h
one_known m n (Lambda o x u t d) e h k = absurd h

-- a node's limits are those of its term
pub form_limits : (ty : ℕ → Ty) (part : ℕ → Term) (s : Span) (form : Form) → TermLimits (term_of ty part s form) → FormLimits form
form_limits ty part s (Num z) h = h
form_limits ty part s (Times k e) h = h.0
form_limits ty part s (Bounded Sum lo hi e) h = (h.0, h.1)
form_limits ty part s (Bounded Clip lo hi e) h = (h.0, h.1)
form_limits ty part s (Bang r e) h = h.0
form_limits ty part s (Var x) h = tt
form_limits ty part s (Text t) h = tt
form_limits ty part s One h = tt
form_limits ty part s (Op o e) h = tt
form_limits ty part s (Op2 o a b) h = tt
form_limits ty part s (Inject o u t e) h = tt
form_limits ty part s (Let x a b) h = tt
form_limits ty part s (LetBang x a b) h = tt
form_limits ty part s (LetPair x y a b) h = tt
form_limits ty part s (If a b c) h = tt
form_limits ty part s (Case a x b y c) h = tt
form_limits ty part s (Lambda o x u t e) h = tt

-- a written type's number
pub written_is : (N : Parts) (T : List Ty) (m : List ℕ) (bs : List Bound) (L : List KeptLine) (t k : ℕ) → IsMaking N T m bs L → t < length N.types → k ≡ slice_index m t → IsNumberOf T k (type_at N.types t)
written_is N T m bs L t k h l e = subst (λ z. IsNumberOf T z (type_at N.types t)) (sym e) (h.written.numbers.each t (let a = h.written.all in omega (arith, a, l)))

-- the place of a node's own line, which is put there once its parts' lines are
pub making_pushed : (N : Parts) (T : List Ty) (m : List ℕ) (bs : List Bound) (L : List KeptLine) (l : KeptLine) (M : List KeptLine) → M ≡ L ++ l ∷ [] → l.ty ≡ 0 → IsMaking N T m bs L → IsMaking N T m bs M
making_pushed N T m bs L l M e z h = record { some = h.some; written = h.written; scope = h.scope; held = rw e (held_both T L (l ∷ []) h.held (let s = h.some in omega (arith, z, s), tt)) }

pub pushed_length : (T U : List Ty) (L : List KeptLine) (l : KeptLine) (P M : List KeptLine) (below : List Line) → P ≡ L ++ l ∷ [] → AreMore T P U M below → length L < length M
pushed_length T U L l P M below e h = let a = more_length T U P M below h in let b = ap length e in let c = length-append L (l ∷ []) in omega (arith, a, b, c)

held_set : (W : List Ty) (M : List KeptLine) (n : ℕ) (l : KeptLine) → AreHeld W M → l.ty < length W → AreHeld W (set M n l)
held_set W [] n l h k = tt
held_set W (m ∷ M) zero l h k = (k, h.1)
held_set W (m ∷ M) (suc n) l h k = (h.0, held_set W M n l h.1 k)

lines_set : (W : List Ty) (M : List KeptLine) (n : ℕ) (l : KeptLine) → lines_in W (set M n l) ≡ set (lines_in W M) n (line_in W l)
lines_set W [] n l = refl
lines_set W (m ∷ M) zero l = refl
lines_set W (m ∷ M) (suc n) l = ap (λ z. line_in W m ∷ z) (lines_set W M n l)

set_start : (xs : List Line) (p o : Line) (ys : List Line) (n : ℕ) → n ≡ length xs → set (xs ++ p ∷ ys) n o ≡ xs ++ o ∷ ys
set_start [] p o ys zero e = refl
set_start [] p o ys (suc n) e = absurd (omega (arith, e))
set_start (x ∷ xs) p o ys zero e = absurd (omega (arith, e))
set_start (x ∷ xs) p o ys (suc n) e = ap (λ z. x ∷ z) (set_start xs p o ys n (omega (arith, e)))

pub own_adds : (T U W : List Ty) (L : List KeptLine) (l : KeptLine) (P M : List KeptLine) (own : KeptLine) (below : List Line) (n : ℕ)
    → P ≡ L ++ l ∷ [] → AreMore T P U M below → Grows U W → own.ty < length W → n ≡ length L → AreMore T L W (set M n own) (line_in W own ∷ below)
own_adds T U W L l P M own below n e h g k i =
    let a : lines_in U M ≡ lines_in T L ++ line_in T l ∷ below =
    h.lines ∙ ap (λ z. lines_in T z ++ below) e ∙ ap (λ z. z ++ below) (map-append (line_in T) L (l ∷ [])) ∙ append_assoc (lines_in T L) (line_in T l ∷ []) below in
    record {
      lines = lines_set W M n own ∙ ap (λ z. set z n (line_in W own)) (lines_grow U W g M h.held ∙ a)
          ∙ set_start (lines_in T L) (line_in T l) (line_in W own) below n (let b = length-map L (line_in T) in omega (arith, b, i));
      held = held_set W M n own (held_grows U W g M h.held) k;
    }

-- the row over the lines at these places
abbrev pub row_at : Parts → Context → Form → List Ty → List KeptLine → Places → Option Row
row_at N Γ form U L p = form_row (type_at N.types) Γ form (line_at (lines_in U L) p.first) (line_at (lines_in U L) p.second) (line_at (lines_in U L) p.third)

pub own_same : (N : Parts) (Γ Δ : Context) (form : Form) (p : Places) (U W : List Ty) (L M : List KeptLine) (q : Result KeptLine LeastFault) → Γ ≡ Δ → L ≡ M → IsOwn Γ (row_at N Γ form U L p) W q → IsOwn Δ (row_at N Δ form U M p) W q
own_same N Γ Δ form p U W L M q g e h = subst (λ z. IsOwn z (row_at N z form U M p) W q) g (subst (λ z. IsOwn Γ (row_at N Γ form U z p) W q) e h)

pub own_failed : (Γ : Context) (o : Option Row) (W : List Ty) (f : LeastFault) → IsOwn Γ o W (Err f) → f ≡ Fails → (below : List Line) → above Γ o below ≡ None
own_failed Γ o W Fails h i = h
own_failed Γ o W NoMemory h i = absurd (cc i)

pub own_least : (Γ : Context) (o : Option Row) (W : List Ty) (own : KeptLine) (below : List Line) → IsOwn Γ o W (Ok own) → above Γ o below ≡ Some (record { own = line_in W own; below = below })
own_least Γ o W own below h =
    ap (λ z. above Γ z below) h.1 ∙ ap (derived_with h.0.ty below) h.4 ∙ ap (λ (A : Ty). Some (record { own = record { ty = A; says = says_of own.says.items }; below = below })) (sym h.3)

pub none_said : AreInOrder []
unfolding IsStrictlySortedBy
none_said = tt

-- before any line is made, in an arena that has a type, the tables' ones and those that are written
pub making_begun : (N : Parts) (T U V : List Ty) (m : List ℕ) (bs cs : List Bound) (L : List KeptLine) (k : ℕ) → k < length T → Grows T U → Grows U V → AreWritten N.types V m → HasKnownTypes U bs → cs ≡ bs → L ≡ [] → IsMaking N V m cs L
making_begun N T U V m bs cs L k l g g' w h e e' = record {
  some = let a = grows_length T U g in let b = grows_length U V g' in omega (arith, l, a, b);
  written = w;
  scope = rw e (scope_grows U V bs g' h);
  held = rw e' tt;
}

pub program_same : (Γ Δ : Context) (e t : Term) (d : Option Derived) → Γ ≡ Δ → t ≡ e → least Γ t ≡ d → least Δ e ≡ d
program_same Γ Δ e t d h k l = subst (λ z. least z e ≡ d) h (subst (λ z. least Γ z ≡ d) k l)

pub program_fails : {A : Type 0} (q : Result A LeastFault) (f : LeastFault) (P : Type 0) → IsErrAnd q (λ e. e ≡ f) → (f ≡ Fails → P) → IfErr q (λ e. e ≡ Fails → P)
program_fails q f P h k = let p = err_from_is_err_and q h in rw p.1 (λ i. k (sym p.2 ∙ i))
