-- Each stack stands for some word, finds its parts and leaves one part, and expands only so often.
use Rattle.std.proofs.Common.{◌≡◌, ℕ, zero, suc, ◌+◌, ◌-◌, ◌<◌, ◌≤◌, List, [], ◌∷◌, ◌++◌, true, false, get_or, refl, arith, sym, ap, ◌∙◌, subst, inl, inr, take, drop, length, append_assoc, drop-cons, reverse}
use Rattle.std.proofs.lemmas.List.{reverse-append}
use Rattle.std.specs.Prelude.{◌&&◌, ◌||◌, nat_eq, nat_lt}
use Rattle.std.proofs.lemmas.Bool.{and_parts, and_from, cases_Bool, ltb-true, leb-true, eqb-true}
use Rattle.fz_ast.specs.declared.span.Span.{Span}
use Rattle.fz_lexer.specs.declared.token.Token.{Token}
use Rattle.fz_parser.specs.declared.grammar.Item.{Item}
use Rattle.fz_parser.specs.declared.grammar.Item.TheVariants.{Take, Read, Make}
use Rattle.fz_parser.specs.declared.grammar.Terminal.{Terminal}
use Rattle.fz_parser.specs.declared.grammar.Terminal.TheVariants.{Named, Numeral, Positive, Quoted, Keyword, Symbol}
use Rattle.fz_parser.specs.declared.grammar.Phrase.{Phrase}
use Rattle.fz_parser.specs.declared.grammar.Action.{Action}
use Rattle.fz_parser.specs.declared.grammar.Action.TheVariants.{Begin, LambdaTerm, LetBangTerm, LetPairTerm, LetTerm, CaseTerm, IfTerm, InfixTerm, NegativeTerm, NegativeTimesTerm, TimesTerm, NumberTerm, UnaryTerm, RangedTerm, InjectTerm, BangTerm, PrefixTerm, NameTerm, TextTerm, TruthTerm, UnitTerm, GroupTerm, PlainInteger, NegativeInteger, WholeFactor, FractionFactor, InfFactor, JoinType, ArrowType, BangType, BagType, NumType, TextType, UnitType, BoolType, GroupType}
use Rattle.fz_parser.specs.declared.tables.TheConstants.{ITEMS, STARTS}
use Rattle.fz_parser.specs.Table.{rule_count}
use Rattle.fz_parser.specs.Parts.{StackPart, State, shift, build, made, whole, arity, takes, gives, sort_of}
use Rattle.fz_parser.specs.Grammar.{head, body}
use Rattle.fz_parser.specs.Reads.{ReadsIn, Reads}
use Rattle.fz_parser.specs.Classes.{phrase_number}
use Rattle.fz_parser.specs.Tests.{phrase_at, cost, cost_all, least, is_least, phrase_takes, phrase_gives, kept_sorts, begins_with, fine, sorts_after, same_sorts, is_level, weight, may_be_empty, lead, must, is_quick}
use Rattle.fz_parser.specs.Steps.{sorts_of, sorts, Level}
use Rattle.fz_parser.proofs.Checks.{finished, level, quick, parted, placed, parts_from, bodies_from, part_of, is_part}
use Rattle.fz_parser.proofs.Numbers.{phrase_below, phrase_same, phrase_is, sample, sampled}
use Rattle.fz_parser.proofs.Theory.{below_each}

least_at : (a : Phrase) → (head (least a) ≡ a) × (least a < rule_count) × (cost_all (body (least a)) < cost a)
unfolding is_least
least_at a =
    let e : is_least (phrase_number a) ≡ true = below_each 25 is_least finished (phrase_number a) (phrase_below a) in
    let f : (nat_eq (phrase_number (head (least (phrase_at (phrase_number a))))) (phrase_number a) && (nat_lt (least (phrase_at (phrase_number a))) rule_count && nat_lt (cost_all (body (least (phrase_at (phrase_number a))))) (cost (phrase_at (phrase_number a))))) ≡ true = e in
    let g : (nat_eq (phrase_number (head (least a))) (phrase_number a) && (nat_lt (least a) rule_count && nat_lt (cost_all (body (least a))) (cost a))) ≡ true =
    subst (λ x. (nat_eq (phrase_number (head (least x))) (phrase_number a) && (nat_lt (least x) rule_count && nat_lt (cost_all (body (least x))) (cost x))) ≡ true) (phrase_is a) f in
    let x = and_parts _ _ g in let y = and_parts _ _ x.1 in
    (phrase_same (head (least a)) a (eqb-true _ _ x.0), ltb-true _ _ y.0, ltb-true _ _ y.1)

cost-append : (β σ : List Item) → cost_all (β ++ σ) ≡ cost_all β + cost_all σ
cost-append [] σ = omega arith
cost-append (Take k ∷ β) σ = omega (arith, cost-append β σ)
cost-append (Make k ∷ β) σ = omega (arith, cost-append β σ)
cost-append (Read k ∷ β) σ = omega (arith, cost-append β σ)

finish : (n : ℕ) (σ : List Item) (s : State) → cost_all σ < n → (v : List Token) × (r : State) × Reads σ v s r
finish zero σ s l = absurd (omega arith)
finish (suc n) [] s l = ([], s, (0, refl))
finish (suc n) (Take k ∷ σ) s l =
    let q = finish n σ (shift k (sample k) s) (omega arith) in
    (sample k ∷ q.0, q.1, (suc q.2.0, (sampled k, q.2.1)))
finish (suc n) (Make a ∷ σ) s l =
    let q = finish n σ (build a s) (omega arith) in
    (q.0, q.1, (suc q.2.0, q.2.1))
finish (suc n) (Read a ∷ σ) s l =
    let m = least_at a in
    let q = finish n (body (least a) ++ σ) s (omega (arith, cost-append (body (least a)) σ, m.2)) in
    (q.0, q.1, (suc q.2.0, (least a, m.1, m.0, q.2.1)))

pub some_word : (σ : List Item) (s : State) → (v : List Token) × (r : State) × Reads σ v s r
some_word σ s = finish (suc (cost_all σ)) σ s (omega arith)

-- sorts
sorts_same : (xs ys : List ℕ) → same_sorts xs ys ≡ true → xs ≡ ys
sorts_same [] [] h = refl
sorts_same [] (y ∷ ys) h = absurd (cc h)
sorts_same (x ∷ xs) [] h = absurd (cc h)
sorts_same (x ∷ xs) (y ∷ ys) h = let p = and_parts (nat_eq x y) (same_sorts xs ys) h in cc (eqb-true x y p.0, sorts_same xs ys p.1)

level_at : (p : ℕ) → p < rule_count → (fine (body p) (phrase_takes (head p)) ≡ true) × (sorts_after (body p) (phrase_takes (head p)) ≡ phrase_gives (head p) ∷ [])
unfolding is_level
level_at p l = let x = and_parts _ _ (below_each rule_count is_level level p l) in (x.0, sorts_same _ _ x.1)

-- where xs lie on top of h, h is xs and a rest
begins_rest : (xs h : List ℕ) → begins_with xs h ≡ true → h ≡ xs ++ drop (length xs) h
begins_rest [] h e = refl
begins_rest (x ∷ xs) [] e = absurd (cc e)
begins_rest (x ∷ xs) (y ∷ ys) e = let p = and_parts (nat_eq x y) (begins_with xs ys) e in cc (eqb-true x y p.0, begins_rest xs ys p.1)

begins_more : (xs h d : List ℕ) → begins_with xs h ≡ true → (begins_with xs (h ++ d) ≡ true) × (drop (length xs) (h ++ d) ≡ drop (length xs) h ++ d)
begins_more [] h d e = (refl, refl)
begins_more (x ∷ xs) [] d e = absurd (cc e)
begins_more (x ∷ xs) (y ∷ ys) d e =
    let p = and_parts (nat_eq x y) (begins_with xs ys) e in
    let q = begins_more xs ys d p.1 in
    (and_from _ _ p.0 q.0, q.1)

raised : (β : List Item) (h d : List ℕ) → fine β h ≡ true → (fine β (h ++ d) ≡ true) × (sorts_after β (h ++ d) ≡ sorts_after β h ++ d)
raised [] h d f = (refl, refl)
raised (Take k ∷ β) h d f =
    let y = raised β (kept_sorts k ++ h) d f in
    let e : kept_sorts k ++ (h ++ d) ≡ (kept_sorts k ++ h) ++ d = sym (append_assoc (kept_sorts k) h d) in
    rw e y
raised (Make a ∷ β) h d f =
    let x = and_parts (begins_with (takes a) h) (fine β (gives a ∷ drop (length (takes a)) h)) f in
    let m = begins_more (takes a) h d x.0 in
    let y = raised β (gives a ∷ drop (length (takes a)) h) d x.1 in
    (and_from _ _ m.0 (rw m.1 y.0), rw m.1 y.1)
raised (Read a ∷ β) h d f =
    let x = and_parts (begins_with (phrase_takes a) h) (fine β (phrase_gives a ∷ drop (length (phrase_takes a)) h)) f in
    let m = begins_more (phrase_takes a) h d x.0 in
    let y = raised β (phrase_gives a ∷ drop (length (phrase_takes a)) h) d x.1 in
    (and_from _ _ m.0 (rw m.1 y.0), rw m.1 y.1)

fine-append : (β σ : List Item) (h : List ℕ) → fine β h ≡ true → fine σ (sorts_after β h) ≡ true → fine (β ++ σ) h ≡ true
fine-append [] σ h f g = g
fine-append (Take k ∷ β) σ h f g = fine-append β σ _ f g
fine-append (Make a ∷ β) σ h f g = let x = and_parts (begins_with (takes a) h) (fine β (gives a ∷ drop (length (takes a)) h)) f in and_from _ _ x.0 (fine-append β σ _ x.1 g)
fine-append (Read a ∷ β) σ h f g = let x = and_parts (begins_with (phrase_takes a) h) (fine β (phrase_gives a ∷ drop (length (phrase_takes a)) h)) f in and_from _ _ x.0 (fine-append β σ _ x.1 g)

after-append : (β σ : List Item) (h : List ℕ) → sorts_after (β ++ σ) h ≡ sorts_after σ (sorts_after β h)
after-append [] σ h = refl
after-append (Take k ∷ β) σ h = after-append β σ _
after-append (Make a ∷ β) σ h = after-append β σ _
after-append (Read a ∷ β) σ h = after-append β σ _

pub level_rule : {goal : Phrase} (p : ℕ) (a : Phrase) (σ : List Item) (h : List ℕ) → p < rule_count → head p ≡ a → Level goal (Read a ∷ σ) h → Level goal (body p ++ σ) h
level_rule p a σ h l e v =
    let x = and_parts (begins_with (phrase_takes a) h) (fine σ (phrase_gives a ∷ drop (length (phrase_takes a)) h)) v.enough in
    let b = level_at p l in
    let f : fine (body p) (phrase_takes a) ≡ true = subst (λ x. fine (body p) (phrase_takes x) ≡ true) e b.0 in
    let g : sorts_after (body p) (phrase_takes a) ≡ phrase_gives a ∷ [] = subst (λ x. sorts_after (body p) (phrase_takes x) ≡ phrase_gives x ∷ []) e b.1 in
    let y = raised (body p) (phrase_takes a) (drop (length (phrase_takes a)) h) f in
    let k : phrase_takes a ++ drop (length (phrase_takes a)) h ≡ h = sym (begins_rest (phrase_takes a) h x.0) in
    let f' : fine (body p) h ≡ true = subst (λ n. fine (body p) n ≡ true) k y.0 in
    let g' : sorts_after (body p) h ≡ phrase_gives a ∷ drop (length (phrase_takes a)) h = subst (λ n. sorts_after (body p) n ≡ phrase_gives a ∷ drop (length (phrase_takes a)) h) k (y.1 ∙ ap (λ z. z ++ drop (length (phrase_takes a)) h) g) in
    record { enough = fine-append (body p) σ h f' (rw g' x.1); one = after-append (body p) σ h ∙ rw g' v.one }

-- what is made has the sort that is given
made_sort : (a : Action) (w : Span) (s : State) → sort_of (made a w s) ≡ gives a
unfolding gives
made_sort Begin w s = refl
made_sort (LambdaTerm o) w s = refl
made_sort LetBangTerm w s = refl
made_sort LetPairTerm w s = refl
made_sort LetTerm w s = refl
made_sort CaseTerm w s = refl
made_sort IfTerm w s = refl
made_sort (InfixTerm o) w s = refl
made_sort NegativeTerm w s = refl
made_sort NegativeTimesTerm w s = refl
made_sort TimesTerm w s = refl
made_sort NumberTerm w s = refl
made_sort (UnaryTerm o) w s = refl
made_sort (RangedTerm o) w s = refl
made_sort (InjectTerm o) w s = refl
made_sort BangTerm w s = refl
made_sort (PrefixTerm o) w s = refl
made_sort NameTerm w s = refl
made_sort TextTerm w s = refl
made_sort (TruthTerm o) w s = refl
made_sort UnitTerm w s = refl
made_sort GroupTerm w s = refl
made_sort PlainInteger w s = refl
made_sort NegativeInteger w s = refl
made_sort WholeFactor w s = refl
made_sort FractionFactor w s = refl
made_sort InfFactor w s = refl
made_sort (JoinType o) w s = refl
made_sort ArrowType w s = refl
made_sort BangType w s = refl
made_sort BagType w s = refl
made_sort NumType w s = refl
made_sort TextType w s = refl
made_sort UnitType w s = refl
made_sort BoolType w s = refl
made_sort GroupType w s = refl

sorts-drop : (n : ℕ) (ps : List StackPart) → sorts_of (drop n ps) ≡ drop n (sorts_of ps)
sorts-drop zero ps = refl
sorts-drop (suc n) [] = refl
sorts-drop (suc n) (p ∷ ps) = sorts-drop n ps

pub sorts-build : (a : Action) (s : State) → sorts (build a s) ≡ gives a ∷ drop (length (takes a)) (sorts s)
unfolding build arity
sorts-build a s = cc (made_sort a (whole a s) s, sorts-drop (length (takes a)) s.parts)

pub sorts-shift : (k : Terminal) (t : Token) (s : State) → sorts (shift k t s) ≡ kept_sorts k ++ sorts s
unfolding shift
sorts-shift Named t s = refl
sorts-shift Numeral t s = refl
sorts-shift Positive t s = refl
sorts-shift Quoted t s = refl
sorts-shift (Keyword w) t s = refl
sorts-shift (Symbol c) t s = refl

pub level_act : {goal : Phrase} (a : Action) (σ : List Item) (s : State) → Level goal (Make a ∷ σ) (sorts s) → Level goal σ (sorts (build a s))
level_act a σ s v = rw (sorts-build a s) (record { enough = (and_parts (begins_with (takes a) (sorts s)) _ v.enough).1; one = v.one })

pub level_token : {goal : Phrase} (k : Terminal) (σ : List Item) (t : Token) (s : State) → Level goal (Take k ∷ σ) (sorts s) → Level goal σ (sorts (shift k t s))
level_token k σ t s v = rw (sorts-shift k t s) (record { enough = v.enough; one = v.one })

pub one_left : {goal : Phrase} (n : ℕ) (σ : List Item) (w : List Token) (s r : State) → ReadsIn n σ w s r → Level goal σ (sorts s) → sorts r ≡ phrase_gives goal ∷ []
one_left zero [] [] s r h v = ap sorts (sym h) ∙ v.one
one_left zero [] (t ∷ w) s r h v = absurd h
one_left zero (i ∷ σ) w s r h v = absurd h
one_left (suc n) [] w s r h v = absurd h
one_left (suc n) (Take k ∷ σ) [] s r h v = absurd h
one_left (suc n) (Take k ∷ σ) (t ∷ w) s r h v = one_left n σ w (shift k t s) r h.1 (level_token k σ t s v)
one_left (suc n) (Make a ∷ σ) w s r h v = one_left n σ w (build a s) r h (level_act a σ s v)
one_left (suc n) (Read a ∷ σ) w s r h v = one_left n (body h.0 ++ σ) w s r h.3 (level_rule h.0 a σ (sorts s) h.1 h.2 v)

-- no endless expanding
quick_at : (p : ℕ) → p < rule_count → (lead (body p) < weight (head p)) × ((may_be_empty (head p) || must (body p)) ≡ true)
unfolding is_quick
quick_at p l = let x = and_parts _ _ (below_each rule_count is_quick quick p l) in (ltb-true _ _ x.0, x.1)

lead-append : (β σ : List Item) → lead (β ++ σ) ≤ lead β + lead σ
lead-append [] σ = omega arith
lead-append (Take k ∷ β) σ = omega arith
lead-append (Make k ∷ β) σ = omega (arith, lead-append β σ)
lead-append (Read k ∷ β) σ = elim (cases_Bool (may_be_empty k)) [ inl e ↦ rw e (omega (arith, lead-append β σ)) | inr e ↦ rw e (omega arith) ]

lead-must : (β σ : List Item) → must β ≡ true → lead (β ++ σ) ≡ lead β
lead-must [] σ h = absurd (cc h)
lead-must (Take k ∷ β) σ h = refl
lead-must (Make k ∷ β) σ h = ap suc (lead-must β σ h)
lead-must (Read k ∷ β) σ h = elim (cases_Bool (may_be_empty k)) [
  | inl e ↦ let m : must β ≡ true = rw e at h in rw e (ap (λ n. weight k + n) (lead-must β σ m))
  | inr e ↦ rw e refl
]

pub lead_rule : (p : ℕ) (a : Phrase) (σ : List Item) → p < rule_count → head p ≡ a → lead (body p ++ σ) < lead (Read a ∷ σ)
lead_rule p a σ l e =
    let q = quick_at p l in
    let w : weight (head p) ≡ weight a = ap weight e in
    elim (cases_Bool (may_be_empty a)) [
      | inl n ↦ rw n (omega (arith, q.0, w, lead-append (body p) σ))
      | inr n ↦
          let f : may_be_empty (head p) ≡ false = ap may_be_empty e ∙ n in
          let m : must (body p) ≡ true = rw f at q.1 in
          rw n (omega (arith, q.0, w, lead-must (body p) σ m))
    ]

-- the code's body is the rule's
row_at : (n i p : ℕ) (d : List Item) → i < n → get_or (parts_from p n) i d ≡ part_of (p + i)
row_at zero i p d l = absurd (omega arith)
row_at (suc n) zero p d l = let e : p + 0 ≡ p = omega arith in rw e refl
row_at (suc n) (suc i) p d l = let e : suc p + i ≡ p + suc i = omega arith in row_at n i (suc p) d (omega arith) ∙ ap part_of e

rule_at : (n i p : ℕ) (d : List Item) → i < n → get_or (bodies_from p n) i d ≡ body (p + i)
rule_at zero i p d l = absurd (omega arith)
rule_at (suc n) zero p d l = let e : p + 0 ≡ p = omega arith in rw e refl
rule_at (suc n) (suc i) p d l = let e : suc p + i ≡ p + suc i = omega arith in rule_at n i (suc p) d (omega arith) ∙ ap body e

part_is : (p : ℕ) → p < rule_count → part_of p ≡ body p
part_is p l =
    let e : 0 + p ≡ p = omega arith in
    ap part_of (sym e) ∙ sym (row_at rule_count p 0 [] l) ∙ ap (λ xs. get_or xs p []) parted ∙ rule_at rule_count p 0 [] l ∙ ap body e

part_at : (p : ℕ) → p < rule_count → (take (get_or STARTS (suc p) 0 - get_or STARTS p 0) (drop (get_or STARTS p 0) ITEMS) ≡ body p) × (get_or STARTS p 0 ≤ get_or STARTS (suc p) 0) × (get_or STARTS (suc p) 0 ≤ 276)
unfolding is_part part_of
part_at p l =
    let x = and_parts _ _ (below_each rule_count is_part placed p l) in
    (part_is p l, leb-true _ _ x.0, leb-true _ _ x.1)

pub row_default : (rows : List (List ℕ)) (i : ℕ) (d e : List ℕ) (c : ℕ) → i < length rows → get_or (get_or rows i d) c 0 ≡ get_or (get_or rows i e) c 0
row_default [] i d e c l = absurd (omega arith)
row_default (r ∷ rows) zero d e c l = refl
row_default (r ∷ rows) (suc i) d e c l = row_default rows i d e c (omega arith)

pub take-down : (xs : List Item) (end rest : ℕ) (d : Item) → 0 < rest → rest ≤ end → rest ≤ length xs →
    take (end - (rest - 1)) (drop (rest - 1) xs) ≡ get_or xs (rest - 1) d ∷ take (end - rest) (drop rest xs)
take-down xs end zero d p l b = absurd (omega arith)
take-down xs end (suc r) d p l b =
    let i : suc r - 1 ≡ r = omega arith in
    let m : r < length xs = omega arith in
    let e : end - r ≡ suc (end - suc r) = omega arith in
    rw i (rw (e, drop-cons xs r d) refl)

pub take_none : (xs : List Item) (n : ℕ) → take (n - n) xs ≡ []
take_none xs n = let e : n - n ≡ 0 = omega arith in rw e refl

pub items_length : length ITEMS ≡ 276
items_length = refl

pub body_from : (p a b : ℕ) → p < rule_count → a ≡ get_or STARTS p 0 → b ≡ get_or STARTS (p + 1) 0 →
    (take (b - a) (drop a ITEMS) ≡ body p) × (a ≤ b) × (b ≤ 276)
body_from p a b l h k =
    let e : p + 1 ≡ suc p = omega arith in
    let k' : b ≡ get_or STARTS (suc p) 0 = k ∙ ap (λ n. get_or STARTS n 0) e in
    rw (h, k') (part_at p l)

-- one more item of the body lies on the stack
pub pushed : (old items new : List Item) (x d : Item) (end rest : ℕ) → 0 < rest → rest ≤ end → rest ≤ 276 →
    reverse items ≡ take (end - rest) (drop rest ITEMS) ++ old → x ≡ get_or ITEMS (rest - 1) d → new ≡ items ++ x ∷ [] →
    reverse new ≡ take (end - (rest - 1)) (drop (rest - 1) ITEMS) ++ old
pushed old items new x d end rest p l b h e n =
    let t = take-down ITEMS end rest d p l (omega (arith, items_length)) in
    rw (n, t) (reverse-append items (x ∷ []) ∙ cc (h, e))

pub taken : (old items : List Item) (end start rest : ℕ) (β : List Item) → start ≤ rest → rest ≤ start →
    reverse items ≡ take (end - rest) (drop rest ITEMS) ++ old → take (end - start) (drop start ITEMS) ≡ β → reverse items ≡ β ++ old
taken old items end start rest β l k h e =
    let s : rest ≡ start = omega arith in
    h ∙ cc (e, s)
