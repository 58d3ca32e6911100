-- Cutting and reading from the left are one.
use Rattle.std.proofs.Common.{◌≡◌, ℕ, zero, suc, List, [], ◌∷◌, ◌++◌, refl, sym, ap, ◌∙◌, subst, append_assoc, append-nil}
use Rattle.fz_lexer.specs.declared.token.Token.{Token}
use Rattle.fz_parser.specs.declared.grammar.Item.{Item}
use Rattle.fz_parser.specs.declared.grammar.Item.TheVariants.{Take, Read, Make}
use Rattle.fz_parser.specs.Parts.{State, shift, build}
use Rattle.fz_parser.specs.Grammar.{body, StandsFor, InTurn, DerivesIn, Derives}
use Rattle.fz_parser.specs.Reads.{ReadsIn, Reads}

-- what is read by the one and then by the other is read by both
pub join : (n m : ℕ) (α β : List Item) (u v : List Token) (s q r : State) → ReadsIn n α u s q → ReadsIn m β v q r → Reads (α ++ β) (u ++ v) s r
join zero m [] β [] v s q r h k = (m, subst (λ x. ReadsIn m β v x r) (sym h) k)
join zero m [] β (t ∷ u) v s q r h k = absurd h
join zero m (i ∷ α) β u v s q r h k = absurd h
join (suc n) m [] β u v s q r h k = absurd h
join (suc n) m (Take x ∷ α) β [] v s q r h k = absurd h
join (suc n) m (Take x ∷ α) β (t ∷ u) v s q r h k = let g = join n m α β u v (shift x t s) q r h.1 k in (suc g.0, (h.0, g.1))
join (suc n) m (Make a ∷ α) β u v s q r h k = let g = join n m α β u v (build a s) q r h k in (suc g.0, g.1)
join (suc n) m (Read a ∷ α) β u v s q r h k =
    let g = join n m (body h.0 ++ α) β u v s q r h.3 k in
    (suc g.0, (h.0, h.1, h.2, subst (λ σ. ReadsIn g.0 σ (u ++ v) s r) (append_assoc (body h.0) α β) g.1))

-- one level: what stands below is read
module _ (D : List Item → List Token → State → State → Type 0) (ih : (σ : List Item) (w : List Token) (s r : State) → D σ w s r → Reads σ w s r) where
  item_down : (i : Item) (w : List Token) (s r : State) → StandsFor D i w s r → Reads (i ∷ []) w s r
  item_down (Take k) w s r h = subst (λ w. Reads (Take k ∷ []) w s r) (sym h.1) (1, (h.2, sym h.3))
  item_down (Make a) w s r h = subst (λ w. Reads (Make a ∷ []) w s r) (sym h.0) (1, sym h.1)
  item_down (Read a) w s r h =
      let g = ih (body h.0) w s r h.3 in
      (suc g.0, (h.0, h.1, h.2, subst (λ σ. ReadsIn g.0 σ w s r) (sym (append-nil (body h.0))) g.1))

  row_down : (σ : List Item) (w : List Token) (s r : State) → InTurn D σ w s r → Reads σ w s r
  row_down [] w s r h = subst (λ w. Reads [] w s r) (sym h.0) (0, sym h.1)
  row_down (i ∷ σ) w s r h =
      let x = item_down i h.0 s h.2 h.4 in
      let y = row_down σ h.1 h.2 r h.5 in
      subst (λ w. Reads (i ∷ σ) w s r) (sym h.3) (join x.0 y.0 (i ∷ []) σ h.0 h.1 s h.2 r x.1 y.1)

pub down : (n : ℕ) (σ : List Item) (w : List Token) (s r : State) → DerivesIn n σ w s r → Reads σ w s r
down zero σ w s r h = absurd h
down (suc n) σ w s r h = row_down (DerivesIn n) (down n) σ w s r h

-- the other way: rows are put together and taken apart, and a higher derivation may stand for a lower one
module _ (D E : List Item → List Token → State → State → Type 0) (up : (σ : List Item) (w : List Token) (s r : State) → D σ w s r → E σ w s r) where
  item_up : (i : Item) (w : List Token) (s r : State) → StandsFor D i w s r → StandsFor E i w s r
  item_up (Take k) w s r h = h
  item_up (Make a) w s r h = h
  item_up (Read a) w s r h = (h.0, h.1, h.2, up (body h.0) w s r h.3)

  row_up : (σ : List Item) (w : List Token) (s r : State) → InTurn D σ w s r → InTurn E σ w s r
  row_up [] w s r h = h
  row_up (i ∷ σ) w s r h = (h.0, h.1, h.2, h.3, item_up i h.0 s h.2 h.4, row_up σ h.1 h.2 r h.5)

higher : (n : ℕ) (σ : List Item) (w : List Token) (s r : State) → DerivesIn n σ w s r → DerivesIn (suc n) σ w s r
higher zero σ w s r h = absurd h
higher (suc n) σ w s r h = row_up (DerivesIn n) (DerivesIn (suc n)) (higher n) σ w s r h

row_split : (D : List Item → List Token → State → State → Type 0) (α β : List Item) (w : List Token) (s r : State) → InTurn D (α ++ β) w s r →
    (u : List Token) × (v : List Token) × (q : State) × (w ≡ u ++ v) × InTurn D α u s q × InTurn D β v q r
row_split D [] β w s r h = ([], w, s, refl, (refl, refl), h)
row_split D (i ∷ α) β w s r h =
    let x = row_split D α β h.1 h.2 r h.5 in
    (h.0 ++ x.0, x.1, x.2, h.3 ∙ ap (λ v. h.0 ++ v) x.3 ∙ sym (append_assoc h.0 x.0 x.1), (h.0, x.0, h.2, refl, h.4, x.4), x.5)

pub up : (n : ℕ) (σ : List Item) (w : List Token) (s r : State) → ReadsIn n σ w s r → DerivesIn (suc n) σ w s r
up zero [] [] s r h = (refl, sym h)
up zero [] (t ∷ w) s r h = absurd h
up zero (i ∷ σ) w s r h = absurd h
up (suc n) [] w s r h = absurd h
up (suc n) (Take k ∷ σ) [] s r h = absurd h
up (suc n) (Take k ∷ σ) (t ∷ w) s r h =
    let x = higher (suc n) σ w (shift k t s) r (up n σ w (shift k t s) r h.1) in
    (t ∷ [], w, shift k t s, refl, (t, refl, h.0, refl), x)
up (suc n) (Make a ∷ σ) w s r h =
    let x = higher (suc n) σ w (build a s) r (up n σ w (build a s) r h) in
    ([], w, build a s, refl, (refl, refl), x)
up (suc n) (Read a ∷ σ) w s r h =
    let x = row_split (DerivesIn n) (body h.0) σ w s r (up n (body h.0 ++ σ) w s r h.3) in
    (x.0, x.1, x.2, x.3, (h.0, h.1, h.2, x.4), row_up (DerivesIn n) (DerivesIn (suc n)) (higher n) σ x.1 x.2 r x.5)

pub one : (σ : List Item) (w : List Token) (s r : State) → (Reads σ w s r → Derives σ w s r) × (Derives σ w s r → Reads σ w s r)
one σ w s r = (λ h. (suc h.0, up h.0 σ w s r h.1), λ h. down h.0 σ w s r h.1)
