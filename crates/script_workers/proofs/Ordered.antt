-- The texts of the workers' blocks, put in the script's order.
use Rattle.std.proofs.Common.{◌≡◌, ◌≢◌, ℕ, zero, suc, ◌+◌, ◌%◌, ◌<◌, ◌≤◌, ◌==◌, Bool, true, false, cond, List, [], ◌∷◌, ◌++◌, length, get_or, replicate, refl, sym, ap, ◌∙◌, subst, arith, length-append, append_assoc, append-nil, eq-eqb}
use Rattle.std.proofs.lemmas.Bool.{ne_eqb}
use Rattle.std.proofs.lemmas.Option.{slice_get-get_or}
use Rattle.std.proofs.Math.Seq.{get_or-append_seam}
use Rattle.std.specs.Prelude.{slice_get, Some}
use Rattle.session_core.specs.Blocks.{own_blocks}
use Rattle.session_core.specs.Code.{room_for_lines}
use Rattle.script_workers.specs.Texts.{KeepsTexts}
use Rattle.script_workers.specs.Crews.{AreFor}
use Rattle.script_workers.specs.declared.texts.Texts.{Texts}
use Rattle.script_workers.proofs.Blocks.{own_next, others_next}

-- Of the texts that are done a worker gave those of its blocks, and it holds those of its blocks to come behind them.
pub record IsDealtOut (count i k : ℕ) (blocks : List (List (List ℕ))) (done : List (List ℕ)) (kept : Texts) (given : ℕ) : Type 0 where
  pub left : List (List ℕ)
  pub holds : KeepsTexts kept (own_blocks count i 0 done ++ left)
  pub given_are : given ≡ length (own_blocks count i 0 done)
  pub fits : AreFor left (own_blocks count i k blocks)

-- a worker's blocks among some and one more
own_push : {A : Type 0} (count i k n : ℕ) (xs : List (List A)) (x : List A) → k + length xs ≡ n → own_blocks count i k (xs ++ x ∷ []) ≡ own_blocks count i k xs ++ cond (n % count == i) (x ∷ []) []
own_push count i k n [] x is = ap (λ m. cond (m % count == i) (x ∷ []) []) (omega arith)
own_push {A} count i k n (y ∷ xs) x is = either (k % count == i) (own_blocks count i (k + 1) xs) (cond (n % count == i) (x ∷ []) []) (own_push count i (k + 1) n xs x (omega arith))
  where
    either : {ys : List (List A)} (b : Bool) (zs es : List (List A)) → ys ≡ zs ++ es → cond b (y ∷ ys) ys ≡ cond b (y ∷ zs) zs ++ es
    either true zs es h = ap (λ ws. y ∷ ws) h
    either false zs es h = h

-- at first none is given
pub none_given : (n i : ℕ) → ◌≡◌ {A = ℕ} (get_or (replicate n 0) i 0) 0
none_given zero i = refl
none_given (suc n) zero = refl
none_given (suc n) (suc i) = none_given n i

-- and in the end all are
pub all_given : (count i k : ℕ) (all : List (List (List ℕ))) (done : List (List ℕ)) (kept : Texts) (given : ℕ) → all ≡ [] → IsDealtOut count i k all done kept given → KeepsTexts kept (own_blocks count i 0 done)
all_given count i k all done kept given none dealt = ends dealt.left dealt.holds (subst (λ bs. AreFor dealt.left (own_blocks count i k bs)) none dealt.fits)
  where
    ends : (left : List (List ℕ)) → KeepsTexts kept (own_blocks count i 0 done ++ left) → AreFor left [] → KeepsTexts kept (own_blocks count i 0 done)
    ends [] holds fits = subst (KeepsTexts kept) (append-nil (own_blocks count i 0 done)) holds
    ends (text ∷ left) holds fits = absurd fits

module _ (count i k : ℕ) (all : List (List (List ℕ))) (block : List (List ℕ)) (blocks : List (List (List ℕ))) (next : all ≡ block ∷ blocks)
    (done : List (List ℕ)) (so_many : length done ≡ k) (kept : Texts) (given : ℕ) (dealt : IsDealtOut count i k all done kept given) where
  -- a block of another worker
  pub others_turn : (text : List ℕ) → k % count ≢ i → IsDealtOut count i (k + 1) blocks (done ++ text ∷ []) kept given
  others_turn text other =
      let same : own_blocks count i 0 (done ++ text ∷ []) ≡ own_blocks count i 0 done =
      own_push count i 0 k done text (omega arith) ∙ ap (λ b. own_blocks count i 0 done ++ cond b (text ∷ []) []) (ne_eqb (k % count) i other) ∙ append-nil (own_blocks count i 0 done) in
      record {
        left = dealt.left;
        holds = subst (λ xs. KeepsTexts kept (xs ++ dealt.left)) (sym same) dealt.holds;
        given_are = dealt.given_are ∙ ap length (sym same);
        fits = subst (AreFor dealt.left) (others_next count i k all block blocks next other) dealt.fits;
      }

  -- a block of its own, which has the first text that is left
  module _ (mine : k % count ≡ i) where
    record IsTurn : Type 0 where
      text : List ℕ
      texts : List (List ℕ)
      is : dealt.left ≡ text ∷ texts
      fits : length text ≤ room_for_lines block
      later : AreFor texts (own_blocks count i (k + 1) blocks)

    turn : IsTurn
    turn = first dealt.left refl (subst (AreFor dealt.left) (own_next count i k all block blocks next mine) dealt.fits)
      where
        first : (left : List (List ℕ)) → dealt.left ≡ left → AreFor left (block ∷ own_blocks count i (k + 1) blocks) → IsTurn
        first [] is fits = absurd fits
        first (text ∷ texts) is fits = record { text = text; texts = texts; is = is; fits = fits.0; later = fits.1 }

    holds_turn : KeepsTexts kept (own_blocks count i 0 done ++ turn.text ∷ turn.texts)
    holds_turn = subst (λ xs. KeepsTexts kept (own_blocks count i 0 done ++ xs)) turn.is dealt.holds

    within_turn : given < length (own_blocks count i 0 done ++ turn.text ∷ turn.texts)
    within_turn = omega (arith, dealt.given_are, length-append (own_blocks count i 0 done) (turn.text ∷ turn.texts))

    pub turn_there : (texts : List (List ℕ)) × KeepsTexts kept texts × (given < length texts)
    turn_there = (own_blocks count i 0 done ++ turn.text ∷ turn.texts, holds_turn, within_turn)

    module _ (text : List ℕ) (at : (texts : List (List ℕ)) → KeepsTexts kept texts → slice_get texts given ≡ Some text) where
      turn_is : turn.text ≡ text
      turn_is = cc (at (own_blocks count i 0 done ++ turn.text ∷ turn.texts) holds_turn, slice_get-get_or (own_blocks count i 0 done ++ turn.text ∷ turn.texts) given [] within_turn, ap (λ n. get_or (own_blocks count i 0 done ++ turn.text ∷ turn.texts) n []) dealt.given_are, get_or-append_seam (own_blocks count i 0 done) turn.text turn.texts [])

      pub turn_fits : length text ≤ room_for_lines block
      turn_fits = subst (λ bytes. length bytes ≤ room_for_lines block) turn_is turn.fits

      pub own_turn : IsDealtOut count i (k + 1) blocks (done ++ text ∷ []) kept (given + 1)
      own_turn =
          let more : own_blocks count i 0 (done ++ text ∷ []) ≡ own_blocks count i 0 done ++ text ∷ [] =
          own_push count i 0 k done text (omega arith) ∙ ap (λ b. own_blocks count i 0 done ++ cond b (text ∷ []) []) (eq-eqb (k % count) i mine) in
          record {
            left = turn.texts;
            holds = subst (KeepsTexts kept) (sym (ap (λ xs. xs ++ turn.texts) more ∙ append_assoc (own_blocks count i 0 done) (text ∷ []) turn.texts)) (subst (λ t. KeepsTexts kept (own_blocks count i 0 done ++ t ∷ turn.texts)) turn_is holds_turn);
            given_are = omega (arith, dealt.given_are, ap length more, length-append (own_blocks count i 0 done) (text ∷ []));
            fits = turn.later;
          }
