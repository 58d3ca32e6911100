-- a bundle of passes, from whose end one is popped, or to which one is pushed
use Rattle.std.proofs.Common.{◌≡◌, ◌+◌, List, [], ◌∷◌, ◌++◌, length, map, Some, refl, sym, ◌∙◌, ap, arith, length-append}
use Rattle.std.specs.List.{All}
use Rattle.std.proofs.lemmas.List.{length-map, map-append}
use Rattle.std.proofs.lemmas.List.Elements.{All-pop, All-push, All-same}
use Rattle.atomic_table.specs.Seated.{TableId}
use Rattle.owner_desk.specs.Shared.{Shared}
use Rattle.owner_lock.specs.Known.{whole_share}
use Rattle.session_core.specs.Bundles.{Bundle, bundle_of}

abbrev pub AreWholeIn : Bundle → Type 0
AreWholeIn bundle = All (λ s. s ≡ whole_share) bundle.shares

abbrev pub AreWhole : List Shared → Type 0
AreWhole passes = AreWholeIn (bundle_of passes)

-- one fewer is left
pub one_fewer : {A : Type 0} (old rest : List A) (last : A) → old ≡ rest ++ last ∷ [] → length old ≡ length rest + 1
one_fewer old rest last popped = ap length popped ∙ length-append rest (last ∷ [])

last_same : {A : Type 0} (xs ys : List A) (x y : A) → xs ++ x ∷ [] ≡ ys ++ y ∷ [] → (xs ≡ ys) × (x ≡ y)
last_same [] [] x y same = (refl, cc (same))
last_same [] (z ∷ ys) x y same = absurd (omega (arith, ap length same, length-append ys (y ∷ [])))
last_same (z ∷ xs) [] x y same = absurd (omega (arith, ap length same, length-append xs (x ∷ [])))
last_same (z ∷ xs) (w ∷ ys) x y same =
    let behind : xs ++ x ∷ [] ≡ ys ++ y ∷ [] = cc (same) in
    let rest = last_same xs ys x y behind in
    let first : z ≡ w = cc (same) in
    (ap (λ v. v ∷ xs) first ∙ ap (λ vs. w ∷ vs) rest.0, rest.1)

map_last : {A B : Type 0} (f : A → B) (old rest : List A) (last : A) → old ≡ rest ++ last ∷ [] → map f old ≡ map f rest ++ f last ∷ []
map_last f old rest last popped = ap (map f) popped ∙ map-append f rest (last ∷ [])

pub many_known : (passes : List Shared) → length (bundle_of passes).knows ≡ length passes
many_known passes = length-map passes (λ (s : Shared). s.knows)

pub many_locks : (passes : List Shared) → length (bundle_of passes).locks ≡ length passes
many_locks passes = length-map passes (λ (s : Shared). s.lock)

pub known_last : (old rest : List Shared) (pass : Shared) → old ≡ rest ++ pass ∷ [] → (bundle_of old).knows ≡ (bundle_of rest).knows ++ pass.knows ∷ []
known_last = map_last (λ (s : Shared). s.knows)

-- the desk that is popped with a pass is its own
pub locks_popped : (old rest : List Shared) (pass : Shared) (desks fewer : List TableId) (desk : TableId) → old ≡ rest ++ pass ∷ [] → desks ≡ fewer ++ desk ∷ []
    → (bundle_of old).locks ≡ desks → ((bundle_of rest).locks ≡ fewer) × (pass.lock ≡ desk)
locks_popped old rest pass desks fewer desk popped next here =
    last_same (bundle_of rest).locks fewer pass.lock desk (sym (map_last (λ (s : Shared). s.lock) old rest pass popped) ∙ here ∙ next)

pub locks_pushed : (old more : List Shared) (pass : Shared) (desks others : List TableId) (desk : TableId) → more ≡ old ++ pass ∷ [] → others ≡ desks ++ desk ∷ []
    → (bundle_of old).locks ≡ desks → pass.lock ≡ desk → (bundle_of more).locks ≡ others
locks_pushed old more pass desks others desk pushed next here same =
    map_last (λ (s : Shared). s.lock) more old pass pushed ∙ ap (λ ls. ls ++ pass.lock ∷ []) here ∙ ap (λ l. desks ++ l ∷ []) same ∙ sym next

pub whole_popped : (old rest : List Shared) (pass : Shared) → old ≡ rest ++ pass ∷ [] → AreWhole old → AreWhole rest × (pass.share ≡ whole_share)
whole_popped old rest pass popped whole =
    All-pop (λ s. s ≡ whole_share) (bundle_of old).shares (bundle_of rest).shares (Some pass.share) (map_last (λ (s : Shared). s.share) old rest pass popped) whole

pub whole_pushed : (old more : List Shared) (pass : Shared) → more ≡ old ++ pass ∷ [] → AreWhole old → pass.share ≡ whole_share → AreWhole more
whole_pushed old more pass pushed whole share =
    All-same (λ s. s ≡ whole_share) (bundle_of more).shares ((bundle_of old).shares ++ pass.share ∷ []) (map_last (λ (s : Shared). s.share) more old pass pushed)
    (All-push (λ s. s ≡ whole_share) (bundle_of old).shares pass.share whole share)
