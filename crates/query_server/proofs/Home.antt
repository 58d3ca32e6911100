-- disks that are at home again
use Rattle.std.proofs.Common.{◌≡◌, ℕ, ◌<◌, ◌≤◌, List, Option, Some, None, refl, sym, subst, arith}
use Rattle.std.specs.Prelude.{IsSome}
use mathlib.Core.Logic.{◌⊎◌, inl, inr}
use Rattle.std.proofs.lemmas.Bool.{cases_lt, cases_order}
use Rattle.outside_disks.specs.Stored.{Stored}
use Rattle.outside_bays.specs.Bays.{Same}
use Rattle.command_words.specs.Command.{Command, command_of}
use Rattle.catalog_loading.specs.Files.{ReadsToCome}
use Rattle.catalog_loading.specs.Loaded.{Loading, new_header}
use Rattle.query_server.specs.Work.{Work}
use Rattle.owner_books.specs.Shelves.{Shelf, AreAtHome, EachDisk, OneDisk}
use Rattle.owner_books.specs.Making.{AreMadeBefore, IsMade}
use Rattle.query_server.specs.Due.{IsOfDisks, work_of}
use Rattle.query_server.specs.Ends.{Ended, IsEndOf}
use Rattle.query_server.proofs.Endings.{ComesTo, answers, counts, grants, makes, refuses, serves, work_comes}

abbrev pub AreBack : (old new : Shelf) → Type 0
AreBack old new = (o : ℕ) → IsSome (old o) → IsSome (new o)

-- what is there has a value
pub some_of : {A : Type 0} (shown : Option A) → IsSome shown → (x : A) × (shown ≡ Some x)
some_of (Some x) is = (x, refl)
some_of None is = cc

same_back : (b a : Shelf) → Same b a → AreBack b a
same_back b a same = λ o home. subst IsSome (sym (same o)) home

-- a disk that went on is at home again
went_back : (b a : Shelf) (o : ℕ) (Goes : Stored → Stored → Type 0) → ((before : Stored) → b o ≡ Some before → (after : Stored) × (a o ≡ Some after) × Goes before after)
    → IsSome (b o) → IsSome (a o)
went_back b a o Goes went home =
    let before = some_of (b o) home in
    let after = went before.0 before.1 in
    subst IsSome (sym after.1) refl

became_back : (n : ℕ) (Goes : (o : ℕ) → Stored → Stored → Type 0) (b a : Shelf) → EachDisk n Goes b a → AreBack b a
became_back n Goes b a became o home = here (cases_lt o n)
  where
    here : (o < n) ⊎ (n ≤ o) → IsSome (a o)
    here (inl less) = went_back b a o (Goes o) (λ before at. became.owned o before less at) home
    here (inr past) = subst IsSome (sym (became.others o past)) home

one_back : (k : ℕ) (Goes : Stored → Stored → Type 0) (b a : Shelf) → OneDisk k Goes b a → AreBack b a
one_back k Goes b a went o home = here (cases_order o k)
  where
    elsewhere : (o ≡ k → ⊥) → IsSome (a o)
    elsewhere isnt = subst IsSome (sym (went.elsewhere o isnt)) home

    here : (o ≡ k) ⊎ ((o < k) ⊎ (k < o)) → IsSome (a o)
    here (inl same) = subst (λ (n : ℕ). IsSome (a n)) (sym same) (went_back b a k Goes went.here (subst (λ (n : ℕ). IsSome (b n)) same home))
    here (inr (inl less)) = elsewhere (λ same. omega (arith, less, same))
    here (inr (inr past)) = elsewhere (λ same. omega (arith, past, same))

made_back : (loading : Loading) (key : List ℕ) (k : ℕ) (Goes : Stored → Stored → Type 0) (b a : Shelf) → AreMadeBefore loading key k Goes b a → AreBack b a
made_back loading key k Goes b a made o home = here (cases_order o k)
  where
    here : (o ≡ k) ⊎ ((o < k) ⊎ (k < o)) → IsSome (a o)
    here (inl same) = subst (λ (n : ℕ). IsSome (a n)) (sym same) (went_back b a k Goes made.here (subst (λ (n : ℕ). IsSome (b n)) same home))
    here (inr (inl less)) = went_back b a o (IsMade (new_header loading key o)) (λ before at. made.made o before less at) home
    here (inr (inr past)) = subst IsSome (sym (made.behind o past)) home

work_back : (command : Option Command) (work : Work) (b a : Shelf) (script : List ℕ) (end : Ended) → ComesTo command work → IsOfDisks command → IsEndOf work b a script end → AreBack b a
work_back command work b a script end (refuses name) takes (inl (is, text, same)) = same_back b a same
work_back command work b a script end (refuses name) takes (inr (cut, same)) = same_back b a same
work_back command work b a script end answers takes (inl (inl refusal)) = became_back _ _ b a refusal.disks
work_back command work b a script end answers takes (inl (inr (versions, found, opened, inl (done, short, answered)))) = became_back _ _ b a answered.disks
work_back command work b a script end answers takes (inl (inr (versions, found, opened, inr (over, long, text, disks)))) = became_back _ _ b a disks
work_back command work b a script end answers takes (inr (cut, disks)) = became_back _ _ b a disks
work_back command work b a script end makes takes (inl (inl (done, text, disks))) = became_back _ _ b a disks
work_back command work b a script end makes takes (inl (inr there)) = made_back _ _ _ _ b a there.disks
work_back command work b a script end makes takes (inr (cut, inl same)) = same_back b a same
work_back command work b a script end makes takes (inr (cut, inr (o, within, made))) = made_back _ _ o _ b a made
work_back command work b a script end counts takes (inl (inl refusal)) = became_back _ _ b a refusal.disks
work_back command work b a script end counts takes (inl (inr (versions, found, opened, done, text, disks))) = became_back _ _ b a disks
work_back command work b a script end counts takes (inr (cut, disks)) = became_back _ _ b a disks
work_back command work b a script end serves takes (inl (inl refusal)) = became_back _ _ b a refusal.disks
work_back command work b a script end serves takes (inl (inr (versions, found, opened, done, text, held))) = became_back _ _ b a held.over.disks
work_back command work b a script end serves takes (inr (cut, inl disks)) = became_back _ _ b a disks
work_back command work b a script end serves takes (inr (cut, inr (versions, found, opened, held))) = became_back _ _ b a held.over.disks
work_back command work b a script end grants takes (inl (inl refusal)) = one_back _ _ b a refusal.disk
work_back command work b a script end grants takes (inl (inr answered)) = one_back _ _ b a answered.disk
work_back command work b a script end grants takes (inr (cut, inl disk)) = one_back _ _ b a disk
work_back command work b a script end grants takes (inr (cut, inr unwritten)) = one_back _ _ b a unwritten.disk
work_back command work b a script end other takes due = cc takes

-- Every disk is at home again.
pub home_again : {T : Type 0} (shelf : T → Shelf) (words : List (List ℕ)) (old new : T) (reads : ReadsToCome) (script : List ℕ) (end : Ended) → IsOfDisks (command_of words) ⊎ (new ≡ old)
    → IsEndOf (work_of words reads) (shelf old) (shelf new) script end → AreBack (shelf old) (shelf new)
home_again shelf words old new reads script end (inl takes) due = work_back _ _ (shelf old) (shelf new) script end (work_comes words reads) takes due
home_again shelf words old new reads script end (inr same) due = λ o home. subst (λ (bay : _). IsSome (shelf bay o)) (sym same) home

pub at_home_again : (n m : ℕ) (b a : Shelf) → m ≡ n → AreAtHome n b → AreBack b a → AreAtHome m a
at_home_again n m b a same home back = λ o within. (let there = home o within in (omega (arith, there.0, same), back o there.1))
