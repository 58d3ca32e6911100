-- disks are put back one after another, the last owner's first
use Rattle.std.proofs.Common.{◌≡◌, ℕ, suc, ◌+◌, ◌<◌, ◌≤◌, Bool, List, [], ◌∷◌, ◌++◌, length, Option, Some, None, cond, nat_eq, if◌then◌else◌, refl, sym, ◌∙◌, ap, subst, arith, append-nil, append_assoc, length-append}
use mathlib.Core.Logic.{◌⊎◌, inl, inr}
use Rattle.std.proofs.lemmas.Bool.{cases_eq, eq-eqb}
use Rattle.std.proofs.Math.Seq.{get_or-append_seam}
use Rattle.outside_disks.specs.Stored.{Stored}
use Rattle.outside_bays.specs.Bays.{Changes}
use Rattle.outside_bays.proofs.Shelves.{not-equal}
use Rattle.budget_ledger.specs.Account.{Account}
use Rattle.owner_desk.specs.Passes.{Pass}
use Rattle.session_core.specs.Code.{no_pass, pass_at}
use Rattle.owner_books.specs.Shelves.{Shelf}
use Rattle.owner_books.specs.Books.{ArePutBack, GaveBook, shown_by}
use Rattle.owner_books.proofs.Bundled.{one_fewer}

pub changed_here : (k : ℕ) (now : Option Stored) (old new : Shelf) → Changes k now old new → new k ≡ now
changed_here k now old new changes = changes k ∙ ap (λ (b : Bool). if b then now else old k) (eq-eqb k k refl)

pub changed_elsewhere : (k n : ℕ) (now : Option Stored) (old new : Shelf) → (n ≡ k → ⊥) → Changes k now old new → new n ≡ old n
changed_elsewhere k n now old new isnt changes = changes n ∙ ap (λ (b : Bool). if b then now else old n) (not-equal n k isnt)

pub changed_to : (k j : ℕ) (given shown : Stored) (old new : Shelf) → k ≡ j → given ≡ shown → Changes k (Some given) old new → Changes j (Some shown) old new
changed_to k j given shown old new here is changes =
    subst (λ (i : ℕ). Changes i (Some shown) old new) here (subst (λ (s : Stored). Changes k (Some s) old new) is changes)

-- the books of some owners, and one more
abbrev with_book : (ℕ → Account) → ℕ → Account → ℕ → Account
with_book books k book o = cond (nat_eq o k) book (books o)

book_here : (books : ℕ → Account) (k : ℕ) (book : Account) → with_book books k book k ≡ book
book_here books k book = ap (λ (b : Bool). cond b book (books k)) (eq-eqb k k refl)

book_elsewhere : (books : ℕ → Account) (k : ℕ) (book : Account) (o : ℕ) → (o ≡ k → ⊥) → with_book books k book o ≡ books o
book_elsewhere books k book o isnt = ap (λ (b : Bool). cond b book (books o)) (not-equal o k isnt)

-- An owner's disk is put back as the book shows it that its pass gave.
abbrev pub IsBackAt : List Pass → (books : ℕ → Account) → Shelf → ℕ → Type 0
IsBackAt passes books now o = (now o ≡ Some (shown_by (books o))) × GaveBook (pass_at passes o) (books o)

-- All but the first of these passes' disks are put back.
pub record BackFrom (passes rest : List Pass) (start now : Shelf) : Type 0 where
  pub done : List Pass
  pub split : passes ≡ rest ++ done
  pub books : ℕ → Account
  pub back : (o : ℕ) → length rest ≤ o → o < length passes → IsBackAt passes books now o
  pub taken : (o : ℕ) → o < length rest → now o ≡ None
  pub others : (o : ℕ) → length passes ≤ o → now o ≡ start o

-- at most all of them are left
pub left_few : (passes rest : List Pass) (start now : Shelf) → BackFrom passes rest start now → length rest ≤ length passes
left_few passes rest start now b = let all : length passes ≡ length rest + length b.done = ap length b.split ∙ length-append rest b.done in omega (arith, all)

-- no book is back yet
abbrev no_books : ℕ → Account
no_books o = no_pass.opened

pub back_begun : (passes : List Pass) (start : Shelf) → ((o : ℕ) → o < length passes → start o ≡ None) → BackFrom passes passes start start
back_begun passes start taken = record {
  done = [];
  split = sym (append-nil passes);
  books = no_books;
  back = λ o past within. absurd (omega (arith, past, within));
  taken = taken;
  others = λ o past. refl;
}

-- what is put back at the seam, and what was before
back_at : (passes rest : List Pass) (pass : Pass) (book : Account) (books : ℕ → Account) (now later : Shelf) → pass_at passes (length rest) ≡ pass → Changes (length rest) (Some (shown_by book)) now later → GaveBook pass book
    → ((o : ℕ) → length rest + 1 ≤ o → o < length passes → IsBackAt passes books now o)
    → (o : ℕ) → length rest ≤ o → o < length passes → (o ≡ length rest) ⊎ (o ≡ length rest → ⊥) → IsBackAt passes (with_book books (length rest) book) later o
back_at passes rest pass book books now later seam changes gave before o past within (inl is) =
    subst (λ (n : ℕ). IsBackAt passes (with_book books (length rest) book) later n) (sym is)
    (subst (λ (b : Account). (later (length rest) ≡ Some (shown_by b)) × GaveBook (pass_at passes (length rest)) b) (sym (book_here books (length rest) book))
    (changed_here (length rest) (Some (shown_by book)) now later changes, subst (λ (p : Pass). GaveBook p book) (sym seam) gave))
back_at passes rest pass book books now later seam changes gave before o past within (inr isnt) =
    let more : length rest + 1 ≤ o = next (length rest) o past isnt in
    let earlier = before o more within in
    subst (λ (b : Account). (later o ≡ Some (shown_by b)) × GaveBook (pass_at passes o) b) (sym (book_elsewhere books (length rest) book o isnt))
    (changed_elsewhere (length rest) o (Some (shown_by book)) now later isnt changes ∙ earlier.0, earlier.1)
  where
    next : (k o : ℕ) → k ≤ o → (o ≡ k → ⊥) → k + 1 ≤ o
    next k o past isnt = grind (arith, past, isnt)

pub back_more : (passes old rest : List Pass) (pass : Pass) (book : Account) (start now later : Shelf) → old ≡ rest ++ pass ∷ [] → BackFrom passes old start now → Changes (length rest) (Some (shown_by book)) now later
    → GaveBook pass book → BackFrom passes rest start later
back_more passes old rest pass book start now later popped b changes gave =
    let split : passes ≡ rest ++ pass ∷ b.done = b.split ∙ ap (λ (ps : List Pass). ps ++ b.done) popped ∙ append_assoc rest (pass ∷ []) b.done in
    let seam : pass_at passes (length rest) ≡ pass = ap (λ (ps : List Pass). pass_at ps (length rest)) split ∙ get_or-append_seam rest pass b.done no_pass in
    let long = one_fewer old rest pass popped in
    let all : length passes ≡ length rest + length (pass ∷ b.done) = ap length split ∙ length-append rest (pass ∷ b.done) in
    record {
      done = pass ∷ b.done;
      split = split;
      books = with_book b.books (length rest) book;
      back = λ o past within. back_at passes rest pass book b.books now later seam changes gave (λ p more within. b.back p (omega (arith, more, long)) within) o past within (cases_eq o (length rest));
      taken = λ o less. changed_elsewhere (length rest) o (Some (shown_by book)) now later (λ is. omega (arith, less, is)) changes ∙ b.taken o (omega (arith, less, long));
      others = λ o past. changed_elsewhere (length rest) o (Some (shown_by book)) now later (λ is. beyond o (length rest) (length passes) (length b.done) past is all) changes ∙ b.others o past;
    }
  where
    beyond : (o k n d : ℕ) → n ≤ o → o ≡ k → n ≡ k + suc d → ⊥
    beyond o k n d past is all = omega (arith, past, is, all)

pub back_all : (passes rest : List Pass) (start now : Shelf) → length rest ≡ 0 → BackFrom passes rest start now → (books : ℕ → Account) × ArePutBack (length passes) passes books start now
back_all passes rest start now none b = (
  b.books,
  record {
    each = λ o less. (b.back o (omega (arith, none)) less).0;
    gave = λ o less. (b.back o (omega (arith, none)) less).1;
    others = b.others;
  },
)
