-- histories of records, one record more at a time
use Rattle.std.proofs.Common.{◌≡◌, ℕ, zero, suc, ◌≤◌, ◌<◌, List, [], ◌∷◌, ◌++◌, length, take, drop, slice_get, Some, refl, sym, ◌∙◌, ap, subst, arith, append_assoc, append-nil, length-append}
use Rattle.std.proofs.lemmas.Bool.{cases_lt}
use Rattle.std.proofs.lemmas.Option.{slice_get_within}
use Rattle.std.proofs.Math.Seq.{take-append_seam}
use Rattle.std.proofs.lemmas.List.{take-append-le, take-append-drop}
use mathlib.Core.Logic.{◌⊎◌, inl, inr}
use Rattle.journal_records.specs.declared.records.Record.{Record}
use Rattle.budget_core.specs.Entries.{Entry}
use Rattle.budget_core.specs.Legal.{MayFollow, IsHistory, IsLegal}

-- a record before the seam, the record at the seam
pub slice_get-append-lt : {X : Type 0} → (xs ys : List X) (k : ℕ) → k < length xs → slice_get (xs ++ ys) k ≡ slice_get xs k
slice_get-append-lt [] ys k h = absurd (omega arith)
slice_get-append-lt (x ∷ xs) ys zero h = refl
slice_get-append-lt (x ∷ xs) ys (suc k) h = slice_get-append-lt xs ys k (omega arith)

pub slice_get-append-seam : {X : Type 0} → (xs : List X) (y : X) (ys : List X) → slice_get (xs ++ y ∷ ys) (length xs) ≡ Some y
slice_get-append-seam [] y ys = refl
slice_get-append-seam (x ∷ xs) y ys = slice_get-append-seam xs y ys

-- what stands in a list with one element more
pub push_cases : {X : Type 0} → (xs : List X) (y : X) (k : ℕ) (z : X) → slice_get (xs ++ y ∷ []) k ≡ Some z → ((k < length xs) × (slice_get xs k ≡ Some z)) ⊎ ((k ≡ length xs) × (y ≡ z))
push_cases xs y k z at = elim (cases_lt k (length xs)) [
  | inl h ↦ inl (h, sym (slice_get-append-lt xs (y ∷ []) k h) ∙ at)
  | inr h ↦
      let within : k < length (xs ++ y ∷ []) = slice_get_within (xs ++ y ∷ []) k z at in
      let seam : k ≡ length xs = omega (arith, length-append xs (y ∷ [])) in
      let read : slice_get (xs ++ y ∷ []) (length xs) ≡ Some y = slice_get-append-seam xs y [] in
      let there : Some y ≡ Some z = sym read ∙ sym (ap (slice_get (xs ++ y ∷ [])) seam) ∙ at in
      inr (seam, cc)
]

-- The empty list is a history.
pub history-nil : (entry : Entry) → IsHistory entry []
history-nil entry = record { follows = λ k next at. cc }

-- a history without its last records
pub history-front : (entry : Entry) (xs ys : List Record) → IsHistory entry (xs ++ ys) → IsHistory entry xs
history-front entry xs ys h = record {
  follows = λ k next at.
      let inside : k < length xs = slice_get_within xs k next at in
      let same : take k (xs ++ ys) ≡ take k xs = take-append-le k xs ys (omega arith) in
      subst (λ (before : List Record). MayFollow entry before next) same (h.follows k next (slice_get-append-lt xs ys k inside ∙ at));
}

-- a record of a history may follow those before it
pub history-seam : (entry : Entry) (xs : List Record) (y : Record) (ys : List Record) → IsHistory entry (xs ++ y ∷ ys) → MayFollow entry xs y
history-seam entry xs y ys h = subst (λ (before : List Record). MayFollow entry before y) (take-append_seam xs (y ∷ ys)) (h.follows (length xs) y (slice_get-append-seam xs y ys))

-- what may follow in records with one more
pub follows-push : (entry : Entry) (records : List Record) (next : Record) (k : ℕ) (other : Record) → MayFollow entry records next
    → (slice_get records k ≡ Some other → MayFollow entry (take k records) other) → slice_get (records ++ next ∷ []) k ≡ Some other → MayFollow entry (take k (records ++ next ∷ [])) other
follows-push entry records next k other may known at = elim (push_cases records next k other at) [
  | inl before ↦
      let same : take k (records ++ next ∷ []) ≡ take k records = take-append-le k records (next ∷ []) (omega arith) in
      subst (λ (all : List Record). MayFollow entry all other) (sym same) (known before.1)
  | inr seam ↦
      let same : take k (records ++ next ∷ []) ≡ records = ap (λ n. take n (records ++ next ∷ [])) seam.0 ∙ take-append_seam records (next ∷ []) in
      subst (λ (all : List Record). MayFollow entry all other) (sym same) (subst (MayFollow entry records) seam.1 may)
]

-- one record more
pub history-append : (entry : Entry) (records : List Record) (next : Record) → IsHistory entry records → MayFollow entry records next → IsHistory entry (records ++ next ∷ [])
history-append entry records next h may = record { follows = λ k other at. follows-push entry records next k other may (h.follows k other) at }

-- What holds of the first records, and of one record more where it may follow, holds of all.
follow-grows : (entry : Entry) (P : List Record → Type 0) → ((xs : List Record) (x : Record) → MayFollow entry xs x → P xs → P (xs ++ x ∷ []))
    → (done rest : List Record) → ((k : ℕ) (next : Record) → length done ≤ k → slice_get (done ++ rest) k ≡ Some next → MayFollow entry (take k (done ++ rest)) next)
    → P done → P (done ++ rest)
follow-grows entry P step done [] follows base = subst P (sym (append-nil done)) base
follow-grows entry P step done (x ∷ rest) follows base =
    let joined : (done ++ x ∷ []) ++ rest ≡ done ++ x ∷ rest = append_assoc done (x ∷ []) rest in
    let may : MayFollow entry done x = subst (λ (before : List Record). MayFollow entry before x) (take-append_seam done (x ∷ rest)) (follows (length done) x (omega arith) (slice_get-append-seam done x rest)) in
    let later : (k : ℕ) (next : Record) → length (done ++ x ∷ []) ≤ k → slice_get ((done ++ x ∷ []) ++ rest) k ≡ Some next → MayFollow entry (take k ((done ++ x ∷ []) ++ rest)) next
    = λ k next past at. subst (λ (all : List Record). MayFollow entry (take k all) next) (sym joined) (follows k next (omega (arith, length-append done (x ∷ []))) (ap (λ all. slice_get all k) (sym joined) ∙ at)) in
    subst P joined (follow-grows entry P step (done ++ x ∷ []) rest later (step done x may base))

-- What holds of no records, and of one record more, holds of each history.
pub history-induction : (entry : Entry) (P : List Record → Type 0) → P [] → ((xs : List Record) (x : Record) → IsHistory entry xs → MayFollow entry xs x → P xs → P (xs ++ x ∷ []))
    → (records : List Record) → IsHistory entry records → P records
history-induction entry P base step records h =
    (follow-grows entry (λ xs. IsHistory entry xs × P xs) (λ xs x may known. (history-append entry xs x known.0 may, step xs x known.0 may known.1)) [] records (λ k next past at. h.follows k next at) (history-nil entry, base)).1

-- a list begins with its prefix
pub prefix_split : {X : Type 0} → (found records : List X) → take (length found) records ≡ found → found ++ drop (length found) records ≡ records
prefix_split found records begins = ap (λ all. all ++ drop (length found) records) (sym begins) ∙ take-append-drop (length found) records

-- What holds of the found records, and of one record more, holds of legal records.
pub legal-induction : (entry : Entry) (found : List Record) (P : List Record → Type 0) → P found → ((xs : List Record) (x : Record) → MayFollow entry xs x → P xs → P (xs ++ x ∷ []))
    → (records : List Record) → IsLegal entry found records → P records
legal-induction entry found P base step records l =
    let split : found ++ drop (length found) records ≡ records = prefix_split found records l.begins in
    let follows : (k : ℕ) (next : Record) → length found ≤ k → slice_get (found ++ drop (length found) records) k ≡ Some next → MayFollow entry (take k (found ++ drop (length found) records)) next
    = subst (λ (all : List Record). (k : ℕ) (next : Record) → length found ≤ k → slice_get all k ≡ Some next → MayFollow entry (take k all) next) (sym split) l.follows in
    subst P split (follow-grows entry P step found (drop (length found) records) follows base)

-- Records that are legal after a history are a history.
pub legal-history : (entry : Entry) (found records : List Record) → IsHistory entry found → IsLegal entry found records → IsHistory entry records
legal-history entry found records h l = legal-induction entry found (IsHistory entry) h (λ xs x may known. history-append entry xs x known may) records l
