-- One owner's pass, from the opening of its book to the closing.
use Rattle.std.proofs.Common.{◌≡◌, ℕ, zero, suc, ◌<◌, List, [], ◌∷◌, ◌++◌, length, slice_get, slice_index_or, Some, refl, sym, ◌∙◌, ap, subst, arith, length-append}
use Rattle.std.specs.List.{All}
use Rattle.std.proofs.lemmas.Option.{slice_get_within}
use Rattle.std.proofs.lemmas.List.{length-map}
use Rattle.atomic_table.specs.Seated.{TableId}
use Rattle.journal_records.specs.declared.records.Record.{Record}
use Rattle.budget_ledger.specs.Account.{Account}
use Rattle.owner_lock.specs.Known.{whole_share}
use Rattle.owner_desk.specs.Passes.{Pass}
use Rattle.owner_desk.specs.Shared.{Shared}
use Rattle.owner_house.specs.Owner.{Owner}
use Rattle.owner_house.specs.House.{House}
use Rattle.session_laws.specs.SessionCore.Blocks.{AreDealt, crew_of, script_blocks}
use Rattle.session_laws.specs.SessionCore.Bundles.{Bundle, bundle_of}
use Rattle.session_laws.specs.SessionCore.Code.{AreFresh, ArePasses, IsClosedWith, found_by, fresh_pass, pass_at}
use Rattle.session_laws.specs.SessionCore.Gathered.{AreGathered, part_of}
use Rattle.session_laws.specs.SessionCore.Worked.{HasWorked}
use Rattle.session_laws.proofs.Crew.{joined_gathered}
use Rattle.session_laws.proofs.Dealing.{are_dealt}
use Rattle.session_laws.proofs.Worked.{worked_joined}
use Rattle.generated_run.specs.Answered.{IsAnsweredOver}

-- the whole share, alone
pub one_whole : All (λ s. s ≡ whole_share) (whole_share ∷ [])
one_whole = one
  where
    one : (k : ℕ) (d : ℕ) → k < 1 → slice_index_or (whole_share ∷ []) k d ≡ whole_share
    one zero d less = refl
    one (suc k) d less = absurd (omega (arith, less))

fresh_at : (book : Account) (o : ℕ) → pass_at (fresh_pass book ∷ []) o ≡ fresh_pass (pass_at (fresh_pass book ∷ []) o).opened
fresh_at book zero = refl
fresh_at book (suc o) = refl

pub are_fresh : (house : House) (passes : List Pass) (book : Account) → passes ≡ fresh_pass book ∷ [] → AreFresh house passes
are_fresh house passes book is = subst (AreFresh house) (sym is) (λ o owner here. fresh_at book o)

pub are_passes : (house : House) (passes : List Pass) (book : Account) → passes ≡ fresh_pass book ∷ [] → length house.owners ≡ 1
    → ((owner : Owner) → slice_get house.owners 0 ≡ Some owner → book.ledger.entry ≡ owner.entry) → ArePasses house passes
are_passes house passes book is one entry = subst (ArePasses house) (sym is) (record { each_has = sym one; entries = at })
  where
    at : (o : ℕ) (owner : Owner) → slice_get house.owners o ≡ Some owner → (pass_at (fresh_pass book ∷ []) o).opened.ledger.entry ≡ owner.entry
    at zero owner here = entry owner here
    at (suc o) owner here = absurd (omega (arith, one, slice_get_within house.owners (suc o) owner here))

-- the last of one is the only one
alone : {X : Type 0} (xs rest : List X) (x : X) → xs ≡ rest ++ x ∷ [] → length xs ≡ 1 → xs ≡ x ∷ []
alone xs [] x is one = is
alone xs (y ∷ rest) x is one = absurd (omega (arith, one, ap length is, length-append rest (x ∷ [])))

-- ---- the closing

pub many_passes : (items : List Shared) (bundle : Bundle) (desks : List TableId) → bundle_of items ≡ bundle → bundle.locks ≡ desks → length desks ≡ 1 → length items ≡ 1
many_passes items bundle desks is here one = sym (length-map items (λ (s : Shared). s.lock)) ∙ ap (λ (b : Bundle). length b.locks) is ∙ ap length here ∙ one

pub only_pass : (items rest : List Shared) (pass : Shared) (bundle : Bundle) (desks : List TableId) → items ≡ rest ++ pass ∷ [] → bundle_of items ≡ bundle → bundle.locks ≡ desks
    → length desks ≡ 1 → bundle ≡ bundle_of (pass ∷ [])
only_pass items rest pass bundle desks last is here one = sym is ∙ ap bundle_of (alone items rest pass last (many_passes items bundle desks is here one))

-- its desk is the one desk
pub own_desk : (bundle : Bundle) (pass : Shared) (desks rest : List TableId) (desk : TableId) → bundle ≡ bundle_of (pass ∷ []) → bundle.locks ≡ desks → desks ≡ rest ++ desk ∷ []
    → pass.lock ≡ desk
own_desk bundle pass desks rest desk is here last =
    let locks : pass.lock ∷ [] ≡ desks = sym (ap (λ (b : Bundle). b.locks) is) ∙ here in
    let both : pass.lock ∷ [] ≡ desk ∷ [] = locks ∙ alone desks rest desk last (sym (ap length locks)) in
    cc (both)

-- it has the whole share
pub own_share : (bundle : Bundle) (pass : Shared) → bundle ≡ bundle_of (pass ∷ []) → All (λ s. s ≡ whole_share) bundle.shares → pass.share ≡ whole_share
own_share bundle pass is whole = subst (λ (b : Bundle). All (λ s. s ≡ whole_share) b.shares) is whole 0 0 (omega arith)

-- and what it knows is what the one pass knows
pub own_knows : (bundle : Bundle) (pass : Shared) → bundle ≡ bundle_of (pass ∷ []) → pass_at bundle.knows 0 ≡ pass.knows
own_knows bundle pass is = ap (λ (b : Bundle). pass_at b.knows 0) is

-- ---- the opening

-- what a pass on a book just opened makes of a bundle
abbrev pub first_bundle : TableId → Account → Bundle
first_bundle lock book = record { locks = lock ∷ []; shares = whole_share ∷ []; knows = fresh_pass book ∷ [] }

pub is_first : (items : List Shared) (pass : Shared) (bundle : Bundle) (lock : TableId) (book : Account) → items ≡ pass ∷ [] → bundle ≡ bundle_of items
    → pass ≡ record { lock = lock; share = whole_share; knows = fresh_pass book } → bundle ≡ first_bundle lock book
is_first items pass bundle lock book items_are is pass_is = is ∙ ap bundle_of (items_are ∙ ap (λ (p : Shared). p ∷ []) pass_is)

-- what was worked by the streams' draws was worked by the key's
pub worked_as : (house : House) (given draws : ℕ → ℕ → ℕ → ℕ) (workers : ℕ) (script text : List ℕ) (old new : List Pass) → given ≡ draws → HasWorked house given workers script text old new
    → HasWorked house draws workers script text old new
worked_as house given draws workers script text old new drawn worked = subst (λ (d : ℕ → ℕ → ℕ → ℕ). HasWorked house d workers script text old new) drawn worked

-- The script was answered, by what the pass knows when the book is closed.
pub answered_over : (house : House) (draws : ℕ → ℕ → ℕ → ℕ) (workers : ℕ) (script text : List ℕ) (before after : List Pass) (book given : Account) (owner : Owner) → 0 < workers
    → before ≡ fresh_pass book ∷ [] → book.ledger.found ≡ [] → HasWorked house draws workers script text before after
    → IsClosedWith (pass_at after 0) given.ledger.records given.storage.closed → slice_get house.owners 0 ≡ Some owner → IsAnsweredOver house draws workers script given.ledger.records
answered_over house draws workers script text before after book given owner some first none h shut here =
    let records = given.ledger.records in
    let crew = crew_of workers 0 (script_blocks script) in
    let xs = h.exchanges in
    let dealt : AreDealt house script workers = are_dealt house script workers some in
    let found : found_by before 0 ≡ [] = ap (λ (ps : List Pass). (pass_at ps 0).opened.ledger.found) first ∙ none in
    let joined = worked_joined house draws workers crew 0 xs (pass_at before 0) (pass_at after 0) records given.storage.closed dealt.crews (are_fresh house before book first 0 owner here)
    (h.owners 0 owner here) shut in
    record {
      exchanges = xs;
      turns = h.turns_are;
      gathered = subst (λ (rs : List Record). AreGathered house draws workers crew 0 rs xs records) found
          (joined_gathered house draws workers crew (λ i. part_of crew i 0 xs) xs 0 owner (found_by before 0) records here dealt.crews (λ i less. refl) joined);
    }
