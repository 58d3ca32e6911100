-- contents of files and of the source: those that are told, or some
use Rattle.std.proofs.Common.{◌≡◌, ℕ, List, [], Option, Some, None, refl, subst}
use Rattle.catalog_loading.specs.Files.{Contents, ReadsToCome, AreTold, always}
use Rattle.query_server.specs.Due.{ForContents, IsLeftToRead}
use Rattle.catalog_loading.proofs.Reached.{any_reads}

-- some bytes of a source
pub any_left : (left : Option (List ℕ)) → (script : List ℕ) × IsLeftToRead left script
any_left None = ([], tt)
any_left (Some bytes) = (bytes, refl)

-- What is so of all contents is so at some.
pub at_some : (held : Option Contents) (left : Option (List ℕ)) (P : ReadsToCome → List ℕ → Type 0) → ((reads : ReadsToCome) (script : List ℕ) → P reads script) → ForContents held left P
at_some held left P p =
    let some = any_reads held in
    let script = any_left left in
    (some.0, script.0, some.1, script.1, p some.0 script.0)

-- what is said of contents
pub for_contents : (held : Option Contents) (left : Option (List ℕ)) (P Q : ReadsToCome → List ℕ → Type 0) → ((reads : ReadsToCome) (script : List ℕ) → P reads script → Q reads script) → ForContents held left P → ForContents held left Q
for_contents held left P Q f (reads, script, told, is, p) = (reads, script, told, is, f reads script p)

-- where files tell what they hold
pub at_held : (held : Contents) (known : Option Contents) (left : Option (List ℕ)) (P : ReadsToCome → List ℕ → Type 0) → known ≡ Some held → ForContents known left P → (script : List ℕ) × P (always held) script
at_held held known left P same (reads, script, told, is, p) =
    let told : AreTold (Some held) reads = subst (λ (h : Option Contents). AreTold h reads) same told in
    (script, subst (λ (rs : ReadsToCome). P rs script) told p)

-- and the source its bytes
pub at_told : (held : Contents) (script : List ℕ) (known : Option Contents) (left : Option (List ℕ)) (P : ReadsToCome → List ℕ → Type 0) → known ≡ Some held → left ≡ Some script → ForContents known left P → P (always held) script
at_told held script known left P same source (reads, other, told, is, p) =
    let told : AreTold (Some held) reads = subst (λ (h : Option Contents). AreTold h reads) same told in
    let is : IsLeftToRead (Some script) other = subst (λ (l : Option (List ℕ)). IsLeftToRead l other) source is in
    subst (λ (s : List ℕ). P (always held) s) is (subst (λ (rs : ReadsToCome). P rs other) told p)
