-- prefixes of what is written
use Rattle.std.proofs.Common.{◌≡◌, ℕ, List, [], ◌∷◌, ◌++◌, Option, Some, None, take, drop, refl, sym, ◌∙◌, ap, append_assoc, append-nil}
use Rattle.std.proofs.lemmas.List.{take-append-drop}
use Rattle.std.specs.Prelude.{Result, Ok, Err, OnErr}
use Rattle.std.specs.Io.KnownBytes.{append_known}
use Rattle.query_server.specs.Due.{IsBeginning}

pub prefix_take : (n : ℕ) (line : List ℕ) → IsBeginning (take n line) line
prefix_take n line = (drop n line, sym (take-append-drop n line))

pub prefix_whole : (text : List ℕ) → IsBeginning text text
prefix_whole text = ([], sym (append-nil text))

pub prefix_of_prefix : (text due all : List ℕ) → IsBeginning text due → IsBeginning due all → IsBeginning text all
prefix_of_prefix text due all (more, is) (rest, whole) = (more ++ rest, whole ∙ ap (λ xs. xs ++ rest) is ∙ append_assoc text more rest)

pub prefix_empty : (text rest : List ℕ) → [] ≡ text ++ rest → (line : List ℕ) → IsBeginning text line
prefix_empty [] rest is line = (line, refl)
prefix_empty (x ∷ xs) rest is line = cc

-- no text is written
pub nothing_put : (known : Option (List ℕ)) → known ≡ append_known known []
nothing_put None = refl
nothing_put (Some bytes) = ap Some (sym (append-nil bytes))

-- a line that stopped in its first piece
pub prefix_first : (text a b c : List ℕ) → IsBeginning text a → IsBeginning text (a ++ b ++ c)
prefix_first text a b c (rest, is) =
    (rest ++ (b ++ c), ap (λ xs. (xs ++ b) ++ c) is ∙ append_assoc (text ++ rest) b c ∙ append_assoc text rest (b ++ c))

pub prefix_second : (text a b c : List ℕ) → IsBeginning text b → IsBeginning (a ++ text) (a ++ b ++ c)
prefix_second text a b c (rest, is) =
    (rest ++ c, ap (λ xs. (a ++ xs) ++ c) is ∙ ap (λ xs. xs ++ c) (sym (append_assoc a text rest)) ∙ append_assoc (a ++ text) rest c)

pub prefix_third : (text a b c : List ℕ) → IsBeginning text c → IsBeginning (a ++ b ++ text) (a ++ b ++ c)
prefix_third text a b c (rest, is) = (rest, ap (λ xs. (a ++ b) ++ xs) is ∙ sym (append_assoc (a ++ b) text rest))

-- what an error says, and what follows from it
pub on_err : {T E : Type 0} (r : Result T E) (P Q : Type 0) → (P → Q) → OnErr r P → OnErr r Q
on_err (Ok x) P Q f h = h
on_err (Err e) P Q f h = f h

pub on_err_any : {T E : Type 0} (r : Result T E) (P : Type 0) → P → OnErr r P
on_err_any (Ok x) P p = tt
on_err_any (Err e) P p = p
