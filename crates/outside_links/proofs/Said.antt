-- What was said over a connection, in two goes.
use Rattle.std.specs.Prelude.{◌≡◌, ℕ, List, [], ◌++◌, Option, None, Some, refl}
use Rattle.std.specs.Io.KnownBytes.{append_known}
use Rattle.outside_links.specs.Links.{HasGiven, HasTaken}
use Rattle.fz_outside.proofs.Known.{append_known-++, taken-further}
use Rattle.std.proofs.Common.{ap, ◌∙◌, append-nil, sym}

pub given_none : (old new : Option (List ℕ)) → new ≡ old → HasGiven old [] new
given_none old None is = sym is
given_none old (Some xs) is = sym is

pub given_further : (old mid new : Option (List ℕ)) (xs ys : List ℕ) → HasGiven old xs mid → HasGiven mid ys new → HasGiven old (xs ++ ys) new
given_further old mid new xs ys first second = taken-further old mid new xs ys first second

pub taken_none : (old new : Option (List ℕ)) → new ≡ old → HasTaken old [] new
taken_none None new is = is
taken_none (Some xs) new is = is ∙ ap Some (sym (append-nil xs))

pub taken_further : (old mid new : Option (List ℕ)) (xs ys : List ℕ) → HasTaken old xs mid → HasTaken mid ys new → HasTaken old (xs ++ ys) new
taken_further old mid new xs ys first second =
    second ∙ ap (λ (known : Option (List ℕ)). append_known known ys) first ∙ append_known-++ old xs ys
