-- Which connections come to a door and which were handed back to it, where it is told.
use Rattle.std.specs.Prelude.{◌≡◌, List, [], ◌∷◌, ◌++◌, Option, option_map}
use Rattle.outside_links.specs.Links.{Connection}

-- From the connections that were to come to those that are still to come, this one has come, the first of them.
abbrev pub HasCome : (old : Option (List Connection)) → Connection → (new : Option (List Connection)) → Type 0
HasCome old come new = old ≡ option_map (λ coming. come ∷ coming) new

-- From the connections that had been handed back to those that are handed back now, this one was added, as the last.
abbrev pub HasServed : (old : Option (List Connection)) → Connection → (new : Option (List Connection)) → Type 0
HasServed old back new = new ≡ option_map (λ served. served ++ back ∷ []) old
