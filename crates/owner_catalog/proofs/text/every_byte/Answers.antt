use Rattle.std.proofs.Common.{◌≡◌, ◌∙◌, ◌&&◌, ℕ, Bool, List, [], ◌∷◌, refl, ap, rules, tests}
use Rattle.std.specs.List.{list_all}
use Rattle.std.proofs.lemmas.Iterator.{YieldsList-from_slice}
use Rattle.std.proofs.lemmas.Iterator.Search.{all_from_yields_List}
use Rattle.fz_lexer.specs.Bytes.{every_byte}
use Rattle.owner_catalog.specs.Forms.{is_byte_of}
use Rattle.owner_catalog.proofs.text.every_byte.Goals as goal

every_byte-list_all : (f : ℕ → Bool) (w : List ℕ) → list_all f w ≡ every_byte f w
every_byte-list_all f [] = refl
every_byte-list_all f (b ∷ w) = ap (λ r. f b && r) (every_byte-list_all f w)

pub returns : goal.returns
returns c =
    all_from_yields_List (is_byte_of c.args.form) _ _ _ c.all.ensures.ran (YieldsList-from_slice c.args.text.now cc) (λ x b q k. search (rules, tests))
    ∙ every_byte-list_all (is_byte_of c.args.form) c.args.text.now
