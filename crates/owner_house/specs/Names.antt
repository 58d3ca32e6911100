-- Names of tables that replies say.
use Rattle.std.specs.Prelude.{IsTrue, [], ◌∷◌, ⊤}
use Rattle.fz_ast.specs.Signature.{Signature}
use Rattle.wire_lines.specs.Name.{is_name}

-- each table's name can be said in a reply
abbrev pub AreNames : Signature → Type 0
AreNames [] = ⊤
AreNames (t ∷ ts) = IsTrue (is_name t.name) × AreNames ts
