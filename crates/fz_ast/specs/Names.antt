-- The bytes of a name and of a text.
use Rattle.std.specs.Prelude.{ℕ, List}
use Rattle.fz_ast.specs.Kept.{kept}
use Rattle.fz_ast.specs.Terms.{Name as Bytes}
use Rattle.fz_ast.specs.declared.name.Name.{Name}
use Rattle.fz_ast.specs.declared.name.Text.{Text}

abbrev pub name_of : Name → Bytes
name_of x = kept x.len x.bytes

abbrev pub text_of : Text → List ℕ
text_of t = kept t.len t.bytes
