-- The signature that tables stand for.
use Rattle.std.specs.Prelude.{List, map}
use Rattle.fz_ast.specs.Names.{name_of}
use Rattle.fz_ast.specs.Signature.{TableType as Table, Signature}
use Rattle.fz_ast.specs.declared.sig.TableType.{TableType}

abbrev pub table_of : TableType → Table
table_of t = record { name = name_of t.name; row = t.row }

abbrev pub signature_of : List TableType → Signature
signature_of ts = map table_of ts
