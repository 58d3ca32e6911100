-- The catalog of the row, read from its bytes by computation.
use Rattle.std.proofs.Common.{◌≡◌, refl}
use Rattle.std.specs.Prelude.{Ok}
use Rattle.std.specs.Str.{is_utf8, chars}
use Rattle.std.specs.Fmt.{digits}
use lib.Utf8.{encode}
use Rattle.std.specs.Float.Numeral.{scan_numeral}
use Rattle.json.specs.Json.{value, items, members}
use Rattle.json.specs.Lex.{lex, punctuate}
use Rattle.json.specs.Text.{content}
use Rattle.json.specs.Word.{word, after_number}
use Rattle.json.specs.Print.{escape_byte}
use Rattle.serde_json.specs.Read.{number_of}
use Rattle.fz_lexer.specs.Bytes.{is_letter, is_name_byte}
use Rattle.fz_lexer.specs.Words.{spelling}
use Rattle.owner_catalog.specs.Catalog.{catalog_in_file, json_in, catalog_in, owner_in, table_in, column_in, kind_in, partition_in}
use Rattle.owner_catalog.specs.Fault.{formed_text_in, bounded_number_in, object_in, items_from, counted_in, list_in}
use Rattle.owner_catalog.specs.Members.{member_name}
use Rattle.worked_row.specs.Row.{catalog_text}
use Rattle.worked_row.specs.Held.{catalog}
use Rattle.owner_catalog.specs.Forms.{is_catalog_name, is_table_name, is_reserved, is_file_name, is_file_byte}

pub has_catalog : catalog_in_file catalog_text ≡ Ok catalog
unfolding catalog_in_file json_in catalog_in owner_in table_in column_in kind_in partition_in formed_text_in bounded_number_in object_in items_from counted_in list_in member_name is_catalog_name is_table_name is_reserved is_file_name is_file_byte value items members lex punctuate content word after_number number_of scan_numeral escape_byte spelling is_utf8 chars encode digits is_letter is_name_byte
has_catalog = refl
