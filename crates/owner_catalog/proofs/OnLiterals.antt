-- What an example unfolds to compute the catalog of a text.
use Rattle.std.specs.Prelude.{⊤}
use lib.Utf8.{encode}
use Rattle.std.specs.Fmt.{digits}
use Rattle.std.specs.Str.{chars, is_utf8}
use Rattle.std.specs.Float.Numeral.{scan_numeral}
use Rattle.serde_json.proofs.OnLiterals.{serde_json_on_literals}
use Rattle.fz_lexer.specs.Bytes.{is_digit, is_letter, is_name_byte}
use Rattle.fz_lexer.specs.Words.{spelling}
use Rattle.owner_catalog.specs.Forms.{is_reserved, is_catalog_name, is_table_name, is_file_byte, is_file_name, is_key_byte, is_key}
use Rattle.owner_catalog.specs.Members.{member_name}
use Rattle.owner_catalog.specs.Fault.{formed_text_in, bounded_number_in, object_in, counted_in, items_from, list_in}
use Rattle.owner_catalog.specs.Catalog.{kind_in, column_in, table_in, one_in, partition_in, limit_in, owner_in, catalog_in, json_in, catalog_in_file}

unfoldable json_on_literals : ⊤
unfolding serde_json_on_literals is_utf8 chars encode digits scan_numeral
json_on_literals = tt

unfoldable forms_on_literals : ⊤
unfolding is_digit is_letter is_name_byte spelling is_reserved is_catalog_name is_table_name is_file_byte is_file_name is_key_byte is_key
forms_on_literals = tt

unfoldable parts_on_literals : ⊤
unfolding member_name formed_text_in bounded_number_in object_in counted_in items_from list_in
parts_on_literals = tt

unfoldable pub on_literals : ⊤
unfolding json_on_literals forms_on_literals parts_on_literals kind_in column_in table_in one_in partition_in limit_in owner_in catalog_in json_in catalog_in_file
on_literals = tt
