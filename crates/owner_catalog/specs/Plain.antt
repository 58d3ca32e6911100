-- A JSON value with no float in it, whose compact text is known.
use Rattle.std.specs.Prelude.{◌≡◌, false}
use Rattle.serde_json.specs.View.{view}
use Rattle.serde_json.specs.Written.{has_float}
use Rattle.serde_json.specs.declared.value.Value.{Value}

abbrev pub HasNoFloat : Value → Type 0
HasNoFloat value = has_float (view value) ≡ false
