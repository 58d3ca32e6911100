-- What a read of a record takes of the records that a reader has left.
use Rattle.std.proofs.Common.{◌≡◌, ◌≢◌, ◌+◌, ◌∙◌, ℕ, Bool, true, false, List, [], ◌∷◌, length, Option, Some, None, Bor, refl, sym, ap, inl}
use Rattle.std.specs.Prelude.{IfSome, IsSome}
use Rattle.std.specs.Option.{option_map_or}
use Rattle.csv.specs.Machine.{Read, next_record}
use Rattle.csv.specs.Reading.{NextIs, ReadRecord, ReadsNext, TookRecord, default_config, expected_len, is_flexible, pending_of, records_from, source_of, took_first}
use Rattle.csv.specs.declared.parser.Config.{Config}
use Rattle.csv.specs.declared.parser.State.{State}
use Rattle.csv.specs.declared.reader.Reader.{Reader}
use Rattle.csv.proofs.ReadFacts.{rows-end}
use Rattle.table_store.specs.Reader.{HasRead, IsBetweenRecords, IsUneven, TakesRecord, bytes_left, records_left}
use Rattle.table_store.proofs.RecordLemmas.{next_record-behind, records_from-more, records_from-none}

-- the text that a reader has left
the_text : (o : Option (List ℕ)) → IsSome o → (text : List ℕ) × (o ≡ Some text)
the_text None h = cc
the_text (Some text) h = (text, refl)

left_of : (cfg : Config) (s : State) (o : Option (List ℕ)) (text : List ℕ) → o ≡ Some text
    → option_map_or (λ text. records_from cfg (length text + 1) s text) o [] ≡ records_from cfg (length text + 1) s text
left_of cfg s o text e = rw e refl

next_some : (o : Option Read) (f : List (List ℕ)) (s : State) (rest : List ℕ) → NextIs o true f s rest → o ≡ Some (f, s, rest)
next_some None f s rest n = cc n
next_some (Some p) f s rest n = rw (n.1, n.2, n.3) refl

-- a read that found a record took the next one of the text
next_of : (cfg : Config) (s t : State) (text : List ℕ) (after : Option (List ℕ)) (f : List (List ℕ)) → ReadsNext cfg s (Some text) after true f t
    → (rest : List ℕ) × (after ≡ Some rest) × (next_record cfg s [] [] text ≡ Some (f, t, rest))
next_of cfg s t text None f r = absurd r
next_of cfg s t text (Some rest) f r = (rest, refl, next_some _ f t rest r)

-- a record is the first that a reader has left
took_record : (a b : Reader (Bor (List ℕ))) (f : List (List ℕ)) → IsBetweenRecords a → TookRecord bytes_left a b f
    → (rest : List (List (List ℕ))) × (records_left a ≡ f ∷ rest)
took_record a b f h r =
    let known = the_text (source_of bytes_left a) h.known in
    let next = next_of default_config a.state b.state known.0 (pending_of (bytes_left b.rdr) b) f (rw (h.defaults, known.1) at r) in (
      records_from default_config (length next.0 + 1) b.state next.0,
      left_of default_config a.state _ known.0 known.1
          ∙ records_from-more default_config a.state known.0 (f, b.state, next.0) h.between next.2,
    )

even_as : (o : Option ℕ) (now : Option ℕ) (n : ℕ) → IfSome o (λ e. now ≡ Some e) → now ≡ Some n → IfSome o (λ e. n ≡ e)
even_as None now n h e = h
even_as (Some m) now n h e = let same : Some n ≡ Some m = sym e ∙ h in cc

takes_record : (a b : Reader (Bor (List ℕ))) (f : List (List ℕ)) → IsBetweenRecords a → ReadRecord bytes_left a b true f → is_flexible b ≡ is_flexible a
    → took_first b ≡ true
    → TakesRecord a b f
takes_record a b f h r flexible first =
    let known = the_text (source_of bytes_left a) h.known in
    let next = next_of default_config a.state b.state known.0 (pending_of (bytes_left b.rdr) b) f (rw (h.defaults, known.1) at r.0) in
    let source : source_of bytes_left b ≡ Some next.0 = rw r.1 next.1 in
    let lengths = r.5 refl h.strict in
    record {
      left = left_of default_config a.state _ known.0 known.1 ∙ records_from-more default_config a.state known.0 (f, b.state, next.0) h.between next.2
          ∙ ap (λ (rest : List (List (List ℕ))). f ∷ rest) (sym (left_of default_config b.state _ next.0 source));
      stands = record {
        plain = r.3 ∙ h.plain;
        ready = inl first;
        defaults = r.2 ∙ h.defaults;
        strict = flexible ∙ h.strict;
        known = rw source refl;
        between = (next_record-behind default_config a.state [] [] known.0 (f, b.state, next.0) next.2).between;
      };
      even = even_as (expected_len a) (expected_len b) (length f) lengths.0 lengths.1;
      expects = lengths.1;
    }

-- a read that found no record had none left
takes_none : (a b : Reader (Bor (List ℕ))) (f : List (List ℕ)) → IsBetweenRecords a → ReadRecord bytes_left a b false f → records_left a ≡ []
takes_none a b f h r =
    let known = the_text (source_of bytes_left a) h.known in
    left_of default_config a.state _ known.0 known.1
    ∙ records_from-none default_config a.state known.0 (rows-end bytes_left a b f default_config known.0 h.defaults known.1 r)

-- what a read of the next record found
pub has_read : (found : Bool) (a b : Reader (Bor (List ℕ))) (f : List (List ℕ)) → IsBetweenRecords a → ReadRecord bytes_left a b found f
    → is_flexible b ≡ is_flexible a
    → took_first b ≡ true → HasRead found a b f
has_read true a b f h r flexible first = takes_record a b f h r flexible first
has_read false a b f h r flexible first = takes_none a b f h r

-- a record that was refused for its length
pub is_uneven : (a b : Reader (Bor (List ℕ))) (f : List (List ℕ)) (n len : ℕ) → IsBetweenRecords a → expected_len a ≡ Some n → n ≢ len
    → TookRecord bytes_left a b f → length f ≡ len
    → IsUneven a
is_uneven a b f n len h expected differs took is =
    let t = took_record a b f h took in
    record { fields = f; rest = t.0; next = t.1; expected = n; expects = expected; uneven = λ e. differs (e ∙ is) }
