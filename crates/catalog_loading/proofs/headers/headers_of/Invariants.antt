use Rattle.std.proofs.Common.{◌≡◌, ◌<◌, ℕ, get_or, length}
use Rattle.std.specs.List.{All}
use Rattle.journal_records.specs.Encoding.{IsHeader}
use Rattle.journal_records.specs.declared.records.Header.{Header}
use Rattle.catalog_loading.specs.Loaded.{new_header}
use Rattle.catalog_loading.proofs.headers.headers_of.Given as goal

-- the headers so far
abbrev pub invariant-loop-owner : goal.invariant-loop-owner
invariant-loop-owner g l =
    record {
      count : length l.headers.items ≡ l.owner;
      headers : (o : ℕ) (d : Header) → o < l.owner → get_or l.headers.items o d ≡ new_header l.opened.loading l.opened.key o;
      valid : All IsHeader l.headers.items;
    }
