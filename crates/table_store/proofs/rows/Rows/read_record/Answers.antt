-- What a read of csv says of the records that are left.
use Rattle.std.proofs.Common.{inr}
use Rattle.csv.specs.Records.{fields_of}
use Rattle.table_store.proofs.ReaderLemmas.{has_read, is_uneven}
use Rattle.table_store.proofs.rows.Rows.read_record.Goals as goal

pub returns-in-UnequalLengths-clause-fault : goal.returns-in-UnequalLengths-clause-fault
returns-in-UnequalLengths-clause-fault c =
    let h = c.requires in
    let why = rw (← c.kind.ensures, c.in-UnequalLengths.is) at ((rw c.in-Err.is at c.read_byte_record.ensures.why) h.ready) in
    inr (is_uneven c.args.self.now.reader c.read_byte_record.new.self why.3 c.in-UnequalLengths.expected_len c.in-UnequalLengths.len h why.1 why.2 why.4 why.5)

pub returns-in-Ok-clause-record : goal.returns-in-Ok-clause-record
returns-in-Ok-clause-record c =
    let h = c.requires in
    let e = c.read_byte_record.ensures in
    has_read c.in-Ok.found c.args.self.now.reader c.read_byte_record.new.self (fields_of c.read_byte_record.new.row) h
    ((rw c.in-Ok.is at e.reads) h.plain h.ready) (rw c.in-Ok.is at e.flexible) ((rw c.in-Ok.is at e.ready) h.plain)
