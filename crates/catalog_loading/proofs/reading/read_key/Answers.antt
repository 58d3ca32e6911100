use Rattle.std.proofs.Common.{refl, sym}
use Rattle.catalog_loading.specs.Loaded.{key_read}
use Rattle.catalog_loading.proofs.FileReads.{key_decided, key_undecided}
use Rattle.catalog_loading.proofs.Reached.{at_done, at_stop, begun, decided, one_more, passed, stopped, undecided}
use Rattle.catalog_loading.proofs.reading.read_key.Goals as goal

pub returns-in_err-bytes-clause-step : goal.returns-in_err-bytes-clause-step
returns-in_err-bytes-clause-step g c = passed _ _ _ _ _ _ c.from_residual.result (stopped _ _ _ _ _ _ _ _ _ (begun _ _ (key_read c.args.name.now)) refl c.in_err-bytes.ensures.step) c.from_residual.ensures.1

pub returns-in-Some-clause-step : goal.returns-in-Some-clause-step
returns-in-Some-clause-step g c =
    at_done _ _ _ _ _ _ _ _ (one_more _ _ _ _ _ _ _ _ _ (begun _ _ (key_read c.args.name.now)) refl c.in_ok-bytes.ensures.step) c.in_ok-bytes.ensures.same
    (decided _ _ _ _ (key_decided c.args.name.now c.in_ok-bytes.bytes.items c.in-Some.key c.deref.result.now (sym c.deref.ensures.value) c.in-Some.ensures.0 c.in-Some.ensures.1))

pub returns-clause-step : goal.returns-clause-step
returns-clause-step g c =
    at_stop _ _ _ _ _ _ _ _ (one_more _ _ _ _ _ _ _ _ _ (begun _ _ (key_read c.args.name.now)) refl c.in_ok-bytes.ensures.step) c.in_ok-bytes.ensures.same
    (undecided _ _ _ _ (key_undecided c.args.name.now c.in_ok-bytes.bytes.items c.deref.result.now c.refuse.result (sym c.deref.ensures.value) c.in-None.ensures c.refuse.ensures))
