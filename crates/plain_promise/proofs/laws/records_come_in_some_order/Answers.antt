use Rattle.plain_promise.proofs.Ordered.{some_order}
use Rattle.plain_promise.proofs.laws.records_come_in_some_order.Goals as goal

pub returns : goal.returns
returns c house draws count crew o owner found xs records here all = some_order house draws count crew o owner found xs records here all
