-- The number of the column by which a partition goes is small.
use Rattle.std.proofs.Common.{◌≡◌, ◌∙◌, ◌<◌, length, get_or, ap}
use Rattle.owner_catalog.proofs.Partitions.{column_fits, partition_lawful}
use Rattle.owner_catalog.proofs.catalog.Catalog.partition_at.Goals as goal

pub returns-clause-column : goal.returns-clause-column
returns-clause-column c =
    let owner = c.owner_at.result.now in
    let partition = c.index.result.now in
    let low : c.args.p < length owner.partitions = rw c.owner_at.ensures.owner c.requires.partition in
    let is : partition ≡ get_or owner.partitions c.args.p partition = c.index.ensures ∙ ap (λ e. get_or e.partitions c.args.p partition) c.behind-self.view_is in
    column_fits owner.tables partition c.owner_at.ensures.lawful.tables (partition_lawful owner c.args.p partition c.owner_at.ensures.lawful low is)
