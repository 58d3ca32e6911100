mod CellLemmas
mod RecordLemmas
mod ReaderLemmas
mod GrowthLemmas
mod HeaderLemmas
mod RowLemmas
mod GroupLemmas
mod GatheringLemmas
pub mod TableLaws
pub mod GroupLaws
mod TableExamples
