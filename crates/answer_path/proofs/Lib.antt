mod Examples
mod ExamplesOfAnswers
mod ExamplesOfBooks
mod ExamplesOfParts
mod ExamplesOfShut
pub mod Limits
pub mod Told
pub mod Readings
pub mod Existing
pub mod Programs
pub mod Ranges
pub mod Charged
pub mod Scales
pub mod Blind
pub mod Digests
pub mod Answering
pub mod Bars
pub mod Turns
pub mod Standings
pub mod Meets
pub mod Alone
pub mod Sole
pub mod Lost
pub mod Idle
pub mod SizePeople
pub mod Walking
-- passed on to the crates above
pub mod OwnerDesk
pub mod OwnerHouse
pub mod PartViews
