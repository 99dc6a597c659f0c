mod Numbers
pub mod Cleared
pub mod Sources
mod Bodies
pub mod Forms
pub mod HouseLaws
mod ProfileLaws
mod Filling
mod Fields
mod DeclarationField
mod RowsRead
mod OperatorRows
pub mod Accepted
mod Sheets
pub mod RoundTrip
mod OperatorsRead
mod FirstRead
mod HeadRead
mod HouseRead
pub mod AnswerLaws
mod ReadLaws
pub mod Runs
pub mod InRange
mod SheetWritten
mod WriteLaws
pub mod ReferenceSheets
