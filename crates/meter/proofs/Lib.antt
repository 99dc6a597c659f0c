pub mod MeterLaws
pub mod Metering
mod RingLaws
mod Least
mod UsableMeter
pub mod PartsLaws
mod EarlierRows
mod AgeLaws
mod VisitedRows
mod MeterAnswers
pub mod ReferenceMeters
