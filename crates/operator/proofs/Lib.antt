pub mod Laws
mod Steps
mod Conservation
mod Limiter
mod Compactor
mod Expander
mod Delayer
pub mod DelayerRing
mod Stages
mod FilterPart
mod Misreadings
pub mod SingleLaws
pub mod PartsLaws
mod StepAnswers
pub mod HeldByAge
pub mod RingLaws
pub mod PathStands
pub mod ReferenceUnits
pub mod ReferenceRings
pub mod ReferenceStages
