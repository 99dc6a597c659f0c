mod Parts
mod PathAnswers
mod FlowsAgree
mod AccountCalls
mod AccountFlows
mod Joined
mod UsableRun
mod SlotAnswers
mod Answered
mod Words
pub mod NeverLate
pub mod ByAge
pub mod Taking
mod Writing
mod UpTo
mod TestLaws
mod MovingLaws
mod WatchLaws
mod OpeningLaws
mod WithPart
mod WriteLaws
mod SlotLaws
pub mod ReferenceRuns
