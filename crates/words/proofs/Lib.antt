pub mod StoredLaws
pub mod ScanLaws
pub mod JoinLaws
pub mod PartLaws
pub mod AppendLaws
