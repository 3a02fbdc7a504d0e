pub mod MajorLaws
pub mod SyncReading
pub mod SyncWriting
pub mod SyncFitting
pub mod RuleLaws
pub mod SyncRules
