pub mod MajorSync
