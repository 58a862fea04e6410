-- How the code's values (readers, writers, faults) are seen as recordings, indexes and verdicts.
pub mod Batches
pub mod CheckedLines
pub mod Checking
pub mod Checks
pub mod Coded
pub mod Comparing
pub mod Entries
pub mod Followed
pub mod Following
pub mod Indexing
pub mod Listed
pub mod Places
pub mod Strict
pub mod VerifiedParts
pub mod Verifying
