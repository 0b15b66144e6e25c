-- What one more record makes of what is heard, and transcripts that are matched with the history, record by record
pub mod Records
