pub mod OneSummary
