pub mod ClockLemmas
pub mod DeliveryLemmas
pub mod HistoryLemmas
pub mod ReportedLemmas
