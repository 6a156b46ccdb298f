pub mod FlightReplyLemmas
