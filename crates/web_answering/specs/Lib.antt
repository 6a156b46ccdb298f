pub mod FlightReplies
