pub mod RangeLemmas
pub mod ValidScriptLemmas
