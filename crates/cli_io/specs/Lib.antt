pub mod IoAnswers
pub mod IoState
pub mod MemoryIo
pub mod WholeReading
pub mod WholeWriting
pub use Rattle.web_texts.specs.Counts
