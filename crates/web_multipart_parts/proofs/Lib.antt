pub mod PlaceLemmas
pub mod HeadLemmas
pub mod CommonLemmas
pub mod LaterLemmas
pub mod BoundaryLemmas
pub mod ContentLemmas
pub mod StepLemmas
pub mod TellLemmas
pub mod PieceLemmas
pub mod FirstByteLemmas
mod SettledLemmas
