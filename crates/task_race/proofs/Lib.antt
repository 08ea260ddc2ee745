mod Answering
mod Marking
mod Subjects
pub mod BackLemmas
pub mod CountLemmas
pub mod EndLemmas
pub mod FateLemmas
pub mod JobLemmas
pub mod LearnLemmas
pub mod PlaceLemmas
pub mod RanLemmas
pub mod WonLemmas
mod Files
