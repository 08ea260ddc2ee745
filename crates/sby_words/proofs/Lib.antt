pub mod WordsTaken
pub mod FolderLemmas
pub mod ListLemmas
pub mod AskedLemmas
pub mod WordsPlain
