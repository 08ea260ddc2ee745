mod ContentsLemmas
pub mod ScriptLemmas
