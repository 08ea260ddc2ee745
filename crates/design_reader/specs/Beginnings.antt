-- How the texts of the grammar begin.
use Rattle.std.specs.Prelude.{◌≡◌, ℕ, true, List, ◌++◌, Ok}
use Rattle.rtlil_lex.specs.Tokens.{TokenOf, IsTokens, IsToken}
use Rattle.rtlil_constant.specs.Constants.{Word}
use Rattle.design_reader.specs.Parts.{DraftOf}
use Rattle.design_reader.specs.Grammar.{reading}
use Rattle.design_reader.specs.declared.spot.Spot.TheVariants.{File}

-- a text of the grammar, however long it is: the limit of its bytes is a refusal of its own
pub record IsText (text : List ℕ) : Type 0 where
  pub tokens : List TokenOf
  pub lexes : IsTokens text tokens
  pub draft : DraftOf
  pub whole : reading tokens ≡ Ok (draft, File true)

-- some text of the grammar begins with these bytes
abbrev pub BeginsText : List ℕ → Type 0
BeginsText bytes = (more : List ℕ) × IsText (bytes ++ more)

-- no text of the grammar begins with these bytes and then has this word as a token
abbrev pub EndsTexts : List ℕ → Word → Type 0
EndsTexts bytes word = (more : List ℕ) → IsToken word more → IsText (bytes ++ (word ++ more)) → ⊥
