-- A token has a byte.
use Rattle.std.proofs.Common.{ℕ, ◌<◌, List, length, arith}
use Rattle.rtlil_lex.specs.Tokens.{IsToken}
use Rattle.rtlil_lex.specs.Tokens.IsToken.{name, string, word}

pub token_len : (text rest : List ℕ) → IsToken text rest → 0 < length text
token_len text rest (name b run after h r) = omega arith
token_len text rest (string b more after q h s) = omega arith
token_len text rest (word b run after h r) = omega arith
