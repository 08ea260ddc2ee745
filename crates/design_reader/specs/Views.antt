-- Values of the code as contracts see them.
use Rattle.std.specs.Prelude.{ℕ, List, map}
use Rattle.std.specs.Borrow.{Bor}
use Rattle.rtlil_lex.specs.Tokens.{TokenOf}
use Rattle.rtlil_lex.specs.TokenView.{token_of}
use Rattle.rtlil_lex.specs.declared.lexer.Token.{Token}
use Rattle.cell_table.specs.declared.kind.Kind.{Kind}

abbrev pub kind_rows : List (Bor (List ℕ) × Kind) → List (List ℕ × Kind)
kind_rows rows = map (λ r. (r.0.now, r.1)) rows

abbrev pub tokens_in : List Token → List TokenOf
tokens_in ts = map (λ t. token_of t) ts
