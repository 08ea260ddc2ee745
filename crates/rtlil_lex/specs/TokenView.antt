-- A token as contracts see it.
use Rattle.rtlil_lex.specs.Tokens.{TokenOf}
use Rattle.rtlil_lex.specs.declared.lexer.Token.{Token}

abbrev pub token_of : Token → TokenOf
token_of t = record { start = t.start; text = t.text.now }
