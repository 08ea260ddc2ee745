use Rattle.std.proofs.Common.{length}
use Rattle.rtlil_lex.proofs.Lexing.{one_list}
use Rattle.rtlil_lex.proofs.lexer.one_list_of_tokens.Goals as goal

pub returns : goal.returns
returns c = λ bytes ts us. one_list (length bytes) bytes ts us
