use Rattle.rtlil_lex.proofs.Fronts.{starts_agree}
use Rattle.std.proofs.Common.{length}
use Rattle.rtlil_lex.proofs.lexer.first_tokens_agree.Goals as goal

pub returns : goal.returns
returns c = λ bytes ts us f g. starts_agree (length bytes) f.0 g.0 bytes ts us f.1 g.1
