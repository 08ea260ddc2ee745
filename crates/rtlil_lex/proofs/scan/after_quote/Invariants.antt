use Rattle.std.proofs.Common.{◌≡◌, length, false}
use Rattle.rtlil_lex.specs.Steps.{after_quote_from, after_quote_of}
use Rattle.rtlil_lex.proofs.scan.after_quote.Given as goal

abbrev pub invariant-string : goal.invariant-string
invariant-string l = after_quote_from false l.rest ≡ after_quote_of l.bytes

abbrev pub decreases-string : goal.decreases-string
decreases-string l = length l.rest
