use Rattle.std.proofs.Common.{◌∙◌, sym, ap, List, ℕ, map}
use Rattle.std.specs.Prelude.{reverse}
use Rattle.rtlil_constant.specs.Constants.{binary}
use Rattle.design_reader.specs.Grammar.{plain_digit}
use Rattle.design_reader.proofs.DigitLemmas.{decimal_is}
use Rattle.design_reader.proofs.parameter_digits.plain_constant.Goals as goal

pub returns-in-Some : goal.returns-in-Some
returns-in-Some c =
    c.number_of.ensures ∙ decimal_is 32 c.from.result
    ∙ ap (λ (l : List ℕ). map plain_digit (reverse l)) (ap (λ (n : ℕ). binary 32 n) c.from.ensures ∙ sym c.in-Some.ensures)
