use Rattle.std.proofs.Common.{refl, sym, ◌∙◌, ap, arith}
use Rattle.std.specs.List.{list_all}
use Rattle.std.proofs.lemmas.Bool.{false≢true}
use Rattle.std.proofs.lemmas.List.{take_all}
use Rattle.sby_terms.specs.Number.{is_digit}
use Rattle.sby_terms.proofs.Numbers.{digits_more}
use Rattle.cnf_form.proofs.Numerals.{digits_from, no_digits_at}
use Rattle.cnf_form.proofs.scan.are_digits.Goals as goal

pub returns-then-not-is_ascii_digit : goal.returns-then-not-is_ascii_digit
returns-then-not-is_ascii_digit c =
    (λ f. absurd (false≢true f), λ a. absurd (no_digits_at c.args.word.now c.loop-b.b-index (omega arith) (sym c.is_ascii_digit.ensures.value ∙ c.if-not-is_ascii_digit.true) a))

pub loop-b-preserved : goal.loop-b-preserved
loop-b-preserved c = digits_more c.args.word.now c.loop-b.b-index (omega arith) (sym c.is_ascii_digit.ensures.value ∙ c.if-not-is_ascii_digit.false) c.loop-b.invariant

pub returns : goal.returns
returns c = (λ _. digits_from c.args.word.now (sym (ap (list_all is_digit) (take_all c.loop-b.b-index c.args.word.now (omega arith))) ∙ c.loop-b.invariant), λ _. refl)
