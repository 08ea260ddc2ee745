use Rattle.std.proofs.Common.{arith}
use Rattle.std.specs.Prelude.{decimal}
use Rattle.std.proofs.lemmas.Option.{none-some, same_Some}
use Rattle.pair_reader.proofs.Words.{decimal_lacks, number_reads}
use Rattle.pair_reader.proofs.scan.read_number.Goals as goal

pub returns-in_err-word-clause-number : goal.returns-in_err-word-clause-number
returns-in_err-word-clause-number c = λ n rest some few e. absurd (c.in_err-word.ensures.word (decimal n) rest (decimal_lacks c.args.end n c.requires (omega arith)) e)

pub returns-in_err-value-clause-number : goal.returns-in_err-value-clause-number
returns-in_err-value-clause-number c =
    λ n rest some few e. absurd
    (let w = c.in_ok-word.ensures.word (decimal n) rest (decimal_lacks c.args.end n c.requires (omega arith)) e in
    none-some n (number_reads c.numbers_are_decimal.ensures c.args.most n c.in_ok-word.word.bytes.now _ (omega arith) c.in_err-value.ensures w.0 some few))

pub returns-clause-number : goal.returns-clause-number
returns-clause-number c =
    λ n rest some few e. (let w = c.in_ok-word.ensures.word (decimal n) rest (decimal_lacks c.args.end n c.requires (omega arith)) e in
    (same_Some _ _ (number_reads c.numbers_are_decimal.ensures c.args.most n c.in_ok-word.word.bytes.now _ (omega arith) c.in_ok-value.ensures w.0 some few), w.1))
