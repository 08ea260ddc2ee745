use Rattle.std.proofs.Common.{Some, ap, ◌∙◌, arith}
use Rattle.std.proofs.lemmas.Option.{none-some, same_Some}
use Rattle.pair_reader.proofs.Words.{lit_is, minus_text, number_reads, var_small}
use Rattle.pair_reader.proofs.scan.literal_of.Goals as goal

pub returns-in_err-var-in-Some-clause-lit : goal.returns-in_err-var-in-Some-clause-lit
returns-in_err-var-in-Some-clause-lit c =
    λ l w e. absurd
    (let t = minus_text l c.args.word.now c.in-Some.digits.now (var_small c.args.vars l c.requires w) c.in-Some.ensures.some e in
    none-some l.var (number_reads c.numbers_are_decimal.ensures c.args.vars l.var c.in-Some.digits.now _ (omega arith) c.in_err-var-in-Some.ensures t.1 w.0 w.1))

pub returns-in_ok-var-in-Some-clause-lit : goal.returns-in_ok-var-in-Some-clause-lit
returns-in_ok-var-in-Some-clause-lit c =
    λ l w e. (let t = minus_text l c.args.word.now c.in-Some.digits.now (var_small c.args.vars l c.requires w) c.in-Some.ensures.some e in
    let n = number_reads c.numbers_are_decimal.ensures c.args.vars l.var c.in-Some.digits.now _ (omega arith) c.in_ok-var-in-Some.ensures t.1 w.0 w.1 in
    ap Some (lit_is c.new.result l (c.new.ensures.var ∙ same_Some _ _ n) (c.new.ensures.negated ∙ t.0)))
