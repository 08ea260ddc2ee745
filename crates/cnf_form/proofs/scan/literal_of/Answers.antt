use Rattle.std.proofs.Common.{drop, arith, sym, refl}
use Rattle.cnf_form.proofs.Numerals.{minus_some, plain_some, minus_none, plain_none}
use Rattle.cnf_form.proofs.scan.literal_of.Goals as goal

pub new-requires-clause-above : goal.new-requires-clause-above
new-requires-clause-above c = let s = minus_some c.args.vars (omega arith) c.args.word.now c.in-Some.var c.if-word-eq45.true (sym c.in-Some.ensures) in s.1

pub new-requires-in-Some-number_upto-clause-above : goal.new-requires-in-Some-number_upto-clause-above
new-requires-in-Some-number_upto-clause-above c = let s = plain_some c.args.vars (omega arith) c.args.word.now c.in-Some-number_upto.var (sym c.in-Some-number_upto.ensures) in s.1

pub returns-in-Some-clause-some : goal.returns-in-Some-clause-some
returns-in-Some-clause-some c =
    let s = minus_some c.args.vars (omega arith) c.args.word.now c.in-Some.var c.if-word-eq45.true (sym c.in-Some.ensures) in
    rw (c.new.ensures.var, c.new.ensures.negated) ((drop 1 c.args.word.now, s.0, s.1, s.3), (s.1, s.2))

pub returns-in-Some-number_upto-clause-some : goal.returns-in-Some-number_upto-clause-some
returns-in-Some-number_upto-clause-some c =
    let s = plain_some c.args.vars (omega arith) c.args.word.now c.in-Some-number_upto.var (sym c.in-Some-number_upto.ensures) in
    rw (c.new-in-Some-number_upto.ensures.var, c.new-in-Some-number_upto.ensures.negated) ((c.args.word.now, s.0, s.1, refl), (s.1, s.2))

pub returns-in-None-clause-none : goal.returns-in-None-clause-none
returns-in-None-clause-none c = minus_none c.args.vars (omega arith) c.args.word.now c.if-word-eq45.true (sym c.in-None.ensures)

pub returns-in-None-number_upto-clause-none : goal.returns-in-None-number_upto-clause-none
returns-in-None-number_upto-clause-none c = plain_none c.args.vars (omega arith) c.args.word.now c.if-word-eq45.false (sym c.in-None-number_upto.ensures)
