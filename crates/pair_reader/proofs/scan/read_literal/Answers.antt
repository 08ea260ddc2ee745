use Rattle.std.proofs.lemmas.Option.{none-some, same_Some}
use Rattle.cnf_form.specs.Dimacs.{literal_text}
use Rattle.pair_reader.proofs.Words.{literal_lacks, var_small}
use Rattle.pair_reader.proofs.scan.read_literal.Goals as goal

pub returns-in_err-word-clause-lit : goal.returns-in_err-word-clause-lit
returns-in_err-word-clause-lit c =
    λ l rest w e. absurd (c.in_err-word.ensures.word (literal_text l) rest (literal_lacks c.args.end l c.requires.end (var_small c.args.vars l c.requires.vars w)) e)

pub returns-in_err-lit-clause-lit : goal.returns-in_err-lit-clause-lit
returns-in_err-lit-clause-lit c =
    λ l rest w e. absurd
    (let t = c.in_ok-word.ensures.word (literal_text l) rest (literal_lacks c.args.end l c.requires.end (var_small c.args.vars l c.requires.vars w)) e in
    none-some l (c.in_err-lit.ensures.lit l w t.0))

pub returns-clause-lit : goal.returns-clause-lit
returns-clause-lit c =
    λ l rest w e. (let t = c.in_ok-word.ensures.word (literal_text l) rest (literal_lacks c.args.end l c.requires.end (var_small c.args.vars l c.requires.vars w)) e in
    (same_Some c.in_ok-lit.lit l (c.in_ok-lit.ensures.lit l w t.0), t.1))
