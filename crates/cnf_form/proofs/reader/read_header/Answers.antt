use Rattle.std.proofs.Common.{subst, arith, true, false}
use Rattle.std.proofs.lemmas.Bool.{both_ways}
use Rattle.cnf_form.specs.Reading.{IsP, IsCnf, IsVars, IsCount, Finds}
use Rattle.cnf_form.proofs.Bodies.{gap_shorter, parts_shorter, finds_of, fails_here, fails_later, some_word, some_number}
use Rattle.cnf_form.proofs.reader.read_header.Goals as goal

pub returns-then-not-is_word-clause-fails : goal.returns-then-not-is_word-clause-fails
returns-then-not-is_word-clause-fails c =
    fails_here IsP _ c.next_word-p.ensures.gap c.next_word-p.ensures.parts (λ fit. both_ways _ c.if-not-is_word.true (c.is_word.ensures.1 fit))

pub returns-then-not-is_word-clause-within : goal.returns-then-not-is_word-clause-within
returns-then-not-is_word-clause-within c = gap_shorter c.next_word-p.ensures.gap

pub returns-then-not-is_word-2-clause-fails : goal.returns-then-not-is_word-2-clause-fails
returns-then-not-is_word-2-clause-fails c =
    let p = c.is_word.ensures.0 c.if-not-is_word.false in
    fails_later IsP _ _ c.next_word-p.ensures.gap c.next_word-p.ensures.parts (some_word _ _ _ p) p
    (fails_here IsCnf _ c.next_word-cnf.ensures.gap c.next_word-cnf.ensures.parts (λ fit. both_ways _ c.if-not-is_word-2.true (c.is_word-2.ensures.1 fit)))

pub returns-then-not-is_word-2-clause-within : goal.returns-then-not-is_word-2-clause-within
returns-then-not-is_word-2-clause-within c =
    omega (arith, gap_shorter c.next_word-p.ensures.gap, parts_shorter c.next_word-p.ensures.parts, gap_shorter c.next_word-cnf.ensures.gap)

pub returns-in-None-clause-fails : goal.returns-in-None-clause-fails
returns-in-None-clause-fails c =
    let p = c.is_word.ensures.0 c.if-not-is_word.false in
    let q = c.is_word-2.ensures.0 c.if-not-is_word-2.false in
    fails_later IsP _ _ c.next_word-p.ensures.gap c.next_word-p.ensures.parts (some_word _ _ _ p) p
    (fails_later IsCnf _ _ c.next_word-cnf.ensures.gap c.next_word-cnf.ensures.parts (some_word _ _ _ q) q
    (fails_here IsVars _ c.next_word-size.ensures.gap c.next_word-size.ensures.parts (λ fit. c.in-None.ensures.none fit.0 fit.1 fit.2)))

pub returns-in-None-clause-within : goal.returns-in-None-clause-within
returns-in-None-clause-within c =
    omega (arith, gap_shorter c.next_word-p.ensures.gap, parts_shorter c.next_word-p.ensures.parts, gap_shorter c.next_word-cnf.ensures.gap, parts_shorter c.next_word-cnf.ensures.parts, gap_shorter c.next_word-size.ensures.gap)

pub returns-then-not-is_number-clause-fails : goal.returns-then-not-is_number-clause-fails
returns-then-not-is_number-clause-fails c =
    let p = c.is_word.ensures.0 c.if-not-is_word.false in
    let q = c.is_word-2.ensures.0 c.if-not-is_word-2.false in
    let v = c.in-Some.ensures.some in
    fails_later IsP _ _ c.next_word-p.ensures.gap c.next_word-p.ensures.parts (some_word _ _ _ p) p
    (fails_later IsCnf _ _ c.next_word-cnf.ensures.gap c.next_word-cnf.ensures.parts (some_word _ _ _ q) q
    (fails_later IsVars _ _ c.next_word-size.ensures.gap c.next_word-size.ensures.parts (some_number _ c.in-Some.vars v.0) (c.in-Some.vars, v.0, v.1)
    (fails_here IsCount _ c.next_word-count.ensures.gap c.next_word-count.ensures.parts (λ fit. both_ways _ c.if-not-is_number.true (c.is_number.ensures.1 fit)))))

pub returns-then-not-is_number-clause-within : goal.returns-then-not-is_number-clause-within
returns-then-not-is_number-clause-within c =
    omega (arith, gap_shorter c.next_word-p.ensures.gap, parts_shorter c.next_word-p.ensures.parts, gap_shorter c.next_word-cnf.ensures.gap, parts_shorter c.next_word-cnf.ensures.parts, gap_shorter c.next_word-size.ensures.gap, parts_shorter c.next_word-size.ensures.parts, gap_shorter c.next_word-count.ensures.gap)

pub returns-clause-header : goal.returns-clause-header
returns-clause-header c = λ n a.
    let p = c.is_word.ensures.0 c.if-not-is_word.false in
    let q = c.is_word-2.ensures.0 c.if-not-is_word-2.false in
    let v = c.in-Some.ensures.some in
    record {
      after_p = c.next_word-p.result.rest.now;
      after_cnf = c.next_word-cnf.result.rest.now;
      vars_word = c.next_word-size.result.word.now;
      after_vars = c.next_word-size.result.rest.now;
      count_word = c.next_word-count.result.word.now;
      p = subst (λ z. Finds true c.args.bytes.now z c.next_word-p.result.rest.now) p (finds_of c.next_word-p.ensures.gap c.next_word-p.ensures.parts (some_word _ _ _ p));
      cnf = subst (λ z. Finds false c.next_word-p.result.rest.now z c.next_word-cnf.result.rest.now) q (finds_of c.next_word-cnf.ensures.gap c.next_word-cnf.ensures.parts (some_word _ _ _ q));
      vars_next = finds_of c.next_word-size.ensures.gap c.next_word-size.ensures.parts (some_number _ c.in-Some.vars v.0);
      vars = v.0;
      limit = v.1;
      count_next = finds_of c.next_word-count.ensures.gap c.next_word-count.ensures.parts (some_number _ n a);
      count = a;
    }

pub returns-clause-ok : goal.returns-clause-ok
returns-clause-ok c =
    let v = c.in-Some.ensures.some in
    (v.1, omega (arith, gap_shorter c.next_word-p.ensures.gap, parts_shorter c.next_word-p.ensures.parts, gap_shorter c.next_word-cnf.ensures.gap, parts_shorter c.next_word-cnf.ensures.parts, gap_shorter c.next_word-size.ensures.gap, parts_shorter c.next_word-size.ensures.parts, gap_shorter c.next_word-count.ensures.gap, parts_shorter c.next_word-count.ensures.parts))
