use Rattle.std.proofs.Common.{arith, take, subst}
use Rattle.std.specs.Prelude.{IfErr, OnOk}
use Rattle.std.specs.List.{position_or_len}
use Rattle.btor_text.specs.Grammar.{is_feed, words_of}
use Rattle.btor_text.specs.Refusals.{IsRefused}
use Rattle.btor_text.specs.Steps.{GoesOn}
use Rattle.btor_text.specs.Ties.{KeepsTies}
use Rattle.btor_text.proofs.Going.{at_fault, at_next}
use Rattle.btor_text.proofs.reading.read_lines.Goals as goal

pub returns-in-Err-clause-fault : goal.returns-in-Err-clause-fault
returns-in-Err-clause-fault c =
    let rest = c.loop-rest.rest.now in
    let cut = c.next_line-cut in
    let refused = subst (λ r. IfErr r (IsRefused c.loop-rest.reader.model (words_of cut.result.first.now))) c.in-Err.is c.in_ok-kind.ensures.fault in
    at_fault c.args.bytes.now rest cut.result.rest.now cut.result.first.now c.loop-rest.line c.loop-rest.reader.model c.loop-rest.invariant.2 (take (position_or_len is_feed rest) rest) cut.ensures.cut cut.ensures.first c.in-Err.kind refused

pub loop-rest-preserved : goal.loop-rest-preserved
loop-rest-preserved c =
    let rest = c.loop-rest.rest.now in
    let cut = c.next_line-cut in
    let ties = subst (λ r. OnOk r (KeepsTies c.read.new.self)) c.in_default.is c.in_ok-kind.ensures.ties in
    let on = subst (λ r. OnOk r (GoesOn c.loop-rest.reader.model (words_of cut.result.first.now) c.read.new.self.model)) c.in_default.is c.in_ok-kind.ensures.read in
    let within = c.loop-rest.invariant.0 in
    let shorter = cut.ensures.shorter in
    (omega arith, ties, at_next c.args.bytes.now rest cut.result.rest.now cut.result.first.now c.loop-rest.line c.loop-rest.reader.model c.loop-rest.invariant.2 (take (position_or_len is_feed rest) rest) cut.ensures.cut cut.ensures.first c.read.new.self.model c.promise.ensures on)
