use Rattle.std.proofs.Common.{[], refl, sym, subst, inl, inr, arith}
use Rattle.cdcl_run.specs.Output.{OutputOf}
use Rattle.cdcl_run.specs.Searching.{EndBreaks, IsEnd}
use Rattle.cdcl_run.proofs.Answering.{answer_cut, answer_written, cut_faults, none_searched, search_left, searches_later}
use Rattle.cdcl_run.proofs.Putting.{grown-nil}
use Rattle.cdcl_run.proofs.run.answer.Goals as goal

pub returns-in-Err-clause-answers : goal.returns-in-Err-clause-answers
returns-in-Err-clause-answers g c = λ told faults job is. inr (inr (refl, (refl, ([], (0, sym (grown-nil (g.S.Sink.taken c.args.sink.now))), none_searched c.args.hinted job c.args.formula c.args.budget is))))

pub returns-in-Err-search_by-clause-answers : goal.returns-in-Err-search_by-clause-answers
returns-in-Err-search_by-clause-answers g c = λ told faults job is.
    let old : OutputOf = record { taken = g.S.Sink.taken c.args.sink.now; faults = g.S.Sink.faults c.args.sink.now; gathered = c.in-Ok.piece } in
    let new : OutputOf = record { taken = g.S.Sink.taken c.search_by.new.sink; faults = g.S.Sink.faults c.search_by.new.sink; gathered = c.search_by.new.piece } in
    let w = search_left c.args.hinted job c.args.formula c.args.budget old new is c.in-Ok.ensures c.in-Err-search_by.ensures.stops in
    inr (inr (refl, (w.still, (w.text, w.part, w.of))))

pub returns-in-Ok-finish-clause-answers : goal.returns-in-Ok-finish-clause-answers
returns-in-Ok-finish-clause-answers g c = λ told faults job is.
    let old : OutputOf = record { taken = g.S.Sink.taken c.args.sink.now; faults = g.S.Sink.faults c.args.sink.now; gathered = c.in-Ok.piece } in
    let mid : OutputOf = record { taken = g.S.Sink.taken c.search_by.new.sink; faults = g.S.Sink.faults c.search_by.new.sink; gathered = c.search_by.new.piece } in
    let new : OutputOf = record { taken = g.S.Sink.taken c.finish.new.sink; faults = g.S.Sink.faults c.finish.new.sink; gathered = [] } in
    let e = c.in-Ok-finish.ensures.end in
    let w = answer_written c.args.hinted job c.args.formula c.args.budget old mid new c.in-Ok-search_by.solved e.0 c.in-Ok-finish.exit is c.in-Ok.ensures refl c.in-Ok-search_by.ensures.searches (subst (λ z. IsEnd z c.in-Ok-search_by.solved e.0 c.in-Ok-finish.exit) c.vars-vars.ensures.vars e.1) e.2 in
    inl (w.stream, w.taken, w.still, w.answer)

pub returns-clause-answers : goal.returns-clause-answers
returns-clause-answers g c = λ told faults job is.
    let old : OutputOf = record { taken = g.S.Sink.taken c.args.sink.now; faults = g.S.Sink.faults c.args.sink.now; gathered = c.in-Ok.piece } in
    let mid : OutputOf = record { taken = g.S.Sink.taken c.search_by.new.sink; faults = g.S.Sink.faults c.search_by.new.sink; gathered = c.search_by.new.piece } in
    let new : OutputOf = record { taken = g.S.Sink.taken c.finish.new.sink; faults = g.S.Sink.faults c.finish.new.sink; gathered = c.finish.new.piece } in
    let w = answer_cut c.args.hinted job c.args.formula c.args.budget old mid new c.in-Ok-search_by.solved is c.in-Ok.ensures c.in-Ok-search_by.ensures.searches (subst (λ z. EndBreaks z mid new c.in-Ok-search_by.solved) c.vars-vars.ensures.vars c.in-Err-finish.ensures.failed) in
    inr (inl (refl, (w.rose, (w.text, w.part, w.of))))

pub returns-in-Err-search_by-clause-later : goal.returns-in-Err-search_by-clause-later
returns-in-Err-search_by-clause-later g c =
    let s = c.in-Err-search_by.ensures.stops in
    let p = s.6 in
    omega (arith, p.still)

pub returns-in-Ok-finish-clause-whole : goal.returns-in-Ok-finish-clause-whole
returns-in-Ok-finish-clause-whole g c = λ job is.
    let old : OutputOf = record { taken = g.S.Sink.taken c.args.sink.now; faults = g.S.Sink.faults c.args.sink.now; gathered = c.in-Ok.piece } in
    let mid : OutputOf = record { taken = g.S.Sink.taken c.search_by.new.sink; faults = g.S.Sink.faults c.search_by.new.sink; gathered = c.search_by.new.piece } in
    let new : OutputOf = record { taken = g.S.Sink.taken c.finish.new.sink; faults = g.S.Sink.faults c.finish.new.sink; gathered = [] } in
    let e = c.in-Ok-finish.ensures.end in
    let w = answer_written c.args.hinted job c.args.formula c.args.budget old mid new c.in-Ok-search_by.solved e.0 c.in-Ok-finish.exit is c.in-Ok.ensures refl c.in-Ok-search_by.ensures.searches (subst (λ z. IsEnd z c.in-Ok-search_by.solved e.0 c.in-Ok-finish.exit) c.vars-vars.ensures.vars e.1) e.2 in
    (w.stream, w.answer, w.taken)

pub returns-in-Ok-finish-clause-later : goal.returns-in-Ok-finish-clause-later
returns-in-Ok-finish-clause-later g c =
    let old : OutputOf = record { taken = g.S.Sink.taken c.args.sink.now; faults = g.S.Sink.faults c.args.sink.now; gathered = c.in-Ok.piece } in
    let mid : OutputOf = record { taken = g.S.Sink.taken c.search_by.new.sink; faults = g.S.Sink.faults c.search_by.new.sink; gathered = c.search_by.new.piece } in
    let e = c.in-Ok-finish.ensures.end in
    let p = e.2 in
    omega (arith, p.still, searches_later c.args.hinted c.args.formula c.args.budget old mid c.in-Ok-search_by.solved c.in-Ok-search_by.ensures.searches)

pub returns-clause-failed : goal.returns-clause-failed
returns-clause-failed g c = λ is.
    let old : OutputOf = record { taken = g.S.Sink.taken c.args.sink.now; faults = g.S.Sink.faults c.args.sink.now; gathered = c.in-Ok.piece } in
    let mid : OutputOf = record { taken = g.S.Sink.taken c.search_by.new.sink; faults = g.S.Sink.faults c.search_by.new.sink; gathered = c.search_by.new.piece } in
    let new : OutputOf = record { taken = g.S.Sink.taken c.finish.new.sink; faults = g.S.Sink.faults c.finish.new.sink; gathered = c.finish.new.piece } in
    let w = cut_faults c.args.hinted c.args.formula c.args.budget c.vars-vars.result old mid new c.in-Ok-search_by.solved c.in-Ok-search_by.ensures.searches c.in-Err-finish.ensures.failed in
    w.0

pub returns-clause-later : goal.returns-clause-later
returns-clause-later g c =
    let old : OutputOf = record { taken = g.S.Sink.taken c.args.sink.now; faults = g.S.Sink.faults c.args.sink.now; gathered = c.in-Ok.piece } in
    let mid : OutputOf = record { taken = g.S.Sink.taken c.search_by.new.sink; faults = g.S.Sink.faults c.search_by.new.sink; gathered = c.search_by.new.piece } in
    let new : OutputOf = record { taken = g.S.Sink.taken c.finish.new.sink; faults = g.S.Sink.faults c.finish.new.sink; gathered = c.finish.new.piece } in
    let w = cut_faults c.args.hinted c.args.formula c.args.budget c.vars-vars.result old mid new c.in-Ok-search_by.solved c.in-Ok-search_by.ensures.searches c.in-Err-finish.ensures.failed in
    w.1
