use Rattle.std.proofs.Common.{true, false}
use Rattle.cdcl_run.specs.Output.{OutputOf}
use Rattle.cdcl_run.proofs.Fitted.{fitted_searches, fitted_stops}
use Rattle.cdcl_run.proofs.run.search_by.Goals as goal

pub returns-then-hinted-clause-searches : goal.returns-then-hinted-clause-searches
returns-then-hinted-clause-searches g c =
    let old : OutputOf = record { taken = g.S.Sink.taken c.args.sink.now; faults = g.S.Sink.faults c.args.sink.now; gathered = c.args.piece.now } in
    let new : OutputOf = record { taken = g.S.Sink.taken c.search.new.sink; faults = g.S.Sink.faults c.search.new.sink; gathered = c.search.new.piece } in
    fitted_searches c.args.formula c.fitted-searched.result c.fitted-searched.ensures.fitted c.args.hinted true c.args.budget old new c.search.result c.if-hinted.true c.search.ensures.searches

pub returns-then-hinted-clause-stops : goal.returns-then-hinted-clause-stops
returns-then-hinted-clause-stops g c =
    let old : OutputOf = record { taken = g.S.Sink.taken c.args.sink.now; faults = g.S.Sink.faults c.args.sink.now; gathered = c.args.piece.now } in
    let new : OutputOf = record { taken = g.S.Sink.taken c.search.new.sink; faults = g.S.Sink.faults c.search.new.sink; gathered = c.search.new.piece } in
    fitted_stops c.args.formula c.fitted-searched.result c.fitted-searched.ensures.fitted c.args.hinted true c.args.budget old new c.search.result c.if-hinted.true c.search.ensures.stops

pub returns-clause-searches : goal.returns-clause-searches
returns-clause-searches g c =
    let old : OutputOf = record { taken = g.S.Sink.taken c.args.sink.now; faults = g.S.Sink.faults c.args.sink.now; gathered = c.args.piece.now } in
    let new : OutputOf = record { taken = g.S.Sink.taken c.search-else-hinted.new.sink; faults = g.S.Sink.faults c.search-else-hinted.new.sink; gathered = c.search-else-hinted.new.piece } in
    fitted_searches c.args.formula c.fitted-searched.result c.fitted-searched.ensures.fitted c.args.hinted false c.args.budget old new c.search-else-hinted.result c.if-hinted.false c.search-else-hinted.ensures.searches

pub returns-clause-stops : goal.returns-clause-stops
returns-clause-stops g c =
    let old : OutputOf = record { taken = g.S.Sink.taken c.args.sink.now; faults = g.S.Sink.faults c.args.sink.now; gathered = c.args.piece.now } in
    let new : OutputOf = record { taken = g.S.Sink.taken c.search-else-hinted.new.sink; faults = g.S.Sink.faults c.search-else-hinted.new.sink; gathered = c.search-else-hinted.new.piece } in
    fitted_stops c.args.formula c.fitted-searched.result c.fitted-searched.ensures.fitted c.args.hinted false c.args.budget old new c.search-else-hinted.result c.if-hinted.false c.search-else-hinted.ensures.stops
