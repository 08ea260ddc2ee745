use Rattle.std.proofs.Common.{List, ℕ, ◌++◌, false, subst}
use Rattle.std.specs.Prelude.{IfOk}
use Rattle.judge.proofs.Reading.{feeds_told, is_open, reader_of, reads_on, shows_sought}
use Rattle.judge.specs.Reading.{Feeds, ReaderOf, Took}
use Rattle.judge.proofs.witness.WitnessReader.feed.Goals as goal

pub feed-requires : goal.feed-requires
feed-requires c = let is = c.self.invariant.reading c.in-Reading.is in is_open _ is.2.0 is.2.1

pub tell-told-requires : goal.tell-told-requires
tell-told-requires c =
    let is = c.self.invariant.reading c.in-Reading.is in
    let f = c.in-Ok.ensures.feeds is.2.0 is.2.1 in
    λ rows e. shows_sought _ c.flat-flat.ensures.problem is.0 is.1 false _ rows (f.played rows e)

pub invariant_of-self-2 : goal.invariant_of-self-2
invariant_of-self-2 c =
    let is = c.self.invariant.reading c.in-Reading.is in
    reads_on _ c.flat-flat.ensures.problem is.0 is.1 c.feed.new.self _ c.feed.ensures.same c.in-Ok.outcome (c.in-Ok.ensures.feeds is.2.0 is.2.1) c.tell-told.result c.tell-told.new.found c.state_told-self-inside.result
    c.state_told-self-inside.ensures c.tell-told.ensures.finds c.tell-told.ensures.fate c.tell-told.ensures.run c.tell-told.ensures.found

pub returns-clause-feeds : goal.returns-clause-feeds
returns-clause-feeds c =
    let i = c.self.inside in
    let is = c.self.invariant.reading c.in-Reading.is in
    subst (λ (j : ReaderOf). (bytes : List ℕ) → Took j bytes → IfOk c.tell-told.result (λ r. Feeds j (reader_of i.problem.now i.job i.most c.feed.new.self c.tell-told.new.found c.state_told-self-inside.result) (bytes ++ c.args.piece.now) r)) c.self.view_is
    (λ bytes took.
    feeds_told _ c.flat-flat.ensures.problem is.0 is.1 c.feed.new.self _ c.feed.ensures.same c.in-Ok.outcome (c.in-Ok.ensures.feeds bytes took.taken) c.tell-told.result c.tell-told.new.found c.state_told-self-inside.result
    c.state_told-self-inside.ensures c.tell-told.ensures.finds c.tell-told.ensures.fate c.tell-told.ensures.run c.tell-told.ensures.found)
