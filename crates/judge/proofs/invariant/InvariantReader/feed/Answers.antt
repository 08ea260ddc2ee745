use Rattle.std.proofs.Common.{List, ℕ, ◌++◌, subst}
use Rattle.std.specs.Prelude.{IfOk}
use Rattle.judge.proofs.Deciding.{feeds_found, feeds_told, reader_of, reads_on}
use Rattle.judge.specs.Inductive.{Feeds, ReaderOf, Took}
use Rattle.judge.proofs.invariant.InvariantReader.feed.Goals as goal

pub tell-told-requires : goal.tell-told-requires
tell-told-requires c =
    let is = c.self.invariant.reading c.in-Reading.is in record {
      job = is.0.job;
      found = feeds_found _ is.0 c.feed.new.self c.in-Ok.ensures.same _ c.in-Ok.outcome (c.in-Ok.ensures.feeds is.1.0 is.1.1);
    }

pub invariant_of-self-2 : goal.invariant_of-self-2
invariant_of-self-2 c =
    let is = c.self.invariant.reading c.in-Reading.is in
    reads_on _ is.0 c.feed.new.self c.in-Ok.ensures.same _ c.in-Ok.outcome (c.in-Ok.ensures.feeds is.1.0 is.1.1) c.state_told-self-inside.result

pub returns-clause-feeds : goal.returns-clause-feeds
returns-clause-feeds c =
    let i = c.self.inside in
    let is = c.self.invariant.reading c.in-Reading.is in
    subst (λ (j : ReaderOf). (bytes : List ℕ) → Took j bytes → IfOk c.tell-told.result (λ r. Feeds j (reader_of i.problem.now i.most c.feed.new.self c.state_told-self-inside.result) (bytes ++ c.args.piece.now) r)) c.self.view_is
    (λ bytes took.
    feeds_told _ is.0 c.feed.new.self c.in-Ok.ensures.same _ c.in-Ok.outcome (c.in-Ok.ensures.feeds bytes took.stands) c.tell-told.result c.state_told-self-inside.result
    c.state_told-self-inside.ensures c.tell-told.ensures.finds c.tell-told.ensures.fate)
