use Rattle.std.proofs.Common.{List, ℕ, true, subst}
use Rattle.std.specs.Prelude.{IfOk}
use Rattle.judge.proofs.Reading.{ends_told, is_open, reader_of, reads_over, shows_sought, taken_within, some_one}
use Rattle.judge.specs.Reading.{Ends, ReaderOf, Took}
use Rattle.judge.proofs.witness.WitnessReader.end.Goals as goal

pub end-requires : goal.end-requires
end-requires c = let is = c.self.invariant.reading c.in-Reading.is in is_open _ is.2.0 is.2.1

pub tell-told-requires : goal.tell-told-requires
tell-told-requires c =
    let is = c.self.invariant.reading c.in-Reading.is in
    let f = c.in-Ok.ensures.ends is.2.0 is.2.1 in
    λ rows e. shows_sought _ c.flat-flat.ensures.problem is.0 is.1 true _ rows (f.played rows (some_one e))

pub invariant_of-self-2 : goal.invariant_of-self-2
invariant_of-self-2 c =
    let is = c.self.invariant.reading c.in-Reading.is in
    reads_over _ c.flat-flat.ensures.problem is.0 is.1 c.end.new.self _ c.end.ensures.same (taken_within _ is.0 is.2.0 is.2.1) c.in-Ok.outcome (c.in-Ok.ensures.ends is.2.0 is.2.1) c.tell-told.result c.tell-told.new.found c.state_told-self-inside.result
    c.state_told-self-inside.ensures c.tell-told.ensures.finds c.tell-told.ensures.fate c.tell-told.ensures.run c.tell-told.ensures.found

pub returns-clause-ends : goal.returns-clause-ends
returns-clause-ends c =
    let i = c.self.inside in
    let is = c.self.invariant.reading c.in-Reading.is in
    subst (λ (j : ReaderOf). (bytes : List ℕ) → Took j bytes → IfOk c.tell-told.result (λ r. Ends j (reader_of i.problem.now i.job i.most c.end.new.self c.tell-told.new.found c.state_told-self-inside.result) bytes r)) c.self.view_is
    (λ bytes took.
    ends_told _ c.flat-flat.ensures.problem is.0 is.1 c.end.new.self bytes c.end.ensures.same (taken_within _ is.0 bytes took.taken) c.in-Ok.outcome (c.in-Ok.ensures.ends bytes took.taken) c.tell-told.result c.tell-told.new.found c.state_told-self-inside.result
    c.state_told-self-inside.ensures c.tell-told.ensures.finds c.tell-told.ensures.fate c.tell-told.ensures.run c.tell-told.ensures.found)
