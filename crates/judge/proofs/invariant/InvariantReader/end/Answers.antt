use Rattle.std.proofs.Common.{List, ℕ, subst}
use Rattle.std.specs.Prelude.{IfOk}
use Rattle.judge.proofs.Deciding.{ended, ends_found, ends_told, heard_so_far, reader_of, reads_over}
use Rattle.judge.specs.Inductive.{Ends, ReaderOf, Took, TookAll}
use Rattle.judge.proofs.invariant.InvariantReader.end.Goals as goal

pub tell-told-requires : goal.tell-told-requires
tell-told-requires c =
    let is = heard_so_far _ c.self.invariant c.in-Reading.is in
    let told = ended _ c.end.new.self is.1.0 c.in-Ok.outcome c.in-Ok.ensures.wanting c.in-Ok.ensures.again (c.in-Ok.ensures.ends is.1.0) is.1.1 in record {
      job = is.0.job;
      found = ends_found _ is.0 c.end.new.self c.in-Ok.ensures.same is.1.0 c.in-Ok.outcome told;
    }

pub invariant_of-self-2 : goal.invariant_of-self-2
invariant_of-self-2 c =
    let is = heard_so_far _ c.self.invariant c.in-Reading.is in
    let told = ended _ c.end.new.self is.1.0 c.in-Ok.outcome c.in-Ok.ensures.wanting c.in-Ok.ensures.again (c.in-Ok.ensures.ends is.1.0) is.1.1 in
    reads_over _ is.0 c.end.new.self c.in-Ok.ensures.same is.1.0 c.in-Ok.outcome told c.tell-told.result c.state_told-self-inside.result c.state_told-self-inside.ensures c.tell-told.ensures.fate

pub returns-clause-ends : goal.returns-clause-ends
returns-clause-ends c =
    let i = c.self.inside in
    let is = heard_so_far _ c.self.invariant c.in-Reading.is in
    subst (λ (j : ReaderOf). (bytes : List ℕ) → Took j bytes → IfOk c.tell-told.result (λ r. Ends j (reader_of i.problem.now i.most c.end.new.self c.state_told-self-inside.result) bytes r)) c.self.view_is
    (λ bytes took.
    ends_told _ is.0 c.end.new.self c.in-Ok.ensures.same bytes c.in-Ok.outcome (c.in-Ok.ensures.ends bytes took.stands) c.tell-told.result c.state_told-self-inside.result
    c.state_told-self-inside.ensures c.tell-told.ensures.finds c.tell-told.ensures.fate)

pub returns-clause-again : goal.returns-clause-again
returns-clause-again c =
    let i = c.self.inside in
    let is = heard_so_far _ c.self.invariant c.in-Reading.is in
    subst (λ (j : ReaderOf). (bytes : List ℕ) → TookAll j bytes → IfOk c.tell-told.result (λ r. Ends j (reader_of i.problem.now i.most c.end.new.self c.state_told-self-inside.result) bytes r)) c.self.view_is
    (λ bytes took.
    let told = ended _ c.end.new.self bytes c.in-Ok.outcome c.in-Ok.ensures.wanting c.in-Ok.ensures.again (c.in-Ok.ensures.ends bytes) took.heard in
    ends_told _ is.0 c.end.new.self c.in-Ok.ensures.same bytes c.in-Ok.outcome told c.tell-told.result c.state_told-self-inside.result
    c.state_told-self-inside.ensures c.tell-told.ensures.finds c.tell-told.ensures.fate)
