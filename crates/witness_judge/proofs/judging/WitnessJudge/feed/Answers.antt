use Rattle.std.proofs.Common.{◌≡◌, ◌≢◌, ◌∙◌, ◌+◌, ◌++◌, ℕ, List, Some, None, ap, arith, subst, take}
use Rattle.btor_witness.specs.declared.spot.Seen.TheVariants.{More}
use Rattle.witness_judge.specs.Judging.{Feeds, JudgeOf, Took, is_reading}
use Rattle.witness_judge.proofs.Feeding.{feed_chosen, feed_long, feed_more, feed_settled, feed_took}
use Rattle.witness_judge.proofs.judging.WitnessJudge.feed.Goals as goal

pub settle-requires : goal.settle-requires
settle-requires c =
    let i = c.self.inside in
    let j : JudgeOf = record { asked = i.asked; most = i.most; taken = i.taken; reader = i.reader } in
    let took = c.self.invariant.took (ap is_reading c.self.view_is ∙ c.requires) in
    let is : j.reader ≡ Some c.in-Some.reader = cc (c.take.ensures.value, c.in-Some.is) in
    feed_chosen j took.0 took.1 c.in-Some.reader c.feed.new.self is c.in_ok-seen.seen _ c.in_ok-seen.ensures.exact c.in_ok-seen.ensures.found

pub returns-then-not-is_more-clause-feeds : goal.returns-then-not-is_more-clause-feeds
returns-then-not-is_more-clause-feeds c =
    let i = c.self.inside in
    let j : JudgeOf = record { asked = i.asked; most = i.most; taken = i.taken; reader = i.reader } in
    let new : JudgeOf = record { asked = i.asked; most = i.most; taken = i.taken + c.min-count.result; reader = c.take.new.self } in
    let is : j.reader ≡ Some c.in-Some.reader = cc (c.take.ensures.value, c.in-Some.is) in
    let other : c.in_ok-seen.seen ≢ More = λ e. absurd (let t = c.is_more.ensures.1 e in let f = c.if-not-is_more.true in cc) in
    subst (λ (z : JudgeOf). (bytes : List ℕ) → Took z bytes → Feeds z new (bytes ++ c.args.piece.now) (Some c.in_ok-outcome.outcome)) c.self.view_is
    (λ bytes t. feed_settled j bytes t c.in-Some.reader c.feed.new.self is c.in_ok-seen.seen _ c.in_ok-seen.ensures.exact c.in_ok-seen.ensures.found c.args.piece.now c.min-count.result (let e = c.min-count.ensures in omega arith) (ap (λ (n : ℕ). take n c.args.piece.now) (omega arith))
    new c.in_ok-outcome.outcome other c.in_ok-outcome.ensures)

pub returns-then-count-piece-clause-feeds : goal.returns-then-count-piece-clause-feeds
returns-then-count-piece-clause-feeds c =
    let i = c.self.inside in
    let j : JudgeOf = record { asked = i.asked; most = i.most; taken = i.taken; reader = i.reader } in
    let new : JudgeOf = record { asked = i.asked; most = i.most; taken = i.taken + c.min-count.result; reader = c.take.new.self } in
    let is : j.reader ≡ Some c.in-Some.reader = cc (c.take.ensures.value, c.in-Some.is) in
    subst (λ (z : JudgeOf). (bytes : List ℕ) → Took z bytes → Feeds z new (bytes ++ c.args.piece.now) (Some c.bad.result)) c.self.view_is
    (λ bytes t. feed_long j bytes t c.in-Some.reader c.feed.new.self is c.in_ok-seen.seen _ c.in_ok-seen.ensures.exact c.in_ok-seen.ensures.found c.args.piece.now c.min-count.result (let e = c.min-count.ensures in omega arith) (ap (λ (n : ℕ). take n c.args.piece.now) (omega arith))
    new c.bad.result (c.is_more.ensures.0 c.if-not-is_more.false) c.if-count-piece.true c.bad.ensures)

pub invariant_of-self-2 : goal.invariant_of-self-2
invariant_of-self-2 c =
    let i = c.self.inside in
    let j : JudgeOf = record { asked = i.asked; most = i.most; taken = i.taken; reader = i.reader } in
    let took = c.self.invariant.took (ap is_reading c.self.view_is ∙ c.requires) in
    let is : j.reader ≡ Some c.in-Some.reader = cc (c.take.ensures.value, c.in-Some.is) in
    record {
      asked = c.self.invariant.asked;
      took = λ _. (
        took.0 ++ c.args.piece.now,
        feed_took j took.0 took.1 c.in-Some.reader c.feed.new.self is c.in_ok-seen.seen _ c.in_ok-seen.ensures.exact c.in_ok-seen.ensures.found c.args.piece.now c.min-count.result (let e = c.min-count.ensures in omega arith) (ap (λ (n : ℕ). take n c.args.piece.now) (omega arith))
            (c.is_more.ensures.0 c.if-not-is_more.false) c.if-count-piece.false c.in_ok-seen.ensures.kept c.in_ok-seen.ensures.taken,
      );
    }

pub returns-clause-feeds : goal.returns-clause-feeds
returns-clause-feeds c =
    let i = c.self.inside in
    let j : JudgeOf = record { asked = i.asked; most = i.most; taken = i.taken; reader = i.reader } in
    let new : JudgeOf = record { asked = i.asked; most = i.most; taken = i.taken + c.min-count.result; reader = Some c.feed.new.self } in
    let is : j.reader ≡ Some c.in-Some.reader = cc (c.take.ensures.value, c.in-Some.is) in
    subst (λ (z : JudgeOf). (bytes : List ℕ) → Took z bytes → Feeds z new (bytes ++ c.args.piece.now) None) c.self.view_is
    (λ bytes t. feed_more j bytes t c.in-Some.reader c.feed.new.self is c.in_ok-seen.seen _ c.in_ok-seen.ensures.exact c.in_ok-seen.ensures.found c.args.piece.now c.min-count.result (let e = c.min-count.ensures in omega arith) (ap (λ (n : ℕ). take n c.args.piece.now) (omega arith))
    (c.is_more.ensures.0 c.if-not-is_more.false) c.if-count-piece.false c.in_ok-seen.ensures.kept c.in_ok-seen.ensures.taken)
