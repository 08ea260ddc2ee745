use Rattle.std.proofs.Common.{arith, sym, ◌∙◌}
use Rattle.cert_stream.proofs.Pieces.{left_start, left_quiet, left_told, left_stopped, left_told_all, left_kept_all, left_passed}
use Rattle.cert_stream.proofs.feeding.take_piece.Goals as goal

pub loop-i-init : goal.loop-i-init
loop-i-init g c = record { left = left_start _ _ _ _ _; vars = c.requires.vars; steps = omega (arith) }

pub turn-requires : goal.turn-requires
turn-requires g c = omega (arith, c.loop-i.invariant.left.count, c.requires, c.loop-i-test.true)

pub returns-then-branch-clause-told : goal.returns-then-branch-clause-told
returns-then-branch-clause-told g c =
    left_stopped _ _ _ _ _ _ _ _ _ _ (left_passed _ _ _ _ _ _ _ _ _ _ c.loop-i.invariant.left c.pass-i.ensures.after c.pass-i.ensures.said c.pass-i.ensures.taken c.pass-i.ensures.within c.pass-i.ensures.memory) (omega (arith, c.if-i-piece.false)) c.in_ok-event.ensures.turned _ c.in-Some.is _ c.in_ok-tell.ensures.gets
    (sym c.in_ok-tell.ensures.stops ∙ c.if-branch.true)

pub loop-i-preserved-else-branch : goal.loop-i-preserved-else-branch
loop-i-preserved-else-branch g c = record {
  left =
      left_told _ _ _ _ _ _ _ _ _ _ (left_passed _ _ _ _ _ _ _ _ _ _ c.loop-i.invariant.left c.pass-i.ensures.after c.pass-i.ensures.said c.pass-i.ensures.taken c.pass-i.ensures.within c.pass-i.ensures.memory) (omega (arith, c.if-i-piece.false)) c.in_ok-event.ensures.turned _ c.in-Some.is _ c.in_ok-tell.ensures.gets
      (sym c.in_ok-tell.ensures.stops ∙ c.if-branch.false);
  vars = c.in_ok-tell.ensures.vars ∙ c.loop-i.invariant.vars ∙ sym c.pass-i.ensures.vars ∙ sym c.in_ok-event.ensures.vars;
  steps = omega (arith, c.step.ensures, c.loop-i.invariant.steps);
}

pub loop-i-preserved : goal.loop-i-preserved
loop-i-preserved g c = record {
  left = left_quiet _ _ _ _ _ _ _ _ _ _ (left_passed _ _ _ _ _ _ _ _ _ _ c.loop-i.invariant.left c.pass-i.ensures.after c.pass-i.ensures.said c.pass-i.ensures.taken c.pass-i.ensures.within c.pass-i.ensures.memory) (omega (arith, c.if-i-piece.false)) c.in_ok-event.ensures.turned c.in_default.is;
  vars = c.loop-i.invariant.vars ∙ sym c.pass-i.ensures.vars ∙ sym c.in_ok-event.ensures.vars;
  steps = omega (arith, c.step.ensures, c.loop-i.invariant.steps);
}

pub returns-clause-told : goal.returns-clause-told
returns-clause-told g c = left_told_all _ _ _ _ _ _ _ _ c.loop-i.invariant.left (omega (arith, c.loop-i-test.false))

pub returns-clause-kept : goal.returns-clause-kept
returns-clause-kept g c = λ _. left_kept_all _ _ _ _ _ _ _ _ c.loop-i.invariant.left (omega (arith, c.loop-i-test.false))

pub returns-clause-count : goal.returns-clause-count
returns-clause-count g c = omega (arith, c.loop-i.invariant.left.count, c.loop-i.invariant.left.within)
