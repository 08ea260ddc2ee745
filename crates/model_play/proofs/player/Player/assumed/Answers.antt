use Rattle.std.proofs.Common.{◌≡◌, ◌↔◌, true, false, subst, arith, inl, inr, Some, IsTrue, ℕ}
use Rattle.std.specs.Prelude.{slice_get}
use Rattle.model_core.specs.Meaning.{Assumed}
use Rattle.model_core.proofs.Lists.{at_place, below_or_last}
use Rattle.model_play.specs.Playing.{PlayerOf, cycle_of}
use Rattle.model_play.proofs.Saying.{IsFailing, assumed_all, assumed_not, fail_at}
use Rattle.model_play.proofs.player.Player.assumed.Goals as goal

pub returns-then-fails : goal.returns-then-fails
returns-then-fails c =
    let xs = c.assumes-statements.result.now in
    let s = at_place xs c.loop-statement.statement-index c.loop-statement-test.true in
    subst (λ (p : PlayerOf). IsTrue false ↔ Assumed p.model (cycle_of p.row)) c.self.view_is
    (assumed_not c.self.inside.model.now c.self.inside.table.items xs c.loop-statement.statement-index s.0 c.assumes-statements.ensures s.1
    (fail_at c.self.inside.table.items c.deref.result.now xs c.loop-statement.statement-index _ s.0 c.fails.result true c.deref.ensures.value s.1 c.fails.ensures c.if-fails.true))

pub loop-statement-preserved : goal.loop-statement-preserved
loop-statement-preserved c = λ k s lt e.
    let xs = c.assumes-statements.result.now in
    elim (below_or_last k c.loop-statement.statement-index lt) as (λ _. IsFailing c.self.inside.table.items s false) [
      | inl l ↦ c.loop-statement.invariant k s l e
      | inr same ↦
          let here : slice_get xs c.loop-statement.statement-index ≡ Some s = subst (λ (i : ℕ). slice_get xs i ≡ Some s) same e in
          fail_at c.self.inside.table.items c.deref.result.now xs c.loop-statement.statement-index _ s c.fails.result false c.deref.ensures.value here c.fails.ensures c.if-fails.false
    ]

pub returns : goal.returns
returns c =
    let t = c.loop-statement-test.false in
    subst (λ (p : PlayerOf). IsTrue true ↔ Assumed p.model (cycle_of p.row)) c.self.view_is
    (assumed_all c.self.inside.model.now c.self.inside.table.items c.assumes-statements.result.now c.loop-statement.statement-index c.assumes-statements.ensures (omega arith) c.loop-statement.invariant)
