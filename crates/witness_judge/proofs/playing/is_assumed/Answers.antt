use Rattle.std.proofs.Common.{◌≡◌, true, false, subst, arith, refl, inl, inr, Some, ℕ, []}
use Rattle.std.specs.Prelude.{slice_get, slice_index_or}
use Rattle.model_core.proofs.Lists.{at_place, below_or_last}
use Rattle.model_play.proofs.Saying.{IsFailing, assumed_all, assumed_not, fail_at}
use Rattle.witness_judge.proofs.playing.is_assumed.Goals as goal

pub returns-then-fails : goal.returns-then-fails
returns-then-fails c =
    let row = slice_index_or c.args.run.now c.args.cycle [] in
    let xs = c.assumes-statements.result.now in
    let s = at_place xs c.loop-statement.statement-index c.loop-statement-test.true in
    assumed_not c.args.model.now row xs c.loop-statement.statement-index s.0 c.assumes-statements.ensures s.1 (fail_at row row xs c.loop-statement.statement-index _ s.0 c.fails.result true refl s.1 c.fails.ensures c.if-fails.true)

pub loop-statement-preserved : goal.loop-statement-preserved
loop-statement-preserved c = λ k s lt e.
    let row = slice_index_or c.args.run.now c.args.cycle [] in
    let xs = c.assumes-statements.result.now in
    elim (below_or_last k c.loop-statement.statement-index lt) as (λ _. IsFailing row s false) [
      | inl l ↦ c.loop-statement.invariant k s l e
      | inr same ↦
          let here : slice_get xs c.loop-statement.statement-index ≡ Some s = subst (λ (i : ℕ). slice_get xs i ≡ Some s) same e in
          fail_at row row xs c.loop-statement.statement-index _ s c.fails.result false refl here c.fails.ensures c.if-fails.false
    ]

pub returns : goal.returns
returns c =
    let t = c.loop-statement-test.false in
    assumed_all c.args.model.now (slice_index_or c.args.run.now c.args.cycle []) c.assumes-statements.result.now c.loop-statement.statement-index c.assumes-statements.ensures (omega arith) c.loop-statement.invariant
