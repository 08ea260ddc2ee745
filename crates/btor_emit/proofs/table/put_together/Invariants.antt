use Rattle.std.proofs.Common.{length, take, ◌-◌, ◌*◌, ◌≤◌}
use Rattle.btor_core.specs.Fits.{IsBtor}
use Rattle.btor_words.specs.Emitting.{Emits}
use Rattle.btor_emit.specs.Table.{AreSeats, cycle_of}
use Rattle.btor_emit.proofs.table.put_together.Given as goal
use Rattle.model_core.specs.Meaning.{row_at}

abbrev pub invariant-loop-done : goal.invariant-loop-done
invariant-loop-done l = record {
  most : l.done ≤ length l.places;
  btor : IsBtor l.draft;
  seats : AreSeats l.draft l.table;
  so_far : Emits l.fn.draft l.draft l.row l.done (4 * l.done) (λ vs. row_at (cycle_of l.table vs) (take l.done l.places));
}

abbrev pub decreases-loop-done : goal.decreases-loop-done
decreases-loop-done l = length l.places - l.done
