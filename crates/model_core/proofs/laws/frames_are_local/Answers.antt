use Rattle.model_core.proofs.Frames.{assumed_kept, broken_kept, frame_kept, reached_kept}
use Rattle.model_core.proofs.Runs.{next_same}
use Rattle.model_core.proofs.laws.frames_are_local.Goals as goal

pub returns : goal.returns
returns c = record {
  frame = λ m is u v h f. frame_kept m is u v h f;
  next = λ m is u v h. next_same m is u v h;
  assumed = λ m is u v h a. assumed_kept m is u v h a;
  broken = λ m is u v h k b. broken_kept m is u v h k b;
  reached = λ m is u v h k b. reached_kept m is u v h k b;
}
