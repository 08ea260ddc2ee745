-- The reports of lanes that are done.
use Rattle.std.proofs.Common.{◌≡◌, ℕ, List, Option, Some, length, refl}
use Rattle.race_cells.specs.Notes.{NoteOf, known_at}
use Rattle.race_core.specs.Consistent.{Consistent}
use Rattle.race_core.specs.Parts.{Terms}
use Rattle.race_core.specs.Report.{ReportOf}
use Rattle.lane_run.specs.Raced.{LanesDone}
use Rattle.lane_run.proofs.Wholes.{lane_carried, lane_replays, lane_tells}

one_value : {T : Type 0} (o : Option T) (f g : T) → o ≡ Some f → o ≡ Some g → f ≡ g
one_value o f g h k = cc

pub lanes_consistent : {T : Type 0} (For : ℕ → T → Type 0) (serves : ℕ → ℕ → Type 0) (terms : ℕ → Terms T) (may_read : ℕ → Type 0) (jobs : ℕ)
    (notes : List (NoteOf T)) (reports : List (ReportOf T)) → LanesDone For serves terms may_read jobs notes reports
    → Consistent For serves terms (length reports) jobs reports
lanes_consistent For serves terms may_read jobs notes reports h = record {
  lanes_are = refl;
  places = λ i r at. (h.places i r at).0;
  replays = λ i r at. lane_replays For (serves i) terms may_read jobs notes r (h.each i r at) (h.places i r at).1;
  carried = λ i j r f at lt is. lane_carried For (serves i) terms may_read jobs notes r (h.each i r at) j f lt is;
  agree = λ i k c r q f g at bt one two. one_value (known_at notes c) f g
      (lane_tells For (serves i) terms may_read jobs notes r (h.each i r at) c f one).1
      (lane_tells For (serves k) terms may_read jobs notes q (h.each k q bt) c g two).1;
}
