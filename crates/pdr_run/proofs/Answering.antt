-- Answers as they are told.
use Rattle.std.proofs.Common.{◌≡◌, ◌⊎◌, ◌≤◌, ◌^◌, ℕ, List, length, inl, inr, subst, sym}
use Rattle.sby_edge.specs.Cause.{Rose}
use Rattle.cdcl_run.specs.Output.{GrownBySome, grown}
use Rattle.cdcl_run.specs.Run.{World, Writes}
use Rattle.pair_form.specs.Pair.{PairOf}
use Rattle.pair_reader.specs.Reading.{IsPairFault}
use Rattle.pair_reader.specs.declared.reader.PairFault.{PairFault}
use Rattle.pdr_run.specs.Answer.{IsAnswer}
use Rattle.pdr_run.specs.Run.{Answers, IsServed}
use Rattle.pdr_run.specs.Text.{pair_fault_line}

-- the stream of an answer was written whole, or cut short
pub answer_told : (before after : World) (p : PairOf) (budget exit status : ℕ) (stream : List ℕ) → IsAnswer p budget stream exit
    → ((status ≡ exit) × (after.taken ≡ grown before.taken stream) × (after.sink_faults ≡ before.sink_faults)) ⊎ ((status ≡ 1) × GrownBySome before.taken after.taken stream × Rose before.sink_faults after.sink_faults)
    → Answers before after p budget status
answer_told before after p budget exit status stream a (inl w) = inl (stream, w.1, w.2, subst (IsAnswer p budget stream) (sym w.0) a)
answer_told before after p budget exit status stream a (inr w) = inr (w.0, (w.2, (stream, exit, w.1, a)))

-- a file that is no pair's is served by the line of its fault
pub fault_served : (before after : World) (bytes : List ℕ) (budget exit : ℕ) (fault : PairFault) → length bytes ≤ 2 ^ 32 → IsPairFault bytes fault → exit ≡ 1 → Writes before after (pair_fault_line fault) → IsServed before after bytes budget exit
fault_served before after bytes budget exit fault short f e w = inr (inl (short, (fault, f, e, w)))
