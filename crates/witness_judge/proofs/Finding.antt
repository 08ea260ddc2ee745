-- What a stream that is found to be a witness shows.
use Rattle.std.proofs.Common.{◌≡◌, ℕ, ◌-◌, ◌≤◌, Bool, List, length, Some, sym, ◌∙◌, subst, arith, inl, inr}
use Rattle.std.proofs.lemmas.List.{length-map}
use Rattle.sby_bits.specs.Rows.{Row}
use Rattle.sby_terms.specs.declared.names.Answer.{Answer}
use Rattle.sby_terms.specs.declared.names.Answer.TheVariants.{Sat}
use Rattle.model_core.specs.Choices.{Plays}
use Rattle.model_core.specs.Meaning.{Cycle, Run}
use Rattle.model_core.specs.Shape.{ModelOf}
use Rattle.model_play.specs.Playing.{cycles_of}
use Rattle.cert_judge.specs.Fate.{Fate, Found}
use Rattle.cert_judge.proofs.Bounding.{found_by, found_so_far_by}
use Rattle.btor_emit.specs.Goals.{IsGoal}
use Rattle.btor_emit.specs.declared.goal.Goal.{Goal}
use Rattle.btor_emit.specs.declared.goal.Goal.TheVariants as goal
use Rattle.btor_witness.specs.Choices.{inputs_in}
use Rattle.btor_witness.specs.Grammar.{FrameOf, WitnessOf}
use Rattle.btor_witness.specs.declared.spot.Seen.{Seen}
use Rattle.btor_witness.specs.declared.spot.Seen.TheVariants.{More, Whole, Unknown, EarlyEnd, BadWitness}
use Rattle.witness_judge.specs.Choosing.{AskedOf, all_inputs, choices_for, shape_of}
use Rattle.witness_judge.specs.Fate.{BytesFate, IsWitnessFate, IsWitnessFateSoFar, SeenFate}
use Rattle.witness_judge.specs.Judging.{IsPlayed}
use Rattle.witness_judge.specs.Playing.{AreAssumed, IsFound, IsReached, PlaysTo, RunFate, ShowsGoal}
use Rattle.witness_judge.specs.declared.sought.Sought.{Sought}

shows : (m : ModelOf) (g : Goal) (n : ℕ) (cs : ℕ → Cycle) (k : ℕ) → Run m n cs → AreAssumed m n cs → IsGoal m g (cs (n - 1)) k → ShowsGoal m g n cs
shows m goal.Asserts n cs k run assumed bad = (
  k,
  record {
    run = run;
    assumed = assumed;
    last = λ t e. subst (λ (u : ℕ). IsGoal m goal.Asserts (cs u) k) (omega arith) bad;
  },
)
shows m (goal.Cover j) n cs k run assumed bad = record {
  run = run;
  assumed = assumed;
  last = λ t e. (subst (λ (u : ℕ). IsGoal m (goal.Cover j) (cs u) k) (omega arith) bad).1;
}

-- what is found in a run
pub run_found : (m : ModelOf) (s : Sought) (n : ℕ) (cs : ℕ → Cycle) (k : ℕ) (answer : Answer) → RunFate m s n cs k (Found answer) → (answer ≡ Sat) × AreAssumed m n cs × IsReached m s n cs k
run_found m s n cs k answer (inl (t, first, e)) = absurd (let g = e in cc)
run_found m s n cs k answer (inr (inl (assumed, reached, e))) = ((let g = e in cc), assumed, reached)
run_found m s n cs k answer (inr (inr (assumed, other, e))) = absurd (let g = e in cc)

pub length_choices : (a : AskedOf) (fs : List FrameOf) → length (choices_for a fs).inputs ≡ length fs
length_choices a fs = length-map fs (λ f. all_inputs a (inputs_in (shape_of a) f))

module _ (a : AskedOf) (answer : Answer) where
  found_run : (x : WitnessOf) (cs : ℕ → Cycle) → length x.frames ≤ a.sought.last → Plays a.model (choices_for a x.frames) cs
      → (answer ≡ Sat) × AreAssumed a.model (length x.frames) cs × IsReached a.model a.sought (length x.frames) cs x.bad → (answer ≡ Sat) × IsFound a.model a.sought
  found_run x cs few plays (is, assumed, reached) = (
    is,
    record {
      cycles = length x.frames;
      run = cs;
      late = reached.late;
      within = few;
      shows = shows a.model a.sought.goal (length x.frames) cs x.bad (subst (λ (n : ℕ). Run a.model n cs) (length_choices a x.frames) plays.run) assumed reached.bad;
    },
  )

  found_played : (x : WitnessOf) → PlaysTo a x (Found answer) → (answer ≡ Sat) × IsFound a.model a.sought
  found_played x (inl (many, e)) = absurd (let g = e in cc)
  found_played x (inr (few, (cs, plays, comes))) = found_run x cs few plays (run_found a.model a.sought (length x.frames) cs x.bad answer comes)

  found_seen : (ended : Bool) (bytes : List ℕ) (seen : Seen) → SeenFate a ended bytes seen (Some (Found answer)) → (answer ≡ Sat) × IsFound a.model a.sought
  found_seen ended bytes More e = absurd (let g = e in cc)
  found_seen ended bytes Whole (x, played, holds, plays, e) = let same : played ≡ Found answer = (let g = e in cc) in found_played x (subst (λ (f : Fate). PlaysTo a x f) same plays)
  found_seen ended bytes Unknown e = absurd (let g = e in cc)
  found_seen ended bytes (EarlyEnd n) e = absurd (let g = e in cc)
  found_seen ended bytes (BadWitness n) e = absurd (let g = e in cc)

  found_bytes : (ended : Bool) (bytes : List ℕ) → BytesFate a ended bytes (Some (Found answer)) → (answer ≡ Sat) × IsFound a.model a.sought
  found_bytes ended bytes (seen, h, e) = found_seen ended bytes seen e

pub found_so_far : (a : AskedOf) (bytes : List ℕ) (most : ℕ) (answer : Answer) → IsWitnessFateSoFar a bytes most (Some (Found answer)) → (answer ≡ Sat) × IsFound a.model a.sought
found_so_far a bytes most answer h = found_so_far_by (BytesFate a) most answer (found_bytes a answer) bytes h

pub found_whole : (a : AskedOf) (bytes : List ℕ) (most : ℕ) (answer : Answer) → IsWitnessFate a bytes most (Found answer) → (answer ≡ Sat) × IsFound a.model a.sought
found_whole a bytes most answer h = found_by (BytesFate a) most answer (found_bytes a answer) bytes h

-- a run that was played for a witness shows the goal
pub played_shows : (a : AskedOf) (x : WitnessOf) (rows : List Row) → IsPlayed a x rows → ShowsGoal a.model a.sought.goal (length rows) (cycles_of rows)
played_shows a x rows p =
    shows a.model a.sought.goal (length rows) (cycles_of rows) x.bad (subst (λ (n : ℕ). Run a.model n (cycles_of rows)) (length_choices a x.frames ∙ sym p.cycles) p.plays.run) p.assumed p.reached.bad
