-- Ends that are calm aren't enough: a lane is stopped at its limit, and the stream that was cut there is a certificate, while the whole
-- isn't. No end is Stopped, and the end isn't Plain's.
use Rattle.std.proofs.Common.{◌≡◌, ◌⊎◌, ℕ, zero, suc, ◌≤◌, true, false, List, [], ◌∷◌, Option, Some, None, refl, subst, inl, inr, arith}
use Rattle.race_core.specs.Report.{EventsOf, no_events}
use Rattle.race_core.specs.Parts.{reader_of, keeper_of}
use Rattle.race_core.specs.Ends.{EndIs}
use Rattle.race_law.specs.World.{Script, Race, World, Step, WorldRun, IsNew, IsScript, plain}
use Rattle.race_core.specs.declared.event.Judged.{Judged}
use Rattle.race_core.specs.declared.event.Judged.TheVariants as progress
use Rattle.race_core.specs.declared.event.LaneEvent.{LaneEvent}
use Rattle.race_core.specs.declared.event.LaneEvent.TheVariants as event
use Rattle.race_core.specs.declared.end.JobEnd.TheVariants as end

abbrev at_count : {T : Type 0} → ℕ → Judged T
at_count zero = progress.More
at_count (suc zero) = progress.More
at_count (suc (suc n)) = progress.Bad 42 1

abbrev only : {T : Type 0} → EventsOf T → ℕ → ℕ → EventsOf T
only es zero zero = es
only es zero (suc j) = no_events
only es (suc i) j = no_events

abbrev the_script : {T : Type 0} → T → Script T
the_script f = record { at = at_count; ended = λ n. progress.Found f; file = progress.Failed; size = 2 }

abbrev scripts : {T : Type 0} → T → ℕ → ℕ → Option (Script T)
scripts f zero zero = Some (the_script f)
scripts f zero (suc j) = None
scripts f (suc i) j = None

abbrev the_race : {T : Type 0} → T → Race T
the_race f = record { lanes = 1; jobs = 1; terms = λ k. record { cell = k; needless = λ g. false; skipped = λ g. false; start = 0; limit = Some 1 }; script = scripts f }

abbrev cell_of : {T : Type 0} → Option T → ℕ → Option T
cell_of o zero = o
cell_of o (suc c) = None

abbrev world : {T : Type 0} → List (LaneEvent T) → List (LaneEvent T) → Option T → World T
world reads keeps o = record { events = only (record { reader = reads; keeper = keeps }); cells = cell_of o }

other : {T : Type 0} (es fs : EventsOf T) (i j : ℕ) → (i ≡ 0 → j ≡ 0 → ⊥) → only es i j ≡ only fs i j
other es fs zero zero h = absurd (h refl refl)
other es fs zero (suc j) h = refl
other es fs (suc i) j h = refl

pub is-script : {T : Type 0} (P : T → Type 0) (f : T) → P f → IsScript P (the_script f)
is-script P f holds = record {
  first = refl;
  steady = λ a b le. steady a b le;
  at_for = λ n g e. absurd (never n g e);
  ended_for = λ n g e. subst P (same f g e) holds;
  file_for = λ g e. absurd (failed g e);
}
  where
    same : {T : Type 0} (x y : T) → progress.Found x ≡ progress.Found y → x ≡ y
    same x y e = cc

    steady : {T : Type 0} (a b : ℕ) → a ≤ b → (at_count {T = T} a ≡ progress.More) ⊎ (at_count {T = T} b ≡ at_count a)
    steady zero b le = inl refl
    steady (suc zero) b le = inl refl
    steady (suc (suc a)) zero le = absurd (omega arith)
    steady (suc (suc a)) (suc zero) le = absurd (omega arith)
    steady (suc (suc a)) (suc (suc b)) le = inr refl

    never : {T : Type 0} (n : ℕ) (g : T) → at_count n ≡ progress.Found g → ⊥
    never zero g e = cc
    never (suc zero) g e = cc
    never (suc (suc n)) g e = cc

    failed : {T : Type 0} (g : T) → progress.Failed ≡ progress.Found g → ⊥
    failed g e = cc

abbrev step : {T : Type 0} → LaneEvent T → Step T
step e = record { lane = 0; job = 0; event = e }

abbrev steps : {T : Type 0} → T → List (Step T)
steps f = step (event.Read 1 progress.More) ∷ step (event.Clock 5) ∷ step event.Kill ∷ step (event.Read 0 (progress.Found f)) ∷ step (event.Settle true) ∷ []

begin : {T : Type 0} → IsNew (world {T = T} [] [] None)
begin = record { events = λ i j. none i j; cells = λ c. empty c }
  where
    none : {T : Type 0} (i j : ℕ) → only {T = T} (record { reader = []; keeper = [] }) i j ≡ no_events
    none zero zero = refl
    none zero (suc j) = refl
    none (suc i) j = refl

    empty : {T : Type 0} (c : ℕ) → cell_of {T = T} None c ≡ None
    empty zero = refl
    empty (suc c) = refl

apart : {T : Type 0} (f : T) (c : ℕ) → (c ≡ 0 → ⊥) → cell_of (Some f) c ≡ cell_of None c
apart f zero h = absurd (h refl)
apart f (suc c) h = refl

runs : {T : Type 0} (f : T) → WorldRun (the_race f) (world [] [] None) (steps f)
    (world (event.Read 1 progress.More ∷ event.Read 0 (progress.Found f) ∷ event.Settle true ∷ []) (event.Clock 5 ∷ event.Kill ∷ []) (Some f))
runs f = (
  world (event.Read 1 progress.More ∷ []) [] None,
  record { meets = ((refl, omega arith), λ c. refl); here = refl; elsewhere = λ i j h. other _ _ i j h; right_reader = tt; right_keeper = tt; right_place = tt },
  (
    world (event.Read 1 progress.More ∷ []) (event.Clock 5 ∷ []) None,
    record { meets = λ c. refl; here = refl; elsewhere = λ i j h. other _ _ i j h; right_reader = tt; right_keeper = tt; right_place = tt },
    (
      world (event.Read 1 progress.More ∷ []) (event.Clock 5 ∷ event.Kill ∷ []) None,
      record { meets = λ c. refl; here = refl; elsewhere = λ i j h. other _ _ i j h; right_reader = tt; right_keeper = tt; right_place = tt },
      (
        world (event.Read 1 progress.More ∷ event.Read 0 (progress.Found f) ∷ []) (event.Clock 5 ∷ event.Kill ∷ []) None,
        record { meets = ((refl, inr tt), λ c. refl); here = refl; elsewhere = λ i j h. other _ _ i j h; right_reader = tt; right_keeper = tt; right_place = tt },
        (
          world (event.Read 1 progress.More ∷ event.Read 0 (progress.Found f) ∷ event.Settle true ∷ []) (event.Clock 5 ∷ event.Kill ∷ []) (Some f),
          record { meets = (refl, (f, refl, refl), λ c h. apart f c h); here = refl; elsewhere = λ i j h. other _ _ i j h; right_reader = tt; right_keeper = tt; right_place = tt },
          refl,
        ),
      ),
    ),
  ),
)

-- the run, its one end, and what Plain says
pub counter : {T : Type 0} (f : T) → (v : World T) × IsNew (world {T = T} [] [] None) × WorldRun (the_race f) (world [] [] None) (steps f) v
    × EndIs ((the_race f).terms 0) (λ g. ⊥) (reader_of (v.events 0 0)) (keeper_of ((the_race f).terms 0) (v.events 0 0)) (end.Found f)
    × (plain (the_script f) ≡ progress.Bad 42 1)
counter f = (world (event.Read 1 progress.More ∷ event.Read 0 (progress.Found f) ∷ event.Settle true ∷ []) (event.Clock 5 ∷ event.Kill ∷ []) (Some f), begin, runs f, refl, refl)
