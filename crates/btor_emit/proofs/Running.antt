-- Runs of lines that say of each cycle what a model says.
use Rattle.std.proofs.Common.{◌≡◌, ℕ, suc, ◌<◌, false, List, [], ◌++◌, sym, ◌∙◌, inl, inr, arith, length}
use Rattle.std.specs.Prelude.{sum_by}
use Rattle.std.proofs.lemmas.Bool.{cases_lt}
use Rattle.btor_core.specs.Meaning.{BtorRun, Values}
use Rattle.btor_core.specs.Shape.{BtorOf, open_words}
use Rattle.btor_core.specs.declared.line.Word.{Word}
use Rattle.model_core.specs.Meaning.{Cycle, Frame, Run, row_at}
use Rattle.model_core.specs.Shape.{ModelOf, states}
use Rattle.model_core.proofs.Fitting.{length-row_at}
use Rattle.btor_emit.specs.Drawing.{IsCycle, IsDrawn}
use Rattle.btor_emit.specs.Emission.{IsSame}
use Rattle.btor_emit.specs.declared.goal.Goal.{Goal}
use Rattle.btor_emit.proofs.Opening.{values_with}

module _ (m : ModelOf) (g : Goal) (e : BtorOf) (inputs : List ℕ) (drawn : IsDrawn m g e inputs) where
  -- each cycle of the model is values of the lines
  some_values : (c : Cycle) → length (row_at c (states m ++ inputs)) ≡ sum_by (λ a. a.width) (open_words e.lines) → Frame m c → (vs : Values) × IsCycle m e inputs vs c
  some_values c long f =
      let got = values_with e (row_at c (states m ++ inputs)) drawn.btor long in
      (got.0, record { holds = got.1.holds; frame = f; bits = got.1.row_is })

  same_cycle : (vs : Values) (c : Cycle) → IsCycle m e inputs vs c → IsSame m g e inputs vs c
  same_cycle vs c i = record { bits = i.bits; assumed = drawn.met vs c i; bad = drawn.bad vs c i }

  pick_cycle : (n : ℕ) (vss : ℕ → Values) → BtorRun e n vss → (t : ℕ) → (c : Cycle) × (t < n → IsCycle m e inputs (vss t) c)
  pick_cycle n vss run t =
      elim (cases_lt t n) as (λ _. (c : Cycle) × (t < n → IsCycle m e inputs (vss t) c)) [
        | inl below ↦ let got = drawn.cycle (vss t) (run.holds t below) in (got.0, λ h. got.1)
        | inr past ↦ (λ p. false, λ h. absurd (omega arith))
      ]

  pub runs_from : (n : ℕ) (vss : ℕ → Values) → BtorRun e n vss → (cs : ℕ → Cycle) × Run m n cs × ((t : ℕ) → t < n → IsSame m g e inputs (vss t) (cs t))
  runs_from n vss run =
      let cs : ℕ → Cycle = λ t. (pick_cycle n vss run t).0 in
      let at : (t : ℕ) → t < n → IsCycle m e inputs (vss t) (cs t) = λ t h. (pick_cycle n vss run t).1 h in (
        cs,
        record {
          window = record {
            some = run.some;
            frames = λ t h. (at t h).frame;
            follows = λ t h. (drawn.goes_on (vss t) (vss (suc t)) (cs t) (cs (suc t)) (at t (omega arith)) (at (suc t) h)).0 (run.goes_on t h);
          };
          starts = (drawn.starts (vss 0) (cs 0) (at 0 run.some)).0 run.starts;
        },
        λ t h. same_cycle (vss t) (cs t) (at t h),
      )

  pick_values : (n : ℕ) (cs : ℕ → Cycle) → ((c : Cycle) → length (row_at c (states m ++ inputs)) ≡ sum_by (λ a. a.width) (open_words e.lines)) → Run m n cs → (t : ℕ) → (vs : Values) × (t < n → IsCycle m e inputs vs (cs t))
  pick_values n cs long run t =
      elim (cases_lt t n) as (λ _. (vs : Values) × (t < n → IsCycle m e inputs vs (cs t))) [
        | inl below ↦ let got = some_values (cs t) (long (cs t)) (run.window.frames t below) in (got.0, λ h. got.1)
        | inr past ↦ (λ k. [], λ h. absurd (omega arith))
      ]

  pub runs_to : (n : ℕ) (cs : ℕ → Cycle) → Run m n cs → (vss : ℕ → Values) × BtorRun e n vss × ((t : ℕ) → t < n → IsSame m g e inputs (vss t) (cs t))
  runs_to n cs run =
      let long : (c : Cycle) → length (row_at c (states m ++ inputs)) ≡ sum_by (λ (a : Word). a.width) (open_words e.lines) = λ c. length-row_at c (states m ++ inputs) ∙ sym drawn.total in
      let vss : ℕ → Values = λ t. (pick_values n cs long run t).0 in
      let at : (t : ℕ) → t < n → IsCycle m e inputs (vss t) (cs t) = λ t h. (pick_values n cs long run t).1 h in (
        vss,
        record {
          some = run.window.some;
          holds = λ t h. (at t h).holds;
          starts = (drawn.starts (vss 0) (cs 0) (at 0 run.window.some)).1 run.starts;
          goes_on = λ t h. (drawn.goes_on (vss t) (vss (suc t)) (cs t) (cs (suc t)) (at t (omega arith)) (at (suc t) h)).1 (run.window.follows t h);
        },
        λ t h. same_cycle (vss t) (cs t) (at t h),
      )
