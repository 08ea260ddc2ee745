-- Base and Step together show that no run breaks an assertion.
use Rattle.std.proofs.Common.{◌≡◌, ℕ, zero, suc, ◌<◌, refl, subst, sym, arith, add-one}
use Rattle.design_core.specs.Shape.{DesignOf}
use Rattle.design_meaning.specs.Claims.{NeverBreak, Shows}
use Rattle.design_meaning.specs.Meaning.{Assumed, Broken, Follows, Frame, Run, Starts, Valuation, Window}
use Rattle.induct_rule.specs.Induction.{IsRun, IsWindow, NoBreakWithin, NoBreakingWindow}
use Rattle.induct_rule.specs.Law.{never_breaks}
use Rattle.sby_terms.specs.Span.{whole}
use Rattle.sby_terms.specs.declared.names.JobName.TheVariants.{Base, Step}
use Rattle.judge.specs.Jobs.{Solvable}

module _ (d : DesignOf) where
  -- a cycle of the design whose assumptions hold
  abbrev Counts : Valuation → Type 0
  Counts v = Frame d v × Assumed d v

  -- it breaks no assertion
  abbrev IsFine : Valuation → Type 0
  IsFine v = (a : ℕ) → Broken d v a → ⊥

  window-of : (vs : ℕ → Valuation) (last : ℕ) → IsWindow (Follows d) Counts vs last → Window d (suc last) vs
  window-of vs last w = record {
    some = omega arith;
    frames = λ t lt. (w.assumed t (omega arith)).0;
    follows = λ t lt. subst (λ (n : ℕ). Follows d (vs t) (vs n)) (add-one t) (w.follows t (omega arith));
  }

  assumed-in : (vs : ℕ → Valuation) (last : ℕ) → IsWindow (Follows d) Counts vs last → (t : ℕ) → t < suc last → Assumed d (vs t)
  assumed-in vs last w t lt = (w.assumed t (omega arith)).1

  run-of : (vs : ℕ → Valuation) (last : ℕ) → Run d (suc last) vs → ((t : ℕ) → t < suc last → Assumed d (vs t)) → IsRun (Starts d) (Follows d) Counts vs last
  run-of vs last r assumed = record {
    starts = r.starts;
    window = record {
      assumed = λ t le. (r.window.frames t (omega arith), assumed t (omega arith));
      follows = λ t lt. subst (λ (n : ℕ). Follows d (vs t) (vs n)) (sym (add-one t)) (r.window.follows t (omega arith));
    };
  }

  module _ (n : ℕ) (base : Solvable d (Base 0) (whole n) → ⊥) (step : Solvable d Step (whole n) → ⊥) where
    no-break : NoBreakWithin (Starts d) (Follows d) Counts IsFine n
    no-break vs last le run breaks =
        breaks (λ a b.
        let broken : Broken d (vs last) a = b in
        base (
          suc last,
          vs,
          a,
          omega arith,
          omega arith,
          record {
            run = record { window = window-of vs last run.window; starts = run.starts };
            assumed = assumed-in vs last run.window;
            last = λ t e. let same : last ≡ t = omega (arith, e) in subst (λ (k : ℕ). Broken d (vs k) a) same broken;
          },
        ))

    no-window : NoBreakingWindow (Follows d) Counts IsFine n
    no-window vs w first =
        first.breaks (λ a b.
        step (vs, a, record { window = window-of vs n w; assumed = assumed-in vs n w; before = λ t k lt broken. first.before t lt k broken; last = b }))

    shown : (m : ℕ) (vs : ℕ → Valuation) (a : ℕ) → 0 < m → Shows d m vs a → ⊥
    shown zero vs a lt s = absurd (omega arith)
    shown (suc last) vs a lt s =
        never_breaks (Starts d) (Follows d) Counts IsFine n no-break no-window vs last (run-of vs last s.run s.assumed) (λ fine. fine a (s.last last refl))

    pub nothing-breaks : NeverBreak d
    nothing-breaks = λ k m vs a lt le s. shown m vs a lt s
