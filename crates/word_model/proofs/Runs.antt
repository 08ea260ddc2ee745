-- Runs of a model and of its design.
use Rattle.std.proofs.Common.{◌≡◌, ℕ, suc, ◌<◌, true, false, ap, ◌∙◌, arith}
use Rattle.design_core.specs.Shape.{DesignOf, IsDesign}
use Rattle.design_meaning.specs.Claims.{ReachRun as ReachRunOf, Shows as ShowsOf}
use Rattle.design_meaning.specs.Meaning.{Run as RunOf, Valuation, Window as WindowOf}
use Rattle.model_core.specs.Claims.{ReachRun, Shows}
use Rattle.model_core.specs.Meaning.{Cycle, Frame, Run, Window}
use Rattle.model_core.specs.Shape.{ModelOf}
use Rattle.word_model.specs.Layout.{HasConstants, IsAlike, valued}
use Rattle.word_model.specs.Model.{IsModelOf}
use Rattle.word_model.proofs.Alike.{frame-alike, follows-alike, starts-alike, assumed-alike, broken-alike, reached-alike}
use Rattle.word_model.proofs.Coding.{coded, coded-alike, coded-high, coded-low}

module _ (d : DesignOf) (m : ModelOf) (is : IsModelOf d m) where
  constants : (c : Cycle) → Frame m c → HasConstants m c
  constants c f = record { zero = f.zero; one = f.one }

  pub window-to : (n : ℕ) (cs : ℕ → Cycle) → Window m n cs → WindowOf d n (λ t. valued d (cs t))
  window-to n cs w = record {
    some = w.some;
    frames = λ t lt. (is.frame (cs t) (constants (cs t) (w.frames t lt))).0 (w.frames t lt);
    follows = λ t lt.
        let now : t < n = omega (arith, lt) in
        (is.follows (cs t) (cs (suc t)) (constants (cs t) (w.frames t now)) (constants (cs (suc t)) (w.frames (suc t) lt))).0 (w.follows t lt);
  }

  pub run-to : (n : ℕ) (cs : ℕ → Cycle) → Run m n cs → RunOf d n (λ t. valued d (cs t))
  run-to n cs r = record {
    window = window-to n cs r.window;
    starts = (is.begins (cs 0) (constants (cs 0) (r.window.frames 0 r.window.some))).0 r.starts;
  }

  pub shows-to : (n : ℕ) (cs : ℕ → Cycle) (a : ℕ) → Shows m n cs a → ShowsOf d n (λ t. valued d (cs t)) a
  shows-to n cs a s = record {
    run = run-to n cs s.run;
    assumed = λ t lt. (is.assumed (cs t) (constants (cs t) (s.run.window.frames t lt))).0 (s.assumed t lt);
    last = λ t e. let lt : t < n = omega (arith, e) in (is.broken (cs t) (constants (cs t) (s.run.window.frames t lt)) a).0 (s.last t e);
  }

  pub reach-to : (n : ℕ) (cs : ℕ → Cycle) (k : ℕ) → ReachRun m n cs k → ReachRunOf d n (λ t. valued d (cs t)) k
  reach-to n cs k s = record {
    run = run-to n cs s.run;
    assumed = λ t lt. (is.assumed (cs t) (constants (cs t) (s.run.window.frames t lt))).0 (s.assumed t lt);
    last = λ t e. let lt : t < n = omega (arith, e) in (is.reached (cs t) (constants (cs t) (s.run.window.frames t lt)) k).0 (s.last t e);
  }

  coded-constants : (v : Valuation) → HasConstants m (coded d v)
  coded-constants v = record { zero = ap (coded d v) is.zero ∙ coded-low d v; one = ap (λ (z : ℕ). coded d v (suc z)) is.zero ∙ coded-high d v }

  module _ (shape : IsDesign d) (n : ℕ) (vs : ℕ → Valuation) where
    alike : (t : ℕ) → IsAlike d (vs t) (valued d (coded d (vs t)))
    alike t = coded-alike d (vs t)

    window-made : WindowOf d n vs → Window m n (λ t. coded d (vs t))
    window-made w = record {
      some = w.some;
      frames = λ t lt.
          (is.frame (coded d (vs t)) (coded-constants (vs t))).1
          (frame-alike d shape (vs t) (valued d (coded d (vs t))) (alike t) (w.frames t lt));
      follows = λ t lt.
          (is.follows (coded d (vs t)) (coded d (vs (suc t))) (coded-constants (vs t)) (coded-constants (vs (suc t)))).1
          (follows-alike d shape (vs t) (valued d (coded d (vs t))) (vs (suc t)) (valued d (coded d (vs (suc t)))) (alike t) (alike (suc t)) (w.follows t lt));
    }

    run-made : RunOf d n vs → Run m n (λ t. coded d (vs t))
    run-made r = record {
      window = window-made r.window;
      starts = (is.begins (coded d (vs 0)) (coded-constants (vs 0))).1 (starts-alike d shape (vs 0) (valued d (coded d (vs 0))) (alike 0) r.starts);
    }

    pub window-from : WindowOf d n vs → (cs : ℕ → Cycle) × Window m n cs × ((t : ℕ) → t < n → IsAlike d (vs t) (valued d (cs t)))
    window-from w = (λ t. coded d (vs t), window-made w, λ t lt. alike t)

    pub run-from : RunOf d n vs → (cs : ℕ → Cycle) × Run m n cs × ((t : ℕ) → t < n → IsAlike d (vs t) (valued d (cs t)))
    run-from r = (λ t. coded d (vs t), run-made r, λ t lt. alike t)

    pub shows-from : (a : ℕ) → ShowsOf d n vs a → (cs : ℕ → Cycle) × Shows m n cs a
    shows-from a s = (
      λ t. coded d (vs t),
      record {
        run = run-made s.run;
        assumed = λ t lt.
            (is.assumed (coded d (vs t)) (coded-constants (vs t))).1
            (assumed-alike d shape (vs t) (valued d (coded d (vs t))) (alike t) (s.assumed t lt));
        last = λ t e.
            (is.broken (coded d (vs t)) (coded-constants (vs t)) a).1
            (broken-alike d shape (vs t) (valued d (coded d (vs t))) (alike t) a (s.last t e));
      },
    )

    pub reach-from : (k : ℕ) → ReachRunOf d n vs k → (cs : ℕ → Cycle) × ReachRun m n cs k
    reach-from k s = (
      λ t. coded d (vs t),
      record {
        run = run-made s.run;
        assumed = λ t lt.
            (is.assumed (coded d (vs t)) (coded-constants (vs t))).1
            (assumed-alike d shape (vs t) (valued d (coded d (vs t))) (alike t) (s.assumed t lt));
        last = λ t e.
            (is.reached (coded d (vs t)) (coded-constants (vs t)) k).1
            (reached-alike d shape (vs t) (valued d (coded d (vs t))) (alike t) k (s.last t e));
      },
    )
