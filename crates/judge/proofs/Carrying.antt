-- A job can be solved of a design where it can be solved of the design's model.
use Rattle.std.proofs.Common.{◌≡◌, ℕ, suc, ◌<◌, List, [], ◌∷◌, length, refl, ap, arith}
use Rattle.design_core.specs.Shape.{DesignOf, IsDesign}
use Rattle.design_meaning.specs.Meaning.{Valuation, asserts, covers}
use Rattle.job_terms.specs.Jobs.{AsksNothing as AsksNothingOf, Solvable as SolvableOf}
use Rattle.model_core.specs.Claims.{StepShows as StepShowsOf}
use Rattle.model_core.specs.Meaning.{Cycle, Frame}
use Rattle.model_core.specs.Shape.{ModelOf}
use Rattle.sby_terms.specs.declared.names.JobName.{JobName}
use Rattle.sby_terms.specs.declared.names.JobName.TheVariants.{Base, Step, Inv, Cover}
use Rattle.sby_terms.specs.declared.span.Span.{Span}
use Rattle.word_model.proofs.Alike.{alike-turned, assumed-alike, broken-alike}
use Rattle.word_model.proofs.Runs.{reach-from, reach-to, shows-from, shows-to, window-from, window-to}
use Rattle.word_model.specs.Layout.{HasConstants, valued}
use Rattle.word_model.specs.Model.{IsModelOf}
use Rattle.judge.specs.Jobs.{AsksNothing, Solvable, StepShows}

none-by-length : {A B : Type 0} (xs : List A) (ys : List B) → length xs ≡ length ys → ys ≡ [] → xs ≡ []
none-by-length [] ys e none = refl
none-by-length {B = B} (x ∷ xs) ys e none = let n : length ys ≡ length {A = B} [] = ap length none in absurd (omega (arith, e, n))

module _ (d : DesignOf) (m : ModelOf) (is : IsModelOf d m) where
  pub constants : (c : Cycle) → Frame m c → HasConstants m c
  constants c f = record { zero = f.zero; one = f.one }

  pub step-to : (n : ℕ) (cs : ℕ → Cycle) (a : ℕ) → StepShowsOf m n cs a → StepShows d n (λ t. valued d (cs t)) a
  step-to n cs a s = record {
    window = window-to d m is (suc n) cs s.window;
    assumed = λ t lt. (is.assumed (cs t) (constants (cs t) (s.window.frames t lt))).0 (s.assumed t lt);
    before = λ t b lt broken. s.before t b lt ((is.broken (cs t) (constants (cs t) (s.window.frames t (omega (arith, lt)))) b).1 broken);
    last = (is.broken (cs n) (constants (cs n) (s.window.frames n (omega arith))) a).0 s.last;
  }

  pub solvable-to : (job : JobName) (span : Span) → SolvableOf m job span → Solvable d job span
  solvable-to (Base i) span s = (s.0, λ t. valued d (s.1 t), s.2, s.3, s.4, shows-to d m is s.0 s.1 s.2 s.5)
  solvable-to Inv span s = (s.0, λ t. valued d (s.1 t), s.2, shows-to d m is s.0 s.1 s.2 s.3)
  solvable-to Step span s = (λ t. valued d (s.0 t), s.1, step-to span.depth s.0 s.1 s.2)
  solvable-to (Cover k) span s = (s.0, λ t. valued d (s.1 t), s.2, reach-to d m is s.0 s.1 k s.3)

  module _ (shape : IsDesign d) where
    step-from : (n : ℕ) (vs : ℕ → Valuation) (a : ℕ) → StepShows d n vs a → (cs : ℕ → Cycle) × StepShowsOf m n cs a
    step-from n vs a s =
        let w = window-from d m is shape (suc n) vs s.window in
        let known : (t : ℕ) → t < suc n → HasConstants m (w.0 t) = λ t lt. constants (w.0 t) (w.1.frames t lt) in (
          w.0,
          record {
            window = w.1;
            assumed = λ t lt. (is.assumed (w.0 t) (known t lt)).1 (assumed-alike d shape (vs t) (valued d (w.0 t)) (w.2 t lt) (s.assumed t lt));
            before = λ t b lt broken.
                let now : t < suc n = omega (arith, lt) in
                s.before t b lt
                (broken-alike d shape (valued d (w.0 t)) (vs t) (alike-turned d (vs t) (valued d (w.0 t)) (w.2 t now)) b ((is.broken (w.0 t) (known t now) b).0 broken));
            last =
                let now : n < suc n = omega arith in
                (is.broken (w.0 n) (known n now) a).1 (broken-alike d shape (vs n) (valued d (w.0 n)) (w.2 n now) a s.last);
          },
        )

    pub solvable-from : (job : JobName) (span : Span) → Solvable d job span → SolvableOf m job span
    solvable-from (Base i) span s = let r = shows-from d m is shape s.0 s.1 s.2 s.5 in (s.0, r.0, s.2, s.3, s.4, r.1)
    solvable-from Inv span s = let r = shows-from d m is shape s.0 s.1 s.2 s.3 in (s.0, r.0, s.2, r.1)
    solvable-from Step span s = let r = step-from span.depth s.0 s.1 s.2 in (r.0, s.1, r.1)
    solvable-from (Cover k) span s = let r = reach-from d m is shape s.0 s.1 k s.3 in (s.0, r.0, s.2, r.1)

  pub asks-from : (job : JobName) → AsksNothing d job → AsksNothingOf m job
  asks-from (Base i) none = none-by-length m.asserts (asserts d) is.asserts none
  asks-from Inv none = absurd none
  asks-from Step none = none-by-length m.asserts (asserts d) is.asserts none
  asks-from (Cover k) none = none-by-length m.covers (covers d) is.covers none
