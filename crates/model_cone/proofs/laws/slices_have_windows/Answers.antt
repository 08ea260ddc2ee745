use Rattle.std.proofs.Common.{ℕ, ◌<◌, sym, subst}
use Rattle.model_core.specs.Meaning.{Cycle, Run, Window}
use Rattle.model_core.specs.Served.{IsModel}
use Rattle.model_core.specs.Shape.{ModelOf}
use Rattle.model_cone.specs.Cone.{AgreeInCone}
use Rattle.model_cone.proofs.Windows.{down, down-agrees, down-run, down-window}
use Rattle.model_cone.proofs.laws.slices_have_windows.Goals as goal

pub returns : goal.returns
returns c = record {
  window = λ m asked s is iss h n cs w.
      subst (λ (z : ModelOf). IsModel z → (es : ℕ → Cycle) × Window z n es × ((t : ℕ) → t < n → AgreeInCone m asked (cs t) (es t))) (sym h.is)
      (λ isz. (down m is asked h.keep h.cone isz cs, down-window m is asked h.keep h.cone isz cs n w, λ t l. down-agrees m is asked h.keep h.cone isz cs n w t l)) iss;
  run = λ m asked s is iss h n cs w.
      subst (λ (z : ModelOf). IsModel z → (es : ℕ → Cycle) × Run z n es × ((t : ℕ) → t < n → AgreeInCone m asked (cs t) (es t))) (sym h.is)
      (λ isz. (down m is asked h.keep h.cone isz cs, down-run m is asked h.keep h.cone isz cs n w, λ t l. down-agrees m is asked h.keep h.cone isz cs n w.window t l)) iss;
}
