use Rattle.std.proofs.Common.{false, refl, subst}
use Rattle.model_core.specs.Meaning.{Cycle, Run, Window}
use Rattle.model_core.specs.Shape.{ModelOf}
use Rattle.model_cone.proofs.Windows.{digits-first, first-inputs, up, up-agrees, up-inputs, up-open, up-run, up-states, up-window}
use Rattle.model_cone.proofs.laws.windows_of_slices.Goals as goal

pub returns : goal.returns
returns c = record {
  window = λ m asked s is iss h n es w.
      let none : Cycle = λ p. false in
      let z = subst (λ (k : ModelOf). Window k n es) h.is w in (
        up m is asked h.keep h.cone es none,
        up-window m is asked h.keep h.cone es none n z,
        λ t l. up-agrees m is asked h.keep h.cone es none n z t l,
        λ t p l i o. up-inputs m is asked h.keep h.cone es none (λ p i. refl) t p i o,
        λ p i o. up-states m is asked h.keep h.cone es none p i o,
      );
  run = λ m asked s is iss h n es w.
      let first : Cycle = digits-first m is asked h.keep h.cone in
      let z = subst (λ (k : ModelOf). Run k n es) h.is w in (
        up m is asked h.keep h.cone es first,
        up-run m is asked h.keep h.cone es n z,
        λ t l. up-agrees m is asked h.keep h.cone es first n z.window t l,
        λ t p l i o. up-inputs m is asked h.keep h.cone es first (λ p i. first-inputs m is asked h.keep h.cone p i) t p i o,
        λ p i o. up-open m is asked h.keep h.cone es p i o,
      );
}
