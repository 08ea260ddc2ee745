use Rattle.std.proofs.Common.{sym, subst}
use Rattle.model_core.specs.Meaning.{Assumed, Broken, Reached}
use Rattle.model_core.specs.Shape.{ModelOf}
use Rattle.model_cone.proofs.Claims.{assumed-from, assumed-to, broken-from, broken-to, reached-from, reached-to}
use Rattle.model_cone.proofs.laws.slices_say_the_same.Goals as goal

pub returns : goal.returns
returns c = record {
  assumed = λ m asked s h u v w. (
    (λ a. subst (λ (k : ModelOf). Assumed k v) (sym h.is) (assumed-to m asked u v w a)),
    (λ a. assumed-from m asked u v w (subst (λ (k : ModelOf). Assumed k v) h.is a)),
  );
  broken = λ m s h u v w k. (
    (λ a. subst (λ (z : ModelOf). Broken z v k) (sym h.is) (broken-to m u v w k a)),
    (λ a. broken-from m u v w k (subst (λ (z : ModelOf). Broken z v k) h.is a)),
  );
  reached = λ m s k h u v w. (
    (λ a. subst (λ (z : ModelOf). Reached z v k) (sym h.is) (reached-to m k u v w a)),
    (λ a. reached-from m k u v w (subst (λ (z : ModelOf). Reached z v k) h.is a)),
  );
}
