-- From a slice to the whole model.
use Rattle.std.proofs.Common.{ℕ, ◌<◌, arith}
use Rattle.std.specs.Prelude.{◌↔◌}
use Rattle.model_cone.specs.Cone.{AgreeInCone}
use Rattle.model_cone.specs.declared.asked.Asked.TheVariants.{Asserts}
use Rattle.model_core.specs.Claims.{Shows}
use Rattle.model_core.specs.Meaning.{Assumed, Broken, Cycle, Run}
use Rattle.model_core.specs.Shape.{ModelOf}

-- a run of the model that shows a break is one of the slice's
pub shown_in : (m s : ModelOf) →
    ((n : ℕ) (cs : ℕ → Cycle) → Run m n cs → (es : ℕ → Cycle) × Run s n es × ((t : ℕ) → t < n → AgreeInCone m Asserts (cs t) (es t))) →
    ((c e : Cycle) → AgreeInCone m Asserts c e → Assumed m c ↔ Assumed s e) → ((c e : Cycle) → AgreeInCone m Asserts c e → (k : ℕ) → Broken m c k ↔ Broken s e k) →
    (n : ℕ) (cs : ℕ → Cycle) (a : ℕ) → Shows m n cs a → (es : ℕ → Cycle) × Shows s n es a
shown_in m s down assumed broken n cs a shows =
    let r = down n cs shows.run in (
      r.0,
      record {
        run = r.1;
        assumed = λ t lt. (assumed (cs t) (r.0 t) (r.2 t lt)).0 (shows.assumed t lt);
        last = λ t e. let lt : t < n = omega arith in (broken (cs t) (r.0 t) (r.2 t lt) a).0 (shows.last t e);
      },
    )
