use Rattle.std.proofs.Common.{◌≡◌, ◌∙◌, ◌-◌, ◌≤◌, arith, ℕ, zero, suc, Bool, false, List, [], ◌∷◌, ap, map, refl, replicate, take, subst, sym}
use Rattle.std.specs.Prelude.{slice_index_or}
use Rattle.model_core.specs.Choices.{open_states}
use Rattle.model_core.specs.Served.{IsModel}
use Rattle.model_core.specs.Shape.{ModelOf}
use Rattle.model_cone.specs.Slice.{kept_by}
use Rattle.bit_net.specs.Net.{vars}
use Rattle.frame_net.specs.NetOf.{IsNetOf, net_cost}
use Rattle.task_net.specs.Net.{no_model}
use Rattle.task_net.specs.Net.IsTaskNet.{AsksNone}
use Rattle.task_net.proofs.Encoded.{no-model-is}
use Rattle.task_net.proofs.net.of_none.Goals as goal

take-nil : (n : ℕ) → take n (let xs : List Bool = [] in xs) ≡ []
take-nil zero = refl
take-nil (suc n) = refl

-- nothing is kept
none-kept : (n p : ℕ) → slice_index_or (replicate n false) p false ≡ false
none-kept zero p = refl
none-kept (suc n) zero = refl
none-kept (suc n) (suc p) = none-kept n p

all-out : (marks : List Bool) (n : ℕ) → marks ≡ replicate n false → (ps : List ℕ) → map (kept_by marks) ps ≡ map (λ p. false) ps
all-out marks n e [] = refl
all-out marks n e (p ∷ ps) = rw (ap (λ (bs : List Bool). slice_index_or bs p false) e ∙ none-kept n p, all-out marks n e ps) refl

pub finish-constants-requires : goal.finish-constants-requires
finish-constants-requires c = subst IsModel (sym c.new.ensures) no-model-is

pub returns : goal.returns
returns c =
    let same : c.finish-constants.result ≡ no_model = c.finish-constants.ensures ∙ c.new.ensures in
    let n = c.size.result in
    let none : take c.size.result c.new-marks.result.items ≡ [] = (let e = c.new-marks.ensures.items in rw e (take-nil c.size.result)) in
    let marks : c.resize.new.self.items ≡ replicate c.size.result false = c.in_ok-resize.ensures.items ∙ rw (none, c.new-marks.ensures.len) (ap (λ (n : ℕ). replicate n false) (let z : n - 0 ≡ n = omega arith in z)) in
    AsksNone c.requires.none (record {
      net = c.promise.ensures;
      is = subst (λ (s : ModelOf). IsNetOf s c.in-Ok.net) same (rw c.in-Ok.is at c.in_ok-net.ensures.net);
      few = subst (λ (s : ModelOf). vars c.in-Ok.net ≤ net_cost s) same (rw c.in-Ok.is at c.in_ok-net.ensures.size);
      states = c.new-states.ensures.items;
      starts = c.in_ok-starts.ensures ∙ all-out c.deref.result.now n (c.deref.ensures.value ∙ marks) (open_states c.args.model.now);
      inputs = c.in_ok-inputs.ensures ∙ all-out c.deref-2.result.now n (c.deref-2.ensures.value ∙ marks) c.args.model.now.inputs;
    })
