use Rattle.std.proofs.Common.{◌≡◌, ◌∙◌, ◌-◌, ℕ, zero, suc, List, Bool, [], false, take, replicate, ap, refl, arith}
use Rattle.std.proofs.lemmas.List.{length-replicate}
use Rattle.model_cone.proofs.Coning.{cone-found, spread-begins}
use Rattle.model_cone.proofs.cone.cone.Goals as goal

take-nil : (n : ℕ) → take n (let xs : List Bool = [] in xs) ≡ []
take-nil zero = refl
take-nil (suc n) = refl

pub spread-requires-clause-begun : goal.spread-requires-clause-begun
spread-requires-clause-begun c =
    let size = c.size.ensures.size in
    let none : take c.size.result c.new-marks.result.items ≡ [] = (let e = c.new-marks.ensures.items in rw e (take-nil c.size.result)) in
    let grown : c.resize.new.self.items ≡ replicate c.size.result false =
    c.in_ok-resize.ensures.items ∙ rw (none, c.new-marks.ensures.len) (ap (λ (n : ℕ). replicate n false) (let z : c.size.result - 0 ≡ c.size.result = omega arith in z)) in
    spread-begins c.args.model.now c.args.asked c.size.result _ _ size (rw (grown, c.new.ensures.items) at c.in_ok-mark_roots.ensures) (length-replicate c.size.result false)

pub returns : goal.returns
returns c = record { model = c.size.ensures.model; size = c.in_ok-spread.ensures.size; cone = cone-found c.args.model.now c.args.asked _ c.in_ok-spread.ensures }
