use Rattle.std.proofs.Common.{◌≡◌, take, arith, subst}
use Rattle.std.specs.Prelude.{Contains, Some, slice_get}
use Rattle.cnf_form.specs.Cnf.{negate}
use Rattle.cdcl_core.proofs.Backjumps.{before_in}
use Rattle.cdcl_core.proofs.learn.is_before.Goals as goal

pub returns-then-a_place-b_place-clause-yes : goal.returns-then-a_place-b_place-clause-yes
returns-then-a_place-b_place-clause-yes c h n k =
    let t = c.args.core.now.trail in
    let p = c.place-a_place.ensures in
    let q = c.place-b_place.ensures in
    let a = c.place-a_place.result in
    let b = c.place-b_place.result in
    let at : slice_get t a ≡ Some (negate c.args.a) = subst (λ z. slice_get t a ≡ Some z) c.negate.ensures p.at in
    let none : Contains (take b t) (negate c.args.b) → ⊥ = subst (λ z. Contains (take b t) z → ⊥) c.negate-2.ensures q.first in
    before_in t a b (negate c.args.a) (negate c.args.b) at p.within none (omega arith) n k

pub returns-clause-no : goal.returns-clause-no
returns-clause-no c h n k =
    let t = c.args.core.now.trail in
    let p = c.place-a_place.ensures in
    let q = c.place-b_place.ensures in
    let a = c.place-a_place.result in
    let b = c.place-b_place.result in
    let at : slice_get t b ≡ Some (negate c.args.b) = subst (λ z. slice_get t b ≡ Some z) c.negate-2.ensures q.at in
    let none : Contains (take a t) (negate c.args.a) → ⊥ = subst (λ z. Contains (take a t) z → ⊥) c.negate.ensures p.first in
    before_in t b a (negate c.args.b) (negate c.args.a) at q.within none (omega arith) n k
