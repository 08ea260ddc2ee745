use Rattle.std.proofs.Common.{◌≡◌, ℕ, List, [], refl, rules, sym, subst}
use Rattle.std.specs.Prelude.{replicate}
use Rattle.btor_core.specs.Shape.{BtorOf}
use Rattle.btor_core.specs.Kept.{IsKept}
use Rattle.btor_core.proofs.Numbering.{kept_none}
use Rattle.btor_core.proofs.draft.Draft.new.Goals as goal

pub invariant_of-result : goal.invariant_of-result
invariant_of-result c =
    let items : c.in_ok-sorts.sorts.items ≡ replicate 4097 0 = search (rules, c.in_ok-sorts.ensures.items_if_clones_equal) in
    let P : BtorOf → List ℕ → Type 0 = λ m ks. IsKept m ks in
    subst (λ (m : BtorOf). P m c.in_ok-sorts.sorts.items) (sym c.new.ensures) (subst (λ (ks : List ℕ). P (record { lines = []; constants = [] }) ks) (sym items) (kept_none 4097 refl))
