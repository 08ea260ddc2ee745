-- The state bits of a task's net are some of its model's.
use Rattle.std.proofs.Common.{◌≡◌, ◌∙◌, ℕ, suc, ◌<◌, ◌≤◌, Bool, true, false, List, [], ◌∷◌, ap, arith, length, refl, subst, sym}
use Rattle.std.specs.Prelude.{All}
use Rattle.std.specs.List.{filter}
use Rattle.std.proofs.lemmas.List.Elements.{All-filter}
use Rattle.model_cone.proofs.Slicing.{slice-states}
use Rattle.model_cone.specs.declared.asked.Asked.{Asked}
use Rattle.model_core.proofs.Lists.{all_from}
use Rattle.model_core.specs.Served.{IsModel}
use Rattle.model_core.specs.Shape.{ModelOf, states}
use Rattle.net_pair.proofs.Numbering.{place_below, states_few}
use Rattle.task_net.specs.Net.{IsTaskNet, TaskNetOf}
use Rattle.task_net.specs.Net.IsTaskNet.{AsksNone, AsksSome}

kept_few : (keep : ℕ → Bool) (ps : List ℕ) → length (filter keep ps) ≤ length ps
kept_few keep [] = omega arith
kept_few keep (p ∷ ps) = by (keep p) refl (kept_few keep ps)
  where
    by : (b : Bool) → keep p ≡ b → length (filter keep ps) ≤ length ps → length (filter keep (p ∷ ps)) ≤ suc (length ps)
    by true e r = rw e (let z : suc (length (filter keep ps)) ≤ suc (length ps) = omega (arith, r) in z)
    by false e r = rw e (let z : length (filter keep ps) ≤ suc (length ps) = omega (arith, r) in z)

module _ (m : ModelOf) (is : IsModel m) where
  all_below : All (λ (p : ℕ). p < m.size) (states m)
  all_below = all_from (λ (p : ℕ). p < m.size) (states m) (λ k p at. place_below m k p is at)

  -- each of them is below the size
  pub held_below : (asked : Asked) (t : TaskNetOf) → IsTaskNet m asked t → All (λ (p : ℕ). p < m.size) t.states
  held_below asked t (AsksNone none by) = subst (λ (ps : List ℕ). All (λ (p : ℕ). p < m.size) ps) (sym by.states) (all_from (λ (p : ℕ). p < m.size) [] (λ k p at. cc))
  held_below asked t (AsksSome keep cone by) =
      subst (λ (ps : List ℕ). All (λ (p : ℕ). p < m.size) ps) (sym (by.states ∙ slice-states keep m)) (All-filter keep (λ (p : ℕ). p < m.size) (states m) all_below)

  -- and there are no more than that
  pub held_few : (asked : Asked) (t : TaskNetOf) → IsTaskNet m asked t → length t.states ≤ m.size
  held_few asked t (AsksNone none by) = let none_held : length t.states ≡ 0 = ap length by.states in omega (arith, none_held)
  held_few asked t (AsksSome keep cone by) =
      let size : length t.states ≡ length (filter keep (states m)) = ap length (by.states ∙ slice-states keep m) in
      omega (arith, size, kept_few keep (states m), states_few m is)
