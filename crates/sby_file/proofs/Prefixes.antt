-- The words of a prefix.
use Rattle.std.proofs.Common.{◌≡◌, ℕ, zero, suc, ◌+◌, ◌<◌, Bool, true, false, cond, List, [], ◌∷◌, length, get_or, refl, arith, eqb, take, Some, None, inl, inr}
use Rattle.sby_file.specs.Prefix.{prefix_length, is_negated, are_known}
use Rattle.sby_file.specs.Faults.{Declared, prefix_faults, first}
use Rattle.sby_file.specs.declared.fault.SbyKind.TheVariants.{UnknownTask}
use Rattle.std.proofs.lemmas.Bool.{cases_Bool}
use Rattle.std.proofs.lemmas.Bool.Decides.{nat_tests}

-- this many words further on, but for 0
abbrev pub moved : ℕ → ℕ → ℕ
moved i zero = 0
moved i (suc n) = i + suc n

pub tilde_in_front : (w : List ℕ) → is_negated w ≡ true → (0 < length w) × (get_or w 0 0 < 128)
tilde_in_front [] h = cc
tilde_in_front (b ∷ bs) h = (omega arith, grind (arith, nat_tests))

-- what is wrong with a prefix in a file that has tasks
pub prefix_verdict : (d : Declared) (words front : List (List ℕ)) (n : ℕ) (known : Bool) → n ≡ prefix_length words → (n ≡ 0 → ⊥) → d.has_tasks ≡ true → known ≡ are_known d.is_known front
    → take n words ≡ front → first (prefix_faults d words) ≡ cond known None (Some UnknownTask)
prefix_verdict d words front n known e z t k f =
    let some : eqb n 0 ≡ false = grind (arith, nat_tests) in
    elim (cases_Bool known) [
      | inl y ↦ rw (← e, some, t, f, ← k, y) refl
      | inr y ↦ rw (← e, some, t, f, ← k, y) refl
    ]
