-- Prefixes that hold.
use Rattle.std.proofs.Common.{◌≡◌, ℕ, Bool, false, eqb, List, take, arith}
use Rattle.std.proofs.lemmas.Bool.Decides.{nat_tests}
use Rattle.sby_file.specs.Prefix.{prefix_length}
use Rattle.sby_task.specs.Scope.{holds, any_holds}

pub holds_by_one : (is_here : List ℕ → Bool) (words front : List (List ℕ)) (n : ℕ) (some : Bool) → n ≡ prefix_length words → (n ≡ 0 → ⊥) → take n words ≡ front → some ≡ any_holds is_here front
    → some ≡ holds is_here words
holds_by_one is_here words front n some e z f s =
    let more : eqb n 0 ≡ false = grind (arith, nat_tests) in
    rw (← e, more, f) s
