-- Addresses, by their colon.
use Rattle.std.proofs.Common.{◌≡◌, ℕ, ◌<◌, ◌≤◌, Bool, true, false, ◌&&◌, ◌||◌, eqb, List, [], ◌∷◌, ◌++◌, length, Some, None, refl, sym, ap, ◌∙◌, subst, arith, ◌⊎◌, inl, inr}
use Rattle.std.specs.Prelude.{Option, is_some, decimal}
use Rattle.std.proofs.lemmas.Bool.{eqb-true}
use Rattle.sby_terms.specs.Number.{number_upto}
use Rattle.sby_terms.specs.Address.{IsAddress, ends_in_port, is_address}
use Rattle.sby_terms.proofs.Decimals.{reads, written}
use Rattle.sby_terms.proofs.Numbers.{both_true}

-- a colon with a port after it, after anything
abbrev IsEnd : List ℕ → Type 0
IsEnd word = (host : List ℕ) × (port : ℕ) × (word ≡ host ++ 58 ∷ decimal port) × (1 ≤ port) × (port ≤ 65535)

either : (p q : Bool) → (p || q) ≡ true → (p ≡ true) ⊎ (q ≡ true)
either true q h = inl refl
either false q h = inr h

some_of : (port : Option ℕ) → is_some port ≡ true → (n : ℕ) × (port ≡ Some n)
some_of None h = absurd (let e : false ≡ true = h in cc)
some_of (Some n) h = (n, refl)

end_told : (word : List ℕ) → ends_in_port word ≡ true → IsEnd word
end_told [] h = absurd (let e : false ≡ true = h in cc)
end_told (b ∷ bs) h = elim (either (eqb b 58 && is_some (number_upto 65535 bs)) (ends_in_port bs) h) [
  | inl here ↦
      let both = both_true (eqb b 58) (is_some (number_upto 65535 bs)) here in
      let some = some_of (number_upto 65535 bs) both.1 in
      let w = written 65535 some.0 bs (omega arith) some.1 in
      ([], some.0, ap (λ c. c ∷ bs) (eqb-true b 58 both.0) ∙ ap (λ ds. 58 ∷ ds) w.0, w.1, w.2)
  | inr later ↦ let e = end_told bs later in (b ∷ e.0, e.1, ap (λ ds. b ∷ ds) e.2, e.3, e.4)
]

or_right : (p : Bool) → (p || true) ≡ true
or_right true = refl
or_right false = refl

end_tells : (host : List ℕ) (port : ℕ) → 1 ≤ port → port ≤ 65535 → ends_in_port (host ++ 58 ∷ decimal port) ≡ true
end_tells [] port low high =
    let k : number_upto 65535 (decimal port) ≡ Some port = reads 65535 port (decimal port) (omega arith) (refl, low, high) in
    rw k refl
end_tells (b ∷ host) port low high =
    let k : ends_in_port (host ++ 58 ∷ decimal port) ≡ true = end_tells host port low high in
    rw k (or_right (eqb b 58 && is_some (number_upto 65535 (host ++ 58 ∷ decimal port))))

pub told : (word : List ℕ) → is_address word ≡ true → IsAddress word
told [] h = absurd (let e : false ≡ true = h in cc)
told (b ∷ bs) h = let e = end_told bs h in (b ∷ e.0, e.1, ap (λ ds. b ∷ ds) e.2, omega arith, e.3, e.4)

from_host : (host : List ℕ) (port : ℕ) → 1 ≤ length host → 1 ≤ port → port ≤ 65535 → is_address (host ++ 58 ∷ decimal port) ≡ true
from_host [] port some low high = absurd (omega (arith, some))
from_host (b ∷ host) port some low high = end_tells host port low high

pub tells : (word : List ℕ) → IsAddress word → is_address word ≡ true
tells word a = subst (λ w. is_address w ≡ true) (sym a.2) (from_host a.0 a.1 a.3 a.4 a.5)
