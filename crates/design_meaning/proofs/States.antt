-- State bits and what they have.
use Rattle.std.proofs.Common.{◌≡◌, ℕ, List, [], ◌∷◌, map, Bool, refl, ap}
use Rattle.design_core.specs.declared.table.Role.{Role}
use Rattle.design_core.specs.declared.table.Role.TheVariants.{Combinational, Register, AsyncResetRegister, Constant, Initial, Source, Statement, Unsupported}
use Rattle.design_meaning.specs.Meaning.{Valuation, bit_in, row_of_role}
use Rattle.design_meaning.specs.States.{Signal, Kept, state_in, state_of_role}
use Rattle.design_signals.specs.declared.sig_bit.SigBit.{SigBit}

signals : (v : Valuation) (xs : List SigBit) → map (state_in v) (map (λ b. Signal b) xs) ≡ map (bit_in v) xs
signals v [] = refl
signals v (x ∷ xs) = ap (λ (r : List Bool). bit_in v x ∷ r) (signals v xs)

kept : (v : Valuation) (i : ℕ) (ks : List ℕ) → map (state_in v) (map (λ k. Kept i k) ks) ≡ map (v.kept i) ks
kept v i [] = refl
kept v i (k ∷ ks) = ap (λ (r : List Bool). v.kept i k ∷ r) (kept v i ks)

pub by_role : (v : Valuation) (i : ℕ) (r : Role) (xs : List SigBit) (ks : List ℕ)
    → map (state_in v) (state_of_role r (map (λ b. Signal b) xs) (map (λ k. Kept i k) ks)) ≡ row_of_role r (map (bit_in v) xs) (map (v.kept i) ks)
by_role v i Combinational xs ks = refl
by_role v i Register xs ks = signals v xs
by_role v i AsyncResetRegister xs ks = kept v i ks
by_role v i Constant xs ks = signals v xs
by_role v i Initial xs ks = signals v xs
by_role v i Source xs ks = refl
by_role v i Statement xs ks = refl
by_role v i Unsupported xs ks = refl
