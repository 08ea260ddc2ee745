-- Chains of connects in one cycle.
use Rattle.std.proofs.Common.{◌≡◌, ℕ, zero, suc, Bool, List, [], ◌∷◌, Option, Some, ap, sym, ◌∙◌}
use Rattle.std.specs.Prelude.{slice_get}
use Rattle.design_core.specs.Shape.{DesignOf}
use Rattle.design_meaning.specs.Meaning.{Valuation, Frame, Chain, bit_in, row_in}
use Rattle.design_signals.specs.declared.sig_bit.SigBit.{SigBit}

bit_at : (v : Valuation) (xs : List SigBit) (k : ℕ) (x : SigBit) → slice_get xs k ≡ Some x → slice_get (row_in v xs) k ≡ Some (bit_in v x)
bit_at v [] k x h = cc
bit_at v (y ∷ xs) zero x h = let e : y ≡ x = cc in ap (λ (b : SigBit). Some (bit_in v b)) e
bit_at v (y ∷ xs) (suc k) x h = bit_at v xs k x h

one_bit : (a b : Bool) → ◌≡◌ {A = Option Bool} (Some a) (Some b) → a ≡ b
one_bit a b e = cc

pub chain_equal : (d : DesignOf) (v : Valuation) → Frame d v → (n : ℕ) (b a : SigBit) → Chain d n b a → bit_in v b ≡ bit_in v a
chain_equal d v f zero b a e = ap (bit_in v) e
chain_equal d v f (suc n) b a h =
    let m = h.0 in
    let j = h.1.1 in
    let k = h.1.2 in
    let rows : row_in v j.left ≡ row_in v j.right = f.connects h.1.0 j h.1.3 in
    one_bit (bit_in v b) (bit_in v m) (sym (bit_at v j.left k b h.1.4) ∙ (ap (λ (r : List Bool). slice_get r k) rows ∙ bit_at v j.right k m h.1.5))
    ∙ chain_equal d v f n m a h.2
