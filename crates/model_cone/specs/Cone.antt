-- The cone of influence of the asked statements: the places on which they and the assumptions rest, in any cycle.
use Rattle.std.specs.Prelude.{◌≡◌, ◌⊎◌, ◌↔◌, ℕ, zero, suc, Bool, true, Some, slice_get, Contains}
use Rattle.model_core.specs.Shape.{ModelOf, NodeOf, RegisterOf, reads}
use Rattle.model_core.specs.Meaning.{Cycle}
use Rattle.model_core.specs.declared.model.Statement.{Statement}
use Rattle.model_cone.specs.declared.asked.Asked.{Asked}
use Rattle.model_cone.specs.declared.asked.Asked.TheVariants.{Asserts, Covers}

-- what decides, beside that bit itself, what bit k of a register has next: the bits that it takes and resets to, and the controls
abbrev pub Decides : RegisterOf → ℕ → ℕ → Type 0
Decides r k q = (slice_get r.d k ≡ Some q) ⊎ (slice_get r.value k ≡ Some q) ⊎ (q ≡ r.enable.place) ⊎ (q ≡ r.reset.place)

abbrev pub IsGivenBy : ModelOf → ℕ → ℕ → Type 0
IsGivenBy m p q = (i : ℕ) × (n : NodeOf) × (slice_get m.nodes i ≡ Some n) × Contains n.y p × Contains (reads n) q

abbrev pub IsHeldBy : ModelOf → ℕ → ℕ → Type 0
IsHeldBy m p q = (i k : ℕ) × (r : RegisterOf) × (slice_get m.registers i ≡ Some r) × (slice_get r.q k ≡ Some p) × Decides r k q

-- p is given by a node that reads q, or is a state bit of which q decides what it has next
abbrev pub RestsOn : ModelOf → ℕ → ℕ → Type 0
RestsOn m p q = IsGivenBy m p q ⊎ IsHeldBy m p q

-- p rests on q by a chain of this many steps
abbrev pub RestsIn : ModelOf → ℕ → ℕ → ℕ → Type 0
RestsIn m zero p q = p ≡ q
RestsIn m (suc n) p q = (r : ℕ) × RestsIn m n p r × RestsOn m r q

-- all assertions are asked, or all cover statements
abbrev pub IsAsked : ModelOf → Asked → Statement → Type 0
IsAsked m Asserts s = Contains m.asserts s
IsAsked m Covers s = Contains m.covers s

-- assumptions count always
abbrev pub Counts : ModelOf → Asked → Statement → Type 0
Counts m asked s = IsAsked m asked s ⊎ Contains m.assumes s

-- where the cone begins: the A and EN of each statement that counts; the two constants are kept always
abbrev pub IsRoot : ModelOf → Asked → ℕ → Type 0
IsRoot m asked p = ((s : Statement) × Counts m asked s × ((p ≡ s.a) ⊎ (p ≡ s.en))) ⊎ ((p ≡ m.zero) ⊎ (p ≡ suc m.zero))

-- p is in the cone
abbrev pub IsInCone : ModelOf → Asked → ℕ → Type 0
IsInCone m asked p = (root : ℕ) × (n : ℕ) × IsRoot m asked root × RestsIn m n root p

-- which places are in the cone
abbrev pub IsCone : ModelOf → Asked → (ℕ → Bool) → Type 0
IsCone m asked keep = (p : ℕ) → (keep p ≡ true) ↔ IsInCone m asked p

-- the same at all places in the cone
abbrev pub AgreeInCone : ModelOf → Asked → Cycle → Cycle → Type 0
AgreeInCone m asked c e = (p : ℕ) → IsInCone m asked p → c p ≡ e p
