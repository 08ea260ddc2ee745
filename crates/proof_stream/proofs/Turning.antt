-- What one byte of a binary proof leaves.
use Rattle.std.proofs.Common.{◌≡◌, ℕ, eqb, refl, ap, ◌∙◌, inl, inr}
use Rattle.std.proofs.lemmas.Bool.{cases_Bool}
use Rattle.std.specs.Prelude.{Option}
use Rattle.proof_stream.specs.Numbers.{GroupsRead, Goes, Whole, Unfit}
use Rattle.proof_stream.specs.Binary.{BinaryOf, BinaryTurn, gap_read, head_read, literal_read, spot_read}
use Rattle.proof_stream.specs.declared.spot.LineKind.{LineKind}
use Rattle.proof_stream.specs.declared.spot.Spot.{Spot}
use Rattle.proof_stream.specs.declared.spot.Spot.TheVariants.{Between, Gap, InNumber, Bad}

head_vars : (w : BinaryOf) (b : ℕ) → (head_read w b).to.vars ≡ w.vars
head_vars w b = elim (cases_Bool (eqb b 97)) [ inl t ↦ rw t refl | inr f ↦ rw f (elim (cases_Bool (eqb b 100)) [ inl t ↦ rw t refl | inr g ↦ rw g refl ]) ]

literal_vars : (w : BinaryOf) (kind : LineKind) (place : ℕ) (r : GroupsRead) → (literal_read w kind place r).to.vars ≡ w.vars
literal_vars w kind place (Goes v u) = refl
literal_vars w kind place (Whole n) = refl
literal_vars w kind place (Unfit k) = refl

gap_vars : (w : BinaryOf) (kind : LineKind) (b : ℕ) → (gap_read w kind b).to.vars ≡ w.vars
gap_vars w kind b = elim (cases_Bool (eqb b 0)) [ inl t ↦ rw t refl | inr f ↦ rw f (literal_vars w kind _ _) ]

read_vars : (w : BinaryOf) (s : Spot) (b : ℕ) → (spot_read w s b).to.vars ≡ w.vars
read_vars w Between b = head_vars w b
read_vars w (Gap kind) b = gap_vars w kind b
read_vars w (InNumber kind g) b = literal_vars w kind _ _
read_vars w (Bad f) b = refl

-- the variables stay
pub turn_vars : (w v : BinaryOf) (b : ℕ) (event : Option LineKind) → (let t : BinaryTurn = record { to = v; event = event } in t) ≡ spot_read w w.spot b → v.vars ≡ w.vars
turn_vars w v b event r = ap (λ (t : BinaryTurn). t.to.vars) r ∙ read_vars w w.spot b
