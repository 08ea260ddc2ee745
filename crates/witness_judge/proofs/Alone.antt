-- Why a stream has one witness at most, as far as it chooses a run.
use Rattle.std.proofs.Common.{◌≡◌, ◌⊎◌, ◌∙◌, ℕ, ◌+◌, ◌≤◌, List, length, refl, sym, arith}
use Rattle.btor_witness.proofs.Exact.{end_kept}
use Rattle.btor_witness.specs.Grammar.{WitnessOf}
use Rattle.btor_witness.specs.Machine.{WitnessesOf, after, fresh}
use Rattle.btor_witness.specs.Streams.{EndsWith, Holds}
use Rattle.witness_judge.proofs.Chosen.{kept_choices}
use Rattle.witness_judge.proofs.Feeding.{ends_chosen}
use Rattle.witness_judge.specs.Choosing.{AskedOf, choices_for, shape_of}
use Rattle.witness_judge.specs.Settling.{HasChosen}

module _ (a : AskedOf) (bytes : List ℕ) (x y : WitnessOf) (h : Holds (shape_of a) bytes x ⊎ EndsWith (shape_of a) bytes x) (g : Holds (shape_of a) bytes y ⊎ EndsWith (shape_of a) bytes y) where
  abbrev most : ℕ
  most = length x.frames + length y.frames

  -- the same is asked, with later cycles
  abbrev later : AskedOf
  later = record { model = a.model; states = a.states; inputs = a.inputs; sought = record { goal = a.sought.goal; first = a.sought.first; last = most } }

  abbrev w : WitnessesOf
  w = after (fresh (shape_of a) most) bytes

  chose : (z : WitnessOf) → Holds (shape_of a) bytes z ⊎ EndsWith (shape_of a) bytes z → HasChosen later w z
  chose z i = ends_chosen later w bytes (λ v j. end_kept (shape_of a) most w bytes v refl j) z i

  pub same_choices : (length x.frames ≡ length y.frames) × (choices_for a x.frames ≡ choices_for a y.frames)
  same_choices =
      let c = chose x h in
      let d = chose y g in
      let count = c.kept.count in
      let counted = d.kept.count in
      let few : length x.frames ≤ most = omega arith in
      let fewer : length y.frames ≤ most = omega arith in
      (omega arith, sym (kept_choices later w x c few w.reading.frames.count refl) ∙ kept_choices later w y d fewer w.reading.frames.count refl)
