-- What frames choose is for a run of the model.
use Rattle.std.proofs.Common.{◌≡◌, ℕ, suc, ◌+◌, ◌*◌, ◌<◌, ◌≤◌, false, List, [], ◌∷◌, ◌++◌, Some, None, length, map, drop, refl, sym, ap, ◌∙◌, arith, length-append}
use Rattle.std.specs.Prelude.{All, Option}
use Rattle.std.specs.List.{AllByRecursion, concat}
use Rattle.std.proofs.lemmas.List.Elements.{All-map}
use Rattle.std.proofs.lemmas.List.{drop_at, length-map, length-replicate, take_all, take_at}
use Rattle.std.proofs.lemmas.Simd.{map-map}
use Rattle.sby_bits.specs.Rows.{Row}
use Rattle.model_core.specs.Choices.{AreChoicesFor, ChoicesOf}
use Rattle.model_core.specs.Served.{IsModel}
use Rattle.model_core.proofs.Lists.{all_from, contained_at}
use Rattle.model_core.specs.Shape.{ModelOf}
use Rattle.model_play.specs.Packed.{rows_of}
use Rattle.btor_emit.proofs.Rowing.{input_below}
use Rattle.btor_witness.specs.Choices.{inputs_in, inputs_of, rows_in, starts_of}
use Rattle.btor_witness.specs.Grammar.{AssignFits, AssignOf, FrameFits, FrameOf, PartFits, WitnessOf}
use Rattle.btor_witness.specs.Machine.{WitnessesOf}
use Rattle.btor_witness.specs.Shape.{open_bits}
use Rattle.btor_witness.specs.declared.shape.Slot.{Slot}
use Rattle.btor_witness.proofs.Kept.{chosen_long, rows_fit}
use Rattle.place_rows.specs.Rows.{AreRowsOf}
use Rattle.witness_judge.specs.Choosing.{AskedOf, IsAsked, all_inputs, bit_for, choices_for, input_slot, shape_of}
use Rattle.witness_judge.specs.Settling.{HasChosen}
use Rattle.witness_judge.proofs.Opening.{open_long}

input_bits : (ps : List (List ℕ)) → open_bits (map input_slot ps) ≡ length (concat ps)
input_bits [] = refl
input_bits (p ∷ ps) = let e = input_bits ps in let l = length-append p (concat ps) in omega (arith, e, l)

part_rows : (slots : List Slot) (part : Option (List AssignOf)) → PartFits slots part → AllByRecursion (AssignFits slots) (rows_in part)
part_rows slots None h = tt
part_rows slots (Some rows) h = h

module _ (a : AskedOf) where
  row_long : (f : FrameOf) → FrameFits (shape_of a) f → length (inputs_in (shape_of a) f) ≡ length (concat a.inputs)
  row_long f fits = chosen_long 0 (shape_of a).inputs (rows_in f.inputs) (rows_fit (shape_of a).inputs (rows_in f.inputs) (part_rows (shape_of a).inputs f.inputs fits.inputs)) ∙ input_bits a.inputs

  starts_long : (fs : List FrameOf) → AllByRecursion (FrameFits (shape_of a)) fs → length (starts_of (shape_of a) fs) ≡ open_bits (shape_of a).states
  starts_long [] h = length-replicate (open_bits (shape_of a).states) false
  starts_long (f ∷ fs) (fits, h) = chosen_long 0 (shape_of a).states (rows_in f.states) (rows_fit (shape_of a).states (rows_in f.states) (part_rows (shape_of a).states f.states fits.states))

  -- rows one after the other, and apart
  rows_joined : (fs : List FrameOf) → AllByRecursion (FrameFits (shape_of a)) fs → rows_of (length (concat a.inputs)) (length fs) (inputs_of (shape_of a) fs) ≡ map (inputs_in (shape_of a)) fs
  rows_joined [] h = refl
  rows_joined (f ∷ fs) (fits, h) =
      let row = inputs_in (shape_of a) f in
      let rest = inputs_of (shape_of a) fs in
      let long = row_long f fits in
      ap (λ (r : Row). r ∷ rows_of (length (concat a.inputs)) (length fs) (drop (length (concat a.inputs)) (row ++ rest))) (take_at row rest (length (concat a.inputs)) long)
      ∙ ap (λ (r : Row). row ∷ rows_of (length (concat a.inputs)) (length fs) r) (drop_at row rest (length (concat a.inputs)) long)
      ∙ ap (λ (rs : List Row). row ∷ rs) (rows_joined fs h)

  all_long : (fs : List FrameOf) → AllByRecursion (FrameFits (shape_of a)) fs → length (inputs_of (shape_of a) fs) ≡ length fs * length (concat a.inputs)
  all_long [] h = omega arith
  all_long (f ∷ fs) (fits, h) =
      let e = length-append (inputs_in (shape_of a) f) (inputs_of (shape_of a) fs) in
      let l = row_long f fits in
      let r = all_long fs h in
      let z : length (concat a.inputs) + length fs * length (concat a.inputs) ≡ suc (length fs) * length (concat a.inputs) = grind arith in
      omega arith

module _ (a : AskedOf) (w : WitnessesOf) (x : WitnessOf) (chose : HasChosen a w x) (few : length x.frames ≤ a.sought.last) where
  kept_inputs : w.reading.frames.inputs ≡ inputs_of (shape_of a) x.frames
  kept_inputs = chose.kept.inputs ∙ ap (inputs_of (shape_of a)) (take_all a.sought.last x.frames few)

  -- as many bits are kept
  pub kept_long : (cycles : ℕ) → cycles ≡ w.reading.frames.count → length w.reading.frames.inputs ≡ cycles * length (concat a.inputs)
  kept_long cycles e = ap (λ (r : Row). length r) kept_inputs ∙ all_long a x.frames chose.fits ∙ ap (λ (n : ℕ). n * length (concat a.inputs)) (sym (e ∙ chose.kept.count))

  -- what is kept is what the frames choose
  pub kept_choices : (cycles : ℕ) → cycles ≡ w.reading.frames.count
      → (let c : ChoicesOf = record { starts = w.reading.frames.starts; inputs = map (λ row. map (bit_for (concat a.inputs) row) a.model.inputs) (rows_of (length (concat a.inputs)) cycles w.reading.frames.inputs) } in c) ≡ choices_for a x.frames
  kept_choices cycles e =
      let n : cycles ≡ length x.frames = e ∙ chose.kept.count in
      let rows : rows_of (length (concat a.inputs)) cycles w.reading.frames.inputs ≡ map (inputs_in (shape_of a)) x.frames = ap (λ (k : ℕ). rows_of (length (concat a.inputs)) k w.reading.frames.inputs) n ∙ ap (rows_of (length (concat a.inputs)) (length x.frames)) kept_inputs ∙ rows_joined a x.frames chose.fits in
      let own : map (all_inputs a) (rows_of (length (concat a.inputs)) cycles w.reading.frames.inputs) ≡ map (λ f. all_inputs a (inputs_in (shape_of a) f)) x.frames = ap (map (all_inputs a)) rows ∙ map-map (all_inputs a) (inputs_in (shape_of a)) x.frames in
      let make : Row → List Row → ChoicesOf = λ s i. record { starts = s; inputs = i } in
      ap (λ (s : Row). make s (map (all_inputs a) (rows_of (length (concat a.inputs)) cycles w.reading.frames.inputs))) chose.kept.starts ∙ ap (make (starts_of (shape_of a) x.frames)) own

-- they are choices for the model
module _ (a : AskedOf) (model : IsModel a.model) (asked : IsAsked a) where
  pub choices_fit : (fs : List FrameOf) → AllByRecursion (FrameFits (shape_of a)) fs → AreChoicesFor a.model (choices_for a fs)
  choices_fit fs fits = record {
    starts = starts_long a fs fits ∙ open_long a.model a.states asked.stretches model.starts;
    inputs = all_wide fs;
  }
    where
      wide : (f : FrameOf) → length (all_inputs a (inputs_in (shape_of a) f)) ≡ length a.model.inputs
      wide f = length-map a.model.inputs (bit_for (concat a.inputs) (inputs_in (shape_of a) f))

      all_wide : (gs : List FrameOf) → All (λ row. length row ≡ length a.model.inputs) (map (λ f. all_inputs a (inputs_in (shape_of a) f)) gs)
      all_wide gs = All-map (λ (row : Row). length row ≡ length a.model.inputs) (λ (f : FrameOf). all_inputs a (inputs_in (shape_of a) f)) gs (all_from (λ (f : FrameOf). length (all_inputs a (inputs_in (shape_of a) f)) ≡ length a.model.inputs) gs (λ k f at. wide f))

-- the places of rows of inputs are places of the model
pub rows_below : (m : ModelOf) → IsModel m → (rows : List (List ℕ)) → AreRowsOf m.inputs rows → All (λ p. p < m.size) (concat rows)
rows_below m model rows fit =
    all_from (λ (p : ℕ). p < m.size) (concat rows)
    (λ k p at. input_below m model p (fit.inside p (contained_at (concat rows) p k at)))
