-- Where stored rows begin.
use Rattle.std.proofs.Common.{◌≡◌, ℕ, suc, ◌+◌, ◌<◌, ◌≤◌, ◌^◌, List, [], ◌∷◌, length, take, get_or, map, Some, refl, ap, sym, ◌∙◌, arith}
use Rattle.std.specs.Prelude.{slice_get}
use Rattle.std.specs.List.{range_with_len, sum_by}
use Rattle.std.proofs.lemmas.Option.{slice_get_within}
use Rattle.std.proofs.lemmas.List.{length-map, take_all}
use Rattle.design_core.specs.Asked.{output_of}
use Rattle.design_core.specs.Places.{places}
use Rattle.design_core.specs.Shape.{CellOf, DesignOf}
use Rattle.design_core.specs.Table.{role_of}
use Rattle.design_core.specs.declared.table.Role.{Role}
use Rattle.design_core.specs.declared.table.Role.TheVariants.{AsyncResetRegister}
use Rattle.design_core.proofs.Places.{sum_by-within}
use Rattle.design_meaning.specs.Meaning.{IsCell}
use Rattle.design_meaning.specs.Runs.{kept_bits, kept_by_role, kept_offset, kept_width}
use Rattle.word_model.specs.Built.{AreOffsets}
use Rattle.word_model.specs.Layout.{kept_place}

module _ (d : DesignOf) (offsets : List ℕ) (are : AreOffsets d offsets) where
  -- the last place is the model's end
  pub end-is : get_or offsets (length d.cells) 0 ≡ places d + kept_bits d
  end-is = are.each (length d.cells) (omega arith) ∙ ap (λ (l : List CellOf). places d + sum_by kept_width l) (take_all (length d.cells) d.cells (omega arith))

  module _ (i : ℕ) (x : CellOf) (at : IsCell d i x) where
    pub first-is : get_or offsets i 0 ≡ kept_place d i 0
    first-is = let lt : i < length d.cells = slice_get_within d.cells i x at in omega (arith, are.each i (omega (arith, lt)))

    pub kept-room : role_of x.kind ≡ AsyncResetRegister → places d + kept_bits d < 2 ^ 32 → get_or offsets i 0 + length (output_of x) < 4294967296
    kept-room role fits =
        let lt : i < length d.cells = slice_get_within d.cells i x at in
        let width : kept_width x ≡ length (output_of x) = ap (λ (r : Role). kept_by_role r (length (output_of x))) role in
        omega (arith, width, fits, are.each i (omega (arith, lt)), sum_by-within kept_width d.cells i x at)
