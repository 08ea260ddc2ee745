-- Lines that can go on to a witness.
use Rattle.std.proofs.Common.{◌≡◌, ℕ, ◌+◌, ◌<◌, false, List, [], ◌∷◌, ◌++◌, length, None, refl, ap, ◌∙◌, subst, arith}
use Rattle.std.specs.Prelude.{codes}
use Rattle.std.specs.List.{AllByRecursion, AllZip}
use Rattle.std.proofs.lemmas.List.{length-append, append_assoc}
use Rattle.btor_witness.specs.Shape.{ShapeOf}
use Rattle.btor_witness.specs.Grammar.{Begins, FrameFits, IsLine, IsNumber, WitnessLine, WitnessOf, SatLine, BadsLine, InputsLine, EndLine, frames_lines, witness_lines}
use Rattle.btor_witness.specs.Machine.{ReadingOf, is_over}
use Rattle.btor_witness.specs.declared.spot.Spot.{Spot}
use Rattle.btor_witness.specs.declared.spot.Spot.TheVariants as spot
use Rattle.btor_witness.proofs.Runs.{After, StandsBy, in_inputs, in_states}

zero_number : IsNumber (codes "0") 0
zero_number = record { some = omega arith; digits = refl; value = refl }

sat_line : IsLine (codes "sat") SatLine
sat_line = refl

bad_line : IsLine (codes "b0") (BadsLine 0)
bad_line = (codes "b0", [], refl, (codes "0", refl, zero_number), tt)

inputs_line : IsLine (codes "@0") (InputsLine 0)
inputs_line = (codes "@0", refl, (codes "0", refl, zero_number))

end_line : IsLine (codes ".") EndLine
end_line = refl

zip_append : (xs ys : List (List ℕ)) (ks ls : List WitnessLine) → AllZip IsLine xs ks → AllZip IsLine ys ls → AllZip IsLine (xs ++ ys) (ks ++ ls)
zip_append [] ys [] ls h i = i
zip_append [] ys (k ∷ ks) ls h i = absurd h
zip_append (x ∷ xs) ys [] ls h i = absurd h
zip_append (x ∷ xs) ys (k ∷ ks) ls (g, h) i = (g, zip_append xs ys ks ls h i)

closes : (shape : ShapeOf) (lines more : List (List ℕ)) (ks ls : List WitnessLine) (x : WitnessOf) → After lines ks → AllZip IsLine more ls → ks ++ ls ≡ witness_lines x → 0 < length x.frames → AllByRecursion (FrameFits shape) x.frames → Begins shape lines
closes shape lines more ks ls x a z e some fits = (
  more,
  x,
  record {
    skipped = a.skipped;
    first = a.first;
    rest = a.rest ++ more;
    are = ap (λ (l : List (List ℕ)). l ++ more) a.are ∙ append_assoc a.skipped (a.first ∷ a.rest) more;
    before = a.before;
    sat = a.sat;
    read = subst (AllZip IsLine (a.rest ++ more)) e (zip_append a.rest more ks ls a.read z);
    some = some;
    fits = fits;
  },
)

abbrev first_frame : WitnessOf
first_frame = record { bad = 0; frames = in_inputs None [] ∷ [] }

fits_first : (shape : ShapeOf) → FrameFits shape (in_inputs None [])
fits_first shape = record { some = refl; states = tt; inputs = tt }

pub begins : (shape : ShapeOf) (most : ℕ) (lines : List (List ℕ)) (s : Spot) (r : ReadingOf) → is_over s ≡ false → StandsBy shape most lines s r → Begins shape lines
begins shape most lines spot.Skipping r o h = (
  codes "sat" ∷ codes "b0" ∷ codes "@0" ∷ codes "." ∷ [],
  first_frame,
  record {
    skipped = lines;
    first = codes "sat";
    rest = codes "b0" ∷ codes "@0" ∷ codes "." ∷ [];
    are = refl;
    before = h.0;
    sat = sat_line;
    read = (bad_line, (inputs_line, (end_line, tt)));
    some = omega arith;
    fits = (fits_first shape, tt);
  },
)
begins shape most lines spot.Found r o h =
    closes shape lines (codes "b0" ∷ codes "@0" ∷ codes "." ∷ []) [] (witness_lines first_frame) first_frame h.0 (bad_line, (inputs_line, (end_line, tt))) refl (omega arith) (fits_first shape, tt)
begins shape most lines spot.Named r o h =
    closes shape lines (codes "@0" ∷ codes "." ∷ []) (BadsLine r.bad ∷ []) (InputsLine 0 ∷ EndLine ∷ []) (record { bad = r.bad; frames = in_inputs None [] ∷ [] }) h.after (inputs_line, (end_line, tt)) refl (omega arith) (fits_first shape, tt)
begins shape most lines spot.InStates r o (fs, rows, h) =
    let l = length-append fs (in_states rows ∷ []) in
    closes shape lines (codes "." ∷ []) (BadsLine r.bad ∷ frames_lines 0 (fs ++ in_states rows ∷ [])) (EndLine ∷ []) (record { bad = r.bad; frames = fs ++ in_states rows ∷ [] }) h.after (end_line, tt) refl (omega arith) h.fits
begins shape most lines spot.InInputs r o (fs, states, rows, h) =
    let l = length-append fs (in_inputs states rows ∷ []) in
    closes shape lines (codes "." ∷ []) (BadsLine r.bad ∷ frames_lines 0 (fs ++ in_inputs states rows ∷ [])) (EndLine ∷ []) (record { bad = r.bad; frames = fs ++ in_inputs states rows ∷ [] }) h.after (end_line, tt) refl (omega arith) h.fits
begins shape most lines spot.Whole r o h = cc
begins shape most lines (spot.Refused k) r o h = cc
begins shape most lines spot.Lost r o h = cc
