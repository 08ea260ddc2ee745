-- What stands after a signal.
use Rattle.std.proofs.Common.{◌≡◌, ℕ, ◌<◌, ◌≤◌, true, false, List, [], ◌∷◌, ◌++◌, length, Option, Some, None, Result, Ok, Err, refl, sym, ap, subst, codes, bytes_eq, arith}
use Rattle.design_signals.specs.declared.sig_bit.SigBit.{SigBit}
use Rattle.rtlil_constant.specs.Constants.{Word, slice_of}
use Rattle.design_reader.specs.Parts.{DraftOf}
use Rattle.design_reader.specs.Grammar.{◌⊳◌, goes_on, needs, granted, sliced, slice_word, slice_fault, begins_slice, part_word, part_name, signal_word, signal_name}
use Rattle.design_signals.specs.Parts.{slice_row}
use Rattle.design_reader.specs.Drafts.{Stops, FitsRows}
use Rattle.design_reader.specs.declared.fault.ReadFaultKind.{ReadFaultKind}
use Rattle.design_reader.specs.declared.fault.ReadFaultKind.TheVariants.{Syntax}
use Rattle.design_reader.specs.declared.stop.Stop.{Stop}
use Rattle.design_reader.specs.declared.stop.Stop.TheVariants.{Memory, Fault}
use Rattle.design_reader.specs.declared.spot.Target.{Target}
use Rattle.design_reader.specs.declared.spot.Spot.TheVariants.{Part}
use Rattle.design_reader.proofs.Declared.{rows_sliced, rows_joined}

abbrev Bits : Type 0
Bits = List SigBit

abbrev Rows : Type 0
Rows = List (List SigBit)

abbrev Sliced : Type 0
Sliced = Result Bits ReadFaultKind

abbrev onto : Rows → Bits → Result Rows ReadFaultKind
onto rest part = Ok (part ∷ rest)

-- ---- slices

goes : (d : DraftOf) (t : Target) (r : Sliced) (rest new : Rows) → (r ⊳ λ part. onto rest part) ≡ Ok new → (r ⊳ λ part. goes_on d (Part t (part ∷ rest))) ≡ goes_on d (Part t new)
goes d t (Ok part) rest new e = let same : part ∷ rest ≡ new = cc in ap (λ (x : Rows). goes_on d (Part t x)) same
goes d t (Err k) rest new e = absurd cc

stays : (d : DraftOf) (t : Target) (r : Sliced) (rest : Rows) (stop : Stop) → Stops stop (r ⊳ λ part. onto rest part) → Stops stop (r ⊳ λ part. goes_on d (Part t (part ∷ rest)))
stays d t r rest Memory e = tt
stays d t (Ok part) rest (Fault k) e = absurd cc
stays d t (Err j) rest (Fault k) e = let same : j ≡ k = cc in rw same refl

pub sliced_step : (d : DraftOf) (t : Target) (rows new : Rows) (w : Word) → 1 ≤ length rows → begins_slice w ≡ true → ((row : Bits) (rest : Rows) → rows ≡ row ∷ rest → (slice_word row w ⊳ λ part. onto rest part) ≡ Ok new)
    → part_word d t rows w ≡ goes_on d (Part t new)
unfolding part_word
sliced_step d t [] new w some b h = absurd (omega arith)
sliced_step d t (row ∷ []) new w some b h = rw b (goes d t (slice_word row w) [] new (h row [] refl))
sliced_step d t (row ∷ above ∷ rows) new w some b h = rw b (goes d t (slice_word row w) (above ∷ rows) new (h row (above ∷ rows) refl))

pub sliced_stops : (d : DraftOf) (t : Target) (rows : Rows) (stop : Stop) (w : Word) → 1 ≤ length rows → begins_slice w ≡ true → ((row : Bits) (rest : Rows) → rows ≡ row ∷ rest → Stops stop (slice_word row w ⊳ λ part. onto rest part))
    → Stops stop (part_word d t rows w)
unfolding part_word
sliced_stops d t [] stop w some b h = absurd (omega arith)
sliced_stops d t (row ∷ []) stop w some b h = rw b (stays d t (slice_word row w) [] stop (h row [] refl))
sliced_stops d t (row ∷ above ∷ rows) stop w some b h = rw b (stays d t (slice_word row w) (above ∷ rows) stop (h row (above ∷ rows) refl))

abbrev Kept : DraftOf → Rows → Type 0
Kept d new = FitsRows d new × (0 < length new)

kept_granted : (d : DraftOf) (row : Bits) (rest new : Rows) (n m : ℕ) (f : Option ReadFaultKind) → FitsRows d (row ∷ rest) → (granted f (slice_row row n m) ⊳ λ part. onto rest part) ≡ Ok new → Kept d new
kept_granted d row rest new n m None h e =
    let same : slice_row row n m ∷ rest ≡ new = cc in
    subst (λ (x : Rows). Kept d x) same (rows_sliced d row rest n m h, omega arith)
kept_granted d row rest new n m (Some k) h e = absurd cc

kept_slice : (d : DraftOf) (row : Bits) (rest new : Rows) (at : Option (ℕ × ℕ)) → FitsRows d (row ∷ rest) → (needs Syntax at ⊳ sliced row ⊳ λ part. onto rest part) ≡ Ok new → Kept d new
kept_slice d row rest new None h e = absurd cc
kept_slice d row rest new (Some (n, m)) h e = kept_granted d row rest new n m (slice_fault (length row) n m) h e

pub sliced_fits : (d : DraftOf) (rows new : Rows) (w : Word) → 1 ≤ length rows → FitsRows d rows → ((row : Bits) (rest : Rows) → rows ≡ row ∷ rest → (slice_word row w ⊳ λ part. onto rest part) ≡ Ok new) → Kept d new
sliced_fits d [] new w some h e = absurd (omega arith)
sliced_fits d (row ∷ rest) new w some h e = kept_slice d row rest new (slice_of w) h (e row rest refl)

-- ---- the next part

abbrev Joined : Rows → Rows → Type 0
Joined rows new = (row above : Bits) (rest : Rows) → rows ≡ row ∷ above ∷ rest → new ≡ (above ++ row) ∷ rest

pub joined_fits : (d : DraftOf) (rows new : Rows) → 2 ≤ length rows → FitsRows d rows → Joined rows new → Kept d new
joined_fits d [] new some h e = absurd (omega arith)
joined_fits d (row ∷ []) new some h e = absurd (omega arith)
joined_fits d (row ∷ above ∷ rows) new some h e = subst (λ (x : Rows). Kept d x) (sym (e row above rows refl)) (rows_joined d row above rows h, omega arith)

pub joined_step : (d : DraftOf) (t : Target) (rows new : Rows) (w : Word) → 2 ≤ length rows → Joined rows new → begins_slice w ≡ false → bytes_eq w (codes "}") ≡ false → part_word d t rows w ≡ signal_word d t new w
unfolding part_word
joined_step d t [] new w some e b v = absurd (omega arith)
joined_step d t (row ∷ []) new w some e b v = absurd (omega arith)
joined_step d t (row ∷ above ∷ rows) new w some e b v = rw (b, v, e row above rows refl) refl

pub joined_name : (d : DraftOf) (t : Target) (rows new : Rows) (w : Word) → 2 ≤ length rows → Joined rows new → part_name d t rows w ≡ signal_name d t new w
unfolding part_name
joined_name d t [] new w some e = absurd (omega arith)
joined_name d t (row ∷ []) new w some e = absurd (omega arith)
joined_name d t (row ∷ above ∷ rows) new w some e = rw (e row above rows refl) refl
