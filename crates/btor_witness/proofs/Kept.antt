-- What is kept of frames is what they choose.
use Rattle.std.proofs.Common.{◌≡◌, ◌⊎◌, ℕ, zero, suc, ◌+◌, ◌-◌, ◌<◌, ◌≤◌, true, false, cond, eqb, leb, ltb, List, [], ◌∷◌, ◌++◌, length, take, drop, Option, Some, None, refl, ap, sym, ◌∙◌, inl, inr, arith}
use Rattle.std.specs.Prelude.{slice_get, replicate}
use Rattle.std.specs.List.{AllByRecursion}
use Rattle.std.proofs.lemmas.Bool.{cases_Bool, eqb-true}
use Rattle.std.proofs.lemmas.Bool.Decides.{nat_tests}
use Rattle.std.proofs.lemmas.List.{length-append, append_assoc, append-nil, length-replicate, take_all}
use Rattle.std.proofs.lemmas.Option.{same_Some}
use Rattle.sby_bits.specs.Rows.{Row}
use Rattle.btor_witness.specs.Shape.{ShapeOf, open_bits, open_width, places_from, widths}
use Rattle.btor_witness.specs.Grammar.{AssignFits, AssignOf, FrameOf}
use Rattle.btor_witness.specs.Choices.{chosen, inputs_in, inputs_of, last_row, rows_in, starts_of}
use Rattle.btor_witness.specs.Machine.{FramesOf, framed, overwritten, put_row, with_input, with_state}
use Rattle.btor_witness.specs.declared.shape.Slot.{Slot}

-- what is kept of these frames
abbrev pub kept : ShapeOf → ℕ → List FrameOf → FramesOf
kept shape most fs = record { shape = shape; most = most; count = length fs; starts = starts_of shape fs; inputs = inputs_of shape (take most fs) }

last_same : (n : ℕ) (r : Row) (rows : List AssignOf) (a : AssignOf) → a.number ≡ n → last_row n r (rows ++ a ∷ []) ≡ a.row
last_same n r [] a e = rw e (let t : eqb n n ≡ true = grind (arith, nat_tests) in rw t refl)
last_same n r (b ∷ rows) a e = last_same n (cond (eqb b.number n) b.row r) rows a e

last_other : (n : ℕ) (r : Row) (rows : List AssignOf) (a : AssignOf) → eqb a.number n ≡ false → last_row n r (rows ++ a ∷ []) ≡ last_row n r rows
last_other n r [] a e = rw e refl
last_other n r (b ∷ rows) a e = last_other n (cond (eqb b.number n) b.row r) rows a e

-- rows fit the slots, of which the first has number k
abbrev RowFits : ℕ → List Slot → AssignOf → Type 0
RowFits k slots a = (i w : ℕ) → a.number ≡ k + i → slice_get (widths slots) i ≡ Some w → length a.row ≡ w

abbrev pub RowsFit : ℕ → List Slot → List AssignOf → Type 0
RowsFit k slots rows = AllByRecursion (RowFits k slots) rows

fit_tail : (k : ℕ) (s : Slot) (slots : List Slot) (rows : List AssignOf) → RowsFit k (s ∷ slots) rows → RowsFit (k + 1) slots rows
fit_tail k s slots [] h = tt
fit_tail k s slots (a ∷ rows) (f, h) = (λ i w e g. f (suc i) w (omega arith) g, fit_tail k s slots rows h)

pub rows_fit : (slots : List Slot) (rows : List AssignOf) → AllByRecursion (AssignFits slots) rows → RowsFit 0 slots rows
rows_fit slots [] h = tt
rows_fit slots (a ∷ rows) (f, h) = (λ i w e g. row i w e g, rows_fit slots rows h)
  where
    row : (i w : ℕ) → a.number ≡ 0 + i → slice_get (widths slots) i ≡ Some w → length a.row ≡ w
    row i w e g = let at : a.number ≡ i = omega arith in same_Some (length a.row) w (sym f ∙ ap (slice_get (widths slots)) at ∙ g)

last_long : (k : ℕ) (s : Slot) (slots : List Slot) (r : Row) (rows : List AssignOf) → length r ≡ s.width → RowsFit k (s ∷ slots) rows → length (last_row k r rows) ≡ s.width
last_long k s slots r [] e h = e
last_long k s slots r (a ∷ rows) e (f, h) = last_long k s slots (cond (eqb a.number k) a.row r) rows (elim (cases_Bool (eqb a.number k)) [
  | inl t ↦ let is = eqb-true a.number k t in rw t (f 0 s.width (omega arith) refl)
  | inr g ↦ rw g e
]) h

-- the bits of one slot
abbrev piece : ℕ → Slot → List AssignOf → Row
piece k s rows = cond s.is_open (last_row k (replicate s.width false) rows) []

piece_long : (k : ℕ) (s : Slot) (slots : List Slot) (rows : List AssignOf) → RowsFit k (s ∷ slots) rows → length (piece k s rows) ≡ open_width s
piece_long k s slots rows h = elim (cases_Bool s.is_open) [
  | inl t ↦ rw t (last_long k s slots (replicate s.width false) rows (length-replicate s.width false) h)
  | inr f ↦ rw f refl
]

pub chosen_long : (k : ℕ) (slots : List Slot) (rows : List AssignOf) → RowsFit k slots rows → length (chosen k slots rows) ≡ open_bits slots
chosen_long k [] rows h = refl
chosen_long k (s ∷ slots) rows h =
    let l = length-append (piece k s rows) (chosen (k + 1) slots rows) in
    let p = piece_long k s slots rows h in
    let q = chosen_long (k + 1) slots rows (fit_tail k s slots rows h) in
    omega arith

-- a row before all of them changes nothing
chosen_past : (k : ℕ) (slots : List Slot) (rows : List AssignOf) (a : AssignOf) → a.number < k → chosen k slots (rows ++ a ∷ []) ≡ chosen k slots rows
chosen_past k [] rows a l = refl
chosen_past k (s ∷ slots) rows a l =
    let f : eqb a.number k ≡ false = grind (arith, nat_tests) in
    ap (λ (r : Row). cond s.is_open r [] ++ chosen (k + 1) slots (rows ++ a ∷ [])) (last_other k (replicate s.width false) rows a f)
    ∙ ap (λ (r : Row). piece k s rows ++ r) (chosen_past (k + 1) slots rows a (omega arith))

drop_front : (front rest : Row) (n : ℕ) → n ≡ length front → drop n (front ++ rest) ≡ rest
drop_front [] rest zero e = refl
drop_front [] rest (suc n) e = absurd (omega arith)
drop_front (b ∷ front) rest zero e = absurd (omega arith)
drop_front (b ∷ front) rest (suc n) e = drop_front front rest n (omega arith)

take_front : (front rest : Row) (n : ℕ) → n ≡ length front → take n (front ++ rest) ≡ front
take_front [] rest zero e = refl
take_front [] rest (suc n) e = absurd (omega arith)
take_front (b ∷ front) rest zero e = absurd (omega arith)
take_front (b ∷ front) rest (suc n) e = ap (λ (r : Row). b ∷ r) (take_front front rest n (omega arith))

overwritten_is : (front old rest row : Row) (n : ℕ) → n ≡ length front → length old ≡ length row → overwritten (front ++ (old ++ rest)) n row ≡ front ++ (row ++ rest)
overwritten_is front old rest row n e l =
    let t = take_front front (old ++ rest) n e in
    let len = length-append front old in
    let d : drop (n + length row) (front ++ (old ++ rest)) ≡ rest = ap (drop (n + length row)) (sym (append_assoc front old rest)) ∙ drop_front (front ++ old) rest (n + length row) (omega arith) in
    ap (λ (r : Row). (r ++ row) ++ drop (n + length row) (front ++ (old ++ rest))) t
    ∙ ap (λ (r : Row). (front ++ row) ++ r) d
    ∙ append_assoc front row rest

put_none : (slots : List Slot) (at j : ℕ) → slice_get (widths slots) j ≡ None → slice_get (places_from at slots) j ≡ None
put_none [] at j e = refl
put_none (s ∷ slots) at zero e = cc
put_none (s ∷ slots) at (suc j) e = put_none slots (at + open_width s) j e

-- a row more
put_chosen : (base at k j : ℕ) (slots : List Slot) (front : Row) (rows : List AssignOf) (a : AssignOf) → length front ≡ base + at → a.number ≡ k + j
    → slice_get (widths slots) j ≡ Some (length a.row) → RowsFit k slots rows
    → put_row (front ++ chosen k slots rows) base (slice_get (places_from at slots) j) a.row ≡ front ++ chosen k slots (rows ++ a ∷ [])
put_chosen base at k j [] front rows a l n e h = cc
put_chosen base at k zero (s ∷ slots) front rows a l n e h = elim (cases_Bool s.is_open) [
  | inr f ↦ rw f (ap (λ (r : Row). front ++ r) (sym (chosen_past (k + 1) slots rows a (omega arith))))
  | inl t ↦
      let len = last_long k s slots (replicate s.width false) rows (length-replicate s.width false) h in
      let same : s.width ≡ length a.row = same_Some s.width (length a.row) e in
      rw t (
      overwritten_is front (last_row k (replicate s.width false) rows) (chosen (k + 1) slots rows) a.row (base + at) (sym l) (len ∙ same)
      ∙ ap (λ (r : Row). front ++ (r ++ chosen (k + 1) slots rows)) (sym (last_same k (replicate s.width false) rows a (omega arith)))
      ∙ ap (λ (r : Row). front ++ (last_row k (replicate s.width false) (rows ++ a ∷ []) ++ r)) (sym (chosen_past (k + 1) slots rows a (omega arith))))
]
put_chosen base at k (suc j) (s ∷ slots) front rows a l n e h =
    let f : eqb a.number k ≡ false = grind (arith, nat_tests) in
    let p = piece_long k s slots rows h in
    let len = length-append front (piece k s rows) in
    let again = put_chosen base (at + open_width s) (k + 1) j slots (front ++ piece k s rows) rows a (omega arith) (omega arith) e (fit_tail k s slots rows h) in
    ap (λ (r : Row). put_row r base (slice_get (places_from (at + open_width s) slots) j) a.row) (sym (append_assoc front (piece k s rows) (chosen (k + 1) slots rows)))
    ∙ again
    ∙ append_assoc front (piece k s rows) (chosen (k + 1) slots (rows ++ a ∷ []))
    ∙ ap (λ (r : Row). front ++ (cond s.is_open r [] ++ chosen (k + 1) slots (rows ++ a ∷ []))) (sym (last_other k (replicate s.width false) rows a f))

chosen_none : (k : ℕ) (slots : List Slot) → chosen k slots [] ≡ replicate (open_bits slots) false
chosen_none k [] = refl
chosen_none k (s ∷ slots) = elim (cases_Bool s.is_open) [
  | inl t ↦ rw t (ap (λ (r : Row). replicate s.width false ++ r) (chosen_none (k + 1) slots) ∙ joined s.width (open_bits slots))
  | inr f ↦ rw f (chosen_none (k + 1) slots ∙ ap (λ (x : ℕ). replicate x false) (omega arith))
]
  where
    joined : (m n : ℕ) → replicate m false ++ replicate n false ≡ replicate (m + n) false
    joined zero n = ap (λ (x : ℕ). replicate x false) (omega arith)
    joined (suc m) n = let e : suc m + n ≡ suc (m + n) = omega arith in ap (λ (r : Row). false ∷ r) (joined m n) ∙ ap (λ (x : ℕ). replicate x false) (sym e)

-- frames that begin with others
inputs_of_append : (shape : ShapeOf) (fs : List FrameOf) (f : FrameOf) → inputs_of shape (fs ++ f ∷ []) ≡ inputs_of shape fs ++ inputs_in shape f
inputs_of_append shape [] f = append-nil (inputs_in shape f)
inputs_of_append shape (g ∷ fs) f = ap (λ (r : Row). inputs_in shape g ++ r) (inputs_of_append shape fs f) ∙ sym (append_assoc (inputs_in shape g) (inputs_of shape fs) (inputs_in shape f))

take_some : (most : ℕ) (fs : List FrameOf) (f : FrameOf) → length fs < most → take most (fs ++ f ∷ []) ≡ fs ++ f ∷ []
take_some most fs f l = let e = length-append fs (f ∷ []) in take_all most (fs ++ f ∷ []) (omega arith)

take_none : (most : ℕ) (fs : List FrameOf) (f : FrameOf) → most ≤ length fs → take most (fs ++ f ∷ []) ≡ take most fs
take_none zero fs f l = refl
take_none (suc most) [] f l = absurd (omega arith)
take_none (suc most) (g ∷ fs) f l = ap (λ (r : List FrameOf). g ∷ r) (take_none most fs f (omega arith))

starts_on : (shape : ShapeOf) (fs : List FrameOf) (f g : FrameOf) → rows_in f.states ≡ rows_in g.states → starts_of shape (fs ++ f ∷ []) ≡ starts_of shape (fs ++ g ∷ [])
starts_on shape [] f g e = ap (chosen 0 shape.states) e
starts_on shape (h ∷ fs) f g e = refl

inputs_on : (shape : ShapeOf) (most : ℕ) (fs : List FrameOf) (f g : FrameOf) → rows_in f.inputs ≡ rows_in g.inputs → inputs_of shape (take most (fs ++ f ∷ [])) ≡ inputs_of shape (take most (fs ++ g ∷ []))
inputs_on shape zero fs f g e = refl
inputs_on shape (suc most) [] f g e = ap (λ (rows : List AssignOf). chosen 0 shape.inputs rows ++ inputs_of shape (take most [])) e
inputs_on shape (suc most) (h ∷ fs) f g e = ap (λ (r : Row). inputs_in shape h ++ r) (inputs_on shape most fs f g e)

length_on : (fs : List FrameOf) (f : FrameOf) → length (fs ++ f ∷ []) ≡ length fs + 1
length_on fs f = length-append fs (f ∷ [])

made : (shape : ShapeOf) (most c d : ℕ) (s t i j : Row) → c ≡ d → s ≡ t → i ≡ j
    → (let k : FramesOf = record { shape = shape; most = most; count = c; starts = s; inputs = i } in k) ≡ record { shape = shape; most = most; count = d; starts = t; inputs = j }
made shape most c d s t i j e f g = cc

-- frames with the same rows
pub kept_same : (shape : ShapeOf) (most : ℕ) (fs : List FrameOf) (f g : FrameOf) → rows_in f.states ≡ rows_in g.states → rows_in f.inputs ≡ rows_in g.inputs → kept shape most (fs ++ f ∷ []) ≡ kept shape most (fs ++ g ∷ [])
kept_same shape most fs f g e h = made shape most _ _ _ _ _ _ (length_on fs f ∙ sym (length_on fs g)) (starts_on shape fs f g e) (inputs_on shape most fs f g h)

-- a frame more, so far without rows
pub kept_framed : (shape : ShapeOf) (most : ℕ) (fs : List FrameOf) (f : FrameOf) → rows_in f.states ≡ [] → rows_in f.inputs ≡ [] → framed (kept shape most fs) ≡ kept shape most (fs ++ f ∷ [])
kept_framed shape most fs f e h = made shape most _ _ _ _ _ _ (sym (length_on fs f)) (starts fs) (inputs (cases_Bool (ltb (length fs) most)))
  where
    starts : (fs : List FrameOf) → starts_of shape fs ≡ starts_of shape (fs ++ f ∷ [])
    starts [] = sym (ap (chosen 0 shape.states) e ∙ chosen_none 0 shape.states)
    starts (g ∷ fs) = refl

    inputs : (ltb (length fs) most ≡ true) ⊎ (ltb (length fs) most ≡ false)
        → cond (ltb (length fs) most) (inputs_of shape (take most fs) ++ replicate (open_bits shape.inputs) false) (inputs_of shape (take most fs)) ≡ inputs_of shape (take most (fs ++ f ∷ []))
    inputs (inl t) =
        let l : length fs < most = grind (arith, nat_tests) in
        rw t (
        ap (λ (xs : List FrameOf). inputs_of shape xs ++ replicate (open_bits shape.inputs) false) (take_all most fs (omega arith))
        ∙ ap (λ (r : Row). inputs_of shape fs ++ r) (sym (ap (chosen 0 shape.inputs) h ∙ chosen_none 0 shape.inputs))
        ∙ sym (inputs_of_append shape fs f)
        ∙ ap (inputs_of shape) (sym (take_some most fs f l)))
    inputs (inr n) =
        let l : most ≤ length fs = grind (arith, nat_tests) in
        rw n (ap (inputs_of shape) (sym (take_none most fs f l)))

-- a row more of a state
pub kept_state : (shape : ShapeOf) (most : ℕ) (fs : List FrameOf) (rows : List AssignOf) (inputs : Option (List AssignOf)) (a : AssignOf) → AssignFits shape.states a → AllByRecursion (AssignFits shape.states) rows
    → with_state (kept shape most (fs ++ record { states = Some rows; inputs = inputs } ∷ [])) a.number a.row ≡ kept shape most (fs ++ record { states = Some (rows ++ a ∷ []); inputs = inputs } ∷ [])
kept_state shape most fs rows inputs a fits all =
    made shape most _ _ _ _ _ _ (length_on fs _ ∙ sym (length_on fs _)) (starts fs) (inputs_on shape most fs _ _ refl)
  where
    old : FrameOf
    old = record { states = Some rows; inputs = inputs }

    new : FrameOf
    new = record { states = Some (rows ++ a ∷ []); inputs = inputs }

    starts : (fs : List FrameOf)
        → cond (eqb (length (fs ++ old ∷ [])) 1) (put_row (starts_of shape (fs ++ old ∷ [])) 0 (slice_get (places_from 0 shape.states) a.number) a.row) (starts_of shape (fs ++ old ∷ [])) ≡ starts_of shape (fs ++ new ∷ [])
    starts [] = put_chosen 0 0 0 a.number shape.states [] rows a refl (omega arith) fits (rows_fit shape.states rows all)
    starts (g ∷ fs) =
        let l = length_on fs old in
        let f : eqb (length ((g ∷ fs) ++ old ∷ [])) 1 ≡ false = grind (arith, nat_tests) in
        rw f refl

-- and of an input
pub kept_input : (shape : ShapeOf) (most : ℕ) (fs : List FrameOf) (rows : List AssignOf) (states : Option (List AssignOf)) (a : AssignOf) → AssignFits shape.inputs a → AllByRecursion (AssignFits shape.inputs) rows
    → with_input (kept shape most (fs ++ record { states = states; inputs = Some rows } ∷ [])) a.number a.row ≡ kept shape most (fs ++ record { states = states; inputs = Some (rows ++ a ∷ []) } ∷ [])
kept_input shape most fs rows states a fits all =
    made shape most _ _ _ _ _ _ (length_on fs _ ∙ sym (length_on fs _)) (starts_on shape fs _ _ refl) (inputs (cases_Bool (leb (length (fs ++ old ∷ [])) most)))
  where
    old : FrameOf
    old = record { states = states; inputs = Some rows }

    new : FrameOf
    new = record { states = states; inputs = Some (rows ++ a ∷ []) }

    put : Row → Row
    put bits = put_row bits (length bits - open_bits shape.inputs) (slice_get (places_from 0 shape.inputs) a.number) a.row

    whole : put (inputs_of shape fs ++ chosen 0 shape.inputs rows) ≡ inputs_of shape fs ++ chosen 0 shape.inputs (rows ++ a ∷ [])
    whole =
        let l = length-append (inputs_of shape fs) (chosen 0 shape.inputs rows) in
        let m = chosen_long 0 shape.inputs rows (rows_fit shape.inputs rows all) in
        let base : length (inputs_of shape fs ++ chosen 0 shape.inputs rows) - open_bits shape.inputs ≡ length (inputs_of shape fs) = omega arith in
        ap (λ (n : ℕ). put_row (inputs_of shape fs ++ chosen 0 shape.inputs rows) n (slice_get (places_from 0 shape.inputs) a.number) a.row) base
        ∙ put_chosen (length (inputs_of shape fs)) 0 0 a.number shape.inputs (inputs_of shape fs) rows a (omega arith) (omega arith) fits (rows_fit shape.inputs rows all)

    inputs : (leb (length (fs ++ old ∷ [])) most ≡ true) ⊎ (leb (length (fs ++ old ∷ [])) most ≡ false)
        → cond (leb (length (fs ++ old ∷ [])) most) (put (inputs_of shape (take most (fs ++ old ∷ [])))) (inputs_of shape (take most (fs ++ old ∷ []))) ≡ inputs_of shape (take most (fs ++ new ∷ []))
    inputs (inl t) =
        let n = length_on fs old in
        let l : length fs < most = grind (arith, nat_tests) in
        rw t (
        ap (λ (xs : List FrameOf). put (inputs_of shape xs)) (take_some most fs old l)
        ∙ ap put (inputs_of_append shape fs old)
        ∙ whole
        ∙ sym (inputs_of_append shape fs new)
        ∙ ap (inputs_of shape) (sym (take_some most fs new l)))
    inputs (inr f) =
        let n = length_on fs old in
        let l : most ≤ length fs = grind (arith, nat_tests) in
        rw f (ap (inputs_of shape) (take_none most fs old l ∙ sym (take_none most fs new l)))
