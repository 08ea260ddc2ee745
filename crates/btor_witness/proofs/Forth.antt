-- A witness is read as one.
use Rattle.std.proofs.Common.{◌≡◌, ◌⊎◌, ℕ, zero, suc, ◌+◌, ◌-◌, ◌<◌, Bool, true, false, eqb, ◌&&◌, List, [], ◌∷◌, ◌++◌, length, reverse, take, Option, Some, None, refl, ap, sym, ◌∙◌, subst, inl, inr, arith}
use Rattle.std.specs.Prelude.{map}
use Rattle.std.specs.List.{AllByRecursion, AllZip}
use Rattle.std.proofs.lemmas.Bool.Decides.{nat_tests}
use Rattle.std.proofs.lemmas.List.{length-append, append_assoc, append-nil}
use Rattle.btor_witness.specs.Shape.{ShapeOf}
use Rattle.btor_witness.specs.Grammar.{AssignFits, AssignOf, FrameFits, FrameOf, IsLine, IsNoSat, IsWitness, WitnessLine, WitnessOf, SatLine, BadsLine, StatesLine, InputsLine, AssignLine, EndLine, frame_lines, frames_lines}
use Rattle.btor_witness.specs.Choices.{inputs_of}
use Rattle.btor_witness.specs.Machine.{FramesOf, ReadingOf, assigns, begins_frame, begins_inputs, ends, enters, enters_by, framed, goes_on, is_in_states, line_entry, moved, no_frames, no_reading, skips, widths_at, with_input, with_state}
use Rattle.btor_witness.specs.declared.line.Entry.{Entry}
use Rattle.btor_witness.specs.declared.line.Entry.TheVariants as entry
use Rattle.btor_witness.specs.declared.spot.Spot.{Spot}
use Rattle.btor_witness.specs.declared.spot.Spot.TheVariants as spot
use Rattle.btor_witness.proofs.Kept.{kept, kept_framed, kept_input, kept_same, kept_state}
use Rattle.btor_witness.proofs.Lines.{FitsWidths, said_by, said_is}
use Rattle.btor_witness.proofs.Runs.{RowIs, all_push, in_inputs, in_states, line_reads, line_scan, read_line}

-- lines, the first of which begins with this byte
abbrev pub reads : ReadingOf → ℕ → List (List ℕ) → ReadingOf
reads r first [] = r
reads r first (line ∷ lines) = reads (read_line r first line) (first + length line + 1) lines

abbrev none : List FrameOf
none = []

take_nil : (most : ℕ) → take most none ≡ none
take_nil zero = refl
take_nil (suc most) = refl

pub kept_nil : (shape : ShapeOf) (most : ℕ) → no_frames shape most ≡ kept shape most []
kept_nil shape most = ap (λ (fs : List FrameOf). let k : FramesOf = record { shape = shape; most = most; count = 0; starts = (no_frames shape most).starts; inputs = inputs_of shape fs } in k) (sym (take_nil most))

-- lines lead to a reading of which P holds, and the lines that are left are these
record Reaches (r : ReadingOf) (n : ℕ) (rest : List (List ℕ)) (ks : List WitnessLine) (P : ReadingOf → Type 0) : Type 0 where
  to : ReadingOf
  at : ℕ
  left : List (List ℕ)
  same : reads r n rest ≡ reads to at left
  zip : AllZip IsLine left ks
  holds : P to

module _ (shape : ShapeOf) (most : ℕ) where
  abbrev Stays : Spot → List FrameOf → ℕ → ReadingOf → Type 0
  Stays s fs bad r = (r.spot ≡ s) × (r.frames ≡ kept shape most fs) × (r.bad ≡ bad)

  shape_of : (r : ReadingOf) (fs : List FrameOf) → r.frames ≡ kept shape most fs → r.frames.shape ≡ shape
  shape_of r fs e = ap (λ (k : FramesOf). k.shape) e

  count_of : (r : ReadingOf) (fs : List FrameOf) → r.frames ≡ kept shape most fs → r.frames.count ≡ length fs
  count_of r fs e = ap (λ (k : FramesOf). k.count) e

  -- rows of states
  state_enters : (r : ReadingOf) (n : ℕ) (bits : List Bool) (m : ℕ) → r.spot ≡ spot.InStates → enters r n bits (Some (entry.Assign m)) ≡ record r { frames = with_state r.frames m (reverse bits) }
  state_enters r n bits m at = ap (λ (s : Spot). enters_by r n bits s (Some (entry.Assign m))) at ∙ ap (λ (s : Spot). assigns r n bits s m) at

  input_enters : (r : ReadingOf) (n : ℕ) (bits : List Bool) (m : ℕ) → r.spot ≡ spot.InInputs → enters r n bits (Some (entry.Assign m)) ≡ record r { frames = with_input r.frames m (reverse bits) }
  input_enters r n bits m at = ap (λ (s : Spot). enters_by r n bits s (Some (entry.Assign m))) at ∙ ap (λ (s : Spot). assigns r n bits s m) at

  -- one line, then those after it
  longer : (r : ReadingOf) (n : ℕ) (line : List ℕ) (rest : List (List ℕ)) (ks : List WitnessLine) (P : ReadingOf → Type 0) → Reaches (read_line r n line) (n + length line + 1) rest ks P → Reaches r n (line ∷ rest) ks P
  longer r n line rest ks P a = record { to = a.to; at = a.at; left = a.left; same = a.same; zip = a.zip; holds = a.holds }

  state_stays : (r : ReadingOf) (n : ℕ) (line : List ℕ) (b : AssignOf) (rows : List AssignOf) (fs : List FrameOf) (bad : ℕ) → Stays spot.InStates (fs ++ in_states rows ∷ []) bad r → AllByRecursion (AssignFits shape.states) rows → AssignFits shape.states b
      → IsLine line (AssignLine b) → Stays spot.InStates (fs ++ in_states (rows ++ b ∷ []) ∷ []) bad (read_line r n line)
  state_stays r n line b rows fs bad (at, is, same) a f i = (
    ap (λ (q : ReadingOf). q.spot) leads ∙ at,
    ap (λ (q : ReadingOf). q.frames) leads ∙ ap (λ (row : List Bool). with_state r.frames b.number row) from.1 ∙ ap (λ (k : FramesOf). with_state k b.number b.row) is ∙ kept_state shape most fs rows None b f a,
    ap (λ (q : ReadingOf). q.bad) leads ∙ same,
  )
    where
      fits : FitsWidths (widths_at r.frames.shape r.spot) (AssignLine b)
      fits = subst (λ (s : Spot). FitsWidths (widths_at r.frames.shape s) (AssignLine b)) (sym at) (subst (λ (q : ShapeOf). FitsWidths (widths_at q spot.InStates) (AssignLine b)) (sym (shape_of r (fs ++ in_states rows ∷ []) is)) f)

      from : (bits : List Bool) × RowIs (AssignLine b) bits × (read_line r n line ≡ enters r n bits (Some (entry.Assign b.number)))
      from = line_reads r n line (AssignLine b) i fits

      leads : read_line r n line ≡ record r { frames = with_state r.frames b.number (reverse from.0) }
      leads = from.2 ∙ state_enters r n from.0 b.number at

  state_rows : (r : ReadingOf) (n : ℕ) (rest : List (List ℕ)) (bs rows : List AssignOf) (ks : List WitnessLine) (fs : List FrameOf) (bad : ℕ) → Stays spot.InStates (fs ++ in_states rows ∷ []) bad r
      → AllByRecursion (AssignFits shape.states) rows → AllByRecursion (AssignFits shape.states) bs → AllZip IsLine rest (map AssignLine bs ++ ks) → Reaches r n rest ks (Stays spot.InStates (fs ++ in_states (rows ++ bs) ∷ []) bad)
  state_rows r n rest [] rows ks fs bad h a b z =
      record { to = r; at = n; left = rest; same = refl; zip = z; holds = subst (λ (rows : List AssignOf). Stays spot.InStates (fs ++ in_states rows ∷ []) bad r) (sym (append-nil rows)) h }
  state_rows r n [] (b ∷ bs) rows ks fs bad h a c z = absurd z
  state_rows r n (line ∷ rest) (b ∷ bs) rows ks fs bad h a (f, c) (i, z) =
      subst (λ (rows : List AssignOf). Reaches r n (line ∷ rest) ks (Stays spot.InStates (fs ++ in_states rows ∷ []) bad)) (append_assoc rows (b ∷ []) bs)
      (longer r n line rest ks (Stays spot.InStates (fs ++ in_states (rows ++ b ∷ [] ++ bs) ∷ []) bad)
      (state_rows (read_line r n line) (n + length line + 1) rest bs (rows ++ b ∷ []) ks fs bad (state_stays r n line b rows fs bad h a f i) (all_push (AssignFits shape.states) rows b a f) c z))

  input_stays : (r : ReadingOf) (n : ℕ) (line : List ℕ) (b : AssignOf) (rows : List AssignOf) (fs : List FrameOf) (states : Option (List AssignOf)) (bad : ℕ) → Stays spot.InInputs (fs ++ in_inputs states rows ∷ []) bad r → AllByRecursion (AssignFits shape.inputs) rows → AssignFits shape.inputs b
      → IsLine line (AssignLine b) → Stays spot.InInputs (fs ++ in_inputs states (rows ++ b ∷ []) ∷ []) bad (read_line r n line)
  input_stays r n line b rows fs states bad (at, is, same) a f i = (
    ap (λ (q : ReadingOf). q.spot) leads ∙ at,
    ap (λ (q : ReadingOf). q.frames) leads ∙ ap (λ (row : List Bool). with_input r.frames b.number row) from.1 ∙ ap (λ (k : FramesOf). with_input k b.number b.row) is ∙ kept_input shape most fs rows states b f a,
    ap (λ (q : ReadingOf). q.bad) leads ∙ same,
  )
    where
      fits : FitsWidths (widths_at r.frames.shape r.spot) (AssignLine b)
      fits = subst (λ (s : Spot). FitsWidths (widths_at r.frames.shape s) (AssignLine b)) (sym at) (subst (λ (q : ShapeOf). FitsWidths (widths_at q spot.InInputs) (AssignLine b)) (sym (shape_of r (fs ++ in_inputs states rows ∷ []) is)) f)

      from : (bits : List Bool) × RowIs (AssignLine b) bits × (read_line r n line ≡ enters r n bits (Some (entry.Assign b.number)))
      from = line_reads r n line (AssignLine b) i fits

      leads : read_line r n line ≡ record r { frames = with_input r.frames b.number (reverse from.0) }
      leads = from.2 ∙ input_enters r n from.0 b.number at

  input_rows : (r : ReadingOf) (n : ℕ) (rest : List (List ℕ)) (bs rows : List AssignOf) (ks : List WitnessLine) (fs : List FrameOf) (states : Option (List AssignOf)) (bad : ℕ) → Stays spot.InInputs (fs ++ in_inputs states rows ∷ []) bad r
      → AllByRecursion (AssignFits shape.inputs) rows → AllByRecursion (AssignFits shape.inputs) bs → AllZip IsLine rest (map AssignLine bs ++ ks) → Reaches r n rest ks (Stays spot.InInputs (fs ++ in_inputs states (rows ++ bs) ∷ []) bad)
  input_rows r n rest [] rows ks fs states bad h a b z =
      record { to = r; at = n; left = rest; same = refl; zip = z; holds = subst (λ (rows : List AssignOf). Stays spot.InInputs (fs ++ in_inputs states rows ∷ []) bad r) (sym (append-nil rows)) h }
  input_rows r n [] (b ∷ bs) rows ks fs states bad h a c z = absurd z
  input_rows r n (line ∷ rest) (b ∷ bs) rows ks fs states bad h a (f, c) (i, z) =
      subst (λ (rows : List AssignOf). Reaches r n (line ∷ rest) ks (Stays spot.InInputs (fs ++ in_inputs states rows ∷ []) bad)) (append_assoc rows (b ∷ []) bs)
      (longer r n line rest ks (Stays spot.InInputs (fs ++ in_inputs states (rows ++ b ∷ [] ++ bs) ∷ []) bad)
      (input_rows (read_line r n line) (n + length line + 1) rest bs (rows ++ b ∷ []) ks fs states bad (input_stays r n line b rows fs states bad h a f i) (all_push (AssignFits shape.inputs) rows b a f) c z))

  -- where frames may begin
  abbrev InBody : Spot → Type 0
  InBody s = (s ≡ spot.Named) ⊎ (s ≡ spot.InStates) ⊎ (s ≡ spot.InInputs)

  abbrev Body : List FrameOf → ℕ → ReadingOf → Type 0
  Body fs bad r = InBody r.spot × (r.frames ≡ kept shape most fs) × (r.bad ≡ bad)

  body_enters : (r : ReadingOf) (n : ℕ) (bits : List Bool) (e : Option Entry) → InBody r.spot → enters r n bits e ≡ goes_on r n bits e
  body_enters r n bits e (inl at) = ap (λ (s : Spot). enters_by r n bits s e) at
  body_enters r n bits e (inr (inl at)) = ap (λ (s : Spot). enters_by r n bits s e) at
  body_enters r n bits e (inr (inr at)) = ap (λ (s : Spot). enters_by r n bits s e) at

  begins_now : (r : ReadingOf) (n : ℕ) (s : Spot) (t : ℕ) → r.frames.count ≡ t → begins_frame r n s t ≡ record r { spot = s; frames = framed r.frames }
  begins_now r n s t e = let y : eqb t r.frames.count ≡ true = grind (arith, nat_tests) in rw y refl

  inputs_now : (r : ReadingOf) (n : ℕ) (t : ℕ) → r.frames.count ≡ t → begins_inputs r n t ≡ record r { spot = spot.InInputs; frames = framed r.frames }
  inputs_now r n t e = let f : eqb (t + 1) r.frames.count ≡ false = grind (arith, nat_tests) in by (is_in_states r.spot) refl f
    where
      and_false : (a b : Bool) → b ≡ false → (a && b) ≡ false
      and_false true b e = e
      and_false false b e = refl

      by : (c : Bool) → is_in_states r.spot ≡ c → eqb (t + 1) r.frames.count ≡ false → begins_inputs r n t ≡ record r { spot = spot.InInputs; frames = framed r.frames }
      by c is f = let g : (is_in_states r.spot && eqb (t + 1) r.frames.count) ≡ false = and_false (is_in_states r.spot) (eqb (t + 1) r.frames.count) f in rw g (begins_now r n spot.InInputs t e)

  inputs_then : (r : ReadingOf) (n : ℕ) (t : ℕ) → r.spot ≡ spot.InStates → r.frames.count ≡ t + 1 → begins_inputs r n t ≡ moved r spot.InInputs
  inputs_then r n t at e =
      let y : eqb (t + 1) r.frames.count ≡ true = grind (arith, nat_tests) in
      let both : (is_in_states r.spot && eqb (t + 1) r.frames.count) ≡ true = ap (λ (s : Spot). is_in_states s && eqb (t + 1) r.frames.count) at ∙ y in
      rw both refl

  states_head : (r : ReadingOf) (n : ℕ) (line : List ℕ) (fs : List FrameOf) (bad : ℕ) → Body fs bad r → IsLine line (StatesLine (length fs)) → Stays spot.InStates (fs ++ in_states [] ∷ []) bad (read_line r n line)
  states_head r n line fs bad (b, is, same) i =
      let from = line_reads r n line (StatesLine (length fs)) i tt in
      let leads = from.2 ∙ body_enters r n from.0 (Some (entry.States (length fs))) b ∙ begins_now r n spot.InStates (length fs) (count_of r fs is) in
      (ap (λ (q : ReadingOf). q.spot) leads, ap (λ (q : ReadingOf). q.frames) leads ∙ ap framed is ∙ kept_framed shape most fs (in_states []) refl refl, ap (λ (q : ReadingOf). q.bad) leads ∙ same)

  inputs_head : (r : ReadingOf) (n : ℕ) (line : List ℕ) (fs : List FrameOf) (bad : ℕ) → Body fs bad r → IsLine line (InputsLine (length fs)) → Stays spot.InInputs (fs ++ in_inputs None [] ∷ []) bad (read_line r n line)
  inputs_head r n line fs bad (b, is, same) i =
      let from = line_reads r n line (InputsLine (length fs)) i tt in
      let leads = from.2 ∙ body_enters r n from.0 (Some (entry.Inputs (length fs))) b ∙ inputs_now r n (length fs) (count_of r fs is) in
      (ap (λ (q : ReadingOf). q.spot) leads, ap (λ (q : ReadingOf). q.frames) leads ∙ ap framed is ∙ kept_framed shape most fs (in_inputs None []) refl refl, ap (λ (q : ReadingOf). q.bad) leads ∙ same)

  inputs_second : (r : ReadingOf) (n : ℕ) (line : List ℕ) (fs : List FrameOf) (rows : List AssignOf) (bad : ℕ) → Stays spot.InStates (fs ++ in_states rows ∷ []) bad r → IsLine line (InputsLine (length fs))
      → Stays spot.InInputs (fs ++ in_inputs (Some rows) [] ∷ []) bad (read_line r n line)
  inputs_second r n line fs rows bad (at, is, same) i =
      let from = line_reads r n line (InputsLine (length fs)) i tt in
      let count : r.frames.count ≡ length fs + 1 = count_of r (fs ++ in_states rows ∷ []) is ∙ length-append fs (in_states rows ∷ []) in
      let leads = from.2 ∙ body_enters r n from.0 (Some (entry.Inputs (length fs))) (inr (inl at)) ∙ inputs_then r n (length fs) at count in
      (ap (λ (q : ReadingOf). q.spot) leads, ap (λ (q : ReadingOf). q.frames) leads ∙ is ∙ kept_same shape most fs (in_states rows) (in_inputs (Some rows) []) refl refl, ap (λ (q : ReadingOf). q.bad) leads ∙ same)

  -- one part after the other
  join : (r : ReadingOf) (n : ℕ) (rest : List (List ℕ)) (ks new : List WitnessLine) (P Q : ReadingOf → Type 0) → Reaches r n rest ks P → ((to : ReadingOf) (at : ℕ) (left : List (List ℕ)) → P to → AllZip IsLine left ks → Reaches to at left new Q)
      → Reaches r n rest new Q
  join r n rest ks new P Q a f = let b = f a.to a.at a.left a.holds a.zip in record { to = b.to; at = b.at; left = b.left; same = a.same ∙ b.same; zip = b.zip; holds = b.holds }

  weaker : (r : ReadingOf) (n : ℕ) (rest : List (List ℕ)) (ks : List WitnessLine) (P Q : ReadingOf → Type 0) → Reaches r n rest ks P → ((to : ReadingOf) → P to → Q to) → Reaches r n rest ks Q
  weaker r n rest ks P Q a f = record { to = a.to; at = a.at; left = a.left; same = a.same; zip = a.zip; holds = f a.to a.holds }

  -- a line, then the rest
  after_line : (r : ReadingOf) (n : ℕ) (rest : List (List ℕ)) (k : WitnessLine) (ks : List WitnessLine) (P Q : ReadingOf → Type 0) → AllZip IsLine rest (k ∷ ks) → ((line : List ℕ) → IsLine line k → P (read_line r n line))
      → ((to : ReadingOf) (at : ℕ) (left : List (List ℕ)) → P to → AllZip IsLine left ks → Reaches to at left [] Q) → Reaches r n rest [] Q
  after_line r n [] k ks P Q z f g = absurd z
  after_line r n (line ∷ rest) k ks P Q (i, z) f g = let b = g (read_line r n line) (n + length line + 1) rest (f line i) z in record { to = b.to; at = b.at; left = b.left; same = b.same; zip = b.zip; holds = b.holds }

  states_body : (fs : List FrameOf) (bad : ℕ) (rows : List AssignOf) (to : ReadingOf) → Stays spot.InStates (fs ++ in_states rows ∷ []) bad to → Body (fs ++ in_states rows ∷ []) bad to
  states_body fs bad rows to (at, is, same) = (inr (inl at), is, same)

  inputs_body : (fs : List FrameOf) (bad : ℕ) (states : Option (List AssignOf)) (rows : List AssignOf) (to : ReadingOf) → Stays spot.InInputs (fs ++ in_inputs states rows ∷ []) bad to → Body (fs ++ in_inputs states rows ∷ []) bad to
  inputs_body fs bad states rows to (at, is, same) = (inr (inr at), is, same)

  -- a frame, and what follows it
  abbrev Then : List FrameOf → ℕ → List WitnessLine → (ReadingOf → Type 0) → Type 0
  Then fs bad ks Q = (to : ReadingOf) (at : ℕ) (left : List (List ℕ)) → Body fs bad to → AllZip IsLine left ks → Reaches to at left [] Q

  frame_by : (states inputs : Option (List AssignOf)) (r : ReadingOf) (n : ℕ) (rest : List (List ℕ)) (fs : List FrameOf) (bad : ℕ) (ks : List WitnessLine) (Q : ReadingOf → Type 0) → Body fs bad r
      → FrameFits shape (record { states = states; inputs = inputs }) → AllZip IsLine rest (frame_lines (length fs) (record { states = states; inputs = inputs }) ++ ks)
      → Then (fs ++ record { states = states; inputs = inputs } ∷ []) bad ks Q → Reaches r n rest [] Q
  frame_by None None r n rest fs bad ks Q b f z g = let e : false ≡ true = f.some in cc
  frame_by (Some rows) None r n rest fs bad ks Q b f z g =
      after_line r n rest (StatesLine (length fs)) (map AssignLine rows ++ ks) (Stays spot.InStates (fs ++ in_states [] ∷ []) bad) Q
      (subst (AllZip IsLine rest) (ap (λ (l : List WitnessLine). l ++ ks) (append-nil (StatesLine (length fs) ∷ map AssignLine rows))) z)
      (λ line i. states_head r n line fs bad b i)
      (λ to at left h z. join to at left ks [] (Stays spot.InStates (fs ++ in_states rows ∷ []) bad) Q (state_rows to at left rows [] ks fs bad h tt f.states z) (λ to at left h z. g to at left (states_body fs bad rows to h) z))
  frame_by None (Some rows) r n rest fs bad ks Q b f z g =
      after_line r n rest (InputsLine (length fs)) (map AssignLine rows ++ ks) (Stays spot.InInputs (fs ++ in_inputs None [] ∷ []) bad) Q z
      (λ line i. inputs_head r n line fs bad b i)
      (λ to at left h z. join to at left ks [] (Stays spot.InInputs (fs ++ in_inputs None rows ∷ []) bad) Q (input_rows to at left rows [] ks fs None bad h tt f.inputs z) (λ to at left h z. g to at left (inputs_body fs bad None rows to h) z))
  frame_by (Some srows) (Some rows) r n rest fs bad ks Q b f z g =
      after_line r n rest (StatesLine (length fs)) (map AssignLine srows ++ (InputsLine (length fs) ∷ (map AssignLine rows ++ ks))) (Stays spot.InStates (fs ++ in_states [] ∷ []) bad) Q
      (subst (AllZip IsLine rest) (append_assoc (StatesLine (length fs) ∷ map AssignLine srows) (InputsLine (length fs) ∷ map AssignLine rows) ks) z)
      (λ line i. states_head r n line fs bad b i)
      (λ to at left h z. join to at left (InputsLine (length fs) ∷ (map AssignLine rows ++ ks)) [] (Stays spot.InStates (fs ++ in_states srows ∷ []) bad) Q
      (state_rows to at left srows [] (InputsLine (length fs) ∷ (map AssignLine rows ++ ks)) fs bad h tt f.states z)
      (λ to at left h z. after_line to at left (InputsLine (length fs)) (map AssignLine rows ++ ks) (Stays spot.InInputs (fs ++ in_inputs (Some srows) [] ∷ []) bad) Q z
      (λ line i. inputs_second to at line fs srows bad h i)
      (λ to at left h z. join to at left ks [] (Stays spot.InInputs (fs ++ in_inputs (Some srows) rows ∷ []) bad) Q (input_rows to at left rows [] ks fs (Some srows) bad h tt f.inputs z)
      (λ to at left h z. g to at left (inputs_body fs bad (Some srows) rows to h) z))))

  frames_by : (new : List FrameOf) (r : ReadingOf) (n : ℕ) (rest : List (List ℕ)) (fs : List FrameOf) (bad t : ℕ) (ks : List WitnessLine) (Q : ReadingOf → Type 0) → t ≡ length fs → Body fs bad r
      → AllByRecursion (FrameFits shape) new → AllZip IsLine rest (frames_lines t new ++ ks) → Then (fs ++ new) bad ks Q → Reaches r n rest [] Q
  frames_by [] r n rest fs bad t ks Q e b f z g = g r n rest (subst (λ (fs : List FrameOf). Body fs bad r) (sym (append-nil fs)) b) z
  frames_by (h ∷ new) r n rest fs bad t ks Q e b (f, fits) z g =
      frame_by h.states h.inputs r n rest fs bad (frames_lines (t + 1) new ++ ks) Q b f
      (subst (AllZip IsLine rest) (append_assoc (frame_lines t h) (frames_lines (t + 1) new) ks ∙ ap (λ (n : ℕ). frame_lines n h ++ (frames_lines (t + 1) new ++ ks)) e) z)
      (λ to at left b z. frames_by new to at left (fs ++ h ∷ []) bad (t + 1) ks Q (ap (λ (n : ℕ). n + 1) e ∙ sym (length-append fs (h ∷ []))) b fits z
      (subst (λ (fs : List FrameOf). Then fs bad ks Q) (sym (append_assoc fs (h ∷ []) new)) g))

  -- the last line
  abbrev pub Ends : WitnessOf → ReadingOf → Type 0
  Ends x r = (r.spot ≡ spot.Whole) × (r.frames ≡ kept shape most x.frames) × (r.bad ≡ x.bad)

  end_line : (r : ReadingOf) (n : ℕ) (line : List ℕ) (x : WitnessOf) → 0 < length x.frames → Body x.frames x.bad r → IsLine line EndLine → Ends x (read_line r n line)
  end_line r n line x some (b, is, same) i =
      let from = line_reads r n line EndLine i tt in
      let count = count_of r x.frames is in
      let f : eqb r.frames.count 0 ≡ false = grind (arith, nat_tests) in
      let leads = from.2 ∙ body_enters r n from.0 (Some entry.End) b ∙ whole f in
      (ap (λ (q : ReadingOf). q.spot) leads, ap (λ (q : ReadingOf). q.frames) leads ∙ is, ap (λ (q : ReadingOf). q.bad) leads ∙ same)
    where
      whole : eqb r.frames.count 0 ≡ false → ends r n ≡ moved r spot.Whole
      whole f = rw f refl

  -- lines that are no `sat` are skipped
  skip_line : (r : ReadingOf) (n : ℕ) (line : List ℕ) → r.spot ≡ spot.Skipping → IsNoSat line → read_line r n line ≡ r
  skip_line r n line at non = ap (λ (s : Spot). enters_by r n bits s e) at ∙ by e refl
    where
      bits : List Bool
      bits = (line_scan r.frames.shape r.spot line).bits

      e : Option Entry
      e = line_entry (line_scan r.frames.shape r.spot line).line

      by : (o : Option Entry) → e ≡ o → skips r o ≡ r
      by None h = refl
      by (Some entry.Sat) h = absurd (non (said_is (widths_at r.frames.shape r.spot) line SatLine (ap (λ (o : Option Entry). said_by o bits) h)).0)
      by (Some (entry.Bads k)) h = refl
      by (Some (entry.States t)) h = refl
      by (Some (entry.Inputs t)) h = refl
      by (Some (entry.Assign m)) h = refl
      by (Some entry.End) h = refl

  skip_lines : (r : ReadingOf) (n : ℕ) (skipped rest : List (List ℕ)) → r.spot ≡ spot.Skipping → AllByRecursion IsNoSat skipped → (at : ℕ) × (reads r n (skipped ++ rest) ≡ reads r at rest)
  skip_lines r n [] rest at h = (n, refl)
  skip_lines r n (line ∷ skipped) rest at (non, h) =
      let again = skip_lines r (n + length line + 1) skipped rest at h in
      (again.0, ap (λ (q : ReadingOf). reads q (n + length line + 1) (skipped ++ rest)) (skip_line r n line at non) ∙ again.1)

  pub witness_reads : (lines : List (List ℕ)) (x : WitnessOf) → IsWitness shape lines x → Ends x (reads (no_reading shape most) 0 lines)
  witness_reads lines x h = subst (Ends x) (sym leads) (subst (Ends x) (sym through.same) (last through.left through.zip))
    where
      start : ReadingOf
      start = no_reading shape most

      skipped : (at : ℕ) × (reads start 0 (h.skipped ++ h.first ∷ h.rest) ≡ reads start at (h.first ∷ h.rest))
      skipped = skip_lines start 0 h.skipped (h.first ∷ h.rest) refl h.before

      found : ReadingOf
      found = read_line start skipped.0 h.first

      is_found : found ≡ moved start spot.Found
      is_found = (line_reads start skipped.0 h.first SatLine h.sat tt).2

      named : (line : List ℕ) (n : ℕ) → IsLine line (BadsLine x.bad) → Body [] x.bad (read_line found n line)
      named line n i =
          let from = line_reads found n line (BadsLine x.bad) i tt in
          let leads = from.2 ∙ ap (λ (r : ReadingOf). enters r n from.0 (Some (entry.Bads x.bad))) is_found in
          (inl (ap (λ (q : ReadingOf). q.spot) leads), ap (λ (q : ReadingOf). q.frames) leads ∙ kept_nil shape most, ap (λ (q : ReadingOf). q.bad) leads)

      through : Reaches found (skipped.0 + length h.first + 1) h.rest [] (Ends x)
      through = after_line found (skipped.0 + length h.first + 1) h.rest (BadsLine x.bad) (frames_lines 0 x.frames ++ EndLine ∷ []) (Body [] x.bad) (Ends x) h.read
          (λ line i. named line (skipped.0 + length h.first + 1) i)
          (λ to at left b z. frames_by x.frames to at left [] x.bad 0 (EndLine ∷ []) (Ends x) refl b h.fits z
          (λ to at left b z. after_line to at left EndLine [] (Ends x) (Ends x) z (λ line i. end_line to at line x h.some b i) (λ to at left e z. record { to = to; at = at; left = left; same = refl; zip = z; holds = e })))

      leads : reads start 0 lines ≡ reads found (skipped.0 + length h.first + 1) h.rest
      leads = ap (reads start 0) h.are ∙ skipped.1

      last : (left : List (List ℕ)) → AllZip IsLine left [] → Ends x (reads through.to through.at left)
      last [] z = through.holds
      last (line ∷ left) z = absurd z
