-- Whole lines, one after the other.
use Rattle.std.proofs.Common.{◌≡◌, ◌⊎◌, ℕ, ◌+◌, ◌-◌, ◌<◌, Bool, true, false, eqb, ◌&&◌, List, [], ◌∷◌, ◌++◌, length, reverse, Option, Some, None, refl, ap, sym, ◌∙◌, subst, inl, inr, arith}
use Rattle.std.specs.Prelude.{fold, slice_get, map}
use Rattle.std.specs.List.{AllByRecursion, AllZip}
use Rattle.std.proofs.lemmas.Bool.{cases_Bool, eqb-true}
use Rattle.std.proofs.lemmas.Bool.Decides.{nat_tests}
use Rattle.std.proofs.lemmas.List.{length-append, append_assoc, append-nil}
use Rattle.std.proofs.lemmas.Option.{same_Some}
use Rattle.btor_witness.specs.Shape.{ShapeOf}
use Rattle.btor_witness.specs.Grammar.{AssignFits, AssignOf, FrameFits, FrameOf, IsLine, IsNoSat, IsWitness, WitnessLine, WitnessOf, SatLine, BadsLine, StatesLine, InputsLine, AssignLine, EndLine, frame_lines, frames_lines, part_lines}
use Rattle.btor_witness.specs.Choices.{rows_in}
use Rattle.btor_witness.specs.Machine.{FramesOf, ReadingOf, ScanOf, assigns, begins_frame, begins_inputs, ends, enters, enters_by, framed, goes_on, is_in_states, is_over, line_entry, names, no_scan, skips, widths_at, with_input, with_state}
use Rattle.btor_witness.specs.declared.line.Entry.{Entry}
use Rattle.btor_witness.specs.declared.line.Entry.TheVariants as entry
use Rattle.btor_witness.specs.declared.spot.Spot.{Spot}
use Rattle.btor_witness.specs.declared.spot.Spot.TheVariants as spot
use Rattle.btor_witness.proofs.Kept.{kept, kept_framed, kept_input, kept_same, kept_state}
use Rattle.btor_witness.proofs.Lines.{FitsWidths, left, line_of, said_all, said_by, said_is, scans}

-- a line
abbrev pub line_scan : ShapeOf → Spot → List ℕ → ScanOf
line_scan shape s line = left (fold (scans (widths_at shape s)) no_scan line)

abbrev pub read_line : ReadingOf → ℕ → List ℕ → ReadingOf
read_line r first line = let s = line_scan r.frames.shape r.spot line in enters r first s.bits (line_entry s.line)

-- what an entry says
abbrev pub entry_of : WitnessLine → Entry
entry_of SatLine = entry.Sat
entry_of (BadsLine k) = entry.Bads k
entry_of (StatesLine t) = entry.States t
entry_of (InputsLine t) = entry.Inputs t
entry_of (AssignLine a) = entry.Assign a.number
entry_of EndLine = entry.End

abbrev pub RowIs : WitnessLine → List Bool → Type 0
RowIs SatLine bits = Unit {0}
RowIs (BadsLine k) bits = Unit {0}
RowIs (StatesLine t) bits = Unit {0}
RowIs (InputsLine t) bits = Unit {0}
RowIs (AssignLine a) bits = reverse bits ≡ a.row
RowIs EndLine bits = Unit {0}

entry_same : (e : Entry) (bits : List Bool) → (e ≡ entry_of (line_of e bits)) × RowIs (line_of e bits) bits
entry_same entry.Sat bits = (refl, tt)
entry_same (entry.Bads k) bits = (refl, tt)
entry_same (entry.States t) bits = (refl, tt)
entry_same (entry.Inputs t) bits = (refl, tt)
entry_same (entry.Assign n) bits = (refl, refl)
entry_same entry.End bits = (refl, tt)

pub said_entry : (e : Option Entry) (bits : List Bool) (k : WitnessLine) → said_by e bits ≡ Some k → (e ≡ Some (entry_of k)) × RowIs k bits
said_entry None bits k h = cc
said_entry (Some e) bits k h =
    let same : line_of e bits ≡ k = same_Some (line_of e bits) k h in
    subst (λ (k : WitnessLine). (Some e ≡ Some (entry_of k)) × RowIs k bits) same (ap Some (entry_same e bits).0, (entry_same e bits).1)

-- what was read of a line that is of this kind
pub line_reads : (r : ReadingOf) (first : ℕ) (line : List ℕ) (k : WitnessLine) → IsLine line k → FitsWidths (widths_at r.frames.shape r.spot) k
    → (bits : List Bool) × RowIs k bits × (read_line r first line ≡ enters r first bits (Some (entry_of k)))
line_reads r first line k h fits =
    let s = line_scan r.frames.shape r.spot line in
    let is = said_entry (line_entry s.line) s.bits k (said_all (widths_at r.frames.shape r.spot) line k h fits) in
    (s.bits, is.1, ap (enters r first s.bits) is.0)

-- lists of lines
zip_push : (xs : List (List ℕ)) (ks : List WitnessLine) (x : List ℕ) (k : WitnessLine) → AllZip IsLine xs ks → IsLine x k → AllZip IsLine (xs ++ x ∷ []) (ks ++ k ∷ [])
zip_push [] [] x k h i = (i, tt)
zip_push [] (l ∷ ks) x k h i = absurd h
zip_push (y ∷ xs) [] x k h i = absurd h
zip_push (y ∷ xs) (l ∷ ks) x k (g, h) i = (g, zip_push xs ks x k h i)

pub all_push : {A : Type 0} (P : A → Type 0) (xs : List A) (x : A) → AllByRecursion P xs → P x → AllByRecursion P (xs ++ x ∷ [])
all_push P [] x h i = (i, tt)
all_push P (y ∷ xs) x (g, h) i = (g, all_push P xs x h i)

all_last : {A : Type 0} (P : A → Type 0) (xs : List A) (x : A) → AllByRecursion P (xs ++ x ∷ []) → AllByRecursion P xs × P x
all_last P [] x (h, i) = (tt, h)
all_last P (y ∷ xs) x (g, h) = let again = all_last P xs x h in ((g, again.0), again.1)

frames_push : (t : ℕ) (fs : List FrameOf) (f : FrameOf) → frames_lines t (fs ++ f ∷ []) ≡ frames_lines t fs ++ frame_lines (t + length fs) f
frames_push t [] f = append-nil (frame_lines t f) ∙ ap (λ (n : ℕ). frame_lines n f) (omega arith)
frames_push t (g ∷ fs) f =
    ap (λ (ks : List WitnessLine). frame_lines t g ++ ks) (frames_push (t + 1) fs f)
    ∙ sym (append_assoc (frame_lines t g) (frames_lines (t + 1) fs) (frame_lines (t + 1 + length fs) f))
    ∙ ap (λ (n : ℕ). frame_lines t g ++ frames_lines (t + 1) fs ++ frame_lines n f) (omega arith)

frames_push_zero : (fs : List FrameOf) (f : FrameOf) → frames_lines 0 (fs ++ f ∷ []) ≡ frames_lines 0 fs ++ frame_lines (length fs) f
frames_push_zero fs f = frames_push 0 fs f ∙ ap (λ (n : ℕ). frames_lines 0 fs ++ frame_lines n f) (omega arith)

-- the last frame has a line more
last_grows : (fs : List FrameOf) (f g : FrameOf) (k : WitnessLine) → frame_lines (length fs) f ++ k ∷ [] ≡ frame_lines (length fs) g → frames_lines 0 (fs ++ f ∷ []) ++ k ∷ [] ≡ frames_lines 0 (fs ++ g ∷ [])
last_grows fs f g k e =
    ap (λ (ks : List WitnessLine). ks ++ k ∷ []) (frames_push_zero fs f)
    ∙ append_assoc (frames_lines 0 fs) (frame_lines (length fs) f) (k ∷ [])
    ∙ ap (λ (ks : List WitnessLine). frames_lines 0 fs ++ ks) e
    ∙ sym (frames_push_zero fs g)

-- a frame of one line comes
frame_comes : (fs : List FrameOf) (g : FrameOf) (k : WitnessLine) → k ∷ [] ≡ frame_lines (length fs) g → frames_lines 0 fs ++ k ∷ [] ≡ frames_lines 0 (fs ++ g ∷ [])
frame_comes fs g k e = ap (λ (ks : List WitnessLine). frames_lines 0 fs ++ ks) e ∙ sym (frames_push_zero fs g)

map_push : (rows : List AssignOf) (a : AssignOf) → map AssignLine (rows ++ a ∷ []) ≡ map AssignLine rows ++ AssignLine a ∷ []
map_push [] a = refl
map_push (b ∷ rows) a = ap (λ (ks : List WitnessLine). AssignLine b ∷ ks) (map_push rows a)

abbrev pub in_states : List AssignOf → FrameOf
in_states rows = record { states = Some rows; inputs = None }

abbrev pub in_inputs : Option (List AssignOf) → List AssignOf → FrameOf
in_inputs states rows = record { states = states; inputs = Some rows }

states_grow : (t : ℕ) (rows : List AssignOf) (a : AssignOf) → frame_lines t (in_states rows) ++ AssignLine a ∷ [] ≡ frame_lines t (in_states (rows ++ a ∷ []))
states_grow t rows a =
    ap (λ (ks : List WitnessLine). ks ++ AssignLine a ∷ []) (append-nil (StatesLine t ∷ map AssignLine rows))
    ∙ ap (λ (ks : List WitnessLine). StatesLine t ∷ ks) (sym (map_push rows a))
    ∙ sym (append-nil (StatesLine t ∷ map AssignLine (rows ++ a ∷ [])))

inputs_grow : (t : ℕ) (states : Option (List AssignOf)) (rows : List AssignOf) (a : AssignOf) → frame_lines t (in_inputs states rows) ++ AssignLine a ∷ [] ≡ frame_lines t (in_inputs states (rows ++ a ∷ []))
inputs_grow t states rows a =
    append_assoc (part_lines (StatesLine t) states) (InputsLine t ∷ map AssignLine rows) (AssignLine a ∷ [])
    ∙ ap (λ (ks : List WitnessLine). part_lines (StatesLine t) states ++ (InputsLine t ∷ ks)) (sym (map_push rows a))

inputs_come : (t : ℕ) (rows : List AssignOf) → frame_lines t (in_states rows) ++ InputsLine t ∷ [] ≡ frame_lines t (in_inputs (Some rows) [])
inputs_come t rows = ap (λ (ks : List WitnessLine). ks ++ InputsLine t ∷ []) (append-nil (StatesLine t ∷ map AssignLine rows))

-- After a line `sat` and those before it, the lines are these.
pub record After (lines : List (List ℕ)) (ks : List WitnessLine) : Type 0 where
  pub skipped : List (List ℕ)
  pub first : List ℕ
  pub rest : List (List ℕ)
  pub are : lines ≡ skipped ++ first ∷ rest
  pub before : AllByRecursion IsNoSat skipped
  pub sat : IsLine first SatLine
  pub read : AllZip IsLine rest ks

after_push : (lines : List (List ℕ)) (line : List ℕ) (ks new : List WitnessLine) (k : WitnessLine) → After lines ks → IsLine line k → ks ++ k ∷ [] ≡ new → After (lines ++ line ∷ []) new
after_push lines line ks new k a i e = record {
  skipped = a.skipped;
  first = a.first;
  rest = a.rest ++ line ∷ [];
  are = ap (λ (ls : List (List ℕ)). ls ++ line ∷ []) a.are ∙ append_assoc a.skipped (a.first ∷ a.rest) (line ∷ []);
  before = a.before;
  sat = a.sat;
  read = subst (AllZip IsLine (a.rest ++ line ∷ [])) e (zip_push a.rest ks line k a.read i);
}

-- the lines are those of whole frames and of the last so far
pub record Framed (shape : ShapeOf) (most : ℕ) (lines : List (List ℕ)) (r : ReadingOf) (fs : List FrameOf) : Type 0 where
  pub after : After lines (BadsLine r.bad ∷ frames_lines 0 fs)
  pub fits : AllByRecursion (FrameFits shape) fs
  pub frames : r.frames ≡ kept shape most fs

-- what was read of lines
abbrev pub StandsBy : ShapeOf → ℕ → List (List ℕ) → Spot → ReadingOf → Type 0
StandsBy shape most lines spot.Skipping r = AllByRecursion IsNoSat lines × (r.frames ≡ kept shape most [])
StandsBy shape most lines spot.Found r = After lines [] × (r.frames ≡ kept shape most [])
StandsBy shape most lines spot.Named r = Framed shape most lines r []
StandsBy shape most lines spot.InStates r = (fs : List FrameOf) × (rows : List AssignOf) × Framed shape most lines r (fs ++ in_states rows ∷ [])
StandsBy shape most lines spot.InInputs r = (fs : List FrameOf) × (states : Option (List AssignOf)) × (rows : List AssignOf) × Framed shape most lines r (fs ++ in_inputs states rows ∷ [])
StandsBy shape most lines spot.Whole r = (x : WitnessOf) × IsWitness shape lines x
StandsBy shape most lines (spot.Refused k) r = Unit {0}
StandsBy shape most lines spot.Lost r = Unit {0}

abbrev pub Stands : ShapeOf → ℕ → List (List ℕ) → ReadingOf → Type 0
Stands shape most lines r = StandsBy shape most lines r.spot r

-- one line more
module _ (shape : ShapeOf) (most : ℕ) (lines : List (List ℕ)) (line : List ℕ) where
  abbrev more : List (List ℕ)
  more = lines ++ line ∷ []

  begun : (r : ReadingOf) (first : ℕ) (fs : List FrameOf) (g : FrameOf) (k : WitnessLine) (s : Spot) (t : ℕ) → Framed shape most lines r fs → IsLine line k → (t ≡ length fs → k ∷ [] ≡ frame_lines (length fs) g)
      → rows_in g.states ≡ [] → rows_in g.inputs ≡ [] → FrameFits shape g
      → (t ≡ length fs → (q : ReadingOf) → q ≡ record r { spot = s; frames = framed r.frames } → Framed shape most more q (fs ++ g ∷ []) → Stands shape most more q)
      → Stands shape most more (begins_frame r first s t)
  begun r first fs g k s t h i e a b f to = elim (cases_Bool (eqb t r.frames.count)) [
    | inr n ↦ rw n tt
    | inl y ↦
        let same : t ≡ length fs = eqb-true t r.frames.count y ∙ ap (λ (k : FramesOf). k.count) h.frames in
        rw y (to same (record r { spot = s; frames = framed r.frames }) refl (record {
          after = after_push lines line (BadsLine r.bad ∷ frames_lines 0 fs) (BadsLine r.bad ∷ frames_lines 0 (fs ++ g ∷ [])) k h.after i (ap (λ (ks : List WitnessLine). BadsLine r.bad ∷ ks) (frame_comes fs g k (e same)));
          fits = all_push (FrameFits shape) fs g h.fits f;
          frames = ap framed h.frames ∙ kept_framed shape most fs g a b;
        }))
  ]

  states_begin : (r : ReadingOf) (first : ℕ) (fs : List FrameOf) (t : ℕ) → Framed shape most lines r fs → IsLine line (StatesLine t) → Stands shape most more (begins_frame r first spot.InStates t)
  states_begin r first fs t h i = begun r first fs (in_states []) (StatesLine t) spot.InStates t h i (λ e. ap (λ (n : ℕ). StatesLine n ∷ []) e) refl refl (record { some = refl; states = tt; inputs = tt })
      (λ e q is f. subst (λ (s : Spot). StandsBy shape most more s q) (sym (ap (λ (r : ReadingOf). r.spot) is)) (fs, [], f))

  inputs_begin : (r : ReadingOf) (first : ℕ) (fs : List FrameOf) (t : ℕ) → Framed shape most lines r fs → IsLine line (InputsLine t) → Stands shape most more (begins_frame r first spot.InInputs t)
  inputs_begin r first fs t h i = begun r first fs (in_inputs None []) (InputsLine t) spot.InInputs t h i (λ e. ap (λ (n : ℕ). InputsLine n ∷ []) e) refl refl (record { some = refl; states = tt; inputs = tt })
      (λ e q is f. subst (λ (s : Spot). StandsBy shape most more s q) (sym (ap (λ (r : ReadingOf). r.spot) is)) (fs, None, [], f))

  ended : (r : ReadingOf) (first : ℕ) (fs : List FrameOf) → Framed shape most lines r fs → IsLine line EndLine → Stands shape most more (ends r first)
  ended r first fs h i = elim (cases_Bool (eqb r.frames.count 0)) [
    | inl y ↦ rw y tt
    | inr n ↦
        let count : r.frames.count ≡ length fs = ap (λ (k : FramesOf). k.count) h.frames in
        let some : 0 < length fs = grind (arith, nat_tests) in
        let a = after_push lines line (BadsLine r.bad ∷ frames_lines 0 fs) (BadsLine r.bad ∷ (frames_lines 0 fs ++ EndLine ∷ [])) EndLine h.after i refl in
        rw n (record { bad = r.bad; frames = fs }, record { skipped = a.skipped; first = a.first; rest = a.rest; are = a.are; before = a.before; sat = a.sat; read = a.read; some = some; fits = h.fits })
  ]

  -- a line of frames, after what isn't a row
  body : (r : ReadingOf) (first : ℕ) (bits : List Bool) (fs : List FrameOf) (e : Option Entry) → Framed shape most lines r fs → ((k : WitnessLine) → said_by e bits ≡ Some k → IsLine line k)
      → ((t : ℕ) → IsLine line (InputsLine t) → Stands shape most more (begins_inputs r first t)) → ((n : ℕ) → e ≡ Some (entry.Assign n) → Stands shape most more (assigns r first bits r.spot n))
      → Stands shape most more (goes_on r first bits e)
  body r first bits fs None h i b a = tt
  body r first bits fs (Some entry.Sat) h i b a = tt
  body r first bits fs (Some (entry.Bads k)) h i b a = tt
  body r first bits fs (Some (entry.States t)) h i b a = states_begin r first fs t h (i (StatesLine t) refl)
  body r first bits fs (Some (entry.Inputs t)) h i b a = b t (i (InputsLine t) refl)
  body r first bits fs (Some (entry.Assign n)) h i b a = a n refl
  body r first bits fs (Some entry.End) h i b a = ended r first fs h (i EndLine refl)

  no_sat : (r : ReadingOf) (e : Option Entry) (bits : List Bool) → (IsLine line SatLine → said_by e bits ≡ Some SatLine) → AllByRecursion IsNoSat lines × (r.frames ≡ kept shape most []) → ((e ≡ Some entry.Sat) → ⊥)
      → AllByRecursion IsNoSat more × (r.frames ≡ kept shape most [])
  no_sat r e bits c (h, f) n = (all_push IsNoSat lines line h (λ s. n (said_entry e bits SatLine (c s)).0), f)

  skipping : (r : ReadingOf) (e : Option Entry) (bits : List Bool) → r.spot ≡ spot.Skipping → ((k : WitnessLine) → said_by e bits ≡ Some k → IsLine line k) → (IsLine line SatLine → said_by e bits ≡ Some SatLine)
      → AllByRecursion IsNoSat lines × (r.frames ≡ kept shape most []) → Stands shape most more (skips r e)
  skipping r None bits at i c h = subst (λ (s : Spot). StandsBy shape most more s r) (sym at) (no_sat r None bits c h (λ e. cc))
  skipping r (Some entry.Sat) bits at i c h = (record { skipped = lines; first = line; rest = []; are = refl; before = h.0; sat = i SatLine refl; read = tt }, h.1)
  skipping r (Some (entry.Bads k)) bits at i c h = subst (λ (s : Spot). StandsBy shape most more s r) (sym at) (no_sat r (Some (entry.Bads k)) bits c h (λ e. cc))
  skipping r (Some (entry.States t)) bits at i c h = subst (λ (s : Spot). StandsBy shape most more s r) (sym at) (no_sat r (Some (entry.States t)) bits c h (λ e. cc))
  skipping r (Some (entry.Inputs t)) bits at i c h = subst (λ (s : Spot). StandsBy shape most more s r) (sym at) (no_sat r (Some (entry.Inputs t)) bits c h (λ e. cc))
  skipping r (Some (entry.Assign n)) bits at i c h = subst (λ (s : Spot). StandsBy shape most more s r) (sym at) (no_sat r (Some (entry.Assign n)) bits c h (λ e. cc))
  skipping r (Some entry.End) bits at i c h = subst (λ (s : Spot). StandsBy shape most more s r) (sym at) (no_sat r (Some entry.End) bits c h (λ e. cc))

  naming : (r : ReadingOf) (first : ℕ) (e : Option Entry) (bits : List Bool) → ((k : WitnessLine) → said_by e bits ≡ Some k → IsLine line k) → After lines [] × (r.frames ≡ kept shape most []) → Stands shape most more (names r first e)
  naming r first None bits i h = tt
  naming r first (Some entry.Sat) bits i h = tt
  naming r first (Some (entry.Bads k)) bits i h = record { after = after_push lines line [] (BadsLine k ∷ []) (BadsLine k) h.0 (i (BadsLine k) refl) refl; fits = tt; frames = h.1 }
  naming r first (Some (entry.States t)) bits i h = tt
  naming r first (Some (entry.Inputs t)) bits i h = tt
  naming r first (Some (entry.Assign n)) bits i h = tt
  naming r first (Some entry.End) bits i h = tt

  -- the inputs of a frame come after its states
  inputs_on : (r : ReadingOf) (first : ℕ) (fs : List FrameOf) (rows : List AssignOf) (t : ℕ) → Framed shape most lines r (fs ++ in_states rows ∷ []) → IsLine line (InputsLine t) → Stands shape most more (begins_inputs r first t)
  inputs_on r first fs rows t h i = elim (cases_Bool (is_in_states r.spot && eqb (t + 1) r.frames.count)) [
    | inr n ↦ rw n (inputs_begin r first (fs ++ in_states rows ∷ []) t h i)
    | inl y ↦
        let count = ap (λ (k : FramesOf). k.count) h.frames in
        let at : eqb (t + 1) r.frames.count ≡ true = and_second (is_in_states r.spot) (eqb (t + 1) r.frames.count) y in
        let l = length-append fs (in_states rows ∷ []) in
        let sum = eqb-true (t + 1) r.frames.count at in
        let same : t ≡ length fs = omega arith in
        let last = all_last (FrameFits shape) fs (in_states rows) h.fits in
        rw y (
          fs,
          Some rows,
          [],
          record {
            after = after_push lines line (BadsLine r.bad ∷ frames_lines 0 (fs ++ in_states rows ∷ [])) (BadsLine r.bad ∷ frames_lines 0 (fs ++ in_inputs (Some rows) [] ∷ [])) (InputsLine t) h.after i
                (ap (λ (ks : List WitnessLine). BadsLine r.bad ∷ ks) (last_grows fs (in_states rows) (in_inputs (Some rows) []) (InputsLine t)
                (ap (λ (n : ℕ). frame_lines (length fs) (in_states rows) ++ InputsLine n ∷ []) same ∙ inputs_come (length fs) rows)));
            fits = all_push (FrameFits shape) fs (in_inputs (Some rows) []) last.0 (record { some = refl; states = last.1.states; inputs = tt });
            frames = h.frames ∙ kept_same shape most fs (in_states rows) (in_inputs (Some rows) []) refl refl;
          },
        )
  ]
    where
      and_second : (a b : Bool) → (a && b) ≡ true → b ≡ true
      and_second true b e = e
      and_second false b e = cc

  -- a row more
  state_row : (r : ReadingOf) (first : ℕ) (bits : List Bool) (fs : List FrameOf) (rows : List AssignOf) (n : ℕ) → r.spot ≡ spot.InStates → Framed shape most lines r (fs ++ in_states rows ∷ []) → (a : AssignOf) → a ≡ record { number = n; row = reverse bits }
      → IsLine line (AssignLine a) → AssignFits shape.states a → Stands shape most more (assigns r first bits r.spot n)
  state_row r first bits fs rows n at h a is i f =
      subst (λ (s : Spot). Stands shape most more (assigns r first bits s n)) (sym at) (subst (λ (s : Spot). StandsBy shape most more s (record r { frames = with_state r.frames n (reverse bits) })) (sym at) (
        fs,
        rows ++ a ∷ [],
        record {
          after = after_push lines line (BadsLine r.bad ∷ frames_lines 0 (fs ++ in_states rows ∷ [])) (BadsLine r.bad ∷ frames_lines 0 (fs ++ in_states (rows ++ a ∷ []) ∷ [])) (AssignLine a) h.after i
              (ap (λ (ks : List WitnessLine). BadsLine r.bad ∷ ks) (last_grows fs (in_states rows) (in_states (rows ++ a ∷ [])) (AssignLine a) (states_grow (length fs) rows a)));
          fits = all_push (FrameFits shape) fs (in_states (rows ++ a ∷ [])) last.0 (record { some = refl; states = all_push (AssignFits shape.states) rows a last.1.states f; inputs = tt });
          frames = ap (λ (b : AssignOf). with_state r.frames b.number b.row) (sym is) ∙ ap (λ (k : FramesOf). with_state k a.number a.row) h.frames ∙ kept_state shape most fs rows None a f last.1.states;
        },
      ))
    where
      last : AllByRecursion (FrameFits shape) fs × FrameFits shape (in_states rows)
      last = all_last (FrameFits shape) fs (in_states rows) h.fits

  input_row : (r : ReadingOf) (first : ℕ) (bits : List Bool) (fs : List FrameOf) (states : Option (List AssignOf)) (rows : List AssignOf) (n : ℕ) → r.spot ≡ spot.InInputs → Framed shape most lines r (fs ++ in_inputs states rows ∷ [])
      → (a : AssignOf) → a ≡ record { number = n; row = reverse bits } → IsLine line (AssignLine a) → AssignFits shape.inputs a → Stands shape most more (assigns r first bits r.spot n)
  input_row r first bits fs states rows n at h a is i f =
      subst (λ (s : Spot). Stands shape most more (assigns r first bits s n)) (sym at) (subst (λ (s : Spot). StandsBy shape most more s (record r { frames = with_input r.frames n (reverse bits) })) (sym at) (
        fs,
        states,
        rows ++ a ∷ [],
        record {
          after = after_push lines line (BadsLine r.bad ∷ frames_lines 0 (fs ++ in_inputs states rows ∷ [])) (BadsLine r.bad ∷ frames_lines 0 (fs ++ in_inputs states (rows ++ a ∷ []) ∷ [])) (AssignLine a) h.after i
              (ap (λ (ks : List WitnessLine). BadsLine r.bad ∷ ks) (last_grows fs (in_inputs states rows) (in_inputs states (rows ++ a ∷ [])) (AssignLine a) (inputs_grow (length fs) states rows a)));
          fits = all_push (FrameFits shape) fs (in_inputs states (rows ++ a ∷ [])) last.0 (record { some = last.1.some; states = last.1.states; inputs = all_push (AssignFits shape.inputs) rows a last.1.inputs f });
          frames = ap (λ (b : AssignOf). with_input r.frames b.number b.row) (sym is) ∙ ap (λ (k : FramesOf). with_input k a.number a.row) h.frames ∙ kept_input shape most fs rows states a f last.1.inputs;
        },
      ))
    where
      last : AllByRecursion (FrameFits shape) fs × FrameFits shape (in_inputs states rows)
      last = all_last (FrameFits shape) fs (in_inputs states rows) h.fits

  named_inputs : (r : ReadingOf) (first : ℕ) (t : ℕ) → is_in_states r.spot ≡ false → Stands shape most more (begins_frame r first spot.InInputs t) → Stands shape most more (begins_inputs r first t)
  named_inputs r first t e h = rw e h

  pub step : (r : ReadingOf) (first : ℕ) (s : Spot) → r.spot ≡ s → is_over s ≡ false → r.frames.shape ≡ shape → StandsBy shape most lines s r → Stands shape most more (read_line r first line)
  step r first s at o same h = subst (λ (s : Spot). Stands shape most more (enters_by r first bits s e)) (sym at) (by s at o h)
    where
      ws : List ℕ
      ws = widths_at r.frames.shape r.spot

      bits : List Bool
      bits = (line_scan r.frames.shape r.spot line).bits

      e : Option Entry
      e = line_entry (line_scan r.frames.shape r.spot line).line

      is : (k : WitnessLine) → said_by e bits ≡ Some k → IsLine line k
      is k h = (said_is ws line k h).0

      sat : IsLine line SatLine → said_by e bits ≡ Some SatLine
      sat h = said_all ws line SatLine h tt

      row : (n : ℕ) → e ≡ Some (entry.Assign n) → IsLine line (AssignLine (record { number = n; row = reverse bits })) × (slice_get ws n ≡ Some (length (reverse bits)))
      row n h = said_is ws line (AssignLine (record { number = n; row = reverse bits })) (ap (λ (e : Option Entry). said_by e bits) h)

      by : (s : Spot) → r.spot ≡ s → is_over s ≡ false → StandsBy shape most lines s r → Stands shape most more (enters_by r first bits s e)
      by spot.Skipping at o h = skipping r e bits at is sat h
      by spot.Found at o h = naming r first e bits is h
      by spot.Named at o h = body r first bits [] e h is
          (λ t i. named_inputs r first t (ap is_in_states at) (inputs_begin r first [] t h i))
          (λ n k. subst (λ (s : Spot). Stands shape most more (assigns r first bits s n)) (sym at) tt)
      by spot.InStates at o (fs, rows, h) = body r first bits (fs ++ in_states rows ∷ []) e h is
          (λ t i. inputs_on r first fs rows t h i)
          (λ n k. let i = row n k in state_row r first bits fs rows n at h (record { number = n; row = reverse bits }) refl i.0
          (ap (λ (ws : List ℕ). slice_get ws n) (sym (ap (λ (s : Spot). widths_at shape s) at) ∙ sym (ap (λ (q : ShapeOf). widths_at q r.spot) same)) ∙ i.1))
      by spot.InInputs at o (fs, states, rows, h) = body r first bits (fs ++ in_inputs states rows ∷ []) e h is
          (λ t i. named_inputs r first t (ap is_in_states at) (inputs_begin r first (fs ++ in_inputs states rows ∷ []) t h i))
          (λ n k. let i = row n k in input_row r first bits fs states rows n at h (record { number = n; row = reverse bits }) refl i.0
          (ap (λ (ws : List ℕ). slice_get ws n) (sym (ap (λ (s : Spot). widths_at shape s) at) ∙ sym (ap (λ (q : ShapeOf). widths_at q r.spot) same)) ∙ i.1))
      by spot.Whole at o h = cc
      by (spot.Refused k) at o h = cc
      by spot.Lost at o h = cc

-- where a line leads
abbrev pub Goes : ℕ → Spot → Type 0
Goes first s = (is_over s ≡ false) ⊎ (s ≡ spot.Whole) ⊎ (s ≡ spot.Refused first)

abbrev IsOpen : Spot → Type 0
IsOpen s = is_over s ≡ false

goes_frame : (r : ReadingOf) (first : ℕ) (s : Spot) (t : ℕ) → IsOpen s → Goes first (begins_frame r first s t).spot
goes_frame r first s t o = elim (cases_Bool (eqb t r.frames.count)) [ inl y ↦ rw y (inl o) | inr n ↦ rw n (inr (inr refl)) ]

goes_inputs : (r : ReadingOf) (first : ℕ) (t : ℕ) → Goes first (begins_inputs r first t).spot
goes_inputs r first t = elim (cases_Bool (is_in_states r.spot && eqb (t + 1) r.frames.count)) [ inl y ↦ rw y (inl refl) | inr n ↦ rw n (goes_frame r first spot.InInputs t refl) ]

goes_row : (r : ReadingOf) (first : ℕ) (bits : List Bool) (s : Spot) (n : ℕ) → r.spot ≡ s → IsOpen s → Goes first (assigns r first bits s n).spot
goes_row r first bits spot.Skipping n at o = inr (inr refl)
goes_row r first bits spot.Found n at o = inr (inr refl)
goes_row r first bits spot.Named n at o = inr (inr refl)
goes_row r first bits spot.InStates n at o = inl (ap is_over at)
goes_row r first bits spot.InInputs n at o = inl (ap is_over at)
goes_row r first bits spot.Whole n at o = cc
goes_row r first bits (spot.Refused k) n at o = cc
goes_row r first bits spot.Lost n at o = cc

goes_end : (r : ReadingOf) (first : ℕ) → Goes first (ends r first).spot
goes_end r first = elim (cases_Bool (eqb r.frames.count 0)) [ inl y ↦ rw y (inr (inr refl)) | inr n ↦ rw n (inr (inl refl)) ]

goes_body : (r : ReadingOf) (first : ℕ) (bits : List Bool) (e : Option Entry) → IsOpen r.spot → Goes first (goes_on r first bits e).spot
goes_body r first bits None o = inr (inr refl)
goes_body r first bits (Some entry.Sat) o = inr (inr refl)
goes_body r first bits (Some (entry.Bads k)) o = inr (inr refl)
goes_body r first bits (Some (entry.States t)) o = goes_frame r first spot.InStates t refl
goes_body r first bits (Some (entry.Inputs t)) o = goes_inputs r first t
goes_body r first bits (Some (entry.Assign n)) o = goes_row r first bits r.spot n refl o
goes_body r first bits (Some entry.End) o = goes_end r first

goes_skip : (r : ReadingOf) (first : ℕ) (e : Option Entry) → IsOpen r.spot → Goes first (skips r e).spot
goes_skip r first None o = inl o
goes_skip r first (Some entry.Sat) o = inl refl
goes_skip r first (Some (entry.Bads k)) o = inl o
goes_skip r first (Some (entry.States t)) o = inl o
goes_skip r first (Some (entry.Inputs t)) o = inl o
goes_skip r first (Some (entry.Assign n)) o = inl o
goes_skip r first (Some entry.End) o = inl o

goes_name : (r : ReadingOf) (first : ℕ) (e : Option Entry) → Goes first (names r first e).spot
goes_name r first None = inr (inr refl)
goes_name r first (Some entry.Sat) = inr (inr refl)
goes_name r first (Some (entry.Bads k)) = inl refl
goes_name r first (Some (entry.States t)) = inr (inr refl)
goes_name r first (Some (entry.Inputs t)) = inr (inr refl)
goes_name r first (Some (entry.Assign n)) = inr (inr refl)
goes_name r first (Some entry.End) = inr (inr refl)

goes_by : (r : ReadingOf) (first : ℕ) (bits : List Bool) (e : Option Entry) (s : Spot) → r.spot ≡ s → IsOpen s → Goes first (enters_by r first bits s e).spot
goes_by r first bits e spot.Skipping at o = goes_skip r first e (ap is_over at ∙ o)
goes_by r first bits e spot.Found at o = goes_name r first e
goes_by r first bits e spot.Named at o = goes_body r first bits e (ap is_over at ∙ o)
goes_by r first bits e spot.InStates at o = goes_body r first bits e (ap is_over at ∙ o)
goes_by r first bits e spot.InInputs at o = goes_body r first bits e (ap is_over at ∙ o)
goes_by r first bits e spot.Whole at o = cc
goes_by r first bits e (spot.Refused k) at o = cc
goes_by r first bits e spot.Lost at o = cc

pub goes : (r : ReadingOf) (first : ℕ) (line : List ℕ) → is_over r.spot ≡ false → Goes first (read_line r first line).spot
goes r first line o = let s = line_scan r.frames.shape r.spot line in goes_by r first s.bits (line_entry s.line) r.spot refl o

-- the shape stays
same_frame : (r : ReadingOf) (first : ℕ) (s : Spot) (t : ℕ) → (begins_frame r first s t).frames.shape ≡ r.frames.shape
same_frame r first s t = elim (cases_Bool (eqb t r.frames.count)) [ inl y ↦ rw y refl | inr n ↦ rw n refl ]

same_inputs : (r : ReadingOf) (first : ℕ) (t : ℕ) → (begins_inputs r first t).frames.shape ≡ r.frames.shape
same_inputs r first t = elim (cases_Bool (is_in_states r.spot && eqb (t + 1) r.frames.count)) [ inl y ↦ rw y refl | inr n ↦ rw n (same_frame r first spot.InInputs t) ]

same_row : (r : ReadingOf) (first : ℕ) (bits : List Bool) (s : Spot) (n : ℕ) → (assigns r first bits s n).frames.shape ≡ r.frames.shape
same_row r first bits spot.Skipping n = refl
same_row r first bits spot.Found n = refl
same_row r first bits spot.Named n = refl
same_row r first bits spot.InStates n = refl
same_row r first bits spot.InInputs n = refl
same_row r first bits spot.Whole n = refl
same_row r first bits (spot.Refused k) n = refl
same_row r first bits spot.Lost n = refl

same_body : (r : ReadingOf) (first : ℕ) (bits : List Bool) (e : Option Entry) → (goes_on r first bits e).frames.shape ≡ r.frames.shape
same_body r first bits None = refl
same_body r first bits (Some entry.Sat) = refl
same_body r first bits (Some (entry.Bads k)) = refl
same_body r first bits (Some (entry.States t)) = same_frame r first spot.InStates t
same_body r first bits (Some (entry.Inputs t)) = same_inputs r first t
same_body r first bits (Some (entry.Assign n)) = same_row r first bits r.spot n
same_body r first bits (Some entry.End) = refl

same_skip : (r : ReadingOf) (e : Option Entry) → (skips r e).frames.shape ≡ r.frames.shape
same_skip r None = refl
same_skip r (Some entry.Sat) = refl
same_skip r (Some (entry.Bads k)) = refl
same_skip r (Some (entry.States t)) = refl
same_skip r (Some (entry.Inputs t)) = refl
same_skip r (Some (entry.Assign n)) = refl
same_skip r (Some entry.End) = refl

same_name : (r : ReadingOf) (first : ℕ) (e : Option Entry) → (names r first e).frames.shape ≡ r.frames.shape
same_name r first None = refl
same_name r first (Some entry.Sat) = refl
same_name r first (Some (entry.Bads k)) = refl
same_name r first (Some (entry.States t)) = refl
same_name r first (Some (entry.Inputs t)) = refl
same_name r first (Some (entry.Assign n)) = refl
same_name r first (Some entry.End) = refl

pub same_shape : (r : ReadingOf) (first : ℕ) (bits : List Bool) (s : Spot) (e : Option Entry) → (enters_by r first bits s e).frames.shape ≡ r.frames.shape
same_shape r first bits spot.Skipping e = same_skip r e
same_shape r first bits spot.Found e = same_name r first e
same_shape r first bits spot.Named e = same_body r first bits e
same_shape r first bits spot.InStates e = same_body r first bits e
same_shape r first bits spot.InInputs e = same_body r first bits e
same_shape r first bits spot.Whole e = refl
same_shape r first bits (spot.Refused k) e = refl
same_shape r first bits spot.Lost e = refl
