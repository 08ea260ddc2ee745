-- What is read of bytes is what is seen in them.
use Rattle.std.proofs.Common.{◌≡◌, ◌⊎◌, ℕ, ◌+◌, ◌<◌, Bool, true, false, cond, eqb, ◌&&◌, List, [], ◌∷◌, ◌++◌, length, Option, Some, None, refl, ap, sym, ◌∙◌, subst, inl, inr, arith}
use Rattle.std.specs.Prelude.{fold}
use Rattle.std.specs.List.{AllByRecursion}
use Rattle.std.proofs.lemmas.Bool.{cases_Bool}
use Rattle.std.proofs.lemmas.Bool.Decides.{nat_tests}
use Rattle.std.proofs.lemmas.List.{length-append, append_assoc, append-nil}
use Rattle.btor_witness.specs.Shape.{ShapeOf}
use Rattle.btor_witness.specs.Grammar.{Begins, IsLine, IsNoSat, IsWitness, SatLine, WitnessOf}
use Rattle.btor_witness.specs.Streams.{EndsWith, HasSat, Holds, IsBadAt, IsCut, IsFate, IsSeen, NoFeed, text_of}
use Rattle.btor_witness.specs.Found.{IsKept}
use Rattle.btor_witness.specs.Machine.{FramesOf, ReadingOf, ScanOf, StandsFor, WitnessesOf, after, assigns, begins_frame, begins_inputs, ended, ended_by, ends, enters_by, fresh, goes_on, is_end, is_in_states, is_over, is_sat, line_entry, line_left, names, no_reading, no_scan, seen_by, skips, so_far, turn, widths_at}
use Rattle.btor_witness.specs.declared.line.Entry.{Entry}
use Rattle.btor_witness.specs.declared.line.Entry.TheVariants as entry
use Rattle.btor_witness.specs.declared.spot.Spot.{Spot}
use Rattle.btor_witness.specs.declared.spot.Spot.TheVariants as spot
use Rattle.btor_witness.specs.declared.spot.Seen.{Seen}
use Rattle.btor_witness.specs.declared.spot.Seen.TheVariants as seen
use Rattle.btor_witness.proofs.Kept.{kept}
use Rattle.btor_witness.proofs.Lines.{said_all, said_by, said_is, scans}
use Rattle.btor_witness.proofs.Runs.{After, Goes, Stands, StandsBy, goes, in_inputs, in_states, line_scan, read_line, said_entry, same_shape, step}
use Rattle.btor_witness.proofs.Forth.{Ends, kept_nil, reads, witness_reads}
use Rattle.btor_witness.proofs.Bytes.{Cut, after_in_line, after_over, at_line, cut_of, in_line, line_feed, lines_begin, open_comes, over_comes, reads_append, reads_over, text_append}
use Rattle.btor_witness.proofs.Closing.{begins}
use Rattle.btor_witness.proofs.Cutting.{after_append}

-- lists
all_split : {A : Type 0} (P : A → Type 0) (xs ys : List A) → AllByRecursion P (xs ++ ys) → AllByRecursion P xs × AllByRecursion P ys
all_split P [] ys h = (tt, h)
all_split P (x ∷ xs) ys (g, h) = let again = all_split P xs ys h in ((g, again.0), again.1)

all_join : {A : Type 0} (P : A → Type 0) (xs ys : List A) → AllByRecursion P xs → AllByRecursion P ys → AllByRecursion P (xs ++ ys)
all_join P [] ys h i = i
all_join P (x ∷ xs) ys (g, h) i = (g, all_join P xs ys h i)

-- a line more in front of bytes
text_line : (lines : List (List ℕ)) (line rest : List ℕ) → text_of (lines ++ line ∷ []) ++ rest ≡ text_of lines ++ (line ++ 10 ∷ rest)
text_line lines line rest =
    ap (λ (x : List ℕ). x ++ rest) (text_append lines (line ∷ []))
    ∙ append_assoc (text_of lines) (line ++ 10 ∷ []) rest
    ∙ ap (λ (x : List ℕ). text_of lines ++ x) (append_assoc line (10 ∷ []) rest)

module _ (shape : ShapeOf) (most : ℕ) where
  abbrev start : ReadingOf
  start = no_reading shape most

  -- how lines are read: on to the last, or up to where the reading is over
  record StaysOpen (front : List (List ℕ)) (r : ReadingOf) (n : ℕ) (lines : List (List ℕ)) : Type 0 where
    open_at : is_over (reads r n lines).spot ≡ false
    stands : Stands shape most (front ++ lines) (reads r n lines)
    same : (reads r n lines).frames.shape ≡ shape

  record IsOver (front : List (List ℕ)) (r : ReadingOf) (n : ℕ) (lines : List (List ℕ)) : Type 0 where
    a : List (List ℕ)
    line : List ℕ
    b : List (List ℕ)
    are : lines ≡ a ++ line ∷ b
    before : StaysOpen front r n a
    at : ℕ
    place : at ≡ n + length (text_of a)
    over : is_over (read_line (reads r n a) at line).spot ≡ true
    stands : Stands shape most (front ++ a ++ line ∷ []) (read_line (reads r n a) at line)
    is : reads r n lines ≡ read_line (reads r n a) at line

  abbrev Walk : List (List ℕ) → ReadingOf → ℕ → List (List ℕ) → Type 0
  Walk front r n lines = StaysOpen front r n lines ⊎ IsOver front r n lines

  walk : (front : List (List ℕ)) (r : ReadingOf) (n : ℕ) (lines : List (List ℕ)) → is_over r.spot ≡ false → r.frames.shape ≡ shape → Stands shape most front r → Walk front r n lines
  walk front r n [] o e h = inl (record { open_at = o; stands = subst (λ (l : List (List ℕ)). Stands shape most l r) (sym (append-nil front)) h; same = e })
  walk front r n (line ∷ lines) o e h =
      by (cases_Bool (is_over (read_line r n line).spot)) (λ f. walk (front ++ line ∷ []) (read_line r n line) (n + length line + 1) lines f
      (same_shape r n (line_scan r.frames.shape r.spot line).bits r.spot (line_entry (line_scan r.frames.shape r.spot line).line) ∙ e) (step shape most front line r n r.spot refl o e h))
    where
      q : ReadingOf
      q = read_line r n line

      m : ℕ
      m = n + length line + 1

      next : Stands shape most (front ++ line ∷ []) q
      next = step shape most front line r n r.spot refl o e h

      now : StaysOpen front r n []
      now = record { open_at = o; stands = subst (λ (l : List (List ℕ)). Stands shape most l r) (sym (append-nil front)) h; same = e }

      first : is_over q.spot ≡ true → IsOver front r n (line ∷ lines)
      first t = record {
        a = [];
        line = line;
        b = lines;
        are = refl;
        before = now;
        at = n;
        place = omega arith;
        over = t;
        stands = subst (λ (l : List (List ℕ)). Stands shape most (l ++ line ∷ []) q) (sym (append-nil front)) next;
        is = reads_over q m lines t;
      }

      longer : (a : List (List ℕ)) → StaysOpen (front ++ line ∷ []) q m a → StaysOpen front r n (line ∷ a)
      longer a w = record { open_at = w.open_at; stands = subst (λ (l : List (List ℕ)). Stands shape most l (reads q m a)) (append_assoc front (line ∷ []) a) w.stands; same = w.same }

      later : IsOver (front ++ line ∷ []) q m lines → IsOver front r n (line ∷ lines)
      later w = record {
        a = line ∷ w.a;
        line = w.line;
        b = w.b;
        are = ap (λ (l : List (List ℕ)). line ∷ l) w.are;
        before = longer w.a w.before;
        at = w.at;
        place = let l = length-append line (10 ∷ text_of w.a) in let p = w.place in omega arith;
        over = w.over;
        stands = subst (λ (l : List (List ℕ)). Stands shape most (l ++ w.line ∷ []) (read_line (reads q m w.a) w.at w.line)) (append_assoc front (line ∷ []) w.a) w.stands;
        is = w.is;
      }

      on : Walk (front ++ line ∷ []) q m lines → Walk front r n (line ∷ lines)
      on (inl w) = inl (longer lines w)
      on (inr w) = inr (later w)

      by : (is_over q.spot ≡ true) ⊎ (is_over q.spot ≡ false) → (is_over q.spot ≡ false → Walk (front ++ line ∷ []) q m lines) → Walk front r n (line ∷ lines)
      by (inl t) again = inr (first t)
      by (inr f) again = on (again f)

  walked : (lines : List (List ℕ)) → Walk [] start 0 lines
  walked lines = walk [] start 0 lines refl refl (tt, kept_nil shape most)

  -- a whole witness is found
  pub holds_reads : (bytes : List ℕ) (x : WitnessOf) → Holds shape bytes x → Ends shape most x (after (fresh shape most) bytes).reading
  holds_reads bytes x (lines, rest, cut, h) =
      let e = witness_reads shape most lines x h in
      let o = ap is_over e.0 in
      let r = over_comes start 0 lines rest cut.no_feed refl o in
      subst (Ends shape most x) (sym (ap (λ (b : List ℕ). (after (fresh shape most) b).reading) cut.are ∙ r)) e

  whole_line : (a : List (List ℕ)) (line : List ℕ) (b : List (List ℕ)) (bytes rest : List ℕ) → AllByRecursion NoFeed (a ++ line ∷ b) → bytes ≡ text_of (a ++ line ∷ b) ++ rest → IsCut bytes (a ++ line ∷ []) (text_of b ++ rest)
  whole_line a line b bytes rest h e = record {
    are =
        e
        ∙ ap (λ (x : List ℕ). x ++ rest) (text_append a (line ∷ b) ∙ sym (text_line a line (text_of b)))
        ∙ append_assoc (text_of (a ++ line ∷ [])) (text_of b) rest;
    no_feed = let s = all_split NoFeed a (line ∷ b) h in all_join NoFeed a (line ∷ []) s.0 (s.1.0, tt);
  }

  -- a reading that is over, where lines lead to it
  module _ (lines : List (List ℕ)) (w : IsOver [] start 0 lines) where
    abbrev q : ReadingOf
    q = reads start 0 w.a

    abbrev to : ReadingOf
    to = read_line q w.at w.line

    leads : Goes w.at to.spot
    leads = goes q w.at w.line w.before.open_at

    witness : to.spot ≡ spot.Whole → (x : WitnessOf) × IsWitness shape (w.a ++ w.line ∷ []) x
    witness e = subst (λ (s : Spot). StandsBy shape most (w.a ++ w.line ∷ []) s to) e w.stands

  -- a line with which no witness goes on is found
  pub bad_reads : (bytes : List ℕ) (n : ℕ) → IsBadAt shape bytes n → (after (fresh shape most) bytes).reading.spot ≡ spot.Refused n
  bad_reads bytes n h = by (walked h.lines)
    where
      whole : (reads start 0 (h.lines ++ h.begins.0)).spot ≡ spot.Whole
      whole = (witness_reads shape most (h.lines ++ h.begins.0) h.begins.1 h.begins.2).0

      nowhere : IsOver [] start 0 h.lines → ⊥
      nowhere w = h.none x (w.a ++ w.line ∷ [], text_of w.b ++ [], whole_line w.a w.line w.b (text_of h.lines) [] (subst (AllByRecursion NoFeed) w.are h.cut.no_feed) (ap text_of w.are ∙ sym (append-nil (text_of (w.a ++ w.line ∷ w.b)))), (witness h.lines w is_whole).1)
        where
          same : reads start 0 (h.lines ++ h.begins.0) ≡ read_line (reads start 0 w.a) w.at w.line
          same =
              reads_append start 0 h.lines h.begins.0
              ∙ ap (λ (r : ReadingOf). reads r (0 + length (text_of h.lines)) h.begins.0) w.is
              ∙ reads_over (read_line (reads start 0 w.a) w.at w.line) (0 + length (text_of h.lines)) h.begins.0 w.over

          is_whole : (read_line (reads start 0 w.a) w.at w.line).spot ≡ spot.Whole
          is_whole = sym (ap (λ (r : ReadingOf). r.spot) same) ∙ whole

          x : WitnessOf
          x = (witness h.lines w is_whole).0

      by : Walk [] start 0 h.lines → (after (fresh shape most) bytes).reading.spot ≡ spot.Refused n
      by (inr w) = absurd (nowhere w)
      by (inl w) = there (goes q m h.line w.open_at)
        where
          q : ReadingOf
          q = reads start 0 h.lines

          m : ℕ
          m = 0 + length (text_of h.lines)

          to : ReadingOf
          to = read_line q m h.line

          next : Stands shape most (h.lines ++ h.line ∷ []) to
          next = step shape most h.lines h.line q m q.spot refl w.open_at w.same w.stands

          leads : reads start 0 (h.lines ++ h.line ∷ []) ≡ to
          leads = reads_append start 0 h.lines (h.line ∷ [])

          bytes_are : bytes ≡ text_of (h.lines ++ h.line ∷ []) ++ h.rest
          bytes_are = h.cut.are ∙ sym (text_line h.lines h.line h.rest)

          refused : to.spot ≡ spot.Refused m → (after (fresh shape most) bytes).reading.spot ≡ spot.Refused n
          refused e =
              let o : is_over (reads start 0 (h.lines ++ h.line ∷ [])).spot ≡ true = ap (λ (r : ReadingOf). is_over r.spot) leads ∙ ap is_over e in
              let r = over_comes start 0 (h.lines ++ h.line ∷ []) h.rest (all_join NoFeed h.lines (h.line ∷ []) h.cut.no_feed (h.no_feed, tt)) refl o in
              let place : m ≡ n = let p = h.place in omega arith in
              ap (λ (b : List ℕ). (after (fresh shape most) b).reading.spot) bytes_are ∙ ap (λ (r : ReadingOf). r.spot) (r ∙ leads) ∙ e ∙ ap spot.Refused place

          there : Goes m to.spot → (after (fresh shape most) bytes).reading.spot ≡ spot.Refused n
          there (inl o) = absurd (h.past (begins shape most (h.lines ++ h.line ∷ []) to.spot to o next))
          there (inr (inl e)) =
              let x = subst (λ (s : Spot). StandsBy shape most (h.lines ++ h.line ∷ []) s to) e next in
              absurd (h.past ([], x.0, subst (λ (l : List (List ℕ)). IsWitness shape l x.0) (sym (append-nil (h.lines ++ h.line ∷ []))) x.1))
          there (inr (inr e)) = refused e

  -- where the reading is over, the bytes are so
  module _ (bytes : List ℕ) (c : Cut bytes) (w : IsOver [] start 0 c.lines) where
    abbrev oq : ReadingOf
    oq = reads start 0 w.a

    abbrev oto : ReadingOf
    oto = read_line oq w.at w.line

    reading_over : (after (fresh shape most) bytes).reading ≡ oto
    reading_over =
        let o : is_over (reads start 0 c.lines).spot ≡ true = ap (λ (r : ReadingOf). is_over r.spot) w.is ∙ w.over in
        ap (λ (b : List ℕ). (after (fresh shape most) b).reading) c.cut.are ∙ over_comes start 0 c.lines c.last c.cut.no_feed refl o ∙ w.is

    cut_over : IsCut bytes (w.a ++ w.line ∷ []) (text_of w.b ++ c.last)
    cut_over = whole_line w.a w.line w.b bytes c.last (subst (AllByRecursion NoFeed) w.are c.cut.no_feed) (c.cut.are ∙ ap (λ (l : List (List ℕ)). text_of l ++ c.last) w.are)

    holds_over : oto.spot ≡ spot.Whole → (x : WitnessOf) × Holds shape bytes x
    holds_over e = let x = witness c.lines w e in (x.0, (w.a ++ w.line ∷ [], text_of w.b ++ c.last, cut_over, x.1))

    feeds : AllByRecursion NoFeed w.a × NoFeed w.line
    feeds = let s = all_split NoFeed w.a (w.line ∷ []) cut_over.no_feed in (s.0, s.1.0)

    none_before : (x : WitnessOf) → Holds shape (text_of w.a) x → ⊥
    none_before x h =
        let e = (holds_reads (text_of w.a) x h).0 in
        let o = open_comes start 0 w.a [] feeds.0 refl w.before.open_at in
        let same : (after (fresh shape most) (text_of w.a)).reading ≡ oq = ap (λ (b : List ℕ). (after (fresh shape most) b).reading) (sym (append-nil (text_of w.a))) ∙ ap (λ (v : WitnessesOf). v.reading) o in
        let k : true ≡ false = sym (ap is_over e) ∙ ap (λ (r : ReadingOf). is_over r.spot) same ∙ w.before.open_at in
        cc

    past_over : oto.spot ≡ spot.Refused w.at → Begins shape (w.a ++ w.line ∷ []) → ⊥
    past_over e (more, x, h) =
        let whole = (witness_reads shape most (w.a ++ w.line ∷ [] ++ more) x h).0 in
        let place : 0 + length (text_of w.a) ≡ w.at = let p = w.place in omega arith in
        let one : reads start 0 (w.a ++ w.line ∷ []) ≡ oto = reads_append start 0 w.a (w.line ∷ []) ∙ ap (λ (k : ℕ). read_line oq k w.line) place in
        let all : reads start 0 (w.a ++ w.line ∷ [] ++ more) ≡ oto =
        reads_append start 0 (w.a ++ w.line ∷ []) more ∙ ap (λ (r : ReadingOf). reads r (0 + length (text_of (w.a ++ w.line ∷ []))) more) one ∙ reads_over oto (0 + length (text_of (w.a ++ w.line ∷ []))) more w.over in
        let k : spot.Whole ≡ spot.Refused w.at = sym whole ∙ ap (λ (r : ReadingOf). r.spot) all ∙ e in
        cc

    bad_over : oto.spot ≡ spot.Refused w.at → IsBadAt shape bytes w.at
    bad_over e = record {
      lines = w.a;
      line = w.line;
      rest = text_of w.b ++ c.last;
      cut = record { are = cut_over.are ∙ text_line w.a w.line (text_of w.b ++ c.last); no_feed = feeds.0 };
      no_feed = feeds.1;
      place = w.place ∙ omega arith;
      begins = begins shape most w.a oq.spot oq w.before.open_at w.before.stands;
      none = none_before;
      past = past_over e;
    }

  -- where it is open
  module _ (bytes : List ℕ) (c : Cut bytes) (w : StaysOpen [] start 0 c.lines) where
    abbrev pq : ReadingOf
    pq = reads start 0 c.lines

    abbrev pm : ℕ
    pm = 0 + length (text_of c.lines)

    abbrev ps : ScanOf
    ps = fold (scans (widths_at pq.frames.shape pq.spot)) no_scan c.last

    state_open : after (fresh shape most) bytes ≡ in_line pq ps pm (pm + length c.last)
    state_open = ap (after (fresh shape most)) c.cut.are ∙ open_comes start 0 c.lines c.last c.cut.no_feed refl w.open_at ∙ after_in_line pq no_scan pm pm c.last w.open_at c.no_feed

    spot_open : is_over (after (fresh shape most) bytes).reading.spot ≡ false
    spot_open = ap (λ (v : WitnessesOf). is_over v.reading.spot) state_open ∙ w.open_at

  open_more : (bytes : List ℕ) → is_over (after (fresh shape most) bytes).reading.spot ≡ false → ((x : WitnessOf) → Holds shape bytes x → ⊥) × ((n : ℕ) → IsBadAt shape bytes n → ⊥)
  open_more bytes o = (
    (λ x h. let e = (holds_reads bytes x h).0 in let k : true ≡ false = sym (ap is_over e) ∙ o in cc),
    (λ n h. let e = bad_reads bytes n h in let k : true ≡ false = sym (ap is_over e) ∙ o in cc),
  )

  open_seen : (s : Spot) → is_over s ≡ false → seen_by s ≡ seen.More
  open_seen spot.Skipping o = refl
  open_seen spot.Found o = refl
  open_seen spot.Named o = refl
  open_seen spot.InStates o = refl
  open_seen spot.InInputs o = refl
  open_seen spot.Whole o = cc
  open_seen (spot.Refused k) o = cc
  open_seen spot.Lost o = cc

  pub seen_is : (bytes : List ℕ) → IsSeen shape bytes (so_far (after (fresh shape most) bytes))
  seen_is bytes = by (cut_of bytes)
    where
      over : (c : Cut bytes) (w : IsOver [] start 0 c.lines) → Goes w.at (oto bytes c w).spot → IsSeen shape bytes (so_far (after (fresh shape most) bytes))
      over c w (inl o) = let k : true ≡ false = sym w.over ∙ o in cc
      over c w (inr (inl e)) = subst (λ (s : Spot). IsSeen shape bytes (seen_by s)) (sym (ap (λ (r : ReadingOf). r.spot) (reading_over bytes c w) ∙ e)) (holds_over bytes c w e)
      over c w (inr (inr e)) = subst (λ (s : Spot). IsSeen shape bytes (seen_by s)) (sym (ap (λ (r : ReadingOf). r.spot) (reading_over bytes c w) ∙ e)) (bad_over bytes c w e)

      of : (c : Cut bytes) → Walk [] start 0 c.lines → IsSeen shape bytes (so_far (after (fresh shape most) bytes))
      of c (inl w) = let o = spot_open bytes c w in subst (IsSeen shape bytes) (sym (open_seen (after (fresh shape most) bytes).reading.spot o)) (open_more bytes o)
      of c (inr w) = over c w (leads c.lines w)

      by : Cut bytes → IsSeen shape bytes (so_far (after (fresh shape most) bytes))
      by c = of c (walked c.lines)

  -- the clause of a call that takes a piece
  pub piece_seen : (w : WitnessesOf) (bytes piece : List ℕ) (to : WitnessesOf) (s : Seen) → StandsFor shape most w bytes → to ≡ after w piece → s ≡ so_far to → IsSeen shape (bytes ++ piece) s
  piece_seen w bytes piece to s h e f =
      let same : to ≡ after (fresh shape most) (bytes ++ piece) = e ∙ ap (λ (v : WitnessesOf). after v piece) h ∙ sym (after_append (fresh shape most) bytes piece) in
      subst (IsSeen shape (bytes ++ piece)) (sym (f ∙ ap so_far same)) (seen_is (bytes ++ piece))

  -- where a line makes the reading whole, it is `.`
  frame_not : (r : ReadingOf) (first : ℕ) (s : Spot) (t : ℕ) → is_over s ≡ false → (begins_frame r first s t).spot ≡ spot.Whole → ⊥
  frame_not r first s t o e = by (cases_Bool (eqb t r.frames.count)) e
    where
      by : (eqb t r.frames.count ≡ true) ⊎ (eqb t r.frames.count ≡ false) → (begins_frame r first s t).spot ≡ spot.Whole → ⊥
      by (inl y) e = let k : s ≡ spot.Whole = rw y at e in let f : false ≡ true = sym o ∙ ap is_over k in cc
      by (inr n) e = let k : spot.Refused first ≡ spot.Whole = rw n at e in cc

  inputs_not : (r : ReadingOf) (first : ℕ) (t : ℕ) → (begins_inputs r first t).spot ≡ spot.Whole → ⊥
  inputs_not r first t e = by (cases_Bool (is_in_states r.spot && eqb (t + 1) r.frames.count)) e
    where
      by : ((is_in_states r.spot && eqb (t + 1) r.frames.count) ≡ true) ⊎ ((is_in_states r.spot && eqb (t + 1) r.frames.count) ≡ false) → (begins_inputs r first t).spot ≡ spot.Whole → ⊥
      by (inl y) e = let k : spot.InInputs ≡ spot.Whole = rw y at e in cc
      by (inr n) e = let k : (begins_frame r first spot.InInputs t).spot ≡ spot.Whole = rw n at e in frame_not r first spot.InInputs t refl k

  row_not : (r : ReadingOf) (first : ℕ) (bits : List Bool) (s : Spot) (n : ℕ) → r.spot ≡ s → is_over s ≡ false → (assigns r first bits s n).spot ≡ spot.Whole → ⊥
  row_not r first bits spot.Skipping n at o e = cc
  row_not r first bits spot.Found n at o e = cc
  row_not r first bits spot.Named n at o e = cc
  row_not r first bits spot.InStates n at o e = let k = sym at ∙ e in cc
  row_not r first bits spot.InInputs n at o e = let k = sym at ∙ e in cc
  row_not r first bits spot.Whole n at o e = cc
  row_not r first bits (spot.Refused k) n at o e = cc
  row_not r first bits spot.Lost n at o e = cc

  body_end : (r : ReadingOf) (first : ℕ) (bits : List Bool) (e : Option Entry) → is_over r.spot ≡ false → (goes_on r first bits e).spot ≡ spot.Whole → e ≡ Some entry.End
  body_end r first bits None o h = cc
  body_end r first bits (Some entry.Sat) o h = cc
  body_end r first bits (Some (entry.Bads k)) o h = cc
  body_end r first bits (Some (entry.States t)) o h = absurd (frame_not r first spot.InStates t refl h)
  body_end r first bits (Some (entry.Inputs t)) o h = absurd (inputs_not r first t h)
  body_end r first bits (Some (entry.Assign n)) o h = absurd (row_not r first bits r.spot n refl o h)
  body_end r first bits (Some entry.End) o h = refl

  skip_not : (r : ReadingOf) (e : Option Entry) → r.spot ≡ spot.Skipping → (skips r e).spot ≡ spot.Whole → ⊥
  skip_not r None at h = let k = sym at ∙ h in cc
  skip_not r (Some entry.Sat) at h = cc
  skip_not r (Some (entry.Bads k)) at h = let k = sym at ∙ h in cc
  skip_not r (Some (entry.States t)) at h = let k = sym at ∙ h in cc
  skip_not r (Some (entry.Inputs t)) at h = let k = sym at ∙ h in cc
  skip_not r (Some (entry.Assign n)) at h = let k = sym at ∙ h in cc
  skip_not r (Some entry.End) at h = let k = sym at ∙ h in cc

  name_not : (r : ReadingOf) (first : ℕ) (e : Option Entry) → (names r first e).spot ≡ spot.Whole → ⊥
  name_not r first None h = cc
  name_not r first (Some entry.Sat) h = cc
  name_not r first (Some (entry.Bads k)) h = cc
  name_not r first (Some (entry.States t)) h = cc
  name_not r first (Some (entry.Inputs t)) h = cc
  name_not r first (Some (entry.Assign n)) h = cc
  name_not r first (Some entry.End) h = cc

  end_true : (o : Option Entry) → o ≡ Some entry.End → is_end o ≡ true
  end_true o e = ap is_end e

  sat_is : (o : Option Entry) → is_sat o ≡ true → o ≡ Some entry.Sat
  sat_is None h = cc
  sat_is (Some entry.Sat) h = refl
  sat_is (Some (entry.Bads k)) h = cc
  sat_is (Some (entry.States t)) h = cc
  sat_is (Some (entry.Inputs t)) h = cc
  sat_is (Some (entry.Assign n)) h = cc
  sat_is (Some entry.End) h = cc

  end_is : (o : Option Entry) → is_end o ≡ true → o ≡ Some entry.End
  end_is None h = cc
  end_is (Some entry.Sat) h = cc
  end_is (Some (entry.Bads k)) h = cc
  end_is (Some (entry.States t)) h = cc
  end_is (Some (entry.Inputs t)) h = cc
  end_is (Some (entry.Assign n)) h = cc
  end_is (Some entry.End) h = refl

  -- the end of a stream is as a line feed
  pub ends_reads : (bytes : List ℕ) (x : WitnessOf) → EndsWith shape bytes x → Ends shape most x (turn (after (fresh shape most) bytes) 10).reading
  ends_reads bytes x (lines, last, cut, nf, h) =
      subst (λ (v : WitnessesOf). Ends shape most x v.reading) (after_append (fresh shape most) bytes (10 ∷ []))
      (holds_reads (bytes ++ 10 ∷ []) x (
        lines ++ last ∷ [],
        [],
        record {
          are = ap (λ (b : List ℕ). b ++ 10 ∷ []) cut.are ∙ append_assoc (text_of lines) last (10 ∷ []) ∙ sym (text_line lines last []);
          no_feed = all_join NoFeed lines (last ∷ []) cut.no_feed (nf, tt);
        },
        h,
      ))

  -- a line `sat` among lines
  sat_among : (bytes : List ℕ) (lines : List (List ℕ)) (rest : List ℕ) (skipped : List (List ℕ)) (first : List ℕ) (more : List (List ℕ)) → IsCut bytes lines rest → lines ≡ skipped ++ first ∷ more → IsLine first SatLine → HasSat bytes
  sat_among bytes lines rest skipped first more cut e h =
      let f = all_split NoFeed skipped (first ∷ more) (subst (AllByRecursion NoFeed) e cut.no_feed) in
      record {
        lines = skipped;
        line = first;
        rest = 10 ∷ (text_of more ++ rest);
        cut = record {
          are =
              cut.are
              ∙ ap (λ (l : List (List ℕ)). text_of l ++ rest) e
              ∙ ap (λ (x : List ℕ). x ++ rest) (text_append skipped (first ∷ more))
              ∙ append_assoc (text_of skipped) (first ++ 10 ∷ text_of more) rest
              ∙ ap (λ (x : List ℕ). text_of skipped ++ x) (append_assoc first (10 ∷ text_of more) rest);
          no_feed = f.0;
        };
        no_feed = f.1.0;
        ends = inr (text_of more ++ rest, refl);
        sat = h;
      }

  module _ (bytes : List ℕ) (c : Cut bytes) (w : StaysOpen [] start 0 c.lines) where
    abbrev r : ReadingOf
    r = reads start 0 c.lines

    abbrev m : ℕ
    m = 0 + length (text_of c.lines)

    abbrev s : ScanOf
    s = fold (scans (widths_at r.frames.shape r.spot)) no_scan c.last

    abbrev e : Option Entry
    e = line_entry (line_left s.line)

    state : after (fresh shape most) bytes ≡ in_line r s m (m + length c.last)
    state = state_open bytes c w

    count : m + length c.last ≡ length bytes
    count = let l = length-append (text_of c.lines) c.last in let b = ap (λ (x : List ℕ). length x) c.cut.are in omega arith

    fed : turn (after (fresh shape most) bytes) 10 ≡ at_line (read_line r m c.last) (m + length c.last + 1)
    fed = ap (λ (v : WitnessesOf). turn v 10) state ∙ line_feed r m (m + length c.last) c.last w.open_at

    no_holds : ((x : WitnessOf) → Holds shape bytes x → ⊥) × ((n : ℕ) → IsBadAt shape bytes n → ⊥)
    no_holds = open_more bytes (spot_open bytes c w)

    -- none ends with the bytes where the last line makes none whole
    no_ends : ((read_line r m c.last).spot ≡ spot.Whole → ⊥) → (x : WitnessOf) → (Holds shape bytes x ⊎ EndsWith shape bytes x) → ⊥
    no_ends f x (inl h) = no_holds.0 x h
    no_ends f x (inr h) = f (sym (ap (λ (v : WitnessesOf). v.reading.spot) fed) ∙ (ends_reads bytes x h).0)

    early : HasSat bytes → ((read_line r m c.last).spot ≡ spot.Whole → ⊥) → IsFate shape bytes (seen.EarlyEnd (m + length c.last))
    early h f = (count, h, no_ends f, no_holds.1)

    after_sat : (ks : _) → After c.lines ks → HasSat bytes
    after_sat ks a = sat_among bytes c.lines c.last a.skipped a.first a.rest c.cut a.are a.sat

    no_sat : AllByRecursion IsNoSat c.lines → is_sat e ≡ false → HasSat bytes → ⊥
    no_sat all f h = no_line (last_no f) h
      where
        last_no : is_sat e ≡ false → IsNoSat c.last
        last_no f i =
            let is = (said_entry e s.bits SatLine (said_all (widths_at r.frames.shape r.spot) c.last SatLine i tt)).0 in
            let k : true ≡ false = sym (ap is_sat is) ∙ f in
            cc

        line_no : (h : HasSat bytes) (rest : List ℕ) → h.rest ++ 10 ∷ [] ≡ 10 ∷ rest → IsNoSat c.last → ⊥
        line_no h rest k non =
            let texts : text_of (c.lines ++ c.last ∷ []) ++ [] ≡ text_of (h.lines ++ h.line ∷ []) ++ rest =
            text_line c.lines c.last [] ∙ sym (append_assoc (text_of c.lines) c.last (10 ∷ [])) ∙ ap (λ (b : List ℕ). b ++ 10 ∷ []) (sym c.cut.are ∙ h.cut.are)
            ∙ append_assoc (text_of h.lines) (h.line ++ h.rest) (10 ∷ []) ∙ ap (λ (b : List ℕ). text_of h.lines ++ b) (append_assoc h.line h.rest (10 ∷ []) ∙ ap (λ (b : List ℕ). h.line ++ b) k)
            ∙ sym (text_line h.lines h.line rest) in
            let begin = lines_begin (c.lines ++ c.last ∷ []) (h.lines ++ h.line ∷ []) [] rest (all_join NoFeed c.lines (c.last ∷ []) c.cut.no_feed (c.no_feed, tt))
            (all_join NoFeed h.lines (h.line ∷ []) h.cut.no_feed (h.no_feed, tt)) tt texts in
            let none = subst (AllByRecursion IsNoSat) begin.1 (all_join IsNoSat c.lines (c.last ∷ []) all (non, tt)) in
            let front = (all_split IsNoSat (h.lines ++ h.line ∷ []) begin.0 none).0 in
            (all_split IsNoSat h.lines (h.line ∷ []) front).1.0 h.sat

        no_line : IsNoSat c.last → HasSat bytes → ⊥
        no_line non h = by h.ends
          where
            by : (h.rest ≡ []) ⊎ ((more : List ℕ) × (h.rest ≡ 10 ∷ more)) → ⊥
            by (inl is) = line_no h [] (ap (λ (b : List ℕ). b ++ 10 ∷ []) is) non
            by (inr (more, is)) = line_no h (more ++ 10 ∷ []) (ap (λ (b : List ℕ). b ++ 10 ∷ []) is) non

    skipping : r.spot ≡ spot.Skipping → StandsBy shape most c.lines spot.Skipping r → IsFate shape bytes (ended_by (m + length c.last) spot.Skipping e)
    skipping at h = elim (cases_Bool (is_sat e)) [
      | inr f ↦ rw f (no_sat h.0 f)
      | inl t ↦
          let is = said_is (widths_at r.frames.shape r.spot) c.last SatLine (ap (λ (o : Option Entry). said_by o s.bits) (sat_is e t)) in
          rw t (early (record { lines = c.lines; line = c.last; rest = []; cut = record { are = c.cut.are ∙ ap (λ (b : List ℕ). text_of c.lines ++ b) (sym (append-nil c.last)); no_feed = c.cut.no_feed }; no_feed = c.no_feed; ends = inl refl; sat = is.0 })
          (λ k. skip_not r e at (ap (λ (s : Spot). (enters_by r m (line_scan r.frames.shape r.spot c.last).bits s e).spot) (sym at) ∙ k)))
    ]

    found : r.spot ≡ spot.Found → StandsBy shape most c.lines spot.Found r → IsFate shape bytes (seen.EarlyEnd (m + length c.last))
    found at h = early (after_sat [] h.0) (λ k. name_not r m e (ap (λ (s : Spot). (enters_by r m (line_scan r.frames.shape r.spot c.last).bits s e).spot) (sym at) ∙ k))

    -- with frames, the stream is whole where its last line is `.`
    body_fate : (o : Spot) → r.spot ≡ o → ((s : Spot) → s ≡ o → enters_by r m (line_scan r.frames.shape r.spot c.last).bits s e ≡ goes_on r m (line_scan r.frames.shape r.spot c.last).bits e) → HasSat bytes → 0 < r.frames.count
        → IsFate shape bytes (cond (is_end e) seen.Whole (seen.EarlyEnd (m + length c.last)))
    body_fate o at goes h some = elim (cases_Bool (is_end e)) [
      | inr f ↦ rw f (early h (λ k. let is = body_end r m bits e w.open_at (sym (ap (λ (q : ReadingOf). q.spot) (goes r.spot at)) ∙ k) in let g : true ≡ false = sym (end_true e is) ∙ f in cc))
      | inl t ↦ rw t (whole (end_is e t))
    ]
      where
        bits : List Bool
        bits = (line_scan r.frames.shape r.spot c.last).bits

        ends_whole : eqb r.frames.count 0 ≡ false → (ends r m).spot ≡ spot.Whole
        ends_whole f = rw f refl

        is_whole : e ≡ Some entry.End → (read_line r m c.last).spot ≡ spot.Whole
        is_whole is =
            let f : eqb r.frames.count 0 ≡ false = grind (arith, nat_tests) in
            ap (λ (q : ReadingOf). q.spot) (goes r.spot at) ∙ ap (λ (o : Option Entry). (goes_on r m bits o).spot) is ∙ ends_whole f

        whole : e ≡ Some entry.End → IsFate shape bytes seen.Whole
        whole is =
            let next = step shape most c.lines c.last r m r.spot refl w.open_at w.same w.stands in
            let x = subst (λ (s : Spot). StandsBy shape most (c.lines ++ c.last ∷ []) s (read_line r m c.last)) (is_whole is) next in
            (x.0, inr (c.lines, c.last, c.cut, c.no_feed, x.1))

    named_not : r.spot ≡ spot.Named → r.frames ≡ kept shape most [] → (read_line r m c.last).spot ≡ spot.Whole → ⊥
    named_not here is k =
        let bits = (line_scan r.frames.shape r.spot c.last).bits in
        let whole : (goes_on r m bits e).spot ≡ spot.Whole = ap (λ (s : Spot). (enters_by r m bits s e).spot) (sym here) ∙ k in
        let end = body_end r m bits e w.open_at whole in
        let f : (ends r m).spot ≡ spot.Whole = sym (ap (λ (o : Option Entry). (goes_on r m bits o).spot) end) ∙ whole in
        by (ap (λ (k : FramesOf). k.count) is) f
      where
        by : r.frames.count ≡ 0 → (ends r m).spot ≡ spot.Whole → ⊥
        by z f = let t : eqb r.frames.count 0 ≡ true = grind (arith, nat_tests) in let g : spot.Refused m ≡ spot.Whole = rw t at f in cc

    fate_by : (o : Spot) → r.spot ≡ o → is_over o ≡ false → StandsBy shape most c.lines o r → IsFate shape bytes (ended_by (m + length c.last) o e)
    fate_by spot.Skipping at o h = skipping at h
    fate_by spot.Found at o h = found at h
    fate_by spot.Named at o h = early (after_sat _ h.after) (named_not at h.frames)
    fate_by spot.InStates at o (fs, rows, h) =
        let l = length-append fs (in_states rows ∷ []) in
        let n = ap (λ (k : FramesOf). k.count) h.frames in
        body_fate spot.InStates at (λ s i. ap (λ (s : Spot). enters_by r m (line_scan r.frames.shape r.spot c.last).bits s e) i) (after_sat _ h.after) (omega arith)
    fate_by spot.InInputs at o (fs, states, rows, h) =
        let l = length-append fs (in_inputs states rows ∷ []) in
        let n = ap (λ (k : FramesOf). k.count) h.frames in
        body_fate spot.InInputs at (λ s i. ap (λ (s : Spot). enters_by r m (line_scan r.frames.shape r.spot c.last).bits s e) i) (after_sat _ h.after) (omega arith)
    fate_by spot.Whole at o h = cc
    fate_by (spot.Refused k) at o h = cc
    fate_by spot.Lost at o h = cc

    fate_open : IsFate shape bytes (ended (after (fresh shape most) bytes))
    fate_open = subst (λ (v : WitnessesOf). IsFate shape bytes (ended v)) (sym state) (fate_by r.spot refl w.open_at w.stands)

  pub fate_is : (bytes : List ℕ) → IsFate shape bytes (ended (after (fresh shape most) bytes))
  fate_is bytes = by (cut_of bytes)
    where
      over : (c : Cut bytes) (w : IsOver [] start 0 c.lines) → Goes w.at (oto bytes c w).spot → IsFate shape bytes (ended (after (fresh shape most) bytes))
      over c w (inl o) = let k : true ≡ false = sym w.over ∙ o in cc
      over c w (inr (inl e)) =
          let v = after (fresh shape most) bytes in
          let x = holds_over bytes c w e in
          subst (λ (s : Spot). IsFate shape bytes (ended_by v.taken s (line_entry (line_left v.scan.line)))) (sym (ap (λ (r : ReadingOf). r.spot) (reading_over bytes c w) ∙ e)) (x.0, inl x.1)
      over c w (inr (inr e)) =
          let v = after (fresh shape most) bytes in
          subst (λ (s : Spot). IsFate shape bytes (ended_by v.taken s (line_entry (line_left v.scan.line)))) (sym (ap (λ (r : ReadingOf). r.spot) (reading_over bytes c w) ∙ e)) (bad_over bytes c w e)

      of : (c : Cut bytes) → Walk [] start 0 c.lines → IsFate shape bytes (ended (after (fresh shape most) bytes))
      of c (inl w) = fate_open bytes c w
      of c (inr w) = over c w (leads c.lines w)

      by : Cut bytes → IsFate shape bytes (ended (after (fresh shape most) bytes))
      by c = of c (walked c.lines)

  -- the clause of a stream's end
  pub end_fate : (w : WitnessesOf) (bytes : List ℕ) (s : Seen) → StandsFor shape most w bytes → s ≡ ended w → IsFate shape bytes s
  end_fate w bytes s h e = subst (IsFate shape bytes) (sym (e ∙ ap ended h)) (fate_is bytes)

  -- what is kept
  kept_is : (x : WitnessOf) (w : WitnessesOf) → Ends shape most x w.reading → IsKept shape most x w
  kept_is x w (at, is, bad) = record {
    bad = bad;
    count = ap (λ (k : FramesOf). k.count) is;
    starts = ap (λ (k : FramesOf). k.starts) is;
    inputs = ap (λ (k : FramesOf). k.inputs) is;
  }

  pub piece_kept : (w : WitnessesOf) (bytes piece : List ℕ) (to : WitnessesOf) (x : WitnessOf) → StandsFor shape most w bytes → to ≡ after w piece → Holds shape (bytes ++ piece) x → IsKept shape most x to
  piece_kept w bytes piece to x h e i =
      let same : to ≡ after (fresh shape most) (bytes ++ piece) = e ∙ ap (λ (v : WitnessesOf). after v piece) h ∙ sym (after_append (fresh shape most) bytes piece) in
      subst (IsKept shape most x) (sym same) (kept_is x (after (fresh shape most) (bytes ++ piece)) (holds_reads (bytes ++ piece) x i))

  -- a line that makes the reading whole changes nothing else
  keeps : (r : ReadingOf) (first : ℕ) (bits : List Bool) (s : Spot) (e : Option Entry) → r.spot ≡ s → is_over s ≡ false → (enters_by r first bits s e).spot ≡ spot.Whole
      → ((enters_by r first bits s e).frames ≡ r.frames) × ((enters_by r first bits s e).bad ≡ r.bad)
  keeps r first bits spot.Skipping e at o h = absurd (skip_not r e at h)
  keeps r first bits spot.Found e at o h = absurd (name_not r first e h)
  keeps r first bits spot.Named e at o h = let k = body_end r first bits e (ap is_over at ∙ o) h in (ap (λ (e : Option Entry). (goes_on r first bits e).frames) k, ap (λ (e : Option Entry). (goes_on r first bits e).bad) k)
  keeps r first bits spot.InStates e at o h = let k = body_end r first bits e (ap is_over at ∙ o) h in (ap (λ (e : Option Entry). (goes_on r first bits e).frames) k, ap (λ (e : Option Entry). (goes_on r first bits e).bad) k)
  keeps r first bits spot.InInputs e at o h = let k = body_end r first bits e (ap is_over at ∙ o) h in (ap (λ (e : Option Entry). (goes_on r first bits e).frames) k, ap (λ (e : Option Entry). (goes_on r first bits e).bad) k)
  keeps r first bits spot.Whole e at o h = cc
  keeps r first bits (spot.Refused k) e at o h = cc
  keeps r first bits spot.Lost e at o h = cc

  end_kept_at : (bytes : List ℕ) (x : WitnessOf) → EndsWith shape bytes x → IsKept shape most x (after (fresh shape most) bytes)
  end_kept_at bytes x h = by (cut_of bytes)
    where
      v : WitnessesOf
      v = after (fresh shape most) bytes

      over : is_over v.reading.spot ≡ true → IsKept shape most x v
      over o = kept_is x v (subst (λ (u : WitnessesOf). Ends shape most x u.reading) (after_over v (10 ∷ []) o) (ends_reads bytes x h))

      open_line : (c : Cut bytes) → StaysOpen [] start 0 c.lines → IsKept shape most x v
      open_line c w =
          let ends : Ends shape most x (read_line (r bytes c w) (m bytes c w) c.last) = subst (λ (u : WitnessesOf). Ends shape most x u.reading) (fed bytes c w) (ends_reads bytes x h) in
          let k = keeps (r bytes c w) (m bytes c w) (line_scan (r bytes c w).frames.shape (r bytes c w).spot c.last).bits (r bytes c w).spot (e bytes c w) refl w.open_at ends.0 in
          subst (IsKept shape most x) (sym (state bytes c w)) (record {
            bad = sym k.1 ∙ ends.2;
            count = ap (λ (k : FramesOf). k.count) (sym k.0 ∙ ends.1);
            starts = ap (λ (k : FramesOf). k.starts) (sym k.0 ∙ ends.1);
            inputs = ap (λ (k : FramesOf). k.inputs) (sym k.0 ∙ ends.1);
          })

      of : (c : Cut bytes) → Walk [] start 0 c.lines → IsKept shape most x v
      of c (inl w) = open_line c w
      of c (inr w) = over (ap (λ (r : ReadingOf). is_over r.spot) (reading_over bytes c w) ∙ w.over)

      by : Cut bytes → IsKept shape most x v
      by c = of c (walked c.lines)

  pub end_kept : (w : WitnessesOf) (bytes : List ℕ) (x : WitnessOf) → StandsFor shape most w bytes → (Holds shape bytes x ⊎ EndsWith shape bytes x) → IsKept shape most x w
  end_kept w bytes x h (inl i) = subst (IsKept shape most x) (sym h) (kept_is x (after (fresh shape most) bytes) (holds_reads bytes x i))
  end_kept w bytes x h (inr i) = subst (IsKept shape most x) (sym h) (end_kept_at bytes x i)

-- one thing is seen in bytes
pub one_seen : (shape : ShapeOf) (bytes : List ℕ) (a b : Seen) → IsSeen shape bytes a → IsSeen shape bytes b → a ≡ b
one_seen shape bytes seen.More seen.More h i = refl
one_seen shape bytes seen.More seen.Whole h (x, i) = absurd (h.0 x i)
one_seen shape bytes seen.More seen.Unknown h i = absurd i
one_seen shape bytes seen.More (seen.EarlyEnd n) h i = absurd i
one_seen shape bytes seen.More (seen.BadWitness n) h i = absurd (h.1 n i)
one_seen shape bytes seen.Whole seen.More (x, h) i = absurd (i.0 x h)
one_seen shape bytes seen.Whole seen.Whole h i = refl
one_seen shape bytes seen.Whole seen.Unknown h i = absurd i
one_seen shape bytes seen.Whole (seen.EarlyEnd n) h i = absurd i
one_seen shape bytes seen.Whole (seen.BadWitness n) (x, h) i = let k : spot.Whole ≡ spot.Refused n = sym (holds_reads shape 0 bytes x h).0 ∙ bad_reads shape 0 bytes n i in cc
one_seen shape bytes seen.Unknown b h i = absurd h
one_seen shape bytes (seen.EarlyEnd n) b h i = absurd h
one_seen shape bytes (seen.BadWitness n) seen.More h i = absurd (i.1 n h)
one_seen shape bytes (seen.BadWitness n) seen.Whole h (x, i) = let k : spot.Whole ≡ spot.Refused n = sym (holds_reads shape 0 bytes x i).0 ∙ bad_reads shape 0 bytes n h in cc
one_seen shape bytes (seen.BadWitness n) seen.Unknown h i = absurd i
one_seen shape bytes (seen.BadWitness n) (seen.EarlyEnd k) h i = absurd i
one_seen shape bytes (seen.BadWitness n) (seen.BadWitness k) h i = let e : spot.Refused n ≡ spot.Refused k = sym (bad_reads shape 0 bytes n h) ∙ bad_reads shape 0 bytes k i in ap seen.BadWitness (same n k e)
  where
    same : (n k : ℕ) → spot.Refused n ≡ spot.Refused k → n ≡ k
    same n k e = cc
