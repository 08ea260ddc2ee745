-- Lines of bytes.
use Rattle.std.proofs.Common.{◌≡◌, ◌⊎◌, ℕ, ◌+◌, true, false, eqb, List, [], ◌∷◌, ◌++◌, length, refl, ap, sym, ◌∙◌, subst, inl, inr, arith}
use Rattle.std.specs.Prelude.{fold}
use Rattle.std.specs.List.{AllByRecursion}
use Rattle.std.proofs.lemmas.Bool.{cases_Bool, eqb-true}
use Rattle.std.proofs.lemmas.List.{length-append, append_assoc}
use Rattle.btor_witness.specs.Grammar.{is_blank}
use Rattle.btor_witness.specs.Machine.{ReadingOf, ScanOf, WitnessesOf, after, enters_by, is_over, line_entry, no_scan, turn, widths_at}
use Rattle.btor_witness.specs.Streams.{IsCut, NoFeed, text_of}
use Rattle.btor_witness.specs.declared.spot.Spot.{Spot}
use Rattle.btor_witness.specs.declared.spot.Spot.TheVariants as spot
use Rattle.btor_witness.proofs.Lines.{scans}
use Rattle.btor_witness.proofs.Runs.{line_scan, read_line}
use Rattle.btor_witness.proofs.Forth.{reads}

-- before a line
abbrev pub at_line : ReadingOf → ℕ → WitnessesOf
at_line r n = record { reading = r; scan = no_scan; first = n; taken = n }

abbrev pub in_line : ReadingOf → ScanOf → ℕ → ℕ → WitnessesOf
in_line r s first taken = record { reading = r; scan = s; first = first; taken = taken }

pub after_over : (w : WitnessesOf) (bytes : List ℕ) → is_over w.reading.spot ≡ true → after w bytes ≡ w
after_over w [] o = refl
after_over w (b ∷ bytes) o = ap (λ (v : WitnessesOf). after v bytes) (stays o) ∙ after_over w bytes o
  where
    stays : is_over w.reading.spot ≡ true → turn w b ≡ w
    stays o = rw o refl

abbrev ws_of : ReadingOf → List ℕ
ws_of r = widths_at r.frames.shape r.spot

pub after_in_line : (r : ReadingOf) (s : ScanOf) (first taken : ℕ) (line : List ℕ) → is_over r.spot ≡ false → NoFeed line
    → after (in_line r s first taken) line ≡ in_line r (fold (scans (ws_of r)) s line) first (taken + length line)
after_in_line r s first taken [] o h = ap (in_line r s first) (omega arith)
after_in_line r s first taken (b ∷ line) o (f, h) =
    ap (λ (v : WitnessesOf). after v line) (one o f (cases_Bool (is_blank b)))
    ∙ after_in_line r (scans (ws_of r) s b) first (taken + 1) line o h
    ∙ ap (in_line r (fold (scans (ws_of r)) (scans (ws_of r) s b) line) first) (omega arith)
  where
    one : is_over r.spot ≡ false → eqb b 10 ≡ false → (is_blank b ≡ true) ⊎ (is_blank b ≡ false) → turn (in_line r s first taken) b ≡ in_line r (scans (ws_of r) s b) first (taken + 1)
    one o f (inl t) = rw (o, f, t) refl
    one o f (inr g) = rw (o, f, g) refl

pub line_feed : (r : ReadingOf) (n taken : ℕ) (line : List ℕ) → is_over r.spot ≡ false → turn (in_line r (fold (scans (ws_of r)) no_scan line) n taken) 10 ≡ at_line (read_line r n line) (taken + 1)
line_feed r n taken line o = rw o refl

pub after_line : (r : ReadingOf) (n : ℕ) (line rest : List ℕ) → is_over r.spot ≡ false → NoFeed line → after (at_line r n) (line ++ 10 ∷ rest) ≡ after (at_line (read_line r n line) (n + length line + 1)) rest
after_line r n line rest o h =
    append (at_line r n) line (10 ∷ rest)
    ∙ ap (λ (v : WitnessesOf). after (turn v 10) rest) (after_in_line r no_scan n n line o h)
    ∙ ap (λ (v : WitnessesOf). after v rest) (line_feed r n (n + length line) line o)
  where
    append : (w : WitnessesOf) (a b : List ℕ) → after w (a ++ b) ≡ after (after w a) b
    append w [] b = refl
    append w (x ∷ a) b = append (turn w x) a b

line_over : (r : ReadingOf) (first : ℕ) (line : List ℕ) → is_over r.spot ≡ true → read_line r first line ≡ r
line_over r first line o = by r.spot refl
  where
    scan : ScanOf
    scan = line_scan r.frames.shape r.spot line

    by : (s : Spot) → r.spot ≡ s → read_line r first line ≡ r
    by spot.Skipping e = let k = sym o ∙ ap is_over e in cc
    by spot.Found e = let k = sym o ∙ ap is_over e in cc
    by spot.Named e = let k = sym o ∙ ap is_over e in cc
    by spot.InStates e = let k = sym o ∙ ap is_over e in cc
    by spot.InInputs e = let k = sym o ∙ ap is_over e in cc
    by spot.Whole e = ap (λ (s : Spot). enters_by r first scan.bits s (line_entry scan.line)) e
    by (spot.Refused k) e = ap (λ (s : Spot). enters_by r first scan.bits s (line_entry scan.line)) e
    by spot.Lost e = ap (λ (s : Spot). enters_by r first scan.bits s (line_entry scan.line)) e

pub reads_over : (r : ReadingOf) (n : ℕ) (lines : List (List ℕ)) → is_over r.spot ≡ true → reads r n lines ≡ r
reads_over r n [] o = refl
reads_over r n (line ∷ lines) o = ap (λ (q : ReadingOf). reads q (n + length line + 1) lines) (line_over r n line o) ∙ reads_over r (n + length line + 1) lines o

pub reads_append : (r : ReadingOf) (n : ℕ) (a b : List (List ℕ)) → reads r n (a ++ b) ≡ reads (reads r n a) (n + length (text_of a)) b
reads_append r n [] b = ap (λ (m : ℕ). reads r m b) (omega arith)
reads_append r n (line ∷ a) b =
    let l = length-append line (10 ∷ text_of a) in
    reads_append (read_line r n line) (n + length line + 1) a b ∙ ap (λ (m : ℕ). reads (reads (read_line r n line) (n + length line + 1) a) m b) (omega arith)

-- lines of a text, up to where the reading is over
abbrev Comes : ReadingOf → ℕ → List (List ℕ) → List ℕ → Type 0
Comes r n lines rest =
    ((is_over (reads r n lines).spot ≡ false) × (after (at_line r n) (text_of lines ++ rest) ≡ after (at_line (reads r n lines) (n + length (text_of lines))) rest))
    ⊎ ((is_over (reads r n lines).spot ≡ true) × ((after (at_line r n) (text_of lines ++ rest)).reading ≡ reads r n lines))

comes : (r : ReadingOf) (n : ℕ) (lines : List (List ℕ)) (rest : List ℕ) → AllByRecursion NoFeed lines → is_over r.spot ≡ false → Comes r n lines rest
comes r n [] rest h o = inl (o, ap (λ (m : ℕ). after (at_line r m) rest) (omega arith))
comes r n (line ∷ lines) rest (f, h) o = by (cases_Bool (is_over (read_line r n line).spot)) (λ g. comes (read_line r n line) (n + length line + 1) lines rest h g)
  where
    q : ReadingOf
    q = read_line r n line

    m : ℕ
    m = n + length line + 1

    leads : after (at_line r n) ((line ++ 10 ∷ text_of lines) ++ rest) ≡ after (at_line q m) (text_of lines ++ rest)
    leads = ap (after (at_line r n)) (append_assoc line (10 ∷ text_of lines) rest) ∙ after_line r n line (text_of lines ++ rest) o f

    count : m + length (text_of lines) ≡ n + length (line ++ 10 ∷ text_of lines)
    count = let l = length-append line (10 ∷ text_of lines) in omega arith

    on : Comes q m lines rest → Comes r n (line ∷ lines) rest
    on (inl (o, e)) = inl (o, leads ∙ e ∙ ap (λ (k : ℕ). after (at_line (reads q m lines) k) rest) count)
    on (inr (o, e)) = inr (o, ap (λ (w : WitnessesOf). w.reading) leads ∙ e)

    by : (is_over q.spot ≡ true) ⊎ (is_over q.spot ≡ false) → (is_over q.spot ≡ false → Comes q m lines rest) → Comes r n (line ∷ lines) rest
    by (inl t) again =
        let stays = reads_over q m lines t in
        inr (ap (λ (q : ReadingOf). is_over q.spot) stays ∙ t, ap (λ (w : WitnessesOf). w.reading) (leads ∙ after_over (at_line q m) (text_of lines ++ rest) t) ∙ sym stays)
    by (inr g) again = on (again g)

pub over_comes : (r : ReadingOf) (n : ℕ) (lines : List (List ℕ)) (rest : List ℕ) → AllByRecursion NoFeed lines → is_over r.spot ≡ false → is_over (reads r n lines).spot ≡ true → (after (at_line r n) (text_of lines ++ rest)).reading ≡ reads r n lines
over_comes r n lines rest h o t = by (comes r n lines rest h o)
  where
    by : Comes r n lines rest → (after (at_line r n) (text_of lines ++ rest)).reading ≡ reads r n lines
    by (inl (f, e)) = let k = sym t ∙ f in cc
    by (inr (f, e)) = e

pub open_comes : (r : ReadingOf) (n : ℕ) (lines : List (List ℕ)) (rest : List ℕ) → AllByRecursion NoFeed lines → is_over r.spot ≡ false → is_over (reads r n lines).spot ≡ false
    → after (at_line r n) (text_of lines ++ rest) ≡ after (at_line (reads r n lines) (n + length (text_of lines))) rest
open_comes r n lines rest h o t = by (comes r n lines rest h o)
  where
    by : Comes r n lines rest → after (at_line r n) (text_of lines ++ rest) ≡ after (at_line (reads r n lines) (n + length (text_of lines))) rest
    by (inl (f, e)) = e
    by (inr (f, e)) = let k = sym t ∙ f in cc

-- bytes are whole lines and a last one
pub record Cut (bytes : List ℕ) : Type 0 where
  pub lines : List (List ℕ)
  pub last : List ℕ
  pub cut : IsCut bytes lines last
  pub no_feed : NoFeed last

pub cut_of : (bytes : List ℕ) → Cut bytes
cut_of [] = record { lines = []; last = []; cut = record { are = refl; no_feed = tt }; no_feed = tt }
cut_of (b ∷ bytes) = by (cut_of bytes) (cases_Bool (eqb b 10))
  where
    front : (c : Cut bytes) → eqb b 10 ≡ false → (lines : List (List ℕ)) → c.lines ≡ lines → Cut (b ∷ bytes)
    front c f [] e = record {
      lines = [];
      last = b ∷ c.last;
      cut = record { are = ap (λ (x : List ℕ). b ∷ x) (c.cut.are ∙ ap (λ (ls : List (List ℕ)). text_of ls ++ c.last) e); no_feed = tt };
      no_feed = (f, c.no_feed);
    }
    front c f (line ∷ lines) e =
        let all = subst (AllByRecursion NoFeed) e c.cut.no_feed in
        record {
          lines = (b ∷ line) ∷ lines;
          last = c.last;
          cut = record { are = ap (λ (x : List ℕ). b ∷ x) (c.cut.are ∙ ap (λ (ls : List (List ℕ)). text_of ls ++ c.last) e); no_feed = ((f, all.0), all.1) };
          no_feed = c.no_feed;
        }

    by : Cut bytes → (eqb b 10 ≡ true) ⊎ (eqb b 10 ≡ false) → Cut (b ∷ bytes)
    by c (inl t) = record {
      lines = [] ∷ c.lines;
      last = c.last;
      cut = record { are = ap (λ (n : ℕ). n ∷ bytes) (eqb-true b 10 t) ∙ ap (λ (x : List ℕ). 10 ∷ x) c.cut.are; no_feed = (tt, c.cut.no_feed) };
      no_feed = c.no_feed;
    }
    by c (inr f) = front c f c.lines refl

-- a text's first line is one
first_line : (a b x y : List ℕ) → NoFeed a → NoFeed b → a ++ 10 ∷ x ≡ b ++ 10 ∷ y → (a ≡ b) × (x ≡ y)
first_line [] [] x y h k e = (refl, cc)
first_line [] (c ∷ b) x y h (f, k) e = let same : 10 ≡ c = cc in let t : true ≡ false = ap (λ (n : ℕ). eqb n 10) same ∙ f in cc
first_line (c ∷ a) [] x y (f, h) k e = let same : c ≡ 10 = cc in let t : true ≡ false = sym (ap (λ (n : ℕ). eqb n 10) same) ∙ f in cc
first_line (c ∷ a) (d ∷ b) x y (f, h) (g, k) e =
    let again = first_line a b x y h k cc in
    let same : c ≡ d = cc in
    (ap (λ (n : ℕ). n ∷ a) same ∙ ap (λ (z : List ℕ). d ∷ z) again.0, again.1)

no_line : (last a x : List ℕ) → NoFeed last → last ≡ a ++ 10 ∷ x → ⊥
no_line [] [] x h e = cc
no_line [] (c ∷ a) x h e = cc
no_line (b ∷ last) [] x (f, h) e = let same : b ≡ 10 = cc in let t : true ≡ false = sym (ap (λ (n : ℕ). eqb n 10) same) ∙ f in cc
no_line (b ∷ last) (c ∷ a) x (f, h) e = no_line last a x h cc

pub lines_begin : (lines front : List (List ℕ)) (last rest : List ℕ) → AllByRecursion NoFeed lines → AllByRecursion NoFeed front → NoFeed last → text_of lines ++ last ≡ text_of front ++ rest → (more : List (List ℕ)) × (lines ≡ front ++ more)
lines_begin lines [] last rest h k n e = (lines, refl)
lines_begin [] (line ∷ front) last rest h k n e = absurd (no_line last line (text_of front ++ rest) n (e ∙ append_assoc line (10 ∷ text_of front) rest))
lines_begin (l ∷ lines) (line ∷ front) last rest (f, h) (g, k) n e =
    let first = first_line l line (text_of lines ++ last) (text_of front ++ rest) f g (sym (append_assoc l (10 ∷ text_of lines) last) ∙ e ∙ append_assoc line (10 ∷ text_of front) rest) in
    let again = lines_begin lines front last rest h k n first.1 in
    (again.0, ap (λ (x : List ℕ). x ∷ lines) first.0 ∙ ap (λ (ls : List (List ℕ)). line ∷ ls) again.1)

pub text_append : (a b : List (List ℕ)) → text_of (a ++ b) ≡ text_of a ++ text_of b
text_append [] b = refl
text_append (line ∷ a) b = ap (λ (x : List ℕ). line ++ 10 ∷ x) (text_append a b) ∙ sym (append_assoc line (10 ∷ text_of a) (text_of b))
