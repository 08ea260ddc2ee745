-- Whole lines of a stream, and what each of them says.
use Rattle.std.proofs.Common.{◌≡◌, ◌⊎◌, ℕ, ◌+◌, ◌≤◌, Bool, true, false, cond, ◌||◌, eqb, leb, List, [], ◌∷◌, ◌++◌, length, map, codes, Some, refl, ap, sym, ◌∙◌, inl, inr, arith, subst, append_assoc}
use Rattle.std.specs.Prelude.{slice_index, Contains, flat_map}
use Rattle.std.proofs.lemmas.Bool.{cases_Bool, eqb-true, lt-leb}
use Rattle.std.proofs.lemmas.Bool.Decides.{nat_tests}
use Rattle.std.proofs.lemmas.List.{append-nil, length-append}
use Rattle.std.proofs.lemmas.List.Elements.{Contains-append_left, Contains-append_right}
use Rattle.cnf_form.proofs.Members.{Contains-head}
use Rattle.cnf_form.specs.Cnf.{LitOf}
use Rattle.cert_stream.specs.Text.{Word, NoFeed, is_digit, literal_of, lines_of, put_first, words_from}
use Rattle.cert_stream.specs.Machine.{DrupOf, turn, end_word, end_line, unended}
use Rattle.cert_stream.specs.Scan.{Scanned, Reads, Misfit, scan}
use Rattle.cert_stream.specs.Words.{IsRead}
use Rattle.cert_stream.specs.Telling.{Saying, IsFault, told_by, after, said, fresh}
use Rattle.cert_stream.specs.Stream.{bad, ended_says, heard_says, list_says, alone, visible_says, line_says, lines_say, sayings}
use Rattle.cert_stream.specs.Beginning.{HasNoFault}
use Rattle.cert_stream.specs.Places.{AreLines, AreDone, Write, IsZero, IsList}
use Rattle.cert_stream.specs.declared.mode.ListKind.{ListKind}
use Rattle.cert_stream.specs.declared.mode.ListKind.TheVariants.{Clause, Deletion, Values}
use Rattle.cert_stream.specs.declared.mode.ParseFault.{ParseFault}
use Rattle.cert_stream.specs.declared.mode.ParseFaultKind.TheVariants.{BadLine}
use Rattle.cert_stream.specs.declared.mode.Part.{Part}
use Rattle.cert_stream.specs.declared.mode.Part.TheVariants.{Gap, Minus, Zero, Digits}
use Rattle.cert_stream.specs.declared.mode.Mode.{Mode}
use Rattle.cert_stream.specs.declared.mode.Mode.TheVariants.{Start, Skip, Head, StatusHead, StatusGap, Spelled, Whole, InList, Closed, Bad, Lost}
use Rattle.cert_stream.proofs.Turning.{parser}
use Rattle.cert_stream.proofs.Cutting.{after_append, after_taken}
use Rattle.cert_stream.proofs.Speaking.{speak, speak_is, from_line, start_forgets}
use Rattle.cert_stream.proofs.Streams.{some_line, fed_says, lines_spoken, stream_spoken}
use Rattle.cert_stream.proofs.GoingOn.{sayings_more}
use Rattle.cert_stream.proofs.Going.{Going, turn_next}
use Rattle.cert_stream.proofs.Faults.{bad_stays}
use Rattle.cert_stream.proofs.Beginnings.{fault_in}
use Rattle.cert_stream.proofs.Digits.{digit_bounds, goes_on_is}
use Rattle.cert_stream.proofs.Reading.{word_read, literal_first, begins_digit}
use Rattle.cert_stream.proofs.Tails.{word_says}

speak_append : (ended : Bool) (front text : List ℕ) (w : DrupOf) → speak ended w (front ++ text) ≡ said w front ++ speak ended (after w front) text
speak_append ended [] text w = refl
speak_append ended (b ∷ bs) text w =
    let z = (turn w b).to in
    ap (λ x. told_by z (turn w b).event ++ x) (speak_append ended bs text z) ∙ sym (append_assoc (told_by z (turn w b).event) (said z bs) (speak ended (after z bs) text))

pub kept : (bytes : List ℕ) (w : DrupOf) → Going w.vars w.mode
    → (((after w bytes).vars ≡ w.vars) × Going w.vars (after w bytes).mode) ⊎ ((f : ParseFault) × ((after w bytes).mode ≡ Bad f))
kept [] w n = inl (refl, n)
kept (b ∷ bs) w n =
    let t = turn_next w b n in
    let v = (turn w b).to in
    elim t.1 [
      | inl g ↦ elim (kept bs v (subst (λ z. Going z v.mode) (sym t.0) g)) [
        | inl k ↦ inl (k.0 ∙ t.0, subst (λ z. Going z (after v bs).mode) t.0 k.1)
        | inr k ↦ inr k
      ]
      | inr g ↦ inr (g.0, bad_stays g.0 v bs g.1)
    ]

-- after a line feed a line starts
abbrev StartsLine : Mode → Type 0
StartsLine m = ((amid : Bool) × (m ≡ Start amid)) ⊎ ((f : ParseFault) × (m ≡ Bad f)) ⊎ (m ≡ Lost)

unended_starts : (w : DrupOf) (kind : ListKind) → StartsLine (unended w kind).to.mode
unended_starts w Clause = inr (inl (_, refl))
unended_starts w Deletion = inr (inl (_, refl))
unended_starts w Values = inl (true, refl)

end_line_starts : (w : DrupOf) (m : Mode) → StartsLine (end_line w m).to.mode
end_line_starts w (Start amid) = inl (amid, refl)
end_line_starts w (Skip amid) = inl (amid, refl)
end_line_starts w (Head kind) = unended_starts w kind
end_line_starts w StatusHead = inl (false, refl)
end_line_starts w StatusGap = inl (false, refl)
end_line_starts w (Spelled n) = inl (false, refl)
end_line_starts w Whole = inl (false, refl)
end_line_starts w (InList kind part) = unended_starts w kind
end_line_starts w Closed = inl (false, refl)
end_line_starts w (Bad f) = inr (inl (f, refl))
end_line_starts w Lost = inr (inr refl)

turn_starts : (w : DrupOf) → StartsLine (turn w 10).to.mode
turn_starts w = end_line_starts (end_word w w.mode).to (end_word w w.mode).to.mode

going_starts : (vars : ℕ) (m : Mode) → Going vars m → StartsLine m → (amid : Bool) × (m ≡ Start amid)
going_starts vars m n (inl h) = h
going_starts vars m n (inr (inl (f, e))) = absurd (subst (Going vars) e n)
going_starts vars m n (inr (inr e)) = absurd (subst (Going vars) e n)

module _ (vars : ℕ) where
  at_start : (front : List ℕ) → AreLines front → Going vars (after (fresh vars) front).mode → (amid : Bool) × ((after (fresh vars) front).mode ≡ Start amid)
  at_start front (inl e) n = (false, ap (λ z. (after (fresh vars) z).mode) e)
  at_start front (inr (bs, e)) n =
      let k : after (fresh vars) front ≡ (turn (after (fresh vars) bs) 10).to = ap (after (fresh vars)) e ∙ after_append (fresh vars) bs (10 ∷ []) in
      let s : StartsLine (after (fresh vars) front).mode = subst (λ (z : DrupOf). StartsLine z.mode) (sym k) (turn_starts (after (fresh vars) bs)) in
      going_starts vars (after (fresh vars) front).mode n s

  start_says : (ended : Bool) (w : DrupOf) (at : ℕ) (amid : Bool) (text : List ℕ) → w.vars ≡ vars → w.taken ≡ at → w.mode ≡ Start amid → speak ended w text ≡ from_line vars ended at amid text
  start_says ended w at amid text v t m =
      ap (λ z. speak ended (parser z w.taken w.place w.mode w.lits) text) v
      ∙ ap (λ z. speak ended (parser vars z w.place w.mode w.lits) text) t
      ∙ ap (λ z. speak ended (parser vars at w.place z w.lits) text) m
      ∙ start_forgets ended vars at w.place amid w.lits text

  -- what lines say, and after it what the rest says
  pub lines_apart : (front : List ℕ) → AreLines front → HasNoFault (sayings vars false front)
      → (amid : Bool) × ((ended : Bool) (text : List ℕ) → sayings vars ended (front ++ text) ≡ sayings vars false front ++ lines_say vars ended amid (length front) (lines_of text))
  lines_apart front lines none =
      elim (kept front (fresh vars) tt) [
        | inr k ↦ absurd (none k.0 (fault_in vars false front k.0 k.1))
        | inl k ↦
            let w = after (fresh vars) front in
            let s = at_start front lines k.1 in
            let t : w.taken ≡ length front = after_taken (fresh vars) front ∙ omega arith in
            let first : sayings vars false front ≡ said (fresh vars) front =
            ap (sayings vars false) (sym (append-nil front)) ∙ sym (stream_spoken vars false (front ++ [])) ∙ sym (speak_is false (fresh vars) (front ++ [])) ∙ speak_append false front [] (fresh vars)
            ∙ ap (λ z. said (fresh vars) front ++ z) (start_says false w (length front) s.0 [] k.0 t s.1) ∙ append-nil (said (fresh vars) front) in (
              s.0,
              λ ended text. sym (stream_spoken vars ended (front ++ text)) ∙ sym (speak_is ended (fresh vars) (front ++ text)) ∙ speak_append ended front text (fresh vars)
                  ∙ ap (λ z. said (fresh vars) front ++ z) (start_says ended w (length front) s.0 text k.0 t s.1 ∙ lines_spoken vars ended (length text) text (length front) s.0 (omega arith))
                  ∙ ap (λ z. z ++ lines_say vars ended s.0 (length front) (lines_of text)) (sym first),
            )
      ]

  -- a literal is read where there is room, and 0 always
  pub literal_read : (full : Bool) (text : List ℕ) (l : LitOf) → full ≡ false → literal_of vars text ≡ Some l → scan vars full Gap text ≡ Reads (Digits l)
  literal_read full text l f e = of (scan vars full Gap text) (word_read vars full text)
    where
      of : (s : Scanned Part) → IsRead vars full text s → s ≡ Reads (Digits l)
      of (Reads Gap) r = absurd (let k : literal_of vars [] ≡ Some l = ap (literal_of vars) (sym r) ∙ e in cc)
      of (Reads Minus) (r, x) = absurd (let k : literal_of vars (codes "-") ≡ Some l = ap (literal_of vars) (sym r) ∙ e in cc)
      of (Reads Zero) r = absurd (let k = literal_first vars 48 [] l (ap (literal_of vars) (sym r) ∙ e) in let q : true ≡ false = k.1 in cc)
      of (Reads (Digits m)) (n, r) = let i : m ≡ l = (let k : Some m ≡ Some l = sym r ∙ e in cc) in ap (λ z. Reads (Digits z)) i
      of (Misfit k n) r =
          let a : (r.front ++ r.byte ∷ []) ++ r.rest ≡ text = append_assoc r.front (r.byte ∷ []) r.rest ∙ sym r.are in
          absurd (r.past (r.rest, inr (f, l, ap (literal_of vars) a ∙ e)))

  pub zero_read : (full : Bool) (text : List ℕ) → text ≡ codes "0" → scan vars full Gap text ≡ Reads Zero
  zero_read full text e = ap (scan vars full Gap) e

  -- a list's words; its 0 counts
  pub words_say : (kind : ListKind) (counted : Bool) (unended more : List Saying) (place : ℕ) (ws : List Word) (zero : Word) (lits front : List LitOf)
      → AreDone ws → map (λ w. literal_of vars w.text) ws ≡ map Some lits → length front + length lits ≤ vars → (zero.text ≡ codes "0") × ((zero.done || counted) ≡ true)
      → list_says vars kind counted unended more place front (ws ++ zero ∷ []) ≡ flat_map (heard_says kind) lits ++ ended_says kind place (front ++ lits) ∷ more
  words_say kind counted unended more place [] zero [] front d m n (z, c) =
      ap (λ s. word_says vars kind counted unended more place front s zero []) (zero_read (leb vars (length front)) zero.text z)
      ∙ ap (λ b. cond b (ended_says kind place front ∷ more) []) c
      ∙ ap (λ x. ended_says kind place x ∷ more) (sym (append-nil front))
  words_say kind counted unended more place [] zero (l ∷ lits) front d m n z = cc
  words_say kind counted unended more place (w ∷ ws) zero [] front d m n z = cc
  words_say kind counted unended more place (w ∷ ws) zero (l ∷ lits) front (d, ds) m n z =
      let e : literal_of vars w.text ≡ Some l = cc in
      let es : map (λ w. literal_of vars w.text) ws ≡ map Some lits = cc in
      let full : leb vars (length front) ≡ false = lt-leb vars (length front) (omega (arith, n)) in
      let len : length (front ++ l ∷ []) ≡ length front + 1 = length-append front (l ∷ []) in
      ap (λ s. word_says vars kind counted unended more place front s w (ws ++ zero ∷ [])) (literal_read (leb vars (length front)) w.text l full e)
      ∙ ap (λ b. cond b (heard_says kind l ++ list_says vars kind counted unended more place (front ++ l ∷ []) (ws ++ zero ∷ [])) []) d
      ∙ ap (λ x. heard_says kind l ++ x) (words_say kind counted unended more place ws zero lits (front ++ l ∷ []) ds es (omega (arith, n, len)) z)
      ∙ sym (append_assoc (heard_says kind l) (flat_map (heard_says kind) lits) (ended_says kind place ((front ++ l ∷ []) ++ lits) ∷ more))
      ∙ ap (λ x. (heard_says kind l ++ flat_map (heard_says kind) lits) ++ ended_says kind place x ∷ more) (append_assoc front (l ∷ []) lits)

pub clause_byte : (b : ℕ) → (eqb b 45 || is_digit b) ≡ true → (eqb b 99 ≡ false) × (eqb b 118 ≡ false) × (eqb b 115 ≡ false) × (eqb b 100 ≡ false)
clause_byte b h =
    elim (cases_Bool (eqb b 45)) [
      | inl t ↦ let i : b ≡ 45 = eqb-true b 45 t in subst (λ z. (eqb z 99 ≡ false) × (eqb z 118 ≡ false) × (eqb z 115 ≡ false) × (eqb z 100 ≡ false)) (sym i) (refl, refl, refl, refl)
      | inr f ↦
          let e : is_digit b ≡ true = (let k : (eqb b 45 || is_digit b) ≡ is_digit b = rw f refl in sym k ∙ h) in
          let d = digit_bounds b e in
          let u : eqb b 99 ≡ false = grind (arith, nat_tests, d) in
          let v : eqb b 118 ≡ false = grind (arith, nat_tests, d) in
          let x : eqb b 115 ≡ false = grind (arith, nat_tests, d) in
          let y : eqb b 100 ≡ false = grind (arith, nat_tests, d) in
          (u, v, x, y)
    ]

pub literal_byte : (vars : ℕ) (text : List ℕ) (l : LitOf) → literal_of vars text ≡ Some l → (eqb (slice_index text 0) 45 || is_digit (slice_index text 0)) ≡ true
literal_byte vars [] l h = cc
literal_byte vars (b ∷ bs) l h =
    elim (cases_Bool (eqb b 45)) [
      | inl t ↦ rw t refl
      | inr f ↦ let d = (goes_on_is vars 0 b (begins_digit vars b (literal_first vars b bs l h).0 f)).digit in rw (f, d) refl
    ]

pub alone_one : (w : Word) (c : ℕ) (ss : List Saying) → w.text ≡ c ∷ [] → alone w ss ≡ ss
alone_one w c ss e = ap (λ t. cond (eqb (length t) 1) ss (bad BadLine (w.place + 1))) e

-- amid values only values may come
abbrev fits : ListKind → Bool → Bool
fits Clause amid = cond amid false true
fits Deletion amid = cond amid false true
fits Values amid = true

module _ (vars : ℕ) (counted : Bool) (broken going more : List Saying) (place : ℕ) (lits : List LitOf) where
  -- what a list says with its literals
  abbrev whole : ListKind → List Saying
  whole kind = flat_map (heard_says kind) lits ++ ended_says kind place lits ∷ more

  list_whole : (kind : ListKind) (unended : List Saying) (ws : List Word) (zero : Word) → Write vars ws lits → IsZero zero → list_says vars kind counted unended more place [] (ws ++ zero ∷ []) ≡ whole kind
  list_whole kind unended ws zero (d, m, n) z = words_say vars kind counted unended more place ws zero lits [] d m (omega (arith, n)) (z.0, ap (λ b. b || counted) z.1)

  first_is : (ws : List Word) (zero first : Word) (others : List Word) → ws ++ zero ∷ [] ≡ first ∷ others → Write vars ws lits → IsZero zero
      → (eqb (slice_index first.text 0) 45 || is_digit (slice_index first.text 0)) ≡ true
  first_is [] zero first others e w z = let i : zero ≡ first = cc in subst (λ t. (eqb (slice_index t 0) 45 || is_digit (slice_index t 0)) ≡ true) (sym z.0 ∙ ap (λ (x : Word). x.text) i) refl
  first_is (w ∷ ws) zero first others e (d, m, n) z =
      let i : w ≡ first = cc in
      subst (λ (x : Word). (eqb (slice_index x.text 0) 45 || is_digit (slice_index x.text 0)) ≡ true) i (some w ws lits m)
    where
      some : (w : Word) (ws : List Word) (lits : List LitOf) → map (λ w. literal_of vars w.text) (w ∷ ws) ≡ map Some lits → (eqb (slice_index w.text 0) 45 || is_digit (slice_index w.text 0)) ≡ true
      some w ws [] m = cc
      some w ws (l ∷ ls) m = let k : literal_of vars w.text ≡ Some l = cc in literal_byte vars w.text l k

  pub clause_at : (first : Word) (others : List Word) → (eqb (slice_index first.text 0) 45 || is_digit (slice_index first.text 0)) ≡ true
      → visible_says vars counted false broken going more (slice_index first.text 0) first others ≡ list_says vars Clause counted broken more first.place [] (first ∷ others)
  clause_at first others b = let n = clause_byte (slice_index first.text 0) b in rw (n.0, n.1, n.2, n.3, b) refl

  clause_amid : (first : Word) (others : List Word) → (eqb (slice_index first.text 0) 45 || is_digit (slice_index first.text 0)) ≡ true
      → visible_says vars counted true broken going more (slice_index first.text 0) first others ≡ bad BadLine first.place
  clause_amid first others b = let n = clause_byte (slice_index first.text 0) b in rw (n.0, n.1) refl

  -- amid values a clause or deletion is a fault
  pub list_line : (kind : ListKind) (amid : Bool) (words : List Word) → IsList vars kind place lits words
      → line_says vars counted amid broken going more words ≡ cond (fits kind amid) (whole kind) (bad BadLine place)
  list_line Clause false words (ws, zero, e, w, z, first, others, f, p) =
      let b = first_is ws zero first others (sym e ∙ f) w z in
      (ap (line_says vars counted false broken going more) f ∙ clause_at first others b ∙ ap (λ x. list_says vars Clause counted broken more x [] (first ∷ others)) p
      ∙ ap (list_says vars Clause counted broken more place []) (sym f ∙ e) ∙ list_whole Clause broken ws zero w z)
  list_line Clause true words (ws, zero, e, w, z, first, others, f, p) =
      let b = first_is ws zero first others (sym e ∙ f) w z in
      (ap (line_says vars counted true broken going more) f ∙ clause_amid first others b ∙ ap (bad BadLine) p)
  list_line Deletion false words (first, ws, zero, e, t, p, w, z) =
      (ap (line_says vars counted false broken going more) e ∙ ap (λ x. visible_says vars counted false broken going more (slice_index x 0) first (ws ++ zero ∷ [])) t
      ∙ alone_one first 100 (list_says vars Deletion counted broken more first.place [] (ws ++ zero ∷ [])) t ∙ ap (λ x. list_says vars Deletion counted broken more x [] (ws ++ zero ∷ [])) p
      ∙ list_whole Deletion broken ws zero w z)
  list_line Deletion true words (first, ws, zero, e, t, p, w, z) =
      (ap (line_says vars counted true broken going more) e ∙ ap (λ x. visible_says vars counted true broken going more (slice_index x 0) first (ws ++ zero ∷ [])) t ∙ ap (bad BadLine) p)
  list_line Values amid words (first, ws, zero, e, t, p, w, z) =
      (ap (line_says vars counted amid broken going more) e ∙ ap (λ x. visible_says vars counted amid broken going more (slice_index x 0) first (ws ++ zero ∷ [])) t
      ∙ alone_one first 118 (list_says vars Values counted going more first.place [] (ws ++ zero ∷ [])) t ∙ ap (λ x. list_says vars Values counted going more x [] (ws ++ zero ∷ [])) p
      ∙ list_whole Values going ws zero w z)

pub fed_lines : (t rest : List ℕ) → NoFeed t → lines_of (t ++ 10 ∷ rest) ≡ t ∷ lines_of rest
fed_lines [] rest h = refl
fed_lines (b ∷ bs) rest (h, hs) = rw h (ap (put_first b) (fed_lines bs rest hs))

-- a whole line before a fault is said
module _ (vars : ℕ) (front t : List ℕ) (lines : AreLines front) (h : NoFeed t) (none : HasNoFault (sayings vars false (front ++ (t ++ 10 ∷ [])))) where
  front_none : HasNoFault (sayings vars false front)
  front_none f k =
      let m = sayings_more vars false front (t ++ 10 ∷ []) in
      none f (subst (λ z. Contains z (IsFault f)) (sym m.1) (Contains-append_left (sayings vars false front) m.0 (IsFault f) k))

  line_at : (ended amid : Bool) (rest : List ℕ) → lines_say vars ended amid (length front) (lines_of (t ++ 10 ∷ rest))
      ≡ line_says vars true amid (bad BadLine (length front + length t)) (lines_say vars ended true (length front + length t + 1) (lines_of rest)) (lines_say vars ended false (length front + length t + 1) (lines_of rest))
      (words_from true (length front) [] t)
  line_at ended amid rest = let w = some_line rest in ap (lines_say vars ended amid (length front)) (fed_lines t rest h) ∙ fed_says vars ended amid (length front) t (lines_of rest) w.0 w.1 w.2

  pub line_said : (ended : Bool) (rest : List ℕ) (kind : ListKind) (place : ℕ) (lits : List LitOf) → IsList vars kind place lits (words_from true (length front) [] t)
      → (more : List Saying) × (sayings vars ended (front ++ (t ++ 10 ∷ rest)) ≡ sayings vars false front ++ (flat_map (heard_says kind) lits ++ ended_says kind place lits ∷ more))
  line_said ended rest kind place lits l =
      let a = lines_apart vars front lines front_none in
      let feed = length front + length t in
      on (fits kind a.0) refl (a.1 ended (t ++ 10 ∷ rest) ∙ ap (λ z. sayings vars false front ++ z) (line_at ended a.0 rest
      ∙ list_line vars true (bad BadLine feed) (lines_say vars ended true (feed + 1) (lines_of rest)) (lines_say vars ended false (feed + 1) (lines_of rest)) place lits kind a.0 (words_from true (length front) [] t) l))
      (a.1 false (t ++ 10 ∷ []) ∙ ap (λ z. sayings vars false front ++ z) (line_at false a.0 []
      ∙ list_line vars true (bad BadLine feed) (lines_say vars false true (feed + 1) (lines_of [])) (lines_say vars false false (feed + 1) (lines_of [])) place lits kind a.0 (words_from true (length front) [] t) l))
    where
      on : (b : Bool) → fits kind (lines_apart vars front lines front_none).0 ≡ b
          → sayings vars ended (front ++ (t ++ 10 ∷ rest)) ≡ sayings vars false front
          ++ cond (fits kind (lines_apart vars front lines front_none).0) (flat_map (heard_says kind) lits ++ ended_says kind place lits ∷ lines_say vars ended false (length front + length t + 1) (lines_of rest)) (bad BadLine place)
          → sayings vars false (front ++ (t ++ 10 ∷ [])) ≡ sayings vars false front
          ++ cond (fits kind (lines_apart vars front lines front_none).0) (flat_map (heard_says kind) lits ++ ended_says kind place lits ∷ lines_say vars false false (length front + length t + 1) (lines_of [])) (bad BadLine place)
          → (more : List Saying) × (sayings vars ended (front ++ (t ++ 10 ∷ rest)) ≡ sayings vars false front ++ (flat_map (heard_says kind) lits ++ ended_says kind place lits ∷ more))
      on true x e u = (
        lines_say vars ended false (length front + length t + 1) (lines_of rest),
        e ∙ ap (λ z. sayings vars false front
            ++ cond z (flat_map (heard_says kind) lits ++ ended_says kind place lits ∷ lines_say vars ended false (length front + length t + 1) (lines_of rest)) (bad BadLine place)) x,
      )
      on false x e u =
          let f : ParseFault = record { kind = BadLine; byte = place } in
          let k : sayings vars false (front ++ (t ++ 10 ∷ [])) ≡ sayings vars false front ++ bad BadLine place =
          u ∙ ap (λ z. sayings vars false front
          ++ cond z (flat_map (heard_says kind) lits ++ ended_says kind place lits ∷ lines_say vars false false (length front + length t + 1) (lines_of [])) (bad BadLine place)) x in
          absurd (none f (subst (λ z. Contains z (IsFault f)) (sym k) (Contains-append_right (sayings vars false front) (bad BadLine place) (IsFault f) (Contains-head (IsFault f) []))))
