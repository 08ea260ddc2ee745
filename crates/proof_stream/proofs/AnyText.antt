-- What lines of text say, whatever their literals.
use Rattle.std.proofs.Common.{◌≡◌, ◌⊎◌, ℕ, ◌+◌, ◌≤◌, Bool, true, false, cond, ◌&&◌, ◌||◌, eqb, leb, List, [], ◌∷◌, ◌++◌, length, Option, Some, None, refl, ap, sym, ◌∙◌, inl, inr, arith, append_assoc, subst, length-append}
use Rattle.std.specs.Prelude.{codes, slice_index}
use Rattle.std.proofs.lemmas.Bool.{cases_Bool, le-leb, leb-true, leb-false}
use Rattle.std.proofs.lemmas.List.{append-nil}
use Rattle.std.specs.Str.Parse.{digits_value, starts_with_minus}
use Rattle.cnf_form.specs.Cnf.{LitOf, LitWithin}
use Rattle.cert_stream.specs.Text.{Word, is_digit, is_number, lines_of, literal_of, size_of, words_from}
use Rattle.cert_stream.specs.Scan.{Scanned, Reads, Misfit, scan}
use Rattle.cert_stream.specs.Words.{IsMisfit, IsRead}
use Rattle.cert_stream.specs.Places.{IsZero}
use Rattle.cert_stream.specs.Stream.{bad, ended_says, heard_says, line_says, lines_say, list_says, visible_says}
use Rattle.cert_stream.specs.Telling.{Saying}
use Rattle.cert_stream.specs.declared.mode.ListKind.{ListKind}
use Rattle.cert_stream.specs.declared.mode.ListKind.TheVariants.{Clause as ClauseList, Deletion as DeletionList}
use Rattle.cert_stream.specs.declared.mode.ParseFaultKind.{ParseFaultKind}
use Rattle.cert_stream.specs.declared.mode.ParseFaultKind.TheVariants.{BadLine, BadLiteral, LineTooLong}
use Rattle.cert_stream.specs.declared.mode.Part.{Part}
use Rattle.cert_stream.specs.declared.mode.Part.TheVariants.{Gap, Minus, Zero, Digits}
use Rattle.cert_stream.proofs.Apart.{alone_one, clause_at, clause_byte, fed_lines, literal_byte, literal_read, zero_read}
use Rattle.cert_stream.proofs.Digits.{both_true}
use Rattle.cert_stream.proofs.Reading.{literal_first, word_read}
use Rattle.cert_stream.proofs.Streams.{fed_says, some_line}
use Rattle.cert_stream.proofs.Tails.{word_says}
use Rattle.cert_stream.proofs.Within.{literal_within}
use Rattle.proof_stream.specs.AnyLines.{AreSaidTo, AreTextLines, Either, IsTextLine, LineFault, SaidBy, Tells, WriteAny, fault_in, is_within}
use Rattle.proof_stream.specs.Lines.{FileSays, TextSays, Plain, Refused}
use Rattle.proof_stream.specs.Passing.{Passes, starts_after}
use Rattle.proof_stream.specs.Spelling.{ProofLine}
use Rattle.proof_stream.specs.Text.{is_claim}
use Rattle.proof_stream.specs.declared.spot.Form.TheVariants.{Text}
use Rattle.proof_stream.specs.declared.spot.LineKind.{LineKind}
use Rattle.proof_stream.specs.declared.spot.LineKind.TheVariants.{Clause, Deletion}
use Rattle.proof_stream.proofs.Heads.{passes_none}
use Rattle.proof_stream.proofs.Spelling.{feed_passes, passes_append, passes_text}

-- whether a literal has a variable from 1 to `vars`
pub within_cases : (vars : ℕ) (l : LitOf) → ((is_within vars l ≡ true) × LitWithin vars l) ⊎ ((is_within vars l ≡ false) × (LitWithin vars l → ⊥))
within_cases vars l =
    elim (cases_Bool (leb 1 l.var)) [
      | inr f ↦ let n = leb-false 1 l.var f in inr (rw f refl, λ w. omega (arith, n, w.0))
      | inl t ↦ elim (cases_Bool (leb l.var vars)) [
        | inr g ↦ let n = leb-false l.var vars g in inr (rw (t, g) refl, λ w. omega (arith, n, w.1))
        | inl u ↦ inl (rw (t, u) refl, (leb-true 1 l.var t, leb-true l.var vars u))
      ]
    ]

-- the literal that a word writes, whatever the greatest variable is
some_of : (b : Bool) (r l : LitOf) → cond b (Some r) None ≡ Some l → r ≡ l
some_of true r l e = let k : r ≡ l = cc in k
some_of false r l e = cc

same_literal : (a b : ℕ) (text : List ℕ) (l m : LitOf) → literal_of a text ≡ Some l → literal_of b text ≡ Some m → l ≡ m
same_literal a b text l m e f =
    let r : LitOf = record { var = digits_value 10 (size_of text); negated = starts_with_minus text } in
    sym (some_of (is_number (size_of text) && leb (digits_value 10 (size_of text)) a) r l e) ∙ some_of (is_number (size_of text) && leb (digits_value 10 (size_of text)) b) r m f

cond_true : (b : Bool) (r l : LitOf) → cond b (Some r) None ≡ Some l → b ≡ true
cond_true true r l e = refl
cond_true false r l e = cc

-- a word that writes a literal for one greatest variable does for any that is no less than the literal's
bounded : (a b : ℕ) (text : List ℕ) (l : LitOf) → literal_of a text ≡ Some l → l.var ≤ b → literal_of b text ≡ Some l
bounded a b text l e h =
    let r : LitOf = record { var = digits_value 10 (size_of text); negated = starts_with_minus text } in
    let t = both_true (is_number (size_of text)) (leb (digits_value 10 (size_of text)) a) (cond_true (is_number (size_of text) && leb (digits_value 10 (size_of text)) a) r l e) in
    let same : r ≡ l = some_of (is_number (size_of text) && leb (digits_value 10 (size_of text)) a) r l e in
    let v : digits_value 10 (size_of text) ≡ l.var = ap (λ (z : LitOf). z.var) same in
    let u : leb (digits_value 10 (size_of text)) b ≡ true = le-leb (digits_value 10 (size_of text)) b (omega (arith, v, h)) in
    ap (λ z. cond (z && leb (digits_value 10 (size_of text)) b) (Some r) None) t.0 ∙ ap (λ z. cond z (Some r) None) u ∙ ap Some same

fitting : (vars : ℕ) (text : List ℕ) (l : LitOf) → literal_of l.var text ≡ Some l → l.var ≤ vars → literal_of vars text ≡ Some l
fitting vars text l e h = bounded l.var vars text l e h

pub own_bound : (vars : ℕ) (text : List ℕ) (l : LitOf) → literal_of vars text ≡ Some l → literal_of l.var text ≡ Some l
own_bound vars text l e = bounded vars l.var text l e (omega arith)

module _ (vars : ℕ) (text : List ℕ) (l : LitOf) (e : literal_of l.var text ≡ Some l) where
  not_gap : text ≡ [] → ⊥
  not_gap r = let k : literal_of l.var [] ≡ Some l = ap (literal_of l.var) (sym r) ∙ e in cc

  not_minus : text ≡ codes "-" → ⊥
  not_minus r = let k : literal_of l.var (codes "-") ≡ Some l = ap (literal_of l.var) (sym r) ∙ e in cc

  not_zero : (more : List ℕ) → text ≡ 48 ∷ more → ⊥
  not_zero more r = let k = literal_first l.var 48 more l (ap (literal_of l.var) (sym r) ∙ e) in let q : true ≡ false = k.1 in cc

  -- one of another variable, in a line that isn't full
  pub bad_read : (full : Bool) → full ≡ false → (LitWithin vars l → ⊥) → (n : ℕ) × (scan vars full Gap text ≡ Misfit BadLiteral n)
  bad_read full f out = by (scan vars full Gap text) (word_read vars full text)
    where
      by : (s : Scanned Part) → IsRead vars full text s → (n : ℕ) × (s ≡ Misfit BadLiteral n)
      by (Reads Gap) r = absurd (not_gap r)
      by (Reads Minus) r = absurd (not_minus r.0)
      by (Reads Zero) r = absurd (not_zero [] r)
      by (Reads (Digits m)) (n, r) = absurd (out (subst (LitWithin vars) (same_literal vars l.var text m l r e) (literal_within vars text m r)))
      by (Misfit BadLine n) r = absurd (r.not_line refl)
      by (Misfit BadLiteral n) r = (n, refl)
      by (Misfit LineTooLong n) r = absurd (let k = (r.too_long.0 refl).0 in let q : true ≡ false = sym k ∙ f in cc)

  -- one of another variable, one too many
  pub either_read : (full : Bool) → full ≡ true → (k : ParseFaultKind) × (n : ℕ) × Tells Either k × (scan vars full Gap text ≡ Misfit k n)
  either_read full f = by (scan vars full Gap text) (word_read vars full text)
    where
      by : (s : Scanned Part) → IsRead vars full text s → (k : ParseFaultKind) × (n : ℕ) × Tells Either k × (s ≡ Misfit k n)
      by (Reads Gap) r = absurd (not_gap r)
      by (Reads Minus) r = absurd (not_minus r.0)
      by (Reads Zero) r = absurd (not_zero [] r)
      by (Reads (Digits m)) r = absurd (let q : true ≡ false = sym f ∙ r.0 in cc)
      by (Misfit BadLine n) r = absurd (r.not_line refl)
      by (Misfit BadLiteral n) r = (BadLiteral, n, inl refl, refl)
      by (Misfit LineTooLong n) r = (LineTooLong, n, inr refl, refl)

  -- one too many
  pub long_read : (full : Bool) → full ≡ true → l.var ≤ vars → (n : ℕ) × (scan vars full Gap text ≡ Misfit LineTooLong n)
  long_read full f in_range = by (scan vars full Gap text) (word_read vars full text)
    where
      no_room : full ≡ false → ⊥
      no_room g = let q : true ≡ false = sym f ∙ g in cc

      one_zero : (front more : List ℕ) → front ++ more ≡ codes "0" → (front ≡ []) ⊎ (front ≡ codes "0")
      one_zero [] more q = inl refl
      one_zero (b ∷ []) more q = inr (let k : b ≡ 48 = cc in ap (λ z. z ∷ []) k)
      one_zero (b ∷ c ∷ front) more q = absurd (let k = q in cc)

      not_bad : (n : ℕ) → IsMisfit vars full text BadLiteral n → ⊥
      not_bad n r =
          elim r.before.1 [
            | inr g ↦ no_room g.0
            | inl z ↦ elim (one_zero r.front r.before.0 z) [
              | inr k ↦ not_zero (r.byte ∷ r.rest) (r.are ∙ ap (λ x. x ++ r.byte ∷ r.rest) k)
              | inl k ↦
                  let whole : text ≡ r.byte ∷ r.rest = r.are ∙ ap (λ x. x ++ r.byte ∷ r.rest) k in
                  let q : BadLiteral ≡ LineTooLong = r.too_long.1 (f, k, (r.rest, l, ap (literal_of vars) (sym whole) ∙ fitting vars text l e in_range)) in
                  cc
            ]
          ]

      by : (s : Scanned Part) → IsRead vars full text s → (n : ℕ) × (s ≡ Misfit LineTooLong n)
      by (Reads Gap) r = absurd (not_gap r)
      by (Reads Minus) r = absurd (not_minus r.0)
      by (Reads Zero) r = absurd (not_zero [] r)
      by (Reads (Digits m)) (n, r) = absurd (no_room n)
      by (Misfit BadLine n) r = absurd (r.not_line refl)
      by (Misfit BadLiteral n) r = absurd (not_bad n r)
      by (Misfit LineTooLong n) r = (n, refl)

-- what a list with its 0 says, or the fault in it
abbrev pub SaysBy : Saying → List Saying → Option LineFault → List Saying → Type 0
SaysBy said more None ss = ss ≡ said ∷ more
SaysBy said more (Some f) ss = (k : ParseFaultKind) × (n : ℕ) × Tells f k × (ss ≡ bad k n)

pub says_as : (said : Saying) (more : List Saying) (o : Option LineFault) (ss ts : List Saying) → ss ≡ ts → SaysBy said more o ts → SaysBy said more o ss
says_as said more None ss ts e h = e ∙ h
says_as said more (Some f) ss ts e (k, n, i, h) = (k, n, i, e ∙ h)

-- the words of a list
module _ (vars : ℕ) (kind : ListKind) (still : (l : LitOf) → heard_says kind l ≡ []) (counted : Bool) (unended more : List Saying) (place : ℕ) (line : List LitOf) where
  abbrev Says : Option LineFault → List Saying → Type 0
  Says = SaysBy (ended_says kind place line) more

  pub words_say : (front lits : List LitOf) (ws : List Word) (zero : Word) → line ≡ front ++ lits → length front ≤ vars → WriteAny ws lits → IsZero zero
      → Says (fault_in vars (length front) lits) (list_says vars kind counted unended more place front (ws ++ zero ∷ []))
  words_say front [] [] zero e len h (z, d) =
      let k : front ≡ line = sym (append-nil front) ∙ sym e in
      ap (λ s. word_says vars kind counted unended more place front s zero []) (zero_read vars (leb vars (length front)) zero.text z)
      ∙ ap (λ b. cond (b || counted) (ended_says kind place front ∷ more) []) d
      ∙ ap (λ x. ended_says kind place x ∷ more) k
  words_say front (l ∷ lits) [] zero e len h z = absurd (let k = h in cc)
  words_say front [] (v ∷ ws) zero e len h z = absurd h
  words_say front (l ∷ lits) (v ∷ ws) zero e len (d, t, h) z =
      elim (within_cases vars l) [
        | inr (n, out) ↦ elim (cases_Bool (leb vars (length front))) [
          | inl u ↦
              let r = either_read vars v.text l t (leb vars (length front)) u in
              rw (n, u) (r.0, v.place + r.1, r.2, ap (λ s. word_says vars kind counted unended more place front s v (ws ++ zero ∷ [])) r.3)
          | inr u ↦
              let r = bad_read vars v.text l t (leb vars (length front)) u out in
              rw (n, u) (BadLiteral, v.place + r.0, refl, ap (λ s. word_says vars kind counted unended more place front s v (ws ++ zero ∷ [])) r.1)
        ]
        | inl (y, is) ↦ elim (cases_Bool (leb vars (length front))) [
          | inl u ↦
              let r = long_read vars v.text l t (leb vars (length front)) u is.1 in
              rw (y, u) (LineTooLong, v.place + r.0, refl, ap (λ s. word_says vars kind counted unended more place front s v (ws ++ zero ∷ [])) r.1)
          | inr u ↦
              let less = leb-false vars (length front) u in
              let longer : length (front ++ l ∷ []) ≡ length front + 1 = length-append front (l ∷ []) in
              let again = words_say (front ++ l ∷ []) lits ws zero (e ∙ sym (append_assoc front (l ∷ []) lits)) (omega (arith, less, longer)) h z in
              let says : list_says vars kind counted unended more place front (v ∷ ws ++ zero ∷ []) ≡ list_says vars kind counted unended more place (front ++ l ∷ []) (ws ++ zero ∷ []) =
              ap (λ s. word_says vars kind counted unended more place front s v (ws ++ zero ∷ [])) (literal_read vars (leb vars (length front)) v.text l u (fitting vars v.text l t is.1))
              ∙ ap (λ b. cond b (heard_says kind l ++ list_says vars kind counted unended more place (front ++ l ∷ []) (ws ++ zero ∷ [])) []) d
              ∙ ap (λ x. x ++ list_says vars kind counted unended more place (front ++ l ∷ []) (ws ++ zero ∷ [])) (still l) in
              rw (y, u) (says_as (ended_says kind place line) more (fault_in vars (length front + 1) lits) (list_says vars kind counted unended more place front (v ∷ ws ++ zero ∷ [])) (list_says vars kind counted unended more place (front ++ l ∷ []) (ws ++ zero ∷ [])) says
              (subst (λ n. Says (fault_in vars n lits) (list_says vars kind counted unended more place (front ++ l ∷ []) (ws ++ zero ∷ []))) longer again))
        ]
      ]

no_heard_clause : (l : LitOf) → heard_says ClauseList l ≡ []
no_heard_clause l = refl

no_heard_deletion : (l : LitOf) → heard_says DeletionList l ≡ []
no_heard_deletion l = refl

-- a line's first byte
first_byte : (lits : List LitOf) (ws : List Word) (zero : Word) → WriteAny ws lits → IsZero zero
    → (first : Word) × (others : List Word) × (ws ++ zero ∷ [] ≡ first ∷ others) × ((eqb (slice_index first.text 0) 45 || is_digit (slice_index first.text 0)) ≡ true)
first_byte lits [] zero h (z, d) = (zero, [], refl, ap (λ t. eqb (slice_index t 0) 45 || is_digit (slice_index t 0)) z)
first_byte [] (w ∷ ws) zero h z = absurd h
first_byte (l ∷ lits) (w ∷ ws) zero (d, t, h) z = (w, ws ++ zero ∷ [], refl, literal_byte l.var w.text l t)

unclaimed : (kind : LineKind) (lits : List LitOf) (words : List Word) → IsTextLine kind lits words → (first : Word) × (others : List Word) × (words ≡ first ∷ others) × (is_claim (slice_index first.text 0) ≡ false)
unclaimed Clause lits words (ws, zero, e, h, z) =
    let k = first_byte lits ws zero h z in
    let b = clause_byte (slice_index k.0.text 0) k.3 in
    (k.0, k.1, e ∙ k.2, rw (b.1, b.2) refl)
unclaimed Deletion lits words (first, ws, zero, e, t, h, z) = (first, ws ++ zero ∷ [], e, ap (λ x. is_claim (slice_index x 0)) t)

module _ (vars : ℕ) where
  abbrev Blank : List ℕ → Type 0
  Blank tail = (at : ℕ) → lines_say vars false false at (lines_of tail) ≡ []

  abbrev Then : List Saying → List Saying → Type 0
  Then later more = more ≡ later

  said_clause : (o : Option LineFault) (place : ℕ) (lits : List LitOf) (more ss : List Saying) → SaysBy (ended_says ClauseList place lits) more o ss → SaidBy o (record { kind = Clause; lits = lits }) (Then more) ss
  said_clause None place lits more ss h = (place, more, h, refl)
  said_clause (Some f) place lits more ss h = h

  said_deletion : (o : Option LineFault) (place : ℕ) (lits : List LitOf) (more ss : List Saying) → SaysBy (ended_says DeletionList place lits) more o ss → SaidBy o (record { kind = Deletion; lits = lits }) (Then more) ss
  said_deletion None place lits more ss h = (place, more, h, refl)
  said_deletion (Some f) place lits more ss h = h

  line_said_any : (broken going more : List Saying) (kind : LineKind) (lits : List LitOf) (words : List Word) → IsTextLine kind lits words
      → SaidBy (fault_in vars 0 lits) (record { kind = kind; lits = lits }) (Then more) (line_says vars true false broken going more words)
  line_said_any broken going more Clause lits words (ws, zero, e, h, z) =
      let k = first_byte lits ws zero h z in
      let says = ap (line_says vars true false broken going more) (e ∙ k.2) ∙ clause_at vars true broken going more 0 lits k.0 k.1 k.3 ∙ ap (list_says vars ClauseList true broken more k.0.place []) (sym k.2) in
      said_clause (fault_in vars 0 lits) k.0.place lits more (line_says vars true false broken going more words)
      (says_as (ended_says ClauseList k.0.place lits) more (fault_in vars 0 lits) (line_says vars true false broken going more words) (list_says vars ClauseList true broken more k.0.place [] (ws ++ zero ∷ [])) says
      (words_say vars ClauseList no_heard_clause true broken more k.0.place lits [] lits ws zero refl (omega arith) h z))
  line_said_any broken going more Deletion lits words (first, ws, zero, e, t, h, z) =
      let says = ap (line_says vars true false broken going more) e ∙ ap (λ x. visible_says vars true false broken going more (slice_index x 0) first (ws ++ zero ∷ [])) t
      ∙ alone_one first 100 (list_says vars DeletionList true broken more first.place [] (ws ++ zero ∷ [])) t in
      said_deletion (fault_in vars 0 lits) first.place lits more (line_says vars true false broken going more words)
      (says_as (ended_says DeletionList first.place lits) more (fault_in vars 0 lits) (line_says vars true false broken going more words) (list_says vars DeletionList true broken more first.place [] (ws ++ zero ∷ [])) says
      (words_say vars DeletionList no_heard_deletion true broken more first.place lits [] lits ws zero refl (omega arith) h z))

  pub said_on : (o : Option LineFault) (l : ProofLine) (ls : List ProofLine) (later ss ts : List Saying) → ss ≡ ts → AreSaidTo vars ls later → SaidBy o l (Then later) ts → SaidBy o l (AreSaidTo vars ls) ss
  said_on None l ls later ss ts e a (p, more, k, q) = (p, more, e ∙ k, subst (AreSaidTo vars ls) (sym q) a)
  said_on (Some f) l ls later ss ts e a (k, n, i, q) = (k, n, i, e ∙ q)

  pub text_said : (ls : List ProofLine) (at : ℕ) (bytes tail : List ℕ) → AreTextLines at bytes ls → Blank tail → AreSaidTo vars ls (lines_say vars false false at (lines_of (bytes ++ tail)))
  text_said [] at bytes tail e k = ap (λ z. lines_say vars false false at (lines_of (z ++ tail))) e ∙ k at
  text_said (l ∷ ls) at bytes tail (text, rest, e, f, i, h) k =
      let w = some_line (rest ++ tail) in
      let behind = at + length text + 1 in
      let going = lines_say vars false true behind (lines_of (rest ++ tail)) in
      let later = lines_say vars false false behind (lines_of (rest ++ tail)) in
      said_on (fault_in vars 0 l.lits) l ls later (lines_say vars false false at (lines_of (bytes ++ tail))) (line_says vars true false (bad BadLine (at + length text)) going later (words_from true at [] text))
      (ap (λ z. lines_say vars false false at (lines_of z)) (ap (λ z. z ++ tail) e ∙ append_assoc text (10 ∷ rest) tail)
      ∙ ap (lines_say vars false false at) (fed_lines text (rest ++ tail) f)
      ∙ fed_says vars false false at text (lines_of (rest ++ tail)) w.0 w.1 w.2)
      (text_said ls behind rest tail h k)
      (line_said_any (bad BadLine (at + length text)) going later l.kind l.lits (words_from true at [] text) i)

  passes_lines : (ls : List ProofLine) (at : ℕ) (bytes tail : List ℕ) → AreTextLines at bytes ls → Passes true tail → Passes true (bytes ++ tail)
  passes_lines [] at bytes tail e k = subst (λ z. Passes true (z ++ tail)) (sym e) k
  passes_lines (l ∷ ls) at bytes tail (text, rest, e, f, i, h) k =
      let u = unclaimed l.kind l.lits (words_from true at [] text) i in
      let again = passes_lines ls (at + length text + 1) rest tail h k in
      subst (Passes true) (sym (ap (λ z. z ++ tail) e ∙ append_assoc text (10 ∷ rest) tail))
      (passes_append true text (10 ∷ rest ++ tail) (passes_text at text u.0 u.1 f u.2 u.3) (feed_passes (starts_after true text) (rest ++ tail) again))

  says_tail : (ls : List ProofLine) (t tail : List ℕ) (ss : List Saying) → AreTextLines 0 t ls → Blank tail → Passes true tail → TextSays vars (t ++ tail) ss → AreSaidTo vars ls ss
  says_tail ls t tail ss h k p (Plain n e) = subst (AreSaidTo vars ls) (sym e) (text_said ls 0 t tail h k)
  says_tail ls t tail ss h k p (Refused front b rest g i q n e) = absurd (passes_none (t ++ tail) (passes_lines ls 0 t tail h p) (front, b, rest, g, i, q))

  pub text_lines : (ls : List ProofLine) (t : List ℕ) → AreTextLines 0 t ls → (ended : Bool) (ss : List Saying) → FileSays Text vars ended t ss → AreSaidTo vars ls ss
  text_lines ls t h true ss s = says_tail ls t (10 ∷ []) ss h (λ at. refl) (refl, tt) s
  text_lines ls t h false ss s = says_tail ls t [] ss h (λ at. refl) tt (subst (λ z. TextSays vars z ss) (sym (append-nil t)) s)
