-- A binary proof and its text say the same lines, up to the first that does not fit.
use Rattle.std.proofs.Common.{◌≡◌, ℕ, ◌+◌, ◌*◌, ◌<◌, ◌≤◌, Bool, true, false, leb, List, [], ◌∷◌, ◌++◌, length, Option, Some, None, refl, ap, sym, ◌∙◌, inl, inr, arith, append_assoc, cond, subst, length-append}
use Rattle.std.specs.Prelude.{map}
use Rattle.std.proofs.lemmas.Bool.{cases_Bool, leb-false, lt-leb}
use Rattle.std.proofs.lemmas.List.{append-nil}
use Rattle.std.proofs.lemmas.List.Elements.{Contains-append_cases, All-cons, All-head, All-nil, All-tail}
use Rattle.cnf_form.specs.Cnf.{LitOf, LitWithin, ClauseWithin, index_of}
use Rattle.cnf_form.proofs.Members.{Contains-empty, Contains-one}
use Rattle.cnf_form.specs.Coding.{lit_from-index_of}
use Rattle.cert_stream.specs.Places.{AreDone, IsList}
use Rattle.cert_stream.specs.Stream.{bad, lines_say}
use Rattle.cert_stream.specs.Telling.{Saying}
use Rattle.cert_stream.specs.Text.{Word, lines_of, literal_of, words_from}
use Rattle.cert_stream.specs.declared.mode.ParseFaultKind.{ParseFaultKind}
use Rattle.cert_stream.specs.declared.mode.ParseFaultKind.TheVariants.{BadLine, BadLiteral, LineTooLong}
use Rattle.cert_stream.proofs.Within.{literal_within}
use Rattle.proof_stream.specs.AnyLines.{AreBinaryLines, AreNumbersOf, AreSaidTo, AreTextLines, Either, IsCrowded, IsNumberOf, IsTextLine, LineFault, SaidBy, SpeltAny, Tells, WriteAny, fault_in}
use Rattle.proof_stream.specs.Binary.{line_said}
use Rattle.proof_stream.specs.Grouping.{IsLiteral, IsRead}
use Rattle.proof_stream.specs.Lines.{FileSays, LineOf, numbers_say}
use Rattle.proof_stream.specs.Numbers.{GroupsRead, Goes, Unfit, Whole, groups_read, number, numbers_from}
use Rattle.proof_stream.specs.Spelling.{AreGroups, AreNumbers, AreSaid, IsBinaryProof, IsTextProof, ProofLine, Spelt, list_kind}
use Rattle.proof_stream.specs.declared.spot.Form.TheVariants.{Binary, Text}
use Rattle.proof_stream.specs.declared.spot.LineKind.{LineKind}
use Rattle.proof_stream.specs.declared.spot.LineKind.TheVariants.{Clause, Deletion}
use Rattle.proof_stream.proofs.AnyText.{SaysBy, own_bound, said_on, says_as, text_lines, text_said, within_cases}
use Rattle.proof_stream.proofs.Binaries.{number_says}
use Rattle.proof_stream.proofs.BinaryLines.{all_groups, within_of}
use Rattle.proof_stream.proofs.Grouping.{groups_are}
use Rattle.proof_stream.proofs.Spelling.{first_some, groups_whole, head_says, index_bounds, numbers_groups, weighed}

index_low : (v : ℕ) (b : Bool) → 0 < v → 2 ≤ 2 * v + cond b 1 0
index_low v true l = omega arith
index_low v false l = omega arith

-- a literal's number
module _ (vars : ℕ) (g : List ℕ) (l : LitOf) (h : IsNumberOf vars g l) where
  is_literal_in : (n : ℕ) → IsLiteral vars g n → LitWithin vars l
  is_literal_in n (i, low, high) =
      let e : n ≡ index_of l = sym i.2 ∙ h.1 in
      within_of vars l.var l.negated (omega (arith, low, e)) (omega (arith, high, e))

  longer : (more : List ℕ) (n : ℕ) → IsLiteral vars (g ++ more) n → LitWithin vars l
  longer more n i = is_literal_in n (subst (λ z. IsLiteral vars z n) (ap (λ z. g ++ z) (all_groups g more h.0 i.0.0) ∙ append-nil g) i)

  shorter : (front rest : List ℕ) (n : ℕ) → g ≡ front ++ rest → IsLiteral vars front n → LitWithin vars l
  shorter front rest n e i =
      let z = all_groups front rest i.0.0 (subst AreGroups e h.0) in
      is_literal_in n (subst (λ x. IsLiteral vars x n) (sym (e ∙ ap (λ x. front ++ x) z ∙ append-nil front)) i)

  literal_here : LitWithin vars l → IsLiteral vars g (index_of l)
  literal_here w = let b = index_bounds vars l.var l.negated w.0 w.1 in ((h.0, h.3 w.1, h.1), b.0, b.1)

  pub bad_groups : (full : Bool) → full ≡ false → (LitWithin vars l → ⊥) → groups_read vars full 0 1 g ≡ Unfit BadLiteral
  bad_groups full f out = by (groups_read vars full 0 1 g) (groups_are vars full g)
    where
      by : (r : GroupsRead) → IsRead vars full g r → r ≡ Unfit BadLiteral
      by (Goes v w) (inl e) = absurd (subst AreGroups e h.0)
      by (Goes v w) (inr (e, b)) = absurd (out (longer b.0 b.1 b.2))
      by (Whole n) (e, front, rest, q, i) = absurd (out (shorter front rest n q i))
      by (Unfit BadLine) i = absurd i
      by (Unfit BadLiteral) i = refl
      by (Unfit LineTooLong) i = absurd (let q : true ≡ false = sym i.0 ∙ f in cc)

  pub either_groups : (full : Bool) → full ≡ true → (k : ParseFaultKind) × Tells Either k × (groups_read vars full 0 1 g ≡ Unfit k)
  either_groups full f = by (groups_read vars full 0 1 g) (groups_are vars full g)
    where
      by : (r : GroupsRead) → IsRead vars full g r → (k : ParseFaultKind) × Tells Either k × (r ≡ Unfit k)
      by (Goes v u) (inl e) = absurd (subst AreGroups e h.0)
      by (Goes v u) (inr i) = absurd (let q : true ≡ false = sym f ∙ i.0 in cc)
      by (Whole n) i = absurd (let q : true ≡ false = sym f ∙ i.0 in cc)
      by (Unfit BadLine) i = absurd i
      by (Unfit BadLiteral) i = (BadLiteral, inl refl, refl)
      by (Unfit LineTooLong) i = (LineTooLong, inr refl, refl)

  pub long_groups : (full : Bool) → full ≡ true → LitWithin vars l → groups_read vars full 0 1 g ≡ Unfit LineTooLong
  long_groups full f w = by (groups_read vars full 0 1 g) (groups_are vars full g)
    where
      by : (r : GroupsRead) → IsRead vars full g r → r ≡ Unfit LineTooLong
      by (Goes v u) (inl e) = absurd (subst AreGroups e h.0)
      by (Goes v u) (inr i) = absurd (let q : true ≡ false = sym f ∙ i.0 in cc)
      by (Whole n) i = absurd (let q : true ≡ false = sym f ∙ i.0 in cc)
      by (Unfit BadLine) i = absurd i
      by (Unfit BadLiteral) i = absurd (i ([], index_of l, subst (λ z. IsLiteral vars z (index_of l)) (sym (append-nil g)) (literal_here w)))
      by (Unfit LineTooLong) i = refl

  pub whole_groups : (full : Bool) → full ≡ false → LitWithin vars l → groups_read vars full 0 1 g ≡ Whole (index_of l)
  whole_groups full f w =
      let b = index_bounds vars l.var l.negated w.0 w.1 in
      let e = h.1 in
      ap (λ x. groups_read vars x 0 1 g) f ∙ groups_whole vars (index_of l) b.0 b.1 0 1 g h.0 (weighed g (h.3 w.1)) (omega (arith, e))

module _ (vars total : ℕ) (ended : Bool) where
  abbrev cut : List Saying
  cut = cond ended (bad BadLine total) []

  abbrev line : LineKind → ℕ → List LitOf → Option LineOf
  line kind place lits = Some (record { kind = kind; place = place; lits = lits })

  -- what numbers say that are read after these literals
  abbrev NumbersSay : LineKind → ℕ → List LitOf → List LitOf → List ℕ → Option LineFault → List Saying → Type 0
  NumbersSay kind place lits c rest o ss = (behind : ℕ) × SaysBy (line_said kind place (lits ++ c)) (numbers_say vars cut None (numbers_from behind [] rest)) o ss

  literals_say : (kind : LineKind) (place at : ℕ) (lits c : List LitOf) (text rest : List ℕ) → length lits ≤ vars → AreNumbersOf vars text c
      → NumbersSay kind place lits c rest (fault_in vars (length lits) c) (numbers_say vars cut (line kind place lits) (numbers_from at [] (text ++ 0 ∷ rest)))
  literals_say kind place at lits [] text rest len e = (
    at + 0 + 1,
    ap (λ z. numbers_say vars cut (line kind place lits) (numbers_from at [] (z ++ 0 ∷ rest))) e ∙ ap (λ z. line_said kind place z ∷ numbers_say vars cut None (numbers_from (at + 0 + 1) [] rest)) (sym (append-nil lits)),
  )
  literals_say kind place at lits (m ∷ c) text rest len (front, tail, e, is, h) =
      let k = numbers_groups at [] front (tail ++ 0 ∷ rest) is.0 in
      let z = first_some front (index_of m) is.0 is.1 (index_low m.var m.negated is.2) in
      let numbers = ap (λ x. numbers_say vars cut (line kind place lits) (numbers_from at [] x)) (ap (λ x. x ++ 0 ∷ rest) e ∙ append_assoc front tail (0 ∷ rest)) ∙ ap (numbers_say vars cut (line kind place lits)) k.1 in
      let read = λ (r : GroupsRead) (g : groups_read vars (leb vars (length lits)) 0 1 front ≡ r). numbers ∙ number_says vars total ended kind place lits (number at front true) (numbers_from k.0 [] (tail ++ 0 ∷ rest)) r z g in
      elim (within_cases vars m) [
        | inr (n, out) ↦ elim (cases_Bool (leb vars (length lits))) [
          | inl u ↦ let r = either_groups vars front m is (leb vars (length lits)) u in rw (n, u) (k.0, (r.0, at, r.1, read (Unfit r.0) r.2))
          | inr u ↦ rw (n, u) (k.0, (BadLiteral, at, refl, read (Unfit BadLiteral) (bad_groups vars front m is (leb vars (length lits)) u out)))
        ]
        | inl (y, in_range) ↦ elim (cases_Bool (leb vars (length lits))) [
          | inl u ↦ rw (y, u) (k.0, (LineTooLong, at, refl, read (Unfit LineTooLong) (long_groups vars front m is (leb vars (length lits)) u in_range)))
          | inr u ↦
              let less = leb-false vars (length lits) u in
              let longer : length (lits ++ m ∷ []) ≡ length lits + 1 = length-append lits (m ∷ []) in
              let again = literals_say kind place k.0 (lits ++ m ∷ []) c tail rest (omega (arith, less, longer)) h in
              let says : numbers_say vars cut (line kind place lits) (numbers_from at [] (text ++ 0 ∷ rest)) ≡ numbers_say vars cut (line kind place (lits ++ m ∷ [])) (numbers_from k.0 [] (tail ++ 0 ∷ rest)) =
              read (Whole (index_of m)) (whole_groups vars front m is (leb vars (length lits)) u in_range) ∙ ap (λ x. numbers_say vars cut (line kind place (lits ++ x ∷ [])) (numbers_from k.0 [] (tail ++ 0 ∷ rest))) (lit_from-index_of m) in
              let next : List Saying = numbers_say vars cut None (numbers_from again.0 [] rest) in
              rw (y, u) (
                again.0,
                says_as (line_said kind place (lits ++ m ∷ c)) next (fault_in vars (length lits + 1) c) (numbers_say vars cut (line kind place lits) (numbers_from at [] (text ++ 0 ∷ rest))) (numbers_say vars cut (line kind place (lits ++ m ∷ [])) (numbers_from k.0 [] (tail ++ 0 ∷ rest))) says
                    (subst (λ n. SaysBy (line_said kind place (lits ++ m ∷ c)) next (fault_in vars n c) (numbers_say vars cut (line kind place (lits ++ m ∷ [])) (numbers_from k.0 [] (tail ++ 0 ∷ rest)))) longer
                    (subst (λ x. SaysBy (line_said kind place x) next (fault_in vars (length (lits ++ m ∷ [])) c) (numbers_say vars cut (line kind place (lits ++ m ∷ [])) (numbers_from k.0 [] (tail ++ 0 ∷ rest)))) (append_assoc lits (m ∷ []) c) again.1)),
              )
        ]
      ]

  said_by : (o : Option LineFault) (kind : LineKind) (place : ℕ) (c : List LitOf) (more ss : List Saying) → SaysBy (line_said kind place c) more o ss → SaidBy o (record { kind = kind; lits = c }) (λ z. z ≡ more) ss
  said_by None kind place c more ss h = (place, more, h, refl)
  said_by (Some f) kind place c more ss h = h

  binary_said : (ls : List ProofLine) (at : ℕ) (bytes : List ℕ) → AreBinaryLines vars bytes ls → AreSaidTo vars ls (numbers_say vars cut None (numbers_from at [] bytes))
  binary_said [] at bytes e = ap (λ z. numbers_say vars cut None (numbers_from at [] z)) e
  binary_said (l ∷ ls) at bytes (text, rest, e, a, h) =
      let k = literals_say l.kind at (at + 0 + 1) [] l.lits text rest (omega arith) a in
      let later : List Saying = numbers_say vars cut None (numbers_from k.0 [] rest) in
      let opened : List Saying = numbers_say vars cut (line l.kind at []) (numbers_from (at + 0 + 1) [] (text ++ 0 ∷ rest)) in
      said_on vars (fault_in vars 0 l.lits) l ls later (numbers_say vars cut None (numbers_from at [] bytes)) opened
      (ap (λ z. numbers_say vars cut None (numbers_from at [] z)) e ∙ head_says vars total ended l.kind at (text ++ 0 ∷ rest))
      (binary_said ls k.0 rest h)
      (said_by (fault_in vars 0 l.lits) l.kind at l.lits later opened k.1)

pub lines_said : (vars : ℕ) (b t : List ℕ) (s : SpeltAny vars b t)
    → ((ended : Bool) (ss : List Saying) → FileSays Binary vars ended b ss → AreSaidTo vars s.0 ss) × ((ended : Bool) (ss : List Saying) → FileSays Text vars ended t ss → AreSaidTo vars s.0 ss)
lines_said vars b t (ls, h, k) = (λ ended ss e. subst (AreSaidTo vars ls) (sym e) (binary_said vars (length b) ended ls 0 b h), λ ended ss s. text_lines vars ls t k ended ss s)

pub spelt_any_says : (vars : ℕ) (b t : List ℕ) → SpeltAny vars b t
    → (lines : List ProofLine) × ((ended : Bool) (ss : List Saying) → FileSays Binary vars ended b ss → AreSaidTo vars lines ss) × ((ended : Bool) (ss : List Saying) → FileSays Text vars ended t ss → AreSaidTo vars lines ss)
spelt_any_says vars b t s = let k = lines_said vars b t s in (s.0, k.0, k.1)

-- lines that fit are lines
numbers_any : (vars : ℕ) (bytes : List ℕ) (c : List LitOf) → AreNumbers vars bytes c → AreNumbersOf vars bytes c × ClauseWithin vars c
numbers_any vars bytes [] h = (h, All-nil (LitWithin vars))
numbers_any vars bytes (l ∷ c) (front, rest, e, (g, five, value), w, h) = let k = numbers_any vars rest c h in ((front, rest, e, (g, value, w.0, λ _. five), k.0), All-cons (LitWithin vars) l c w k.1)

binary_any : (vars : ℕ) (bytes : List ℕ) (ls : List ProofLine) → IsBinaryProof vars bytes ls → AreBinaryLines vars bytes ls
binary_any vars bytes [] h = h
binary_any vars bytes (l ∷ ls) (text, rest, e, n, len, h) = (text, rest, e, (numbers_any vars text l.lits n).0, binary_any vars rest ls h)

write_any : (vars : ℕ) (ws : List Word) (c : List LitOf) → AreDone ws → map (λ w. literal_of vars w.text) ws ≡ map Some c → WriteAny ws c
write_any vars [] [] d m = refl
write_any vars [] (l ∷ c) d m = cc
write_any vars (w ∷ ws) [] d m = cc
write_any vars (w ∷ ws) (l ∷ c) (d, ds) m =
    let e : literal_of vars w.text ≡ Some l = cc in
    let es : map (λ w. literal_of vars w.text) ws ≡ map Some c = cc in
    (d, own_bound vars w.text l e, write_any vars ws c ds es)

text_line_any : (vars : ℕ) (kind : LineKind) (place : ℕ) (c : List LitOf) (words : List Word) → IsList vars (list_kind kind) place c words → IsTextLine kind c words
text_line_any vars Clause place c words (ws, zero, e, (d, m, n), z, first, others, f, p) = (ws, zero, e, write_any vars ws c d m, z)
text_line_any vars Deletion place c words (first, ws, zero, e, t, p, (d, m, n), z) = (first, ws, zero, e, t, write_any vars ws c d m, z)

text_any : (vars at : ℕ) (bytes : List ℕ) (ls : List ProofLine) → IsTextProof vars at bytes ls → AreTextLines at bytes ls
text_any vars at bytes [] h = h
text_any vars at bytes (l ∷ ls) (text, rest, place, e, f, i, h) =
    (text, rest, e, f, text_line_any vars l.kind place l.lits (words_from true at [] text) i, text_any vars (at + length text + 1) rest ls h)

pub spelt_is_any : (vars : ℕ) (b t : List ℕ) → Spelt vars b t → SpeltAny vars b t
spelt_is_any vars b t (ls, h, k) = (ls, binary_any vars b ls h, text_any vars 0 t ls k)

-- lines that fit have no fault
no_fault : (vars : ℕ) (n : ℕ) (c : List LitOf) → ClauseWithin vars c → n + length c ≤ vars → fault_in vars n c ≡ None
no_fault vars n [] w l = refl
no_fault vars n (m ∷ c) w l =
    elim (within_cases vars m) [
      | inr (f, out) ↦ absurd (out (All-head (LitWithin vars) m c w))
      | inl (t, is) ↦
          let room : leb vars n ≡ false = lt-leb vars n (omega (arith, l)) in
          rw (t, room) (no_fault vars (n + 1) c (All-tail (LitWithin vars) m c w) (omega (arith, l)))
    ]

-- each line has at most `vars` literals, of variables from 1 to `vars`
abbrev AreFit : ℕ → List ProofLine → Type 0
AreFit vars [] = Unit {0}
AreFit vars (l ∷ ls) = (fault_in vars 0 l.lits ≡ None) × AreFit vars ls

said_fit : (vars : ℕ) (ls : List ProofLine) (ss : List Saying) → AreFit vars ls → AreSaidTo vars ls ss → AreSaid ls ss
said_fit vars [] ss f h = h
said_fit vars (l ∷ ls) ss (n, f) h =
    let k : SaidBy None l (AreSaidTo vars ls) ss = subst (λ o. SaidBy o l (AreSaidTo vars ls) ss) n h in
    (k.0, k.1, k.2, said_fit vars ls k.1 f k.3)

binary_fit : (vars : ℕ) (bytes : List ℕ) (ls : List ProofLine) → IsBinaryProof vars bytes ls → AreFit vars ls
binary_fit vars bytes [] h = tt
binary_fit vars bytes (l ∷ ls) (text, rest, e, n, len, h) = (no_fault vars 0 l.lits (numbers_any vars text l.lits n).1 (omega (arith, len)), binary_fit vars rest ls h)

write_within : (vars : ℕ) (ws : List Word) (c : List LitOf) → map (λ w. literal_of vars w.text) ws ≡ map Some c → ClauseWithin vars c
write_within vars [] [] m = All-nil (LitWithin vars)
write_within vars [] (l ∷ c) m = cc
write_within vars (w ∷ ws) [] m = cc
write_within vars (w ∷ ws) (l ∷ c) m =
    let e : literal_of vars w.text ≡ Some l = cc in
    let es : map (λ w. literal_of vars w.text) ws ≡ map Some c = cc in
    All-cons (LitWithin vars) l c (literal_within vars w.text l e) (write_within vars ws c es)

list_fits : (vars : ℕ) (kind : LineKind) (place : ℕ) (c : List LitOf) (words : List Word) → IsList vars (list_kind kind) place c words → ClauseWithin vars c × (length c ≤ vars)
list_fits vars Clause place c words (ws, zero, e, (d, m, n), z, first, others, f, p) = (write_within vars ws c m, n)
list_fits vars Deletion place c words (first, ws, zero, e, t, p, (d, m, n), z) = (write_within vars ws c m, n)

text_fit : (vars at : ℕ) (bytes : List ℕ) (ls : List ProofLine) → IsTextProof vars at bytes ls → AreFit vars ls
text_fit vars at bytes [] h = tt
text_fit vars at bytes (l ∷ ls) (text, rest, place, e, f, i, h) =
    let k = list_fits vars l.kind place l.lits (words_from true at [] text) i in
    let n = k.1 in
    (no_fault vars 0 l.lits k.0 (omega (arith, n)), text_fit vars (at + length text + 1) rest ls h)

-- so no line of a proof whose lines fit has a literal of a greater variable after as many as there are variables
fit_not_crowded : (vars : ℕ) (ls : List ProofLine) → AreFit vars ls → IsCrowded vars ls → ⊥
fit_not_crowded vars [] f (l, c, e) = Contains-empty l c
fit_not_crowded vars (m ∷ ls) (n, f) (l, c, e) =
    elim (Contains-append_cases (m ∷ []) ls l c) [
      | inl k ↦ let same : m ≡ l = Contains-one m l k in let q = sym n ∙ ap (λ (z : ProofLine). fault_in vars 0 z.lits) same ∙ e in cc
      | inr k ↦ fit_not_crowded vars ls f (l, k, e)
    ]

pub spelt_not_crowded : (vars : ℕ) (b t : List ℕ) (s : Spelt vars b t) → IsCrowded vars (spelt_is_any vars b t s).0 → ⊥
unfolding spelt_is_any
spelt_not_crowded vars b t s = fit_not_crowded vars s.0 (binary_fit vars b s.0 s.1)

pub binary_says : (vars total : ℕ) (ended : Bool) (ls : List ProofLine) (bytes : List ℕ) → IsBinaryProof vars bytes ls → AreSaid ls (numbers_say vars (cond ended (bad BadLine total) []) None (numbers_from 0 [] bytes))
binary_says vars total ended ls bytes h =
    said_fit vars ls (numbers_say vars (cond ended (bad BadLine total) []) None (numbers_from 0 [] bytes)) (binary_fit vars bytes ls h) (binary_said vars total ended ls 0 bytes (binary_any vars bytes ls h))

pub text_says : (vars at : ℕ) (ls : List ProofLine) (bytes : List ℕ) → IsTextProof vars at bytes ls → AreSaid ls (lines_say vars false false at (lines_of bytes))
text_says vars at ls bytes h =
    said_fit vars ls (lines_say vars false false at (lines_of bytes)) (text_fit vars at bytes ls h)
    (subst (λ z. AreSaidTo vars ls (lines_say vars false false at (lines_of z))) (append-nil bytes) (text_said vars ls at bytes [] (text_any vars at bytes ls h) (λ at. refl)))

pub text_file_says : (vars : ℕ) (ls : List ProofLine) (t : List ℕ) → IsTextProof vars 0 t ls → (ended : Bool) (ss : List Saying) → FileSays Text vars ended t ss → AreSaid ls ss
text_file_says vars ls t h ended ss s = said_fit vars ls ss (text_fit vars 0 t ls h) (text_lines vars ls t (text_any vars 0 t ls h) ended ss s)

pub spelt_says : (vars : ℕ) (b t : List ℕ) → Spelt vars b t
    → (lines : List ProofLine) × ((ended : Bool) (ss : List Saying) → FileSays Binary vars ended b ss → AreSaid lines ss) × ((ended : Bool) (ss : List Saying) → FileSays Text vars ended t ss → AreSaid lines ss)
spelt_says vars b t (ls, h, k) = (ls, λ ended ss e. subst (AreSaid ls) (sym e) (binary_says vars (length b) ended ls b h), text_file_says vars ls t k)
