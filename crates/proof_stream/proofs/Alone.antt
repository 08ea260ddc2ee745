-- A proof file says clauses, deletions and faults alone.
use Rattle.std.proofs.Common.{◌≡◌, ◌⊎◌, ap, ℕ, Bool, true, false, cond, not, ◌&&◌, ◌||◌, eqb, leb, List, [], ◌∷◌, ◌++◌, length, Option, Some, None, refl, sym, subst, inl, inr}
use Rattle.std.proofs.lemmas.Bool.{cases_Bool, eqb-true}
use Rattle.cert_stream.specs.Machine.{DrupOf, Turn, begins_literal, counted, emptied, end_word, goes_on, turn, visible, visible_digit, visible_first, visible_part, visible_start}
use Rattle.cert_stream.specs.Telling.{Saying, IsClause, IsDelete, IsValue, IsValuesEnd, IsUnknown, IsFault, after as parser_after, fault_said, fresh as parser_fresh, told_by}
use Rattle.cert_stream.specs.Text.{is_blank, is_digit}
use Rattle.cert_stream.specs.declared.mode.ListKind.{ListKind}
use Rattle.cert_stream.specs.declared.mode.ListKind.TheVariants.{Clause, Deletion, Values}
use Rattle.cert_stream.specs.declared.mode.Mode.{Mode}
use Rattle.cert_stream.specs.declared.mode.Mode.TheVariants.{Start, Skip, Head, StatusHead, StatusGap, Spelled, Whole, InList, Closed, Bad, Lost}
use Rattle.cert_stream.specs.declared.mode.Part.{Part}
use Rattle.cert_stream.specs.declared.mode.Part.TheVariants.{Gap, Minus, Zero, Digits}
use Rattle.cert_stream.specs.declared.mode.ParseFault.{ParseFault}
use Rattle.cert_stream.proofs.Apart.{kept}
use Rattle.cert_stream.proofs.Faults.{with_mode}
use Rattle.cert_stream.proofs.Going.{Going}
use Rattle.cert_stream.proofs.Turning.{turn_blank, turn_visible}
use Rattle.proof_stream.specs.Text.{is_claim, next_starts, text_next, text_says}
use Rattle.proof_stream.specs.Binary.{BinaryOf, binary_told, binary_turn}
use Rattle.proof_stream.specs.File.{FileOf, InText, InBinary, after, end_fault, end_says, fault, fresh, next, said, says, spoken}
use Rattle.proof_stream.specs.Lines.{AreProofLines, FileSays}
use Rattle.proof_stream.specs.declared.spot.Form.{Form}
use Rattle.proof_stream.specs.declared.spot.Form.TheVariants.{Text, Binary}
use Rattle.proof_stream.specs.declared.spot.LineKind.{LineKind}
use Rattle.proof_stream.specs.declared.spot.LineKind.TheVariants.{Clause as ClauseLine, Deletion as DeletionLine}
use Rattle.proof_stream.proofs.Files.{file_once}
use Rattle.proof_stream.specs.Passing.{Passes, starts_after}
use Rattle.proof_stream.proofs.Passing.{passes_snoc, starts_snoc, text}

pub lines_append : (ss ts : List Saying) → AreProofLines ss → AreProofLines ts → AreProofLines (ss ++ ts)
lines_append [] ts h k = k
lines_append (IsClause lits place ∷ ss) ts h k = lines_append ss ts h k
lines_append (IsDelete lits ∷ ss) ts h k = lines_append ss ts h k
lines_append (IsValue l ∷ ss) ts h k = absurd h
lines_append (IsValuesEnd ∷ ss) ts h k = absurd h
lines_append (IsUnknown ∷ ss) ts h k = absurd h
lines_append (IsFault f ∷ ss) ts h k = lines_append ss ts h k

fault_lines : (o : Option ParseFault) → AreProofLines (fault_said o)
fault_lines None = tt
fault_lines (Some f) = tt

-- how a line of a proof is read
abbrev IsProofList : ListKind → Type 0
IsProofList Clause = Unit {0}
IsProofList Deletion = Unit {0}
IsProofList Values = ⊥

abbrev IsPlain : Mode → Bool → Type 0
IsPlain (Start amid) starts = (amid ≡ false) × (starts ≡ true)
IsPlain (Skip amid) starts = (amid ≡ false) × (starts ≡ false)
IsPlain (Head kind) starts = IsProofList kind × (starts ≡ false)
IsPlain StatusHead starts = ⊥
IsPlain StatusGap starts = ⊥
IsPlain (Spelled n) starts = ⊥
IsPlain Whole starts = ⊥
IsPlain (InList kind part) starts = IsProofList kind × (starts ≡ false)
IsPlain Closed starts = starts ≡ false
IsPlain (Bad f) starts = Unit {0}
IsPlain Lost starts = Unit {0}

-- a turn that goes on so
abbrev Goes : Bool → Turn → Type 0
Goes starts t = IsPlain t.to.mode starts × AreProofLines (told_by t.to t.event)

either : {A : Type 0} (P : A → Type 0) (b : Bool) (x y : A) → P x → P y → P (cond b x y)
either P true x y p q = p
either P false x y p q = q

-- a line feed
fed : (w : DrupOf) (m : Mode) (s : Bool) → IsPlain m s → Goes true (turn (with_mode w m) 10)
fed w (Start amid) s h = ((h.0, refl), tt)
fed w (Skip amid) s h = ((h.0, refl), tt)
fed w (Head Clause) s h = (tt, tt)
fed w (Head Deletion) s h = (tt, tt)
fed w (Head Values) s h = absurd h.0
fed w StatusHead s h = absurd h
fed w StatusGap s h = absurd h
fed w (Spelled n) s h = absurd h
fed w Whole s h = absurd h
fed w (InList Clause Gap) s h = (tt, tt)
fed w (InList Clause Minus) s h = (tt, tt)
fed w (InList Clause Zero) s h = ((refl, refl), tt)
fed w (InList Clause (Digits l)) s h = (tt, tt)
fed w (InList Deletion Gap) s h = (tt, tt)
fed w (InList Deletion Minus) s h = (tt, tt)
fed w (InList Deletion Zero) s h = ((refl, refl), tt)
fed w (InList Deletion (Digits l)) s h = (tt, tt)
fed w (InList Values part) s h = absurd h.0
fed w Closed s h = ((refl, refl), tt)
fed w (Bad f) s h = (tt, tt)
fed w Lost s h = (tt, tt)

-- white space
parted : (w : DrupOf) (m : Mode) (s : Bool) → IsPlain m s → Goes s (counted w.taken (end_word (with_mode w m) m))
parted w (Start amid) s h = (h, tt)
parted w (Skip amid) s h = (h, tt)
parted w (Head kind) s h = (h, tt)
parted w StatusHead s h = absurd h
parted w StatusGap s h = absurd h
parted w (Spelled n) s h = absurd h
parted w Whole s h = absurd h
parted w (InList kind Gap) s h = (h, tt)
parted w (InList kind Minus) s h = (tt, tt)
parted w (InList Clause Zero) s h = (h.1, tt)
parted w (InList Deletion Zero) s h = (h.1, tt)
parted w (InList Values Zero) s h = absurd h.0
parted w (InList Clause (Digits l)) s h = (h, tt)
parted w (InList Deletion (Digits l)) s h = (h, tt)
parted w (InList Values (Digits l)) s h = absurd h.0
parted w Closed s h = (h, tt)
parted w (Bad f) s h = (tt, tt)
parted w Lost s h = (tt, tt)

-- another byte
abbrev Counted : ℕ → Turn → Type 0
Counted taken t = Goes false (counted taken t)

module _ (taken : ℕ) (w : DrupOf) where
  digit_goes : (kind : ListKind) (negated : Bool) (n b : ℕ) → IsProofList kind → Counted taken (visible_digit w kind negated n b)
  digit_goes kind negated n b h = either (Counted taken) (goes_on w.vars n b) _ _ ((h, refl), tt) (tt, tt)

  first_goes : (kind : ListKind) (b : ℕ) → IsProofList kind → Counted taken (visible_first w kind b)
  first_goes kind b h =
      either (Counted taken) (eqb b 48) _ _ ((h, refl), tt)
      (either (Counted taken) (not (begins_literal w.vars b)) _ _ (tt, tt)
      (either (Counted taken) (leb w.vars (length w.lits)) _ _ (tt, tt) (either (Counted taken) (eqb b 45) _ _ ((h, refl), tt) (digit_goes kind false 0 b h))))

  part_goes : (kind : ListKind) (part : Part) (b : ℕ) → IsProofList kind → Counted taken (visible_part w kind part b)
  part_goes kind Gap b h = first_goes kind b h
  part_goes kind Minus b h = digit_goes kind true 0 b h
  part_goes kind Zero b h = (tt, tt)
  part_goes kind (Digits l) b h = digit_goes kind l.negated l.var b h

  start_goes : (b : ℕ) → eqb b 115 ≡ false → eqb b 118 ≡ false → Counted taken (visible_start w false b)
  start_goes b s v =
      either (Counted taken) (eqb b 99) _ _ ((refl, refl), tt)
      (rw (v, s) (either (Counted taken) (eqb b 100) _ _ ((tt, refl), tt) (either (Counted taken) (eqb b 45 || is_digit b) _ _ (first_goes Clause b tt) (tt, tt))))

or_false : (a b : Bool) → (a || b) ≡ false → (a ≡ false) × (b ≡ false)
or_false true b e = absurd (let k = e in cc)
or_false false b e = (refl, e)

shown : (w : DrupOf) (m : Mode) (s : Bool) (b : ℕ) → IsPlain m s → (s && is_claim b) ≡ false → Goes false (counted w.taken (visible (with_mode w m) m b))
shown w (Start amid) s b h c =
    let k : is_claim b ≡ false = subst (λ z. (z && is_claim b) ≡ false) h.1 c in
    let n = or_false (eqb b 115) (eqb b 118) k in
    subst (λ a. Goes false (counted w.taken (visible (with_mode w (Start a)) (Start a) b))) (sym h.0) (start_goes w.taken (emptied (with_mode w (Start false))) b n.0 n.1)
shown w (Skip amid) s b h c = ((h.0, refl), tt)
shown w (Head kind) s b h c = (tt, tt)
shown w StatusHead s b h c = absurd h
shown w StatusGap s b h c = absurd h
shown w (Spelled n) s b h c = absurd h
shown w Whole s b h c = absurd h
shown w (InList kind part) s b h c = part_goes w.taken (with_mode w (InList kind part)) kind part b h.0
shown w Closed s b h c = (tt, tt)
shown w (Bad f) s b h c = (tt, tt)
shown w Lost s b h c = (tt, tt)

turned : (w : DrupOf) (m : Mode) (s : Bool) (b : ℕ) → IsPlain m s → (s && is_claim b) ≡ false → Goes (next_starts s b) (turn (with_mode w m) b)
turned w m s b h c =
    elim (cases_Bool (eqb b 10)) [
      | inl t ↦ subst (λ z. Goes (next_starts s z) (turn (with_mode w m) z)) (sym (eqb-true b 10 t)) (fed w m s h)
      | inr f ↦ elim (cases_Bool (is_blank b)) [
        | inl t ↦
            let e : next_starts s b ≡ s = rw (f, t) (and_true s) in
            subst (λ z. Goes z (turn (with_mode w m) b)) (sym e) (subst (Goes s) (sym (turn_blank (with_mode w m) b f t)) (parted w m s h))
        | inr t ↦
            let e : next_starts s b ≡ false = rw (f, t) (and_false s) in
            subst (λ z. Goes z (turn (with_mode w m) b)) (sym e) (subst (Goes false) (sym (turn_visible (with_mode w m) b f t)) (shown w m s b h c))
      ]
    ]
  where
    and_true : (s : Bool) → (s && true) ≡ s
    and_true true = refl
    and_true false = refl

    and_false : (s : Bool) → (s && false) ≡ false
    and_false true = refl
    and_false false = refl

plain_after : (w : DrupOf) (s : Bool) (bytes : List ℕ) → IsPlain w.mode s → Passes s bytes → IsPlain (parser_after w bytes).mode (starts_after s bytes)
plain_after w s [] h p = h
plain_after w s (b ∷ bs) h (n, p) = plain_after (turn w b).to (next_starts s b) bs (turned w w.mode s b h n).0 p

plain_start : (m : Mode) → IsPlain m true → (m ≡ Start false) ⊎ ((f : ParseFault) × (m ≡ Bad f)) ⊎ (m ≡ Lost)
plain_start (Start amid) h = inl (ap Start h.0)
plain_start (Skip amid) h = absurd (let k = h.1 in cc)
plain_start (Head kind) h = absurd (let k = h.1 in cc)
plain_start StatusHead h = absurd h
plain_start StatusGap h = absurd h
plain_start (Spelled n) h = absurd h
plain_start Whole h = absurd h
plain_start (InList kind part) h = absurd (let k = h.1 in cc)
plain_start Closed h = absurd (let k = h in cc)
plain_start (Bad f) h = inr (inl (f, refl))
plain_start Lost h = inr (inr refl)

-- after a text without lines of s and v, and a line feed, a line starts that is not amid values, or there is a fault
pub fed_starts : (vars : ℕ) (bytes : List ℕ) → Passes true bytes
    → ((parser_after (parser_fresh vars) (bytes ++ 10 ∷ [])).mode ≡ Start false) ⊎ ((f : ParseFault) × ((parser_after (parser_fresh vars) (bytes ++ 10 ∷ [])).mode ≡ Bad f))
fed_starts vars bytes p =
    let w : DrupOf = parser_after (parser_fresh vars) (bytes ++ 10 ∷ []) in
    let q = passes_snoc true bytes 10 p (no_claim (starts_after true bytes)) in
    let k : IsPlain w.mode true = subst (IsPlain w.mode) (starts_snoc true bytes 10) (plain_after (parser_fresh vars) true (bytes ++ 10 ∷ []) (refl, refl) q) in
    elim (kept (bytes ++ 10 ∷ []) (parser_fresh vars) tt) [
      | inr b ↦ inr b
      | inl g ↦ elim (plain_start w.mode k) [
        | inl e ↦ inl e
        | inr r ↦ elim r [ inl b ↦ inr b | inr e ↦ absurd (subst (Going vars) e g.1) ]
      ]
    ]
  where
    no_claim : (s : Bool) → (s && is_claim 10) ≡ false
    no_claim true = refl
    no_claim false = refl

-- what is kept of a file
abbrev HoldsBy : DrupOf → Bool → Option ParseFault → Type 0
HoldsBy w s None = IsPlain w.mode s
HoldsBy w s (Some f) = Unit {0}

abbrev Holds : FileOf → Type 0
Holds (InText t) = HoldsBy t.parser t.starts t.refused
Holds (InBinary w) = Unit {0}

text_goes : (w : DrupOf) (s : Bool) (r : Option ParseFault) (b : ℕ) → HoldsBy w s r → Holds (InText (text_next (text w s r) b)) × AreProofLines (text_says (text w s r) b)
text_goes w s (Some f) b h = (tt, tt)
text_goes w s None b h =
    elim (cases_Bool (s && is_claim b)) [
      | inl t ↦ rw t (tt, tt)
      | inr f ↦ rw f (turned w w.mode s b h f)
    ]

binary_goes : (w : BinaryOf) (o : Option LineKind) → AreProofLines (binary_told w o)
binary_goes w None = tt
binary_goes w (Some ClauseLine) = tt
binary_goes w (Some DeletionLine) = tt

next_goes : (r : FileOf) (b : ℕ) → Holds r → Holds (next r b) × AreProofLines (says r b)
next_goes (InText t) b h = text_goes t.parser t.starts t.refused b h
next_goes (InBinary w) b h = (tt, binary_goes (binary_turn w b).to (binary_turn w b).event)

said_goes : (r : FileOf) (bytes : List ℕ) → Holds r → Holds (after r bytes) × AreProofLines (said r bytes)
said_goes r [] h = (h, tt)
said_goes r (b ∷ bs) h =
    let k = next_goes r b h in
    let n = said_goes (next r b) bs k.0 in
    (n.0, lines_append (says r b) (said (next r b) bs) k.1 n.1)

end_goes : (r : FileOf) → Holds r → AreProofLines (end_says r)
end_goes (InText t) h = (said_goes (InText t) (10 ∷ []) h).1
end_goes (InBinary w) h = tt

spoken_goes : (ended : Bool) (r : FileOf) (bytes : List ℕ) → Holds r → AreProofLines (spoken ended r bytes)
spoken_goes true r bytes h =
    let k = said_goes r bytes h in
    lines_append (said r bytes) (end_says (after r bytes) ++ fault_said (end_fault (after r bytes))) k.1
    (lines_append (end_says (after r bytes)) (fault_said (end_fault (after r bytes))) (end_goes (after r bytes) k.0) (fault_lines (end_fault (after r bytes))))
spoken_goes false r bytes h = lines_append (said r bytes) (fault_said (fault (after r bytes))) (said_goes r bytes h).1 (fault_lines (fault (after r bytes)))

fresh_holds : (form : Form) (vars : ℕ) → Holds (fresh form vars)
fresh_holds Text vars = (refl, refl)
fresh_holds Binary vars = tt

pub file_lines : (form : Form) (vars : ℕ) (ended : Bool) (bytes : List ℕ) (ss : List Saying) → FileSays form vars ended bytes ss → AreProofLines ss
file_lines form vars ended bytes ss h = subst AreProofLines (sym (file_once form vars ended bytes ss h)) (spoken_goes ended (fresh form vars) bytes (fresh_holds form vars))
