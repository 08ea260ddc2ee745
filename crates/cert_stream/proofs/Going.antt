-- From each state without a fault a stream goes on, and a fault stands at the byte that brings it; what a byte says is within the variables.
use Rattle.std.proofs.Common.{◌≡◌, ◌⊎◌, ℕ, ◌+◌, ◌≤◌, Bool, true, false, cond, not, ◌&&◌, ◌||◌, eqb, leb, List, [], ◌∷◌, length, Option, Some, refl, inl, inr, subst}
use Rattle.std.proofs.lemmas.Bool.{cases_Bool, eqb-true, leb-true, le-leb}
use Rattle.cnf_form.specs.Cnf.{LitOf, LitWithin}
use Rattle.cert_stream.specs.Text.{is_blank, is_digit}
use Rattle.cert_stream.specs.Machine.{DrupOf, Turn, IsPartWithin, IsModeWithin, IsEventWithin, turn, counted, read, quiet, fails, ended, heard, end_part, end_word, unended, end_line, feed_after, goes_on, begins_literal, spelling, visible, visible_start, visible_plain, visible_first, visible_digit, visible_part, visible_spelled, emptied, literal, with_digit}
use Rattle.cert_stream.specs.Telling.{after}
use Rattle.cert_stream.specs.declared.mode.Event.{Event}
use Rattle.cert_stream.specs.declared.mode.ListKind.{ListKind}
use Rattle.cert_stream.specs.declared.mode.ListKind.TheVariants.{Clause as ClauseList, Deletion, Values}
use Rattle.cert_stream.specs.declared.mode.ParseFault.{ParseFault}
use Rattle.cert_stream.specs.declared.mode.ParseFaultKind.{ParseFaultKind}
use Rattle.cert_stream.specs.declared.mode.ParseFaultKind.TheVariants.{BadLine, BadLiteral, LineTooLong}
use Rattle.cert_stream.specs.declared.mode.Part.{Part}
use Rattle.cert_stream.specs.declared.mode.Part.TheVariants.{Gap, Minus, Zero, Digits}
use Rattle.cert_stream.specs.declared.mode.Mode.{Mode}
use Rattle.cert_stream.specs.declared.mode.Mode.TheVariants.{Start, Skip, Head, StatusHead, StatusGap, Spelled, Whole, InList, Closed, Bad, Lost}
use Rattle.cert_stream.proofs.Moving.{Machine, Moves, Next, by_case, either, in_turn, kept_within, not_false}
use Rattle.cert_stream.proofs.Turning.{parser}

-- no fault, and a minus only where there is a variable
abbrev pub GoingPart : ℕ → Part → Type 0
GoingPart vars Gap = Unit {0}
GoingPart vars Minus = 1 ≤ vars
GoingPart vars Zero = Unit {0}
GoingPart vars (Digits l) = Unit {0}

abbrev pub Going : ℕ → Mode → Type 0
Going vars (Start amid) = Unit {0}
Going vars (Skip amid) = Unit {0}
Going vars (Head kind) = Unit {0}
Going vars StatusHead = Unit {0}
Going vars StatusGap = Unit {0}
Going vars (Spelled n) = Unit {0}
Going vars Whole = Unit {0}
Going vars (InList kind part) = GoingPart vars part
Going vars Closed = Unit {0}
Going vars (Bad f) = ⊥
Going vars Lost = ⊥

either_going : (vars : ℕ) (c : Bool) (m n : Mode) → Going vars m → Going vars n → Going vars (cond c m n)
either_going vars true m n h k = h
either_going vars false m n h k = k

abbrev machine : Machine DrupOf Mode Turn
machine = record { to = λ t. t.to; event = λ t. t.event; vars = λ w. w.vars; taken = λ w. w.taken; mode = λ w. w.mode; Goes = Going; bad = Bad }

quiet_moves : {N I : Type 0} (w : DrupOf) (m : Mode) → (N → Next machine w.vars w.taken m) → Moves machine N I w.vars w.taken (quiet w m)
quiet_moves w m n = record { keeps = refl; counts = refl; next = n; said = λ _. tt }

stays_moves : {I : Type 0} (w : DrupOf) (m : Mode) → Moves machine (Going w.vars m) I w.vars w.taken (quiet w m)
stays_moves w m = quiet_moves w m (λ n. inl n)

goes_moves : {N I : Type 0} (w : DrupOf) (m : Mode) → Going w.vars m → Moves machine N I w.vars w.taken (quiet w m)
goes_moves w m n = quiet_moves w m (λ _. inl n)

fails_moves : {N I : Type 0} (w : DrupOf) (kind : ParseFaultKind) → Moves machine N I w.vars w.taken (fails w kind)
fails_moves w kind = quiet_moves w (Bad (record { kind = kind; byte = w.taken })) (λ _. inr (record { kind = kind; byte = w.taken }, refl, refl))

ended_within : (vars : ℕ) (kind : ListKind) → IsEventWithin vars (Some (ended kind))
ended_within vars ClauseList = tt
ended_within vars Deletion = tt
ended_within vars Values = tt

heard_within : (vars : ℕ) (kind : ListKind) (l : LitOf) → LitWithin vars l → IsEventWithin vars (heard kind l)
heard_within vars ClauseList l i = tt
heard_within vars Deletion l i = tt
heard_within vars Values l i = i

end_part_moves : {N : Type 0} (w : DrupOf) (kind : ListKind) (part : Part) → Moves machine N (IsPartWithin w.vars part) w.vars w.taken (end_part w kind part)
end_part_moves w kind Gap = goes_moves w (InList kind Gap) tt
end_part_moves w kind Minus = fails_moves w BadLiteral
end_part_moves w kind Zero = record { keeps = refl; counts = refl; next = λ _. inl tt; said = λ _. ended_within w.vars kind }
end_part_moves w kind (Digits l) = record { keeps = refl; counts = refl; next = λ _. inl tt; said = λ i. heard_within w.vars kind l i }

end_word_moves : (w : DrupOf) (m : Mode) → Moves machine (Going w.vars m) (IsModeWithin w.vars m) w.vars w.taken (end_word w m)
end_word_moves w (Start amid) = stays_moves w (Start amid)
end_word_moves w (Skip amid) = stays_moves w (Skip amid)
end_word_moves w (Head kind) = goes_moves w (InList kind Gap) tt
end_word_moves w StatusHead = goes_moves w StatusGap tt
end_word_moves w StatusGap = stays_moves w StatusGap
end_word_moves w (Spelled k) = goes_moves w (cond (eqb k 7) Whole (Skip false)) (either_going w.vars (eqb k 7) Whole (Skip false) tt tt)
end_word_moves w Whole = stays_moves w Whole
end_word_moves w (InList kind part) = end_part_moves w kind part
end_word_moves w Closed = stays_moves w Closed
end_word_moves w (Bad f) = stays_moves w (Bad f)
end_word_moves w Lost = stays_moves w Lost

unended_moves : {N I : Type 0} (w : DrupOf) (kind : ListKind) → Moves machine N I w.vars w.taken (unended w kind)
unended_moves w ClauseList = fails_moves w BadLine
unended_moves w Deletion = fails_moves w BadLine
unended_moves w Values = goes_moves w (Start true) tt

end_line_moves : (w : DrupOf) (m : Mode) → Moves machine (Next machine w.vars w.taken m) (Unit {0}) w.vars w.taken (end_line w m)
end_line_moves w (Start amid) = goes_moves w (Start amid) tt
end_line_moves w (Skip amid) = goes_moves w (Start amid) tt
end_line_moves w (Head kind) = unended_moves w kind
end_line_moves w StatusHead = goes_moves w (Start false) tt
end_line_moves w StatusGap = goes_moves w (Start false) tt
end_line_moves w (Spelled k) = goes_moves w (Start false) tt
end_line_moves w Whole = record { keeps = refl; counts = refl; next = λ _. inl tt; said = λ _. tt }
end_line_moves w (InList kind part) = unended_moves w kind
end_line_moves w Closed = goes_moves w (Start false) tt
end_line_moves w (Bad f) = quiet_moves w (Bad f) (λ n. n)
end_line_moves w Lost = quiet_moves w Lost (λ n. n)

digit_moves : {N I : Type 0} (w : DrupOf) (kind : ListKind) (negated : Bool) (n b : ℕ) → Moves machine N I w.vars w.taken (visible_digit w kind negated n b)
digit_moves w kind negated n b = either machine (goes_on w.vars n b) _ _ (goes_moves w (InList kind (Digits (literal (with_digit n b) negated))) tt) (fails_moves w BadLiteral)

pub minus_room : (vars b : ℕ) → begins_literal vars b ≡ true → eqb b 45 ≡ true → 1 ≤ vars
minus_room vars b g t =
    let i : b ≡ 45 = eqb-true b 45 t in
    let e : begins_literal vars 45 ≡ true = subst (λ z. begins_literal vars z ≡ true) i g in
    elim (cases_Bool (leb 1 vars)) [ inl s ↦ leb-true 1 vars s | inr f ↦ absurd (let k : (leb 1 vars || false) ≡ true = e in let m : (false || false) ≡ true = subst (λ z. (z || false) ≡ true) f k in cc) ]

first_moves : {N I : Type 0} (w : DrupOf) (kind : ListKind) (b : ℕ) → Moves machine N I w.vars w.taken (visible_first w kind b)
first_moves w kind b =
    either machine (eqb b 48) _ _ (goes_moves w (InList kind Zero) tt)
    (by_case machine (not (begins_literal w.vars b)) _ _ (λ _. fails_moves w BadLiteral)
    (λ g. either machine (leb w.vars (length w.lits)) _ _ (fails_moves w LineTooLong)
    (by_case machine (eqb b 45) _ _ (λ t. goes_moves w (InList kind Minus) (minus_room w.vars b (not_false (begins_literal w.vars b) g) t)) (λ _. digit_moves w kind false 0 b))))

part_moves : {N I : Type 0} (w : DrupOf) (kind : ListKind) (part : Part) (b : ℕ) → Moves machine N I w.vars w.taken (visible_part w kind part b)
part_moves w kind Gap b = first_moves w kind b
part_moves w kind Minus b = digit_moves w kind true 0 b
part_moves w kind Zero b = fails_moves w BadLiteral
part_moves w kind (Digits l) b = digit_moves w kind l.negated l.var b

plain_moves : {N I : Type 0} (w : DrupOf) (b : ℕ) → Moves machine N I w.vars w.taken (visible_plain w b)
plain_moves w b =
    either machine (eqb b 115) _ _ (goes_moves w StatusHead tt)
    (either machine (eqb b 100) _ _ (goes_moves w (Head Deletion) tt) (either machine (eqb b 45 || is_digit b) _ _ (first_moves w ClauseList b) (fails_moves w BadLine)))

start_moves : {N I : Type 0} (w : DrupOf) (amid : Bool) (b : ℕ) → Moves machine N I w.vars w.taken (visible_start w amid b)
start_moves w amid b =
    either machine (eqb b 99) _ _ (goes_moves w (Skip amid) tt) (either machine (eqb b 118) _ _ (goes_moves w (Head Values) tt) (either machine amid _ _ (fails_moves w BadLine) (plain_moves w b)))

spelled_moves : {N I : Type 0} (w : DrupOf) (n b : ℕ) → Moves machine N I w.vars w.taken (visible_spelled w n b)
spelled_moves w n b =
    goes_moves w (cond (not (leb 7 n) && eqb b (spelling n)) (Spelled (n + 1)) (Skip false)) (either_going w.vars (not (leb 7 n) && eqb b (spelling n)) (Spelled (n + 1)) (Skip false) tt tt)

visible_moves : {I : Type 0} (w : DrupOf) (m : Mode) (b : ℕ) → Moves machine (Going w.vars m) I w.vars w.taken (visible w m b)
visible_moves w (Start amid) b = start_moves (emptied w) amid b
visible_moves w (Skip amid) b = stays_moves w (Skip amid)
visible_moves w (Head kind) b = fails_moves w BadLine
visible_moves w StatusHead b = fails_moves w BadLine
visible_moves w StatusGap b = spelled_moves w 0 b
visible_moves w (Spelled k) b = spelled_moves w k b
visible_moves w Whole b = goes_moves w (Skip false) tt
visible_moves w (InList kind part) b = part_moves w kind part b
visible_moves w Closed b = fails_moves w BadLine
visible_moves w (Bad f) b = stays_moves w (Bad f)
visible_moves w Lost b = stays_moves w Lost

read_moves : (w : DrupOf) (b : ℕ) → Moves machine (Going w.vars w.mode) (IsModeWithin w.vars w.mode) w.vars w.taken (read w b)
read_moves w b =
    let t : Turn = end_word w w.mode in
    let h = end_word_moves w w.mode in
    either machine (eqb b 10) (feed_after t) (cond (is_blank b) t (visible w w.mode b)) (in_turn machine t (end_line t.to t.to.mode) (feed_after t) refl refl h (end_line_moves t.to t.to.mode))
    (either machine (is_blank b) t (visible w w.mode b) h (visible_moves w w.mode b))

-- a byte keeps the variables, and goes on or is at fault
pub turn_next : (w : DrupOf) (b : ℕ) → Going w.vars w.mode
    → ((turn w b).to.vars ≡ w.vars) × (Going w.vars (turn w b).to.mode ⊎ ((f : ParseFault) × ((turn w b).to.mode ≡ Bad f) × (f.byte ≡ w.taken)))
turn_next w b n = let k = read_moves w b in (k.keeps, k.next n)

pub read_said : (w v : DrupOf) (b : ℕ) (event : Option Event) → IsModeWithin w.vars w.mode → (let t : Turn = record { to = v; event = event } in t) ≡ read w b
    → (v.vars ≡ w.vars) × IsEventWithin w.vars event
read_said w v b event i e = kept_within machine (read w b) (record { to = v; event = event }) e (read_moves w b) i

-- bytes that end the line without a fault
pub record Completes (w : DrupOf) : Type 0 where
  pub more : List ℕ
  pub amid : Bool
  pub whole : (after w more).mode ≡ Start amid

pub completes : (vars taken place : ℕ) (m : Mode) (lits : List LitOf) → Going vars m → Completes (parser vars taken place m lits)
completes vars taken place (Start amid) lits n = record { more = []; amid = amid; whole = refl }
completes vars taken place (Skip amid) lits n = record { more = 10 ∷ []; amid = amid; whole = refl }
completes vars taken place (Head kind) lits n = record { more = 32 ∷ 48 ∷ 10 ∷ []; amid = false; whole = refl }
completes vars taken place StatusHead lits n = record { more = 10 ∷ []; amid = false; whole = refl }
completes vars taken place StatusGap lits n = record { more = 10 ∷ []; amid = false; whole = refl }
completes vars taken place (Spelled k) lits n =
    record { more = 10 ∷ []; amid = false; whole = spelled_fed (eqb k 7) }
  where
    spelled_fed : (whole : Bool) → (end_line (parser vars taken place (cond whole Whole (Skip false)) lits) (cond whole Whole (Skip false))).to.mode ≡ Start false
    spelled_fed true = refl
    spelled_fed false = refl
completes vars taken place Whole lits n = record { more = 10 ∷ []; amid = false; whole = refl }
completes vars taken place (InList kind Gap) lits n = record { more = 48 ∷ 10 ∷ []; amid = false; whole = refl }
completes vars taken place (InList kind Minus) lits n =
    let e : leb 1 vars ≡ true = le-leb 1 vars n in
    let g : goes_on vars 0 49 ≡ true = e in
    record { more = 49 ∷ 32 ∷ 48 ∷ 10 ∷ []; amid = false; whole = one_fed (goes_on vars 0 49) g }
  where
    here : DrupOf
    here = parser vars taken place (InList kind Minus) lits

    one_fed : (one : Bool) → one ≡ true
        → (after (counted taken (cond one (quiet here (InList kind (Digits (literal (with_digit 0 49) true)))) (fails here BadLiteral))).to (32 ∷ 48 ∷ 10 ∷ [])).mode ≡ Start false
    one_fed true e = refl
    one_fed false e = cc
completes vars taken place (InList kind Zero) lits n = record { more = 10 ∷ []; amid = false; whole = refl }
completes vars taken place (InList kind (Digits l)) lits n = record { more = 32 ∷ 48 ∷ 10 ∷ []; amid = false; whole = refl }
completes vars taken place Closed lits n = record { more = 10 ∷ []; amid = false; whole = refl }
completes vars taken place (Bad f) lits n = absurd n
completes vars taken place Lost lits n = absurd n
