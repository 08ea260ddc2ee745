-- From each state of a hinted stream without a fault one goes on, and a fault stands at the byte that brings it; what a byte says is within the
-- variables.
use Rattle.std.proofs.Common.{◌≡◌, ◌⊎◌, ℕ, ◌+◌, Bool, true, false, cond, not, ◌&&◌, eqb, leb, List, [], ◌∷◌, length, Option, Some, refl, inl, inr}
use Rattle.std.proofs.lemmas.Bool.{le-leb}
use Rattle.cnf_form.specs.Cnf.{LitOf, LitWithin}
use Rattle.cert_stream.specs.Text.{is_blank, is_digit}
use Rattle.cert_stream.specs.Machine.{IsPartWithin, IsEventWithin, begins_literal, goes_on, literal, spelling, with_digit}
use Rattle.cert_stream.specs.LratMachine.{LratOf, Turn, IsModeWithin, begins_id, counted, emptied, end_id_part, end_line, end_part, end_word, ended, fails, feed_after, heard, hint, id_digit, id_first, id_goes_on, id_part, lits_ended, most_hints, own_digit, quiet, read, turn, unended, visible, visible_after_id, visible_digit, visible_first, visible_part, visible_plain, visible_spelled, visible_start}
use Rattle.cert_stream.specs.LratTelling.{after}
use Rattle.cert_stream.specs.declared.mode.Event.{Event}
use Rattle.cert_stream.specs.declared.mode.ParseFault.{ParseFault}
use Rattle.cert_stream.specs.declared.mode.ParseFaultKind.{ParseFaultKind}
use Rattle.cert_stream.specs.declared.mode.ParseFaultKind.TheVariants.{BadLine, BadLiteral, LineTooLong}
use Rattle.cert_stream.specs.declared.mode.Part.{Part}
use Rattle.cert_stream.specs.declared.mode.Part.TheVariants.{Gap, Minus, Zero, Digits}
use Rattle.cert_stream.specs.declared.lrat.mode.LitList.{LitList}
use Rattle.cert_stream.specs.declared.lrat.mode.LitList.TheVariants.{Clause, Values}
use Rattle.cert_stream.specs.declared.lrat.mode.IdList.{IdList}
use Rattle.cert_stream.specs.declared.lrat.mode.IdList.TheVariants.{Hints, Deletion}
use Rattle.cert_stream.specs.declared.lrat.mode.IdPart.{IdPart}
use Rattle.cert_stream.specs.declared.lrat.mode.IdPart.TheVariants.{Gap as IdGap, Minus as IdMinus, Zero as IdZero, Digits as IdDigits}
use Rattle.cert_stream.specs.declared.lrat.mode.Mode.{Mode}
use Rattle.cert_stream.specs.declared.lrat.mode.Mode.TheVariants.{Start, Skip, ValuesHead, StatusHead, StatusGap, Spelled, Whole, InId, AfterId, DeletionHead, InLits, InIds, Closed, Bad}
use Rattle.cert_stream.proofs.Going.{GoingPart, minus_room}
use Rattle.cert_stream.proofs.LratTurning.{Kept, parser}
use Rattle.cert_stream.proofs.Moving.{Machine, Moves, Next, by_case, either, in_turn, kept_within, not_false}

-- no fault, and a minus before a literal only where there is a variable
abbrev pub Going : ℕ → Mode → Type 0
Going vars (Start amid) = Unit {0}
Going vars (Skip amid) = Unit {0}
Going vars ValuesHead = Unit {0}
Going vars StatusHead = Unit {0}
Going vars StatusGap = Unit {0}
Going vars (Spelled k) = Unit {0}
Going vars Whole = Unit {0}
Going vars (InId k) = Unit {0}
Going vars AfterId = Unit {0}
Going vars DeletionHead = Unit {0}
Going vars (InLits kind part) = GoingPart vars part
Going vars (InIds kind part) = Unit {0}
Going vars Closed = Unit {0}
Going vars (Bad f) = ⊥

either_going : (vars : ℕ) (c : Bool) (m n : Mode) → Going vars m → Going vars n → Going vars (cond c m n)
either_going vars true m n h k = h
either_going vars false m n h k = k

abbrev machine : Machine LratOf Mode Turn
machine = record { to = λ t. t.to; event = λ t. t.event; vars = λ w. w.vars; taken = λ w. w.taken; mode = λ w. w.mode; Goes = Going; bad = Bad }

quiet_moves : {N I : Type 0} (w : LratOf) (m : Mode) → (N → Next machine w.vars w.taken m) → Moves machine N I w.vars w.taken (quiet w m)
quiet_moves w m n = record { keeps = refl; counts = refl; next = n; said = λ _. tt }

stays_moves : {I : Type 0} (w : LratOf) (m : Mode) → Moves machine (Going w.vars m) I w.vars w.taken (quiet w m)
stays_moves w m = quiet_moves w m (λ n. inl n)

goes_moves : {N I : Type 0} (w : LratOf) (m : Mode) → Going w.vars m → Moves machine N I w.vars w.taken (quiet w m)
goes_moves w m n = quiet_moves w m (λ _. inl n)

fails_moves : {N I : Type 0} (w : LratOf) (kind : ParseFaultKind) → Moves machine N I w.vars w.taken (fails w kind)
fails_moves w kind = quiet_moves w (Bad (record { kind = kind; byte = w.taken })) (λ _. inr (record { kind = kind; byte = w.taken }, refl, refl))

lits_ended_moves : {N I : Type 0} (w : LratOf) (kind : LitList) → Moves machine N I w.vars w.taken (lits_ended w kind)
lits_ended_moves w Clause = goes_moves w (InIds Hints IdGap) tt
lits_ended_moves w Values = record { keeps = refl; counts = refl; next = λ _. inl tt; said = λ _. tt }

ended_within : (vars : ℕ) (kind : IdList) → IsEventWithin vars (Some (ended kind))
ended_within vars Hints = tt
ended_within vars Deletion = tt

heard_within : (vars : ℕ) (kind : LitList) (l : LitOf) → LitWithin vars l → IsEventWithin vars (heard kind l)
heard_within vars Clause l i = tt
heard_within vars Values l i = i

end_part_moves : {N : Type 0} (w : LratOf) (kind : LitList) (part : Part) → Moves machine N (IsPartWithin w.vars part) w.vars w.taken (end_part w kind part)
end_part_moves w kind Gap = goes_moves w (InLits kind Gap) tt
end_part_moves w kind Minus = fails_moves w BadLiteral
end_part_moves w kind Zero = lits_ended_moves w kind
end_part_moves w kind (Digits l) = record { keeps = refl; counts = refl; next = λ _. inl tt; said = λ i. heard_within w.vars kind l i }

end_id_part_moves : {N I : Type 0} (w : LratOf) (kind : IdList) (part : IdPart) → Moves machine N I w.vars w.taken (end_id_part w kind part)
end_id_part_moves w kind IdGap = goes_moves w (InIds kind IdGap) tt
end_id_part_moves w kind (IdMinus place) = fails_moves w BadLiteral
end_id_part_moves w kind IdZero = record { keeps = refl; counts = refl; next = λ _. inl tt; said = λ _. ended_within w.vars kind }
end_id_part_moves w kind (IdDigits h) = record { keeps = refl; counts = refl; next = λ _. inl tt; said = λ _. tt }

end_word_moves : (w : LratOf) (m : Mode) → Moves machine (Going w.vars m) (IsModeWithin w.vars m) w.vars w.taken (end_word w m)
end_word_moves w (Start amid) = stays_moves w (Start amid)
end_word_moves w (Skip amid) = stays_moves w (Skip amid)
end_word_moves w ValuesHead = goes_moves w (InLits Values Gap) tt
end_word_moves w StatusHead = goes_moves w StatusGap tt
end_word_moves w StatusGap = stays_moves w StatusGap
end_word_moves w (Spelled k) = goes_moves w (cond (eqb k 7) Whole (Skip false)) (either_going w.vars (eqb k 7) Whole (Skip false) tt tt)
end_word_moves w Whole = stays_moves w Whole
end_word_moves w (InId k) = record { keeps = refl; counts = refl; next = λ _. inl tt; said = λ _. tt }
end_word_moves w AfterId = stays_moves w AfterId
end_word_moves w DeletionHead = goes_moves w (InIds Deletion IdGap) tt
end_word_moves w (InLits kind part) = end_part_moves w kind part
end_word_moves w (InIds kind part) = end_id_part_moves w kind part
end_word_moves w Closed = stays_moves w Closed
end_word_moves w (Bad f) = stays_moves w (Bad f)

unended_moves : {N I : Type 0} (w : LratOf) (kind : LitList) → Moves machine N I w.vars w.taken (unended w kind)
unended_moves w Clause = fails_moves w BadLine
unended_moves w Values = goes_moves w (Start true) tt

end_line_moves : (w : LratOf) (m : Mode) → Moves machine (Next machine w.vars w.taken m) (Unit {0}) w.vars w.taken (end_line w m)
end_line_moves w (Start amid) = goes_moves w (Start amid) tt
end_line_moves w (Skip amid) = goes_moves w (Start amid) tt
end_line_moves w ValuesHead = goes_moves w (Start true) tt
end_line_moves w StatusHead = goes_moves w (Start false) tt
end_line_moves w StatusGap = goes_moves w (Start false) tt
end_line_moves w (Spelled k) = goes_moves w (Start false) tt
end_line_moves w Whole = record { keeps = refl; counts = refl; next = λ _. inl tt; said = λ _. tt }
end_line_moves w (InId k) = fails_moves w BadLine
end_line_moves w AfterId = fails_moves w BadLine
end_line_moves w DeletionHead = fails_moves w BadLine
end_line_moves w (InLits kind part) = unended_moves w kind
end_line_moves w (InIds kind part) = fails_moves w BadLine
end_line_moves w Closed = goes_moves w (Start false) tt
end_line_moves w (Bad f) = quiet_moves w (Bad f) (λ n. n)

digit_moves : {N I : Type 0} (w : LratOf) (kind : LitList) (negated : Bool) (n b : ℕ) → Moves machine N I w.vars w.taken (visible_digit w kind negated n b)
digit_moves w kind negated n b = either machine (goes_on w.vars n b) _ _ (goes_moves w (InLits kind (Digits (literal (with_digit n b) negated))) tt) (fails_moves w BadLiteral)

first_moves : {N I : Type 0} (w : LratOf) (kind : LitList) (b : ℕ) → Moves machine N I w.vars w.taken (visible_first w kind b)
first_moves w kind b =
    either machine (eqb b 48) _ _ (goes_moves w (InLits kind Zero) tt)
    (by_case machine (not (begins_literal w.vars b)) _ _ (λ _. fails_moves w BadLiteral)
    (λ g. either machine (leb w.vars (length w.lits)) _ _ (fails_moves w LineTooLong)
    (by_case machine (eqb b 45) _ _ (λ t. goes_moves w (InLits kind Minus) (minus_room w.vars b (not_false (begins_literal w.vars b) g) t)) (λ _. digit_moves w kind false 0 b))))

part_moves : {N I : Type 0} (w : LratOf) (kind : LitList) (part : Part) (b : ℕ) → Moves machine N I w.vars w.taken (visible_part w kind part b)
part_moves w kind Gap b = first_moves w kind b
part_moves w kind Minus b = digit_moves w kind true 0 b
part_moves w kind Zero b = fails_moves w BadLiteral
part_moves w kind (Digits l) b = digit_moves w kind l.negated l.var b

id_digit_moves : {N I : Type 0} (w : LratOf) (kind : IdList) (negated : Bool) (place n b : ℕ) → Moves machine N I w.vars w.taken (id_digit w kind negated place n b)
id_digit_moves w kind negated place n b =
    either machine (id_goes_on n b) _ _ (goes_moves w (InIds kind (IdDigits (hint (with_digit n b) negated place))) tt) (fails_moves w BadLiteral)

id_first_moves : {N I : Type 0} (w : LratOf) (kind : IdList) (b : ℕ) → Moves machine N I w.vars w.taken (id_first w kind b)
id_first_moves w kind b =
    either machine (eqb b 48) _ _ (goes_moves w (InIds kind IdZero) tt) (either machine (not (begins_id kind b)) _ _ (fails_moves w BadLiteral)
    (either machine (leb most_hints (length w.hints)) _ _ (fails_moves w LineTooLong)
    (either machine (eqb b 45) _ _ (goes_moves w (InIds kind (IdMinus w.taken)) tt) (id_digit_moves w kind false w.taken 0 b))))

id_part_moves : {N I : Type 0} (w : LratOf) (kind : IdList) (part : IdPart) (b : ℕ) → Moves machine N I w.vars w.taken (id_part w kind part b)
id_part_moves w kind IdGap b = id_first_moves w kind b
id_part_moves w kind (IdMinus place) b = id_digit_moves w kind true place 0 b
id_part_moves w kind IdZero b = fails_moves w BadLiteral
id_part_moves w kind (IdDigits h) b = id_digit_moves w kind h.negated h.place h.id b

own_moves : {N I : Type 0} (w : LratOf) (n b : ℕ) → Moves machine N I w.vars w.taken (own_digit w n b)
own_moves w n b = either machine (id_goes_on n b) _ _ (goes_moves w (InId (with_digit n b)) tt) (fails_moves w BadLiteral)

after_id_moves : {N I : Type 0} (w : LratOf) (b : ℕ) → Moves machine N I w.vars w.taken (visible_after_id w b)
after_id_moves w b = either machine (eqb b 100) _ _ (goes_moves w DeletionHead tt) (first_moves w Clause b)

plain_moves : {N I : Type 0} (w : LratOf) (b : ℕ) → Moves machine N I w.vars w.taken (visible_plain w b)
plain_moves w b = either machine (eqb b 115) _ _ (goes_moves w StatusHead tt) (either machine (is_digit b) _ _ (own_moves w 0 b) (fails_moves w BadLine))

start_moves : {N I : Type 0} (w : LratOf) (amid : Bool) (b : ℕ) → Moves machine N I w.vars w.taken (visible_start w amid b)
start_moves w amid b =
    either machine (eqb b 99) _ _ (goes_moves w (Skip amid) tt) (either machine (eqb b 118) _ _ (goes_moves w ValuesHead tt) (either machine amid _ _ (fails_moves w BadLine) (plain_moves w b)))

spelled_moves : {N I : Type 0} (w : LratOf) (n b : ℕ) → Moves machine N I w.vars w.taken (visible_spelled w n b)
spelled_moves w n b =
    goes_moves w (cond (not (leb 7 n) && eqb b (spelling n)) (Spelled (n + 1)) (Skip false)) (either_going w.vars (not (leb 7 n) && eqb b (spelling n)) (Spelled (n + 1)) (Skip false) tt tt)

visible_moves : {I : Type 0} (w : LratOf) (m : Mode) (b : ℕ) → Moves machine (Going w.vars m) I w.vars w.taken (visible w m b)
visible_moves w (Start amid) b = start_moves (emptied w) amid b
visible_moves w (Skip amid) b = stays_moves w (Skip amid)
visible_moves w ValuesHead b = fails_moves w BadLine
visible_moves w StatusHead b = fails_moves w BadLine
visible_moves w StatusGap b = spelled_moves w 0 b
visible_moves w (Spelled k) b = spelled_moves w k b
visible_moves w Whole b = goes_moves w (Skip false) tt
visible_moves w (InId k) b = own_moves w k b
visible_moves w AfterId b = after_id_moves w b
visible_moves w DeletionHead b = fails_moves w BadLine
visible_moves w (InLits kind part) b = part_moves w kind part b
visible_moves w (InIds kind part) b = id_part_moves w kind part b
visible_moves w Closed b = fails_moves w BadLine
visible_moves w (Bad f) b = stays_moves w (Bad f)

read_moves : (w : LratOf) (b : ℕ) → Moves machine (Going w.vars w.mode) (IsModeWithin w.vars w.mode) w.vars w.taken (read w b)
read_moves w b =
    let t : Turn = end_word w w.mode in
    let h = end_word_moves w w.mode in
    either machine (eqb b 10) (feed_after t) (cond (is_blank b) t (visible w w.mode b)) (in_turn machine t (end_line t.to t.to.mode) (feed_after t) refl refl h (end_line_moves t.to t.to.mode))
    (either machine (is_blank b) t (visible w w.mode b) h (visible_moves w w.mode b))

-- a byte keeps the variables, and goes on or is at fault
pub turn_next : (w : LratOf) (b : ℕ) → Going w.vars w.mode
    → ((turn w b).to.vars ≡ w.vars) × (Going w.vars (turn w b).to.mode ⊎ ((f : ParseFault) × ((turn w b).to.mode ≡ Bad f) × (f.byte ≡ w.taken)))
turn_next w b n = let k = read_moves w b in (k.keeps, k.next n)

pub read_said : (w v : LratOf) (b : ℕ) (event : Option Event) → IsModeWithin w.vars w.mode → (let t : Turn = record { to = v; event = event } in t) ≡ read w b
    → (v.vars ≡ w.vars) × IsEventWithin w.vars event
read_said w v b event i e = kept_within machine (read w b) (record { to = v; event = event }) e (read_moves w b) i

-- bytes that end the line without a fault
pub record Completes (w : LratOf) : Type 0 where
  pub more : List ℕ
  pub amid : Bool
  pub whole : (after w more).mode ≡ Start amid

pub completes : (vars taken place : ℕ) (m : Mode) (line : Kept) → Going vars m → Completes (parser vars taken place m line)
completes vars taken place (Start amid) line n = record { more = []; amid = amid; whole = refl }
completes vars taken place (Skip amid) line n = record { more = 10 ∷ []; amid = amid; whole = refl }
completes vars taken place ValuesHead line n = record { more = 32 ∷ 48 ∷ 10 ∷ []; amid = false; whole = refl }
completes vars taken place StatusHead line n = record { more = 10 ∷ []; amid = false; whole = refl }
completes vars taken place StatusGap line n = record { more = 10 ∷ []; amid = false; whole = refl }
completes vars taken place (Spelled k) line n = record { more = 10 ∷ []; amid = false; whole = spelled_fed (eqb k 7) }
  where
    spelled_fed : (whole : Bool) → (end_line (parser vars taken place (cond whole Whole (Skip false)) line) (cond whole Whole (Skip false))).to.mode ≡ Start false
    spelled_fed true = refl
    spelled_fed false = refl
completes vars taken place Whole line n = record { more = 10 ∷ []; amid = false; whole = refl }
completes vars taken place (InId k) line n = record { more = 32 ∷ 48 ∷ 32 ∷ 48 ∷ 10 ∷ []; amid = false; whole = refl }
completes vars taken place AfterId line n = record { more = 48 ∷ 32 ∷ 48 ∷ 10 ∷ []; amid = false; whole = refl }
completes vars taken place DeletionHead line n = record { more = 32 ∷ 48 ∷ 10 ∷ []; amid = false; whole = refl }
completes vars taken place (InLits Clause Gap) line n = record { more = 48 ∷ 32 ∷ 48 ∷ 10 ∷ []; amid = false; whole = refl }
completes vars taken place (InLits Values Gap) line n = record { more = 48 ∷ 10 ∷ []; amid = false; whole = refl }
completes vars taken place (InLits Clause Minus) line n =
    let e : leb 1 vars ≡ true = le-leb 1 vars n in
    let g : goes_on vars 0 49 ≡ true = e in
    record { more = 49 ∷ 32 ∷ 48 ∷ 32 ∷ 48 ∷ 10 ∷ []; amid = false; whole = one_fed (goes_on vars 0 49) g }
  where
    here : LratOf
    here = parser vars taken place (InLits Clause Minus) line

    one_fed : (one : Bool) → one ≡ true
        → (after (counted taken (cond one (quiet here (InLits Clause (Digits (literal (with_digit 0 49) true)))) (fails here BadLiteral))).to (32 ∷ 48 ∷ 32 ∷ 48 ∷ 10 ∷ [])).mode ≡ Start false
    one_fed true e = refl
    one_fed false e = cc
completes vars taken place (InLits Values Minus) line n =
    let e : leb 1 vars ≡ true = le-leb 1 vars n in
    let g : goes_on vars 0 49 ≡ true = e in
    record { more = 49 ∷ 32 ∷ 48 ∷ 10 ∷ []; amid = false; whole = one_fed (goes_on vars 0 49) g }
  where
    here : LratOf
    here = parser vars taken place (InLits Values Minus) line

    one_fed : (one : Bool) → one ≡ true
        → (after (counted taken (cond one (quiet here (InLits Values (Digits (literal (with_digit 0 49) true)))) (fails here BadLiteral))).to (32 ∷ 48 ∷ 10 ∷ [])).mode ≡ Start false
    one_fed true e = refl
    one_fed false e = cc
completes vars taken place (InLits Clause Zero) line n = record { more = 32 ∷ 48 ∷ 10 ∷ []; amid = false; whole = refl }
completes vars taken place (InLits Values Zero) line n = record { more = 10 ∷ []; amid = false; whole = refl }
completes vars taken place (InLits Clause (Digits l)) line n = record { more = 32 ∷ 48 ∷ 32 ∷ 48 ∷ 10 ∷ []; amid = false; whole = refl }
completes vars taken place (InLits Values (Digits l)) line n = record { more = 32 ∷ 48 ∷ 10 ∷ []; amid = false; whole = refl }
completes vars taken place (InIds kind IdGap) line n = record { more = 48 ∷ 10 ∷ []; amid = false; whole = refl }
completes vars taken place (InIds kind (IdMinus at)) line n = record { more = 49 ∷ 32 ∷ 48 ∷ 10 ∷ []; amid = false; whole = refl }
completes vars taken place (InIds kind IdZero) line n = record { more = 10 ∷ []; amid = false; whole = refl }
completes vars taken place (InIds kind (IdDigits h)) line n = record { more = 32 ∷ 48 ∷ 10 ∷ []; amid = false; whole = refl }
completes vars taken place Closed line n = record { more = 10 ∷ []; amid = false; whole = refl }
completes vars taken place (Bad f) line n = absurd n
