-- What is read at a place, and where reading stops.
use Rattle.std.proofs.Common.{◌≡◌, ◌∙◌, ◌<◌, ◌≤◌, ◌+◌, ◌-◌, ◌⊎◌, ℕ, suc, List, [], ◌∷◌, ◌++◌, Option, Some, None, map, replicate, length, take, drop, get_or, refl, sym, ap, ap₂, subst, inl, inr, arith, append_assoc, length-append, drop-cons}
use Rattle.std.specs.Prelude.{IsErrAnd, MatchResult, slice_range}
use Rattle.std.proofs.Common.{Result, Ok, Err}
use Rattle.std.proofs.lemmas.List.{append-nil, drop-drop, drop_all, get_or-drop, length-drop, length-take, map-append, replicate-append-replicate, take-append-drop, take_more}
use Rattle.std.proofs.lemmas.List.Elements.{All-push}
use Rattle.design_trace.specs.Reading.{Allows, FailsAt, IsDigits, Pattern, Reads, Stops, cycle_pattern, wire_pattern}
use Rattle.design_trace.specs.Stopped.{IsStop}
use Rattle.design_trace.specs.declared.reading.Stop.{Stop}
use Rattle.design_trace.specs.declared.reading.Stop.TheVariants.{Fault, Memory}
use Rattle.design_trace.proofs.Patterns.{Matches, fails_first, fails_later, matches_append, matches_literal}
use Rattle.sby_bits.specs.Rows.{Row}
use Rattle.design_core.specs.Shape.{DesignOf, WireOf, wire_bits}
use Rattle.design_trace.specs.Trace.{IsFault, cycle_line, cycles_from, trace, value_text, wire_line, wire_lines}
use Rattle.design_meaning.specs.Runs.{IsShownOf}
use Rattle.design_trace.proofs.Faults.{stops_is_fault}
use Rattle.design_trace.proofs.Lines.{IsRowOf, digits_match_all, lines_match, lines_push, width_of}
use Rattle.std.specs.List.{flat_map, sum_by}
use Rattle.std.proofs.lemmas.Grind.{flat_map-append}
use Rattle.std.proofs.lemmas.List.Sums.{sum_by_push}

-- ---- one piece after another

pub reads_then : (bytes : List ℕ) (at mid next : ℕ) (a b : List ℕ) → Reads bytes at a mid → Reads bytes mid b next → Reads bytes at (a ++ b) next
reads_then bytes at mid next a b p q = record {
  place = omega (arith, p.place, q.place, length-append a b);
  within = q.within;
  piece_is = p.piece_is ∙ ap (λ t. a ++ t) q.piece_is ∙ sym (append_assoc a b (drop next bytes));
}

pub reads_nothing : (bytes : List ℕ) (at : ℕ) → at ≤ length bytes → Reads bytes at [] at
reads_nothing bytes at le = record { place = omega arith; within = le; piece_is = refl }

pub stops_first : (bytes : List ℕ) (at byte : ℕ) (p q : Pattern) → Stops bytes at p byte → Stops bytes at (p ++ q) byte
stops_first bytes at byte p q s = record { count = s.count; place = s.place; fails = fails_first p q (drop at bytes) s.count s.fails }

pub stops_later : (bytes : List ℕ) (at mid byte : ℕ) (a : List ℕ) (p q : Pattern) → Reads bytes at a mid → Matches p a → Stops bytes mid q byte → Stops bytes at (p ++ q) byte
stops_later bytes at mid byte a p q r m s = record {
  count = length a + s.count;
  place = omega (arith, r.place, s.place);
  fails = subst (λ (xs : List ℕ). FailsAt (p ++ q) xs (length a + s.count)) (sym r.piece_is) (fails_later p q a (drop mid bytes) s.count (length a + s.count) m s.fails refl);
}

-- ---- one place

-- the place is past the bytes, or its byte isn't wanted
abbrev pub IsBad : List ℕ → ℕ → Option ℕ → Type 0
IsBad bytes place p = (length bytes ≤ place) ⊎ ((place < length bytes) × (Allows p (get_or bytes place 0) → ⊥))

bad_fails : (bytes : List ℕ) (place : ℕ) (p : Option ℕ) (q : Pattern) → IsBad bytes place p → FailsAt (p ∷ q) (drop place bytes) 0
bad_fails bytes place p q (inl past) = subst (λ (xs : List ℕ). FailsAt (p ∷ q) xs 0) (sym (drop_all place bytes past)) refl
bad_fails bytes place p q (inr other) = subst (λ (xs : List ℕ). FailsAt (p ∷ q) xs 0) (sym (drop-cons bytes place 0 other.0)) other.1

pub literal_stops : (bytes text : List ℕ) (at place i : ℕ) → place ≡ at + i → i < length text → drop at bytes ≡ take i text ++ drop place bytes
    → IsBad bytes place (Some (get_or text i 0)) → Stops bytes at (map Some text) place
literal_stops bytes text at place i count lt read bad =
    let front = take i text in
    let parts : map Some text ≡ map Some front ++ Some (get_or text i 0) ∷ map Some (drop (suc i) text) =
    ap (map Some) (sym (take-append-drop i text)) ∙ map-append Some front (drop i text) ∙ ap (λ t. map Some front ++ map Some t) (drop-cons text i 0 lt) in
    let long : i ≡ length front + 0 = omega (arith, lt, length-take i text) in
    let fails = fails_later (map Some front) (Some (get_or text i 0) ∷ map Some (drop (suc i) text)) front (drop place bytes) 0 i (matches_literal front)
    (bad_fails bytes place (Some (get_or text i 0)) (map Some (drop (suc i) text)) bad) long in
    record {
      count = i;
      place = count;
      fails = subst (λ p. FailsAt p (drop at bytes) i) (sym parts) (subst (λ (xs : List ℕ). FailsAt (map Some front ++ Some (get_or text i 0) ∷ map Some (drop (suc i) text)) xs i) (sym read) fails);
    }

-- ---- digits

abbrev no_byte : Option ℕ
no_byte = None

replicate_parts : (i j : ℕ) → replicate (i + suc j) no_byte ≡ replicate i no_byte ++ no_byte ∷ replicate j no_byte
replicate_parts i j = sym (replicate-append-replicate i (suc j) no_byte)

pub reads_range : (bytes : List ℕ) (at next : ℕ) → at ≤ next → next ≤ length bytes → Reads bytes at (slice_range bytes at next) next
reads_range bytes at next le within =
    let long : length (take (next - at) (drop at bytes)) ≡ next - at = omega (arith, le, within, length-take (next - at) (drop at bytes), length-drop at bytes) in
    let same : at + (next - at) ≡ next = omega (arith, le) in
    record {
      place = omega (arith, long, le);
      within = within;
      piece_is = sym (take-append-drop (next - at) (drop at bytes)) ∙ ap (λ t. take (next - at) (drop at bytes) ++ t) (drop-drop (next - at) at bytes ∙ ap (λ n. drop n bytes) same);
    }

pub digits_stop : (bytes : List ℕ) (at place i width : ℕ) → place ≡ at + i → i < width → place ≤ length bytes → IsDigits i (slice_range bytes at place)
    → IsBad bytes place None → Stops bytes at (replicate width None) place
digits_stop bytes at place i width count lt within digits bad =
    let read = reads_range bytes at place (omega (arith, count)) within in
    let none : Pattern = replicate (width - suc i) None in
    let bad_here : Stops bytes place (None ∷ none) place = record { count = 0; place = omega arith; fails = bad_fails bytes place None none bad } in
    let split : replicate width None ≡ replicate i None ++ None ∷ none = ap (λ n. replicate n None) (omega (arith, lt)) ∙ replicate_parts i (width - suc i) in
    subst (λ p. Stops bytes at p place) (sym split)
    (stops_later bytes at place place (slice_range bytes at place) (replicate i None) (None ∷ none) read (digits_match_all i (slice_range bytes at place) digits) bad_here)

-- one digit more
pub digits_more : (bytes : List ℕ) (at place i : ℕ) → at ≤ place → place < length bytes → IsDigits i (slice_range bytes at place) → Allows None (get_or bytes place 0)
    → IsDigits (i + 1) (slice_range bytes at (place + 1))
digits_more bytes at place i le lt digits allowed =
    let front = slice_range bytes at place in
    let count : place + 1 - at ≡ (place - at) + 1 = omega (arith, le) in
    let here : place - at < length (drop at bytes) = omega (arith, le, lt, length-drop at bytes) in
    let same : at + (place - at) ≡ place = omega (arith, le) in
    let more : slice_range bytes at (place + 1) ≡ front ++ get_or bytes place 0 ∷ [] =
    ap (λ n. take n (drop at bytes)) count ∙ take_more (drop at bytes) (place - at) 0 here
    ∙ ap (λ x. front ++ x ∷ []) (get_or-drop at bytes (place - at) 0 ∙ ap (λ n. get_or bytes n 0) same) in
    subst (IsDigits (i + 1)) (sym more) (omega (arith, length-append front (get_or bytes place 0 ∷ []), digits.0), All-push (Allows None) front (get_or bytes place 0) digits.1 allowed)

-- ---- stops

pub stop_weaker : (stop : Stop) (P Q : ℕ → Type 0) → ((byte : ℕ) → P byte → Q byte) → IsStop stop P → IsStop stop Q
stop_weaker (Fault fault) P Q weaker is = weaker fault.byte is
stop_weaker Memory P Q weaker is = tt

pub stop_at : (stop : Stop) (place : ℕ) (Q : ℕ → Type 0) → IsStop stop (λ byte. byte ≡ place) → Q place → IsStop stop Q
stop_at stop place Q is holds = stop_weaker stop (λ byte. byte ≡ place) Q (λ byte same. subst Q (sym same) holds) is

-- an error that `?` hands on
pub handed_on : {T : Type 0} (r : Result T Stop) (stop : Stop) (Q : T → Type 0) (P R : ℕ → Type 0) → IsErrAnd r (λ y. y ≡ stop)
    → ((byte : ℕ) → P byte → R byte) → IsStop stop P → MatchResult r Q (λ s. IsStop s R)
handed_on (Ok x) stop Q P R is weaker holds = absurd is
handed_on (Err y) stop Q P R is weaker holds = subst (λ (s : Stop). IsStop s R) (sym is) (stop_weaker stop P R weaker holds)

-- the last call goes on where the ones before it stopped
pub goes_on : (bytes : List ℕ) (at mid : ℕ) (a b : List ℕ) (p q : Pattern) (r : Result ℕ Stop) → Reads bytes at a mid → Matches p a
    → MatchResult r (Reads bytes mid b) (λ s. IsStop s (Stops bytes mid q)) → MatchResult r (Reads bytes at (a ++ b)) (λ s. IsStop s (Stops bytes at (p ++ q)))
goes_on bytes at mid a b p q (Ok next) read matched more = reads_then bytes at mid next a b read more
goes_on bytes at mid a b p q (Err stop) read matched more = stop_weaker stop _ _ (λ byte. stops_later bytes at mid byte a p q read matched) more

-- ---- wires

-- a line of this name and width was read, or reading stopped in it
abbrev pub LineRead : List ℕ → ℕ → Row → Row → List ℕ → ℕ → Result ℕ Stop → Type 0
LineRead bytes at old new name width r = MatchResult r
    (λ next. (bits : Row) × (new ≡ old ++ bits) × (length bits ≡ width) × Reads bytes at (name ++ 32 ∷ (value_text bits ++ 10 ∷ [])) next)
    (λ stop. IsStop stop (Stops bytes at (map Some name ++ Some 32 ∷ (replicate width None ++ Some 10 ∷ []))))

name_goes_on : (bytes : List ℕ) (at mid : ℕ) (old new : Row) (name : List ℕ) (width : ℕ) (r : Result ℕ Stop) → Reads bytes at (name ++ 32 ∷ []) mid
    → MatchResult r (λ next. (bits : Row) × (new ≡ old ++ bits) × (length bits ≡ width) × Reads bytes mid (value_text bits ++ 10 ∷ []) next)
    (λ stop. IsStop stop (Stops bytes mid (replicate width None ++ Some 10 ∷ [])))
    → LineRead bytes at old new name width r
name_goes_on bytes at mid old new name width (Ok next) read more =
    let bits = more.0 in (
      bits,
      more.1,
      more.2,
      subst (λ (t : List ℕ). Reads bytes at t next) (append_assoc name (32 ∷ []) (value_text bits ++ 10 ∷ []))
          (reads_then bytes at mid next (name ++ 32 ∷ []) (value_text bits ++ 10 ∷ []) read more.3),
    )
name_goes_on bytes at mid old new name width (Err stop) read more =
    let head = map Some name ++ Some 32 ∷ [] in
    let rest : Pattern = replicate width None ++ Some 10 ∷ [] in
    stop_weaker stop _ _ (λ byte stops. subst (λ (p : Pattern). Stops bytes at p byte) (append_assoc (map Some name) (Some 32 ∷ []) rest)
    (stops_later bytes at mid byte (name ++ 32 ∷ []) head rest read
    (matches_append (map Some name) (Some 32 ∷ []) name (32 ∷ []) (matches_literal name) (refl, tt)) stops)) more

pub line_goes_on : (bytes : List ℕ) (at mid : ℕ) (old new : Row) (w : WireOf) (name : List ℕ) (width : ℕ) (r : Result ℕ Stop) → name ≡ w.name → width ≡ w.width
    → Reads bytes at (name ++ 32 ∷ []) mid
    → MatchResult r (λ next. (bits : Row) × (new ≡ old ++ bits) × (length bits ≡ width) × Reads bytes mid (value_text bits ++ 10 ∷ []) next)
    (λ stop. IsStop stop (Stops bytes mid (replicate width None ++ Some 10 ∷ [])))
    → LineRead bytes at old new w.name w.width r
line_goes_on bytes at mid old new w name width r same_name same_width read more =
    subst (λ (n : ℕ). LineRead bytes at old new w.name n r) same_width
    (subst (λ (t : List ℕ). LineRead bytes at old new t width r) same_name (name_goes_on bytes at mid old new name width r read more))

pub head_stops : (bytes : List ℕ) (at byte : ℕ) (w : WireOf) (name : List ℕ) → name ≡ w.name → Stops bytes at (map Some name ++ Some 32 ∷ []) byte → Stops bytes at (wire_pattern w) byte
head_stops bytes at byte w name same stops =
    let rest : Pattern = replicate w.width None ++ Some 10 ∷ [] in
    subst (λ (p : Pattern). Stops bytes at p byte) (append_assoc (map Some w.name) (Some 32 ∷ []) rest)
    (stops_first bytes at byte (map Some w.name ++ Some 32 ∷ []) rest (subst (λ (t : List ℕ). Stops bytes at (map Some t ++ Some 32 ∷ []) byte) same stops))

-- one wire more was read
pub lines_more : (bytes : List ℕ) (at place next : ℕ) (wires : List WireOf) (i : ℕ) (w : WireOf) → i < length wires → w ≡ get_or wires i w
    → (old row new r s : Row) → row ≡ old ++ r → length r ≡ sum_by width_of (take i wires) → Reads bytes at (wire_lines (take i wires) r) place
    → new ≡ row ++ s → length s ≡ w.width → Reads bytes place (wire_line w s) next
    → (next ≤ length bytes) × ((bits : Row) × (new ≡ old ++ bits) × (length bits ≡ sum_by width_of (take (i + 1) wires)) × Reads bytes at (wire_lines (take (i + 1) wires) bits) next)
lines_more bytes at place next wires i w lt is old row new r s row_is r_long before new_is s_long line =
    let more : take (i + 1) wires ≡ take i wires ++ w ∷ [] = take_more wires i w lt ∙ ap (λ v. take i wires ++ v ∷ []) (sym is) in
    let text : wire_lines (take i wires) r ++ wire_line w s ≡ wire_lines (take (i + 1) wires) (r ++ s) =
    sym (lines_push (take i wires) w r s r_long s_long) ∙ ap (λ ws. wire_lines ws (r ++ s)) (sym more) in
    let count : sum_by width_of (take (i + 1) wires) ≡ sum_by width_of (take i wires) + w.width = ap (sum_by width_of) more ∙ sum_by_push width_of (take i wires) w in
    let long : length (r ++ s) ≡ sum_by width_of (take (i + 1) wires) = omega (arith, length-append r s, r_long, s_long, count) in (
      line.within,
      (
        r ++ s,
        new_is ∙ ap (λ t. t ++ s) row_is ∙ append_assoc old r s,
        long,
        subst (λ (t : List ℕ). Reads bytes at t next) text (reads_then bytes at place next (wire_lines (take i wires) r) (wire_line w s) before line),
      ),
    )

-- reading stopped in a wire's line
pub line_stops : (bytes : List ℕ) (at place byte : ℕ) (wires : List WireOf) (i : ℕ) (w : WireOf) → i < length wires → w ≡ get_or wires i w
    → (r : Row) → length r ≡ sum_by width_of (take i wires) → Reads bytes at (wire_lines (take i wires) r) place
    → Stops bytes place (wire_pattern w) byte → Stops bytes at (flat_map wire_pattern wires) byte
line_stops bytes at place byte wires i w lt is r long before stops =
    let front = take i wires in
    let later = drop (suc i) wires in
    let parts : wires ≡ front ++ w ∷ later = sym (take-append-drop i wires) ∙ ap (λ t. front ++ t) (drop-cons wires i w lt ∙ ap (λ v. v ∷ later) (sym is)) in
    subst (λ (p : Pattern). Stops bytes at p byte) (sym (ap (flat_map wire_pattern) parts ∙ flat_map-append wire_pattern front (w ∷ later)))
    (stops_later bytes at place byte (wire_lines front r) (flat_map wire_pattern front) (wire_pattern w ++ flat_map wire_pattern later)
    before (lines_match front r long) (stops_first bytes place byte (wire_pattern w) (flat_map wire_pattern later) stops))

-- ---- cycles

-- the wires' lines were read after the cycle's line
pub cycle_goes_on : (bytes : List ℕ) (at mid : ℕ) (d : DesignOf) (k : ℕ) (ws : List WireOf) (old new : Row) (r : Result ℕ Stop) → ws ≡ d.wires → old ≡ []
    → Reads bytes at (cycle_line k) mid
    → MatchResult r (λ next. (bits : Row) × (new ≡ old ++ bits) × (length bits ≡ sum_by width_of ws) × Reads bytes mid (wire_lines ws bits) next)
    (λ stop. IsStop stop (Stops bytes mid (flat_map wire_pattern ws)))
    → MatchResult r (λ next. (length new ≡ wire_bits d) × Reads bytes at (cycle_line k ++ wire_lines d.wires new) next)
    (λ stop. IsStop stop (Stops bytes at (cycle_pattern d k)))
cycle_goes_on bytes at mid d k ws old new (Ok next) same empty read more =
    let new_is : new ≡ more.0 = more.1 ∙ ap (λ t. t ++ more.0) empty in
    let line = reads_then bytes at mid next (cycle_line k) (wire_lines ws more.0) read more.3 in (
      ap length new_is ∙ more.2 ∙ ap (sum_by width_of) same,
      subst (λ (t : List ℕ). Reads bytes at (cycle_line k ++ t) next) (ap₂ wire_lines same (sym new_is)) line,
    )
cycle_goes_on bytes at mid d k ws old new (Err stop) same empty read more =
    stop_weaker stop _ _ (λ byte stops. stops_later bytes at mid byte (cycle_line k) (map Some (cycle_line k)) (flat_map wire_pattern d.wires) read (matches_literal (cycle_line k))
    (subst (λ (v : List WireOf). Stops bytes mid (flat_map wire_pattern v) byte) same stops)) more

pub cycles_push : (d : DesignOf) (k n : ℕ) (rows : List Row) (row : Row) → n ≡ k + length rows
    → cycles_from d k (rows ++ row ∷ []) ≡ cycles_from d k rows ++ (cycle_line n ++ wire_lines d.wires row)
cycles_push d k n [] row e =
    let same : k ≡ n = omega (arith, e) in
    append-nil (cycle_line k ++ wire_lines d.wires row) ∙ ap (λ m. cycle_line m ++ wire_lines d.wires row) same
cycles_push d k n (x ∷ rows) row e =
    ap (λ t. cycle_line k ++ wire_lines d.wires x ++ t) (cycles_push d (k + 1) n rows row (omega (arith, e)))
    ∙ sym (append_assoc (cycle_line k ++ wire_lines d.wires x) (cycles_from d (k + 1) rows) (cycle_line n ++ wire_lines d.wires row))

-- the cycles that were read so far
pub record CyclesRead (d : DesignOf) (bytes : List ℕ) (rows : List Row) (at number : ℕ) : Type 0 where
  pub count : number ≡ length rows
  pub few : number ≤ at
  pub fits : IsShownOf d rows
  pub text : Reads bytes 0 (trace d rows) at

pub cycle_is_long : (bytes : List ℕ) (at k next : ℕ) (t : List ℕ) → Reads bytes at (cycle_line k ++ t) next → at < next
cycle_is_long bytes at k next t read = omega (arith, read.place)

pub cycle_read : (d : DesignOf) (bytes : List ℕ) (rows all : List Row) (row : Row) (at number next : ℕ) → CyclesRead d bytes rows at number → all ≡ rows ++ row ∷ []
    → length row ≡ wire_bits d → Reads bytes at (cycle_line number ++ wire_lines d.wires row) next → CyclesRead d bytes all next (number + 1)
cycle_read d bytes rows all row at number next before all_is long read =
    let text = reads_then bytes 0 at next (trace d rows) (cycle_line number ++ wire_lines d.wires row) before.text read in
    record {
      count = omega (arith, before.count, ap length all_is, length-append rows (row ∷ []));
      few = omega (arith, before.few, cycle_is_long bytes at number next (wire_lines d.wires row) read);
      fits = subst (IsShownOf d) (sym all_is) (All-push (IsRowOf d) rows row before.fits long);
      text = subst (λ (t : List ℕ). Reads bytes 0 t next) (sym (ap (trace d) all_is ∙ cycles_push d 0 number rows row (omega (arith, before.count)))) text;
    }

pub cycle_stops : (d : DesignOf) (bytes : List ℕ) (rows : List Row) (at number byte : ℕ) → CyclesRead d bytes rows at number → (number ≡ 0) ⊎ (at < length bytes)
    → Stops bytes at (cycle_pattern d number) byte → IsFault d bytes byte
cycle_stops d bytes rows at number byte read (inl none) stops =
    stops_is_fault d rows bytes at byte read.fits (omega (arith, read.text.place)) read.text.piece_is (inl (sym read.count ∙ none)) (subst (λ n. Stops bytes at (cycle_pattern d n) byte) read.count stops)
cycle_stops d bytes rows at number byte read (inr more) stops =
    stops_is_fault d rows bytes at byte read.fits (omega (arith, read.text.place)) read.text.piece_is (inr more) (subst (λ n. Stops bytes at (cycle_pattern d n) byte) read.count stops)
