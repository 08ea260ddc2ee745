-- Each text of a signal is read as that signal.
use Rattle.std.proofs.Common.{◌≡◌, ℕ, zero, suc, ◌+◌, ◌-◌, ◌<◌, ◌≤◌, Bool, true, false, List, [], ◌∷◌, ◌++◌, map, length, take, drop, get_or, Some, None, Err, cond, refl, sym, ap, ◌∙◌, subst, append_assoc, arith}
use Rattle.std.specs.Prelude.{codes, nat_le, nat_lt, reverse, flat_map, slice_get}
use Rattle.std.specs.List.{AllByRecursion, AllZip, list_any, range_with_len}
use Rattle.std.proofs.lemmas.Bool.Decides.{nat_tests}
use Rattle.std.proofs.lemmas.List.{length-append, length-reverse, map-append, reverse-append, reverse-reverse}
use Rattle.design_signals.proofs.RowLemmas.{slice_turned}
use Rattle.design_signals.specs.Parts.{wire_row, slice_row}
use Rattle.design_signals.specs.declared.sig_bit.SigBit.{SigBit}
use Rattle.design_signals.specs.declared.sig_bit.SigBit.TheVariants.{Wire, Free}
use Rattle.rtlil_constant.specs.Constants.{Word, is_marker, is_open, number_of, open_digits, slice_of}
use Rattle.design_core.specs.Shape.{WireOf, wire_bits}
use Rattle.design_reader.specs.Parts.{DraftOf}
use Rattle.design_reader.specs.Grammar.{goes_on, most_bits, is_ignored_target, with_free, constant_part, numbered_bits, plain_bit, part_word, signal_word, slice_fault, step, steps, word_step}
use Rattle.reader_law.specs.Printed.{Line, bit_number, signal_numbers}
use Rattle.reader_law.specs.ConstantTexts.{State, state_digits, IsConstantText}
use Rattle.reader_law.specs.ConstantTexts.State.{Zero, One, Undefined, HighImpedance, DontCare, Marked}
use Rattle.reader_law.specs.SignalTexts.{IsSignalText, IsBitOf}
use Rattle.reader_law.specs.SignalTexts.IsSignalText.{wire, constant, bit, range, braces, last, above}
use Rattle.design_reader.specs.declared.fault.ReadFaultKind.TheVariants.{Limit}
use Rattle.design_reader.specs.declared.spot.Target.{Target}
use Rattle.design_reader.specs.declared.spot.Target.TheVariants.{Left, Right}
use Rattle.design_reader.specs.declared.spot.Spot.TheVariants.{Signal, Part}
use Rattle.reader_law.proofs.PrintedWords.{IsFigure, colon_apart, cut_at_mark, front_push, index_of, last_at}
use Rattle.reader_law.proofs.ConstantSteps.{constant_plain, number_figures, number_read, states_read}
use Rattle.reader_law.proofs.Steps.{Bits, AreNamed, IsHere, Next, constant_step, free_at, joined_constant, joined_name, named_step, next_rises, next_split, one, right_constant, right_name, right_opened, same_step}

-- ---- a wire's bits

up_push : (a n : ℕ) → range_with_len a (suc n) ≡ range_with_len a n ++ (a + n) ∷ []
up_push a zero = let same : a ≡ a + 0 = omega arith in ap (λ (x : ℕ). x ∷ []) same
up_push a (suc n) =
    let same : a + 1 + n ≡ a + suc n = omega arith in
    ap (λ (x : List ℕ). a ∷ x) (up_push (a + 1) n ∙ ap (λ (x : ℕ). range_with_len (a + 1) n ++ x ∷ []) same)

wire_falls : (w n : ℕ) → wire_row w n ≡ reverse (map (λ b. Wire w b) (range_with_len 0 n))
wire_falls w zero = refl
wire_falls w (suc n) =
    let f = λ (b : ℕ). Wire w b in
    let same : n ≡ 0 + n = omega arith in
    sym (ap (λ (x : List ℕ). reverse (map f x)) (up_push 0 n)
    ∙ ap (λ (x : Bits). reverse x) (map-append f (range_with_len 0 n) ((0 + n) ∷ []))
    ∙ reverse-append (map f (range_with_len 0 n)) (f (0 + n) ∷ [])
    ∙ ap (λ (x : ℕ). f x ∷ reverse (map f (range_with_len 0 n))) (sym same)
    ∙ ap (λ (x : Bits). f n ∷ x) (sym (wire_falls w n)))

-- ---- a constant's bits

-- the next free bit is that of an open state
open_next : (n m k : ℕ) (b : SigBit) (row : Bits) → b ≡ Free k → Next n (flat_map bit_number (b ∷ row)) m → (b ≡ Free n) × Next (n + 1) (flat_map bit_number row) m
open_next n m k b row e h =
    let at = subst (λ (x : SigBit). Next n (bit_number x ++ flat_map bit_number row) m) e h in
    (e ∙ ap (λ (x : ℕ). Free x) at.0, at.1)

-- digits are read as these bits, which are numbered up to m, and none of them is an m
record AreBits (n m : ℕ) (digits : List ℕ) (row : Bits) : Type 0 where
  bits : numbered_bits n digits ≡ row
  count : n + open_digits digits ≡ m
  unmarked : list_any is_marker digits ≡ false

bound_bit : (n m c : ℕ) (digits : List ℕ) (b : SigBit) (row : Bits) → is_open c ≡ false → is_marker c ≡ false → b ≡ plain_bit c → AreBits n m digits row → AreBits n m (c ∷ digits) (b ∷ row)
bound_bit n m c digits b row o k e r =
    let bits = r.bits in
    record { bits = rw (o, bits) (ap (λ (x : SigBit). x ∷ row) (sym e)); count = rw o r.count; unmarked = rw k r.unmarked }

open_bit : (n m c : ℕ) (digits : List ℕ) (b : SigBit) (row : Bits) → is_open c ≡ true → is_marker c ≡ false → b ≡ Free n → AreBits (n + 1) m digits row → AreBits n m (c ∷ digits) (b ∷ row)
open_bit n m c digits b row o k e r =
    let bits = r.bits in
    let count = r.count in
    record { bits = rw (o, bits) (ap (λ (x : SigBit). x ∷ row) (sym e)); count = rw o (omega arith); unmarked = rw k r.unmarked }

states_bits : (n m : ℕ) (states : List State) (row : Bits) → AllZip IsBitOf states row → Next n (flat_map bit_number row) m → AreBits n m (state_digits states) row
states_bits n m [] [] z h = record { bits = refl; count = omega arith; unmarked = refl }
states_bits n m [] (b ∷ row) z h = absurd z
states_bits n m (s ∷ states) [] z h = absurd z
states_bits n m (Zero ∷ states) (b ∷ row) z h =
    bound_bit n m 48 (state_digits states) b row refl refl z.0 (states_bits n m states row z.1 (subst (λ (x : SigBit). Next n (bit_number x ++ flat_map bit_number row) m) z.0 h))
states_bits n m (One ∷ states) (b ∷ row) z h =
    bound_bit n m 49 (state_digits states) b row refl refl z.0 (states_bits n m states row z.1 (subst (λ (x : SigBit). Next n (bit_number x ++ flat_map bit_number row) m) z.0 h))
states_bits n m (Undefined ∷ states) (b ∷ row) z h =
    let o = open_next n m z.0.0 b row z.0.1 h in open_bit n m 120 (state_digits states) b row refl refl o.0 (states_bits (n + 1) m states row z.1 o.1)
states_bits n m (HighImpedance ∷ states) (b ∷ row) z h =
    let o = open_next n m z.0.0 b row z.0.1 h in open_bit n m 122 (state_digits states) b row refl refl o.0 (states_bits (n + 1) m states row z.1 o.1)
states_bits n m (DontCare ∷ states) (b ∷ row) z h =
    let o = open_next n m z.0.0 b row z.0.1 h in open_bit n m 45 (state_digits states) b row refl refl o.0 (states_bits (n + 1) m states row z.1 o.1)
states_bits n m (Marked ∷ states) (b ∷ row) z h = absurd z.0

none_open : (n : ℕ) (digits : List ℕ) → open_digits digits ≡ 0 → map plain_bit digits ≡ numbered_bits n digits
none_open n [] h = refl
none_open n (c ∷ digits) h =
    elim (is_open c) as (λ (v : Bool). cond v (1 + open_digits digits) (open_digits digits) ≡ 0 → plain_bit c ∷ map plain_bit digits ≡ cond v (Free n ∷ numbered_bits (n + 1) digits) (plain_bit c ∷ numbered_bits n digits)) [
      | true ↦ λ e. absurd (omega arith)
      | false ↦ λ e. ap (λ (x : Bits). plain_bit c ∷ x) (none_open n digits e)
    ] h

part_is : (d : DraftOf) (t : Target) (rows : List Bits) (states : List State) (row : Bits) (m : ℕ) → 0 < length row → AllZip IsBitOf states row → IsHere d t m → Next d.design.free (flat_map bit_number row) m
    → constant_part d t rows (state_digits states) ≡ goes_on (free_at d m) (Part t (row ∷ rows))
part_is d t rows [] [] m some z here next = absurd (omega arith)
part_is d t rows [] (b ∷ row) m some z here next = absurd z
part_is d t rows (s ∷ states) row m some z here next =
    let digits = state_digits (s ∷ states) in
    let r = states_bits d.design.free m (s ∷ states) row z next in
    let no_marker = r.unmarked in
    let back = r.bits in
    let count = r.count in
    let room = here.room in
    let fits : nat_le (wire_bits d.design + d.design.free + open_digits digits) most_bits ≡ true = grind (arith, nat_tests) in
    rw no_marker
    (elim (is_ignored_target t) as (λ (v : Bool). is_ignored_target t ≡ v
    → cond v (goes_on d (Part t (map plain_bit digits ∷ rows))) (cond (nat_le (wire_bits d.design + d.design.free + open_digits digits) most_bits) (goes_on (with_free d (open_digits digits)) (Part t (numbered_bits d.design.free digits ∷ rows))) (Err Limit))
    ≡ goes_on (free_at d m) (Part t (row ∷ rows))) [
      | true ↦ λ k.
          let same = none_open d.design.free digits (omega (arith, count, here.kept k)) ∙ back in
          ap (λ (x : Bits). goes_on d (Part t (x ∷ rows))) same ∙ ap (λ (n : ℕ). goes_on (free_at d n) (Part t (row ∷ rows))) (here.kept k)
      | false ↦ λ k. rw (fits, back, count) refl
    ] refl)

-- ---- slices

range_of : (n m : ℕ) (w v : Word) → AllByRecursion IsFigure w → number_of w ≡ Some n → number_of v ≡ Some m → slice_of (91 ∷ ((w ++ 58 ∷ v) ++ 93 ∷ [])) ≡ Some (n, m)
range_of n m w v f e g =
    let inner = w ++ 58 ∷ v in
    let long : length (inner ++ 93 ∷ []) - 1 ≡ length inner = omega (arith, length-append inner (93 ∷ [])) in
    let some : nat_le 1 (length (inner ++ 93 ∷ [])) ≡ true = let l = length-append inner (93 ∷ []) in grind (arith, nat_tests) in
    let end : get_or (inner ++ 93 ∷ []) (length (inner ++ 93 ∷ []) - 1) 0 ≡ 93 = rw long (last_at inner 93) in
    let inside = front_push inner 93 in
    rw (some, end, inside, cut_at_mark 58 w v colon_apart f, e, g) refl

within : (n m long : ℕ) → m ≤ n → n < long → slice_fault long n m ≡ None
within n m long h k =
    let a : nat_lt n long ≡ true = grind (arith, nat_tests) in
    let b : nat_lt m long ≡ true = grind (arith, nat_tests) in
    let c : nat_le m n ≡ true = grind (arith, nat_tests) in
    rw (a, b, c) refl

cut_step : (d : DraftOf) (t : Target) (rows : List Bits) (signal : Bits) (n m : ℕ) (inner : Word) → slice_of (91 ∷ inner) ≡ Some (n, m) → m ≤ n → n < length signal
    → step d (Part t (reverse signal ∷ rows)) (91 ∷ inner) ≡ goes_on d (Part t (reverse (take (n - m + 1) (drop m signal)) ∷ rows))
unfolding word_step part_word
cut_step d t rows signal n m inner e h k = by rows
  where
    long : length (reverse signal) ≡ length signal
    long = length-reverse signal

    none : slice_fault (length (reverse signal)) n m ≡ None
    none = within n m (length (reverse signal)) h (omega (arith, long))

    turned : slice_row (reverse signal) n m ≡ reverse (take (n - m + 1) (drop m signal))
    turned = sym (slice_turned (reverse signal) n m h (omega (arith, long))) ∙ ap (λ (x : Bits). reverse (take (n - m + 1) (drop m x))) (reverse-reverse signal)

    by : (others : List Bits) → step d (Part t (reverse signal ∷ others)) (91 ∷ inner) ≡ goes_on d (Part t (reverse (take (n - m + 1) (drop m signal)) ∷ others))
    by [] = rw (e, none) (ap (λ (x : Bits). goes_on d (Part t (x ∷ []))) turned)
    by (row ∷ others) = rw (e, none) (ap (λ (x : Bits). goes_on d (Part t (x ∷ row ∷ others))) turned)

-- ---- the first word

-- a word that goes on in a concatenation, and on the right of a connect, as it does where a signal begins
record IsFirst (ws : Line) : Type 0 where
  word : Word
  more : Line
  are : ws ≡ word ∷ more
  joins : (d : DraftOf) (t : Target) (row front : Bits) (rows : List Bits) → step d (Part t (row ∷ front ∷ rows)) word ≡ step d (Signal t ((front ++ row) ∷ rows)) word
  right : (d : DraftOf) (row : Bits) → step d (Part Left (row ∷ [])) word ≡ step d (Signal (Right (reverse row)) []) word

first_then : (ws vs : Line) → IsFirst ws → IsFirst (ws ++ vs)
first_then ws vs f = record { word = f.word; more = f.more ++ vs; are = ap (λ (x : Line). x ++ vs) f.are; joins = f.joins; right = f.right }

opened_joins : (d : DraftOf) (t : Target) (row front : Bits) (rows : List Bits) → step d (Part t (row ∷ front ∷ rows)) (codes "{") ≡ step d (Signal t ((front ++ row) ∷ rows)) (codes "{")
unfolding word_step part_word
opened_joins d t row front rows = refl

first_of : (wires : List WireOf) (parts : Bool) (ws : Line) (signal : Bits) (numbers : List ℕ) → AreNamed wires → IsSignalText wires parts ws signal numbers → IsFirst ws
first_of wires parts ws signal numbers n (wire w x at) = record { word = x.name; more = []; are = refl; joins = λ d t row front rows. joined_name d t row front rows x.name (n.names w x at); right = λ d row. right_name d row x.name (n.names w x at) }
first_of wires parts ws signal numbers n (constant w states s some c z) =
    let plain = constant_plain w states c in
    record { word = w; more = []; are = refl; joins = λ d t row front rows. joined_constant d t row front rows w plain; right = λ d row. right_constant d row w plain }
first_of wires parts ws signal numbers n (bit vs s ns w i t lt p) = first_then vs _ (first_of wires false vs s ns n p)
first_of wires parts ws signal numbers n (range vs s ns w v i j t u le lt p) = first_then vs _ (first_of wires false vs s ns n p)
first_of wires parts ws signal numbers n (braces vs s ns p) = record { word = codes "{"; more = vs ++ codes "}" ∷ []; are = refl; joins = opened_joins; right = right_opened }
first_of wires parts ws signal numbers n (last vs s ns p) = first_of wires false vs s ns n p
first_of wires parts ws signal numbers n (above us vs high low ns ms p q) = first_then us vs (first_of wires false us high ns n p)

-- ---- all words

abbrev pub over : List WireOf → DraftOf → DraftOf
over wires d = record d { design = record d.design { wires = wires } }

-- where a signal's words lead
Means : List WireOf → Bool → Line → Bits → List ℕ → Type 0
Means wires false ws signal numbers =
    (d : DraftOf) (t : Target) (rows : List Bits) (m : ℕ) (rest : List Word) → IsHere (over wires d) t m → Next d.design.free numbers m
    → steps (over wires d) (Signal t rows) (ws ++ rest) ≡ steps (free_at (over wires d) m) (Part t (reverse signal ∷ rows)) rest
Means wires true ws signal numbers =
    (d : DraftOf) (t : Target) (front : Bits) (rows : List Bits) (m : ℕ) (rest : List Word) → IsHere (over wires d) t m → Next d.design.free numbers m
    → steps (over wires d) (Signal t (front ∷ rows)) (ws ++ codes "}" ∷ rest) ≡ steps (free_at (over wires d) m) (Part t ((front ++ reverse signal) ∷ rows)) rest

opened_rows : (d : DraftOf) (t : Target) (rows : List Bits) → step d (Signal t rows) (codes "{") ≡ goes_on d (Signal t ([] ∷ rows))
unfolding word_step signal_word
opened_rows d t rows = refl

closed_rows : (d : DraftOf) (t : Target) (row front : Bits) (rows : List Bits) → step d (Part t (row ∷ front ∷ rows)) (codes "}") ≡ goes_on d (Part t ((front ++ row) ∷ rows))
unfolding word_step part_word
closed_rows d t row front rows = refl

cut_means : (wires : List WireOf) (ws : Line) (signal : Bits) (numbers : List ℕ) (n m : ℕ) (inner : Word) → slice_of (91 ∷ inner) ≡ Some (n, m) → m ≤ n → n < length signal → Means wires false ws signal numbers
    → Means wires false (ws ++ (91 ∷ inner) ∷ []) (take (n - m + 1) (drop m signal)) numbers
unfolding Means
cut_means wires ws signal numbers n m inner e le lt p d t rows k rest here next =
    let cut_bits = take (n - m + 1) (drop m signal) in
    let f = free_at (over wires d) k in
    ap (λ (x : List Word). steps (over wires d) (Signal t rows) x) (append_assoc ws ((91 ∷ inner) ∷ []) rest)
    ∙ p d t rows k ((91 ∷ inner) ∷ rest) here next
    ∙ one f f (Part t (reverse signal ∷ rows)) (Part t (reverse cut_bits ∷ rows)) (91 ∷ inner) rest (cut_step f t rows signal n m inner e le lt)

wire_means : (wires : List WireOf) (w : ℕ) (x : WireOf) → slice_get wires w ≡ Some x → Means wires false (x.name ∷ []) (map (λ b. Wire w b) (range_with_len 0 x.width)) []
unfolding Means
wire_means wires w x at d t rows m rest here next =
    let row = reverse (map (λ (b : ℕ). Wire w b) (range_with_len 0 x.width)) in
    one (over wires d) (over wires d) (Signal t rows) (Part t (wire_row w x.width ∷ rows)) x.name rest (named_step (over wires d) t rows w x here.named at)
    ∙ ap (λ (y : Bits). steps (over wires d) (Part t (y ∷ rows)) rest) (wire_falls w x.width)
    ∙ ap (λ (k : ℕ). steps (free_at (over wires d) k) (Part t (row ∷ rows)) rest) next

constant_means : (wires : List WireOf) (w : Word) (states : List State) (signal : Bits) → 0 < length signal → IsConstantText w states → AllZip IsBitOf states (reverse signal) → Means wires false (w ∷ []) signal (signal_numbers signal)
unfolding Means
constant_means wires w states signal some c z d t rows m rest here next =
    let row = reverse signal in
    let word = constant_step (over wires d) t rows (state_digits states) w (constant_plain w states c) (states_read 1 w states (omega arith) c) in
    one (over wires d) (free_at (over wires d) m) (Signal t rows) (Part t (row ∷ rows)) w rest (word ∙ part_is (over wires d) t rows states row m (omega (arith, some, length-reverse signal)) z here next)

braces_mean : (wires : List WireOf) (ws : Line) (signal : Bits) (numbers : List ℕ) → Means wires true ws signal numbers → Means wires false (codes "{" ∷ (ws ++ codes "}" ∷ [])) signal numbers
unfolding Means
braces_mean wires ws signal numbers p d t rows m rest here next =
    one (over wires d) (over wires d) (Signal t rows) (Signal t ([] ∷ rows)) (codes "{") ((ws ++ codes "}" ∷ []) ++ rest) (opened_rows (over wires d) t rows)
    ∙ ap (λ (x : List Word). steps (over wires d) (Signal t ([] ∷ rows)) x) (append_assoc ws (codes "}" ∷ []) rest)
    ∙ p d t [] rows m rest here next

last_means : (wires : List WireOf) (ws : Line) (signal : Bits) (numbers : List ℕ) → Means wires false ws signal numbers → Means wires true ws signal numbers
unfolding Means
last_means wires ws signal numbers p d t front rows m rest here next =
    let e = free_at (over wires d) m in
    p d t (front ∷ rows) m (codes "}" ∷ rest) here next
    ∙ one e e (Part t (reverse signal ∷ front ∷ rows)) (Part t ((front ++ reverse signal) ∷ rows)) (codes "}") rest (closed_rows e t (reverse signal) front rows)

above_means : (wires : List WireOf) (ws vs : Line) (high low : Bits) (numbers others : List ℕ) → IsFirst vs → Means wires false ws high numbers → Means wires true vs low others → Means wires true (ws ++ vs) (low ++ high) (numbers ++ others)
unfolding Means
above_means wires ws vs high low numbers others first p q d t front rows m rest here next =
    let turned : reverse (low ++ high) ≡ reverse high ++ reverse low = reverse-append low high in
    let split = next_split d.design.free m numbers others next in
    let k = split.0 in
    let lower : k ≤ m = next_rises k m others split.2 in
    let e = free_at d k in
    let upper : d.design.free ≤ k = next_rises d.design.free k numbers split.1 in
    let begun : IsHere (over wires d) t k = record { named = here.named; kept = λ i. omega (arith, here.kept i, lower, upper); room = omega (arith, here.room) } in
    let then : IsHere (over wires e) t m = record { named = here.named; kept = λ i. omega (arith, here.kept i, lower, upper); room = here.room } in
    let tail = vs ++ codes "}" ∷ rest in
    let words : tail ≡ first.word ∷ (first.more ++ codes "}" ∷ rest) = ap (λ (x : Line). x ++ codes "}" ∷ rest) first.are in
    ap (λ (x : List Word). steps (over wires d) (Signal t (front ∷ rows)) x) (append_assoc ws vs (codes "}" ∷ rest))
    ∙ p d t (front ∷ rows) k tail begun split.1
    ∙ ap (λ (x : List Word). steps (over wires e) (Part t (reverse high ∷ front ∷ rows)) x) words
    ∙ same_step (over wires e) (over wires e) (Part t (reverse high ∷ front ∷ rows)) (Signal t ((front ++ reverse high) ∷ rows)) first.word (first.more ++ codes "}" ∷ rest) (first.joins (over wires e) t (reverse high) front rows)
    ∙ ap (λ (x : List Word). steps (over wires e) (Signal t ((front ++ reverse high) ∷ rows)) x) (sym words)
    ∙ q e t (front ++ reverse high) rows m rest then split.2
    ∙ ap (λ (x : Bits). steps (free_at (over wires d) m) (Part t (x ∷ rows)) rest) (append_assoc front (reverse high) (reverse low) ∙ ap (λ (x : Bits). front ++ x) (sym turned))

text_means : (wires : List WireOf) (parts : Bool) (ws : Line) (signal : Bits) (numbers : List ℕ) → AreNamed wires → IsSignalText wires parts ws signal numbers → Means wires parts ws signal numbers
text_means wires parts ws signal numbers n (wire w x at) = wire_means wires w x at
text_means wires parts ws signal numbers n (constant w states s some c z) = constant_means wires w states s some c z
text_means wires parts ws signal numbers n (bit vs s ns w i t lt p) =
    let one_bit : i - i + 1 ≡ 1 = omega arith in
    let inner = w ++ 93 ∷ [] in
    let cut = cut_means wires vs s ns i i inner (index_of i w (number_figures w i t) (number_read w i t)) (omega arith) lt (text_means wires false vs s ns n p) in
    subst (λ (k : ℕ). Means wires false (vs ++ (91 ∷ inner) ∷ []) (take k (drop i s)) ns) one_bit cut
text_means wires parts ws signal numbers n (range vs s ns w v i j t u le lt p) =
    cut_means wires vs s ns i j ((w ++ 58 ∷ v) ++ 93 ∷ []) (range_of i j w v (number_figures w i t) (number_read w i t) (number_read v j u)) le lt (text_means wires false vs s ns n p)
text_means wires parts ws signal numbers n (braces vs s ns p) = braces_mean wires vs s ns (text_means wires true vs s ns n p)
text_means wires parts ws signal numbers n (last vs s ns p) = last_means wires vs s ns (text_means wires false vs s ns n p)
text_means wires parts ws signal numbers n (above us vs high low ns ms p q) = above_means wires us vs high low ns ms (first_of wires true vs low ms n q) (text_means wires false us high ns n p) (text_means wires true vs low ms n q)

pub text_steps : (d : DraftOf) (t : Target) (ws : Line) (signal : Bits) (numbers : List ℕ) (m : ℕ) (rest : List Word) → IsHere d t m → IsSignalText d.design.wires false ws signal numbers → Next d.design.free numbers m
    → steps d (Signal t []) (ws ++ rest) ≡ steps (free_at d m) (Part t (reverse signal ∷ [])) rest
unfolding Means
text_steps d t ws signal numbers m rest here p next = text_means d.design.wires false ws signal numbers here.named p d t [] m rest here next

-- on the right of a connect, whose left has been read as this row
pub right_steps : (d : DraftOf) (row : Bits) (ws : Line) (signal : Bits) (numbers : List ℕ) (m : ℕ) (rest : List Word) → IsHere d (Right (reverse row)) m → IsSignalText d.design.wires false ws signal numbers → Next d.design.free numbers m
    → steps d (Part Left (row ∷ [])) (ws ++ rest) ≡ steps (free_at d m) (Part (Right (reverse row)) (reverse signal ∷ [])) rest
right_steps d row ws signal numbers m rest here p next =
    let t : Target = Right (reverse row) in
    let first = first_of d.design.wires false ws signal numbers here.named p in
    let words : ws ++ rest ≡ first.word ∷ (first.more ++ rest) = ap (λ (x : Line). x ++ rest) first.are in
    ap (λ (x : List Word). steps d (Part Left (row ∷ [])) x) words
    ∙ same_step d d (Part Left (row ∷ [])) (Signal t []) first.word (first.more ++ rest) (first.right d row)
    ∙ ap (λ (x : List Word). steps d (Signal t []) x) (sym words)
    ∙ text_steps d t ws signal numbers m rest here p next
