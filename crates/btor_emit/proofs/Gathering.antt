-- Words of places, stretch by stretch.
use Rattle.std.proofs.Common.{◌≡◌, ℕ, zero, suc, ◌+◌, ◌-◌, ◌*◌, ◌<◌, ◌≤◌, Bool, false, List, [], ◌∷◌, ◌++◌, Option, Some, None, length, get_or, take, drop, refl, sym, ◌∙◌, ap, subst, inl, inr, arith}
use Rattle.std.specs.Prelude.{set, slice_get}
use Rattle.std.proofs.lemmas.Bool.{cases_lt}
use Rattle.std.proofs.lemmas.List.{get_or-drop, get_or-take, length-drop, length-take-le}
use Rattle.std.proofs.lemmas.Option.{get_or_from_slice_get, slice_get-get_or, slice_get_within}
use Rattle.sby_bits.specs.Rows.{Row}
use Rattle.cell_table.specs.Cells.{slice_fn}
use Rattle.btor_core.specs.Fits.{IsBtor}
use Rattle.btor_core.specs.Meaning.{Holds, Values}
use Rattle.btor_core.specs.Shape.{BtorOf}
use Rattle.btor_core.specs.declared.line.Word.{Word}
use Rattle.btor_words.specs.Emitting.{Adds, Emits, IsWord}
use Rattle.btor_words.proofs.Emitting.{both, last, renamed, sized, still, word_long}
use Rattle.btor_words.proofs.Rows.{length-slice}
use Rattle.btor_emit.specs.Table.{AreIn, AreSeats, IsSeat, Puts, Table, bit_in, cycle_of, seat_at}
use Rattle.btor_emit.specs.Stretching.{IsDigit, IsReseated, IsStretch, digit_in, later}
use Rattle.btor_emit.specs.declared.table.Seat.{Seat}
use Rattle.btor_emit.specs.declared.table.Seat.TheVariants.{Bit, Digit}
use Rattle.model_core.specs.Meaning.{Cycle, row_at}
use Rattle.model_core.proofs.Lists.{all_at, all_from, nothing_at}
use Rattle.model_core.proofs.Writing.{row_append}

-- places of a part of a list
pub place_in_front : (xs : List ℕ) (n j p : ℕ) → slice_get (take n xs) j ≡ Some p → (j < n) × (slice_get xs j ≡ Some p)
place_in_front xs zero j p h = absurd (nothing_at j p h)
place_in_front [] (suc n) j p h = absurd (nothing_at j p h)
place_in_front (x ∷ xs) (suc n) zero p h = (omega arith, h)
place_in_front (x ∷ xs) (suc n) (suc j) p h = let r = place_in_front xs n j p h in let a = r.0 in (omega arith, r.1)

pub place_in_part : (f : ℕ) (xs : List ℕ) (n j k p : ℕ) → f + j ≡ k → slice_get (take n (drop f xs)) j ≡ Some p → (j < n) × (slice_get xs k ≡ Some p)
place_in_part zero xs n j k p e h = let r = place_in_front xs n j p h in (r.0, subst (λ (i : ℕ). slice_get xs i ≡ Some p) (omega arith) r.1)
place_in_part (suc f) [] zero j k p e h = absurd (nothing_at j p h)
place_in_part (suc f) [] (suc n) j k p e h = absurd (nothing_at j p h)
place_in_part (suc f) (x ∷ xs) n j zero p e h = absurd (omega arith)
place_in_part (suc f) (x ∷ xs) n j (suc k) p e h = place_in_part f xs n j k p (omega arith) h

take_two : (a b n : ℕ) (xs : List ℕ) → n ≡ a + b → take a xs ++ take b (drop a xs) ≡ take n xs
take_two zero b n xs e = ap (λ (k : ℕ). take k xs) (omega arith)
take_two (suc a) zero zero [] e = absurd (omega arith)
take_two (suc a) (suc b) zero [] e = absurd (omega arith)
take_two (suc a) zero (suc n) [] e = refl
take_two (suc a) (suc b) (suc n) [] e = refl
take_two (suc a) b zero (x ∷ xs) e = absurd (omega arith)
take_two (suc a) b (suc n) (x ∷ xs) e = ap (λ (ys : List ℕ). x ∷ ys) (take_two a b n xs (omega arith))

-- a row is that of places by its bits
pub row_by_bits : (c : Cycle) (ps : List ℕ) (r : Row) → length r ≡ length ps → ((j p : ℕ) → slice_get ps j ≡ Some p → get_or r j false ≡ c p) → r ≡ row_at c ps
row_by_bits c [] [] l h = refl
row_by_bits c [] (b ∷ r) l h = absurd (omega arith)
row_by_bits c (p ∷ ps) [] l h = absurd (omega arith)
row_by_bits c (p ∷ ps) (b ∷ r) l h =
    let head : b ≡ c p = h 0 p refl in
    let tail = row_by_bits c ps r (omega arith) (λ j. h (suc j)) in
    cc

pub bit_of_row : (c : Cycle) (ps : List ℕ) (j p : ℕ) → slice_get ps j ≡ Some p → get_or (row_at c ps) j false ≡ c p
bit_of_row c [] j p h = absurd (nothing_at j p h)
bit_of_row c (q ∷ ps) zero p h = let e : q ≡ p = cc in ap c e
bit_of_row c (q ∷ ps) (suc j) p h = bit_of_row c ps j p h

pub later_none : (s : Seat) → s ≡ later s 0
later_none (Digit x) = refl
later_none (Bit w i) = ap (λ (k : ℕ). Bit w k) (omega arith)

-- the row of a stretch
pub stretch_row : (m : BtorOf) (table : Table) (places : List ℕ) (first end : ℕ) (w : Word) (i : ℕ) (vs : Values) → IsStretch table places first end (Bit w i) → first < end → end ≤ length places → IsWord m w × (i + (end - first) ≤ w.width) → Holds m vs
    → slice_fn (end - first) i (vs w.nid) ≡ row_at (cycle_of table vs) (take (end - first) (drop first places))
stretch_row m table places first end w i vs is some most part h =
    let n : ℕ = end - first in
    let long : length (take n (drop first places)) ≡ n = length-take-le n (drop first places) (let d = length-drop first places in omega arith) in
    let wide : length (slice_fn n i (vs w.nid)) ≡ n = length-slice (vs w.nid) n i (let e = word_long vs part.0 h in let l = part.1 in omega arith) in
    row_by_bits (cycle_of table vs) (take n (drop first places)) (slice_fn n i (vs w.nid)) (wide ∙ sym long)
    (λ j p at.
    let there = place_in_part first places n j (first + j) p refl at in
    let below = there.0 in
    get_or-take n (drop i (vs w.nid)) j false below ∙ get_or-drop i (vs w.nid) j false ∙ ap (bit_in vs) (sym (is j (first + j) p refl (omega arith) there.1)))

-- digits as a row
digit_bit : (vs : Values) (s : Seat) → IsDigit s → digit_in s ≡ bit_in vs s
digit_bit vs (Digit x) d = refl
digit_bit vs (Bit w i) d = absurd (d)

pub digits_row : (table : Table) (places : List ℕ) (bits : Row) (vs : Values) → length places ≤ length bits → ((k p : ℕ) → slice_get places k ≡ Some p → IsDigit (seat_at table p)) → ((k p : ℕ) → k < length places → slice_get places k ≡ Some p → get_or bits k false ≡ digit_in (seat_at table p))
    → take (length places) bits ≡ row_at (cycle_of table vs) places
digits_row table places bits vs l digits are =
    row_by_bits (cycle_of table vs) places (take (length places) bits) (length-take-le (length places) bits l)
    (λ j p at.
    let below = slice_get_within places j p at in
    get_or-take (length places) bits j false below ∙ are j p below at ∙ digit_bit vs (seat_at table p) (digits j p at))

-- a bit that was set
set_bit_here : (xs : Row) (k : ℕ) (v : Bool) → k < length xs → get_or (set xs k v) k false ≡ v
set_bit_here [] k v l = absurd (omega arith)
set_bit_here (x ∷ xs) zero v l = refl
set_bit_here (x ∷ xs) (suc k) v l = set_bit_here xs k v (omega arith)

set_bit_else : (xs : Row) (k j : ℕ) (v : Bool) → j < k → get_or (set xs k v) j false ≡ get_or xs j false
set_bit_else [] k j v l = refl
set_bit_else (x ∷ xs) zero j v l = absurd (omega arith)
set_bit_else (x ∷ xs) (suc k) zero v l = refl
set_bit_else (x ∷ xs) (suc k) (suc j) v l = set_bit_else xs k j v (omega arith)

pub digits_more : (table : Table) (places : List ℕ) (bits now : Row) (n : ℕ) (v : Bool) → n < length places → n < length bits → now ≡ set bits n v → v ≡ digit_in (seat_at table (get_or places n 0)) → ((k p : ℕ) → k < n → slice_get places k ≡ Some p → get_or bits k false ≡ digit_in (seat_at table p))
    → (k p : ℕ) → k < n + 1 → slice_get places k ≡ Some p → get_or now k false ≡ digit_in (seat_at table p)
digits_more table places bits now n v l room is new old k p below at =
    ap (λ (r : Row). get_or r k false) is
    ∙ elim (cases_lt k n) as (λ _. get_or (set bits n v) k false ≡ digit_in (seat_at table p)) [
      | inl under ↦ set_bit_else bits n k v under ∙ old k p under at
      | inr over ↦
          let z : k ≡ n = omega arith in
          let same : get_or places n 0 ≡ p = get_or_from_slice_get places n p 0 (subst (λ (i : ℕ). slice_get places i ≡ Some p) z at) in
          ap (λ (i : ℕ). get_or (set bits n v) i false) z ∙ set_bit_here bits n v room ∙ new ∙ ap (λ (q : ℕ). digit_in (seat_at table q)) same
    ]

-- the first of some digits
pub first_digit : (table : Table) (places : List ℕ) (first p : ℕ) (s : Seat) (x : Bool) → s ≡ seat_at table (get_or places first 0) → s ≡ Digit x → slice_get places first ≡ Some p → IsDigit (seat_at table p)
first_digit table places first p s x e is at =
    let same : get_or places first 0 ≡ p = get_or_from_slice_get places first p 0 at in
    let here : Digit x ≡ seat_at table p = sym is ∙ e ∙ ap (λ (q : ℕ). seat_at table q) same in
    subst (λ (z : Seat). IsDigit z) here tt

pub part_in : (table : Table) (places : List ℕ) (n first : ℕ) → AreIn table places → AreIn table (take n (drop first places))
part_in table places n first inside = all_from (λ (p : ℕ). p < length table) (take n (drop first places)) (λ k p at. all_at (λ (q : ℕ). q < length table) places (first + k) p inside (place_in_part first places n k (first + k) p refl at).1)

pub seat_is : (m : BtorOf) (table : Table) (p : ℕ) → AreSeats m table → p < length table → IsSeat m (seat_at table p)
seat_is m table p seats l = seats p (Digit false) l

-- the bits of a stretch are there
pub part_there : (m : BtorOf) (table : Table) (places : List ℕ) (first end : ℕ) (w : Word) (i : ℕ) → AreSeats m table → AreIn table places → IsStretch table places first end (Bit w i) → first < end → end ≤ length places → IsWord m w × (i + (end - first) ≤ w.width)
part_there m table places first end w i seats inside is some most =
    let j : ℕ = end - first - 1 in
    let k : ℕ = end - 1 in
    let p : ℕ = get_or places k 0 in
    let last : seat_at table p ≡ Bit w (i + j) = is j k p (omega arith) (omega arith) (slice_get-get_or places k 0 (omega arith)) in
    let there : IsSeat m (Bit w (i + j)) = subst (λ (x : Seat). IsSeat m x) last (seat_is m table p seats (inside k 0 (omega arith))) in
    let below = there.1 in
    (there.0, omega arith)

pub first_seat : (table : Table) (places : List ℕ) (first p : ℕ) (s : Seat) → s ≡ seat_at table (get_or places first 0) → slice_get places first ≡ Some p → seat_at table p ≡ later s 0
first_seat table places first p s e at =
    let same : get_or places first 0 ≡ p = get_or_from_slice_get places first p 0 at in
    ap (λ (q : ℕ). seat_at table q) (sym same) ∙ sym e ∙ later_none s

-- one more place after a seat
pub stretch_more : (table : Table) (places : List ℕ) (first end : ℕ) (s : Seat) → first < end → IsStretch table places first end s → seat_at table (get_or places end 0) ≡ later s (end - first) → IsStretch table places first (end + 1) s
stretch_more table places first end s some is new j k p e below at =
    elim (cases_lt k end) as (λ _. seat_at table p ≡ later s j) [
      | inl under ↦ is j k p e under at
      | inr over ↦
          let here : k ≡ end = omega arith in
          let same : get_or places end 0 ≡ p = get_or_from_slice_get places end p 0 (subst (λ (i : ℕ). slice_get places i ≡ Some p) here at) in
          let far : end - first ≡ j = omega arith in
          ap (λ (q : ℕ). seat_at table q) (sym same) ∙ new ∙ ap (λ (i : ℕ). later s i) far
    ]

pub stretch_one : (table : Table) (places : List ℕ) (first end : ℕ) (s : Seat) → end ≡ first + 1 → ((p : ℕ) → slice_get places first ≡ Some p → seat_at table p ≡ later s 0) → IsStretch table places first end s
stretch_one table places first end s e h j k p f below at =
    let here : k ≡ first = omega arith in
    let none : 0 ≡ j = omega arith in
    h p (subst (λ (i : ℕ). slice_get places i ≡ Some p) here at) ∙ ap (λ (i : ℕ). later s i) none

-- seats stay as lines are added
seat_stays : (m n : BtorOf) (k : ℕ) (P : Values → Type 0) (s : Seat) → Adds m n k P → IsSeat m s → IsSeat n s
seat_stays m n k P (Digit x) a is = is
seat_stays m n k P (Bit w i) a is = (still a is.0, is.1)

pub seats_stay : (m n : BtorOf) (k : ℕ) (P : Values → Type 0) (table : Table) → Adds m n k P → AreSeats m table → AreSeats n table
seats_stay m n k P table a seats i d l = seat_stays m n k P (get_or table i d) a (seats i d l)

-- a part above what was put together
pub one_above : (m0 m1 m2 m3 : BtorOf) (table : Table) (places : List ℕ) (done end : ℕ) (low high word : Word) → IsBtor m0 → done < end
    → Emits m0 m1 low done (4 * done) (λ vs. row_at (cycle_of table vs) (take done places)) → Emits m1 m2 high (end - done) 2 (λ vs. row_at (cycle_of table vs) (take (end - done) (drop done places)))
    → Emits m2 m3 word (low.width + high.width) 2 (λ vs. vs low.nid ++ vs high.nid) → Emits m0 m3 word end (4 * end) (λ vs. row_at (cycle_of table vs) (take end places))
one_above m0 m1 m2 m3 table places done end low high word btor l x y z =
    let wide : low.width + high.width ≡ end = (let a = x.size in let b = y.size in omega arith) in
    last (4 * end) (λ vs. row_at (cycle_of table vs) (take end places)) btor (both x.adds y.adds) (sized z wide) (omega arith)
    (λ vs h p.
    let c : Cycle = cycle_of table vs in
    ap (λ (r : Row). r ++ vs high.nid) p.0 ∙ ap (λ (r : Row). row_at c (take done places) ++ r) p.1 ∙ sym (row_append c (take done places) (take (end - done) (drop done places)))
    ∙ ap (λ (ps : List ℕ). row_at c ps) (take_two done (end - done) end places (omega arith)))

pub first_part : (m0 m1 : BtorOf) (table : Table) (places : List ℕ) (end : ℕ) (a : Word) → IsBtor m0 → 0 < end → Emits m0 m1 a (end - 0) 2 (λ vs. row_at (cycle_of table vs) (take (end - 0) (drop 0 places)))
    → Emits m0 m1 a end (4 * end) (λ vs. row_at (cycle_of table vs) (take end places))
first_part m0 m1 table places end a btor some x =
    let e : end - 0 ≡ end = omega arith in
    sized (renamed (4 * end) (λ vs. row_at (cycle_of table vs) (take end places)) btor x (omega arith) (λ vs h. ap (λ (n : ℕ). row_at (cycle_of table vs) (take n places)) e)) e

take_whole : (n : ℕ) (xs : List ℕ) → length xs ≤ n → take n xs ≡ xs
take_whole zero [] h = refl
take_whole zero (x ∷ xs) h = absurd (omega arith)
take_whole (suc n) [] h = refl
take_whole (suc n) (x ∷ xs) h = ap (λ (ys : List ℕ). x ∷ ys) (take_whole n xs (omega arith))

pub all_parts : (m0 m1 : BtorOf) (table : Table) (places : List ℕ) (done : ℕ) (a : Word) → IsBtor m0 → done ≡ length places → Emits m0 m1 a done (4 * done) (λ vs. row_at (cycle_of table vs) (take done places))
    → Emits m0 m1 a (length places) (4 * length places) (λ vs. row_at (cycle_of table vs) places)
all_parts m0 m1 table places done a btor e x =
    sized (renamed (4 * length places) (λ vs. row_at (cycle_of table vs) places) btor x (omega arith) (λ vs h. ap (λ (ps : List ℕ). row_at (cycle_of table vs) ps) (take_whole done places (omega arith)))) e

-- what a table has by what it gives
or_digit : Option Seat → Seat
or_digit None = Digit false
or_digit (Some s) = s

seat_by_get : (table : Table) (p : ℕ) → seat_at table p ≡ or_digit (slice_get table p)
unfolding or_digit
seat_by_get [] p = refl
seat_by_get (s ∷ table) zero = refl
seat_by_get (s ∷ table) (suc p) = seat_by_get table p

pub moved_seat : (old new : Table) (p q : ℕ) → slice_get new p ≡ slice_get old q → seat_at new p ≡ seat_at old q
moved_seat old new p q e = seat_by_get new p ∙ ap or_digit e ∙ sym (seat_by_get old q)

pub same_seat : (old new : Table) (p : ℕ) → slice_get new p ≡ slice_get old p → seat_at new p ≡ seat_at old p
same_seat old new p e = moved_seat old new p p e

pub new_seat : (new : Table) (p : ℕ) (s : Seat) → slice_get new p ≡ Some s → seat_at new p ≡ s
new_seat new p s e = get_or_from_slice_get new p s (Digit false) e

-- places that were seated in their row have what they had
pub reseated : (m : BtorOf) (before now : Table) (places : List ℕ) (row : Word) (vs : Values) → IsReseated before now places row → vs row.nid ≡ row_at (cycle_of before vs) places → (p : ℕ) → cycle_of now vs p ≡ cycle_of before vs p
reseated m before now places row vs is e p =
    elim (is.each p) as (λ _. cycle_of now vs p ≡ cycle_of before vs p) [
      | inl new ↦ ap (bit_in vs) (new_seat now p (Bit row new.0) new.2) ∙ ap (λ (r : Row). get_or r new.0 false) e ∙ bit_of_row (cycle_of before vs) places new.0 p new.1
      | inr old ↦ ap (bit_in vs) (same_seat before now p old)
    ]

-- seats by their places
pub by_seats : (m : BtorOf) (table : Table) → ((p : ℕ) → p < length table → IsSeat m (seat_at table p)) → AreSeats m table
by_seats m table h i d l =
    let a = slice_get-get_or table i d l in
    let b = slice_get-get_or table i (Digit false) l in
    let c : Some (get_or table i d) ≡ Some (seat_at table i) = sym a ∙ b in
    let e : get_or table i d ≡ seat_at table i = cc in
    subst (λ (s : Seat). IsSeat m s) (sym e) (h i l)

pub reseats : (m : BtorOf) (before now : Table) (places : List ℕ) (row : Word) → IsReseated before now places row → AreSeats m before → IsWord m row → length places ≡ row.width → AreSeats m now
reseats m before now places row is seats word long = by_seats m now (λ p l.
    elim (is.each p) as (λ _. IsSeat m (seat_at now p)) [
      | inl new ↦ subst (λ (s : Seat). IsSeat m s) (sym (new_seat now p (Bit row new.0) new.2)) (word, (let b = slice_get_within places new.0 p new.1 in omega arith))
      | inr old ↦ subst (λ (s : Seat). IsSeat m s) (sym (same_seat before now p old)) (seat_is m before p seats (let z = is.size in omega arith))
    ])

pub put_back : (m0 m1 : BtorOf) (before now : Table) (places : List ℕ) (row : Word) (w most : ℕ) → IsReseated before now places row → AreSeats m0 before → length places ≡ row.width → Emits m0 m1 row w most (λ vs. row_at (cycle_of before vs) places)
    → Puts m0 m1 before now row w most (λ vs. row_at (cycle_of before vs) places)
put_back m0 m1 before now places row w most is seats long e = record {
  turns = record {
    adds = e.adds;
    size = is.size;
    seats = reseats m1 before now places row is (seats_stay m0 m1 most (λ vs. vs row.nid ≡ row_at (cycle_of before vs) places) before e.adds seats) e.word long;
    same = λ vs h p. reseated m1 before now places row vs is (e.adds.holds vs h) p;
  };
  word = e.word;
  size = e.size;
}

pub put_only : (m0 m1 : BtorOf) (before : Table) (row : Word) (w most : ℕ) (f : Values → Row) → AreSeats m0 before → Emits m0 m1 row w most f → Puts m0 m1 before before row w most f
put_only m0 m1 before row w most f seats e = record {
  turns = record { adds = e.adds; size = refl; seats = seats_stay m0 m1 most (λ vs. vs row.nid ≡ f vs) before e.adds seats; same = λ vs h p. refl };
  word = e.word;
  size = e.size;
}
