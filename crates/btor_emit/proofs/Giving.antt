-- Places that get what they have.
use Rattle.std.proofs.Common.{◌≡◌, ◌⊎◌, inl, inr, ℕ, zero, suc, ◌<◌, List, [], ◌∷◌, Some, length, take, drop, refl, sym, ap, subst, ◌∙◌, arith}
use Rattle.std.specs.Prelude.{Contains, slice_get}
use Rattle.std.proofs.lemmas.Option.{slice_get_within}
use Rattle.sby_bits.specs.Rows.{Row}
use Rattle.btor_core.specs.Fits.{IsBtor}
use Rattle.btor_core.specs.Meaning.{Values}
use Rattle.btor_core.specs.Shape.{BtorOf}
use Rattle.btor_core.specs.declared.line.Word.{Word}
use Rattle.btor_core.proofs.Growing.{grows_same, keeps_same}
use Rattle.btor_words.specs.Emitting.{IsWord}
use Rattle.btor_words.proofs.Emitting.{word_long}
use Rattle.btor_emit.specs.Emitting.{AreAliased, Gives}
use Rattle.btor_emit.specs.Stretching.{IsReseated, IsSeated}
use Rattle.btor_emit.specs.Table.{AreIn, AreSeats, IsSeat, Puts, Table, bit_in, cycle_of, seat_at}
use Rattle.btor_emit.specs.declared.table.Seat.{Seat}
use Rattle.btor_emit.specs.declared.table.Seat.TheVariants.{Bit}
use Rattle.btor_emit.proofs.Gathering.{bit_of_row, moved_seat, by_seats, new_seat, reseats, row_by_bits, same_seat, seat_is}
use Rattle.model_core.specs.Meaning.{Cycle, row_at}
use Rattle.model_core.specs.Shape.{IsDistinct}
use Rattle.model_core.proofs.Fitting.{length-row_at}
use Rattle.model_core.proofs.Lists.{all_at, at_place, contained_at}

-- places that were seated in a word
module _ (before now : Table) (places : List ℕ) (word : Word) (is : IsSeated before now places word) where
  pub seated_seat : IsDistinct places → (j p : ℕ) → slice_get places j ≡ Some p → seat_at now p ≡ Bit word j
  seated_seat distinct j p at =
      elim (is.each p) as (λ _. seat_at now p ≡ Bit word j) [
        | inl h ↦ let e : h.0 ≡ j = distinct h.0 j p h.1 at in new_seat now p (Bit word h.0) h.2 ∙ ap (λ (k : ℕ). Bit word k) e
        | inr h ↦ absurd (h.0 (contained_at places p j at))
      ]

  pub seated_row : IsDistinct places → (vs : Values) → length (vs word.nid) ≡ length places → row_at (cycle_of now vs) places ≡ vs word.nid
  seated_row distinct vs long = sym (row_by_bits (cycle_of now vs) places (vs word.nid) long (λ j p at. ap (bit_in vs) (sym (seated_seat distinct j p at))))

  pub seated_else : (p : ℕ) → (Contains places p → ⊥) → seat_at now p ≡ seat_at before p
  seated_else p n =
      elim (is.each p) as (λ _. seat_at now p ≡ seat_at before p) [
        | inl h ↦ absurd (n (contained_at places p h.0 h.1))
        | inr h ↦ same_seat before now p h.1
      ]

  weaker : IsReseated before now places word
  weaker = record {
    size = is.size;
    each = λ p. elim (is.each p) as (λ _. ((k : ℕ) × (slice_get places k ≡ Some p) × (slice_get now p ≡ Some (Bit word k))) ⊎ (slice_get now p ≡ slice_get before p)) [ inl h ↦ inl h | inr h ↦ inr h.1 ];
  }

  pub seated_seats : (m : BtorOf) → AreSeats m before → IsWord m word → length places ≡ word.width → AreSeats m now
  seated_seats m seats there wide = reseats m before now places word weaker seats there wide

-- a word's row for these places
pub given : (m0 m1 : BtorOf) (t0 t1 t2 : Table) (a : Word) (places : List ℕ) (most : ℕ) (row : Values → Row) → IsDistinct places → Puts m0 m1 t0 t1 a (length places) most row → IsSeated t1 t2 places a → Gives m0 m1 t0 t2 places most row
given m0 m1 t0 t1 t2 a places most row distinct puts is =
    let s = puts.turns.adds in
    record {
      adds = record {
        btor = s.btor;
        grows = s.grows;
        lists = s.lists;
        opened = s.opened;
        few = s.few;
        holds = λ vs h. seated_row t1 t2 places a is distinct vs (word_long vs puts.word h ∙ puts.size) ∙ s.holds vs h;
      };
      size = is.size ∙ puts.turns.size;
      seats = seated_seats t1 t2 places a is m1 puts.turns.seats puts.word (sym puts.size);
      same = λ vs h p n. ap (bit_in vs) (seated_else t1 t2 places a is p n) ∙ puts.turns.same vs h p;
    }

-- places that stand where others stood
module _ (before now : Table) (places others : List ℕ) (is : AreAliased before now places others) (same : length others ≡ length places) where
  aliased_bit : IsDistinct places → (vs : Values) (j p q : ℕ) → slice_get places j ≡ Some p → slice_get others j ≡ Some q → cycle_of now vs p ≡ cycle_of before vs q
  aliased_bit distinct vs j p q a b =
      elim (is.each p) as (λ _. cycle_of now vs p ≡ cycle_of before vs q) [
        | inl h ↦
            let e : h.0 ≡ j = distinct h.0 j p h.2 a in
            let s : Some h.1 ≡ Some q = sym h.3 ∙ ap (λ (k : ℕ). slice_get others k) e ∙ b in
            let f : h.1 ≡ q = cc in
            ap (bit_in vs) (moved_seat before now p h.1 h.4) ∙ ap (cycle_of before vs) f
        | inr h ↦ absurd (h.0 (contained_at places p j a))
      ]

  other_at : (j p : ℕ) → slice_get places j ≡ Some p → (q : ℕ) × (slice_get others j ≡ Some q)
  other_at j p a = at_place others j (let l = slice_get_within places j p a in omega arith)

  pub aliased_row : IsDistinct places → (vs : Values) → row_at (cycle_of now vs) places ≡ row_at (cycle_of before vs) others
  aliased_row distinct vs =
      let c : Cycle = cycle_of before vs in
      sym (row_by_bits (cycle_of now vs) places (row_at c others) (length-row_at c others ∙ same)
      (λ j p a. let q = other_at j p a in bit_of_row c others j q.0 q.1 ∙ sym (aliased_bit distinct vs j p q.0 a q.1)))

  aliased_else : (vs : Values) (p : ℕ) → (Contains places p → ⊥) → cycle_of now vs p ≡ cycle_of before vs p
  aliased_else vs p n =
      elim (is.each p) as (λ _. cycle_of now vs p ≡ cycle_of before vs p) [
        | inl h ↦ absurd (n (contained_at places p h.0 h.2))
        | inr h ↦ ap (bit_in vs) (same_seat before now p h.1)
      ]

  aliased_seats : (m : BtorOf) → AreSeats m before → AreIn before others → AreSeats m now
  aliased_seats m seats inside = by_seats m now (λ p l.
      elim (is.each p) as (λ _. IsSeat m (seat_at now p)) [
        | inl h ↦ subst (λ (s : Seat). IsSeat m s) (sym (moved_seat before now p h.1 h.4)) (seat_is m before h.1 seats (all_at (λ (q : ℕ). q < length before) others h.0 h.1 inside h.3))
        | inr h ↦ subst (λ (s : Seat). IsSeat m s) (sym (same_seat before now p h.1)) (seat_is m before p seats (let z = is.size in omega arith))
      ])

  pub aliased : (m : BtorOf) (most : ℕ) → IsDistinct places → IsBtor m → AreSeats m before → AreIn before others → Gives m m before now places most (λ vs. row_at (cycle_of before vs) others)
  aliased m most distinct btor seats inside = record {
    adds = record { btor = btor; grows = grows_same m; lists = keeps_same m; opened = refl; few = omega arith; holds = λ vs h. aliased_row distinct vs };
    size = is.size;
    seats = aliased_seats m seats inside;
    same = λ vs h p n. aliased_else vs p n;
  }

-- parts of rows
pub row_take : (c : Cycle) (n : ℕ) (ps : List ℕ) → row_at c (take n ps) ≡ take n (row_at c ps)
row_take c zero ps = refl
row_take c (suc n) [] = refl
row_take c (suc n) (p ∷ ps) = ap (λ (r : Row). c p ∷ r) (row_take c n ps)

pub row_drop : (c : Cycle) (n : ℕ) (ps : List ℕ) → row_at c (drop n ps) ≡ drop n (row_at c ps)
row_drop c zero ps = refl
row_drop c (suc n) [] = refl
row_drop c (suc n) (p ∷ ps) = row_drop c n ps
