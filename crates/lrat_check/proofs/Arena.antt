-- Entries whose literals stand in one list.
use Rattle.std.proofs.Common.{◌≡◌, ℕ, ◌+◌, ◌<◌, ◌≤◌, Option, Some, None, List, [], ◌∷◌, ◌++◌, length, get_or, set, drop, refl, sym, ◌∙◌, ap, subst, inl, inr, arith, Ok, Err, zero, suc}
use Rattle.std.specs.Prelude.{Contains, slice_range}
use Rattle.std.specs.List.Sorted.{IsBinarySearchResult, IsNonDecreasingBy}
use Rattle.std.specs.Option.{MatchOption}
use Rattle.std.specs.Ordering.{nat_cmp, ordering_index}
use Rattle.std.proofs.lemmas.Bool.{cases_eq}
use Rattle.std.proofs.lemmas.Bool.Decides.{nat_tests}
use Rattle.std.proofs.lemmas.Cmp.{ranked}
use Rattle.std.proofs.lemmas.List.Sorted.{IsNonDecreasingBy-from_default}
use Rattle.std.proofs.lemmas.Slice.{between_is, between_to_end}
use Rattle.std.proofs.lemmas.List.{get_or-map, map-append, map-set, length-map, take-append-le, drop_at, get_or_append_left, get_or_push, get_or-set_same, get_or-set_other, length_push, length-set, length-append}
use Rattle.cnf_form.specs.Cnf.{LitOf}
use Rattle.lrat_check.specs.declared.entries.Slot.{Slot}
use Rattle.lrat_check.specs.declared.entries.Span.{Span}
use Rattle.lrat_check.specs.Table.{Entry, IsPlaceOf, IsRising, held}
use Rattle.lrat_check.specs.Arena.{clause_of, entry_of, entries_of, Lies, IsArena}
use Rattle.lrat_check.proofs.Rising.{blank, place_of, rises, held_found, found_none, rising_push}

abbrev pub no_slot : Slot
no_slot = record { id = 0; span = None }

pub size_entries : (lits : List LitOf) (slots : List Slot) → length (entries_of lits slots) ≡ length slots
size_entries lits slots = length-map slots (entry_of lits)

pub read_entry : (lits : List LitOf) (slots : List Slot) (k : ℕ) (d : Slot) (e : Entry) → k < length slots → get_or (entries_of lits slots) k e ≡ entry_of lits (get_or slots k d)
read_entry lits slots k d e h = get_or-map (entry_of lits) slots k d e h

-- the search by ids
module _ (lits : List LitOf) (slots : List Slot) (a : IsArena lits slots) (id : ℕ) where
  abbrev es : List Entry
  es = entries_of lits slots

  pub place_in : (k : ℕ) (d : Slot) → k < length slots → (get_or slots k d).id ≡ id → IsPlaceOf es id k
  place_in k d h e = place_of es a.rising id k (entry_of lits d) (omega (arith, h, size_entries lits slots)) (ap (λ (z : Entry). z.id) (read_entry lits slots k d (entry_of lits d) h) ∙ e)

  id_at : (k : ℕ) → k < length slots → (get_or es k blank).id ≡ (get_or slots k no_slot).id
  id_at k h = ap (λ (z : Entry). z.id) (read_entry lits slots k no_slot blank h)

  slots_rise : IsNonDecreasingBy (λ (s : Slot). ordering_index (nat_cmp s.id id)) slots
  slots_rise = IsNonDecreasingBy-from_default (λ (s : Slot). ordering_index (nat_cmp s.id id)) slots no_slot (λ i j le in_range.
      let more : (get_or es i blank).id ≤ (get_or es j blank).id = rises es a.rising blank i j le (omega (arith, in_range, size_entries lits slots)) in
      let up : (get_or slots i no_slot).id ≤ (get_or slots j no_slot).id = omega (arith, more, id_at i (omega (arith, le, in_range)), id_at j in_range) in
      grind (arith, nat_tests))

  pub slot_ok : (k : ℕ) → IsBinarySearchResult (λ (s : Slot). nat_cmp s.id id) slots (Ok k) → k < length slots → IsPlaceOf es id k
  slot_ok k equal h = place_in k no_slot h (ranked _ id _ (sym (equal no_slot)))

  pub slot_err : (k : ℕ) → IsBinarySearchResult (λ (s : Slot). nat_cmp s.id id) slots (Err k) → k ≤ length slots → held es id ≡ None
  slot_err k parted h = held_found es a.rising id ∙ found_none es id blank (λ j in' same.
      let p = parted slots_rise in
      let inside : j < length slots = omega (arith, in', size_entries lits slots) in
      let here : (get_or slots j no_slot).id ≡ id = sym (id_at j inside) ∙ same in
      let low : j < k → (get_or slots j no_slot).id < id = λ lt. ranked _ id _ (sym (p.0 j no_slot (omega (arith, lt)) lt)) in
      let high : k ≤ j → id < (get_or slots j no_slot).id = λ le. ranked _ id _ (sym (p.1 j no_slot le inside)) in
      grind (arith, low, high, here))

-- a clause that comes
range_more : (lits more : List LitOf) (i j : ℕ) → j ≤ length lits → slice_range (lits ++ more) i j ≡ slice_range lits i j
range_more lits more i j h = between_is (lits ++ more) i j ∙ ap (drop i) (take-append-le j lits more h) ∙ sym (between_is lits i j)

range_new : (lits more : List LitOf) → slice_range (lits ++ more) (length lits) (length (lits ++ more)) ≡ more
range_new lits more = between_to_end (lits ++ more) (length lits) (length (lits ++ more)) (omega arith) ∙ drop_at lits more (length lits) refl

clause_more : (lits more : List LitOf) (o : Option Span) → Lies (length lits) o → clause_of (lits ++ more) o ≡ clause_of lits o
clause_more lits more (Some s) h = ap (λ (c : List LitOf). Some c) (range_more lits more s.start s.end h.1)
clause_more lits more None h = refl

lies_more : (n m : ℕ) (o : Option Span) → n ≤ m → Lies n o → Lies m o
lies_more n m (Some s) le h = (h.0, omega (arith, h.1, le))
lies_more n m None le h = tt

entries_more : (lits more : List LitOf) (slots : List Slot) → ((k : ℕ) (d : Slot) → k < length slots → Lies (length lits) (get_or slots k d).span) → entries_of (lits ++ more) slots ≡ entries_of lits slots
entries_more lits more [] h = refl
entries_more lits more (s ∷ ss) h =
    let mk : Option (List LitOf) → Entry = λ o. record { id = s.id; clause = o } in
    ap (λ o. mk o ∷ entries_of (lits ++ more) ss) (clause_more lits more s.span (h zero s (omega arith)))
    ∙ ap (λ z. entry_of lits s ∷ z) (entries_more lits more ss (λ k d i. h (suc k) d (omega (arith, i))))

module _ (lits : List LitOf) (slots : List Slot) (a : IsArena lits slots) (id : ℕ) (c : List LitOf) where
  abbrev pub new_slot : Slot
  new_slot = record { id = id; span = Some (record { start = length lits; end = length (lits ++ c) }) }

  abbrev pub new_entry : Entry
  new_entry = record { id = id; clause = Some c }

  pub entries_push : entries_of (lits ++ c) (slots ++ new_slot ∷ []) ≡ entries_of lits slots ++ new_entry ∷ []
  entries_push =
      let mk : List LitOf → Entry = λ z. record { id = id; clause = Some z } in
      map-append (entry_of (lits ++ c)) slots (new_slot ∷ [])
      ∙ ap (λ z. z ++ entry_of (lits ++ c) new_slot ∷ []) (entries_more lits c slots a.lies)
      ∙ ap (λ z. entries_of lits slots ++ mk z ∷ []) (range_new lits c)

  pub arena_push : ((e : Entry) → Contains (entries_of lits slots) e → e.id < id) → IsArena (lits ++ c) (slots ++ new_slot ∷ [])
  arena_push low = record {
    rising = subst IsRising (sym entries_push) (rising_push (entries_of lits slots) new_entry a.rising low);
    lies = λ k d h. elim (cases_eq k (length slots)) [
      | inl e ↦ subst (λ (z : Slot). Lies (length (lits ++ c)) z.span) (sym (get_or_push slots new_slot d k (sym e))) (omega (arith, length-append lits c), omega arith)
      | inr ne ↦
          let inside : k < length slots = omega (arith, h, length_push slots new_slot, ne) in
          subst (λ (z : Slot). Lies (length (lits ++ c)) z.span) (sym (get_or_append_left slots (new_slot ∷ []) d k inside))
          (lies_more (length lits) (length (lits ++ c)) (get_or slots k d).span (omega (arith, length-append lits c)) (a.lies k d inside))
    ];
  }

-- the same, by what the code computed
pub arena_pushed : (lits : List LitOf) (slots : List Slot) (a : IsArena lits slots) (id : ℕ) (c : List LitOf) (lits' : List LitOf) (slots' : List Slot) (start end : ℕ) → ((e : Entry) → Contains (entries_of lits slots) e → e.id < id)
    → lits' ≡ lits ++ c → slots' ≡ slots ++ (record { id = id; span = Some (record { start = start; end = end }) }) ∷ [] → start ≡ length lits → end ≡ length lits + length c
    → IsArena lits' slots' × (entries_of lits' slots' ≡ entries_of lits slots ++ (record { id = id; clause = Some c }) ∷ [])
arena_pushed lits slots a id c lits' slots' start end low more one from to =
    let mk : ℕ → ℕ → Slot = λ x y. record { id = id; span = Some (record { start = x; end = y }) } in
    let same : mk start end ≡ new_slot lits slots a id c = ap (λ x. mk x end) from ∙ ap (mk (length lits)) (to ∙ sym (length-append lits c)) in
    let last : slots' ≡ slots ++ new_slot lits slots a id c ∷ [] = one ∙ ap (λ z. slots ++ z ∷ []) same in (
      subst (λ z. IsArena z slots') (sym more) (subst (IsArena (lits ++ c)) (sym last) (arena_push lits slots a id c low)),
      ap (λ z. entries_of z slots') more ∙ ap (entries_of (lits ++ c)) last ∙ entries_push lits slots a id c,
    )

-- a clause that goes
module _ (lits : List LitOf) (slots : List Slot) (a : IsArena lits slots) (k id : ℕ) where
  abbrev bare : Slot
  bare = record { id = id; span = None }

  abbrev gone : Entry
  gone = record { id = id; clause = None }

  pub entries_set : entries_of lits (set slots k bare) ≡ set (entries_of lits slots) k gone
  entries_set = map-set (entry_of lits) slots k bare

  pub arena_set : IsRising (set (entries_of lits slots) k gone) → k < length slots → IsArena lits (set slots k bare)
  arena_set r room = record {
    rising = subst IsRising (sym entries_set) r;
    lies = λ j d h. elim (cases_eq j k) [
      | inl e ↦ subst (λ (z : Slot). Lies (length lits) z.span) (sym (ap (λ i. get_or (set slots k bare) i d) e ∙ get_or-set_same slots k bare d room)) tt
      | inr ne ↦ subst (λ (z : Slot). Lies (length lits) z.span) (sym (get_or-set_other slots k j bare d ne)) (a.lies j d (omega (arith, h, length-set slots k bare)))
    ];
  }

pub entry_is : (x : Entry) (i : ℕ) (o : Option (List LitOf)) → x.id ≡ i → x.clause ≡ o → x ≡ record { id = i; clause = o }
entry_is x i o e f =
    let mk : ℕ → Option (List LitOf) → Entry = λ a b. record { id = a; clause = b } in
    ap (λ a. mk a x.clause) e ∙ ap (mk i) f

pub match_map : {A : Type 0} (r : Option A) (P P' : Type 0) (Q Q' : A → Type 0) → (P → P') → ((a : A) → Q a → Q' a) → MatchOption r P Q → MatchOption r P' Q'
match_map None P P' Q Q' f g h = f h
match_map (Some a) P P' Q Q' f g h = g a h
