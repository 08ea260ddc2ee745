-- Bits of states and inputs: their rows, and what they start with.
use Rattle.std.proofs.Common.{◌≡◌, inl, inr, ℕ, zero, suc, ◌+◌, ◌-◌, ◌<◌, ◌≤◌, Bool, true, false, List, [], ◌∷◌, ◌++◌, Some, None, length, get_or, map, take, drop, refl, sym, ap, ◌∙◌, arith, length-append, length-drop}
use Rattle.std.specs.Prelude.{Option, slice_get, sum_by}
use Rattle.std.specs.List.{concat, flat_map}
use Rattle.std.specs.Option.{is_some, unwrap_or}
use Rattle.std.proofs.lemmas.Bool.{cases_lt}
use Rattle.std.proofs.lemmas.List.{length-map, length-take-le}
use Rattle.std.proofs.lemmas.List.Sums.{sum_by-cons}
use Rattle.std.proofs.lemmas.Option.{get_or_from_slice_get}
use Rattle.std.proofs.Math.Seq.{take-length}
use Rattle.sby_bits.specs.Rows.{Row}
use Rattle.btor_core.specs.Meaning.{Values}
use Rattle.btor_core.specs.declared.line.Word.{Word}
use Rattle.btor_emit.specs.States.{AreStretches, IsStretchOf, bits_of, is_known, places_of, start_of}
use Rattle.btor_emit.specs.declared.shape.State.{State}
use Rattle.btor_emit.proofs.Covering.{bits_step}
use Rattle.btor_emit.proofs.Gathering.{bit_of_row, row_by_bits}
use Rattle.model_core.specs.Meaning.{Cycle, Starts, row_at}
use Rattle.model_core.specs.Shape.{ModelOf, states}
use Rattle.model_core.proofs.Lists.{all_at, at_place}
use Rattle.model_core.proofs.Writing.{row_append}

-- a place of a part of a list
pub part_there : {A : Type 0} (f n j k : ℕ) (xs : List A) (x : A) → f + j ≡ k → j < n → slice_get xs k ≡ Some x → slice_get (take n (drop f xs)) j ≡ Some x
part_there f n j k [] x e l h = absurd (let c : None ≡ Some x = h in cc)
part_there zero zero j k (y ∷ xs) x e l h = absurd (omega arith)
part_there zero (suc n) zero zero (y ∷ xs) x e l h = h
part_there zero (suc n) zero (suc k) (y ∷ xs) x e l h = absurd (omega arith)
part_there zero (suc n) (suc j) zero (y ∷ xs) x e l h = absurd (omega arith)
part_there zero (suc n) (suc j) (suc k) (y ∷ xs) x e l h = part_there zero n j k xs x (omega arith) (omega arith) h
part_there (suc f) n j zero (y ∷ xs) x e l h = absurd (omega arith)
part_there (suc f) n j (suc k) (y ∷ xs) x e l h = part_there f n j k xs x (omega arith) l h

pub part_comes : {A : Type 0} (f n j k : ℕ) (xs : List A) (x : A) → f + j ≡ k → slice_get (take n (drop f xs)) j ≡ Some x → (j < n) × (slice_get xs k ≡ Some x)
part_comes f zero j k xs x e h = absurd (let c : None ≡ Some x = h in cc)
part_comes zero (suc n) j k [] x e h = absurd (let c : None ≡ Some x = h in cc)
part_comes zero (suc n) zero zero (y ∷ xs) x e h = (omega arith, h)
part_comes zero (suc n) zero (suc k) (y ∷ xs) x e h = absurd (omega arith)
part_comes zero (suc n) (suc j) zero (y ∷ xs) x e h = absurd (omega arith)
part_comes zero (suc n) (suc j) (suc k) (y ∷ xs) x e h = let r = part_comes zero n j k xs x (omega arith) h in let a = r.0 in (omega arith, r.1)
part_comes (suc f) (suc n) j k [] x e h = absurd (let c : None ≡ Some x = h in cc)
part_comes (suc f) (suc n) j zero (y ∷ xs) x e h = absurd (omega arith)
part_comes (suc f) (suc n) j (suc k) (y ∷ xs) x e h = part_comes f (suc n) j k xs x (omega arith) h

-- a start digit's bit
digit_bit : (ds : List (Option Bool)) (j : ℕ) (x : Option Bool) → slice_get ds j ≡ Some x → get_or (map (λ d. unwrap_or d false) ds) j false ≡ unwrap_or x false
digit_bit [] j x h = absurd (let c : None ≡ Some x = h in cc)
digit_bit (d ∷ ds) zero x h = let e : d ≡ x = cc in ap (λ (y : Option Bool). unwrap_or y false) e
digit_bit (d ∷ ds) (suc j) x h = digit_bit ds j x h

known_at : (ds : List (Option Bool)) (k : ℕ) (x : Option Bool) → slice_get ds k ≡ Some x → is_known ds k ≡ is_some x
known_at ds k x h = ap is_some (get_or_from_slice_get ds k x None h)

some_of : (x : Option Bool) → is_some x ≡ true → (b : Bool) × (x ≡ Some b)
some_of None h = absurd (cc)
some_of (Some b) h = (b, refl)

module _ (m : ModelOf) (ss : List State) (is : AreStretches m ss) (long : length m.starts ≡ length (states m)) where
  stretch_at : (j : ℕ) (s : State) → slice_get ss j ≡ Some s → IsStretchOf m s
  stretch_at j s at = all_at (IsStretchOf m) ss j s is.each at

  -- each state bit is one of a state
  find : (n k : ℕ) → n ≤ length ss → k < bits_of (take n ss) → (j : ℕ) × (s : State) × (slice_get ss j ≡ Some s) × (s.first ≤ k) × (k < s.first + s.word.width)
  find zero k l h = absurd (omega arith)
  find (suc n) k l h =
      let s = at_place ss n (omega arith) in
      let step = bits_step ss is.joined n s.0 s.1 in
      let first = is.joined n s.0 s.1 in
      elim (cases_lt k (bits_of (take n ss))) as (λ _. (j : ℕ) × (u : State) × (slice_get ss j ≡ Some u) × (u.first ≤ k) × (k < u.first + u.word.width)) [
        | inl below ↦ find n k (omega arith) below
        | inr above ↦ (n, s.0, s.1, omega arith, omega arith)
      ]

  pub state_of_bit : (k : ℕ) → k < length (states m) → (j : ℕ) × (s : State) × (slice_get ss j ≡ Some s) × (s.first ≤ k) × (k < s.first + s.word.width)
  state_of_bit k l =
      let whole : bits_of (take (length ss) ss) ≡ length (states m) = ap bits_of (take-length ss) ∙ is.whole in
      find (length ss) k (omega arith) (omega arith)

  -- a state whose row is that of its start digits
  pub start_bit : (c : Cycle) (j k p : ℕ) (s : State) (x : Bool) → slice_get ss j ≡ Some s → s.first ≤ k → k < s.first + s.word.width → slice_get (states m) k ≡ Some p → slice_get m.starts k ≡ Some (Some x) → row_at c (places_of m s) ≡ start_of m s → c p ≡ x
  start_bit c j k p s x at low high there digit row =
      let i : ℕ = k - s.first in
      let e : s.first + i ≡ k = omega arith in
      let place = part_there s.first s.word.width i k (states m) p e (omega arith) there in
      let start = part_there s.first s.word.width i k m.starts (Some x) e (omega arith) digit in
      sym (bit_of_row c (places_of m s) i p place) ∙ ap (λ (r : Row). get_or r i false) row ∙ digit_bit (take s.word.width (drop s.first m.starts)) i (Some x) start

  pub known_start : (j k : ℕ) (s : State) (x : Bool) → slice_get ss j ≡ Some s → s.first ≤ k → k < s.first + s.word.width → slice_get m.starts k ≡ Some (Some x) → s.has_start ≡ true
  known_start j k s x at low high digit = sym ((stretch_at j s at).digits k low high) ∙ known_at m.starts k (Some x) digit

  -- a state with start digits, in a cycle that has them
  pub start_row : (c : Cycle) (j : ℕ) (s : State) → slice_get ss j ≡ Some s → s.has_start ≡ true → Starts m c → row_at c (places_of m s) ≡ start_of m s
  start_row c j s at has starts =
      let st = stretch_at j s at in
      let inside = st.inside in
      let same = long in
      let wide : length (places_of m s) ≡ s.word.width = length-take-le s.word.width (drop s.first (states m)) (let d = length-drop s.first (states m) in omega arith) in
      let digits_wide : length (take s.word.width (drop s.first m.starts)) ≡ s.word.width = length-take-le s.word.width (drop s.first m.starts) (let d = length-drop s.first m.starts in omega arith) in
      sym (row_by_bits c (places_of m s) (start_of m s) (length-map (take s.word.width (drop s.first m.starts)) (λ (d : Option Bool). unwrap_or d false) ∙ digits_wide ∙ sym wide)
      (λ i p place.
      let there = part_comes s.first s.word.width i (s.first + i) (states m) p refl place in
      let below = there.0 in
      let d = at_place m.starts (s.first + i) (omega arith) in
      let start = part_there s.first s.word.width i (s.first + i) m.starts d.0 refl below d.1 in
      let known : is_some d.0 ≡ true = sym (known_at m.starts (s.first + i) d.0 d.1) ∙ st.digits (s.first + i) (omega arith) (omega arith) ∙ has in
      let b = some_of d.0 known in
      digit_bit (take s.word.width (drop s.first m.starts)) i d.0 start ∙ ap (λ (y : Option Bool). unwrap_or y false) b.1 ∙ sym (starts (s.first + i) p b.0 there.1 (d.1 ∙ ap Some b.1))))

-- rows of inputs
pub input_row : (vs : Values) (c : Cycle) (rows : List (List ℕ)) (ws : List Word) → length ws ≡ length rows → ((k : ℕ) (row : List ℕ) (a : Word) → slice_get rows k ≡ Some row → slice_get ws k ≡ Some a → vs a.nid ≡ row_at c row) → flat_map (λ a. vs a.nid) ws ≡ row_at c (concat rows)
input_row vs c [] [] l h = refl
input_row vs c [] (a ∷ ws) l h = absurd (omega arith)
input_row vs c (row ∷ rows) [] l h = absurd (omega arith)
input_row vs c (row ∷ rows) (a ∷ ws) l h =
    ap (λ (r : Row). r ++ flat_map (λ b. vs b.nid) ws) (h 0 row a refl refl) ∙ ap (λ (r : Row). row_at c row ++ r) (input_row vs c rows ws (omega arith) (λ k. h (suc k))) ∙ sym (row_append c row (concat rows))

-- and their widths
pub same_widths : (ws : List Word) (rows : List (List ℕ)) → length ws ≡ length rows → ((k : ℕ) (row : List ℕ) (a : Word) → slice_get rows k ≡ Some row → slice_get ws k ≡ Some a → a.width ≡ length row) → map (λ a. a.width) ws ≡ map (λ row. length row) rows
same_widths [] [] l h = refl
same_widths [] (row ∷ rows) l h = absurd (omega arith)
same_widths (a ∷ ws) [] l h = absurd (omega arith)
same_widths (a ∷ ws) (row ∷ rows) l h =
    ap (λ (n : ℕ). n ∷ map (λ b. b.width) ws) (h 0 row a refl refl) ∙ ap (λ (ns : List ℕ). length row ∷ ns) (same_widths ws rows (omega arith) (λ k. h (suc k)))

pub whole_width : (ws : List Word) (rows : List (List ℕ)) → length ws ≡ length rows → ((k : ℕ) (row : List ℕ) (a : Word) → slice_get rows k ≡ Some row → slice_get ws k ≡ Some a → a.width ≡ length row) → sum_by (λ a. a.width) ws ≡ length (concat rows)
whole_width [] [] l h = refl
whole_width [] (row ∷ rows) l h = absurd (omega arith)
whole_width (a ∷ ws) [] l h = absurd (omega arith)
whole_width (a ∷ ws) (row ∷ rows) l h =
    let one : a.width ≡ length row = h 0 row a refl refl in
    let rest = whole_width ws rows (omega arith) (λ k. h (suc k)) in
    let e = length-append row (concat rows) in
    sum_by-cons (λ (b : Word). b.width) a ws ∙ (omega arith)
