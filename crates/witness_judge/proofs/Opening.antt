-- The state bits that a witness may start are those of its open states.
use Rattle.std.proofs.Common.{◌≡◌, ℕ, zero, suc, ◌+◌, ◌<◌, ◌≤◌, Bool, true, false, cond, not, List, [], ◌∷◌, ◌++◌, Some, None, length, map, take, drop, get_or, refl, sym, ap, ◌∙◌, arith, append_assoc, append-nil, length-drop}
use Rattle.std.specs.Prelude.{Option, slice_get}
use Rattle.std.specs.Option.{is_some}
use Rattle.std.proofs.lemmas.List.{drop-drop, drop_all, get_or-drop, take_at}
use Rattle.std.proofs.lemmas.List.Sums.{sum_by-append}
use Rattle.model_core.specs.Choices.{open_states, without_digit}
use Rattle.model_core.specs.Shape.{ModelOf, states}
use Rattle.model_core.proofs.Lists.{all_at, app_right}
use Rattle.btor_emit.specs.States.{AreStretches, IsStretchOf, bits_of}
use Rattle.btor_emit.specs.declared.shape.State.{State}
use Rattle.btor_witness.specs.Shape.{open_bits, open_width}
use Rattle.witness_judge.specs.Choosing.{state_slot}

-- how many places of the first have no digit, where either all or none have one
open_front : (w : ℕ) (ps : List ℕ) (ds : List (Option Bool)) (b : Bool) → length ds ≡ length ps → w ≤ length ps → ((j : ℕ) → j < w → is_some (get_or ds j None) ≡ b)
    → length (without_digit ps ds) ≡ cond (not b) w 0 + length (without_digit (drop w ps) (drop w ds))
open_front zero ps ds true n l h = omega arith
open_front zero ps ds false n l h = omega arith
open_front (suc w) [] ds b n l h = absurd (omega arith)
open_front (suc w) (p ∷ ps) [] b n l h = absurd (omega arith)
open_front (suc w) (p ∷ ps) (Some x ∷ ds) true n l h = open_front w ps ds true (omega arith) (omega arith) (λ j k. h (suc j) (omega arith))
open_front (suc w) (p ∷ ps) (Some x ∷ ds) false n l h = absurd (let e : true ≡ false = h 0 (omega arith) in cc)
open_front (suc w) (p ∷ ps) (None ∷ ds) true n l h = absurd (let e : false ≡ true = h 0 (omega arith) in cc)
open_front (suc w) (p ∷ ps) (None ∷ ds) false n l h = let e = open_front w ps ds false (omega arith) (omega arith) (λ j k. h (suc j) (omega arith)) in omega arith

open_slot : (s : State) → open_width (state_slot s) ≡ cond (not s.has_start) s.word.width 0
open_slot s = refl

module _ (m : ModelOf) (ss : List State) (is : AreStretches m ss) (starts : length m.starts ≡ length (states m)) where
  open_stretch : (s : State) → IsStretchOf m s
      → length (without_digit (drop s.first (states m)) (drop s.first m.starts)) ≡ open_width (state_slot s) + length (without_digit (drop (s.first + s.word.width) (states m)) (drop (s.first + s.word.width) m.starts))
  open_stretch s stretch =
      let ps = drop s.first (states m) in
      let ds = drop s.first m.starts in
      let a = length-drop s.first (states m) in
      let b = length-drop s.first m.starts in
      let inside = stretch.inside in
      let e = open_front s.word.width ps ds s.has_start (omega arith) (omega arith) (λ j l. ap (λ (d : Option Bool). is_some d) (get_or-drop s.first m.starts j None) ∙ stretch.digits (s.first + j) (omega arith) (omega arith)) in
      let f = drop-drop s.word.width s.first (states m) in
      let g = drop-drop s.word.width s.first m.starts in
      e ∙ ap (λ (k : ℕ). open_width (state_slot s) + k) (ap (λ (qs : List ℕ). length (without_digit qs (drop s.word.width ds))) f ∙ ap (λ (cs : List (Option Bool)). length (without_digit (drop (s.first + s.word.width) (states m)) cs)) g)

  open_rest : (front rest : List State) → ss ≡ front ++ rest → open_bits (map state_slot rest) ≡ length (without_digit (drop (bits_of front) (states m)) (drop (bits_of front) m.starts))
  open_rest front [] e =
      let all : bits_of front ≡ length (states m) = ap bits_of (sym (append-nil front)) ∙ ap bits_of (sym e) ∙ is.whole in
      let none : drop (bits_of front) (states m) ≡ [] = drop_all (bits_of front) (states m) (omega arith) in
      sym (ap (λ (qs : List ℕ). length (without_digit qs (drop (bits_of front) m.starts))) none)
  open_rest front (s ∷ rest) e =
      let at : slice_get ss (length front) ≡ Some s = ap (λ (xs : List State). slice_get xs (length front)) e ∙ app_right front (s ∷ rest) 0 (length front) (omega arith) in
      let before : take (length front) ss ≡ front = ap (take (length front)) e ∙ take_at front (s ∷ rest) (length front) refl in
      let first : s.first ≡ bits_of front = is.joined (length front) s at ∙ ap bits_of before in
      let stretch = all_at (IsStretchOf m) ss (length front) s is.each at in
      let more : bits_of (front ++ s ∷ []) ≡ s.first + s.word.width = (let z = sum_by-append (λ (t : State). t.word.width) front (s ∷ []) in omega (arith, z, first)) in
      let next = open_rest (front ++ s ∷ []) rest (e ∙ sym (append_assoc front (s ∷ []) rest)) in
      let own = open_stretch s stretch in
      ap (λ (k : ℕ). open_width (state_slot s) + k) (next ∙ ap (λ (k : ℕ). length (without_digit (drop k (states m)) (drop k m.starts))) more)
      ∙ sym own
      ∙ ap (λ (k : ℕ). length (without_digit (drop k (states m)) (drop k m.starts))) first

  pub open_long : open_bits (map state_slot ss) ≡ length (open_states m)
  open_long = open_rest [] ss refl
