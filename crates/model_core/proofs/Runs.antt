-- Each choice has a run, and one only.
use Rattle.std.proofs.Common.{◌≡◌, ℕ, zero, suc, ◌<◌, ◌≤◌, Bool, true, false, cond, List, [], ◌∷◌, ◌++◌, Option, Some, None, refl, sym, ap, ◌∙◌, subst, inl, inr, arith, length, length-append, get_or}
use Rattle.std.specs.Prelude.{slice_get, Contains}
use Rattle.std.specs.List.{flat_map}
use Rattle.std.proofs.lemmas.List.Elements.{All-contains}
use Rattle.std.proofs.lemmas.Option.{get_or_from_slice_get, slice_get_within}
use Rattle.sby_bits.specs.Rows.{Row}
use Rattle.model_core.specs.Choices.{Agree, AreChoicesFor, ChoicesOf, Plays, open_states, start_row, without_digit}
use Rattle.model_core.specs.Shape.{IsDistinct, IsRegister, ModelOf, RegisterOf, given, states}
use Rattle.model_core.specs.Meaning.{Cycle, Follows, Frame, Run, Starts, is_active, next_row, next_states, row_at}
use Rattle.model_core.specs.Served.{IsModel}
use Rattle.model_core.proofs.Fitting.{length-row_at}
use Rattle.model_core.proofs.Frames.{frames_same, open_source, settled, settled_frame, settled_open, source_below}
use Rattle.model_core.proofs.Lists.{all_at, app_left, at_place, contains_either, contains_left, contains_right, same_parts}
use Rattle.model_core.proofs.Writing.{bit_same, row_append, row_same, written, written_row}

-- the row that the state bits start with
pub length-start_row : (ps : List ℕ) (digits : List (Option Bool)) (row : Row) → length digits ≡ length ps → length row ≡ length (without_digit ps digits) → length (start_row digits row) ≡ length ps
length-start_row [] [] row l w = refl
length-start_row [] (x ∷ digits) row l w = absurd (omega arith)
length-start_row (p ∷ ps) [] row l w = absurd (omega arith)
length-start_row (p ∷ ps) (Some x ∷ digits) row l w = ap suc (length-start_row ps digits row (omega arith) w)
length-start_row (p ∷ ps) (None ∷ digits) [] l w = absurd (omega arith)
length-start_row (p ∷ ps) (None ∷ digits) (b ∷ row) l w = ap suc (length-start_row ps digits row (omega arith) (omega arith))

abbrev HaveDigits : Cycle → List ℕ → List (Option Bool) → Type 0
HaveDigits c ps digits = (k p : ℕ) (x : Bool) → slice_get ps k ≡ Some p → slice_get digits k ≡ Some (Some x) → c p ≡ x

start_to : (c : Cycle) (ps : List ℕ) (digits : List (Option Bool)) (row : Row) → length digits ≡ length ps → HaveDigits c ps digits → row_at c (without_digit ps digits) ≡ row → row_at c ps ≡ start_row digits row
start_to c [] [] row l h e = refl
start_to c [] (x ∷ digits) row l h e = absurd (omega arith)
start_to c (p ∷ ps) [] row l h e = absurd (omega arith)
start_to c (p ∷ ps) (Some x ∷ digits) row l h e =
    let head : c p ≡ x = h 0 p x refl refl in
    let tail = start_to c ps digits row (omega arith) (λ k. h (suc k)) e in
    cc
start_to c (p ∷ ps) (None ∷ digits) [] l h e = absurd (let z = ap (λ (r : Row). length r) e in omega arith)
start_to c (p ∷ ps) (None ∷ digits) (b ∷ row) l h e =
    let head : c p ≡ b = cc in
    let rest : row_at c (without_digit ps digits) ≡ row = cc in
    let tail = start_to c ps digits row (omega arith) (λ k. h (suc k)) rest in
    cc

digits_cons : (c : Cycle) (p : ℕ) (ps : List ℕ) (d : Option Bool) (digits : List (Option Bool)) → ((x : Bool) → d ≡ Some x → c p ≡ x) → HaveDigits c ps digits → HaveDigits c (p ∷ ps) (d ∷ digits)
digits_cons c p ps d digits head tail zero q y a b = let z : p ≡ q = cc in let w : d ≡ Some y = cc in let h = head y w in cc
digits_cons c p ps d digits head tail (suc k) q y a b = tail k q y a b

start_from : (c : Cycle) (ps : List ℕ) (digits : List (Option Bool)) (row : Row) → length digits ≡ length ps → length row ≡ length (without_digit ps digits) → row_at c ps ≡ start_row digits row
    → HaveDigits c ps digits × (row_at c (without_digit ps digits) ≡ row)
start_from c [] [] [] l w e = ((λ k p x a b. absurd (let z : None ≡ Some p = a in cc)), refl)
start_from c [] [] (b ∷ row) l w e = absurd (omega arith)
start_from c [] (x ∷ digits) row l w e = absurd (omega arith)
start_from c (p ∷ ps) [] row l w e = absurd (omega arith)
start_from c (p ∷ ps) (Some x ∷ digits) row l w e =
    let head : c p ≡ x = cc in
    let tail : row_at c ps ≡ start_row digits row = cc in
    let r = start_from c ps digits row (omega arith) w tail in
    (digits_cons c p ps (Some x) digits (λ y z. let s : x ≡ y = cc in cc) r.0, r.1)
start_from c (p ∷ ps) (None ∷ digits) [] l w e = absurd (omega arith)
start_from c (p ∷ ps) (None ∷ digits) (b ∷ row) l w e =
    let head : c p ≡ b = cc in
    let tail : row_at c ps ≡ start_row digits row = cc in
    let r = start_from c ps digits row (omega arith) (omega arith) tail in
    (digits_cons c p ps None digits (λ y z. absurd (cc)) r.0, (let q = r.1 in cc))

-- rows of a list's elements, one after the other
flat_same : {A B : Type 0} (f g : A → List B) (xs : List A) → ((i : ℕ) (x : A) → slice_get xs i ≡ Some x → f x ≡ g x) → flat_map f xs ≡ flat_map g xs
flat_same f g [] h = refl
flat_same f g (x ∷ xs) h =
    let head : f x ≡ g x = h 0 x refl in
    let tail = flat_same f g xs (λ i. h (suc i)) in
    cc

flat_wide : {A B C : Type 0} (f : A → List B) (g : A → List C) (xs : List A) → ((i : ℕ) (x : A) → slice_get xs i ≡ Some x → length (f x) ≡ length (g x)) → length (flat_map f xs) ≡ length (flat_map g xs)
flat_wide f g [] h = refl
flat_wide f g (x ∷ xs) h =
    let a = length-append (f x) (flat_map f xs) in
    let b = length-append (g x) (flat_map g xs) in
    let head = h 0 x refl in
    let tail = flat_wide f g xs (λ i. h (suc i)) in
    omega (arith, a, b, head, tail)

cond_wide : (t : Bool) (a b : Row) (n : ℕ) → length a ≡ n → length b ≡ n → length (cond t a b) ≡ n
cond_wide true a b n ea eb = ea
cond_wide false a b n ea eb = eb

pub next_wide : (c : Cycle) (size : ℕ) (r : RegisterOf) → IsRegister size r → length (next_row c r) ≡ length r.q
next_wide c size r h =
    let q = length-row_at c r.q in
    let d = length-row_at c r.d ∙ h.d in
    let v = length-row_at c r.value ∙ h.value in
    let taken = cond_wide (is_active c r.enable) (row_at c r.d) (row_at c r.q) (length r.q) d q in
    let first = cond_wide (is_active c r.reset) (row_at c r.value) (cond (is_active c r.enable) (row_at c r.d) (row_at c r.q)) (length r.q) v taken in
    let reset = cond_wide (is_active c r.reset) (row_at c r.value) (row_at c r.d) (length r.q) v d in
    let second = cond_wide (is_active c r.enable) (cond (is_active c r.reset) (row_at c r.value) (row_at c r.d)) (row_at c r.q) (length r.q) reset q in
    cond_wide r.reset_first _ _ (length r.q) first second

module _ (m : ModelOf) (is : IsModel m) where
  register_at : (i : ℕ) (r : RegisterOf) → slice_get m.registers i ≡ Some r → IsRegister m.size r
  register_at i r e = all_at (IsRegister m.size) m.registers i r is.registers e

  pub next_states_wide : (c : Cycle) → length (next_states m c) ≡ length (states m)
  next_states_wide c = flat_wide (next_row c) (λ (r : RegisterOf). r.q) m.registers (λ i r e. next_wide c m.size r (register_at i r e))

  -- the next state is that row of all state bits
  pub follows_row : (c e : Cycle) → Follows m c e → row_at e (states m) ≡ next_states m c
  follows_row c e h = by m.registers h
    where
      by : (rs : List RegisterOf) → ((i : ℕ) (r : RegisterOf) → slice_get rs i ≡ Some r → row_at e r.q ≡ next_row c r) → row_at e (flat_map (λ r. r.q) rs) ≡ flat_map (next_row c) rs
      by [] h = refl
      by (r ∷ rs) h =
          let head = h 0 r refl in
          let tail = by rs (λ i. h (suc i)) in
          row_append e r.q (flat_map (λ (k : RegisterOf). k.q) rs) ∙ cc

  pub row_follows : (c e : Cycle) → row_at e (states m) ≡ next_states m c → Follows m c e
  row_follows c e h = by m.registers (λ i r g. register_at i r g) h
    where
      first : (x : RegisterOf) (rs : List RegisterOf) → row_at e x.q ≡ next_row c x → ((i : ℕ) (r : RegisterOf) → slice_get rs i ≡ Some r → row_at e r.q ≡ next_row c r)
          → (i : ℕ) (r : RegisterOf) → slice_get (x ∷ rs) i ≡ Some r → row_at e r.q ≡ next_row c r
      first x rs head tail zero r g = let z : x ≡ r = cc in subst (λ (k : RegisterOf). row_at e k.q ≡ next_row c k) z head
      first x rs head tail (suc i) r g = tail i r g

      by : (rs : List RegisterOf) → ((i : ℕ) (r : RegisterOf) → slice_get rs i ≡ Some r → IsRegister m.size r) → row_at e (flat_map (λ r. r.q) rs) ≡ flat_map (next_row c) rs
          → (i : ℕ) (r : RegisterOf) → slice_get rs i ≡ Some r → row_at e r.q ≡ next_row c r
      by [] w h i r g = absurd (let z : None ≡ Some r = g in cc)
      by (x ∷ rs) w h i r g =
          let parts = same_parts (row_at e x.q) (row_at e (flat_map (λ (k : RegisterOf). k.q) rs)) (next_row c x) (flat_map (next_row c) rs)
          (length-row_at e x.q ∙ sym (next_wide c m.size x (w 0 x refl))) (sym (row_append e x.q (flat_map (λ (k : RegisterOf). k.q) rs)) ∙ h) in
          first x rs parts.0 (λ k s z. by rs (λ n. w (suc n)) parts.1 k s z) i r g

  -- a cycle is first with these bits where its state bits have the start row
  pub starts_row : (c : Cycle) (row : Row) → Starts m c → row_at c (open_states m) ≡ row → row_at c (states m) ≡ start_row m.starts row
  starts_row c row s e = start_to c (states m) m.starts row is.starts s e

  pub row_starts : (c : Cycle) (row : Row) → length row ≡ length (open_states m) → row_at c (states m) ≡ start_row m.starts row → Starts m c × (row_at c (open_states m) ≡ row)
  row_starts c row w e = start_from c (states m) m.starts row is.starts w e

  -- places of the state bits and of the inputs
  state_below : (p : ℕ) → Contains (states m) p → p < m.size
  state_below p h = source_below m is p (open_source m is p (contains_left (states m) m.inputs p h))

  pub open_distinct : IsDistinct (states m ++ m.inputs)
  open_distinct i j p a b =
      let x = app_left (states m ++ m.inputs) (given m.nodes) i p a in
      let y = app_left (states m ++ m.inputs) (given m.nodes) j p b in
      let z : suc (suc i) ≡ suc (suc j) = is.once (suc (suc i)) (suc (suc j)) p x y in
      omega arith

  -- the cycle with these rows of state bits and inputs
  pub turned : Row → Row → Cycle
  turned held row = settled m is (written (λ p. false) (states m ++ m.inputs) (held ++ row))

  module _ (held row : Row) (hw : length held ≡ length (states m)) (rw' : length row ≡ length m.inputs) where
    turned_rows : (row_at (turned held row) (states m) ≡ held) × (row_at (turned held row) m.inputs ≡ row)
    unfolding turned
    turned_rows =
        let base : Cycle = written (λ p. false) (states m ++ m.inputs) (held ++ row) in
        let lengths : length (held ++ row) ≡ length (states m ++ m.inputs) = omega (arith, length-append held row, length-append (states m) m.inputs) in
        let all = row_same (settled m is base) base (states m ++ m.inputs) (λ p h. settled_open m is base p h) ∙ written_row (λ p. false) (states m ++ m.inputs) (held ++ row) open_distinct lengths in
        same_parts (row_at (settled m is base) (states m)) (row_at (settled m is base) m.inputs) held row (length-row_at (settled m is base) (states m) ∙ sym hw)
        (sym (row_append (settled m is base) (states m) m.inputs) ∙ all)

    turned_frame : Frame m (turned held row)
    unfolding turned
    turned_frame = settled_frame m is (written (λ p. false) (states m ++ m.inputs) (held ++ row))

  -- the run with these choices, cycle by cycle
  pub run_of : ChoicesOf → ℕ → Cycle
  run_of c zero = turned (start_row m.starts c.starts) (get_or c.inputs 0 [])
  run_of c (suc t) = turned (next_states m (run_of c t)) (get_or c.inputs (suc t) [])

  module _ (c : ChoicesOf) (fit : AreChoicesFor m c) where
    inputs_wide : (t : ℕ) → t < length c.inputs → length (get_or c.inputs t []) ≡ length m.inputs
    inputs_wide t l = fit.inputs t [] l

    starts_wide : length (start_row m.starts c.starts) ≡ length (states m)
    starts_wide = length-start_row (states m) m.starts c.starts is.starts fit.starts

    run_frame : (t : ℕ) → t < length c.inputs → Frame m (run_of c t)
    unfolding run_of
    run_frame zero l = turned_frame (start_row m.starts c.starts) (get_or c.inputs 0 []) starts_wide (inputs_wide 0 l)
    run_frame (suc t) l = turned_frame (next_states m (run_of c t)) (get_or c.inputs (suc t) []) (next_states_wide (run_of c t)) (inputs_wide (suc t) l)

    run_inputs : (t : ℕ) → t < length c.inputs → row_at (run_of c t) m.inputs ≡ get_or c.inputs t []
    unfolding run_of
    run_inputs zero l = (turned_rows (start_row m.starts c.starts) (get_or c.inputs 0 []) starts_wide (inputs_wide 0 l)).1
    run_inputs (suc t) l = (turned_rows (next_states m (run_of c t)) (get_or c.inputs (suc t) []) (next_states_wide (run_of c t)) (inputs_wide (suc t) l)).1

    run_first : 0 < length c.inputs → row_at (run_of c 0) (states m) ≡ start_row m.starts c.starts
    unfolding run_of
    run_first l = (turned_rows (start_row m.starts c.starts) (get_or c.inputs 0 []) starts_wide (inputs_wide 0 l)).0

    run_next : (t : ℕ) → suc t < length c.inputs → row_at (run_of c (suc t)) (states m) ≡ next_states m (run_of c t)
    unfolding run_of
    run_next t l = (turned_rows (next_states m (run_of c t)) (get_or c.inputs (suc t) []) (next_states_wide (run_of c t)) (inputs_wide (suc t) l)).0

    pub run_plays : 0 < length c.inputs → Plays m c (run_of c)
    run_plays some =
        let s = row_starts (run_of c 0) c.starts fit.starts (run_first some) in
        record {
          run = record {
            window = record {
              some = some;
              frames = λ t l. run_frame t l;
              follows = λ t l. row_follows (run_of c t) (run_of c (suc t)) (run_next t l);
            };
            starts = s.0;
          };
          starts = s.1;
          inputs = λ t row e. run_inputs t (slice_get_within c.inputs t row e) ∙ get_or_from_slice_get c.inputs t row [] e;
        }

  -- a register keeps the same after cycles that are the same
  pub next_same : (c e : Cycle) → Agree m c e → next_states m c ≡ next_states m e
  next_same c e same = flat_same (next_row c) (next_row e) m.registers (λ i r g. each i r g)
    where
      each : (i : ℕ) (r : RegisterOf) → slice_get m.registers i ≡ Some r → next_row c r ≡ next_row e r
      each i r g =
          let w = register_at i r g in
          let x = same r.enable.place w.enable in
          let y = same r.reset.place w.reset in
          let a = row_same c e r.d (λ p h. same p (All-contains (λ (k : ℕ). k < m.size) r.d p w.d_below h)) in
          let b = row_same c e r.value (λ p h. same p (All-contains (λ (k : ℕ). k < m.size) r.value p w.value_below h)) in
          let q = row_same c e r.q (λ p h. same p (state_below p (in_states i r p g h))) in
          rw (x, y, a, b, q) refl
        where
          in_states : (i : ℕ) (r : RegisterOf) (p : ℕ) → slice_get m.registers i ≡ Some r → Contains r.q p → Contains (states m) p
          in_states i r p g h = by m.registers i g
            where
              by : (rs : List RegisterOf) (i : ℕ) → slice_get rs i ≡ Some r → Contains (flat_map (λ k. k.q) rs) p
              by [] i g = absurd (let z : None ≡ Some r = g in cc)
              by (k ∷ rs) zero g = let z : r ≡ k = cc in contains_left k.q (flat_map (λ k. k.q) rs) p (subst (λ (n : RegisterOf). Contains n.q p) z h)
              by (k ∷ rs) (suc i) g = contains_right k.q (flat_map (λ k. k.q) rs) p (by rs i g)

  -- cycles with the same rows of state bits and inputs are the same
  pub turns_same : (c e : Cycle) → Frame m c → Frame m e → row_at c (states m) ≡ row_at e (states m) → row_at c m.inputs ≡ row_at e m.inputs → Agree m c e
  turns_same c e fc fe hs hi =
      frames_same m is c e fc fe
      (λ p h. elim (contains_either (states m) m.inputs p h) as (λ _. c p ≡ e p) [ inl a ↦ bit_same c e (states m) p hs a | inr a ↦ bit_same c e m.inputs p hi a ])

  module _ (c : ChoicesOf) (cs es : ℕ → Cycle) (p : Plays m c cs) (q : Plays m c es) where
    inputs_same : (t : ℕ) → t < length c.inputs → row_at (cs t) m.inputs ≡ row_at (es t) m.inputs
    inputs_same t l = let row = at_place c.inputs t l in p.inputs t row.0 row.1 ∙ sym (q.inputs t row.0 row.1)

    pub runs_same : (t : ℕ) → t < length c.inputs → Agree m (cs t) (es t)
    runs_same zero l =
        turns_same (cs 0) (es 0) (p.run.window.frames 0 l) (q.run.window.frames 0 l)
        (starts_row (cs 0) c.starts p.run.starts p.starts ∙ sym (starts_row (es 0) c.starts q.run.starts q.starts)) (inputs_same 0 l)
    runs_same (suc t) l =
        turns_same (cs (suc t)) (es (suc t)) (p.run.window.frames (suc t) l) (q.run.window.frames (suc t) l)
        (follows_row (cs t) (cs (suc t)) (p.run.window.follows t l) ∙ next_same (cs t) (es t) (runs_same t (omega arith)) ∙ sym (follows_row (es t) (es (suc t)) (q.run.window.follows t l)))
        (inputs_same (suc t) l)

-- a run cut after one of its cycles
pub run_cut : (m : ModelOf) (n k : ℕ) (cs : ℕ → Cycle) → 0 < k → k ≤ n → Run m n cs → Run m k cs
run_cut m n k cs some l r = record {
  window = record { some = some; frames = λ t h. r.window.frames t (omega arith); follows = λ t h. r.window.follows t (omega arith) };
  starts = r.starts;
}
