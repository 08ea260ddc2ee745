-- Bits in tables, and the choices that they are.
use Rattle.std.proofs.Common.{◌≡◌, ◌≢◌, ℕ, zero, suc, ◌+◌, ◌-◌, ◌*◌, ◌<◌, ◌≤◌, Bool, true, false, cond, not, List, [], ◌∷◌, ◌++◌, Option, Some, None, refl, sym, ap, ◌∙◌, subst, inl, inr, arith, length, map, eqb, get_or, set, take, drop, replicate}
use Rattle.std.specs.Prelude.{◌&&◌, slice_index_or, slice_get, max}
use Rattle.std.proofs.lemmas.Bool.{cases_Bool, eqb-true, eq-eqb}
use Rattle.std.proofs.lemmas.List.{drop_more, get_or-drop, get_or-set_other, get_or-set_same, length-set, map-append}
use Rattle.std.proofs.lemmas.Nat.{mul-add-lt, same_from_place}
use Rattle.std.proofs.lemmas.Option.{get_or_from_slice_get, slice_get_within}
use Rattle.cnf_form.specs.Cnf.{Assignment, LitOf, lit_in}
use Rattle.gate_graph.specs.Kept.{lit_of}
use Rattle.gate_graph.proofs.Pushing.{take_one_more}
use Rattle.sby_bits.specs.Rows.{Row}
use Rattle.model_core.specs.Choices.{ChoicesOf}
use Rattle.model_play.specs.Packed.{rows_of}
use Rattle.bit_net.specs.Net.{NetOf, input_var, state_var}
use Rattle.bit_net.specs.Reaching.{numbers}
use Rattle.bit_net.specs.declared.node.State.{State}
use Rattle.bit_net.proofs.Lists.{both_and, and_both}
use Rattle.frame_net.proofs.Rows.{numbers_append}
use Rattle.job_terms.specs.Decoding.{FrameOf, bit_of, decoded_by, rows_until}
use Rattle.net_unroll.specs.Encoding.{EncodedOf}
use Rattle.net_unroll.specs.Promises.{told_by}
use Rattle.net_unroll.specs.declared.asking.Cycles.{Cycles}
use Rattle.net_unroll.specs.declared.encoded.Free.{Free}
use Rattle.net_jobs.specs.Decoding.{TellInputs, TellStates, cycles_until, goals_until}
use Rattle.net_jobs.specs.Jobs.{start_bits}
use Rattle.net_jobs.specs.Reading.{decoding_of, early_frames, frame_of, goal_frames}
use Rattle.net_jobs.proofs.Reading.{early_rows, frame_told, next_row, row-and, row_of, starts_told}

-- ---- one free variable more

told_here : (x : Assignment) (f : Free) (fs : List Free) (t v : ℕ) → f.cycle ≡ t → f.place ≡ v → told_by x (f ∷ fs) t v ≡ x f.var
told_here x f fs t v p q = ap (λ (b : Bool). cond b (x f.var) (told_by x fs t v)) (and_both (eqb f.cycle t) (eqb f.place v) (eq-eqb f.cycle t p) (eq-eqb f.place v q))

told_on : (x : Assignment) (f : Free) (fs : List Free) (t v : ℕ) → (f.cycle ≡ t → f.place ≡ v → ⊥) → told_by x (f ∷ fs) t v ≡ told_by x fs t v
told_on x f fs t v other = by (eqb f.cycle t && eqb f.place v) refl
  where
    by : (b : Bool) → (eqb f.cycle t && eqb f.place v) ≡ b → cond b (x f.var) (told_by x fs t v) ≡ told_by x fs t v
    by false e = refl
    by true e = absurd (let (p, q) = both_and (eqb f.cycle t) (eqb f.place v) e in other (eqb-true f.cycle t p) (eqb-true f.place v q))

pub states_none : (x : Assignment) (count : ℕ) → TellStates x [] (replicate count false)
states_none x count = record { each = λ k l. none count k }
  where
    none : (count k : ℕ) → slice_index_or (replicate count false) k false ≡ false
    none zero k = refl
    none (suc n) zero = refl
    none (suc n) (suc k) = none n k

pub states_other : (x : Assignment) (f : Free) (fs : List Free) (bits : List Bool) → TellStates x fs bits → ((k : ℕ) → k < length bits → f.cycle ≡ 0 → f.place ≡ state_var k → ⊥) → TellStates x (f ∷ fs) bits
states_other x f fs bits h other = record { each = λ k l. h.each k l ∙ sym (told_on x f fs 0 (state_var k) (other k l)) }

pub states_put : (x : Assignment) (f : Free) (fs : List Free) (bits : List Bool) (k : ℕ) (b : Bool) → x f.var ≡ b → TellStates x fs bits → f.cycle ≡ 0 → f.place ≡ state_var k → k < length bits → TellStates x (f ∷ fs) (set bits k b)
states_put x f fs bits k b e h p q l = record { each = λ j m. by j (let z = length-set bits k b in omega arith) }
  where
    by : (j : ℕ) → j < length bits → slice_index_or (set bits k b) j false ≡ told_by x (f ∷ fs) 0 (state_var j)
    by j m = elim (cases_Bool (eqb j k)) as (λ _. slice_index_or (set bits k b) j false ≡ told_by x (f ∷ fs) 0 (state_var j)) [
      | inl t ↦
          let same : j ≡ k = eqb-true j k t in
          ap (λ (i : ℕ). slice_index_or (set bits k b) i false) same ∙ get_or-set_same bits k b false l ∙ sym e ∙ sym (told_here x f fs 0 (state_var j) p (q ∙ ap state_var (sym same)))
      | inr t ↦
          let apart : j ≢ k = λ z. (let w : true ≡ false = sym (eq-eqb j k z) ∙ t in cc) in
          get_or-set_other bits k j b false apart ∙ h.each j m ∙ sym (told_on x f fs 0 (state_var j) (λ a z. apart (let w : state_var j ≡ state_var k = sym z ∙ q in omega arith)))
    ]

module _ (x : Assignment) (first width count : ℕ) where
  pub inputs_none : (size : ℕ) → TellInputs x first width count [] (replicate size false)
  inputs_none size = record { each = λ t k l m. none size (t * width + k) }
    where
      none : (size k : ℕ) → slice_index_or (replicate size false) k false ≡ false
      none zero k = refl
      none (suc n) zero = refl
      none (suc n) (suc k) = none n k

  pub inputs_other : (f : Free) (fs : List Free) (bits : List Bool) → TellInputs x first width count fs bits → ((t k : ℕ) → t < count → k < width → f.cycle ≡ t → f.place ≡ first + k → ⊥) → TellInputs x first width count (f ∷ fs) bits
  inputs_other f fs bits h other = record { each = λ t k l m. h.each t k l m ∙ sym (told_on x f fs t (first + k) (other t k l m)) }

  pub inputs_put : (f : Free) (fs : List Free) (bits : List Bool) (t k : ℕ) (b : Bool) → x f.var ≡ b → TellInputs x first width count fs bits → length bits ≡ count * width →
      f.cycle ≡ t → f.place ≡ first + k → t < count → k < width → TellInputs x first width count (f ∷ fs) (set bits (t * width + k) b)
  inputs_put f fs bits t k b e h size p q l m = record { each = λ s j a c. by s j a c }
    where
      inside : t * width + k < length bits
      inside = let z = mul-add-lt t width k count l m in let y : width * count ≡ count * width = grind arith in omega arith

      by : (s j : ℕ) → s < count → j < width → slice_index_or (set bits (t * width + k) b) (s * width + j) false ≡ told_by x (f ∷ fs) s (first + j)
      by s j a c = elim (cases_Bool (eqb (s * width + j) (t * width + k))) as (λ _. slice_index_or (set bits (t * width + k) b) (s * width + j) false ≡ told_by x (f ∷ fs) s (first + j)) [
        | inl r ↦
            let same : s * width + j ≡ t * width + k = eqb-true (s * width + j) (t * width + k) r in
            let (u, v) = same_from_place s j t k width c m same in
            ap (λ (i : ℕ). slice_index_or (set bits (t * width + k) b) i false) same ∙ get_or-set_same bits (t * width + k) b false inside ∙ sym e
            ∙ sym (told_here x f fs s (first + j) (p ∙ sym u) (q ∙ ap (λ (i : ℕ). first + i) (sym v)))
        | inr r ↦
            let apart : s * width + j ≢ t * width + k = λ z. (let w : true ≡ false = sym (eq-eqb (s * width + j) (t * width + k) z) ∙ r in cc) in
            get_or-set_other bits (t * width + k) (s * width + j) b false apart ∙ h.each s j a c
            ∙ sym (told_on x f fs s (first + j) (λ d z. apart (
            let u : t ≡ s = sym p ∙ d in
            let v : first + k ≡ first + j = sym q ∙ z in
            let w : k ≡ j = omega arith in
            ap (λ (i : ℕ). i * width + j) (sym u) ∙ ap (λ (i : ℕ). t * width + i) (sym w))))
      ]

-- ---- what is left of a list

pub drop_here : {A : Type 0} (xs : List A) (i : ℕ) (x : A) → slice_get xs i ≡ Some x → drop i xs ≡ x ∷ drop (i + 1) xs
drop_here xs i x e = drop_more xs i x (slice_get_within xs i x e) ∙ ap (λ (y : _). y ∷ drop (i + 1) xs) (get_or_from_slice_get xs i x x e)

pub until_here : (x : Assignment) (goals : List LitOf) (k : ℕ) (l : LitOf) (b : Bool) → slice_get goals k ≡ Some l → lit_in x l ≡ b → goals_until x (drop k goals) ≡ suc (cond b 0 (goals_until x (drop (k + 1) goals)))
until_here x goals k l b at e = ap (goals_until x) (drop_here goals k l at) ∙ ap (λ (c : Bool). suc (cond c 0 (goals_until x (drop (k + 1) goals)))) e

pub none_early : (x : Assignment) (early : ℕ) (goals : List LitOf) → early ≡ 0 → cycles_until x early goals ≡ goals_until x goals
none_early x zero goals e = refl
none_early x (suc k) goals e = absurd (omega arith)

pub some_early : (x : Assignment) (early : ℕ) (goals : List LitOf) (b : Bool) → early ≢ 0 → x 1 ≡ b → cycles_until x early goals ≡ cond b (early + goals_until x goals) 1
some_early x zero goals b n e = absurd (n refl)
some_early x (suc k) goals b n e = ap (λ (c : Bool). cond c (suc k + goals_until x goals) 1) e

-- ---- rows

row_is : (g : ℕ → Bool) (width base : ℕ) (xs : Row) → width ≤ length xs → ((k : ℕ) → k < width → slice_index_or xs k false ≡ g (base + k)) → take width xs ≡ map g (numbers base width)
row_is g zero base xs l h = refl
row_is g (suc w) base [] l h = absurd (omega arith)
row_is g (suc w) base (b ∷ xs) l h =
    row-bit (h 0 (omega arith) ∙ ap g (let z : base + 0 ≡ base = omega arith in z))
    (row_is g w (suc base) xs (omega arith) (λ k m. h (suc k) (omega arith) ∙ ap g (let z : base + suc k ≡ suc base + k = omega arith in z)))
  where
    row-bit : {c d : Bool} {r s : Row} → c ≡ d → r ≡ s → c ∷ r ≡ d ∷ s
    row-bit e f = rw (e, f) refl

rows_are : (g : ℕ → ℕ → Bool) (width n base : ℕ) (bits : Row) → length bits ≡ n * width → ((t k : ℕ) → t < n → k < width → slice_index_or bits (t * width + k) false ≡ g (base + t) k) →
    rows_of width n bits ≡ map (λ t. map (g t) (numbers 0 width)) (numbers base n)
rows_are g width zero base bits l h = refl
rows_are g width (suc n) base bits l h =
    let many : suc n * width ≡ width + n * width = grind arith in
    row-and
    (row_is (g base) width 0 bits (omega arith) (λ k m. (let a = h 0 k (omega arith) m in
    ap (λ (i : ℕ). slice_index_or bits i false) (let z : k ≡ 0 * width + k = grind arith in z) ∙ a ∙ ap (λ (t : ℕ). g t k) (let z : base + 0 ≡ base = omega arith in z) ∙ ap (g base) (let z : k ≡ 0 + k = omega arith in z))))
    (rows_are g width n (suc base) (drop width bits) (let d = length_left width bits (omega arith) in omega arith) (λ t k a m.
    get_or-drop width bits (t * width + k) false ∙ ap (λ (i : ℕ). slice_index_or bits i false) (let z : width + (t * width + k) ≡ suc t * width + k = grind arith in z)
    ∙ h (suc t) k (omega arith) m ∙ ap (λ (s : ℕ). g s k) (let z : base + suc t ≡ suc base + t = omega arith in z)))
  where
    length_left : (w : ℕ) (xs : Row) → w ≤ length xs → length (drop w xs) ≡ length xs - w
    length_left zero xs l = omega arith
    length_left (suc w) [] l = absurd (omega arith)
    length_left (suc w) (y ∷ xs) l = let z = length_left w xs (omega arith) in omega arith

-- ---- start bits

pub starts_push : (digits : List (Option Bool)) (d : Option Bool) (k : ℕ) (f : ℕ → Bool) → start_bits (digits ++ d ∷ []) k f ≡ start_bits digits k f ++ start_bits (d ∷ []) 0 (λ _. f (k + length digits))
starts_push [] d k f = by d
  where
    by : (d : Option Bool) → start_bits (d ∷ []) k f ≡ start_bits (d ∷ []) 0 (λ _. f (k + 0))
    by None = ap (λ (i : ℕ). f i ∷ []) (let z : k ≡ k + 0 = omega arith in z)
    by (Some b) = refl
starts_push (None ∷ digits) d k f =
    ap (λ (r : Row). f k ∷ r) (starts_push digits d (suc k) f ∙ ap (λ (i : ℕ). start_bits digits (suc k) f ++ start_bits (d ∷ []) 0 (λ _. f i)) (let z : suc k + length digits ≡ k + suc (length digits) = omega arith in z))
starts_push (Some b ∷ digits) d k f =
    starts_push digits d (suc k) f ∙ ap (λ (i : ℕ). start_bits digits (suc k) f ++ start_bits (d ∷ []) 0 (λ _. f i)) (let z : suc k + length digits ≡ k + suc (length digits) = omega arith in z)

starts_same : (digits : List (Option Bool)) (k : ℕ) (f g : ℕ → Bool) → ((j : ℕ) → k ≤ j → j < k + length digits → f j ≡ g j) → start_bits digits k f ≡ start_bits digits k g
starts_same [] k f g h = refl
starts_same (None ∷ digits) k f g h = by (h k (omega arith) (omega arith)) (starts_same digits (suc k) f g (λ j a b. h j (omega arith) (omega arith)))
  where
    by : {a b : Bool} {r s : Row} → a ≡ b → r ≡ s → a ∷ r ≡ b ∷ s
    by e q = rw (e, q) refl
starts_same (Some d ∷ digits) k f g h = starts_same digits (suc k) f g (λ j a b. h j (omega arith) (omega arith))

starts_long : (states : List State) (k : ℕ) (s : State) → slice_get states k ≡ Some s → length (map (λ (s : State). s.start) (take k states)) ≡ k
starts_long [] k s e = absurd (let z : None ≡ Some s = e in cc)
starts_long (r ∷ states) zero s e = refl
starts_long (r ∷ states) (suc k) s e = ap suc (starts_long states k s e)

-- one state more
starts_more : (states : List State) (k : ℕ) (s : State) (f : ℕ → Bool) → slice_get states k ≡ Some s →
    start_bits (map (λ (s : State). s.start) (take (k + 1) states)) 0 f ≡ start_bits (map (λ (s : State). s.start) (take k states)) 0 f ++ start_bits (s.start ∷ []) 0 (λ _. f k)
starts_more states k s f e =
    ap (λ (ss : List State). start_bits (map (λ (s : State). s.start) ss) 0 f) (take_one_more states k s e)
    ∙ ap (λ (ds : List (Option Bool)). start_bits ds 0 f) (map-append (λ (s : State). s.start) (take k states) (s ∷ []))
    ∙ starts_push (map (λ (s : State). s.start) (take k states)) s.start 0 f
    ∙ ap (λ (i : ℕ). start_bits (map (λ (s : State). s.start) (take k states)) 0 f ++ start_bits (s.start ∷ []) 0 (λ _. f i)) (let z = starts_long states k s e in let y : 0 + length (map (λ (s : State). s.start) (take k states)) ≡ k = omega arith in y)

pub starts_on : (states : List State) (k : ℕ) (s : State) (f : ℕ → Bool) (b : Bool) (old new : Row) → slice_get states k ≡ Some s → old ≡ start_bits (map (λ (s : State). s.start) (take k states)) 0 f →
    new ≡ old ++ start_bits (s.start ∷ []) 0 (λ _. b) → b ≡ f k → new ≡ start_bits (map (λ (s : State). s.start) (take (k + 1) states)) 0 f
starts_on states k s f b old new at so_far put same =
    put ∙ ap (λ (xs : Row). xs ++ start_bits (s.start ∷ []) 0 (λ _. b)) so_far
    ∙ ap (λ (c : Bool). start_bits (map (λ (s : State). s.start) (take k states)) 0 f ++ start_bits (s.start ∷ []) 0 (λ _. c)) same ∙ sym (starts_more states k s f at)

-- ---- cycles

goals_told : (n : NetOf) (free : List Free) (x : Assignment) (t : ℕ) (ls : List LitOf) → rows_until x (goal_frames n free t ls) ≡ map (row_of n free x) (numbers t (goals_until x ls))
goals_told n free x t [] = refl
goals_told n free x t (l ∷ ls) = by (lit_in x l) refl (goals_told n free x (suc t) ls)
  where
    by : (b : Bool) → lit_in x l ≡ b → rows_until x (goal_frames n free (suc t) ls) ≡ map (row_of n free x) (numbers (suc t) (goals_until x ls))
        → rows_until x (goal_frames n free t (l ∷ ls)) ≡ map (row_of n free x) (numbers t (suc (cond b 0 (goals_until x ls))))
    by true high rest = next_row x (frame_of n free t l) (goal_frames n free (suc t) ls) true high ∙ row-and (frame_told n free x t l) refl
    by false low rest = next_row x (frame_of n free t l) (goal_frames n free (suc t) ls) false low ∙ row-and (frame_told n free x t l) rest

frames_told : (n : NetOf) (free : List Free) (x : Assignment) (early : ℕ) (ls : List LitOf) → rows_until x (early_frames n free early ++ goal_frames n free early ls) ≡ map (row_of n free x) (numbers 0 (cycles_until x early ls))
frames_told n free x zero ls = goals_told n free x 0 ls
frames_told n free x (suc k) ls = by (x 1) refl
  where
    by : (b : Bool) → x 1 ≡ b → rows_until x (early_frames n free (suc k) ++ goal_frames n free (suc k) ls) ≡ map (row_of n free x) (numbers 0 (cond b (suc k + goals_until x ls) 1))
    by true one =
        early_rows n free x one (numbers 0 (suc k)) (goal_frames n free (suc k) ls)
        ∙ ap (λ (rs : List Row). map (row_of n free x) (numbers 0 (suc k)) ++ rs) (goals_told n free x (suc k) ls)
        ∙ sym (map-append (row_of n free x) (numbers 0 (suc k)) (numbers (suc k) (goals_until x ls)))
        ∙ ap (map (row_of n free x)) (sym (numbers_append 0 (suc k) (goals_until x ls) ∙ ap (λ (j : ℕ). numbers 0 (suc k) ++ numbers j (goals_until x ls)) (let z : 0 + suc k ≡ suc k = omega arith in z)))
    by false none =
        next_row x (frame_of n free 0 (lit_of 1 false)) (map (λ t. frame_of n free t (lit_of 1 false)) (numbers 1 k) ++ goal_frames n free (suc k) ls) true (ap not none)
        ∙ row-and (frame_told n free x 0 (lit_of 1 false)) refl

pub choices_told : (n : NetOf) (c : Cycles) (e : EncodedOf) (x : Assignment) (states starts inputs : Row) → length states ≡ length n.states → TellStates x e.free states →
    starts ≡ start_bits (map (λ (s : State). s.start) n.states) 0 (λ k. slice_index_or states k false) →
    length inputs ≡ cycles_until x (max c.first c.end) e.goals * n.inputs → TellInputs x (2 + length n.states) n.inputs (cycles_until x (max c.first c.end) e.goals) e.free inputs →
    ◌≡◌ {A = ChoicesOf} (record { starts = starts; inputs = rows_of n.inputs (cycles_until x (max c.first c.end) e.goals) inputs }) (decoded_by (decoding_of n c e) x)
choices_told n c e x states starts inputs long tell is size rows =
    both
    (is ∙ starts_same (map (λ (s : State). s.start) n.states) 0 (λ k. slice_index_or states k false) (λ j. told_by x e.free 0 (state_var j))
    (λ j a b. (let z = length_states n.states in tell.each j (omega arith)))
    ∙ sym (starts_told x (map (λ (s : State). s.start) n.states) 0 e.free))
    (rows_are (λ t k. told_by x e.free t (input_var n k)) n.inputs (cycles_until x (max c.first c.end) e.goals) 0 inputs size
    (λ t k a b. rows.each t k a b ∙ ap (λ (s : ℕ). told_by x e.free s (input_var n k)) (let z : t ≡ 0 + t = omega arith in z))
    ∙ sym (frames_told n e.free x (max c.first c.end) e.goals))
  where
    length_states : (ss : List State) → length (map (λ (s : State). s.start) ss) ≡ length ss
    length_states [] = refl
    length_states (s ∷ ss) = ap suc (length_states ss)

    both : {a b : Row} {r s : List Row} → a ≡ b → r ≡ s → ◌≡◌ {A = ChoicesOf} (record { starts = a; inputs = r }) (record { starts = b; inputs = s })
    both p q = rw (p, q) refl

-- the same of lists as they are lent
pub choices_are : (n : NetOf) (c : Cycles) (e : EncodedOf) (x : Assignment) (states : List State) (free : List Free) (goals : List LitOf) (early count width : ℕ) (starts inputs bits lent : Row) (choices : ChoicesOf) →
    states ≡ n.states → free ≡ e.free → goals ≡ e.goals → early ≡ max c.first c.end → count ≡ cycles_until x early goals → width ≡ n.inputs → length bits ≡ length states → TellStates x free bits → lent ≡ bits →
    starts ≡ start_bits (map (λ (s : State). s.start) states) 0 (λ k. slice_index_or lent k false) → length inputs ≡ count * width → TellInputs x (2 + length states) width count free inputs →
    choices ≡ record { starts = starts; inputs = rows_of width count inputs } → choices ≡ decoded_by (decoding_of n c e) x
choices_are n c e x states free goals early count width starts inputs bits lent choices p q r early_is count_is width_is long tell same is size rows new =
    let all : ℕ = cycles_until x (max c.first c.end) e.goals in
    let many : count ≡ cycles_until x (max c.first c.end) e.goals = count_is ∙ ap (λ (k : ℕ). cycles_until x k goals) early_is ∙ ap (cycles_until x (max c.first c.end)) r in
    new ∙ ap (λ (w : ℕ). let ch : ChoicesOf = record { starts = starts; inputs = rows_of w count inputs } in ch) width_is
    ∙ ap (λ (k : ℕ). let ch : ChoicesOf = record { starts = starts; inputs = rows_of n.inputs k inputs } in ch) many
    ∙ choices_told n c e x bits starts inputs (long ∙ ap (λ (ss : List State). length ss) p) (subst (λ (fs : List Free). TellStates x fs bits) q tell)
    (is ∙ ap (λ (ss : List State). start_bits (map (λ (s : State). s.start) ss) 0 (λ k. slice_index_or lent k false)) p
    ∙ ap (λ (bs : Row). start_bits (map (λ (s : State). s.start) n.states) 0 (λ k. slice_index_or bs k false)) same)
    (size ∙ ap (λ (k : ℕ). k * width) many ∙ ap (λ (w : ℕ). cycles_until x (max c.first c.end) e.goals * w) width_is)
    (subst (λ (ss : List State). TellInputs x (2 + length ss) n.inputs (cycles_until x (max c.first c.end) e.goals) e.free inputs) p
    (subst (λ (w : ℕ). TellInputs x (2 + length states) w (cycles_until x (max c.first c.end) e.goals) e.free inputs) width_is
    (subst (λ (k : ℕ). TellInputs x (2 + length states) width k e.free inputs) many
    (subst (λ (fs : List Free). TellInputs x (2 + length states) width count fs inputs) q rows))))
