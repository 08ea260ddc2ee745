-- Choices between rows.
use Rattle.std.proofs.Common.{◌≡◌, ℕ, zero, suc, ◌+◌, ◌-◌, ◌*◌, ◌/◌, ◌^◌, ◌<◌, ◌≤◌, Bool, true, false, cond, List, [], ◌∷◌, length, take, drop, get_or, refl, sym, ◌∙◌, ap, subst, arith}
use Rattle.std.specs.Prelude.{All}
use Rattle.std.proofs.lemmas.List.{length-take-le, take-map, take_all, take-take, drop-take}
use Rattle.std.proofs.Math.ListN.{length-drop, drop_of_length-le}
use Rattle.std.proofs.Math.Seq.{drop-cons}
use Rattle.std.proofs.lemmas.Nat.{mul-le}
use Rattle.std.specs.List.{drop-map}
use Rattle.cnf_form.specs.Cnf.{LitOf, Assignment, LitWithin, lit_in}
use Rattle.gate_graph.specs.Circuit.{GatesOf}
use Rattle.gate_graph.specs.Laws.{keeps}
use Rattle.std.proofs.Math.Nat.{pow-suc}
use Rattle.std.proofs.Math.Numerals.{add-one}
use Rattle.sby_bits.specs.Rows.{Row, num}
use Rattle.sby_bits.proofs.Numbers.{num-lt}
use Rattle.sby_bits.specs.Words.{some_bit}
use Rattle.cell_table.specs.Cells.{bitwise, mux_fn, pmux_fn, bmux_fn, slice_number, lowest_set}
use Rattle.gate_words.specs.Words.{IsChosen, IsHalved}
use Rattle.gate_words.proofs.Folding.{some_here, some_more}
use Rattle.gate_rows.specs.Literals.{Builds, MeansRow, row_of}
use Rattle.gate_rows.proofs.Building.{Row-same, Builds-none, Builds-trans, length-row, length-bitwise, read}
use Rattle.gate_rows.proofs.Multiplying.{chosen}

pub length-mux : (r t : Row) (s : Bool) → length r ≡ length t → length (mux_fn r t s) ≡ length r
length-mux r t true e = sym e
length-mux r t false e = refl

pub mux_means : (g : GatesOf) (a b : List LitOf) (s : LitOf) (word : List LitOf) → length a ≡ length b → MeansRow g (λ x. bitwise (λ p q. cond (lit_in x s) q p) (row_of x a) (row_of x b)) word → MeansRow g (λ x. mux_fn (row_of x a) (row_of x b) (lit_in x s)) word
mux_means g a b s word e m =
    let long : (x : Assignment) → length (row_of x a) ≡ length (row_of x b) = λ x. length-row x a ∙ e ∙ sym (length-row x b) in
    record {
      as_many = λ x. m.as_many x ∙ length-bitwise (λ p q. cond (lit_in x s) q p) (row_of x a) (row_of x b) (long x) ∙ sym (length-mux (row_of x a) (row_of x b) (lit_in x s) (long x));
      within = m.within;
      means = λ x t. m.means x t ∙ chosen (lit_in x s) (row_of x a) (row_of x b) (long x);
    }

-- the literals of a slice have the slice of the row
pub row-slice : (x : Assignment) (i y : ℕ) (a : List LitOf) → row_of x (take y (drop i a)) ≡ take y (drop i (row_of x a))
row-slice x i y a = sym (take-map (lit_in x) y (drop i a)) ∙ ap (take y) (sym (drop-map (lit_in x) i a))

pub slice_row : (x : Assignment) (i y : ℕ) (a w : List LitOf) → w ≡ take y (drop i a) → row_of x w ≡ take y (drop i (row_of x a))
slice_row x i y a w e = ap (row_of x) e ∙ row-slice x i y a

pub drop_drop : {X : Type 0} (i j n : ℕ) (xs : List X) → n ≡ i + j → drop j (drop i xs) ≡ drop n xs
drop_drop zero j n xs e = ap (λ (m : ℕ). drop m xs) (omega arith)
drop_drop (suc i) j zero xs e = absurd (omega arith)
drop_drop (suc i) zero (suc n) [] e = refl
drop_drop (suc i) (suc j) (suc n) [] e = refl
drop_drop (suc i) j (suc n) (x ∷ xs) e = drop_drop i j n xs (omega arith)

-- one select more below the others
pub pmux_next : (w : ℕ) (a b s : Row) (t : Bool) → pmux_fn w a b (t ∷ s) ≡ mux_fn (pmux_fn w a (drop w b) s) (take w b) t
pmux_next w a b s true = ap (λ (c : Bool). cond c (take w (drop (w * 0) b)) a) (sym (some_here (num s))) ∙ ap (λ (i : ℕ). take w (drop i b)) {x = w * 0} {y = 0} (omega arith)
pmux_next w a b s false = ap (λ (c : Bool). cond c (take w (drop (w * suc (lowest_set s)) b)) a) (sym (some_more (num s)))
    ∙ ap (λ (r : Row). cond (some_bit s) (take w r) a) (sym (drop_drop w (w * lowest_set s) (w * suc (lowest_set s)) b (omega arith)))

pub length-pmux : (n : ℕ) (a b s : Row) → length b ≡ length a * length s → length (pmux_fn (length a) a b s) ≡ length a
length-pmux n a b [] e = refl
length-pmux n a b (t ∷ s) e =
    let more : length b ≡ length a * length s + length a = e ∙ omega arith in
    let rest : length (drop (length a) b) ≡ length a * length s = length-drop (length a) b ∙ omega arith in
    let old = length-pmux n a (drop (length a) b) s rest in
    ap length (pmux_next (length a) a b s t)
    ∙ length-mux (pmux_fn (length a) a (drop (length a) b) s) (take (length a) b) t (old ∙ sym (length-take-le (length a) b (omega arith))) ∙ old

pub Chosen-none : (g : GatesOf) (a b s word : List LitOf) (k : ℕ) → length s ≤ k → word ≡ a → All (LitWithin g.formula.vars) a → IsChosen g g a b s 0 k word
Chosen-none g a b s word k h e w = rw e (record {
  builds = Builds-none g (length a * 0);
  as_many = refl;
  within = w;
  means = λ x t. ap (pmux_fn (length a) (row_of x a) (drop (length a * k) (row_of x b))) (sym (drop_of_length-le (row_of x s) (let n = length-row x s in omega arith)));
})

pub Chosen-next : (f g h : GatesOf) (a b s : List LitOf) (step k from : ℕ) (word more : List LitOf) (select : LitOf) → IsChosen f g a b s step (k + 1) word → k < length s → select ≡ get_or s k select →
    from ≡ length a * k → length b ≡ length a * length s → Builds g h (length word) → MeansRow h (λ x. mux_fn (row_of x word) (take (length word) (drop from (row_of x b))) (lit_in x select)) more → IsChosen f h a b s (step + 1) k more
Chosen-next f g h a b s step k from word more select z lt e ef eb u m =
    let long = z.as_many in
    let room : length a * (k + 1) ≤ length a * length s = mul-le (length a) (k + 1) (length a) (length s) (omega arith) (omega arith) in
    let x : Assignment = λ _. false in
    let nb = length-row x b in
    let rest : length (drop from (row_of x b)) ≡ length (row_of x b) - from = length-drop from (row_of x b) in
    let part : length (take (length word) (drop from (row_of x b))) ≡ length word = length-take-le (length word) (drop from (row_of x b)) (omega arith) in
    record {
      builds = Builds-trans f g h (length a * step) (length word) (length a * (step + 1)) z.builds u (omega arith);
      as_many = m.as_many x ∙ length-mux (row_of x word) (take (length word) (drop from (row_of x b))) (lit_in x select) (length-row x word ∙ sym part) ∙ length-row x word ∙ long;
      within = m.within;
      means = λ x t.
          let old = z.means x (keeps g h u.continues x t) in
          let n = length-row x s in
          let first : drop k (row_of x s) ≡ lit_in x select ∷ drop (k + 1) (row_of x s) = drop-cons (row_of x s) k false (omega arith) ∙ ap (λ (b' : Bool). b' ∷ drop (suc k) (row_of x s)) (read x s k select lt e) ∙ ap (λ (i : ℕ). lit_in x select ∷ drop i (row_of x s)) {x = suc k} {y = k + 1} (omega arith) in
          m.means x t ∙ ap (λ (i : ℕ). mux_fn (row_of x word) (take i (drop from (row_of x b))) (lit_in x select)) long
          ∙ ap (λ (i : ℕ). mux_fn (row_of x word) (take (length a) (drop i (row_of x b))) (lit_in x select)) ef
          ∙ ap (λ (r : Row). mux_fn r (take (length a) (drop (length a * k) (row_of x b))) (lit_in x select)) (old ∙ ap (λ (r : Row). pmux_fn (length a) (row_of x a) r (drop (k + 1) (row_of x s))) (sym (drop_drop (length a * k) (length a) (length a * (k + 1)) (row_of x b) (omega arith))))
          ∙ sym (ap (pmux_fn (length a) (row_of x a) (drop (length a * k) (row_of x b))) first ∙ pmux_next (length a) (row_of x a) (drop (length a * k) (row_of x b)) (drop (k + 1) (row_of x s)) (lit_in x select));
    }

pub Chosen-all : (f g : GatesOf) (a b s word : List LitOf) (step k : ℕ) → IsChosen f g a b s step k word → k ≡ 0 → length b ≡ length a * length s → MeansRow g (λ x. pmux_fn (length a) (row_of x a) (row_of x b) (row_of x s)) word
Chosen-all f g a b s word step k z e eb = record {
  as_many = λ x. let n = length-row x a in z.as_many ∙ sym n ∙ sym (length-pmux 0 (row_of x a) (row_of x b) (row_of x s) (length-row x b ∙ eb ∙ ap (λ (i : ℕ). i * length s) (sym n) ∙ ap (λ (i : ℕ). length (row_of x a) * i) (sym (length-row x s))))
      ∙ ap (λ (i : ℕ). length (pmux_fn i (row_of x a) (row_of x b) (row_of x s))) n;
  within = z.within;
  means = λ x t. z.means x t ∙ ap (λ (i : ℕ). pmux_fn (length a) (row_of x a) (drop (length a * i) (row_of x b)) (drop i (row_of x s))) e ∙ ap (λ (i : ℕ). pmux_fn (length a) (row_of x a) (drop i (row_of x b)) (row_of x s)) {x = length a * 0} {y = 0} (omega arith);
}

-- ---- halves

half_low : (w n : ℕ) (a : Row) → take w (take (2 * w) (drop (2 * w * n) a)) ≡ take w (drop (w * (0 + 2 * n)) a)
half_low w n a = take-take w (2 * w) (drop (2 * w * n) a) (omega arith) ∙ ap (λ (i : ℕ). take w (drop i a)) {x = 2 * w * n} {y = w * (0 + 2 * n)} (omega arith)

half_high : (w n : ℕ) (a : Row) → drop w (take (2 * w) (drop (2 * w * n) a)) ≡ take w (drop (w * (1 + 2 * n)) a)
half_high w n a = ap (λ (i : ℕ). drop w (take i (drop (2 * w * n) a))) {x = 2 * w} {y = w + w} (omega arith) ∙ drop-take w w (drop (2 * w * n) a) ∙ ap (take w) (drop_drop (2 * w * n) w (w * (1 + 2 * n)) a (omega arith))

pub halves : (w n : ℕ) (a : Row) (t : Bool) → mux_fn (take w (slice_number (2 * w) a n)) (drop w (slice_number (2 * w) a n)) t ≡ slice_number w a (cond t 1 0 + 2 * n)
halves w n a true = half_high w n a
halves w n a false = half_low w n a

pub Halved-none : (g : GatesOf) (w : ℕ) (a s word : List LitOf) (k : ℕ) → k ≡ length s → word ≡ a → length a ≡ w * 2 ^ k → All (LitWithin g.formula.vars) a → IsHalved g g w a s k word
Halved-none g w a s word k h e n w' = rw e (record {
  made = 0;
  builds = Builds-none g 0;
  few = omega arith;
  as_many = n;
  within = w';
  means = λ x t.
      let none : drop k (row_of x s) ≡ [] = drop_of_length-le (row_of x s) (let m = length-row x s in omega arith) in
      let long = length-row x a in
      sym (take_all (w * 2 ^ k) (row_of x a) (omega arith)) ∙ ap (λ (i : ℕ). take (w * 2 ^ k) (drop i (row_of x a))) {x = 0} {y = w * 2 ^ k * 0} (omega arith) ∙ ap (λ (r : Row). slice_number (w * 2 ^ k) (row_of x a) (num r)) (sym none);
})

twice : (w k : ℕ) → w * 2 ^ (k + 1) ≡ 2 * (w * 2 ^ k)
twice w k = ap (λ (i : ℕ). w * 2 ^ i) (add-one k) ∙ ap (λ (i : ℕ). w * i) (pow-suc 2 k) ∙ omega arith

pub Halved-even : (f g : GatesOf) (w : ℕ) (a s word : List LitOf) (k : ℕ) → IsHalved f g w a s (k + 1) word → (length word ≡ 2 * (length word / 2)) × (length word / 2 ≡ w * 2 ^ k)
Halved-even f g w a s word k z = let e = z.as_many ∙ twice w k in (omega arith, omega arith)

pub Halved-next : (f g h : GatesOf) (w : ℕ) (a s word more : List LitOf) (k : ℕ) (select : LitOf) → IsHalved f g w a s (k + 1) word → k < length s → select ≡ get_or s k select →
    Builds g h (length word / 2) → MeansRow h (λ x. mux_fn (take (length word / 2) (row_of x word)) (drop (length word / 2) (row_of x word)) (lit_in x select)) more → IsHalved f h w a s k more
Halved-next f g h w a s word more k select z lt e u m =
    let (even, half) = Halved-even f g w a s word k z in
    let x : Assignment = λ _. false in
    let nw = length-row x word in
    let low : length (take (length word / 2) (row_of x word)) ≡ length word / 2 = length-take-le (length word / 2) (row_of x word) (omega arith) in
    let high : length (drop (length word / 2) (row_of x word)) ≡ length (row_of x word) - length word / 2 = length-drop (length word / 2) (row_of x word) in
    let long : length more ≡ length word / 2 = m.as_many x ∙ length-mux (take (length word / 2) (row_of x word)) (drop (length word / 2) (row_of x word)) (lit_in x select) (omega arith) ∙ low in
    record {
      made = z.made + length word / 2;
      builds = Builds-trans f g h z.made (length word / 2) (z.made + length word / 2) z.builds u (omega arith);
      few = let q = z.few in omega arith;
      as_many = long ∙ half;
      within = m.within;
      means = λ x t.
          let old = z.means x (keeps g h u.continues x t) ∙ ap (λ (i : ℕ). slice_number i (row_of x a) (num (drop (k + 1) (row_of x s)))) (twice w k) in
          let n = length-row x s in
          let first : drop k (row_of x s) ≡ lit_in x select ∷ drop (k + 1) (row_of x s) = drop-cons (row_of x s) k false (omega arith) ∙ ap (λ (b' : Bool). b' ∷ drop (suc k) (row_of x s)) (read x s k select lt e) ∙ ap (λ (i : ℕ). lit_in x select ∷ drop i (row_of x s)) {x = suc k} {y = k + 1} (omega arith) in
          m.means x t ∙ ap (λ (i : ℕ). mux_fn (take i (row_of x word)) (drop i (row_of x word)) (lit_in x select)) half
          ∙ ap (λ (r : Row). mux_fn (take (w * 2 ^ k) r) (drop (w * 2 ^ k) r) (lit_in x select)) old
          ∙ halves (w * 2 ^ k) (num (drop (k + 1) (row_of x s))) (row_of x a) (lit_in x select)
          ∙ ap (λ (r : Row). slice_number (w * 2 ^ k) (row_of x a) (num r)) (sym first);
    }

-- a slice of a number of places is as long as it says
fits_slice : (w p n : ℕ) → n < p → w * n + w ≤ w * p
fits_slice w p n h = let q : w * (n + 1) ≤ w * p = mul-le w (n + 1) w p (omega arith) (omega arith) in omega arith

pub Halved-all : (f g : GatesOf) (w : ℕ) (a s word : List LitOf) (k : ℕ) → IsHalved f g w a s k word → k ≡ 0 → length a ≡ w * 2 ^ length s → MeansRow g (λ x. bmux_fn w (row_of x a) (row_of x s)) word
Halved-all f g w a s word k z e n = record {
  as_many = λ x.
      let small : num (row_of x s) < 2 ^ length s = subst (λ (i : ℕ). num (row_of x s) < 2 ^ i) (length-row x s) (num-lt (row_of x s)) in
      let fits = fits_slice w (2 ^ length s) (num (row_of x s)) small in
      let long = length-row x a in
      let rest : length (drop (w * num (row_of x s)) (row_of x a)) ≡ length (row_of x a) - w * num (row_of x s) = length-drop (w * num (row_of x s)) (row_of x a) in
      z.as_many ∙ ap (λ (i : ℕ). w * 2 ^ i) e ∙ omega arith ∙ sym (length-take-le w (drop (w * num (row_of x s)) (row_of x a)) (omega arith));
  within = z.within;
  means = λ x t. z.means x t ∙ ap (λ (i : ℕ). slice_number (w * 2 ^ i) (row_of x a) (num (drop i (row_of x s)))) e ∙ ap (λ (i : ℕ). slice_number i (row_of x a) (num (row_of x s))) {x = w * 2 ^ 0} {y = w} (omega arith);
}

pub chosen_means : (g : GatesOf) (a b word : List LitOf) (from i : ℕ) (select : LitOf) → i ≡ length a → MeansRow g (λ x. mux_fn (row_of x a) (row_of x (take i (drop from b))) (lit_in x select)) word →
    MeansRow g (λ x. mux_fn (row_of x a) (take (length a) (drop from (row_of x b))) (lit_in x select)) word
chosen_means g a b word from i select e m =
    let same : (x : Assignment) → mux_fn (row_of x a) (row_of x (take i (drop from b))) (lit_in x select) ≡ mux_fn (row_of x a) (take (length a) (drop from (row_of x b))) (lit_in x select) =
    λ x. ap (λ (r : Row). mux_fn (row_of x a) r (lit_in x select)) (row-slice x from i b ∙ ap (λ (j : ℕ). take j (drop from (row_of x b))) e) in
    Row-same g _ _ word m (λ x. ap length (same x)) (λ x t. same x)

pub half_means : (g : GatesOf) (a low high word : List LitOf) (n : ℕ) (select : LitOf) → low ≡ take n a → high ≡ drop n a → MeansRow g (λ x. mux_fn (row_of x low) (row_of x high) (lit_in x select)) word →
    MeansRow g (λ x. mux_fn (take n (row_of x a)) (drop n (row_of x a)) (lit_in x select)) word
half_means g a low high word n select e f m =
    let same : (x : Assignment) → mux_fn (row_of x low) (row_of x high) (lit_in x select) ≡ mux_fn (take n (row_of x a)) (drop n (row_of x a)) (lit_in x select) =
    λ x. ap (λ (r : Row). mux_fn r (row_of x high) (lit_in x select)) (ap (row_of x) e ∙ sym (take-map (lit_in x) n a)) ∙ ap (λ (r : Row). mux_fn (take n (row_of x a)) r (lit_in x select)) (ap (row_of x) f ∙ sym (drop-map (lit_in x) n a)) in
    Row-same g _ _ word m (λ x. ap length (same x)) (λ x t. same x)

pub place_below : (w j k from : ℕ) → from ≡ w * j → j ≡ k + 1 → from - w ≡ w * k
place_below w j k from e f = let q : w * j ≡ w * (k + 1) = ap (λ (i : ℕ). w * i) f in omega arith

pub at_place : (s : List LitOf) (i j : ℕ) (l : LitOf) → i ≡ j → l ≡ get_or s i l → l ≡ get_or s j l
at_place s i j l e h = subst (λ (k : ℕ). l ≡ get_or s k l) e h
