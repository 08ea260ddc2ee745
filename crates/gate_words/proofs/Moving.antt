-- Rows that are moved by the number of another row.
use Rattle.std.proofs.Common.{◌≡◌, ℕ, zero, suc, ◌+◌, ◌-◌, ◌*◌, ◌/◌, ◌%◌, ◌^◌, ◌<◌, ◌≤◌, Bool, true, false, cond, not, eqb, ◌&&◌, List, [], ◌∷◌, length, take, drop, map, get_or, refl, sym, ◌∙◌, ap, inl, inr, add_comm, arith}
use Rattle.std.specs.Prelude.{All, ℤ, pos, ◌-ℤ◌, ◌*ℤ◌}
use Rattle.std.specs.Int.{int_div_euclid}
use Rattle.std.specs.List.{drop-map}
use Rattle.std.proofs.lemmas.Bool.{cases_lt}
use Rattle.std.proofs.lemmas.Bool.Decides.{nat_tests}
use Rattle.std.proofs.lemmas.List.{get_or_default, get_or_past, take-append-drop, length-take-le}
use Rattle.std.proofs.Math.ListN.{drop_of_length-le}
use Rattle.std.proofs.Math.Nat.{pow-suc}
use Rattle.std.proofs.lemmas.Nat.{pow-add, pow_pos, mul-le}
use Rattle.cnf_form.specs.Cnf.{LitOf, Assignment, LitWithin, lit_in}
use Rattle.gate_graph.specs.Circuit.{GatesOf, Continues, Means}
use Rattle.gate_graph.specs.Laws.{keeps}
use Rattle.sby_bits.specs.Rows.{Row, num, snum, top_bit, fit, value, low_bits}
use Rattle.sby_bits.specs.Words.{filled_number, some_bit, moved_number}
use Rattle.sby_bits.proofs.Numbers.{length-fit, fit-at, filled-at, down-at, whole, copied_down, num-take, top_bit-at, extended}
use Rattle.sby_bits.proofs.Moves.{num-append, up_saturated, down_saturated, snum_ones}
use Rattle.sby_bits.proofs.Residues.{fit-residue}
use Rattle.sby_bits.proofs.RowLaws.{num-fit, row_again, extended_longer, extended_bits}
use Rattle.cell_table.specs.Cells.{mux_fn, left_shift_fn, right_shift_fn, sign_shift_fn, any_shift_fn}
use Rattle.gate_rows.specs.Literals.{Builds, MeansRow, MeansBit, row_of}
use Rattle.gate_rows.proofs.Building.{Builds-none, Builds-trans, length-row, read, fit_long}
use Rattle.gate_words.specs.declared.shifts.Way.{Way}
use Rattle.gate_words.specs.declared.shifts.Way.TheVariants.{Up, Down}
use Rattle.gate_words.specs.Words.{moved_row, IsMoved, square}
use Rattle.cell_rows.proofs.Cuts.{one_row, Near-mul, Near-fit, Near-pos, again_fit}
use Rattle.gate_words.proofs.Choosing.{length-mux}

pub length-moved : (w : Way) (x : Assignment) (r : Row) (q : ℕ) → length (moved_row w x r q) ≡ length r
length-moved Up x r q = length-fit (length r) (pos (num r * 2 ^ q))
length-moved (Down fill) x r q = length-fit (length r) (int_div_euclid (filled_number r (lit_in x fill)) (pos (2 ^ q)))

-- a number that was cut before it is multiplied
pub times_cut : (y : ℕ) (z : ℤ) (m : ℕ) → fit y (pos (num (fit y z) * m)) ≡ fit y (z *ℤ pos m)
times_cut y z m = one_row y (pos (num (fit y z) * m)) (z *ℤ pos m) (num (fit y z) * m) (Near-pos (2 ^ y) (num (fit y z) * m)) (Near-mul (2 ^ y) z (pos m) (num (fit y z)) m (Near-fit y z) (Near-pos (2 ^ y) m))

-- a number that was cut to a larger width before
pub cut_again : (y n : ℕ) (z : ℤ) → y ≤ n → fit y (pos (num (fit n z))) ≡ fit y z
cut_again y n z h = ap (λ (m : ℕ). fit y (pos m)) (num-fit n z) ∙ fit-residue y n z h

down_at : (r : Row) (f : Bool) (q k : ℕ) → k < length r → get_or (fit (length r) (int_div_euclid (filled_number r f) (pos (2 ^ q)))) k false ≡ get_or r (k + q) f
down_at r f q k h = fit-at (length r) (int_div_euclid (filled_number r f) (pos (2 ^ q))) k h ∙ down-at (filled_number r f) q k ∙ sym (filled-at r f (q + k)) ∙ ap (λ (i : ℕ). get_or r i f) (add_comm q k)

-- with the fill past the end
down_filled : (r : Row) (f : Bool) (q k : ℕ) → get_or (fit (length r) (int_div_euclid (filled_number r f) (pos (2 ^ q)))) k f ≡ get_or r (k + q) f
down_filled r f q k =
    let n : length (fit (length r) (int_div_euclid (filled_number r f) (pos (2 ^ q)))) ≡ length r = length-fit (length r) (int_div_euclid (filled_number r f) (pos (2 ^ q))) in
    elim (cases_lt k (length r)) as (λ _. get_or (fit (length r) (int_div_euclid (filled_number r f) (pos (2 ^ q)))) k f ≡ get_or r (k + q) f) [
      | inl h ↦ get_or_default (fit (length r) (int_div_euclid (filled_number r f) (pos (2 ^ q)))) k f false (omega arith) ∙ down_at r f q k h
      | inr h ↦ get_or_past (fit (length r) (int_div_euclid (filled_number r f) (pos (2 ^ q)))) k f (omega arith) ∙ sym (get_or_past r (k + q) f (omega arith))
    ]

pub moved-none : (w : Way) (x : Assignment) (r : Row) → moved_row w x r 0 ≡ r
moved-none Up x r = ap (λ (n : ℕ). fit (length r) (pos n)) {x = num r * 2 ^ 0} {y = num r} (omega arith) ∙ row_again r
moved-none (Down fill) x r = sym (copied_down r r (length r) 0 (lit_in x fill) refl (λ k h. get_or_default r k false (lit_in x fill) h ∙ ap (λ (i : ℕ). get_or r i (lit_in x fill)) {x = k} {y = k + 0} (omega arith)))

pub moved-add : (w : Way) (x : Assignment) (r : Row) (p q : ℕ) → moved_row w x (moved_row w x r p) q ≡ moved_row w x r (p + q)
moved-add Up x r p q =
    ap (λ (n : ℕ). fit n (pos (num (fit (length r) (pos (num r * 2 ^ p))) * 2 ^ q))) (length-fit (length r) (pos (num r * 2 ^ p)))
    ∙ times_cut (length r) (pos (num r * 2 ^ p)) (2 ^ q) ∙ ap (λ (n : ℕ). fit (length r) (pos n)) {x = num r * 2 ^ p * 2 ^ q} {y = num r * 2 ^ (p + q)} (let e = pow-add 2 p q in rw e (omega arith))
moved-add (Down fill) x r p q =
    let f = lit_in x fill in
    let n = length-moved (Down fill) x r p in
    copied_down (moved_row (Down fill) x (moved_row (Down fill) x r p) q) r (length r) (p + q) f (length-moved (Down fill) x (moved_row (Down fill) x r p) q ∙ n)
    (λ k h. down_at (moved_row (Down fill) x r p) f q k (omega arith) ∙ down_filled r f p (k + q) ∙ ap (λ (i : ℕ). get_or r i f) {x = k + q + p} {y = k + (p + q)} (omega arith))

pub moved-past : (w : Way) (x : Assignment) (r : Row) (q : ℕ) → length r ≤ q → moved_row w x r (length r) ≡ moved_row w x r q
moved-past Up x r q h = up_saturated (length r) (num r) q (length r) (length r) (omega arith) (omega arith)
moved-past (Down fill) x r q h = down_saturated r (lit_in x fill) (length r) q (length r) (length r) (omega arith) (omega arith)

-- by one bit
pub stage_means : (g h : GatesOf) (w : Way) (a other word : List LitOf) (places : ℕ) (bit : LitOf) → Continues g h → MeansRow g (λ x. moved_row w x (row_of x a) places) other → MeansRow h (λ x. mux_fn (row_of x a) (row_of x other) (lit_in x bit)) word →
    MeansRow h (λ x. mux_fn (row_of x a) (moved_row w x (row_of x a) places) (lit_in x bit)) word
stage_means g h w a other word places bit k m r = record {
  as_many = λ x. r.as_many x ∙ length-mux (row_of x a) (row_of x other) (lit_in x bit) (sym (length-row x other ∙ m.as_many x ∙ length-moved w x (row_of x a) places))
      ∙ sym (length-mux (row_of x a) (moved_row w x (row_of x a) places) (lit_in x bit) (sym (length-moved w x (row_of x a) places)));
  within = r.within;
  means = λ x s. r.means x s ∙ ap (λ (q : Row). mux_fn (row_of x a) q (lit_in x bit)) (m.means x (keeps g h k x s));
}

pub moved_many : (g : GatesOf) (w : Way) (a other : List LitOf) (F : Assignment → ℕ) → MeansRow g (λ x. moved_row w x (row_of x a) (F x)) other → length other ≡ length a
moved_many g w a other F m = let x : Assignment = λ _. false in m.as_many x ∙ length-moved w x (row_of x a) (F x) ∙ length-row x a

pub Moved-none : (g : GatesOf) (w : Way) (a by word : List LitOf) → word ≡ a → All (LitWithin g.formula.vars) a → IsMoved g g w a by 0 word
Moved-none g w a by word e h = rw e (record {
  builds = Builds-none g (length a * 0);
  as_many = refl;
  within = h;
  means = λ x s. sym (moved-none w x (row_of x a));
})

bit_more : (w : Way) (x : Assignment) (r : Row) (p q : ℕ) (b : Bool) → mux_fn (moved_row w x r p) (moved_row w x (moved_row w x r p) q) b ≡ moved_row w x r (p + cond b q 0)
bit_more w x r p q true = moved-add w x r p q
bit_more w x r p q false = ap (moved_row w x r) {x = p} {y = p + 0} (omega arith)

pub Moved-next : (f g h : GatesOf) (w : Way) (a by word more : List LitOf) (k places : ℕ) (bit : LitOf) → IsMoved f g w a by k word → k < length by → bit ≡ get_or by k bit → places ≡ 2 ^ k → Builds g h (length word) →
    MeansRow h (λ x. mux_fn (row_of x word) (moved_row w x (row_of x word) places) (lit_in x bit)) more → IsMoved f h w a by (k + 1) more
Moved-next f g h w a by word more k places bit z lt e ep u m =
    let n = z.as_many in
    record {
      builds = Builds-trans f g h (length a * k) (length word) (length a * (k + 1)) z.builds u (omega arith);
      as_many = let x : Assignment = λ _. false in m.as_many x ∙ length-mux (row_of x word) (moved_row w x (row_of x word) places) (lit_in x bit) (sym (length-moved w x (row_of x word) places)) ∙ length-row x word ∙ n;
      within = m.within;
      means = λ x s.
          let old = z.means x (keeps g h u.continues x s) in
          let long = length-row x by in
          m.means x s ∙ ap (λ (i : ℕ). mux_fn (row_of x word) (moved_row w x (row_of x word) i) (lit_in x bit)) ep
          ∙ ap (λ (r : Row). mux_fn r (moved_row w x r (2 ^ k)) (lit_in x bit)) old
          ∙ bit_more w x (row_of x a) (num (take k (row_of x by))) (2 ^ k) (lit_in x bit)
          ∙ ap (moved_row w x (row_of x a)) (sym (num-take (row_of x by) k (omega arith) ∙ ap (λ (b : Bool). num (take k (row_of x by)) + cond b (2 ^ k) 0) (read x by k bit lt e)));
    }

pub Moved-all : (f g : GatesOf) (w : Way) (a by word : List LitOf) (k m : ℕ) → IsMoved f g w a by k word → k ≡ m → MeansRow g (λ x. moved_row w x (row_of x a) (num (take m (row_of x by)))) word
Moved-all f g w a by word k m z e = record {
  as_many = λ x. z.as_many ∙ sym (length-moved w x (row_of x a) (num (take m (row_of x by))) ∙ length-row x a);
  within = z.within;
  means = λ x s. z.means x s ∙ ap (λ (i : ℕ). moved_row w x (row_of x a) (num (take i (row_of x by)))) e;
}

-- the bits of a number from a place on
pub num-split : (r : Row) (m : ℕ) → m ≤ length r → num r ≡ num (take m r) + 2 ^ m * num (drop m r)
num-split r m h = ap num (sym (take-append-drop m r)) ∙ num-append (take m r) (drop m r) ∙ ap (λ (n : ℕ). num (take m r) + 2 ^ n * num (drop m r)) (length-take-le m r h)

some_is_more : (n : ℕ) → not (eqb n 0) ≡ true → 1 ≤ n
some_is_more n e = grind (arith, nat_tests)

none_is_zero : (n : ℕ) → not (eqb n 0) ≡ false → n ≡ 0
none_is_zero n e = grind (arith, nat_tests)

-- the low bits, where none above is set, else past the end
pub past_row : (w : Way) (x : Assignment) (r by : Row) (m : ℕ) → m ≤ length by → (m < length by → length r ≤ 2 ^ m) → (b : Bool) → some_bit (drop m by) ≡ b →
    mux_fn (moved_row w x r (num (take m by))) (moved_row w x r (length r)) b ≡ moved_row w x r (num by)
past_row w x r by m h enough false e =
    let z = none_is_zero (num (drop m by)) e in
    ap (moved_row w x r) (sym (num-split by m h ∙ ap (λ (n : ℕ). num (take m by) + 2 ^ m * n) z ∙ omega arith))
past_row w x r by m h enough true e =
    let z : 1 ≤ num (drop m by) = some_is_more (num (drop m by)) e in
    let more : m < length by = elim (cases_lt m (length by)) as (λ _. m < length by) [ inl p ↦ p | inr p ↦ absurd (let n = ap num (drop_of_length-le by {i = m} p) in omega arith) ] in
    let big : 2 ^ m * 1 ≤ 2 ^ m * num (drop m by) = mul-le (2 ^ m) 1 (2 ^ m) (num (drop m by)) (omega arith) z in
    let all = num-split by m h in
    let far = enough more in
    moved-past w x r (num by) (omega arith)

pub by_means : (f g h : GatesOf) (w : Way) (a by low none word : List LitOf) (m : ℕ) (past : LitOf) → Continues f h → Continues g h → m ≤ length by → (m < length by → length a ≤ 2 ^ m) →
    MeansRow f (λ x. moved_row w x (row_of x a) (num (take m (row_of x by)))) low → MeansBit g (λ x. some_bit (row_of x (drop m by))) past → MeansRow g (λ x. moved_row w x (row_of x a) (length a)) none →
    MeansRow h (λ x. mux_fn (row_of x low) (row_of x none) (lit_in x past)) word → MeansRow h (λ x. moved_row w x (row_of x a) (num (row_of x by))) word
by_means f g h w a by low none word m past j k le enough p q z r = record {
  as_many = λ x.
      let nl = length-row x low ∙ p.as_many x ∙ length-moved w x (row_of x a) (num (take m (row_of x by))) in
      let nn = length-row x none ∙ z.as_many x ∙ length-moved w x (row_of x a) (length a) in
      r.as_many x ∙ length-mux (row_of x low) (row_of x none) (lit_in x past) (nl ∙ sym nn) ∙ nl ∙ sym (length-moved w x (row_of x a) (num (row_of x by)));
  within = r.within;
  means = λ x s.
      let na = length-row x a in
      let nb = length-row x by in
      r.means x s ∙ ap (λ (t : Row). mux_fn t (row_of x none) (lit_in x past)) (p.means x (keeps f h j x s)) ∙ ap (λ (t : Row). mux_fn (moved_row w x (row_of x a) (num (take m (row_of x by)))) t (lit_in x past)) (z.means x (keeps g h k x s) ∙ ap (moved_row w x (row_of x a)) (sym na))
      ∙ past_row w x (row_of x a) (row_of x by) m (omega arith) (λ i. let e = enough (omega arith) in omega arith) (lit_in x past) (sym (q.means x (keeps g h k x s) ∙ ap some_bit (sym (drop-map (lit_in x) m by))));
}

-- ---- the cells

pub wide_means : (g h : GatesOf) (w : Way) (n y : ℕ) (F : Assignment → ℤ) (b wide moved word : List LitOf) → Continues g h → MeansRow g (λ x. fit n (F x)) wide → MeansRow h (λ x. moved_row w x (row_of x wide) (num (row_of x b))) moved →
    MeansRow h (λ x. fit y (value false (row_of x moved))) word → MeansRow h (λ x. fit y (pos (num (moved_row w x (fit n (F x)) (num (row_of x b)))))) word
wide_means g h w n y F b wide moved word k p q r = record {
  as_many = λ x. r.as_many x ∙ length-fit y (value false (row_of x moved)) ∙ sym (length-fit y (pos (num (moved_row w x (fit n (F x)) (num (row_of x b))))));
  within = r.within;
  means = λ x s. r.means x s ∙ ap (λ (t : Row). fit y (pos (num t))) (q.means x s ∙ ap (λ (t : Row). moved_row w x t (num (row_of x b))) (p.means x (keeps g h k x s)));
}

pub left_row : (x : Assignment) (y : ℕ) (z : ℤ) (q : ℕ) → fit y (pos (num (moved_row Up x (fit y z) q))) ≡ left_shift_fn y z q
left_row x y z q = ap (λ (n : ℕ). fit y (pos (num (fit n (pos (num (fit y z) * 2 ^ q)))))) (length-fit y z) ∙ again_fit y (pos (num (fit y z) * 2 ^ q)) ∙ times_cut y z (2 ^ q)

pub right_row : (x : Assignment) (y n : ℕ) (z : ℤ) (q : ℕ) (fill : LitOf) → y ≤ n → lit_in x fill ≡ false → fit y (pos (num (moved_row (Down fill) x (fit n z) q))) ≡ right_shift_fn y n z q
right_row x y n z q fill h e = ap (λ (i : ℕ). fit y (pos (num (fit i (int_div_euclid (filled_number (fit n z) (lit_in x fill)) (pos (2 ^ q))))))) (length-fit n z)
    ∙ cut_again y n (int_div_euclid (filled_number (fit n z) (lit_in x fill)) (pos (2 ^ q))) h ∙ ap (λ (f : Bool). fit y (int_div_euclid (filled_number (fit n z) f) (pos (2 ^ q)))) e

top_zeros : (n : ℕ) → top_bit (low_bits n 0) ≡ false
top_zeros zero = refl
top_zeros (suc zero) = refl
top_zeros (suc (suc n)) = top_zeros (suc n)

top_there : (r : Row) (i : ℕ) → length r ≤ i + 1 → 1 ≤ length r → get_or r i (top_bit r) ≡ top_bit r
top_there r i h l = elim (cases_lt i (length r)) as (λ _. get_or r i (top_bit r) ≡ top_bit r) [
  | inl p ↦ get_or_default r i (top_bit r) false p ∙ ap (λ (k : ℕ). get_or r k false) {x = i} {y = length r - 1} (omega arith) ∙ sym (top_bit-at r)
  | inr p ↦ get_or_past r i (top_bit r) p
]

same_top : (r : Row) (n : ℕ) → length r ≤ n → top_bit (fit n (snum r)) ≡ top_bit r
same_top [] n h = ap (λ (i : ℕ). top_bit (low_bits n i)) {x = 0 % 2 ^ n} {y = 0} (omega (arith, pow_pos n)) ∙ top_zeros n
same_top (b ∷ r) n h =
    let e : length (fit n (snum (b ∷ r))) ≡ n = length-fit n (snum (b ∷ r)) in
    top_bit-at (fit n (snum (b ∷ r))) ∙ ap (λ (i : ℕ). get_or (fit n (snum (b ∷ r))) (i - 1) false) e ∙ extended_bits (b ∷ r) true n (n - 1) (omega arith) ∙ top_there (b ∷ r) (n - 1) (omega arith) (omega arith)

top_kept : (r : Row) (signed : Bool) (n : ℕ) → length r ≤ n → (signed && top_bit (fit n (value signed r))) ≡ (signed && top_bit r)
top_kept r true n h = same_top r n h
top_kept r false n h = refl

pub filled_is : (r : Row) (signed f : Bool) (n : ℕ) → length r ≤ n → f ≡ (signed && top_bit r) → filled_number (fit n (value signed r)) f ≡ value signed r
filled_is r signed f n h e =
    sym (whole (filled_number (fit n (value signed r)) f)) ∙ extended (fit n (value signed r)) signed f (e ∙ sym (top_kept r signed n h)) ∙ extended_longer r signed n h

pub sign_row : (x : Assignment) (y n : ℕ) (r : Row) (signed : Bool) (q : ℕ) (fill : LitOf) → y ≤ n → length r ≤ n → lit_in x fill ≡ (signed && top_bit r) → fit y (pos (num (moved_row (Down fill) x (fit n (value signed r)) q))) ≡ sign_shift_fn y (value signed r) q
sign_row x y n r signed q fill h l e = ap (λ (i : ℕ). fit y (pos (num (fit i (int_div_euclid (filled_number (fit n (value signed r)) (lit_in x fill)) (pos (2 ^ q))))))) (length-fit n (value signed r))
    ∙ cut_again y n (int_div_euclid (filled_number (fit n (value signed r)) (lit_in x fill)) (pos (2 ^ q))) h ∙ ap (λ (z : ℤ). fit y (int_div_euclid z (pos (2 ^ q)))) (filled_is r signed (lit_in x fill) n l e)

-- moved by a number with a sign
pub signed_row : (x : Assignment) (n : ℕ) (r by once : Row) (fill : LitOf) (s : Bool) → n ≡ length r → lit_in x fill ≡ false → s ≡ top_bit by → once ≡ fit n (pos (num r * 2 ^ 1)) →
    mux_fn (moved_row (Down fill) x r (num by)) (moved_row Up x once (num (map not by))) s ≡ fit n (pos (moved_number (num r) (snum by)))
signed_row x n r by once fill false en e es eo =
    ap (λ (f : Bool). fit (length r) (int_div_euclid (filled_number r f) (pos (2 ^ num by)))) e ∙ ap (λ (i : ℕ). fit i (pos (num r / 2 ^ num by))) (sym en)
    ∙ ap (λ (b : Bool). fit n (pos (moved_number (num r) (cond b (pos (num by) -ℤ pos (2 ^ length by)) (pos (num by)))))) es
signed_row x n r by once fill true en e es eo =
    let j = num (map not by) in
    ap (λ (t : Row). moved_row Up x t j) eo ∙ ap (λ (i : ℕ). fit i (pos (num (fit n (pos (num r * 2 ^ 1))) * 2 ^ j))) (length-fit n (pos (num r * 2 ^ 1)))
    ∙ times_cut n (pos (num r * 2 ^ 1)) (2 ^ j) ∙ ap (λ (i : ℕ). fit n (pos i)) {x = num r * 2 ^ 1 * 2 ^ j} {y = num r * 2 ^ suc j} (let p : num r * 2 ^ suc j ≡ num r * (2 ^ j * 2) = ap (λ (t : ℕ). num r * t) (pow-suc 2 j) in omega arith)
    ∙ ap (λ (z : ℤ). fit n (pos (moved_number (num r) z))) (sym (snum_ones by (sym es)))

pub signed_means : (e f g h : GatesOf) (a b turned once up down word : List LitOf) (fill sign : LitOf) → Continues e f → Continues f g → Continues g h → Means e fill (λ _. false) → Means e sign (λ x. top_bit (row_of x b)) →
    MeansRow e (λ x. map not (row_of x b)) turned → MeansRow e (λ x. fit (length a) (pos (num (row_of x a) * 2 ^ 1))) once →
    MeansRow f (λ x. moved_row Up x (row_of x once) (num (row_of x turned))) up → MeansRow g (λ x. moved_row (Down fill) x (row_of x a) (num (row_of x b))) down → MeansRow h (λ x. mux_fn (row_of x down) (row_of x up) (lit_in x sign)) word →
    MeansRow h (λ x. fit (length a) (pos (moved_number (num (row_of x a)) (snum (row_of x b))))) word
signed_means e f g h a b turned once up down word fill sign j k l ef es et eo eu ed r = record {
  as_many = λ x.
      let nd = length-row x down ∙ ed.as_many x ∙ length-moved (Down fill) x (row_of x a) (num (row_of x b)) ∙ length-row x a in
      let nu = length-row x up ∙ eu.as_many x ∙ length-moved Up x (row_of x once) (num (row_of x turned)) ∙ length-row x once ∙ eo.as_many x ∙ length-fit (length a) (pos (num (row_of x a) * 2 ^ 1)) in
      r.as_many x ∙ length-mux (row_of x down) (row_of x up) (lit_in x sign) (nd ∙ sym nu) ∙ nd ∙ sym (length-fit (length a) (pos (moved_number (num (row_of x a)) (snum (row_of x b)))));
  within = r.within;
  means = λ x s.
      let sg = keeps g h l x s in
      let sf = keeps f g k x sg in
      let se = keeps e f j x sf in
      r.means x s ∙ ap (λ (t : Row). mux_fn t (row_of x up) (lit_in x sign)) (ed.means x sg) ∙ ap (λ (t : Row). mux_fn (moved_row (Down fill) x (row_of x a) (num (row_of x b))) t (lit_in x sign)) (eu.means x sf ∙ ap (λ (t : Row). moved_row Up x (row_of x once) (num t)) (et.means x se))
      ∙ signed_row x (length a) (row_of x a) (row_of x b) (row_of x once) fill (lit_in x sign) (sym (length-row x a)) (ef x se) (es x se) (eo.means x se);
}

pub any_row : (y n : ℕ) (z by : ℤ) → y ≤ n → fit y (pos (num (fit n (pos (moved_number (num (fit n z)) by))))) ≡ any_shift_fn y n z by
any_row y n z by h = cut_again y n (pos (moved_number (num (fit n z)) by)) h

-- this many gates
pub total_few : (l b m w d : ℕ) → m ≤ b → w ≡ l → d ≡ b - m → l * m + d + w ≤ l * b + b + l
total_few l b m w d h e f = let p : l * m ≤ l * b = mul-le l m l b (omega arith) h in omega arith

pub shift_few : (l b w : ℕ) → l ≤ w → b ≤ w → l * b + b + l ≤ square w
shift_few l b w h k = let p : l * b ≤ w * w = mul-le l b w w h k in let q : w ≤ w * w = more w in omega arith
  where
    more : (w : ℕ) → w ≤ w * w
    more zero = omega arith
    more (suc w) = omega arith

pub twice_few : (l b w : ℕ) → l ≤ w → b ≤ w → 2 * (l * b + b + l) + l ≤ square w
twice_few l b w h k = let p : l * b ≤ w * w = mul-le l b w w h k in let q : w ≤ w * w = more w in omega arith
  where
    more : (w : ℕ) → w ≤ w * w
    more zero = omega arith
    more (suc w) = omega arith

pub plain_means : (g h : GatesOf) (a b word : List LitOf) (fill : LitOf) → Continues g h → Means g fill (λ _. false) → MeansRow h (λ x. moved_row (Down fill) x (row_of x a) (num (row_of x b))) word →
    MeansRow h (λ x. fit (length a) (pos (moved_number (num (row_of x a)) (value false (row_of x b))))) word
plain_means g h a b word fill k e m = record {
  as_many = λ x. m.as_many x ∙ length-moved (Down fill) x (row_of x a) (num (row_of x b)) ∙ length-row x a ∙ sym (length-fit (length a) (pos (moved_number (num (row_of x a)) (value false (row_of x b)))));
  within = m.within;
  means = λ x s. m.means x s ∙ ap (λ (f : Bool). fit (length (row_of x a)) (int_div_euclid (filled_number (row_of x a) f) (pos (2 ^ num (row_of x b))))) (e x (keeps g h k x s)) ∙ ap (λ (i : ℕ). fit i (pos (num (row_of x a) / 2 ^ num (row_of x b)))) (length-row x a);
}

pub right_means : (g h : GatesOf) (a b word : List LitOf) (fill : LitOf) (signed : Bool) (y n m : ℕ) → n ≡ m → y ≤ n → Continues g h → Means g fill (λ _. false) →
    MeansRow h (λ x. fit y (pos (num (moved_row (Down fill) x (fit n (value signed (row_of x a))) (num (row_of x b)))))) word → MeansRow h (λ x. right_shift_fn y m (value signed (row_of x a)) (num (row_of x b))) word
right_means g h a b word fill signed y n m e le k z r = record {
  as_many = λ x. r.as_many x ∙ length-fit y (pos (num (moved_row (Down fill) x (fit n (value signed (row_of x a))) (num (row_of x b))))) ∙ sym (length-fit y (pos (num (fit m (value signed (row_of x a))) / 2 ^ num (row_of x b))));
  within = r.within;
  means = λ x s. r.means x s ∙ right_row x y n (value signed (row_of x a)) (num (row_of x b)) fill le (z x (keeps g h k x s)) ∙ ap (λ (i : ℕ). right_shift_fn y i (value signed (row_of x a)) (num (row_of x b))) e;
}

pub sign_means : (g h : GatesOf) (a b word : List LitOf) (fill : LitOf) (signed : Bool) (y n : ℕ) → y ≤ n → length a ≤ n → Continues g h → Means g fill (λ x. signed && top_bit (row_of x a)) →
    MeansRow h (λ x. fit y (pos (num (moved_row (Down fill) x (fit n (value signed (row_of x a))) (num (row_of x b)))))) word → MeansRow h (λ x. sign_shift_fn y (value signed (row_of x a)) (num (row_of x b))) word
sign_means g h a b word fill signed y n le la k z r = record {
  as_many = λ x. r.as_many x ∙ length-fit y (pos (num (moved_row (Down fill) x (fit n (value signed (row_of x a))) (num (row_of x b))))) ∙ sym (length-fit y (int_div_euclid (value signed (row_of x a)) (pos (2 ^ num (row_of x b)))));
  within = r.within;
  means = λ x s. r.means x s ∙ sign_row x y n (row_of x a) signed (num (row_of x b)) fill le (let e = length-row x a in omega arith) (z x (keeps g h k x s));
}

pub any_means : (g h : GatesOf) (a b wide moved word : List LitOf) (sa sb : Bool) (y n m : ℕ) → n ≡ m → y ≤ n → Continues g h → MeansRow g (λ x. fit n (value sa (row_of x a))) wide →
    MeansRow h (λ x. fit (length wide) (pos (moved_number (num (row_of x wide)) (value sb (row_of x b))))) moved → MeansRow h (λ x. fit y (value false (row_of x moved))) word →
    MeansRow h (λ x. any_shift_fn y m (value sa (row_of x a)) (value sb (row_of x b))) word
any_means g h a b wide moved word sa sb y n m e le k p q r =
    let long : length wide ≡ n = fit_long g n (λ x. value sa (row_of x a)) wide p in
    record {
      as_many = λ x. r.as_many x ∙ length-fit y (value false (row_of x moved)) ∙ sym (length-fit y (pos (moved_number (num (fit m (value sa (row_of x a)))) (value sb (row_of x b)))));
      within = r.within;
      means = λ x s. r.means x s ∙ ap (λ (t : Row). fit y (pos (num t))) (q.means x s ∙ ap (λ (i : ℕ). fit i (pos (moved_number (num (row_of x wide)) (value sb (row_of x b))))) long ∙ ap (λ (t : Row). fit n (pos (moved_number (num t) (value sb (row_of x b))))) (p.means x (keeps g h k x s)))
          ∙ any_row y n (value sa (row_of x a)) (value sb (row_of x b)) le ∙ ap (λ (i : ℕ). any_shift_fn y i (value sa (row_of x a)) (value sb (row_of x b))) e;
    }
