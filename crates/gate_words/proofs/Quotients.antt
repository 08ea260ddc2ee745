-- Division, place by place from the highest.
use Rattle.std.proofs.Common.{◌≡◌, ◌⊎◌, ℕ, zero, suc, ◌+◌, ◌-◌, ◌*◌, ◌/◌, ◌%◌, ◌^◌, ◌<◌, ◌≤◌, Bool, true, false, cond, not, eqb, leb, ◌&&◌, List, [], ◌∷◌, ◌++◌, length, length-append, take, drop, map, reverse, get_or, refl, sym, ◌∙◌, ap, subst, inl, inr, arith}
use Rattle.std.specs.Prelude.{All, ℤ, pos, negsuc, ◌+ℤ◌, ◌-ℤ◌, unsigned_abs}
use Rattle.std.proofs.lemmas.Int.{ints}
use Rattle.std.proofs.lemmas.Bool.{cases_lt, false≢true}
use Rattle.std.proofs.lemmas.Bool.Decides.{nat_tests}
use Rattle.std.proofs.lemmas.List.{reverse-append, length-reverse, length-map, take_all, take-map, get_or_append_left, get_or-append-add}
use Rattle.std.proofs.lemmas.List.Elements.{All-nil, All-push}
use Rattle.std.proofs.Math.ListN.{drop_of_length-le}
use Rattle.std.proofs.Math.Seq.{drop-cons}
use Rattle.std.proofs.Math.Nat.{pow-suc, pow-le-pow_right}
use Rattle.std.proofs.lemmas.Nat.{pow_pos, mul-le, div-mul-add, mod-mul-add}
use Rattle.cnf_form.specs.Cnf.{LitOf, Assignment, Satisfies, LitWithin, lit_in, negate}
use Rattle.gate_graph.specs.Circuit.{GatesOf, Continues, Means}
use Rattle.gate_graph.specs.Laws.{keeps, Continues-trans}
use Rattle.gate_graph.proofs.OneTable.{lit_negated}
use Rattle.sby_bits.specs.Rows.{Row, num, snum, top_bit, fit, value}
use Rattle.sby_bits.specs.Words.{quotient, remainder}
use Rattle.sby_bits.proofs.Numbers.{num-lt, num-turned, length-fit, high_half}
use Rattle.sby_bits.proofs.Moves.{snum_ones}
use Rattle.sby_bits.proofs.RowLaws.{row_again, num-fit_small}
use Rattle.cell_table.specs.Cells.{mux_fn, divide_fn, either_one}
use Rattle.cell_table.specs.declared.kind.Divide.{Divide}
use Rattle.cell_table.specs.declared.kind.Divide.TheVariants.{Div, Mod}
use Rattle.gate_rows.specs.Literals.{Builds, MeansRow, MeansBit, row_of}
use Rattle.gate_rows.specs.Sums.{at, IsSum}
use Rattle.gate_rows.proofs.Adding.{map_push}
use Rattle.gate_rows.proofs.Building.{Builds-none, Builds-trans, Builds-more, All-later, later, length-row, read, fit_long}
use Rattle.gate_rows.proofs.Dividing.{divide_on, divide_off}
use Rattle.gate_words.specs.Division.{IsZeros, IsStep, IsPlace, IsQuotient, IsDivided, divided_gates}
use Rattle.gate_words.specs.Words.{square}
use Rattle.cell_rows.proofs.Cuts.{row_near, difference_cut}
use Rattle.gate_words.proofs.Choosing.{length-mux}
use Rattle.gate_words.proofs.Moving.{num-split, cut_again}

-- ---- whether the highest bits are 0

zero_more : (n : ℕ) (b : Bool) → (eqb n 0 && not b) ≡ eqb (cond b 1 0 + 2 * n) 0
zero_more n true = grind (arith, nat_tests)
zero_more n false = grind (arith, nat_tests)

pub zero_next : (r : Row) (j i : ℕ) (b : Bool) → i + (j + 1) ≡ length r → get_or r i false ≡ b → eqb (num (drop (length r - (j + 1)) r)) 0 ≡ (eqb (num (drop (length r - j) r)) 0 && not b)
zero_next r j i b e h =
    let first : drop (length r - (j + 1)) r ≡ b ∷ drop (length r - j) r =
    ap (λ (k : ℕ). drop k r) {x = length r - (j + 1)} {y = i} (omega arith) ∙ drop-cons r i false (omega arith) ∙ ap (λ (c : Bool). c ∷ drop (suc i) r) h ∙ ap (λ (k : ℕ). b ∷ drop k r) {x = suc i} {y = length r - j} (omega arith) in
    ap (λ (q : Row). eqb (num q) 0) first ∙ sym (zero_more (num (drop (length r - j) r)) b)

pub zero_start : (r : Row) (j : ℕ) → j ≡ 0 → eqb (num (drop (length r - j) r)) 0 ≡ true
zero_start r j e = ap (λ (q : Row). eqb (num q) 0) (drop_of_length-le r {i = length r - j} (omega arith))

pub Zeros-none : (g : GatesOf) (b zeros : List LitOf) (last : LitOf) → zeros ≡ last ∷ [] → LitWithin g.formula.vars last → Means g last (λ _. true) → IsZeros g g b 0 zeros
Zeros-none g b zeros last e w m = rw e (record {
  builds = Builds-none g 0;
  as_many = refl;
  within = All-push (LitWithin g.formula.vars) [] last (All-nil (LitWithin g.formula.vars)) w;
  means = λ x s i h.
      let z : i ≡ 0 = omega arith in
      let n = length-row x b in
      rw z (m x s ∙ sym (zero_start (row_of x b) 0 refl) ∙ ap (λ (k : ℕ). eqb (num (drop (k - 0) (row_of x b))) 0) n);
})

pushed : (x : Assignment) (zeros : List LitOf) (l : LitOf) (i : ℕ) → i < length zeros → get_or (row_of x (zeros ++ l ∷ [])) i false ≡ get_or (row_of x zeros) i false
pushed x zeros l i h = ap (λ (r : Row). get_or r i false) (map_push (lit_in x) zeros l) ∙ get_or_append_left (row_of x zeros) (lit_in x l ∷ []) false i (let n = length-row x zeros in omega arith)

last_pushed : (x : Assignment) (zeros : List LitOf) (l : LitOf) (i : ℕ) → i ≡ length zeros → get_or (row_of x (zeros ++ l ∷ [])) i false ≡ lit_in x l
last_pushed x zeros l i e = ap (λ (r : Row). get_or r i false) (map_push (lit_in x) zeros l) ∙ ap (λ (k : ℕ). get_or (row_of x zeros ++ lit_in x l ∷ []) k false) {x = i} {y = length (row_of x zeros) + 0} (let n = length-row x zeros in omega arith)
    ∙ get_or-append-add (row_of x zeros) (lit_in x l ∷ []) 0 false

pub Zeros-next : (f g h : GatesOf) (b zeros : List LitOf) (j : ℕ) (l : LitOf) → IsZeros f g b j zeros → Builds g h 1 → LitWithin h.formula.vars l →
    ((x : Assignment) → Satisfies x h.formula.clauses → lit_in x l ≡ eqb (num (drop (length b - (j + 1)) (row_of x b))) 0) → IsZeros f h b (j + 1) (zeros ++ l ∷ [])
Zeros-next f g h b zeros j l z u w m = record {
  builds = Builds-trans f g h j 1 (j + 1) z.builds u (omega arith);
  as_many = length-append zeros (l ∷ []) ∙ ap (λ (n : ℕ). n + 1) z.as_many;
  within = All-push (LitWithin h.formula.vars) zeros l (All-later g.formula.vars h.formula.vars zeros u.continues.vars z.within) w;
  means = λ x s i le.
      let n = z.as_many in
      elim (cases_lt i (j + 1)) as (λ _. get_or (row_of x (zeros ++ l ∷ [])) i false ≡ eqb (num (drop (length b - i) (row_of x b))) 0) [
        | inl p ↦ pushed x zeros l i (omega arith) ∙ z.means x (keeps g h u.continues x s) i (omega arith)
        | inr p ↦ let e : j + 1 ≡ i = omega arith in last_pushed x zeros l i (omega arith) ∙ m x s ∙ ap (λ (k : ℕ). eqb (num (drop (length b - k) (row_of x b))) 0) e
      ];
}

pub last_means : (g h : GatesOf) (b : List LitOf) (j i : ℕ) (last more bit : LitOf) → Continues g h → j + 1 + i ≡ length b → bit ≡ get_or b i bit →
    ((x : Assignment) → Satisfies x g.formula.clauses → lit_in x last ≡ eqb (num (drop (length b - j) (row_of x b))) 0) → MeansBit h (λ x. lit_in x last && lit_in x (negate bit)) more →
    (x : Assignment) → Satisfies x h.formula.clauses → lit_in x more ≡ eqb (num (drop (length b - (j + 1)) (row_of x b))) 0
last_means g h b j i last more bit k e eb m p x s =
    let n = length-row x b in
    p.means x s ∙ ap (λ (c : Bool). c && lit_in x (negate bit)) (m x (keeps g h k x s)) ∙ ap (λ (c : Bool). eqb (num (drop (length b - j) (row_of x b))) 0 && c) (lit_negated x bit)
    ∙ ap (λ (c : ℕ). eqb (num (drop (c - j) (row_of x b))) 0 && not (lit_in x bit)) (sym n)
    ∙ sym (zero_next (row_of x b) j i (lit_in x bit) (omega arith) (read x b i bit (omega arith) eb)) ∙ ap (λ (c : ℕ). eqb (num (drop (c - (j + 1)) (row_of x b))) 0) n

-- ---- one place

carry_is : (r t n b p : ℕ) (c : Bool) → r + cond c p 0 ≡ t + n + 1 → b + n + 1 ≡ p → r < p → c ≡ leb b t
carry_is r t n b p true e f h = grind (arith, nat_tests)
carry_is r t n b p false e f h = grind (arith, nat_tests)

less_is : (r t n b p : ℕ) (c : Bool) → r + cond c p 0 ≡ t + n + 1 → b + n + 1 ≡ p → c ≡ true → r ≡ t - b
less_is r t n b p true e f h = omega arith
less_is r t n b p false e f h = absurd (false≢true h)

rest_is : (top row : Row) (b : ℕ) (bit carry z : Bool) → bit ≡ (carry && z) → (carry ≡ true → num row ≡ num top - b) → num (mux_fn top row bit) ≡ cond bit (num top - b) (num top)
rest_is top row b true true z e h = h refl
rest_is top row b true false z e h = absurd (false≢true (sym e))
rest_is top row b false c z e h = refl

sum_is : (f g : GatesOf) (top turned row : List LitOf) (one over : LitOf) (x : Assignment) → IsSum f g top turned one (length top) row over → length turned ≡ length top → Satisfies x g.formula.clauses → lit_in x one ≡ true →
    num (row_of x row) + cond (lit_in x over) (2 ^ length top) 0 ≡ num (row_of x top) + num (row_of x turned) + 1
sum_is f g top turned row one over x w n s e =
    ended (num (row_of x row)) (at (length top) (lit_in x over)) (num (take (length top) (row_of x top))) (num (take (length top) (row_of x turned))) (at 0 (lit_in x one)) (num (row_of x top)) (num (row_of x turned)) (w.sum x s)
    (ap num (take_all (length top) (row_of x top) (let k = length-row x top in omega arith))) (ap num (take_all (length top) (row_of x turned) (let k = length-row x turned in omega arith))) (ap (at 0) e)
  where
    ended : (r o a b z m n : ℕ) → r + o ≡ a + b + z → a ≡ m → b ≡ n → z ≡ 1 → r + o ≡ m + n + 1
    ended r o a b z m n h e f i = omega arith

pub Step-made : (e f g h : GatesOf) (top low turned row rest : List LitOf) (one over none bit : LitOf) → length top ≡ length low → MeansRow e (λ x. map not (row_of x low)) turned → Means e one (λ _. true) → IsSum e f top turned one (length top) row over →
    Builds f g 1 → MeansBit g (λ x. lit_in x over && lit_in x none) bit → Builds g h (length top) → MeansRow h (λ x. mux_fn (row_of x top) (row_of x row) (lit_in x bit)) rest → IsStep e h top low none bit rest
Step-made e f g h top low turned row rest one over none bit n t o w u p v r =
    let x' : Assignment = λ _. false in
    let long : length turned ≡ length top = t.as_many x' ∙ length-map (row_of x' low) not ∙ length-row x' low ∙ sym n in
    let carry : (x : Assignment) → Satisfies x f.formula.clauses → (lit_in x over ≡ leb (num (row_of x low)) (num (row_of x top))) × (lit_in x over ≡ true → num (row_of x row) ≡ num (row_of x top) - num (row_of x low)) =
    λ x s.
    let se = keeps e f w.builds.continues x s in
    let sum : num (row_of x row) + cond (lit_in x over) (2 ^ length top) 0 ≡ num (row_of x top) + num (map not (row_of x low)) + 1 = sum_is e f top turned row one over x w long s (o x se) ∙ ap (λ (q : Row). num (row_of x top) + num q + 1) (t.means x se) in
    let all : num (row_of x low) + num (map not (row_of x low)) + 1 ≡ 2 ^ length top = num-turned (row_of x low) ∙ ap (λ (k : ℕ). 2 ^ k) (length-row x low ∙ sym n) in
    let small : num (row_of x row) < 2 ^ length top = subst (λ (k : ℕ). num (row_of x row) < 2 ^ k) (length-row x row ∙ w.as_many) (num-lt (row_of x row)) in (
      carry_is (num (row_of x row)) (num (row_of x top)) (num (map not (row_of x low))) (num (row_of x low)) (2 ^ length top) (lit_in x over) sum all small,
      less_is (num (row_of x row)) (num (row_of x top)) (num (map not (row_of x low))) (num (row_of x low)) (2 ^ length top) (lit_in x over) sum all,
    ) in
    record {
      builds = Builds-trans e g h (3 * length top + 1) (length top) (4 * length top + 1) (Builds-trans e f g (3 * length top) 1 (3 * length top + 1) w.builds u (omega arith)) v (omega arith);
      as_many = r.as_many x' ∙ length-mux (row_of x' top) (row_of x' row) (lit_in x' bit) (length-row x' top ∙ sym w.as_many ∙ sym (length-row x' row)) ∙ length-row x' top;
      bit_within = later g.formula.vars h.formula.vars bit v.continues.vars p.within;
      within = r.within;
      bit_means = λ x s.
          let sg = keeps g h v.continues x s in
          p.means x sg ∙ ap (λ (c : Bool). c && lit_in x none) ((carry x (keeps f g u.continues x sg)).0);
      rest_means = λ x s.
          let sg = keeps g h v.continues x s in
          ap num (r.means x s) ∙ rest_is (row_of x top) (row_of x row) (num (row_of x low)) (lit_in x bit) (lit_in x over) (lit_in x none) (p.means x sg) ((carry x (keeps f g u.continues x sg)).1);
    }

pub Place-made : (g h : GatesOf) (digit : LitOf) (above b top low : List LitOf) (none bit : LitOf) (rest : List LitOf) → IsStep g h top low none bit rest → top ≡ digit ∷ above → low ≡ take (length top) b → length above < length b → IsPlace g h digit above b none bit rest
Place-made g h digit above b top low none bit rest z e f lt =
    let n : length top ≡ length above + 1 = ap length e ∙ omega arith in
    let low_row : (x : Assignment) → row_of x low ≡ take (length above + 1) (row_of x b) = λ x. ap (row_of x) f ∙ sym (take-map (lit_in x) (length top) b) ∙ ap (λ (k : ℕ). take k (row_of x b)) n in
    let top_row : (x : Assignment) → row_of x top ≡ lit_in x digit ∷ row_of x above = λ x. ap (row_of x) e in
    record {
      builds = Builds-more g h (4 * length top + 1) (4 * length b + 1) z.builds (omega arith);
      as_many = z.as_many ∙ n;
      bit_within = z.bit_within;
      within = z.within;
      bit_means = λ x s. z.bit_means x s ∙ ap (λ (r : Row). leb (num r) (num (row_of x top)) && lit_in x none) (low_row x) ∙ ap (λ (r : Row). leb (num (take (length above + 1) (row_of x b))) (num r) && lit_in x none) (top_row x);
      rest_means = λ x s. z.rest_means x s ∙ ap (λ (r : Row). cond (lit_in x bit) (num (row_of x top) - num r) (num (row_of x top))) (low_row x) ∙ ap (λ (r : Row). cond (lit_in x bit) (num r - num (take (length above + 1) (row_of x b))) (num r)) (top_row x);
    }

-- ---- all places

both_true : (p q : Bool) → true ≡ (p && q) → (p ≡ true) × (q ≡ true)
both_true true true e = (refl, refl)
both_true true false e = absurd (false≢true (sym e))
both_true false q e = absurd (false≢true (sym e))

under : (l t h p b : ℕ) → b ≡ l + p * h → t < p → false ≡ (leb l t && eqb h 0) → t < b
under l t zero p b e lt f = grind (arith, nat_tests)
under l t (suc h) p b e lt f = omega arith

pub Quotient-none : (b : ℕ) → IsQuotient 0 0 b 0 0
Quotient-none zero = record { whole = refl; small = inr refl; ones = λ e. refl }
Quotient-none (suc b) = record { whole = omega arith; small = inl (omega arith); ones = λ e. refl }

pub Quotient-next : (a q b r step l h t s d : ℕ) (bit : Bool) → IsQuotient a q b r step → t ≡ d + 2 * r → d < 2 → b ≡ l + 2 ^ suc step * h → t < 2 ^ suc step → bit ≡ (leb l t && eqb h 0) → s ≡ cond bit (t - l) t →
    IsQuotient (d + 2 * a) (cond bit 1 0 + 2 * q) b s (step + 1)
Quotient-next a q b r step l h t s d true z e small eb lt eq es =
    let (le, nil) = both_true (leb l t) (eqb h 0) eq in
    let one : b ≡ l = whole_low l h (2 ^ suc step) b eb nil in
    let under : l ≤ t = grind (arith, nat_tests) in
    let (w, f) = divide_on a q b r t d z.whole e small z.small (omega arith) (omega arith) in
    record {
      whole = rw es (w ∙ omega arith);
      small = rw es (elim f as (λ _. (t - l < b) ⊎ (b ≡ 0)) [ inl p ↦ inl (omega arith) | inr p ↦ inr p ]);
      ones = λ n. let o = z.ones n in let p = pow-suc 2 step in ap (λ (k : ℕ). k + 1) {x = 1 + 2 * q} {y = 1 + 2 * q} refl ∙ more_ones q step o;
    }
  where
    whole_low : (l h p b : ℕ) → b ≡ l + p * h → eqb h 0 ≡ true → b ≡ l
    whole_low l zero p b e f = omega arith
    whole_low l (suc h) p b e f = grind (arith, nat_tests)

    more_ones : (q step : ℕ) → q + 1 ≡ 2 ^ step → 1 + 2 * q + 1 ≡ 2 ^ (step + 1)
    more_ones q step o = omega arith ∙ ap (λ (k : ℕ). k * 2) o ∙ sym (pow-suc 2 step) ∙ ap (λ (k : ℕ). 2 ^ k) {x = suc step} {y = step + 1} (omega arith)
Quotient-next a q b r step l h t s d false z e small eb lt eq es =
    let far : t < b = under l t h (2 ^ suc step) b eb lt eq in
    let (w, f) = divide_off a q b r t d z.whole e far (omega arith) in
    record {
      whole = rw es (w ∙ omega arith);
      small = rw es f;
      ones = λ n. absurd (omega arith);
    }

pub Divided-none : (g : GatesOf) (a b : List LitOf) (k : ℕ) → length a ≤ k → IsDivided g g a b 0 k [] []
Divided-none g a b k h = record {
  builds = Builds-none g ((4 * length b + 1) * 0);
  many_bits = refl;
  many_rest = refl;
  bits_within = All-nil (LitWithin g.formula.vars);
  rest_within = All-nil (LitWithin g.formula.vars);
  means = λ x s. subst (λ (r : Row). IsQuotient (num r) 0 (num (row_of x b)) 0 0) (sym (drop_of_length-le (row_of x a) (let n = length-row x a in omega arith))) (Quotient-none (num (row_of x b)));
}

digit_small : (b : Bool) → cond b 1 0 < 2
digit_small true = omega arith
digit_small false = omega arith

pub Divided-next : (e g h : GatesOf) (a b zeros bits rest less : List LitOf) (step k : ℕ) (digit none bit : LitOf) → length a ≡ length b → k + (step + 1) ≡ length a → IsZeros e e b (length b) zeros → IsDivided e g a b step (k + 1) bits rest →
    digit ≡ get_or a k digit → none ≡ get_or zeros k none → IsPlace g h digit rest b none bit less → IsDivided e h a b (step + 1) k (bits ++ bit ∷ []) less
Divided-next e g h a b zeros bits rest less step k digit none bit same place zs z ed ez p =
    let nz = zs.as_many in
    let nr = z.many_rest in
    record {
      builds = Builds-trans e g h ((4 * length b + 1) * step) (4 * length b + 1) ((4 * length b + 1) * (step + 1)) z.builds p.builds (omega arith);
      many_bits = length-append bits (bit ∷ []) ∙ ap (λ (n : ℕ). n + 1) z.many_bits;
      many_rest = p.as_many ∙ ap (λ (n : ℕ). n + 1) z.many_rest;
      bits_within = All-push (LitWithin h.formula.vars) bits bit (All-later g.formula.vars h.formula.vars bits p.builds.continues.vars z.bits_within) p.bit_within;
      rest_within = p.within;
      means = λ x s.
          let sg = keeps g h p.builds.continues x s in
          let se = keeps e g z.builds.continues x sg in
          let na = length-row x a in
          let nb = length-row x b in
          let nrow = length-row x rest in
          let old = z.means x sg in
          let here : drop k (row_of x a) ≡ lit_in x digit ∷ drop (k + 1) (row_of x a) = drop-cons (row_of x a) k false (omega arith) ∙ ap (λ (c : Bool). c ∷ drop (suc k) (row_of x a)) (read x a k digit (omega arith) ed) ∙ ap (λ (i : ℕ). lit_in x digit ∷ drop i (row_of x a)) {x = suc k} {y = k + 1} (omega arith) in
          let turned : row_of x (reverse (bits ++ bit ∷ [])) ≡ lit_in x bit ∷ row_of x (reverse bits) = ap (row_of x) (reverse-append bits (bit ∷ [])) in
          let low : ℕ = num (take (length rest + 1) (row_of x b)) in
          let high : ℕ = num (drop (length rest + 1) (row_of x b)) in
          let split : num (row_of x b) ≡ low + 2 ^ suc step * high = num-split (row_of x b) (length rest + 1) (omega arith) ∙ ap (λ (i : ℕ). low + 2 ^ i * high) {x = length rest + 1} {y = suc step} (omega arith) in
          let nil : lit_in x none ≡ eqb high 0 = sym (read x zeros k none (omega arith) ez) ∙ zs.means x se k (omega arith) ∙ ap (λ (i : ℕ). eqb (num (drop i (row_of x b))) 0) {x = length b - k} {y = length rest + 1} (omega arith) in
          let top : num (lit_in x digit ∷ row_of x rest) < 2 ^ suc step = subst (λ (i : ℕ). num (lit_in x digit ∷ row_of x rest) < 2 ^ i) (ap suc (nrow ∙ nr)) (num-lt (lit_in x digit ∷ row_of x rest)) in
          let next = Quotient-next (num (drop (k + 1) (row_of x a))) (num (row_of x (reverse bits))) (num (row_of x b)) (num (row_of x rest)) step low high (num (lit_in x digit ∷ row_of x rest)) (num (row_of x less)) (cond (lit_in x digit) 1 0) (lit_in x bit)
          old refl (digit_small (lit_in x digit)) split top (p.bit_means x s ∙ ap (λ (c : Bool). leb low (num (lit_in x digit ∷ row_of x rest)) && c) nil) (p.rest_means x s) in
          subst (λ (r : Row). IsQuotient (num r) (num (row_of x (reverse (bits ++ bit ∷ [])))) (num (row_of x b)) (num (row_of x less)) (step + 1)) (sym here)
          (subst (λ (r : Row). IsQuotient (num (lit_in x digit ∷ drop (k + 1) (row_of x a))) (num r) (num (row_of x b)) (num (row_of x less)) (step + 1)) (sym turned) next);
    }

-- ---- the quotient's row

all_ones : (q p : ℕ) → q + 1 ≡ p → negsuc 0 +ℤ pos (p * 1) ≡ pos (q + p * 0)
all_ones q p e = omega (arith, ints)

pub quotient_is : (a b q r n : ℕ) (row : Row) → length row ≡ n → num row ≡ q → IsQuotient a q b r n → row ≡ fit n (quotient (pos a) (pos b))
quotient_is a zero q r n row e m z = row_near row n (negsuc 0) e (record { up = 1; over = 0; same = all_ones (num row) (2 ^ n) (ap (λ (k : ℕ). k + 1) m ∙ z.ones refl) })
quotient_is a (suc b) q r n row e m z =
    let small : r < suc b = elim z.small as (λ _. r < suc b) [ inl h ↦ h | inr h ↦ absurd (omega arith) ] in
    let whole : a / suc b ≡ q = ap (λ (k : ℕ). k / suc b) z.whole ∙ div-mul-add q (suc b) r small in
    sym (ap (λ (k : ℕ). fit n (pos k)) (whole ∙ sym m) ∙ subst (λ (k : ℕ). fit k (pos (num row)) ≡ row) e (row_again row))

pub remainder_is : (a b q r n : ℕ) (row : Row) → length row ≡ n → num row ≡ r → IsQuotient a q b r n → row ≡ fit n (remainder (pos a) (pos b))
remainder_is a zero q r n row e m z = sym (ap (λ (k : ℕ). fit n (pos k)) {x = a} {y = num row} (let w = z.whole in omega arith) ∙ subst (λ (k : ℕ). fit k (pos (num row)) ≡ row) e (row_again row))
remainder_is a (suc b) q r n row e m z =
    let small : r < suc b = elim z.small as (λ _. r < suc b) [ inl h ↦ h | inr h ↦ absurd (omega arith) ] in
    let left : a % suc b ≡ r = ap (λ (k : ℕ). k % suc b) z.whole ∙ mod-mul-add q (suc b) r small in
    sym (ap (λ (k : ℕ). fit n (pos k)) (left ∙ sym m) ∙ subst (λ (k : ℕ). fit k (pos (num row)) ≡ row) e (row_again row))

All-reverse : {X : Type 0} (P : X → Type 0) (xs : List X) → All P xs → All P (reverse xs)
All-reverse P [] h = h
All-reverse P (x ∷ xs) h =
    subst (All P) (sym (reverse-append (x ∷ []) xs)) (All-push P (reverse xs) x (All-reverse P xs (λ k d lt. h (suc k) d (omega arith))) (h 0 x (omega arith)))

length-reversed : (x : Assignment) (bits : List LitOf) → length (row_of x (reverse bits)) ≡ length bits
length-reversed x bits = length-row x (reverse bits) ∙ length-reverse bits

pub quotient_means : (f g : GatesOf) (a b bits rest : List LitOf) → IsDivided f g a b (length a) 0 bits rest → MeansRow g (λ x. fit (length a) (quotient (pos (num (row_of x a))) (pos (num (row_of x b))))) (reverse bits)
quotient_means f g a b bits rest z = record {
  as_many = λ x. length-reverse bits ∙ z.many_bits ∙ sym (length-fit (length a) (quotient (pos (num (row_of x a))) (pos (num (row_of x b)))));
  within = All-reverse (LitWithin g.formula.vars) bits z.bits_within;
  means = λ x s. quotient_is (num (row_of x a)) (num (row_of x b)) (num (row_of x (reverse bits))) (num (row_of x rest)) (length a) (row_of x (reverse bits)) (length-reversed x bits ∙ z.many_bits) refl (z.means x s);
}

pub remainder_means : (f g : GatesOf) (a b bits rest : List LitOf) → IsDivided f g a b (length a) 0 bits rest → MeansRow g (λ x. fit (length a) (remainder (pos (num (row_of x a))) (pos (num (row_of x b))))) rest
remainder_means f g a b bits rest z = record {
  as_many = λ x. z.many_rest ∙ sym (length-fit (length a) (remainder (pos (num (row_of x a))) (pos (num (row_of x b)))));
  within = z.rest_within;
  means = λ x s. remainder_is (num (row_of x a)) (num (row_of x b)) (num (row_of x (reverse bits))) (num (row_of x rest)) (length a) (row_of x rest) (length-row x rest ∙ z.many_rest) refl (z.means x s);
}

-- ---- signs

pub opposite_cut : (n : ℕ) (z : ℤ) → fit n (pos 0 -ℤ pos (num (fit n z))) ≡ fit n (pos 0 -ℤ z)
opposite_cut n z = ap (λ (k : ℕ). fit n (pos k -ℤ pos (num (fit n z)))) (sym (num-fit_small n 0 (pow_pos n))) ∙ difference_cut n (pos 0) z

pub turned_means : (g h j : GatesOf) (a zeros turned word : List LitOf) (sign : LitOf) → Continues g h → Continues h j → MeansRow g (λ x. fit (length a) (pos (0 * 2 ^ 0))) zeros → MeansRow h (λ x. fit (length zeros) (pos (num (row_of x zeros)) -ℤ pos (num (row_of x a)))) turned →
    MeansRow j (λ x. mux_fn (row_of x a) (row_of x turned) (lit_in x sign)) word → MeansRow j (λ x. cond (lit_in x sign) (fit (length a) (pos 0 -ℤ pos (num (row_of x a)))) (row_of x a)) word
turned_means g h j a zeros turned word sign k l ez et ew =
    let long : length zeros ≡ length a = fit_long g (length a) (λ x. pos (0 * 2 ^ 0)) zeros ez in
    record {
      as_many = λ x. ew.as_many x ∙ length-mux (row_of x a) (row_of x turned) (lit_in x sign) (length-row x a ∙ sym (length-row x turned ∙ et.as_many x ∙ length-fit (length zeros) (pos (num (row_of x zeros)) -ℤ pos (num (row_of x a))) ∙ long))
          ∙ sym (length-mux (row_of x a) (fit (length a) (pos 0 -ℤ pos (num (row_of x a)))) (lit_in x sign) (length-row x a ∙ sym (length-fit (length a) (pos 0 -ℤ pos (num (row_of x a))))));
      within = ew.within;
      means = λ x s.
          let sh = keeps h j l x s in
          let none : num (row_of x zeros) ≡ 0 = ap num (ez.means x (keeps g h k x sh)) ∙ num-fit_small (length a) 0 (pow_pos (length a)) in
          ew.means x s ∙ ap (λ (r : Row). mux_fn (row_of x a) r (lit_in x sign)) (et.means x sh ∙ ap (λ (n : ℕ). fit n (pos (num (row_of x zeros)) -ℤ pos (num (row_of x a)))) long ∙ ap (λ (n : ℕ). fit (length a) (pos n -ℤ pos (num (row_of x a)))) none);
    }

-- whether a number is below zero
abbrev pub is_negative : ℤ → Bool
is_negative (pos n) = false
is_negative (negsuc n) = true

sign_by : (r : Row) (t : Bool) → top_bit r ≡ t → t ≡ is_negative (snum r)
sign_by r true e = sym (ap is_negative (snum_ones r e))
sign_by r false e = sym (ap (λ (b : Bool). is_negative (cond b (pos (num r) -ℤ pos (2 ^ length r)) (pos (num r)))) e)

pub sign_is : (r : Row) (signed : Bool) → (signed && top_bit r) ≡ is_negative (value signed r)
sign_is r true = sign_by r (top_bit r) refl
sign_is r false = refl

size_by : (n : ℕ) (z : ℤ) (s : Bool) → s ≡ is_negative z → cond s (fit n (pos 0 -ℤ pos (num (fit n z)))) (fit n z) ≡ fit n (pos (unsigned_abs z))
size_by n (pos m) true e = absurd (false≢true (sym e))
size_by n (pos m) false e = refl
size_by n (negsuc m) true e = opposite_cut n (negsuc m) ∙ ap (λ (k : ℕ). fit n (pos k)) {x = 0 + suc m} {y = suc m} (omega arith)
size_by n (negsuc m) false e = absurd (false≢true e)

pub size_means : (g h : GatesOf) (a wide word : List LitOf) (signed : Bool) (n : ℕ) (sign : LitOf) → Continues g h → Means g sign (λ x. signed && top_bit (row_of x a)) → MeansRow g (λ x. fit n (value signed (row_of x a))) wide →
    MeansRow h (λ x. cond (lit_in x sign) (fit (length wide) (pos 0 -ℤ pos (num (row_of x wide)))) (row_of x wide)) word → MeansRow h (λ x. fit n (pos (unsigned_abs (value signed (row_of x a))))) word
size_means g h a wide word signed n sign k es ew er =
    let long : length wide ≡ n = fit_long g n (λ x. value signed (row_of x a)) wide ew in
    record {
      as_many = λ x. er.as_many x ∙ length-mux (row_of x wide) (fit (length wide) (pos 0 -ℤ pos (num (row_of x wide)))) (lit_in x sign) (length-row x wide ∙ sym (length-fit (length wide) (pos 0 -ℤ pos (num (row_of x wide))))) ∙ length-row x wide ∙ long ∙ sym (length-fit n (pos (unsigned_abs (value signed (row_of x a)))));
      within = er.within;
      means = λ x s.
          let sg = keeps g h k x s in
          er.means x s ∙ ap (λ (m : ℕ). cond (lit_in x sign) (fit m (pos 0 -ℤ pos (num (row_of x wide)))) (row_of x wide)) long
          ∙ ap (λ (r : Row). cond (lit_in x sign) (fit n (pos 0 -ℤ pos (num r))) r) (ew.means x sg)
          ∙ size_by n (value signed (row_of x a)) (lit_in x sign) (es x sg ∙ sign_is (row_of x a) signed);
    }

-- a number's size fits its width
abs_fits : (n l t m : ℕ) (r : ℕ) → m + t + 1 ≡ 2 ^ l → 1 ≤ m → suc t < 2 ^ l
abs_fits n l t m r e h = omega arith

size_fits : (r : Row) (t : Bool) → top_bit r ≡ t → unsigned_abs (snum r) < 2 ^ length r
size_fits r true e = rw (snum_ones r e) (let p = num-turned r in let q = high_half r e in let w = pow_pos (length r) in omega arith)
size_fits r false e = subst (λ (b : Bool). unsigned_abs (cond b (pos (num r) -ℤ pos (2 ^ length r)) (pos (num r))) < 2 ^ length r) (sym e) (num-lt r)

wider : (m l n : ℕ) → m < 2 ^ l → l ≤ n → m < 2 ^ n
wider m l n h le = let p : 2 ^ l ≤ 2 ^ n = pow-le-pow_right {n = 2} (omega arith) {i = l} {j = n} le in omega arith

pub abs_below : (r : Row) (signed : Bool) (n : ℕ) → length r ≤ n → unsigned_abs (value signed r) < 2 ^ n
abs_below r true n h = wider (unsigned_abs (snum r)) (length r) n (size_fits r (top_bit r) refl) h
abs_below r false n h = wider (num r) (length r) n (num-lt r) h

pub sizes_means : (f g h : GatesOf) (a b p q word : List LitOf) (signed : Bool) (n : ℕ) (F : ℤ → ℤ → ℤ) → Continues f h → Continues g h → length a ≤ n → length b ≤ n → MeansRow f (λ x. fit n (pos (unsigned_abs (value signed (row_of x a))))) p →
    MeansRow g (λ x. fit n (pos (unsigned_abs (value signed (row_of x b))))) q → MeansRow h (λ x. fit (length p) (F (pos (num (row_of x p))) (pos (num (row_of x q))))) word →
    MeansRow h (λ x. fit n (F (pos (unsigned_abs (value signed (row_of x a)))) (pos (unsigned_abs (value signed (row_of x b)))))) word
sizes_means f g h a b p q word signed n F j k la lb ep eq ew =
    let long : length p ≡ n = fit_long f n (λ x. pos (unsigned_abs (value signed (row_of x a)))) p ep in
    record {
      as_many = λ x. ew.as_many x ∙ length-fit (length p) (F (pos (num (row_of x p))) (pos (num (row_of x q)))) ∙ long ∙ sym (length-fit n (F (pos (unsigned_abs (value signed (row_of x a)))) (pos (unsigned_abs (value signed (row_of x b))))));
      within = ew.within;
      means = λ x s.
          let na = length-row x a in
          let nb = length-row x b in
          let a_is : num (row_of x p) ≡ unsigned_abs (value signed (row_of x a)) = ap num (ep.means x (keeps f h j x s)) ∙ num-fit_small n (unsigned_abs (value signed (row_of x a))) (abs_below (row_of x a) signed n (omega arith)) in
          let b_is : num (row_of x q) ≡ unsigned_abs (value signed (row_of x b)) = ap num (eq.means x (keeps g h k x s)) ∙ num-fit_small n (unsigned_abs (value signed (row_of x b))) (abs_below (row_of x b) signed n (omega arith)) in
          ew.means x s ∙ ap (λ (m : ℕ). fit m (F (pos (num (row_of x p))) (pos (num (row_of x q))))) long ∙ ap (λ (m : ℕ). fit n (F (pos m) (pos (num (row_of x q))))) a_is ∙ ap (λ (m : ℕ). fit n (F (pos (unsigned_abs (value signed (row_of x a)))) (pos m))) b_is;
    }

pub sizes_divided : (f g h : GatesOf) (a b p q u v word : List LitOf) (signed : Bool) (n : ℕ) (F : ℤ → ℤ → ℤ) → Continues g h → Continues f g → length a ≤ n → length b ≤ n → u ≡ p → v ≡ q → MeansRow f (λ x. fit n (pos (unsigned_abs (value signed (row_of x a))))) p →
    MeansRow g (λ x. fit n (pos (unsigned_abs (value signed (row_of x b))))) q → MeansRow h (λ x. fit (length u) (F (pos (num (row_of x u))) (pos (num (row_of x v))))) word →
    MeansRow h (λ x. fit n (F (pos (unsigned_abs (value signed (row_of x a)))) (pos (unsigned_abs (value signed (row_of x b)))))) word
sizes_divided f g h a b p q u v word signed n F k j la lb eu ev ep eq m =
    sizes_means f g h a b p q word signed n F (Continues-trans f g h j k) k la lb ep eq
    (subst (λ (w : List LitOf). MeansRow h (λ x. fit (length p) (F (pos (num (row_of x p))) (pos (num (row_of x w))))) word) ev
    (subst (λ (w : List LitOf). MeansRow h (λ x. fit (length w) (F (pos (num (row_of x w))) (pos (num (row_of x v))))) word) eu m))

-- the quotient and what is left by the sizes and the signs
quotient_by : (a b : ℤ) → quotient a b ≡ cond (either_one (is_negative a) (is_negative b)) (pos 0 -ℤ quotient (pos (unsigned_abs a)) (pos (unsigned_abs b))) (quotient (pos (unsigned_abs a)) (pos (unsigned_abs b)))
quotient_by (pos m) (pos zero) = refl
quotient_by (negsuc m) (pos zero) = refl
quotient_by (pos m) (pos (suc n)) = refl
quotient_by (negsuc m) (pos (suc n)) = omega (arith, ints)
quotient_by (pos m) (negsuc n) = omega (arith, ints)
quotient_by (negsuc m) (negsuc n) = refl

remainder_by : (a b : ℤ) → remainder a b ≡ cond (is_negative a) (pos 0 -ℤ remainder (pos (unsigned_abs a)) (pos (unsigned_abs b))) (remainder (pos (unsigned_abs a)) (pos (unsigned_abs b)))
remainder_by (pos m) (pos zero) = refl
remainder_by (negsuc m) (pos zero) = omega (arith, ints)
remainder_by (pos m) (pos (suc n)) = refl
remainder_by (negsuc m) (pos (suc n)) = omega (arith, ints)
remainder_by (pos m) (negsuc n) = refl
remainder_by (negsuc m) (negsuc n) = omega (arith, ints)

turned_fit : (n : ℕ) (z : ℤ) (s : Bool) → cond s (fit n (pos 0 -ℤ pos (num (fit n z)))) (fit n z) ≡ fit n (cond s (pos 0 -ℤ z) z)
turned_fit n z true = opposite_cut n z
turned_fit n z false = refl

pub quotient_row : (n : ℕ) (a b : ℤ) (s t : Bool) → s ≡ is_negative a → t ≡ is_negative b → (row : Row) → row ≡ fit n (quotient (pos (unsigned_abs a)) (pos (unsigned_abs b))) →
    cond (either_one s t) (fit n (pos 0 -ℤ pos (num row))) row ≡ fit n (quotient a b)
quotient_row n a b s t es et row er =
    ap (λ (r : Row). cond (either_one s t) (fit n (pos 0 -ℤ pos (num r))) r) er ∙ turned_fit n (quotient (pos (unsigned_abs a)) (pos (unsigned_abs b))) (either_one s t)
    ∙ ap (λ (c : Bool). fit n (cond (either_one c t) (pos 0 -ℤ quotient (pos (unsigned_abs a)) (pos (unsigned_abs b))) (quotient (pos (unsigned_abs a)) (pos (unsigned_abs b))))) es
    ∙ ap (λ (c : Bool). fit n (cond (either_one (is_negative a) c) (pos 0 -ℤ quotient (pos (unsigned_abs a)) (pos (unsigned_abs b))) (quotient (pos (unsigned_abs a)) (pos (unsigned_abs b))))) et
    ∙ ap (fit n) (sym (quotient_by a b))

pub remainder_row : (n : ℕ) (a b : ℤ) (s : Bool) → s ≡ is_negative a → (row : Row) → row ≡ fit n (remainder (pos (unsigned_abs a)) (pos (unsigned_abs b))) →
    cond s (fit n (pos 0 -ℤ pos (num row))) row ≡ fit n (remainder a b)
remainder_row n a b s es row er =
    ap (λ (r : Row). cond s (fit n (pos 0 -ℤ pos (num r))) r) er ∙ turned_fit n (remainder (pos (unsigned_abs a)) (pos (unsigned_abs b))) s
    ∙ ap (λ (c : Bool). fit n (cond c (pos 0 -ℤ remainder (pos (unsigned_abs a)) (pos (unsigned_abs b))) (remainder (pos (unsigned_abs a)) (pos (unsigned_abs b))))) es
    ∙ ap (fit n) (sym (remainder_by a b))

length-turned : (n : ℕ) (s : Bool) (z : ℤ) (r : Row) → length r ≡ n → length (cond s (fit n z) r) ≡ n
length-turned n true z r e = length-fit n z
length-turned n false z r e = e

pub signed_quotient : (g h : GatesOf) (bits word : List LitOf) (a b sign : LitOf) → Continues g h → MeansBit g (λ x. either_one (lit_in x a) (lit_in x b)) sign →
    MeansRow h (λ x. cond (lit_in x sign) (fit (length bits) (pos 0 -ℤ pos (num (row_of x bits)))) (row_of x bits)) word →
    MeansRow h (λ x. cond (either_one (lit_in x a) (lit_in x b)) (fit (length bits) (pos 0 -ℤ pos (num (row_of x bits)))) (row_of x bits)) word
signed_quotient g h bits word a b sign k m r = record {
  as_many = λ x. r.as_many x ∙ length-turned (length bits) (lit_in x sign) (pos 0 -ℤ pos (num (row_of x bits))) (row_of x bits) (length-row x bits) ∙ sym (length-turned (length bits) (either_one (lit_in x a) (lit_in x b)) (pos 0 -ℤ pos (num (row_of x bits))) (row_of x bits) (length-row x bits));
  within = r.within;
  means = λ x s. r.means x s ∙ ap (λ (c : Bool). cond c (fit (length bits) (pos 0 -ℤ pos (num (row_of x bits)))) (row_of x bits)) (m.means x (keeps g h k x s));
}

pub div_means : (e g h : GatesOf) (a b bits word : List LitOf) (s t : LitOf) (signed : Bool) (n : ℕ) → Continues e g → Continues g h → Means e s (λ x. signed && top_bit (row_of x a)) → Means e t (λ x. signed && top_bit (row_of x b)) →
    MeansRow g (λ x. fit n (quotient (pos (unsigned_abs (value signed (row_of x a)))) (pos (unsigned_abs (value signed (row_of x b)))))) bits →
    MeansRow h (λ x. cond (either_one (lit_in x s) (lit_in x t)) (fit (length bits) (pos 0 -ℤ pos (num (row_of x bits)))) (row_of x bits)) word → MeansRow h (λ x. fit n (quotient (value signed (row_of x a)) (value signed (row_of x b)))) word
div_means e g h a b bits word s t signed n j k es et eb ew =
    let long : length bits ≡ n = fit_long g n (λ x. quotient (pos (unsigned_abs (value signed (row_of x a)))) (pos (unsigned_abs (value signed (row_of x b))))) bits eb in
    record {
      as_many = λ x. ew.as_many x ∙ ap (λ (m : ℕ). length (cond (either_one (lit_in x s) (lit_in x t)) (fit m (pos 0 -ℤ pos (num (row_of x bits)))) (row_of x bits))) long ∙ length-turned n (either_one (lit_in x s) (lit_in x t)) (pos 0 -ℤ pos (num (row_of x bits))) (row_of x bits) (length-row x bits ∙ long)
          ∙ sym (length-fit n (quotient (value signed (row_of x a)) (value signed (row_of x b))));
      within = ew.within;
      means = λ x q.
          let qg = keeps g h k x q in
          let qe = keeps e g j x qg in
          ew.means x q ∙ ap (λ (m : ℕ). cond (either_one (lit_in x s) (lit_in x t)) (fit m (pos 0 -ℤ pos (num (row_of x bits)))) (row_of x bits)) long
          ∙ quotient_row n (value signed (row_of x a)) (value signed (row_of x b)) (lit_in x s) (lit_in x t) (es x qe ∙ sign_is (row_of x a) signed) (et x qe ∙ sign_is (row_of x b) signed) (row_of x bits) (eb.means x qg);
    }

pub mod_means : (e g h : GatesOf) (a b rest word : List LitOf) (s : LitOf) (signed : Bool) (n : ℕ) → Continues e g → Continues g h → Means e s (λ x. signed && top_bit (row_of x a)) →
    MeansRow g (λ x. fit n (remainder (pos (unsigned_abs (value signed (row_of x a)))) (pos (unsigned_abs (value signed (row_of x b)))))) rest →
    MeansRow h (λ x. cond (lit_in x s) (fit (length rest) (pos 0 -ℤ pos (num (row_of x rest)))) (row_of x rest)) word → MeansRow h (λ x. fit n (remainder (value signed (row_of x a)) (value signed (row_of x b)))) word
mod_means e g h a b rest word s signed n j k es eb ew =
    let long : length rest ≡ n = fit_long g n (λ x. remainder (pos (unsigned_abs (value signed (row_of x a)))) (pos (unsigned_abs (value signed (row_of x b))))) rest eb in
    record {
      as_many = λ x. ew.as_many x ∙ ap (λ (m : ℕ). length (cond (lit_in x s) (fit m (pos 0 -ℤ pos (num (row_of x rest)))) (row_of x rest))) long ∙ length-turned n (lit_in x s) (pos 0 -ℤ pos (num (row_of x rest))) (row_of x rest) (length-row x rest ∙ long)
          ∙ sym (length-fit n (remainder (value signed (row_of x a)) (value signed (row_of x b))));
      within = ew.within;
      means = λ x q.
          let qg = keeps g h k x q in
          let qe = keeps e g j x qg in
          ew.means x q ∙ ap (λ (m : ℕ). cond (lit_in x s) (fit m (pos 0 -ℤ pos (num (row_of x rest)))) (row_of x rest)) long
          ∙ remainder_row n (value signed (row_of x a)) (value signed (row_of x b)) (lit_in x s) (es x qe ∙ sign_is (row_of x a) signed) (row_of x rest) (eb.means x qg);
    }

pub length-divide : (k : Divide) (n : ℕ) (a b : ℤ) → length (divide_fn k n a b) ≡ n
length-divide Div n a b = length-fit n (quotient a b)
length-divide Mod n a b = length-fit n (remainder a b)

pub divide_cut : (k : Divide) (y n : ℕ) (a b : ℤ) → y ≤ n → fit y (pos (num (divide_fn k n a b))) ≡ divide_fn k y a b
divide_cut Div y n a b h = cut_again y n (quotient a b) h
divide_cut Mod y n a b h = cut_again y n (remainder a b) h

pub divide_means : (g : GatesOf) (k : Divide) (a b wide word : List LitOf) (signed : Bool) (y n : ℕ) → y ≤ n → MeansRow g (λ x. divide_fn k n (value signed (row_of x a)) (value signed (row_of x b))) wide →
    MeansRow g (λ x. fit y (value false (row_of x wide))) word → MeansRow g (λ x. divide_fn k y (value signed (row_of x a)) (value signed (row_of x b))) word
divide_means g k a b wide word signed y n h m r = record {
  as_many = λ x. r.as_many x ∙ length-fit y (value false (row_of x wide)) ∙ sym (length-divide k y (value signed (row_of x a)) (value signed (row_of x b)));
  within = r.within;
  means = λ x s. r.means x s ∙ ap (λ (t : Row). fit y (pos (num t))) (m.means x s) ∙ divide_cut k y n (value signed (row_of x a)) (value signed (row_of x b)) h;
}

pub divide_few : (n w : ℕ) → 1 ≤ n → n + 1 ≤ w → 12 * n + 1 + divided_gates n ≤ square w
divide_few n w h k = let p : (n + 1) * (n + 1) ≤ w * w = mul-le (n + 1) (n + 1) w w k k in omega arith

pub steps_fit : (w k n : ℕ) → k < n → w * k + w ≤ w * n
steps_fit w k n h = let q : w * (k + 1) ≤ w * n = mul-le w (k + 1) w n (omega arith) (omega arith) in omega arith
