-- Two rows whose sum is the product, but for whole multiples of 2 ^ y.
use Rattle.std.proofs.Common.{◌≡◌, ℕ, ◌+◌, ◌*◌, ◌^◌, ◌/◌, ◌%◌, ◌<◌, Bool, true, false, cond, List, [], ◌∷◌, ◌++◌, length, take, get_or, refl, sym, ◌∙◌, ap, subst, ◌≤◌, arith}
use Rattle.std.specs.Prelude.{All, pos}
use Rattle.std.proofs.lemmas.List.{take_all}
use Rattle.std.proofs.lemmas.List.Elements.{All-nil}
use Rattle.std.proofs.Math.Nat.{mul-add, div-add-mod, mul-le-mul_left}
use Rattle.cnf_form.specs.Cnf.{LitOf, Assignment, Satisfies, LitWithin, lit_in}
use Rattle.cell_table.specs.Cells.{bitwise}
use Rattle.gate_graph.specs.Circuit.{GatesOf, Means}
use Rattle.gate_graph.specs.Laws.{keeps}
use Rattle.sby_bits.specs.Rows.{Row, num, fit}
use Rattle.sby_bits.proofs.Numbers.{num-take, length-fit}
use Rattle.sby_bits.proofs.RowLaws.{num-fit}
use Rattle.gate_rows.specs.Literals.{Builds, MeansRow, row_of}
use Rattle.gate_rows.specs.Sums.{at, op_bit, Under, AddsTerm, IsProduct, IsSave, IsSum}
use Rattle.gate_rows.proofs.Adding.{fit_sum}
use Rattle.gate_rows.proofs.Building.{Builds-none, Builds-trans, Builds-more, All-later, length-row, length-bitwise, read}

-- a choice between two rows, bit by bit
pub chosen : (s : Bool) (r t : Row) → length r ≡ length t → bitwise (λ a b. cond s b a) r t ≡ cond s t r
chosen true [] [] e = refl
chosen true (a ∷ r) [] e = absurd (omega arith)
chosen true [] (b ∷ t) e = absurd (omega arith)
chosen true (a ∷ r) (b ∷ t) e = ap (λ (q : Row). b ∷ q) (chosen true r t (omega arith))
chosen false [] [] e = refl
chosen false (a ∷ r) [] e = absurd (omega arith)
chosen false [] (b ∷ t) e = absurd (omega arith)
chosen false (a ∷ r) (b ∷ t) e = ap (λ (q : Row). a ∷ q) (chosen false r t (omega arith))

pub term_row : (y n k : ℕ) (b : Bool) → cond b (fit y (pos (n * 2 ^ k))) (fit y (pos (0 * 2 ^ 0))) ≡ fit y (pos (n * at k b))
term_row y n k true = refl
term_row y n k false = ap (λ (m : ℕ). fit y (pos m)) (omega arith)

swapped : (p m q n : ℕ) → p ≡ m → q + m ≡ n → p + q ≡ n
swapped p m q n e h = omega arith

-- a row is its number, but for whole multiples
pub Under-fit : (y n : ℕ) (p : Row) → p ≡ fit y (pos n) → Under y (num p) n
Under-fit y n p e = (n / 2 ^ y, swapped (num p) (n % 2 ^ y) (2 ^ y * (n / 2 ^ y)) n (ap num e ∙ num-fit y (pos n)) (div-add-mod n (2 ^ y)))

pub carried : (y : ℕ) (b : Bool) → at y b ≡ 2 ^ y * cond b 1 0
carried y true = omega arith
carried y false = omega arith

two : (y i j : ℕ) → y * (i + j) ≡ y * i + y * j
two y i j = mul-add y i j

saved : (y s c p t u n j over v : ℕ) → t + u + v ≡ s + c + p → p + y * j ≡ n → v ≡ y * over → y * (j + over) ≡ y * j + y * over → (t + u) + y * (j + over) ≡ s + c + n
saved y s c p t u n j over v h1 h2 h3 h4 = omega arith

-- three rows as two, the third being a term
pub save_term : (y s c p t u n : ℕ) (over : Bool) → t + u + at y over ≡ s + c + p → Under y p n → Under y (t + u) (s + c + n)
save_term y s c p t u n over e (j, h) = (j + cond over 1 0, saved (2 ^ y) s c p t u n j (cond over 1 0) (at y over) e h (carried y over) (two (2 ^ y) j (cond over 1 0)))

joined : (y i j m k n t : ℕ) → t + y * j ≡ m + n → m + y * i ≡ k → y * (i + j) ≡ y * i + y * j → t + y * (i + j) ≡ k + n
joined y i j m k n t h1 h2 h3 = omega arith

-- a term on rows that are a product
pub Under-more : (y t m n k : ℕ) → Under y t (m + n) → Under y m k → Under y t (k + n)
Under-more y t m n k (j, h) (i, g) = (i + j, joined (2 ^ y) i j m k n t h g (two (2 ^ y) i j))

added : (y r v s i n over : ℕ) → r + v ≡ s → s + y * i ≡ n → v ≡ y * over → y * (i + over) ≡ y * i + y * over → r + y * (i + over) ≡ n
added y r v s i n over h1 h2 h3 h4 = omega arith

-- the adder at the end
pub product_row : (y n s : ℕ) (r : Row) (over : Bool) → length r ≡ y → num r + at y over ≡ s → Under y s n → r ≡ fit y (pos n)
product_row y n s r over e h (i, g) = fit_sum r y n (i + cond over 1 0) e (added (2 ^ y) (num r) (at y over) s i n (cond over 1 0) h g (carried y over) (two (2 ^ y) i (cond over 1 0)))

-- no bit of b yet
pub Product-none : (g : GatesOf) (y : ℕ) (a b s c : List LitOf) → MeansRow g (λ x. fit y (pos (0 * 2 ^ 0))) s → MeansRow g (λ x. fit y (pos (0 * 2 ^ 0))) c → IsProduct g g y a b 0 s c
Product-none g y a b s c m n = record {
  builds = Builds-none g (4 * y * 0);
  s_long = let x : Assignment = λ _. false in m.as_many x ∙ length-fit y (pos (0 * 2 ^ 0));
  c_long = let x : Assignment = λ _. false in n.as_many x ∙ length-fit y (pos (0 * 2 ^ 0));
  s_within = m.within;
  c_within = n.within;
  sum = λ x t.
      let (i, h) = Under-fit y (0 * 2 ^ 0) (row_of x s) (m.means x t) in
      let (j, k) = Under-fit y (0 * 2 ^ 0) (row_of x c) (n.means x t) in
      let none : num (row_of x a) * num (take 0 (row_of x b)) ≡ 0 = omega arith in
      (0, nothing (num (row_of x s)) (num (row_of x c)) (2 ^ y * i) (2 ^ y * j) (2 ^ y * 0) (num (row_of x a) * num (take 0 (row_of x b))) h k (omega arith) none);
}
  where
    nothing : (s c i j z n : ℕ) → s + i ≡ 0 * 2 ^ 0 → c + j ≡ 0 * 2 ^ 0 → z ≡ 0 → n ≡ 0 → (s + c) + z ≡ n
    nothing s c i j z n h k e m = omega arith

four : (y k : ℕ) → 4 * y * (k + 1) ≡ 4 * y * k + 4 * y
four y k = mul-add (4 * y) k 1 ∙ omega arith

-- one bit more of b
pub Product-next : (f g h : GatesOf) (y : ℕ) (a b : List LitOf) (k : ℕ) (s c t u : List LitOf) (bit : LitOf) → IsProduct f g y a b k s c → k < length b → bit ≡ get_or b k bit →
    AddsTerm g h y a bit k s c t u → IsProduct f h y a b (k + 1) t u
Product-next f g h y a b k s c t u bit z lt e w = record {
  builds = Builds-trans f g h (4 * y * k) (4 * y) (4 * y * (k + 1)) z.builds w.builds (let q = four y k in omega arith);
  s_long = w.t_long;
  c_long = w.u_long;
  s_within = w.t_within;
  c_within = w.u_within;
  sum = λ x q.
      let n = length-row x b in
      let more : num (row_of x a) * num (take (k + 1) (row_of x b)) ≡ num (row_of x a) * num (take k (row_of x b)) + num (row_of x a) * at k (lit_in x bit) =
      ap (λ (m : ℕ). num (row_of x a) * m) (num-take (row_of x b) k (omega arith) ∙ ap (λ (b' : Bool). num (take k (row_of x b)) + at k b') (read x b k bit lt e))
      ∙ mul-add (num (row_of x a)) (num (take k (row_of x b))) (at k (lit_in x bit)) in
      subst (Under y (num (row_of x t) + num (row_of x u))) (sym more)
      (Under-more y (num (row_of x t) + num (row_of x u)) (num (row_of x s) + num (row_of x c)) (num (row_of x a) * at k (lit_in x bit)) (num (row_of x a) * num (take k (row_of x b)))
      (w.sum x q) (z.sum x (keeps g h w.builds.continues x q)));
}

pub term_means : (g h : GatesOf) (y k : ℕ) (a z m w : List LitOf) (bit : LitOf) → MeansRow g (λ x. fit y (pos (0 * 2 ^ 0))) z → MeansRow g (λ x. fit y (pos (num (row_of x a) * 2 ^ k))) m → Builds g h y →
    MeansRow h (λ x. bitwise (λ p q. cond (lit_in x bit) q p) (row_of x z) (row_of x m)) w → MeansRow h (λ x. fit y (pos (num (row_of x a) * at k (lit_in x bit)))) w
term_means g h y k a z m w bit zz mm u r =
    let long : (x : Assignment) → length (row_of x z) ≡ length (row_of x m) = λ x. length-row x z ∙ zz.as_many x ∙ length-fit y (pos (0 * 2 ^ 0)) ∙ sym (length-fit y (pos (num (row_of x a) * 2 ^ k))) ∙ sym (mm.as_many x) ∙ sym (length-row x m) in
    record {
      as_many = λ x. r.as_many x ∙ length-bitwise (λ p q. cond (lit_in x bit) q p) (row_of x z) (row_of x m) (long x) ∙ length-row x z ∙ zz.as_many x ∙ length-fit y (pos (0 * 2 ^ 0)) ∙ sym (length-fit y (pos (num (row_of x a) * at k (lit_in x bit))));
      within = r.within;
      means = λ x t.
          let tg = keeps g h u.continues x t in
          r.means x t ∙ chosen (lit_in x bit) (row_of x z) (row_of x m) (long x)
          ∙ ap (λ (q : Row). cond (lit_in x bit) q (row_of x z)) (mm.means x tg) ∙ ap (λ (q : Row). cond (lit_in x bit) (fit y (pos (num (row_of x a) * 2 ^ k))) q) (zz.means x tg)
          ∙ term_row y (num (row_of x a)) k (lit_in x bit);
    }

all_of : (x : Assignment) (y : ℕ) (a : List LitOf) → length a ≡ y → num (take y (row_of x a)) ≡ num (row_of x a)
all_of x y a e = ap num (take_all y (row_of x a) (let n = length-row x a in omega arith))

pub term_added : (f g h : GatesOf) (y k : ℕ) (a s c p t u : List LitOf) (bit over : LitOf) → length s ≡ y → length c ≡ y → Builds f g y → MeansRow g (λ x. fit y (pos (num (row_of x a) * at k (lit_in x bit)))) p →
    IsSave g h s c p y t u over → AddsTerm f h y a bit k s c t u
term_added f g h y k a s c p t u bit over se ce b m z = record {
  builds = Builds-trans f g h y (3 * y) (4 * y) b z.builds (omega arith);
  t_long = z.as_many;
  u_long = z.as_many_carries;
  t_within = z.within;
  u_within = z.carries_within;
  sum = λ x q.
      let pe : length p ≡ y = m.as_many x ∙ length-fit y (pos (num (row_of x a) * at k (lit_in x bit))) in
      let pf = Under-fit y (num (row_of x a) * at k (lit_in x bit)) (row_of x p) (m.means x (keeps g h z.builds.continues x q)) in
      save_term y (num (row_of x s)) (num (row_of x c)) (num (row_of x p)) (num (row_of x t)) (num (row_of x u)) (num (row_of x a) * at k (lit_in x bit)) (lit_in x over)
      (z.sum x q ∙ three (num (take y (row_of x s))) (num (take y (row_of x c))) (num (take y (row_of x p))) (num (row_of x s)) (num (row_of x c)) (num (row_of x p)) (all_of x y s se) (all_of x y c ce) (all_of x y p pe)) pf;
}
  where
    three : (a b c d e f : ℕ) → a ≡ d → b ≡ e → c ≡ f → a + b + c ≡ d + e + f
    three a b c d e f p q r = omega arith

-- the sum of both rows
pub Product-row : (f g h : GatesOf) (y : ℕ) (a b s c r : List LitOf) (zero over : LitOf) → length b ≡ y → IsProduct f g y a b y s c → Means g zero (λ _. false) → IsSum g h s c zero y r over →
    MeansRow h (λ x. fit y (pos (num (row_of x a) * num (row_of x b)))) r
Product-row f g h y a b s c r zero over be z n w = record {
  as_many = λ x. w.as_many ∙ sym (length-fit y (pos (num (row_of x a) * num (row_of x b))));
  within = w.within;
  means = λ x q.
      let tg = keeps g h w.builds.continues x q in
      let whole : num (row_of x a) * num (take y (row_of x b)) ≡ num (row_of x a) * num (row_of x b) = ap (λ (m : ℕ). num (row_of x a) * m) (all_of x y b be) in
      product_row y (num (row_of x a) * num (row_of x b)) (num (row_of x s) + num (row_of x c)) (row_of x r) (lit_in x over) (length-row x r ∙ w.as_many)
      (w.sum x q ∙ ends (num (take y (row_of x s))) (num (take y (row_of x c))) (num (row_of x s)) (num (row_of x c)) (at 0 (lit_in x zero)) (all_of x y s z.s_long) (all_of x y c z.c_long) (ap (at 0) (n x tg)))
      (subst (Under y (num (row_of x s) + num (row_of x c))) whole (z.sum x tg));
}
  where
    ends : (a b c d e : ℕ) → a ≡ c → b ≡ d → e ≡ 0 → a + b + e ≡ c + d
    ends a b c d e p q r = omega arith

-- the gates of the places that are left
pub places_fit : (y k : ℕ) → k < y → 4 * y * k + 4 * y ≤ 4 * y * y + 3 * y
places_fit y k h = let e : 4 * y * k + 4 * y ≡ 4 * y * (k + 1) = sym (four y k) in let m : 4 * y * (k + 1) ≤ 4 * y * y = mul-le-mul_left (4 * y) (omega arith) in omega arith
