-- Operands as the definitions of nodes have them.
use Rattle.std.proofs.Common.{◌≡◌, ℕ, ◌*◌, ◌/◌, ◌^◌, Bool, true, false, List, [], ◌∷◌, refl, sym, ap, ◌∙◌, arith, length, get_or}
use Rattle.std.specs.Prelude.{cond}
use Rattle.std.proofs.Math.Nat.{mul-div_cancel}
use Rattle.std.proofs.Math.Pow.{pow_pos}
use Rattle.cnf_form.specs.Cnf.{LitOf, Assignment, lit_in}
use Rattle.gate_graph.specs.Circuit.{GatesOf, Continues}
use Rattle.gate_graph.specs.Laws.{keeps}
use Rattle.gate_rows.proofs.Building.{length-row}
use Rattle.gate_rows.specs.Literals.{MeansRow, row_of}
use Rattle.sby_bits.specs.Rows.{Row}
use Rattle.cell_table.specs.Cells.{mux_fn}
use Rattle.model_core.specs.Meaning.{is_set}

one_bit : (b : Bool) → b ≡ is_set (b ∷ [])
one_bit true = refl
one_bit false = refl

is_set_one : (x : Assignment) (s : List LitOf) (l : LitOf) → length s ≡ 1 → l ≡ get_or s 0 l → lit_in x l ≡ is_set (row_of x s)
is_set_one x [] l n e = absurd (omega arith)
is_set_one x (m ∷ []) l n e = ap (lit_in x) e ∙ one_bit (lit_in x m)
is_set_one x (m ∷ k ∷ s) l n e = absurd (omega arith)

pub select_means : (g : GatesOf) (a b s word : List LitOf) (l : LitOf) → length s ≡ 1 → l ≡ get_or s 0 l → MeansRow g (λ x. mux_fn (row_of x a) (row_of x b) (lit_in x l)) word →
    MeansRow g (λ x. mux_fn (row_of x a) (row_of x b) (is_set (row_of x s))) word
select_means g a b s word l n e r = record {
  as_many = λ x. r.as_many x ∙ ap (λ (z : Bool). length (mux_fn (row_of x a) (row_of x b) z)) (is_set_one x s l n e);
  within = r.within;
  means = λ x t. r.means x t ∙ ap (mux_fn (row_of x a) (row_of x b)) (is_set_one x s l n e);
}

pub slice_width : (a y s : ℕ) → a ≡ y * 2 ^ s → a / 2 ^ s ≡ y
slice_width a y s e = ap (λ (n : ℕ). n / 2 ^ s) e ∙ mul-div_cancel y (pow_pos s)

pub width_again : (a y s : ℕ) → a ≡ y * 2 ^ s → a ≡ a / 2 ^ s * 2 ^ s
width_again a y s e = e ∙ ap (λ (n : ℕ). n * 2 ^ s) (sym (slice_width a y s e))

-- a choice in which one row stands for another
cond_long : (s : Bool) (a b c d : Row) → length a ≡ length c → length b ≡ length d → length (cond s a b) ≡ length (cond s c d)
cond_long true a b c d p q = p
cond_long false a b c d p q = q

pub later_row : (g h : GatesOf) (w next : List LitOf) (W : Assignment → Row) (C : Assignment → Row → Row) → Continues g h → MeansRow g W w →
    ((x : Assignment) (a b : Row) → length a ≡ length b → length (C x a) ≡ length (C x b)) → MeansRow h (λ x. C x (row_of x w)) next → MeansRow h (λ x. C x (W x)) next
later_row g h w next W C k m l r = record {
  as_many = λ x. r.as_many x ∙ l x (row_of x w) (W x) (length-row x w ∙ m.as_many x);
  within = r.within;
  means = λ x s. r.means x s ∙ ap (C x) (m.means x (keeps g h k x s));
}

pub mux_long : (g : GatesOf) (a b word : List LitOf) (l : LitOf) → length a ≡ length b → MeansRow g (λ x. mux_fn (row_of x a) (row_of x b) (lit_in x l)) word → length word ≡ length a
mux_long g a b word l e r =
    let x : Assignment = λ _. false in
    r.as_many x ∙ cond_long (lit_in x l) (row_of x b) (row_of x a) (row_of x a) (row_of x a) (length-row x b ∙ sym e ∙ sym (length-row x a)) refl ∙ same (lit_in x l) (row_of x a) ∙ length-row x a
  where
    same : (s : Bool) (r : Row) → length (cond s r r) ≡ length r
    same true r = refl
    same false r = refl

pub reset_means : (g h : GatesOf) (q d value kept next : List LitOf) (enable reset : LitOf) → Continues g h → MeansRow g (λ x. mux_fn (row_of x q) (row_of x d) (lit_in x enable)) kept →
    MeansRow h (λ x. mux_fn (row_of x kept) (row_of x value) (lit_in x reset)) next → MeansRow h (λ x. cond (lit_in x reset) (row_of x value) (cond (lit_in x enable) (row_of x d) (row_of x q))) next
reset_means g h q d value kept next enable reset k p r =
    later_row g h kept next (λ x. mux_fn (row_of x q) (row_of x d) (lit_in x enable)) (λ x a. cond (lit_in x reset) (row_of x value) a) k p
    (λ x a b e. cond_long (lit_in x reset) (row_of x value) a (row_of x value) b refl e) r

pub enable_means : (g h : GatesOf) (q d value taken next : List LitOf) (enable reset : LitOf) → Continues g h → MeansRow g (λ x. mux_fn (row_of x d) (row_of x value) (lit_in x reset)) taken →
    MeansRow h (λ x. mux_fn (row_of x q) (row_of x taken) (lit_in x enable)) next → MeansRow h (λ x. cond (lit_in x enable) (cond (lit_in x reset) (row_of x value) (row_of x d)) (row_of x q)) next
enable_means g h q d value taken next enable reset k p r =
    later_row g h taken next (λ x. mux_fn (row_of x d) (row_of x value) (lit_in x reset)) (λ x a. cond (lit_in x enable) a (row_of x q)) k p
    (λ x a b e. cond_long (lit_in x enable) a (row_of x q) b (row_of x q) e refl) r

pub kept_long : (g : GatesOf) (q d kept row qi di : List LitOf) (l : LitOf) → q ≡ qi → d ≡ di → length di ≡ length qi → row ≡ kept → MeansRow g (λ x. mux_fn (row_of x q) (row_of x d) (lit_in x l)) kept → length row ≡ length qi
kept_long g q d kept row qi di l eq ed n er r = ap length er ∙ mux_long g q d kept l (ap length eq ∙ sym n ∙ sym (ap length ed)) r ∙ ap length eq
