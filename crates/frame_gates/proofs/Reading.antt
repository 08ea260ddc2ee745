-- Rows read from a table and written to it.
use Rattle.std.proofs.Common.{◌≡◌, ℕ, zero, suc, ◌+◌, ◌<◌, ◌≤◌, List, [], ◌∷◌, ◌++◌, Some, None, refl, sym, ap, ◌∙◌, subst, inl, inr, arith, length, set, get_or}
use Rattle.std.specs.Prelude.{slice_get, Contains, All}
use Rattle.std.proofs.lemmas.Option.{slice_get_within}
use Rattle.std.proofs.lemmas.List.{length-set, map-append}
use Rattle.cnf_form.specs.Cnf.{LitOf, Assignment, LitWithin, lit_in}
use Rattle.gate_graph.specs.Circuit.{GatesOf, Continues}
use Rattle.gate_graph.specs.Folding.{constant}
use Rattle.gate_rows.specs.Literals.{row_of}
use Rattle.model_core.specs.Shape.{ModelOf, IsDistinct}
use Rattle.model_core.specs.Meaning.{row_at}
use Rattle.frame_gates.specs.Frames.{IsTable, cycle_of, lit_at, lits_at}
use Rattle.frame_gates.specs.Rows.{IsWritten}
use Rattle.model_core.proofs.Lists.{all_at, all_from, below_or_last, contained_at}
use Rattle.frame_gates.proofs.Lists.{get_at, map_map, one_at, same_list}

-- the row at places
pub read_row : (x : Assignment) (table : List LitOf) (places : List ℕ) → row_of x (lits_at table places) ≡ row_at (cycle_of table x) places
read_row x table places = map_map (lit_in x) (lit_at table) places

pub read_push : (table : List LitOf) (places : List ℕ) (p : ℕ) (row : List LitOf) (l : LitOf) → p < length table → l ≡ get_or table p l → row ≡ lits_at table places →
    row ++ l ∷ [] ≡ lits_at table (places ++ p ∷ [])
read_push table places p row l h e r =
    let same : l ≡ lit_at table p = e ∙ default table p l (constant Rattle.std.specs.Prelude.false) h in
    ap (λ (ls : List LitOf). ls ++ l ∷ []) r ∙ ap (λ (m : LitOf). lits_at table places ++ m ∷ []) same ∙ sym (map-append (lit_at table) places (p ∷ []))
  where
    default : (xs : List LitOf) (k : ℕ) (d e : LitOf) → k < length xs → get_or xs k d ≡ get_or xs k e
    default [] k d e h = absurd (omega arith)
    default (y ∷ xs) zero d e h = refl
    default (y ∷ xs) (suc k) d e h = default xs k d e (omega arith)

pub within_at : (n : ℕ) (table : List LitOf) (p : ℕ) → p < length table → All (LitWithin n) table → LitWithin n (lit_at table p)
within_at n table p h w = w p (constant Rattle.std.specs.Prelude.false) h

pub within_lits : (n : ℕ) (table : List LitOf) (places : List ℕ) → All (λ p. p < length table) places → All (LitWithin n) table → All (LitWithin n) (lits_at table places)
within_lits n table places b w = by places b
  where
    by : (ps : List ℕ) → All (λ p. p < length table) ps → All (LitWithin n) (lits_at table ps)
    by ps b = all_from (LitWithin n) (lits_at table ps) (λ k l e.
        let s = mapped ps k l e in
        subst (LitWithin n) s.2 (within_at n table s.0 (all_at (λ (p : ℕ). p < length table) ps k s.0 b s.1) w))
      where
        mapped : (ps : List ℕ) (k : ℕ) (l : LitOf) → slice_get (lits_at table ps) k ≡ Some l → (p : ℕ) × (slice_get ps k ≡ Some p) × (lit_at table p ≡ l)
        mapped [] k l e = absurd (let z : None ≡ Some l = e in cc)
        mapped (p ∷ ps) zero l e = (p, refl, cc)
        mapped (p ∷ ps) (suc k) l e = mapped ps k l e

pub all_more : (m n : ℕ) (lits : List LitOf) → m ≤ n → All (LitWithin m) lits → All (LitWithin n) lits
all_more m n lits h a k d l = let w = a k d l in (w.0, (let u = w.1 in omega arith))

-- tables of gates that have grown
pub table_later : (m : ModelOf) (g h : GatesOf) (table : List LitOf) → Continues g h → IsTable m g table → IsTable m h table
table_later m g h table k t = record { size = t.size; within = all_more g.formula.vars h.formula.vars table k.vars t.within }

-- a row that is written
pub lit_set-same : (table : List LitOf) (p : ℕ) (l : LitOf) → p < length table → lit_at (set table p l) p ≡ l
lit_set-same [] p l h = absurd (omega arith)
lit_set-same (m ∷ table) zero l h = refl
lit_set-same (m ∷ table) (suc p) l h = lit_set-same table p l (omega arith)

pub lit_set-other : (table : List LitOf) (p q : ℕ) (l : LitOf) → (q ≡ p → ⊥) → lit_at (set table p l) q ≡ lit_at table q
lit_set-other [] p q l n = refl
lit_set-other (m ∷ table) zero zero l n = absurd (n refl)
lit_set-other (m ∷ table) zero (suc q) l n = refl
lit_set-other (m ∷ table) (suc p) zero l n = refl
lit_set-other (m ∷ table) (suc p) (suc q) l n = lit_set-other table p q l (λ e. n (ap suc e))

all_set : (P : LitOf → Type 0) (lits : List LitOf) (k : ℕ) (l : LitOf) → All P lits → P l → All P (set lits k l)
all_set P [] k l a p j d h = a j d h
all_set P (m ∷ lits) zero l a p zero d h = p
all_set P (m ∷ lits) zero l a p (suc j) d h = a (suc j) d h
all_set P (m ∷ lits) (suc k) l a p zero d h = a 0 d (omega arith)
all_set P (m ∷ lits) (suc k) l a p (suc j) d h = all_set P lits k l (λ i e g. a (suc i) e (omega arith)) p j d (omega arith)

pub written_none : (places : List ℕ) (row old : List LitOf) → IsWritten places row 0 old old
written_none places row old = record { size = refl; within = λ m w a. a; values = λ k p h e. absurd (omega arith); others = λ p h. refl }

pub written_more : (places : List ℕ) (row : List LitOf) (n : ℕ) (old new : List LitOf) (p : ℕ) (l : LitOf) → All (λ q. q < length old) places → IsDistinct places →
    slice_get places n ≡ Some p → slice_get row n ≡ Some l → IsWritten places row n old new → IsWritten places row (n + 1) old (set new p l)
written_more places row n old new p l below distinct ep el w =
    let z = w.size in
    let b : p < length new = let q = all_at (λ (q : ℕ). q < length old) places n p below ep in omega arith in
    record {
      size = length-set new p l ∙ w.size;
      within = λ m ar ao. all_set (LitWithin m) new p l (w.within m ar ao) (all_at (LitWithin m) row n l ar el);
      values = λ k q h eq. elim (below_or_last k n h) as (λ _. lit_at (set new p l) q ≡ lit_at row k) [
        | inl lt ↦
            lit_set-other new p q l (λ e. let s = distinct k n p (subst (λ (y : ℕ). slice_get places k ≡ Some y) e eq) ep in absurd (omega arith))
            ∙ w.values k q lt eq
        | inr e ↦
            let here : slice_get places n ≡ Some q = subst (λ (j : ℕ). slice_get places j ≡ Some q) e eq in
            let same : q ≡ p = one_at places n q p here ep in
            ap (lit_at (set new p l)) same ∙ lit_set-same new p l b ∙ sym (get_at row n l (constant Rattle.std.specs.Prelude.false) el) ∙ ap (lit_at row) (sym e)
      ];
      others = λ q none.
          lit_set-other new p q l (λ e. none n (omega arith) (subst (λ (y : ℕ). slice_get places n ≡ Some y) (sym e) ep))
          ∙ w.others q (λ k h e. none k (omega arith) e);
    }

-- all of a row
pub written_lits : (places : List ℕ) (row old new : List LitOf) → length row ≡ length places → IsWritten places row (length places) old new → lits_at new places ≡ row
written_lits places row old new n w =
    same_list (lit_at new) places row (sym n) (λ k p l ep el.
    w.values k p (slice_get_within places k p ep) ep ∙ get_at row k l (constant Rattle.std.specs.Prelude.false) el)

pub written_others : (places : List ℕ) (row old new : List LitOf) (p : ℕ) → IsWritten places row (length places) old new → (Contains places p → ⊥) → lit_at new p ≡ lit_at old p
written_others places row old new p w none = w.others p (λ k h e. none (contained_at places p k e))
