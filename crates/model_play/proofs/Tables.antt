-- Rows that are read from a table and written to it.
use Rattle.std.proofs.Common.{◌≡◌, ℕ, suc, ◌+◌, ◌<◌, ◌≤◌, Bool, false, List, [], ◌∷◌, Some, refl, sym, ap, ◌∙◌, inl, inr, arith, length, get_or, set}
use Rattle.std.specs.Prelude.{Contains}
use Rattle.std.proofs.lemmas.List.{get_or-set_other, get_or-set_same, length-set}
use Rattle.std.proofs.lemmas.List.Elements.{Contains-get_or}
use Rattle.std.proofs.lemmas.Option.{slice_get-get_or}
use Rattle.sby_bits.specs.Rows.{Row}
use Rattle.model_core.specs.Meaning.{Cycle, row_at}
use Rattle.model_core.specs.Shape.{AreBelow, IsDistinct}
use Rattle.model_core.proofs.Lists.{below_or_last, contained_at}

pub row_read : (c : Cycle) (ps : List ℕ) (row : Row) → length row ≡ length ps → ((k : ℕ) → k < length ps → get_or row k false ≡ c (get_or ps k 0)) → row ≡ row_at c ps
row_read c [] [] l h = refl
row_read c [] (x ∷ row) l h = absurd (omega arith)
row_read c (p ∷ ps) [] l h = absurd (omega arith)
row_read c (p ∷ ps) (x ∷ row) l h =
    let head : x ≡ c p = h 0 (omega arith) in
    let tail = row_read c ps row (omega arith) (λ k g. h (suc k) (omega arith)) in
    cc

-- the first n bits of the row stand at their places, all else is as it was
pub record IsWritten (ps : List ℕ) (row : Row) (n : ℕ) (old new : Row) : Type 0 where
  pub size : length new ≡ length old
  pub values : (k : ℕ) → k < n → k < length ps → get_or new (get_or ps k 0) false ≡ get_or row k false
  pub others : (p : ℕ) → ((k : ℕ) → k < n → k < length ps → get_or ps k 0 ≡ p → ⊥) → get_or new p false ≡ get_or old p false

pub Written-none : (ps : List ℕ) (row old : Row) → IsWritten ps row 0 old old
Written-none ps row old = record { size = refl; values = λ k h l. absurd (omega arith); others = λ p n. refl }

apart : (ps : List ℕ) (j k : ℕ) → IsDistinct ps → j < k → k < length ps → get_or ps j 0 ≡ get_or ps k 0 → ⊥
apart ps j k d l h e =
    let same : j ≡ k = d j k (get_or ps k 0) (slice_get-get_or ps j 0 (omega arith) ∙ ap Some e) (slice_get-get_or ps k 0 h) in
    omega arith

pub Written-more : (ps : List ℕ) (row : Row) (n q : ℕ) (x : Bool) (old new : Row) → AreBelow (length old) ps → IsDistinct ps → n < length ps → q ≡ get_or ps n 0 → x ≡ get_or row n false
    → IsWritten ps row n old new → IsWritten ps row (n + 1) old (set new q x)
Written-more ps row n q x old new below d l eq ex w =
    let inside : q < length new = let b = below n 0 l in let z = w.size in omega arith in
    record {
      size = length-set new q x ∙ w.size;
      values = λ k h g. elim (below_or_last k n h) as (λ _. get_or (set new q x) (get_or ps k 0) false ≡ get_or row k false) [
        | inl lt ↦ get_or-set_other new q (get_or ps k 0) x false (λ e. apart ps k n d lt l (e ∙ eq)) ∙ w.values k lt g
        | inr same ↦
            ap (λ (i : ℕ). get_or (set new q x) (get_or ps i 0) false) same ∙ ap (λ (i : ℕ). get_or (set new q x) i false) (sym eq)
            ∙ get_or-set_same new q x false inside ∙ ex ∙ ap (λ (i : ℕ). get_or row i false) (sym same)
      ];
      others = λ p none.
          get_or-set_other new q p x false (λ e. none n (omega arith) l (sym eq ∙ sym e))
          ∙ w.others p (λ k h g. none k (omega arith) g);
    }

pub written_all : (ps : List ℕ) (row : Row) (n : ℕ) (old new : Row) → length row ≡ length ps → length ps ≤ n → IsWritten ps row n old new → row_at (λ p. get_or new p false) ps ≡ row
written_all ps row n old new l h w = sym (row_read (λ p. get_or new p false) ps row l (λ k g. sym (w.values k (omega arith) g)))

pub written_others : (ps : List ℕ) (row : Row) (n : ℕ) (old new : Row) → IsWritten ps row n old new → (p : ℕ) → (Contains ps p → ⊥) → get_or new p false ≡ get_or old p false
written_others ps row n old new w p none = w.others p (λ k h g e. none (contained_at ps p k (slice_get-get_or ps k 0 g ∙ ap Some e)))

pub all_of : (size : ℕ) (ps : List ℕ) → ((p : ℕ) → Contains ps p → p < size) → AreBelow size ps
all_of size ps h k d l = h (get_or ps k d) (Contains-get_or ps k d l)

-- one bit is written at the only place of a list
pub one_written : (ps : List ℕ) (old : Row) (q : ℕ) (x : Bool) → length ps ≡ 1 → q ≡ get_or ps 0 0 → q < length old → row_at (λ p. get_or (set old q x) p false) ps ≡ x ∷ []
one_written [] old q x l e h = absurd (omega arith)
one_written (p ∷ []) old q x l e h = ap (λ (b : Bool). b ∷ []) (ap (λ (i : ℕ). get_or (set old q x) i false) (sym e) ∙ get_or-set_same old q x false h)
one_written (p ∷ r ∷ ps) old q x l e h = absurd (omega arith)

pub one_others : (ps : List ℕ) (old : Row) (q : ℕ) (x : Bool) → length ps ≡ 1 → q ≡ get_or ps 0 0 → (p : ℕ) → (Contains ps p → ⊥) → get_or (set old q x) p false ≡ get_or old p false
one_others ps old q x l e p none = get_or-set_other old q p x false (λ z. none (contained_at ps p 0 (slice_get-get_or ps 0 0 (omega arith) ∙ ap Some (sym e ∙ sym z))))
