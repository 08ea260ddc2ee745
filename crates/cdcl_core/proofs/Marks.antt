-- Marks that are set and taken back, and prefixes of a trail.
use Rattle.std.proofs.Common.{◌≡◌, ◌≢◌, ◌⊎◌, ℕ, ◌<◌, ◌≤◌, Bool, true, false, List, [], ◌∷◌, ◌++◌, length, get_or, set, take, sym, ◌∙◌, ap, subst, inl, inr, arith}
use Rattle.std.specs.Prelude.{Contains, Some, slice_get}
use Rattle.std.proofs.lemmas.Bool.{both_ways}
use Rattle.std.proofs.lemmas.List.{get_or-set_same, get_or-set_other, get_or-take, length-take}
use Rattle.std.proofs.lemmas.List.Elements.{Contains-append_left, Contains-push, Contains-push_cases}
use Rattle.std.proofs.lemmas.Option.{get_or_from_slice_get}
use Rattle.cnf_form.specs.Cnf.{LitOf, negate, index_of}
use Rattle.cnf_form.proofs.Literals.{index_of-injective, lit_cases, negate-negate}
use Rattle.unit_propagation.specs.Marks.{is_marked}
use Rattle.cdcl_core.specs.Analysis.{AreMarksListed}

pub mark_here : (seen : List Bool) (l : LitOf) → index_of l < length seen → is_marked (set seen (index_of l) true) l ≡ true
mark_here seen l room = get_or-set_same seen (index_of l) true false room

pub mark_keeps : (seen : List Bool) (l x : LitOf) → index_of l < length seen → is_marked seen x ≡ true → is_marked (set seen (index_of l) true) x ≡ true
mark_keeps seen l x room h = elim (lit_cases x l) [
  | inl e ↦ subst (λ z. is_marked (set seen (index_of l) true) z ≡ true) (sym e) (mark_here seen l room)
  | inr d ↦ get_or-set_other seen (index_of l) (index_of x) true false (λ e. d (index_of-injective x l e)) ∙ h
]

pub mark_cases : (seen : List Bool) (l x : LitOf) → is_marked (set seen (index_of l) true) x ≡ true → (x ≡ l) ⊎ (is_marked seen x ≡ true)
mark_cases seen l x h = elim (lit_cases x l) [
  | inl e ↦ inl e
  | inr d ↦ inr (sym (get_or-set_other seen (index_of l) (index_of x) true false (λ e. d (index_of-injective x l e))) ∙ h)
]

pub unmark_cases : (seen : List Bool) (l x : LitOf) → index_of l < length seen → is_marked (set seen (index_of l) false) x ≡ true → (x ≢ l) × (is_marked seen x ≡ true)
unmark_cases seen l x room h = elim (lit_cases x l) [
  | inl e ↦ absurd (both_ways _ (get_or-set_same seen (index_of l) false false room) (subst (λ z. is_marked (set seen (index_of l) false) z ≡ true) e h))
  | inr d ↦ (d, sym (get_or-set_other seen (index_of l) (index_of x) false false (λ e. d (index_of-injective x l e))) ∙ h)
]

pub unmark_other : (seen : List Bool) (l x : LitOf) → is_marked seen x ≡ true → x ≢ l → is_marked (set seen (index_of l) false) x ≡ true
unmark_other seen l x h d = get_or-set_other seen (index_of l) (index_of x) false false (λ e. d (index_of-injective x l e)) ∙ h

-- a literal at a place is in each longer prefix
pub in_prefix : (t : List LitOf) (place n : ℕ) (l : LitOf) → slice_get t place ≡ Some l → place < length t → place < n → Contains (take n t) l
in_prefix t place n l e room h = (place, omega (arith, h, room, length-take n t), get_or-take n t place l h ∙ get_or_from_slice_get t place l l e)

-- a shorter prefix has no more
pub prefix_grows : (t : List LitOf) (n m : ℕ) (l : LitOf) → n ≤ m → Contains (take n t) l → Contains (take m t) l
prefix_grows t n m l h k =
    let low : k.0 < n = omega (arith, k.1, length-take n t) in
    let is : get_or t k.0 l ≡ l = sym (get_or-take n t k.0 l low) ∙ k.2 in
    (k.0, omega (arith, low, h, k.1, length-take n t, length-take m t), get_or-take m t k.0 l (omega (arith, low, h)) ∙ is)

pub of_prefix : (t : List LitOf) (n : ℕ) (l : LitOf) → Contains (take n t) l → Contains t l
of_prefix t n l k =
    let low : k.0 < n = omega (arith, k.1, length-take n t) in
    (k.0, omega (arith, k.1, length-take n t), sym (get_or-take n t k.0 l low) ∙ k.2)

module _ (t : List LitOf) (base : ℕ) (seen : List Bool) (lower current : List LitOf) (w : AreMarksListed t base seen lower current) where
  pub listed_lower : (m : LitOf) → Contains (take base t) (negate m) → AreMarksListed t base (set seen (index_of (negate m)) true) (lower ++ m ∷ []) current
  listed_lower m h = record {
    listed = λ x k. elim (mark_cases seen (negate m) x k) [
      | inl e ↦ inl (subst (λ z. Contains (lower ++ m ∷ []) (negate z)) (sym e) (subst (Contains (lower ++ m ∷ [])) (sym (negate-negate m)) (Contains-push lower m)))
      | inr q ↦ elim (w.listed x q) [ inl i ↦ inl (Contains-append_left lower (m ∷ []) (negate x) i) | inr i ↦ inr i ]
    ];
    lower_false = λ x k. elim (Contains-push_cases lower m x k) [ inl i ↦ w.lower_false x i | inr e ↦ subst (λ z. Contains (take base t) (negate z)) e h ];
  }

  pub listed_current : (l : LitOf) → AreMarksListed t base (set seen (index_of l) true) lower (current ++ l ∷ [])
  listed_current l = record {
    listed = λ x k. elim (mark_cases seen l x k) [
      | inl e ↦ inr (subst (Contains (current ++ l ∷ [])) (sym e) (Contains-push current l))
      | inr q ↦ elim (w.listed x q) [ inl i ↦ inl i | inr i ↦ inr (Contains-append_left current (l ∷ []) x i) ]
    ];
    lower_false = w.lower_false;
  }

  pub listed_less : (l : LitOf) → index_of l < length seen → AreMarksListed t base (set seen (index_of l) false) lower current
  listed_less l room = record { listed = λ x k. let q = unmark_cases seen l x room k in w.listed x q.1; lower_false = w.lower_false }

-- a negative literal or its negation is true
pub var_has_value : (t : List LitOf) (l : LitOf) (v : ℕ) → l.var ≡ v → l.negated ≡ true → Contains t l ⊎ Contains t (negate l) → Contains t (record { var = v; negated = false }) ⊎ Contains t (record { var = v; negated = true })
var_has_value t l v e g h =
    let mk : ℕ → Bool → LitOf = λ a b. record { var = a; negated = b } in
    let is : l ≡ mk v true = ap (λ z. mk z l.negated) e ∙ ap (mk v) g in
    elim h [ inl k ↦ inr (subst (Contains t) is k) | inr k ↦ inl (subst (λ z. Contains t (negate z)) is k) ]
