-- Going back to the level on which a learnt clause is unit.
use Rattle.std.proofs.Common.{◌≡◌, ◌≢◌, ℕ, ◌-◌, ◌<◌, ◌≤◌, List, [], ◌∷◌, ◌++◌, length, get_or, take, sym, ◌∙◌, subst, inl, inr, arith}
use Rattle.std.specs.Prelude.{Contains, Option, Some, None, slice_get}
use Rattle.std.proofs.lemmas.Bool.{cases_eq, cases_lt}
use Rattle.std.proofs.lemmas.List.{get_or-take, length-take, get_or_default}
use Rattle.std.proofs.lemmas.List.Elements.{Contains-append_left, Contains-push, Contains-push_cases}
use Rattle.cnf_form.specs.Cnf.{LitOf, negate}
use Rattle.cnf_form.proofs.Literals.{lit_cases}
use Rattle.cnf_form.proofs.Members.{Contains-empty}
use Rattle.unit_propagation.specs.Propagation.{IsConsistent, IsUnassigned, IsFalsifiedBut, IsFixpoint}
use Rattle.unit_propagation.specs.Propagator.{PropagatorOf, clauses_of}
use Rattle.cdcl_core.specs.Logged.{IsNew, IsContingent}
use Rattle.cdcl_core.specs.Levels.{base_of}
use Rattle.cdcl_core.specs.Analysis.{IsLearnt, ComesLast, IsLastOf}
use Rattle.cdcl_core.proofs.Marks.{in_prefix, prefix_grows, of_prefix}

-- what a prefix of a prefix has
pub prefix_of_prefix : (t : List LitOf) (n m : ℕ) (l : LitOf) → Contains (take n (take m t)) l → Contains (take n t) l
prefix_of_prefix t n m l k =
    let a = length-take n (take m t) in
    let b = length-take m t in
    let low : k.0 < n = omega (arith, k.1, a) in
    let under : k.0 < m = omega (arith, k.1, a, b) in
    (k.0, omega (arith, k.1, a, b, length-take n t), get_or-take n t k.0 l low ∙ sym (get_or-take m t k.0 l under) ∙ sym (get_or-take n (take m t) k.0 l low) ∙ k.2)

-- a literal is there before another one is
pub before_in : (t : List LitOf) (place other : ℕ) (x y : LitOf) → slice_get t place ≡ Some x → place < length t → (Contains (take other t) y → ⊥) → place ≤ other → (n : ℕ) → Contains (take n t) y → Contains (take n t) x
before_in t place other x y at within none h n k = elim (cases_lt other n) [
  | inl lt ↦ in_prefix t place n x at within (omega (arith, h, lt))
  | inr ge ↦ absurd (none (prefix_grows t n other y ge k))
]

-- one more literal
pub last_first : (t : List LitOf) (first : LitOf) (c : List LitOf) (o : Option LitOf) (m : LitOf) → m ≡ first → IsLastOf t first c o → IsLastOf t first (c ++ m ∷ []) o
last_first t first c None m e w = λ x k. elim (Contains-push_cases c m x k) [ inl i ↦ w x i | inr q ↦ sym q ∙ e ]
last_first t first c (Some s) m e w = record {
  contains = Contains-append_left c (m ∷ []) s w.contains;
  two = w.two;
  last = λ n x h k d. elim (Contains-push_cases c m x k) [ inl i ↦ w.last n x h i d | inr q ↦ absurd (d (sym q ∙ e)) ];
}

pub last_none : (t : List LitOf) (first : LitOf) (c : List LitOf) (m : LitOf) → m ≢ first → IsLastOf t first c None → ComesLast t first (c ++ m ∷ []) m
last_none t first c m ne w = record {
  contains = Contains-push c m;
  two = λ e. ne (sym e);
  last = λ n x h k d. elim (Contains-push_cases c m x k) [ inl i ↦ absurd (d (w x i)) | inr q ↦ subst (λ z. Contains (take n t) (negate z)) q h ];
}

pub last_new : (t : List LitOf) (first : LitOf) (c : List LitOf) (s m : LitOf) → m ≢ first → ((n : ℕ) → Contains (take n t) (negate m) → Contains (take n t) (negate s)) → ComesLast t first c s → ComesLast t first (c ++ m ∷ []) m
last_new t first c s m ne after w = record {
  contains = Contains-push c m;
  two = λ e. ne (sym e);
  last = λ n x h k d. elim (Contains-push_cases c m x k) [ inl i ↦ w.last n x (after n h) i d | inr q ↦ subst (λ z. Contains (take n t) (negate z)) q h ];
}

pub last_old : (t : List LitOf) (first : LitOf) (c : List LitOf) (s m : LitOf) → ((n : ℕ) → Contains (take n t) (negate s) → Contains (take n t) (negate m)) → ComesLast t first c s → ComesLast t first (c ++ m ∷ []) s
last_old t first c s m after w = record {
  contains = Contains-append_left c (m ∷ []) s w.contains;
  two = w.two;
  last = λ n x h k d. elim (Contains-push_cases c m x k) [ inl i ↦ w.last n x h i d | inr q ↦ subst (λ z. Contains (take n t) (negate z)) q (after n h) ];
}

module _ (p : PropagatorOf) (c : List LitOf) (first : LitOf) (w : IsLearnt p (base_of p) c first) (ok : IsConsistent p.trail) where
  -- no present clause is a subset of it
  pub learnt_new : IsFixpoint (take (base_of p) p.trail) (clauses_of p.slots) → IsNew (clauses_of p.slots) c
  learnt_new fix = record {
    apart = λ e h sub.
        let s = fix e h in
        let b = take (base_of p) p.trail in
        let none : Contains b first → ⊥ = λ k. ok.apart first (of_prefix p.trail (base_of p) first k) w.on in
        let but : IsFalsifiedBut b e first = record { each = λ m k n. w.others m (sub m k) n } in
        s.not_falsified (record {
          each = λ m k. elim (lit_cases m first) [
            | inl q ↦ absurd (none (s.closed first (subst (Contains e) q k) but))
            | inr n ↦ but.each m k n
          ];
        });
  }

  module _ (second : LitOf) (last : ComesLast p.trail first c second) (place level : ℕ) (at : slice_get p.trail place ≡ Some (negate second)) (within : place < length p.trail)
      (before : Contains (take place p.trail) (negate second) → ⊥) (few : level ≤ length p.limits) (below : (i : ℕ) → i < level → get_or p.limits i 0 ≤ place) (levels : 0 < length p.limits) where
    -- the level is one that is taken back
    pub level_room : level < length p.limits
    level_room = elim (cases_eq level (length p.limits)) [
      | inr ne ↦ omega (arith, few, ne)
      | inl e ↦
          let b = below (length p.limits - 1) (omega (arith, e, levels)) in
          absurd (before (prefix_grows p.trail (base_of p) place (negate second) b (w.others second last.contains (λ q. last.two (sym q)))))
    ]

    pub still_open : ((i j : ℕ) → i ≤ j → j < length p.limits → get_or p.limits i 0 ≤ get_or p.limits j 0) → IsUnassigned (take (get_or p.limits level 0) p.trail) first
    still_open rising = record {
      not_true = λ k. ok.apart first (of_prefix p.trail _ first k) w.on;
      not_false = λ k. w.late (prefix_grows p.trail (get_or p.limits level 0) (base_of p) (negate first) (rising level (length p.limits - 1) (omega (arith, level_room)) (omega (arith, levels))) k);
    }

    pub still_unit : place < get_or p.limits level 0 → IsFalsifiedBut (take (get_or p.limits level 0) p.trail) c first
    still_unit above = record { each = λ m k n. last.last (get_or p.limits level 0) m (in_prefix p.trail place (get_or p.limits level 0) (negate second) at within above) k n }

    pub on_level : (lim n : ℕ) → Contains (take level p.limits) n → Contains (take n (take lim p.trail)) (negate second) → ⊥
    on_level lim n k h =
        let low : k.0 < level = omega (arith, k.1, length-take level p.limits) in
        let is : get_or p.limits k.0 n ≡ n = sym (get_or-take level p.limits k.0 n low) ∙ k.2 in
        let b = below k.0 low in
        let d = get_or_default p.limits k.0 n 0 (omega (arith, low, few)) in
        before (prefix_grows p.trail n place (negate second) (omega (arith, b, d, is)) (prefix_of_prefix p.trail n lim (negate second) h))

-- all literals of a learnt clause are false, so it is no tautology; it has its first
pub learnt_contingent : (p : PropagatorOf) (base : ℕ) (c : List LitOf) (first : LitOf) → IsLearnt p base c first → IsConsistent p.trail → IsContingent c
learnt_contingent p base c first w ok = record {
  full = λ e. Contains-empty first (subst (λ z. Contains z first) e w.contains);
  apart = λ l h k. ok.apart (negate l) (off l h) (off (negate l) k);
}
  where
    off : (m : LitOf) → Contains c m → Contains p.trail (negate m)
    off m h = elim (lit_cases m first) [
      | inl e ↦ subst (λ z. Contains p.trail (negate z)) (sym e) w.on
      | inr ne ↦ of_prefix p.trail base (negate m) (w.others m h ne)
    ]
