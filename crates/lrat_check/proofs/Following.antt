-- What one more hint leaves of a refutation.
use Rattle.std.proofs.Common.{◌≡◌, ℕ, ◌<◌, ◌≤◌, ◌+◌, suc, Some, Bool, true, List, [], ◌∷◌, ◌++◌, length, get_or, drop, add-one, drop-cons, sym, ap, subst, inl, inr}
use Rattle.std.specs.Prelude.{Contains}
use Rattle.std.proofs.lemmas.List.{drop_all}
use Rattle.cnf_form.specs.Cnf.{LitOf, negate}
use Rattle.cnf_form.proofs.Literals.{lit_cases}
use Rattle.lrat_check.specs.declared.propagation.Status.{Status}
use Rattle.lrat_check.specs.declared.propagation.Status.TheVariants.{Negated, OneLeft, MoreLeft}
use Rattle.lrat_check.specs.Hints.{Live, IsNegated, LeavesOne, Refutes, contradiction, conflict, joins, passed_over}
use Rattle.lrat_check.specs.Marks.{is_marked, Marks, IsConsistent, ClauseStands}
use Rattle.lrat_check.proofs.Trail.{consistent_push}

-- the marks say what the list says
pub stands_as : (marks : List Bool) (L c : List LitOf) (s : Status) → Marks marks L → ClauseStands (λ l. is_marked marks l ≡ true) c s → ClauseStands (Contains L) c s
stands_as marks L c Negated m w = λ k h. m.only (negate k) (w k h)
stands_as marks L c (OneLeft l) m w = record { contains = w.contains; left = λ h. w.left (m.marked (negate l) h); others = λ k h d. m.only (negate k) (w.others k h d) }
stands_as marks L c MoreLeft m w = (
  λ f. w.0 (λ k h. m.marked (negate k) (f k h)),
  λ l u. w.1 l (record { contains = u.contains; left = λ h. u.left (m.only (negate l) h); others = λ k h d. m.marked (negate k) (u.others k h d) }),
)

module _ (live : Live) where
  -- no hint is left
  pub refutes_none : {L : List LitOf} {hints : List ℕ} → hints ≡ [] → IsConsistent L → Refutes live L hints → ⊥
  refutes_none e ok (contradiction L hints w) = ok.apart w.0 w.1 w.2
  refutes_none e ok (conflict L id hints c h n) = cc
  refutes_none e ok (joins L id hints c l h w r) = cc
  refutes_none e ok (passed_over L id hints c h n u r) = cc

  same_clause : (id id' : ℕ) (rest rest' : List ℕ) (c c' : List LitOf) → (let xs : List ℕ = id' ∷ rest' in xs) ≡ id ∷ rest → live id ≡ Some c → live id' ≡ Some c' → (c' ≡ c) × (rest' ≡ rest)
  same_clause id id' rest rest' c c' e h h' =
      let i : id' ≡ id = cc in
      let f : live id' ≡ live id = ap live i in
      let s : c' ≡ c = cc in
      let r : rest' ≡ rest = cc in
      (s, r)

  same_left : (L c : List LitOf) (k l : LitOf) → LeavesOne (Contains L) c k → LeavesOne (Contains L) c l → k ≡ l
  same_left L c k l u w = elim (lit_cases k l) [ inl e ↦ e | inr d ↦ absurd (u.left (w.others k u.contains d)) ]

  after_joins : {L : List LitOf} {hints : List ℕ} (id : ℕ) (rest : List ℕ) (c : List LitOf) (l : LitOf) → hints ≡ id ∷ rest → live id ≡ Some c
      → IsConsistent L → LeavesOne (Contains L) c l → Refutes live L hints → Refutes live (L ++ l ∷ []) rest
  after_joins id rest c l e at ok w (contradiction L hints z) = absurd (ok.apart z.0 z.1 z.2)
  after_joins id rest c l e at ok w (conflict L id' rest' c' h n) =
      let s = same_clause id id' rest rest' c c' e at h in
      absurd (w.left (n l (subst (λ z. Contains z l) (sym s.0) w.contains)))
  after_joins id rest c l e at ok w (joins L id' rest' c' k h u r) =
      let s = same_clause id id' rest rest' c c' e at h in
      let u' : LeavesOne (Contains L) c k = subst (λ z. LeavesOne (Contains L) z k) s.0 u in
      let r' : Refutes live (L ++ k ∷ []) rest = subst (Refutes live (L ++ k ∷ [])) s.1 r in
      subst (λ z. Refutes live (L ++ z ∷ []) rest) (same_left L c k l u' w) r'
  after_joins id rest c l e at ok w (passed_over L id' rest' c' h n none r) =
      let s = same_clause id id' rest rest' c c' e at h in
      absurd (none l (subst (λ z. LeavesOne (Contains L) z l) (sym s.0) w))

  after_passing : {L : List LitOf} {hints : List ℕ} (id : ℕ) (rest : List ℕ) (c : List LitOf) → hints ≡ id ∷ rest → live id ≡ Some c
      → (IsNegated (Contains L) c → ⊥) → ((l : LitOf) → LeavesOne (Contains L) c l → ⊥) → Refutes live L hints → Refutes live L rest
  after_passing id rest c e at n none (contradiction L hints z) = contradiction L rest z
  after_passing id rest c e at n none (conflict L id' rest' c' h f) =
      let s = same_clause id id' rest rest' c c' e at h in
      absurd (n (subst (IsNegated (Contains L)) s.0 f))
  after_passing id rest c e at n none (joins L id' rest' c' k h u r) =
      let s = same_clause id id' rest rest' c c' e at h in
      absurd (none k (subst (λ z. LeavesOne (Contains L) z k) s.0 u))
  after_passing id rest c e at n none (passed_over L id' rest' c' h f z r) =
      let s = same_clause id id' rest rest' c c' e at h in
      subst (Refutes live L) s.1 r

  -- the hints that are left decide
  pub record Follows (L0 : List LitOf) (hints : List ℕ) (i : ℕ) (marks : List Bool) (L : List LitOf) : Type 0 where
    pub marked : Marks marks L
    pub consistent : IsConsistent L
    pub forth : Refutes live L0 hints → Refutes live L (drop i hints)
    pub back : Refutes live L (drop i hints) → Refutes live L0 hints

  module _ (L0 : List LitOf) (hints : List ℕ) (i : ℕ) (marks : List Bool) (L : List LitOf) (f : Follows L0 hints i marks L) where
    pub followed_none : length hints ≤ i → Refutes live L0 hints → ⊥
    followed_none h r = refutes_none (drop_all i hints h) f.consistent (f.forth r)

    module _ (id : ℕ) (c : List LitOf) (h : i < length hints) (is : id ≡ get_or hints i 0) (at : live id ≡ Some c) where
      split : drop i hints ≡ id ∷ drop (i + 1) hints
      split = rw (add-one, drop-cons hints i 0 h) (ap (λ z. z ∷ drop (suc i) hints) (sym is))

      pub followed_conflict : IsNegated (Contains L) c → Refutes live L0 hints
      followed_conflict n = f.back (subst (Refutes live L) (sym split) (conflict L id (drop (i + 1) hints) c at n))

      pub followed_joins : (l : LitOf) (marks' : List Bool) (L' : List LitOf) → LeavesOne (Contains L) c l → Marks marks' L' → L' ≡ L ++ l ∷ [] → Follows L0 hints (i + 1) marks' L'
      followed_joins l marks' L' w m e = record {
        marked = m;
        consistent = subst IsConsistent (sym e) (consistent_push L l f.consistent w.left);
        forth = λ r. subst (λ z. Refutes live z (drop (i + 1) hints)) (sym e) (after_joins id (drop (i + 1) hints) c l split at f.consistent w (f.forth r));
        back = λ r. f.back (subst (Refutes live L) (sym split) (joins L id (drop (i + 1) hints) c l at w (subst (λ z. Refutes live z (drop (i + 1) hints)) e r)));
      }

      pub followed_passing : (IsNegated (Contains L) c → ⊥) × ((l : LitOf) → LeavesOne (Contains L) c l → ⊥) → Follows L0 hints (i + 1) marks L
      followed_passing w = record {
        marked = f.marked;
        consistent = f.consistent;
        forth = λ r. after_passing id (drop (i + 1) hints) c split at w.0 w.1 (f.forth r);
        back = λ r. f.back (subst (Refutes live L) (sym split) (passed_over L id (drop (i + 1) hints) c at w.0 w.1 r));
      }
