-- The search for the literal that a clause is the reason of.
use Rattle.std.proofs.Common.{◌≡◌, ◌≢◌, ℕ, ◌+◌, ◌<◌, Bool, true, false, List, [], ◌∷◌, ◌++◌, length, take, drop, get_or, refl, sym, ◌∙◌, subst, inl, inr, ◌⊎◌, arith}
use Rattle.std.specs.Prelude.{Contains, Option, Some, None}
use Rattle.std.proofs.lemmas.List.{take_all, take-append-drop}
use Rattle.std.proofs.lemmas.List.Elements.{Contains-append_left, Contains-push, Contains-push_cases}
use Rattle.cnf_form.specs.Cnf.{LitOf, negate, IsReason}
use Rattle.cnf_form.proofs.Literals.{lit_cases}
use Rattle.cnf_form.proofs.Members.{Contains-empty, Contains-read, take_one_more}
use Rattle.unit_propagation.specs.Propagation.{IsConsistent, IsFixpoint, IsDerived}
use Rattle.drup_check.proofs.Decisions.{reason_from, reason_on}

-- all literals so far are false, but for one that is true, if there is one
abbrev pub Scanned : List LitOf → List LitOf → Option LitOf → Type 0
Scanned t c None = (m : LitOf) → Contains c m → Contains t (negate m)
Scanned t c (Some l) = Contains c l × Contains t l × ((m : LitOf) → Contains c m → m ≢ l → Contains t (negate m))

pub scanned_first : (t : List LitOf) (o : Option LitOf) → o ≡ None → Scanned t [] o
scanned_first t None e = λ m h. absurd (Contains-empty m h)
scanned_first t (Some l) e = absurd (cc)

module _ (t : List LitOf) (cs : List LitOf) (i : ℕ) (l : LitOf) (inside : i < length cs) (is : l ≡ get_or cs i l) where
  more : take (i + 1) cs ≡ take i cs ++ l ∷ []
  more = take_one_more cs i l inside is

  cases : (m : LitOf) → Contains (take (i + 1) cs) m → Contains (take i cs) m ⊎ (l ≡ m)
  cases m h = Contains-push_cases (take i cs) l m (subst (λ z. Contains z m) more h)

  here : Contains (take (i + 1) cs) l
  here = subst (λ z. Contains z l) (sym more) (Contains-push (take i cs) l)

  before : (m : LitOf) → Contains (take i cs) m → Contains (take (i + 1) cs) m
  before m h = subst (λ z. Contains z m) (sym more) (Contains-append_left (take i cs) (l ∷ []) m h)

  -- the literal is the first true one, or the same again, or false
  pub scanned_true : (o o' : Option LitOf) → o ≡ None → o' ≡ Some l → Contains t l → Scanned t (take i cs) o → Scanned t (take (i + 1) cs) o'
  scanned_true None o' e f h s = subst (Scanned t (take (i + 1) cs)) (sym f)
      (here, h, λ m k d. elim (cases m k) [ inl k ↦ s m k | inr q ↦ absurd (d (sym q)) ])
  scanned_true (Some x) o' e f h s = absurd (cc)

  pub scanned_same : (o : Option LitOf) (x : LitOf) → o ≡ Some x → x ≡ l → Scanned t (take i cs) o → Scanned t (take (i + 1) cs) (Some x)
  scanned_same None x e f s = absurd (cc)
  scanned_same (Some y) x e f s =
      let a : y ≡ x = cc in
      subst (λ z. Scanned t (take (i + 1) cs) (Some z)) a
      (before y s.0, s.1, λ m k d. elim (cases m k) [ inl k ↦ s.2 m k d | inr q ↦ absurd (d (sym q ∙ sym f ∙ sym a)) ])

  pub scanned_false : (o : Option LitOf) → Contains t (negate l) → Scanned t (take i cs) o → Scanned t (take (i + 1) cs) o
  scanned_false None h s = λ m k. elim (cases m k) [ inl k ↦ s m k | inr q ↦ subst (λ z. Contains t (negate z)) q h ]
  scanned_false (Some y) h s = (before y s.0, s.1, λ m k d. elim (cases m k) [ inl k ↦ s.2 m k d | inr q ↦ subst (λ z. Contains t (negate z)) q h ])

taken : (c : List LitOf) (i : ℕ) (l : LitOf) → Contains (take i c) l → Contains c l
taken c i l h = subst (λ z. Contains z l) (take-append-drop i c) (Contains-append_left (take i c) (drop i c) l h)

module _ (F : List (List LitOf)) (t : List LitOf) (c : List LitOf) (ok : IsConsistent t) (fix : IsFixpoint t F) where
  -- an unassigned literal, or a second true one
  pub no_reason_open : (l : LitOf) → Contains c l → (Contains t l → ⊥) → (Contains t (negate l) → ⊥) → IsReason F c → ⊥
  no_reason_open l h not_on not_off w =
      let r = reason_on F t fix c w in
      let f = r.3 in
      elim (lit_cases l r.0) [
        | inl e ↦ not_on (subst (Contains t) (sym e) r.2)
        | inr d ↦ not_off (f.each l h d)
      ]

  pub no_reason_two : (l m : LitOf) → Contains c l → Contains c m → Contains t l → Contains t m → m ≢ l → IsReason F c → ⊥
  no_reason_two l m h k p q d w =
      let r = reason_on F t fix c w in
      let f = r.3 in
      elim (lit_cases l r.0) [
        | inl e ↦ ok.apart m q (f.each m k (λ g. d (g ∙ sym e)))
        | inr n ↦ ok.apart l p (f.each l h n)
      ]

  pub no_reason_none : ((m : LitOf) → Contains c m → Contains t (negate m)) → IsReason F c → ⊥
  no_reason_none all w = let r = reason_on F t fix c w in ok.apart r.0 r.2 (all r.0 r.1)

  pub scanned_all : (o : Option LitOf) (n : ℕ) (b : Bool) → IsDerived F t → n ≡ length c → Scanned t (take n c) o → ((l : LitOf) → o ≡ Some l → b ≡ true) → (o ≡ None → b ≡ false) → (b ≡ true → IsReason F c) × (IsReason F c → b ≡ true)
  scanned_all None n b d e s held none = (
    λ h. absurd (let f : b ≡ false = none refl in cc),
    λ w. absurd (no_reason_none (λ m k. s m (subst (λ z. Contains z m) (sym (take_all n c (omega (arith, e)))) k)) w),
  )
  scanned_all (Some l) n b d e s held none =
      let whole : take n c ≡ c = take_all n c (omega (arith, e)) in (
        λ h. reason_from F t d c l (subst (λ z. Contains z l) whole s.0) s.1 (record { each = λ m k q. s.2 m (subst (λ z. Contains z m) (sym whole) k) q }),
        λ w. held l refl,
      )

  pub refused_two : (i : ℕ) (l m : LitOf) (o : Option LitOf) → i < length c → l ≡ get_or c i l → Contains t l → o ≡ Some m → Scanned t (take i c) o → m ≢ l → IsReason F c → ⊥
  refused_two i l m None inside is h e s d w = cc
  refused_two i l m (Some x) inside is h e s d w =
      let f : x ≡ m = cc in
      no_reason_two l m (Contains-read c i l inside is) (taken c i m (subst (Contains (take i c)) f s.0)) h (subst (Contains t) f s.1) d w
