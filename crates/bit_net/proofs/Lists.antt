-- Lists and tests.
use Rattle.std.proofs.Common.{◌≡◌, ◌⊎◌, ℕ, zero, suc, ◌+◌, ◌<◌, ◌≤◌, Bool, true, false, not, ◌&&◌, ◌||◌, cond, List, [], ◌∷◌, ◌++◌, Some, None, map, refl, sym, ap, ◌∙◌, subst, inl, inr, arith, eqb}
use Rattle.std.specs.Prelude.{Contains, slice_get}
use Rattle.std.specs.List.{filter}
use Rattle.std.proofs.lemmas.Bool.{eq-eqb, eqb-true, cases_eq}
use Rattle.cnf_form.specs.Cnf.{LitOf, LitWithin}
use Rattle.gate_graph.specs.Kept.{OthersWithin}
use Rattle.bit_net.specs.Reaching.{is_one_of, numbers}

pub or_left : (p q : Bool) → p ≡ true → (p || q) ≡ true
or_left true q h = refl
or_left false q h = absurd (let z : false ≡ true = h in cc)

pub or_right : (p q : Bool) → q ≡ true → (p || q) ≡ true
or_right true q h = refl
or_right false q h = h

pub or_cases : (p q : Bool) → (p || q) ≡ true → (p ≡ true) ⊎ (q ≡ true)
or_cases true q h = inl refl
or_cases false q h = inr h

pub and_both : (p q : Bool) → p ≡ true → q ≡ true → (p && q) ≡ true
and_both true q h k = k
and_both false q h k = absurd (let z : false ≡ true = h in cc)

pub both_and : (p q : Bool) → (p && q) ≡ true → (p ≡ true) × (q ≡ true)
both_and true q h = (refl, h)
both_and false q h = absurd (let z : false ≡ true = h in cc)

pub not_true : (p : Bool) → p ≡ false → not p ≡ true
not_true true h = absurd (let z : true ≡ false = h in cc)
not_true false h = refl

pub true_not : (p : Bool) → not p ≡ true → p ≡ true → ⊥
true_not true h k = let z : false ≡ true = h in cc
true_not false h k = let z : false ≡ true = k in cc

pub not_both : (p : Bool) → (p ≡ true → ⊥) → p ≡ false
not_both true h = absurd (h refl)
not_both false h = refl

pub head_in : {A : Type 0} (x : A) (xs : List A) → Contains (x ∷ xs) x
head_in x xs = (0, omega arith, refl)

pub tail_in : {A : Type 0} (y x : A) (xs : List A) → Contains xs x → Contains (y ∷ xs) x
tail_in y x xs (k, h, e) = (suc k, omega arith, e)

pub none_in : {A : Type 0} (x : A) → Contains [] x → ⊥
none_in x (k, h, e) = omega arith

pub cases_in : {A : Type 0} (y : A) (xs : List A) (x : A) → Contains (y ∷ xs) x → (y ≡ x) ⊎ Contains xs x
cases_in y xs x (zero, h, e) = inl e
cases_in y xs x (suc k, h, e) = inr (k, omega arith, e)

pub others_in : (n : ℕ) (ls : List LitOf) (l : LitOf) → OthersWithin n ls → Contains ls l → LitWithin n l
others_in n [] l w c = absurd (none_in l c)
others_in n (m ∷ ls) l w (zero, h, e) = subst (LitWithin n) (let z : m ≡ l = e in z) w.0
others_in n (m ∷ ls) l w (suc k, h, e) = others_in n ls l w.1 (k, omega arith, e)

-- literals of a variable
pub one_of_in : (lits : List LitOf) (v : ℕ) → is_one_of lits v ≡ true → (l : LitOf) × Contains lits l × (l.var ≡ v)
one_of_in [] v h = absurd (let z : false ≡ true = h in cc)
one_of_in (m ∷ lits) v h = elim (or_cases (eqb m.var v) (is_one_of lits v) h) as (λ _. (l : LitOf) × Contains (m ∷ lits) l × (l.var ≡ v)) [
  | inl e ↦ (m, head_in m lits, eqb-true m.var v e)
  | inr r ↦ let (l, c, e) = one_of_in lits v r in (l, tail_in m l lits c, e)
]

pub in_one_of : (lits : List LitOf) (l : LitOf) → Contains lits l → is_one_of lits l.var ≡ true
in_one_of [] l c = absurd (none_in l c)
in_one_of (m ∷ lits) l c = elim (cases_in m lits l c) as (λ _. is_one_of (m ∷ lits) l.var ≡ true) [
  | inl e ↦ or_left (eqb m.var l.var) (is_one_of lits l.var) (eq-eqb m.var l.var (ap (λ (k : LitOf). k.var) e))
  | inr r ↦ or_right (eqb m.var l.var) (is_one_of lits l.var) (in_one_of lits l r)
]

-- what stands at a place
pub get_in : {A : Type 0} (xs : List A) (k : ℕ) (x : A) → slice_get xs k ≡ Some x → Contains xs x
get_in [] k x h = absurd (let z : None ≡ Some x = h in cc)
get_in (y ∷ xs) zero x h = let z : Some y ≡ Some x = h in let e : y ≡ x = cc in subst (Contains (y ∷ xs)) e (head_in y xs)
get_in (y ∷ xs) (suc k) x h = tail_in y x xs (get_in xs k x h)

-- a part of a list
pub filter_in : {A : Type 0} (test : A → Bool) (xs : List A) (x : A) → Contains (filter test xs) x → Contains xs x × (test x ≡ true)
filter_in test [] x c = absurd (none_in x c)
filter_in test (y ∷ xs) x c = by (test y) refl (λ r. filter_in test xs x r) c
  where
    by : (b : Bool) → test y ≡ b → (Contains (filter test xs) x → Contains xs x × (test x ≡ true)) → Contains (cond b (y ∷ filter test xs) (filter test xs)) x → Contains (y ∷ xs) x × (test x ≡ true)
    by true e more c = elim (cases_in y (filter test xs) x c) as (λ _. Contains (y ∷ xs) x × (test x ≡ true)) [
      | inl h ↦ (subst (Contains (y ∷ xs)) h (head_in y xs), subst (λ z. test z ≡ true) h e)
      | inr r ↦ let (i, t) = more r in (tail_in y x xs i, t)
    ]
    by false e more c = let (i, t) = more c in (tail_in y x xs i, t)

pub in_filter : {A : Type 0} (test : A → Bool) (xs : List A) (x : A) → Contains xs x → test x ≡ true → Contains (filter test xs) x
in_filter test [] x c t = absurd (none_in x c)
in_filter test (y ∷ xs) x c t = by (test y) refl (λ r. in_filter test xs x r t)
  where
    by : (b : Bool) → test y ≡ b → (Contains xs x → Contains (filter test xs) x) → Contains (cond b (y ∷ filter test xs) (filter test xs)) x
    by true e more = elim (cases_in y xs x c) as (λ _. Contains (y ∷ filter test xs) x) [
      | inl h ↦ subst (Contains (y ∷ filter test xs)) h (head_in y (filter test xs))
      | inr r ↦ tail_in y x (filter test xs) (more r)
    ]
    by false e more = elim (cases_in y xs x c) as (λ _. Contains (filter test xs) x) [
      | inl h ↦ absurd (let a = subst (λ z. test z ≡ false) h e in let z : true ≡ false = sym t ∙ a in cc)
      | inr r ↦ more r
    ]

pub map_in : {A B : Type 0} (f : A → B) (xs : List A) (y : B) → Contains (map f xs) y → (x : A) × Contains xs x × (f x ≡ y)
map_in f [] y c = absurd (none_in y c)
map_in f (x ∷ xs) y c = elim (cases_in (f x) (map f xs) y c) as (λ _. (z : _) × Contains (x ∷ xs) z × (f z ≡ y)) [
  | inl e ↦ (x, head_in x xs, e)
  | inr r ↦ let (z, i, e) = map_in f xs y r in (z, tail_in x z xs i, e)
]

pub in_map : {A B : Type 0} (f : A → B) (xs : List A) (x : A) → Contains xs x → Contains (map f xs) (f x)
in_map f [] x c = absurd (none_in x c)
in_map f (y ∷ xs) x c = elim (cases_in y xs x c) as (λ _. Contains (f y ∷ map f xs) (f x)) [
  | inl e ↦ subst (λ z. Contains (f y ∷ map f xs) (f z)) e (head_in (f y) (map f xs))
  | inr r ↦ tail_in (f y) (f x) (map f xs) (in_map f xs x r)
]

-- numbers one after the other
pub in_numbers : (first count v : ℕ) → first ≤ v → v < first + count → Contains (numbers first count) v
in_numbers first zero v lo hi = absurd (omega arith)
in_numbers first (suc count) v lo hi = elim (cases_eq first v) as (λ _. Contains (first ∷ numbers (suc first) count) v) [
  | inl e ↦ subst (Contains (first ∷ numbers (suc first) count)) e (head_in first (numbers (suc first) count))
  | inr n ↦ tail_in first v (numbers (suc first) count) (in_numbers (suc first) count v (omega arith) (omega arith))
]

pub numbers_in : (first count v : ℕ) → Contains (numbers first count) v → (first ≤ v) × (v < first + count)
numbers_in first zero v c = absurd (none_in v c)
numbers_in first (suc count) v c = elim (cases_in first (numbers (suc first) count) v c) as (λ _. (first ≤ v) × (v < first + suc count)) [
  | inl e ↦ (omega arith, omega arith)
  | inr r ↦ let (a, b) = numbers_in (suc first) count v r in (omega arith, omega arith)
]

pub numbers_end : (first count : ℕ) → numbers first (suc count) ≡ numbers first count ++ (first + count) ∷ []
numbers_end first zero = ap (λ (n : ℕ). n ∷ []) (let e : first ≡ first + 0 = omega arith in e)
numbers_end first (suc count) = ap (λ (xs : List ℕ). first ∷ xs) (numbers_end (suc first) count ∙ ap (λ (n : ℕ). numbers (suc first) count ++ n ∷ []) (let e : suc first + count ≡ first + suc count = omega arith in e))

-- Rising numbers: each is less than what stands after it.
abbrev pub IsRisingFrom : ℕ → List ℕ → Type 0
IsRisingFrom low [] = Unit {0}
IsRisingFrom low (x ∷ xs) = (low ≤ x) × IsRisingFrom (suc x) xs

pub rising_above : (low : ℕ) (xs : List ℕ) (v : ℕ) → IsRisingFrom low xs → Contains xs v → low ≤ v
rising_above low [] v r c = absurd (none_in v c)
rising_above low (x ∷ xs) v r c = elim (cases_in x xs v c) as (λ _. low ≤ v) [
  | inl e ↦ (let a = r.0 in omega arith)
  | inr i ↦ (let a = r.0 in let b = rising_above (suc x) xs v r.1 i in omega arith)
]

pub rising_lower : (low more : ℕ) (xs : List ℕ) → low ≤ more → IsRisingFrom more xs → IsRisingFrom low xs
rising_lower low more [] h r = tt
rising_lower low more (x ∷ xs) h r = ((let a = r.0 in omega arith), r.1)

pub numbers_rise : (first count : ℕ) → IsRisingFrom first (numbers first count)
numbers_rise first zero = tt
numbers_rise first (suc count) = (omega arith, numbers_rise (suc first) count)

pub filter_rises : (test : ℕ → Bool) (low : ℕ) (xs : List ℕ) → IsRisingFrom low xs → IsRisingFrom low (filter test xs)
filter_rises test low [] r = tt
filter_rises test low (x ∷ xs) r = by (test x) (filter_rises test (suc x) xs r.1)
  where
    by : (b : Bool) → IsRisingFrom (suc x) (filter test xs) → IsRisingFrom low (cond b (x ∷ filter test xs) (filter test xs))
    by true more = (r.0, more)
    by false more = rising_lower low (suc x) (filter test xs) (let a = r.0 in omega arith) more

-- rising numbers with the same elements are the same
pub rising_same : (a b : ℕ) (xs ys : List ℕ) → IsRisingFrom a xs → IsRisingFrom b ys → ((v : ℕ) → Contains xs v → Contains ys v) → ((v : ℕ) → Contains ys v → Contains xs v) → xs ≡ ys
rising_same a b [] [] r s f g = refl
rising_same a b [] (y ∷ ys) r s f g = absurd (none_in y (g y (head_in y ys)))
rising_same a b (x ∷ xs) [] r s f g = absurd (none_in x (f x (head_in x xs)))
rising_same a b (x ∷ xs) (y ∷ ys) r s f g =
    let e : x ≡ y = same in
    ap (λ (z : ℕ). z ∷ xs) e ∙ ap (λ (zs : List ℕ). y ∷ zs) (rising_same (suc x) (suc y) xs ys r.1 s.1 (down e) (up e))
  where
    x_from : y ≤ x
    x_from = elim (cases_in y ys x (f x (head_in x xs))) as (λ _. y ≤ x) [ inl e ↦ omega arith | inr i ↦ (let h = rising_above (suc y) ys x s.1 i in omega arith) ]

    y_from : x ≤ y
    y_from = elim (cases_in x xs y (g y (head_in y ys))) as (λ _. x ≤ y) [ inl e ↦ omega arith | inr i ↦ (let h = rising_above (suc x) xs y r.1 i in omega arith) ]

    same : x ≡ y
    same = let p = x_from in let q = y_from in omega arith

    down : x ≡ y → (v : ℕ) → Contains xs v → Contains ys v
    down e v c = elim (cases_in y ys v (f v (tail_in x v xs c))) as (λ _. Contains ys v) [
      | inl q ↦ absurd (let h = rising_above (suc x) xs v r.1 c in omega arith)
      | inr i ↦ i
    ]

    up : x ≡ y → (v : ℕ) → Contains ys v → Contains xs v
    up e v c = elim (cases_in x xs v (g v (tail_in y v ys c))) as (λ _. Contains xs v) [
      | inl q ↦ absurd (let h = rising_above (suc y) ys v s.1 c in omega arith)
      | inr i ↦ i
    ]
