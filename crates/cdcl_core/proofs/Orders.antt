-- Lists of clauses in other orders.
use Rattle.std.proofs.Common.{◌≡◌, ◌⊎◌, ℕ, ◌<◌, List, [], ◌∷◌, ◌++◌, length, set, refl, sym, ◌∙◌, ap, subst, inl, inr, arith, zero, suc}
use Rattle.std.specs.Prelude.{Contains, Option, Some, None}
use Rattle.std.proofs.lemmas.List.{append-nil, append_assoc, length-append}
use Rattle.cnf_form.specs.Cnf.{LitOf, negate, Removes, Deletes, Closure}
use Rattle.cnf_form.specs.Cnf as cnf
use Rattle.cnf_form.proofs.Members.{Contains-head, Contains-tail, Contains-cases}
use Rattle.cnf_form.proofs.Rup.{Closure-least}
use Rattle.unit_propagation.specs.Propagation.{IsFixpoint}
use Rattle.unit_propagation.specs.Propagator.{clauses_of, slot_at}
use Rattle.cdcl_core.specs.Present.{Inserts, front, later, Reorders, empty, placed, SameOrders}

-- of two clauses that are inserted the second may be inserted first
inserts_swap : {a b : List LitOf} {A B C : List (List LitOf)} → Inserts a A B → Inserts b B C → (D : List (List LitOf)) × Inserts b A D × Inserts a D C
inserts_swap {a} {b} (front A) (front F) = (b ∷ A, front A, later b A (a ∷ A) (front A))
inserts_swap {a} {b} (front A) (later d F G j) = (G, j, front G)
inserts_swap {a} {b} (later x A B i) (front F) = (b ∷ x ∷ A, front (x ∷ A), later b (x ∷ A) (x ∷ B) (later x A B i))
inserts_swap {a} {b} (later x A B i) (later d F G j) = let w = inserts_swap i j in (x ∷ w.0, later x A w.0 w.1, later x w.0 G w.2)

inserts_new : {c : List LitOf} {F G : List (List LitOf)} → Inserts c F G → Contains G c
inserts_new {c} (front F) = Contains-head c F
inserts_new {c} (later d F G i) = Contains-tail d c G (inserts_new i)

inserts_old : {c : List LitOf} {F G : List (List LitOf)} → Inserts c F G → (e : List LitOf) → Contains F e → Contains G e
inserts_old {c} (front F) e h = Contains-tail c e F h
inserts_old {c} (later d F G i) e h = elim (Contains-cases d e F h) [
  | inl s ↦ subst (λ z. Contains (d ∷ G) z) s (Contains-head d G)
  | inr k ↦ Contains-tail d e G (inserts_old i e k)
]

inserts_cases : {c : List LitOf} {F G : List (List LitOf)} → Inserts c F G → (e : List LitOf) → Contains G e → (c ≡ e) ⊎ Contains F e
inserts_cases {c} (front F) e h = Contains-cases c e F h
inserts_cases {c} (later d F G i) e h = elim (Contains-cases d e G h) [
  | inl s ↦ inr (subst (λ z. Contains (d ∷ F) z) s (Contains-head d F))
  | inr k ↦ elim (inserts_cases i e k) [ inl s ↦ inl s | inr j ↦ inr (Contains-tail d e F j) ]
]

inserts_end : (F : List (List LitOf)) (c : List LitOf) → Inserts c F (F ++ c ∷ [])
inserts_end [] c = front []
inserts_end (d ∷ F) c = later d F (F ++ c ∷ []) (inserts_end F c)

inserts_removes : {c : List LitOf} {F G : List (List LitOf)} → Inserts c F G → Removes c G F
inserts_removes {c} (front F) = cnf.first c F (record { forth = λ l h. h; back = λ l h. h })
inserts_removes {c} (later d F G i) = cnf.later d G F (inserts_removes i)

pub reorders_same : (F : List (List LitOf)) → Reorders F F
reorders_same [] = empty
reorders_same (c ∷ F) = placed c F F (c ∷ F) (reorders_same F) (front F)

pub reorders_forth : {F G : List (List LitOf)} → Reorders F G → (e : List LitOf) → Contains F e → Contains G e
reorders_forth empty e h = h
reorders_forth (placed c F G H r i) e h = elim (Contains-cases c e F h) [
  | inl s ↦ subst (Contains H) s (inserts_new i)
  | inr k ↦ inserts_old i e (reorders_forth r e k)
]

pub reorders_back : {F G : List (List LitOf)} → Reorders F G → (e : List LitOf) → Contains G e → Contains F e
reorders_back empty e h = h
reorders_back (placed c F G H r i) e h = elim (inserts_cases i e h) [
  | inl s ↦ subst (Contains (c ∷ F)) s (Contains-head c F)
  | inr k ↦ Contains-tail c e F (reorders_back r e k)
]

-- one more clause somewhere
reorders_put : (xs ys : List (List LitOf)) (c : List LitOf) {G H : List (List LitOf)} → Reorders (xs ++ ys) G → Inserts c G H → Reorders (xs ++ c ∷ ys) H
reorders_put [] ys c {G} {H} r i = placed c ys G H r i
reorders_put (x ∷ xs) ys c {G} {H} (placed y F K L r j) i = let w = inserts_swap j i in placed x (xs ++ c ∷ ys) w.0 H (reorders_put xs ys c r w.1) w.2

-- one less
reorders_less : (xs ys : List (List LitOf)) (c : List LitOf) {G : List (List LitOf)} → Reorders (xs ++ c ∷ ys) G → (H : List (List LitOf)) × Inserts c H G × Reorders (xs ++ ys) H
reorders_less [] ys c (placed d F K L r j) = (K, j, r)
reorders_less (x ∷ xs) ys c (placed y F K L r j) =
    let w = reorders_less xs ys c r in
    let v = inserts_swap w.1 j in
    (v.0, v.2, placed x (xs ++ ys) w.0 v.0 w.2 v.1)

-- the clauses before and after that of a number
pub slot_parts : (slots : List (Option (List LitOf))) (k : ℕ) (c : List LitOf) → slot_at slots k ≡ Some c
    → (xs : List (List LitOf)) × (ys : List (List LitOf)) × (clauses_of slots ≡ xs ++ c ∷ ys) × (clauses_of (set slots k None) ≡ xs ++ ys)
slot_parts [] k c e = absurd (let f : None ≡ Some c = e in cc)
slot_parts (Some x ∷ ss) zero c e = let f : x ≡ c = cc in ([], clauses_of ss, ap (λ z. z ∷ clauses_of ss) f, refl)
slot_parts (None ∷ ss) zero c e = absurd (let f : None ≡ Some c = e in cc)
slot_parts (Some x ∷ ss) (suc k) c e = let w = slot_parts ss k c e in (x ∷ w.0, w.1, ap (λ z. x ∷ z) w.2, ap (λ z. x ∷ z) w.3)
slot_parts (None ∷ ss) (suc k) c e = slot_parts ss k c e

pub orders_same : (F : List (List LitOf)) → SameOrders F F
orders_same F = record { forth = λ H r. r }

pub orders_both : {F G K : List (List LitOf)} → SameOrders F G → SameOrders G K → SameOrders F K
orders_both s t = record { forth = λ H r. t.forth H (s.forth H r) }

-- a clause of the second part goes after the first
pub orders_thaw : (A : List (List LitOf)) (slots : List (Option (List LitOf))) (k : ℕ) (c : List LitOf) → slot_at slots k ≡ Some c → SameOrders (A ++ clauses_of slots) ((A ++ c ∷ []) ++ clauses_of (set slots k None))
orders_thaw A slots k c e =
    let w = slot_parts slots k c e in
    let xs = w.0 in
    let ys = w.1 in
    record {
      forth = λ H r.
          let r1 : Reorders ((A ++ xs) ++ c ∷ ys) H = subst (λ z. Reorders z H) (ap (λ z. A ++ z) w.2 ∙ sym (append_assoc A xs (c ∷ ys))) r in
          let v = reorders_less (A ++ xs) ys c r1 in
          let r2 : Reorders (A ++ c ∷ (xs ++ ys)) H = reorders_put A (xs ++ ys) c (subst (λ z. Reorders z v.0) (append_assoc A xs ys) v.2) v.1 in
          subst (λ z. Reorders z H) (sym (ap (λ z. (A ++ c ∷ []) ++ z) w.3 ∙ append_assoc A (c ∷ []) (xs ++ ys))) r2;
    }

-- a clause of the first part goes after the second
pub orders_freeze : (B : List (List LitOf)) (slots : List (Option (List LitOf))) (k : ℕ) (c : List LitOf) → slot_at slots k ≡ Some c → SameOrders (clauses_of slots ++ B) (clauses_of (set slots k None) ++ (B ++ c ∷ []))
orders_freeze B slots k c e =
    let w = slot_parts slots k c e in
    let xs = w.0 in
    let ys = w.1 in
    record {
      forth = λ H r.
          let r1 : Reorders (xs ++ c ∷ (ys ++ B)) H = subst (λ z. Reorders z H) (ap (λ z. z ++ B) w.2 ∙ append_assoc xs (c ∷ ys) B) r in
          let v = reorders_less xs (ys ++ B) c r1 in
          let all : xs ++ (ys ++ B) ≡ ((xs ++ ys) ++ B) ++ [] = sym (append_assoc xs ys B) ∙ sym (append-nil ((xs ++ ys) ++ B)) in
          let r2 : Reorders (((xs ++ ys) ++ B) ++ c ∷ []) H = reorders_put ((xs ++ ys) ++ B) [] c (subst (λ z. Reorders z v.0) all v.2) v.1 in
          subst (λ z. Reorders z H) (sym (ap (λ z. z ++ (B ++ c ∷ [])) w.3 ∙ sym (append_assoc (xs ++ ys) B (c ∷ [])))) r2;
    }

-- a clause is added
pub reorders_add : (A B O : List (List LitOf)) (c : List LitOf) → Reorders (A ++ B) O → Reorders ((A ++ c ∷ []) ++ B) (O ++ c ∷ [])
reorders_add A B O c r = subst (λ z. Reorders z (O ++ c ∷ [])) (sym (append_assoc A (c ∷ []) B)) (reorders_put A B c r (inserts_end O c))

-- a clause of which nothing is true is deleted where nothing is left to do
module _ (t : List LitOf) (xs ys O : List (List LitOf)) (c : List LitOf) (r : Reorders (xs ++ c ∷ ys) O) (fix : IsFixpoint t (xs ++ c ∷ ys)) (no : (l : LitOf) → Contains c l → Contains t l → ⊥) where
  pub reorders_delete : (H : List (List LitOf)) × Deletes O c H × Reorders (xs ++ ys) H
  reorders_delete =
      let w = reorders_less xs ys c r in
      let fix : IsFixpoint t O = λ d h. fix d (reorders_back r d h) in
      let below : (l : LitOf) → Closure O l → Contains t l = λ l h. Closure-least (λ m. Contains t m) (λ d m g i others. let s = fix d g in s.closed m i (record { each = others })) h in
      (w.0, inl (inserts_removes w.1, λ v. let s = fix v.0 v.1 in s.not_falsified (record { each = λ l h. below (negate l) (v.2 l h) }), λ v. no v.0 v.1 (below v.0 v.2)), w.2)

-- fewer clauses are left where one was removed
pub clauses_less : (slots : List (Option (List LitOf))) (k : ℕ) (c : List LitOf) → slot_at slots k ≡ Some c → length (clauses_of (set slots k None)) < length (clauses_of slots)
clauses_less slots k c e =
    let w = slot_parts slots k c e in
    let a = ap length w.2 ∙ length-append w.0 (c ∷ w.1) in
    let b = ap length w.3 ∙ length-append w.0 w.1 in
    omega (arith, a, b)

-- what is left was there
pub clauses_of-set : (slots : List (Option (List LitOf))) (k : ℕ) (d : List LitOf) → Contains (clauses_of (set slots k None)) d → Contains (clauses_of slots) d
clauses_of-set [] k d h = h
clauses_of-set (Some x ∷ ss) zero d h = Contains-tail x d (clauses_of ss) h
clauses_of-set (None ∷ ss) zero d h = h
clauses_of-set (Some x ∷ ss) (suc k) d h = elim (Contains-cases x d (clauses_of (set ss k None)) h) [
  | inl s ↦ subst (λ z. Contains (x ∷ clauses_of ss) z) s (Contains-head x (clauses_of ss))
  | inr j ↦ Contains-tail x d (clauses_of ss) (clauses_of-set ss k d j)
]
clauses_of-set (None ∷ ss) (suc k) d h = clauses_of-set ss k d h
