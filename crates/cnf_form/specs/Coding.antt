-- A literal as one number.
use Rattle.std.specs.Prelude.{◌≡◌, ◌==◌, ℕ, ◌+◌, ◌*◌, ◌/◌, ◌%◌, Bool, true, false, cond, refl}
use Rattle.std.proofs.Common.{arith, inl, inr}
use Rattle.std.proofs.lemmas.Bool.{eqb-true, eq-eqb, cases_eq, cases_Bool}
use Rattle.cnf_form.specs.Cnf.{LitOf, index_of}

-- twice the variable, and one more where it is negated
abbrev pub lit_from : ℕ → LitOf
lit_from n = record { var = n / 2; negated = n % 2 == 1 }

parts : (n : ℕ) (b : Bool) → (n % 2 == 1) ≡ b → 2 * (n / 2) + cond b 1 0 ≡ n
parts n true h = let e : n % 2 ≡ 1 = eqb-true (n % 2) 1 h in omega arith
parts n false h = elim (cases_eq (n % 2) 1) [
  | inl e ↦ absurd (let t : (n % 2 == 1) ≡ true = eq-eqb (n % 2) 1 e in cc)
  | inr d ↦ omega arith
]

pub index_of-lit_from : (n : ℕ) → index_of (lit_from n) ≡ n
index_of-lit_from n = parts n (n % 2 == 1) refl

pub lit_from-index_of : (l : LitOf) → lit_from (index_of l) ≡ l
lit_from-index_of l = back l.var l.negated
  where
    same : (v w : ℕ) (a b : Bool) → v ≡ w → a ≡ b → (let l : LitOf = record { var = v; negated = a } in l) ≡ record { var = w; negated = b }
    same v w a b e f = cc

    back : (v : ℕ) (b : Bool) → (let l : LitOf = record { var = (2 * v + cond b 1 0) / 2; negated = (2 * v + cond b 1 0) % 2 == 1 } in l) ≡ record { var = v; negated = b }
    back v true = same _ _ _ _ (omega arith) (eq-eqb _ _ (omega arith))
    back v false = same _ _ _ _ (omega arith) (elim (cases_Bool ((2 * v + 0) % 2 == 1)) [ inl t ↦ absurd (let e = eqb-true _ _ t in omega arith) | inr f ↦ f ])
