-- What a call promises.
use Rattle.std.proofs.Common.{◌≡◌, ◌≢◌, ◌⊎◌, ℕ, ◌≤◌, ◌^◌, Bool, true, false, List, [], ◌∷◌, length, refl, ap, sym, ◌∙◌, subst, inl, inr, arith}
use Rattle.std.specs.Prelude.{Option, Some, None, codes, decimal}
use Rattle.std.specs.Str.Parse.{digits_value}
use Rattle.std.proofs.lemmas.Fmt.{decimal_is_IsNumeral}
use Rattle.cnf_form.specs.Cnf.{FormulaOf}
use Rattle.cnf_form.specs.Dimacs.{IsDimacs}
use Rattle.cnf_form.specs.Reading.{IsFault}
use Rattle.cnf_form.specs.declared.reader.DimacsFaultKind.{DimacsFaultKind}
use Rattle.sby_edge.specs.Files.{Store}
use Rattle.cdcl_words.specs.Asking.{Asks, AsksPlainly}
use Rattle.cdcl_run.specs.Answer.{IsAnswer, budget_of}
use Rattle.cdcl_run.specs.Output.{grown}
use Rattle.cdcl_run.specs.Run.{Answers, Did, IsContent, IsCutShort, IsDone, IsLeftOff, IsOutOfMemory, IsUngot, World}
use Rattle.cdcl_run.proofs.Answering.{none_searched}
use Rattle.cdcl_run.proofs.Putting.{grown-nil}

decimal_same : (m n : ℕ) → m ≤ 1000000000 → n ≤ 1000000000 → decimal m ≡ decimal n → m ≡ n
decimal_same m n a b e =
    let v = (decimal_is_IsNumeral m (omega (arith, a))).1 in
    let w = (decimal_is_IsNumeral n (omega (arith, b))).1 in
    sym v ∙ ap (digits_value 10) e ∙ w

one_item : (a b : List ℕ) → a ∷ [] ≡ b ∷ [] → a ≡ b
one_item a b e = cc

three_items : (a b c x y z : List ℕ) → a ∷ b ∷ c ∷ [] ≡ x ∷ y ∷ z ∷ [] → (b ≡ y) × (c ≡ z)
three_items a b c x y z e = (cc, cc)

-- words ask for one thing
pub asked_plainly : (words : List (List ℕ)) (c d : Option ℕ) (f g : List ℕ) → AsksPlainly words c f → AsksPlainly words d g → (c ≡ d) × (f ≡ g)
asked_plainly words None None f g a b = (refl, one_item f g (sym a ∙ b))
asked_plainly words None (Some n) f g a b = absurd (let k = ap length (sym a ∙ b.0) in omega (arith, k))
asked_plainly words (Some m) None f g a b = absurd (let k = ap length (sym a.0 ∙ b) in omega (arith, k))
asked_plainly words (Some m) (Some n) f g a b =
    let k = three_items (codes "--conflicts") (decimal m) f (codes "--conflicts") (decimal n) g (sym a.0 ∙ b.0) in
    (ap Some (decimal_same m n a.2 b.2 k.0), k.1)

-- words have an odd number without hints
is_odd : (words : List (List ℕ)) (c : Option ℕ) (f : List ℕ) → AsksPlainly words c f → (length words ≡ 1) ⊎ (length words ≡ 3)
is_odd words None f a = inl (ap length a)
is_odd words (Some n) f a = inr (ap length a.0)

not_both : (words rest : List (List ℕ)) (c d : Option ℕ) (f g : List ℕ) → AsksPlainly words c f → words ≡ codes "--hints" ∷ rest → AsksPlainly rest d g → ⊥
not_both words rest c d f g a e b = elim (is_odd words c f a) [
  | inl x ↦ elim (is_odd rest d g b) [ inl y ↦ omega (arith, x, y, ap length e) | inr y ↦ omega (arith, x, y, ap length e) ]
  | inr x ↦ elim (is_odd rest d g b) [ inl y ↦ omega (arith, x, y, ap length e) | inr y ↦ omega (arith, x, y, ap length e) ]
]

rest_same : (w : List ℕ) (xs ys : List (List ℕ)) → w ∷ xs ≡ w ∷ ys → xs ≡ ys
rest_same w xs ys e = cc

asked_once : (words : List (List ℕ)) (h k : Bool) (c d : Option ℕ) (f g : List ℕ) → Asks words h c f → Asks words k d g → (h ≡ k) × (c ≡ d) × (f ≡ g)
asked_once words false false c d f g a b = let k = asked_plainly words c d f g a b in (refl, k.0, k.1)
asked_once words false true c d f g a b = absurd (not_both words b.0 c d f g a b.1 b.2)
asked_once words true false c d f g a b = absurd (not_both words a.0 d c g f b a.1 a.2)
asked_once words true true c d f g a b =
    let k = asked_plainly a.0 c d f g a.2 (subst (λ z. AsksPlainly z d g) (sym (rest_same (codes "--hints") a.0 b.0 (sym a.1 ∙ b.1))) b.2) in
    (refl, k.0, k.1)

some_same : (b c : List ℕ) → Some b ≡ Some c → b ≡ c
some_same b c e = cc

-- what was got of a file is what the store tells
pub told_content : (told : Option Store) (store : Store) (file bytes job : List ℕ) → told ≡ Some store → IsContent told file bytes → store file ≡ Some job → bytes ≡ job
told_content told store file bytes job t c j = some_same bytes job (sym (subst (λ z. IsContent z file bytes) t c) ∙ j)

module _ (decided : (bytes : List ℕ) (f : FormulaOf) (kind : DimacsFaultKind) (byte : ℕ) → IsDimacs bytes f → IsFault bytes kind byte → ⊥) where
  module _ (before after : World) (exit : ℕ) (job : List ℕ) (store : Store) (f : FormulaOf) (told : before.told ≡ Some store) (short : length job ≤ 2 ^ 32) (is : IsDimacs job f) where
    -- memory ran out at once, the file couldn't be got, or there is an answer
    Comes : Bool → Option ℕ → Type 0
    Comes h c = IsOutOfMemory before after exit ⊎ (IsUngot before after exit ⊎ Answers h before after job (budget_of c) exit)

    done : (h : Bool) (c : Option ℕ) (file : List ℕ) → store file ≡ Some job → IsDone before after h c file exit → Comes h c
    unfolding Comes
    done h c file has (inl e) = inl e
    done h c file has (inr (inl w)) = inr (inl w)
    done h c file has (inr (inr w)) =
        let e = told_content before.told store file w.0 job told w.1 has in
        elim w.3 [
          | inl long ↦ absurd (omega (arith, long.0, short, ap length e))
          | inr (inl fault) ↦ absurd (decided job f fault.1.0 fault.1.1 is (subst (λ z. IsFault z fault.1.0 fault.1.1) e fault.1.2))
          | inr (inr good) ↦ inr (inr (subst (λ z. Answers h before after z (budget_of c) exit) e good.1.2))
        ]

    did : (words : List (List ℕ)) (h : Bool) (c : Option ℕ) (file : List ℕ) → Did before after words exit → Asks words h c file → store file ≡ Some job → Comes h c
    did words h c file d a has = elim d.1 [
      | inl r ↦ absurd (r.none h c file a)
      | inr w ↦
          let s = asked_once words w.0 h w.1 c w.2 file w.3 a in
          done h c file has (subst (λ z. IsDone before after h c z exit) s.2 (subst (λ z. IsDone before after h z w.2 exit) s.1 (subst (λ z. IsDone before after z w.1 w.2 exit) s.0 w.4)))
    ]

  exit_of : (hinted : Bool) (job : List ℕ) (budget : ℕ) (stream : List ℕ) (exit : ℕ) → IsAnswer hinted job budget stream exit → (exit ≢ 1) × (exit ≢ 32)
  exit_of hinted job budget stream exit (inl w) = (λ e. omega (arith, w.0, e), λ e. omega (arith, w.0, e))
  exit_of hinted job budget stream exit (inr (inl w)) = (λ e. omega (arith, w.0, e), λ e. omega (arith, w.0, e))
  exit_of hinted job budget stream exit (inr (inr w)) = (λ e. omega (arith, w.0, e), λ e. omega (arith, w.0, e))

  pub kept : (before after : World) (words : List (List ℕ)) (exit : ℕ) (hinted : Bool) (conflicts : Option ℕ) (file job : List ℕ) (store : Store) (f : FormulaOf) → Did before after words exit → Asks words hinted conflicts file → before.told ≡ Some store
      → store file ≡ Some job → length job ≤ 2 ^ 32 → IsDimacs job f → exit ≢ 1 → exit ≢ 32
      → (stream : List ℕ) × (after.taken ≡ grown before.taken stream) × IsAnswer hinted job (budget_of conflicts) stream exit
  unfolding Comes
  kept before after words exit h c file job store f d a told has short is n1 n32 = elim (did before after exit job store f told short is words h c file d a has) [
    | inl w ↦ absurd (n32 w.exit_is)
    | inr (inl w) ↦ absurd (n1 w.exit_is)
    | inr (inr (inl w)) ↦ (w.0, w.1, w.3)
    | inr (inr (inr (inl w))) ↦ absurd (n1 w.0)
    | inr (inr (inr (inr w))) ↦ absurd (n32 w.0)
  ]

  pub broken : (before after : World) (words : List (List ℕ)) (exit : ℕ) (hinted : Bool) (conflicts : Option ℕ) (file job : List ℕ) (store : Store) (f : FormulaOf) → Did before after words exit → Asks words hinted conflicts file → before.told ≡ Some store
      → store file ≡ Some job → length job ≤ 2 ^ 32 → IsDimacs job f → exit ≡ 1 → IsCutShort hinted before after job (budget_of conflicts) ⊎ IsUngot before after exit
  unfolding Comes
  broken before after words exit h c file job store f d a told has short is one = elim (did before after exit job store f told short is words h c file d a has) [
    | inl w ↦ absurd (omega (arith, w.exit_is, one))
    | inr (inl w) ↦ inr w
    | inr (inr (inl w)) ↦ absurd ((exit_of h job (budget_of c) w.0 exit w.3).0 one)
    | inr (inr (inr (inl w))) ↦ inl w.1
    | inr (inr (inr (inr w))) ↦ absurd (omega (arith, w.0, one))
  ]

  pub left : (before after : World) (words : List (List ℕ)) (exit : ℕ) (hinted : Bool) (conflicts : Option ℕ) (file job : List ℕ) (store : Store) (f : FormulaOf) → Did before after words exit → Asks words hinted conflicts file → before.told ≡ Some store
      → store file ≡ Some job → length job ≤ 2 ^ 32 → IsDimacs job f → exit ≡ 32 → IsLeftOff hinted before after job (budget_of conflicts)
  unfolding Comes
  left before after words exit h c file job store f d a told has short is out = elim (did before after exit job store f told short is words h c file d a has) [
    | inl w ↦ (w.sink_faults, ([], (0, w.taken ∙ sym (grown-nil before.taken)), none_searched h job f (budget_of c) is))
    | inr (inl w) ↦ absurd (omega (arith, w.exit_is, out))
    | inr (inr (inl w)) ↦ absurd ((exit_of h job (budget_of c) w.0 exit w.3).1 out)
    | inr (inr (inr (inl w))) ↦ absurd (omega (arith, w.0, out))
    | inr (inr (inr (inr w))) ↦ w.1
  ]
