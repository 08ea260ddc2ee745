-- A path names one kind of streams.
use Rattle.std.proofs.Common.{◌≡◌, ◌⊎◌, List, ◌∷◌, [], ◌++◌, ℕ, ◌+◌, ◌-◌, Bool, true, false, refl, sym, ap, ◌∙◌, inl, inr, length, take, arith}
use Rattle.std.specs.Prelude.{codes, drop}
use Rattle.std.proofs.Math.Seq.{drop-append_seam}
use Rattle.std.proofs.lemmas.List.{take-append-drop}
use Rattle.std.proofs.lemmas.Slice.Eq.{bytes_eq-Decides}
use Rattle.sby_words.specs.Folders.{EndsIn}
use Rattle.sby_words.specs.Kinds.{IsKindNamed}
use Rattle.cert_judge.specs.declared.stream.Kind.{Kind}
use Rattle.cert_judge.specs.declared.stream.Kind.TheVariants.{Certificate, Witness, Invariant}
use Rattle.cert_judge.specs.declared.stream.StreamKind.{StreamKind}
use Rattle.cert_judge.specs.declared.stream.StreamKind.TheVariants.{Drup, Lrat, Proof, ProofBinary}
use Rattle.sby_top.specs.Served.{ends_in}

-- the last byte but one
abbrev pub last_but_one : List ℕ → ℕ
last_but_one [] = 0
last_but_one (b ∷ []) = 0
last_but_one (b ∷ c ∷ []) = b
last_but_one (b ∷ c ∷ d ∷ bs) = last_but_one (c ∷ d ∷ bs)

-- is that of the end
pub last_but_one_of : (front : List ℕ) (b c : ℕ) (end : List ℕ) → last_but_one (front ++ b ∷ c ∷ end) ≡ last_but_one (b ∷ c ∷ end)
last_but_one_of [] b c end = refl
last_but_one_of (a ∷ []) b c end = refl
last_but_one_of (a ∷ d ∷ []) b c end = refl
last_but_one_of (a ∷ d ∷ e ∷ front) b c end = last_but_one_of (d ∷ e ∷ front) b c end

of_lrat : (name : List ℕ) → EndsIn (codes ".lrat") name → last_but_one name ≡ 97
of_lrat name ends = ap last_but_one ends.1 ∙ last_but_one_of ends.0 46 108 (codes "rat")

of_proof : (name : List ℕ) → EndsIn (codes ".proof") name → last_but_one name ≡ 111
of_proof name ends = ap last_but_one ends.1 ∙ last_but_one_of ends.0 46 112 (codes "roof")

of_proofb : (name : List ℕ) → EndsIn (codes ".proofb") name → last_but_one name ≡ 102
of_proofb name ends = ap last_but_one ends.1 ∙ last_but_one_of ends.0 46 112 (codes "roofb")

of_wit : (name : List ℕ) → EndsIn (codes ".wit") name → last_but_one name ≡ 105
of_wit name ends = ap last_but_one ends.1 ∙ last_but_one_of ends.0 46 119 (codes "it")

of_inv : (name : List ℕ) → EndsIn (codes ".inv") name → last_but_one name ≡ 110
of_inv name ends = ap last_but_one ends.1 ∙ last_but_one_of ends.0 46 105 (codes "nv")

one_certificate : (name : List ℕ) (x y : StreamKind) → IsKindNamed name (Certificate x) → IsKindNamed name (Certificate y) → x ≡ y
one_certificate name Drup Drup p q = refl
one_certificate name Drup Lrat p q = absurd (p.0 q)
one_certificate name Drup Proof p q = absurd (p.1 q)
one_certificate name Drup ProofBinary p q = absurd (p.2 q)
one_certificate name Lrat Drup p q = absurd (q.0 p)
one_certificate name Lrat Lrat p q = refl
one_certificate name Lrat Proof p q = let no : ◌≡◌ {A = ℕ} 97 111 = sym (of_lrat name p) ∙ of_proof name q in absurd (omega (arith, no))
one_certificate name Lrat ProofBinary p q = let no : ◌≡◌ {A = ℕ} 97 102 = sym (of_lrat name p) ∙ of_proofb name q in absurd (omega (arith, no))
one_certificate name Proof Drup p q = absurd (q.1 p)
one_certificate name Proof Lrat p q = let no : ◌≡◌ {A = ℕ} 111 97 = sym (of_proof name p) ∙ of_lrat name q in absurd (omega (arith, no))
one_certificate name Proof Proof p q = refl
one_certificate name Proof ProofBinary p q = let no : ◌≡◌ {A = ℕ} 111 102 = sym (of_proof name p) ∙ of_proofb name q in absurd (omega (arith, no))
one_certificate name ProofBinary Drup p q = absurd (q.2 p)
one_certificate name ProofBinary Lrat p q = let no : ◌≡◌ {A = ℕ} 102 97 = sym (of_proofb name p) ∙ of_lrat name q in absurd (omega (arith, no))
one_certificate name ProofBinary Proof p q = let no : ◌≡◌ {A = ℕ} 102 111 = sym (of_proofb name p) ∙ of_proof name q in absurd (omega (arith, no))
one_certificate name ProofBinary ProofBinary p q = refl

no_witness : (name : List ℕ) (x : StreamKind) → IsKindNamed name (Certificate x) → IsKindNamed name Witness → ⊥
no_witness name Drup p q = p.3 q
no_witness name Lrat p q = let no : ◌≡◌ {A = ℕ} 97 105 = sym (of_lrat name p) ∙ of_wit name q in absurd (omega (arith, no))
no_witness name Proof p q = let no : ◌≡◌ {A = ℕ} 111 105 = sym (of_proof name p) ∙ of_wit name q in absurd (omega (arith, no))
no_witness name ProofBinary p q = let no : ◌≡◌ {A = ℕ} 102 105 = sym (of_proofb name p) ∙ of_wit name q in absurd (omega (arith, no))

no_invariant : (name : List ℕ) (x : StreamKind) → IsKindNamed name (Certificate x) → IsKindNamed name Invariant → ⊥
no_invariant name Drup p q = p.4 q
no_invariant name Lrat p q = let no : ◌≡◌ {A = ℕ} 97 110 = sym (of_lrat name p) ∙ of_inv name q in absurd (omega (arith, no))
no_invariant name Proof p q = let no : ◌≡◌ {A = ℕ} 111 110 = sym (of_proof name p) ∙ of_inv name q in absurd (omega (arith, no))
no_invariant name ProofBinary p q = let no : ◌≡◌ {A = ℕ} 102 110 = sym (of_proofb name p) ∙ of_inv name q in absurd (omega (arith, no))

not_both : (name : List ℕ) → IsKindNamed name Witness → IsKindNamed name Invariant → ⊥
not_both name p q = let no : ◌≡◌ {A = ℕ} 105 110 = sym (of_wit name p) ∙ of_inv name q in absurd (omega (arith, no))

pub one_kind : (name : List ℕ) (x y : Kind) → IsKindNamed name x → IsKindNamed name y → x ≡ y
one_kind name (Certificate x) (Certificate y) p q = ap Certificate (one_certificate name x y p q)
one_kind name (Certificate x) Witness p q = absurd (no_witness name x p q)
one_kind name Witness (Certificate y) p q = absurd (no_witness name y q p)
one_kind name (Certificate x) Invariant p q = absurd (no_invariant name x p q)
one_kind name Witness Witness p q = refl
one_kind name Witness Invariant p q = absurd (not_both name p q)
one_kind name Invariant (Certificate y) p q = absurd (no_invariant name y q p)
one_kind name Invariant Witness p q = absurd (not_both name q p)
one_kind name Invariant Invariant p q = refl

-- ---- how a text ends, as it is decided

ends_so : (end text : List ℕ) → EndsIn end text → ends_in end text ≡ true
ends_so end text ends =
    let cut : drop (length text - length end) text ≡ end =
    rw ends.1 (ap (λ (n : ℕ). drop n (ends.0 ++ end)) (let long = length_both ends.0 end in let z : length (ends.0 ++ end) - length end ≡ length ends.0 = omega (arith, long) in z) ∙ drop-append_seam ends.0 end) in
    (bytes_eq-Decides end (drop (length text - length end) text)).1 (sym cut)
  where
    length_both : (xs ys : List ℕ) → length (xs ++ ys) ≡ length xs + length ys
    length_both [] ys = omega arith
    length_both (x ∷ xs) ys = let rest = length_both xs ys in omega (arith, rest)

so_ends : (end text : List ℕ) → ends_in end text ≡ true → EndsIn end text
so_ends end text is =
    let same : end ≡ drop (length text - length end) text = (bytes_eq-Decides end (drop (length text - length end) text)).0 is in
    (take (length text - length end) text, sym (take-append-drop (length text - length end) text) ∙ ap (λ (e : List ℕ). take (length text - length end) text ++ e) (sym same))

is_or_not : (b : Bool) → (b ≡ true) ⊎ (b ≡ false)
is_or_not true = inl refl
is_or_not false = inr refl

-- a path that names another kind ends otherwise
pub named_otherwise : (path : List ℕ) (kind : Kind) → IsKindNamed path kind → (kind ≡ Witness → ⊥) → ends_in (codes ".wit") path ≡ false
named_otherwise path kind named other = elim (is_or_not (ends_in (codes ".wit") path)) [
  | inl is ↦ absurd (other (one_kind path kind Witness named (so_ends (codes ".wit") path is)))
  | inr not ↦ not
]

pub named_witness : (path : List ℕ) → IsKindNamed path Witness → ends_in (codes ".wit") path ≡ true
named_witness path named = ends_so (codes ".wit") path named

pub witness_named : (path : List ℕ) → ends_in (codes ".wit") path ≡ true → IsKindNamed path Witness
witness_named path is = so_ends (codes ".wit") path is
