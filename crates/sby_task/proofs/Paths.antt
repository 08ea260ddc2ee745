-- The name in a path.
use Rattle.std.proofs.Common.{◌≡◌, ◌↔◌, ℕ, zero, suc, true, false, eqb, List, [], ◌∷◌, ◌++◌, refl, sym, ◌∙◌, subst, inl, inr, arith}
use Rattle.std.proofs.lemmas.Bool.{cases_Bool}
use Rattle.std.proofs.lemmas.Bool.Decides.{nat_tests}
use Rattle.std.proofs.lemmas.List.{append_assoc, append-nil}
use Rattle.std.proofs.lemmas.List.Elements.{Contains-append_cases, Contains-append_right}
use Rattle.std.specs.Prelude.{Contains}
use Rattle.sby_task.specs.Files.{part_from, part_of}
use Rattle.sby_task.specs.Paths.{IsLastPart}

abbrev NoSlash : List ℕ → Type 0
NoSlash part = Contains part 47 → ⊥

slash : (b : ℕ) → eqb b 47 ≡ true → b ≡ 47
slash b h = grind (arith, nat_tests)

other : (b : ℕ) → eqb b 47 ≡ false → (b ≡ 47 → ⊥)
other b h e = grind (arith, nat_tests)

no_slash_none : NoSlash []
no_slash_none h = absurd (omega (arith, h.1))

one_is : (b : ℕ) → Contains (b ∷ []) 47 → b ≡ 47
one_is b (zero, lt, at) = at
one_is b (suc i, lt, at) = absurd (omega arith)

first_is : (b : ℕ) (rest : List ℕ) → NoSlash (b ∷ rest) → eqb b 47 ≡ false
first_is b rest none = elim (cases_Bool (eqb b 47)) [ inl y ↦ absurd (none (0, omega arith, slash b y)) | inr n ↦ n ]

rest_is : (b : ℕ) (rest : List ℕ) → NoSlash (b ∷ rest) → NoSlash rest
rest_is b rest none h = none (Contains-append_right (b ∷ []) rest 47 h)

with_one : (part : List ℕ) (b : ℕ) → NoSlash part → eqb b 47 ≡ false → NoSlash (part ++ b ∷ [])
with_one part b none n h = elim (Contains-append_cases part (b ∷ []) 47 h) as (λ _. ⊥) [
  | inl in_part ↦ none in_part
  | inr is_b ↦ other b n (one_is b is_b)
]

behind_slash : (part path : List ℕ) (name : List ℕ) → IsLastPart path name → IsLastPart (part ++ 47 ∷ path) name
behind_slash part path name (front, e, none, inl nothing) =
    (part ++ 47 ∷ [], rw (e, nothing) (sym (append_assoc part (47 ∷ []) name)), none, inr (part, refl))
behind_slash part path name (front, e, none, inr (before, ends)) =
    (part ++ 47 ∷ front, rw e (sym (append_assoc part (47 ∷ front) name)), none, inr (part ++ 47 ∷ before, rw ends (sym (append_assoc part (47 ∷ before) (47 ∷ [])))))

last_from : (part path : List ℕ) → NoSlash part → IsLastPart (part ++ path) (part_from part path)
last_from part [] none = ([], append-nil part, none, inl refl)
last_from part (b ∷ path) none = elim (cases_Bool (eqb b 47)) as (λ _. IsLastPart (part ++ b ∷ path) (part_from part (b ∷ path))) [
  | inl y ↦ rw (y, slash b y) (behind_slash part path (part_from [] path) (last_from [] path no_slash_none))
  | inr n ↦ rw (n, ← append_assoc part (b ∷ []) path) (last_from (part ++ b ∷ []) path (with_one part b none n))
]

part_whole : (part name : List ℕ) → NoSlash name → part_from part name ≡ part ++ name
part_whole part [] none = sym (append-nil part)
part_whole part (b ∷ name) none = rw (first_is b name none) (part_whole (part ++ b ∷ []) name (rest_is b name none) ∙ append_assoc part (b ∷ []) name)

part_behind : (part before name : List ℕ) → part_from part (before ++ 47 ∷ name) ≡ part_from [] name
part_behind part [] name = refl
part_behind part (b ∷ before) name = elim (cases_Bool (eqb b 47)) [
  | inl y ↦ rw y (part_behind [] before name)
  | inr n ↦ rw n (part_behind (part ++ b ∷ []) before name)
]

part_is : (path part : List ℕ) → IsLastPart path part → part_of path ≡ part
part_is path part (front, e, none, inl nothing) = rw (e, nothing) (part_whole [] part none)
part_is path part (front, e, none, inr (before, ends)) =
    rw (e, ends, append_assoc before (47 ∷ []) part) (part_behind [] before part ∙ part_whole [] part none)

pub last_part : (path part : List ℕ) → (part_of path ≡ part) ↔ IsLastPart path part
last_part path part = (λ e. subst (λ (p : List ℕ). IsLastPart path p) e (last_from [] path no_slash_none), part_is path part)
