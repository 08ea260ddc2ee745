-- Where a comment begins.
use Rattle.std.proofs.Common.{◌≡◌, ◌⊎◌, ℕ, Bool, true, false, eqb, List, [], ◌∷◌, ◌++◌, take, refl, ap, inl, inr, arith}
use Rattle.std.proofs.lemmas.Bool.{cases_Bool}
use Rattle.std.proofs.lemmas.Bool.Decides.{nat_tests}
use Rattle.sby_file.specs.Text.{is_blank, comment_place, uncommented}
use Rattle.sby_file.specs.Comments.{MayComment, HasComment}

-- a comment may begin after these bytes, of which the first stand after white space or not
abbrev Place : Bool → List ℕ → Type 0
Place after [] = after ≡ true
Place after (b ∷ front) = Place (is_blank b) front

abbrev NoPlace : Bool → List ℕ → Type 0
NoPlace after text = (front back : List ℕ) → text ≡ front ++ 35 ∷ back → Place after front → ⊥

later : (after : Bool) (b : ℕ) (text : List ℕ) → NoPlace after (b ∷ text) → NoPlace (is_blank b) text
later after b text none front back e p = none (b ∷ front) back (ap (λ (t : List ℕ). b ∷ t) e) p

hash : (b : ℕ) → eqb b 35 ≡ true → b ≡ 35
hash b h = grind (arith, nat_tests)

whole_from : (after : Bool) (text : List ℕ) → NoPlace after text → take (comment_place after text) text ≡ text
whole_from after [] none = refl
whole_from false (b ∷ text) none = ap (λ (t : List ℕ). b ∷ t) (whole_from (is_blank b) text (later false b text none))
whole_from true (b ∷ text) none = elim (cases_Bool (eqb b 35)) [
  | inl y ↦ absurd (none [] text (ap (λ (n : ℕ). n ∷ text) (hash b y)) refl)
  | inr n ↦ rw n (ap (λ (t : List ℕ). b ∷ t) (whole_from (is_blank b) text (later true b text none)))
]

cut_from : (after : Bool) (front back : List ℕ) → Place after front → NoPlace after front → take (comment_place after (front ++ 35 ∷ back)) (front ++ 35 ∷ back) ≡ front
cut_from after [] back place none = rw place refl
cut_from false (b ∷ front) back place none = ap (λ (t : List ℕ). b ∷ t) (cut_from (is_blank b) front back place (later false b front none))
cut_from true (b ∷ front) back place none = elim (cases_Bool (eqb b 35)) [
  | inl y ↦ absurd (none [] front (ap (λ (n : ℕ). n ∷ front) (hash b y)) refl)
  | inr n ↦ rw n (ap (λ (t : List ℕ). b ∷ t) (cut_from (is_blank b) front back place (later true b front none)))
]

behind_blank : (after : Bool) (before : List ℕ) (b : ℕ) → is_blank b ≡ true → Place after (before ++ b ∷ [])
behind_blank after [] b h = h
behind_blank after (c ∷ before) b h = behind_blank (is_blank c) before b h

place_of : (front : List ℕ) → MayComment front → Place true front
place_of front (inl e) = rw e refl
place_of front (inr h) = rw h.2 (behind_blank true h.0 h.1 h.3)

abbrev Behind : Bool → List ℕ → Type 0
Behind after front = ((front ≡ []) × (after ≡ true)) ⊎ ((before : List ℕ) × (b : ℕ) × (front ≡ before ++ b ∷ []) × (is_blank b ≡ true))

behind_more : (b : ℕ) (after : Bool) (front : List ℕ) → Behind (is_blank b) front → Behind after (b ∷ front)
behind_more b after front (inl h) = inr ([], b, ap (λ (t : List ℕ). b ∷ t) h.0, h.1)
behind_more b after front (inr h) = inr (b ∷ h.0, h.1, ap (λ (t : List ℕ). b ∷ t) h.2, h.3)

behind_of : (after : Bool) (front : List ℕ) → Place after front → Behind after front
behind_of after [] p = inl (refl, p)
behind_of after (b ∷ front) p = behind_more b after front (behind_of (is_blank b) front p)

may_of : (front : List ℕ) → Place true front → MayComment front
may_of front p = elim (behind_of true front p) as (λ _. MayComment front) [ inl h ↦ inl h.0 | inr h ↦ inr h ]

no_place : (text : List ℕ) → (HasComment text → ⊥) → NoPlace true text
no_place text none front back e p = none (front, back, e, may_of front p)

pub uncommented_whole : (text : List ℕ) → (HasComment text → ⊥) → uncommented text ≡ text
uncommented_whole text none = whole_from true text (no_place text none)

pub uncommented_cut : (front back : List ℕ) → MayComment front → (HasComment front → ⊥) → uncommented (front ++ 35 ∷ back) ≡ front
uncommented_cut front back may none = cut_from true front back (place_of front may) (no_place front none)
