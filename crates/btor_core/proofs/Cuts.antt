-- Lists by how they are cut, and what holds of each element.
use Rattle.std.proofs.Common.{◌≡◌, ◌⊎◌, List, [], ◌∷◌, ◌++◌, refl, ap, ◌∙◌, inl, inr, subst, append_assoc}
use Rattle.std.specs.Prelude.{All}
use Rattle.std.proofs.lemmas.List.Elements.{All-nil, All-cons, All-head, All-tail}

-- a list with one element more is cut at that element, or before it
pub record IsLast {A : Type 0} (xs : List A) (x : A) (before more : List A) (l : A) : Type 0 where
  pub all : before ≡ xs
  pub last : l ≡ x
  pub none : more ≡ []

pub record IsEarlier {A : Type 0} (xs : List A) (x : A) (before more : List A) (l : A) : Type 0 where
  pub rest : List A
  pub more_is : more ≡ rest ++ x ∷ []
  pub cut : xs ≡ before ++ l ∷ rest

pub push_cut : {A : Type 0} (xs : List A) (x : A) (before more : List A) (l : A) → xs ++ x ∷ [] ≡ before ++ l ∷ more → IsLast xs x before more l ⊎ IsEarlier xs x before more l
push_cut [] x [] more l e = inl (record { all = refl; last = cc; none = cc })
push_cut [] x (b ∷ []) more l e = absurd (let h : [] ≡ l ∷ more = cc in cc)
push_cut [] x (b ∷ c ∷ before) more l e = absurd (let h : [] ≡ c ∷ (before ++ l ∷ more) = cc in cc)
push_cut (z ∷ xs) x [] more l e = inr (record { rest = xs; more_is = cc; cut = cc })
push_cut (z ∷ xs) x (b ∷ before) more l e =
    let tail : xs ++ x ∷ [] ≡ before ++ l ∷ more = cc in
    let head : z ≡ b = cc in
    elim (push_cut xs x before more l tail) as (λ _. IsLast (z ∷ xs) x (b ∷ before) more l ⊎ IsEarlier (z ∷ xs) x (b ∷ before) more l) [
      | inl p ↦ inl (record { all = (let h = p.all in cc); last = p.last; none = p.none })
      | inr p ↦ inr (record { rest = p.rest; more_is = p.more_is; cut = (let h = p.cut in cc) })
    ]

pub all_front : {A : Type 0} (P : A → Type 0) (xs ys : List A) → All P (xs ++ ys) → All P xs
all_front P [] ys h = All-nil P
all_front P (x ∷ xs) ys h = All-cons P x xs (All-head P x (xs ++ ys) h) (all_front P xs ys (All-tail P x (xs ++ ys) h))

pub all_back : {A : Type 0} (P : A → Type 0) (xs ys : List A) → All P (xs ++ ys) → All P ys
all_back P [] ys h = h
all_back P (x ∷ xs) ys h = all_back P xs ys (All-tail P x (xs ++ ys) h)

-- what holds of each element holds of the one at a cut
pub all_at : {A : Type 0} (P : A → Type 0) (xs before more : List A) (l : A) → xs ≡ before ++ l ∷ more → All P xs → P l
all_at P xs before more l e h = All-head P l more (all_back P before (l ∷ more) (subst (λ (ys : List _). All P ys) e h))

-- what holds of the element at each cut holds of each element
pub all_cuts : {A : Type 0} (P : A → Type 0) (before xs : List A) → ((b m : List A) (l : A) → xs ≡ b ++ l ∷ m → P l) → All P xs
all_cuts P before [] h = All-nil P
all_cuts P before (x ∷ xs) h = All-cons P x xs (h [] xs x refl) (all_cuts P before xs (λ b m l e. h (x ∷ b) m l (ap (λ ys. x ∷ ys) e)))

-- a cut of a first part is one of the whole
pub cut_front : {A : Type 0} (xs ys before more : List A) (l : A) → xs ≡ before ++ l ∷ more → xs ++ ys ≡ before ++ l ∷ (more ++ ys)
cut_front xs ys before more l e = ap (λ zs. zs ++ ys) e ∙ append_assoc before (l ∷ more) ys
