-- A stream's fault is at the first byte with which none begins.
use Rattle.std.proofs.Common.{◌≡◌, ◌⊎◌, ℕ, ◌+◌, ◌<◌, Bool, true, false, cond, List, [], ◌∷◌, ◌++◌, length, take, refl, ap, sym, ◌∙◌, inl, inr, arith, subst, append_assoc}
use Rattle.std.specs.Prelude.{Contains}
use Rattle.std.proofs.lemmas.List.{append-nil, length-append}
use Rattle.std.proofs.lemmas.List.Elements.{Contains-append_cases, Contains-append_right}
use Rattle.std.proofs.Math.Seq.{take-append_seam, take-append-add}
use Rattle.cert_stream.specs.declared.mode.ParseFault.{ParseFault}

-- what isn't said before the last of three lists, the second of which counts only where the stream has ended, is in all of them just where it is in the last
module _ {S : Type 0} (s : S) (front : List S) (ended : Bool) (told last : List S) where
  pub in_last : (Contains front s → ⊥) → (Contains told s → ⊥) → Contains (front ++ (cond ended told [] ++ last)) s → Contains last s
  in_last nf nt h = elim (Contains-append_cases front (cond ended told [] ++ last) s h) [ inl k ↦ absurd (nf k) | inr k ↦ after_front ended k ]
    where
      after_front : (over : Bool) → Contains (cond over told [] ++ last) s → Contains last s
      after_front true k = elim (Contains-append_cases told last s k) [ inl j ↦ absurd (nt j) | inr j ↦ j ]
      after_front false k = k

  pub from_last : Contains last s → Contains (front ++ (cond ended told [] ++ last)) s
  from_last h = Contains-append_right front (cond ended told [] ++ last) s (Contains-append_right (cond ended told []) last s h)

-- A reader goes on with the bytes of a stream until it is at a fault, which it tells and stays at; while it goes on, the stream can end
-- without a fault.
pub record Reader : Type 1 where
  pub Goes : List ℕ → Type 0
  pub IsAt : List ℕ → ParseFault → Type 0
  pub Tells : Bool → List ℕ → ParseFault → Type 0
  pub starts : Goes []
  pub next : (bytes : List ℕ) (b : ℕ) → Goes bytes → Goes (bytes ++ b ∷ []) ⊎ ((f : ParseFault) × IsAt (bytes ++ b ∷ []) f × (f.byte ≡ length bytes))
  pub stays : (bytes more : List ℕ) (f : ParseFault) → IsAt bytes f → IsAt (bytes ++ more) f
  pub apart : (bytes : List ℕ) (f : ParseFault) → IsAt bytes f → Goes bytes → ⊥
  pub same : (bytes : List ℕ) (f g : ParseFault) → IsAt bytes f → IsAt bytes g → f ≡ g
  pub told : (ended : Bool) (bytes : List ℕ) (f : ParseFault) → Tells ended bytes f → IsAt bytes f
  pub tells : (ended : Bool) (bytes : List ℕ) (f : ParseFault) → IsAt bytes f → Tells ended bytes f
  pub ends : (bytes : List ℕ) → Goes bytes → (more : List ℕ) × ((f : ParseFault) → Tells true (bytes ++ (more ++ 10 ∷ [])) f → ⊥)

module _ (r : Reader) where
  abbrev Begins : List ℕ → Type 0
  Begins bytes = (more : List ℕ) × ((f : ParseFault) → r.Tells true (bytes ++ (more ++ 10 ∷ [])) f → ⊥)

  -- where a fault came
  record FirstFault (bytes : List ℕ) (f : ParseFault) : Type 0 where
    pub front : List ℕ
    pub byte : ℕ
    pub rest : List ℕ
    pub are : bytes ≡ front ++ byte ∷ rest
    pub place : f.byte ≡ length front
    pub before : r.Goes front
    pub past : r.IsAt (front ++ byte ∷ []) f

  first_fault : (bytes : List ℕ) (f : ParseFault) (rest front : List ℕ) → bytes ≡ front ++ rest → r.Goes front → r.IsAt bytes f → FirstFault bytes f
  first_fault bytes f [] front e n h = absurd (r.apart front f (subst (λ z. r.IsAt z f) (e ∙ append-nil front) h) n)
  first_fault bytes f (b ∷ rest) front e n h =
      let k : bytes ≡ (front ++ b ∷ []) ++ rest = e ∙ sym (append_assoc front (b ∷ []) rest) in
      elim (r.next front b n) [
        | inl g ↦ first_fault bytes f rest (front ++ b ∷ []) k g h
        | inr g ↦
            let i : g.0 ≡ f = r.same bytes g.0 f (subst (λ z. r.IsAt z g.0) (sym k) (r.stays (front ++ b ∷ []) rest g.0 g.1)) h in
            record { front = front; byte = b; rest = rest; are = e; place = sym (ap (λ (z : ParseFault). z.byte) i) ∙ g.2; before = n; past = subst (r.IsAt (front ++ b ∷ [])) i g.1 }
      ]

  -- bytes go on, or are at a fault
  goes_or_at : (rest front : List ℕ) → r.Goes front → r.Goes (front ++ rest) ⊎ ((f : ParseFault) × r.IsAt (front ++ rest) f)
  goes_or_at [] front n = inl (subst r.Goes (sym (append-nil front)) n)
  goes_or_at (b ∷ rest) front n =
      let e : (front ++ b ∷ []) ++ rest ≡ front ++ b ∷ rest = append_assoc front (b ∷ []) rest in
      elim (r.next front b n) [
        | inl g ↦ elim (goes_or_at rest (front ++ b ∷ []) g) [ inl k ↦ inl (subst r.Goes e k) | inr k ↦ inr (k.0, subst (λ z. r.IsAt z k.0) e k.1) ]
        | inr g ↦ inr (g.0, subst (λ z. r.IsAt z g.0) e (r.stays (front ++ b ∷ []) rest g.0 g.1))
      ]

  module _ (ended : Bool) (bytes : List ℕ) (f : ParseFault) (h : r.Tells ended bytes f) where
    first : FirstFault bytes f
    first = first_fault bytes f bytes [] refl r.starts (r.told ended bytes f h)

    front_is : take f.byte bytes ≡ first.front
    front_is = ap (λ n. take n bytes) first.place ∙ ap (take (length first.front)) first.are ∙ take-append_seam first.front (first.byte ∷ first.rest)

    past_is : take (f.byte + 1) bytes ≡ first.front ++ first.byte ∷ []
    past_is =
        let k : f.byte + 1 ≡ length first.front + 1 = omega (arith, first.place) in
        ap (λ n. take n bytes) k ∙ ap (take (length first.front + 1)) first.are ∙ take-append-add first.front (first.byte ∷ first.rest) 1

    pub fault_within : f.byte < length bytes
    fault_within =
        let len : length bytes ≡ length first.front + length (first.byte ∷ first.rest) = ap length first.are ∙ length-append first.front (first.byte ∷ first.rest) in
        omega (arith, len, first.place)

    pub begins_before : Begins (take f.byte bytes)
    begins_before = subst Begins (sym front_is) (r.ends first.front first.before)

    pub begins_past : Begins (take (f.byte + 1) bytes) → ⊥
    begins_past g =
        let k : Begins (first.front ++ first.byte ∷ []) = subst Begins past_is g in
        k.1 f (r.tells true ((first.front ++ first.byte ∷ []) ++ (k.0 ++ 10 ∷ [])) f (r.stays (first.front ++ first.byte ∷ []) (k.0 ++ 10 ∷ []) f first.past))

  pub begins_all : (ended : Bool) (bytes : List ℕ) → ((f : ParseFault) → r.Tells ended bytes f → ⊥) → Begins bytes
  begins_all ended bytes h = elim (goes_or_at bytes [] r.starts) [ inl n ↦ r.ends bytes n | inr g ↦ absurd (h g.0 (r.tells ended bytes g.0 g.1)) ]
