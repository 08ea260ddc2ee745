-- The bytes of an answer, by its stages.
use Rattle.std.proofs.Common.{◌≡◌, ℕ, zero, suc, ◌-◌, ◌<◌, ◌≤◌, List, [], ◌∷◌, ◌++◌, length, take, drop, Bool, false, Some, None, Ok, refl, sym, ap, ◌∙◌, subst, arith}
use Rattle.std.specs.Prelude.{Option, ◌==◌}
use Rattle.std.proofs.lemmas.Bool.Decides.{nat_tests}
use Rattle.std.proofs.lemmas.List.{append_assoc, take-append-le}
use mathlib.Core.Logic.{dite}
use native.Mathlib.Decide.{ℕ_discrete}
use Rattle.net_link.specs.Link.{Receives}
use Rattle.net_link.specs.Frame.{Stage, Sizing, Inside, Over, payload}
use Rattle.net_answer.specs.Piped.{Goes, stage_of}

left_is : (head : List ℕ) (got n : ℕ) → 0 < n → stage_of false head got n ≡ Inside (n - 1)
left_is head got n low = let t : (n == 0) ≡ false = grind (arith, nat_tests) in rw t refl

inside : (count n : ℕ) (bytes : List ℕ) → count ≤ n → count ≤ length bytes → payload (Inside n) bytes ≡ take count bytes ++ payload (Inside (n - count)) (drop count bytes)
inside zero n bytes a b = let e : n ≡ n - 0 = omega arith in ap (λ (k : ℕ). payload (Inside k) bytes) e
inside (suc count) n [] a b = absurd (omega arith)
inside (suc count) zero (x ∷ xs) a b = absurd (omega arith)
inside (suc count) (suc n) (x ∷ xs) a b =
    let e : n - count ≡ suc n - suc count = omega arith in
    ap (λ (t : List ℕ). x ∷ t) (inside count n xs (omega arith) (omega arith) ∙ ap (λ (k : ℕ). take count xs ++ payload (Inside k) (drop count xs)) e)

inside_all : (n : ℕ) (bytes : List ℕ) → n < length bytes → payload (Inside n) bytes ≡ take (suc n) bytes ++ payload (Sizing []) (drop (suc n) bytes)
inside_all n [] h = absurd (omega arith)
inside_all zero (x ∷ xs) h = refl
inside_all (suc n) (x ∷ xs) h = ap (λ (t : List ℕ). x ∷ t) (inside_all n xs (omega arith))

body : (left count : ℕ) (head bytes : List ℕ) → 0 < left → count ≤ left → count ≤ length bytes → payload (stage_of false head 0 left) bytes ≡ take count bytes ++ payload (stage_of false head 0 (left - count)) (drop count bytes)
body left count head bytes low a b =
    let first : payload (stage_of false head 0 left) bytes ≡ payload (Inside (left - 1)) bytes = ap (λ (s : Stage). payload s bytes) (left_is head 0 left low) in
    dite (ℕ_discrete count left)
    (λ e.
    let n : suc (left - 1) ≡ count = omega arith in
    let z : 0 ≡ left - count = omega arith in
    first ∙ inside_all (left - 1) bytes (omega arith) ∙ ap (λ (k : ℕ). take k bytes ++ payload (Sizing []) (drop k bytes)) n ∙ ap (λ (k : ℕ). take count bytes ++ payload (stage_of false head 0 k) (drop count bytes)) z)
    (λ ne.
    let m : left - 1 - count ≡ left - count - 1 = omega arith in
    first ∙ inside count (left - 1) bytes (omega arith) b ∙ ap (λ (k : ℕ). take count bytes ++ payload (Inside k) (drop count bytes)) m
    ∙ ap (λ (s : Stage). take count bytes ++ payload s (drop count bytes)) (sym (left_is head 0 (left - count) (omega arith))))

pub goes_none : (a : Option (List ℕ)) (s : Stage) → Goes a a s s []
goes_none None s = refl
goes_none (Some bytes) s = (bytes, refl, refl)

pub goes_then : (a b c : Option (List ℕ)) (s t u : Stage) (x y : List ℕ) → Goes a b s t x → Goes b c t u y → Goes a c s u (x ++ y)
goes_then None b c s t u x y f g = subst (λ (o : Option (List ℕ)). Goes o c t u y) f g
goes_then (Some bytes) b c s t u x y f g =
    let h : Goes (Some f.0) c t u y = subst (λ (o : Option (List ℕ)). Goes o c t u y) f.1 g in
    (h.0, h.1, f.2 ∙ ap (λ (r : List ℕ). x ++ r) h.2 ∙ sym (append_assoc x y (payload u h.0)))

pub goes_body : (E : Type 0) (b c : Option (List ℕ)) (buffer : List ℕ) (left count : ℕ) (head : List ℕ) → 0 < left → count ≤ left → Receives {E = E} b c buffer (Ok count) → Goes b c (stage_of false head 0 left) (stage_of false head 0 (left - count)) (take count buffer)
goes_body E None c buffer left count head low a g = g
goes_body E (Some bytes) c buffer left count head low a g =
    (drop count bytes, g.2, body left count head bytes low a g.0 ∙ ap (λ (t : List ℕ). t ++ payload (stage_of false head 0 (left - count)) (drop count bytes)) (sym g.1))

pub goes_end : (E : Type 0) (b c : Option (List ℕ)) (buffer : List ℕ) (count : ℕ) (s : Stage) → count ≡ 0 → Receives {E = E} b c buffer (Ok count) → Goes b c s Over []
goes_end E None c buffer count s e g = g
goes_end E (Some bytes) c buffer count s e g =
    let none : bytes ≡ [] = g.3 e in
    (drop count bytes, g.2, ap (payload s) none ∙ sym (ap (payload Over) (ap (drop count) none ∙ ap (λ (k : ℕ). drop {A = ℕ} k []) e)))

pub goes_read : (E : Type 0) (a b c : Option (List ℕ)) (s : Stage) (over : Bool) (head new tail : List ℕ) (got left count : ℕ) → Goes a b s (stage_of over head got left) [] → over ≡ false → 0 < left → got ≡ 0 → count ≤ left → count ≤ length new
    → Receives {E = E} b c new (Ok count) → Goes a c s (stage_of over head got (left - count)) (take count (new ++ tail))
goes_read E a b c s over head new tail got left count f shut low zero_got most fits g =
    let at : stage_of over head got left ≡ stage_of false head 0 left = ap (λ (o : Bool). stage_of o head got left) shut ∙ ap (λ (k : ℕ). stage_of false head k left) zero_got in
    let to : stage_of over head got (left - count) ≡ stage_of false head 0 (left - count) = ap (λ (o : Bool). stage_of o head got (left - count)) shut ∙ ap (λ (k : ℕ). stage_of false head k (left - count)) zero_got in
    let one : Goes a b s (stage_of false head 0 left) [] = subst (λ (t : Stage). Goes a b s t []) at f in
    let two = goes_then a b c s (stage_of false head 0 left) (stage_of false head 0 (left - count)) [] (take count new) one (goes_body E b c new left count head low most g) in
    subst (λ (t : Stage). Goes a c s t (take count (new ++ tail))) (sym to) (subst (Goes a c s (stage_of false head 0 (left - count))) (sym (take-append-le count new tail fits)) two)

pub goes_shut : (E : Type 0) (a b c : Option (List ℕ)) (s t : Stage) (new : List ℕ) (count : ℕ) → Goes a b s t [] → Receives {E = E} b c new (Ok count) → count ≡ 0 → Goes a c s Over []
goes_shut E a b c s t new count f g e = goes_then a b c s t Over [] [] f (goes_end E b c new count t e g)
