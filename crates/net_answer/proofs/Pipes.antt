-- What a pipe tells before and after a read.
use Rattle.std.proofs.Common.{◌≡◌, ℕ, zero, suc, ◌+◌, ◌<◌, ◌≤◌, List, [], ◌∷◌, ◌++◌, length, take, drop, Some, None, Ok, inl, refl, sym, ap, ◌∙◌, subst, arith}
use Rattle.std.specs.Prelude.{◌^◌, Option, IfSome, option_map}
use Rattle.std.proofs.lemmas.List.{length-append, length-take-le}
use Rattle.std.proofs.Math.Seq.{take-append_seam, drop-append_seam}
use Rattle.sby_edge.specs.Child.{Reads}
use Rattle.net_link.specs.Frame.{Stage, Sizing, Inside, Over, payload, sizing}
use Rattle.net_answer.specs.Piped.{Goes, IsCounted, IsPlaced, piped}

over_none : (bytes : List ℕ) → payload Over bytes ≡ []
over_none [] = refl
over_none (b ∷ bs) = refl

-- the pieces have at most the bytes that are left
payload_fits : (stage : Stage) (bytes : List ℕ) → length (payload stage bytes) ≤ length bytes
payload_fits stage [] = omega arith
payload_fits (Sizing head) (b ∷ bs) = let h = payload_fits (sizing (head ++ b ∷ [])) bs in omega arith
payload_fits (Inside zero) (b ∷ bs) = let h = payload_fits (Sizing []) bs in omega arith
payload_fits (Inside (suc n)) (b ∷ bs) = let h = payload_fits (Inside n) bs in omega arith
payload_fits Over (b ∷ bs) = omega arith

pub counted_first : (left : Option (List ℕ)) → IfSome left (λ bytes. length bytes < 2 ^ 64) → IsCounted left (Sizing []) 0
counted_first None h = tt
counted_first (Some bytes) h = let f = payload_fits (Sizing []) bytes in omega arith

-- after a read that failed
pub counted_still : (before now : Option (List ℕ)) (old new : Stage) (given : ℕ) → IsCounted before old given → Goes before now old new [] → IsCounted now new given
counted_still None now old new given h g = subst (λ (o : Option (List ℕ)). IsCounted o new given) (sym g) tt
counted_still (Some bytes) now old new given h g = subst (λ (o : Option (List ℕ)). IsCounted o new given) (sym g.1) (subst (λ (l : List ℕ). given + length l < 2 ^ 64) g.2 h)

pub told_still : (before now : Option (List ℕ)) (old new : Stage) (place : Option ℕ) (given : ℕ) → Goes before now old new [] → piped now new place given ≡ piped before old place given
told_still before now old new None given g = refl
told_still None now old new (Some place) given g = ap (λ (o : Option (List ℕ)). piped o new (Some place) given) g
told_still (Some bytes) now old new (Some place) given g =
    ap (λ (o : Option (List ℕ)). piped o new (Some place) given) g.1 ∙ ap (λ (l : List ℕ). Some (record { place = place; given = given; bytes = l; instead = None })) (sym g.2)

-- after one that gave bytes: their count is added to those given before
pub counted_on : (before now : Option (List ℕ)) (old new : Stage) (given given' count : ℕ) (buffer : List ℕ) → IsCounted before old given → Goes before now old new (take count buffer) → count ≤ length buffer → (given + count < 2 ^ 64 → given' ≡ given + count)
    → IsCounted now new given'
counted_on None now old new given given' count buffer h g fits is = subst (λ (o : Option (List ℕ)). IsCounted o new given') (sym g) tt
counted_on (Some bytes) now old new given given' count buffer h g fits is =
    let l : length (payload old bytes) ≡ count + length (payload new g.0) = ap length g.2 ∙ length-append (take count buffer) (payload new g.0) ∙ ap (λ (n : ℕ). n + length (payload new g.0)) (length-take-le count buffer fits) in
    let e : given' ≡ given + count = is (omega arith) in
    subst (λ (o : Option (List ℕ)). IsCounted o new given') (sym g.1) (let k : given' + length (payload new g.0) < 2 ^ 64 = omega arith in k)

gave_nothing : (bytes rest piece : List ℕ) (old new : Stage) → payload old bytes ≡ piece ++ payload new rest → new ≡ Over → piece ≡ [] → payload old bytes ≡ []
gave_nothing bytes rest piece old new e over none = e ∙ ap (λ (l : List ℕ). l ++ payload new rest) none ∙ ap (λ (s : Stage). payload s rest) over ∙ over_none rest

pub reads_so : (E : Type 0) (before now : Option (List ℕ)) (old new : Stage) (place : Option ℕ) (given given' count : ℕ) (buffer : List ℕ) → IsCounted before old given → Goes before now old new (take count buffer) → count ≤ length buffer → (count ≡ 0 → new ≡ Over)
    → (given + count < 2 ^ 64 → given' ≡ given + count) → Reads {E = E} (piped before old place given) (piped now new place given') buffer (Ok count)
reads_so E before now old new None given given' count buffer h g fits ends is = refl
reads_so E None now old new (Some place) given given' count buffer h g fits ends is = ap (λ (o : Option (List ℕ)). piped o new (Some place) given') g
reads_so E (Some bytes) now old new (Some place) given given' count buffer h g fits ends is =
    let size : length (take count buffer) ≡ count = length-take-le count buffer fits in
    let l : length (payload old bytes) ≡ count + length (payload new g.0) = ap length g.2 ∙ length-append (take count buffer) (payload new g.0) ∙ ap (λ (n : ℕ). n + length (payload new g.0)) size in
    let e : given' ≡ given + length (take count buffer) = is (omega arith) ∙ ap (λ (n : ℕ). given + n) (sym size) in
    let front : take count buffer ≡ take (length (take count buffer)) (payload old bytes) = sym (ap (take (length (take count buffer))) g.2 ∙ take-append_seam (take count buffer) (payload new g.0)) in
    let back : payload new g.0 ≡ drop (length (take count buffer)) (payload old bytes) = sym (ap (drop (length (take count buffer))) g.2 ∙ drop-append_seam (take count buffer) (payload new g.0)) in
    subst (λ (o : Option (List ℕ)). Reads {E = E} (piped (Some bytes) old (Some place) given) (piped o new (Some place) given') buffer (Ok count)) (sym g.1)
    (inl (record {
      piece_is = front;
      ends = λ none. gave_nothing bytes g.0 (take count buffer) old new g.2 (ends (sym size ∙ ap length none)) none;
      left = ap (λ (n : ℕ). record { place = place; given = n; bytes = payload new g.0; instead = None }) e ∙ ap (λ (b : List ℕ). record { place = place; given = given + length (take count buffer); bytes = b; instead = None }) back;
    }))

pub placed_on : (place : Option ℕ) (before now : Option (List ℕ)) (old new : Stage) (bytes : List ℕ) → IsPlaced place before → Goes before now old new bytes → IsPlaced place now
placed_on None before now old new bytes p g = tt
placed_on (Some place) None now old new bytes p g = absurd p
placed_on (Some place) (Some all) now old new bytes p g = subst (IsPlaced (Some place)) (sym g.1) tt

pub place_told : (left : Option (List ℕ)) (stage : Stage) (place : Option ℕ) (given : ℕ) → IsPlaced place left → place ≡ option_map (λ pipe. pipe.place) (piped left stage place given)
place_told left stage None given p = refl
place_told None stage (Some place) given p = absurd p
place_told (Some bytes) stage (Some place) given p = refl

pub given_told : (left : Option (List ℕ)) (stage : Stage) (place : Option ℕ) (given : ℕ) → IfSome (piped left stage place given) (λ pipe. given ≡ pipe.given)
given_told left stage None given = tt
given_told None stage (Some place) given = tt
given_told (Some bytes) stage (Some place) given = refl
