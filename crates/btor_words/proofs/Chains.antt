-- Chains of choices, a select after the other.
use Rattle.std.proofs.Common.{◌≡◌, ℕ, suc, ◌+◌, ◌*◌, ◌/◌, ◌^◌, ◌<◌, ◌≤◌, drop, refl, sym, ◌∙◌, ap, arith, mul-zero}
use Rattle.sby_bits.specs.Rows.{num}
use Rattle.sby_bits.specs.Words.{some_bit}
use Rattle.cell_table.specs.Cells.{bmux_fn, mux_fn, pmux_fn, slice_fn, slice_number}
use Rattle.btor_core.specs.Shape.{BtorOf}
use Rattle.btor_core.specs.Fits.{IsBtor}
use Rattle.btor_core.specs.declared.line.Word.{Word}
use Rattle.btor_words.specs.Emitting.{Emits, IsWord}
use Rattle.btor_words.proofs.Emitting.{last, renamed, sized, stood, word_long}
use Rattle.btor_words.proofs.Rows.{chained_at, halved_at, no_choice, number_of_none}

-- `$pmux`: no select so far, one more, all
pub none_chosen : (m : BtorOf) (a b s : Word) (most : ℕ) → IsWord m a → IsWord m s → Emits m m a a.width most (λ vs. pmux_fn a.width (vs a.nid) (drop (a.width * s.width) (vs b.nid)) (drop s.width (vs s.nid)))
none_chosen m a b s most wa ws =
    stood a.width most (λ vs. pmux_fn a.width (vs a.nid) (drop (a.width * s.width) (vs b.nid)) (drop s.width (vs s.nid))) wa refl
    (λ vs h. no_choice a.width (vs a.nid) (drop (a.width * s.width) (vs b.nid)) (vs s.nid) s.width (let e = word_long vs ws h in omega arith))

pub one_more : (m0 m1 m2 : BtorOf) (a b s before next : Word) (w k j most : ℕ) → IsWord m0 s → k < s.width → j + 6 ≤ most
    → Emits m0 m1 before w j (λ vs. pmux_fn w (vs a.nid) (drop (w * suc k) (vs b.nid)) (drop (suc k) (vs s.nid)))
    → Emits m1 m2 next before.width 6 (λ vs. mux_fn (vs before.nid) (slice_fn before.width (before.width * k) (vs b.nid)) (some_bit (slice_fn 1 k (vs s.nid))))
    → Emits m0 m2 next w most (λ vs. pmux_fn w (vs a.nid) (drop (w * k) (vs b.nid)) (drop k (vs s.nid)))
one_more m0 m1 m2 a b s before next w k j most ws l fits x y =
    last most (λ vs. pmux_fn w (vs a.nid) (drop (w * k) (vs b.nid)) (drop k (vs s.nid))) ws.btor x.adds (sized y x.size) fits
    (λ vs h p. rw (p, x.size) (chained_at w k (vs a.nid) (vs b.nid) (vs s.nid) (let e = word_long vs ws h in omega arith)))

pub all_chosen : (m0 m1 : BtorOf) (a b s r : Word) (w k j most : ℕ) → IsBtor m0 → k ≡ 0 → j ≤ most → Emits m0 m1 r w j (λ vs. pmux_fn w (vs a.nid) (drop (w * k) (vs b.nid)) (drop k (vs s.nid))) → Emits m0 m1 r w most (λ vs. pmux_fn w (vs a.nid) (vs b.nid) (vs s.nid))
all_chosen m0 m1 a b s r w k j most is e fits x = renamed most (λ vs. pmux_fn w (vs a.nid) (vs b.nid) (vs s.nid)) is x fits (λ vs h. rw (e, mul-zero w) refl)

-- `$bmux`: the same, by halves
pub half_of : (w k c : ℕ) → c ≡ w * 2 ^ suc k → c / 2 ≡ w * 2 ^ k
half_of w k c e = let f : c ≡ 2 * (w * 2 ^ k) = e ∙ grind arith in omega arith

pub none_halved : (m : BtorOf) (a s : Word) (w most : ℕ) → IsWord m a → IsWord m s → a.width ≡ w * 2 ^ s.width → Emits m m a (w * 2 ^ s.width) most (λ vs. slice_number (w * 2 ^ s.width) (vs a.nid) (num (drop s.width (vs s.nid))))
none_halved m a s w most wa ws e =
    stood (w * 2 ^ s.width) most (λ vs. slice_number (w * 2 ^ s.width) (vs a.nid) (num (drop s.width (vs s.nid)))) wa e
    (λ vs h. number_of_none (w * 2 ^ s.width) (vs a.nid) (vs s.nid) s.width (let f = word_long vs ws h in omega arith) (word_long vs wa h ∙ e))

pub one_halved : (m0 m1 m2 : BtorOf) (a s before next : Word) (w k j half most : ℕ) → IsWord m0 s → k < s.width → j + 8 ≤ most → half ≡ w * 2 ^ k
    → Emits m0 m1 before (w * 2 ^ suc k) j (λ vs. slice_number (w * 2 ^ suc k) (vs a.nid) (num (drop (suc k) (vs s.nid))))
    → Emits m1 m2 next half 8 (λ vs. mux_fn (slice_fn half 0 (vs before.nid)) (slice_fn half half (vs before.nid)) (some_bit (slice_fn 1 k (vs s.nid))))
    → Emits m0 m2 next (w * 2 ^ k) most (λ vs. slice_number (w * 2 ^ k) (vs a.nid) (num (drop k (vs s.nid))))
one_halved m0 m1 m2 a s before next w k j half most ws l fits e x y =
    let two : w * 2 ^ suc k ≡ half + half = (let f : w * 2 ^ suc k ≡ 2 * (w * 2 ^ k) = grind arith in omega arith) in
    last most (λ vs. slice_number (w * 2 ^ k) (vs a.nid) (num (drop k (vs s.nid)))) ws.btor x.adds (sized y e) fits
    (λ vs h p.
    let q : vs before.nid ≡ slice_number (half + half) (vs a.nid) (num (drop (suc k) (vs s.nid))) = p ∙ ap (λ (n : ℕ). slice_number n (vs a.nid) (num (drop (suc k) (vs s.nid)))) two in
    rw (q, sym e) (halved_at half k (vs a.nid) (vs s.nid) (let f = word_long vs ws h in omega arith)))

pub all_halved : (m0 m1 : BtorOf) (a s r : Word) (w k j most : ℕ) → IsBtor m0 → k ≡ 0 → j ≤ most → Emits m0 m1 r (w * 2 ^ k) j (λ vs. slice_number (w * 2 ^ k) (vs a.nid) (num (drop k (vs s.nid)))) → Emits m0 m1 r w most (λ vs. bmux_fn w (vs a.nid) (vs s.nid))
all_halved m0 m1 a s r w k j most is e fits x =
    let one : w * 2 ^ k ≡ w = rw e (omega arith) in
    sized (renamed most (λ vs. bmux_fn w (vs a.nid) (vs s.nid)) is x fits (λ vs h. rw (one, e) refl)) one
