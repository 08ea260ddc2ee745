-- A run as far as it is played and packed.
use Rattle.std.proofs.Common.{◌≡◌, ℕ, suc, ◌+◌, ◌*◌, ◌/◌, ◌%◌, ◌^◌, ◌<◌, false, List, [], ◌∷◌, ◌++◌, sym, ap, ◌∙◌, subst, inl, inr, arith, length, get_or}
use Rattle.std.specs.Prelude.{All, eqb}
use Rattle.sby_bits.specs.Rows.{Row}
use Rattle.model_core.specs.Choices.{AreChoicesFor, ChoicesOf, Plays}
use Rattle.model_core.specs.Meaning.{Cycle}
use Rattle.model_core.specs.Served.{IsModel}
use Rattle.model_core.specs.Shape.{ModelOf}
use Rattle.model_core.proofs.Lists.{below_or_last, length-push}
use Rattle.model_play.specs.Packed.{packed_bit, packed_rows, words_of}
use Rattle.model_play.specs.Playing.{IsLast, IsPlaying, PlayerOf, cycles_of}
use Rattle.model_play.specs.declared.player.Stage.TheVariants.{Begun, New, Stepped}
use Rattle.model_play.proofs.Packing.{length-packed_row, length-packed_rows, packed_row-at, packed_rows-at, word_inside}
use Rattle.model_play.proofs.Running.{plays_cut, plays_kept}
use Rattle.model_core.proofs.Runs.{run_of, run_plays}

-- the words of the cycles of the runs with these choices, a player standing for which made them
pub record IsPacked (m : ModelOf) (p : PlayerOf) (c : ChoicesOf) (words : List ℕ) : Type 0 where
  pub model : p.model ≡ m
  pub begun : p.stage ≡ New → ⊥
  pub playing : IsPlaying p c
  pub size : length words ≡ length c.inputs * words_of m.size
  pub same : (cs : ℕ → Cycle) → Plays m c cs → (t q : ℕ) → t < length c.inputs → q < m.size → packed_bit words (t * words_of m.size) q ≡ cs t q

pub Packed-none : (m : ModelOf) (p : PlayerOf) (starts : Row) → p.model ≡ m → p.stage ≡ Begun → IsPlaying p (record { starts = starts; inputs = [] }) → IsPacked m p (record { starts = starts; inputs = [] }) []
Packed-none m p starts e s h = record {
  model = e;
  begun = λ z. let w : Begun ≡ New = sym s ∙ z in cc;
  playing = h;
  size = let z : 0 * words_of m.size ≡ 0 = omega arith in sym z;
  same = λ cs q t k l. absurd (omega arith);
}

module _ (m : ModelOf) (is : IsModel m) where
  pub packed_more : (p q : PlayerOf) (c : ChoicesOf) (y row : Row) (old new : List ℕ) → IsPacked m p c old → q.model ≡ p.model → q.stage ≡ Stepped
      → IsPlaying q (record c { inputs = c.inputs ++ y ∷ [] }) → IsLast m (record c { inputs = c.inputs ++ y ∷ [] }) row → length row ≡ m.size
      → length new ≡ length old + words_of (length row) → ((k : ℕ) → k < length row → packed_bit new (length old) k ≡ get_or row k false)
      → ((k : ℕ) → k < length old → get_or new k 0 ≡ get_or old k 0) → IsPacked m q (record c { inputs = c.inputs ++ y ∷ [] }) new
  packed_more p q c y row old new was em es playing last wide size written before =
      let n = length-push c.inputs y in
      let w = ap words_of wide in
      let z : suc (length c.inputs) * words_of m.size ≡ length c.inputs * words_of m.size + words_of m.size = grind arith in
      let old_size = was.size in
      record {
        model = em ∙ was.model;
        begun = λ e. let x : Stepped ≡ New = sym es ∙ e in cc;
        playing = playing;
        size = size ∙ (let s : length old + words_of (length row) ≡ suc (length c.inputs) * words_of m.size = omega (arith, old_size, w, z) in s) ∙ ap (λ (k : ℕ). k * words_of m.size) (sym n);
        same = λ cs plays t k l h. elim (below_or_last t (length c.inputs) (let i : t < length c.inputs + 1 = omega arith in i)) as (λ _. packed_bit new (t * words_of m.size) k ≡ cs t k) [
          | inl lt ↦
              ap (λ (x : ℕ). eqb (x / 2 ^ (k % 64) % 2) 1) (before (t * words_of m.size + k / 64) (word_inside m.size (length c.inputs) t k (length old) lt h was.size))
              ∙ was.same cs (plays_cut m is c y cs (omega arith) plays) t k lt h
          | inr here ↦
              ap (λ (x : ℕ). packed_bit new x k) (ap (λ (x : ℕ). x * words_of m.size) here ∙ sym was.size)
              ∙ written k (omega arith) ∙ sym (last.each cs plays t (omega arith) k h)
        ];
      }

  -- the whole run
  pub packed_plays : (p : PlayerOf) (c : ChoicesOf) (words : List ℕ) (n : ℕ) → 0 < length c.inputs → n ≡ length c.inputs → IsPacked m p c words → Plays m c (cycles_of (packed_rows words m.size n))
  packed_plays p c words n some en was =
      let fits = subst (λ (z : ModelOf). AreChoicesFor z c) was.model was.playing.fits in
      let plays = run_plays m is c fits some in
      plays_kept m is c (run_of m is c) (cycles_of (packed_rows words m.size n))
      (λ t l k h.
      sym (was.same (run_of m is c) plays t k l h) ∙ sym (packed_row-at words m.size (t * words_of m.size) k h)
      ∙ ap (λ (r : Row). get_or r k false) (sym (packed_rows-at words m.size n t [] (let i : t < n = omega arith in i)))) plays

pub packed_wide : (words : List ℕ) (size n : ℕ) → All (λ row. length row ≡ size) (packed_rows words size n)
packed_wide words size n k d l =
    ap (λ (r : Row). length r) (packed_rows-at words size n k d (let z = length-packed_rows words size n in omega arith)) ∙ length-packed_row words size (k * words_of size)
