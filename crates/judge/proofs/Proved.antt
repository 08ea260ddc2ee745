-- The fates of streams of an invariant.
use Rattle.std.proofs.Common.{◌≡◌, ◌⊎◌, ◌<◌, ◌≤◌, ℕ, true, false, List, [], ◌++◌, Some, None, inl, inr, length, take, refl, sym, ◌∙◌, arith}
use Rattle.std.specs.Prelude.{Option, option_map}
use Rattle.cert_judge.specs.Fate.{Fate}
use Rattle.cert_judge.specs.declared.stream.CertKind.TheVariants.{EarlyEnd, TooLong}
use Rattle.inv_fate.specs.Fate.{Bad, BytesFate, InvFate, InvFateOf, InvFateSoFar}
use Rattle.inv_fate.proofs.Fates.{comes_once, comes_somewhere}
use Rattle.inv_judge.proofs.Pieces.{ends_come}
use Rattle.inv_judge.proofs.Staying.{cases_le, so_far_stays}
use Rattle.inv_stream.specs.Telling.{sayings}
use Rattle.inv_stream.specs.declared.mode.Part.TheVariants.{Head}
use Rattle.pair_form.specs.Pair.{PairOf}
use Rattle.judge.specs.Invariant.{fate_in}

told_some : (x : Option InvFate) (fate : Fate) → Some fate ≡ option_map fate_in x → (y : InvFate) × (x ≡ Some y) × (fate ≡ fate_in y)
told_some None fate told = absurd (let z : Some fate ≡ None = told in cc)
told_some (Some y) fate told = let z : Some fate ≡ Some (fate_in y) = told in (y, refl, cc)

told_none : (x : Option InvFate) → ◌≡◌ {A = Option Fate} None (option_map fate_in x) → x ≡ None
told_none None told = refl
told_none (Some y) told = absurd (let z : ◌≡◌ {A = Option Fate} None (Some (fate_in y)) = told in cc)

-- a fate so far is that of the stream that ends there
ended : (p : PairOf) (bytes : List ℕ) (most : ℕ) (y : InvFate) → InvFateSoFar p bytes most (Some y) → InvFateOf p bytes most y
ended p bytes most y h = record { within = λ l. inl (ends_come p bytes y (h.within l)); beyond = λ l. h }

-- a fate stays, whatever follows
pub proved_stays : (p : PairOf) (bytes more : List ℕ) (most : ℕ) (x : Option InvFate) (fate : Fate) → InvFateSoFar p bytes most x → Some fate ≡ option_map fate_in x
    → (y : InvFate) × InvFateOf p (bytes ++ more) most y × (fate ≡ fate_in y)
proved_stays p bytes more most x fate so_far told =
    let (y, is, same) = told_some x fate told in
    (y, ended p (bytes ++ more) most y (so_far_stays p bytes y more most (rw is at so_far)), same)

-- without a fate there are no more than may be
pub proved_within : (p : PairOf) (bytes : List ℕ) (most : ℕ) (x : Option InvFate) → InvFateSoFar p bytes most x → ◌≡◌ {A = Option Fate} None (option_map fate_in x) → length bytes ≤ most
proved_within p bytes most None so_far told = elim (cases_le (length bytes) most) [
  | inl l ↦ l
  | inr past ↦ elim (so_far.beyond past) [
    | inl some ↦ absurd (let z : ◌≡◌ {A = Option InvFate} None (Some some.0) = some.2 in cc)
    | inr none ↦ absurd (let z : ◌≡◌ {A = Option InvFate} None (Some (Bad TooLong most)) = none.1 in cc)
  ]
]
proved_within p bytes most (Some y) so_far told = absurd (let z : ◌≡◌ {A = Option Fate} None (Some (fate_in y)) = told in cc)

-- a stream has one fate
module _ (p : PairOf) (bytes : List ℕ) (most : ℕ) where
  one_whole : (x y : InvFate) → BytesFate p true bytes (Some x) ⊎ (BytesFate p true bytes None × (x ≡ Bad EarlyEnd (length bytes)))
      → BytesFate p true bytes (Some y) ⊎ (BytesFate p true bytes None × (y ≡ Bad EarlyEnd (length bytes))) → x ≡ y
  one_whole x y (inl a) (inl b) = let z = comes_once p (sayings p.formula.vars true bytes) (Some x) (Some y) a b in cc
  one_whole x y (inl a) (inr (b, e)) = absurd (let z = comes_once p (sayings p.formula.vars true bytes) (Some x) None a b in cc)
  one_whole x y (inr (a, e)) (inl b) = absurd (let z = comes_once p (sayings p.formula.vars true bytes) None (Some y) a b in cc)
  one_whole x y (inr (a, e)) (inr (b, f)) = e ∙ sym f

  one_cut : (x y : InvFate) → ((v : InvFate) × BytesFate p false (take most bytes) (Some v) × (Some x ≡ Some v)) ⊎ (BytesFate p false (take most bytes) None × (Some x ≡ Some (Bad TooLong most)))
      → ((v : InvFate) × BytesFate p false (take most bytes) (Some v) × (Some y ≡ Some v)) ⊎ (BytesFate p false (take most bytes) None × (Some y ≡ Some (Bad TooLong most))) → x ≡ y
  one_cut x y (inl (v, a, e)) (inl (w, b, f)) = let z = comes_once p (sayings p.formula.vars false (take most bytes)) (Some v) (Some w) a b in cc
  one_cut x y (inl (v, a, e)) (inr (b, f)) = absurd (let z = comes_once p (sayings p.formula.vars false (take most bytes)) (Some v) None a b in cc)
  one_cut x y (inr (a, e)) (inl (w, b, f)) = absurd (let z = comes_once p (sayings p.formula.vars false (take most bytes)) None (Some w) a b in cc)
  one_cut x y (inr (a, e)) (inr (b, f)) = let z : Some x ≡ Some y = e ∙ sym f in cc

  pub one_proved : (x y : InvFate) → InvFateOf p bytes most x → InvFateOf p bytes most y → x ≡ y
  one_proved x y h k = elim (cases_le (length bytes) most) [
    | inl l ↦ one_whole x y (h.within l) (k.within l)
    | inr past ↦ one_cut x y ((h.beyond past).beyond past) ((k.beyond past).beyond past)
  ]

  -- and it has one
  pub some_proved : ((x : InvFate) → InvFateOf p bytes most x → ⊥) → ⊥
  some_proved never = elim (cases_le (length bytes) most) [
    | inl l ↦ comes_somewhere p Head [] [] (sayings p.formula.vars true bytes) (λ o c. whole l o c)
    | inr past ↦ comes_somewhere p Head [] [] (sayings p.formula.vars false (take most bytes)) (λ o c. cut past o c)
  ]
    where
      whole : length bytes ≤ most → (o : Option InvFate) → BytesFate p true bytes o → ⊥
      whole l None c = never (Bad EarlyEnd (length bytes)) (record { within = λ _. inr (c, refl); beyond = λ past. absurd (omega (arith, l, past)) })
      whole l (Some x) c = never x (record { within = λ _. inl c; beyond = λ past. absurd (omega (arith, l, past)) })

      cut : most < length bytes → (o : Option InvFate) → BytesFate p false (take most bytes) o → ⊥
      cut past None c = never (Bad TooLong most) (record {
        within = λ l. absurd (omega (arith, l, past));
        beyond = λ _. record { within = λ l. absurd (omega (arith, l, past)); beyond = λ _. inr (c, refl) };
      })
      cut past (Some x) c = never x (record {
        within = λ l. absurd (omega (arith, l, past));
        beyond = λ _. record { within = λ l. absurd (omega (arith, l, past)); beyond = λ _. inl (x, c, refl) };
      })
