-- The first fault, by the order of the kinds.
use Rattle.std.proofs.Common.{◌≡◌, inl, inr, ℕ, zero, suc, ◌+◌, ◌<◌, List, Option, Some, None, refl, ap, sym, subst, ◌∙◌, arith}
use Rattle.std.specs.Prelude.{MatchOption}
use Rattle.std.proofs.lemmas.Bool.{cases_lt}
use Rattle.design_core.specs.Shape.{DesignOf}
use Rattle.design_check.specs.Faults.{Instance, IsClean, IsFault, IsFirst, IsFlat, Names, Place, rank}
use Rattle.design_check.specs.declared.fault.FaultKind.{FaultKind}
use Rattle.design_check.specs.declared.fault.FaultKind.TheVariants.{UnknownCell, LeftOut, BadParameter, PortWidth, WidthLimit, MixedSign, TwoDrivers, MultiClock, InitConflict, Loop}

kind_at : ℕ → FaultKind
kind_at zero = UnknownCell
kind_at (suc zero) = LeftOut
kind_at (suc (suc zero)) = BadParameter
kind_at (suc (suc (suc zero))) = PortWidth
kind_at (suc (suc (suc (suc zero)))) = WidthLimit
kind_at (suc (suc (suc (suc (suc zero))))) = MixedSign
kind_at (suc (suc (suc (suc (suc (suc zero)))))) = TwoDrivers
kind_at (suc (suc (suc (suc (suc (suc (suc zero))))))) = MultiClock
kind_at (suc (suc (suc (suc (suc (suc (suc (suc zero)))))))) = InitConflict
kind_at (suc (suc (suc (suc (suc (suc (suc (suc (suc n))))))))) = Loop

kind_at-rank : (k : FaultKind) → kind_at (rank k) ≡ k
unfolding kind_at
kind_at-rank UnknownCell = refl
kind_at-rank LeftOut = refl
kind_at-rank BadParameter = refl
kind_at-rank PortWidth = refl
kind_at-rank WidthLimit = refl
kind_at-rank MixedSign = refl
kind_at-rank TwoDrivers = refl
kind_at-rank MultiClock = refl
kind_at-rank InitConflict = refl
kind_at-rank Loop = refl

rank-below : (k : FaultKind) → rank k < 10
rank-below UnknownCell = omega arith
rank-below LeftOut = omega arith
rank-below BadParameter = omega arith
rank-below PortWidth = omega arith
rank-below WidthLimit = omega arith
rank-below MixedSign = omega arith
rank-below TwoDrivers = omega arith
rank-below MultiClock = omega arith
rank-below InitConflict = omega arith
rank-below Loop = omega arith

module _ (d : DesignOf) where
  pub clean-none : IsClean d 0
  clean-none h p lt at = absurd (omega (arith, lt))

  pub clean-more : (k : FaultKind) → IsClean d (rank k) → ((p : Place) → Instance d k p → ⊥) → IsClean d (rank k + 1)
  clean-more k before none h p lt at =
      elim (cases_lt (rank h) (rank k)) as (λ _. ⊥) [
        | inl less ↦ before h p less at
        | inr most ↦
            let same : rank h ≡ rank k = omega (arith, most, lt) in
            let one : h ≡ k = sym (kind_at-rank h) ∙ (ap kind_at same ∙ kind_at-rank k) in
            none p (subst (λ (g : FaultKind). Instance d g p) one at)
      ]

  pub clean-first : (k : FaultKind) (n : ℕ) → rank k < n → IsClean d n → (p : Place) → Instance d k p → ⊥
  clean-first k n lt clean p at = clean k p lt at

  pub flat-from_clean : IsClean d 10 → IsFlat d
  flat-from_clean clean k p at = clean k p (rank-below k) at

  pub fault-first : (k : FaultKind) (place : Place) (name : List ℕ) → IsClean d (rank k) → IsFirst d (Instance d k) place → Names d place name → IsFault d k name
  fault-first k place name clean first named = record { place = place; first = first; names = named; earlier = clean }

pub match-weaker : {X : Type 0} (o : Option X) (P Q : Type 0) (R S : X → Type 0) → (P → Q) → ((x : X) → R x → S x) → MatchOption o P R → MatchOption o Q S
match-weaker None P Q R S f g h = f h
match-weaker (Some x) P Q R S f g h = g x h
