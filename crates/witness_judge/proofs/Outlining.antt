-- Stretches, as they are found one after the other.
use Rattle.std.proofs.Common.{◌≡◌, ◌∙◌, ◌+◌, ◌≤◌, ℕ, inl, inr, List, [], ◌∷◌, ◌++◌, Some, None, arith, length, sym, ap, refl, take}
use Rattle.std.specs.Prelude.{slice_get}
use Rattle.std.proofs.lemmas.List.{take-append-le}
use Rattle.std.proofs.Math.Seq.{take-length}
use Rattle.std.proofs.lemmas.List.Elements.{All-append, All-cons, All-nil}
use Rattle.std.proofs.lemmas.List.Sums.{sum_by-append}
use Rattle.std.proofs.lemmas.Option.{slice_get_within}
use Rattle.btor_emit.specs.States.{IsStretchOf, bits_of}
use Rattle.btor_emit.specs.declared.shape.State.{State}
use Rattle.model_core.proofs.Lists.{push-either}
use Rattle.model_core.specs.Shape.{ModelOf}
use Rattle.witness_judge.specs.Outlining.{AreStretchesTo}

pub none_yet : (m : ModelOf) → AreStretchesTo m [] 0
none_yet m = record { each = All-nil (IsStretchOf m); joined = λ j s at. absurd (let c : None ≡ Some s = at in cc); whole = refl }

-- one stretch more
pub one_more : (m : ModelOf) (ss : List State) (s : State) (end : ℕ) → AreStretchesTo m ss s.first → IsStretchOf m s → s.first + s.word.width ≡ end → AreStretchesTo m (ss ++ s ∷ []) end
one_more m ss s end old stretch end_is = record {
  each = All-append (IsStretchOf m) ss (s ∷ []) old.each (All-cons (IsStretchOf m) s [] stretch (All-nil (IsStretchOf m)));
  joined = joined;
  whole = sum_by-append (λ (u : State). u.word.width) ss (s ∷ []) ∙ (let w = old.whole in omega arith);
}
  where
    joined : (j : ℕ) (u : State) → slice_get (ss ++ s ∷ []) j ≡ Some u → u.first ≡ bits_of (take j (ss ++ s ∷ []))
    joined j u at =
        elim (push-either ss s u j at) as (λ _. u.first ≡ bits_of (take j (ss ++ s ∷ []))) [
          | inl h ↦ let l = slice_get_within ss j u h in old.joined j u h ∙ ap bits_of (sym (take-append-le j ss (s ∷ []) (omega arith)))
          | inr h ↦
              let l : length ss ≤ length ss = omega arith in
              ap (λ (z : State). z.first) h.1 ∙ sym old.whole ∙ ap bits_of (sym (take-length ss) ∙ sym (take-append-le (length ss) ss (s ∷ []) l) ∙ ap (λ (k : ℕ). take k (ss ++ s ∷ [])) (sym h.0))
        ]
