-- A register of one bit that takes an input.
use Rattle.std.proofs.Common.{◌≡◌, ℕ, zero, suc, ◌<◌, true, false, List, [], ◌∷◌, Option, Some, None, arith, refl, ap}
use Rattle.std.specs.Prelude.{Contains, slice_get}
use Rattle.std.proofs.lemmas.List.Elements.{All-cons, All-nil}
use Rattle.model_core.specs.Served.{IsModel, IsNode}
use Rattle.model_core.specs.Shape.{AreBelow, IsRegister, IsStatement, ModelOf, RegisterOf}
use Rattle.model_core.specs.declared.model.Statement.{Statement}
use Rattle.model_core.proofs.Lists.{contained_at}
use Rattle.witness_judge.specs.Judging.{Feeds, JudgeOf, Took, is_reading}
use Rattle.witness_judge.specs.declared.outcome.Outcome.{Outcome}

abbrev register : RegisterOf
register = record { q = 2 ∷ []; d = 3 ∷ []; value = 0 ∷ []; enable = record { place = 1; level = true }; reset = record { place = 0; level = true }; reset_first = false }

abbrev assertion : Statement
assertion = record { a = 0; en = 2 }

abbrev pub one_bit : ModelOf
one_bit = record { size = 4; zero = 0; nodes = []; registers = register ∷ []; starts = Some false ∷ []; inputs = 3 ∷ []; asserts = assertion ∷ []; assumes = []; covers = [] }

abbrev places : List ℕ
places = 0 ∷ 1 ∷ 2 ∷ 3 ∷ []

at_own : (i p : ℕ) → slice_get places i ≡ Some p → p ≡ i
at_own zero p e = cc
at_own (suc zero) p e = cc
at_own (suc (suc zero)) p e = cc
at_own (suc (suc (suc zero))) p e = cc
at_own (suc (suc (suc (suc i)))) p e = absurd cc

pub one_bit_is : IsModel one_bit
one_bit_is = record {
  limit = omega arith;
  nodes = All-nil IsNode;
  registers = All-cons (IsRegister 4) register [] registered (All-nil (IsRegister 4));
  starts = refl;
  asserts = All-cons (IsStatement 4) assertion [] (omega arith, omega arith) (All-nil (IsStatement 4));
  assumes = All-nil (IsStatement 4);
  covers = All-nil (IsStatement 4);
  below = below 0 (1 ∷ 2 ∷ 3 ∷ []) (omega arith) (below 1 (2 ∷ 3 ∷ []) (omega arith) (below 2 (3 ∷ []) (omega arith) (below 3 [] (omega arith) none)));
  all = all;
  once = λ i j p e f. let a = at_own i p e in let b = at_own j p f in omega arith;
  order = λ i n e p c. absurd cc;
}
  where
    below : (p : ℕ) (ps : List ℕ) → p < 4 → AreBelow 4 ps → AreBelow 4 (p ∷ ps)
    below p ps l h = All-cons (λ (q : ℕ). q < 4) p ps l h

    none : AreBelow 4 []
    none = All-nil (λ (q : ℕ). q < 4)

    registered : IsRegister 4 register
    registered = record { some = omega arith; narrow = omega arith; d = refl; value = refl; d_below = below 3 [] (omega arith) none; value_below = below 0 [] (omega arith) none; enable = omega arith; reset = omega arith }

    all : (p : ℕ) → p < 4 → Contains places p
    all zero l = contained_at places 0 0 refl
    all (suc zero) l = contained_at places 1 1 refl
    all (suc (suc zero)) l = contained_at places 2 2 refl
    all (suc (suc (suc zero))) l = contained_at places 3 3 refl
    all (suc (suc (suc (suc p)))) l = absurd (omega (arith, l))

-- a judge that answers nothing yet took the bytes
pub takes : (old new : JudgeOf) (bytes : List ℕ) (o : Option Outcome) → Feeds old new bytes o → ((x : Outcome) → o ≡ Some x → ⊥) → Took new bytes
takes old new bytes None f none = f.took refl
takes old new bytes (Some x) f none = absurd (none x refl)

-- it reads on
pub reads_on : (j : JudgeOf) (bytes : List ℕ) → Took j bytes → is_reading j ≡ true
reads_on j bytes t = ap (λ r. is_reading (record { asked = j.asked; most = j.most; taken = j.taken; reader = r })) t.reader.1
