use Rattle.std.proofs.Common.{◌≡◌, inl, inr, ◌+◌, ◌∙◌, ℕ, Some, true, false, drop, refl, subst, arith}
use Rattle.std.specs.Prelude.{slice_get}
use Rattle.std.proofs.lemmas.Bool.{cases_lt, false≢true}
use Rattle.std.proofs.lemmas.Option.{slice_get_within}
use Rattle.std.proofs.lemmas.List.Elements.{All-contains}
use Rattle.design_core.specs.Shape.{IsDeclared}
use Rattle.design_core.proofs.Lists.{Contains-from_place, one_at}
use Rattle.design_graph.proofs.Driving.{drop-front, drop-nothing}
use Rattle.design_graph.specs.Starts.{IsRegisterStart}
use Rattle.design_signals.specs.Chunks.{bits_of}
use Rattle.design_signals.specs.declared.sig_bit.SigBit.{SigBit}
use Rattle.design_check.proofs.conflicts.first_twice.Goals as goal
use Rattle.design_check.proofs.conflicts.first_twice.Goals.{In-Some}

here : (c : In-Some) → (slice_get (bits_of c.args.bits.now) c.bits.invariant.0 ≡ Some c.in-Some.bit) × (drop (c.bits.invariant.0 + 1) (bits_of c.args.bits.now) ≡ c.next.new.self)
here c = drop-front (bits_of c.args.bits.now) c.bits.invariant.0 c.in-Some.bit c.next.new.self (c.bits.invariant.1 ∙ c.in-Some.ensures.some)

declared : (c : In-Some) → IsDeclared c.args.design.now.wires c.args.design.now.free c.in-Some.bit
declared c =
    All-contains (IsDeclared c.args.design.now.wires c.args.design.now.free) (bits_of c.args.bits.now) c.in-Some.bit c.requires.declared
    (Contains-from_place (bits_of c.args.bits.now) c.bits.invariant.0 c.in-Some.bit (here c).0)

pub place-requires : goal.place-requires
place-requires c = declared (goal.at.place-requires c).In-Some

pub returns-then-is_conflict-clause-some : goal.returns-then-is_conflict-clause-some
returns-then-is_conflict-clause-some c =
    let x = (goal.at.returns-then-is_conflict-clause-some c).In-Some in
    let both = (c.if-is_conflict.ensures c.in-Some.bit (declared x) c.place.ensures.place).0 refl in
    (c.bits.invariant.0, (here x).0, (c.in-Some.bit, (here x).0, both.0, both.1), c.bits.invariant.2)

pub bits-preserved : goal.bits-preserved
bits-preserved c =
    let x = (goal.at.bits-preserved c).In-Some in
    let d = c.args.design.now in
    let bits = bits_of c.args.bits.now in
    let i = c.bits.invariant.0 in (
      i + 1,
      (here x).1,
      λ k lt t. elim (cases_lt k i) as (λ _. ⊥) [
        | inl less ↦ c.bits.invariant.2 k less t
        | inr most ↦
            let e : k ≡ c.bits.invariant.0 = omega (arith, lt, most) in
            let at = subst (λ (n : ℕ). slice_get (bits_of c.args.bits.now) n ≡ Some t.0) e t.1 in
            let same : t.0 ≡ c.in-Some.bit = one_at bits i t.0 c.in-Some.bit at (here x).0 in
            false≢true
            ((c.if-is_conflict.ensures c.in-Some.bit (declared x) c.place.ensures.place).1
            (subst (λ (b : SigBit). IsRegisterStart c.args.design.now b false) same t.2, subst (λ (b : SigBit). IsRegisterStart c.args.design.now b true) same t.3))
      ],
    )

pub returns-clause-none : goal.returns-clause-none
returns-clause-none c = λ k t.
    let bits = bits_of c.args.bits.now in
    let i = c.bits.invariant.0 in
    let most = drop-nothing bits i (c.bits.invariant.1 ∙ c.in_default.ensures.none.0) in
    c.bits.invariant.2 k (omega (arith, slice_get_within bits k t.0 t.1, most)) t
