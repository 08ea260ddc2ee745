use Rattle.std.proofs.Common.{◌≡◌, ◌∙◌, ℕ, ◌*◌, ◌-◌, ◌^◌, Bool, false, get_or, sym, ap, inl, inr, arith, subst}
use Rattle.std.specs.Prelude.{pos}
use Rattle.std.proofs.lemmas.Bool.{cases_lt}
use Rattle.cnf_form.specs.Cnf.{lit_in, LitWithin}
use Rattle.sby_bits.specs.Rows.{fit, num}
use Rattle.sby_bits.proofs.Numbers.{bit_of, fit-at, length-fit, num-at}
use Rattle.sby_bits.proofs.Moves.{up-at_low, up-at_high}
use Rattle.gate_rows.specs.Literals.{row_of}
use Rattle.gate_rows.proofs.Building.{Builds-none, Built-push, Built-row, later_or, lit_or-in}
use Rattle.gate_rows.proofs.places.moved_up.Goals as goal

pub loop-place-preserved : goal.loop-place-preserved
loop-place-preserved c =
    rw c.in_ok-push.ensures
    (Built-push c.args.gates.now c.args.gates.now c.args.gates.now (λ x j. bit_of (pos (num (row_of x c.args.a.now) * 2 ^ c.args.by)) j)
    c.loop-place.place c.loop-place.word.items c.up_lit.result c.loop-place.invariant (Builds-none c.args.gates.now 1)
    (elim (cases_lt c.loop-place.place c.args.by) as (λ _. LitWithin c.args.gates.now.formula.vars c.up_lit.result) [
      | inl h ↦ subst (LitWithin c.args.gates.now.formula.vars) (sym (c.up_lit.ensures.low h)) c.constant-zero.ensures.within
      | inr h ↦ later_or c.args.gates.now.formula.vars c.args.gates.now.formula.vars c.args.a.now _ c.constant-zero.result c.up_lit.result (omega arith) c.requires.a c.constant-zero.ensures.within (c.up_lit.ensures.high h)
    ])
    (λ x s. elim (cases_lt c.loop-place.place c.args.by) as (λ _. lit_in x c.up_lit.result ≡ bit_of (pos (num (row_of x c.args.a.now) * 2 ^ c.args.by)) c.loop-place.place) [
      | inl h ↦ ap (lit_in x) (c.up_lit.ensures.low h) ∙ c.constant-zero.ensures.means x s ∙ sym (up-at_low (num (row_of x c.args.a.now)) c.args.by c.loop-place.place h)
      | inr h ↦ ap (lit_in x) (c.up_lit.ensures.high h) ∙ lit_or-in x c.args.a.now (c.loop-place.place - c.args.by) c.constant-zero.result
          ∙ ap (λ (b : Bool). get_or (row_of x c.args.a.now) (c.loop-place.place - c.args.by) b) (c.constant-zero.ensures.means x s)
          ∙ num-at (row_of x c.args.a.now) (c.loop-place.place - c.args.by) ∙ sym (up-at_high (num (row_of x c.args.a.now)) c.args.by c.loop-place.place h)
    ]))

pub returns : goal.returns
returns c =
    let e : c.loop-place.place ≡ c.args.y = omega arith in
    Built-row c.args.gates.now c.args.gates.now (λ x j. bit_of (pos (num (row_of x c.args.a.now) * 2 ^ c.args.by)) j) c.args.y c.loop-place.word.items
    (λ x. fit c.args.y (pos (num (row_of x c.args.a.now) * 2 ^ c.args.by))) (rw e at c.loop-place.invariant)
    (λ x. length-fit c.args.y (pos (num (row_of x c.args.a.now) * 2 ^ c.args.by)))
    (λ x j h. sym (fit-at c.args.y (pos (num (row_of x c.args.a.now) * 2 ^ c.args.by)) j h))
