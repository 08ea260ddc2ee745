-- The rows of the register that is added are as long as each other.
use Rattle.std.proofs.Common.{◌≡◌, ◌<◌, ◌^◌, ◌∙◌, ℕ, Bool, List, Some, not, length, refl, sym, ap, arith}
use Rattle.std.specs.Prelude.{slice_get}
use Rattle.std.specs.List.{filter}
use Rattle.std.proofs.lemmas.List.Filters.{length-filter_both}
use Rattle.model_core.specs.Served.{IsModel}
use Rattle.model_core.specs.Shape.{AreBelow, ModelOf, RegisterOf}
use Rattle.model_core.proofs.Lists.{at_place}
use Rattle.model_cone.specs.Slice.{kept_at, kept_by}
use Rattle.model_cone.proofs.Growing.{nothing-added, register-added}
use Rattle.model_cone.proofs.Narrowing.{kept-length, kept-same}
use Rattle.model_cone.proofs.Reading.{q-below, register-is}
use Rattle.model_cone.proofs.slice.push_register.Goals as goal

module _ (m : ModelOf) (is : IsModel m) (i : ℕ) (l : i < length m.registers) (q : List ℕ) (qe : (r : RegisterOf) → slice_get m.registers i ≡ Some r → q ≡ r.q) where
  at-marks : (n : ℕ) → n ≡ m.size → AreBelow n q
  at-marks n s = let r = at_place m.registers i l in rw (qe r.0 r.1, s) (q-below m is i r.0 r.1)

  d-alike : (d : List ℕ) → ((r : RegisterOf) → slice_get m.registers i ≡ Some r → d ≡ r.d) → length d ≡ length q
  d-alike d de = let r = at_place m.registers i l in rw (de r.0 r.1, qe r.0 r.1) (register-is m is i r.0 r.1).d

  value-alike : (v : List ℕ) → ((r : RegisterOf) → slice_get m.registers i ≡ Some r → v ≡ r.value) → length v ≡ length q
  value-alike v ve = let r = at_place m.registers i l in rw (ve r.0 r.1, qe r.0 r.1) (register-is m is i r.0 r.1).value

  row-fits : (keep : ℕ → Bool) (row : List ℕ) → row ≡ kept_at keep q q → length row < 2 ^ 32
  row-fits keep row e =
      let r = at_place m.registers i l in
      let w = (register-is m is i r.0 r.1).narrow in
      let s : length q ≡ length r.0.q = ap (λ (xs : List ℕ). length xs) (qe r.0 r.1) in
      let a : length row ≡ length (kept_at keep q q) = ap (λ (xs : List ℕ). length xs) e in
      let b = kept-length keep q q refl in
      let f = length-filter_both keep (λ p. not (keep p)) (λ p. refl) q in
      omega arith

rows-alike : (keep : ℕ → Bool) (q d a b : List ℕ) → length d ≡ length q → a ≡ kept_at keep q d → b ≡ kept_at keep q q → length a ≡ length b
rows-alike keep q d a b n ea eb =
    let x : length a ≡ length (kept_at keep q d) = ap (λ (xs : List ℕ). length xs) ea in
    let y : length b ≡ length (kept_at keep q q) = ap (λ (xs : List ℕ). length xs) eb in
    let z = kept-length keep q d n in
    let w = kept-length keep q q refl in
    omega arith

pub has_kept-requires : goal.has_kept-requires
has_kept-requires c = at-marks c.args.model.now c.requires.model c.args.register c.requires.register c.q-q.result.now c.q-q.ensures (length c.args.marks.now) c.requires.marks

pub keep-requires-clause-marks : goal.keep-requires-clause-marks
keep-requires-clause-marks c = at-marks c.args.model.now c.requires.model c.args.register c.requires.register c.q-q.result.now c.q-q.ensures (length c.args.marks.now) c.requires.marks

pub keep-requires-2-clause-marks : goal.keep-requires-2-clause-marks
keep-requires-2-clause-marks c = at-marks c.args.model.now c.requires.model c.args.register c.requires.register c.q-q.result.now c.q-q.ensures (length c.args.marks.now) c.requires.marks

pub keep-requires-2-clause-row : goal.keep-requires-2-clause-row
keep-requires-2-clause-row c = d-alike c.args.model.now c.requires.model c.args.register c.requires.register c.q-q.result.now c.q-q.ensures c.d.result.now c.d.ensures

pub keep-requires-3-clause-marks : goal.keep-requires-3-clause-marks
keep-requires-3-clause-marks c = at-marks c.args.model.now c.requires.model c.args.register c.requires.register c.q-q.result.now c.q-q.ensures (length c.args.marks.now) c.requires.marks

pub keep-requires-3-clause-row : goal.keep-requires-3-clause-row
keep-requires-3-clause-row c = value-alike c.args.model.now c.requires.model c.args.register c.requires.register c.q-q.result.now c.q-q.ensures c.value.result.now c.value.ensures

pub keep-requires-4-clause-marks : goal.keep-requires-4-clause-marks
keep-requires-4-clause-marks c = at-marks c.args.model.now c.requires.model c.args.register c.requires.register c.q-q.result.now c.q-q.ensures (length c.args.marks.now) c.requires.marks

pub keep-requires-4-clause-row : goal.keep-requires-4-clause-row
keep-requires-4-clause-row c = let r = at_place c.args.model.now.registers c.args.register c.requires.register in rw (c.q-q.ensures r.0 r.1) (c.requires.digits r.0 r.1)

pub push_register-requires-clause-width : goal.push_register-requires-clause-width
push_register-requires-clause-width c =
    row-fits c.args.model.now c.requires.model c.args.register c.requires.register c.q-q.result.now c.q-q.ensures (kept_by c.args.marks.now) c.deref.result.now (c.deref.ensures.value ∙ c.in_ok-keep.ensures)

pub push_register-requires-clause-d : goal.push_register-requires-clause-d
push_register-requires-clause-d c =
    rows-alike (kept_by c.args.marks.now) c.q-q.result.now c.d.result.now c.deref-2.result.now c.deref.result.now
    (d-alike c.args.model.now c.requires.model c.args.register c.requires.register c.q-q.result.now c.q-q.ensures c.d.result.now c.d.ensures)
    (c.deref-2.ensures.value ∙ c.in_ok-keep-2.ensures) (c.deref.ensures.value ∙ c.in_ok-keep.ensures)

pub push_register-requires-clause-value : goal.push_register-requires-clause-value
push_register-requires-clause-value c =
    rows-alike (kept_by c.args.marks.now) c.q-q.result.now c.value.result.now c.deref-3.result.now c.deref.result.now
    (value-alike c.args.model.now c.requires.model c.args.register c.requires.register c.q-q.result.now c.q-q.ensures c.value.result.now c.value.ensures)
    (c.deref-3.ensures.value ∙ c.in_ok-keep-3.ensures) (c.deref.ensures.value ∙ c.in_ok-keep.ensures)

pub returns-then-not-has_kept : goal.returns-then-not-has_kept
returns-then-not-has_kept c r e =
    let keep = kept_by c.args.marks.now in
    nothing-added keep c.args.draft.now r c.args.digits.now (rw (← c.q-q.ensures r e) (sym c.has_kept.ensures ∙ c.if-not-has_kept.true))

pub returns : goal.returns
returns c r e =
    let keep = kept_by c.args.marks.now in
    register-added keep c.args.draft.now c.push_register.new.self r c.args.digits.now (rw (← c.q-q.ensures r e) (sym c.has_kept.ensures ∙ c.if-not-has_kept.false))
    c.deref.result.now c.deref-2.result.now c.deref-3.result.now c.enable.result c.reset.result c.reset_first.result c.deref-4.result.now
    (c.deref.ensures.value ∙ c.in_ok-keep.ensures ∙ kept-same keep c.q-q.result.now ∙ ap (λ (q : List ℕ). filter keep q) (c.q-q.ensures r e))
    (c.deref-2.ensures.value ∙ c.in_ok-keep-2.ensures ∙ rw (c.q-q.ensures r e, c.d.ensures r e) refl)
    (c.deref-3.ensures.value ∙ c.in_ok-keep-3.ensures ∙ rw (c.q-q.ensures r e, c.value.ensures r e) refl)
    (c.enable.ensures r e) (c.reset.ensures r e) (c.reset_first.ensures r e)
    (c.deref-4.ensures.value ∙ c.in_ok-keep-4.ensures ∙ rw (c.q-q.ensures r e) refl)
    c.in_ok-push_register.ensures
