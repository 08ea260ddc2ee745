use Rattle.std.proofs.Common.{◌≡◌, ◌<◌, ◌∙◌, [], List, length, get_or, false, sym, subst, ap, arith, inl, inr}
use Rattle.std.specs.Prelude.{All}
use Rattle.std.proofs.lemmas.Bool.{cases_eq}
use Rattle.std.proofs.lemmas.List.{get_or_default, get_or_past}
use Rattle.std.proofs.lemmas.Option.{get_or_from_slice_get}
use Rattle.clause_source.specs.Given.{lits_of}
use Rattle.cnf_form.specs.Cnf.{LitOf, index_of}
use Rattle.lrat_check.specs.Marks.{HasPlaces, IsClear}
use Rattle.lrat_check.proofs.Table.{places_up}
use Rattle.lrat_check.proofs.marks.places_for.Goals as goal

pub loop-number-init : goal.loop-number-init
loop-number-init g c = record {
  clear = subst IsClear (sym c.new-marks.ensures.items) (λ l. get_or_past [] (index_of l) false (omega arith));
  places = λ i d h. absurd (omega (arith, h));
  place = c.first-place.ensures;
}

pub next-requires : goal.next-requires
next-requires g c = (c.loop-number.number, c.loop-number.invariant.place, omega arith)

pub loop-number-preserved : goal.loop-number-preserved
loop-number-preserved g c =
    let v = c.loop-number.invariant in
    let r = c.reach_given.ensures in
    let F : List (List LitOf) = (g.S.ClauseSource.formula c.args.source.now).clauses in
    let n = c.loop-number.number in
    let new = c.reach_given.new.marks.items in
    let x : List LitOf = lits_of c.next.result in
    let room : n < length F = omega arith in
    let is : x ≡ get_or F n x = sym (get_or_from_slice_get F n x x (c.next.ensures.clause n v.place room)) in
    let here : All (HasPlaces new) x = c.in_ok-reach_given.ensures.places in
    record {
      clear = r.clear v.clear;
      places = λ i d h. elim (cases_eq i n) [
        | inl e ↦ subst (All (HasPlaces new)) (is ∙ get_or_default F n x d room ∙ ap (λ k. get_or F k d) (sym e)) here
        | inr ne ↦ places_up c.loop-number.marks.items new _ r.longer (v.places i d (omega (arith, h, ne)))
      ];
      place = c.next.ensures.place n v.place room;
    }

pub returns-clause-places : goal.returns-clause-places
returns-clause-places g c = λ x h.
    let v = c.loop-number.invariant in
    subst (All (HasPlaces c.loop-number.marks.items)) h.2 (v.places h.0 x (omega (arith, h.1)))
