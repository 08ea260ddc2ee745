use Rattle.std.proofs.Common.{◌≡◌, ◌+◌, ◌∷◌, [], ◌++◌, take, map, ◌∙◌, ap, sym, arith}
use Rattle.std.specs.Prelude.{Some}
use Rattle.std.proofs.lemmas.Option.{get_or_from_slice_get}
use Rattle.cnf_form.proofs.Members.{take_one_more}
use Rattle.cdcl_core.proofs.Reductions.{map_push}
use Rattle.cdcl_core.proofs.load.add_all.Goals as goal

pub loop-place-preserved : goal.loop-place-preserved
loop-place-preserved c =
    let i = c.loop-place.invariant in
    let e = c.in_ok-add_at_root.ensures in
    let F = c.clauses-clauses.result in
    let n = c.loop-place.place in
    let cl = c.get.result.now in
    let g = c.get.ensures in
    let one : take (n + 1) F ≡ take n F ++ cl ∷ [] = take_one_more F n cl (omega arith) (sym (get_or_from_slice_get F n cl cl g.clause)) in
    record {
      vars = e.vars ∙ i.vars;
      slots = e.slots ∙ ap (λ z. z ++ Some cl ∷ []) i.slots ∙ sym (ap (map Some) one ∙ map_push (take n F) cl);
      none = e.level;
      justified = e.justified;
      pending = e.pending;
    }
