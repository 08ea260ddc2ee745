use Rattle.std.proofs.Common.{◌∙◌, Bool, List, ap, sym, subst}
use Rattle.model_cone.specs.Cone.{IsCone}
use Rattle.model_cone.specs.Slice.{kept_by, sliced}
use Rattle.model_cone.proofs.slice.slice.Goals as goal

pub cut-requires-clause-cone : goal.cut-requires-clause-cone
cut-requires-clause-cone c = (c.args.asked, subst (λ (marks : List Bool). IsCone c.args.model.now c.args.asked (kept_by marks)) (sym c.deref.ensures.value) c.in_ok-marks.ensures.cone)

pub returns : goal.returns
returns c = record {
  keep = kept_by c.in_ok-marks.marks.items;
  cone = c.in_ok-marks.ensures.cone;
  is = c.in_ok-slice.ensures.slice ∙ ap (λ (marks : List Bool). sliced (kept_by marks) c.args.model.now) c.deref.ensures.value;
}
