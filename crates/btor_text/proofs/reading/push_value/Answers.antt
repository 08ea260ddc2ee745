use Rattle.std.proofs.Common.{◌≡◌, ◌∙◌, ◌≤◌, ℕ, Bool, List, Option, Some, None, length, ap, refl, subst, sym}
use Rattle.std.specs.Prelude.{IfNone, IfSome}
use Rattle.std.specs.Option.{unwrap_or}
use Rattle.btor_core.specs.declared.line.Body.TheVariants as body
use Rattle.btor_core.specs.declared.line.Node.{Node}
use Rattle.btor_core.specs.Fits.{IsWidth}
use Rattle.btor_text.specs.Form.{saying}
use Rattle.btor_text.specs.Reading.{bits_back}
use Rattle.btor_text.proofs.Following.{constant_width_fits, value_fits}
use Rattle.btor_text.proofs.reading.push_value.Goals as goal

pub push_constant-requires-clause-width : goal.push_constant-requires-clause-width
push_constant-requires-clause-width c =
    let digits = bits_back c.args.said.now.digits.now in
    let is = c.requires.says ∙ ap (λ (n : Node). body.Value c.args.sort 0 n) c.in-Const.is in
    subst (λ (bs : List Bool). IsWidth (length bs)) (sym (c.deref.ensures.value ∙ c.in_ok-bits-in-Const.ensures)) (constant_width_fits c.args.model.now (saying c.args.said.now) c.args.sort c.in-Const.field-0 digits is refl c.promise.ensures c.requires.follows)

-- a width that is found, or none
width_is : (r : Option ℕ) (n : ℕ) → IfSome r (λ w. (1 ≤ w) × (n ≡ w)) → IfNone r (n ≡ 0) → unwrap_or r 0 ≡ n
width_is (Some w) n h g = sym h.1
width_is None n h g = sym g

pub push-requires : goal.push-requires
push-requires c =
    let digits = bits_back c.args.said.now.digits.now in
    let wide = c.unwrap_or-width.ensures ∙ width_is c.sort_width.result _ c.sort_width.ensures.some c.sort_width.ensures.none in
    value_fits c.args.model.now (saying c.args.said.now) c.args.sort c.args.node digits c.requires.says refl c.promise.ensures c.requires.follows c.in_default.not-Const c.unwrap_or-width.result wide
