use Rattle.std.proofs.Common.{List, sym, ◌∙◌, ap, subst, rules, ◌<◌, ◌++◌, ◌∷◌, []}
use Rattle.std.specs.Prelude.{Contains, Some}
use Rattle.cnf_form.specs.Cnf.{LitOf}
use Rattle.lrat_check.specs.Hints.{put}
use Rattle.lrat_check.specs.Table.{Entry, IsUpto, held}
use Rattle.lrat_check.specs.Arena.{entries_of}
use Rattle.lrat_check.proofs.Arena.{arena_pushed}
use Rattle.lrat_check.proofs.Rising.{held_push, upto_push}
use Rattle.lrat_check.proofs.entries.Table.push.Goals as goal

pub invariant_of-self-else-is_err : goal.invariant_of-self-else-is_err
invariant_of-self-else-is_err c =
    let k = c.self.inside in
    let lits = k.lits.items in
    let slots = k.slots.items in
    let cl : List LitOf = c.args.clause.now in
    let low = subst (λ (z : List Entry). (e : Entry) → Contains z e → e.id < c.args.id) (sym c.self.view_is) c.requires in
    let p = arena_pushed lits slots c.self.invariant c.args.id cl c.extend_from_slice.new.self.items c.push.new.self.items c.len-start.result c.saturating_add-end.result low (search rules) (search rules) (search rules) (search rules) in
    p.0

pub returns-clause-entries : goal.returns-clause-entries
returns-clause-entries c =
    let k = c.self.inside in
    let lits = k.lits.items in
    let slots = k.slots.items in
    let cl : List LitOf = c.args.clause.now in
    let low = subst (λ (z : List Entry). (e : Entry) → Contains z e → e.id < c.args.id) (sym c.self.view_is) c.requires in
    let p = arena_pushed lits slots c.self.invariant c.args.id cl c.extend_from_slice.new.self.items c.push.new.self.items c.len-start.result c.saturating_add-end.result low (search rules) (search rules) (search rules) (search rules) in
    let f : Entry = record { id = c.args.id; clause = Some cl } in
    p.1 ∙ ap (λ (z : List Entry). z ++ f ∷ []) c.self.view_is

pub returns-clause-held : goal.returns-clause-held
returns-clause-held c = λ n.
    let k = c.self.inside in
    let lits = k.lits.items in
    let slots = k.slots.items in
    let cl : List LitOf = c.args.clause.now in
    let low = subst (λ (z : List Entry). (e : Entry) → Contains z e → e.id < c.args.id) (sym c.self.view_is) c.requires in
    let p = arena_pushed lits slots c.self.invariant c.args.id cl c.extend_from_slice.new.self.items c.push.new.self.items c.len-start.result c.saturating_add-end.result low (search rules) (search rules) (search rules) (search rules) in
    let i = c.self.invariant in
    let f : Entry = record { id = c.args.id; clause = Some cl } in
    ap (λ z. held z n) p.1 ∙ held_push (entries_of lits slots) f i.rising low n ∙ ap (λ z. put (held z) c.args.id (Some cl) n) c.self.view_is

pub returns-clause-ids : goal.returns-clause-ids
returns-clause-ids c =
    let k = c.self.inside in
    let lits = k.lits.items in
    let slots = k.slots.items in
    let cl : List LitOf = c.args.clause.now in
    let low = subst (λ (z : List Entry). (e : Entry) → Contains z e → e.id < c.args.id) (sym c.self.view_is) c.requires in
    let p = arena_pushed lits slots c.self.invariant c.args.id cl c.extend_from_slice.new.self.items c.push.new.self.items c.len-start.result c.saturating_add-end.result low (search rules) (search rules) (search rules) (search rules) in
    let f : Entry = record { id = c.args.id; clause = Some cl } in
    subst (λ z. IsUpto z c.args.id) (sym p.1) (upto_push (entries_of lits slots) f low)
