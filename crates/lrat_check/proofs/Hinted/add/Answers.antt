use Rattle.std.proofs.Common.{◌≡◌, ◌<◌, Bool, true, List, ℕ, length, refl, sym, subst, rules}
use Rattle.std.specs.Prelude.{All, IsTrue, ◌↔◌}
use Rattle.cnf_form.specs.Cnf.{LitOf}
use Rattle.lrat_check.specs.Hints.{IsHinted}
use Rattle.lrat_check.specs.Checking.{HintedOf, live_of}
use Rattle.lrat_check.specs.Table.{held}
use Rattle.lrat_check.proofs.Rising.{below_next}
use Rattle.lrat_check.proofs.Table.{checker_back, err_of, live_up, ok_of, put_places}
use Rattle.lrat_check.specs.Marks.{ClausesHavePlaces, HasPlaces, IsClear}
use Rattle.lrat_check.proofs.Hinted.add.Goals as goal

hinted : (h h' : HintedOf) (c : List LitOf) (hints : List ℕ) (b : Bool) → h ≡ h' → (IsTrue b ↔ IsHinted (live_of h) c hints) → IsTrue b ↔ IsHinted (live_of h') c hints
hinted h h' c hints b e w = subst (λ (k : HintedOf). IsTrue b ↔ IsHinted (live_of k) c hints) e w

pub returns-in-Ok-false-clause-exact : goal.returns-in-Ok-false-clause-exact
returns-in-Ok-false-clause-exact c =
    let w = hinted _ c.args.self.now c.args.clause.now c.args.hints.now c.in-Ok-false.field-0 c.self.view_is c.in-Ok-false.ensures.exact in
    (λ e. absurd (cc e), λ h. absurd (let t : c.in-Ok-false.field-0 ≡ true = w.1 h in cc))

pub returns-then-is_empty-clause-exact : goal.returns-then-is_empty-clause-exact
returns-then-is_empty-clause-exact c =
    let w = hinted _ c.args.self.now c.args.clause.now c.args.hints.now c.in-Ok-true.field-0 c.self.view_is c.in-Ok-true.ensures.exact in
    (λ e. w.0 (cc), λ h. refl)

pub returns-else-is_empty-clause-exact : goal.returns-else-is_empty-clause-exact
returns-else-is_empty-clause-exact c =
    let w = hinted _ c.args.self.now c.args.clause.now c.args.hints.now c.in-Ok-true.field-0 c.self.view_is c.in-Ok-true.ensures.exact in
    (λ e. w.0 (cc), λ h. refl)

pub push-requires : goal.push-requires
push-requires c =
    let i = c.self.invariant in
    below_next c.self.inside.clauses c.self.inside.last_id c.args.id i.1 (subst (λ (h : HintedOf). h.last_id < c.args.id) (sym c.self.view_is) c.requires.id)

-- marks that reach further
pub invariant_of-self : goal.invariant_of-self
invariant_of-self c =
    let i = c.self.invariant in
    let k = i.0 in
    let old = c.self.inside.marks in
    let marks = c.reach.new.marks in
    let r = c.reach.ensures in
    let places : ClausesHavePlaces (held c.self.inside.clauses) marks.items = live_up (held c.self.inside.clauses) old.items marks.items r.longer k.places in
    (record { clear = r.clear k.clear; places = places }, i.1)

pub is_hinted-found-requires-clause-places : goal.is_hinted-found-requires-clause-places
is_hinted-found-requires-clause-places c =
    let i = c.self.invariant in
    let k = i.0 in
    let old = c.self.inside.marks in
    let marks = c.reach.new.marks in
    let r = c.reach.ensures in
    let places : ClausesHavePlaces (held c.self.inside.clauses) marks.items = live_up (held c.self.inside.clauses) old.items marks.items r.longer k.places in
    let same : marks.items ≡ c.deref_mut.result.now = search rules in
    subst (ClausesHavePlaces (held c.self.inside.clauses)) same places

pub is_hinted-found-requires-clause-clear : goal.is_hinted-found-requires-clause-clear
is_hinted-found-requires-clause-clear c =
    let i = c.self.invariant in
    let k = i.0 in
    let old = c.self.inside.marks in
    let marks = c.reach.new.marks in
    let r = c.reach.ensures in
    let places : ClausesHavePlaces (held c.self.inside.clauses) marks.items = live_up (held c.self.inside.clauses) old.items marks.items r.longer k.places in
    let same : marks.items ≡ c.deref_mut.result.now = search rules in
    subst IsClear same (r.clear k.clear)

-- a table as it was, beside marks that came back
pub invariant_of-self-then-is_err-2 : goal.invariant_of-self-then-is_err-2
invariant_of-self-then-is_err-2 c =
    let i = c.self.invariant in
    let k = i.0 in
    let old = c.self.inside.marks in
    let marks = c.reach.new.marks in
    let r = c.reach.ensures in
    let places : ClausesHavePlaces (held c.self.inside.clauses) marks.items = live_up (held c.self.inside.clauses) old.items marks.items r.longer k.places in
    let new = c.is_hinted-found.new.marks in
    let a : marks.len ≡ length marks.items = search rules in
    let b : length new ≡ length marks.items = search rules in
    let same = err_of c.push.result _ c.if-is_err-2.ensures.value c.push.ensures.err in
    rw same (checker_back (held c.self.inside.clauses) marks.items new marks.len a b c.is_hinted-found.ensures.clear places, i.1)

-- a table with one more clause
pub invariant_of-self-then-is_empty : goal.invariant_of-self-then-is_empty
invariant_of-self-then-is_empty c =
    let i = c.self.invariant in
    let k = i.0 in
    let old = c.self.inside.marks in
    let marks = c.reach.new.marks in
    let r = c.reach.ensures in
    let places : ClausesHavePlaces (held c.self.inside.clauses) marks.items = live_up (held c.self.inside.clauses) old.items marks.items r.longer k.places in
    let new = c.is_hinted-found.new.marks in
    let a : marks.len ≡ length marks.items = search rules in
    let b : length new ≡ length marks.items = search rules in
    let now = ok_of c.push.result _ c.if-is_err-2.ensures.value c.push.ensures.held in
    let room : All (HasPlaces marks.items) c.args.clause.now = ok_of c.reach.result _ c.if-is_err.ensures.value r.places in
    let more = put_places (held c.self.inside.clauses) (held c.push.new.self) c.args.id c.args.clause.now marks.items now places room in
    (checker_back (held c.push.new.self) marks.items new marks.len a b c.is_hinted-found.ensures.clear more, ok_of c.push.result _ c.if-is_err-2.ensures.value c.push.ensures.ids)

pub invariant_of-self-else-is_empty : goal.invariant_of-self-else-is_empty
invariant_of-self-else-is_empty c =
    let i = c.self.invariant in
    let k = i.0 in
    let old = c.self.inside.marks in
    let marks = c.reach.new.marks in
    let r = c.reach.ensures in
    let places : ClausesHavePlaces (held c.self.inside.clauses) marks.items = live_up (held c.self.inside.clauses) old.items marks.items r.longer k.places in
    let new = c.is_hinted-found.new.marks in
    let a : marks.len ≡ length marks.items = search rules in
    let b : length new ≡ length marks.items = search rules in
    let now = ok_of c.push.result _ c.if-is_err-2.ensures.value c.push.ensures.held in
    let room : All (HasPlaces marks.items) c.args.clause.now = ok_of c.reach.result _ c.if-is_err.ensures.value r.places in
    let more = put_places (held c.self.inside.clauses) (held c.push.new.self) c.args.id c.args.clause.now marks.items now places room in
    (checker_back (held c.push.new.self) marks.items new marks.len a b c.is_hinted-found.ensures.clear more, ok_of c.push.result _ c.if-is_err-2.ensures.value c.push.ensures.ids)
