use Rattle.std.proofs.Common.{◌≤◌, ◌-◌, ◌≡◌, length, drop, get_or, refl, sym, subst, ◌∙◌, arith, rules}
use Rattle.std.specs.Prelude.{All, Contains, slice_range}
use Rattle.unit_propagation.proofs.Filing.{from_ok}
use Rattle.std.proofs.lemmas.List.{get_or_default}
use Rattle.std.proofs.lemmas.List.Elements.{All-contains, All-drop, All-take}
use Rattle.unit_propagation.specs.Marks.{IsBelow}
use Rattle.unit_propagation.specs.Watch.{end_of}
use Rattle.unit_propagation.specs.declared.watch.Head.{Head}
use Rattle.unit_propagation.proofs.Stores.{slot_moved, slot_lits}
use Rattle.unit_propagation.proofs.visit.visit_clause.Goals as goal

pub watch-requires-clause-fits : goal.watch-requires-clause-fits
watch-requires-clause-fits c =
    let v = c.in-Move.ensures in
    let f = c.head-start.ensures.fits in
    let other : c.in-Move.other.var ≤ c.args.store.now.vars = search rules in
    let s = c.args.store.now in
    let start = c.head-start.result.start in
    let end = end_of (length s.lits.items) s.heads.items c.args.clause in
    let clause = slice_range s.lits.items start end in
    let below : All (IsBelow s.vars) clause = All-take (IsBelow s.vars) (end - start) (drop start s.lits.items) (All-drop (IsBelow s.vars) start s.lits.items s.below) in
    let m = All-contains (IsBelow s.vars) clause c.in-Move.m below v.2 in
    record { start = f.start; from = v.5; watches = λ d. record { from = v.6; left = other; right = m } }

pub watch-requires-clause-same : goal.watch-requires-clause-same
watch-requires-clause-same c =
    let s = c.args.store.now in
    let h = c.head-start.ensures in
    let v = c.in-Move.ensures in
    let w = h.fits.watches v.1 in
    let moved : Head = record { start = c.head-start.result.start; from = c.in-Move.from; left = c.in-Move.other; right = c.in-Move.m } in
    slot_moved s.lits.items s.heads.items c.args.clause c.head-start.result moved c.requires.clause h.head refl (omega (arith, v.6, h.within)) (omega (arith, w.from, h.within))

pub returns-else-is_err-clause-visited : goal.returns-else-is_err-clause-visited
returns-else-is_err-clause-visited c = λ c' d is.
    let s = c.args.store.now in
    let v = c.in-Move.ensures in
    let h = c.head-start.ensures in
    let at : get_or s.heads.items c.args.clause d ≡ c.head-start.result = get_or_default s.heads.items c.args.clause d c.head-start.result c.requires.clause ∙ sym h.head in
    let lits : slice_range s.lits.items c.head-start.result.start (end_of (length s.lits.items) s.heads.items c.args.clause) ≡ c' = slot_lits s.lits.items (end_of (length s.lits.items) s.heads.items c.args.clause) c.head-start.result c' (sym h.slot ∙ is) in
    let moved : Head = record { start = c.head-start.result.start; from = c.in-Move.from; left = c.in-Move.other; right = c.in-Move.m } in
    rw at (
      v.0,
      v.1,
      subst (λ z. Contains z c.in-Move.m) lits v.2,
      v.3,
      v.4,
      record {
        head = moved;
        left = refl;
        right = refl;
        heads = c.watch.ensures.heads;
        rows = from_ok c.push.result _ c.if-is_err.ensures.value c.push.ensures.ok;
        trail = search rules;
      },
    )
