use Rattle.std.proofs.Common.{◌≡◌, ◌∙◌, ℕ, List, Some, length, refl, subst, sym, arith}
use Rattle.std.specs.Prelude.{slice_get}
use Rattle.std.proofs.lemmas.Option.{slice_get_read}
use Rattle.gate_graph.specs.Places.{AreLinked, place_of}
use Rattle.gate_graph.proofs.Linking.{linked_none}
use Rattle.gate_graph.proofs.kept.link_all.Goals as goal

pub link-requires : goal.link-requires
link-requires c = let p = c.loop-count.invariant.places in
    let h = c.loop-count-test.true in
    let m = p.many in
    let r = p.room in
    record { places = record { some = p.some; few = p.few; room = omega arith; many = omega arith } }

pub loop-count-init : goal.loop-count-init
loop-count-init c = record {
  places = c.requires.places;
  size = refl;
  chains = refl;
  linked = let n = length c.args.heads.now in
      subst (λ (hs : List ℕ). AreLinked (place_of n) hs c.args.links.now c.args.entries.now 0) (sym c.requires.empty) (linked_none (place_of n) n c.args.links.now c.args.entries.now);
}

pub loop-count-preserved : goal.loop-count-preserved
loop-count-preserved c =
    let old = c.loop-count.invariant in
    let new = c.link.ensures in
    let e = c.index-entries-count.result in
    let at : slice_get c.args.entries.now c.loop-count.count ≡ Some e = slice_get_read c.args.entries.now (length c.args.entries.now) c.loop-count.count e refl c.loop-count-test.true c.index-entries-count.is in
    let step = new.linked c.args.entries.now e.1 at in
    record {
      places = record {
        some = new.places.some;
        few = new.places.few;
        room = let r = old.places.room in let s = new.size in omega arith;
        many = let m = old.places.many in let s = new.chains in omega arith;
      };
      size = new.size ∙ old.size;
      chains = new.chains ∙ old.chains;
      linked = (rw old.size at step) old.linked;
    }
