use Rattle.std.proofs.Common.{◌≡◌, ◌<◌, ◌∙◌, ℕ, Bool, true, false, Some, length, ap, sym, subst, arith}
use Rattle.std.specs.Prelude.{slice_get}
use Rattle.design_graph.specs.Starts.{IsRegisterStart}
use Rattle.design_core.specs.Places.{place_of}
use Rattle.design_core.proofs.Lists.{item_at, one_at}
use Rattle.design_graph.proofs.Starting.{start-marked, marked-digit}
use Rattle.design_graph.proofs.starts.has_start.Goals as goal

pub returns-then-digit : goal.returns-then-digit
returns-then-digit c = λ a da e.
    let s = c.requires.marks in
    let m = c.args.marks.now in
    let d = c.args.design.now in
    let in-held : c.args.place < length c.args.marks.now.registers.items = omega (arith, s.outputs.size, c.requires.place) in
    let held = item_at m.registers.items c.args.place c.index.result.now c.index.ensures in-held ∙ ap (λ (b : Bool). Some b) c.if-not-index.false in
    let in-leaders : c.args.place < length c.args.marks.now.leaders.items = omega (arith, s.nets.size, c.requires.place) in
    let led = item_at m.leaders.items c.args.place c.index-then-digit.result.now c.index-then-digit.ensures in-leaders in
    let in-digits : c.index-then-digit.result.now < length c.args.marks.now.high.items = omega (arith, s.nets.within c.args.place c.index-then-digit.result.now led, s.ones.size) in
    let digit = item_at m.high.items c.index-then-digit.result.now c.index-then-digit-2.result.now c.index-then-digit-2.ensures in-digits in
    let held-a : slice_get c.args.marks.now.registers.items (place_of c.args.design.now a) ≡ Some true = subst (λ (n : ℕ). slice_get c.args.marks.now.registers.items n ≡ Some true) e held in
    let led-a : slice_get c.args.marks.now.leaders.items (place_of c.args.design.now a) ≡ Some c.index-then-digit.result.now = subst (λ (n : ℕ). slice_get c.args.marks.now.leaders.items n ≡ Some c.index-then-digit.result.now) e led in (
      λ t.
          subst (λ (b : Bool). IsRegisterStart c.args.design.now a b) (sym c.if-digit.true)
          (start-marked d c.requires.shape m.leaders.items m.registers.items m.high.items true s.once s.nets s.outputs s.ones a c.index-then-digit.result.now da led-a held-a (digit ∙ ap (λ (b : Bool). Some b) t)),
      λ h.
          let marked = marked-digit d c.requires.shape m.leaders.items m.registers.items m.high.items true s.once s.nets s.outputs s.ones a c.index-then-digit.result.now da led-a
          (subst (λ (b : Bool). IsRegisterStart c.args.design.now a b) c.if-digit.true h) in
          one_at m.high.items c.index-then-digit.result.now c.index-then-digit-2.result.now true digit marked,
    )

pub returns-else-digit : goal.returns-else-digit
returns-else-digit c = λ a da e.
    let s = c.requires.marks in
    let m = c.args.marks.now in
    let d = c.args.design.now in
    let in-held : c.args.place < length c.args.marks.now.registers.items = omega (arith, s.outputs.size, c.requires.place) in
    let held = item_at m.registers.items c.args.place c.index.result.now c.index.ensures in-held ∙ ap (λ (b : Bool). Some b) c.if-not-index.false in
    let in-leaders : c.args.place < length c.args.marks.now.leaders.items = omega (arith, s.nets.size, c.requires.place) in
    let led = item_at m.leaders.items c.args.place c.index-else-digit.result.now c.index-else-digit.ensures in-leaders in
    let in-digits : c.index-else-digit.result.now < length c.args.marks.now.low.items = omega (arith, s.nets.within c.args.place c.index-else-digit.result.now led, s.zeros.size) in
    let digit = item_at m.low.items c.index-else-digit.result.now c.index-else-digit-2.result.now c.index-else-digit-2.ensures in-digits in
    let held-a : slice_get c.args.marks.now.registers.items (place_of c.args.design.now a) ≡ Some true = subst (λ (n : ℕ). slice_get c.args.marks.now.registers.items n ≡ Some true) e held in
    let led-a : slice_get c.args.marks.now.leaders.items (place_of c.args.design.now a) ≡ Some c.index-else-digit.result.now = subst (λ (n : ℕ). slice_get c.args.marks.now.leaders.items n ≡ Some c.index-else-digit.result.now) e led in (
      λ t.
          subst (λ (b : Bool). IsRegisterStart c.args.design.now a b) (sym c.if-digit.false)
          (start-marked d c.requires.shape m.leaders.items m.registers.items m.low.items false s.once s.nets s.outputs s.zeros a c.index-else-digit.result.now da led-a held-a (digit ∙ ap (λ (b : Bool). Some b) t)),
      λ h.
          let marked = marked-digit d c.requires.shape m.leaders.items m.registers.items m.low.items false s.once s.nets s.outputs s.zeros a c.index-else-digit.result.now da led-a
          (subst (λ (b : Bool). IsRegisterStart c.args.design.now a b) c.if-digit.false h) in
          one_at m.low.items c.index-else-digit.result.now c.index-else-digit-2.result.now true digit marked,
    )
