use Rattle.std.proofs.Common.{◌≡◌, ◌∙◌, ℕ, ◌<◌, List, [], ◌∷◌, ◌++◌, length, take, get_or, sym, ap, inl, inr, arith}
use Rattle.std.proofs.lemmas.Bool.{cases_lt}
use Rattle.std.proofs.lemmas.List.{length_push, take-append-le}
use Rattle.std.proofs.lemmas.List.Elements.{All-push, All-weaker}
use Rattle.std.proofs.lemmas.List.Sums.{sum_by_push}
use Rattle.std.proofs.Math.ListN.{get_or-append}
use Rattle.std.proofs.Math.Seq.{get_or-append_seam, take-append_seam}
use Rattle.std.specs.List.{sum_by}
use Rattle.design_core.specs.Shape.{WireOf, IsWire, IsCellOf, IsConnectOf}
use Rattle.design_core.proofs.Designs.{IsDeclared-wire, IsCellOf-more, IsConnectOf-more}
use Rattle.design_core.proofs.design.Design.push_wire.Goals as goal

-- each wire's place is kept where a wire and its place are added
placed-push : (ws : List WireOf) (w : WireOf) (offsets : List ℕ) (bits : ℕ) → length offsets ≡ length ws → bits ≡ sum_by (λ x. x.width) ws
    → ((i : ℕ) → i < length ws → get_or offsets i 0 ≡ sum_by (λ x. x.width) (take i ws))
    → (i : ℕ) → i < length (ws ++ w ∷ []) → get_or (offsets ++ bits ∷ []) i 0 ≡ sum_by (λ x. x.width) (take i (ws ++ w ∷ []))
placed-push ws w offsets bits len all before i lt =
    elim (cases_lt i (length ws)) as (λ _. get_or (offsets ++ bits ∷ []) i 0 ≡ sum_by (λ x. x.width) (take i (ws ++ w ∷ []))) [
      | inl in_old ↦
          get_or-append offsets (bits ∷ []) 0 i (omega arith)
          ∙ (before i in_old ∙ ap (sum_by (λ (x : WireOf). x.width)) (sym (take-append-le i ws (w ∷ []) (omega arith))))
      | inr at_end ↦
          let e : i ≡ length ws = omega (arith, length_push ws w) in
          let o : i ≡ length offsets = omega arith in
          ap (λ (k : ℕ). get_or (offsets ++ bits ∷ []) k 0) o
          ∙ (get_or-append_seam offsets bits [] 0
          ∙ (all ∙ ap (sum_by (λ (x : WireOf). x.width)) (sym (ap (λ (k : ℕ). take k (ws ++ w ∷ [])) e ∙ take-append_seam ws (w ∷ [])))))
    ]

pub invariant_of-self-2 : goal.invariant_of-self-2
invariant_of-self-2 c =
    let a = c.self.inside in
    let d = c.self.invariant.design in
    let w : WireOf = c.args.wire in
    let ws : List WireOf = a.wires.items in
    let us : List WireOf = ws ++ w ∷ [] in
    let room = rw (← c.self.view_is) at c.requires.room in
    let sum = sum_by_push (λ (x : WireOf). x.width) ws w in
    record {
      design = record {
        wires = rw c.in-Ok.ensures.items (All-push IsWire ws w d.wires c.requires.wire);
        cells = rw c.in-Ok.ensures.items
            (All-weaker (IsCellOf ws a.free) (IsCellOf us a.free) (IsCellOf-more ws us a.free a.free (IsDeclared-wire ws w a.free) (λ x h. h)) a.cells.items d.cells);
        connects = rw c.in-Ok.ensures.items
            (All-weaker (IsConnectOf ws a.free) (IsConnectOf us a.free) (IsConnectOf-more ws us a.free a.free (IsDeclared-wire ws w a.free) (λ x h. h)) a.connects.items d.connects);
        bits = rw c.in-Ok.ensures.items (omega (arith, room, sum));
        order = d.order;
        few_cells = d.few_cells;
        few_connects = d.few_connects;
      };
      counted = rw c.in-Ok.ensures.items (omega (arith, sum, c.self.invariant.counted, c.width-width.ensures));
      one_each = rw (c.in-Ok.ensures.items, c.in_ok-push.ensures.items)
          (omega (arith, length_push ws w, length_push a.offsets.items a.bits, c.self.invariant.one_each));
      placed = rw (c.in-Ok.ensures.items, c.in_ok-push.ensures.items)
          (placed-push ws w a.offsets.items a.bits c.self.invariant.one_each c.self.invariant.counted c.self.invariant.placed);
    }
