-- The loop over a piece.
use Rattle.std.proofs.Common.{◌≡◌, ℕ, ◌+◌, ◌-◌, ◌<◌, ◌≤◌, Bool, true, false, List, length, take, drop, get_or, Option, Some, None, refl, ap, sym, ◌∙◌, inr, arith, subst}
use Rattle.std.proofs.lemmas.List.{drop-drop, take_rest, length-drop}
use Rattle.cert_stream.specs.Machine.{DrupOf, Turn, turn}
use Rattle.cert_stream.specs.Telling.{Saying, TakesMemory, saying, told_by, after, said, Gets}
use Rattle.cert_stream.specs.declared.mode.Event.{Event}
use Rattle.cert_stream.proofs.Remainders.{Reading, LeftOf, whole_left, quiet_left, told_left, stopped_left, all_told, all_kept}

abbrev reading : Reading DrupOf Saying
reading = record {
  next = λ w b. (turn w b).to;
  heard = λ w b. told_by (turn w b).to (turn w b).event;
  after = after;
  said = said;
  taken = λ w. w.taken;
  Memory = TakesMemory;
  after_none = λ w. refl;
  said_none = λ w. refl;
  after_more = λ w b bs. refl;
  said_more = λ w b bs. refl;
  taken_more = λ w b. refl;
  memory_later = λ w b bs k. inr (inr k);
}

abbrev pub Left : {A : Type 0} → (A → Saying → A → Type 0) → (A → Bool) → DrupOf → A → List ℕ → DrupOf → A → ℕ → Type 0
Left gets stops start first piece w x i = LeftOf reading gets stops start first piece w x i

module _ {A : Type 0} (gets : A → Saying → A → Type 0) (stops : A → Bool) (start : DrupOf) (first : A) (piece : List ℕ) where
  pub left_start : Left gets stops start first piece start first 0
  left_start = whole_left reading gets stops start first piece

  module _ (w v : DrupOf) (x : A) (i : ℕ) (event : Option Event) (h : Left gets stops start first piece w x i) (l : i < length piece)
      (r : (let t : Turn = record { to = v; event = event } in t) ≡ turn w (get_or piece i 0)) where
    next_is : v ≡ (turn w (get_or piece i 0)).to
    next_is = ap (λ (t : Turn). t.to) r

    heard_is : told_by (turn w (get_or piece i 0)).to (turn w (get_or piece i 0)).event ≡ told_by v event
    heard_is = sym (ap (λ (t : Turn). told_by t.to t.event) r)

    pub left_quiet : event ≡ None → Left gets stops start first piece v x (i + 1)
    left_quiet n = quiet_left reading gets stops start first piece w v x i h l next_is (heard_is ∙ ap (told_by v) n)

    module _ (e : Event) (n : event ≡ Some e) (z : A) (g : gets x (saying v e) z) where
      pub left_told : stops z ≡ false → Left gets stops start first piece v z (i + 1)
      left_told = told_left reading gets stops start first piece w v x i h l next_is (saying v e) (heard_is ∙ ap (told_by v) n) z g

      pub left_stopped : stops z ≡ true → Gets gets stops first (said start piece) z true
      left_stopped = stopped_left reading gets stops start first piece w v x i h l next_is (saying v e) (heard_is ∙ ap (told_by v) n) z g

  pub left_told_all : (w : DrupOf) (x : A) (i : ℕ) → Left gets stops start first piece w x i → length piece ≤ i → Gets gets stops first (said start piece) x false
  left_told_all = all_told reading gets stops start first piece

  pub left_kept_all : (w : DrupOf) (x : A) (i : ℕ) → Left gets stops start first piece w x i → length piece ≤ i → w ≡ after start piece
  left_kept_all = all_kept reading gets stops start first piece

  -- bytes that are passed over
  pub left_moved : (w v : DrupOf) (x : A) (i j : ℕ) → Left gets stops start first piece w x i → after v (drop j piece) ≡ after w (drop i piece) → said v (drop j piece) ≡ said w (drop i piece)
      → v.taken + i ≡ w.taken + j → j ≤ length piece → (TakesMemory v (drop j piece) → TakesMemory w (drop i piece)) → Left gets stops start first piece v x j
  left_moved w v x i j h a s c l t =
      record { told = λ y st g. h.told y st (subst (λ z. Gets gets stops x z y st) s g); kept = a ∙ h.kept; count = omega (arith, c, h.count); within = l; memory = λ k. h.memory (t k) }

  pub left_passed : (w v : DrupOf) (x : A) (i n : ℕ) → Left gets stops start first piece w x i
      → after v (drop n (take (length piece - i) (drop i piece))) ≡ after w (take (length piece - i) (drop i piece))
      → said v (drop n (take (length piece - i) (drop i piece))) ≡ said w (take (length piece - i) (drop i piece)) → v.taken ≡ w.taken + n
      → n ≤ length (take (length piece - i) (drop i piece))
      → (TakesMemory v (drop n (take (length piece - i) (drop i piece))) → TakesMemory w (take (length piece - i) (drop i piece)))
      → Left gets stops start first piece v x (i + n)
  left_passed w v x i n h a s c m t =
      let r : take (length piece - i) (drop i piece) ≡ drop i piece = take_rest piece i in
      let d : drop n (take (length piece - i) (drop i piece)) ≡ drop (i + n) piece = ap (drop n) r ∙ drop-drop n i piece ∙ ap (λ k. drop k piece) (omega arith) in
      left_moved w v x i (i + n) h (sym (ap (after v) d) ∙ a ∙ ap (after w) r) (sym (ap (said v) d) ∙ s ∙ ap (said w) r) (omega (arith, c)) (let z = ap length r ∙ length-drop i piece in omega (arith, z, m, h.within))
      (λ k. subst (TakesMemory w) r (t (subst (TakesMemory v) (sym d) k)))
