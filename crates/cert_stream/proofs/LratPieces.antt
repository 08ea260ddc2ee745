-- The loop over a piece.
use Rattle.std.proofs.Common.{◌≡◌, ℕ, ◌+◌, ◌<◌, ◌≤◌, Bool, true, false, List, length, get_or, Option, Some, None, refl, ap, sym, ◌∙◌, inl, inr, subst}
use Rattle.std.proofs.lemmas.List.{drop_more}
use Rattle.cert_stream.specs.Telling.{Gets}
use Rattle.cert_stream.specs.declared.mode.Event.{Event}
use Rattle.cert_stream.specs.LratMachine.{LratOf, Turn, turn, is_in_number}
use Rattle.cert_stream.specs.LratTelling.{LratSaying, TakesMemory, after, said, saying, told_by}
use Rattle.cert_stream.proofs.Remainders.{Reading, LeftOf, whole_left, quiet_left, told_left, stopped_left, all_told, all_kept}

abbrev reading : Reading LratOf LratSaying
reading = record {
  next = λ w b. (turn w b).to;
  heard = λ w b. told_by (turn w b).to (turn w b).event;
  after = after;
  said = said;
  taken = λ w. w.taken;
  Memory = TakesMemory;
  after_none = λ w. refl;
  said_none = λ w. refl;
  after_more = λ w b bs. refl;
  said_more = λ w b bs. refl;
  taken_more = λ w b. refl;
  memory_later = λ w b bs k. inr (inr k);
}

abbrev pub Left : {A : Type 0} → (A → LratSaying → A → Type 0) → (A → Bool) → LratOf → A → List ℕ → LratOf → A → ℕ → Type 0
Left gets stops start first piece w x i = LeftOf reading gets stops start first piece w x i

module _ {A : Type 0} (gets : A → LratSaying → A → Type 0) (stops : A → Bool) (start : LratOf) (first : A) (piece : List ℕ) where
  pub left_start : Left gets stops start first piece start first 0
  left_start = whole_left reading gets stops start first piece

  -- out of memory at a byte
  pub memory_at : (w : LratOf) (x : A) (i : ℕ) → Left gets stops start first piece w x i → i < length piece → is_in_number w.mode ≡ true → TakesMemory start piece
  memory_at w x i h l k = h.memory (subst (TakesMemory w) (sym (drop_more piece i 0 l)) (inl k))

  module _ (w v : LratOf) (x : A) (i : ℕ) (event : Option Event) (h : Left gets stops start first piece w x i) (l : i < length piece)
      (r : (let t : Turn = record { to = v; event = event } in t) ≡ turn w (get_or piece i 0)) where
    next_is : v ≡ (turn w (get_or piece i 0)).to
    next_is = ap (λ (t : Turn). t.to) r

    heard_is : told_by (turn w (get_or piece i 0)).to (turn w (get_or piece i 0)).event ≡ told_by v event
    heard_is = sym (ap (λ (t : Turn). told_by t.to t.event) r)

    pub memory_told : (e : Event) → event ≡ Some e → TakesMemory start piece
    memory_told e n = h.memory (subst (TakesMemory w) (sym (drop_more piece i 0 l)) (inr (inl (e, sym (ap (λ (t : Turn). t.event) r) ∙ n))))

    pub left_quiet : event ≡ None → Left gets stops start first piece v x (i + 1)
    left_quiet n = quiet_left reading gets stops start first piece w v x i h l next_is (heard_is ∙ ap (told_by v) n)

    module _ (e : Event) (n : event ≡ Some e) (z : A) (g : gets x (saying v e) z) where
      pub left_told : stops z ≡ false → Left gets stops start first piece v z (i + 1)
      left_told = told_left reading gets stops start first piece w v x i h l next_is (saying v e) (heard_is ∙ ap (told_by v) n) z g

      pub left_stopped : stops z ≡ true → Gets gets stops first (said start piece) z true
      left_stopped = stopped_left reading gets stops start first piece w v x i h l next_is (saying v e) (heard_is ∙ ap (told_by v) n) z g

  pub left_told_all : (w : LratOf) (x : A) (i : ℕ) → Left gets stops start first piece w x i → length piece ≤ i → Gets gets stops first (said start piece) x false
  left_told_all = all_told reading gets stops start first piece

  pub left_kept_all : (w : LratOf) (x : A) (i : ℕ) → Left gets stops start first piece w x i → length piece ≤ i → w ≡ after start piece
  left_kept_all = all_kept reading gets stops start first piece
