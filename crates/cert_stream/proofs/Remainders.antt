-- The loop over a piece of a stream, whatever reads it.
use Rattle.std.proofs.Common.{◌≡◌, ℕ, ◌+◌, ◌<◌, ◌≤◌, Bool, true, false, List, [], ◌∷◌, ◌++◌, length, drop, get_or, refl, ap, sym, ◌∙◌, inl, inr, arith, subst}
use Rattle.std.proofs.lemmas.List.{drop_more, drop_all}
use Rattle.cert_stream.specs.Telling.{Gets}

-- how bytes are read: what is kept of them, what is said with them, how many were taken, and whether some may take memory
pub record Reading (W S : Type 0) : Type 1 where
  pub next : W → ℕ → W
  pub heard : W → ℕ → List S
  pub after : W → List ℕ → W
  pub said : W → List ℕ → List S
  pub taken : W → ℕ
  pub Memory : W → List ℕ → Type 0
  pub after_none : (w : W) → after w [] ≡ w
  pub said_none : (w : W) → said w [] ≡ []
  pub after_more : (w : W) (b : ℕ) (bs : List ℕ) → after w (b ∷ bs) ≡ after (next w b) bs
  pub said_more : (w : W) (b : ℕ) (bs : List ℕ) → said w (b ∷ bs) ≡ heard w b ++ said (next w b) bs
  pub taken_more : (w : W) (b : ℕ) → taken (next w b) ≡ taken w + 1
  pub memory_later : (w : W) (b : ℕ) (bs : List ℕ) → Memory (next w b) bs → Memory w (b ∷ bs)

-- what is still to come of the piece, from the reader w and the receiver x on, makes the whole of it
pub record LeftOf {A W S : Type 0} (r : Reading W S) (gets : A → S → A → Type 0) (stops : A → Bool) (start : W) (first : A) (piece : List ℕ) (w : W) (x : A) (i : ℕ) : Type 0 where
  pub told : (y : A) (stopped : Bool) → Gets gets stops x (r.said w (drop i piece)) y stopped → Gets gets stops first (r.said start piece) y stopped
  pub kept : r.after w (drop i piece) ≡ r.after start piece
  pub count : r.taken w ≡ r.taken start + i
  pub within : i ≤ length piece
  pub memory : r.Memory w (drop i piece) → r.Memory start piece

module _ {A W S : Type 0} (r : Reading W S) (gets : A → S → A → Type 0) (stops : A → Bool) (start : W) (first : A) (piece : List ℕ) where
  pub whole_left : LeftOf r gets stops start first piece start first 0
  whole_left = record { told = λ y s h. h; kept = refl; count = omega arith; within = omega arith; memory = λ h. h }

  module _ (w v : W) (x : A) (i : ℕ) (h : LeftOf r gets stops start first piece w x i) (l : i < length piece) (n : v ≡ r.next w (get_or piece i 0)) where
    said_now : r.said w (drop i piece) ≡ r.heard w (get_or piece i 0) ++ r.said v (drop (i + 1) piece)
    said_now =
        ap (r.said w) (drop_more piece i 0 l) ∙ r.said_more w (get_or piece i 0) (drop (i + 1) piece)
        ∙ ap (λ z. r.heard w (get_or piece i 0) ++ r.said z (drop (i + 1) piece)) (sym n)

    after_now : r.after v (drop (i + 1) piece) ≡ r.after start piece
    after_now =
        ap (λ z. r.after z (drop (i + 1) piece)) n ∙ sym (r.after_more w (get_or piece i 0) (drop (i + 1) piece)) ∙ sym (ap (r.after w) (drop_more piece i 0 l)) ∙ h.kept

    count_now : r.taken v ≡ r.taken start + (i + 1)
    count_now = let e : r.taken v ≡ r.taken w + 1 = ap r.taken n ∙ r.taken_more w (get_or piece i 0) in omega (arith, e, h.count)

    memory_now : r.Memory v (drop (i + 1) piece) → r.Memory start piece
    memory_now k =
        let m : r.Memory (r.next w (get_or piece i 0)) (drop (i + 1) piece) = subst (λ z. r.Memory z (drop (i + 1) piece)) n k in
        h.memory (subst (r.Memory w) (sym (drop_more piece i 0 l)) (r.memory_later w (get_or piece i 0) (drop (i + 1) piece) m))

    pub quiet_left : r.heard w (get_or piece i 0) ≡ [] → LeftOf r gets stops start first piece v x (i + 1)
    quiet_left q =
        let e : r.said w (drop i piece) ≡ r.said v (drop (i + 1) piece) = said_now ∙ ap (λ z. z ++ r.said v (drop (i + 1) piece)) q in
        record { told = λ y s g. h.told y s (subst (λ z. Gets gets stops x z y s) (sym e) g); kept = after_now; count = count_now; within = omega (arith, l); memory = memory_now }

    module _ (s : S) (q : r.heard w (get_or piece i 0) ≡ s ∷ []) (z : A) (g : gets x s z) where
      said_more : r.said w (drop i piece) ≡ s ∷ r.said v (drop (i + 1) piece)
      said_more = said_now ∙ ap (λ a. a ++ r.said v (drop (i + 1) piece)) q

      pub told_left : stops z ≡ false → LeftOf r gets stops start first piece v z (i + 1)
      told_left f =
          record { told = λ y t k. h.told y t (subst (λ a. Gets gets stops x a y t) (sym said_more) (z, g, inr (f, k))); kept = after_now; count = count_now; within = omega (arith, l); memory = memory_now }

      pub stopped_left : stops z ≡ true → Gets gets stops first (r.said start piece) z true
      stopped_left t = h.told z true (subst (λ a. Gets gets stops x a z true) (sym said_more) (z, g, inl (t, refl, refl)))

  pub all_told : (w : W) (x : A) (i : ℕ) → LeftOf r gets stops start first piece w x i → length piece ≤ i → Gets gets stops first (r.said start piece) x false
  all_told w x i h l = h.told x false (subst (λ a. Gets gets stops x a x false) (sym (ap (r.said w) (drop_all i piece l) ∙ r.said_none w)) (refl, refl))

  pub all_kept : (w : W) (x : A) (i : ℕ) → LeftOf r gets stops start first piece w x i → length piece ≤ i → w ≡ r.after start piece
  all_kept w x i h l = sym (ap (r.after w) (drop_all i piece l) ∙ r.after_none w) ∙ h.kept
