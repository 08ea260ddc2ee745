-- The loop over a piece of a binary proof.
use Rattle.std.proofs.Common.{◌≡◌, ℕ, ◌+◌, ◌<◌, ◌≤◌, Bool, true, false, List, ◌∷◌, ◌++◌, length, drop, get_or, Option, Some, None, refl, ap, sym, ◌∙◌, inl, inr, arith, subst}
use Rattle.std.proofs.lemmas.List.{drop_more, drop_all}
use Rattle.cert_stream.specs.Telling.{Saying, Gets}
use Rattle.proof_stream.specs.Binary.{BinaryOf, BinaryTurn, binary_told, binary_turn, line_said}
use Rattle.proof_stream.specs.File.{FileOf, InBinary, after, said}
use Rattle.proof_stream.specs.declared.spot.LineKind.{LineKind}

-- what is still to come of the piece, from the parser w and the receiver x on, makes the whole of it
pub record Left {A : Type 0} (gets : A → Saying → A → Type 0) (stops : A → Bool) (start : BinaryOf) (first : A) (piece : List ℕ) (w : BinaryOf) (x : A) (i : ℕ) : Type 0 where
  pub told : (y : A) (stopped : Bool) → Gets gets stops x (said (InBinary w) (drop i piece)) y stopped → Gets gets stops first (said (InBinary start) piece) y stopped
  pub kept : after (InBinary w) (drop i piece) ≡ after (InBinary start) piece
  pub count : w.taken ≡ start.taken + i
  pub within : i ≤ length piece

module _ {A : Type 0} (gets : A → Saying → A → Type 0) (stops : A → Bool) (start : BinaryOf) (first : A) (piece : List ℕ) where
  pub left_start : Left gets stops start first piece start first 0
  left_start = record { told = λ y s h. h; kept = refl; count = omega arith; within = omega arith }

  module _ (w v : BinaryOf) (x : A) (i : ℕ) (event : Option LineKind) (h : Left gets stops start first piece w x i) (l : i < length piece)
      (r : (let t : BinaryTurn = record { to = v; event = event } in t) ≡ binary_turn w (get_or piece i 0)) where
    said_now : said (InBinary w) (drop i piece) ≡ binary_told v event ++ said (InBinary v) (drop (i + 1) piece)
    said_now = ap (said (InBinary w)) (drop_more piece i 0 l) ∙ ap (λ (t : BinaryTurn). binary_told t.to t.event ++ said (InBinary t.to) (drop (i + 1) piece)) (sym r)

    after_now : after (InBinary v) (drop (i + 1) piece) ≡ after (InBinary start) piece
    after_now = ap (λ (t : BinaryTurn). after (InBinary t.to) (drop (i + 1) piece)) r ∙ sym (ap (after (InBinary w)) (drop_more piece i 0 l)) ∙ h.kept

    count_now : v.taken ≡ start.taken + (i + 1)
    count_now = let e : v.taken ≡ w.taken + 1 = ap (λ (t : BinaryTurn). t.to.taken) r in omega (arith, e, h.count)

    pub left_quiet : event ≡ None → Left gets stops start first piece v x (i + 1)
    left_quiet n =
        let e : said (InBinary w) (drop i piece) ≡ said (InBinary v) (drop (i + 1) piece) = said_now ∙ ap (λ o. binary_told v o ++ said (InBinary v) (drop (i + 1) piece)) n in
        record { told = λ y s g. h.told y s (subst (λ z. Gets gets stops x z y s) (sym e) g); kept = after_now; count = count_now; within = omega (arith, l) }

    module _ (e : LineKind) (n : event ≡ Some e) (z : A) (g : gets x (line_said e v.place v.lits) z) where
      said_more : said (InBinary w) (drop i piece) ≡ line_said e v.place v.lits ∷ said (InBinary v) (drop (i + 1) piece)
      said_more = said_now ∙ ap (λ o. binary_told v o ++ said (InBinary v) (drop (i + 1) piece)) n

      pub left_told : stops z ≡ false → Left gets stops start first piece v z (i + 1)
      left_told f =
          record { told = λ y s k. h.told y s (subst (λ a. Gets gets stops x a y s) (sym said_more) (z, g, inr (f, k))); kept = after_now; count = count_now; within = omega (arith, l) }

      pub left_stopped : stops z ≡ true → Gets gets stops first (said (InBinary start) piece) z true
      left_stopped t = h.told z true (subst (λ a. Gets gets stops x a z true) (sym said_more) (z, g, inl (t, refl, refl)))

  pub left_told_all : (w : BinaryOf) (x : A) (i : ℕ) → Left gets stops start first piece w x i → length piece ≤ i → Gets gets stops first (said (InBinary start) piece) x false
  left_told_all w x i h l = h.told x false (subst (λ a. Gets gets stops x (said (InBinary w) a) x false) (sym (drop_all i piece l)) (refl, refl))

  pub left_kept_all : (w : BinaryOf) (x : A) (i : ℕ) → Left gets stops start first piece w x i → length piece ≤ i → (let r : FileOf = InBinary w in r) ≡ after (InBinary start) piece
  left_kept_all w x i h l = sym (ap (after (InBinary w)) (drop_all i piece l)) ∙ h.kept
