-- The loop over a piece.
use Rattle.std.proofs.Common.{◌≡◌, ℕ, ◌+◌, ◌≤◌, Bool, true, false, List, [], ◌∷◌, ◌++◌, length, take, drop, refl, ap, sym, ◌∙◌, inl, inr, arith, subst, take-append-drop}
use Rattle.std.proofs.lemmas.List.{drop-drop, drop_all, length-drop, length-take-le}
use Rattle.cert_stream.specs.Telling.{Gets, Saying}
use Rattle.cert_stream.proofs.Cutting.{gets_append}
use Rattle.inv_stream.specs.Machine.{InvOf, InvSaying, kept_back, taken, turn, turn_by}
use Rattle.inv_stream.specs.Taking.{IsTaken, turns}
use Rattle.inv_stream.specs.Telling.{Hears, after, said}
use Rattle.inv_stream.specs.declared.mode.InvFault.{InvFault}
use Rattle.inv_stream.specs.declared.mode.Line.{Line}
use Rattle.inv_stream.specs.declared.mode.Line.TheVariants.{Start, Letter, Word, Named, Inside, Refused, Lost}
use Rattle.inv_stream.proofs.Counting.{Counts, turn_counts}
use Rattle.inv_stream.proofs.Cutting.{after_append, gets_stopped, said_append}

counted_few : (n : ℕ) (v : InvOf) → Counts n v → taken v ≤ n
counted_few n v (inl e) = omega arith
counted_few n v (inr (f, e, l)) = let k : taken v ≡ v.parser.taken + 0 = ap (λ (line : Line). v.parser.taken + kept_back line) e in omega arith

few : (w : InvOf) (b : ℕ) → ((f : InvFault) → w.line ≡ Refused f → ⊥) → (w.line ≡ Lost → ⊥) → taken (turn w b).to ≤ taken w + 1
few w b r l = counted_few (taken w + 1) (turn w b).to (turn_counts w b r l)

-- a byte counts at most once
turn_few : (w : InvOf) (line : Line) (b : ℕ) → w.line ≡ line → taken (turn w b).to ≤ taken w + 1
turn_few w Start b e = few w b (λ f r. cc) (λ l. cc)
turn_few w Letter b e = few w b (λ f r. cc) (λ l. cc)
turn_few w (Word s) b e = few w b (λ f r. cc) (λ l. cc)
turn_few w (Named part) b e = few w b (λ f r. cc) (λ l. cc)
turn_few w Inside b e = few w b (λ f r. cc) (λ l. cc)
turn_few w (Refused f) b e = let k : (turn w b).to ≡ w = ap (λ (line : Line). (turn_by w line b).to) e in let n = ap taken k in omega arith
turn_few w Lost b e = let k : (turn w b).to ≡ w = ap (λ (line : Line). (turn_by w line b).to) e in let n = ap taken k in omega arith

pub after_few : (w : InvOf) (bytes : List ℕ) → taken (after w bytes) ≤ taken w + length bytes
after_few w [] = omega arith
after_few w (b ∷ bytes) = let n = turn_few w w.line b refl in let m = after_few (turn w b).to bytes in omega arith

-- what is still to come of the piece, from the parser w and the receiver x on, makes the whole of it
pub record Left {A : Type 0} (gets : A → Saying → A → Type 0) (parts : A → ℕ → A → Type 0) (stops : A → Bool) (start : InvOf) (first : A) (piece : List ℕ) (w : InvOf) (x : A) (i : ℕ) : Type 0 where
  pub told : (y : A) (stopped : Bool) → Gets (Hears gets parts) stops x (said w (drop i piece)) y stopped → Gets (Hears gets parts) stops first (said start piece) y stopped
  pub kept : after w (drop i piece) ≡ after start piece
  pub count : taken w ≤ taken start + i
  pub within : i ≤ length piece

module _ {A : Type 0} (gets : A → Saying → A → Type 0) (parts : A → ℕ → A → Type 0) (stops : A → Bool) (start : InvOf) (first : A) (piece : List ℕ) where
  pub left_start : Left gets parts stops start first piece start first 0
  left_start = record { told = λ y s h. h; kept = refl; count = omega arith; within = omega arith }

  module _ (w v : InvOf) (x z : A) (i n : ℕ) (stopped : Bool) (h : Left gets parts stops start first piece w x i) (l : i + n ≤ length piece)
      (t : IsTaken gets parts stops (turns w (take n (drop i piece))) x z v stopped) where
    parted : drop i piece ≡ take n (drop i piece) ++ drop (i + n) piece
    parted = sym (take-append-drop n (drop i piece)) ∙ ap (λ (z : List ℕ). take n (drop i piece) ++ z) (drop-drop n i piece)

    said_parted : said w (drop i piece) ≡ said w (take n (drop i piece)) ++ said (after w (take n (drop i piece))) (drop (i + n) piece)
    said_parted = ap (said w) parted ∙ said_append w (take n (drop i piece)) (drop (i + n) piece)

    pub left_stopped : stopped ≡ true → Gets (Hears gets parts) stops first (said start piece) z true
    left_stopped e = h.told z true (subst (λ (ss : List InvSaying). Gets (Hears gets parts) stops x ss z true) (sym said_parted)
        (gets_stopped (Hears gets parts) stops x z (said w (take n (drop i piece))) (said (after w (take n (drop i piece))) (drop (i + n) piece))
        (subst (λ (s : Bool). Gets (Hears gets parts) stops x (said w (take n (drop i piece))) z s) e t.told)))

    pub left_on : stopped ≡ false → Left gets parts stops start first piece v z (i + n)
    left_on e =
        let same : v ≡ after w (take n (drop i piece)) = t.kept e in
        record {
          told = λ y s g. h.told y s (subst (λ (ss : List InvSaying). Gets (Hears gets parts) stops x ss y s) (sym said_parted)
              (gets_append (Hears gets parts) stops x z y (said w (take n (drop i piece))) (said (after w (take n (drop i piece))) (drop (i + n) piece)) s
              (subst (λ (b : Bool). Gets (Hears gets parts) stops x (said w (take n (drop i piece))) z b) e t.told)
              (subst (λ (u : InvOf). Gets (Hears gets parts) stops z (said u (drop (i + n) piece)) y s) same g)));
          kept = ap (λ (u : InvOf). after u (drop (i + n) piece)) same ∙ sym (after_append w (take n (drop i piece)) (drop (i + n) piece)) ∙ ap (after w) (sym parted) ∙ h.kept;
          count =
              let few = after_few w (take n (drop i piece)) in
              let size = length-take-le n (drop i piece) (let d = length-drop i piece in omega arith) in
              let is = ap taken same in
              let before = h.count in
              omega arith;
          within = l;
        }

  pub left_told_all : (w : InvOf) (x : A) (i : ℕ) → Left gets parts stops start first piece w x i → length piece ≤ i → Gets (Hears gets parts) stops first (said start piece) x false
  left_told_all w x i h l = h.told x false (subst (λ (a : List ℕ). Gets (Hears gets parts) stops x (said w a) x false) (sym (drop_all i piece l)) (refl, refl))

  pub left_kept_all : (w : InvOf) (x : A) (i : ℕ) → Left gets parts stops start first piece w x i → length piece ≤ i → w ≡ after start piece
  left_kept_all w x i h l = sym (ap (after w) (drop_all i piece l)) ∙ h.kept
