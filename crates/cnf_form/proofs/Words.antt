-- The first word after white space and comment lines is one.
use Rattle.std.proofs.Common.{◌≡◌, ◌≢◌, ℕ, ◌<◌, Bool, true, false, List, [], ◌∷◌, ◌++◌, length, get_or, refl, sym, ◌∙◌, ap, subst, inl, inr, arith}
use Rattle.std.specs.Prelude.{All}
use Rattle.std.proofs.lemmas.List.Elements.{All-head, All-tail}
use Rattle.cnf_form.specs.Dimacs.{IsFeed, IsBlank, IsSpace, IsWordByte, EndsWord, EndsLine, NextWord, Skips, stay, blank, feed, comment}

-- a run of such bytes ends here
abbrev pub Stops : (ℕ → Type 0) → List ℕ → Type 0
Stops P [] = Unit {0}
Stops P (b ∷ bs) = P b → ⊥

stops_here : (P : ℕ → Type 0) (r : List ℕ) (b : ℕ) (bs : List ℕ) → r ≡ b ∷ bs → Stops P r → P b → ⊥
stops_here P r b bs e s p = let t : P b → ⊥ = subst (Stops P) e s in t p

-- the longest run at the front is one
pub run_one : (P : ℕ → Type 0) (xs ys r s : List ℕ) → xs ++ r ≡ ys ++ s → All P xs → All P ys → Stops P r → Stops P s → (xs ≡ ys) × (r ≡ s)
run_one P [] [] r s e p q x y = (refl, e)
run_one P [] (b ∷ ys) r s e p q x y = absurd (stops_here P r b (ys ++ s) e x (All-head P b ys q))
run_one P (a ∷ xs) [] r s e p q x y = absurd (stops_here P s a (xs ++ r) (sym e) y (All-head P a xs p))
run_one P (a ∷ xs) (b ∷ ys) r s e p q x y =
    let h : a ≡ b = cc in
    let t : xs ++ r ≡ ys ++ s = cc in
    let o = run_one P xs ys r s t (All-tail P a xs p) (All-tail P b ys q) x y in
    (ap (λ z. z ∷ xs) h ∙ ap (λ z. b ∷ z) o.0, o.1)

word_stops : (w r : List ℕ) → 0 < length w → All IsWordByte w → Stops IsSpace (w ++ r)
word_stops [] r h v = absurd (omega arith)
word_stops (b ∷ w) r h v = All-head IsWordByte b w v

ends_stops : (r : List ℕ) → EndsWord r → Stops IsWordByte r
ends_stops [] h = tt
ends_stops (b ∷ r) h = λ n. n h

pub line_stops : (r : List ℕ) → EndsLine r → Stops (λ b. b ≢ 10) r
line_stops [] h = tt
line_stops (b ∷ r) h = λ n. n h

pub NextWord-one : {bytes w r w' r' : List ℕ} → NextWord bytes w r → NextWord bytes w' r' → (w ≡ w') × (r ≡ r')
NextWord-one {w = w} {r = r} {w' = w'} {r' = r'} n n' =
    let g = run_one IsSpace n.gap n'.gap (w ++ r) (w' ++ r') (sym n.split ∙ n'.split) n.blank n'.blank (word_stops w r n.some n.visible) (word_stops w' r' n'.some n'.visible) in
    run_one IsWordByte w w' r r' g.1 n.visible n'.visible (ends_stops r n.ends) (ends_stops r' n'.ends)

pub NextWord-nil : {w r : List ℕ} → NextWord [] w r → ⊥
NextWord-nil {w} {r} n = nothing n.gap w n.split n.some
  where
    nothing : (gap w : List ℕ) → [] ≡ gap ++ (w ++ r) → 0 < length w → ⊥
    nothing [] [] e h = omega arith
    nothing [] (b ∷ w) e h = cc
    nothing (b ∷ gap) w e h = cc

pub NextWord-after_space : {b : ℕ} {bytes w r : List ℕ} → IsSpace b → NextWord (b ∷ bytes) w r → NextWord bytes w r
NextWord-after_space {b} {bytes} {w} {r} h n =
    let p = shorter n.gap n.split n.blank in
    record { gap = p.0; split = p.1; blank = p.2; some = n.some; visible = n.visible; ends = n.ends }
  where
    shorter : (gap : List ℕ) → b ∷ bytes ≡ gap ++ (w ++ r) → All IsSpace gap → (g : List ℕ) × (bytes ≡ g ++ (w ++ r)) × All IsSpace g
    shorter [] e v = absurd (stops_here IsSpace (w ++ r) b bytes (sym e) (word_stops w r n.some n.visible) h)
    shorter (x ∷ g) e v = (g, (cc), All-tail IsSpace x g v)

pub c_no_space : IsSpace 99 → ⊥
c_no_space (inl e) = omega arith
c_no_space (inr (inl e)) = omega arith
c_no_space (inr (inr (inl e))) = omega arith
c_no_space (inr (inr (inr e))) = omega arith

-- a word at the front of a comment begins with c
pub NextWord-at_c : {bytes w r tail : List ℕ} → NextWord bytes w r → bytes ≡ 99 ∷ tail → get_or w 0 0 ≡ 99
NextWord-at_c {bytes} {w} {r} {tail} n e = first n.gap w (sym e ∙ n.split) n.blank n.some
  where
    first : (gap w : List ℕ) → 99 ∷ tail ≡ gap ++ (w ++ r) → All IsSpace gap → 0 < length w → get_or w 0 0 ≡ 99
    first [] [] e v h = absurd (omega arith)
    first [] (b ∷ w) e v h = let s : 99 ≡ b = cc in sym s
    first (x ∷ g) w e v h = let s : x ≡ 99 = cc in absurd (c_no_space (subst IsSpace s (All-head IsSpace x g v)))

-- what may stand after white space and comment lines, and is looked for there
pub record IsTarget (T : List ℕ → Type 0) : Type 0 where
  pub after_space : (b : ℕ) (bytes : List ℕ) → IsSpace b → T (b ∷ bytes) → T bytes
  pub no_comment : (bytes tail : List ℕ) → bytes ≡ 99 ∷ tail → T bytes → ⊥

pub end_is_target : IsTarget (λ z. z ≡ [])
end_is_target = record { after_space = λ b bytes h e. absurd (cc e); no_comment = λ bytes tail e h. cc }

pub word_is_target : (w r : List ℕ) → get_or w 0 0 ≢ 99 → IsTarget (λ z. NextWord z w r)
word_is_target w r h = record {
  after_space = λ b bytes s n. NextWord-after_space s n;
  no_comment = λ bytes tail e n. h (NextWord-at_c n e);
}

module _ (T : List ℕ → Type 0) (target : IsTarget T) where
  -- what is not passed over is reached
  carried : {fresh : Bool} {bytes rest : List ℕ} → Skips fresh bytes rest → T bytes → T rest
  carried (stay f z) t = t
  carried (blank f b z rest h s) t = carried s (target.after_space b z (inr h) t)
  carried (feed f b z rest h s) t = carried s (target.after_space b z (inl h) t)
  carried (comment text after rest z e clean ends s) t = absurd (target.no_comment z (text ++ after) e t)

  abbrev Reaches : Bool → List ℕ → Type 0
  Reaches fresh bytes = (z : List ℕ) × Skips fresh bytes z × T z

  apart : (b : ℕ) → IsBlank b → IsFeed b → ⊥
  apart b (inl e) f = omega arith
  apart b (inr (inl e)) f = omega arith
  apart b (inr (inr e)) f = omega arith

  after_blank : {fresh : Bool} {b : ℕ} {bytes z : List ℕ} → IsBlank b → Skips fresh (b ∷ bytes) z → T z → Reaches fresh bytes
  after_blank {fresh} {b} {bytes} h (stay f z) t = (bytes, stay fresh bytes, target.after_space b bytes (inr h) t)
  after_blank h (blank f b z rest k s) t = (rest, s, t)
  after_blank h (feed f b z rest k s) t = absurd (apart b h k)
  after_blank {b = b} h (comment text after rest z e clean ends s) t = absurd (c_no_space (let d : b ≡ 99 = cc in subst IsSpace d (inr h)))

  after_feed : {fresh : Bool} {b : ℕ} {bytes z : List ℕ} → IsFeed b → Skips fresh (b ∷ bytes) z → T z → Reaches true bytes
  after_feed {fresh} {b} {bytes} h (stay f z) t = (bytes, stay true bytes, target.after_space b bytes (inl h) t)
  after_feed h (blank f b z rest k s) t = absurd (apart b k h)
  after_feed h (feed f b z rest k s) t = (rest, s, t)
  after_feed {b = b} h (comment text after rest z e clean ends s) t = absurd (c_no_space (let d : b ≡ 99 = cc in subst IsSpace d (inl h)))

  after_comment : {fresh : Bool} {bytes z : List ℕ} (text after : List ℕ) → bytes ≡ 99 ∷ (text ++ after) → All (λ b. b ≢ 10) text → EndsLine after → Skips fresh bytes z → T z → Reaches false after
  after_comment text after e clean ends (stay f z) t = absurd (target.no_comment z (text ++ after) e t)
  after_comment text after e clean ends (blank f b z rest k s) t = absurd (c_no_space (let d : b ≡ 99 = cc in subst IsSpace d (inr k)))
  after_comment text after e clean ends (feed f b z rest k s) t = absurd (c_no_space (let d : b ≡ 99 = cc in subst IsSpace d (inl k)))
  after_comment text after e clean ends (comment text' after' rest z e' clean' ends' s) t =
      let d : text' ++ after' ≡ text ++ after = cc in
      let o = run_one (λ b. b ≢ 10) text' text after' after d clean' clean (line_stops after' ends') (line_stops after ends) in
      (rest, subst (λ y. Skips false y rest) o.1 s, t)

-- two targets that are reached stand at one place
pub meet : (T T' : List ℕ → Type 0) → IsTarget T → IsTarget T' → {fresh : Bool} {bytes z z' : List ℕ} → Skips fresh bytes z → T z → Skips fresh bytes z' → T' z' → (y : List ℕ) × T y × T' y
meet T T' a a' {z' = z'} (stay f bytes) t s' t' = (z', carried T a s' t, t')
meet T T' a a' (blank f b bytes rest h s) t s' t' = let r = after_blank T' a' h s' t' in meet T T' a a' s t r.1 r.2
meet T T' a a' (feed f b bytes rest h s) t s' t' = let r = after_feed T' a' h s' t' in meet T T' a a' s t r.1 r.2
meet T T' a a' (comment text after rest bytes e clean ends s) t s' t' = let r = after_comment T' a' text after e clean ends s' t' in meet T T' a a' s t r.1 r.2
