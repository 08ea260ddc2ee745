-- The gap before a word, found byte by byte.
use Rattle.std.proofs.Common.{◌≡◌, ◌≢◌, ℕ, ◌+◌, ◌-◌, ◌<◌, ◌≤◌, Bool, true, false, List, [], ◌∷◌, ◌++◌, length, take, drop, get_or, refl, ap, sym, ◌∙◌, subst, inl, inr, arith, add-one, drop-cons, length-drop, length-take-le, drop-drop}
use Rattle.std.specs.Prelude.{All}
use Rattle.std.proofs.lemmas.List.{take_all, drop_all, take-append-drop}
use Rattle.cnf_form.specs.Dimacs.{IsSpace, IsWordByte, EndsWord, EndsLine}
use Rattle.cnf_form.specs.Reading.{Gap, over, visible, blank, feed, comment, Parts}

pub slice_to_end : (xs : List ℕ) (i : ℕ) → take (length xs - i) (drop i xs) ≡ drop i xs
slice_to_end xs i = take_all (length xs - i) (drop i xs) (omega (arith, length-drop i xs))

module _ (comments : Bool) (bytes : List ℕ) (at : ℕ) (room : at < length bytes) where
  here : drop at bytes ≡ get_or bytes at 0 ∷ drop (at + 1) bytes
  here = rw (add-one, drop-cons bytes at 0 room) refl

  pub gap_visible : (fresh : Bool) → IsWordByte (get_or bytes at 0) → (fresh ≡ true → get_or bytes at 0 ≢ 99) → Gap comments fresh (drop at bytes) (drop at bytes)
  gap_visible fresh w f = subst (λ z. Gap comments fresh z z) (sym here) (visible fresh (get_or bytes at 0) (drop (at + 1) bytes) w f)

  pub comment_room : (n : ℕ) → n ≤ length (take (length bytes - (at + 1)) (drop (at + 1) bytes)) → at + n + 1 ≤ length bytes
  comment_room n h = let e = ap length (slice_to_end bytes (at + 1)) in omega (arith, e, h, length-drop (at + 1) bytes)

  pub gap_feed : (fresh : Bool) (rest : List ℕ) → get_or bytes at 0 ≡ 10 → Gap comments comments (drop (at + 1) bytes) rest → Gap comments fresh (drop at bytes) rest
  gap_feed fresh rest e g = subst (λ z. Gap comments fresh z rest) (sym here) (feed fresh (get_or bytes at 0) (drop (at + 1) bytes) rest e g)

  pub gap_blank : (fresh : Bool) (rest : List ℕ) → IsSpace (get_or bytes at 0) → get_or bytes at 0 ≢ 10 → Gap comments fresh (drop (at + 1) bytes) rest → Gap comments fresh (drop at bytes) rest
  gap_blank fresh rest (inl e) d g = absurd (d e)
  gap_blank fresh rest (inr e) d g = subst (λ z. Gap comments fresh z rest) (sym here) (blank fresh (get_or bytes at 0) (drop (at + 1) bytes) rest e g)

  pub gap_comment : (n : ℕ) (rest : List ℕ) → get_or bytes at 0 ≡ 99 → All (λ b. b ≢ 10) (take n (take (length bytes - (at + 1)) (drop (at + 1) bytes))) → EndsLine (drop n (take (length bytes - (at + 1)) (drop (at + 1) bytes)))
      → Gap comments false (drop (at + n + 1) bytes) rest → Gap comments true (drop at bytes) rest
  gap_comment n rest e clean ends g =
      let line : List ℕ = drop (at + 1) bytes in
      let same = slice_to_end bytes (at + 1) in
      let after : drop n line ≡ drop (at + n + 1) bytes = drop-drop n (at + 1) bytes ∙ ap (λ k. drop k bytes) (omega arith) in
      comment (drop at bytes) (take n line) (drop n line) rest (here ∙ ap (λ b. b ∷ line) e ∙ ap (λ z. 99 ∷ z) (sym (take-append-drop n line)))
      (subst (λ z. All (λ b. b ≢ 10) (take n z)) same clean) (subst (λ z. EndsLine (drop n z)) same ends) (subst (λ z. Gap comments false z rest) (sym after) g)

pub gap_over : (comments fresh : Bool) (bytes : List ℕ) (at : ℕ) → length bytes ≤ at → Gap comments fresh (drop at bytes) (drop at bytes)
gap_over comments fresh bytes at h = subst (λ z. Gap comments fresh z z) (sym (drop_all at bytes h)) (over fresh)

-- after a gap a word begins, or the text ends
abbrev pub Begins : List ℕ → Type 0
Begins [] = Unit {0}
Begins (b ∷ bs) = IsWordByte b

pub gap_begins : {comments fresh : Bool} {bytes rest : List ℕ} → Gap comments fresh bytes rest → Begins rest
gap_begins (over fresh) = tt
gap_begins (visible fresh b bytes w f) = w
gap_begins (blank fresh b bytes rest h g) = gap_begins g
gap_begins (feed fresh b bytes rest h g) = gap_begins g
gap_begins (comment bytes text after rest e clean ends g) = gap_begins g

nothing_between : (front : List ℕ) → Begins front → EndsWord front → front ≡ []
nothing_between [] h e = refl
nothing_between (b ∷ bs) h e = absurd (h e)

pub parts_of : (comments fresh : Bool) (bytes front : List ℕ) (n : ℕ) → Gap comments fresh bytes front → n ≤ length front → All IsWordByte (take n front) → EndsWord (drop n front)
    → Parts front (take n front) (take (length front - n) (drop n front))
parts_of comments fresh bytes front n g h w e = record {
  split = sym (take-append-drop n front) ∙ ap (λ z. take n front ++ z) (sym (slice_to_end front n));
  plain = w;
  ends = subst EndsWord (sym (slice_to_end front n)) e;
  none = λ z. nothing_between front (gap_begins g) (let k : n ≡ 0 = omega (arith, length-take-le n front h, z) in subst (λ m. EndsWord (drop m front)) k e);
}
