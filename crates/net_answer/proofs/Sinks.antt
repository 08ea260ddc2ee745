-- An answer in the making.
use Rattle.std.proofs.Common.{◌≡◌, inl, inr, ℕ, zero, suc, ◌+◌, ◌-◌, ◌<◌, ◌≤◌, List, [], ◌∷◌, ◌++◌, length, take, drop, Some, None, Ok, Err, refl, sym, ap, ◌∙◌, subst, arith}
use Rattle.std.specs.Prelude.{Option, IfSome, OnOk, Result, option_map}
use Rattle.std.specs.Int.{w32, to_be_bytes, from_be_bytes}
use Rattle.std.proofs.lemmas.Nat.{from_be_bytes-to_be_bytes_4}
use Rattle.std.proofs.lemmas.List.{append_assoc, append-nil, take-append-drop, take_all}
use Rattle.net_link.specs.Frame.{Stage, Sizing, Inside, Pieces, all_framed, framed, joined, mark, payload, sized}
use Rattle.net_link.specs.Link.{Grew}
use Rattle.net_answer.specs.Sent.{Ends, IsAnswered, HoldsSo, Sends, Stands, answered}
use Rattle.net_answer.proofs.Answers.{sized_in, snoc_framed, snoc_full, snoc_joined, whole_read}

inside_front : (n : ℕ) (l : List ℕ) → length l ≤ suc n → payload (Inside n) l ≡ l
inside_front n [] h = refl
inside_front zero (x ∷ []) h = refl
inside_front zero (x ∷ y ∷ ys) h = absurd (omega arith)
inside_front (suc n) (x ∷ xs) h = ap (λ (t : List ℕ). x ∷ t) (inside_front n xs (omega arith))

length_take : (n : ℕ) (l : List ℕ) → length (take n l) ≤ length l
length_take zero l = omega arith
length_take (suc n) [] = omega arith
length_take (suc n) (x ∷ xs) = let h = length_take n xs in omega arith

-- what a reader has got of a piece of which `sent` bytes were sent
got_of : (sent : ℕ) (body : List ℕ) → length body ≡ 65536 → payload (Sizing []) (take sent (framed body)) ≡ take (sent - 4) body
got_of zero body e = refl
got_of (suc zero) body e = refl
got_of (suc (suc zero)) body e = refl
got_of (suc (suc (suc zero))) body e = refl
got_of (suc (suc (suc (suc k)))) body e =
    let size : from_be_bytes w32 (to_be_bytes w32 (length body)) ≡ length body = from_be_bytes-to_be_bytes_4 (length body) (omega arith) in
    let n : k ≡ suc (suc (suc (suc k))) - 4 = omega arith in
    let few = length_take k body in
    ap (λ (s : ℕ). payload (sized s) (take k body)) size ∙ ap (λ (s : Stage). payload s (take k body)) (sized_in (length body) (omega arith) (omega arith))
    ∙ inside_front (length body - 1) (take k body) (omega arith) ∙ ap (λ (j : ℕ). take j body) n

-- the stream so far, by the pieces on the link
told_is : (w body : List ℕ) (sent : ℕ) (s : Stands w body sent) → payload (Sizing []) w ++ drop (sent - 4) body ≡ joined s.pieces ++ body
told_is w body zero s =
    ap (λ (l : List ℕ). payload (Sizing []) l ++ body) s.written_is ∙ ap (λ (l : List ℕ). l ++ body) (whole_read s.pieces [] s.full ∙ append-nil (joined s.pieces))
told_is w body (suc sent) s =
    let full = s.begun (omega arith) in
    ap (λ (l : List ℕ). payload (Sizing []) l ++ drop (suc sent - 4) body) s.written_is
    ∙ ap (λ (l : List ℕ). l ++ drop (suc sent - 4) body) (whole_read s.pieces (take (suc sent) (framed body)) s.full ∙ ap (λ (l : List ℕ). joined s.pieces ++ l) (got_of (suc sent) body full))
    ∙ append_assoc (joined s.pieces) (take (suc sent - 4) body) (drop (suc sent - 4) body)
    ∙ ap (λ (l : List ℕ). joined s.pieces ++ l) (take-append-drop (suc sent - 4) body)

grown_stands : (w body more : List ℕ) (sent now : ℕ) → Stands w body sent → length body ≡ 65536 → take now (framed body) ≡ take sent (framed body) ++ more → Stands (w ++ more) body now
grown_stands w body more sent now h full e = record {
  pieces = h.pieces;
  full = h.full;
  written_is = ap (λ (l : List ℕ). l ++ more) h.written_is ∙ append_assoc (all_framed h.pieces) (take sent (framed body)) more ∙ ap (λ (l : List ℕ). all_framed h.pieces ++ l) (sym e);
  begun = λ _. full;
}

-- sent on, up to here
pub sent_some : (a b : Option (List ℕ)) (body : List ℕ) (sent now : ℕ) → HoldsSo a body sent → length body ≡ 65536 → Sends a b (framed body) sent now → HoldsSo b body now
sent_some None b body sent now h full s = subst (λ (o : Option (List ℕ)). HoldsSo o body now) (sym s.1) tt
sent_some (Some w) b body sent now h full s = subst (λ (o : Option (List ℕ)). HoldsSo o body now) (sym s.1) (grown_stands w body s.0 sent now h full s.2)

-- and whole: the next piece begins
pub sent_all : (a : Option (List ℕ)) (body : List ℕ) (sent : ℕ) → HoldsSo a body sent → length body ≡ 65536 → sent ≡ 4 + length body → HoldsSo a [] 0
sent_all None body sent h full e = tt
sent_all (Some w) body sent h full e = record {
  pieces = h.pieces ++ body ∷ [];
  full = snoc_full h.pieces body h.full full;
  written_is = h.written_is ∙ ap (λ (l : List ℕ). all_framed h.pieces ++ l) (take_all sent (framed body) (omega arith)) ∙ sym (snoc_framed h.pieces body) ∙ sym (append-nil (all_framed (h.pieces ++ body ∷ [])));
  begun = λ p. absurd (omega arith);
}

pub told_all : (a : Option (List ℕ)) (body : List ℕ) (sent : ℕ) → HoldsSo a body sent → length body ≡ 65536 → sent ≡ 4 + length body → answered a [] 0 ≡ answered a body sent
unfolding sent_all
told_all None body sent h full e = refl
told_all (Some w) body sent h full e =
    ap (λ (l : List ℕ). Some l) (told_is w [] 0 (sent_all (Some w) body sent h full e) ∙ append-nil (joined (h.pieces ++ body ∷ [])) ∙ snoc_joined h.pieces body ∙ sym (told_is w body sent h))

pub told_some : (a b : Option (List ℕ)) (body : List ℕ) (sent now : ℕ) → HoldsSo a body sent → length body ≡ 65536 → Sends a b (framed body) sent now → answered b body now ≡ answered a body sent
unfolding grown_stands
told_some None b body sent now h full s = ap (λ (o : Option (List ℕ)). answered o body now) s.1
told_some (Some w) b body sent now h full s =
    ap (λ (o : Option (List ℕ)). answered o body now) s.1 ∙ ap (λ (l : List ℕ). Some l) (told_is (w ++ s.0) body now (grown_stands w body s.0 sent now h full s.2) ∙ sym (told_is w body sent h))

-- a piece that isn't begun takes more
pub holds_more : (a : Option (List ℕ)) (body more : List ℕ) → HoldsSo a body 0 → HoldsSo a (body ++ more) 0
holds_more None body more h = tt
holds_more (Some w) body more h = record { pieces = h.pieces; full = h.full; written_is = h.written_is; begun = λ p. absurd (omega arith) }

pub told_more : (a : Option (List ℕ)) (body more : List ℕ) → answered a (body ++ more) 0 ≡ option_map (λ t. t ++ more) (answered a body 0)
told_more None body more = refl
told_more (Some w) body more = ap (λ (l : List ℕ). Some l) (sym (append_assoc (payload (Sizing []) w) body more))

pub holds_none : (a : Option (List ℕ)) → IfSome a (λ w. w ≡ []) → HoldsSo a [] 0
holds_none None e = tt
holds_none (Some w) e = record { pieces = []; full = tt; written_is = e; begun = λ p. absurd (omega arith) }

pub told_none : (a : Option (List ℕ)) → IfSome a (λ w. w ≡ []) → answered a [] 0 ≡ option_map (λ _. []) a
told_none None e = refl
told_none (Some w) e = ap (λ (l : List ℕ). Some (payload (Sizing []) l ++ [])) e

-- a piece that has room takes more
pub gathered_holds : (a : Option (List ℕ)) (body more : List ℕ) (sent : ℕ) → HoldsSo a body sent → (0 < sent → length body ≡ 65536) → length body < 65536 → HoldsSo a (body ++ more) sent
gathered_holds a body more zero h full room = holds_more a body more h
gathered_holds a body more (suc sent) h full room = absurd (let e = full (omega arith) in omega arith)

pub gathered_told : (a : Option (List ℕ)) (body more : List ℕ) (sent : ℕ) → (0 < sent → length body ≡ 65536) → length body < 65536 → answered a (body ++ more) sent ≡ option_map (λ t. t ++ more) (answered a body sent)
gathered_told a body more zero full room = told_more a body more
gathered_told a body more (suc sent) full room = absurd (let e = full (omega arith) in omega arith)

pub ends_empty : (a c : Option (List ℕ)) (body : List ℕ) (sent : ℕ) → length body ≡ 0 → Grew a c mark → Ends a c body sent
ends_empty a c body sent none g = inl (none, g)

pub ends_full : (a b c : Option (List ℕ)) (body : List ℕ) (sent now : ℕ) → 0 < length body → Sends a b (framed body) sent now → now ≡ 4 + length body → Grew b c mark → Ends a c body sent
ends_full a b c body sent now some s all g = inr (some, (b, subst (Sends a b (framed body) sent) all s, g))

whole_empty : (w body : List ℕ) (c : Option (List ℕ)) (sent : ℕ) → Stands w body sent → length body ≡ 0 → Grew (Some w) c mark → (bytes : List ℕ) × Pieces (payload (Sizing []) w ++ drop (sent - 4) body) bytes × (c ≡ Some bytes)
whole_empty w [] c zero h none g = (
  w ++ mark,
  record {
    whole = h.pieces;
    last = [];
    full = h.full;
    fits = omega arith;
    stream_is = told_is w [] zero h;
    bytes_are = ap (λ (l : List ℕ). l ++ mark) (h.written_is ∙ append-nil (all_framed h.pieces));
  },
  g,
)
whole_empty w [] c (suc sent) h none g = absurd (let e = h.begun (omega arith) in omega arith)
whole_empty w (x ∷ xs) c sent h none g = absurd (omega arith)

whole_full : (w body : List ℕ) (b c : Option (List ℕ)) (sent : ℕ) → Stands w body sent → 0 < length body → length body ≤ 65536 → Sends (Some w) b (framed body) sent (4 + length body) → Grew b c mark → (bytes : List ℕ) × Pieces (payload (Sizing []) w ++ drop (sent - 4) body) bytes × (c ≡ Some bytes)
whole_full w [] b c sent h some fits s g = absurd (omega arith)
whole_full w (x ∷ xs) b c sent h some fits s g =
    let body : List ℕ = x ∷ xs in
    let all : take (4 + length body) (framed body) ≡ framed body = take_all (4 + length body) (framed body) (omega arith) in
    let more : w ++ s.0 ≡ all_framed h.pieces ++ framed body = ap (λ (l : List ℕ). l ++ s.0) h.written_is ∙ append_assoc (all_framed h.pieces) (take sent (framed body)) s.0 ∙ ap (λ (l : List ℕ). all_framed h.pieces ++ l) (sym s.2 ∙ all) in (
      (w ++ s.0) ++ mark,
      record {
        whole = h.pieces;
        last = body;
        full = h.full;
        fits = fits;
        stream_is = told_is w body sent h;
        bytes_are = ap (λ (l : List ℕ). l ++ mark) more ∙ append_assoc (all_framed h.pieces) (framed body) mark;
      },
      g ∙ ap (option_map (λ (l : List ℕ). l ++ mark)) s.1,
    )

untold : (b c : Option (List ℕ)) (text more : List ℕ) → Grew None b text → Grew b c more → c ≡ None
untold b c text more f g = g ∙ ap (option_map (λ (w : List ℕ). w ++ more)) f

pub ends_whole : (a c : Option (List ℕ)) (body : List ℕ) (sent : ℕ) → HoldsSo a body sent → length body ≤ 65536 → Ends a c body sent → IsAnswered (answered a body sent) c
ends_whole None c body sent h fits (inl e) = e.1
ends_whole None c body sent h fits (inr e) = untold e.1.0 c e.1.1.0 mark e.1.1.1 e.1.2
ends_whole (Some w) c body sent h fits (inl e) = whole_empty w body c sent h e.0 e.1
ends_whole (Some w) c body sent h fits (inr e) = whole_full w body e.1.0 c sent h e.0 fits e.1.1 e.1.2

pub ends_told : (T E : Type 0) (r : Result T E) (a c told : Option (List ℕ)) (body : List ℕ) (sent : ℕ) → HoldsSo a body sent → length body ≤ 65536 → answered a body sent ≡ told → OnOk r (Ends a c body sent) → OnOk r (IsAnswered told c)
ends_told T E (Ok x) a c told body sent h fits is e = subst (λ (o : Option (List ℕ)). IsAnswered o c) is (ends_whole a c body sent h fits e)
ends_told T E (Err x) a c told body sent h fits is e = tt
