-- An answer, as its reader reads it.
use Rattle.std.proofs.Common.{◌≡◌, ℕ, zero, suc, ◌+◌, ◌-◌, ◌<◌, ◌≤◌, List, [], ◌∷◌, ◌++◌, length, false, refl, sym, ap, ◌∙◌, subst, arith}
use Rattle.std.specs.Prelude.{◌==◌, nat_lt}
use Rattle.std.specs.Int.{w32, to_be_bytes, from_be_bytes}
use Rattle.std.proofs.lemmas.Nat.{from_be_bytes-to_be_bytes_4}
use Rattle.std.proofs.lemmas.Bool.Decides.{nat_tests}
use Rattle.std.proofs.Math.Seq.{take-add, drop-append-add}
use Rattle.std.proofs.lemmas.List.{append_assoc, append-nil, take-append-drop, take-append-le, length-drop}
use Rattle.std.proofs.Common.{take, drop, Ok, Err}
use Rattle.std.specs.Prelude.{Option, Result, OnOk}
use Rattle.net_answer.specs.Written.{Wrote, WroteWhole}
use Rattle.net_answer.specs.Sent.{Sends}
use Rattle.net_link.specs.Link.{Grew}
use Rattle.net_link.proofs.Written.{grew_none, grew_both}
use Rattle.net_link.specs.Frame.{AreFull, Stage, Sizing, Inside, Pieces, all_framed, ending, framed, joined, mark, payload, sized}

pub sized_in : (n : ℕ) → 0 < n → n ≤ 65536 → sized n ≡ Inside (n - 1)
sized_in n low high =
    let t : (n == 0) ≡ false = grind (arith, nat_tests) in
    let u : nat_lt 65536 n ≡ false = grind (arith, nat_tests) in
    rw (t, u) refl

pub inside_whole : (n : ℕ) (p rest : List ℕ) → length p ≡ suc n → payload (Inside n) (p ++ rest) ≡ p ++ payload (Sizing []) rest
inside_whole n [] rest e = absurd (omega arith)
inside_whole zero (x ∷ []) rest e = refl
inside_whole zero (x ∷ y ∷ ys) rest e = absurd (omega arith)
inside_whole (suc n) (x ∷ xs) rest e = ap (λ (t : List ℕ). x ∷ t) (inside_whole n xs rest (omega arith))

pub framed_read : (p rest : List ℕ) → 0 < length p → length p ≤ 65536 → payload (Sizing []) (framed p ++ rest) ≡ p ++ payload (Sizing []) rest
framed_read p rest low high =
    let size : from_be_bytes w32 (to_be_bytes w32 (length p)) ≡ length p = from_be_bytes-to_be_bytes_4 (length p) (omega arith) in
    let n : length p ≡ suc (length p - 1) = omega arith in
    ap (λ (k : ℕ). payload (sized k) (p ++ rest)) size ∙ ap (λ (s : Stage). payload s (p ++ rest)) (sized_in (length p) low high) ∙ inside_whole (length p - 1) p rest n

pub whole_read : (ps : List (List ℕ)) (rest : List ℕ) → AreFull ps → payload (Sizing []) (all_framed ps ++ rest) ≡ joined ps ++ payload (Sizing []) rest
whole_read [] rest full = refl
whole_read (p ∷ ps) rest full =
    ap (payload (Sizing [])) (append_assoc (framed p) (all_framed ps) rest)
    ∙ framed_read p (all_framed ps ++ rest) (let e = full.0 in omega arith) (let e = full.0 in omega arith)
    ∙ ap (λ (t : List ℕ). p ++ t) (whole_read ps rest full.1)
    ∙ sym (append_assoc p (joined ps) (payload (Sizing []) rest))

ending_read : (last : List ℕ) → length last ≤ 65536 → payload (Sizing []) (ending last) ≡ last
ending_read [] high = refl
ending_read (b ∷ bs) high = framed_read (b ∷ bs) mark (omega arith) high ∙ append-nil (b ∷ bs)

pub answer_read : (stream bytes : List ℕ) → Pieces stream bytes → payload (Sizing []) bytes ≡ stream
answer_read stream bytes p =
    ap (payload (Sizing [])) p.bytes_are ∙ whole_read p.whole (ending p.last) p.full ∙ ap (λ (t : List ℕ). joined p.whole ++ t) (ending_read p.last p.fits) ∙ sym p.stream_is

pub snoc_full : (ps : List (List ℕ)) (p : List ℕ) → AreFull ps → length p ≡ 65536 → AreFull (ps ++ p ∷ [])
snoc_full [] p full e = (e, tt)
snoc_full (q ∷ ps) p full e = (full.0, snoc_full ps p full.1 e)

pub snoc_joined : (ps : List (List ℕ)) (p : List ℕ) → joined (ps ++ p ∷ []) ≡ joined ps ++ p
snoc_joined [] p = append-nil p
snoc_joined (q ∷ ps) p = ap (λ (t : List ℕ). q ++ t) (snoc_joined ps p) ∙ sym (append_assoc q (joined ps) p)

pub snoc_framed : (ps : List (List ℕ)) (p : List ℕ) → all_framed (ps ++ p ∷ []) ≡ all_framed ps ++ framed p
snoc_framed [] p = append-nil (framed p)
snoc_framed (q ∷ ps) p = ap (λ (t : List ℕ). framed q ++ t) (snoc_framed ps p) ∙ sym (append_assoc (framed q) (all_framed ps) (framed p))

pub whole_none : (a : Option (List ℕ)) → WroteWhole a a []
whole_none a = record { pieces = []; full = tt; front_is = refl; grew = grew_none a }

pub whole_more : (a b c : Option (List ℕ)) (front p : List ℕ) → WroteWhole a b front → Grew b c (framed p) → length p ≡ 65536 → WroteWhole a c (front ++ p)
whole_more a b c front p w got len = record {
  pieces = w.pieces ++ p ∷ [];
  full = snoc_full w.pieces p w.full len;
  front_is = ap (λ (t : List ℕ). t ++ p) w.front_is ∙ sym (snoc_joined w.pieces p);
  grew = subst (Grew a c) (sym (snoc_framed w.pieces p)) (grew_both a b c (all_framed w.pieces) (framed p) w.grew got);
}

pub whole_done : (a b c : Option (List ℕ)) (stream front last : List ℕ) → WroteWhole a b front → stream ≡ front ++ last → length last ≤ 65536 → Grew b c (ending last) → Wrote a c (Pieces stream)
whole_done a b c stream front last w is fits g =
    (all_framed w.pieces ++ ending last, record { whole = w.pieces; last = last; full = w.full; fits = fits; stream_is = is ∙ ap (λ (t : List ℕ). t ++ last) w.front_is; bytes_are = refl }, grew_both a b c (all_framed w.pieces) (ending last) w.grew g)

pub piece_grew : (a b c : Option (List ℕ)) (head p : List ℕ) → head ≡ to_be_bytes w32 (length p) → Grew a b head → Grew b c p → Grew a c (framed p)
piece_grew a b c head p is f g = subst (λ (h : List ℕ). Grew a c (h ++ p)) is (grew_both a b c head p f g)

pub end_grew : (a b c : Option (List ℕ)) (p : List ℕ) → 0 < length p → Grew a b (framed p) → Grew b c mark → Grew a c (ending p)
end_grew a b c [] low f g = absurd (omega arith)
end_grew a b c (x ∷ xs) low f g = grew_both a b c (framed (x ∷ xs)) mark f g

pub mark_grew : (a b : Option (List ℕ)) (p : List ℕ) → length p ≡ 0 → Grew a b mark → Grew a b (ending p)
mark_grew a b [] e g = g
mark_grew a b (x ∷ xs) e g = absurd (omega arith)

pub whole_next : (a b c : Option (List ℕ)) (stream piece rest : List ℕ) (at : ℕ) → WroteWhole a b (take at stream) → rest ≡ drop at stream → piece ≡ take 65536 rest → length piece ≡ 65536 → Grew b c (framed piece) → WroteWhole a c (take (at + 65536) stream)
whole_next a b c stream piece rest at w behind front len got =
    let is : take at stream ++ piece ≡ take (at + 65536) stream = ap (λ (p : List ℕ). take at stream ++ p) (front ∙ ap (take 65536) behind) ∙ sym (take-add at 65536 stream) in
    subst (WroteWhole a c) is (whole_more a b c (take at stream) piece w got len)

pub wrote_so : (T E : Type 0) (r : Result T E) (a b c : Option (List ℕ)) (stream last : List ℕ) (at : ℕ) → WroteWhole a b (take at stream) → last ≡ drop at stream → length last ≤ 65536 → OnOk r (Grew b c (ending last)) → OnOk r (Wrote a c (Pieces stream))
wrote_so T E (Ok x) a b c stream last at w is fits g = whole_done a b c stream (take at stream) last w (sym (take-append-drop at stream) ∙ ap (λ (t : List ℕ). take at stream ++ t) (sym is)) fits g
wrote_so T E (Err e) a b c stream last at w is fits g = tt

pub sends_none : (a : Option (List ℕ)) (text : List ℕ) (sent : ℕ) → Sends a a text sent sent
sends_none a text sent = ([], grew_none a, sym (append-nil (take sent text)))

pub sends_more : (a b c : Option (List ℕ)) (text part : List ℕ) (from sent count : ℕ) → Sends a b text from sent → Grew b c (take count part) → take (sent + count) text ≡ take sent text ++ take count part → Sends a c text from (sent + count)
sends_more a b c text part from sent count s g e =
    (s.0 ++ take count part, grew_both a b c s.0 (take count part) s.1 g, e ∙ ap (λ (t : List ℕ). t ++ take count part) s.2 ∙ append_assoc (take from text) s.0 (take count part))

-- what is left of a length and a body, once `sent` bytes were sent
pub head_left : (head body part : List ℕ) (sent count : ℕ) → length head ≡ 4 → sent < 4 → part ≡ drop sent head → count ≤ length part → take (sent + count) (head ++ body) ≡ take sent (head ++ body) ++ take count part
head_left head body part sent count len low is few =
    let size : length (drop sent head) ≡ 4 - sent = length-drop sent head ∙ ap (λ (n : ℕ). n - sent) len in
    let l : length part ≡ 4 - sent = ap length is ∙ size in
    take-append-le (sent + count) head body (omega arith) ∙ take-add sent count head
    ∙ ap (λ (t : List ℕ). t ++ take count (drop sent head)) (sym (take-append-le sent head body (omega arith)))
    ∙ ap (λ (t : List ℕ). take sent (head ++ body) ++ take count t) (sym is)

pub body_left : (head body part : List ℕ) (sent count : ℕ) → length head ≡ 4 → 4 ≤ sent → part ≡ drop (sent - 4) body → take (sent + count) (head ++ body) ≡ take sent (head ++ body) ++ take count part
body_left head body part sent count len high is =
    let k : sent ≡ length head + (sent - 4) = omega arith in
    let behind : drop sent (head ++ body) ≡ drop (sent - 4) body = ap (λ (n : ℕ). drop n (head ++ body)) k ∙ drop-append-add head body (sent - 4) in
    take-add sent count (head ++ body) ∙ ap (λ (t : List ℕ). take sent (head ++ body) ++ take count t) (behind ∙ sym is)
