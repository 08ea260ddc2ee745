-- Bytes that were read, and numbers among them.
use Rattle.std.proofs.Common.{◌≡◌, ℕ, zero, suc, ◌+◌, ◌<◌, ◌≤◌, List, [], ◌∷◌, ◌++◌, length, take, drop, Some, None, Ok, refl, sym, ap, ◌∙◌, subst, arith}
use Rattle.std.specs.Prelude.{Option, IfSome}
use Rattle.std.proofs.lemmas.List.{take-append-drop, length-append, append_assoc}
use Rattle.std.proofs.Math.Seq.{take-append_seam, take-append-add, drop-append_seam}
use Rattle.std.specs.Prelude.{◌^◌}
use Rattle.std.specs.Int.{w64, to_be_bytes, from_be_bytes}
use Rattle.std.proofs.lemmas.Nat.{from_be_bytes-to_be_bytes_8}
use Rattle.net_link.specs.Frame.{CanAsk, Framed, Unframed, first_bytes, request}
use Rattle.net_request.specs.Reading.{IsNumber}
use Rattle.net_link.specs.Link.{Receives, HasFewer, IsOut, Took}

pub took_none : (before : Option (List ℕ)) → Took before before []
took_none None = tt
took_none (Some bytes) = (bytes, refl, refl)

pub took_both : (a b c : Option (List ℕ)) (x y : List ℕ) → Took a b x → Took b c y → Took a c (x ++ y)
took_both None b c x y f g = tt
took_both (Some bytes) b c x y f g =
    let h : Took (Some f.0) c y = subst (λ (o : Option (List ℕ)). Took o c y) f.2 g in
    (h.0, f.1 ∙ ap (λ r. x ++ r) h.1 ∙ sym (append_assoc x y h.0), h.2)

-- one read more
pub took_more : (E : Type 0) (a b c : Option (List ℕ)) (x buffer : List ℕ) (count : ℕ) → Took a b x → Receives {E = E} b c buffer (Ok count) → Took a c (x ++ take count buffer)
took_more E None b c x buffer count f g = tt
took_more E (Some bytes) b c x buffer count f g =
    let h : Receives {E = E} (Some f.0) c buffer (Ok count) = subst (λ (o : Option (List ℕ)). Receives {E = E} o c buffer (Ok count)) f.2 g in
    took_both (Some bytes) b c x (take count buffer) f (subst (λ (o : Option (List ℕ)). Took o c (take count buffer)) (sym f.2) (drop count f.0, sym (ap (λ l. l ++ drop count f.0) h.1 ∙ take-append-drop count f.0), h.2))

drop_none : (n : ℕ) → drop {A = ℕ} n [] ≡ []
drop_none zero = refl
drop_none (suc n) = refl

-- a read that gave nothing
pub receives_out : (E : Type 0) (b c : Option (List ℕ)) (buffer : List ℕ) (count : ℕ) → Receives {E = E} b c buffer (Ok count) → count ≡ 0 → IsOut c
receives_out E None c buffer count g e = subst IsOut (sym g) tt
receives_out E (Some bytes) c buffer count g e =
    subst IsOut (sym (g.2 ∙ ap (λ (l : List ℕ). Some (drop count l)) (g.3 e))) (drop_none count)

pub took_fewer : (a b : Option (List ℕ)) (x : List ℕ) (n : ℕ) → Took a b x → IsOut b → length x < n → HasFewer a n
took_fewer None b x n f out few = tt
took_fewer (Some bytes) b x n f out few =
    let none : f.0 ≡ [] = subst IsOut f.2 out in
    let l : length bytes ≡ length x + length f.0 = ap length f.1 ∙ length-append x f.0 in
    let z : length f.0 ≡ 0 = ap length none in
    omega arith

-- one read more, in a buffer
pub took_next : (E : Type 0) (a b c : Option (List ℕ)) (front old new : List ℕ) (at count : ℕ) → at ≡ length front → Took a b (take at (front ++ old)) → Receives {E = E} b c new (Ok count) → Took a c (take (at + count) (front ++ new))
took_next E a b c front old new at count is f g =
    let was : take at (front ++ old) ≡ front = ap (λ n. take n (front ++ old)) is ∙ take-append_seam front old in
    let now : take (at + count) (front ++ new) ≡ front ++ take count new = ap (λ n. take (n + count) (front ++ new)) is ∙ take-append-add front new count in
    subst (Took a c) (sym now) (took_more E a b c front new count (subst (Took a b) was f) g)

same_front : (x y r s : List ℕ) → length x ≡ length y → x ++ r ≡ y ++ s → (x ≡ y) × (r ≡ s)
same_front x y r s len e = (
  sym (take-append_seam x r) ∙ ap (λ (l : List ℕ). take (length x) l) e ∙ ap (λ n. take n (y ++ s)) len ∙ take-append_seam y s,
  sym (drop-append_seam x r) ∙ ap (λ (l : List ℕ). drop (length x) l) e ∙ ap (λ n. drop n (y ++ s)) len ∙ drop-append_seam y s,
)

-- bytes that were read off the front of these
peel : (bytes x y z : List ℕ) (b : Option (List ℕ)) → bytes ≡ x ++ y → Took (Some bytes) b z → length z ≡ length x → (z ≡ x) × (b ≡ Some y)
peel bytes x y z b e f len = let h = same_front z x f.0 y len (sym f.1 ∙ e) in (h.0, f.2 ∙ ap (λ (l : List ℕ). Some l) h.1)

pub number_is : (a b : Option (List ℕ)) (word : List ℕ) (n : ℕ) → Took a b word → to_be_bytes w64 n ≡ word → Took a b (to_be_bytes w64 n)
number_is a b word n f e = subst (Took a b) (sym e) f

same_number : (n m : ℕ) → n < 2 ^ 64 → m < 2 ^ 64 → to_be_bytes w64 n ≡ to_be_bytes w64 m → n ≡ m
same_number n m nf mf e = sym (from_be_bytes-to_be_bytes_8 n nf) ∙ ap (from_be_bytes w64) e ∙ from_be_bytes-to_be_bytes_8 m mf

-- no number between the bounds: fewer bytes were left
pub number_short : (a : Option (List ℕ)) (b : Option (List ℕ)) (least most : ℕ) → HasFewer a 8 → IsNumber a b least most None
number_short None b least most few = tt
number_short (Some bytes) b least most few = λ n rest e low high small.
    let l : length bytes ≡ 8 + length rest = ap length e ∙ length-append (to_be_bytes w64 n) rest in
    absurd (omega arith)

-- or another number stands there
pub number_off : (a b : Option (List ℕ)) (word : List ℕ) (found least most : ℕ) → Took a b word → length word ≡ 8 → to_be_bytes w64 found ≡ word → found < 2 ^ 64 → (least ≤ found → found ≤ most → ⊥) → IsNumber a b least most None
number_off None b word found least most f len is small off = tt
number_off (Some bytes) b word found least most f len is small off = λ n rest e low high fits.
    let same = peel bytes (to_be_bytes w64 n) rest word b e f len in
    let eq : n ≡ found = same_number n found fits small (sym (is ∙ same.0)) in
    off (subst (λ (k : ℕ). least ≤ k) eq low) (subst (λ (k : ℕ). k ≤ most) eq high)

-- the bytes of a request, part by part
parts : (bytes : List ℕ) (budget : ℕ) (job : List ℕ) (f : Framed bytes budget job) → bytes ≡ first_bytes ++ (to_be_bytes w64 budget ++ (to_be_bytes w64 (length job) ++ (job ++ f.rest)))
parts bytes budget job f = f.bytes_are

pub first_took : (a b : Option (List ℕ)) (n : ℕ) → IsNumber a b 5999455829303111946 5999455829303111946 (Some n) → Took a b first_bytes
first_took a b n f = let low = f.1 in let high = f.2 in let eq : n ≡ 5999455829303111946 = omega arith in subst (λ (k : ℕ). Took a b (to_be_bytes w64 k)) eq f.0

pub unframed_first : (a b : Option (List ℕ)) → IsNumber a b 5999455829303111946 5999455829303111946 None → IfSome a Unframed
unframed_first None b f = tt
unframed_first (Some bytes) b f = λ budget job fr. f 5999455829303111946 _ (parts bytes budget job fr) (omega arith) (omega arith) (omega arith)

pub unframed_budget : (a b c : Option (List ℕ)) → Took a b first_bytes → IsNumber b c 1 1000000000 None → IfSome a Unframed
unframed_budget None b c f g = tt
unframed_budget (Some bytes) b c f g = λ budget job fr.
    let p = peel bytes first_bytes _ first_bytes b (parts bytes budget job fr) f refl in
    let h = subst (λ (o : Option (List ℕ)). IsNumber o c 1 1000000000 None) p.1 g in
    h budget _ refl fr.can_ask.least fr.can_ask.most (let m = fr.can_ask.most in omega arith)

pub unframed_count : (a b c d : Option (List ℕ)) (n : ℕ) → Took a b first_bytes → Took b c (to_be_bytes w64 n) → IsNumber c d 0 4294967296 None → IfSome a Unframed
unframed_count None b c d n f g h = tt
unframed_count (Some bytes) b c d n f g h = λ budget job fr.
    let p = peel bytes first_bytes _ first_bytes b (parts bytes budget job fr) f refl in
    let q = peel _ (to_be_bytes w64 budget) _ (to_be_bytes w64 n) c refl (subst (λ (o : Option (List ℕ)). Took o c (to_be_bytes w64 n)) p.1 g) refl in
    let k = subst (λ (o : Option (List ℕ)). IsNumber o d 0 4294967296 None) q.1 h in
    let m = fr.can_ask.fits in
    k (length job) _ refl (omega arith) m (omega arith)

pub unframed_job : (a b c d e : Option (List ℕ)) (n m : ℕ) → Took a b first_bytes → Took b c (to_be_bytes w64 n) → Took c d (to_be_bytes w64 m) → m ≤ 4294967296 → HasFewer d m → IfSome a Unframed
unframed_job None b c d e n m f g h most few = tt
unframed_job (Some bytes) b c d e n m f g h most few = λ budget job fr.
    let p = peel bytes first_bytes _ first_bytes b (parts bytes budget job fr) f refl in
    let q = peel _ (to_be_bytes w64 budget) _ (to_be_bytes w64 n) c refl (subst (λ (o : Option (List ℕ)). Took o c (to_be_bytes w64 n)) p.1 g) refl in
    let r = peel _ (to_be_bytes w64 (length job)) _ (to_be_bytes w64 m) d refl (subst (λ (o : Option (List ℕ)). Took o d (to_be_bytes w64 m)) q.1 h) refl in
    let fits = fr.can_ask.fits in
    let eq : m ≡ length job = same_number m (length job) (omega arith) (omega arith) r.0 in
    let k : length (job ++ fr.rest) < m = subst (λ (o : Option (List ℕ)). HasFewer o m) r.1 few in
    let l = length-append job fr.rest in
    omega arith

-- the parts of a request, read one after the other
pub took_request : (a b c d e : Option (List ℕ)) (n m : ℕ) (job : List ℕ) → Took a b first_bytes → Took b c (to_be_bytes w64 n) → Took c d (to_be_bytes w64 m) → Took d e job → length job ≡ m → Took a e (request n job)
took_request a b c d e n m job f g h k len =
    let h' : Took c d (to_be_bytes w64 (length job)) = subst (λ (x : ℕ). Took c d (to_be_bytes w64 x)) (sym len) h in
    took_both a b e first_bytes (to_be_bytes w64 n ++ (to_be_bytes w64 (length job) ++ job)) f (took_both b c e (to_be_bytes w64 n) (to_be_bytes w64 (length job) ++ job) g (took_both c d e (to_be_bytes w64 (length job)) job h' k))

pub framed_so : (a e : Option (List ℕ)) (n : ℕ) (job : List ℕ) → Took a e (request n job) → CanAsk n job → IfSome a (λ bytes. Framed bytes n job)
framed_so None e n job t can = tt
framed_so (Some bytes) e n job t can = record { rest = t.0; bytes_are = t.1; can_ask = can }

pub take_whole : (n : ℕ) (l : List ℕ) → length l ≤ n → take n l ≡ l
take_whole zero [] h = refl
take_whole zero (x ∷ xs) h = absurd (omega arith)
take_whole (suc n) [] h = refl
take_whole (suc n) (x ∷ xs) h = ap (λ (t : List ℕ). x ∷ t) (take_whole n xs (omega arith))
