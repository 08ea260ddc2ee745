-- The words of a line, and their texts.
use Rattle.std.proofs.Common.{◌≡◌, ◌≢◌, ℕ, suc, ◌+◌, ◌-◌, ◌≤◌, Bool, true, false, eqb, List, [], ◌∷◌, ◌++◌, length, take, drop, Some, refl, sym, ap, ◌∙◌, subst, inl, inr, arith}
use Rattle.std.specs.Prelude.{map}
use Rattle.std.proofs.lemmas.Bool.{cases_Bool, eqb-true}
use Rattle.cnf_form.specs.Cnf.{LitOf}
use Rattle.cert_stream.specs.Text.{Word, is_blank, flush, lines_of, literal_of, put_first, words_from}
use Rattle.cert_stream.specs.Places.{AreDone}
use Rattle.cert_stream.proofs.Streams.{some_line}
use Rattle.cert_judge.specs.DrupCert.{words, Writes}
use Rattle.cert_judge.specs.KindCert.{IsSpace}

abbrev pub texts : List Word → List (List ℕ)
texts ws = map (λ (w : Word). w.text) ws

-- wherever the first byte stands, and whatever follows
flush_texts : (f g : Bool) (at to : ℕ) (p : List ℕ) (ws vs : List Word) → texts ws ≡ texts vs → texts (flush f at p ++ ws) ≡ texts (flush g to p ++ vs)
flush_texts f g at to [] ws vs e = e
flush_texts f g at to (c ∷ q) ws vs e = ap (λ z. (c ∷ q) ∷ z) e

pub texts_same : (f g : Bool) (at to : ℕ) (p t : List ℕ) → texts (words_from f at p t) ≡ texts (words_from g to p t)
texts_same f g at to p [] = flush_texts f g at to p [] [] refl
texts_same f g at to p (b ∷ bs) =
    elim (cases_Bool (is_blank b)) [
      | inl h ↦ rw h (flush_texts true true at to p (words_from f (at + 1) [] bs) (words_from g (to + 1) [] bs) (texts_same f g (at + 1) (to + 1) [] bs))
      | inr h ↦ rw h (texts_same f g (at + 1) (to + 1) (p ++ b ∷ []) bs)
    ]

pub line_texts : (f : Bool) (at : ℕ) (t : List ℕ) → texts (words_from f at [] t) ≡ words t
line_texts f at t = texts_same f true at 0 [] t

-- white space or a line feed follows each word but the last
abbrev pub AreDoneBut : List Word → Type 0
AreDoneBut [] = Unit {0}
AreDoneBut (w ∷ []) = Unit {0}
AreDoneBut (w ∷ v ∷ ws) = (w.done ≡ true) × AreDoneBut (v ∷ ws)

but_put : (w : Word) (ws : List Word) → w.done ≡ true → AreDoneBut ws → AreDoneBut (w ∷ ws)
but_put w [] e h = tt
but_put w (v ∷ ws) e h = (e, h)

pub but_rest : (w : Word) (ws : List Word) → AreDoneBut (w ∷ ws) → AreDoneBut ws
but_rest w [] h = tt
but_rest w (v ∷ ws) h = h.1

put_but : (at : ℕ) (p : List ℕ) (ws : List Word) → AreDoneBut ws → AreDoneBut (flush true at p ++ ws)
put_but at [] ws h = h
put_but at (c ∷ q) ws h = but_put (record { place = at - length (c ∷ q); text = c ∷ q; done = true }) ws refl h

pub done_but : (f : Bool) (at : ℕ) (p t : List ℕ) → AreDoneBut (words_from f at p t)
done_but f at [] [] = tt
done_but f at (c ∷ q) [] = tt
done_but f at p (b ∷ bs) =
    elim (cases_Bool (is_blank b)) [
      | inl h ↦ rw h (put_but at p (words_from f (at + 1) [] bs) (done_but f (at + 1) [] bs))
      | inr h ↦ rw h (done_but f (at + 1) (p ++ b ∷ []) bs)
    ]

put_all : (at : ℕ) (p : List ℕ) (ws : List Word) → AreDone ws → AreDone (flush true at p ++ ws)
put_all at [] ws h = h
put_all at (c ∷ q) ws h = (refl, h)

pub done_all : (at : ℕ) (p t : List ℕ) → AreDone (words_from true at p t)
done_all at [] [] = tt
done_all at (c ∷ q) [] = (refl, tt)
done_all at p (b ∷ bs) =
    elim (cases_Bool (is_blank b)) [
      | inl h ↦ rw h (put_all at p (words_from true (at + 1) [] bs) (done_all (at + 1) [] bs))
      | inr h ↦ rw h (done_all (at + 1) (p ++ b ∷ []) bs)
    ]

-- words up to the last one
pub record Ends (ws : List Word) (front : List (List ℕ)) (last : List ℕ) : Type 0 where
  pub before : List Word
  pub word : Word
  pub are : ws ≡ before ++ word ∷ []
  pub texts : texts before ≡ front
  pub text : word.text ≡ last

pub ends_at : (ws : List Word) (front : List (List ℕ)) (last : List ℕ) → texts ws ≡ front ++ last ∷ [] → Ends ws front last
ends_at [] [] last e = cc
ends_at [] (a ∷ front) last e = cc
ends_at (w ∷ []) [] last e = record { before = []; word = w; are = refl; texts = refl; text = (let k : w.text ≡ last = cc in k) }
ends_at (w ∷ v ∷ ws) [] last e = cc
ends_at (w ∷ ws) (a ∷ front) last e =
    let k : w.text ≡ a = cc in
    let m : texts ws ≡ front ++ last ∷ [] = cc in
    let h = ends_at ws front last m in
    record { before = w ∷ h.before; word = h.word; are = ap (λ z. w ∷ z) h.are; texts = ap (λ z. w.text ∷ z) h.texts ∙ ap (λ z. z ∷ front) k; text = h.text }

pub done_front : (ws : List Word) (w : Word) → AreDoneBut (ws ++ w ∷ []) → AreDone ws
done_front [] w h = tt
done_front (v ∷ []) w h = (h.0, tt)
done_front (v ∷ u ∷ ws) w h = (h.0, done_front (u ∷ ws) w h.1)

pub done_last : (ws : List Word) (w : Word) → AreDone (ws ++ w ∷ []) → AreDone ws × (w.done ≡ true)
done_last [] w h = (tt, h.0)
done_last (v ∷ ws) w h = let k = done_last ws w h.1 in ((h.0, k.0), k.1)

-- words that write literals
pub writes_read : (vars : ℕ) (ws : List Word) (lits : List LitOf) → Writes vars (texts ws) lits → map (λ w. literal_of vars w.text) ws ≡ map Some lits
writes_read vars [] [] h = refl
writes_read vars [] (l ∷ lits) h = cc
writes_read vars (w ∷ ws) [] h = absurd h
writes_read vars (w ∷ ws) (l ∷ lits) (e, h) = let k = writes_read vars ws lits h in cc

-- no word is empty
abbrev pub AreFull : List Word → Type 0
AreFull [] = Unit {0}
AreFull (w ∷ ws) = (w.text ≢ []) × AreFull ws

put_full : (f : Bool) (at : ℕ) (p : List ℕ) (ws : List Word) → AreFull ws → AreFull (flush f at p ++ ws)
put_full f at [] ws h = h
put_full f at (c ∷ q) ws h = (λ e. cc, h)

pub full : (f : Bool) (at : ℕ) (p t : List ℕ) → AreFull (words_from f at p t)
full f at p [] = put_full f at p [] tt
full f at p (b ∷ bs) =
    elim (cases_Bool (is_blank b)) [
      | inl h ↦ rw h (put_full true at p (words_from f (at + 1) [] bs) (full f (at + 1) [] bs))
      | inr h ↦ rw h (full f (at + 1) (p ++ b ∷ []) bs)
    ]

-- white space, or nothing
abbrev pub IsParted : List ℕ → Type 0
IsParted [] = Unit {0}
IsParted (b ∷ bs) = is_blank b ≡ true

-- a front of the text, after the bytes p of a word, with these words
abbrev pub IsFront : List ℕ → List ℕ → List (List ℕ) → Type 0
IsFront p t ws = (s : List ℕ) × (x : List ℕ) × (t ≡ s ++ x) × (texts (words_from true 0 p s) ≡ ws) × IsParted x

no_words : (front : List (List ℕ)) (w : List ℕ) (more : List (List ℕ)) → [] ≡ front ++ w ∷ more → ⊥
no_words [] w more e = cc
no_words (v ∷ front) w more e = cc

blank_front : (b : ℕ) (p t : List ℕ) (ws : List (List ℕ)) → is_blank b ≡ true → IsFront [] t ws → IsFront p (b ∷ t) (texts (flush true 0 p) ++ ws)
blank_front b p t ws h (s, x, e, z, i) =
    (b ∷ s, x, ap (λ k. b ∷ k) e, rw h (flush_texts true true 0 0 p (words_from true 1 [] s) (words_from true 0 [] s) (texts_same true true 1 0 [] s) ∙ put p), i)
  where
    put : (p : List ℕ) → texts (flush true 0 p ++ words_from true 0 [] s) ≡ texts (flush true 0 p) ++ ws
    put [] = z
    put (c ∷ q) = ap (λ k. (c ∷ q) ∷ k) z

-- the text up to one of its words
pub words_cut : (f : Bool) (at : ℕ) (p t : List ℕ) (front : List (List ℕ)) (w : List ℕ) (more : List (List ℕ)) → texts (words_from f at p t) ≡ front ++ w ∷ more → IsFront p t (front ++ w ∷ [])
words_cut f at [] [] front w more e = absurd (no_words front w more e)
words_cut f at (c ∷ q) [] [] w more e = let k : c ∷ q ≡ w = cc in ([], [], refl, ap (λ z. z ∷ []) k, tt)
words_cut f at (c ∷ q) [] (v ∷ front) w more e = absurd (let k : [] ≡ front ++ w ∷ more = cc in no_words front w more k)
words_cut f at p (b ∷ bs) front w more e =
    elim (cases_Bool (is_blank b)) [
      | inl h ↦ parted h p front (rw h at e) (λ us k. words_cut f (at + 1) [] bs us w more k)
      | inr h ↦
          let k = words_cut f (at + 1) (p ++ b ∷ []) bs front w more (rw h at e) in
          (b ∷ k.0, k.1, ap (λ z. b ∷ z) k.2, rw h (texts_same true true 1 0 (p ++ b ∷ []) k.0 ∙ k.3), k.4)
    ]
  where
    parted : is_blank b ≡ true → (p : List ℕ) (front : List (List ℕ)) → texts (flush true at p ++ words_from f (at + 1) [] bs) ≡ front ++ w ∷ more
        → ((us : List (List ℕ)) → texts (words_from f (at + 1) [] bs) ≡ us ++ w ∷ more → IsFront [] bs (us ++ w ∷ [])) → IsFront p (b ∷ bs) (front ++ w ∷ [])
    parted h [] front e again = blank_front b [] bs (front ++ w ∷ []) h (again front e)
    parted h (c ∷ q) [] e again = let k : c ∷ q ≡ w = cc in ([], b ∷ bs, refl, ap (λ z. z ∷ []) k, h)
    parted h (c ∷ q) (v ∷ front) e again =
        let k : c ∷ q ≡ v = cc in
        let m : texts (words_from f (at + 1) [] bs) ≡ front ++ w ∷ more = cc in
        let r = blank_front b (c ∷ q) bs (front ++ w ∷ []) h (again front m) in
        (r.0, r.1, r.2, r.3 ∙ ap (λ z. z ∷ (front ++ w ∷ [])) k, r.4)

-- white space, a line feed, or nothing
abbrev pub IsNext : List ℕ → Type 0
IsNext [] = Unit {0}
IsNext (b ∷ bs) = IsSpace b

-- the bytes up to a place in a line, after which its word ends
abbrev pub IsCut : List ℕ → List (List ℕ) → List ℕ → Type 0
IsCut s before t = (n : ℕ) × (n ≤ length s) × (lines_of (take n s) ≡ before ++ t ∷ []) × IsNext (drop n s)

module _ (b : ℕ) (s x : List ℕ) (parted : IsParted x) (after : List (List ℕ)) (further : (ls : List (List ℕ)) (v : List ℕ) → lines_of s ≡ ls ++ (v ++ x) ∷ after → IsCut s ls v) where
  feed_cut : eqb b 10 ≡ true → (before : List (List ℕ)) (t : List ℕ) → [] ∷ lines_of s ≡ before ++ (t ++ x) ∷ after → IsCut (b ∷ s) before t
  feed_cut n [] [] e = (0, omega arith, refl, inr (eqb-true b 10 n))
  feed_cut n [] (c ∷ t) e = cc
  feed_cut n (p ∷ before) t e =
      let q : lines_of s ≡ before ++ (t ++ x) ∷ after = cc in
      let z : [] ≡ p = cc in
      let w = further before t q in
      (suc w.0, omega (arith, w.1), rw n (ap (λ k. [] ∷ k) w.2 ∙ ap (λ k. k ∷ (before ++ t ∷ [])) z), w.3)

  plain_cut : eqb b 10 ≡ false → (u : List ℕ) (us : List (List ℕ)) → lines_of s ≡ u ∷ us → (before : List (List ℕ)) (t : List ℕ) → (b ∷ u) ∷ us ≡ before ++ (t ++ x) ∷ after
      → IsCut (b ∷ s) before t
  plain_cut n u us r [] [] e = let z : b ∷ u ≡ x = cc in (0, omega arith, refl, inl (subst IsParted (sym z) parted))
  plain_cut n u us r [] (c ∷ t) e =
      let q : u ∷ us ≡ (t ++ x) ∷ after = cc in
      let z : b ≡ c = cc in
      let w = further [] t (r ∙ q) in
      (suc w.0, omega (arith, w.1), rw n (ap (put_first b) w.2 ∙ ap (λ k. (k ∷ t) ∷ []) z), w.3)
  plain_cut n u us r (p ∷ before) t e =
      let q : us ≡ before ++ (t ++ x) ∷ after = cc in
      let z : b ∷ u ≡ p = cc in
      let w = further (u ∷ before) t (r ∙ ap (λ k. u ∷ k) q) in
      (suc w.0, omega (arith, w.1), rw n (ap (put_first b) w.2 ∙ ap (λ k. k ∷ (before ++ t ∷ [])) z), w.3)

pub cut : (s : List ℕ) (before : List (List ℕ)) (t x : List ℕ) (after : List (List ℕ)) → IsParted x → lines_of s ≡ before ++ (t ++ x) ∷ after → IsCut s before t
cut [] [] [] x after i e = (0, omega arith, refl, tt)
cut [] [] (c ∷ t) x after i e = cc
cut [] (p ∷ []) t x after i e = cc
cut [] (p ∷ q ∷ before) t x after i e = cc
cut (b ∷ s) before t x after i e =
    elim (cases_Bool (eqb b 10)) [
      | inl n ↦ feed_cut b s x i after (λ ls v q. cut s ls v x after i q) n before t (rw n at e)
      | inr n ↦ let w = some_line s in
          let q : put_first b (lines_of s) ≡ before ++ (t ++ x) ∷ after = rw n at e in
          plain_cut b s x i after (λ ls v q. cut s ls v x after i q) n w.0 w.1 w.2 before t (ap (put_first b) (sym w.2) ∙ q)
    ]
