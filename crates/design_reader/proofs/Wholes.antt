-- Whole texts, token by token.
use Rattle.std.proofs.Common.{◌≡◌, ◌⊎◌, ℕ, ◌+◌, true, false, List, [], ◌∷◌, ◌++◌, length, Some, Ok, Err, refl, sym, ap, ◌∙◌, subst, inl, inr, append-nil, arith}
use Rattle.rtlil_lex.specs.Tokens.{TokenOf, IsTokens, Front, Gap, IsToken}
use Rattle.rtlil_lex.proofs.Lexing.{one_list, no_tokens}
use Rattle.rtlil_lex.proofs.Fronts.{front_lexes, one_front, break_ends, break_place}
use Rattle.design_core.specs.Shape.{DesignOf}
use Rattle.rtlil_constant.specs.Constants.{Word}
use Rattle.design_reader.specs.Parts.{DraftOf}
use Rattle.design_reader.specs.Grammar.{Outcome, ◌⊳◌, step, steps, words_of, reading, new_draft, Reads}
use Rattle.design_reader.specs.Faults.{IsReadFault, at_end}
use Rattle.design_reader.specs.Faults.IsReadFault.{too_long, word, no_token, ended}
use Rattle.design_reader.specs.declared.fault.ReadFaultKind.{ReadFaultKind}
use Rattle.design_reader.specs.declared.spot.Spot.{Spot}
use Rattle.design_reader.specs.declared.spot.Spot.TheVariants.{File}

abbrev State : Type 0
State = DraftOf × Spot

abbrev pub at_state : DraftOf → Spot → Outcome
at_state d s = Ok (d, s)

same_spot : (d e : DraftOf) (s q : Spot) → at_state d s ≡ at_state e q → s ≡ q
same_spot d e s q h =
    let f : Outcome → Spot = λ o. elim o as (λ _. Spot) [ Ok x ↦ x.1 | Err k ↦ s ] in
    ap f h

-- words in two parts
steps_then : (d : DraftOf) (s : Spot) (ws vs : List Word) → steps d s (ws ++ vs) ≡ (steps d s ws ⊳ λ x. steps x.0 x.1 vs)
steps_then d s [] vs = refl
steps_then d s (w ∷ ws) vs =
    elim (step d s w) as (λ (r : Outcome). (r ⊳ λ x. steps x.0 x.1 (ws ++ vs)) ≡ ((r ⊳ λ x. steps x.0 x.1 ws) ⊳ λ x. steps x.0 x.1 vs)) [
      | Ok x ↦ steps_then x.0 x.1 ws vs
      | Err k ↦ refl
    ]

words_then : (ts us : List TokenOf) → words_of (ts ++ us) ≡ words_of ts ++ words_of us
words_then [] us = refl
words_then (t ∷ ts) us = ap (λ (x : List Word). t.text ∷ x) (words_then ts us)

pub reading_then : (ts us : List TokenOf) → reading (ts ++ us) ≡ (reading ts ⊳ λ x. steps x.0 x.1 (words_of us))
reading_then ts us = ap (λ (x : List Word). steps (new_draft []) (File false) x) (words_then ts us) ∙ steps_then (new_draft []) (File false) (words_of ts) (words_of us)

-- one more word
one_step : (r : Outcome) → (r ⊳ λ x. steps x.0 x.1 []) ≡ r
one_step (Ok x) = refl
one_step (Err k) = refl

pub reading_push : (ts : List TokenOf) (t : TokenOf) (d : DraftOf) (s : Spot) → reading ts ≡ Ok (d, s) → reading (ts ++ t ∷ []) ≡ step d s t.text
reading_push ts t d s e =
    reading_then ts (t ∷ []) ∙ ap (λ (r : Outcome). r ⊳ λ x. steps x.0 x.1 (words_of (t ∷ []))) e ∙ one_step (step d s t.text)

-- what is refused stays so
refused_on : (ts us : List TokenOf) (k : ReadFaultKind) → reading ts ≡ Err k → reading (ts ++ us) ≡ Err k
refused_on ts us k e = reading_then ts us ∙ ap (λ (r : Outcome). r ⊳ λ x. steps x.0 x.1 (words_of us)) e

-- ---- a text reads one design

pub one_read : (text : List ℕ) (d e : DesignOf) → Reads text d → Reads text e → d ≡ e
one_read text d e r q =
    let same : r.tokens ≡ q.tokens = one_list (length text) text r.tokens q.tokens r.lexes q.lexes in
    let both : reading r.tokens ≡ reading q.tokens = ap (λ (x : List TokenOf). reading x) same in
    let f : Outcome → DesignOf = λ o. elim o as (λ _. DesignOf) [ Ok x ↦ x.0.design | Err k ↦ d ] in
    ap f (sym r.whole ∙ both ∙ q.whole)

-- a word that is refused stands in no text that is read so far
pub refused_start : (ts us : List TokenOf) (k : ReadFaultKind) (x : State) → reading ts ≡ Err k → reading (ts ++ us) ≡ Ok x → ⊥
refused_start ts us k x e f = let g = refused_on ts us k e in cc

-- ---- a text is read or refused, and by one fault

pub never_both : (text : List ℕ) (d : DesignOf) (byte : ℕ) (kind : ReadFaultKind) → Reads text d → IsReadFault text byte kind → ⊥
never_both text d byte kind r (too_long h b k) = omega (arith, r.limit)
never_both text d byte kind r (word ts t e s few begins start read fails) =
    let w = front_lexes (length text) begins.0 text (ts ++ t ∷ []) r.tokens begins.1 r.lexes in
    refused_start (ts ++ t ∷ []) w.0 kind _ (reading_push ts t e s read ∙ fails) (sym (ap (λ (x : List TokenOf). reading x) w.1) ∙ r.whole)
never_both text d byte kind r (no_token ts e s few breaks read k) =
    let w = front_lexes (length text) breaks.left text ts r.tokens breaks.front r.lexes in
    no_tokens (length text) 34 breaks.more breaks.left w.0 breaks.gap refl breaks.no_token w.2
never_both text d byte kind r (ended ts e s few lexes read bad b) =
    let same = one_list (length text) text r.tokens ts r.lexes lexes in
    let both = sym r.whole ∙ ap (λ (x : List TokenOf). reading x) same ∙ read in
    let spot : s ≡ File true = same_spot _ _ _ _ (sym both) in
    let fine = subst (λ (x : Spot). at_end x ≡ Some kind) spot bad in cc

ends_in : (front ts : List TokenOf) (t : TokenOf) (c : List TokenOf) → ts ++ t ∷ [] ≡ front ++ c → (ts ++ t ∷ [] ≡ front) ⊎ ((more : List TokenOf) × (ts ≡ front ++ more))
ends_in [] ts t c e = inr (ts, refl)
ends_in (a ∷ []) [] t c e = let same : t ≡ a = cc in inl (ap (λ (x : TokenOf). x ∷ []) same)
ends_in (a ∷ b ∷ front) [] t c e = absurd cc
ends_in (a ∷ front) (u ∷ ts) t c e =
    let first : u ≡ a = cc in
    let rest : ts ++ t ∷ [] ≡ front ++ c = cc in
    elim (ends_in front ts t c rest) as (λ _. (u ∷ (ts ++ t ∷ []) ≡ a ∷ front) ⊎ ((more : List TokenOf) × (u ∷ ts ≡ a ∷ (front ++ more)))) [
      | inl h ↦ inl (ap (λ (x : List TokenOf). u ∷ x) h ∙ ap (λ (x : TokenOf). x ∷ front) first)
      | inr w ↦ inr (w.0, ap (λ (x : List TokenOf). u ∷ x) w.1 ∙ ap (λ (x : TokenOf). x ∷ (front ++ w.0)) first)
    ]

last_same : (ts us : List TokenOf) (t u : TokenOf) → ts ++ t ∷ [] ≡ us ++ u ∷ [] → (ts ≡ us) × (t ≡ u)
last_same [] [] t u e = (refl, cc)
last_same [] (v ∷ []) t u e = absurd cc
last_same [] (v ∷ w ∷ us) t u e = absurd cc
last_same (v ∷ []) [] t u e = absurd cc
last_same (v ∷ w ∷ ts) [] t u e = absurd cc
last_same (v ∷ ts) (w ∷ us) t u e =
    let first : v ≡ w = cc in
    let rest = last_same ts us t u cc in
    (ap (λ (x : List TokenOf). v ∷ x) rest.0 ∙ ap (λ (x : TokenOf). x ∷ us) first, rest.1)

-- reading stops once
read_past : (us ts : List TokenOf) (t u : TokenOf) (c : List TokenOf) (k : ReadFaultKind) (x : State) → us ++ u ∷ [] ≡ (ts ++ t ∷ []) ++ c → reading (ts ++ t ∷ []) ≡ Err k → reading us ≡ Ok x → us ++ u ∷ [] ≡ ts ++ t ∷ []
read_past us ts t u c k x e stop read =
    elim (ends_in (ts ++ t ∷ []) us u c e) as (λ _. us ++ u ∷ [] ≡ ts ++ t ∷ []) [
      | inl h ↦ h
      | inr w ↦ absurd (refused_start (ts ++ t ∷ []) w.0 k x stop (sym (ap (λ (y : List TokenOf). reading y) w.1) ∙ read))
    ]

two_words : (text : List ℕ) (ts us : List TokenOf) (t u : TokenOf) (j k : ReadFaultKind) (x y : State) (a b : List ℕ) → Front (length text) a text (ts ++ t ∷ []) → Front (length text) b text (us ++ u ∷ [])
    → reading ts ≡ Ok x → reading us ≡ Ok y → reading (ts ++ t ∷ []) ≡ Err j → reading (us ++ u ∷ []) ≡ Err k → us ++ u ∷ [] ≡ ts ++ t ∷ []
two_words text ts us t u j k x y a b f g rt ru st su =
    elim (one_front (length text) a b text (ts ++ t ∷ []) (us ++ u ∷ []) f g) as (λ _. us ++ u ∷ [] ≡ ts ++ t ∷ []) [
      | inl w ↦ read_past us ts t u w.0 j y w.1 st ru
      | inr w ↦ sym (read_past ts us u t w.0 k x w.1 su rt)
    ]

abbrev Fault : Type 0
Fault = ℕ × ReadFaultKind

abbrev fault : ℕ → ReadFaultKind → Fault
fault b k = (b, k)

-- a word that is refused, and a place without a token
word_or_break : (text : List ℕ) (ts us : List TokenOf) (t : TokenOf) (k : ReadFaultKind) (y : State) (a left rest : List ℕ) → Front (length text) a text (ts ++ t ∷ []) → Front (length text) left text us
    → Gap (34 ∷ rest) left → ((x after : List ℕ) → 34 ∷ rest ≡ x ++ after → IsToken x after → ⊥) → reading (ts ++ t ∷ []) ≡ Err k → reading us ≡ Ok y → ⊥
word_or_break text ts us t k y a left rest f g gap none st ru =
    elim (one_front (length text) a left text (ts ++ t ∷ []) us f g) as (λ _. ⊥) [
      | inl w ↦ refused_start (ts ++ t ∷ []) w.0 k y st (sym (ap (λ (x : List TokenOf). reading x) w.1) ∙ ru)
      | inr w ↦
          let short = (break_ends (length text) rest left a w.0 gap none w.2).0 in
          let same : ts ++ t ∷ [] ≡ us = w.1 ∙ ap (λ (x : List TokenOf). us ++ x) short ∙ append-nil us in
          let read = sym (ap (λ (x : List TokenOf). reading x) same) ∙ st in cc
    ]

break_or_break : (text : List ℕ) (ts us : List TokenOf) (l m r q : List ℕ) (x y : ℕ) → Front (length text) l text ts → Front (length text) m text us → Gap (34 ∷ r) l → Gap (34 ∷ q) m
    → ((w after : List ℕ) → 34 ∷ r ≡ w ++ after → IsToken w after → ⊥) → ((w after : List ℕ) → 34 ∷ q ≡ w ++ after → IsToken w after → ⊥) → x + length (34 ∷ r) ≡ length text → y + length (34 ∷ q) ≡ length text → x ≡ y
break_or_break text ts us l m r q x y f g gap hap none some e d =
    elim (one_front (length text) l m text ts us f g) as (λ _. x ≡ y) [
      | inl w ↦
          let same = (break_ends (length text) r l m w.0 gap none w.2).1 in
          break_place (length text) r q l x y gap (subst (λ (z : List ℕ). Gap (34 ∷ q) z) same hap) e d
      | inr w ↦
          let same = (break_ends (length text) q m l w.0 hap some w.2).1 in
          break_place (length text) r q m x y (subst (λ (z : List ℕ). Gap (34 ∷ r) z) same gap) hap e d
    ]

word_or_end : (text : List ℕ) (ts us : List TokenOf) (t : TokenOf) (k : ReadFaultKind) (y : State) (a : List ℕ) → Front (length text) a text (ts ++ t ∷ []) → IsTokens text us → reading (ts ++ t ∷ []) ≡ Err k → reading us ≡ Ok y → ⊥
word_or_end text ts us t k y a f l st ru =
    let w = front_lexes (length text) a text (ts ++ t ∷ []) us f l in
    refused_start (ts ++ t ∷ []) w.0 k y st (sym (ap (λ (x : List TokenOf). reading x) w.1) ∙ ru)

break_or_end : (text : List ℕ) (ts us : List TokenOf) (left rest : List ℕ) → Front (length text) left text ts → Gap (34 ∷ rest) left → ((w after : List ℕ) → 34 ∷ rest ≡ w ++ after → IsToken w after → ⊥) → IsTokens text us → ⊥
break_or_end text ts us left rest f gap none l =
    let w = front_lexes (length text) left text ts us f l in
    no_tokens (length text) 34 rest left w.0 gap refl none w.2

pub one_fault : (text : List ℕ) (a b : ℕ) (j k : ReadFaultKind) → IsReadFault text a j → IsReadFault text b k → fault a j ≡ fault b k
one_fault text a b j k (too_long h x y) (too_long g z w) = rw (x, y, z, w) refl
one_fault text a b j k (too_long h x y) (word us u e q few begins start read fails) = absurd (omega arith)
one_fault text a b j k (too_long h x y) (no_token us e q few breaks read w) = absurd (omega arith)
one_fault text a b j k (too_long h x y) (ended us e q few lexes read bad w) = absurd (omega arith)
one_fault text a b j k (word ts t d s small begins start read fails) (too_long g z w) = absurd (omega arith)
one_fault text a b j k (word ts t d s small begins start read fails) (word us u e q few starts at got stop) =
    let st = reading_push ts t d s read ∙ fails in
    let su = reading_push us u e q got ∙ stop in
    let same = two_words text ts us t u j k _ _ begins.0 starts.0 begins.1 starts.1 read got st su in
    let kinds : j ≡ k = let both = sym st ∙ ap (λ (x : List TokenOf). reading x) (sym same) ∙ su in cc in
    let places : a ≡ b = sym start ∙ ap (λ (x : TokenOf). x.start) (sym (last_same us ts u t same).1) ∙ at in
    rw (kinds, places) refl
one_fault text a b j k (word ts t d s small begins start read fails) (no_token us e q few breaks got w) =
    absurd (word_or_break text ts us t j _ begins.0 breaks.left breaks.more begins.1 breaks.front breaks.gap breaks.no_token (reading_push ts t d s read ∙ fails) got)
one_fault text a b j k (word ts t d s small begins start read fails) (ended us e q few lexes got bad w) =
    absurd (word_or_end text ts us t j _ begins.0 begins.1 lexes (reading_push ts t d s read ∙ fails) got)
one_fault text a b j k (no_token ts d s small breaks read h) (too_long g z w) = absurd (omega arith)
one_fault text a b j k (no_token ts d s small breaks read h) (word us u e q few starts at got stop) =
    absurd (word_or_break text us ts u k _ starts.0 breaks.left breaks.more starts.1 breaks.front breaks.gap breaks.no_token (reading_push us u e q got ∙ stop) read)
one_fault text a b j k (no_token ts d s small breaks read h) (no_token us e q few others got w) =
    let same = break_or_break text ts us breaks.left others.left breaks.more others.more a b breaks.front others.front breaks.gap others.gap breaks.no_token others.no_token breaks.place others.place in
    rw (same, h, w) refl
one_fault text a b j k (no_token ts d s small breaks read h) (ended us e q few lexes got bad w) =
    absurd (break_or_end text ts us breaks.left breaks.more breaks.front breaks.gap breaks.no_token lexes)
one_fault text a b j k (ended ts d s small lexes read bad h) (too_long g z w) = absurd (omega arith)
one_fault text a b j k (ended ts d s small lexes read bad h) (word us u e q few starts at got stop) =
    absurd (word_or_end text us ts u k _ starts.0 starts.1 lexes (reading_push us u e q got ∙ stop) read)
one_fault text a b j k (ended ts d s small lexes read bad h) (no_token us e q few breaks got w) =
    absurd (break_or_end text us ts breaks.left breaks.more breaks.front breaks.gap breaks.no_token lexes)
one_fault text a b j k (ended ts d s small lexes read bad h) (ended us e q few words got worse w) =
    let same = one_list (length text) text ts us lexes words in
    let both = sym read ∙ ap (λ (x : List TokenOf). reading x) same ∙ got in
    let spot : s ≡ q = same_spot _ _ _ _ both in
    let kinds : j ≡ k = let kind = sym bad ∙ ap (λ (x : Spot). at_end x) spot ∙ worse in cc in
    rw (kinds, h, w) refl
