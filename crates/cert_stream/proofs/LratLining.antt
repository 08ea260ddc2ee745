-- The bytes of a line say what its words say, and then what the later lines say.
use Rattle.std.proofs.Common.{◌≡◌, ℕ, ◌+◌, Bool, true, false, eqb, List, [], ◌∷◌, ◌++◌, length, Result, Ok, Err, refl, ap, sym, ◌∙◌, inl, inr, arith}
use Rattle.std.proofs.lemmas.Bool.{cases_Bool}
use Rattle.std.specs.Prelude.{slice_index}
use Rattle.cert_stream.specs.Text.{Word, words_from, is_blank, is_digit, NoFeed}
use Rattle.cert_stream.specs.declared.mode.ParseFaultKind.{ParseFaultKind}
use Rattle.cert_stream.specs.declared.mode.ParseFaultKind.TheVariants.{BadLine}
use Rattle.cert_stream.specs.declared.mode.Part.TheVariants.{Gap}
use Rattle.cert_stream.proofs.Wording.{HasWord, has_word, words_visible}
use Rattle.cert_stream.specs.LratMachine.{Turn, turn, counted as with_count, own_digit}
use Rattle.cert_stream.specs.LratTelling.{LratSaying, told_by}
use Rattle.cert_stream.specs.Scan.{Misfit, scan_by}
use Rattle.cert_stream.specs.LratScan.{own_next}
use Rattle.cert_stream.specs.LratLines.{alone, bad, hinted_says, line_says, lits_say, plain_says, status_says, visible_says}
use Rattle.cert_stream.specs.declared.lrat.mode.LitList.TheVariants.{Values}
use Rattle.cert_stream.specs.declared.lrat.mode.Mode.TheVariants.{Start, ValuesHead, Bad}
use Rattle.cert_stream.proofs.LratTurning.{Kept, nothing, parser, by_own, own_is}
use Rattle.cert_stream.proofs.Scanning.{scan_bad, scan_more}
use Rattle.cert_stream.proofs.LratWording.{after_first, first_alone, alone_says}
use Rattle.cert_stream.proofs.LratSpeaking.{speak, bad_ever}
use Rattle.cert_stream.proofs.LratTails.{Tail}
use Rattle.cert_stream.proofs.LratLiterals.{lits_text}
use Rattle.cert_stream.proofs.LratNaming.{on_words, own_text, says_word}
use Rattle.cert_stream.proofs.LratStatus.{skip_text, status_text}

module _ (vars : ℕ) (ended fed counted : Bool) (broken going more : List LratSaying) (feed : ℕ) (tail : List ℕ) (behind : Tail vars ended fed counted broken going more feed tail) where
  -- what the words of values say
  abbrev listed : ℕ → List Word → List LratSaying
  listed place ws = lits_say vars Values counted broken going more place 0 [] ws

  -- after v
  values_text : (place : ℕ) (t : List ℕ) (taken : ℕ) → NoFeed t → taken + length t ≡ feed
      → speak ended (parser vars taken place ValuesHead nothing) (t ++ tail) ≡ after_first (listed place) fed taken t
  values_text place [] taken h e = let k : taken ≡ feed = omega (arith, e) in ap (λ z. speak ended (parser vars z place ValuesHead nothing) tail) k ∙ behind.values_head place nothing
  values_text place (b ∷ bs) taken (h, hs) e =
      let k : taken + 1 + length bs ≡ feed = omega (arith, e) in
      elim (cases_Bool (is_blank b)) [
        | inl t ↦ rw (h, t) (lits_text vars ended fed counted broken going more feed tail behind Values place 0 bs hs (taken + 1) [] Gap [] refl (omega arith) k)
        | inr g ↦ rw (h, g) (bad_ever ended (record { kind = BadLine; byte = taken }) vars (taken + 1) place nothing (bs ++ tail))
      ]

  module _ (taken place : ℕ) (line : Kept) (b : ℕ) (bs : List ℕ) (h : eqb b 10 ≡ false) (hs : NoFeed bs) (g : is_blank b ≡ false) (k : taken + 1 + length bs ≡ feed) where
    abbrev said : Bool → List LratSaying
    said amid = speak ended (parser vars taken place (Start amid) line) (b ∷ bs ++ tail)

    -- what the words say of a line that begins here with its own id
    abbrev hinted : List Word → List LratSaying
    hinted ws = on_words vars ended fed counted broken going more feed tail behind taken ws

    -- a hinted line, from its first byte on
    own_first : (next : Result ℕ ParseFaultKind) → own_next 0 b ≡ next
        → (let z = with_count taken (by_own (parser vars taken taken (Start false) nothing) next) in told_by z.to z.event ++ speak ended z.to (bs ++ tail)) ≡ hinted (words_from fed (taken + 1) (b ∷ []) bs)
    own_first (Ok to) x = own_text vars ended fed counted broken going more feed tail behind taken bs hs (taken + 1) to b [] (scan_more own_next 0 0 to [] b refl x) refl k
    own_first (Err kind) x =
        let w = has_word fed (taken + 1) b [] bs in
        let at : w.word.place + 0 ≡ taken = omega (arith, w.place) in
        bad_ever ended (record { kind = kind; byte = taken }) vars (taken + 1) taken nothing (bs ++ tail)
        ∙ sym (ap hinted w.are
        ∙ says_word vars ended fed counted broken going more feed tail behind taken (Misfit kind 0) w.word w.others (ap (scan_by own_next 0) w.text ∙ scan_bad own_next 0 0 [] b w.more kind refl x)
        ∙ ap (bad kind) at)

    hinted_text : eqb b 99 ≡ false → eqb b 118 ≡ false → eqb b 115 ≡ false → is_digit b ≡ true → said false ≡ hinted (words_from fed (taken + 1) (b ∷ []) bs)
    hinted_text nc nv ns d =
        let e : turn (parser vars taken place (Start false) line) b ≡ with_count taken (own_digit (parser vars taken taken (Start false) nothing) 0 b) = rw (h, g, nc, nv, ns, d) refl in
        ap (λ (z : Turn). told_by z.to z.event ++ speak ended z.to (bs ++ tail)) (e ∙ ap (with_count taken) (own_is (parser vars taken taken (Start false) nothing) 0 b))
        ∙ own_first (own_next 0 b) refl

    module _ (w : HasWord (taken + 1) (b ∷ []) (words_from fed (taken + 1) (b ∷ []) bs)) where
      at : w.word.place ≡ taken
      at = w.place ∙ omega arith

      alone_is : (f : List Word → List LratSaying) → after_first f fed (taken + 1) bs ≡ alone w.word (f w.others)
      alone_is f = sym (alone_says f fed taken b bs) ∙ ap (first_alone f) w.are

      valued : speak ended (parser vars (taken + 1) taken ValuesHead nothing) (bs ++ tail) ≡ alone w.word (listed w.word.place w.others)
      valued = values_text taken bs (taken + 1) hs k ∙ alone_is (listed taken) ∙ ap (λ z. alone w.word (listed z w.others)) (sym at)

      bad_here : speak ended (parser vars (taken + 1) taken (Bad (record { kind = BadLine; byte = taken })) nothing) (bs ++ tail) ≡ bad BadLine w.word.place
      bad_here = bad_ever ended (record { kind = BadLine; byte = taken }) vars (taken + 1) taken nothing (bs ++ tail) ∙ ap (bad BadLine) (sym at)

      plain_text : eqb b 99 ≡ false → eqb b 118 ≡ false → said false ≡ plain_says vars counted broken more b w.word w.others
      plain_text nc nv =
          elim (cases_Bool (eqb b 115)) [
            | inl t ↦ rw (h, g, nc, nv, t) (status_text vars ended fed counted broken going more feed tail behind taken bs (taken + 1) nothing hs k ∙ alone_is (status_says counted more))
            | inr ns ↦ elim (cases_Bool (is_digit b)) [
              | inl t ↦ hinted_text nc nv ns t ∙ ap hinted w.are ∙ sym (plain_is ns t)
              | inr f ↦ rw (h, g, nc, nv, ns, f) bad_here
            ]
          ]
        where
          plain_is : eqb b 115 ≡ false → is_digit b ≡ true → plain_says vars counted broken more b w.word w.others ≡ hinted_says vars counted broken more w.word w.others
          plain_is ns t = rw (ns, t) refl

      visible_text : (amid : Bool) → said amid ≡ visible_says vars counted amid broken going more b w.word w.others
      visible_text amid =
          elim (cases_Bool (eqb b 99)) [
            | inl t ↦ rw (h, g, t) (skip_text vars ended fed counted broken going more feed tail behind taken amid bs (taken + 1) nothing hs k)
            | inr nc ↦ elim (cases_Bool (eqb b 118)) [
              | inl t ↦ rw (h, g, nc, t) valued
              | inr nv ↦ other nc nv amid
            ]
          ]
        where
          other : eqb b 99 ≡ false → eqb b 118 ≡ false → (amid : Bool) → said amid ≡ visible_says vars counted amid broken going more b w.word w.others
          other nc nv true = rw (h, g, nc, nv) bad_here
          other nc nv false = plain_text nc nv ∙ sym (visible_is nc nv)
            where
              visible_is : eqb b 99 ≡ false → eqb b 118 ≡ false → visible_says vars counted false broken going more b w.word w.others ≡ plain_says vars counted broken more b w.word w.others
              visible_is nc nv = rw (nc, nv) refl

  -- from the start of a line on
  pub start_text : (amid : Bool) (t : List ℕ) (taken place : ℕ) (line : Kept) → NoFeed t → taken + length t ≡ feed
      → speak ended (parser vars taken place (Start amid) line) (t ++ tail) ≡ line_says vars counted amid broken going more (words_from fed taken [] t)
  start_text amid [] taken place line h e = let k : taken ≡ feed = omega (arith, e) in ap (λ z. speak ended (parser vars z place (Start amid) line) tail) k ∙ behind.start place amid line
  start_text amid (b ∷ bs) taken place line (h, hs) e =
      let k : taken + 1 + length bs ≡ feed = omega (arith, e) in
      elim (cases_Bool (is_blank b)) [
        | inl t ↦ rw (h, t) (start_text amid bs (taken + 1) place line hs k)
        | inr g ↦
            let w = has_word fed (taken + 1) b [] bs in
            visible_text taken place line b bs h hs g k w amid
            ∙ ap (λ z. visible_says vars counted amid broken going more z w.word w.others) (sym (ap (λ z. slice_index z 0) w.text))
            ∙ sym (ap (line_says vars counted amid broken going more) (words_visible fed taken [] b bs g ∙ w.are))
      ]
