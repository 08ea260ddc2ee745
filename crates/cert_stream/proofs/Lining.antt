-- The bytes of a line say what its words say, and then what the later lines say.
use Rattle.std.proofs.Common.{◌≡◌, ℕ, ◌+◌, Bool, true, false, ◌||◌, eqb, leb, List, [], ◌∷◌, ◌++◌, length, Result, Ok, Err, refl, ap, sym, ◌∙◌, inl, inr, arith}
use Rattle.std.proofs.lemmas.Bool.{cases_Bool}
use Rattle.std.specs.Prelude.{slice_index}
use Rattle.cnf_form.specs.Cnf.{LitOf}
use Rattle.cert_stream.specs.Text.{Word, words_from, is_blank, is_digit, NoFeed}
use Rattle.cert_stream.specs.Machine.{Turn, turn, counted as with_count, visible_first}
use Rattle.cert_stream.specs.Telling.{Saying, told_by}
use Rattle.cert_stream.specs.Scan.{first_next}
use Rattle.cert_stream.specs.Stream.{bad, unended_says, list_says, status_says, alone, plain_says, visible_says, line_says}
use Rattle.cert_stream.specs.declared.mode.ListKind.{ListKind}
use Rattle.cert_stream.specs.declared.mode.ListKind.TheVariants.{Clause, Deletion, Values}
use Rattle.cert_stream.specs.declared.mode.ParseFaultKind.{ParseFaultKind}
use Rattle.cert_stream.specs.declared.mode.ParseFaultKind.TheVariants.{BadLine}
use Rattle.cert_stream.specs.declared.mode.Part.{Part}
use Rattle.cert_stream.specs.declared.mode.Part.TheVariants.{Gap}
use Rattle.cert_stream.specs.declared.mode.Mode.TheVariants.{Start, Head, InList, Bad}
use Rattle.cert_stream.proofs.Turning.{parser, by_next, first_is}
use Rattle.cert_stream.proofs.Wording.{HasWord, has_word, words_visible, after_first, first_alone, alone_says}
use Rattle.cert_stream.proofs.Speaking.{speak, bad_ever}
use Rattle.cert_stream.proofs.Tails.{Tail}
use Rattle.cert_stream.proofs.Listing.{list_text}
use Rattle.cert_stream.proofs.Status.{skip_text, status_text}

module _ (vars : ℕ) (ended fed counted : Bool) (broken going more : List Saying) (feed : ℕ) (tail : List ℕ) (behind : Tail vars ended fed counted broken going more feed tail) where
  -- what the words of a list say
  abbrev listed : ListKind → ℕ → List Word → List Saying
  listed kind place ws = list_says vars kind counted (unended_says kind broken going) more place [] ws

  -- after d or v
  head_text : (place : ℕ) (kind : ListKind) (t : List ℕ) (taken : ℕ) → NoFeed t → taken + length t ≡ feed
      → speak ended (parser vars taken place (Head kind) []) (t ++ tail) ≡ after_first (listed kind place) fed taken t
  head_text place kind [] taken h e = let k : taken ≡ feed = omega (arith, e) in ap (λ z. speak ended (parser vars z place (Head kind) []) tail) k ∙ behind.head place kind []
  head_text place kind (b ∷ bs) taken (h, hs) e =
      let k : taken + 1 + length bs ≡ feed = omega (arith, e) in
      elim (cases_Bool (is_blank b)) [
        | inl t ↦ rw (h, t) (list_text vars ended fed counted broken going more feed tail behind kind place bs hs (taken + 1) [] Gap [] refl (omega arith) k)
        | inr g ↦ rw (h, g) (bad_ever ended (record { kind = BadLine; byte = taken }) vars (taken + 1) place [] (bs ++ tail))
      ]

  module _ (taken place : ℕ) (lits : List LitOf) (b : ℕ) (bs : List ℕ) (h : eqb b 10 ≡ false) (hs : NoFeed bs) (g : is_blank b ≡ false) (k : taken + 1 + length bs ≡ feed) where
    abbrev said : Bool → List Saying
    said amid = speak ended (parser vars taken place (Start amid) lits) (b ∷ bs ++ tail)

    -- a clause, from its first byte on
    clause_text : eqb b 99 ≡ false → eqb b 118 ≡ false → eqb b 115 ≡ false → eqb b 100 ≡ false → (eqb b 45 || is_digit b) ≡ true
        → said false ≡ listed Clause taken (words_from fed taken [] (b ∷ bs))
    clause_text nc nv ns nd s =
        let e : turn (parser vars taken place (Start false) lits) b ≡ with_count taken (visible_first (parser vars taken taken (Start false) []) Clause b) = rw (h, g, nc, nv, ns, nd, s) refl in
        let f : turn (parser vars taken taken (InList Clause Gap) []) b ≡ with_count taken (visible_first (parser vars taken taken (InList Clause Gap) []) Clause b) = rw (h, g) refl in
        ap (λ (z : Turn). told_by z.to z.event ++ speak ended z.to (bs ++ tail))
        (e ∙ ap (with_count taken) (first_is (parser vars taken taken (Start false) []) Clause b ∙ same (first_next vars (leb vars (length {A = LitOf} [])) b) ∙ sym (first_is (parser vars taken taken (InList Clause Gap) []) Clause b)) ∙ sym f)
        ∙ list_text vars ended fed counted broken going more feed tail behind Clause taken (b ∷ bs) (h, hs) taken [] Gap [] refl (omega arith) (omega (arith, k))
      where
        same : (next : Result Part ParseFaultKind) → by_next (parser vars taken taken (Start false) []) Clause next ≡ by_next (parser vars taken taken (InList Clause Gap) []) Clause next
        same (Ok part) = refl
        same (Err x) = refl

    module _ (w : HasWord (taken + 1) (b ∷ []) (words_from fed (taken + 1) (b ∷ []) bs)) where
      at : w.word.place ≡ taken
      at = w.place ∙ omega arith

      alone_is : (f : List Word → List Saying) → after_first f fed (taken + 1) bs ≡ alone w.word (f w.others)
      alone_is f = sym (alone_says f fed taken b bs) ∙ ap (first_alone f) w.are

      headed : (kind : ListKind) → speak ended (parser vars (taken + 1) taken (Head kind) []) (bs ++ tail) ≡ alone w.word (listed kind w.word.place w.others)
      headed kind = head_text taken kind bs (taken + 1) hs k ∙ alone_is (listed kind taken) ∙ ap (λ z. alone w.word (listed kind z w.others)) (sym at)

      bad_here : speak ended (parser vars (taken + 1) taken (Bad (record { kind = BadLine; byte = taken })) []) (bs ++ tail) ≡ bad BadLine w.word.place
      bad_here = bad_ever ended (record { kind = BadLine; byte = taken }) vars (taken + 1) taken [] (bs ++ tail) ∙ ap (bad BadLine) (sym at)

      clause_is : listed Clause taken (words_from fed taken [] (b ∷ bs)) ≡ listed Clause w.word.place (w.word ∷ w.others)
      clause_is = ap (listed Clause taken) (words_visible fed taken [] b bs g ∙ w.are) ∙ ap (λ z. listed Clause z (w.word ∷ w.others)) (sym at)

      plain_text : eqb b 99 ≡ false → eqb b 118 ≡ false → said false ≡ plain_says vars counted broken more b w.word w.others
      plain_text nc nv =
          elim (cases_Bool (eqb b 115)) [
            | inl t ↦ rw (h, g, nc, nv, t) (status_text vars ended fed counted broken going more feed tail behind taken bs (taken + 1) [] hs k ∙ alone_is (status_says counted more))
            | inr ns ↦ elim (cases_Bool (eqb b 100)) [
              | inl t ↦ rw (h, g, nc, nv, ns, t) (headed Deletion)
              | inr nd ↦ elim (cases_Bool (eqb b 45 || is_digit b)) [
                | inl t ↦ clause_text nc nv ns nd t ∙ clause_is ∙ sym (plain_is ns nd t)
                | inr f ↦ rw (h, g, nc, nv, ns, nd, f) bad_here
              ]
            ]
          ]
        where
          plain_is : eqb b 115 ≡ false → eqb b 100 ≡ false → (eqb b 45 || is_digit b) ≡ true → plain_says vars counted broken more b w.word w.others ≡ listed Clause w.word.place (w.word ∷ w.others)
          plain_is ns nd t = rw (ns, nd, t) refl

      visible_text : (amid : Bool) → said amid ≡ visible_says vars counted amid broken going more b w.word w.others
      visible_text amid =
          elim (cases_Bool (eqb b 99)) [
            | inl t ↦ rw (h, g, t) (skip_text vars ended fed counted broken going more feed tail behind taken amid bs (taken + 1) [] hs k)
            | inr nc ↦ elim (cases_Bool (eqb b 118)) [
              | inl t ↦ rw (h, g, nc, t) (headed Values)
              | inr nv ↦ other nc nv amid
            ]
          ]
        where
          other : eqb b 99 ≡ false → eqb b 118 ≡ false → (amid : Bool) → said amid ≡ visible_says vars counted amid broken going more b w.word w.others
          other nc nv true = rw (h, g, nc, nv) bad_here
          other nc nv false = plain_text nc nv ∙ sym (visible_is nc nv)
            where
              visible_is : eqb b 99 ≡ false → eqb b 118 ≡ false → visible_says vars counted false broken going more b w.word w.others ≡ plain_says vars counted broken more b w.word w.others
              visible_is nc nv = rw (nc, nv) refl

  -- from the start of a line on
  pub start_text : (amid : Bool) (t : List ℕ) (taken place : ℕ) (lits : List LitOf) → NoFeed t → taken + length t ≡ feed
      → speak ended (parser vars taken place (Start amid) lits) (t ++ tail) ≡ line_says vars counted amid broken going more (words_from fed taken [] t)
  start_text amid [] taken place lits h e = let k : taken ≡ feed = omega (arith, e) in ap (λ z. speak ended (parser vars z place (Start amid) lits) tail) k ∙ behind.start place amid lits
  start_text amid (b ∷ bs) taken place lits (h, hs) e =
      let k : taken + 1 + length bs ≡ feed = omega (arith, e) in
      elim (cases_Bool (is_blank b)) [
        | inl t ↦ rw (h, t) (start_text amid bs (taken + 1) place lits hs k)
        | inr g ↦
            let w = has_word fed (taken + 1) b [] bs in
            visible_text taken place lits b bs h hs g k w amid
            ∙ ap (λ z. visible_says vars counted amid broken going more z w.word w.others) (sym (ap (λ z. slice_index z 0) w.text))
            ∙ sym (ap (line_says vars counted amid broken going more) (words_visible fed taken [] b bs g ∙ w.are))
      ]
