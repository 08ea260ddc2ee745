-- The bytes of a hinted line say what its words say, and then what the later lines say.
use Rattle.std.proofs.Common.{◌≡◌, ℕ, ◌+◌, ◌-◌, Bool, true, false, cond, eqb, leb, List, [], ◌∷◌, ◌++◌, length, Result, Ok, Err, refl, ap, sym, ◌∙◌, inl, inr, subst, arith, append_assoc}
use Rattle.std.proofs.lemmas.Bool.{cases_Bool}
use Rattle.std.proofs.lemmas.List.{length-append}
use Rattle.std.specs.Prelude.{slice_index}
use Rattle.cert_stream.specs.Text.{Word, words_from, is_blank, NoFeed}
use Rattle.cert_stream.specs.Scan.{Scanned, Reads, Misfit, first_next, scan_by}
use Rattle.cert_stream.specs.declared.mode.ParseFaultKind.{ParseFaultKind}
use Rattle.cert_stream.specs.declared.mode.ParseFaultKind.TheVariants.{BadLine}
use Rattle.cert_stream.specs.declared.mode.Part.{Part}
use Rattle.cert_stream.specs.declared.mode.Part.TheVariants.{Gap}
use Rattle.cert_stream.proofs.Wording.{has_word, words_blank, words_visible}
use Rattle.cert_stream.specs.LratMachine.{Turn, turn, counted as with_count, visible_first}
use Rattle.cert_stream.specs.LratTelling.{LratSaying, told_by}
use Rattle.cert_stream.specs.LratScan.{own_next}
use Rattle.cert_stream.specs.LratLines.{bad, hinted_says, ids_say, lits_say, named_by, named_says}
use Rattle.cert_stream.specs.declared.lrat.mode.LitList.TheVariants.{Clause}
use Rattle.cert_stream.specs.declared.lrat.mode.IdList.TheVariants.{Deletion}
use Rattle.cert_stream.specs.declared.lrat.mode.IdPart.TheVariants.{Gap as IdGap}
use Rattle.cert_stream.specs.declared.lrat.mode.Mode.TheVariants.{InId, AfterId, DeletionHead, InLits}
use Rattle.cert_stream.proofs.LratTurning.{kept, nothing, parser, turn_blank, turn_visible, by_lit, by_own, first_is, own_is}
use Rattle.cert_stream.proofs.Scanning.{scan_more, scan_bad}
use Rattle.cert_stream.proofs.LratWording.{after_first, alone_says, first_alone}
use Rattle.cert_stream.proofs.LratSpeaking.{speak, bad_ever}
use Rattle.cert_stream.proofs.LratTails.{Tail}
use Rattle.cert_stream.proofs.LratListing.{ids_text}
use Rattle.cert_stream.proofs.LratLiterals.{going_unheard, lits_text}

module _ (vars : ℕ) (ended fed counted : Bool) (broken going more : List LratSaying) (feed : ℕ) (tail : List ℕ) (behind : Tail vars ended fed counted broken going more feed tail) (place : ℕ) where
  -- what the ids of a deletion say
  abbrev deleted : ℕ → List Word → List LratSaying
  deleted id ws = ids_say Deletion counted broken more place id [] [] ws

  -- what the literals of a clause say
  abbrev listed : ℕ → List Word → List LratSaying
  listed id ws = lits_say vars Clause counted broken [] more place id [] ws

  -- after d
  deletion_text : (id : ℕ) (t : List ℕ) (taken : ℕ) → NoFeed t → taken + length t ≡ feed
      → speak ended (parser vars taken place DeletionHead (kept id [] [])) (t ++ tail) ≡ after_first (deleted id) fed taken t
  deletion_text id [] taken h e = let k : taken ≡ feed = omega (arith, e) in ap (λ z. speak ended (parser vars z place DeletionHead (kept id [] [])) tail) k ∙ behind.deletion_head place (kept id [] [])
  deletion_text id (b ∷ bs) taken (h, hs) e =
      let k : taken + 1 + length bs ≡ feed = omega (arith, e) in
      elim (cases_Bool (is_blank b)) [
        | inl t ↦ rw (h, t) (ids_text vars ended fed counted broken going more feed tail behind Deletion place id [] bs hs (taken + 1) [] IdGap [] refl tt (omega arith) k)
        | inr g ↦ rw (h, g) (bad_ever ended (record { kind = BadLine; byte = taken }) vars (taken + 1) place (kept id [] []) (bs ++ tail))
      ]

  -- the literals of a clause, from their first byte on
  literals_text : (id taken b : ℕ) (bs : List ℕ) → eqb b 10 ≡ false → NoFeed bs → is_blank b ≡ false → eqb b 100 ≡ false → taken + 1 + length bs ≡ feed
      → speak ended (parser vars taken place AfterId (kept id [] [])) (b ∷ bs ++ tail) ≡ listed id (words_from fed taken [] (b ∷ bs))
  literals_text id taken b bs h hs g nd k =
      let w = parser vars taken place AfterId (kept id [] []) in
      let v = parser vars taken place (InLits Clause Gap) (kept id [] []) in
      let e : turn w b ≡ with_count taken (visible_first w Clause b) = rw (h, g, nd) refl in
      let f : turn v b ≡ with_count taken (visible_first v Clause b) = rw (h, g) refl in
      ap (λ (z : Turn). told_by z.to z.event ++ speak ended z.to (bs ++ tail))
      (e ∙ ap (with_count taken) (first_is w Clause b ∙ same (first_next vars (leb vars (length {A = ℕ} [])) b) ∙ sym (first_is v Clause b)) ∙ sym f)
      ∙ lits_text vars ended fed counted broken going more feed tail behind Clause place id (b ∷ bs) (h, hs) taken [] Gap [] refl (omega arith) (omega (arith, k))
      ∙ going_unheard vars counted broken going [] more place id [] (words_from fed taken [] (b ∷ bs))
    where
      same : (next : Result Part ParseFaultKind) → by_lit (parser vars taken place AfterId (kept id [] [])) Clause next ≡ by_lit (parser vars taken place (InLits Clause Gap) (kept id [] [])) Clause next
      same (Ok part) = refl
      same (Err x) = refl

  -- after the line's own id and white space
  after_text : (id : ℕ) (t : List ℕ) (taken : ℕ) → NoFeed t → taken + length t ≡ feed
      → speak ended (parser vars taken place AfterId (kept id [] [])) (t ++ tail) ≡ named_says vars counted broken more place id (words_from fed taken [] t)
  after_text id [] taken h e = let k : taken ≡ feed = omega (arith, e) in ap (λ z. speak ended (parser vars z place AfterId (kept id [] [])) tail) k ∙ behind.after_id place (kept id [] [])
  after_text id (b ∷ bs) taken (h, hs) e =
      let k : taken + 1 + length bs ≡ feed = omega (arith, e) in
      elim (cases_Bool (is_blank b)) [
        | inl t ↦ rw (h, t) (after_text id bs (taken + 1) hs k)
        | inr g ↦
            let w = has_word fed (taken + 1) b [] bs in
            let are : words_from fed taken [] (b ∷ bs) ≡ w.word ∷ w.others = words_visible fed taken [] b bs g ∙ w.are in
            visible_text b bs h hs g k w.word w.others are
            ∙ ap (λ z. named_by vars counted broken more place id z w.word w.others) (sym (ap (λ z. slice_index z 0) w.text))
            ∙ sym (ap (named_says vars counted broken more place id) are)
      ]
    where
      visible_text : (b : ℕ) (bs : List ℕ) → eqb b 10 ≡ false → NoFeed bs → is_blank b ≡ false → taken + 1 + length bs ≡ feed → (word : Word) (others : List Word)
          → words_from fed taken [] (b ∷ bs) ≡ word ∷ others
          → speak ended (parser vars taken place AfterId (kept id [] [])) (b ∷ bs ++ tail) ≡ named_by vars counted broken more place id b word others
      visible_text b bs h hs g k word others are =
          elim (cases_Bool (eqb b 100)) [
            | inl t ↦ rw (h, g, t) (deletion_text id bs (taken + 1) hs k ∙ sym (alone_says (deleted id) fed taken b bs) ∙ ap (first_alone (deleted id)) (sym (words_visible fed taken [] b bs g) ∙ are))
            | inr nd ↦ literals_text id taken b bs h hs g nd k ∙ ap (listed id) are ∙ sym (other nd)
          ]
        where
          other : eqb b 100 ≡ false → named_by vars counted broken more place id b word others ≡ listed id (word ∷ others)
          other nd = rw nd refl

  -- what the first word says, and those after it
  abbrev pub on_words : List Word → List LratSaying
  on_words [] = []
  on_words (w ∷ ws) = hinted_says vars counted broken more w ws

  abbrev pub word_says : Scanned ℕ → Word → List Word → List LratSaying
  word_says s w ws =
      elim s [
        | Misfit k n ↦ bad k (w.place + n)
        | Reads id ↦ cond w.done (named_says vars counted broken more w.place id ws) []
      ]

  pub says_word : (s : Scanned ℕ) (w : Word) (ws : List Word) → scan_by own_next 0 w.text ≡ s → on_words (w ∷ ws) ≡ word_says s w ws
  says_word s w ws e = ap (λ z. word_says z w ws) e

  abbrev Again : List ℕ → Type 0
  Again bs = (taken n c : ℕ) (q : List ℕ) → scan_by own_next 0 (c ∷ q) ≡ Reads n → place + length (c ∷ q) ≡ taken → taken + length bs ≡ feed
      → speak ended (parser vars taken place (InId n) nothing) (bs ++ tail) ≡ on_words (words_from fed taken (c ∷ q) bs)

  module _ (bs : List ℕ) (again : Again bs) (taken n c : ℕ) (q : List ℕ) (b : ℕ) (e : scan_by own_next 0 (c ∷ q) ≡ Reads n) (at : place + length (c ∷ q) ≡ taken) (m : taken + 1 + length bs ≡ feed) where
    own_next_text : (next : Result ℕ ParseFaultKind) → own_next n b ≡ next
        → (let z = with_count taken (by_own (parser vars taken place (InId n) nothing) next) in told_by z.to z.event ++ speak ended z.to (bs ++ tail)) ≡ on_words (words_from fed (taken + 1) (c ∷ q ++ b ∷ []) bs)
    own_next_text (Ok to) x =
        let len : length (q ++ b ∷ []) ≡ length q + 1 = length-append q (b ∷ []) in
        again (taken + 1) to c (q ++ b ∷ []) (scan_more own_next 0 n to (c ∷ q) b e x) (omega (arith, len, at)) m
    own_next_text (Err k) x =
        let w = has_word fed (taken + 1) c (q ++ b ∷ []) bs in
        let len : length (q ++ b ∷ []) ≡ length q + 1 = length-append q (b ∷ []) in
        let there : w.word.place + length (c ∷ q) ≡ taken = omega (arith, w.place, len, at) in
        bad_ever ended (record { kind = k; byte = taken }) vars (taken + 1) place nothing (bs ++ tail)
        ∙ sym (ap on_words w.are
        ∙ says_word (Misfit k (length (c ∷ q))) w.word w.others
        (ap (scan_by own_next 0) (w.text ∙ append_assoc (c ∷ q) (b ∷ []) w.more) ∙ scan_bad own_next 0 n (c ∷ q) b w.more k e x)
        ∙ ap (bad k) there)

  -- from a digit of the line's own id on
  pub own_text : (t : List ℕ) → NoFeed t → Again t
  own_text [] h taken n c q e at m =
      let k : taken ≡ feed = omega (arith, m) in
      subst (λ z. speak ended (parser vars z place (InId n) nothing) tail ≡ on_words (words_from fed z (c ∷ q) [])) (sym k)
      (behind.in_id place n nothing ∙ sym (says_word (Reads n) (record { place = feed - length (c ∷ q); text = c ∷ q; done = fed }) [] e))
  own_text (b ∷ bs) (h, hs) taken n c q e at m =
      let w = parser vars taken place (InId n) nothing in
      let m' : taken + 1 + length bs ≡ feed = omega (arith, m) in
      let p : place ≡ taken - length (c ∷ q) = omega (arith, at) in
      elim (cases_Bool (is_blank b)) [
        | inl t ↦
            ap (λ (z : Turn). told_by z.to z.event ++ speak ended z.to (bs ++ tail)) (turn_blank w b h t)
            ∙ after_text n bs (taken + 1) hs m'
            ∙ ap (λ z. named_says vars counted broken more z n (words_from fed (taken + 1) [] bs)) p
            ∙ sym (ap on_words (words_blank fed taken (c ∷ q) b bs t)
            ∙ says_word (Reads n) (record { place = taken - length (c ∷ q); text = c ∷ q; done = true }) (words_from fed (taken + 1) [] bs) e)
        | inr f ↦
            ap (λ (z : Turn). told_by z.to z.event ++ speak ended z.to (bs ++ tail)) (turn_visible w b h f ∙ ap (with_count taken) (own_is w n b))
            ∙ own_next_text bs (own_text bs hs) taken n c q b e at m' (own_next n b) refl
            ∙ sym (ap on_words (words_visible fed taken (c ∷ q) b bs f))
      ]
