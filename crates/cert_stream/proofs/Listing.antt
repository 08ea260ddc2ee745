-- The bytes of a list say what its words say, and then what the later lines say.
use Rattle.std.proofs.Common.{◌≡◌, ℕ, ◌+◌, ◌-◌, ◌≤◌, Bool, true, leb, List, [], ◌∷◌, ◌++◌, length, Result, Ok, Err, refl, ap, sym, ◌∙◌, inl, inr, subst, arith, append_assoc}
use Rattle.std.proofs.lemmas.Bool.{cases_Bool}
use Rattle.std.proofs.lemmas.List.{length-append}
use Rattle.cnf_form.specs.Cnf.{LitOf}
use Rattle.cert_stream.specs.Text.{Word, flush, words_from, is_blank, NoFeed}
use Rattle.cert_stream.specs.Machine.{Turn, counted as with_count, end_part}
use Rattle.cert_stream.specs.Telling.{Saying, told_by}
use Rattle.cert_stream.specs.Scan.{Scanned, Reads, Misfit, part_next, scan}
use Rattle.cert_stream.specs.Stream.{bad, ended_says, heard_says, unended_says, after_says, list_says}
use Rattle.cert_stream.specs.declared.mode.ListKind.{ListKind}
use Rattle.cert_stream.specs.declared.mode.ParseFaultKind.{ParseFaultKind}
use Rattle.cert_stream.specs.declared.mode.ParseFaultKind.TheVariants.{BadLine, BadLiteral}
use Rattle.cert_stream.specs.declared.mode.Part.{Part}
use Rattle.cert_stream.specs.declared.mode.Part.TheVariants.{Gap, Minus, Zero, Digits}
use Rattle.cert_stream.specs.declared.mode.Mode.TheVariants.{InList, Closed, Bad}
use Rattle.cert_stream.proofs.Turning.{parser, turn_blank, turn_visible, by_next, part_is, told_ended, told_heard}
use Rattle.cert_stream.proofs.Scanning.{scan_more, scan_bad}
use Rattle.cert_stream.proofs.Wording.{has_word, words_blank, words_visible}
use Rattle.cert_stream.proofs.Speaking.{speak, bad_ever}
use Rattle.cert_stream.proofs.Tails.{Tail, word_says}

module _ (vars : ℕ) (ended fed counted : Bool) (broken going more : List Saying) (feed : ℕ) (tail : List ℕ) (behind : Tail vars ended fed counted broken going more feed tail) where
  -- after the 0
  closed_text : (place : ℕ) (t : List ℕ) (taken : ℕ) (lits : List LitOf) → NoFeed t → taken + length t ≡ feed
      → speak ended (parser vars taken place Closed lits) (t ++ tail) ≡ after_says more (words_from fed taken [] t)
  closed_text place [] taken lits h e =
      let k : taken ≡ feed = omega (arith, e) in
      ap (λ z. speak ended (parser vars z place Closed lits) tail) k ∙ behind.closed place lits
  closed_text place (b ∷ bs) taken lits (h, hs) e =
      elim (cases_Bool (is_blank b)) [
        | inl t ↦ rw (h, t) (closed_text place bs (taken + 1) lits hs (omega (arith, e)))
        | inr g ↦
            let w = has_word fed (taken + 1) b [] bs in
            let at : w.word.place ≡ taken = w.place ∙ omega arith in
            rw (h, g) (bad_ever ended (record { kind = BadLine; byte = taken }) vars (taken + 1) place lits (bs ++ tail) ∙ ap (bad BadLine) (sym at) ∙ ap (after_says more) (sym w.are))
      ]

  module _ (kind : ListKind) (place : ℕ) where
    abbrev unended : List Saying
    unended = unended_says kind broken going

    abbrev words_say : List LitOf → List Word → List Saying
    words_say lits ws = list_says vars kind counted unended more place lits ws

    abbrev one_says : List LitOf → Scanned Part → Word → List Word → List Saying
    one_says lits s w ws = word_says vars kind counted unended more place lits s w ws

    flushed : (at : ℕ) (lits : List LitOf) (done : Bool) (part : Part) (p : List ℕ) (ws : List Word) → scan vars (leb vars (length lits)) Gap p ≡ Reads part
        → words_say lits (flush done at p ++ ws) ≡ one_says lits (Reads part) (record { place = at - length p; text = p; done = done }) ws
    flushed at lits done part [] ws e =
        let k : Gap ≡ part = cc in ap (λ z. one_says lits (Reads z) (record { place = at - length {A = ℕ} []; text = []; done = done }) ws) k
    flushed at lits done part (c ∷ q) ws e = ap (λ s. one_says lits s (record { place = at - length (c ∷ q); text = c ∷ q; done = done }) ws) e

    misfit_says : (lits : List LitOf) (k : ParseFaultKind) (at n : ℕ) (text : List ℕ) (w : Word) (ws : List Word) → w.text ≡ text → scan vars (leb vars (length lits)) Gap text ≡ Misfit k n
        → w.place + n ≡ at → words_say lits (w ∷ ws) ≡ bad k at
    misfit_says lits k at n text w ws t e a = ap (λ s. one_says lits s w ws) (ap (scan vars (leb vars (length lits)) Gap) t ∙ e) ∙ ap (bad k) a

    abbrev Again : List ℕ → Type 0
    Again bs = (taken : ℕ) (lits : List LitOf) (part : Part) (p : List ℕ) → scan vars (leb vars (length lits)) Gap p ≡ Reads part → length p ≤ taken → taken + length bs ≡ feed
        → speak ended (parser vars taken place (InList kind part) lits) (bs ++ tail) ≡ words_say lits (words_from fed taken p bs)

    module _ (bs : List ℕ) (hs : NoFeed bs) (again : Again bs) (taken : ℕ) (lits : List LitOf) (p : List ℕ) (n : length p ≤ taken) (m : taken + 1 + length bs ≡ feed) where
      blank_says : (part : Part)
          → (let z = with_count taken (end_part (parser vars taken place (InList kind part) lits) kind part) in told_by z.to z.event ++ speak ended z.to (bs ++ tail))
          ≡ one_says lits (Reads part) (record { place = taken - length p; text = p; done = true }) (words_from fed (taken + 1) [] bs)
      blank_says Gap = again (taken + 1) lits Gap [] refl (omega arith) m
      blank_says Minus = bad_ever ended (record { kind = BadLiteral; byte = taken }) vars (taken + 1) place lits (bs ++ tail) ∙ ap (bad BadLiteral) (omega arith)
      blank_says Zero =
          ap (λ z. z ++ speak ended (parser vars (taken + 1) place Closed lits) (bs ++ tail)) (told_ended kind vars (taken + 1) place lits)
          ∙ ap (λ z. ended_says kind place lits ∷ z) (closed_text place bs (taken + 1) lits hs m)
      blank_says (Digits l) =
          ap (λ z. z ++ speak ended (parser vars (taken + 1) place (InList kind Gap) (lits ++ l ∷ [])) (bs ++ tail)) (told_heard kind l (parser vars (taken + 1) place (InList kind Gap) (lits ++ l ∷ [])))
          ∙ ap (λ z. heard_says kind l ++ z) (again (taken + 1) (lits ++ l ∷ []) Gap [] refl (omega arith) m)

      visible_next : (b : ℕ) (part : Part) (next : Result Part ParseFaultKind) → scan vars (leb vars (length lits)) Gap p ≡ Reads part → part_next vars (leb vars (length lits)) part b ≡ next
          → (let z = with_count taken (by_next (parser vars taken place (InList kind part) lits) kind next) in told_by z.to z.event ++ speak ended z.to (bs ++ tail))
          ≡ words_say lits (words_from fed (taken + 1) (p ++ b ∷ []) bs)
      visible_next b part (Ok to) e x =
          let len : length (p ++ b ∷ []) ≡ length p + 1 = length-append p (b ∷ []) in
          let s : scan vars (leb vars (length lits)) Gap (p ++ b ∷ []) ≡ Reads to =
          scan_more (part_next vars (leb vars (length lits))) Gap part to p b e x in
          again (taken + 1) lits to (p ++ b ∷ []) s (omega (arith, len, n)) m
      visible_next b part (Err k) e x = misfit p e n
        where
          misfit : (p : List ℕ) → scan vars (leb vars (length lits)) Gap p ≡ Reads part → length p ≤ taken
              → speak ended (parser vars (taken + 1) place (Bad (record { kind = k; byte = taken })) lits) (bs ++ tail) ≡ words_say lits (words_from fed (taken + 1) (p ++ b ∷ []) bs)
          misfit [] e n =
              let w = has_word fed (taken + 1) b [] bs in
              let at : w.word.place + 0 ≡ taken = omega (arith, w.place) in
              bad_ever ended (record { kind = k; byte = taken }) vars (taken + 1) place lits (bs ++ tail)
              ∙ sym (ap (words_say lits) w.are
              ∙ misfit_says lits k taken 0 (b ∷ w.more) w.word w.others w.text (scan_bad (part_next vars (leb vars (length lits))) Gap part [] b w.more k e x) at)
          misfit (c ∷ q) e n =
              let w = has_word fed (taken + 1) c (q ++ b ∷ []) bs in
              let len : length (q ++ b ∷ []) ≡ length q + 1 = length-append q (b ∷ []) in
              let at : w.word.place + length (c ∷ q) ≡ taken = omega (arith, w.place, len, n) in
              bad_ever ended (record { kind = k; byte = taken }) vars (taken + 1) place lits (bs ++ tail)
              ∙ sym (ap (words_say lits) w.are
              ∙ misfit_says lits k taken (length (c ∷ q)) (c ∷ q ++ b ∷ w.more) w.word w.others (w.text ∙ append_assoc (c ∷ q) (b ∷ []) w.more)
              (scan_bad (part_next vars (leb vars (length lits))) Gap part (c ∷ q) b w.more k e x) at)

    -- from a part of a word on
    pub list_text : (t : List ℕ) → NoFeed t → Again t
    list_text [] h taken lits part p e n m =
        let k : taken ≡ feed = omega (arith, m) in
        subst (λ z. speak ended (parser vars z place (InList kind part) lits) tail ≡ words_say lits (words_from fed z p [])) (sym k)
        (behind.list place kind lits part p (omega (arith, n, k)) ∙ sym (flushed feed lits fed part p [] e))
    list_text (b ∷ bs) (h, hs) taken lits part p e n m =
        let w = parser vars taken place (InList kind part) lits in
        let m' : taken + 1 + length bs ≡ feed = omega (arith, m) in
        elim (cases_Bool (is_blank b)) [
          | inl t ↦
              ap (λ (z : Turn). told_by z.to z.event ++ speak ended z.to (bs ++ tail)) (turn_blank w b h t)
              ∙ blank_says bs hs (list_text bs hs) taken lits p n m' part
              ∙ sym (ap (words_say lits) (words_blank fed taken p b bs t) ∙ flushed taken lits true part p (words_from fed (taken + 1) [] bs) e)
          | inr f ↦
              ap (λ (z : Turn). told_by z.to z.event ++ speak ended z.to (bs ++ tail)) (turn_visible w b h f ∙ ap (with_count taken) (part_is w kind part b))
              ∙ visible_next bs hs (list_text bs hs) taken lits p n m' b part (part_next vars (leb vars (length lits)) part b) e refl
              ∙ sym (ap (words_say lits) (words_visible fed taken p b bs f))
        ]
