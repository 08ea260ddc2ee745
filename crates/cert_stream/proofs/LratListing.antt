-- The bytes of a list say what its words say, and then what the later lines say.
use Rattle.std.proofs.Common.{◌≡◌, ℕ, ◌+◌, ◌-◌, ◌≤◌, Bool, true, leb, List, [], ◌∷◌, ◌++◌, length, Result, Ok, Err, Some, refl, ap, sym, ◌∙◌, inl, inr, subst, arith, append_assoc}
use Rattle.std.proofs.lemmas.Bool.{cases_Bool}
use Rattle.std.proofs.lemmas.List.{length-append}
use Rattle.cnf_form.specs.Cnf.{LitOf}
use Rattle.cert_stream.specs.Text.{Word, flush, words_from, is_blank, NoFeed}
use Rattle.cert_stream.specs.declared.mode.ParseFaultKind.{ParseFaultKind}
use Rattle.cert_stream.specs.declared.mode.ParseFaultKind.TheVariants.{BadLine, BadLiteral}
use Rattle.cert_stream.proofs.Wording.{has_word, words_blank, words_visible}
use Rattle.cert_stream.specs.LratMachine.{Turn, counted as with_count, end_id_part, ended as event_ended, most_hints}
use Rattle.cert_stream.specs.LratTelling.{LratSaying, told_by}
use Rattle.cert_stream.specs.Scan.{Scanned, Reads, Misfit, scan_by}
use Rattle.cert_stream.specs.LratScan.{part_next}
use Rattle.cert_stream.specs.LratLines.{bad, after_says, ids_ended, ids_say}
use Rattle.cert_stream.specs.declared.lrat.mode.Hint.{Hint}
use Rattle.cert_stream.specs.declared.lrat.mode.IdList.{IdList}
use Rattle.cert_stream.specs.declared.lrat.mode.IdList.TheVariants.{Hints, Deletion}
use Rattle.cert_stream.specs.declared.lrat.mode.IdPart.{IdPart}
use Rattle.cert_stream.specs.declared.lrat.mode.IdPart.TheVariants.{Gap, Minus, Zero, Digits}
use Rattle.cert_stream.specs.declared.lrat.mode.Mode.TheVariants.{InIds, Closed, Bad}
use Rattle.cert_stream.proofs.LratTurning.{Kept, kept, parser, turn_blank, turn_visible, by_id, id_part_is}
use Rattle.cert_stream.proofs.Scanning.{scan_more, scan_bad}
use Rattle.cert_stream.proofs.LratScanning.{IsBegun, next_begun, place_begun}
use Rattle.cert_stream.proofs.LratSpeaking.{speak, bad_ever}
use Rattle.cert_stream.proofs.LratTails.{Tail, id_word_says}

module _ (vars : ℕ) (ended fed counted : Bool) (broken going more : List LratSaying) (feed : ℕ) (tail : List ℕ) (behind : Tail vars ended fed counted broken going more feed tail) where
  -- after the last 0
  pub closed_text : (place : ℕ) (t : List ℕ) (taken : ℕ) (line : Kept) → NoFeed t → taken + length t ≡ feed
      → speak ended (parser vars taken place Closed line) (t ++ tail) ≡ after_says more (words_from fed taken [] t)
  closed_text place [] taken line h e =
      let k : taken ≡ feed = omega (arith, e) in
      ap (λ z. speak ended (parser vars z place Closed line) tail) k ∙ behind.closed place line
  closed_text place (b ∷ bs) taken line (h, hs) e =
      elim (cases_Bool (is_blank b)) [
        | inl t ↦ rw (h, t) (closed_text place bs (taken + 1) line hs (omega (arith, e)))
        | inr g ↦
            let w = has_word fed (taken + 1) b [] bs in
            let at : w.word.place ≡ taken = w.place ∙ omega arith in
            rw (h, g) (bad_ever ended (record { kind = BadLine; byte = taken }) vars (taken + 1) place line (bs ++ tail) ∙ ap (bad BadLine) (sym at) ∙ ap (after_says more) (sym w.are))
      ]

  module _ (kind : IdList) (place id : ℕ) (lits : List LitOf) where
    abbrev words_say : List Hint → List Word → List LratSaying
    words_say hints ws = ids_say kind counted broken more place id lits hints ws

    abbrev one_says : List Hint → Scanned IdPart → Word → List Word → List LratSaying
    one_says hints s w ws = id_word_says kind counted broken more place id lits hints s w ws

    abbrev is_full : List Hint → Bool
    is_full hints = leb most_hints (length hints)

    -- a word, whose first byte is byte number `at`, read from the left
    abbrev read : List Hint → ℕ → List ℕ → Scanned IdPart
    read hints at text = scan_by (part_next kind (is_full hints) at) Gap text

    flushed : (at : ℕ) (hints : List Hint) (done : Bool) (part : IdPart) (p : List ℕ) (ws : List Word) → read hints (at - length p) p ≡ Reads part
        → words_say hints (flush done at p ++ ws) ≡ one_says hints (Reads part) (record { place = at - length p; text = p; done = done }) ws
    flushed at hints done part [] ws e =
        let k : Gap ≡ part = cc in ap (λ z. one_says hints (Reads z) (record { place = at - length {A = ℕ} []; text = []; done = done }) ws) k
    flushed at hints done part (c ∷ q) ws e = ap (λ s. one_says hints s (record { place = at - length (c ∷ q); text = c ∷ q; done = done }) ws) e

    misfit_says : (hints : List Hint) (k : ParseFaultKind) (start at n : ℕ) (text : List ℕ) (w : Word) (ws : List Word) → w.text ≡ text → w.place ≡ start
        → read hints start text ≡ Misfit k n → start + n ≡ at → words_say hints (w ∷ ws) ≡ bad k at
    misfit_says hints k start at n text w ws t s e a =
        ap (λ z. one_says hints z w ws) (ap (λ z. read hints w.place z) t ∙ ap (λ z. read hints z text) s ∙ e) ∙ ap (λ z. bad k (z + n)) s ∙ ap (bad k) a

    -- after a part of a word the place of its first byte is known, and a gap is no part of one
    abbrev IsPending : List ℕ → IdPart → Type 0
    IsPending [] part = Unit {0}
    IsPending (c ∷ q) part = IsBegun part

    abbrev Again : List ℕ → Type 0
    Again bs = (taken : ℕ) (hints : List Hint) (part : IdPart) (p : List ℕ) → read hints (taken - length p) p ≡ Reads part → IsPending p part → length p ≤ taken → taken + length bs ≡ feed
        → speak ended (parser vars taken place (InIds kind part) (kept id lits hints)) (bs ++ tail) ≡ words_say hints (words_from fed taken p bs)

    module _ (bs : List ℕ) (hs : NoFeed bs) (again : Again bs) (taken : ℕ) (hints : List Hint) (p : List ℕ) (n : length p ≤ taken) (m : taken + 1 + length bs ≡ feed) where
      blank_says : (part : IdPart)
          → (let z = with_count taken (end_id_part (parser vars taken place (InIds kind part) (kept id lits hints)) kind part) in told_by z.to z.event ++ speak ended z.to (bs ++ tail))
          ≡ one_says hints (Reads part) (record { place = taken - length p; text = p; done = true }) (words_from fed (taken + 1) [] bs)
      blank_says Gap = again (taken + 1) hints Gap [] refl tt (omega arith) m
      blank_says (Minus at) = bad_ever ended (record { kind = BadLiteral; byte = taken }) vars (taken + 1) place (kept id lits hints) (bs ++ tail) ∙ ap (bad BadLiteral) (omega arith)
      blank_says Zero = zero_says kind
        where
          zero_says : (k : IdList) → told_by (parser vars (taken + 1) place Closed (kept id lits hints)) (Some (event_ended k)) ++ speak ended (parser vars (taken + 1) place Closed (kept id lits hints)) (bs ++ tail)
              ≡ ids_ended k place id lits hints ∷ after_says more (words_from fed (taken + 1) [] bs)
          zero_says Hints = ap (λ z. ids_ended Hints place id lits hints ∷ z) (closed_text place bs (taken + 1) (kept id lits hints) hs m)
          zero_says Deletion = ap (λ z. ids_ended Deletion place id lits hints ∷ z) (closed_text place bs (taken + 1) (kept id lits hints) hs m)
      blank_says (Digits h) = again (taken + 1) (hints ++ h ∷ []) Gap [] refl tt (omega arith) m

      -- the word's place, with which the next byte is read
      placed : (part : IdPart) (b : ℕ) (q : List ℕ) → q ≡ p → IsPending q part → part_next kind (is_full hints) (taken - length p) part b ≡ part_next kind (is_full hints) taken part b
      placed part b [] e i = let l : length p ≡ length {A = ℕ} [] = sym (ap length e) in let k : taken - length p ≡ taken = omega (arith, l) in ap (λ z. part_next kind (is_full hints) z part b) k
      placed part b (c ∷ q) e i = place_begun kind (is_full hints) (taken - length p) taken part b i

      pending_more : (part to : IdPart) (b : ℕ) (q : List ℕ) → part_next kind (is_full hints) taken part b ≡ Ok to → IsPending (q ++ b ∷ []) to
      pending_more part to b [] x = next_begun kind (is_full hints) taken part to b x
      pending_more part to b (c ∷ q) x = next_begun kind (is_full hints) taken part to b x

      visible_next : (b : ℕ) (part : IdPart) (next : Result IdPart ParseFaultKind) → read hints (taken - length p) p ≡ Reads part → IsPending p part
          → part_next kind (is_full hints) taken part b ≡ next
          → (let z = with_count taken (by_id (parser vars taken place (InIds kind part) (kept id lits hints)) kind next) in told_by z.to z.event ++ speak ended z.to (bs ++ tail))
          ≡ words_say hints (words_from fed (taken + 1) (p ++ b ∷ []) bs)
      visible_next b part (Ok to) e i x =
          let len : length (p ++ b ∷ []) ≡ length p + 1 = length-append p (b ∷ []) in
          let same : taken - length p ≡ (taken + 1) - length (p ++ b ∷ []) = omega (arith, len, n) in
          let s : read hints (taken - length p) (p ++ b ∷ []) ≡ Reads to =
          scan_more (part_next kind (is_full hints) (taken - length p)) Gap part to p b e (placed part b p refl i ∙ x) in
          again (taken + 1) hints to (p ++ b ∷ []) (subst (λ z. read hints z (p ++ b ∷ []) ≡ Reads to) same s) (pending_more part to b p x) (omega (arith, len, n)) m
      visible_next b part (Err k) e i x = misfit p refl
        where
          misfit : (q : List ℕ) → q ≡ p
              → speak ended (parser vars (taken + 1) place (Bad (record { kind = k; byte = taken })) (kept id lits hints)) (bs ++ tail) ≡ words_say hints (words_from fed (taken + 1) (q ++ b ∷ []) bs)
          misfit [] y =
              let w = has_word fed (taken + 1) b [] bs in
              let none : length p ≡ length {A = ℕ} [] = sym (ap length y) in
              let at : w.word.place ≡ taken - length p = omega (arith, w.place, none) in
              bad_ever ended (record { kind = k; byte = taken }) vars (taken + 1) place (kept id lits hints) (bs ++ tail)
              ∙ sym (ap (words_say hints) w.are
              ∙ misfit_says hints k (taken - length p) taken (length p) (p ++ b ∷ w.more) w.word w.others (w.text ∙ ap (λ z. z ++ b ∷ w.more) y) at
              (scan_bad (part_next kind (is_full hints) (taken - length p)) Gap part p b w.more k e (placed part b p refl i ∙ x)) (omega (arith, n)))
          misfit (c ∷ q) y =
              let w = has_word fed (taken + 1) c (q ++ b ∷ []) bs in
              let len : length (q ++ b ∷ []) ≡ length q + 1 = length-append q (b ∷ []) in
              let long : length p ≡ length (c ∷ q) = sym (ap length y) in
              let at : w.word.place ≡ taken - length p = omega (arith, w.place, len, long, n) in
              bad_ever ended (record { kind = k; byte = taken }) vars (taken + 1) place (kept id lits hints) (bs ++ tail)
              ∙ sym (ap (words_say hints) w.are
              ∙ misfit_says hints k (taken - length p) taken (length p) (p ++ b ∷ w.more) w.word w.others (w.text ∙ append_assoc (c ∷ q) (b ∷ []) w.more ∙ ap (λ z. z ++ b ∷ w.more) y) at
              (scan_bad (part_next kind (is_full hints) (taken - length p)) Gap part p b w.more k e (placed part b p refl i ∙ x)) (omega (arith, n)))

    -- from a part of a word on
    pub ids_text : (t : List ℕ) → NoFeed t → Again t
    ids_text [] h taken hints part p e i n m =
        let k : taken ≡ feed = omega (arith, m) in
        subst (λ z. speak ended (parser vars z place (InIds kind part) (kept id lits hints)) tail ≡ words_say hints (words_from fed z p [])) (sym k)
        (behind.ids place kind id lits hints part p (omega (arith, n, k)) ∙ sym (flushed feed hints fed part p [] (subst (λ z. read hints (z - length p) p ≡ Reads part) k e)))
    ids_text (b ∷ bs) (h, hs) taken hints part p e i n m =
        let w = parser vars taken place (InIds kind part) (kept id lits hints) in
        let m' : taken + 1 + length bs ≡ feed = omega (arith, m) in
        elim (cases_Bool (is_blank b)) [
          | inl t ↦
              ap (λ (z : Turn). told_by z.to z.event ++ speak ended z.to (bs ++ tail)) (turn_blank w b h t)
              ∙ blank_says bs hs (ids_text bs hs) taken hints p n m' part
              ∙ sym (ap (words_say hints) (words_blank fed taken p b bs t) ∙ flushed taken hints true part p (words_from fed (taken + 1) [] bs) e)
          | inr f ↦
              ap (λ (z : Turn). told_by z.to z.event ++ speak ended z.to (bs ++ tail)) (turn_visible w b h f ∙ ap (with_count taken) (id_part_is w kind part b))
              ∙ visible_next bs hs (ids_text bs hs) taken hints p n m' b part (part_next kind (is_full hints) taken part b) e i refl
              ∙ sym (ap (words_say hints) (words_visible fed taken p b bs f))
        ]
