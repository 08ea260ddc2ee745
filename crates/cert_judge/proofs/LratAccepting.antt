-- A hinted certificate is found.
use Rattle.std.proofs.Common.{◌≡◌, ◌≢◌, ◌⊎◌, ℕ, ◌+◌, ◌≤◌, Bool, true, false, cond, ◌||◌, eqb, leb, List, [], ◌∷◌, ◌++◌, length, Some, None, refl, sym, ap, ◌∙◌, subst, inl, inr, arith, append_assoc}
use Rattle.std.specs.Prelude.{codes, is_some, slice_index, map, flat_map}
use Rattle.std.proofs.lemmas.Bool.{cases_Bool, eq-eqb, eqb-true, lt-leb}
use Rattle.std.proofs.lemmas.Bool.Decides.{nat_tests}
use Rattle.std.proofs.lemmas.List.{length-append, append-nil}
use Rattle.std.proofs.lemmas.List.Elements.{All-head, All-tail}
use Rattle.cnf_form.specs.Cnf.{LitOf, FormulaOf, Assignment, Satisfies}
use Rattle.cert_stream.specs.Text.{Word, id_of, is_digit, lines_of, literal_of, words_from}
use Rattle.cert_stream.specs.Places.{AreDone}
use Rattle.cert_stream.specs.Scan.{Scanned, Reads, Misfit, scan_by}
use Rattle.cert_stream.specs.LratMachine.{hint, most_hints}
use Rattle.cert_stream.specs.LratScan.{own_next}
use Rattle.cert_stream.specs.LratTelling.{LratSaying, IsClause, IsDelete, IsValue, IsValuesEnd, IsUnknown}
use Rattle.cert_stream.specs.LratLines.{alone, bad, heard_says, ids_ended, ids_say, line_says, lines_say, lits_ended, lits_say, named_by, named_says, sayings, visible_says}
use Rattle.cert_stream.specs.declared.lrat.mode.Hint.{Hint}
use Rattle.cert_stream.specs.declared.lrat.mode.LitList.{LitList}
use Rattle.cert_stream.specs.declared.lrat.mode.LitList.TheVariants.{Clause as ClauseList, Values as ValuesList}
use Rattle.cert_stream.specs.declared.lrat.mode.IdList.{IdList}
use Rattle.cert_stream.specs.declared.lrat.mode.IdList.TheVariants.{Hints, Deletion}
use Rattle.cert_stream.specs.declared.mode.ParseFaultKind.TheVariants.{BadLine}
use Rattle.cert_stream.proofs.Apart.{literal_byte, literal_read, zero_read}
use Rattle.cert_stream.proofs.Digits.{digit_bounds, number_front}
use Rattle.cert_stream.proofs.LratIds.{id_back, id_is, own_back, zero_back}
use Rattle.cert_stream.proofs.LratTails.{id_word_says, lit_word_says}
use Rattle.lrat_check.specs.Hints.{IsHinted, Live}
use Rattle.sby_terms.specs.declared.names.Answer.{Answer}
use Rattle.sby_terms.specs.declared.names.Answer.TheVariants.{Sat, Unsat}
use Rattle.cert_judge.specs.Values.{named, named_from, unnamed}
use Rattle.cert_judge.specs.Fate.{Found}
use Rattle.cert_judge.specs.Lrat.{ByHints, StreamFate, SayingsFate, Held, HintsFate, added, deleted, first_bad, held_first, ids_of, is_good}
use Rattle.cert_judge.specs.Kinds.{FateOf}
use Rattle.cert_judge.specs.declared.stream.StreamKind.TheVariants.{Lrat}
use Rattle.cert_judge.specs.DrupCert.{words, IsEnded, IsIdle, IsRemark, Names, Writes}
use Rattle.cert_judge.specs.LratCert.{AreIds, AreLive, IsAdmittedAs, IsCertOf, IsClauseLine, IsDeletionLine, IsRefutation, Leads, WriteIds, held_without}
use Rattle.cert_judge.proofs.CertLines.{status_idle}
use Rattle.cert_judge.proofs.DrupLines.{AreDoneBut, but_rest, done_all, done_but, done_front, ends_at, line_texts, texts}
use Rattle.cert_judge.proofs.LratCerts.{none_heard, without_ids}
use Rattle.cert_judge.proofs.Naming.{names_found}

-- words in two parts
pub record Parted (ws : List Word) (front back : List (List ℕ)) : Type 0 where
  pub before : List Word
  pub after : List Word
  pub are : ws ≡ before ++ after
  pub fronts : texts before ≡ front
  pub backs : texts after ≡ back

pub parted_at : (ws : List Word) (front back : List (List ℕ)) → texts ws ≡ front ++ back → Parted ws front back
parted_at ws [] back e = record { before = []; after = ws; are = refl; fronts = refl; backs = e }
parted_at [] (a ∷ front) back e = cc
parted_at (w ∷ ws) (a ∷ front) back e =
    let k : w.text ≡ a = cc in
    let m : texts ws ≡ front ++ back = cc in
    let h = parted_at ws front back m in
    record { before = w ∷ h.before; after = h.after; are = ap (λ z. w ∷ z) h.are; fronts = ap (λ z. w.text ∷ z) h.fronts ∙ ap (λ z. z ∷ front) k; backs = h.backs }

-- white space or a line feed follows each word but maybe the last one
but_parts : (front : List Word) (w : Word) (back : List Word) → AreDoneBut (front ++ w ∷ back) → AreDone front × AreDoneBut (w ∷ back)
but_parts [] w back h = (tt, h)
but_parts (v ∷ []) w back h = ((h.0, tt), h.1)
but_parts (v ∷ u ∷ front) w back h = let k = but_parts (u ∷ front) w back h.1 in ((h.0, k.0), k.1)

done_are_but : (ws : List Word) → AreDone ws → AreDoneBut ws
done_are_but [] h = tt
done_are_but (w ∷ []) h = tt
done_are_but (w ∷ v ∷ ws) h = (h.0, done_are_but (v ∷ ws) h.1)

-- the hints that ids at places are
abbrev HintsAre : List ℕ → List Hint → Type 0
HintsAre [] hs = hs ≡ []
HintsAre (n ∷ ids) [] = ⊥
HintsAre (n ∷ ids) (h ∷ hs) = (h.id ≡ n) × (h.negated ≡ false) × HintsAre ids hs

hints_ids : (ids : List ℕ) (hs : List Hint) → HintsAre ids hs → ids_of hs ≡ ids
hints_ids [] [] h = refl
hints_ids [] (i ∷ hs) h = cc
hints_ids (n ∷ ids) [] h = absurd h
hints_ids (n ∷ ids) (i ∷ hs) (e, g, h) = ap (λ z. z ∷ ids_of hs) e ∙ ap (λ z. n ∷ z) (hints_ids ids hs h)

live_first : (live : Live) (n : ℕ) (ids : List ℕ) → AreLive live (n ∷ ids) → ((c : List LitOf) × (live n ≡ Some c)) × AreLive live ids
live_first live n ids h = (All-head (λ id. (c : List LitOf) × (live id ≡ Some c)) n ids h, All-tail (λ id. (c : List LitOf) × (live id ≡ Some c)) n ids h)

none_bad : (live : Live) (ids : List ℕ) (hs : List Hint) → HintsAre ids hs → AreLive live ids → first_bad live hs ≡ None
none_bad live [] [] h l = refl
none_bad live [] (i ∷ hs) h l = cc
none_bad live (n ∷ ids) [] h l = absurd h
none_bad live (n ∷ ids) (i ∷ hs) (e, g, h) l =
    let k = live_first live n ids l in
    let s : is_some (live i.id) ≡ true = ap (λ z. is_some (live z)) e ∙ ap is_some k.0.1 in
    let q : is_good live i ≡ true = rw (g, s) refl in
    rw q (none_bad live ids hs h k.1)

or_true : (b : Bool) → (b || true) ≡ true
or_true true = refl
or_true false = refl

-- a digit's byte begins a hinted line
digit_byte : (b : ℕ) → is_digit b ≡ true → (eqb b 99 ≡ false) × (eqb b 118 ≡ false) × (eqb b 115 ≡ false) × (eqb b 100 ≡ false)
digit_byte b h =
    let d = digit_bounds b h in
    let u : eqb b 99 ≡ false = grind (arith, nat_tests, d) in
    let v : eqb b 118 ≡ false = grind (arith, nat_tests, d) in
    let x : eqb b 115 ≡ false = grind (arith, nat_tests, d) in
    let y : eqb b 100 ≡ false = grind (arith, nat_tests, d) in
    (u, v, x, y)

id_byte : (text : List ℕ) (n : ℕ) → id_of text ≡ Some n → is_digit (slice_index text 0) ≡ true
id_byte [] n h = cc
id_byte (b ∷ bs) n h = (number_front [] b bs (id_is (b ∷ bs) n h).0.0).0

literal_no_d : (vars : ℕ) (text : List ℕ) (l : LitOf) → literal_of vars text ≡ Some l → eqb (slice_index text 0) 100 ≡ false
literal_no_d vars text l h =
    let k = literal_byte vars text l h in
    elim (cases_Bool (eqb (slice_index text 0) 45)) [
      | inl t ↦ rw (eqb-true (slice_index text 0) 45 t) refl
      | inr f ↦ (digit_byte (slice_index text 0) (rw f at k)).3
    ]

alone_one : (w : Word) (c : ℕ) (ss : List LratSaying) → w.text ≡ c ∷ [] → alone w ss ≡ ss
alone_one w c ss e = ap (λ t. cond (eqb (length t) 1) ss (bad BadLine (w.place + 1))) e

-- the 0 after a clause's literals isn't the line's last word
zero_done : (zero : Word) (rest : List Word) (back : List (List ℕ)) (ids : List ℕ) → AreDoneBut (zero ∷ rest) → texts rest ≡ back → AreIds back ids → zero.done ≡ true
zero_done zero [] back ids d t (front, e, w, l) = absurd (none front (t ∙ e))
  where
    none : (front : List (List ℕ)) → [] ≡ front ++ codes "0" ∷ [] → ⊥
    none [] q = cc
    none (v ∷ front) q = cc
zero_done zero (v ∷ rest) back ids d t h = d.0

-- what a line's own id says, and the words after it
abbrev own_word_says : ℕ → Bool → List LratSaying → List LratSaying → Scanned ℕ → Word → List Word → List LratSaying
own_word_says vars counted broken more s w ws = elim s [ Misfit k n ↦ bad k (w.place + n) | Reads id ↦ cond w.done (named_says vars counted broken more w.place id ws) [] ]

hinted_first : (vars : ℕ) (counted : Bool) (broken going more : List LratSaying) (w : Word) (ws : List Word) → is_digit (slice_index w.text 0) ≡ true → eqb (slice_index w.text 0) 99 ≡ false
    → eqb (slice_index w.text 0) 118 ≡ false → eqb (slice_index w.text 0) 115 ≡ false
    → line_says vars counted false broken going more (w ∷ ws) ≡ own_word_says vars counted broken more (scan_by own_next 0 w.text) w ws
hinted_first vars counted broken going more w ws d c v s = rw (c, v, s, d) refl

module _ (vars : ℕ) (C : List (List LitOf)) (a : Answer) where
  abbrev Finds : Held → Assignment → List LratSaying → Type 0
  Finds F x ss = SayingsFate C F x ss (Some (Found a))

  -- the values of a line are named
  values_named : (F : Held) (x : Assignment) (lits : List LitOf) (ss : List LratSaying) → Finds F (named_from x lits) ss → Finds F x (flat_map (heard_says ValuesList) lits ++ ss)
  values_named F x [] ss h = h
  values_named F x (l ∷ lits) ss h = values_named F (named x l) lits ss h

  -- words of literals and 0, and what comes after them
  lits_words : (kind : LitList) (counted : Bool) (broken going more : List LratSaying) (place id : ℕ) (lits : List LitOf) (ws : List Word) (zero : Word) (rest : List Word) (c : List LitOf)
      → AreDone ws → Writes vars (texts ws) c → length lits + length c ≤ vars → zero.text ≡ codes "0"
      → lits_say vars kind counted broken going more place id lits (ws ++ zero ∷ rest) ≡ flat_map (heard_says kind) c ++ lits_ended kind zero.done counted broken more place id (lits ++ c) rest
  lits_words kind counted broken going more place id lits [] zero rest [] d w l z =
      ap (λ s. lit_word_says vars kind counted broken going more place id lits s zero rest) (zero_read vars (leb vars (length lits)) zero.text z)
      ∙ ap (λ x. lits_ended kind zero.done counted broken more place id x rest) (sym (append-nil lits))
  lits_words kind counted broken going more place id lits [] zero rest (m ∷ c) d w l z = cc
  lits_words kind counted broken going more place id lits (w ∷ ws) zero rest [] d k l z = absurd k
  lits_words kind counted broken going more place id lits (w ∷ ws) zero rest (m ∷ c) (d, ds) (e, k) l z =
      let full : leb vars (length lits) ≡ false = lt-leb vars (length lits) (omega (arith, l)) in
      let len : length (lits ++ m ∷ []) ≡ length lits + 1 = length-append lits (m ∷ []) in
      ap (λ s. lit_word_says vars kind counted broken going more place id lits s w (ws ++ zero ∷ rest)) (literal_read vars (leb vars (length lits)) w.text m full e)
      ∙ ap (λ b. cond b (heard_says kind m ++ lits_say vars kind counted broken going more place id (lits ++ m ∷ []) (ws ++ zero ∷ rest)) []) d
      ∙ ap (λ x. heard_says kind m ++ x) (lits_words kind counted broken going more place id (lits ++ m ∷ []) ws zero rest c ds k (omega (arith, l, len)) z)
      ∙ sym (append_assoc (heard_says kind m) (flat_map (heard_says kind) c) (lits_ended kind zero.done counted broken more place id ((lits ++ m ∷ []) ++ c) rest))
      ∙ ap (λ x. (heard_says kind m ++ flat_map (heard_says kind) c) ++ lits_ended kind zero.done counted broken more place id x rest) (append_assoc lits (m ∷ []) c)

  -- a clause's literals don't begin as a deletion does
  named_lits : (counted : Bool) (broken more : List LratSaying) (place id : ℕ) (lits : List Word) (zero : Word) (rest : List Word) (c : List LitOf) → zero.text ≡ codes "0" → Writes vars (texts lits) c
      → named_says vars counted broken more place id (lits ++ zero ∷ rest) ≡ lits_say vars ClauseList counted broken [] more place id [] (lits ++ zero ∷ rest)
  named_lits counted broken more place id [] zero rest c z w = ap (λ x. named_by vars counted broken more place id (slice_index x 0) zero rest) z
  named_lits counted broken more place id (v ∷ lits) zero rest [] z w = absurd w
  named_lits counted broken more place id (v ∷ lits) zero rest (m ∷ c) z (e, w) =
      ap (λ b. cond b (alone v (ids_say Deletion counted broken more place id [] [] (lits ++ zero ∷ rest))) (lits_say vars ClauseList counted broken [] more place id [] (v ∷ lits ++ zero ∷ rest)))
      (literal_no_d vars v.text m e)

  -- words of ids and a 0 that counts
  ids_words : (kind : IdList) (counted : Bool) (broken more : List LratSaying) (place id : ℕ) (lits : List LitOf) (hs : List Hint) (ws : List Word) (zero : Word) (ids : List ℕ)
      → AreDone ws → WriteIds (texts ws) ids → length hs + length ids ≤ most_hints → zero.text ≡ codes "0" → (zero.done || counted) ≡ true
      → (got : List Hint) × HintsAre ids got × (ids_say kind counted broken more place id lits hs (ws ++ zero ∷ []) ≡ ids_ended kind place id lits (hs ++ got) ∷ more)
  ids_words kind counted broken more place id lits hs [] zero [] d w l z c = (
    [],
    refl,
    ap (λ s. id_word_says kind counted broken more place id lits hs s zero []) (zero_back kind (leb most_hints (length hs)) zero.place zero.text z)
        ∙ ap (λ b. cond b (ids_ended kind place id lits hs ∷ more) []) c
        ∙ ap (λ x. ids_ended kind place id lits x ∷ more) (sym (append-nil hs)),
  )
  ids_words kind counted broken more place id lits hs [] zero (n ∷ ids) d w l z c = cc
  ids_words kind counted broken more place id lits hs (w ∷ ws) zero [] d k l z c = absurd k
  ids_words kind counted broken more place id lits hs (w ∷ ws) zero (n ∷ ids) (d, ds) (e, k) l z c =
      let i : Hint = hint n false w.place in
      let full : leb most_hints (length hs) ≡ false = lt-leb most_hints (length hs) (omega (arith, l)) in
      let len : length (hs ++ i ∷ []) ≡ length hs + 1 = length-append hs (i ∷ []) in
      let again = ids_words kind counted broken more place id lits (hs ++ i ∷ []) ws zero ids ds k (omega (arith, l, len)) z c in (
        i ∷ again.0,
        (refl, refl, again.1),
        ap (λ s. id_word_says kind counted broken more place id lits hs s w (ws ++ zero ∷ [])) (id_back kind (leb most_hints (length hs)) w.place w.text n full e)
            ∙ ap (λ b. cond b (ids_say kind counted broken more place id lits (hs ++ i ∷ []) (ws ++ zero ∷ [])) []) d
            ∙ again.2 ∙ ap (λ x. ids_ended kind place id lits x ∷ more) (append_assoc hs (i ∷ []) again.0),
      )

  -- the words of a line, of which white space or a line feed follows each but maybe the last one, whose 0 counts all the same
  module _ (counted : Bool) (broken going more : List LratSaying) (here : List Word) (but : AreDoneBut here) (last : (front : List Word) (w : Word) → here ≡ front ++ w ∷ [] → (w.done || counted) ≡ true) where
    -- ids and 0 at a line's end
    ids_at_end : (kind : IdList) (place id : ℕ) (lits : List LitOf) (front ws : List Word) (all : List (List ℕ)) (ids : List ℕ) → here ≡ front ++ ws → AreDoneBut ws → texts ws ≡ all → AreIds all ids
        → (got : List Hint) × HintsAre ids got × (ids_say kind counted broken more place id lits [] ws ≡ ids_ended kind place id lits got ∷ more)
    ids_at_end kind place id lits front ws all ids e d t (us, q, w, n) =
        let k = ends_at ws us (codes "0") (t ∙ q) in
        let s = ids_words kind counted broken more place id lits [] k.before k.word ids (done_front k.before k.word (subst AreDoneBut k.are d)) (subst (λ z. WriteIds z ids) (sym k.texts) w) (omega (arith, n)) k.text
        (last (front ++ k.before) k.word (e ∙ ap (λ z. front ++ z) k.are ∙ sym (append_assoc front k.before (k.word ∷ [])))) in
        (s.0, s.1, ap (ids_say kind counted broken more place id lits []) k.are ∙ s.2)

    -- a line's first word is its own id
    own_says : (w : Word) (vs : List Word) (id : ℕ) → id_of w.text ≡ Some id → w.done ≡ true
        → line_says vars counted false broken going more (w ∷ vs) ≡ named_says vars counted broken more w.place id vs
    own_says w vs id n d =
        let b = id_byte w.text id n in
        let k = digit_byte (slice_index w.text 0) b in
        hinted_first vars counted broken going more w vs b k.0 k.1 k.2
        ∙ ap (λ z. own_word_says vars counted broken more z w vs) (own_back w.text id n)
        ∙ ap (λ z. cond z (named_says vars counted broken more w.place id vs) []) d

    clause_parts : (id : ℕ) (c : List LitOf) (hints : List ℕ) (own : Word) (lits : List Word) (zero : Word) (rest : List Word) (back : List (List ℕ))
        → here ≡ own ∷ (lits ++ zero ∷ rest) → id_of own.text ≡ Some id → Writes vars (texts lits) c → length c ≤ vars → zero.text ≡ codes "0" → texts rest ≡ back → AreIds back hints
        → (place : ℕ) × (got : List Hint) × HintsAre hints got × (line_says vars counted false broken going more here ≡ IsClause id c got place ∷ more)
    clause_parts id c hints own lits zero rest back e n w l z t ids =
        let b : AreDoneBut (own ∷ (lits ++ zero ∷ rest)) = subst AreDoneBut e but in
        let k = but_parts (own ∷ lits) zero rest b in
        let d : zero.done ≡ true = zero_done zero rest back hints k.1 t ids in
        let i : here ≡ (own ∷ (lits ++ zero ∷ [])) ++ rest = e ∙ ap (λ x. own ∷ x) (sym (append_assoc lits (zero ∷ []) rest)) in
        let s = ids_at_end Hints own.place id c (own ∷ (lits ++ zero ∷ [])) rest back hints i (but_rest zero rest k.1) t ids in (
          own.place,
          s.0,
          s.1,
          ap (line_says vars counted false broken going more) e ∙ own_says own (lits ++ zero ∷ rest) id n k.0.0
              ∙ named_lits counted broken more own.place id lits zero rest c z w
              ∙ lits_words ClauseList counted broken [] more own.place id [] lits zero rest c k.0.1 w (omega (arith, l)) z
              ∙ ap (λ x. x ++ lits_ended ClauseList zero.done counted broken more own.place id c rest) (none_heard c)
              ∙ ap (λ b. lits_ended ClauseList b counted broken more own.place id c rest) d
              ∙ s.2,
        )

    clause_says : (id : ℕ) (c : List LitOf) (hints : List ℕ) → IsClauseLine vars (texts here) id c hints
        → (place : ℕ) × (got : List Hint) × HintsAre hints got × (line_says vars counted false broken going more here ≡ IsClause id c got place ∷ more)
    clause_says id c hints (own, front, rest, e, n, (us, q, w, l), ids) = of here refl (e ∙ ap (λ z. own ∷ (z ++ rest)) q ∙ ap (λ z. own ∷ z) (append_assoc us (codes "0" ∷ []) rest))
      where
        after_lits : (o : Word) (before after : List Word) → here ≡ o ∷ (before ++ after) → o.text ≡ own → texts before ≡ us → texts after ≡ codes "0" ∷ rest
            → (place : ℕ) × (got : List Hint) × HintsAre hints got × (line_says vars counted false broken going more here ≡ IsClause id c got place ∷ more)
        after_lits o before [] i p s t = cc
        after_lits o before (zero ∷ vs) i p s t =
            let z : zero.text ≡ codes "0" = cc in
            let r : texts vs ≡ rest = cc in
            clause_parts id c hints o before zero vs rest i (ap id_of p ∙ n) (subst (λ x. Writes vars x c) (sym s) w) l z r ids

        of : (ws : List Word) → here ≡ ws → texts ws ≡ own ∷ (us ++ codes "0" ∷ rest)
            → (place : ℕ) × (got : List Hint) × HintsAre hints got × (line_says vars counted false broken going more here ≡ IsClause id c got place ∷ more)
        of [] i t = cc
        of (o ∷ ws) i t =
            let p : o.text ≡ own = cc in
            let m : texts ws ≡ us ++ codes "0" ∷ rest = cc in
            let k = parted_at ws us (codes "0" ∷ rest) m in
            after_lits o k.before k.after (i ∙ ap (λ z. o ∷ z) k.are) p k.fronts k.backs

    deletion_says : (ids : List ℕ) → IsDeletionLine (texts here) ids → (got : List Hint) × HintsAre ids got × (line_says vars counted false broken going more here ≡ IsDelete got ∷ more)
    deletion_says ids (own, id, rest, e, n, k) = of here refl e
      where
        of : (ws : List Word) → here ≡ ws → texts ws ≡ own ∷ codes "d" ∷ rest → (got : List Hint) × HintsAre ids got × (line_says vars counted false broken going more here ≡ IsDelete got ∷ more)
        of [] i t = cc
        of (o ∷ []) i t = cc
        of (o ∷ d ∷ ws) i t =
            let p : o.text ≡ own = cc in
            let q : d.text ≡ codes "d" = cc in
            let r : texts ws ≡ rest = cc in
            let b : AreDoneBut (o ∷ d ∷ ws) = subst AreDoneBut i but in
            let s = ids_at_end Deletion o.place id [] (o ∷ d ∷ []) ws rest ids i (but_rest d ws b.1) r k in (
              s.0,
              s.1,
              ap (line_says vars counted false broken going more) i ∙ own_says o (d ∷ ws) id (ap id_of p ∙ n) b.0
                  ∙ ap (λ x. named_by vars counted broken more o.place id (slice_index x 0) d ws) q
                  ∙ alone_one d 100 (ids_say Deletion counted broken more o.place id [] [] ws) q ∙ s.2,
            )

    values_says : (amid : Bool) (rest : List (List ℕ)) (c : List LitOf) → texts here ≡ codes "v" ∷ rest → IsEnded vars rest c
        → line_says vars counted amid broken going more here ≡ flat_map (heard_says ValuesList) c ++ IsValuesEnd ∷ more
    values_says amid rest c v (front, e, w, l) = of here refl v
      where
        of : (ws : List Word) → here ≡ ws → texts ws ≡ codes "v" ∷ rest → line_says vars counted amid broken going more here ≡ flat_map (heard_says ValuesList) c ++ IsValuesEnd ∷ more
        of [] i q = cc
        of (u ∷ us) i q =
            let p : u.text ≡ codes "v" = cc in
            let r : texts us ≡ rest = cc in
            let k = ends_at us front (codes "0") (r ∙ e) in
            let ds : AreDoneBut us = but_rest u us (subst AreDoneBut i but) in
            let z : (k.word.done || counted) ≡ true = last (u ∷ k.before) k.word (i ∙ ap (λ x. u ∷ x) k.are) in
            ap (line_says vars counted amid broken going more) i ∙ ap (λ x. visible_says vars counted amid broken going more (slice_index x 0) u us) p
            ∙ alone_one u 118 (lits_say vars ValuesList counted broken going more u.place 0 [] us) p ∙ ap (lits_say vars ValuesList counted broken going more u.place 0 []) k.are
            ∙ lits_words ValuesList counted broken going more u.place 0 [] k.before k.word [] c (done_front k.before k.word (subst AreDoneBut k.are ds)) (subst (λ x. Writes vars x c) (sym k.texts) w) (omega (arith, l)) k.text
            ∙ ap (λ b. flat_map (heard_says ValuesList) c ++ cond b (IsValuesEnd ∷ more) []) z

  -- a line that a line feed ends
  module _ (at : ℕ) (t : List ℕ) (broken going more : List LratSaying) where
    abbrev here : List Word
    here = words_from true at [] t

    done : AreDone here
    done = done_all at [] t

    fed_last : (front : List Word) (w : Word) → here ≡ front ++ w ∷ [] → (w.done || true) ≡ true
    fed_last front w e = or_true w.done

    idle_line : (ws : List Word) → IsIdle (texts ws) → line_says vars true false broken going more ws ≡ more
    idle_line [] i = refl
    idle_line (w ∷ ws) (inl e) = rw (eq-eqb (slice_index w.text 0) 99 e) refl
    idle_line (w ∷ ws) (inr (e, n)) =
        ap (λ x. visible_says vars true false broken going more (slice_index x 0) w ws) e ∙ alone_one w 115 _ e ∙ status_idle IsUnknown more ws n

    remark_line : (amid : Bool) (ws : List Word) → IsRemark (texts ws) → line_says vars true amid broken going more ws ≡ cond amid going more
    remark_line amid [] i = refl
    remark_line amid (w ∷ ws) i = rw (eq-eqb (slice_index w.text 0) 99 i) refl

    clause_line : (id : ℕ) (c : List LitOf) (hints : List ℕ) → IsClauseLine vars (words t) id c hints
        → (place : ℕ) × (got : List Hint) × HintsAre hints got × (line_says vars true false broken going more here ≡ IsClause id c got place ∷ more)
    clause_line id c hints h = clause_says true broken going more here (done_are_but here done) fed_last id c hints (subst (λ z. IsClauseLine vars z id c hints) (sym (line_texts true at t)) h)

    deletion_line : (ids : List ℕ) → IsDeletionLine (words t) ids → (got : List Hint) × HintsAre ids got × (line_says vars true false broken going more here ≡ IsDelete got ∷ more)
    deletion_line ids h = deletion_says true broken going more here (done_are_but here done) fed_last ids (subst (λ z. IsDeletionLine z ids) (sym (line_texts true at t)) h)

    -- values without a 0
    open_words : (place id : ℕ) (lits : List LitOf) (ws : List Word) (c : List LitOf) → AreDone ws → Writes vars (texts ws) c → length lits + length c ≤ vars
        → lits_say vars ValuesList true broken going more place id lits ws ≡ flat_map (heard_says ValuesList) c ++ going
    open_words place id lits [] [] d w l = refl
    open_words place id lits [] (m ∷ c) d w l = cc
    open_words place id lits (w ∷ ws) [] d k l = absurd k
    open_words place id lits (w ∷ ws) (m ∷ c) (d, ds) (e, k) l =
        let full : leb vars (length lits) ≡ false = lt-leb vars (length lits) (omega (arith, l)) in
        let len : length (lits ++ m ∷ []) ≡ length lits + 1 = length-append lits (m ∷ []) in
        ap (λ s. lit_word_says vars ValuesList true broken going more place id lits s w ws) (literal_read vars (leb vars (length lits)) w.text m full e)
        ∙ ap (λ b. cond b (IsValue m ∷ lits_say vars ValuesList true broken going more place id (lits ++ m ∷ []) ws) []) d
        ∙ ap (λ z. IsValue m ∷ z) (open_words place id (lits ++ m ∷ []) ws c ds k (omega (arith, l, len)))

    open_line : (amid : Bool) (rest : List (List ℕ)) (c : List LitOf) → words t ≡ codes "v" ∷ rest → Writes vars rest c → length c ≤ vars
        → line_says vars true amid broken going more here ≡ flat_map (heard_says ValuesList) c ++ going
    open_line amid rest c v w l = of here refl (line_texts true at t ∙ v) done
      where
        of : (ws : List Word) → here ≡ ws → texts ws ≡ codes "v" ∷ rest → AreDone ws → line_says vars true amid broken going more here ≡ flat_map (heard_says ValuesList) c ++ going
        of [] i q d = cc
        of (u ∷ us) i q d =
            let p : u.text ≡ codes "v" = cc in
            let r : texts us ≡ rest = cc in
            ap (line_says vars true amid broken going more) i ∙ ap (λ x. visible_says vars true amid broken going more (slice_index x 0) u us) p
            ∙ alone_one u 118 (lits_say vars ValuesList true broken going more u.place 0 [] us) p ∙ open_words u.place 0 [] us c d.1 (subst (λ z. Writes vars z c) (sym r) w) (omega (arith, l))

  -- the last line, after which the stream ends
  module _ (at : ℕ) (t : List ℕ) where
    abbrev last : List Word
    last = words_from false at [] t

    last_counts : (front : List Word) (w : Word) → last ≡ front ++ w ∷ [] → (w.done || true) ≡ true
    last_counts front w e = or_true w.done

    clause_last : (id : ℕ) (c : List LitOf) (hints : List ℕ) → IsClauseLine vars (words t) id c hints
        → (place : ℕ) × (got : List Hint) × HintsAre hints got × (line_says vars true false [] [] [] last ≡ IsClause id c got place ∷ [])
    clause_last id c hints h = clause_says true [] [] [] last (done_but false at [] t) last_counts id c hints (subst (λ z. IsClauseLine vars z id c hints) (sym (line_texts false at t)) h)

    values_last : (amid : Bool) (rest : List (List ℕ)) (c : List LitOf) → words t ≡ codes "v" ∷ rest → IsEnded vars rest c
        → line_says vars true amid [] [] [] last ≡ flat_map (heard_says ValuesList) c ++ IsValuesEnd ∷ []
    values_last amid rest c v h = values_says true [] [] [] last (done_but false at [] t) last_counts amid rest c (line_texts false at t ∙ v) h

  -- what is said where a line lacks its 0, and what the lines after it say
  abbrev fault_at : ℕ → List ℕ → List LratSaying
  fault_at at t = bad BadLine (at + length t)

  abbrev rest_says : ℕ → List ℕ → List (List ℕ) → Bool → List LratSaying
  rest_says at t ls amid = lines_say vars true amid (at + length t + 1) ls

  -- the fate of an admitted clause
  clause_comes : (F : Held) (id : ℕ) (c : List LitOf) (ids : List ℕ) (got : List Hint) (place : ℕ) (x : Assignment) (ss : List LratSaying) → HintsAre ids got → IsAdmittedAs F id c ids
      → ((c ≡ []) × (a ≡ Unsat)) ⊎ ((c ≢ []) × Finds (added F id c) x ss) → Finds F x (IsClause id c got place ∷ ss)
  clause_comes F id c ids got place x ss g (above, live, hinted) h =
      inr (above, subst (λ o. ByHints o (HintsFate F.live c got place (Finds (added F id c) x ss) (Some (Found a))) (Some (Found a))) (sym (none_bad F.live ids got g live)) (tried h))
    where
      tried : ((c ≡ []) × (a ≡ Unsat)) ⊎ ((c ≢ []) × Finds (added F id c) x ss) → HintsFate F.live c got place (Finds (added F id c) x ss) (Some (Found a))
      tried (inl (n, e)) = inl (subst (λ z. IsHinted F.live c z) (sym (hints_ids ids got g)) hinted, n, ap (λ k. Some (Found k)) e)
      tried (inr (n, k)) = inr (inl (subst (λ z. IsHinted F.live c z) (sym (hints_ids ids got g)) hinted, n, k))

  held_same : (F : Held) (ids : List ℕ) (got : List Hint) → HintsAre ids got → held_without F ids ≡ deleted F got
  held_same F ids got g = ap (held_without F) (sym (hints_ids ids got g)) ∙ ap (λ z. record { live = z; last = F.last }) (sym (without_ids F.live got))

  -- the lines of a proof, and those after them
  module _ (G : Held) (first : List (List ℕ)) (others : List (List (List ℕ)))
      (found : (at : ℕ) (ls : List (List ℕ)) → map words ls ≡ first ∷ others → Finds G unnamed (lines_say vars true false at ls)) where
    proof_found : (at : ℕ) (F : Held) (ls : List (List ℕ)) (proof : List (List (List ℕ))) → map words ls ≡ proof ++ first ∷ others → Leads vars proof F G
        → Finds F unnamed (lines_say vars true false at ls)
    proof_found at F ls [] e k = subst (λ (H : Held). Finds H unnamed (lines_say vars true false at ls)) k (found at ls e)
    proof_found at F [] (p ∷ proof) e k = cc
    proof_found at F (t ∷ []) (p ∷ []) e k = cc
    proof_found at F (t ∷ []) (p ∷ r ∷ proof) e k = cc
    proof_found at F (t ∷ u ∷ ts) (p ∷ proof) e k =
        let q : words t ≡ p = cc in
        let m : map words (u ∷ ts) ≡ proof ++ first ∷ others = cc in
        line q k (λ H n. proof_found (at + length t + 1) H (u ∷ ts) proof m n)
      where
        line : words t ≡ p → Leads vars (p ∷ proof) F G → ((H : Held) → Leads vars proof H G → Finds H unnamed (rest_says at t (u ∷ ts) false)) → Finds F unnamed (lines_say vars true false at (t ∷ u ∷ ts))
        line q (inl (i, n)) h =
            subst (λ (ss : List LratSaying). Finds F unnamed ss) (sym (idle_line at t (fault_at at t) (rest_says at t (u ∷ ts) true) (rest_says at t (u ∷ ts) false) (words_from true at [] t) (subst IsIdle (sym (line_texts true at t ∙ q)) i))) (h F n)
        line q (inr (inl (id, c, ids, d, n, b, m))) h =
            let s = clause_line at t (fault_at at t) (rest_says at t (u ∷ ts) true) (rest_says at t (u ∷ ts) false) id c ids (subst (λ z. IsClauseLine vars z id c ids) (sym q) d) in
            subst (λ (ss : List LratSaying). Finds F unnamed ss) (sym s.3) (clause_comes F id c ids s.1 s.0 unnamed (rest_says at t (u ∷ ts) false) s.2 b (inr (n, h (added F id c) m)))
        line q (inr (inr (ids, d, m))) h =
            let s = deletion_line at t (fault_at at t) (rest_says at t (u ∷ ts) true) (rest_says at t (u ∷ ts) false) ids (subst (λ z. IsDeletionLine z ids) (sym q) d) in
            let n : Leads vars proof (deleted F s.0) G = subst (λ H. Leads vars proof H G) (held_same F ids s.0 s.1) m in
            subst (λ (ss : List LratSaying). Finds F unnamed ss) (sym s.2) (h (deleted F s.0) n)

  -- the last line of a proof, whose empty clause is admitted
  refutation_found : (G : Held) (last : List (List ℕ)) → IsRefutation vars last G → a ≡ Unsat → (at : ℕ) (ls : List (List ℕ)) → map words ls ≡ last ∷ [] → Finds G unnamed (lines_say vars true false at ls)
  refutation_found G last d n at [] e = cc
  refutation_found G last d n at (t ∷ u ∷ ts) e = cc
  refutation_found G last (id, ids, d, b) n at (t ∷ []) e =
      let q : words t ≡ last = cc in
      let s = clause_last at t id [] ids (subst (λ z. IsClauseLine vars z id [] ids) (sym q) d) in
      subst (λ (ss : List LratSaying). Finds G unnamed ss) (sym s.3) (clause_comes G id [] ids s.1 s.0 unnamed [] s.2 b (inl (refl, n)))

  remark_next : (at : ℕ) (t u : List ℕ) (ts : List (List ℕ)) (amid : Bool) → IsRemark (words t) → lines_say vars true amid at (t ∷ u ∷ ts) ≡ rest_says at t (u ∷ ts) amid
  remark_next at t u ts amid r =
      remark_line at t (fault_at at t) (rest_says at t (u ∷ ts) true) (rest_says at t (u ∷ ts) false) amid (words_from true at [] t) (subst IsRemark (sym (line_texts true at t)) r) ∙ same amid
    where
      same : (b : Bool) → cond b (rest_says at t (u ∷ ts) true) (rest_says at t (u ∷ ts) false) ≡ rest_says at t (u ∷ ts) b
      same true = refl
      same false = refl

  -- the lines of values that satisfy the clauses
  values_found : (G : Held) (amid : Bool) (x : Assignment) (at : ℕ) (ls : List (List ℕ)) (end : List (List (List ℕ))) (values : List LitOf) → a ≡ Sat → map words ls ≡ end
      → Names vars end values → Satisfies (named_from x values) C → Finds G x (lines_say vars true amid at ls)
  values_found G amid x at ls end values n =
      names_found vars C (Finds G) (lines_say vars true) (flat_map (heard_says ValuesList)) (IsValuesEnd ∷ []) (λ y s. inl (s, ap (λ k. Some (Found k)) n)) (values_named G) values_last remark_next
      (λ o t u ts b. open_line o t (fault_at o t) (rest_says o t (u ∷ ts) true) (rest_says o t (u ∷ ts) false) b) amid x at ls end values

cert_comes : (f : FormulaOf) (s : List ℕ) (a : Answer) → IsCertOf f s a → StreamFate f (sayings f.vars true s) (Some (Found a))
cert_comes f s Unsat (proof, last, G, e, k, d) =
    proof_found f.vars f.clauses Unsat G last [] (refutation_found f.vars f.clauses Unsat G last d refl) 0 (held_first f.clauses) (lines_of s) proof e k
cert_comes f s Sat (proof, [], G, values, e, k, n, m) = absurd n
cert_comes f s Sat (proof, ws ∷ last, G, values, e, k, n, m) =
    proof_found f.vars f.clauses Sat G ws last (λ at ls q. values_found f.vars f.clauses Sat G false unnamed at ls (ws ∷ last) values refl q n m) 0 (held_first f.clauses) (lines_of s) proof e k

pub cert_fate : (f : FormulaOf) (s : List ℕ) (most : ℕ) (a : Answer) → IsCertOf f s a → length s ≤ most → FateOf Lrat f s most (Found a)
cert_fate f s most a w l = record { within = λ _. inl (cert_comes f s a w); beyond = λ b. absurd (omega arith) }
