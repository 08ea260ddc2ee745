-- The fate of a hinted stream that doesn't know.
use Rattle.std.proofs.Common.{◌≡◌, ◌≢◌, ℕ, ◌+◌, ◌<◌, ◌≤◌, ◌^◌, ◌||◌, true, false, cond, eqb, leb, List, [], ◌∷◌, ◌++◌, length, refl, sym, ap, ◌∙◌, subst, inl, inr, append-nil, append_assoc, arith}
use Rattle.std.specs.Prelude.{◌&&◌, bytes_eq, codes, decimal, is_some, map, slice_index, Some, None}
use Rattle.std.proofs.lemmas.Bool.{cases_Bool, eqb-true, lt-leb}
use Rattle.std.proofs.lemmas.Bool.Decides.{nat_tests}
use Rattle.std.proofs.lemmas.List.{length-append}
use Rattle.std.proofs.lemmas.List.Elements.{All-head, All-tail}
use Rattle.cnf_form.specs.Cnf.{LitOf}
use Rattle.cnf_form.specs.Dimacs.{literal_text}
use Rattle.cert_stream.specs.Text.{Word, id_of, is_digit, lines_of, literal_of, words_from}
use Rattle.cert_stream.specs.Places.{AreDone}
use Rattle.cert_stream.specs.Scan.{Scanned, Reads, Misfit, scan_by}
use Rattle.cert_stream.specs.LratMachine.{hint, most_hints}
use Rattle.cert_stream.specs.LratScan.{own_next}
use Rattle.cert_stream.specs.LratTelling.{LratSaying, IsClause, IsDelete, IsUnknown}
use Rattle.cert_stream.specs.LratLines.{alone, bad, ids_ended, ids_say, line_says, lines_say, lits_ended, lits_say, named_by, named_says, status_says, visible_says}
use Rattle.cert_stream.specs.declared.lrat.mode.Hint.{Hint}
use Rattle.cert_stream.specs.declared.lrat.mode.LitList.TheVariants.{Clause as ClauseList}
use Rattle.cert_stream.specs.declared.lrat.mode.IdList.{IdList}
use Rattle.cert_stream.specs.declared.lrat.mode.IdList.TheVariants.{Hints, Deletion}
use Rattle.cert_stream.specs.declared.mode.ParseFaultKind.TheVariants.{BadLine}
use Rattle.cert_stream.proofs.Apart.{literal_byte, literal_read as word_read, zero_read}
use Rattle.cert_stream.proofs.Digits.{digit_bounds, number_front}
use Rattle.cert_stream.proofs.LratIds.{id_back, id_is, own_back, zero_back}
use Rattle.cert_stream.proofs.LratTails.{id_word_says, lit_word_says}
use Rattle.lrat_check.specs.Hints.{IsHinted, Live}
use Rattle.hint_chain.specs.Chains.{AreLive}
use Rattle.cert_judge.specs.DrupCert.{words}
use Rattle.cert_judge.specs.Values.{unnamed}
use Rattle.cert_judge.specs.Lrat.{ByHints, SayingsFate, Held, HintsFate, deleted, first_bad, ids_of}
use Rattle.cert_judge.specs.LratCert.{live_without}
use Rattle.cert_judge.specs.Fate.{Unknown}
use Rattle.cert_judge.specs.Kinds.{IsFate}
use Rattle.cert_judge.specs.declared.stream.StreamKind.TheVariants.{Lrat}
use Rattle.cert_judge.proofs.DrupLines.{done_all, line_texts, texts}
use Rattle.cert_judge.proofs.LratCerts.{without_ids}
use Rattle.cdcl_core.specs.Lines.{LogLine, Adds, Notes, Drops, AreHinted, AreProperLines, HeldOf, IsHintedAs, IsProperLine, held_after, held_first}
use Rattle.cdcl_core.specs.Logged.{IsProper}
use Rattle.cdcl_run.specs.Answer.{IsUnknownStream}
use Rattle.cdcl_run.specs.HintedText.{hinted_text}
use Rattle.cdcl_run.specs.Text.{unknown_line}
use Rattle.cdcl_run.proofs.HintedProofs.{AreFilled, AreIdsIn, IsBounded, addition_words, as_held, bounded_after, bounded_first, drop_words, filled, hinted_lines, hinted_words, hints_in, id_read, one_filled}
use Rattle.cdcl_run.proofs.Proofs.{logged_full}
use Rattle.cdcl_run.proofs.Words.{AreIn, in_of, literal_read}

-- a digit's byte begins a hinted line
digit_byte : (b : ℕ) → is_digit b ≡ true → (eqb b 99 ≡ false) × (eqb b 118 ≡ false) × (eqb b 115 ≡ false) × (eqb b 100 ≡ false)
digit_byte b h =
    let d = digit_bounds b h in
    let u : eqb b 99 ≡ false = grind (arith, nat_tests, d) in
    let v : eqb b 118 ≡ false = grind (arith, nat_tests, d) in
    let x : eqb b 115 ≡ false = grind (arith, nat_tests, d) in
    let y : eqb b 100 ≡ false = grind (arith, nat_tests, d) in
    (u, v, x, y)

id_byte : (text : List ℕ) (n : ℕ) → id_of text ≡ Some n → is_digit (slice_index text 0) ≡ true
id_byte [] n h = cc
id_byte (b ∷ bs) n h = (number_front [] b bs (id_is (b ∷ bs) n h).0.0).0

literal_no_d : (vars : ℕ) (text : List ℕ) (l : LitOf) → literal_of vars text ≡ Some l → eqb (slice_index text 0) 100 ≡ false
literal_no_d vars text l h =
    let k = literal_byte vars text l h in
    elim (cases_Bool (eqb (slice_index text 0) 45)) [
      | inl t ↦ rw (eqb-true (slice_index text 0) 45 t) refl
      | inr f ↦ (digit_byte (slice_index text 0) (rw f at k)).3
    ]

-- hints with these ids, which are good where all of them are live
record AreOf (ids : List ℕ) (got : List Hint) : Type 0 where
  pub are : ids_of got ≡ ids
  pub good : (live : Live) → AreLive live ids → first_bad live got ≡ None

none_of : AreOf [] []
none_of = record { are = refl; good = λ live h. refl }

more_of : (n place : ℕ) (ids : List ℕ) (got : List Hint) → AreOf ids got → AreOf (n ∷ ids) (hint n false place ∷ got)
more_of n place ids got w = record {
  are = ap (λ z. n ∷ z) w.are;
  good = λ live h.
      let k = All-head (λ id. (c : List LitOf) × (live id ≡ Some c)) n ids h in
      let s : is_some (live n) ≡ true = ap is_some k.1 in
      rw s (w.good live (All-tail (λ id. (c : List LitOf) × (live id ≡ Some c)) n ids h));
}

-- what a line's own id says, and the words after it
abbrev own_word_says : ℕ → List LratSaying → List LratSaying → Scanned ℕ → Word → List Word → List LratSaying
own_word_says vars broken more s w ws = elim s [ Misfit k n ↦ bad k (w.place + n) | Reads id ↦ cond w.done (named_says vars true broken more w.place id ws) [] ]

hinted_first : (vars : ℕ) (broken going more : List LratSaying) (w : Word) (ws : List Word) → is_digit (slice_index w.text 0) ≡ true → eqb (slice_index w.text 0) 99 ≡ false
    → eqb (slice_index w.text 0) 118 ≡ false → eqb (slice_index w.text 0) 115 ≡ false
    → line_says vars true false broken going more (w ∷ ws) ≡ own_word_says vars broken more (scan_by own_next 0 w.text) w ws
hinted_first vars broken going more w ws d c v s = rw (c, v, s, d) refl

alone_one : (w : Word) (c : ℕ) (ss : List LratSaying) → w.text ≡ c ∷ [] → alone w ss ≡ ss
alone_one w c ss e = ap (λ t. cond (eqb (length t) 1) ss (bad BadLine (w.place + 1))) e

-- what the words of a line say, each of which has white space or a line feed after it
module _ (vars : ℕ) (small : vars < 2 ^ 64) (broken going more : List LratSaying) where
  own_says : (w : Word) (vs : List Word) (id : ℕ) → id_of w.text ≡ Some id → w.done ≡ true → line_says vars true false broken going more (w ∷ vs) ≡ named_says vars true broken more w.place id vs
  own_says w vs id n d =
      let b = id_byte w.text id n in
      let k = digit_byte (slice_index w.text 0) b in
      hinted_first vars broken going more w vs b k.0 k.1 k.2
      ∙ ap (λ z. own_word_says vars broken more z w vs) (own_back w.text id n)
      ∙ ap (λ z. cond z (named_says vars true broken more w.place id vs) []) d

  -- literals and 0
  lits_said : (place id : ℕ) (lits : List LitOf) (ws : List Word) (c : List LitOf) (back : List (List ℕ)) → AreDone ws → texts ws ≡ (map literal_text c ++ codes "0" ∷ []) ++ back → AreIn vars c
      → length lits + length c ≤ vars
      → (rest : List Word) × AreDone rest × (texts rest ≡ back) × (lits_say vars ClauseList true broken [] more place id lits ws ≡ ids_say Hints true broken more place id (lits ++ c) [] rest)
  lits_said place id lits [] [] back d e h l = cc
  lits_said place id lits [] (m ∷ c) back d e h l = cc
  lits_said place id lits (w ∷ ws) [] back d e h l =
      let z : w.text ≡ codes "0" = cc in
      let r : texts ws ≡ back = cc in (
        ws,
        d.1,
        r,
        ap (λ s. lit_word_says vars ClauseList true broken [] more place id lits s w ws) (zero_read vars (leb vars (length lits)) w.text z)
            ∙ ap (λ b. lits_ended ClauseList b true broken more place id lits ws) d.0
            ∙ ap (λ x. ids_say Hints true broken more place id x [] ws) (sym (append-nil lits)),
      )
  lits_said place id lits (w ∷ ws) (m ∷ c) back d e h l =
      let t : w.text ≡ literal_text m = cc in
      let r : texts ws ≡ (map literal_text c ++ codes "0" ∷ []) ++ back = cc in
      let full : leb vars (length lits) ≡ false = lt-leb vars (length lits) (omega (arith, l)) in
      let len : length (lits ++ m ∷ []) ≡ length lits + 1 = length-append lits (m ∷ []) in
      let again = lits_said place id (lits ++ m ∷ []) ws c back d.1 r h.2 (omega (arith, l, len)) in (
        again.0,
        again.1,
        again.2,
        ap (λ s. lit_word_says vars ClauseList true broken [] more place id lits s w ws) (word_read vars (leb vars (length lits)) w.text m full (ap (literal_of vars) t ∙ literal_read vars m small h.0 h.1))
            ∙ ap (λ b. cond b (lits_say vars ClauseList true broken [] more place id (lits ++ m ∷ []) ws) []) d.0
            ∙ again.3 ∙ ap (λ x. ids_say Hints true broken more place id x [] again.0) (append_assoc lits (m ∷ []) c),
      )

  -- literals don't begin as a deletion does
  named_lits : (place id : ℕ) (ws : List Word) (c : List LitOf) (back : List (List ℕ)) → texts ws ≡ (map literal_text c ++ codes "0" ∷ []) ++ back → AreIn vars c
      → named_says vars true broken more place id ws ≡ lits_say vars ClauseList true broken [] more place id [] ws
  named_lits place id [] [] back e h = cc
  named_lits place id [] (m ∷ c) back e h = cc
  named_lits place id (w ∷ ws) [] back e h = (let z : w.text ≡ codes "0" = cc in ap (λ x. named_by vars true broken more place id (slice_index x 0) w ws) z)
  named_lits place id (w ∷ ws) (m ∷ c) back e h =
      let t : w.text ≡ literal_text m = cc in
      ap (λ b. cond b (alone w (ids_say Deletion true broken more place id [] [] ws)) (lits_say vars ClauseList true broken [] more place id [] (w ∷ ws)))
      (literal_no_d vars w.text m (ap (literal_of vars) t ∙ literal_read vars m small h.0 h.1))

  -- ids and 0, with which the line ends
  ids_said : (kind : IdList) (place id : ℕ) (lits : List LitOf) (hs : List Hint) (ws : List Word) (ids : List ℕ) → AreDone ws → texts ws ≡ map decimal ids ++ codes "0" ∷ [] → AreIdsIn ids
      → length hs + length ids ≤ most_hints → (got : List Hint) × AreOf ids got × (ids_say kind true broken more place id lits hs ws ≡ ids_ended kind place id lits (hs ++ got) ∷ more)
  ids_said kind place id lits hs [] [] d e h l = cc
  ids_said kind place id lits hs [] (n ∷ ids) d e h l = cc
  ids_said kind place id lits hs (w ∷ v ∷ ws) [] d e h l = cc
  ids_said kind place id lits hs (w ∷ []) [] d e h l =
      let z : w.text ≡ codes "0" = cc in (
        [],
        none_of,
        ap (λ s. id_word_says kind true broken more place id lits hs s w []) (zero_back kind (leb most_hints (length hs)) w.place w.text z)
            ∙ ap (λ b. cond (b || true) (ids_ended kind place id lits hs ∷ more) []) d.0
            ∙ ap (λ x. ids_ended kind place id lits x ∷ more) (sym (append-nil hs)),
      )
  ids_said kind place id lits hs (w ∷ ws) (n ∷ ids) d e h l =
      let t : w.text ≡ decimal n = cc in
      let r : texts ws ≡ map decimal ids ++ codes "0" ∷ [] = cc in
      let i : Hint = hint n false w.place in
      let full : leb most_hints (length hs) ≡ false = lt-leb most_hints (length hs) (omega (arith, l)) in
      let len : length (hs ++ i ∷ []) ≡ length hs + 1 = length-append hs (i ∷ []) in
      let again = ids_said kind place id lits (hs ++ i ∷ []) ws ids d.1 r h.2 (omega (arith, l, len)) in (
        i ∷ again.0,
        more_of n w.place ids again.0 again.1,
        ap (λ s. id_word_says kind true broken more place id lits hs s w ws) (id_back kind (leb most_hints (length hs)) w.place w.text n full (ap id_of t ∙ id_read n h.0 h.1))
            ∙ ap (λ b. cond b (ids_say kind true broken more place id lits (hs ++ i ∷ []) ws) []) d.0
            ∙ again.2 ∙ ap (λ x. ids_ended kind place id lits x ∷ more) (append_assoc hs (i ∷ []) again.0),
      )

  clause_said : (ws : List Word) (c : List LitOf) (id : ℕ) (hints : List ℕ) → AreDone ws → texts ws ≡ addition_words c id hints → AreIn vars c → length c ≤ vars → 0 < id → id < 2 ^ 63 → AreIdsIn hints
      → length hints ≤ 2 ^ 27 → (place : ℕ) × (got : List Hint) × AreOf hints got × (line_says vars true false broken going more ws ≡ IsClause id c got place ∷ more)
  clause_said [] c id hints d e h short p i n few = cc
  clause_said (w ∷ ws) c id hints d e h short p i n few =
      let t : w.text ≡ decimal id = cc in
      let back : List (List ℕ) = map decimal hints ++ codes "0" ∷ [] in
      let r : texts ws ≡ (map literal_text c ++ codes "0" ∷ []) ++ back = cc in
      let a = lits_said w.place id [] ws c back d.1 r h (omega (arith, short)) in
      let b = ids_said Hints w.place id c [] a.0 hints a.1 a.2 n (omega (arith, few)) in
      (w.place, b.0, b.1, own_says w ws id (ap id_of t ∙ id_read id p i) d.0 ∙ named_lits w.place id ws c back r h ∙ a.3 ∙ b.2)

  deletion_said : (ws : List Word) (id : ℕ) → AreDone ws → texts ws ≡ drop_words id → 0 < id → id < 2 ^ 63
      → (got : List Hint) × (ids_of got ≡ id ∷ []) × (line_says vars true false broken going more ws ≡ IsDelete got ∷ more)
  deletion_said [] id d e p i = cc
  deletion_said (w ∷ []) id d e p i = cc
  deletion_said (w ∷ v ∷ ws) id d e p i =
      let t : w.text ≡ codes "1" = cc in
      let q : v.text ≡ codes "d" = cc in
      let r : texts ws ≡ decimal id ∷ codes "0" ∷ [] = cc in
      let b = ids_said Deletion w.place 1 [] [] ws (id ∷ []) d.1.1 r (p, i, tt) (omega arith) in (
        b.0,
        b.1.are,
        own_says w (v ∷ ws) 1 (ap id_of t) d.0
            ∙ ap (λ x. named_by vars true broken more w.place 1 (slice_index x 0) v ws) q
            ∙ alone_one v 100 (ids_say Deletion true broken more w.place 1 [] [] ws) q
            ∙ b.2,
      )

  unknown_said : (ws : List Word) → texts ws ≡ codes "s" ∷ codes "UNKNOWN" ∷ [] → line_says vars true false broken going more ws ≡ IsUnknown ∷ more
  unknown_said [] e = cc
  unknown_said (w ∷ []) e = cc
  unknown_said (w ∷ v ∷ u ∷ ws) e = cc
  unknown_said (w ∷ v ∷ []) e =
      let t : w.text ≡ codes "s" = cc in
      let q : v.text ≡ codes "UNKNOWN" = cc in
      ap (λ x. visible_says vars true false broken going more (slice_index x 0) w (v ∷ [])) t
      ∙ alone_one w 115 (status_says true more (v ∷ [])) t
      ∙ ap (λ x. cond (bytes_eq x (codes "UNKNOWN") && true) (IsUnknown ∷ more) more) q

-- the lines after the last one of a search
abbrev last_lines : List (List (List ℕ))
last_lines = (codes "s" ∷ codes "UNKNOWN" ∷ []) ∷ [] ∷ []

module _ (vars : ℕ) (small : vars < 2 ^ 64) (C : List (List LitOf)) where
  abbrev Comes : HeldOf → List LratSaying → Type 0
  Comes h ss = SayingsFate C (as_held h) unnamed ss (Some Unknown)

  -- a clause that its hints admit, and what comes after it
  clause_comes : (h : HeldOf) (c : List LitOf) (id : ℕ) (hints : List ℕ) (got : List Hint) (place : ℕ) (ss : List LratSaying) → AreOf hints got → IsHintedAs h c id hints → c ≢ []
      → Comes (held_after h (Adds c id hints)) ss → Comes h (IsClause id c got place ∷ ss)
  clause_comes h c id hints got place ss w (above, live, by) n k =
      let rest : Type 0 = Comes (held_after h (Adds c id hints)) ss in
      inr (above, subst (λ o. ByHints o (HintsFate h.live c got place rest (Some Unknown)) (Some Unknown)) (sym (w.good h.live live)) (inr (inl (subst (IsHinted h.live c) (sym w.are) by, n, k))))

  -- a line, and what comes after it
  module _ (at : ℕ) (t u : List ℕ) (ts : List (List ℕ)) where
    abbrev feed : ℕ
    feed = at + length t

    abbrev broken : List LratSaying
    broken = bad BadLine feed

    abbrev going : List LratSaying
    going = lines_say vars true true (feed + 1) (u ∷ ts)

    abbrev more : List LratSaying
    more = lines_say vars true false (feed + 1) (u ∷ ts)

    clause_line : (h : HeldOf) (c : List LitOf) (id : ℕ) (hints : List ℕ) → words t ≡ addition_words c id hints → IsBounded h → IsProper vars c → id < 2 ^ 63 → length hints ≤ 2 ^ 27
        → IsHintedAs h c id hints → c ≢ [] → Comes (held_after h (Adds c id hints)) more → Comes h (lines_say vars true false at (t ∷ u ∷ ts))
    clause_line h c id hints e b p i few (above, live, by) n k =
        let s = clause_said vars small broken going more (words_from true at [] t) c id hints (done_all at [] t) (line_texts true at t ∙ e) (in_of vars c p.within) p.short (omega (arith, above)) i (hints_in h id hints b above i live) few in
        subst (Comes h) (sym s.3) (clause_comes h c id hints s.1 s.0 more s.2 (above, live, by) n k)

    deletion_line : (h : HeldOf) (c : List LitOf) (id : ℕ) → words t ≡ drop_words id → IsBounded h → id < 2 ^ 63 → h.live id ≡ Some c → Comes (held_after h (Drops c id)) more
        → Comes h (lines_say vars true false at (t ∷ u ∷ ts))
    deletion_line h c id e b i live k =
        let s = deletion_said vars small broken going more (words_from true at [] t) id (done_all at [] t) (line_texts true at t ∙ e) (b.low id c live) i in
        let same : deleted (as_held h) s.0 ≡ as_held (held_after h (Drops c id)) = ap (λ z. record { live = z; last = h.last }) (without_ids h.live s.0 ∙ ap (live_without h.live) s.1) in
        subst (Comes h) (sym s.2) (subst (λ (F : Held). SayingsFate C F unnamed more (Some Unknown)) (sym same) k)

  lines_come : (at : ℕ) (h k : HeldOf) (ls : List LogLine) (us : List (List ℕ)) → map words us ≡ map hinted_words ls ++ last_lines → AreHinted h ls k → IsBounded h → AreProperLines vars ls → AreFilled ls
      → Comes h (lines_say vars true false at us)
  lines_come at h k [] [] e w b p n = cc
  lines_come at h k [] (t ∷ []) e w b p n = cc
  lines_come at h k [] (t ∷ u ∷ ts) e w b p n =
      let q : words t ≡ codes "s" ∷ codes "UNKNOWN" ∷ [] = cc in
      subst (Comes h) (sym (unknown_said vars small (broken at t u ts) (going at t u ts) (more at t u ts) (words_from true at [] t) (line_texts true at t ∙ q))) refl
  lines_come at h k (l ∷ ls) [] e w b p n = cc
  lines_come at h k (l ∷ []) (t ∷ []) e w b p n = cc
  lines_come at h k (l ∷ m ∷ ls) (t ∷ []) e w b p n = cc
  lines_come at h k (Adds c id hints ∷ ls) (t ∷ u ∷ ts) e (by, w) b p n =
      let q : words t ≡ addition_words c id hints = cc in
      let r : map words (u ∷ ts) ≡ map hinted_words ls ++ last_lines = cc in
      let own : IsProperLine vars (Adds c id hints) = All-head (IsProperLine vars) (Adds c id hints) ls p in
      let few = own.1 in
      let after = held_after h (Adds c id hints) in
      let rest = lines_come (at + length t + 1) after k ls (u ∷ ts) r w (bounded_after vars small h (Adds c id hints) b by) (All-tail (IsProperLine vars) (Adds c id hints) ls p) n.1 in
      clause_line at t u ts h c id hints q b own.0 few.0 few.1 by n.0 rest
  lines_come at h k (Notes l id hints ∷ ls) (t ∷ u ∷ ts) e (by, w) b p n =
      let q : words t ≡ addition_words (l ∷ []) id hints = cc in
      let r : map words (u ∷ ts) ≡ map hinted_words ls ++ last_lines = cc in
      let own : IsProperLine vars (Notes l id hints) = All-head (IsProperLine vars) (Notes l id hints) ls p in
      let few = own.1 in
      let after = held_after h (Notes l id hints) in
      let rest = lines_come (at + length t + 1) after k ls (u ∷ ts) r w (bounded_after vars small h (Notes l id hints) b by) (All-tail (IsProperLine vars) (Notes l id hints) ls p) n in
      clause_line at t u ts h (l ∷ []) id hints q b own.0 few.0 few.1 by (one_filled l) rest
  lines_come at h k (Drops c id ∷ ls) (t ∷ u ∷ ts) e (by, w) b p n =
      let q : words t ≡ drop_words id = cc in
      let r : map words (u ∷ ts) ≡ map hinted_words ls ++ last_lines = cc in
      let own : IsProperLine vars (Drops c id) = All-head (IsProperLine vars) (Drops c id) ls p in
      let after = held_after h (Drops c id) in
      let rest = lines_come (at + length t + 1) after k ls (u ∷ ts) r w (bounded_after vars small h (Drops c id) b by) (All-tail (IsProperLine vars) (Drops c id) ls p) n in
      deletion_line at t u ts h c id q b own.1 by rest

pub hinted_unknown_fate : (job stream : List ℕ) (budget most : ℕ) → IsUnknownStream true job budget stream → length stream ≤ most → IsFate Lrat job stream most Unknown
hinted_unknown_fate job stream budget most w l =
    let s = w.searched in
    let f = s.formula in
    let d = s.is_formula in
    let small : f.vars < 2 ^ 64 = (let h = d.limit in omega (arith, h)) in
    let first = held_first f.clauses in
    let b = bounded_first f.clauses in
    let read = hinted_lines f.vars small first s.held w.lines unknown_line (s.logged.hints refl) b s.logged.proper in
    let c = lines_come f.vars small f.clauses 0 first s.held w.lines (lines_of (hinted_text w.lines ++ unknown_line)) read (s.logged.hints refl) b s.logged.proper (filled w.lines (logged_full s.logged.logged)) in
    (f, d, record { within = λ h. inl (subst (λ z. SayingsFate f.clauses (as_held first) unnamed (lines_say f.vars true false 0 (lines_of z)) (Some Unknown)) (sym w.is) c); beyond = λ b. absurd (omega (arith, b, l)) })
