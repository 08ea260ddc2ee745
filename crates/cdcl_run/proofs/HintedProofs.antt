-- The lines of a hinted proof, read back.
use Rattle.std.proofs.Common.{◌≡◌, ◌≢◌, ◌⊎◌, ℕ, ◌-◌, ◌<◌, ◌≤◌, ◌^◌, zero, suc, true, false, eqb, leb, List, [], ◌∷◌, ◌++◌, length, refl, ap, ◌∙◌, sym, subst, inl, inr, append_assoc, arith}
use Rattle.std.specs.Prelude.{codes, decimal, map, Option, Some, None}
use Rattle.std.proofs.lemmas.Bool.{cases_Bool, eqb-true, le-leb}
use Rattle.std.proofs.lemmas.Fmt.{decimal_is_IsNumeral}
use Rattle.std.proofs.lemmas.List.Elements.{All-head, All-tail}
use Rattle.cnf_form.specs.Cnf.{LitOf}
use Rattle.cnf_form.specs.Dimacs.{literal_text}
use Rattle.cert_stream.specs.Text.{NoFeed, id_of}
use Rattle.cert_judge.specs.DrupCert.{lines, words}
use Rattle.cert_judge.specs.Lrat.{Held}
use Rattle.cert_judge.specs.LratCert.{WriteIds, AreIds, IsClauseLine, IsDeletionLine, Leads}
use Rattle.lrat_check.specs.Hints.{Live, numbered, put}
use Rattle.hint_chain.specs.Chains.{AreLive}
use Rattle.cdcl_core.specs.Logged.{IsProper}
use Rattle.cdcl_core.specs.Lines.{LogLine, Adds, Notes, Drops, plain, IsProperLine, AreProperLines, HeldOf, held_first, held_after, IsHintedAs, IsHintedLine, AreHinted}
use Rattle.cdcl_run.specs.HintedText.{addition_text, hinted_line, hinted_text, ids_text, literals_text}
use Rattle.cdcl_run.proofs.Naming.{no_lines}
use Rattle.cdcl_run.proofs.Proofs.{AreFull, line_first}
use Rattle.cdcl_run.proofs.Words.{IsWord, AreIn, decimal_number, ended_texts, in_of, lit_word, no_feed_append, signed_word, visible_feed, words_then}

-- an id by itself is a word
id_word : (n : ℕ) → n < 2 ^ 63 → IsWord (decimal n)
id_word n h = signed_word false n (omega (arith, h))

pub id_read : (n : ℕ) → 0 < n → n < 2 ^ 63 → id_of (decimal n) ≡ Some n
id_read n p h =
    let a = decimal_number n p (omega (arith, h)) in
    let v = (decimal_is_IsNumeral n (omega (arith, h))).1 in
    let l : leb n (2 ^ 63 - 1) ≡ true = le-leb n (2 ^ 63 - 1) (omega (arith, h)) in
    rw (a, v, l) refl

-- each id is above 0 and has a text
abbrev pub AreIdsIn : List ℕ → Type 0
AreIdsIn [] = Unit {0}
AreIdsIn (n ∷ ids) = (0 < n) × (n < 2 ^ 63) × AreIdsIn ids

write_ids : (ids : List ℕ) → AreIdsIn ids → WriteIds (map decimal ids) ids
write_ids [] h = refl
write_ids (n ∷ ids) h = (id_read n h.0 h.1, write_ids ids h.2)

are_ids : (ids : List ℕ) → AreIdsIn ids → length ids ≤ 2 ^ 27 → AreIds (map decimal ids ++ codes "0" ∷ []) ids
are_ids ids h few = (map decimal ids, refl, write_ids ids h, few)

-- ids with a space after each, and 0
pub bare_ids : List ℕ → List ℕ
bare_ids [] = codes "0"
bare_ids (n ∷ ids) = decimal n ++ 32 ∷ bare_ids ids

bare_ids_words : (ids : List ℕ) → AreIdsIn ids → words (bare_ids ids) ≡ map decimal ids ++ codes "0" ∷ []
unfolding bare_ids
bare_ids_words [] h = refl
bare_ids_words (n ∷ ids) h = words_then (decimal n) (bare_ids ids) (id_word n h.1) ∙ ap (λ z. decimal n ∷ z) (bare_ids_words ids h.2)

bare_ids_feed : (ids : List ℕ) → AreIdsIn ids → NoFeed (bare_ids ids)
unfolding bare_ids
bare_ids_feed [] h = (refl, tt)
bare_ids_feed (n ∷ ids) h = let w = id_word n h.1 in no_feed_append (decimal n) (32 ∷ bare_ids ids) (visible_feed (decimal n) w.visible) (refl, bare_ids_feed ids h.2)

bare_ids_line : (ids : List ℕ) (rest : List ℕ) → ids_text ids ++ rest ≡ bare_ids ids ++ 10 ∷ rest
unfolding bare_ids
bare_ids_line [] rest = refl
bare_ids_line (n ∷ ids) rest = append_assoc (decimal n) (32 ∷ ids_text ids) rest ∙ ap (λ z. decimal n ++ 32 ∷ z) (bare_ids_line ids rest) ∙ sym (append_assoc (decimal n) (32 ∷ bare_ids ids) (10 ∷ rest))

-- 0 by itself is a word
zero_word : IsWord (codes "0")
zero_word = record { head = 48; tail = []; are = refl; visible = (refl, refl, tt) }

one_word : IsWord (codes "1")
one_word = record { head = 49; tail = []; are = refl; visible = (refl, refl, tt) }

d_word : IsWord (codes "d")
d_word = record { head = 100; tail = []; are = refl; visible = (refl, refl, tt) }

-- a clause's line without its line feed
pub bare_addition : List LitOf → ℕ → List ℕ → List ℕ
bare_addition c id hints = decimal id ++ 32 ∷ (literals_text c ++ bare_ids hints)

abbrev pub addition_words : List LitOf → ℕ → List ℕ → List (List ℕ)
addition_words c id hints = decimal id ∷ (map literal_text c ++ codes "0" ∷ []) ++ (map decimal hints ++ codes "0" ∷ [])

pub addition_line : (c : List LitOf) (id : ℕ) (hints rest : List ℕ) → addition_text c id hints ++ rest ≡ bare_addition c id hints ++ 10 ∷ rest
unfolding bare_addition
addition_line c id hints rest =
    append_assoc (decimal id) (32 ∷ (literals_text c ++ ids_text hints)) rest
    ∙ ap (λ z. decimal id ++ 32 ∷ z) (append_assoc (literals_text c) (ids_text hints) rest ∙ ap (λ z. literals_text c ++ z) (bare_ids_line hints rest) ∙ sym (append_assoc (literals_text c) (bare_ids hints) (10 ∷ rest)))
    ∙ sym (append_assoc (decimal id) (32 ∷ (literals_text c ++ bare_ids hints)) (10 ∷ rest))

module _ (vars : ℕ) (small : vars < 2 ^ 64) where
  literals_words : (c : List LitOf) (rest : List ℕ) → AreIn vars c → words (literals_text c ++ rest) ≡ (map literal_text c ++ codes "0" ∷ []) ++ words rest
  literals_words [] rest h = words_then (codes "0") rest zero_word
  literals_words (l ∷ c) rest h =
      ap words (append_assoc (literal_text l) (32 ∷ literals_text c) rest) ∙ words_then (literal_text l) (literals_text c ++ rest) (lit_word vars small l h.1) ∙ ap (λ z. literal_text l ∷ z) (literals_words c rest h.2)

  literals_feed : (c : List LitOf) (rest : List ℕ) → AreIn vars c → NoFeed rest → NoFeed (literals_text c ++ rest)
  literals_feed [] rest h f = (refl, (refl, f))
  literals_feed (l ∷ c) rest h f =
      let w = lit_word vars small l h.1 in
      subst NoFeed (sym (append_assoc (literal_text l) (32 ∷ literals_text c) rest)) (no_feed_append (literal_text l) (32 ∷ (literals_text c ++ rest)) (visible_feed (literal_text l) w.visible) (refl, literals_feed c rest h.2 f))

  addition_first : (c : List LitOf) (id : ℕ) (hints rest : List ℕ) → AreIn vars c → id < 2 ^ 63 → AreIdsIn hints → lines (addition_text c id hints ++ rest) ≡ addition_words c id hints ∷ lines rest
  unfolding bare_addition
  addition_first c id hints rest h i n =
      let w = id_word id i in
      ap lines (addition_line c id hints rest)
      ∙ line_first (bare_addition c id hints) rest (no_feed_append (decimal id) (32 ∷ (literals_text c ++ bare_ids hints)) (visible_feed (decimal id) w.visible) (refl, literals_feed c (bare_ids hints) h (bare_ids_feed hints n)))
      ∙ ap (λ z. z ∷ lines rest) (words_then (decimal id) (literals_text c ++ bare_ids hints) w ∙ ap (λ z. decimal id ∷ z) (literals_words c (bare_ids hints) h ∙ ap (λ z. (map literal_text c ++ codes "0" ∷ []) ++ z) (bare_ids_words hints n)))

  addition_last : (c : List LitOf) (id : ℕ) (hints : List ℕ) → AreIn vars c → id < 2 ^ 63 → AreIdsIn hints → lines (bare_addition c id hints) ≡ addition_words c id hints ∷ []
  unfolding bare_addition
  addition_last c id hints h i n =
      let w = id_word id i in
      no_lines (bare_addition c id hints) (no_feed_append (decimal id) (32 ∷ (literals_text c ++ bare_ids hints)) (visible_feed (decimal id) w.visible) (refl, literals_feed c (bare_ids hints) h (bare_ids_feed hints n)))
      ∙ ap (λ z. z ∷ []) (words_then (decimal id) (literals_text c ++ bare_ids hints) w ∙ ap (λ z. decimal id ∷ z) (literals_words c (bare_ids hints) h ∙ ap (λ z. (map literal_text c ++ codes "0" ∷ []) ++ z) (bare_ids_words hints n)))

  -- the words are a clause's
  pub clause_words : (c : List LitOf) (id : ℕ) (hints : List ℕ) → AreIn vars c → length c ≤ vars → 0 < id → id < 2 ^ 63 → AreIdsIn hints → length hints ≤ 2 ^ 27 → IsClauseLine vars (addition_words c id hints) id c hints
  clause_words c id hints h short p i n few = (decimal id, map literal_text c ++ codes "0" ∷ [], map decimal hints ++ codes "0" ∷ [], refl, id_read id p i, ended_texts vars small c h short, are_ids hints n few)

abbrev pub drop_words : ℕ → List (List ℕ)
drop_words id = codes "1" ∷ codes "d" ∷ (decimal id ∷ codes "0" ∷ [])

drop_first : (id : ℕ) (rest : List ℕ) → 0 < id → id < 2 ^ 63 → lines ((codes "1 d " ++ ids_text (id ∷ [])) ++ rest) ≡ drop_words id ∷ lines rest
drop_first id rest p i =
    let n : AreIdsIn (id ∷ []) = (p, i, tt) in
    ap (λ z. lines (49 ∷ 32 ∷ 100 ∷ 32 ∷ z)) (bare_ids_line (id ∷ []) rest)
    ∙ line_first (49 ∷ 32 ∷ 100 ∷ 32 ∷ bare_ids (id ∷ [])) rest (refl, (refl, (refl, (refl, bare_ids_feed (id ∷ []) n))))
    ∙ ap (λ z. z ∷ lines rest) (words_then (codes "1") (100 ∷ 32 ∷ bare_ids (id ∷ [])) one_word ∙ ap (λ z. codes "1" ∷ z) (words_then (codes "d") (bare_ids (id ∷ [])) d_word ∙ ap (λ z. codes "d" ∷ z) (bare_ids_words (id ∷ []) n)))

deletion_words : (id : ℕ) → 0 < id → id < 2 ^ 63 → IsDeletionLine (drop_words id) (id ∷ [])
deletion_words id p i = (codes "1", 1, decimal id ∷ codes "0" ∷ [], refl, refl, are_ids (id ∷ []) (p, i, tt) (omega arith))

-- a log's live clauses as a judge's
abbrev pub as_held : HeldOf → Held
as_held h = record { live = h.live; last = h.last }

-- ids of live clauses are above 0, and none is above the highest
pub record IsBounded (h : HeldOf) : Type 0 where
  pub low : (n : ℕ) (c : List LitOf) → h.live n ≡ Some c → 0 < n
  pub high : (n : ℕ) (c : List LitOf) → h.live n ≡ Some c → n ≤ h.last

not_some : (c : List LitOf) → None ≢ Some c
not_some c e = cc

numbered_high : (F : List (List LitOf)) (n : ℕ) (c : List LitOf) → numbered F n ≡ Some c → n ≤ length F
numbered_high F zero c e = omega arith
numbered_high [] (suc n) c e = absurd (not_some c e)
numbered_high (d ∷ F) (suc zero) c e = omega arith
numbered_high (d ∷ F) (suc (suc n)) c e = (let h = numbered_high F (suc n) c e in omega (arith, h))

numbered_low : (F : List (List LitOf)) (n : ℕ) (c : List LitOf) → numbered F n ≡ Some c → 0 < n
numbered_low F zero c e = absurd (not_some c e)
numbered_low F (suc n) c e = omega arith

pub bounded_first : (F : List (List LitOf)) → IsBounded (held_first F)
bounded_first F = record { low = numbered_low F; high = numbered_high F }

put_cases : (live : Live) (id : ℕ) (o : Option (List LitOf)) (n : ℕ) (c : List LitOf) → put live id o n ≡ Some c → (n ≡ id) × (o ≡ Some c) ⊎ (live n ≡ Some c)
put_cases live id o n c e = elim (cases_Bool (eqb id n)) [
  | inl t ↦ inl (sym (eqb-true id n t), (let f : put live id o n ≡ o = rw t refl in sym f ∙ e))
  | inr f ↦ inr (let g : put live id o n ≡ live n = rw f refl in sym g ∙ e)
]

bounded_put : (h : HeldOf) (id : ℕ) (c : List LitOf) → h.last < id → IsBounded h → IsBounded (record { live = put h.live id (Some c); last = id })
bounded_put h id c above b = record {
  low = λ n d e. elim (put_cases h.live id (Some c) n d e) [ inl w ↦ omega (arith, w.0, above) | inr k ↦ b.low n d k ];
  high = λ n d e. elim (put_cases h.live id (Some c) n d e) [ inl w ↦ omega (arith, w.0) | inr k ↦ (let x = b.high n d k in omega (arith, x, above)) ];
}

bounded_drop : (h : HeldOf) (id : ℕ) → IsBounded h → IsBounded (record { live = put h.live id None; last = h.last })
bounded_drop h id b = record {
  low = λ n d e. elim (put_cases h.live id None n d e) [ inl w ↦ absurd (not_some d w.1) | inr k ↦ b.low n d k ];
  high = λ n d e. elim (put_cases h.live id None n d e) [ inl w ↦ absurd (not_some d w.1) | inr k ↦ b.high n d k ];
}

-- hints of live clauses have texts
pub hints_in : (h : HeldOf) (id : ℕ) (hints : List ℕ) → IsBounded h → h.last < id → id < 2 ^ 63 → AreLive h.live hints → AreIdsIn hints
hints_in h id [] b above i all = tt
hints_in h id (n ∷ hints) b above i all =
    let w = All-head (λ id. (c : List LitOf) × (h.live id ≡ Some c)) n hints all in
    let x = b.high n w.0 w.1 in
    (b.low n w.0 w.1, omega (arith, x, above, i), hints_in h id hints b above i (All-tail (λ id. (c : List LitOf) × (h.live id ≡ Some c)) n hints all))

-- each clause that is added has a literal
abbrev pub AreFilled : List LogLine → Type 0
AreFilled [] = Unit {0}
AreFilled (Adds c id hints ∷ ls) = (c ≢ []) × AreFilled ls
AreFilled (Notes l id hints ∷ ls) = AreFilled ls
AreFilled (Drops c id ∷ ls) = AreFilled ls

pub filled : (ls : List LogLine) → AreFull (plain ls) → AreFilled ls
filled [] h = tt
filled (Adds c id hints ∷ ls) h = (h.0, filled ls h.1)
filled (Notes l id hints ∷ ls) h = filled ls h
filled (Drops c id ∷ ls) h = filled ls h

abbrev pub hinted_words : LogLine → List (List ℕ)
hinted_words (Adds c id hints) = addition_words c id hints
hinted_words (Notes l id hints) = addition_words (l ∷ []) id hints
hinted_words (Drops c id) = drop_words id

pub one_filled : (l : LitOf) → (let c : List LitOf = l ∷ [] in c) ≢ []
one_filled l e = cc

module _ (vars : ℕ) (small : vars < 2 ^ 64) where
  line_read : (h : HeldOf) (l : LogLine) (rest : List ℕ) → IsBounded h → IsProperLine vars l → IsHintedLine h l → lines (hinted_line l ++ rest) ≡ hinted_words l ∷ lines rest
  line_read h (Adds c id hints) rest b (p, (i, few)) (above, live, by) = addition_first vars small c id hints rest (in_of vars c p.within) i (hints_in h id hints b above i live)
  line_read h (Notes l id hints) rest b (p, (i, few)) (above, live, by) = addition_first vars small (l ∷ []) id hints rest (in_of vars (l ∷ []) p.within) i (hints_in h id hints b above i live)
  line_read h (Drops c id) rest b (p, i) at = drop_first id rest (b.low id c at) i

  pub bounded_after : (h : HeldOf) (l : LogLine) → IsBounded h → IsHintedLine h l → IsBounded (held_after h l)
  bounded_after h (Adds c id hints) b (above, live, by) = bounded_put h id c above b
  bounded_after h (Notes l id hints) b (above, live, by) = bounded_put h id (l ∷ []) above b
  bounded_after h (Drops c id) b at = bounded_drop h id b

  pub bounded_all : (h k : HeldOf) (ls : List LogLine) → AreHinted h ls k → IsBounded h → IsBounded k
  bounded_all h k [] e b = subst IsBounded (sym e) b
  bounded_all h k (l ∷ ls) (by, w) b = bounded_all (held_after h l) k ls w (bounded_after h l b by)

  pub hinted_lines : (h k : HeldOf) (ls : List LogLine) (rest : List ℕ) → AreHinted h ls k → IsBounded h → AreProperLines vars ls → lines (hinted_text ls ++ rest) ≡ map hinted_words ls ++ lines rest
  hinted_lines h k [] rest w b p = refl
  hinted_lines h k (l ∷ ls) rest (by, w) b p =
      ap lines (append_assoc (hinted_line l) (hinted_text ls) rest) ∙ line_read h l (hinted_text ls ++ rest) b (All-head (IsProperLine vars) l ls p) by
      ∙ ap (λ z. hinted_words l ∷ z) (hinted_lines (held_after h l) k ls rest w (bounded_after h l b by) (All-tail (IsProperLine vars) l ls p))

  -- a line of a clause whose hints admit it
  pub admitted_words : (h : HeldOf) (c : List LitOf) (id : ℕ) (hints : List ℕ) → IsBounded h → IsProper vars c → id < 2 ^ 63 → length hints ≤ 2 ^ 27 → IsHintedAs h c id hints → IsClauseLine vars (addition_words c id hints) id c hints
  admitted_words h c id hints b p i few (above, live, by) = clause_words vars small c id hints (in_of vars c p.within) p.short (omega (arith, above)) i (hints_in h id hints b above i live) few

  pub hinted_leads : (h k : HeldOf) (ls : List LogLine) (tail : List (List (List ℕ))) (H : Held) → AreHinted h ls k → IsBounded h → AreProperLines vars ls → AreFilled ls → Leads vars tail (as_held k) H → Leads vars (map hinted_words ls ++ tail) (as_held h) H
  hinted_leads h k [] tail H e b p n t = subst (λ z. Leads vars tail (as_held z) H) e t
  hinted_leads h k (Adds c id hints ∷ ls) tail H (by, w) b p n t =
      let own : IsProperLine vars (Adds c id hints) = All-head (IsProperLine vars) (Adds c id hints) ls p in
      let few = own.1 in
      let rest = hinted_leads (held_after h (Adds c id hints)) k ls tail H w (bounded_after h (Adds c id hints) b by) (All-tail (IsProperLine vars) (Adds c id hints) ls p) n.1 t in
      inr (inl (id, c, hints, admitted_words h c id hints b own.0 few.0 few.1 by, n.0, by, rest))
  hinted_leads h k (Notes l id hints ∷ ls) tail H (by, w) b p n t =
      let own : IsProperLine vars (Notes l id hints) = All-head (IsProperLine vars) (Notes l id hints) ls p in
      let few = own.1 in
      let rest = hinted_leads (held_after h (Notes l id hints)) k ls tail H w (bounded_after h (Notes l id hints) b by) (All-tail (IsProperLine vars) (Notes l id hints) ls p) n t in
      inr (inl (id, l ∷ [], hints, admitted_words h (l ∷ []) id hints b own.0 few.0 few.1 by, one_filled l, by, rest))
  hinted_leads h k (Drops c id ∷ ls) tail H (by, w) b p n t =
      let own : IsProperLine vars (Drops c id) = All-head (IsProperLine vars) (Drops c id) ls p in
      let rest = hinted_leads (held_after h (Drops c id)) k ls tail H w (bounded_after h (Drops c id) b by) (All-tail (IsProperLine vars) (Drops c id) ls p) n t in
      inr (inr (id ∷ [], deletion_words id (b.low id c by) own.1, rest))

-- a clause's line at a stream's end, without its line feed
pub bare_read : (vars : ℕ) (small : vars < 2 ^ 64) (h : HeldOf) (c : List LitOf) (id : ℕ) (hints : List ℕ) → IsBounded h → IsProperLine vars (Adds c id hints) → IsHintedLine h (Adds c id hints) → lines (bare_addition c id hints) ≡ addition_words c id hints ∷ []
bare_read vars small h c id hints b (p, (i, few)) (above, live, by) = addition_last vars small c id hints (in_of vars c p.within) i (hints_in h id hints b above i live)

pub hinted_text_append : (ls ms : List LogLine) → hinted_text (ls ++ ms) ≡ hinted_text ls ++ hinted_text ms
hinted_text_append [] ms = refl
hinted_text_append (l ∷ ls) ms = ap (λ z. hinted_line l ++ z) (hinted_text_append ls ms) ∙ sym (append_assoc (hinted_line l) (hinted_text ls) (hinted_text ms))
