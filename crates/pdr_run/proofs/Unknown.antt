-- The fate of a stream that doesn't know.
use Rattle.std.proofs.Common.{◌≡◌, ℕ, ◌+◌, ◌<◌, ◌≤◌, ◌^◌, true, false, not, eqb, List, [], ◌∷◌, ◌++◌, length, refl, ap, sym, ◌∙◌, subst, inl, inr, append_assoc, arith}
use Rattle.std.specs.Prelude.{None, Some, codes, decimal, map}
use Rattle.std.specs.List.{list_all}
use Rattle.std.proofs.lemmas.Bool.{cases_Bool, false≢true}
use Rattle.cert_stream.specs.Machine as drup
use Rattle.cert_stream.specs.Machine.{DrupOf, fault_of}
use Rattle.cert_stream.specs.Telling.{IsUnknown, told_by}
use Rattle.cert_stream.specs.Text.{NoFeed, is_blank}
use Rattle.cert_stream.specs.declared.mode.Mode.TheVariants.{Skip}
use Rattle.pair_form.specs.Pair.{PairOf}
use Rattle.inv_stream.specs.Machine.{InvOf, InvSaying, Says, Turn, line_after, turn}
use Rattle.inv_stream.specs.Telling.{fresh, said}
use Rattle.inv_stream.specs.declared.mode.Line.{Line}
use Rattle.inv_stream.specs.declared.mode.Line.TheVariants.{Inside}
use Rattle.inv_stream.specs.declared.mode.Part.TheVariants.{Head}
use Rattle.inv_fate.specs.Fate.{BytesFate, SayingsFate, InvFateOf, Unknown}
use Rattle.inv_fate.proofs.Fates.{comes_more}
use Rattle.cdcl_run.specs.Text.{unknown_line}
use Rattle.cdcl_run.proofs.Words.{no_feed_append, signed_word, visible_feed}
use Rattle.pdr_run.specs.Answer.{IsBrokenStream, IsSpentStream}

-- in a comment, after this many bytes
abbrev skip : ℕ → ℕ → DrupOf
skip vars n = record { vars = vars; taken = n; place = 0; mode = Skip false; lits = [] }

abbrev skipping : DrupOf → Line → InvOf
skipping w line = record { parser = w; part = Head; line = line; place = 0 }

turned : (vars n b : ℕ) → eqb b 10 ≡ false → drup.turn (skip vars n) b ≡ record { to = skip vars (n + 1); event = None }
turned vars n b e = elim (cases_Bool (is_blank b)) [ inl t ↦ rw (e, t) refl | inr f ↦ rw (e, f) refl ]

within : (b : ℕ) → eqb b 10 ≡ false → line_after None b ≡ Inside
within b e = rw e refl

skipped : (vars n b : ℕ) → eqb b 10 ≡ false → turn (skipping (skip vars n) Inside) b ≡ record { to = skipping (skip vars (n + 1)) Inside; says = [] }
skipped vars n b e =
    ap (λ (t : drup.Turn). turned_to (skipping t.to (line_after (fault_of t.to.mode) b)) (map Says (told_by t.to t.event ++ []))) (turned vars n b e) ∙ ap (λ (line : Line). turned_to (skipping (skip vars (n + 1)) line) []) (within b e)
  where
    turned_to : InvOf → List InvSaying → Turn
    turned_to w ss = record { to = w; says = ss }

said_after : (vars n : ℕ) (t : List ℕ) → NoFeed t → said (skipping (skip vars n) Inside) (t ++ 10 ∷ unknown_line) ≡ Says IsUnknown ∷ []
said_after vars n [] f = refl
said_after vars n (b ∷ t) (e, f) = ap (λ (u : Turn). u.says ++ said u.to (t ++ 10 ∷ unknown_line)) (skipped vars n b e) ∙ said_after vars (n + 1) t f

comment_comes : (p : PairOf) (t : List ℕ) → NoFeed t → BytesFate p true (99 ∷ (t ++ 10 ∷ unknown_line)) (Some Unknown)
comment_comes p t f =
    let stream = 99 ∷ (t ++ 10 ∷ unknown_line) in
    let e : said (fresh p.formula.vars) stream ≡ Says IsUnknown ∷ [] = said_after p.formula.vars 1 t f in
    comes_more p Head [] [] (said (fresh p.formula.vars) stream) _ Unknown (subst (λ (ss : List InvSaying). SayingsFate p Head [] [] ss (Some Unknown)) (sym e) refl)

comment_fate : (p : PairOf) (t stream : List ℕ) (most : ℕ) → NoFeed t → stream ≡ 99 ∷ (t ++ 10 ∷ unknown_line) → length stream ≤ most → InvFateOf p stream most Unknown
comment_fate p t stream most f is room = record {
  within = λ _. inl (subst (λ (s : List ℕ). BytesFate p true s (Some Unknown)) (sym is) (comment_comes p t f));
  beyond = λ past. absurd (omega (arith, past, room));
}

plain_feed : (t : List ℕ) → list_all (λ b. not (eqb b 10)) t ≡ true → NoFeed t
plain_feed [] h = tt
plain_feed (b ∷ t) h = elim (cases_Bool (eqb b 10)) [ inl e ↦ absurd (false≢true (rw e at h)) | inr e ↦ (e, plain_feed t (rw e at h)) ]

number_feed : (n : ℕ) → n < 2 ^ 64 → NoFeed (decimal n)
number_feed n h = visible_feed (decimal n) (signed_word false n h).visible

regrouped : (a b c d e : List ℕ) → a ++ (b ++ (c ++ (d ++ e))) ≡ (a ++ (b ++ (c ++ d))) ++ e
regrouped a b c d e = simp append_assoc

pub spent_fate : (p : PairOf) (stream : List ℕ) (budget most : ℕ) → IsSpentStream budget stream → budget < 2 ^ 64 → length stream ≤ most → InvFateOf p stream most Unknown
spent_fate p stream budget most (conflicts, queries, sum, is) small room =
    let c = decimal conflicts in
    let q = decimal queries in
    let t : List ℕ = 32 ∷ (c ++ (codes " conflicts in " ++ (q ++ codes " queries"))) in
    let f = number_feed conflicts (omega (arith, sum, small)) in
    let g = number_feed queries (omega (arith, sum, small)) in
    let tail = plain_feed (codes " queries") refl in
    let mid = plain_feed (codes " conflicts in ") refl in
    let feed : NoFeed t = (refl, no_feed_append c _ f (no_feed_append (codes " conflicts in ") _ mid (no_feed_append q _ g tail))) in
    comment_fate p t stream most feed (is ∙ ap (λ (s : List ℕ). 99 ∷ 32 ∷ s) (regrouped c (codes " conflicts in ") q (codes " queries") (10 ∷ unknown_line))) room

pub broken_fate : (p q : PairOf) (stream : List ℕ) (most : ℕ) → IsBrokenStream p stream → length stream ≤ most → InvFateOf q stream most Unknown
broken_fate p q stream most (n, few, breaks, is) room =
    let front = codes " an assertion breaks at length " in
    let feed = plain_feed front refl in
    comment_fate q (front ++ decimal n) stream most (no_feed_append front (decimal n) feed (number_feed n few)) (is ∙ ap (λ (s : List ℕ). 99 ∷ s) (sym (append_assoc front (decimal n) (10 ∷ unknown_line)))) room
