-- Other bytes after the first tokens of a text.
use Rattle.std.proofs.Common.{◌≡◌, ℕ, ◌+◌, ◌-◌, ◌≤◌, ◌^◌, Bool, true, List, [], ◌∷◌, ◌++◌, length, take, drop, None, Ok, Err, refl, sym, ap, ◌∙◌, subst, append_assoc, arith}
use Rattle.std.specs.Prelude.{IsTrue, IsFalse}
use Rattle.std.specs.List.{AllByRecursion}
use Rattle.std.proofs.lemmas.List.{length-append}
use Rattle.std.proofs.Math.Seq.{take-append_seam, drop-append_seam}
use Rattle.rtlil_lex.specs.Tokens.{is_space, is_feed, is_break, ends_at, IsRun, Gap, IsQuoted, IsToken, TokenOf, Lexes, Front}
use Rattle.rtlil_lex.specs.Tokens.Gap.{no_more, space, comment}
use Rattle.rtlil_lex.specs.Tokens.IsToken.{name, string, word as plain_word}
use Rattle.rtlil_lex.specs.Tokens.Lexes.{last_gap, token as lexes_token}
use Rattle.rtlil_lex.specs.Tokens.Front.{none_yet, token}
use Rattle.rtlil_lex.specs.Steps.{after_token_of}
use Rattle.rtlil_lex.proofs.Runs.{quote_again, token_again}
use Rattle.rtlil_lex.proofs.Lexing.{token_at, token_some, one_token, no_tokens}
use Rattle.rtlil_lex.proofs.Fronts.{front_then, front_of, front_lexes, front_push}
use Rattle.design_core.specs.Shape.{DesignOf}
use Rattle.design_reader.specs.Beginnings.{IsText, BeginsText, EndsTexts}
use Rattle.rtlil_constant.specs.Constants.{Word}
use Rattle.design_reader.specs.Parts.{DraftOf}
use Rattle.design_reader.specs.Grammar.{Outcome, ◌⊳◌, step, steps, words_of, reading, Reads}
use Rattle.design_reader.specs.Faults.{IsReadFault}
use Rattle.design_reader.specs.Faults.IsReadFault.{too_long, word, no_token, ended}
use Rattle.design_reader.specs.declared.fault.ReadFaultKind.{ReadFaultKind}
use Rattle.design_reader.specs.declared.spot.Spot.{Spot}
use Rattle.design_reader.specs.declared.spot.Spot.TheVariants.{File}
use Rattle.design_reader.proofs.Room.{reading_kept}
use Rattle.design_reader.proofs.Closing.{IsLone, Closes, spot_closes}
use Rattle.design_reader.proofs.Wholes.{reading_then, reading_push, refused_start}

-- What stands before the one ends as before the other: where a line feed ends it, or what begins the one does.
abbrev EndsLike : List ℕ → List ℕ → Type 0
EndsLike old new = (ends : ℕ → Bool) → IsTrue (ends 10) → IsTrue (ends_at ends old) → IsTrue (ends_at ends new)

like_feed : (old rest : List ℕ) → EndsLike old (10 ∷ rest)
like_feed old rest = λ ends ten h. ten

like_under : (front old new : List ℕ) → EndsLike old new → EndsLike (front ++ old) (front ++ new)
like_under [] old new like = like
like_under (b ∷ front) old new like = λ ends ten h. h

-- the bytes after a token
like_token : (text old new : List ℕ) → IsToken text old → EndsLike (text ++ old) (text ++ new)
like_token text old new (name b run rest h r) = λ ends ten k. k
like_token text old new (string b more rest q h s) = λ ends ten k. k
like_token text old new (plain_word b run rest h r) = λ ends ten k. k

run_like : (ends : ℕ → Bool) (run old new : List ℕ) → IsTrue (ends 10) → EndsLike old new → IsRun ends run old → IsRun ends run new
run_like ends run old new ten like r = record { inside = r.inside; after = like ends ten r.after }

token_like : (text old new : List ℕ) → EndsLike old new → IsToken text old → IsToken text new
token_like text old new like (name b run rest h r) = name b run new h (run_like is_space run old new refl like r)
token_like text old new like (string b more rest q h s) = string b more new q h (like is_break refl s)
token_like text old new like (plain_word b run rest h r) = plain_word b run new h (run_like is_break run old new refl like r)

-- a gap before other bytes
gap_like : (old new bytes : List ℕ) → EndsLike old new → Gap old bytes → (gap : List ℕ) × (bytes ≡ gap ++ old) × Gap new (gap ++ new)
gap_like old new bytes like no_more = ([], refl, no_more)
gap_like old new bytes like (space b more s g) =
    let r = gap_like old new more like g in
    (b ∷ r.0, ap (λ (x : List ℕ). b ∷ x) r.1, space b (r.0 ++ new) s r.2)
gap_like old new bytes like (comment b more text behind h e run g) =
    let r = gap_like old new behind like g in
    let ends : IsRun is_feed text (r.0 ++ new) = run_like is_feed text (r.0 ++ old) (r.0 ++ new) refl (like_under r.0 old new like) (subst (λ (x : List ℕ). IsRun is_feed text x) r.1 run) in
    let all : more ≡ (text ++ r.0) ++ old = e ∙ ap (λ (x : List ℕ). text ++ x) r.1 ∙ sym (append_assoc text r.0 old) in
    (b ∷ (text ++ r.0), ap (λ (x : List ℕ). b ∷ x) all, comment b ((text ++ r.0) ++ new) text (r.0 ++ new) h (append_assoc text r.0 new) ends r.2)

-- the first tokens before other bytes, in a text of another length
abbrev Before : ℕ → List ℕ → List ℕ → List ℕ → List TokenOf → Type 0
Before m old new bytes ts = (front : List ℕ) × (bytes ≡ front ++ old) × Front m new (front ++ new) ts

front_like : (n m : ℕ) (old new bytes : List ℕ) (ts : List TokenOf) → EndsLike old new → n + length new ≡ m + length old → Front n old bytes ts → Before m old new bytes ts
front_like n m old new bytes ts like len none_yet = ([], refl, none_yet)
front_like n m old new bytes ts like len (token t others all rest g p e f) =
    let r = front_like n m old new rest others like len f in
    let under : EndsLike rest (r.0 ++ new) = subst (λ (x : List ℕ). EndsLike x (r.0 ++ new)) (sym r.1) (like_under r.0 old new like) in
    let gap = gap_like (t.text ++ rest) (t.text ++ (r.0 ++ new)) bytes (like_under t.text rest (r.0 ++ new) under) g in
    let place : t.start + length (t.text ++ (r.0 ++ new)) ≡ m = omega (arith, e, len, ap (λ (x : List ℕ). length x) r.1, length-append t.text rest, length-append r.0 old, length-append t.text (r.0 ++ new), length-append r.0 new) in
    let all : bytes ≡ (gap.0 ++ (t.text ++ r.0)) ++ old = gap.1 ∙ ap (λ (x : List ℕ). gap.0 ++ (t.text ++ x)) r.1 ∙ ap (λ (x : List ℕ). gap.0 ++ x) (sym (append_assoc t.text r.0 old)) ∙ sym (append_assoc gap.0 (t.text ++ r.0) old) in
    let whole : (gap.0 ++ (t.text ++ r.0)) ++ new ≡ gap.0 ++ (t.text ++ (r.0 ++ new)) = append_assoc gap.0 (t.text ++ r.0) new ∙ ap (λ (x : List ℕ). gap.0 ++ x) (append_assoc t.text r.0 new) in
    let front : Front m new (gap.0 ++ (t.text ++ (r.0 ++ new))) (t ∷ others) = token t others (gap.0 ++ (t.text ++ (r.0 ++ new))) (r.0 ++ new) gap.2 (token_like t.text rest (r.0 ++ new) under p) place r.2 in
    (gap.0 ++ (t.text ++ r.0), all, subst (λ (x : List ℕ). Front m new x (t ∷ others)) (sym whole) front)

-- the first tokens of a text in two parts
front_cut : (n : ℕ) (left bytes : List ℕ) (ts us : List TokenOf) → Front n left bytes (ts ++ us) → (mid : List ℕ) × Front n mid bytes ts × Front n left mid us
front_cut n left bytes [] us f = (bytes, none_yet, f)
front_cut n left bytes (t ∷ ts) us (token u others all rest g p e f) =
    let r = front_cut n left rest ts us f in
    (r.0, token t ts bytes rest g p e r.1, r.2)

record FirstOf (n : ℕ) (left mid : List ℕ) (t : TokenOf) : Type 0 where
  gap : Gap (t.text ++ left) mid
  token : IsToken t.text left
  place : t.start + length (t.text ++ left) ≡ n

one_front_token : (n : ℕ) (left mid : List ℕ) (t : TokenOf) → Front n left mid (t ∷ []) → FirstOf n left mid t
one_front_token n left mid t (token u others all rest g p e none_yet) = record { gap = g; token = p; place = e }

-- the first tokens and the gap after them, before other bytes at the same place
record Swapped (text rest new : List ℕ) (ts : List TokenOf) (place : ℕ) : Type 0 where
  left : List ℕ
  front : Front (length (take place text ++ new)) left (take place text ++ new) ts
  gap : Gap new left
  behind : drop place text ≡ rest

front_take : (front rest text : List ℕ) (place : ℕ) → text ≡ front ++ rest → length front ≡ place → take place text ≡ front
front_take front rest text place e h = subst (λ (k : ℕ). take k text ≡ front) h (rw e (take-append_seam front rest))

front_drop : (front rest text : List ℕ) (place : ℕ) → text ≡ front ++ rest → length front ≡ place → drop place text ≡ rest
front_drop front rest text place e h = subst (λ (k : ℕ). drop k text ≡ rest) h (rw e (drop-append_seam front rest))

swapped : (text left rest new : List ℕ) (ts : List TokenOf) (place : ℕ) → Front (length text) left text ts → Gap rest left → place + length rest ≡ length text → EndsLike rest new → Swapped text rest new ts place
swapped text left rest new ts place f g at like =
    let gap = gap_like rest new left like g in
    let under : EndsLike left (gap.0 ++ new) = subst (λ (x : List ℕ). EndsLike x (gap.0 ++ new)) (sym gap.1) (like_under gap.0 rest new like) in
    let m = place + length new in
    let len : length text + length (gap.0 ++ new) ≡ m + length left = omega (arith, at, ap (λ (x : List ℕ). length x) gap.1, length-append gap.0 rest, length-append gap.0 new) in
    let r = front_like (length text) m left (gap.0 ++ new) text ts under len f in
    let parts : text ≡ (r.0 ++ gap.0) ++ rest = r.1 ∙ ap (λ (x : List ℕ). r.0 ++ x) gap.1 ∙ sym (append_assoc r.0 gap.0 rest) in
    let here : length (r.0 ++ gap.0) ≡ place = omega (arith, at, ap (λ (x : List ℕ). length x) parts, length-append (r.0 ++ gap.0) rest) in
    let front : take place text ≡ r.0 ++ gap.0 = front_take (r.0 ++ gap.0) rest text place parts here in
    let same : r.0 ++ (gap.0 ++ new) ≡ take place text ++ new = sym (append_assoc r.0 gap.0 new) ∙ ap (λ (x : List ℕ). x ++ new) (sym front) in
    let count : m ≡ length (take place text ++ new) = omega (arith, here, ap (λ (x : List ℕ). length x) front, length-append (take place text) new) in
    record {
      left = gap.0 ++ new;
      front = subst (λ (k : ℕ). Front k (gap.0 ++ new) (take place text ++ new) ts) count (subst (λ (x : List ℕ). Front m (gap.0 ++ new) x ts) same r.2);
      gap = gap.2;
      behind = front_drop (r.0 ++ gap.0) rest text place parts here;
    }

-- ---- words after it

gap_then : (b c a : List ℕ) → Gap b a → Gap c b → Gap c a
gap_then b c a no_more h = h
gap_then b c a (space x more s g) h = space x more s (gap_then b c more g h)
gap_then b c a (comment x more text behind s e r g) h = comment x more text behind s e r (gap_then b c behind g h)

gap_lexes : (n : ℕ) (a b : List ℕ) (ts : List TokenOf) → Gap b a → Lexes n b ts → Lexes n a ts
gap_lexes n a b ts g (last_gap all h) = last_gap a (gap_then b [] a g h)
gap_lexes n a b ts g (lexes_token t others all rest h p e l) = lexes_token t others a rest (gap_then b (t.text ++ rest) a g h) p e l

-- each word on a line of its own
abbrev lines : List Word → List ℕ
lines [] = 10 ∷ []
lines (w ∷ ws) = 10 ∷ (w ++ lines ws)

feed_first : (w : Word) (ws : List Word) → IsLone w → IsToken w (lines ws)
feed_first w [] l = l.token []
feed_first w (v ∷ ws) l = l.token (v ++ lines ws)

lines_lex : (n : ℕ) (ws : List Word) → AllByRecursion IsLone ws → length (lines ws) ≤ n → (ts : List TokenOf) × (words_of ts ≡ ws) × Lexes n (lines ws) ts
lines_lex n [] l h = ([], refl, last_gap (10 ∷ []) (space 10 [] refl no_more))
lines_lex n (w ∷ ws) l h =
    let r = lines_lex n ws l.1 (omega (arith, length-append w (lines ws))) in
    let t : TokenOf = record { start = n - length (w ++ lines ws); text = w } in
    (t ∷ r.0, ap (λ (x : List Word). w ∷ x) r.1, lexes_token t r.0 (lines (w ∷ ws)) (lines ws) (space 10 (w ++ lines ws) refl no_more) (feed_first w ws l.0) (omega arith) r.2)

like_lines : (old : List ℕ) (ws : List Word) → EndsLike old (lines ws)
like_lines old [] = like_feed old []
like_lines old (w ∷ ws) = like_feed old (w ++ lines ws)

-- ---- some text goes on

closed : (ts us : List TokenOf) (d : DraftOf) (s : Spot) (c : Closes d s) → reading ts ≡ Ok (d, s) → words_of us ≡ c.words → reading (ts ++ us) ≡ Ok (c.last, File true)
closed ts us d s c e h =
    reading_then ts us ∙ ap (λ (r : Outcome). r ⊳ λ x. steps x.0 x.1 (words_of us)) e ∙ ap (λ (x : List Word). steps d s x) h ∙ c.closes

-- the bytes up to what stands after a gap after the first tokens
begins_text : (text left rest : List ℕ) (ts : List TokenOf) (d : DraftOf) (s : Spot) (place : ℕ) → Front (length text) left text ts → Gap rest left → reading ts ≡ Ok (d, s) → place + length rest ≡ length text → BeginsText (take place text)
begins_text text left rest ts d s place f g e at =
    let c = spot_closes d s (reading_kept ts d s e) in
    let more = lines c.words in
    let w = swapped text left rest more ts place f g at (like_lines rest c.words) in
    let m = length (take place text ++ more) in
    let us = lines_lex m c.words c.lone (omega (arith, length-append (take place text) more)) in (
      more,
      record {
        tokens = ts ++ us.0;
        lexes = front_then m w.left (take place text ++ more) ts us.0 w.front (gap_lexes m w.left more us.0 w.gap us.2);
        draft = c.last;
        whole = closed ts us.0 d s c e us.1;
      },
    )

front_short : (n : ℕ) (left bytes : List ℕ) (ts : List TokenOf) → Front n left bytes ts → length left ≤ length bytes
front_short n left bytes ts f =
    let r = front_like n n left left bytes ts (λ ends ten h. h) refl f in
    omega (arith, ap (λ (x : List ℕ). length x) r.1, length-append r.0 left)

pub goes_on_behind : (text left : List ℕ) (ts : List TokenOf) (d : DraftOf) (s : Spot) → Front (length text) left text ts → reading ts ≡ Ok (d, s) → BeginsText (take (length text - length left) text)
goes_on_behind text left ts d s f e = begins_text text left left ts d s (length text - length left) f no_more e (omega (arith, front_short (length text) left text ts f))

pub goes_on_before : (text : List ℕ) (byte : ℕ) (kind : ReadFaultKind) → length text ≤ 2 ^ 26 → IsReadFault text byte kind → BeginsText (take byte text)
goes_on_before text byte kind few (too_long h e k) = absurd (omega arith)
goes_on_before text byte kind few (word ts t d s small begins start read fails) =
    let cut = front_cut (length text) begins.0 text ts (t ∷ []) begins.1 in
    let first = one_front_token (length text) begins.0 cut.0 t cut.2 in
    begins_text text cut.0 (t.text ++ begins.0) ts d s byte cut.1 first.gap read (omega (arith, start, first.place))
goes_on_before text byte kind few (no_token ts d s small breaks read k) = begins_text text breaks.left (34 ∷ breaks.more) ts d s byte breaks.front breaks.gap read breaks.place
goes_on_before text byte kind few (ended ts d s small lexes read bad e) =
    let f = front_of (length text) text ts lexes in
    begins_text text f.0 [] ts d s byte f.1 f.2 read (omega arith)

-- ---- none goes on with the word

token_behind : (text left after : List ℕ) (ts : List TokenOf) (t : TokenOf) (place : ℕ) → Front (length text) left text ts → Gap (t.text ++ after) left → place + length (t.text ++ after) ≡ length text
    → drop place text ≡ t.text ++ after
token_behind text left after ts t place f g at = (swapped text left (t.text ++ after) (t.text ++ after) ts place f g at (λ ends ten h. h)).behind

refused_text : (text left after more : List ℕ) (ts : List TokenOf) (t : TokenOf) (d : DraftOf) (s : Spot) (k : ReadFaultKind) (place : ℕ) → Front (length text) left text ts → Gap (t.text ++ after) left → place + length (t.text ++ after) ≡ length text
    → IsToken t.text after → IsToken t.text more → reading ts ≡ Ok (d, s) → step d s t.text ≡ Err k → IsText (take place text ++ (t.text ++ more)) → ⊥
refused_text text left after more ts t d s k place f g at p q e fails whole =
    let w = swapped text left (t.text ++ after) (t.text ++ more) ts place f g at (like_token t.text after more p) in
    let all = take place text ++ (t.text ++ more) in
    let u = token_at (length (take place text)) t.text in
    let front : Front (length all) more all (ts ++ u ∷ []) = front_push (length all) w.left more all ts u w.front w.gap q (sym (length-append (take place text) (t.text ++ more))) in
    let rest = front_lexes (length all) more all (ts ++ u ∷ []) whole.tokens front whole.lexes in
    refused_start (ts ++ u ∷ []) rest.0 k (whole.draft, File true) (reading_push ts u d s e ∙ fails) (sym (ap (λ (x : List TokenOf). reading x) rest.1) ∙ whole.whole)

pub ends_texts : (text : List ℕ) (byte : ℕ) (kind : ReadFaultKind) → length text ≤ 2 ^ 26 → IsReadFault text byte kind → (word rest : List ℕ) → drop byte text ≡ word ++ rest → IsToken word rest → EndsTexts (take byte text) word
ends_texts text byte kind few (too_long h e k) w rest at p = absurd (omega arith)
ends_texts text byte kind few (word ts t d s small begins start read fails) w rest at p =
    let cut = front_cut (length text) begins.0 text ts (t ∷ []) begins.1 in
    let first = one_front_token (length text) begins.0 cut.0 t cut.2 in
    let place : byte + length (t.text ++ begins.0) ≡ length text = omega (arith, start, first.place) in
    let behind = token_behind text cut.0 begins.0 ts t byte cut.1 first.gap place in
    let same = one_token w rest t.text begins.0 p first.token (sym at ∙ behind) in
    λ more q whole. refused_text text cut.0 begins.0 more ts t d s kind byte cut.1 first.gap place first.token (subst (λ (x : List ℕ). IsToken x more) same.0 q) read fails
    (subst (λ (x : List ℕ). IsText (take byte text ++ (x ++ more))) same.0 whole)
ends_texts text byte kind few (no_token ts d s small breaks read k) w rest at p =
    let behind = (swapped text breaks.left (34 ∷ breaks.more) (34 ∷ breaks.more) ts byte breaks.front breaks.gap breaks.place (λ ends ten h. h)).behind in
    absurd (breaks.no_token w rest (sym behind ∙ at) p)
ends_texts text byte kind few (ended ts d s small lexes read bad e) w rest at p =
    let f = front_of (length text) text ts lexes in
    let behind = (swapped text f.0 [] [] ts byte f.1 f.2 (omega arith) (λ ends ten h. h)).behind in
    absurd (token_some w rest p (sym behind ∙ at))

-- ---- none goes on with a string that nothing parts from what follows

parted : (quoted more : List ℕ) (b : ℕ) → IsQuoted quoted → IsFalse (is_break b) → after_token_of (34 ∷ (quoted ++ b ∷ more)) ≡ None
parted quoted more b q h = rw (quote_again quoted (b ∷ more) q, h) refl

no_string : (quoted more : List ℕ) (b : ℕ) → IsQuoted quoted → IsFalse (is_break b) → (text after : List ℕ) → 34 ∷ (quoted ++ b ∷ more) ≡ text ++ after → IsToken text after → ⊥
no_string quoted more b q h text after e p =
    let none : after_token_of (text ++ after) ≡ None = subst (λ (x : List ℕ). after_token_of x ≡ None) e (parted quoted more b q h) in
    let some = (token_again text after p).0 in cc

broken_text : (text left old quoted more : List ℕ) (b : ℕ) (ts : List TokenOf) (place : ℕ) → Front (length text) left text ts → Gap (34 ∷ old) left → place + length (34 ∷ old) ≡ length text → IsQuoted quoted → IsFalse (is_break b)
    → IsText (take place text ++ 34 ∷ (quoted ++ b ∷ more)) → ⊥
broken_text text left old quoted more b ts place f g at q h whole =
    let new = 34 ∷ (quoted ++ b ∷ more) in
    let all = take place text ++ new in
    let w = swapped text left (34 ∷ old) new ts place f g at (λ ends ten k. k) in
    let rest = front_lexes (length all) w.left all ts whole.tokens w.front whole.lexes in
    no_tokens (length all) 34 (quoted ++ b ∷ more) w.left rest.0 w.gap refl (no_string quoted more b q h) rest.2

joined : (front quoted more : List ℕ) (b : ℕ) → (front ++ 34 ∷ (quoted ++ b ∷ [])) ++ more ≡ front ++ 34 ∷ (quoted ++ b ∷ more)
joined front quoted more b = append_assoc front (34 ∷ (quoted ++ b ∷ [])) more ∙ ap (λ (x : List ℕ). front ++ 34 ∷ x) (append_assoc quoted (b ∷ []) more)

pub ends_at_quote : (text : List ℕ) (byte : ℕ) (kind : ReadFaultKind) → length text ≤ 2 ^ 26 → IsReadFault text byte kind → (quoted rest : List ℕ) (b : ℕ) → drop byte text ≡ 34 ∷ (quoted ++ b ∷ rest) → IsQuoted quoted
    → IsFalse (is_break b) → BeginsText (take byte text ++ 34 ∷ (quoted ++ b ∷ [])) → ⊥
ends_at_quote text byte kind few (too_long h e k) quoted rest b at q apart goes = absurd (omega arith)
ends_at_quote text byte kind few (word ts t d s small begins start read fails) quoted rest b at q apart goes =
    let cut = front_cut (length text) begins.0 text ts (t ∷ []) begins.1 in
    let first = one_front_token (length text) begins.0 cut.0 t cut.2 in
    let behind = token_behind text cut.0 begins.0 ts t byte cut.1 first.gap (omega (arith, start, first.place)) in
    no_string quoted rest b q apart t.text begins.0 (sym at ∙ behind) first.token
ends_at_quote text byte kind few (no_token ts d s small breaks read k) quoted rest b at q apart goes =
    broken_text text breaks.left breaks.more quoted goes.0 b ts byte breaks.front breaks.gap breaks.place q apart (subst (λ (x : List ℕ). IsText x) (joined (take byte text) quoted goes.0 b) goes.1)
ends_at_quote text byte kind few (ended ts d s small lexes read bad e) quoted rest b at q apart goes =
    let f = front_of (length text) text ts lexes in
    let behind = (swapped text f.0 [] [] ts byte f.1 f.2 (omega arith) (λ ends ten h. h)).behind in
    let none = sym behind ∙ at in cc

-- ---- which texts are read

pub text_reads : (text : List ℕ) → length text ≤ 2 ^ 26 → IsText text → (d : DesignOf) × Reads text d
text_reads text few t = (t.draft.design, record { limit = few; tokens = t.tokens; lexes = t.lexes; cells = t.draft.cells; whole = t.whole })

pub reads_text : (text : List ℕ) (d : DesignOf) → Reads text d → IsText text
reads_text text d r = record { tokens = r.tokens; lexes = r.lexes; draft = record { design = d; cells = r.cells }; whole = r.whole }
