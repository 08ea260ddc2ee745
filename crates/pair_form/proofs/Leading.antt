-- The comment lines of a pair's text stand before its formula.
use Rattle.std.proofs.Common.{◌≡◌, ◌≢◌, ℕ, ◌+◌, ◌<◌, ◌^◌, Bool, true, false, cond, suc, List, [], ◌∷◌, ◌++◌, Option, Some, None, length, refl, sym, ap, ◌∙◌, subst, arith, append_assoc, lit<}
use Rattle.std.specs.Prelude.{All, codes, decimal, slice_index_or}
use Rattle.std.specs.Str.Parse.{AllDigits}
use Rattle.std.specs.Char.{digit_value}
use Rattle.std.proofs.lemmas.Fmt.{decimal_is_IsNumeral}
use Rattle.std.proofs.lemmas.List.Elements.{All-nil, All-cons, All-append}
use Rattle.std.proofs.lemmas.Bool.Decides.{nat_tests}
use Rattle.cnf_form.specs.Cnf.{LitOf, LitWithin}
use Rattle.cnf_form.specs.Dimacs.{Skips, feed, comment, IsDimacs, dimacs_text, literal_text}
use Rattle.cnf_form.proofs.Writing.{dimacs_text_is_IsDimacs}
use Rattle.pair_form.specs.Pair.{PairOf, IsPair}
use Rattle.pair_form.specs.Text.{bit_text, bits_text, named_text, bad_text, next_text, start_text, pair_text}
use Rattle.pair_form.specs.declared.pair.BitLits.{BitLits}

abbrev pub NoFeed : ℕ → Type 0
NoFeed b = b ≢ 10

abbrev pub Clean : List ℕ → Type 0
Clean t = All NoFeed t

above : (b : ℕ) (bs : List ℕ) → 10 < b → Clean bs → Clean (b ∷ bs)
above b bs h t = All-cons NoFeed b bs (λ (e : b ≡ 10). omega arith) t

none : Clean []
none = All-nil NoFeed

digit_clean : (c : ℕ) → digit_value c < 10 → c ≢ 10
digit_clean c h = grind (arith, nat_tests)

digits_clean : (w : List ℕ) → AllDigits 10 w → Clean w
digits_clean [] h = none
digits_clean (c ∷ cs) h = All-cons NoFeed c cs (digit_clean c h.0) (digits_clean cs h.1)

pub decimal_clean : (n : ℕ) → n < 2 ^ 64 → Clean (decimal n)
decimal_clean n h = let d = (decimal_is_IsNumeral n h).0 in digits_clean (decimal n) d.1

signed_clean : (negated : Bool) (n : ℕ) → n < 2 ^ 64 → Clean (cond negated (45 ∷ decimal n) (decimal n))
signed_clean true n h = above 45 (decimal n) (lit< tt) (decimal_clean n h)
signed_clean false n h = decimal_clean n h

pub literal_clean : (l : LitOf) → l.var < 2 ^ 64 → Clean (literal_text l)
literal_clean l h = signed_clean l.negated l.var h

-- a line that begins with c is passed over
line_skipped : (text rest header : List ℕ) → Clean text → Skips true rest header → Skips true (99 ∷ (text ++ 10 ∷ rest)) header
line_skipped text rest header clean s = comment text (10 ∷ rest) header (99 ∷ (text ++ 10 ∷ rest)) refl clean refl (feed false 10 rest header refl s)

named_leads : (name : List ℕ) (l : LitOf) (rest : List ℕ) → Clean name → l.var < 2 ^ 64 → (header : List ℕ) → Skips true rest header → Skips true (named_text (99 ∷ name) l ++ rest) header
named_leads name l rest clean small header s =
    let e : named_text (99 ∷ name) l ++ rest ≡ 99 ∷ ((name ++ literal_text l) ++ 10 ∷ rest) =
    ap (λ (t : List ℕ). 99 ∷ t) (append_assoc name (literal_text l ++ 10 ∷ []) rest ∙ ap (λ (t : List ℕ). name ++ t) (append_assoc (literal_text l) (10 ∷ []) rest) ∙ sym (append_assoc name (literal_text l) (10 ∷ rest))) in
    subst (λ (t : List ℕ). Skips true t header) (sym e) (line_skipped (name ++ literal_text l) rest header (All-append NoFeed name (literal_text l) clean (literal_clean l small)) s)

abbrev pub bit_line : ℕ → BitLits → List ℕ
bit_line n b = codes " bit " ++ (decimal n ++ 32 ∷ (literal_text b.first ++ 32 ∷ literal_text b.second))

clean_bit : Clean (codes " bit ")
clean_bit = above 32 (98 ∷ 105 ∷ 116 ∷ 32 ∷ []) (lit< tt) (above 98 (105 ∷ 116 ∷ 32 ∷ []) (lit< tt) (above 105 (116 ∷ 32 ∷ []) (lit< tt) (above 116 (32 ∷ []) (lit< tt) (above 32 ([]) (lit< tt) none))))

clean_start : Clean (codes " start ")
clean_start = above 32 (115 ∷ 116 ∷ 97 ∷ 114 ∷ 116 ∷ 32 ∷ []) (lit< tt) (above 115 (116 ∷ 97 ∷ 114 ∷ 116 ∷ 32 ∷ []) (lit< tt) (above 116 (97 ∷ 114 ∷ 116 ∷ 32 ∷ []) (lit< tt) (above 97 (114 ∷ 116 ∷ 32 ∷ []) (lit< tt) (above 114 (116 ∷ 32 ∷ []) (lit< tt) (above 116 (32 ∷ []) (lit< tt) (above 32 ([]) (lit< tt) none))))))

clean_next : Clean (codes " next ")
clean_next = above 32 (110 ∷ 101 ∷ 120 ∷ 116 ∷ 32 ∷ []) (lit< tt) (above 110 (101 ∷ 120 ∷ 116 ∷ 32 ∷ []) (lit< tt) (above 101 (120 ∷ 116 ∷ 32 ∷ []) (lit< tt) (above 120 (116 ∷ 32 ∷ []) (lit< tt) (above 116 (32 ∷ []) (lit< tt) (above 32 ([]) (lit< tt) none)))))

clean_bad : Clean (codes " bad ")
clean_bad = above 32 (98 ∷ 97 ∷ 100 ∷ 32 ∷ []) (lit< tt) (above 98 (97 ∷ 100 ∷ 32 ∷ []) (lit< tt) (above 97 (100 ∷ 32 ∷ []) (lit< tt) (above 100 (32 ∷ []) (lit< tt) (above 32 ([]) (lit< tt) none))))

-- a state bit's line as text between c and the line feed
pub bit_split : (n : ℕ) (b : BitLits) (rest : List ℕ) → bit_text n b ++ rest ≡ 99 ∷ (bit_line n b ++ 10 ∷ rest)
bit_split n b rest =
    ap (λ (t : List ℕ). codes "c bit " ++ t)
    (append_assoc (decimal n) (32 ∷ (literal_text b.first ++ 32 ∷ (literal_text b.second ++ 10 ∷ []))) rest
    ∙ ap (λ (t : List ℕ). decimal n ++ 32 ∷ t) (append_assoc (literal_text b.first) (32 ∷ (literal_text b.second ++ 10 ∷ [])) rest
    ∙ ap (λ (t : List ℕ). literal_text b.first ++ 32 ∷ t) (append_assoc (literal_text b.second) (10 ∷ []) rest)
    ∙ sym (append_assoc (literal_text b.first) (32 ∷ literal_text b.second) (10 ∷ rest)))
    ∙ sym (append_assoc (decimal n) (32 ∷ (literal_text b.first ++ 32 ∷ literal_text b.second)) (10 ∷ rest)))

bit_clean : (n : ℕ) (b : BitLits) → n < 2 ^ 64 → b.first.var < 2 ^ 64 → b.second.var < 2 ^ 64 → Clean (bit_line n b)
bit_clean n b small f s =
    All-append NoFeed (codes " bit ") (decimal n ++ 32 ∷ (literal_text b.first ++ 32 ∷ literal_text b.second)) clean_bit
    (All-append NoFeed (decimal n) (32 ∷ (literal_text b.first ++ 32 ∷ literal_text b.second)) (decimal_clean n small)
    (above 32 (literal_text b.first ++ 32 ∷ literal_text b.second) (lit< tt)
    (All-append NoFeed (literal_text b.first) (32 ∷ literal_text b.second) (literal_clean b.first f)
    (above 32 (literal_text b.second) (lit< tt) (literal_clean b.second s)))))

abbrev pub AreSmall : List (Option BitLits) → Type 0
AreSmall [] = Unit {0}
AreSmall (None ∷ bits) = AreSmall bits
AreSmall (Some b ∷ bits) = (b.first.var < 2 ^ 64) × (b.second.var < 2 ^ 64) × AreSmall bits

bits_lead : (n : ℕ) (bits : List (Option BitLits)) (rest header : List ℕ) → n + length bits < 2 ^ 64 → AreSmall bits → Skips true rest header → Skips true (bits_text n bits ++ rest) header
bits_lead n [] rest header l small s = s
bits_lead n (None ∷ bits) rest header l small s = bits_lead (n + 1) bits rest header (omega arith) small s
bits_lead n (Some b ∷ bits) rest header l (f, g, small) s =
    let e : bit_text n b ++ (bits_text (n + 1) bits ++ rest) ≡ (bit_text n b ++ bits_text (n + 1) bits) ++ rest = sym (append_assoc (bit_text n b) (bits_text (n + 1) bits) rest) in
    subst (λ (t : List ℕ). Skips true t header) (sym (bit_split n b (bits_text (n + 1) bits ++ rest)) ∙ e)
    (line_skipped (bit_line n b) (bits_text (n + 1) bits ++ rest) header (bit_clean n b (omega arith) f g) (bits_lead (n + 1) bits rest header (omega arith) small s))

small_from : (bits : List (Option BitLits)) → ((n : ℕ) (b : BitLits) → slice_index_or bits n None ≡ Some b → (b.first.var < 2 ^ 64) × (b.second.var < 2 ^ 64)) → AreSmall bits
small_from [] h = tt
small_from (None ∷ bits) h = small_from bits (λ n b e. h (suc n) b e)
small_from (Some b ∷ bits) h = let k = h 0 b refl in (k.0, k.1, small_from bits (λ n b e. h (suc n) b e))

module _ (p : PairOf) (is : IsPair p) where
  small_lit : (l : LitOf) → LitWithin p.formula.vars l → l.var < 2 ^ 64
  small_lit l w = let v = is.vars in let k = w.1 in omega arith

  pub small_bits : AreSmall p.bits
  small_bits = small_from p.bits (λ n b e. (small_lit b.first (is.first n b e), small_lit b.second (is.second n b e)))

  pub small_start : p.start.var < 2 ^ 64
  small_start = small_lit p.start is.start

  pub small_next : p.next.var < 2 ^ 64
  small_next = small_lit p.next is.next

  pub small_bad : p.bad.var < 2 ^ 64
  small_bad = small_lit p.bad is.bad

  lines_lead : (header : List ℕ) → Skips true (dimacs_text p.formula) header → Skips true (pair_text p) header
  lines_lead header s =
      bits_lead 1 p.bits (start_text p) header (let b = is.bits in omega arith) small_bits
      (named_leads (codes " start ") p.start (next_text p) clean_start small_start header
      (named_leads (codes " next ") p.next (bad_text p) clean_next small_next header
      (named_leads (codes " bad ") p.bad (dimacs_text p.formula) clean_bad small_bad header s)))

  text_dimacs : IsDimacs (dimacs_text p.formula) p.formula → IsDimacs (pair_text p) p.formula
  text_dimacs d = record {
    header = d.header;
    after_p = d.after_p;
    after_cnf = d.after_cnf;
    vars_word = d.vars_word;
    after_vars = d.after_vars;
    count_word = d.count_word;
    body = d.body;
    lead = lines_lead d.header d.lead;
    p = d.p;
    cnf = d.cnf;
    vars_next = d.vars_next;
    vars = d.vars;
    limit = d.limit;
    count_next = d.count_next;
    count = d.count;
    within = d.within;
    clauses = d.clauses;
  }

  pub text_is_dimacs : IsDimacs (pair_text p) p.formula
  text_is_dimacs = text_dimacs (dimacs_text_is_IsDimacs p.formula is.vars (let n = is.count in omega arith) is.clauses)
