-- Numbers, texts and lists of words.
use Rattle.std.proofs.Common.{◌≡◌, ◌∙◌, ◌<◌, ◌≤◌, ◌-◌, ◌^◌, ℕ, Bool, false, zero, suc, List, [], ◌∷◌, Option, Some, None, length, get_or, take, drop, refl, sym, ap, arith, true≢false}
use Rattle.std.proofs.lemmas.List.{take_all}
use Rattle.std.specs.Str.Parse.{digits_value}
use Rattle.std.proofs.lemmas.Fmt.{decimal_is_IsNumeral}
use Rattle.std.specs.Prelude.{◌↔◌, IsTrue, bytes_eq, is_some, option_map, slice_index_or}
use Rattle.std.specs.Borrow.{Bor}
use Rattle.std.proofs.lemmas.Slice.Eq.{bytes_eq-Decides}
use Rattle.clap.specs.Walk.{texts}
use Rattle.sby_terms.specs.declared.names.Mode.{Mode}
use Rattle.sby_terms.specs.declared.names.Mode.TheVariants.{Bmc, Prove, ProveInv, Cover}
use Rattle.sby_words.specs.Requests.{JudgeRequest}
use Rattle.sby_words.specs.Words.{IsNumber, Judges, mode_word}

-- ---- numbers

pub number_is_one : (least most : ℕ) (word : List ℕ) (m n : ℕ) → most < 2 ^ 64 → IsNumber least most word m → IsNumber least most word n → m ≡ n
number_is_one least most word m n small a b =
    let k : m < 2 ^ 64 = omega (arith, a.most, small) in
    let l : n < 2 ^ 64 = omega (arith, b.most, small) in
    sym (decimal_is_IsNumeral m k).1 ∙ ap (digits_value 10) (sym a.digits ∙ b.digits) ∙ (decimal_is_IsNumeral n l).1

pub mode_is_one : (m n : Mode) → mode_word m ≡ mode_word n → m ≡ n
mode_is_one Bmc Bmc e = refl
mode_is_one Bmc Prove e = let first : 98 ≡ 112 = ap (λ (w : List ℕ). get_or w 0 0) e in absurd (omega (arith, first))
mode_is_one Bmc Cover e = let first : 98 ≡ 99 = ap (λ (w : List ℕ). get_or w 0 0) e in absurd (omega (arith, first))
mode_is_one Prove Bmc e = let first : 112 ≡ 98 = ap (λ (w : List ℕ). get_or w 0 0) e in absurd (omega (arith, first))
mode_is_one Prove Prove e = refl
mode_is_one Bmc ProveInv e = let other : 98 ≡ 112 = ap (λ (w : List ℕ). get_or w 0 0) e in absurd (omega (arith, other))
mode_is_one Prove ProveInv e = let other : 0 ≡ 45 = ap (λ (w : List ℕ). get_or w 5 0) e in absurd (omega (arith, other))
mode_is_one ProveInv Bmc e = let other : 112 ≡ 98 = ap (λ (w : List ℕ). get_or w 0 0) e in absurd (omega (arith, other))
mode_is_one ProveInv Prove e = let other : 45 ≡ 0 = ap (λ (w : List ℕ). get_or w 5 0) e in absurd (omega (arith, other))
mode_is_one ProveInv ProveInv e = refl
mode_is_one ProveInv Cover e = let other : 112 ≡ 99 = ap (λ (w : List ℕ). get_or w 0 0) e in absurd (omega (arith, other))
mode_is_one Cover ProveInv e = let other : 99 ≡ 112 = ap (λ (w : List ℕ). get_or w 0 0) e in absurd (omega (arith, other))
mode_is_one Prove Cover e = let first : 112 ≡ 99 = ap (λ (w : List ℕ). get_or w 0 0) e in absurd (omega (arith, first))
mode_is_one Cover Bmc e = let first : 99 ≡ 98 = ap (λ (w : List ℕ). get_or w 0 0) e in absurd (omega (arith, first))
mode_is_one Cover Prove e = let first : 99 ≡ 112 = ap (λ (w : List ℕ). get_or w 0 0) e in absurd (omega (arith, first))
mode_is_one Cover Cover e = refl

-- ---- texts

pub no_text : (text : Option (Bor (List ℕ))) → is_some text ≡ false → option_map (λ s. s.now) text ≡ None
no_text None e = refl
no_text (Some text) e = cc

pub text_given : (first : Option (List ℕ)) (text wanted : List ℕ) (r : Bool) → Some text ≡ first → r ≡ bytes_eq text wanted → IsTrue r ↔ (first ≡ Some wanted)
text_given first text wanted r is test =
    let decides = bytes_eq-Decides text wanted in
    (λ t. sym is ∙ ap Some (decides.0 (sym test ∙ t)), λ e. let same : text ≡ wanted = cc in test ∙ decides.1 same)

pub none_given : (first : Option (List ℕ)) (wanted : List ℕ) → None ≡ first → IsTrue false ↔ (first ≡ Some wanted)
none_given first wanted is = (λ t. absurd (true≢false (sym t)), λ e. cc)

-- ---- lists

pub text_at : (xs : List (Bor (List ℕ))) (i : ℕ) (d : Bor (List ℕ)) → i < length xs → slice_index_or (texts xs) i d.now ≡ (slice_index_or xs i d).now
text_at [] i d lt = absurd (omega (arith, lt))
text_at (x ∷ xs) zero d lt = refl
text_at (x ∷ xs) (suc i) d lt = text_at xs i d (omega (arith, lt))

-- what a read past a list gives
abbrev pub nowhere : Bor (List ℕ)
nowhere = record { ref_ptr = (0, 0); now = [] }

-- the words after the first n
abbrev pub later : ℕ → List (Bor (List ℕ)) → List (Bor (List ℕ))
later n xs = take (length xs - n) (drop n xs)

pub three_and_more : (xs : List (Bor (List ℕ))) (d : Bor (List ℕ)) → 3 ≤ length xs
    → texts xs ≡ (slice_index_or xs 0 d).now ∷ (slice_index_or xs 1 d).now ∷ (slice_index_or xs 2 d).now ∷ texts (later 3 xs)
three_and_more [] d long = absurd (omega (arith, long))
three_and_more (x ∷ []) d long = absurd (omega (arith, long))
three_and_more (x ∷ y ∷ []) d long = absurd (omega (arith, long))
three_and_more (x ∷ y ∷ z ∷ rest) d long = ap (λ (t : List (Bor (List ℕ))). x.now ∷ y.now ∷ z.now ∷ texts t) (sym (take_all (length (x ∷ y ∷ z ∷ rest) - 3) rest (omega arith)))

-- what the parts of `--judge` are in a request
pub record Stands (r : JudgeRequest) (said design mode depth : List ℕ) (streams : List (List ℕ)) : Type 0 where
  pub design_is : r.design ≡ design
  pub mode_is : mode_word r.mode ≡ mode
  pub word_is : said ≡ depth
  pub streams_are : r.streams ≡ streams

pub stands : (directory jobs : Option (List ℕ)) (r : JudgeRequest) (xs : List (Bor (List ℕ))) (d : Bor (List ℕ)) → 3 ≤ length xs
    → (j : Judges directory jobs (texts xs) r) → Stands r j.word (slice_index_or xs 0 d).now (slice_index_or xs 1 d).now (slice_index_or xs 2 d).now (texts (later 3 xs))
stands directory jobs r xs d long j =
    let same : r.design ∷ mode_word r.mode ∷ j.word ∷ r.streams
    ≡ (slice_index_or xs 0 d).now ∷ (slice_index_or xs 1 d).now ∷ (slice_index_or xs 2 d).now ∷ texts (later 3 xs) =
    sym j.parts ∙ three_and_more xs d long in
    let mode : mode_word r.mode ≡ (slice_index_or xs 1 d).now = cc in
    record { design_is = cc; mode_is = mode; word_is = cc; streams_are = cc }

pub judge_list : (xs : List (Bor (List ℕ))) (d : Bor (List ℕ)) → 3 ≤ length xs → (mode : Mode) → (slice_index_or xs 1 d).now ≡ mode_word mode
    → texts xs ≡ (slice_index_or xs 0 d).now ∷ mode_word mode ∷ (slice_index_or xs 2 d).now ∷ texts (later 3 xs)
judge_list xs d long mode same = three_and_more xs d long ∙ ap (λ m. (slice_index_or xs 0 d).now ∷ m ∷ (slice_index_or xs 2 d).now ∷ texts (later 3 xs)) same
