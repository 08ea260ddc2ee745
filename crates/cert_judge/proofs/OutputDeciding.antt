-- Where the proof file decides.
use Rattle.std.proofs.Common.{◌≡◌, ℕ, ◌+◌, ◌≤◌, Bool, true, false, cond, ◌&&◌, ◌||◌, eqb, leb, List, [], ◌∷◌, ◌++◌, length, map, Option, Some, None, refl, ap, sym, ◌∙◌, inl, inr, subst, arith}
use Rattle.std.specs.Prelude.{slice_index}
use Rattle.std.proofs.lemmas.Bool.{cases_Bool, eqb-true}
use Rattle.std.proofs.lemmas.List.{length-append}
use Rattle.cnf_form.specs.Cnf.{FormulaOf}
use Rattle.cnf_form.specs.Dimacs.{IsDimacs}
use Rattle.cert_stream.specs.Stream.{bad, is_unknown, line_says, lines_say, sayings, visible_says}
use Rattle.cert_stream.specs.Telling.{Saying, IsUnknown}
use Rattle.cert_stream.specs.declared.mode.ParseFaultKind.TheVariants.{BadLine as BadLineFault}
use Rattle.cert_stream.specs.Text.{NoFeed, flush, is_blank, lines_of, put_first, words_from}
use Rattle.cert_stream.proofs.Apart.{fed_lines}
use Rattle.cert_stream.proofs.Streams.{some_line}
use Rattle.cert_stream.proofs.Wording.{has_word, words_blank}
use Rattle.cert_judge.specs.Fate.{Bad, Fate, Unknown}
use Rattle.cert_judge.specs.Drup.{StreamFate}
use Rattle.cert_judge.specs.Kinds.{FateOf}
use Rattle.cert_judge.specs.declared.stream.StreamKind.TheVariants.{Drup}
use Rattle.cert_judge.specs.Values.{unnamed}
use Rattle.cert_judge.specs.declared.stream.CertKind.TheVariants.{EarlyEnd}
use Rattle.cert_judge.proofs.Bounding.{sides}
use Rattle.cert_judge.proofs.KindFates.{within_so_far}
use Rattle.cert_judge.specs.OutputFate.{IsOutputFate, IsOutputFateSoFar, own_fate}
use Rattle.cert_judge.specs.Output.{any_unknown, any_values, claim_read, has_unknown, has_values, is_alone, is_claim, is_unknown_line, is_values_line, line_read, lines_read, stream_of}
use Rattle.cert_judge.specs.Spots.{amid_end, amid_given, amid_next, amid_unknown, ends_word, given, given_at_end, given_by, is_letter, is_values, next_spot, parted, spot_after}
use Rattle.cert_judge.specs.declared.spot.AmidSpot.{AmidSpot}
use Rattle.cert_judge.specs.declared.spot.AmidSpot.TheVariants.{Start as LineStart, Held as HeldHead, Within as InLine, Spelled, Whole, Passed}
use Rattle.cert_judge.specs.declared.spot.Spot.{Spot}
use Rattle.cert_judge.specs.declared.spot.Spot.TheVariants.{Start, Held, Within, Amid}
use Rattle.cert_judge.proofs.OutputFates.{IsLate, comes_late, so_far_late}
use Rattle.cert_judge.proofs.OutputReading.{and_true, given_is, given_whole, unknown_anywhere}

module _ (vars : ℕ) (broken going more : List Saying) (fed : Bool) where
  abbrev says : ℕ → List ℕ → List Saying
  says at t = line_says vars true false broken going more (words_from fed at [] t)

  comment_says : (at : ℕ) (t : List ℕ) → says at (99 ∷ t) ≡ more
  comment_says at t =
      let w = has_word fed (at + 1) 99 [] t in
      ap (line_says vars true false broken going more) w.are ∙ ap (λ z. visible_says vars true false broken going more (slice_index z 0) w.word w.others) w.text

  abbrev unknown_or : Bool → List Saying
  unknown_or z = cond z (IsUnknown ∷ more) more

  status_line : (at : ℕ) (bs : List ℕ) → says at (claim_read true 115 bs) ≡ unknown_or (is_alone bs && is_unknown (words_from true 0 [] bs))
  status_line at [] = refl
  status_line at (c ∷ cs) =
      elim (cases_Bool (is_blank c)) [
        | inl k ↦
            ap (λ z. says at (cond z 115 99 ∷ c ∷ cs)) k
            ∙ ap (λ z. line_says vars true false broken going more (cond z (flush true (at + 1) (115 ∷ []) ++ words_from fed (at + 1 + 1) [] cs) (words_from fed (at + 1 + 1) (115 ∷ c ∷ []) cs))) k
            ∙ ap (λ z. unknown_or (z && true)) (unknown_anywhere fed (at + 1 + 1) (0 + 1) [] cs) ∙ ap unknown_or (and_true (is_unknown (words_from true (0 + 1) [] cs)))
            ∙ sym (ap (λ z. unknown_or (z && is_unknown (cond z (flush true 0 [] ++ words_from true (0 + 1) [] cs) (words_from true (0 + 1) (c ∷ []) cs)))) k)
        | inr k ↦ ap (λ z. says at (cond z 115 99 ∷ c ∷ cs)) k ∙ comment_says at (c ∷ cs) ∙ sym (ap (λ z. unknown_or (z && is_unknown (words_from true 0 [] (c ∷ cs)))) k)
      ]

  abbrev Quiet : ℕ → List ℕ → Type 0
  Quiet at t = says at (line_read true false t) ≡ unknown_or (is_unknown_line t)

  values_word : (at : ℕ) (bs : List ℕ) → is_alone bs ≡ false → Quiet at (118 ∷ bs)
  values_word at [] h = absurd (let k = h in cc)
  values_word at (c ∷ cs) h = ap (λ z. says at (cond z 118 99 ∷ c ∷ cs)) h ∙ comment_says at (c ∷ cs)

  line_quiet : (at : ℕ) (t : List ℕ) → is_values_line t ≡ false → Quiet at t
  line_quiet at [] h = refl
  line_quiet at (b ∷ bs) h =
      let claims = eqb b 115 && (is_alone bs && is_unknown (words_from true 0 [] bs)) in
      elim (cases_Bool (is_blank b)) [
        | inl k ↦
            ap (λ z. says at (cond z (b ∷ line_read true false bs) (cond (is_claim b) (claim_read true b bs) (99 ∷ bs)))) k
            ∙ ap (line_says vars true false broken going more) (words_blank fed at [] b (line_read true false bs) k)
            ∙ line_quiet (at + 1) bs (sym (ap (λ z. cond z (is_values_line bs) (eqb b 118 && is_alone bs)) k) ∙ h)
            ∙ sym (ap (λ z. unknown_or (cond z (is_unknown_line bs) claims)) k)
        | inr k ↦ elim (cases_Bool (eqb b 115)) [
          | inl l ↦ subst (λ z. Quiet at (z ∷ bs)) (sym (eqb-true b 115 l)) (status_line at bs)
          | inr l ↦ elim (cases_Bool (eqb b 118)) [
            | inl m ↦ subst (λ z. Quiet at (z ∷ bs)) (sym (eqb-true b 118 m)) (values_word at bs (subst (λ z. is_values_line (z ∷ bs) ≡ false) (eqb-true b 118 m) h))
            | inr m ↦
                ap (λ z. says at (cond z (b ∷ line_read true false bs) (cond (is_claim b) (claim_read true b bs) (99 ∷ bs)))) k
                ∙ ap (λ z. says at (cond (z || eqb b 118) (claim_read true b bs) (99 ∷ bs))) l
                ∙ ap (λ z. says at (cond z (claim_read true b bs) (99 ∷ bs))) m
                ∙ comment_says at bs
                ∙ sym (ap (λ z. unknown_or (cond z (is_unknown_line bs) claims)) k ∙ ap (λ z. unknown_or (z && (is_alone bs && is_unknown (words_from true 0 [] bs)))) l)
          ]
        ]
      ]

-- what lines without one of values say
abbrev unknowns : List (List ℕ) → List Saying
unknowns [] = []
unknowns (t ∷ ts) = cond (is_unknown_line t) (IsUnknown ∷ unknowns ts) (unknowns ts)

both_false : (x y : Bool) → (x || y) ≡ false → (x ≡ false) × (y ≡ false)
both_false true y e = absurd (let k = e in cc)
both_false false y e = (refl, e)

lines_quiet : (vars at : ℕ) (ts : List (List ℕ)) → any_values ts ≡ false → lines_say vars true false at (map (line_read true false) ts) ≡ unknowns ts
lines_quiet vars at [] h = refl
lines_quiet vars at (t ∷ []) h = line_quiet vars [] [] [] false at t (both_false (is_values_line t) false h).0
lines_quiet vars at (t ∷ u ∷ ts) h =
    let p = both_false (is_values_line t) (any_values (u ∷ ts)) h in
    let next : ℕ = at + length (line_read true false t) + 1 in
    line_quiet vars (bad BadLineFault (at + length (line_read true false t))) (lines_say vars true true next (map (line_read true false) (u ∷ ts))) (lines_say vars true false next (map (line_read true false) (u ∷ ts))) true at t p.0
    ∙ ap (λ z. cond (is_unknown_line t) (IsUnknown ∷ z) z) (lines_quiet vars next (u ∷ ts) p.1)

-- lines have no line feed, and are read as such
abbrev AreUnfed : List (List ℕ) → Type 0
AreUnfed [] = Unit {0}
AreUnfed (t ∷ ts) = NoFeed t × AreUnfed ts

put_unfed : (b : ℕ) (ts : List (List ℕ)) → eqb b 10 ≡ false → AreUnfed ts → AreUnfed (put_first b ts)
put_unfed b [] f h = ((f, tt), tt)
put_unfed b (t ∷ ts) f h = ((f, h.0), h.1)

lines_unfed : (bytes : List ℕ) → AreUnfed (lines_of bytes)
lines_unfed [] = (tt, tt)
lines_unfed (b ∷ bs) = elim (cases_Bool (eqb b 10)) [ inl t ↦ rw t (tt, lines_unfed bs) | inr f ↦ rw f (put_unfed b (lines_of bs) f (lines_unfed bs)) ]

claim_unfed : (b : ℕ) (bs : List ℕ) → eqb b 10 ≡ false → NoFeed bs → NoFeed (claim_read true b bs)
claim_unfed b [] f h = (f, tt)
claim_unfed b (c ∷ cs) f h = elim (cases_Bool (is_blank c)) [ inl k ↦ rw k (f, h) | inr k ↦ rw k (refl, h) ]

line_unfed : (t : List ℕ) → NoFeed t → NoFeed (line_read true false t)
line_unfed [] h = tt
line_unfed (b ∷ bs) (f, h) =
    elim (cases_Bool (is_blank b)) [
      | inl k ↦ rw k (f, line_unfed bs h)
      | inr k ↦ elim (cases_Bool (is_claim b)) [ inl l ↦ rw (k, l) (claim_unfed b bs f h) | inr l ↦ rw (k, l) (refl, h) ]
    ]

last_line : (t : List ℕ) → NoFeed t → lines_of t ≡ t ∷ []
last_line [] h = refl
last_line (b ∷ bs) (f, h) = rw f (ap (put_first b) (last_line bs h))

lines_again : (t : List ℕ) (ts : List (List ℕ)) → AreUnfed (t ∷ ts) → any_values (t ∷ ts) ≡ false → lines_of (lines_read true false (t ∷ ts)) ≡ map (line_read true false) (t ∷ ts)
lines_again t [] h v = last_line (line_read true false t) (line_unfed t h.0)
lines_again t (u ∷ ts) h v =
    let p = both_false (is_values_line t) (any_values (u ∷ ts)) v in
    ap (λ z. lines_of (line_read true false t ++ 10 ∷ lines_read true z (u ∷ ts))) p.0
    ∙ fed_lines (line_read true false t) (lines_read true false (u ∷ ts)) (line_unfed t h.0) ∙ ap (λ z. line_read true false t ∷ z) (lines_again u ts h.1 p.1)

stream_lines : (bytes : List ℕ) → has_values bytes ≡ false → lines_of (stream_of true bytes) ≡ map (line_read true false) (lines_of bytes)
stream_lines bytes v =
    let w = some_line bytes in
    ap (λ z. lines_of (lines_read true false z)) w.2 ∙ lines_again w.0 w.1 (subst AreUnfed w.2 (lines_unfed bytes)) (ap any_values (sym w.2) ∙ v) ∙ ap (map (line_read true false)) (sym w.2)

stream_quiet : (vars : ℕ) (bytes : List ℕ) → has_values bytes ≡ false → sayings vars true (stream_of true bytes) ≡ unknowns (lines_of bytes)
stream_quiet vars bytes h = ap (lines_say vars true false 0) (stream_lines bytes h) ∙ lines_quiet vars 0 (lines_of bytes) h

-- as many bytes are read
abbrev amid_held : AmidSpot → ℕ
amid_held LineStart = 0
amid_held (HeldHead head) = 1
amid_held InLine = 0
amid_held (Spelled n) = 0
amid_held Whole = 0
amid_held Passed = 0

abbrev held : Spot → ℕ
held Start = 0
held (Held head) = 1
held Within = 0
held (Amid spot) = amid_held spot

parted_held : (n : ℕ) → amid_held (parted n) ≡ 0
parted_held n =
    elim (cases_Bool (eqb n 0)) [
      | inl z ↦ rw z refl
      | inr z ↦ elim (cases_Bool (leb 7 n)) [ inl l ↦ rw (z, l) refl | inr l ↦ rw (z, l) refl ]
    ]

amid_length : (spot : AmidSpot) (b : ℕ) → length (amid_given spot b) + amid_held (amid_next spot b) ≡ amid_held spot + 1
amid_length LineStart b =
    elim (cases_Bool (is_blank b)) [ inl k ↦ rw k refl | inr k ↦ elim (cases_Bool (is_claim b)) [ inl l ↦ rw (k, l) refl | inr l ↦ rw (k, l) refl ] ]
amid_length (HeldHead head) b = elim (cases_Bool (eqb head 115 && is_blank b)) [ inl k ↦ rw k refl | inr k ↦ rw k refl ]
amid_length InLine b = refl
amid_length (Spelled n) b =
    elim (cases_Bool (is_blank b)) [
      | inl k ↦ rw k (ap (λ z. 1 + z) (parted_held n))
      | inr k ↦ elim (cases_Bool (is_letter n b)) [ inl l ↦ rw (k, l) refl | inr l ↦ rw (k, l) refl ]
    ]
amid_length Whole b = elim (cases_Bool (is_blank b)) [ inl k ↦ rw k refl | inr k ↦ rw k refl ]
amid_length Passed b = refl

fed_length : (spot : AmidSpot) (c : ℕ) → length (amid_end spot ++ c ∷ []) + 0 ≡ amid_held spot + 1
fed_length LineStart c = refl
fed_length (HeldHead head) c = refl
fed_length InLine c = refl
fed_length (Spelled n) c = refl
fed_length Whole c = refl
fed_length Passed c = refl

byte_length : (spot : Spot) (b : ℕ) → length (given_by spot b) + held (next_spot spot b) ≡ held spot + 1
byte_length Start b =
    elim (cases_Bool (ends_word b)) [ inl k ↦ rw k refl | inr k ↦ elim (cases_Bool (is_claim b)) [ inl l ↦ rw (k, l) refl | inr l ↦ rw (k, l) refl ] ]
byte_length (Held head) b =
    elim (cases_Bool (eqb b 10)) [
      | inl k ↦ elim (cases_Bool (is_values head)) [ inl l ↦ rw (k, l) refl | inr l ↦ rw (k, l) refl ]
      | inr k ↦ elim (cases_Bool (is_values head && is_blank b)) [ inl l ↦ rw (k, l) refl | inr l ↦ rw (k, l) refl ]
    ]
byte_length Within b = elim (cases_Bool (eqb b 10)) [ inl k ↦ rw k refl | inr k ↦ rw k refl ]
byte_length (Amid spot) b =
    elim (cases_Bool (eqb b 10)) [ inl k ↦ rw k (fed_length spot (cond (amid_unknown spot) 115 10)) | inr k ↦ rw k (amid_length spot b) ]

amid_rest : (spot : AmidSpot) → length (amid_end spot) ≡ amid_held spot
amid_rest LineStart = refl
amid_rest (HeldHead head) = refl
amid_rest InLine = refl
amid_rest (Spelled n) = refl
amid_rest Whole = refl
amid_rest Passed = refl

all_length : (spot : Spot) (bytes : List ℕ) → length (given spot bytes) + length (given_at_end (spot_after spot bytes)) ≡ held spot + length bytes
all_length Start [] = refl
all_length (Held head) [] = refl
all_length Within [] = refl
all_length (Amid spot) [] = let e = amid_rest spot in omega (arith, e)
all_length spot (b ∷ bs) =
    let p = length-append (given_by spot b) (given (next_spot spot b) bs) in
    let q = byte_length spot b in
    let r = all_length (next_spot spot b) bs in
    omega (arith, p, q, r)

stream_length : (bytes : List ℕ) → length (stream_of true bytes) ≡ length bytes
stream_length bytes =
    let p = length-append (given Start bytes) (given_at_end (spot_after Start bytes)) in
    let q = all_length Start bytes in
    let r = ap length (given_whole bytes) in
    omega (arith, p, q, r)

held_one : (spot : Spot) → length (given_at_end spot) ≤ 1
held_one Start = omega arith
held_one (Held head) = omega arith
held_one Within = omega arith
held_one (Amid LineStart) = omega arith
held_one (Amid (HeldHead head)) = omega arith
held_one (Amid InLine) = omega arith
held_one (Amid (Spelled n)) = omega arith
held_one (Amid Whole) = omega arith
held_one (Amid Passed) = omega arith

-- bytes that have no fate yet are, but for one that is held, no more than are taken
pub output_within : (job bytes : List ℕ) (most : ℕ) → IsOutputFateSoFar job bytes most None → length bytes ≤ most + 1
output_within job bytes most (f, d, h) =
    let n = within_so_far Drup f most (stream_of false bytes) h in
    let q = all_length Start bytes in
    let r = ap length (given_is bytes) in
    let o = held_one (spot_after Start bytes) in
    omega (arith, n, q, r, o)

-- UNKNOWN has a fate
none_unknown : (f : FormulaOf) (ts : List (List ℕ)) → StreamFate f (unknowns ts) None → any_unknown ts ≡ false
none_unknown f [] h = refl
none_unknown f (t ∷ ts) h =
    elim (cases_Bool (is_unknown_line t)) [
      | inl k ↦ absurd (let e : (let o : Option Fate = None in o) ≡ Some Unknown = subst (λ z. StreamFate f (cond z (IsUnknown ∷ unknowns ts) (unknowns ts)) None) k h in cc)
      | inr k ↦ ap (λ z. z || any_unknown ts) k ∙ none_unknown f ts (subst (λ z. StreamFate f (cond z (IsUnknown ∷ unknowns ts) (unknowns ts)) None) k h)
    ]

no_unknowns : (ts : List (List ℕ)) → any_unknown ts ≡ false → unknowns ts ≡ []
no_unknowns [] h = refl
no_unknowns (t ∷ ts) h =
    let p = both_false (is_unknown_line t) (any_unknown ts) h in ap (λ z. cond z (IsUnknown ∷ unknowns ts) (unknowns ts)) p.0 ∙ no_unknowns ts p.1

not_late : (values : Bool) (x : Fate) → (let o : Option Fate = None in o) ≡ own_fate values x → IsLate x → ⊥
not_late values x e h = let k : (let o : Option Fate = None in o) ≡ Some x = e ∙ h values in cc

none_values : (values : Bool) (x : Fate) → (let o : Option Fate = None in o) ≡ own_fate values x → values ≡ false
none_values true x e = absurd (let k = e in cc)
none_values false x e = refl

abbrev Left : ℕ → List ℕ → Type 0
Left most bytes = (length bytes ≤ most) × (has_values bytes ≡ false) × (has_unknown bytes ≡ false)

pub left_only : (job bytes : List ℕ) (most : ℕ) → IsOutputFate job bytes most None → Left most bytes
left_only job bytes most (x, (f, d, h), e) =
    let v = none_values (has_values bytes) x e in
    let n = stream_length bytes in
    elim (sides (length (stream_of true bytes)) most) [
      | inr l ↦ absurd (not_late (has_values bytes) x e (so_far_late f (stream_of true bytes) most x (h.beyond l)))
      | inl l ↦ elim (h.within l) [
        | inl c ↦ absurd (not_late (has_values bytes) x e (comes_late f.clauses f.clauses unnamed (sayings f.vars true (stream_of true bytes)) x c))
        | inr (c, i) ↦ (omega (arith, l, n), v, none_unknown f (lines_of bytes) (subst (λ z. StreamFate f z None) (stream_quiet f.vars bytes v) c))
      ]
    ]

pub left_where : (job bytes : List ℕ) (most : ℕ) (f : FormulaOf) → IsDimacs job f → length bytes ≤ most → has_values bytes ≡ false → has_unknown bytes ≡ false → IsOutputFate job bytes most None
left_where job bytes most f d l v u =
    let n = stream_length bytes in
    let k : sayings f.vars true (stream_of true bytes) ≡ [] = stream_quiet f.vars bytes v ∙ no_unknowns (lines_of bytes) u in
    let h : FateOf Drup f (stream_of true bytes) most (Bad EarlyEnd (length (stream_of true bytes))) =
    record { within = λ m. inr (subst (λ z. StreamFate f z None) (sym k) refl, refl); beyond = λ m. absurd (omega (arith, m, l, n)) } in
    (Bad EarlyEnd (length (stream_of true bytes)), (f, d, h), sym (ap (λ z. own_fate z (Bad EarlyEnd (length (stream_of true bytes)))) v))
