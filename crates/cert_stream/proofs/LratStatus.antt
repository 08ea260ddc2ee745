-- The bytes of a status line say what its words say, in hinted text.
use Rattle.std.proofs.Common.{◌≡◌, ℕ, ◌+◌, Bool, false, cond, not, ◌&&◌, eqb, leb, List, [], ◌∷◌, ◌++◌, length, refl, ap, ◌∙◌, inl, inr, arith}
use Rattle.std.proofs.lemmas.Bool.{cases_Bool}
use Rattle.cert_stream.specs.Text.{is_blank, NoFeed}
use Rattle.cert_stream.specs.Machine.{spelling}
use Rattle.cert_stream.specs.LratTelling.{LratSaying, IsUnknown}
use Rattle.cert_stream.specs.LratLines.{status_says}
use Rattle.cert_stream.specs.declared.mode.ParseFaultKind.TheVariants.{BadLine}
use Rattle.cert_stream.specs.declared.lrat.mode.Mode.TheVariants.{Skip, StatusHead, StatusGap, Spelled, Whole}
use Rattle.cert_stream.proofs.LratTurning.{Kept, parser}
use Rattle.cert_stream.proofs.LratWording.{after_first}
use Rattle.cert_stream.proofs.LratSpeaking.{speak, bad_ever}
use Rattle.cert_stream.proofs.Statuses as status
use Rattle.cert_stream.proofs.Statuses.{Spots, Steps, Tails}
use Rattle.cert_stream.proofs.LratTails.{Tail}

module _ (vars : ℕ) (ended fed counted : Bool) (broken going more : List LratSaying) (feed : ℕ) (tail : List ℕ) (behind : Tail vars ended fed counted broken going more feed tail) where
  abbrev spots : Spots LratSaying Kept
  spots = record {
    skip = λ amid place taken line text. speak ended (parser vars taken place (Skip amid) line) text;
    gap = λ place taken line text. speak ended (parser vars taken place StatusGap line) text;
    spelled = λ n place taken line text. speak ended (parser vars taken place (Spelled n) line) text;
    whole = λ place taken line text. speak ended (parser vars taken place Whole line) text;
  }

  -- a letter of UNKNOWN or another, and the end of a word
  after : (b : Bool) (n place taken : ℕ) (line : Kept) (bs : List ℕ)
      → speak ended (parser vars taken place (cond b (Spelled n) (Skip false)) line) bs ≡ cond b (spots.spelled n place taken line bs) (spots.skip false place taken line bs)
  after b n place taken line bs = elim (cases_Bool b) [ inl t ↦ rw t refl | inr f ↦ rw f refl ]

  parted : (b : Bool) (place taken : ℕ) (line : Kept) (bs : List ℕ) → speak ended (parser vars taken place (cond b Whole (Skip false)) line) bs ≡ cond b (spots.whole place taken line bs) (spots.skip false place taken line bs)
  parted b place taken line bs = elim (cases_Bool b) [ inl t ↦ rw t refl | inr f ↦ rw f refl ]

  steps : Steps LratSaying Kept spots
  steps = record {
    skip = λ amid place taken line b bs h. elim (cases_Bool (is_blank b)) [ inl t ↦ rw (h, t) refl | inr g ↦ rw (h, g) refl ];
    gap_blank = λ place taken line b bs h t. rw (h, t) refl;
    gap_visible = λ place taken line b bs h g. rw (h, g) (after (eqb b 85) 1 place (taken + 1) line bs);
    spelled_blank = λ n place taken line b bs h t. rw (h, t) (parted (eqb n 7) place (taken + 1) line bs);
    spelled_visible = λ n place taken line b bs h g. rw (h, g) (after (not (leb 7 n) && eqb b (spelling n)) (n + 1) place (taken + 1) line bs);
    whole_blank = λ place taken line b bs h t. rw (h, t) refl;
    whole_visible = λ place taken line b bs h g. rw (h, g) refl;
  }

  tails : Tails LratSaying Kept spots IsUnknown counted going more feed tail
  tails = record { skip = λ amid place line. behind.skip place amid line; gap = behind.status_gap; spelled = λ n place line. behind.spelled place n line; whole = behind.whole }

  -- after a comment's first byte
  pub skip_text : (place : ℕ) (amid : Bool) (t : List ℕ) (taken : ℕ) (line : Kept) → NoFeed t → taken + length t ≡ feed
      → speak ended (parser vars taken place (Skip amid) line) (t ++ tail) ≡ cond amid going more
  skip_text place amid t taken line h e = status.skip_text LratSaying Kept spots steps IsUnknown fed counted going more feed tail tails amid place t taken line h e

  -- after s
  pub status_text : (place : ℕ) (t : List ℕ) (taken : ℕ) (line : Kept) → NoFeed t → taken + length t ≡ feed
      → speak ended (parser vars taken place StatusHead line) (t ++ tail) ≡ after_first (status_says counted more) fed taken t
  status_text place [] taken line h e = let k : taken ≡ feed = omega (arith, e) in ap (λ z. speak ended (parser vars z place StatusHead line) tail) k ∙ behind.status_head place line
  status_text place (b ∷ bs) taken line (h, hs) e =
      let k : taken + 1 + length bs ≡ feed = omega (arith, e) in
      elim (cases_Bool (is_blank b)) [
        | inl t ↦ rw (h, t) (status.gap_text LratSaying Kept spots steps IsUnknown fed counted going more feed tail tails place bs (taken + 1) line hs k)
        | inr g ↦ rw (h, g) (bad_ever ended (record { kind = BadLine; byte = taken }) vars (taken + 1) place line (bs ++ tail))
      ]
