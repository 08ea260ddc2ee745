-- The bytes of a status line say what its words say.
use Rattle.std.proofs.Common.{◌≡◌, ℕ, ◌+◌, Bool, false, cond, not, ◌&&◌, eqb, leb, List, [], ◌∷◌, ◌++◌, length, refl, ap, ◌∙◌, inl, inr, arith}
use Rattle.std.proofs.lemmas.Bool.{cases_Bool}
use Rattle.cnf_form.specs.Cnf.{LitOf}
use Rattle.cert_stream.specs.Text.{is_blank, NoFeed}
use Rattle.cert_stream.specs.Machine.{spelling}
use Rattle.cert_stream.specs.Telling.{Saying, IsUnknown}
use Rattle.cert_stream.specs.Stream.{status_says}
use Rattle.cert_stream.specs.declared.mode.ParseFaultKind.TheVariants.{BadLine}
use Rattle.cert_stream.specs.declared.mode.Mode.TheVariants.{Skip, StatusHead, StatusGap, Spelled, Whole}
use Rattle.cert_stream.proofs.Turning.{parser}
use Rattle.cert_stream.proofs.Wording.{after_first}
use Rattle.cert_stream.proofs.Speaking.{speak, bad_ever}
use Rattle.cert_stream.proofs.Statuses as status
use Rattle.cert_stream.proofs.Statuses.{Spots, Steps, Tails}
use Rattle.cert_stream.proofs.Tails.{Tail}

module _ (vars : ℕ) (ended fed counted : Bool) (broken going more : List Saying) (feed : ℕ) (tail : List ℕ) (behind : Tail vars ended fed counted broken going more feed tail) where
  abbrev spots : Spots Saying (List LitOf)
  spots = record {
    skip = λ amid place taken lits text. speak ended (parser vars taken place (Skip amid) lits) text;
    gap = λ place taken lits text. speak ended (parser vars taken place StatusGap lits) text;
    spelled = λ n place taken lits text. speak ended (parser vars taken place (Spelled n) lits) text;
    whole = λ place taken lits text. speak ended (parser vars taken place Whole lits) text;
  }

  -- a letter of UNKNOWN or another, and the end of a word
  after : (b : Bool) (n place taken : ℕ) (lits : (List LitOf)) (bs : List ℕ)
      → speak ended (parser vars taken place (cond b (Spelled n) (Skip false)) lits) bs ≡ cond b (spots.spelled n place taken lits bs) (spots.skip false place taken lits bs)
  after b n place taken lits bs = elim (cases_Bool b) [ inl t ↦ rw t refl | inr f ↦ rw f refl ]

  parted : (b : Bool) (place taken : ℕ) (lits : (List LitOf)) (bs : List ℕ) → speak ended (parser vars taken place (cond b Whole (Skip false)) lits) bs ≡ cond b (spots.whole place taken lits bs) (spots.skip false place taken lits bs)
  parted b place taken lits bs = elim (cases_Bool b) [ inl t ↦ rw t refl | inr f ↦ rw f refl ]

  steps : Steps Saying (List LitOf) spots
  steps = record {
    skip = λ amid place taken lits b bs h. elim (cases_Bool (is_blank b)) [ inl t ↦ rw (h, t) refl | inr g ↦ rw (h, g) refl ];
    gap_blank = λ place taken lits b bs h t. rw (h, t) refl;
    gap_visible = λ place taken lits b bs h g. rw (h, g) (after (eqb b 85) 1 place (taken + 1) lits bs);
    spelled_blank = λ n place taken lits b bs h t. rw (h, t) (parted (eqb n 7) place (taken + 1) lits bs);
    spelled_visible = λ n place taken lits b bs h g. rw (h, g) (after (not (leb 7 n) && eqb b (spelling n)) (n + 1) place (taken + 1) lits bs);
    whole_blank = λ place taken lits b bs h t. rw (h, t) refl;
    whole_visible = λ place taken lits b bs h g. rw (h, g) refl;
  }

  tails : Tails Saying (List LitOf) spots IsUnknown counted going more feed tail
  tails = record { skip = λ amid place lits. behind.skip place amid lits; gap = behind.status_gap; spelled = λ n place lits. behind.spelled place n lits; whole = behind.whole }

  -- after a comment's first byte
  pub skip_text : (place : ℕ) (amid : Bool) (t : List ℕ) (taken : ℕ) (lits : (List LitOf)) → NoFeed t → taken + length t ≡ feed
      → speak ended (parser vars taken place (Skip amid) lits) (t ++ tail) ≡ cond amid going more
  skip_text place amid t taken lits h e = status.skip_text Saying (List LitOf) spots steps IsUnknown fed counted going more feed tail tails amid place t taken lits h e

  -- after s
  pub status_text : (place : ℕ) (t : List ℕ) (taken : ℕ) (lits : (List LitOf)) → NoFeed t → taken + length t ≡ feed
      → speak ended (parser vars taken place StatusHead lits) (t ++ tail) ≡ after_first (status_says counted more) fed taken t
  status_text place [] taken lits h e = let k : taken ≡ feed = omega (arith, e) in ap (λ z. speak ended (parser vars z place StatusHead lits) tail) k ∙ behind.status_head place lits
  status_text place (b ∷ bs) taken lits (h, hs) e =
      let k : taken + 1 + length bs ≡ feed = omega (arith, e) in
      elim (cases_Bool (is_blank b)) [
        | inl t ↦ rw (h, t) (status.gap_text Saying (List LitOf) spots steps IsUnknown fed counted going more feed tail tails place bs (taken + 1) lits hs k)
        | inr g ↦ rw (h, g) (bad_ever ended (record { kind = BadLine; byte = taken }) vars (taken + 1) place lits (bs ++ tail))
      ]
