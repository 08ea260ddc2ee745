-- Bytes without a line `sat` are neither a witness nor a bad one.
use Rattle.std.proofs.Common.{◌≡◌, ◌⊎◌, ℕ, List, [], ◌∷◌, ◌++◌, Some, None, refl, sym, ap, ◌∙◌, subst, arith, inl, inr, append_assoc, append-nil}
use Rattle.std.specs.Prelude.{codes}
use Rattle.std.specs.List.{AllByRecursion}
use Rattle.btor_witness.specs.Grammar.{IsLine, IsNoSat, IsNumber, IsWitness, SatLine, WitnessOf}
use Rattle.btor_witness.specs.Shape.{ShapeOf}
use Rattle.btor_witness.specs.Streams.{EndsWith, HasSat, Holds, IsBadAt, NoFeed, text_of}
use Rattle.btor_witness.proofs.Bytes.{text_append}

text_push : (lines : List (List ℕ)) (l rest : List ℕ) → text_of (lines ++ l ∷ []) ++ rest ≡ text_of lines ++ (l ++ 10 ∷ rest)
text_push lines l rest =
    ap (λ (t : List ℕ). t ++ rest) (text_append lines (l ∷ []))
    ∙ append_assoc (text_of lines) (text_of (l ∷ [])) rest
    ∙ ap (λ (t : List ℕ). text_of lines ++ t) (append_assoc l (10 ∷ []) rest)

feeds_push : (front : List (List ℕ)) (l : List ℕ) → AllByRecursion NoFeed front → NoFeed l → AllByRecursion NoFeed (front ++ l ∷ [])
feeds_push [] l h n = (n, tt)
feeds_push (x ∷ front) l (m, h) n = (m, feeds_push front l h n)

sats_push : (front : List (List ℕ)) (l : List ℕ) → AllByRecursion IsNoSat front → IsNoSat l → AllByRecursion IsNoSat (front ++ l ∷ [])
sats_push [] l h n = (n, tt)
sats_push (x ∷ front) l (m, h) n = (m, sats_push front l h n)

-- a witness of one frame that says nothing
abbrev least : WitnessOf
least = record { bad = 0; frames = record { states = Some []; inputs = None } ∷ [] }

abbrev least_lines : List (List ℕ)
least_lines = codes "b0" ∷ codes "#0" ∷ codes "." ∷ []

zero_is : IsNumber (codes "0") 0
zero_is = record { some = omega arith; digits = refl; value = refl }

any_witness : (shape : ShapeOf) (skipped : List (List ℕ)) → AllByRecursion IsNoSat skipped → IsWitness shape (skipped ++ codes "sat" ∷ least_lines) least
any_witness shape skipped h = record {
  skipped = skipped;
  first = codes "sat";
  rest = least_lines;
  are = refl;
  before = h;
  sat = refl;
  read = ((codes "b0", [], refl, (codes "0", refl, zero_is), tt), ((codes "#0", refl, (codes "0", refl, zero_is)), (refl, tt)));
  some = omega arith;
  fits = (record { some = refl; states = tt; inputs = tt }, tt);
}

module _ (bytes : List ℕ) (no_sat : HasSat bytes → ⊥) where
  line_no_sat : (front : List (List ℕ)) (l after : List ℕ) → bytes ≡ text_of front ++ (l ++ 10 ∷ after) → AllByRecursion NoFeed front → NoFeed l → IsNoSat l
  line_no_sat front l after e f n sat = no_sat (record {
    lines = front;
    line = l;
    rest = 10 ∷ after;
    cut = record { are = e; no_feed = f };
    no_feed = n;
    ends = inr (after, refl);
    sat = sat;
  })

  lines_no_sat : (lines front : List (List ℕ)) (rest : List ℕ) → bytes ≡ text_of front ++ (text_of lines ++ rest) → AllByRecursion NoFeed front → AllByRecursion NoFeed lines → AllByRecursion IsNoSat lines
  lines_no_sat [] front rest e f n = tt
  lines_no_sat (l ∷ lines) front rest e f (n, h) =
      let g : bytes ≡ text_of front ++ (l ++ 10 ∷ (text_of lines ++ rest)) = e ∙ ap (λ (t : List ℕ). text_of front ++ t) (append_assoc l (10 ∷ text_of lines) rest) in (
        line_no_sat front l (text_of lines ++ rest) g f n,
        lines_no_sat lines (front ++ l ∷ []) rest (g ∙ sym (text_push front l (text_of lines ++ rest))) (feeds_push front l f n) h,
      )

  not_among : (first : List ℕ) (skipped rest : List (List ℕ)) → IsLine first SatLine → AllByRecursion IsNoSat (skipped ++ first ∷ rest) → ⊥
  not_among first [] rest sat (n, h) = n sat
  not_among first (x ∷ skipped) rest sat (n, h) = not_among first skipped rest sat h

  no_witness : (shape : ShapeOf) (lines : List (List ℕ)) (x : WitnessOf) → AllByRecursion IsNoSat lines → IsWitness shape lines x → ⊥
  no_witness shape lines x h is = not_among is.first is.skipped is.rest is.sat (subst (AllByRecursion IsNoSat) is.are h)

  pub no_whole : (shape : ShapeOf) (x : WitnessOf) → Holds shape bytes x ⊎ EndsWith shape bytes x → ⊥
  no_whole shape x (inl (lines, rest, cut, is)) = no_witness shape lines x (lines_no_sat lines [] rest cut.are tt cut.no_feed) is
  no_whole shape x (inr (lines, last, cut, n, is)) =
      let end : IsNoSat last = λ sat. no_sat (record {
        lines = lines;
        line = last;
        rest = [];
        cut = record { are = cut.are ∙ ap (λ (t : List ℕ). text_of lines ++ t) (sym (append-nil last)); no_feed = cut.no_feed };
        no_feed = n;
        ends = inl refl;
        sat = sat;
      }) in
      no_witness shape (lines ++ last ∷ []) x (sats_push lines last (lines_no_sat lines [] last cut.are tt cut.no_feed) end) is

  pub no_bad : (shape : ShapeOf) (n : ℕ) → IsBadAt shape bytes n → ⊥
  no_bad shape n b =
      let h = lines_no_sat b.lines [] (b.line ++ 10 ∷ b.rest) b.cut.are tt b.cut.no_feed in
      let l = line_no_sat b.lines b.line b.rest b.cut.are b.cut.no_feed b.no_feed in
      b.past (codes "sat" ∷ least_lines, least, any_witness shape (b.lines ++ b.line ∷ []) (sats_push b.lines b.line h l))
