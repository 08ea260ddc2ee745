-- A text that is read line by line.
use Rattle.std.proofs.Common.{◌≡◌, ℕ, ◌+◌, List, [], ◌∷◌, ◌++◌, length, refl, sym, ap, ◌∙◌, subst, arith, append_assoc, length-append}
use Rattle.std.proofs.lemmas.List.{append-nil}
use Rattle.btor_core.specs.Shape.{BtorOf}
use Rattle.btor_core.specs.Fits.{IsBtor}
use Rattle.btor_text.specs.Grammar.{AreLines, lines_of, uncommented, words_of}
use Rattle.btor_text.specs.Refusals.{IsFault, IsModel, IsRefused}
use Rattle.btor_text.specs.Steps.{GoesOn}
use Rattle.btor_text.specs.declared.reading.BtorKind.{BtorKind}
use Rattle.btor_text.proofs.Growing.{ReadsTo, reads_on}

-- this many lines are read as a model's, and the rest of the text follows
pub record IsAt (bytes rest : List ℕ) (line : ℕ) (m : BtorOf) : Type 0 where
  pub before : List (List ℕ)
  pub cut : lines_of bytes ≡ before ++ lines_of rest
  pub place : line ≡ length before
  pub reads : ReadsTo before m

nothing : {A : Type 0} (before more : List A) (l : A) → [] ≡ before ++ l ∷ more → ⊥
nothing [] more l e = absurd (cc)
nothing (b ∷ before) more l e = absurd (cc)

pub at_start : (bytes : List ℕ) → IsAt bytes bytes 0 (record { lines = []; constants = [] })
at_start bytes = record {
  before = [];
  cut = refl;
  place = refl;
  reads = record {
    btor = record { each = (λ before more l e. absurd (nothing before more l e)); table = refl };
    room = (λ before more l e some. absurd (nothing before more l e));
    text = tt;
  };
}

module _ (bytes rest next first : List ℕ) (line : ℕ) (m : BtorOf) (at : IsAt bytes rest line m) (text : List ℕ) (is : lines_of rest ≡ text ∷ lines_of next) (words : first ≡ uncommented text) where
  pub at_next : (n : BtorOf) → IsBtor n → GoesOn m (words_of first) n → IsAt bytes next (line + 1) n
  at_next n h g = record {
    before = at.before ++ text ∷ [];
    cut = at.cut ∙ ap (λ (ts : List (List ℕ)). at.before ++ ts) is ∙ sym (append_assoc at.before (text ∷ []) (lines_of next));
    place = (let e = at.place in let f = length-append at.before (text ∷ []) in omega arith);
    reads = reads_on at.before text m n at.reads h (subst (λ (t : List ℕ). GoesOn m (words_of t) n) words g);
  }

  pub at_fault : (k : BtorKind) → IsRefused m (words_of first) k → IsFault bytes (record { line = line + 1; kind = k })
  at_fault k r = record {
    model = m;
    before = at.before;
    line = text;
    more = lines_of next;
    cut = at.cut ∙ ap (λ (ts : List (List ℕ)). at.before ++ ts) is;
    place = (let e = at.place in omega arith);
    btor = at.reads.btor;
    room = at.reads.room;
    text = at.reads.text;
    refused = subst (λ (t : List ℕ). IsRefused m (words_of t) k) words r;
  }

pub at_end : (bytes rest : List ℕ) (line : ℕ) (m : BtorOf) → rest ≡ [] → IsAt bytes rest line m → IsModel bytes m
at_end bytes rest line m none at =
    let whole : lines_of bytes ≡ at.before = at.cut ∙ ap (λ (bs : List ℕ). at.before ++ lines_of bs) none ∙ append-nil at.before in
    record { btor = at.reads.btor; room = at.reads.room; text = subst (λ (ts : List (List ℕ)). AreLines ts m) (sym whole) at.reads.text }
