-- What was put, text after text.
use Rattle.std.proofs.Common.{◌≡◌, ℕ, ◌+◌, ◌≤◌, List, [], ◌++◌, length, refl, ap, ◌∙◌, sym, subst, take, drop, append_assoc, append-nil, length-append, arith}
use Rattle.std.specs.Prelude.{Option, Some, None, Result, Ok, Err, OnErr}
use Rattle.std.proofs.Math.Seq.{take-add, take-append-add}
use Rattle.std.proofs.lemmas.List.{take-append-le}
use Rattle.sby_edge.specs.Cause.{Rose}
use Rattle.cdcl_run.specs.Output.{Breaks, GrownBySome, OutputOf, Puts, grown}

pub grown-grown : (o : Option (List ℕ)) (a b : List ℕ) → grown (grown o a) b ≡ grown o (a ++ b)
grown-grown None a b = refl
grown-grown (Some t) a b = ap Some (append_assoc t a b)

pub grown-nil : (o : Option (List ℕ)) → grown o [] ≡ o
grown-nil None = refl
grown-nil (Some t) = ap Some (append-nil t)

-- a call took more of a text
pub grown_more : (o m n : Option (List ℕ)) (at count : ℕ) (text rest : List ℕ) → rest ≡ drop at text → m ≡ grown o (take at text) → n ≡ grown m (take count rest) → n ≡ grown o (take (at + count) text)
grown_more o m n at count text rest is had got =
    got ∙ ap (λ r. grown m (take count r)) is ∙ ap (λ x. grown x (take count (drop at text))) had
    ∙ grown-grown o (take at text) (take count (drop at text)) ∙ ap (grown o) (sym (take-add at count text))

-- what was gathered, and one text after another
puts_then : (a b : OutputOf) (s t : List ℕ) (p : Puts a b s) → a.gathered ++ (s ++ t) ≡ p.written ++ (b.gathered ++ t)
puts_then a b s t p = sym (append_assoc a.gathered s t) ∙ ap (λ z. z ++ t) p.split ∙ append_assoc p.written b.gathered t

-- one text after another
pub puts_both : (a b c : OutputOf) (s t : List ℕ) → Puts a b s → Puts b c t → Puts a c (s ++ t)
puts_both a b c s t v w = record {
  written = v.written ++ w.written;
  taken = w.taken ∙ ap (λ z. grown z w.written) v.taken ∙ grown-grown a.taken v.written w.written;
  split = puts_then a b s t v ∙ ap (λ z. v.written ++ z) w.split ∙ sym (append_assoc v.written w.written c.gathered);
  still = w.still ∙ v.still;
}

-- a text, and then a fault
pub puts_breaks : (a b c : OutputOf) (s t : List ℕ) → Puts a b s → Breaks b c t → Breaks a c (s ++ t)
puts_breaks a b c s t v w =
    let rest = b.gathered ++ t in
    let e = puts_then a b s t v in
    let count = w.part.0 in
    record {
      part = (
        length v.written + count,
        omega (arith, w.part.1, ap length e, length-append v.written rest),
        w.part.2 ∙ ap (λ z. grown z (take count rest)) v.taken ∙ grown-grown a.taken v.written (take count rest)
            ∙ ap (grown a.taken) (sym (take-append-add v.written rest count) ∙ ap (take (length v.written + count)) (sym e)),
      );
      rose = subst (λ z. Rose z c.faults) v.still w.rose;
      later = subst (λ z. z ≤ c.faults) v.still w.later;
    }

-- more was to be put after the fault
pub breaks_more : (a b : OutputOf) (s t : List ℕ) → Breaks a b s → Breaks a b (s ++ t)
breaks_more a b s t w =
    let count = w.part.0 in
    let had = a.gathered ++ s in
    let e : had ++ t ≡ a.gathered ++ (s ++ t) = append_assoc a.gathered s t in
    record {
      part = (
        count,
        omega (arith, w.part.1, length-append had t, ap length e),
        w.part.2 ∙ ap (grown a.taken) (sym (take-append-le count had t (omega (arith, w.part.1))) ∙ ap (take count) e),
      );
      rose = w.rose;
      later = w.later;
    }

-- nothing put
pub puts_none : (a : OutputOf) → Puts a a []
puts_none a = record { written = []; taken = sym (grown-nil a.taken); split = append-nil a.gathered; still = refl }

-- what was gathered is written
pub puts_flushed : (t u : Option (List ℕ)) (f g : ℕ) (p q : List ℕ) → u ≡ grown t p → g ≡ f → q ≡ [] → Puts (record { taken = t; faults = f; gathered = p }) (record { taken = u; faults = g; gathered = q }) []
puts_flushed t u f g p q e h n = record { written = p; taken = e; split = ap (λ z. p ++ z) (sym n); still = h }

-- a part of what was gathered is written
pub breaks_flushed : (t u : Option (List ℕ)) (f g : ℕ) (p q : List ℕ) → GrownBySome t u p → Rose f g → f ≤ g → Breaks (record { taken = t; faults = f; gathered = p }) (record { taken = u; faults = g; gathered = q }) []
breaks_flushed t u f g p q e r l = record { part = subst (GrownBySome t u) (sym (append-nil p)) e; rose = r; later = l }

-- more is gathered
pub puts_gathered : (t : Option (List ℕ)) (f : ℕ) (p q text : List ℕ) → q ≡ p ++ text → Puts (record { taken = t; faults = f; gathered = p }) (record { taken = t; faults = f; gathered = q }) text
puts_gathered t f p q text e = record { written = []; taken = sym (grown-nil t); split = sym e; still = refl }

-- what holds after a fault
pub on_err : {T E P : Type 0} → (r : Result T E) → P → OnErr r P
on_err (Ok x) p = tt
on_err (Err e) p = p
