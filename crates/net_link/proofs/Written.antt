-- Bytes written after others.
use Rattle.std.proofs.Common.{◌≡◌, ℕ, ◌+◌, List, [], ◌++◌, Some, None, take, drop, refl, sym, ap, ◌∙◌, subst}
use Rattle.std.specs.Prelude.{Option, option_map}
use Rattle.std.proofs.Math.Seq.{take-add}
use Rattle.std.proofs.lemmas.List.{append_assoc, append-nil}
use Rattle.net_link.specs.Link.{Grew}

pub grew_none : (a : Option (List ℕ)) → Grew a a []
grew_none None = refl
grew_none (Some x) = ap (λ (l : List ℕ). Some l) (sym (append-nil x))

pub grew_both : (a b c : Option (List ℕ)) (x y : List ℕ) → Grew a b x → Grew b c y → Grew a c (x ++ y)
grew_both None b c x y f g = g ∙ ap (option_map (λ (w : List ℕ). w ++ y)) f
grew_both (Some l) b c x y f g = g ∙ ap (option_map (λ (w : List ℕ). w ++ y)) f ∙ ap (λ (t : List ℕ). Some t) (append_assoc l x y)

-- more of a text, of which n bytes were written
pub grew_more : (a b c : Option (List ℕ)) (n count : ℕ) (text rest : List ℕ) → rest ≡ drop n text → Grew a b (take n text) → Grew b c (take count rest) → Grew a c (take (n + count) text)
grew_more a b c n count text rest is had got =
    subst (Grew a c) (sym (take-add n count text)) (grew_both a b c (take n text) (take count (drop n text)) had (subst (λ (r : List ℕ). Grew b c (take count r)) is got))
