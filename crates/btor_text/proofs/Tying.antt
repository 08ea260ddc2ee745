-- States that have a tie, as lines are added.
use Rattle.std.proofs.Common.{◌≡◌, ◌≢◌, ℕ, Bool, List, [], ◌∷◌, ◌++◌, refl, sym, ap, ◌∙◌, subst}
use Rattle.std.specs.Prelude.{All}
use Rattle.std.proofs.lemmas.List.{append-nil}
use Rattle.std.proofs.lemmas.Grind.{flat_map-append}
use Rattle.std.proofs.lemmas.List.Elements.{All-nil, All-cons, All-head, All-tail}
use Rattle.btor_core.specs.declared.line.Body.{Body}
use Rattle.btor_core.specs.declared.line.Body.TheVariants as body
use Rattle.btor_core.specs.declared.line.Line.{Line}
use Rattle.btor_core.specs.Shape.{BtorOf, TieOf, inits, inits_of, nexts, nexts_of, sort_at}
use Rattle.btor_core.proofs.Cuts.{all_front, all_back}
use Rattle.btor_text.specs.Reading.{SaidOf}
use Rattle.btor_text.specs.Steps.{AddsTie, AreTied, fill, line_of, with_said}

all_join : (P : TieOf → Type 0) (xs ys : List TieOf) → All P xs → All P ys → All P (xs ++ ys)
all_join P [] ys h g = g
all_join P (x ∷ xs) ys h g = All-cons P x (xs ++ ys) (All-head P x xs h) (all_join P xs ys (All-tail P x xs h) g)

inits_filled : (f : ℕ → ℕ) (p : ℕ) (b : Body) → inits_of (fill f p b) ≡ inits_of b
inits_filled f p (body.Sort w) = refl
inits_filled f p (body.Value s w n) = refl
inits_filled f p (body.Init s q v) = refl
inits_filled f p (body.Next s q v) = refl
inits_filled f p (body.Bad n) = refl
inits_filled f p (body.Constraint n) = refl

nexts_filled : (f : ℕ → ℕ) (p : ℕ) (b : Body) → nexts_of (fill f p b) ≡ nexts_of b
nexts_filled f p (body.Sort w) = refl
nexts_filled f p (body.Value s w n) = refl
nexts_filled f p (body.Init s q v) = refl
nexts_filled f p (body.Next s q v) = refl
nexts_filled f p (body.Bad n) = refl
nexts_filled f p (body.Constraint n) = refl

module _ (m : BtorOf) (x : SaidOf) where
  inits_more : inits (with_said m x).lines ≡ inits m.lines ++ inits_of x.body
  inits_more =
      flat_map-append (λ (l : Line). inits_of l.body) m.lines (line_of m x ∷ []) ∙ ap (λ (ts : List TieOf). inits m.lines ++ ts) (append-nil (inits_of (line_of m x).body) ∙ inits_filled (sort_at m.lines) _ x.body)

  nexts_more : nexts (with_said m x).lines ≡ nexts m.lines ++ nexts_of x.body
  nexts_more =
      flat_map-append (λ (l : Line). nexts_of l.body) m.lines (line_of m x ∷ []) ∙ ap (λ (ts : List TieOf). nexts m.lines ++ ts) (append-nil (nexts_of (line_of m x).body) ∙ nexts_filled (sort_at m.lines) _ x.body)

-- a tie more, and none
tied_more : (old new : ℕ → Bool) (ties : List TieOf) (t : TieOf) → AreTied old ties → AddsTie old new t.state → AreTied new (ties ++ t ∷ [])
tied_more old new ties t h g q = (
  (λ e. let p = (g q).0 e in all_join (λ (u : TieOf). u.state ≢ q) ties (t ∷ []) ((h q).0 p.0) (All-cons (λ (u : TieOf). u.state ≢ q) t [] p.1 (All-nil (λ (u : TieOf). u.state ≢ q)))),
  (λ u. (g q).1 ((h q).1 (all_front (λ (v : TieOf). v.state ≢ q) ties (t ∷ []) u), All-head (λ (v : TieOf). v.state ≢ q) t [] (all_back (λ (v : TieOf). v.state ≢ q) ties (t ∷ []) u))),
)

tied_same : (has : ℕ → Bool) (ties more : List TieOf) → more ≡ [] → AreTied has ties → AreTied has (ties ++ more)
tied_same has ties more none h = subst (λ (ts : List TieOf). AreTied has ts) (sym (ap (λ (us : List TieOf). ties ++ us) none ∙ append-nil ties)) h

module _ (m : BtorOf) (x : SaidOf) (has : ℕ → Bool) where
  pub inits_keep : inits_of x.body ≡ [] → AreTied has (inits m.lines) → AreTied has (inits (with_said m x).lines)
  inits_keep none h = subst (λ (ts : List TieOf). AreTied has ts) (sym (inits_more m x)) (tied_same has (inits m.lines) (inits_of x.body) none h)

  pub nexts_keep : nexts_of x.body ≡ [] → AreTied has (nexts m.lines) → AreTied has (nexts (with_said m x).lines)
  nexts_keep none h = subst (λ (ts : List TieOf). AreTied has ts) (sym (nexts_more m x)) (tied_same has (nexts m.lines) (nexts_of x.body) none h)

  pub inits_grow : (new : ℕ → Bool) (s q v : ℕ) → x.body ≡ body.Init s q v → AreTied has (inits m.lines) → AddsTie has new q → AreTied new (inits (with_said m x).lines)
  inits_grow new s q v e h g =
      subst (λ (ts : List TieOf). AreTied new ts) (sym (inits_more m x ∙ ap (λ (b : Body). inits m.lines ++ inits_of b) e)) (tied_more has new (inits m.lines) (record { state = q; value = v }) h g)

  pub nexts_grow : (new : ℕ → Bool) (s q v : ℕ) → x.body ≡ body.Next s q v → AreTied has (nexts m.lines) → AddsTie has new q → AreTied new (nexts (with_said m x).lines)
  nexts_grow new s q v e h g =
      subst (λ (ts : List TieOf). AreTied new ts) (sym (nexts_more m x ∙ ap (λ (b : Body). nexts m.lines ++ nexts_of b) e)) (tied_more has new (nexts m.lines) (record { state = q; value = v }) h g)

pub init_no_next : (b : Body) (s q v : ℕ) → b ≡ body.Init s q v → nexts_of b ≡ []
init_no_next b s q v e = ap nexts_of e

pub next_no_init : (b : Body) (s q v : ℕ) → b ≡ body.Next s q v → inits_of b ≡ []
next_no_init b s q v e = ap inits_of e

pub no_init : (b : Body) → ((s q v : ℕ) → b ≡ body.Init s q v → ⊥) → inits_of b ≡ []
no_init (body.Sort w) h = refl
no_init (body.Value s w n) h = refl
no_init (body.Init s q v) h = absurd (h s q v refl)
no_init (body.Next s q v) h = refl
no_init (body.Bad n) h = refl
no_init (body.Constraint n) h = refl

pub no_next : (b : Body) → ((s q v : ℕ) → b ≡ body.Next s q v → ⊥) → nexts_of b ≡ []
no_next (body.Sort w) h = refl
no_next (body.Value s w n) h = refl
no_next (body.Init s q v) h = refl
no_next (body.Next s q v) h = absurd (h s q v refl)
no_next (body.Bad n) h = refl
no_next (body.Constraint n) h = refl
