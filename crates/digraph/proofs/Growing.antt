-- Graphs that grow by edges.
use Rattle.std.proofs.Common.{◌≡◌, ◌⊎◌, ℕ, List, [], ◌∷◌, ◌++◌, Some, Vec, refl, sym, ap, ◌∙◌, subst, inl, inr, set, length, length-set}
use Rattle.std.proofs.lemmas.Bool.{cases_eq}
use Rattle.std.specs.Prelude.{slice_get}
use Rattle.std.specs.Global.{Global}
use Rattle.digraph.specs.Graph.{Graph, HasEdge, Extends}
use Rattle.digraph.proofs.Lists.{get-set-same, get-set-other, get-push-old, get-push-new, get-push-either, set-cases, one-at}

module _ (g : Graph) (from : ℕ) (row new : Vec ℕ Global) (at : slice_get g from ≡ Some row) where
  edge-of : (a b : ℕ) → HasEdge (set g from new) a b → ((a ≡ from) × ((k : ℕ) × (slice_get new.items k ≡ Some b))) ⊎ HasEdge g a b
  edge-of a b e = elim (set-cases g from a new e.1.0 row at e.1.1) as (λ _. ((a ≡ from) × ((k : ℕ) × (slice_get new.items k ≡ Some b))) ⊎ HasEdge g a b) [
    | inl same ↦ inl (same.0, (e.0, subst (λ (r : Vec ℕ Global). slice_get r.items e.0 ≡ Some b) same.1 e.1.2))
    | inr other ↦ inr (e.0, (e.1.0, other.1, e.1.2))
  ]

  edge-kept : ((k b : ℕ) → slice_get row.items k ≡ Some b → slice_get new.items k ≡ Some b) → (a b : ℕ) → HasEdge g a b → HasEdge (set g from new) a b
  edge-kept more a b e = elim (cases_eq a from) as (λ _. HasEdge (set g from new) a b) [
    | inl same ↦
        let one : e.1.0 ≡ row = one-at g from e.1.0 row (subst (λ (x : ℕ). slice_get g x ≡ Some e.1.0) same e.1.1) at in (
          e.0,
          (
            new,
            ap (λ (x : ℕ). slice_get (set g from new) x) same ∙ get-set-same g from new row at,
            more e.0 b (subst (λ (r : Vec ℕ Global). slice_get r.items e.0 ≡ Some b) one e.1.2),
          ),
        )
    | inr other ↦ (e.0, (e.1.0, get-set-other g from a new other ∙ e.1.1, e.1.2))
  ]

  pub Extends-push : (to : ℕ) → new.items ≡ row.items ++ to ∷ [] → Extends g (λ a b. (a ≡ from) × (b ≡ to)) (set g from new)
  Extends-push to is = record {
    size = length-set g from new;
    kept = edge-kept (λ k b h. subst (λ (l : List ℕ). slice_get l k ≡ Some b) (sym is) (get-push-old row.items to b k h));
    added = λ a b h. (
      length row.items,
      (
        new,
        ap (λ (x : ℕ). slice_get (set g from new) x) h.0 ∙ get-set-same g from new row at,
        subst (λ (l : List ℕ). slice_get l (length row.items) ≡ Some b) (sym is)
            (subst (λ (x : ℕ). slice_get (row.items ++ to ∷ []) (length row.items) ≡ Some x) (sym h.1) (get-push-new row.items to)),
      ),
    );
    only = λ a b e. elim (edge-of a b e) as (λ _. HasEdge g a b ⊎ ((a ≡ from) × (b ≡ to))) [
      | inr old ↦ inl old
      | inl here ↦
          elim (get-push-either row.items to b here.1.0 (subst (λ (l : List ℕ). slice_get l here.1.0 ≡ Some b) is here.1.1)) as (λ _. HasEdge g a b ⊎ ((a ≡ from) × (b ≡ to))) [
            | inl old ↦ inl (here.1.0, (row, ap (λ (x : ℕ). slice_get g x) here.0 ∙ at, old))
            | inr last ↦ inr (here.0, last.1)
          ]
    ];
  }

  pub Extends-none : new.items ≡ row.items → Extends g (λ a b. ⊥) (set g from new)
  Extends-none is = record {
    size = length-set g from new;
    kept = edge-kept (λ k b h. subst (λ (l : List ℕ). slice_get l k ≡ Some b) (sym is) h);
    added = λ a b h. absurd h;
    only = λ a b e. elim (edge-of a b e) as (λ _. HasEdge g a b ⊎ ⊥) [
      | inr old ↦ inl old
      | inl here ↦ inl (here.1.0, (row, ap (λ (x : ℕ). slice_get g x) here.0 ∙ at, subst (λ (l : List ℕ). slice_get l here.1.0 ≡ Some b) is here.1.1))
    ];
  }

-- one step after the other
pub Extends-same : (g : Graph) (R : ℕ → ℕ → Type 0) → ((a b : ℕ) → R a b → ⊥) → Extends g R g
Extends-same g R none = record { size = refl; kept = λ a b e. e; added = λ a b r. absurd (none a b r); only = λ a b e. inl e }

pub Extends-more : (g h k : Graph) (R S T : ℕ → ℕ → Type 0) → Extends g R h → Extends h S k
    → ((a b : ℕ) → R a b → T a b) → ((a b : ℕ) → S a b → T a b) → ((a b : ℕ) → T a b → R a b ⊎ S a b) → Extends g T k
Extends-more g h k R S T first then to-r to-s from = record {
  size = then.size ∙ first.size;
  kept = λ a b e. then.kept a b (first.kept a b e);
  added = λ a b t. elim (from a b t) as (λ _. HasEdge k a b) [ inl r ↦ then.kept a b (first.added a b r) | inr s ↦ then.added a b s ];
  only = λ a b e. elim (then.only a b e) as (λ _. HasEdge g a b ⊎ T a b) [
    | inr s ↦ inr (to-s a b s)
    | inl old ↦ elim (first.only a b old) as (λ _. HasEdge g a b ⊎ T a b) [ inl older ↦ inl older | inr r ↦ inr (to-r a b r) ]
  ];
}

pub Extends-as : (g h : Graph) (R T : ℕ → ℕ → Type 0) → Extends g R h → ((a b : ℕ) → R a b → T a b) → ((a b : ℕ) → T a b → R a b) → Extends g T h
Extends-as g h R T e to from = record {
  size = e.size;
  kept = e.kept;
  added = λ a b t. e.added a b (from a b t);
  only = λ a b x. elim (e.only a b x) as (λ _. HasEdge g a b ⊎ T a b) [ inl old ↦ inl old | inr r ↦ inr (to a b r) ];
}

pub no-edge-push : (g : Graph) (row : Vec ℕ Global) → row.items ≡ [] → ((a b : ℕ) → HasEdge g a b → ⊥) → (a b : ℕ) → HasEdge (g ++ row ∷ []) a b → ⊥
no-edge-push g row empty none a b e = elim (get-push-either g row e.1.0 a e.1.1) as (λ _. ⊥) [
  | inl old ↦ none a b (e.0, (e.1.0, old, e.1.2))
  | inr last ↦ nothing e.0 (subst (λ (l : List ℕ). slice_get l e.0 ≡ Some b) (ap (λ (r : Vec ℕ Global). r.items) last.1 ∙ empty) e.1.2)
]
  where
    nothing : (k : ℕ) → slice_get {X = ℕ} [] k ≡ Some b → ⊥
    nothing k h = cc
