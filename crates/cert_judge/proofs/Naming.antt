-- Lines of values that satisfy clauses, whatever kind of proof stands before them.
use Rattle.std.proofs.Common.{◌≡◌, ℕ, ◌+◌, ◌≤◌, Bool, true, List, [], ◌∷◌, ◌++◌, length, sym, ap, ◌∙◌, subst, inl, inr}
use Rattle.std.specs.Prelude.{codes, map}
use Rattle.cnf_form.specs.Cnf.{LitOf, Assignment, Satisfies}
use Rattle.cert_judge.specs.Values.{named_from}
use Rattle.cert_judge.specs.DrupCert.{words, IsEnded, IsRemark, Names, Writes}
use Rattle.cert_judge.proofs.Valuing.{named_append}

-- `say` tells what lines say, `heard` what values do
module _ {S : Type 0} (vars : ℕ) (C : List (List LitOf)) (Finds : Assignment → List S → Type 0) (say : Bool → ℕ → List (List ℕ) → List S) (heard : List LitOf → List S) (ended : List S)
    (found : (x : Assignment) → Satisfies x C → Finds x ended)
    (named : (x : Assignment) (lits : List LitOf) (ss : List S) → Finds (named_from x lits) ss → Finds x (heard lits ++ ss))
    (last_line : (at : ℕ) (t : List ℕ) (amid : Bool) (rest : List (List ℕ)) (c : List LitOf) → words t ≡ codes "v" ∷ rest → IsEnded vars rest c → say amid at (t ∷ []) ≡ heard c ++ ended)
    (remark : (at : ℕ) (t u : List ℕ) (ts : List (List ℕ)) (amid : Bool) → IsRemark (words t) → say amid at (t ∷ u ∷ ts) ≡ say amid (at + length t + 1) (u ∷ ts))
    (open_line : (at : ℕ) (t u : List ℕ) (ts : List (List ℕ)) (amid : Bool) (rest : List (List ℕ)) (c : List LitOf) → words t ≡ codes "v" ∷ rest → Writes vars rest c → length c ≤ vars
    → say amid at (t ∷ u ∷ ts) ≡ heard c ++ say true (at + length t + 1) (u ∷ ts)) where
  pub names_found : (amid : Bool) (x : Assignment) (at : ℕ) (ls : List (List ℕ)) (end : List (List (List ℕ))) (values : List LitOf) → map words ls ≡ end
      → Names vars end values → Satisfies (named_from x values) C → Finds x (say amid at ls)
  names_found amid x at ls [] values e k s = absurd k
  names_found amid x at [] (ws ∷ end) values e k s = cc
  names_found amid x at (t ∷ u ∷ ts) (ws ∷ []) values e k s = cc
  names_found amid x at (t ∷ []) (ws ∷ vs ∷ end) values e k s = cc
  names_found amid x at (t ∷ []) (ws ∷ []) values e (rest, v, d) s =
      let q : words t ≡ ws = cc in
      subst (Finds x) (sym (last_line at t amid rest values (q ∙ v) d)) (named x values ended (found (named_from x values) s))
  names_found amid x at (t ∷ u ∷ ts) (ws ∷ vs ∷ end) values e k s =
      let q : words t ≡ ws = cc in
      let m : map words (u ∷ ts) ≡ vs ∷ end = cc in
      line q k (λ b y more r p. names_found b y (at + length t + 1) (u ∷ ts) (vs ∷ end) more m r p)
    where
      line : words t ≡ ws → Names vars (ws ∷ vs ∷ end) values
          → ((b : Bool) (y : Assignment) (more : List LitOf) → Names vars (vs ∷ end) more → Satisfies (named_from y more) C → Finds y (say b (at + length t + 1) (u ∷ ts)))
          → Finds x (say amid at (t ∷ u ∷ ts))
      line q (inl (r, m)) h = subst (Finds x) (sym (remark at t u ts amid (subst IsRemark (sym q) r))) (h amid x values m s)
      line q (inr (us, c, b, v, k, l, e, m)) h =
          let y = subst (λ i. Satisfies i C) (ap (named_from x) e ∙ named_append x c b) s in
          subst (Finds x) (sym (open_line at t u ts amid us c (q ∙ v) k l)) (named x c (say true (at + length t + 1) (u ∷ ts)) (h true (named_from x c) b m y))
