use Rattle.std.proofs.Common.{◌≡◌, ℕ, ◌+◌, ◌<◌, ◌≤◌, List, [], ◌++◌, refl, ap, ◌∙◌, sym, subst, arith, take, drop, append_assoc, append-nil, length, length-append}
use Rattle.std.specs.Prelude.{Option, Some, None, Result, Ok, Err}
use Rattle.std.specs.List.{concat}
use Rattle.sby_lines.specs.declared.tell.Stop.{Stop}
use Rattle.sby_lines.specs.declared.tell.Stop.TheVariants.{Memory, Sink}
use Rattle.std.proofs.Math.Seq.{take-add, take-append-add}
use Rattle.std.proofs.lemmas.List.{length-take-le, take-append-drop, take-append-le}
use Rattle.std.proofs.lemmas.List.Folds.{concat-append}
use Rattle.std.proofs.lemmas.Result.{on_ok_weaker}
use Rattle.sby_lines.specs.Telling.{GrownBySome, Tells, grown}

pub grown-grown : (o : Option (List ℕ)) (a b : List ℕ) → grown (grown o a) b ≡ grown o (a ++ b)
grown-grown None a b = refl
grown-grown (Some t) a b = ap Some (append_assoc t a b)

pub grown-nil : (o : Option (List ℕ)) → grown o [] ≡ o
grown-nil None = refl
grown-nil (Some t) = ap Some (append-nil t)

-- a call took more of a piece
pub grown_more : (o m n : Option (List ℕ)) (at count : ℕ) (piece rest : List ℕ) → rest ≡ drop at piece → m ≡ grown o (take at piece) → n ≡ grown m (take count rest) → n ≡ grown o (take (at + count) piece)
grown_more o m n at count piece rest is had got =
    got ∙ ap (λ r. grown m (take count r)) is ∙ ap (λ x. grown x (take count (drop at piece))) had
    ∙ grown-grown o (take at piece) (take count (drop at piece)) ∙ ap (grown o) (sym (take-add at count piece))

-- a call took some of a piece that stands in a text
pub grown_part : (o m n : Option (List ℕ)) (at count : ℕ) (text rest line : List ℕ) → rest ≡ drop at text → line ≡ take count rest → count ≤ length rest → at + count ≤ length text
    → m ≡ grown o (take at text) → GrownBySome m n line → GrownBySome o n text
grown_part o m n at count text rest line is front within fits had got =
    let long : length line ≡ count = ap length front ∙ length-take-le count rest within in
    let whole : line ++ drop count rest ≡ rest = ap (λ l. l ++ drop count rest) front ∙ take-append-drop count rest in
    let same : take got.0 line ≡ take got.0 rest = sym (take-append-le got.0 line (drop count rest) (omega (arith, got.1))) ∙ ap (take got.0) whole in (
      at + got.0,
      omega (arith, long, got.1),
      grown_more o m n at got.0 text rest is had (got.2 ∙ ap (grown m) same),
    )

-- lines were told, and then more
pub tells_then : {T U : Type 0} {d e : Option ℕ} (b m n : Option (List ℕ)) (f g h : ℕ) (first more : List (List ℕ)) (x : T) (r : Result U Stop) → Tells {T = T} b m f g d first (Ok x) → Tells {T = U} m n g h e more r → Tells {T = U} b n f h e (first ++ more) r
tells_then {T} {U} b m n f g h first more x r p q = record {
  later = omega (arith, p.later, q.later);
  whole = on_ok_weaker r (λ e. e ∙ ap (λ o. grown o (concat more)) p.whole ∙ grown-grown b (concat first) (concat more) ∙ ap (grown b) (sym (concat-append first more))) q.whole;
  last = q.last;
  still = on_ok_weaker r (λ e. e ∙ p.still) q.still;
  still_memory = λ e. q.still_memory e ∙ p.still;
  memory = λ e. let k = q.memory e in (
    length first + k.0,
    simp length-append (omega (arith, k.1)),
    k.2 ∙ ap (λ o. grown o (concat (take k.0 more))) p.whole ∙ grown-grown b (concat first) (concat (take k.0 more))
        ∙ ap (grown b) (sym (concat-append first (take k.0 more)) ∙ ap concat (sym (take-append-add first more k.0))),
  );
  fault = λ e. let k = q.fault e in (
    omega (arith, k.0, p.later),
    (
      length (concat first) + k.1.0,
      rw concat-append (simp length-append (omega (arith, k.1.1))),
      k.1.2 ∙ ap (λ o. grown o (take k.1.0 (concat more))) p.whole ∙ grown-grown b (concat first) (take k.1.0 (concat more))
          ∙ ap (grown b) (sym (take-append-add (concat first) (concat more) k.1.0) ∙ ap (take (length (concat first) + k.1.0)) (sym (concat-append first more))),
    ),
  );
}

-- memory ran out before any line
pub tells_nothing : {T : Type 0} {d : Option ℕ} (b : Option (List ℕ)) (f : ℕ) (lines : List (List ℕ)) → 0 < length lines → Tells {T = T} b b f f d lines (Err Memory)
tells_nothing {T} b f lines some = record {
  later = omega arith;
  whole = tt;
  still = tt;
  still_memory = λ e. refl;
  memory = λ e. (0, some, sym (grown-nil b));
  fault = λ e. let no : ⊥ = cc in absurd no;
  last = λ e. let no : ⊥ = cc in absurd no;
}

-- telling stopped at the first lines
pub tells_stopped : {T U : Type 0} {d : Option ℕ} (b m : Option (List ℕ)) (f g : ℕ) (first more : List (List ℕ)) (e : Stop) → Tells {T = T} b m f g d first (Err e) → Tells {T = U} b m f g d (first ++ more) (Err e)
tells_stopped {T} {U} b m f g first more e p = record {
  later = p.later;
  whole = tt;
  still = tt;
  last = λ w. let same : e ≡ Sink = cc in p.last (ap Err same);
  still_memory = λ w. let same : e ≡ Memory = cc in p.still_memory (ap Err same);
  memory = λ w. let same : e ≡ Memory = cc in let k = p.memory (ap Err same) in
      (k.0, simp length-append (omega (arith, k.1)), k.2 ∙ ap (λ ls. grown b (concat ls)) (sym (take-append-le k.0 first more (omega (arith, k.1)))));
  fault = λ w. let same : e ≡ Sink = cc in let k = p.fault (ap Err same) in (
    k.0,
    (
      k.1.0,
      rw concat-append (simp length-append (omega (arith, k.1.1))),
      k.1.2 ∙ ap (grown b) (sym (take-append-le k.1.0 (concat first) (concat more) (omega (arith, k.1.1))) ∙ ap (take k.1.0) (sym (concat-append first more))),
    ),
  );
}

-- of all these lines, those before the rest were told
abbrev pub ToldBefore : Option (List ℕ) → Option (List ℕ) → ℕ → ℕ → List (List ℕ) → List (List ℕ) → Type 0
ToldBefore b m f g rest all = (first : List (List ℕ)) × Tells {T = Unit {0}} b m f g None first (Ok tt) × (first ++ rest ≡ all)

pub told_start : (b : Option (List ℕ)) (f : ℕ) (all : List (List ℕ)) → ToldBefore b b f f all all
told_start b f all = (
  [],
  record {
    later = omega arith;
    whole = sym (grown-nil b);
    still = refl;
    still_memory = λ e. let no : ⊥ = cc in absurd no;
    memory = λ e. let no : ⊥ = cc in absurd no;
    fault = λ e. let no : ⊥ = cc in absurd no;
    last = λ e. let no : ⊥ = cc in absurd no;
  },
  refl,
)

-- the first of the rest were
pub told_more : {e : Option ℕ} (b m n : Option (List ℕ)) (f g h : ℕ) (more rest old all : List (List ℕ)) → old ≡ more ++ rest → ToldBefore b m f g old all → Tells {T = Unit {0}} m n g h e more (Ok tt)
    → ToldBefore b n f h rest all
told_more b m n f g h more rest old all is told tells =
    let both = tells_then {T = Unit {0}} {U = Unit {0}} b m n f g h told.0 more tt (Ok tt) told.1 tells in (
      told.0 ++ more,
      record {
        later = both.later;
        whole = both.whole;
        still = both.still;
        still_memory = λ e. let no : ⊥ = cc in absurd no;
        memory = λ e. let no : ⊥ = cc in absurd no;
        fault = λ e. let no : ⊥ = cc in absurd no;
        last = λ e. let no : ⊥ = cc in absurd no;
      },
      append_assoc told.0 more rest ∙ ap (λ ls. told.0 ++ ls) (sym is) ∙ told.2,
    )

-- telling stopped at the first of the rest
pub told_stopped : {T U : Type 0} {e : Option ℕ} (b m n : Option (List ℕ)) (f g h : ℕ) (more rest old all : List (List ℕ)) (s : Stop) → old ≡ more ++ rest → ToldBefore b m f g old all
    → Tells {T = T} m n g h e more (Err s) → Tells {T = U} b n f h e all (Err s)
told_stopped {T} {U} {e} b m n f g h more rest old all s is told tells =
    let both = tells_then {T = Unit {0}} {U = T} b m n f g h told.0 more tt (Err s) told.1 tells in
    subst (λ ls. Tells {T = U} b n f h e ls (Err s)) (append_assoc told.0 more rest ∙ ap (λ ls. told.0 ++ ls) (sym is) ∙ told.2)
    (tells_stopped {T = T} {U = U} b n f h (told.0 ++ more) rest s both)

-- no lines are left
pub told_all : {e : Option ℕ} (b m : Option (List ℕ)) (f g : ℕ) (rest all : List (List ℕ)) → rest ≡ [] → ToldBefore b m f g rest all → Tells {T = Unit {0}} b m f g e all (Ok tt)
told_all {e} b m f g rest all none told =
    let same : told.0 ≡ all = sym (append-nil told.0) ∙ ap (λ ls. told.0 ++ ls) (sym none) ∙ told.2 in
    subst (λ ls. Tells {T = Unit {0}} b m f g e ls (Ok tt)) same (record {
      later = told.1.later;
      whole = told.1.whole;
      still = told.1.still;
      still_memory = λ w. let no : ⊥ = cc in absurd no;
      memory = λ w. let no : ⊥ = cc in absurd no;
      fault = λ w. let no : ⊥ = cc in absurd no;
      last = λ w. let no : ⊥ = cc in absurd no;
    })
