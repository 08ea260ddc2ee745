-- What the answers of a judge tell.
use Rattle.std.proofs.Common.{◌≡◌, ℕ, Bool, true, false, List, [], ◌++◌, Option, Some, None, Result, Ok, Err, IfOk, refl, ap, sym, ◌∙◌, subst}
use Rattle.std.proofs.lemmas.List.{append-nil}
use Rattle.cnf_form.specs.Cnf.{Assignment, FormulaOf}
use Rattle.cnf_form.specs.Dimacs.{IsDimacs}
use Rattle.cert_judge.specs.Judging.{Feeds as StreamFeeds, IsOver, IsSameJudge, JudgeOf, HasTaken as StreamHasTaken, bits_of, formula_of, kind_of, outcome_of}
use Rattle.cert_judge.specs.Kinds.{IsFate, IsFateSoFar, stream_values}
use Rattle.cert_judge.specs.Lines.{AreValuesOf, AreValuesTold}
use Rattle.cert_judge.specs.Outcomes.{fate_of, fate_told}
use Rattle.cert_judge.specs.Output.{has_values, stream_of}
use Rattle.cert_judge.specs.OutputFate.{own_fate}
use Rattle.cert_judge.specs.OutputJudging.{Ends, Feeds, Gave, Goes, OutputOf, HasTaken}
use Rattle.cert_judge.specs.Spots.{given, given_at_end, spot_after, values_after, values_at_end}
use Rattle.cert_judge.specs.declared.spot.Spot.{Spot}
use Rattle.cert_judge.specs.declared.spot.Spot.TheVariants.{Start}
use Rattle.cert_judge.specs.declared.stream.Outcome.{Outcome}
use Rattle.cert_judge.specs.declared.stream.StreamKind.TheVariants.{Drup}
use Rattle.cert_judge.proofs.OutputFeeding.{given_append, output, spot_append, values_append}
use Rattle.cert_judge.proofs.OutputReading.{given_is, given_whole, values_are}

-- where a call had its memory, what it ensures has a consequence
if_both : {A E : Type 0} (P Q R : A → Type 0) (r : Result A E) → ((a : A) → P a → Q a → R a) → IfOk r P → IfOk r Q → IfOk r R
if_both P Q R (Ok a) f h k = f a h k
if_both P Q R (Err e) f h k = tt

-- what is told of one judge is told of another with the same formula, kind and number of bytes
module _ {S : Type 0} (i j : JudgeOf S) (same : IsSameJudge i j) (drup : kind_of i ≡ Drup) (text : List ℕ) where
  pub kind_drup : kind_of j ≡ Drup
  kind_drup = same.kind ∙ drup

  so_far_same : (file : List ℕ) (x : Option Outcome) → IsFateSoFar (kind_of j) file text j.most (fate_told x) → IsFateSoFar Drup file text i.most (fate_told x)
  so_far_same file x h =
      subst (λ m. IsFateSoFar Drup file text m (fate_told x)) same.most (subst (λ k. IsFateSoFar k file text j.most (fate_told x)) kind_drup h)

  fate_same : (file : List ℕ) (x : Outcome) → IsFate (kind_of j) file text j.most (fate_of x) → IsFate Drup file text i.most (fate_of x)
  fate_same file x h = subst (λ m. IsFate Drup file text m (fate_of x)) same.most (subst (λ k. IsFate k file text j.most (fate_of x)) kind_drup h)

  values_same : (ended : Bool) (bits : List Bool) (x : Option Outcome) → AreValuesTold (formula_of j) (stream_values (kind_of j) (formula_of j).vars ended text j.most) bits x
      → AreValuesTold (formula_of i) (stream_values Drup (formula_of i).vars ended text i.most) bits x
  values_same ended bits x h =
      subst (λ m. AreValuesTold (formula_of i) (stream_values Drup (formula_of i).vars ended text m) bits x) same.most
      (subst (λ (f : FormulaOf). AreValuesTold f (stream_values Drup f.vars ended text j.most) bits x) same.formula
      (subst (λ k. AreValuesTold (formula_of j) (stream_values k (formula_of j).vars ended text j.most) bits x) kind_drup h))

-- bytes after those that the judge took
stands_goes : {S : Type 0} (x y : OutputOf S) (bytes piece : List ℕ) → Goes x piece y → HasTaken x bytes → HasTaken y (bytes ++ piece)
stands_goes x y bytes piece g s = record {
  kind = g.gave.same.kind ∙ s.kind;
  judge =
      subst (StreamHasTaken y.judge) (ap (λ z. given Start bytes ++ given z piece) s.spot ∙ sym (given_append Start bytes piece)) (g.gave.stands (given Start bytes) s.judge);
  spot = g.spot ∙ ap (λ z. spot_after z piece) s.spot ∙ sym (spot_append Start bytes piece);
  values = g.values ∙ ap (λ z. values_after z x.values piece) s.spot ∙ ap (λ v. values_after (spot_after Start bytes) v piece) s.values ∙ sym (values_append Start false bytes piece);
}

feeds_read : {S : Type 0} (x y : OutputOf S) (k : JudgeOf S) (bytes piece : List ℕ) (o : Option Outcome) → Goes x piece y → HasTaken x bytes → IsSameJudge y.judge k
    → StreamFeeds y.judge k (given Start (bytes ++ piece) ++ []) o → Feeds x (output k y.spot y.values) (bytes ++ piece) o
feeds_read x y k bytes piece o g s same h =
    let w = stands_goes x y bytes piece g s in
    let text : List ℕ = given Start (bytes ++ piece) ++ [] in
    let e : text ≡ given Start (bytes ++ piece) = append-nil (given Start (bytes ++ piece)) in
    let i : text ≡ stream_of false (bytes ++ piece) = e ∙ given_is (bytes ++ piece) in
    record {
      stands = record { kind = same.kind ∙ w.kind; judge = subst (StreamHasTaken k) e h.stands; spot = w.spot; values = w.values };
      outcome = h.outcome;
      fate = λ file d.
          subst (λ t. IsFateSoFar Drup file t x.judge.most (fate_told o)) i
          (so_far_same x.judge y.judge g.gave.same s.kind text file o (h.fate file (subst (IsDimacs file) (sym g.gave.same.formula) d)));
      values =
          subst (λ t. AreValuesTold (formula_of x.judge) (stream_values Drup (formula_of x.judge).vars false t x.judge.most) (bits_of k) o) i
          (values_same x.judge y.judge g.gave.same s.kind text false (bits_of k) o h.values);
    }

pub feeds_output : {E S : Type 0} (x : OutputOf S) (j k : JudgeOf S) (spot : Spot) (values : Bool) (piece : List ℕ) (r : Result (Option Outcome) E) → Goes x piece (output j spot values)
    → IfOk r (λ o. IsSameJudge j k) → ((text : List ℕ) → StreamHasTaken j text → IfOk r (λ o. StreamFeeds j k (text ++ []) o)) → (bytes : List ℕ) → HasTaken x bytes
    → IfOk r (λ o. Feeds x (output k spot values) (bytes ++ piece) o)
feeds_output x j k spot values piece r g same f bytes s =
    if_both (λ o. IsSameJudge j k) (λ o. StreamFeeds j k (given Start (bytes ++ piece) ++ []) o) (λ o. Feeds x (output k spot values) (bytes ++ piece) o) r
    (λ o i h. feeds_read x (output j spot values) k bytes piece o g s i h) same (f (given Start (bytes ++ piece)) (stands_goes x (output j spot values) bytes piece g s).judge)

told_of : (f : FormulaOf) (x : Assignment) (bits : List Bool) (o : Outcome) (answer : Option Outcome) → ((p : Outcome) → answer ≡ Some p → p ≡ o) → AreValuesOf f x bits o → AreValuesTold f x bits answer
told_of f x bits o None n h = tt
told_of f x bits o (Some p) n h = subst (AreValuesOf f x bits) (sym (n p refl)) h

both_same : {S : Type 0} (i j k : JudgeOf S) → IsSameJudge i j → IsSameJudge j k → IsSameJudge i k
both_same i j k a b = record { formula = b.formula ∙ a.formula; kind = b.kind ∙ a.kind; most = b.most ∙ a.most }

pub ends_output : {S : Type 0} (i : JudgeOf S) (spot : Spot) (values : Bool) (j k : JudgeOf S) (new : OutputOf S) (o : Outcome) (answer : Option Outcome) → Gave i (given_at_end spot) j → IsSameJudge j k
    → ((text : List ℕ) → StreamHasTaken j text → IsOver k text o) → new.judge ≡ k → fate_told answer ≡ own_fate (values_at_end spot values) (fate_of o)
    → ((p : Outcome) → answer ≡ Some p → p ≡ o) → (bytes : List ℕ) → HasTaken (output i spot values) bytes → Ends (output i spot values) new bytes answer
ends_output {S} i spot values j k new o answer g same f is told n bytes s =
    let text : List ℕ = given Start bytes ++ given_at_end spot in
    let e : text ≡ stream_of true bytes = ap (λ z. given Start bytes ++ given_at_end z) s.spot ∙ given_whole bytes in
    let h = f text (g.stands (given Start bytes) s.judge) in
    let v : values_at_end spot values ≡ has_values bytes = ap (λ z. values_at_end z values) s.spot ∙ ap (λ w. values_at_end (spot_after Start bytes) w) s.values ∙ values_are bytes in
    let all : IsSameJudge i k = both_same i j k g.same same in
    record {
      outcome = (o, ap outcome_of is ∙ h.outcome, told ∙ ap (λ w. own_fate w (fate_of o)) v);
      fate = λ file d. (
        fate_of o,
        subst (λ t. IsFate Drup file t i.most (fate_of o)) e (fate_same i k all s.kind text file o (h.fate file (subst (IsDimacs file) (sym all.formula) d))),
        told ∙ ap (λ w. own_fate w (fate_of o)) v,
      );
      values =
          subst (λ (z : JudgeOf S). AreValuesTold (formula_of i) (stream_values Drup (formula_of i).vars true (stream_of true bytes) i.most) (bits_of z) answer) (sym is)
          (subst (λ t. AreValuesTold (formula_of i) (stream_values Drup (formula_of i).vars true t i.most) (bits_of k) answer) e
          (told_of (formula_of i) (stream_values Drup (formula_of i).vars true text i.most) (bits_of k) o answer n (values_same i k all s.kind text true (bits_of k) (Some o) h.values)));
    }
