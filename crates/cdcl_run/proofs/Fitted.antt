-- What a search for the fitted formula put is what one for the formula that was read may put.
use Rattle.std.proofs.Common.{◌≡◌, ℕ, ◌≤◌, max, nat_cmp, Bool, List, [], sym, subst, arith}
use Rattle.std.specs.Prelude.{All, Result, Ok, Err, IfOk, OnErr}
use Rattle.std.specs.declared.alloc.AllocError.{AllocError}
use Rattle.std.specs.Ordering.{ord_max}
use Rattle.std.proofs.lemmas.Bool.Decides.{nat_tests}
use Rattle.std.proofs.lemmas.List.Elements.{All-weaker}
use Rattle.cnf_form.specs.Cnf.{LitOf, LitWithin, ClauseWithin, FormulaOf, Satisfies}
use Rattle.cdcl_core.specs.Logged.{IsProper, Logged}
use Rattle.cdcl_core.specs.Lines.{LogLine, Adds, plain, IsProperLine, HeldOf, held_first, AreHinted, LineFollows, line_clause}
use Rattle.cdcl_core.specs.Solving.{valued}
use Rattle.cdcl_core.specs.declared.solver.Solved.{Solved}
use Rattle.cdcl_core.specs.declared.solver.Solved.TheVariants.{Sat, Unsat, Budget, LogFailed}
use Rattle.cdcl_run.specs.Output.{OutputOf}
use Rattle.cdcl_run.specs.Searching.{IsFitted, IsLogged, Searches, Stops}

-- the greater of two numbers
ord_max_is : (a b : ℕ) → ord_max nat_cmp a b ≡ max a b
ord_max_is a b = grind (arith, nat_tests)

pub first_within_max : (a b : ℕ) → a ≤ ord_max nat_cmp a b
first_within_max a b = omega (arith, ord_max_is a b)

pub second_within_max : (a b : ℕ) → b ≤ ord_max nat_cmp a b
second_within_max a b = omega (arith, ord_max_is a b)

pub max_within : (a b n : ℕ) → a ≤ n → b ≤ n → ord_max nat_cmp a b ≤ n
max_within a b n h k = omega (arith, ord_max_is a b, h, k)

-- a clause within some variables is within more, and within any that are at least those of its literals
pub clause_more : (few vars : ℕ) (c : List LitOf) → few ≤ vars → ClauseWithin few c → ClauseWithin vars c
clause_more few vars c h = All-weaker (LitWithin few) (LitWithin vars) (λ l w. (w.0, omega (arith, w.1, h))) c

pub clause_within : (vars greatest : ℕ) (c : List LitOf) → ClauseWithin vars c → All (λ l. l.var ≤ greatest) c → ClauseWithin greatest c
clause_within vars greatest c w g = λ k d h. ((w k d h).0, g k d h)

pub clause_below : (vars : ℕ) (c : List LitOf) → ClauseWithin vars c → All (λ l. l.var ≤ vars) c
clause_below vars c w = λ k d h. (w k d h).1

-- what is proper over some variables is so over more
proper_more : (few vars : ℕ) (c : List LitOf) → few ≤ vars → IsProper few c → IsProper vars c
proper_more few vars c h p = record { within = clause_more few vars c h p.within; short = omega (arith, p.short, h) }

line_more : (few vars : ℕ) (l : LogLine) → few ≤ vars → IsProperLine few l → IsProperLine vars l
line_more few vars l h p = (proper_more few vars (line_clause l) h p.0, p.1)

module _ (f g : FormulaOf) (fit : IsFitted f g) where
  -- the lines of a search, with hints or without
  logged_read : (hinted : Bool) (ls : List LogLine) (present : List (List LitOf)) (count : ℕ) (held : HeldOf) → IsLogged hinted g ls present count held → IsLogged hinted f ls present count held
  logged_read hinted ls present count held p = record {
    deletions = p.deletions;
    logged = subst (λ z. Logged z (plain ls) present count p.deletions) fit.clauses p.logged;
    proper = All-weaker (IsProperLine g.vars) (IsProperLine f.vars) (λ l w. line_more g.vars f.vars l fit.fewer w) ls p.proper;
    hints = λ h. subst (λ z. AreHinted (held_first z) ls held) fit.clauses (p.hints h);
  }

  searches_read : (hinted : Bool) (budget : ℕ) (old new : OutputOf) (s : Solved) → Searches hinted g budget old new s → Searches hinted f budget old new s
  searches_read hinted budget old new (Sat values) h =
      let few = fit.fewer in
      (h.0, h.1, h.2, h.3, logged_read hinted h.0 h.1 h.2 h.3 h.4, h.5, h.6, omega (arith, h.7, few), subst (Satisfies (valued values.items)) fit.clauses h.8)
  searches_read hinted budget old new Unsat h =
      (h.0, h.1, h.2, h.3, logged_read hinted h.0 h.1 h.2 h.3 h.4, h.5, h.6, h.7, h.8, h.9, line_more g.vars f.vars (Adds [] h.6 h.7) fit.fewer h.10, h.11)
  searches_read hinted budget old new Budget h = (h.0, h.1, h.2, logged_read hinted h.0 h.1 budget h.2 h.3, h.4)
  searches_read hinted budget old new LogFailed h = (
    h.0,
    h.1,
    h.2,
    h.3,
    logged_read hinted h.0 h.1 h.2 h.3 h.4,
    h.5,
    h.6,
    subst (λ z. LineFollows z (plain h.0) h.1 h.6) fit.clauses h.7,
    line_more g.vars f.vars h.6 fit.fewer h.8,
    h.9,
    h.10,
  )

  pub fitted_searches : (hinted by : Bool) (budget : ℕ) (old new : OutputOf) (r : Result Solved AllocError) → hinted ≡ by → IfOk r (λ s. Searches by g budget old new s) → IfOk r (λ s. Searches hinted f budget old new s)
  fitted_searches hinted by budget old new (Ok s) is h = searches_read hinted budget old new s (subst (λ b. Searches b g budget old new s) (sym is) h)
  fitted_searches hinted by budget old new (Err e) is h = tt

  pub fitted_stops : (hinted by : Bool) (budget : ℕ) (old new : OutputOf) (r : Result Solved AllocError) → hinted ≡ by → OnErr r (Stops by g budget old new) → OnErr r (Stops hinted f budget old new)
  fitted_stops hinted by budget old new (Ok s) is h = tt
  fitted_stops hinted by budget old new (Err e) is h =
      let k = subst (λ b. Stops b g budget old new) (sym is) h in
      (k.0, k.1, k.2, k.3, logged_read hinted k.0 k.1 k.2 k.3 k.4, k.5, k.6)
