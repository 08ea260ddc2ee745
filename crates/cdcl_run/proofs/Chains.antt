-- What a log took, line by line.
use Rattle.std.proofs.Common.{◌≡◌, ℕ, Bool, true, false, refl, List, [], ◌∷◌, ◌++◌, ap, ◌∙◌, sym, subst, append-nil, append_assoc, arith}
use Rattle.std.specs.Prelude.{Result, Ok, Err, IfOk, OnErr}
use Rattle.std.specs.declared.alloc.AllocError.{AllocError}
use Rattle.cnf_form.specs.Cnf.{FormulaOf}
use Rattle.cdcl_core.specs.Lines.{LogLine, Adds}
use Rattle.cdcl_core.specs.Solving.{IsStopped, SolvedFits, Takes}
use Rattle.cdcl_core.specs.declared.solver.Solved.{Solved}
use Rattle.cdcl_core.specs.declared.solver.Solved.TheVariants.{Sat, Unsat, Budget, LogFailed}
use Rattle.cdcl_run.specs.Searching.{Searches, Stops, line_by, text_by}
use Rattle.cdcl_run.specs.HintedText.{hinted_line, hinted_text}
use Rattle.cdcl_run.specs.Output.{Breaks, OutputOf, Puts}
use Rattle.cdcl_run.specs.Text.{log_line, log_text}
use Rattle.cdcl_run.proofs.Putting.{puts_both, puts_breaks, puts_none}

-- the same sink and the same piece, with a text more
pub record Goes {A N M : Type 0} (sink : A → N) (piece : A → M) (out : A → OutputOf) (a b : A) (text : List ℕ) : Type 0 where
  pub same_sink : sink b ≡ sink a
  pub same_piece : piece b ≡ piece a
  pub puts : Puts (out a) (out b) text

-- the text of lines with one line first, or last
text_cons : (hinted : Bool) (l : LogLine) (ls : List LogLine) → text_by hinted (l ∷ ls) ≡ line_by hinted l ++ text_by hinted ls
text_cons false l ls = refl
text_cons true l ls = refl

pub text_none : (hinted : Bool) → text_by hinted [] ≡ []
text_none false = refl
text_none true = refl

pub text_push : (hinted : Bool) (ls : List LogLine) (l : LogLine) → text_by hinted (ls ++ l ∷ []) ≡ text_by hinted ls ++ line_by hinted l
text_push false [] l = append-nil (log_line l)
text_push false (m ∷ ls) l = ap (λ z. log_line m ++ z) (text_push false ls l) ∙ sym (append_assoc (log_line m) (log_text ls) (log_line l))
text_push true [] l = append-nil (hinted_line l)
text_push true (m ∷ ls) l = ap (λ z. hinted_line m ++ z) (text_push true ls l) ∙ sym (append_assoc (hinted_line m) (hinted_text ls) (hinted_line l))

module _ (hinted : Bool) {A N M : Type 0} (sink : A → N) (piece : A → M) (out : A → OutputOf) (takes : A → LogLine → A → Type 0) (each : (a b : A) (l : LogLine) → takes a l b → Goes sink piece out a b (line_by hinted l)) where
  pub chain : (ls : List LogLine) (a b : A) → Takes takes a ls b → Goes sink piece out a b (text_by hinted ls)
  chain [] a b e = record { same_sink = ap sink e; same_piece = ap piece e; puts = subst (Puts (out a) (out b)) (sym (text_none hinted)) (subst (λ z. Puts (out a) (out z) []) (sym e) (puts_none (out a))) }
  chain (l ∷ ls) a b w =
      let h = each a w.0 l w.1 in
      let k = chain ls w.0 b w.2 in
      record {
        same_sink = k.same_sink ∙ h.same_sink;
        same_piece = k.same_piece ∙ h.same_piece;
        puts = subst (Puts (out a) (out b)) (sym (text_cons hinted l ls)) (puts_both (out a) (out w.0) (out b) (line_by hinted l) (text_by hinted ls) h.puts k.puts);
      }

  pub chain_end : (ls : List LogLine) (l : LogLine) (a b c : A) → Takes takes a ls b → takes b l c → Goes sink piece out a c (text_by hinted (ls ++ l ∷ []))
  chain_end ls l a b c w e =
      let h = chain ls a b w in
      let k = each b c l e in
      record {
        same_sink = k.same_sink ∙ h.same_sink;
        same_piece = k.same_piece ∙ h.same_piece;
        puts = subst (Puts (out a) (out c)) (sym (text_push hinted ls l)) (puts_both (out a) (out b) (out c) (text_by hinted ls) (line_by hinted l) h.puts k.puts);
      }

-- the same sink and the same piece, and a call failed before the text was put
pub record GoesWrong {A N M : Type 0} (sink : A → N) (piece : A → M) (out : A → OutputOf) (a b : A) (text : List ℕ) : Type 0 where
  pub same_sink : sink b ≡ sink a
  pub same_piece : piece b ≡ piece a
  pub breaks : Breaks (out a) (out b) text

-- a search as what was put
pub record Searched (hinted : Bool) {A N M : Type 0} (sink : A → N) (piece : A → M) (out : A → OutputOf) (f : FormulaOf) (budget : ℕ) (a b : A) (r : Result Solved AllocError) : Type 0 where
  pub same_sink : sink b ≡ sink a
  pub same_piece : piece b ≡ piece a
  pub searches : IfOk r (λ s. Searches hinted f budget (out a) (out b) s)
  pub stops : OnErr r (Stops hinted f budget (out a) (out b))

module _ (hinted : Bool) {A N M : Type 0} (sink : A → N) (piece : A → M) (out : A → OutputOf) (takes : A → LogLine → A → Type 0) (fails : A → LogLine → A → Type 0)
    (each : (a b : A) (l : LogLine) → takes a l b → Goes sink piece out a b (line_by hinted l)) (each_fail : (a b : A) (l : LogLine) → fails a l b → GoesWrong sink piece out a b (line_by hinted l)) where
  searched : (f : FormulaOf) (budget : ℕ) (a b : A) (s : Solved) → SolvedFits takes fails hinted f budget a b s → Searched hinted sink piece out f budget a b (Ok s)
  searched f budget a b (Sat values) w =
      let s = w.search in
      let h = chain hinted sink piece out takes each s.lines a b s.taken in
      record {
        same_sink = h.same_sink;
        same_piece = h.same_piece;
        searches = (s.lines, w.present, w.count, w.held, record { deletions = s.deletions; logged = s.logged; proper = s.proper; hints = s.hints }, w.in_time, h.puts, omega (arith, w.sized), w.satisfies);
        stops = tt;
      }
  searched f budget a b Unsat w =
      let s = w.search in
      let h = chain_end hinted sink piece out takes each s.lines (Adds [] w.id w.hints) a w.last b s.taken w.empty in
      record {
        same_sink = h.same_sink;
        same_piece = h.same_piece;
        searches = (
          s.lines,
          w.present,
          w.count,
          w.held,
          record { deletions = s.deletions; logged = s.logged; proper = s.proper; hints = s.hints },
          w.in_time,
          w.id,
          w.hints,
          h.puts,
          w.admitted,
          w.proper,
          w.is_hinted,
        );
        stops = tt;
      }
  searched f budget a b Budget w =
      let s = w.search in
      let h = chain hinted sink piece out takes each s.lines a b s.taken in
      record { same_sink = h.same_sink; same_piece = h.same_piece; searches = (s.lines, w.present, w.held, record { deletions = s.deletions; logged = s.logged; proper = s.proper; hints = s.hints }, h.puts); stops = tt }
  searched f budget a b LogFailed w =
      let s = w.search in
      let h = chain hinted sink piece out takes each s.lines a w.last s.taken in
      let k = each_fail w.last b w.line w.failed in
      let broken = puts_breaks (out a) (out w.last) (out b) (text_by hinted s.lines) (line_by hinted w.line) h.puts k.breaks in
      record {
        same_sink = k.same_sink ∙ h.same_sink;
        same_piece = k.same_piece ∙ h.same_piece;
        searches = (
          s.lines,
          w.present,
          w.count,
          w.held,
          record { deletions = s.deletions; logged = s.logged; proper = s.proper; hints = s.hints },
          w.in_time,
          w.line,
          w.follows,
          w.proper,
          w.is_hinted,
          subst (Breaks (out a) (out b)) (sym (text_push hinted s.lines w.line)) broken,
        );
        stops = tt;
      }

  pub answered : (f : FormulaOf) (budget : ℕ) (a b : A) (r : Result Solved AllocError) → IfOk r (λ s. SolvedFits takes fails hinted f budget a b s) → OnErr r (IsStopped takes hinted f budget a b) → Searched hinted sink piece out f budget a b r
  answered f budget a b (Err e) w v =
      let s = v.search in
      let h = chain hinted sink piece out takes each s.lines a b s.taken in
      record { same_sink = h.same_sink; same_piece = h.same_piece; searches = tt; stops = (s.lines, v.present, v.count, v.held, record { deletions = s.deletions; logged = s.logged; proper = s.proper; hints = s.hints }, v.within, h.puts) }
  answered f budget a b (Ok s) w v = searched f budget a b s w
