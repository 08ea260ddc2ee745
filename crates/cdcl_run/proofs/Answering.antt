-- What a search and the end of its answer write.
use Rattle.std.proofs.Common.{◌≡◌, ◌⊎◌, ℕ, ◌+◌, ◌<◌, ◌≤◌, Bool, List, [], ◌∷◌, ◌++◌, length, take, refl, ap, ◌∙◌, sym, subst, inl, inr, append-nil, arith}
use Rattle.std.proofs.Math.Seq.{take-append_seam}
use Rattle.std.proofs.lemmas.List.Elements.{All-nil, All-push}
use Rattle.cnf_form.specs.Cnf.{FormulaOf, LitOf, Line, Addition, Deletion}
use Rattle.std.specs.Prelude.{IsTrue, Option, Result, Ok, Err, IfOk, OnOk}
use Rattle.cnf_form.specs.Dimacs.{IsDimacs}
use Rattle.cnf_form.specs.Reading.{IsFault}
use Rattle.cnf_form.specs.declared.reader.DimacsFaultKind.{DimacsFaultKind}
use Rattle.sby_edge.specs.Cause.{Rose}
use Rattle.sby_edge.specs.declared.outside.Fail.{Fail}
use Rattle.net_answer.specs.Written.{Wrote as Streamed}
use Rattle.cdcl_core.specs.Logged.{Logged, additions, none}
use Rattle.cdcl_core.specs.Lines.{LogLine, Adds, Notes, Drops, plain, IsProperLine, HeldOf, held_first, held_after, IsHintedLine, LineFollows}
use Rattle.cdcl_core.specs.declared.solver.Solved.{Solved}
use Rattle.cdcl_core.specs.declared.solver.Solved.TheVariants.{Sat, Unsat, Budget, LogFailed}
use Rattle.cdcl_core.proofs.Solutions.{logged_count, plain_push, hinted_push}
use Rattle.cdcl_run.specs.Answer.{IsAnswer, IsSearchText}
use Rattle.cdcl_run.specs.Searching.{EndBreaks, IsEnd, IsLogged, Searches, Stops, text_by}
use Rattle.cdcl_run.specs.Output.{Breaks, GrownByFirst, GrownBySome, OutputOf, Puts, grown}
use Rattle.cdcl_run.specs.Stream.{IsStream}
use Rattle.cdcl_run.specs.Text.{fault_line, unsatisfiable_line}
use Rattle.cdcl_run.proofs.Chains.{text_none}
use Rattle.cdcl_run.proofs.Putting.{breaks_more, puts_both, puts_breaks}
use Rattle.cdcl_run.proofs.Streams.{sat_stream, unsat_stream}

-- of what was put after nothing was gathered, all that isn't gathered was written
begun_split : (old new : OutputOf) (text : List ℕ) → old.gathered ≡ [] → (p : Puts old new text) → text ≡ p.written ++ new.gathered
begun_split old new text begun p = ap (λ z. z ++ text) (sym begun) ∙ p.split

-- a stream was written whole
pub record Wrote (hinted : Bool) (job : List ℕ) (budget : ℕ) (old new : OutputOf) (exit : ℕ) : Type 0 where
  pub stream : List ℕ
  pub taken : new.taken ≡ grown old.taken stream
  pub still : new.faults ≡ old.faults
  pub answer : IsAnswer hinted job budget stream exit

wrote : (hinted : Bool) (job : List ℕ) (budget : ℕ) (old new : OutputOf) (exit : ℕ) (stream : List ℕ) → old.gathered ≡ [] → new.gathered ≡ [] → Puts old new stream → IsAnswer hinted job budget stream exit → Wrote hinted job budget old new exit
wrote hinted job budget old new exit stream begun done p a =
    let is : stream ≡ p.written = begun_split old new stream begun p ∙ ap (λ z. p.written ++ z) done ∙ append-nil p.written in
    record { stream = stream; taken = p.taken ∙ ap (grown old.taken) (sym is); still = p.still; answer = a }

-- what a search put, and an end of its answer, are the stream of an answer
pub record Whole (hinted : Bool) (job : List ℕ) (budget : ℕ) (old mid : OutputOf) (text : List ℕ) (exit : ℕ) : Type 0 where
  pub first : List ℕ
  pub puts : Puts old mid first
  pub answer : IsAnswer hinted job budget (first ++ text) exit

whole : (hinted : Bool) (job : List ℕ) (f : FormulaOf) (budget : ℕ) (old mid : OutputOf) (s : Solved) (text : List ℕ) (exit : ℕ) → IsDimacs job f → Searches hinted f budget old mid s → IsEnd f.vars s text exit → Whole hinted job budget old mid text exit
whole hinted job f budget old mid (Sat values) text exit d s e =
    let first = text_by hinted s.0 in
    let v = e.1 in
    record { first = first; puts = s.6; answer = inr (inl (e.0, sat_stream job f budget s.0 s.1 s.2 s.3 d hinted values.items v.0 (first ++ text) s.4 s.5 s.8 v.1 (ap (λ z. first ++ z) v.2))) }
whole hinted job f budget old mid Unsat text exit d s e =
    let first = text_by hinted (s.0 ++ Adds [] s.6 s.7 ∷ []) in
    record { first = first; puts = s.8; answer = inl (e.0, unsat_stream job f budget s.0 s.1 s.2 s.3 d hinted s.6 s.7 (first ++ text) s.4 s.5 s.9 s.10 s.11 (ap (λ z. first ++ z) e.1)) }
whole hinted job f budget old mid Budget text exit d s e =
    let first = text_by hinted s.0 in
    record { first = first; puts = s.4; answer = inr (inr (e.0, record { lines = s.0; searched = record { formula = f; is_formula = d; present = s.1; held = s.2; logged = s.3 }; is = ap (λ z. first ++ z) e.1 })) }
whole hinted job f budget old mid LogFailed text exit d s e = absurd e

pub answer_written : (hinted : Bool) (job : List ℕ) (f : FormulaOf) (budget : ℕ) (old mid new : OutputOf) (s : Solved) (text : List ℕ) (exit : ℕ) → IsDimacs job f → old.gathered ≡ [] → new.gathered ≡ [] → Searches hinted f budget old mid s
    → IsEnd f.vars s text exit → Puts mid new text → Wrote hinted job budget old new exit
answer_written hinted job f budget old mid new s text exit d begun done h e p =
    let w = whole hinted job f budget old mid s text exit d h e in
    wrote hinted job budget old new exit (w.first ++ text) begun done (puts_both old mid new w.first text w.puts p) w.answer

-- a call failed, and a first part of the lines of a search or of an answer was written
pub record Cut (hinted : Bool) (job : List ℕ) (budget : ℕ) (old new : OutputOf) : Type 0 where
  pub rose : Rose old.faults new.faults
  pub later : old.faults ≤ new.faults
  pub text : List ℕ
  pub part : GrownBySome old.taken new.taken text
  pub of : IsSearchText hinted job budget text ⊎ ((exit : ℕ) × IsAnswer hinted job budget text exit)

cut : (hinted : Bool) (job : List ℕ) (budget : ℕ) (old new : OutputOf) (text : List ℕ) → old.gathered ≡ [] → Breaks old new text → IsSearchText hinted job budget text ⊎ ((exit : ℕ) × IsAnswer hinted job budget text exit) → Cut hinted job budget old new
cut hinted job budget old new text begun b of = record { rose = b.rose; later = b.later; text = text; part = subst (λ z. GrownBySome old.taken new.taken (z ++ text)) begun b.part; of = of }

additions_push : (ls : List Line) (l : Line) → additions (ls ++ l ∷ []) ≤ additions ls + 1
additions_push [] (Addition c) = omega arith
additions_push [] (Deletion c) = omega arith
additions_push (Addition d ∷ ls) l = let h = additions_push ls l in omega (arith, h)
additions_push (Deletion d ∷ ls) l = additions_push ls l

-- a line more is within the budget
one_more : {F : List (List LitOf)} (ls : List Line) (l : Line) (G H : List (List LitOf)) (n m d e budget : ℕ) → Logged F ls G n d → Logged F (ls ++ l ∷ []) H m e → n < budget → m ≤ budget
one_more ls l G H n m d e budget a b h = let had = (logged_count a).0 in let has = (logged_count b).0 in let more = additions_push ls l in omega (arith, had, has, more, h)

-- a search with a line more
more_searched : (hinted : Bool) (job : List ℕ) (f : FormulaOf) (budget : ℕ) (ls : List LogLine) (present : List (List LitOf)) (count : ℕ) (held : HeldOf) (line : LogLine) (H : List (List LitOf)) (m e : ℕ) → IsDimacs job f → IsLogged hinted f ls present count held → IsProperLine f.vars line
    → (IsTrue hinted → IsHintedLine held line) → Logged f.clauses (plain (ls ++ line ∷ [])) H m e → m ≤ budget → IsSearchText hinted job budget (text_by hinted (ls ++ line ∷ []))
more_searched hinted job f budget ls present count held line H m e d p proper by l h = record {
  lines = ls ++ line ∷ [];
  count = m;
  searched = record {
    formula = f;
    is_formula = d;
    present = H;
    held = held_after held line;
    logged = record { deletions = e; logged = l; proper = All-push (IsProperLine f.vars) ls line p.proper proper; hints = λ t. hinted_push (held_first f.clauses) held ls line (p.hints t) (by t) };
  };
  within = h;
  is = refl;
}

-- the log failed at a line of the search
log_cut : (hinted : Bool) (job : List ℕ) (f : FormulaOf) (budget : ℕ) (old new : OutputOf) (ls : List LogLine) (present : List (List LitOf)) (count : ℕ) (held : HeldOf) (line : LogLine) → IsDimacs job f → old.gathered ≡ [] → IsLogged hinted f ls present count held → count < budget
    → LineFollows f.clauses (plain ls) present line → IsProperLine f.vars line → (IsTrue hinted → IsHintedLine held line) → Breaks old new (text_by hinted (ls ++ line ∷ [])) → Cut hinted job budget old new
log_cut hinted job f budget old new ls present count held (Adds c id hints) d begun p h (inl m) proper by b =
    cut hinted job budget old new (text_by hinted (ls ++ Adds c id hints ∷ [])) begun b
    (inl (more_searched hinted job f budget ls present count held (Adds c id hints) m.0 m.1 m.2 d p proper by (subst (λ z. Logged f.clauses z m.0 m.1 m.2) (sym (plain_push ls (Adds c id hints))) m.3) (one_more (plain ls) (Addition c) present m.0 count m.1 p.deletions m.2 budget p.logged m.3 h)))
log_cut hinted job f budget old new ls present count held (Adds c id hints) d begun p h (inr m) proper by b =
    let none : c ≡ [] = (let e = m.0 in cc) in
    let lines = text_by hinted (ls ++ Adds c id hints ∷ []) in
    cut hinted job budget old new (lines ++ unsatisfiable_line) begun (breaks_more old new lines unsatisfiable_line b)
    (inr (20, inl (refl, unsat_stream job f budget ls present count held d hinted id hints (lines ++ unsatisfiable_line) p h m.1 (subst (λ z. IsProperLine f.vars (Adds z id hints)) none proper) (λ t. subst (λ z. IsHintedLine held (Adds z id hints)) none (by t)) (ap (λ z. text_by hinted (ls ++ Adds z id hints ∷ []) ++ unsatisfiable_line) none))))
log_cut hinted job f budget old new ls present count held (Drops c id) d begun p h (inl m) proper by b =
    cut hinted job budget old new (text_by hinted (ls ++ Drops c id ∷ [])) begun b
    (inl (more_searched hinted job f budget ls present count held (Drops c id) m.0 m.1 m.2 d p proper by (subst (λ z. Logged f.clauses z m.0 m.1 m.2) (sym (plain_push ls (Drops c id))) m.3) (one_more (plain ls) (Deletion c) present m.0 count m.1 p.deletions m.2 budget p.logged m.3 h)))
log_cut hinted job f budget old new ls present count held (Drops c id) d begun p h (inr m) proper by b = absurd (let e = m.0 in cc)
log_cut hinted job f budget old new ls present count held (Notes l id hints) d begun p h m proper by b =
    cut hinted job budget old new (text_by hinted (ls ++ Notes l id hints ∷ [])) begun b
    (inl (more_searched hinted job f budget ls present count held (Notes l id hints) present count p.deletions d p proper by (subst (λ z. Logged f.clauses z present count p.deletions) (sym (plain_push ls (Notes l id hints) ∙ append-nil (plain ls))) p.logged) (omega (arith, h))))

-- the end of an answer failed
end_cut : (hinted : Bool) (job : List ℕ) (f : FormulaOf) (budget : ℕ) (old mid new : OutputOf) (s : Solved) (text : List ℕ) (exit : ℕ) → IsDimacs job f → old.gathered ≡ [] → Searches hinted f budget old mid s → IsEnd f.vars s text exit → Breaks mid new text → Cut hinted job budget old new
end_cut hinted job f budget old mid new s text exit d begun h e b =
    let w = whole hinted job f budget old mid s text exit d h e in
    cut hinted job budget old new (w.first ++ text) begun (puts_breaks old mid new w.first text w.puts b) (inr (exit, w.answer))

-- nothing more came after a fault
same_breaks : (old mid new : OutputOf) (text : List ℕ) → new.taken ≡ mid.taken → new.faults ≡ mid.faults → Breaks old mid text → Breaks old new text
same_breaks old mid new text t f b = record { part = subst (λ z. GrownBySome old.taken z (old.gathered ++ text)) (sym t) b.part; rose = subst (Rose old.faults) (sym f) b.rose; later = subst (λ z. old.faults ≤ z) (sym f) b.later }

pub answer_cut : (hinted : Bool) (job : List ℕ) (f : FormulaOf) (budget : ℕ) (old mid new : OutputOf) (s : Solved) → IsDimacs job f → old.gathered ≡ [] → Searches hinted f budget old mid s → EndBreaks f.vars mid new s → Cut hinted job budget old new
answer_cut hinted job f budget old mid new s d begun h (inr e) = end_cut hinted job f budget old mid new s e.0 e.1 d begun h e.2 e.3
answer_cut hinted job f budget old mid new (Sat values) d begun h (inl e) = absurd (let k = e.0 in cc)
answer_cut hinted job f budget old mid new Unsat d begun h (inl e) = absurd (let k = e.0 in cc)
answer_cut hinted job f budget old mid new Budget d begun h (inl e) = absurd (let k = e.0 in cc)
answer_cut hinted job f budget old mid new LogFailed d begun h (inl e) = log_cut hinted job f budget old new h.0 h.1 h.2 h.3 h.6 d begun h.4 h.5 h.7 h.8 h.9 (same_breaks old mid new (text_by hinted (h.0 ++ h.6 ∷ [])) e.1 e.2 h.10)

-- memory ran out, and a first part of the lines of a search was written
pub record LeftOff (hinted : Bool) (job : List ℕ) (budget : ℕ) (old new : OutputOf) : Type 0 where
  pub still : new.faults ≡ old.faults
  pub text : List ℕ
  pub part : GrownByFirst old.taken new.taken text
  pub of : IsSearchText hinted job budget text

-- the text of a search is one
search_text : (hinted : Bool) (job : List ℕ) (f : FormulaOf) (budget : ℕ) (ls : List LogLine) (present : List (List LitOf)) (count : ℕ) (held : HeldOf) → IsDimacs job f → IsLogged hinted f ls present count held → count ≤ budget → IsSearchText hinted job budget (text_by hinted ls)
search_text hinted job f budget ls present count held d p h = record { lines = ls; count = count; searched = record { formula = f; is_formula = d; present = present; held = held; logged = p }; within = h; is = refl }

pub search_left : (hinted : Bool) (job : List ℕ) (f : FormulaOf) (budget : ℕ) (old new : OutputOf) → IsDimacs job f → old.gathered ≡ [] → Stops hinted f budget old new → LeftOff hinted job budget old new
search_left hinted job f budget old new d begun s =
    let p = s.6 in
    let text = text_by hinted s.0 in
    let first : take (length p.written) text ≡ p.written = ap (take (length p.written)) (begun_split old new text begun p) ∙ take-append_seam p.written new.gathered in
    record {
      still = p.still;
      text = text;
      part = (length p.written, p.taken ∙ ap (grown old.taken) (sym first));
      of = search_text hinted job f budget s.0 s.1 s.2 s.3 d s.4 s.5;
    }

-- the lines of a search that wasn't begun
pub none_searched : (hinted : Bool) (job : List ℕ) (f : FormulaOf) (budget : ℕ) → IsDimacs job f → IsSearchText hinted job budget []
none_searched hinted job f budget d =
    subst (IsSearchText hinted job budget) (text_none hinted) (search_text hinted job f budget [] f.clauses 0 (held_first f.clauses) d (record { deletions = 0; logged = none; proper = All-nil (IsProperLine f.vars); hints = λ h. refl }) (omega arith))

-- no call of a search lowers the count of faults
pub searches_later : (hinted : Bool) (f : FormulaOf) (budget : ℕ) (old new : OutputOf) (s : Solved) → Searches hinted f budget old new s → old.faults ≤ new.faults
searches_later hinted f budget old new (Sat values) h = let p = h.6 in omega (arith, p.still)
searches_later hinted f budget old new Unsat h = let p = h.8 in omega (arith, p.still)
searches_later hinted f budget old new Budget h = let p = h.4 in omega (arith, p.still)
searches_later hinted f budget old new LogFailed h = let b = h.10 in b.later

-- a call failed after others that didn't
rises : (old mid new : OutputOf) (text : List ℕ) → mid.faults ≡ old.faults → Breaks mid new text → Rose old.faults new.faults × (old.faults ≤ new.faults)
rises old mid new text still b = (subst (λ z. Rose z new.faults) still b.rose, subst (λ z. z ≤ new.faults) still b.later)

-- where the end of an answer was cut short, the count of faults rose
pub cut_faults : (hinted : Bool) (f : FormulaOf) (budget vars : ℕ) (old mid new : OutputOf) (s : Solved) → Searches hinted f budget old mid s → EndBreaks vars mid new s → Rose old.faults new.faults × (old.faults ≤ new.faults)
cut_faults hinted f budget vars old mid new (Sat values) h (inr e) = let p = h.6 in rises old mid new e.0 p.still e.3
cut_faults hinted f budget vars old mid new Unsat h (inr e) = let p = h.8 in rises old mid new e.0 p.still e.3
cut_faults hinted f budget vars old mid new Budget h (inr e) = let p = h.4 in rises old mid new e.0 p.still e.3
cut_faults hinted f budget vars old mid new LogFailed h (inr e) = absurd e.2
cut_faults hinted f budget vars old mid new (Sat values) h (inl e) = absurd (let k = e.0 in cc)
cut_faults hinted f budget vars old mid new Unsat h (inl e) = absurd (let k = e.0 in cc)
cut_faults hinted f budget vars old mid new Budget h (inl e) = absurd (let k = e.0 in cc)
cut_faults hinted f budget vars old mid new LogFailed h (inl e) = let b = h.10 in (subst (Rose old.faults) (sym e.2) b.rose, subst (λ z. old.faults ≤ z) (sym e.2) b.later)

-- a whole answer is a whole stream
pub stream_answered : (hinted : Bool) (job : List ℕ) (f : FormulaOf) (budget : ℕ) (r : Result ℕ Fail) (before now : Option (List ℕ)) → IsDimacs job f
    → IfOk r (λ exit. (job : List ℕ) → IsDimacs job f → Streamed before now (λ stream. IsAnswer hinted job budget stream exit)) → OnOk r (Streamed before now (IsStream hinted budget job))
stream_answered hinted job f budget (Ok exit) before now d h = let w = h job d in (w.0, inr (exit, w.1), w.2)
stream_answered hinted job f budget (Err e) before now d h = tt

-- a whole line of a fault is a whole stream
pub stream_told : (hinted : Bool) (job : List ℕ) (budget : ℕ) (kind : DimacsFaultKind) (byte : ℕ) (r : Result ℕ Fail) (before now : Option (List ℕ)) → IsFault job kind byte → OnOk r (now ≡ grown before (fault_line kind byte))
    → OnOk r (Streamed before now (IsStream hinted budget job))
stream_told hinted job budget kind byte (Ok exit) before now d e = (fault_line kind byte, inl (kind, byte, d, refl), e)
stream_told hinted job budget kind byte (Err e) before now d h = tt
