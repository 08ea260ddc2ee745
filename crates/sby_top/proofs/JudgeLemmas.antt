-- What a judge's answers make of a job's stored stream.
use Rattle.std.proofs.Common.{◌≡◌, ℕ, ◌<◌, ◌≤◌, List, [], ◌++◌, refl, ap, sym, ◌∙◌, subst, inl, inr, length, take, drop, arith, append_assoc}
use Rattle.std.specs.Prelude.{◌≢◌, Bool, true, false, IsTrue, Option, Some, None, MatchOption, Result, Ok, Err}
use Rattle.std.proofs.lemmas.List.{append-nil, drop_all, length-take-le, take-append-drop}
use Rattle.std.proofs.lemmas.Bool.{cases_lt}
use Rattle.std.proofs.Math.Seq.{drop-append_seam}
use Rattle.sby_edge.specs.Files.{PieceAt, PieceFrom, Store}
use Rattle.cert_judge.specs.Fate.{Fate, Found as FoundFate, Unknown as UnknownFate, Bad as BadFate}
use Rattle.cert_judge.specs.declared.stream.Kind.{Kind}
use Rattle.judge.proofs.StreamFates.{within_most}
use Rattle.judge.specs.Answers.{Finds, fate_told, state_after}
use Rattle.judge.specs.Fates.{IsFate, IsFateSoFar, IsStreamsRun, Serves}
use Rattle.judge.specs.Finding.{FindingOf}
use Rattle.race_core.specs.declared.end.JobEnd.{JobEnd}
use Rattle.race_core.specs.declared.end.JobEnd.TheVariants.{Memory}
use Rattle.judge.specs.Judging.{Ends, Feeds, FindsRun, IsSameJudge, JudgeOf, Took}
use Rattle.judge.specs.Problem.{AskedOf, IsJobFile}
use Rattle.judge.specs.declared.judging.Progress.{Progress}
use Rattle.judge.specs.declared.judging.Progress.TheVariants.{More, Done, Unknown as UnknownProgress}
use Rattle.cert_judge.specs.declared.stream.BadCert.{BadCert}
use Rattle.sby_terms.specs.declared.names.Answer.TheVariants.{Sat}
use Rattle.sby_terms.specs.declared.names.JobName.{JobName}
use Rattle.judge.specs.declared.judging.State.TheVariants.{Over}
use Rattle.sby_words.specs.Kinds.{IsKindNamed}
use Rattle.sby_top.specs.Judged.{EndsWithRun, Has, IsEndOf, IsFateEnd, IsJudged}
use Rattle.sby_top.specs.Steps.{end_of, IsTrueEnd, PathEnds, PieceEnds, StreamEnds}
use Rattle.sby_top.specs.Served.{most_stream}
use Rattle.sby_top.proofs.ValueLemmas.{run_stays}

-- ---- a judge's answers

-- the law that fates stay
abbrev pub Stay : Type 0
Stay = (p : AskedOf) (job : JobName) (kind : Kind) (file bytes rest : List ℕ) (most : ℕ) (fate : Fate) → IsFateSoFar p job kind file bytes most (Some fate) → IsFate p job kind file (bytes ++ rest) most fate

-- the job of a judge has a file
abbrev pub HasFile : JudgeOf → Type 0
HasFile j = (file : List ℕ) × IsJobFile j.asked j.job file

-- so it has for the same problem and job
pub same_file : (p q : AskedOf) (job other : JobName) → q ≡ p → other ≡ job → (file : List ℕ) × IsJobFile p job file → (file : List ℕ) × IsJobFile q other file
same_file p q job other same too has =
    (has.0, subst (λ (a : AskedOf). IsJobFile a other has.0) (sym same) (subst (λ (k : JobName). IsJobFile p k has.0) (sym too) has.1))

more_only : (r : Result Progress BadCert) → fate_told r ≡ None → r ≡ Ok More
more_only (Ok More) is = refl
more_only (Ok (Done f)) is = cc
more_only (Ok UnknownProgress) is = cc
more_only (Err bad) is = cc

-- a judge that took bytes isn't over
pub not_over : (j : JudgeOf) (bytes : List ℕ) → Took j bytes → j.state ≢ Over
not_over j bytes took = let e = took.state in λ is. cc

-- the judge answered no fate yet, and takes more
pub goes_on : (j new : JudgeOf) (bytes : List ℕ) (r : Result Progress BadCert) → HasFile j → j.most ≡ most_stream → fate_told r ≡ None → Feeds j new bytes r → PieceEnds j new bytes None
goes_on j new bytes r file most none fed = (
  fed.same,
  fed.stands (fed.state ∙ ap state_after (more_only r none)),
  subst (λ n. length bytes ≤ n) most (within_most j.asked j.job j.kind file.0 bytes j.most (subst (IsFateSoFar j.asked j.job j.kind file.0 bytes j.most) none (fed.fate file.0 file.1))),
)

-- the end by the fate that a judge told
end_by_fate : (p : AskedOf) (job : JobName) (kind : Kind) (file stream : List ℕ) (r : Result Progress BadCert) → MatchOption (fate_told r) ⊥ (IsFate p job kind file stream most_stream) → IsFateEnd p job kind file stream (end_of r)
end_by_fate p job kind file stream (Ok More) h = absurd h
end_by_fate p job kind file stream (Ok (Done f)) h = h
end_by_fate p job kind file stream (Ok UnknownProgress) h = h
end_by_fate p job kind file stream (Err bad) h = (bad.kind, refl, h)

-- a fate in the first bytes is the stream's
told_fate : Stay → (p : AskedOf) (job : JobName) (kind : Kind) (file bytes rest : List ℕ) (most : ℕ) (r : Result Progress BadCert) → (fate_told r ≡ None → ⊥) → IsFateSoFar p job kind file bytes most (fate_told r)
    → MatchOption (fate_told r) ⊥ (IsFate p job kind file (bytes ++ rest) most)
told_fate stay p job kind file bytes rest most (Ok More) some h = absurd (some refl)
told_fate stay p job kind file bytes rest most (Ok (Done f)) some h = stay p job kind file bytes rest most (FoundFate f.answer) h
told_fate stay p job kind file bytes rest most (Ok UnknownProgress) some h = stay p job kind file bytes rest most UnknownFate h
told_fate stay p job kind file bytes rest most (Err bad) some h = stay p job kind file bytes rest most (BadFate bad.kind bad.at) h

end_kind : (j : JudgeOf) (r : Result Progress BadCert) → Finds j.asked j.job r → IsTrueEnd (end_of r) → IsEndOf j.asked j.job (end_of r)
end_kind j (Ok More) finds holds = tt
end_kind j (Ok (Done f)) finds holds = record { problem = finds.0; of_job = finds.1; is_true = holds }
end_kind j (Ok UnknownProgress) finds holds = tt
end_kind j (Err bad) finds holds = tt

fed_run : (j : JudgeOf) (bytes rest : List ℕ) (r : Result Progress BadCert) → HasFile j → j.most ≡ most_stream → ((file : List ℕ) → IsJobFile j.asked j.job file → IsFateSoFar j.asked j.job j.kind file bytes j.most (fate_told r))
    → FindsRun j false bytes r → EndsWithRun j.asked j.job j.kind (bytes ++ rest) (end_of r)
fed_run j bytes rest (Ok More) file most fate found = tt
fed_run j bytes rest (Ok (Done f)) file most fate found = λ sat step.
    let h = found sat step in
    let own : IsFateSoFar j.asked j.job j.kind file.0 bytes j.most (Some (FoundFate Sat)) = subst (λ answer. IsFateSoFar j.asked j.job j.kind file.0 bytes j.most (Some (FoundFate answer))) sat (fate file.0 file.1) in
    let run : IsStreamsRun j.asked j.job j.kind false (bytes ++ rest) j.most h.0 = run_stays j.asked j.job j.kind bytes rest file.0 j.most h.0 file.1 own h.2 in
    (false, h.0, h.1, subst (λ m. IsStreamsRun j.asked j.job j.kind false (bytes ++ rest) m h.0) most run)
fed_run j bytes rest (Ok UnknownProgress) file most fate found = tt
fed_run j bytes rest (Err bad) file most fate found = tt

fed_end : Stay → (j new : JudgeOf) (bytes rest : List ℕ) (r : Result Progress BadCert) → HasFile j → j.most ≡ most_stream → (fate_told r ≡ None → ⊥) → IsTrueEnd (end_of r) → Feeds j new bytes r
    → StreamEnds j (bytes ++ rest) (end_of r)
fed_end stay j new bytes rest r file most some holds fed = record {
  of = end_kind j r fed.finds holds;
  fate = λ own is. end_by_fate j.asked j.job j.kind own (bytes ++ rest) r
      (subst (λ m. MatchOption (fate_told r) ⊥ (IsFate j.asked j.job j.kind own (bytes ++ rest) m)) most (told_fate stay j.asked j.job j.kind own bytes rest j.most r some (fed.fate own is)));
  run = fed_run j bytes rest r file most fed.fate fed.run;
}

-- the judge answered a fate
pub fed_ends : Stay → (j new : JudgeOf) (bytes : List ℕ) (r : Result Progress BadCert) (end : JobEnd FindingOf) → HasFile j → j.most ≡ most_stream → (fate_told r ≡ None → ⊥) → end ≡ end_of r → IsTrueEnd end
    → Feeds j new bytes r → PieceEnds j new bytes (Some end)
fed_ends stay j new bytes r end file most some is holds fed =
    rw is (λ rest. fed_end stay j new bytes rest r file most some (subst IsTrueEnd is holds) fed)

ended_run : (j : JudgeOf) (bytes : List ℕ) (r : Result Progress BadCert) → j.most ≡ most_stream → FindsRun j true bytes r → EndsWithRun j.asked j.job j.kind bytes (end_of r)
ended_run j bytes (Ok More) most found = tt
ended_run j bytes (Ok (Done f)) most found = λ sat step. let h = found sat step in
    (true, h.0, h.1, subst (λ m. IsStreamsRun j.asked j.job j.kind true bytes m h.0) most h.2)
ended_run j bytes (Ok UnknownProgress) most found = tt
ended_run j bytes (Err bad) most found = tt

-- the judge answered at the end of the stream
pub stream_ended : (j new : JudgeOf) (bytes : List ℕ) (r : Result Progress BadCert) (end : JobEnd FindingOf) → j.most ≡ most_stream → end ≡ end_of r → IsTrueEnd end → Ends j new bytes r → StreamEnds j bytes end
stream_ended j new bytes r end most is holds ended = rw is (record {
  of = end_kind j r ended.finds (subst IsTrueEnd is holds);
  fate = λ file own. end_by_fate j.asked j.job j.kind file bytes r (subst (λ m. MatchOption (fate_told r) ⊥ (IsFate j.asked j.job j.kind file bytes m)) most (ended.fate file own));
  run = ended_run j bytes r most ended.run;
})

pub never_both : (b : Bool) → b ≡ false → IsTrue b → ⊥
never_both true is holds = cc
never_both false is holds = cc

-- ---- the pieces of a content

-- a piece of at most this many bytes stands in a content after these bytes, and only the last one is shorter
pub record IsPieceBehind (content before piece : List ℕ) (most : ℕ) : Type 0 where
  pub rest : List ℕ
  pub parts : content ≡ before ++ piece ++ rest
  pub last : length piece < most → rest ≡ []

-- of what a path has, where the store tells
abbrev pub IsNext : Option Store → List ℕ → List ℕ → List ℕ → ℕ → Type 0
IsNext None path before piece most = Unit {0}
IsNext (Some store) path before piece most = (content : List ℕ) × (store path ≡ Some content) × IsPieceBehind content before piece most

short_last : (xs : List ℕ) (most : ℕ) → length (take most xs) < most → drop most xs ≡ []
short_last xs most short = elim (cases_lt (length xs) most) [
  | inl less ↦ drop_all most xs (omega (arith, less))
  | inr enough ↦ absurd (let n = length-take-le most xs enough in omega (arith, short, n))
]

behind : (content before rest piece : List ℕ) (most : ℕ) → content ≡ before ++ rest → piece ≡ take most (drop (length before) content) → IsPieceBehind content before piece most
behind content before rest piece most parts is =
    let left : drop (length before) content ≡ rest = ap (drop (length before)) parts ∙ drop-append_seam before rest in
    let own : piece ≡ take most rest = is ∙ ap (take most) left in
    record {
      rest = drop most rest;
      parts = parts ∙ ap (λ r. before ++ r) (sym (take-append-drop most rest)) ∙ sym (append_assoc before (take most rest) (drop most rest)) ∙ ap (λ p. before ++ p ++ drop most rest) (sym own);
      last = λ short. short_last rest most (subst (λ p. length p < most) own short);
    }

piece_at : (o : Option (List ℕ)) (content : List ℕ) (from most : ℕ) (piece : List ℕ) → PieceAt o from most piece → o ≡ Some content → piece ≡ take most (drop from content)
piece_at None content from most piece got is = absurd got
piece_at (Some bytes) content from most piece got is = let e : bytes ≡ content = cc in got ∙ ap (λ b. take most (drop from b)) e

content_of : (o : Option (List ℕ)) (from most : ℕ) (piece : List ℕ) → PieceAt o from most piece → (content : List ℕ) × (o ≡ Some content)
content_of None from most piece got = absurd got
content_of (Some bytes) from most piece got = (bytes, refl)

-- the first piece
pub first_next : (told : Option Store) (path piece : List ℕ) (most : ℕ) → PieceFrom told path 0 most piece → IsNext told path [] piece most
first_next None path piece most got = tt
first_next (Some store) path piece most got =
    let at = content_of (store path) 0 most piece got in
    (at.0, at.1, behind at.0 [] at.0 piece most refl (piece_at (store path) at.0 0 most piece got at.1))

-- the piece after it
pub next_behind : (told : Option Store) (path before piece next : List ℕ) (place most : ℕ) → IsNext told path before piece most → place ≡ length (before ++ piece) → PieceFrom told path place most next
    → IsNext told path (before ++ piece) next most
next_behind None path before piece next place most is at got = tt
next_behind (Some store) path before piece next place most is at got =
    let own : next ≡ take most (drop (length (before ++ piece)) is.0) = subst (λ n. next ≡ take most (drop n is.0)) at (piece_at (store path) is.0 place most next got is.1) in
    (is.0, is.1, behind is.0 (before ++ piece) is.2.rest next most is.2.parts own)

-- ---- what a path's stream is judged as

has_next : (told : Option Store) (path before piece : List ℕ) (most : ℕ) (P : List ℕ → Type 0) → IsNext told path before piece most → ((rest : List ℕ) → (length piece < most → rest ≡ []) → P (before ++ piece ++ rest)) → Has told path P
has_next None path before piece most P is each = (before ++ piece ++ [], each [] (λ short. refl))
has_next (Some store) path before piece most P is each = rw is.1 (subst P (sym is.2.parts) (each is.2.rest is.2.last))

path_ends : (told : Option Store) (path before piece : List ℕ) (most : ℕ) (j : JudgeOf) (end : JobEnd FindingOf) → IsNext told path before piece most
    → ((rest : List ℕ) → (length piece < most → rest ≡ []) → StreamEnds j (before ++ piece ++ rest) end) → PathEnds j told path end
path_ends told path before piece most j end is each = record {
  of = (each [] (λ short. refl)).of;
  fate = λ file own. has_next told path before piece most (λ stream. IsFateEnd j.asked j.job j.kind file stream end) is (λ rest last. (each rest last).fate file own);
  run = has_next told path before piece most (λ stream. EndsWithRun j.asked j.job j.kind stream end) is (λ rest last. (each rest last).run);
}

-- the judge ended with this piece
pub ended_within : (told : Option Store) (path before piece : List ℕ) (most : ℕ) (j new : JudgeOf) (end : JobEnd FindingOf) → IsNext told path before piece most → PieceEnds j new (before ++ piece) (Some end)
    → PathEnds j told path end
ended_within told path before piece most j new end is ends = path_ends told path before piece most j end is (λ rest last. ends rest)

-- the stream ended with it
pub ended_behind : (told : Option Store) (path before piece : List ℕ) (most : ℕ) (j : JudgeOf) (end : JobEnd FindingOf) → IsNext told path before piece most → length piece < most
    → StreamEnds j (before ++ piece) end → PathEnds j told path end
ended_behind told path before piece most j end is short ends =
    path_ends told path before piece most j end is (λ rest last. subst (λ r. StreamEnds j (before ++ piece ++ r) end) (sym (last short)) (subst (λ s. StreamEnds j s end) (sym (append-nil (before ++ piece))) ends))

pub same_still : (j mid new : JudgeOf) → IsSameJudge j mid → IsSameJudge mid new → IsSameJudge j new
same_still j mid new first then = (then.0 ∙ first.0, then.1 ∙ first.1, then.2 ∙ first.2, then.3 ∙ first.3)

-- whichever judge of the job it was
pub same_judge : (told : Option Store) (path : List ℕ) (j mid : JudgeOf) (end : JobEnd FindingOf) → IsSameJudge j mid → PathEnds mid told path end → PathEnds j told path end
same_judge told path j mid end same ends = record {
  of = rw (← same.0, ← same.1) ends.of;
  fate = λ file is.
      let its : IsJobFile mid.asked j.job file = subst (λ (a : AskedOf). IsJobFile a j.job file) (sym same.0) is in
      rw (← same.0, ← same.1, ← same.3) (ends.fate file (subst (λ (k : JobName). IsJobFile mid.asked k file) (sym same.1) its));
  run = rw (← same.0, ← same.1, ← same.3) ends.run;
}

-- memory ran out for the judge of a stream of which a piece was got
pub wanting_at : (p : AskedOf) (told : Option Store) (job : JobName) (path piece : List ℕ) (most : ℕ) (kind : Kind) → IsKindNamed path kind → Serves kind job → PieceFrom told path 0 most piece → IsJudged p told job path Memory
wanting_at p told job path piece most kind named serves got =
    let is = first_next told path piece most got in
    record {
      kind = kind;
      named = named;
      serves = serves;
      of = tt;
      fate = λ file own. has_next told path [] piece most (λ stream. IsFateEnd p job kind file stream Memory) is (λ rest last. tt);
      run = has_next told path [] piece most (λ stream. EndsWithRun p job kind stream Memory) is (λ rest last. tt);
    }

-- the stream was judged
pub path_judged : (p : AskedOf) (told : Option Store) (job : JobName) (path : List ℕ) (kind : Kind) (j : JudgeOf) (end : JobEnd FindingOf) → IsKindNamed path kind → Serves kind job → j.asked ≡ p → j.job ≡ job → j.kind ≡ kind
    → PathEnds j told path end → IsJudged p told job path end
path_judged p told job path kind j end named serves asked is_job is_kind ends =
    rw (← asked, ← is_job) (record { kind = j.kind; named = rw is_kind named; serves = rw (is_kind, is_job) serves; of = ends.of; fate = ends.fate; run = ends.run })
