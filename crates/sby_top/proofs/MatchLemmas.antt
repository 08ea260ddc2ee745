-- Reports whose ends match Plain's give Plain's status, or some finding came by a look.
use Rattle.std.proofs.Common.{◌≡◌, ◌≢◌, ℕ, zero, suc, ◌<◌, List, [], ◌∷◌, refl, ap, sym, ◌∙◌, subst, inl, inr, ◌⊎◌, length, get_or, arith}
use Rattle.std.specs.Prelude.{Contains, Option, Some, None, slice_get}
use Rattle.std.proofs.lemmas.Bool.{cases_lt}
use Rattle.std.proofs.lemmas.List.{get_or_default}
use Rattle.std.proofs.lemmas.Option.{slice_get-get_or, slice_get_within}
use Rattle.cnf_form.proofs.Members.{Contains-head, Contains-tail}
use Rattle.design_core.specs.Shape.{DesignOf}
use Rattle.judge.specs.Finding.{FindingOf}
use Rattle.judge.specs.Jobs.{jobs_in}
use Rattle.race_core.specs.Asking.{name_at}
use Rattle.race_core.specs.Carrying.{Carries}
use Rattle.race_core.specs.Collect.{AreCollected, IsStatus, SettledIn}
use Rattle.race_core.specs.Consistent.{end_at}
use Rattle.race_core.specs.Report.{ReportOf}
use Rattle.race_core.specs.Told.{Decided, told_by}
use Rattle.race_core.specs.declared.end.JobEnd.{JobEnd}
use Rattle.race_core.specs.declared.end.JobEnd.TheVariants.{Found, Unknown, NotServed, Bad, ReadFailed, StartFailed, HoldFailed, Skipped, CalledOff, Stopped, Memory as MemoryEnd}
use Rattle.sby_terms.specs.Decide.{Decides}
use Rattle.sby_terms.specs.Status.{HasStatus}
use Rattle.sby_terms.specs.declared.names.Answer.{Answer}
use Rattle.sby_terms.specs.declared.names.Event.{Event}
use Rattle.sby_terms.specs.declared.names.Mode.{Mode}
use Rattle.sby_terms.specs.declared.names.Status.{Status}
use Rattle.sby_terms.specs.declared.names.Status.TheVariants.{Memory}
use Rattle.sby_terms.specs.declared.names.Verdict.{Verdict}
use Rattle.sby_terms.specs.declared.names.Verdict.TheVariants.{Fail as FailVerdict}
use Rattle.sby_terms.specs.declared.span.Span.{Span}
use Rattle.sby_lines.specs.Told.{AreReported, answer_of, job_of}
use Rattle.sby_lines.proofs.PlaceLemmas.{at_contains, contains_at}
use Rattle.sby_lines.proofs.ShownLemmas.{one_verdict}
use Rattle.sby_top.specs.Complete.{HasLooked, IsByLook, IsVerdictStatus, PassesOn}
use Rattle.sby_top.proofs.AnswerLemmas.{Keeps, Spares, kept_or_failed, kept_verdict, one_closed, one_open, same_answers, verdict_kept}
use Rattle.sby_top.proofs.ApartLemmas.{AllSay, SaysOf, says_apart}
use Rattle.sby_top.proofs.OpenLemmas.{answered, carried_here, none_spared, spared}
use Rattle.sby_top.proofs.PlainLemmas.{answer_found, end_answer, one_place, status_by}
use Rattle.sby_top.proofs.ReportLemmas.{first_or_later, nothing_in}

-- an end says what Plain's says; or it passes on a finding that spares its job
abbrev pub Matches : Mode → ℕ → JobEnd FindingOf → JobEnd FindingOf → Type 0
Matches mode k own e = ((end_answer own ≡ end_answer e) × (told_by own ≡ told_by e)) ⊎ ((f : FindingOf) × PassesOn e f × Spares mode k f.job f.answer)

-- Plain's ends carry what is found for their jobs; so do the reports' own ends, which match them; findings for one job agree, and are true; and what
-- a report carries it found, or a look showed it. What is found, or carried for its job, is true.
pub record AreMatched (mode : Mode) (span : Span) (d : DesignOf) (reports plain : List (ReportOf FindingOf)) : Type 0 where
  pub lanes : length plain ≡ length reports
  pub ends : (lane : ℕ) (q : ReportOf FindingOf) → slice_get plain lane ≡ Some q → length q.ends ≡ length (jobs_in mode span d)
  pub own : (lane k : ℕ) (q : ReportOf FindingOf) (f : FindingOf) → slice_get plain lane ≡ Some q → k < length (jobs_in mode span d) → Carries (end_at q k) f → (end_at q k ≡ Found f) × (f.job ≡ name_at mode k)
  pub found : (lane k : ℕ) (r : ReportOf FindingOf) (f : FindingOf) → slice_get reports lane ≡ Some r → k < length (jobs_in mode span d) → end_at r k ≡ Found f → f.job ≡ name_at mode k
  pub matches : (lane k : ℕ) (q r : ReportOf FindingOf) → slice_get plain lane ≡ Some q → slice_get reports lane ≡ Some r → k < length (jobs_in mode span d) → Matches mode k (end_at q k) (end_at r k)
  pub agree : (lane k : ℕ) (q : ReportOf FindingOf) (f g : FindingOf) → slice_get plain lane ≡ Some q → k < length (jobs_in mode span d) → end_at q k ≡ Found f → SettledIn job_of reports (name_at mode k) g
      → f.answer ≡ g.answer
  pub plain_says : (lane k : ℕ) (q : ReportOf FindingOf) (f : FindingOf) → slice_get plain lane ≡ Some q → k < length (jobs_in mode span d) → end_at q k ≡ Found f → SaysOf d span (name_at mode k) f.answer
  pub says : (k : ℕ) (g : FindingOf) → k < length (jobs_in mode span d) → SettledIn job_of reports (name_at mode k) g → SaysOf d span (name_at mode k) g.answer
  pub sources : (lane k : ℕ) (r : ReportOf FindingOf) (f : FindingOf) → slice_get reports lane ≡ Some r → k < length (jobs_in mode span d) → Carries (end_at r k) f
      → ((l : ℕ) × (l < length (jobs_in mode span d)) × (end_at r l ≡ Found f)) ⊎ HasLooked r f

-- a report at a place below the count
stands_at : {X : Type 0} (xs : List X) (k : ℕ) → k < length xs → (x : X) × (slice_get xs k ≡ Some x)
stands_at [] k lt = absurd (omega (arith, lt))
stands_at (x ∷ xs) zero lt = (x, refl)
stands_at (x ∷ xs) (suc k) lt = stands_at xs k (omega (arith, lt))

-- ---- whose own find an end is

is_found : (e : JobEnd FindingOf) → ((f : FindingOf) × (e ≡ Found f)) ⊎ ((f : FindingOf) → e ≡ Found f → ⊥)
is_found (Found f) = inl (f, refl)
is_found Unknown = inr (λ f is. cc)
is_found NotServed = inr (λ f is. cc)
is_found (Bad number at) = inr (λ f is. cc)
is_found ReadFailed = inr (λ f is. cc)
is_found StartFailed = inr (λ f is. cc)
is_found HoldFailed = inr (λ f is. cc)
is_found (Skipped g) = inr (λ f is. cc)
is_found (CalledOff g) = inr (λ f is. cc)
is_found (Stopped t) = inr (λ f is. cc)
is_found MemoryEnd = inr (λ f is. cc)

-- some report's end of the job at a place is Found
abbrev IsFoundIn : List (ReportOf FindingOf) → ℕ → Type 0
IsFoundIn reports k = (r : ReportOf FindingOf) × (f : FindingOf) × Contains reports r × (end_at r k ≡ Found f)

some_found : (reports : List (ReportOf FindingOf)) (k : ℕ) → IsFoundIn reports k ⊎ ((r : ReportOf FindingOf) (f : FindingOf) → Contains reports r → end_at r k ≡ Found f → ⊥)
some_found [] k = inr (λ r f among is. nothing_in r among)
some_found (q ∷ reports) k = elim (is_found (end_at q k)) [
  | inl own ↦ inl (q, own.0, Contains-head q reports, own.1)
  | inr other ↦ elim (some_found reports k) [
    | inl later ↦ inl (later.0, later.1, Contains-tail q later.0 reports later.2, later.3)
    | inr none ↦ inr (λ r f among is. elim (first_or_later q r reports among) [
      | inl here ↦ other f (subst (λ (x : ReportOf FindingOf). end_at x k ≡ Found f) (sym here) is)
      | inr later ↦ none r f later is
    ])
  ]
]

module _ (mode : Mode) (span : Span) (d : DesignOf) (reports plain : List (ReportOf FindingOf)) (are : AreReported mode span d reports) (matched : AreMatched mode span d reports plain)
    (answers others : List (Option Answer)) (collected : AreCollected job_of answer_of mode (length (jobs_in mode span d)) reports answers)
    (plainly : AreCollected job_of answer_of mode (length (jobs_in mode span d)) plain others) where
  -- ---- Plain's answers

  record PlainFound (k : ℕ) (a : Answer) : Type 0 where
    lane : ℕ
    report : ReportOf FindingOf
    finding : FindingOf
    at : slice_get plain lane ≡ Some report
    within : k < length (jobs_in mode span d)
    is : end_at report k ≡ Found finding
    answer_is : finding.answer ≡ a

  plain_found : (k : ℕ) (a : Answer) → slice_get others k ≡ Some (Some a) → PlainFound k a
  plain_found k a at =
      let f = plainly.entry k (Some a) at in
      let at_q : slice_get plain f.1.1.0 ≡ Some f.1.0 = contains_at plain f.1.0 f.1.1 in
      let size = matched.ends f.1.1.0 f.1.0 at_q in
      let in_j : f.1.2.1.0 < length (jobs_in mode span d) = omega (arith, size, f.1.2.1.1) in
      let in_k : k < length (jobs_in mode span d) = omega (arith, plainly.size, slice_get_within others k (Some a) at) in
      let end_is : end_at f.1.0 f.1.2.1.0 ≡ f.1.2.0 = get_or_default f.1.0.ends f.1.2.1.0 NotServed f.1.2.0 f.1.2.1.1 ∙ f.1.2.1.2 in
      let own = matched.own f.1.1.0 f.1.2.1.0 f.1.0 f.0 at_q in_j (subst (λ x. Carries x f.0) (sym end_is) f.1.2.2) in
      let same : f.1.2.1.0 ≡ k = one_place mode span d f.1.2.1.0 k in_j in_k (sym own.1 ∙ f.1.3) in
      record { lane = f.1.1.0; report = f.1.0; finding = f.0; at = at_q; within = in_k; is = subst (λ n. end_at f.1.0 n ≡ Found f.0) same own.0; answer_is = f.2 }

  agree_at : (k : ℕ) (a b : Answer) → slice_get others k ≡ Some (Some a) → slice_get answers k ≡ Some (Some b) → a ≡ b
  agree_at k a b at here =
      let x = plain_found k a at in
      let g = collected.entry k (Some b) here in
      sym x.answer_is ∙ matched.agree x.lane k x.report x.finding g.0 x.at x.within x.is g.1 ∙ g.2

  -- what is found in a lane is carried, for its job
  found_settles : (lane k : ℕ) (r : ReportOf FindingOf) (g : FindingOf) → slice_get reports lane ≡ Some r → k < length (jobs_in mode span d) → end_at r k ≡ Found g → SettledIn job_of reports (name_at mode k) g
  found_settles lane k r g at lt is =
      let own = carried_here mode span d reports are r k g (at_contains reports lane r at) lt (subst (λ x. Carries x g) (sym is) refl) in
      (own.0, own.1, own.2, matched.found lane k r g at lt is)

  -- each of Plain's answers is one of these, or they decide FAIL
  each_kept : (k : ℕ) (a : Answer) → slice_get others k ≡ Some (Some a) → (slice_get answers k ≡ Some (Some a)) ⊎ Decides mode answers FailVerdict
  each_kept k a at =
      let x = plain_found k a at in
      let r = stands_at reports x.lane (omega (arith, matched.lanes, slice_get_within plain x.lane x.report x.at)) in
      elim (matched.matches x.lane k x.report r.0 x.at r.1 x.within) [
        | inl same ↦
            let found = answer_found (end_at r.0 k) x.finding.answer (sym same.0 ∙ ap end_answer x.is) in
            let settled = found_settles x.lane k r.0 found.0 r.1 x.within found.1 in
            inl (answered mode span d reports are answers collected k found.0 x.within settled ∙ ap (λ b. Some (Some b)) (found.2 ∙ x.answer_is))
        | inr passed ↦ elim (spared mode span d reports are answers collected k passed.0 x.within passed.2 (carried_here mode span d reports are r.0 k passed.0 (at_contains reports x.lane r.0 r.1) x.within passed.1.0)) [
          | inl here ↦ inl (here ∙ ap (λ b. Some (Some b)) (sym (agree_at k a passed.0.answer at here)))
          | inr fails ↦ inr fails
        ]
      ]

  own_say : AllSay d span mode answers
  own_say k a at =
      let g = collected.entry k (Some a) at in
      subst (SaysOf d span (name_at mode k)) g.2 (matched.says k g.0 (omega (arith, collected.size, slice_get_within answers k (Some a) at)) g.1)

  plain_say : AllSay d span mode others
  plain_say k a at = let x = plain_found k a at in subst (SaysOf d span (name_at mode k)) x.answer_is (matched.plain_says x.lane k x.report x.finding x.at x.within x.is)

  same_size : length others ≡ length answers
  same_size = plainly.size ∙ sym collected.size

  -- a verdict of Plain's is this one
  closed : (v : Verdict) (s t : Status) (plain_is : IsStatus job_of mode plain others s) (is : IsStatus job_of mode reports answers t) → plain_is.decided ≡ Some v → t ≡ s
  closed v s t plain_is is decided =
      let own : Decides mode others v = subst (Decided mode others) decided plain_is.decides in
      let here : Decides mode answers v = verdict_kept mode others answers each_kept v same_size agree_at (says_apart d span mode others answers plain_say own_say) (says_apart d span mode answers answers own_say own_say) own in
      let one : is.decided ≡ Some v = one_verdict mode answers is.decided (Some v) is.decides here in
      one_closed v is.events plain_is.events t s (subst (λ o. HasStatus o is.events t) one is.has_status) (subst (λ o. HasStatus o plain_is.events s) decided plain_is.has_status)

  -- ---- findings by looks

  by_look : (k : ℕ) (a : Answer) → slice_get answers k ≡ Some (Some a) → ((r : ReportOf FindingOf) (f : FindingOf) → Contains reports r → end_at r k ≡ Found f → ⊥) → IsByLook mode reports
  by_look k a at none =
      let g = collected.entry k (Some a) at in
      let at_r : slice_get reports g.1.1.0 ≡ Some g.1.0 = contains_at reports g.1.0 g.1.1 in
      let size : length g.1.0.ends ≡ length (jobs_in mode span d) =
      subst (λ (q : ReportOf FindingOf). length q.ends ≡ length (jobs_in mode span d)) g.1.1.2 (are.ends g.1.1.0 g.1.0 g.1.1.1) in
      let in_j : g.1.2.1.0 < length (jobs_in mode span d) = omega (arith, size, g.1.2.1.1) in
      let in_k : k < length (jobs_in mode span d) = omega (arith, collected.size, slice_get_within answers k (Some a) at) in
      let end_is : end_at g.1.0 g.1.2.1.0 ≡ g.1.2.0 = get_or_default g.1.0.ends g.1.2.1.0 NotServed g.1.2.0 g.1.2.1.1 ∙ g.1.2.1.2 in
      let carries : Carries (end_at g.1.0 g.1.2.1.0) g.0 = subst (λ x. Carries x g.0) (sym end_is) g.1.2.2 in
      let at_job : (l : ℕ) → l < length (jobs_in mode span d) → end_at g.1.0 l ≡ Found g.0 → end_at g.1.0 k ≡ Found g.0 = λ l in_l own.
      let here : l ≡ k = one_place mode span d l k in_l in_k (sym (matched.found g.1.1.0 l g.1.0 g.0 at_r in_l own) ∙ g.1.3) in
      subst (λ n. end_at g.1.0 n ≡ Found g.0) here own in
      record {
        job = k;
        finding = g.0;
        of_job = g.1.3;
        report = g.1.0;
        among = g.1.1;
        place = g.1.2.1.0;
        passes_on = (
          carries,
          λ x is.
              let same : x ≡ g.0 = subst (λ e. Carries e g.0) is carries in
              none g.1.0 g.0 g.1.1 (at_job g.1.2.1.0 in_j (is ∙ ap Found same)),
        );
        looked = elim (matched.sources g.1.1.0 g.1.2.1.0 g.1.0 g.0 at_r in_j carries) [
          | inl found ↦ absurd (none g.1.0 g.0 g.1.1 (at_job found.0 found.1 found.2))
          | inr look ↦ look
        ];
        none_found = none;
      }

  found_here : (k : ℕ) (o : Option (Option Answer)) → slice_get answers k ≡ o → ((a : Answer) → slice_get answers k ≡ Some (Some a) → IsFoundIn reports k) ⊎ IsByLook mode reports
  found_here k None at = inl (λ a is. let no : ◌≡◌ {A = Option (Option Answer)} None (Some (Some a)) = sym at ∙ is in cc)
  found_here k (Some None) at = inl (λ a is. let no : ◌≡◌ {A = Option (Option Answer)} (Some None) (Some (Some a)) = sym at ∙ is in cc)
  found_here k (Some (Some a)) at = elim (some_found reports k) [
    | inl found ↦ inl (λ b is. found)
    | inr none ↦ inr (by_look k a at none)
  ]

  found_below : (n : ℕ) → ((k : ℕ) (a : Answer) → k < n → slice_get answers k ≡ Some (Some a) → IsFoundIn reports k) ⊎ IsByLook mode reports
  found_below zero = inl (λ k a lt is. absurd (omega (arith, lt)))
  found_below (suc n) = elim (found_below n) [
    | inl below ↦ elim (found_here n (slice_get answers n) refl) [
      | inl own ↦ inl (λ k a lt is. elim (cases_lt k n) [
        | inl less ↦ below k a less is
        | inr more ↦ let same : n ≡ k = omega (arith, lt, more) in subst (IsFoundIn reports) same (own a (subst (λ j. slice_get answers j ≡ Some (Some a)) (sym same) is))
      ])
      | inr look ↦ inr look
    ]
    | inr look ↦ inr look
  ]

  -- ---- where no finding came by a look

  -- what is found is in Plain's answers
  answer_back : (k : ℕ) (a : Answer) → IsFoundIn reports k → slice_get answers k ≡ Some (Some a) → slice_get others k ≡ Some (Some a)
  answer_back k a found at =
      let at_r : slice_get reports found.2.0 ≡ Some found.0 = contains_at reports found.0 found.2 in
      let q = stands_at plain found.2.0 (omega (arith, matched.lanes, found.2.1)) in
      let in_k : k < length (jobs_in mode span d) = omega (arith, collected.size, slice_get_within answers k (Some a) at) in
      elim (matched.matches found.2.0 k q.0 found.0 q.1 at_r in_k) [
        | inl same ↦
            let own = answer_found (end_at q.0 k) found.1.answer (same.0 ∙ ap end_answer found.3) in
            let carries : Carries (end_at q.0 k) own.0 = subst (λ x. Carries x own.0) (sym own.1) refl in
            let job = (matched.own found.2.0 k q.0 own.0 q.1 in_k carries).1 in
            let within : k < length q.0.ends = omega (arith, in_k, matched.ends found.2.0 q.0 q.1) in
            let settled : SettledIn job_of plain (name_at mode k) own.0 =
            (q.0, at_contains plain found.2.0 q.0 q.1, (end_at q.0 k, (k, within, get_or_default q.0.ends k (end_at q.0 k) NotServed within), carries), job) in
            let here : slice_get others k ≡ Some (get_or others k None) = slice_get-get_or others k None (omega (arith, in_k, plainly.size)) in
            by_entry (get_or others k None) own.0 settled here
        | inr passed ↦ absurd (passed.1.1 found.1 found.3)
      ]
    where
      by_entry : (o : Option Answer) (f : FindingOf) → SettledIn job_of plain (name_at mode k) f → slice_get others k ≡ Some o → slice_get others k ≡ Some (Some a)
      by_entry None f settled here = absurd (plainly.entry k None here f settled)
      by_entry (Some b) f settled here = here ∙ ap (λ x. Some (Some x)) (agree_at k b a here at)

  module _ (s t : Status) (plain_is : IsStatus job_of mode plain others s) (is : IsStatus job_of mode reports answers t) (undecided : plain_is.decided ≡ None)
      (all_found : (k : ℕ) (a : Answer) → slice_get answers k ≡ Some (Some a) → IsFoundIn reports k) where
    back : Keeps answers others
    back k a at = answer_back k a (all_found k a at) at

    plain_left : (v : Verdict) → Decides mode others v → ⊥
    plain_left = subst (Decided mode others) undecided plain_is.decides

    left : (v : Verdict) → Decides mode answers v → ⊥
    left v decides = plain_left v (kept_verdict mode answers others v (sym same_size) back (says_apart d span mode others others plain_say plain_say) decides)

    same : others ≡ answers
    same = elim (kept_or_failed mode others answers each_kept) [
      | inl keeps ↦ same_answers others answers same_size keeps back
      | inr fails ↦ absurd (left FailVerdict fails)
    ]

    -- ends of a job without an answer tell what Plain's tell
    told_same : (lane k : ℕ) (q r : ReportOf FindingOf) → slice_get plain lane ≡ Some q → slice_get reports lane ≡ Some r → slice_get answers k ≡ Some None → told_by (end_at q k) ≡ told_by (end_at r k)
    told_same lane k q r at_q at_r unsettled =
        let in_k : k < length (jobs_in mode span d) = omega (arith, collected.size, slice_get_within answers k None unsettled) in
        elim (matched.matches lane k q r at_q at_r in_k) [
          | inl both ↦ both.1
          | inr passed ↦ absurd (none_spared mode span d reports are answers collected left r k passed.0 (at_contains reports lane r at_r) in_k unsettled passed.1.0 passed.2)
        ]

    event_in : (e : Event) → Contains plain_is.events e → Contains is.events e
    event_in e among =
        let come = plain_is.come e among in
        let at_q : slice_get plain come.2.0 ≡ Some come.0 = contains_at plain come.0 come.2 in
        let r = stands_at reports come.2.0 (omega (arith, matched.lanes, come.2.1)) in
        let unsettled : slice_get answers come.1 ≡ Some None = subst (λ xs. slice_get xs come.1 ≡ Some None) same come.3 in
        subst (Contains is.events) (sym (told_same come.2.0 come.1 come.0 r.0 at_q r.1 unsettled) ∙ come.4) (is.all r.0 come.1 (at_contains reports come.2.0 r.0 r.1) unsettled)

    event_out : (e : Event) → Contains is.events e → Contains plain_is.events e
    event_out e among =
        let come = is.come e among in
        let at_r : slice_get reports come.2.0 ≡ Some come.0 = contains_at reports come.0 come.2 in
        let q = stands_at plain come.2.0 (omega (arith, matched.lanes, come.2.1)) in
        let unsettled : slice_get others come.1 ≡ Some None = subst (λ xs. slice_get xs come.1 ≡ Some None) (sym same) come.3 in
        subst (Contains plain_is.events) (told_same come.2.0 come.1 q.0 come.0 q.1 at_r come.3 ∙ come.4) (plain_is.all q.0 come.1 (at_contains plain come.2.0 q.0 q.1) unsettled)

    opened : t ≢ Memory → t ≡ s
    opened apart =
        let none : is.decided ≡ None = one_verdict mode answers is.decided None is.decides left in
        let own : HasStatus None is.events t = subst (λ o. HasStatus o is.events t) none is.has_status in
        let plains : HasStatus None plain_is.events s = subst (λ o. HasStatus o plain_is.events s) undecided plain_is.has_status in
        one_open plain_is.events t s (status_by is.events plain_is.events t apart (λ e loud among. event_in e among) (λ e loud among. event_out e among) own) plains

  by_decided : (o : Option Verdict) (s t : Status) (plain_is : IsStatus job_of mode plain others s) (is : IsStatus job_of mode reports answers t) → plain_is.decided ≡ o → t ≢ Memory → (t ≡ s) ⊎ IsByLook mode reports
  by_decided (Some v) s t plain_is is decided apart = inl (closed v s t plain_is is decided)
  by_decided None s t plain_is is undecided apart = elim (found_below (length answers)) [
    | inl all ↦ inl (opened s t plain_is is undecided (λ k a at. all k a (slice_get_within answers k (Some a) at) at) apart)
    | inr look ↦ inr look
  ]

  pub plain_or_look : (s t : Status) → IsStatus job_of mode plain others s → IsStatus job_of mode reports answers t → t ≢ Memory → (t ≡ s) ⊎ IsByLook mode reports
  plain_or_look s t plain_is is apart = by_decided plain_is.decided s t plain_is is refl apart

  verdict_by : (o : Option Verdict) (s t : Status) (plain_is : IsStatus job_of mode plain others s) (is : IsStatus job_of mode reports answers t) → plain_is.decided ≡ o → IsVerdictStatus s → t ≡ s
  verdict_by (Some v) s t plain_is is decided closing = closed v s t plain_is is decided
  verdict_by None s t plain_is is undecided (inl pass) =
      absurd (subst (λ x. HasStatus None plain_is.events x) pass (subst (λ o. HasStatus o plain_is.events s) undecided plain_is.has_status))
  verdict_by None s t plain_is is undecided (inr fail) =
      absurd (subst (λ x. HasStatus None plain_is.events x) fail (subst (λ o. HasStatus o plain_is.events s) undecided plain_is.has_status))

  pub plain_verdict : (s t : Status) → IsStatus job_of mode plain others s → IsStatus job_of mode reports answers t → IsVerdictStatus s → t ≡ s
  plain_verdict s t plain_is is closing = verdict_by plain_is.decided s t plain_is is refl closing
