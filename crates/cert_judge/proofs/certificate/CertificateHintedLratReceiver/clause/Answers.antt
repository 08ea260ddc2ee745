use Rattle.std.proofs.Common.{◌<◌, ◌∙◌, ℕ, List, length, subst, sym}
use Rattle.std.specs.Prelude.{IsSome, slice_index_or}
use Rattle.lrat_check.specs.Checking.{live_of}
use Rattle.cert_judge.proofs.LratHearing.{good_ids}
use Rattle.cert_judge.proofs.certificate.CertificateHintedLratReceiver.clause.Goals as goal

pub add-requires-clause-hints : goal.add-requires-clause-hints
add-requires-clause-hints g c =
    subst (λ (ids : List ℕ). (k d : ℕ) → k < length ids → IsSome (live_of c.self.inside.checker (slice_index_or ids k d))) (sym (c.deref.ensures.value ∙ c.in_ok-fill_ids.ensures))
    (good_ids (live_of c.self.inside.checker) c.args.hints.now (sym c.first_bad.ensures ∙ c.in_default.is))
