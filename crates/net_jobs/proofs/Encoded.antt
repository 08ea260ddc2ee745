-- What is promised of a job's encoding.
use Rattle.std.proofs.Common.{◌≡◌, ◌+◌, ◌<◌, ◌≤◌, ◌++◌, sym, subst, arith}
use Rattle.cnf_form.specs.declared.literal.TheConstants.{MAX_VARS}
use Rattle.sby_terms.specs.declared.names.JobName.{JobName}
use Rattle.sby_terms.specs.declared.names.JobName.TheVariants.{Inv}
use Rattle.sby_terms.specs.declared.span.Span.{Span}
use Rattle.model_core.specs.Choices.{ChoicesOf}
use Rattle.model_core.specs.Served.{IsModel}
use Rattle.model_core.specs.Shape.{ModelOf}
use Rattle.bit_net.specs.Net.{IsNet, NetOf}
use Rattle.model_core.proofs.Lists.{contained_at, place_of_contained}
use Rattle.frame_gates.proofs.Lists.{map_at}
use Rattle.frame_net.specs.NetOf.{IsNetOf}
use Rattle.job_terms.specs.Encoding as job
use Rattle.net_unroll.specs.declared.encoded.Free.{Free}
use Rattle.net_unroll.proofs.Tightening.{propagates_law, vars_law}
use Rattle.net_jobs.specs.Jobs.{asked_of, cycles_of, job_encoding, job_made}
use Rattle.net_jobs.specs.Reading.{IsEncoded, encoded_of}
use Rattle.net_jobs.proofs.Origins.{has_origins}
use Rattle.net_jobs.proofs.Reading.{fit_choices, same_choices}
use Rattle.net_jobs.proofs.Telling.{decoded_law, nothing_law, solvable_law}

pub encoded : (m : ModelOf) (n : NetOf) (name : JobName) (span : Span) → IsModel m → IsNet n → IsNetOf m n → job_made n name span ≤ MAX_VARS → (name ≡ Inv → ⊥) → IsEncoded m name span (encoded_of n name span)
encoded m n name span is served of few made =
    let vars = vars_law n (asked_of name) (cycles_of name span) served few in
    record {
      speaks = solvable_law m n is served of name span few made;
      vars = (vars.0, omega arith);
      propagates = record {
        rule = λ more fixed. (propagates_law n (asked_of name) (cycles_of name span) served few).rule more (λ f d.
            (let i = place_of_contained (job_encoding n name span).free f d in
            fixed f.var (contained_at (encoded_of n name span).free_vars f.var i.0 (map_at (λ (g : Free). g.var) (job_encoding n name span).free i.0 f i.1))));
      };
      origins = has_origins m n is served of name span few;
      empty = λ none. nothing_law m n name span of none;
      choices = λ other x. fit_choices m n is of name span x;
      decodes = λ other x s. subst (λ (c : ChoicesOf). job.IsDecoded m name span c) (sym (same_choices m n of name span x s)) (decoded_law m n is served of name span few other x s);
    }
