use Rattle.design_lower.proofs.Alike.{IsWired-design}
use Rattle.design_lower.proofs.Claiming.{break-from, break-to, reach-from, reach-to, shows-from, shows-to, unreached-from, unreached-to}
use Rattle.design_lower.proofs.laws.lowering_keeps_claims.Goals as goal

pub returns-clause-spans : goal.returns-clause-spans
returns-clause-spans c = λ d e shape low k n.
    let wired = IsWired-design d shape in
    (break-to low.count d e wired low.steps k n, break-from low.count d e wired low.steps k n)

pub returns-clause-never : goal.returns-clause-never
returns-clause-never c = λ d e shape low.
    let wired = IsWired-design d shape in
    (λ h n. break-to low.count d e wired low.steps 0 n (h n), λ h n. break-from low.count d e wired low.steps 0 n (h n))

pub returns-clause-unreached : goal.returns-clause-unreached
returns-clause-unreached c = λ d e shape low n k.
    let wired = IsWired-design d shape in
    (unreached-to low.count d e wired low.steps n k, unreached-from low.count d e wired low.steps n k)

pub returns-clause-reached : goal.returns-clause-reached
returns-clause-reached c = λ d e shape low n k.
    let wired = IsWired-design d shape in
    (λ r. reach-to low.count d e wired low.steps n k r.0 r.1, λ r. reach-from low.count d e wired low.steps n k r.0 r.1)

pub returns-clause-shown : goal.returns-clause-shown
returns-clause-shown c = λ d e shape low n a.
    let wired = IsWired-design d shape in
    (λ s. shows-to low.count d e wired low.steps n s.0 a s.1, λ s. shows-from low.count d e wired low.steps n s.0 a s.1)
