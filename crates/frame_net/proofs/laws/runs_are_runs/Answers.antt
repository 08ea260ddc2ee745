use Rattle.frame_net.proofs.Running.{near, near_back, run, run_back, window, window_back}
use Rattle.frame_net.proofs.laws.runs_are_runs.Goals as goal

pub returns-clause-window : goal.returns-clause-window
returns-clause-window c = λ m n is net of count cs w. (let (p, a) = window m n is net of count cs w in ((λ t. (near m n is net of (cs t)).0), p, a))

pub returns-clause-run : goal.returns-clause-run
returns-clause-run c = λ m n is net of count cs w. (let (p, a) = run m n is net of count cs w in ((λ t. (near m n is net of (cs t)).0), p, a))

pub returns-clause-window_back : goal.returns-clause-window_back
returns-clause-window_back c = λ m n is net of count xs some w. (let (p, a) = window_back m n is net of count xs some w in ((λ t. (near_back m n is net of (xs t)).0), p, a))

pub returns-clause-run_back : goal.returns-clause-run_back
returns-clause-run_back c = λ m n is net of count xs some w. (let (p, a) = run_back m n is net of count xs some w in ((λ t. (near_back m n is net of (xs t)).0), p, a))
