use Rattle.net_unroll.proofs.Sharing.{folded_law, shared_law}
use Rattle.net_unroll.proofs.laws.encodings_are_shared_and_folded.Goals as goal

pub returns-clause-shared : goal.returns-clause-shared
returns-clause-shared c = λ n a k net few. shared_law n a k net few

pub returns-clause-folded : goal.returns-clause-folded
returns-clause-folded c = λ n a k net few. folded_law n a k net few
