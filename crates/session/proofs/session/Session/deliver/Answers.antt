use Rattle.std.proofs.Common.{arith}
use Rattle.std.proofs.lemmas.Grind.{common_steps}
use Rattle.runs.proofs.Accepts.{deliver_law}
use Rattle.session.proofs.session.Session.deliver.Goals as goal

pub returns-in_err-checked-clause-law : goal.returns-in_err-checked-clause-law
returns-in_err-checked-clause-law g c = deliver_law _ _ _ _ _ (grind (arith, common_steps)) (grind (arith, common_steps))

pub returns-after-header-eq1-clause-law : goal.returns-after-header-eq1-clause-law
returns-after-header-eq1-clause-law g c = deliver_law _ _ _ _ _ (grind (arith, common_steps)) (grind (arith, common_steps))

pub returns-in-Heartbeat-clause-law : goal.returns-in-Heartbeat-clause-law
returns-in-Heartbeat-clause-law g c = deliver_law _ _ _ _ _ (grind (arith, common_steps)) (grind (arith, common_steps))
