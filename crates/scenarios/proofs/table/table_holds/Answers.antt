use Rattle.kinds.proofs.Rules.{depth_rules}
use Rattle.scenarios.proofs.Rows.{all_hold}
use Rattle.scenarios.proofs.table.table_holds.Goals as goal

pub returns : goal.returns
returns c = all_hold _ depth_rules
