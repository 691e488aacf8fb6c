use Rattle.std.proofs.Common.{arith}
use Rattle.messages.proofs.Symbols.{symbol_law}
use Rattle.messages.proofs.symbol.is_well_formed.Goals as goal

pub returns : goal.returns
returns c = record { test = c.is_symbol.ensures; law = symbol_law c.args.symbol.now _ c.is_symbol.ensures (omega arith) }
