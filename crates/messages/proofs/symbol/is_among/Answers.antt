use Rattle.messages.proofs.Lists.{among_fours}
use Rattle.messages.proofs.symbol.is_among.Goals as goal

pub returns : goal.returns
returns c = among_fours _ _ _ _ _ _ _ _ c.number_of-number.ensures c.as_chunks.ensures.front c.as_chunks.ensures.back c.has_any_of.ensures c.has_any.ensures
