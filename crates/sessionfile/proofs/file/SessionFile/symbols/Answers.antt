use Rattle.std.proofs.Common.{◌∙◌}
use Rattle.sessionfile.proofs.Faults.{faultless}
use Rattle.sessionfile.proofs.Opening.{given_symbols_lem}
use Rattle.sessionfile.proofs.file.SessionFile.symbols.Goals as goal

pub returns : goal.returns
returns c = let f = c.args.self in c.symbols_inside.ensures ∙ given_symbols_lem f.bytes.now f.header f.read (faultless f.bytes.now f.sound)
