use Rattle.std.proofs.Common.{◌∙◌}
use Rattle.sessionfile.proofs.Faults.{faultless}
use Rattle.sessionfile.proofs.Opening.{given_entries}
use Rattle.sessionfile.proofs.file.SessionFile.entries.Goals as goal

pub returns : goal.returns
returns c = let f = c.args.self in c.new.ensures ∙ given_entries f.bytes.now f.header f.read (faultless f.bytes.now f.sound)
