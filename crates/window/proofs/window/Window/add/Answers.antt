use Rattle.std.proofs.Common.{refl, arith}
use Rattle.window.specs.Windows.{cells, added}
use Rattle.window.proofs.Cells.{whole}
use Rattle.window.proofs.Rings.{packets_none, add_free, add_full}
use Rattle.window.proofs.window.Window.add.Goals as goal

pub returns-then-cells-eq0-clause-keeps : goal.returns-then-cells-eq0-clause-keeps
unfolding cells added
returns-then-cells-eq0-clause-keeps c =
    let w = c.args.self.now in
    let none = w.count_in in
    rw c.if-cells-eq0.true (packets_none w.area.now w.first w.count (omega arith))

pub returns-then-self-cells-clause-keeps : goal.returns-then-self-cells-clause-keeps
unfolding cells
returns-then-self-cells-clause-keeps c =
    let w = c.args.self.now in
    add_free _ _ _ _ _ _ _ _ refl (omega arith) w.count_in refl (omega arith) (whole _ c.requires) c.copy_from_slice.ensures.after c.if-self-cells.true

pub returns-else-self-cells-clause-keeps : goal.returns-else-self-cells-clause-keeps
unfolding cells
returns-else-self-cells-clause-keeps c =
    let w = c.args.self.now in
    add_full _ _ _ _ _ _ _ _ refl (omega arith) w.count_in refl (omega arith) (whole _ c.requires) c.copy_from_slice.ensures.after _ c.if-self-cells.false refl
