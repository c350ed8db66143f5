use Rattle.std.proofs.Common.{ap, ◌∙◌, ◌+◌, ◌-◌, ◌++◌, false, get_or, take, drop, replicate, arith, rules}
use Rattle.instant_state.proofs.Window.{windowed}
use Rattle.instant_state.proofs.to_ports.Goals as goal

pub returns-clause-by_index : goal.returns-clause-by_index
returns-clause-by_index c =
    let low = c.args.lowest in
    let width = c.args.highest + 1 - low in
    let blank = replicate 256 false in
    λ i. ap (λ w. get_or (take low blank ++ (w ++ drop width (drop low blank))) i false) c.copy_from_slice.ensures.after
    ∙ windowed 256 low width c.args.store (omega arith) (search rules) c.args.highest (omega arith) i
