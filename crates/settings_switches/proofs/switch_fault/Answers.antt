-- `switch_fault`: too many, or what is found of each switch and of those after it.
use Rattle.std.proofs.Common.{arith, ◌≡◌, sym, ◌∙◌, ◌+◌, ◌||◌, drop, get_or, leb}
use Rattle.laws.specs.Sets.{has}
use Rattle.settings_switches.proofs.Listed.{flawed_more, flawed_all, fault_many, fault_few, contained}
use borrow.Author.Tests.{le-leb, lt-leb}
use Rattle.settings_switches.proofs.switch_fault.Goals as goal
use Rattle.settings_switches.proofs.switch_fault.Goals.{then-tokens-from, else-tokens-from}

pub returns-then-switches-gt-MOST : goal.returns-then-switches-gt-MOST
returns-then-switches-gt-MOST c = fault_many _ c.args.switches.now c.if-switches-gt-MOST.true

pub loop-i-preserved : goal.loop-i-preserved
loop-i-preserved c =
    let s = c.args.switches.now in
    let i = c.loop-i.i in
    let here : c.if-tokens-from.found ≡ (leb c.args.tokens (get_or s i 0) || has (get_or s i 0) (drop (i + 1) s)) =
    elim c.if-tokens-from.branch [
      | then-tokens-from w ↦ rw (le-leb c.args.tokens (get_or s i 0) (omega arith)) (w.found-is ∙ le-leb c.args.tokens c.from.result w.if-tokens-from.true)
      | else-tokens-from w ↦ rw (lt-leb c.args.tokens (get_or s i 0) (omega arith)) (w.found-is ∙ w.contains.ensures.value ∙ contained (get_or s i 0) s (i + 1))
    ] in
    rw here (flawed_more c.args.tokens s c.loop-i.found i c.loop-i.invariant (omega arith))

pub returns : goal.returns
returns c =
    flawed_all c.args.tokens c.args.switches.now c.loop-i.found c.loop-i.i c.loop-i.invariant (omega arith)
    ∙ sym (fault_few c.args.tokens c.args.switches.now c.if-switches-gt-MOST.false)
