-- `journal_words::count`: a flag counts for the token of its index.
use Rattle.std.proofs.Common.{◌≡◌, ◌+◌, refl, ap, ◌∙◌, length, length-take, arith}
use Rattle.journal_words.proofs.Kept.{kept, kept_taken, kept_few, kept_all}
use Rattle.journal_words.proofs.count.Goals as goal

pub loop-x-init : goal.loop-x-init
unfolding kept
loop-x-init c = refl

pub overflow_add-n : goal.overflow_add-n
overflow_add-n c =
    let a = c.args in
    let set = a.set.now in
    let l = c.loop-x in
    let e = kept_taken set a.tokens l.x-index c.loop-x-test.true in
    omega (arith, e, kept_few set (l.x-index + 1), c.from-n.ensures, length-take a.tokens set)

pub loop-x-preserved : goal.loop-x-preserved
loop-x-preserved c =
    let l = c.loop-x in
    omega (arith, kept_taken c.args.set.now c.args.tokens l.x-index c.loop-x-test.true, c.from-n.ensures)

pub returns-clause-value : goal.returns-clause-value
returns-clause-value c =
    let a = c.args in
    let set = a.set.now in
    let all : c.loop-x.x-index ≡ a.tokens = omega (arith, length-take a.tokens set) in
    c.loop-x.invariant ∙ ap (λ t. length (kept set t)) all ∙ ap length (kept_all set a.tokens c.requires.by_index)

pub returns-clause-upper_bound : goal.returns-clause-upper_bound
returns-clause-upper_bound c = omega (arith, kept_few c.args.set.now c.loop-x.x-index, length-take c.args.tokens c.args.set.now)
