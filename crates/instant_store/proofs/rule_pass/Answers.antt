-- The pass is done up to word k.
use Rattle.std.proofs.Common.{sym, ap, ◌∙◌, ◌+◌, true, arith, rules}
use mathlib.Core.Path.{subst⁻¹}
use lib.ListN.{set}
use Rattle.words.specs.Word.{field}
use Rattle.words.proofs.Field.{field_below}
use Rattle.format.proofs.Decode.{sizes_few}
use Rattle.flags.proofs.Flags.{set_length_le}
use Rattle.instant_store.specs.Passes.{adds}
use Rattle.instant_store.proofs.Passes.{Passing, passing_none, passing_skipped, passing_added, passing_all}
use Rattle.instant_store.proofs.rule_pass.Goals as goal
use Rattle.instant_store.proofs.rule_pass.Goals.{then-adds_token, else-adds_token}

pub overflow_add-from : goal.overflow_add-from
overflow_add-from c = omega (arith, sizes_few c.args.prepared.now.bytes.now, c.agents.ensures)

pub overflow_add-from-2 : goal.overflow_add-from-2
overflow_add-from-2 c = omega (arith, sizes_few c.args.prepared.now.bytes.now, c.agents.ensures, c.procedures.ensures)

pub loop-k-init : goal.loop-k-init
loop-k-init c =
    passing_none c.args.prepared.now.bytes.now (2 + c.agents.result + c.procedures.result) c.args.facts c.args.store.now
    (omega (arith, c.agents.ensures, c.procedures.ensures)) (search rules) c.requires

pub bounds-store-token : goal.bounds-store-token
bounds-store-token c = omega (arith, field_below c.word_at-w.result 0 8, c.number-token.ensures, c.loop-k.invariant.long)

pub overflow_add-added : goal.overflow_add-added
overflow_add-added c =
    let l = c.loop-k in
    omega (arith, l.invariant.counted, l.invariant.long, set_length_le l.store)

pub loop-k-preserved : goal.loop-k-preserved
loop-k-preserved c =
    let s = c.args.prepared.now.bytes.now in
    let l = c.loop-k in
    let facts = c.args.facts in
    let before = c.args.store.now in
    let word = c.word_at-w.ensures in
    let answer = c.adds_token.ensures ∙ ap (λ x. adds l.store x facts) word in
    elim c.if-adds_token.branch [
      | then-adds_token w ↦
          rw (w.store-is, w.added-is)
          (subst⁻¹ (λ t. Passing s (l.k + 1) facts before (set l.store t true) (l.added + 1))
          (w.number-token.ensures ∙ ap (λ x. field x 0 8) word)
          (passing_added s l.k facts before l.store l.added l.invariant (omega arith) (sym answer ∙ w.if-adds_token.true)))
      | else-adds_token w ↦
          rw (w.store-is, w.added-is)
          (passing_skipped s l.k facts before l.store l.added l.invariant (omega arith) (omega arith) (sym answer ∙ w.if-adds_token.false))
    ]

pub returns : goal.returns
returns c =
    let l = c.loop-k in
    passing_all c.args.prepared.now.bytes.now l.k c.args.facts c.args.store.now l.store l.added l.invariant (omega arith)
