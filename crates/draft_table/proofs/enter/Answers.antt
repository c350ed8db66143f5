-- `enter`: a pair that is there is left alone, another is put at its place.
use Rattle.std.proofs.Common.{◌≡◌, sym, inl, inr, arith, length, ltb-true, ltb-false}
use mathlib.Core.List.{Memᴰ}
use Rattle.draft_pairs.specs.Rows.{row_value}
use Rattle.draft_table.specs.Tables.{keys}
use Rattle.draft_table.proofs.Tables.{placed_absent, keys_length, keys_at, entered_present, entered_full, entered_new}
use Rattle.draft_table.proofs.enter.Goals as goal
use Rattle.draft_table.proofs.enter.Goals.{Joined-else-at-count, else-at-count-via-then-at-count+else-not-is_before, else-at-count-via-else-at-count}

-- where the place is past the last pair, or what stands there is above the pair
absent : (c : Joined-else-at-count) → Memᴰ (row_value c.args.row) (keys c.args.count c.args.table.now) → ⊥
absent c =
    let at = c.place-at.result in
    let many : length (keys c.args.count c.args.table.now) ≡ c.args.count = keys_length c.args.count c.args.table.now (omega arith) in
    placed_absent c.requires.rising c.place-at.ensures
    (elim c.else-at-count.branch [
      | else-at-count-via-then-at-count+else-not-is_before w ↦
          inr (omega (arith, keys_at c.args.count c.args.table.now (omega arith) at w.if-at-count.true, ltb-true _ _ (sym w.if-not-is_before.ensures)))
      | else-at-count-via-else-at-count w ↦ inl (omega (arith, many, c.place-at.ensures.within))
    ])

pub returns-then-not-is_before : goal.returns-then-not-is_before
returns-then-not-is_before c =
    entered_present (omega arith) (omega arith) c.requires.rising c.place-at.ensures c.if-at-count.true (ltb-false _ _ (sym c.if-not-is_before.ensures))

pub returns-then-count-eq-MOST : goal.returns-then-count-eq-MOST
returns-then-count-eq-MOST c = entered_full c.if-count-eq-MOST.true (absent (goal.at.returns-then-count-eq-MOST c).Joined-else-at-count)

pub returns : goal.returns
returns c =
    let copied = c.copy_within.ensures in
    entered_new c.copy_within.new.self c.args.row (omega arith) (omega arith) copied.len copied.by_index c.place-at.ensures (absent (goal.at.returns c).Joined-else-at-count)
