-- `enter_asked`: each pair is one of the draft's, and its agent is as written.
use Rattle.std.proofs.Common.{◌≡◌, ◌<◌, sym, ap, subst, ◌∙◌, get_or, take, [], arith, length-take}
use mathlib.Core.List.{Memᴰ}
use Rattle.draft_language.specs.Draft.{draft_agent_at}
use Rattle.draft_pairs.specs.Pairs.{number_in}
use Rattle.draft_pairs.specs.Rows.{row_value}
use Rattle.draft_table.specs.Tables.{Entered}
use Rattle.draft_plain.specs.Places.{places, agent_places}
use Rattle.draft_plain.specs.Plain.{asked_sets}
use Rattle.draft_format.specs.DraftFile.{decode_draft}
use Rattle.draft_gathering.proofs.Keys.{row_member, keys_all}
use Rattle.draft_gathering.proofs.Entering.{entering_first, entering_more, entering_same, entering_rising, place_read, names_few, asked_few}
use Rattle.draft_gathering.proofs.asked.enter_asked.Goals as goal
use Rattle.draft_gathering.proofs.asked.enter_asked.Goals.{In-loop-row, After-draft_agent_at-agent, then-token_count-gt1, else-token_count-gt1}

here : (c : In-loop-row) → Memᴰ (row_value (get_or (take c.args.agents c.args.table.now) c.loop-row.row-index [])) (agent_places (places (decode_draft c.args.draft.now)))
here c =
    let rows = take c.args.agents c.args.table.now in
    subst (Memᴰ (row_value (get_or rows c.loop-row.row-index []))) c.requires.table_value (row_member rows c.loop-row.row-index c.loop-row-test.true)

written_is : (c : After-draft_agent_at-agent) →
    draft_agent_at (decode_draft c.args.draft.now) (number_in (row_value (get_or (take c.args.agents c.args.table.now) c.loop-row.row-index []))) ≡ c.draft_agent_at-agent.result
written_is c = sym (c.draft_agent_at-agent.ensures ∙ ap (draft_agent_at (decode_draft c.args.draft.now)) c.number_of.ensures)

pub loop-row-init : goal.loop-row-init
loop-row-init c = entering_first _ _ _ c.requires.sets_len

pub draft_agent_at-agent-requires : goal.draft_agent_at-agent-requires
draft_agent_at-agent-requires c = let (whole, known) = place_read c.requires.translatable (here (goal.at.draft_agent_at-agent-requires c).In-loop-row) c.number_of.ensures in
    record { i_in_bounds = whole; i_bound = known }

pub asked_by-asked-requires : goal.asked_by-asked-requires
asked_by-asked-requires c = let at = goal.at.asked_by-asked-requires c in names_few c.requires.translatable (here at.In-loop-row) (written_is at.After-draft_agent_at-agent)

pub token_count-requires : goal.token_count-requires
token_count-requires c =
    let at = goal.at.token_count-requires c in
    let (few, below) = asked_few c.requires.translatable (here at.In-loop-row) (written_is at.After-draft_agent_at-agent) c.requires.tokens_value c.asked_by-asked.ensures in
    record { tokens_bound = few; by_index = below }

pub enter-requires-clause-rising : goal.enter-requires-clause-rising
enter-requires-clause-rising c = entering_rising c.loop-row.invariant

pub loop-row-preserved : goal.loop-row-preserved
loop-row-preserved c =
    let written = written_is (goal.at.loop-row-preserved c).After-draft_agent_at-agent in
    elim c.if-token_count-gt1.branch [
      | then-token_count-gt1 w ↦
          let entered = subst (Entered (row_value c.asked_by-asked.result) c.loop-row.count c.loop-row.sets w.enter.new.table) w.unwrap-count.ensures w.enter.ensures in
          let few : c.loop-row.row-index < 1024 = omega (arith, length-take c.args.agents c.args.table.now) in
          rw (w.count-is, w.sets-is) (entering_more c.loop-row.invariant c.loop-row-test.true written c.asked_by-asked.ensures few (omega arith) entered)
      | else-token_count-gt1 w ↦
          rw (w.count-is, w.sets-is) (entering_same c.loop-row.invariant c.loop-row-test.true written c.asked_by-asked.ensures (omega arith))
    ]

pub returns : goal.returns
returns c =
    let rows = take c.args.agents c.args.table.now in
    let g = c.loop-row.invariant in
    record {
      sets_after = g.same ∙ ap (asked_sets (decode_draft c.args.draft.now)) (keys_all c.loop-row.row-index rows c.loop-row-test.false ∙ c.requires.table_value);
      upper_bound = omega (arith, g.few, length-take c.args.agents c.args.table.now);
      sets_len_2 = g.long;
    }
