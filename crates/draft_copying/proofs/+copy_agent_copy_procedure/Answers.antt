-- `copy_agent` and `copy_procedure`: what is known of a call's arguments and results stands in lemmas at the earliest place.
--     agent_known, agent_reading              it is an agent's, and what the agent refers to is known
--     agent_ready, agent_falls                the table is ready for a call, and the measure falls
--     procedure_root                          what a procedure leads to
use Rattle.std.proofs.Common.{◌≡◌, ℕ, ◌<◌, ◌≤◌, ◌-◌, List, [], ◌∷◌, refl, ap, ◌∙◌, arith}
use mathlib.Core.Path.{subst⁻¹}
use mathlib.Core.List.{Memᴰ}
use Rattle.draft_language.specs.Draft.{draft_agent_at}
use Rattle.format.specs.Decode.{sizes}
use Rattle.draft_pairs.specs.Pairs.{set_in}
use Rattle.draft_pairs.proofs.TokenSets.{set_bound}
use Rattle.draft_pairs.specs.Rows.{row_value}
use Rattle.draft_plain.specs.Places.{target, leads_to}
use Rattle.draft_plain.proofs.Places.{KnownAgent}
use Rattle.draft_format.specs.DraftFile.{decode_draft}
use Rattle.draft_format.specs.Translatable.{Translatable}
use Rattle.draft_copying.specs.Referring.{references_of}
use Rattle.draft_copying.proofs.Translatable.{agents_many, roots_many, root_below}
use Rattle.draft_copying.proofs.Leading.{target_agent}
use Rattle.draft_copying.proofs.Copies.{Ready, ready_asked, all_none, all_one, all_then, copied_ready, entering_given, entered_ready, entered_higher, entered_led, entered_over, copied_there, copied_all}
use Rattle.draft_copying.proofs.Reading.{procedure_leads, Reading, reading_below, reading_led, reading_copied}
use Rattle.draft_copying.proofs.+copy_agent_copy_procedure.Goals as goal
use Rattle.draft_copying.proofs.+copy_agent_copy_procedure.Goals.{copy_agent-After-references_of, copy_procedure-After-root_of-root}

agent_known : {s : List ℕ} {reference row : ℕ} → Translatable s → reference < (sizes s).agents → (under : ℕ) → row ≡ target (decode_draft s) reference (set_in under) → KnownAgent (decode_draft s) row
agent_known {s} {reference} ok known under is = subst⁻¹ (KnownAgent (decode_draft s)) is (target_agent ok reference (set_in under) known (set_bound under))

agent_reading : (t : ℕ) (c : copy_agent-After-references_of t) →
    Reading c.args.draft.now (target (decode_draft c.args.draft.now) c.args.reference (set_in (row_value c.args.under))) (row_value c.target-row.result) c.args.count c.args.table.now c.in_ok-entered.entered c.enter.new.table c.references_of.result
agent_reading t c =
    record {
      ok = c.requires.translatable;
      entering = entering_given (c.requires.table_len, (c.requires.count_le_most_pairs, (c.requires.rising, c.requires.by_index))) c.requires.led c.target-row.ensures c.in_ok-entered.ensures;
      agent = agent_known c.requires.translatable c.requires.reference_bound (row_value c.args.under) c.target-row.ensures;
      is = c.references_of.ensures ∙ ap references_of (c.draft_agent_at.ensures ∙ ap (draft_agent_at (decode_draft c.args.draft.now)) c.number_of.ensures);
    }

agent_ready : (t : ℕ) (c : copy_agent-After-references_of t) → Ready (decode_draft c.args.draft.now) c.in_ok-entered.entered c.enter.new.table
agent_ready t c = entered_ready (agent_reading t c).entering

agent_falls : (t : ℕ) (c : copy_agent-After-references_of t) {n : ℕ} {table : List (List ℕ)} → c.in_ok-entered.entered ≤ n → Ready (decode_draft c.args.draft.now) n table → 1089 - n < t
agent_falls t c more ready = omega (arith, c.decreases, entered_higher (agent_reading t c).entering c.if-entered-count.false, ready.few)

pub copy_agent-returns-in_err-entered : goal.copy_agent-returns-in_err-entered
copy_agent-returns-in_err-entered t c =
    rw c.from_residual.ensures
    (entered_over (entering_given (c.requires.table_len, (c.requires.count_le_most_pairs, (c.requires.rising, c.requires.by_index))) c.requires.led c.target-row.ensures c.in_err-entered.ensures))

pub copy_agent-returns-then-entered-count : goal.copy_agent-returns-then-entered-count
copy_agent-returns-then-entered-count t c =
    copied_there
    (entering_given (c.requires.table_len, (c.requires.count_le_most_pairs, (c.requires.rising, c.requires.by_index))) c.requires.led c.target-row.ensures c.in_ok-entered.ensures)
    c.if-entered-count.true

pub copy_agent-draft_agent_at-requires-clause-i_in_bounds : goal.copy_agent-draft_agent_at-requires-clause-i_in_bounds
copy_agent-draft_agent_at-requires-clause-i_in_bounds t c =
    let known = (agent_known c.requires.translatable c.requires.reference_bound (row_value c.args.under) c.target-row.ensures).known in
    omega (arith, c.number_of.ensures, known, agents_many c.requires.translatable, c.requires.translatable.whole)

pub copy_agent-draft_agent_at-requires-clause-i_bound : goal.copy_agent-draft_agent_at-requires-clause-i_bound
copy_agent-draft_agent_at-requires-clause-i_bound t c =
    let known = (agent_known c.requires.translatable c.requires.reference_bound (row_value c.args.under) c.target-row.ensures).known in
    omega (arith, c.number_of.ensures, known, agents_many c.requires.translatable)

pub copy_agent-copy_agent-requires : goal.copy_agent-copy_agent-requires
copy_agent-copy_agent-requires t c =
    let a = (goal.at.copy_agent-copy_agent-requires t c).After-references_of in
    let g = agent_reading t a in (
      agent_falls t a (omega arith) (agent_ready t a),
      (c.requires.translatable, (c.requires.agents_value, (reading_below g c.in-Body.is, (reading_led g c.in-Body.is _ (Memᴰ.head refl), ready_asked (agent_ready t a))))),
    )

pub copy_agent-copy_agent-requires-in-Halves : goal.copy_agent-copy_agent-requires-in-Halves
copy_agent-copy_agent-requires-in-Halves t c =
    let a = (goal.at.copy_agent-copy_agent-requires-in-Halves t c).After-references_of in
    let g = agent_reading t a in (
      agent_falls t a (omega arith) (agent_ready t a),
      (c.requires.translatable, (c.requires.agents_value, ((reading_below g c.in-Halves.is).0, (reading_led g c.in-Halves.is _ (Memᴰ.head refl), ready_asked (agent_ready t a))))),
    )

pub copy_agent-copy_agent-requires-in-Halves-2 : goal.copy_agent-copy_agent-requires-in-Halves-2
copy_agent-copy_agent-requires-in-Halves-2 t c =
    let a = (goal.at.copy_agent-copy_agent-requires-in-Halves-2 t c).After-references_of in
    let g = agent_reading t a in
    let half = c.in_ok-half-in-Halves.ensures in
    let ready = copied_ready (agent_ready t a) half in (
      agent_falls t a half.room.0 ready,
      (c.requires.translatable, (c.requires.agents_value, ((reading_below g c.in-Halves.is).1, (reading_led g c.in-Halves.is _ (Memᴰ.tail (Memᴰ.head refl)), ready_asked ready)))),
    )

pub copy_agent-copy_procedure-requires : goal.copy_agent-copy_procedure-requires
copy_agent-copy_procedure-requires t c =
    let a = (goal.at.copy_agent-copy_procedure-requires t c).After-references_of in
    let g = agent_reading t a in (
      agent_falls t a (omega arith) (agent_ready t a),
      (c.requires.translatable, (c.requires.agents_value, (reading_below g c.in-Procedure.is, (reading_led g c.in-Procedure.is _ (Memᴰ.head refl), ready_asked (agent_ready t a))))),
    )

pub copy_agent-returns-in-Nothing : goal.copy_agent-returns-in-Nothing
copy_agent-returns-in-Nothing t c =
    let a = (goal.at.copy_agent-returns-in-Nothing t c).After-references_of in
    reading_copied (agent_reading t a) c.in-Nothing.is _ (all_none (agent_ready t a))

pub copy_agent-returns-in-Body : goal.copy_agent-returns-in-Body
copy_agent-returns-in-Body t c =
    let a = (goal.at.copy_agent-returns-in-Body t c).After-references_of in
    reading_copied (agent_reading t a) c.in-Body.is c.copy_agent.result (all_one c.copy_agent.result c.copy_agent.ensures)

pub copy_agent-returns-in_ok-half-in-Halves : goal.copy_agent-returns-in_ok-half-in-Halves
copy_agent-returns-in_ok-half-in-Halves t c =
    let a = (goal.at.copy_agent-returns-in_ok-half-in-Halves t c).After-references_of in
    let r = c.copy_agent-in-Halves-2.result in
    reading_copied (agent_reading t a) c.in-Halves.is r (all_then r (all_one _ c.in_ok-half-in-Halves.ensures) (all_one r c.copy_agent-in-Halves-2.ensures))

pub copy_agent-returns-in-Procedure : goal.copy_agent-returns-in-Procedure
copy_agent-returns-in-Procedure t c =
    let a = (goal.at.copy_agent-returns-in-Procedure t c).After-references_of in
    reading_copied (agent_reading t a) c.in-Procedure.is c.copy_procedure.result (all_one c.copy_procedure.result c.copy_procedure.ensures)

procedure_root : (t : ℕ) (c : copy_procedure-After-root_of-root t) →
    leads_to (decode_draft c.args.draft.now) (row_value c.renumbered-row.result) ≡ target (decode_draft c.args.draft.now) c.root_of-root.result (set_in (row_value c.renumbered-row.result)) ∷ []
procedure_root t c = procedure_leads c.args.draft.now c.args.procedure (row_value c.args.under) c.renumbered-row.ensures c.root_of-root.ensures

pub copy_procedure-overflow_add-procedure : goal.copy_procedure-overflow_add-procedure
copy_procedure-overflow_add-procedure t c = omega (arith, c.requires.procedure_bound, roots_many c.requires.translatable, c.requires.translatable.lawful.roots_at_most)

pub copy_procedure-returns-in_err-pairs : goal.copy_procedure-returns-in_err-pairs
copy_procedure-returns-in_err-pairs t c =
    rw c.from_residual.ensures
    (entered_over (entering_given (c.requires.table_len, (c.requires.count_le_most_pairs, (c.requires.rising, c.requires.by_index))) c.requires.led c.renumbered-row.ensures c.in_err-pairs.ensures))

pub copy_procedure-returns-then-pairs-count : goal.copy_procedure-returns-then-pairs-count
copy_procedure-returns-then-pairs-count t c =
    copied_there
    (entering_given (c.requires.table_len, (c.requires.count_le_most_pairs, (c.requires.rising, c.requires.by_index))) c.requires.led c.renumbered-row.ensures c.in_ok-pairs.ensures)
    c.if-pairs-count.true

pub copy_procedure-copy_agent-requires : goal.copy_procedure-copy_agent-requires
copy_procedure-copy_agent-requires t c =
    let g = entering_given (c.requires.table_len, (c.requires.count_le_most_pairs, (c.requires.rising, c.requires.by_index))) c.requires.led c.renumbered-row.ensures c.in_ok-pairs.ensures in
    let falls : 1089 - c.in_ok-pairs.pairs < t = omega (arith, c.decreases, entered_higher g c.if-pairs-count.false) in
    let led = entered_led g _ (subst⁻¹ (Memᴰ _) (procedure_root t (goal.at.copy_procedure-copy_agent-requires t c).After-root_of-root) (Memᴰ.head refl)) in
    let root = root_below c.requires.translatable c.args.procedure c.requires.procedure_bound c.root_of-root.ensures in
    (falls, (c.requires.translatable, (c.requires.agents_value, (root, (led, ready_asked (entered_ready g))))))

pub copy_procedure-returns : goal.copy_procedure-returns
copy_procedure-returns t c =
    let r = c.copy_agent.result in
    copied_all
    (entering_given (c.requires.table_len, (c.requires.count_le_most_pairs, (c.requires.rising, c.requires.by_index))) c.requires.led c.renumbered-row.ensures c.in_ok-pairs.ensures)
    r (procedure_root t (goal.at.copy_procedure-returns t c).After-root_of-root) (all_one r c.copy_agent.ensures)
