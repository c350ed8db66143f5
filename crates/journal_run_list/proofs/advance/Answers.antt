-- What the parts return is the instant.
use Rattle.std.proofs.Common.{◌≡◌, length, ap, sym, refl, ◌∙◌, rules, arith}
use Rattle.std.proofs.lemmas.Result.{err_from_is_err_and}
use Rattle.format.proofs.Decode.{sizes_few}
use Rattle.flags.specs.Flags.{set_of}
use Rattle.instant_state.specs.Standing.{state_in}
use Rattle.journal_step.proofs.FromStanding.{status_few, outputs_known}
use Rattle.journal_run_list.proofs.Took.{took, refused}
use Rattle.journal_run_list.proofs.advance.Goals as goal

pub size-bytes-requires-clause-tokens_le_most_tokens : goal.size-bytes-requires-clause-tokens_le_most_tokens
size-bytes-requires-clause-tokens_le_most_tokens c = omega (arith, c.tokens.ensures, (sizes_few c.args.prepared.now.bytes.now).0)

pub size-bytes-requires-clause-tokens_in_bounds : goal.size-bytes-requires-clause-tokens_in_bounds
size-bytes-requires-clause-tokens_in_bounds c =
    let long : length c.args.told ≡ 256 = search rules in
    omega (arith, c.tokens.ensures, (sizes_few c.args.prepared.now.bytes.now).0)

pub size-bytes-requires-clause-tokens_in_bounds_2 : goal.size-bytes-requires-clause-tokens_in_bounds_2
size-bytes-requires-clause-tokens_in_bounds_2 c =
    let long : length c.step_from-step.result.out ≡ 256 = search rules in
    omega (arith, c.tokens.ensures, (sizes_few c.args.prepared.now.bytes.now).0)

pub size-bytes-requires-clause-by_index_2 : goal.size-bytes-requires-clause-by_index_2
size-bytes-requires-clause-by_index_2 c i le =
    outputs_known c.args.prepared.now.bytes.now c.args.prepared.now.playable (state_in c.args.standing) (set_of c.args.told) c.step_from-step.ensures.stepped i
    (omega (arith, c.tokens.ensures))

pub write-requires-clause-status_bound : goal.write-requires-clause-status_bound
write-requires-clause-status_bound c =
    omega (arith, status_few c.args.prepared.now.bytes.now c.args.prepared.now.playable (state_in c.args.standing) (set_of c.args.told) c.step_from-step.ensures.stepped)

pub write-requires-clause-tokens_le_most_tokens : goal.write-requires-clause-tokens_le_most_tokens
write-requires-clause-tokens_le_most_tokens c = omega (arith, c.tokens-2.ensures, (sizes_few c.args.prepared.now.bytes.now).0)

pub write-requires-clause-tokens_in_bounds : goal.write-requires-clause-tokens_in_bounds
write-requires-clause-tokens_in_bounds c =
    let long : length c.args.told ≡ 256 = search rules in
    omega (arith, c.tokens-2.ensures, (sizes_few c.args.prepared.now.bytes.now).0)

pub write-requires-clause-tokens_in_bounds_2 : goal.write-requires-clause-tokens_in_bounds_2
write-requires-clause-tokens_in_bounds_2 c =
    let long : length c.step_from-step.result.out ≡ 256 = search rules in
    omega (arith, c.tokens-2.ensures, (sizes_few c.args.prepared.now.bytes.now).0)

pub write-requires-clause-by_index_2 : goal.write-requires-clause-by_index_2
write-requires-clause-by_index_2 c i le =
    outputs_known c.args.prepared.now.bytes.now c.args.prepared.now.playable (state_in c.args.standing) (set_of c.args.told) c.step_from-step.ensures.stepped i
    (omega (arith, c.tokens-2.ensures))

pub returns-in_err-stop_by-clause-advanced : goal.returns-in_err-stop_by-clause-advanced
returns-in_err-stop_by-clause-advanced c =
    let p = err_from_is_err_and c.from_residual.result c.from_residual.ensures.1 in
    rw (p.1, p.2)
    (refused c.args.prepared.now.bytes.now c.args.prepared.now.playable (state_in c.args.standing) (set_of c.args.told) c.step_from-step.result c.step_from-step.ensures.stepped
    c.args.last c.args.journal.now (c.size-bytes.ensures.by_index_3 c.step_from-step.result.status) (sym c.stop_by.ensures ∙ c.in_err-stop_by.was))

pub returns-clause-advanced : goal.returns-clause-advanced
returns-clause-advanced c =
    took c.args.prepared.now.bytes.now c.args.prepared.now.playable (state_in c.args.standing) (set_of c.args.told) c.step_from-step.result c.step_from-step.ensures.stepped
    c.args.last _ _ _ (c.size-bytes.ensures.by_index_3 c.step_from-step.result.status) (sym c.stop_by.ensures ∙ c.in_ok-stop_by.was) refl c.write.ensures
