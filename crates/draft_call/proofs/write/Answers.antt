-- `write`: head, ports, agents, procedures, rules and member rules are put one after the other.
use Rattle.std.proofs.Common.{◌∙◌, arith}
use Rattle.draft_rules.proofs.Asked.{tokens_fit}
use Rattle.draft_call.proofs.Writing.{counted, words_few, ports_kept, front_first, all_put, plain_length}
use Rattle.draft_call.proofs.write.Goals as goal

pub overflow_add-n : goal.overflow_add-n
overflow_add-n c = omega (arith, tokens_fit c.args.source.gathered)

pub overflow_sub-n : goal.overflow_sub-n
overflow_sub-n c = (counted c.args.source.gathered).copied_few

pub head_word-requires-clause-tokens_le_most_tokens : goal.head_word-requires-clause-tokens_le_most_tokens
head_word-requires-clause-tokens_le_most_tokens c = tokens_fit c.args.source.gathered

pub head_word-requires-clause-le_agents : goal.head_word-requires-clause-le_agents
head_word-requires-clause-le_agents c = let k = counted c.args.source.gathered in omega (arith, k.lawful.some_agents, k.agents_are)

pub head_word-requires-clause-agents_le_most_agents : goal.head_word-requires-clause-agents_le_most_agents
head_word-requires-clause-agents_le_most_agents c = let k = counted c.args.source.gathered in omega (arith, k.lawful.agents_at_most, k.agents_are)

pub head_word-requires-clause-le_procedures : goal.head_word-requires-clause-le_procedures
head_word-requires-clause-le_procedures c = let k = counted c.args.source.gathered in omega (arith, k.lawful.some_roots, k.roots_are)

pub head_word-requires-clause-procedures_le_most_procedures : goal.head_word-requires-clause-procedures_le_most_procedures
head_word-requires-clause-procedures_le_most_procedures c = let k = counted c.args.source.gathered in omega (arith, k.lawful.roots_at_most, k.roots_are)

pub put_agents-requires : goal.put_agents-requires
put_agents-requires c =
    let k = counted c.args.source.gathered in
    record { copied_in_bounds = omega (arith, c.put_word-2.auto.bytes, c.put_word.auto.bytes, k.copied_few, c.args.source.gathered.pairs_fit) }

pub overflow_add-n-3 : goal.overflow_add-n-3
overflow_add-n-3 c = omega (arith, words_few (counted c.args.source.gathered))

pub put_members-requires-clause-draft_in_bounds : goal.put_members-requires-clause-draft_in_bounds
put_members-requires-clause-draft_in_bounds c =
    omega (
      arith,
      c.put_rules.auto.plain ∙ c.put_procedures.auto.plain ∙ c.put_agents.auto.plain ∙ c.put_word-2.auto.bytes ∙ c.put_word.auto.bytes ∙ c.requires.plain_len,
      words_few (counted c.args.source.gathered),
    )

pub overflow_mul-result : goal.overflow_mul-result
overflow_mul-result c = omega (arith, c.put_members.ensures.value, words_few (counted c.args.source.gathered))

pub returns : goal.returns
returns c =
    let s = c.args.source.draft.now in
    let g = c.args.source.gathered in
    let k = counted g in
    let p = c.word_at in
    record {
      plain_after =
          all_put k c.requires.plain_len c.head_word.ensures (p.ensures ∙ ports_kept s g.accepted (omega (arith, p.ensures, p.type_inv)))
          (front_first c.head_word.result p.result (omega (arith, c.requires.plain_len)) c.put_word.ensures c.put_word-2.ensures)
          c.put_agents.ensures c.put_procedures.ensures c.put_rules.ensures c.put_members.ensures.plain_after;
      value = omega (arith, c.put_members.ensures.value, plain_length k);
    }
