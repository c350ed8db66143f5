-- `journal_words::write`: the instant's word, the words of its inputs and those of its outputs, one after the other.
use Rattle.std.proofs.Common.{arith}
use Rattle.flags.specs.Flags.{set_of}
use Rattle.journal_words.proofs.Put.{instant_length, instant_put}
use Rattle.journal_words.proofs.write.Goals as goal

pub put_word-requires : goal.put_word-requires
put_word-requires c =
    let a = c.args in
    omega (arith, instant_length a.status (set_of a.inputs.now) (set_of a.outputs.now))

pub put_tokens-middle-requires-clause-set_in_bounds : goal.put_tokens-middle-requires-clause-set_in_bounds
put_tokens-middle-requires-clause-set_in_bounds c =
    let a = c.args in
    omega (arith, instant_length a.status (set_of a.inputs.now) (set_of a.outputs.now))

pub put_tokens-requires-clause-set_in_bounds : goal.put_tokens-requires-clause-set_in_bounds
put_tokens-requires-clause-set_in_bounds c =
    let a = c.args in
    omega (arith, instant_length a.status (set_of a.inputs.now) (set_of a.outputs.now))

pub returns : goal.returns
returns c =
    let a = c.args in
    let first = c.put_word in
    let second = c.put_tokens-middle in
    let third = c.put_tokens in
    instant_put a.status (set_of a.inputs.now) (set_of a.outputs.now) a.journal.now c.requires.outputs_in_bounds
    c.word_of-first.result second.result first.new.bytes second.new.journal third.new.journal
    c.word_of-first.ensures second.ensures.value first.ensures second.ensures.journal_after third.ensures.journal_after
