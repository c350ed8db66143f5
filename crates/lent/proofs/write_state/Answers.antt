-- `lent::write_state`: the number is put behind a state without it.
use Rattle.std.proofs.Common.{◌∷◌, suc, ap, drop}
use Rattle.flags.specs.Flags.{set_of}
use Rattle.lent.specs.Lengths.{unnumbered_bytes}
use Rattle.lent.specs.States.{agent_words}
use Rattle.lent.proofs.Round.{agent_words_length}
use Rattle.lent.proofs.Gathered.{number_put}
use Rattle.lent.proofs.write_state.Goals as goal

pub returns : goal.returns
returns c = let a = c.args in
    number_put (a.first ∷ agent_words (set_of a.awake)) a.number (drop unnumbered_bytes a.state.now) c.write_unnumbered.new.state c.write_number.new.state
    (ap suc (agent_words_length (set_of a.awake))) c.write_unnumbered.ensures c.write_number.ensures
