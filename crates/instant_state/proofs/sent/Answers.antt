-- Nothing in a clash, and otherwise from the lowest to the highest port of the score.
use Rattle.std.proofs.Common.{◌≡◌, sym, ap, ◌∙◌, false, ℕ, List, get_or, arith}
use mathlib.Core.Path.{ap₂}
use mathlib.Core.Bool.{◌&&◌}
use lib.Dec.{leb}
use Rattle.words.specs.Word.{field, word_at}
use Rattle.format.specs.Decode.{decode}
use Rattle.format.proofs.Decode.{decode_lowest, decode_highest}
use Rattle.flags.specs.Flags.{set_of}
use Rattle.instant_state.proofs.Ports.{ports_flags, no_flags}
use Rattle.instant_state.proofs.sent.Goals as goal

module _ (s : List ℕ) {w n : ℕ} (word : w ≡ word_at s 1) where
  lowest_is : n ≡ field w 0 8 → n ≡ (decode s).lowest_port
  lowest_is e = e ∙ ap (λ w. field w 0 8) word ∙ sym (decode_lowest s)

  highest_is : n ≡ field w 8 8 → n ≡ (decode s).highest_port
  highest_is e = e ∙ ap (λ w. field w 8 8) word ∙ sym (decode_highest s)

pub returns-then-status-eq1 : goal.returns-then-status-eq1
returns-then-status-eq1 c = no_flags (decode c.args.score.now) c.args.status (set_of c.args.store) c.if-status-eq1.true

pub word_at-ports-requires : goal.word_at-ports-requires
word_at-ports-requires c = omega (arith, c.requires.whole)

pub to_ports-requires-clause-lowest_le_highest : goal.to_ports-requires-clause-lowest_le_highest
to_ports-requires-clause-lowest_le_highest c =
    let s = c.args.score.now in
    omega (arith, lowest_is s c.word_at-ports.ensures c.number.ensures, highest_is s c.word_at-ports.ensures c.number-2.ensures, c.requires.lawful.ports_ordered)

pub to_ports-requires-clause-highest_bound : goal.to_ports-requires-clause-highest_bound
to_ports-requires-clause-highest_bound c =
    let l = c.requires.lawful in
    omega (arith, highest_is c.args.score.now c.word_at-ports.ensures c.number-2.ensures, l.ports_known, l.tokens_at_most)

pub returns : goal.returns
returns c =
    let s = c.args.score.now in
    let store = c.args.store in
    ports_flags (decode s) c.args.status c.if-status-eq1.false store c.to_ports.result
    (λ i. c.to_ports.ensures.by_index i
    ∙ ap₂ (λ low high. leb low i && leb i high && get_or store i false) (lowest_is s c.word_at-ports.ensures c.number.ensures) (highest_is s c.word_at-ports.ensures c.number-2.ensures))
    c.to_ports.ensures.result_len
