-- `lent::write_number`: nothing stands behind the last word.
use Rattle.std.proofs.Common.{◌≡◌, ◌∙◌, ap, [], ◌∷◌, ◌++◌, ◌+◌, ◌*◌, take, drop, arith}
use mathlib.Core.List.{append-nil}
use lib.ListN.{drop_of_length-le}
use Rattle.bits.specs.Bits.{bytes_of}
use Rattle.lent.specs.Lengths.{unnumbered_bytes}
use Rattle.lent.proofs.write_number.Goals as goal

pub returns : goal.returns
returns c = let s = c.args.state.now in
    let front = take unnumbered_bytes s ++ bytes_of (c.args.number ∷ []) in
    let none : drop (4 * 33 + 4) s ≡ [] = drop_of_length-le s {i = 4 * 33 + 4} (omega arith) in
    c.put_word.ensures ∙ ap (λ rest. front ++ rest) none ∙ append-nil front
