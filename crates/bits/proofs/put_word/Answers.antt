-- `bits::put_word`: the four bytes of the word are put in the middle.
use Rattle.std.proofs.Common.{◌∙◌, sym, ap₂, ◌++◌, ◌+◌, ◌*◌, take, drop, append_assoc, arith}
use borrow.Rule.Slice.PartMut.{Post-is}
use Rattle.bits.specs.Bits.{bytes_of}
use Rattle.bits.proofs.put_word.Goals as goal

pub returns : goal.returns
unfolding bytes_of
returns c = let s = c.args.bytes.now in
    let at = 4 * c.args.i in
    ap₂ (λ word rest. take at s ++ (word ++ rest)) (c.copy_from_slice.ensures.after ∙ c.to_le_bytes.ensures) (Post-is at (at + 4) s (omega arith))
    ∙ sym (append_assoc (take at s) _ (drop (at + 4) s))
