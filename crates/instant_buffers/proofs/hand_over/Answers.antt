-- Each buffer by its writer.
use Rattle.std.proofs.Common.{ap, ◌∙◌, false, ℕ, [], ◌∷◌, ◌++◌, ◌<◌, get_or, arith}
use mathlib.Core.List.{Memᴰ}
use Rattle.tcc.specs.Instant.{output}
use Rattle.tcc.proofs.Output.{output_from}
use Rattle.format.specs.Decode.{decode}
use Rattle.format.proofs.Decode.{decode_tokens}
use Rattle.flags.specs.Flags.{set_of}
use Rattle.bits.specs.Bits.{bytes_of}
use Rattle.lent.specs.States.{agent_words}
use Rattle.lent_maps.specs.Maps.{map_of}
use Rattle.lent_maps.proofs.Round.{map_of_same}
use Rattle.instant_state.proofs.Inside.{flags_back, flags_known}
use Rattle.instant_buffers.proofs.hand_over.Goals as goal

pub write_map-requires-2-clause-by_index : goal.write_map-requires-2-clause-by_index
write_map-requires-2-clause-by_index c i le =
    let s = c.args.prepared.now.bytes.now in
    let o = c.args.outcome in
    ap (λ r. get_or r i false) c.sent-out.ensures
    ∙ flags_known 256 (decode s).tokens (output (decode s) o.status (set_of o.store))
    (λ t m. omega (arith, (output_from (decode s) o.status (set_of o.store) t m).high, c.args.prepared.now.playable.lawful.ports_known)) i
    (omega (arith, decode_tokens s, c.tokens-2.ensures))

pub returns : goal.returns
returns c =
    let sc = decode c.args.prepared.now.bytes.now in
    let l = c.args.prepared.now.playable.lawful in
    let o = c.args.outcome in
    let out = output sc o.status (set_of o.store) in
    let within : (t : ℕ) → Memᴰ t out → t < 256 = λ t m. omega (arith, (output_from sc o.status (set_of o.store) t m).high, l.ports_known, l.tokens_at_most) in
    record {
      state_is = c.write_state.ensures ∙ ap (λ w. bytes_of ((w ∷ agent_words (set_of o.awake)) ++ c.args.number ∷ [])) c.first_word-first.ensures;
      store_is = c.write_map.ensures;
      output_is = c.write_map-2.ensures ∙ ap (λ r. map_of (set_of r)) c.sent-out.ensures ∙ map_of_same (flags_back 256 out within);
    }
