-- What goes to the ports, by flags.
--     ports_flags     where there is no clash, the flags from the lowest to the highest port are the output's
--     no_flags        in a clash none is set
use mathlib.Core.Path.{◌≡◌, sym, ap, ◌∙◌}
use mathlib.Core.Bool.{Bool, false, ◌&&◌}
use mathlib.Core.List.{List, Memᴰ}
use Prim.Native.Nat.{ℕ}
use borrow.Author.Tests.{leb-true, le-leb}
use lib.Dec.{leb}
use lib.ListN.{length, get_or, replicate}
use Rattle.laws.proofs.Booleans.{and_both, both_and}
use Rattle.tcc.specs.Score.{Score}
use Rattle.tcc.specs.Instant.{output}
use Rattle.tcc.proofs.Output.{output_clash, output_has, output_from}
use Rattle.flags.specs.Flags.{set_of, flags_of}
use Rattle.flags.proofs.Flags.{flag_member, member_flag, flags_settled}
use Rattle.instant_engine.proofs.Outcomes.{flags_none}

module _ (sc : Score) (status : ℕ) (no_clash : status ≡ 1 → ⊥) (store sent : List Bool)
    (sends : (i : ℕ) → get_or sent i false ≡ (leb sc.lowest_port i && leb i sc.highest_port && get_or store i false)) where
  goes : (t : ℕ) → Memᴰ t (set_of sent) → Memᴰ t (output sc status (set_of store))
  goes t m =
      let a = and_both (leb sc.lowest_port t && leb t sc.highest_port) (get_or store t false) (sym (sends t) ∙ member_flag sent m) in
      let b = and_both (leb sc.lowest_port t) (leb t sc.highest_port) a.0 in
      output_has sc status (record { no_clash = no_clash; low = leb-true sc.lowest_port t b.0; high = leb-true t sc.highest_port b.1; held = flag_member store a.1 })

  comes : (t : ℕ) → Memᴰ t (output sc status (set_of store)) → Memᴰ t (set_of sent)
  comes t m =
      let g = output_from sc status (set_of store) t m in
      flag_member sent (sends t ∙ both_and (both_and (le-leb sc.lowest_port t g.low) (le-leb t sc.highest_port g.high)) (member_flag store g.held))

  pub ports_flags : length sent ≡ 256 → sent ≡ flags_of 256 (output sc status (set_of store))
  ports_flags long = flags_settled 256 (output sc status (set_of store)) sent long (λ t h. (goes t, comes t))

pub no_flags : (sc : Score) (status : ℕ) (store : List ℕ) → status ≡ 1 → replicate 256 false ≡ flags_of 256 (output sc status store)
no_flags sc status store clash = flags_none 256 ∙ sym (ap (λ n. flags_of 256 (output sc n store)) clash ∙ ap (flags_of 256) (output_clash sc store))
