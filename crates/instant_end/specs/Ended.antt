-- Contracts of inner functions: what is read off the marks of an instant. The agents reduced are left as bits in the
-- scratch. Where the instant aborts, the bits are whatever the reading had come to: an aborted instant has none.
--     fate_of        what a live agent comes to
--     flagged        flags, with those of a set set
--     Read           the live agents below i are no aborts, and the bodies that they leave are awake
--     Parted         what the 32 agents from agent 32 k on come to
--     Ended          whether a live agent aborts; if none does, the agents reduced, and the bodies left awake; beyond the
--                    words of the score's agents no bit is set
use Rattle.std.specs.Prelude.{◌≡◌, Bool, true, false, cond, ℕ, ◌+◌, ◌*◌, ◌/◌, ◌<◌, ◌≤◌, length, get_or, set, Option, is_none, IfNone, OnSome, IfSome}
use mathlib.Core.List.{List, [], ◌∷◌, Memᴰ}
use Rattle.laws.specs.Sets.{any, has}
use Rattle.tcc.specs.Score.{Score, agent_at}
use Rattle.tcc.specs.Instant.{is_abort, reducible, leaves, reduced_of, left_awake}
use Rattle.tcc.specs.declared.Agent.{Agent}
use Rattle.flags.specs.Flags.{set_of, flags_of}
use Rattle.bits.specs.Bits.{bits_value}
use Rattle.lent.specs.Lengths.{scratch_bytes}
use Rattle.lent.specs.Scratch.{reduced_in}
use Rattle.instant_end.specs.declared.Fate.{Fate}
use Rattle.instant_end.specs.declared.Fate.TheVariants.{Aborts, Reduced, Stays}

abbrev pub fate_of : List ℕ → Agent → Fate
fate_of held a = cond (is_abort a) Aborts (cond (reducible held a) Reduced Stays)

abbrev pub flagged : List ℕ → List Bool → List Bool
flagged [] flags = flags
flagged (b ∷ l) flags = flagged l (set flags b true)

pub record Read (sc : Score) (live held : List ℕ) (i : ℕ) (awake : List Bool) : Type 0 where
  pub long : length awake ≡ 1024
  pub free : (j : ℕ) → j < i → Memᴰ j live → is_abort (agent_at sc j) ≡ false
  pub sound : (b : ℕ) → Memᴰ b (set_of awake) → Memᴰ b (left_awake sc held live)
  pub whole : (j b : ℕ) → j < i → Memᴰ j live → Memᴰ b (leaves held (agent_at sc j)) → Memᴰ b (set_of awake)

pub record Parted (sc : Score) (live held : List ℕ) (k : ℕ) (awake : List Bool) (part : Option ℕ) : Type 0 where
  pub aborts : IfNone part (any (λ i. is_abort (agent_at sc i)) live ≡ true)
  pub read : OnSome part (Read sc live held (32 * (k + 1)) awake)
  pub reduced : IfSome part (λ bits. bits ≡ bits_value (λ j. has (32 * k + j) (reduced_of sc held live)) 32)

pub record Ended (sc : Score) (live held scratch : List ℕ) (end : Option (List Bool)) : Type 0 where
  pub aborted : is_none end ≡ any (λ i. is_abort (agent_at sc i)) live
  pub reduced : OnSome end (reduced_in scratch ≡ reduced_of sc held live)
  pub awake : IfSome end (λ awake. awake ≡ flags_of 1024 (left_awake sc held live))
  pub long : length scratch ≡ scratch_bytes
  pub unset : (k : ℕ) → 4 * ((length sc.agents + 31) / 32) ≤ k → get_or scratch k 0 ≡ 0
