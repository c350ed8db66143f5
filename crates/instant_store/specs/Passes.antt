-- Contracts of inner functions: what the parts of the closure do to a store that is kept as flags.
--     HasFacts       each standing fact is in a store
--     adds           whether a word adds its conclusion, read as a rule with two premises or, if facts are looked for, as a
--                    fact: the conclusion is out, and the premises are in or there are none
--     Passed         a pass over the rules: what it leaves, and how many tokens it added
--     Repeated       passes until one adds nothing: how many, and what they leave
--     Flooded        the tokens below n come in, and no others
use Rattle.std.specs.Prelude.{◌≡◌, Bool, false, not, ◌&&◌, ◌||◌, ◌⊎◌, ℕ, ◌+◌, ◌<◌, length, get_or}
use mathlib.Core.List.{List, [], Memᴰ}
use Rattle.tcc.specs.Closure.{Rule}
use Rattle.tcc.specs.Score.{Score}
use Rattle.words.specs.Word.{field}
use Rattle.format.specs.Format.{is_fact}
use Rattle.flags.specs.Flags.{set_of}
use Rattle.instant_store.specs.PassBound.{pass, after, PassCount}

abbrev pub HasFacts : Score → List Bool → Type 0
HasFacts sc store = (r : Rule ℕ) → Memᴰ r sc.rules → r.premises ≡ [] → Memᴰ r.conclusion (set_of store)

abbrev pub adds : List Bool → ℕ → Bool → Bool
adds store w facts = not (get_or store (field w 0 8) false) && ((get_or store (field w 8 8) false && get_or store (field w 16 8) false) || (facts && is_fact w))

pub record Passed (sc : Score) (before later : List Bool) (added : ℕ) : Type 0 where
  pub made : later ≡ pass sc.rules before
  pub counted : length (set_of later) ≡ length (set_of before) + added

pub record Repeated (sc : Score) (before later : List Bool) (n : ℕ) : Type 0 where
  pub made : later ≡ after sc.rules n before
  pub counted : PassCount sc.rules before n

pub record Flooded (n : ℕ) (before later : List Bool) : Type 0 where
  pub long : length later ≡ 256
  pub kept : (t : ℕ) → Memᴰ t (set_of before) → Memᴰ t (set_of later)
  pub filled : (t : ℕ) → t < n → Memᴰ t (set_of later)
  pub only : (t : ℕ) → Memᴰ t (set_of later) → (t < n) ⊎ Memᴰ t (set_of before)
