-- The settings that are tried are "the settings with exactly k switches pressed": the sets of exactly k of the switches, each
-- once.
--     Setting          a set of exactly k of the switches
--     same_tokens      whether two sets have the same tokens
--     AllSettings      of distinct switches, each that is tried is a setting; and of those tried exactly one has the tokens of
--                      any given setting
use Rattle.std.specs.Prelude.{◌≡◌, Bool, false, ◌&&◌, ℕ, length}
use mathlib.Core.List.{List, Memᴰ}
use Rattle.laws.specs.Sets.{keep, every, has}
use Rattle.settings_switches.specs.Switches.{repeated}
use Rattle.settings_tried.specs.Settings.{settings}

pub record Setting (k : ℕ) (switches set : List ℕ) : Type 0 where
  pub distinct : repeated set ≡ false
  pub size : length set ≡ k
  pub chosen : (t : ℕ) → Memᴰ t set → Memᴰ t switches

abbrev pub same_tokens : List ℕ → List ℕ → Bool
same_tokens a b = every (λ t. has t b) a && every (λ t. has t a) b

abbrev pub AllSettings : Type 0
AllSettings =
    (k : ℕ) (switches : List ℕ) → repeated switches ≡ false →
    ((set : List ℕ) → Memᴰ set (settings k switches) → Setting k switches set)
    × ((set : List ℕ) → Setting k switches set → length (keep (same_tokens set) (settings k switches)) ≡ 1)
