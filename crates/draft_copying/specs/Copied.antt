-- Contracts of inner functions: what copying leaves in the table.
--     Copied         of the pairs before and after: nothing is lost, the pair is there, and whatever is new has all that it
--                    leads to there
--     CopiedTo       so, or there are more pairs than a plain score can have
--     PlacesIn       all pairs of a draft, or more than a plain score can have
use Rattle.std.specs.Prelude.{◌≡◌, false, ◌⊎◌, ℕ, ◌≤◌, length, Option, IfSome, IfNone}
use mathlib.Core.List.{List, Memᴰ}
use Rattle.laws.specs.Rising.{Rising}
use Rattle.draft_language.specs.Draft.{Draft}
use Rattle.draft_pairs.specs.Pairs.{most_pairs}
use Rattle.draft_table.specs.Tables.{keys}
use Rattle.draft_plain.specs.Places.{leads_to, places}
use Rattle.draft_plain.specs.Plain.{plain_of, fits}
use Rattle.draft_plain.specs.Led.{Led, Overfull}

pub record Copied (d : Draft) (key : ℕ) (before after : List ℕ) : Type 0 where
  pub rising : Rising after
  pub led : (k : ℕ) → Memᴰ k after → Led d k
  pub keeps : (k : ℕ) → Memᴰ k before → Memᴰ k after
  pub has : Memᴰ key after
  pub closes : (k : ℕ) → Memᴰ k after → Memᴰ k before ⊎ ((m : ℕ) → Memᴰ m (leads_to d k) → Memᴰ m after)

pub record CopiedTo (d : Draft) (key count : ℕ) (before : List (List ℕ)) (r : Option ℕ) (after : List (List ℕ)) : Type 0 where
  pub long : length after ≡ length before
  pub room : IfSome r (λ n. (count ≤ n) × (n ≤ most_pairs) × Copied d key (keys count before) (keys n after))
  pub full : IfNone r (Overfull d)

pub record PlacesIn (d : Draft) (r : Option ℕ) (table : List (List ℕ)) : Type 0 where
  pub long : length table ≡ most_pairs
  pub exact : IfSome r (λ n. (n ≤ most_pairs) × (keys n table ≡ places d))
  pub over : IfNone r (fits (plain_of d) ≡ false)
