-- Laws of the three numbers.
--     three            two threes are equal number by number
--     ending_cons, ending_append     how many end with a status: of one setting more, of two lists, one after the other
--     ending_map       of settings with the same tokens, one by one
--     ending_few       no more than there are
--     counts_none      the three numbers: of no settings
--     counts_append, counts_map, counts_few     as for each of them alone
--     counted          the three numbers of the settings of some switches, each put through a function
--     counts_first     those with the first switch, and those without it
--     settings_over    there is no setting with more pressed than there are
use mathlib.Core.Path.{◌≡◌, refl, ap, ap₂, ◌∙◌}
use mathlib.Core.Bool.{Bool, true, false, cond}
use mathlib.Core.List.{List, [], ◌∷◌, ◌++◌, map, map-map, map-append}
use Prim.Native.Nat.{ℕ, zero, suc, ◌+◌, ◌≤◌, ◌<◌}
use native.Mathlib.Nat.{not-suc-le-zero, le_of_suc-le-suc}
use native.Mathlib.Omega.{arith}
use lib.Dec.{eqb}
use lib.ListN.{length}
use Rattle.laws.specs.Sets.{Same, keep}
use Rattle.laws.proofs.Sets.{keep_few}
use Rattle.tcc.specs.Score.{Score}
use Rattle.tcc.specs.Instant.{State, answer}
use Rattle.tcc.proofs.Status.{status_same}
use Rattle.settings_tried.specs.declared.Counts.{Counts}
use Rattle.settings_tried.specs.Settings.{settings, ending, counts}
use Rattle.settings_tried.specs.Sums.{plus}

pub three : {a b c a' b' c' : ℕ} → a ≡ a' → b ≡ b' → c ≡ c' → ◌≡◌ {A = Counts} (record { quiet = a; clashed = b; aborted = c }) (record { quiet = a'; clashed = b'; aborted = c' })
three p q r = rw (p, q, r)

module _ (sc : Score) (st : State) where
  module _ (n : ℕ) where
    pub ending_cons : (s : List ℕ) (l : List (List ℕ)) → ending sc st n (s ∷ l) ≡ cond (eqb (answer sc st s).status n) 1 0 + ending sc st n l
    ending_cons s l = go (eqb (answer sc st s).status n)
      where
        k : List (List ℕ)
        k = keep (λ s. eqb (answer sc st s).status n) l

        go : (b : Bool) → length (cond b (s ∷ k) k) ≡ cond b 1 0 + length k
        go true = omega arith
        go false = omega arith

    ending_append : (l m : List (List ℕ)) → ending sc st n (l ++ m) ≡ ending sc st n l + ending sc st n m
    ending_append [] m = omega arith
    ending_append (s ∷ l) m = omega (arith, ending_cons s l, ending_cons s (l ++ m), ending_append l m)

    ending_map : (f g : List ℕ → List ℕ) (l : List (List ℕ)) → ((s : List ℕ) → Same (f s) (g s)) → ending sc st n (map f l) ≡ ending sc st n (map g l)
    ending_map f g [] same = refl
    ending_map f g (s ∷ l) same = omega (
      arith,
      ending_cons (f s) (map f l),
      ending_cons (g s) (map g l),
      ap {B = ℕ} (λ k. cond (eqb k n) 1 0) (status_same sc st (same s)),
      ending_map f g l same,
    )

    ending_few : (l : List (List ℕ)) → ending sc st n l ≤ length l
    ending_few l = keep_few (λ s. eqb (answer sc st s).status n) l

  pub counts_none : counts sc st [] ≡ record { quiet = 0; clashed = 0; aborted = 0 }
  unfolding counts
  counts_none = refl

  pub counts_append : (l m : List (List ℕ)) → counts sc st (l ++ m) ≡ plus (counts sc st l) (counts sc st m)
  unfolding counts
  counts_append l m = three (ending_append 0 l m) (ending_append 1 l m) (ending_append 2 l m)

  pub counts_map : (f g : List ℕ → List ℕ) (l : List (List ℕ)) → ((s : List ℕ) → Same (f s) (g s)) → counts sc st (map f l) ≡ counts sc st (map g l)
  unfolding counts
  counts_map f g l same = three (ending_map 0 f g l same) (ending_map 1 f g l same) (ending_map 2 f g l same)

  pub counts_few : (l : List (List ℕ)) → ((counts sc st l).quiet ≤ length l) × ((counts sc st l).clashed ≤ length l) × ((counts sc st l).aborted ≤ length l)
  unfolding counts
  counts_few l = (ending_few 0 l, ending_few 1 l, ending_few 2 l)

  abbrev pub counted : (List ℕ → List ℕ) → ℕ → List ℕ → Counts
  counted f k l = counts sc st (map f (settings k l))

  pub counts_first : (f : List ℕ → List ℕ) (k x : ℕ) (l : List ℕ) → counted f (suc k) (x ∷ l) ≡ plus (counted (λ s. f (x ∷ s)) k l) (counted f (suc k) l)
  counts_first f k x l =
      ap (counts sc st) (map-append f (map (λ s. x ∷ s) (settings k l)) (settings (suc k) l))
      ∙ counts_append (map f (map (λ s. x ∷ s) (settings k l))) (map f (settings (suc k) l))
      ∙ ap (λ m. plus (counts sc st m) (counted f (suc k) l)) (map-map f (λ s. x ∷ s) (settings k l))

pub settings_over : (k : ℕ) (l : List ℕ) → length l < k → settings k l ≡ []
settings_over zero l h = absurd (not-suc-le-zero h)
settings_over (suc k) [] h = refl
settings_over (suc k) (t ∷ l) h = ap₂ ◌++◌ (ap (map (λ s. t ∷ s)) (settings_over k l (le_of_suc-le-suc h))) (settings_over (suc k) l (omega arith))
