-- Laws of sets as flags.
--     flag_member, member_flag   the members of a set are the numbers flagged
--     flag_has           a flag says whether its number is in the set
--     member_within      which are below the number of flags
--     set_kept           a flag set keeps the members
--     set_here           brings its own number
--     set_cases          and no other
--     set_again          a flag that is set, set again
--     set_longer         it is one member more, if it was not in
--     set_length_le      no more members than flags
--     set_more           as many flags that have every member have no fewer
--     set_of_none        where no flag is set, no members
--     flags_of_length, flags_of_flag     a set's flags: n of them, flag i says whether i is in
--     flags_of_member, flags_of_within, member_flags_of  their members are the set's below n
--     flags_settled      flags with the set's members below n are the set's flags
--     flags_of_same      equal sets have equal flags
use mathlib.Core.Path.{◌≡◌, refl, sym, ap, ◌∙◌}
use mathlib.Core.Bool.{Bool, true, false}
use mathlib.Core.List.{List, [], ◌∷◌, ◌++◌, Memᴰ}
use mathlib.Core.Logic.{◌⊎◌, inl, inr, by_cases}
use Prim.Native.Nat.{ℕ, zero, suc, ◌≤◌, ◌<◌}
use native.Mathlib.Nat.{not-suc-le-zero}
use native.Mathlib.Decide.{dec_lt, ℕ_discrete}
use native.Mathlib.Omega.{arith}
use lib.ListN.{length, get_or, set, replicate, length-append, length-set, length-map, length-replicate, get_or-replicate, get_or-eq_default}
use lib.Seq.{get_or-set_same, get_or-set_other, set-get_or, ext_get_or}
use Rattle.laws.specs.Sets.{Same, below, keep, has}
use Rattle.laws.proofs.Lists.{map_at}
use Rattle.laws.proofs.Booleans.{true_is_false}
use Rattle.laws.proofs.Sets.{Among, on_keep, keep_kept, keep_agrees, below_lt, lt_below, has_member, member_has, not_has, keep_append, keep_none, keep_few, keep_more, below_length, below_at}
use Rattle.flags.specs.Flags.{set_of, flags_of}

-- a test that one number more passes
module _ (f g : ℕ → Bool) (i : ℕ) (others : (j : ℕ) → (j ≡ i → ⊥) → f j ≡ g j) (out : f i ≡ false) (in' : g i ≡ true) where
  more_one : (n : ℕ) → i < n → length (keep g (below n)) ≡ suc (length (keep f (below n)))
  more_one zero h = absurd (not-suc-le-zero h)
  more_one (suc n) h = go (ℕ_discrete n i) (more_one n)
    where
      go : Dec (n ≡ i) → (i < n → length (keep g (below n)) ≡ suc (length (keep f (below n)))) → length (keep g (below n ++ (n ∷ []))) ≡ suc (length (keep f (below n ++ (n ∷ []))))
      go (yes e) deeper =
          let p : f n ≡ false = rw e out in
          let q : g n ≡ true = rw e in' in
          let same : keep f (below n) ≡ keep g (below n) = keep_agrees f g (below n) (λ j m. others j (λ t. let l = below_lt n j m in omega arith)) in
          rw (keep_append f, keep_append g, p, q) (omega (arith, length-append (keep g (below n)) (n ∷ []), length-append (keep f (below n)) [], ap length same))
      go (no d) deeper =
          let p : f n ≡ g n = others n d in
          rw (keep_append f, keep_append g, p)
          (omega (arith, length-append (keep g (below n)) (keep g (n ∷ [])), length-append (keep f (below n)) (keep g (n ∷ [])), deeper (omega arith)))

module _ (flags : List Bool) where
  pub flag_member : {i : ℕ} → get_or flags i false ≡ true → Memᴰ i (set_of flags)
  unfolding set_of
  flag_member {i} e = by_cases (dec_lt i (length flags))
      (λ l. keep_kept (λ j. get_or flags j false) (lt_below (length flags) l) e)
      (λ g. absurd (true_is_false e (get_or-eq_default flags false (omega arith))))

  pub member_flag : {i : ℕ} → Memᴰ i (set_of flags) → get_or flags i false ≡ true
  unfolding set_of
  member_flag {i} m = on_keep {P = λ j. get_or flags j false ≡ true} (λ j. get_or flags j false) (below (length flags)) (λ j k p. p) i m

  pub member_within : {i : ℕ} → Memᴰ i (set_of flags) → i < length flags
  unfolding set_of
  member_within {i} m = on_keep {P = λ j. j < length flags} (λ j. get_or flags j false) (below (length flags)) (λ j k p. below_lt (length flags) j k) i m

  pub set_length_le : length (set_of flags) ≤ length flags
  unfolding set_of
  set_length_le = omega (arith, keep_few (λ j. get_or flags j false) (below (length flags)), below_length (length flags))

pub set_more : (flags more : List Bool) → length more ≡ length flags → Among (set_of flags) (set_of more) → length (set_of flags) ≤ length (set_of more)
unfolding set_of
set_more flags more long h = omega (
  arith,
  keep_more (λ j. get_or flags j false) (λ j. get_or more j false) (below (length flags)) (λ j m e. member_flag more (h j (flag_member flags e))),
  ap (λ n. length (keep (λ j. get_or more j false) (below n))) long,
)

module _ (flags : List Bool) (i : ℕ) where
  pub set_kept : {j : ℕ} → Memᴰ j (set_of flags) → Memᴰ j (set_of (set flags i true))
  set_kept {j} m = flag_member (set flags i true) (go (ℕ_discrete j i))
    where
      go : Dec (j ≡ i) → get_or (set flags i true) j false ≡ true
      go (yes e) = let l : i < length flags = let k : j < length flags = member_within flags m in omega arith in rw e (get_or-set_same flags i true false l)
      go (no n) = get_or-set_other flags i j true false n ∙ member_flag flags m

  pub set_here : i < length flags → Memᴰ i (set_of (set flags i true))
  set_here h = flag_member (set flags i true) (get_or-set_same flags i true false h)

  pub set_cases : {j : ℕ} → Memᴰ j (set_of (set flags i true)) → (j ≡ i) ⊎ Memᴰ j (set_of flags)
  set_cases {j} m = go (ℕ_discrete j i)
    where
      go : Dec (j ≡ i) → (j ≡ i) ⊎ Memᴰ j (set_of flags)
      go (yes e) = inl e
      go (no n) = inr (flag_member flags (sym (get_or-set_other flags i j true false n) ∙ member_flag (set flags i true) m))

  pub set_again : get_or flags i false ≡ true → set flags i true ≡ flags
  set_again e = ap (set flags i) (sym e) ∙ set-get_or flags i false

  pub set_longer : i < length flags → get_or flags i false ≡ false → length (set_of (set flags i true)) ≡ suc (length (set_of flags))
  unfolding set_of
  set_longer h e =
      ap (λ n. length (keep (λ j. get_or (set flags i true) j false) (below n))) (length-set flags i true)
      ∙ more_one (λ j. get_or flags j false) (λ j. get_or (set flags i true) j false) i (λ j n. sym (get_or-set_other flags i j true false n)) e (get_or-set_same flags i true false h) (length flags) h

pub set_of_none : (n : ℕ) → set_of (replicate n false) ≡ []
unfolding set_of
set_of_none n = keep_none _ (below (length (replicate n false)))
    (λ j m. get_or-replicate n j false false (let l = below_lt (length (replicate n false)) j m in omega (arith, length-replicate n false)))

module _ (n : ℕ) (l : List ℕ) where
  pub flags_of_length : length (flags_of n l) ≡ n
  unfolding flags_of
  flags_of_length = length-map (below n) (λ i. has i l) ∙ below_length n

  pub flags_of_flag : (i : ℕ) → i < n → get_or (flags_of n l) i false ≡ has i l
  unfolding flags_of
  flags_of_flag i h = map_at (λ j. has j l) (below n) i 0 false (omega (arith, below_length n)) ∙ ap (λ j. has j l) (below_at n i h)

  pub flags_of_within : {i : ℕ} → Memᴰ i (set_of (flags_of n l)) → i < n
  flags_of_within {i} m = omega (arith, member_within (flags_of n l) m, flags_of_length)

  pub flags_of_member : {i : ℕ} → Memᴰ i (set_of (flags_of n l)) → Memᴰ i l
  flags_of_member {i} m = has_member i l (sym (flags_of_flag i (flags_of_within m)) ∙ member_flag (flags_of n l) m)

  pub member_flags_of : {i : ℕ} → i < n → Memᴰ i l → Memᴰ i (set_of (flags_of n l))
  member_flags_of {i} h m = flag_member (flags_of n l) (flags_of_flag i h ∙ member_has m)

  pub flags_settled : (flags : List Bool) → length flags ≡ n →
      ((i : ℕ) → i < n → (Memᴰ i (set_of flags) → Memᴰ i l) × (Memᴰ i l → Memᴰ i (set_of flags))) → flags ≡ flags_of n l
  flags_settled flags long same = ext_get_or false flags (flags_of n l) (long ∙ sym flags_of_length)
      (λ i h. let k : i < n = omega arith in go i (same i k).0 (same i k).1 (get_or flags i false) refl ∙ sym (flags_of_flag i k))
    where
      go : (i : ℕ) → (Memᴰ i (set_of flags) → Memᴰ i l) → (Memᴰ i l → Memᴰ i (set_of flags)) → (b : Bool) → get_or flags i false ≡ b → get_or flags i false ≡ has i l
      go i to from true e = e ∙ sym (member_has (to (flag_member flags e)))
      go i to from false e = e ∙ sym (not_has (λ m. true_is_false (member_flag flags (from m)) e))

pub flags_of_same : (n : ℕ) {l k : List ℕ} → Same l k → flags_of n l ≡ flags_of n k
flags_of_same n {l} {k} same = flags_settled n k (flags_of n l) (flags_of_length n l) (λ i h. (λ m. (same i).0 (flags_of_member n l m), λ m. member_flags_of n l h ((same i).1 m)))

pub flag_has : (flags : List Bool) (i : ℕ) → get_or flags i false ≡ has i (set_of flags)
flag_has flags i = go (get_or flags i false) refl
  where
    go : (b : Bool) → get_or flags i false ≡ b → get_or flags i false ≡ has i (set_of flags)
    go true e = e ∙ sym (member_has (flag_member flags e))
    go false e = e ∙ sym (not_has (λ m. true_is_false (member_flag flags m) e))
