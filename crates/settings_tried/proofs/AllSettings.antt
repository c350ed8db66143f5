-- The settings that are tried are the sets of exactly k of the switches, each once: a setting with the first switch has the
-- tokens of one that is tried with it, and of none that is tried without; and the other way round.
--     absent              what a test does not find is no member
--     setting_with, setting_without     a setting, with one switch more to choose from, pressed or not
--     tried_setting       each that is tried is a setting
--     same_tokens_lem, tokens_same, others_same  the test says whether two sets have the same members
--     keep_map            how many images are kept
--     not_first           a member of one list, that is in another but not its first, is in the rest
--     same_rest           sets with the same members, less one
--     tries, tries_first     how many have the tokens of a set: those with the first switch and those without
--     both_new, rest_setting, rest_same, rest_once     the rest of a setting with the first switch: one without it
--     once_with, once_without     a setting with the first switch, and one without
--     tried_once          exactly one has its tokens
--     all_settings        the claim
--     kept_one            what passes a test that one passes
--     tried               so every setting is tried
use mathlib.Core.Path.{◌≡◌, refl, sym, ap, subst, subst⁻¹, ◌∙◌}
use mathlib.Core.Bool.{Bool, true, false, cond}
use mathlib.Core.List.Memᴰ
use mathlib.Core.List.{List, [], ◌∷◌, map, Memᴰ}
use mathlib.Core.Logic.{⊎_elim}
use Prim.Native.Nat.{ℕ, zero, suc, ◌+◌}
use native.Mathlib.Omega.{arith}
use lib.ListN.{length, length-append}
use Rattle.laws.specs.Sets.{Same, keep, every, has}
use Rattle.laws.proofs.Booleans.{true_is_false, and_both, both_and, neither, both_ways}
use Rattle.laws.proofs.Sets.{Within, on_cons, on_append, on_map, on_keep, every_each, each_every, has_member, member_has, not_has, keep_append, keep_none, keep_agrees, same_sym, same_trans, same_cons}
use Rattle.settings_switches.specs.Switches.{repeated}
use Rattle.settings_tried.specs.Settings.{settings}
use Rattle.settings_tried.specs.AllSettings.{Setting, same_tokens, AllSettings}
use Rattle.settings_tried.proofs.Counting.{settings_over}
use Rattle.settings_tried.proofs.Swaps.{Swaps, front, swaps_long, swaps_same, swaps_repeated}

absent : {t : ℕ} {l : List ℕ} → has t l ≡ false → Memᴰ t l → ⊥
absent e m = true_is_false (member_has m) e

setting_with : (k t : ℕ) (l s : List ℕ) → has t l ≡ false → Setting k l s → Setting (suc k) (t ∷ l) (t ∷ s)
setting_with k t l s new set = record {
  distinct = rw (not_has (λ m. absent new (set.chosen t m))) set.distinct;
  size = ap suc set.size;
  chosen = on_cons (Memᴰ.head refl) (λ x m. Memᴰ.tail (set.chosen x m));
}

setting_without : (k t : ℕ) (l s : List ℕ) → Setting k l s → Setting k (t ∷ l) s
setting_without k t l s set = record { distinct = set.distinct; size = set.size; chosen = λ x m. Memᴰ.tail (set.chosen x m) }

tried_setting : (k : ℕ) (l : List ℕ) → repeated l ≡ false → Within (Setting k l) (settings k l)
tried_setting zero l e = on_cons (record { distinct = refl; size = refl; chosen = λ x m. elim m [ ] }) (λ s m. elim m [ ])
tried_setting (suc k) [] e = subst⁻¹ (Within (Setting (suc k) [])) (settings_over (suc k) [] (omega arith)) (λ s m. elim m [ ])
tried_setting (suc k) (t ∷ l) e =
    let (new, distinct) = neither (has t l) (repeated l) e in
    let first = on_map (Setting (suc k) (t ∷ l)) (λ s. t ∷ s) (settings k l) (λ s m. setting_with k t l s new (tried_setting k l distinct s m)) in
    on_append (map (λ s. t ∷ s) (settings k l)) first (λ s m. setting_without (suc k) t l s (tried_setting (suc k) l distinct s m))

same_tokens_lem : (a b : List ℕ) → same_tokens a b ≡ true → Same a b
same_tokens_lem a b e x =
    let (to, from) = and_both (every (λ t. has t b) a) (every (λ t. has t a) b) e in
    (λ m. has_member x b (every_each (λ t. has t b) m to), λ m. has_member x a (every_each (λ t. has t a) m from))

tokens_same : (a b : List ℕ) → Same a b → same_tokens a b ≡ true
tokens_same a b same = both_and
    (each_every (λ t. has t b) a (λ x m. member_has ((same x).0 m)))
    (each_every (λ t. has t a) b (λ x m. member_has ((same x).1 m)))

others_same : (a b : List ℕ) → (Same a b → ⊥) → same_tokens a b ≡ false
others_same a b other = go (same_tokens a b) refl
  where
    go : (c : Bool) → same_tokens a b ≡ c → same_tokens a b ≡ false
    go true e = absurd (other (same_tokens_lem a b e))
    go false e = e

keep_map : {A B : Type 0} (f : B → Bool) (g : A → B) (l : List A) → length (keep f (map g l)) ≡ length (keep (λ x. f (g x)) l)
keep_map f g [] = refl
keep_map f g (x ∷ l) = go (f (g x)) (keep_map f g l)
  where
    go : (b : Bool) → length (keep f (map g l)) ≡ length (keep (λ x. f (g x)) l) → length (cond b (g x ∷ keep f (map g l)) (keep f (map g l))) ≡ length (cond b (x ∷ keep (λ x. f (g x)) l) (keep (λ x. f (g x)) l))
    go true e = ap suc e
    go false e = e

not_first : {t x : ℕ} {s l : List ℕ} → has t s ≡ false → Memᴰ x s → Memᴰ x (t ∷ l) → Memᴰ x l
not_first {t} {x} {s} {l} out m i = ⊎_elim (λ (e : x ≡ t). absurd (absent out (subst (λ z. Memᴰ z s) e m))) (λ (j : Memᴰ x l). j) (Memᴰ.cases_cons i)

same_rest : (t : ℕ) {l m : List ℕ} → has t l ≡ false → has t m ≡ false → Same (t ∷ l) (t ∷ m) → Same l m
same_rest t p q same x = (λ m. not_first p m ((same x).0 (Memᴰ.tail m)), λ m. not_first q m ((same x).1 (Memᴰ.tail m)))

abbrev tries : ℕ → List ℕ → List ℕ → ℕ
tries k l set = length (keep (same_tokens set) (settings k l))

tries_first : (k t : ℕ) (l set : List ℕ) → tries (suc k) (t ∷ l) set ≡ length (keep (λ s. same_tokens set (t ∷ s)) (settings k l)) + tries (suc k) l set
tries_first k t l set =
    ap length (keep_append (same_tokens set) (map (λ s. t ∷ s) (settings k l)) (settings (suc k) l))
    ∙ length-append (keep (same_tokens set) (map (λ s. t ∷ s) (settings k l))) (keep (same_tokens set) (settings (suc k) l))
    ∙ ap (λ n. n + tries (suc k) l set) (keep_map (same_tokens set) (λ s. t ∷ s) (settings k l))

-- one switch more, and a setting with it or without
module _ (k t : ℕ) (l : List ℕ) (new : has t l ≡ false) (distinct : repeated l ≡ false) (set : List ℕ) (setting : Setting (suc k) (t ∷ l) set) where
  module _ (rest : List ℕ) (s : Swaps set (t ∷ rest)) where
    both_new : (has t rest ≡ false) × (repeated rest ≡ false)
    both_new = neither (has t rest) (repeated rest) (sym (swaps_repeated s) ∙ setting.distinct)

    rest_setting : Setting k l rest
    rest_setting = record {
      distinct = both_new.1;
      size = omega (arith, swaps_long s, setting.size);
      chosen = λ x m. not_first both_new.0 m (setting.chosen x ((swaps_same s x).1 (Memᴰ.tail m)));
    }

    rest_same : Within (λ a. same_tokens set (t ∷ a) ≡ same_tokens rest a) (settings k l)
    rest_same a m =
        let out : has t a ≡ false = not_has (λ i. absent new ((tried_setting k l distinct a m).chosen t i)) in
        both_ways (λ p. tokens_same rest a (same_rest t both_new.0 out (same_trans (same_sym (swaps_same s)) (same_tokens_lem set (t ∷ a) p)))) (λ p. tokens_same set (t ∷ a) (same_trans (swaps_same s) (same_cons t (same_tokens_lem rest a p))))

    rest_once : tries k l rest ≡ 1 → length (keep (λ a. same_tokens set (t ∷ a)) (settings k l)) ≡ 1
    rest_once e = ap length (keep_agrees (λ a. same_tokens set (t ∷ a)) (same_tokens rest) (settings k l) rest_same) ∙ e

  once_with : has t set ≡ true → ((s : List ℕ) → Setting k l s → tries k l s ≡ 1) → tries (suc k) (t ∷ l) set ≡ 1
  once_with e once =
      let (rest, s) = front (has_member t set e) in
      let without = keep_none (same_tokens set) (settings (suc k) l) (λ a m. others_same set a (λ same. absent new ((tried_setting (suc k) l distinct a m).chosen t ((same t).0 (has_member t set e))))) in
      omega (arith, tries_first k t l set, rest_once rest s (once rest (rest_setting rest s)), ap length without)

  once_without : has t set ≡ false → ((s : List ℕ) → Setting (suc k) l s → tries (suc k) l s ≡ 1) → tries (suc k) (t ∷ l) set ≡ 1
  once_without e once =
      let with_first = keep_none (λ a. same_tokens set (t ∷ a)) (settings k l) (λ a m. others_same set (t ∷ a) (λ same. absent e ((same t).1 (Memᴰ.head refl)))) in
      let here : Setting (suc k) l set = record { distinct = setting.distinct; size = setting.size; chosen = λ x m. not_first e m (setting.chosen x m) } in
      omega (arith, tries_first k t l set, ap length with_first, once set here)

tried_once : (k : ℕ) (l : List ℕ) → repeated l ≡ false → (set : List ℕ) → Setting k l set → tries k l set ≡ 1
tried_once zero l e [] setting = refl
tried_once zero l e (x ∷ set) setting = absurd (omega (arith, setting.size))
tried_once (suc k) [] e [] setting = absurd (omega (arith, setting.size))
tried_once (suc k) [] e (x ∷ set) setting = absurd (Memᴰ.not-nil (setting.chosen x (Memᴰ.head refl)))
tried_once (suc k) (t ∷ l) e set setting =
    let (new, distinct) = neither (has t l) (repeated l) e in
    go new distinct (tried_once k l distinct) (tried_once (suc k) l distinct) (has t set) refl
  where
    go : has t l ≡ false → repeated l ≡ false →
        ((s : List ℕ) → Setting k l s → tries k l s ≡ 1) → ((s : List ℕ) → Setting (suc k) l s → tries (suc k) l s ≡ 1) →
        (b : Bool) → has t set ≡ b → tries (suc k) (t ∷ l) set ≡ 1
    go new distinct fewer same true p = once_with k t l new distinct set setting p fewer
    go new distinct fewer same false p = once_without k t l new distinct set setting p same

pub all_settings : AllSettings
all_settings k switches e = (tried_setting k switches e, tried_once k switches e)

kept_one : {A : Type 0} (f : A → Bool) (l : List A) → length (keep f l) ≡ 1 → (x : A) × Memᴰ x l × (f x ≡ true)
kept_one {A} f l e = go (keep f l) e (on_keep {P = λ x. Memᴰ x l × (f x ≡ true)} f l (λ x m p. (m, p)))
  where
    go : (k : List A) → length k ≡ 1 → Within (λ x. Memᴰ x l × (f x ≡ true)) k → (x : A) × Memᴰ x l × (f x ≡ true)
    go [] e each = absurd (omega arith)
    go (x ∷ k) e each = let (m, p) = each x (Memᴰ.head refl) in (x, m, p)

pub tried : (k : ℕ) (switches set : List ℕ) → repeated switches ≡ false → Setting k switches set → (s : List ℕ) × Memᴰ s (settings k switches) × Same set s
tried k switches set e setting =
    let (s, m, p) = kept_one (same_tokens set) (settings k switches) ((all_settings k switches e).1 set setting) in
    (s, m, same_tokens_lem set s p)
