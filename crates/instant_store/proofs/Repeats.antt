-- Passes until one adds nothing, one after the other.
--     conclusions_flagged    a conclusion has 8 bits
--     Repeating          what n passes have done, each of which added a token: the tokens are n more at least, and the
--                        count goes on
--     repeating_none     nothing before the first pass
--     repeating_more     one pass more, which added some tokens
--     repeating_few      each pass so far added one of 256 tokens
--     repeating_all      after a pass that added nothing all are made
use mathlib.Core.Path.{◌≡◌, refl, sym, ap, subst, subst⁻¹, ◌∙◌}
use mathlib.Core.Bool.{Bool}
use mathlib.Core.List.{List, Memᴰ}
use mathlib.Core.Logic.{⊎_elim}
use Prim.Native.Nat.{ℕ, suc, ◌+◌, ◌<◌, ◌≤◌}
use native.Mathlib.Numerals.{add-one}
use native.Mathlib.Omega.{arith}
use lib.ListN.{length}
use Rattle.laws.proofs.Sets.{Within}
use Rattle.tcc.specs.Score.{Score}
use Rattle.words.specs.Word.{word_at}
use Rattle.words.proofs.Field.{field_below}
use Rattle.format.specs.Decode.{decode}
use Rattle.format.proofs.Decode.{on_rules}
use Rattle.flags.specs.Flags.{set_of}
use Rattle.instant_store.specs.PassBound.{pass, after, Adds, PassCount, last, more}
use Rattle.instant_store.specs.Passes.{HasFacts, Passed, Repeated}
use Rattle.flags.proofs.Flags.{set_length_le}
use Rattle.instant_store.proofs.Pass.{Flagged, pass_long, pass_kept, pass_facts, pass_changes, adds_longer, after_next}

pub conclusions_flagged : (s : List ℕ) (store : List Bool) → length store ≡ 256 → Within (Flagged store) (decode s).rules
conclusions_flagged s store long = on_rules s (Flagged store) (λ k from lt. omega (arith, field_below (word_at s k) 0 8))

pub record Repeating (sc : Score) (before later : List Bool) (n : ℕ) : Type 0 where
  pub long : length later ≡ 256
  pub made : later ≡ after sc.rules n before
  pub facts_in : (n ≡ 0 → ⊥) → HasFacts sc later
  pub larger : length (set_of before) + n ≤ length (set_of later)
  pub onward : (k : ℕ) → PassCount sc.rules later k → PassCount sc.rules before (n + k)

module _ (sc : Score) where
  pub repeating_none : (store : List Bool) → length store ≡ 256 → Repeating sc store store 0
  repeating_none store long = record {
    long = long;
    made = refl;
    facts_in = λ some. absurd (some refl);
    larger = omega arith;
    onward = λ k c. let e : k ≡ 0 + k = omega arith in subst (PassCount sc.rules store) e c;
  }

  module _ (store later : List Bool) (added : ℕ) (h : Passed sc store later added) where
    made_long : length (set_of (pass sc.rules store)) ≡ length (set_of store) + added
    made_long = ap (λ l. length (set_of l)) (sym h.made) ∙ h.counted

    added_none : added ≡ 0 → pass sc.rules store ≡ store
    added_none none = ⊎_elim
        (λ (e : pass sc.rules store ≡ store). e)
        (λ (a : Adds store (pass sc.rules store)). absurd (omega (arith, made_long, adds_longer store (pass sc.rules store) a (pass_long sc.rules store) (pass_kept sc.rules store))))
        (pass_changes sc.rules store)

    added_some : 0 < added → Adds store (pass sc.rules store)
    added_some some = ⊎_elim
        (λ (e : pass sc.rules store ≡ store). absurd (omega (arith, made_long, ap (λ l. length (set_of l)) e)))
        (λ (a : Adds store (pass sc.rules store)). a)
        (pass_changes sc.rules store)

  module _ (before store later : List Bool) (n added : ℕ) (h : Repeating sc before store n) (p : Passed sc store later added) where
    made_more : later ≡ after sc.rules (n + 1) before
    made_more = p.made ∙ ap (pass sc.rules) h.made ∙ sym (after_next sc.rules n before) ∙ ap (λ k. after sc.rules k before) (sym (add-one n))

    pub repeating_more : Within (Flagged store) sc.rules → 0 < added → Repeating sc before later (n + 1)
    repeating_more few some = record {
      long = ap length p.made ∙ pass_long sc.rules store ∙ h.long;
      made = made_more;
      facts_in = λ _ r m none. subst⁻¹ (λ l. Memᴰ r.conclusion (set_of l)) p.made (pass_facts sc.rules store few r m none);
      larger = omega (arith, h.larger, p.counted);
      onward = λ k c. let e : n + suc k ≡ n + 1 + k = omega arith in subst (PassCount sc.rules before) e (h.onward (suc k) (more (added_some store later added p some) (subst (λ l. PassCount sc.rules l k) p.made c)));
    }

    pub repeating_all : added ≡ 0 → Repeated sc before later (n + 1)
    repeating_all none = record { made = made_more; counted = h.onward 1 (last (added_none store later added p none)) }

pub repeating_few : (sc : Score) (before later : List Bool) (n : ℕ) → Repeating sc before later n → n ≤ 256
repeating_few sc before later n h = omega (arith, h.larger, h.long, set_length_le later)
