-- A pass over the rules, word by word, and the clash, token by token.
--     adds_applied       a rule whose word adds its conclusion, which was out, brings it in
--     skips_applied      any other changes nothing, if a fact that is not looked for is in
--     Passing            what a pass has done when it comes to word k
--     passing_none       nothing at the first rule
--     passing_skipped    a rule passed over
--     passing_added      a rule whose conclusion is taken up
--     passing_all        past the last word the pass is done
--     flooded            the flags below n set, and the others as they were
use mathlib.Core.Path.{◌≡◌, refl, sym, ap, ◌∙◌}
use mathlib.Core.Bool.{Bool, true, false, not, ◌&&◌, ◌||◌}
use mathlib.Core.List.{List, [], map, Memᴰ}
use mathlib.Core.Logic.{inl, inr, by_cases}
use Prim.Native.Nat.{ℕ, ◌+◌, ◌-◌, ◌≤◌, ◌<◌}
use native.Mathlib.Numerals.{add-one}
use native.Mathlib.Decide.{dec_lt}
use native.Mathlib.Omega.{arith}
use lib.ListN.{length, get_or, set, drop, replicate, length-set, length-append, length-drop, length-replicate, get_or-replicate, drop_of_length-le}
use Rattle.std.proofs.Common.{◌++◌}
use Rattle.std.proofs.lemmas.List.{get_or-drop, get_or_append_left, get_or-append_right}
use lib.Seq.{drop-cons}
use borrow.Author.Tests.{not-true}
use Rattle.laws.proofs.Booleans.{and_both, neither}
use Rattle.words.specs.Word.{field, words, word_at}
use Rattle.words.proofs.Field.{field_below}
use Rattle.format.specs.Format.{is_fact, rule_of}
use Rattle.format.specs.Decode.{decode}
use Rattle.format.proofs.Decode.{rules_from, rule_member}
use Rattle.format.proofs.Rule.{premises_fact, premises_plain}
use Rattle.flags.specs.Flags.{set_of}
use Rattle.instant_store.specs.PassBound.{applied, pass}
use Rattle.instant_store.specs.Passes.{HasFacts, adds, Passed, Flooded}
use Rattle.instant_store.proofs.Pass.{applied_brings, applied_keeps, applied_already}
use Rattle.flags.proofs.Flags.{member_flag, flag_member, set_kept, set_longer}

-- two premises
both : (a b : Bool) → (a && (b && true)) ≡ (a && b)
both true true = refl
both true false = refl
both false b = refl

module _ (store : List Bool) (w : ℕ) (facts : Bool) where
  pub adds_applied : adds store w facts ≡ true → (get_or store (field w 0 8) false ≡ false) × (applied (rule_of w) store ≡ set store (field w 0 8) true)
  adds_applied e =
      let parts = and_both (not (get_or store (field w 0 8) false)) _ e in
      (not-true _ parts.0, by_bit (is_fact w) refl parts.1)
    where
      first : (a b : Bool) → (a || (b && false)) ≡ true → a ≡ true
      first true b h = refl
      first false true h = h
      first false false h = h

      by_bit : (b : Bool) → is_fact w ≡ b → ((get_or store (field w 8 8) false && get_or store (field w 16 8) false) || (facts && is_fact w)) ≡ true → applied (rule_of w) store ≡ set store (field w 0 8) true
      by_bit true f h = applied_brings (rule_of w) store (premises_fact w f) refl
      by_bit false f h = applied_brings (rule_of w) store (premises_plain w f) (both (get_or store (field w 8 8) false) (get_or store (field w 16 8) false) ∙ first (get_or store (field w 8 8) false && get_or store (field w 16 8) false) facts (rw f at h))

  pub skips_applied : adds store w facts ≡ false → (facts ≡ false → (rule_of w).premises ≡ [] → Memᴰ (field w 0 8) (set_of store)) → applied (rule_of w) store ≡ store
  skips_applied e fact = by_flag (get_or store (field w 0 8) false) refl
    where
      off : (b : Bool) → (b && true) ≡ false → b ≡ false
      off true h = h
      off false h = refl

      by_bit : (b : Bool) → is_fact w ≡ b → (get_or store (field w 8 8) false && get_or store (field w 16 8) false) ≡ false → (facts && is_fact w) ≡ false → applied (rule_of w) store ≡ store
      by_bit true f h g = applied_already (rule_of w) store (member_flag store (fact (off facts (rw f at g)) (premises_fact w f)))
      by_bit false f h g = applied_keeps (rule_of w) store (premises_plain w f) (both (get_or store (field w 8 8) false) (get_or store (field w 16 8) false) ∙ h)

      by_flag : (b : Bool) → get_or store (field w 0 8) false ≡ b → applied (rule_of w) store ≡ store
      by_flag true f = applied_already (rule_of w) store f
      by_flag false f =
          let none = neither (get_or store (field w 8 8) false && get_or store (field w 16 8) false) (facts && is_fact w) (rw f at e) in
          by_bit (is_fact w) refl none.0 none.1

pub record Passing (s : List ℕ) (k : ℕ) (facts : Bool) (before later : List Bool) (added : ℕ) : Type 0 where
  pub long : length later ≡ 256
  pub rest : pass (decode s).rules before ≡ pass (map rule_of (drop k (words s))) later
  pub counted : length (set_of later) ≡ length (set_of before) + added
  pub facts_in : facts ≡ false → HasFacts (decode s) later

pub passing_none : (s : List ℕ) (k : ℕ) (facts : Bool) (store : List Bool) → k ≡ rules_from s → length store ≡ 256 → (facts ≡ false → HasFacts (decode s) store) → Passing s k facts store store 0
unfolding decode
passing_none s k facts store start long facts_in = record {
  long = long;
  rest = ap (λ n. pass (map rule_of (drop n (words s))) store) (sym start);
  counted = omega arith;
  facts_in = facts_in;
}

-- the rules from word k on
rules_at : (s : List ℕ) (k : ℕ) (store : List Bool) → k < length (words s) →
    pass (map rule_of (drop k (words s))) store ≡ pass (map rule_of (drop (k + 1) (words s))) (applied (rule_of (word_at s k)) store)
rules_at s k store within = rw (add-one, drop-cons (words s) k 0 within)

module _ (s : List ℕ) (k : ℕ) (facts : Bool) (before later : List Bool) (added : ℕ) (h : Passing s k facts before later added) where
  pub passing_skipped : rules_from s ≤ k → k < length (words s) → adds later (word_at s k) facts ≡ false → Passing s (k + 1) facts before later added
  passing_skipped start within e = record {
    long = h.long;
    rest = h.rest ∙ rules_at s k later within ∙ ap (pass (map rule_of (drop (k + 1) (words s)))) (skips_applied later (word_at s k) facts e (λ off. h.facts_in off (rule_of (word_at s k)) (rule_member s k start within)));
    counted = h.counted;
    facts_in = h.facts_in;
  }

  pub passing_added : k < length (words s) → adds later (word_at s k) facts ≡ true → Passing s (k + 1) facts before (set later (field (word_at s k) 0 8) true) (added + 1)
  passing_added within e =
      let token = field (word_at s k) 0 8 in
      let room : token < length later = omega (arith, h.long, field_below (word_at s k) 0 8) in
      let comes = adds_applied later (word_at s k) facts e in
      record {
        long = let l : length later ≡ 256 = h.long in omega (arith, length-set later token true);
        rest = h.rest ∙ rules_at s k later within ∙ ap (pass (map rule_of (drop (k + 1) (words s)))) comes.1;
        counted = omega (arith, h.counted, set_longer later token room comes.0);
        facts_in = λ off r m none. set_kept later token (h.facts_in off r m none);
      }

  pub passing_all : length (words s) ≤ k → Passed (decode s) before later added
  passing_all past = record {
    made = sym (h.rest ∙ ap (λ l. pass (map rule_of l) later) (drop_of_length-le (words s) past));
    counted = h.counted;
  }

pub flooded : (n : ℕ) (before : List Bool) → n ≤ 256 → length before ≡ 256 → Flooded n before (replicate n true ++ drop n before)
flooded n before few long = record {
  long = omega (arith, length-append (replicate n true) (drop n before), length-replicate n true, length-drop n before);
  kept = λ t m. by_cases (dec_lt t n) (λ l. in_first t l) (λ g. flag_member now (beyond t (omega arith) ∙ member_flag before m));
  filled = in_first;
  only = λ t m. by_cases (dec_lt t n) (λ (l : t < n). inl l) (λ g. inr (flag_member before (sym (beyond t (omega arith)) ∙ member_flag now m)));
}
  where
    now : List Bool
    now = replicate n true ++ drop n before

    in_first : (t : ℕ) → t < n → Memᴰ t (set_of now)
    in_first t l = flag_member now (get_or_append_left (replicate n true) (drop n before) false t (omega (arith, length-replicate n true)) ∙ get_or-replicate n t true false l)

    beyond : (t : ℕ) → n ≤ t → get_or now t false ≡ get_or before t false
    beyond t g =
        let e : n + (t - n) ≡ t = omega arith in
        get_or-append_right (replicate n true) (drop n before) n t false (length-replicate n true) g
        ∙ get_or-drop n before (t - n) false
        ∙ ap (λ k. get_or before k false) e
