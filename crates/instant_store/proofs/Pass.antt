-- Laws of passes over rules.
--     applied_brings     a rule whose premises are in brings its conclusion
--     applied_keeps      any other changes nothing
--     applied_already    nor does one whose conclusion is in
--     pass_long          a pass leaves as many flags
--     pass_kept          what is in stays
--     Flagged            a rule's conclusion has a flag
--     pass_facts         a pass takes up the facts
--     pass_follows       a store that a pass leaves as it was follows the rules
--     pass_changes       a pass leaves a store as it was, or adds a token
--     adds_longer        there are more tokens where one was added
--     after_next         one pass more
use mathlib.Core.Path.{◌≡◌, refl, sym, ap, subst, ◌∙◌}
use mathlib.Core.Bool.{Bool, true, false}
use mathlib.Core.List.{List, [], ◌∷◌, Memᴰ}
use mathlib.Core.Logic.{◌⊎◌, inl, inr, ⊎_elim, by_cases}
use Prim.Native.Nat.{ℕ, zero, suc, ◌<◌}
use native.Mathlib.Decide.{dec_lt}
use native.Mathlib.Omega.{arith}
use lib.ListN.{length, get_or, set, length-set, get_or-eq_default}
use Rattle.laws.specs.Sets.{every}
use Rattle.laws.proofs.Booleans.{true_is_false, by_test, either}
use Rattle.laws.proofs.Sets.{Within, Among, on_cons, each_every}
use Rattle.tcc.specs.Closure.{Rule}
use Rattle.tcc.proofs.Closure.{Follows}
use Rattle.flags.specs.Flags.{set_of}
use Rattle.instant_store.specs.PassBound.{applied, pass, after, Adds}
use Rattle.flags.proofs.Flags.{flag_member, member_flag, set_kept, set_here, set_cases, set_again, set_longer, set_more}

module _ (r : Rule ℕ) (store : List Bool) where
  applied_long : length (applied r store) ≡ length store
  applied_long = either (λ l. length l ≡ length store) (every (λ p. get_or store p false) r.premises) (length-set store r.conclusion true) refl

  applied_kept : {t : ℕ} → Memᴰ t (set_of store) → Memᴰ t (set_of (applied r store))
  applied_kept {t} m = either (λ l. Memᴰ t (set_of l)) (every (λ p. get_or store p false) r.premises) (set_kept store r.conclusion m) m

  applied_in : r.conclusion < length store → every (λ p. get_or store p false) r.premises ≡ true → Memᴰ r.conclusion (set_of (applied r store))
  applied_in room all = rw all (set_here store r.conclusion room)

  pub applied_brings : {premises : List ℕ} → r.premises ≡ premises → every (λ p. get_or store p false) premises ≡ true → applied r store ≡ set store r.conclusion true
  applied_brings e all = rw (e, all)

  pub applied_keeps : {premises : List ℕ} → r.premises ≡ premises → every (λ p. get_or store p false) premises ≡ false → applied r store ≡ store
  applied_keeps e none = rw (e, none)

  pub applied_already : get_or store r.conclusion false ≡ true → applied r store ≡ store
  applied_already e = either (λ l. l ≡ store) (every (λ p. get_or store p false) r.premises) (set_again store r.conclusion e) refl

pub pass_long : (rules : List (Rule ℕ)) (store : List Bool) → length (pass rules store) ≡ length store
pass_long [] store = refl
pass_long (r ∷ rules) store = pass_long rules (applied r store) ∙ applied_long r store

pub pass_kept : (rules : List (Rule ℕ)) (store : List Bool) → Among (set_of store) (set_of (pass rules store))
pass_kept [] store t m = m
pass_kept (r ∷ rules) store t m = pass_kept rules (applied r store) t (applied_kept r store m)

abbrev pub Flagged : List Bool → Rule ℕ → Type 0
Flagged store r = r.conclusion < length store

flagged_next : (r : Rule ℕ) (rules : List (Rule ℕ)) (store : List Bool) → Within (Flagged store) (r ∷ rules) → Within (Flagged (applied r store)) rules
flagged_next r rules store few q m = let l : q.conclusion < length store = few q (Memᴰ.tail m) in omega (arith, applied_long r store)

-- a conclusion that a rule brings is there after the rules behind it
brought : (r : Rule ℕ) (rules : List (Rule ℕ)) (store : List Bool) → Flagged store r → every (λ p. get_or store p false) r.premises ≡ true → Memᴰ r.conclusion (set_of (pass rules (applied r store)))
brought r rules store room all = pass_kept rules (applied r store) r.conclusion (applied_in r store room all)

pub pass_facts : (rules : List (Rule ℕ)) (store : List Bool) → Within (Flagged store) rules → Within (λ r. r.premises ≡ [] → Memᴰ r.conclusion (set_of (pass rules store))) rules
pass_facts [] store few = λ r m. elim m [ ]
pass_facts (r ∷ rules) store few = on_cons
    (λ none. brought r rules store (few r (Memᴰ.head refl)) (ap (every (λ p. get_or store p false)) none))
    (pass_facts rules (applied r store) (flagged_next r rules store few))

pub pass_follows : (rules : List (Rule ℕ)) (store : List Bool) → Within (Flagged store) rules → pass rules store ≡ store → Follows (λ t. Memᴰ t (set_of store)) rules
pass_follows [] store few e = λ r m. elim m [ ]
pass_follows (r ∷ rules) store few e = on_cons
    (λ premises. comes (each_every (λ p. get_or store p false) r.premises (λ p m. member_flag store (premises p m))))
    (pass_follows rules store (λ q m. few q (Memᴰ.tail m)) (ap (pass rules) (sym still) ∙ e))
  where
    comes : every (λ p. get_or store p false) r.premises ≡ true → Memᴰ r.conclusion (set_of store)
    comes all = subst (λ l. Memᴰ r.conclusion (set_of l)) e (brought r rules store (few r (Memᴰ.head refl)) all)

    still : applied r store ≡ store
    still = by_test (λ l. l ≡ store) (every (λ p. get_or store p false) r.premises) (λ all. set_again store r.conclusion (member_flag store (comes all))) (λ _. refl)

-- flags of which none was cleared are as they were, or one was set
grown : (l k : List Bool) → length l ≡ length k → ((i : ℕ) → get_or l i false ≡ true → get_or k i false ≡ true) → (l ≡ k) ⊎ Adds l k
grown [] [] e h = inl refl
grown [] (c ∷ k) e h = absurd (omega arith)
grown (b ∷ l) [] e h = absurd (omega arith)
grown (b ∷ l) (c ∷ k) e h = by_first b c (h 0) (grown l k (omega arith) (λ i. h (suc i)))
  where
    further : (b : Bool) → (l ≡ k) ⊎ Adds l k → (b ∷ l ≡ b ∷ k) ⊎ Adds (b ∷ l) (b ∷ k)
    further b = ⊎_elim (λ q. inl (ap (λ x. b ∷ x) q)) (λ a. inr (record { token = suc a.token; out = a.out; comes_in = a.comes_in }))

    by_first : (b c : Bool) → (b ≡ true → c ≡ true) → (l ≡ k) ⊎ Adds l k → (b ∷ l ≡ c ∷ k) ⊎ Adds (b ∷ l) (c ∷ k)
    by_first true true h rest = further true rest
    by_first true false h rest = absurd (true_is_false (h refl) refl)
    by_first false true h rest = inr (record { token = 0; out = refl; comes_in = refl })
    by_first false false h rest = further false rest

pub pass_changes : (rules : List (Rule ℕ)) (store : List Bool) → (pass rules store ≡ store) ⊎ Adds store (pass rules store)
pass_changes rules store = ⊎_elim
    (λ (e : store ≡ pass rules store). inl (sym e))
    (λ (a : Adds store (pass rules store)). inr a)
    (grown store (pass rules store) (sym (pass_long rules store)) (λ i e. member_flag (pass rules store) (pass_kept rules store i (flag_member store e))))

pub adds_longer : (before later : List Bool) → Adds before later → length later ≡ length before → Among (set_of before) (set_of later) → length (set_of before) < length (set_of later)
adds_longer before later a long kept = by_cases (dec_lt a.token (length before))
    (λ room. omega (
      arith,
      set_longer before a.token room a.out,
      set_more (set before a.token true) later (long ∙ sym (length-set before a.token true))
          (λ j m. ⊎_elim (λ (e : j ≡ a.token). flag_member later (rw e a.comes_in)) (kept j) (set_cases before a.token m)),
    ))
    (λ g. absurd (true_is_false a.comes_in (get_or-eq_default later false (omega arith))))

pub after_next : (rules : List (Rule ℕ)) (n : ℕ) (store : List Bool) → after rules (suc n) store ≡ pass rules (after rules n store)
after_next rules zero store = refl
after_next rules (suc n) store = after_next rules n (pass rules store)
