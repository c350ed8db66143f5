-- The computed pairs are exactly what is led to, or too many: no bound of theirs cuts a plain score that fits.
--     Closed              a list with the start that holds whatever its pairs lead to
--     Over                more agents or more procedures than a plain score can have
--     PlacesFit           no more agents and procedures than that
--     keep_either         where each entry passes one of two tests, as many as there are pass the two
--     kinds_all           each pair is of an agent or of a procedure
--     fit_short, long_over        how many pairs fit, and how many do not
--     insert_all_longer, insert_all_same      inserting leaves a list no shorter; where as long, all was there
--     lead_member, member_lead    what the pairs of a list lead to
--     grown_rising, grown_led, within_kept    what a turn keeps, and all turns
--     Ends, within_ends           the turns end where nothing new is led to, or each added a pair
--     Gathered, within_gathered, places_gathered      all that the turns from the start come to
--     places_rising       the computed pairs rise
--     places_led          each is led to
--     places_held, places_closed      where they fit, they hold whatever is led to
--     led_closed          so does any list that is closed
--     places_unique       a rising, closed list of no more than 1,088 pairs that are led to is the computed one
--     overfull_over       where there are more pairs than a plain score can have, the computed ones are too many
use mathlib.Core.Path.{◌≡◌, refl, sym, ap, ◌∙◌}
use mathlib.Core.Bool.{Bool, true, false, cond}
use mathlib.Core.List.Memᴰ
use mathlib.Core.List.{List, [], ◌∷◌, Memᴰ}
use mathlib.Core.Logic.{◌⊎◌, inl, inr, ⊎_elim}
use Prim.Native.Nat.{ℕ, zero, suc, ◌+◌, ◌<◌, ◌≤◌}
use native.Mathlib.Decide.{dec_lt}
use native.Mathlib.Omega.{arith}
use lib.Dec.{eqb, ltb, leb}
use lib.ListN.{length}
use borrow.Author.Tests.{eqb-true, eqb-false, ltb-false, le-leb}
use Rattle.laws.specs.Sets.{keep, has}
use Rattle.laws.specs.Rising.{Rising, one}
use Rattle.laws.proofs.Booleans.{true_is_false, either, by_test}
use Rattle.laws.proofs.Sets.{Within, Among, on_cons, on_append, has_member, member_has}
use Rattle.laws.proofs.Rising.{rising_unique}
use Rattle.draft_language.specs.Draft.{Draft}
use Rattle.draft_pairs.specs.Pairs.{pair, number_in, insert_all}
use Rattle.draft_plain.specs.Places.{procedure_at, leads_to, all_lead, grown, places_within, places, agent_places, procedure_places}
use Rattle.draft_pairs.proofs.Rising.{insert_present, insert_longer, insert_all_rising, insert_all_member, member_insert_all, rising_among}
use Rattle.draft_plain.specs.Led.{Led, first, on, Overfull}

pub record Closed (d : Draft) (l : List ℕ) : Type 0 where
  pub starts : Memᴰ (pair (procedure_at 0) 0) l
  pub leads : (k : ℕ) → Memᴰ k l → Among (leads_to d k) l

abbrev pub Over : List ℕ → Type 0
Over l = (1024 < length (agent_places l)) ⊎ (64 < length (procedure_places l))

pub record PlacesFit (l : List ℕ) : Type 0 where
  pub agents_fit : length (agent_places l) ≤ 1024
  pub procedures_fit : length (procedure_places l) ≤ 64

keep_either : {A : Type 0} (f g : A → Bool) → ((x : A) → f x ≡ false → g x ≡ true) → (l : List A) → length l ≤ length (keep f l) + length (keep g l)
keep_either f g h [] = omega arith
keep_either f g h (x ∷ l) = go (f x) (g x) (h x) (keep_either f g h l)
  where
    go : (b c : Bool) → (b ≡ false → c ≡ true) → length l ≤ length (keep f l) + length (keep g l) → suc (length l) ≤ length (cond b (x ∷ keep f l) (keep f l)) + length (cond c (x ∷ keep g l) (keep g l))
    go true true e rest = omega arith
    go true false e rest = omega arith
    go false true e rest = omega arith
    go false false e rest = absurd (true_is_false (e refl) refl)

kinds_all : (l : List ℕ) → length l ≤ length (agent_places l) + length (procedure_places l)
kinds_all l = keep_either (λ k. ltb (number_in k) 1024) (λ k. leb 1024 (number_in k)) (λ k e. le-leb 1024 (number_in k) (ltb-false (number_in k) 1024 e)) l

pub fit_short : (l : List ℕ) → PlacesFit l → length l ≤ 1088
fit_short l f = omega (arith, kinds_all l, f.agents_fit, f.procedures_fit)

long_over : (l : List ℕ) → 1088 < length l → Over l
long_over l h = go (dec_lt 1024 (length (agent_places l)))
  where
    go : Dec (1024 < length (agent_places l)) → Over l
    go (yes a) = inl a
    go (no a) = inr (omega (arith, kinds_all l))

insert_all_longer : (ks l : List ℕ) → Rising l → length l ≤ length (insert_all ks l)
insert_all_longer ks l r = rising_among l (insert_all ks l) r (member_insert_all ks l).1

insert_all_same : (ks l : List ℕ) → Rising l → length (insert_all ks l) ≡ length l → Among ks l
insert_all_same [] l r e = λ k m. elim m [ ]
insert_all_same (k ∷ ks) l r e = go (has k (insert_all ks l)) refl (insert_all_same ks l r)
  where
    go : (b : Bool) → has k (insert_all ks l) ≡ b → (length (insert_all ks l) ≡ length l → Among ks l) → Among (k ∷ ks) l
    go true h rest =
        let m = has_member k (insert_all ks l) h in
        let among : Among ks l = rest (ap length (sym (insert_present k (insert_all ks l) (insert_all_rising ks l r) m)) ∙ e) in
        on_cons {P = λ x. Memᴰ x l} (⊎_elim (among k) (λ x. x) (insert_all_member ks l m)) among
    go false h rest = absurd (omega (arith, insert_longer k (insert_all ks l) (λ m. true_is_false (member_has m) h), insert_all_longer ks l r))

module _ (d : Draft) where
  lead_member : (P : ℕ → Type 0) (l : List ℕ) → Within (λ k. Within P (leads_to d k)) l → Within P (all_lead d l)
  lead_member P [] h = λ m x. elim x [ ]
  lead_member P (k ∷ l) h = on_append {P = P} (leads_to d k) (h k (Memᴰ.head refl)) (lead_member P l (λ m x. h m (Memᴰ.tail x)))

  member_lead : {k : ℕ} {l : List ℕ} → Memᴰ k l → Among (leads_to d k) (all_lead d l)
  member_lead (Memᴰ.head {xs = l} e) m x = Memᴰ.append_left (all_lead d l) (rw (ap (leads_to d) e) at x)
  member_lead (Memᴰ.tail {x = y} at) m x = Memᴰ.append_right (leads_to d y) (member_lead at m x)

  grown_rising : (l : List ℕ) → Rising l → Rising (grown d l)
  grown_rising l r = insert_all_rising (all_lead d l) l r

  grown_led : (l : List ℕ) → Within (Led d) l → Within (Led d) (grown d l)
  grown_led l w k m = ⊎_elim (lead_member (Led d) l (λ i at j x. on (w i at) x) k) (w k) (insert_all_member (all_lead d l) l m)

  within_kept : (P : List ℕ → Type 0) → ((l : List ℕ) → P l → P (grown d l)) → (n : ℕ) (l : List ℕ) → P l → P (places_within d n l)
  within_kept P grows zero l p = p
  within_kept P grows (suc n) l p = either P (eqb (length (grown d l)) (length l)) p (within_kept P grows n (grown d l) (grows l p))

  abbrev Ends : ℕ → List ℕ → Type 0
  Ends n l = Among (all_lead d l) l ⊎ (n ≤ length l)

  within_ends : (n : ℕ) (l : List ℕ) → Rising l → Ends (n + length l) (places_within d n l)
  within_ends zero l r = inr (omega arith)
  within_ends (suc n) l r = by_test (Ends (suc n + length l)) (eqb (length (grown d l)) (length l))
      (λ e. inl (insert_all_same (all_lead d l) l r (eqb-true (length (grown d l)) (length l) e)))
      (λ e. more (eqb-false (length (grown d l)) (length l) e) (places_within d n (grown d l)) (within_ends n (grown d l) (grown_rising l r)))
    where
      more : (length (grown d l) ≡ length l → ⊥) → (end : List ℕ) → Ends (n + length (grown d l)) end → Ends (suc n + length l) end
      more longer end (inl a) = inl a
      more longer end (inr h) = inr (omega (arith, insert_all_longer (all_lead d l) l r))

record Gathered (d : Draft) (n : ℕ) (l : List ℕ) : Type 0 where
  rises : Rising l
  led : Within (Led d) l
  ends : Closed d l ⊎ (n < length l)

within_gathered : (d : Draft) (n : ℕ) → Gathered d n (places_within d n (pair (procedure_at 0) 0 ∷ []))
within_gathered d n =
    record {
      rises = within_kept d Rising (grown_rising d) n from one;
      led = within_kept d (Within (Led d)) (grown_led d) n from (on_cons {P = Led d} first (λ k m. elim m [ ]));
      ends = go (within_ends d n from one);
    }
  where
    from : List ℕ
    from = pair (procedure_at 0) 0 ∷ []

    go : Ends d (n + length from) (places_within d n from) → Closed d (places_within d n from) ⊎ (n < length (places_within d n from))
    go (inl a) =
        inl (record {
          starts = within_kept d (Memᴰ (pair (procedure_at 0) 0)) (λ l m. (member_insert_all (all_lead d l) l).1 (pair (procedure_at 0) 0) m) n from (Memᴰ.head refl);
          leads = λ k m i x. a i (member_lead d m i x);
        })
    go (inr h) = inr (omega arith)

places_gathered : (d : Draft) → Gathered d 1088 (places d)
unfolding places
places_gathered d = within_gathered d 1088

pub places_rising : (d : Draft) → Rising (places d)
places_rising d = (places_gathered d).rises

pub places_led : (d : Draft) → Within (Led d) (places d)
places_led d = (places_gathered d).led

places_held : (d : Draft) → length (places d) ≤ 1088 → Closed d (places d)
places_held d h = ⊎_elim (λ c. c) (λ g. absurd (omega arith)) (places_gathered d).ends

pub places_closed : (d : Draft) → PlacesFit (places d) → Closed d (places d)
places_closed d f = places_held d (fit_short (places d) f)

pub led_closed : (d : Draft) (l : List ℕ) → Closed d l → (k : ℕ) → Led d k → Memᴰ k l
led_closed d l c k first = c.starts
led_closed d l c k (on {k = i} led m) = c.leads i (led_closed d l c i led) k m

pub places_unique : (d : Draft) (l : List ℕ) → Rising l → Within (Led d) l → Closed d l → length l ≤ 1088 → places d ≡ l
places_unique d l r w c few =
    let among : Among (places d) l = λ k m. led_closed d l c k (places_led d k m) in
    let held : Closed d (places d) = places_held d (omega (arith, rising_among (places d) l (places_rising d) among)) in
    rising_unique (places_rising d) r (λ k. (among k, λ m. led_closed d (places d) held k (w k m)))

pub overfull_over : (d : Draft) → Overfull d → Over (places d)
overfull_over d o = long_over (places d) (⊎_elim
    (λ (c : Closed d (places d)). omega (arith, o.many, rising_among o.pairs (places d) o.rising (λ k m. led_closed d (places d) c k (o.led k m))))
    (λ (h : 1088 < length (places d)). h) (places_gathered d).ends)
