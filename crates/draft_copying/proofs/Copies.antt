-- How copying composes.
--     Ready                          a table that copying may begin with: its pairs rise, and each is led to
--     Asked, ready_asked             the same as the clauses of a function say it
--     Extended                       of the pairs before and after: several are there, and whatever is new has all that it
--                                    leads to there
--     extended_then                  so of more pairs, one after the other
--     extended_entered               a pair that is entered, with all that it leads to, is copied
--     AllCopied                      several pairs are there in a table, or there are too many
--     all_none, all_one, all_then    no pair, one, more pairs
--     copied_ready                   a table is ready again once a pair is copied
--     Entering, entering_given       a pair that is led to is entered in a table that is ready, as the clauses say it
--     entered_ready, entered_higher  the table is ready again; a pair that was not there makes it longer
--     entered_led                    what it leads to is led to
--     entered_over                   where there is no room for it, there are too many
--     copied_there                   a pair that is there already is copied
--     copied_all                     so is one that is entered, once all that it leads to is copied
--     large_misfit, over_misfit      a plain score with too many agents or procedures passes a limit, and so one of a draft
--                                    with too many pairs of agents or of procedures
--     copied_places                  what the start leads to, copied, is all pairs of a draft
use mathlib.Core.Path.{◌≡◌, refl, sym, ap, subst, subst⁻¹, ◌∙◌}
use mathlib.Core.Bool.{Bool, true, false, ◌&&◌}
use mathlib.Core.List.{List, [], ◌∷◌, ◌++◌, Memᴰ}
use mathlib.Core.Logic.{◌⊎◌, inl, inr, ⊎_elim}
use Prim.Native.Nat.{ℕ, ◌<◌, ◌≤◌}
use native.Mathlib.Omega.{arith}
use borrow.Author.Tests.{leb-true}
use lib.Dec.{leb}
use lib.ListN.{length, length-map}
use Rattle.std.specs.Prelude.{Option, Some, None, IfSome, IfNone}
use Rattle.laws.specs.Sets.{has}
use Rattle.laws.specs.Rising.{Rising}
use Rattle.laws.proofs.Booleans.{true_is_false, and_both}
use Rattle.laws.proofs.Sets.{Within, Among, on_cons, on_append, has_member, member_has}
use Rattle.tcc.specs.Score.{Score}
use Rattle.draft_language.specs.Draft.{Draft}
use Rattle.draft_pairs.specs.Pairs.{pair, insert}
use Rattle.draft_pairs.proofs.Rising.{insert_rising, insert_member, member_insert, insert_kept, insert_present, insert_longer, rising_among}
use Rattle.draft_table.specs.Tables.{keys, Entered}
use Rattle.draft_table.proofs.Tables.{keys_length}
use Rattle.draft_plain.specs.Places.{procedure_at, leads_to, places, agent_places, procedure_places}
use Rattle.draft_plain.specs.Plain.{plain_of, fits}
use Rattle.draft_plain.specs.Led.{Led, on, Overfull}
use Rattle.draft_plain.proofs.Copying.{Over, places_unique, overfull_over}
use Rattle.draft_copying.specs.Copied.{Copied, CopiedTo, PlacesIn}

pub record Ready (d : Draft) (count : ℕ) (table : List (List ℕ)) : Type 0 where
  pub long : length table ≡ 1088
  pub few : count ≤ 1088
  pub rising : Rising (keys count table)
  pub led : Within (Led d) (keys count table)

abbrev Asked : Draft → ℕ → List (List ℕ) → Type 0
Asked d count table = (length table ≡ 1088) × ((count ≤ 1088) × (Rising (keys count table) × Within (Led d) (keys count table)))

pub ready_asked : {d : Draft} {count : ℕ} {table : List (List ℕ)} → Ready d count table → Asked d count table
ready_asked r = (r.long, (r.few, (r.rising, r.led)))

record Extended (d : Draft) (pairs before after : List ℕ) : Type 0 where
  rising : Rising after
  led : Within (Led d) after
  keeps : Among before after
  has : Among pairs after
  closes : (k : ℕ) → Memᴰ k after → Memᴰ k before ⊎ Among (leads_to d k) after

module _ {d : Draft} where
  extended_then : {ms ns l₀ l₁ l₂ : List ℕ} → Extended d ms l₀ l₁ → Extended d ns l₁ l₂ → Extended d (ms ++ ns) l₀ l₂
  extended_then {ms} {ns} {l₀} {l₁} {l₂} a b =
      record {
        rising = b.rising;
        led = b.led;
        keeps = λ k m. b.keeps k (a.keeps k m);
        has = on_append {P = λ k. Memᴰ k l₂} ms (λ k m. b.keeps k (a.has k m)) b.has;
        closes = λ k m. ⊎_elim (earlier k) inr (b.closes k m);
      }
    where
      earlier : (k : ℕ) → Memᴰ k l₁ → Memᴰ k l₀ ⊎ Among (leads_to d k) l₂
      earlier k m = ⊎_elim inl (λ (f : Among (leads_to d k) l₁). inr (λ i x. b.keeps i (f i x))) (a.closes k m)

  extended_entered : {key : ℕ} {before after : List ℕ} → Extended d (leads_to d key) (insert key before) after → Copied d key before after
  extended_entered {key} {before} {after} e =
      record {
        rising = e.rising;
        led = e.led;
        keeps = λ k m. e.keeps k (insert_kept key before k m);
        has = e.keeps key (member_insert key before);
        closes = λ k m. ⊎_elim (entered k) inr (e.closes k m);
      }
    where
      entered : (k : ℕ) → Memᴰ k (insert key before) → Memᴰ k before ⊎ Among (leads_to d k) after
      entered k m = ⊎_elim (λ (is : k ≡ key). inr (subst⁻¹ (λ i. Among (leads_to d i) after) is e.has)) inl (insert_member key before m)

pub record AllCopied (d : Draft) (pairs : List ℕ) (count : ℕ) (before : List (List ℕ)) (r : Option ℕ) (after : List (List ℕ)) : Type 0 where
  long : length after ≡ length before
  room : IfSome r (λ n. (count ≤ n) × (n ≤ 1088) × Extended d pairs (keys count before) (keys n after))
  full : IfNone r (Overfull d)

module _ {d : Draft} where
  pub all_none : {count : ℕ} {table : List (List ℕ)} → Ready d count table → AllCopied d [] count table (Some count) table
  all_none ready =
      record {
        long = refl;
        room = (omega arith, ready.few, record { rising = ready.rising; led = ready.led; keeps = λ k m. m; has = λ k m. elim m [ ]; closes = λ k m. inl m });
        full = tt;
      }

  pub all_one : {m count : ℕ} {before after : List (List ℕ)} (r : Option ℕ) → CopiedTo d m count before r after → AllCopied d (m ∷ []) count before r after
  all_one None c = record { long = c.long; room = tt; full = c.full }
  all_one {after = after} (Some n) c =
      let (more, few, x) = c.room in
      record {
        long = c.long;
        room = (
          more,
          few,
          record {
            rising = x.rising;
            led = x.led;
            keeps = x.keeps;
            has = on_cons {P = λ k. Memᴰ k (keys n after)} x.has (λ k y. elim y [ ]);
            closes = x.closes;
          },
        );
        full = tt;
      }

  pub all_then : {ms ns : List ℕ} {count half : ℕ} {before mid after : List (List ℕ)} (r : Option ℕ) →
      AllCopied d ms count before (Some half) mid → AllCopied d ns half mid r after → AllCopied d (ms ++ ns) count before r after
  all_then None a b = record { long = b.long ∙ a.long; room = tt; full = b.full }
  all_then (Some n) a b = record {
    long = b.long ∙ a.long;
    room = (omega (arith, a.room.0, b.room.0), b.room.1, extended_then a.room.2 b.room.2);
    full = tt;
  }

  pub copied_ready : {key count n : ℕ} {before after : List (List ℕ)} → Ready d count before → CopiedTo d key count before (Some n) after → Ready d n after
  copied_ready ready c = let (more, few, x) = c.room in record { long = c.long ∙ ready.long; few = few; rising = x.rising; led = x.led }

-- `row` is what the table has of the pair
pub record Entering (d : Draft) (key row count : ℕ) (before : List (List ℕ)) (r : Option ℕ) (after : List (List ℕ)) : Type 0 where
  pub ready : Ready d count before
  pub led : Led d key
  pub is : row ≡ key
  pub entered : Entered row count before after r

pub entering_given : {d : Draft} {key row count : ℕ} {before after : List (List ℕ)} {r : Option ℕ} → Asked d count before → Led d key → row ≡ key → Entered row count before after r → Entering d key row count before r after
entering_given asked led is entered = record { ready = record { long = asked.0; few = asked.1.0; rising = asked.1.1.0; led = asked.1.1.1 }; led = led; is = is; entered = entered }

module _ {d : Draft} {key row count : ℕ} {before after : List (List ℕ)} {r : Option ℕ} (g : Entering d key row count before r after) where
  abbrev old : List ℕ
  old = keys count before

  entered : Entered key count before after r
  entered = subst (λ k. Entered k count before after r) g.is g.entered

  many : length old ≡ count
  many = keys_length count before (omega (arith, g.ready.few, g.ready.long))

  with_key : Within (Led d) (insert key old)
  with_key k m = ⊎_elim (λ (is : k ≡ key). subst⁻¹ (Led d) is g.led) (g.ready.led k) (insert_member key old m)

  pub entered_led : Within (Led d) (leads_to d row)
  entered_led m x = on (subst⁻¹ (Led d) g.is g.led) x

pub entered_over : {d : Draft} {key row count : ℕ} {before after : List (List ℕ)} → Entering d key row count before None after → CopiedTo d key count before None after
entered_over {key = key} g =
    let (all, new) = (entered g).full in
    record {
      long = g.entered.long;
      room = tt;
      full = record {
        pairs = insert key (old g);
        rising = insert_rising key (old g) g.ready.rising;
        led = with_key g;
        many = omega (arith, many g, insert_longer key (old g) new);
      };
    }

module _ {d : Draft} {key row count n : ℕ} {before after : List (List ℕ)} (g : Entering d key row count before (Some n) after) where
  room : (n ≤ 1088) × (keys n after ≡ insert key (old g)) × (n ≡ length (insert key (old g)))
  room = (entered g).room

  entered_more : count ≤ n
  entered_more = omega (arith, many g, room.2, rising_among (old g) (insert key (old g)) g.ready.rising (insert_kept key (old g)))

  pub entered_higher : (n ≡ count → ⊥) → count < n
  entered_higher new = omega (arith, entered_more)

  pub entered_ready : Ready d n after
  entered_ready =
      let is = sym room.1 in
      record {
        long = g.entered.long ∙ g.ready.long;
        few = room.0;
        rising = subst Rising is (insert_rising key (old g) g.ready.rising);
        led = subst (Within (Led d)) is (with_key g);
      }

  pub copied_there : n ≡ count → CopiedTo d key count before (Some count) after
  copied_there same =
      let there : Memᴰ key (old g) = go (has key (old g)) refl in
      let kept : keys count after ≡ old g = ap (λ n. keys n after) (sym same) ∙ room.1 ∙ insert_present key (old g) g.ready.rising there in
      record {
        long = g.entered.long;
        room = (omega arith, g.ready.few, subst⁻¹ (Copied d key (old g)) kept (record { rising = g.ready.rising; led = g.ready.led; keeps = λ k m. m; has = there; closes = λ k m. inl m }));
        full = tt;
      }
    where
      go : (b : Bool) → has key (old g) ≡ b → Memᴰ key (old g)
      go true e = has_member key (old g) e
      go false e = absurd (omega (arith, many g, room.2, insert_longer key (old g) (λ m. true_is_false (member_has m) e)))

  pub copied_all : {ms : List ℕ} {end : List (List ℕ)} (last : Option ℕ) → leads_to d row ≡ ms → AllCopied d ms n after last end → CopiedTo d key count before last end
  copied_all None leads c = record { long = c.long ∙ g.entered.long; room = tt; full = c.full }
  copied_all {ms} {end} (Some last) leads c =
      let is : ms ≡ leads_to d key = sym leads ∙ ap (leads_to d) g.is in
      let (more, few, x) = c.room in
      record {
        long = c.long ∙ g.entered.long;
        room = (
          omega (arith, entered_more),
          few,
          extended_entered (subst (λ l. Extended d (leads_to d key) l (keys last end)) room.1 (subst (λ l. Extended d l (keys n after) (keys last end)) is x)),
        );
        full = tt;
      }

large_misfit : (sc : Score) → (1024 < length sc.agents) ⊎ (64 < length sc.roots) → fits sc ≡ false
large_misfit sc large = go (fits sc) refl
  where
    go : (b : Bool) → fits sc ≡ b → fits sc ≡ false
    go false e = e
    go true e =
        let t = leb sc.tokens 256 in
        let a = leb (length sc.agents) 1024 in
        let p = leb (length sc.roots) 64 in
        let three = (and_both (t && a && p) (leb (length sc.rules) 256) e).0 in
        let (two, roots) = and_both (t && a) p three in
        let agents = (and_both t a two).1 in
        absurd (⊎_elim (λ h. omega (arith, leb-true (length sc.agents) 1024 agents)) (λ h. omega (arith, leb-true (length sc.roots) 64 roots)) large)

pub over_misfit : (d : Draft) → Over (places d) → fits (plain_of d) ≡ false
unfolding plain_of
over_misfit d over = large_misfit (plain_of d) (⊎_elim
    (λ h. inl (subst⁻¹ (λ n. 1024 < n) (length-map (agent_places (places d)) _) h))
    (λ h. inr (subst⁻¹ (λ n. 64 < n) (length-map (procedure_places (places d)) _) h)) over)

pub copied_places : {d : Draft} {before after : List (List ℕ)} (r : Option ℕ) → length before ≡ 1088 → CopiedTo d (pair (procedure_at 0) 0) 0 before r after → PlacesIn d r after
copied_places {d} None long c = record { long = c.long ∙ long; exact = tt; over = over_misfit d (overfull_over d c.full) }
copied_places {d} {after = after} (Some n) long c =
    let (more, few, x) = c.room in
    record {
      long = c.long ∙ long;
      exact = (
        few,
        sym (places_unique d (keys n after) x.rising x.led
            (record { starts = x.has; leads = λ k m. ⊎_elim (λ y. absurd (mathlib.Core.List.Memᴰ.not-nil y)) (λ f. f) (x.closes k m) })
            (omega (arith, keys_length n after (omega (arith, c.long))))),
      );
      over = tt;
    }
