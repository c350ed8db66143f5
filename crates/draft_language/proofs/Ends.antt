-- A quiet end of a draft's instant, carried over.
--     watched_same         the token that stands for a set is in where a token of the set is
--     Rests                a plain agent is still, and leaves awake the places of what its copy leaves awake
--     unless_rests, next_rests, rests      so it is where the copy stays
--     ItemRests, items_rest, rest_still, awake_places     and so of all copies of a multiset
--     woken_stands, awake_stands           what a draft leaves awake stands under its set
--     Ended, quiet_ends    so a quiet end is carried over to a quiet end
use mathlib.Core.Path.{◌≡◌, refl, sym, ap, ap₂, ◌∙◌}
use mathlib.Core.Bool.{Bool, true, false, cond, ◌||◌}
use mathlib.Core.List.Memᴰ
use mathlib.Core.List.{List, [], ◌∷◌, ◌++◌, map, map-append}
use mathlib.Core.Logic.{inl, inr}
use Prim.Native.Nat.{ℕ}
use Rattle.laws.specs.Sets.{Same, has}
use Rattle.laws.proofs.Booleans.{true_is_false, either}
use Rattle.laws.proofs.Sets.{Within, on_map, has_member, member_has, not_has}
use Rattle.tcc.specs.Score.{Score, agent_at}
use Rattle.tcc.specs.Order as plain
use Rattle.tcc.specs.Instant.{leaves, left_awake}
use Rattle.tcc.specs.declared.Agent.{Agent}
use Rattle.tcc.specs.declared.Agent.TheVariants.{Skip, Abort, Tell, Parallel, When, Next, Unless, Call}
use Rattle.tcc.proofs.Order.{agents_in}
use Rattle.tcc.proofs.Moves.{stuck_quiet}
use Rattle.draft_language.specs.Draft.{Draft, draft_agent_at}
use Rattle.draft_language.specs.Order.{Copy, Item, copy, input, Quiet, watched, wakes, awake_next}
use Rattle.draft_language.specs.declared.DraftAgent.{DraftAgent}
use Rattle.draft_language.specs.declared.DraftAgent.TheVariants.{Plain, Watch}
use Rattle.draft_language.proofs.Carries.{Extends, Asks, NextCarried, Carries, StandingAll, places_of}
use Rattle.draft_language.proofs.Whens.{token_known}
use Rattle.draft_language.proofs.Steps.{DraftStuck, quiet_items}
use Rattle.draft_language.proofs.Awake.{watched_some, some_watched, none_watched, Wakes, by_next, by_unless, on_awake}
use Rattle.draft_language.proofs.Matching.{carry, matches_within, matches_same}
use Rattle.draft_language.proofs.Orders.{ItemStands, Leads, does}
use Rattle.draft_language.proofs.Sifting.{Still, ItemStill, drops_order, sift, awake_same}

module _ {d : Draft} {sc : Score} {Member : ℕ → ℕ → Type 0} {Ok : List ℕ → Type 0} {Standing : ℕ → List ℕ → Type 0} {place : ℕ → List ℕ → ℕ} (carries : Carries d sc Member Ok Standing place) where
  module _ {s p : List ℕ} (ok : Ok s) (extends : Extends d Member s p) where
    watched_same : (u : ℕ) (set : List ℕ) → Asks d sc Member Ok Standing place u set → has u p ≡ watched s set
    watched_same u set stands = go (watched s set) refl
      where
        go : (b : Bool) → watched s set ≡ b → has u p ≡ watched s set
        go true e = let (t, at, held) = watched_some e in member_has (stands.asked s p ok extends t at held) ∙ sym e
        go false e = not_has (λ m. let (t, at, held) = stands.asks s p ok extends m in true_is_false (some_watched at held) e) ∙ sym e

    -- of a copy under a set, which would wake others, and of its plain agent
    abbrev Rests : List ℕ → List Copy → Agent → Type 0
    Rests set woken a = Still p a × (leaves p a ≡ places_of place (cond (watched s set) [] woken))

    unless_rests : (u b : ℕ) {set : List ℕ} → has u p ≡ watched s set → Rests set (record { agent = b; under = set } ∷ []) (Unless u (place b set))
    unless_rests u b {set} e = (still (has u p) refl, rw e (same (watched s set)))
      where
        still : (v : Bool) → has u p ≡ v → Still p (Unless u (place b set))
        still true h = inr (u, place b set, refl, has_member u p h)
        still false h = inl (λ m. true_is_false (member_has m) h)

        same : (v : Bool) → cond v [] (place b set ∷ []) ≡ places_of place (cond v [] (record { agent = b; under = set } ∷ []))
        same true = refl
        same false = refl

    next_rests : (i : ℕ) (set : List ℕ) (b : ℕ) → NextCarried d sc Member Ok Standing place i set b → Rests set (wakes set (Plain (Next b))) (agent_at sc (place i set))
    next_rests i set b (inl x) = rw (x.0, none_watched (x.1 s ok)) (inl tt, refl)
    next_rests i set b (inr x) = rw x.1 (unless_rests x.0 b (watched_same x.0 set x.2))

    rests : (i : ℕ) (set : List ℕ) (w : DraftAgent) → Standing i set → draft_agent_at d i ≡ w → DraftStuck s w → Rests set (wakes set w) (agent_at sc (place i set))
    rests i set (Plain Skip) stands e stays = absurd stays
    rests i set (Plain Abort) stands e stays = absurd stays
    rests i set (Plain (Tell t)) stands e stays = absurd stays
    rests i set (Plain (Parallel a b)) stands e stays = absurd stays
    rests i set (Plain (When t b)) stands e stays =
        rw (does carries i set stands e).0 (inl (λ m. stays (extends.back t (token_known d carries.lawful i e t (Memᴰ.head refl)) m)), either (λ c. [] ≡ places_of place c) (watched s set) refl refl)
    rests i set (Plain (Next b)) stands e stays = next_rests i set b (does carries i set stands e).0
    rests i set (Plain (Unless t b)) stands e stays =
        let (u, is, asked, asks, body) = does carries i set stands e in
        rw is (unless_rests u b (watched_same u (t ∷ set) asks ∙ ap (λ v. v || watched s set) (not_has stays)))
    rests i set (Plain (Call q)) stands e stays = absurd stays
    rests i set (Watch t b) stands e stays = absurd stays

    abbrev ItemRests : Item → Type 0
    ItemRests (copy i set) = Rests set (wakes set (draft_agent_at d i)) (agent_at sc (place i set))
    ItemRests (input t) = ⊥

    items_rest : {l : List Item} → Quiet d l s → Within (ItemStands carries) l → Within ItemRests l
    items_rest quiet stands (copy i set) m = rests i set (draft_agent_at d i) (stands (copy i set) m) refl (quiet_items d s quiet (copy i set) m)
    items_rest quiet stands (input t) m = quiet_items d s quiet (input t) m

    rest_still : (x : Item) → ItemRests x → ItemStill sc p (carry place x)
    rest_still (copy i set) h = h.0
    rest_still (input t) h = h

    awake_places : (l : List Item) → Within ItemRests l → places_of place (awake_next d s l) ≡ left_awake sc p (agents_in (map (carry place) l))
    awake_places [] h = refl
    awake_places (copy i set ∷ l) h =
        map-append _ (cond (watched s set) [] (wakes set (draft_agent_at d i))) (awake_next d s l)
        ∙ ap₂ ◌++◌ (sym (h (copy i set) (Memᴰ.head refl)).1) (awake_places l (λ x m. h x (Memᴰ.tail m)))
    awake_places (input t ∷ l) h = awake_places l (λ x m. h x (Memᴰ.tail m))

  woken_stands : (i : ℕ) (set : List ℕ) → Standing i set → (b : ℕ) → Wakes (draft_agent_at d i) b → Standing b set
  woken_stands i set stands b (by_next e) = (does carries i set stands e).1
  woken_stands i set stands b (by_unless e) = (does carries i set stands e).4

  awake_stands : (s : List ℕ) (l : List Item) → Within (ItemStands carries) l → StandingAll d sc Member Ok Standing place (awake_next d s l)
  awake_stands s l stands = on_awake (λ c. Standing c.agent c.under) d s l (λ i set m e. woken_stands i set (stands (copy i set) m))

  pub record Ended (l : List Item) (s : List ℕ) (from : List plain.Item) (p : List ℕ) : Type 0 where
    pub items : List plain.Item
    pub store : List ℕ
    pub steps : List plain.Item
    pub order : plain.Order sc from p steps (plain.left items store)
    pub quiet : plain.Quiet sc items store
    pub extends : Extends d Member s store
    pub awake : Same (places_of place (awake_next d s l)) (plain.awake_next sc items)
    pub stands : StandingAll d sc Member Ok Standing place (awake_next d s l)

  pub quiet_ends : {l : List Item} {s p : List ℕ} {from : List plain.Item} → Leads carries l s from p → Quiet d l s → Ok s → Ended l s from p
  quiet_ends {l} {s} leads quiet ok =
      let p = leads.store in
      let beside = leads.beside in
      let rest = items_rest ok beside.extends quiet beside.stands in
      let still = on_map (ItemStill sc p) (carry place) l (λ x m. rest_still ok beside.extends x (rest x m)) in
      let sifted = sift sc p leads.items (matches_within place beside.matches still) in
      let order = leads.goes (drops_order sc p sifted.drops).1 in
      record {
        items = sifted.items;
        store = p;
        steps = order.0;
        order = order.1;
        quiet = stuck_quiet sc p sifted.stuck;
        extends = beside.extends;
        awake = rw (awake_places ok beside.extends l rest, ← sifted.awake) (awake_same sc p (matches_same place beside.matches));
        stands = awake_stands s l beside.stands;
      }
