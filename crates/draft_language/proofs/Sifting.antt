-- Copies of a plain score where nothing but an unless can be reduced.
--     Still, ItemStill     what is so of an agent then, and of a copy: it stays, or is an unless whose token is in
--     Drops                copies of such an unless are reduced, one after the other
--     drops_more           beside a copy that stays
--     drops_order          an order does so
--     Sifted, sift         until all the copies left stay; they leave awake what the instant says of all that there were
--     awake_among, awake_same     which is the same of multisets with the same members
use mathlib.Core.Path.{◌≡◌, refl, ap₂}
use mathlib.Core.List.{List, [], ◌∷◌, ◌++◌, Memᴰ}
use mathlib.Core.Logic.{◌⊎◌, inl, inr}
use Prim.Native.Nat.{ℕ}
use Rattle.laws.specs.Sets.{Same}
use Rattle.laws.proofs.Sets.{Within, Among, on_cons, member_has}
use Rattle.tcc.specs.Score.{Score, agent_at}
use Rattle.tcc.specs.Order.{Item, agent, input, Pick, here, there, unless, left, Order, stop, step, awake_next}
use Rattle.tcc.specs.Instant.{leaves, left_awake}
use Rattle.tcc.specs.declared.Agent.{Agent}
use Rattle.tcc.specs.declared.Agent.TheVariants.{Unless}
use Rattle.tcc.proofs.Order.{Stuck, stuck_leaves, agents_in, agents_in_lem, in_agents}
use Rattle.tcc.proofs.FixedPoint.{awake_member, member_awake}
use Rattle.tcc.proofs.Moves.{ItemStuck}

abbrev pub Still : List ℕ → Agent → Type 0
Still s a = Stuck s a ⊎ ((u : ℕ) × (b : ℕ) × (a ≡ Unless u b) × Memᴰ u s)

module _ (sc : Score) (s : List ℕ) where
  abbrev pub ItemStill : Item → Type 0
  ItemStill (agent i) = Still s (agent_at sc i)
  ItemStill (input t) = ⊥

  pub data Drops : List Item → List Item → Type 0 where
    none : {l : List Item} → Drops l l
    drop : {i u b : ℕ} {l k m : List Item} → Pick (agent i) l k → agent_at sc i ≡ Unless u b → Memᴰ u s → Drops k m → Drops l m

  drops_more : {x : Item} {l k : List Item} → Drops l k → Drops (x ∷ l) (x ∷ k)
  drops_more none = none
  drops_more (drop p e m rest) = drop (there p) e m (drops_more rest)

  pub drops_order : {l k : List Item} → Drops l k → (steps : List Item) × Order sc l s steps (left k s)
  drops_order none = (_, stop)
  drops_order (drop p e m rest) = (_, step (unless p e m) (drops_order rest).1)

  pub record Sifted (l : List Item) : Type 0 where
    pub items : List Item
    pub drops : Drops l items
    pub stuck : Within (ItemStuck sc s) items
    pub awake : left_awake sc s (agents_in l) ≡ awake_next sc items

  pub sift : (l : List Item) → Within ItemStill l → Sifted l
  sift [] h = record { items = []; drops = none; stuck = λ x m. elim m [ ]; awake = refl }
  sift (input t ∷ l) h = absurd (h (input t) (Memᴰ.head refl))
  sift (agent i ∷ l) h = go (h (agent i) (Memᴰ.head refl)) (sift l (λ x m. h x (Memᴰ.tail m)))
    where
      go : Still s (agent_at sc i) → Sifted l → Sifted (agent i ∷ l)
      go (inl stays) rest = record {
        items = agent i ∷ rest.items;
        drops = drops_more rest.drops;
        stuck = on_cons stays rest.stuck;
        awake = ap₂ ◌++◌ (stuck_leaves s (agent_at sc i) stays) rest.awake;
      }
      go (inr x) rest = record {
        items = rest.items;
        drops = drop here x.2 x.3 rest.drops;
        stuck = rest.stuck;
        awake = ap₂ ◌++◌ nothing rest.awake;
      }
        where
          nothing : leaves s (agent_at sc i) ≡ []
          nothing = rw (x.2, member_has x.3)

  awake_among : {l k : List Item} → Among l k → Among (left_awake sc s (agents_in l)) (left_awake sc s (agents_in k))
  awake_among {l} {k} h b m = let x = awake_member sc s (agents_in l) m in member_awake sc s (in_agents k (h _ (agents_in_lem l x.1))) x.2

  pub awake_same : {l k : List Item} → Same l k → Same (left_awake sc s (agents_in l)) (left_awake sc s (agents_in k))
  awake_same h b = (awake_among (λ x. (h x).0) b, awake_among (λ x. (h x).1) b)
