-- A multiset of a draft's copies beside one of plain copies.
--     carry                the plain copy of a draft's: of the agent at its place; an input token's tell stays as it is
--     Matches              the second has the plain copy of each copy of the first, in any order, and no more
--     pick_swap            of two copies picked one after the other, the second can be picked first
--     matches_pick         where a copy is picked from the first, its plain copy can be picked from the second
--     matches_within       what holds of the plain copies of the first holds of the second
--     matches_among, matches_same     the second has the members that the plain copies of the first are
--     matches_start        the multisets that an instant starts with match
use mathlib.Core.Path.{refl}
use mathlib.Core.List.{List, [], ◌∷◌, map, Memᴰ}
use Prim.Native.Nat.{ℕ}
use Rattle.laws.specs.Sets.{Same}
use Rattle.laws.proofs.Sets.{Within, Among, on_cons}
use Rattle.tcc.specs.Order as plain
use Rattle.tcc.proofs.Order.{pick_member, pick_left, pick_covers}
use Rattle.draft_language.specs.Order.{Copy, Item, copy, input, Pick, here, there, start}
use Rattle.draft_language.proofs.Carries.{places_of}

pick_swap : {x y : plain.Item} {l k m : List plain.Item} → plain.Pick y l k → plain.Pick x k m → (n : List plain.Item) × plain.Pick x l n × plain.Pick y n m
pick_swap plain.here q = (_, plain.there q, plain.here)
pick_swap (plain.there p) plain.here = (_, plain.here, p)
pick_swap (plain.there p) (plain.there q) = let r = pick_swap p q in (_, plain.there r.1, plain.there r.2)

module _ (place : ℕ → List ℕ → ℕ) where
  abbrev pub carry : Item → plain.Item
  carry (copy i set) = plain.agent (place i set)
  carry (input t) = plain.input t

  pub data Matches : List Item → List plain.Item → Type 0 where
    none : Matches [] []
    one : {x : Item} {l : List Item} {l' k' : List plain.Item} → plain.Pick (carry x) l' k' → Matches l k' → Matches (x ∷ l) l'

  pub matches_pick : {x : Item} {l k : List Item} {l' : List plain.Item} → Pick x l k → Matches l l' → (k' : List plain.Item) × plain.Pick (carry x) l' k' × Matches k k'
  matches_pick here (one p m) = (_, p, m)
  matches_pick (there q) (one p m) =
      let r = matches_pick q m in
      let w = pick_swap p r.1 in
      (w.0, w.1, one w.2 r.2)

  pub matches_within : {P : plain.Item → Type 0} {l : List Item} {l' : List plain.Item} → Matches l l' → Within P (map carry l) → Within P l'
  matches_within none h = h
  matches_within (one p m) h = pick_covers p (h _ (Memᴰ.head refl)) (matches_within m (λ y k. h y (Memᴰ.tail k)))

  matches_among : {l : List Item} {l' : List plain.Item} → Matches l l' → Among (map carry l) l'
  matches_among none = λ y k. k
  matches_among (one p m) = on_cons (pick_member p) (λ y k. pick_left p y (matches_among m y k))

  pub matches_same : {l : List Item} {l' : List plain.Item} → Matches l l' → Same (map carry l) l'
  matches_same {l} m y = (matches_among m y, matches_within {P = λ z. Memᴰ z (map carry l)} m (λ z k. k) y)

  pub matches_start : (copies : List Copy) (inputs : List ℕ) → Matches (start copies inputs) (plain.start (places_of place copies) inputs)
  matches_start [] [] = none
  matches_start [] (t ∷ inputs) = one plain.here (matches_start [] inputs)
  matches_start (c ∷ copies) inputs = one plain.here (matches_start copies inputs)
