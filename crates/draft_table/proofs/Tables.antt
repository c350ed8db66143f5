-- Laws of a table of pairs in rising order. Over rising lists:
--     placed_index, placed_member           where a number stands that is there
--     placed_present, placed_absent         what stands at its place tells whether it is there
--     placed_insert                         a number that is not there is inserted at its place
--     placed_keep                           what is below a bound stands before the bound's place, the others after it
-- and over tables:
--     keys_length, keys_at                  how many pairs are in use, and which
--     rows_parted, rows_placed              in rising order the rows below a number come first, and then the others
--     RoomMade, room_made, room_keys        the pairs in use once a row is put where room was made
--     entered_present, entered_full, entered_new     what entering a pair leaves
use mathlib.Core.Path.{◌≡◌, refl, sym, ap, ap₂, subst, ◌∙◌}
use mathlib.Core.Bool.{Bool, true, false, not}
use mathlib.Core.List.{List, [], ◌∷◌, ◌++◌, map, Memᴰ}
use mathlib.Core.Logic.{◌⊎◌, ⊎_elim, by_cases}
use Prim.Native.Nat.{ℕ, zero, suc, ◌+◌, ◌-◌, ◌<◌, ◌≤◌}
use native.Mathlib.Decide.{dec_lt}
use native.Mathlib.Nat.{not-suc-le-zero, le_of_suc-le-suc}
use native.Mathlib.Numerals.{add-one}
use native.Mathlib.Omega.{arith}
use borrow.Author.Tests.{ltb-true, ltb-false, lt-ltb, le-ltb, ne_eqb}
use lib.Dec.{ltb}
use Rattle.std.specs.Prelude.{Some, None}
use Rattle.std.specs.List.{CopiedTo, SameBelow, SameFrom}
use Rattle.std.specs.List.Sorted.{IsPartitionedBy, IsPartitionPoint}
use lib.ListN.{length, take, drop, get_or, set, length-map, length-set}
use lib.Seq.{length-take-le, take-nil, drop-nil, get_or-take, get_or-set_same, get_or-set_other, ext_get_or}
use Rattle.laws.specs.Sets.{keep}
use Rattle.laws.specs.Rising.{Rising, none, one, more}
use Rattle.laws.proofs.Lists.{entry_member, map_at}
use Rattle.draft_pairs.specs.Pairs.{insert, index_of}
use Rattle.draft_pairs.proofs.Rising.{index_below, index_at, insert_present, insert_longer}
use Rattle.draft_pairs.specs.Rows.{row_value}
use Rattle.draft_table.specs.Tables.{keys, Placed, Entered}

rising_next : {k : ℕ} {l : List ℕ} → Rising (k ∷ l) → (j : ℕ) → j < length l → k < get_or l j 0
rising_next one j h = absurd (not-suc-le-zero h)
rising_next (more h r) zero g = h
rising_next (more h r) (suc j) g = omega (arith, rising_next r j (le_of_suc-le-suc g))

rising_order : {l : List ℕ} → Rising l → (i j : ℕ) → i < j → j < length l → get_or l i 0 < get_or l j 0
rising_order none i j h g = absurd (not-suc-le-zero g)
rising_order one i j h g = absurd (omega arith)
rising_order (more h r) i zero g b = absurd (not-suc-le-zero g)
rising_order (more h r) zero (suc j) g b = rising_next (more h r) j (le_of_suc-le-suc b)
rising_order (more h r) (suc i) (suc j) g b = rising_order r i j (le_of_suc-le-suc g) (le_of_suc-le-suc b)

rising_upto : {l : List ℕ} → Rising l → (i j : ℕ) → i ≤ j → j < length l → get_or l i 0 ≤ get_or l j 0
rising_upto {l} r i j h b = by_cases (dec_lt i j) (λ lt. omega (arith, rising_order r i j lt b)) (λ ge. let e : i ≡ j = omega arith in omega (arith, ap (λ n. get_or l n 0) e))

module _ {l : List ℕ} {key at : ℕ} (r : Rising l) (p : Placed l key at) where
  pub placed_index : Memᴰ key l → index_of key l ≡ at
  placed_index m =
      let i : ℕ = index_of key l in
      let b : i < length l = index_below key l m in
      let e : get_or l i 0 ≡ key = index_at key l m in
      by_cases (dec_lt i at) (λ lt. absurd (omega (arith, p.lower i lt)))
      (λ ge. by_cases (dec_lt at i) (λ lt. absurd (omega (arith, rising_order r at i lt b, p.upper at (omega arith) (omega arith)))) (λ le. omega arith))

  pub placed_member : Memᴰ key l → (at < length l) × (get_or l at 0 ≡ key)
  placed_member m = let e = placed_index m in (subst (λ n. n < length l) e (index_below key l m), subst (λ n. get_or l n 0 ≡ key) e (index_at key l m))

  pub placed_absent : (at ≡ length l) ⊎ (key < get_or l at 0) → Memᴰ key l → ⊥
  placed_absent h m = let g = placed_member m in ⊎_elim (λ e. omega arith) (λ lt. omega arith) h

pub placed_present : {l : List ℕ} {key at : ℕ} → Placed l key at → at < length l → get_or l at 0 ≤ key → Memᴰ key l
placed_present {l} {key} {at} p h le =
    let e : get_or l at 0 ≡ key = omega (arith, p.upper at (omega arith) h) in
    subst (λ k. Memᴰ k l) e (entry_member l at h)

-- without the first entry
placed_later : {m key at : ℕ} {l : List ℕ} → Placed (m ∷ l) key (suc at) → Placed l key at
placed_later p = record {
  within = le_of_suc-le-suc p.within;
  lower = λ j h. p.lower (suc j) (omega arith);
  upper = λ j h b. p.upper (suc j) (omega arith) (omega arith);
}

placed_first : {m key : ℕ} {l : List ℕ} → Placed (m ∷ l) key zero → Placed l key zero
placed_first p = record {
  within = omega arith;
  lower = λ j h. absurd (not-suc-le-zero h);
  upper = λ j h b. p.upper (suc j) (omega arith) (omega arith);
}

pub placed_insert : {l : List ℕ} {key at : ℕ} → Placed l key at → (Memᴰ key l → ⊥) → insert key l ≡ take at l ++ key ∷ drop at l
placed_insert {l = []} {key} {at = zero} p new = refl
placed_insert {l = []} {key} {at = suc at} p new = absurd (not-suc-le-zero p.within)
placed_insert {l = m ∷ l} {key} {at = zero} p new =
    let other : key ≡ m → ⊥ = λ e. new (Memᴰ.head e) in
    rw (lt-ltb key m (omega (arith, p.upper zero (omega arith) (omega arith))))
placed_insert {l = m ∷ l} {key} {at = suc at} p new =
    let lt : m < key = p.lower zero (omega arith) in
    rw (le-ltb key m (omega arith), ne_eqb key m (omega arith)) (ap (λ k. m ∷ k) (placed_insert (placed_later p) (λ x. new (Memᴰ.tail x))))

module _ {bound : ℕ} (f : ℕ → Bool) (is : (k : ℕ) → f k ≡ ltb k bound) where
  pub placed_keep : {l : List ℕ} {at : ℕ} → Placed l bound at → (keep f l ≡ take at l) × (keep (λ k. not (f k)) l ≡ drop at l)
  placed_keep {l = []} {at} p = (sym (take-nil at), sym (drop-nil at))
  placed_keep {l = m ∷ l} {at = zero} p =
      let rest = placed_keep (placed_first p) in
      let fails : f m ≡ false = is m ∙ le-ltb m bound (p.upper zero (omega arith) (omega arith)) in
      (rw fails rest.0, rw fails (ap (λ k. m ∷ k) rest.1))
  placed_keep {l = m ∷ l} {at = suc at} p =
      let rest = placed_keep (placed_later p) in
      let passes : f m ≡ true = is m ∙ lt-ltb m bound (p.lower zero (omega arith)) in
      (rw passes (ap (λ k. m ∷ k) rest.0), rw passes rest.1)

module _ (count : ℕ) (table : List (List ℕ)) (few : count ≤ length table) where
  pub keys_length : length (keys count table) ≡ count
  keys_length = length-map (take count table) row_value ∙ length-take-le count table few

  pub keys_at : (j : ℕ) → j < count → get_or (keys count table) j 0 ≡ row_value (get_or table j [])
  keys_at j h =
      map_at row_value (take count table) j [] 0 (omega (arith, length-take-le count table few)) ∙ ap row_value (get_or-take count table j [] h)

-- the rows below a number stand before the others
module _ (rows : List (List ℕ)) (key : ℕ) where
  value_at : (j : ℕ) (d : List ℕ) → j < length rows → get_or (map row_value rows) j 0 ≡ row_value (get_or rows j d)
  value_at j d h = map_at row_value rows j d 0 h

  pub rows_parted : Rising (map row_value rows) → IsPartitionedBy (λ row. ltb (row_value row) key) rows
  rows_parted r i j d h b t =
      lt-ltb (row_value (get_or rows i d)) key
      (omega (arith, value_at i d (omega arith), value_at j d b, rising_upto r i j h (rw length-map b), ltb-true (row_value (get_or rows j d)) key t))

  pub rows_placed : {at : ℕ} → at ≤ length rows → IsPartitionPoint (λ row. ltb (row_value row) key ≡ true) (λ row. ltb (row_value row) key ≡ false) rows at → Placed (map row_value rows) key at
  rows_placed {at} h p = record {
    within = rw length-map h;
    lower = λ j l. omega (arith, value_at j [] (omega arith), ltb-true (row_value (get_or rows j [])) key (p.0 j [] (omega arith) l));
    upper = λ j g b. let l : j < length rows = rw length-map at b in omega (arith, value_at j [] l, ltb-false (row_value (get_or rows j [])) key (p.1 j [] g l));
  }

-- the pairs from a place on stand one place further
pub record RoomMade (count at : ℕ) (before after : List (List ℕ)) : Type 0 where
  pub long : length after ≡ length before
  pub below : (k : ℕ) → k < at → get_or after k [] ≡ get_or before k []
  pub above : (k : ℕ) → at ≤ k → k < count → get_or after (k + 1) [] ≡ get_or before k []

room_made : {count at : ℕ} {before after : List (List ℕ)} → at ≤ count → length after ≡ length before →
    CopiedTo before after at (at + 1) (count - at) × SameBelow before after (at + 1) × SameFrom before after (at + 1 + (count - at)) → RoomMade count at before after
room_made {count} {at} {before} {after} h long copied =
    record {
      long = long;
      below = λ k b. copied.1 k [] (omega arith);
      above = λ k g b. let e : at + (k + 1 - (at + 1)) ≡ k = omega arith in copied.0 (k + 1) [] (omega arith) (omega arith) ∙ ap (λ i. get_or before i []) e;
    }

-- a list that is another with one entry more
spliced : {A : Type 0} (s l : List A) (v d : A) (at : ℕ) → at ≤ length l → length s ≡ suc (length l) → ((j : ℕ) → j < at → get_or s j d ≡ get_or l j d) →
    get_or s at d ≡ v → ((j : ℕ) → at ≤ j → j < length l → get_or s (suc j) d ≡ get_or l j d) → s ≡ take at l ++ v ∷ drop at l
spliced [] l v d at h long below here above = absurd (omega arith)
spliced (x ∷ s) l v d zero h long below here above = ap₂ ◌∷◌ here (ext_get_or d s l (omega arith) (λ j b. above j (omega arith) (omega arith)))
spliced (x ∷ s) [] v d (suc at) h long below here above = absurd (not-suc-le-zero h)
spliced (x ∷ s) (y ∷ l) v d (suc at) h long below here above =
    ap₂ ◌∷◌ (below zero (omega arith)) (spliced s l v d at (le_of_suc-le-suc h) (omega arith) (λ j b. below (suc j) (omega arith)) here (λ j g b. above (suc j) (omega arith) (omega arith)))

module _ {count at : ℕ} {before room : List (List ℕ)} (row : List ℕ) (few : count < length before) (made : RoomMade count at before room) (p : Placed (keys count before) (row_value row) at) where
  old : length (keys count before) ≡ count
  old = keys_length count before (omega arith)

  enough : count + 1 ≤ length (set room at row)
  enough = omega (arith, length-set room at row, made.long)

  kept : (i j : ℕ) → i < count + 1 → j < count → get_or (set room at row) i [] ≡ get_or before j [] → get_or (keys (count + 1) (set room at row)) i 0 ≡ get_or (keys count before) j 0
  kept i j h g e = keys_at (count + 1) (set room at row) enough i h ∙ ap row_value e ∙ sym (keys_at count before (omega arith) j g)

  pub room_keys : (Memᴰ (row_value row) (keys count before) → ⊥) → keys (count + 1) (set room at row) ≡ insert (row_value row) (keys count before)
  room_keys new =
      spliced (keys (count + 1) (set room at row)) (keys count before) (row_value row) 0 at p.within
      (keys_length (count + 1) (set room at row) enough ∙ add-one count ∙ ap suc (sym old))
      (λ j h. kept j j (omega (arith, old, p.within)) (omega (arith, old, p.within)) (get_or-set_other room at j row [] (λ e. omega arith) ∙ made.below j h))
      (keys_at (count + 1) (set room at row) enough at (omega (arith, old, p.within)) ∙ ap row_value (get_or-set_same room at row [] (omega (arith, old, p.within, made.long))))
      (λ j h b. kept (suc j) j (omega (arith, old)) (omega (arith, old))
      (get_or-set_other room at (suc j) row [] (λ e. omega arith) ∙ ap (λ i. get_or room i []) (sym (add-one j)) ∙ made.above j h (omega (arith, old))))
      ∙ sym (placed_insert p new)

module _ {key count at : ℕ} {table : List (List ℕ)} (few : count ≤ length table) (most : count ≤ 1088) where
  pub entered_present : Rising (keys count table) → Placed (keys count table) key at → at < count → row_value (get_or table at []) ≤ key → Entered key count table table (Some count)
  entered_present r p h le =
      let many = keys_length count table few in
      let there = placed_present p (omega arith) (omega (arith, keys_at count table few at h)) in
      let same = insert_present key (keys count table) r there in
      record { long = refl; room = (most, sym same, sym (ap length same ∙ many)); full = tt }

pub entered_full : {key count : ℕ} {table : List (List ℕ)} → count ≡ 1088 → (Memᴰ key (keys count table) → ⊥) → Entered key count table table None
entered_full e new = record { long = refl; room = tt; full = (e, new) }

pub entered_new : {count at : ℕ} {before : List (List ℕ)} (room : List (List ℕ)) (row : List ℕ) → count < length before → count < 1088 → length room ≡ length before →
    CopiedTo before room at (at + 1) (count - at) × SameBelow before room (at + 1) × SameFrom before room (at + 1 + (count - at)) →
    Placed (keys count before) (row_value row) at → (Memᴰ (row_value row) (keys count before) → ⊥) → Entered (row_value row) count before (set room at row) (Some (count + 1))
entered_new {count} {at} {before} room row few most long copied p new =
    let many = keys_length count before (omega arith) in
    let made = room_made (omega (arith, p.within, many)) long copied in
    record {
      long = length-set room at row ∙ long;
      room = (omega arith, room_keys row few made p new, omega (arith, insert_longer (row_value row) (keys count before) new, many));
      full = tt;
    }
