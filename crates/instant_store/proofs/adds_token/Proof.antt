-- `adds_token`: the conclusion, and the premises only where it is not in.
use mathlib.Core.Path.{◌≡◌, ap, ◌∙◌}
use mathlib.Core.Bool.{Bool, true, false, ◌&&◌}
use mathlib.Core.List.{List}
use mathlib.Core.Logic.{⊎_elim}
use Prim.Native.Nat.{ℕ, ◌<◌}
use borrow.Author.Rules.{rules}
use native.Mathlib.Omega.{arith}
use lib.ListN.{get_or}
use Rattle.words.specs.Word.{field}
use Rattle.words.proofs.Field.{field_below}
use Rattle.format.specs.Format.{is_fact}
use Rattle.instant_store.specs.Passes.{adds}
use Rattle.instant_store.proofs.adds_token.Statement.{statement}
use Rattle.instant_store.proofs.adds_token.Tie as tie

-- Stations of the walk, each from a later place.
abbrev to_start : tie.Else-store-token → tie.Start
to_start c = c.before.before.before.before

abbrev to_conclusion : tie.Then-store-second → tie.Else-store-token
to_conclusion c = c.before.before.before.before.before.before

-- a field of 8 bits is the place of a flag
below_256 : (w lowest : ℕ) {n : ℕ} → n ≡ field w lowest 8 → n < 256
below_256 w lowest e = omega (arith, field_below w lowest 8)

-- a flag that was read, at the number of its place
flag : (s : List Bool) {n m : ℕ} {b : Bool} → n ≡ m → get_or s n false ≡ b → get_or s m false ≡ b
flag s e f = rw e at f

-- a rule by the flags of its conclusion and its premises
module _ (s : List Bool) (w : ℕ) (facts : Bool) where
  already_in : get_or s (field w 0 8) false ≡ true → false ≡ adds s w facts
  already_in e = rw e

  module _ (out : get_or s (field w 0 8) false ≡ false) where
    both_in : get_or s (field w 8 8) false ≡ true → get_or s (field w 16 8) false ≡ true → true ≡ adds s w facts
    both_in e f = rw (out, e, f)

    first_out : get_or s (field w 8 8) false ≡ false → (facts && is_fact w) ≡ adds s w facts
    first_out e = rw (out, e)

    second_out : get_or s (field w 8 8) false ≡ true → get_or s (field w 16 8) false ≡ false → (facts && is_fact w) ≡ adds s w facts
    second_out e f = rw (out, e, f)

number_requires : tie.Need-number-token-requires
number_requires c κs = search rules

element_copy_out_if1 : tie.Need-bounds-store-token
element_copy_out_if1 c = below_256 _ _ c.number-token.ensures

returns : tie.Need-returns-then-store-token
returns c =
    let b = c.before.before.before.before in
    already_in b.args.store.now b.args.w b.args.facts (flag b.args.store.now c.number-token.ensures c.if-store-token.true)

number_requires_2 : tie.Need-number-first-requires
number_requires_2 c κs = search rules

element_copy_out_if2 : tie.Need-bounds-store-first
element_copy_out_if2 c = below_256 _ _ c.number-first.ensures

number_requires_3 : tie.Need-number-second-requires
number_requires_3 c κs = search rules

element_copy_out_if3 : tie.Need-bounds-store-second
element_copy_out_if3 c = below_256 _ _ c.number-second.ensures

returns_2 : tie.Need-returns-then-store-second
returns_2 c =
    let at-conclusion = to_conclusion c in
    let b = to_start at-conclusion in
    let s = b.args.store.now in
    let second : c.number-second.result ≡ field b.args.w 16 8 = c.number-second.ensures in
    both_in s b.args.w b.args.facts
    (flag s at-conclusion.number-token.ensures at-conclusion.if-store-token.false)
    (flag s c.number-first.ensures c.if-store-first.true)
    (flag s second c.if-store-second.true)

is_fact_requires : tie.Need-is_fact-requires
is_fact_requires c κs = search rules

returns_3 : tie.Need-returns
returns_3 c =
    let at-conclusion = c.before.before.before.before in
    let b = to_start at-conclusion in
    let s = b.args.store.now in
    let out = flag s at-conclusion.number-token.ensures at-conclusion.if-store-token.false in
    let first = c.number-first.ensures in
    ap (λ x. b.args.facts && x) c.is_fact.ensures
    ∙ ⊎_elim
    (λ w. second_out s b.args.w b.args.facts out (flag s first w.if-store-first.true) (flag s w.number-second.ensures w.if-store-second.false))
    (λ w. first_out s b.args.w b.args.facts out (flag s first w.if-store-first.false))
    c.if-store-first.branch-raw

pub adds_token_spec : {M : Type 1} → statement M
adds_token_spec =
    tie.close
    (tie.spec
    number_requires
    element_copy_out_if1
    returns
    number_requires_2
    element_copy_out_if2
    number_requires_3
    element_copy_out_if3
    returns_2
    is_fact_requires
    returns_3)
