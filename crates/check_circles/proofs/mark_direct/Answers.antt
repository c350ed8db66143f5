-- `check_circles::mark_direct`: one row more; the rows past the slice are of no procedure.
use Rattle.std.proofs.Common.{◌≡◌, List, Bool, ℕ, ◌<◌, [], false, length, get_or, take, drop, length-append, length-drop, arith}
use Rattle.std.proofs.lemmas.List.{length-take, length-take-le, get_or_append_left}
use Rattle.laws.proofs.Lists.{filled_more}
use Rattle.tcc.specs.Score.{root_of}
use Rattle.tcc.specs.Unguarded.{Leads}
use Rattle.format.specs.declared.Sizes.{Sizes}
use Rattle.format.specs.Decode.{sizes, decode}
use Rattle.check_faults.specs.Faultless.{Faultless}
use Rattle.check_calls.specs.Calls.{Exactly}
use Rattle.check_circles.proofs.Circle.{roots_are, few_procedures, few_agents, root_below}
use Rattle.check_circles.proofs.mark_direct.Goals as goal

pub slice_bounds-row-items-end : goal.slice_bounds-row-items-end
slice_bounds-row-items-end c =
    few_procedures c.args.s.now c.requires.faultless c.args.head c.requires.head_value

root_within : (s : List ℕ) → Faultless s → (head : Sizes) → head ≡ sizes s → (rows : List (List Bool)) (p : ℕ) →
    p < length (take head.procedures rows) → root_of (decode s) p < head.agents
root_within s h head e rows p lt = root_below s h head e p (omega (arith, length-take head.procedures rows))

pub offset_bounds-sets-root_of : goal.offset_bounds-sets-root_of
offset_bounds-sets-root_of c =
    let within =
    root_within c.args.s.now c.requires.faultless c.args.head c.requires.head_value c.args.rows.now c.loop-p.p
    c.loop-p-test.true in
    omega (arith, few_agents c.args.s.now c.requires.faultless c.args.head c.requires.head_value)

pub bounds-sets-root_of : goal.bounds-sets-root_of
bounds-sets-root_of c =
    let within =
    root_within c.args.s.now c.requires.faultless c.args.head c.requires.head_value c.args.rows.now c.loop-p.p
    c.loop-p-test.true in
    omega arith

pub loop-p-preserved : goal.loop-p-preserved
loop-p-preserved c =
    let s = c.args.s.now in
    let items = c.loop-p.row-items in
    let p = c.loop-p.p in
    let within = root_within s c.requires.faultless c.args.head c.requires.head_value c.args.rows.now p c.loop-p-test.true in
    filled_more (λ j v. (q : ℕ) → q < 64 → Exactly (get_or v q false) (Leads (decode s) (root_of (decode s) j) q))
    items p _ [] (omega arith) c.loop-p.invariant
    (λ q le. rw (c.row_of.ensures q le, c.root_of.ensures) (c.requires.gathered.exact (root_of (decode s) p) q within le))

pub returns : goal.returns
returns c =
    let s = c.args.s.now in
    let h = c.requires.faultless in
    let head = c.args.head in
    let e = c.requires.head_value in
    let few = few_procedures s h head e in
    let n = head.procedures in
    let items = c.loop-p.row-items in
    let rows = c.args.rows.now in
    let long : length (take n rows) ≡ n = length-take-le n rows (omega arith) in
    record {
      long = omega (arith, length-append items (drop n rows), length-drop n rows);
      exact = λ p q lt le.
          let low : p < length items = omega (arith, roots_are s h head e) in
          rw (get_or_append_left items (drop n rows) [] p low) (c.loop-p.invariant p (omega arith) q le);
    }
