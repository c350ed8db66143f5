use Rattle.std.proofs.Common.{◌≡◌, ◌∙◌, ap, replicate, true, arith, rules}
use Rattle.std.proofs.lemmas.List.{length-take-le}
use Rattle.instant_store.proofs.Passes.{flooded}
use Rattle.instant_store.proofs.flood.Goals as goal

pub returns : goal.returns
returns c =
    let n = c.args.tokens in
    let store = c.args.store.now in
    let e : c.fill.new.self ≡ replicate n true = c.fill.ensures.after (λ y h. h) ∙ ap (λ k. replicate k true) (length-take-le n store (omega arith)) in
    rw e (flooded n store c.requires (search rules))
