-- What a customer asks for.
use mathlib.Core.Path.{refl}
use Rattle.claims_demands.specs.Corollaries.{TwoConsoles, Splitting}
use Rattle.claims_demands.proofs.Linked.{linked_unique}
use Rattle.claims_demands.proofs.Calls.{linked}

pub two_consoles : TwoConsoles
two_consoles score first last₁ last₂ calls₁ calls₂ answered₁ answered₂ turn₁ answers₁ turn₂ answers₂ same = (linked_unique (linked turn₁ answers₁) (linked turn₂ answers₂) refl same).0

pub splitting : Splitting
splitting score first last₁ last₂ calls₁ calls₂ answered₁ answered₂ turn₁ answers₁ turn₂ answers₂ same = (linked_unique (linked turn₁ answers₁) (linked turn₂ answers₂) refl same).1
