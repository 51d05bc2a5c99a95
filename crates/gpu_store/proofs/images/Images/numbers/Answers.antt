use Rattle.std.proofs.Common.{ℕ, List, sym, ◌∙◌, subst, IsSome}
use Rattle.std.specs.List.{All}
use Rattle.gpu_store.specs.Images.{Pictures, picture_of}
use Rattle.gpu_store.proofs.images.Images.numbers.Goals as goal

-- the keys of the map are found in it, and the walk goes over these keys
pub returns-clause-found : goal.returns-clause-found
returns-clause-found c =
    let same = c.over.ensures ∙ c.keys.ensures.rest in
    let within = subst (λ (ids : List ℕ). All (λ (image : ℕ). IsSome (picture_of c.self.inside.images.entries image)) ids) (sym same) c.keys.ensures.found in
    subst (λ (images : Pictures). All (λ (image : ℕ). IsSome (picture_of images image)) c.over.result) c.self.view_is within
